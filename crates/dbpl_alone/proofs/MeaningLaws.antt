-- What a module comes to: with a turn for its body and one for each statement it ends and has printed all, and more
-- turns than some only add events.
use Rattle.std.proofs.Common.{◌≡◌, ◌∙◌, ℕ, ◌+◌, suc, List, [], ◌∷◌, ◌++◌, ap, append_assoc, arith, map, refl, sym}
use Rattle.std.proofs.lemmas.List.{append-nil, map-append}
use Rattle.std.specs.List.{flat_map}
use Rattle.dbpl_alone.specs.Meaning.{module_doing, module_meaning, printed_by, statement_meaning}
use Rattle.dbpl_core.specs.Events.{Commit, Event, Out, last}
use Rattle.dbpl_core.specs.Outcomes.{Ended, IsSteady as IsSteadyMeaning, MayHaveMade, Outcome}
use Rattle.dbpl_stored_program.proofs.Steady.{GoesOn, IsSteady, outcomes, steady_block, steady_makes, steady_turn}
use Rattle.dbpl_stored_program.specs.Meaning.{◌>>=◌, Done, State, block, gives, makes, outcome_of, turn}
use Rattle.dbpl_alone.specs.declared.program.Program.{Program}
use Rattle.dbpl_alone.specs.declared.statement.Statement.{Statement}
use Rattle.dbpl_value.specs.declared.bound.Bound.{Bound}

-- the events of these bytes
abbrev pub outs : List ℕ → List Event
outs bytes = map Out bytes

-- the turns that these statements use up, and so many more
abbrev turns_for : List Statement → ℕ → ℕ
turns_for [] others = others
turns_for (statement ∷ statements) others = suc (turns_for statements others)

-- all that the module prints
abbrev pub printed : Program → List ℕ
printed program = flat_map printed_by program.statements

-- with the turns that they use up, statements print all that they print, and go on
block_goes : (statements : List Statement) (others : ℕ) (input : List ℕ) (events : List Event) →
    block (map statement_meaning statements) (record { left = turns_for statements others; database = []; input = input; events = events })
    ≡ Done (tt {0}) (record { left = others; database = []; input = input; events = events ++ outs (flat_map printed_by statements) })
unfolding ◌>>=◌ gives turn makes
block_goes [] others input events = ap (λ (es : List Event). Done (tt {0}) (record { left = others; database = []; input = input; events = es })) (sym (append-nil events))
block_goes (statement ∷ statements) others input events =
    block_goes statements others input (events ++ outs (printed_by statement))
    ∙ ap (λ (es : List Event). Done (tt {0}) (record { left = others; database = []; input = input; events = es }))
    (append_assoc events (outs (printed_by statement)) (outs (flat_map printed_by statements))
    ∙ ap (λ (es : List Event). events ++ es) (sym (map-append Out (printed_by statement) (flat_map printed_by statements))))

-- so many turns suffice
abbrev pub enough : Program → ℕ
enough program = suc (turns_for program.statements 0)

-- within them the module ends and has made the events of all that it prints
pub whole : (program : Program) (input : List ℕ) →
    module_meaning program input (enough program) ≡ record { events = outs (printed program); stands = Ended; left = input }
unfolding module_meaning turn
whole program input = ap outcome_of (block_goes program.statements 0 input [])

-- what prints a front of that may have been made
pub may_print : (program : Program) (input came behind : List ℕ) → printed program ≡ came ++ behind →
    MayHaveMade (module_meaning program input) (outs came)
may_print program input came behind split = (
  enough program,
  (outs behind, ap (λ (outcome : Outcome). outcome.events) (whole program input) ∙ (ap outs split ∙ map-append Out came behind)),
)

-- ---- more turns

steady_statement : (statement : Statement) → IsSteady (statement_meaning statement)
steady_statement statement = steady_turn _ (steady_makes _)

steady_body : (program : Program) → IsSteady (module_doing program)
steady_body program = steady_turn _ (steady_block statement_meaning program.statements steady_statement)

goes_on : (program : Program) (input : List ℕ) (turns others further : ℕ) → further ≡ turns + others →
    GoesOn (module_meaning program input turns) (module_meaning program input further)
unfolding module_meaning
goes_on program input turns others further e =
    let start : State = record { left = turns; database = []; input = input; events = [] } in
    outcomes others (module_doing program start) (module_doing program (record start { left = further }))
    ((steady_body program).on others further start e)

pub module_steady : (program : Program) (input : List ℕ) → IsSteadyMeaning (module_meaning program input)
module_steady program input = record {
  extends = λ turns others.
      let on = goes_on program input turns others (turns + others) refl in (on.extends.rest, on.extends.is);
  stays = λ turns others ended. (goes_on program input turns others (turns + others) refl).stays ended;
}

-- ---- no commits

-- what is a front of prints leaves the database
last_front : (bytes : List ℕ) (made rest : List Event) (database : List Bound) → outs bytes ≡ made ++ rest → last made database ≡ database
last_front bytes [] rest database is = refl
last_front [] (event ∷ made) rest database is = absurd (cc)
last_front (byte ∷ bytes) (Out other ∷ made) rest database is =
    let behind : outs bytes ≡ made ++ rest = cc in last_front bytes made rest database behind
last_front (byte ∷ bytes) (Commit committed ∷ made) rest database is = absurd (cc)

pub last_outs : (bytes : List ℕ) (database : List Bound) → last (outs bytes) database ≡ database
last_outs bytes database = last_front bytes (outs bytes) [] database (sym (append-nil (outs bytes)))

pub commits_nothing : (program : Program) (input : List ℕ) (turns : ℕ) (database : List Bound) →
    last (module_meaning program input turns).events database ≡ database
commits_nothing program input turns database =
    let further : ℕ = turns + enough program in
    let order : further ≡ enough program + turns = omega arith in
    let less = goes_on program input turns (enough program) further refl in
    let same = (goes_on program input (enough program) turns further order).stays
    (λ going. cc (ap (λ (outcome : Outcome). outcome.stands) (whole program input), going)) in
    let all = ap (λ (outcome : Outcome). outcome.events) (same ∙ whole program input) in
    last_front (printed program) (module_meaning program input turns).events less.extends.rest database (sym all ∙ less.extends.is)
