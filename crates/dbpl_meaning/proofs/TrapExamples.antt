-- Small programs that trap, computed from the rows, with the place of the trap and the work up to it.
use Rattle.std.proofs.Common.{◌≡◌, ◌+◌, ◌∙◌, ℕ, ℤ, pos, negsuc, true, [], ◌∷◌, Some, None, refl}
use Rattle.std.specs.Prelude.{codes}
use Rattle.dbpl_base.specs.declared.place.Place.{Place}
use Rattle.dbpl_core.specs.Stores as stores
use Rattle.dbpl_core.specs.Stores.{Store, first_store}
use Rattle.dbpl_core.specs.declared.cell.Cell.TheVariants as cell
use Rattle.dbpl_core.specs.declared.designator_of.CoreDesignatorOf.{CoreDesignatorOf}
use Rattle.dbpl_core.specs.declared.expr.CoreExpr.{CoreExpr, roll-CoreExpr}
use Rattle.dbpl_core.specs.declared.expr.CoreExpr.TheOpen as exprs
use Rattle.dbpl_core.specs.declared.program.Program.{Program}
use Rattle.dbpl_core.specs.declared.root.Root.TheVariants as roots
use Rattle.dbpl_core.specs.declared.sign.Sign.TheVariants as signs
use Rattle.dbpl_core.specs.declared.step_of.CoreStepOf.TheVariants as steps
use Rattle.dbpl_core.specs.declared.stmt.CoreStmtOf.{CoreStmtOf-F, roll-CoreStmtOf}
use Rattle.dbpl_core.specs.declared.stmt.CoreStmtOf.TheOpen as stmts
use Rattle.dbpl_core.specs.declared.whole_host.WholeHost.TheVariants as hosts
use Rattle.dbpl_meaning.proofs.Examples.{Statement, c_named, c_read, card-range, cards, literal, of-body, here, program_of, state_with, trap-comes}
use Rattle.dbpl_meaning.proofs.Running.{after, exact-runs, fits-runs, gives-runs, number-runs, number_text-runs, of_card-runs, row-runs, spend-runs, stopped, then, value-runs}
use Rattle.dbpl_meaning.specs.Declared.{global_reference, started}
use Rattle.dbpl_meaning.specs.Expressions.{Calls, led_to, root_of, value_of}
use Rattle.dbpl_meaning.specs.Meaning.{Trapped, calls_at, meaning}
use Rattle.dbpl_meaning.specs.Numbers.{in_host, within}
use Rattle.dbpl_meaning.specs.State as phrase
use Rattle.dbpl_meaning.specs.State.{Doing, Done, State, Stops}
use Rattle.dbpl_meaning.specs.Statements.{does, of}
use Rattle.dbpl_meaning.specs.Words.{◌>>=◌, assigns, block, gives, looks, nothing, of_type, replaces, spend, stops, trap, value_at}
use Rattle.dbpl_value.proofs.ValuesLemmas.{is_of-out}
use Rattle.dbpl_value.specs.Types.{is_in, range_of}
use Rattle.dbpl_value.specs.Values.{is_of, start_value_of}
use Rattle.dbpl_value.specs.declared.db_type.DbType.{DbType}
use Rattle.dbpl_value.specs.declared.db_type.DbType.TheVariants as kinds
use Rattle.dbpl_value.specs.declared.range.Range.{Range}
use Rattle.dbpl_value.specs.declared.value.Value.{Value}
use Rattle.dbpl_value.specs.declared.value.Value.TheVariants as value

-- where the trap stands
abbrev pub q : Place
q = record { unit = 0; line = 1; col = 9 }

-- a body of two statements, of which the second stops
second-stops :
    (program : Program) (calls : Calls) (x y : CoreStmtOf-F CoreExpr Statement) (state between last : State) (stop : phrase.Stop) →
    does program calls (roll-CoreStmtOf CoreExpr x) state ≡ Done (tt {0}) between →
    does program calls (roll-CoreStmtOf CoreExpr y) between ≡ Stops stop last →
    block (does program calls) (roll-CoreStmtOf CoreExpr x ∷ roll-CoreStmtOf CoreExpr y ∷ []) state ≡ Stops stop last
second-stops program calls x y state between last stop one other =
    then (does program calls (roll-CoreStmtOf CoreExpr x)) _ _ _ _ _ one
    (stopped (does program calls (roll-CoreStmtOf CoreExpr y)) (λ _. nothing) between last stop other)

-- ---- c := 4; a[c] := 1, with a an ARRAY [1 .. 3] OF CARDINAL

abbrev array : DbType
array = kinds.Arr (kinds.Sub kinds.Card (pos 1) (pos 3)) kinds.Card

abbrev a_c : CoreDesignatorOf CoreExpr
a_c = record {
  place = here;
  root = roots.Global (codes "M") (codes "a");
  root_kind = array;
  steps = steps.Index q (record { least = pos 1; greatest = pos 3 }) c_read ∷ [];
}

abbrev c_set : CoreStmtOf-F CoreExpr Statement
c_set = stmts.Assign here c_named (roll-CoreExpr (exprs.Fitted here kinds.Card (literal 4)))

abbrev a_set : CoreStmtOf-F CoreExpr Statement
a_set = stmts.Assign here a_c (roll-CoreExpr (exprs.Fitted here kinds.Card (literal 1)))

abbrev indexing : Program
indexing =
    program_of (record { name = codes "c"; kind = kinds.Card } ∷ record { name = codes "a"; kind = array } ∷ []) []
    (roll-CoreStmtOf CoreExpr c_set ∷ roll-CoreStmtOf CoreExpr a_set ∷ [])

abbrev index_calls : Calls
index_calls = calls_at indexing 9999

abbrev with_c : Value → Store
with_c v = record {
  globals = cell.Holds kinds.Card v ∷ started array ∷ started kinds.Bool ∷ [];
  frames = [] ∷ [] ∷ [];
  database = [];
  input = [];
  events = [];
}

four-gets :
    (v : Value) (left work : ℕ) →
    assigns (global_reference 0) (value.Num (pos 4)) (state_with left work (with_c v)) ≡ Done (tt {0}) (state_with left work (with_c (value.Num (pos 4))))
unfolding assigns looks replaces stores.puts
four-gets v left work = then _ _ _ _ _ _ refl (then _ _ _ _ _ _ (of_card-runs (pos 4) _ refl) refl)

c-led : (state : State) → led_to indexing (of indexing index_calls) c_named state ≡ Done (global_reference 0) (after 1 state)
unfolding ◌>>=◌ spend gives
c-led state = refl

c_set-runs :
    (v : Value) (left work : ℕ) →
    does indexing index_calls (roll-CoreStmtOf CoreExpr c_set) (state_with left work (with_c v))
    ≡ Done (tt {0}) (state_with left (work + 1 + 1 + 1) (with_c (value.Num (pos 4))))
c_set-runs v left work =
    row-runs indexing index_calls c_set _ _
    (then _ _ _ _ _ _ (c-led _)
    (then _ _ _ _ _ _ (fits-runs indexing index_calls here kinds.Card cards (literal 4) (pos 4) _ _ card-range refl (number_text-runs indexing index_calls here (pos 4) _))
    (four-gets v left (work + 1 + 1 + 1))))

four-read :
    (left work : ℕ) →
    value_of indexing index_calls c_read (state_with left work (with_c (value.Num (pos 4)))) ≡ Done (value.Num (pos 4)) (state_with left (work + 1) (with_c (value.Num (pos 4))))
unfolding value_at looks stores.reads
four-read left work = value-runs indexing index_calls (exprs.Read c_named kinds.Card) _ _ (then _ _ _ _ _ _ (c-led _) refl)

a-root : (state : State) → root_of indexing a_c.root state ≡ Done (global_reference 1) state
unfolding ◌>>=◌ gives
a-root state = refl

beyond-traps : (state : State) → within (record { least = pos 1; greatest = pos 3 }) 4 q (pos 4) state ≡ Stops (phrase.Trapped (trap 4 q)) state
unfolding stops
beyond-traps state = refl

index-stops :
    (left work : ℕ) →
    led_to indexing (of indexing index_calls) a_c (state_with left work (with_c (value.Num (pos 4))))
    ≡ Stops (phrase.Trapped (trap 4 q)) (state_with left (work + 1 + 1 + 1) (with_c (value.Num (pos 4))))
index-stops left work =
    then _ _ _ _ _ _ (spend-runs 1 _)
    (then _ _ _ _ _ _ (a-root _)
    (stopped _ _ _ _ _
    (stopped _ _ _ _ _
    (then _ _ _ _ _ _ (spend-runs 1 _)
    (then _ _ _ _ _ _ (four-read left (work + 1 + 1))
    (then _ _ _ _ _ _ (number-runs (pos 4) _)
    (stopped _ _ _ _ _ (beyond-traps _))))))))

pub indexing-comes :
    meaning indexing [] [] 100 ≡ record { events = []; stands = Trapped (trap 4 q); input = []; work = 8 }
unfolding stores.opens
indexing-comes =
    of-body _ _ _ _ _ ∙
    trap-comes indexing _ [] 99 _ (state_with 99 8 (with_c (value.Num (pos 4))))
    (second-stops indexing index_calls c_set a_set _ _ _ _ (c_set-runs (start_value_of kinds.Card) 99 1)
    (row-runs indexing index_calls a_set _ _ (stopped _ _ _ _ _ (index-stops 99 5))))

-- ---- i := -2147483648; i := -i

abbrev pub ints : Range
ints = record { least = negsuc 2147483647; greatest = pos 2147483647 }

abbrev least_int : ℤ
least_int = negsuc 2147483647

pub int-range : range_of kinds.Int ≡ Some ints
int-range = rw kinds.outs-Int refl

int-of : (n : ℤ) → is_of kinds.Int (value.Num n) ≡ is_in ints n
int-of n = is_of-out kinds.Int (value.Num n) ∙ rw (kinds.outs-Int, value.outs-Num n) refl

pub of_int-runs : (n : ℤ) (state : State) → is_in ints n ≡ true → of_type kinds.Int (value.Num n) state ≡ Done (value.Num n) state
unfolding gives
of_int-runs n state lies = rw (int-of n, lies) refl

abbrev pub i_named : CoreDesignatorOf CoreExpr
i_named = record { place = here; root = roots.Global (codes "M") (codes "i"); root_kind = kinds.Int; steps = [] }

abbrev least_written : CoreExpr
least_written = roll-CoreExpr (exprs.Signed here signs.Minus None (literal 2147483648))

abbrev i_read : CoreExpr
i_read = roll-CoreExpr (exprs.Read i_named kinds.Int)

abbrev i_negative : CoreExpr
i_negative = roll-CoreExpr (exprs.Signed q signs.Minus (Some hosts.Integer) i_read)

abbrev i_set : CoreStmtOf-F CoreExpr Statement
i_set = stmts.Assign here i_named (roll-CoreExpr (exprs.Fitted here kinds.Int least_written))

abbrev i_turned : CoreStmtOf-F CoreExpr Statement
i_turned = stmts.Assign here i_named (roll-CoreExpr (exprs.Fitted q kinds.Int i_negative))

abbrev turning : Program
turning = program_of (record { name = codes "i"; kind = kinds.Int } ∷ []) [] (roll-CoreStmtOf CoreExpr i_set ∷ roll-CoreStmtOf CoreExpr i_turned ∷ [])

abbrev turn_calls : Calls
turn_calls = calls_at turning 9999

abbrev with_i : Value → Store
with_i v = record {
  globals = cell.Holds kinds.Int v ∷ started kinds.Bool ∷ [];
  frames = [] ∷ [] ∷ [];
  database = [];
  input = [];
  events = [];
}

i-led : (state : State) → led_to turning (of turning turn_calls) i_named state ≡ Done (global_reference 0) (after 1 state)
unfolding ◌>>=◌ spend gives
i-led state = refl

i-gets :
    (v : Value) (left work : ℕ) →
    assigns (global_reference 0) (value.Num least_int) (state_with left work (with_i v)) ≡ Done (tt {0}) (state_with left work (with_i (value.Num least_int)))
unfolding assigns looks replaces stores.puts
i-gets v left work = then _ _ _ _ _ _ refl (then _ _ _ _ _ _ (of_int-runs least_int _ refl) refl)

least-runs :
    (left work : ℕ) (store : Store) →
    value_of turning turn_calls least_written (state_with left work store) ≡ Done (value.Num least_int) (state_with left (work + 1 + 1) store)
least-runs left work store =
    value-runs turning turn_calls (exprs.Signed here signs.Minus None (literal 2147483648)) _ _
    (then _ _ _ _ _ _ (spend-runs 1 _)
    (then _ _ _ _ _ _ (number_text-runs turning turn_calls here (pos 2147483648) _)
    (then _ _ _ _ _ _ (number-runs (pos 2147483648) _)
    (then _ _ _ _ _ _ (exact-runs least_int _ refl) (gives-runs _ _)))))

i_set-runs :
    (v : Value) → does turning turn_calls (roll-CoreStmtOf CoreExpr i_set) (state_with 99 1 (with_i v)) ≡ Done (tt {0}) (state_with 99 5 (with_i (value.Num least_int)))
i_set-runs v =
    row-runs turning turn_calls i_set _ _
    (then _ _ _ _ _ _ (i-led _)
    (then _ _ _ _ _ _ (fits-runs turning turn_calls here kinds.Int ints least_written least_int _ _ int-range refl (least-runs 99 3 (with_i v)))
    (i-gets v 99 5)))

i-reads : (left work : ℕ) → value_of turning turn_calls i_read (state_with left work (with_i (value.Num least_int))) ≡ Done (value.Num least_int) (state_with left (work + 1) (with_i (value.Num least_int)))
unfolding value_at looks stores.reads
i-reads left work = value-runs turning turn_calls (exprs.Read i_named kinds.Int) _ _ (then _ _ _ _ _ _ (i-led _) refl)

too_great-traps : (state : State) → in_host (Some hosts.Integer) q (pos 2147483648) state ≡ Stops (phrase.Trapped (trap 1 q)) state
unfolding ◌>>=◌ gives stops
too_great-traps state = rw int-range refl

negative-stops :
    value_of turning turn_calls i_negative (state_with 99 7 (with_i (value.Num least_int)))
    ≡ Stops (phrase.Trapped (trap 1 q)) (state_with 99 9 (with_i (value.Num least_int)))
negative-stops =
    value-runs turning turn_calls (exprs.Signed q signs.Minus (Some hosts.Integer) i_read) _ _
    (then _ _ _ _ _ _ (spend-runs 1 _)
    (then _ _ _ _ _ _ (i-reads 99 8)
    (then _ _ _ _ _ _ (number-runs least_int _)
    (stopped _ _ _ _ _ (too_great-traps _)))))

pub turning-comes : meaning turning [] [] 100 ≡ record { events = []; stands = Trapped (trap 1 q); input = []; work = 9 }
unfolding stores.opens
turning-comes =
    of-body _ _ _ _ _ ∙
    trap-comes turning _ [] 99 _ (state_with 99 9 (with_i (value.Num least_int)))
    (second-stops turning turn_calls i_set i_turned _ _ _ _ (i_set-runs (start_value_of kinds.Int))
    (row-runs turning turn_calls i_turned _ _
    (then _ _ _ _ _ _ (i-led _)
    (stopped _ _ _ _ _
    (value-runs turning turn_calls (exprs.Fitted q kinds.Int i_negative) _ _ (stopped _ _ _ _ _ negative-stops))))))
