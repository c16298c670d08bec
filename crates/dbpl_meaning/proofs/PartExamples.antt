-- Parts of variables, computed from the rows, in a store in which the variable has parts that are known.
use Rattle.std.proofs.Common.{◌≡◌, ◌+◌, ◌∙◌, ℕ, pos, List, [], ◌∷◌, ap, refl}
use Rattle.std.specs.Fmt.{digits}
use Rattle.std.specs.Prelude.{codes}
use Rattle.dbpl_core.specs.Events.{Out}
use Rattle.dbpl_core.specs.Stores as stores
use Rattle.dbpl_core.specs.Stores.{Store}
use Rattle.dbpl_core.specs.declared.argument_of.CoreArgumentOf.TheVariants as arguments
use Rattle.dbpl_core.specs.declared.cell.Cell.TheVariants as cell
use Rattle.dbpl_core.specs.declared.designator_of.CoreDesignatorOf.{CoreDesignatorOf}
use Rattle.dbpl_core.specs.declared.expr.CoreExpr.{CoreExpr, roll-CoreExpr}
use Rattle.dbpl_core.specs.declared.expr.CoreExpr.TheOpen as exprs
use Rattle.dbpl_core.specs.declared.in_out_procedure.InOutProcedure.TheVariants as procedures
use Rattle.dbpl_core.specs.declared.program.Program.{Program}
use Rattle.dbpl_core.specs.declared.reference.Reference.{Reference}
use Rattle.dbpl_core.specs.declared.reference_root.ReferenceRoot.TheVariants as root
use Rattle.dbpl_core.specs.declared.root.Root.TheVariants as roots
use Rattle.dbpl_core.specs.declared.step_of.CoreStepOf.TheVariants as steps
use Rattle.dbpl_core.specs.declared.stmt.CoreStmtOf.{CoreStmtOf-F, roll-CoreStmtOf}
use Rattle.dbpl_core.specs.declared.stmt.CoreStmtOf.TheOpen as stmts
use Rattle.dbpl_meaning.proofs.Calling.{prints-runs}
use Rattle.dbpl_meaning.proofs.Examples.{Statement, card-range, cards, ended-comes, here, in_out-runs, literal, of-body, one-runs, opened, program_of, start-card, state_with, width, width-range}
use Rattle.dbpl_meaning.proofs.Running.{fits-runs, gives-runs, number-runs, number_of_card-runs, number_text-runs, of_card-runs, row-runs, spend-runs, then, value-runs}
use Rattle.dbpl_meaning.specs.Declared.{global_reference, started}
use Rattle.dbpl_meaning.specs.Expressions.{Calls, led_to, root_of, value_of}
use Rattle.dbpl_meaning.specs.InOut.{number_text}
use Rattle.dbpl_meaning.specs.Meaning.{Ended, calls_at, meaning}
use Rattle.dbpl_meaning.specs.State.{Done, State}
use Rattle.dbpl_meaning.specs.Statements.{does, of}
use Rattle.dbpl_meaning.specs.Words.{◌>>=◌, assigns, gives, kind_at, looks, replaces, spend, value_at, writes}
use Rattle.dbpl_value.proofs.TypeParts.{by_parts-out}
use Rattle.dbpl_value.specs.Values.{start_level, start_value_of}
use Rattle.dbpl_value.specs.declared.db_type.DbType.{DbType}
use Rattle.dbpl_value.specs.declared.db_type.DbType.TheVariants as kinds
use Rattle.dbpl_value.specs.declared.field.Field.{Field}
use Rattle.dbpl_value.specs.declared.step.Step.TheVariants as step
use Rattle.dbpl_value.specs.declared.value.Value.{Value}
use Rattle.dbpl_value.specs.declared.value.Value.TheVariants as value

abbrev one_set : CoreDesignatorOf CoreExpr → CoreStmtOf-F CoreExpr Statement
one_set part = stmts.Assign here part (roll-CoreExpr (exprs.Fitted here kinds.Card (literal 1)))

abbrev num : ℕ → Value
num n = value.Num (pos n)

-- ---- r.a := 1; WriteCard(r.a, 0), with r: RECORD a: CARDINAL END

abbrev a_field : List Field
a_field = record { name = codes "a"; kind = kinds.Card } ∷ []

abbrev r_a : CoreDesignatorOf CoreExpr
r_a = record { place = here; root = roots.Global (codes "M") (codes "r"); root_kind = kinds.Rec a_field; steps = steps.Field 0 ∷ [] }

abbrev a_read : CoreExpr
a_read = roll-CoreExpr (exprs.Read r_a kinds.Card)

abbrev a_written : CoreStmtOf-F CoreExpr Statement
a_written =
    stmts.InOut here procedures.WriteCard
    (arguments.Value (roll-CoreExpr (exprs.Fitted here kinds.Card a_read)) ∷
    arguments.Value (roll-CoreExpr (exprs.Fitted here width (literal 0))) ∷ [])

abbrev field_set : Program
field_set =
    program_of (record { name = codes "r"; kind = kinds.Rec a_field } ∷ []) []
    (roll-CoreStmtOf CoreExpr (one_set r_a) ∷ roll-CoreStmtOf CoreExpr a_written ∷ [])

abbrev field_calls : Calls
field_calls = calls_at field_set 9999

abbrev with_a : ℕ → Store
with_a n = record {
  globals = cell.Holds (kinds.Rec a_field) (value.Rec (num n ∷ [])) ∷ started kinds.Bool ∷ [];
  frames = [] ∷ [] ∷ [];
  database = [];
  input = [];
  events = [];
}

abbrev at_a : Reference
at_a = record { root = root.Global 0; path = step.Field 0 ∷ [] }

a-led : (left work n : ℕ) → led_to field_set (of field_set field_calls) r_a (state_with left work (with_a n)) ≡ Done at_a (state_with left (work + 1 + 1) (with_a n))
unfolding ◌>>=◌ spend gives
a-led left work n = refl

a-kind : (left work n : ℕ) → looks (kind_at at_a) (state_with left work (with_a n)) ≡ Done kinds.Card (state_with left work (with_a n))
unfolding looks
a-kind left work n = rw (kinds.outs-Rec a_field) refl

a-replaced : (left work n m : ℕ) → replaces at_a (num m) (state_with left work (with_a n)) ≡ Done (tt {0}) (state_with left work (with_a m))
unfolding replaces stores.puts
a-replaced left work n m = rw (value.outs-Rec (num n ∷ [])) refl

-- r.a is 1 afterwards
pub field_set-runs :
    (left work n : ℕ) →
    does field_set field_calls (roll-CoreStmtOf CoreExpr (one_set r_a)) (state_with left work (with_a n))
    ≡ Done (tt {0}) (state_with left (work + 1 + 1 + 1 + 1) (with_a 1))
unfolding assigns
field_set-runs left work n =
    row-runs field_set field_calls (one_set r_a) _ _
    (then _ _ _ _ _ _ (a-led left (work + 1) n)
    (then _ _ _ _ _ _ (fits-runs field_set field_calls here kinds.Card cards (literal 1) (pos 1) _ _ card-range refl (number_text-runs field_set field_calls here (pos 1) _))
    (then _ _ _ _ _ _ (a-kind left (work + 1 + 1 + 1 + 1) n)
    (then _ _ _ _ _ _ (of_card-runs (pos 1) _ refl) (a-replaced left (work + 1 + 1 + 1 + 1) n 1)))))

a-there : (left work n : ℕ) → value_at at_a (state_with left work (with_a n)) ≡ Done (num n) (state_with left work (with_a n))
unfolding value_at looks stores.reads
a-there left work n = rw (value.outs-Rec (num n ∷ [])) refl

-- the value of r.a is what stands there
pub field_read-runs :
    (left work n : ℕ) →
    value_of field_set field_calls (roll-CoreExpr (exprs.Read r_a kinds.Card)) (state_with left work (with_a n)) ≡ Done (num n) (state_with left (work + 1 + 1) (with_a n))
field_read-runs left work n =
    value-runs field_set field_calls (exprs.Read r_a kinds.Card) _ _ (then _ _ _ _ _ _ (a-led left work n) (a-there left (work + 1 + 1) n))

start-record : start_value_of (kinds.Rec a_field) ≡ value.Rec (num 0 ∷ [])
start-record = by_parts-out Value start_level (kinds.Rec a_field) ∙ rw (kinds.outs-Rec a_field) (ap (λ (v : Value). value.Rec (v ∷ [])) start-card)

field_set-begins : opened field_set [] 99 ≡ state_with 99 1 (with_a 0)
unfolding stores.opens
field_set-begins = rw start-record refl

one-text : number_text (pos 1) 0 ≡ 49 ∷ []
unfolding digits
one-text = refl

pub field_set-comes : meaning field_set [] [] 100 ≡ record { events = Out 49 ∷ []; stands = Ended; input = []; work = 18 }
unfolding stores.says
field_set-comes =
    of-body _ _ _ _ _ ∙
    ended-comes field_set _ [] 99 (state_with 98 18 (stores.says (49 ∷ []) (with_a 1)))
    (rw field_set-begins
    (then (does field_set field_calls (roll-CoreStmtOf CoreExpr (one_set r_a))) _ _ (state_with 99 5 (with_a 1)) _ _ (field_set-runs 99 1 0)
    (one-runs field_set field_calls a_written _ _
    (then _ _ _ _ _ _
    (then _ _ _ _ _ _
    (then _ _ _ _ _ _ (fits-runs field_set field_calls here kinds.Card cards a_read (pos 1) _ _ card-range refl (field_read-runs 99 6 1)) (gives-runs _ _))
    (then _ _ _ _ _ _
    (then _ _ _ _ _ _
    (then _ _ _ _ _ _ (fits-runs field_set field_calls here width _ (literal 0) (pos 0) _ _ width-range refl (number_text-runs field_set field_calls here (pos 0) _)) (gives-runs _ _))
    (then _ _ _ _ _ _ (gives-runs _ _) (gives-runs _ _)))
    (gives-runs _ _)))
    (in_out-runs field_set here _ _ _ 98 refl
    (then _ _ _ _ (pos 1) _ (number_of_card-runs (pos 1) _ refl)
    (then _ _ _ _ (pos 0) _ (number_of_card-runs (pos 0) _ refl)
    (ap (λ (bytes : List ℕ). writes bytes (state_with 98 10 (with_a 1))) one-text ∙ prints-runs (49 ∷ []) 98 10 (with_a 1)))))))))

-- ---- a[1] := 1, with a: ARRAY [1 .. 3] OF CARDINAL

abbrev array : DbType
array = kinds.Arr (kinds.Sub kinds.Card (pos 1) (pos 3)) kinds.Card

abbrev a_1 : CoreDesignatorOf CoreExpr
a_1 = record {
  place = here;
  root = roots.Global (codes "M") (codes "a");
  root_kind = array;
  steps = steps.Index here (record { least = pos 1; greatest = pos 3 }) (literal 1) ∷ [];
}

abbrev element_set : Program
element_set = program_of (record { name = codes "a"; kind = array } ∷ []) [] (roll-CoreStmtOf CoreExpr (one_set a_1) ∷ [])

abbrev element_calls : Calls
element_calls = calls_at element_set 9999

abbrev with_elements : ℕ → ℕ → ℕ → Store
with_elements n m k = record {
  globals = cell.Holds array (value.Arr (num n ∷ num m ∷ num k ∷ [])) ∷ started kinds.Bool ∷ [];
  frames = [] ∷ [] ∷ [];
  database = [];
  input = [];
  events = [];
}

abbrev at_first : Reference
at_first = record { root = root.Global 0; path = step.Index 0 ∷ [] }

array-root : (state : State) → root_of element_set a_1.root state ≡ Done (global_reference 0) state
unfolding ◌>>=◌ gives
array-root state = refl

first-led :
    (left work : ℕ) (store : Store) →
    led_to element_set (of element_set element_calls) a_1 (state_with left work store) ≡ Done at_first (state_with left (work + 1 + 1 + 1) store)
first-led left work store =
    then _ _ _ _ _ _ (spend-runs 1 _)
    (then _ _ _ _ _ _ (array-root _)
    (then _ _ _ _ _ _
    (then _ _ _ _ _ _
    (then _ _ _ _ _ _ (spend-runs 1 _)
    (then _ _ _ _ _ _ (number_text-runs element_set element_calls here (pos 1) _)
    (then _ _ _ _ _ _ (number-runs (pos 1) _)
    (then _ _ _ _ _ _ (gives-runs (pos 1) _) (gives-runs _ _)))))
    (then _ _ _ _ _ _ (gives-runs [] _) (gives-runs _ _)))
    (gives-runs _ _)))

first-kind : (left work n m k : ℕ) → looks (kind_at at_first) (state_with left work (with_elements n m k)) ≡ Done kinds.Card (state_with left work (with_elements n m k))
unfolding looks
first-kind left work n m k = rw (kinds.outs-Arr (kinds.Sub kinds.Card (pos 1) (pos 3)) kinds.Card) refl

first-replaced :
    (left work n m k j : ℕ) →
    replaces at_first (num j) (state_with left work (with_elements n m k)) ≡ Done (tt {0}) (state_with left work (with_elements j m k))
unfolding replaces stores.puts
first-replaced left work n m k j = rw (value.outs-Arr (num n ∷ num m ∷ num k ∷ [])) refl

-- a[1] is 1 afterwards, and the others are as they were
pub element_set-runs :
    (left work n m k : ℕ) →
    does element_set element_calls (roll-CoreStmtOf CoreExpr (one_set a_1)) (state_with left work (with_elements n m k))
    ≡ Done (tt {0}) (state_with left (work + 1 + 1 + 1 + 1 + 1) (with_elements 1 m k))
unfolding assigns
element_set-runs left work n m k =
    row-runs element_set element_calls (one_set a_1) _ _
    (then _ _ _ _ _ _ (first-led left (work + 1) (with_elements n m k))
    (then _ _ _ _ _ _ (fits-runs element_set element_calls here kinds.Card cards (literal 1) (pos 1) _ _ card-range refl (number_text-runs element_set element_calls here (pos 1) _))
    (then _ _ _ _ _ _ (first-kind left (work + 1 + 1 + 1 + 1 + 1) n m k)
    (then _ _ _ _ _ _ (of_card-runs (pos 1) _ refl) (first-replaced left (work + 1 + 1 + 1 + 1 + 1) n m k 1)))))
