-- t := c, where c is 0 and t is of the type [1 .. 9], computed from the rows: trap 3 at the right side, whose place this is.
use Rattle.std.proofs.Common.{◌≡◌, ◌∙◌, pos, [], ◌∷◌, Some, refl}
use Rattle.std.specs.Prelude.{codes}
use Rattle.dbpl_core.specs.Stores as stores
use Rattle.dbpl_core.specs.Stores.{Store}
use Rattle.dbpl_core.specs.declared.cell.Cell.TheVariants as cell
use Rattle.dbpl_core.specs.declared.designator_of.CoreDesignatorOf.{CoreDesignatorOf}
use Rattle.dbpl_core.specs.declared.expr.CoreExpr.{CoreExpr, roll-CoreExpr}
use Rattle.dbpl_core.specs.declared.expr.CoreExpr.TheOpen as exprs
use Rattle.dbpl_core.specs.declared.program.Program.{Program}
use Rattle.dbpl_core.specs.declared.root.Root.TheVariants as roots
use Rattle.dbpl_core.specs.declared.stmt.CoreStmtOf.{CoreStmtOf-F, roll-CoreStmtOf}
use Rattle.dbpl_core.specs.declared.stmt.CoreStmtOf.TheOpen as stmts
use Rattle.dbpl_meaning.proofs.Examples.{Statement, c_named, c_read, here, of-body, opened, program_of, start-card, state_with, trap-comes}
use Rattle.dbpl_meaning.proofs.Running.{after, number-runs, row-runs, stopped, then, value-runs}
use Rattle.dbpl_meaning.proofs.TrapExamples.{q}
use Rattle.dbpl_meaning.specs.Declared.{global_reference, started}
use Rattle.dbpl_meaning.specs.Expressions.{Calls, led_to, value_of}
use Rattle.dbpl_meaning.specs.Meaning.{Trapped, calls_at, meaning}
use Rattle.dbpl_meaning.specs.Numbers.{fitted}
use Rattle.dbpl_meaning.specs.State as phrase
use Rattle.dbpl_meaning.specs.State.{Done, State, Stops}
use Rattle.dbpl_meaning.specs.Statements.{does, of}
use Rattle.dbpl_meaning.specs.Words.{◌>>=◌, block, gives, looks, nothing, spend, stops, trap, value_at}
use Rattle.dbpl_value.specs.Types.{range_of}
use Rattle.dbpl_value.specs.declared.db_type.DbType.{DbType}
use Rattle.dbpl_value.specs.declared.db_type.DbType.TheVariants as kinds
use Rattle.dbpl_value.specs.declared.value.Value.TheVariants as value

abbrev one_to_nine : DbType
one_to_nine = kinds.Sub kinds.Card (pos 1) (pos 9)

nine-range : range_of one_to_nine ≡ Some (record { least = pos 1; greatest = pos 9 })
nine-range = rw (kinds.outs-Sub kinds.Card (pos 1) (pos 9)) refl

abbrev t_named : CoreDesignatorOf CoreExpr
t_named = record { place = here; root = roots.Global (codes "M") (codes "t"); root_kind = one_to_nine; steps = [] }

abbrev t_set : CoreStmtOf-F CoreExpr Statement
t_set = stmts.Assign here t_named (roll-CoreExpr (exprs.Fitted q one_to_nine c_read))

abbrev fitting : Program
fitting =
    program_of (record { name = codes "c"; kind = kinds.Card } ∷ record { name = codes "t"; kind = one_to_nine } ∷ []) []
    (roll-CoreStmtOf CoreExpr t_set ∷ [])

abbrev fit_calls : Calls
fit_calls = calls_at fitting 9999

abbrev fit_store : Store
fit_store = record {
  globals = cell.Holds kinds.Card (value.Num (pos 0)) ∷ started one_to_nine ∷ started kinds.Bool ∷ [];
  frames = [] ∷ [] ∷ [];
  database = [];
  input = [];
  events = [];
}

fit_begins : opened fitting [] 99 ≡ state_with 99 1 fit_store
unfolding stores.opens
fit_begins = rw start-card refl

c-led : (state : State) → led_to fitting (of fitting fit_calls) c_named state ≡ Done (global_reference 0) (after 1 state)
unfolding ◌>>=◌ spend gives
c-led state = refl

t-led : (state : State) → led_to fitting (of fitting fit_calls) t_named state ≡ Done (global_reference 1) (after 1 state)
unfolding ◌>>=◌ spend gives
t-led state = refl

zero-read : value_of fitting fit_calls c_read (state_with 99 3 fit_store) ≡ Done (value.Num (pos 0)) (state_with 99 4 fit_store)
unfolding value_at looks stores.reads
zero-read = value-runs fitting fit_calls (exprs.Read c_named kinds.Card) _ _ (then _ _ _ _ _ _ (c-led _) refl)

zero-traps : (state : State) → fitted one_to_nine q (pos 0) state ≡ Stops (phrase.Trapped (trap 3 q)) state
unfolding ◌>>=◌ gives stops
zero-traps state = rw nine-range refl

fit-stops : block (does fitting fit_calls) (roll-CoreStmtOf CoreExpr t_set ∷ []) (opened fitting [] 99) ≡ Stops (phrase.Trapped (trap 3 q)) (state_with 99 4 fit_store)
fit-stops =
    rw fit_begins
    (stopped (does fitting fit_calls (roll-CoreStmtOf CoreExpr t_set)) (λ _. nothing) _ _ _
    (row-runs fitting fit_calls t_set _ _
    (then _ _ _ _ _ _ (t-led _)
    (stopped _ _ _ _ _
    (value-runs fitting fit_calls (exprs.Fitted q one_to_nine c_read) _ _
    (then _ _ _ _ _ _ zero-read
    (then _ _ _ _ _ _ (number-runs (pos 0) _) (stopped _ _ _ _ _ (zero-traps _)))))))))

pub fitting-comes : meaning fitting [] [] 100 ≡ record { events = []; stands = Trapped (trap 3 q); input = []; work = 4 }
fitting-comes = of-body _ _ _ _ _ ∙ trap-comes fitting _ [] 99 _ (state_with 99 4 fit_store) fit-stops
