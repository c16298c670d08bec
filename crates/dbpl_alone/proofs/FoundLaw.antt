-- The tree of a module that prints lines is found to be that module.
use Rattle.std.proofs.Common.{◌≡◌, ◌≢◌, List, [], ◌∷◌, Some, None, map, refl}
use Rattle.dbpl_base.specs.declared.place.Place.{Place}
use Rattle.dbpl_alone.proofs.Tests.{bytes_same, imported_unlike}
use Rattle.dbpl_alone.specs.Program.{IsSmall}
use Rattle.dbpl_alone.specs.Small.{small_body, small_of, small_statement, small_statements}
use Rattle.dbpl_alone.specs.Units.{statement_of, statements_of, string, unit_of}
use Rattle.dbpl_alone.specs.declared.program.Program.{Program}
use Rattle.dbpl_alone.specs.declared.statement.Statement.{Statement as Small}
use Rattle.dbpl_alone.specs.declared.statement.Statement.TheVariants.{WriteLn, WriteString}
use Rattle.dbpl_tree.specs.Words.{in_out, write_ln, write_string}
use Rattle.dbpl_tree.specs.declared.factor.Factor.TheVariants as factors
use Rattle.dbpl_tree.specs.declared.statement.Statement.TheVariants as statements

module _ (place : Place) where
  statement-found : (s : Small) → small_statement (statement_of place s) ≡ Some s
  statement-found WriteLn =
      rw (statements.outs-Call (record { head = record { place = place; name = write_ln }; parts = [] }) None, bytes_same write_ln) refl
  statement-found (WriteString text) =
      rw (statements.outs-Call (record { head = record { place = place; name = write_string }; parts = [] }) (Some (record { place = place; exprs = Some (record { first = string place text; others = [] }) })), bytes_same write_string, factors.outs-Text place text) refl

  others-found : (ss : List Small) → small_statements (map (statement_of place) ss) ≡ Some ss
  others-found [] = refl
  others-found (s ∷ ss) = rw (statement-found s, others-found ss) refl

  body-found : (ss : List Small) → ss ≢ [] → small_body (Some (statements_of place ss)) ≡ Some ss
  body-found [] some = absurd (some refl)
  body-found (s ∷ ss) some = others-found (s ∷ ss)

  pub unit-found : (program : Program) → IsSmall program → small_of (unit_of place program) ≡ Some program
  unfolding small_of
  unit-found program is =
      rw (imported_unlike program.name is.unlike_in_out is.unlike_write_string is.unlike_write_ln, bytes_same program.name, bytes_same in_out, bytes_same write_string, bytes_same write_ln, body-found program.statements is.some) refl
