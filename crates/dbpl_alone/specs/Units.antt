-- The modules that can be run so far, as trees of the whole grammar.
use Rattle.std.specs.Prelude.{ℕ, List, [], ◌∷◌, map, Some, None}
use Rattle.dbpl_base.specs.declared.place.Place.{Place}
use Rattle.dbpl_alone.specs.declared.program.Program.{Program}
use Rattle.dbpl_alone.specs.declared.statement.Statement.{Statement as Small}
use Rattle.dbpl_alone.specs.declared.statement.Statement.TheVariants.{WriteLn, WriteString}
use Rattle.dbpl_tree.specs.Words.{in_out, write_ln, write_string}
use Rattle.dbpl_tree.specs.declared.expr.ExprOf.{ExprOf}
use Rattle.dbpl_tree.specs.declared.factor.Factor.{Factor}
use Rattle.dbpl_tree.specs.declared.factor.Factor.TheVariants as factors
use Rattle.dbpl_tree.specs.declared.statement.Statement.{Statement}
use Rattle.dbpl_tree.specs.declared.statement.Statement.TheVariants as statements
use Rattle.dbpl_tree.specs.declared.statements.StatementsOf.{StatementsOf}
use Rattle.dbpl_tree.specs.declared.unit.Import.TheVariants as imports
use Rattle.dbpl_tree.specs.declared.unit.Unit.{Unit}
use Rattle.dbpl_tree.specs.declared.unit.Unit.TheVariants as units

-- The small tree keeps no places; each place is the one that is given.
module _ (place : Place) where
  -- an expression that is one string
  abbrev pub string : List ℕ → ExprOf Factor
  string text = record {
    place = place;
    left = record {
      place = place;
      sign = None;
      first = record { place = place; first = factors.Text place text; others = [] };
      others = [];
    };
    right = None;
  }

  -- the calls WriteLn and WriteString ( text )
  abbrev pub statement_of : Small → Statement
  statement_of WriteLn = statements.Call (record { head = record { place = place; name = write_ln }; parts = [] }) None
  statement_of (WriteString text) =
      statements.Call (record { head = record { place = place; name = write_string }; parts = [] })
      (Some (record { place = place; exprs = Some (record { first = string text; others = [] }) }))

  -- no statements are the empty one
  abbrev pub statements_of : List Small → StatementsOf Statement
  statements_of [] = record { first = statements.Empty place; others = [] }
  statements_of (first ∷ others) = record { first = statement_of first; others = map statement_of others }

  -- THE tree of such a module
  abbrev pub unit_of : Program → Unit
  unit_of program =
      units.Program (record {
        place = place;
        name = record { place = place; name = program.name };
        imports =
            imports.From place (record { place = place; name = in_out })
            (record {
              first = record { place = place; name = write_string };
              others = record { place = place; name = write_ln } ∷ [];
            }) ∷ [];
        declarations = [];
        body = Some (statements_of program.statements);
        end_name = record { place = place; name = program.name };
      })
