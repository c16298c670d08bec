-- A program of the form is one that can be run.
use Rattle.std.proofs.Common.{◌≡◌, ℕ, ◌+◌, ◌≤◌, ℤ, pos, ◌&&◌, Bool, true, false, if◌then◌else◌, List, [], ◌∷◌, ◌++◌, map, length, Some, option_and_then, refl, ap, ◌∙◌, arith}
use Rattle.std.proofs.lemmas.Bool.{and_parts}
use Rattle.std.proofs.lemmas.List.{length-map}
use Rattle.std.specs.Cmp.Derive.{both_true}
use Rattle.std.proofs.lemmas.Bool.Decides.{nat_tests}
use Rattle.std.specs.List.{list_all, list_any}
use Rattle.std.specs.Prelude.{IsTrue, nat_eq, nat_le}
use Rattle.dbpl_base.specs.declared.place.Place.{Place}
use Rattle.dbpl_stored_program.specs.Programs.{are_rows, cardinal_field, flat_type, is_flat, is_in_cardinal, is_row, is_small_program}
use Rattle.dbpl_stored_program.specs.declared.insertion.Insertion.{Insertion}
use Rattle.dbpl_stored_program.specs.declared.stored_program.StoredProgram.{StoredProgram}
use Rattle.dbpl_value.specs.Databases.{is_kept}
use Rattle.dbpl_stored_form.proofs.Found.{all_pass, made_of, one_is, one_passes, passed, then_of, under}
use Rattle.dbpl_stored_form.specs.DataModules.{are_fields, are_names_different, can_be_kept, declared_in, has_frame, is_sound_schema, is_variable_name, joined_name, schema_of}
use Rattle.dbpl_stored_form.specs.Lists.{joined_all, one_of, passing}
use Rattle.dbpl_stored_form.specs.Programs.{has_frame as has_program_frame, program_of, stored_of, transaction_in, with_routine, with_statements}
use Rattle.dbpl_stored_form.specs.Statements.{actions_in, aggregate_named, cardinal_in, cardinal_of, insertion_by, insertion_in, insertion_level, insertion_of, insertions_in, is_added_to, is_nothing, literal_of, numbers_in, plain_of, row_of, rows_in, statements_of}
use Rattle.dbpl_stored_form.specs.declared.schema.Schema.{Schema}
use Rattle.dbpl_tree.specs.declared.element.Element.{Element}
use Rattle.dbpl_tree.specs.declared.aggregate.Aggregate.{Aggregate}
use Rattle.dbpl_tree.specs.declared.expr.ExprOf.{ExprOf}
use Rattle.dbpl_tree.specs.declared.factor.Factor.{Factor}
use Rattle.dbpl_tree.specs.declared.statement.Statement.{Statement, Statement-F, out-Statement}
use Rattle.dbpl_tree.specs.declared.statement.Statement.TheOpen as statements
use Rattle.dbpl_tree.specs.declared.decl.Routine.{Routine}
use Rattle.dbpl_tree.specs.declared.unit.DataUnit.{DataUnit}
use Rattle.dbpl_tree.specs.declared.unit.Program.{Program}
use Rattle.dbpl_tree.specs.declared.unit.Unit.{Unit as Tree}
use Rattle.dbpl_tree.specs.declared.unit.Unit.TheVariants as units
use Rattle.dbpl_value.specs.Types.{are_names, element_level, element_of, fields_level, fields_of, is_identifier, is_same_name}
use Rattle.dbpl_value.specs.declared.db_type.DbType.{DbType}
use Rattle.dbpl_value.specs.declared.db_type.DbType.TheVariants as types
use Rattle.dbpl_value.specs.declared.field.Field.{Field}

-- ---- rows

none-below : (n : ℕ) → nat_le 0 n ≡ true
none-below n = grind (arith, nat_tests)

number-small : (n : ℕ) (z : ℤ) → cardinal_of n ≡ Some z → is_in_cardinal z ≡ true
number-small n z e =
    let small = under (nat_le n 4294967295) (Some (pos n)) z e in
    let is : pos n ≡ z = cc (small.1) in
    rw (← is) (both_true (none-below n) small.0)

numbers-small : (element : Element) (numbers : List ℤ) → numbers_in element ≡ Some numbers → list_all is_in_cardinal numbers ≡ true
numbers-small element numbers e =
    let one = one_is (cardinal_in element) numbers e in
    let number = then_of cardinal_of (option_and_then literal_of (plain_of element)) one.0 one.1 in
    one_passes is_in_cardinal one.0 numbers one.2 (number-small number.0 one.0 number.2)

fields-there : (key : List ℕ) (names : List (List ℕ)) → fields_of (element_of (flat_type key names)) ≡ map cardinal_field names
fields-there key names =
    ap fields_of (ap (element_level (flat_type key names)) (types.outs-Rel (key ∷ []) (types.Rec (map cardinal_field names))))
    ∙ ap fields_level (types.outs-Rec (map cardinal_field names))

module _ (schema : Schema) where
  abbrev kind : DbType
  kind = flat_type schema.key schema.fields

  abbrev row_fields : List Field
  row_fields = fields_of (element_of kind)

  fields-many : length row_fields ≡ length schema.fields
  fields-many = ap length (fields-there schema.key schema.fields) ∙ length-map schema.fields cardinal_field

  row-fits : (a : Aggregate) (row : List ℤ) → row_of schema a ≡ Some row → is_row row_fields row ≡ true
  row-fits a row e =
      let numbers = then_of (passing (λ (r : List ℤ). nat_eq (length r) (length schema.fields))) (joined_all numbers_in a.elements) row e in
      let right = passed (λ (r : List ℤ). nat_eq (length r) (length schema.fields)) numbers.0 row numbers.2 in
      let each = all_pass numbers_in is_in_cardinal numbers-small a.elements numbers.0 numbers.1 in
      let many : nat_eq (length row) (length row_fields) ≡ true = rw (fields-many, ← right.1) right.0 in
      let small : list_all is_in_cardinal row ≡ true = rw (← right.1) each in
      both_true many small

  rows-fit : (element : Element) (rows : List (List ℤ)) → rows_in schema element ≡ Some rows →
      list_all (is_row row_fields) rows ≡ true
  rows-fit element rows e =
      let one = one_is (option_and_then (row_of schema) (option_and_then (aggregate_named schema.element) (plain_of element))) rows e in
      let row = then_of (row_of schema) (option_and_then (aggregate_named schema.element) (plain_of element)) one.0 one.1 in
      one_passes (is_row row_fields) one.0 rows one.2 (row-fits row.0 one.0 row.2)

  -- ---- insertions

  set-fits : (place : Place) (a : Aggregate) (insertion : Insertion) → insertion_by schema place a ≡ Some insertion →
      are_rows kind insertion ≡ true
  set-fits place a insertion e =
      let rows = made_of _ (joined_all (rows_in schema) a.elements) insertion e in
      rw (← rows.2) (all_pass (rows_in schema) (is_row row_fields) rows-fit a.elements rows.0 rows.1)

  insertion-fits : (place : Place) (e : ExprOf Factor) (insertion : Insertion) → insertion_of schema place e ≡ Some insertion →
      are_rows kind insertion ≡ true
  insertion-fits place e insertion is =
      let set = then_of (insertion_by schema place) (aggregate_named schema.relation e) insertion is in
      set-fits place set.0 insertion set.2

  level-fits : (s : Statement-F Statement) (insertion : Insertion) → insertion_level schema s ≡ Some insertion →
      are_rows kind insertion ≡ true
  level-fits (statements.Change target place operator e) insertion is =
      insertion-fits place e insertion (under (is_added_to schema target operator) (insertion_of schema place e) insertion is).1
  level-fits _ insertion is = absurd (cc)

  statement-fits : (s : Statement) (insertions : List Insertion) → insertions_in schema s ≡ Some insertions →
      list_all (are_rows kind) insertions ≡ true
  statement-fits s insertions e = by_nothing (is_nothing s) e
    where
      by_nothing : (b : Bool) → (if b then Some [] else one_of (insertion_in schema s)) ≡ Some insertions →
          list_all (are_rows kind) insertions ≡ true
      by_nothing true is =
          let none : [] ≡ insertions = cc is in
          rw (← none) refl
      by_nothing false is =
          let one = one_is (insertion_in schema s) insertions is in
          one_passes (are_rows kind) one.0 insertions one.2 (level-fits (out-Statement s) one.0 one.1)

  -- ---- programs

  statements-small : (m : Program) (stored : StoredProgram) (routine : Routine) → is_kept (joined_name schema) kind ≡ true →
      is_flat kind ≡ true → with_statements schema m routine ≡ Some stored → is_small_program stored ≡ true
  statements-small m stored routine keeps flat e =
      let first = then_of _ (joined_all (insertions_in schema) (statements_of routine.body)) stored e in
      let second = made_of _ (joined_all (actions_in routine.heading.name.name m.imports) (statements_of m.body)) stored first.2 in
      let fit = all_pass (insertions_in schema) (are_rows kind) statement-fits (statements_of routine.body) first.0 first.1 in
      rw (← second.2) (both_true (both_true keeps flat) fit)

  program-small : (m : Program) (stored : StoredProgram) → is_kept (joined_name schema) kind ≡ true → is_flat kind ≡ true →
      program_of schema m ≡ Some stored → is_small_program stored ≡ true
  program-small m stored keeps flat e =
      let found = then_of (with_routine schema m) (transaction_in m.declarations) stored e in
      statements-small m stored found.0 keeps flat
      (under (has_program_frame schema m found.0) (with_statements schema m found.0) stored found.2).1

at_most : (a b : ℕ) → nat_le a b ≡ true → a ≤ b
at_most a b h = grind (arith, nat_tests)

-- what the layer below says of such types
abbrev pub Kept : Type 0
Kept =
    (owner variable key : List ℕ) (names : List (List ℕ)) → IsTrue (is_identifier owner) → IsTrue (is_identifier variable) →
    length owner + 1 + length variable ≤ 128 → IsTrue (are_names names) → length names ≤ 65536 →
    IsTrue (list_any (is_same_name key) names) → IsTrue (is_kept (owner ++ 46 ∷ variable) (flat_type key names))

abbrev pub Flat : Type 0
Flat = (key : List ℕ) (names : List (List ℕ)) → IsTrue (is_flat (flat_type key names))

sound-kept : Kept → (schema : Schema) → can_be_kept schema ≡ true → is_kept (joined_name schema) (flat_type schema.key schema.fields) ≡ true
sound-kept law schema h =
    let parts = and_parts (is_variable_name schema.unit schema.variable) (are_fields schema.key schema.fields) h in
    let name = and_parts (is_identifier schema.unit && is_identifier schema.variable) (nat_le (length schema.unit + 1 + length schema.variable) 128) parts.0 in
    let idents = and_parts (is_identifier schema.unit) (is_identifier schema.variable) name.0 in
    let sound = and_parts (list_any (is_same_name schema.key) schema.fields && nat_le (length schema.fields) 65536) (are_names schema.fields) parts.1 in
    let key = and_parts (list_any (is_same_name schema.key) schema.fields) (nat_le (length schema.fields) 65536) sound.0 in
    law schema.unit schema.variable schema.key schema.fields idents.0 idents.1
    (at_most (length schema.unit + 1 + length schema.variable) 128 name.1) sound.1 (at_most (length schema.fields) 65536 key.1) key.0

schema-sound : (d : DataUnit) (schema : Schema) → schema_of d ≡ Some schema → can_be_kept schema ≡ true
schema-sound d schema e =
    let framed = under (has_frame d) _ schema e in
    let found = then_of (passing is_sound_schema) (declared_in d.name.name d.items) schema framed.1 in
    let sound = passed is_sound_schema found.0 schema found.2 in
    rw (← sound.1) (and_parts (are_names_different found.0) (can_be_kept found.0) sound.0).1

pub stored-small : Kept → Flat → (database program : Tree) (stored : StoredProgram) → stored_of database program ≡ Some stored →
    IsTrue (is_small_program stored)
unfolding stored_of
stored-small law flat (units.Data d) (units.Program m) stored e =
    let found = then_of (λ (schema : Schema). program_of schema m) (schema_of d) stored e in
    let schema = found.0 in
    program-small schema m stored (sound-kept law schema (schema-sound d schema found.1)) (flat schema.key schema.fields) found.2
stored-small law flat (units.Data d) _ stored e = absurd (cc)
stored-small law flat (units.Program m) program stored e = absurd (cc)
stored-small law flat (units.Implementation place m) program stored e = absurd (cc)
stored-small law flat (units.Definition d) program stored e = absurd (cc)
