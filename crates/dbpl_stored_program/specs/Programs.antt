-- Which programs are of the form that is built so far.
use Rattle.std.specs.Prelude.{ℕ, ℤ, pos, Bool, true, false, ◌&&◌, nat_eq, List, [], ◌∷◌, length, map}
use Rattle.std.specs.List.{list_all}
use Rattle.dbpl_stored_program.specs.declared.insertion.Insertion.{Insertion}
use Rattle.dbpl_stored_program.specs.declared.stored_program.StoredProgram.{StoredProgram}
use Rattle.dbpl_value.specs.Databases.{is_kept}
use Rattle.dbpl_relation.specs.Relations.{is_relation_type}
use Rattle.dbpl_value.specs.Types.{element_of, fields_of, is_in, is_record}
use Rattle.dbpl_value.specs.declared.db_type.DbType.{DbType, DbType-F, out-DbType}
use Rattle.dbpl_value.specs.declared.db_type.DbType.TheOpen as kinds
use Rattle.dbpl_value.specs.declared.db_type.DbType.TheVariants as types
use Rattle.dbpl_value.specs.declared.field.Field.{Field}

abbrev pub is_cardinal_level : {X Y : Type 0} → DbType-F X Y → Bool
is_cardinal_level kinds.Card = true
is_cardinal_level _ = false

abbrev pub is_cardinal : DbType → Bool
is_cardinal t = is_cardinal_level (out-DbType t)

abbrev pub is_cardinal_field : Field → Bool
is_cardinal_field field = is_cardinal field.kind

abbrev pub cardinal_field : List ℕ → Field
cardinal_field name = record { name = name; kind = types.Card }

-- RELATION key OF RECORD with fields of these names and the type CARDINAL END
abbrev pub flat_type : List ℕ → List (List ℕ) → DbType
flat_type key names = types.Rel (key ∷ []) (types.Rec (map cardinal_field names))

-- a relation type whose records have fields of type CARDINAL alone
abbrev pub is_flat : DbType → Bool
is_flat t =
    is_relation_type t && is_record (element_of t) && list_all is_cardinal_field (fields_of (element_of t))

abbrev pub is_in_cardinal : ℤ → Bool
is_in_cardinal = is_in (record { least = pos 0; greatest = pos 4294967295 })

-- one number of CARDINAL for each field
abbrev pub is_row : List Field → List ℤ → Bool
is_row fields row = nat_eq (length row) (length fields) && list_all is_in_cardinal row

abbrev pub are_rows : DbType → Insertion → Bool
are_rows t insertion = list_all (is_row (fields_of (element_of t))) insertion.rows

-- a relation variable that can be kept, of such a type, and a row for each record that is put into it
abbrev pub is_small_program : StoredProgram → Bool
is_small_program program =
    is_kept program.relation.name program.relation.kind && is_flat program.relation.kind &&
    list_all (are_rows program.relation.kind) program.insertions
