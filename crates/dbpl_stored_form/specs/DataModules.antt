-- Which trees are database modules of the form, and what each declares:
--
--     DATABASE MODULE D; TYPE R = RECORD a, b: CARDINAL END; S = RELATION a OF R; VAR v: S; END D.
use Rattle.std.specs.Prelude.{ℕ, ◌+◌, Bool, not, ◌&&◌, bytes_eq, codes, length, nat_le, if◌then◌else◌, List, [], ◌∷◌, ◌++◌, Option, Some, None, option_and_then, option_map}
use Rattle.std.specs.List.{list_any}
use Rattle.dbpl_base.specs.declared.limits.TheConstants.{RELATION_NAME_BYTES, SCALARS}
use Rattle.dbpl_stored_form.specs.Lists.{joined_all, passing}
use Rattle.dbpl_stored_form.specs.Names.{is_plain, is_type_name, names_of}
use Rattle.dbpl_stored_form.specs.declared.schema.Schema.{Schema}
use Rattle.dbpl_stored_program.specs.Programs.{flat_type}
use Rattle.dbpl_tree.specs.Plain.{has_name, is_empty}
use Rattle.dbpl_tree.specs.Words.{in_out}
use Rattle.dbpl_tree.specs.declared.decl.Common.{Common}
use Rattle.dbpl_tree.specs.declared.decl.Common.TheVariants as commons
use Rattle.dbpl_tree.specs.declared.decl.PlainDecl.TheVariants as plain
use Rattle.dbpl_tree.specs.declared.decl.TypeDecl.{TypeDecl}
use Rattle.dbpl_tree.specs.declared.decl.VarDecl.{VarDecl}
use Rattle.dbpl_tree.specs.declared.type_tree.FieldsOf.{FieldsOf}
use Rattle.dbpl_tree.specs.declared.type_tree.FieldsOf.TheVariants as fields
use Rattle.dbpl_tree.specs.declared.type_tree.TypeTree.{TypeTree, TypeTree-F, out-TypeTree}
use Rattle.dbpl_tree.specs.declared.type_tree.TypeTree.TheOpen as types
use Rattle.dbpl_tree.specs.declared.unit.DataUnit.{DataUnit}
use Rattle.dbpl_value.specs.Types.{are_different, are_names, is_identifier, is_same_name}
use Rattle.dbpl_value.specs.declared.field.Field.{Field}

-- ---- types

unfoldable pub cardinal : List ℕ
cardinal = codes "CARDINAL"

-- a , b : CARDINAL, or nothing
abbrev pub fields_named : FieldsOf TypeTree → Option (List (List ℕ))
fields_named (fields.Empty place) = Some []
fields_named (fields.Fields names t) = if is_type_name cardinal t then Some (names_of names) else None

abbrev pub fields_in : FieldsOf TypeTree → List (FieldsOf TypeTree) → Option (List (List ℕ))
fields_in first others = joined_all fields_named (first ∷ others)

-- RECORD a , b : CARDINAL ; .. END, by the names of its fields
abbrev pub record_level : TypeTree-F TypeTree → Option (List (List ℕ))
record_level (types.Record place first others) = fields_in first others
record_level _ = None

abbrev pub record_fields : TypeTree → Option (List (List ℕ))
record_fields t = record_level (out-TypeTree t)

-- RELATION key OF R, by its key
abbrev pub key_level : {T : Type 0} → List ℕ → TypeTree-F T → Option (List ℕ)
key_level element (types.Relation place keys qual) =
    if is_empty keys.others && is_plain element qual then Some keys.first.name else None
key_level element _ = None

abbrev pub relation_key : List ℕ → TypeTree → Option (List ℕ)
relation_key element t = key_level element (out-TypeTree t)

-- ---- declarations

-- v : S ;
abbrev pub is_variable : List ℕ → VarDecl → Bool
is_variable relation v = is_empty v.names.others && is_type_name relation v.kind

-- R = RECORD .. END ; S = RELATION .. OF R ; and v : S ;
abbrev pub declared_by : List ℕ → TypeDecl → TypeDecl → VarDecl → Option Schema
declared_by unit r s v =
    if is_variable s.name.name v
    then option_and_then (λ key. option_map (λ fields. record {
      unit = unit;
      element = r.name.name;
      relation = s.name.name;
      variable = v.names.first.name;
      key = key;
      fields = fields;
    }) (record_fields r.kind)) (relation_key r.name.name s.kind)
    else None

abbrev pub parts_declare : List ℕ → List TypeDecl → List VarDecl → Option Schema
parts_declare unit (r ∷ s ∷ []) (v ∷ []) = declared_by unit r s v
parts_declare unit types variables = None

-- one part of types, and behind it one of variables
abbrev pub declared_in : List ℕ → List Common → Option Schema
declared_in unit (commons.Plain (plain.Type place types) ∷ commons.Plain (plain.Var other variables) ∷ []) =
    parts_declare unit types variables
declared_in unit items = None

-- ---- the relation variable

-- its module's name and its own, joined by a full stop
abbrev pub joined_name : Schema → List ℕ
joined_name schema = schema.unit ++ 46 ∷ schema.variable

-- the relation variable, by the name under which it is stored
abbrev pub variable_of : Schema → Field
variable_of schema = record { name = joined_name schema; kind = flat_type schema.key schema.fields }

-- two identifiers, which are not too long
abbrev pub is_variable_name : List ℕ → List ℕ → Bool
is_variable_name unit variable = is_identifier unit && is_identifier variable && nat_le (length unit + 1 + length variable) RELATION_NAME_BYTES

-- not too many fields, no two of one name, and the key is one of them
abbrev pub are_fields : List ℕ → List (List ℕ) → Bool
are_fields key names = list_any (is_same_name key) names && nat_le (length names) SCALARS && are_names names

-- the relation variable can be stored
abbrev pub can_be_kept : Schema → Bool
can_be_kept schema = is_variable_name schema.unit schema.variable && are_fields schema.key schema.fields

-- no name is declared twice
abbrev pub are_names_different : Schema → Bool
are_names_different schema = are_different (schema.element ∷ schema.relation ∷ schema.variable ∷ [])

-- ---- modules

abbrev pub is_sound_schema : Schema → Bool
is_sound_schema schema = are_names_different schema && can_be_kept schema

-- the name is given twice and isn't InOut, and nothing is imported
abbrev pub has_frame : DataUnit → Bool
has_frame d = bytes_eq d.end_name.name d.name.name && not (has_name in_out d.name) && is_empty d.imports

-- THE schema of a database module, if it is of the form
abbrev pub schema_of : DataUnit → Option Schema
schema_of d = if has_frame d then option_and_then (passing is_sound_schema) (declared_in d.name.name d.items) else None
