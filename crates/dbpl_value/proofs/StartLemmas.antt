-- Start values, one level at a time.
use Rattle.std.proofs.Common.{◌≡◌, ℕ, List, [], ◌∷◌, map, replicate, refl, ap, sym, ◌∙◌}
use Rattle.std.specs.Prelude.{pos}
use Rattle.std.specs.Option.{option_map_or}
use Rattle.dbpl_value.proofs.TypeParts.{by_parts-out}
use Rattle.dbpl_value.specs.Types.{count_of, range_level, range_of}
use Rattle.dbpl_value.specs.Values.{start_level, start_number, start_value_of}
use Rattle.dbpl_value.specs.declared.db_type.DbType.{DbType, DbType-F, map-DbType, out-DbType, roll-DbType, roll-out-DbType}
use Rattle.dbpl_value.specs.declared.db_type.DbType.TheOpen as kinds
use Rattle.dbpl_value.specs.declared.db_type.DbType.TheVariants as types
use Rattle.dbpl_value.specs.declared.db_type.DbType.TheVariants.{outs-Arr, outs-Rec, outs-Rel, rolls-Arr, rolls-Rec, rolls-Rel}
use Rattle.dbpl_value.specs.declared.field.Field.{Field}
use Rattle.dbpl_value.specs.declared.value.Value.{Value}
use Rattle.dbpl_value.specs.declared.value.Value.TheVariants as value

-- the start values of the types in one level of a type
abbrev pub started : DbType-F DbType Field → DbType-F (DbType × Value) (Field × Value)
started level =
    map-DbType DbType Field (DbType × Value) (Field × Value) (λ part. (part, start_value_of part))
    (λ field. (field, start_value_of field.kind)) level

whole : (t : DbType) (level : DbType-F DbType Field) → level ≡ out-DbType t → t ≡ roll-DbType level
whole t level e = sym (ap roll-DbType e ∙ roll-out-DbType t)

pub start_value_of-Arr :
    (index element : DbType) → start_value_of (types.Arr index element) ≡ value.Arr (replicate (count_of index) (start_value_of element))
start_value_of-Arr index element =
    let whole = by_parts-out Value start_level (types.Arr index element) in
    rw (whole, outs-Arr index element) refl

pub start_value_of-Rec :
    (fields : List Field) →
    start_value_of (types.Rec fields) ≡ value.Rec (map (λ (field : Field). start_value_of field.kind) fields)
start_value_of-Rec fields =
    let whole = by_parts-out Value start_level (types.Rec fields) in
    rw (whole, outs-Rec fields) (ap value.Rec (map-second fields))
  where
    map-second :
        (fields : List Field) →
        map (λ (field : Field × Value). field.1) (map (λ (field : Field). (field, start_value_of field.kind)) fields)
        ≡ map (λ (field : Field). start_value_of field.kind) fields
    map-second [] = refl
    map-second (field ∷ fields) = ap (λ rest. start_value_of field.kind ∷ rest) (map-second fields)

pub start_value_of-Rel : (keys : List (List ℕ)) (record_type : DbType) → start_value_of (types.Rel keys record_type) ≡ value.Rel []
start_value_of-Rel keys record_type =
    let whole = by_parts-out Value start_level (types.Rel keys record_type) in
    rw (whole, outs-Rel keys record_type) refl

other_level :
    (t : DbType) (level : DbType-F DbType Field) → level ≡ out-DbType t →
    ((index element : DbType) → t ≡ types.Arr index element → ⊥) → ((fields : List Field) → t ≡ types.Rec fields → ⊥) →
    ((keys : List (List ℕ)) (record_type : DbType) → t ≡ types.Rel keys record_type → ⊥) →
    start_level (started level) ≡ value.Num (option_map_or start_number (range_level level) (pos 0))
other_level t kinds.Int e no_array no_record no_relation = refl
other_level t kinds.Card e no_array no_record no_relation = refl
other_level t kinds.Bool e no_array no_record no_relation = refl
other_level t kinds.Char e no_array no_record no_relation = refl
other_level t (kinds.Enum names) e no_array no_record no_relation = refl
other_level t (kinds.Sub host least greatest) e no_array no_record no_relation = refl
other_level t (kinds.Arr index element) e no_array no_record no_relation =
    absurd (no_array index element (whole t _ e ∙ rolls-Arr index element))
other_level t (kinds.Rec fields) e no_array no_record no_relation =
    absurd (no_record fields (whole t _ e ∙ rolls-Rec fields))
other_level t (kinds.Rel keys record_type) e no_array no_record no_relation =
    absurd (no_relation keys record_type (whole t _ e ∙ rolls-Rel keys record_type))

-- a type that is no array, no record and no relation
pub start_value_of-other :
    (t : DbType) →
    ((index element : DbType) → t ≡ types.Arr index element → ⊥) → ((fields : List Field) → t ≡ types.Rec fields → ⊥) →
    ((keys : List (List ℕ)) (record_type : DbType) → t ≡ types.Rel keys record_type → ⊥) →
    start_value_of t ≡ value.Num (option_map_or start_number (range_of t) (pos 0))
start_value_of-other t no_array no_record no_relation =
    by_parts-out Value start_level t ∙ other_level t (out-DbType t) refl no_array no_record no_relation
