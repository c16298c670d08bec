-- What fits of a type of each kind, by the types that stand in it.
use Rattle.std.proofs.Common.{◌≡◌, ℕ, ℤ, ◌&&◌, Bool, true, List, refl, ap, ◌∙◌}
use Rattle.std.proofs.lemmas.List.{length-map}
use Rattle.std.proofs.lemmas.List.Folds.{list_all-map}
use Rattle.std.specs.List.{list_all}
use Rattle.std.specs.Prelude.{nat_lt}
use Rattle.dbpl_value.proofs.TypeParts.{by_parts-out}
use Rattle.dbpl_value.specs.declared.db_type.DbType.{DbType, DbType-F, map-DbType, out-DbType}
use Rattle.dbpl_value.specs.declared.db_type.DbType.TheVariants as types
use Rattle.dbpl_value.specs.declared.field.Field.{Field}
use Rattle.dbpl_codec.specs.Numbers.{count_fits, names_fit}
use Rattle.dbpl_codec.specs.TypeSpelling.{is_long, type_fits, type_fits_level}

abbrev fits_of : DbType-F DbType Field → DbType-F (DbType × Bool) (Field × Bool)
fits_of level =
    map-DbType DbType Field (DbType × Bool) (Field × Bool) (λ part. (part, type_fits part))
    (λ field. (field, type_fits field.kind)) level

type_fits-out : (t : DbType) → type_fits t ≡ type_fits_level (fits_of (out-DbType t))
type_fits-out t = by_parts-out Bool type_fits_level t

pub type_fits-Int : type_fits types.Int ≡ true
type_fits-Int = rw (type_fits-out types.Int, types.outs-Int) refl

pub type_fits-Card : type_fits types.Card ≡ true
type_fits-Card = rw (type_fits-out types.Card, types.outs-Card) refl

pub type_fits-Bool : type_fits types.Bool ≡ true
type_fits-Bool = rw (type_fits-out types.Bool, types.outs-Bool) refl

pub type_fits-Char : type_fits types.Char ≡ true
type_fits-Char = rw (type_fits-out types.Char, types.outs-Char) refl

pub type_fits-Enum : (names : List (List ℕ)) → type_fits (types.Enum names) ≡ names_fit names
type_fits-Enum names = rw (type_fits-out (types.Enum names), types.outs-Enum names) refl

pub type_fits-Sub :
    (host : DbType) (least greatest : ℤ) →
    type_fits (types.Sub host least greatest) ≡ (type_fits host && is_long least && is_long greatest)
type_fits-Sub host least greatest = rw (type_fits-out (types.Sub host least greatest), types.outs-Sub host least greatest) refl

pub type_fits-Arr :
    (index element : DbType) → type_fits (types.Arr index element) ≡ (type_fits index && type_fits element)
type_fits-Arr index element = rw (type_fits-out (types.Arr index element), types.outs-Arr index element) refl

-- a field's name and type fit
abbrev pub field_fits : Field → Bool
field_fits field = count_fits field.name && type_fits field.kind

pub type_fits-Rec :
    (fields : List Field) → type_fits (types.Rec fields) ≡ (count_fits fields && list_all field_fits fields)
type_fits-Rec fields =
    let paired : Field → Field × Bool = λ field. (field, type_fits field.kind) in
    let test : Field × Bool → Bool = λ field. count_fits field.0.name && field.1 in
    type_fits-out (types.Rec fields)
    ∙ ap (λ (level : DbType-F DbType Field). type_fits_level (fits_of level)) (types.outs-Rec fields)
    ∙ (λ i. nat_lt (length-map fields paired i) 4294967296 && list_all-map test paired fields i)

pub type_fits-Rel :
    (keys : List (List ℕ)) (record_type : DbType) →
    type_fits (types.Rel keys record_type) ≡ (names_fit keys && type_fits record_type)
type_fits-Rel keys record_type = rw (type_fits-out (types.Rel keys record_type), types.outs-Rel keys record_type) refl
