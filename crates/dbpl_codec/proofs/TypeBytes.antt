-- The spelling of a descriptor, one level at a time.
use Rattle.std.proofs.Common.{◌≡◌, ℕ, ℤ, List, [], ◌∷◌, ◌++◌, map, refl, ap, ◌∙◌, append_assoc}
use Rattle.std.specs.List.{flat_map}
use Rattle.std.proofs.lemmas.List.{length-map}
use Rattle.std.proofs.lemmas.List.Folds.{flat_map-map}
use Rattle.byteorder.specs.Endian.{little_bytes}
use Rattle.dbpl_value.proofs.TypeParts.{by_parts-out}
use Rattle.dbpl_value.specs.declared.db_type.DbType.{DbType, DbType-F, map-DbType, out-DbType}
use Rattle.dbpl_value.specs.declared.db_type.DbType.TheVariants as types
use Rattle.dbpl_value.specs.declared.field.Field.{Field}
use Rattle.dbpl_codec.specs.Numbers.{count_bytes, long_bytes, name_bytes, names_bytes}
use Rattle.dbpl_codec.specs.TypeSpelling.{type_bytes, descriptor_level}

-- the spellings of the types in one level of a type
abbrev pub spelled : DbType-F DbType Field → DbType-F (DbType × List ℕ) (Field × List ℕ)
spelled level =
    map-DbType DbType Field (DbType × List ℕ) (Field × List ℕ) (λ part. (part, type_bytes part))
    (λ field. (field, type_bytes field.kind)) level

pub type_bytes-out : (t : DbType) → type_bytes t ≡ descriptor_level (spelled (out-DbType t))
type_bytes-out t = by_parts-out (List ℕ) descriptor_level t

-- the spelling of a field
abbrev pub field_bytes : Field → List ℕ
field_bytes field = name_bytes field.name ++ type_bytes field.kind

pub type_bytes-Int : type_bytes types.Int ≡ 1 ∷ []
type_bytes-Int = rw (type_bytes-out types.Int, types.outs-Int) refl

pub type_bytes-Card : type_bytes types.Card ≡ 2 ∷ []
type_bytes-Card = rw (type_bytes-out types.Card, types.outs-Card) refl

pub type_bytes-Bool : type_bytes types.Bool ≡ 3 ∷ []
type_bytes-Bool = rw (type_bytes-out types.Bool, types.outs-Bool) refl

pub type_bytes-Char : type_bytes types.Char ≡ 4 ∷ []
type_bytes-Char = rw (type_bytes-out types.Char, types.outs-Char) refl

pub type_bytes-Enum : (names : List (List ℕ)) → type_bytes (types.Enum names) ≡ 5 ∷ names_bytes names
type_bytes-Enum names = rw (type_bytes-out (types.Enum names), types.outs-Enum names) refl

pub type_bytes-Sub :
    (host : DbType) (least greatest : ℤ) →
    type_bytes (types.Sub host least greatest) ≡ 6 ∷ (type_bytes host ++ (long_bytes least ++ long_bytes greatest))
type_bytes-Sub host least greatest =
    rw (type_bytes-out (types.Sub host least greatest), types.outs-Sub host least greatest) refl

pub type_bytes-Arr :
    (index element : DbType) → type_bytes (types.Arr index element) ≡ 7 ∷ (type_bytes index ++ type_bytes element)
type_bytes-Arr index element = rw (type_bytes-out (types.Arr index element), types.outs-Arr index element) refl

pub type_bytes-Rec :
    (fields : List Field) → type_bytes (types.Rec fields) ≡ 8 ∷ (count_bytes fields ++ flat_map field_bytes fields)
type_bytes-Rec fields =
    let paired : Field → Field × List ℕ = λ field. (field, type_bytes field.kind) in
    type_bytes-out (types.Rec fields)
    ∙ ap (λ (level : DbType-F DbType Field). descriptor_level (spelled level)) (types.outs-Rec fields)
    ∙ ap (λ (count : ℕ). 8 ∷ (little_bytes 4 count ++ flat_map (λ (field : Field × List ℕ). name_bytes field.0.name ++ field.1)
    (map paired fields))) (length-map fields paired)
    ∙ ap (λ (bytes : List ℕ). 8 ∷ (count_bytes fields ++ bytes))
    (flat_map-map (λ (field : Field × List ℕ). name_bytes field.0.name ++ field.1) paired fields)

pub type_bytes-Rel :
    (keys : List (List ℕ)) (record_type : DbType) →
    type_bytes (types.Rel keys record_type) ≡ 9 ∷ (names_bytes keys ++ type_bytes record_type)
type_bytes-Rel keys record_type =
    rw (type_bytes-out (types.Rel keys record_type), types.outs-Rel keys record_type) refl

-- what was written in pieces behind the kind
pub one_piece :
    (old kind first whole x : List ℕ) → x ≡ old ++ kind → whole ≡ kind ++ first → x ++ first ≡ old ++ whole
one_piece old kind first whole x e h = rw (e, h) (append_assoc old kind first)

pub two_pieces :
    (old kind first second whole x y : List ℕ) → x ≡ old ++ kind → y ≡ x ++ first → whole ≡ kind ++ (first ++ second) →
    y ++ second ≡ old ++ whole
two_pieces old kind first second whole x y e g h =
    rw (g, e, h) (append_assoc (old ++ kind) first second ∙ append_assoc old kind (first ++ second))

pub three_pieces :
    (old kind first second third whole x y z : List ℕ) → x ≡ old ++ kind → y ≡ x ++ first → z ≡ y ++ second →
    whole ≡ kind ++ (first ++ (second ++ third)) → z ++ third ≡ old ++ whole
three_pieces old kind first second third whole x y z e g f h =
    ap (λ (bytes : List ℕ). bytes ++ third) f ∙ append_assoc y second third
    ∙ two_pieces old kind first (second ++ third) whole x y e g h
