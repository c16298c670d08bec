-- The coded size of a value is the length of its spelling: by induction on the type.
use Rattle.std.proofs.Common.{◌≡◌, ℕ, ◌+◌, List, [], ◌∷◌, map, length, refl, sym, ap, ◌∙◌, arith}
use Rattle.std.proofs.lemmas.List.Concat.{length-flat_map}
use Rattle.std.specs.List.{flat_map, zip}
use Rattle.std.specs.Prelude.{sum_by}
use Rattle.dbpl_value.proofs.Pairs.{flat_map-zip_map, sum_by-zip_map}
use Rattle.dbpl_value.proofs.TypeParts.{by_answers-out, type_induction}
use Rattle.dbpl_value.specs.Keys.{parts_of}
use Rattle.dbpl_value.specs.Sizes.{size_level, size_of}
use Rattle.dbpl_value.specs.declared.db_type.DbType.{DbType, DbType-F, map-DbType, out-roll-DbType, roll-DbType}
use Rattle.dbpl_value.specs.declared.db_type.DbType.TheOpen as kinds
use Rattle.dbpl_value.specs.declared.field.Field.{Field}
use Rattle.dbpl_value.specs.declared.value.Value.{Value}
use Rattle.dbpl_codec.proofs.ValueLaws.{bytes_of-out, spellings}
use Rattle.dbpl_codec.specs.ValueSpelling.{bytes_level, bytes_of}

abbrev Law : DbType → Type 0
Law t = (v : Value) → size_of t v ≡ length (bytes_of t v)

abbrev Held : Type 0
Held = DbType-F ((t : DbType) × Law t) ((field : Field) × Law field.kind)

abbrev plain : Held → DbType-F DbType Field
plain level =
    map-DbType ((t : DbType) × Law t) ((field : Field) × Law field.kind) DbType Field (λ held. held.0) (λ held. held.0) level

abbrev sizes : DbType-F DbType Field → DbType-F (Value → ℕ) (Value → ℕ)
sizes level = map-DbType DbType Field (Value → ℕ) (Value → ℕ) size_of (λ field. size_of field.kind) level

sum_by-same : {A : Type 0} (f g : A → ℕ) (xs : List A) → ((x : A) → f x ≡ g x) → sum_by f xs ≡ sum_by g xs
sum_by-same {A} f g xs e = ap (λ (h : A → ℕ). sum_by h xs) (λ i x. e x i)

fused : {A B C : Type 0} (f : B → C) (g : A → B) (xs : List A) → map f (map g xs) ≡ map (λ (x : A). f (g x)) xs
fused f g [] = refl
fused f g (x ∷ xs) = ap (λ (rest : List _). f (g x) ∷ rest) (fused f g xs)

parts_sized :
    (t : DbType) → Law t → (parts : List Value) → sum_by (size_of t) parts ≡ length (flat_map (bytes_of t) parts)
parts_sized t law parts =
    sum_by-same (size_of t) (λ part. length (bytes_of t part)) parts law ∙ sym (length-flat_map (bytes_of t) parts)

fields_sized :
    (held : List ((field : Field) × Law field.kind)) (parts : List Value) →
    sum_by (λ (pair : (Value → ℕ) × Value). pair.0 pair.1)
    (zip (map (λ (field : Field). size_of field.kind) (map (λ (h : (field : Field) × Law field.kind). h.0) held)) parts)
    ≡ length (flat_map (λ (pair : (Value → List ℕ) × Value). pair.0 pair.1)
    (zip (map (λ (field : Field). bytes_of field.kind) (map (λ (h : (field : Field) × Law field.kind). h.0) held)) parts))
fields_sized held parts =
    let H : Type 0 = (field : Field) × Law field.kind in
    ap (λ (fs : List (Value → ℕ)). sum_by (λ (pair : (Value → ℕ) × Value). pair.0 pair.1) (zip fs parts))
    (fused (λ (field : Field). size_of field.kind) (λ (h : H). h.0) held)
    ∙ sum_by-zip_map (λ (h : H) (part : Value). size_of h.0.kind part) held parts
    ∙ sum_by-same (λ (pair : H × Value). size_of pair.0.0.kind pair.1)
    (λ (pair : H × Value). length (bytes_of pair.0.0.kind pair.1)) (zip held parts) (λ pair. pair.0.1 pair.1)
    ∙ sym (length-flat_map (λ (pair : H × Value). bytes_of pair.0.0.kind pair.1) (zip held parts))
    ∙ ap (λ (bs : List ℕ). length bs)
    (sym (flat_map-zip_map (λ (h : H) (part : Value). bytes_of h.0.kind part) held parts))
    ∙ ap (λ (fs : List (Value → List ℕ)). length (flat_map (λ (pair : (Value → List ℕ) × Value). pair.0 pair.1) (zip fs parts)))
    (sym (fused (λ (field : Field). bytes_of field.kind) (λ (h : H). h.0) held))

level_sized : (level : Held) (v : Value) → size_level (sizes (plain level)) v ≡ length (bytes_level (spellings (plain level)) v)
level_sized kinds.Int v = refl
level_sized kinds.Card v = refl
level_sized kinds.Bool v = refl
level_sized kinds.Char v = refl
level_sized (kinds.Enum names) v = refl
level_sized (kinds.Sub host least greatest) v = host.1 v
level_sized (kinds.Arr index element) v = parts_sized element.0 element.1 (parts_of v)
level_sized (kinds.Rec held) v = fields_sized held (parts_of v)
level_sized (kinds.Rel keys record_type) v =
    let records = parts_sized record_type.0 record_type.1 (parts_of v) in
    ap (λ (n : ℕ). 4 + n) records ∙ omega arith

-- the coded size is the length of the spelling
pub size_of-spelling : (t : DbType) → Law t
size_of-spelling = type_induction Law step
  where
    step : (level : Held) → Law (roll-DbType (plain level))
    step level v =
        let t = roll-DbType (plain level) in
        let out = out-roll-DbType (plain level) in
        ap (λ (f : Value → ℕ). f v) (by_answers-out (Value → ℕ) size_level t)
        ∙ ap (λ (d : DbType-F DbType Field). size_level (sizes d) v) out
        ∙ level_sized level v
        ∙ ap (λ (bs : List ℕ). length bs)
        (sym (bytes_of-out t v ∙ ap (λ (d : DbType-F DbType Field). bytes_level (spellings d) v) out))
