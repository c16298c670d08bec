-- The coded size of a record is the sum over its fields.
use Rattle.std.proofs.Common.{◌≡◌, ◌+◌, ◌<◌, ℕ, List, length, take, get_or, ap, ◌∙◌, zero-add, [], ◌∷◌}
use Rattle.std.specs.List.{sum_by, zip}
use Rattle.std.proofs.lemmas.List.Sums.{sum_by-append}
use Rattle.dbpl_value.proofs.Pairs.{sum_by-zip_map, take-zip-more}
use Rattle.dbpl_value.proofs.TypeParts.{by_answers-out}
use Rattle.dbpl_value.specs.Keys.{parts_of}
use Rattle.dbpl_value.specs.Sizes.{size_level, size_of}
use Rattle.dbpl_value.specs.declared.db_type.DbType.TheVariants as types
use Rattle.dbpl_value.specs.declared.db_type.DbType.TheVariants.{outs-Rec}
use Rattle.dbpl_value.specs.declared.field.Field.{Field}
use Rattle.dbpl_value.specs.declared.value.Value.{Value}

-- the size of a field's part
abbrev pub field_size : Field × Value → ℕ
field_size pair = size_of pair.0.kind pair.1

pub size_of-Rec :
    (fields : List Field) (v : Value) →
    size_of (types.Rec fields) v ≡ sum_by field_size (zip fields (parts_of v))
size_of-Rec fields v =
    let whole = by_answers-out (Value → ℕ) size_level (types.Rec fields) in
    rw (whole, outs-Rec fields) (sum_by-zip_map (λ (field : Field) (part : Value). size_of field.kind part) fields (parts_of v))

pub size_of_fields-more :
    (fields : List Field) (parts : List Value) (i : ℕ) (field : Field) (part : Value) → i < length fields →
    i < length parts → field ≡ get_or fields i field → part ≡ get_or parts i part →
    sum_by field_size (take (i + 1) (zip fields parts))
    ≡ sum_by field_size (take i (zip fields parts)) + size_of field.kind part
size_of_fields-more fields parts i field part hf hp ef ep =
    ap (sum_by field_size) (take-zip-more fields parts i field part hf hp ef ep)
    ∙ sum_by-append field_size (take i (zip fields parts)) ((field, part) ∷ [])
    ∙ ap (λ (size : ℕ). sum_by field_size (take i (zip fields parts)) + size) (zero-add (size_of field.kind part))
