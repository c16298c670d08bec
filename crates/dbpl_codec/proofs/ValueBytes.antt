-- The spelling of a value, one level at a time.
use Rattle.std.proofs.Common.{◌≡◌, ◌+◌, ◌<◌, ◌^◌, ◌&&◌, ℕ, Bool, true, false, arith, List, [], ◌∷◌, ◌++◌, length, take, get_or, refl, sym, ap, ◌∙◌}
use Rattle.std.proofs.lemmas.Bool.Decides.{nat_tests}
use Rattle.std.specs.Cmp.{first_so, second_so}
use Rattle.std.specs.Cmp.Derive.{both_true}
use Rattle.std.specs.List.{flat_map, list_all, zip}
use Rattle.std.proofs.lemmas.List.{flat_map_more, take_more}
use Rattle.dbpl_value.proofs.Pairs.{flat_map-zip_map, list_all-zip_map, take-zip-more}
use Rattle.dbpl_value.proofs.TypeParts.{by_answers-out}
use Rattle.dbpl_value.specs.Keys.{parts_of}
use Rattle.dbpl_value.specs.declared.db_type.DbType.{DbType}
use Rattle.dbpl_value.specs.declared.db_type.DbType.TheVariants as types
use Rattle.dbpl_value.specs.declared.db_type.DbType.TheVariants.{outs-Rec, outs-Rel}
use Rattle.dbpl_value.specs.declared.field.Field.{Field}
use Rattle.dbpl_value.specs.declared.value.Value.{Value}
use Rattle.dbpl_codec.specs.Numbers.{count_bytes, count_fits}
use Rattle.dbpl_codec.specs.ValueSpelling.{bytes_level, bytes_of, fits_level, value_fits}

-- the spelling of a field's part
abbrev pub field_bytes : Field × Value → List ℕ
field_bytes pair = bytes_of pair.0.kind pair.1

pub bytes_of-Rec :
    (fields : List Field) (v : Value) →
    bytes_of (types.Rec fields) v ≡ flat_map field_bytes (zip fields (parts_of v))
bytes_of-Rec fields v =
    let whole = by_answers-out (Value → List ℕ) bytes_level (types.Rec fields) in
    rw (whole, outs-Rec fields) (flat_map-zip_map (λ (field : Field) (part : Value). bytes_of field.kind part) fields (parts_of v))

pub bytes_of-Rel :
    (keys : List (List ℕ)) (record_type : DbType) (v : Value) →
    bytes_of (types.Rel keys record_type) v ≡ count_bytes (parts_of v) ++ flat_map (bytes_of record_type) (parts_of v)
bytes_of-Rel keys record_type v =
    let whole = by_answers-out (Value → List ℕ) bytes_level (types.Rel keys record_type) in
    rw (whole, outs-Rel keys record_type) refl

-- one more pair is spelled behind those before it
pub pairs-more :
    {A B : Type 0} (f : A × B → List ℕ) (xs : List A) (ys : List B) (i : ℕ) (x : A) (y : B) (old written next : List ℕ) →
    i < length xs → i < length ys → x ≡ get_or xs i x → y ≡ get_or ys i y →
    written ≡ old ++ flat_map f (take i (zip xs ys)) → next ≡ written ++ f (x, y) →
    next ≡ old ++ flat_map f (take (i + 1) (zip xs ys))
pairs-more f xs ys i x y old written next hx hy ex ey before e =
    e ∙ ap (λ (bytes : List ℕ). bytes ++ f (x, y)) before ∙ flat_map_more f old (take i (zip xs ys)) (x, y)
    ∙ ap (λ pairs. old ++ flat_map f pairs) (sym (take-zip-more xs ys i x y hx hy ex ey))

-- ---- what fits

-- the test of a field's part
abbrev pub field_fits : Field × Value → Bool
field_fits pair = value_fits pair.0.kind pair.1

pub value_fits-Rec :
    (fields : List Field) (v : Value) →
    value_fits (types.Rec fields) v ≡ list_all field_fits (zip fields (parts_of v))
value_fits-Rec fields v =
    let whole = by_answers-out (Value → Bool) fits_level (types.Rec fields) in
    rw (whole, outs-Rec fields) (list_all-zip_map (λ (field : Field) (part : Value). value_fits field.kind part) fields (parts_of v))

pub value_fits-Rel :
    (keys : List (List ℕ)) (record_type : DbType) (v : Value) →
    value_fits (types.Rel keys record_type) v ≡ (count_fits (parts_of v) && list_all (value_fits record_type) (parts_of v))
value_fits-Rel keys record_type v =
    let whole = by_answers-out (Value → Bool) fits_level (types.Rel keys record_type) in
    rw (whole, outs-Rel keys record_type) refl

both_pass : (a b : Bool) → a ≡ true → (a && b) ≡ b
both_pass true b h = refl
both_pass false b h = cc

-- a relation whose count fits, fits where its records do
pub value_fits-counted :
    (keys : List (List ℕ)) (record_type : DbType) (v : Value) → length (parts_of v) < 2 ^ 32 →
    value_fits (types.Rel keys record_type) v ≡ list_all (value_fits record_type) (parts_of v)
value_fits-counted keys record_type v lt =
    value_fits-Rel keys record_type v
    ∙ both_pass (count_fits (parts_of v)) (list_all (value_fits record_type) (parts_of v))
    (grind (arith, nat_tests))

-- one more item passes
pub all-more :
    {A : Type 0} (p : A → Bool) (xs : List A) (x : A) → list_all p xs ≡ true → p x ≡ true → list_all p (xs ++ x ∷ []) ≡ true
all-more p [] x h g = both_true g refl
all-more p (y ∷ ys) x h g =
    both_true (first_so (p y) (list_all p ys) h) (all-more p ys x (second_so (p y) (list_all p ys) h) g)

pub pairs_fit-more :
    {A B : Type 0} (p : A × B → Bool) (xs : List A) (ys : List B) (i : ℕ) (x : A) (y : B) → i < length xs → i < length ys →
    x ≡ get_or xs i x → y ≡ get_or ys i y → list_all p (take i (zip xs ys)) ≡ true → p (x, y) ≡ true →
    list_all p (take (i + 1) (zip xs ys)) ≡ true
pairs_fit-more p xs ys i x y hx hy ex ey h g =
    ap (λ pairs. list_all p pairs) (take-zip-more xs ys i x y hx hy ex ey) ∙ all-more p (take i (zip xs ys)) (x, y) h g

pub take_item :
    {A : Type 0} (xs : List A) (i : ℕ) (x : A) → i < length xs → x ≡ get_or xs i x → take (i + 1) xs ≡ take i xs ++ x ∷ []
take_item xs i x h e = take_more xs i x h ∙ ap (λ (y : _). take i xs ++ y ∷ []) (sym e)
