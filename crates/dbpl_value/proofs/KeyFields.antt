-- The keys of a relation among the names of the fields that may be keys.
use Rattle.std.proofs.Common.{◌≡◌, ℕ, Bool, true, false, ◌&&◌, ◌||◌, List, [], ◌∷◌, map, filter, if◌then◌else◌, refl, ap, sym, ◌∙◌}
use Rattle.std.proofs.lemmas.Bool.{and_right}
use Rattle.std.specs.List.{list_all, list_any}
use Rattle.dbpl_value.specs.Types.{is_char_array, is_key_field, is_ordinal, is_same_name}
use Rattle.dbpl_value.specs.declared.field.Field.{Field}
use Rattle.dbpl_value.proofs.FieldNames.{name_of}

abbrev pub may_be_key : Field → Bool
may_be_key field = if is_ordinal field.kind then true else is_char_array field.kind

pub any_key :
    (key : List ℕ) (fields : List Field) →
    list_any (is_same_name key) (map name_of (filter may_be_key fields)) ≡ list_any (is_key_field key) fields
any_key key [] = refl
any_key key (field ∷ fields) = by_kind (may_be_key field) refl (any_key key fields)
  where
    and-true : (b : Bool) → b ≡ (b && true)
    and-true true = refl
    and-true false = refl

    by_kind :
        (b : Bool) → may_be_key field ≡ b →
        list_any (is_same_name key) (map name_of (filter may_be_key fields)) ≡ list_any (is_key_field key) fields →
        list_any (is_same_name key) (map name_of (filter may_be_key (field ∷ fields)))
        ≡ list_any (is_key_field key) (field ∷ fields)
    by_kind true e rest =
        rw e (ap (λ (b : Bool). is_same_name key field.name || b) rest
        ∙ ap (λ (b : Bool). b || list_any (is_key_field key) fields) (and-true (is_same_name key field.name)))
    by_kind false e rest =
        rw e (rest
        ∙ ap (λ (b : Bool). b || list_any (is_key_field key) fields) (sym (and_right (is_same_name key field.name) false refl)))

-- two tests that agree pass the same lists
pub all-same : {X : Type 0} (p q : X → Bool) → ((x : X) → p x ≡ q x) → (xs : List X) → list_all p xs ≡ list_all q xs
all-same p q same [] = refl
all-same p q same (x ∷ xs) = λ i. same x i && all-same p q same xs i
