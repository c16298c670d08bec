-- The start value of a type is of that type.
use Rattle.std.proofs.Common.{◌≡◌, ℕ, zero, suc, Bool, true, false, if◌then◌else◌, List, [], ◌∷◌, map, length, replicate, Some, refl, ap, sym, ◌∙◌, arith}
use Rattle.std.proofs.lemmas.Bool.Decides.{nat_tests}
use Rattle.std.proofs.lemmas.Int.{ints}
use Rattle.std.proofs.lemmas.List.{length-map, length-replicate}
use Rattle.std.proofs.lemmas.List.Folds.{list_all-append}
use Rattle.std.specs.Cmp.{first_so, second_so}
use Rattle.std.specs.Cmp.Derive.{both_true}
use Rattle.std.specs.List.{flat_map, list_all, zip}
use Rattle.std.specs.Prelude.{ℤ, negsuc, pos, ◌-ℤ◌, int_le, nat_eq}
use Rattle.dbpl_value.proofs.StartLemmas.{started}
use Rattle.dbpl_value.proofs.TypeParts.{by_parts-out, type_induction}
use Rattle.dbpl_value.proofs.ValuesLemmas.{is_of-out, tested}
use Rattle.dbpl_value.specs.Types.{count_of, inside, inside_level, is_in, is_sound, is_sound_level, is_type, keeps_rules}
use Rattle.dbpl_value.specs.Values.{is_number, is_of, is_of_level, start_level, start_number, start_value_of}
use Rattle.dbpl_value.specs.declared.db_type.DbType.{DbType, DbType-F, map-DbType, out-DbType, out-roll-DbType, roll-DbType}
use Rattle.dbpl_value.specs.declared.db_type.DbType.TheOpen as kinds
use Rattle.dbpl_value.specs.declared.field.Field.{Field}
use Rattle.dbpl_value.specs.declared.range.Range.{Range}
use Rattle.dbpl_value.specs.declared.value.Value.{Value, out-Value}
use Rattle.dbpl_value.specs.declared.value.Value.TheVariants as value

abbrev IsTyped : DbType → Type 0
IsTyped t = is_sound t ≡ true → is_of t (start_value_of t) ≡ true

abbrev Held : Type 0
Held = DbType-F ((t : DbType) × IsTyped t) ((field : Field) × IsTyped field.kind)

abbrev plain : Held → DbType-F DbType Field
plain level =
    map-DbType ((t : DbType) × IsTyped t) ((field : Field) × IsTyped field.kind) DbType Field (λ held. held.0) (λ held. held.0)
    level

abbrev insides : DbType-F DbType Field → DbType-F (DbType × List DbType) (Field × List DbType)
insides level =
    map-DbType DbType Field (DbType × List DbType) (Field × List DbType) (λ part. (part, inside part))
    (λ field. (field, inside field.kind)) level

int_le-refl : (n : ℤ) → int_le n n ≡ true
int_le-refl n = grind (arith, ints)

start_in : (range : Range) → int_le range.least range.greatest ≡ true → is_in range (start_number range) ≡ true
start_in range h = by_zero (is_in range (pos 0)) refl
  where
    by_zero : (b : Bool) → is_in range (pos 0) ≡ b → is_in range (if b then pos 0 else range.least) ≡ true
    by_zero true e = e
    by_zero false e = both_true (int_le-refl range.least) h

number_typed :
    (range : Range) → int_le range.least range.greatest ≡ true →
    is_number (Some range) (out-Value (value.Num (start_number range))) ≡ true
number_typed range h = rw (value.outs-Num (start_number range)) (start_in range h)

none_below : (names : List (List ℕ)) (name : List ℕ) → int_le (pos 0) (pos (length (name ∷ names)) -ℤ pos 1) ≡ true
none_below names name = grind (arith, ints)

list_all-replicate : {X : Type 0} (p : X → Bool) (n : ℕ) (x : X) → p x ≡ true → list_all p (replicate n x) ≡ true
list_all-replicate p zero x h = refl
list_all-replicate p (suc n) x h = both_true h (list_all-replicate p n x h)

nat_eq-refl : (n : ℕ) → nat_eq n n ≡ true
nat_eq-refl n = grind (arith, nat_tests)

long_alike :
    (fields : List Field) →
    nat_eq (length (map (λ (field : Field × Value). field.1) (map (λ (field : Field). (field, start_value_of field.kind)) fields)))
    (length (map (λ (field : Field × (Value → Bool)). field.1) (map (λ (field : Field). (field, is_of field.kind)) fields)))
    ≡ true
long_alike fields = simp length-map (nat_eq-refl (length fields))

record_typed :
    (held : List ((field : Field) × IsTyped field.kind)) →
    list_all keeps_rules (flat_map (λ (field : Field × List DbType). field.0.kind ∷ field.1)
    (map (λ (field : Field). (field, inside field.kind)) (map (λ (h : (field : Field) × IsTyped field.kind). h.0) held)))
    ≡ true →
    list_all (λ (pair : (Value → Bool) × Value). pair.0 pair.1) (zip
    (map (λ (field : Field × (Value → Bool)). field.1)
    (map (λ (field : Field). (field, is_of field.kind)) (map (λ (h : (field : Field) × IsTyped field.kind). h.0) held)))
    (map (λ (field : Field × Value). field.1)
    (map (λ (field : Field). (field, start_value_of field.kind)) (map (λ (h : (field : Field) × IsTyped field.kind). h.0) held))))
    ≡ true
record_typed [] h = refl
record_typed (field ∷ held) h =
    let both = sym (list_all-append keeps_rules (field.0.kind ∷ inside field.0.kind) _) ∙ h in
    both_true (field.1 (first_so (is_sound field.0.kind) _ both)) (record_typed held (second_so (is_sound field.0.kind) _ both))

level_typed :
    (level : Held) → is_sound_level (plain level) ≡ true →
    list_all keeps_rules (inside_level (insides (plain level))) ≡ true →
    is_of_level (tested (plain level)) (out-Value (start_level (started (plain level)))) ≡ true
level_typed kinds.Int own within =
    number_typed (record { least = negsuc 2147483647; greatest = pos 2147483647 }) refl
level_typed kinds.Card own within = number_typed (record { least = pos 0; greatest = pos 4294967295 }) refl
level_typed kinds.Bool own within = number_typed (record { least = pos 0; greatest = pos 1 }) refl
level_typed kinds.Char own within = number_typed (record { least = pos 0; greatest = pos 255 }) refl
level_typed (kinds.Enum []) own within = cc
level_typed (kinds.Enum (name ∷ names)) own within =
    number_typed (record { least = pos 0; greatest = pos (length (name ∷ names)) -ℤ pos 1 }) (none_below names name)
level_typed (kinds.Sub host least greatest) own within =
    number_typed (record { least = least; greatest = greatest }) (second_so _ (int_le least greatest) own)
level_typed (kinds.Arr index element) own within =
    let count = count_of index.0 in
    let elements = sym (list_all-append keeps_rules (index.0 ∷ inside index.0) (element.0 ∷ inside element.0)) ∙ within in
    let typed = element.1 (second_so (list_all keeps_rules (index.0 ∷ inside index.0)) (is_sound element.0) elements) in
    rw (value.outs-Arr (replicate count (start_value_of element.0)))
    (both_true (long count (start_value_of element.0)) (list_all-replicate (is_of element.0) count (start_value_of element.0) typed))
  where
    long : (count : ℕ) (v : Value) → nat_eq (length (replicate count v)) count ≡ true
    long count v = rw (length-replicate count v) (nat_eq-refl count)
level_typed (kinds.Rec fields) own within = rw (value.outs-Rec _)
    (both_true (long_alike (map (λ (h : (field : Field) × IsTyped field.kind). h.0) fields)) (record_typed fields within))
level_typed (kinds.Rel keys record_type) own within = rw (value.outs-Rel []) refl

start_value_of-sound : (t : DbType) → IsTyped t
start_value_of-sound = type_induction IsTyped step
  where
    step : (level : Held) → IsTyped (roll-DbType (plain level))
    step level sound =
        let out = out-roll-DbType (plain level) in
        let own =
        ap is_sound_level (sym out)
        ∙ first_so (is_sound_level (out-DbType (roll-DbType (plain level)))) _ (first_so (keeps_rules (roll-DbType (plain level))) _ sound)
        in
        let inner =
        ap (λ (d : DbType-F DbType Field). list_all keeps_rules (inside_level (insides d))) (sym out)
        ∙ sym (ap (list_all keeps_rules) (by_parts-out (List DbType) inside_level (roll-DbType (plain level))))
        ∙ second_so (keeps_rules (roll-DbType (plain level))) _ sound
        in
        is_of-out (roll-DbType (plain level)) (start_value_of (roll-DbType (plain level)))
        ∙ ap (λ (v : Value). is_of_level (tested (out-DbType (roll-DbType (plain level)))) (out-Value v))
        (by_parts-out Value start_level (roll-DbType (plain level)))
        ∙ ap (λ (d : DbType-F DbType Field). is_of_level (tested d) (out-Value (start_level (started d)))) out
        ∙ level_typed level own inner

-- the start value of a type is a value of the type
pub is_of-start_value_of : (t : DbType) → is_type t ≡ true → is_of t (start_value_of t) ≡ true
is_of-start_value_of t h = start_value_of-sound t (first_so (is_sound t) _ (first_so _ _ h))

pub typed_start : (t : DbType) (v : Value) → v ≡ start_value_of t → is_type t ≡ true → is_of t v ≡ true
typed_start t v e h = ap (λ (w : Value). is_of t w) e ∙ is_of-start_value_of t h
