-- The values of a type, one level at a time.
use Rattle.std.proofs.Common.{◌≡◌, ℕ, zero, suc, Bool, true, List, [], ◌∷◌, map, length, Option, Some, None, refl, ap, sym, subst, ◌∙◌, arith}
use Rattle.std.proofs.lemmas.Bool.{eqb-true}
use Rattle.std.proofs.lemmas.List.{length-map}
use Rattle.std.specs.Cmp.{first_so, second_so}
use Rattle.std.specs.List.{list_all, slice_get, zip}
use Rattle.std.specs.Option.{option_map_or}
use Rattle.std.specs.Prelude.{nat_eq}
use Rattle.dbpl_value.proofs.TypeParts.{by_parts-out}
use Rattle.dbpl_value.specs.Keys.{has_key, key_from, keys_rise, parts_level, parts_of}
use Rattle.dbpl_value.specs.Paths.{part_type, part_type_level, place_of, place_of_key, type_at_step}
use Rattle.dbpl_value.specs.Types.{element_level, range_level}
use Rattle.dbpl_value.specs.Values.{is_number, is_of, is_of_level}
use Rattle.dbpl_value.specs.declared.db_type.DbType.{DbType, DbType-F, map-DbType, out-DbType, roll-DbType, roll-out-DbType}
use Rattle.dbpl_value.specs.declared.db_type.DbType.TheOpen as kinds
use Rattle.dbpl_value.specs.declared.db_type.DbType.TheVariants as types
use Rattle.dbpl_value.specs.declared.db_type.DbType.TheVariants.{rolls-Rel}
use Rattle.dbpl_value.specs.declared.field.Field.{Field}
use Rattle.dbpl_value.specs.declared.range.Range.{Range}
use Rattle.dbpl_value.specs.declared.step.Step.{Step}
use Rattle.dbpl_value.specs.declared.step.Step.TheVariants as step
use Rattle.dbpl_value.specs.declared.value.Value.{Value, Value-F, out-Value}
use Rattle.dbpl_value.specs.declared.value.Value.TheOpen as values
use Rattle.dbpl_value.specs.declared.value.Value.TheVariants as value
use Rattle.dbpl_value.specs.declared.value.Value.TheVariants.{outs-Rel}

-- a test that holds of every item holds of the one at a position
pub list_all-slice_get :
    {X : Type 0} (p : X → Bool) (xs : List X) (i : ℕ) (x : X) → list_all p xs ≡ true → slice_get xs i ≡ Some x →
    p x ≡ true
list_all-slice_get p [] i x h e = cc
list_all-slice_get p (y ∷ ys) zero x h e =
    let same : y ≡ x = cc in
    rw (← same) (first_so (p y) (list_all p ys) h)
list_all-slice_get p (y ∷ ys) (suc i) x h e = list_all-slice_get p ys i x (second_so (p y) (list_all p ys) h) e

-- the tests that the types in one level of a type make
abbrev pub tested : DbType-F DbType Field → DbType-F (DbType × (Value → Bool)) (Field × (Value → Bool))
tested level =
    map-DbType DbType Field (DbType × (Value → Bool)) (Field × (Value → Bool)) (λ part. (part, is_of part))
    (λ field. (field, is_of field.kind)) level

pub is_of-out : (t : DbType) (v : Value) → is_of t v ≡ is_of_level (tested (out-DbType t)) (out-Value v)
is_of-out t v =
    ap (λ (test : Value → Bool). test v) (by_parts-out (Value → Bool) (λ level w. is_of_level level (out-Value w)) t)

-- the field beside a part, and the part's test
zip-test :
    (fields : List Field) (parts : List Value) (i : ℕ) (part : Value) (t : DbType) → length parts ≡ length fields →
    list_all (λ (pair : (Value → Bool) × Value). pair.0 pair.1)
    (zip (map (λ (field : Field × (Value → Bool)). field.1) (map (λ (field : Field). (field, is_of field.kind)) fields)) parts)
    ≡ true →
    slice_get parts i ≡ Some part →
    is_of (option_map_or (λ (field : Field). field.kind) (slice_get fields i) t) part ≡ true
zip-test [] [] i part t long h e = cc
zip-test [] (w ∷ ws) i part t long h e = absurd (omega arith)
zip-test (f ∷ fs) [] i part t long h e = cc
zip-test (f ∷ fs) (w ∷ ws) zero part t long h e =
    let same : w ≡ part = cc in
    rw (← same) (first_so (is_of f.kind w) _ h)
zip-test (f ∷ fs) (w ∷ ws) (suc i) part t long h e =
    zip-test fs ws i part t (omega arith) (second_so (is_of f.kind w) _ h) e

pub number_has_none :
    (range : Option Range) (v : Value-F Value) (place : ℕ) (part : Value) → is_number range v ≡ true →
    slice_get (parts_level v) place ≡ Some part → ⊥
number_has_none None v place part h e = cc
number_has_none (Some range) (values.Num n) place part h e = cc
number_has_none (Some range) (values.Arr parts) place part h e = cc
number_has_none (Some range) (values.Rec parts) place part h e = cc
number_has_none (Some range) (values.Rel parts) place part h e = cc

none_behind : {X : Type 0} (xs : List X) → slice_get xs (length xs) ≡ None
none_behind [] = refl
none_behind (x ∷ xs) = none_behind xs

part_is_of :
    (t : DbType) (level : DbType-F DbType Field) (v : Value-F Value) (place : ℕ) (part : Value) →
    is_of_level (tested level) v ≡ true → slice_get (parts_level v) place ≡ Some part →
    is_of (part_type_level t place level) part ≡ true
part_is_of t kinds.Int v place part h e = absurd (number_has_none (range_level {X = DbType} {Y = Field} kinds.Int) v place part h e)
part_is_of t kinds.Card v place part h e = absurd (number_has_none (range_level {X = DbType} {Y = Field} kinds.Card) v place part h e)
part_is_of t kinds.Bool v place part h e = absurd (number_has_none (range_level {X = DbType} {Y = Field} kinds.Bool) v place part h e)
part_is_of t kinds.Char v place part h e = absurd (number_has_none (range_level {X = DbType} {Y = Field} kinds.Char) v place part h e)
part_is_of t (kinds.Enum names) v place part h e =
    absurd (number_has_none (range_level {X = DbType} {Y = Field} (kinds.Enum names)) v place part h e)
part_is_of t (kinds.Sub host least greatest) v place part h e =
    absurd (number_has_none (range_level {X = DbType} {Y = Field} (kinds.Sub host least greatest)) v place part h e)
part_is_of t (kinds.Arr index element) (values.Num n) place part h e = cc
part_is_of t (kinds.Arr index element) (values.Arr parts) place part h e =
    list_all-slice_get (is_of element) parts place part (second_so _ (list_all (is_of element) parts) h) e
part_is_of t (kinds.Arr index element) (values.Rec parts) place part h e = cc
part_is_of t (kinds.Arr index element) (values.Rel parts) place part h e = cc
part_is_of t (kinds.Rec fields) (values.Num n) place part h e = cc
part_is_of t (kinds.Rec fields) (values.Arr parts) place part h e = cc
part_is_of t (kinds.Rec fields) (values.Rec parts) place part h e =
    let long = eqb-true (length parts) _ (first_so (nat_eq (length parts) _) _ h) in
    zip-test fields parts place part t (long ∙ simp length-map) (second_so (nat_eq (length parts) _) _ h) e
part_is_of t (kinds.Rec fields) (values.Rel parts) place part h e = cc
part_is_of t (kinds.Rel keys record_type) (values.Num n) place part h e = cc
part_is_of t (kinds.Rel keys record_type) (values.Arr parts) place part h e = cc
part_is_of t (kinds.Rel keys record_type) (values.Rec parts) place part h e = cc
part_is_of t (kinds.Rel keys record_type) (values.Rel parts) place part h e =
    list_all-slice_get (is_of record_type) parts place part (first_so (list_all (is_of record_type) parts) _ h) e

-- a part of a value of a type is of the type of that part
pub is_of-part :
    (t : DbType) (v : Value) (place : ℕ) (part : Value) → is_of t v ≡ true → slice_get (parts_of v) place ≡ Some part →
    is_of (part_type t place) part ≡ true
is_of-part t v place part h e = part_is_of t (out-DbType t) (out-Value v) place part (sym (is_of-out t v) ∙ h) e

key_step :
    (t : DbType) (level : DbType-F DbType Field) (v : Value-F Value) (test : Value → Bool) (part : Value) →
    is_of_level (tested level) v ≡ true → slice_get (parts_level v) (place_of_key test v) ≡ Some part →
    part_type_level t (place_of_key test v) level ≡ element_level t level
key_step t kinds.Int v test part h e = refl
key_step t kinds.Card v test part h e = refl
key_step t kinds.Bool v test part h e = refl
key_step t kinds.Char v test part h e = refl
key_step t (kinds.Enum names) v test part h e = refl
key_step t (kinds.Sub host least greatest) v test part h e = refl
key_step t (kinds.Arr index element) v test part h e = refl
key_step t (kinds.Rec fields) (values.Num n) test part h e = cc
key_step t (kinds.Rec fields) (values.Arr parts) test part h e = cc
key_step t (kinds.Rec fields) (values.Rec parts) test part h e = let none = none_behind parts in cc
key_step t (kinds.Rec fields) (values.Rel parts) test part h e = cc
key_step t (kinds.Rel keys record_type) v test part h e = refl

-- the part to which a step leads stands where its type is that at the step
pub type_at_step-part :
    (t : DbType) (v : Value) (next : Step) (part : Value) → is_of t v ≡ true →
    slice_get (parts_of v) (place_of t v next) ≡ Some part → part_type t (place_of t v next) ≡ type_at_step t next
type_at_step-part t v (step.Field number) part h e = refl
type_at_step-part t v (step.Index number) part h e = refl
type_at_step-part t v (step.Key components) part h e =
    key_step t (out-DbType t) (out-Value v) (has_key t (key_from components)) part (sym (is_of-out t v) ∙ h) e

-- the part to which a step leads is of the type at that step
pub is_of-step :
    (t : DbType) (v : Value) (next : Step) (part : Value) → is_of t v ≡ true →
    slice_get (parts_of v) (place_of t v next) ≡ Some part → is_of (type_at_step t next) part ≡ true
is_of-step t v next part h e =
    subst (λ (kind : DbType). is_of kind part ≡ true) (type_at_step-part t v next part h e)
    (is_of-part t v (place_of t v next) part h e)

relation_rises :
    (t : DbType) (records : List Value) (level : DbType-F DbType Field) → level ≡ out-DbType t →
    is_of_level (tested level) (values.Rel records) ≡ true → keys_rise t records ≡ true
relation_rises t records kinds.Int e h = cc
relation_rises t records kinds.Card e h = cc
relation_rises t records kinds.Bool e h = cc
relation_rises t records kinds.Char e h = cc
relation_rises t records (kinds.Enum names) e h = cc
relation_rises t records (kinds.Sub host least greatest) e h = cc
relation_rises t records (kinds.Arr index element) e h = cc
relation_rises t records (kinds.Rec fields) e h = cc
relation_rises t records (kinds.Rel keys record_type) e h =
    let same = sym (rolls-Rel keys record_type) ∙ ap roll-DbType e ∙ roll-out-DbType t in
    subst (λ (x : DbType). keys_rise x records ≡ true) same
    (second_so (list_all (is_of record_type) records) (keys_rise (types.Rel keys record_type) records) h)

-- the keys of a relation of a type rise
pub is_of-keys_rise :
    (t : DbType) (records : List Value) → is_of t (value.Rel records) ≡ true → keys_rise t records ≡ true
is_of-keys_rise t records h =
    relation_rises t records (out-DbType t) refl
    (ap (is_of_level (tested (out-DbType t))) (sym (outs-Rel records)) ∙ sym (is_of-out t (value.Rel records)) ∙ h)
