-- A value with another part of the same type and key is still of its type.
use Rattle.std.proofs.Common.{◌≡◌, ℕ, zero, suc, Bool, true, List, [], ◌∷◌, map, length, Option, Some, None, refl, ap, sym, ◌∙◌, arith}
use Rattle.std.proofs.lemmas.Bool.{eqb-true}
use Rattle.std.proofs.lemmas.List.{length-map}
use Rattle.std.proofs.Math.ListN.{length-set}
use Rattle.std.specs.Cmp.{first_so, second_so}
use Rattle.std.specs.Cmp.Derive.{both_true}
use Rattle.std.specs.List.{list_all, zip}
use Rattle.std.specs.Option.{option_map_or}
use Rattle.std.specs.Ordering.{is_lt}
use Rattle.std.specs.Prelude.{IfSome, nat_eq, slice_get, slice_set}
use Rattle.dbpl_value.proofs.ValuesLemmas.{is_of-out, is_of-step, list_all-slice_get, number_has_none, tested, type_at_step-part}
use Rattle.dbpl_value.specs.Keys.{key_cmp, key_of, keys_rise, parts_level, parts_of}
use Rattle.dbpl_value.specs.Paths.{KeepsKeys, part_type, part_type_level, place_of, type_at_step, type_at_path, with_part, with_part_at, with_parts}
use Rattle.dbpl_value.specs.Types.{range_level}
use Rattle.dbpl_value.specs.Values.{is_of, is_of_level}
use Rattle.dbpl_value.specs.declared.db_type.DbType.{DbType, DbType-F, out-DbType, roll-DbType, roll-out-DbType}
use Rattle.dbpl_value.specs.declared.db_type.DbType.TheOpen as kinds
use Rattle.dbpl_value.specs.declared.db_type.DbType.TheVariants as types
use Rattle.dbpl_value.specs.declared.db_type.DbType.TheVariants.{rolls-Rel}
use Rattle.dbpl_value.specs.declared.field.Field.{Field}
use Rattle.dbpl_value.specs.declared.step.Step.{Step}
use Rattle.dbpl_value.specs.declared.value.Value.{Value, Value-F, out-Value}
use Rattle.dbpl_value.specs.declared.value.Value.TheOpen as values
use Rattle.dbpl_value.specs.declared.value.Value.TheVariants as value

-- a test of every item, where one item is replaced by one that passes
pub list_all-slice_set :
    {X : Type 0} (p : X → Bool) (xs : List X) (i : ℕ) (x : X) → list_all p xs ≡ true → p x ≡ true →
    list_all p (slice_set xs i x) ≡ true
list_all-slice_set p [] i x h g = refl
list_all-slice_set p (y ∷ ys) zero x h g = both_true g (second_so (p y) (list_all p ys) h)
list_all-slice_set p (y ∷ ys) (suc i) x h g =
    both_true (first_so (p y) (list_all p ys) h) (list_all-slice_set p ys i x (second_so (p y) (list_all p ys) h) g)

-- keys rise still where a record is replaced by one with its key
pub keys_rise-slice_set :
    (t : DbType) (records : List Value) (i : ℕ) (old new : Value) → keys_rise t records ≡ true →
    slice_get records i ≡ Some old → key_of t new ≡ key_of t old → keys_rise t (slice_set records i new) ≡ true
keys_rise-slice_set t [] i old new h e same = refl
keys_rise-slice_set t (x ∷ xs) zero old new h e same =
    let first : x ≡ old = cc in
    let key = same ∙ sym (ap (key_of t) first) in
    both_true
    (ap (λ k. list_all (λ later. is_lt (key_cmp k (key_of t later))) xs) key
    ∙ first_so (list_all (λ later. is_lt (key_cmp (key_of t x) (key_of t later))) xs) (keys_rise t xs) h)
    (second_so (list_all (λ later. is_lt (key_cmp (key_of t x) (key_of t later))) xs) (keys_rise t xs) h)
keys_rise-slice_set t (x ∷ xs) (suc i) old new h e same =
    let above = first_so (list_all (λ later. is_lt (key_cmp (key_of t x) (key_of t later))) xs) (keys_rise t xs) h in
    let below =
    ap (λ k. is_lt (key_cmp (key_of t x) k)) same
    ∙ list_all-slice_get (λ later. is_lt (key_cmp (key_of t x) (key_of t later))) xs i old above e
    in
    both_true (list_all-slice_set (λ later. is_lt (key_cmp (key_of t x) (key_of t later))) xs i new above below)
    (keys_rise-slice_set t xs i old new
    (second_so (list_all (λ later. is_lt (key_cmp (key_of t x) (key_of t later))) xs) (keys_rise t xs) h) e same)

-- the tests of fields, where one part is replaced by one of its field's type
zip_set :
    (fields : List Field) (parts : List Value) (i : ℕ) (part new : Value) (t : DbType) → length parts ≡ length fields →
    list_all (λ (pair : (Value → Bool) × Value). pair.0 pair.1)
    (zip (map (λ (field : Field × (Value → Bool)). field.1) (map (λ (field : Field). (field, is_of field.kind)) fields)) parts)
    ≡ true →
    slice_get parts i ≡ Some part →
    is_of (option_map_or (λ (field : Field). field.kind) (slice_get fields i) t) new ≡ true →
    list_all (λ (pair : (Value → Bool) × Value). pair.0 pair.1)
    (zip (map (λ (field : Field × (Value → Bool)). field.1) (map (λ (field : Field). (field, is_of field.kind)) fields))
    (slice_set parts i new))
    ≡ true
zip_set [] parts i part new t long h e typed = refl
zip_set (f ∷ fs) [] i part new t long h e typed = refl
zip_set (f ∷ fs) (w ∷ ws) zero part new t long h e typed = both_true typed (second_so (is_of f.kind w) _ h)
zip_set (f ∷ fs) (w ∷ ws) (suc i) part new t long h e typed =
    both_true (first_so (is_of f.kind w) _ h)
    (zip_set fs ws i part new t (omega arith) (second_so (is_of f.kind w) _ h) e typed)

level_with :
    (t : DbType) (level : DbType-F DbType Field) (v : Value-F Value) (place : ℕ) (part new : Value) → level ≡ out-DbType t →
    is_of_level (tested level) v ≡ true → slice_get (parts_level v) place ≡ Some part →
    is_of (part_type_level t place level) new ≡ true → key_of t new ≡ key_of t part →
    is_of_level (tested level) (out-Value (with_parts v (slice_set (parts_level v) place new))) ≡ true
level_with t kinds.Int v place part new o h e typed same =
    absurd (number_has_none (range_level {X = DbType} {Y = Field} kinds.Int) v place part h e)
level_with t kinds.Card v place part new o h e typed same =
    absurd (number_has_none (range_level {X = DbType} {Y = Field} kinds.Card) v place part h e)
level_with t kinds.Bool v place part new o h e typed same =
    absurd (number_has_none (range_level {X = DbType} {Y = Field} kinds.Bool) v place part h e)
level_with t kinds.Char v place part new o h e typed same =
    absurd (number_has_none (range_level {X = DbType} {Y = Field} kinds.Char) v place part h e)
level_with t (kinds.Enum names) v place part new o h e typed same =
    absurd (number_has_none (range_level {X = DbType} {Y = Field} (kinds.Enum names)) v place part h e)
level_with t (kinds.Sub host least greatest) v place part new o h e typed same =
    absurd (number_has_none (range_level {X = DbType} {Y = Field} (kinds.Sub host least greatest)) v place part h e)
level_with t (kinds.Arr index element) (values.Num n) place part new o h e typed same = cc
level_with t (kinds.Arr index element) (values.Arr parts) place part new o h e typed same =
    rw (value.outs-Arr (slice_set parts place new), length-set)
    (both_true (first_so (nat_eq (length parts) _) _ h)
    (list_all-slice_set (is_of element) parts place new (second_so (nat_eq (length parts) _) _ h) typed))
level_with t (kinds.Arr index element) (values.Rec parts) place part new o h e typed same = cc
level_with t (kinds.Arr index element) (values.Rel parts) place part new o h e typed same = cc
level_with t (kinds.Rec fields) (values.Num n) place part new o h e typed same = cc
level_with t (kinds.Rec fields) (values.Arr parts) place part new o h e typed same = cc
level_with t (kinds.Rec fields) (values.Rec parts) place part new o h e typed same =
    let long = eqb-true (length parts) _ (first_so (nat_eq (length parts) _) _ h) ∙ simp length-map in
    rw (value.outs-Rec (slice_set parts place new), length-set)
    (both_true (first_so (nat_eq (length parts) _) _ h)
    (zip_set fields parts place part new t long (second_so (nat_eq (length parts) _) _ h) e typed))
level_with t (kinds.Rec fields) (values.Rel parts) place part new o h e typed same = cc
level_with t (kinds.Rel keys record_type) (values.Num n) place part new o h e typed same = cc
level_with t (kinds.Rel keys record_type) (values.Arr parts) place part new o h e typed same = cc
level_with t (kinds.Rel keys record_type) (values.Rec parts) place part new o h e typed same = cc
level_with t (kinds.Rel keys record_type) (values.Rel parts) place part new o h e typed same =
    let whole = sym (rolls-Rel keys record_type) ∙ ap roll-DbType o ∙ roll-out-DbType t in
    let one_key = ap (λ (k : DbType). key_of k new) whole ∙ same ∙ sym (ap (λ (k : DbType). key_of k part) whole) in
    rw (value.outs-Rel (slice_set parts place new))
    (both_true
    (list_all-slice_set (is_of record_type) parts place new
    (first_so (list_all (is_of record_type) parts) (keys_rise (types.Rel keys record_type) parts) h) typed)
    (keys_rise-slice_set (types.Rel keys record_type) parts place part new
    (second_so (list_all (is_of record_type) parts) (keys_rise (types.Rel keys record_type) parts) h) e one_key))

-- a value with another part
pub is_of-with_part :
    (t : DbType) (v : Value) (place : ℕ) (part new : Value) → is_of t v ≡ true → slice_get (parts_of v) place ≡ Some part →
    is_of (part_type t place) new ≡ true → key_of t new ≡ key_of t part → is_of t (with_part v place new) ≡ true
is_of-with_part t v place part new h e typed same =
    is_of-out t (with_part v place new)
    ∙ level_with t (out-DbType t) (out-Value v) place part new refl (sym (is_of-out t v) ∙ h) e typed same

-- a value with `new` at a path
pub is_of-with_part_at :
    (t : DbType) (v : Value) (path : List Step) (new : Value) → is_of t v ≡ true → is_of (type_at_path t path) new ≡ true →
    KeepsKeys t v path new → is_of t (with_part_at t v path new) ≡ true
is_of-with_part_at t v [] new h typed keeps = typed
is_of-with_part_at t v (next ∷ path) new h typed keeps =
    by_part (λ part of_type kept. is_of-with_part_at (type_at_step t next) part path new of_type typed kept)
    (slice_get (parts_of v) (place_of t v next)) refl keeps
  where
    by_part :
        ((part : Value) → is_of (type_at_step t next) part ≡ true → KeepsKeys (type_at_step t next) part path new →
        is_of (type_at_step t next) (with_part_at (type_at_step t next) part path new) ≡ true) →
        (o : Option Value) → slice_get (parts_of v) (place_of t v next) ≡ o →
        IfSome o (λ part. (key_of t (with_part_at (type_at_step t next) part path new) ≡ key_of t part)
        × KeepsKeys (type_at_step t next) part path new) →
        is_of t (option_map_or (λ part. with_part v (place_of t v next) (with_part_at (type_at_step t next) part path new)) o v) ≡ true
    by_part deeper None e keeps = h
    by_part deeper (Some part) e keeps =
        let inner = deeper part (is_of-step t v next part h e) keeps.1 in
        is_of-with_part t v (place_of t v next) part (with_part_at (type_at_step t next) part path new) h e
        (ap (λ (k : DbType). is_of k (with_part_at (type_at_step t next) part path new)) (type_at_step-part t v next part h e) ∙ inner) keeps.0
