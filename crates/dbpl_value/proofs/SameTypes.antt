-- The test of equality of types answers true exactly for equal types.
use Rattle.std.proofs.Common.{◌≡◌, ℕ, ℤ, ◌&&◌, Bool, true, List, [], ◌∷◌, map, refl, ap, sym, ◌∙◌}
use Rattle.std.proofs.lemmas.Map.Lookups.{exact_signed}
use Rattle.std.specs.Bool.{Decides, one_answer}
use Rattle.std.specs.Cmp.{Equal-is, first_so, second_so}
use Rattle.std.specs.Cmp.Derive.{both_true}
use Rattle.std.specs.Cmp.Lexicographic.{bytes_decides, pointwise_decides}
use Rattle.std.specs.Ordering.{int_cmp, is_eq}
use Rattle.std.specs.Prelude.{IsTrue, ◌↔◌}
use Rattle.dbpl_value.proofs.EqualityLemmas.{int_cmp-own}
use Rattle.dbpl_value.proofs.TypeParts.{type_induction}
use Rattle.dbpl_value.specs.Equality.{are_same_names, each_passes, is_same_field, is_same_kind, is_same_type}
use Rattle.dbpl_value.specs.Types.{is_same_name}
use Rattle.dbpl_value.specs.declared.db_type.DbType.{DbType, DbType-F, fold_out-DbType, map-DbType, out-DbType, out-roll-DbType, roll-DbType, roll-out-DbType}
use Rattle.dbpl_value.specs.declared.db_type.DbType.TheOpen as kinds
use Rattle.dbpl_value.specs.declared.field.Field.{Field, fold_out-Field}

-- ---- one level

-- the test of a field by its name and its type
abbrev same_field : Field → Field → Bool
same_field field other = is_same_name field.name other.name && is_same_type field.kind other.kind

-- the tests that the types in one level of a type make
abbrev tests : DbType-F DbType Field → DbType-F (DbType → Bool) (Field → Bool)
tests level = map-DbType DbType Field (DbType → Bool) (Field → Bool) is_same_type same_field level

abbrev kind_test : DbType-F (DbType → Bool) (Field → Bool) → DbType → Bool
kind_test level u = is_same_kind level (out-DbType u)

is_same_type-out : (t : DbType) → is_same_type t ≡ kind_test (tests (out-DbType t))
is_same_type-out t =
    fold_out-DbType (DbType → Bool) (Field → Bool) kind_test is_same_field t
    ∙ ap {B = DbType → Bool}
    (λ (h : Field → Field → Bool).
    kind_test (map-DbType DbType Field (DbType → Bool) (Field → Bool) is_same_type h (out-DbType t)))
    (λ i field. fold_out-Field (DbType → Bool) (Field → Bool) kind_test is_same_field field i)

is_same_type-level : (t u : DbType) → is_same_type t u ≡ is_same_kind (tests (out-DbType t)) (out-DbType u)
is_same_type-level t u = ap (λ (test : DbType → Bool). test u) (is_same_type-out t)

-- ---- equal where it passes

-- a test of one type that only that type passes
abbrev Tells : DbType → Type 0
Tells t = (u : DbType) → is_same_type t u ≡ true → t ≡ u

abbrev Teller : Type 0
Teller = (field : Field) × Tells field.kind

abbrev Tellers : Type 0
Tellers = DbType-F ((t : DbType) × Tells t) Teller

abbrev plain : Tellers → DbType-F DbType Field
plain level = map-DbType ((t : DbType) × Tells t) Teller DbType Field (λ told. told.0) (λ told. told.0) level

names-tell : (names others : List (List ℕ)) → are_same_names names others ≡ true → names ≡ others
names-tell names others h = (pointwise_decides bytes_decides names others).0 h

number-tells : (n other : ℤ) → is_eq (int_cmp n other) ≡ true → n ≡ other
number-tells n other h = exact_signed n other ((Equal-is (int_cmp n other)).0 h)

field-tells : (told : Teller) (other : Field) → same_field told.0 other ≡ true → told.0 ≡ other
field-tells told other h =
    let name = (bytes_decides told.0.name other.name).0 (first_so (is_same_name told.0.name other.name) _ h) in
    let kind = told.1 other.kind (second_so (is_same_name told.0.name other.name) _ h) in
    λ i. record { name = name i; kind = kind i }

fields-tell :
    (told : List Teller) (fields : List Field) →
    each_passes (map same_field (map (λ (one : Teller). one.0) told)) fields ≡ true →
    map (λ (one : Teller). one.0) told ≡ fields
fields-tell [] [] h = refl
fields-tell [] (field ∷ fields) h = cc
fields-tell (one ∷ told) [] h = cc
fields-tell (one ∷ told) (field ∷ fields) h =
    let first = field-tells one field (first_so (same_field one.0 field) _ h) in
    let rest = fields-tell told fields (second_so (same_field one.0 field) _ h) in
    λ i. first i ∷ rest i

abbrev Level : Type 0
Level = DbType-F DbType Field

abbrev enumeration : List (List ℕ) → Level
enumeration names = kinds.Enum names

abbrev subrange : DbType → ℤ → ℤ → Level
subrange host least greatest = kinds.Sub host least greatest

abbrev array : DbType → DbType → Level
array index element = kinds.Arr index element

abbrev compound : List Field → Level
compound fields = kinds.Rec fields

abbrev relation : List (List ℕ) → DbType → Level
relation keys record_type = kinds.Rel keys record_type

kind-tells : (level : Tellers) (other : Level) → is_same_kind (tests (plain level)) other ≡ true → plain level ≡ other
kind-tells kinds.Int kinds.Int h = refl
kind-tells kinds.Int kinds.Card h = cc
kind-tells kinds.Int kinds.Bool h = cc
kind-tells kinds.Int kinds.Char h = cc
kind-tells kinds.Int (kinds.Enum others) h = cc
kind-tells kinds.Int (kinds.Sub other low high) h = cc
kind-tells kinds.Int (kinds.Arr other_index other_element) h = cc
kind-tells kinds.Int (kinds.Rec others) h = cc
kind-tells kinds.Int (kinds.Rel others other) h = cc
kind-tells kinds.Card kinds.Int h = cc
kind-tells kinds.Card kinds.Card h = refl
kind-tells kinds.Card kinds.Bool h = cc
kind-tells kinds.Card kinds.Char h = cc
kind-tells kinds.Card (kinds.Enum others) h = cc
kind-tells kinds.Card (kinds.Sub other low high) h = cc
kind-tells kinds.Card (kinds.Arr other_index other_element) h = cc
kind-tells kinds.Card (kinds.Rec others) h = cc
kind-tells kinds.Card (kinds.Rel others other) h = cc
kind-tells kinds.Bool kinds.Int h = cc
kind-tells kinds.Bool kinds.Card h = cc
kind-tells kinds.Bool kinds.Bool h = refl
kind-tells kinds.Bool kinds.Char h = cc
kind-tells kinds.Bool (kinds.Enum others) h = cc
kind-tells kinds.Bool (kinds.Sub other low high) h = cc
kind-tells kinds.Bool (kinds.Arr other_index other_element) h = cc
kind-tells kinds.Bool (kinds.Rec others) h = cc
kind-tells kinds.Bool (kinds.Rel others other) h = cc
kind-tells kinds.Char kinds.Int h = cc
kind-tells kinds.Char kinds.Card h = cc
kind-tells kinds.Char kinds.Bool h = cc
kind-tells kinds.Char kinds.Char h = refl
kind-tells kinds.Char (kinds.Enum others) h = cc
kind-tells kinds.Char (kinds.Sub other low high) h = cc
kind-tells kinds.Char (kinds.Arr other_index other_element) h = cc
kind-tells kinds.Char (kinds.Rec others) h = cc
kind-tells kinds.Char (kinds.Rel others other) h = cc
kind-tells (kinds.Enum names) kinds.Int h = cc
kind-tells (kinds.Enum names) kinds.Card h = cc
kind-tells (kinds.Enum names) kinds.Bool h = cc
kind-tells (kinds.Enum names) kinds.Char h = cc
kind-tells (kinds.Enum names) (kinds.Enum others) h = ap enumeration (names-tell names others h)
kind-tells (kinds.Enum names) (kinds.Sub other low high) h = cc
kind-tells (kinds.Enum names) (kinds.Arr other_index other_element) h = cc
kind-tells (kinds.Enum names) (kinds.Rec others) h = cc
kind-tells (kinds.Enum names) (kinds.Rel others other) h = cc
kind-tells (kinds.Sub host least greatest) kinds.Int h = cc
kind-tells (kinds.Sub host least greatest) kinds.Card h = cc
kind-tells (kinds.Sub host least greatest) kinds.Bool h = cc
kind-tells (kinds.Sub host least greatest) kinds.Char h = cc
kind-tells (kinds.Sub host least greatest) (kinds.Enum others) h = cc
kind-tells (kinds.Sub host least greatest) (kinds.Sub other low high) h =
    let host_and_least = first_so (is_same_type host.0 other && is_eq (int_cmp least low)) (is_eq (int_cmp greatest high)) h in
    let same_host = host.1 other (first_so (is_same_type host.0 other) (is_eq (int_cmp least low)) host_and_least) in
    let same_least = number-tells least low (second_so (is_same_type host.0 other) (is_eq (int_cmp least low)) host_and_least) in
    let same_greatest = number-tells greatest high (second_so _ (is_eq (int_cmp greatest high)) h) in
    λ i. subrange (same_host i) (same_least i) (same_greatest i)
kind-tells (kinds.Sub host least greatest) (kinds.Arr other_index other_element) h = cc
kind-tells (kinds.Sub host least greatest) (kinds.Rec others) h = cc
kind-tells (kinds.Sub host least greatest) (kinds.Rel others other) h = cc
kind-tells (kinds.Arr index element) kinds.Int h = cc
kind-tells (kinds.Arr index element) kinds.Card h = cc
kind-tells (kinds.Arr index element) kinds.Bool h = cc
kind-tells (kinds.Arr index element) kinds.Char h = cc
kind-tells (kinds.Arr index element) (kinds.Enum others) h = cc
kind-tells (kinds.Arr index element) (kinds.Sub other low high) h = cc
kind-tells (kinds.Arr index element) (kinds.Arr other_index other_element) h =
    let same_index = index.1 other_index (first_so (is_same_type index.0 other_index) _ h) in
    let same_element = element.1 other_element (second_so (is_same_type index.0 other_index) _ h) in
    λ i. array (same_index i) (same_element i)
kind-tells (kinds.Arr index element) (kinds.Rec others) h = cc
kind-tells (kinds.Arr index element) (kinds.Rel others other) h = cc
kind-tells (kinds.Rec fields) kinds.Int h = cc
kind-tells (kinds.Rec fields) kinds.Card h = cc
kind-tells (kinds.Rec fields) kinds.Bool h = cc
kind-tells (kinds.Rec fields) kinds.Char h = cc
kind-tells (kinds.Rec fields) (kinds.Enum others) h = cc
kind-tells (kinds.Rec fields) (kinds.Sub other low high) h = cc
kind-tells (kinds.Rec fields) (kinds.Arr other_index other_element) h = cc
kind-tells (kinds.Rec fields) (kinds.Rec others) h = ap compound (fields-tell fields others h)
kind-tells (kinds.Rec fields) (kinds.Rel others other) h = cc
kind-tells (kinds.Rel keys record_type) kinds.Int h = cc
kind-tells (kinds.Rel keys record_type) kinds.Card h = cc
kind-tells (kinds.Rel keys record_type) kinds.Bool h = cc
kind-tells (kinds.Rel keys record_type) kinds.Char h = cc
kind-tells (kinds.Rel keys record_type) (kinds.Enum others) h = cc
kind-tells (kinds.Rel keys record_type) (kinds.Sub other low high) h = cc
kind-tells (kinds.Rel keys record_type) (kinds.Arr other_index other_element) h = cc
kind-tells (kinds.Rel keys record_type) (kinds.Rec others) h = cc
kind-tells (kinds.Rel keys record_type) (kinds.Rel others other) h =
    let same_keys = names-tell keys others (first_so (are_same_names keys others) _ h) in
    let same_records = record_type.1 other (second_so (are_same_names keys others) _ h) in
    λ i. relation (same_keys i) (same_records i)

-- types that pass the test are equal
pub is_same_type-equal : (t u : DbType) → is_same_type t u ≡ true → t ≡ u
is_same_type-equal = type_induction Tells step
  where
    step : (level : Tellers) → Tells (roll-DbType (plain level))
    step level u h =
        let passed =
        ap (λ (l : Level). is_same_kind (tests l) (out-DbType u)) (sym (out-roll-DbType (plain level)))
        ∙ sym (is_same_type-level (roll-DbType (plain level)) u) ∙ h
        in
        ap roll-DbType (kind-tells level (out-DbType u) passed) ∙ roll-out-DbType u

-- ---- it passes where they are equal

abbrev Passes : DbType → Type 0
Passes t = is_same_type t t ≡ true

abbrev Passer : Type 0
Passer = (field : Field) × Passes field.kind

abbrev Passers : Type 0
Passers = DbType-F ((t : DbType) × Passes t) Passer

abbrev bare : Passers → DbType-F DbType Field
bare level = map-DbType ((t : DbType) × Passes t) Passer DbType Field (λ passed. passed.0) (λ passed. passed.0) level

names-pass : (names : List (List ℕ)) → are_same_names names names ≡ true
names-pass names = (pointwise_decides bytes_decides names names).1 refl

number-passes : (n : ℤ) → is_eq (int_cmp n n) ≡ true
number-passes n = ap is_eq (int_cmp-own n)

fields-pass :
    (passed : List Passer) →
    each_passes (map same_field (map (λ (one : Passer). one.0) passed)) (map (λ (one : Passer). one.0) passed) ≡ true
fields-pass [] = refl
fields-pass (one ∷ passed) =
    both_true (both_true ((bytes_decides one.0.name one.0.name).1 refl) one.1) (fields-pass passed)

kind-passes : (level : Passers) → is_same_kind (tests (bare level)) (bare level) ≡ true
kind-passes kinds.Int = refl
kind-passes kinds.Card = refl
kind-passes kinds.Bool = refl
kind-passes kinds.Char = refl
kind-passes (kinds.Enum names) = names-pass names
kind-passes (kinds.Sub host least greatest) =
    both_true (both_true host.1 (number-passes least)) (number-passes greatest)
kind-passes (kinds.Arr index element) = both_true index.1 element.1
kind-passes (kinds.Rec fields) = fields-pass fields
kind-passes (kinds.Rel keys record_type) = both_true (names-pass keys) record_type.1

-- and equal types pass it
pub is_same_type-own : (t : DbType) → is_same_type t t ≡ true
is_same_type-own = type_induction Passes step
  where
    step : (level : Passers) → Passes (roll-DbType (bare level))
    step level =
        is_same_type-level (roll-DbType (bare level)) (roll-DbType (bare level))
        ∙ ap (λ (l : Level). is_same_kind (tests l) l) (out-roll-DbType (bare level)) ∙ kind-passes level

pub is_same_type-decides : (t u : DbType) → Decides (is_same_type t u) (t ≡ u)
is_same_type-decides t u = (is_same_type-equal t u, λ e. ap (is_same_type t) (sym e) ∙ is_same_type-own t)

-- what decides whether two types are equal is this test
pub same_type-is : (t u : DbType) (answer : Bool) → IsTrue answer ↔ (t ≡ u) → answer ≡ is_same_type t u
same_type-is t u answer exact = one_answer answer (is_same_type t u) exact (is_same_type-decides t u)
