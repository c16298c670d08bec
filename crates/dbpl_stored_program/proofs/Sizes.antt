-- A record of a flat type is small.
use Rattle.std.proofs.Common.{◌≡◌, ◌+◌, ◌*◌, ◌≤◌, ℕ, Bool, true, ◌&&◌, List, [], ◌∷◌, length, map, refl, ap, sym, ◌∙◌, arith}
use Rattle.std.proofs.lemmas.Bool.Decides.{nat_tests}
use Rattle.std.proofs.lemmas.List.Sums.{sum_by-cons}
use Rattle.std.specs.Cmp.{first_so, second_so}
use Rattle.std.specs.Cmp.Derive.{both_true}
use Rattle.std.specs.List.{list_all, sum, sum_by, zip}
use Rattle.std.specs.Prelude.{nat_le}
use Rattle.dbpl_stored_program.proofs.Rows.{flat-fields, flat-record, flat-relation, is_Card}
use Rattle.dbpl_stored_program.specs.Programs.{is_cardinal_field, is_flat}
use Rattle.dbpl_value.specs.Databases.{are_small, is_kept, is_kept_name, is_kept_type, is_small}
use Rattle.dbpl_relation.specs.Relations.{is_relation_level, is_relation_type}
use Rattle.dbpl_value.proofs.SizesLemmas.{field_size, size_of-Rec}
use Rattle.dbpl_value.proofs.TypeParts.{by_answers-out, by_parts-out}
use Rattle.dbpl_value.specs.Keys.{parts_of}
use Rattle.dbpl_value.specs.Sizes.{size_level, size_of}
use Rattle.dbpl_value.specs.Types.{depth_of, element_level, element_of, fields_of, inside, inside_level, is_sound, is_sound_level, is_type, keeps_rules, relations_of, scalars_level, scalars_of}
use Rattle.dbpl_value.specs.declared.db_type.DbType.{DbType, DbType-F, map-DbType, out-DbType}
use Rattle.dbpl_value.specs.declared.db_type.DbType.TheOpen as kinds
use Rattle.dbpl_value.specs.declared.db_type.DbType.TheVariants as types
use Rattle.dbpl_value.specs.declared.db_type.DbType.TheVariants.{outs-Card, outs-Rec}
use Rattle.dbpl_value.specs.declared.field.Field.{Field}
use Rattle.dbpl_value.specs.declared.value.Value.{Value}

-- ---- how many fields there are

-- a type with what is computed of it
abbrev pub with_types : DbType → DbType × List DbType
with_types t = (t, inside t)

abbrev pub field_types : Field → Field × List DbType
field_types field = (field, inside field.kind)

pub inside-out : (t : DbType) → inside t ≡ inside_level (map-DbType DbType Field (DbType × List DbType) (Field × List DbType) with_types field_types (out-DbType t))
inside-out t = by_parts-out (List DbType) inside_level t

element_level-inside :
    (t : DbType) (level : DbType-F DbType Field) → is_relation_level level ≡ true →
    inside_level (map-DbType DbType Field (DbType × List DbType) (Field × List DbType) with_types field_types level)
    ≡ element_level t level ∷ inside (element_level t level)
element_level-inside t (kinds.Rel keys record_type) h = refl
element_level-inside t kinds.Int h = cc
element_level-inside t kinds.Card h = cc
element_level-inside t kinds.Bool h = cc
element_level-inside t kinds.Char h = cc
element_level-inside t (kinds.Enum names) h = cc
element_level-inside t (kinds.Sub host least greatest) h = cc
element_level-inside t (kinds.Arr index element) h = cc
element_level-inside t (kinds.Rec fields) h = cc

-- the record type of a relation type stands inside it
pub inside-relation : (t : DbType) → is_relation_type t ≡ true → inside t ≡ element_of t ∷ inside (element_of t)
inside-relation t h = inside-out t ∙ element_level-inside t (out-DbType t) h

-- and has few scalars
few_scalars : (t : DbType) → is_type t ≡ true → is_relation_type t ≡ true → nat_le (scalars_of (element_of t)) 65536 ≡ true
few_scalars t typed kind =
    let sound : is_sound t ≡ true =
    first_so (is_sound t) (nat_le (depth_of t) 64)
    (first_so (is_sound t && nat_le (depth_of t) 64) (nat_le (relations_of t) 8) typed)
    in
    let within = second_so (keeps_rules t) (list_all keeps_rules (inside t)) sound in
    let kept : list_all keeps_rules (element_of t ∷ inside (element_of t)) ≡ true =
    ap (list_all keeps_rules) (sym (inside-relation t kind)) ∙ within
    in
    second_so (is_sound_level (out-DbType (element_of t))) (nat_le (scalars_of (element_of t)) 65536)
    (first_so (keeps_rules (element_of t)) (list_all keeps_rules (inside (element_of t))) kept)

abbrev with_scalars : DbType → DbType × ℕ
with_scalars t = (t, scalars_of t)

abbrev pub field_scalars : Field → Field × ℕ
field_scalars field = (field, scalars_of field.kind)

pub scalars_of-Card : scalars_of types.Card ≡ 1
scalars_of-Card = by_parts-out ℕ scalars_level types.Card ∙ rw outs-Card refl

pub scalars_of-Rec : (fields : List Field) → scalars_of (types.Rec fields) ≡ scalars_level (kinds.Rec (map field_scalars fields))
scalars_of-Rec fields = by_parts-out ℕ scalars_level (types.Rec fields) ∙ rw (outs-Rec fields) refl

one_scalar : (field : Field) → is_cardinal_field field ≡ true → scalars_of field.kind ≡ 1
one_scalar field h = ap scalars_of (is_Card field.kind h) ∙ scalars_of-Card

pub each_one :
    (fields : List Field) → list_all is_cardinal_field fields ≡ true →
    sum (map (λ (other : Field × ℕ). other.1) (map field_scalars fields)) ≡ length fields
each_one [] h = refl
each_one (field ∷ fields) h =
    let step : sum (map (λ (other : Field × ℕ). other.1) (map field_scalars (field ∷ fields)))
    ≡ scalars_of field.kind + sum (map (λ (other : Field × ℕ). other.1) (map field_scalars fields)) =
    sum_by-cons (λ (n : ℕ). n) (scalars_of field.kind) (map (λ (other : Field × ℕ). other.1) (map field_scalars fields)) in
    let one = one_scalar field (first_so (is_cardinal_field field) (list_all is_cardinal_field fields) h) in
    let others = each_one fields (second_so (is_cardinal_field field) (list_all is_cardinal_field fields) h) in
    omega (arith, step, one, others)

fields_few :
    (fields : List Field) → list_all is_cardinal_field fields ≡ true →
    length fields ≤ scalars_level (kinds.Rec (map field_scalars fields))
fields_few [] h = omega arith
fields_few (field ∷ fields) h =
    let step : scalars_level (kinds.Rec (map field_scalars (field ∷ fields)))
    ≡ scalars_of field.kind + sum (map (λ (other : Field × ℕ). other.1) (map field_scalars fields)) = refl in
    let one = one_scalar field (first_so (is_cardinal_field field) (list_all is_cardinal_field fields) h) in
    let others = each_one fields (second_so (is_cardinal_field field) (list_all is_cardinal_field fields) h) in
    omega (arith, step, one, others)

-- ---- how many bytes they take

size_of-Card : (v : Value) → size_of types.Card v ≡ 4
size_of-Card v =
    ap (λ (size : Value → ℕ). size v) (by_answers-out (Value → ℕ) size_level types.Card) ∙ rw outs-Card refl

four_each :
    (fields : List Field) (parts : List Value) → list_all is_cardinal_field fields ≡ true →
    sum_by field_size (zip fields parts) ≤ 4 * length fields
four_each [] parts h = omega arith
four_each (field ∷ fields) [] h = omega arith
four_each (field ∷ fields) (part ∷ parts) h =
    let step : sum_by field_size (zip (field ∷ fields) (part ∷ parts))
    ≡ size_of field.kind part + sum_by field_size (zip fields parts) =
    sum_by-cons field_size (field, part) (zip fields parts) in
    let kind = is_Card field.kind (first_so (is_cardinal_field field) (list_all is_cardinal_field fields) h) in
    let four : size_of field.kind part ≡ 4 = ap (λ (t : DbType). size_of t part) kind ∙ size_of-Card part in
    let others = four_each fields parts (second_so (is_cardinal_field field) (list_all is_cardinal_field fields) h) in
    omega (arith, step, four, others)

le-true : (a b : ℕ) → nat_le a b ≡ true → a ≤ b
le-true a b h = grind (arith, nat_tests)

pub true-le : (a b : ℕ) → a ≤ b → nat_le a b ≡ true
true-le a b h = grind (arith, nat_tests)

record-small :
    (record_type : DbType) (fields : List Field) (v : Value) → record_type ≡ types.Rec fields →
    list_all is_cardinal_field fields ≡ true → scalars_of record_type ≤ 65536 → is_small record_type v ≡ true
record-small record_type fields v e flat few =
    let size : size_of record_type v ≡ sum_by field_size (zip fields (parts_of v)) =
    ap (λ (t : DbType). size_of t v) e ∙ size_of-Rec fields v
    in
    let scalars : scalars_of record_type ≡ scalars_level (kinds.Rec (map field_scalars fields)) =
    ap scalars_of e ∙ scalars_of-Rec fields
    in
    let count = fields_few fields flat in
    let most = four_each fields (parts_of v) flat in
    true-le (size_of record_type v) 1048576 (omega (arith, size, scalars, count, most, few))

all-so : {X : Type 0} (p : X → Bool) (xs : List X) → ((x : X) → p x ≡ true) → list_all p xs ≡ true
all-so p [] h = refl
all-so p (x ∷ xs) h = both_true (h x) (all-so p xs h)

-- THE record of a relation of a flat type that can be kept is small, whatever it holds
pub flat-small :
    (name : List ℕ) (t : DbType) (relation : Value) → is_kept name t ≡ true → is_flat t ≡ true → are_small t relation ≡ true
flat-small name t relation kept flat =
    let typed : is_type t ≡ true =
    second_so (is_kept_name name) (is_type t)
    (first_so (is_kept_name name && is_type t) (is_kept_type t) kept)
    in
    let few = le-true (scalars_of (element_of t)) 65536 (few_scalars t typed (flat-relation t flat)) in
    all-so (is_small (element_of t)) (parts_of relation) (λ v.
    record-small (element_of t) (fields_of (element_of t)) v (flat-record t flat) (flat-fields t flat) few)
