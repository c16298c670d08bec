-- A relation over a record of CARDINAL fields can be kept.
use Rattle.std.proofs.Common.{◌≡◌, ◌+◌, ◌≤◌, ℕ, suc, max, Bool, true, false, cond, not, ◌&&◌, ◌||◌, List, [], ◌∷◌, ◌++◌, drop, length, map, take, refl, ap, ◌∙◌, arith}
use Rattle.std.proofs.Math.Seq.{drop-append-add}
use Rattle.std.proofs.lemmas.Bool.Decides.{nat_tests}
use Rattle.std.proofs.lemmas.List.{length-append, length-map}
use Rattle.std.proofs.lemmas.List.Sums.{sum_by-cons}
use Rattle.std.specs.Cmp.{first_so, second_so}
use Rattle.std.specs.Cmp.Derive.{both_true}
use Rattle.std.specs.List.{flat_map, fold, list_all, list_any, prefix_len, sum, sum_by, take_while}
use Rattle.std.specs.Prelude.{if◌then◌else◌, nat_le}
use Rattle.dbpl_base.specs.Words.{is_letter, is_word_byte}
use Rattle.dbpl_value.specs.Types.{key_type, type_named}
use Rattle.dbpl_stored_program.proofs.Sizes.{each_one, field_scalars, field_types, inside-out, inside-relation, scalars_of-Card, scalars_of-Rec, true-le}
use Rattle.dbpl_stored_program.specs.Programs.{cardinal_field, flat_type, is_cardinal_field, is_flat}
use Rattle.dbpl_value.specs.Databases.{is_joined_name, is_kept, is_kept_name, is_kept_type, is_no_stop, key_size, key_width}
use Rattle.dbpl_relation.specs.Relations.{is_relation_type}
use Rattle.dbpl_value.proofs.TypeParts.{by_answers-out, by_parts-out}
use Rattle.dbpl_value.specs.Types.{are_names, depth_level, depth_of, element_of, fields_of, greatest_of, inside, is_identifier, is_key_field, is_none_left, is_record, is_same_name, is_sound, is_sound_level, keeps_rules, keys_of, relations_level, relations_of, scalars_level, scalars_of}
use Rattle.dbpl_value.specs.declared.db_type.DbType.{DbType}
use Rattle.dbpl_value.specs.declared.db_type.DbType.TheOpen as kinds
use Rattle.dbpl_value.specs.declared.db_type.DbType.TheVariants as types
use Rattle.dbpl_value.specs.declared.db_type.DbType.TheVariants.{outs-Card, outs-Rec, outs-Rel}
use Rattle.dbpl_value.specs.declared.field.Field.{Field}

-- ---- names

-- letters and digits are no full stop
word-no_stop : (byte : ℕ) → is_word_byte byte ≡ true → is_no_stop byte ≡ true
word-no_stop byte h = grind (arith, nat_tests)

letter-word : (byte : ℕ) → is_letter byte ≡ true → is_word_byte byte ≡ true
letter-word byte h = rw h refl

all-no_stop : (bytes : List ℕ) → list_all is_word_byte bytes ≡ true → list_all is_no_stop bytes ≡ true
all-no_stop [] h = refl
all-no_stop (byte ∷ bytes) h =
    both_true (word-no_stop byte (first_so (is_word_byte byte) (list_all is_word_byte bytes) h))
    (all-no_stop bytes (second_so (is_word_byte byte) (list_all is_word_byte bytes) h))

identifier-no_stop : (name : List ℕ) → is_identifier name ≡ true → list_all is_no_stop name ≡ true
identifier-no_stop [] h = refl
identifier-no_stop (first ∷ others) h =
    both_true (word-no_stop first (letter-word first (first_so (is_letter first) (list_all is_word_byte others) h)))
    (all-no_stop others (second_so (is_letter first) (list_all is_word_byte others) h))

before_stop : (owner variable : List ℕ) → list_all is_no_stop owner ≡ true → take_while is_no_stop (owner ++ 46 ∷ variable) ≡ owner
before_stop [] variable h = refl
before_stop (byte ∷ owner) variable h =
    let rest = owner ++ 46 ∷ variable in
    let count = prefix_len is_no_stop rest in
    let one : 1 + count ≡ suc count = omega arith in
    ap (λ b. take (cond b (1 + count) 0) (byte ∷ rest)) (first_so (is_no_stop byte) (list_all is_no_stop owner) h)
    ∙ ap (λ n. take n (byte ∷ rest)) one
    ∙ ap (λ front. byte ∷ front) (before_stop owner variable (second_so (is_no_stop byte) (list_all is_no_stop owner) h))

joined : (owner variable : List ℕ) → is_identifier owner ≡ true → is_identifier variable ≡ true →
    is_joined_name (owner ++ 46 ∷ variable) ≡ true
joined owner variable first second =
    let before = before_stop owner variable (identifier-no_stop owner first) in
    both_true (ap is_identifier before ∙ first)
    (ap (λ (name : List ℕ). is_identifier (drop (length name + 1) (owner ++ 46 ∷ variable))) before
    ∙ ap is_identifier (drop-append-add owner (46 ∷ variable) 1) ∙ second)

name-kept : (owner variable : List ℕ) → is_identifier owner ≡ true → is_identifier variable ≡ true →
    length owner + 1 + length variable ≤ 128 → is_kept_name (owner ++ 46 ∷ variable) ≡ true
name-kept owner variable first second short =
    let long = length-append owner (46 ∷ variable) in
    both_true (joined owner variable first second) (true-le (length (owner ++ 46 ∷ variable)) 128 (omega (arith, long, short)))

-- ---- the type

module _ (key : List ℕ) (names : List (List ℕ)) where
  abbrev fields : List Field
  fields = map cardinal_field names

  abbrev record_type : DbType
  record_type = types.Rec fields

  element-is : element_of (flat_type key names) ≡ record_type
  element-is = rw (outs-Rel (key ∷ []) record_type) refl

  fields-are : fields_of record_type ≡ fields
  fields-are = rw (outs-Rec fields) refl

  keys-are : keys_of (flat_type key names) ≡ key ∷ []
  keys-are = rw (outs-Rel (key ∷ []) record_type) refl

cardinals : (names : List (List ℕ)) → list_all is_cardinal_field (map cardinal_field names) ≡ true
cardinals [] = refl
cardinals (name ∷ names) = rw outs-Card (cardinals names)

-- a field is a key where its name is
key-field : (key name : List ℕ) → is_key_field key (cardinal_field name) ≡ is_same_name key name
key-field key name = rw outs-Card (and_true (is_same_name key name))
  where
    and_true : (b : Bool) → b && true ≡ b
    and_true true = refl
    and_true false = refl

key-there : (key : List ℕ) (names : List (List ℕ)) →
    list_any (is_key_field key) (map cardinal_field names) ≡ list_any (is_same_name key) names
key-there key [] = refl
key-there key (name ∷ names) =
    ap (λ b. b || list_any (is_key_field key) (map cardinal_field names)) (key-field key name)
    ∙ ap (λ b. is_same_name key name || b) (key-there key names)

names-are : (names : List (List ℕ)) → map (λ (field : Field). field.name) (map cardinal_field names) ≡ names
names-are [] = refl
names-are (name ∷ names) = ap (λ rest. name ∷ rest) (names-are names)

few-scalars : (names : List (List ℕ)) → length names ≤ 65536 →
    scalars_level (kinds.Rec (map field_scalars (map cardinal_field names))) ≤ 65536
few-scalars [] few = omega arith
few-scalars (name ∷ names) few =
    let one : scalars_of types.Card ≡ 1 = scalars_of-Card in
    let others = each_one (map cardinal_field names) (cardinals names) in
    let long : length (map cardinal_field names) ≡ length names = length-map names cardinal_field in
    let step : scalars_level (kinds.Rec (map field_scalars (map cardinal_field (name ∷ names))))
    ≡ scalars_of types.Card + sum (map (λ (other : Field × ℕ). other.1) (map field_scalars (map cardinal_field names))) = refl in
    omega (arith, one, others, long, step, few)

-- ---- each type in it keeps the rules

card-keeps : keeps_rules types.Card ≡ true
card-keeps = both_true (ap is_sound_level outs-Card) (ap (λ n. nat_le n 65536) scalars_of-Card)

record-keeps : (names : List (List ℕ)) → are_names names ≡ true → length names ≤ 65536 →
    keeps_rules (types.Rec (map cardinal_field names)) ≡ true
record-keeps names sound few =
    both_true (ap is_sound_level (outs-Rec (map cardinal_field names)) ∙ ap are_names (names-are names) ∙ sound)
    (ap (λ n. nat_le n 65536) (scalars_of-Rec (map cardinal_field names)) ∙ true-le _ 65536 (few-scalars names few))

relation-keeps : (key : List ℕ) (names : List (List ℕ)) → list_any (is_same_name key) names ≡ true →
    keeps_rules (flat_type key names) ≡ true
relation-keeps key names there =
    let record_type : DbType = types.Rec (map cardinal_field names) in
    let one : scalars_of (flat_type key names) ≡ 1 =
    by_parts-out ℕ scalars_level (flat_type key names) ∙ rw (outs-Rel (key ∷ []) record_type) refl
    in
    both_true
    (ap is_sound_level (outs-Rel (key ∷ []) record_type)
    ∙ rw (outs-Rec (map cardinal_field names)) (rw (key-there key names ∙ there) refl))
    (ap (λ n. nat_le n 65536) one)

inside-Card : inside types.Card ≡ []
inside-Card = inside-out types.Card ∙ rw outs-Card refl

fields-keep : (names : List (List ℕ)) →
    list_all keeps_rules (flat_map (λ (field : Field × List DbType). field.0.kind ∷ field.1) (map field_types (map cardinal_field names)))
    ≡ true
fields-keep [] = refl
fields-keep (name ∷ names) = rw inside-Card (both_true card-keeps (fields-keep names))

sound-flat : (key : List ℕ) (names : List (List ℕ)) → are_names names ≡ true → length names ≤ 65536 →
    list_any (is_same_name key) names ≡ true → is_sound (flat_type key names) ≡ true
sound-flat key names sound few there =
    let record_type : DbType = types.Rec (map cardinal_field names) in
    let kind : is_relation_type (flat_type key names) ≡ true = rw (outs-Rel (key ∷ []) record_type) refl in
    let within : inside (flat_type key names) ≡ record_type ∷ inside record_type =
    inside-relation (flat_type key names) kind ∙ ap (λ (t : DbType). t ∷ inside t) (element-is key names)
    in
    let fields_in : list_all keeps_rules (inside record_type) ≡ true =
    ap (list_all keeps_rules) (inside-out record_type) ∙ rw (outs-Rec (map cardinal_field names)) (fields-keep names)
    in
    both_true (relation-keeps key names there)
    (ap (list_all keeps_rules) within ∙ both_true (record-keeps names sound few) fields_in)

-- ---- how deep it is

greatest-within :
    (measure : Field → ℕ) (bound : ℕ) → ((name : List ℕ) → measure (cardinal_field name) ≤ bound) →
    (names : List (List ℕ)) (start : ℕ) → start ≤ bound →
    fold max start (map measure (map cardinal_field names)) ≤ bound
greatest-within measure bound each [] start h = h
greatest-within measure bound each (name ∷ names) start h =
    let this = each name in
    greatest-within measure bound each names (max start (measure (cardinal_field name))) (omega (arith, h, this))

depth-Card : depth_of types.Card ≡ 1
depth-Card = by_answers-out ℕ depth_level types.Card ∙ rw outs-Card refl

relations-Card : relations_of types.Card ≡ 0
relations-Card = by_answers-out ℕ relations_level types.Card ∙ rw outs-Card refl

depth-flat : (key : List ℕ) (names : List (List ℕ)) → depth_of (flat_type key names) ≤ 3
depth-flat key names =
    let record_type : DbType = types.Rec (map cardinal_field names) in
    let outer : depth_of (flat_type key names) ≡ depth_of record_type + 1 =
    by_answers-out ℕ depth_level (flat_type key names) ∙ rw (outs-Rel (key ∷ []) record_type) refl
    in
    let inner : depth_of record_type ≡ greatest_of (map (λ (field : Field). depth_of field.kind) (map cardinal_field names)) + 1 =
    by_answers-out ℕ depth_level record_type ∙ rw (outs-Rec (map cardinal_field names)) refl
    in
    let card = depth-Card in
    let most = greatest-within (λ (field : Field). depth_of field.kind) 1 (λ name. omega (arith, card)) names 0 (omega arith) in
    omega (arith, outer, inner, most)

relations-flat : (key : List ℕ) (names : List (List ℕ)) → relations_of (flat_type key names) ≤ 1
relations-flat key names =
    let record_type : DbType = types.Rec (map cardinal_field names) in
    let outer : relations_of (flat_type key names) ≡ relations_of record_type + 1 =
    by_answers-out ℕ relations_level (flat_type key names) ∙ rw (outs-Rel (key ∷ []) record_type) refl
    in
    let inner : relations_of record_type ≡ greatest_of (map (λ (field : Field). relations_of field.kind) (map cardinal_field names)) =
    by_answers-out ℕ relations_level record_type ∙ rw (outs-Rec (map cardinal_field names)) refl
    in
    let card = relations-Card in
    let most = greatest-within (λ (field : Field). relations_of field.kind) 0 (λ name. omega (arith, card)) names 0 (omega arith) in
    omega (arith, outer, inner, most)

-- ---- its keys

width-named : (t : DbType) (names : List (List ℕ)) (key : List ℕ) → key_width t ≤ 4 →
    key_width (type_named t (map cardinal_field names) key) ≤ 4
width-named t [] key h = h
width-named t (name ∷ names) key h = by_name (is_same_name name key) (width-named t names key h)
  where
    by_name : (same : Bool) → key_width (type_named t (map cardinal_field names) key) ≤ 4 →
        key_width (if same then types.Card else type_named t (map cardinal_field names) key) ≤ 4
    by_name true rest = rw outs-Card (omega arith)
    by_name false rest = rest

type-kept : (key : List ℕ) (names : List (List ℕ)) → is_kept_type (flat_type key names) ≡ true
type-kept key names =
    let t : DbType = flat_type key names in
    let record_type : DbType = types.Rec (map cardinal_field names) in
    let wide : key_width t ≤ 4 = rw (outs-Rel (key ∷ []) record_type) (omega arith) in
    let component : key_type t key ≡ type_named t (map cardinal_field names) key =
    ap (λ (fields : List Field). type_named t fields key) (ap fields_of (element-is key names) ∙ fields-are key names)
    in
    let width : key_width (key_type t key) ≤ 4 = rw component (width-named t names key wide) in
    let size : key_size t ≡ key_width (key_type t key) =
    ap (sum_by (λ (name : List ℕ). key_width (key_type t name))) (keys-are key names)
    ∙ sum_by-cons (λ (name : List ℕ). key_width (key_type t name)) key [] ∙ omega arith
    in
    both_true (ap (λ (keys : List (List ℕ)). not (is_none_left keys)) (keys-are key names))
    (true-le (key_size t) 255 (omega (arith, size, width)))

-- ---- the whole

-- it is a type that can be kept
pub flat-kept :
    (owner variable key : List ℕ) (names : List (List ℕ)) → is_identifier owner ≡ true → is_identifier variable ≡ true →
    length owner + 1 + length variable ≤ 128 → are_names names ≡ true → length names ≤ 65536 →
    list_any (is_same_name key) names ≡ true → is_kept (owner ++ 46 ∷ variable) (flat_type key names) ≡ true
flat-kept owner variable key names first second short sound few there =
    let depth = depth-flat key names in
    let relations = relations-flat key names in
    both_true
    (both_true (name-kept owner variable first second short)
    (both_true (both_true (sound-flat key names sound few there) (true-le (depth_of (flat_type key names)) 64 (omega (arith, depth))))
    (true-le (relations_of (flat_type key names)) 8 (omega (arith, relations)))))
    (type-kept key names)

-- and flat
pub flat-is_flat : (key : List ℕ) (names : List (List ℕ)) → is_flat (flat_type key names) ≡ true
flat-is_flat key names =
    let record_type : DbType = types.Rec (map cardinal_field names) in
    let kind : is_relation_type (flat_type key names) ≡ true = rw (outs-Rel (key ∷ []) record_type) refl in
    let records : is_record (element_of (flat_type key names)) ≡ true =
    ap is_record (element-is key names) ∙ rw (outs-Rec (map cardinal_field names)) refl
    in
    let fields_are_cardinal : list_all is_cardinal_field (fields_of (element_of (flat_type key names))) ≡ true =
    ap (list_all is_cardinal_field) (ap fields_of (element-is key names) ∙ fields-are key names) ∙ cardinals names
    in
    both_true (both_true kind records) fields_are_cardinal
