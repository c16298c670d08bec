-- Keys compare as their bytes do.
use Rattle.std.proofs.Common.{◌≡◌, ℕ, ℤ, suc, ◌+◌, ◌<◌, ◌≤◌, ◌&&◌, ◌||◌, not, Bool, true, false, if◌then◌else◌, List, [], ◌∷◌, ◌++◌, map, length, Option, Some, None, refl, sym, ap, subst, ◌∙◌, arith}
use Rattle.std.proofs.lemmas.Bool.{eqb-true, leb-true}
use Rattle.std.proofs.lemmas.Int.{ints}
use Rattle.std.proofs.lemmas.List.{length-append}
use Rattle.std.proofs.lemmas.List.Concat.{flat_map-cons}
use Rattle.std.specs.Cmp.{first_so, nat_cmp_is, second_so}
use Rattle.std.specs.Cmp.Lexicographic.{bytes_decides, slice_cmp}
use Rattle.std.specs.List.{AllByRecursion, flat_map, list_all, list_any, zip}
use Rattle.std.specs.Option.{option_map_or}
use Rattle.std.specs.Ordering.{int_cmp, nat_cmp, ordering_then}
use Rattle.std.specs.Prelude.{◌-ℤ◌, int_le, is_some, nat_eq, nat_le, negsuc, pos}
use Rattle.std.specs.declared.cmp.Ordering.{Ordering}
use Rattle.std.specs.declared.cmp.Ordering.TheVariants.{Equal, Greater, Less}
use Rattle.dbpl_value.specs.Keys.{component_of, key_cmp, key_from, number_of, parts_level, parts_of}
use Rattle.dbpl_value.specs.Types.{are_different, are_names, count_of, element_level, element_of, fields_level, fields_of, is_char, is_char_array, is_char_array_level, is_char_level, is_host, is_host_level, is_identifier, is_in, is_key_field, is_none_left, is_ordinal, is_record, is_same_name, is_sound, is_sound_level, keeps_rules, key_type, keys_level, keys_of, range_count, range_level, range_of, type_named}
use Rattle.dbpl_value.specs.Values.{is_of}
use Rattle.dbpl_value.specs.declared.db_type.DbType.{DbType, DbType-F, out-DbType}
use Rattle.dbpl_value.specs.declared.db_type.DbType.TheOpen as kinds
use Rattle.dbpl_value.specs.declared.db_type.DbType.TheVariants as types
use Rattle.dbpl_value.specs.declared.field.Field.{Field}
use Rattle.dbpl_value.specs.declared.range.Range.{Range}
use Rattle.dbpl_value.specs.declared.value.Value.{Value, Value-F, out-Value}
use Rattle.dbpl_value.specs.declared.value.Value.TheVariants as value
use Rattle.dbpl_codec.proofs.ByteOrder.{fronts-same, joined, same_bytes, then-Equal}
use Rattle.dbpl_codec.proofs.CompleteLaws.{array_is, host_value, number_is, number_of-Num}
use Rattle.dbpl_codec.proofs.ComponentOrder.{Alike, Law, char_law, component_bytes-is, component_of-Arr, component_of-Num, host_law, is_of-is, number_law, spelled_alike, value_fits-is}
use Rattle.dbpl_value.proofs.FieldNames.{name_of}
use Rattle.dbpl_value.proofs.TypeKinds.{by_kind, is_sound-Arr, is_sound-Rec, is_sound-Rel}
use Rattle.dbpl_codec.specs.KeySpelling.{component_bytes, is_component, is_key, key_bytes_of}
use Rattle.dbpl_codec.specs.Numbers.{byte_of}
use Rattle.dbpl_codec.specs.ValueSpelling.{value_fits}

-- ---- what a sound type keeps

kept : (t : DbType) → is_sound t ≡ true → keeps_rules t ≡ true
kept t sound = first_so (keeps_rules t) _ sound

level_kept :
    (t : DbType) (level : DbType-F DbType Field) → out-DbType t ≡ level → is_sound t ≡ true → is_sound_level level ≡ true
level_kept t level e sound = sym (ap is_sound_level e) ∙ first_so (is_sound_level (out-DbType t)) _ (kept t sound)

-- ---- an ordinal type has values

range_some : (range : Range) → int_le range.least range.greatest ≡ true → 0 < range_count range
range_some range h = rw h (omega arith)

counted : (t : DbType) (range : Range) → range_of t ≡ Some range → int_le range.least range.greatest ≡ true → 0 < count_of t
counted t range e h = rw e (range_some range h)

last_name : (names : List (List ℕ)) → not (is_none_left names) ≡ true → int_le (pos 0) (pos (length names) -ℤ pos 1) ≡ true
last_name [] h = cc
last_name (name ∷ names) h = grind (arith, ints)

never : false ≡ true → ⊥
never e = cc

-- no type that isn't ordinal
unordinal : (t : DbType) → range_of t ≡ None → is_ordinal t ≡ true → ⊥
unordinal t e h = never (sym (ap (λ (range : Option Range). is_some range) e) ∙ h)

count_of-some : (t : DbType) → is_sound t ≡ true → is_ordinal t ≡ true → 0 < count_of t
count_of-some = by_kind (λ t. is_sound t ≡ true → is_ordinal t ≡ true → 0 < count_of t) (record {
  int = λ s h. counted types.Int (record { least = negsuc 2147483647; greatest = pos 2147483647 }) (ap range_level types.outs-Int) refl;
  card = λ s h. counted types.Card (record { least = pos 0; greatest = pos 4294967295 }) (ap range_level types.outs-Card) refl;
  bool = λ s h. counted types.Bool (record { least = pos 0; greatest = pos 1 }) (ap range_level types.outs-Bool) refl;
  char = λ s h. counted types.Char (record { least = pos 0; greatest = pos 255 }) (ap range_level types.outs-Char) refl;
  enumeration = λ names s h.
      counted (types.Enum names) (record { least = pos 0; greatest = pos (length names) -ℤ pos 1 })
      (ap range_level (types.outs-Enum names))
      (last_name names (first_so (not (is_none_left names)) (are_names names)
      (level_kept (types.Enum names) (kinds.Enum names) (types.outs-Enum names) s)));
  subrange = λ host least greatest s h.
      counted (types.Sub host least greatest) (record { least = least; greatest = greatest })
      (ap range_level (types.outs-Sub host least greatest))
      (second_so _ (int_le least greatest)
      (level_kept (types.Sub host least greatest) (kinds.Sub host least greatest) (types.outs-Sub host least greatest) s));
  array = λ index element s h.
      absurd (unordinal (types.Arr index element) (ap range_level (types.outs-Arr index element)) h);
  compound = λ fields s h. absurd (unordinal (types.Rec fields) (ap range_level (types.outs-Rec fields)) h);
  relation = λ keys record_type s h.
      absurd (unordinal (types.Rel keys record_type) (ap range_level (types.outs-Rel keys record_type)) h);
})

-- ---- subranges

subrange_law :
    (host : DbType) (least greatest : ℤ) → is_sound (types.Sub host least greatest) ≡ true → Law (types.Sub host least greatest)
subrange_law host least greatest sound =
    let t = types.Sub host least greatest in
    let level : DbType-F DbType Field = kinds.Sub host least greatest in
    let range : Range = record { least = least; greatest = greatest } in
    let e : out-DbType t ≡ level = types.outs-Sub host least greatest in
    let bounds : Bool = option_map_or (λ (all : Range). is_in all least && is_in all greatest) (range_of host) false in
    let own : (is_host host && bounds && int_le least greatest) ≡ true = level_kept t level e sound in
    let both = first_so (is_host host && bounds) (int_le least greatest) own in
    let hosts = first_so (is_host host) bounds both in
    let within = second_so (is_host host) bounds both in
    number_law t level range e (λ o. refl) (λ z y hz fz hy fy.
    spelled_alike t z y (component_bytes host (value.Num z)) (component_bytes host (value.Num y))
    (component_bytes-is t level e (value.Num z)) (component_bytes-is t level e (value.Num y))
    (host_law host hosts (value.Num z) (value.Num y) (host_value host range z hosts within hz)
    (sym (value_fits-is t level e (value.Num z)) ∙ fz) (host_value host range y hosts within hy)
    (sym (value_fits-is t level e (value.Num y)) ∙ fy)))

-- ---- arrays of characters

char_byte : (v : Value) → component_bytes types.Char v ≡ byte_of (number_of v) ∷ []
char_byte v = component_bytes-is types.Char kinds.Char types.outs-Char v

char_fits : (v : Value) → value_fits types.Char v ≡ true
char_fits v = value_fits-is types.Char kinds.Char types.outs-Char v

char_number : (v : Value) → is_of types.Char v ≡ true → component_of v ≡ number_of v ∷ []
char_number v h =
    let x =
    number_is (record { least = pos 0; greatest = pos 255 }) v (out-Value v) refl
    (sym (is_of-is types.Char kinds.Char types.outs-Char v) ∙ h)
    in
    ap component_of (sym x.1) ∙ component_of-Num x.0 ∙ ap (λ (n : ℤ). n ∷ []) (sym (number_of-Num x.0) ∙ ap number_of x.1)

characters_long : (parts : List Value) → length (flat_map (component_bytes types.Char) parts) ≡ length parts
characters_long [] = refl
characters_long (part ∷ parts) =
    ap (λ (bs : List ℕ). length bs) (flat_map-cons (component_bytes types.Char) part parts
    ∙ ap (λ (bs : List ℕ). bs ++ flat_map (component_bytes types.Char) parts) (char_byte part))
    ∙ ap suc (characters_long parts)

characters_order :
    (parts others : List Value) → list_all (is_of types.Char) parts ≡ true → list_all (is_of types.Char) others ≡ true →
    length parts ≡ length others →
    slice_cmp int_cmp (map number_of parts) (map number_of others)
    ≡ slice_cmp nat_cmp (flat_map (component_bytes types.Char) parts) (flat_map (component_bytes types.Char) others)
characters_order [] [] h g long = refl
characters_order [] (other ∷ others) h g long = absurd (omega arith)
characters_order (part ∷ parts) [] h g long = absurd (omega arith)
characters_order (part ∷ parts) (other ∷ others) h g long =
    let bytes = component_bytes types.Char in
    let part_is = first_so (is_of types.Char part) (list_all (is_of types.Char) parts) h in
    let other_is = first_so (is_of types.Char other) (list_all (is_of types.Char) others) g in
    let alike = char_law part other part_is (char_fits part) other_is (char_fits other) in
    let rest =
    characters_order parts others (second_so (is_of types.Char part) (list_all (is_of types.Char) parts) h)
    (second_so (is_of types.Char other) (list_all (is_of types.Char) others) g) (omega arith)
    in
    let one : int_cmp (number_of part) (number_of other) ≡ slice_cmp nat_cmp (bytes part) (bytes other) =
    sym (then-Equal (int_cmp (number_of part) (number_of other)))
    ∙ sym (λ i. slice_cmp int_cmp (char_number part part_is i) (char_number other other_is i)) ∙ alike.order
    in
    (λ i. ordering_then (one i) (rest i))
    ∙ sym (joined (bytes part) (bytes other) (flat_map bytes parts) (flat_map bytes others) alike.long)
    ∙ sym (λ i. slice_cmp nat_cmp (flat_map-cons bytes part parts i) (flat_map-cons bytes other others i))

char_is : (t : DbType) → is_char t ≡ true → t ≡ types.Char
char_is = by_kind (λ t. is_char t ≡ true → t ≡ types.Char) (record {
  int = λ h. absurd (never (sym (ap is_char_level types.outs-Int) ∙ h));
  card = λ h. absurd (never (sym (ap is_char_level types.outs-Card) ∙ h));
  bool = λ h. absurd (never (sym (ap is_char_level types.outs-Bool) ∙ h));
  char = λ h. refl;
  enumeration = λ names h. absurd (never (sym (ap is_char_level (types.outs-Enum names)) ∙ h));
  subrange = λ host least greatest h. absurd (never (sym (ap is_char_level (types.outs-Sub host least greatest)) ∙ h));
  array = λ index element h. absurd (never (sym (ap is_char_level (types.outs-Arr index element)) ∙ h));
  compound = λ fields h. absurd (never (sym (ap is_char_level (types.outs-Rec fields)) ∙ h));
  relation = λ keys record_type h. absurd (never (sym (ap is_char_level (types.outs-Rel keys record_type)) ∙ h));
})

parts_of-Arr : (parts : List Value) → parts_of (value.Arr parts) ≡ parts
parts_of-Arr parts = ap (λ (o : Value-F Value). parts_level o) (value.outs-Arr parts)

text_law : (index : DbType) → 0 < count_of index → Law (types.Arr index types.Char)
text_law index some v w tv fv tw fw =
    let t = types.Arr index types.Char in
    let level : DbType-F DbType Field = kinds.Arr index types.Char in
    let e : out-DbType t ≡ level = types.outs-Arr index types.Char in
    let bytes = component_bytes types.Char in
    let xs = array_is (count_of index) (is_of types.Char) v (out-Value v) refl (sym (is_of-is t level e v) ∙ tv) in
    let ys = array_is (count_of index) (is_of types.Char) w (out-Value w) refl (sym (is_of-is t level e w) ∙ tw) in
    let x_long = eqb-true (length xs.0) (count_of index)
    (first_so (nat_eq (length xs.0) (count_of index)) (list_all (is_of types.Char) xs.0) xs.2)
    in
    let y_long = eqb-true (length ys.0) (count_of index)
    (first_so (nat_eq (length ys.0) (count_of index)) (list_all (is_of types.Char) ys.0) ys.2)
    in
    let x_all = second_so (nat_eq (length xs.0) (count_of index)) (list_all (is_of types.Char) xs.0) xs.2 in
    let y_all = second_so (nat_eq (length ys.0) (count_of index)) (list_all (is_of types.Char) ys.0) ys.2 in
    let spelled : (parts : List Value) → component_bytes t (value.Arr parts) ≡ flat_map bytes parts =
    λ parts. component_bytes-is t level e (value.Arr parts) ∙ ap (λ (ps : List Value). flat_map bytes ps) (parts_of-Arr parts)
    in
    let alike : Alike (value.Arr xs.0) (value.Arr ys.0) (component_bytes t (value.Arr xs.0)) (component_bytes t (value.Arr ys.0)) =
    record {
      order = (λ i. slice_cmp int_cmp (component_of-Arr xs.0 i) (component_of-Arr ys.0 i))
          ∙ characters_order xs.0 ys.0 x_all y_all (x_long ∙ sym y_long)
          ∙ sym (λ i. slice_cmp nat_cmp (spelled xs.0 i) (spelled ys.0 i));
      long = ap (λ (bs : List ℕ). length bs) (spelled xs.0) ∙ characters_long xs.0 ∙ x_long ∙ sym y_long
          ∙ sym (characters_long ys.0) ∙ ap (λ (bs : List ℕ). length bs) (sym (spelled ys.0));
      some = rw (spelled xs.0, characters_long xs.0, x_long) some;
    }
    in
    subst (λ (pair : Value × Value). Alike pair.0 pair.1 (component_bytes t pair.0) (component_bytes t pair.1))
    (λ i. (xs.1 i, ys.1 i)) alike

-- ---- the types that a key may have

abbrev pub is_key_type : DbType → Bool
is_key_type t = if is_ordinal t then true else is_char_array t

array_law :
    (index element : DbType) → is_sound (types.Arr index element) ≡ true → is_char element ≡ true →
    Law (types.Arr index element)
array_law index element sound h =
    let t = types.Arr index element in
    let own : is_ordinal index ≡ true = level_kept t (kinds.Arr index element) (types.outs-Arr index element) sound in
    let parts = sym (is_sound-Arr index element (kept t sound)) ∙ sound in
    let some = count_of-some index (first_so (is_sound index) (is_sound element) parts) own in
    subst (λ (e : DbType). Law (types.Arr index e)) (sym (char_is element h)) (text_law index some)

abbrev both_tests : DbType-F DbType Field → Bool
both_tests level = if is_some (range_level level) then true else is_char_array_level level

key_law : (t : DbType) → is_sound t ≡ true → is_key_type t ≡ true → Law t
key_law = by_kind (λ t. is_sound t ≡ true → is_key_type t ≡ true → Law t) (record {
  int = λ s h. host_law types.Int (ap is_host_level types.outs-Int);
  card = λ s h. host_law types.Card (ap is_host_level types.outs-Card);
  bool = λ s h. host_law types.Bool (ap is_host_level types.outs-Bool);
  char = λ s h. host_law types.Char (ap is_host_level types.outs-Char);
  enumeration = λ names s h. host_law (types.Enum names) (ap is_host_level (types.outs-Enum names));
  subrange = λ host least greatest s h. subrange_law host least greatest s;
  array = λ index element s h. array_law index element s
      (sym (ap both_tests (types.outs-Arr index element)) ∙ h);
  compound = λ fields s h. absurd (never (sym (ap both_tests (types.outs-Rec fields)) ∙ h));
  relation = λ keys record_type s h. absurd (never (sym (ap both_tests (types.outs-Rel keys record_type)) ∙ h));
})

-- ---- the types of key fields

sound_fields :
    (t : DbType) → is_sound t ≡ true →
    (list_all (λ (field : Field). is_sound field.kind) (fields_of t) ≡ true) × (are_different (map name_of (fields_of t)) ≡ true)
sound_fields = by_kind
    (λ t. is_sound t ≡ true →
    (list_all (λ (field : Field). is_sound field.kind) (fields_of t) ≡ true) × (are_different (map name_of (fields_of t)) ≡ true))
    (record {
      int = λ s. none types.Int (ap fields_level types.outs-Int);
      card = λ s. none types.Card (ap fields_level types.outs-Card);
      bool = λ s. none types.Bool (ap fields_level types.outs-Bool);
      char = λ s. none types.Char (ap fields_level types.outs-Char);
      enumeration = λ names s. none (types.Enum names) (ap fields_level (types.outs-Enum names));
      subrange = λ host least greatest s.
          none (types.Sub host least greatest) (ap fields_level (types.outs-Sub host least greatest));
      array = λ index element s. none (types.Arr index element) (ap fields_level (types.outs-Arr index element));
      compound = λ fields s.
          let own : are_names (map name_of fields) ≡ true =
          level_kept (types.Rec fields) (kinds.Rec fields) (types.outs-Rec fields) s
          in
          let is : fields_of (types.Rec fields) ≡ fields = ap fields_level (types.outs-Rec fields) in (
            ap (list_all (λ (field : Field). is_sound field.kind)) is ∙ sym (is_sound-Rec fields (kept (types.Rec fields) s)) ∙ s,
            ap (λ (fs : List Field). are_different (map name_of fs)) is
                ∙ second_so (list_all is_identifier (map name_of fields)) (are_different (map name_of fields)) own,
          );
      relation = λ keys record_type s. none (types.Rel keys record_type) (ap fields_level (types.outs-Rel keys record_type));
    })
  where
    none :
        (t : DbType) → fields_of t ≡ [] →
        (list_all (λ (field : Field). is_sound field.kind) (fields_of t) ≡ true) × (are_different (map name_of (fields_of t)) ≡ true)
    none t e = (ap (list_all (λ (field : Field). is_sound field.kind)) e, ap (λ (fs : List Field). are_different (map name_of fs)) e)

or_so : (a b : Bool) → (a || b) ≡ true → a ≡ false → b ≡ true
or_so true b h e = cc
or_so false b h e = h

or_true : (a b : Bool) → b ≡ true → (a || b) ≡ true
or_true true b h = refl
or_true false b h = h

-- a key field's name is one of the names
any_named :
    (key : List ℕ) (fields : List Field) → list_any (is_key_field key) fields ≡ true →
    list_any (is_same_name key) (map name_of fields) ≡ true
any_named key [] h = cc
any_named key (field ∷ fields) h = by_test (is_key_field key field) refl (λ g. any_named key fields g)
  where
    by_test :
        (b : Bool) → is_key_field key field ≡ b →
        (list_any (is_key_field key) fields ≡ true → list_any (is_same_name key) (map name_of fields) ≡ true) →
        (is_same_name key field.name || list_any (is_same_name key) (map name_of fields)) ≡ true
    by_test true e rest =
        ap (λ (b : Bool). b || list_any (is_same_name key) (map name_of fields)) (first_so (is_same_name key field.name) _ e)
    by_test false e rest =
        or_true (is_same_name key field.name) (list_any (is_same_name key) (map name_of fields))
        (rest (or_so (is_key_field key field) (list_any (is_key_field key) fields) h e))

-- the field of a key's name is sound, and of a type that a key may have
abbrev Good : DbType → Type 0
Good t = (is_sound t ≡ true) × (is_key_type t ≡ true)

named_good :
    (t : DbType) (fields : List Field) (key : List ℕ) →
    list_all (λ (field : Field). is_sound field.kind) fields ≡ true → are_different (map name_of fields) ≡ true →
    list_any (is_key_field key) fields ≡ true → Good (type_named t fields key)
named_good t [] key sound different h = absurd (never h)
named_good t (field ∷ fields) key sound different h =
    by_name (is_same_name field.name key) refl
    (λ g. named_good t fields key (second_so (is_sound field.kind) (list_all (λ (f : Field). is_sound f.kind) fields) sound)
    (second_so (not (list_any (is_same_name field.name) (map name_of fields))) (are_different (map name_of fields)) different) g)
  where
    not_so : (b : Bool) → b ≡ true → not b ≡ true → ⊥
    not_so true h g = cc
    not_so false h g = cc

    by_field : (b : Bool) → is_key_field key field ≡ b → field.name ≡ key → Good field.kind
    by_field true e same = (
      first_so (is_sound field.kind) (list_all (λ (f : Field). is_sound f.kind) fields) sound,
      second_so (is_same_name key field.name) (is_key_type field.kind) e,
    )
    by_field false e same =
        absurd (not_so (list_any (is_same_name field.name) (map name_of fields))
        (ap (λ (name : List ℕ). list_any (is_same_name name) (map name_of fields)) same
        ∙ any_named key fields (or_so (is_key_field key field) (list_any (is_key_field key) fields) h e))
        (first_so (not (list_any (is_same_name field.name) (map name_of fields))) (are_different (map name_of fields)) different))

    by_key : (b : Bool) → is_same_name key field.name ≡ b → is_same_name field.name key ≡ false → is_key_field key field ≡ false
    by_key true e other =
        absurd (never (sym other ∙ (bytes_decides field.name key).1 (sym ((bytes_decides key field.name).0 e))))
    by_key false e other = ap (λ (b : Bool). b && is_key_type field.kind) e

    by_name :
        (b : Bool) → is_same_name field.name key ≡ b → (list_any (is_key_field key) fields ≡ true → Good (type_named t fields key)) →
        Good (if b then field.kind else type_named t fields key)
    by_name true e rest = by_field (is_key_field key field) refl ((bytes_decides field.name key).0 e)
    by_name false e rest =
        rest (or_so (is_key_field key field) (list_any (is_key_field key) fields) h
        (by_key (is_same_name key field.name) refl e))

-- ---- keys

-- the law of each of these key fields
abbrev Laws : DbType → List (List ℕ) → Type 0
Laws t keys = AllByRecursion (λ (name : List ℕ). Law (key_type t name)) keys

relation_laws :
    (keys : List (List ℕ)) (record_type : DbType) → is_sound (types.Rel keys record_type) ≡ true →
    Laws (types.Rel keys record_type) keys
relation_laws keys record_type sound =
    let t = types.Rel keys record_type in
    let fields = fields_of record_type in
    let own : (is_record record_type && not (is_none_left keys) && are_different keys
    && list_all (λ key. list_any (is_key_field key) fields) keys) ≡ true =
    level_kept t (kinds.Rel keys record_type) (types.outs-Rel keys record_type) sound
    in
    let named = second_so (is_record record_type && not (is_none_left keys) && are_different keys)
    (list_all (λ key. list_any (is_key_field key) fields) keys) own
    in
    let inner = sound_fields record_type (sym (is_sound-Rel keys record_type (kept t sound)) ∙ sound) in
    let element : element_of t ≡ record_type = ap (element_level t) (types.outs-Rel keys record_type) in
    each t fields (ap fields_of element) inner.0 inner.1 keys named
  where
    each :
        (t : DbType) (fields : List Field) → fields_of (element_of t) ≡ fields →
        list_all (λ (field : Field). is_sound field.kind) fields ≡ true → are_different (map name_of fields) ≡ true →
        (keys : List (List ℕ)) → list_all (λ key. list_any (is_key_field key) fields) keys ≡ true → Laws t keys
    each t fields e sound different [] h = tt
    each t fields e sound different (key ∷ keys) h =
        let good =
        named_good t fields key sound different
        (first_so (list_any (is_key_field key) fields) (list_all (λ k. list_any (is_key_field k) fields) keys) h)
        in
        let same : type_named t fields key ≡ key_type t key = ap (λ (fs : List Field). type_named t fs key) (sym e) in (
          subst Law same (key_law (type_named t fields key) good.0 good.1),
          each t fields e sound different keys
              (second_so (list_any (is_key_field key) fields) (list_all (λ k. list_any (is_key_field k) fields) keys) h),
        )

key_laws : (t : DbType) → is_sound t ≡ true → Laws t (keys_of t)
key_laws = by_kind (λ t. is_sound t ≡ true → Laws t (keys_of t)) (record {
  int = λ s. subst (Laws types.Int) (sym (ap keys_level types.outs-Int)) tt;
  card = λ s. subst (Laws types.Card) (sym (ap keys_level types.outs-Card)) tt;
  bool = λ s. subst (Laws types.Bool) (sym (ap keys_level types.outs-Bool)) tt;
  char = λ s. subst (Laws types.Char) (sym (ap keys_level types.outs-Char)) tt;
  enumeration = λ names s. subst (Laws (types.Enum names)) (sym (ap keys_level (types.outs-Enum names))) tt;
  subrange = λ host least greatest s.
      subst (Laws (types.Sub host least greatest)) (sym (ap keys_level (types.outs-Sub host least greatest))) tt;
  array = λ index element s. subst (Laws (types.Arr index element)) (sym (ap keys_level (types.outs-Arr index element))) tt;
  compound = λ fields s. subst (Laws (types.Rec fields)) (sym (ap keys_level (types.outs-Rec fields))) tt;
  relation = λ keys record_type s.
      subst (Laws (types.Rel keys record_type)) (sym (ap keys_level (types.outs-Rel keys record_type)))
      (relation_laws keys record_type s);
})

-- the key bytes of components in these key fields
abbrev part_bytes : DbType → List ℕ × Value → List ℕ
part_bytes t pair = component_bytes (key_type t pair.0) pair.1

part_alike :
    (t : DbType) (name : List ℕ) (v w : Value) → Law (key_type t name) → is_component t (name, v) ≡ true →
    is_component t (name, w) ≡ true → Alike v w (component_bytes (key_type t name) v) (component_bytes (key_type t name) w)
part_alike t name v w law hv hw =
    let kind = key_type t name in
    law v w (first_so (is_of kind v) (value_fits kind v) hv) (second_so (is_of kind v) (value_fits kind v) hv)
    (first_so (is_of kind w) (value_fits kind w) hw) (second_so (is_of kind w) (value_fits kind w) hw)

less_front : (xs bs : List ℕ) → 0 < length xs → slice_cmp nat_cmp [] (xs ++ bs) ≡ Less
less_front [] bs h = absurd (omega arith)
less_front (x ∷ xs) bs h = refl

greater_front : (xs bs : List ℕ) → 0 < length xs → slice_cmp nat_cmp (xs ++ bs) [] ≡ Greater
greater_front [] bs h = absurd (omega arith)
greater_front (x ∷ xs) bs h = refl

parts_order :
    (t : DbType) (names : List (List ℕ)) (key other : List Value) → Laws t names → length key ≤ length names →
    length other ≤ length names → list_all (is_component t) (zip names key) ≡ true →
    list_all (is_component t) (zip names other) ≡ true →
    key_cmp (key_from key) (key_from other)
    ≡ slice_cmp nat_cmp (flat_map (part_bytes t) (zip names key)) (flat_map (part_bytes t) (zip names other))
parts_order t [] [] [] laws lk lo hk ho = refl
parts_order t [] [] (w ∷ other) laws lk lo hk ho = absurd (omega arith)
parts_order t [] (v ∷ key) other laws lk lo hk ho = absurd (omega arith)
parts_order t (name ∷ names) [] [] laws lk lo hk ho = refl
parts_order t (name ∷ names) [] (w ∷ other) laws lk lo hk ho =
    let here = first_so (is_component t (name, w)) (list_all (is_component t) (zip names other)) ho in
    let alike = part_alike t name w w laws.0 here here in
    sym (ap (λ (bs : List ℕ). slice_cmp nat_cmp [] bs) (flat_map-cons (part_bytes t) (name, w) (zip names other))
    ∙ less_front (part_bytes t (name, w)) (flat_map (part_bytes t) (zip names other)) alike.some)
parts_order t (name ∷ names) (v ∷ key) [] laws lk lo hk ho =
    let here = first_so (is_component t (name, v)) (list_all (is_component t) (zip names key)) hk in
    let alike = part_alike t name v v laws.0 here here in
    sym (ap (λ (bs : List ℕ). slice_cmp nat_cmp bs []) (flat_map-cons (part_bytes t) (name, v) (zip names key))
    ∙ greater_front (part_bytes t (name, v)) (flat_map (part_bytes t) (zip names key)) alike.some)
parts_order t (name ∷ names) (v ∷ key) (w ∷ other) laws lk lo hk ho =
    let alike =
    part_alike t name v w laws.0 (first_so (is_component t (name, v)) (list_all (is_component t) (zip names key)) hk)
    (first_so (is_component t (name, w)) (list_all (is_component t) (zip names other)) ho)
    in
    let rest =
    parts_order t names key other laws.1 (omega arith) (omega arith)
    (second_so (is_component t (name, v)) (list_all (is_component t) (zip names key)) hk)
    (second_so (is_component t (name, w)) (list_all (is_component t) (zip names other)) ho)
    in
    (λ i. ordering_then (alike.order i) (rest i))
    ∙ sym (joined (part_bytes t (name, v)) (part_bytes t (name, w)) (flat_map (part_bytes t) (zip names key))
    (flat_map (part_bytes t) (zip names other)) alike.long)
    ∙ sym (λ i. slice_cmp nat_cmp (flat_map-cons (part_bytes t) (name, v) (zip names key) i)
    (flat_map-cons (part_bytes t) (name, w) (zip names other) i))

parts_long :
    (t : DbType) (names : List (List ℕ)) (key other : List Value) → Laws t names → length key ≡ length other →
    list_all (is_component t) (zip names key) ≡ true → list_all (is_component t) (zip names other) ≡ true →
    length (flat_map (part_bytes t) (zip names key)) ≡ length (flat_map (part_bytes t) (zip names other))
parts_long t [] key other laws e hk ho = refl
parts_long t (name ∷ names) [] [] laws e hk ho = refl
parts_long t (name ∷ names) [] (w ∷ other) laws e hk ho = absurd (omega arith)
parts_long t (name ∷ names) (v ∷ key) [] laws e hk ho = absurd (omega arith)
parts_long t (name ∷ names) (v ∷ key) (w ∷ other) laws e hk ho =
    let alike =
    part_alike t name v w laws.0 (first_so (is_component t (name, v)) (list_all (is_component t) (zip names key)) hk)
    (first_so (is_component t (name, w)) (list_all (is_component t) (zip names other)) ho)
    in
    let rest =
    parts_long t names key other laws.1 (omega arith)
    (second_so (is_component t (name, v)) (list_all (is_component t) (zip names key)) hk)
    (second_so (is_component t (name, w)) (list_all (is_component t) (zip names other)) ho)
    in
    ap (λ (bs : List ℕ). length bs) (flat_map-cons (part_bytes t) (name, v) (zip names key))
    ∙ length-append (part_bytes t (name, v)) (flat_map (part_bytes t) (zip names key))
    ∙ (λ i. alike.long i + rest i)
    ∙ sym (length-append (part_bytes t (name, w)) (flat_map (part_bytes t) (zip names other)))
    ∙ ap (λ (bs : List ℕ). length bs) (sym (flat_map-cons (part_bytes t) (name, w) (zip names other)))

itself : (bs : List ℕ) → slice_cmp nat_cmp bs bs ≡ Equal
itself [] = refl
itself (b ∷ bs) =
    ap (λ (o : Ordering). ordering_then o (slice_cmp nat_cmp bs bs)) (sym (nat_cmp_is b b Equal refl)) ∙ itself bs

-- ---- the laws

module _ (t : DbType) (key other : List Value) where
  -- keys compare as their bytes
  pub key_order :
      is_sound t ≡ true → is_key t key ≡ true → is_key t other ≡ true →
      key_cmp (key_from key) (key_from other) ≡ slice_cmp nat_cmp (key_bytes_of t key) (key_bytes_of t other)
  key_order sound hk ho =
      parts_order t (keys_of t) key other (key_laws t sound)
      (leb-true (length key) (length (keys_of t)) (first_so (nat_le (length key) (length (keys_of t))) _ hk))
      (leb-true (length other) (length (keys_of t)) (first_so (nat_le (length other) (length (keys_of t))) _ ho))
      (second_so (nat_le (length key) (length (keys_of t))) (list_all (is_component t) (zip (keys_of t) key)) hk)
      (second_so (nat_le (length other) (length (keys_of t))) (list_all (is_component t) (zip (keys_of t) other)) ho)

  -- equal keys have equal bytes
  pub key_same :
      is_sound t ≡ true → is_key t key ≡ true → is_key t other ≡ true → key_cmp (key_from key) (key_from other) ≡ Equal →
      key_bytes_of t key ≡ key_bytes_of t other
  key_same sound hk ho e =
      same_bytes (key_bytes_of t key) (key_bytes_of t other) (sym (key_order sound hk ho) ∙ e)

  -- the bytes of a key begin those of none that is other, where both have as many components
  pub key_apart :
      is_sound t ≡ true → is_key t key ≡ true → is_key t other ≡ true → length key ≡ length other → (rest more : List ℕ) →
      key_bytes_of t key ++ rest ≡ key_bytes_of t other ++ more → key_cmp (key_from key) (key_from other) ≡ Equal
  key_apart sound hk ho long rest more e =
      let same =
      fronts-same (key_bytes_of t key) (key_bytes_of t other) rest more
      (parts_long t (keys_of t) key other (key_laws t sound) long
      (second_so (nat_le (length key) (length (keys_of t))) (list_all (is_component t) (zip (keys_of t) key)) hk)
      (second_so (nat_le (length other) (length (keys_of t))) (list_all (is_component t) (zip (keys_of t) other)) ho)) e
      in
      key_order sound hk ho ∙ ap (λ (bs : List ℕ). slice_cmp nat_cmp bs (key_bytes_of t other)) same
      ∙ itself (key_bytes_of t other)
