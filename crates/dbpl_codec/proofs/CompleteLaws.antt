-- A value that is spelled is read: by induction on the type.
use Rattle.std.proofs.Common.{◌≡◌, ℕ, ℤ, ◌^◌, Bool, true, false, List, [], ◌∷◌, ◌++◌, map, length, Option, Some, None, ◌&&◌, refl, sym, ap, subst, ◌∙◌, arith, append_assoc}
use Rattle.std.proofs.lemmas.Bool.{eqb-true, ltb-true}
use Rattle.std.proofs.lemmas.Int.{ints}
use Rattle.std.proofs.lemmas.List.{length-map}
use Rattle.std.proofs.lemmas.List.Folds.{list_all-append}
use Rattle.std.specs.Cmp.{first_so, second_so}
use Rattle.std.specs.Cmp.Derive.{both_true}
use Rattle.std.specs.Int.{cast_signed, w32}
use Rattle.std.specs.List.{AllByRecursion, flat_map, list_all, zip}
use Rattle.std.specs.Option.{option_map_or}
use Rattle.std.specs.Prelude.{◌-ℤ◌, int_le, nat_eq, nat_lt, negsuc, pos}
use Rattle.dbpl_value.proofs.Pairs.{flat_map-zip_map, list_all-zip_map}
use Rattle.dbpl_value.proofs.TypeParts.{by_parts-out, type_induction}
use Rattle.dbpl_value.proofs.ValuesLemmas.{is_of-out, tested}
use Rattle.dbpl_value.specs.Keys.{keys_rise, number_level, number_of, parts_level, parts_of}
use Rattle.dbpl_value.specs.Types.{count_of, inside, inside_level, is_host_level, is_in, is_sound, is_sound_level, keeps_rules, range_level, range_of}
use Rattle.dbpl_value.specs.Values.{is_array, is_number, is_of, is_of_level, is_record_of, is_relation_of}
use Rattle.dbpl_value.specs.declared.db_type.DbType.{DbType, DbType-F, map-DbType, out-DbType, out-roll-DbType, roll-DbType}
use Rattle.dbpl_value.specs.declared.db_type.DbType.TheOpen as kinds
use Rattle.dbpl_value.specs.declared.db_type.DbType.TheVariants as types
use Rattle.dbpl_value.specs.declared.field.Field.{Field}
use Rattle.dbpl_value.specs.declared.range.Range.{Range}
use Rattle.dbpl_value.specs.declared.value.Value.{Value, Value-F, out-Value, roll-Value, roll-out-Value}
use Rattle.dbpl_value.specs.declared.value.Value.TheOpen as values
use Rattle.dbpl_value.specs.declared.value.Value.TheVariants as value
use Rattle.dbpl_codec.proofs.ByteLaws.{signed-word, unsigned-byte, unsigned-word, word_at-again, word_of-below}
use Rattle.dbpl_codec.proofs.ListLaws.{Completes, in_turn-completes, repeat-completes}
use Rattle.dbpl_codec.proofs.ReadingSteps.{array, compound, paired, readers, reads-out, records}
use Rattle.dbpl_codec.proofs.ValueLaws.{bytes_of-out, fitting, numbered, spellings, value_fits-out}
use Rattle.dbpl_codec.specs.Numbers.{byte_of, count_bytes, word_bytes, word_of}
use Rattle.dbpl_codec.specs.Reading.{Reader, ◌>>=◌, checked, in_turn, read_level, reads, repeat, risen, small_at, word_at}
use Rattle.dbpl_codec.specs.ValueSpelling.{bytes_level, bytes_of, fits_level, value_fits}

-- ---- what a value of a sort is

pub number_is :
    (range : Range) (v : Value) (o : Value-F Value) → o ≡ out-Value v → is_number (Some range) o ≡ true →
    (z : ℤ) × (value.Num z ≡ v) × (is_in range z ≡ true)
number_is range v (values.Num z) e h = (z, sym (value.rolls-Num z) ∙ ap roll-Value e ∙ roll-out-Value v, h)
number_is range v (values.Arr parts) e h = cc
number_is range v (values.Rec parts) e h = cc
number_is range v (values.Rel parts) e h = cc

pub array_is :
    (count : ℕ) (test : Value → Bool) (v : Value) (o : Value-F Value) → o ≡ out-Value v → is_array count test o ≡ true →
    (parts : List Value) × (value.Arr parts ≡ v) × ((nat_eq (length parts) count && list_all test parts) ≡ true)
array_is count test v (values.Num z) e h = cc
array_is count test v (values.Arr parts) e h = (parts, sym (value.rolls-Arr parts) ∙ ap roll-Value e ∙ roll-out-Value v, h)
array_is count test v (values.Rec parts) e h = cc
array_is count test v (values.Rel parts) e h = cc

record_is :
    (tests : List (Value → Bool)) (v : Value) (o : Value-F Value) → o ≡ out-Value v → is_record_of tests o ≡ true →
    (parts : List Value) × (value.Rec parts ≡ v)
    × ((nat_eq (length parts) (length tests) && list_all (λ (pair : (Value → Bool) × Value). pair.0 pair.1) (zip tests parts))
    ≡ true)
record_is tests v (values.Num z) e h = cc
record_is tests v (values.Arr parts) e h = cc
record_is tests v (values.Rec parts) e h = (parts, sym (value.rolls-Rec parts) ∙ ap roll-Value e ∙ roll-out-Value v, h)
record_is tests v (values.Rel parts) e h = cc

relation_is :
    (keys : List (List ℕ)) (record_type : DbType) (test : Value → Bool) (v : Value) (o : Value-F Value) → o ≡ out-Value v →
    is_relation_of keys record_type test o ≡ true →
    (parts : List Value) × (value.Rel parts ≡ v)
    × ((list_all test parts && keys_rise (types.Rel keys record_type) parts) ≡ true)
relation_is keys record_type test v (values.Num z) e h = cc
relation_is keys record_type test v (values.Arr parts) e h = cc
relation_is keys record_type test v (values.Rec parts) e h = cc
relation_is keys record_type test v (values.Rel parts) e h =
    (parts, sym (value.rolls-Rel parts) ∙ ap roll-Value e ∙ roll-out-Value v, h)

-- ---- numbers

checked-passes :
    (range : Option Range) (x : Value × List ℕ) → is_number range (out-Value x.0) ≡ true → checked range x ≡ Some x
checked-passes range x test = rw test refl

pub number_of-Num : (z : ℤ) → number_of (value.Num z) ≡ z
number_of-Num z = ap (λ (o : Value-F Value). number_level o) (value.outs-Num z)

in_range : (range : Range) (z : ℤ) → is_in range z ≡ true → is_number (Some range) (out-Value (value.Num z)) ≡ true
in_range range z h = ap (λ (o : Value-F Value). is_number (Some range) o) (value.outs-Num z) ∙ h

-- the reading of a number of this type from what spells v
abbrev ReadsNumber : DbType-F DbType Field → Reader Value → (Value → List ℕ) → Value → List ℕ → Type 0
ReadsNumber level plain spelling v rest =
    (plain (spelling v ++ rest) >>= checked (range_level level)) ≡ Some (v, rest)

word_again :
    (make : ℕ → ℤ) (range : Range) (z : ℤ) (rest : List ℕ) → make (word_of z) ≡ z → is_in range z ≡ true →
    ((word_at (word_bytes (number_of (value.Num z)) ++ rest) >>= numbered make) >>= checked (Some range))
    ≡ Some (value.Num z, rest)
word_again make range z rest back within =
    let start : word_at (word_bytes (number_of (value.Num z)) ++ rest) ≡ Some (word_of z, rest) =
    ap (λ (k : ℤ). word_at (word_bytes k ++ rest)) (number_of-Num z) ∙ word_at-again (word_of z) rest (word_of-below z)
    in
    let x : Value × List ℕ = (value.Num z, rest) in
    let made : numbered make (word_of z, rest) ≡ Some x =
    ap (λ (k : ℤ). numbered (λ _. k) (0, rest)) back
    in
    ap (λ (r : Option (ℕ × List ℕ)). (r >>= numbered make) >>= checked (Some range)) start
    ∙ ap (λ (r : Option (Value × List ℕ)). r >>= checked (Some range)) made
    ∙ checked-passes (Some range) x (in_range range z within)

byte_again :
    (range : Range) (z : ℤ) (rest : List ℕ) → pos (byte_of z) ≡ z → is_in range z ≡ true →
    (small_at ((byte_of (number_of (value.Num z)) ∷ []) ++ rest) >>= checked (Some range)) ≡ Some (value.Num z, rest)
byte_again range z rest back within =
    let x : Value × List ℕ = (value.Num z, rest) in
    let start : small_at ((byte_of (number_of (value.Num z)) ∷ []) ++ rest) ≡ numbered (λ _. pos (byte_of z)) (0, rest) =
    ap (λ (k : ℤ). small_at ((byte_of k ∷ []) ++ rest)) (number_of-Num z)
    in
    let made : numbered (λ _. pos (byte_of z)) (0, rest) ≡ Some x = ap (λ (k : ℤ). numbered (λ _. k) (0, rest)) back in
    ap (λ (r : Option (Value × List ℕ)). r >>= checked (Some range)) (start ∙ made)
    ∙ checked-passes (Some range) x (in_range range z within)

-- ---- subranges

int_le-trans : (a b c : ℤ) → int_le a b ≡ true → int_le b c ≡ true → int_le a c ≡ true
int_le-trans a b c h g = grind (arith, ints)

in_wider :
    (all inner : Range) (z : ℤ) → (is_in all inner.least && is_in all inner.greatest) ≡ true → is_in inner z ≡ true →
    is_in all z ≡ true
in_wider all inner z bounds h =
    let low = first_so (is_in all inner.least) (is_in all inner.greatest) bounds in
    let high = second_so (is_in all inner.least) (is_in all inner.greatest) bounds in
    both_true
    (int_le-trans all.least inner.least z (first_so (int_le all.least inner.least) (int_le inner.least all.greatest) low)
    (first_so (int_le inner.least z) (int_le z inner.greatest) h))
    (int_le-trans z inner.greatest all.greatest (second_so (int_le inner.least z) (int_le z inner.greatest) h)
    (second_so (int_le all.least inner.greatest) (int_le inner.greatest all.greatest) high))

host_number :
    (level : DbType-F DbType Field) (o : Value-F Value) → is_host_level level ≡ true →
    is_of_level (tested level) o ≡ is_number (range_level level) o
host_number kinds.Int o h = refl
host_number kinds.Card o h = refl
host_number kinds.Bool o h = refl
host_number kinds.Char o h = refl
host_number (kinds.Enum names) o h = refl
host_number (kinds.Sub host least greatest) o h = cc
host_number (kinds.Arr index element) o h = cc
host_number (kinds.Rec fields) o h = cc
host_number (kinds.Rel keys record_type) o h = cc

host_has :
    (range : Option Range) (inner : Range) (z : ℤ) →
    option_map_or (λ (all : Range). is_in all inner.least && is_in all inner.greatest) range false ≡ true →
    is_in inner z ≡ true → is_number range (values.Num z) ≡ true
host_has None inner z bounds h = cc
host_has (Some all) inner z bounds h = in_wider all inner z bounds h

-- a number of a subrange is one of the host
pub host_value :
    (host : DbType) (inner : Range) (z : ℤ) → is_host_level (out-DbType host) ≡ true →
    option_map_or (λ (all : Range). is_in all inner.least && is_in all inner.greatest) (range_of host) false ≡ true →
    is_in inner z ≡ true → is_of host (value.Num z) ≡ true
host_value host inner z hosts bounds h =
    is_of-out host (value.Num z) ∙ ap (λ (o : Value-F Value). is_of_level (tested (out-DbType host)) o) (value.outs-Num z)
    ∙ host_number (out-DbType host) (values.Num z) hosts ∙ host_has (range_of host) inner z bounds h

-- ---- one level

abbrev Law : DbType → Type 0
Law t = is_sound t ≡ true → Completes (is_of t) (value_fits t) (bytes_of t) (reads t)

abbrev Complete : DbType → Type 0
Complete t = Completes (is_of t) (value_fits t) (bytes_of t) (reads t)

abbrev Held : Type 0
Held = DbType-F ((t : DbType) × Law t) ((field : Field) × Law field.kind)

abbrev plain : Held → DbType-F DbType Field
plain level =
    map-DbType ((t : DbType) × Law t) ((field : Field) × Law field.kind) DbType Field (λ held. held.0) (λ held. held.0) level

abbrev insides : DbType-F DbType Field → DbType-F (DbType × List DbType) (Field × List DbType)
insides level =
    map-DbType DbType Field (DbType × List DbType) (Field × List DbType) (λ part. (part, inside part))
    (λ field. (field, inside field.kind)) level

-- the reading of v from what one level of a type says of its spelling
abbrev ReadAt : DbType-F DbType Field → Value → List ℕ → Type 0
ReadAt level v rest = read_level (readers level) (bytes_level (spellings level) v ++ rest) ≡ Some (v, rest)

fields_complete :
    (held : List ((field : Field) × Law field.kind)) →
    list_all keeps_rules (flat_map (λ (field : Field × List DbType). field.0.kind ∷ field.1)
    (map (λ (field : Field). (field, inside field.kind)) (map (λ (h : (field : Field) × Law field.kind). h.0) held)))
    ≡ true →
    AllByRecursion (λ (field : Field). Complete field.kind) (map (λ (h : (field : Field) × Law field.kind). h.0) held)
fields_complete [] h = tt
fields_complete (field ∷ held) h =
    let both = sym (list_all-append keeps_rules (field.0.kind ∷ inside field.0.kind) _) ∙ h in
    (field.1 (first_so (is_sound field.0.kind) _ both), fields_complete held (second_so (is_sound field.0.kind) _ both))

array_complete :
    (index element : DbType) → Complete element → (parts : List Value) (rest : List ℕ) →
    (nat_eq (length parts) (count_of index) && list_all (is_of element) parts) ≡ true →
    list_all (value_fits element) parts ≡ true →
    (repeat (reads element) (count_of index) [] (flat_map (bytes_of element) parts ++ rest) >>= array)
    ≡ Some (value.Arr parts, rest)
array_complete index element law parts rest t f =
    let long : length parts ≡ count_of index =
    eqb-true (length parts) (count_of index)
    (first_so (nat_eq (length parts) (count_of index)) (list_all (is_of element) parts) t)
    in
    let read =
    repeat-completes (is_of element) (value_fits element) (bytes_of element) (reads element) law parts [] rest
    (second_so (nat_eq (length parts) (count_of index)) (list_all (is_of element) parts) t) f
    in
    ap (λ (n : ℕ). repeat (reads element) n [] (flat_map (bytes_of element) parts ++ rest) >>= array) (sym long)
    ∙ ap (λ (r : Option (List Value × List ℕ)). r >>= array) read

field_tests :
    (fields : List Field) (parts : List Value) →
    list_all (λ (pair : (Value → Bool) × Value). pair.0 pair.1)
    (zip (map (λ (field : Field × (Value → Bool)). field.1) (map (λ (field : Field). (field, is_of field.kind)) fields)) parts)
    ≡ true →
    list_all (λ (pair : Field × Value). is_of pair.0.kind pair.1) (zip fields parts) ≡ true
field_tests [] parts t = refl
field_tests (field ∷ fields) [] t = refl
field_tests (field ∷ fields) (part ∷ parts) t =
    both_true (first_so (is_of field.kind part) _ t) (field_tests fields parts (second_so (is_of field.kind part) _ t))

record_complete :
    (fields : List Field) → AllByRecursion (λ (field : Field). Complete field.kind) fields → (parts : List Value)
    (rest : List ℕ) → length parts ≡ length fields →
    list_all (λ (pair : Field × Value). is_of pair.0.kind pair.1) (zip fields parts) ≡ true →
    list_all (λ (pair : Field × Value). value_fits pair.0.kind pair.1) (zip fields parts) ≡ true →
    (in_turn (map (λ (field : Field). reads field.kind) fields) []
    (flat_map (λ (pair : Field × Value). bytes_of pair.0.kind pair.1) (zip fields parts) ++ rest) >>= compound)
    ≡ Some (value.Rec parts, rest)
record_complete fields laws parts rest long t f =
    ap (λ (r : Option (List Value × List ℕ)). r >>= compound)
    (in_turn-completes (λ (field : Field). is_of field.kind) (λ (field : Field). value_fits field.kind)
    (λ (field : Field). bytes_of field.kind) (λ (field : Field). reads field.kind) fields laws parts [] rest long t f)

risen-passes :
    (t : DbType) (parts : List Value) (rest : List ℕ) → keys_rise t parts ≡ true →
    risen t (parts, rest) ≡ Some (value.Rel parts, rest)
risen-passes t parts rest h = rw h refl

relation_complete :
    (keys : List (List ℕ)) (record_type : DbType) → Complete record_type → (parts : List Value) (rest : List ℕ) →
    list_all (is_of record_type) parts ≡ true → keys_rise (types.Rel keys record_type) parts ≡ true →
    nat_lt (length parts) (2 ^ 32) ≡ true → list_all (value_fits record_type) parts ≡ true →
    (word_at ((count_bytes parts ++ flat_map (bytes_of record_type) parts) ++ rest) >>= records record_type keys)
    ≡ Some (value.Rel parts, rest)
relation_complete keys record_type law parts rest t rise below f =
    let behind : List ℕ = flat_map (bytes_of record_type) parts ++ rest in
    let start : word_at ((count_bytes parts ++ flat_map (bytes_of record_type) parts) ++ rest) ≡ Some (length parts, behind) =
    ap (λ (bs : List ℕ). word_at bs) (append_assoc (count_bytes parts) (flat_map (bytes_of record_type) parts) rest)
    ∙ word_at-again (length parts) behind (ltb-true (length parts) (2 ^ 32) below)
    in
    let read =
    repeat-completes (is_of record_type) (value_fits record_type) (bytes_of record_type) (reads record_type) law parts [] rest
    t f
    in
    ap (λ (r : Option (ℕ × List ℕ)). r >>= records record_type keys) start
    ∙ ap (λ (r : Option (List Value × List ℕ)). r >>= risen (types.Rel keys record_type)) read
    ∙ risen-passes (types.Rel keys record_type) parts rest rise

level_complete :
    (level : Held) → is_sound_level (plain level) ≡ true →
    list_all keeps_rules (inside_level (insides (plain level))) ≡ true → (v : Value) (rest : List ℕ) →
    is_of_level (tested (plain level)) (out-Value v) ≡ true → fits_level (fitting (plain level)) v ≡ true →
    ReadAt (plain level) v rest
level_complete kinds.Int own within v rest t f =
    let range : Range = record { least = negsuc 2147483647; greatest = pos 2147483647 } in
    let n = number_is range v (out-Value v) refl t in
    subst (λ (w : Value). ReadAt kinds.Int w rest) n.1
    (word_again (cast_signed w32) range n.0 rest (signed-word n.0 n.2) n.2)
level_complete kinds.Card own within v rest t f =
    let range : Range = record { least = pos 0; greatest = pos 4294967295 } in
    let n = number_is range v (out-Value v) refl t in
    let low = first_so (int_le (pos 0) n.0) (int_le n.0 (pos 4294967295)) n.2 in
    let high = second_so (int_le (pos 0) n.0) (int_le n.0 (pos 4294967295)) n.2 in
    subst (λ (w : Value). ReadAt kinds.Card w rest) n.1
    (word_again (λ k. pos k) range n.0 rest (unsigned-word n.0 low high) n.2)
level_complete kinds.Bool own within v rest t f =
    let range : Range = record { least = pos 0; greatest = pos 1 } in
    let n = number_is range v (out-Value v) refl t in
    subst (λ (w : Value). ReadAt kinds.Bool w rest) n.1
    (byte_again range n.0 rest (unsigned-byte 1 n.0 (omega arith) n.2) n.2)
level_complete kinds.Char own within v rest t f =
    let range : Range = record { least = pos 0; greatest = pos 255 } in
    let n = number_is range v (out-Value v) refl t in
    subst (λ (w : Value). ReadAt kinds.Char w rest) n.1
    (byte_again range n.0 rest (unsigned-byte 255 n.0 (omega arith) n.2) n.2)
level_complete (kinds.Enum names) own within v rest t f =
    let range : Range = record { least = pos 0; greatest = pos (length names) -ℤ pos 1 } in
    let n = number_is range v (out-Value v) refl t in
    let low = first_so (int_le (pos 0) n.0) (int_le n.0 (pos (length names) -ℤ pos 1)) n.2 in
    let high : int_le n.0 (pos 4294967295) ≡ true =
    ap (λ (z : ℤ). int_le z (pos 4294967295)) (sym (number_of-Num n.0) ∙ ap (λ (w : Value). number_of w) n.1) ∙ f
    in
    subst (λ (w : Value). ReadAt (kinds.Enum names) w rest) n.1
    (word_again (λ k. pos k) range n.0 rest (unsigned-word n.0 low high) n.2)
level_complete (kinds.Sub host least greatest) own within v rest t f =
    let range : Range = record { least = least; greatest = greatest } in
    let n = number_is range v (out-Value v) refl t in
    let bounds = first_so _ (int_le least greatest) own in
    let hosts = first_so (is_host_level (out-DbType host.0)) _ bounds in
    let inner = second_so (is_host_level (out-DbType host.0)) _ bounds in
    let typed : is_of host.0 v ≡ true =
    subst (λ (w : Value). is_of host.0 w ≡ true) n.1 (host_value host.0 range n.0 hosts inner n.2)
    in
    let read = host.1 within v rest typed f in
    ap (λ (r : Option (Value × List ℕ)). r >>= checked (Some range)) read ∙ checked-passes (Some range) (v, rest) t
level_complete (kinds.Arr index element) own within v rest t f =
    let elements = sym (list_all-append keeps_rules (index.0 ∷ inside index.0) (element.0 ∷ inside element.0)) ∙ within in
    let law = element.1 (second_so (list_all keeps_rules (index.0 ∷ inside index.0)) (is_sound element.0) elements) in
    let a = array_is (count_of index.0) (is_of element.0) v (out-Value v) refl t in
    let parts_are : parts_of v ≡ a.0 =
    ap (λ (w : Value). parts_of w) (sym a.1) ∙ ap (λ (o : Value-F Value). parts_level o) (value.outs-Arr a.0)
    in
    let fits = ap (list_all (value_fits element.0)) (sym parts_are) ∙ f in
    ap (λ (parts : List Value). repeat (reads element.0) (count_of index.0) [] (flat_map (bytes_of element.0) parts ++ rest)
    >>= array) parts_are
    ∙ array_complete index.0 element.0 law a.0 rest a.2 fits
    ∙ ap (λ (w : Value). Some (w, rest)) a.1
level_complete (kinds.Rec held) own within v rest t f =
    let fields = map (λ (h : (field : Field) × Law field.kind). h.0) held in
    let tests = map (λ (field : Field × (Value → Bool)). field.1) (map (λ (field : Field). (field, is_of field.kind)) fields) in
    let a = record_is tests v (out-Value v) refl t in
    let parts_are : parts_of v ≡ a.0 =
    ap (λ (w : Value). parts_of w) (sym a.1) ∙ ap (λ (o : Value-F Value). parts_level o) (value.outs-Rec a.0)
    in
    let long : length a.0 ≡ length fields =
    eqb-true (length a.0) (length tests) (first_so (nat_eq (length a.0) (length tests)) _ a.2) ∙ simp length-map
    in
    let typed = field_tests fields a.0 (second_so (nat_eq (length a.0) (length tests)) _ a.2) in
    let fits =
    sym (list_all-zip_map (λ (field : Field) (part : Value). value_fits field.kind part) fields a.0)
    ∙ ap (λ (parts : List Value). list_all (λ (pair : (Value → Bool) × Value). pair.0 pair.1)
    (zip (map (λ (field : Field). value_fits field.kind) fields) parts)) (sym parts_are) ∙ f
    in
    let spelling : bytes_level (spellings (kinds.Rec fields)) v
    ≡ flat_map (λ (pair : Field × Value). bytes_of pair.0.kind pair.1) (zip fields a.0) =
    ap (λ (parts : List Value). flat_map (λ (pair : (Value → List ℕ) × Value). pair.0 pair.1)
    (zip (map (λ (field : Field). bytes_of field.kind) fields) parts)) parts_are
    ∙ flat_map-zip_map (λ (field : Field) (part : Value). bytes_of field.kind part) fields a.0
    in
    ap (λ (reading : List (Reader Value)). in_turn reading [] (bytes_level (spellings (kinds.Rec fields)) v ++ rest) >>= compound)
    (paired fields)
    ∙ ap (λ (bs : List ℕ). in_turn (map (λ (field : Field). reads field.kind) fields) [] (bs ++ rest) >>= compound) spelling
    ∙ record_complete fields (fields_complete held within) a.0 rest long typed fits
    ∙ ap (λ (w : Value). Some (w, rest)) a.1
level_complete (kinds.Rel keys record_type) own within v rest t f =
    let a = relation_is keys record_type.0 (is_of record_type.0) v (out-Value v) refl t in
    let law = record_type.1 within in
    let parts_are : parts_of v ≡ a.0 =
    ap (λ (w : Value). parts_of w) (sym a.1) ∙ ap (λ (o : Value-F Value). parts_level o) (value.outs-Rel a.0)
    in
    let counted = first_so (nat_lt (length (parts_of v)) (2 ^ 32)) (list_all (value_fits record_type.0) (parts_of v)) f in
    let fit = second_so (nat_lt (length (parts_of v)) (2 ^ 32)) (list_all (value_fits record_type.0) (parts_of v)) f in
    let below = ap (λ (parts : List Value). nat_lt (length parts) (2 ^ 32)) (sym parts_are) ∙ counted in
    let fits = ap (list_all (value_fits record_type.0)) (sym parts_are) ∙ fit in
    let typed = first_so (list_all (is_of record_type.0) a.0) (keys_rise (types.Rel keys record_type.0) a.0) a.2 in
    let rise = second_so (list_all (is_of record_type.0) a.0) (keys_rise (types.Rel keys record_type.0) a.0) a.2 in
    ap (λ (parts : List Value). word_at ((count_bytes parts ++ flat_map (bytes_of record_type.0) parts) ++ rest)
    >>= records record_type.0 keys) parts_are
    ∙ relation_complete keys record_type.0 law a.0 rest typed rise below fits
    ∙ ap (λ (w : Value). Some (w, rest)) a.1

-- what is spelled is read
pub reads-complete : (t : DbType) → is_sound t ≡ true → Completes (is_of t) (value_fits t) (bytes_of t) (reads t)
reads-complete = type_induction Law step
  where
    step : (level : Held) → Law (roll-DbType (plain level))
    step level sound v rest typed fits =
        let t = roll-DbType (plain level) in
        let out = out-roll-DbType (plain level) in
        let own =
        ap is_sound_level (sym out)
        ∙ first_so (is_sound_level (out-DbType t)) _ (first_so (keeps_rules t) _ sound)
        in
        let inner =
        ap (λ (d : DbType-F DbType Field). list_all keeps_rules (inside_level (insides d))) (sym out)
        ∙ sym (ap (list_all keeps_rules) (by_parts-out (List DbType) inside_level t))
        ∙ second_so (keeps_rules t) _ sound
        in
        let typed_at =
        ap (λ (d : DbType-F DbType Field). is_of_level (tested d) (out-Value v)) (sym out) ∙ sym (is_of-out t v) ∙ typed
        in
        let fits_at =
        ap (λ (d : DbType-F DbType Field). fits_level (fitting d) v) (sym out) ∙ sym (value_fits-out t v) ∙ fits
        in
        let read = level_complete level own inner v rest typed_at fits_at in
        reads-out t (bytes_of t v ++ rest)
        ∙ ap (λ (d : DbType-F DbType Field). read_level (readers d) (bytes_of t v ++ rest)) out
        ∙ ap (λ (bs : List ℕ). read_level (readers (plain level)) (bs ++ rest))
        (bytes_of-out t v ∙ ap (λ (d : DbType-F DbType Field). bytes_level (spellings d) v) out)
        ∙ read
