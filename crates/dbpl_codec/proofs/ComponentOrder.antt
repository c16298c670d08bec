-- The components of a key compare as their bytes do.
use Rattle.std.proofs.Common.{◌≡◌, ℕ, ℤ, ◌+◌, ◌%◌, ◌<◌, ◌^◌, true, false, List, [], ◌∷◌, map, length, Some, refl, sym, ap, subst, ◌∙◌, arith}
use Rattle.std.proofs.lemmas.Int.{ints}
use Rattle.std.specs.Cmp.{first_so, second_so}
use Rattle.std.specs.Cmp.Lexicographic.{slice_cmp}
use Rattle.std.specs.Ordering.{int_cmp, nat_cmp}
use Rattle.std.specs.Prelude.{◌+ℤ◌, ◌-ℤ◌, int_le, negsuc, pos}
use Rattle.byteorder.specs.Endian.{big_bytes}
use Rattle.dbpl_value.proofs.TypeParts.{by_answers-out}
use Rattle.dbpl_value.proofs.ValuesLemmas.{is_of-out, tested}
use Rattle.dbpl_value.specs.Keys.{component_level as values_level, component_of, number_of}
use Rattle.dbpl_value.specs.Types.{is_host, is_host_level, is_in}
use Rattle.dbpl_value.specs.Values.{is_number, is_of, is_of_level}
use Rattle.dbpl_value.specs.declared.db_type.DbType.{DbType, DbType-F, map-DbType, out-DbType}
use Rattle.dbpl_value.specs.declared.db_type.DbType.TheOpen as kinds
use Rattle.dbpl_value.specs.declared.db_type.DbType.TheVariants as types
use Rattle.dbpl_value.specs.declared.field.Field.{Field}
use Rattle.dbpl_value.specs.declared.range.Range.{Range}
use Rattle.dbpl_value.specs.declared.value.Value.{Value, Value-F, out-Value}
use Rattle.dbpl_value.specs.declared.value.Value.TheVariants as value
use Rattle.dbpl_codec.proofs.ByteLaws.{at_least, at_most, unsigned-byte, unsigned-word, word_of-below}
use Rattle.dbpl_codec.proofs.ByteOrder.{four_bytes, raised, then-Equal}
use Rattle.dbpl_codec.proofs.CompleteLaws.{number_is, number_of-Num}
use Rattle.dbpl_value.proofs.TypeKinds.{by_kind}
use Rattle.dbpl_codec.proofs.ValueLaws.{fitting, value_fits-out}
use Rattle.dbpl_codec.specs.KeySpelling.{component_bytes, key_bytes_level}
use Rattle.dbpl_codec.specs.Numbers.{byte_of, word_of}
use Rattle.dbpl_codec.specs.ValueSpelling.{fits_level, value_fits}

-- ---- the bytes of a component of each kind

abbrev component_spellings : DbType-F DbType Field → DbType-F (Value → List ℕ) (Value → List ℕ)
component_spellings level =
    map-DbType DbType Field (Value → List ℕ) (Value → List ℕ) component_bytes (λ field. component_bytes field.kind) level

pub component_bytes-is :
    (t : DbType) (level : DbType-F DbType Field) → out-DbType t ≡ level → (v : Value) →
    component_bytes t v ≡ key_bytes_level (component_spellings level) v
component_bytes-is t level e v =
    ap (λ (f : Value → List ℕ). f v) (by_answers-out (Value → List ℕ) key_bytes_level t)
    ∙ ap (λ (l : DbType-F DbType Field). key_bytes_level (component_spellings l) v) e

pub is_of-is :
    (t : DbType) (level : DbType-F DbType Field) → out-DbType t ≡ level → (v : Value) →
    is_of t v ≡ is_of_level (tested level) (out-Value v)
is_of-is t level e v = is_of-out t v ∙ ap (λ (l : DbType-F DbType Field). is_of_level (tested l) (out-Value v)) e

pub value_fits-is :
    (t : DbType) (level : DbType-F DbType Field) → out-DbType t ≡ level → (v : Value) →
    value_fits t v ≡ fits_level (fitting level) v
value_fits-is t level e v = value_fits-out t v ∙ ap (λ (l : DbType-F DbType Field). fits_level (fitting l) v) e

-- ---- alike

-- two components compare as these bytes, which are as many, and some
pub record Alike (v w : Value) (bs cs : List ℕ) : Type 0 where
  pub order : slice_cmp int_cmp (component_of v) (component_of w) ≡ slice_cmp nat_cmp bs cs
  pub long : length bs ≡ length cs
  pub some : 0 < length bs

pub component_of-Num : (z : ℤ) → component_of (value.Num z) ≡ z ∷ []
component_of-Num z =
    ap (λ (o : Value-F Value). map number_of (values_level (value.Num z) o)) (value.outs-Num z)
    ∙ ap (λ (n : ℤ). n ∷ []) (number_of-Num z)

pub component_of-Arr : (parts : List Value) → component_of (value.Arr parts) ≡ map number_of parts
component_of-Arr parts = ap (λ (o : Value-F Value). map number_of (values_level (value.Arr parts) o)) (value.outs-Arr parts)

-- numbers whose bytes compare as they do
numbers_alike :
    (z y : ℤ) (bs cs : List ℕ) → int_cmp z y ≡ slice_cmp nat_cmp bs cs → length bs ≡ length cs → 0 < length bs →
    Alike (value.Num z) (value.Num y) bs cs
numbers_alike z y bs cs order long some = record {
  order = (λ i. slice_cmp int_cmp (component_of-Num z i) (component_of-Num y i)) ∙ then-Equal (int_cmp z y) ∙ order;
  long = long;
  some = some;
}

-- a word of four bytes
abbrev key_word : ℤ → ℕ
key_word z = (word_of z + 2147483648) % 2 ^ 32

raised_word :
    (z : ℤ) → is_in (record { least = negsuc 2147483647; greatest = pos 2147483647 }) z ≡ true →
    z +ℤ pos 2147483648 ≡ pos (key_word z)
raised_word (pos n) h =
    let below = at_most n 2147483647 (second_so (int_le (negsuc 2147483647) (pos n)) _ h) in
    omega (arith, ints)
raised_word (negsuc n) h =
    let below = at_least n 2147483647 (first_so (int_le (negsuc 2147483647) (negsuc n)) _ h) in
    omega (arith, ints)

not_raised : (z : ℤ) (n : ℕ) → pos n ≡ z → z +ℤ pos 0 ≡ pos n
not_raised z n e = omega (arith, ints, e)

words_alike :
    (k a b : ℕ) (z y : ℤ) → a < 2 ^ 32 → b < 2 ^ 32 → z +ℤ pos k ≡ pos a → y +ℤ pos k ≡ pos b →
    Alike (value.Num z) (value.Num y) (big_bytes 4 a) (big_bytes 4 b)
words_alike k a b z y ha hb ea eb =
    numbers_alike z y (big_bytes 4 a) (big_bytes 4 b) (raised k a b z y ea eb ∙ sym (four_bytes a b ha hb)) refl (omega arith)

bytes_alike :
    (a b : ℕ) (z y : ℤ) → z +ℤ pos 0 ≡ pos a → y +ℤ pos 0 ≡ pos b →
    Alike (value.Num z) (value.Num y) (a ∷ []) (b ∷ [])
bytes_alike a b z y ea eb =
    numbers_alike z y (a ∷ []) (b ∷ []) (raised 0 a b z y ea eb ∙ sym (then-Equal (nat_cmp a b))) refl (omega arith)

-- ---- hosts

-- values of a type that fit compare as their bytes
abbrev pub Law : DbType → Type 0
Law t =
    (v w : Value) → is_of t v ≡ true → value_fits t v ≡ true → is_of t w ≡ true → value_fits t w ≡ true →
    Alike v w (component_bytes t v) (component_bytes t w)

-- a number of a type, out of a value of it
pub number_law :
    (t : DbType) (level : DbType-F DbType Field) (range : Range) → out-DbType t ≡ level →
    ((o : Value-F Value) → is_of_level (tested level) o ≡ is_number (Some range) o) →
    ((z y : ℤ) → is_in range z ≡ true → value_fits t (value.Num z) ≡ true → is_in range y ≡ true →
    value_fits t (value.Num y) ≡ true →
    Alike (value.Num z) (value.Num y) (component_bytes t (value.Num z)) (component_bytes t (value.Num y))) →
    Law t
number_law t level range e typed law v w tv fv tw fw =
    let x = number_is range v (out-Value v) refl (sym (is_of-is t level e v ∙ typed (out-Value v)) ∙ tv) in
    let y = number_is range w (out-Value w) refl (sym (is_of-is t level e w ∙ typed (out-Value w)) ∙ tw) in
    let alike =
    law x.0 y.0 x.2 (ap (λ (u : Value). value_fits t u) x.1 ∙ fv) y.2 (ap (λ (u : Value). value_fits t u) y.1 ∙ fw)
    in
    subst (λ (pair : Value × Value). Alike pair.0 pair.1 (component_bytes t pair.0) (component_bytes t pair.1))
    (λ i. (x.1 i, y.1 i)) alike

-- the bytes of numbers, where they are those of words
pub spelled_alike :
    (t : DbType) (z y : ℤ) (bs cs : List ℕ) → component_bytes t (value.Num z) ≡ bs → component_bytes t (value.Num y) ≡ cs →
    Alike (value.Num z) (value.Num y) bs cs →
    Alike (value.Num z) (value.Num y) (component_bytes t (value.Num z)) (component_bytes t (value.Num y))
spelled_alike t z y bs cs ez ey alike =
    subst (λ (pair : List ℕ × List ℕ). Alike (value.Num z) (value.Num y) pair.0 pair.1) (λ i. (sym ez i, sym ey i)) alike

byte_law :
    (t : DbType) (level : DbType-F DbType Field) (limit : ℕ) → out-DbType t ≡ level → limit < 256 →
    ((o : Value-F Value) → is_of_level (tested level) o ≡ is_number (Some (record { least = pos 0; greatest = pos limit })) o) →
    ((v : Value) → key_bytes_level (component_spellings level) v ≡ byte_of (number_of v) ∷ []) → Law t
byte_law t level limit e small typed spelling =
    number_law t level (record { least = pos 0; greatest = pos limit }) e typed (λ z y hz fz hy fy.
    spelled_alike t z y (byte_of z ∷ []) (byte_of y ∷ [])
    (component_bytes-is t level e (value.Num z) ∙ spelling (value.Num z) ∙ ap (λ (n : ℤ). byte_of n ∷ []) (number_of-Num z))
    (component_bytes-is t level e (value.Num y) ∙ spelling (value.Num y) ∙ ap (λ (n : ℤ). byte_of n ∷ []) (number_of-Num y))
    (bytes_alike (byte_of z) (byte_of y) z y (not_raised z (byte_of z) (unsigned-byte limit z small hz))
    (not_raised y (byte_of y) (unsigned-byte limit y small hy))))

int_law : Law types.Int
int_law =
    number_law types.Int kinds.Int (record { least = negsuc 2147483647; greatest = pos 2147483647 }) types.outs-Int (λ o. refl)
    (λ z y hz fz hy fy. spelled_alike types.Int z y (big_bytes 4 (key_word z)) (big_bytes 4 (key_word y))
    (component_bytes-is types.Int kinds.Int types.outs-Int (value.Num z) ∙ ap (λ (n : ℤ). big_bytes 4 (key_word n)) (number_of-Num z))
    (component_bytes-is types.Int kinds.Int types.outs-Int (value.Num y) ∙ ap (λ (n : ℤ). big_bytes 4 (key_word n)) (number_of-Num y))
    (words_alike 2147483648 (key_word z) (key_word y) z y (omega arith) (omega arith) (raised_word z hz) (raised_word y hy)))

-- numbers that aren't negative and that four bytes hold
word_law :
    (t : DbType) (level : DbType-F DbType Field) (range : Range) → out-DbType t ≡ level →
    ((o : Value-F Value) → is_of_level (tested level) o ≡ is_number (Some range) o) →
    ((v : Value) → key_bytes_level (component_spellings level) v ≡ big_bytes 4 (word_of (number_of v))) →
    ((z : ℤ) → is_in range z ≡ true → value_fits t (value.Num z) ≡ true → pos (word_of z) ≡ z) → Law t
word_law t level range e typed spelling back =
    number_law t level range e typed (λ z y hz fz hy fy.
    spelled_alike t z y (big_bytes 4 (word_of z)) (big_bytes 4 (word_of y))
    (component_bytes-is t level e (value.Num z) ∙ spelling (value.Num z) ∙ ap (λ (n : ℤ). big_bytes 4 (word_of n)) (number_of-Num z))
    (component_bytes-is t level e (value.Num y) ∙ spelling (value.Num y) ∙ ap (λ (n : ℤ). big_bytes 4 (word_of n)) (number_of-Num y))
    (words_alike 0 (word_of z) (word_of y) z y (word_of-below z) (word_of-below y)
    (not_raised z (word_of z) (back z hz fz)) (not_raised y (word_of y) (back y hy fy))))

card_law : Law types.Card
card_law =
    word_law types.Card kinds.Card (record { least = pos 0; greatest = pos 4294967295 }) types.outs-Card (λ o. refl) (λ v. refl)
    (λ z h f. unsigned-word z (first_so (int_le (pos 0) z) (int_le z (pos 4294967295)) h)
    (second_so (int_le (pos 0) z) (int_le z (pos 4294967295)) h))

enumeration_law : (names : List (List ℕ)) → Law (types.Enum names)
enumeration_law names =
    let t = types.Enum names in
    let level : DbType-F DbType Field = kinds.Enum names in
    let e : out-DbType t ≡ level = types.outs-Enum names in
    word_law t level (record { least = pos 0; greatest = pos (length names) -ℤ pos 1 }) e (λ o. refl) (λ v. refl)
    (λ z h f. unsigned-word z (first_so (int_le (pos 0) z) _ h)
    (sym (value_fits-is t level e (value.Num z) ∙ ap (λ (n : ℤ). int_le n (pos 4294967295)) (number_of-Num z)) ∙ f))

bool_law : Law types.Bool
bool_law = byte_law types.Bool kinds.Bool 1 types.outs-Bool (omega arith) (λ o. refl) (λ v. refl)

pub char_law : Law types.Char
char_law = byte_law types.Char kinds.Char 255 types.outs-Char (omega arith) (λ o. refl) (λ v. refl)

never : false ≡ true → ⊥
never e = cc

pub host_law : (t : DbType) → is_host t ≡ true → Law t
host_law = by_kind (λ t. is_host t ≡ true → Law t) (record {
  int = λ h. int_law;
  card = λ h. card_law;
  bool = λ h. bool_law;
  char = λ h. char_law;
  enumeration = λ names h. enumeration_law names;
  subrange = λ host least greatest h. absurd (never (sym (ap is_host_level (types.outs-Sub host least greatest)) ∙ h));
  array = λ index element h. absurd (never (sym (ap is_host_level (types.outs-Arr index element)) ∙ h));
  compound = λ fields h. absurd (never (sym (ap is_host_level (types.outs-Rec fields)) ∙ h));
  relation = λ keys record_type h. absurd (never (sym (ap is_host_level (types.outs-Rel keys record_type)) ∙ h));
})
