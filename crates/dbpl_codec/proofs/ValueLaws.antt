-- A value that is spelled is read, and what is read was spelled so: by induction on the type.
use Rattle.std.proofs.Common.{◌≡◌, ℕ, ℤ, ◌<◌, ◌^◌, Bool, true, false, if◌then◌else◌, List, [], ◌∷◌, ◌++◌, map, length, Option, Some, None, refl, sym, ap, subst, ◌∙◌, arith, append_assoc}
use Rattle.std.proofs.lemmas.Bool.Decides.{nat_tests}
use Rattle.std.proofs.lemmas.List.{length-map}
use Rattle.std.specs.Cmp.{first_so, second_so}
use Rattle.std.specs.Cmp.Derive.{both_true}
use Rattle.std.specs.Int.{cast_signed, w32}
use Rattle.std.specs.List.{AllByRecursion, flat_map, list_all, zip}
use Rattle.std.specs.Prelude.{int_le, nat_eq, nat_lt, pos}
use Rattle.byteorder.specs.Endian.{little_bytes}
use Rattle.dbpl_value.proofs.Pairs.{flat_map-zip_map, list_all-zip_map}
use Rattle.dbpl_value.proofs.TypeParts.{by_answers-out, type_induction}
use Rattle.dbpl_value.proofs.ValuesLemmas.{is_of-out, tested}
use Rattle.dbpl_value.specs.Keys.{keys_rise, number_level, number_of}
use Rattle.dbpl_value.specs.Types.{count_of, range_level}
use Rattle.dbpl_value.specs.Values.{is_number, is_of, is_of_level}
use Rattle.dbpl_value.specs.declared.db_type.DbType.{DbType, DbType-F, map-DbType, out-DbType, out-roll-DbType, roll-DbType}
use Rattle.dbpl_value.specs.declared.db_type.DbType.TheOpen as kinds
use Rattle.dbpl_value.specs.declared.db_type.DbType.TheVariants as types
use Rattle.dbpl_value.specs.declared.field.Field.{Field}
use Rattle.dbpl_value.specs.declared.range.Range.{Range}
use Rattle.dbpl_value.specs.declared.value.Value.{Value, Value-F, out-Value}
use Rattle.dbpl_value.specs.declared.value.Value.TheVariants as value
use Rattle.dbpl_codec.proofs.ByteLaws.{IsBytes, IsBytes-rest, below-word, byte_of-pos, some_is, word_at-takes, word_of-pos, word_of-signed}
use Rattle.dbpl_codec.proofs.ListLaws.{Sound, Spelled, bind_some, in_turn-sound, repeat-sound}
use Rattle.dbpl_codec.proofs.ReadingSteps.{array, compound, paired, readers, reads-out, records}
use Rattle.dbpl_codec.specs.Numbers.{byte_of, count_bytes, word_bytes, word_of}
use Rattle.dbpl_codec.specs.Reading.{Reader, ◌>>=◌, checked, in_turn, read_level, reads, repeat, risen, signed_at, small_at, unsigned_at, word_at}
use Rattle.dbpl_codec.specs.ValueSpelling.{bytes_level, bytes_of, fits_level, value_fits}

-- the spellings and the tests that the types in one level of a type make
abbrev pub spellings : DbType-F DbType Field → DbType-F (Value → List ℕ) (Value → List ℕ)
spellings level =
    map-DbType DbType Field (Value → List ℕ) (Value → List ℕ) bytes_of (λ field. bytes_of field.kind) level

abbrev pub fitting : DbType-F DbType Field → DbType-F (Value → Bool) (Value → Bool)
fitting level = map-DbType DbType Field (Value → Bool) (Value → Bool) value_fits (λ field. value_fits field.kind) level

pub bytes_of-out : (t : DbType) (v : Value) → bytes_of t v ≡ bytes_level (spellings (out-DbType t)) v
bytes_of-out t v = ap (λ (f : Value → List ℕ). f v) (by_answers-out (Value → List ℕ) bytes_level t)

pub value_fits-out : (t : DbType) (v : Value) → value_fits t v ≡ fits_level (fitting (out-DbType t)) v
value_fits-out t v = ap (λ (f : Value → Bool). f v) (by_answers-out (Value → Bool) fits_level t)

-- what one level of a type reads was spelled as it says
abbrev pub SpelledAt : DbType-F DbType Field → List ℕ → Value → List ℕ → Type 0
SpelledAt level bytes v rest =
    Spelled (is_of_level (tested level) (out-Value v)) (fits_level (fitting level) v) bytes (bytes_level (spellings level) v) rest

-- ---- numbers

checked_some :
    (range : Option Range) (x y : Value × List ℕ) → checked range x ≡ Some y →
    (is_number range (out-Value y.0) ≡ true) × (x ≡ y)
checked_some range x y e = by_test (is_number range (out-Value x.0)) refl e
  where
    by_test :
        (b : Bool) → is_number range (out-Value x.0) ≡ b → (if b then Some x else None) ≡ Some y →
        (is_number range (out-Value y.0) ≡ true) × (x ≡ y)
    by_test true h e = let same = some_is x y e in (ap (λ (z : Value × List ℕ). is_number range (out-Value z.0)) (sym same) ∙ h, same)
    by_test false h e = absurd cc

abbrev pub numbered : (ℕ → ℤ) → ℕ × List ℕ → Option (Value × List ℕ)
numbered make n = Some (value.Num (make n.0), n.1)

-- a number that was read from four bytes, by what it is made of
word_spelled :
    (make : ℕ → ℤ) → ((n : ℕ) → n < 2 ^ 32 → word_of (make n) ≡ n) → (bytes : List ℕ) (v : Value) (rest : List ℕ) →
    IsBytes bytes → (word_at bytes >>= numbered make) ≡ Some (v, rest) →
    (bytes ≡ word_bytes (number_of v) ++ rest) × IsBytes rest
word_spelled make back bytes v rest h e =
    let step = bind_some (word_at bytes) (numbered make) (v, rest) e in
    let word = word_at-takes bytes step.0.0 step.0.1 h step.1 in
    let same = some_is (value.Num (make step.0.0), step.0.1) (v, rest) step.2 in
    let made : value.Num (make step.0.0) ≡ v = ap (λ (x : Value × List ℕ). x.0) same in
    let left : step.0.1 ≡ rest = ap (λ (x : Value × List ℕ). x.1) same in
    let number : word_of (number_of v) ≡ step.0.0 =
    ap (λ (w : Value). word_of (number_of w)) (sym made)
    ∙ ap (λ (o : Value-F Value). word_of (number_level o)) (value.outs-Num (make step.0.0)) ∙ back step.0.0 word.below
    in (
      word.parts ∙ ap (λ (n : ℕ). little_bytes 4 n ++ step.0.1) (sym number)
          ∙ ap (λ (r : List ℕ). word_bytes (number_of v) ++ r) left,
      subst IsBytes left word.left,
    )

byte_spelled :
    (bytes : List ℕ) (v : Value) (rest : List ℕ) → IsBytes bytes → small_at bytes ≡ Some (v, rest) →
    (bytes ≡ (byte_of (number_of v) ∷ []) ++ rest) × IsBytes rest
byte_spelled [] v rest h e = absurd cc
byte_spelled (b ∷ after) v rest h e =
    let same = some_is (value.Num (pos b), after) (v, rest) e in
    let made : value.Num (pos b) ≡ v = ap (λ (x : Value × List ℕ). x.0) same in
    let left : after ≡ rest = ap (λ (x : Value × List ℕ). x.1) same in
    let number : byte_of (number_of v) ≡ b = rw (← made, value.outs-Num (pos b)) (byte_of-pos b (h 0)) in (
      ap (λ (n : ℕ). n ∷ after) (sym number) ∙ ap (λ (r : List ℕ). byte_of (number_of v) ∷ r) left,
      subst IsBytes left (IsBytes-rest b after h),
    )

-- the host's number, where it is in the range
number_spelled :
    (read : Option (Value × List ℕ)) (range : Option Range) (bytes : List ℕ) (v : Value) (spelling rest : List ℕ) →
    ((x : Value) (after : List ℕ) → read ≡ Some (x, after) → (v ≡ x) → (bytes ≡ spelling ++ after) × IsBytes after) →
    (read >>= checked range) ≡ Some (v, rest) →
    Spelled (is_number range (out-Value v)) true bytes spelling rest
number_spelled read range bytes v spelling rest law e =
    let step = bind_some read (checked range) (v, rest) e in
    let both = checked_some range step.0 (v, rest) step.2 in
    let facts = law v rest (step.1 ∙ ap (λ (x : Value × List ℕ). Some x) both.1) refl in
    record { sort = both.0; fit = refl; parts = facts.0; left = facts.1 }

-- ---- one level

abbrev Law : DbType → Type 0
Law t = Sound (is_of t) (value_fits t) (bytes_of t) (reads t)

abbrev Held : Type 0
Held = DbType-F ((t : DbType) × Law t) ((field : Field) × Law field.kind)

abbrev plain : Held → DbType-F DbType Field
plain level =
    map-DbType ((t : DbType) × Law t) ((field : Field) × Law field.kind) DbType Field (λ held. held.0) (λ held. held.0) level

word_law :
    (make : ℕ → ℤ) → ((n : ℕ) → n < 2 ^ 32 → word_of (make n) ≡ n) → (bytes : List ℕ) → IsBytes bytes → (v : Value) →
    (x : Value) (after : List ℕ) → (word_at bytes >>= numbered make) ≡ Some (x, after) → v ≡ x →
    (bytes ≡ word_bytes (number_of v) ++ after) × IsBytes after
word_law make back bytes h v x after e same =
    subst (λ (w : Value). (bytes ≡ word_bytes (number_of w) ++ after) × IsBytes after) (sym same)
    (word_spelled make back bytes x after h e)

byte_law :
    (bytes : List ℕ) → IsBytes bytes → (v : Value) → (x : Value) (after : List ℕ) → small_at bytes ≡ Some (x, after) → v ≡ x →
    (bytes ≡ (byte_of (number_of v) ∷ []) ++ after) × IsBytes after
byte_law bytes h v x after e same =
    subst (λ (w : Value). (bytes ≡ (byte_of (number_of w) ∷ []) ++ after) × IsBytes after) (sym same)
    (byte_spelled bytes x after h e)

constant_fits :
    (bytes : List ℕ) (v : Value) (rest : List ℕ) → IsBytes bytes → unsigned_at bytes ≡ Some (v, rest) →
    int_le (number_of v) (pos 4294967295) ≡ true
constant_fits bytes v rest h e =
    let make : ℕ → ℤ = λ n. pos n in
    let step = bind_some (word_at bytes) (numbered make) (v, rest) e in
    let word = word_at-takes bytes step.0.0 step.0.1 h step.1 in
    let same = some_is (value.Num (pos step.0.0), step.0.1) (v, rest) step.2 in
    let made : value.Num (pos step.0.0) ≡ v = ap (λ (x : Value × List ℕ). x.0) same in
    rw (← made, value.outs-Num (pos step.0.0)) (below-word step.0.0 word.below)

unroll : (held : List ((field : Field) × Law field.kind)) →
    AllByRecursion (λ (field : Field). Law field.kind) (map (λ (h : (field : Field) × Law field.kind). h.0) held)
unroll [] = tt
unroll (field ∷ held) = (field.1, unroll held)

abbrev relation_of : List Value × List ℕ → Value × List ℕ
relation_of x = (value.Rel x.0, x.1)

risen_some :
    (t : DbType) (x : List Value × List ℕ) (v : Value) (rest : List ℕ) → risen t x ≡ Some (v, rest) →
    (keys_rise t x.0 ≡ true) × (value.Rel x.0 ≡ v) × (x.1 ≡ rest)
risen_some t x v rest e = by_test (keys_rise t x.0) refl e
  where
    by_test :
        (b : Bool) → keys_rise t x.0 ≡ b → (if b then Some (relation_of x) else None) ≡ Some (v, rest) →
        (keys_rise t x.0 ≡ true) × (value.Rel x.0 ≡ v) × (x.1 ≡ rest)
    by_test true h e =
        let same = some_is (relation_of x) (v, rest) e in
        (h, ap (λ (z : Value × List ℕ). z.0) same, ap (λ (z : Value × List ℕ). z.1) same)
    by_test false h e = absurd cc

nat_eq-refl : (n : ℕ) → nat_eq n n ≡ true
nat_eq-refl n = grind (arith, nat_tests)

lt-nat_lt : (n m : ℕ) → n < m → nat_lt n m ≡ true
lt-nat_lt n m h = grind (arith, nat_tests)

array_sound :
    (index element : DbType) → Law element → (bytes : List ℕ) (v : Value) (rest : List ℕ) → IsBytes bytes →
    (repeat (reads element) (count_of index) [] bytes >>= array) ≡ Some (v, rest) →
    SpelledAt (kinds.Arr index element) bytes v rest
array_sound index element law bytes v rest h e =
    let step = bind_some (repeat (reads element) (count_of index) [] bytes) array (v, rest) e in
    let got =
    repeat-sound (is_of element) (value_fits element) (bytes_of element) (reads element) law (count_of index) [] bytes
    step.0.0 step.0.1 h step.1
    in
    let same = some_is (value.Arr step.0.0, step.0.1) (v, rest) step.2 in
    let made : value.Arr got.items ≡ v = ap value.Arr (sym got.behind) ∙ ap (λ (x : Value × List ℕ). x.0) same in
    let left : step.0.1 ≡ rest = ap (λ (x : Value × List ℕ). x.1) same in
    let long : nat_eq (length got.items) (count_of index) ≡ true = rw (got.long) (nat_eq-refl (count_of index)) in
    let spelled : SpelledAt (kinds.Arr index element) bytes (value.Arr got.items) step.0.1 =
    rw (value.outs-Arr got.items)
    (record {
      sort = both_true long got.spelled.sort;
      fit = got.spelled.fit;
      parts = got.spelled.parts;
      left = got.spelled.left;
    })
    in
    subst (λ (x : Value × List ℕ). SpelledAt (kinds.Arr index element) bytes x.0 x.1) (λ i. (made i, left i)) spelled

record_sound :
    (fields : List Field) → AllByRecursion (λ (field : Field). Law field.kind) fields → (bytes : List ℕ) (v : Value)
    (rest : List ℕ) → IsBytes bytes →
    (in_turn (map (λ (field : Field). reads field.kind) fields) [] bytes >>= compound) ≡ Some (v, rest) →
    SpelledAt (kinds.Rec fields) bytes v rest
record_sound fields laws bytes v rest h e =
    let step = bind_some (in_turn (map (λ (field : Field). reads field.kind) fields) [] bytes) compound (v, rest) e in
    let got =
    in_turn-sound (λ (field : Field). is_of field.kind) (λ (field : Field). value_fits field.kind)
    (λ (field : Field). bytes_of field.kind) (λ (field : Field). reads field.kind) fields laws [] bytes step.0.0 step.0.1 h
    step.1
    in
    let same = some_is (value.Rec step.0.0, step.0.1) (v, rest) step.2 in
    let made : value.Rec got.items ≡ v = ap value.Rec (sym got.behind) ∙ ap (λ (x : Value × List ℕ). x.0) same in
    let left : step.0.1 ≡ rest = ap (λ (x : Value × List ℕ). x.1) same in
    let spelled : SpelledAt (kinds.Rec fields) bytes (value.Rec got.items) step.0.1 =
    rw (value.outs-Rec got.items)
    (record {
      sort = both_true (same_length fields got.items got.long) (tests fields got.items got.spelled.sort);
      fit = list_all-zip_map (λ (field : Field) (part : Value). value_fits field.kind part) fields got.items ∙ got.spelled.fit;
      parts = got.spelled.parts
          ∙ ap (λ (bs : List ℕ). bs ++ step.0.1)
          (sym (flat_map-zip_map (λ (field : Field) (part : Value). bytes_of field.kind part) fields got.items));
      left = got.spelled.left;
    })
    in
    subst (λ (x : Value × List ℕ). SpelledAt (kinds.Rec fields) bytes x.0 x.1) (λ i. (made i, left i)) spelled
  where
    same_length :
        (fields : List Field) (parts : List Value) → length parts ≡ length fields →
        nat_eq (length parts)
        (length (map (λ (field : Field × (Value → Bool)). field.1) (map (λ (field : Field). (field, is_of field.kind)) fields)))
        ≡ true
    same_length fields parts long = simp length-map (rw long (nat_eq-refl (length fields)))

    tests :
        (fields : List Field) (parts : List Value) →
        list_all (λ (pair : Field × Value). is_of pair.0.kind pair.1) (zip fields parts) ≡ true →
        list_all (λ (pair : (Value → Bool) × Value). pair.0 pair.1)
        (zip (map (λ (field : Field × (Value → Bool)). field.1) (map (λ (field : Field). (field, is_of field.kind)) fields)) parts)
        ≡ true
    tests [] parts t = refl
    tests (field ∷ fields) [] t = refl
    tests (field ∷ fields) (part ∷ parts) t =
        both_true (first_so (is_of field.kind part) _ t) (tests fields parts (second_so (is_of field.kind part) _ t))

relation_sound :
    (keys : List (List ℕ)) (record_type : DbType) → Law record_type → (bytes : List ℕ) (v : Value) (rest : List ℕ) →
    IsBytes bytes → (word_at bytes >>= records record_type keys) ≡ Some (v, rest) →
    SpelledAt (kinds.Rel keys record_type) bytes v rest
relation_sound keys record_type law bytes v rest h e =
    let head = bind_some (word_at bytes) (records record_type keys) (v, rest) e in
    let word = word_at-takes bytes head.0.0 head.0.1 h head.1 in
    let t = types.Rel keys record_type in
    let step = bind_some (repeat (reads record_type) head.0.0 [] head.0.1) (risen t) (v, rest) head.2 in
    let got =
    repeat-sound (is_of record_type) (value_fits record_type) (bytes_of record_type) (reads record_type) law head.0.0 []
    head.0.1 step.0.0 step.0.1 word.left step.1
    in
    let rise = risen_some t step.0 v rest step.2 in
    let made : value.Rel got.items ≡ v = ap value.Rel (sym got.behind) ∙ rise.1 in
    let rising : keys_rise t got.items ≡ true = ap (keys_rise t) (sym got.behind) ∙ rise.0 in
    let below : length got.items < 2 ^ 32 = rw got.long word.below in
    let parts : bytes ≡ (count_bytes got.items ++ flat_map (bytes_of record_type) got.items) ++ step.0.1 =
    word.parts ∙ ap (λ (n : ℕ). little_bytes 4 n ++ head.0.1) (sym got.long)
    ∙ ap (λ (bs : List ℕ). count_bytes got.items ++ bs) got.spelled.parts
    ∙ sym (append_assoc (count_bytes got.items) (flat_map (bytes_of record_type) got.items) step.0.1)
    in
    let spelled : SpelledAt (kinds.Rel keys record_type) bytes (value.Rel got.items) step.0.1 =
    rw (value.outs-Rel got.items)
    (record {
      sort = both_true got.spelled.sort rising;
      fit = both_true (lt-nat_lt (length got.items) (2 ^ 32) below) got.spelled.fit;
      parts = parts;
      left = got.spelled.left;
    })
    in
    subst (λ (x : Value × List ℕ). SpelledAt (kinds.Rel keys record_type) bytes x.0 x.1) (λ i. (made i, rise.2 i)) spelled

level_sound :
    (level : Held) (bytes : List ℕ) (v : Value) (rest : List ℕ) → IsBytes bytes →
    read_level (readers (plain level)) bytes ≡ Some (v, rest) → SpelledAt (plain level) bytes v rest
level_sound kinds.Int bytes v rest h e =
    number_spelled (signed_at bytes) (range_level {X = DbType} {Y = Field} kinds.Int) bytes v (word_bytes (number_of v)) rest
    (word_law (cast_signed w32) word_of-signed bytes h v) e
level_sound kinds.Card bytes v rest h e =
    number_spelled (unsigned_at bytes) (range_level {X = DbType} {Y = Field} kinds.Card) bytes v (word_bytes (number_of v)) rest
    (word_law (λ n. pos n) word_of-pos bytes h v) e
level_sound kinds.Bool bytes v rest h e =
    number_spelled (small_at bytes) (range_level {X = DbType} {Y = Field} kinds.Bool) bytes v (byte_of (number_of v) ∷ []) rest
    (byte_law bytes h v) e
level_sound kinds.Char bytes v rest h e =
    number_spelled (small_at bytes) (range_level {X = DbType} {Y = Field} kinds.Char) bytes v (byte_of (number_of v) ∷ []) rest
    (byte_law bytes h v) e
level_sound (kinds.Enum names) bytes v rest h e =
    let range = range_level {X = DbType} {Y = Field} (kinds.Enum names) in
    let spelled =
    number_spelled (unsigned_at bytes) range bytes v (word_bytes (number_of v)) rest
    (word_law (λ n. pos n) word_of-pos bytes h v) e
    in
    let step = bind_some (unsigned_at bytes) (checked range) (v, rest) e in
    let both = checked_some range step.0 (v, rest) step.2 in
    record {
      sort = spelled.sort;
      fit = constant_fits bytes v rest h (step.1 ∙ ap (λ (x : Value × List ℕ). Some x) both.1);
      parts = spelled.parts;
      left = spelled.left;
    }
level_sound (kinds.Sub host least greatest) bytes v rest h e =
    let range : Option Range = Some (record { least = least; greatest = greatest }) in
    let step = bind_some (reads host.0 bytes) (checked range) (v, rest) e in
    let both = checked_some range step.0 (v, rest) step.2 in
    let spelled = host.1 bytes v rest h (step.1 ∙ ap (λ (x : Value × List ℕ). Some x) both.1) in
    record { sort = both.0; fit = spelled.fit; parts = spelled.parts; left = spelled.left }
level_sound (kinds.Arr index element) bytes v rest h e = array_sound index.0 element.0 element.1 bytes v rest h e
level_sound (kinds.Rec fields) bytes v rest h e =
    record_sound (map (λ (held : (field : Field) × Law field.kind). held.0) fields) (unroll fields) bytes v rest h
    (ap (λ (reading : List (Reader Value)). in_turn reading [] bytes >>= compound)
    (sym (paired (map (λ (held : (field : Field) × Law field.kind). held.0) fields))) ∙ e)
level_sound (kinds.Rel keys record_type) bytes v rest h e =
    relation_sound keys record_type.0 record_type.1 bytes v rest h e

-- what is read was spelled so
pub reads-sound : (t : DbType) → Law t
reads-sound = type_induction Law step
  where
    step : (level : Held) → Law (roll-DbType (plain level))
    step level bytes v rest h e =
        let t = roll-DbType (plain level) in
        let out = out-roll-DbType (plain level) in
        let read =
        ap (λ (d : DbType-F DbType Field). read_level (readers d) bytes) (sym out) ∙ sym (reads-out t bytes) ∙ e
        in
        let spelled = level_sound level bytes v rest h read in
        record {
          sort = is_of-out t v ∙ ap (λ (d : DbType-F DbType Field). is_of_level (tested d) (out-Value v)) out ∙ spelled.sort;
          fit = value_fits-out t v ∙ ap (λ (d : DbType-F DbType Field). fits_level (fitting d) v) out ∙ spelled.fit;
          parts = spelled.parts
              ∙ ap (λ (bs : List ℕ). bs ++ rest)
              (sym (bytes_of-out t v ∙ ap (λ (d : DbType-F DbType Field). bytes_level (spellings d) v) out));
          left = spelled.left;
        }
