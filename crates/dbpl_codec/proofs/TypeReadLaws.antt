-- A descriptor that is spelled is read, and what is read was spelled so: by induction on the depth.
use Rattle.std.proofs.Common.{◌≡◌, ℕ, ℤ, zero, suc, ◌+◌, ◌<◌, ◌≤◌, ◌-◌, ◌^◌, ◌&&◌, Bool, true, false, if◌then◌else◌, List, [], ◌∷◌, ◌++◌, length, take, drop, inl, inr, Option, Some, None, refl, sym, ap, subst, ◌∙◌, arith, append_assoc}
use Rattle.std.proofs.lemmas.Bool.{cases_lt, le-ltb, ltb-true, ltb-false, lt-ltb}
use Rattle.std.proofs.lemmas.Bool.Decides.{nat_tests}
use Rattle.std.proofs.lemmas.Int.{ints, of_z-to_z, to_z-of_z}
use Rattle.std.proofs.lemmas.List.{get_or-drop, get_or-take, get_or_past, take-append-drop, length-append, length-take}
use Rattle.std.proofs.lemmas.Nat.{le_bytes_8}
use Rattle.std.specs.Cmp.{first_so, second_so}
use Rattle.std.specs.Cmp.Derive.{both_true}
use Rattle.std.specs.Int.{cast_signed, cast_unsigned, w64}
use Rattle.std.specs.List.{flat_map, list_all}
use Rattle.std.specs.Prelude.{int_le, nat_lt, negsuc, pos}
use mir.Val.{SFits}
use mir.ValLaws.{of_z_fits}
use Rattle.byteorder.specs.Endian.{little_bytes, little_number}
use Rattle.byteorder.specs.Numbers.{little_number-reads_back}
use Rattle.dbpl_value.specs.declared.db_type.DbType.{DbType}
use Rattle.dbpl_value.specs.declared.db_type.DbType.TheVariants as types
use Rattle.dbpl_value.specs.declared.field.Field.{Field}
use Rattle.dbpl_codec.proofs.ByteLaws.{IsBytes, at_least, at_most, some_is, word_at-again, word_at-takes}
use Rattle.dbpl_codec.proofs.ListLaws.{Completes, Sound, Spelled, bind_some, repeat-completes, repeat-sound}
use Rattle.dbpl_codec.proofs.TypeBytes.{field_bytes, type_bytes-Arr, type_bytes-Bool, type_bytes-Card, type_bytes-Char, type_bytes-Enum, type_bytes-Int, type_bytes-Rec, type_bytes-Rel, type_bytes-Sub}
use Rattle.dbpl_value.proofs.TypeKinds.{by_kind, is_within, within-Arr, within-Rec, within-Rel, within-Sub, within-none}
use Rattle.dbpl_codec.proofs.TypeFits.{field_fits, type_fits-Arr, type_fits-Enum, type_fits-Rec, type_fits-Rel, type_fits-Sub}
use Rattle.dbpl_codec.specs.Numbers.{count_bytes, count_fits, long_bytes, name_bytes, names_bytes, names_fit}
use Rattle.dbpl_codec.specs.Reading.{Reader, ◌>>=◌, byte_at, repeat, word_at}
use Rattle.dbpl_codec.specs.TypeReading.{array_at, bytes_at, enumeration_at, field_at, kind_at, long_at, name_at, names_at, record_at, relation_at, subrange_at, type_at}
use Rattle.dbpl_codec.specs.TypeSpelling.{is_long, type_bytes, type_fits}

abbrev pub any : {A : Type 0} → A → Bool
any x = true

all_any : {A : Type 0} (xs : List A) → list_all any xs ≡ true
all_any [] = refl
all_any (x ∷ xs) = all_any xs

-- ---- so many bytes, and names

bytes_at-again : (xs rest : List ℕ) → bytes_at (length xs) (xs ++ rest) ≡ Some (xs, rest)
unfolding bytes_at
bytes_at-again xs rest =
    let long : nat_lt (length (xs ++ rest)) (length xs) ≡ false = le-ltb _ _ (omega (arith, length-append xs rest)) in
    let front : take (length xs) (xs ++ rest) ≡ xs = take_front xs rest in
    let behind : drop (length xs) (xs ++ rest) ≡ rest = drop_front xs rest in
    rw (long, front, behind) refl
  where
    take_front : (xs rest : List ℕ) → take (length xs) (xs ++ rest) ≡ xs
    take_front [] rest = refl
    take_front (x ∷ xs) rest = ap (λ (ys : List ℕ). x ∷ ys) (take_front xs rest)

    drop_front : (xs rest : List ℕ) → drop (length xs) (xs ++ rest) ≡ rest
    drop_front [] rest = refl
    drop_front (x ∷ xs) rest = drop_front xs rest

abbrev pair : List ℕ → List ℕ → List ℕ × List ℕ
pair x rest = (x, rest)

bytes_at-takes :
    (count : ℕ) (bytes x rest : List ℕ) → IsBytes bytes → bytes_at count bytes ≡ Some (x, rest) →
    (bytes ≡ x ++ rest) × (length x ≡ count) × IsBytes rest
unfolding bytes_at
bytes_at-takes count bytes x rest h e = by_test (nat_lt (length bytes) count) refl e
  where
    by_test :
        (b : Bool) → nat_lt (length bytes) count ≡ b →
        (if b then None else Some (pair (take count bytes) (drop count bytes))) ≡ Some (pair x rest) →
        (bytes ≡ x ++ rest) × (length x ≡ count) × IsBytes rest
    by_test true t f = absurd cc
    by_test false t f =
        let both = some_is (pair (take count bytes) (drop count bytes)) (pair x rest) f in
        let front : take count bytes ≡ x = ap (λ (p : List ℕ × List ℕ). p.0) both in
        let behind : drop count bytes ≡ rest = ap (λ (p : List ℕ × List ℕ). p.1) both in
        let long : count ≤ length bytes = ltb-false (length bytes) count t in (
          sym (take-append-drop count bytes) ∙ (λ i. front i ++ behind i),
          ap (λ (ys : List ℕ). length ys) (sym front) ∙ omega (arith, length-take count bytes),
          subst IsBytes behind (λ i. rw (get_or-drop count bytes i 0) (h (count + i))),
        )

name-completes : Completes any count_fits name_bytes name_at
unfolding name_at
name-completes name rest t f =
    let count : word_at (name_bytes name ++ rest) ≡ Some (length name, name ++ rest) =
    ap (λ (bytes : List ℕ). word_at bytes) (append_assoc (count_bytes name) name rest)
    ∙ word_at-again (length name) (name ++ rest) (ltb-true (length name) (2 ^ 32) f)
    in
    ap (λ (r : Option (ℕ × List ℕ)). r >>= λ n. bytes_at n.0 n.1) count ∙ bytes_at-again name rest

pub name-sound : Sound any count_fits name_bytes name_at
unfolding name_at
name-sound bytes name rest h e =
    let head = bind_some (word_at bytes) (λ n. bytes_at n.0 n.1) (name, rest) e in
    let word = word_at-takes bytes head.0.0 head.0.1 h head.1 in
    let text = bytes_at-takes head.0.0 head.0.1 name rest word.left head.2 in
    let below : length name < 2 ^ 32 = rw text.1 word.below in
    record {
      sort = refl;
      fit = lt-ltb (length name) (2 ^ 32) below;
      parts = word.parts ∙ ap (λ (n : ℕ). little_bytes 4 n ++ head.0.1) (sym text.1)
          ∙ ap (λ (bs : List ℕ). count_bytes name ++ bs) text.0
          ∙ sym (append_assoc (count_bytes name) name rest);
      left = text.2;
    }

names-completes : Completes any names_fit names_bytes names_at
unfolding names_at
names-completes names rest t f =
    let count : word_at (names_bytes names ++ rest) ≡ Some (length names, flat_map name_bytes names ++ rest) =
    ap (λ (bytes : List ℕ). word_at bytes) (append_assoc (count_bytes names) (flat_map name_bytes names) rest)
    ∙ word_at-again (length names) (flat_map name_bytes names ++ rest)
    (ltb-true (length names) (2 ^ 32) (first_so (count_fits names) (list_all count_fits names) f))
    in
    ap (λ (r : Option (ℕ × List ℕ)). r >>= λ n. repeat name_at n.0 [] n.1) count
    ∙ repeat-completes any count_fits name_bytes name_at name-completes names [] rest (all_any names)
    (second_so (count_fits names) (list_all count_fits names) f)

pub names-sound : Sound any names_fit names_bytes names_at
unfolding names_at
names-sound bytes names rest h e =
    let head = bind_some (word_at bytes) (λ n. repeat name_at n.0 [] n.1) (names, rest) e in
    let word = word_at-takes bytes head.0.0 head.0.1 h head.1 in
    let got = repeat-sound any count_fits name_bytes name_at name-sound head.0.0 [] head.0.1 names rest word.left head.2 in
    let same : got.items ≡ names = sym got.behind in
    let long : length names ≡ head.0.0 = ap (λ (ns : List (List ℕ)). length ns) (sym same) ∙ got.long in
    let below : length names < 2 ^ 32 = rw long word.below in
    let spelled = subst (λ (ns : List (List ℕ)). Spelled true (list_all count_fits ns) head.0.1 (flat_map name_bytes ns) rest) same (record {
      sort = refl;
      fit = got.spelled.fit;
      parts = got.spelled.parts;
      left = got.spelled.left;
    })
    in
    record {
      sort = refl;
      fit = both_true (lt-ltb (length names) (2 ^ 32) below) spelled.fit;
      parts = word.parts ∙ ap (λ (n : ℕ). little_bytes 4 n ++ head.0.1) (sym long)
          ∙ ap (λ (bs : List ℕ). count_bytes names ++ bs) spelled.parts
          ∙ sym (append_assoc (count_bytes names) (flat_map name_bytes names) rest);
      left = spelled.left;
    }

-- ---- numbers in eight bytes

long_fits : (z : ℤ) → is_long z ≡ true → SFits w64 z
long_fits (pos n) h =
    let below = at_most n 9223372036854775807 (second_so (int_le (negsuc 9223372036854775807) (pos n)) _ h) in
    record { sfits = omega arith }
long_fits (negsuc n) h =
    let below = at_least n 9223372036854775807 (first_so (int_le (negsuc 9223372036854775807) (negsuc n)) _ h) in
    record { sfits = omega arith }

-- what eight bytes hold is a long number
pub long-in : (z : ℤ) → SFits w64 z → is_long z ≡ true
long-in (pos n) f =
    let below = f.sfits in
    let low : int_le (negsuc 9223372036854775807) (pos n) ≡ true = grind (arith, ints) in
    let high : int_le (pos n) (pos 9223372036854775807) ≡ true = grind (arith, ints) in
    both_true low high
long-in (negsuc n) f =
    let below = f.sfits in
    let low : int_le (negsuc 9223372036854775807) (negsuc n) ≡ true = grind (arith, ints) in
    let high : int_le (negsuc n) (pos 9223372036854775807) ≡ true = grind (arith, ints) in
    both_true low high

below_long : (z : ℤ) → is_long z ≡ true → cast_unsigned w64 z < 2 ^ 64
below_long z h = (of_z_fits w64 z (long_fits z h)).fits

long_back : (z : ℤ) → is_long z ≡ true → cast_signed w64 (cast_unsigned w64 z) ≡ z
long_back z h = to_z-of_z w64 z (long_fits z h)

long-completes : Completes any is_long long_bytes long_at
unfolding long_at
long-completes z rest t f =
    let n = cast_unsigned w64 z in
    let long : nat_lt (length (little_bytes 8 n ++ rest)) 8 ≡ false = le-ltb _ _ (omega arith) in
    let number : little_number 8 (little_bytes 8 n ++ rest) ≡ n = little_number-reads_back 8 n rest (below_long z f) in
    rw (long, number, long_back z f) refl

low_long : (n : ℕ) → n < 9223372036854775808 → cast_signed w64 n ≡ pos n
low_long n lt = grind (arith, ints, nat_tests)

high_long : (n : ℕ) → 9223372036854775808 ≤ n → cast_signed w64 n ≡ negsuc (18446744073709551616 - suc n)
high_long n le = grind (arith, ints, nat_tests)

low_in : (n : ℕ) → n < 9223372036854775808 → is_long (pos n) ≡ true
low_in n lt =
    let low : int_le (negsuc 9223372036854775807) (pos n) ≡ true = grind (arith, ints) in
    let high : int_le (pos n) (pos 9223372036854775807) ≡ true = grind (arith, ints) in
    both_true low high

high_in : (n : ℕ) → n < 9223372036854775808 → is_long (negsuc n) ≡ true
high_in n lt =
    let low : int_le (negsuc 9223372036854775807) (negsuc n) ≡ true = grind (arith, ints) in
    let high : int_le (negsuc n) (pos 9223372036854775807) ≡ true = grind (arith, ints) in
    both_true low high

long_is_long : (n : ℕ) → n < 2 ^ 64 → is_long (cast_signed w64 n) ≡ true
long_is_long n h =
    elim (cases_lt n 9223372036854775808) [
      | inl low ↦ ap is_long (low_long n low) ∙ low_in n low
      | inr high ↦ ap is_long (high_long n high) ∙ high_in (18446744073709551616 - suc n) (omega arith)
    ]

eight_again :
    (a b c d e f g h : ℕ) → IsBytes (a ∷ b ∷ c ∷ d ∷ e ∷ f ∷ g ∷ h ∷ []) →
    little_bytes 8 (little_number 8 (a ∷ b ∷ c ∷ d ∷ e ∷ f ∷ g ∷ h ∷ [])) ≡ a ∷ b ∷ c ∷ d ∷ e ∷ f ∷ g ∷ h ∷ []
eight_again a b c d e f g h small =
    le_bytes_8 (a ∷ b ∷ c ∷ d ∷ e ∷ f ∷ g ∷ h ∷ []) (little_number 8 (a ∷ b ∷ c ∷ d ∷ e ∷ f ∷ g ∷ h ∷ [])) refl small
    (omega arith)

eight_small :
    (a b c d e f g h : ℕ) (rest : List ℕ) → IsBytes (a ∷ b ∷ c ∷ d ∷ e ∷ f ∷ g ∷ h ∷ rest) →
    IsBytes (a ∷ b ∷ c ∷ d ∷ e ∷ f ∷ g ∷ h ∷ [])
eight_small a b c d e f g h rest small i =
    elim (cases_lt i 8) [
      | inl lt ↦ rw (get_or-take 8 (a ∷ b ∷ c ∷ d ∷ e ∷ f ∷ g ∷ h ∷ rest) i 0 lt) (small i)
      | inr le ↦ rw (get_or_past (a ∷ b ∷ c ∷ d ∷ e ∷ f ∷ g ∷ h ∷ []) i 0 le) (omega arith)
    ]

abbrev pub long_pair : ℤ → List ℕ → ℤ × List ℕ
long_pair z rest = (z, rest)

pub long-sound : Sound any is_long long_bytes long_at
unfolding long_at
long-sound [] z rest small is = absurd cc
long-sound (a ∷ []) z rest small is = absurd cc
long-sound (a ∷ b ∷ []) z rest small is = absurd cc
long-sound (a ∷ b ∷ c ∷ []) z rest small is = absurd cc
long-sound (a ∷ b ∷ c ∷ d ∷ []) z rest small is = absurd cc
long-sound (a ∷ b ∷ c ∷ d ∷ e ∷ []) z rest small is = absurd cc
long-sound (a ∷ b ∷ c ∷ d ∷ e ∷ f ∷ []) z rest small is = absurd cc
long-sound (a ∷ b ∷ c ∷ d ∷ e ∷ f ∷ g ∷ []) z rest small is = absurd cc
long-sound (a ∷ b ∷ c ∷ d ∷ e ∷ f ∷ g ∷ h ∷ after) z rest small is =
    let eight = a ∷ b ∷ c ∷ d ∷ e ∷ f ∷ g ∷ h ∷ [] in
    let n = little_number 8 eight in
    let long : nat_lt (length (a ∷ b ∷ c ∷ d ∷ e ∷ f ∷ g ∷ h ∷ after)) 8 ≡ false = le-ltb _ _ (omega arith) in
    let read : Some (long_pair (cast_signed w64 n) after) ≡ Some (z, rest) = rw long at is in
    let both = some_is (long_pair (cast_signed w64 n) after) (z, rest) read in
    let number : cast_signed w64 n ≡ z = ap (λ (x : ℤ × List ℕ). x.0) both in
    let same : after ≡ rest = ap (λ (x : ℤ × List ℕ). x.1) both in
    let bytes = eight_small a b c d e f g h after small in
    let below : n < 2 ^ 64 =
    omega (arith, bytes 0, bytes 1, bytes 2, bytes 3, bytes 4, bytes 5, bytes 6, bytes 7)
    in
    let back : cast_unsigned w64 z ≡ n = ap (λ (y : ℤ). cast_unsigned w64 y) (sym number) ∙ of_z-to_z w64 n below in
    record {
      sort = refl;
      fit = ap is_long (sym number) ∙ long_is_long n below;
      parts = ap (λ (bs : List ℕ). bs ++ after)
          (sym (eight_again a b c d e f g h bytes) ∙ ap (little_bytes 8) (sym back))
          ∙ ap (λ (bs : List ℕ). long_bytes z ++ bs) same;
      left = subst IsBytes same (λ i. small (suc (suc (suc (suc (suc (suc (suc (suc i)))))))));
    }

-- ---- descriptors

-- the descriptors of some sort that fit are read from their spelling
abbrev pub Reads : (DbType → Bool) → Reader DbType → Type 0
Reads typed read = Completes typed type_fits type_bytes read

-- what is read is a descriptor of the sort, and was spelled so
abbrev pub Spells : (DbType → Bool) → Reader DbType → Type 0
Spells typed read = Sound typed type_fits type_bytes read

abbrev pub field_pair : List ℕ → DbType → List ℕ → Field × List ℕ
field_pair name kind rest = (record { name = name; kind = kind }, rest)

module _ (typed : DbType → Bool) (read : Reader DbType) where
  abbrev pub field_typed : Field → Bool
  field_typed field = typed field.kind

  field-completes : Reads typed read → Completes field_typed field_fits field_bytes (field_at read)
  unfolding field_at
  field-completes law field rest t f =
      let text : name_at (field_bytes field ++ rest) ≡ Some (field.name, type_bytes field.kind ++ rest) =
      ap (λ (bytes : List ℕ). name_at bytes) (append_assoc (name_bytes field.name) (type_bytes field.kind) rest)
      ∙ name-completes field.name (type_bytes field.kind ++ rest) refl
      (first_so (count_fits field.name) (type_fits field.kind) f)
      in
      let kind = law field.kind rest t (second_so (count_fits field.name) (type_fits field.kind) f) in
      ap (λ (r : Option (List ℕ × List ℕ)). r >>= λ name. read name.1 >>= λ kind.
      Some (field_pair name.0 kind.0 kind.1)) text
      ∙ ap (λ (r : Option (DbType × List ℕ)). r >>= λ kind. Some (field_pair field.name kind.0 kind.1)) kind

  subrange-completes :
      Reads typed read → (host : DbType) (least greatest : ℤ) (rest : List ℕ) → typed host ≡ true →
      type_fits (types.Sub host least greatest) ≡ true →
      subrange_at read ((type_bytes host ++ (long_bytes least ++ long_bytes greatest)) ++ rest)
      ≡ Some (types.Sub host least greatest, rest)
  unfolding subrange_at
  subrange-completes law host least greatest rest t fits =
      let f : (type_fits host && is_long least && is_long greatest) ≡ true = sym (type_fits-Sub host least greatest) ∙ fits in
      let f_host = first_so (type_fits host) (is_long least) (first_so (type_fits host && is_long least) (is_long greatest) f) in
      let f_least = second_so (type_fits host) (is_long least) (first_so (type_fits host && is_long least) (is_long greatest) f) in
      let f_greatest = second_so (type_fits host && is_long least) (is_long greatest) f in
      let one : read ((type_bytes host ++ (long_bytes least ++ long_bytes greatest)) ++ rest)
      ≡ Some (host, long_bytes least ++ (long_bytes greatest ++ rest)) =
      ap (λ (bytes : List ℕ). read bytes)
      (append_assoc (type_bytes host) (long_bytes least ++ long_bytes greatest) rest
      ∙ ap (λ (bytes : List ℕ). type_bytes host ++ bytes) (append_assoc (long_bytes least) (long_bytes greatest) rest))
      ∙ law host (long_bytes least ++ (long_bytes greatest ++ rest)) t f_host
      in
      let two = long-completes least (long_bytes greatest ++ rest) refl f_least in
      let three = long-completes greatest rest refl f_greatest in
      ap (λ (r : Option (DbType × List ℕ)). r >>= λ host. long_at host.1 >>= λ least. long_at least.1 >>= λ greatest.
      Some (types.Sub host.0 least.0 greatest.0, greatest.1)) one
      ∙ ap (λ (r : Option (ℤ × List ℕ)). r >>= λ least. long_at least.1 >>= λ greatest.
      Some (types.Sub host least.0 greatest.0, greatest.1)) two
      ∙ ap (λ (r : Option (ℤ × List ℕ)). r >>= λ greatest. Some (types.Sub host least greatest.0, greatest.1)) three

  array-completes :
      Reads typed read → (index element : DbType) (rest : List ℕ) → (typed index && typed element) ≡ true →
      type_fits (types.Arr index element) ≡ true →
      array_at read ((type_bytes index ++ type_bytes element) ++ rest) ≡ Some (types.Arr index element, rest)
  unfolding array_at
  array-completes law index element rest t fits =
      let f : (type_fits index && type_fits element) ≡ true = sym (type_fits-Arr index element) ∙ fits in
      let one : read ((type_bytes index ++ type_bytes element) ++ rest) ≡ Some (index, type_bytes element ++ rest) =
      ap (λ (bytes : List ℕ). read bytes) (append_assoc (type_bytes index) (type_bytes element) rest)
      ∙ law index (type_bytes element ++ rest) (first_so (typed index) (typed element) t)
      (first_so (type_fits index) (type_fits element) f)
      in
      let two = law element rest (second_so (typed index) (typed element) t) (second_so (type_fits index) (type_fits element) f)
      in
      ap (λ (r : Option (DbType × List ℕ)). r >>= λ index. read index.1 >>= λ element.
      Some (types.Arr index.0 element.0, element.1)) one
      ∙ ap (λ (r : Option (DbType × List ℕ)). r >>= λ element. Some (types.Arr index element.0, element.1)) two

  record-completes :
      Reads typed read → (fields : List Field) (rest : List ℕ) → list_all field_typed fields ≡ true →
      type_fits (types.Rec fields) ≡ true →
      record_at read ((count_bytes fields ++ flat_map field_bytes fields) ++ rest) ≡ Some (types.Rec fields, rest)
  unfolding record_at
  record-completes law fields rest t fits =
      let f : (count_fits fields && list_all field_fits fields) ≡ true = sym (type_fits-Rec fields) ∙ fits in
      let count : word_at ((count_bytes fields ++ flat_map field_bytes fields) ++ rest)
      ≡ Some (length fields, flat_map field_bytes fields ++ rest) =
      ap (λ (bytes : List ℕ). word_at bytes) (append_assoc (count_bytes fields) (flat_map field_bytes fields) rest)
      ∙ word_at-again (length fields) (flat_map field_bytes fields ++ rest)
      (ltb-true (length fields) (2 ^ 32) (first_so (count_fits fields) (list_all field_fits fields) f))
      in
      let all =
      repeat-completes field_typed field_fits field_bytes (field_at read) (field-completes law) fields [] rest t
      (second_so (count_fits fields) (list_all field_fits fields) f)
      in
      ap (λ (r : Option (ℕ × List ℕ)). r >>= λ n. repeat (field_at read) n.0 [] n.1 >>= λ fields.
      Some (types.Rec fields.0, fields.1)) count
      ∙ ap (λ (r : Option (List Field × List ℕ)). r >>= λ fields. Some (types.Rec fields.0, fields.1)) all

  relation-completes :
      Reads typed read → (keys : List (List ℕ)) (record_type : DbType) (rest : List ℕ) → typed record_type ≡ true →
      type_fits (types.Rel keys record_type) ≡ true →
      relation_at read ((names_bytes keys ++ type_bytes record_type) ++ rest) ≡ Some (types.Rel keys record_type, rest)
  unfolding relation_at
  relation-completes law keys record_type rest t fits =
      let f : (names_fit keys && type_fits record_type) ≡ true = sym (type_fits-Rel keys record_type) ∙ fits in
      let one : names_at ((names_bytes keys ++ type_bytes record_type) ++ rest) ≡ Some (keys, type_bytes record_type ++ rest) =
      ap (λ (bytes : List ℕ). names_at bytes) (append_assoc (names_bytes keys) (type_bytes record_type) rest)
      ∙ names-completes keys (type_bytes record_type ++ rest) refl (first_so (names_fit keys) (type_fits record_type) f)
      in
      let two = law record_type rest t (second_so (names_fit keys) (type_fits record_type) f) in
      ap (λ (r : Option (List (List ℕ) × List ℕ)). r >>= λ keys. read keys.1 >>= λ of. Some (types.Rel keys.0 of.0, of.1)) one
      ∙ ap (λ (r : Option (DbType × List ℕ)). r >>= λ of. Some (types.Rel keys of.0, of.1)) two

not_both : (b : Bool) → b ≡ false → b ≡ true → ⊥
not_both true h g = cc
not_both false h g = cc

-- a descriptor in which types stand no deeper
abbrev Again : ℕ → DbType → Type 0
Again depth t =
    (rest : List ℕ) → is_within depth t ≡ true → type_fits t ≡ true → type_at depth (type_bytes t ++ rest) ≡ Some (t, rest)

abbrev pub one : DbType → List ℕ → Option (DbType × List ℕ)
one t rest = Some (t, rest)

pub int_at : (depth : ℕ) (rest : List ℕ) → type_at (suc depth) (1 ∷ rest) ≡ one types.Int rest
unfolding type_at kind_at
int_at depth rest = refl

pub card_at : (depth : ℕ) (rest : List ℕ) → type_at (suc depth) (2 ∷ rest) ≡ one types.Card rest
unfolding type_at kind_at
card_at depth rest = refl

pub bool_at : (depth : ℕ) (rest : List ℕ) → type_at (suc depth) (3 ∷ rest) ≡ one types.Bool rest
unfolding type_at kind_at
bool_at depth rest = refl

pub char_at : (depth : ℕ) (rest : List ℕ) → type_at (suc depth) (4 ∷ rest) ≡ one types.Char rest
unfolding type_at kind_at
char_at depth rest = refl

pub enumeration_kind : (depth : ℕ) (bytes : List ℕ) → type_at (suc depth) (5 ∷ bytes) ≡ enumeration_at bytes
unfolding type_at kind_at
enumeration_kind depth bytes = refl

pub subrange_kind : (depth : ℕ) (bytes : List ℕ) → type_at (suc depth) (6 ∷ bytes) ≡ subrange_at (type_at depth) bytes
unfolding type_at kind_at
subrange_kind depth bytes = refl

pub array_kind : (depth : ℕ) (bytes : List ℕ) → type_at (suc depth) (7 ∷ bytes) ≡ array_at (type_at depth) bytes
unfolding type_at kind_at
array_kind depth bytes = refl

pub record_kind : (depth : ℕ) (bytes : List ℕ) → type_at (suc depth) (8 ∷ bytes) ≡ record_at (type_at depth) bytes
unfolding type_at kind_at
record_kind depth bytes = refl

pub relation_kind : (depth : ℕ) (bytes : List ℕ) → type_at (suc depth) (9 ∷ bytes) ≡ relation_at (type_at depth) bytes
unfolding type_at kind_at
relation_kind depth bytes = refl

enumeration-completes :
    (names : List (List ℕ)) (rest : List ℕ) → type_fits (types.Enum names) ≡ true →
    enumeration_at (names_bytes names ++ rest) ≡ one (types.Enum names) rest
unfolding enumeration_at
enumeration-completes names rest fits =
    ap (λ (r : Option (List (List ℕ) × List ℕ)). r >>= λ names. Some (types.Enum names.0, names.1))
    (names-completes names rest refl (sym (type_fits-Enum names) ∙ fits))

pub type_at-completes : (depth : ℕ) → Reads (is_within depth) (type_at depth)
type_at-completes zero = λ t rest within fits. absurd (not_both (is_within 0 t) (within-none t) within)
type_at-completes (suc depth) = by_kind (Again (suc depth)) (record {
  int = λ rest within fits. rw type_bytes-Int (int_at depth rest);
  card = λ rest within fits. rw type_bytes-Card (card_at depth rest);
  bool = λ rest within fits. rw type_bytes-Bool (bool_at depth rest);
  char = λ rest within fits. rw type_bytes-Char (char_at depth rest);
  enumeration = λ names rest within fits. rw (type_bytes-Enum names)
      (enumeration_kind depth (names_bytes names ++ rest) ∙ enumeration-completes names rest fits);
  subrange = λ host least greatest rest within fits. rw (type_bytes-Sub host least greatest)
      (subrange_kind depth ((type_bytes host ++ (long_bytes least ++ long_bytes greatest)) ++ rest)
      ∙ subrange-completes (is_within depth) (type_at depth) (type_at-completes depth) host least greatest rest
      (sym (within-Sub depth host least greatest) ∙ within) fits);
  array = λ index element rest within fits. rw (type_bytes-Arr index element)
      (array_kind depth ((type_bytes index ++ type_bytes element) ++ rest)
      ∙ array-completes (is_within depth) (type_at depth) (type_at-completes depth) index element rest
      (sym (within-Arr depth index element) ∙ within) fits);
  compound = λ fields rest within fits. rw (type_bytes-Rec fields)
      (record_kind depth ((count_bytes fields ++ flat_map field_bytes fields) ++ rest)
      ∙ record-completes (is_within depth) (type_at depth) (type_at-completes depth) fields rest
      (sym (within-Rec depth fields) ∙ within) fits);
  relation = λ keys record_type rest within fits. rw (type_bytes-Rel keys record_type)
      (relation_kind depth ((names_bytes keys ++ type_bytes record_type) ++ rest)
      ∙ relation-completes (is_within depth) (type_at depth) (type_at-completes depth) keys record_type rest
      (sym (within-Rel depth keys record_type) ∙ within) fits);
})

-- ---- the same step by step, for the code

pub type_at-none : (depth : ℕ) (bytes : List ℕ) → depth ≡ 0 → type_at depth bytes ≡ None
unfolding type_at
type_at-none depth bytes e = rw e refl

pub type_at-step :
    (depth : ℕ) (bytes : List ℕ) → 0 < depth →
    type_at depth bytes ≡ (byte_at bytes >>= λ kind. kind_at (type_at (depth - 1)) kind.0 kind.1)
unfolding type_at
type_at-step depth bytes h =
    let more : depth ≡ suc (depth - 1) = omega arith in
    ap (λ (d : ℕ). type_at d bytes) more
