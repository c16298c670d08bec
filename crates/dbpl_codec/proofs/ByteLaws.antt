-- A number that is spelled is read, and what is read was spelled so.
use Rattle.std.proofs.Common.{◌≡◌, ℕ, ◌-◌, ◌^◌, ◌<◌, ◌≤◌, suc, true, false, List, [], ◌∷◌, ◌++◌, length, get_or, inl, inr, Option, Some, refl, sym, ap, ◌∙◌, arith}
use Rattle.std.proofs.lemmas.Bool.{cases_lt, le-ltb}
use Rattle.std.proofs.lemmas.Bool.Decides.{nat_tests}
use Rattle.std.proofs.lemmas.Int.{ints}
use Rattle.std.proofs.lemmas.List.{get_or-take, get_or_past}
use Rattle.std.proofs.lemmas.Nat.{le_bytes_4}
use Rattle.std.specs.Cmp.{first_so, second_so}
use Rattle.std.specs.Int.{cast_signed, w32}
use Rattle.std.specs.Prelude.{ℤ, pos, negsuc, int_le, nat_lt}
use Rattle.byteorder.specs.Endian.{little_bytes, little_number}
use Rattle.byteorder.specs.Numbers.{little_number-reads_back}
use Rattle.dbpl_value.specs.Types.{is_in}
use Rattle.dbpl_codec.specs.Numbers.{byte_of, word_of}
use Rattle.dbpl_codec.specs.Reading.{word_at}

abbrev pub IsBytes : List ℕ → Type 0
IsBytes bytes = (i : ℕ) → get_or bytes i 0 < 256

pub IsBytes-rest : (b : ℕ) (bytes : List ℕ) → IsBytes (b ∷ bytes) → IsBytes bytes
IsBytes-rest b bytes h i = h (suc i)

four_small : (a b c d : ℕ) (rest : List ℕ) → IsBytes (a ∷ b ∷ c ∷ d ∷ rest) → IsBytes (a ∷ b ∷ c ∷ d ∷ [])
four_small a b c d rest h i =
    elim (cases_lt i 4) [
      | inl lt ↦ rw (get_or-take 4 (a ∷ b ∷ c ∷ d ∷ rest) i 0 lt) (h i)
      | inr le ↦ rw (get_or_past (a ∷ b ∷ c ∷ d ∷ []) i 0 le) (omega arith)
    ]

abbrev some : {A : Type 0} → A → Option A
some x = Some x

pub some_is : {A : Type 0} (x y : A) → some x ≡ some y → x ≡ y
some_is x y e = cc

-- ---- words

pub word_at-again : (n : ℕ) (rest : List ℕ) → n < 2 ^ 32 → word_at (little_bytes 4 n ++ rest) ≡ Some (n, rest)
unfolding word_at
word_at-again n rest lt =
    let long : nat_lt (length (little_bytes 4 n ++ rest)) 4 ≡ false = le-ltb _ _ (omega arith) in
    let number : little_number 4 (little_bytes 4 n ++ rest) ≡ n = little_number-reads_back 4 n rest lt in
    rw (long, number) refl

four_again :
    (a b c d : ℕ) → IsBytes (a ∷ b ∷ c ∷ d ∷ []) →
    little_bytes 4 (little_number 4 (a ∷ b ∷ c ∷ d ∷ [])) ≡ a ∷ b ∷ c ∷ d ∷ []
four_again a b c d small =
    le_bytes_4 (a ∷ b ∷ c ∷ d ∷ []) (little_number 4 (a ∷ b ∷ c ∷ d ∷ [])) refl small (omega arith)

-- the bytes are this word and the rest
pub record IsWord (bytes : List ℕ) (n : ℕ) (rest : List ℕ) : Type 0 where
  pub parts : bytes ≡ little_bytes 4 n ++ rest
  pub below : n < 2 ^ 32
  pub left : IsBytes rest

pub word_at-takes :
    (bytes : List ℕ) (n : ℕ) (rest : List ℕ) → IsBytes bytes → word_at bytes ≡ Some (n, rest) → IsWord bytes n rest
unfolding word_at
word_at-takes [] n rest h e = absurd cc
word_at-takes (a ∷ []) n rest h e = absurd cc
word_at-takes (a ∷ b ∷ []) n rest h e = absurd cc
word_at-takes (a ∷ b ∷ c ∷ []) n rest h e = absurd cc
word_at-takes (a ∷ b ∷ c ∷ d ∷ after) n rest h e =
    let long : nat_lt (length (a ∷ b ∷ c ∷ d ∷ after)) 4 ≡ false = le-ltb _ _ (omega arith) in
    let first : ℕ × List ℕ = (little_number 4 (a ∷ b ∷ c ∷ d ∷ []), after) in
    let read : some first ≡ some (n, rest) = rw long at e in
    let both : first ≡ (n, rest) = some_is first (n, rest) read in
    let number : little_number 4 (a ∷ b ∷ c ∷ d ∷ []) ≡ n = ap (λ (x : ℕ × List ℕ). x.0) both in
    let same : after ≡ rest = ap (λ (x : ℕ × List ℕ). x.1) both in
    let small = four_small a b c d after h in
    record {
      parts = ap (λ (bytes : List ℕ). bytes ++ after) (sym (four_again a b c d small) ∙ ap (little_bytes 4) number)
          ∙ ap (λ (bytes : List ℕ). little_bytes 4 n ++ bytes) same;
      below = rw (← number) (omega (arith, small 0, small 1, small 2, small 3));
      left = rw (← same) (λ i. h (suc (suc (suc (suc i)))));
    }

-- ---- words as numbers

signed_low : (n : ℕ) → n < 2147483648 → cast_signed w32 n ≡ pos n
signed_low n lt = grind (arith, ints, nat_tests)

signed_high : (n : ℕ) → 2147483648 ≤ n → cast_signed w32 n ≡ negsuc (4294967296 - suc n)
signed_high n le = grind (arith, ints, nat_tests)

pub word_of-signed : (n : ℕ) → n < 2 ^ 32 → word_of (cast_signed w32 n) ≡ n
word_of-signed n lt =
    elim (cases_lt n 2147483648) [
      | inl low ↦ rw (signed_low n low) (omega arith)
      | inr high ↦ rw (signed_high n high) (omega arith)
    ]

pub word_of-pos : (n : ℕ) → n < 2 ^ 32 → word_of (pos n) ≡ n
word_of-pos n lt = omega arith

pub byte_of-pos : (n : ℕ) → n < 256 → byte_of (pos n) ≡ n
byte_of-pos n lt = omega arith

pub at_most : (a b : ℕ) → int_le (pos a) (pos b) ≡ true → a ≤ b
at_most a b h = grind (arith, ints)

pub at_least : (a b : ℕ) → int_le (negsuc b) (negsuc a) ≡ true → a ≤ b
at_least a b h = grind (arith, ints)

not_negative : (b n : ℕ) → int_le (pos b) (negsuc n) ≡ true → ⊥
not_negative b n h = grind (arith, ints)

pub word_of-below : (z : ℤ) → word_of z < 2 ^ 32
word_of-below z = omega arith

pub signed-word :
    (z : ℤ) → is_in (record { least = negsuc 2147483647; greatest = pos 2147483647 }) z ≡ true →
    cast_signed w32 (word_of z) ≡ z
signed-word (pos n) h =
    let below = at_most n 2147483647 (second_so (int_le (negsuc 2147483647) (pos n)) _ h) in
    rw (word_of-pos n (omega arith)) (signed_low n (omega arith))
signed-word (negsuc n) h =
    let below = at_least n 2147483647 (first_so (int_le (negsuc 2147483647) (negsuc n)) _ h) in
    let word : word_of (negsuc n) ≡ 4294967296 - suc n = omega arith in
    rw (word) (signed_high (4294967296 - suc n) (omega arith) ∙ ap negsuc (omega arith))

-- a number that isn't negative and that four bytes hold
pub unsigned-word :
    (z : ℤ) → int_le (pos 0) z ≡ true → int_le z (pos 4294967295) ≡ true → pos (word_of z) ≡ z
unsigned-word (pos n) h fits =
    let below = at_most n 4294967295 fits in
    ap pos (word_of-pos n (omega arith))
unsigned-word (negsuc n) h fits = absurd (not_negative 0 n h)

pub below-word : (n : ℕ) → n < 2 ^ 32 → int_le (pos n) (pos 4294967295) ≡ true
below-word n lt = grind (arith, ints)

pub unsigned-byte :
    (limit : ℕ) (z : ℤ) → limit < 256 → is_in (record { least = pos 0; greatest = pos limit }) z ≡ true →
    pos (byte_of z) ≡ z
unsigned-byte limit (pos n) small h =
    let below = at_most n limit (second_so (int_le (pos 0) (pos n)) _ h) in
    ap pos (byte_of-pos n (omega arith))
unsigned-byte limit (negsuc n) small h = absurd (not_negative 0 n (first_so (int_le (pos 0) (negsuc n)) (int_le (negsuc n) (pos limit)) h))
