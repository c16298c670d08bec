-- Rows of a table of words, and the tables of reserved words and of signs.
use Rattle.std.proofs.Common.{◌≡◌, ℕ, zero, suc, Bool, true, false, ◌&&◌, not, List, [], ◌∷◌, refl, sym, ◌∙◌, ap, inl, inr, Some, None, ◌≤◌, ◌<◌, length, get_or, leb-true, ltb-true, lt-ltb, ◌+◌, Option, arith}
use Rattle.std.specs.List.{list_all, list_any, position, position_or_len}
use Rattle.std.specs.Str.{bytes_eq}
use Rattle.std.specs.Prelude.{◌==◌, nat_le, nat_lt}
use Rattle.std.proofs.lemmas.Bool.{and_parts, cases_Bool, false≢true, or_parts}
use Rattle.std.proofs.lemmas.Slice.Eq.{bytes_eq-Decides}
use Rattle.std.proofs.lemmas.List.Quantifiers.{position-Some}
use Rattle.std.proofs.lemmas.Option.{slice_get-get_or}
use Rattle.dbpl_base.specs.Spelling.{IsIdentifier, IsRow}
use Rattle.dbpl_base.specs.Words.{is_blank, is_letter, is_word_byte, reserved_words, signs}

-- what a test says of all rows, it says of each
pub row_passes : (test : List ℕ → Bool) (table : List (List ℕ)) (row : ℕ) (word : List ℕ) → list_all test table ≡ true → IsRow table row word → test word ≡ true
row_passes test [] row word all is = absurd (let e : None ≡ Some word = is in cc)
row_passes test (w ∷ ws) zero word all is =
    let e : Some w ≡ Some word = is in
    let same : w ≡ word = cc in
    rw (← same) (and_parts (test w) (list_all test ws) all).0
row_passes test (w ∷ ws) (suc row) word all is =
    row_passes test ws row word (and_parts (test w) (list_all test ws) all).1 is

-- and one that it doesn't find stands in no row
pub no_row : (table : List (List ℕ)) (word : List ℕ) → list_any (λ w. bytes_eq w word) table ≡ false → (row : ℕ) → IsRow table row word → ⊥
no_row [] word e row is = let none : None ≡ Some word = is in absurd cc
no_row (w ∷ ws) word e zero is =
    let same : Some w ≡ Some word = is in
    false≢true (sym (or_parts (bytes_eq w word) (list_any (λ w. bytes_eq w word) ws) e).0 ∙ (bytes_eq-Decides w word).1 cc)
no_row (w ∷ ws) word e (suc row) is =
    no_row ws word (or_parts (bytes_eq w word) (list_any (λ w. bytes_eq w word) ws) e).1 row is

-- ---- reserved words

abbrev is_identifier : List ℕ → Bool
is_identifier [] = false
is_identifier (first ∷ others) = is_letter first && list_all is_word_byte others

identifier_from_test : (word : List ℕ) → is_identifier word ≡ true → IsIdentifier word
identifier_from_test [] e = false≢true e
identifier_from_test (first ∷ others) e = and_parts (is_letter first) (list_all is_word_byte others) e

reserved_are_identifiers : list_all is_identifier reserved_words ≡ true
unfolding reserved_words
reserved_are_identifiers = refl

-- a reserved word is a letter followed by letters
pub reserved_is_identifier : (row : ℕ) (word : List ℕ) → IsRow reserved_words row word → IsIdentifier word
reserved_is_identifier row word is =
    identifier_from_test word (row_passes is_identifier reserved_words row word reserved_are_identifiers is)

-- ---- signs

-- no letter, no digit, no blank and no quote
abbrev pub is_sign_byte : ℕ → Bool
is_sign_byte byte = not (is_word_byte byte) && not (is_blank byte) && not (byte == 34) && not (byte == 39)

abbrev pub begins_sign : List ℕ → Bool
begins_sign [] = false
begins_sign (first ∷ others) = is_sign_byte first

signs_begin : list_all begins_sign signs ≡ true
unfolding signs
signs_begin = refl

pub sign_begins : (row : ℕ) (word : List ℕ) → IsRow signs row word → begins_sign word ≡ true
sign_begins row word is = row_passes begins_sign signs row word signs_begin is

-- one byte or two
abbrev pub is_short : List ℕ → Bool
is_short word = nat_le 1 (length word) && nat_le (length word) 2

signs_are_short : list_all is_short signs ≡ true
unfolding signs
signs_are_short = refl

pub sign_length : (row : ℕ) (word : List ℕ) → IsRow signs row word → (1 ≤ length word) × (length word ≤ 2)
sign_length row word is =
    let parts = and_parts (nat_le 1 (length word)) (nat_le (length word) 2) (row_passes is_short signs row word signs_are_short is) in
    (leb-true 1 (length word) parts.0, leb-true (length word) 2 parts.1)

-- ---- where a search finds them

-- the row that a search finds has the word
pub position_row : (table : List (List ℕ)) (word : List ℕ) (row : ℕ) → position (λ w. bytes_eq w word) table ≡ Some row → IsRow table row word
position_row table word row e =
    let found = position-Some (λ w. bytes_eq w word) table row word e in
    let same = (bytes_eq-Decides (get_or table row word) word).0 found.1 in
    slice_get-get_or table row word found.0 ∙ ap (λ (w : List ℕ). Some w) same

-- a test that passes in a list passes at its first place
passes_within : (test : List ℕ → Bool) (table : List (List ℕ)) (row : ℕ) (word : List ℕ) → IsRow table row word → test word ≡ true → nat_lt (position_or_len test table) (length table) ≡ true
passes_within test [] row word is e = absurd (let none : None ≡ Some word = is in cc)
passes_within test (w ∷ ws) zero word is e =
    let same : Some w ≡ Some word = is in
    let here : w ≡ word = cc in
    let passes : test w ≡ true = rw here e in
    rw passes (lt-ltb 0 (suc (length ws)) (omega arith))
passes_within test (w ∷ ws) (suc row) word is e =
    let later = ltb-true (position_or_len test ws) (length ws) (passes_within test ws row word is e) in
    elim (cases_Bool (test w)) [ inl passes ↦ rw passes (lt-ltb 0 (suc (length ws)) (omega arith)) | inr fails ↦ rw fails (lt-ltb (1 + position_or_len test ws) (suc (length ws)) (omega (arith, later))) ]

-- and a word that it doesn't find stands in no row
pub no_position : (table : List (List ℕ)) (word : List ℕ) → position (λ w. bytes_eq w word) table ≡ None → (row : ℕ) → IsRow table row word → ⊥
no_position table word e row is =
    let within = passes_within (λ w. bytes_eq w word) table row word is ((bytes_eq-Decides word word).1 refl) in
    let found : position (λ w. bytes_eq w word) table ≡ Some (position_or_len (λ w. bytes_eq w word) table) = rw within refl in
    let both : ◌≡◌ {A = Option ℕ} None (Some (position_or_len (λ w. bytes_eq w word) table)) = sym e ∙ found in
    cc

-- a row stands within its table
pub row_within : (table : List (List ℕ)) (word : List ℕ) (row : ℕ) → IsRow table row word → row < length table
row_within [] word row is = absurd (let none : None ≡ Some word = is in cc)
row_within (w ∷ ws) word zero is = omega arith
row_within (w ∷ ws) word (suc row) is = let later = row_within ws word row is in omega (arith, later)
