-- Numbers, and characters by their codes, at the front of a text.
use Rattle.std.proofs.Common.{◌≡◌, ◌≢◌, ◌⊎◌, ℕ, ◌+◌, ◌≤◌, Bool, true, false, List, [], ◌∷◌, ◌++◌, length, drop, refl, sym, ap, ◌∙◌, subst, inl, inr, arith, length-append, append_assoc, one-add, eqb-true, eq-eqb}
use Rattle.std.specs.List.{list_all}
use Rattle.std.specs.Prelude.{take_while}
use Rattle.std.proofs.lemmas.Bool.{and_from, and_parts, false≢true, or_left, true≢false}
use Rattle.dbpl_base.specs.Spelling.{AreDigits, AreHexadecimal, Spells, number_in, number_kept}
use Rattle.dbpl_base.specs.Words.{is_between, is_digit, is_hexadecimal, is_letter, is_octal}
use Rattle.dbpl_base.specs.declared.lexeme.Lexeme.{Lexeme}
use Rattle.dbpl_base.specs.declared.lexeme.Lexeme.TheVariants.{Ident, Number, CharCode, Text, Reserved, Sign, Finish}
use Rattle.dbpl_scan.specs.Fronts.{BeginsBy, StandsFirst, begins_with, drop_while, is_quote}
use Rattle.dbpl_scan.proofs.OneLexeme.{longest_by_length}
use Rattle.dbpl_scan.proofs.Runs.{drop_while-append, run-and-rest, run_passes, take_while-append}
use Rattle.dbpl_scan.proofs.Spellings.{begins, begins-split, begins_apart, digit_no_quote, digit_no_sign, first_byte, letter_no_digit, octal_is_digit}
use Rattle.dbpl_scan.proofs.Rows.{is_sign_byte}
use Rattle.dbpl_scan.proofs.WordLaw.{begins_no_comment}

-- ---- runs of digits

list_weaker : (one other : ℕ → Bool) (word : List ℕ) → ((byte : ℕ) → one byte ≡ true → other byte ≡ true) → list_all one word ≡ true → list_all other word ≡ true
list_weaker one other [] weaker h = refl
list_weaker one other (byte ∷ word) weaker h =
    let parts = and_parts (one byte) (list_all one word) h in
    and_from (other byte) _ (weaker byte parts.0) (list_weaker one other word weaker parts.1)

digit_is_hexadecimal : (byte : ℕ) → is_digit byte ≡ true → is_hexadecimal byte ≡ true
digit_is_hexadecimal byte e = or_left (is_digit byte) (is_between 65 70 byte) e

octal_is_hexadecimal : (byte : ℕ) → is_octal byte ≡ true → is_hexadecimal byte ≡ true
octal_is_hexadecimal byte e = digit_is_hexadecimal byte (octal_is_digit byte e)

-- a word at the front whose bytes all pass is no longer than the run of those that pass
pub within_run : (test : ℕ → Bool) (text word rest : List ℕ) → text ≡ word ++ rest → list_all test word ≡ true → length word ≤ length (take_while test text)
within_run test text [] rest split h = omega arith
within_run test [] (byte ∷ word) rest split h = absurd (let e : [] ≡ byte ∷ (word ++ rest) = split in cc)
within_run test (first ∷ text) (byte ∷ word) rest split h =
    let e : first ∷ text ≡ byte ∷ (word ++ rest) = split in
    let same : first ≡ byte = cc in
    let behind : text ≡ word ++ rest = cc in
    let parts = and_parts (test byte) (list_all test word) h in
    let later = within_run test text word rest behind parts.1 in
    let passes : test first ≡ true = rw same parts.0 in
    rw (passes, one-add) (omega (arith, later))

-- digits and a letter that is none: the run of digits is these, and the letter stands behind it
record RunEnds (test : ℕ → Bool) (text digits : List ℕ) (letter : ℕ) (rest : List ℕ) : Type 0 where
  run : take_while test text ≡ digits
  behind : drop_while test text ≡ letter ∷ rest

run_ends : (test : ℕ → Bool) (text digits rest : List ℕ) (letter : ℕ) → text ≡ (digits ++ letter ∷ []) ++ rest → list_all test digits ≡ true → test letter ≡ false → RunEnds test text digits letter rest
run_ends test text digits rest letter split passes fails =
    let parts : text ≡ digits ++ letter ∷ rest = split ∙ append_assoc digits (letter ∷ []) rest in
    record {
      run = rw parts (take_while-append test digits (letter ∷ rest) passes fails);
      behind = rw parts (drop_while-append test digits (letter ∷ rest) passes fails);
    }

-- ---- what begins with a digit

-- a number or a character by its code
data DigitWord (word : List ℕ) : Type 0 where
  decimal : list_all is_digit word ≡ true → DigitWord word
  octal : (digits : List ℕ) (letter : ℕ) → (letter ≡ 66) ⊎ (letter ≡ 67) → word ≡ digits ++ letter ∷ [] → AreDigits is_octal digits → DigitWord word
  hexadecimal : (digits : List ℕ) → word ≡ digits ++ 72 ∷ [] → list_all is_hexadecimal digits ≡ true → DigitWord word

all_hexadecimal : (digits : List ℕ) → AreHexadecimal digits → list_all is_hexadecimal digits ≡ true
all_hexadecimal [] h = absurd h
all_hexadecimal (first ∷ others) h = and_from (is_hexadecimal first) _ (digit_is_hexadecimal first h.0) h.1

digit_word : (lexeme : Lexeme) (word : List ℕ) → Spells lexeme word → BeginsBy is_digit word → DigitWord word
digit_word (Ident name) word h digit =
    absurd (begins_apart is_letter is_digit word letter_no_digit (first_byte (Ident name) word h) digit)
digit_word (Number n) word (inl h) digit = decimal h.0.1
digit_word (Number n) word (inr (inl h)) digit = octal h.0 66 (inl refl) h.1 h.2
digit_word (Number n) word (inr (inr h)) digit = hexadecimal h.0 h.1 (all_hexadecimal h.0 h.2)
digit_word (CharCode n) word h digit = octal h.0 67 (inr refl) h.1 h.2
digit_word (Text text) word h digit =
    absurd (begins_apart is_digit is_quote word digit_no_quote digit (first_byte (Text text) word h))
digit_word (Reserved row) word h digit =
    absurd (begins_apart is_letter is_digit word letter_no_digit (first_byte (Reserved row) word h) digit)
digit_word (Sign row) word h digit =
    absurd (begins_apart is_digit is_sign_byte word digit_no_sign digit (first_byte (Sign row) word h))
digit_word Finish word h digit = absurd h

word_at_front : (text : List ℕ) (lexeme : Lexeme) (word rest : List ℕ) → BeginsBy is_digit text → text ≡ word ++ rest → Spells lexeme word → DigitWord word
word_at_front text lexeme word rest digit split spelt =
    digit_word lexeme word spelt (begins-split is_digit (begins lexeme) text word rest split digit (first_byte lexeme word spelt))

-- a word that spells and is as long as any stands at the front
number_stands : (text : List ℕ) (lexeme : Lexeme) (word rest : List ℕ) → BeginsBy is_digit text → text ≡ word ++ rest → Spells lexeme word → BeginsBy is_digit word → ((other after : List ℕ) → text ≡ other ++ after → DigitWord other → length other ≤ length word) → StandsFirst text lexeme rest
number_stands text lexeme word rest digit split spelt begins bound = record {
  word = word;
  split = split;
  spelt = spelt;
  longest = longest_by_length word rest (λ any other after same is. let whole = split ∙ same in bound other after whole (word_at_front text any other after digit whole is));
  no_comment = begins_no_comment is_digit word rest refl begins;
}

-- ---- the three runs

-- the text is the run and what stands behind it
split_run : (test : ℕ → Bool) (text rest : List ℕ) (letter : ℕ) → drop_while test text ≡ letter ∷ rest → text ≡ (take_while test text ++ letter ∷ []) ++ rest
split_run test text rest letter behind =
    sym (run-and-rest test text) ∙ ap (λ (t : List ℕ). take_while test text ++ t) behind ∙ sym (append_assoc (take_while test text) (letter ∷ []) rest)

-- a run of bytes that pass wherever digits do begins with the digit
run_begins : (test : ℕ → Bool) (text : List ℕ) → ((byte : ℕ) → is_digit byte ≡ true → test byte ≡ true) → BeginsBy is_digit text → BeginsBy is_digit (take_while test text)
run_begins test [] wider h = absurd h
run_begins test (first ∷ others) wider h = rw (wider first h, one-add) h

begins_append : (front rest : List ℕ) → BeginsBy is_digit front → BeginsBy is_digit (front ++ rest)
begins_append [] rest h = absurd h
begins_append (first ∷ others) rest h = h

last_length : (digits : List ℕ) (letter : ℕ) → length (digits ++ letter ∷ []) ≡ length digits + 1
last_length digits letter = length-append digits (letter ∷ [])

are_hexadecimal : (digits : List ℕ) → BeginsBy is_digit digits → list_all is_hexadecimal digits ≡ true → AreHexadecimal digits
are_hexadecimal [] h passes = h
are_hexadecimal (first ∷ others) h passes = (h, (and_parts (is_hexadecimal first) _ passes).1)

-- hexadecimal digits and H are the longest
pub hexadecimal_stands : (text rest : List ℕ) → BeginsBy is_digit text → drop_while is_hexadecimal text ≡ 72 ∷ rest → StandsFirst text (Number (number_kept (number_in 16 (take_while is_hexadecimal text)))) rest
hexadecimal_stands text rest digit behind =
    let digits = take_while is_hexadecimal text in
    let first = run_begins is_hexadecimal text digit_is_hexadecimal digit in
    let whole = split_run is_hexadecimal text rest 72 behind in
    number_stands text (Number (number_kept (number_in 16 digits))) (digits ++ 72 ∷ []) rest digit whole (inr (inr (digits, refl, are_hexadecimal digits first (run_passes is_hexadecimal text), refl))) (begins_append digits (72 ∷ []) first) (λ other after split is. rw last_length (bound text other after split is))
  where
    bound : (text other after : List ℕ) → text ≡ other ++ after → DigitWord other → length other ≤ length (take_while is_hexadecimal text) + 1
    bound text other after split (decimal all) =
        let within = within_run is_hexadecimal text other after split (list_weaker is_digit is_hexadecimal other digit_is_hexadecimal all) in
        omega (arith, within)
    bound text other after split (octal digits letter which is all) =
        let whole : text ≡ digits ++ (letter ∷ after) = split ∙ ap (λ (w : List ℕ). w ++ after) is ∙ append_assoc digits (letter ∷ []) after in
        let within = within_run is_hexadecimal text digits (letter ∷ after) whole (list_weaker is_octal is_hexadecimal digits octal_is_hexadecimal all.1) in
        let count : length other ≡ length digits + 1 = ap (λ (w : List ℕ). length w) is ∙ last_length digits letter in
        omega (arith, within, count)
    bound text other after split (hexadecimal digits is all) =
        let whole : text ≡ digits ++ (72 ∷ after) = split ∙ ap (λ (w : List ℕ). w ++ after) is ∙ append_assoc digits (72 ∷ []) after in
        let within = within_run is_hexadecimal text digits (72 ∷ after) whole all in
        let count : length other ≡ length digits + 1 = ap (λ (w : List ℕ). length w) is ∙ last_length digits 72 in
        omega (arith, within, count)

-- no H behind the hexadecimal digits: no hexadecimal number
no_hexadecimal : (text other after digits : List ℕ) → begins_with 72 (drop_while is_hexadecimal text) ≡ false → text ≡ other ++ after → other ≡ digits ++ 72 ∷ [] → list_all is_hexadecimal digits ≡ true → ⊥
no_hexadecimal text other after digits none split is all =
    let ends = run_ends is_hexadecimal text digits after 72 (split ∙ ap (λ (w : List ℕ). w ++ after) is) all refl in
    true≢false (ap (λ (t : List ℕ). begins_with 72 t) (sym ends.behind) ∙ none)

octal_letter_fails : (letter : ℕ) → (letter ≡ 66) ⊎ (letter ≡ 67) → is_octal letter ≡ false
octal_letter_fails letter (inl e) = rw e refl
octal_letter_fails letter (inr e) = rw e refl

digit_letter_fails : (letter : ℕ) → (letter ≡ 66) ⊎ (letter ≡ 67) → is_digit letter ≡ false
digit_letter_fails letter (inl e) = rw e refl
digit_letter_fails letter (inr e) = rw e refl

octal_ends : (text other after digits : List ℕ) (letter : ℕ) → (letter ≡ 66) ⊎ (letter ≡ 67) → text ≡ other ++ after → other ≡ digits ++ letter ∷ [] → list_all is_octal digits ≡ true → RunEnds is_octal text digits letter after
octal_ends text other after digits letter which split is all =
    run_ends is_octal text digits after letter (split ∙ ap (λ (w : List ℕ). w ++ after) is) all (octal_letter_fails letter which)

-- octal digits and their letter are the longest, if no hexadecimal number stands there
octal_bound : (text rest : List ℕ) (letter : ℕ) → begins_with 72 (drop_while is_hexadecimal text) ≡ false → (letter ≡ 66) ⊎ (letter ≡ 67) → drop_while is_octal text ≡ letter ∷ rest → (other after : List ℕ) → text ≡ other ++ after → DigitWord other → length other ≤ length (take_while is_octal text ++ letter ∷ [])
octal_bound text rest letter none which behind other after split (decimal all) =
    let digits = take_while is_octal text in
    let ends = run_ends is_digit text digits rest letter (split_run is_octal text rest letter behind) (list_weaker is_octal is_digit digits octal_is_digit (run_passes is_octal text)) (digit_letter_fails letter which) in
    let within = within_run is_digit text other after split all in
    let same = ap (λ (w : List ℕ). length w) ends.run in
    rw last_length (omega (arith, within, same))
octal_bound text rest letter none which behind other after split (octal digits again which_again is all) =
    let ends = octal_ends text other after digits again which_again split is all.1 in
    let count : length other ≡ length digits + 1 = ap (λ (w : List ℕ). length w) is ∙ last_length digits again in
    let same = ap (λ (w : List ℕ). length w) ends.run in
    rw last_length (omega (arith, count, same))
octal_bound text rest letter none which behind other after split (hexadecimal digits is all) =
    absurd (no_hexadecimal text other after digits none split is all)

octal_begins_digit : (digits : List ℕ) → digits ≢ [] → list_all is_octal digits ≡ true → BeginsBy is_digit digits
octal_begins_digit [] some all = absurd (some refl)
octal_begins_digit (first ∷ others) some all = octal_is_digit first (and_parts (is_octal first) _ all).0

octal_stands : (text rest : List ℕ) (lexeme : Lexeme) (letter : ℕ) → BeginsBy is_digit text → begins_with 72 (drop_while is_hexadecimal text) ≡ false → (letter ≡ 66) ⊎ (letter ≡ 67) → take_while is_octal text ≢ [] → drop_while is_octal text ≡ letter ∷ rest → Spells lexeme (take_while is_octal text ++ letter ∷ []) → StandsFirst text lexeme rest
octal_stands text rest lexeme letter digit none which some behind spelt =
    let digits = take_while is_octal text in
    number_stands text lexeme (digits ++ letter ∷ []) rest digit (split_run is_octal text rest letter behind) spelt (begins_append digits (letter ∷ []) (octal_begins_digit digits some (run_passes is_octal text))) (octal_bound text rest letter none which behind)

-- where a letter follows the octal digits, there are some
some_octal : (text rest : List ℕ) (letter : ℕ) → BeginsBy is_digit text → (letter ≡ 66) ⊎ (letter ≡ 67) → drop_while is_octal text ≡ letter ∷ rest → take_while is_octal text ≢ []
some_octal text rest letter digit which behind empty =
    let whole : text ≡ letter ∷ rest = sym (run-and-rest is_octal text) ∙ ap (λ (front : List ℕ). front ++ drop_while is_octal text) empty ∙ behind in
    true≢false (sym (subst (λ (t : List ℕ). BeginsBy is_digit t) whole digit) ∙ digit_letter_fails letter which)

-- ---- what is read

begins_cons : (byte : ℕ) (left : List ℕ) → begins_with byte left ≡ true → left ≡ byte ∷ drop 1 left
begins_cons byte [] e = absurd (false≢true e)
begins_cons byte (first ∷ others) e = rw (eqb-true first byte e) refl

pub hexadecimal_read : (text digits left after : List ℕ) (n : ℕ) → BeginsBy is_digit text → digits ≡ take_while is_hexadecimal text → left ≡ drop_while is_hexadecimal text → begins_with 72 left ≡ true → n ≡ number_kept (number_in 16 digits) → after ≡ drop 1 left → StandsFirst text (Number n) after
hexadecimal_read text digits left after n digit digits_are left_is h value after_is =
    let value_is : n ≡ number_kept (number_in 16 (take_while is_hexadecimal text)) = value ∙ ap (λ (d : List ℕ). number_kept (number_in 16 d)) digits_are in
    rw (value_is, after_is) (hexadecimal_stands text (drop 1 left) digit (sym left_is ∙ begins_cons 72 left h))

-- what isn't a hexadecimal number: H doesn't stand behind the hexadecimal digits
abbrev pub NoHexadecimal : List ℕ → Type 0
NoHexadecimal text = begins_with 72 (drop_while is_hexadecimal text) ≡ false

pub no_hexadecimal_read : (text left : List ℕ) → left ≡ drop_while is_hexadecimal text → begins_with 72 left ≡ false → NoHexadecimal text
no_hexadecimal_read text left left_is h = ap (λ (t : List ℕ). begins_with 72 t) (sym left_is) ∙ h

pub octal_read : (text digits left after : List ℕ) (n : ℕ) → BeginsBy is_digit text → NoHexadecimal text → digits ≡ take_while is_octal text → left ≡ drop_while is_octal text → begins_with 66 left ≡ true → n ≡ number_kept (number_in 8 digits) → after ≡ drop 1 left → StandsFirst text (Number n) after
octal_read text digits left after n digit none digits_are left_is h value after_is =
    let value_is : n ≡ number_kept (number_in 8 (take_while is_octal text)) = value ∙ ap (λ (d : List ℕ). number_kept (number_in 8 d)) digits_are in
    let behind = sym left_is ∙ begins_cons 66 left h in
    let some = some_octal text (drop 1 left) 66 digit (inl refl) behind in
    rw (value_is, after_is) (octal_stands text (drop 1 left) (Number (number_kept (number_in 8 (take_while is_octal text)))) 66 digit none (inl refl) some behind (inr (inl (take_while is_octal text, refl, (some, run_passes is_octal text), refl))))

pub character_read : (text digits left after : List ℕ) (n : ℕ) → BeginsBy is_digit text → NoHexadecimal text → digits ≡ take_while is_octal text → left ≡ drop_while is_octal text → begins_with 67 left ≡ true → n ≡ number_kept (number_in 8 digits) → after ≡ drop 1 left → StandsFirst text (CharCode n) after
character_read text digits left after n digit none digits_are left_is h value after_is =
    let value_is : n ≡ number_kept (number_in 8 (take_while is_octal text)) = value ∙ ap (λ (d : List ℕ). number_kept (number_in 8 d)) digits_are in
    let behind = sym left_is ∙ begins_cons 67 left h in
    let some = some_octal text (drop 1 left) 67 digit (inr refl) behind in
    rw (value_is, after_is) (octal_stands text (drop 1 left) (CharCode (number_kept (number_in 8 (take_while is_octal text)))) 67 digit none (inr refl) some behind (take_while is_octal text, refl, (some, run_passes is_octal text), refl))

-- no letter stands behind the octal digits
abbrev pub NoOctal : List ℕ → Type 0
NoOctal text = (begins_with 66 (drop_while is_octal text) ≡ false) × (begins_with 67 (drop_while is_octal text) ≡ false)

pub no_octal_read : (text left : List ℕ) → left ≡ drop_while is_octal text → begins_with 66 left ≡ false → begins_with 67 left ≡ false → NoOctal text
no_octal_read text left left_is h k =
    let back = sym left_is in
    (ap (λ (t : List ℕ). begins_with 66 t) back ∙ h, ap (λ (t : List ℕ). begins_with 67 t) back ∙ k)

never_octal : (text rest : List ℕ) (letter : ℕ) → NoOctal text → (letter ≡ 66) ⊎ (letter ≡ 67) → drop_while is_octal text ≡ letter ∷ rest → ⊥
never_octal text rest letter none (inl e) behind =
    true≢false (sym (eq-eqb letter 66 e) ∙ ap (λ (t : List ℕ). begins_with 66 t) (sym behind) ∙ none.0)
never_octal text rest letter none (inr e) behind =
    true≢false (sym (eq-eqb letter 67 e) ∙ ap (λ (t : List ℕ). begins_with 67 t) (sym behind) ∙ none.1)

some_digits : (digits : List ℕ) → BeginsBy is_digit digits → digits ≢ []
some_digits [] h e = h
some_digits (first ∷ others) h e = let same : first ∷ others ≡ [] = e in absurd cc

-- decimal digits are the longest, if neither of the others stands there
decimal_bound : (text : List ℕ) → NoHexadecimal text → NoOctal text → (other after : List ℕ) → text ≡ other ++ after → DigitWord other → length other ≤ length (take_while is_digit text)
decimal_bound text none no_octal other after split (decimal all) = within_run is_digit text other after split all
decimal_bound text none no_octal other after split (octal digits letter which is all) =
    let ends = octal_ends text other after digits letter which split is all.1 in
    absurd (never_octal text after letter no_octal which ends.behind)
decimal_bound text none no_octal other after split (hexadecimal digits is all) =
    absurd (no_hexadecimal text other after digits none split is all)

pub decimal_read : (text digits left : List ℕ) (n : ℕ) → BeginsBy is_digit text → NoHexadecimal text → NoOctal text → digits ≡ take_while is_digit text → left ≡ drop_while is_digit text → n ≡ number_kept (number_in 10 digits) → StandsFirst text (Number n) left
decimal_read text digits left n digit none no_octal digits_are left_is value =
    let run = take_while is_digit text in
    let first = run_begins is_digit text (λ byte e. e) digit in
    let value_is : n ≡ number_kept (number_in 10 run) = value ∙ ap (λ (d : List ℕ). number_kept (number_in 10 d)) digits_are in
    rw (value_is, left_is) (number_stands text (Number (number_kept (number_in 10 run))) run (drop_while is_digit text) digit (sym (run-and-rest is_digit text)) (inl ((some_digits run first, run_passes is_digit text), refl)) first (decimal_bound text none no_octal))
