-- Signs at the front of a text.
use Rattle.std.proofs.Common.{◌≡◌, ◌⊎◌, ℕ, ◌≤◌, true, false, ◌&&◌, not, List, ◌++◌, length, sym, ◌∙◌, subst, inl, inr, arith}
use Rattle.std.proofs.lemmas.Bool.{and_parts, not-true, true≢false}
use Rattle.dbpl_scan.specs.BreaksOff.{TokenStands}
use Rattle.dbpl_base.specs.Scans.{OpensComment}
use Rattle.dbpl_base.specs.Spelling.{IsRow, Spells}
use Rattle.dbpl_base.specs.Words.{is_digit, is_letter, signs}
use Rattle.dbpl_base.specs.declared.lexeme.Lexeme.{Lexeme}
use Rattle.dbpl_base.specs.declared.lexeme.Lexeme.TheVariants.{Ident, Number, CharCode, Text, Reserved, Sign, Finish}
use Rattle.dbpl_scan.specs.Fronts.{BeginsBy, SignStands, StandsFirst, is_other, is_quote}
use Rattle.dbpl_scan.proofs.OneLexeme.{longest_by_length}
use Rattle.dbpl_scan.proofs.Spellings.{AreApart, begins, begins-split, begins_apart, first_byte}
use Rattle.dbpl_scan.proofs.Rows.{sign_length}

other_parts : (byte : ℕ) → is_other byte ≡ true → (is_letter byte ≡ false) × (is_digit byte ≡ false) × (is_quote byte ≡ false)
other_parts byte e =
    let last = and_parts (not (is_letter byte) && not (is_digit byte)) (not (is_quote byte)) e in
    let first = and_parts (not (is_letter byte)) (not (is_digit byte)) last.0 in
    (not-true _ first.0, not-true _ first.1, not-true _ last.1)

letter_no_other : AreApart is_letter is_other
letter_no_other byte e s = true≢false (sym e ∙ (other_parts byte s).0)

digit_no_other : AreApart is_digit is_other
digit_no_other byte e s = true≢false (sym e ∙ (other_parts byte s).1)

quote_no_other : AreApart is_quote is_other
quote_no_other byte e s = true≢false (sym e ∙ (other_parts byte s).2)

-- what begins with no letter, digit or quote is a sign
other_word : (lexeme : Lexeme) (word : List ℕ) → Spells lexeme word → BeginsBy is_other word → (row : ℕ) × IsRow signs row word
other_word (Ident name) word h other =
    absurd (begins_apart is_letter is_other word letter_no_other (first_byte (Ident name) word h) other)
other_word (Number n) word h other =
    absurd (begins_apart is_digit is_other word digit_no_other (first_byte (Number n) word h) other)
other_word (CharCode n) word h other =
    absurd (begins_apart is_digit is_other word digit_no_other (first_byte (CharCode n) word h) other)
other_word (Text text) word h other =
    absurd (begins_apart is_quote is_other word quote_no_other (first_byte (Text text) word h) other)
other_word (Reserved row) word h other =
    absurd (begins_apart is_letter is_other word letter_no_other (first_byte (Reserved row) word h) other)
other_word (Sign row) word h other = (row, h)
other_word Finish word h other = absurd h

-- a token at the front is a sign
sign_at_front : (text : List ℕ) (lexeme : Lexeme) (word rest : List ℕ) → BeginsBy is_other text → text ≡ word ++ rest → Spells lexeme word → (row : ℕ) × IsRow signs row word
sign_at_front text lexeme word rest other split spelt =
    other_word lexeme word spelt (begins-split is_other (begins lexeme) text word rest split other (first_byte lexeme word spelt))

-- a length between one and two
one_or_two : (n : ℕ) → 1 ≤ n → n ≤ 2 → (n ≡ 1) ⊎ (n ≡ 2)
one_or_two n low high = grind (arith, low, high)

sign_lengths : (row : ℕ) (word : List ℕ) → IsRow signs row word → (length word ≡ 1) ⊎ (length word ≡ 2)
sign_lengths row word is =
    let lengths = sign_length row word is in
    one_or_two (length word) lengths.0 lengths.1

-- a sign that is as long as any at the front stands there
sign_stands : (count : ℕ) (text : List ℕ) (row : ℕ) (rest : List ℕ) → BeginsBy is_other text → (OpensComment text → ⊥) → SignStands count text row rest → ((other : ℕ) (word after : List ℕ) → text ≡ word ++ after → IsRow signs other word → length word ≤ count) → StandsFirst text (Sign row) rest
sign_stands count text row rest other no_comment s bound = record {
  word = s.0;
  split = s.1;
  spelt = s.3;
  longest = longest_by_length s.0 rest (λ lexeme word after split spelt. let whole = s.1 ∙ split in let sign = sign_at_front text lexeme word after other whole spelt in let short = bound sign.0 word after whole sign.1 in let long = s.2 in omega (arith, short, long));
  no_comment = λ opens. no_comment (subst (λ (front : List ℕ). OpensComment front) (sym s.1) opens);
}

pub two_stand : (text : List ℕ) (row : ℕ) (rest : List ℕ) → BeginsBy is_other text → (OpensComment text → ⊥) → SignStands 2 text row rest → StandsFirst text (Sign row) rest
two_stand text row rest other no_comment s =
    sign_stands 2 text row rest other no_comment s (λ any word after split is. (sign_length any word is).1)

pub one_stands : (text : List ℕ) (row : ℕ) (rest : List ℕ) → BeginsBy is_other text → (OpensComment text → ⊥) → ((any : ℕ) (after : List ℕ) → SignStands 2 text any after → ⊥) → SignStands 1 text row rest → StandsFirst text (Sign row) rest
one_stands text row rest other no_comment no_two s =
    sign_stands 1 text row rest other no_comment s (λ any word after split is. elim (sign_lengths any word is) [ inl one ↦ omega (arith, one) | inr two ↦ absurd (no_two any after (word, split, two, is)) ])

pub no_sign_stands : (text : List ℕ) → BeginsBy is_other text → ((any : ℕ) (after : List ℕ) → SignStands 2 text any after → ⊥) → ((any : ℕ) (after : List ℕ) → SignStands 1 text any after → ⊥) → TokenStands text → ⊥
no_sign_stands text other no_two no_one t =
    let sign = sign_at_front text t.0 t.1 t.2 other t.3 t.4 in
    elim (sign_lengths sign.0 t.1 sign.1) [ inl one ↦ no_one sign.0 t.2 (t.1, t.3, one, sign.1) | inr two ↦ no_two sign.0 t.2 (t.1, t.3, two, sign.1) ]
