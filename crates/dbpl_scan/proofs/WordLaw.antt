-- Words of letters and digits at the front of a text.
use Rattle.std.proofs.Common.{◌≡◌, ℕ, Bool, true, false, List, [], ◌∷◌, ◌++◌, refl, sym, ap, ◌∙◌, subst}
use Rattle.std.specs.List.{list_all}
use Rattle.std.specs.Prelude.{take_while}
use Rattle.std.proofs.lemmas.Bool.{and_parts, true≢false}
use Rattle.std.proofs.lemmas.List.Folds.{list_all-append}
use Rattle.dbpl_base.specs.Scans.{IsLongest, OpensComment}
use Rattle.dbpl_base.specs.Spelling.{IsIdentifier, IsRow, Spells}
use Rattle.dbpl_base.specs.Words.{is_letter, is_word_byte, reserved_words}
use Rattle.dbpl_base.specs.declared.lexeme.Lexeme.{Lexeme}
use Rattle.dbpl_base.specs.declared.lexeme.Lexeme.TheVariants.{Ident, Reserved}
use Rattle.dbpl_scan.specs.Fronts.{BeginsBy, StandsFirst, drop_while}
use Rattle.dbpl_scan.proofs.Runs.{Stops, rest_stops, run-and-rest, run_passes}
use Rattle.dbpl_scan.proofs.Spellings.{identifier_begins, letter_is_word_byte, letter_word}

-- a word that begins otherwise opens no comment
pub begins_no_comment : (test : ℕ → Bool) (word rest : List ℕ) → test 40 ≡ false → BeginsBy test word → OpensComment (word ++ rest) → ⊥
begins_no_comment test [] rest fails h comment = h
begins_no_comment test (first ∷ others) rest fails h comment =
    let same : first ∷ (others ++ rest) ≡ 40 ∷ (42 ∷ comment.0) = comment.1 in
    let is : first ≡ 40 = cc in
    true≢false (sym h ∙ ap test is ∙ fails)

word_longest : (word rest : List ℕ) → IsIdentifier word → Stops is_word_byte rest → IsLongest word rest
word_longest word rest h stops lexeme [] after is some spelt = some refl
word_longest [] rest h stops lexeme (byte ∷ more) after is some spelt = h
word_longest (first ∷ others) rest h stops lexeme (byte ∷ more) after is some spelt =
    let whole = letter_word lexeme (first ∷ (others ++ byte ∷ more)) spelt h.0 in
    let passes = and_parts (list_all is_word_byte others) _ (sym (list_all-append is_word_byte others (byte ∷ more)) ∙ whole.1) in
    let goes = (and_parts (is_word_byte byte) (list_all is_word_byte more) passes.1).0 in
    let halts = subst (λ (front : List ℕ). Stops is_word_byte front) is stops in
    true≢false (sym goes ∙ halts)

-- a letter and what letters and digits follow it
identifier_run : (text run rest : List ℕ) → BeginsBy is_letter text → text ≡ run ++ rest → list_all is_word_byte run ≡ true → Stops is_word_byte rest → IsIdentifier run
identifier_run [] run rest h split passes stops = absurd h
identifier_run (first ∷ others) [] [] h split passes stops = absurd (let e : first ∷ others ≡ [] = split in cc)
identifier_run (first ∷ others) [] (byte ∷ rest) h split passes stops =
    let e : first ∷ others ≡ byte ∷ rest = split in
    let same : first ≡ byte = cc in
    absurd (true≢false (sym (letter_is_word_byte first h) ∙ ap (λ (b : ℕ). is_word_byte b) same ∙ stops))
identifier_run (first ∷ others) (byte ∷ run) rest h split passes stops =
    let e : first ∷ others ≡ byte ∷ (run ++ rest) = split in
    let same : first ≡ byte = cc in
    (subst (λ (b : ℕ). is_letter b ≡ true) same h, (and_parts (is_word_byte byte) _ passes).1)

-- the longest word at the front stands there as the token that it spells
word_stands : (text : List ℕ) (lexeme : Lexeme) → BeginsBy is_letter text → (IsIdentifier (take_while is_word_byte text) → Spells lexeme (take_while is_word_byte text)) → StandsFirst text lexeme (drop_while is_word_byte text)
word_stands text lexeme h spells =
    let run = take_while is_word_byte text in
    let rest = drop_while is_word_byte text in
    let stops = rest_stops is_word_byte text in
    let is = identifier_run text run rest h (sym (run-and-rest is_word_byte text)) (run_passes is_word_byte text) stops in
    record {
      word = run;
      split = sym (run-and-rest is_word_byte text);
      spelt = spells is;
      longest = word_longest run rest is stops;
      no_comment = begins_no_comment is_letter run rest refl (identifier_begins run is);
    }

pub reserved_stands : (text : List ℕ) (row : ℕ) → BeginsBy is_letter text → IsRow reserved_words row (take_while is_word_byte text) → StandsFirst text (Reserved row) (drop_while is_word_byte text)
reserved_stands text row h is = word_stands text (Reserved row) h (λ _. is)

pub identifier_stands : (text : List ℕ) → BeginsBy is_letter text → ((row : ℕ) → IsRow reserved_words row (take_while is_word_byte text) → ⊥) → StandsFirst text (Ident (take_while is_word_byte text)) (drop_while is_word_byte text)
identifier_stands text h none = word_stands text (Ident (take_while is_word_byte text)) h (λ is. (refl, is, none))
