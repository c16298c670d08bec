-- Strings at the front of a text.
use Rattle.std.proofs.Common.{◌≡◌, ℕ, Bool, true, false, cond, List, [], ◌∷◌, ◌++◌, refl, sym, ap, ap₂, ◌∙◌, subst, Option, Some, None, append_assoc, eqb-true, eq-eqb}
use Rattle.std.specs.List.{list_all}
use Rattle.std.specs.Prelude.{◌==◌, take_while}
use Rattle.dbpl_scan.specs.BreaksOff.{TokenStands}
use Rattle.dbpl_base.specs.Scans.{IsLongest}
use Rattle.dbpl_base.specs.Spelling.{is_text_byte}
use Rattle.dbpl_base.specs.declared.lexeme.Lexeme.TheVariants.{Text}
use Rattle.dbpl_scan.specs.Fronts.{BeginsBy, StandsFirst, closed, drop_while, is_quote, quoted}
use Rattle.dbpl_scan.proofs.Runs.{Stops, drop_while-append, run-and-rest, run_passes, take_while-append}
use Rattle.dbpl_scan.proofs.Spellings.{begins, begins-split, first_byte, quote_parts, quote_word}
use Rattle.dbpl_scan.proofs.WordLaw.{begins_no_comment}

quote_stops : (quote : ℕ) (rest : List ℕ) → Stops (is_text_byte quote) (quote ∷ rest)
quote_stops quote rest = rw (eq-eqb quote quote refl) refl

-- ---- what is found

found_under : {A : Type 0} (test : Bool) (found answer : A) → cond test (Some found) None ≡ Some answer → (test ≡ true) × (found ≡ answer)
found_under true found answer e = (refl, cc)
found_under false found answer e = absurd cc

closed_found : (quote : ℕ) (inside behind text rest : List ℕ) → closed quote inside behind ≡ Some (text, rest) → (inside ≡ text) × (behind ≡ quote ∷ rest)
closed_found quote inside [] text rest e = absurd (let none : None ≡ Some (text, rest) = e in cc)
closed_found quote inside (last ∷ others) text rest e =
    let found = found_under (last == quote) (inside, others) (text, rest) e in
    let first : inside ≡ text = ap (λ (pair : List ℕ × List ℕ). pair.0) found.1 in
    let second : others ≡ rest = ap (λ (pair : List ℕ × List ℕ). pair.1) found.1 in
    (first, rw (eqb-true last quote found.0, second) refl)

-- a string ends with its closing quote, so nothing longer begins like it
string_longest : (quote : ℕ) (text rest : List ℕ) → is_quote quote ≡ true → list_all (is_text_byte quote) text ≡ true → IsLongest (quote ∷ (text ++ quote ∷ [])) rest
string_longest quote text rest is passes lexeme more after split some spelt =
    let longer = quote_word lexeme ((quote ∷ (text ++ quote ∷ [])) ++ more) spelt is in
    let other = longer.1.0 in
    let split : quote ∷ ((text ++ quote ∷ []) ++ more) ≡ other ∷ (longer.0 ++ other ∷ []) = longer.1.2 in
    let first : quote ≡ other = cc in
    let behind : (text ++ quote ∷ []) ++ more ≡ longer.0 ++ other ∷ [] = cc in
    let behind_quote : text ++ quote ∷ more ≡ longer.0 ++ quote ∷ [] = sym (append_assoc text (quote ∷ []) more) ∙ rw (← first) at behind in
    let longer_passes : list_all (is_text_byte quote) longer.0 ≡ true = rw (← first) at longer.1.3 in
    let one = drop_while-append (is_text_byte quote) text (quote ∷ more) passes (quote_stops quote more) in
    let two = drop_while-append (is_text_byte quote) longer.0 (quote ∷ []) longer_passes (quote_stops quote []) in
    let same : quote ∷ more ≡ quote ∷ [] = sym one ∙ ap (drop_while (is_text_byte quote)) behind_quote ∙ two in
    some cc

pub string_stands : (text string rest : List ℕ) → BeginsBy is_quote text → quoted text ≡ Some (string, rest) → StandsFirst text (Text string) rest
string_stands [] string rest is e = absurd is
string_stands (quote ∷ behind) string rest is e =
    let inside = take_while (is_text_byte quote) behind in
    let outside = drop_while (is_text_byte quote) behind in
    let both = closed_found quote inside outside string rest e in
    let word = quote ∷ (string ++ quote ∷ []) in
    let passes : list_all (is_text_byte quote) string ≡ true = subst (λ (front : List ℕ). list_all (is_text_byte quote) front ≡ true) both.0 (run_passes (is_text_byte quote) behind) in
    let parts : behind ≡ string ++ quote ∷ rest = sym (run-and-rest (is_text_byte quote) behind) ∙ ap₂ (λ (a b : List ℕ). a ++ b) both.0 both.1 in
    record {
      word = word;
      split = ap (λ (others : List ℕ). quote ∷ others) (parts ∙ sym (append_assoc string (quote ∷ []) rest));
      spelt = (quote, quote_parts quote is, refl, passes);
      longest = string_longest quote string rest is passes;
      no_comment = begins_no_comment is_quote word rest refl is;
    }

-- ---- what isn't found isn't there

quoted-string : (quote : ℕ) (text rest : List ℕ) → list_all (is_text_byte quote) text ≡ true → quoted (quote ∷ (text ++ quote ∷ rest)) ≡ Some (text, rest)
quoted-string quote text rest passes =
    let stops = quote_stops quote rest in
    rw (take_while-append (is_text_byte quote) text (quote ∷ rest) passes stops, drop_while-append (is_text_byte quote) text (quote ∷ rest) passes stops, eq-eqb quote quote refl) refl

pub no_string_stands : (text : List ℕ) → BeginsBy is_quote text → quoted text ≡ None → TokenStands text → ⊥
no_string_stands text is e t =
    let begins = begins-split is_quote (begins t.0) text t.1 t.2 t.3 is (first_byte t.0 t.1 t.4) in
    let string = quote_word t.0 t.1 t.4 begins in
    let quote = string.1.0 in
    let split : text ≡ quote ∷ (string.0 ++ quote ∷ t.2) = t.3 ∙ ap (λ (w : List ℕ). w ++ t.2) string.1.2 ∙ ap (λ (others : List ℕ). quote ∷ others) (append_assoc string.0 (quote ∷ []) t.2) in
    let found : quoted text ≡ Some (string.0, t.2) = ap quoted split ∙ quoted-string quote string.0 t.2 string.1.3 in
    let both : ◌≡◌ {A = Option (List ℕ × List ℕ)} None (Some (string.0, t.2)) = sym e ∙ found in
    absurd cc
