-- What is read of phrases at the front of tokens: the one that stands there.
use Rattle.std.proofs.Common.{◌≡◌, ℕ, ◌≤◌, max, Bool, false, List, [], ◌∷◌, ◌++◌, length, length-append, append_assoc, append-nil, Result, Ok, Err, refl, sym, ap, ◌∙◌, subst, arith}
use Rattle.dbpl_base.specs.Scans.{lexemes_of}
use Rattle.dbpl_base.specs.declared.lexeme.Lexeme.{Lexeme}
use Rattle.dbpl_base.specs.declared.lexeme.Lexeme.TheVariants.{Finish}
use Rattle.dbpl_base.specs.declared.place.Place.{Place}
use Rattle.dbpl_base.specs.declared.token.Token.{Token}
use Rattle.dbpl_tree.specs.Marks.{Mark, Meets, lexemes_in}
use Rattle.dbpl_grammar.specs.Laws.{BegunPhrase, NamesPhraseToken, NoneLonger, PhraseIsRead, ReadsPhrase, RefusesPhrase, SpellingBegins, Stands}
use Rattle.dbpl_grammar.specs.Reading.{Parser, Refused, among}
use Rattle.dbpl_grammar.proofs.MeetsLaw.{same_front}
use Rattle.dbpl_grammar.proofs.Every.{Every}
use Rattle.dbpl_grammar.proofs.Grows.{Grows}
use Rattle.dbpl_grammar.proofs.Law.{AtPlace, Steady}
use Rattle.dbpl_grammar.proofs.Longest.{Exact}
use Rattle.dbpl_grammar.proofs.OpenLaw.{token_at}
use Rattle.dbpl_grammar.proofs.Spellings.{begins_so, behind_next, completing, lexed, meets_lexemes}
use Rattle.dbpl_grammar.proofs.TokenLaw.{err_isnt, ok_is}
use Rattle.dbpl_grammar.proofs.WholeLaw.{not_all}

-- the place of the first of these, if there is one
pub first_place : List Token → Place
first_place [] = record { unit = 0; line = 0; col = 0 }
first_place (token ∷ rest) = token.place

pub at_first : (rest : List Token) → AtPlace (first_place rest) rest
unfolding first_place
at_first [] = tt
at_first (token ∷ rest) = refl

module _ {A : Type 0} {w : A → List Mark} {n : A → ℕ} {first more : List Lexeme} {empty : Bool} {read : ℕ → Parser A} (law : (limit : ℕ) → Every w n limit first more empty (read limit)) where
  -- a phrase that begins with these tokens and the next one is read, at other places, where the end of the text stands
  -- behind it
  beyond : (ends : among more Finish ≡ false) (limit : ℕ) (front : List Token) (next : Token) (x : A) → n x ≤ limit → SpellingBegins (lexemes_in (w x)) (front ++ next ∷ []) → (behind : List Token) × (finish : Token) × (y : A) × (read limit (front ++ next ∷ (behind ++ finish ∷ [])) ≡ Ok (y, finish ∷ []))
  beyond ends limit front next x fits begins =
      let rest = completing (lexemes_in (w x)) front next begins in
      let finish = token_at next.place Finish in
      let p = (law limit).places x ((front ++ next ∷ rest.0) ++ finish ∷ []) (finish ∷ []) tt fits (lexed (w x) (front ++ next ∷ rest.0) finish rest.1) in
      (rest.0, finish, p.tree, (law limit).reads p.tree (front ++ next ∷ (rest.0 ++ finish ∷ [])) (finish ∷ []) tt p.fits (subst (λ (t : List Token). Meets t (w p.tree) (finish ∷ [])) (append_assoc front (next ∷ rest.0) (finish ∷ [])) p.meets) ends)

  pub refuses_phrase : among more Finish ≡ false → RefusesPhrase w n read
  refuses_phrase ends limit tokens refused e =
      let s = (law limit).steady tokens in
      let t : Steady (read limit) tokens (Err refused) = subst (λ (answer : Result (A × List Token) Refused). Steady (read limit) tokens answer) e s in
      record {
        front = t.front;
        split = t.split;
        none = λ token behind x is fits begins.
            (let further = beyond ends limit t.front token x fits begins in
            err_isnt _ _ (sym (t.holds token behind (further.0 ++ further.1 ∷ []) is) ∙ further.3));
      }

  pub begun_phrase : BegunPhrase w read
  begun_phrase limit tokens refused e =
      let s = (law limit).steady tokens in
      let t : Steady (read limit) tokens (Err refused) = subst (λ (answer : Result (A × List Token) Refused). Steady (read limit) tokens answer) e s in
      let place = first_place refused.rest in
      let c = (law limit).opens tokens t.front refused place e t.split (at_first refused.rest) in
      let finish = token_at place Finish in
      let spelled = meets_lexemes (w c.tree) (t.front ++ (c.tokens ++ finish ∷ [])) (finish ∷ []) (c.meets (finish ∷ []) refl) in
      let same = same_front (t.front ++ c.tokens) spelled.0 (finish ∷ []) (append_assoc t.front c.tokens (finish ∷ []) ∙ spelled.1) in
      record {
        front = t.front;
        split = t.split;
        phrase = c.tree;
        begins = begins_so (lexemes_in (w c.tree)) t.front c.tokens (spelled.2 ∙ ap (λ (ts : List Token). lexemes_of ts) (sym same));
      }

  pub names_phrase_token : NamesPhraseToken read
  names_phrase_token limit tokens refused end e none =
      let s = (law limit).steady tokens in
      let t : Steady (read limit) tokens (Err refused) = subst (λ (answer : Result (A × List Token) Refused). Steady (read limit) tokens answer) e s in
      not_all tokens t.front end t.inside (t.split ∙ ap (λ (rest : List Token). t.front ++ rest) none ∙ append-nil t.front)

  pub phrase_is_read : ((limit : ℕ) → Exact w n limit (λ (x : A). Unit {0}) (read limit)) → PhraseIsRead w n read
  phrase_is_read exact limit tokens rest x s =
      let spelled = subst (λ (t : List Token). Meets t (w x) (s.next ∷ s.behind)) s.split (subst (λ (r : List Token). Meets tokens (w x) r) s.left s.spelled) in
      let one = (exact limit).reads s.front s.behind s.next x tt s.fits spelled (λ other left y good m le. s.longest y (longer s.front other left s.next y m le)) in
      ap (read limit) s.split ∙ one ∙ ap (λ (r : List Token). Ok (x, r)) (sym s.left)
    where
      longer : (front other left : List Token) (next : Token) (y : A) → Meets (front ++ next ∷ other) (w y) left → length left ≤ length other → SpellingBegins (lexemes_in (w y)) (front ++ next ∷ [])
      longer front other left next y m le =
          let ahead = meets_lexemes (w y) (front ++ next ∷ other) left m in
          let between = behind_next front other ahead.0 left next (sym ahead.1) le in
          let split : front ++ next ∷ other ≡ (front ++ next ∷ between.0) ++ left = ap (λ (t : List Token). front ++ next ∷ t) between.1 ∙ sym (append_assoc front (next ∷ between.0) left) in
          let same = same_front ahead.0 (front ++ next ∷ between.0) left (sym ahead.1 ∙ split) in
          begins_so (lexemes_in (w y)) (front ++ next ∷ []) between.0 (ahead.2 ∙ ap (λ (ts : List Token). lexemes_of ts) (same ∙ sym (append_assoc front (next ∷ []) between.0)))

  none_longer : ((limit wider : ℕ) → limit ≤ wider → Grows (read limit) (read wider)) → among more Finish ≡ false → (limit : ℕ) (front behind : List Token) (next : Token) (x : A) → read limit (front ++ next ∷ behind) ≡ Ok (x, next ∷ behind) → NoneLonger w front next
  none_longer grows ends limit front behind next x e y begins =
      let s = (law limit).steady (front ++ next ∷ behind) in
      let t : Steady (read limit) (front ++ next ∷ behind) (Ok (x, next ∷ behind)) = subst (λ (answer : Result (A × List Token) Refused). Steady (read limit) (front ++ next ∷ behind) answer) e s in
      let wider = max limit (n y) in
      let further = beyond ends wider front next y (omega arith) begins in
      let others = further.0 ++ further.1 ∷ [] in
      let same : t.front ≡ front = sym (same_front front t.front (next ∷ behind) t.split) in
      let stays : read limit (front ++ next ∷ others) ≡ Ok (x, next ∷ others) = subst (λ (f : List Token). read limit (f ++ next ∷ others) ≡ Ok (x, next ∷ others)) same (t.holds next behind others refl) in
      let grown = grows limit wider (omega arith) (front ++ next ∷ others) (next ∷ others) x stays in
      let rests = ap (λ (z : A × List Token). length z.1) (ok_is (x, next ∷ others) (further.2, further.1 ∷ []) (sym grown ∙ further.3)) in
      let lengths = length-append further.0 (further.1 ∷ []) in
      omega arith

  pub reads_phrase : ((limit wider : ℕ) → limit ≤ wider → Grows (read limit) (read wider)) → among more Finish ≡ false → ReadsPhrase w n read
  reads_phrase grows ends limit tokens rest x end e = by_rest rest e (subst (λ (answer : Result (A × List Token) Refused). Steady (read limit) tokens answer) e ((law limit).steady tokens))
    where
      by_rest : (rest : List Token) → read limit tokens ≡ Ok (x, rest) → Steady (read limit) tokens (Ok (x, rest)) → Stands w n limit tokens x rest
      by_rest [] e t = absurd (not_all tokens t.front end t.inside (t.split ∙ append-nil t.front))
      by_rest (next ∷ behind) e t =
          let wrote = (law limit).wrote x tokens (next ∷ behind) e in
          record {
            front = t.front;
            next = next;
            behind = behind;
            split = t.split;
            left = refl;
            spelled = wrote.meets;
            fits = wrote.fits;
            longest = none_longer grows ends limit t.front behind next x (sym (ap (read limit) t.split) ∙ e);
          }
