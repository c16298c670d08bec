-- A phrase that stands again and again: as many turns as there are tokens are enough, and one more.
use Rattle.std.proofs.Common.{◌≡◌, ℕ, zero, suc, ◌+◌, ◌<◌, Bool, true, false, List, [], ◌∷◌, ◌++◌, length, Result, Ok, Err, refl, sym, ap, ◌∙◌, append_assoc, length-append, not-suc-le-zero, arith, if◌then◌else◌}
use Rattle.dbpl_base.specs.declared.lexeme.Lexeme.{Lexeme}
use Rattle.dbpl_base.specs.declared.token.Token.{Token}
use Rattle.dbpl_grammar.specs.Reading.{Parser, Refused, ◌>>=◌, begins, many, many_from}
use Rattle.dbpl_grammar.proofs.Law.{Steady, leaving, left, no_end}
use Rattle.dbpl_grammar.proofs.SteadyLaw.{begins_same, no_end_append, steady_through}

-- each reading takes a token at least
abbrev pub Goes : {A : Type 0} → Parser A → Type 0
Goes {A = A} read = (found : A) (tokens rest : List Token) → read tokens ≡ Ok (found, rest) → length rest < length tokens

-- the answer rests on the tokens up to the first one left, whatever the turns, if they are enough
pub record SteadyMany {A : Type 0} (set : List Lexeme) (read : Parser A) (found : List A) (tokens : List Token) (answer : Result (List A × List Token) Refused) : Type 0 where
  pub front : List Token
  pub split : tokens ≡ front ++ left answer
  pub inside : no_end front ≡ true
  pub holds : (token : Token) (behind other : List Token) → left answer ≡ token ∷ behind → (turns : ℕ) → length (front ++ token ∷ other) < turns → many_from set read turns found (front ++ token ∷ other) ≡ leaving (token ∷ other) answer

pub steady_many_from : {A : Type 0} (set : List Lexeme) (read : Parser A) → ((tokens : List Token) → Steady read tokens (read tokens)) → Goes read → (turns : ℕ) (found : List A) (tokens : List Token) → length tokens < turns → SteadyMany set read found tokens (many_from set read turns found tokens)
steady_many_from set read s goes zero found tokens enough = absurd (not-suc-le-zero enough)
steady_many_from {A = A} set read s goes (suc turns) found tokens enough = by_begins (λ found tokens enough. steady_many_from set read s goes turns found tokens enough) (begins set tokens) refl
  where
    by_read : ((found : List A) (tokens : List Token) → length tokens < turns → SteadyMany set read found tokens (many_from set read turns found tokens)) → begins set tokens ≡ true → (answer : Result (A × List Token) Refused) → read tokens ≡ answer → Steady read tokens answer → SteadyMany set read found tokens (answer >>= λ next. many_from set read turns (found ++ next.0 ∷ []) next.1)
    by_read again begun (Err refused) e once = record {
      front = once.front;
      split = once.split;
      inside = once.inside;
      holds = λ token behind other is n more. by_turns token behind other is n more;
    }
      where
        by_turns : (token : Token) (behind other : List Token) → refused.rest ≡ token ∷ behind → (n : ℕ) → length (once.front ++ token ∷ other) < n → many_from set read n found (once.front ++ token ∷ other) ≡ Err (record { reason = refused.reason; rest = token ∷ other })
        by_turns token behind other is zero more = absurd (not-suc-le-zero more)
        by_turns token behind other is (suc n) more =
            rw (begins_same set tokens once.front refused.rest token behind other once.split is ∙ begun, once.holds token behind other is) refl
    by_read again begun (Ok next) e once =
        let shorter : length next.1 < length tokens = goes next.0 tokens next.1 e in
        let later = again (found ++ next.0 ∷ []) next.1 (omega arith) in
        record {
          front = once.front ++ later.front;
          split = once.split ∙ ap (λ (t : List Token). once.front ++ t) later.split ∙ sym (append_assoc once.front later.front (left (many_from set read turns (found ++ next.0 ∷ []) next.1)));
          inside = no_end_append once.front later.front once.inside later.inside;
          holds = λ token behind other is n more. by_turns later shorter token behind other is n more;
        }
      where
        by_turns : (later : SteadyMany set read (found ++ next.0 ∷ []) next.1 (many_from set read turns (found ++ next.0 ∷ []) next.1)) → length next.1 < length tokens → (token : Token) (behind other : List Token) → left (many_from set read turns (found ++ next.0 ∷ []) next.1) ≡ token ∷ behind → (n : ℕ) → length ((once.front ++ later.front) ++ token ∷ other) < n → many_from set read n found ((once.front ++ later.front) ++ token ∷ other) ≡ leaving (token ∷ other) (many_from set read turns (found ++ next.0 ∷ []) next.1)
        by_turns later shorter token behind other is zero more = absurd (not-suc-le-zero more)
        by_turns later shorter token behind other is (suc n) more =
            let first = steady_through read tokens next.0 next.1 once later.front token behind other (later.split ∙ ap (λ (t : List Token). later.front ++ t) is) in
            let begins_too = begins_same set tokens (once.front ++ later.front) (left (many_from set read turns (found ++ next.0 ∷ []) next.1)) token behind other (once.split ∙ ap (λ (t : List Token). once.front ++ t) later.split ∙ sym (append_assoc once.front later.front (left (many_from set read turns (found ++ next.0 ∷ []) next.1)))) is in
            let whole = length-append (once.front ++ later.front) (token ∷ other) in
            let two = length-append once.front later.front in
            let there = length-append later.front (token ∷ other) in
            let here : length tokens ≡ length once.front + length next.1 = ap (λ (t : List Token). length t) once.split ∙ length-append once.front next.1 in
            let rest = later.holds token behind other is n (omega arith) in
            rw (begins_too ∙ begun, append_assoc once.front later.front (token ∷ other), first) rest

    by_begins : ((found : List A) (tokens : List Token) → length tokens < turns → SteadyMany set read found tokens (many_from set read turns found tokens)) → (b : Bool) → begins set tokens ≡ b → SteadyMany set read found tokens (if b then (read tokens >>= λ next. many_from set read turns (found ++ next.0 ∷ []) next.1) else Ok (found, tokens))
    by_begins again true e = by_read again e (read tokens) refl (s tokens)
    by_begins again false e = record {
      front = [];
      split = refl;
      inside = refl;
      holds = λ token behind other is n more. by_turns token behind other is n more;
    }
      where
        by_turns : (token : Token) (behind other : List Token) → tokens ≡ token ∷ behind → (n : ℕ) → length (token ∷ other) < n → many_from set read n found (token ∷ other) ≡ Ok (found, token ∷ other)
        by_turns token behind other is zero more = absurd (not-suc-le-zero more)
        by_turns token behind other is (suc n) more =
            rw (begins_same set tokens [] tokens token behind other refl is ∙ e) refl

pub steady_many : {A : Type 0} (set : List Lexeme) (read : Parser A) → ((tokens : List Token) → Steady read tokens (read tokens)) → Goes read → (tokens : List Token) → Steady (many set read) tokens (many set read tokens)
steady_many set read s goes tokens =
    let all = steady_many_from set read s goes (suc (length tokens)) [] tokens (omega arith) in
    record {
      front = all.front;
      split = all.split;
      inside = all.inside;
      holds = λ token behind other is. all.holds token behind other is (suc (length (all.front ++ token ∷ other))) (omega arith);
    }
