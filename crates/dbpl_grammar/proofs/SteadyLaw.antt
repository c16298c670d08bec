-- An answer rests on the tokens up to the first one left: of single tokens, of two readings one behind the other, and of
-- a choice by the first token.
use Rattle.std.proofs.Common.{◌≡◌, Bool, true, false, not, ◌&&◌, List, [], ◌∷◌, ◌++◌, Option, Some, None, Result, Ok, Err, refl, sym, ap, ap₂, ◌∙◌, append_assoc, if◌then◌else◌}
use Rattle.std.proofs.lemmas.Bool.{and_parts}
use Rattle.dbpl_base.specs.declared.lexeme.Lexeme.{Lexeme}
use Rattle.dbpl_base.specs.declared.lexeme.Lexeme.TheVariants.{Finish}
use Rattle.dbpl_base.specs.declared.token.Token.{Token}
use Rattle.dbpl_grammar.specs.Reading.{Parser, Reason, Refused, ◌>>=◌, ◌<$>◌, ◌⊗>◌, after, begins, closed, either, found_or, here, leaf, like}
use Rattle.dbpl_grammar.proofs.Law.{Steady, left, no_end}
use Rattle.dbpl_grammar.proofs.Sets.{fixed_is, like_same}

-- a reading with whatever follows from what it found
abbrev pub follow : {A B : Type 0} → Parser A → (A → Parser B) → Parser B
follow read next tokens = read tokens >>= λ found. next found.0 found.1

pub no_end_append : (front more : List Token) → no_end front ≡ true → no_end more ≡ true → no_end (front ++ more) ≡ true
no_end_append [] more h k = k
no_end_append (token ∷ front) more h k =
    let parts = and_parts (not (like Finish token.lexeme)) (no_end front) h in
    ap₂ (λ (a b : Bool). a && b) parts.0 (no_end_append front more parts.1 k)

-- what was found rests on the tokens up to and with any one behind
pub steady_through : {A : Type 0} (read : Parser A) (tokens : List Token) (found : A) (rest : List Token) (s : Steady read tokens (Ok (found, rest))) (front : List Token) (token : Token) (behind other : List Token) → rest ≡ front ++ token ∷ behind → read (s.front ++ (front ++ token ∷ other)) ≡ Ok (found, front ++ token ∷ other)
steady_through read tokens found rest s [] token behind other is = s.holds token behind other is
steady_through read tokens found rest s (first ∷ front) token behind other is =
    s.holds first (front ++ token ∷ behind) (front ++ token ∷ other) is

pub steady_follow : {A B : Type 0} (read : Parser A) (next : A → Parser B) (tokens : List Token) → Steady read tokens (read tokens) → ((found : A) (rest : List Token) → read tokens ≡ Ok (found, rest) → Steady (next found) rest (next found rest)) → Steady (follow read next) tokens (follow read next tokens)
steady_follow {A = A} {B = B} read next tokens s later = by_answer (read tokens) s later
  where
    by_answer : (answer : Result (A × List Token) Refused) → Steady read tokens answer → ((found : A) (rest : List Token) → answer ≡ Ok (found, rest) → Steady (next found) rest (next found rest)) → Steady (follow read next) tokens (answer >>= λ found. next found.0 found.1)
    by_answer (Err refused) s later = record {
      front = s.front;
      split = s.split;
      inside = s.inside;
      holds = λ token behind other is. rw (s.holds token behind other is) refl;
    }
    by_answer (Ok found) s later =
        let inner = later found.0 found.1 refl in
        record {
          front = s.front ++ inner.front;
          split = s.split ∙ ap (λ (t : List Token). s.front ++ t) inner.split ∙ sym (append_assoc s.front inner.front (left (next found.0 found.1)));
          inside = no_end_append s.front inner.front s.inside inner.inside;
          holds = λ token behind other is.
              let first = steady_through read tokens found.0 found.1 s inner.front token behind other (inner.split ∙ ap (λ (t : List Token). inner.front ++ t) is) in
              let second = inner.holds token behind other is in
              rw (append_assoc s.front inner.front (token ∷ other), first) second;
        }

-- ---- single tokens and nothing

pub same_head : (token other : Token) (tokens others : List Token) → token ∷ tokens ≡ other ∷ others → token ≡ other
same_head token other tokens others e = ap (λ (t : List Token). head_or token t) e
  where
    head_or : Token → List Token → Token
    head_or token [] = token
    head_or token (first ∷ others) = first

pub no_head : (token : Token) (tokens : List Token) → [] ≡ token ∷ tokens → ⊥
no_head token tokens e = let same : [] ≡ token ∷ tokens = e in cc

pub steady_pure : {A : Type 0} (found : A) (tokens : List Token) → Steady (λ (rest : List Token). Ok (found, rest)) tokens (Ok (found, tokens))
steady_pure found tokens = record { front = []; split = refl; inside = refl; holds = λ token behind other is. refl }

pub steady_refused : {A : Type 0} (reason : Reason) (tokens : List Token) → Steady {A = A} (λ (rest : List Token). Err (record { reason = reason; rest = rest })) tokens (Err (record { reason = reason; rest = tokens }))
steady_refused reason tokens = record { front = []; split = refl; inside = refl; holds = λ token behind other is. refl }

pub steady_here : (tokens : List Token) → Steady here tokens (here tokens)
steady_here [] = record { front = []; split = refl; inside = refl; holds = λ token behind other is. absurd (no_head token behind is) }
steady_here (first ∷ tokens) = record {
  front = [];
  split = refl;
  inside = refl;
  holds = λ token behind other is.
      ap (λ (t : Token). Ok (t.place, token ∷ other)) (sym (same_head first token tokens behind is));
}

pub steady_leaf : {A : Type 0} (meaning : Lexeme → Option A) → meaning Finish ≡ None → (tokens : List Token) → Steady (leaf meaning) tokens (leaf meaning tokens)
steady_leaf meaning not_end [] = record { front = []; split = refl; inside = refl; holds = λ token behind other is. absurd (no_head token behind is) }
steady_leaf {A = A} meaning not_end (first ∷ tokens) = by_meaning (meaning first.lexeme) refl
  where
    by_meaning : (means : Option A) → meaning first.lexeme ≡ means → Steady (leaf meaning) (first ∷ tokens) (found_or means (first ∷ tokens) tokens)
    by_meaning None e = record {
      front = [];
      split = refl;
      inside = refl;
      holds = λ token behind other is.
          (let none : meaning token.lexeme ≡ None = ap (λ (t : Token). meaning t.lexeme) (sym (same_head first token tokens behind is)) ∙ e in
          rw none refl);
    }
    by_meaning (Some found) e = record {
      front = first ∷ [];
      split = refl;
      inside = ap (λ (b : Bool). not b && true) (no_finish (like Finish first.lexeme) refl);
      holds = λ token behind other is. rw e refl;
    }
      where
        no_finish : (b : Bool) → like Finish first.lexeme ≡ b → like Finish first.lexeme ≡ false
        no_finish true is =
            absurd (let none : None ≡ Some found = sym not_end ∙ ap meaning (sym (fixed_is Finish first.lexeme refl is)) ∙ e in cc)
        no_finish false is = is

pub steady_after : {A : Type 0} (lexeme : Lexeme) (read : Parser A) → like Finish lexeme ≡ false → ((tokens : List Token) → Steady read tokens (read tokens)) → (tokens : List Token) → Steady (after lexeme read) tokens (after lexeme read tokens)
steady_after lexeme read not_end s [] = record { front = []; split = refl; inside = refl; holds = λ token behind other is. absurd (no_head token behind is) }
steady_after lexeme read not_end s (first ∷ tokens) = by_like (like lexeme first.lexeme) refl
  where
    by_like : (is : Bool) → like lexeme first.lexeme ≡ is → Steady (after lexeme read) (first ∷ tokens) ((if is then Ok tokens else Err (record { reason = Reason.Wrong; rest = first ∷ tokens })) >>= λ rest. read rest)
    by_like true e = record {
      front = first ∷ (s tokens).front;
      split = ap (λ (t : List Token). first ∷ t) (s tokens).split;
      inside = ap₂ (λ (a b : Bool). not a && b) (sym (like_same lexeme first.lexeme Finish e) ∙ not_end) (s tokens).inside;
      holds = λ token behind other is. rw e ((s tokens).holds token behind other is);
    }
    by_like false e = record {
      front = [];
      split = refl;
      inside = refl;
      holds = λ token behind other is.
          (let unlike : like lexeme token.lexeme ≡ false = ap (λ (t : Token). like lexeme t.lexeme) (sym (same_head first token tokens behind is)) ∙ e in
          rw unlike refl);
    }

-- ---- one behind the other

pub steady_map : {A B : Type 0} (make : A → B) (read : Parser A) → ((tokens : List Token) → Steady read tokens (read tokens)) → (tokens : List Token) → Steady (make <$> read) tokens ((make <$> read) tokens)
steady_map make read s tokens =
    steady_follow read (λ found. λ (rest : List Token). Ok (make found, rest)) tokens (s tokens) (λ found rest e. steady_pure (make found) rest)

pub steady_then : {A B : Type 0} (read : Parser A) (next : A → Parser B) → ((tokens : List Token) → Steady read tokens (read tokens)) → ((found : A) (before rest : List Token) → read before ≡ Ok (found, rest) → Steady (next found) rest (next found rest)) → (tokens : List Token) → Steady (read ⊗> next) tokens ((read ⊗> next) tokens)
steady_then {A = A} {B = B} read next s later tokens =
    steady_follow read (λ found. (λ more. (found, more)) <$> next found) tokens (s tokens) (λ found rest e. steady_follow (next found) (λ more. λ (rest : List Token). Ok ((found, more), rest)) rest (later found tokens rest e) (λ more behind e. steady_pure (found, more) behind))

pub steady_closed : {A : Type 0} (lexeme : Lexeme) (read : Parser A) → like Finish lexeme ≡ false → ((tokens : List Token) → Steady read tokens (read tokens)) → (tokens : List Token) → Steady (closed read lexeme) tokens (closed read lexeme tokens)
steady_closed lexeme read not_end s tokens =
    steady_follow read (λ found. after lexeme (λ (rest : List Token). Ok (found, rest))) tokens (s tokens) (λ found rest e. steady_after lexeme (λ (rest : List Token). Ok (found, rest)) not_end (λ rest. steady_pure found rest) rest)

-- ---- by the first token

pub begins_same : (set : List Lexeme) (tokens front : List Token) (rest : List Token) (token : Token) (behind other : List Token) → tokens ≡ front ++ rest → rest ≡ token ∷ behind → begins set (front ++ token ∷ other) ≡ begins set tokens
begins_same set tokens [] rest token behind other split is = sym (ap (begins set) (split ∙ is))
begins_same set tokens (first ∷ front) rest token behind other split is = sym (ap (begins set) split)

pub steady_either : {A : Type 0} (set : List Lexeme) (read other : Parser A) → ((tokens : List Token) → Steady read tokens (read tokens)) → ((tokens : List Token) → Steady other tokens (other tokens)) → (tokens : List Token) → Steady (either set read other) tokens (either set read other tokens)
steady_either {A = A} set read other s o tokens = by_begins (begins set tokens) refl
  where
    by_begins : (b : Bool) → begins set tokens ≡ b → Steady (either set read other) tokens (if b then read tokens else other tokens)
    by_begins true e = record {
      front = (s tokens).front;
      split = (s tokens).split;
      inside = (s tokens).inside;
      holds = λ token behind more is.
          rw (begins_same set tokens (s tokens).front (left (read tokens)) token behind more (s tokens).split is ∙ e) ((s tokens).holds token behind more is);
    }
    by_begins false e = record {
      front = (o tokens).front;
      split = (o tokens).split;
      inside = (o tokens).inside;
      holds = λ token behind more is.
          rw (begins_same set tokens (o tokens).front (left (other tokens)) token behind more (o tokens).split is ∙ e) ((o tokens).holds token behind more is);
    }
