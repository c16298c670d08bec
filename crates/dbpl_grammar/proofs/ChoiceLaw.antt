-- The law of a choice by the first token, of phrases that may be absent or stand again and again, and of phrases where
-- none may stand any more.
use Rattle.std.proofs.Common.{◌≡◌, ℕ, suc, ◌≤◌, Bool, true, false, ◌||◌, ◌⊎◌, inl, inr, List, [], ◌∷◌, ◌++◌, Option, Some, None, Ok, Err, refl, sym, ap, ap₂, ◌∙◌, subst, zero-le, arith, true≢false, if◌then◌else◌}
use Rattle.dbpl_base.specs.declared.lexeme.Lexeme.{Lexeme}
use Rattle.dbpl_base.specs.declared.place.Place.{Place}
use Rattle.dbpl_base.specs.declared.token.Token.{Token}
use Rattle.dbpl_tree.specs.Depths.{option_depth}
use Rattle.dbpl_tree.specs.Marks.{Mark, Meets, option_marks}
use Rattle.dbpl_grammar.specs.Reading.{Parser, Refused, ◌>>=◌, ◌<$>◌, ◌⊗◌, ◌⊗>◌, after, among, begins, closed, either, flag, like, many, many_from, nothing, optional, too_deep}
use Rattle.dbpl_grammar.proofs.PlacedLaw.{places_either, places_made, places_never, places_none, places_option}
use Rattle.dbpl_grammar.proofs.OpenLaw.{complete_made, complete_nothing, err, ok_isnt, opens_deep, opens_either, opens_never, opens_optional}
use Rattle.dbpl_grammar.proofs.JoinLaw.{ends_before, ends_less, may_follow}
use Rattle.dbpl_grammar.proofs.Law.{BeginsBy, Completed, Ends, Law, Wrote, by_nothing, by_token}
use Rattle.dbpl_grammar.proofs.Sets.{among_append, within, within_so}
use Rattle.dbpl_grammar.proofs.SteadyLaw.{steady_either, steady_map, steady_pure, steady_refused}
use Rattle.dbpl_grammar.proofs.TokenLaw.{both_ok, err_isnt, ok_is}

-- ---- the same law with more lexemes that may begin or go on

begins_wider : (first wider : List Lexeme) (empty : Bool) (tokens rest : List Token) → within first wider ≡ true → BeginsBy first empty tokens rest → BeginsBy wider empty tokens rest
begins_wider first wider empty tokens rest h (by_token token behind split is shorter) =
    by_token token behind split (within_so first wider token.lexeme h is) shorter
begins_wider first wider empty tokens rest h (by_nothing none split) = by_nothing none split

pub law_wider : {A : Type 0} {w : A → List Mark} {n : A → ℕ} {limit : ℕ} {first more : List Lexeme} {empty : Bool} {Is : A → Type 0} {read : Parser A} (first' more' : List Lexeme) → within first first' ≡ true → within more more' ≡ true → Law w n limit first more empty Is read → Law w n limit first' more' empty Is read
law_wider {first = first} {more = more} {empty = empty} first' more' h k law = record {
  begins_by = λ found tokens rest is fits meets. begins_wider first first' empty tokens rest h (law.begins_by found tokens rest is fits meets);
  reads = λ found tokens rest is fits meets ends. law.reads found tokens rest is fits meets (ends_less more more' rest k ends);
  wrote = law.wrote;
  steady = law.steady;
  some = law.some;
  opens = law.opens;
  places = law.places;
}

-- ---- marks and depths said otherwise

pub law_same : {A : Type 0} {w : A → List Mark} {n : A → ℕ} {limit : ℕ} {first more : List Lexeme} {empty : Bool} {Is : A → Type 0} {read : Parser A} (w' : A → List Mark) (n' : A → ℕ) → ((x : A) → w' x ≡ w x) → ((x : A) → n' x ≡ n x) → Law w n limit first more empty Is read → Law w' n' limit first more empty Is read
law_same {A = A} {w = w} {n = n} {limit = limit} {Is = Is} w' n' marks depth law = record {
  begins_by = λ found tokens rest is fits meets. law.begins_by found tokens rest is (subst (λ (k : ℕ). k ≤ limit) (depth found) fits) (subst (λ (ms : List Mark). Meets tokens ms rest) (marks found) meets);
  reads = λ found tokens rest is fits meets ends. law.reads found tokens rest is (subst (λ (k : ℕ). k ≤ limit) (depth found) fits) (subst (λ (ms : List Mark). Meets tokens ms rest) (marks found) meets) ends;
  wrote = λ found tokens rest e. (let one = law.wrote found tokens rest e in record {
    is = one.is;
    fits = subst (λ (k : ℕ). k ≤ limit) (sym (depth found)) one.fits;
    meets = subst (λ (ms : List Mark). Meets tokens ms rest) (sym (marks found)) one.meets;
  });
  steady = law.steady;
  some = λ place. complete_made w Is w' Is (λ (x : A). x) (λ x is. marks x) (λ x is. is) place [] (law.some place);
  opens = λ tokens front refused place e split at. complete_made w Is w' Is (λ (x : A). x) (λ x is. marks x) (λ x is. is) place front (law.opens tokens front refused place e split at);
  places = places_made w n Is w' n' Is limit (λ (x : A). x) (λ x is. marks x) (λ x is. depth x) (λ x is. is) (λ y is. (y, is, refl)) law.places;
}

-- ---- one or the other

pub begins_with : (set : List Lexeme) (tokens rest : List Token) → BeginsBy set false tokens rest → begins set tokens ≡ true
begins_with set tokens rest (by_token token behind split is shorter) = ap (begins set) split ∙ is
begins_with set tokens rest (by_nothing none split) = absurd (true≢false (sym none))

begins_append : (first second : List Lexeme) (empty : Bool) (tokens rest : List Token) → BeginsBy first false tokens rest ⊎ BeginsBy second empty tokens rest → BeginsBy (first ++ second) empty tokens rest
begins_append first second empty tokens rest (inl (by_token token behind split is shorter)) =
    by_token token behind split (among_append first second token.lexeme ∙ ap (λ (b : Bool). b || among second token.lexeme) is) shorter
begins_append first second empty tokens rest (inl (by_nothing none split)) = absurd (true≢false (sym none))
begins_append first second empty tokens rest (inr (by_token token behind split is shorter)) =
    by_token token behind split (among_append first second token.lexeme ∙ or_second (among first token.lexeme) (among second token.lexeme) is) shorter
  where
    or_second : (a b : Bool) → b ≡ true → (a || b) ≡ true
    or_second true b h = refl
    or_second false b h = h
begins_append first second empty tokens rest (inr (by_nothing none split)) = by_nothing none split

module _ {A : Type 0} {w : A → List Mark} {n : A → ℕ} {limit : ℕ} {first more : List Lexeme} {Is : A → Type 0} {read : Parser A} {second : List Lexeme} {empty : Bool} {Is' : A → Type 0} {other : Parser A} (law : Law w n limit first more false Is read) (law' : Law w n limit second more empty Is' other) (apart_too : may_follow first second empty more ≡ true) where
  either_begins : (found : A) (tokens rest : List Token) → Is found ⊎ Is' found → n found ≤ limit → Meets tokens (w found) rest → BeginsBy (first ++ second) empty tokens rest
  either_begins found tokens rest (inl is) fits meets =
      begins_append first second empty tokens rest (inl (law.begins_by found tokens rest is fits meets))
  either_begins found tokens rest (inr is) fits meets =
      begins_append first second empty tokens rest (inr (law'.begins_by found tokens rest is fits meets))

  either_reads : (found : A) (tokens rest : List Token) → Is found ⊎ Is' found → n found ≤ limit → Meets tokens (w found) rest → Ends more rest → either first read other tokens ≡ Ok (found, rest)
  either_reads found tokens rest (inl is) fits meets ends =
      rw (begins_with first tokens rest (law.begins_by found tokens rest is fits meets)) (law.reads found tokens rest is fits meets ends)
  either_reads found tokens rest (inr is) fits meets ends =
      rw (ends_before first second more empty tokens rest apart_too (law'.begins_by found tokens rest is fits meets) ends) (law'.reads found tokens rest is fits meets ends)

  either_wrote : (found : A) (tokens rest : List Token) → either first read other tokens ≡ Ok (found, rest) → Wrote w n limit (λ (x : A). Is x ⊎ Is' x) found tokens rest
  either_wrote found tokens rest e = by_begins (begins first tokens) refl e
    where
      by_begins : (b : Bool) → begins first tokens ≡ b → (if b then read tokens else other tokens) ≡ Ok (found, rest) → Wrote w n limit (λ (x : A). Is x ⊎ Is' x) found tokens rest
      by_begins true is e =
          let one = law.wrote found tokens rest e in
          record { is = inl one.is; fits = one.fits; meets = one.meets }
      by_begins false is e =
          let one = law'.wrote found tokens rest e in
          record { is = inr one.is; fits = one.fits; meets = one.meets }

  pub law_either : Law w n limit (first ++ second) more empty (λ (x : A). Is x ⊎ Is' x) (either first read other)
  law_either = record {
    begins_by = either_begins;
    reads = either_reads;
    wrote = either_wrote;
    steady = steady_either first read other law.steady law'.steady;
    some = λ place. complete_made w Is w (λ (x : A). Is x ⊎ Is' x) (λ (x : A). x) (λ x is. refl) (λ x is. inl is) place [] (law.some place);
    opens = opens_either w Is Is' first read other law.opens law'.opens;
    places = places_either w n limit Is Is' law.places law'.places;
  }

-- the trees that satisfy the one or the other are all that the law asks for
pub law_all : {A : Type 0} {w : A → List Mark} {n : A → ℕ} {limit : ℕ} {first more : List Lexeme} {empty : Bool} {Is : A → Type 0} {read : Parser A} (Is' : A → Type 0) → ((x : A) → Is' x → Is x) → ((x : A) → Is x → Is' x) → Law w n limit first more empty Is read → Law w n limit first more empty Is' read
law_all {A = A} {w = w} {n = n} {limit = limit} {Is = Is} Is' to back law = record {
  begins_by = λ found tokens rest is fits meets. law.begins_by found tokens rest (to found is) fits meets;
  reads = λ found tokens rest is fits meets ends. law.reads found tokens rest (to found is) fits meets ends;
  wrote = λ found tokens rest e. (let one = law.wrote found tokens rest e in record { is = back found one.is; fits = one.fits; meets = one.meets });
  steady = law.steady;
  some = λ place. complete_made w Is w Is' (λ (x : A). x) (λ x is. refl) back place [] (law.some place);
  opens = λ tokens front refused place e split at. complete_made w Is w Is' (λ (x : A). x) (λ x is. refl) back place front (law.opens tokens front refused place e split at);
  places = places_made w n Is w n Is' limit (λ (x : A). x) (λ x is. refl) (λ x is. refl) back (λ y is. (y, to y is, refl)) law.places;
}

-- ---- a phrase or nothing

-- where the phrase stands, it is one of those that the law asks for
abbrev pub IfThere : {A : Type 0} → (A → Type 0) → Option A → Type 0
IfThere Is None = Unit {0}
IfThere Is (Some found) = Is found

module _ {A : Type 0} {w : A → List Mark} {n : A → ℕ} {limit : ℕ} {first more : List Lexeme} {Is : A → Type 0} {read : Parser A} (law : Law w n limit first more false Is read) where
  optional_begins : (found : Option A) (tokens rest : List Token) → IfThere Is found → option_depth n found ≤ limit → Meets tokens (option_marks w found) rest → BeginsBy first true tokens rest
  optional_begins None tokens rest is fits meets = by_nothing refl meets
  optional_begins (Some found) tokens rest is fits meets = only_token (law.begins_by found tokens rest is fits meets)
    where
      only_token : BeginsBy first false tokens rest → BeginsBy first true tokens rest
      only_token (by_token token behind split is shorter) = by_token token behind split is shorter
      only_token (by_nothing none split) = absurd (true≢false (sym none))

  pub first_ends : (rest : List Token) → Ends (first ++ more) rest → Ends first rest × Ends more rest
  first_ends [] e = (refl, refl)
  first_ends (token ∷ rest) e = by_among (among first token.lexeme) (among more token.lexeme) (sym (among_append first more token.lexeme) ∙ e)
    where
      by_among : (a b : Bool) → (a || b) ≡ false → (a ≡ false) × (b ≡ false)
      by_among true b e = absurd (true≢false e)
      by_among false b e = (refl, e)

  optional_reads : (found : Option A) (tokens rest : List Token) → IfThere Is found → option_depth n found ≤ limit → Meets tokens (option_marks w found) rest → Ends (first ++ more) rest → optional first read tokens ≡ Ok (found, rest)
  optional_reads None tokens rest is fits meets ends =
      rw (ap (begins first) meets ∙ (first_ends rest ends).0) (ap (λ (t : List Token). Ok (None, t)) meets)
  optional_reads (Some found) tokens rest is fits meets ends =
      rw (begins_with first tokens rest (law.begins_by found tokens rest is fits meets), law.reads found tokens rest is fits meets (first_ends rest ends).1) refl

  optional_wrote : (found : Option A) (tokens rest : List Token) → optional first read tokens ≡ Ok (found, rest) → Wrote (option_marks w) (option_depth n) limit (IfThere Is) found tokens rest
  optional_wrote found tokens rest e = by_begins (begins first tokens) e
    where
      by_begins : (b : Bool) → (if b then ((λ (x : A). Some x) <$> read) tokens else Ok (None, tokens)) ≡ Ok (found, rest) → Wrote (option_marks w) (option_depth n) limit (IfThere Is) found tokens rest
      by_begins true e =
          let one = both_ok (read tokens) (λ x. Ok (Some x.0, x.1)) (found, rest) e in
          let front = law.wrote one.0.0 tokens one.0.1 one.1 in
          let same = ok_is (Some one.0.0, one.0.1) (found, rest) one.2 in
          subst (λ (s : Option A × List Token). Wrote (option_marks w) (option_depth n) limit (IfThere Is) s.0 tokens s.1) {x = (Some one.0.0, one.0.1)} same (record { is = front.is; fits = front.fits; meets = front.meets })
      by_begins false e =
          let same = ok_is (None, tokens) (found, rest) e in
          subst (λ (s : Option A × List Token). Wrote (option_marks w) (option_depth n) limit (IfThere Is) s.0 tokens s.1) {x = (None, tokens)} same (record { is = tt; fits = zero-le; meets = refl })

  pub law_optional : Law (option_marks w) (option_depth n) limit first (first ++ more) true (IfThere Is) (optional first read)
  law_optional = record {
    begins_by = optional_begins;
    reads = optional_reads;
    wrote = optional_wrote;
    steady = steady_either first ((λ (x : A). Some x) <$> read) nothing (steady_map (λ (x : A). Some x) read law.steady) (λ tokens. steady_pure None tokens);
    some = λ place. complete_nothing (option_marks w) (IfThere Is) place None tt refl;
    opens = opens_optional w Is (IfThere Is) first read (λ x is. is) law.opens;
    places = places_option w n limit Is (IfThere Is) (λ x is. is) (λ x is. is) law.places;
  }

pub law_nothing : {A : Type 0} (w : A → List Mark) (n : A → ℕ) (limit : ℕ) → Law (option_marks w) (option_depth n) limit [] [] true (λ (x : Option A). x ≡ None) nothing
law_nothing {A = A} w n limit = record {
  begins_by = λ found tokens rest is fits meets. by_nothing refl (subst (λ (x : Option A). Meets tokens (option_marks w x) rest) is meets);
  reads = λ found tokens rest is fits meets ends. ap₂ (λ (x : Option A) (t : List Token). Ok (x, t)) (sym is) (subst (λ (x : Option A). Meets tokens (option_marks w x) rest) is meets);
  wrote = λ found tokens rest e. (let same = ok_is (None, tokens) (found, rest) e in
      subst (λ (s : Option A × List Token). Wrote (option_marks w) (option_depth n) limit (λ (x : Option A). x ≡ None) s.0 tokens s.1) {x = (None, tokens)} same (record { is = refl; fits = zero-le; meets = refl }));
  steady = λ tokens. steady_pure None tokens;
  some = λ place. complete_nothing (option_marks w) (λ (x : Option A). x ≡ None) place None refl refl;
  opens = opens_never (option_marks w) (λ (x : Option A). x ≡ None) nothing (λ tokens refused e. ok_isnt {A = Option A × List Token} (None, tokens) refused e);
  places = places_none w n limit;
}

-- ---- where none may stand any more

pub law_deep : {A : Type 0} (w : A → List Mark) (n : A → ℕ) (limit : ℕ) (first more set : List Lexeme) (empty : Bool) (Is : A → Type 0) → ((place : Place) → Completed w Is place []) → ((x : A) → n x ≤ limit → ⊥) → Law w n limit first more empty Is (too_deep set)
law_deep {A = A} w n limit first more set empty Is ready none = record {
  begins_by = λ found tokens rest is fits meets. absurd (none found fits);
  reads = λ found tokens rest is fits meets ends. absurd (none found fits);
  wrote = λ found tokens rest e. by_begins (begins set tokens) found tokens rest e;
  steady = steady_either set (λ tokens. Err (record { reason = Rattle.dbpl_grammar.specs.Reading.Deep; rest = tokens })) (λ tokens. Err (record { reason = Rattle.dbpl_grammar.specs.Reading.Wrong; rest = tokens })) (λ tokens. steady_refused Rattle.dbpl_grammar.specs.Reading.Deep tokens) (λ tokens. steady_refused Rattle.dbpl_grammar.specs.Reading.Wrong tokens);
  some = ready;
  opens = opens_deep w Is set ready;
  places = places_never w n limit Is none;
}
  where
    by_begins : (b : Bool) (found : A) (tokens rest : List Token) → (if b then err {A = A × List Token} (record { reason = Rattle.dbpl_grammar.specs.Reading.Deep; rest = tokens }) else Err (record { reason = Rattle.dbpl_grammar.specs.Reading.Wrong; rest = tokens })) ≡ Ok (found, rest) → Wrote w n limit Is found tokens rest
    by_begins true found tokens rest e = absurd (err_isnt _ _ e)
    by_begins false found tokens rest e = absurd (err_isnt _ _ e)

-- ---- a phrase that counts as one deeper

pub law_counted : {A : Type 0} {w : A → List Mark} {n : A → ℕ} {limit : ℕ} {first more : List Lexeme} {empty : Bool} {Is : A → Type 0} {read : Parser A} → Law w n limit first more empty Is read → Law w (λ (x : A). suc (n x)) (suc limit) first more empty Is read
law_counted law = record {
  begins_by = λ found tokens rest is fits meets. law.begins_by found tokens rest is (omega arith) meets;
  reads = λ found tokens rest is fits meets ends. law.reads found tokens rest is (omega arith) meets ends;
  wrote = λ found tokens rest e. (let one = law.wrote found tokens rest e in let fits = one.fits in record {
    is = one.is;
    fits = omega arith;
    meets = one.meets;
  });
  steady = law.steady;
  some = law.some;
  opens = law.opens;
  places = λ found tokens rest is fits h. (let below = fits in let p = law.places found tokens rest is (omega arith) h in let inside = p.fits in record { tree = p.tree; is = p.is; fits = omega arith; meets = p.meets; same = p.same });
}
