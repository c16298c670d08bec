-- The law of single tokens, of a token in front of a phrase and of one behind it.
use Rattle.std.proofs.Common.{◌≡◌, ℕ, Bool, true, false, ◌||◌, List, [], ◌∷◌, length, Option, Some, None, Result, Ok, Err, refl, ap, ap₂, ◌∙◌, zero-le, arith, if◌then◌else◌}
use Rattle.dbpl_base.specs.declared.lexeme.Lexeme.{Lexeme}
use Rattle.dbpl_base.specs.declared.lexeme.Lexeme.TheVariants.{Finish}
use Rattle.dbpl_base.specs.declared.place.Place.{Place}
use Rattle.dbpl_base.specs.declared.token.Token.{Token}
use Rattle.dbpl_tree.specs.Marks.{Mark, Of, Before, Meets}
use Rattle.dbpl_grammar.specs.Reading.{Parser, Refused, ◌>>=◌, after, among, by_table, expect, found_or, here, leaf, like, wrong}
use Rattle.dbpl_grammar.proofs.PlacedLaw.{places_after, places_here, places_leaf}
use Rattle.dbpl_grammar.proofs.OpenLaw.{complete_after, err, ok, opens_after, opens_here, opens_leaf, some_here, some_leaf}
use Rattle.dbpl_grammar.proofs.Law.{BeginsBy, Law, Wrote, by_nothing, by_token}
use Rattle.dbpl_grammar.proofs.MeetsLaw.{meets_join, meets_shorter}
use Rattle.dbpl_grammar.proofs.Sets.{fixed_is, is_fixed, is_word, like_self, word_fixed, word_no_end}
use Rattle.dbpl_grammar.proofs.SteadyLaw.{steady_after, steady_here, steady_leaf}

-- each tree
abbrev pub Any : {A : Type 0} → A → Type 0
Any found = Unit {0}

pub ok_is : {A : Type 0} (one other : A) → ok one ≡ ok other → one ≡ other
ok_is {A = A} one other e = ap (λ (r : Result A Refused). or_one r) e
  where
    or_one : Result A Refused → A
    or_one (Ok found) = found
    or_one (Err refused) = one

pub err_isnt : {A : Type 0} (refused : Refused) (found : A) → err refused ≡ ok found → ⊥
err_isnt refused found e = let same : err refused ≡ ok found = e in cc

-- a reading in two steps found something: both did
pub both_ok : {A B : Type 0} (answer : Result A Refused) (next : A → Result B Refused) (found : B) → answer >>= next ≡ Ok found → (middle : A) × (answer ≡ Ok middle) × (next middle ≡ Ok found)
both_ok (Ok middle) next found e = (middle, refl, e)
both_ok (Err refused) next found e = absurd (err_isnt refused found e)

-- ---- the place of the next token

here_begins : (limit : ℕ) (found : Place) (tokens rest : List Token) → Meets tokens (Before found ∷ []) rest → BeginsBy [] true tokens rest
here_begins limit found [] rest h = absurd h
here_begins limit found (token ∷ tokens) rest h = by_nothing refl h.1

here_reads : (found : Place) (tokens rest : List Token) → Meets tokens (Before found ∷ []) rest → here tokens ≡ Ok (found, rest)
here_reads found [] rest h = absurd h
here_reads found (token ∷ tokens) rest h = ap₂ (λ (p : Place) (r : List Token). Ok (p, r)) h.0 h.1

here_wrote : (limit : ℕ) (found : Place) (tokens rest : List Token) → here tokens ≡ Ok (found, rest) → Wrote (λ (p : Place). Before p ∷ []) (λ (p : Place). 0) limit (λ (p : Place). Any p) found tokens rest
here_wrote limit found [] rest e = absurd (err_isnt _ _ e)
here_wrote limit found (token ∷ tokens) rest e =
    let same = ok_is (token.place, token ∷ tokens) (found, rest) e in
    record { is = tt; fits = zero-le; meets = (ap (λ (s : Place × List Token). s.0) same, ap (λ (s : Place × List Token). s.1) same) }

pub law_here : (limit : ℕ) → Law (λ (p : Place). Before p ∷ []) (λ (p : Place). 0) limit [] [] true (λ (p : Place). Any p) here
law_here limit = record {
  begins_by = λ found tokens rest is fits meets. here_begins limit found tokens rest meets;
  reads = λ found tokens rest is fits meets ends. here_reads found tokens rest meets;
  wrote = λ found tokens rest e. here_wrote limit found tokens rest e;
  steady = steady_here;
  some = some_here;
  opens = opens_here;
  places = places_here limit;
}

-- ---- a token that stands for a part of the tree

leaf_begins : {A : Type 0} (lexeme_of : A → Lexeme) (first : List Lexeme) → ((x : A) → among first (lexeme_of x) ≡ true) → (found : A) (tokens rest : List Token) → Meets tokens (Of (lexeme_of found) ∷ []) rest → BeginsBy first false tokens rest
leaf_begins lexeme_of first h found [] rest m = absurd m
leaf_begins lexeme_of first h found (token ∷ tokens) rest m =
    by_token token tokens refl (ap (among first) m.0 ∙ h found) (let same : length tokens ≡ length rest = ap (λ (t : List Token). length t) m.1 in omega arith)

leaf_reads : {A : Type 0} (meaning : Lexeme → Option A) (lexeme_of : A → Lexeme) → ((x : A) → meaning (lexeme_of x) ≡ Some x) → (found : A) (tokens rest : List Token) → Meets tokens (Of (lexeme_of found) ∷ []) rest → leaf meaning tokens ≡ Ok (found, rest)
leaf_reads meaning lexeme_of h found [] rest m = absurd m
leaf_reads {A = A} meaning lexeme_of h found (token ∷ tokens) rest m =
    ap (λ (means : Option A). found_or means (token ∷ tokens) tokens) (ap meaning m.0 ∙ h found) ∙ ap (λ (r : List Token). Ok (found, r)) m.1

leaf_wrote : {A : Type 0} (meaning : Lexeme → Option A) (lexeme_of : A → Lexeme) (limit : ℕ) → ((l : Lexeme) (x : A) → meaning l ≡ Some x → l ≡ lexeme_of x) → (found : A) (tokens rest : List Token) → leaf meaning tokens ≡ Ok (found, rest) → Wrote (λ (x : A). Of (lexeme_of x) ∷ []) (λ (x : A). 0) limit (λ (x : A). Any x) found tokens rest
leaf_wrote meaning lexeme_of limit h found [] rest e = absurd (err_isnt _ _ e)
leaf_wrote {A = A} meaning lexeme_of limit h found (token ∷ tokens) rest e = by_meaning (meaning token.lexeme) refl e
  where
    by_meaning : (means : Option A) → meaning token.lexeme ≡ means → found_or means (token ∷ tokens) tokens ≡ Ok (found, rest) → Wrote (λ (x : A). Of (lexeme_of x) ∷ []) (λ (x : A). 0) limit (λ (x : A). Any x) found (token ∷ tokens) rest
    by_meaning None is e = absurd (err_isnt _ _ e)
    by_meaning (Some x) is e =
        let same = ok_is (x, tokens) (found, rest) e in
        record {
          is = tt;
          fits = zero-le;
          meets = (h token.lexeme x is ∙ ap (λ (s : A × List Token). lexeme_of s.0) same, ap (λ (s : A × List Token). s.1) same);
        }

pub law_leaf : {A : Type 0} (limit : ℕ) (meaning : Lexeme → Option A) (lexeme_of : A → Lexeme) (first : List Lexeme) (one : A) → meaning Finish ≡ None → ((x : A) → meaning (lexeme_of x) ≡ Some x) → ((l : Lexeme) (x : A) → meaning l ≡ Some x → l ≡ lexeme_of x) → ((x : A) → among first (lexeme_of x) ≡ true) → Law (λ (x : A). Of (lexeme_of x) ∷ []) (λ (x : A). 0) limit first [] false (λ (x : A). Any x) (leaf meaning)
law_leaf limit meaning lexeme_of first one not_end means says begun = record {
  begins_by = λ found tokens rest is fits meets. leaf_begins lexeme_of first begun found tokens rest meets;
  reads = λ found tokens rest is fits meets ends. leaf_reads meaning lexeme_of means found tokens rest meets;
  wrote = λ found tokens rest e. leaf_wrote meaning lexeme_of limit says found tokens rest e;
  steady = steady_leaf meaning not_end;
  some = some_leaf lexeme_of one;
  opens = opens_leaf meaning lexeme_of one;
  places = places_leaf lexeme_of limit;
}

-- a table of words and signs says what it means
pub table_says : {A : Type 0} (lexeme_of : A → Lexeme) (table : List A) (l : Lexeme) (x : A) → ((y : A) → is_fixed (lexeme_of y) ≡ true) → by_table lexeme_of table l ≡ Some x → l ≡ lexeme_of x
table_says {A = A} lexeme_of [] l x fixed e = absurd (let none : None ≡ Some x = e in cc)
table_says {A = A} lexeme_of (one ∷ others) l x fixed e =
    by_like (like (lexeme_of one) l) refl e (λ k. table_says lexeme_of others l x fixed k)
  where
    by_like : (b : Bool) → like (lexeme_of one) l ≡ b → (if b then Some one else by_table lexeme_of others l) ≡ Some x → (by_table lexeme_of others l ≡ Some x → l ≡ lexeme_of x) → l ≡ lexeme_of x
    by_like true is e later =
        fixed_is (lexeme_of one) l (fixed one) is ∙ ap (λ (o : Option A). lexeme_of (or_one o)) e
      where
        or_one : Option A → A
        or_one (Some y) = y
        or_one None = one
    by_like false is e later = later e

-- ---- a word or a sign in front

pub expect_reads : (lexeme : Lexeme) (token : Token) (tokens : List Token) → token.lexeme ≡ lexeme → expect lexeme (token ∷ tokens) ≡ Ok tokens
expect_reads lexeme token tokens e =
    ap (λ (b : Bool). if b then Ok tokens else err (wrong (token ∷ tokens))) (ap (like lexeme) e ∙ like_self lexeme)

-- what was expected stood there
pub expect_ok : (lexeme : Lexeme) (tokens rest : List Token) → is_fixed lexeme ≡ true → expect lexeme tokens ≡ Ok rest → Meets tokens (Of lexeme ∷ []) rest
expect_ok lexeme [] rest fixed e = absurd (err_isnt _ _ e)
expect_ok lexeme (token ∷ tokens) rest fixed e = by_like (like lexeme token.lexeme) refl e
  where
    by_like : (b : Bool) → like lexeme token.lexeme ≡ b → (if b then Ok tokens else err (wrong (token ∷ tokens))) ≡ Ok rest → Meets (token ∷ tokens) (Of lexeme ∷ []) rest
    by_like true is e = (fixed_is lexeme token.lexeme fixed is, ok_is tokens rest e)
    by_like false is e = absurd (err_isnt _ _ e)

after_begins : {A : Type 0} (lexeme : Lexeme) (marks : A → List Mark) (found : A) (tokens rest : List Token) → Meets tokens (Of lexeme ∷ marks found) rest → BeginsBy (lexeme ∷ []) false tokens rest
after_begins lexeme marks found [] rest m = absurd m
after_begins lexeme marks found (token ∷ tokens) rest m =
    by_token token tokens refl (ap (among (lexeme ∷ [])) m.0 ∙ ap (λ (b : Bool). b || false) (like_self lexeme)) (meets_shorter (marks found) tokens rest m.1)

after_reads : {A : Type 0} (lexeme : Lexeme) (marks : A → List Mark) (read : Parser A) (found : A) (tokens rest : List Token) → Meets tokens (Of lexeme ∷ marks found) rest → ((tokens : List Token) → Meets tokens (marks found) rest → read tokens ≡ Ok (found, rest)) → after lexeme read tokens ≡ Ok (found, rest)
after_reads lexeme marks read found [] rest m h = absurd m
after_reads lexeme marks read found (token ∷ tokens) rest m h = rw (expect_reads lexeme token tokens m.0) (h tokens m.1)

-- one mark and those behind it
meets_one : (lexeme : Lexeme) (marks : List Mark) (tokens middle rest : List Token) → Meets tokens (Of lexeme ∷ []) middle → Meets middle marks rest → Meets tokens (Of lexeme ∷ marks) rest
meets_one lexeme marks tokens middle rest h k = meets_join (Of lexeme ∷ []) marks tokens middle rest h k

after_wrote : {A : Type 0} {w : A → List Mark} {n : A → ℕ} {limit : ℕ} {first more : List Lexeme} {empty : Bool} {Is : A → Type 0} {read : Parser A} (lexeme : Lexeme) → is_fixed lexeme ≡ true → Law w n limit first more empty Is read → (found : A) (tokens rest : List Token) → after lexeme read tokens ≡ Ok (found, rest) → Wrote (λ (x : A). Of lexeme ∷ w x) n limit Is found tokens rest
after_wrote {w = w} {read = read} lexeme fixed law found tokens rest e =
    let both = both_ok (expect lexeme tokens) (λ middle. read middle) (found, rest) e in
    let inner = law.wrote found both.0 rest both.2 in
    record {
      is = inner.is;
      fits = inner.fits;
      meets = meets_one lexeme (w found) tokens both.0 rest (expect_ok lexeme tokens both.0 fixed both.1) inner.meets;
    }

pub law_after : {A : Type 0} {w : A → List Mark} {n : A → ℕ} {limit : ℕ} {first more : List Lexeme} {empty : Bool} {Is : A → Type 0} {read : Parser A} (lexeme : Lexeme) → is_word lexeme ≡ true → Law w n limit first more empty Is read → Law (λ (x : A). Of lexeme ∷ w x) n limit (lexeme ∷ []) more false Is (after lexeme read)
law_after {w = w} {n = n} {limit = limit} {Is = Is} {read = read} lexeme fixed law = record {
  begins_by = λ found tokens rest is fits meets. after_begins lexeme w found tokens rest meets;
  reads = λ found tokens rest is fits meets ends. after_reads lexeme w read found tokens rest meets (λ middle m. law.reads found middle rest is fits m ends);
  wrote = λ found tokens rest e. after_wrote lexeme (word_fixed lexeme fixed) law found tokens rest e;
  steady = steady_after lexeme read (word_no_end lexeme fixed) law.steady;
  some = λ place. complete_after w Is lexeme place (law.some place);
  opens = opens_after w Is lexeme read (λ other is. fixed_is lexeme other (word_fixed lexeme fixed) is) law.some law.opens;
  places = places_after w n limit Is lexeme law.places;
}
