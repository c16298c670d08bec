-- The law of two phrases one behind the other, of a word or sign behind a phrase, and of a tree made of what was read.
use Rattle.std.proofs.Common.{◌≡◌, ℕ, ◌≤◌, max, Bool, true, false, not, ◌&&◌, ◌||◌, List, [], ◌∷◌, ◌++◌, length, Ok, refl, sym, ap, ◌∙◌, subst, le_trans, true≢false}
use Rattle.std.proofs.lemmas.Bool.{and_parts}
use Rattle.dbpl_base.specs.declared.lexeme.Lexeme.{Lexeme}
use Rattle.dbpl_base.specs.declared.token.Token.{Token}
use Rattle.dbpl_tree.specs.Marks.{Mark, Meets, Of, lexemes_in}
use Rattle.dbpl_grammar.specs.Reading.{Parser, ◌>>=◌, ◌<$>◌, ◌⊗◌, ◌⊗>◌, among, begins, closed, expect}
use Rattle.dbpl_grammar.proofs.PlacedLaw.{places_closed, places_made, places_then}
use Rattle.dbpl_grammar.proofs.OpenLaw.{complete_made, complete_then, opens_closed, opens_made, opens_then, some_closed}
use Rattle.dbpl_grammar.proofs.Law.{BeginsBy, Ends, Law, Wrote, by_nothing, by_token}
use Rattle.dbpl_grammar.proofs.MeetsLaw.{meets_join, meets_shorter, meets_split}
use Rattle.dbpl_grammar.proofs.Numbers.{max_both, max_left, max_right}
use Rattle.dbpl_grammar.proofs.Sets.{among_append, apart, apart_so, is_word, like_self, word_fixed, word_no_end, outside_so, within}
use Rattle.dbpl_grammar.proofs.SteadyLaw.{steady_closed, steady_map, steady_then}
use Rattle.dbpl_grammar.proofs.TokenLaw.{both_ok, expect_ok, expect_reads, ok_is}

-- ---- what may stand behind

pub ends_less : (more wider : List Lexeme) (rest : List Token) → within more wider ≡ true → Ends wider rest → Ends more rest
ends_less more wider [] h e = refl
ends_less more wider (token ∷ rest) h e = outside_so more wider token.lexeme h e

-- a phrase that goes on with `more` ends before one that begins with `first`; where that one may be empty, what ends it
-- ends the phrase too
abbrev pub may_follow : List Lexeme → List Lexeme → Bool → List Lexeme → Bool
may_follow more first empty wider = apart first more && (not empty || within more wider)

pub ends_before : (more first wider : List Lexeme) (empty : Bool) (tokens rest : List Token) → may_follow more first empty wider ≡ true → BeginsBy first empty tokens rest → Ends wider rest → Ends more tokens
ends_before more first wider empty tokens rest h (by_token token behind split is shorter) e =
    let parts = and_parts (apart first more) (not empty || within more wider) h in
    ap (begins more) split ∙ apart_so first more token.lexeme parts.0 is
ends_before more first wider true tokens rest h (by_nothing none split) e =
    let parts = and_parts (apart first more) (within more wider) h in
    ap (begins more) split ∙ ends_less more wider rest parts.1 e
ends_before more first wider false tokens rest h (by_nothing none split) e = absurd (true≢false (sym none))

-- ---- how two phrases begin

-- the lexemes with which the two may begin
abbrev pub first_of : Bool → List Lexeme → List Lexeme → List Lexeme
first_of true first second = first ++ second
first_of false first second = first

first_left : (empty : Bool) (first second : List Lexeme) (lexeme : Lexeme) → among first lexeme ≡ true → among (first_of empty first second) lexeme ≡ true
first_left true first second lexeme h = among_append first second lexeme ∙ ap (λ (b : Bool). b || among second lexeme) h
first_left false first second lexeme h = h

or_right : (a b : Bool) → b ≡ true → (a || b) ≡ true
or_right true b h = refl
or_right false b h = h

first_right : (empty : Bool) (first second : List Lexeme) (lexeme : Lexeme) → empty ≡ true → among second lexeme ≡ true → among (first_of empty first second) lexeme ≡ true
first_right true first second lexeme e h = among_append first second lexeme ∙ or_right (among first lexeme) (among second lexeme) h
first_right false first second lexeme e h = absurd (true≢false (sym e))

both_true : (a b : Bool) → a ≡ true → b ≡ true → (a && b) ≡ true
both_true true b e h = h
both_true false b e h = absurd (true≢false (sym e))

join_begins : (first second : List Lexeme) (empty none : Bool) (tokens middle rest : List Token) → BeginsBy first empty tokens middle → BeginsBy second none middle rest → length rest ≤ length middle → BeginsBy (first_of empty first second) (empty && none) tokens rest
join_begins first second empty none tokens middle rest (by_token token behind split is shorter) b le =
    by_token token behind split (first_left empty first second token.lexeme is) (le_trans le shorter)
join_begins first second empty none tokens middle rest (by_nothing e split) (by_token token behind again is shorter) le =
    by_token token behind (split ∙ again) (first_right empty first second token.lexeme e is) shorter
join_begins first second empty none tokens middle rest (by_nothing e split) (by_nothing f again) le =
    by_nothing (both_true empty none e f) (split ∙ again)

-- ---- two phrases

module _ {A B : Type 0} {w : A → List Mark} {n : A → ℕ} {limit : ℕ} {first more : List Lexeme} {empty : Bool} {Is : A → Type 0} {read : Parser A} {w' : B → List Mark} {n' : B → ℕ} {second wider : List Lexeme} {none : Bool} {Is' : A → B → Type 0} {next : A → Parser B} (law : Law w n limit first more empty Is read) (later : (found : A) → Is found → Law w' n' limit second wider none (Is' found) (next found)) (follows : may_follow more second none wider ≡ true) (keeps : (x x' : A) (y : B) → lexemes_in (w x') ≡ lexemes_in (w x) → Is' x y → Is' x' y) where
  then_begins : (found : A × B) (tokens rest : List Token) → Is found.0 × Is' found.0 found.1 → max (n found.0) (n' found.1) ≤ limit → Meets tokens (w found.0 ++ w' found.1) rest → BeginsBy (first_of empty first second) (empty && none) tokens rest
  then_begins found tokens rest is fits meets =
      let parts = meets_split (w found.0) (w' found.1) tokens rest meets in
      let one = law.begins_by found.0 tokens parts.0 is.0 (max_left (n found.0) (n' found.1) limit fits) parts.1 in
      let two = (later found.0 is.0).begins_by found.1 parts.0 rest is.1 (max_right (n found.0) (n' found.1) limit fits) parts.2 in
      join_begins first second empty none tokens parts.0 rest one two (meets_shorter (w' found.1) parts.0 rest parts.2)

  then_reads : (found : A × B) (tokens rest : List Token) → Is found.0 × Is' found.0 found.1 → max (n found.0) (n' found.1) ≤ limit → Meets tokens (w found.0 ++ w' found.1) rest → Ends wider rest → (read ⊗> next) tokens ≡ Ok (found, rest)
  then_reads found tokens rest is fits meets ends =
      let parts = meets_split (w found.0) (w' found.1) tokens rest meets in
      let begun = (later found.0 is.0).begins_by found.1 parts.0 rest is.1 (max_right (n found.0) (n' found.1) limit fits) parts.2 in
      let one = law.reads found.0 tokens parts.0 is.0 (max_left (n found.0) (n' found.1) limit fits) parts.1 (ends_before more second wider none parts.0 rest follows begun ends) in
      let two = (later found.0 is.0).reads found.1 parts.0 rest is.1 (max_right (n found.0) (n' found.1) limit fits) parts.2 ends in
      rw (one, two) refl

  then_wrote : (found : A × B) (tokens rest : List Token) → (read ⊗> next) tokens ≡ Ok (found, rest) → Wrote (λ (x : A × B). w x.0 ++ w' x.1) (λ (x : A × B). max (n x.0) (n' x.1)) limit (λ (x : A × B). Is x.0 × Is' x.0 x.1) found tokens rest
  then_wrote found tokens rest e =
      let one = both_ok (read tokens) (λ x. next x.0 x.1 >>= λ y. Ok ((x.0, y.0), y.1)) (found, rest) e in
      let two = both_ok (next one.0.0 one.0.1) (λ y. Ok ((one.0.0, y.0), y.1)) (found, rest) one.2 in
      let front = law.wrote one.0.0 tokens one.0.1 one.1 in
      let back = (later one.0.0 front.is).wrote two.0.0 one.0.1 two.0.1 two.1 in
      let same = ok_is ((one.0.0, two.0.0), two.0.1) (found, rest) two.2 in
      subst (λ (s : (A × B) × List Token). Wrote (λ (x : A × B). w x.0 ++ w' x.1) (λ (x : A × B). max (n x.0) (n' x.1)) limit (λ (x : A × B). Is x.0 × Is' x.0 x.1) s.0 tokens s.1) {x = ((one.0.0, two.0.0), two.0.1)} same (record {
        is = (front.is, back.is);
        fits = max_both (n one.0.0) (n' two.0.0) limit front.fits back.fits;
        meets = meets_join (w one.0.0) (w' two.0.0) tokens one.0.1 two.0.1 front.meets back.meets;
      })

  pub law_then : Law (λ (x : A × B). w x.0 ++ w' x.1) (λ (x : A × B). max (n x.0) (n' x.1)) limit (first_of empty first second) wider (empty && none) (λ (x : A × B). Is x.0 × Is' x.0 x.1) (read ⊗> next)
  law_then = record {
    begins_by = then_begins;
    reads = then_reads;
    wrote = then_wrote;
    steady = steady_then read next law.steady (λ found before rest e. (later found (law.wrote found before rest e).is).steady rest);
    some = λ place. complete_then w Is w' Is' place [] (law.some place) ((later (law.some place).tree (law.some place).is).some place);
    opens = opens_then w Is w' Is' read next law.opens (λ x tokens rest e. ((law.wrote x tokens rest e).is, (law.wrote x tokens rest e).meets)) (λ x is. record { some = (later x is).some; opens = (later x is).opens; steady = (later x is).steady });
    places = places_then w n Is w' n' Is' limit law.places (λ x is. (later x is).places) keeps;
  }

pub law_seq : {A B : Type 0} {w : A → List Mark} {n : A → ℕ} {limit : ℕ} {first more : List Lexeme} {empty : Bool} {Is : A → Type 0} {read : Parser A} {w' : B → List Mark} {n' : B → ℕ} {second wider : List Lexeme} {none : Bool} {Is' : B → Type 0} {next : Parser B} → Law w n limit first more empty Is read → Law w' n' limit second wider none Is' next → may_follow more second none wider ≡ true → Law (λ (x : A × B). w x.0 ++ w' x.1) (λ (x : A × B). max (n x.0) (n' x.1)) limit (first_of empty first second) wider (empty && none) (λ (x : A × B). Is x.0 × Is' x.1) (read ⊗ next)
law_seq law later follows = law_then law (λ found is. later) follows (λ x x' y same is. is)

-- ---- a word or sign behind

pub token_begins : (lexeme : Lexeme) (tokens rest : List Token) → Meets tokens (Of lexeme ∷ []) rest → BeginsBy (lexeme ∷ []) false tokens rest
token_begins lexeme [] rest m = absurd m
token_begins lexeme (token ∷ tokens) rest m =
    by_token token tokens refl (ap (among (lexeme ∷ [])) m.0 ∙ ap (λ (b : Bool). b || false) (like_self lexeme)) (meets_shorter [] tokens rest m.1)

pub expect_meets : (lexeme : Lexeme) (tokens rest : List Token) → Meets tokens (Of lexeme ∷ []) rest → expect lexeme tokens ≡ Ok rest
expect_meets lexeme [] rest m = absurd m
expect_meets lexeme (token ∷ tokens) rest m = expect_reads lexeme token tokens m.0 ∙ ap (λ (t : List Token). Ok t) m.1

module _ {A : Type 0} {w : A → List Mark} {n : A → ℕ} {limit : ℕ} {first more : List Lexeme} {empty : Bool} {Is : A → Type 0} {read : Parser A} (lexeme : Lexeme) (fixed : is_word lexeme ≡ true) (ends : apart (lexeme ∷ []) more ≡ true) (law : Law w n limit first more empty Is read) where
  closed_begins : (found : A) (tokens rest : List Token) → Is found → n found ≤ limit → Meets tokens (w found ++ Of lexeme ∷ []) rest → BeginsBy (first_of empty first (lexeme ∷ [])) (empty && false) tokens rest
  closed_begins found tokens rest is fits meets =
      let parts = meets_split (w found) (Of lexeme ∷ []) tokens rest meets in
      let one = law.begins_by found tokens parts.0 is fits parts.1 in
      join_begins first (lexeme ∷ []) empty false tokens parts.0 rest one (token_begins lexeme parts.0 rest parts.2) (meets_shorter (Of lexeme ∷ []) parts.0 rest parts.2)

  closed_reads : (found : A) (tokens rest : List Token) → Is found → n found ≤ limit → Meets tokens (w found ++ Of lexeme ∷ []) rest → closed read lexeme tokens ≡ Ok (found, rest)
  closed_reads found tokens rest is fits meets =
      let parts = meets_split (w found) (Of lexeme ∷ []) tokens rest meets in
      let stops = ends_before more (lexeme ∷ []) [] false parts.0 rest (both_true (apart (lexeme ∷ []) more) true ends refl) (token_begins lexeme parts.0 rest parts.2) (none_begins rest) in
      let one = law.reads found tokens parts.0 is fits parts.1 stops in
      rw (one, expect_meets lexeme parts.0 rest parts.2) refl
    where
      none_begins : (rest : List Token) → Ends [] rest
      none_begins [] = refl
      none_begins (token ∷ rest) = refl

  closed_wrote : (found : A) (tokens rest : List Token) → closed read lexeme tokens ≡ Ok (found, rest) → Wrote (λ (x : A). w x ++ Of lexeme ∷ []) n limit Is found tokens rest
  closed_wrote found tokens rest e =
      let one = both_ok (read tokens) (λ x. expect lexeme x.1 >>= λ behind. Ok (x.0, behind)) (found, rest) e in
      let two = both_ok (expect lexeme one.0.1) (λ behind. Ok (one.0.0, behind)) (found, rest) one.2 in
      let front = law.wrote one.0.0 tokens one.0.1 one.1 in
      let same = ok_is (one.0.0, two.0) (found, rest) two.2 in
      subst (λ (s : A × List Token). Wrote (λ (x : A). w x ++ Of lexeme ∷ []) n limit Is s.0 tokens s.1) {x = (one.0.0, two.0)} same (record {
        is = front.is;
        fits = front.fits;
        meets = meets_join (w one.0.0) (Of lexeme ∷ []) tokens one.0.1 two.0 front.meets (expect_ok lexeme one.0.1 two.0 (word_fixed lexeme fixed) two.1);
      })

  pub law_closed : Law (λ (x : A). w x ++ Of lexeme ∷ []) n limit (first_of empty first (lexeme ∷ [])) [] (empty && false) Is (closed read lexeme)
  law_closed = record {
    begins_by = closed_begins;
    reads = λ found tokens rest is fits meets stops. closed_reads found tokens rest is fits meets;
    wrote = closed_wrote;
    steady = steady_closed lexeme read (word_no_end lexeme fixed) law.steady;
    some = λ place. some_closed w Is lexeme place (law.some place);
    opens = opens_closed w Is lexeme read law.opens (λ x tokens rest e. ((law.wrote x tokens rest e).is, (law.wrote x tokens rest e).meets));
    places = places_closed w n limit Is lexeme law.places;
  }

-- ---- a tree made of what was read

module _ {A B : Type 0} {w : A → List Mark} {n : A → ℕ} {limit : ℕ} {first more : List Lexeme} {empty : Bool} {Is : A → Type 0} {read : Parser A} (make : A → B) (w' : B → List Mark) (n' : B → ℕ) (Is' : B → Type 0) (law : Law w n limit first more empty Is read) (marks : (x : A) → Is x → w' (make x) ≡ w x) (depth : (x : A) → Is x → n' (make x) ≡ n x) (to : (x : A) → Is x → Is' (make x)) (back : (y : B) → Is' y → (x : A) × Is x × (make x ≡ y)) where
  made_begins : (found : B) (tokens rest : List Token) → Is' found → n' found ≤ limit → Meets tokens (w' found) rest → BeginsBy first empty tokens rest
  made_begins found tokens rest is fits meets =
      let made = back found is in
      law.begins_by made.0 tokens rest made.1 (subst (λ (k : ℕ). k ≤ limit) (sym (ap n' made.2) ∙ depth made.0 made.1) fits) (subst (λ (ms : List Mark). Meets tokens ms rest) (sym (ap w' made.2) ∙ marks made.0 made.1) meets)

  made_reads : (found : B) (tokens rest : List Token) → Is' found → n' found ≤ limit → Meets tokens (w' found) rest → Ends more rest → (make <$> read) tokens ≡ Ok (found, rest)
  made_reads found tokens rest is fits meets stops =
      let made = back found is in
      let one = law.reads made.0 tokens rest made.1 (subst (λ (k : ℕ). k ≤ limit) (sym (ap n' made.2) ∙ depth made.0 made.1) fits) (subst (λ (ms : List Mark). Meets tokens ms rest) (sym (ap w' made.2) ∙ marks made.0 made.1) meets) stops in
      rw one (ap (λ (y : B). Ok (y, rest)) made.2)

  made_wrote : (found : B) (tokens rest : List Token) → (make <$> read) tokens ≡ Ok (found, rest) → Wrote w' n' limit Is' found tokens rest
  made_wrote found tokens rest e =
      let one = both_ok (read tokens) (λ x. Ok (make x.0, x.1)) (found, rest) e in
      let front = law.wrote one.0.0 tokens one.0.1 one.1 in
      let same = ok_is (make one.0.0, one.0.1) (found, rest) one.2 in
      subst (λ (s : B × List Token). Wrote w' n' limit Is' s.0 tokens s.1) {x = (make one.0.0, one.0.1)} same (record {
        is = to one.0.0 front.is;
        fits = subst (λ (k : ℕ). k ≤ limit) (sym (depth one.0.0 front.is)) front.fits;
        meets = subst (λ (ms : List Mark). Meets tokens ms one.0.1) (sym (marks one.0.0 front.is)) front.meets;
      })

  pub law_made : Law w' n' limit first more empty Is' (make <$> read)
  law_made = record {
    begins_by = made_begins;
    reads = made_reads;
    wrote = made_wrote;
    steady = steady_map make read law.steady;
    some = λ place. complete_made w Is w' Is' make marks to place [] (law.some place);
    opens = opens_made w Is w' Is' make read marks to law.opens;
    places = places_made w n Is w' n' Is' limit make marks depth to back law.places;
  }
