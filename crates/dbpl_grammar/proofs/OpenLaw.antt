-- The tokens in front of a refusal can be completed: step by step.
use Rattle.std.proofs.Common.{◌≡◌, ℕ, zero, suc, ◌<◌, Bool, true, false, ◌⊎◌, inl, inr, List, [], ◌∷◌, ◌++◌, length, flat_map, append_assoc, append-nil, Option, Some, None, Result, Ok, Err, refl, sym, ap, ◌∙◌, subst, arith, not-suc-le-zero, if◌then◌else◌}
use Rattle.dbpl_base.specs.declared.lexeme.Lexeme.{Lexeme}
use Rattle.dbpl_base.specs.declared.place.Place.{Place}
use Rattle.dbpl_base.specs.declared.token.Token.{Token}
use Rattle.dbpl_tree.specs.Marks.{Mark, Of, Before, Meets, option_marks}
use Rattle.dbpl_grammar.specs.Reading.{Parser, Refused, ◌>>=◌, ◌<$>◌, ◌⊗>◌, after, begins, closed, either, expect, found_or, here, leaf, like, many, many_from, nothing, optional, too_deep, wrong}
use Rattle.dbpl_grammar.proofs.Law.{AllAt, AtPlace, Completed, Opens, StartsAt, Steady, left}
use Rattle.dbpl_grammar.proofs.ManyLaw.{Goes, steady_many_from}
use Rattle.dbpl_grammar.proofs.MeetsLaw.{SamePlace, meets_front, meets_join, meets_swap, no_front, same_front}

abbrev pub ok : {A : Type 0} → A → Result A Refused
ok found = Ok found

abbrev pub err : {A : Type 0} → Refused → Result A Refused
err refused = Err refused

pub ok_isnt : {A : Type 0} (found : A) (refused : Refused) → ok found ≡ err refused → ⊥
ok_isnt found refused e = let same : ok found ≡ err refused = e in cc

-- the rest of a refusal
pub err_rest : {A : Type 0} (one other : Refused) → err {A = A} one ≡ err other → one.rest ≡ other.rest
err_rest {A = A} one other e = ap (λ (r : Result A Refused). rest_of r) e
  where
    rest_of : Result A Refused → List Token
    rest_of (Ok found) = one.rest
    rest_of (Err refused) = refused.rest

-- a reading in two steps is refused: in the first, or in the second
pub both_err : {A B : Type 0} (answer : Result A Refused) (next : A → Result B Refused) (refused : Refused) → answer >>= next ≡ Err refused → ((other : Refused) × (answer ≡ Err other) × (other.rest ≡ refused.rest)) ⊎ ((middle : A) × (answer ≡ Ok middle) × (next middle ≡ Err refused))
both_err {A = A} {B = B} (Ok middle) next refused e = inr (middle, refl, e)
both_err {A = A} {B = B} (Err other) next refused e = inl (other, refl, err_rest other refused e)

-- ---- places

pub starts_append : (place : Place) (tokens rest : List Token) → AllAt place tokens → StartsAt place rest → StartsAt place (tokens ++ rest)
starts_append place [] rest all starts = starts
starts_append place (token ∷ tokens) rest all starts = all.0

all_append : (place : Place) (tokens more : List Token) → AllAt place tokens → AllAt place more → AllAt place (tokens ++ more)
all_append place [] more all others = others
all_append place (token ∷ tokens) more all others = (all.0, all_append place tokens more all.1 others)

-- where the rest is put in place of what was refused, what stands there begins at the same place
same_start : (place : Place) (front refused rest : List Token) → AtPlace place refused → StartsAt place rest → SamePlace (front ++ refused) (front ++ rest)
same_start place [] [] rest at starts = tt
same_start place [] (token ∷ refused) [] at starts = starts
same_start place [] (token ∷ refused) (first ∷ rest) at starts = starts ∙ sym at
same_start place (token ∷ front) refused rest at starts = refl

at_same : (place : Place) (one other : List Token) → one ≡ other → AtPlace place other → AtPlace place one
at_same place one other e at = subst (λ (t : List Token). AtPlace place t) (sym e) at

-- tokens that are refused as they stand
nothing_in_front : (tokens front rest : List Token) → tokens ≡ front ++ rest → rest ≡ tokens → front ≡ []
nothing_in_front tokens front rest split same = no_front front rest (sym split ∙ sym same)

-- ---- completions put together

pub complete_nothing : {A : Type 0} (w : A → List Mark) (Is : A → Type 0) (place : Place) (x : A) → Is x → w x ≡ [] → Completed w Is place []
complete_nothing w Is place x is none = record {
  tree = x;
  tokens = [];
  is = is;
  placed = tt;
  meets = λ rest starts. subst (λ (ms : List Mark). Meets rest ms rest) (sym none) refl;
}

pub complete_made : {A B : Type 0} (w : A → List Mark) (Is : A → Type 0) (w' : B → List Mark) (Is' : B → Type 0) (make : A → B) → ((x : A) → Is x → w' (make x) ≡ w x) → ((x : A) → Is x → Is' (make x)) → (place : Place) (front : List Token) → Completed w Is place front → Completed w' Is' place front
complete_made w Is w' Is' make marks to place front c = record {
  tree = make c.tree;
  tokens = c.tokens;
  is = to c.tree c.is;
  placed = c.placed;
  meets = λ rest starts. subst (λ (ms : List Mark). Meets (front ++ (c.tokens ++ rest)) ms rest) (sym (marks c.tree c.is)) (c.meets rest starts);
}

pub complete_then : {A B : Type 0} (w : A → List Mark) (Is : A → Type 0) (w' : B → List Mark) (Is' : A → B → Type 0) (place : Place) (front : List Token) (c : Completed w Is place front) → Completed w' (Is' c.tree) place [] → Completed (λ (x : A × B). w x.0 ++ w' x.1) (λ (x : A × B). Is x.0 × Is' x.0 x.1) place front
complete_then w Is w' Is' place front c d = record {
  tree = (c.tree, d.tree);
  tokens = c.tokens ++ d.tokens;
  is = (c.is, d.is);
  placed = all_append place c.tokens d.tokens c.placed d.placed;
  meets = λ rest starts.
      (let first = c.meets (d.tokens ++ rest) (starts_append place d.tokens rest d.placed starts) in
      subst (λ (t : List Token). Meets (front ++ t) (w c.tree ++ w' d.tree) rest) (sym (append_assoc c.tokens d.tokens rest)) (meets_join (w c.tree) (w' d.tree) (front ++ (c.tokens ++ (d.tokens ++ rest))) (d.tokens ++ rest) rest first (d.meets rest starts)));
}

-- what was spelled in front, and a completion behind it
pub complete_behind : {A B : Type 0} (w : A → List Mark) (Is : A → Type 0) (w' : B → List Mark) (Is' : A → B → Type 0) (place : Place) (tokens middle refused front back : List Token) (x : A) → Is x → Meets tokens (w x) middle → middle ≡ back ++ refused → tokens ≡ front ++ refused → AtPlace place refused → Completed w' (Is' x) place back → Completed (λ (y : A × B). w y.0 ++ w' y.1) (λ (y : A × B). Is y.0 × Is' y.0 y.1) place front
complete_behind w Is w' Is' place tokens middle refused front back x is meets split whole at d =
    let ahead = meets_front (w x) tokens middle meets in
    let all : tokens ≡ ahead.0 ++ (back ++ refused) = ahead.1 ∙ ap (λ (t : List Token). ahead.0 ++ t) split in
    let fronts : front ≡ ahead.0 ++ back = same_front front (ahead.0 ++ back) refused (sym whole ∙ all ∙ sym (append_assoc ahead.0 back refused)) in
    let spelled : Meets (ahead.0 ++ (back ++ refused)) (w x) (back ++ refused) = subst (λ (t : List Token). Meets t (w x) (back ++ refused)) all (subst (λ (m : List Token). Meets tokens (w x) m) split meets) in
    record {
      tree = (x, d.tree);
      tokens = d.tokens;
      is = (is, d.is);
      placed = d.placed;
      meets = λ rest starts.
          (let first = meets_swap (w x) ahead.0 (back ++ refused) (back ++ (d.tokens ++ rest)) (same_start place back refused (d.tokens ++ rest) at (starts_append place d.tokens rest d.placed starts)) spelled in
          subst (λ (t : List Token). Meets t (w x ++ w' d.tree) rest) (sym (ap (λ (f : List Token). f ++ (d.tokens ++ rest)) fronts ∙ append_assoc ahead.0 back (d.tokens ++ rest))) (meets_join (w x) (w' d.tree) (ahead.0 ++ (back ++ (d.tokens ++ rest))) (back ++ (d.tokens ++ rest)) rest first (d.meets rest starts)));
    }

-- a word or sign at this place
abbrev pub token_at : Place → Lexeme → Token
token_at place lexeme = record { lexeme = lexeme; place = place }

pub complete_token : (place : Place) (lexeme : Lexeme) → Completed (λ (u : Unit {0}). Of lexeme ∷ []) (λ (u : Unit {0}). Unit {0}) place []
complete_token place lexeme = record {
  tree = tt;
  tokens = token_at place lexeme ∷ [];
  is = tt;
  placed = (refl, tt);
  meets = λ rest starts. (refl, refl);
}

pub complete_after : {A : Type 0} (w : A → List Mark) (Is : A → Type 0) (lexeme : Lexeme) (place : Place) → Completed w Is place [] → Completed (λ (x : A). Of lexeme ∷ w x) Is place []
complete_after w Is lexeme place c = record {
  tree = c.tree;
  tokens = token_at place lexeme ∷ c.tokens;
  is = c.is;
  placed = (refl, c.placed);
  meets = λ rest starts. (refl, c.meets rest starts);
}

-- ---- the steps

-- for a front that is empty
at_front : {A : Type 0} (w : A → List Mark) (Is : A → Type 0) (place : Place) (front : List Token) → front ≡ [] → Completed w Is place [] → Completed w Is place front
at_front w Is place front e c = subst (λ (f : List Token). Completed w Is place f) (sym e) c

pub some_here : (place : Place) → Completed (λ (p : Place). Before p ∷ []) (λ (p : Place). Unit {0}) place []
some_here place = record {
  tree = place;
  tokens = [];
  is = tt;
  placed = tt;
  meets = λ rest starts. by_rest rest starts;
}
  where
    by_rest : (rest : List Token) → StartsAt place rest → Meets rest (Before place ∷ []) rest
    by_rest [] starts = starts
    by_rest (token ∷ rest) starts = (starts, refl)

pub opens_here : Opens (λ (p : Place). Before p ∷ []) (λ (p : Place). Unit {0}) here
opens_here [] front refused place e split at =
    at_front (λ (p : Place). Before p ∷ []) (λ (p : Place). Unit {0}) place front (nothing_in_front [] front refused.rest split (sym (err_rest (wrong []) refused e))) (some_here place)
opens_here (token ∷ tokens) front refused place e split at = absurd (ok_isnt (token.place, token ∷ tokens) refused e)

pub some_leaf : {A : Type 0} (lexeme_of : A → Lexeme) (x : A) (place : Place) → Completed (λ (y : A). Of (lexeme_of y) ∷ []) (λ (y : A). Unit {0}) place []
some_leaf lexeme_of x place = record {
  tree = x;
  tokens = token_at place (lexeme_of x) ∷ [];
  is = tt;
  placed = (refl, tt);
  meets = λ rest starts. (refl, refl);
}

-- a token that means nothing is refused as it stands
leaf_refuses : {A : Type 0} (meaning : Lexeme → Option A) (tokens : List Token) (refused : Refused) → leaf meaning tokens ≡ Err refused → refused.rest ≡ tokens
leaf_refuses {A = A} meaning [] refused e = sym (err_rest (wrong []) refused e)
leaf_refuses {A = A} meaning (token ∷ tokens) refused e = by_meaning (meaning token.lexeme) e
  where
    by_meaning : (means : Option A) → found_or means (token ∷ tokens) tokens ≡ Err refused → refused.rest ≡ token ∷ tokens
    by_meaning None e = sym (err_rest (wrong (token ∷ tokens)) refused e)
    by_meaning (Some x) e = absurd (ok_isnt (x, tokens) refused e)

pub opens_leaf : {A : Type 0} (meaning : Lexeme → Option A) (lexeme_of : A → Lexeme) (x : A) → Opens (λ (y : A). Of (lexeme_of y) ∷ []) (λ (y : A). Unit {0}) (leaf meaning)
opens_leaf {A = A} meaning lexeme_of x tokens front refused place e split at =
    at_front (λ (y : A). Of (lexeme_of y) ∷ []) (λ (y : A). Unit {0}) place front (nothing_in_front tokens front refused.rest split (leaf_refuses meaning tokens refused e)) (some_leaf lexeme_of x place)

-- what wasn't expected is refused as it stands
expect_refuses : (lexeme : Lexeme) (tokens : List Token) (refused : Refused) → expect lexeme tokens ≡ Err refused → refused.rest ≡ tokens
expect_refuses lexeme [] refused e = sym (err_rest (wrong []) refused e)
expect_refuses lexeme (token ∷ tokens) refused e = by_like (like lexeme token.lexeme) e
  where
    by_like : (b : Bool) → (if b then Ok tokens else err {A = List Token} (wrong (token ∷ tokens))) ≡ Err refused → refused.rest ≡ token ∷ tokens
    by_like true e = absurd (ok_isnt tokens refused e)
    by_like false e = sym (err_rest (wrong (token ∷ tokens)) refused e)

pub opens_made : {A B : Type 0} (w : A → List Mark) (Is : A → Type 0) (w' : B → List Mark) (Is' : B → Type 0) (make : A → B) (read : Parser A) → ((x : A) → Is x → w' (make x) ≡ w x) → ((x : A) → Is x → Is' (make x)) → Opens w Is read → Opens w' Is' (make <$> read)
opens_made {A = A} {B = B} w Is w' Is' make read marks to opens tokens front refused place e split at =
    by_step (both_err (read tokens) (λ x. Ok (make x.0, x.1)) refused e)
  where
    by_step : ((other : Refused) × (read tokens ≡ Err other) × (other.rest ≡ refused.rest)) ⊎ ((middle : A × List Token) × (read tokens ≡ Ok middle) × (ok {A = B × List Token} (make middle.0, middle.1) ≡ Err refused)) → Completed w' Is' place front
    by_step (inl one) =
        complete_made w Is w' Is' make marks to place front (opens tokens front one.0 place one.1 (split ∙ ap (λ (t : List Token). front ++ t) (sym one.2)) (at_same place one.0.rest refused.rest one.2 at))
    by_step (inr two) = absurd (ok_isnt (make two.0.0, two.0.1) refused two.2)

pub opens_either : {A : Type 0} (w : A → List Mark) (Is Is' : A → Type 0) (set : List Lexeme) (read other : Parser A) → Opens w Is read → Opens w Is' other → Opens w (λ (x : A). Is x ⊎ Is' x) (either set read other)
opens_either {A = A} w Is Is' set read other opens opens' tokens front refused place e split at =
    by_begins (begins set tokens) e
  where
    by_begins : (b : Bool) → (if b then read tokens else other tokens) ≡ Err refused → Completed w (λ (x : A). Is x ⊎ Is' x) place front
    by_begins true e =
        complete_made w Is w (λ (x : A). Is x ⊎ Is' x) (λ (x : A). x) (λ x is. refl) (λ x is. inl is) place front (opens tokens front refused place e split at)
    by_begins false e =
        complete_made w Is' w (λ (x : A). Is x ⊎ Is' x) (λ (x : A). x) (λ x is. refl) (λ x is. inr is) place front (opens' tokens front refused place e split at)

pub opens_deep : {A : Type 0} (w : A → List Mark) (Is : A → Type 0) (set : List Lexeme) → ((place : Place) → Completed w Is place []) → Opens w Is (too_deep set)
opens_deep {A = A} w Is set some tokens front refused place e split at = by_begins (begins set tokens) e
  where
    by_begins : (b : Bool) → (if b then err {A = A × List Token} (record { reason = Rattle.dbpl_grammar.specs.Reading.Deep; rest = tokens }) else Err (record { reason = Rattle.dbpl_grammar.specs.Reading.Wrong; rest = tokens })) ≡ Err refused → Completed w Is place front
    by_begins true e = at_front w Is place front (nothing_in_front tokens front refused.rest split (sym (err_rest (record { reason = Rattle.dbpl_grammar.specs.Reading.Deep; rest = tokens }) refused e))) (some place)
    by_begins false e = at_front w Is place front (nothing_in_front tokens front refused.rest split (sym (err_rest (record { reason = Rattle.dbpl_grammar.specs.Reading.Wrong; rest = tokens }) refused e))) (some place)

-- ---- a word or sign in front

pub opens_after : {A : Type 0} (w : A → List Mark) (Is : A → Type 0) (lexeme : Lexeme) (read : Parser A) → ((other : Lexeme) → like lexeme other ≡ true → other ≡ lexeme) → ((place : Place) → Completed w Is place []) → Opens w Is read → Opens (λ (x : A). Of lexeme ∷ w x) Is (after lexeme read)
opens_after {A = A} w Is lexeme read exact some opens [] front refused place e split at =
    at_front (λ (x : A). Of lexeme ∷ w x) Is place front (nothing_in_front [] front refused.rest split (sym (err_rest (wrong []) refused e))) (complete_after w Is lexeme place (some place))
opens_after {A = A} w Is lexeme read exact some opens (token ∷ tokens) front refused place e split at =
    by_like (like lexeme token.lexeme) refl e
  where
    by_front : (front : List Token) → token ∷ tokens ≡ front ++ refused.rest → read tokens ≡ Err refused → like lexeme token.lexeme ≡ true → Completed (λ (x : A). Of lexeme ∷ w x) Is place front
    by_front [] split e is =
        at_front (λ (x : A). Of lexeme ∷ w x) Is place [] refl (complete_after w Is lexeme place (some place))
    by_front (first ∷ front) split e is =
        let rests : tokens ≡ front ++ refused.rest = ap (λ (t : List Token). tail_of t) split in
        let heads : token ≡ first = ap (λ (t : List Token). head_or token t) split in
        let c = opens tokens front refused place e rests at in
        record {
          tree = c.tree;
          tokens = c.tokens;
          is = c.is;
          placed = c.placed;
          meets = λ rest starts. (ap (λ (t : Token). t.lexeme) (sym heads) ∙ exact token.lexeme is, c.meets rest starts);
        }
      where
        head_or : Token → List Token → Token
        head_or token [] = token
        head_or token (first ∷ others) = first

        tail_of : List Token → List Token
        tail_of [] = []
        tail_of (first ∷ others) = others

    by_like : (b : Bool) → like lexeme token.lexeme ≡ b → ((if b then Ok tokens else err {A = List Token} (wrong (token ∷ tokens))) >>= λ behind. read behind) ≡ Err refused → Completed (λ (x : A). Of lexeme ∷ w x) Is place front
    by_like true is e = by_front front split e is
    by_like false is e =
        at_front (λ (x : A). Of lexeme ∷ w x) Is place front (nothing_in_front (token ∷ tokens) front refused.rest split (sym (err_rest (wrong (token ∷ tokens)) refused e))) (complete_after w Is lexeme place (some place))

-- ---- one behind the other

-- what is known of the second reading, behind what the first found
pub record Second {B : Type 0} (w : B → List Mark) (Is : B → Type 0) (read : Parser B) : Type 0 where
  pub some : (place : Place) → Completed w Is place []
  pub opens : Opens w Is read
  pub steady : (tokens : List Token) → Steady read tokens (read tokens)

pub opens_then : {A B : Type 0} (w : A → List Mark) (Is : A → Type 0) (w' : B → List Mark) (Is' : A → B → Type 0) (read : Parser A) (next : A → Parser B) → Opens w Is read → ((x : A) (tokens rest : List Token) → read tokens ≡ Ok (x, rest) → Is x × Meets tokens (w x) rest) → ((x : A) → Is x → Second w' (Is' x) (next x)) → Opens (λ (y : A × B). w y.0 ++ w' y.1) (λ (y : A × B). Is y.0 × Is' y.0 y.1) (read ⊗> next)
opens_then {A = A} {B = B} w Is w' Is' read next opens wrote second tokens front refused place e split at =
    by_first (both_err (read tokens) (λ x. next x.0 x.1 >>= λ y. Ok ((x.0, y.0), y.1)) refused e)
  where
    by_second : (x : A) (middle : List Token) → read tokens ≡ Ok (x, middle) → ((other : Refused) × (next x middle ≡ Err other) × (other.rest ≡ refused.rest)) ⊎ ((found : B × List Token) × (next x middle ≡ Ok found) × (ok {A = (A × B) × List Token} ((x, found.0), found.1) ≡ Err refused)) → Completed (λ (y : A × B). w y.0 ++ w' y.1) (λ (y : A × B). Is y.0 × Is' y.0 y.1) place front
    by_second x middle first (inl one) =
        let known = wrote x tokens middle first in
        let later = second x known.0 in
        let s = later.steady middle in
        let back : middle ≡ s.front ++ one.0.rest = s.split ∙ ap (λ (answer : Result (B × List Token) Refused). s.front ++ left answer) one.1 in
        let c = later.opens middle s.front one.0 place one.1 back (at_same place one.0.rest refused.rest one.2 at) in
        complete_behind w Is w' Is' place tokens middle refused.rest front s.front x known.0 known.1 (back ∙ ap (λ (t : List Token). s.front ++ t) one.2) split at c
    by_second x middle first (inr two) = absurd (ok_isnt ((x, two.0.0), two.0.1) refused two.2)

    by_first : ((other : Refused) × (read tokens ≡ Err other) × (other.rest ≡ refused.rest)) ⊎ ((middle : A × List Token) × (read tokens ≡ Ok middle) × (next middle.0 middle.1 >>= (λ y. ok {A = (A × B) × List Token} ((middle.0, y.0), y.1)) ≡ Err refused)) → Completed (λ (y : A × B). w y.0 ++ w' y.1) (λ (y : A × B). Is y.0 × Is' y.0 y.1) place front
    by_first (inl one) =
        let c = opens tokens front one.0 place one.1 (split ∙ ap (λ (t : List Token). front ++ t) (sym one.2)) (at_same place one.0.rest refused.rest one.2 at) in
        complete_then w Is w' Is' place front c ((second c.tree c.is).some place)
    by_first (inr two) =
        by_second two.0.0 two.0.1 two.1 (both_err (next two.0.0 two.0.1) (λ y. ok {A = (A × B) × List Token} ((two.0.0, y.0), y.1)) refused two.2)

pub opens_closed : {A : Type 0} (w : A → List Mark) (Is : A → Type 0) (lexeme : Lexeme) (read : Parser A) → Opens w Is read → ((x : A) (tokens rest : List Token) → read tokens ≡ Ok (x, rest) → Is x × Meets tokens (w x) rest) → Opens (λ (x : A). w x ++ Of lexeme ∷ []) Is (closed read lexeme)
opens_closed {A = A} w Is lexeme read opens wrote tokens front refused place e split at =
    by_first (both_err (read tokens) (λ x. expect lexeme x.1 >>= λ rest. Ok (x.0, rest)) refused e)
  where
    without : Completed (λ (x : A × Unit {0}). w x.0 ++ Of lexeme ∷ []) (λ (x : A × Unit {0}). Is x.0 × Unit {0}) place front → Completed (λ (x : A). w x ++ Of lexeme ∷ []) Is place front
    without c =
        complete_made (λ (x : A × Unit {0}). w x.0 ++ Of lexeme ∷ []) (λ (x : A × Unit {0}). Is x.0 × Unit {0}) (λ (x : A). w x ++ Of lexeme ∷ []) Is (λ x. x.0) (λ x is. refl) (λ x is. is.0) place front c

    by_second : (x : A) (middle : List Token) → read tokens ≡ Ok (x, middle) → ((other : Refused) × (expect lexeme middle ≡ Err other) × (other.rest ≡ refused.rest)) ⊎ ((rest : List Token) × (expect lexeme middle ≡ Ok rest) × (ok {A = A × List Token} (x, rest) ≡ Err refused)) → Completed (λ (x : A). w x ++ Of lexeme ∷ []) Is place front
    by_second x middle first (inl one) =
        let known = wrote x tokens middle first in
        let back : middle ≡ refused.rest = sym (expect_refuses lexeme middle one.0 one.1) ∙ one.2 in
        without (complete_behind w Is (λ (u : Unit {0}). Of lexeme ∷ []) (λ (x : A) (u : Unit {0}). Unit {0}) place tokens middle refused.rest front [] x known.0 known.1 back split at (complete_token place lexeme))
    by_second x middle first (inr two) = absurd (ok_isnt (x, two.0) refused two.2)

    by_first : ((other : Refused) × (read tokens ≡ Err other) × (other.rest ≡ refused.rest)) ⊎ ((middle : A × List Token) × (read tokens ≡ Ok middle) × (expect lexeme middle.1 >>= (λ rest. ok {A = A × List Token} (middle.0, rest)) ≡ Err refused)) → Completed (λ (x : A). w x ++ Of lexeme ∷ []) Is place front
    by_first (inl one) =
        let c = opens tokens front one.0 place one.1 (split ∙ ap (λ (t : List Token). front ++ t) (sym one.2)) (at_same place one.0.rest refused.rest one.2 at) in
        without (complete_then w Is (λ (u : Unit {0}). Of lexeme ∷ []) (λ (x : A) (u : Unit {0}). Unit {0}) place front c (complete_token place lexeme))
    by_first (inr two) =
        by_second two.0.0 two.0.1 two.1 (both_err (expect lexeme two.0.1) (λ rest. ok {A = A × List Token} (two.0.0, rest)) refused two.2)

-- a phrase and a word or sign behind it
pub some_closed : {A : Type 0} (w : A → List Mark) (Is : A → Type 0) (lexeme : Lexeme) (place : Place) → Completed w Is place [] → Completed (λ (x : A). w x ++ Of lexeme ∷ []) Is place []
some_closed {A = A} w Is lexeme place c =
    complete_made (λ (x : A × Unit {0}). w x.0 ++ Of lexeme ∷ []) (λ (x : A × Unit {0}). Is x.0 × Unit {0}) (λ (x : A). w x ++ Of lexeme ∷ []) Is (λ x. x.0) (λ x is. refl) (λ x is. is.0) place [] (complete_then w Is (λ (u : Unit {0}). Of lexeme ∷ []) (λ (x : A) (u : Unit {0}). Unit {0}) place [] c (complete_token place lexeme))

-- ---- a phrase that may be absent

pub opens_optional : {A : Type 0} (w : A → List Mark) (Is : A → Type 0) (Is' : Option A → Type 0) (set : List Lexeme) (read : Parser A) → ((x : A) → Is x → Is' (Some x)) → Opens w Is read → Opens (option_marks w) Is' (optional set read)
opens_optional {A = A} w Is Is' set read to opens tokens front refused place e split at = by_begins (begins set tokens) e
  where
    by_begins : (b : Bool) → (if b then ((λ (x : A). Some x) <$> read) tokens else Ok (None, tokens)) ≡ Err refused → Completed (option_marks w) Is' place front
    by_begins true e =
        opens_made w Is (option_marks w) Is' (λ (x : A). Some x) read (λ x is. refl) to opens tokens front refused place e split at
    by_begins false e = absurd (ok_isnt {A = Option A × List Token} (None, tokens) refused e)

pub opens_never : {A : Type 0} (w : A → List Mark) (Is : A → Type 0) (read : Parser A) → ((tokens : List Token) (refused : Refused) → read tokens ≡ Err refused → ⊥) → Opens w Is read
opens_never w Is read never tokens front refused place e split at = absurd (never tokens refused e)

-- ---- phrases again and again

module _ {A : Type 0} (w : A → List Mark) (Is : A → Type 0) (EachIs : List A → Type 0) (none_is : EachIs []) (more_is : (x : A) (xs : List A) → Is x → EachIs xs → EachIs (x ∷ xs)) (set : List Lexeme) (read : Parser A) (steady : (tokens : List Token) → Steady read tokens (read tokens)) (goes : Goes read) (wrote : (x : A) (tokens rest : List Token) → read tokens ≡ Ok (x, rest) → Is x × Meets tokens (w x) rest) (opens : Opens w Is read) where
  opens_many_from : (turns : ℕ) (before : List A) (tokens front : List Token) (refused : Refused) (place : Place) → length tokens < turns → many_from set read turns before tokens ≡ Err refused → tokens ≡ front ++ refused.rest → AtPlace place refused.rest → Completed (flat_map w) EachIs place front
  opens_many_from zero before tokens front refused place enough e split at = absurd (not-suc-le-zero enough)
  opens_many_from (suc turns) before tokens front refused place enough e split at =
      by_begins (λ before tokens front enough e split. opens_many_from turns before tokens front refused place enough e split at) (begins set tokens) e
    where
      by_read : ((before : List A) (tokens front : List Token) → length tokens < turns → many_from set read turns before tokens ≡ Err refused → tokens ≡ front ++ refused.rest → Completed (flat_map w) EachIs place front) → ((other : Refused) × (read tokens ≡ Err other) × (other.rest ≡ refused.rest)) ⊎ ((next : A × List Token) × (read tokens ≡ Ok next) × (many_from set read turns (before ++ next.0 ∷ []) next.1 ≡ Err refused)) → Completed (flat_map w) EachIs place front
      by_read again (inl one) =
          complete_made w Is (flat_map w) EachIs (λ (x : A). x ∷ []) (λ x is. append-nil (w x)) (λ x is. more_is x [] is none_is) place front (opens tokens front one.0 place one.1 (split ∙ ap (λ (t : List Token). front ++ t) (sym one.2)) (at_same place one.0.rest refused.rest one.2 at))
      by_read again (inr two) =
          let known = wrote two.0.0 tokens two.0.1 two.1 in
          let shorter = goes two.0.0 tokens two.0.1 two.1 in
          let left_enough : length two.0.1 < turns = omega arith in
          let s = steady_many_from set read steady goes turns (before ++ two.0.0 ∷ []) two.0.1 left_enough in
          let back : two.0.1 ≡ s.front ++ refused.rest = s.split ∙ ap (λ (answer : Result (List A × List Token) Refused). s.front ++ left answer) two.2 in
          let c = again (before ++ two.0.0 ∷ []) two.0.1 s.front left_enough two.2 back in
          complete_made (λ (y : A × List A). w y.0 ++ flat_map w y.1) (λ (y : A × List A). Is y.0 × EachIs y.1) (flat_map w) EachIs (λ (y : A × List A). y.0 ∷ y.1) (λ y is. refl) (λ y is. more_is y.0 y.1 is.0 is.1) place front (complete_behind w Is (flat_map w) (λ (x : A). EachIs) place tokens two.0.1 refused.rest front s.front two.0.0 known.0 known.1 back split at c)

      by_begins : ((before : List A) (tokens front : List Token) → length tokens < turns → many_from set read turns before tokens ≡ Err refused → tokens ≡ front ++ refused.rest → Completed (flat_map w) EachIs place front) → (b : Bool) → (if b then (read tokens >>= λ next. many_from set read turns (before ++ next.0 ∷ []) next.1) else Ok (before, tokens)) ≡ Err refused → Completed (flat_map w) EachIs place front
      by_begins again true e = by_read again (both_err (read tokens) (λ next. many_from set read turns (before ++ next.0 ∷ []) next.1) refused e)
      by_begins again false e = absurd (ok_isnt (before, tokens) refused e)

  pub opens_many : Opens (flat_map w) EachIs (many set read)
  opens_many tokens front refused place e split at =
      opens_many_from (suc (length tokens)) [] tokens front refused place (omega arith) e split at
