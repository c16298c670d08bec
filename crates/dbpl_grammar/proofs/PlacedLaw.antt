-- A tree can be moved to where tokens of its lexemes stand: step by step.
use Rattle.std.proofs.Common.{◌≡◌, ℕ, ◌≤◌, max, ◌⊎◌, inl, inr, List, [], ◌∷◌, ◌++◌, flat_map, Option, Some, None, refl, sym, ap, ap₂, ◌∙◌, subst, zero-le}
use Rattle.dbpl_base.specs.declared.lexeme.Lexeme.{Lexeme}
use Rattle.dbpl_base.specs.declared.place.Place.{Place}
use Rattle.dbpl_base.specs.declared.token.Token.{Token}
use Rattle.dbpl_tree.specs.Depths.{greatest, option_depth}
use Rattle.dbpl_tree.specs.Marks.{Mark, Of, Before, Meets, lexemes_in, option_marks}
use Rattle.dbpl_grammar.proofs.Law.{Lexed, Placed}
use Rattle.dbpl_grammar.proofs.MeetsLaw.{meets_join}
use Rattle.dbpl_grammar.proofs.Numbers.{max_both, max_left, max_right}

pub lexed_split : (marks more : List Mark) (tokens rest : List Token) → Lexed tokens (marks ++ more) rest → (middle : List Token) × Lexed tokens marks middle × Lexed middle more rest
lexed_split [] more tokens rest h = (tokens, refl, h)
lexed_split (mark ∷ marks) more [] rest h = absurd h
lexed_split (Of lexeme ∷ marks) more (token ∷ tokens) rest h =
    let parts = lexed_split marks more tokens rest h.1 in
    (parts.0, (h.0, parts.1), parts.2)
lexed_split (Before place ∷ marks) more (token ∷ tokens) rest h = lexed_split marks more (token ∷ tokens) rest h

lexemes_append : (marks more : List Mark) → lexemes_in (marks ++ more) ≡ lexemes_in marks ++ lexemes_in more
lexemes_append [] more = refl
lexemes_append (Of lexeme ∷ marks) more = ap (λ (ls : List Lexeme). lexeme ∷ ls) (lexemes_append marks more)
lexemes_append (Before place ∷ marks) more = lexemes_append marks more

both_lexemes : (one other more others : List Mark) → lexemes_in one ≡ lexemes_in more → lexemes_in other ≡ lexemes_in others → lexemes_in (one ++ other) ≡ lexemes_in (more ++ others)
both_lexemes one other more others h k =
    lexemes_append one other ∙ ap₂ (λ (a b : List Lexeme). a ++ b) h k ∙ sym (lexemes_append more others)

-- the law, for one reading function
abbrev pub Places : {A : Type 0} → (A → List Mark) → (A → ℕ) → ℕ → (A → Type 0) → Type 0
Places {A = A} marks depth limit Is =
    (found : A) (tokens rest : List Token) → Is found → depth found ≤ limit → Lexed tokens (marks found) rest → Placed marks depth limit Is found tokens rest

pub places_here : (limit : ℕ) → Places (λ (p : Place). Before p ∷ []) (λ (p : Place). 0) limit (λ (p : Place). Unit {0})
places_here limit found [] rest is fits h = absurd h
places_here limit found (token ∷ tokens) rest is fits h = record { tree = token.place; is = tt; fits = zero-le; meets = (refl, h); same = refl }

pub places_leaf : {A : Type 0} (lexeme_of : A → Lexeme) (limit : ℕ) → Places (λ (x : A). Of (lexeme_of x) ∷ []) (λ (x : A). 0) limit (λ (x : A). Unit {0})
places_leaf lexeme_of limit found [] rest is fits h = absurd h
places_leaf lexeme_of limit found (token ∷ tokens) rest is fits h = record { tree = found; is = tt; fits = zero-le; meets = (h.0, h.1); same = refl }

pub places_after : {A : Type 0} (w : A → List Mark) (n : A → ℕ) (limit : ℕ) (Is : A → Type 0) (lexeme : Lexeme) → Places w n limit Is → Places (λ (x : A). Of lexeme ∷ w x) n limit Is
places_after w n limit Is lexeme places found [] rest is fits h = absurd h
places_after w n limit Is lexeme places found (token ∷ tokens) rest is fits h =
    let p = places found tokens rest is fits h.1 in
    record { tree = p.tree; is = p.is; fits = p.fits; meets = (h.0, p.meets); same = ap (λ (ls : List Lexeme). lexeme ∷ ls) p.same }

pub places_then : {A B : Type 0} (w : A → List Mark) (n : A → ℕ) (Is : A → Type 0) (w' : B → List Mark) (n' : B → ℕ) (Is' : A → B → Type 0) (limit : ℕ) → Places w n limit Is → ((x : A) → Is x → Places w' n' limit (Is' x)) → ((x x' : A) (y : B) → lexemes_in (w x') ≡ lexemes_in (w x) → Is' x y → Is' x' y) → Places (λ (z : A × B). w z.0 ++ w' z.1) (λ (z : A × B). max (n z.0) (n' z.1)) limit (λ (z : A × B). Is z.0 × Is' z.0 z.1)
places_then w n Is w' n' Is' limit places later keeps found tokens rest is fits h =
    let parts = lexed_split (w found.0) (w' found.1) tokens rest h in
    let p = places found.0 tokens parts.0 is.0 (max_left (n found.0) (n' found.1) limit fits) parts.1 in
    let q = later found.0 is.0 found.1 parts.0 rest is.1 (max_right (n found.0) (n' found.1) limit fits) parts.2 in
    record {
      tree = (p.tree, q.tree);
      is = (p.is, keeps found.0 p.tree q.tree p.same q.is);
      fits = max_both (n p.tree) (n' q.tree) limit p.fits q.fits;
      meets = meets_join (w p.tree) (w' q.tree) tokens parts.0 rest p.meets q.meets;
      same = both_lexemes (w p.tree) (w' q.tree) (w found.0) (w' found.1) p.same q.same;
    }

pub places_closed : {A : Type 0} (w : A → List Mark) (n : A → ℕ) (limit : ℕ) (Is : A → Type 0) (lexeme : Lexeme) → Places w n limit Is → Places (λ (x : A). w x ++ Of lexeme ∷ []) n limit Is
places_closed w n limit Is lexeme places found tokens rest is fits h =
    let parts = lexed_split (w found) (Of lexeme ∷ []) tokens rest h in
    let p = places found tokens parts.0 is fits parts.1 in
    record {
      tree = p.tree;
      is = p.is;
      fits = p.fits;
      meets = meets_join (w p.tree) (Of lexeme ∷ []) tokens parts.0 rest p.meets (one_token parts.0 rest parts.2);
      same = both_lexemes (w p.tree) (Of lexeme ∷ []) (w found) (Of lexeme ∷ []) p.same refl;
    }
  where
    one_token : (tokens rest : List Token) → Lexed tokens (Of lexeme ∷ []) rest → Meets tokens (Of lexeme ∷ []) rest
    one_token [] rest h = absurd h
    one_token (token ∷ tokens) rest h = (h.0, h.1)

pub places_made : {A B : Type 0} (w : A → List Mark) (n : A → ℕ) (Is : A → Type 0) (w' : B → List Mark) (n' : B → ℕ) (Is' : B → Type 0) (limit : ℕ) (make : A → B) → ((x : A) → Is x → w' (make x) ≡ w x) → ((x : A) → Is x → n' (make x) ≡ n x) → ((x : A) → Is x → Is' (make x)) → ((y : B) → Is' y → (x : A) × Is x × (make x ≡ y)) → Places w n limit Is → Places w' n' limit Is'
places_made w n Is w' n' Is' limit make marks depth to back places found tokens rest is fits h =
    let made = back found is in
    let marks_are : w' found ≡ w made.0 = sym (ap w' made.2) ∙ marks made.0 made.1 in
    let p = places made.0 tokens rest made.1 (subst (λ (k : ℕ). k ≤ limit) (sym (ap n' made.2) ∙ depth made.0 made.1) fits) (subst (λ (ms : List Mark). Lexed tokens ms rest) marks_are h) in
    record {
      tree = make p.tree;
      is = to p.tree p.is;
      fits = subst (λ (k : ℕ). k ≤ limit) (sym (depth p.tree p.is)) p.fits;
      meets = subst (λ (ms : List Mark). Meets tokens ms rest) (sym (marks p.tree p.is)) p.meets;
      same = ap (λ (ms : List Mark). lexemes_in ms) (marks p.tree p.is) ∙ p.same ∙ ap (λ (ms : List Mark). lexemes_in ms) (sym marks_are);
    }

pub places_either : {A : Type 0} (w : A → List Mark) (n : A → ℕ) (limit : ℕ) (Is Is' : A → Type 0) → Places w n limit Is → Places w n limit Is' → Places w n limit (λ (x : A). Is x ⊎ Is' x)
places_either w n limit Is Is' places places' found tokens rest (inl is) fits h =
    let p = places found tokens rest is fits h in
    record { tree = p.tree; is = inl p.is; fits = p.fits; meets = p.meets; same = p.same }
places_either w n limit Is Is' places places' found tokens rest (inr is) fits h =
    let p = places' found tokens rest is fits h in
    record { tree = p.tree; is = inr p.is; fits = p.fits; meets = p.meets; same = p.same }

-- a phrase without marks stands where it stands
places_nothing : {A : Type 0} (w : A → List Mark) (n : A → ℕ) (limit : ℕ) (Is : A → Type 0) (x : A) (tokens rest : List Token) → Is x → n x ≤ limit → w x ≡ [] → Lexed tokens (w x) rest → Placed w n limit Is x tokens rest
places_nothing w n limit Is x tokens rest is fits none h = record {
  tree = x;
  is = is;
  fits = fits;
  meets = subst (λ (ms : List Mark). Meets tokens ms rest) (sym none) (subst (λ (ms : List Mark). Lexed tokens ms rest) none h);
  same = refl;
}

pub places_option : {A : Type 0} (w : A → List Mark) (n : A → ℕ) (limit : ℕ) (Is : A → Type 0) (Is' : Option A → Type 0) → ((x : A) → Is x → Is' (Some x)) → ((x : A) → Is' (Some x) → Is x) → Places w n limit Is → Places (option_marks w) (option_depth n) limit Is'
places_option w n limit Is Is' to back places None tokens rest is fits h = record { tree = None; is = is; fits = fits; meets = h; same = refl }
places_option w n limit Is Is' to back places (Some x) tokens rest is fits h =
    let p = places x tokens rest (back x is) fits h in
    record { tree = Some p.tree; is = to p.tree p.is; fits = p.fits; meets = p.meets; same = p.same }

pub places_none : {A : Type 0} (w : A → List Mark) (n : A → ℕ) (limit : ℕ) → Places (option_marks w) (option_depth n) limit (λ (x : Option A). x ≡ None)
places_none w n limit found tokens rest is fits h =
    places_nothing (option_marks w) (option_depth n) limit (λ (x : Option _). x ≡ None) found tokens rest is fits (ap (λ (x : Option _). option_marks w x) is) h

module _ {A : Type 0} (w : A → List Mark) (n : A → ℕ) (limit : ℕ) (Is : A → Type 0) (EachIs : List A → Type 0) (none_is : EachIs []) (more_is : (x : A) (xs : List A) → Is x → EachIs xs → EachIs (x ∷ xs)) (first_is : (x : A) (xs : List A) → EachIs (x ∷ xs) → Is x × EachIs xs) (places : Places w n limit Is) where
  pub places_many : Places (flat_map w) (greatest n) limit EachIs
  places_many [] tokens rest is fits h = record { tree = []; is = none_is; fits = zero-le; meets = h; same = refl }
  places_many (x ∷ xs) tokens rest is fits h =
      let parts = lexed_split (w x) (flat_map w xs) tokens rest h in
      let each = first_is x xs is in
      let p = places x tokens parts.0 each.0 (max_left (n x) (greatest n xs) limit fits) parts.1 in
      let q = places_many xs parts.0 rest each.1 (max_right (n x) (greatest n xs) limit fits) parts.2 in
      record {
        tree = p.tree ∷ q.tree;
        is = more_is p.tree q.tree p.is q.is;
        fits = max_both (n p.tree) (greatest n q.tree) limit p.fits q.fits;
        meets = meets_join (w p.tree) (flat_map w q.tree) tokens parts.0 rest p.meets q.meets;
        same = both_lexemes (w p.tree) (flat_map w q.tree) (w x) (flat_map w xs) p.same q.same;
      }

pub places_never : {A : Type 0} (w : A → List Mark) (n : A → ℕ) (limit : ℕ) (Is : A → Type 0) → ((x : A) → n x ≤ limit → ⊥) → Places w n limit Is
places_never w n limit Is never found tokens rest is fits h = absurd (never found fits)
