-- Laws of what a scope holds, step by step: how it begins, and that each step keeps its invariant.
use Rattle.std.proofs.Common.{◌≡◌, ◌∙◌, ℕ, ◌+◌, ◌-◌, ◌<◌, ◌≤◌, List, [], ◌∷◌, ◌++◌, drop, filter, length, take, Result, Ok, Err, OnOk, OnErr, ap, sym, subst, arith}
use Rattle.std.proofs.lemmas.List.{drop-map, length-map, length-take-le, length_push, take-map, take-take, take_all}
use Rattle.std.specs.BTreeMap.{BTreeMap, is_at}
use Rattle.std.specs.Cmp.Lexicographic.{slice_cmp}
use Rattle.std.specs.Map.{lookup}
use Rattle.std.specs.Ordering.{nat_cmp}
use Rattle.dbpl_symbols.proofs.ScopeLaws.{left-push, rise-enter, rise-leave, rise-more, scope_of}
use Rattle.dbpl_symbols.specs.Interfaces.{is_own}
use Rattle.dbpl_symbols.specs.Places.{IsHeld, pairs_of, spot}
use Rattle.dbpl_symbols.specs.Scopes.{Declarations, RiseTo, left}
use Rattle.dbpl_symbols.specs.declared.held.Held.{Held}
use Rattle.dbpl_symbols.specs.declared.pair.Pair.{Pair}

-- a claim under Ok, from another
pub on_ok : {A B : Type 0} (P Q : Type 0) (r : Result A B) → (P → Q) → OnOk r P → OnOk r Q
on_ok P Q (Ok x) f p = f p
on_ok P Q (Err e) f p = tt

pub on_err : {A B : Type 0} (P Q : Type 0) (r : Result A B) → (P → Q) → OnErr r P → OnErr r Q
on_err P Q (Ok x) f p = tt
on_err P Q (Err e) f p = f p

-- ---- the beginning

nothing_held : (places : BTreeMap (List ℕ) ℕ) → places.entries ≡ [] → IsHeld [] [] places
unfolding spot
nothing_held places e = record {
  indexed = record { links = tt; known = λ name. ap (lookup (is_at (slice_cmp nat_cmp name))) e };
  rise = omega arith;
}

pub empty_held : (held : List Held) (starts : List ℕ) (places : BTreeMap (List ℕ) ℕ) → held ≡ [] → starts ≡ [] →
    places.entries ≡ [] → IsHeld held starts places
empty_held held starts places h s e =
    subst (λ one. IsHeld one starts places) (sym h) (subst (λ one. IsHeld [] one places) (sym s) (nothing_held places e))

-- ---- where levels start

pub rises : (held : List Held) (starts : List ℕ) (places : BTreeMap (List ℕ) ℕ) → IsHeld held starts places →
    RiseTo (length (pairs_of held)) 0 starts
rises held starts places h = subst (λ n. RiseTo n 0 starts) (sym (length-map held (λ one. one.pair))) h.rise

pub rise_entered : {A B : Type 0} (r : Result A B) (starts new : List ℕ) (high n : ℕ) → n ≡ high →
    OnOk r (new ≡ starts ++ n ∷ []) → OnErr r (new ≡ starts) → RiseTo high 0 starts → RiseTo high 0 new
rise_entered (Ok x) starts new high n same ok err rise =
    subst (RiseTo high 0) (sym ok) (subst (λ m. RiseTo high 0 (starts ++ m ∷ [])) (sym same) (rise-enter starts 0 high rise))
rise_entered (Err e) starts new high n same ok err rise = subst (RiseTo high 0) (sym err) rise

longer : (held new : List Held) (pair : Pair) → pairs_of new ≡ pairs_of held ++ pair ∷ [] → length held ≤ length new
longer held new pair e =
    let n : length new ≡ length (pairs_of held) + 1 =
    sym (length-map new (λ one. one.pair)) ∙ ap length e ∙ length_push (pairs_of held) pair in
    omega (arith, n, length-map held (λ one. one.pair))

pub rise_added : {A B : Type 0} (r : Result A B) (held new : List Held) (starts : List ℕ) (pair : Pair) →
    OnOk r (pairs_of new ≡ pairs_of held ++ pair ∷ []) → OnErr r (new ≡ held) → RiseTo (length held) 0 starts →
    RiseTo (length new) 0 starts
rise_added (Ok x) held new starts pair ok err rise =
    rise-more starts 0 (length held) (length new) (longer held new pair ok) rise
rise_added (Err e) held new starts pair ok err rise = subst (λ one. RiseTo (length one) 0 starts) (sym err) rise

-- ---- what is cut off

pub cut_more : (held first : List Held) (start : ℕ) → start < length held → take start held ≡ take start first →
    take start (take (length held - 1) held) ≡ take start first
cut_more held first start h front = take-take start (length held - 1) held (omega (arith, h)) ∙ front

pub cut_all : (held first : List Held) (start : ℕ) → length held ≤ start → take start held ≡ take start first →
    held ≡ take start first
cut_all held first start h front = sym (take_all start held h) ∙ front

-- ---- what is left

pub rise_left : (held now : List Held) (old starts : List ℕ) (start : ℕ) → old ≡ starts ++ start ∷ [] → now ≡ take start held →
    RiseTo (length held) 0 old → RiseTo (length now) 0 starts
rise_left held now old starts start e t rise =
    let r = rise-leave starts 0 (length held) start (subst (RiseTo (length held) 0) e rise) in
    subst (λ n. RiseTo n 0 starts) (sym (ap length t ∙ length-take-le start held r.1)) r.0

pub left_held : (held now : List Held) (old starts : List ℕ) (start : ℕ) (scope : Declarations) → old ≡ starts ++ start ∷ [] →
    now ≡ take start held → scope_of (pairs_of held) old ≡ scope → scope_of (pairs_of now) starts ≡ left scope
left_held held now old starts start scope e t view =
    ap (λ one. scope_of (pairs_of one) starts) t ∙
    ap (λ pairs. scope_of pairs starts) (sym (take-map (λ one. one.pair) start held)) ∙
    sym (left-push (pairs_of held) starts start) ∙ ap (λ all. left (scope_of (pairs_of held) all)) (sym e) ∙ ap left view

-- ---- what was made at the last level

pub own_of : (pairs : List Pair) (held level all : List Held) (n start : ℕ) → pairs ≡ filter is_own (pairs_of level) →
    level ≡ drop n all → all ≡ held → n ≡ start → pairs ≡ filter is_own (drop start (pairs_of held))
own_of pairs held level all n start p l a s =
    p ∙ ap (λ one. filter is_own (pairs_of one)) (l ∙ ap (drop n) a ∙ ap (λ m. drop m held) s) ∙
    ap (filter is_own) (sym (drop-map (λ one. one.pair) start held))
