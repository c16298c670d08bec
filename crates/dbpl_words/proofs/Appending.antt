-- Bytes that are said piece after piece: a front of a piece behind what came before it is a front of the whole.
use Rattle.std.proofs.Common.{◌≡◌, ◌∙◌, ℕ, ◌+◌, ◌<◌, ◌≤◌, List, [], ◌∷◌, ◌++◌, ap, add-one, arith, drop, get_or, length, map, min, sym, take}
use Rattle.std.proofs.Math.Seq.{drop-cons, take-append-add}
use Rattle.std.proofs.lemmas.Grind.{flat_map-append}
use Rattle.std.proofs.lemmas.List.{append-nil, map-append, take-append-drop, take-append-le, take_min}
use Rattle.std.specs.List.{flat_map}
use Rattle.dbpl_world.proofs.Replays.{more-more}
use Rattle.dbpl_world.specs.History.{Event, History, more}

-- some front of the whole is what came before and a front of the piece
pub front_of_whole : (before piece rest : List ℕ) (n : ℕ) → (m : ℕ) × (take m (before ++ (piece ++ rest)) ≡ before ++ take n piece)
front_of_whole before piece rest n =
    let k : ℕ = min n (length piece) in
    let fits : k ≤ length piece = omega arith in
    (length before + k, take-append-add before (piece ++ rest) k ∙ ap (λ xs. before ++ xs) (take-append-le k piece rest fits ∙ take_min n piece))

-- nothing more has happened
pub more-nil : (h : History) → h ≡ more h []
more-nil h = ap (λ (events : List Event). let same : History = record { start = h.start; events = events } in same) (sym (append-nil h.events))

-- Bytes of one kind, said or noted, and then bytes behind them are the bytes of both.
pub both : (kind : ℕ → Event) (start at end : History) (first second : List ℕ) →
    at ≡ more start (map kind first) → end ≡ more at (map kind second) → end ≡ more start (map kind (first ++ second))
both kind start at end first second before behind =
    behind ∙ ap (λ (h : History). more h (map kind second)) before ∙ more-more start (map kind first) (map kind second)
    ∙ ap (λ (events : List Event). more start events) (sym (map-append kind first second))

-- what came before, and then a front of a piece, is a front of all
pub front : (kind : ℕ → Event) (all before piece rest : List ℕ) (start at end : History) →
    all ≡ before ++ (piece ++ rest) → at ≡ more start (map kind before) →
    ((n : ℕ) × (end ≡ more at (map kind (take n piece)))) →
    (m : ℕ) × (end ≡ more start (map kind (take m all)))
front kind all before piece rest start at end split came behind =
    let whole = front_of_whole before piece rest behind.0 in (
      whole.0,
      both kind start at end before (take behind.0 piece) came behind.1
          ∙ ap (λ (bytes : List ℕ). more start (map kind bytes)) (sym whole.1 ∙ ap (λ (bytes : List ℕ). take whole.0 bytes) (sym split)),
    )

-- a list is what stands before an index, the item there, and the rest
pub at_index : {A : Type 0} (xs : List A) (i : ℕ) (d : A) → i < length xs → xs ≡ take i xs ++ (get_or xs i d ∷ drop (i + 1) xs)
at_index xs i d within =
    sym (take-append-drop i xs) ∙ ap (λ ys. take i xs ++ ys) (rw (add-one, drop-cons xs i d within))

-- the same of what the items of a list give
pub flat_map-at_index : {A : Type 0} (f : A → List ℕ) (xs : List A) (i : ℕ) (d : A) → i < length xs →
    flat_map f xs ≡ flat_map f (take i xs) ++ (f (get_or xs i d) ++ flat_map f (drop (i + 1) xs))
flat_map-at_index f xs i d within =
    ap (flat_map f) (at_index xs i d within) ∙ flat_map-append f (take i xs) (get_or xs i d ∷ drop (i + 1) xs)

-- the same where the item there is this one
pub flat_map-at_item : {A : Type 0} (f : A → List ℕ) (xs : List A) (i : ℕ) (item : A) → item ≡ get_or xs i item → i < length xs →
    flat_map f xs ≡ flat_map f (take i xs) ++ (f item ++ flat_map f (drop (i + 1) xs))
flat_map-at_item f xs i item here within =
    flat_map-at_index f xs i item within ∙ ap (λ x. flat_map f (take i xs) ++ (f x ++ flat_map f (drop (i + 1) xs))) (sym here)
