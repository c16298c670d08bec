-- Laws of scopes over plain variables: what is left of a level, and that the flat form is the levels one behind the other.
use Rattle.std.proofs.Common.{◌≡◌, ◌∙◌, ℕ, ◌+◌, ◌-◌, ◌≤◌, List, [], ◌∷◌, ◌++◌, length, drop, take, reverse, flat_map, Option, Some, None, refl, ap, ap₂, sym, arith}
use Rattle.std.proofs.Math.Seq.{drop-append_seam, take-append_seam}
use Rattle.std.proofs.lemmas.List.{append-nil, drop-append-le, drop-drop, length-drop, length_push, reverse-append, take-append-drop, take-append-le, take_at}
use Rattle.std.proofs.lemmas.List.Folds.{find-append}
use Rattle.std.specs.List.{find, slice_get}
use Rattle.std.specs.Option.{option_map_or, option_or}
use Rattle.dbpl_symbols.specs.Scopes.{Declarations, RiseTo, entered, found, innermost, is_named, last_of, latest, left, levels, levels_from, with_last, with_pair, with_pairs}
use Rattle.dbpl_symbols.specs.declared.pair.Pair.{Pair}

-- ---- the last of a list

shorter : {A : Type 0} (xs : List A) (x : A) → length (xs ++ x ∷ []) - 1 ≡ length xs
shorter xs x = omega (arith, length_push xs x)

at_seam : {A : Type 0} (xs : List A) (x : A) → slice_get (xs ++ x ∷ []) (length xs) ≡ Some x
at_seam [] x = refl
at_seam (first ∷ xs) x = at_seam xs x

pub last-push : {A : Type 0} (xs : List A) (x : A) → last_of (xs ++ x ∷ []) ≡ Some x
last-push xs x = ap (slice_get (xs ++ x ∷ [])) (shorter xs x) ∙ at_seam xs x

pub front-push : {A : Type 0} (xs : List A) (x : A) → take (length (xs ++ x ∷ []) - 1) (xs ++ x ∷ []) ≡ xs
front-push xs x = take_at xs (x ∷ []) (length (xs ++ x ∷ []) - 1) (sym (shorter xs x))

-- ---- what is left

abbrev pub scope_of : List Pair → List ℕ → Declarations
scope_of pairs starts = record { pairs = pairs; starts = starts }

abbrev left_at : Declarations → ℕ → Declarations
left_at scope start = scope_of (take start scope.pairs) (take (length scope.starts - 1) scope.starts)

pub left-push : (pairs : List Pair) (starts : List ℕ) (start : ℕ) →
    left (scope_of pairs (starts ++ start ∷ [])) ≡ scope_of (take start pairs) starts
left-push pairs starts start =
    let scope : Declarations = scope_of pairs (starts ++ start ∷ []) in
    ap (λ last. option_map_or (left_at scope) last scope) (last-push starts start) ∙
    ap (scope_of (take start pairs)) (front-push starts start)

-- a level is left as it was entered, whatever was declared at it
pub left_again : (scope : Declarations) (more : List Pair) → left (with_pairs more (entered scope)) ≡ scope
left_again scope more =
    left-push (scope.pairs ++ more) scope.starts (length scope.pairs) ∙
    ap (λ pairs. scope_of pairs scope.starts) (take-append_seam scope.pairs more)

-- ---- levels

up : (start next : ℕ) → start ≤ next → next ≡ start + (next - start)
up start next h = omega arith

joined-from : (starts : List ℕ) (start : ℕ) (pairs : List Pair) → RiseTo (length pairs) start starts →
    flat_map (λ level. level) (levels_from start starts pairs) ≡ drop start pairs
joined-from [] start pairs rise = append-nil (drop start pairs)
joined-from (next ∷ starts) start pairs rise =
    ap (λ inner. take (next - start) (drop start pairs) ++ inner)
    (joined-from starts next pairs rise.1 ∙ ap (λ n. drop n pairs) (up start next rise.0) ∙
    sym (drop-drop (next - start) start pairs)) ∙
    take-append-drop (next - start) (drop start pairs)

pub levels-joined : (scope : Declarations) → RiseTo (length scope.pairs) 0 scope.starts →
    flat_map (λ level. level) (levels scope) ≡ scope.pairs
levels-joined scope rise = joined-from scope.starts 0 scope.pairs rise

-- ---- what a declaration makes of levels

rise-high : (starts : List ℕ) (first high : ℕ) → RiseTo high first starts → first ≤ high
rise-high [] first high rise = rise
rise-high (next ∷ starts) first high rise =
    let above : next ≤ high = rise-high starts next high rise.1 in omega (arith, rise.0, above)

-- what stands behind them all leaves an outer level as it is
outer-same : (start next : ℕ) (pairs more : List Pair) → start ≤ next → next ≤ length pairs →
    take (next - start) (drop start (pairs ++ more)) ≡ take (next - start) (drop start pairs)
outer-same start next pairs more up within =
    ap (take (next - start)) (drop-append-le start pairs more (omega (arith, up, within))) ∙
    take-append-le (next - start) (drop start pairs) more (omega (arith, up, within, length-drop start pairs))

with_last-outer : (pair : Pair) (level : List Pair) (start : ℕ) (starts : List ℕ) (pairs : List Pair) →
    with_last pair (level ∷ levels_from start starts pairs) ≡ level ∷ with_last pair (levels_from start starts pairs)
with_last-outer pair level start [] pairs = refl
with_last-outer pair level start (next ∷ starts) pairs = refl

declared-from : (starts : List ℕ) (start : ℕ) (pairs : List Pair) (pair : Pair) → RiseTo (length pairs) start starts →
    levels_from start starts (pairs ++ pair ∷ []) ≡ with_last pair (levels_from start starts pairs)
declared-from [] start pairs pair rise = ap (λ level. level ∷ []) (drop-append-le start pairs (pair ∷ []) rise)
declared-from (next ∷ starts) start pairs pair rise =
    ap₂ (λ level inner. level ∷ inner)
    (outer-same start next pairs (pair ∷ []) rise.0 (rise-high starts next (length pairs) rise.1))
    (declared-from starts next pairs pair rise.1) ∙
    sym (with_last-outer pair (take (next - start) (drop start pairs)) next starts pairs)

pub levels-declared : (pair : Pair) (scope : Declarations) → RiseTo (length scope.pairs) 0 scope.starts →
    levels (with_pair pair scope) ≡ with_last pair (levels scope)
levels-declared pair scope rise = declared-from scope.starts 0 scope.pairs pair rise

inner-from : (starts : List ℕ) (start : ℕ) (pairs more : List Pair) → RiseTo (length pairs) start starts →
    levels_from start (starts ++ length pairs ∷ []) (pairs ++ more) ≡ levels_from start starts pairs ++ more ∷ []
inner-from [] start pairs more rise =
    ap₂ (λ level inner. level ∷ inner ∷ [])
    (ap (take (length pairs - start)) (drop-append-le start pairs more rise) ∙
    take_at (drop start pairs) more (length pairs - start) (length-drop start pairs))
    (drop-append_seam pairs more)
inner-from (next ∷ starts) start pairs more rise =
    ap₂ (λ level inner. level ∷ inner)
    (outer-same start next pairs more rise.0 (rise-high starts next (length pairs) rise.1))
    (inner-from starts next pairs more rise.1)

pub levels-inner : (more : List Pair) (scope : Declarations) → RiseTo (length scope.pairs) 0 scope.starts →
    levels (with_pairs more (entered scope)) ≡ levels scope ++ more ∷ []
levels-inner more scope rise = inner-from scope.starts 0 scope.pairs more rise

counted-from : (starts : List ℕ) (start : ℕ) (pairs : List Pair) → length (levels_from start starts pairs) ≡ length starts + 1
counted-from [] start pairs = refl
counted-from (next ∷ starts) start pairs = omega (arith, counted-from starts next pairs)

pub levels-counted : (scope : Declarations) → length (levels scope) ≡ length scope.starts + 1
levels-counted scope = counted-from scope.starts 0 scope.pairs

-- ---- the innermost level that has a name

latest-append : (name : List ℕ) (pairs more : List Pair) →
    latest name (pairs ++ more) ≡ option_or (latest name more) (latest name pairs)
latest-append name pairs more =
    ap (find (is_named name)) (reverse-append pairs more) ∙ find-append (is_named name) (reverse more) (reverse pairs)

or_none : {A : Type 0} (o : Option A) → option_or o None ≡ o
or_none None = refl
or_none (Some x) = refl

or_or : {A : Type 0} (a b c : Option A) → option_or a (option_or b c) ≡ option_or (option_or a b) c
or_or None b c = refl
or_or (Some x) b c = refl

innermost-push : (name : List ℕ) (inner : List (List Pair)) (level : List Pair) →
    innermost name (inner ++ level ∷ []) ≡ option_or (innermost name inner) (latest name level)
innermost-push name [] level = or_none (latest name level)
innermost-push name (first ∷ inner) level =
    ap (option_or (latest name first)) (innermost-push name inner level) ∙
    or_or (latest name first) (innermost name inner) (latest name level)

joined-found : (name : List ℕ) (ls : List (List Pair)) →
    latest name (flat_map (λ level. level) ls) ≡ innermost name (reverse ls)
joined-found name [] = refl
joined-found name (level ∷ ls) =
    latest-append name level (flat_map (λ level. level) ls) ∙
    ap (λ o. option_or o (latest name level)) (joined-found name ls) ∙
    sym (ap (innermost name) (reverse-append (level ∷ []) ls) ∙ innermost-push name (reverse ls) level)

pub found-innermost : (name : List ℕ) (scope : Declarations) → RiseTo (length scope.pairs) 0 scope.starts →
    found name scope ≡ innermost name (reverse (levels scope))
found-innermost name scope rise =
    ap (latest name) (sym (levels-joined scope rise)) ∙ joined-found name (levels scope)

-- ---- where levels start

pub rise-enter : (starts : List ℕ) (start high : ℕ) → RiseTo high start starts → RiseTo high start (starts ++ high ∷ [])
rise-enter [] start high rise = (rise, omega arith)
rise-enter (next ∷ starts) start high rise = (rise.0, rise-enter starts next high rise.1)

pub rise-more : (starts : List ℕ) (start high higher : ℕ) → high ≤ higher → RiseTo high start starts →
    RiseTo higher start starts
rise-more [] start high higher h rise = omega arith
rise-more (next ∷ starts) start high higher h rise = (rise.0, rise-more starts next high higher h rise.1)

pub rise-leave : (starts : List ℕ) (start high last : ℕ) → RiseTo high start (starts ++ last ∷ []) →
    RiseTo last start starts × (last ≤ high)
rise-leave [] start high last rise = (rise.0, rise.1)
rise-leave (next ∷ starts) start high last rise =
    let below = rise-leave starts next high last rise.1 in ((rise.0, below.0), below.1)
