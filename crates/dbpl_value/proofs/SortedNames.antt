-- A list of names has one of them twice exactly where, once it is sorted, two neighbours are equal.
use Rattle.std.proofs.Common.{◌≡◌, ◌+◌, ◌-◌, ◌<◌, ◌≤◌, ℕ, zero, suc, Bool, true, false, not, ◌||◌, cond, List, [], ◌∷◌, map, length, get_or, sum_by, IsPermutation, IsSorted, Result, Ok, Err, is_ok, ◌⊎◌, inl, inr, add-one, refl, ap, sym, ◌∙◌, arith}
use native.Mathlib.Numerals.{unary_clauses}
use Rattle.std.proofs.lemmas.Bool.{and_from, and_parts, and_right, both_ways, cases_lt, not-true, not_from_false, or_from, or_parts}
use Rattle.std.proofs.lemmas.List.Folds.{list_any_at, list_any_none}
use Rattle.std.proofs.lemmas.List.Recursion.{is_sum_by}
use Rattle.std.proofs.lemmas.List.Sorted.{IsPermutation-map, IsPermutation-sym, list_any-IsPermutation, searchable_from_sorted, sum_by-IsPermutation}
use Rattle.std.specs.Cmp.Lexicographic.{bytes_decides, nat_list_cmp_total, slice_cmp, texts_ties}
use Rattle.std.specs.List.{AllAdjacentBelow, list_any}
use Rattle.std.specs.List.Sorted.{IsBinarySearchResult, IsPartitionPoint, IsSearchInRange}
use Rattle.std.specs.Ordering.{is_eq, is_lt, nat_cmp, ordering_reverse}
use Rattle.std.specs.declared.cmp.Ordering.{Ordering}
use Rattle.std.specs.declared.cmp.Ordering.TheVariants.{Equal, Greater, Less}
use Rattle.dbpl_value.specs.Types.{are_different, is_same_name}

abbrev Name : Type 0
Name = List ℕ

abbrev compared : Name → Name → Ordering
compared x y = slice_cmp nat_cmp x y

-- ---- a list and its permutation

abbrev one_of : Name → Name → ℕ
one_of name other = cond (is_same_name name other) 1 0

-- how often the name stands there
abbrev times : Name → List Name → ℕ
times name [] = 0
times name (x ∷ xs) = one_of name x + times name xs

times-sum : (name : Name) (names : List Name) → times name names ≡ sum_by (one_of name) names
times-sum name names = is_sum_by (times name) (one_of name) refl (λ x xs. refl) names

none-times : (name : Name) (names : List Name) → list_any (is_same_name name) names ≡ false → times name names ≡ 0
none-times name [] h = refl
none-times name (x ∷ xs) h =
    let parts = or_parts (is_same_name name x) (list_any (is_same_name name) xs) h in
    rw (parts.0, none-times name xs parts.1) refl

times-none : (name : Name) (names : List Name) → times name names ≤ 0 → list_any (is_same_name name) names ≡ false
times-none name [] h = refl
times-none name (x ∷ xs) h = by_first (is_same_name name x) refl h (times-none name xs)
  where
    by_first :
        (b : Bool) → is_same_name name x ≡ b → one_of name x + times name xs ≤ 0 →
        (times name xs ≤ 0 → list_any (is_same_name name) xs ≡ false) →
        (is_same_name name x || list_any (is_same_name name) xs) ≡ false
    by_first true e few rest = let more : 1 + times name xs ≤ 0 = rw e at few in absurd (omega arith)
    by_first false e few rest = or_from (is_same_name name x) _ e (rest (omega arith))

at_most_once : (names : List Name) → are_different names ≡ true → (name : Name) → times name names ≤ 1
at_most_once [] h name = omega arith
at_most_once (x ∷ xs) h name =
    let parts = and_parts (not (list_any (is_same_name x) xs)) (are_different xs) h in
    by_first (is_same_name name x) refl (none-times x xs (not-true _ parts.0)) (at_most_once xs parts.1 name)
  where
    by_first :
        (b : Bool) → is_same_name name x ≡ b → times x xs ≡ 0 → times name xs ≤ 1 → one_of name x + times name xs ≤ 1
    by_first true e none few =
        let none_of : times name xs ≡ 0 = ap (λ (n : Name). times n xs) ((bytes_decides name x).0 e) ∙ none in
        rw (e, none_of) (omega arith)
    by_first false e none few = rw e (omega arith)

different-from_times : (names : List Name) → ((name : Name) → times name names ≤ 1) → are_different names ≡ true
different-from_times [] h = refl
different-from_times (x ∷ xs) h =
    and_from (not (list_any (is_same_name x) xs)) (are_different xs)
    (not_from_false _ (times-none x xs (first (h x))))
    (different-from_times xs (λ name. later name (h name)))
  where
    itself : is_same_name x x ≡ true
    itself = (bytes_decides x x).1 refl

    first : one_of x x + times x xs ≤ 1 → times x xs ≤ 0
    first g = let g2 : 1 + times x xs ≤ 1 = rw itself at g in omega arith

    later : (name : Name) → one_of name x + times name xs ≤ 1 → times name xs ≤ 1
    later name g = omega arith

moved : (xs ys : List Name) → IsPermutation xs ys → are_different xs ≡ true → are_different ys ≡ true
moved xs ys p h =
    different-from_times ys (λ name.
    rw (times-sum name ys, sum_by-IsPermutation (one_of name) xs ys p, ← times-sum name xs) (at_most_once xs h name))

same_answers : (a b : Bool) → (a ≡ true → b ≡ true) → (b ≡ true → a ≡ true) → a ≡ b
same_answers true b f g = sym (f refl)
same_answers false true f g = g refl
same_answers false false f g = refl

pub are_different-permutation : (xs ys : List Name) → IsPermutation xs ys → are_different xs ≡ are_different ys
are_different-permutation xs ys p =
    same_answers (are_different xs) (are_different ys) (moved xs ys p) (moved ys xs (IsPermutation-sym xs ys p))

-- ---- neighbours in a sorted list

rises :
    (x y : Name) (o : Ordering) → compared x y ≡ o → is_lt (compared y x) ≡ false → is_same_name x y ≡ false →
    compared x y ≡ Less
rises x y Less e falls other = e
rises x y Equal e falls other = absurd (both_ways (is_same_name x y) other (texts_ties x y ∙ ap is_eq e))
rises x y Greater e falls other =
    absurd (both_ways (is_lt (compared y x)) falls
    (ap is_lt (nat_list_cmp_total.antisymm y x ∙ ap ordering_reverse e)))

module _ {K : Type 0} (name_of : K → Name) where
  -- the names of these rise, though not strictly
  abbrev pub Sorted : List K → Type 0
  Sorted xs = IsSorted (λ x y. compared (name_of x) (name_of y)) xs

  abbrev Differ : K → K → Type 0
  Differ x y = is_same_name (name_of x) (name_of y) ≡ false

  sorted-tail : (x : K) (xs : List K) → Sorted (x ∷ xs) → Sorted xs
  sorted-tail x xs h k d low within =
      rw (add-one k) (simp unary_clauses at (h (suc k) d (omega arith) (omega arith)))

  differ-tail :
      (x : K) (xs : List K) → AllAdjacentBelow Differ (x ∷ xs) (length (x ∷ xs)) → AllAdjacentBelow Differ xs (length xs)
  differ-tail x xs h k d within = rw (add-one k) (simp unary_clauses at (h (suc k) d (omega arith)))

  first-rises :
      (x y : K) (ys : List K) → Sorted (x ∷ y ∷ ys) → AllAdjacentBelow Differ (x ∷ y ∷ ys) (length (x ∷ y ∷ ys)) →
      compared (name_of x) (name_of y) ≡ Less
  first-rises x y ys sorted differ =
      rises (name_of x) (name_of y) (compared (name_of x) (name_of y)) refl (sorted 0 x (omega arith) (omega arith))
      (differ 0 x (omega arith))

  -- a name below the first stands nowhere among them
  below : (name : Name) (x : K) (xs : List K) → compared name (name_of x) ≡ Less → Sorted (x ∷ xs) →
      AllAdjacentBelow Differ (x ∷ xs) (length (x ∷ xs)) → list_any (is_same_name name) (map name_of (x ∷ xs)) ≡ false
  below name x [] less sorted differ =
      or_from (is_same_name name (name_of x)) false (texts_ties name (name_of x) ∙ ap is_eq less) refl
  below name x (y ∷ ys) less sorted differ =
      or_from (is_same_name name (name_of x)) (list_any (is_same_name name) (map name_of (y ∷ ys)))
      (texts_ties name (name_of x) ∙ ap is_eq less)
      (below name y ys (nat_list_cmp_total.trans name (name_of x) (name_of y) less (first-rises x y ys sorted differ))
      (sorted-tail x (y ∷ ys) sorted) (differ-tail x (y ∷ ys) differ))

  -- names in order, of which no two neighbours are equal, are different
  pub different-sorted :
      (xs : List K) → Sorted xs → AllAdjacentBelow Differ xs (length xs) → are_different (map name_of xs) ≡ true
  different-sorted [] sorted differ = refl
  different-sorted (x ∷ []) sorted differ = refl
  different-sorted (x ∷ y ∷ ys) sorted differ =
      and_from (not (list_any (is_same_name (name_of x)) (map name_of (y ∷ ys)))) (are_different (map name_of (y ∷ ys)))
      (not_from_false _ (below (name_of x) y ys (first-rises x y ys sorted differ) (sorted-tail x (y ∷ ys) sorted)
      (differ-tail x (y ∷ ys) differ)))
      (different-sorted (y ∷ ys) (sorted-tail x (y ∷ ys) sorted) (differ-tail x (y ∷ ys) differ))

  different-from :
      (xs : List K) (k : ℕ) (d e : K) → k + 1 < length xs →
      is_same_name (name_of (get_or xs k d)) (name_of (get_or xs (k + 1) e)) ≡ true → are_different (map name_of xs) ≡ false
  different-from [] k d e within same = absurd (omega arith)
  different-from (x ∷ []) k d e within same = absurd (omega arith)
  different-from (x ∷ y ∷ ys) zero d e within same = rw same refl
  different-from (x ∷ y ∷ ys) (suc k) d e within same =
      and_right (not (list_any (is_same_name (name_of x)) (map name_of (y ∷ ys)))) (are_different (map name_of (y ∷ ys)))
      (different-from (y ∷ ys) k d e (omega arith) (rw (add-one k) (simp unary_clauses at same)))

  -- and where two are, they aren't
  pub different-not :
      (xs : List K) (i : ℕ) (d e : K) → 1 ≤ i → i < length xs →
      is_same_name (name_of (get_or xs (i - 1) d)) (name_of (get_or xs i e)) ≡ true → are_different (map name_of xs) ≡ false
  different-not xs i d e low within same =
      let here : i - 1 + 1 ≡ i = omega arith in
      different-from xs (i - 1) d e (omega arith) (rw here same)

  pub different-moved :
      (xs ys : List K) → IsPermutation xs ys → are_different (map name_of ys) ≡ are_different (map name_of xs)
  different-moved xs ys p =
      sym (are_different-permutation (map name_of xs) (map name_of ys) (IsPermutation-map name_of xs ys p))

  pub any-moved :
      (name : Name) (xs ys : List K) → IsPermutation xs ys →
      list_any (is_same_name name) (map name_of ys) ≡ list_any (is_same_name name) (map name_of xs)
  any-moved name xs ys p =
      sym (list_any-IsPermutation (is_same_name name) (map name_of xs) (map name_of ys) (IsPermutation-map name_of xs ys p))

-- ---- a search in a sorted list

any-map :
    {A B : Type 0} (p : B → Bool) (f : A → B) (xs : List A) → list_any p (map f xs) ≡ list_any (λ (x : A). p (f x)) xs
any-map p f [] = refl
any-map p f (x ∷ xs) = ap (λ (b : Bool). p (f x) || b) (any-map p f xs)

same-order :
    (name other : Name) (o : Ordering) → compared other name ≡ o → is_same_name name other ≡ is_eq (ordering_reverse o)
same-order name other o e = texts_ties name other ∙ ap is_eq (nat_list_cmp_total.antisymm name other ∙ ap ordering_reverse e)

module _ {K : Type 0} (name_of : K → Name) where
  found-at :
      (name : Name) (xs : List K) (i : ℕ) → i < length xs → ((d : K) → compared (name_of (get_or xs i d)) name ≡ Equal) →
      list_any (λ (x : K). is_same_name name (name_of x)) xs ≡ true
  found-at name [] i within here = absurd (omega arith)
  found-at name (x ∷ xs) i within here =
      list_any_at (λ (y : K). is_same_name name (name_of y)) (x ∷ xs) i x within (same-order name _ Equal (here x))

  -- a binary search finds a name exactly where it stands there
  pub found :
      (name : Name) (xs : List K) (r : Result ℕ ℕ) → Sorted name_of xs → IsSearchInRange r (length xs) →
      IsBinarySearchResult (λ y. compared (name_of y) name) xs r → is_ok r ≡ list_any (is_same_name name) (map name_of xs)
  found name xs (Ok i) sorted within searched =
      sym (any-map (is_same_name name) name_of xs ∙ found-at name xs i within searched)
  found name xs (Err i) sorted within searched =
      let split = searched (searchable_from_sorted nat_list_cmp_total name_of xs name sorted) in
      sym (any-map (is_same_name name) name_of xs
      ∙ list_any_none (λ (y : K). is_same_name name (name_of y)) xs (λ k d inside. by_side split k d inside (cases_lt k i)))
    where
      by_side :
          IsPartitionPoint (λ y. compared (name_of y) name ≡ Less) (λ y. compared (name_of y) name ≡ Greater) xs i →
          (k : ℕ) (d : K) → k < length xs → (k < i) ⊎ (i ≤ k) → is_same_name name (name_of (get_or xs k d)) ≡ false
      by_side split k d inside (inl before) = same-order name _ Less (split.0 k d (omega arith) before)
      by_side split k d inside (inr behind) = same-order name _ Greater (split.1 k d behind inside)
