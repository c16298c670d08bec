-- Where a search by a key ends.
use Rattle.std.proofs.Common.{◌≡◌, ◌+◌, ◌<◌, ◌≤◌, ℕ, zero, suc, true, false, List, [], ◌∷◌, length, get_or, None, Result, Ok, Err, ◌⊎◌, inl, inr, refl, ap, sym, ◌∙◌, arith}
use Rattle.std.proofs.lemmas.Bool.{cases_lt}
use Rattle.std.specs.List.{AllWithin, HoldsAt, slice_get}
use Rattle.std.specs.List.Sorted.{IsBinarySearchResult, IsSearchInRange}
use Rattle.std.specs.Ordering.{is_eq, ordering_index, ordering_reverse}
use Rattle.std.specs.Prelude.{ℤ}
use Rattle.std.specs.declared.cmp.Ordering.{Ordering}
use Rattle.std.specs.declared.cmp.Ordering.TheVariants.{Equal, Greater, Less}
use Rattle.dbpl_value.proofs.KeyOrder.{cmp-rises, key_cmp_total, keys_rise-at}
use Rattle.dbpl_value.specs.Keys.{has_key, key_cmp, key_of, keys_rise}
use Rattle.dbpl_value.specs.declared.db_type.DbType.{DbType}
use Rattle.dbpl_value.specs.declared.value.Value.{Value}
use Rattle.dbpl_relation.proofs.KeyLemmas.{key_cmp-exact}
use Rattle.dbpl_relation.specs.Relations.{IsPlace, record_with}

-- within the list no default is asked
pub get_or-same : {X : Type 0} (xs : List X) (place : ℕ) (d e : X) → place < length xs → get_or xs place d ≡ get_or xs place e
get_or-same [] place d e h = absurd (omega arith)
get_or-same (x ∷ xs) zero d e h = refl
get_or-same (x ∷ xs) (suc place) d e h = get_or-same xs place d e (omega arith)

module _ (t : DbType) (key : List (List ℤ)) where
  -- the order of the record at a place
  pub order_at :
      (records : List Value) (place : ℕ) (element : Value) (order : Ordering) → place < length records →
      element ≡ get_or records place element → order ≡ key_cmp (key_of t element) key →
      HoldsAt (λ other. key_cmp (key_of t other) key ≡ order) records place
  order_at records place element order within e h d =
      ap (λ (other : Value). key_cmp (key_of t other) key) (get_or-same records place d element within ∙ sym e) ∙ sym h

  rises_by :
      (records : List Value) → keys_rise t records ≡ true → (i j : ℕ) (d : Value) → j < length records →
      (i < j) ⊎ (j ≤ i) → i ≤ j →
      ordering_index (key_cmp (key_of t (get_or records i d)) key) ≤ ordering_index (key_cmp (key_of t (get_or records j d)) key)
  rises_by records rises i j d within (inl lt) le =
      cmp-rises key_cmp_total (key_of t (get_or records i d)) (key_of t (get_or records j d)) key
      (keys_rise-at t records i j d rises lt within)
  rises_by records rises i j d within (inr ge) le = let e : i ≡ j = omega arith in rw e (omega arith)

  -- what a binary search answers is the place
  pub place-of_search :
      (records : List Value) (result : Result ℕ ℕ) → keys_rise t records ≡ true → IsSearchInRange result (length records) →
      IsBinarySearchResult (λ element. key_cmp (key_of t element) key) records result → IsPlace t key records result
  place-of_search records (Ok place) rises within searched = (within, searched)
  place-of_search records (Err place) rises within searched =
      let split = searched (λ i j d le high. rises_by records rises i j d high (cases_lt i j) le) in
      (within, split.0, split.1)

  unlike : (order : Ordering) → (order ≡ Less) ⊎ (order ≡ Greater) → is_eq order ≡ false
  unlike order (inl e) = ap is_eq e
  unlike order (inr e) = ap is_eq e

  find-skips :
      (element : Value) (rest : List Value) → has_key t key element ≡ false →
      record_with t key (element ∷ rest) ≡ record_with t key rest
  find-skips element rest e = rw e refl

  -- the record where the search found the key is the one with it
  pub record_with-found :
      (records : List Value) (place : ℕ) → place < length records →
      AllWithin (λ element. key_cmp (key_of t element) key ≡ Less) records 0 place →
      HoldsAt (λ element. key_cmp (key_of t element) key ≡ Equal) records place →
      record_with t key records ≡ slice_get records place
  record_with-found [] place within below here = absurd (omega arith)
  record_with-found (first ∷ rest) zero within below here =
      let e : has_key t key first ≡ true = ap is_eq (here first) in
      rw e refl
  record_with-found (first ∷ rest) (suc place) within below here =
      find-skips first rest (unlike _ (inl (below 0 first (omega arith) (omega arith))))
      ∙ record_with-found rest place (omega arith) (λ k d low high. below (suc k) d (omega arith) (omega arith)) here

  -- where it found none, there is none
  pub record_with-absent :
      (records : List Value) (place : ℕ) → place ≤ length records →
      AllWithin (λ element. key_cmp (key_of t element) key ≡ Less) records 0 place →
      AllWithin (λ element. key_cmp (key_of t element) key ≡ Greater) records place (length records) →
      record_with t key records ≡ None
  record_with-absent [] place le below above = refl
  record_with-absent (first ∷ rest) zero le below above =
      find-skips first rest (unlike _ (inr (above 0 first (omega arith) (omega arith))))
      ∙ record_with-absent rest zero (omega arith) (λ k d low high. absurd (omega arith))
      (λ k d low high. above (suc k) d (omega arith) (omega arith))
  record_with-absent (first ∷ rest) (suc place) le below above =
      find-skips first rest (unlike _ (inl (below 0 first (omega arith) (omega arith))))
      ∙ record_with-absent rest place (omega arith) (λ k d low high. below (suc k) d (omega arith) (omega arith))
      (λ k d low high. above (suc k) d (omega arith) (omega arith))

  pub less_before_equal :
      (records : List Value) (place : ℕ) → keys_rise t records ≡ true → place < length records →
      HoldsAt (λ element. key_cmp (key_of t element) key ≡ Equal) records place →
      AllWithin (λ element. key_cmp (key_of t element) key ≡ Less) records 0 place
  less_before_equal records place rises within here k d low high =
      ap (λ z. key_cmp (key_of t (get_or records k d)) z) (sym (key_cmp-exact (key_of t (get_or records place d)) key (here d)))
      ∙ keys_rise-at t records k place d rises high within

  pub less_below :
      (records : List Value) (place : ℕ) → keys_rise t records ≡ true → place < length records →
      HoldsAt (λ element. key_cmp (key_of t element) key ≡ Less) records place →
      AllWithin (λ element. key_cmp (key_of t element) key ≡ Less) records 0 (place + 1)
  less_below records place rises within here k d low high = by_place (cases_lt k place)
    where
      by_place : (k < place) ⊎ (place ≤ k) → key_cmp (key_of t (get_or records k d)) key ≡ Less
      by_place (inl lt) =
          key_cmp_total.trans (key_of t (get_or records k d)) (key_of t (get_or records place d)) key
          (keys_rise-at t records k place d rises lt within) (here d)
      by_place (inr ge) = let e : k ≡ place = omega arith in rw e (here d)

  pub greater_above :
      (records : List Value) (place : ℕ) → keys_rise t records ≡ true → place < length records →
      HoldsAt (λ element. key_cmp (key_of t element) key ≡ Greater) records place →
      AllWithin (λ element. key_cmp (key_of t element) key ≡ Greater) records place (length records)
  greater_above records place rises within here k d low high = by_place (cases_lt place k)
    where
      less : key_cmp key (key_of t (get_or records place d)) ≡ Less
      less = key_cmp_total.antisymm key (key_of t (get_or records place d)) ∙ ap ordering_reverse (here d)

      by_place : (place < k) ⊎ (k ≤ place) → key_cmp (key_of t (get_or records k d)) key ≡ Greater
      by_place (inl lt) =
          key_cmp_total.antisymm (key_of t (get_or records k d)) key
          ∙ ap ordering_reverse (
          key_cmp_total.trans key (key_of t (get_or records place d)) (key_of t (get_or records k d)) less
          (keys_rise-at t records place k d rises lt high)
          )
      by_place (inr ge) = let e : k ≡ place = omega arith in rw e (here d)
