-- The order of keys is total, and a binary search finds the record with a key.
use Rattle.std.proofs.Common.{◌≡◌, ◌<◌, ◌≤◌, ℕ, zero, suc, Bool, true, false, List, [], ◌∷◌, length, get_or, Err, ◌⊎◌, inl, inr, refl, ap, sym, ◌∙◌, arith}
use Rattle.std.proofs.lemmas.Bool.{cases_lt}
use Rattle.std.proofs.lemmas.List.Sums.{position_or_len_is}
use Rattle.std.specs.Prelude.{ℤ, pos}
use Rattle.std.specs.Cmp.{IsTotalOrder, first_so, int_cmp_total, second_so}
use Rattle.std.specs.Cmp.Lexicographic.{lists_total}
use Rattle.std.specs.List.{HoldsAt, list_all, position_or_len}
use Rattle.std.specs.List.Sorted.{IsBinarySearchResult, IsNonDecreasingBy, IsPartitionPoint}
use Rattle.std.specs.Ordering.{is_eq, is_lt, ordering_index, ordering_reverse}
use Rattle.std.specs.declared.cmp.Ordering.{Ordering}
use Rattle.std.specs.declared.cmp.Ordering.TheVariants.{Equal, Greater, Less}
use Rattle.dbpl_value.specs.Keys.{has_key, key_cmp, key_of, keys_rise}
use Rattle.dbpl_value.specs.declared.db_type.DbType.{DbType}
use Rattle.dbpl_value.specs.declared.value.Value.{Value}
use Rattle.dbpl_value.specs.declared.value.Value.TheVariants as value

pub key_cmp_total : IsTotalOrder key_cmp
key_cmp_total = lists_total (lists_total int_cmp_total)

module _ {K : Type 0} {R : K → K → Ordering} (total : IsTotalOrder R) where
  -- equal items stand alike to every other
  pub cmp-tie : (x y z : K) → R y z ≡ Equal → R x y ≡ R x z
  cmp-tie x y z e = total.antisymm x y ∙ ap ordering_reverse (total.congr y z x e) ∙ sym (total.antisymm x z)

  by_second : (x y z : K) (o : Ordering) → R x y ≡ Less → R y z ≡ o → ordering_index (R x z) ≤ ordering_index o
  by_second x y z Less h e = rw (total.trans x y z h e) (omega arith)
  by_second x y z Equal h e = rw (← cmp-tie x y z e, h) (omega arith)
  by_second x y z Greater h e = at_most (R x z)
    where
      at_most : (o : Ordering) → ordering_index o ≤ 2
      at_most Less = omega arith
      at_most Equal = omega arith
      at_most Greater = omega arith

  -- a lesser item doesn't stand above where a greater one stands
  pub cmp-rises : (x y z : K) → R x y ≡ Less → ordering_index (R x z) ≤ ordering_index (R y z)
  cmp-rises x y z h = by_second x y z (R y z) h refl

is_lt-Less : (o : Ordering) → is_lt o ≡ true → o ≡ Less
is_lt-Less Less h = refl
is_lt-Less Equal h = cc
is_lt-Less Greater h = cc

-- a test that holds of every item holds at a position
pub list_all-get_or :
    {X : Type 0} (p : X → Bool) (xs : List X) (i : ℕ) (d : X) → list_all p xs ≡ true → i < length xs →
    p (get_or xs i d) ≡ true
list_all-get_or p [] i d h g = absurd (omega arith)
list_all-get_or p (x ∷ xs) zero d h g = first_so (p x) (list_all p xs) h
list_all-get_or p (x ∷ xs) (suc i) d h g =
    list_all-get_or p xs i d (second_so (p x) (list_all p xs) h) (omega arith)

-- records at two positions, the first before the second
pub keys_rise-at :
    (t : DbType) (records : List Value) (i j : ℕ) (d : Value) → keys_rise t records ≡ true → i < j → j < length records →
    key_cmp (key_of t (get_or records i d)) (key_of t (get_or records j d)) ≡ Less
keys_rise-at t [] i j d h g k = absurd (omega arith)
keys_rise-at t (x ∷ xs) zero zero d h g k = absurd (omega arith)
keys_rise-at t (x ∷ xs) zero (suc j) d h g k =
    is_lt-Less _ (list_all-get_or (λ later. is_lt (key_cmp (key_of t x) (key_of t later))) xs j d
    (first_so (list_all (λ later. is_lt (key_cmp (key_of t x) (key_of t later))) xs) (keys_rise t xs) h) (omega arith))
keys_rise-at t (x ∷ xs) (suc i) zero d h g k = absurd (omega arith)
keys_rise-at t (x ∷ xs) (suc i) (suc j) d h g k =
    keys_rise-at t xs i j d (second_so (list_all (λ later. is_lt (key_cmp (key_of t x) (key_of t later))) xs) (keys_rise t xs) h)
    (omega arith) (omega arith)

-- where a binary search by a key found a record, the first record with that key stands
pub place-found :
    (t : DbType) (key : List (List ℤ)) (records : List Value) (i : ℕ) → keys_rise t records ≡ true → i < length records →
    HoldsAt (λ element. key_cmp (key_of t element) key ≡ Equal) records i → position_or_len (has_key t key) records ≡ i
place-found t key records i rises within here =
    position_or_len_is (has_key t key) records i (value.Num (pos 0)) (omega arith)
    (λ k below. before k below (key_cmp (key_of t (get_or records k (value.Num (pos 0)))) key) refl)
    (λ _. ap is_eq (here (value.Num (pos 0))))
  where
    before :
        (k : ℕ) → k < i → (o : Ordering) → key_cmp (key_of t (get_or records k (value.Num (pos 0)))) key ≡ o →
        is_eq (key_cmp (key_of t (get_or records k (value.Num (pos 0)))) key) ≡ false
    before k below o e =
        ap is_eq (
        sym (
        cmp-tie key_cmp_total (key_of t (get_or records k (value.Num (pos 0))))
        (key_of t (get_or records i (value.Num (pos 0)))) key (here (value.Num (pos 0)))
        )
        ∙ keys_rise-at t records k i (value.Num (pos 0)) rises below within
        )

never : (o : Ordering) → (o ≡ Less) ⊎ (o ≡ Greater) → is_eq o ≡ false
never o (inl e) = ap is_eq e
never o (inr e) = ap is_eq e

-- the records don't fall, seen from a key
records_rise :
    (t : DbType) (key : List (List ℤ)) (records : List Value) → keys_rise t records ≡ true →
    IsNonDecreasingBy (λ element. ordering_index (key_cmp (key_of t element) key)) records
records_rise t key records rises i j d le within =
    by_order i j d within (cases_lt i j) le
  where
    by_order :
        (i j : ℕ) (d : Value) → j < length records → (i < j) ⊎ (j ≤ i) → i ≤ j →
        ordering_index (key_cmp (key_of t (get_or records i d)) key)
        ≤ ordering_index (key_cmp (key_of t (get_or records j d)) key)
    by_order i j d within (inl lt) le =
        cmp-rises key_cmp_total (key_of t (get_or records i d)) (key_of t (get_or records j d)) key
        (keys_rise-at t records i j d rises lt within)
    by_order i j d within (inr ge) le = let e : i ≡ j = omega arith in rw e (omega arith)

-- where it found none, none has that key
pub place-absent :
    (t : DbType) (key : List (List ℤ)) (records : List Value) (i : ℕ) → keys_rise t records ≡ true →
    IsBinarySearchResult (λ element. key_cmp (key_of t element) key) records (Err i) →
    position_or_len (has_key t key) records ≡ length records
place-absent t key records i rises searched =
    let split = searched (records_rise t key records rises) in
    position_or_len_is (has_key t key) records (length records) (value.Num (pos 0)) (omega arith)
    (λ k within. none k within (cases_lt k i) split) (λ past. absurd (omega arith))
  where
    none :
        (k : ℕ) → k < length records → (k < i) ⊎ (i ≤ k) →
        IsPartitionPoint (λ element. key_cmp (key_of t element) key ≡ Less)
        (λ element. key_cmp (key_of t element) key ≡ Greater) records i →
        has_key t key (get_or records k (value.Num (pos 0))) ≡ false
    none k within (inl lt) split = never _ (inl (split.0 k (value.Num (pos 0)) (omega arith) lt))
    none k within (inr ge) split = never _ (inr (split.1 k (value.Num (pos 0)) ge within))
