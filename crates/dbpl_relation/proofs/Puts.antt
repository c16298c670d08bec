-- What `put` makes of records in the order of their keys.
use Rattle.std.proofs.Common.{◌≡◌, ◌<◌, ◌≤◌, ℕ, zero, suc, Bool, true, false, ◌&&◌, List, [], ◌∷◌, length, get_or, set, refl, ap, sym, ◌∙◌, arith}
use Rattle.std.specs.Cmp.{first_so, second_so}
use Rattle.std.specs.List.{AllWithin, HoldsAt, insert, list_all}
use Rattle.std.specs.Ordering.{is_eq, is_lt, ordering_reverse}
use Rattle.std.specs.Prelude.{if◌then◌else◌}
use Rattle.std.specs.declared.cmp.Ordering.{Ordering}
use Rattle.std.specs.declared.cmp.Ordering.TheVariants.{Equal, Greater, Less}
use Rattle.dbpl_value.proofs.KeyOrder.{key_cmp_total}
use Rattle.dbpl_value.specs.Keys.{key_cmp, key_of, keys_rise}
use Rattle.dbpl_value.specs.declared.db_type.DbType.{DbType}
use Rattle.dbpl_value.specs.declared.value.Value.{Value}
use Rattle.dbpl_relation.specs.Relations.{stands_before, merged, put}
use Rattle.dbpl_relation.proofs.KeyLemmas.{is_lt-Less, key_cmp-exact}

pub both_so : (a b : Bool) → a ≡ true → b ≡ true → a && b ≡ true
both_so true true h g = refl
both_so true false h g = g
both_so false b h g = h

pub list_all-mono :
    {X : Type 0} (p q : X → Bool) (xs : List X) → ((x : X) → p x ≡ true → q x ≡ true) → list_all p xs ≡ true →
    list_all q xs ≡ true
list_all-mono p q [] so h = refl
list_all-mono p q (x ∷ xs) so h =
    both_so (q x) (list_all q xs) (so x (first_so (p x) (list_all p xs) h))
    (list_all-mono p q xs so (second_so (p x) (list_all p xs) h))

-- a test that holds of every item holds at a place
pub list_all-at :
    {X : Type 0} (p : X → Bool) (records : List X) (place : ℕ) (d : X) → list_all p records ≡ true →
    place < length records → p (get_or records place d) ≡ true
list_all-at p [] place d h g = absurd (omega arith)
list_all-at p (first ∷ rest) zero d h g = first_so (p first) (list_all p rest) h
list_all-at p (first ∷ rest) (suc place) d h g =
    list_all-at p rest place d (second_so (p first) (list_all p rest) h) (omega arith)

-- what `put` makes of records that begin with `first`, by the order of its key to that of the record
abbrev put_by : Value → Value → List Value → List Value → Ordering → List Value
put_by element first rest behind order =
    if is_lt order then first ∷ behind else if is_eq order then element ∷ rest else element ∷ first ∷ rest

module _ (t : DbType) where
  abbrev order_of : Value → Value → Ordering
  order_of element other = key_cmp (key_of t element) (key_of t other)

  put-step :
      (first : Value) (rest : List Value) (element : Value) (order : Ordering) → order_of first element ≡ order →
      put t (first ∷ rest) element ≡ put_by element first rest (put t rest element) order
  put-step first rest element order e = ap (put_by element first rest (put t rest element)) e

  -- a record with a key that none has stands between those before it and those behind
  pub put-absent :
      (records : List Value) (element : Value) (place : ℕ) → place ≤ length records →
      AllWithin (λ other. key_cmp (key_of t other) (key_of t element) ≡ Less) records 0 place →
      AllWithin (λ other. key_cmp (key_of t other) (key_of t element) ≡ Greater) records place (length records) →
      put t records element ≡ insert records place element
  put-absent [] element zero le below above = refl
  put-absent [] element (suc place) le below above = absurd (omega arith)
  put-absent (first ∷ rest) element zero le below above =
      put-step first rest element Greater (above 0 first (omega arith) (omega arith))
  put-absent (first ∷ rest) element (suc place) le below above =
      put-step first rest element Less (below 0 first (omega arith) (omega arith))
      ∙ ap (λ others. first ∷ others)
      (put-absent rest element place (omega arith) (λ k d low high. below (suc k) d (omega arith) (omega arith))
      (λ k d low high. above (suc k) d (omega arith) (omega arith)))

  -- and else it takes the place of the one with its key
  pub put-found :
      (records : List Value) (element : Value) (place : ℕ) → keys_rise t records ≡ true → place < length records →
      HoldsAt (λ other. key_cmp (key_of t other) (key_of t element) ≡ Equal) records place →
      put t records element ≡ set records place element
  put-found [] element place rises within here = absurd (omega arith)
  put-found (first ∷ rest) element zero rises within here = put-step first rest element Equal (here first)
  put-found (first ∷ rest) element (suc place) rises within here =
      let below = list_all-at (stands_before t first) rest place first
      (first_so (list_all (stands_before t first) rest) (keys_rise t rest) rises) (omega arith)
      in
      let less = is_lt-Less (order_of first (get_or rest place first)) below in
      let key = key_cmp-exact (key_of t (get_or rest place first)) (key_of t element) (here first) in
      put-step first rest element Less (ap (λ other. key_cmp (key_of t first) other) (sym key) ∙ less)
      ∙ ap (λ others. first ∷ others)
      (put-found rest element place (second_so (list_all (stands_before t first) rest) (keys_rise t rest) rises)
      (omega arith) here)

  put_by-all :
      (p : Value → Bool) (first : Value) (rest behind : List Value) (element : Value) (order : Ordering) →
      p element ≡ true → p first ≡ true → list_all p rest ≡ true → list_all p behind ≡ true →
      list_all p (put_by element first rest behind order) ≡ true
  put_by-all p first rest behind element Less e f r b = both_so (p first) (list_all p behind) f b
  put_by-all p first rest behind element Equal e f r b = both_so (p element) (list_all p rest) e r
  put_by-all p first rest behind element Greater e f r b =
      both_so (p element) (p first && list_all p rest) e (both_so (p first) (list_all p rest) f r)

  -- what holds of the records and of one more holds of all
  pub put-all :
      (p : Value → Bool) (records : List Value) (element : Value) → p element ≡ true → list_all p records ≡ true →
      list_all p (put t records element) ≡ true
  put-all p [] element e h = both_so (p element) true e refl
  put-all p (first ∷ rest) element e h =
      let f = first_so (p first) (list_all p rest) h in
      let r = second_so (p first) (list_all p rest) h in
      put_by-all p first rest (put t rest element) element (order_of first element) e f r (put-all p rest element e r)

  turned : (first element : Value) → order_of first element ≡ Greater → order_of element first ≡ Less
  turned first element e =
      key_cmp_total.antisymm (key_of t element) (key_of t first) ∙ ap ordering_reverse e

  put_by-rises :
      (first : Value) (rest behind : List Value) (element : Value) (order : Ordering) → order_of first element ≡ order →
      list_all (stands_before t first) rest ≡ true → keys_rise t rest ≡ true →
      list_all (stands_before t first) behind ≡ true → keys_rise t behind ≡ true →
      keys_rise t (put_by element first rest behind order) ≡ true
  put_by-rises first rest behind element Less e before rises before_behind rises_behind =
      both_so (list_all (stands_before t first) behind) (keys_rise t behind) before_behind rises_behind
  put_by-rises first rest behind element Equal e before rises before_behind rises_behind =
      let key = key_cmp-exact (key_of t first) (key_of t element) e in
      both_so (list_all (stands_before t element) rest) (keys_rise t rest)
      (list_all-mono (stands_before t first) (stands_before t element) rest
      (λ other h. ap (λ z. is_lt (key_cmp z (key_of t other))) (sym key) ∙ h) before)
      rises
  put_by-rises first rest behind element Greater e before rises before_behind rises_behind =
      let less = turned first element e in
      both_so (stands_before t element first && list_all (stands_before t element) rest)
      (list_all (stands_before t first) rest && keys_rise t rest)
      (both_so (stands_before t element first) (list_all (stands_before t element) rest) (ap is_lt less)
      (list_all-mono (stands_before t first) (stands_before t element) rest
      (λ other h.
      ap is_lt (
      key_cmp_total.trans (key_of t element) (key_of t first) (key_of t other) less
      (is_lt-Less (order_of first other) h)
      ))
      before))
      (both_so (list_all (stands_before t first) rest) (keys_rise t rest) before rises)

  by_before :
      (first element : Value) (rest : List Value) (order : Ordering) → order_of first element ≡ order →
      list_all (stands_before t first) rest ≡ true → keys_rise t rest ≡ true → keys_rise t (put t rest element) ≡ true →
      keys_rise t (put_by element first rest (put t rest element) order) ≡ true
  by_before first element rest Less e before rises behind =
      put_by-rises first rest (put t rest element) element Less e before rises
      (put-all (stands_before t first) rest element (ap is_lt e) before) behind
  by_before first element rest Equal e before rises behind =
      put_by-rises first rest rest element Equal e before rises before rises
  by_before first element rest Greater e before rises behind =
      put_by-rises first rest rest element Greater e before rises before rises

  -- the keys still rise
  pub put-rises :
      (records : List Value) (element : Value) → keys_rise t records ≡ true → keys_rise t (put t records element) ≡ true
  put-rises [] element h = refl
  put-rises (first ∷ rest) element h =
      let before = first_so (list_all (stands_before t first) rest) (keys_rise t rest) h in
      let rises = second_so (list_all (stands_before t first) rest) (keys_rise t rest) h in
      by_before first element rest (order_of first element) refl before rises (put-rises rest element rises)

  pub merged-all :
      (p : Value → Bool) (records others : List Value) → list_all p records ≡ true → list_all p others ≡ true →
      list_all p (merged t records others) ≡ true
  merged-all p records [] h g = h
  merged-all p records (other ∷ others) h g =
      merged-all p (put t records other) others (put-all p records other (first_so (p other) (list_all p others) g) h)
      (second_so (p other) (list_all p others) g)

  pub merged-rises :
      (records others : List Value) → keys_rise t records ≡ true → keys_rise t (merged t records others) ≡ true
  merged-rises records [] h = h
  merged-rises records (other ∷ others) h = merged-rises (put t records other) others (put-rises records other h)
