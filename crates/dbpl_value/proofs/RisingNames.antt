-- Relation variables whose names rise from each to the next rise altogether.
use Rattle.std.proofs.Common.{◌≡◌, ◌+◌, ◌-◌, ◌<◌, ◌≤◌, ℕ, zero, suc, Bool, true, false, List, [], ◌∷◌, length, get_or, ◌⊎◌, inl, inr, refl, ap, sym, ◌∙◌, arith}
use Rattle.std.proofs.lemmas.Bool.{cases_lt}
use Rattle.std.proofs.lemmas.List.{get_or_default}
use Rattle.std.specs.Cmp.{first_so, second_so}
use Rattle.std.specs.Cmp.Derive.{both_true}
use Rattle.dbpl_value.proofs.KeyOrder.{list_all-get_or}
use Rattle.std.specs.List.{list_all}
use Rattle.std.specs.Ordering.{is_lt}
use Rattle.std.specs.declared.cmp.Ordering.{Ordering}
use Rattle.std.specs.declared.cmp.Ordering.TheVariants.{Equal, Greater, Less}
use Rattle.std.proofs.lemmas.Cmp.{nat_list_cmp_total}
use Rattle.dbpl_value.specs.Databases.{name_cmp, names_rise}
use Rattle.dbpl_value.specs.declared.bound.Bound.{Bound}

pub is_lt-Less : (o : Ordering) → is_lt o ≡ true → o ≡ Less
is_lt-Less Less h = refl
is_lt-Less Equal h = cc
is_lt-Less Greater h = cc

-- the record at j has a lesser key than the one at k
abbrev pub Rises : List Bound → ℕ → ℕ → Type 0
Rises records j k = (d : Bound) → name_cmp (get_or records j d).name (get_or records k d).name ≡ Less

all_at :
    {X : Type 0} (p : X → Bool) (xs : List X) → ((j : ℕ) (d : X) → j < length xs → p (get_or xs j d) ≡ true) →
    list_all p xs ≡ true
all_at p [] h = refl
all_at p (x ∷ xs) h = both_true (h 0 x (omega arith)) (all_at p xs (λ j d within. h (suc j) d (omega arith)))

pub names_rise-from :
    (records : List Bound) →
    ((j k : ℕ) → j < k → k < length records → Rises records j k) → names_rise records ≡ true
names_rise-from [] h = refl
names_rise-from (x ∷ xs) h =
    both_true (all_at (λ later. is_lt (name_cmp x.name later.name)) xs
    (λ j d within. ap is_lt (h 0 (suc j) (omega arith) (omega arith) d)))
    (names_rise-from xs (λ j k lt within. h (suc j) (suc k) (omega arith) (omega arith)))

-- relation variables at two positions, the first before the second
pub names_rise-at :
    (records : List Bound) (i j : ℕ) (d : Bound) → names_rise records ≡ true → i < j → j < length records →
    name_cmp (get_or records i d).name (get_or records j d).name ≡ Less
names_rise-at [] i j d h g k = absurd (omega arith)
names_rise-at (x ∷ xs) zero zero d h g k = absurd (omega arith)
names_rise-at (x ∷ xs) zero (suc j) d h g k =
    is_lt-Less _ (list_all-get_or (λ later. is_lt (name_cmp x.name later.name)) xs j d
    (first_so (list_all (λ later. is_lt (name_cmp x.name later.name)) xs) (names_rise xs) h) (omega arith))
names_rise-at (x ∷ xs) (suc i) zero d h g k = absurd (omega arith)
names_rise-at (x ∷ xs) (suc i) (suc j) d h g k =
    names_rise-at xs i j d (second_so (list_all (λ later. is_lt (name_cmp x.name later.name)) xs) (names_rise xs) h)
    (omega arith) (omega arith)

-- one more record, whose key is above the one before
pub rises-more :
    (records : List Bound) (i : ℕ) (last next : Bound) → 1 ≤ i → i < length records →
    last ≡ get_or records (i - 1) last → next ≡ get_or records i next → is_lt (name_cmp last.name next.name) ≡ true →
    ((j k : ℕ) (d : Bound) → j < k → k < i → name_cmp (get_or records j d).name (get_or records k d).name ≡ Less) →
    (j k : ℕ) (d : Bound) → j < k → k < i + 1 →
    name_cmp (get_or records j d).name (get_or records k d).name ≡ Less
rises-more records i last next positive within el en less before j k d lt end = by_last (cases_lt k i)
  where
    here : name_cmp (get_or records (i - 1) d).name (get_or records i d).name ≡ Less
    here =
        let a : get_or records (i - 1) d ≡ last = get_or_default records (i - 1) d last (omega arith) ∙ sym el in
        let b : get_or records i d ≡ next = get_or_default records i d next within ∙ sym en in
        rw (a, b) (is_lt-Less _ less)

    by_place :
        (j < i - 1) ⊎ (i - 1 ≤ j) → j < i → name_cmp (get_or records j d).name (get_or records i d).name ≡ Less
    by_place (inl first) below =
        nat_list_cmp_total.trans (get_or records j d).name (get_or records (i - 1) d).name (get_or records i d).name
        (before j (i - 1) d first (omega arith)) here
    by_place (inr same) below = let e : j ≡ i - 1 = omega arith in rw e here

    by_last : (k < i) ⊎ (i ≤ k) → name_cmp (get_or records j d).name (get_or records k d).name ≡ Less
    by_last (inl earlier) = before j k d lt earlier
    by_last (inr last_one) =
        let e : k ≡ i = omega arith in
        rw e (by_place (cases_lt j (i - 1)) (omega arith))

falls :
    (records : List Bound) (b : Bool) → names_rise records ≡ b → (i : ℕ) (last next : Bound) → 1 ≤ i →
    i < length records → last ≡ get_or records (i - 1) last → next ≡ get_or records i next →
    is_lt (name_cmp last.name next.name) ≡ false → b ≡ false
falls records false e i last next positive within el en not_less = refl
falls records true e i last next positive within el en not_less =
    let less = names_rise-at records (i - 1) i last e (omega arith) within in
    let b : get_or records i last ≡ next = get_or_default records i last next within ∙ sym en in
    let less2 : name_cmp last.name next.name ≡ Less = rw (el, ← b) less in
    absurd cc

-- a record whose key isn't above the one before
pub rises-not :
    (records : List Bound) (i : ℕ) (last next : Bound) → 1 ≤ i → i < length records →
    last ≡ get_or records (i - 1) last → next ≡ get_or records i next →
    is_lt (name_cmp last.name next.name) ≡ false → names_rise records ≡ false
rises-not records i last next positive within el en not_less =
    falls records (names_rise records) refl i last next positive within el en not_less
