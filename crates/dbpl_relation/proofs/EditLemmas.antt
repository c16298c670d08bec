-- What taking a record away and giving way to one make of the records.
use Rattle.std.proofs.Common.{◌≡◌, ◌<◌, ℕ, zero, suc, Bool, true, false, cond, not, List, [], ◌∷◌, length, map, get_or, set, Option, Some, None, refl, ap, sym, ◌∙◌, arith}
use Rattle.std.specs.Cmp.{both_ways, first_so, second_so, tied_itself}
use Rattle.std.specs.List.{HoldsAt, list_all, remove}
use Rattle.std.specs.Option.{unwrap_or}
use Rattle.std.specs.Ordering.{is_eq, ordering_reverse}
use Rattle.std.specs.Prelude.{◌↔◌, IsTrue, if◌then◌else◌}
use Rattle.std.specs.declared.cmp.Ordering.{Ordering}
use Rattle.std.specs.declared.cmp.Ordering.TheVariants.{Equal, Greater, Less}
use Rattle.dbpl_value.proofs.KeyOrder.{key_cmp_total}
use Rattle.dbpl_value.specs.Keys.{has_key, key_cmp, key_of, keys_rise}
use Rattle.dbpl_value.specs.declared.db_type.DbType.{DbType}
use Rattle.dbpl_value.specs.declared.value.Value.{Value}
use Rattle.dbpl_value.proofs.EqualityLemmas.{is_same-equal, is_same-own}
use Rattle.dbpl_relation.proofs.Lacking.{first_lacks, lacks, rest_lacks}
use Rattle.dbpl_relation.proofs.Puts.{both_so, list_all-mono, put-found, put-rises}
use Rattle.dbpl_relation.proofs.Searching.{get_or-same}
use Rattle.dbpl_relation.specs.Changes.{everywhere, removed, replaced, replacement}
use Rattle.dbpl_value.specs.Equality.{is_same}
use Rattle.dbpl_relation.specs.Relations.{stands_before, record_with}

no_but : (b : Bool) → (b ≡ true → ⊥) → b ≡ false
no_but true h = absurd (h refl)
no_but false h = refl

un_not : (b : Bool) → not b ≡ true → b ≡ false
un_not true h = cc
un_not false h = refl

is_eq-reverse : (order : Ordering) → is_eq (ordering_reverse order) ≡ is_eq order
is_eq-reverse Less = refl
is_eq-reverse Equal = refl
is_eq-reverse Greater = refl

-- which of two records stands after a choice
either_way : (b : Bool) (x : Value) → (if b then x else x) ≡ x
either_way true x = refl
either_way false x = refl

chosen_by-outside : (b : Bool) (x y : Value) → b ≡ false → (if b then x else y) ≡ y
chosen_by-outside true x y e = cc
chosen_by-outside false x y e = refl

chosen_by-one :
    (b c : Bool) (x y : Value) (other : Option Value) → b ≡ true → c ≡ true →
    (if b then unwrap_or (cond c (Some x) other) y else y) ≡ x
chosen_by-one true true x y other e f = refl
chosen_by-one true false x y other e f = cc
chosen_by-one false c x y other e f = cc

chosen-one :
    (b c : Bool) (x y : Value) → b ≡ true → c ≡ true → (if b then unwrap_or (cond c (Some x) None) y else y) ≡ x
chosen-one b c x y e f = chosen_by-one b c x y None e f

chosen-outside :
    (b c : Bool) (x y : Value) → b ≡ false → (if b then unwrap_or (cond c (Some x) None) y else y) ≡ y
chosen-outside b c x y e = chosen_by-outside b (unwrap_or (cond c (Some x) None) y) y e

chosen-other :
    (b c : Bool) (x y : Value) → c ≡ false → (if b then unwrap_or (cond c (Some x) None) y else y) ≡ y
chosen-other true true x y e = cc
chosen-other true false x y e = refl
chosen-other false c x y e = refl

pub is_same-at :
    (records : List Value) (place : ℕ) (element other : Value) → place < length records →
    element ≡ get_or records place element → element ≡ other → (d : Value) → is_same other (get_or records place d) ≡ true
is_same-at records place element other within e h d =
    ap (is_same other) (get_or-same records place d element within ∙ sym e ∙ h) ∙ is_same-own other

pub unlike-at :
    (records : List Value) (place : ℕ) (element other : Value) → place < length records →
    element ≡ get_or records place element → (element ≡ other → ⊥) → (d : Value) →
    is_same other (get_or records place d) ≡ false
unlike-at records place element other within e h d =
    ap (is_same other) (get_or-same records place d element within ∙ sym e)
    ∙ no_but (is_same other element) (λ same. h (sym (is_same-equal other element same)))

pub test-at :
    (test : Value → Bool) (records : List Value) (place : ℕ) (element : Value) (answer : Bool) → place < length records →
    element ≡ get_or records place element → test element ≡ answer → (d : Value) →
    test (get_or records place d) ≡ answer
test-at test records place element answer within e h d =
    ap test (get_or-same records place d element within ∙ sym e) ∙ h

module _ (t : DbType) where
  has_own_key : (element : Value) → has_key t (key_of t element) element ≡ true
  has_own_key element = ap is_eq (own (key_of t element))
    where
      own : (key : _) → key_cmp key key ≡ Equal
      own key = tied_itself key_cmp_total key

  -- a record that lacks the key of another is not equal to it
  lacks-unlike : (other element : Value) → lacks t (key_of t other) element ≡ true → is_same other element ≡ false
  lacks-unlike other element h =
      no_but (is_same other element) (λ e.
      let same = is_same-equal other element e in
      let has : has_key t (key_of t other) element ≡ true =
      ap (λ (z : Value). has_key t (key_of t other) z) (sym same) ∙ has_own_key other
      in
      clash (has_key t (key_of t other) element) has h)
    where
      clash : (b : Bool) → b ≡ true → not b ≡ true → ⊥
      clash true e h = cc
      clash false e h = cc

  one_removed-apart :
      (records : List Value) (other : Value) → list_all (λ element. not (is_same other element)) records ≡ true →
      removed everywhere records (other ∷ []) ≡ records
  one_removed-apart [] other h = refl
  one_removed-apart (first ∷ rest) other h =
      let apart : is_same other first ≡ false = un_not _ (first_so (not (is_same other first)) _ h) in
      rw apart (ap (λ others. first ∷ others) (one_removed-apart rest other (second_so (not (is_same other first)) _ h)))

  apart : (other : Value) (records : List Value) → list_all (lacks t (key_of t other)) records ≡ true →
      list_all (λ element. not (is_same other element)) records ≡ true
  apart other records h =
      list_all-mono (lacks t (key_of t other)) (λ element. not (is_same other element)) records
      (λ element lack. ap not (lacks-unlike other element lack)) h

  -- no record is equal where none has the key
  pub removed-none :
      (records : List Value) (other : Value) → list_all (lacks t (key_of t other)) records ≡ true →
      removed everywhere records (other ∷ []) ≡ records
  removed-none records other h = one_removed-apart records other (apart other records h)

  -- or where the one with the key is different
  pub removed-different :
      (records : List Value) (other : Value) (place : ℕ) → keys_rise t records ≡ true → place < length records →
      HoldsAt (λ element. key_cmp (key_of t element) (key_of t other) ≡ Equal) records place →
      ((d : Value) → is_same other (get_or records place d) ≡ false) →
      removed everywhere records (other ∷ []) ≡ records
  removed-different [] other place rises within here differs = refl
  removed-different (first ∷ rest) other zero rises within here differs =
      rw (differs first)
      (ap (λ others. first ∷ others) (removed-none rest other (rest_lacks t (key_of t other) first rest rises (here first))))
  removed-different (first ∷ rest) other (suc place) rises within here differs =
      rw (lacks-unlike other first (first_lacks t (key_of t other) first rest place rises (omega arith) here))
      (ap (λ others. first ∷ others)
      (removed-different rest other place (second_so (list_all (stands_before t first) rest) (keys_rise t rest) rises)
      (omega arith) here differs))

  -- and else that one alone goes
  pub removed-one :
      (records : List Value) (other : Value) (place : ℕ) → keys_rise t records ≡ true → place < length records →
      HoldsAt (λ element. key_cmp (key_of t element) (key_of t other) ≡ Equal) records place →
      ((d : Value) → is_same other (get_or records place d) ≡ true) →
      removed everywhere records (other ∷ []) ≡ remove records place
  removed-one [] other place rises within here same = absurd (omega arith)
  removed-one (first ∷ rest) other zero rises within here same =
      rw (same first) (removed-none rest other (rest_lacks t (key_of t other) first rest rises (here first)))
  removed-one (first ∷ rest) other (suc place) rises within here same =
      rw (lacks-unlike other first (first_lacks t (key_of t other) first rest place rises (omega arith) here))
      (ap (λ others. first ∷ others)
      (removed-one rest other place (second_so (list_all (stands_before t first) rest) (keys_rise t rest) rises)
      (omega arith) here same))

  same_turned : (element other : Value) → has_key t (key_of t element) other ≡ has_key t (key_of t other) element
  same_turned element other =
      ap is_eq (key_cmp_total.antisymm (key_of t other) (key_of t element))
      ∙ is_eq-reverse (key_cmp (key_of t element) (key_of t other))

  replacement-other :
      (inside : Value → Bool) (element other : Value) → lacks t (key_of t element) other ≡ true →
      replacement t inside (element ∷ []) other ≡ other
  replacement-other inside element other h =
      chosen-other (inside other) (has_key t (key_of t other) element) element other
      (sym (same_turned element other) ∙ un_not (has_key t (key_of t element) other) h)

  -- no record gives way where none has the key
  pub replaced-none :
      (inside : Value → Bool) (records : List Value) (element : Value) →
      list_all (lacks t (key_of t element)) records ≡ true → replaced t inside records (element ∷ []) ≡ records
  replaced-none inside [] element h = refl
  replaced-none inside (first ∷ rest) element h =
      let lack = lacks t (key_of t element) in
      ap (λ (z : Value). z ∷ map (replacement t inside (element ∷ [])) rest)
      (replacement-other inside element first (first_so (lack first) (list_all lack rest) h))
      ∙ ap (λ others. first ∷ others)
      (replaced-none inside rest element (second_so (lack first) (list_all lack rest) h))

  -- or where the one with the key is outside
  pub replaced-outside :
      (inside : Value → Bool) (records : List Value) (element : Value) (place : ℕ) → keys_rise t records ≡ true →
      place < length records →
      HoldsAt (λ other. key_cmp (key_of t other) (key_of t element) ≡ Equal) records place →
      ((d : Value) → inside (get_or records place d) ≡ false) → replaced t inside records (element ∷ []) ≡ records
  replaced-outside inside [] element place rises within here outside = refl
  replaced-outside inside (first ∷ rest) element zero rises within here outside =
      ap (λ (z : Value). z ∷ map (replacement t inside (element ∷ [])) rest)
      (chosen-outside (inside first) (has_key t (key_of t first) element) element first (outside first))
      ∙ ap (λ others. first ∷ others)
      (replaced-none inside rest element (rest_lacks t (key_of t element) first rest rises (here first)))
  replaced-outside inside (first ∷ rest) element (suc place) rises within here outside =
      ap (λ (z : Value). z ∷ map (replacement t inside (element ∷ [])) rest)
      (replacement-other inside element first
      (first_lacks t (key_of t element) first rest place rises (omega arith) here))
      ∙ ap (λ others. first ∷ others)
      (replaced-outside inside rest element place
      (second_so (list_all (stands_before t first) rest) (keys_rise t rest) rises) (omega arith) here outside)

  -- and else that one does
  pub replaced-one :
      (inside : Value → Bool) (records : List Value) (element : Value) (place : ℕ) → keys_rise t records ≡ true →
      place < length records →
      HoldsAt (λ other. key_cmp (key_of t other) (key_of t element) ≡ Equal) records place →
      ((d : Value) → inside (get_or records place d) ≡ true) →
      replaced t inside records (element ∷ []) ≡ set records place element
  replaced-one inside [] element place rises within here within_test = absurd (omega arith)
  replaced-one inside (first ∷ rest) element zero rises within here within_test =
      ap (λ (z : Value). z ∷ map (replacement t inside (element ∷ [])) rest)
      (chosen-one (inside first) (has_key t (key_of t first) element) element first (within_test first)
      (sym (same_turned element first) ∙ ap is_eq (here first)))
      ∙ ap (λ others. element ∷ others)
      (replaced-none inside rest element (rest_lacks t (key_of t element) first rest rises (here first)))
  replaced-one inside (first ∷ rest) element (suc place) rises within here within_test =
      ap (λ (z : Value). z ∷ map (replacement t inside (element ∷ [])) rest)
      (replacement-other inside element first
      (first_lacks t (key_of t element) first rest place rises (omega arith) here))
      ∙ ap (λ others. first ∷ others)
      (replaced-one inside rest element place
      (second_so (list_all (stands_before t first) rest) (keys_rise t rest) rises) (omega arith) here within_test)

  pub set-rises :
      (records : List Value) (element : Value) (place : ℕ) → keys_rise t records ≡ true → place < length records →
      HoldsAt (λ other. key_cmp (key_of t other) (key_of t element) ≡ Equal) records place →
      keys_rise t (set records place element) ≡ true
  set-rises records element place rises within here =
      ap (keys_rise t) (sym (put-found t records element place rises within here)) ∙ put-rises t records element rises

  found-none :
      (key : _) (others : List Value) → list_all (lacks t key) others ≡ true → record_with t key others ≡ None
  found-none key [] h = refl
  found-none key (first ∷ rest) h =
      rw (un_not (has_key t key first) (first_so (lacks t key first) (list_all (lacks t key) rest) h))
      (found-none key rest (second_so (lacks t key first) (list_all (lacks t key) rest) h))

  -- a record whose key none of the others has stays
  replacement-own :
      (inside : Value → Bool) (element : Value) (others : List Value) →
      list_all (lacks t (key_of t element)) others ≡ true → replacement t inside others element ≡ element
  replacement-own inside element others h =
      ap (λ found. if inside element then unwrap_or found element else element)
      (found-none (key_of t element) others h)
      ∙ either_way (inside element) element

  step_by :
      (inside : Value → Bool) (element : Value) (others : List Value) (y : Value) (b c : Bool) → inside y ≡ b →
      has_key t (key_of t y) element ≡ c → list_all (lacks t (key_of t element)) others ≡ true →
      replacement t inside (element ∷ others) y ≡ replacement t inside others (replacement t inside (element ∷ []) y)
  step_by inside element others y false c e f h =
      chosen_by-outside (inside y) _ y e
      ∙ sym (
      ap (replacement t inside others) (chosen_by-outside (inside y) _ y e) ∙ chosen_by-outside (inside y) _ y e
      )
  step_by inside element others y true false e f h =
      ap (λ b. if inside y then unwrap_or (cond b (Some element) (record_with t (key_of t y) others)) y else y) f
      ∙ sym (
      ap (replacement t inside others) (chosen-other (inside y) (has_key t (key_of t y) element) element y f)
      )
  step_by inside element others y true true e f h =
      chosen_by-one (inside y) (has_key t (key_of t y) element) element y (record_with t (key_of t y) others) e f
      ∙ sym (
      ap (replacement t inside others) (chosen-one (inside y) (has_key t (key_of t y) element) element y e f)
      ∙ replacement-own inside element others h
      )

  -- the first of the right side, and then the others
  pub replaced-step :
      (inside : Value → Bool) (records : List Value) (element : Value) (others : List Value) →
      keys_rise t (element ∷ others) ≡ true →
      replaced t inside records (element ∷ others)
      ≡ replaced t inside (replaced t inside records (element ∷ [])) others
  replaced-step inside [] element others rises = refl
  replaced-step inside (first ∷ rest) element others rises =
      ap (λ (z : Value). z ∷ replaced t inside rest (element ∷ others))
      (step_by inside element others first (inside first) (has_key t (key_of t first) element) refl refl
      (rest_lacks t (key_of t element) element others rises (tied_itself key_cmp_total (key_of t element))))
      ∙ ap
      (λ (zs : List Value). replacement t inside others (replacement t inside (element ∷ []) first) ∷ zs)
      (replaced-step inside rest element others rises)

pub set-all :
    {X : Type 0} (p : X → Bool) (xs : List X) (i : ℕ) (x : X) → p x ≡ true → list_all p xs ≡ true →
    list_all p (set xs i x) ≡ true
set-all p [] i x e h = refl
set-all p (y ∷ ys) zero x e h = both_so (p x) (list_all p ys) e (second_so (p y) (list_all p ys) h)
set-all p (y ∷ ys) (suc i) x e h =
    both_so (p y) (list_all p (set ys i x)) (first_so (p y) (list_all p ys) h)
    (set-all p ys i x e (second_so (p y) (list_all p ys) h))

-- with nothing on the right side no record gives way
pub replaced-nothing :
    (t : DbType) (inside : Value → Bool) (records : List Value) → replaced t inside records [] ≡ records
replaced-nothing t inside [] = refl
replaced-nothing t inside (first ∷ rest) =
    ap (λ (z : Value). z ∷ replaced t inside rest []) (either_way (inside first) first)
    ∙ ap (λ others. first ∷ others) (replaced-nothing t inside rest)
