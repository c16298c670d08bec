-- The record with a key, and the others, which lack it.
use Rattle.std.proofs.Common.{◌≡◌, ◌<◌, ◌≤◌, ℕ, zero, suc, Bool, true, false, not, ◌&&◌, ◌||◌, List, [], ◌∷◌, length, get_or, refl, ap, sym, ◌∙◌, arith}
use Rattle.std.specs.Cmp.{first_so, second_so}
use Rattle.std.specs.List.{AllWithin, HoldsAt, list_all, list_any}
use Rattle.std.specs.Ordering.{is_eq, ordering_reverse}
use Rattle.std.specs.Prelude.{ℤ}
use Rattle.std.specs.declared.cmp.Ordering.TheVariants.{Equal, Greater, Less}
use Rattle.dbpl_value.proofs.KeyOrder.{key_cmp_total}
use Rattle.dbpl_value.specs.Keys.{has_key, key_cmp, key_of, keys_rise}
use Rattle.dbpl_value.specs.declared.db_type.DbType.{DbType}
use Rattle.dbpl_value.specs.declared.value.Value.{Value}
use Rattle.dbpl_relation.proofs.KeyLemmas.{is_lt-Less, key_cmp-exact}
use Rattle.dbpl_relation.proofs.Puts.{list_all-at, list_all-mono}
use Rattle.dbpl_relation.specs.Relations.{stands_before}

module _ (t : DbType) (key : List (List ℤ)) where
  abbrev pub lacks : Value → Bool
  lacks element = not (has_key t key element)

  pub lacks-Less : (element : Value) → key_cmp (key_of t element) key ≡ Less → lacks element ≡ true
  lacks-Less element e = ap (λ order. not (is_eq order)) e

  pub lacks-Greater : (element : Value) → key_cmp (key_of t element) key ≡ Greater → lacks element ≡ true
  lacks-Greater element e = ap (λ order. not (is_eq order)) e

  -- where a search found no record with the key, all lack it
  pub all_lack :
      (records : List Value) (place : ℕ) → place ≤ length records →
      AllWithin (λ element. key_cmp (key_of t element) key ≡ Less) records 0 place →
      AllWithin (λ element. key_cmp (key_of t element) key ≡ Greater) records place (length records) →
      list_all lacks records ≡ true
  all_lack [] place le below above = refl
  all_lack (first ∷ rest) zero le below above =
      rw (lacks-Greater first (above 0 first (omega arith) (omega arith)))
      (all_lack rest zero (omega arith) (λ k d low high. absurd (omega arith))
      (λ k d low high. above (suc k) d (omega arith) (omega arith)))
  all_lack (first ∷ rest) (suc place) le below above =
      rw (lacks-Less first (below 0 first (omega arith) (omega arith)))
      (all_lack rest place (omega arith) (λ k d low high. below (suc k) d (omega arith) (omega arith))
      (λ k d low high. above (suc k) d (omega arith) (omega arith)))

  -- the records behind the one with the key lack it
  pub rest_lacks :
      (first : Value) (rest : List Value) → keys_rise t (first ∷ rest) ≡ true →
      key_cmp (key_of t first) key ≡ Equal → list_all lacks rest ≡ true
  rest_lacks first rest rises e =
      list_all-mono (stands_before t first) lacks rest
      (λ element h.
      lacks-Greater element (
      key_cmp_total.antisymm (key_of t element) key
      ∙ ap (λ z. ordering_reverse (key_cmp z (key_of t element))) (sym (key_cmp-exact (key_of t first) key e))
      ∙ ap ordering_reverse (is_lt-Less _ h)
      ))
      (first_so (list_all (stands_before t first) rest) (keys_rise t rest) rises)

  -- and so does one before it
  pub first_lacks :
      (first : Value) (rest : List Value) (place : ℕ) → keys_rise t (first ∷ rest) ≡ true → place < length rest →
      HoldsAt (λ element. key_cmp (key_of t element) key ≡ Equal) rest place → lacks first ≡ true
  first_lacks first rest place rises within here =
      let below = list_all-at (stands_before t first) rest place first
      (first_so (list_all (stands_before t first) rest) (keys_rise t rest) rises) within
      in
      lacks-Less first (
      ap (λ z. key_cmp (key_of t first) z) (sym (key_cmp-exact (key_of t (get_or rest place first)) key (here first)))
      ∙ is_lt-Less _ below
      )

  no : (b c : Bool) → not b ≡ true → b && c ≡ false
  no true c h = cc
  no false c h = refl

  either_no : (b c : Bool) → b ≡ false → c ≡ false → b || c ≡ false
  either_no true c h g = cc
  either_no false c h g = g

  -- whether a record with the key passes a test: none has it
  pub any-none :
      (test : Value → Bool) (records : List Value) → list_all lacks records ≡ true →
      list_any (λ element. has_key t key element && test element) records ≡ false
  any-none test [] h = refl
  any-none test (first ∷ rest) h =
      either_no (has_key t key first && test first) _
      (no (has_key t key first) (test first) (first_so (lacks first) (list_all lacks rest) h))
      (any-none test rest (second_so (lacks first) (list_all lacks rest) h))

  only_first : (b c d : Bool) → b ≡ true → d ≡ false → (b && c) || d ≡ c
  only_first true true d h g = refl
  only_first true false d h g = g
  only_first false c d h g = cc

  only_rest : (b c d : Bool) → not b ≡ true → (b && c) || d ≡ d
  only_rest true c d h = cc
  only_rest false c d h = refl

  -- or the one at this place
  pub any-one :
      (test : Value → Bool) (records : List Value) (place : ℕ) (d : Value) → keys_rise t records ≡ true →
      place < length records → HoldsAt (λ element. key_cmp (key_of t element) key ≡ Equal) records place →
      list_any (λ element. has_key t key element && test element) records ≡ test (get_or records place d)
  any-one test [] place d rises within here = absurd (omega arith)
  any-one test (first ∷ rest) zero d rises within here =
      only_first (has_key t key first) (test first) _ (ap is_eq (here first))
      (any-none test rest (rest_lacks first rest rises (here first)))
  any-one test (first ∷ rest) (suc place) d rises within here =
      only_rest (has_key t key first) (test first) _ (first_lacks first rest place rises (omega arith) here)
      ∙ any-one test rest place d (second_so (list_all (stands_before t first) rest) (keys_rise t rest) rises) (omega arith) here
