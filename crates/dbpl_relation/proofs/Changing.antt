-- When each answer of a statement comes.
use Rattle.std.proofs.Common.{◌≡◌, ◌<◌, ℕ, suc, Bool, true, false, not, ◌&&◌, ◌||◌, cond, ltb, List, [], ◌∷◌, length, get_or, Option, Some, None, Ok, Err, refl, sym, ap, ◌∙◌, arith}
use Rattle.std.proofs.lemmas.Bool.{ltb-false}
use Rattle.std.proofs.lemmas.List.Sums.{fails_before_first}
use Rattle.std.specs.Cmp.{first_so, second_so}
use Rattle.std.specs.List.{list_all, position, position_or_len}
use Rattle.std.specs.Prelude.{pos}
use Rattle.dbpl_value.specs.declared.db_type.DbType.{DbType}
use Rattle.dbpl_value.specs.declared.value.Value.{Value}
use Rattle.dbpl_value.specs.declared.value.Value.TheVariants as value
use Rattle.dbpl_value.proofs.EqualityLemmas.{is_same-equal}
use Rattle.dbpl_relation.proofs.FirstAt.{position-none}
use Rattle.dbpl_relation.proofs.Puts.{both_so}
use Rattle.dbpl_relation.specs.Changes.{after, changed, changed_inside, clashes, everywhere, removed, unless}
use Rattle.dbpl_value.specs.Equality.{is_same}
use Rattle.dbpl_relation.specs.Relations.{is_among}
use Rattle.dbpl_relation.specs.declared.change_err.ChangeErr.TheVariants as change_err
use Rattle.dbpl_relation.specs.declared.op.Op.{Op}

module _ (t : DbType) (op : Op) (inside : Value → Bool) (records others : List Value) where
  pub changed-outside :
      (at : ℕ) → Some at ≡ position (λ other. not (inside other)) others →
      changed t op inside records others ≡ Err (change_err.Outside at)
  changed-outside at e =
      ap (λ found. unless found change_err.Outside (changed_inside t op inside records others)) (sym e)

  pub changed-inside :
      None ≡ position (λ other. not (inside other)) others →
      changed t op inside records others ≡ changed_inside t op inside records others
  changed-inside e =
      ap (λ found. unless found change_err.Outside (changed_inside t op inside records others)) (sym e)

  pub changed_inside-clash :
      (at : ℕ) → Some at ≡ position (clashes t op inside records) others →
      changed_inside t op inside records others ≡ Err (change_err.Clash at)
  changed_inside-clash at e =
      ap (λ found. unless found change_err.Clash (Ok (value.Rel (after t op inside records others)))) (sym e)

  pub changed_inside-ok :
      None ≡ position (clashes t op inside records) others →
      changed_inside t op inside records others ≡ Ok (value.Rel (after t op inside records others))
  changed_inside-ok e =
      ap (λ found. unless found change_err.Clash (Ok (value.Rel (after t op inside records others)))) (sym e)

-- a test that none passes has no first place
pub position-never : (p : Value → Bool) (xs : List Value) → ((x : Value) → p x ≡ false) → None ≡ position p xs
position-never p xs never = position-none p xs (value.Num (pos 0)) (λ k within. never (get_or xs k (value.Num (pos 0))))

none_at : (at count : ℕ) (b : Bool) → None ≡ cond b (Some at) None → b ≡ false
none_at at count true e = cc
none_at at count false e = refl

all_by_place :
    (p : Value → Bool) (xs : List Value) (d : Value) → ((k : ℕ) → k < length xs → p (get_or xs k d) ≡ true) →
    list_all p xs ≡ true
all_by_place p [] d h = refl
all_by_place p (x ∷ xs) d h =
    both_so (p x) (list_all p xs) (h 0 (omega arith)) (all_by_place p xs d (λ k within. h (suc k) (omega arith)))

not_not : (b : Bool) → not b ≡ false → b ≡ true
not_not true e = refl
not_not false e = cc

-- where none is outside, all are inside
pub all_inside :
    (inside : Value → Bool) (others : List Value) → None ≡ position (λ other. not (inside other)) others →
    list_all inside others ≡ true
all_inside inside others e =
    let first = position_or_len (λ (other : Value). not (inside other)) others in
    let past = ltb-false first (length others) (none_at first (length others) (ltb first (length others)) e) in
    all_by_place inside others (value.Num (pos 0)) (λ k within.
    not_not (inside (get_or others k (value.Num (pos 0))))
    (fails_before_first (λ (other : Value). not (inside other)) others k (value.Num (pos 0)) (omega (arith, past))))

by_first :
    (inside : Value → Bool) (other element : Value) (b c : Bool) → is_same other element ≡ b → inside other ≡ true →
    (c ≡ true → inside element ≡ true) → b || c ≡ true → inside element ≡ true
by_first inside other element true c same h rest e = ap inside (sym (is_same-equal other element same)) ∙ h
by_first inside other element false c same h rest e = rest e

among-inside :
    (inside : Value → Bool) (others : List Value) (element : Value) → list_all inside others ≡ true →
    is_among others element ≡ true → inside element ≡ true
among-inside inside [] element h e = cc
among-inside inside (other ∷ others) element h e =
    by_first inside other element (is_same other element) (is_among others element) refl
    (first_so (inside other) (list_all inside others) h)
    (among-inside inside others element (second_so (inside other) (list_all inside others) h)) e

joint : (b c : Bool) → (c ≡ true → b ≡ true) → b && c ≡ c
joint true c h = refl
joint false true h = h refl
joint false false h = refl

-- then the records inside that are equal to one of the right side are all that are
pub removed-inside :
    (inside : Value → Bool) (records others : List Value) → list_all inside others ≡ true →
    removed inside records others ≡ removed everywhere records others
removed-inside inside [] others h = refl
removed-inside inside (first ∷ rest) others h =
    ap
    (λ b. cond (not b) (first ∷ removed inside rest others) (removed inside rest others))
    (joint (inside first) (is_among others first) (among-inside inside others first h))
    ∙ ap (λ behind. cond (not (is_among others first)) (first ∷ behind) behind) (removed-inside inside rest others h)

-- a fault is found in the records of the relations themselves
pub fault_in :
    (fails : List Value → Value → Bool) (records others left right : List Value) (found : Option ℕ) → records ≡ left →
    others ≡ right → found ≡ position (fails records) others → found ≡ position (fails left) right
fault_in fails records others left right found e f h =
    h ∙ ap (λ z. position (fails z) others) e ∙ ap (position (fails left)) f
