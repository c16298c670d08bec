-- The relation of a variable that is found by its name.
use Rattle.std.proofs.Common.{◌⊎◌, ◌≡◌, inl, inr, ℕ, zero, suc, Bool, true, false, List, [], ◌∷◌, Some, None, slice_get, slice_set, refl, ap, sym, ◌∙◌}
use Rattle.std.proofs.lemmas.Slice.Eq.{bytes_eq-Decides}
use Rattle.std.proofs.lemmas.Map.Text.{is_eq-slice_cmp}
use Rattle.std.specs.Cmp.{first_so, second_so}
use Rattle.std.specs.List.{list_all}
use Rattle.std.specs.Ordering.{is_eq, is_lt}
use Rattle.std.specs.Prelude.{if◌then◌else◌}
use Rattle.dbpl_stored_program.specs.Meaning.{relation_named, with_named}
use Rattle.dbpl_value.proofs.RisingNames.{is_lt-Less}
use Rattle.dbpl_value.proofs.BoundTo.{IsThere, binds-cases}
use Rattle.dbpl_value.specs.Binding.{Binds, bound_named, empty_bound, holding, with_bound, with_relation}
use Rattle.dbpl_value.specs.Databases.{name_cmp, names_rise}
use Rattle.dbpl_value.specs.Types.{is_same_name}
use Rattle.dbpl_value.specs.declared.bound.Bound.{Bound}
use Rattle.dbpl_value.specs.declared.field.Field.{Field}
use Rattle.dbpl_value.specs.declared.value.Value.{Value}

some_inside : {A : Type 0} (x y : A) → Some x ≡ Some y → x ≡ y
some_inside x y e = cc

-- ---- names

pub same_name-own : (name : List ℕ) → is_same_name name name ≡ true
same_name-own name = (bytes_eq-Decides name name).1 refl

-- a lesser name is another
lesser-other : (name other : List ℕ) → is_lt (name_cmp name other) ≡ true → is_same_name name other ≡ false
lesser-other name other less =
    sym (is_eq-slice_cmp name other) ∙ ap is_eq (is_lt-Less (name_cmp name other) less)

-- ---- a variable by its name

-- the first that has it, by the test of the first of all
named-by :
    (same : Bool) (name : List ℕ) (first : Bound) (others : List Bound) → is_same_name first.name name ≡ same →
    bound_named name (first ∷ others) ≡ (if same then Some first else bound_named name others)
named-by same name first others e = ap (λ b. if b then Some first else bound_named name others) e

with-by :
    (same : Bool) (name : List ℕ) (relation : Value) (first : Bound) (others : List Bound) →
    is_same_name first.name name ≡ same →
    with_named name relation (first ∷ others)
    ≡ (if same then holding relation first ∷ others else first ∷ with_named name relation others)
with-by same name relation first others e =
    ap (λ b. if b then holding relation first ∷ others else first ∷ with_named name relation others) e

-- its own relation changes nothing
own-by :
    (same : Bool) (name : List ℕ) (first : Bound) (others : List Bound) (bound : Bound) →
    is_same_name first.name name ≡ same → bound_named name (first ∷ others) ≡ Some bound →
    (bound_named name others ≡ Some bound → with_named name bound.rel others ≡ others) →
    with_named name bound.rel (first ∷ others) ≡ first ∷ others
own-by true name first others bound e found later =
    let is : first ≡ bound = some_inside first bound (sym (named-by true name first others e) ∙ found) in
    with-by true name bound.rel first others e ∙ ap (λ (x : Bound). holding x.rel first ∷ others) (sym is)
own-by false name first others bound e found later =
    with-by false name bound.rel first others e
    ∙ ap (λ rest. first ∷ rest) (later (sym (named-by false name first others e) ∙ found))

pub with_named-own :
    (name : List ℕ) (database : List Bound) (bound : Bound) → bound_named name database ≡ Some bound →
    with_named name bound.rel database ≡ database
with_named-own name [] bound found = cc
with_named-own name (first ∷ others) bound found =
    own-by (is_same_name first.name name) name first others bound refl found (λ h. with_named-own name others bound h)

-- what is put there is found there
after-by :
    (same : Bool) (name : List ℕ) (relation : Value) (first : Bound) (others : List Bound) (bound : Bound) →
    is_same_name first.name name ≡ same → bound_named name (first ∷ others) ≡ Some bound →
    (bound_named name others ≡ Some bound → bound_named name (with_named name relation others) ≡ Some (holding relation bound)) →
    bound_named name (with_named name relation (first ∷ others)) ≡ Some (holding relation bound)
after-by true name relation first others bound e found later =
    let is : first ≡ bound = some_inside first bound (sym (named-by true name first others e) ∙ found) in
    ap (bound_named name) (with-by true name relation first others e)
    ∙ named-by true name (holding relation first) others e
    ∙ ap (λ (x : Bound). Some (holding relation x)) is
after-by false name relation first others bound e found later =
    ap (bound_named name) (with-by false name relation first others e)
    ∙ named-by false name first (with_named name relation others) e
    ∙ later (sym (named-by false name first others e) ∙ found)

pub named-after :
    (name : List ℕ) (relation : Value) (database : List Bound) (bound : Bound) → bound_named name database ≡ Some bound →
    bound_named name (with_named name relation database) ≡ Some (holding relation bound)
named-after name relation [] bound found = cc
named-after name relation (first ∷ others) bound found =
    after-by (is_same_name first.name name) name relation first others bound refl found
    (λ h. named-after name relation others bound h)

-- the later of two relations stays
twice-by :
    (same : Bool) (name : List ℕ) (relation later : Value) (first : Bound) (others : List Bound) →
    is_same_name first.name name ≡ same →
    with_named name later (with_named name relation others) ≡ with_named name later others →
    with_named name later (with_named name relation (first ∷ others)) ≡ with_named name later (first ∷ others)
twice-by true name relation later first others e rest =
    ap (with_named name later) (with-by true name relation first others e)
    ∙ with-by true name later (holding relation first) others e ∙ sym (with-by true name later first others e)
twice-by false name relation later first others e rest =
    ap (with_named name later) (with-by false name relation first others e)
    ∙ with-by false name later first (with_named name relation others) e
    ∙ ap (λ behind. first ∷ behind) rest ∙ sym (with-by false name later first others e)

pub with_named-twice :
    (name : List ℕ) (relation later : Value) (database : List Bound) →
    with_named name later (with_named name relation database) ≡ with_named name later database
with_named-twice name relation later [] = refl
with_named-twice name relation later (first ∷ others) =
    twice-by (is_same_name first.name name) name relation later first others refl
    (with_named-twice name relation later others)

pub relation_named-is :
    (name : List ℕ) (database : List Bound) (bound : Bound) → bound_named name database ≡ Some bound →
    relation_named name database ≡ bound.rel
relation_named-is name database bound found = rw found refl

-- ---- a variable by its place

-- those behind the first have other names
other_behind :
    (first : Bound) (others : List Bound) (at : ℕ) (bound : Bound) →
    list_all (λ (later : Bound). is_lt (name_cmp first.name later.name)) others ≡ true → slice_get others at ≡ Some bound →
    is_same_name first.name bound.name ≡ false
other_behind first [] at bound above got = cc
other_behind first (second ∷ others) zero bound above got =
    let is : second ≡ bound = some_inside second bound got in
    ap (λ (x : Bound). is_same_name first.name x.name) (sym is)
    ∙ lesser-other first.name second.name (first_so (is_lt (name_cmp first.name second.name)) _ above)
other_behind first (second ∷ others) (suc at) bound above got =
    other_behind first others at bound (second_so (is_lt (name_cmp first.name second.name)) _ above) got

-- the one at a place is the one of its name
pub named-at :
    (database : List Bound) (at : ℕ) (bound : Bound) → names_rise database ≡ true → slice_get database at ≡ Some bound →
    bound_named bound.name database ≡ Some bound
named-at [] at bound rise got = cc
named-at (first ∷ others) zero bound rise got =
    let is : first ≡ bound = some_inside first bound got in
    ap (λ (x : Bound). bound_named x.name (first ∷ others)) (sym is)
    ∙ named-by true first.name first others (same_name-own first.name) ∙ got
named-at (first ∷ others) (suc at) bound rise got =
    named-by false bound.name first others
    (other_behind first others at bound
    (first_so (list_all (λ (later : Bound). is_lt (name_cmp first.name later.name)) others) (names_rise others) rise) got)
    ∙ named-at others at bound
    (second_so (list_all (λ (later : Bound). is_lt (name_cmp first.name later.name)) others) (names_rise others) rise) got

set-at :
    (database : List Bound) (at : ℕ) (bound : Bound) (relation : Value) → names_rise database ≡ true →
    slice_get database at ≡ Some bound →
    slice_set database at (holding relation bound) ≡ with_named bound.name relation database
set-at [] at bound relation rise got = cc
set-at (first ∷ others) zero bound relation rise got =
    let is : first ≡ bound = some_inside first bound got in
    ap (λ (x : Bound). holding relation x ∷ others) (sym is)
    ∙ sym (with-by true first.name relation first others (same_name-own first.name))
    ∙ ap (λ (x : Bound). with_named x.name relation (first ∷ others)) is
set-at (first ∷ others) (suc at) bound relation rise got =
    let above = first_so (list_all (λ (later : Bound). is_lt (name_cmp first.name later.name)) others) (names_rise others) rise in
    let later = second_so (list_all (λ (later : Bound). is_lt (name_cmp first.name later.name)) others) (names_rise others) rise in
    ap (λ rest. first ∷ rest) (set-at others at bound relation later got)
    ∙ sym (with-by false bound.name relation first others (other_behind first others at bound above got))

pub with_relation-at :
    (database : List Bound) (at : ℕ) (bound : Bound) (relation : Value) → names_rise database ≡ true →
    slice_get database at ≡ Some bound → with_relation relation at database ≡ with_named bound.name relation database
with_relation-at database at bound relation rise got = rw got (set-at database at bound relation rise got)

-- ---- a variable that was bound

-- the first name is another, and so are those behind
none-by :
    (same : Bool) (name : List ℕ) (first : Bound) (others : List Bound) → is_same_name first.name name ≡ same →
    bound_named name (first ∷ others) ≡ None → (same ≡ false) × (bound_named name others ≡ None)
none-by true name first others e none = absurd (let found = sym (named-by true name first others e) ∙ none in cc)
none-by false name first others e none = (refl, sym (named-by false name first others e) ∙ none)

added-by :
    (less : Bool) (new first : Bound) (others : List Bound) → is_same_name first.name new.name ≡ false →
    bound_named new.name (with_bound new others) ≡ Some new →
    bound_named new.name (if less then new ∷ first ∷ others else first ∷ with_bound new others) ≡ Some new
added-by true new first others other rest = named-by true new.name new (first ∷ others) (same_name-own new.name)
added-by false new first others other rest = named-by false new.name first (with_bound new others) other ∙ rest

pub named-added :
    (new : Bound) (database : List Bound) → bound_named new.name database ≡ None →
    bound_named new.name (with_bound new database) ≡ Some new
named-added new [] none = named-by true new.name new [] (same_name-own new.name)
named-added new (first ∷ others) none =
    let here = none-by (is_same_name first.name new.name) new.name first others refl none in
    added-by (is_lt (name_cmp new.name first.name)) new first others here.0 (named-added new others here.1)

-- a variable that was bound is there, of its type
pub bound-is_there :
    (field : Field) (database after : List Bound) → Binds field database after →
    (bound : Bound) × (bound_named field.name after ≡ Some bound) × (bound.kind ≡ field.kind)
bound-is_there field database after binds = by_case (binds-cases field database after binds)
  where
    by_case :
        (IsThere field database × (after ≡ database))
        ⊎ ((bound_named field.name database ≡ None) × (after ≡ with_bound (empty_bound field) database)) →
        (bound : Bound) × (bound_named field.name after ≡ Some bound) × (bound.kind ≡ field.kind)
    by_case (inl there) =
        let held = there.0 in
        (held.0, ap (bound_named field.name) there.1 ∙ held.1, held.2)
    by_case (inr new) =
        (empty_bound field, ap (bound_named field.name) new.1 ∙ named-added (empty_bound field) database new.0, refl)
