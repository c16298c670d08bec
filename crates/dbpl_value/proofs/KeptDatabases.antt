-- A change of a database leaves a database.
use Rattle.std.proofs.Common.{◌≡◌, ◌&&◌, ℕ, zero, suc, Bool, true, false, not, if◌then◌else◌, List, [], ◌∷◌, slice_get, slice_set, Some, None, refl, ap, ◌∙◌}
use Rattle.std.proofs.lemmas.Cmp.{nat_list_cmp_total}
use Rattle.std.proofs.lemmas.Map.Text.{is_eq-slice_cmp}
use Rattle.std.specs.Cmp.{first_so, second_so}
use Rattle.std.specs.Cmp.Derive.{both_true}
use Rattle.std.specs.List.{list_all}
use Rattle.std.specs.Ordering.{is_eq, is_lt, ordering_reverse}
use Rattle.std.specs.declared.cmp.Ordering.{Ordering}
use Rattle.std.specs.declared.cmp.Ordering.TheVariants.{Equal, Greater, Less}
use Rattle.dbpl_value.proofs.Options.{some_is}
use Rattle.dbpl_value.proofs.RisingNames.{is_lt-Less}
use Rattle.dbpl_value.specs.Binding.{bound_named, empty_bound, holding, with_bound, with_relation}
use Rattle.dbpl_value.specs.Databases.{are_small, is_bound, is_database, is_kept, is_kept_name, is_kept_type, name_cmp, names_rise}
use Rattle.dbpl_value.proofs.PutLemmas.{list_all-slice_set}
use Rattle.dbpl_value.proofs.ValuesLemmas.{is_of-out, tested}
use Rattle.dbpl_value.specs.Types.{is_none_left, is_same_name, is_type, keys_level, keys_of}
use Rattle.dbpl_value.specs.Values.{is_of, is_of_level}
use Rattle.dbpl_value.specs.declared.bound.Bound.{Bound}
use Rattle.dbpl_value.specs.declared.db_type.DbType.{DbType, DbType-F, out-DbType}
use Rattle.dbpl_value.specs.declared.db_type.DbType.TheOpen as kinds
use Rattle.dbpl_value.specs.declared.field.Field.{Field}
use Rattle.dbpl_value.specs.declared.value.Value.{Value, out-Value}
use Rattle.dbpl_value.specs.declared.value.Value.TheVariants as value

-- ---- one more, empty

-- a type with keys has the relation without records
empty_level :
    (level : DbType-F DbType Field) → not (is_none_left (keys_level level)) ≡ true →
    is_of_level (tested level) (out-Value (value.Rel [])) ≡ true
empty_level kinds.Int h = cc
empty_level kinds.Card h = cc
empty_level kinds.Bool h = cc
empty_level kinds.Char h = cc
empty_level (kinds.Enum names) h = cc
empty_level (kinds.Sub host least greatest) h = cc
empty_level (kinds.Arr index element) h = cc
empty_level (kinds.Rec fields) h = cc
empty_level (kinds.Rel keys record_type) h = rw (value.outs-Rel []) refl

empty_of : (t : DbType) → not (is_none_left (keys_of t)) ≡ true → is_of t (value.Rel []) ≡ true
empty_of t h = is_of-out t (value.Rel []) ∙ empty_level (out-DbType t) h

empty_small : (t : DbType) → are_small t (value.Rel []) ≡ true
empty_small t = rw (value.outs-Rel []) refl

empty_kept : (field : Field) → is_kept field.name field.kind ≡ true → is_bound (empty_bound field) ≡ true
empty_kept field kept =
    let keyed = first_so _ _ (second_so (is_kept_name field.name && is_type field.kind) (is_kept_type field.kind) kept) in
    both_true (both_true kept (empty_of field.kind keyed)) (empty_small field.kind)

-- a test that all pass, and one more
all_with :
    (test : Bound → Bool) (new : Bound) (database : List Bound) → test new ≡ true → list_all test database ≡ true →
    list_all test (with_bound new database) ≡ true
all_with test new [] this others = both_true this others
all_with test new (bound ∷ database) this others =
    by_order (is_lt (name_cmp new.name bound.name))
    (all_with test new database this (second_so (test bound) (list_all test database) others))
  where
    by_order :
        (less : Bool) → list_all test (with_bound new database) ≡ true →
        list_all test (if less then new ∷ bound ∷ database else bound ∷ with_bound new database) ≡ true
    by_order true rest = both_true this others
    by_order false rest = both_true (first_so (test bound) (list_all test database) others) rest

-- a lesser name than one that is less than all of these
all_above :
    (name between : List ℕ) (database : List Bound) → name_cmp name between ≡ Less →
    list_all (λ later. is_lt (name_cmp between later.name)) database ≡ true →
    list_all (λ later. is_lt (name_cmp name later.name)) database ≡ true
all_above name between [] less rest = refl
all_above name between (bound ∷ database) less rest =
    both_true
    (ap is_lt (nat_list_cmp_total.trans name between bound.name less
    (is_lt-Less _ (first_so (is_lt (name_cmp between bound.name)) _ rest))))
    (all_above name between database less (second_so (is_lt (name_cmp between bound.name)) _ rest))

-- neither less nor the same
above : (name other : List ℕ) → is_same_name other name ≡ false → is_lt (name_cmp name other) ≡ false → name_cmp other name ≡ Less
above name other different not_less = by_order (name_cmp name other) refl
  where
    by_order : (o : Ordering) → name_cmp name other ≡ o → name_cmp other name ≡ Less
    by_order Less e = absurd cc
    by_order Greater e = nat_list_cmp_total.antisymm other name ∙ ap ordering_reverse e
    by_order Equal e =
        let same : is_eq (name_cmp other name) ≡ true = ap is_eq (nat_list_cmp_total.antisymm other name ∙ ap ordering_reverse e) in
        let one = is_eq-slice_cmp other name in
        absurd cc

-- the first has another name, and no later one has this name
not_named :
    (name : List ℕ) (bound : Bound) (database : List Bound) → bound_named name (bound ∷ database) ≡ None →
    (is_same_name bound.name name ≡ false) × (bound_named name database ≡ None)
not_named name bound database none = by_test (is_same_name bound.name name) refl none
  where
    by_test :
        (same : Bool) → is_same_name bound.name name ≡ same →
        (if same then Some bound else bound_named name database) ≡ None →
        (is_same_name bound.name name ≡ false) × (bound_named name database ≡ None)
    by_test true e n = absurd cc
    by_test false e n = (e, n)

rise_with :
    (new : Bound) (database : List Bound) → bound_named new.name database ≡ None → names_rise database ≡ true →
    names_rise (with_bound new database) ≡ true
rise_with new [] none rise = refl
rise_with new (bound ∷ database) none rise =
    let here = not_named new.name bound database none in
    let above_here = first_so (list_all (λ later. is_lt (name_cmp bound.name later.name)) database) (names_rise database) rise in
    let later = second_so (list_all (λ later. is_lt (name_cmp bound.name later.name)) database) (names_rise database) rise in
    by_order here.0 above_here (rise_with new database here.1 later) (is_lt (name_cmp new.name bound.name)) refl
  where
    by_order :
        is_same_name bound.name new.name ≡ false →
        list_all (λ later. is_lt (name_cmp bound.name later.name)) database ≡ true →
        names_rise (with_bound new database) ≡ true → (less : Bool) → is_lt (name_cmp new.name bound.name) ≡ less →
        names_rise (if less then new ∷ bound ∷ database else bound ∷ with_bound new database) ≡ true
    by_order different first others true e =
        both_true
        (both_true e (all_above new.name bound.name database (is_lt-Less _ e) first)) rise
    by_order different first others false e =
        both_true
        (all_with (λ later. is_lt (name_cmp bound.name later.name)) new database
        (ap is_lt (above new.name bound.name different e)) first) others

-- a database with one more relation variable, of another name and empty
pub added_kept :
    (field : Field) (database : List Bound) → is_kept field.name field.kind ≡ true → bound_named field.name database ≡ None →
    is_database database ≡ true → is_database (with_bound (empty_bound field) database) ≡ true
added_kept field database kept none sound =
    both_true
    (all_with is_bound (empty_bound field) database (empty_kept field kept)
    (first_so (list_all is_bound database) (names_rise database) sound))
    (rise_with (empty_bound field) database none (second_so (list_all is_bound database) (names_rise database) sound))

-- ---- another relation

-- one of those that all pass
all-get :
    {X : Type 0} (test : X → Bool) (xs : List X) (i : ℕ) (x : X) → slice_get xs i ≡ Some x → list_all test xs ≡ true →
    test x ≡ true
all-get test [] i x got all = absurd cc
all-get test (y ∷ xs) zero x got all =
    let same : y ≡ x = some_is y x got in
    rw (← same) (first_so (test y) (list_all test xs) all)
all-get test (y ∷ xs) (suc i) x got all = all-get test xs i x got (second_so (test y) (list_all test xs) all)

rise_holding :
    (database : List Bound) (at : ℕ) (bound : Bound) (relation : Value) → slice_get database at ≡ Some bound →
    names_rise database ≡ true → names_rise (slice_set database at (holding relation bound)) ≡ true
rise_holding [] at bound relation got rise = refl
rise_holding (first ∷ database) zero bound relation got rise =
    let same : first ≡ bound = some_is first bound got in
    rw (← same) rise
rise_holding (first ∷ database) (suc at) bound relation got rise =
    let above_first = first_so (list_all (λ later. is_lt (name_cmp first.name later.name)) database) (names_rise database) rise in
    both_true
    (list_all-slice_set (λ later. is_lt (name_cmp first.name later.name)) database at (holding relation bound) above_first
    (all-get (λ later. is_lt (name_cmp first.name later.name)) database at bound got above_first))
    (rise_holding database at bound relation got
    (second_so (list_all (λ later. is_lt (name_cmp first.name later.name)) database) (names_rise database) rise))

-- a database whose variable holds another relation of its type
pub held_kept :
    (database : List Bound) (at : ℕ) (bound : Bound) (relation : Value) → slice_get database at ≡ Some bound →
    is_of bound.kind relation ≡ true → are_small bound.kind relation ≡ true → is_database database ≡ true →
    is_database (with_relation relation at database) ≡ true
held_kept database at bound relation got of small sound =
    let all = first_so (list_all is_bound database) (names_rise database) sound in
    let rise = second_so (list_all is_bound database) (names_rise database) sound in
    let this : is_bound bound ≡ true = all-get is_bound database at bound got all in
    let kept : is_kept bound.name bound.kind ≡ true =
    first_so (is_kept bound.name bound.kind) (is_of bound.kind bound.rel)
    (first_so (is_kept bound.name bound.kind && is_of bound.kind bound.rel) (are_small bound.kind bound.rel) this)
    in
    rw got (both_true
    (list_all-slice_set is_bound database at (holding relation bound) all (both_true (both_true kept of) small))
    (rise_holding database at bound relation got rise))
