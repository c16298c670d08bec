-- An open store, its bound variable and what a transaction puts there.
use Rattle.std.proofs.Common.{◌≡◌, ◌∙◌, ℕ, true, List, Option, Some, None, Result, ap, refl, slice_get, subst, sym}
use Rattle.std.specs.Cmp.{second_so}
use Rattle.std.specs.List.{list_all}
use Rattle.std.specs.Option.{option_and_then, option_map, option_map_or}
use Rattle.std.specs.Prelude.{IfSome, IsSome}
use Rattle.dbpl_stored_program.proofs.Databases.{named-at, relation_named-is, with_relation-at}
use Rattle.dbpl_stored_program.specs.Insertions.{inserted_all}
use Rattle.dbpl_stored_program.specs.Meaning.{relation_named, with_named}
use Rattle.dbpl_stored_program.specs.Whole.{transacted_by}
use Rattle.dbpl_stored_program.specs.declared.stored_program.StoredProgram.{StoredProgram}
use Rattle.dbpl_core.specs.declared.trap.Trap.{Trap}
use Rattle.dbpl_value.specs.Binding.{bound_named, holding, with_relation}
use Rattle.dbpl_value.specs.Databases.{are_small, is_bound, is_database, names_rise}
use Rattle.dbpl_log.specs.Records.{records_of}
use Rattle.dbpl_log.specs.Rest.{IsAtRest}
use Rattle.dbpl_log.specs.declared.log.Log.{Log}
use Rattle.dbpl_store.proofs.Standing.{stands-for}
use Rattle.dbpl_store.specs.Stores.{IsBoundTo, IsOpen, bound_in, committed_of, database_in, with_bound_relation}
use Rattle.dbpl_store.specs.declared.store.Store.{Store}
use Rattle.dbpl_stored_run.proofs.Bindings.{some-inside}
use Rattle.dbpl_stored_run.specs.Headline.{StandsFor}
use Rattle.dbpl_value.specs.Values.{is_of}
use Rattle.dbpl_value.specs.declared.bound.Bound.{Bound}
use Rattle.dbpl_value.specs.declared.db_type.DbType.{DbType}
use Rattle.dbpl_value.specs.declared.field.Field.{Field}
use Rattle.dbpl_value.specs.declared.value.Value.{Value}
use Rattle.dbpl_world.proofs.Torn.{settled_image}
use Rattle.dbpl_world.specs.History as world
use Rattle.dbpl_world.specs.History.{State}
use Rattle.dbpl_world.specs.Images.{IsImage, PartState}

-- ---- open

-- whatever a stop leaves stands for the last commit
pub open-stands : (s : State) (store : Store) → IsOpen s store → StandsFor (committed_of store) s
open-stands s store opened = λ log pages image torn.
    let same : log ≡ s.disk.log.now =
    settled_image s.disk.log.now log (subst (λ (part : PartState). IsImage part log) opened.1.only.synced image)
    in
    stands-for log pages opened.0 (committed_of store) (ap records_of same ∙ opened.1.only.records_are) opened.2

-- what stays open
pub open-kept :
    (s t : State) (store later : Store) → t.disk ≡ s.disk → later.log ≡ store.log →
    committed_of later ≡ committed_of store → IsOpen s store → IsOpen t later
open-kept s t store later disks logs committed opened = (
  opened.0,
  subst (λ (disk : world.Store). IsAtRest disk later.log opened.0) (sym disks)
      (subst (λ (log : Log). IsAtRest s.disk log opened.0) (sym logs) opened.1),
  opened.2 ∙ ap (λ (d : List Bound). Some d) (sym committed),
)

-- ---- the bound variable

rise-in : (database : List Bound) → is_database database ≡ true → names_rise database ≡ true
rise-in database sound = second_so (list_all is_bound database) (names_rise database) sound

named-in :
    (place : Option ℕ) (database : List Bound) (bound : Bound) → names_rise database ≡ true →
    option_and_then (slice_get database) place ≡ Some bound → bound_named bound.name database ≡ Some bound
named-in None database bound rise got = cc
named-in (Some at) database bound rise got = named-at database at bound rise got

put-in :
    (place : Option ℕ) (database : List Bound) (bound : Bound) (relation : Value) → names_rise database ≡ true →
    option_and_then (slice_get database) place ≡ Some bound →
    option_map_or (λ at. with_relation relation at database) place database ≡ with_named bound.name relation database
put-in None database bound relation rise got = cc
put-in (Some at) database bound relation rise got = with_relation-at database at bound relation rise got

-- the relation in the bound variable is that of its name
pub whole-is :
    (field : Field) (before store : Store) (whole : Value) → IsBoundTo field before → bound_in store ≡ bound_in before →
    option_map (λ (bound : Bound). bound.rel) (bound_in store) ≡ Some whole →
    relation_named field.name (database_in before) ≡ whole
whole-is field before store whole bound same holds =
    let named : bound_named bound.0.name (database_in before) ≡ Some bound.0 =
    named-in before.bound before.database bound.0 (rise-in before.database before.sound) bound.1
    in
    ap (λ (name : List ℕ). relation_named name (database_in before)) (sym bound.2)
    ∙ relation_named-is bound.0.name (database_in before) bound.0 named
    ∙ some-inside bound.0.rel whole
    (ap (option_map (λ (b : Bound). b.rel)) (sym bound.1 ∙ sym same) ∙ holds)

pub transacted-is :
    (program : StoredProgram) (before store : Store) (whole : Value) (result : Result Value Trap) →
    IsBoundTo program.relation before → bound_in store ≡ bound_in before →
    option_map (λ (bound : Bound). bound.rel) (bound_in store) ≡ Some whole →
    inserted_all program.relation.kind program.insertions whole ≡ result →
    transacted_by program (database_in before) ≡ result
transacted-is program before store whole result bound same holds done =
    ap (inserted_all program.relation.kind program.insertions) (whole-is program.relation before store whole bound same holds)
    ∙ done

-- what is put in the bound variable is put in that of its name
pub put-is :
    (field : Field) (before store later : Store) (relation : Value) → IsBoundTo field before →
    database_in store ≡ database_in before → bound_in store ≡ bound_in before →
    database_in later ≡ with_bound_relation relation store →
    database_in later ≡ with_named field.name relation (database_in before)
put-is field before store later relation bound databases same put =
    put
    ∙ put-in store.bound store.database bound.0 relation (rise-in store.database store.sound) (same ∙ bound.1)
    ∙ ap (λ (name : List ℕ). with_named name relation (database_in store)) bound.2
    ∙ ap (with_named field.name relation) databases

-- it is bound still
pub still-bound :
    (field : Field) (before later : Store) → bound_in later ≡ bound_in before → IsBoundTo field before → IsBoundTo field later
still-bound field before later same bound = (bound.0, same ∙ bound.1, bound.2, bound.3)

pub held-bound :
    (field : Field) (before store later : Store) (relation : Value) → bound_in store ≡ bound_in before →
    bound_in later ≡ option_map (holding relation) (bound_in store) → IsBoundTo field before → IsBoundTo field later
held-bound field before store later relation same held bound =
    (holding relation bound.0, held ∙ ap (option_map (holding relation)) (same ∙ bound.1), bound.2, bound.3)

-- a relation is in it
pub some-bound : (field : Field) (before store : Store) → bound_in store ≡ bound_in before → IsBoundTo field before → IsSome (bound_in store)
some-bound field before store same bound = subst IsSome (sym (same ∙ bound.1)) refl

-- what fits the variable fits the program's type, and the other way round
pub fits-of :
    (field : Field) (before store : Store) (relation : Value) → bound_in store ≡ bound_in before → IsBoundTo field before →
    IfSome (bound_in store) (λ (bound : Bound). (is_of bound.kind relation ≡ true) × (are_small bound.kind relation ≡ true)) →
    is_of field.kind relation ≡ true
fits-of field before store relation same bound fits =
    let there = subst (λ (got : Option Bound). IfSome got (λ (b : Bound). (is_of b.kind relation ≡ true) × (are_small b.kind relation ≡ true)))
    (same ∙ bound.1) fits
    in
    subst (λ (kind : DbType). is_of kind relation ≡ true) bound.3 there.0

pub fits-in :
    (field : Field) (before store : Store) (relation : Value) → bound_in store ≡ bound_in before → IsBoundTo field before →
    is_of field.kind relation ≡ true → are_small field.kind relation ≡ true →
    IfSome (bound_in store) (λ (bound : Bound). (is_of bound.kind relation ≡ true) × (are_small bound.kind relation ≡ true))
fits-in field before store relation same bound of small =
    subst (λ (got : Option Bound). IfSome got (λ (b : Bound). (is_of b.kind relation ≡ true) × (are_small b.kind relation ≡ true)))
    (sym (same ∙ bound.1)) (
      subst (λ (kind : DbType). is_of kind relation ≡ true) (sym bound.3) of,
      subst (λ (kind : DbType). are_small kind relation ≡ true) (sym bound.3) small,
    )
