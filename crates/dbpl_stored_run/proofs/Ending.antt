-- A run from the opening of the store to its end.
use Rattle.std.proofs.Common.{◌≡◌, ◌∙◌, Bool, List, [], ◌++◌, None, IsTrue, true, false, ap, append-nil, refl, subst, sym}
use Rattle.std.specs.Prelude.{MatchBool}
use Rattle.dbpl_stored_program.proofs.Databases.{bound-is_there}
use Rattle.dbpl_stored_program.proofs.Statements.{whole-comes_to}
use Rattle.dbpl_core.specs.Events.{Event}
use Rattle.dbpl_stored_program.specs.Meaning.{Outcome, Standing}
use Rattle.dbpl_stored_program.specs.Whole.{comes_to, events_of, leaving, whole_run}
use Rattle.dbpl_stored_program.specs.declared.stored_program.StoredProgram.{StoredProgram}
use Rattle.dbpl_value.specs.Binding.{Binds, Differs}
use Rattle.dbpl_log.specs.Records.{HasHead}
use Rattle.dbpl_store.specs.Stands.{LeavesOld, stands}
use Rattle.dbpl_store.specs.Stores.{IsBoundTo, IsOpen, committed_of, database_in}
use Rattle.dbpl_store.specs.declared.store.Store.{Store}
use Rattle.dbpl_stored_run.proofs.Bindings.{stands-head, stands-one}
use Rattle.dbpl_value.proofs.BoundTo.{binds-one, differs-not_binds}
use Rattle.dbpl_stored_run.proofs.Tying.{made-behind, moments-behind, some-behind, tied-still}
use Rattle.dbpl_stored_run.specs.Answers.{HasOther, HasRun, ReadsAs}
use Rattle.dbpl_stored_run.specs.Headline.{HasMade, HasMadeSome, LeavesTied, StandsFor}
use Rattle.dbpl_stored_run.specs.Statements.{events_by, standing_by}
use Rattle.dbpl_value.specs.declared.bound.Bound.{Bound}
use Rattle.dbpl_value.specs.declared.field.Field.{Field}
use Rattle.dbpl_world.proofs.Moments.{moments_last, moments_weaken}
use Rattle.dbpl_world.specs.History.{AllReadAnImage, History, State, now}
use Rattle.dbpl_world.specs.Moments.{EachMoment}

-- ---- before the first statement

-- nothing was said while the store was opened
unsaid : (h0 h1 : History) → EachMoment (LeavesOld (now h0)) h0 h1 → (now h1).said ≡ (now h0).said ++ []
unsaid h0 h1 run =
    let here = moments_last (LeavesOld (now h0)) h0 h1 run in
    ap (λ (s : State). s.said) here.others ∙ sym (append-nil (now h0).said)

pub moments-unbegun :
    (events : List Event) (database : List Bound) (h0 h1 : History) → StandsFor database (now h0) →
    EachMoment (LeavesOld (now h0)) h0 h1 → EachMoment (LeavesTied events database (now h0)) h0 h1
moments-unbegun events database h0 h1 stood run =
    moments_weaken (LeavesOld (now h0)) (LeavesTied events database (now h0)) h0 h1
    (λ s leaves. tied-still events database (now h0) s stood leaves) run

-- none of the events was made
pub some-unbegun :
    (events : List Event) (database : List Bound) (h0 h1 : History) → StandsFor database (now h0) →
    EachMoment (LeavesOld (now h0)) h0 h1 → HasMadeSome events database (now h0) (now h1)
some-unbegun events database h0 h1 stood run =
    let here = moments_last (LeavesOld (now h0)) h0 h1 run in
    record {
      made = [];
      rest = events;
      prefix = refl;
      has = record {
        printed = unsaid h0 h1 run;
        stored = λ log pages image torn. stood log pages (here.log log image) (here.pages pages torn);
      };
    }

-- The store is open, and the program is bound to what it stood for.
pub record HasBegun (program : StoredProgram) (tells : Bool) (store : Store) (h0 h1 : History) : Type 0 where
  pub stood : IsTrue tells → ReadsAs (committed_of store) (now h0)
  pub binds : Binds program.relation (committed_of store) (database_in store)
  pub opened : IsTrue tells → IsOpen (now h1) store
  pub moments : IsTrue tells → EachMoment (LeavesOld (now h0)) h0 h1

-- what was opened and then bound
pub bound-begun :
    (program : StoredProgram) (tells : Bool) (opened bound : Store) (h0 h1 : History) →
    (IsTrue tells → ReadsAs (committed_of opened) (now h0)) → database_in opened ≡ committed_of opened →
    committed_of bound ≡ committed_of opened → Binds program.relation (database_in opened) (database_in bound) →
    (IsTrue tells → IsOpen (now h1) bound) → (IsTrue tells → EachMoment (LeavesOld (now h0)) h0 h1) →
    HasBegun program tells bound h0 h1
bound-begun program tells opened bound h0 h1 stood database committed binds stays moments = record {
  stood = λ told. subst (λ (d : List Bound). ReadsAs d (now h0)) (sym committed) (stood told);
  binds = subst (λ (d : List Bound). Binds program.relation d (database_in bound)) (database ∙ sym committed) binds;
  opened = stays;
  moments = moments;
}

module _ (program : StoredProgram) (tells : Bool) (store : Store) (h0 h1 : History)
    (begins : HasBegun program tells store h0 h1) where
  -- the database of the store is the one that it stood for, and the bound one is that to which it is bound
  committed-is : (told : IsTrue tells) (database : List Bound) → ReadsAs database (now h0) → committed_of store ≡ database
  committed-is told database reads =
      stands-one (now h0).disk.log.now (now h0).disk.pages.now (committed_of store) database (begins.stood told) reads

  bound-is :
      (told : IsTrue tells) (database bound : List Bound) → ReadsAs database (now h0) → Binds program.relation database bound →
      database_in store ≡ bound
  bound-is told database bound reads binds =
      binds-one program.relation database (database_in store) bound
      (subst (λ (d : List Bound). Binds program.relation d (database_in store)) (committed-is told database reads) begins.binds)
      binds

  -- its whole run is what its statements come to
  whole-is :
      whole_run program (database_in store) (now h0).input
      ≡ leaving (now h0).input (comes_to program program.body (database_in store))
  whole-is =
      let there = bound-is_there program.relation (committed_of store) (database_in store) begins.binds in
      whole-comes_to program (database_in store) (now h0).input there.0 there.1

  events-are : events_by program program.body (database_in store) ≡ events_of program (database_in store) (now h0).input
  events-are = ap (λ (outcome : Outcome). outcome.events) (sym whole-is)

  -- ---- its statements

  module _ (h2 : History) where
    pub begun-moments :
        (told : IsTrue tells) (database bound : List Bound) → ReadsAs database (now h0) → StandsFor database (now h0) →
        Binds program.relation database bound →
        (IsTrue tells → IsOpen (now h1) store →
        EachMoment (LeavesTied (events_by program program.body (database_in store)) (committed_of store) (now h1)) h1 h2) →
        EachMoment (LeavesTied (events_of program bound (now h0).input) database (now h0)) h0 h2
    begun-moments told database bound reads stood binds moments =
        let before = begins.moments told in
        moments-behind [] (events_of program bound (now h0).input) database h0 h1 h2 (moments-unbegun [] database h0 h1 stood before)
        (unsaid h0 h1 before)
        (subst (λ (d : List Bound). EachMoment (LeavesTied (events_of program bound (now h0).input) d (now h1)) h1 h2) (committed-is told database reads)
        (subst (λ (events : List Event). EachMoment (LeavesTied events (committed_of store) (now h1)) h1 h2)
        (events-are ∙ ap (λ (b : List Bound). events_of program b (now h0).input) (bound-is told database bound reads binds)) (moments told (begins.opened told))))

    -- all its events, from the entry on
    made-all :
        (told : IsTrue tells) →
        (IsTrue tells → IsOpen (now h1) store →
        HasMade (events_by program program.body (database_in store)) (committed_of store) (now h1) (now h2)) →
        HasMade (events_of program (database_in store) (now h0).input) (committed_of store) (now h0) (now h2)
    made-all told made =
        made-behind [] (events_of program (database_in store) (now h0).input) (committed_of store) (now h0) (now h1) (now h2)
        (unsaid h0 h1 (begins.moments told))
        (subst (λ (events : List Event). HasMade events (committed_of store) (now h1) (now h2)) events-are
        (made told (begins.opened told)))

    pub begun-made :
        (told : IsTrue tells) (database bound : List Bound) → ReadsAs database (now h0) → Binds program.relation database bound →
        (IsTrue tells → IsOpen (now h1) store →
        HasMade (events_by program program.body (database_in store)) (committed_of store) (now h1) (now h2)) →
        HasMade (events_of program bound (now h0).input) database (now h0) (now h2)
    begun-made told database bound reads binds made =
        subst (λ (d : List Bound). HasMade (events_of program bound (now h0).input) d (now h0) (now h2)) (committed-is told database reads)
        (subst (λ (b : List Bound). HasMade (events_of program b (now h0).input) (committed_of store) (now h0) (now h2))
        (bound-is told database bound reads binds) (made-all told made))

    pub begun-some :
        (told : IsTrue tells) (database bound : List Bound) → ReadsAs database (now h0) → Binds program.relation database bound →
        (IsTrue tells → IsOpen (now h1) store →
        HasMadeSome (events_by program program.body (database_in store)) (committed_of store) (now h1) (now h2)) →
        HasMadeSome (events_of program bound (now h0).input) database (now h0) (now h2)
    begun-some told database bound reads binds some =
        some-behind [] (events_of program bound (now h0).input) database (now h0) (now h1) (now h2)
        (unsaid h0 h1 (begins.moments told))
        (subst (λ (d : List Bound). HasMadeSome (events_of program bound (now h0).input) d (now h1) (now h2)) (committed-is told database reads)
        (subst (λ (events : List Event). HasMadeSome events (committed_of store) (now h1) (now h2))
        (events-are ∙ ap (λ (b : List Bound). events_of program b (now h0).input) (bound-is told database bound reads binds)) (some told (begins.opened told))))

    pub begun-stands :
        (told : IsTrue tells) (database bound : List Bound) → ReadsAs database (now h0) → Binds program.relation database bound →
        (standing : Standing) → standing_by program program.body (database_in store) ≡ standing →
        (whole_run program bound (now h0).input).stands ≡ standing
    begun-stands told database bound reads binds standing stands =
        ap (λ (b : List Bound). (whole_run program b (now h0).input).stands) (sym (bound-is told database bound reads binds))
        ∙ ap (λ (outcome : Outcome). outcome.stands) whole-is ∙ stands

    pub begun-run :
        (standing : Standing) → standing_by program program.body (database_in store) ≡ standing →
        (IsTrue tells → IsOpen (now h1) store →
        HasMade (events_by program program.body (database_in store)) (committed_of store) (now h1) (now h2)) →
        HasRun program standing tells h0 h2
    begun-run standing stands made = record {
      database = committed_of store;
      bound = database_in store;
      stood = begins.stood;
      binds = begins.binds;
      ends = ap (λ (outcome : Outcome). outcome.stands) whole-is ∙ stands;
      made = λ told. made-all told made;
    }

  -- ---- refusals that don't come

  pub begun-head : (told : IsTrue tells) → HasHead (now h0).disk.log.now
  begun-head told = stands-head (now h0).disk.log.now (now h0).disk.pages.now (committed_of store) (begins.stood told)

  pub begun-sound : (told : IsTrue tells) → stands (now h0).disk.log.now (now h0).disk.pages.now ≡ None → ⊥
  begun-sound told none = let both = sym (begins.stood told) ∙ none in cc

  pub begun-agrees : (told : IsTrue tells) (database : List Bound) → ReadsAs database (now h0) → Differs program.relation database → ⊥
  begun-agrees told database reads differs =
      differs-not_binds program.relation database (database_in store) differs
      (subst (λ (d : List Bound). Binds program.relation d (database_in store)) (committed-is told database reads) begins.binds)

-- ---- what the store stands for

-- what a store stands for by each image it stands for by what a read gives
pub reads-of : (database : List Bound) (s : State) → AllReadAnImage s → StandsFor database s → ReadsAs database s
reads-of database s image stood = stood s.disk.log.now s.disk.pages.now image.disk.log image.disk.pages

pub reads-head : (database : List Bound) (s : State) → ReadsAs database s → HasHead s.disk.log.now
reads-head database s reads = stands-head s.disk.log.now s.disk.pages.now database reads

pub reads-undamaged : {A : Type 0} (database : List Bound) (s : State) → ReadsAs database s → stands s.disk.log.now s.disk.pages.now ≡ None → A
reads-undamaged database s reads none = absurd (let both = sym reads ∙ none in cc)

-- ---- a variable with another type

module _ (field : Field) (opened bound : Store) (is_bound : Bool) (s : State)
    (binds : MatchBool is_bound (Binds field (database_in opened) (database_in bound) × IsBoundTo field bound)
    (Differs field (database_in opened) × (database_in bound ≡ database_in opened))) where
  pub matched-true : is_bound ≡ true → Binds field (database_in opened) (database_in bound) × IsBoundTo field bound
  matched-true so = subst (λ (b : Bool). MatchBool b (Binds field (database_in opened) (database_in bound) × IsBoundTo field bound)
      (Differs field (database_in opened) × (database_in bound ≡ database_in opened))) so binds

  matched-false : is_bound ≡ false → Differs field (database_in opened)
  matched-false not =
      let both = subst (λ (b : Bool). MatchBool b (Binds field (database_in opened) (database_in bound) × IsBoundTo field bound)
      (Differs field (database_in opened) × (database_in bound ≡ database_in opened))) not binds in
      both.0

  pub has-other :
      (tells : Bool) (h : History) → is_bound ≡ false → database_in opened ≡ committed_of opened →
      (IsTrue tells → ReadsAs (committed_of opened) (now h)) → HasOther field tells h
  has-other tells h not same reads = record {
    database = database_in opened;
    stood = λ told. subst (λ (d : List Bound). ReadsAs d (now h)) (sym same) (reads told);
    differs = matched-false not;
  }

  pub other-unbound :
      {A : Type 0} → is_bound ≡ false → database_in opened ≡ committed_of opened → ReadsAs (committed_of opened) s →
      (database after : List Bound) → ReadsAs database s → Binds field database after → A
  other-unbound not same read database after reads there =
      let one : database_in opened ≡ database =
      same ∙ stands-one s.disk.log.now s.disk.pages.now (committed_of opened) database read reads in
      absurd (differs-not_binds field (database_in opened) after (matched-false not)
      (subst (λ (d : List Bound). Binds field d after) (sym one) there))
