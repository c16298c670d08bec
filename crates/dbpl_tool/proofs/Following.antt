-- Two commands, one behind the other: what the first one leaves is what the second one may run over.
use Rattle.std.proofs.Common.{◌≡◌, ◌∙◌, ℕ, List, [], ◌++◌, Bool, IsTrue, None, Option, Some, ap, false, inl, inr, map, refl, subst, sym, true}
use Rattle.std.specs.Prelude.{bytes_eq, if◌then◌else◌}
use Rattle.dbpl_base.specs.declared.status.Status.{Status}
use Rattle.dbpl_base.specs.declared.status.Status.TheVariants as status
use Rattle.dbpl_core.specs.Events.{last}
use Rattle.dbpl_core.specs.Outcomes.{IsSteady as IsSteadyMeaning, Outcome, TellsOfEnd}
use Rattle.dbpl_promise.proofs.Headline.{now_noted}
use Rattle.dbpl_promise.proofs.Rows.{BeginsAs}
use Rattle.dbpl_promise.proofs.Stages.{one_end}
use Rattle.dbpl_promise.proofs.Unasked.{passed_all}
use Rattle.dbpl_promise.specs.Promises.{Answered}
use Rattle.dbpl_promise.specs.Running.{running}
use Rattle.dbpl_promise.specs.Runs.{IsWhole, Leaves, Run as Running, StoodFor}
use Rattle.dbpl_promise.specs.Work.{IsTold, Work}
use Rattle.dbpl_store.specs.Stands.{stands}
use Rattle.dbpl_stored_modes.proofs.Stages.{found_over, meaning_steady, over_row, run_of}
use Rattle.dbpl_stored_modes.specs.CreateCommand.{creates}
use Rattle.dbpl_stored_modes.specs.Images.{EachImage, StandsThere}
use Rattle.dbpl_stored_modes.specs.RunCommand.{runs_over}
use Rattle.dbpl_tool.proofs.Rows.{row_of}
use Rattle.dbpl_tool.specs.Commands.{Keeps, Runs}
use Rattle.dbpl_tool.specs.Next.{LeavesStore}
use Rattle.dbpl_value.specs.declared.bound.Bound.{Bound}
use Rattle.dbpl_words.specs.Asked.{Create, Run}
use Rattle.dbpl_world.specs.History.{AllReadAnImage, History, Noted, ReadsAnImage, State, Store, more, now, store_among, store_of}

-- ---- what a read gives of any store is an image of it

among : (mounted : Option (List ℕ)) (disk : Store) (others : List ℕ → Store) (name : List ℕ) → ReadsAnImage disk →
    ((other : List ℕ) → ReadsAnImage (others other)) → ReadsAnImage (store_among mounted disk others name)
among None disk others name here there = there name
among (Some mounted) disk others name here there = by_test (bytes_eq mounted name)
  where
    by_test : (test : Bool) → ReadsAnImage (if test then disk else others name)
    by_test true = here
    by_test false = there name

reads_there : (s : State) (name : List ℕ) → AllReadAnImage s → ReadsAnImage (store_of s name)
reads_there s name all = among s.mounted s.disk s.others name all.disk all.others

-- ---- each image stands for one database

-- whatever a stop leaves of the store stands for what a read of it does
abbrev pub StandsAsRead : List ℕ → State → Type 0
StandsAsRead name s = EachImage name s (λ log pages. stands log pages ≡ stands (store_of s name).log.now (store_of s name).pages.now)

-- one claim of each image, that tells what it stands for
one_database : (name : List ℕ) (s : State) (P : Option (List Bound) → Type 0) → ((one other : Option (List Bound)) → P one → P other → one ≡ other) →
    AllReadAnImage s → EachImage name s (λ log pages. P (stands log pages)) → StandsAsRead name s
one_database name s P one all each log pages log_left pages_left =
    let reads = reads_there s name all in
    one (stands log pages) (stands (store_of s name).log.now (store_of s name).pages.now) (each log pages log_left pages_left)
    (each (store_of s name).log.now (store_of s name).pages.now reads.log reads.pages)

-- each image of the store stands for one database
abbrev pub StandsForOne : List ℕ → State → Type 0
StandsForOne name s = (database : List Bound) × StandsThere name s database

-- so each stands for what a read of it does
pub as_read : (name : List ℕ) (s : State) → AllReadAnImage s → StandsForOne name s → StandsAsRead name s
as_read name s all (database, each) log pages log_left pages_left =
    let reads = reads_there s name all in
    each log pages log_left pages_left ∙ sym (each (store_of s name).log.now (store_of s name).pages.now reads.log reads.pages)

-- notes leave it so
behind_notes : (name : List ℕ) (s : State) (noted : List ℕ) → StandsForOne name s → StandsForOne name (record s { noted = noted })
behind_notes name s noted stood = stood

-- ---- behind the first command

-- the same of all the images that a whole run leaves
whole_one : (store : List ℕ) (run : Running) (old : State) (answer : Status) (left : List ℕ) (said : List ℕ) →
    ((input : List ℕ) → IsSteadyMeaning (run.means input)) → (one other : Option (List Bound)) →
    IsWhole run old answer left one said → IsWhole run old answer left other said → one ≡ other
whole_one store run old answer left said steady one other first second =
    let same = one_end (run.means old.input) first.turns second.turns answer answer (steady old.input) first.ends second.ends in
    first.has.stored ∙ (ap (λ (outcome : Outcome). Some (last outcome.events run.database)) same ∙ sym second.has.stored)

after_create : (store : List ℕ) (work : Work) → IsTrue work.tells → Answered (creates store) work status.Done → StandsForOne store (now work.after)
after_create store work told did = ([], (did.end told).made refl)

after_run : (store schema program : List ℕ) (work : Work) (answer : Status) → IsTold work → AllReadAnImage (now work.after) → TellsOfEnd answer →
    Answered (running (runs_over store schema program)) work answer → StandsForOne store (now work.after)
after_run store schema program work answer told all ends did =
    by_run
    (passed_all (running (runs_over store schema program)).due (over_row store schema program).kinds work answer ends
    did.answers)
  where
    by_run : (running (runs_over store schema program)).due.passes work answer → StandsForOne store (now work.after)
    by_run (run, (stored, reads, (done, named, over)), told_by) =
        let found = found_over store stored work run over in
        let this = run_of store stored found.database found.bound in
        let whole : Leaves run.store (IsWhole run (now work.before) answer (now work.after).input) (now work.after) =
        (did.end told.world).whole told run (stored, reads, (done, named, over)) ends in
        let also : Leaves (Some store) (IsWhole this (now work.before) answer (now work.after).input) (now work.after) =
        subst (λ (r : Running). Leaves r.store (IsWhole r (now work.before) answer (now work.after).input) (now work.after)) found.is whole in
        let reads = reads_there (now work.after) store all in
        let left = also (store_of (now work.after) store).log.now (store_of (now work.after) store).pages.now reads.log reads.pages in
        let same = one_database store (now work.after) (λ one. IsWhole this (now work.before) answer (now work.after).input one (now work.after).said)
        (whole_one store this (now work.before) answer (now work.after).input (now work.after).said (meaning_steady stored found.bound)) all also in (
          last (this.means (now work.before).input left.turns).events this.database,
          λ log pages log_left pages_left. same log pages log_left pages_left ∙ left.has.stored,
        )

-- ---- the first command leaves the store so

-- What a read gives is an image once the command is done, and so it was before its report was noted.
read_between : (s : State) (noted : List ℕ) → AllReadAnImage (record s { noted = noted }) → AllReadAnImage s
read_between s noted all = record { disk = all.disk; others = all.others }

module _ (words : List (List ℕ)) (work : Work) (answer : Status) (told : IsTold work) (all : AllReadAnImage (now work.after)) where
  module _ (between : History) (noted : List ℕ) (behind : work.after ≡ more between (map Noted noted)) where
    ends_so : now work.after ≡ record (now between) { noted = (now between).noted ++ noted }
    ends_so = now_noted between work.after noted behind

    here : AllReadAnImage (now between)
    here = read_between (now between) ((now between).noted ++ noted) (subst AllReadAnImage ends_so all)

    later : (store : List ℕ) → StandsForOne store (now between) → StandsForOne store (now work.after)
    later store stood =
        subst (StandsForOne store) (sym ends_so) (behind_notes store (now between) ((now between).noted ++ noted) stood)

  pub leaves_store : (store : List ℕ) → Keeps words work answer → LeavesStore words store answer → StandsForOne store (now work.after)
  leaves_store store kept (inl created) =
      let did = kept (Create store) created.0 in
      let behind = did.behind told.world in
      later did.between did.noted behind store
      (after_create store (record work { after = did.between; counts_after = did.counts_between }) told.world
      (subst (Answered (creates store) (record work { after = did.between; counts_after = did.counts_between })) created.1 did.did))
  leaves_store store kept (inr (schema, program, asks, ends)) =
      let did = kept (Run store schema program) asks in
      let behind = did.behind told.world in
      later did.between did.noted behind store
      (after_run store schema program (record work { after = did.between; counts_after = did.counts_between }) answer
      (record { files = told.files; world = told.world }) (here did.between did.noted behind) ends did.did)

-- ---- the second command runs over it

-- what is run rests on the beginning
pub runs_over_files : (words : List (List ℕ)) (work other : Work) (run : Running) → BeginsAs work other →
    Runs words work run → Runs words other run
runs_over_files words work other run same runs =
    (runs.0, runs.1, (row_of runs.0).run_is.rests work other run same runs.2)

-- a run over a store that stands as it reads
pub stood_for : (words : List (List ℕ)) (work : Work) (store : List ℕ) (run : Running) → IsTrue work.tells → run.store ≡ Some store →
    Runs words work run → StandsAsRead store (now work.before) → StoodFor run (now work.before)
stood_for words work store run tells over runs there =
    let reads = (row_of runs.0).run_is.reads work run store tells runs.2 over in
    subst (λ (s : Option (List ℕ)). Leaves s (λ found said. found ≡ Some run.database) (now work.before)) (sym over)
    (λ log pages log_left pages_left. there log pages log_left pages_left ∙ reads)
