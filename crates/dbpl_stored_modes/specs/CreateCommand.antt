-- THE command `create`.
use Rattle.std.specs.Prelude.{◌≡◌, ◌⊎◌, ℕ, IsTrue, List, []}
use Rattle.dbpl_base.specs.declared.status.Status.{Status}
use Rattle.dbpl_base.specs.declared.status.Status.TheVariants as status
use Rattle.dbpl_log.specs.Beginning.{IsForeign, IsFree, begun}
use Rattle.dbpl_log.specs.Records.{HasHead}
use Rattle.dbpl_promise.specs.Faults.{disk_faults}
use Rattle.dbpl_promise.specs.Leaving.{IsUntouched, made_sure}
use Rattle.dbpl_promise.specs.Opening.{store_before}
use Rattle.dbpl_promise.specs.Promises.{Promise}
use Rattle.dbpl_promise.specs.Stages.{Never, Stage, gives, ◌>>=◌}
use Rattle.dbpl_promise.specs.Work.{Work}
use Rattle.dbpl_store.specs.Beginning.{MayBecomeEmpty}
use Rattle.dbpl_stored_modes.specs.Creating.{IsBeingMade}
use Rattle.dbpl_stored_modes.specs.Images.{EachImage, StandsThere}
use Rattle.dbpl_world.specs.History.{State, now, store_of}
use Rattle.dbpl_world.specs.Images.{settled}
use Rattle.dbpl_world.specs.Moments.{LeavesOnlyAt}

-- there is a store of this name, or files of something else
abbrev pub IsTaken : List ℕ → Work → Status → Type 0
IsTaken name work status.Exists = IsTrue work.tells → HasHead (store_before name work).log.now
IsTaken name work status.Foreign = IsTrue work.tells → IsForeign (store_before name work)
IsTaken name work _ = ⊥

-- THE stage in which a store is made where none is
abbrev pub store_made : List ℕ → Stage (Unit {0})
store_made name = record {
  passes = λ work done. IsTrue work.tells → IsFree (store_before name work);
  refuses = IsTaken name;
  fails = disk_faults;
  mounts = λ work mounted. mounted ≡ name;
}

-- THE store at each moment.
pub record MayCreate (name : List ℕ) (work : Work) (answer : Status) (s : State) : Type 0 where
  -- No store is there, and one may still be made, or the empty one is there.
  pub stage : EachImage name (now work.before) MayBecomeEmpty → LeavesOnlyAt name (IsBeingMade (now work.before).said) s
  -- What isn't free stays as it was, whatever the answer, and so does all where memory was wanting.
  pub kept : (IsFree (store_before name work) → ⊥) ⊎ (answer ≡ status.Memory) → IsUntouched (now work.before) s
  pub said : s.said ≡ (now work.before).said
  pub input : s.input ≡ (now work.before).input

-- THE store at the end.
pub record EndsCreate (name : List ℕ) (work : Work) (answer : Status) (s : State) : Type 0 where
  -- After Done the empty one is there, with the bytes of its head, and its pages are on the disk.
  pub made : answer ≡ status.Done → StandsThere name s []
  pub bytes : answer ≡ status.Done → (store_of s name).log.now ≡ begun (store_before name work).log.now
  pub pages : answer ≡ status.Done → (store_of s name).pages ≡ settled (store_before name work).pages.now
  -- What is refused was made sure of first.
  pub settled : (answer ≡ status.Exists) ⊎ (answer ≡ status.Foreign) →
      store_of s name ≡ made_sure (store_before name work)

-- THE row
abbrev pub creates : List ℕ → Promise
creates name = record {
  due = do
    _ ← store_made name
    gives status.Done;
  runs = Never;
  may = MayCreate name;
  ends = EndsCreate name;
}
