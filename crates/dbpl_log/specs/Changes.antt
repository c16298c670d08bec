-- What holds of the disk at each moment of a call.
use Rattle.std.specs.Prelude.{◌≡◌, ◌⊎◌, ◌+◌, ℕ, List, [], ◌∷◌, ◌++◌, length, take, drop, Some}
use Rattle.std.specs.Int.{w32, to_le_bytes}
use Rattle.dbpl_world.specs.declared.part.Part.TheVariants.{Log}
use Rattle.dbpl_world.specs.Images.{PartState, IsImage, settled}
use Rattle.dbpl_world.specs.History.{State, Event, Wrote, Synced}
use Rattle.dbpl_log.specs.Records.{records_of}

-- Whatever a stop leaves of the mounted log is P. It leaves of the pages what it could leave at old, and of the world
-- nothing else has changed since.
pub record LeavesLog (P : List ℕ → Type 0) (old s : State) : Type 0 where
  pub log : (left : List ℕ) → IsImage s.disk.log left → P left
  pub pages : (left : List ℕ) → IsImage s.disk.pages left → IsImage old.disk.pages left
  pub others : s ≡ record old { disk = s.disk }

-- A stop leaves of the mounted store what it could leave at old. Of the world nothing but its disk has changed.
abbrev pub KeepsLog : State → State → Type 0
KeepsLog old s = LeavesLog (IsImage old.disk.log) old s

-- Since old nothing has changed but the log of the mounted store: its pages were neither written nor synced.
abbrev pub ChangesLog : State → State → Type 0
ChangesLog old s = s ≡ record old { disk = record old.disk { log = s.disk.log } }

-- what was synced at most
abbrev pub IsSynced : PartState → PartState → Type 0
IsSynced old part = (part ≡ old) ⊎ (part ≡ settled old.now)

-- Since old nothing was written but the log of the mounted store. Its pages were synced at most.
pub record WritesLog (old s : State) : Type 0 where
  pub pages : IsSynced old.disk.pages s.disk.pages
  pub others : s ≡ record old { disk = s.disk }

-- Since old nothing was written. Both parts of the mounted store were synced at most.
pub record OnlySyncs (old s : State) : Type 0 where
  pub log : IsSynced old.disk.log s.disk.log
  pub pages : IsSynced old.disk.pages s.disk.pages
  pub others : s ≡ record old { disk = s.disk }

-- the log has these records, or these and one more
abbrev pub HasEither : List (List ℕ) → List ℕ → List ℕ → Type 0
HasEither records added log = (records_of log ≡ Some records) ⊎ (records_of log ≡ Some (records ++ added ∷ []))

-- the bytes begin with these
abbrev pub HasFront : List ℕ → List ℕ → Type 0
HasFront front bytes = bytes ≡ front ++ drop (length front) bytes

-- The log with a record behind the gate at this place: the gate open, the length of the record, the record, a shut gate, and
-- whatever stood behind.
abbrev pub with_record : ℕ → List ℕ → List ℕ → List ℕ
with_record gate bytes old =
    take gate old ++ 1 ∷ (to_le_bytes w32 (length bytes) ++ bytes ++ 0 ∷ drop (gate + 6 + length bytes) old)

-- what is written behind a gate before it is opened: the length of the record, the record, and the next gate
abbrev pub staging : ℕ → List ℕ → List Event
staging gate bytes = Wrote Log (gate + 1) (to_le_bytes w32 (length bytes)) ∷ Wrote Log (gate + 5) bytes
    ∷ Wrote Log (gate + 5 + length bytes) (0 ∷ []) ∷ Synced Log ∷ []
