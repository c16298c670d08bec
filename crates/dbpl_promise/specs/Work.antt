-- What a command met and did.
use Rattle.std.specs.Prelude.{◌≡◌, ◌≤◌, ℕ, Bool, IsSome, IsTrue, List, Option, map}
use Rattle.dbpl_world.specs.Files.{Files}
use Rattle.dbpl_world.specs.History.{History, Noted, more}
use Rattle.dbpl_world.specs.declared.counts.Counts.{Counts}
use Rattle.dbpl_world.specs.declared.outside.World as outside
use Rattle.dbpl_world.specs.declared.shelf.Shelf as shelf

-- What the shelf tells and how often it had failed before and after, whether the world tells, and what it and its counts
-- were before and after.
pub record Work : Type 0 where
  pub files : Option Files
  pub shelf_faults_before : ℕ
  pub shelf_faults_after : ℕ
  pub tells : Bool
  pub before : History
  pub after : History
  pub counts_before : Counts
  pub counts_after : Counts

-- the work of a call that was lent a world, between two looks at a shelf
abbrev pub work_in : {W : Type 0} → outside.Ghosts W → Option Files → ℕ → ℕ → W → W → Work
work_in world files faults_before faults_after before after = record {
  files = files;
  shelf_faults_before = faults_before;
  shelf_faults_after = faults_after;
  tells = world.tells;
  before = world.history before;
  after = world.history after;
  counts_before = world.counts before;
  counts_after = world.counts after;
}

-- THE work of a call that was lent a shelf and a world
abbrev pub work_of : {S W : Type 0} → shelf.Ghosts S → outside.Ghosts W → S → S → W → W → Work
work_of files world shelf_before shelf_after before after =
    work_in world (files.files shelf_before) (files.shelf_faults shelf_before) (files.shelf_faults shelf_after) before after

-- where the world tells, nothing happened to it but that bytes were noted, perhaps none
abbrev pub OnlyNotes : Work → Type 0
OnlyNotes work = IsTrue work.tells → (bytes : List ℕ) × (work.after ≡ more work.before (map Noted bytes))

-- The work is one with this shelf, in the course of which it went from the one to the other.
pub record IsOver {S : Type 0} (files : shelf.Ghosts S) (before after : S) (work : Work) : Type 0 where
  pub files_are : work.files ≡ files.files before
  pub begins : work.shelf_faults_before ≤ files.shelf_faults before
  pub ends : files.shelf_faults after ≤ work.shelf_faults_after

-- the shelf tells its files, and the world what has happened
pub record IsTold (work : Work) : Type 0 where
  pub files : IsSome work.files
  pub world : IsTrue work.tells
