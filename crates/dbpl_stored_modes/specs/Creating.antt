-- What stands there while an empty store is made, and what is answered.
use Rattle.std.specs.Prelude.{◌≡◌, ◌⊎◌, ℕ, Err, List, [], Ok, Result, Some}
use Rattle.dbpl_base.specs.declared.status.Status.{Status}
use Rattle.dbpl_base.specs.declared.status.Status.TheVariants as status
use Rattle.dbpl_log.specs.declared.create_err.CreateErr.{CreateErr}
use Rattle.dbpl_log.specs.declared.create_err.CreateErr.TheVariants as errors
use Rattle.dbpl_store.specs.Beginning.{MayBecomeEmpty}
use Rattle.dbpl_store.specs.Stands.{stands}

-- No store yet, and one may still be made, or the empty one; and nothing was said.
pub record IsBeingMade (before log pages said : List ℕ) : Type 0 where
  pub stage : MayBecomeEmpty log pages ⊎ (stands log pages ≡ Some [])
  pub said_is : said ≡ before

-- the answer where making a store went so
abbrev pub answer_of : Result (Unit {0}) CreateErr → Status
answer_of (Ok done) = status.Done
answer_of (Err errors.Exists) = status.Exists
answer_of (Err errors.Foreign) = status.Foreign
answer_of (Err errors.Disk) = status.DiskFault
