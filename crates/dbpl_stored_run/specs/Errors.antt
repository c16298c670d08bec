-- Why a run stops, from why one of its parts does.
use Rattle.std.specs.Prelude.{◌≡◌, ◌⊎◌, ℕ, Err, Result}
use Rattle.dbpl_stored_program.specs.declared.run_err.RunErr.{RunErr}
use Rattle.dbpl_stored_program.specs.declared.run_err.RunErr.TheVariants as run_errors
use Rattle.dbpl_store.specs.declared.store_err.StoreErr.{StoreErr}
use Rattle.dbpl_store.specs.declared.store_err.StoreErr.TheVariants as store_errors
use Rattle.dbpl_stored_run.specs.declared.body_err.BodyErr.{BodyErr}
use Rattle.dbpl_stored_run.specs.declared.body_err.BodyErr.TheVariants as body_errors
use Rattle.dbpl_stored_run.specs.declared.stop_err.StopErr.{StopErr}
use Rattle.dbpl_stored_run.specs.declared.stop_err.StopErr.TheVariants as errors
use Rattle.dbpl_world.specs.Counts.{Rose}

-- The answer of a body that went so, once all that it printed was to be written out: the count of failed prints stayed, or
-- it rose, and that is the answer.
abbrev pub IsWrittenOut : Result (Unit {0}) BodyErr → Result (Unit {0}) BodyErr → ℕ → ℕ → Type 0
IsWrittenOut went answer old new =
    ((answer ≡ went) × (new ≡ old)) ⊎ ((answer ≡ Err body_errors.OutFault) × Rose old new)

-- a transaction that was not done
abbrev pub of_transaction : RunErr → BodyErr
of_transaction (run_errors.Trap trap) = body_errors.Trapped trap
of_transaction run_errors.Memory = body_errors.Memory

-- a store that was not opened
abbrev pub of_store : StoreErr → StopErr
of_store store_errors.NotStore = errors.NotStore
of_store store_errors.Disk = errors.DiskFault
of_store (store_errors.Damaged page) = errors.Damaged page
of_store store_errors.Memory = errors.Memory

-- a body that stopped
abbrev pub of_body : BodyErr → StopErr
of_body (body_errors.Trapped trap) = errors.Trapped trap
of_body body_errors.DiskFault = errors.DiskFault
of_body body_errors.OutFault = errors.OutFault
of_body body_errors.Memory = errors.Memory
