-- The answers of a run over a store, from how it went over the mounted one.
use Rattle.std.specs.Prelude.{◌≡◌, ◌⊎◌, Err, Ok, Result}
use Rattle.dbpl_base.specs.declared.status.Status.{Status}
use Rattle.dbpl_base.specs.declared.status.Status.TheVariants as status
use Rattle.dbpl_stored_program.specs.declared.stored_program.StoredProgram.{StoredProgram}
use Rattle.dbpl_stored_run.specs.declared.stop_err.StopErr.{StopErr}
use Rattle.dbpl_stored_run.specs.declared.stop_err.StopErr.TheVariants as errors

-- the answer where a run went so; the name in it may want memory
abbrev pub TellsOfRun : StoredProgram → Result (Unit {0}) StopErr → Status → Type 0
TellsOfRun stored (Ok done) answer = answer ≡ status.Done
TellsOfRun stored (Err (errors.Trapped trap)) answer = answer ≡ status.Trapped trap.kind trap.place
TellsOfRun stored (Err errors.NotStore) answer = answer ≡ status.NotStore
TellsOfRun stored (Err (errors.Damaged page)) answer = answer ≡ status.Damaged page
TellsOfRun stored (Err errors.SchemaDiffers) answer =
    (answer ≡ status.SchemaDiffers stored.relation.name) ⊎ (answer ≡ status.Memory)
TellsOfRun stored (Err errors.DiskFault) answer = answer ≡ status.DiskFault
TellsOfRun stored (Err errors.OutFault) answer = answer ≡ status.OutFault
TellsOfRun stored (Err errors.Memory) answer = answer ≡ status.Memory
