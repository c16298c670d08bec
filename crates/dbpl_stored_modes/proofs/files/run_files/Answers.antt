-- Each return kept the promise.
use Rattle.std.proofs.Common.{ℕ, arith, inr, refl, subst}
use Rattle.dbpl_promise.specs.Promises.{Answered}
use Rattle.dbpl_promise.specs.Running.{running}
use Rattle.dbpl_promise.specs.Work.{work_of}
use Rattle.dbpl_sources.proofs.Fetched.{fetch_answered, fetched_well}
use Rattle.dbpl_stored_modes.proofs.Stages.{behind_files, unread}
use Rattle.dbpl_stored_modes.specs.RunCommand.{runs_program}
use Rattle.dbpl_stored_modes.proofs.files.run_files.Goals as goal

pub returns-in-Ok-clause-runs : goal.returns-in-Ok-clause-runs
returns-in-Ok-clause-runs g c =
    let work = work_of g.S.Shelf g.W.World c.args.shelf.now c.program_in.new.shelf c.args.world.now c.run_over.new.world in
    let same = fetched_well c.program_in.result _ c.in-Ok.is c.program_in.ensures.fine in
    behind_files c.args.store.now c.args.schema.now c.args.program.now work _ c.in-Ok.stored
    (c.in-Ok.ensures.found work (record { files_are = refl; begins = omega arith; ends = omega arith }))
    (subst (λ (faults : ℕ). Answered (running (runs_program c.args.store.now c.in-Ok.stored)) (record work { shelf_faults_before = faults }) c.run_over.result)
    same (c.run_over.ensures.runs _ _))

pub returns-in-Err-clause-runs : goal.returns-in-Err-clause-runs
returns-in-Err-clause-runs g c =
    let work = work_of g.S.Shelf g.W.World c.args.shelf.now c.program_in.new.shelf c.args.world.now c.args.world.now in
    unread c.args.store.now c.args.schema.now c.args.program.now work _
    (c.in-Err.ensures.err work (record { files_are = refl; begins = omega arith; ends = omega arith }))
    (record {
      world = λ told. refl;
      prints = refl;
      disk = inr refl;
      source = fetch_answered c.program_in.result _ c.in-Err.is c.program_in.ensures.fine;
    })
