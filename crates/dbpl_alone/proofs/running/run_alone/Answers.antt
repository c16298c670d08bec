-- Each return kept the promise.
use Rattle.std.proofs.Common.{ap, arith, inr, refl}
use Rattle.dbpl_alone.proofs.Saying.{printed_all, printed_some, unnoted}
use Rattle.dbpl_alone.proofs.Stages.{behind_fetch, unaccepted, unfetched}
use Rattle.dbpl_alone.proofs.running.run_alone.Goals as goal
use Rattle.dbpl_promise.specs.Work.{work_of}
use Rattle.dbpl_sources.proofs.Fetched.{fetch_answered, fetched_well}
use Rattle.dbpl_world.specs.declared.counts.Counts.{Counts}

pub returns-in-Err-clause-runs : goal.returns-in-Err-clause-runs
returns-in-Err-clause-runs g c =
    let work = work_of g.S.Shelf g.W.World c.args.shelf.now c.source.new.shelf c.args.world.now c.args.world.now in
    unfetched c.args.file.now work c.in-Err.status
    (c.in-Err.ensures.err work (record { files_are = refl; begins = omega arith; ends = omega arith }))
    (record {
      world = λ tells. refl;
      prints = refl;
      disk = inr refl;
      source = fetch_answered c.source.result _ c.in-Err.is c.source.ensures.fine;
    })

pub returns-in-Err-module-clause-runs : goal.returns-in-Err-module-clause-runs
returns-in-Err-module-clause-runs g c =
    let work = work_of g.S.Shelf g.W.World c.args.shelf.now c.source.new.shelf c.args.world.now c.args.world.now in
    let passes = c.in-Ok.ensures.found work (record { files_are = refl; begins = omega arith; ends = omega arith }) in
    let cause = rw c.as_slice.ensures.value at c.in-Err-module.ensures.err in
    unaccepted c.args.file.now work c.in-Err-module.status c.in-Ok.text.items passes cause
    (record {
      world = λ tells. refl;
      prints = refl;
      disk = inr refl;
      source = inr (fetched_well c.source.result _ c.in-Ok.is c.source.ensures.fine);
    })

pub returns-in-Ok-print_program-clause-runs : goal.returns-in-Ok-print_program-clause-runs
returns-in-Ok-print_program-clause-runs g c =
    let work = work_of g.S.Shelf g.W.World c.args.shelf.now c.source.new.shelf c.args.world.now c.print_program.new.world in
    let passes = c.in-Ok.ensures.found work (record { files_are = refl; begins = omega arith; ends = omega arith }) in
    let the = rw c.as_slice.ensures.value at c.in-Ok-module.ensures.found in
    behind_fetch c.args.file.now work _ c.in-Ok.text.items passes
    (printed_all c.in-Ok.text.items work c.in-Ok-module.program the c.in-Ok-print_program.ensures.ok c.in-Ok-print_program.ensures.fine
    (ap (λ (counts : Counts). counts.disk_faults) c.print_program.ensures.counts.others) (fetched_well c.source.result _ c.in-Ok.is c.source.ensures.fine))

pub returns-in-Ok-print_program-clause-unnoted : goal.returns-in-Ok-print_program-clause-unnoted
returns-in-Ok-print_program-clause-unnoted g c = λ told. unnoted _ _ _ (c.in-Ok-print_program.ensures.ok told)

pub returns-clause-runs : goal.returns-clause-runs
returns-clause-runs g c =
    let work = work_of g.S.Shelf g.W.World c.args.shelf.now c.source.new.shelf c.args.world.now c.print_program.new.world in
    let passes = c.in-Ok.ensures.found work (record { files_are = refl; begins = omega arith; ends = omega arith }) in
    let the = rw c.as_slice.ensures.value at c.in-Ok-module.ensures.found in
    behind_fetch c.args.file.now work _ c.in-Ok.text.items passes
    (printed_some c.in-Ok.text.items work c.in-Ok-module.program the c.in-Err-print_program.ensures.err
    c.in-Err-print_program.ensures.cause (ap (λ (counts : Counts). counts.disk_faults) c.print_program.ensures.counts.others)
    (fetched_well c.source.result _ c.in-Ok.is c.source.ensures.fine))

pub returns-clause-unnoted : goal.returns-clause-unnoted
returns-clause-unnoted g c = λ told. unnoted _ _ _ (c.in-Err-print_program.ensures.err told).1
