-- Each statement by its kind.
use Rattle.std.proofs.Common.{◌∙◌, ap, inr, refl}
use Rattle.dbpl_stored_program.specs.Meaning.{before_zero}
use Rattle.dbpl_store.specs.Stores.{committed_of, database_in}
use Rattle.dbpl_stored_run.proofs.Acting.{printed-last, printed-made, printed-moments, printed-open, printed-some, prints-line, prints-text}
use Rattle.dbpl_stored_run.proofs.Answering.{after-ok, on-this, printed-no_disk_fault, printed-no_trap, say-counts}
use Rattle.dbpl_stored_run.proofs.WrittenOut.{print-where, say-held}
use Rattle.dbpl_stored_run.proofs.statements.act.Goals as goal

pub returns-in-WriteLn-clause-moments : goal.returns-in-WriteLn-clause-moments
returns-in-WriteLn-clause-moments g c =
    let prints = prints-line c.args.program.now c.args.action.now _ c.in-WriteLn.is refl in
    λ told opened.
    printed-moments c.args.program.now c.args.action.now _ prints c.args.store.now (g.W.World.history c.args.world.now) (g.W.World.history c.print.new.world) opened (c.print.ensures.moments told)

pub returns-in-WriteLn-clause-made : goal.returns-in-WriteLn-clause-made
returns-in-WriteLn-clause-made g c =
    let prints = prints-line c.args.program.now c.args.action.now _ c.in-WriteLn.is refl in
    λ told opened.
    printed-made c.args.program.now c.args.action.now _ prints c.args.store.now (g.W.World.history c.args.world.now) (g.W.World.history c.print.new.world) opened c.print.result (c.print.ensures.made told)

pub returns-in-WriteLn-clause-ended : goal.returns-in-WriteLn-clause-ended
returns-in-WriteLn-clause-ended g c =
    let prints = prints-line c.args.program.now c.args.action.now _ c.in-WriteLn.is refl in
    after-ok c.print.result (prints.ends (database_in c.args.store.now))

pub returns-in-WriteLn-clause-trapped : goal.returns-in-WriteLn-clause-trapped
returns-in-WriteLn-clause-trapped g c =
    λ trap is. printed-no_trap c.print.result c.print.ensures.err trap is

pub returns-in-WriteLn-clause-made_trapped : goal.returns-in-WriteLn-clause-made_trapped
returns-in-WriteLn-clause-made_trapped g c =
    λ told opened trap is. printed-no_trap c.print.result c.print.ensures.err trap is

pub returns-in-WriteLn-clause-at_rest : goal.returns-in-WriteLn-clause-at_rest
returns-in-WriteLn-clause-at_rest g c =
    let prints = prints-line c.args.program.now c.args.action.now _ c.in-WriteLn.is refl in
    λ told opened fine.
    printed-some c.args.program.now c.args.action.now _ prints c.args.store.now (g.W.World.history c.args.world.now) (g.W.World.history c.print.new.world) opened (c.print.ensures.at_rest told)

pub returns-in-WriteLn-clause-opened : goal.returns-in-WriteLn-clause-opened
returns-in-WriteLn-clause-opened g c =
    let prints = prints-line c.args.program.now c.args.action.now _ c.in-WriteLn.is refl in
    λ told opened.
    after-ok c.print.result (printed-open c.args.program.now c.args.action.now _ prints c.args.store.now (g.W.World.history c.args.world.now) (g.W.World.history c.print.new.world) opened (c.print.ensures.disk told))

pub returns-in-WriteLn-clause-committed : goal.returns-in-WriteLn-clause-committed
returns-in-WriteLn-clause-committed g c =
    let prints = prints-line c.args.program.now c.args.action.now _ c.in-WriteLn.is refl in
    after-ok c.print.result (printed-last c.args.program.now c.args.action.now _ prints c.args.store.now (database_in c.args.store.now) (committed_of c.args.store.now))

pub returns-in-WriteLn-clause-database : goal.returns-in-WriteLn-clause-database
returns-in-WriteLn-clause-database g c =
    let prints = prints-line c.args.program.now c.args.action.now _ c.in-WriteLn.is refl in
    after-ok c.print.result (printed-last c.args.program.now c.args.action.now _ prints c.args.store.now (database_in c.args.store.now) (database_in c.args.store.now))

pub returns-in-WriteLn-clause-bound : goal.returns-in-WriteLn-clause-bound
returns-in-WriteLn-clause-bound g c =
    after-ok c.print.result c.requires.bound

pub returns-in-WriteLn-clause-still : goal.returns-in-WriteLn-clause-still
returns-in-WriteLn-clause-still g c =
    after-ok c.print.result c.requires.still

pub returns-in-WriteLn-clause-counts : goal.returns-in-WriteLn-clause-counts
returns-in-WriteLn-clause-counts g c =
    say-counts _ _ c.print.ensures.counts

pub returns-in-WriteLn-clause-disk_fault : goal.returns-in-WriteLn-clause-disk_fault
returns-in-WriteLn-clause-disk_fault g c =
    λ is. printed-no_disk_fault c.print.result c.print.ensures.err is

pub returns-in-WriteLn-clause-out_fault : goal.returns-in-WriteLn-clause-out_fault
returns-in-WriteLn-clause-out_fault g c =
    λ is. on-this c.print.result _ c.print.ensures.cause is

pub returns-in-WriteString-clause-moments : goal.returns-in-WriteString-clause-moments
returns-in-WriteString-clause-moments g c =
    let prints = prints-text c.args.program.now c.args.action.now _ c.before_zero.result.now c.in-WriteString.is (c.before_zero.ensures ∙ ap before_zero c.as_bytes.ensures) in
    λ told opened.
    printed-moments c.args.program.now c.args.action.now c.before_zero.result.now prints c.args.store.now (g.W.World.history c.args.world.now) (g.W.World.history c.print-in-WriteString.new.world) opened (c.print-in-WriteString.ensures.moments told)

pub returns-in-WriteString-clause-made : goal.returns-in-WriteString-clause-made
returns-in-WriteString-clause-made g c =
    let prints = prints-text c.args.program.now c.args.action.now _ c.before_zero.result.now c.in-WriteString.is (c.before_zero.ensures ∙ ap before_zero c.as_bytes.ensures) in
    λ told opened.
    printed-made c.args.program.now c.args.action.now c.before_zero.result.now prints c.args.store.now (g.W.World.history c.args.world.now) (g.W.World.history c.print-in-WriteString.new.world) opened c.print-in-WriteString.result (c.print-in-WriteString.ensures.made told)

pub returns-in-WriteString-clause-ended : goal.returns-in-WriteString-clause-ended
returns-in-WriteString-clause-ended g c =
    let prints = prints-text c.args.program.now c.args.action.now _ c.before_zero.result.now c.in-WriteString.is (c.before_zero.ensures ∙ ap before_zero c.as_bytes.ensures) in
    after-ok c.print-in-WriteString.result (prints.ends (database_in c.args.store.now))

pub returns-in-WriteString-clause-trapped : goal.returns-in-WriteString-clause-trapped
returns-in-WriteString-clause-trapped g c =
    λ trap is. printed-no_trap c.print-in-WriteString.result c.print-in-WriteString.ensures.err trap is

pub returns-in-WriteString-clause-made_trapped : goal.returns-in-WriteString-clause-made_trapped
returns-in-WriteString-clause-made_trapped g c =
    λ told opened trap is. printed-no_trap c.print-in-WriteString.result c.print-in-WriteString.ensures.err trap is

pub returns-in-WriteString-clause-at_rest : goal.returns-in-WriteString-clause-at_rest
returns-in-WriteString-clause-at_rest g c =
    let prints = prints-text c.args.program.now c.args.action.now _ c.before_zero.result.now c.in-WriteString.is (c.before_zero.ensures ∙ ap before_zero c.as_bytes.ensures) in
    λ told opened fine.
    printed-some c.args.program.now c.args.action.now c.before_zero.result.now prints c.args.store.now (g.W.World.history c.args.world.now) (g.W.World.history c.print-in-WriteString.new.world) opened (c.print-in-WriteString.ensures.at_rest told)

pub returns-in-WriteString-clause-opened : goal.returns-in-WriteString-clause-opened
returns-in-WriteString-clause-opened g c =
    let prints = prints-text c.args.program.now c.args.action.now _ c.before_zero.result.now c.in-WriteString.is (c.before_zero.ensures ∙ ap before_zero c.as_bytes.ensures) in
    λ told opened.
    after-ok c.print-in-WriteString.result (printed-open c.args.program.now c.args.action.now c.before_zero.result.now prints c.args.store.now (g.W.World.history c.args.world.now) (g.W.World.history c.print-in-WriteString.new.world) opened (c.print-in-WriteString.ensures.disk told))

pub returns-in-WriteString-clause-committed : goal.returns-in-WriteString-clause-committed
returns-in-WriteString-clause-committed g c =
    let prints = prints-text c.args.program.now c.args.action.now _ c.before_zero.result.now c.in-WriteString.is (c.before_zero.ensures ∙ ap before_zero c.as_bytes.ensures) in
    after-ok c.print-in-WriteString.result (printed-last c.args.program.now c.args.action.now c.before_zero.result.now prints c.args.store.now (database_in c.args.store.now) (committed_of c.args.store.now))

pub returns-in-WriteString-clause-database : goal.returns-in-WriteString-clause-database
returns-in-WriteString-clause-database g c =
    let prints = prints-text c.args.program.now c.args.action.now _ c.before_zero.result.now c.in-WriteString.is (c.before_zero.ensures ∙ ap before_zero c.as_bytes.ensures) in
    after-ok c.print-in-WriteString.result (printed-last c.args.program.now c.args.action.now c.before_zero.result.now prints c.args.store.now (database_in c.args.store.now) (database_in c.args.store.now))

pub returns-in-WriteString-clause-bound : goal.returns-in-WriteString-clause-bound
returns-in-WriteString-clause-bound g c =
    after-ok c.print-in-WriteString.result c.requires.bound

pub returns-in-WriteString-clause-still : goal.returns-in-WriteString-clause-still
returns-in-WriteString-clause-still g c =
    after-ok c.print-in-WriteString.result c.requires.still

pub returns-in-WriteString-clause-counts : goal.returns-in-WriteString-clause-counts
returns-in-WriteString-clause-counts g c =
    say-counts _ _ c.print-in-WriteString.ensures.counts

pub returns-in-WriteString-clause-disk_fault : goal.returns-in-WriteString-clause-disk_fault
returns-in-WriteString-clause-disk_fault g c =
    λ is. printed-no_disk_fault c.print-in-WriteString.result c.print-in-WriteString.ensures.err is

pub returns-in-WriteString-clause-out_fault : goal.returns-in-WriteString-clause-out_fault
returns-in-WriteString-clause-out_fault g c =
    λ is. on-this c.print-in-WriteString.result _ c.print-in-WriteString.ensures.cause is

pub returns-in-Transact-clause-moments : goal.returns-in-Transact-clause-moments
returns-in-Transact-clause-moments g c = rw c.in-Transact.is c.transact.ensures.moments

pub returns-in-Transact-clause-made : goal.returns-in-Transact-clause-made
returns-in-Transact-clause-made g c = rw c.in-Transact.is c.transact.ensures.made

pub returns-in-Transact-clause-ended : goal.returns-in-Transact-clause-ended
returns-in-Transact-clause-ended g c = rw c.in-Transact.is c.transact.ensures.ended

pub returns-in-Transact-clause-trapped : goal.returns-in-Transact-clause-trapped
returns-in-Transact-clause-trapped g c = rw c.in-Transact.is c.transact.ensures.trapped

pub returns-in-Transact-clause-made_trapped : goal.returns-in-Transact-clause-made_trapped
returns-in-Transact-clause-made_trapped g c = rw c.in-Transact.is c.transact.ensures.made_trapped

pub returns-in-Transact-clause-at_rest : goal.returns-in-Transact-clause-at_rest
returns-in-Transact-clause-at_rest g c = rw c.in-Transact.is c.transact.ensures.at_rest

pub returns-in-Transact-clause-opened : goal.returns-in-Transact-clause-opened
returns-in-Transact-clause-opened g c = c.transact.ensures.opened

pub returns-in-Transact-clause-committed : goal.returns-in-Transact-clause-committed
returns-in-Transact-clause-committed g c = rw c.in-Transact.is c.transact.ensures.committed

pub returns-in-Transact-clause-database : goal.returns-in-Transact-clause-database
returns-in-Transact-clause-database g c = rw c.in-Transact.is c.transact.ensures.database

pub returns-in-Transact-clause-bound : goal.returns-in-Transact-clause-bound
returns-in-Transact-clause-bound g c = c.transact.ensures.bound

pub returns-in-Transact-clause-still : goal.returns-in-Transact-clause-still
returns-in-Transact-clause-still g c = c.transact.ensures.still

pub returns-in-Transact-clause-only : goal.returns-in-Transact-clause-only
returns-in-Transact-clause-only g c = c.transact.ensures.only

pub returns-in-Transact-clause-same : goal.returns-in-Transact-clause-same
returns-in-Transact-clause-same g c = c.transact.ensures.same

pub returns-in-Transact-clause-disk_fault : goal.returns-in-Transact-clause-disk_fault
returns-in-Transact-clause-disk_fault g c = c.transact.ensures.disk_fault

pub returns-in-Transact-clause-counts : goal.returns-in-Transact-clause-counts
returns-in-Transact-clause-counts g c = c.transact.ensures.counts

pub returns-in-Transact-clause-out_fault : goal.returns-in-Transact-clause-out_fault
returns-in-Transact-clause-out_fault g c = c.transact.ensures.out_fault

pub returns-in-Transact-clause-out_fault_where : goal.returns-in-Transact-clause-out_fault_where
returns-in-Transact-clause-out_fault_where g c = c.transact.ensures.out_fault_where

pub returns-in-Transact-clause-disk_fault_where : goal.returns-in-Transact-clause-disk_fault_where
returns-in-Transact-clause-disk_fault_where g c = c.transact.ensures.disk_fault_where

pub returns-in-WriteLn-clause-only : goal.returns-in-WriteLn-clause-only
returns-in-WriteLn-clause-only g c = c.print.ensures.only

pub returns-in-WriteLn-clause-same : goal.returns-in-WriteLn-clause-same
returns-in-WriteLn-clause-same g c = c.print.ensures.same

pub returns-in-WriteString-clause-only : goal.returns-in-WriteString-clause-only
returns-in-WriteString-clause-only g c = c.print-in-WriteString.ensures.only

pub returns-in-WriteString-clause-same : goal.returns-in-WriteString-clause-same
returns-in-WriteString-clause-same g c = c.print-in-WriteString.ensures.same

pub returns-in-WriteLn-clause-out_fault_where : goal.returns-in-WriteLn-clause-out_fault_where
returns-in-WriteLn-clause-out_fault_where g c =
    print-where c.print.result c.print.ensures.err c.print.ensures.fine

pub returns-in-WriteLn-clause-disk_fault_where : goal.returns-in-WriteLn-clause-disk_fault_where
returns-in-WriteLn-clause-disk_fault_where g c = inr (say-held _ _ c.print.ensures.counts)

pub returns-in-WriteString-clause-out_fault_where : goal.returns-in-WriteString-clause-out_fault_where
returns-in-WriteString-clause-out_fault_where g c =
    print-where c.print-in-WriteString.result c.print-in-WriteString.ensures.err c.print-in-WriteString.ensures.fine

pub returns-in-WriteString-clause-disk_fault_where : goal.returns-in-WriteString-clause-disk_fault_where
returns-in-WriteString-clause-disk_fault_where g c = inr (say-held _ _ c.print-in-WriteString.ensures.counts)
