-- What is said is a front of what the statement prints.
use Rattle.std.proofs.Common.{[], append-nil, drop, sym, take}
use Rattle.std.proofs.lemmas.List.{take-append-drop}
use Rattle.dbpl_stored_run.proofs.Saying.{said-disk, said-made, said-moments, said-only, said-some}
use Rattle.dbpl_stored_run.proofs.printing.print.Goals as goal

pub returns-in-Ok-clause-moments : goal.returns-in-Ok-clause-moments
returns-in-Ok-clause-moments g c = λ told database stood.
    said-moments database (g.W.World.history c.args.world.now) (g.W.World.history c.say_all.new.world) c.args.bytes.now
    c.args.bytes.now [] stood (sym (append-nil c.args.bytes.now)) (c.in-Ok.ensures.ok told)

pub returns-in-Ok-clause-made : goal.returns-in-Ok-clause-made
returns-in-Ok-clause-made g c = λ told database stood.
    said-made database (g.W.World.history c.args.world.now) (g.W.World.history c.say_all.new.world) c.args.bytes.now stood
    (c.in-Ok.ensures.ok told)

pub returns-in-Ok-clause-at_rest : goal.returns-in-Ok-clause-at_rest
returns-in-Ok-clause-at_rest g c = λ told database stood.
    said-some database (g.W.World.history c.args.world.now) (g.W.World.history c.say_all.new.world) c.args.bytes.now
    c.args.bytes.now [] stood (sym (append-nil c.args.bytes.now)) (c.in-Ok.ensures.ok told)

pub returns-in-Ok-clause-disk : goal.returns-in-Ok-clause-disk
returns-in-Ok-clause-disk g c = λ told.
    said-disk (g.W.World.history c.args.world.now) (g.W.World.history c.say_all.new.world) c.args.bytes.now
    (c.in-Ok.ensures.ok told)

pub returns-in-Ok-clause-only : goal.returns-in-Ok-clause-only
returns-in-Ok-clause-only g c = λ told.
    said-only (g.W.World.history c.args.world.now) (g.W.World.history c.say_all.new.world) c.args.bytes.now
    (c.in-Ok.ensures.ok told)

pub returns-in-Err-clause-moments : goal.returns-in-Err-clause-moments
returns-in-Err-clause-moments g c = λ told database stood.
    let bytes = c.args.bytes.now in
    let front = c.in-Err.ensures.err told in
    said-moments database (g.W.World.history c.args.world.now) (g.W.World.history c.say_all.new.world) bytes
    (take front.0 bytes) (drop front.0 bytes) stood (sym (take-append-drop front.0 bytes)) front.1

pub returns-in-Err-clause-at_rest : goal.returns-in-Err-clause-at_rest
returns-in-Err-clause-at_rest g c = λ told database stood.
    let bytes = c.args.bytes.now in
    let front = c.in-Err.ensures.err told in
    said-some database (g.W.World.history c.args.world.now) (g.W.World.history c.say_all.new.world) bytes
    (take front.0 bytes) (drop front.0 bytes) stood (sym (take-append-drop front.0 bytes)) front.1

pub returns-in-Err-clause-disk : goal.returns-in-Err-clause-disk
returns-in-Err-clause-disk g c = λ told.
    let front = c.in-Err.ensures.err told in
    said-disk (g.W.World.history c.args.world.now) (g.W.World.history c.say_all.new.world)
    (take front.0 c.args.bytes.now) front.1

pub returns-in-Err-clause-only : goal.returns-in-Err-clause-only
returns-in-Err-clause-only g c = λ told.
    let front = c.in-Err.ensures.err told in
    said-only (g.W.World.history c.args.world.now) (g.W.World.history c.say_all.new.world)
    (take front.0 c.args.bytes.now) front.1
