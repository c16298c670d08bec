use Rattle.std.proofs.Common.{rules, ◌≡◌, take}
use Rattle.std.specs.Io.KnownBytes.{Appends}
use Rattle.dbpl_world.proofs.Grown.{grown-kept, kept-kept, kept-none, kept-same}
use Rattle.dbpl_world.proofs.kept_output.write_some.Goals.{then-count-gt0, else-count-gt0}
use Rattle.dbpl_world.proofs.kept_output.write_some.Goals as goal

pub loop-init : goal.loop-init
loop-init g c = kept-same (g.O.Write.contents c.args.output.now)

pub returns-in-Ok-clause-ok : goal.returns-in-Ok-clause-ok
returns-in-Ok-clause-ok g c = grown-kept _ _ _ _ c.loop.invariant c.in-Ok.ensures.bytes

pub returns-in_default-clause-err : goal.returns-in_default-clause-err
returns-in_default-clause-err g c =
    let none : c.in-Ok.count ≡ 0 = elim c.if-count-gt0.branch [
      | then-count-gt0 w ↦ search rules
      | else-count-gt0 w ↦ search rules
    ] in
    let nothing : Appends (g.O.Write.contents c.loop.output) (g.O.Write.contents c.write.new.self) (take 0 c.args.bytes.now) = rw none at c.in-Ok.ensures.bytes in
    kept-kept _ _ _ c.loop.invariant (kept-none _ _ nothing)

pub returns-in_default-2-clause-err : goal.returns-in_default-2-clause-err
returns-in_default-2-clause-err g c = kept-kept _ _ _ c.loop.invariant c.in-Err.ensures.bytes

pub loop-preserved : goal.loop-preserved
loop-preserved g c = kept-kept _ _ _ c.loop.invariant c.in-Err.ensures.bytes

pub returns-clause-err : goal.returns-clause-err
returns-clause-err g c = c.loop.invariant
