use Rattle.std.proofs.Common.{◌+◌, ◌-◌, ◌≤◌, length, arith}
use Rattle.dbpl_world.proofs.Fronts.{moved_within}
use Rattle.dbpl_world.proofs.Grown.{grown-more}
use Rattle.dbpl_world.proofs.kept_output.write_whole.Goals as goal

pub loop-done-preserved : goal.loop-done-preserved
loop-done-preserved g c =
    let room = length c.args.bytes.now - c.loop-done.done in
    let within : c.loop-done.done + c.in_ok-done.field-0 ≤ length c.args.bytes.now = moved_within _ _ _ c.loop-done.invariant.within c.in_ok-done.ensures.count.0 in
    let fits : c.in_ok-done.field-0 ≤ room = omega arith in
    record {
      within = within;
      written = grown-more c.args.bytes.now c.loop-done.done room c.in_ok-done.field-0 _ _ _ fits c.loop-done.invariant.written c.in_ok-done.ensures.ok;
    }
