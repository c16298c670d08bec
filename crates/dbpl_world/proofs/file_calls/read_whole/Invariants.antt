use Rattle.std.proofs.Common.{◌-◌, ◌≤◌}
use Rattle.dbpl_world.proofs.file_calls.read_whole.Given as goal

abbrev pub invariant-loop-done : goal.invariant-loop-done
invariant-loop-done l = l.done ≤ l.most

abbrev pub decreases-loop-done : goal.decreases-loop-done
decreases-loop-done l = l.most - l.done
