use Rattle.std.proofs.Common.{◌+◌, ◌*◌, length}
use Rattle.dbpl_value.proofs.paths.+put.Given as goal

abbrev pub decreases-put_part : goal.decreases-put_part
decreases-put_part l = 2 * length l.path.now

abbrev pub decreases-put_in : goal.decreases-put_in
decreases-put_in l = 2 * length l.path.now + 1
