use Rattle.std.specs.Prelude.{IsTrue}
use Rattle.dbpl_value.specs.Values.{is_of}
use Rattle.dbpl_value.proofs.PathsLemmas.{Reached}
use Rattle.dbpl_value.proofs.paths.at_path.Given as goal

abbrev pub invariant-loop-i : goal.invariant-loop-i
invariant-loop-i l = IsTrue (is_of l.t l.v) → Reached l.t l.v l.path l.i l.kind l.part
