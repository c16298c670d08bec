-- The store stays mounted.
use Rattle.std.specs.Prelude.{IsSome}
use Rattle.dbpl_world.specs.InMemory.{mounted_in}
use Rattle.dbpl_rows.proofs.stores.is_log.Given as goal

abbrev pub invariant-loop-record : goal.invariant-loop-record
invariant-loop-record l = IsSome (mounted_in l.world)
