use Rattle.std.proofs.Common.{◌≡◌, ◌-◌, ◌^◌, min, take}
use Rattle.std.specs.Prelude.{sum_by}
use Rattle.dbpl_value.specs.Databases.{key_width}
use Rattle.dbpl_value.specs.Types.{key_type, keys_of}
use Rattle.dbpl_database.proofs.limits.key_size.Given as goal

abbrev pub invariant-loop-name : goal.invariant-loop-name
invariant-loop-name l =
    l.total ≡ min (sum_by (λ name. key_width (key_type l.t name)) (take l.name-index (keys_of l.t))) (2 ^ 64 - 1)
