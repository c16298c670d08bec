use Rattle.std.proofs.Common.{◌≡◌, ◌++◌, take, true}
use Rattle.std.specs.List.{flat_map, list_all}
use Rattle.dbpl_codec.specs.Numbers.{count_bytes, count_fits, name_bytes}
use Rattle.dbpl_codec.proofs.numbers.append_names.Given as goal

abbrev pub invariant-loop-name : goal.invariant-loop-name
invariant-loop-name l =
    (l.out.items ≡ l.fn.out.items ++ count_bytes l.names ++ flat_map name_bytes (take l.name-index l.names))
    × (list_all count_fits (take l.name-index l.names) ≡ true)
