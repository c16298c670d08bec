use Rattle.std.proofs.Common.{◌≡◌, ◌++◌, take}
use Rattle.std.specs.List.{flat_map, zip}
use Rattle.dbpl_value.specs.Types.{key_type, keys_of}
use Rattle.dbpl_codec.specs.KeySpelling.{component_bytes}
use Rattle.dbpl_codec.proofs.keys.append_key.Given as goal

abbrev pub invariant-loop-i : goal.invariant-loop-i
invariant-loop-i l =
    l.out.items
    ≡ l.fn.out.items ++ flat_map (λ pair. component_bytes (key_type l.t pair.0) pair.1) (take l.i (zip (keys_of l.t) l.key))
