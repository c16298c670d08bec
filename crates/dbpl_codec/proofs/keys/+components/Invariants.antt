use Rattle.std.proofs.Common.{◌≡◌, ◌++◌, take}
use Rattle.std.specs.List.{flat_map}
use Rattle.dbpl_codec.specs.KeySpelling.{component_bytes}
use Rattle.dbpl_codec.proofs.keys.+components.Given as goal

abbrev pub invariant-characters-loop-part : goal.invariant-characters-loop-part
invariant-characters-loop-part l =
    l.out.items ≡ l.fn.out.items ++ flat_map (component_bytes l.t) (take l.part-index l.parts)
