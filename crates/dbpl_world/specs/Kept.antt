-- An output that keeps bytes back.
use Rattle.std.specs.Prelude.{ℕ, List, take}
use Rattle.dbpl_world.specs.declared.kept_output.KeptOutput.{KeptOutput}

-- the bytes that are kept back
abbrev pub kept_in : {O : Type 0} → KeptOutput O → List ℕ
kept_in kept = take kept.count kept.bytes
