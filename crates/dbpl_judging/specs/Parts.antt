-- Parts of a tree that are handed on while the next is judged.
use Rattle.std.specs.Prelude.{Option, option_map, Result, Ok, Err}

-- a part with what was found of it, where something was
abbrev pub with_found : {A B E : Type 0} → A → Result (Option B) E → Result (Option (A × B)) E
with_found part (Ok found) = Ok (option_map (λ one. (part, one)) found)
with_found part (Err error) = Err error
