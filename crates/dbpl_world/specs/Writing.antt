-- What holds at each moment while one part is written and synced.
use Rattle.std.specs.Prelude.{◌≡◌, ℕ, List}
use Rattle.dbpl_world.specs.declared.part.Part.{Part}
use Rattle.dbpl_world.specs.Images.{IsImage, after_write}
use Rattle.dbpl_world.specs.History.{part_of, in_part, State}

-- From old on, nothing but this part changes, and a stop leaves of it only what it could leave after this one write.
pub record IsWriting (part : Part) (at : ℕ) (bytes : List ℕ) (old s : State) : Type 0 where
  pub images : (left : List ℕ) → IsImage (part_of part s.disk) left → IsImage (after_write at bytes (part_of part old.disk)) left
  pub others : s ≡ record old { disk = in_part part (λ _. part_of part s.disk) old.disk }
