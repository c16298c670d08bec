-- Where an empty store may be made, and what stands there while it is.
use Rattle.std.specs.Prelude.{◌≡◌, ◌⊎◌, ℕ, List, [], ◌∷◌, drop, slice_index, Some}
use Rattle.dbpl_log.specs.Records.{HasHead, HasText}
use Rattle.dbpl_store.specs.Stands.{stands}
use Rattle.dbpl_world.specs.History.{State}
use Rattle.dbpl_world.specs.Images.{IsImage}

-- No store, and nothing becomes another than the empty one by chance while the head is written: the text isn't there, or
-- the gate of the head is shut for sure, or what stood there, were that gate open, would stand for the empty database.
pub record MayBecomeEmpty (log pages : List ℕ) : Type 0 where
  pub no_store : HasHead log → ⊥
  pub harmless : (HasText log → ⊥) ⊎ ((slice_index log 0 ≡ 0) ⊎ (stands (1 ∷ drop 1 log) pages ≡ Some []))

-- Whatever a stop leaves is no store yet, and one may still be made of it, or it stands for the empty database. It leaves
-- of the pages what it could leave at old. Of the world nothing but the disk of the mounted store has changed.
pub record LeavesBegun (old s : State) : Type 0 where
  pub left : (log pages : List ℕ) → IsImage s.disk.log log → IsImage s.disk.pages pages →
      MayBecomeEmpty log pages ⊎ (stands log pages ≡ Some [])
  pub pages : (left : List ℕ) → IsImage s.disk.pages left → IsImage old.disk.pages left
  pub others : s ≡ record old { disk = s.disk }

-- whatever a stop leaves stands for the empty database
abbrev pub StandsEmpty : State → Type 0
StandsEmpty s = (log pages : List ℕ) → IsImage s.disk.log log → IsImage s.disk.pages pages → stands log pages ≡ Some []
