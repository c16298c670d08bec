-- One part of a store on a disk: what its last sync made sure of, what was written since, and what a stop may leave.
use Rattle.std.specs.Prelude.{◌≡◌, ℕ, ◌+◌, ◌-◌, ◌<◌, ◌≤◌, max, ◌⊎◌, List, [], ◌∷◌, ◌++◌, length, take, drop, replicate, slice_index}

-- A part: its bytes at the last sync, the ranges written since (start and length, the newest first), and what a read gives.
pub record PartState : Type 0 where
  pub base : List ℕ
  pub ranges : List (ℕ × ℕ)
  pub now : List ℕ

-- no written range holds this place
abbrev pub IsOutside : ℕ → List (ℕ × ℕ) → Type 0
IsOutside i [] = Unit {0}
IsOutside i (range ∷ ranges) = ((i < range.0) ⊎ (range.0 + range.1 ≤ i)) × IsOutside i ranges

-- A stop may leave these bytes. The length lies between the least and the greatest since the last sync. What that sync
-- made sure of stays, except in the ranges written since. All other bytes may be any numbers: more than a disk can leave.
pub record IsImage (part : PartState) (left : List ℕ) : Type 0 where
  pub no_shorter : length part.base ≤ length left
  pub no_longer : length left ≤ length part.now
  pub kept : (i : ℕ) → i < length part.base → IsOutside i part.ranges → slice_index left i ≡ slice_index part.base i

-- old with these bytes at this place, and zeros in a gap before it
abbrev pub written : List ℕ → ℕ → List ℕ → List ℕ
written old at bytes = take at (old ++ replicate (at - length old) 0) ++ bytes ++ drop (at + length bytes) old

-- What a write of n bytes at this place that failed may leave to a read: any part of its range may have been written.
-- Past the old end, in a gap too, it may leave anything.
pub record IsSmeared (at n : ℕ) (old new : List ℕ) : Type 0 where
  pub no_shorter : length old ≤ length new
  pub no_longer : length new ≤ max (length old) (at + n)
  pub below : (i : ℕ) → i < length old → i < at → slice_index new i ≡ slice_index old i
  pub above : (i : ℕ) → i < length old → at + n ≤ i → slice_index new i ≡ slice_index old i

-- a part right after a sync: a stop leaves what a read gives
abbrev pub settled : List ℕ → PartState
settled bytes = record { base = bytes; ranges = []; now = bytes }

-- after a write of these bytes at this place
abbrev pub after_write : ℕ → List ℕ → PartState → PartState
after_write at bytes part = record { base = part.base; ranges = (at, length bytes) ∷ part.ranges; now = written part.now at bytes }

-- after a write of n bytes at this place that failed, where a read now gives new
abbrev pub after_failed_write : ℕ → ℕ → List ℕ → PartState → PartState
after_failed_write at n new part = record { base = part.base; ranges = (at, n) ∷ part.ranges; now = new }
