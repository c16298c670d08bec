-- Where a store may be made, and what stands there while it is.
use Rattle.std.specs.Prelude.{◌≡◌, ◌⊎◌, ℕ, ◌<◌, ◌≤◌, Bool, IsTrue, List, ◌∷◌, ◌++◌, length, drop, slice_index, Some}
use Rattle.dbpl_base.specs.declared.limits.TheConstants.{PAGE_BYTES}
use Rattle.dbpl_world.specs.History.{Store}
use Rattle.dbpl_log.specs.Records.{open_head, HasText, HasHead, records_of}

-- the log is a store, and its records pass a test
abbrev pub HasSuch : (List (List ℕ) → Bool) → List ℕ → Type 0
HasSuch such log = (records : List (List ℕ)) × (records_of log ≡ Some records) × IsTrue (such records)

-- No store, and nothing becomes one by chance while the head is written: the text isn't there, or the gate of the head is
-- shut for sure, or what stood there, were that gate open, would be a store whose records count as none.
pub record MayBegin (are_none : List (List ℕ) → Bool) (log : List ℕ) : Type 0 where
  pub no_store : HasHead log → ⊥
  pub harmless : (HasText log → ⊥) ⊎ ((slice_index log 0 ≡ 0) ⊎ HasSuch are_none (1 ∷ drop 1 log))

-- the log is of no store yet, or of one whose records count as none
abbrev pub IsBegun : (List (List ℕ) → Bool) → List ℕ → Type 0
IsBegun are_none log = MayBegin are_none log ⊎ HasSuch are_none log

-- what is longer than this belongs to somebody else
abbrev pub longest_unknown : ℕ
longest_unknown = PAGE_BYTES

-- no store, but more than an unfinished one has
pub record IsForeign (disk : Store) : Type 0 where
  pub no_store : HasHead disk.log.now → ⊥
  pub long : (longest_unknown < length disk.log.now) ⊎ (longest_unknown < length disk.pages.now)

-- neither
pub record IsFree (disk : Store) : Type 0 where
  pub no_store : HasHead disk.log.now → ⊥
  pub short_log : length disk.log.now ≤ longest_unknown
  pub short_pages : length disk.pages.now ≤ longest_unknown

-- The log after a create: the head, a shut gate, and whatever stood behind.
abbrev pub begun : List ℕ → List ℕ
begun old = open_head ++ 0 ∷ drop 17 old
