-- The log as a writer sees it: a front of whole records, a gate that isn't open, and any bytes behind it.
use Rattle.std.specs.Prelude.{◌≡◌, ◌≢◌, ℕ, List, [], ◌∷◌, ◌++◌, length}
use Rattle.dbpl_log.specs.Records.{open_head, length_told}

-- these bytes are these records, each with an open gate and a length field before it
abbrev pub AreOpen : List ℕ → List (List ℕ) → Type 0
AreOpen bytes [] = bytes ≡ []
AreOpen bytes (first ∷ others) = (field : List ℕ) × (behind : List ℕ) × (bytes ≡ 1 ∷ field ++ first ++ behind)
    × (length field ≡ 4) × (length_told field ≡ length first) × AreOpen behind others

-- an open head, and these records
pub record IsFront (front : List ℕ) (records : List (List ℕ)) : Type 0 where
  pub behind : List ℕ
  pub is : front ≡ open_head ++ behind
  pub are_open : AreOpen behind records

pub record Holds (log : List ℕ) (records : List (List ℕ)) : Type 0 where
  pub front : List ℕ
  pub gate : ℕ
  pub rest : List ℕ
  pub is : log ≡ front ++ gate ∷ rest
  pub shut : gate ≢ 1
  pub whole : IsFront front records
