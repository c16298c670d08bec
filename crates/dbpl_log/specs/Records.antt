-- The log of a store, byte by byte, and the records in it.
use Rattle.std.specs.Prelude.{◌≡◌, ℕ, zero, suc, ◌+◌, nat_lt, ◌==◌, if◌then◌else◌, List, [], ◌∷◌, length, take, drop, bytes_eq, Option, Some, None}
use Rattle.std.specs.Int.{w32, from_le_bytes}

-- `DBPL-STORE-0000`
unfoldable pub head_text : List ℕ
head_text = 68 ∷ 66 ∷ 80 ∷ 76 ∷ 45 ∷ 83 ∷ 84 ∷ 79 ∷ 82 ∷ 69 ∷ 45 ∷ 48 ∷ 48 ∷ 48 ∷ 48 ∷ []

-- A gate is one byte. It is open where that is 1. The head is a gate and the text.
abbrev pub open_head : List ℕ
open_head = 1 ∷ head_text

-- the text of a head stands in its place, whatever its gate is
abbrev pub HasText : List ℕ → Type 0
HasText log = take 15 (drop 1 log) ≡ head_text

-- the log begins with an open head
abbrev pub HasHead : List ℕ → Type 0
HasHead log = take 16 log ≡ open_head

-- the length field of a record: four bytes, the lowest first
unfoldable pub length_told : List ℕ → ℕ
length_told field = from_le_bytes w32 field

-- The bytes of the record behind an open gate, and what stands after them. There are none where the record doesn't fit.
unfoldable pub record_in : List ℕ → Option (List ℕ × List ℕ)
record_in behind =
    if nat_lt (length behind) (4 + length_told (take 4 behind)) then None
    else Some (take (length_told (take 4 behind)) (drop 4 behind), drop (4 + length_told (take 4 behind)) behind)

infixl 10 ◌>>=◌
abbrev pub ◌>>=◌ : {A B : Type 0} → Option A → (A → Option B) → Option B
(Some x) >>= f = f x
None >>= f = None

-- The records from a gate on, up to the first gate that isn't open, where there are fewer of them than `most`. There are
-- none where an open record doesn't fit, or where the bytes end before the next gate.
unfoldable pub records_from : ℕ → List ℕ → Option (List (List ℕ))
records_from zero bytes = None
records_from (suc most) [] = None
records_from (suc most) (gate ∷ behind) =
    if gate == 1 then (record_in behind >>= λ found. records_from most found.1 >>= λ records. Some (found.0 ∷ records))
    else Some []

-- The records of a log that begins with an open head. Each takes at least a byte, so its length is a bound for them.
unfoldable pub records_of : List ℕ → Option (List (List ℕ))
records_of log = if bytes_eq (take 16 log) open_head then records_from (length log) (drop 16 log) else None

-- how many bytes these records take, each with its gate and its length field
abbrev pub bytes_of_all : List (List ℕ) → ℕ
bytes_of_all [] = 0
bytes_of_all (first ∷ others) = 5 + length first + bytes_of_all others

-- where the gate behind these records stands
abbrev pub next_gate : List (List ℕ) → ℕ
next_gate records = 16 + bytes_of_all records
