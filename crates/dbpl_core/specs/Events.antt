-- What a run does that can be seen: it prints bytes, and it commits databases.
use Rattle.std.specs.Prelude.{ℕ, List, [], ◌∷◌}
use Rattle.dbpl_value.specs.declared.bound.Bound.{Bound}

pub data Event : Type 0 where
  -- this byte was printed
  Out : ℕ → Event
  -- a transaction ended, and left this database
  Commit : List Bound → Event

-- the bytes that these events print
abbrev pub prints : List Event → List ℕ
prints [] = []
prints (Out byte ∷ events) = byte ∷ prints events
prints (Commit database ∷ events) = prints events

-- the database of the last commit among these events, or this one where there is none
abbrev pub last : List Event → List Bound → List Bound
last [] database = database
last (Out byte ∷ events) database = last events database
last (Commit committed ∷ events) database = last events committed
