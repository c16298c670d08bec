-- Bytes to which others are appended.
use Rattle.std.specs.Prelude.{◌≡◌, ℕ, List, length, take}

-- the bytes begin with these
abbrev pub Begins : List ℕ → List ℕ → Type 0
Begins bytes front = take (length front) bytes ≡ front
