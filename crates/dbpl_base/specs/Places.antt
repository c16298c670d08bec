-- How places count: byte 10 ends a line, every other byte is one column.
use Rattle.std.specs.Prelude.{ℕ, ◌+◌, ◌==◌, List, [], ◌∷◌, if◌then◌else◌}
use Rattle.dbpl_base.specs.declared.place.Place.{Place}

-- where the text of a unit begins
abbrev pub start_of : ℕ → Place
start_of unit = record { unit = unit; line = 1; col = 1 }

-- the place behind one byte
abbrev pub place_behind : Place → ℕ → Place
place_behind place byte =
    if byte == 10 then record { unit = place.unit; line = place.line + 1; col = 1 } else record { unit = place.unit; line = place.line; col = place.col + 1 }

-- the place behind these bytes
abbrev pub place_after : Place → List ℕ → Place
place_after place [] = place
place_after place (byte ∷ bytes) = place_after (place_behind place byte) bytes
