-- How numbers, counts and names are spelled. All numbers are little endian.
use Rattle.std.specs.Prelude.{ℕ, ◌%◌, ◌^◌, ℤ, Bool, nat_lt, ◌&&◌, List, ◌++◌, length}
use Rattle.std.specs.Int.{cast_unsigned, w64}
use Rattle.std.specs.List.{flat_map, list_all}
use Rattle.byteorder.specs.Endian.{little_bytes}

-- the low 32 bits of a number in two's complement
abbrev pub word_of : ℤ → ℕ
word_of n = cast_unsigned w64 n % 2 ^ 32

-- the low 8 bits
abbrev pub byte_of : ℤ → ℕ
byte_of n = cast_unsigned w64 n % 256

abbrev pub word_bytes : ℤ → List ℕ
word_bytes n = little_bytes 4 (word_of n)

-- a number in eight bytes
abbrev pub long_bytes : ℤ → List ℕ
long_bytes n = little_bytes 8 (cast_unsigned w64 n)

-- how many items there are, in four bytes
abbrev pub count_bytes : {X : Type 0} → List X → List ℕ
count_bytes items = little_bytes 4 (length items)

-- the number of items fits four bytes
abbrev pub count_fits : {X : Type 0} → List X → Bool
count_fits items = nat_lt (length items) (2 ^ 32)

-- a name: how many bytes, and then the bytes
abbrev pub name_bytes : List ℕ → List ℕ
name_bytes name = count_bytes name ++ name

-- names: how many, and then each of them
abbrev pub names_bytes : List (List ℕ) → List ℕ
names_bytes names = count_bytes names ++ flat_map name_bytes names

abbrev pub names_fit : List (List ℕ) → Bool
names_fit names = count_fits names && list_all count_fits names
