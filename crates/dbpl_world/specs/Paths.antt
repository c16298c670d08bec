-- The paths of the two files of a store, as bytes.
use Rattle.std.specs.Prelude.{ℕ, List, [], ◌∷◌, ◌++◌}

-- the name, and behind it `.log`
abbrev pub log_path : List ℕ → List ℕ
log_path name = name ++ 46 ∷ 108 ∷ 111 ∷ 103 ∷ []

-- the name, and behind it `.pages`
abbrev pub pages_path : List ℕ → List ℕ
pages_path name = name ++ 46 ∷ 112 ∷ 97 ∷ 103 ∷ 101 ∷ 115 ∷ []
