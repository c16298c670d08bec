-- Scopes: the declarations that stand before a phrase, and which of them a name means.
use Rattle.std.specs.Prelude.{ℕ, ◌-◌, ◌≤◌, Bool, List, [], ◌∷◌, ◌++◌, length, take, drop, reverse, slice_get, bytes_eq, Option, None, is_some, unwrap_or, option_map}
use Rattle.std.specs.List.{find}
use Rattle.std.specs.Option.{option_map_or, option_or}
use Rattle.dbpl_symbols.specs.declared.decl.Decl.{Decl}
use Rattle.dbpl_symbols.specs.declared.pair.Pair.{Pair}

-- A scope: its declarations in the order of the text, and where each level but the first starts among them. The first level
-- is that of the standard names, and starts at 0.
pub record Declarations : Type 0 where
  pub pairs : List Pair
  pub starts : List ℕ

-- ---- which declaration a name means

abbrev pub is_named : List ℕ → Pair → Bool
is_named name pair = bytes_eq pair.name name

-- the latest of these declarations that has the name
abbrev pub latest : List ℕ → List Pair → Option Pair
latest name pairs = find (is_named name) (reverse pairs)

-- the last item, if there is one
abbrev pub last_of : {A : Type 0} → List A → Option A
last_of xs = slice_get xs (length xs - 1)

-- where the last level starts
abbrev pub last_start : Declarations → ℕ
last_start scope = unwrap_or (last_of scope.starts) 0

-- the declarations of the last level
abbrev pub last_level : Declarations → List Pair
last_level scope = drop (last_start scope) scope.pairs

-- THE declaration that a name means: of all that stand before, the latest that has the name, or none
abbrev pub found : List ℕ → Declarations → Option Pair
found name scope = latest name scope.pairs

-- THE same without its name
abbrev pub seen : List ℕ → Declarations → Option Decl
seen name scope = option_map (λ pair. pair.decl) (found name scope)

-- whether the name is declared at the last level, where it can't be declared once more
abbrev pub is_declared : List ℕ → Declarations → Bool
is_declared name scope = is_some (latest name (last_level scope))

-- ---- what changes a scope

-- one level, which is empty
abbrev pub empty_scope : Declarations
empty_scope = record { pairs = []; starts = [] }

-- THE scope with one more declaration, at its last level
abbrev pub with_pair : Pair → Declarations → Declarations
with_pair pair scope = record scope { pairs = scope.pairs ++ pair ∷ [] }

-- with several more
abbrev pub with_pairs : List Pair → Declarations → Declarations
with_pairs more scope = record scope { pairs = scope.pairs ++ more }

-- THE scope with one more level, which is empty
abbrev pub entered : Declarations → Declarations
entered scope = record scope { starts = scope.starts ++ length scope.pairs ∷ [] }

-- with one more level, which has these declarations
abbrev pub with_level : List Pair → Declarations → Declarations
with_level more scope = with_pairs more (entered scope)

-- THE scope without its last level, where that isn't the first
abbrev pub left : Declarations → Declarations
left scope =
    option_map_or
    (λ start. record {
      pairs = take start scope.pairs;
      starts = take (length scope.starts - 1) scope.starts;
    })
    (last_of scope.starts) scope

-- where levels start: one behind the other, from a first place on, up to the end of the declarations
abbrev pub RiseTo : ℕ → ℕ → List ℕ → Type 0
RiseTo end first [] = first ≤ end
RiseTo end first (start ∷ starts) = (first ≤ start) × RiseTo end start starts

-- ---- the same, level by level

-- the levels from this start on, each up to the start of the next one
abbrev pub levels_from : ℕ → List ℕ → List Pair → List (List Pair)
levels_from start [] pairs = drop start pairs ∷ []
levels_from start (next ∷ starts) pairs = take (next - start) (drop start pairs) ∷ levels_from next starts pairs

-- THE levels of a scope, outermost first
abbrev pub levels : Declarations → List (List Pair)
levels scope = levels_from 0 scope.starts scope.pairs

-- levels with one more declaration at the last of them
abbrev pub with_last : Pair → List (List Pair) → List (List Pair)
with_last pair [] = []
with_last pair (level ∷ []) = (level ++ pair ∷ []) ∷ []
with_last pair (level ∷ next ∷ inner) = level ∷ with_last pair (next ∷ inner)

-- of levels, innermost first: the latest declaration of the name at the first level that has it
abbrev pub innermost : List ℕ → List (List Pair) → Option Pair
innermost name [] = None
innermost name (level ∷ outer) = option_or (latest name level) (innermost name outer)
