-- How a scope holds its declarations, so that a name is looked up in logarithmic time. No promise to a caller speaks of it.
use Rattle.std.specs.Prelude.{◌≡◌, ℕ, suc, cond, List, [], ◌∷◌, ◌++◌, length, map, Option, Some, None, option_map}
use Rattle.std.specs.BTreeMap.{BTreeMap, get, is_at}
use Rattle.std.specs.Cmp.Lexicographic.{slice_cmp}
use Rattle.std.specs.Option.{option_or}
use Rattle.std.specs.Ordering.{nat_cmp}
use Rattle.dbpl_symbols.specs.Scopes.{RiseTo, is_named}
use Rattle.dbpl_symbols.specs.declared.held.Held.{Held}
use Rattle.dbpl_symbols.specs.declared.pair.Pair.{Pair}

-- the declarations alone
abbrev pub pairs_of : List Held → List Pair
pairs_of held = map (λ one. one.pair) held

-- the place of the latest of these declarations that has the name
unfoldable pub spot : List ℕ → List Pair → Option ℕ
spot name [] = None
spot name (pair ∷ pairs) = option_or (option_map suc (spot name pairs)) (cond (is_named name pair) (Some 0) None)

-- each declaration knows the place of the one that it hides, where these stand before them all
abbrev pub AreLinked : List Pair → List Held → Type 0
AreLinked before [] = Unit {0}
AreLinked before (one ∷ held) = (one.hides ≡ spot one.pair.name before) × AreLinked (before ++ one.pair ∷ []) held

-- and the map knows the place of the latest of each name
pub record IsIndexed (held : List Held) (places : BTreeMap (List ℕ) ℕ) : Type 0 where
  pub links : AreLinked [] held
  pub known : (name : List ℕ) → get (slice_cmp nat_cmp) places name ≡ spot name (pairs_of held)

-- one map is the other with this place for one name, or with none
abbrev pub Moves : List ℕ → Option ℕ → BTreeMap (List ℕ) ℕ → BTreeMap (List ℕ) ℕ → Type 0
Moves name place old new =
    (query : List ℕ) →
    get (slice_cmp nat_cmp) new query ≡
    cond (is_at (slice_cmp nat_cmp name) query) place (get (slice_cmp nat_cmp) old query)

-- THE invariant of a scope
pub record IsHeld (held : List Held) (starts : List ℕ) (places : BTreeMap (List ℕ) ℕ) : Type 0 where
  pub indexed : IsIndexed held places
  pub rise : RiseTo (length held) 0 starts
