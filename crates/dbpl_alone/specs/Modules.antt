-- Which texts are modules that can be run so far, and why another text is refused.
use Rattle.std.specs.Prelude.{◌≡◌, ◌⊎◌, ℕ, List, Some, None}
use Rattle.dbpl_alone.specs.Small.{small_of}
use Rattle.dbpl_alone.specs.declared.program.Program.{Program}
use Rattle.dbpl_base.specs.Places.{start_of}
use Rattle.dbpl_base.specs.declared.place.Place.{Place}
use Rattle.dbpl_front.specs.Texts.{IsMisspelt, SpellsText}
use Rattle.dbpl_front.specs.declared.front_err.FrontErr.{FrontErr}
use Rattle.dbpl_front.specs.declared.front_err.FrontErr.TheVariants as errors
use Rattle.dbpl_tree.specs.declared.unit.Unit.{Unit as Tree}

-- THE texts that can be run: the text spells a unit, and that is this module.
pub record IsModule (text : List ℕ) (program : Program) : Type 0 where
  pub unit : Tree
  pub spelt : SpellsText 0 text unit
  pub small : small_of unit ≡ Some program

-- no module that can be run so far has this text
abbrev pub IsNoModule : List ℕ → Type 0
IsNoModule text = (program : Program) → ¬ IsModule text program

-- ---- refusals

-- The text spells a unit, but it is none that can be run so far.
pub record IsUnbuilt (text : List ℕ) : Type 0 where
  pub unit : Tree
  pub spelt : SpellsText 0 text unit
  pub other : small_of unit ≡ None

-- THE causes: why the text is refused at this place by the rule of this number, L1, L2, L3 or L9
abbrev pub IsRefused : List ℕ → Place → ℕ → Type 0
IsRefused text place rule = IsMisspelt 0 text place rule ⊎ ((rule ≡ 109) × (place ≡ start_of 0) × IsUnbuilt text)

-- why a text was not read, by cases on the error
abbrev pub IsUnreadText : List ℕ → FrontErr → Type 0
IsUnreadText text (errors.Refused refusal) = IsRefused text refusal.place refusal.rule
IsUnreadText text errors.Memory = Unit {0}
