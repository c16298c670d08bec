-- Which two texts are a program over a store, and why others are refused.
use Rattle.std.specs.Prelude.{◌≡◌, ◌⊎◌, ℕ, List, None, Some}
use Rattle.dbpl_base.specs.Places.{start_of}
use Rattle.dbpl_base.specs.declared.place.Place.{Place}
use Rattle.dbpl_stored_program.specs.declared.stored_program.StoredProgram.{StoredProgram}
use Rattle.dbpl_front.specs.Texts.{IsMisspelt, SpellsText}
use Rattle.dbpl_front.specs.declared.front_err.FrontErr.{FrontErr}
use Rattle.dbpl_front.specs.declared.front_err.FrontErr.TheVariants as errors
use Rattle.dbpl_stored_form.specs.Programs.{stored_of}
use Rattle.dbpl_tree.specs.declared.unit.Unit.{Unit as Tree}

-- THE texts of such a program: they spell a database module and a program module, and these are this program.
pub record IsStored (schema program : List ℕ) (stored : StoredProgram) : Type 0 where
  pub schema_unit : Tree
  pub program_unit : Tree
  pub schema_spelt : SpellsText 0 schema schema_unit
  pub program_spelt : SpellsText 1 program program_unit
  pub is : stored_of schema_unit program_unit ≡ Some stored

-- The first text spells a unit, and the second none; this says where that shows, and by which rule.
pub record IsSecondMisspelt (schema program : List ℕ) (place : Place) (rule : ℕ) : Type 0 where
  pub schema_unit : Tree
  pub schema_spelt : SpellsText 0 schema schema_unit
  pub misspelt : IsMisspelt 1 program place rule

-- Both spell units, but these are no such program.
pub record IsUnbuilt (schema program : List ℕ) : Type 0 where
  pub schema_unit : Tree
  pub program_unit : Tree
  pub schema_spelt : SpellsText 0 schema schema_unit
  pub program_spelt : SpellsText 1 program program_unit
  pub other : stored_of schema_unit program_unit ≡ None

-- THE causes: why the texts are refused at this place by the rule of this number, L1, L2, L3 or L9. The first text comes
-- first.
abbrev pub IsRefused : List ℕ → List ℕ → Place → ℕ → Type 0
IsRefused schema program place rule =
    IsMisspelt 0 schema place rule
    ⊎ (IsSecondMisspelt schema program place rule ⊎ ((rule ≡ 109) × (place ≡ start_of 0) × IsUnbuilt schema program))

-- why the texts were not read, by cases on the error
abbrev pub IsUnread : List ℕ → List ℕ → FrontErr → Type 0
IsUnread schema program (errors.Refused refusal) = IsRefused schema program refusal.place refusal.rule
IsUnread schema program errors.Memory = Unit {0}
