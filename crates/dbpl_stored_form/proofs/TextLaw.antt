-- Two texts have one answer.
use Rattle.std.proofs.Common.{◌≡◌, ◌∙◌, ◌≢◌, ℕ, List, None, Some, Result, Ok, Err, ap₂, inl, inr, refl, sym}
use Rattle.std.specs.Prelude.{IfErr, IfOk, IsTrue}
use Rattle.dbpl_base.specs.declared.place.Place.{Place}
use Rattle.dbpl_stored_program.specs.Programs.{is_small_program}
use Rattle.dbpl_stored_program.specs.declared.stored_program.StoredProgram.{StoredProgram}
use Rattle.dbpl_front.proofs.TextLaw.{one_misspelling, one_tree, unit_or_misspelt}
use Rattle.dbpl_front.specs.Texts.{IsUnspelt, SpellsText}
use Rattle.dbpl_front.specs.declared.front_err.FrontErr.{FrontErr}
use Rattle.dbpl_front.specs.declared.front_err.FrontErr.TheVariants as errors
use Rattle.dbpl_stored_form.specs.Programs.{stored_of}
use Rattle.dbpl_stored_form.specs.Texts.{IsRefused, IsStored, IsUnbuilt, IsUnread}
use Rattle.dbpl_tree.specs.declared.unit.Unit.{Unit as Tree}

-- the program of two units
same_stored : (schema program first second : Tree) → first ≡ schema → second ≡ program → stored_of first second ≡ stored_of schema program
same_stored schema program first second is also = ap₂ stored_of is also

pub one_program : (schema program : List ℕ) (one other : StoredProgram) → IsStored schema program one → IsStored schema program other → one ≡ other
one_program schema program one other h k =
    let first = one_tree 0 schema k.schema_unit h.schema_unit k.schema_spelt h.schema_spelt in
    let second = one_tree 1 program k.program_unit h.program_unit k.program_spelt h.program_spelt in
    let same : Some one ≡ Some other = sym h.is ∙ sym (same_stored h.schema_unit h.program_unit k.schema_unit k.program_unit first second) ∙ k.is in
    cc

built_or_not : (schema program : List ℕ) (stored : StoredProgram) → IsStored schema program stored → IsUnbuilt schema program → ⊥
built_or_not schema program stored h k =
    let first = one_tree 0 schema k.schema_unit h.schema_unit k.schema_spelt h.schema_spelt in
    let second = one_tree 1 program k.program_unit h.program_unit k.program_spelt h.program_spelt in
    let none : Some stored ≡ None = sym h.is ∙ sym (same_stored h.schema_unit h.program_unit k.schema_unit k.program_unit first second) ∙ k.other in
    cc

pub program_or_refusal : (schema program : List ℕ) (stored : StoredProgram) (place : Place) (rule : ℕ) → IsStored schema program stored →
    IsRefused schema program place rule → ⊥
program_or_refusal schema program stored place rule h (inl u) = unit_or_misspelt 0 schema h.schema_unit place rule h.schema_spelt u
program_or_refusal schema program stored place rule h (inr (inl u)) = unit_or_misspelt 1 program h.program_unit place rule h.program_spelt u.misspelt
program_or_refusal schema program stored place rule h (inr (inr u)) = built_or_not schema program stored h u.2

pub one_refusal : (schema program : List ℕ) (place other : Place) (rule another : ℕ) → IsRefused schema program place rule →
    IsRefused schema program other another → (place ≡ other) × (rule ≡ another)
one_refusal schema program place other rule another (inl h) (inl k) = one_misspelling 0 schema place other rule another h k
one_refusal schema program place other rule another (inl h) (inr (inl k)) = absurd (unit_or_misspelt 0 schema k.schema_unit place rule k.schema_spelt h)
one_refusal schema program place other rule another (inl h) (inr (inr k)) = absurd (unit_or_misspelt 0 schema k.2.schema_unit place rule k.2.schema_spelt h)
one_refusal schema program place other rule another (inr (inl h)) (inl k) = absurd (unit_or_misspelt 0 schema h.schema_unit other another h.schema_spelt k)
one_refusal schema program place other rule another (inr (inl h)) (inr (inl k)) = one_misspelling 1 program place other rule another h.misspelt k.misspelt
one_refusal schema program place other rule another (inr (inl h)) (inr (inr k)) = absurd (unit_or_misspelt 1 program k.2.program_unit place rule k.2.program_spelt h.misspelt)
one_refusal schema program place other rule another (inr (inr h)) (inl k) = absurd (unit_or_misspelt 0 schema h.2.schema_unit other another h.2.schema_spelt k)
one_refusal schema program place other rule another (inr (inr h)) (inr (inl k)) = absurd (unit_or_misspelt 1 program h.2.program_unit other another h.2.program_spelt k.misspelt)
one_refusal schema program place other rule another (inr (inr h)) (inr (inr k)) = (h.1 ∙ sym k.1, h.0 ∙ sym k.0)

-- why no unit was found in the first text, or in the second
pub first_unread : (schema program : List ℕ) (error : FrontErr) → IsUnspelt 0 schema error → IsUnread schema program error
first_unread schema program (errors.Refused refusal) cause = inl cause
first_unread schema program errors.Memory cause = tt

pub second_unread : (schema program : List ℕ) (unit : Tree) (error : FrontErr) → SpellsText 0 schema unit → IsUnspelt 1 program error → IsUnread schema program error
second_unread schema program unit (errors.Refused refusal) spelt cause =
    inr (inl (record { schema_unit = unit; schema_spelt = spelt; misspelt = cause }))
second_unread schema program unit errors.Memory spelt cause = tt

-- texts that are refused are no program
pub unread_no_program : (schema program : List ℕ) (error : FrontErr) → IsUnread schema program error → error ≢ errors.Memory →
    (stored : StoredProgram) → IsStored schema program stored → ⊥
unread_no_program schema program (errors.Refused refusal) cause some stored h =
    program_or_refusal schema program stored refusal.place refusal.rule h cause
unread_no_program schema program errors.Memory cause some stored h = absurd (some refl)

-- ---- from what one function found to what the next one says

-- the first text is known by the unit that it spells
abbrev pub IsStoredBehind : Tree → List ℕ → StoredProgram → Type 0
IsStoredBehind database program stored = (schema : List ℕ) → SpellsText 0 schema database → IsStored schema program stored

abbrev pub IsUnreadBehind : Tree → List ℕ → FrontErr → Type 0
IsUnreadBehind database program error = (schema : List ℕ) → SpellsText 0 schema database → IsUnread schema program error

pub found_behind : (database unit : Tree) (program : List ℕ) (result : Result StoredProgram FrontErr) → SpellsText 1 program unit →
    IfOk result (λ stored. stored_of database unit ≡ Some stored) → IfOk result (IsStoredBehind database program)
found_behind database unit program (Ok stored) second e = λ schema first.
    record { schema_unit = database; program_unit = unit; schema_spelt = first; program_spelt = second; is = e }
found_behind database unit program (Err error) second e = tt

pub refused_behind : (database unit : Tree) (program : List ℕ) (result : Result StoredProgram FrontErr) → SpellsText 1 program unit →
    IfErr result (λ error. (schema text : List ℕ) → SpellsText 0 schema database → SpellsText 1 text unit → IsUnread schema text error) →
    IfErr result (IsUnreadBehind database program)
refused_behind database unit program (Ok stored) second e = tt
refused_behind database unit program (Err error) second e = λ schema first. e schema program first second

module _ (schema program : List ℕ) (database : Tree) where
  pub stored_found : (result : Result StoredProgram FrontErr) → SpellsText 0 schema database →
      IfOk result (IsStoredBehind database program) → IfOk result (IsStored schema program)
  stored_found (Ok stored) first h = h schema first
  stored_found (Err error) first h = tt

  pub stored_only : (result : Result StoredProgram FrontErr) → SpellsText 0 schema database →
      IfOk result (IsStoredBehind database program) →
      IfOk result (λ stored. (other : StoredProgram) → IsStored schema program other → other ≡ stored)
  stored_only (Ok stored) first h = λ other k. one_program schema program other stored k (h schema first)
  stored_only (Err error) first h = tt

  pub stored_small : (result : Result StoredProgram FrontErr) →
      ((one other : Tree) (stored : StoredProgram) → stored_of one other ≡ Some stored → IsTrue (is_small_program stored)) →
      SpellsText 0 schema database → IfOk result (IsStoredBehind database program) →
      IfOk result (λ stored. IsTrue (is_small_program stored))
  stored_small (Ok stored) law first h =
      let found = h schema first in
      law found.schema_unit found.program_unit stored found.is
  stored_small (Err error) law first h = tt

  pub stored_refused : (result : Result StoredProgram FrontErr) → SpellsText 0 schema database →
      IfErr result (IsUnreadBehind database program) → IfErr result (IsUnread schema program)
  stored_refused (Ok stored) first h = tt
  stored_refused (Err error) first h = h schema first

  pub stored_refused_only : (result : Result StoredProgram FrontErr) → SpellsText 0 schema database →
      IfErr result (IsUnreadBehind database program) →
      IfErr result (λ error. error ≢ errors.Memory → (other : StoredProgram) → IsStored schema program other → ⊥)
  stored_refused_only (Ok stored) first h = tt
  stored_refused_only (Err error) first h = unread_no_program schema program error (h schema first)
