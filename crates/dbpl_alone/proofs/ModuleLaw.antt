-- A text has one answer: it is one module, or it is refused at one place by one rule.
use Rattle.std.proofs.Common.{◌≡◌, ℕ, List, Some, None, inl, inr, refl, sym, ap, ◌∙◌}
use Rattle.dbpl_alone.specs.Modules.{IsModule, IsNoModule, IsRefused, IsUnbuilt}
use Rattle.dbpl_alone.specs.Small.{small_of}
use Rattle.dbpl_alone.specs.declared.program.Program.{Program}
use Rattle.dbpl_base.specs.Places.{start_of}
use Rattle.dbpl_base.specs.declared.place.Place.{Place}
use Rattle.dbpl_front.proofs.TextLaw.{no_tokens_misspelt, no_unit_unit, one_misspelling, one_tree, unit_or_misspelt}
use Rattle.dbpl_front.specs.Texts.{HasNoTokens, HasNoUnit, IsRefusedByGrammar, IsUnscanned}

pub one_module : (text : List ℕ) (first second : Program) → IsModule text first → IsModule text second → first ≡ second
one_module text first second h k =
    let unit = one_tree 0 text h.unit k.unit h.spelt k.spelt in
    let same : Some first ≡ Some second = sym h.small ∙ ap small_of unit ∙ k.small in
    cc

module_built : (text : List ℕ) (program : Program) → IsModule text program → IsUnbuilt text → ⊥
module_built text program m u =
    let unit = one_tree 0 text m.unit u.unit m.spelt u.spelt in
    let none : Some program ≡ None = sym m.small ∙ ap small_of unit ∙ u.other in
    cc

pub module_or_refusal : (text : List ℕ) (program : Program) (place : Place) (rule : ℕ) → IsModule text program → IsRefused text place rule → ⊥
module_or_refusal text program place rule m (inl u) = unit_or_misspelt 0 text m.unit place rule m.spelt u
module_or_refusal text program place rule m (inr u) = module_built text program m u.2

pub one_refusal : (text : List ℕ) (place other : Place) (rule another : ℕ) → IsRefused text place rule → IsRefused text other another →
    (place ≡ other) × (rule ≡ another)
one_refusal text place other rule another (inl h) (inl k) = one_misspelling 0 text place other rule another h k
one_refusal text place other rule another (inl h) (inr k) = absurd (unit_or_misspelt 0 text k.2.unit place rule k.2.spelt h)
one_refusal text place other rule another (inr h) (inl k) = absurd (unit_or_misspelt 0 text h.2.unit other another h.2.spelt k)
one_refusal text place other rule another (inr h) (inr k) = (h.1 ∙ sym k.1, h.0 ∙ sym k.0)

-- ---- texts that are no modules

-- a text without tokens is no module, and nothing but the place where it breaks off is said of it
pub no_tokens_module : (text : List ℕ) → HasNoTokens 0 text → IsNoModule text
no_tokens_module text none program m = none m.spelt.tokens m.spelt.scanned

pub no_tokens_refusal : (text : List ℕ) (place : Place) (rule : ℕ) → HasNoTokens 0 text → IsRefused text place rule → (rule ≡ 101) × IsUnscanned 0 text place
no_tokens_refusal text place rule none (inl u) = no_tokens_misspelt 0 text place rule none u
no_tokens_refusal text place rule none (inr u) = absurd (none u.2.spelt.tokens u.2.spelt.scanned)

-- a text whose tokens spell no unit is no module, and nothing but where that shows is said of it
pub no_unit_module : (text : List ℕ) → HasNoUnit 0 text → IsNoModule text
no_unit_module text h program m = no_unit_unit 0 text m.unit h m.spelt

pub no_unit_refusal : (text : List ℕ) (place : Place) (rule : ℕ) → HasNoUnit 0 text → IsRefused text place rule → IsRefusedByGrammar 0 text place rule
no_unit_refusal text place rule h (inl (inl u)) = absurd (u.1.none h.tokens h.scanned)
no_unit_refusal text place rule h (inl (inr u)) = u
no_unit_refusal text place rule h (inr u) = absurd (no_unit_unit 0 text u.2.unit h u.2.spelt)

-- a text whose unit is none of the form is no module, and is refused for that
pub unbuilt_module : (text : List ℕ) → IsUnbuilt text → IsNoModule text
unbuilt_module text h program m = module_built text program m h

pub unbuilt_refusal : (text : List ℕ) (place : Place) (rule : ℕ) → IsUnbuilt text → IsRefused text place rule → (place ≡ start_of 0) × (rule ≡ 109)
unbuilt_refusal text place rule h k = one_refusal text place (start_of 0) rule 109 k (inr (refl, refl, h))
