-- Which texts spell a unit, and why another text is refused.
use Rattle.std.specs.Prelude.{◌≡◌, ◌⊎◌, ℕ, List, Err}
use Rattle.dbpl_base.specs.declared.place.Place.{Place}
use Rattle.dbpl_base.specs.declared.token.Token.{Token}
use Rattle.dbpl_front.specs.declared.front_err.FrontErr.{FrontErr}
use Rattle.dbpl_front.specs.declared.front_err.FrontErr.TheVariants as errors
use Rattle.dbpl_grammar.specs.Laws.{IsText}
use Rattle.dbpl_grammar.specs.Reading.{Refused}
use Rattle.dbpl_grammar.specs.Units.{depth_limit, whole_unit}
use Rattle.dbpl_parse_expr.specs.Calls.{error_of}
use Rattle.dbpl_parse_expr.specs.declared.parse_err.ParseErr.{ParseErr}
use Rattle.dbpl_parse_expr.specs.declared.parse_err.ParseErr.TheVariants as syntax
use Rattle.dbpl_parse_unit.specs.Whole.{TextRefusedAt}
use Rattle.dbpl_scan.specs.BreaksOff.{BreaksOffAt}
use Rattle.dbpl_scan.specs.Comments.{Scans}
use Rattle.dbpl_tree.specs.declared.unit.Unit.{Unit as Tree}

-- The text has tokens, and they spell this unit. The number is that of the text among those of a command; places have it.
pub record SpellsText (number : ℕ) (text : List ℕ) (unit : Tree) : Type 0 where
  pub tokens : List Token
  pub scanned : Scans number text tokens
  pub spelled : IsText tokens unit

-- ---- refusals

-- the text has no tokens
abbrev pub HasNoTokens : ℕ → List ℕ → Type 0
HasNoTokens number text = (tokens : List Token) → ¬ Scans number text tokens

-- The text has no tokens, since here neither a blank nor a whole comment nor a token stands.
pub record IsUnscanned (number : ℕ) (text : List ℕ) (place : Place) : Type 0 where
  pub breaks : BreaksOffAt number text place
  pub none : HasNoTokens number text

-- The text has tokens, but they spell no unit that isn't too deep.
pub record HasNoUnit (number : ℕ) (text : List ℕ) : Type 0 where
  pub tokens : List Token
  pub scanned : Scans number text tokens
  pub none : (unit : Tree) → ¬ IsText tokens unit

-- The text has tokens, but they spell no unit that isn't too deep; this says where that shows, as the grammar reads them.
pub record IsUnparsed (number : ℕ) (text : List ℕ) (error : ParseErr) : Type 0 where
  pub tokens : List Token
  pub scanned : Scans number text tokens
  pub none : (unit : Tree) → ¬ IsText tokens unit
  pub at : TextRefusedAt tokens error
  pub refused : Refused
  pub read : whole_unit depth_limit tokens ≡ Err refused
  pub is : error ≡ error_of refused.reason refused.rest

-- the grammar refuses the text at this place, by L2 or by L3
abbrev pub IsRefusedByGrammar : ℕ → List ℕ → Place → ℕ → Type 0
IsRefusedByGrammar number text place rule =
    ((rule ≡ 102) × IsUnparsed number text (syntax.Syntax place)) ⊎ ((rule ≡ 103) × IsUnparsed number text (syntax.Deep place))

-- why the text spells no unit: it is refused at this place by the rule of this number, L1, L2 or L3
abbrev pub IsMisspelt : ℕ → List ℕ → Place → ℕ → Type 0
IsMisspelt number text place rule =
    ((rule ≡ 101) × IsUnscanned number text place) ⊎ IsRefusedByGrammar number text place rule

-- why no unit was found in a text, by cases on the error
abbrev pub IsUnspelt : ℕ → List ℕ → FrontErr → Type 0
IsUnspelt number text (errors.Refused refusal) = IsMisspelt number text refusal.place refusal.rule
IsUnspelt number text errors.Memory = Unit {0}
