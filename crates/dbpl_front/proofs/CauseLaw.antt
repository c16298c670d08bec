-- Why a text is not read: from what the scanner and the parser answer to the causes of a refusal.
use Rattle.std.proofs.Common.{◌≡◌, ◌≢◌, ℕ, List, Result, Err, inl, inr, refl}
use Rattle.dbpl_base.specs.Places.{start_of}
use Rattle.dbpl_base.specs.declared.place.Place.{Place}
use Rattle.dbpl_base.specs.declared.token.Token.{Token}
use Rattle.dbpl_front.proofs.TextLaw.{scans_end, unit_or_misspelt}
use Rattle.dbpl_front.specs.Errors.{of_parse, of_scan}
use Rattle.dbpl_front.specs.Texts.{IsUnparsed, IsUnspelt, SpellsText}
use Rattle.dbpl_front.specs.declared.front_err.FrontErr.{FrontErr}
use Rattle.dbpl_front.specs.declared.front_err.FrontErr.TheVariants as errors
use Rattle.dbpl_grammar.specs.Laws.{HasEnd, IsText}
use Rattle.dbpl_grammar.specs.Units.{depth_limit, whole_unit}
use Rattle.dbpl_parse_expr.specs.declared.parse_err.ParseErr.{ParseErr}
use Rattle.dbpl_parse_expr.specs.declared.parse_err.ParseErr.TheVariants as syntax
use Rattle.dbpl_parse_unit.specs.Whole.{TextRefusedAt, Whole}
use Rattle.dbpl_scan.specs.BreaksOff.{BreaksOffAt}
use Rattle.dbpl_scan.specs.Comments.{Scans}
use Rattle.dbpl_scan.specs.declared.scan_err.ScanErr.{ScanErr}
use Rattle.dbpl_scan.specs.declared.scan_err.ScanErr.TheVariants as scans
use Rattle.dbpl_tree.specs.declared.unit.Unit.{Unit as Tree}

-- the scanner's answer, by what it says of one
pub scan_unspelt : {A : Type 0} (number : ℕ) (text : List ℕ) (result : Result A ScanErr) (error : ScanErr) → result ≡ Err error →
    ((place : Place) → result ≡ Err (scans.Bad place) → BreaksOffAt number text place) →
    ((place : Place) → result ≡ Err (scans.Bad place) → (tokens : List Token) → ¬ Scans number text tokens) → IsUnspelt number text (of_scan error)
scan_unspelt number text result (scans.Bad place) is bad refused = inl (refl, record { breaks = bad place is; none = refused place is })
scan_unspelt number text result scans.Memory is bad refused = tt

-- the parser's answer, likewise
unparsed : (number : ℕ) (text : List ℕ) (tokens : List Token) (error : ParseErr) → error ≢ syntax.Memory → Scans number text tokens →
    Whole {A = Tree} (Err error) (whole_unit depth_limit tokens) →
    (error ≢ syntax.Memory → (unit : Tree) → IsText tokens unit → ⊥) →
    (error ≢ syntax.Memory → HasEnd tokens → TextRefusedAt tokens error) → IsUnparsed number text error
unparsed number text tokens error some scanned reads refused placed =
    let read = reads some in
    record {
      tokens = tokens;
      scanned = scanned;
      none = refused some;
      at = placed some (scans_end (start_of number) text tokens scanned);
      refused = read.0;
      read = read.1;
      is = read.2;
    }

pub parse_unspelt : (number : ℕ) (text : List ℕ) (tokens : List Token) (error : ParseErr) → Scans number text tokens →
    Whole {A = Tree} (Err error) (whole_unit depth_limit tokens) →
    (error ≢ syntax.Memory → (unit : Tree) → IsText tokens unit → ⊥) →
    (error ≢ syntax.Memory → HasEnd tokens → TextRefusedAt tokens error) → IsUnspelt number text (of_parse error)
parse_unspelt number text tokens (syntax.Syntax place) scanned reads refused placed =
    inr (inl (refl, unparsed number text tokens (syntax.Syntax place) (λ e. cc) scanned reads refused placed))
parse_unspelt number text tokens (syntax.Deep place) scanned reads refused placed =
    inr (inr (refl, unparsed number text tokens (syntax.Deep place) (λ e. cc) scanned reads refused placed))
parse_unspelt number text tokens syntax.Memory scanned reads refused placed = tt

-- a text that is refused spells no unit
pub unspelt_no_unit : (number : ℕ) (text : List ℕ) (error : FrontErr) → IsUnspelt number text error → error ≢ errors.Memory → (unit : Tree) → ¬ SpellsText number text unit
unspelt_no_unit number text (errors.Refused refusal) cause some unit spelt =
    unit_or_misspelt number text unit refusal.place refusal.rule spelt cause
unspelt_no_unit number text errors.Memory cause some unit spelt = absurd (some refl)
