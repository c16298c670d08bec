-- What the laws of the grammar say of an answer.
use Rattle.std.proofs.Common.{◌≡◌, ◌≢◌, ◌⊎◌, ℕ, List, drop, Result, Ok, Err, refl, sym, inl, inr, ◌∙◌}
use Rattle.std.specs.Prelude.{IfErr, IfOk}
use Rattle.dbpl_base.specs.declared.token.Token.{Token}
use Rattle.dbpl_tree.specs.declared.unit.Unit.{Unit as Module}
use Rattle.dbpl_grammar.specs.Laws.{BegunUnits, HasEnd, IsText, NamesToken, OneUnit, ReadsUnits, RefusesUnits, SpelledUnits}
use Rattle.dbpl_grammar.specs.Reading.{Reason, Refused, Wrong, Deep, deep, wrong}
use Rattle.dbpl_grammar.specs.Units.{depth_limit, whole_unit}
use Rattle.dbpl_grammar.proofs.TokenLaw.{err_isnt}
use Rattle.dbpl_parse_expr.specs.Calls.{answered, error_of, place_of}
use Rattle.dbpl_parse_expr.specs.Gives.{Gives}
use Rattle.dbpl_parse_expr.specs.declared.parse_err.ParseErr.{ParseErr}
use Rattle.dbpl_parse_expr.specs.declared.parse_err.ParseErr.TheVariants as errors
use Rattle.dbpl_parse_expr.specs.declared.read_err.ReadErr.{ReadErr}
use Rattle.dbpl_parse_expr.specs.declared.read_err.ReadErr.TheVariants as refusals
use Rattle.dbpl_parse_unit.specs.Whole.{TextRefusedAt, Whole}

-- an answer by positions is one by places
whole_of : {A : Type 0} (tokens : List Token) (result : Result A ReadErr) (read : Result A Refused) → Gives (λ (found : A). found) tokens result read → Whole (answered tokens result) read
whole_of tokens (Ok found) read h = h
whole_of tokens (Err (refusals.Wrong at)) read h = λ some. (wrong (drop at tokens), h (λ e. (let same : refusals.Wrong at ≡ refusals.Memory = e in cc)), refl)
whole_of tokens (Err (refusals.Deep at)) read h = λ some. (deep (drop at tokens), h (λ e. (let same : refusals.Deep at ≡ refusals.Memory = e in cc)), refl)
whole_of tokens (Err refusals.Memory) read h = λ some. absurd (some refl)

-- what the call says of its answer
pub record IsAnswer (tokens : List Token) (result : Result Module ParseErr) : Type 0 where
  pub reads : Whole result (whole_unit depth_limit tokens)
  pub found : IfOk result (λ unit. IsText tokens unit)
  pub only : IfOk result (λ unit. (other : Module) → IsText tokens other → other ≡ unit)
  pub refused : IfErr result (λ error. error ≢ errors.Memory → (unit : Module) → IsText tokens unit → ⊥)
  pub placed : IfErr result (λ error. error ≢ errors.Memory → HasEnd tokens → TextRefusedAt tokens error)

module _ (tokens : List Token) where
  found : SpelledUnits → (result : Result Module ParseErr) → Whole result (whole_unit depth_limit tokens) → IfOk result (λ unit. IsText tokens unit)
  found law (Ok unit) h = law tokens unit h
  found law (Err error) h = tt

  only : SpelledUnits → OneUnit → (result : Result Module ParseErr) → Whole result (whole_unit depth_limit tokens) → IfOk result (λ unit. (other : Module) → IsText tokens other → other ≡ unit)
  only law one (Ok unit) h = λ other is. one tokens other unit is.0 (law tokens unit h).0
  only law one (Err error) h = tt

  refused : ReadsUnits → (result : Result Module ParseErr) → Whole result (whole_unit depth_limit tokens) → IfErr result (λ error. error ≢ errors.Memory → (unit : Module) → IsText tokens unit → ⊥)
  refused law (Ok unit) h = tt
  refused law (Err error) h = λ some unit is. err_isnt _ _ (sym (h some).1 ∙ law tokens unit is)

  placed : RefusesUnits → BegunUnits → NamesToken → (result : Result Module ParseErr) → Whole result (whole_unit depth_limit tokens) → IfErr result (λ error. error ≢ errors.Memory → HasEnd tokens → TextRefusedAt tokens error)
  placed law begun named (Ok unit) h = tt
  placed law begun named (Err error) h = λ some end.
      (let r = h some in
      record {
        rest = r.0.rest;
        some = named tokens r.0 end r.1;
        none = law tokens r.0 r.1;
        begun = begun tokens r.0 r.1;
        placed = by_reason r.0.reason r.0.rest r.2;
      })
    where
      by_reason : (reason : Reason) (rest : List Token) → error ≡ error_of reason rest → (error ≡ errors.Syntax (place_of rest)) ⊎ (error ≡ errors.Deep (place_of rest))
      by_reason Wrong rest is = inl is
      by_reason Deep rest is = inr is

-- what is read of the whole text by positions, as the call answers it
pub is_answer : ReadsUnits → SpelledUnits → RefusesUnits → BegunUnits → NamesToken → OneUnit → (tokens : List Token) (given : Result Module ReadErr) (result : Result Module ParseErr) → Gives (λ (found : Module). found) tokens given (whole_unit depth_limit tokens) → result ≡ answered tokens given → IsAnswer tokens result
is_answer complete sound refuses begun named one tokens given result h is =
    let a : Whole result (whole_unit depth_limit tokens) = rw is (whole_of tokens given (whole_unit depth_limit tokens) h) in
    record {
      reads = a;
      found = found tokens sound result a;
      only = only tokens sound one result a;
      refused = refused tokens complete result a;
      placed = placed tokens refuses begun named result a;
    }
