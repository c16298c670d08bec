-- What the laws of the grammar say of an answer.
use Rattle.std.proofs.Common.{◌≡◌, ◌≢◌, ◌⊎◌, ℕ, List, drop, Result, Ok, Err, refl, sym, ap, inl, inr, ◌∙◌}
use Rattle.std.specs.Prelude.{IfErr, IfOk}
use Rattle.dbpl_base.specs.declared.token.Token.{Token}
use Rattle.dbpl_tree.specs.Marks.{Mark}
use Rattle.dbpl_grammar.specs.Laws.{BegunPhrase, HasEnd, NamesPhraseToken, PhraseIsRead, ReadsPhrase, RefusesPhrase, Stands}
use Rattle.dbpl_grammar.specs.Reading.{Parser, Reason, Refused, Wrong, Deep, deep, wrong}
use Rattle.dbpl_grammar.proofs.TokenLaw.{err_isnt, ok_is}
use Rattle.dbpl_parse_expr.specs.Calls.{Answers, RefusedAt, answered, error_of, place_of}
use Rattle.dbpl_parse_expr.specs.Gives.{Reads}
use Rattle.dbpl_parse_expr.specs.declared.parse_err.ParseErr.{ParseErr}
use Rattle.dbpl_parse_expr.specs.declared.parse_err.ParseErr.TheVariants as errors
use Rattle.dbpl_parse_expr.specs.declared.read_err.ReadErr.{ReadErr}
use Rattle.dbpl_parse_expr.specs.declared.read_err.ReadErr.TheVariants as refusals

-- an answer by positions is one by places
answers_of : {A : Type 0} (tokens : List Token) (result : Result (A × ℕ) ReadErr) (read : Result (A × List Token) Refused) → Reads tokens result read → Answers tokens (answered tokens result) read
answers_of tokens (Ok found) read h = h
answers_of tokens (Err (refusals.Wrong at)) read h = λ some. (wrong (drop at tokens), h (λ e. (let same : refusals.Wrong at ≡ refusals.Memory = e in cc)), refl)
answers_of tokens (Err (refusals.Deep at)) read h = λ some. (deep (drop at tokens), h (λ e. (let same : refusals.Deep at ≡ refusals.Memory = e in cc)), refl)
answers_of tokens (Err refusals.Memory) read h = λ some. absurd (some refl)

-- what the grammar says of one kind of phrase
pub record PhraseLaws {A : Type 0} (marks : A → List Mark) (depth : A → ℕ) (read : ℕ → Parser A) : Type 0 where
  pub found : ReadsPhrase marks depth read
  pub only : PhraseIsRead marks depth read
  pub refused : RefusesPhrase marks depth read
  pub begun : BegunPhrase marks read
  pub named : NamesPhraseToken read

-- what a call says of its answer
pub record IsAnswer {A : Type 0} (marks : A → List Mark) (depth : A → ℕ) (read : ℕ → Parser A) (limit : ℕ) (whole tokens : List Token) (result : Result (A × ℕ) ParseErr) : Type 0 where
  pub reads : Answers whole result (read limit tokens)
  pub found : HasEnd tokens → IfOk result (λ answer. Stands marks depth limit tokens answer.0 (drop answer.1 whole))
  pub only : IfOk result (λ answer. (phrase : A) (rest : List Token) → Stands marks depth limit tokens phrase rest → (phrase ≡ answer.0) × (rest ≡ drop answer.1 whole))
  pub refused : IfErr result (λ error. error ≢ errors.Memory → (phrase : A) (rest : List Token) → Stands marks depth limit tokens phrase rest → ⊥)
  pub placed : IfErr result (λ error. error ≢ errors.Memory → HasEnd tokens → RefusedAt marks depth limit tokens error)

module _ {A : Type 0} (marks : A → List Mark) (depth : A → ℕ) (read : ℕ → Parser A) (law : PhraseLaws marks depth read) (limit : ℕ) (whole tokens : List Token) where
  found : (result : Result (A × ℕ) ParseErr) → Answers whole result (read limit tokens) → HasEnd tokens → IfOk result (λ answer. Stands marks depth limit tokens answer.0 (drop answer.1 whole))
  found (Ok answer) h end = law.found limit tokens (drop answer.1 whole) answer.0 end h
  found (Err error) h end = tt

  only : (result : Result (A × ℕ) ParseErr) → Answers whole result (read limit tokens) → IfOk result (λ answer. (phrase : A) (rest : List Token) → Stands marks depth limit tokens phrase rest → (phrase ≡ answer.0) × (rest ≡ drop answer.1 whole))
  only (Ok answer) h = λ phrase rest s.
      (let same = ok_is _ _ (sym (law.only limit tokens rest phrase s) ∙ h) in
      (ap (λ (x : A × List Token). x.0) same, ap (λ (x : A × List Token). x.1) same))
  only (Err error) h = tt

  refused : (result : Result (A × ℕ) ParseErr) → Answers whole result (read limit tokens) → IfErr result (λ error. error ≢ errors.Memory → (phrase : A) (rest : List Token) → Stands marks depth limit tokens phrase rest → ⊥)
  refused (Ok answer) h = tt
  refused (Err error) h = λ some phrase rest s. err_isnt _ _ (sym (h some).1 ∙ law.only limit tokens rest phrase s)

  placed : (result : Result (A × ℕ) ParseErr) → Answers whole result (read limit tokens) → IfErr result (λ error. error ≢ errors.Memory → HasEnd tokens → RefusedAt marks depth limit tokens error)
  placed (Ok answer) h = tt
  placed (Err error) h = λ some end.
      (let r = h some in
      record {
        rest = r.0.rest;
        some = law.named limit tokens r.0 end r.1;
        none = law.refused limit tokens r.0 r.1;
        begun = law.begun limit tokens r.0 r.1;
        placed = by_reason r.0.reason r.0.rest r.2;
      })
    where
      by_reason : (reason : Reason) (rest : List Token) → error ≡ error_of reason rest → (error ≡ errors.Syntax (place_of rest)) ⊎ (error ≡ errors.Deep (place_of rest))
      by_reason Wrong rest is = inl is
      by_reason Deep rest is = inr is

-- a reading by positions, as a call answers it
pub is_answer : {A : Type 0} {marks : A → List Mark} {depth : A → ℕ} {read : ℕ → Parser A} (law : PhraseLaws marks depth read) (limit left : ℕ) (whole tokens : List Token) (given : Result (A × ℕ) ReadErr) (result : Result (A × ℕ) ParseErr) → left ≡ limit → Reads whole given (read left tokens) → result ≡ answered whole given → IsAnswer marks depth read limit whole tokens result
is_answer {marks = marks} {depth = depth} {read = read} law limit left whole tokens given result same h is =
    let a : Answers whole result (read limit tokens) = rw is (answers_of whole given (read limit tokens) (rw same at h)) in
    record {
      reads = a;
      found = found marks depth read law limit whole tokens result a;
      only = only marks depth read law limit whole tokens result a;
      refused = refused marks depth read law limit whole tokens result a;
      placed = placed marks depth read law limit whole tokens result a;
    }
