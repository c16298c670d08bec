use Rattle.std.proofs.Common.{ℕ, refl}
use Rattle.dbpl_grammar.proofs.CallLaw as call
use Rattle.dbpl_grammar.proofs.FactorLaw.{inner_law}
use Rattle.dbpl_grammar.proofs.Grows.{grows_at_depth}
use Rattle.dbpl_grammar.proofs.SharpFactor.{inner_exact}
use Rattle.dbpl_grammar.proofs.laws.reads_ranges.Goals as goal

pub returns-clause-found : goal.returns-clause-found
returns-clause-found c = call.reads_phrase (λ (limit : ℕ). (inner_law limit).range) (λ limit more h. (grows_at_depth limit more h).range) refl

pub returns-clause-only : goal.returns-clause-only
returns-clause-only c = call.phrase_is_read (λ (limit : ℕ). (inner_law limit).range) (λ (limit : ℕ). (inner_exact limit).range)

pub returns-clause-refused : goal.returns-clause-refused
returns-clause-refused c = call.refuses_phrase (λ (limit : ℕ). (inner_law limit).range) refl

pub returns-clause-named : goal.returns-clause-named
returns-clause-named c = call.names_phrase_token (λ (limit : ℕ). (inner_law limit).range)

pub returns-clause-begun : goal.returns-clause-begun
returns-clause-begun c = call.begun_phrase (λ (limit : ℕ). (inner_law limit).range)
