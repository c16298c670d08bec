use Rattle.std.proofs.Common.{ℕ, refl}
use Rattle.dbpl_grammar.proofs.CallLaw as call
use Rattle.dbpl_grammar.proofs.FactorLaw.{inner_law}
use Rattle.dbpl_grammar.proofs.Grows.{grows_aggregate, grows_at_depth}
use Rattle.dbpl_grammar.proofs.InnerLaw.{law_aggregate}
use Rattle.dbpl_grammar.proofs.Longest.{exact_plain}
use Rattle.dbpl_grammar.proofs.laws.reads_aggregates.Goals as goal

pub returns-clause-found : goal.returns-clause-found
returns-clause-found c = call.reads_phrase (λ (limit : ℕ). law_aggregate (inner_law limit)) (λ limit more h. grows_aggregate (grows_at_depth limit more h)) refl

pub returns-clause-only : goal.returns-clause-only
returns-clause-only c = call.phrase_is_read (λ (limit : ℕ). law_aggregate (inner_law limit)) (λ (limit : ℕ). exact_plain (law_aggregate (inner_law limit)))

pub returns-clause-refused : goal.returns-clause-refused
returns-clause-refused c = call.refuses_phrase (λ (limit : ℕ). law_aggregate (inner_law limit)) refl

pub returns-clause-named : goal.returns-clause-named
returns-clause-named c = call.names_phrase_token (λ (limit : ℕ). law_aggregate (inner_law limit))

pub returns-clause-begun : goal.returns-clause-begun
returns-clause-begun c = call.begun_phrase (λ (limit : ℕ). law_aggregate (inner_law limit))
