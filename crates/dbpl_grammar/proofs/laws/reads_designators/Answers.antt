use Rattle.std.proofs.Common.{ℕ, refl}
use Rattle.dbpl_tree.specs.Depths.{factor_depth}
use Rattle.dbpl_tree.specs.Factors.{factor_marks}
use Rattle.dbpl_grammar.proofs.CallLaw as call
use Rattle.dbpl_grammar.proofs.ExprLaw.{law_designator}
use Rattle.dbpl_grammar.proofs.FactorLaw.{inner_law}
use Rattle.dbpl_grammar.proofs.Grows.{grows_at_depth, grows_designator}
use Rattle.dbpl_grammar.proofs.SharpExpr.{sharp_designator}
use Rattle.dbpl_grammar.proofs.SharpFactor.{some_whole}
use Rattle.dbpl_grammar.proofs.laws.reads_designators.Goals as goal

pub returns-clause-found : goal.returns-clause-found
returns-clause-found c = call.reads_phrase (λ (limit : ℕ). law_designator factor_marks factor_depth (inner_law limit).expr) (λ limit more h. grows_designator (grows_at_depth limit more h).expr) refl

pub returns-clause-only : goal.returns-clause-only
returns-clause-only c = call.phrase_is_read (λ (limit : ℕ). law_designator factor_marks factor_depth (inner_law limit).expr) (λ (limit : ℕ). (sharp_designator factor_marks factor_depth (inner_law limit).expr some_whole).exact)

pub returns-clause-refused : goal.returns-clause-refused
returns-clause-refused c = call.refuses_phrase (λ (limit : ℕ). law_designator factor_marks factor_depth (inner_law limit).expr) refl

pub returns-clause-named : goal.returns-clause-named
returns-clause-named c = call.names_phrase_token (λ (limit : ℕ). law_designator factor_marks factor_depth (inner_law limit).expr)

pub returns-clause-begun : goal.returns-clause-begun
returns-clause-begun c = call.begun_phrase (λ (limit : ℕ). law_designator factor_marks factor_depth (inner_law limit).expr)
