-- Each by the law of its reading function.
use Rattle.std.proofs.Common.{ℕ, refl}
use Rattle.dbpl_tree.specs.Depths.{factor_depth}
use Rattle.dbpl_tree.specs.Factors.{factor_marks}
use Rattle.dbpl_grammar.proofs.ExprLaw.{law_designator}
use Rattle.dbpl_grammar.proofs.FactorLaw.{inner_law, law_factor}
use Rattle.dbpl_grammar.proofs.InnerLaw.{law_aggregate, law_element}
use Rattle.dbpl_grammar.proofs.OneTree.{one_tree}
use Rattle.dbpl_grammar.proofs.StatementLaw.{law_statement, law_statements}
use Rattle.dbpl_grammar.proofs.TypeLaw.{law_type}
use Rattle.dbpl_grammar.proofs.UnitLaw.{law_common, law_decl, law_heading, law_import, law_item, law_params, law_plain_decl}
use Rattle.dbpl_grammar.proofs.WholeLaw.{one_unit}
use Rattle.dbpl_grammar.proofs.laws.one_tree.Goals as goal

pub returns-clause-units : goal.returns-clause-units
returns-clause-units c = one_unit

pub returns-clause-imports : goal.returns-clause-imports
returns-clause-imports c = one_tree law_import refl

pub returns-clause-declarations : goal.returns-clause-declarations
returns-clause-declarations c = one_tree law_decl refl

pub returns-clause-common : goal.returns-clause-common
returns-clause-common c = one_tree law_common refl

pub returns-clause-plain : goal.returns-clause-plain
returns-clause-plain c = one_tree law_plain_decl refl

pub returns-clause-items : goal.returns-clause-items
returns-clause-items c = one_tree law_item refl

pub returns-clause-headings : goal.returns-clause-headings
returns-clause-headings c = one_tree law_heading refl

pub returns-clause-params : goal.returns-clause-params
returns-clause-params c = one_tree law_params refl

pub returns-clause-types : goal.returns-clause-types
returns-clause-types c = one_tree law_type refl

pub returns-clause-statement_lists : goal.returns-clause-statement_lists
returns-clause-statement_lists c = one_tree law_statements refl

pub returns-clause-statements : goal.returns-clause-statements
returns-clause-statements c = one_tree (λ (limit : ℕ). law_statement (inner_law limit) (law_statements limit)) refl

pub returns-clause-expressions : goal.returns-clause-expressions
returns-clause-expressions c = one_tree (λ (limit : ℕ). (inner_law limit).expr) refl

pub returns-clause-factors : goal.returns-clause-factors
returns-clause-factors c = one_tree (λ (limit : ℕ). law_factor (inner_law limit)) refl

pub returns-clause-designators : goal.returns-clause-designators
returns-clause-designators c = one_tree (λ (limit : ℕ). law_designator factor_marks factor_depth (inner_law limit).expr) refl

pub returns-clause-aggregates : goal.returns-clause-aggregates
returns-clause-aggregates c = one_tree (λ (limit : ℕ). law_aggregate (inner_law limit)) refl

pub returns-clause-elements : goal.returns-clause-elements
returns-clause-elements c = one_tree (λ (limit : ℕ). law_element (inner_law limit)) refl

pub returns-clause-ranges : goal.returns-clause-ranges
returns-clause-ranges c = one_tree (λ (limit : ℕ). (inner_law limit).range) refl
