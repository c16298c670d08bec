-- One level of a type or a statement: its marks are made of those of the types and statements that stand in it, and so
-- is its depth.
use Rattle.std.proofs.Common.{◌≡◌, ℕ, suc, max, List, [], ◌∷◌, ◌++◌, Option, Some, None, map, refl, ◌∙◌}
use Rattle.std.specs.List.{flat_map}
use Rattle.std.specs.Prelude.{option_map}
use Rattle.dbpl_tree.proofs.Folds.{statement-out, statement-roll, type-out, type-roll}
use Rattle.dbpl_tree.proofs.Mapped.{greatest-map, marks-map}
use Rattle.dbpl_tree.specs.Depths.{expr_depth, factor_depth, greatest, option_depth, range_depth}
use Rattle.dbpl_tree.specs.Expressions.{expr_marks}
use Rattle.dbpl_tree.specs.Factors.{factor_marks, range_marks}
use Rattle.dbpl_tree.specs.Maps.{case_with, elsif_with, fields_with, statement_with, statements_with, type_with}
use Rattle.dbpl_tree.specs.Marks.{Mark, Of, Before, further_marks}
use Rattle.dbpl_tree.specs.Names.{ident_marks}
use Rattle.dbpl_tree.specs.Statements.{case_marks, else_marks, elsif_marks, label_marks, statement_level, statement_marks, statements_marks, step_marks}
use Rattle.dbpl_tree.specs.TypeTrees.{fields_marks, type_level, type_marks}
use Rattle.dbpl_tree.specs.UnitDepths.{case_depth, elsif_depth, fields_depth, label_depth, statement_depth, statement_depth_level, statements_depth, type_depth, type_depth_level}
use Rattle.dbpl_tree.specs.Words.{bar, becomes_sign, colon, comma, semicolon, word_array, word_case, word_do, word_each, word_else, word_elsif, word_end, word_for, word_if, word_in, word_loop, word_of, word_record, word_repeat, word_then, word_to, word_until, word_while}
use Rattle.dbpl_tree.specs.declared.case.CaseOf.{CaseOf}
use Rattle.dbpl_tree.specs.declared.case.CaseOf.TheVariants as cases
use Rattle.dbpl_tree.specs.declared.statement.ElsifOf.{ElsifOf}
use Rattle.dbpl_tree.specs.declared.statement.Statement.{Statement, Statement-F, out-Statement, roll-Statement}
use Rattle.dbpl_tree.specs.declared.statement.Statement.TheOpen as kinds
use Rattle.dbpl_tree.specs.declared.statements.StatementsOf.{StatementsOf}
use Rattle.dbpl_tree.specs.declared.type_tree.FieldsOf.{FieldsOf}
use Rattle.dbpl_tree.specs.declared.type_tree.FieldsOf.TheVariants as fields
use Rattle.dbpl_tree.specs.declared.type_tree.TypeTree.{TypeTree, TypeTree-F, out-TypeTree, roll-TypeTree}
use Rattle.dbpl_tree.specs.declared.type_tree.TypeTree.TheOpen as types

abbrev same : List Mark → List Mark
same marks = marks

abbrev same_depth : ℕ → ℕ
same_depth n = n

-- ---- types

fields-with : (f : FieldsOf TypeTree) → fields_marks same (fields_with type_marks f) ≡ fields_marks type_marks f
fields-with (fields.Empty place) = refl
fields-with (fields.Fields names t) = refl

type_level-with :
    (x : TypeTree-F TypeTree) → type_level same (type_with type_marks x) ≡ type_level type_marks x
type_level-with (types.Named q) = refl
type_level-with (types.Enumeration place names) = refl
type_level-with (types.Subrange place low high) = refl
type_level-with (types.Array place index others element) =
    λ i. Before place ∷ Of word_array ∷
    (type_marks index ++
    (marks-map (λ t. Of comma ∷ same t) type_marks (λ t. Of comma ∷ type_marks t) (λ t. refl) others i ++
    Of word_of ∷ type_marks element))
type_level-with (types.Record place first others) =
    λ i. Before place ∷ Of word_record ∷
    (fields-with first i ++
    (marks-map (λ f. Of semicolon ∷ fields_marks same f) (fields_with type_marks)
    (λ f. Of semicolon ∷ fields_marks type_marks f) (λ f j. Of semicolon ∷ fields-with f j) others i ++
    Of word_end ∷ []))
type_level-with (types.Relation place keys q) = refl

pub type_marks-out : (t : TypeTree) → type_marks t ≡ type_level type_marks (out-TypeTree t)
type_marks-out t = type-out (type_level same) t ∙ type_level-with (out-TypeTree t)

pub type_marks-roll : (x : TypeTree-F TypeTree) → type_marks (roll-TypeTree x) ≡ type_level type_marks x
type_marks-roll x = type-roll (type_level same) x ∙ type_level-with x

fields-depth-with :
    (f : FieldsOf TypeTree) → fields_depth same_depth (fields_with type_depth f) ≡ fields_depth type_depth f
fields-depth-with (fields.Empty place) = refl
fields-depth-with (fields.Fields names t) = refl

type_depth_level-with :
    (x : TypeTree-F TypeTree) →
    type_depth_level same_depth (type_with type_depth x) ≡ type_depth_level type_depth x
type_depth_level-with (types.Named q) = refl
type_depth_level-with (types.Enumeration place names) = refl
type_depth_level-with (types.Subrange place low high) = refl
type_depth_level-with (types.Array place index others element) =
    λ i. suc (max (type_depth index)
    (max (greatest-map same_depth type_depth type_depth (λ t. refl) others i) (type_depth element)))
type_depth_level-with (types.Record place first others) =
    λ i. suc (max (fields-depth-with first i)
    (greatest-map (fields_depth same_depth) (fields_with type_depth) (fields_depth type_depth) fields-depth-with others i))
type_depth_level-with (types.Relation place keys q) = refl

pub type_depth-out : (t : TypeTree) → type_depth t ≡ type_depth_level type_depth (out-TypeTree t)
type_depth-out t = type-out (type_depth_level same_depth) t ∙ type_depth_level-with (out-TypeTree t)

pub type_depth-roll : (x : TypeTree-F TypeTree) → type_depth (roll-TypeTree x) ≡ type_depth_level type_depth x
type_depth-roll x = type-roll (type_depth_level same_depth) x ∙ type_depth_level-with x

-- ---- statements

statements-with :
    (ss : StatementsOf Statement) →
    statements_marks same (statements_with statement_marks ss) ≡ statements_marks statement_marks ss
statements-with ss =
    λ i. statement_marks ss.first ++
    marks-map (λ s. Of semicolon ∷ same s) statement_marks (λ s. Of semicolon ∷ statement_marks s) (λ s. refl) ss.others i

elsifs-with :
    (elsifs : List (ElsifOf Statement)) →
    flat_map (elsif_marks same) (map (elsif_with statement_marks) elsifs) ≡ flat_map (elsif_marks statement_marks) elsifs
elsifs-with elsifs =
    marks-map (elsif_marks same) (elsif_with statement_marks) (elsif_marks statement_marks)
    (λ x i. Of word_elsif ∷ (expr_marks factor_marks x.condition ++ Of word_then ∷ statements-with x.body i)) elsifs

else-with :
    (body : Option (StatementsOf Statement)) →
    else_marks same (option_map (statements_with statement_marks) body) ≡ else_marks statement_marks body
else-with None = refl
else-with (Some ss) = λ i. Of word_else ∷ statements-with ss i

case-with : (c : CaseOf Statement) → case_marks same (case_with statement_marks c) ≡ case_marks statement_marks c
case-with (cases.Empty place) = refl
case-with (cases.Labelled first others body) =
    λ i. label_marks first ++ (further_marks comma label_marks others ++ Of colon ∷ statements-with body i)

statement_level-with :
    (x : Statement-F Statement) →
    statement_level same (statement_with statement_marks x) ≡ statement_level statement_marks x
statement_level-with (kinds.Empty place) = refl
statement_level-with (kinds.Change target place operator e) = refl
statement_level-with (kinds.Call d a) = refl
statement_level-with (kinds.If place e body elsifs otherwise) =
    λ i. Before place ∷ Of word_if ∷
    (expr_marks factor_marks e ++ Of word_then ∷
    (statements-with body i ++ (elsifs-with elsifs i ++ (else-with otherwise i ++ Of word_end ∷ []))))
statement_level-with (kinds.Case place e first others otherwise) =
    λ i. Before place ∷ Of word_case ∷
    (expr_marks factor_marks e ++ Of word_of ∷
    (case-with first i ++
    (marks-map (λ c. Of bar ∷ case_marks same c) (case_with statement_marks) (λ c. Of bar ∷ case_marks statement_marks c)
    (λ c j. Of bar ∷ case-with c j) others i ++
    (else-with otherwise i ++ Of word_end ∷ []))))
statement_level-with (kinds.While place e body) =
    λ i. Before place ∷ Of word_while ∷
    (expr_marks factor_marks e ++ Of word_do ∷ (statements-with body i ++ Of word_end ∷ []))
statement_level-with (kinds.Repeat place body e) =
    λ i. Before place ∷ Of word_repeat ∷ (statements-with body i ++ Of word_until ∷ expr_marks factor_marks e)
statement_level-with (kinds.Loop place body) =
    λ i. Before place ∷ Of word_loop ∷ (statements-with body i ++ Of word_end ∷ [])
statement_level-with (kinds.Exit place) = refl
statement_level-with (kinds.Return place e) = refl
statement_level-with (kinds.For place x first last step body) =
    λ i. Before place ∷ Of word_for ∷
    (ident_marks x ++ Of becomes_sign ∷
    (expr_marks factor_marks first ++ Of word_to ∷
    (expr_marks factor_marks last ++
    (step_marks step ++ Of word_do ∷ (statements-with body i ++ Of word_end ∷ [])))))
statement_level-with (kinds.ForEach place each x r e body) =
    λ i. Before place ∷ Of word_for ∷ Before each ∷ Of word_each ∷
    (ident_marks x ++ Of word_in ∷
    (range_marks r ++ Of colon ∷
    (expr_marks factor_marks e ++ Of word_do ∷ (statements-with body i ++ Of word_end ∷ []))))

pub statement_marks-out : (s : Statement) → statement_marks s ≡ statement_level statement_marks (out-Statement s)
statement_marks-out s = statement-out (statement_level same) s ∙ statement_level-with (out-Statement s)

pub statement_marks-roll :
    (x : Statement-F Statement) → statement_marks (roll-Statement x) ≡ statement_level statement_marks x
statement_marks-roll x = statement-roll (statement_level same) x ∙ statement_level-with x

-- ---- depths of statements

statements-depth-with :
    (ss : StatementsOf Statement) →
    statements_depth same_depth (statements_with statement_depth ss) ≡ statements_depth statement_depth ss
statements-depth-with ss =
    λ i. suc (max (statement_depth ss.first)
    (greatest-map same_depth statement_depth statement_depth (λ s. refl) ss.others i))

elsifs-depth-with :
    (elsifs : List (ElsifOf Statement)) →
    greatest (elsif_depth same_depth) (map (elsif_with statement_depth) elsifs)
    ≡ greatest (elsif_depth statement_depth) elsifs
elsifs-depth-with elsifs =
    greatest-map (elsif_depth same_depth) (elsif_with statement_depth) (elsif_depth statement_depth)
    (λ x i. max (expr_depth factor_depth x.condition) (statements-depth-with x.body i)) elsifs

else-depth-with :
    (body : Option (StatementsOf Statement)) →
    option_depth (statements_depth same_depth) (option_map (statements_with statement_depth) body)
    ≡ option_depth (statements_depth statement_depth) body
else-depth-with None = refl
else-depth-with (Some ss) = statements-depth-with ss

case-depth-with : (c : CaseOf Statement) → case_depth same_depth (case_with statement_depth c) ≡ case_depth statement_depth c
case-depth-with (cases.Empty place) = refl
case-depth-with (cases.Labelled first others body) =
    λ i. max (label_depth first) (max (greatest label_depth others) (statements-depth-with body i))

statement_depth_level-with :
    (x : Statement-F Statement) →
    statement_depth_level same_depth (statement_with statement_depth x)
    ≡ statement_depth_level statement_depth x
statement_depth_level-with (kinds.Empty place) = refl
statement_depth_level-with (kinds.Change target place operator e) = refl
statement_depth_level-with (kinds.Call d a) = refl
statement_depth_level-with (kinds.If place e body elsifs otherwise) =
    λ i. max (expr_depth factor_depth e)
    (max (statements-depth-with body i) (max (elsifs-depth-with elsifs i) (else-depth-with otherwise i)))
statement_depth_level-with (kinds.Case place e first others otherwise) =
    λ i. max (expr_depth factor_depth e)
    (max (case-depth-with first i)
    (max
    (greatest-map (case_depth same_depth) (case_with statement_depth) (case_depth statement_depth) case-depth-with others i)
    (else-depth-with otherwise i)))
statement_depth_level-with (kinds.While place e body) =
    λ i. max (expr_depth factor_depth e) (statements-depth-with body i)
statement_depth_level-with (kinds.Repeat place body e) =
    λ i. max (statements-depth-with body i) (expr_depth factor_depth e)
statement_depth_level-with (kinds.Loop place body) = statements-depth-with body
statement_depth_level-with (kinds.Exit place) = refl
statement_depth_level-with (kinds.Return place e) = refl
statement_depth_level-with (kinds.For place x first last step body) =
    λ i. max (expr_depth factor_depth first)
    (max (expr_depth factor_depth last)
    (max (option_depth (expr_depth factor_depth) step) (statements-depth-with body i)))
statement_depth_level-with (kinds.ForEach place each x r e body) =
    λ i. max (range_depth r) (max (expr_depth factor_depth e) (statements-depth-with body i))

pub statement_depth-out : (s : Statement) → statement_depth s ≡ statement_depth_level statement_depth (out-Statement s)
statement_depth-out s =
    statement-out (statement_depth_level same_depth) s ∙ statement_depth_level-with (out-Statement s)

pub statement_depth-roll :
    (x : Statement-F Statement) → statement_depth (roll-Statement x) ≡ statement_depth_level statement_depth x
statement_depth-roll x = statement-roll (statement_depth_level same_depth) x ∙ statement_depth_level-with x
