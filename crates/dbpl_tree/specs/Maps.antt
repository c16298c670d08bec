-- A phrase with other things in place of the phrases in it: what makes them of these comes first.
use Rattle.std.specs.Prelude.{map, option_map}
use Rattle.dbpl_tree.specs.declared.aggregate.Aggregate.{Aggregate-F}
use Rattle.dbpl_tree.specs.declared.case.CaseOf.{CaseOf}
use Rattle.dbpl_tree.specs.declared.case.CaseOf.TheVariants as cases
use Rattle.dbpl_tree.specs.declared.designator.ArgumentsOf.{ArgumentsOf}
use Rattle.dbpl_tree.specs.declared.designator.DesignatorOf.{DesignatorOf}
use Rattle.dbpl_tree.specs.declared.designator.PartOf.{PartOf}
use Rattle.dbpl_tree.specs.declared.designator.PartOf.TheVariants as parts
use Rattle.dbpl_tree.specs.declared.each.Each.{Each-F}
use Rattle.dbpl_tree.specs.declared.element.Element.{Element-F}
use Rattle.dbpl_tree.specs.declared.element.Element.TheOpen as phrases
use Rattle.dbpl_tree.specs.declared.expr.ComparedOf.{ComparedOf}
use Rattle.dbpl_tree.specs.declared.expr.ExprOf.{ExprOf}
use Rattle.dbpl_tree.specs.declared.expr.ExprsOf.{ExprsOf}
use Rattle.dbpl_tree.specs.declared.factor.Factor.{Factor-F}
use Rattle.dbpl_tree.specs.declared.range.Range.{Range-F}
use Rattle.dbpl_tree.specs.declared.simple.AddedOf.{AddedOf}
use Rattle.dbpl_tree.specs.declared.simple.SimpleOf.{SimpleOf}
use Rattle.dbpl_tree.specs.declared.statement.ElsifOf.{ElsifOf}
use Rattle.dbpl_tree.specs.declared.statement.Statement.{Statement-F}
use Rattle.dbpl_tree.specs.declared.statement.Statement.TheOpen as kinds
use Rattle.dbpl_tree.specs.declared.statements.StatementsOf.{StatementsOf}
use Rattle.dbpl_tree.specs.declared.term.MultipliedOf.{MultipliedOf}
use Rattle.dbpl_tree.specs.declared.term.TermOf.{TermOf}
use Rattle.dbpl_tree.specs.declared.type_tree.FieldsOf.{FieldsOf}
use Rattle.dbpl_tree.specs.declared.type_tree.FieldsOf.TheVariants as fields
use Rattle.dbpl_tree.specs.declared.type_tree.TypeTree.{TypeTree-F}
use Rattle.dbpl_tree.specs.declared.type_tree.TypeTree.TheOpen as types

-- ---- expressions, with other things in place of factors

abbrev pub multiplied_with : {F W : Type 0} → (F → W) → MultipliedOf F → MultipliedOf W
multiplied_with w m = record { place = m.place; operator = m.operator; factor = w m.factor }

abbrev pub term_with : {F W : Type 0} → (F → W) → TermOf F → TermOf W
term_with w t = record { place = t.place; first = w t.first; others = map (multiplied_with w) t.others }

abbrev pub added_with : {F W : Type 0} → (F → W) → AddedOf F → AddedOf W
added_with w a = record { place = a.place; operator = a.operator; term = term_with w a.term }

abbrev pub simple_with : {F W : Type 0} → (F → W) → SimpleOf F → SimpleOf W
simple_with w s =
    record { place = s.place; sign = s.sign; first = term_with w s.first; others = map (added_with w) s.others }

abbrev pub compared_with : {F W : Type 0} → (F → W) → ComparedOf F → ComparedOf W
compared_with w c = record { place = c.place; relation = c.relation; right = simple_with w c.right }

abbrev pub expr_with : {F W : Type 0} → (F → W) → ExprOf F → ExprOf W
expr_with w e = record { place = e.place; left = simple_with w e.left; right = option_map (compared_with w) e.right }

abbrev pub exprs_with : {F W : Type 0} → (F → W) → ExprsOf F → ExprsOf W
exprs_with w es = record { first = expr_with w es.first; others = map (expr_with w) es.others }

abbrev pub part_with : {F W : Type 0} → (F → W) → PartOf F → PartOf W
part_with w (parts.Field x) = parts.Field x
part_with w (parts.Subscripts place es) = parts.Subscripts place (exprs_with w es)

abbrev pub designator_with : {F W : Type 0} → (F → W) → DesignatorOf F → DesignatorOf W
designator_with w d = record { head = d.head; parts = map (part_with w) d.parts }

abbrev pub arguments_with : {F W : Type 0} → (F → W) → ArgumentsOf F → ArgumentsOf W
arguments_with w a = record { place = a.place; exprs = option_map (exprs_with w) a.exprs }

-- ---- factors and what stands in them

-- what makes other things of an element, a factor, a range, an aggregate and an EACH
pub record Making (E F R A C V W X Y Z : Type 0) : Type 0 where
  pub element : E → V
  pub factor : F → W
  pub range : R → X
  pub aggregate : A → Y
  pub each : C → Z

abbrev pub factor_with : {E F R A C V W X Y Z : Type 0} → Making E F R A C V W X Y Z → Factor-F E F R A C → Factor-F V W X Y Z
factor_with m (phrases.Number place n) = phrases.Number place n
factor_with m (phrases.CharCode place n) = phrases.CharCode place n
factor_with m (phrases.Text place text) = phrases.Text place text
factor_with m (phrases.Factor::Aggregate a) = phrases.Factor::Aggregate (m.aggregate a)
factor_with m (phrases.Factor::Designator d a) =
    phrases.Factor::Designator (designator_with m.factor d) (option_map (arguments_with m.factor) a)
factor_with m (phrases.Parenthesized place e) = phrases.Parenthesized place (expr_with m.factor e)
factor_with m (phrases.Not place operator f) = phrases.Not place operator (m.factor f)
factor_with m (phrases.Quantified place quantifier x r e) =
    phrases.Quantified place quantifier x (m.range r) (expr_with m.factor e)

abbrev pub range_with : {E F R A C V W X Y Z : Type 0} → Making E F R A C V W X Y Z → Range-F E F R A C → Range-F V W X Y Z
range_with m (phrases.Range::Designator d) = phrases.Range::Designator (designator_with m.factor d)
range_with m (phrases.Range::Aggregate a) = phrases.Range::Aggregate (m.aggregate a)

abbrev pub aggregate_with :
    {E F R A C V W X Y Z : Type 0} → Making E F R A C V W X Y Z → Aggregate-F E F R A C → Aggregate-F V W X Y Z
aggregate_with m a = record { kind = a.kind; elements = map m.element a.elements }

abbrev pub each_with : {E F R A C V W X Y Z : Type 0} → Making E F R A C V W X Y Z → Each-F E F R A C → Each-F V W X Y Z
each_with m c = record { place = c.place; variable = c.variable; range = m.range c.range }

abbrev pub element_with :
    {E F R A C V W X Y Z : Type 0} → Making E F R A C V W X Y Z → Element-F E F R A C → Element-F V W X Y Z
element_with m (phrases.Each c e) = phrases.Each (m.each c) (expr_with m.factor e)
element_with m (phrases.Plain e) = phrases.Plain (expr_with m.factor e)
element_with m (phrases.Of target c cs e) =
    phrases.Of (expr_with m.factor target) (m.each c) (map m.each cs) (expr_with m.factor e)

-- ---- types

abbrev pub fields_with : {T U : Type 0} → (T → U) → FieldsOf T → FieldsOf U
fields_with w (fields.Empty place) = fields.Empty place
fields_with w (fields.Fields names t) = fields.Fields names (w t)

abbrev pub type_with : {T U : Type 0} → (T → U) → TypeTree-F T → TypeTree-F U
type_with w (types.Named q) = types.Named q
type_with w (types.Enumeration place names) = types.Enumeration place names
type_with w (types.Subrange place low high) = types.Subrange place low high
type_with w (types.Array place index others element) = types.Array place (w index) (map w others) (w element)
type_with w (types.Record place first others) = types.Record place (fields_with w first) (map (fields_with w) others)
type_with w (types.Relation place keys q) = types.Relation place keys q

-- ---- statements

abbrev pub statements_with : {S U : Type 0} → (S → U) → StatementsOf S → StatementsOf U
statements_with w ss = record { first = w ss.first; others = map w ss.others }

abbrev pub elsif_with : {S U : Type 0} → (S → U) → ElsifOf S → ElsifOf U
elsif_with w x = record { condition = x.condition; body = statements_with w x.body }

abbrev pub case_with : {S U : Type 0} → (S → U) → CaseOf S → CaseOf U
case_with w (cases.Empty place) = cases.Empty place
case_with w (cases.Labelled first others body) = cases.Labelled first others (statements_with w body)

abbrev pub statement_with : {S U : Type 0} → (S → U) → Statement-F S → Statement-F U
statement_with w (kinds.Empty place) = kinds.Empty place
statement_with w (kinds.Change target place operator e) = kinds.Change target place operator e
statement_with w (kinds.Call d a) = kinds.Call d a
statement_with w (kinds.If place e body elsifs otherwise) =
    kinds.If place e (statements_with w body) (map (elsif_with w) elsifs) (option_map (statements_with w) otherwise)
statement_with w (kinds.Case place e first others otherwise) =
    kinds.Case place e (case_with w first) (map (case_with w) others) (option_map (statements_with w) otherwise)
statement_with w (kinds.While place e body) = kinds.While place e (statements_with w body)
statement_with w (kinds.Repeat place body e) = kinds.Repeat place (statements_with w body) e
statement_with w (kinds.Loop place body) = kinds.Loop place (statements_with w body)
statement_with w (kinds.Exit place) = kinds.Exit place
statement_with w (kinds.Return place e) = kinds.Return place e
statement_with w (kinds.For place x first last step body) = kinds.For place x first last step (statements_with w body)
statement_with w (kinds.ForEach place each x r e body) = kinds.ForEach place each x r e (statements_with w body)
