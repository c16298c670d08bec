-- How deep phrases stand inside one another. Expressions, types, ranges, lists of statements and negations count.
-- The depth of a phrase is the greatest number of phrases that count and stand inside one another in it; if it counts
-- itself, it is the outermost.
use Rattle.std.specs.Prelude.{ℕ, suc, max, List, [], ◌∷◌, Option, Some, None}
use Rattle.dbpl_tree.specs.declared.aggregate.Aggregate.{Aggregate, Aggregate-F, fold-Aggregate}
use Rattle.dbpl_tree.specs.declared.designator.ArgumentsOf.{ArgumentsOf}
use Rattle.dbpl_tree.specs.declared.designator.DesignatorOf.{DesignatorOf}
use Rattle.dbpl_tree.specs.declared.designator.PartOf.{PartOf}
use Rattle.dbpl_tree.specs.declared.designator.PartOf.TheVariants as parts
use Rattle.dbpl_tree.specs.declared.each.Each.{Each, Each-F, fold-Each}
use Rattle.dbpl_tree.specs.declared.element.Element.{Element, Element-F, fold-Element}
use Rattle.dbpl_tree.specs.declared.element.Element.TheOpen as phrases
use Rattle.dbpl_tree.specs.declared.expr.ComparedOf.{ComparedOf}
use Rattle.dbpl_tree.specs.declared.expr.ExprOf.{ExprOf}
use Rattle.dbpl_tree.specs.declared.expr.ExprsOf.{ExprsOf}
use Rattle.dbpl_tree.specs.declared.factor.Factor.{Factor, Factor-F, fold-Factor}
use Rattle.dbpl_tree.specs.declared.range.Range.{Range, Range-F, fold-Range}
use Rattle.dbpl_tree.specs.declared.simple.AddedOf.{AddedOf}
use Rattle.dbpl_tree.specs.declared.simple.SimpleOf.{SimpleOf}
use Rattle.dbpl_tree.specs.declared.term.MultipliedOf.{MultipliedOf}
use Rattle.dbpl_tree.specs.declared.term.TermOf.{TermOf}

-- of phrases that stand side by side
abbrev pub greatest : {A : Type 0} → (A → ℕ) → List A → ℕ
greatest depth [] = 0
greatest depth (x ∷ xs) = max (depth x) (greatest depth xs)

-- of a phrase that may be absent
abbrev pub option_depth : {A : Type 0} → (A → ℕ) → Option A → ℕ
option_depth depth None = 0
option_depth depth (Some x) = depth x

-- ---- expressions: `n` gives the depth of a factor

abbrev pub multiplied_depth : {F : Type 0} → (F → ℕ) → MultipliedOf F → ℕ
multiplied_depth n m = n m.factor

abbrev pub term_depth : {F : Type 0} → (F → ℕ) → TermOf F → ℕ
term_depth n t = max (n t.first) (greatest (multiplied_depth n) t.others)

abbrev pub added_depth : {F : Type 0} → (F → ℕ) → AddedOf F → ℕ
added_depth n a = term_depth n a.term

abbrev pub simple_depth : {F : Type 0} → (F → ℕ) → SimpleOf F → ℕ
simple_depth n s = max (term_depth n s.first) (greatest (added_depth n) s.others)

abbrev pub compared_depth : {F : Type 0} → (F → ℕ) → ComparedOf F → ℕ
compared_depth n c = simple_depth n c.right

-- counts itself
abbrev pub expr_depth : {F : Type 0} → (F → ℕ) → ExprOf F → ℕ
expr_depth n e = suc (max (simple_depth n e.left) (option_depth (compared_depth n) e.right))

abbrev pub exprs_depth : {F : Type 0} → (F → ℕ) → ExprsOf F → ℕ
exprs_depth n es = max (expr_depth n es.first) (greatest (expr_depth n) es.others)

abbrev pub part_depth : {F : Type 0} → (F → ℕ) → PartOf F → ℕ
part_depth n (parts.Field x) = 0
part_depth n (parts.Subscripts place es) = exprs_depth n es

abbrev pub designator_depth : {F : Type 0} → (F → ℕ) → DesignatorOf F → ℕ
designator_depth n d = greatest (part_depth n) d.parts

abbrev pub arguments_depth : {F : Type 0} → (F → ℕ) → ArgumentsOf F → ℕ
arguments_depth n a = option_depth (exprs_depth n) a.exprs

-- ---- factors and what stands in them

-- what gives the depth of an element, a factor, a range, an aggregate and an EACH, whatever they are held as
pub record Depth (E F R A C : Type 0) : Type 0 where
  pub element : E → ℕ
  pub factor : F → ℕ
  pub range : R → ℕ
  pub aggregate : A → ℕ
  pub each : C → ℕ

-- a negation counts itself
abbrev pub factor_depth_level : {E F R A C : Type 0} → Depth E F R A C → Factor-F E F R A C → ℕ
factor_depth_level d (phrases.Number place n) = 0
factor_depth_level d (phrases.CharCode place n) = 0
factor_depth_level d (phrases.Text place text) = 0
factor_depth_level d (phrases.Factor::Aggregate a) = d.aggregate a
factor_depth_level d (phrases.Factor::Designator x a) =
    max (designator_depth d.factor x) (option_depth (arguments_depth d.factor) a)
factor_depth_level d (phrases.Parenthesized place e) = expr_depth d.factor e
factor_depth_level d (phrases.Not place operator f) = suc (d.factor f)
factor_depth_level d (phrases.Quantified place quantifier x r e) = max (d.range r) (expr_depth d.factor e)

abbrev pub aggregate_depth_level : {E F R A C : Type 0} → Depth E F R A C → Aggregate-F E F R A C → ℕ
aggregate_depth_level d a = greatest d.element a.elements

abbrev pub element_depth_level : {E F R A C : Type 0} → Depth E F R A C → Element-F E F R A C → ℕ
element_depth_level d (phrases.Each c e) = max (d.each c) (expr_depth d.factor e)
element_depth_level d (phrases.Plain e) = expr_depth d.factor e
element_depth_level d (phrases.Of target c cs e) =
    max (expr_depth d.factor target) (max (d.each c) (max (greatest d.each cs) (expr_depth d.factor e)))

abbrev pub each_depth_level : {E F R A C : Type 0} → Depth E F R A C → Each-F E F R A C → ℕ
each_depth_level d c = d.range c.range

-- counts itself
abbrev pub range_depth_level : {E F R A C : Type 0} → Depth E F R A C → Range-F E F R A C → ℕ
range_depth_level d (phrases.Range::Designator x) = suc (designator_depth d.factor x)
range_depth_level d (phrases.Range::Aggregate a) = suc (d.aggregate a)

-- for a level whose parts are depths already: each as it is
abbrev pub counted : Depth ℕ ℕ ℕ ℕ ℕ
counted = record {
  element = λ depth. depth;
  factor = λ depth. depth;
  range = λ depth. depth;
  aggregate = λ depth. depth;
  each = λ depth. depth;
}

abbrev pub factor_depth : Factor → ℕ
factor_depth f =
    fold-Factor ℕ ℕ ℕ ℕ ℕ (element_depth_level counted) (factor_depth_level counted) (range_depth_level counted)
    (aggregate_depth_level counted) (each_depth_level counted) f

abbrev pub aggregate_depth : Aggregate → ℕ
aggregate_depth a =
    fold-Aggregate ℕ ℕ ℕ ℕ ℕ (element_depth_level counted) (factor_depth_level counted) (range_depth_level counted)
    (aggregate_depth_level counted) (each_depth_level counted) a

abbrev pub element_depth : Element → ℕ
element_depth e =
    fold-Element ℕ ℕ ℕ ℕ ℕ (element_depth_level counted) (factor_depth_level counted) (range_depth_level counted)
    (aggregate_depth_level counted) (each_depth_level counted) e

abbrev pub each_depth : Each → ℕ
each_depth c =
    fold-Each ℕ ℕ ℕ ℕ ℕ (element_depth_level counted) (factor_depth_level counted) (range_depth_level counted)
    (aggregate_depth_level counted) (each_depth_level counted) c

abbrev pub range_depth : Range → ℕ
range_depth r =
    fold-Range ℕ ℕ ℕ ℕ ℕ (element_depth_level counted) (factor_depth_level counted) (range_depth_level counted)
    (aggregate_depth_level counted) (each_depth_level counted) r

-- what gives the depth of the phrases of a tree
abbrev pub depths : Depth Element Factor Range Aggregate Each
depths = record {
  element = element_depth;
  factor = factor_depth;
  range = range_depth;
  aggregate = aggregate_depth;
  each = each_depth;
}
