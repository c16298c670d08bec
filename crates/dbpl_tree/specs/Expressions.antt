-- The marks of expressions and what they are made of, down to factors: `w` gives those of a factor.
use Rattle.std.specs.Prelude.{List, [], ◌∷◌, ◌++◌}
use Rattle.std.specs.List.{flat_map}
use Rattle.dbpl_tree.specs.Marks.{Mark, Of, Before, further_marks, option_marks}
use Rattle.dbpl_tree.specs.Names.{ident_marks}
use Rattle.dbpl_tree.specs.Operators.{adding_lexeme, multiplying_lexeme, relation_lexeme, sign_lexeme}
use Rattle.dbpl_tree.specs.Words.{comma, full_stop, left_bracket, left_parenthesis, right_bracket, right_parenthesis}
use Rattle.dbpl_tree.specs.declared.designator.ArgumentsOf.{ArgumentsOf}
use Rattle.dbpl_tree.specs.declared.designator.DesignatorOf.{DesignatorOf}
use Rattle.dbpl_tree.specs.declared.designator.PartOf.{PartOf}
use Rattle.dbpl_tree.specs.declared.designator.PartOf.TheVariants as parts
use Rattle.dbpl_tree.specs.declared.expr.ComparedOf.{ComparedOf}
use Rattle.dbpl_tree.specs.declared.expr.ExprOf.{ExprOf}
use Rattle.dbpl_tree.specs.declared.expr.ExprsOf.{ExprsOf}
use Rattle.dbpl_tree.specs.declared.simple.AddedOf.{AddedOf}
use Rattle.dbpl_tree.specs.declared.simple.SimpleOf.{SimpleOf}
use Rattle.dbpl_tree.specs.declared.term.MultipliedOf.{MultipliedOf}
use Rattle.dbpl_tree.specs.declared.term.TermOf.{TermOf}

abbrev pub multiplied_marks : {F : Type 0} → (F → List Mark) → MultipliedOf F → List Mark
multiplied_marks w m = Before m.place ∷ Of (multiplying_lexeme m.operator) ∷ w m.factor

abbrev pub term_marks : {F : Type 0} → (F → List Mark) → TermOf F → List Mark
term_marks w t = Before t.place ∷ (w t.first ++ flat_map (multiplied_marks w) t.others)

abbrev pub added_marks : {F : Type 0} → (F → List Mark) → AddedOf F → List Mark
added_marks w a = Before a.place ∷ Of (adding_lexeme a.operator) ∷ term_marks w a.term

abbrev pub simple_marks : {F : Type 0} → (F → List Mark) → SimpleOf F → List Mark
simple_marks w s =
    Before s.place ∷
    (option_marks (λ sign. Of (sign_lexeme sign) ∷ []) s.sign ++
    (term_marks w s.first ++ flat_map (added_marks w) s.others))

abbrev pub compared_marks : {F : Type 0} → (F → List Mark) → ComparedOf F → List Mark
compared_marks w c = Before c.place ∷ Of (relation_lexeme c.relation) ∷ simple_marks w c.right

abbrev pub expr_marks : {F : Type 0} → (F → List Mark) → ExprOf F → List Mark
expr_marks w e = Before e.place ∷ (simple_marks w e.left ++ option_marks (compared_marks w) e.right)

abbrev pub exprs_marks : {F : Type 0} → (F → List Mark) → ExprsOf F → List Mark
exprs_marks w es = expr_marks w es.first ++ further_marks comma (expr_marks w) es.others

abbrev pub part_marks : {F : Type 0} → (F → List Mark) → PartOf F → List Mark
part_marks w (parts.Field x) = Of full_stop ∷ ident_marks x
part_marks w (parts.Subscripts place es) =
    Before place ∷ Of left_bracket ∷ (exprs_marks w es ++ Of right_bracket ∷ [])

abbrev pub designator_marks : {F : Type 0} → (F → List Mark) → DesignatorOf F → List Mark
designator_marks w d = ident_marks d.head ++ flat_map (part_marks w) d.parts

abbrev pub arguments_marks : {F : Type 0} → (F → List Mark) → ArgumentsOf F → List Mark
arguments_marks w a =
    Before a.place ∷ Of left_parenthesis ∷ (option_marks (exprs_marks w) a.exprs ++ Of right_parenthesis ∷ [])
