-- The marks and the depth of a phrase with other things in place of the factors in it are those by way of what makes them.
use Rattle.std.proofs.Common.{◌≡◌, ℕ, suc, max, List, [], ◌∷◌, ◌++◌, Option, Some, None, map, refl}
use Rattle.std.specs.List.{flat_map}
use Rattle.std.specs.Prelude.{option_map}
use Rattle.dbpl_tree.specs.Depths.{added_depth, arguments_depth, compared_depth, designator_depth, expr_depth, exprs_depth, greatest, multiplied_depth, option_depth, part_depth, simple_depth, term_depth}
use Rattle.dbpl_tree.specs.Expressions.{added_marks, arguments_marks, compared_marks, designator_marks, expr_marks, exprs_marks, multiplied_marks, part_marks, simple_marks, term_marks}
use Rattle.dbpl_tree.specs.Maps.{added_with, arguments_with, compared_with, designator_with, expr_with, exprs_with, multiplied_with, part_with, simple_with, term_with}
use Rattle.dbpl_tree.specs.Marks.{Mark, Of, Before, option_marks}
use Rattle.dbpl_tree.specs.Names.{ident_marks}
use Rattle.dbpl_tree.specs.Operators.{adding_lexeme, relation_lexeme, sign_lexeme}
use Rattle.dbpl_tree.specs.Words.{comma, left_bracket, left_parenthesis, right_bracket, right_parenthesis}
use Rattle.dbpl_tree.specs.declared.designator.ArgumentsOf.{ArgumentsOf}
use Rattle.dbpl_tree.specs.declared.designator.DesignatorOf.{DesignatorOf}
use Rattle.dbpl_tree.specs.declared.designator.PartOf.{PartOf}
use Rattle.dbpl_tree.specs.declared.designator.PartOf.TheVariants as parts
use Rattle.dbpl_tree.specs.declared.expr.ComparedOf.{ComparedOf}
use Rattle.dbpl_tree.specs.declared.expr.ExprOf.{ExprOf}
use Rattle.dbpl_tree.specs.declared.expr.ExprsOf.{ExprsOf}
use Rattle.dbpl_tree.specs.declared.simple.AddedOf.{AddedOf}
use Rattle.dbpl_tree.specs.declared.simple.SimpleOf.{SimpleOf}
use Rattle.dbpl_tree.specs.declared.term.TermOf.{TermOf}

-- ---- lists

pub marks-map :
    {A B : Type 0} (f : B → List Mark) (g : A → B) (h : A → List Mark) → ((x : A) → f (g x) ≡ h x) → (xs : List A) →
    flat_map f (map g xs) ≡ flat_map h xs
marks-map f g h e [] = refl
marks-map f g h e (x ∷ xs) = λ i. e x i ++ marks-map f g h e xs i

pub greatest-map :
    {A B : Type 0} (f : B → ℕ) (g : A → B) (h : A → ℕ) → ((x : A) → f (g x) ≡ h x) → (xs : List A) →
    greatest f (map g xs) ≡ greatest h xs
greatest-map f g h e [] = refl
greatest-map f g h e (x ∷ xs) = λ i. max (e x i) (greatest-map f g h e xs i)

module _ {F G : Type 0} (w : F → G) where
  -- ---- marks

  module _ (v : G → List Mark) where
    abbrev by_map : F → List Mark
    by_map x = v (w x)

    pub term-marks : (t : TermOf F) → term_marks v (term_with w t) ≡ term_marks by_map t
    term-marks t =
        λ i. Before t.place ∷
        (v (w t.first) ++
        marks-map (multiplied_marks v) (multiplied_with w) (multiplied_marks by_map) (λ m. refl) t.others i)

    pub added-marks : (a : AddedOf F) → added_marks v (added_with w a) ≡ added_marks by_map a
    added-marks a = λ i. Before a.place ∷ Of (adding_lexeme a.operator) ∷ term-marks a.term i

    pub simple-marks : (s : SimpleOf F) → simple_marks v (simple_with w s) ≡ simple_marks by_map s
    simple-marks s =
        λ i. Before s.place ∷
        (option_marks (λ sign. Of (sign_lexeme sign) ∷ []) s.sign ++
        (term-marks s.first i ++
        marks-map (added_marks v) (added_with w) (added_marks by_map) added-marks s.others i))

    right-marks :
        (right : Option (ComparedOf F)) →
        option_marks (compared_marks v) (option_map (compared_with w) right) ≡ option_marks (compared_marks by_map) right
    right-marks None = refl
    right-marks (Some c) = λ i. Before c.place ∷ Of (relation_lexeme c.relation) ∷ simple-marks c.right i

    pub expr-marks : (e : ExprOf F) → expr_marks v (expr_with w e) ≡ expr_marks by_map e
    expr-marks e = λ i. Before e.place ∷ (simple-marks e.left i ++ right-marks e.right i)

    pub exprs-marks : (es : ExprsOf F) → exprs_marks v (exprs_with w es) ≡ exprs_marks by_map es
    exprs-marks es =
        λ i. expr-marks es.first i ++
        marks-map (λ x. Of comma ∷ expr_marks v x) (expr_with w) (λ x. Of comma ∷ expr_marks by_map x)
        (λ x j. Of comma ∷ expr-marks x j) es.others i

    pub part-marks : (p : PartOf F) → part_marks v (part_with w p) ≡ part_marks by_map p
    part-marks (parts.Field x) = refl
    part-marks (parts.Subscripts place es) =
        λ i. Before place ∷ Of left_bracket ∷ (exprs-marks es i ++ Of right_bracket ∷ [])

    pub designator-marks : (d : DesignatorOf F) → designator_marks v (designator_with w d) ≡ designator_marks by_map d
    designator-marks d =
        λ i. ident_marks d.head ++ marks-map (part_marks v) (part_with w) (part_marks by_map) part-marks d.parts i

    listed-marks :
        (es : Option (ExprsOf F)) →
        option_marks (exprs_marks v) (option_map (exprs_with w) es) ≡ option_marks (exprs_marks by_map) es
    listed-marks None = refl
    listed-marks (Some es) = exprs-marks es

    pub arguments-marks :
        (a : Option (ArgumentsOf F)) →
        option_marks (arguments_marks v) (option_map (arguments_with w) a) ≡ option_marks (arguments_marks by_map) a
    arguments-marks None = refl
    arguments-marks (Some a) =
        λ i. Before a.place ∷ Of left_parenthesis ∷ (listed-marks a.exprs i ++ Of right_parenthesis ∷ [])

  -- ---- depths

  module _ (n : G → ℕ) where
    abbrev depth_by_map : F → ℕ
    depth_by_map x = n (w x)

    pub term-depth : (t : TermOf F) → term_depth n (term_with w t) ≡ term_depth depth_by_map t
    term-depth t =
        λ i. max (n (w t.first))
        (greatest-map (multiplied_depth n) (multiplied_with w) (multiplied_depth depth_by_map) (λ m. refl) t.others i)

    pub simple-depth : (s : SimpleOf F) → simple_depth n (simple_with w s) ≡ simple_depth depth_by_map s
    simple-depth s =
        λ i. max (term-depth s.first i)
        (greatest-map (added_depth n) (added_with w) (added_depth depth_by_map) (λ a. term-depth a.term) s.others i)

    right-depth :
        (right : Option (ComparedOf F)) →
        option_depth (compared_depth n) (option_map (compared_with w) right)
        ≡ option_depth (compared_depth depth_by_map) right
    right-depth None = refl
    right-depth (Some c) = simple-depth c.right

    pub expr-depth : (e : ExprOf F) → expr_depth n (expr_with w e) ≡ expr_depth depth_by_map e
    expr-depth e = λ i. suc (max (simple-depth e.left i) (right-depth e.right i))

    pub exprs-depth : (es : ExprsOf F) → exprs_depth n (exprs_with w es) ≡ exprs_depth depth_by_map es
    exprs-depth es =
        λ i. max (expr-depth es.first i)
        (greatest-map (expr_depth n) (expr_with w) (expr_depth depth_by_map) expr-depth es.others i)

    pub part-depth : (p : PartOf F) → part_depth n (part_with w p) ≡ part_depth depth_by_map p
    part-depth (parts.Field x) = refl
    part-depth (parts.Subscripts place es) = exprs-depth es

    pub designator-depth : (d : DesignatorOf F) → designator_depth n (designator_with w d) ≡ designator_depth depth_by_map d
    designator-depth d = greatest-map (part_depth n) (part_with w) (part_depth depth_by_map) part-depth d.parts

    listed-depth :
        (es : Option (ExprsOf F)) →
        option_depth (exprs_depth n) (option_map (exprs_with w) es) ≡ option_depth (exprs_depth depth_by_map) es
    listed-depth None = refl
    listed-depth (Some es) = exprs-depth es

    pub arguments-depth :
        (a : Option (ArgumentsOf F)) →
        option_depth (arguments_depth n) (option_map (arguments_with w) a) ≡ option_depth (arguments_depth depth_by_map) a
    arguments-depth None = refl
    arguments-depth (Some a) = listed-depth a.exprs
