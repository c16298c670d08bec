-- One level of any fold: what it makes of a phrase is what its step makes of the level with the folds of the phrases in it
-- in their place. The maps that folds go by are those of `Maps`.
use Rattle.std.proofs.Common.{◌≡◌, List, [], ◌∷◌, Option, Some, None, map, refl, ap, ◌∙◌}
use Rattle.std.specs.Prelude.{option_map}
use Rattle.dbpl_base.specs.declared.place.Place.{Place}
use Rattle.dbpl_tree.specs.Maps.{Making, aggregate_with, arguments_with, case_with, compared_with, designator_with, each_with, element_with, elsif_with, expr_with, exprs_with, factor_with, fields_with, part_with, range_with, simple_with, statement_with, statements_with, type_with}
use Rattle.dbpl_tree.specs.declared.aggregate.Aggregate.{Aggregate, Aggregate-F, fold-Aggregate, fold-roll-Aggregate, fold_out-Aggregate, map-Aggregate, out-Aggregate, roll-Aggregate}
use Rattle.dbpl_tree.specs.declared.case.CaseOf.{CaseOf}
use Rattle.dbpl_tree.specs.declared.case.CaseOf.TheVariants as cases
use Rattle.dbpl_tree.specs.declared.designator.ArgumentsOf.{ArgumentsOf}
use Rattle.dbpl_tree.specs.declared.designator.DesignatorOf.{DesignatorOf}
use Rattle.dbpl_tree.specs.declared.designator.PartOf.{PartOf}
use Rattle.dbpl_tree.specs.declared.designator.PartOf.TheVariants as parts
use Rattle.dbpl_tree.specs.declared.each.Each.{Each, Each-F, fold-Each, fold-roll-Each, fold_out-Each, map-Each, out-Each, roll-Each}
use Rattle.dbpl_tree.specs.declared.element.Element.{Element, Element-F, fold-Element, fold-roll-Element, fold_out-Element, map-Element, out-Element, roll-Element}
use Rattle.dbpl_tree.specs.declared.element.Element.TheOpen as phrases
use Rattle.dbpl_tree.specs.declared.element.Element.TheShapes as shapes
use Rattle.dbpl_tree.specs.declared.expr.ComparedOf.{ComparedOf}
use Rattle.dbpl_tree.specs.declared.expr.ExprOf.{ExprOf}
use Rattle.dbpl_tree.specs.declared.expr.ExprsOf.{ExprsOf}
use Rattle.dbpl_tree.specs.declared.factor.Factor.{Factor, Factor-F, fold-Factor, fold-roll-Factor, fold_out-Factor, map-Factor, out-Factor, roll-Factor}
use Rattle.dbpl_tree.specs.declared.ident.Ident.{Ident}
use Rattle.dbpl_tree.specs.declared.range.Range.{Range, Range-F, fold-Range, fold-roll-Range, fold_out-Range, map-Range, out-Range, roll-Range}
use Rattle.dbpl_tree.specs.declared.simple.SimpleOf.{SimpleOf}
use Rattle.dbpl_tree.specs.declared.statement.Statement.{Statement, Statement-F, fold-Statement, fold-roll-Statement, fold_out-Statement, map-Statement, out-Statement, roll-Statement}
use Rattle.dbpl_tree.specs.declared.statement.Statement.TheOpen as kinds
use Rattle.dbpl_tree.specs.declared.statement.Statement.TheShapes as statement_shapes
use Rattle.dbpl_tree.specs.declared.statements.StatementsOf.{StatementsOf}
use Rattle.dbpl_tree.specs.declared.type_tree.FieldsOf.{FieldsOf}
use Rattle.dbpl_tree.specs.declared.type_tree.FieldsOf.TheVariants as fields
use Rattle.dbpl_tree.specs.declared.type_tree.TypeTree.{TypeTree, TypeTree-F, fold-TypeTree, fold-roll-TypeTree, fold_out-TypeTree, map-TypeTree, out-TypeTree, roll-TypeTree}
use Rattle.dbpl_tree.specs.declared.type_tree.TypeTree.TheOpen as types
use Rattle.dbpl_tree.specs.declared.type_tree.TypeTree.TheShapes as type_shapes

-- two functions that agree make the same list
same-map : {A B : Type 0} (f g : A → B) → ((x : A) → f x ≡ g x) → (xs : List A) → map f xs ≡ map g xs
same-map f g e [] = refl
same-map f g e (x ∷ xs) = λ i. e x i ∷ same-map f g e xs i

-- ---- expressions: a map that is known by what it makes of each alternative is the one of `Maps`

module _ {F G : Type 0} (w : F → G) where
  record MapsExpr (m : ExprOf F → ExprOf G) : Type 0 where
    bare :
        (place : Place) (left : SimpleOf F) →
        m (record { place = place; left = left; right = None })
        ≡ record { place = place; left = simple_with w left; right = None }
    compared :
        (place : Place) (left : SimpleOf F) (c : ComparedOf F) →
        m (record { place = place; left = left; right = Some c })
        ≡ record { place = place; left = simple_with w left; right = Some (compared_with w c) }

  record MapsExprs (m : ExprsOf F → ExprsOf G) : Type 0 where
    of_first : ExprOf F → ExprOf G
    of_other : ExprOf F → ExprOf G
    maps_first : MapsExpr of_first
    maps_other : MapsExpr of_other
    made : (es : ExprsOf F) → m es ≡ record { first = of_first es.first; others = map of_other es.others }

  record MapsPart (m : PartOf F → PartOf G) : Type 0 where
    of_exprs : ExprsOf F → ExprsOf G
    maps_exprs : MapsExprs of_exprs
    field : (x : Ident) → m (parts.Field x) ≡ parts.Field x
    subscripts :
        (place : Place) (es : ExprsOf F) → m (parts.Subscripts place es) ≡ parts.Subscripts place (of_exprs es)

  record MapsDesignator (m : DesignatorOf F → DesignatorOf G) : Type 0 where
    of_part : PartOf F → PartOf G
    maps_part : MapsPart of_part
    made : (d : DesignatorOf F) → m d ≡ record { head = d.head; parts = map of_part d.parts }

  record MapsArguments (m : Option (ArgumentsOf F) → Option (ArgumentsOf G)) : Type 0 where
    of_exprs : ExprsOf F → ExprsOf G
    maps_exprs : MapsExprs of_exprs
    absent : m None ≡ None
    bare :
        (place : Place) → m (Some (record { place = place; exprs = None })) ≡ Some (record { place = place; exprs = None })
    listed :
        (place : Place) (es : ExprsOf F) →
        m (Some (record { place = place; exprs = Some es })) ≡ Some (record { place = place; exprs = Some (of_exprs es) })

  expr-map-of :
      {m : ExprOf F → ExprOf G} → MapsExpr m → (place : Place) (left : SimpleOf F) (right : Option (ComparedOf F)) →
      m (record { place = place; left = left; right = right })
      ≡ record { place = place; left = simple_with w left; right = option_map (compared_with w) right }
  expr-map-of maps place left None = maps.bare place left
  expr-map-of maps place left (Some c) = maps.compared place left c

  expr-map : {m : ExprOf F → ExprOf G} → MapsExpr m → (e : ExprOf F) → m e ≡ expr_with w e
  expr-map maps e = expr-map-of maps e.place e.left e.right

  exprs-map : {m : ExprsOf F → ExprsOf G} → MapsExprs m → (es : ExprsOf F) → m es ≡ exprs_with w es
  exprs-map maps es =
      maps.made es
      ∙ (λ i. record {
        first = expr-map maps.maps_first es.first i;
        others = same-map maps.of_other (expr_with w) (expr-map maps.maps_other) es.others i;
      })

  part-map : {m : PartOf F → PartOf G} → MapsPart m → (p : PartOf F) → m p ≡ part_with w p
  part-map maps (parts.Field x) = maps.field x
  part-map maps (parts.Subscripts place es) =
      maps.subscripts place es ∙ (λ i. parts.Subscripts place (exprs-map maps.maps_exprs es i))

  designator-map : {m : DesignatorOf F → DesignatorOf G} → MapsDesignator m → (d : DesignatorOf F) → m d ≡ designator_with w d
  designator-map maps d =
      maps.made d
      ∙ (λ i. record {
        head = d.head;
        parts = same-map maps.of_part (part_with w) (part-map maps.maps_part) d.parts i;
      })

  some-arguments-map :
      {m : Option (ArgumentsOf F) → Option (ArgumentsOf G)} → MapsArguments m → (place : Place)
      (es : Option (ExprsOf F)) →
      m (Some (record { place = place; exprs = es }))
      ≡ Some (record { place = place; exprs = option_map (exprs_with w) es })
  some-arguments-map maps place None = maps.bare place
  some-arguments-map maps place (Some es) =
      maps.listed place es ∙ (λ i. Some (record { place = place; exprs = Some (exprs-map maps.maps_exprs es i) }))

  arguments-map :
      {m : Option (ArgumentsOf F) → Option (ArgumentsOf G)} → MapsArguments m → (a : Option (ArgumentsOf F)) →
      m a ≡ option_map (arguments_with w) a
  arguments-map maps None = maps.absent
  arguments-map maps (Some a) = some-arguments-map maps a.place a.exprs

  -- ---- the maps of the levels

  plain_expr : MapsExpr ((shapes.former-Element-Plain-0).map F G w)
  plain_expr = record { bare = λ place left. refl; compared = λ place left c. refl }

  boxed_expr : MapsExpr ((shapes.former-Element-Each-1).map F G w)
  boxed_expr = record { bare = λ place left. refl; compared = λ place left c. refl }

  subscripts : MapsExprs ((shapes.former-Factor-Designator-0-at-111).map F G w)
  subscripts = record {
    of_first = (shapes.former-Factor-Designator-0-at-56).map F G w;
    of_other = (shapes.former-Factor-Designator-0-at-109).map F G w;
    maps_first = record { bare = λ place left. refl; compared = λ place left c. refl };
    maps_other = record { bare = λ place left. refl; compared = λ place left c. refl };
    made = λ es. refl;
  }

  designator : MapsDesignator ((shapes.former-Factor-Designator-0).map F G w)
  designator = record {
    of_part = (shapes.former-Factor-Designator-0-at-112).map F G w;
    maps_part = record {
      of_exprs = (shapes.former-Factor-Designator-0-at-111).map F G w;
      maps_exprs = subscripts;
      field = λ x. refl;
      subscripts = λ place es. refl;
    };
    made = λ d. refl;
  }

  listed : MapsExprs ((shapes.former-Factor-Designator-1-at-109).map F G w)
  listed = record {
    of_first = (shapes.former-Factor-Designator-1-at-54).map F G w;
    of_other = (shapes.former-Factor-Designator-1-at-107).map F G w;
    maps_first = record { bare = λ place left. refl; compared = λ place left c. refl };
    maps_other = record { bare = λ place left. refl; compared = λ place left c. refl };
    made = λ es. refl;
  }

  arguments : MapsArguments ((shapes.former-Factor-Designator-1).map F G w)
  arguments = record {
    of_exprs = (shapes.former-Factor-Designator-1-at-109).map F G w;
    maps_exprs = listed;
    absent = refl;
    bare = λ place. refl;
    listed = λ place es. refl;
  }

-- ---- factors and what stands in them

module _ {E F R A C V W X Y Z : Type 0} (m : Making E F R A C V W X Y Z) where
  factor-map :
      (x : Factor-F E F R A C) →
      map-Factor E F R A C V W X Y Z m.element m.factor m.range m.aggregate m.each x ≡ factor_with m x
  factor-map (phrases.Number place n) = refl
  factor-map (phrases.CharCode place n) = refl
  factor-map (phrases.Text place text) = refl
  factor-map (phrases.Factor::Aggregate a) = refl
  factor-map (phrases.Factor::Designator d a) =
      λ i. phrases.Factor::Designator (designator-map m.factor (designator m.factor) d i)
      (arguments-map m.factor (arguments m.factor) a i)
  factor-map (phrases.Parenthesized place e) =
      λ i. phrases.Parenthesized place (expr-map m.factor (boxed_expr m.factor) e i)
  factor-map (phrases.Not place operator f) = refl
  factor-map (phrases.Quantified place quantifier x r e) =
      λ i. phrases.Quantified place quantifier x (m.range r) (expr-map m.factor (boxed_expr m.factor) e i)

  range-map :
      (x : Range-F E F R A C) →
      map-Range E F R A C V W X Y Z m.element m.factor m.range m.aggregate m.each x ≡ range_with m x
  range-map (phrases.Range::Designator d) =
      λ i. phrases.Range::Designator (designator-map m.factor (designator m.factor) d i)
  range-map (phrases.Range::Aggregate a) = refl

  element-map :
      (x : Element-F E F R A C) →
      map-Element E F R A C V W X Y Z m.element m.factor m.range m.aggregate m.each x ≡ element_with m x
  element-map (phrases.Each c e) = λ i. phrases.Each (m.each c) (expr-map m.factor (boxed_expr m.factor) e i)
  element-map (phrases.Plain e) = λ i. phrases.Plain (expr-map m.factor (plain_expr m.factor) e i)
  element-map (phrases.Of target c cs e) =
      λ i. phrases.Of (expr-map m.factor (boxed_expr m.factor) target i) (m.each c) (map m.each cs)
      (expr-map m.factor (boxed_expr m.factor) e i)

  aggregate-map :
      (x : Aggregate-F E F R A C) →
      map-Aggregate E F R A C V W X Y Z m.element m.factor m.range m.aggregate m.each x ≡ aggregate_with m x
  aggregate-map x = refl

  each-map :
      (x : Each-F E F R A C) →
      map-Each E F R A C V W X Y Z m.element m.factor m.range m.aggregate m.each x ≡ each_with m x
  each-map x = refl

module _
    {V W X Y Z : Type 0} (element : Element-F V W X Y Z → V) (factor : Factor-F V W X Y Z → W)
    (range : Range-F V W X Y Z → X) (aggregate : Aggregate-F V W X Y Z → Y) (each : Each-F V W X Y Z → Z) where
  -- what the folds make of the phrases of a tree
  abbrev pub folded : Making Element Factor Range Aggregate Each V W X Y Z
  folded = record {
    element = fold-Element V W X Y Z element factor range aggregate each;
    factor = fold-Factor V W X Y Z element factor range aggregate each;
    range = fold-Range V W X Y Z element factor range aggregate each;
    aggregate = fold-Aggregate V W X Y Z element factor range aggregate each;
    each = fold-Each V W X Y Z element factor range aggregate each;
  }

  pub factor-out : (x : Factor) → folded.factor x ≡ factor (factor_with folded (out-Factor x))
  factor-out x =
      fold_out-Factor V W X Y Z element factor range aggregate each x ∙ ap factor (factor-map folded (out-Factor x))

  pub factor-roll :
      (x : Factor-F Element Factor Range Aggregate Each) → folded.factor (roll-Factor x) ≡ factor (factor_with folded x)
  factor-roll x = fold-roll-Factor V W X Y Z element factor range aggregate each x ∙ ap factor (factor-map folded x)

  pub range-out : (x : Range) → folded.range x ≡ range (range_with folded (out-Range x))
  range-out x =
      fold_out-Range V W X Y Z element factor range aggregate each x ∙ ap range (range-map folded (out-Range x))

  pub range-roll :
      (x : Range-F Element Factor Range Aggregate Each) → folded.range (roll-Range x) ≡ range (range_with folded x)
  range-roll x = fold-roll-Range V W X Y Z element factor range aggregate each x ∙ ap range (range-map folded x)

  pub element-out : (x : Element) → folded.element x ≡ element (element_with folded (out-Element x))
  element-out x =
      fold_out-Element V W X Y Z element factor range aggregate each x
      ∙ ap element (element-map folded (out-Element x))

  pub element-roll :
      (x : Element-F Element Factor Range Aggregate Each) →
      folded.element (roll-Element x) ≡ element (element_with folded x)
  element-roll x =
      fold-roll-Element V W X Y Z element factor range aggregate each x ∙ ap element (element-map folded x)

  pub aggregate-out : (x : Aggregate) → folded.aggregate x ≡ aggregate (aggregate_with folded (out-Aggregate x))
  aggregate-out x = fold_out-Aggregate V W X Y Z element factor range aggregate each x

  pub aggregate-roll :
      (x : Aggregate-F Element Factor Range Aggregate Each) →
      folded.aggregate (roll-Aggregate x) ≡ aggregate (aggregate_with folded x)
  aggregate-roll x = fold-roll-Aggregate V W X Y Z element factor range aggregate each x

  pub each-out : (x : Each) → folded.each x ≡ each (each_with folded (out-Each x))
  each-out x = fold_out-Each V W X Y Z element factor range aggregate each x

  pub each-roll :
      (x : Each-F Element Factor Range Aggregate Each) → folded.each (roll-Each x) ≡ each (each_with folded x)
  each-roll x = fold-roll-Each V W X Y Z element factor range aggregate each x

-- ---- types

module _ {T U : Type 0} (w : T → U) where
  first-fields : (f : FieldsOf T) → (type_shapes.former-TypeTree-Record-1).map T U w f ≡ fields_with w f
  first-fields (fields.Empty place) = refl
  first-fields (fields.Fields names t) = refl

  other-fields : (f : FieldsOf T) → (type_shapes.former-TypeTree-Record-2-at-4).map T U w f ≡ fields_with w f
  other-fields (fields.Empty place) = refl
  other-fields (fields.Fields names t) = refl

  type-map : (x : TypeTree-F T) → map-TypeTree T U w x ≡ type_with w x
  type-map (types.Named q) = refl
  type-map (types.Enumeration place names) = refl
  type-map (types.Subrange place low high) = refl
  type-map (types.Array place index others element) = refl
  type-map (types.Record place first others) =
      λ i. types.Record place (first-fields first i)
      (same-map ((type_shapes.former-TypeTree-Record-2-at-4).map T U w) (fields_with w) other-fields others i)
  type-map (types.Relation place keys q) = refl

module _ {T : Type 0} (step : TypeTree-F T → T) where
  pub type-out : (t : TypeTree) → fold-TypeTree T step t ≡ step (type_with (fold-TypeTree T step) (out-TypeTree t))
  type-out t = fold_out-TypeTree T step t ∙ ap step (type-map (fold-TypeTree T step) (out-TypeTree t))

  pub type-roll : (x : TypeTree-F TypeTree) → fold-TypeTree T step (roll-TypeTree x) ≡ step (type_with (fold-TypeTree T step) x)
  type-roll x = fold-roll-TypeTree T step x ∙ ap step (type-map (fold-TypeTree T step) x)

-- ---- statements

module _ {S U : Type 0} (w : S → U) where
  else-map :
      (body : Option (StatementsOf S)) →
      (statement_shapes.former-Statement-If-4).map S U w body ≡ option_map (statements_with w) body
  else-map None = refl
  else-map (Some ss) = refl

  first-case : (c : CaseOf S) → (statement_shapes.former-Statement-Case-2).map S U w c ≡ case_with w c
  first-case (cases.Empty place) = refl
  first-case (cases.Labelled first others body) = refl

  other-case : (c : CaseOf S) → (statement_shapes.former-Statement-Case-3-at-8).map S U w c ≡ case_with w c
  other-case (cases.Empty place) = refl
  other-case (cases.Labelled first others body) = refl

  statement-map : (x : Statement-F S) → map-Statement S U w x ≡ statement_with w x
  statement-map (kinds.Empty place) = refl
  statement-map (kinds.Change target place operator e) = refl
  statement-map (kinds.Call d a) = refl
  statement-map (kinds.If place e body elsifs otherwise) =
      λ i. kinds.If place e (statements_with w body) (map (elsif_with w) elsifs) (else-map otherwise i)
  statement-map (kinds.Case place e first others otherwise) =
      λ i. kinds.Case place e (first-case first i)
      (same-map ((statement_shapes.former-Statement-Case-3-at-8).map S U w) (case_with w) other-case others i)
      (else-map otherwise i)
  statement-map (kinds.While place e body) = refl
  statement-map (kinds.Repeat place body e) = refl
  statement-map (kinds.Loop place body) = refl
  statement-map (kinds.Exit place) = refl
  statement-map (kinds.Return place e) = refl
  statement-map (kinds.For place x first last step body) = refl
  statement-map (kinds.ForEach place each x r e body) = refl

module _ {S : Type 0} (step : Statement-F S → S) where
  pub statement-out :
      (s : Statement) → fold-Statement S step s ≡ step (statement_with (fold-Statement S step) (out-Statement s))
  statement-out s = fold_out-Statement S step s ∙ ap step (statement-map (fold-Statement S step) (out-Statement s))

  pub statement-roll :
      (x : Statement-F Statement) →
      fold-Statement S step (roll-Statement x) ≡ step (statement_with (fold-Statement S step) x)
  statement-roll x = fold-roll-Statement S step x ∙ ap step (statement-map (fold-Statement S step) x)
