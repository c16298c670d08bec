-- The maps of a level of a factor, an element and an aggregate are those of `Maps`.
use Rattle.std.proofs.Common.{◌≡◌, List, [], ◌∷◌, Option, Some, None, map, refl, ◌∙◌}
use Rattle.std.specs.Prelude.{option_map}
use Rattle.dbpl_base.specs.declared.place.Place.{Place}
use Rattle.dbpl_tree.specs.Maps.{Making, aggregate_with, arguments_with, compared_with, designator_with, element_with, expr_with, exprs_with, factor_with, part_with, simple_with}
use Rattle.dbpl_tree.specs.declared.aggregate.Aggregate.{Aggregate-F, map-Aggregate}
use Rattle.dbpl_tree.specs.declared.designator.ArgumentsOf.{ArgumentsOf}
use Rattle.dbpl_tree.specs.declared.designator.DesignatorOf.{DesignatorOf}
use Rattle.dbpl_tree.specs.declared.designator.PartOf.{PartOf}
use Rattle.dbpl_tree.specs.declared.designator.PartOf.TheVariants as parts
use Rattle.dbpl_tree.specs.declared.element.Element.{Element-F, map-Element}
use Rattle.dbpl_tree.specs.declared.element.Element.TheOpen as phrases
use Rattle.dbpl_tree.specs.declared.element.Element.TheShapes as shapes
use Rattle.dbpl_tree.specs.declared.expr.ComparedOf.{ComparedOf}
use Rattle.dbpl_tree.specs.declared.expr.ExprOf.{ExprOf}
use Rattle.dbpl_tree.specs.declared.expr.ExprsOf.{ExprsOf}
use Rattle.dbpl_tree.specs.declared.factor.Factor.{Factor-F, map-Factor}
use Rattle.dbpl_tree.specs.declared.ident.Ident.{Ident}
use Rattle.dbpl_tree.specs.declared.simple.SimpleOf.{SimpleOf}

-- two functions that agree make the same list
same-map : {A B : Type 0} (f g : A → B) → ((x : A) → f x ≡ g x) → (xs : List A) → map f xs ≡ map g xs
same-map f g e [] = refl
same-map f g e (x ∷ xs) = λ i. e x i ∷ same-map f g e xs i

-- ---- expressions: a map that is known by what it makes of each alternative is the one of `Maps`

module _ {F G : Type 0} (w : F → G) where
  record MapsExpr (m : ExprOf F → ExprOf G) : Type 0 where
    bare :
        (place : Place) (left : SimpleOf F) →
        m (record { place = place; left = left; right = None })
        ≡ record { place = place; left = simple_with w left; right = None }
    compared :
        (place : Place) (left : SimpleOf F) (c : ComparedOf F) →
        m (record { place = place; left = left; right = Some c })
        ≡ record { place = place; left = simple_with w left; right = Some (compared_with w c) }

  record MapsExprs (m : ExprsOf F → ExprsOf G) : Type 0 where
    of_first : ExprOf F → ExprOf G
    of_other : ExprOf F → ExprOf G
    maps_first : MapsExpr of_first
    maps_other : MapsExpr of_other
    made : (es : ExprsOf F) → m es ≡ record { first = of_first es.first; others = map of_other es.others }

  record MapsPart (m : PartOf F → PartOf G) : Type 0 where
    of_exprs : ExprsOf F → ExprsOf G
    maps_exprs : MapsExprs of_exprs
    field : (x : Ident) → m (parts.Field x) ≡ parts.Field x
    subscripts :
        (place : Place) (es : ExprsOf F) → m (parts.Subscripts place es) ≡ parts.Subscripts place (of_exprs es)

  record MapsDesignator (m : DesignatorOf F → DesignatorOf G) : Type 0 where
    of_part : PartOf F → PartOf G
    maps_part : MapsPart of_part
    made : (d : DesignatorOf F) → m d ≡ record { head = d.head; parts = map of_part d.parts }

  record MapsArguments (m : Option (ArgumentsOf F) → Option (ArgumentsOf G)) : Type 0 where
    of_exprs : ExprsOf F → ExprsOf G
    maps_exprs : MapsExprs of_exprs
    absent : m None ≡ None
    bare :
        (place : Place) → m (Some (record { place = place; exprs = None })) ≡ Some (record { place = place; exprs = None })
    listed :
        (place : Place) (es : ExprsOf F) →
        m (Some (record { place = place; exprs = Some es })) ≡ Some (record { place = place; exprs = Some (of_exprs es) })

  expr-map-of :
      {m : ExprOf F → ExprOf G} → MapsExpr m → (place : Place) (left : SimpleOf F) (right : Option (ComparedOf F)) →
      m (record { place = place; left = left; right = right })
      ≡ record { place = place; left = simple_with w left; right = option_map (compared_with w) right }
  expr-map-of maps place left None = maps.bare place left
  expr-map-of maps place left (Some c) = maps.compared place left c

  expr-map : {m : ExprOf F → ExprOf G} → MapsExpr m → (e : ExprOf F) → m e ≡ expr_with w e
  expr-map maps e = expr-map-of maps e.place e.left e.right

  exprs-map : {m : ExprsOf F → ExprsOf G} → MapsExprs m → (es : ExprsOf F) → m es ≡ exprs_with w es
  exprs-map maps es =
      maps.made es
      ∙ (λ i. record {
        first = expr-map maps.maps_first es.first i;
        others = same-map maps.of_other (expr_with w) (expr-map maps.maps_other) es.others i;
      })

  part-map : {m : PartOf F → PartOf G} → MapsPart m → (p : PartOf F) → m p ≡ part_with w p
  part-map maps (parts.Field x) = maps.field x
  part-map maps (parts.Subscripts place es) =
      maps.subscripts place es ∙ (λ i. parts.Subscripts place (exprs-map maps.maps_exprs es i))

  designator-map : {m : DesignatorOf F → DesignatorOf G} → MapsDesignator m → (d : DesignatorOf F) → m d ≡ designator_with w d
  designator-map maps d =
      maps.made d
      ∙ (λ i. record {
        head = d.head;
        parts = same-map maps.of_part (part_with w) (part-map maps.maps_part) d.parts i;
      })

  some-arguments-map :
      {m : Option (ArgumentsOf F) → Option (ArgumentsOf G)} → MapsArguments m → (place : Place)
      (es : Option (ExprsOf F)) →
      m (Some (record { place = place; exprs = es }))
      ≡ Some (record { place = place; exprs = option_map (exprs_with w) es })
  some-arguments-map maps place None = maps.bare place
  some-arguments-map maps place (Some es) =
      maps.listed place es ∙ (λ i. Some (record { place = place; exprs = Some (exprs-map maps.maps_exprs es i) }))

  arguments-map :
      {m : Option (ArgumentsOf F) → Option (ArgumentsOf G)} → MapsArguments m → (a : Option (ArgumentsOf F)) →
      m a ≡ option_map (arguments_with w) a
  arguments-map maps None = maps.absent
  arguments-map maps (Some a) = some-arguments-map maps a.place a.exprs

  -- ---- the maps of the levels

  plain_expr : MapsExpr ((shapes.former-Element-Plain-0).map F G w)
  plain_expr = record { bare = λ place left. refl; compared = λ place left c. refl }

  boxed_expr : MapsExpr ((shapes.former-Element-Each-1).map F G w)
  boxed_expr = record { bare = λ place left. refl; compared = λ place left c. refl }

  subscripts : MapsExprs ((shapes.former-Factor-Designator-0-at-111).map F G w)
  subscripts = record {
    of_first = (shapes.former-Factor-Designator-0-at-56).map F G w;
    of_other = (shapes.former-Factor-Designator-0-at-109).map F G w;
    maps_first = record { bare = λ place left. refl; compared = λ place left c. refl };
    maps_other = record { bare = λ place left. refl; compared = λ place left c. refl };
    made = λ es. refl;
  }

  designator : MapsDesignator ((shapes.former-Factor-Designator-0).map F G w)
  designator = record {
    of_part = (shapes.former-Factor-Designator-0-at-112).map F G w;
    maps_part = record {
      of_exprs = (shapes.former-Factor-Designator-0-at-111).map F G w;
      maps_exprs = subscripts;
      field = λ x. refl;
      subscripts = λ place es. refl;
    };
    made = λ d. refl;
  }

  listed : MapsExprs ((shapes.former-Factor-Designator-1-at-109).map F G w)
  listed = record {
    of_first = (shapes.former-Factor-Designator-1-at-54).map F G w;
    of_other = (shapes.former-Factor-Designator-1-at-107).map F G w;
    maps_first = record { bare = λ place left. refl; compared = λ place left c. refl };
    maps_other = record { bare = λ place left. refl; compared = λ place left c. refl };
    made = λ es. refl;
  }

  arguments : MapsArguments ((shapes.former-Factor-Designator-1).map F G w)
  arguments = record {
    of_exprs = (shapes.former-Factor-Designator-1-at-109).map F G w;
    maps_exprs = listed;
    absent = refl;
    bare = λ place. refl;
    listed = λ place es. refl;
  }

-- ---- factors and what stands in them

module _ {E F R A C V W X Y Z : Type 0} (m : Making E F R A C V W X Y Z) where
  pub factor-map :
      (x : Factor-F E F R A C) →
      map-Factor E F R A C V W X Y Z m.element m.factor m.range m.aggregate m.each x ≡ factor_with m x
  factor-map (phrases.Number place n) = refl
  factor-map (phrases.CharCode place n) = refl
  factor-map (phrases.Text place text) = refl
  factor-map (phrases.Factor::Aggregate a) = refl
  factor-map (phrases.Factor::Designator d a) =
      λ i. phrases.Factor::Designator (designator-map m.factor (designator m.factor) d i)
      (arguments-map m.factor (arguments m.factor) a i)
  factor-map (phrases.Parenthesized place e) =
      λ i. phrases.Parenthesized place (expr-map m.factor (boxed_expr m.factor) e i)
  factor-map (phrases.Not place operator f) = refl
  factor-map (phrases.Quantified place quantifier x r e) =
      λ i. phrases.Quantified place quantifier x (m.range r) (expr-map m.factor (boxed_expr m.factor) e i)

  pub element-map :
      (x : Element-F E F R A C) →
      map-Element E F R A C V W X Y Z m.element m.factor m.range m.aggregate m.each x ≡ element_with m x
  element-map (phrases.Each c e) = λ i. phrases.Each (m.each c) (expr-map m.factor (boxed_expr m.factor) e i)
  element-map (phrases.Plain e) = λ i. phrases.Plain (expr-map m.factor (plain_expr m.factor) e i)
  element-map (phrases.Of target c cs e) =
      λ i. phrases.Of (expr-map m.factor (boxed_expr m.factor) target i) (m.each c) (map m.each cs)
      (expr-map m.factor (boxed_expr m.factor) e i)

  pub aggregate-map :
      (x : Aggregate-F E F R A C) →
      map-Aggregate E F R A C V W X Y Z m.element m.factor m.range m.aggregate m.each x ≡ aggregate_with m x
  aggregate-map x = refl
