-- The judgement of a phrase with other things in place of its factors: it is the judgement of the phrase by way of them.
use Rattle.std.proofs.Common.{◌≡◌, ℕ, ◌+◌, Bool, true, false, not, ◌&&◌, List, [], ◌∷◌, map, length, Option, Some, None, option_map, refl, ap, ◌∙◌}
use Rattle.std.specs.Prelude.{if◌then◌else◌, is_some}
use Rattle.std.specs.Option.{option_map_or}
use lib.ListN.{length-map}
use Rattle.dbpl_base.specs.declared.place.Place.{Place}
use Rattle.dbpl_judging.specs.Judgements.{Judged, asks, both, each, each_at, folded, made, of, ◌>>=◌, ◌>>?◌}
use Rattle.dbpl_judging.specs.declared.setting.Setting.{Setting}
use Rattle.dbpl_judging.specs.declared.typed.Typed.{Typed}
use Rattle.dbpl_rules_calls.specs.Asking.{asked_by}
use Rattle.dbpl_rules_calls.specs.declared.asked.Asked.{Asked}
use Rattle.dbpl_rules_calls.specs.Results.{called, function_rules}
use Rattle.dbpl_rules_calls.specs.declared.denoted.Denoted.{Denoted}
use Rattle.dbpl_rules_expr.specs.Calls.{Given, argument, arguments_for, asked_of, call, call_by, callee, callee_named, given_by, is_lone}
use Rattle.dbpl_rules_expr.specs.Designators.{alone, at_part, at_subscripts, begun, built, changed_by, constant_by, denoted, denoted_by, is_kind_or_module_by, kind, operand_named, part_indices, reached, read, target, unasked, variable_named, with_reached}
use Rattle.dbpl_rules_expr.specs.Names.{Named, named, parts_behind, second_word, whole_word, word}
use Rattle.dbpl_rules_expr.specs.Rules.{S53}
use Rattle.dbpl_rules_expr.specs.Productions.{designated, designator_named, expr, multiplied, relation_of, signed_term, simple, summed, term, with_right}
use Rattle.dbpl_rules_operators.specs.Operators.{compared}
use Rattle.dbpl_rules_expr.specs.declared.reached.Reached.{Reached}
use Rattle.dbpl_symbols.specs.declared.decl.Decl.{Decl}
use Rattle.dbpl_tree.specs.Maps.{added_with, compared_with, expr_with, multiplied_with, part_with, simple_with, term_with}
use Rattle.dbpl_tree.specs.Plain.{exprs_in, is_empty}
use Rattle.dbpl_tree.specs.declared.designator.PartOf.{PartOf}
use Rattle.dbpl_tree.specs.declared.designator.PartOf.TheVariants as parts
use Rattle.dbpl_tree.specs.declared.expr.ComparedOf.{ComparedOf}
use Rattle.dbpl_tree.specs.declared.expr.ExprOf.{ExprOf}
use Rattle.dbpl_tree.specs.declared.ident.Ident.{Ident}
use Rattle.dbpl_tree.specs.declared.simple.AddedOf.{AddedOf}
use Rattle.dbpl_tree.specs.declared.simple.SimpleOf.{SimpleOf}
use Rattle.dbpl_tree.specs.declared.term.MultipliedOf.{MultipliedOf}
use Rattle.dbpl_tree.specs.declared.term.TermOf.{TermOf}

-- ---- lists of phrases

folded-with :
    {P Q A B : Type 0} (g : P → Q) (judge : Q → Judged B) (other : P → Judged B) (next : Q → A → B → Judged A)
    (follow : P → A → B → Judged A) → ((x : P) → judge (g x) ≡ other x) → ((x : P) → next (g x) ≡ follow x) → (xs : List P)
    (start begin : Judged A) → start ≡ begin → folded judge next start (map g xs) ≡ folded other follow begin xs
folded-with g judge other next follow same alike [] start begin is = is
folded-with g judge other next follow same alike (x ∷ xs) start begin is =
    folded-with g judge other next follow same alike xs (both start (judge (g x)) >>= λ found. next (g x) found.0 found.1)
    (both begin (other x) >>= λ found. follow x found.0 found.1)
    (λ i. both (is i) (same x i) >>= λ found. alike x i found.0 found.1)

pub each-with :
    {P Q B : Type 0} (g : P → Q) (judge : Q → Judged B) (other : P → Judged B) → ((x : P) → judge (g x) ≡ other x) →
    (xs : List P) → each judge (map g xs) ≡ each other xs
each-with g judge other same [] = refl
each-with g judge other same (x ∷ xs) =
    λ i. made (λ found. found.0 ∷ found.1) (both (same x i) (each-with g judge other same xs i))

each_at-with :
    {P Q B : Type 0} (g : P → Q) (judge : ℕ → Q → Judged B) (other : ℕ → P → Judged B) →
    ((n : ℕ) (x : P) → judge n (g x) ≡ other n x) → (n : ℕ) (xs : List P) → each_at judge n (map g xs) ≡ each_at other n xs
each_at-with g judge other same n [] = refl
each_at-with g judge other same n (x ∷ xs) =
    λ i. made (λ found. found.0 ∷ found.1) (both (same n x i) (each_at-with g judge other same (n + 1) xs i))

empty-map : {A B : Type 0} (f : A → B) (xs : List A) → is_empty (map f xs) ≡ is_empty xs
empty-map f [] = refl
empty-map f (x ∷ xs) = refl

-- ---- expressions

module _ {F G : Type 0} (h : F → G) (p : G → Judged Typed) where
  abbrev by : F → Judged Typed
  by f = p (h f)

  term-with : (t : TermOf F) → term p (term_with h t) ≡ term by t
  term-with t =
      folded-with (multiplied_with h) (λ (m : MultipliedOf G). p m.factor) (λ (m : MultipliedOf F). by m.factor)
      (λ (m : MultipliedOf G). multiplied m.place m.operator) (λ (m : MultipliedOf F). multiplied m.place m.operator) (λ m. refl)
      (λ m. refl) t.others (by t.first) (by t.first) refl

  simple-with : (s : SimpleOf F) → simple p (simple_with h s) ≡ simple by s
  simple-with s =
      folded-with (added_with h) (λ (a : AddedOf G). term p a.term) (λ (a : AddedOf F). term by a.term)
      (λ (a : AddedOf G). summed a.place a.operator) (λ (a : AddedOf F). summed a.place a.operator) (λ a. term-with a.term)
      (λ a. refl) s.others (signed_term s.place s.sign (term p (term_with h s.first)))
      (signed_term s.place s.sign (term by s.first)) (ap (signed_term s.place s.sign) (term-with s.first))

  right-with :
      (left other : Judged Typed) → left ≡ other → (right : Option (ComparedOf F)) →
      with_right p left (option_map (compared_with h) right) ≡ with_right by other right
  right-with left other is None = is
  right-with left other is (Some c) =
      λ i. both (is i) (simple-with c.right i) >>= λ sides. compared c.place (relation_of c.relation) sides.0 sides.1

  pub expr-with : (e : ExprOf F) → expr p (expr_with h e) ≡ expr by e
  expr-with e = right-with (simple p (simple_with h e.left)) (simple by e.left) (simple-with e.left) e.right

-- ---- names

abbrev pub named_with : {F G : Type 0} → (F → G) → Named F → Named G
named_with h name = record { word = name.word; parts = map (part_with h) name.parts }

module _ {F G : Type 0} (h : F → G) where
  second-with : (all : List (PartOf F)) → second_word (map (part_with h) all) ≡ second_word all
  second-with [] = refl
  second-with (parts.Field x ∷ others) = refl
  second-with (parts.Subscripts place es ∷ others) = refl

  behind-with :
      (behind : Bool) (all : List (PartOf F)) → parts_behind behind (map (part_with h) all) ≡ map (part_with h) (parts_behind behind all)
  behind-with true [] = refl
  behind-with true (part ∷ others) = refl
  behind-with false [] = refl
  behind-with false (part ∷ others) = refl

  pub named-with :
      (setting : Setting) (head : Ident) (all : List (PartOf F)) →
      named setting head (map (part_with h) all) ≡ named_with h (named setting head all)
  named-with setting head all =
      (λ i. record {
        word = word setting head (second-with all i);
        parts = parts_behind (word setting head (second-with all i)).behind_module (map (part_with h) all);
      })
      ∙ (λ i. record {
        word = word setting head (second_word all);
        parts = behind-with (word setting head (second_word all)).behind_module all i;
      })

-- ---- designators

module _
    {F G : Type 0} (h : F → G) (judge : ExprOf G → Judged Typed) (other : ExprOf F → Judged Typed)
    (same : (e : ExprOf F) → judge (expr_with h e) ≡ other e) where
  part-with : (part : PartOf F) (before : Option Reached) → at_part judge (part_with h part) before ≡ at_part other part before
  part-with (parts.Field x) before = refl
  part-with (parts.Subscripts place es) before =
      λ i. both (of built before) (each-with (expr_with h) judge other same (exprs_in es) i) >>= λ found.
      at_subscripts place es.first.place found.0 found.1

  parts-with :
      (taken : List (PartOf F)) (before behind : Judged Reached) → before ≡ behind →
      reached judge before (map (part_with h) taken) ≡ reached other behind taken
  parts-with [] before behind is = is
  parts-with (part ∷ taken) before behind is =
      parts-with taken (before >>? at_part judge (part_with h part)) (behind >>? at_part other part)
      (λ i. is i >>? λ core. part-with part core i)

  denoted_by-with :
      (taken : List (PartOf F)) (whole : Option Denoted) →
      denoted_by judge (map (part_with h) taken) whole ≡ denoted_by other taken whole
  denoted_by-with taken whole =
      let start : Judged Reached = of (λ known. record { breaches = []; core = Some (begun known) }) whole in
      λ i. if empty-map (part_with h) taken i then of (λ known. record { breaches = []; core = Some known }) whole
      else with_reached whole (parts-with taken start start refl i)

  pub denoted-with : (place : Place) (name : Named F) → denoted judge place (named_with h name) ≡ denoted other place name
  denoted-with place name = λ i. variable_named place name >>? λ whole. denoted_by-with name.parts whole i

  changed_by-with :
      (taken : List (PartOf F)) (whole : Option Denoted) →
      changed_by judge (map (part_with h) taken) whole ≡ changed_by other taken whole
  changed_by-with taken whole =
      λ i. made (λ found. found.1)
      (both (of (λ known. asks 53 known.designator.place (S53 known)) whole) (denoted_by-with taken whole i))

  target-with : (place : Place) (name : Named F) → target judge place (named_with h name) ≡ target other place name
  target-with place name = λ i. variable_named place name >>? λ whole. changed_by-with name.parts whole i

  indices-with : (part : PartOf F) → part_indices judge (part_with h part) ≡ part_indices other part
  indices-with (parts.Field x) = refl
  indices-with (parts.Subscripts place es) = each-with (expr_with h) judge other same (exprs_in es)

  pub alone-with : (place : Place) (name : Named F) → alone judge place (named_with h name) ≡ alone other place name
  alone-with place name =
      λ i. made (λ found. found.0)
      (both (whole_word place (empty-map (part_with h) name.parts i) name.word)
      (each-with (part_with h) (part_indices judge) (part_indices other) indices-with name.parts i))

  constant-with :
      (place : Place) (taken : List (PartOf F)) (found : Option Decl) →
      constant_by place (map (part_with h) taken) found ≡ constant_by place taken found
  constant-with place [] None = refl
  constant-with place [] (Some decl) = refl
  constant-with place (part ∷ taken) None = refl
  constant-with place (part ∷ taken) (Some decl) = refl

  pub operand-with :
      (place : Place) (name : Named F) → operand_named judge place (named_with h name) ≡ operand_named other place name
  operand-with place name =
      λ i. option_map_or (λ e. record { breaches = []; core = Some e }) (constant-with place name.parts name.word.found i)
      (made read (denoted-with place name i))

  kind_or_module-with :
      (taken : List (PartOf F)) (found : Option Decl) →
      is_kind_or_module_by (map (part_with h) taken) found ≡ is_kind_or_module_by taken found
  kind_or_module-with [] None = refl
  kind_or_module-with [] (Some decl) = refl
  kind_or_module-with (part ∷ taken) None = refl
  kind_or_module-with (part ∷ taken) (Some decl) = refl

  unasked-with : (place : Place) (name : Named F) → unasked judge place (named_with h name) ≡ unasked other place name
  unasked-with place name =
      λ i. if kind_or_module-with name.parts name.word.found i then record { breaches = []; core = Some tt }
      else made (λ e. tt) (operand-with place name i)

  designated-with :
      (place : Place) (name : Named F) → designated judge place (named_with h name) ≡ designated other place name
  designated-with place name =
      λ i. record {
        variable = denoted-with place name i;
        target = target-with place name i;
        kind = alone-with place name i >>= kind place;
        unasked = unasked-with place name i;
      }

  pub designator-with :
      (place : Place) (name : Named F) → designator_named judge place (named_with h name) ≡ designator_named other place name
  designator-with place name =
      λ i. record { value = operand-with place name i; designated = Some (designated-with place name i) }

-- ---- arguments

some-map : {A B : Type 0} (f : A → B) (x : Option A) → is_some (option_map f x) ≡ is_some x
some-map f None = refl
some-map f (Some x) = refl

lone-with : {F G : Type 0} (h : F → G) (e : ExprOf F) → is_lone (expr_with h e) ≡ is_lone e
lone-with h e =
    λ i. not (some-map (compared_with h) e.right i) && not (is_some e.left.sign) && empty-map (added_with h) e.left.others i &&
    empty-map (multiplied_with h) e.left.first.others i

module _
    {F G : Type 0} (h : F → G) (factor : G → Given) (judge : ExprOf G → Judged Typed) (other : ExprOf F → Judged Typed)
    (same : (e : ExprOf F) → judge (expr_with h e) ≡ other e) where
  pub given-with : (e : ExprOf F) → given_by factor judge (expr_with h e) ≡ given_by (λ f. factor (h f)) other e
  given-with e =
      λ i. record {
        value = same e i;
        designated = if lone-with h e i then (factor (h e.left.first.first)).designated else None;
      }

module _
    {F G : Type 0} (h : F → G) (given : ExprOf G → Given) (by : ExprOf F → Given)
    (same : (e : ExprOf F) → given (expr_with h e) ≡ by e) where
  arguments-with :
      (places : List Asked) (es : List (ExprOf F)) →
      arguments_for given places (map (expr_with h) es) ≡ arguments_for by places es
  arguments-with places es =
      each_at-with (expr_with h) (λ n (e : ExprOf G). argument (asked_of places n) e.place (given e))
      (λ n (e : ExprOf F). argument (asked_of places n) e.place (by e)) (λ n e i. argument (asked_of places n) e.place (same e i)) 0 es

  call_by-with :
      (place : Place) (es : List (ExprOf F)) (decl : Option Decl) →
      call_by given place (map (expr_with h) es) decl ≡ call_by by place es decl
  call_by-with place es decl =
      (λ i. both (of (function_rules place (length-map es (expr_with h) i)) decl)
      (arguments_for given (asked_by decl (length-map es (expr_with h) i)) (map (expr_with h) es)) >>= λ found.
      called place found.0 found.1)
      ∙ (λ i. both (of (function_rules place (length es)) decl) (arguments-with (asked_by decl (length es)) es i) >>= λ found.
      called place found.0 found.1)

  pub call-with :
      (place : Place) (name : Named F) (es : List (ExprOf F)) →
      call given place (named_with h name) (map (expr_with h) es) ≡ call by place name es
  call-with place name es =
      (λ i. alone-with h (λ e. (given e).value) (λ e. (by e).value) (λ e j. (same e j).value) place name i >>= callee place
      >>? call_by given place (map (expr_with h) es))
      ∙ (λ i. callee_named (λ e. (by e).value) place name >>? λ decl. call_by-with place es decl i)
