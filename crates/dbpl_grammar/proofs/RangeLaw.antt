-- The law of ranges: a designator that may be the name of a type, and a brace behind it.
use Rattle.std.proofs.Common.{◌≡◌, ℕ, suc, max, Bool, true, false, List, [], ◌∷◌, ◌++◌, append-nil, Option, Some, None, refl, sym, ap, ◌∙◌, subst, arith, true≢false, if◌then◌else◌}
use Rattle.dbpl_base.specs.declared.lexeme.Lexeme.{Lexeme}
use Rattle.dbpl_tree.proofs.Levels.{aggregate_depth-out, aggregate_marks-out, range_depth-out, range_marks-out}
use Rattle.dbpl_tree.specs.Depths.{depths, designator_depth, element_depth, factor_depth, greatest, option_depth, range_depth, range_depth_level}
use Rattle.dbpl_tree.specs.Expressions.{designator_marks}
use Rattle.dbpl_tree.specs.Factors.{factor_marks, range_level, range_marks, spelling}
use Rattle.dbpl_tree.specs.Marks.{Mark, lexemes_in, option_marks}
use Rattle.dbpl_tree.specs.Words.{left_brace}
use Rattle.dbpl_tree.specs.declared.aggregate.Aggregate.{Aggregate}
use Rattle.dbpl_tree.specs.declared.designator.DesignatorOf.{DesignatorOf}
use Rattle.dbpl_tree.specs.declared.each.Each.{Each}
use Rattle.dbpl_tree.specs.declared.element.Element.{Element}
use Rattle.dbpl_tree.specs.declared.element.Element.TheOpen as phrases
use Rattle.dbpl_tree.specs.declared.factor.Factor.{Factor}
use Rattle.dbpl_tree.specs.declared.ident.Ident.{Ident}
use Rattle.dbpl_tree.specs.declared.range.Range.{Range, Range-F, out-Range, roll-Range, roll-out-Range}
use Rattle.dbpl_tree.specs.declared.range.Range.TheVariants as ranges
use Rattle.dbpl_grammar.specs.Expressions.{Inner, braced, ident_first, is_qual, qual_in, range, range_made}
use Rattle.dbpl_grammar.specs.Reading.{nothing, optional}
use Rattle.dbpl_grammar.proofs.ChoiceLaw.{law_all, law_counted, law_nothing, law_wider}
use Rattle.dbpl_grammar.proofs.Every.{Every, maybe}
use Rattle.dbpl_grammar.proofs.ExprLaw.{law_designator}
use Rattle.dbpl_grammar.proofs.InnerLaw.{InnerLaw, are_as, as_designator, braced_marks, law_braced, qual_marks_in, qual_shallow, range_more, same_qual, second_as}
use Rattle.dbpl_grammar.proofs.JoinLaw.{law_made, law_then}
use Rattle.dbpl_grammar.proofs.Law.{Law}

-- elements stand behind a name alone
abbrev pub MayBrace : DesignatorOf Factor → Option (List Element) → Type 0
MayBrace found None = Unit {0}
MayBrace found (Some xs) = is_qual found ≡ true

keep_brace : (one other : DesignatorOf Factor) (xs : Option (List Element)) → lexemes_in (designator_marks factor_marks other) ≡ lexemes_in (designator_marks factor_marks one) → MayBrace one xs → MayBrace other xs
keep_brace one other None same is = tt
keep_brace one other (Some xs) same is = same_qual one other same is

abbrev pub named_aggregate : DesignatorOf Factor → List Element → Aggregate
named_aggregate found xs = record { kind = qual_in found; elements = xs }

pub range_marks_made : (found : DesignatorOf Factor) (xs : Option (List Element)) → MayBrace found xs → range_marks (range_made (found, xs)) ≡ designator_marks factor_marks found ++ option_marks braced_marks xs
range_marks_made found None is =
    range_marks-out (ranges.Designator found) ∙ ap (range_level spelling) (ranges.outs-Designator found) ∙ sym (append-nil (designator_marks factor_marks found))
range_marks_made found (Some xs) is =
    range_marks-out (ranges.Aggregate (named_aggregate found xs)) ∙ ap (range_level spelling) (ranges.outs-Aggregate (named_aggregate found xs)) ∙ aggregate_marks-out (named_aggregate found xs) ∙ ap (λ (ms : List Mark). ms ++ braced_marks xs) (qual_marks_in found is)

pub range_depth_made : (found : DesignatorOf Factor) (xs : Option (List Element)) → MayBrace found xs → range_depth (range_made (found, xs)) ≡ suc (max (designator_depth factor_depth found) (option_depth (greatest element_depth) xs))
range_depth_made found None is =
    range_depth-out (ranges.Designator found) ∙ ap (range_depth_level depths) (ranges.outs-Designator found) ∙ same_alone (designator_depth factor_depth found)
  where
    same_alone : (k : ℕ) → suc k ≡ suc (max k 0)
    same_alone k = omega arith
range_depth_made found (Some xs) is =
    range_depth-out (ranges.Aggregate (named_aggregate found xs)) ∙ ap (range_depth_level depths) (ranges.outs-Aggregate (named_aggregate found xs)) ∙ ap suc (aggregate_depth-out (named_aggregate found xs)) ∙ none_before (designator_depth factor_depth found) (greatest element_depth xs) (qual_shallow found is)
  where
    none_before : (j k : ℕ) → j ≡ 0 → suc k ≡ suc (max j k)
    none_before j k e = omega arith

pub range_cases : (y : Range) → (x : DesignatorOf Factor × Option (List Element)) × (Unit {0} × MayBrace x.0 x.1) × (range_made x ≡ y)
range_cases y = by_level (out-Range y) (roll-out-Range y)
  where
    by_level : (l : Range-F Element Factor Range Aggregate Each) → roll-Range l ≡ y → (x : DesignatorOf Factor × Option (List Element)) × (Unit {0} × MayBrace x.0 x.1) × (range_made x ≡ y)
    by_level (phrases.Range::Designator found) is = ((found, None), (tt, tt), sym (ranges.rolls-Designator found) ∙ is)
    by_level (phrases.Range::Aggregate a) is =
        ((as_designator a.kind, Some a.elements), (tt, are_as a.kind.second), ap (λ (second : Option Ident). ranges.Aggregate (record { kind = record { first = a.kind.first; second = second }; elements = a.elements })) (second_as a.kind.second) ∙ sym (ranges.rolls-Aggregate a) ∙ is)

abbrev pub brace_first : List Lexeme
brace_first = left_brace ∷ []

module _ {limit : ℕ} {inner : Inner} (laws : InnerLaw limit inner) where
  pub law_behind : (found : DesignatorOf Factor) (b : Bool) → is_qual found ≡ b → Law (option_marks braced_marks) (option_depth (greatest element_depth)) limit brace_first range_more true (MayBrace found) (if b then optional brace_first (braced inner) else nothing)
  law_behind found true is =
      law_all (MayBrace found) (λ x may. tt) (λ x may. by_option x) (law_wider brace_first range_more refl refl (maybe (law_braced laws)))
    where
      by_option : (x : Option (List Element)) → MayBrace found x
      by_option None = tt
      by_option (Some xs) = is
  law_behind found false is =
      law_all (MayBrace found) (λ x may. by_option x may) (λ x none. subst (λ (y : Option (List Element)). MayBrace found y) (sym none) tt) (law_wider brace_first range_more refl refl (law_nothing braced_marks (greatest element_depth) limit))
    where
      by_option : (x : Option (List Element)) → MayBrace found x → x ≡ None
      by_option None may = refl
      by_option (Some xs) may = absurd (true≢false (sym may ∙ is))

  pub law_range : Every range_marks range_depth (suc limit) ident_first range_more false (range inner)
  unfolding range
  law_range =
      law_made range_made range_marks range_depth (λ (y : Range). Unit {0}) (law_counted (law_then (law_designator factor_marks factor_depth laws.expr) (λ found is. law_behind found (is_qual found) refl) refl keep_brace)) (λ x is. range_marks_made x.0 x.1 is.1) (λ x is. range_depth_made x.0 x.1 is.1) (λ x is. tt) (λ y is. range_cases y)
