-- The law of types.
use Rattle.std.proofs.Common.{◌≡◌, ℕ, zero, suc, ◌≤◌, true, false, ◌⊎◌, inl, inr, List, [], ◌∷◌, ◌++◌, append_assoc, refl, sym, ap, ◌∙◌, subst, arith, not-suc-le-zero}
use Rattle.dbpl_base.specs.declared.lexeme.Lexeme.{Lexeme}
use Rattle.dbpl_base.specs.declared.place.Place.{Place}
use Rattle.dbpl_tree.proofs.StatementLevels.{type_depth-out, type_marks-out}
use Rattle.dbpl_tree.specs.Marks.{Mark, Of, Before, further_marks}
use Rattle.dbpl_tree.specs.TypeTrees.{fields_marks, type_level, type_marks}
use Rattle.dbpl_tree.specs.UnitDepths.{fields_depth, type_depth, type_depth_level}
use Rattle.dbpl_tree.specs.Words.{colon, comma, ellipsis, full_stop, left_bracket, left_parenthesis, right_bracket, right_parenthesis, semicolon, word_array, word_end, word_of, word_record, word_relation}
use Rattle.dbpl_tree.specs.declared.expr.ExprOf.{ExprOf}
use Rattle.dbpl_tree.specs.declared.factor.Factor.{Factor}
use Rattle.dbpl_tree.specs.declared.ident.Idents.{Idents}
use Rattle.dbpl_tree.specs.declared.ident.Qual.{Qual}
use Rattle.dbpl_tree.specs.declared.type_tree.FieldsOf.{FieldsOf}
use Rattle.dbpl_tree.specs.declared.type_tree.FieldsOf.TheVariants as fields_of
use Rattle.dbpl_tree.specs.declared.type_tree.TypeTree.{TypeTree, TypeTree-F, out-TypeTree, roll-TypeTree, roll-out-TypeTree}
use Rattle.dbpl_tree.specs.declared.type_tree.TypeTree.TheOpen as open_types
use Rattle.dbpl_tree.specs.declared.type_tree.TypeTree.TheVariants as types
use Rattle.dbpl_grammar.specs.Expressions.{Inner, ident_first, idents, qual}
use Rattle.dbpl_grammar.specs.Reading.{Parser, ◌<$>◌, ◌⊗◌, after, here}
use Rattle.dbpl_grammar.specs.Types.{array, enumeration, fields, record_type, relation_type, subrange, type_at, type_first, type_by}
use Rattle.dbpl_grammar.proofs.Ready.{ready_type}
use Rattle.dbpl_grammar.proofs.ChoiceLaw.{law_all, law_counted, law_deep, law_either, law_wider}
use Rattle.dbpl_grammar.proofs.Every.{Every, all_those, both, variant}
use Rattle.dbpl_grammar.proofs.FactorLaw.{inner_law}
use Rattle.dbpl_grammar.proofs.InnerLaw.{InnerLaw}
use Rattle.dbpl_grammar.proofs.JoinLaw.{law_closed}
use Rattle.dbpl_grammar.proofs.Law.{Law}
use Rattle.dbpl_grammar.proofs.NameLaw.{law_idents, law_qual}
use Rattle.dbpl_grammar.proofs.TokenLaw.{law_after, law_here}

abbrev pub type_more : List Lexeme
type_more = full_stop ∷ []

module _ {limit : ℕ} {type : Parser TypeTree} (law : Every type_marks type_depth limit type_first type_more false type) where
  law_some_fields : Law (fields_marks type_marks) (fields_depth type_depth) limit ident_first (ident_first ++ type_more) false (λ (y : FieldsOf TypeTree). (x : Idents × TypeTree) × (fields_of.Fields x.0 x.1 ≡ y)) ((λ found. fields_of.Fields found.0 found.1) <$> (idents ⊗ after colon type))
  law_some_fields =
      law_wider ident_first (ident_first ++ type_more) refl refl (variant (fields_marks type_marks) (fields_depth type_depth) (both (law_idents limit) (law_after colon refl law) refl) (λ found. fields_of.Fields found.0 found.1) (λ x. refl) (λ x. omega arith))

  law_no_fields : Law (fields_marks type_marks) (fields_depth type_depth) limit [] (ident_first ++ type_more) true (λ (y : FieldsOf TypeTree). (x : Place) × (fields_of.Empty x ≡ y)) (fields_of.Empty <$> here)
  law_no_fields =
      law_wider [] (ident_first ++ type_more) refl refl (variant (fields_marks type_marks) (fields_depth type_depth) (law_here limit) fields_of.Empty (λ x. refl) (λ x. refl))

  pub law_fields : Every (fields_marks type_marks) (fields_depth type_depth) limit ident_first (ident_first ++ type_more) true (fields type)
  unfolding fields
  law_fields =
      law_all (λ (y : FieldsOf TypeTree). Unit {0}) (λ y is. cases y) (λ y is. tt) (law_either law_some_fields law_no_fields refl)
    where
      cases : (y : FieldsOf TypeTree) → ((x : Idents × TypeTree) × (fields_of.Fields x.0 x.1 ≡ y)) ⊎ ((x : Place) × (fields_of.Empty x ≡ y))
      cases (fields_of.Fields names t) = inl ((names, t), refl)
      cases (fields_of.Empty place) = inr (place, refl)

-- ---- the alternatives

abbrev Level : Type 0
Level = TypeTree-F TypeTree

type_as : (x : TypeTree) (l : Level) → out-TypeTree x ≡ l → type_marks x ≡ type_level type_marks l
type_as x l e = type_marks-out x ∙ ap (type_level type_marks) e

type_deep : (x : TypeTree) (l : Level) → out-TypeTree x ≡ l → type_depth x ≡ type_depth_level type_depth l
type_deep x l e = type_depth-out x ∙ ap (type_depth_level type_depth) e

abbrev IsNamed : TypeTree → Type 0
IsNamed y = (x : Qual) × (types.Named x ≡ y)

abbrev IsEnumeration : TypeTree → Type 0
IsEnumeration y = (x : Place × Idents) × (types.Enumeration x.0 x.1 ≡ y)

abbrev IsSubrange : TypeTree → Type 0
IsSubrange y = (x : Place × (ExprOf Factor × ExprOf Factor)) × (types.Subrange x.0 x.1.0 x.1.1 ≡ y)

abbrev IsArray : TypeTree → Type 0
IsArray y = (x : Place × (TypeTree × (List TypeTree × TypeTree))) × (types.Array x.0 x.1.0 x.1.1.0 x.1.1.1 ≡ y)

abbrev IsRecord : TypeTree → Type 0
IsRecord y = (x : Place × (FieldsOf TypeTree × List (FieldsOf TypeTree))) × (types.Record x.0 x.1.0 x.1.1 ≡ y)

abbrev IsRelation : TypeTree → Type 0
IsRelation y = (x : Place × (Idents × Qual)) × (types.Relation x.0 x.1.0 x.1.1 ≡ y)

abbrev Cases : TypeTree → Type 0
Cases y = IsEnumeration y ⊎ (IsSubrange y ⊎ (IsArray y ⊎ (IsRecord y ⊎ (IsRelation y ⊎ IsNamed y))))

type_cases : (y : TypeTree) → Cases y
type_cases y = by_level (out-TypeTree y) (roll-out-TypeTree y)
  where
    by_level : (l : Level) → roll-TypeTree l ≡ y → Cases y
    by_level (open_types.Enumeration place names) is = inl ((place, names), sym (types.rolls-Enumeration place names) ∙ is)
    by_level (open_types.Subrange place low high) is =
        inr (inl ((place, (low, high)), sym (types.rolls-Subrange place low high) ∙ is))
    by_level (open_types.Array place index others element) is =
        inr (inr (inl ((place, (index, (others, element))), sym (types.rolls-Array place index others element) ∙ is)))
    by_level (open_types.Record place first others) is =
        inr (inr (inr (inl ((place, (first, others)), sym (types.rolls-Record place first others) ∙ is))))
    by_level (open_types.Relation place keys q) is =
        inr (inr (inr (inr (inl ((place, (keys, q)), sym (types.rolls-Relation place keys q) ∙ is)))))
    by_level (open_types.Named q) is = inr (inr (inr (inr (inr (q, sym (types.rolls-Named q) ∙ is)))))

module _ {limit : ℕ} {inner : Inner} {type : Parser TypeTree} (laws : InnerLaw limit inner) (law : Every type_marks type_depth limit type_first type_more false type) where
  law_enumeration : Law type_marks type_depth (suc limit) (left_parenthesis ∷ []) type_more false IsEnumeration enumeration
  unfolding enumeration
  law_enumeration =
      law_wider (left_parenthesis ∷ []) type_more refl refl (variant type_marks type_depth (law_counted (both (law_here limit) (law_after left_parenthesis refl (law_closed right_parenthesis refl refl (law_idents limit))) refl)) (λ found. types.Enumeration found.0 found.1) (λ x. type_as (types.Enumeration x.0 x.1) _ (types.outs-Enumeration x.0 x.1)) (λ x. type_deep (types.Enumeration x.0 x.1) _ (types.outs-Enumeration x.0 x.1)))

  law_subrange : Law type_marks type_depth (suc limit) (left_bracket ∷ []) type_more false IsSubrange (subrange inner)
  unfolding subrange
  law_subrange =
      law_wider (left_bracket ∷ []) type_more refl refl (variant type_marks type_depth (law_counted (both (law_here limit) (law_after left_bracket refl (both laws.expr (law_after ellipsis refl (law_closed right_bracket refl refl laws.expr)) refl)) refl)) (λ found. types.Subrange found.0 found.1.0 found.1.1) (λ x. type_as (types.Subrange x.0 x.1.0 x.1.1) _ (types.outs-Subrange x.0 x.1.0 x.1.1)) (λ x. let one = type_deep (types.Subrange x.0 x.1.0 x.1.1) _ (types.outs-Subrange x.0 x.1.0 x.1.1) in omega (arith, one)))

  law_array : Law type_marks type_depth (suc limit) (word_array ∷ []) type_more false IsArray (array type)
  unfolding array
  law_array =
      law_wider (word_array ∷ []) type_more refl refl (variant type_marks type_depth (law_counted (both (law_here limit) (law_after word_array refl (both law (both (all_those (law_after comma refl law) refl) (law_after word_of refl law) refl) refl)) refl)) (λ found. types.Array found.0 found.1.0 found.1.1.0 found.1.1.1) (λ x. type_as (types.Array x.0 x.1.0 x.1.1.0 x.1.1.1) _ (types.outs-Array x.0 x.1.0 x.1.1.0 x.1.1.1)) (λ x. let one = type_deep (types.Array x.0 x.1.0 x.1.1.0 x.1.1.1) _ (types.outs-Array x.0 x.1.0 x.1.1.0 x.1.1.1) in omega (arith, one)))

  law_record_type : Law type_marks type_depth (suc limit) (word_record ∷ []) type_more false IsRecord (record_type type)
  unfolding record_type
  law_record_type =
      law_wider (word_record ∷ []) type_more refl refl (variant type_marks type_depth (law_counted (both (law_here limit) (law_after word_record refl (law_closed word_end refl refl (both (law_fields law) (all_those (law_after semicolon refl (law_fields law)) refl) refl))) refl)) (λ found. types.Record found.0 found.1.0 found.1.1) (λ x. type_as (types.Record x.0 x.1.0 x.1.1) _ (types.outs-Record x.0 x.1.0 x.1.1) ∙ ap (λ (ms : List Mark). Before x.0 ∷ Of word_record ∷ ms) (sym (append_assoc (fields_marks type_marks x.1.0) (further_marks semicolon (fields_marks type_marks) x.1.1) (Of word_end ∷ [])))) (λ x. let one = type_deep (types.Record x.0 x.1.0 x.1.1) _ (types.outs-Record x.0 x.1.0 x.1.1) in omega (arith, one)))

  law_relation_type : Law type_marks type_depth (suc limit) (word_relation ∷ []) type_more false IsRelation relation_type
  unfolding relation_type
  law_relation_type =
      law_wider (word_relation ∷ []) type_more refl refl (variant type_marks type_depth (law_counted (both (law_here limit) (law_after word_relation refl (both (law_idents limit) (law_after word_of refl (law_qual limit)) refl)) refl)) (λ found. types.Relation found.0 found.1.0 found.1.1) (λ x. type_as (types.Relation x.0 x.1.0 x.1.1) _ (types.outs-Relation x.0 x.1.0 x.1.1)) (λ x. type_deep (types.Relation x.0 x.1.0 x.1.1) _ (types.outs-Relation x.0 x.1.0 x.1.1)))

  law_named_type : Law type_marks type_depth (suc limit) ident_first type_more false IsNamed (types.Named <$> qual)
  law_named_type =
      variant type_marks type_depth (law_counted (law_qual limit)) types.Named (λ x. type_as (types.Named x) _ (types.outs-Named x)) (λ x. type_deep (types.Named x) _ (types.outs-Named x))

  pub law_type_with : Every type_marks type_depth (suc limit) type_first type_more false (type_by inner type)
  unfolding type_by
  law_type_with =
      law_all (λ (y : TypeTree). Unit {0}) (λ y is. type_cases y) (λ y is. tt) (law_either law_enumeration (law_either law_subrange (law_either law_array (law_either law_record_type (law_either law_relation_type law_named_type refl) refl) refl) refl) refl)

type_counts : (x : TypeTree) → type_depth x ≤ 0 → ⊥
type_counts x h = by_level (out-TypeTree x) (subst (λ (k : ℕ). k ≤ 0) (type_depth-out x) h)
  where
    by_level : (l : Level) → type_depth_level type_depth l ≤ 0 → ⊥
    by_level (open_types.Named q) h = not-suc-le-zero h
    by_level (open_types.Enumeration place names) h = not-suc-le-zero h
    by_level (open_types.Subrange place low high) h = not-suc-le-zero h
    by_level (open_types.Array place index others element) h = not-suc-le-zero h
    by_level (open_types.Record place first others) h = not-suc-le-zero h
    by_level (open_types.Relation place keys q) h = not-suc-le-zero h

pub law_type : (depth : ℕ) → Every type_marks type_depth depth type_first type_more false (type_at depth)
unfolding type_at
law_type zero =
    law_deep type_marks type_depth 0 type_first type_more type_first false (λ (x : TypeTree). Unit {0}) ready_type type_counts
law_type (suc depth) = law_type_with (inner_law depth) (law_type depth)
