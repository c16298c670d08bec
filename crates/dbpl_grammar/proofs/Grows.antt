-- What is read where fewer phrases may stand inside one another is read where more may.
use Rattle.std.proofs.Common.{◌≡◌, ℕ, zero, suc, ◌≤◌, Bool, true, false, List, [], ◌∷◌, ◌++◌, length, Some, Ok, Err, arith, not-suc-le-zero, if◌then◌else◌}
use Rattle.dbpl_base.specs.declared.lexeme.Lexeme.{Lexeme}
use Rattle.dbpl_base.specs.declared.token.Token.{Token}
use Rattle.dbpl_tree.specs.declared.aggregate.Aggregate.{Aggregate}
use Rattle.dbpl_tree.specs.declared.designator.DesignatorOf.{DesignatorOf}
use Rattle.dbpl_tree.specs.declared.designator.PartOf.TheVariants.{Field, Subscripts}
use Rattle.dbpl_tree.specs.declared.element.Element.TheVariants as elements
use Rattle.dbpl_tree.specs.declared.designator.ArgumentsOf.{ArgumentsOf}
use Rattle.dbpl_tree.specs.declared.designator.PartOf.{PartOf}
use Rattle.dbpl_tree.specs.declared.each.Each.{Each}
use Rattle.dbpl_tree.specs.declared.expr.ComparedOf.{ComparedOf}
use Rattle.dbpl_tree.specs.declared.expr.ExprOf.{ExprOf}
use Rattle.dbpl_tree.specs.declared.expr.ExprsOf.{ExprsOf}
use Rattle.dbpl_tree.specs.declared.simple.AddedOf.{AddedOf}
use Rattle.dbpl_tree.specs.declared.simple.SimpleOf.{SimpleOf}
use Rattle.dbpl_tree.specs.declared.term.MultipliedOf.{MultipliedOf}
use Rattle.dbpl_tree.specs.declared.term.TermOf.{TermOf}
use Rattle.dbpl_tree.specs.declared.factor.Factor.{Factor}
use Rattle.dbpl_tree.specs.declared.factor.Factor.TheVariants as factors
use Rattle.dbpl_tree.specs.Words.{colon, comma, full_stop, left_brace, left_bracket, left_parenthesis, right_brace, right_bracket, right_parenthesis, word_each, word_in, word_of}
use Rattle.dbpl_grammar.specs.Expressions.{Braced, Called, Inner, added, adding_first, adding_of, aggregate, all_of, arguments, at_depth, behind, braced, called, char_code, compared, designator, each, each_of, element, element_first, element_made, expr, expr_first, exprs, factor, ident, ident_first, is_qual, multiplied, multiplying_first, multiplying_of, named, named_made, negated, not_first, not_of, number, parenthesized, part, part_first, qual, quantified, quantifier_first, quantifier_of, range, range_made, relation_of, relations_first, sign_of, signs_first, simple, subscripts, term, text}
use Rattle.dbpl_grammar.specs.Lexemes.{a_char_code, a_number, a_text}
use Rattle.dbpl_grammar.specs.Reading.{Parser, Refused, ◌>>=◌, ◌<$>◌, ◌⊗◌, ◌⊗>◌, after, begins, closed, either, expect, here, leaf, many, many_from, nothing, optional, too_deep}
use Rattle.dbpl_grammar.proofs.OpenLaw.{err}
use Rattle.dbpl_grammar.proofs.TokenLaw.{both_ok, err_isnt}

-- the second reads all that the first reads
abbrev pub Grows : {A : Type 0} → Parser A → Parser A → Type 0
Grows {A = A} read wider = (tokens rest : List Token) (found : A) → read tokens ≡ Ok (found, rest) → wider tokens ≡ Ok (found, rest)

grows_same : {A : Type 0} (read : Parser A) → Grows read read
grows_same read tokens rest found e = e

grows_deep : {A : Type 0} (set : List Lexeme) (wider : Parser A) → Grows (too_deep set) wider
grows_deep {A = A} set wider tokens rest found e = by_begins (begins set tokens) e
  where
    by_begins : (b : Bool) → (if b then err {A = A × List Token} (record { reason = Rattle.dbpl_grammar.specs.Reading.Deep; rest = tokens }) else Err (record { reason = Rattle.dbpl_grammar.specs.Reading.Wrong; rest = tokens })) ≡ Ok (found, rest) → wider tokens ≡ Ok (found, rest)
    by_begins true e = absurd (err_isnt _ _ e)
    by_begins false e = absurd (err_isnt _ _ e)

grows_map : {A B : Type 0} {read wider : Parser A} → Grows read wider → (make : A → B) → Grows (make <$> read) (make <$> wider)
grows_map {read = read} g make tokens rest found e =
    let one = both_ok (read tokens) (λ x. Ok (make x.0, x.1)) (found, rest) e in
    rw (g tokens one.0.1 one.0.0 one.1) one.2

grows_then : {A B : Type 0} {read wider : Parser A} {next more : A → Parser B} → Grows read wider → ((x : A) → Grows (next x) (more x)) → Grows (read ⊗> next) (wider ⊗> more)
grows_then {read = read} {next = next} g h tokens rest found e =
    let one = both_ok (read tokens) (λ x. next x.0 x.1 >>= λ y. Ok ((x.0, y.0), y.1)) (found, rest) e in
    let two = both_ok (next one.0.0 one.0.1) (λ y. Ok ((one.0.0, y.0), y.1)) (found, rest) one.2 in
    rw (g tokens one.0.1 one.0.0 one.1, h one.0.0 one.0.1 two.0.1 two.0.0 two.1) two.2

grows_both : {A B : Type 0} {read wider : Parser A} {next more : Parser B} → Grows read wider → Grows next more → Grows (read ⊗ next) (wider ⊗ more)
grows_both g h = grows_then g (λ x. h)

grows_after : {A : Type 0} {read wider : Parser A} (lexeme : Lexeme) → Grows read wider → Grows (after lexeme read) (after lexeme wider)
grows_after {read = read} lexeme g tokens rest found e =
    let one = both_ok (expect lexeme tokens) (λ behind. read behind) (found, rest) e in
    rw one.1 (g one.0 rest found one.2)

grows_closed : {A : Type 0} {read wider : Parser A} (lexeme : Lexeme) → Grows read wider → Grows (closed read lexeme) (closed wider lexeme)
grows_closed {read = read} lexeme g tokens rest found e =
    let one = both_ok (read tokens) (λ x. expect lexeme x.1 >>= λ behind. Ok (x.0, behind)) (found, rest) e in
    rw (g tokens one.0.1 one.0.0 one.1) one.2

grows_either : {A : Type 0} {read wider other more : Parser A} (set : List Lexeme) → Grows read wider → Grows other more → Grows (either set read other) (either set wider more)
grows_either {A = A} {read = read} {wider = wider} {other = other} {more = more} set g h tokens rest found e =
    by_begins (begins set tokens) e
  where
    by_begins : (b : Bool) → (if b then read tokens else other tokens) ≡ Ok (found, rest) → (if b then wider tokens else more tokens) ≡ Ok (found, rest)
    by_begins true e = g tokens rest found e
    by_begins false e = h tokens rest found e

grows_optional : {A : Type 0} {read wider : Parser A} (set : List Lexeme) → Grows read wider → Grows (optional set read) (optional set wider)
grows_optional {A = A} set g = grows_either set (grows_map g (λ (x : A). Some x)) (grows_same nothing)

grows_many_from : {A : Type 0} {read wider : Parser A} (set : List Lexeme) → Grows read wider → (turns : ℕ) (before : List A) → Grows (many_from set read turns before) (many_from set wider turns before)
grows_many_from set g zero before tokens rest found e = e
grows_many_from {A = A} {read = read} {wider = wider} set g (suc turns) before tokens rest found e =
    by_begins (λ before tokens e. grows_many_from set g turns before tokens rest found e) (begins set tokens) e
  where
    by_begins : ((before : List A) (tokens : List Token) → many_from set read turns before tokens ≡ Ok (found, rest) → many_from set wider turns before tokens ≡ Ok (found, rest)) → (b : Bool) → (if b then (read tokens >>= λ next. many_from set read turns (before ++ next.0 ∷ []) next.1) else Ok (before, tokens)) ≡ Ok (found, rest) → (if b then (wider tokens >>= λ next. many_from set wider turns (before ++ next.0 ∷ []) next.1) else Ok (before, tokens)) ≡ Ok (found, rest)
    by_begins again true e =
        let one = both_ok (read tokens) (λ next. many_from set read turns (before ++ next.0 ∷ []) next.1) (found, rest) e in
        rw (g tokens one.0.1 one.0.0 one.1) (again (before ++ one.0.0 ∷ []) one.0.1 one.2)
    by_begins again false e = e

grows_many : {A : Type 0} {read wider : Parser A} (set : List Lexeme) → Grows read wider → Grows (many set read) (many set wider)
grows_many set g tokens rest found e = grows_many_from set g (suc (length tokens)) [] tokens rest found e

-- ---- expressions over factors

module _ {F : Type 0} {factor wider : Parser F} (g : Grows factor wider) where
  grows_multiplied : Grows (multiplied factor) (multiplied wider)
  unfolding multiplied
  grows_multiplied =
      grows_map {B = MultipliedOf F} (grows_both (grows_same here) (grows_both (grows_same (leaf multiplying_of)) g)) (λ found. record { place = found.0; operator = found.1.0; factor = found.1.1 })

  grows_term : Grows (term factor) (term wider)
  unfolding term
  grows_term =
      grows_map {B = TermOf F} (grows_both (grows_same here) (grows_both g (grows_many multiplying_first grows_multiplied))) (λ found. record { place = found.0; first = found.1.0; others = found.1.1 })

  grows_added : Grows (added factor) (added wider)
  unfolding added
  grows_added =
      grows_map {B = AddedOf F} (grows_both (grows_same here) (grows_both (grows_same (leaf adding_of)) grows_term)) (λ found. record { place = found.0; operator = found.1.0; term = found.1.1 })

  grows_simple : Grows (simple factor) (simple wider)
  unfolding simple
  grows_simple =
      grows_map {B = SimpleOf F} (grows_both (grows_same here) (grows_both (grows_same (optional signs_first (leaf sign_of))) (grows_both grows_term (grows_many adding_first grows_added)))) (λ found. record { place = found.0; sign = found.1.0; first = found.1.1.0; others = found.1.1.1 })

  grows_compared : Grows (compared factor) (compared wider)
  unfolding compared
  grows_compared =
      grows_map {B = ComparedOf F} (grows_both (grows_same here) (grows_both (grows_same (leaf relation_of)) grows_simple)) (λ found. record { place = found.0; relation = found.1.0; right = found.1.1 })

  grows_expr : Grows (expr factor) (expr wider)
  unfolding expr
  grows_expr =
      grows_map {B = ExprOf F} (grows_both (grows_same here) (grows_both grows_simple (grows_optional relations_first grows_compared))) (λ found. record { place = found.0; left = found.1.0; right = found.1.1 })

-- ---- designators over expressions

module _ {F : Type 0} {read wider : Parser (ExprOf F)} (g : Grows read wider) where
  grows_exprs : Grows (exprs read) (exprs wider)
  unfolding exprs
  grows_exprs =
      grows_map {B = ExprsOf F} (grows_both g (grows_many (comma ∷ []) (grows_after comma g))) (λ found. record { first = found.0; others = found.1 })

  grows_arguments : Grows (arguments read) (arguments wider)
  unfolding arguments
  grows_arguments =
      grows_map {B = ArgumentsOf F} (grows_both (grows_same here) (grows_after left_parenthesis (grows_closed right_parenthesis (grows_optional expr_first grows_exprs)))) (λ found. record { place = found.0; exprs = found.1 })

  grows_subscripts : Grows (subscripts read) (subscripts wider)
  unfolding subscripts
  grows_subscripts =
      grows_both (grows_same here) (grows_after left_bracket (grows_closed right_bracket grows_exprs))

  grows_part : Grows (part read) (part wider)
  unfolding part
  grows_part =
      grows_either (full_stop ∷ []) (grows_map {B = PartOf F} (grows_same (after full_stop ident)) Field) (grows_map {B = PartOf F} grows_subscripts (λ found. Subscripts found.0 found.1))

  pub grows_designator : Grows (designator read) (designator wider)
  unfolding designator
  grows_designator =
      grows_map {B = DesignatorOf F} (grows_both (grows_same ident) (grows_many part_first grows_part)) (λ found. record { head = found.0; parts = found.1 })

-- ---- factors over what counts

pub record GrowsInner (inner wider : Inner) : Type 0 where
  pub expr : Grows inner.expr wider.expr
  pub range : Grows inner.range wider.range
  pub negated : Grows inner.negated wider.negated

module _ {inner wider : Inner} (g : GrowsInner inner wider) where
  grows_each : Grows (each inner) (each wider)
  unfolding each
  grows_each =
      grows_map {B = Each} (grows_both (grows_same here) (grows_after word_each (grows_both (grows_same ident) (grows_after word_in g.range)))) (λ found. record { place = found.0; variable = found.1.0; range = found.1.1 })

  grows_each_of : Grows (each_of inner) (each_of wider)
  unfolding each_of
  grows_each_of =
      grows_after word_of (grows_both grows_each (grows_both (grows_many (comma ∷ []) (grows_after comma grows_each)) (grows_after colon g.expr)))

  grows_element : Grows (element inner) (element wider)
  unfolding element
  grows_element =
      grows_either (word_each ∷ []) (grows_map (grows_both grows_each (grows_after colon g.expr)) (λ found. elements.Each found.0 found.1)) (grows_map (grows_both g.expr (grows_optional (word_of ∷ []) grows_each_of)) element_made)

  grows_braced : Grows (braced inner) (braced wider)
  unfolding braced
  grows_braced =
      grows_map (grows_after left_brace (grows_closed right_brace (grows_optional element_first (grows_both grows_element (grows_many (comma ∷ []) (grows_after comma grows_element)))))) all_of

  pub grows_aggregate : Grows (aggregate inner) (aggregate wider)
  unfolding aggregate
  grows_aggregate =
      grows_map {B = Aggregate} (grows_both (grows_same qual) grows_braced) (λ found. record { kind = found.0; elements = found.1 })

  grows_range : Grows (range inner) (range wider)
  unfolding range
  grows_range = grows_map (grows_then (grows_designator g.expr) (λ found. by_qual (is_qual found))) range_made
    where
      by_qual : (b : Bool) → Grows (if b then optional (left_brace ∷ []) (braced inner) else nothing) (if b then optional (left_brace ∷ []) (braced wider) else nothing)
      by_qual true = grows_optional (left_brace ∷ []) grows_braced
      by_qual false = grows_same nothing

  grows_called : Grows (called inner) (called wider)
  unfolding called
  grows_called = grows_map (grows_optional (left_parenthesis ∷ []) (grows_arguments g.expr)) Called

  grows_behind : (found : DesignatorOf Factor) → Grows (behind inner found) (behind wider found)
  unfolding behind
  grows_behind found = by_qual (is_qual found)
    where
      by_qual : (b : Bool) → Grows (if b then either (left_brace ∷ []) (Braced <$> braced inner) (called inner) else called inner) (if b then either (left_brace ∷ []) (Braced <$> braced wider) (called wider) else called wider)
      by_qual true = grows_either (left_brace ∷ []) (grows_map grows_braced Braced) grows_called
      by_qual false = grows_called

  grows_named : Grows (named inner) (named wider)
  unfolding named
  grows_named = grows_map (grows_then (grows_designator g.expr) grows_behind) named_made

  grows_quantified : Grows (quantified inner) (quantified wider)
  unfolding quantified
  grows_quantified =
      grows_map (grows_both (grows_same here) (grows_both (grows_same (leaf quantifier_of)) (grows_both (grows_same ident) (grows_both (grows_after word_in g.range) (grows_after left_parenthesis (grows_closed right_parenthesis g.expr)))))) (λ found. factors.Quantified found.0 found.1.0 found.1.1.0 found.1.1.1.0 found.1.1.1.1)

  grows_parenthesized : Grows (parenthesized inner) (parenthesized wider)
  unfolding parenthesized
  grows_parenthesized =
      grows_map (grows_both (grows_same here) (grows_after left_parenthesis (grows_closed right_parenthesis g.expr))) (λ found. factors.Parenthesized found.0 found.1)

  grows_factor : Grows (factor inner) (factor wider)
  unfolding factor
  grows_factor =
      grows_either (a_number ∷ []) (grows_same number) (grows_either (a_char_code ∷ []) (grows_same char_code) (grows_either (a_text ∷ []) (grows_same text) (grows_either (left_parenthesis ∷ []) grows_parenthesized (grows_either not_first (grows_map g.negated (λ found. factors.Not found.0 found.1.0 found.1.1)) (grows_either quantifier_first grows_quantified grows_named)))))

  grows_negated : Grows (negated inner) (negated wider)
  unfolding negated
  grows_negated = grows_both (grows_same here) (grows_both (grows_same (leaf not_of)) grows_factor)

-- ---- at every depth

pub grows_at_depth : (depth more : ℕ) → depth ≤ more → GrowsInner (at_depth depth) (at_depth more)
unfolding at_depth
grows_at_depth zero more h = record {
  expr = grows_deep expr_first (at_depth more).expr;
  range = grows_deep ident_first (at_depth more).range;
  negated = grows_deep not_first (at_depth more).negated;
}
grows_at_depth (suc depth) zero h = absurd (not-suc-le-zero h)
grows_at_depth (suc depth) (suc more) h = record {
  expr = grows_expr (grows_factor (grows_at_depth depth more (omega arith)));
  range = grows_range (grows_at_depth depth more (omega arith));
  negated = grows_negated (grows_at_depth depth more (omega arith));
}
