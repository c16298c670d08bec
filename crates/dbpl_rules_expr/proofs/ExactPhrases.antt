-- That the judgement of each phrase of an expression is exact, in a scope that is known.
use Rattle.std.proofs.Common.{◌≡◌, ℕ, Bool, true, false, List, [], ◌∷◌, map, length, Option, Some, None, IfSome, option_map, refl, subst}
use Rattle.std.specs.Prelude.{if◌then◌else◌}
use Rattle.std.specs.Option.{option_map_or}
use Rattle.dbpl_base.specs.declared.place.Place.{Place}
use Rattle.dbpl_base.specs.declared.refusal.Refusal.{Refusal}
use Rattle.dbpl_judging.proofs.Silencing.{both_silences, then_silences}
use Rattle.dbpl_judging.specs.Judgements.{Judged, asks, both, breaks, each, each_at, good, made, of, paired, unbuilt, ◌>>=◌, ◌>>?◌, ◌>>◌}
use Rattle.dbpl_judging.specs.Silences.{IsSilent}
use Rattle.dbpl_judging.specs.declared.setting.Setting.{Setting}
use Rattle.dbpl_judging.specs.declared.typed.Typed.{Typed}
use Rattle.dbpl_rules_calls.proofs.Silencing.{called_silences, function_rules_silences}
use Rattle.dbpl_rules_calls.proofs.Speaking.{call_speaks}
use Rattle.dbpl_rules_calls.proofs.Suiting.{Suits, characters_suits, counted_suits, each_suits, kind_suits, standard_suits, suits, then_suits, value_suits, variable_suits}
use Rattle.dbpl_rules_calls.specs.Arguments.{characters_argument, counted_argument, kind_argument, standard_argument, value_argument, variable_argument}
use Rattle.dbpl_rules_calls.specs.Asking.{asked, asked_by}
use Rattle.dbpl_rules_calls.specs.Results.{called, function_rules}
use Rattle.dbpl_rules_calls.specs.Rules.{is_relation_type}
use Rattle.dbpl_rules_calls.specs.declared.argument.Argument.TheVariants as arguments
use Rattle.dbpl_rules_calls.specs.declared.argument.Argument.{Argument}
use Rattle.dbpl_rules_calls.specs.declared.asked.Asked.TheVariants as places
use Rattle.dbpl_rules_calls.specs.declared.asked.Asked.{Asked}
use Rattle.dbpl_rules_calls.specs.declared.denoted.Denoted.{Denoted}
use Rattle.dbpl_rules_expr.proofs.ExactRules.{arithmetic_exact, character_exact, characters_argument_exact, compared_exact, counted_argument_exact, kind_argument_exact, logical_exact, negated_exact, number_exact, signed_exact, standard_argument_exact, text_exact, value_argument_exact, variable_argument_exact}
use Rattle.dbpl_rules_expr.proofs.Exactness.{after_exact, asks_exact, both_exact, breaks_exact, each_at_exact, each_exact, folded_exact, good_exact, if_exact, known_exact, made_exact, option_exact, then_exact, unbuilt_exact}
use Rattle.dbpl_rules_expr.proofs.Induction.{Keeps, KeepsLevels, factor_keeps}
use Rattle.dbpl_rules_expr.proofs.Known.{IsKnownWord, word_known}
use Rattle.dbpl_rules_expr.specs.Aggregates.{brace, brace_level, brace_named, counted_kind, packed, packed_rules}
use Rattle.dbpl_rules_expr.specs.Calls.{Designated, Given, argument, arguments_for, asked_of, call, call_by, callee, callee_level, callee_named, given_by, is_lone, of_nothing, only_value, or_breaks}
use Rattle.dbpl_rules_expr.specs.Designators.{alone, at_field, at_index, at_part, at_subscripts, begun, built, changed_by, constant_named, denoted, denoted_by, index_rules, is_kind_or_module, kind, kind_level, kind_named, operand_named, part_indices, reached, read, root_of, target, to_field, unasked, variable, variable_level, variable_named, with_reached}
use Rattle.dbpl_rules_expr.specs.Exact.{IsExact}
use Rattle.dbpl_rules_expr.specs.Expressions.{argument_at, callee_judged, factor_judged, given_judged, judge_expr, judge_factor, kind_judged, named_by, target_judged, variable_judged}
use Rattle.dbpl_rules_expr.specs.Names.{Named, Word, declared, is_qual_whole, known_level, meant, named, qual_named, second_word, whole_name, whole_word, word}
use Rattle.dbpl_rules_expr.specs.Productions.{Judging, aggregate_value, called_or_not, designator, element_value, expr, factor_given, given_value, multiplied, placed, relation_of, sign_of, signed_term, simple, summed, term, value, with_right}
use Rattle.dbpl_rules_expr.specs.Rules.{S32, S33, S34, S53}
use Rattle.dbpl_rules_expr.specs.declared.reached.Reached.{Reached}
use Rattle.dbpl_rules_operators.specs.Operators.{compared, negated, signed}
use Rattle.dbpl_symbols.specs.Known.{IsKnown, IsKnownItself, IsKnownLevel}
use Rattle.dbpl_symbols.specs.declared.decl.Decl.TheOpen as decls
use Rattle.dbpl_symbols.specs.declared.decl.Decl.{Decl, Decl-F, out-Decl}
use Rattle.dbpl_tree.specs.FirstTokens.{designator_place, qual_place}
use Rattle.dbpl_tree.specs.Plain.{arguments_in, exprs_in, is_empty}
use Rattle.dbpl_tree.specs.declared.aggregate.Aggregate.{Aggregate-F}
use Rattle.dbpl_tree.specs.declared.designator.ArgumentsOf.{ArgumentsOf}
use Rattle.dbpl_tree.specs.declared.designator.DesignatorOf.{DesignatorOf}
use Rattle.dbpl_tree.specs.declared.designator.PartOf.TheVariants as parts
use Rattle.dbpl_tree.specs.declared.designator.PartOf.{PartOf}
use Rattle.dbpl_tree.specs.declared.element.Element.TheOpen as forms
use Rattle.dbpl_tree.specs.declared.element.Element.{Element-F}
use Rattle.dbpl_tree.specs.declared.expr.ComparedOf.{ComparedOf}
use Rattle.dbpl_tree.specs.declared.expr.ExprOf.{ExprOf}
use Rattle.dbpl_tree.specs.declared.factor.Factor.{Factor, Factor-F}
use Rattle.dbpl_tree.specs.declared.ident.Ident.{Ident}
use Rattle.dbpl_tree.specs.declared.ident.Qual.{Qual}
use Rattle.dbpl_tree.specs.declared.operators.AddingOperator.TheVariants as adding
use Rattle.dbpl_tree.specs.declared.operators.AddingOperator.{AddingOperator}
use Rattle.dbpl_tree.specs.declared.operators.MultiplyingOperator.TheVariants as multiplying
use Rattle.dbpl_tree.specs.declared.operators.MultiplyingOperator.{MultiplyingOperator}
use Rattle.dbpl_tree.specs.declared.operators.SignOperator.{SignOperator}
use Rattle.dbpl_tree.specs.declared.simple.SimpleOf.{SimpleOf}
use Rattle.dbpl_tree.specs.declared.term.TermOf.{TermOf}
use Rattle.dbpl_value.specs.Types.{fields_of, type_named}
use Rattle.dbpl_value.specs.declared.db_type.DbType.{DbType}

-- ---- names

known_level_exact : {D E P : Type 0} (decl : Decl) (level : Decl-F D E P) → IsKnownLevel level → IsExact (known_level decl level)
known_level_exact decl decls.Unknown known = absurd known
known_level_exact decl _ known = good_exact decl

meant_exact : (rule : ℕ) (place : Place) (found : Option Decl) → IfSome found IsKnownItself → IsExact (meant rule place found)
meant_exact rule place None known = breaks_exact rule place
meant_exact rule place (Some decl) known = known_level_exact decl (out-Decl decl) known

pub declared_exact : (word : Word) → IsKnownWord word → IsExact (declared word)
declared_exact word known = meant_exact word.rule word.ident.place word.found known

whole_word_exact : (place : Place) (stands_alone : Bool) (word : Word) → IsKnownWord word → IsExact (whole_word place stands_alone word)
whole_word_exact place true word known = declared_exact word known
whole_word_exact place false word known =
    then_exact (declared word) (λ decl. breaks 12 place) (declared_exact word known) (λ decl. breaks_exact 12 place)

pub qual_named_exact : (setting : Setting) (q : Qual) → IsKnown setting.scope → IsExact (qual_named setting q)
qual_named_exact setting q known =
    whole_word_exact q.first.place (is_qual_whole (word setting q.first q.second).behind_module q.second)
    (word setting q.first q.second) (word_known setting q.first q.second known)

-- what the name of a designator means isn't unknown
named_known :
    {F : Type 0} (setting : Setting) (head : Ident) (all : List (PartOf F)) → IsKnown setting.scope →
    IsKnownWord (named setting head all).word
named_known setting head all known = word_known setting head (second_word all) known

-- ---- variables

variable_level_exact :
    {D E P : Type 0} (place : Place) (name : List ℕ) (level : Decl-F D E P) → IsExact (variable_level place name level)
variable_level_exact place name (decls.Variable t sort) =
    option_exact _ (root_of name sort) unbuilt (λ root. good_exact _) unbuilt_exact
variable_level_exact place name _ = breaks_exact 12 place

variable_named_exact : {F : Type 0} (place : Place) (name : Named F) → IsKnownWord name.word → IsExact (variable_named place name)
variable_named_exact place name known =
    then_exact (declared name.word) (variable place name.word.ident.name) (declared_exact name.word known)
    (λ decl. variable_level_exact place name.word.ident.name (out-Decl decl))

-- ---- parts of variables

to_field_exact : (place : Place) (t : DbType) (before : Reached) (position : Option ℕ) → IsExact (to_field place t before position)
to_field_exact place t before None = breaks_exact 32 place
to_field_exact place t before (Some position) = good_exact _

at_field_exact : (place : Place) (name : List ℕ) (before : Reached) → IsExact (at_field place name before)
unfolding at_field
at_field_exact place name before =
    to_field_exact place (type_named before.kind (fields_of before.kind) name) before (S32 before.kind name)

built_exact : (before : Reached) → IsExact (built before)
built_exact before =
    if_exact (is_relation_type before.kind) unbuilt (good before) unbuilt_exact (good_exact before)

-- what comes behind two rules that are kept
behind_rules :
    {A : Type 0} (place first : Place) (one other : Bool) (next : Judged A) → (other ≡ true → IsExact next) →
    IsExact (asks 33 place one >> asks 34 first other >> next)
behind_rules place first true true next exact = exact refl
behind_rules place first true false next exact = record { speaks = λ none clean. cc; silences = λ resolved is. absurd (cc) }
behind_rules place first false other next exact = record { speaks = λ none clean. cc; silences = λ resolved is. absurd (cc) }

-- S34 is kept by one index alone.
at_index_exact :
    (t : DbType) (indices : List Typed) (before : Reached) → S34 t (map (λ index. index.facts) indices) ≡ true →
    IsExact (at_index indices before)
at_index_exact t [] before holds = absurd (cc)
at_index_exact t (index ∷ []) before holds = good_exact _
at_index_exact t (index ∷ other ∷ others) before holds = absurd (cc)

at_subscripts_exact :
    (place first : Place) (before : Reached) (indices : List Typed) → IsExact (at_subscripts place first before indices)
unfolding at_subscripts index_rules
at_subscripts_exact place first before indices =
    behind_rules place first (S33 before.kind) (S34 before.kind (map (λ index. index.facts) indices)) (at_index indices before)
    (at_index_exact before.kind indices before)

with_reached_speaks :
    {A B C : Type 0} (make : A × B → C) (whole : A) (core : Option B) (breaches : List Refusal) →
    (core ≡ None → breaches ≡ [] → ⊥) → option_map make (paired (Some whole) core) ≡ None → breaches ≡ [] → ⊥
with_reached_speaks make whole None breaches first none clean = first refl clean
with_reached_speaks make whole (Some known) breaches first none clean = cc

with_reached_silent :
    {A B C : Type 0} (make : A × B → C) (whole : A) (core : Option B) (breaches : List Refusal) → IsSilent breaches core →
    IsSilent breaches (option_map make (paired (Some whole) core))
with_reached_silent make whole None breaches first resolved is = absurd (cc)
with_reached_silent make whole (Some known) breaches first resolved is = first known refl

with_reached_exact : (whole : Denoted) (found : Judged Reached) → IsExact found → IsExact (with_reached (Some whole) found)
with_reached_exact whole found exact = record {
  speaks = with_reached_speaks _ whole found.core found.breaches exact.speaks;
  silences = with_reached_silent _ whole found.core found.breaches exact.silences;
}

module _ {F : Type 0} (judge : ExprOf F → Judged Typed) (exact : (e : ExprOf F) → IsExact (judge e)) where
  at_part_exact : (part : PartOf F) (before : Reached) → IsExact (at_part judge part (Some before))
  at_part_exact (parts.Field x) before = at_field_exact x.place x.name before
  at_part_exact (parts.Subscripts place es) before =
      then_exact (both (of built (Some before)) (each judge (exprs_in es)))
      (λ found. at_subscripts place es.first.place found.0 found.1)
      (both_exact (built before) (each judge (exprs_in es)) (built_exact before) (each_exact judge (exprs_in es) exact))
      (λ found. at_subscripts_exact place es.first.place found.0 found.1)

  -- behind nothing no part leads anywhere
  nowhere : (part : PartOf F) → (at_part judge part None).core ≡ None
  nowhere (parts.Field x) = refl
  nowhere (parts.Subscripts place es) = refl

  reached_exact : (taken : List (PartOf F)) (start : Judged Reached) → IsExact start → IsExact (reached judge start taken)
  reached_exact [] start first = first
  reached_exact (part ∷ taken) start first =
      reached_exact taken (start >>? at_part judge part)
      (known_exact start (at_part judge part) first (at_part_exact part) (nowhere part))

  denoted_by_exact : (taken : List (PartOf F)) (whole : Denoted) → IsExact (denoted_by judge taken (Some whole))
  denoted_by_exact [] whole = good_exact whole
  denoted_by_exact (part ∷ taken) whole =
      with_reached_exact whole (reached judge (good (begun whole)) (part ∷ taken))
      (reached_exact (part ∷ taken) (good (begun whole)) (good_exact (begun whole)))

  none_denoted : (taken : List (PartOf F)) → (denoted_by judge taken None).core ≡ None
  none_denoted [] = refl
  none_denoted (part ∷ taken) = refl

  changed_by_exact : (taken : List (PartOf F)) (whole : Denoted) → IsExact (changed_by judge taken (Some whole))
  changed_by_exact taken whole =
      made_exact (λ found. found.1) (both (asks 53 whole.designator.place (S53 whole)) (denoted_by judge taken (Some whole)))
      (both_exact (asks 53 whole.designator.place (S53 whole)) (denoted_by judge taken (Some whole))
      (asks_exact 53 whole.designator.place (S53 whole)) (denoted_by_exact taken whole))

  indices_exact : (part : PartOf F) → IsExact (part_indices judge part)
  indices_exact (parts.Field x) = good_exact []
  indices_exact (parts.Subscripts place es) = each_exact judge (exprs_in es) exact

  module _ (place : Place) (name : Named F) (known : IsKnownWord name.word) where
    denoted_exact : IsExact (denoted judge place name)
    denoted_exact =
        known_exact (variable_named place name) (denoted_by judge name.parts) (variable_named_exact place name known)
        (denoted_by_exact name.parts) (none_denoted name.parts)

    target_exact : IsExact (target judge place name)
    target_exact =
        known_exact (variable_named place name) (changed_by judge name.parts) (variable_named_exact place name known)
        (changed_by_exact name.parts) refl

    alone_exact : IsExact (alone judge place name)
    alone_exact =
        made_exact (λ found. found.0) (both (whole_name place name) (each (part_indices judge) name.parts))
        (both_exact (whole_name place name) (each (part_indices judge) name.parts)
        (whole_word_exact place (is_empty name.parts) name.word known) (each_exact (part_indices judge) name.parts indices_exact))

kind_level_exact : {D E P : Type 0} (place : Place) (level : Decl-F D E P) → IsExact (kind_level place level)
kind_level_exact place (decls.Kind t) = good_exact t
kind_level_exact place _ = breaks_exact 12 place

module _
    {F : Type 0} (judge : ExprOf F → Judged Typed) (exact : (e : ExprOf F) → IsExact (judge e)) (place : Place)
    (name : Named F) (known : IsKnownWord name.word) where
  kind_named_exact : IsExact (kind_named judge place name)
  kind_named_exact =
      then_exact (alone judge place name) (kind place) (alone_exact judge exact place name known)
      (λ decl. kind_level_exact place (out-Decl decl))

  operand_exact : IsExact (operand_named judge place name)
  operand_exact =
      option_exact good (constant_named place name) (made read (denoted judge place name)) good_exact
      (made_exact read (denoted judge place name) (denoted_exact judge exact place name known))

  unasked_exact : IsExact (unasked judge place name)
  unasked_exact =
      if_exact (is_kind_or_module name) (good tt) (made (λ e. tt) (operand_named judge place name)) (good_exact tt)
      (made_exact (λ e. tt) (operand_named judge place name) operand_exact)

-- ---- whatever is asked of a phrase

pub record DesignatedExact (one : Designated) : Type 0 where
  pub variable : IsExact one.variable
  pub target : IsExact one.target
  pub kind : IsExact one.kind
  pub unasked : IsExact one.unasked

pub record GivenExact (given : Given) : Type 0 where
  pub value : IsExact given.value
  pub designated : IfSome given.designated DesignatedExact

only_exact : (judged : Judged Typed) → IsExact judged → GivenExact (only_value judged)
only_exact judged exact = record { value = exact; designated = tt }

some_exact :
    {A : Type 0} (judge : Designated → Judged A) (found : Option Designated) (other : Judged A) →
    IfSome found DesignatedExact → ((one : Designated) → DesignatedExact one → IsExact (judge one)) → IsExact other →
    IsExact (option_map_or judge found other)
some_exact judge None other law first second = second
some_exact judge (Some one) other law first second = first one law

or_breaks_exact :
    {A : Type 0} (rule : ℕ) (place : Place) (asked : Designated → Judged A) (given : Given) → GivenExact given →
    ((one : Designated) → DesignatedExact one → IsExact (asked one)) → IsExact (or_breaks rule place asked given)
or_breaks_exact rule place asked given law first =
    some_exact asked given.designated (given.value >>= λ e. breaks rule place) law.designated first
    (then_exact given.value (λ e. breaks rule place) law.value (λ e. breaks_exact rule place))

of_nothing_exact : (given : Given) → GivenExact given → IsExact (of_nothing given)
of_nothing_exact given law =
    some_exact (λ one. one.unasked) given.designated (made (λ e. tt) given.value) law.designated (λ one law. law.unasked)
    (made_exact (λ e. tt) given.value law.value)

argument_exact : (asked : Asked) (place : Place) (given : Given) → GivenExact given → IsExact (argument asked place given)
argument_exact (places.Value t) place given law =
    then_exact given.value (value_argument t) law.value (value_argument_exact t)
argument_exact (places.Variable t) place given law =
    then_exact (or_breaks 38 place (λ one. one.variable) given) (variable_argument t)
    (or_breaks_exact 38 place (λ one. one.variable) given law (λ one law. law.variable)) (variable_argument_exact t)
argument_exact (places.Standard which) place given law =
    then_exact given.value (standard_argument which) law.value (standard_argument_exact which)
argument_exact places.Counted place given law =
    then_exact (or_breaks 53 place (λ one. one.target) given) counted_argument
    (or_breaks_exact 53 place (λ one. one.target) given law (λ one law. law.target)) counted_argument_exact
argument_exact places.Kind place given law =
    then_exact (or_breaks 40 place (λ one. one.kind) given) (kind_argument place)
    (or_breaks_exact 40 place (λ one. one.kind) given law (λ one law. law.kind)) (kind_argument_exact place)
argument_exact places.Characters place given law =
    then_exact given.value characters_argument law.value characters_argument_exact
argument_exact places.Nothing place given law =
    made_exact (λ none. arguments.Nothing) (of_nothing given) (of_nothing_exact given law)

-- ---- calls

callee_level_exact :
    {D E P : Type 0} (place : Place) (decl : Decl) (level : Decl-F D E P) → IsExact (callee_level place decl level)
callee_level_exact place decl (decls.Routine owner head) = good_exact decl
callee_level_exact place decl (decls.Standard which) = good_exact decl
callee_level_exact place decl (decls.InOut which head) = good_exact decl
callee_level_exact place decl _ = breaks_exact 12 place

-- ---- what an argument resolves to is what its place asks for

of_core :
    (core : Option (Unit {0})) (found : Argument) → option_map (λ none. arguments.Nothing) core ≡ Some found →
    suits places.Nothing found ≡ true
of_core None found is = absurd (cc)
of_core (Some none) found is =
    let same : arguments.Nothing ≡ found = cc in
    subst (λ one. suits places.Nothing one ≡ true) same refl

argument_suits : (asked : Asked) (place : Place) (given : Given) → Suits asked (argument asked place given)
argument_suits (places.Value t) place given = then_suits (places.Value t) given.value (value_argument t) (value_suits t)
argument_suits (places.Variable t) place given =
    then_suits (places.Variable t) (or_breaks 38 place (λ one. one.variable) given) (variable_argument t) (variable_suits t)
argument_suits (places.Standard which) place given =
    then_suits (places.Standard which) given.value (standard_argument which) (standard_suits which)
argument_suits places.Counted place given =
    then_suits places.Counted (or_breaks 53 place (λ one. one.target) given) counted_argument counted_suits
argument_suits places.Kind place given =
    then_suits places.Kind (or_breaks 40 place (λ one. one.kind) given) (kind_argument place) (kind_suits place)
argument_suits places.Characters place given =
    then_suits places.Characters given.value characters_argument characters_suits
argument_suits places.Nothing place given = of_core (of_nothing given).core

-- ---- the arguments, and the call

module _ {F : Type 0} (given : ExprOf F → Given) (laws : (e : ExprOf F) → GivenExact (given e)) where
  arguments_exact : (asked : List Asked) (es : List (ExprOf F)) → IsExact (arguments_for given asked es)
  arguments_exact asked es =
      each_at_exact (λ number e. argument (asked_of asked number) e.place (given e)) 0 es
      (λ number e. argument_exact (asked_of asked number) e.place (given e) (laws e))

  call_by_exact : (place : Place) (es : List (ExprOf F)) (decl : Decl) → IsExact (call_by given place es (Some decl))
  call_by_exact place es decl =
      let places : List Asked = asked decl (length es) in
      let judged : Judged (List Argument) = arguments_for given places es in
      let exact : IsExact judged = arguments_exact places es in
      record {
        speaks =
            call_speaks place (length es) decl judged exact.speaks
            (each_suits places (λ number e. argument (asked_of places number) e.place (given e))
            (λ number e. argument_suits (asked_of places number) e.place (given e)) 0 es);
        silences =
            then_silences (both (function_rules place (length es) decl) judged) (λ found. called place found.0 found.1)
            (both_silences (function_rules place (length es) decl) judged (function_rules_silences place (length es) decl) exact.silences)
            (λ found. called_silences place found.0 found.1);
      }

  callee_exact : (place : Place) (name : Named F) → IsKnownWord name.word → IsExact (callee_named (λ e. (given e).value) place name)
  callee_exact place name known =
      then_exact (alone (λ e. (given e).value) place name) (callee place)
      (alone_exact (λ e. (given e).value) (λ e. (laws e).value) place name known)
      (λ decl. callee_level_exact place decl (out-Decl decl))

  call_exact : (place : Place) (name : Named F) (es : List (ExprOf F)) → IsKnownWord name.word → IsExact (call given place name es)
  call_exact place name es known =
      known_exact (callee_named (λ e. (given e).value) place name) (call_by given place es) (callee_exact place name known)
      (call_by_exact place es) refl

-- ---- productions

multiplied_exact : (place : Place) (operator : MultiplyingOperator) (a b : Typed) → IsExact (multiplied place operator a b)
multiplied_exact place multiplying.Times a b = arithmetic_exact place _ a b
multiplied_exact place multiplying.Div a b = arithmetic_exact place _ a b
multiplied_exact place multiplying.Mod a b = arithmetic_exact place _ a b
multiplied_exact place multiplying.And a b = logical_exact place _ a b
multiplied_exact place multiplying.Ampersand a b = logical_exact place _ a b

summed_exact : (place : Place) (operator : AddingOperator) (a b : Typed) → IsExact (summed place operator a b)
summed_exact place adding.Plus a b = arithmetic_exact place _ a b
summed_exact place adding.Minus a b = arithmetic_exact place _ a b
summed_exact place adding.Or a b = logical_exact place _ a b

signed_term_exact :
    (place : Place) (sign : Option SignOperator) (first : Judged Typed) → IsExact first → IsExact (signed_term place sign first)
signed_term_exact place None first exact = exact
signed_term_exact place (Some sign) first exact =
    then_exact first (signed place (sign_of sign)) exact (signed_exact place (sign_of sign))

module _ {F : Type 0} (factor : F → Judged Typed) (exact : (f : F) → IsExact (factor f)) where
  term_exact : (t : TermOf F) → IsExact (term factor t)
  term_exact t =
      folded_exact (λ m. factor m.factor) (λ m. multiplied m.place m.operator) (factor t.first) t.others
      (λ m. exact m.factor) (λ m. multiplied_exact m.place m.operator) (exact t.first)

  simple_exact : (s : SimpleOf F) → IsExact (simple factor s)
  simple_exact s =
      folded_exact (λ a. term factor a.term) (λ a. summed a.place a.operator)
      (signed_term s.place s.sign (term factor s.first)) s.others (λ a. term_exact a.term)
      (λ a. summed_exact a.place a.operator)
      (signed_term_exact s.place s.sign (term factor s.first) (term_exact s.first))

  right_exact : (left : Judged Typed) (right : Option (ComparedOf F)) → IsExact left → IsExact (with_right factor left right)
  right_exact left None first = first
  right_exact left (Some c) first =
      then_exact (both left (simple factor c.right)) (λ sides. compared c.place (relation_of c.relation) sides.0 sides.1)
      (both_exact left (simple factor c.right) first (simple_exact c.right))
      (λ sides. compared_exact c.place (relation_of c.relation) sides.0 sides.1)

  expr_exact : (e : ExprOf F) → IsExact (expr factor e)
  expr_exact e = right_exact (simple factor e.left) e.right (simple_exact e.left)

-- ---- one level

if_designated :
    (test : Bool) (found : Option Designated) → IfSome found DesignatedExact →
    IfSome (if test then found else None) DesignatedExact
if_designated true found law = law
if_designated false found law = tt

module _
    {F : Type 0} (factor : F → Given) (laws : (f : F) → GivenExact (factor f)) (setting : Setting)
    (known : IsKnown setting.scope) where
  pub value_exact : (e : ExprOf F) → IsExact (value factor e)
  value_exact e = expr_exact (given_value factor) (λ f. (laws f).value) e

  given_exact : (e : ExprOf F) → GivenExact (given_by factor (value factor) e)
  given_exact e = record {
    value = value_exact e;
    designated = if_designated (is_lone e) (factor e.left.first.first).designated (laws e.left.first.first).designated;
  }

  designator_exact : (d : DesignatorOf F) → GivenExact (designator factor setting d)
  designator_exact d =
      let name : Named F = named setting d.head d.parts in
      let is_known : IsKnownWord name.word = named_known setting d.head d.parts known in
      record {
        value = operand_exact (value factor) value_exact (designator_place d) name is_known;
        designated = record {
          variable = denoted_exact (value factor) value_exact (designator_place d) name is_known;
          target = target_exact (value factor) value_exact (designator_place d) name is_known;
          kind = kind_named_exact (value factor) value_exact (designator_place d) name is_known;
          unasked = unasked_exact (value factor) value_exact (designator_place d) name is_known;
        };
      }

  called_or_not_exact : (d : DesignatorOf F) (a : Option (ArgumentsOf F)) → GivenExact (called_or_not factor setting d a)
  called_or_not_exact d None = designator_exact d
  called_or_not_exact d (Some a) =
      only_exact (call (given_by factor (value factor)) (designator_place d) (named setting d.head d.parts) (arguments_in a))
      (call_exact (given_by factor (value factor)) given_exact (designator_place d) (named setting d.head d.parts)
      (arguments_in a) (named_known setting d.head d.parts known))

brace_level_exact : {D E P : Type 0} (place : Place) (level : Decl-F D E P) → IsExact (brace_level place level)
brace_level_exact place (decls.Kind t) =
    if_exact (is_relation_type t) unbuilt (good t) unbuilt_exact (good_exact t)
brace_level_exact place (decls.Constructor owner head t depth) = unbuilt_exact
brace_level_exact place _ = breaks_exact 12 place

counted_kind_exact : (place : Place) (count : ℕ) (t : DbType) → IsExact (counted_kind place count t)
unfolding counted_kind
counted_kind_exact place count t = search (after_exact, asks_exact, good_exact)

packed_exact : (place : Place) (t : DbType) (found : List Typed) → IsExact (packed place t found)
unfolding packed packed_rules
packed_exact place t found = search (after_exact, asks_exact, good_exact)

brace_named_exact : (setting : Setting) (q : Qual) → IsKnown setting.scope → IsExact (brace_named setting q)
brace_named_exact setting q known =
    then_exact (qual_named setting q) (brace q.first.place) (qual_named_exact setting q known)
    (λ decl. brace_level_exact q.first.place (out-Decl decl))

module _
    {E F R A C : Type 0} (j : Judging E F A) (setting : Setting) (known : IsKnown setting.scope)
    (laws : Keeps IsExact GivenExact j setting) where
  pub factor_exact : (x : Factor-F E F R A C) → GivenExact (factor_given j x setting)
  factor_exact (forms.Number place n) = only_exact _ (number_exact place n)
  factor_exact (forms.CharCode place code) = only_exact _ (character_exact place code)
  factor_exact (forms.Text place bytes) = only_exact _ (text_exact place bytes)
  factor_exact (forms.Factor::Aggregate a) = only_exact _ (laws.aggregate a)
  factor_exact (forms.Factor::Designator d a) = called_or_not_exact (λ f. j.factor f setting) laws.factor setting known d a
  factor_exact (forms.Parenthesized place e) =
      only_exact _
      (made_exact (placed place) (value (λ f. j.factor f setting) e)
      (value_exact (λ f. j.factor f setting) laws.factor setting known e))
  factor_exact (forms.Not place operator f) =
      only_exact _ (then_exact (j.factor f setting).value (negated place) (laws.factor f).value (negated_exact place))
  factor_exact (forms.Quantified place quantifier x r e) = only_exact _ unbuilt_exact

  pub element_exact : (x : Element-F E F R A C) → IsExact (element_value j x setting)
  element_exact (forms.Plain e) = value_exact (λ f. j.factor f setting) laws.factor setting known e
  element_exact (forms.Each c e) = unbuilt_exact
  element_exact (forms.Of target c cs e) = unbuilt_exact

  pub aggregate_exact : (x : Aggregate-F E F R A C) → IsExact (aggregate_value j x setting)
  aggregate_exact x =
      let kinds : Judged DbType = brace_named setting x.kind >>= counted_kind (qual_place x.kind) (length x.elements) in
      let elements : Judged (List Typed) = each (λ e. j.element e setting) x.elements in
      then_exact (both kinds elements) (λ found. packed (qual_place x.kind) found.0 found.1)
      (both_exact kinds elements
      (then_exact (brace_named setting x.kind) (counted_kind (qual_place x.kind) (length x.elements))
      (brace_named_exact setting x.kind known) (counted_kind_exact (qual_place x.kind) (length x.elements)))
      (each_exact (λ e. j.element e setting) x.elements laws.element))
      (λ found. packed_exact (qual_place x.kind) found.0 found.1)

-- ---- every tree

levels_exact : (setting : Setting) → IsKnown setting.scope → KeepsLevels IsExact GivenExact setting
levels_exact setting known = record {
  element = λ j laws. element_exact j setting known laws;
  factor = λ j laws. factor_exact j setting known laws;
  aggregate = λ j laws. aggregate_exact j setting known laws;
}

-- THE law of factors
pub judged_exact : (setting : Setting) → IsKnown setting.scope → (f : Factor) → GivenExact (judge_factor f setting)
judged_exact setting known = factor_keeps IsExact GivenExact setting (levels_exact setting known)

-- THE law of expressions
pub expression_exact : (setting : Setting) → IsKnown setting.scope → (e : ExprOf Factor) → IsExact (judge_expr setting e)
unfolding judge_expr
expression_exact setting known = value_exact (factor_judged setting) (judged_exact setting known) setting known

-- THE law of expressions, whatever is asked of them
pub expression_given : (setting : Setting) → IsKnown setting.scope → (e : ExprOf Factor) → GivenExact (given_judged setting e)
unfolding judge_expr
expression_given setting known = given_exact (factor_judged setting) (judged_exact setting known) setting known

-- ---- the other phrases in expressions

module _ (setting : Setting) (known : IsKnown setting.scope) where
  pub variable_exact : (d : DesignatorOf Factor) → IsExact (variable_judged setting d)
  variable_exact d =
      denoted_exact (judge_expr setting) (expression_exact setting known) (designator_place d) (named_by setting d)
      (named_known setting d.head d.parts known)

  pub changed_exact : (d : DesignatorOf Factor) → IsExact (target_judged setting d)
  changed_exact d =
      target_exact (judge_expr setting) (expression_exact setting known) (designator_place d) (named_by setting d)
      (named_known setting d.head d.parts known)

  pub type_exact : (d : DesignatorOf Factor) → IsExact (kind_judged setting d)
  type_exact d =
      kind_named_exact (judge_expr setting) (expression_exact setting known) (designator_place d) (named_by setting d)
      (named_known setting d.head d.parts known)

  pub routine_exact : (d : DesignatorOf Factor) → IsExact (callee_judged setting d)
  routine_exact d =
      callee_exact (given_judged setting) (expression_given setting known) (designator_place d) (named_by setting d)
      (named_known setting d.head d.parts known)

  pub given_arguments_exact : (decl : Option Decl) (count : ℕ) (es : List (ExprOf Factor)) → IsExact (each_at (argument_at decl count setting) 0 es)
  given_arguments_exact decl count es =
      arguments_exact (given_judged setting) (expression_given setting known) (asked_by decl count) es
