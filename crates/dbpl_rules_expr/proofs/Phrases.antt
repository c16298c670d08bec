-- The judgements of the phrases in an expression, from the judgements of their parts.
use Rattle.std.proofs.Common.{◌≡◌, ℕ, ◌+◌, ◌<◌, Bool, true, false, List, [], ◌∷◌, length, take, get_or, suc, Option, Some, None, option_map, Result, Ok, Err, IfOk, IsOkAnd, refl, ap, sym, subst, append-nil, arith, ◌∙◌}
use Rattle.std.proofs.lemmas.List.Sums.{fold_more}
use Rattle.std.specs.Prelude.{if◌then◌else◌}
use Rattle.std.specs.List.{fold}
use Rattle.std.specs.Option.{option_map_or}
use Rattle.dbpl_base.specs.declared.memory.Memory.{Memory}
use Rattle.dbpl_base.specs.declared.place.Place.{Place}
use Rattle.dbpl_core.specs.declared.expr.CoreExpr.{CoreExpr}
use Rattle.dbpl_core.specs.declared.step_of.CoreStepOf.{CoreStepOf}
use Rattle.dbpl_judging.proofs.Lists.{one_core}
use Rattle.dbpl_core.specs.declared.relation.Relation.{Relation as CoreRelation}
use Rattle.dbpl_core.specs.declared.sign.Sign.{Sign}
use Rattle.dbpl_judging.proofs.Sequence.{one_more_at, one_more_of_list, then, then_both, then_known, together}
use Rattle.dbpl_judging.specs.Checking.{Checking, noting}
use Rattle.dbpl_judging.specs.Judgements.{Judged, added, both, breaks, each, each_at, good, made, of, of_both, paired, ◌>>=◌, ◌>>?◌}
use Rattle.dbpl_judging.specs.Judging.{Judges}
use Rattle.dbpl_judging.specs.declared.setting.Setting.{Setting}
use Rattle.dbpl_judging.specs.declared.typed.Typed.{Typed}
use Rattle.dbpl_rules_expr.proofs.Levels.{aggregate-out, element-out, factor-out}
use Rattle.dbpl_rules_expr.specs.Aggregates.{brace_named, counted_kind, packed}
use Rattle.dbpl_rules_expr.specs.Calls.{Designated, callee, is_lone, or_breaks}
use Rattle.dbpl_rules_calls.specs.Results.{called, function_rules}
use Rattle.dbpl_rules_calls.specs.declared.argument.Argument.{Argument}
use Rattle.dbpl_rules_calls.specs.declared.asked.Asked.{Asked}
use Rattle.dbpl_rules_calls.specs.declared.denoted.Denoted.{Denoted}
use Rattle.dbpl_rules_calls.specs.declared.argument.Argument.TheVariants as arguments
use Rattle.dbpl_rules_expr.specs.Expressions.{alone_judged, argument_at, argument_judged, call_judged, callee_judged, changed_judged, element_opened, elements_judged, exprs_judged, factor_opened, factor_value, first_judged, given_judged, indices_judged, judge_aggregate, judge_element, judge_expr, judge_factor, judging, kind_judged, lone_designator, lone_level, named_by, nothing_given, operand_judged, part_judged, parts_judged, simple_judged, target_judged, term_judged, unasked_judged, whole_judged}
use Rattle.dbpl_rules_expr.specs.Designators.{at_subscripts, begun, built, denoted_by, kind, kind_behind, part_of, reached, variable_named}
use Rattle.dbpl_rules_expr.specs.Names.{whole_name}
use Rattle.dbpl_rules_expr.specs.Productions.{aggregate_value, called_or_not, designated, factor_given, relation_of, sign_of, signed_term, with_right}
use Rattle.dbpl_rules_expr.specs.Reaching.{Reaches, reach}
use Rattle.dbpl_rules_expr.specs.declared.reached.Reached.{Reached}
use Rattle.dbpl_tree.specs.FirstTokens.{designator_place, qual_place}
use Rattle.dbpl_tree.specs.declared.aggregate.Aggregate.{Aggregate, out-Aggregate}
use Rattle.dbpl_tree.specs.Plain.{arguments_in, exprs_in, is_empty}
use Rattle.dbpl_tree.specs.declared.designator.ArgumentsOf.{ArgumentsOf}
use Rattle.dbpl_tree.specs.declared.designator.DesignatorOf.{DesignatorOf}
use Rattle.dbpl_tree.specs.declared.designator.PartOf.{PartOf}
use Rattle.dbpl_tree.specs.declared.designator.PartOf.TheVariants as parts
use Rattle.dbpl_tree.specs.declared.each.Each.{Each}
use Rattle.dbpl_tree.specs.declared.element.Element.{Element}
use Rattle.dbpl_tree.specs.declared.element.Element.TheOpen as forms
use Rattle.dbpl_tree.specs.declared.element.Element.TheViews.{out-roll-Factor}
use Rattle.dbpl_tree.specs.declared.expr.ComparedOf.{ComparedOf}
use Rattle.dbpl_tree.specs.declared.expr.ExprOf.{ExprOf}
use Rattle.dbpl_tree.specs.declared.expr.ExprsOf.{ExprsOf}
use Rattle.dbpl_tree.specs.declared.factor.Factor.{Factor, Factor-F, out-Factor}
use Rattle.dbpl_tree.specs.declared.factor.Factor.TheVariants as factors
use Rattle.dbpl_rules_operators.specs.Operators.{compared, signed}
use Rattle.dbpl_symbols.specs.declared.decl.Decl.{Decl}
use Rattle.dbpl_tree.specs.declared.operators.SignOperator.{SignOperator}
use Rattle.dbpl_tree.specs.declared.range.Range.{Range}
use Rattle.dbpl_tree.specs.declared.simple.SimpleOf.{SimpleOf}
use Rattle.dbpl_value.specs.Types.{element_of}
use Rattle.dbpl_value.specs.declared.db_type.DbType.{DbType}

-- ---- by a level

moved :
    {A : Type 0} (judged other : Judged A) (result : Result (Option A) Memory) (old new : Checking) → judged ≡ other →
    Judges other result old new → Judges judged result old new
moved judged other result old new same met = subst (λ (one : Judged _). Judges one result old new) (sym same) met

pub factor_met :
    (f : Factor) (result : Result (Option Typed) Memory) (old new : Checking) →
    Judges (factor_opened old.setting f) result old new → Judges (factor_value old.setting f) result old new
factor_met f result old new =
    moved (factor_value old.setting f) (factor_opened old.setting f) result old new (λ i. (factor-out f i old.setting).value)

pub element_met :
    (e : Element) (result : Result (Option Typed) Memory) (old new : Checking) →
    Judges (element_opened old.setting e) result old new → Judges (judge_element e old.setting) result old new
element_met e result old new =
    moved (judge_element e old.setting) (element_opened old.setting e) result old new (λ i. element-out e i old.setting)

pub aggregate_met :
    (a : Aggregate) (result : Result (Option Typed) Memory) (old new : Checking) →
    Judges (aggregate_value judging (out-Aggregate a) old.setting) result old new →
    Judges (judge_aggregate a old.setting) result old new
aggregate_met a result old new =
    moved (judge_aggregate a old.setting) (aggregate_value judging (out-Aggregate a) old.setting) result old new
    (λ i. aggregate-out a i old.setting)

-- ---- expressions that are a designator alone

abbrev pub designated_as : Setting → DesignatorOf Factor → Designated
designated_as setting d = designated (judge_expr setting) (designator_place d) (named_by setting d)

lone_opened :
    (setting : Setting) (level : Factor-F Element Factor Range Aggregate Each) →
    (factor_given judging level setting).designated ≡ option_map (designated_as setting) (lone_level level)
unfolding judge_expr
lone_opened setting (forms.Number place n) = refl
lone_opened setting (forms.CharCode place code) = refl
lone_opened setting (forms.Text place bytes) = refl
lone_opened setting (forms.Factor::Aggregate a) = refl
lone_opened setting (forms.Factor::Designator d None) = refl
lone_opened setting (forms.Factor::Designator d (Some a)) = refl
lone_opened setting (forms.Parenthesized place e) = refl
lone_opened setting (forms.Not place operator f) = refl
lone_opened setting (forms.Quantified place quantifier x r e) = refl

lone_where :
    (setting : Setting) (is : Bool) (f : Factor) →
    (if is then (judge_factor f setting).designated else None)
    ≡ option_map (designated_as setting) (if is then lone_level (out-Factor f) else None)
lone_where setting true f = (λ i. (factor-out f i setting).designated) ∙ lone_opened setting (out-Factor f)
lone_where setting false f = refl

lone :
    (setting : Setting) (e : ExprOf Factor) (found : Option (DesignatorOf Factor)) → found ≡ lone_designator e →
    (given_judged setting e).designated ≡ option_map (designated_as setting) found
lone setting e found is =
    lone_where setting (is_lone e) e.left.first.first ∙ ap (option_map (designated_as setting)) (sym is)

-- where a designator alone is asked for by what it is, and this rule is broken by all else
pub lone_met :
    {A : Type 0} (asked : Designated → Judged A) (rule : ℕ) (e : ExprOf Factor) (d : DesignatorOf Factor)
    (result : Result (Option A) Memory) (old new : Checking) → Some d ≡ lone_designator e →
    Judges (asked (designated_as old.setting d)) result old new →
    Judges (or_breaks rule e.place asked (given_judged old.setting e)) result old new
lone_met asked rule e d result old new is =
    let otherwise : Judged _ = judge_expr old.setting e >>= λ value. breaks rule e.place in
    moved (or_breaks rule e.place asked (given_judged old.setting e)) (asked (designated_as old.setting d)) result old new
    (ap (λ (found : Option Designated). option_map_or asked found otherwise) (lone old.setting e (Some d) is))

pub other_met :
    {A : Type 0} (asked : Designated → Judged A) (rule : ℕ) (e : ExprOf Factor) (result : Result (Option A) Memory)
    (old new : Checking) → None ≡ lone_designator e →
    Judges (judge_expr old.setting e >>= λ value. breaks rule e.place) result old new →
    Judges (or_breaks rule e.place asked (given_judged old.setting e)) result old new
other_met asked rule e result old new is =
    let otherwise : Judged _ = judge_expr old.setting e >>= λ value. breaks rule e.place in
    moved (or_breaks rule e.place asked (given_judged old.setting e)) otherwise result old new
    (ap (λ (found : Option Designated). option_map_or asked found otherwise) (lone old.setting e None is))

pub unasked_met :
    (e : ExprOf Factor) (d : DesignatorOf Factor) (result : Result (Option Argument) Memory) (old new : Checking) →
    Some d ≡ lone_designator e → Judges (unasked_judged old.setting d) result old new →
    Judges (nothing_given old.setting e) result old new
unasked_met e d result old new is =
    let otherwise : Judged (Unit {0}) = made (λ value. tt {0}) (judge_expr old.setting e) in
    moved (nothing_given old.setting e) (unasked_judged old.setting d) result old new
    (ap (λ (found : Option Designated). made (λ none. arguments.Nothing) (option_map_or (λ one. one.unasked) found otherwise))
    (lone old.setting e (Some d) is))

-- ---- what is made of a part

pub made_met :
    {A B : Type 0} (make : A → B) (judged : Judged A) (core : Option A) (answer : Option B) (old new : Checking) →
    Judges judged (Ok core) old new → answer ≡ option_map make core → Judges (made make judged) (Ok answer) old new
made_met make judged core answer old new met is = (is ∙ ap (option_map make) met.0, met.1)

twice : {A : Type 0} (core : Option A) →
    option_map (λ known. arguments.Nothing) core ≡ option_map (λ none. arguments.Nothing) (option_map (λ known. tt {0}) core)
twice None = refl
twice (Some known) = refl

pub nothing_met :
    (e : ExprOf Factor) (core : Option Typed) (answer : Option Argument) (old new : Checking) → None ≡ lone_designator e →
    Judges (judge_expr old.setting e) (Ok core) old new → answer ≡ option_map (λ known. arguments.Nothing) core →
    Judges (nothing_given old.setting e) (Ok answer) old new
nothing_met e core answer old new is met made_of =
    let otherwise : Judged (Unit {0}) = made (λ value. tt {0}) (judge_expr old.setting e) in
    moved (nothing_given old.setting e) (made (λ none. arguments.Nothing) otherwise) (Ok answer) old new
    (ap (λ (found : Option Designated). made (λ none. arguments.Nothing) (option_map_or (λ one. one.unasked) found otherwise))
    (lone old.setting e None is))
    (made_of ∙ twice core ∙ ap (λ (part : Option Typed). option_map (λ none. arguments.Nothing) (option_map (λ known. tt {0}) part)) met.0, met.1)

pub made_answered :
    {A B : Type 0} (make : A → B) (judged : Judged A) (core : Option A) (result : Result (Option B) Memory) (old new : Checking) →
    Judges judged (Ok core) old new → IfOk result (λ answer. answer ≡ option_map make core) →
    Judges (made make judged) result old new
made_answered make judged core (Ok answer) old new met is = made_met make judged core answer old new met is
made_answered make judged core (Err error) old new met is = tt

-- what no constant is
pub no_constant :
    (constant : Option Typed) (judged : Judged Typed) (result : Result (Option Typed) Memory) (old new : Checking) →
    None ≡ constant → Judges judged result old new → Judges (option_map_or good constant judged) result old new
no_constant constant judged result old new is met =
    moved (option_map_or good constant judged) judged result old new
    (ap (λ (found : Option Typed). option_map_or good found judged) (sym is)) met

-- an operand of which nothing is asked, and which is no name of a type or a module
pub operand_unasked :
    (named : Bool) (judged : Judged Typed) (core : Option Typed) (answer : Option Argument) (old new : Checking) →
    false ≡ named → Judges judged (Ok core) old new → answer ≡ option_map (λ known. arguments.Nothing) core →
    Judges (made (λ none. arguments.Nothing) (if named then good tt else made (λ known. tt {0}) judged)) (Ok answer) old new
operand_unasked named judged core answer old new is met made_of =
    moved (made (λ none. arguments.Nothing) (if named then good tt else made (λ known. tt {0}) judged))
    (made (λ none. arguments.Nothing) (made (λ known. tt {0}) judged)) (Ok answer) old new
    (ap (λ (one : Bool). made (λ none. arguments.Nothing) (if one then good tt else made (λ known. tt {0}) judged)) (sym is))
    (made_of ∙ twice core ∙ ap (λ (part : Option Typed). option_map (λ none. arguments.Nothing) (option_map (λ known. tt {0}) part)) met.0, met.1)

-- two phrases side by side, and what is made of both
pub made_of_both :
    {A B C : Type 0} (make : A × B → C) (one : Judged A) (other : Setting → Judged B) (begun : Option A)
    (answer : Result (Option B) Memory) (first : Option A) (second : Option B) (result : Option C) (old middle new : Checking) →
    Judges one (Ok begun) old middle → Judges (other middle.setting) answer middle new →
    (first ≡ begun) × (answer ≡ Ok second) → result ≡ option_map make (paired first second) →
    Judges (made make (both one (other old.setting))) (Ok result) old new
made_of_both make one other begun answer first second result old middle new is also joined =
    made_met make (both one (other old.setting)) (paired first second) result old new
    (together one other begun answer first second old middle new is also joined)

-- ---- lists that have a first phrase

-- the first phrase of a list
pub first_of_list :
    {P B : Type 0} (judge : P → Judged B) (phrase : P) (answer : Result (Option B) Memory) (longer : Option (List B))
    (old new : Checking) → Judges (judge phrase) answer old new → IsOkAnd answer (λ part. longer ≡ added (Some []) part) →
    Judges (each judge (phrase ∷ [])) (Ok longer) old new
first_of_list judge phrase (Err error) longer old new met joined = absurd joined
first_of_list judge phrase (Ok part) longer old new met joined = (
  joined ∙ ap (added (Some [])) met.0 ∙ sym (one_core (judge phrase).core),
  met.1 ∙ ap (λ breaches. noting breaches old) (sym (append-nil (judge phrase).breaches)),
)

one_behind : (at : ℕ) → at + 1 ≡ suc at
one_behind at = omega arith

front : {P : Type 0} (first : P) (others : List P) (at : ℕ) → take (at + 1) (first ∷ others) ≡ first ∷ take at others
front first others at = ap (λ (n : ℕ). take n (first ∷ others)) (one_behind at)

behind : {P : Type 0} (first : P) (others : List P) (at : ℕ) (phrase : P) →
    get_or others at phrase ≡ get_or (first ∷ others) (at + 1) phrase
behind first others at phrase = ap (λ (n : ℕ). get_or (first ∷ others) n phrase) (sym (one_behind at))

-- one phrase more behind the first
pub next_of_list :
    {P B : Type 0} (judge : Setting → P → Judged B) (first : P) (others : List P) (at : ℕ) (phrase : P) (list : Option (List B))
    (answer : Result (Option B) Memory) (longer : Option (List B)) (old middle new : Checking) →
    at < length others → phrase ≡ get_or others at phrase →
    Judges (each (judge old.setting) (first ∷ take at others)) (Ok list) old middle →
    Judges (judge middle.setting phrase) answer middle new → IsOkAnd answer (λ part. longer ≡ added list part) →
    Judges (each (judge old.setting) (first ∷ take (at + 1) others)) (Ok longer) old new
next_of_list judge first others at phrase list answer longer old middle new within is before also joined =
    subst (λ (all : List _). Judges (each (judge old.setting) all) (Ok longer) old new) (front first others (at + 1))
    (one_more_of_list judge (first ∷ others) (at + 1) phrase list answer longer old middle new (omega (arith, within))
    (is ∙ behind first others at phrase)
    (subst (λ (all : List _). Judges (each (judge old.setting) all) (Ok list) old middle) (sym (front first others at)) before)
    also joined)

-- the same with numbers: the first phrase has the number 0
pub first_at :
    {P B : Type 0} (judge : ℕ → P → Judged B) (phrase : P) (answer : Result (Option B) Memory) (longer : Option (List B))
    (old new : Checking) → Judges (judge 0 phrase) answer old new → IsOkAnd answer (λ part. longer ≡ added (Some []) part) →
    Judges (each_at judge 0 (phrase ∷ [])) (Ok longer) old new
first_at judge phrase (Err error) longer old new met joined = absurd joined
first_at judge phrase (Ok part) longer old new met joined = (
  joined ∙ ap (added (Some [])) met.0 ∙ sym (one_core (judge 0 phrase).core),
  met.1 ∙ ap (λ breaches. noting breaches old) (sym (append-nil (judge 0 phrase).breaches)),
)

pub next_at :
    {P B : Type 0} (judge : Setting → ℕ → P → Judged B) (first : P) (others : List P) (at number : ℕ) (phrase : P)
    (list : Option (List B)) (answer : Result (Option B) Memory) (longer : Option (List B)) (old middle new : Checking) →
    at < length others → number ≡ at + 1 → phrase ≡ get_or others at phrase →
    Judges (each_at (judge old.setting) 0 (first ∷ take at others)) (Ok list) old middle →
    Judges (judge middle.setting number phrase) answer middle new → IsOkAnd answer (λ part. longer ≡ added list part) →
    Judges (each_at (judge old.setting) 0 (first ∷ take (at + 1) others)) (Ok longer) old new
next_at judge first others at number phrase list answer longer old middle new within counted is before also joined =
    subst (λ (all : List _). Judges (each_at (judge old.setting) 0 all) (Ok longer) old new) (front first others (at + 1))
    (one_more_at judge 0 (first ∷ others) (at + 1) number phrase list answer longer old middle new (omega (arith, within))
    (omega (arith, counted)) (is ∙ behind first others at phrase)
    (subst (λ (all : List _). Judges (each_at (judge old.setting) 0 all) (Ok list) old middle) (sym (front first others at)) before)
    also joined)

-- ---- parts of variables

abbrev pub reach_of :
    DbType → Result (Option (List (CoreStepOf CoreExpr))) Memory → Result (Option Reached) Memory
reach_of t (Ok steps) = Ok (reach t steps)
reach_of t (Err error) = Err error

pub reaches :
    (judged : Judged Reached) (t : DbType) (result : Result (Option (List (CoreStepOf CoreExpr))) Memory) (old new : Checking) →
    Judges judged (reach_of t result) old new → Reaches judged t result old new
reaches judged t (Ok steps) old new met = met
reaches judged t (Err error) old new met = tt

pub reached_by :
    (judged : Judged Reached) (t : DbType) (result : Result (Option (List (CoreStepOf CoreExpr))) Memory) (old new : Checking) →
    Reaches judged t result old new → Judges judged (reach_of t result) old new
reached_by judged t (Ok steps) old new met = met
reached_by judged t (Err error) old new met = tt

-- brackets, what stands before which and in which is judged
pub subscripts_met :
    {B : Type 0} (one : Judged Reached) (other : Setting → Judged (List B)) (next : Reached → List B → Judged Reached)
    (t behind : DbType) (begun first : Option (List (CoreStepOf CoreExpr))) (answer : Result (Option (List B)) Memory)
    (second : Option (List B)) (result : Result (Option (List (CoreStepOf CoreExpr))) Memory) (old middle last new : Checking) →
    Reaches one t (Ok begun) old middle → Judges (other middle.setting) answer middle last →
    (first ≡ begun) × (answer ≡ Ok second) → Reaches (of_both next (reach t first) second) behind result last new →
    Reaches (both one (other old.setting) >>= λ found. next found.0 found.1) behind result old new
subscripts_met one other next t behind begun first answer second result old middle last new is also joined asked =
    reaches (both one (other old.setting) >>= λ found. next found.0 found.1) behind result old new
    (then_both one other (λ setting. next) (reach t begun) answer (reach t first) second (reach_of behind result) old middle last
    new is also (ap (reach t) joined.0, joined.1) (reached_by (of_both next (reach t first) second) behind result last new asked))

-- one part more
pub more_parts :
    {P : Type 0} (judge : Setting → P → Option Reached → Judged Reached) (start : Judged Reached) (parts : List P) (at : ℕ) (part : P)
    (before after : Option Reached) (old middle new : Checking) →
    at < length parts → part ≡ get_or parts at part →
    Judges (fold (λ so_far one. so_far >>? judge old.setting one) start (take at parts)) (Ok before) old middle →
    Judges (judge middle.setting part before) (Ok after) middle new →
    Judges (fold (λ so_far one. so_far >>? judge old.setting one) start (take (at + 1) parts)) (Ok after) old new
more_parts {P = P} judge start parts at part before after old middle new within is met also =
    let step : Judged Reached → P → Judged Reached = λ so_far one. so_far >>? judge old.setting one in
    let front : Judged Reached = fold step start (take at parts) in
    let turn : Judges (step front part) (Ok after) old new =
    then_known front (λ setting. judge setting part) before (Ok after) old middle new met also in
    let whole : fold step start (take (at + 1) parts) ≡ step front part =
    fold_more step start parts at part within ∙ ap (step front) (sym is) in
    moved (fold step start (take (at + 1) parts)) (step front part) (Ok after) old new whole turn

-- the parts begin at the variable as a whole, where it is known
pub whole_begun :
    (whole : Option Denoted) (other : DbType) →
    of good (reach (option_map_or (λ (known : Denoted). known.kind) whole other) (option_map (λ (known : Denoted). []) whole))
    ≡ of (λ known. good (begun known)) whole
whole_begun None other = refl
whole_begun (Some known) other = refl

-- a variable with parts behind it, which were judged from where it begins
pub parts_met :
    {F : Type 0} (judge : ExprOf F → Judged Typed) (parts : List (PartOf F)) (whole : Option Denoted) (start : Judged Reached)
    (found : Option Reached) (answer : Option Denoted) (old new : Checking) → is_empty parts ≡ false →
    start ≡ of (λ known. good (begun known)) whole → Judges (reached judge start parts) (Ok found) old new →
    answer ≡ option_map (λ known. part_of known.0 known.1) (paired whole found) →
    Judges (denoted_by judge parts whole) (Ok answer) old new
parts_met judge [] whole start found answer old new some is met made_of = absurd (cc)
parts_met judge (part ∷ parts) whole start found answer old new some is met made_of =
    let there : Judges (reached judge (of (λ known. good (begun known)) whole) (part ∷ parts)) (Ok found) old new =
    subst (λ (one : Judged Reached). Judges (reached judge one (part ∷ parts)) (Ok found) old new) is met in (
      made_of ∙ ap (λ (one : Option Reached). option_map (λ known. part_of known.0 known.1) (paired whole one)) there.0,
      there.1,
    )

-- ---- answers that are handed on beside others

-- two phrases side by side, the first of which was judged before it was known whether there was room
pub then_both_given :
    {A B C : Type 0} (one : Judged A) (other : Setting → Judged B) (next : A → B → Judged C) (first : Result (Option A) Memory)
    (begun left : Option A) (answer given : Result (Option B) Memory) (right : Option B) (result : Result (Option C) Memory)
    (old middle last new : Checking) →
    Judges one first old middle → first ≡ Ok begun → Judges (other middle.setting) answer middle last → given ≡ answer →
    (left ≡ begun) × (given ≡ Ok right) → Judges (of_both next left right) result last new →
    Judges (both one (other old.setting) >>= λ found. next found.0 found.1) result old new
then_both_given one other next first begun left answer given right result old middle last new is known also same joined asked =
    then_both one other (λ setting. next) begun answer left right result old middle last new
    (subst (λ (part : Result (Option _) Memory). Judges one part old middle) known is) also
    (joined.0, sym same ∙ joined.1) asked

-- the same answer in place of another
pub answered :
    {A : Type 0} (judged : Judged A) (result other : Result (Option A) Memory) (old new : Checking) → result ≡ other →
    Judges judged other old new → Judges judged result old new
answered judged result other old new same met =
    subst (λ (part : Result (Option _) Memory). Judges judged part old new) (sym same) met

-- ---- each phrase, from what its calls say of its parts

pub aggregate_by :
    (a : Aggregate) (place other : Place) (count : ℕ) (named counted left : Option DbType)
    (answer : Result (Option (List Typed)) Memory) (parts : Option (List Typed)) (result : Result (Option Typed) Memory)
    (old first second last new : Checking) → place ≡ qual_place (out-Aggregate a).kind →
    other ≡ qual_place (out-Aggregate a).kind → count ≡ length (out-Aggregate a).elements →
    Judges (brace_named old.setting (out-Aggregate a).kind) (Ok named) old first →
    Judges (of (counted_kind place count) named) (Ok counted) first second →
    Judges (elements_judged second.setting (out-Aggregate a).elements) answer second last →
    (left ≡ counted) × (answer ≡ Ok parts) → Judges (of_both (packed other) left parts) result last new →
    Judges (judge_aggregate a old.setting) result old new
aggregate_by a place other count named counted left answer parts result old first second last new at also_at counts is_named is_counted met joined is_packed =
    let named_kind : Judged DbType = brace_named old.setting (out-Aggregate a).kind in
    let asked : DbType → Judged DbType = counted_kind (qual_place (out-Aggregate a).kind) (length (out-Aggregate a).elements) in
    let placed_asked : Judges (of (counted_kind (qual_place (out-Aggregate a).kind) count) named) (Ok counted) first second =
    subst (λ (one : Place). Judges (of (counted_kind one count) named) (Ok counted) first second) at is_counted in
    let all_asked : Judges (of asked named) (Ok counted) first second =
    subst (λ (n : ℕ). Judges (of (counted_kind (qual_place (out-Aggregate a).kind) n) named) (Ok counted) first second) counts placed_asked in
    aggregate_met a result old new
    (then_both (named_kind >>= asked) (λ setting. elements_judged setting (out-Aggregate a).elements)
    (λ setting. packed (qual_place (out-Aggregate a).kind)) counted answer left parts result old second last new
    ((then) named_kind (λ setting. asked) named (Ok counted) old first second is_named all_asked) met joined
    (subst (λ (one : Place). Judges (of_both (packed one) left parts) result last new) also_at is_packed))

-- the setting of a checker by which only breaches were noted
same_setting :
    {A : Type 0} (judged : Judged A) (core : Option A) (old new : Checking) → Judges judged (Ok core) old new →
    new.setting ≡ old.setting
same_setting judged core old new met = ap (λ (checker : Checking). checker.setting) met.1

pub alone_by :
    (d : DesignatorOf Factor) (setting : Setting) (parts : List (PartOf Factor)) (named left : Option Decl)
    (answer : Result (Option (List (List Typed))) Memory) (indices : Option (List (List Typed))) (result : Option Decl)
    (old middle new : Checking) → setting ≡ middle.setting → parts ≡ (named_by setting d).parts →
    Judges (whole_name (designator_place d) (named_by old.setting d)) (Ok named) old middle →
    Judges (each (indices_judged middle.setting) parts) answer middle new → (left ≡ named) × (answer ≡ Ok indices) →
    result ≡ option_map (λ found. found.0) (paired left indices) → Judges (alone_judged old.setting d) (Ok result) old new
alone_by d setting parts named left answer indices result old middle new current behind met also joined made_of =
    let name : Judged Decl = whole_name (designator_place d) (named_by old.setting d) in
    let same : setting ≡ old.setting = current ∙ same_setting name named old middle met in
    let behind_name : parts ≡ (named_by old.setting d).parts = behind ∙ ap (λ (one : Setting). (named_by one d).parts) same in
    made_of_both (λ found. found.0) name (λ one. each (indices_judged one) (named_by old.setting d).parts) named answer left indices
    result old middle new met
    (subst (λ (all : List (PartOf Factor)). Judges (each (indices_judged middle.setting) all) answer middle new) behind_name also)
    joined made_of

pub target_by :
    (d : DesignatorOf Factor) (setting : Setting) (parts : List (PartOf Factor)) (whole : Option Denoted)
    (result : Result (Option Denoted) Memory) (old middle new : Checking) → setting ≡ middle.setting →
    parts ≡ (named_by setting d).parts →
    Judges (variable_named (designator_place d) (named_by old.setting d)) (Ok whole) old middle →
    Judges (changed_judged middle.setting parts whole) result middle new → Judges (target_judged old.setting d) result old new
target_by d setting parts whole result old middle new current behind met also =
    let name : Judged Denoted = variable_named (designator_place d) (named_by old.setting d) in
    let same : setting ≡ old.setting = current ∙ same_setting name whole old middle met in
    let behind_name : parts ≡ (named_by old.setting d).parts = behind ∙ ap (λ (one : Setting). (named_by one d).parts) same in
    then_known name (λ one. changed_judged one (named_by old.setting d).parts) whole result old middle new met
    (subst (λ (all : List (PartOf Factor)). Judges (changed_judged middle.setting all whole) result middle new) behind_name also)

pub argument_by :
    {A : Type 0} (asked particular : Asked) (e : ExprOf Factor) (judged : Judged A) (next : A → Judged Argument) (core : Option A)
    (result : Result (Option Argument) Memory) (old middle new : Checking) → asked ≡ particular →
    argument_judged old.setting particular e ≡ (judged >>= next) → Judges judged (Ok core) old middle →
    Judges (of next core) result middle new → Judges (argument_judged old.setting asked e) result old new
argument_by asked particular e judged next core result old middle new is same met also =
    moved (argument_judged old.setting asked e) (judged >>= next) result old new
    (ap (λ (one : Asked). argument_judged old.setting one e) is ∙ same)
    ((then) judged (λ setting. next) core result old middle new met also)

pub callee_by :
    (d : DesignatorOf Factor) (place : Place) (decl : Option Decl) (result : Result (Option Decl) Memory) (old middle new : Checking) →
    place ≡ designator_place d → Judges (alone_judged old.setting d) (Ok decl) old middle →
    Judges (of (callee place) decl) result middle new → Judges (callee_judged old.setting d) result old new
callee_by d place decl result old middle new at met also =
    (then) (alone_judged old.setting d) (λ setting. callee (designator_place d)) decl result old middle new met
    (subst (λ (one : Place). Judges (of (callee one) decl) result middle new) at also)

pub kind_by :
    (d : DesignatorOf Factor) (place : Place) (decl : Option Decl) (result other : Result (Option DbType) Memory)
    (old middle new : Checking) → place ≡ designator_place d → Judges (alone_judged old.setting d) (Ok decl) old middle →
    Judges (of (kind place) decl) other middle new → result ≡ other → Judges (kind_judged old.setting d) result old new
kind_by d place decl result other old middle new at met also same =
    answered (kind_judged old.setting d) result other old new same
    ((then) (alone_judged old.setting d) (λ setting. kind (designator_place d)) decl other old middle new met
    (subst (λ (one : Place). Judges (of (kind one) decl) other middle new) at also))

pub designator_opened :
    (f : Factor) (d : DesignatorOf Factor) (a : Option (ArgumentsOf Factor)) → f ≡ factors.Designator d a →
    out-Factor f ≡ forms.Factor::Designator d a
designator_opened f d a is =
    ap out-Factor (is ∙ sym (factors.rolls-Designator d a)) ∙ out-roll-Factor (forms.Factor::Designator d a)

operand_level :
    (setting : Setting) (level : Factor-F Element Factor Range Aggregate Each) (d : DesignatorOf Factor)
    (a : Option (ArgumentsOf Factor)) → level ≡ forms.Factor::Designator d a → a ≡ None →
    (factor_given judging level setting).value ≡ operand_judged setting d
unfolding judge_expr
operand_level setting level d a is none =
    ap (λ (one : Factor-F Element Factor Range Aggregate Each). (factor_given judging one setting).value) is
    ∙ ap (λ (given : Option (ArgumentsOf Factor)). (called_or_not (λ f. judge_factor f setting) setting d given).value) none

pub operand_opened :
    (f : Factor) (d : DesignatorOf Factor) (a : Option (ArgumentsOf Factor)) (result : Result (Option Typed) Memory)
    (old new : Checking) → out-Factor f ≡ forms.Factor::Designator d a → a ≡ None →
    Judges (operand_judged old.setting d) result old new → Judges (factor_opened old.setting f) result old new
operand_opened f d a result old new is none met =
    moved (factor_opened old.setting f) (operand_judged old.setting d) result old new
    (operand_level old.setting (out-Factor f) d a is none) met

abbrev pub called_judged : Setting → DesignatorOf Factor → List (ExprOf Factor) → Judged Typed
called_judged setting d es = callee_judged setting d >>? call_judged setting (designator_place d) es

call_level :
    (setting : Setting) (level : Factor-F Element Factor Range Aggregate Each) (d : DesignatorOf Factor)
    (given : Option (ArgumentsOf Factor)) (a : ArgumentsOf Factor) → level ≡ forms.Factor::Designator d given → given ≡ Some a →
    (factor_given judging level setting).value ≡ called_judged setting d (arguments_in a)
unfolding judge_expr
call_level setting level d given a is some =
    ap (λ (one : Factor-F Element Factor Range Aggregate Each). (factor_given judging one setting).value) is
    ∙ ap (λ (one : Option (ArgumentsOf Factor)). (called_or_not (λ f. judge_factor f setting) setting d one).value) some

pub call_opened :
    (f : Factor) (d : DesignatorOf Factor) (given : Option (ArgumentsOf Factor)) (a : ArgumentsOf Factor) (place : Place)
    (decl : Option Decl) (result : Result (Option Typed) Memory) (old middle new : Checking) →
    out-Factor f ≡ forms.Factor::Designator d given → given ≡ Some a → place ≡ designator_place d →
    Judges (callee_judged old.setting d) (Ok decl) old middle →
    Judges (call_judged middle.setting place (arguments_in a) decl) result middle new →
    Judges (factor_opened old.setting f) result old new
call_opened f d given a place decl result old middle new is some at met also =
    moved (factor_opened old.setting f) (called_judged old.setting d (arguments_in a)) result old new
    (call_level old.setting (out-Factor f) d given a is some)
    (then_known (callee_judged old.setting d) (λ setting. call_judged setting (designator_place d) (arguments_in a)) decl result old
    middle new met (subst (λ (one : Place). Judges (call_judged middle.setting one (arguments_in a) decl) result middle new) at also))

pub compared_by :
    (e : ExprOf Factor) (c : ComparedOf Factor) (relation : CoreRelation) (left first : Option Typed)
    (answer : Result (Option Typed) Memory) (second : Option Typed) (result : Result (Option Typed) Memory)
    (old middle last new : Checking) → e.right ≡ Some c → relation ≡ relation_of c.relation →
    Judges (simple_judged old.setting e.left) (Ok left) old middle → Judges (simple_judged middle.setting c.right) answer middle last →
    (first ≡ left) × (answer ≡ Ok second) → Judges (of_both (compared c.place relation) first second) result last new →
    Judges (judge_expr old.setting e) result old new
unfolding judge_expr
compared_by e c relation left first answer second result old middle last new is related met also joined asked =
    moved (with_right (factor_value old.setting) (simple_judged old.setting e.left) e.right)
    (with_right (factor_value old.setting) (simple_judged old.setting e.left) (Some c)) result old new
    (ap (λ (right : Option (ComparedOf Factor)). with_right (factor_value old.setting) (simple_judged old.setting e.left) right) is)
    (then_both (simple_judged old.setting e.left) (λ setting. simple_judged setting c.right)
    (λ setting. compared c.place (relation_of c.relation)) left answer first second result old middle last new met also joined
    (subst (λ (one : CoreRelation). Judges (of_both (compared c.place one) first second) result last new) related asked))

pub signed_by :
    (s : SimpleOf Factor) (sign : SignOperator) (core_sign : Sign) (first : Option Typed) (result : Result (Option Typed) Memory)
    (old middle new : Checking) → s.sign ≡ Some sign → core_sign ≡ sign_of sign →
    Judges (term_judged old.setting s.first) (Ok first) old middle →
    Judges (of (signed s.place core_sign) first) result middle new → Judges (first_judged old.setting s) result old new
signed_by s sign core_sign first result old middle new is same met also =
    moved (first_judged old.setting s) (signed_term s.place (Some sign) (term_judged old.setting s.first)) result old new
    (ap (λ (one : Option SignOperator). signed_term s.place one (term_judged old.setting s.first)) is)
    ((then) (term_judged old.setting s.first) (λ setting. signed s.place (sign_of sign)) first result old middle new met
    (subst (λ (one : Sign). Judges (of (signed s.place one) first) result middle new) same also))

pub call_made :
    (place : Place) (es : List (ExprOf Factor)) (count : ℕ) (decl shown kept : Option Decl)
    (first : Result (Option Decl) Memory) (begun left : Option Decl) (answer given : Result (Option (List Argument)) Memory)
    (right : Option (List Argument)) (result : Result (Option Typed) Memory) (old middle last new : Checking) →
    count ≡ length es → shown ≡ decl → Judges (of (function_rules place count) shown) first old middle →
    (kept ≡ decl) × (first ≡ Ok begun) → Judges (each_at (argument_at kept count middle.setting) 0 es) answer middle last →
    given ≡ answer → (left ≡ begun) × (given ≡ Ok right) → Judges (of_both (called place) left right) result last new →
    Judges (call_judged old.setting place es decl) result old new
call_made place es count decl shown kept first begun left answer given right result old middle last new counts is_shown met is_kept also same joined asked =
    let name : Judged Decl = of (function_rules place (length es)) decl in
    let named : Judges name first old middle =
    subst (λ (n : ℕ). Judges (of (function_rules place n) decl) first old middle) counts
    (subst (λ (one : Option Decl). Judges (of (function_rules place count) one) first old middle) is_shown met) in
    let between : Judges (each_at (argument_at decl (length es) middle.setting) 0 es) answer middle last =
    subst (λ (n : ℕ). Judges (each_at (argument_at decl n middle.setting) 0 es) answer middle last) counts
    (subst (λ (one : Option Decl). Judges (each_at (argument_at one count middle.setting) 0 es) answer middle last) is_kept.0 also) in
    then_both_given name (λ setting. each_at (argument_at decl (length es) setting) 0 es) (called place) first begun left answer given
    right result old middle last new named is_kept.1 between same joined asked

-- ---- parts, from what their calls say

pub subscripts_by :
    (part : PartOf Factor) (place first : Place) (es : ExprsOf Factor) (t : DbType)
    (steps before known : Option (List (CoreStepOf CoreExpr))) (answer : Result (Option (List Typed)) Memory)
    (indices : Option (List Typed)) (result : Result (Option (List (CoreStepOf CoreExpr))) Memory) (old middle last new : Checking) →
    part ≡ parts.Subscripts place es → first ≡ es.first.place →
    Reaches (of built (reach t steps)) t (Ok before) old middle → Judges (exprs_judged middle.setting (exprs_in es)) answer middle last →
    (known ≡ before) × (answer ≡ Ok indices) →
    Reaches (of_both (at_subscripts place first) (reach t known) indices) (element_of t) result last new →
    Reaches (part_judged old.setting part (reach t steps)) (kind_behind part t) result old new
subscripts_by part place first es t steps before known answer indices result old middle last new is at is_built met joined asked =
    subst (λ (one : PartOf Factor). Reaches (part_judged old.setting one (reach t steps)) (kind_behind one t) result old new) (sym is)
    (subscripts_met (of built (reach t steps)) (λ setting. exprs_judged setting (exprs_in es)) (at_subscripts place es.first.place) t
    (element_of t) before known answer indices result old middle last new is_built met joined
    (subst (λ (one : Place). Reaches (of_both (at_subscripts place one) (reach t known) indices) (element_of t) result last new) at asked))

pub whole_by :
    (parts : List (PartOf Factor)) (whole kept : Option Denoted) (other there : DbType) (steps : Option (List (CoreStepOf CoreExpr)))
    (answer : Result (Option Reached) Memory) (found : Option Reached) (result : Option Denoted) (old new : Checking) →
    is_empty parts ≡ false → there ≡ option_map_or (λ (known : Denoted). known.kind) whole other →
    steps ≡ option_map (λ (known : Denoted). []) whole →
    Judges (parts_judged old.setting (of good (reach there steps)) parts) answer old new → (kept ≡ whole) × (answer ≡ Ok found) →
    result ≡ option_map (λ known. part_of known.0 known.1) (paired kept found) →
    Judges (whole_judged old.setting parts whole) (Ok result) old new
whole_by parts whole kept other there steps answer found result old new some kind_there none_yet met joined made_of =
    let kind_of : Option Denoted → DbType = λ one. option_map_or (λ (known : Denoted). known.kind) one other in
    let start : of good (reach there steps) ≡ of (λ known. good (begun known)) whole =
    ap (λ (t : DbType). of good (reach t steps)) kind_there
    ∙ ap (λ (known : Option (List (CoreStepOf CoreExpr))). of good (reach (kind_of whole) known)) none_yet ∙ whole_begun whole other in
    parts_met (judge_expr old.setting) parts whole (of good (reach there steps)) found result old new some start
    (subst (λ (part : Result (Option Reached) Memory). Judges (parts_judged old.setting (of good (reach there steps)) parts) part old new) joined.1 met)
    (made_of ∙ ap (λ (one : Option Denoted). option_map (λ known. part_of known.0 known.1) (paired one found)) joined.0)
