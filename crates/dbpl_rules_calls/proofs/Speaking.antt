-- That no argument and no call is refused without a breach.
use Rattle.std.proofs.Common.{◌≡◌, ℕ, ◌==◌, Bool, true, false, ◌&&◌, if◌then◌else◌, List, [], ◌∷◌, ◌++◌, length, Option, Some, None, option_map, refl, sym, subst, arith}
use Rattle.std.proofs.lemmas.Bool.Decides.{nat_tests}
use Rattle.std.specs.Prelude.{option_and_then}
use Rattle.std.specs.Option.{is_some}
use Rattle.dbpl_base.specs.declared.place.Place.{Place}
use Rattle.dbpl_base.specs.declared.refusal.Refusal.{Refusal}
use Rattle.dbpl_judging.proofs.Speaking.{after_speaks, asks_speaks, both_speaks, good_speaks, unbuilt_speaks}
use Rattle.dbpl_judging.specs.Judgements.{Judged, asks, both, good, of, paired, ◌>>=◌, ◌>>◌}
use Rattle.dbpl_judging.specs.Speaks.{Speaks}
use Rattle.dbpl_judging.specs.declared.typed.Typed.{Typed}
use Rattle.dbpl_rules_calls.proofs.Suiting.{AllSuit, all_suit}
use Rattle.dbpl_rules_calls.specs.Arguments.{built_where, characters_argument, counted_argument, is_built, kind_argument, standard_argument, value_argument, variable_argument}
use Rattle.dbpl_rules_calls.specs.Asking.{asked, asked_level, standard_asks}
use Rattle.dbpl_rules_calls.specs.Results.{bound_of, call_tree, called, computed_value, function_rules, host_constant, of_type, of_value, result_level, standard_result}
use Rattle.dbpl_rules_calls.specs.Rules.{S36, S39, gives, is_count_of, is_function, takes_count}
use Rattle.dbpl_rules_calls.specs.declared.argument.Argument.{Argument}
use Rattle.dbpl_rules_calls.specs.declared.argument.Argument.TheVariants as arguments
use Rattle.dbpl_rules_calls.specs.declared.asked.Asked.TheVariants as places
use Rattle.dbpl_rules_calls.specs.declared.denoted.Denoted.{Denoted}
use Rattle.dbpl_symbols.specs.declared.decl.Decl.{Decl, Decl-F, out-Decl}
use Rattle.dbpl_symbols.specs.declared.decl.Decl.TheOpen as decls
use Rattle.dbpl_symbols.specs.declared.standard_procedure.StandardProcedure.{StandardProcedure}
use Rattle.dbpl_symbols.specs.declared.standard_procedure.StandardProcedure.TheVariants as standard
use Rattle.dbpl_value.specs.Types.{is_ordinal, range_of}
use Rattle.dbpl_value.specs.declared.db_type.DbType.{DbType}

-- ---- arguments

pub value_argument_speaks : (t : DbType) (e : Typed) → Speaks (value_argument t e)
unfolding value_argument
value_argument_speaks t e = search (after_speaks, asks_speaks, good_speaks)

pub variable_argument_speaks : (t : DbType) (denoted : Denoted) → Speaks (variable_argument t denoted)
unfolding variable_argument
variable_argument_speaks t denoted = search (after_speaks, asks_speaks, good_speaks)

built_where_speaks : (test : Bool) → Speaks (built_where test)
built_where_speaks true = good_speaks tt
built_where_speaks false = unbuilt_speaks

pub standard_argument_speaks : (which : StandardProcedure) (e : Typed) → Speaks (standard_argument which e)
unfolding standard_argument
standard_argument_speaks which e = search (after_speaks, asks_speaks, built_where_speaks, good_speaks)

pub counted_argument_speaks : (denoted : Denoted) → Speaks (counted_argument denoted)
unfolding counted_argument
counted_argument_speaks denoted = search (after_speaks, asks_speaks, good_speaks)

pub kind_argument_speaks : (at : Place) (t : DbType) → Speaks (kind_argument at t)
unfolding kind_argument
kind_argument_speaks at t = search (after_speaks, asks_speaks, good_speaks)

pub characters_argument_speaks : (e : Typed) → Speaks (characters_argument e)
unfolding characters_argument
characters_argument_speaks e = search (after_speaks, asks_speaks, good_speaks)

-- ---- the rules on a function

pub function_rules_speaks : (place : Place) (count : ℕ) (decl : Decl) → Speaks (function_rules place count decl)
unfolding function_rules
function_rules_speaks place count decl = search (after_speaks, both_speaks, asks_speaks, good_speaks)

-- what a function keeps that breaks no rule
record IsFunction (count : ℕ) (decl : Decl) (found : Decl) : Type 0 where
  counts : S36 decl count ≡ true
  gives : S39 decl ≡ true
  same : decl ≡ found

kept_by :
    {B : Type 0} (place : Place) (counts gives : Bool) (decl found : B) →
    (both (asks 36 place counts) (asks 39 place gives) >> good decl).core ≡ Some found →
    (counts ≡ true) × (gives ≡ true) × (decl ≡ found)
kept_by place true true decl found is = (refl, refl, cc)
kept_by place true false decl found is = absurd (cc)
kept_by place false gives decl found is = absurd (cc)

kept :
    (place : Place) (count : ℕ) (decl found : Decl) → (function_rules place count decl).core ≡ Some found →
    IsFunction count decl found
unfolding function_rules
kept place count decl found is =
    let all : _ × _ × _ = kept_by place (S36 decl count) (S39 decl) decl found is in
    record { counts = all.0; gives = all.1; same = all.2 }

-- ---- what a call gives

mapped_speaks : {A B : Type 0} (make : A → B) (core : Option A) → is_some core ≡ true → option_map make core ≡ None → ⊥
mapped_speaks make (Some part) there none = cc
mapped_speaks make None there none = cc

-- of one value
one_speaks :
    (place : Place) (which : StandardProcedure) (given : List Argument) → (length given == 1) ≡ true →
    all_suit (places.Standard which ∷ []) 0 given ≡ true → ((e : Typed) → of_value place which e ≡ None → ⊥) →
    standard_result place which given ≡ None → ⊥
one_speaks place which (arguments.Value e ∷ []) counts suit speaks none = speaks e none
one_speaks place which [] counts suit speaks none = cc
one_speaks place which (argument ∷ other ∷ others) counts suit speaks none = grind (arith, nat_tests, counts)
one_speaks place which (_ ∷ []) counts suit speaks none = cc

first_holds : (test other : Bool) → (test && other) ≡ true → test ≡ true
first_holds true other hold = refl
first_holds false other hold = absurd (cc)

-- of the name of a type
kind_speaks :
    (place : Place) (which : StandardProcedure) (given : List Argument) → (length given == 1) ≡ true →
    all_suit (places.Kind ∷ []) 0 given ≡ true → ((t : DbType) → is_ordinal t ≡ true → of_type place which t ≡ None → ⊥) →
    standard_result place which given ≡ None → ⊥
kind_speaks place which (arguments.Kind t ∷ []) counts suit speaks none = speaks t (first_holds (is_ordinal t) true suit) none
kind_speaks place which [] counts suit speaks none = cc
kind_speaks place which (argument ∷ other ∷ others) counts suit speaks none = grind (arith, nat_tests, counts)
kind_speaks place which (_ ∷ []) counts suit speaks none = cc

second_fails : (test : Bool) → (test && false) ≡ true → ⊥
second_fails true hold = cc
second_fails false hold = cc

-- of a type and a value
two_speaks :
    (place : Place) (which : StandardProcedure) (given : List Argument) → (length given == 2) ≡ true →
    all_suit (places.Kind ∷ places.Standard which ∷ []) 0 given ≡ true → standard_result place which given ≡ None → ⊥
two_speaks place which [] counts suit none = cc
two_speaks place which (argument ∷ []) counts suit none = cc
two_speaks place which (argument ∷ other ∷ another ∷ others) counts suit none = grind (arith, nat_tests, counts)
two_speaks place which (arguments.Kind t ∷ arguments.Value e ∷ []) counts suit none = cc
two_speaks place which (arguments.Kind t ∷ other ∷ []) counts suit none =
    absurd (second_fails (is_ordinal t) suit)
two_speaks place which (_ ∷ other ∷ []) counts suit none = cc

bound_speaks :
    {A B C : Type 0} (bound : A → Option B) (make : B → C) (range : Option A) → is_some range ≡ true →
    ((there : A) → is_some (bound there) ≡ true) → option_map make (option_and_then bound range) ≡ None → ⊥
bound_speaks bound make None there some none = cc
bound_speaks bound make (Some range) there some none = mapped_speaks make (bound range) (some range) none

-- no argument of CARD is one without a breach
card_refused :
    (given : List Argument) → (length given == 1) ≡ true → all_suit (places.Standard standard.Card ∷ []) 0 given ≡ true → ⊥
card_refused (arguments.Value e ∷ []) counts suit = cc
card_refused [] counts suit = cc
card_refused (argument ∷ other ∷ others) counts suit = grind (arith, nat_tests, counts)
card_refused (_ ∷ []) counts suit = cc

standard_speaks :
    (place : Place) (which : StandardProcedure) (given : List Argument) → is_count_of which (length given) ≡ true →
    gives which ≡ true → all_suit (standard_asks which) 0 given ≡ true →
    standard_result place which given ≡ None → ⊥
standard_speaks place standard.Abs given counts giving suit = one_speaks place standard.Abs given counts suit (λ e none. cc)
standard_speaks place standard.Odd given counts giving suit = one_speaks place standard.Odd given counts suit (λ e none. cc)
standard_speaks place standard.Cap given counts giving suit = one_speaks place standard.Cap given counts suit (λ e none. cc)
standard_speaks place standard.Chr given counts giving suit = one_speaks place standard.Chr given counts suit (λ e none. cc)
standard_speaks place standard.Ord given counts giving suit = one_speaks place standard.Ord given counts suit (λ e none. cc)
standard_speaks place standard.Val given counts giving suit = two_speaks place standard.Val given counts suit
standard_speaks place standard.Min given counts giving suit =
    kind_speaks place standard.Min given counts suit
    (λ t ordinal. bound_speaks (bound_of standard.Min) (host_constant place t) (range_of t) ordinal (λ range. refl))
standard_speaks place standard.Max given counts giving suit =
    kind_speaks place standard.Max given counts suit
    (λ t ordinal. bound_speaks (bound_of standard.Max) (host_constant place t) (range_of t) ordinal (λ range. refl))
standard_speaks place standard.Inc given counts giving suit = λ none. cc
standard_speaks place standard.Dec given counts giving suit = λ none. cc
standard_speaks place standard.Halt given counts giving suit = λ none. cc
standard_speaks place standard.Abort given counts giving suit = λ none. cc
standard_speaks place standard.Card given counts giving suit = λ none. card_refused given counts suit

level_speaks :
    {D E P : Type 0} (place : Place) (level : Decl-F D E P) (given : List Argument) → takes_count level (length given) ≡ true →
    is_function level ≡ true → all_suit (asked_level level (length given)) 0 given ≡ true → result_level place level given ≡ None → ⊥
level_speaks place (decls.Routine owner head) given counts giving suit =
    mapped_speaks (λ t. computed_value place t (call_tree place owner head given t)) head.result giving
level_speaks place (decls.Standard which) given counts giving suit =
    standard_speaks place which given counts giving
    (subst (λ test. all_suit (if test then standard_asks which else []) 0 given ≡ true) counts suit)
level_speaks place _ given counts giving suit = λ none. cc

-- what a function gives of arguments that are what its places ask for
pub called_speaks :
    (place : Place) (decl : Decl) (given : List Argument) → S36 decl (length given) ≡ true → S39 decl ≡ true →
    all_suit (asked decl (length given)) 0 given ≡ true →
    Speaks (called place decl given)
unfolding called
called_speaks place decl given counts giving suit none clean =
    level_speaks place (out-Decl decl) given counts giving suit none

-- ---- calls

only_left : {A : Type 0} (xs : List A) → xs ++ [] ≡ [] → xs ≡ []
only_left [] empty = refl
only_left (x ∷ xs) empty = absurd (cc)

-- What comes next and breaks nothing speaks for what it is asked of.
found_speaks :
    {A B : Type 0} (core : Option A) (breaches : List Refusal) (next : A → Judged B) → (core ≡ None → breaches ≡ [] → ⊥) →
    ((found : A) → core ≡ Some found → Speaks (next found)) → Speaks (record { breaches = breaches; core = core } >>= next)
found_speaks None breaches next first speaks none clean = first refl (only_left breaches clean)
found_speaks (Some found) [] next first speaks none clean = speaks found refl none clean
found_speaks (Some found) (breach ∷ breaches) next first speaks none clean = cc

both_found :
    {A B : Type 0} (one : Option A) (other : Option B) (found : A × B) → paired one other ≡ Some found →
    (one ≡ Some found.0) × (other ≡ Some found.1)
both_found None other found is = absurd (cc)
both_found (Some one) None found is = absurd (cc)
both_found (Some one) (Some other) found is = (cc, cc)

call_found :
    (place : Place) (count : ℕ) (decl : Decl) (given : List Argument) (found : Decl) → IsFunction count decl found →
    AllSuit (asked decl count) 0 count given → Speaks (called place found given)
call_found place count decl given found is suit =
    subst (λ one. Speaks (called place one given)) is.same
    (called_speaks place decl given (subst (λ n. S36 decl n ≡ true) (sym suit.0) is.counts) is.gives
    (subst (λ n. all_suit (asked decl n) 0 given ≡ true) (sym suit.0) suit.1))

-- THE law of a call in an expression: its name is known, and its arguments are judged by their places
pub call_speaks :
    (place : Place) (count : ℕ) (decl : Decl) (judged : Judged (List Argument)) → Speaks judged →
    ((given : List Argument) → judged.core ≡ Some given → AllSuit (asked decl count) 0 count given) →
    Speaks (both (function_rules place count decl) judged >>= λ found. called place found.0 found.1)
call_speaks place count decl judged first suit =
    let rules : Judged Decl = function_rules place count decl in
    found_speaks (paired rules.core judged.core) (rules.breaches ++ judged.breaches) (λ found. called place found.0 found.1)
    (both_speaks rules judged (function_rules_speaks place count decl) (λ clean. first))
    (λ found is.
    let parts : _ × _ = both_found rules.core judged.core found is in
    call_found place count decl found.1 found.0 (kept place count decl found.0 parts.0) (suit found.1 parts.1))
