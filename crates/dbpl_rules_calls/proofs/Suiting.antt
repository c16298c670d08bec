-- That an argument without a breach is what its place asks for.
use Rattle.std.proofs.Common.{◌≡◌, ℕ, ◌+◌, Bool, true, false, ◌&&◌, List, [], ◌∷◌, length, Option, Some, None, option_map, refl, sym, ap, ◌∙◌, subst, arith}
use Rattle.std.specs.Prelude.{slice_get, unwrap_or}
use Rattle.dbpl_base.specs.declared.place.Place.{Place}
use Rattle.dbpl_judging.specs.Judgements.{Judged, asks, each_at, good, of, paired, ◌>>=◌, ◌>>◌}
use Rattle.dbpl_judging.specs.declared.typed.Typed.{Typed}
use Rattle.dbpl_rules_calls.specs.Arguments.{built_where, characters_argument, counted_argument, is_built, kind_argument, standard_argument, value_argument, variable_argument}
use Rattle.dbpl_rules_calls.specs.Rules.{S37, S38, S40, S40_characters, S40_type}
use Rattle.dbpl_rules_calls.specs.declared.argument.Argument.{Argument}
use Rattle.dbpl_rules_calls.specs.declared.argument.Argument.TheVariants as arguments
use Rattle.dbpl_rules_calls.specs.declared.asked.Asked.{Asked}
use Rattle.dbpl_rules_calls.specs.declared.asked.Asked.TheVariants as places
use Rattle.dbpl_rules_calls.specs.declared.denoted.Denoted.{Denoted}
use Rattle.dbpl_symbols.specs.declared.standard_procedure.StandardProcedure.{StandardProcedure}
use Rattle.dbpl_value.specs.Types.{is_ordinal}
use Rattle.dbpl_value.specs.declared.db_type.DbType.{DbType}

-- THE argument that a place asks for
abbrev pub suits : Asked → Argument → Bool
suits (places.Value t) (arguments.Value e) = true
suits (places.Standard which) (arguments.Value e) = is_built which
suits places.Characters (arguments.Value e) = true
suits (places.Variable t) (arguments.Variable denoted) = true
suits places.Counted (arguments.Variable denoted) = true
suits places.Kind (arguments.Kind t) = is_ordinal t
suits places.Nothing arguments.Nothing = true
suits _ _ = false

-- the place of this number, counted from 0
abbrev pub place_at : List Asked → ℕ → Asked
place_at asked number = unwrap_or (slice_get asked number) places.Nothing

-- each argument is what its place asks for, and the first of them has this number
abbrev pub all_suit : List Asked → ℕ → List Argument → Bool
all_suit asked number [] = true
all_suit asked number (argument ∷ others) = suits (place_at asked number) argument && all_suit asked (number + 1) others

-- the judgement of an argument for this place: what it gives suits
abbrev pub Suits : Asked → Judged Argument → Type 0
Suits place judged = (given : Argument) → judged.core ≡ Some given → suits place given ≡ true

-- ---- the judgement of each place

-- what is given where a rule is kept
after_asks :
    (rule : ℕ) (at : Place) (test : Bool) (made given : Argument) → (asks rule at test >> good made).core ≡ Some given →
    (test ≡ true) × (made ≡ given)
after_asks rule at true made given is = (refl, cc)
after_asks rule at false made given is = absurd (cc)

after_built :
    (rule : ℕ) (at : Place) (test built : Bool) (made given : Argument) →
    (asks rule at test >> built_where built >> good made).core ≡ Some given → (built ≡ true) × (made ≡ given)
after_built rule at true true made given is = (refl, cc)
after_built rule at true false made given is = absurd (cc)
after_built rule at false built made given is = absurd (cc)

pub value_suits : (t : DbType) (e : Typed) → Suits (places.Value t) (value_argument t e)
unfolding value_argument
value_suits t e given is = ap (suits (places.Value t)) (sym (after_asks 37 e.facts.place (S37 t e.facts) _ given is).1)

pub variable_suits : (t : DbType) (denoted : Denoted) → Suits (places.Variable t) (variable_argument t denoted)
unfolding variable_argument
variable_suits t denoted given is =
    ap (suits (places.Variable t)) (sym (after_asks 38 denoted.designator.place (S38 t denoted) _ given is).1)

pub standard_suits : (which : StandardProcedure) (e : Typed) → Suits (places.Standard which) (standard_argument which e)
unfolding standard_argument
standard_suits which e given is =
    let kept : _ × _ = after_built 40 e.facts.place (S40 which e.facts) (is_built which) _ given is in
    ap (suits (places.Standard which)) (sym kept.1) ∙ kept.0

pub counted_suits : (denoted : Denoted) → Suits places.Counted (counted_argument denoted)
unfolding counted_argument
counted_suits denoted given is =
    ap (suits places.Counted)
    (sym (after_asks 40 denoted.designator.place (S40_type denoted.kind) _ given is).1)

pub kind_suits : (at : Place) (t : DbType) → Suits places.Kind (kind_argument at t)
unfolding kind_argument
kind_suits at t given is =
    let kept : _ × _ = after_asks 40 at (S40_type t) (arguments.Kind t) given is in
    ap (suits places.Kind) (sym kept.1) ∙ kept.0

pub characters_suits : (e : Typed) → Suits places.Characters (characters_argument e)
unfolding characters_argument
characters_suits e given is =
    ap (suits places.Characters) (sym (after_asks 40 e.facts.place (S40_characters e.facts.kind) _ given is).1)

-- ---- phrases

next_suits : {A : Type 0} (place : Asked) (next : A → Judged Argument) → ((part : A) → Suits place (next part)) →
    (core : Option A) → Suits place (of next core)
next_suits place next suit None given is = absurd (cc)
next_suits place next suit (Some part) given is = suit part given is

-- a phrase, and what is asked of it as an argument
pub then_suits :
    {A : Type 0} (place : Asked) (judged : Judged A) (next : A → Judged Argument) → ((part : A) → Suits place (next part)) →
    Suits place (judged >>= next)
then_suits place judged next suit = next_suits place next suit judged.core

both_hold : (test other : Bool) → test ≡ true → other ≡ true → (test && other) ≡ true
both_hold true other first second = second
both_hold false other first second = absurd (cc)

-- so many arguments, each of which suits its place
abbrev pub AllSuit : List Asked → ℕ → ℕ → List Argument → Type 0
AllSuit asked number count given = (length given ≡ count) × (all_suit asked number given ≡ true)

listed_suit :
    (asked : List Asked) (number count : ℕ) (one : Option Argument) (others : Option (List Argument)) →
    ((given : Argument) → one ≡ Some given → suits (place_at asked number) given ≡ true) →
    ((given : List Argument) → others ≡ Some given → AllSuit asked (number + 1) count given) → (given : List Argument) →
    option_map (λ parts. parts.0 ∷ parts.1) (paired one others) ≡ Some given → AllSuit asked number (count + 1) given
listed_suit asked number count None others first second given is = absurd (cc)
listed_suit asked number count (Some argument) None first second given is = absurd (cc)
listed_suit asked number count (Some argument) (Some rest) first second given is =
    let behind : AllSuit asked (number + 1) count rest = second rest refl in
    let whole : argument ∷ rest ≡ given = cc in
    subst (AllSuit asked number (count + 1)) whole (
      omega (arith, behind.0),
      both_hold (suits (place_at asked number) argument) (all_suit asked (number + 1) rest) (first argument refl) behind.1,
    )

-- Each of a list of phrases is judged as the argument of its place.
pub each_suits :
    {P : Type 0} (asked : List Asked) (judge : ℕ → P → Judged Argument) →
    ((number : ℕ) (phrase : P) → Suits (place_at asked number) (judge number phrase)) → (number : ℕ) (phrases : List P)
    (given : List Argument) → (each_at judge number phrases).core ≡ Some given → AllSuit asked number (length phrases) given
each_suits asked judge suit number [] given is =
    let whole : [] ≡ given = cc in
    subst (AllSuit asked number 0) whole (refl, refl)
each_suits asked judge suit number (phrase ∷ phrases) given is =
    let counted : length phrases + 1 ≡ length (phrase ∷ phrases) = omega arith in
    subst (λ count. AllSuit asked number count given) counted
    (listed_suit asked number (length phrases) (judge number phrase).core (each_at judge (number + 1) phrases).core
    (suit number phrase) (each_suits asked judge suit (number + 1) phrases) given is)
