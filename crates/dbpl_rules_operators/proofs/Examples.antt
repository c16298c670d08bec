-- Worked judgements, under VAR c: CARDINAL; i: INTEGER; b: BOOLEAN; a: ARRAY [1 .. 3] OF CHAR. Each place is the column in
-- the expression.
use Rattle.std.proofs.Common.{◌≡◌, ℕ, true, false, ℤ, pos, negsuc, List, [], ◌∷◌, Some, None, refl}
use Rattle.dbpl_base.specs.declared.place.Place.{Place}
use Rattle.dbpl_core.specs.declared.arithmetic_operator.ArithmeticOperator.TheVariants as operators
use Rattle.dbpl_core.specs.declared.logical_operator.LogicalOperator.TheVariants as logic
use Rattle.dbpl_core.specs.declared.relation.Relation.TheVariants as relations
use Rattle.dbpl_core.specs.declared.sign.Sign.TheVariants as signs
use Rattle.dbpl_judging.specs.Judgements.{Judged, breach_of, good}
use Rattle.dbpl_judging.specs.declared.facts.Facts.{Facts}
use Rattle.dbpl_judging.specs.declared.kind.Kind.TheVariants as phrases
use Rattle.dbpl_rules_operators.specs.Fitting.{fits}
use Rattle.dbpl_rules_operators.specs.Literals.{text_kind, text_number}
use Rattle.dbpl_rules_operators.specs.Operators.{arithmetic_facts, arithmetic_rules, beside, compared_facts, compared_rules, logical_facts, negated_facts, signed_facts}
use Rattle.dbpl_value.specs.declared.db_type.DbType.{DbType}
use Rattle.dbpl_value.specs.declared.db_type.DbType.TheVariants as types

abbrev at : ℕ → Place
at col = record { unit = 0; line = 1; col = col }

-- a whole constant, a variable of a type, and a string
abbrev whole : ℕ → ℤ → Facts
whole col n = record { place = at col; kind = phrases.Whole; number = Some n }

abbrev variable : ℕ → DbType → Facts
variable col t = record { place = at col; kind = phrases.Of t; number = None }

abbrev truth : ℕ → Facts
truth col = record { place = at col; kind = phrases.Of types.Bool; number = Some (pos 1) }

abbrev string : ℕ → List ℕ → Facts
string col bytes = record { place = at col; kind = text_kind bytes; number = text_number bytes }

abbrev broken : ℕ → ℕ → Judged Facts
broken rule col = record { breaches = breach_of rule (at col) ∷ []; core = None }

-- `1 + TRUE`
whole_and_truth : arithmetic_facts (at 3) operators.Plus (whole 1 (pos 1)) (truth 5) ≡ broken 25 3
unfolding arithmetic_facts arithmetic_rules beside
whole_and_truth = simp (types.outs-Bool) refl

-- `c + i`
two_hosts : arithmetic_facts (at 3) operators.Plus (variable 1 types.Card) (variable 5 types.Int) ≡ broken 25 3
unfolding arithmetic_facts arithmetic_rules beside
two_hosts = simp (types.outs-Card, types.outs-Int) refl

-- `c + (-1)`
outside_host : arithmetic_facts (at 3) operators.Plus (variable 1 types.Card) (whole 5 (negsuc 0)) ≡ broken 29 5
unfolding arithmetic_facts arithmetic_rules beside
outside_host = simp (types.outs-Card) refl

-- `c DIV (-1)`: both rules are broken, and the divisor's stands in front
side_by_side :
    arithmetic_facts (at 3) operators.Div (variable 1 types.Card) (whole 7 (negsuc 0)) ≡
    record { breaches = breach_of 15 (at 3) ∷ breach_of 29 (at 7) ∷ []; core = None }
unfolding arithmetic_facts arithmetic_rules beside
side_by_side = simp (types.outs-Card) refl

-- `b DIV 0`
divisor_of_no_number : arithmetic_facts (at 3) operators.Div (variable 1 types.Bool) (whole 7 (pos 0)) ≡ broken 25 3
unfolding arithmetic_facts arithmetic_rules beside
divisor_of_no_number = simp (types.outs-Bool) refl

-- `4294967295 + 1`
past_the_greatest : arithmetic_facts (at 12) operators.Plus (whole 1 (pos 4294967295)) (whole 14 (pos 1)) ≡ broken 15 12
unfolding arithmetic_facts arithmetic_rules beside
past_the_greatest = refl

-- `(-7) DIV 2` is the constant -4, and `(-7) MOD 2` is 1
floor : arithmetic_facts (at 6) operators.Div (whole 1 (negsuc 6)) (whole 10 (pos 2)) ≡ good (whole 1 (negsuc 3))
unfolding arithmetic_facts arithmetic_rules beside
floor = refl

left_of_floor : arithmetic_facts (at 6) operators.Mod (whole 1 (negsuc 6)) (whole 10 (pos 2)) ≡ good (whole 1 (pos 1))
unfolding arithmetic_facts arithmetic_rules beside
left_of_floor = refl

-- `-4294967295`
under_the_least : signed_facts (at 1) signs.Minus (whole 2 (pos 4294967295)) ≡ broken 15 1
unfolding signed_facts
under_the_least = refl

-- `-c`
sign_of_cardinal : signed_facts (at 1) signs.Minus (variable 2 types.Card) ≡ broken 30 1
unfolding signed_facts
sign_of_cardinal = simp (types.outs-Card) refl

-- `c AND b`
number_as_condition : logical_facts (at 3) logic.And (variable 1 types.Card) (variable 7 types.Bool) ≡ broken 26 3
unfolding logical_facts
number_as_condition = simp (types.outs-Card) refl

-- `NOT 1`
not_of_number : negated_facts (at 1) (whole 5 (pos 1)) ≡ broken 26 1
unfolding negated_facts
not_of_number = refl

-- `'a' = 'b'` is FALSE
two_characters :
    compared_facts (at 5) relations.Equal (string 1 (97 ∷ [])) (string 7 (98 ∷ [])) ≡
    good (record { place = at 1; kind = phrases.Of types.Bool; number = Some (pos 0) })
unfolding compared_facts compared_rules beside
two_characters = refl

-- `'ab' = 'ab'`
two_strings : compared_facts (at 6) relations.Equal (string 1 (97 ∷ 98 ∷ [])) (string 8 (97 ∷ 98 ∷ [])) ≡ broken 27 6
unfolding compared_facts compared_rules beside
two_strings = refl

-- ARRAY [1 .. 3] OF CHAR, and ['b' .. 'd']
abbrev chars : DbType
chars = types.Arr (types.Sub types.Card (pos 1) (pos 3)) types.Char

abbrev some_characters : DbType
some_characters = types.Sub types.Char (pos 98) (pos 100)

-- `a = 'abcd'`
string_too_long :
    compared_facts (at 3) relations.Equal (variable 1 chars) (string 5 (97 ∷ 98 ∷ 99 ∷ 100 ∷ [])) ≡ broken 27 3
unfolding compared_facts compared_rules beside
string_too_long = simp (types.outs-Arr, types.outs-Sub, types.outs-Char) refl

-- `'ab' < a`
array_of_char :
    compared_facts (at 6) relations.Less (string 1 (97 ∷ 98 ∷ [])) (variable 8 chars) ≡
    good (record { place = at 1; kind = phrases.Of types.Bool; number = None })
unfolding compared_facts compared_rules beside
array_of_char = simp (types.outs-Arr, types.outs-Sub, types.outs-Char) refl

-- what is assignable to them
string_fits : fits chars (string 1 (97 ∷ 98 ∷ 99 ∷ [])) ≡ true
string_fits = simp (types.outs-Arr, types.outs-Sub, types.outs-Char) refl

string_is_too_long : fits chars (string 1 (97 ∷ 98 ∷ 99 ∷ 100 ∷ [])) ≡ false
string_is_too_long = simp (types.outs-Arr, types.outs-Sub, types.outs-Char) refl

character_fits : fits some_characters (string 1 (99 ∷ [])) ≡ true
character_fits = simp (types.outs-Sub, types.outs-Char) refl

character_is_outside : fits some_characters (string 1 (97 ∷ [])) ≡ false
character_is_outside = simp (types.outs-Sub, types.outs-Char) refl

constant_is_outside : fits types.Card (whole 1 (negsuc 0)) ≡ false
constant_is_outside = simp (types.outs-Card) refl
