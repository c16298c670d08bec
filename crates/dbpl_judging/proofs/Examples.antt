-- Worked judgements. `b := 1 + TRUE`, where b is a BOOLEAN, breaks S25 at the operator and nothing else: the assignment has no
-- right side of which S54 could be asked.
use Rattle.std.proofs.Common.{◌≡◌, ℕ, Bool, true, false, not, ◌&&◌, [], ◌∷◌, Option, Some, None, refl, ◌∙◌}
use Rattle.dbpl_base.specs.declared.place.Place.{Place}
use Rattle.dbpl_judging.specs.Checking.{least}
use Rattle.dbpl_judging.specs.Judgements.{Judged, asks, both, breach_of, breaks, each, each_at, folded, good, made, silent, unbuilt, ◌>>=◌, ◌>>?◌, ◌>>◌}
use Rattle.dbpl_judging.proofs.NodeLaws.{nodes_of_card, nodes_of_rec}
use Rattle.dbpl_judging.specs.Nodes.{nodes_of}
use Rattle.dbpl_judging.specs.Stages.{Staged, each_staged_from}
use Rattle.dbpl_judging.specs.declared.kind.Kind.{Kind}
use Rattle.dbpl_judging.specs.declared.kind.Kind.TheVariants as kinds
use Rattle.dbpl_judging.specs.declared.setting.Setting.{Setting}
use Rattle.dbpl_value.specs.declared.db_type.DbType.TheVariants as types

abbrev at : ℕ → ℕ → Place
at line col = record { unit = 0; line = line; col = col }

abbrev is_whole : Kind → Bool
is_whole kinds.Whole = true
is_whole (kinds.Text length first) = false
is_whole (kinds.Of t) = false

-- a sum, with its operator at this column
abbrev sum : ℕ → Judged Kind → Judged Kind → Judged Kind
sum col left right = both left right >>= λ parts. asks 25 (at 1 col) (is_whole parts.0 && is_whole parts.1) >> good kinds.Whole

-- an assignment to a BOOLEAN, with its right side at this column
abbrev assignment : ℕ → Judged Kind → Judged (Unit {0})
assignment col right = right >>= λ kind. asks 54 (at 1 col) (not (is_whole kind))

abbrev one : Judged Kind
one = good kinds.Whole

abbrev truth : Judged Kind
truth = good (kinds.Of types.Bool)

sum_is_whole : sum 8 one one ≡ one
sum_is_whole = refl

-- `b := 1 + TRUE`
right_side_broken : assignment 6 (sum 8 one truth) ≡ record { breaches = breach_of 25 (at 1 8) ∷ []; core = None }
right_side_broken = refl

-- `b := 1 + 1`
right_side_unfit : assignment 6 (sum 8 one one) ≡ record { breaches = breach_of 54 (at 1 6) ∷ []; core = None }
right_side_unfit = refl

-- `b := TRUE`
right_side_fits : assignment 6 truth ≡ good tt
right_side_fits = refl

-- `b := u + TRUE`, where the declaration of u was refused
right_side_silent : assignment 6 (sum 8 silent truth) ≡ silent
right_side_silent = refl

-- `q + r`, where neither is declared: both are named
both_named : sum 3 (breaks 10 (at 1 1)) (breaks 10 (at 1 5)) ≡ record { breaches = breach_of 10 (at 1 1) ∷ breach_of 10 (at 1 5) ∷ []; core = None }
both_named = refl

-- `1 + TRUE + q`, from left to right
left_to_right : folded (λ phrase. phrase) (λ _ left right. sum 3 (good left) (good right)) one (truth ∷ breaks 10 (at 1 12) ∷ [])
    ≡ record { breaches = breach_of 25 (at 1 3) ∷ breach_of 10 (at 1 12) ∷ []; core = None }
left_to_right = refl

a_list : each (λ phrase. phrase) (one ∷ truth ∷ []) ≡ good (kinds.Whole ∷ kinds.Of types.Bool ∷ [])
a_list = refl

a_list_broken : each (λ phrase. phrase) (one ∷ unbuilt ∷ truth ∷ []) ≡ record { breaches = breach_of 109 (at 1 1) ∷ []; core = None }
a_list_broken = refl

-- `q(r)`, where neither is declared: the argument is judged although nothing is known of what is called
argument_judged : breaks 10 (at 1 1) >>? (λ (callee : Option Kind). breaks {A = Kind} 10 (at 1 3))
    ≡ record { breaches = breach_of 10 (at 1 1) ∷ breach_of 10 (at 1 3) ∷ []; core = None }
argument_judged = refl

-- the same where the name is that of a refused declaration, and by `>>=`: nothing is asked
argument_left : silent >>= (λ (callee : Kind). breaks {A = Kind} 10 (at 1 3)) ≡ silent
argument_left = refl

-- numbers from 2 on
with_numbers : each_at {B = ℕ × Kind} (λ number phrase. made (λ kind. (number, kind)) phrase) 2 (one ∷ truth ∷ [])
    ≡ good ((2, kinds.Whole) ∷ (3, kinds.Of types.Bool) ∷ [])
with_numbers = refl

-- two sections of VAR, of two variables and of one, behind one parameter
names_declared : ℕ → ℕ → Setting → Staged (ℕ × ℕ)
names_declared number count setting = record { breaches = []; scope = setting.scope; core = Some (number, count) }

through_sections : (setting : Setting) →
    each_staged_from (λ count. count) names_declared 1 (2 ∷ 1 ∷ []) setting
    ≡ record { breaches = []; scope = setting.scope; core = Some ((1, 2) ∷ (3, 1) ∷ []) }
unfolding names_declared
through_sections setting = refl

-- ---- the nodes of a type

record_nodes : nodes_of (types.Rec (record { name = 102 ∷ []; kind = types.Card } ∷ [])) ≡ 3
record_nodes = nodes_of_rec (record { name = 102 ∷ []; kind = types.Card } ∷ []) ∙ rw (nodes_of_card) refl

-- ---- the least

none_is_least : least [] ≡ None
none_is_least = refl

-- of one place the lesser rule
by_rule : least (breach_of 25 (at 1 5) ∷ breach_of 15 (at 1 5) ∷ breach_of 29 (at 1 5) ∷ []) ≡ Some (breach_of 15 (at 1 5))
by_rule = refl

-- of one line the lesser column, whatever the rule
by_column : least (breach_of 10 (at 1 9) ∷ breach_of 9 (at 1 10) ∷ breach_of 54 (at 1 3) ∷ []) ≡ Some (breach_of 54 (at 1 3))
by_column = refl

-- else the lesser unit, whatever the line
by_unit : least (breach_of 9 (record { unit = 1; line = 1; col = 1 }) ∷ breach_of 54 (at 9 9) ∷ []) ≡ Some (breach_of 54 (at 9 9))
by_unit = refl

-- in one unit the lesser line, whatever the column
by_line : least (breach_of 9 (at 2 1) ∷ breach_of 54 (at 1 80) ∷ breach_of 1 (at 10 1) ∷ []) ≡ Some (breach_of 54 (at 1 80))
by_line = refl
