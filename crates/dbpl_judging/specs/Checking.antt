-- What a checker keeps, and how it keeps the least breach. Breaches are noted in any order.
use Rattle.std.specs.Prelude.{List, [], ◌∷◌, Option, Some, None, if◌then◌else◌}
use Rattle.dbpl_base.specs.Order.{is_before}
use Rattle.dbpl_base.specs.declared.refusal.Refusal.{Refusal}
use Rattle.dbpl_judging.specs.declared.setting.Setting.{Setting}

-- THE state of a checker: the setting of the phrase that is judged, and the least breach so far
pub record Checking : Type 0 where
  pub setting : Setting
  pub least : Option Refusal

-- the lesser of the least so far and one more
abbrev pub noted : Option Refusal → Refusal → Option Refusal
noted None breach = Some breach
noted (Some found) breach = Some (if is_before breach found then breach else found)

abbrev pub all_noted : Option Refusal → List Refusal → Option Refusal
all_noted found [] = found
all_noted found (breach ∷ breaches) = all_noted (noted found breach) breaches

-- THE least of several breaches: by unit, line and column, and at one place by the rule's number
abbrev pub least : List Refusal → Option Refusal
least breaches = all_noted None breaches

-- THE checker to which these were noted
abbrev pub noting : List Refusal → Checking → Checking
noting breaches checker = record checker { least = all_noted checker.least breaches }
