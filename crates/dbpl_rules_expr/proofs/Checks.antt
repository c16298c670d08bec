-- That the last step of a check answers what a check is to answer.
use Rattle.std.proofs.Common.{◌≡◌, List, [], Option, Some, None, option_map, Result, Ok, sym, ap, ◌∙◌, subst}
use Rattle.dbpl_base.specs.declared.refusal.Refusal.{Refusal}
use Rattle.dbpl_judging.proofs.Least.{none_least}
use Rattle.dbpl_judging.specs.Checking.{Checking, all_noted, least, noting}
use Rattle.dbpl_judging.specs.Judgements.{Judged, made}
use Rattle.dbpl_judging.specs.Speaks.{Speaks, SpeaksStaged}
use Rattle.dbpl_judging.specs.Stages.{Staged, Stages, in_scope}
use Rattle.dbpl_rules_expr.specs.Checked.{Answers, IsChecked, IsCheckedStage}
use Rattle.dbpl_rules_expr.specs.declared.rule_err.RuleErr.{RuleErr}

-- what a judge leaves: its answer is the core, and its breaches were noted behind what declares
abbrev Left : {A : Type 0} → Judged A → Option A → Checking → Checking → Type 0
Left judged found behind new = (found ≡ judged.core) × (new ≡ noting judged.breaches behind)

least_of :
    (breaches : List Refusal) (behind new : Checking) → behind.least ≡ None → new ≡ noting breaches behind →
    new.least ≡ least breaches
least_of breaches behind new first is =
    ap (λ (checker : Checking). checker.least) is ∙ ap (λ found. all_noted found breaches) first

-- something is found, or a breach was noted
pub found_or_noted :
    {A : Type 0} (judged : Judged A) (found : Option A) (behind new : Checking) → behind.least ≡ None → Speaks judged →
    Left judged found behind new → new.least ≡ None → found ≡ None → ⊥
found_or_noted judged found behind new first speaks judges none missing =
    speaks (sym judges.0 ∙ missing)
    (none_least judged.breaches (sym (least_of judged.breaches behind new first judges.1) ∙ none))

by_least :
    {A : Type 0} (judged : Judged A) (found : Option A) (behind new : Checking) (noted : Option Refusal) (result : Result A RuleErr) →
    Left judged found behind new → noted ≡ least judged.breaches → Answers noted found result → IsChecked judged behind result new
by_least judged found behind new (Some breach) result judges is answers =
    subst (λ one. IsChecked judged behind one new) (sym answers)
    (sym is, judges.1)
by_least judged (Some core) behind new None result judges is answers =
    let none : judged.breaches ≡ [] = none_least judged.breaches (sym is) in
    subst (λ one. IsChecked judged behind one new) (sym answers)
    (none, sym judges.0, judges.1 ∙ ap (λ breaches. noting breaches behind) none)
by_least judged None behind new None result judges is answers = absurd answers

-- THE law of the last step of a check
pub checked :
    {A : Type 0} (judged : Judged A) (found : Option A) (behind new : Checking) (result : Result A RuleErr) →
    behind.least ≡ None → Left judged found behind new → Answers new.least found result → IsChecked judged behind result new
checked judged found behind new result first judges answers =
    by_least judged found behind new new.least result judges (least_of judged.breaches behind new first judges.1) answers

-- ---- what declares

pub stage_found_or_noted :
    {A : Type 0} (staged : Staged A) (found : Option A) (old new : Checking) → old.least ≡ None → SpeaksStaged staged →
    Stages staged (Ok found) old new → new.least ≡ None → found ≡ None → ⊥
stage_found_or_noted staged found old new first speaks stages =
    found_or_noted (record { breaches = staged.breaches; core = staged.core }) found (in_scope staged.scope old) new first
    speaks.core stages

pub checked_stage :
    {A : Type 0} (staged : Staged A) (found : Option A) (old new : Checking) (result : Result A RuleErr) → old.least ≡ None →
    Stages staged (Ok found) old new → Answers new.least found result → IsCheckedStage staged result old new
checked_stage staged found old new result first stages answers =
    checked (record { breaches = staged.breaches; core = staged.core }) found (in_scope staged.scope old) new result first stages
    answers

-- ---- what is made of what was accepted

pub made_of_accepted :
    {A B : Type 0} (make : A → B) (judged : Judged A) (found : A) (behind new : Checking) →
    IsChecked judged behind (Ok found) new → IsChecked (made make judged) behind (Ok (make found)) new
made_of_accepted make judged found behind new accepted = (accepted.0, ap (option_map make) accepted.1, accepted.2)
