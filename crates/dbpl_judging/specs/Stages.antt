-- What declares. A declaration is judged as any phrase, and leaves a scope for what stands behind it.
use Rattle.std.specs.Prelude.{◌≡◌, ℕ, ◌+◌, List, [], ◌∷◌, ◌++◌, Option, Some, option_map, Result, IfOk}
use Rattle.std.specs.List.{sum_by}
use Rattle.dbpl_base.specs.declared.memory.Memory.{Memory}
use Rattle.dbpl_base.specs.declared.refusal.Refusal.{Refusal}
use Rattle.dbpl_judging.specs.Checking.{Checking, noting}
use Rattle.dbpl_judging.specs.Judgements.{Judged, paired}
use Rattle.dbpl_judging.specs.declared.setting.Setting.{Setting}
use Rattle.dbpl_symbols.specs.Scopes.{Declarations, entered, with_pairs}
use Rattle.dbpl_symbols.specs.declared.pair.Pair.{Pair}

-- THE judgement of what declares: its breaches, the scope behind it, and what it resolves to
pub record Staged (A : Type 0) : Type 0 where
  pub breaches : List Refusal
  pub scope : Declarations
  pub core : Option A

-- the setting with this scope
abbrev pub under : Declarations → Setting → Setting
under scope setting = record setting { scope = scope }

-- the checker in this scope
abbrev pub in_scope : Declarations → Checking → Checking
in_scope scope checker = record checker { setting = under scope checker.setting }

-- the checker to which these were noted, in this scope
abbrev pub after : List Refusal → Declarations → Checking → Checking
after breaches scope checker = noting breaches (in_scope scope checker)

-- THE contract of a function that declares: as that of one that judges, and the checker is in the scope that the declaration leaves
abbrev pub Stages : {A : Type 0} → Staged A → Result (Option A) Memory → Checking → Checking → Type 0
Stages staged result old new = IfOk result (λ core. (core ≡ staged.core) × (new ≡ after staged.breaches staged.scope old))

-- a judgement that leaves this scope
abbrev pub leaving : {A : Type 0} → Declarations → Judged A → Staged A
leaving scope judged = record { breaches = judged.breaches; scope = scope; core = judged.core }

-- One stage and then the next, which sees what the first declares, whatever that breaks.
abbrev pub both_staged : {A B : Type 0} → Staged A → (Setting → Staged B) → Setting → Staged (A × B)
both_staged one next setting = record {
  breaches = one.breaches ++ (next (under one.scope setting)).breaches;
  scope = (next (under one.scope setting)).scope;
  core = paired one.core (next (under one.scope setting)).core;
}

-- What comes next is judged whatever the stage before it breaks, with its core if it has one.
abbrev pub known_staged : {A B : Type 0} → Staged A → (Option A → Setting → Staged B) → Setting → Staged B
known_staged one next setting = record {
  breaches = one.breaches ++ (next one.core (under one.scope setting)).breaches;
  scope = (next one.core (under one.scope setting)).scope;
  core = (next one.core (under one.scope setting)).core;
}

-- A judged phrase, and then what changes the scope, whatever the phrase breaks, with its core if it has one.
abbrev pub then_staged : {A B : Type 0} → Judged A → (Option A → Setting → Staged B) → Setting → Staged B
then_staged judged next setting = record {
  breaches = judged.breaches ++ (next judged.core setting).breaches;
  scope = (next judged.core setting).scope;
  core = (next judged.core setting).core;
}

-- the same breaches and scope, and what this makes of the core
abbrev pub made_staged : {A B : Type 0} → (A → B) → Staged A → Staged B
made_staged make staged = record { breaches = staged.breaches; scope = staged.scope; core = option_map make staged.core }

-- each of a list, one behind the other
abbrev pub each_staged : {A B : Type 0} → (A → Setting → Staged B) → List A → Setting → Staged (List B)
each_staged stage [] setting = record { breaches = []; scope = setting.scope; core = Some [] }
each_staged stage (phrase ∷ phrases) setting =
    made_staged (λ parts. parts.0 ∷ parts.1) (both_staged (stage phrase setting) (each_staged stage phrases) setting)

-- Each of a list, one behind the other, with its number: the first has this one, and each takes so many of them. So the local
-- variables of a routine are numbered through all sections that declare them.
abbrev pub each_staged_from : {A B : Type 0} → (A → ℕ) → (ℕ → A → Setting → Staged B) → ℕ → List A → Setting → Staged (List B)
each_staged_from count stage number [] setting = record { breaches = []; scope = setting.scope; core = Some [] }
each_staged_from count stage number (phrase ∷ phrases) setting =
    made_staged (λ parts. parts.0 ∷ parts.1)
    (both_staged (stage number phrase setting) (each_staged_from count stage (number + count phrase) phrases) setting)

-- the number behind them
abbrev pub number_behind : {A : Type 0} → (A → ℕ) → ℕ → List A → ℕ
number_behind count number phrases = number + sum_by count phrases

-- each of a list, one behind the other, with its number: the first has this one, the next one more
abbrev pub each_staged_at : {A B : Type 0} → (ℕ → A → Setting → Staged B) → ℕ → List A → Setting → Staged (List B)
each_staged_at stage number phrases setting = each_staged_from (λ _. 1) stage number phrases setting

-- A level with its declarations is judged, and left: what it declares is seen in it alone.
abbrev pub in_level : {A : Type 0} → (Setting → Staged A) → Setting → Judged A
in_level inner setting =
    let staged = inner (under (entered setting.scope) setting) in
    record { breaches = staged.breaches; core = staged.core }

-- the new scope is the old one with further declarations at its last level
abbrev pub Adds : Declarations → Declarations → Type 0
Adds old new = (more : List Pair) × (new ≡ with_pairs more old)
