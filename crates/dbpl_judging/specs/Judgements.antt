-- Judgements. A phrase is judged in its setting, whatever it breaks: the judgement has each breach of a rule in the phrase,
-- and what the phrase resolves to, or nothing where a rule is broken in it or a name in it is unknown. So one definition says
-- both which programs are refused and what an accepted one is.
use Rattle.std.specs.Prelude.{ℕ, ◌+◌, Bool, true, false, List, [], ◌∷◌, ◌++◌, Option, Some, None, option_map}
use Rattle.std.specs.List.{fold}
use Rattle.dbpl_base.specs.Places.{start_of}
use Rattle.dbpl_base.specs.declared.place.Place.{Place}
use Rattle.dbpl_base.specs.declared.refusal.Refusal.{Refusal}

-- THE judgement of a phrase
pub record Judged (A : Type 0) : Type 0 where
  pub breaches : List Refusal
  pub core : Option A

-- breaks nothing, and resolves to this
abbrev pub good : {A : Type 0} → A → Judged A
good core = record { breaches = []; core = Some core }

-- Breaks nothing and resolves to nothing, as the use of a declaration that was refused. The breach stands elsewhere.
abbrev pub silent : {A : Type 0} → Judged A
silent = record { breaches = []; core = None }

-- the breach of the rule of this number at this place
abbrev pub breach_of : ℕ → Place → Refusal
breach_of rule place = record { place = place; rule = rule }

-- breaks that rule there
abbrev pub breaks : {A : Type 0} → ℕ → Place → Judged A
breaks rule place = record { breaches = breach_of rule place ∷ []; core = None }

-- a form that isn't built yet breaks L9 where the text begins
abbrev pub unbuilt : {A : Type 0} → Judged A
unbuilt = breaks 109 (start_of 0)

-- the rule holds, or is broken at this place
abbrev pub asks : ℕ → Place → Bool → Judged (Unit {0})
asks rule place true = good tt
asks rule place false = breaks rule place

-- what is asked of a part, and of nothing where the part is missing
abbrev pub of : {A B : Type 0} → (A → Judged B) → Option A → Judged B
of next None = silent
of next (Some part) = next part

infixl 20 ◌>>=◌
-- What comes next is asked only of a phrase that breaks nothing.
abbrev pub ◌>>=◌ : {A B : Type 0} → Judged A → (A → Judged B) → Judged B
judged >>= next = record { breaches = judged.breaches ++ (of next judged.core).breaches; core = (of next judged.core).core }

infixl 20 ◌>>◌
abbrev pub ◌>>◌ : {A B : Type 0} → Judged A → Judged B → Judged B
judged >> next = judged >>= λ _. next

infixl 20 ◌>>?◌
-- What comes next is judged whatever the phrase breaks, with its core if it has one.
abbrev pub ◌>>?◌ : {A B : Type 0} → Judged A → (Option A → Judged B) → Judged B
judged >>? next = record { breaches = judged.breaches ++ (next judged.core).breaches; core = (next judged.core).core }

-- two parts, or nothing where one of them is missing
abbrev pub paired : {A B : Type 0} → Option A → Option B → Option (A × B)
paired None other = None
paired (Some one) None = None
paired (Some one) (Some other) = Some (one, other)

-- Both phrases are judged, whatever the other one breaks.
abbrev pub both : {A B : Type 0} → Judged A → Judged B → Judged (A × B)
both one other = record { breaches = one.breaches ++ other.breaches; core = paired one.core other.core }

-- what is asked of two parts
abbrev pub of_both : {A B C : Type 0} → (A → B → Judged C) → Option A → Option B → Judged C
of_both next one other = of (λ parts. next parts.0 parts.1) (paired one other)

-- the same breaches, and what this makes of the core
abbrev pub made : {A B : Type 0} → (A → B) → Judged A → Judged B
made make judged = record { breaches = judged.breaches; core = option_map make judged.core }

-- a list with one part more, or nothing where one is missing
abbrev pub added : {A : Type 0} → Option (List A) → Option A → Option (List A)
added list part = option_map (λ parts. parts.0 ++ parts.1 ∷ []) (paired list part)

-- Each phrase of a list is judged, whatever the others break.
abbrev pub each : {A B : Type 0} → (A → Judged B) → List A → Judged (List B)
each judge [] = good []
each judge (phrase ∷ phrases) = made (λ parts. parts.0 ∷ parts.1) (both (judge phrase) (each judge phrases))

-- Each phrase of a list is judged with its number, whatever the others break: the first has this number, the next one more.
abbrev pub each_at : {A B : Type 0} → (ℕ → A → Judged B) → ℕ → List A → Judged (List B)
each_at judge number [] = good []
each_at judge number (phrase ∷ phrases) =
    made (λ parts. parts.0 ∷ parts.1) (both (judge number phrase) (each_at judge (number + 1) phrases))

-- Phrases from left to right: each is judged, whatever the others break, and `next` asks of what all before it make and of this one.
abbrev pub folded : {P A B : Type 0} → (P → Judged B) → (P → A → B → Judged A) → Judged A → List P → Judged A
folded judge next start phrases = fold (λ so_far phrase. both so_far (judge phrase) >>= λ parts. next phrase parts.0 parts.1) start phrases
