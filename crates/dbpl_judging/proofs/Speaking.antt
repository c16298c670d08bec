-- That each word of judgements keeps the law that nothing is refused without a breach.
use Rattle.std.proofs.Common.{◌≡◌, ℕ, ◌+◌, Bool, true, false, List, [], ◌∷◌, ◌++◌, Option, Some, None, option_map, refl}
use Rattle.dbpl_base.specs.declared.place.Place.{Place}
use Rattle.dbpl_base.specs.declared.refusal.Refusal.{Refusal}
use Rattle.dbpl_judging.specs.Judgements.{Judged, asks, both, breaks, each, each_at, folded, good, made, of, paired, unbuilt, ◌>>=◌, ◌>>?◌, ◌>>◌}
use Rattle.dbpl_judging.specs.Speaks.{Speaks, SpeaksStaged}
use Rattle.dbpl_judging.specs.Stages.{Staged, both_staged, each_staged, each_staged_from, in_level, known_staged, leaving, made_staged, then_staged, under}
use Rattle.dbpl_judging.specs.declared.setting.Setting.{Setting}
use Rattle.dbpl_symbols.specs.Known.{IsKnown}
use Rattle.dbpl_symbols.specs.Scopes.{Declarations, entered}

append_empty_left : {A : Type 0} (xs ys : List A) → xs ++ ys ≡ [] → xs ≡ []
append_empty_left [] ys empty = refl
append_empty_left (x ∷ xs) ys empty = absurd (cc)

append_empty_right : {A : Type 0} (xs ys : List A) → xs ++ ys ≡ [] → ys ≡ []
append_empty_right [] ys empty = empty
append_empty_right (x ∷ xs) ys empty = absurd (cc)

pub good_speaks : {A : Type 0} (core : A) → Speaks (good core)
good_speaks core none clean = cc

pub breaks_speaks : {A : Type 0} (rule : ℕ) (place : Place) → Speaks (breaks {A = A} rule place)
breaks_speaks rule place none clean = cc

pub unbuilt_speaks : {A : Type 0} → Speaks (unbuilt {A = A})
unbuilt_speaks none clean = cc

pub asks_speaks : (rule : ℕ) (place : Place) (test : Bool) → Speaks (asks rule place test)
asks_speaks rule place true none clean = cc
asks_speaks rule place false none clean = cc

next_speaks : {A B : Type 0} (next : A → Judged B) → ((part : A) → Speaks (next part)) →
    (core : Option A) (breaches : List Refusal) → (core ≡ None → breaches ≡ [] → ⊥) →
    (of next core).core ≡ None → breaches ++ (of next core).breaches ≡ [] → ⊥
next_speaks next speaks None breaches first none clean = first refl (append_empty_left breaches [] clean)
next_speaks next speaks (Some part) breaches first none clean = speaks part none (append_empty_right breaches (next part).breaches clean)

pub then_speaks : {A B : Type 0} (judged : Judged A) (next : A → Judged B) → Speaks judged → ((part : A) → Speaks (next part)) → Speaks (judged >>= next)
then_speaks judged next first speaks = next_speaks next speaks judged.core judged.breaches first

pub after_speaks : {A B : Type 0} (judged : Judged A) (next : Judged B) → Speaks judged → Speaks next → Speaks (judged >> next)
after_speaks judged next first second = then_speaks judged (λ _. next) first (λ _. second)

-- What comes next speaks where there is a core.
known_next :
    {A B : Type 0} (next : Option A → Judged B) → ((part : A) → Speaks (next (Some part))) → (core : Option A) (breaches : List Refusal) →
    (core ≡ None → breaches ≡ [] → ⊥) → (next core).core ≡ None → breaches ++ (next core).breaches ≡ [] → ⊥
known_next next speaks None breaches first none clean = first refl (append_empty_left breaches (next None).breaches clean)
known_next next speaks (Some part) breaches first none clean =
    speaks part none (append_empty_right breaches (next (Some part)).breaches clean)

pub known_speaks :
    {A B : Type 0} (judged : Judged A) (next : Option A → Judged B) → Speaks judged → ((part : A) → Speaks (next (Some part))) →
    Speaks (judged >>? next)
known_speaks judged next first speaks = known_next next speaks judged.core judged.breaches first

paired_speaks : {A B : Type 0} (one : Option A) (other : Option B) (breaches others : List Refusal) →
    (one ≡ None → breaches ≡ [] → ⊥) → (breaches ≡ [] → other ≡ None → others ≡ [] → ⊥) → paired one other ≡ None →
    breaches ++ others ≡ [] → ⊥
paired_speaks None other breaches others first second none clean = first refl (append_empty_left breaches others clean)
paired_speaks (Some one) None breaches others first second none clean =
    second (append_empty_left breaches others clean) refl (append_empty_right breaches others clean)
paired_speaks (Some one) (Some other) breaches others first second none clean = cc

-- The second is asked only where the first breaks nothing.
pub both_speaks :
    {A B : Type 0} (one : Judged A) (other : Judged B) → Speaks one → (one.breaches ≡ [] → Speaks other) → Speaks (both one other)
both_speaks one other = paired_speaks one.core other.core one.breaches other.breaches

made_none : {A B : Type 0} (make : A → B) (core : Option A) → option_map make core ≡ None → core ≡ None
made_none make None none = refl
made_none make (Some part) none = cc

pub made_speaks : {A B : Type 0} (make : A → B) (judged : Judged A) → Speaks judged → Speaks (made make judged)
made_speaks make judged speaks none = speaks (made_none make judged.core none)

pub each_speaks : {A B : Type 0} (judge : A → Judged B) (phrases : List A) → ((phrase : A) → Speaks (judge phrase)) → Speaks (each judge phrases)
each_speaks judge [] speaks = good_speaks []
each_speaks judge (phrase ∷ phrases) speaks =
    made_speaks (λ parts. parts.0 ∷ parts.1) (both (judge phrase) (each judge phrases))
    (both_speaks (judge phrase) (each judge phrases) (speaks phrase) (λ clean. each_speaks judge phrases speaks))

pub each_at_speaks :
    {A B : Type 0} (judge : ℕ → A → Judged B) (number : ℕ) (phrases : List A) → ((at : ℕ) (phrase : A) → Speaks (judge at phrase)) →
    Speaks (each_at judge number phrases)
each_at_speaks judge number [] speaks = good_speaks []
each_at_speaks judge number (phrase ∷ phrases) speaks =
    made_speaks (λ parts. parts.0 ∷ parts.1) (both (judge number phrase) (each_at judge (number + 1) phrases))
    (both_speaks (judge number phrase) (each_at judge (number + 1) phrases) (speaks number phrase)
    (λ clean. each_at_speaks judge (number + 1) phrases speaks))

pub folded_speaks :
    {P A B : Type 0} (judge : P → Judged B) (next : P → A → B → Judged A) (start : Judged A) (phrases : List P) →
    ((phrase : P) → Speaks (judge phrase)) → ((phrase : P) (one : A) (other : B) → Speaks (next phrase one other)) → Speaks start →
    Speaks (folded judge next start phrases)
folded_speaks judge next start [] parts nexts first = first
folded_speaks judge next start (phrase ∷ phrases) parts nexts first =
    folded_speaks judge next (both start (judge phrase) >>= λ both. next phrase both.0 both.1) phrases parts nexts
    (then_speaks (both start (judge phrase)) (λ both. next phrase both.0 both.1) (both_speaks start (judge phrase) first (λ clean. parts phrase))
    (λ both. nexts phrase both.0 both.1))

-- ---- what declares

pub leaving_speaks : {A : Type 0} (scope : Declarations) (judged : Judged A) → IsKnown scope → Speaks judged → SpeaksStaged (leaving scope judged)
leaving_speaks scope judged known speaks = record { core = speaks; known = λ _. known }

pub both_staged_speaks :
    {A B : Type 0} (one : Staged A) (next : Setting → Staged B) (setting : Setting) → SpeaksStaged one →
    (one.breaches ≡ [] → IsKnown one.scope → SpeaksStaged (next (under one.scope setting))) → SpeaksStaged (both_staged one next setting)
both_staged_speaks one next setting first second =
    let behind : Staged _ = next (under one.scope setting) in
    record {
      core =
          paired_speaks one.core behind.core one.breaches behind.breaches first.core
          (λ clean. (second clean (first.known clean)).core);
      known = λ clean.
          let before : one.breaches ≡ [] = append_empty_left one.breaches behind.breaches clean in
          (second before (first.known before)).known (append_empty_right one.breaches behind.breaches clean);
    }

-- What comes next speaks where there is a core, and leaves a scope that is known.
next_known :
    {A B : Type 0} (next : Option A → Staged B) → (core : Option A) (breaches : List Refusal) →
    ((part : A) → core ≡ Some part → breaches ≡ [] → SpeaksStaged (next (Some part))) → (core ≡ None → breaches ≡ [] → ⊥) →
    breaches ≡ [] → SpeaksStaged (next core)
next_known next None breaches speaks first clean = absurd (first refl clean)
next_known next (Some part) breaches speaks first clean = speaks part refl clean

pub known_staged_speaks :
    {A B : Type 0} (one : Staged A) (next : Option A → Setting → Staged B) (setting : Setting) → SpeaksStaged one →
    ((part : A) → IsKnown one.scope → SpeaksStaged (next (Some part) (under one.scope setting))) →
    SpeaksStaged (known_staged one next setting)
known_staged_speaks one next setting first second =
    let behind : Staged _ = next one.core (under one.scope setting) in
    let speaks : one.breaches ≡ [] → SpeaksStaged behind =
    next_known (λ core. next core (under one.scope setting)) one.core one.breaches
    (λ part is clean. second part (first.known clean)) first.core in
    record {
      core = λ none clean.
          (speaks (append_empty_left one.breaches behind.breaches clean)).core none
          (append_empty_right one.breaches behind.breaches clean);
      known = λ clean.
          (speaks (append_empty_left one.breaches behind.breaches clean)).known
          (append_empty_right one.breaches behind.breaches clean);
    }

pub then_staged_speaks :
    {A B : Type 0} (judged : Judged A) (next : Option A → Setting → Staged B) (setting : Setting) → IsKnown setting.scope →
    Speaks judged → ((part : A) → SpeaksStaged (next (Some part) setting)) → SpeaksStaged (then_staged judged next setting)
then_staged_speaks judged next setting known first second =
    known_staged_speaks (leaving setting.scope judged) next setting (leaving_speaks setting.scope judged known first)
    (λ part known. second part)

pub made_staged_speaks : {A B : Type 0} (make : A → B) (staged : Staged A) → SpeaksStaged staged → SpeaksStaged (made_staged make staged)
made_staged_speaks make staged speaks = record { core = λ none. speaks.core (made_none make staged.core none); known = speaks.known }

pub each_staged_speaks :
    {A B : Type 0} (stage : A → Setting → Staged B) (phrases : List A) (setting : Setting) →
    ((phrase : A) (before : Setting) → IsKnown before.scope → SpeaksStaged (stage phrase before)) → IsKnown setting.scope →
    SpeaksStaged (each_staged stage phrases setting)
each_staged_speaks stage [] setting speaks known = record { core = λ none clean. cc; known = λ _. known }
each_staged_speaks stage (phrase ∷ phrases) setting speaks known =
    made_staged_speaks (λ parts. parts.0 ∷ parts.1) (both_staged (stage phrase setting) (each_staged stage phrases) setting)
    (both_staged_speaks (stage phrase setting) (each_staged stage phrases) setting (speaks phrase setting known)
    (λ clean. each_staged_speaks stage phrases (under (stage phrase setting).scope setting) speaks))

pub numbered_speaks :
    {A B : Type 0} (count : A → ℕ) (stage : ℕ → A → Setting → Staged B) (number : ℕ) (phrases : List A) (setting : Setting) →
    ((at : ℕ) (phrase : A) (before : Setting) → IsKnown before.scope → SpeaksStaged (stage at phrase before)) → IsKnown setting.scope →
    SpeaksStaged (each_staged_from count stage number phrases setting)
numbered_speaks count stage number [] setting speaks known = record { core = λ none clean. cc; known = λ _. known }
numbered_speaks count stage number (phrase ∷ phrases) setting speaks known =
    made_staged_speaks (λ parts. parts.0 ∷ parts.1)
    (both_staged (stage number phrase setting) (each_staged_from count stage (number + count phrase) phrases) setting)
    (both_staged_speaks (stage number phrase setting) (each_staged_from count stage (number + count phrase) phrases) setting
    (speaks number phrase setting known)
    (λ clean. numbered_speaks count stage (number + count phrase) phrases (under (stage number phrase setting).scope setting) speaks))

-- an empty level declares nothing
pub in_level_speaks :
    {A : Type 0} (inner : Setting → Staged A) (setting : Setting) → IsKnown setting.scope →
    (IsKnown (entered setting.scope) → SpeaksStaged (inner (under (entered setting.scope) setting))) → Speaks (in_level inner setting)
in_level_speaks inner setting known speaks = (speaks known).core
