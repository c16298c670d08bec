-- That each word of judgements keeps the law that what is resolved breaks no rule. What goes on by `>>?` keeps it where that is
-- said of it: what it gives without a core is no core.
use Rattle.std.proofs.Common.{◌≡◌, ℕ, ◌+◌, Bool, true, false, List, [], ◌∷◌, ◌++◌, Option, Some, None, option_map, refl, ap, ◌∙◌}
use Rattle.dbpl_base.specs.declared.place.Place.{Place}
use Rattle.dbpl_base.specs.declared.refusal.Refusal.{Refusal}
use Rattle.dbpl_judging.specs.Judgements.{Judged, asks, both, breaks, each, each_at, folded, good, made, of, paired, silent, unbuilt, ◌>>=◌, ◌>>?◌, ◌>>◌}
use Rattle.dbpl_judging.specs.Silences.{IsSilent, Silences, SilencesStaged}
use Rattle.dbpl_judging.specs.Stages.{Staged, both_staged, each_staged, each_staged_from, in_level, known_staged, leaving, made_staged, then_staged, under}
use Rattle.dbpl_judging.specs.declared.setting.Setting.{Setting}
use Rattle.dbpl_symbols.specs.Scopes.{Declarations, entered}

both_empty : {A : Type 0} (xs ys : List A) → xs ≡ [] → ys ≡ [] → xs ++ ys ≡ []
both_empty xs ys one other = ap (λ front. front ++ ys) one ∙ other

pub good_silences : {A : Type 0} (core : A) → Silences (good core)
good_silences core resolved is = refl

pub silent_silences : {A : Type 0} → Silences (silent {A = A})
silent_silences resolved is = refl

pub breaks_silences : {A : Type 0} (rule : ℕ) (place : Place) → Silences (breaks {A = A} rule place)
breaks_silences rule place resolved is = absurd (cc)

pub unbuilt_silences : {A : Type 0} → Silences (unbuilt {A = A})
unbuilt_silences resolved is = absurd (cc)

pub asks_silences : (rule : ℕ) (place : Place) (test : Bool) → Silences (asks rule place test)
asks_silences rule place true resolved is = refl
asks_silences rule place false resolved is = absurd (cc)

-- What comes next is silent where there is a core, and has none where there is none.
known_next :
    {A B : Type 0} (next : Option A → Option B) (others : Option A → List Refusal) →
    ((part : A) → IsSilent (others (Some part)) (next (Some part))) → next None ≡ None → (core : Option A) (breaches : List Refusal) →
    IsSilent breaches core → IsSilent (breaches ++ others core) (next core)
known_next next others silences nothing None breaches first resolved is = absurd (cc)
known_next next others silences nothing (Some part) breaches first resolved is =
    both_empty breaches (others (Some part)) (first part refl) (silences part resolved is)

pub known_silences :
    {A B : Type 0} (judged : Judged A) (next : Option A → Judged B) → Silences judged → ((part : A) → Silences (next (Some part))) →
    (next None).core ≡ None → Silences (judged >>? next)
known_silences judged next first silences nothing =
    known_next (λ core. (next core).core) (λ core. (next core).breaches) silences nothing judged.core judged.breaches first

pub then_silences :
    {A B : Type 0} (judged : Judged A) (next : A → Judged B) → Silences judged → ((part : A) → Silences (next part)) →
    Silences (judged >>= next)
then_silences judged next first silences = known_silences judged (of next) first silences refl

pub after_silences : {A B : Type 0} (judged : Judged A) (next : Judged B) → Silences judged → Silences next → Silences (judged >> next)
after_silences judged next first second = then_silences judged (λ _. next) first (λ _. second)

paired_silences :
    {A B : Type 0} (one : Option A) (other : Option B) (breaches others : List Refusal) → IsSilent breaches one → IsSilent others other →
    IsSilent (breaches ++ others) (paired one other)
paired_silences None other breaches others first second resolved is = absurd (cc)
paired_silences (Some one) None breaches others first second resolved is = absurd (cc)
paired_silences (Some one) (Some other) breaches others first second resolved is =
    both_empty breaches others (first one refl) (second other refl)

pub both_silences : {A B : Type 0} (one : Judged A) (other : Judged B) → Silences one → Silences other → Silences (both one other)
both_silences one other = paired_silences one.core other.core one.breaches other.breaches

mapped_silences : {A B : Type 0} (make : A → B) (core : Option A) (breaches : List Refusal) → IsSilent breaches core →
    IsSilent breaches (option_map make core)
mapped_silences make None breaches silences resolved is = absurd (cc)
mapped_silences make (Some part) breaches silences resolved is = silences part refl

pub made_silences : {A B : Type 0} (make : A → B) (judged : Judged A) → Silences judged → Silences (made make judged)
made_silences make judged = mapped_silences make judged.core judged.breaches

pub each_silences : {A B : Type 0} (judge : A → Judged B) (phrases : List A) → ((phrase : A) → Silences (judge phrase)) →
    Silences (each judge phrases)
each_silences judge [] silences = good_silences []
each_silences judge (phrase ∷ phrases) silences =
    made_silences (λ parts. parts.0 ∷ parts.1) (both (judge phrase) (each judge phrases))
    (both_silences (judge phrase) (each judge phrases) (silences phrase) (each_silences judge phrases silences))

pub each_at_silences :
    {A B : Type 0} (judge : ℕ → A → Judged B) (number : ℕ) (phrases : List A) → ((at : ℕ) (phrase : A) → Silences (judge at phrase)) →
    Silences (each_at judge number phrases)
each_at_silences judge number [] silences = good_silences []
each_at_silences judge number (phrase ∷ phrases) silences =
    made_silences (λ parts. parts.0 ∷ parts.1) (both (judge number phrase) (each_at judge (number + 1) phrases))
    (both_silences (judge number phrase) (each_at judge (number + 1) phrases) (silences number phrase)
    (each_at_silences judge (number + 1) phrases silences))

pub folded_silences :
    {P A B : Type 0} (judge : P → Judged B) (next : P → A → B → Judged A) (start : Judged A) (phrases : List P) →
    ((phrase : P) → Silences (judge phrase)) → ((phrase : P) (one : A) (other : B) → Silences (next phrase one other)) → Silences start →
    Silences (folded judge next start phrases)
folded_silences judge next start [] parts nexts first = first
folded_silences judge next start (phrase ∷ phrases) parts nexts first =
    folded_silences judge next (both start (judge phrase) >>= λ both. next phrase both.0 both.1) phrases parts nexts
    (then_silences (both start (judge phrase)) (λ both. next phrase both.0 both.1) (both_silences start (judge phrase) first (parts phrase))
    (λ both. nexts phrase both.0 both.1))

-- ---- what declares

pub leaving_silences : {A : Type 0} (scope : Declarations) (judged : Judged A) → Silences judged → SilencesStaged (leaving scope judged)
leaving_silences scope judged silences = silences

pub both_staged_silences :
    {A B : Type 0} (one : Staged A) (next : Setting → Staged B) (setting : Setting) → SilencesStaged one →
    SilencesStaged (next (under one.scope setting)) → SilencesStaged (both_staged one next setting)
both_staged_silences one next setting =
    let behind : Staged _ = next (under one.scope setting) in
    paired_silences one.core behind.core one.breaches behind.breaches

pub known_staged_silences :
    {A B : Type 0} (one : Staged A) (next : Option A → Setting → Staged B) (setting : Setting) → SilencesStaged one →
    ((part : A) → SilencesStaged (next (Some part) (under one.scope setting))) → (next None (under one.scope setting)).core ≡ None →
    SilencesStaged (known_staged one next setting)
known_staged_silences one next setting first silences nothing =
    let behind : Setting = under one.scope setting in
    known_next (λ core. (next core behind).core) (λ core. (next core behind).breaches) silences nothing one.core one.breaches first

pub then_staged_silences :
    {A B : Type 0} (judged : Judged A) (next : Option A → Setting → Staged B) (setting : Setting) → Silences judged →
    ((part : A) → SilencesStaged (next (Some part) setting)) → (next None setting).core ≡ None →
    SilencesStaged (then_staged judged next setting)
then_staged_silences judged next setting first silences nothing =
    known_staged_silences (leaving setting.scope judged) next setting first silences nothing

pub made_staged_silences : {A B : Type 0} (make : A → B) (staged : Staged A) → SilencesStaged staged → SilencesStaged (made_staged make staged)
made_staged_silences make staged = mapped_silences make staged.core staged.breaches

pub each_staged_silences :
    {A B : Type 0} (stage : A → Setting → Staged B) (phrases : List A) (setting : Setting) →
    ((phrase : A) (before : Setting) → SilencesStaged (stage phrase before)) → SilencesStaged (each_staged stage phrases setting)
each_staged_silences stage [] setting silences = λ resolved is. refl
each_staged_silences stage (phrase ∷ phrases) setting silences =
    made_staged_silences (λ parts. parts.0 ∷ parts.1) (both_staged (stage phrase setting) (each_staged stage phrases) setting)
    (both_staged_silences (stage phrase setting) (each_staged stage phrases) setting (silences phrase setting)
    (each_staged_silences stage phrases (under (stage phrase setting).scope setting) silences))

pub numbered_silences :
    {A B : Type 0} (count : A → ℕ) (stage : ℕ → A → Setting → Staged B) (number : ℕ) (phrases : List A) (setting : Setting) →
    ((at : ℕ) (phrase : A) (before : Setting) → SilencesStaged (stage at phrase before)) →
    SilencesStaged (each_staged_from count stage number phrases setting)
numbered_silences count stage number [] setting silences = λ resolved is. refl
numbered_silences count stage number (phrase ∷ phrases) setting silences =
    let behind : Setting = under (stage number phrase setting).scope setting in
    made_staged_silences (λ parts. parts.0 ∷ parts.1)
    (both_staged (stage number phrase setting) (each_staged_from count stage (number + count phrase) phrases) setting)
    (both_staged_silences (stage number phrase setting) (each_staged_from count stage (number + count phrase) phrases) setting
    (silences number phrase setting) (numbered_silences count stage (number + count phrase) phrases behind silences))

pub in_level_silences :
    {A : Type 0} (inner : Setting → Staged A) (setting : Setting) → SilencesStaged (inner (under (entered setting.scope) setting)) →
    Silences (in_level inner setting)
in_level_silences inner setting silences = silences
