-- THE laws of sequencing, by which a function that judges parts and goes on meets its contract. Each takes the contracts of the
-- calls, one after the other, and gives the contract of what they do together. What stands later is judged in the setting of the
-- checker that its function got: a `Setting → Judged B` is that judgement in each setting.
use Rattle.std.proofs.Common.{◌≡◌, ℕ, ◌+◌, ◌<◌, List, [], ◌∷◌, ◌++◌, length, take, get_or, Option, Some, option_map, Result, Ok, Err, IsOkAnd, sym, ap, ◌∙◌, subst, append_assoc, append-nil, arith}
use Rattle.std.proofs.lemmas.List.{length-take-le, take_more}
use Rattle.std.proofs.lemmas.List.Sums.{fold_more}
use Rattle.dbpl_base.specs.declared.memory.Memory.{Memory}
use Rattle.dbpl_judging.proofs.Least.{noting-append}
use Rattle.dbpl_judging.proofs.Lists.{one_core, put_before}
use Rattle.dbpl_judging.specs.Checking.{Checking, noting}
use Rattle.dbpl_judging.specs.Judgements.{Judged, added, both, each, each_at, folded, of, of_both, paired, ◌>>=◌, ◌>>?◌}
use Rattle.dbpl_judging.specs.Judging.{Judges}
use Rattle.dbpl_judging.specs.declared.setting.Setting.{Setting}

-- A phrase, and what is judged with its core, if it has one. The first call is one with a `?`: its contract is that at `Ok core`.
pub then_known :
    {A B : Type 0} (judged : Judged A) (next : Setting → Option A → Judged B) (core : Option A) (result : Result (Option B) Memory)
    (old middle new : Checking) →
    Judges judged (Ok core) old middle → Judges (next middle.setting core) result middle new →
    Judges (judged >>? next old.setting) result old new
then_known judged next core (Err error) old middle new first second = tt
then_known judged next core (Ok answer) old middle new first second =
    let Follows : Option _ → Checking → Type 0 = λ part checker.
    (answer ≡ (next checker.setting part).core) × (new ≡ noting (next checker.setting part).breaches checker) in
    let moved : Follows core (noting judged.breaches old) = subst (λ checker. Follows core checker) first.1 second in
    let there : Follows judged.core (noting judged.breaches old) =
    subst (λ part. Follows part (noting judged.breaches old)) first.0 moved in
    (there.0, there.1 ∙ sym (noting-append judged.breaches (next old.setting judged.core).breaches old))

-- A phrase, and what is asked of its core.
pub then :
    {A B : Type 0} (judged : Judged A) (next : Setting → A → Judged B) (core : Option A) (result : Result (Option B) Memory)
    (old middle new : Checking) →
    Judges judged (Ok core) old middle → Judges (of (next middle.setting) core) result middle new →
    Judges (judged >>= next old.setting) result old new
then judged next core result old middle new = then_known judged (λ setting. of (next setting)) core result old middle new

-- two phrases side by side, where both calls are answered
both_answered :
    {A B : Type 0} (one : Judged A) (other : Setting → Judged B) (first : Option A) (second : Option B) (old middle new : Checking) →
    Judges one (Ok first) old middle → Judges (other middle.setting) (Ok second) middle new →
    Judges (both one (other old.setting)) (Ok (paired first second)) old new
both_answered one other first second old middle new is also =
    let Follows : Checking → Type 0 = λ checker. (second ≡ (other checker.setting).core) × (new ≡ noting (other checker.setting).breaches checker) in
    let there : Follows (noting one.breaches old) = subst Follows is.1 also in (
      ap (λ part. paired part second) is.0 ∙ ap (λ part. paired one.core part) there.0,
      there.1 ∙ sym (noting-append one.breaches (other old.setting).breaches old),
    )

-- Two phrases side by side, whose cores are `first` and `second`. The first call is one with a `?`, the second is handed to `pair`,
-- whose contract is the last premise; where it is one with a `?` too, that is `(refl, refl)`.
pub together :
    {A B : Type 0} (one : Judged A) (other : Setting → Judged B) (begun : Option A) (answer : Result (Option B) Memory)
    (first : Option A) (second : Option B) (old middle new : Checking) →
    Judges one (Ok begun) old middle → Judges (other middle.setting) answer middle new → (first ≡ begun) × (answer ≡ Ok second) →
    Judges (both one (other old.setting)) (Ok (paired first second)) old new
together one other begun answer first second old middle new is also joined =
    both_answered one other first second old middle new
    (subst (λ core. Judges one (Ok core) old middle) (sym joined.0) is)
    (subst (λ result. Judges (other middle.setting) result middle new) joined.1 also)

-- two phrases side by side, and what is asked of both cores
pub then_both :
    {A B C : Type 0} (one : Judged A) (other : Setting → Judged B) (next : Setting → A → B → Judged C) (begun : Option A)
    (answer : Result (Option B) Memory) (first : Option A) (second : Option B) (result : Result (Option C) Memory)
    (old middle last new : Checking) →
    Judges one (Ok begun) old middle → Judges (other middle.setting) answer middle last → (first ≡ begun) × (answer ≡ Ok second) →
    Judges (of_both (next last.setting) first second) result last new →
    Judges (both one (other old.setting) >>= λ parts. next old.setting parts.0 parts.1) result old new
then_both one other next begun answer first second result old middle last new is also joined asked =
    then (both one (other old.setting)) (λ setting parts. next setting parts.0 parts.1) (paired first second) result old last new
    (together one other begun answer first second old middle last is also joined) asked

-- One more turn of a loop from left to right: the part at `at` is judged, `pair` joins it to what all before it make, and `next` is asked
-- of both. The loop's invariant is the third premise: all before `at` were judged.
pub one_more :
    {P A B : Type 0} (start : Judged A) (judge : Setting → P → Judged B) (next : Setting → P → A → B → Judged A) (phrases : List P) (at : ℕ) (phrase : P)
    (begun : Option A) (answer : Result (Option B) Memory) (so_far : Option A) (part : Option B) (result : Option A)
    (old middle last new : Checking) →
    at < length phrases → phrase ≡ get_or phrases at phrase →
    Judges (folded (judge old.setting) (next old.setting) start (take at phrases)) (Ok begun) old middle →
    Judges (judge middle.setting phrase) answer middle last → (so_far ≡ begun) × (answer ≡ Ok part) →
    Judges (of_both (next last.setting phrase) so_far part) (Ok result) last new →
    Judges (folded (judge old.setting) (next old.setting) start (take (at + 1) phrases)) (Ok result) old new
one_more {P = P} {A = A} start judge next phrases at phrase begun answer so_far part result old middle last new within is before also joined asked =
    let step : Judged A → P → Judged A = λ left one. both left (judge old.setting one) >>= λ parts. next old.setting one parts.0 parts.1 in
    let front : Judged A = folded (judge old.setting) (next old.setting) start (take at phrases) in
    let turn : Judges (step front phrase) (Ok result) old new =
    then_both front (λ setting. judge setting phrase) (λ setting. next setting phrase) begun answer so_far part (Ok result) old middle last new before also joined asked in
    let whole : folded (judge old.setting) (next old.setting) start (take (at + 1) phrases) ≡ step front phrase =
    fold_more step start phrases at phrase within ∙ ap (step front) (sym is) in
    subst (λ judged. Judges judged (Ok result) old new) (sym whole) turn

-- ---- lists

each_core : {A B : Type 0} (judge : A → Judged B) (phrases : List A) (phrase : A) →
    (each judge (phrases ++ phrase ∷ [])).core ≡ added (each judge phrases).core (judge phrase).core
each_core judge [] phrase = one_core (judge phrase).core
each_core judge (first ∷ phrases) phrase =
    ap (λ list. option_map (λ parts. parts.0 ∷ parts.1) (paired (judge first).core list)) (each_core judge phrases phrase)
    ∙ put_before (judge first).core (each judge phrases).core (judge phrase).core

each_breaches : {A B : Type 0} (judge : A → Judged B) (phrases : List A) (phrase : A) →
    (each judge (phrases ++ phrase ∷ [])).breaches ≡ (each judge phrases).breaches ++ (judge phrase).breaches
each_breaches judge [] phrase = append-nil (judge phrase).breaches
each_breaches judge (first ∷ phrases) phrase =
    ap (λ breaches. (judge first).breaches ++ breaches) (each_breaches judge phrases phrase)
    ∙ sym (append_assoc (judge first).breaches (each judge phrases).breaches (judge phrase).breaches)

-- a list of phrases, and one more
each_push :
    {P B : Type 0} (judge : Setting → P → Judged B) (phrases : List P) (phrase : P) (list : Option (List B)) (part : Option B)
    (old middle new : Checking) →
    Judges (each (judge old.setting) phrases) (Ok list) old middle → Judges (judge middle.setting phrase) (Ok part) middle new →
    Judges (each (judge old.setting) (phrases ++ phrase ∷ [])) (Ok (added list part)) old new
each_push judge phrases phrase list part old middle new before also =
    let there : Judges (both (each (judge old.setting) phrases) (judge old.setting phrase)) (Ok (paired list part)) old new =
    both_answered (each (judge old.setting) phrases) (λ setting. judge setting phrase) list part old middle new before also in (
      ap (option_map (λ parts. parts.0 ++ parts.1 ∷ [])) there.0 ∙ sym (each_core (judge old.setting) phrases phrase),
      there.1 ∙ ap (λ breaches. noting breaches old) (sym (each_breaches (judge old.setting) phrases phrase)),
    )

-- One more turn of a loop over a list: the phrase at `at` is judged, and `pushed` adds it, whose contract is the last premise. The
-- loop's invariant is the third premise.
pub one_more_of_list :
    {P B : Type 0} (judge : Setting → P → Judged B) (phrases : List P) (at : ℕ) (phrase : P) (list : Option (List B))
    (answer : Result (Option B) Memory) (longer : Option (List B)) (old middle new : Checking) →
    at < length phrases → phrase ≡ get_or phrases at phrase → Judges (each (judge old.setting) (take at phrases)) (Ok list) old middle →
    Judges (judge middle.setting phrase) answer middle new → IsOkAnd answer (λ part. longer ≡ added list part) →
    Judges (each (judge old.setting) (take (at + 1) phrases)) (Ok longer) old new
one_more_of_list judge phrases at phrase list (Err error) longer old middle new within is before also joined = absurd joined
one_more_of_list judge phrases at phrase list (Ok part) longer old middle new within is before also joined =
    let whole : take (at + 1) phrases ≡ take at phrases ++ phrase ∷ [] =
    take_more phrases at phrase within ∙ ap (λ one. take at phrases ++ one ∷ []) (sym is) in
    subst (λ core. Judges (each (judge old.setting) (take (at + 1) phrases)) (Ok core) old new) (sym joined)
    (subst (λ front. Judges (each (judge old.setting) front) (Ok (added list part)) old new) (sym whole)
    (each_push judge (take at phrases) phrase list part old middle new before also))

-- ---- lists with numbers

each_at_core : {A B : Type 0} (judge : ℕ → A → Judged B) (number : ℕ) (phrases : List A) (phrase : A) →
    (each_at judge number (phrases ++ phrase ∷ [])).core
    ≡ added (each_at judge number phrases).core (judge (number + length phrases) phrase).core
each_at_core judge number [] phrase =
    one_core (judge number phrase).core ∙ ap (λ n. added (Some []) (judge n phrase).core) (omega arith)
each_at_core judge number (first ∷ phrases) phrase =
    ap (λ list. option_map (λ parts. parts.0 ∷ parts.1) (paired (judge number first).core list)) (each_at_core judge (number + 1) phrases phrase)
    ∙ put_before (judge number first).core (each_at judge (number + 1) phrases).core (judge (number + 1 + length phrases) phrase).core
    ∙ ap (λ n. added (each_at judge number (first ∷ phrases)).core (judge n phrase).core) (omega arith)

each_at_breaches : {A B : Type 0} (judge : ℕ → A → Judged B) (number : ℕ) (phrases : List A) (phrase : A) →
    (each_at judge number (phrases ++ phrase ∷ [])).breaches
    ≡ (each_at judge number phrases).breaches ++ (judge (number + length phrases) phrase).breaches
each_at_breaches judge number [] phrase =
    append-nil (judge number phrase).breaches ∙ ap (λ n. (judge n phrase).breaches) (omega arith)
each_at_breaches judge number (first ∷ phrases) phrase =
    ap (λ breaches. (judge number first).breaches ++ breaches) (each_at_breaches judge (number + 1) phrases phrase)
    ∙ sym (append_assoc (judge number first).breaches (each_at judge (number + 1) phrases).breaches (judge (number + 1 + length phrases) phrase).breaches)
    ∙ ap (λ n. (each_at judge number (first ∷ phrases)).breaches ++ (judge n phrase).breaches) (omega arith)

-- a list of phrases with their numbers, and one more
each_at_push :
    {P B : Type 0} (judge : Setting → ℕ → P → Judged B) (number : ℕ) (phrases : List P) (phrase : P) (list : Option (List B)) (part : Option B)
    (old middle new : Checking) →
    Judges (each_at (judge old.setting) number phrases) (Ok list) old middle →
    Judges (judge middle.setting (number + length phrases) phrase) (Ok part) middle new →
    Judges (each_at (judge old.setting) number (phrases ++ phrase ∷ [])) (Ok (added list part)) old new
each_at_push judge number phrases phrase list part old middle new before also =
    let last : ℕ = number + length phrases in
    let there : Judges (both (each_at (judge old.setting) number phrases) (judge old.setting last phrase)) (Ok (paired list part)) old new =
    both_answered (each_at (judge old.setting) number phrases) (λ setting. judge setting last phrase) list part old middle new before also in (
      ap (option_map (λ parts. parts.0 ++ parts.1 ∷ [])) there.0 ∙ sym (each_at_core (judge old.setting) number phrases phrase),
      there.1 ∙ ap (λ breaches. noting breaches old) (sym (each_at_breaches (judge old.setting) number phrases phrase)),
    )

-- One more turn of a loop over a list with numbers, as `one_more_of_list`. The first phrase has the number `first`, and this one `number`.
pub one_more_at :
    {P B : Type 0} (judge : Setting → ℕ → P → Judged B) (first : ℕ) (phrases : List P) (at number : ℕ) (phrase : P)
    (list : Option (List B)) (answer : Result (Option B) Memory) (longer : Option (List B)) (old middle new : Checking) →
    at < length phrases → number ≡ first + at → phrase ≡ get_or phrases at phrase →
    Judges (each_at (judge old.setting) first (take at phrases)) (Ok list) old middle →
    Judges (judge middle.setting number phrase) answer middle new → IsOkAnd answer (λ part. longer ≡ added list part) →
    Judges (each_at (judge old.setting) first (take (at + 1) phrases)) (Ok longer) old new
one_more_at judge first phrases at number phrase list (Err error) longer old middle new within counted is before also joined = absurd joined
one_more_at judge first phrases at number phrase list (Ok part) longer old middle new within counted is before also joined =
    let whole : take (at + 1) phrases ≡ take at phrases ++ phrase ∷ [] =
    take_more phrases at phrase within ∙ ap (λ one. take at phrases ++ one ∷ []) (sym is) in
    let numbered : number ≡ first + length (take at phrases) =
    omega (arith, counted, length-take-le at phrases (omega (arith, within))) in
    subst (λ core. Judges (each_at (judge old.setting) first (take (at + 1) phrases)) (Ok core) old new) (sym joined)
    (subst (λ front. Judges (each_at (judge old.setting) first front) (Ok (added list part)) old new) (sym whole)
    (each_at_push judge first (take at phrases) phrase list part old middle new before
    (subst (λ n. Judges (judge middle.setting n phrase) (Ok part) middle new) numbered also)))
