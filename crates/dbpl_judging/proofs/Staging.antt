-- THE laws of sequencing for what declares: the same as those of phrases, with the scope handed on.
use Rattle.std.proofs.Common.{◌≡◌, ℕ, ◌+◌, ◌<◌, List, [], ◌∷◌, ◌++◌, length, take, get_or, Option, Some, option_map, Result, Ok, Err, IsOkAnd, refl, sym, ap, ◌∙◌, subst, append_assoc, append-nil, arith}
use Rattle.std.proofs.lemmas.List.{length-take-le, take_more}
use Rattle.std.proofs.lemmas.List.Sums.{sum_by-append, sum_by-cons}
use Rattle.std.specs.List.{sum_by}
use Rattle.dbpl_base.specs.declared.memory.Memory.{Memory}
use Rattle.dbpl_base.specs.declared.refusal.Refusal.{Refusal}
use Rattle.dbpl_judging.proofs.Least.{noting-append}
use Rattle.dbpl_judging.proofs.Lists.{one_core, put_before}
use Rattle.dbpl_judging.specs.Checking.{Checking, noting}
use Rattle.dbpl_judging.specs.Judging.{Judges}
use Rattle.dbpl_judging.specs.Judgements.{Judged, added, paired}
use Rattle.dbpl_judging.specs.Stages.{Adds, Staged, Stages, after, both_staged, each_staged, each_staged_at, each_staged_from, in_level, in_scope, known_staged, leaving, number_behind, then_staged, under}
use Rattle.dbpl_judging.specs.declared.setting.Setting.{Setting}
use Rattle.dbpl_symbols.proofs.ScopeLaws.{left_again}
use Rattle.dbpl_symbols.specs.Scopes.{Declarations, entered, left, with_pair, with_pairs}
use Rattle.dbpl_symbols.specs.declared.pair.Pair.{Pair}

-- what is noted after one stage and another, in the scope behind the second
pub after-after :
    (breaches others : List Refusal) (scope behind : Declarations) (checker : Checking) →
    after others behind (after breaches scope checker) ≡ after (breaches ++ others) behind checker
after-after breaches others scope behind checker = sym (noting-append breaches others (in_scope behind checker))

-- what is judged and then leaves another scope, or the same one, is a stage
pub then_leaves :
    {A : Type 0} (judged : Judged A) (scope : Declarations) (core : Option A) (old middle new : Checking) →
    Judges judged (Ok core) old middle → new ≡ in_scope scope middle → Stages (leaving scope judged) (Ok core) old new
then_leaves judged scope core old middle new judges leaves =
    (judges.0, leaves ∙ ap (λ (checker : Checking). in_scope scope checker) judges.1)

-- a judgement leaves the scope as it is
pub as_stage :
    {A : Type 0} (judged : Judged A) (result : Result (Option A) Memory) (old new : Checking) →
    Judges judged result old new → Stages (leaving old.setting.scope judged) result old new
as_stage judged (Err error) old new judges = tt
as_stage judged (Ok core) old new judges = judges

-- A stage, and what is judged behind it with its core, if it has one.
pub then_known_staged :
    {A B : Type 0} (one : Staged A) (next : Option A → Setting → Staged B) (core : Option A) (result : Result (Option B) Memory)
    (old middle new : Checking) →
    Stages one (Ok core) old middle → Stages (next core middle.setting) result middle new →
    Stages (known_staged one next old.setting) result old new
then_known_staged one next core (Err error) old middle new first second = tt
then_known_staged one next core (Ok answer) old middle new first second =
    let Follows : Option _ → Checking → Type 0 = λ part checker.
    (answer ≡ (next part checker.setting).core) × (new ≡ after (next part checker.setting).breaches (next part checker.setting).scope checker) in
    let moved : Follows core (after one.breaches one.scope old) = subst (λ checker. Follows core checker) first.1 second in
    let there : Follows one.core (after one.breaches one.scope old) =
    subst (λ part. Follows part (after one.breaches one.scope old)) first.0 moved in
    let behind : Staged _ = next one.core (under one.scope old.setting) in
    (there.0, there.1 ∙ after-after one.breaches behind.breaches one.scope behind.scope old)

-- A judged phrase, and what changes the scope behind it.
pub then_declares :
    {A B : Type 0} (judged : Judged A) (next : Option A → Setting → Staged B) (core : Option A) (result : Result (Option B) Memory)
    (old middle new : Checking) →
    Judges judged (Ok core) old middle → Stages (next core middle.setting) result middle new →
    Stages (then_staged judged next old.setting) result old new
then_declares judged next core result old middle new first second =
    then_known_staged (leaving old.setting.scope judged) next core result old middle new first second

-- one stage and the next, where both calls are answered
both_answered :
    {A B : Type 0} (one : Staged A) (next : Setting → Staged B) (first : Option A) (second : Option B) (old middle new : Checking) →
    Stages one (Ok first) old middle → Stages (next middle.setting) (Ok second) middle new →
    Stages (both_staged one next old.setting) (Ok (paired first second)) old new
both_answered one next first second old middle new is also =
    let Follows : Checking → Type 0 = λ checker.
    (second ≡ (next checker.setting).core) × (new ≡ after (next checker.setting).breaches (next checker.setting).scope checker) in
    let there : Follows (after one.breaches one.scope old) = subst Follows is.1 also in
    let behind : Staged _ = next (under one.scope old.setting) in (
      ap (λ part. paired part second) is.0 ∙ ap (λ part. paired one.core part) there.0,
      there.1 ∙ after-after one.breaches behind.breaches one.scope behind.scope old,
    )

-- One stage and the next, whose cores are `first` and `second`, as `together` of phrases.
pub together_staged :
    {A B : Type 0} (one : Staged A) (next : Setting → Staged B) (begun : Option A) (answer : Result (Option B) Memory)
    (first : Option A) (second : Option B) (old middle new : Checking) →
    Stages one (Ok begun) old middle → Stages (next middle.setting) answer middle new → (first ≡ begun) × (answer ≡ Ok second) →
    Stages (both_staged one next old.setting) (Ok (paired first second)) old new
together_staged one next begun answer first second old middle new is also joined =
    both_answered one next first second old middle new
    (subst (λ core. Stages one (Ok core) old middle) (sym joined.0) is)
    (subst (λ result. Stages (next middle.setting) result middle new) joined.1 also)

-- ---- a level that is left

-- A phrase that is judged in a level of its own, with what it declares there, is judged where the level is left.
pub level_left :
    {A : Type 0} (inner : Setting → Staged A) (core : Option A) (old entering leaving new : Checking) →
    entering ≡ in_scope (entered old.setting.scope) old → Stages (inner entering.setting) (Ok core) entering leaving →
    new ≡ in_scope (left leaving.setting.scope) leaving →
    Adds (entered old.setting.scope) (inner (under (entered old.setting.scope) old.setting)).scope →
    Judges (in_level inner old.setting) (Ok core) old new
level_left inner core old entering leaving new enters stages leaves adds =
    let Left : Checking → Type 0 = λ checker.
    (core ≡ (inner checker.setting).core) × (leaving ≡ after (inner checker.setting).breaches (inner checker.setting).scope checker) in
    let begun : Checking = in_scope (entered old.setting.scope) old in
    let there : Left begun = subst Left enters stages in
    let staged : Staged _ = inner begun.setting in
    let outer : left staged.scope ≡ old.setting.scope = ap left adds.1 ∙ left_again old.setting.scope adds.0 in (
      there.0,
      leaves ∙ ap (λ (checker : Checking). in_scope (left checker.setting.scope) checker) there.1
          ∙ ap (λ (scope : Declarations). in_scope scope (noting staged.breaches old)) outer,
    )

-- What was judged in another setting is judged where that of before is back.
pub elsewhere :
    {A : Type 0} (judged : Judged A) (core : Option A) (setting : Setting) (old middle last new : Checking) →
    middle ≡ record old { setting = setting } → Judges judged (Ok core) middle last → new ≡ record last { setting = old.setting } →
    Judges judged (Ok core) old new
elsewhere judged core setting old middle last new changed is back =
    let Back : Checking → Type 0 = λ checker. new ≡ (let before : Checking = record checker { setting = old.setting } in before) in (
      is.0,
      back
          ∙ ap (λ (checker : Checking). let before : Checking = record checker { setting = old.setting } in before) is.1
          ∙ ap (λ (checker : Checking). let before : Checking = record (noting judged.breaches checker) { setting = old.setting } in before) changed,
    )

-- ---- what a stage adds

pub adds_nothing : (scope : Declarations) → Adds scope scope
adds_nothing scope = ([], ap (λ (pairs : List Pair). let same : Declarations = record scope { pairs = pairs } in same) (sym (append-nil scope.pairs)))

pub adds_one : (pair : Pair) (scope : Declarations) → Adds scope (with_pair pair scope)
adds_one pair scope = (pair ∷ [], refl)

pub adds_both : (old middle new : Declarations) → Adds old middle → Adds middle new → Adds old new
adds_both old middle new (one, first) (other, second) = (
  one ++ other,
  second ∙ ap (λ (scope : Declarations). with_pairs other scope) first
      ∙ ap (λ (pairs : List Pair). let more : Declarations = record old { pairs = pairs } in more) (append_assoc old.pairs one other),
)

pub both_adds :
    {A B : Type 0} (one : Staged A) (next : Setting → Staged B) (setting : Setting) → Adds setting.scope one.scope →
    Adds one.scope (next (under one.scope setting)).scope → Adds setting.scope (both_staged one next setting).scope
both_adds one next setting first second = adds_both setting.scope one.scope (next (under one.scope setting)).scope first second

pub each_adds :
    {A B : Type 0} (stage : A → Setting → Staged B) (phrases : List A) (setting : Setting) →
    ((phrase : A) (before : Setting) → Adds before.scope (stage phrase before).scope) → Adds setting.scope (each_staged stage phrases setting).scope
each_adds stage [] setting adds = adds_nothing setting.scope
each_adds stage (phrase ∷ phrases) setting adds =
    let behind : Setting = under (stage phrase setting).scope setting in
    adds_both setting.scope behind.scope (each_staged stage phrases behind).scope (adds phrase setting) (each_adds stage phrases behind adds)

pub known_adds :
    {A B : Type 0} (one : Staged A) (next : Option A → Setting → Staged B) (setting : Setting) → Adds setting.scope one.scope →
    Adds one.scope (next one.core (under one.scope setting)).scope → Adds setting.scope (known_staged one next setting).scope
known_adds one next setting first second =
    adds_both setting.scope one.scope (next one.core (under one.scope setting)).scope first second

pub numbered_adds :
    {A B : Type 0} (count : A → ℕ) (stage : ℕ → A → Setting → Staged B) (number : ℕ) (phrases : List A) (setting : Setting) →
    ((at : ℕ) (phrase : A) (before : Setting) → Adds before.scope (stage at phrase before).scope) →
    Adds setting.scope (each_staged_from count stage number phrases setting).scope
numbered_adds count stage number [] setting adds = adds_nothing setting.scope
numbered_adds count stage number (phrase ∷ phrases) setting adds =
    let behind : Setting = under (stage number phrase setting).scope setting in
    adds_both setting.scope behind.scope (each_staged_from count stage (number + count phrase) phrases behind).scope
    (adds number phrase setting) (numbered_adds count stage (number + count phrase) phrases behind adds)

-- ---- lists of stages

-- the setting behind these stages
abbrev behind : {A B : Type 0} → (A → Setting → Staged B) → List A → Setting → Setting
behind stage phrases setting = under (each_staged stage phrases setting).scope setting

staged_core :
    {A B : Type 0} (stage : A → Setting → Staged B) (phrases : List A) (phrase : A) (setting : Setting) →
    (each_staged stage (phrases ++ phrase ∷ []) setting).core
    ≡ added (each_staged stage phrases setting).core (stage phrase (behind stage phrases setting)).core
staged_core stage [] phrase setting = one_core (stage phrase setting).core
staged_core stage (first ∷ phrases) phrase setting =
    let next : Setting = under (stage first setting).scope setting in
    ap (λ list. option_map (λ parts. parts.0 ∷ parts.1) (paired (stage first setting).core list)) (staged_core stage phrases phrase next)
    ∙ put_before (stage first setting).core (each_staged stage phrases next).core (stage phrase (behind stage phrases next)).core

staged_breaches :
    {A B : Type 0} (stage : A → Setting → Staged B) (phrases : List A) (phrase : A) (setting : Setting) →
    (each_staged stage (phrases ++ phrase ∷ []) setting).breaches
    ≡ (each_staged stage phrases setting).breaches ++ (stage phrase (behind stage phrases setting)).breaches
staged_breaches stage [] phrase setting = append-nil (stage phrase setting).breaches
staged_breaches stage (first ∷ phrases) phrase setting =
    let next : Setting = under (stage first setting).scope setting in
    ap (λ breaches. (stage first setting).breaches ++ breaches) (staged_breaches stage phrases phrase next)
    ∙ sym (append_assoc (stage first setting).breaches (each_staged stage phrases next).breaches (stage phrase (behind stage phrases next)).breaches)

staged_scope :
    {A B : Type 0} (stage : A → Setting → Staged B) (phrases : List A) (phrase : A) (setting : Setting) →
    (each_staged stage (phrases ++ phrase ∷ []) setting).scope ≡ (stage phrase (behind stage phrases setting)).scope
staged_scope stage [] phrase setting = refl
staged_scope stage (first ∷ phrases) phrase setting = staged_scope stage phrases phrase (under (stage first setting).scope setting)

-- several stages, and one more
staged_push :
    {P B : Type 0} (stage : P → Setting → Staged B) (phrases : List P) (phrase : P) (list : Option (List B)) (part : Option B)
    (old middle new : Checking) →
    Stages (each_staged stage phrases old.setting) (Ok list) old middle → Stages (stage phrase middle.setting) (Ok part) middle new →
    Stages (each_staged stage (phrases ++ phrase ∷ []) old.setting) (Ok (added list part)) old new
staged_push stage phrases phrase list part old middle new before also =
    let front : Staged _ = each_staged stage phrases old.setting in
    let there : Stages (both_staged front (stage phrase) old.setting) (Ok (paired list part)) old new =
    both_answered front (stage phrase) list part old middle new before also in (
      ap (option_map (λ parts. parts.0 ++ parts.1 ∷ [])) there.0 ∙ sym (staged_core stage phrases phrase old.setting),
      there.1
          ∙ ap (λ breaches. after breaches (stage phrase (behind stage phrases old.setting)).scope old) (sym (staged_breaches stage phrases phrase old.setting))
          ∙ ap (λ scope. after (each_staged stage (phrases ++ phrase ∷ []) old.setting).breaches scope old) (sym (staged_scope stage phrases phrase old.setting)),
    )

-- one more turn of a loop over stages, as `one_more_of_list` of phrases
pub one_more_stage :
    {P B : Type 0} (stage : P → Setting → Staged B) (phrases : List P) (at : ℕ) (phrase : P) (list : Option (List B))
    (answer : Result (Option B) Memory) (longer : Option (List B)) (old middle new : Checking) →
    at < length phrases → phrase ≡ get_or phrases at phrase → Stages (each_staged stage (take at phrases) old.setting) (Ok list) old middle →
    Stages (stage phrase middle.setting) answer middle new → IsOkAnd answer (λ part. longer ≡ added list part) →
    Stages (each_staged stage (take (at + 1) phrases) old.setting) (Ok longer) old new
one_more_stage stage phrases at phrase list (Err error) longer old middle new within is before also joined = absurd joined
one_more_stage stage phrases at phrase list (Ok part) longer old middle new within is before also joined =
    let whole : take (at + 1) phrases ≡ take at phrases ++ phrase ∷ [] =
    take_more phrases at phrase within ∙ ap (λ one. take at phrases ++ one ∷ []) (sym is) in
    subst (λ core. Stages (each_staged stage (take (at + 1) phrases) old.setting) (Ok core) old new) (sym joined)
    (subst (λ front. Stages (each_staged stage front old.setting) (Ok (added list part)) old new) (sym whole)
    (staged_push stage (take at phrases) phrase list part old middle new before also))

-- ---- lists of stages with numbers

-- the setting behind these
abbrev behind_numbered : {A B : Type 0} → (A → ℕ) → (ℕ → A → Setting → Staged B) → ℕ → List A → Setting → Setting
behind_numbered count stage number phrases setting = under (each_staged_from count stage number phrases setting).scope setting

-- the stage of one more phrase
abbrev last_numbered : {A B : Type 0} → (A → ℕ) → (ℕ → A → Setting → Staged B) → ℕ → List A → A → Setting → Staged B
last_numbered count stage number phrases phrase setting =
    stage (number_behind count number phrases) phrase (behind_numbered count stage number phrases setting)

further : {A : Type 0} (count : A → ℕ) (number : ℕ) (first : A) (phrases : List A) →
    number_behind count (number + count first) phrases ≡ number_behind count number (first ∷ phrases)
further count number first phrases = omega (arith, sum_by-cons count first phrases)

no_further : {A : Type 0} (count : A → ℕ) (number : ℕ) → number ≡ number_behind count number []
no_further count number = omega arith

numbered_core :
    {A B : Type 0} (count : A → ℕ) (stage : ℕ → A → Setting → Staged B) (number : ℕ) (phrases : List A) (phrase : A) (setting : Setting) →
    (each_staged_from count stage number (phrases ++ phrase ∷ []) setting).core
    ≡ added (each_staged_from count stage number phrases setting).core (last_numbered count stage number phrases phrase setting).core
numbered_core count stage number [] phrase setting =
    one_core (stage number phrase setting).core ∙ ap (λ n. added (Some []) (stage n phrase setting).core) (no_further count number)
numbered_core count stage number (first ∷ phrases) phrase setting =
    let next : Setting = under (stage number first setting).scope setting in
    let later : ℕ = number + count first in
    ap (λ list. option_map (λ parts. parts.0 ∷ parts.1) (paired (stage number first setting).core list))
    (numbered_core count stage later phrases phrase next)
    ∙ put_before (stage number first setting).core (each_staged_from count stage later phrases next).core
    (last_numbered count stage later phrases phrase next).core
    ∙ ap (λ n. added (each_staged_from count stage number (first ∷ phrases) setting).core
    (stage n phrase (behind_numbered count stage later phrases next)).core) (further count number first phrases)

numbered_breaches :
    {A B : Type 0} (count : A → ℕ) (stage : ℕ → A → Setting → Staged B) (number : ℕ) (phrases : List A) (phrase : A) (setting : Setting) →
    (each_staged_from count stage number (phrases ++ phrase ∷ []) setting).breaches
    ≡ (each_staged_from count stage number phrases setting).breaches ++ (last_numbered count stage number phrases phrase setting).breaches
numbered_breaches count stage number [] phrase setting =
    append-nil (stage number phrase setting).breaches ∙ ap (λ n. (stage n phrase setting).breaches) (no_further count number)
numbered_breaches count stage number (first ∷ phrases) phrase setting =
    let next : Setting = under (stage number first setting).scope setting in
    let later : ℕ = number + count first in
    ap (λ breaches. (stage number first setting).breaches ++ breaches) (numbered_breaches count stage later phrases phrase next)
    ∙ sym (append_assoc (stage number first setting).breaches (each_staged_from count stage later phrases next).breaches
    (last_numbered count stage later phrases phrase next).breaches)
    ∙ ap (λ n. (each_staged_from count stage number (first ∷ phrases) setting).breaches
    ++ (stage n phrase (behind_numbered count stage later phrases next)).breaches) (further count number first phrases)

numbered_scope :
    {A B : Type 0} (count : A → ℕ) (stage : ℕ → A → Setting → Staged B) (number : ℕ) (phrases : List A) (phrase : A) (setting : Setting) →
    (each_staged_from count stage number (phrases ++ phrase ∷ []) setting).scope
    ≡ (last_numbered count stage number phrases phrase setting).scope
numbered_scope count stage number [] phrase setting = ap (λ n. (stage n phrase setting).scope) (no_further count number)
numbered_scope count stage number (first ∷ phrases) phrase setting =
    let next : Setting = under (stage number first setting).scope setting in
    numbered_scope count stage (number + count first) phrases phrase next
    ∙ ap (λ n. (stage n phrase (behind_numbered count stage (number + count first) phrases next)).scope) (further count number first phrases)

-- several stages with their numbers, and one more
numbered_push :
    {P B : Type 0} (count : P → ℕ) (stage : ℕ → P → Setting → Staged B) (number : ℕ) (phrases : List P) (phrase : P)
    (list : Option (List B)) (part : Option B) (old middle new : Checking) →
    Stages (each_staged_from count stage number phrases old.setting) (Ok list) old middle →
    Stages (stage (number_behind count number phrases) phrase middle.setting) (Ok part) middle new →
    Stages (each_staged_from count stage number (phrases ++ phrase ∷ []) old.setting) (Ok (added list part)) old new
numbered_push count stage number phrases phrase list part old middle new before also =
    let front : Staged _ = each_staged_from count stage number phrases old.setting in
    let there : Stages (both_staged front (stage (number_behind count number phrases) phrase) old.setting) (Ok (paired list part)) old new =
    both_answered front (stage (number_behind count number phrases) phrase) list part old middle new before also in (
      ap (option_map (λ parts. parts.0 ++ parts.1 ∷ [])) there.0 ∙ sym (numbered_core count stage number phrases phrase old.setting),
      there.1
          ∙ ap (λ breaches. after breaches (last_numbered count stage number phrases phrase old.setting).scope old)
          (sym (numbered_breaches count stage number phrases phrase old.setting))
          ∙ ap (λ scope. after (each_staged_from count stage number (phrases ++ phrase ∷ []) old.setting).breaches scope old)
          (sym (numbered_scope count stage number phrases phrase old.setting)),
    )

-- One more turn of a loop over stages with numbers: the first has the number `first`, this one `number`, which is what those before
-- it have taken more. Where each takes one number, `count` is `λ _. 1`.
pub one_more_stage_from :
    {P B : Type 0} (count : P → ℕ) (stage : ℕ → P → Setting → Staged B) (first : ℕ) (phrases : List P) (at number : ℕ) (phrase : P)
    (list : Option (List B)) (answer : Result (Option B) Memory) (longer : Option (List B)) (old middle new : Checking) →
    at < length phrases → number ≡ number_behind count first (take at phrases) → phrase ≡ get_or phrases at phrase →
    Stages (each_staged_from count stage first (take at phrases) old.setting) (Ok list) old middle →
    Stages (stage number phrase middle.setting) answer middle new → IsOkAnd answer (λ part. longer ≡ added list part) →
    Stages (each_staged_from count stage first (take (at + 1) phrases) old.setting) (Ok longer) old new
one_more_stage_from count stage first phrases at number phrase list (Err error) longer old middle new within counted is before also joined =
    absurd joined
one_more_stage_from count stage first phrases at number phrase list (Ok part) longer old middle new within counted is before also joined =
    let whole : take (at + 1) phrases ≡ take at phrases ++ phrase ∷ [] =
    take_more phrases at phrase within ∙ ap (λ one. take at phrases ++ one ∷ []) (sym is) in
    subst (λ core. Stages (each_staged_from count stage first (take (at + 1) phrases) old.setting) (Ok core) old new) (sym joined)
    (subst (λ front. Stages (each_staged_from count stage first front old.setting) (Ok (added list part)) old new) (sym whole)
    (numbered_push count stage first (take at phrases) phrase list part old middle new before
    (subst (λ n. Stages (stage n phrase middle.setting) (Ok part) middle new) counted also)))

one_counted : {A : Type 0} (count : A → ℕ) (phrase : A) → sum_by count (phrase ∷ []) ≡ count phrase
one_counted count phrase = sum_by-cons count phrase [] ∙ omega arith

-- and the number of the next one
pub one_number_more :
    {P : Type 0} (count : P → ℕ) (first : ℕ) (phrases : List P) (at number next : ℕ) (phrase : P) → at < length phrases →
    number ≡ number_behind count first (take at phrases) → phrase ≡ get_or phrases at phrase → next ≡ number + count phrase →
    next ≡ number_behind count first (take (at + 1) phrases)
one_number_more count first phrases at number next phrase within counted is more =
    let whole : take (at + 1) phrases ≡ take at phrases ++ phrase ∷ [] =
    take_more phrases at phrase within ∙ ap (λ one. take at phrases ++ one ∷ []) (sym is) in
    let sums : sum_by count (take (at + 1) phrases) ≡ sum_by count (take at phrases) + count phrase =
    ap (sum_by count) whole ∙ sum_by-append count (take at phrases) (phrase ∷ [])
    ∙ ap (λ n. sum_by count (take at phrases) + n) (one_counted count phrase) in
    omega (arith, counted, more, sums)

-- ---- lists of stages with positions

sum_ones : {A : Type 0} (xs : List A) → sum_by (λ _. 1) xs ≡ length xs
sum_ones [] = omega arith
sum_ones (x ∷ xs) = omega (arith, sum_by-cons (λ _. 1) x xs, sum_ones xs)

ones_behind : {A : Type 0} (first : ℕ) (phrases : List A) (at : ℕ) → at < length phrases → first + at ≡ number_behind (λ _. 1) first (take at phrases)
ones_behind first phrases at within =
    omega (arith, sum_ones (take at phrases), length-take-le at phrases (omega (arith, within)))

-- the same turn where each takes one number
pub one_more_stage_at :
    {P B : Type 0} (stage : ℕ → P → Setting → Staged B) (first : ℕ) (phrases : List P) (at number : ℕ) (phrase : P)
    (list : Option (List B)) (answer : Result (Option B) Memory) (longer : Option (List B)) (old middle new : Checking) →
    at < length phrases → number ≡ first + at → phrase ≡ get_or phrases at phrase →
    Stages (each_staged_at stage first (take at phrases) old.setting) (Ok list) old middle →
    Stages (stage number phrase middle.setting) answer middle new → IsOkAnd answer (λ part. longer ≡ added list part) →
    Stages (each_staged_at stage first (take (at + 1) phrases) old.setting) (Ok longer) old new
one_more_stage_at stage first phrases at number phrase list answer longer old middle new within counted is before also joined =
    one_more_stage_from (λ _. 1) stage first phrases at number phrase list answer longer old middle new within
    (counted ∙ ones_behind first phrases at within) is before also joined
