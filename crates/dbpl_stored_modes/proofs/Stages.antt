-- What the stages of a run over a store do.
use Rattle.std.proofs.Common.{◌≡◌, ◌∙◌, ◌⊎◌, ◌+◌, ℕ, Bool, List, [], ◌∷◌, Err, IfErr, IfOk, IsTrue, Ok, Option, Result, Some, ap, arith, get_or, inl, inr, length, map, refl, subst, sym}
use Rattle.dbpl_base.specs.declared.place.Place.{Place}
use Rattle.dbpl_base.specs.declared.status.Status.{Status}
use Rattle.dbpl_base.specs.declared.status.Status.TheVariants as status
use Rattle.dbpl_core.specs.Outcomes.{IsSteady}
use Rattle.dbpl_promise.proofs.AnswerKinds.{HasKinds, Refusal, kind_of, kinds_given, kinds_joined}
use Rattle.dbpl_promise.proofs.Determined.{given, joined}
use Rattle.dbpl_promise.proofs.InFront.{in_front}
use Rattle.dbpl_promise.proofs.Rows.{BeginsAs, IsRow, at_beginning, running_row}
use Rattle.dbpl_promise.proofs.Stages.{all_bound_determined, all_bound_kinds, all_bound_mounts, named_determined, named_kinds, opened_determined, opened_kinds, running_determined}
use Rattle.dbpl_promise.proofs.Still.{IsStill}
use Rattle.dbpl_promise.proofs.Stopped.{StopsUnmounted, stopped, stops_in_front}
use Rattle.dbpl_promise.specs.Opening.{StandsAs, all_bound, named, no_store, opened, store_before}
use Rattle.dbpl_promise.specs.Promises.{Answered}
use Rattle.dbpl_promise.specs.Running.{running}
use Rattle.dbpl_promise.specs.Runs.{Run}
use Rattle.dbpl_promise.specs.Stages.{IsDetermined, Stage, Stops, gives, ◌>>=◌}
use Rattle.dbpl_promise.specs.Work.{IsTold, Work}
use Rattle.dbpl_sources.proofs.Fetched.{all_determined, all_kinds, all_mounts}
use Rattle.dbpl_sources.specs.Fetching.{all_fetched}
use Rattle.dbpl_stored_form.proofs.TextLaw.{one_program, one_refusal, program_or_refusal}
use Rattle.dbpl_stored_form.specs.Texts.{IsRefused, IsStored}
use Rattle.dbpl_stored_modes.specs.Reading.{AreRefused}
use Rattle.dbpl_stored_modes.specs.RunCommand.{AreNoProgram, AreProgram, accepted_texts, reads_program, runs_over, runs_program}
use Rattle.dbpl_stored_program.proofs.Steady.{steady}
use Rattle.dbpl_stored_program.specs.Meaning.{meaning}
use Rattle.dbpl_stored_program.specs.declared.stored_program.StoredProgram.{StoredProgram}
use Rattle.dbpl_value.specs.Binding.{Binds}
use Rattle.dbpl_value.specs.declared.bound.Bound.{Bound}
use Rattle.dbpl_world.specs.Files.{Files}
use Rattle.dbpl_world.specs.History.{History}

-- the run of a program over a store that stands for this database, once it is bound
abbrev pub run_of : List ℕ → StoredProgram → List Bound → List Bound → Run
run_of store stored database bound = record { store = Some store; database = database; means = meaning stored bound }

-- the stages behind the opening of the store
abbrev pub behind_opening : List ℕ → StoredProgram → List Bound → Stage Run
behind_opening store stored database = all_bound (stored.relation ∷ []) database >>= λ bound. gives (run_of store stored database bound)

-- the stages behind the test of its name
abbrev pub over_store : List ℕ → StoredProgram → Stage Run
over_store store stored = opened store >>= behind_opening store stored

pub meaning_steady : (stored : StoredProgram) (bound : List Bound) (input : List ℕ) → IsSteady (meaning stored bound input)
meaning_steady stored bound input = record {
  extends = λ turns others.
      let on = steady stored bound input turns others (turns + others) refl in (on.extends.rest, on.extends.is);
  stays = λ turns others ended. (steady stored bound input turns others (turns + others) refl).stays ended;
}

-- ---- the store

behind_kinds : (store : List ℕ) (stored : StoredProgram) (database : List Bound) → HasKinds (behind_opening store stored database)
behind_kinds store stored database =
    kinds_joined (all_bound (stored.relation ∷ []) database) (λ bound. gives (run_of store stored database bound))
    (all_bound_kinds (stored.relation ∷ []) database) (λ bound. kinds_given (run_of store stored database bound))

pub over_kinds : (store : List ℕ) (stored : StoredProgram) → HasKinds (over_store store stored)
over_kinds store stored = kinds_joined (opened store) (behind_opening store stored) (opened_kinds store) (behind_kinds store stored)

program_kinds : (store : List ℕ) (stored : StoredProgram) → HasKinds (runs_program store stored)
program_kinds store stored = kinds_joined (named store) (λ _. over_store store stored) (named_kinds store) (λ _. over_kinds store stored)

behind_determined : (store : List ℕ) (stored : StoredProgram) (database : List Bound) (work : Work) →
    IsDetermined (behind_opening store stored database) work
behind_determined store stored database work =
    joined (all_bound (stored.relation ∷ []) database) (λ bound. gives (run_of store stored database bound)) work
    (all_bound_determined (stored.relation ∷ []) database work) (λ bound passes. given work (run_of store stored database bound))

over_determined : (store : List ℕ) (stored : StoredProgram) (work : Work) → IsTrue work.tells → IsDetermined (over_store store stored) work
over_determined store stored work tells =
    joined (opened store) (behind_opening store stored) work (opened_determined store work tells)
    (λ database passes. behind_determined store stored database work)

program_determined : (store : List ℕ) (stored : StoredProgram) (work : Work) → IsTrue work.tells → IsDetermined (runs_program store stored) work
program_determined store stored work tells =
    joined (named store) (λ _. over_store store stored) work (named_determined store work)
    (λ done passes. over_determined store stored work tells)

-- ---- what they pass with

module _ (store : List ℕ) (stored : StoredProgram) (work : Work) where
  pub passes_over : (database bound : List Bound) → (IsTrue work.tells → StandsAs database (store_before store work)) →
      Binds stored.relation database bound → (over_store store stored).passes work (run_of store stored database bound)
  passes_over database bound reads binds = (database, reads, (bound, (bound, binds, refl), refl))

  -- what they pass with is such a run
  pub record IsFound (run : Run) : Type 0 where
    pub database : List Bound
    pub bound : List Bound
    pub reads : IsTrue work.tells → StandsAs database (store_before store work)
    pub binds : Binds stored.relation database bound
    pub is : run ≡ run_of store stored database bound

  pub found_over : (run : Run) → (over_store store stored).passes work run → IsFound run
  found_over run (database, reads, (bound, (after, binds, same), is)) = record {
    database = database;
    bound = bound;
    reads = reads;
    binds = subst (Binds stored.relation database) (sym same) binds;
    is = is;
  }

  -- no store but this one is mounted
  pub over_mounts : (name : List ℕ) → (over_store store stored).mounts work name → name ≡ store
  over_mounts name (inl this) = this
  over_mounts name (inr (database, reads, inl within)) = absurd (all_bound_mounts (stored.relation ∷ []) database work name within)
  over_mounts name (inr (database, reads, inr behind)) = absurd behind.2

-- ---- the texts

no_program_kind : (texts : List (List ℕ)) (work : Work) (answer : Status) → AreNoProgram texts work answer → kind_of answer ≡ Refusal
no_program_kind texts work (status.Refused place rule) is = refl
no_program_kind texts work _ is = absurd is

accepted_kinds : (texts : List (List ℕ)) → HasKinds (accepted_texts texts)
accepted_kinds texts = record { refuses = no_program_kind texts; fails = λ work answer never. absurd never }

-- the two texts are two others
both : (a b c d : List ℕ) → a ∷ b ∷ [] ≡ c ∷ d ∷ [] → (a ≡ c) × (b ≡ d)
both a b c d same = (cc (same), cc (same))

module _ (texts : List (List ℕ)) (work : Work) where
  one : (first second : StoredProgram) → AreProgram texts first → AreProgram texts second → first ≡ second
  one first second (schema, program, are, is) (other, another, same, also) =
      let texts_same = both other another schema program (sym same ∙ are) in
      one_program schema program first second is
      (subst (λ (t : List ℕ). IsStored schema t second) texts_same.1 (subst (λ (t : List ℕ). IsStored t another second) texts_same.0 also))

  refused_alike : (place other : Place) (rule another : ℕ) → (place ≡ other) × (rule ≡ another) →
      status.Refused place rule ≡ status.Refused other another
  refused_alike place other rule another same = cc (same.0, same.1)

  refusal : (answer other : Status) → AreNoProgram texts work answer → AreNoProgram texts work other → answer ≡ other
  refusal (status.Refused place rule) (status.Refused there number) (schema, program, are, is) (other, another, same, also) =
      let texts_same = both other another schema program (sym same ∙ are) in
      refused_alike place there rule number
      (one_refusal schema program place there rule number is
      (subst (λ (t : List ℕ). IsRefused schema t there number) texts_same.1
      (subst (λ (t : List ℕ). IsRefused t another there number) texts_same.0 also)))
  refusal (status.Refused place rule) _ left right = absurd right
  refusal _ other left right = absurd left

  apart : (stored : StoredProgram) (answer : Status) → AreProgram texts stored → AreNoProgram texts work answer → ⊥
  apart stored (status.Refused place rule) (schema, program, are, is) (other, another, same, also) =
      let texts_same = both other another schema program (sym same ∙ are) in
      program_or_refusal schema program stored place rule is
      (subst (λ (t : List ℕ). IsRefused schema t place rule) texts_same.1
      (subst (λ (t : List ℕ). IsRefused t another place rule) texts_same.0 also))
  apart stored _ passes refuses = absurd refuses

  accepted_determined : IsDetermined (accepted_texts texts) work
  accepted_determined = record { one = one; refusal = refusal; apart = apart }

-- ---- the files

-- a list of two, by what stands in it
two : {X : Type 0} (f : X → List ℕ) (xs : List X) (one other : X) → length xs ≡ 2 → one ≡ get_or xs 0 one → other ≡ get_or xs 1 other →
    map f xs ≡ f one ∷ f other ∷ []
two f [] one other is first second = absurd (omega (arith, is))
two f (a ∷ []) one other is first second = absurd (omega (arith, is))
two f (a ∷ b ∷ []) one other is first second = cc (first, second)
two f (a ∷ b ∷ c ∷ more) one other is first second = absurd (omega (arith, is))

module _ (schema program : List ℕ) where
  reading_kinds : HasKinds (reads_program schema program)
  reading_kinds = kinds_joined (all_fetched (schema ∷ program ∷ [])) accepted_texts (all_kinds (schema ∷ program ∷ [])) accepted_kinds

  reading_determined : (work : Work) → IsTold work → IsDetermined (reads_program schema program) work
  reading_determined work told =
      joined (all_fetched (schema ∷ program ∷ [])) accepted_texts work (all_determined (schema ∷ program ∷ []) work told.files)
      (λ texts passes. accepted_determined texts work)

  reading_mounts : (work : Work) (name : List ℕ) → (reads_program schema program).mounts work name → ⊥
  reading_mounts work name (inl here) = all_mounts (schema ∷ program ∷ []) work name here
  reading_mounts work name (inr behind) = behind.2

  -- what two texts come to that were fetched
  pub texts_pass : (work : Work) (first second : List ℕ) (stored : StoredProgram) →
      (all_fetched (schema ∷ program ∷ [])).passes work (first ∷ second ∷ []) → IsStored first second stored →
      (reads_program schema program).passes work stored
  texts_pass work first second stored passes is = (first ∷ second ∷ [], passes, (first, second, refl, is))

  pub texts_stop : (work : Work) (first second : List ℕ) (answer : Status) →
      (all_fetched (schema ∷ program ∷ [])).passes work (first ∷ second ∷ []) → AreRefused first second answer →
      Stops (reads_program schema program) work answer
  texts_stop work first second (status.Refused place rule) passes is =
      inl (inr (first ∷ second ∷ [], passes, (first, second, refl, is)))
  texts_stop work first second status.Memory passes is = inr (inr refl)
  texts_stop work first second _ passes is = absurd is

  pub files_stop : (work : Work) (answer : Status) → Stops (all_fetched (schema ∷ program ∷ [])) work answer →
      Stops (reads_program schema program) work answer
  files_stop work answer (inl refuses) = inl (inl refuses)
  files_stop work answer (inr (inl fault)) = inr (inl (inl fault))
  files_stop work answer (inr (inr memory)) = inr (inr memory)

-- The same of a list of two texts that were fetched, and of what was answered of them.
module _ {X : Type 0} (bytes : X → List ℕ) (texts : List X) (one other : X) (schema program first second : List ℕ) (work : Work)
    (count : length texts ≡ 2) (is_one : one ≡ get_or texts 0 one) (is_other : other ≡ get_or texts 1 other)
    (first_is : first ≡ bytes one) (second_is : second ≡ bytes other)
    (passes : (all_fetched (schema ∷ program ∷ [])).passes work (map bytes texts)) where
  are_two : map bytes texts ≡ first ∷ second ∷ []
  are_two = let same = two bytes texts one other count is_one is_other in cc (same, first_is, second_is)

  both_pass : (all_fetched (schema ∷ program ∷ [])).passes work (first ∷ second ∷ [])
  both_pass = subst (λ (fetched : List (List ℕ)). (all_fetched (schema ∷ program ∷ [])).passes work fetched) are_two passes

  pub texts_found : (answer : Result StoredProgram Status) → IfOk answer (IsStored first second) →
      IfOk answer ((reads_program schema program).passes work)
  texts_found (Ok stored) is = texts_pass schema program work first second stored both_pass is
  texts_found (Err answer) is = is

  pub texts_refused : (answer : Result StoredProgram Status) → IfErr answer (AreRefused first second) →
      IfErr answer (Stops (reads_program schema program) work)
  texts_refused (Ok stored) is = is
  texts_refused (Err answer) is = texts_stop schema program work first second answer both_pass is

-- ---- the whole

module _ (store schema program : List ℕ) (work : Work) where
  steady_run : (run : Run) → (runs_over store schema program).passes work run → (input : List ℕ) → IsSteady (run.means input)
  steady_run run (stored, reads, (done, named, passes)) input =
      let found = found_over store stored work run passes in
      subst (λ (r : Run). IsSteady (r.means input)) (sym found.is) (meaning_steady stored found.bound input)

  pub run_determined : IsTold work → IsDetermined (running (runs_over store schema program)).due work
  run_determined told =
      running_determined (runs_over store schema program) work
      (joined (reads_program schema program) (runs_program store) work (reading_determined schema program work told)
      (λ stored passes. program_determined store stored work told.world)) steady_run told.world

module _ (store schema program : List ℕ) where
  run_kinds : HasKinds (runs_over store schema program)
  run_kinds =
      kinds_joined (reads_program schema program) (runs_program store) (reading_kinds schema program)
      (program_kinds store)

  rests : (work other : Work) (run : Run) → BeginsAs work other → (runs_over store schema program).passes work run →
      (runs_over store schema program).passes other run
  rests work other run =
      at_beginning
      (λ (files : Option Files) (tells : Bool) (before : History).
      (runs_over store schema program).passes (record other { files = files; tells = tells; before = before }) run)
      work other

  reads : (work : Work) (run : Run) (over : List ℕ) → IsTrue work.tells →
      (runs_over store schema program).passes work run → run.store ≡ Some over →
      StandsAs run.database (store_before over work)
  reads work run over tells (stored, texts, (done, name, passes)) is =
      let found = found_over store stored work run passes in
      let named_so : Some store ≡ Some over = sym (ap (λ (r : Run). r.store) found.is) ∙ is in
      let this : store ≡ over = cc (named_so) in
      subst (λ (name : List ℕ). StandsAs run.database (store_before name work)) this
      (subst (λ (r : Run). StandsAs r.database (store_before store work)) (sym found.is) (found.reads tells))

  pub over_row : IsRow (running (runs_over store schema program))
  over_row =
      running_row (runs_over store schema program) run_kinds (run_determined store schema program)
      (record { rests = rests; reads = reads })

module _ (store schema program : List ℕ) (work : Work) where
  -- stopped by the files, with nothing done
  pub unread : (answer : Status) → Stops (reads_program schema program) work answer → IsStill work answer →
      Answered (running (runs_over store schema program)) work answer
  unread answer stops still =
      stopped (runs_over store schema program) work answer (run_kinds store schema program) still
      (stops_in_front (reads_program schema program) (runs_program store) work answer (reading_mounts schema program work)
      (reading_determined schema program work) stops)

  -- or behind a program that was read
  pub behind_files : (answer : Status) (stored : StoredProgram) → (reads_program schema program).passes work stored →
      Answered (running (runs_program store stored)) work answer → Answered (running (runs_over store schema program)) work answer
  behind_files answer stored passes did =
      in_front (reads_program schema program) (runs_program store) work answer stored passes (reading_determined schema program work)
      (reading_mounts schema program work) did

module _ (store : List ℕ) (stored : StoredProgram) (work : Work) where
  -- a name that is of no store
  pub unnamed : store ≡ no_store → IsStill work status.NotStore → Answered (running (runs_program store stored)) work status.NotStore
  unnamed is still =
      stopped (runs_program store stored) work status.NotStore (program_kinds store stored) still
      (stops_in_front (named store) (λ _. over_store store stored) work status.NotStore (λ name never. never)
      (λ told. named_determined store work) (inl is))

  pub behind_name : (answer : Status) → (store ≡ no_store → ⊥) → Answered (running (over_store store stored)) work answer →
      Answered (running (runs_program store stored)) work answer
  behind_name answer is did =
      in_front (named store) (λ _. over_store store stored) work answer (tt {0}) is (λ told. named_determined store work)
      (λ name never. never) did

  -- a store that could not be mounted
  pub unmounted : (answer : Status) → (opened store).fails work answer ⊎ (answer ≡ status.Memory) → IsStill work answer →
      Answered (running (over_store store stored)) work answer
  unmounted answer why still = stopped (over_store store stored) work answer (over_kinds store stored) still (by_why why)
    where
      by_why : (opened store).fails work answer ⊎ (answer ≡ status.Memory) → StopsUnmounted (over_store store stored) work answer
      by_why (inl fault) = inr (inl (inl fault))
      by_why (inr memory) = inr (inr memory)
