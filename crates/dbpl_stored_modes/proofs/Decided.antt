-- Some answer of each command over stores is due.
use Rattle.std.proofs.Common.{◌≡◌, ◌≤◌, ◌<◌, ◌⊎◌, ℕ, List, [], ◌∷◌, false, inl, inr, leb, length, refl, subst, sym, true}
use Rattle.std.proofs.lemmas.Bool.Decides.{leb_tells}
use Rattle.dbpl_base.specs.declared.status.Status.{Status}
use Rattle.dbpl_base.specs.declared.status.Status.TheVariants as status
use Rattle.dbpl_core.specs.Outcomes.{Ended, Going, IsToldBy, Standing, Trapped}
use Rattle.dbpl_log.specs.Beginning.{longest_unknown}
use Rattle.dbpl_log.specs.Records.{HasHead}
use Rattle.dbpl_promise.proofs.Decided.{all_bound_decided, decided_given, decided_joined, ended_decided, head_or_not, named_decided, opened_decided}
use Rattle.dbpl_promise.specs.Opening.{all_bound, named, opened, store_before}
use Rattle.dbpl_promise.specs.Running.{ComesToEnd, ended, running}
use Rattle.dbpl_promise.specs.Runs.{Run}
use Rattle.dbpl_promise.specs.Stages.{IsDecided, gives}
use Rattle.dbpl_promise.specs.Work.{IsTold, Work}
use Rattle.dbpl_sources.proofs.Decided.{all_decided}
use Rattle.dbpl_sources.specs.Fetching.{all_fetched}
use Rattle.dbpl_stored_modes.proofs.Stages.{behind_opening, found_over, over_store, run_of}
use Rattle.dbpl_stored_modes.specs.CreateCommand.{creates, store_made}
use Rattle.dbpl_stored_modes.specs.RunCommand.{accepted_texts, reads_program, runs_over, runs_program}
use Rattle.dbpl_stored_program.proofs.Turns.{comes_to_end}
use Rattle.dbpl_stored_program.specs.Meaning.{meaning}
use Rattle.dbpl_stored_program.specs.Whole.{turns_of, whole_run}
use Rattle.dbpl_stored_program.specs.declared.stored_program.StoredProgram.{StoredProgram}
use Rattle.dbpl_value.specs.declared.bound.Bound.{Bound}
use Rattle.dbpl_world.specs.History.{Store}

-- ---- making a store

-- the part is longer than an unfinished store has, or it isn't
abbrev IsLong : List ℕ → Type 0
IsLong bytes = ((leb (length bytes) longest_unknown ≡ true) × (length bytes ≤ longest_unknown))
    ⊎ ((leb (length bytes) longest_unknown ≡ false) × (longest_unknown < length bytes))

made_decided : (name : List ℕ) (work : Work) → IsDecided (store_made name) work
made_decided name work = by_head (head_or_not disk.log.now)
  where
    disk : Store
    disk = store_before name work

    by_pages : (HasHead disk.log.now → ⊥) → length disk.log.now ≤ longest_unknown → IsLong disk.pages.now →
        IsDecided (store_made name) work
    by_pages none short (inl also) =
        inl (tt {0}, λ tells. record { no_store = none; short_log = short; short_pages = also.1 })
    by_pages none short (inr long) = inr (status.Foreign, λ tells. record { no_store = none; long = inr long.1 })

    by_log : (HasHead disk.log.now → ⊥) → IsLong disk.log.now → IsDecided (store_made name) work
    by_log none (inl short) = by_pages none short.1 (leb_tells (length disk.pages.now) longest_unknown)
    by_log none (inr long) = inr (status.Foreign, λ tells. record { no_store = none; long = inl long.1 })

    by_head : HasHead disk.log.now ⊎ (HasHead disk.log.now → ⊥) → IsDecided (store_made name) work
    by_head (inl head) = inr (status.Exists, λ tells. head)
    by_head (inr none) = by_log none (leb_tells (length disk.log.now) longest_unknown)

pub create_decided : (name : List ℕ) (work : Work) → IsDecided (creates name).due work
create_decided name work =
    decided_joined (store_made name) (λ _. gives status.Done) work (λ done passes. decided_given work status.Done)
    (made_decided name work)

-- ---- running over a store

meaning_ends : (stored : StoredProgram) (bound : List Bound) (input : List ℕ) →
    (turns : ℕ) × (answer : Status) × IsToldBy (meaning stored bound input turns).stands answer
meaning_ends stored bound input = by_standing (whole_run stored bound input).stands refl
  where
    by_standing : (standing : Standing) → (whole_run stored bound input).stands ≡ standing →
        (turns : ℕ) × (answer : Status) × IsToldBy (meaning stored bound input turns).stands answer
    by_standing Ended e =
        (turns_of stored, status.Done, subst (λ (s : Standing). IsToldBy s status.Done) (sym e) refl)
    by_standing (Trapped trap) e = (
      turns_of stored,
      status.Trapped trap.kind trap.place,
      subst (λ (s : Standing). IsToldBy s (status.Trapped trap.kind trap.place)) (sym e) refl,
    )
    by_standing Going e = absurd (comes_to_end stored bound input e)

module _ (store : List ℕ) (stored : StoredProgram) (work : Work) where
  behind_decided : (database : List Bound) → IsDecided (behind_opening store stored database) work
  behind_decided database =
      decided_joined (all_bound (stored.relation ∷ []) database) (λ bound. gives (run_of store stored database bound)) work
      (λ bound passes. decided_given work (run_of store stored database bound))
      (all_bound_decided (stored.relation ∷ []) database work)

  over_decided : IsDecided (over_store store stored) work
  over_decided =
      decided_joined (opened store) (behind_opening store stored) work (λ database passes. behind_decided database)
      (opened_decided store work)

  program_decided : IsDecided (runs_program store stored) work
  program_decided =
      decided_joined (named store) (λ _. over_store store stored) work (λ done passes. over_decided) (named_decided store work)

module _ (store schema program : List ℕ) (work : Work) (told : IsTold work)
    (texts_decided : (texts : List (List ℕ)) → (all_fetched (schema ∷ program ∷ [])).passes work texts →
    IsDecided (accepted_texts texts) work) where
  reads_decided : IsDecided (reads_program schema program) work
  reads_decided =
      decided_joined (all_fetched (schema ∷ program ∷ [])) accepted_texts work texts_decided
      (all_decided (schema ∷ program ∷ []) work told.files)

  comes : (run : Run) → (runs_over store schema program).passes work run → ComesToEnd run
  comes run (stored, reads, (done, named, passes)) =
      let found = found_over store stored work run passes in
      subst ComesToEnd (sym found.is) (meaning_ends stored found.bound)

  pub run_decided : IsDecided (running (runs_over store schema program)).due work
  run_decided =
      decided_joined (runs_over store schema program) ended work (λ run passes. ended_decided run work (comes run passes))
      (decided_joined (reads_program schema program) (runs_program store) work
      (λ stored passes. program_decided store stored work) reads_decided)
