-- A run that prints: at each moment a front of what the module prints was said.
use Rattle.std.proofs.Common.{◌≡◌, ◌∙◌, ◌⊎◌, ℕ, List, [], ◌∷◌, ◌++◌, Bool, IsTrue, Some, ap, append_assoc, append-nil, false, inl, inr, map, refl, subst, sym, take, true}
use Rattle.std.proofs.lemmas.List.{take-append-drop}
use Rattle.std.specs.Prelude.{drop}
use Rattle.dbpl_alone.proofs.MeaningLaws.{enough, last_outs, may_print, outs, printed, whole}
use Rattle.dbpl_alone.proofs.Stages.{run_of, runs_text, text_mounts}
use Rattle.dbpl_alone.specs.Answers.{IsTheModule}
use Rattle.dbpl_alone.specs.Meaning.{module_meaning}
use Rattle.dbpl_alone.specs.declared.program.Program.{Program}
use Rattle.dbpl_base.specs.declared.status.Status.{Status}
use Rattle.dbpl_base.specs.declared.status.Status.TheVariants as status
use Rattle.dbpl_core.proofs.Events.{prints-outs}
use Rattle.dbpl_core.specs.Events.{prints}
use Rattle.dbpl_core.specs.Outcomes.{IsToldBy, Outcome, TellsOfEnd}
use Rattle.dbpl_promise.specs.Promises.{Answered, LeavesAlone}
use Rattle.dbpl_promise.specs.Refusals.{is_refusal}
use Rattle.dbpl_promise.specs.Running.{EndsRun, SomeWereMade, MayRun, RunsNothing, ended, running}
use Rattle.dbpl_promise.specs.Runs.{WereMade, IsTied, IsWhole, Leaves, Run}
use Rattle.dbpl_promise.specs.Stages.{MayAnswer, ◌>>=◌}
use Rattle.dbpl_promise.specs.Work.{Work}
use Rattle.dbpl_world.proofs.Moments.{moments_weaken}
use Rattle.dbpl_world.proofs.Replays.{now-more, replay-said}
use Rattle.dbpl_world.specs.Counts.{Rose}
use Rattle.dbpl_world.specs.History.{History, Said, State, more, now, step, store_of}
use Rattle.dbpl_world.specs.Moments.{Always, EachMoment}

-- Since old a front of these bytes was said, and nothing else happened.
pub record HasSaid (bytes : List ℕ) (old s : State) : Type 0 where
  pub came : List ℕ
  pub behind : List ℕ
  pub split : bytes ≡ came ++ behind
  pub is : s ≡ record old { said = old.said ++ came }

always_saying : (old : State) (came said behind : List ℕ) (s : State) → s ≡ record old { said = old.said ++ came } →
    Always (HasSaid (came ++ (said ++ behind)) old) s (map Said said)
always_saying old came [] behind s is = record { came = came; behind = behind; split = refl; is = is }
always_saying old came (byte ∷ said) behind s is = (
  record { came = came; behind = byte ∷ (said ++ behind); split = refl; is = is },
  subst (λ (bytes : List ℕ). Always (HasSaid bytes old) (step s (Said byte)) (map Said said))
      (append_assoc came (byte ∷ []) (said ++ behind))
      (always_saying old (came ++ byte ∷ []) said behind (step s (Said byte))
      (ap (λ (t : State). step t (Said byte)) is
      ∙ ap (λ (bytes : List ℕ). record old { said = bytes }) (append_assoc old.said came (byte ∷ [])))),
)

each_saying : (old new : History) (said behind : List ℕ) → new ≡ more old (map Said said) →
    EachMoment (HasSaid (said ++ behind) (now old)) old new
each_saying old new said behind is = record {
  events = map Said said;
  is = is;
  each = always_saying (now old) [] said behind (now old)
      (ap (λ (bytes : List ℕ). record (now old) { said = bytes }) (sym (append-nil (now old).said)));
}

-- what was said by the end
said_by_end : (old new : History) (said : List ℕ) → new ≡ more old (map Said said) →
    now new ≡ record (now old) { said = (now old).said ++ said }
said_by_end old new said is = ap now is ∙ (now-more old (map Said said) ∙ replay-said (now old) said)

-- what was only said left the notes as they were
pub unnoted : (old new : History) (said : List ℕ) → new ≡ more old (map Said said) → (now new).noted ≡ (now old).noted
unnoted old new said is = ap (λ (s : State). s.noted) (said_by_end old new said is)

-- a state in which something was said and nothing else done
pub alone_saying : (mounts : List ℕ → Type 0) (bytes : List ℕ) (old s : State) → HasSaid bytes old s → LeavesAlone mounts old s
alone_saying mounts bytes old s has = record {
  mounted = inl (ap (λ (t : State). t.mounted) has.is);
  others = λ name none. ap (λ (t : State). store_of t name) has.is;
  pages = λ name. inl (ap (λ (t : State). (store_of t name).pages) has.is);
  noted = ap (λ (t : State). t.noted) has.is;
}

module _ (text : List ℕ) (work : Work) (answer : Status) (program : Program) (the : IsTheModule text program)
    (said behind : List ℕ) (front : printed program ≡ said ++ behind)
    (is : IsTrue work.tells → work.after ≡ more work.before (map Said said)) where
  -- what is run is the run of this module
  the_run : (run : Run) → (runs_text text).passes work run → run ≡ run_of program
  the_run run passes = passes.2 ∙ ap run_of (the.only passes.0 passes.1)

  pub passes_with : (runs_text text).passes work (run_of program)
  passes_with = (program, the.spelt, refl)

  made : (came : List ℕ) (s : State) → s ≡ record (now work.before) { said = (now work.before).said ++ came } →
      WereMade (run_of program) (now work.before) (outs came) (Some []) s.said
  made came s same = record {
    printed = ap (λ (t : State). t.said) same ∙ ap (λ (bytes : List ℕ). (now work.before).said ++ bytes) (sym (prints-outs came));
    stored = ap Some (sym (last_outs came []));
  }

  may : (IsTrue (is_refusal answer) → ⊥) → (s : State) → HasSaid (printed program) (now work.before) s →
      MayRun (runs_text text) work answer s
  may no_refusal s has = record {
    tied = λ told run passes stood.
        subst (λ (r : Run). Leaves r.store (IsTied r (now work.before)) s) (sym (the_run run passes)) (record {
          made = outs has.came;
          may = may_print program (now work.before).input has.came has.behind has.split;
          has = made has.came s has.is;
        });
    idle = λ why. absurd (by_why why);
    input = ap (λ (t : State). t.input) has.is;
  }
    where
      by_why : RunsNothing (runs_text text) work ⊎ IsTrue (is_refusal answer) → ⊥
      by_why (inl none) = none (run_of program) passes_with
      by_why (inr refusal) = no_refusal refusal

  -- the module ended, and made all that it prints
  abbrev HasEnded : State → Type 0
  HasEnded s = TellsOfEnd answer → IsWhole (run_of program) (now work.before) answer s.input (Some []) s.said

  ends : (s : State) → s ≡ record (now work.before) { said = (now work.before).said ++ said } → HasEnded s →
      EndsRun (runs_text text) work answer s
  ends s same all = record {
    whole = λ told run passes tells.
        subst (λ (r : Run). Leaves r.store (IsWhole r (now work.before) answer s.input) s) (sym (the_run run passes)) (all tells);
    at_rest = λ told run passes stood fine.
        subst (λ (r : Run). SomeWereMade r (now work.before) s) (sym (the_run run passes)) (record {
          made = outs said;
          may = may_print program (now work.before).input said behind front;
          left = made said s same;
        });
    pages = λ told tells name mounts. absurd (text_mounts text work name mounts);
    settled = λ told refuses name mounts. absurd (text_mounts text work name mounts);
  }

  printing : (IsTrue (is_refusal answer) → ⊥) → MayAnswer (runs_text text >>= ended) work answer →
      ((s : State) → s ≡ record (now work.before) { said = (now work.before).said ++ said } → HasEnded s) →
      (answer ≡ status.OutFault) ⊎ (work.counts_after.say_faults ≡ work.counts_before.say_faults) →
      work.counts_after.disk_faults ≡ work.counts_before.disk_faults → work.shelf_faults_after ≡ work.shelf_faults_before →
      Answered (running (runs_text text)) work answer
  printing no_refusal due all prints disk source = record {
    answers = due;
    moments = λ tells. moments_weaken _ (MayRun (runs_text text) work answer) work.before work.after (may no_refusal) (saying tells);
    end = λ tells.
        let there = said_by_end work.before work.after said (is tells) in
        ends (now work.after) there (all (now work.after) there);
    only = λ tells.
        moments_weaken _ (LeavesAlone ((runs_text text >>= ended).mounts work) (now work.before)) work.before work.after
        (alone_saying ((runs_text text >>= ended).mounts work) (printed program) (now work.before)) (saying tells);
    prints = prints;
    disk = inr disk;
    source = inr source;
  }
    where
      saying : IsTrue work.tells → EachMoment (HasSaid (printed program) (now work.before)) work.before work.after
      saying tells =
          subst (λ (bytes : List ℕ). EachMoment (HasSaid bytes (now work.before)) work.before work.after) (sym front)
          (each_saying work.before work.after said behind (is tells))

-- ---- the two answers of a run that prints

module _ (text : List ℕ) (work : Work) (program : Program) (the : IsTheModule text program) where
  end_told : (input : List ℕ) → IsToldBy (module_meaning program input (enough program)).stands status.Done
  end_told input = subst (λ (outcome : Outcome). IsToldBy outcome.stands status.Done) (sym (whole program input)) refl

  all_made : (s : State) → s ≡ record (now work.before) { said = (now work.before).said ++ printed program } →
      IsWhole (run_of program) (now work.before) status.Done s.input (Some []) s.said
  all_made s same =
      let input : List ℕ = (now work.before).input in
      record {
        turns = enough program;
        ends = end_told input;
        has = subst (λ (outcome : Outcome). WereMade (run_of program) (now work.before) outcome.events (Some []) s.said)
            (sym (whole program input)) (record {
              printed = ap (λ (t : State). t.said) same
                  ∙ ap (λ (bytes : List ℕ). (now work.before).said ++ bytes) (sym (prints-outs (printed program)));
              stored = ap Some (sym (last_outs (printed program) []));
            });
        left_is = ap (λ (t : State). t.input) same ∙ sym (ap (λ (outcome : Outcome). outcome.left) (whole program input));
      }

  pub printed_all : (IsTrue work.tells → work.after ≡ more work.before (map Said (printed program))) →
      work.counts_after.say_faults ≡ work.counts_before.say_faults → work.counts_after.disk_faults ≡ work.counts_before.disk_faults →
      work.shelf_faults_after ≡ work.shelf_faults_before → Answered (running (runs_text text)) work status.Done
  printed_all is fine disk source =
      printing text work status.Done program the (printed program) [] (sym (append-nil (printed program))) is (λ refusal. cc (refusal))
      (inl (inr (
        run_of program,
        (program, the.spelt, refl),
        record {
          input = (now work.before).input;
          told = λ tells. refl;
          turns = enough program;
          ends = end_told (now work.before).input;
        },
      )))
      (λ s same tells. all_made s same) (inr fine) disk source

  pub printed_some : (IsTrue work.tells → (n : ℕ) × (work.after ≡ more work.before (map Said (take n (printed program))))) →
      Rose work.counts_before.say_faults work.counts_after.say_faults → work.counts_after.disk_faults ≡ work.counts_before.disk_faults →
      work.shelf_faults_after ≡ work.shelf_faults_before → Answered (running (runs_text text)) work status.OutFault
  printed_some some rose disk source = by_telling work.tells refl
    where
      by_telling : (tells : Bool) → work.tells ≡ tells → Answered (running (runs_text text)) work status.OutFault
      by_telling true told =
          let front = some told in
          printing text work status.OutFault program the (take front.0 (printed program)) (drop front.0 (printed program))
          (sym (take-append-drop front.0 (printed program))) (λ tells. front.1) (λ refusal. cc (refusal))
          (inr (inl (inr (run_of program, (program, the.spelt, refl), rose)))) (λ s same tells. absurd tells) (inl refl) disk source
      by_telling false told =
          printing text work status.OutFault program the [] (printed program) refl (λ tells. absurd (cc (tells, told)))
          (λ refusal. cc (refusal)) (inr (inl (inr (run_of program, (program, the.spelt, refl), rose))))
          (λ s same tells. absurd tells) (inl refl) disk source
