-- Moments of a run: runs that follow one another, one event more, and what a stop since an earlier moment leaves.
use Rattle.std.proofs.Common.{◌≡◌, ℕ, zero, suc, ◌+◌, ◌-◌, ◌<◌, ◌≤◌, ◌⊎◌, inl, inr, List, [], ◌∷◌, ◌++◌, take, Bool, true, false, Some, refl, sym, ap, subst, ◌∙◌, arith, append-nil, length-append}
use Rattle.std.specs.Prelude.{bytes_eq, if◌then◌else◌}
use Rattle.std.proofs.lemmas.List.{take-append-le, take_all}
use Rattle.std.proofs.Math.Seq.{take-append-add}
use Rattle.std.proofs.lemmas.Bool.{cases_lt}
use Rattle.std.proofs.lemmas.Slice.Eq.{bytes_eq-Decides}
use Rattle.dbpl_world.specs.declared.part.Part.{Part}
use Rattle.dbpl_world.specs.Images.{IsImage, IsSmeared}
use Rattle.dbpl_world.specs.History.{Store, part_of, State, store_among, store_of, Event, Smeared, step, replay, History, more, now}
use Rattle.dbpl_world.specs.Moments.{clock, state_at, Might, Always, LeavesOnly, LeavesOnlyAt, EachMoment}
use Rattle.dbpl_world.proofs.Replays.{now-more, more-more}

-- Lists of events.

pub always_then : (Q : State → Type 0) (s : State) (first second : List Event) → Always Q s first → Always Q (replay s first) second → Always Q s (first ++ second)
always_then Q s [] second here later = later
always_then Q s (event ∷ first) second here later = (here.0, always_then Q (step s event) first second here.1 later)

pub always_weaken : (Q R : State → Type 0) → ((s : State) → Q s → R s) → (s : State) (events : List Event) → Always Q s events → Always R s events
always_weaken Q R weaker s [] holds = weaker s holds
always_weaken Q R weaker s (event ∷ events) holds = (weaker s holds.0, always_weaken Q R weaker (step s event) events holds.1)

pub always_at : (Q : State → Type 0) (s : State) (events : List Event) (count : ℕ) → Always Q s events → Q (replay s (take count events))
always_at Q s [] zero holds = holds
always_at Q s [] (suc count) holds = holds
always_at Q s (event ∷ events) zero holds = holds.0
always_at Q s (event ∷ events) (suc count) holds = always_at Q (step s event) events count holds.1

pub always_last : (Q : State → Type 0) (s : State) (events : List Event) → Always Q s events → Q (replay s events)
always_last Q s [] holds = holds
always_last Q s (event ∷ events) holds = always_last Q (step s event) events holds.1

-- Runs.

pub moments_start : (Q : State → Type 0) (h : History) → Q (now h) → EachMoment Q h h
moments_start Q h holds = record { events = []; is = ap (λ events. record h { events = events }) (sym (append-nil h.events)); each = holds }

pub moments_then : (Q : State → Type 0) (old mid new : History) → EachMoment Q old mid → EachMoment Q mid new → EachMoment Q old new
moments_then Q old mid new first second = record {
  events = first.events ++ second.events;
  is = second.is ∙ ap (λ h. more h second.events) first.is ∙ more-more old first.events second.events;
  each = always_then Q (now old) first.events second.events first.each (subst (λ s. Always Q s second.events) (ap now first.is ∙ now-more old first.events) second.each);
}

pub moments_weaken : (Q R : State → Type 0) (old new : History) → ((s : State) → Q s → R s) → EachMoment Q old new → EachMoment R old new
moments_weaken Q R old new weaker run = record { events = run.events; is = run.is; each = always_weaken Q R weaker (now old) run.events run.each }

pub moments_last : (Q : State → Type 0) (old new : History) → EachMoment Q old new → Q (now new)
moments_last Q old new run = subst Q (sym (ap now run.is ∙ now-more old run.events)) (always_last Q (now old) run.events run.each)

pub moments_first : (Q : State → Type 0) (old new : History) → EachMoment Q old new → Q (now old)
moments_first Q old new run = always_at Q (now old) run.events 0 run.each

pub clock_later : (Q : State → Type 0) (old new : History) → EachMoment Q old new → clock old ≤ clock new
clock_later Q old new run = omega (arith, ap clock run.is, length-append old.events run.events)

-- A run so far, and the state that it has come to.
pub record Reached (Q : State → Type 0) (old new : History) (s : State) : Type 0 where
  pub moments : EachMoment Q old new
  pub state : now new ≡ s
  pub here : Q s

pub reached_start : (Q : State → Type 0) (h : History) (s : State) → now h ≡ s → Q s → Reached Q h h s
reached_start Q h s is holds = record { moments = moments_start Q h (subst Q (sym is) holds); state = is; here = holds }

pub reached_more : (Q : State → Type 0) (old mid new : History) (s : State) (events : List Event) → Reached Q old mid s → new ≡ more mid events → Always Q s events → Reached Q old new (replay s events)
reached_more Q old mid new s events run is holds = record {
  moments = moments_then Q old mid new run.moments (record { events = events; is = is; each = subst (λ t. Always Q t events) (sym run.state) holds });
  state = ap now is ∙ now-more mid events ∙ ap (λ t. replay t events) run.state;
  here = always_last Q s events holds;
}

pub reached_on : (Q : State → Type 0) (old mid new : History) (s : State) (event : Event) → Reached Q old mid s → new ≡ more mid (event ∷ []) → Q (step s event) → Reached Q old new (step s event)
reached_on Q old mid new s event run is holds = reached_more Q old mid new s (event ∷ []) run is (run.here, holds)

pub reached_same : (Q : State → Type 0) (old mid new : History) (s : State) → Reached Q old mid s → new ≡ mid → Reached Q old new s
reached_same Q old mid new s run is = record { moments = subst (EachMoment Q old) (sym is) run.moments; state = ap now is ∙ run.state; here = run.here }

-- What a write that failed has done.
abbrev pub HasSmeared : Part → ℕ → ℕ → History → History → Type 0
HasSmeared part at n old new = (new ≡ old) ⊎ ((after : List ℕ) × IsSmeared at n (part_of part (now old).disk).now after × (new ≡ more old (Smeared part at n after ∷ [])))

pub reached_write_err : (Q : State → Type 0) (old mid new : History) (s : State) (part : Part) (at n : ℕ) → Reached Q old mid s → HasSmeared part at n mid new →
    ((after : List ℕ) → IsSmeared at n (part_of part s.disk).now after → Q (step s (Smeared part at n after))) → EachMoment Q old new
reached_write_err Q old mid new s part at n run (inl is) holds = (reached_same Q old mid new s run is).moments
reached_write_err Q old mid new s part at n run (inr smeared) holds =
    let of_s : IsSmeared at n (part_of part s.disk).now smeared.0 = subst (λ t. IsSmeared at n (part_of part t.disk).now smeared.0) run.state smeared.1 in
    (reached_on Q old mid new s (Smeared part at n smeared.0) run smeared.2 (holds smeared.0 of_s)).moments

-- What a stop leaves.

-- at a moment of the run
pub moment_each : (Q : State → Type 0) (old new : History) → EachMoment Q old new → (moment : ℕ) → clock old ≤ moment → moment ≤ clock new → Q (state_at new moment)
unfolding now
moment_each Q old new run moment since until =
    let back : clock old + (moment - clock old) ≡ moment = omega arith in
    let front : take moment (old.events ++ run.events) ≡ old.events ++ take (moment - clock old) run.events = ap (λ m. take m (old.events ++ run.events)) (sym back) ∙ take-append-add old.events run.events (moment - clock old) in
    let at : state_at new moment ≡ replay (now old) (take (moment - clock old) run.events) = ap (λ h. state_at h moment) run.is ∙ ap (replay old.start) front ∙ now-more old (take (moment - clock old) run.events) in
    subst Q (sym at) (always_at Q (now old) run.events (moment - clock old) run.each)

pub might_each : (P : List ℕ → List ℕ → List ℕ → Type 0) (name : List ℕ) (old new : History) → EachMoment (LeavesOnlyAt name P) old new → (log pages said : List ℕ) → Might new name (clock old) log pages said → P log pages said
might_each P name old new run log pages said might =
    let holds : P log pages (state_at new might.moment).said = moment_each (LeavesOnlyAt name P) old new run might.moment might.since might.until log pages might.log_left might.pages_left in
    subst (P log pages) (sym might.said_is) holds

-- A moment before more events is one after them.
state_before : (h : History) (events : List Event) (moment : ℕ) → moment ≤ clock h → state_at (more h events) moment ≡ state_at h moment
state_before h events moment until = ap (replay h.start) (take-append-le moment h.events events until)

-- What was possible since t stays possible.
pub might_later : (h : History) (events : List Event) (name : List ℕ) (t : ℕ) (log pages said : List ℕ) → Might h name t log pages said → Might (more h events) name t log pages said
might_later h events name t log pages said might =
    let same : state_at h might.moment ≡ state_at (more h events) might.moment = sym (state_before h events might.moment might.until) in
    record {
      moment = might.moment;
      since = might.since;
      until = omega (arith, might.until, length-append h.events events);
      log_left = subst (λ s. IsImage (store_of s name).log log) same might.log_left;
      pages_left = subst (λ s. IsImage (store_of s name).pages pages) same might.pages_left;
      said_is = subst (λ s. said ≡ s.said) same might.said_is;
    }

-- What is possible since a later moment was possible since an earlier one.
pub might_since : (h : History) (name : List ℕ) (t later : ℕ) (log pages said : List ℕ) → t ≤ later → Might h name later log pages said → Might h name t log pages said
might_since h name t later log pages said before might = record {
  moment = might.moment;
  since = omega (arith, might.since);
  until = might.until;
  log_left = might.log_left;
  pages_left = might.pages_left;
  said_is = might.said_is;
}

-- After more events: it was possible before, or it is possible since then.
pub might_before : (h : History) (events : List Event) (name : List ℕ) (t : ℕ) (log pages said : List ℕ) → Might (more h events) name t log pages said → Might h name t log pages said ⊎ Might (more h events) name (clock h) log pages said
might_before h events name t log pages said might = by_order (cases_lt might.moment (clock h))
  where
    by_order : (might.moment < clock h) ⊎ (clock h ≤ might.moment) → Might h name t log pages said ⊎ Might (more h events) name (clock h) log pages said
    by_order (inl below) =
        let until : might.moment ≤ clock h = omega arith in
        let same : state_at (more h events) might.moment ≡ state_at h might.moment = state_before h events might.moment until in
        inl (record {
          moment = might.moment;
          since = might.since;
          until = until;
          log_left = subst (λ s. IsImage (store_of s name).log log) same might.log_left;
          pages_left = subst (λ s. IsImage (store_of s name).pages pages) same might.pages_left;
          said_is = subst (λ s. said ≡ s.said) same might.said_is;
        })
    by_order (inr since) = inr (record { moment = might.moment; since = since; until = might.until; log_left = might.log_left; pages_left = might.pages_left; said_is = might.said_is })

-- A stop now may leave each image of now.
pub might_now : (h : History) (name log pages : List ℕ) → IsImage (store_of (now h) name).log log → IsImage (store_of (now h) name).pages pages → Might h name (clock h) log pages (now h).said
unfolding now
might_now h name log pages log_left pages_left =
    let same : now h ≡ state_at h (clock h) = ap (replay h.start) (sym (take_all (clock h) h.events (omega arith))) in
    record {
      moment = clock h;
      since = omega arith;
      until = omega arith;
      log_left = subst (λ s. IsImage (store_of s name).log log) same log_left;
      pages_left = subst (λ s. IsImage (store_of s name).pages pages) same pages_left;
      said_is = ap (λ s. s.said) same;
    }

-- The mounted store by its name.

same_bytes : (bytes : List ℕ) → bytes_eq bytes bytes ≡ true
same_bytes bytes = (bytes_eq-Decides bytes bytes).1 refl

picked : (test : Bool) (first second : Store) → test ≡ true → (if test then first else second) ≡ first
picked true first second is = refl
picked false first second is = absurd cc

pub store_of_mounted : (s : State) (name : List ℕ) → s.mounted ≡ Some name → store_of s name ≡ s.disk
store_of_mounted s name mounted = ap (λ m. store_among m s.disk s.others name) mounted ∙ picked (bytes_eq name name) s.disk (s.others name) (same_bytes name)

pub leaves_at_name : (P : List ℕ → List ℕ → List ℕ → Type 0) (s : State) (name : List ℕ) → s.mounted ≡ Some name → LeavesOnly P s → LeavesOnlyAt name P s
leaves_at_name P s name mounted holds log pages log_left pages_left =
    let same = store_of_mounted s name mounted in
    holds log pages (subst (λ store. IsImage store.log log) same log_left) (subst (λ store. IsImage store.pages pages) same pages_left)

pub moments_at_name : (P : List ℕ → List ℕ → List ℕ → Type 0) (name : List ℕ) (old new : History) → EachMoment (λ s. (s.mounted ≡ Some name) × LeavesOnly P s) old new → EachMoment (LeavesOnlyAt name P) old new
moments_at_name P name old new run = moments_weaken (λ s. (s.mounted ≡ Some name) × LeavesOnly P s) (LeavesOnlyAt name P) old new (λ s holds. leaves_at_name P s name holds.0 holds.1) run
