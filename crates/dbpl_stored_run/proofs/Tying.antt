-- Runs that are tied to lists of events, one behind the other.
use Rattle.std.proofs.Common.{◌≡◌, ◌∙◌, ℕ, inl, inr, List, [], ◌∷◌, ◌++◌, Some, ap, append_assoc, append-nil, refl, subst, sym}
use Rattle.dbpl_core.proofs.Events.{last-append, prints-append}
use Rattle.dbpl_core.specs.Events.{Commit, Event, last, prints}
use Rattle.dbpl_log.specs.Changes.{ChangesLog, IsSynced, OnlySyncs}
use Rattle.dbpl_store.specs.Stands.{IsEither, LeavesDatabase, LeavesOld, stands}
use Rattle.dbpl_stored_run.specs.Headline.{HasMade, HasMadePrefix, HasMadeSome, LeavesTied, StandsFor}
use Rattle.dbpl_stored_run.specs.Leaving.{ChangesStore}
use Rattle.dbpl_value.specs.declared.bound.Bound.{Bound}
use Rattle.dbpl_world.proofs.Moments.{moments_last, moments_start, moments_then, moments_weaken}
use Rattle.dbpl_world.specs.History.{History, State, Store, now, settled_store}
use Rattle.dbpl_world.specs.Images.{PartState, settled}
use Rattle.dbpl_world.specs.Moments.{EachMoment}

-- ---- one list behind the other

-- what is tied to a front of a list is tied to the list
tied-front :
    (first second : List Event) (database : List Bound) (before log pages said : List ℕ) →
    HasMadePrefix first database before log pages said → HasMadePrefix (first ++ second) database before log pages said
tied-front first second database before log pages said tied = record {
  made = tied.made;
  rest = tied.rest ++ second;
  prefix = ap (λ (events : List Event). events ++ second) tied.prefix ∙ append_assoc tied.made tied.rest second;
  printed = tied.printed;
  stored = tied.stored;
}

-- what is tied to a second list, behind the first that was made, is tied to both
tied-behind :
    (first second : List Event) (database : List Bound) (before between log pages said : List ℕ) →
    between ≡ before ++ prints first → HasMadePrefix second (last first database) between log pages said →
    HasMadePrefix (first ++ second) database before log pages said
tied-behind first second database before between log pages said came tied = record {
  made = first ++ tied.made;
  rest = tied.rest;
  prefix = ap (λ (events : List Event). first ++ events) tied.prefix ∙ sym (append_assoc first tied.made tied.rest);
  printed = tied.printed ∙ ap (λ (bytes : List ℕ). bytes ++ prints tied.made) came
      ∙ append_assoc before (prints first) (prints tied.made)
      ∙ ap (λ (bytes : List ℕ). before ++ bytes) (sym (prints-append first tied.made));
  stored = tied.stored ∙ ap (λ (d : List Bound). Some d) (sym (last-append first tied.made database));
}

leaves-front :
    (first second : List Event) (database : List Bound) (old s : State) → LeavesTied first database old s →
    LeavesTied (first ++ second) database old s
leaves-front first second database old s leaves = record {
  left = λ log pages image torn.
      tied-front first second database old.said log pages s.said (leaves.left log pages image torn);
  others = leaves.others;
}

leaves-behind :
    (first second : List Event) (database : List Bound) (old mid s : State) →
    mid ≡ record old { disk = mid.disk; said = mid.said } → mid.said ≡ old.said ++ prints first →
    LeavesTied second (last first database) mid s → LeavesTied (first ++ second) database old s
leaves-behind first second database old mid s same came leaves = record {
  left = λ log pages image torn.
      tied-behind first second database old.said mid.said log pages s.said came (leaves.left log pages image torn);
  others = leaves.others ∙ ap (λ (t : State). record t { disk = s.disk; said = s.said }) same;
}

pub moments-front :
    (first second : List Event) (database : List Bound) (h0 h1 : History) →
    EachMoment (LeavesTied first database (now h0)) h0 h1 → EachMoment (LeavesTied (first ++ second) database (now h0)) h0 h1
moments-front first second database h0 h1 run =
    moments_weaken (LeavesTied first database (now h0)) (LeavesTied (first ++ second) database (now h0)) h0 h1
    (leaves-front first second database (now h0)) run

pub moments-behind :
    (first second : List Event) (database : List Bound) (h0 h1 h2 : History) →
    EachMoment (LeavesTied first database (now h0)) h0 h1 → (now h1).said ≡ (now h0).said ++ prints first →
    EachMoment (LeavesTied second (last first database) (now h1)) h1 h2 →
    EachMoment (LeavesTied (first ++ second) database (now h0)) h0 h2
moments-behind first second database h0 h1 h2 run came later =
    let here = moments_last (LeavesTied first database (now h0)) h0 h1 run in
    moments_then (LeavesTied (first ++ second) database (now h0)) h0 h1 h2 (moments-front first second database h0 h1 run)
    (moments_weaken (LeavesTied second (last first database) (now h1)) (LeavesTied (first ++ second) database (now h0)) h1 h2
    (λ s leaves. leaves-behind first second database (now h0) (now h1) s here.others came leaves) later)

-- what was made in two runs
pub made-behind :
    (first second : List Event) (database : List Bound) (old mid s : State) → mid.said ≡ old.said ++ prints first →
    HasMade second (last first database) mid s → HasMade (first ++ second) database old s
made-behind first second database old mid s came made = record {
  printed = made.printed ∙ ap (λ (bytes : List ℕ). bytes ++ prints second) came
      ∙ append_assoc old.said (prints first) (prints second)
      ∙ ap (λ (bytes : List ℕ). old.said ++ bytes) (sym (prints-append first second));
  stored = λ log pages image torn.
      made.stored log pages image torn ∙ ap (λ (d : List Bound). Some d) (sym (last-append first second database));
}

-- ---- nothing is made

-- where nothing was made, what a stop leaves stands for what stood before
pub tied-still :
    (events : List Event) (database : List Bound) (old s : State) → StandsFor database old → LeavesOld old s →
    LeavesTied events database old s
tied-still events database old s stood leaves = record {
  left = λ log pages image torn. record {
    made = [];
    rest = events;
    prefix = refl;
    printed = ap (λ (t : State). t.said) leaves.others ∙ sym (append-nil old.said);
    stored = stood log pages (leaves.log log image) (leaves.pages pages torn);
  };
  others = leaves.others
      ∙ ap (λ (bytes : List ℕ). record old { disk = s.disk; said = bytes }) (sym (ap (λ (t : State). t.said) leaves.others));
}

old-itself : (s : State) → LeavesOld s s
old-itself s = record { log = λ left image. image; pages = λ left image. image; others = refl }

pub moments-still :
    (events : List Event) (database : List Bound) (h : History) → StandsFor database (now h) →
    EachMoment (LeavesTied events database (now h)) h h
moments-still events database h stood =
    moments_start (LeavesTied events database (now h)) h
    (tied-still events database (now h) (now h) stood (old-itself (now h)))

pub made-none : (database : List Bound) (s : State) → StandsFor database s → HasMade [] database s s
made-none database s stood = record { printed = sym (append-nil s.said); stored = stood }

-- ---- some of a list is made

pub some-all :
    (events : List Event) (database : List Bound) (old s : State) → HasMade events database old s →
    HasMadeSome events database old s
some-all events database old s made =
    record { made = events; rest = []; prefix = sym (append-nil events); has = made }

pub some-none :
    (events : List Event) (database : List Bound) (s : State) → StandsFor database s → HasMadeSome events database s s
some-none events database s stood =
    record { made = []; rest = events; prefix = refl; has = made-none database s stood }

pub some-front :
    (first second : List Event) (database : List Bound) (old s : State) → HasMadeSome first database old s →
    HasMadeSome (first ++ second) database old s
some-front first second database old s some = record {
  made = some.made;
  rest = some.rest ++ second;
  prefix = ap (λ (events : List Event). events ++ second) some.prefix ∙ append_assoc some.made some.rest second;
  has = some.has;
}

pub some-behind :
    (first second : List Event) (database : List Bound) (old mid s : State) → mid.said ≡ old.said ++ prints first →
    HasMadeSome second (last first database) mid s → HasMadeSome (first ++ second) database old s
some-behind first second database old mid s came some = record {
  made = first ++ some.made;
  rest = some.rest;
  prefix = ap (λ (events : List Event). first ++ events) some.prefix ∙ sym (append_assoc first some.made some.rest);
  has = made-behind first some.made database old mid s came some.has;
}

-- ---- a commit

pub tied-commit :
    (database next : List Bound) (old s : State) → LeavesDatabase (IsEither database next) old s →
    LeavesTied (Commit next ∷ []) database old s
tied-commit database next old s leaves = record {
  left = λ log pages image torn. by_stood log pages (leaves.left log pages image torn);
  others = leaves.others
      ∙ ap (λ (bytes : List ℕ). record old { disk = s.disk; said = bytes }) (sym (ap (λ (t : State). t.said) leaves.others));
}
  where
    unsaid : s.said ≡ old.said ++ []
    unsaid = ap (λ (t : State). t.said) leaves.others ∙ sym (append-nil old.said)

    by_stood : (log pages : List ℕ) → IsEither database next (stands log pages) → HasMadePrefix (Commit next ∷ []) database old.said log pages s.said
    by_stood log pages (inl before) =
        record { made = []; rest = Commit next ∷ []; prefix = refl; printed = unsaid; stored = before }
    by_stood log pages (inr after) =
        record { made = Commit next ∷ []; rest = []; prefix = refl; printed = unsaid; stored = after }

pub moments-commit :
    (database next : List Bound) (h0 h1 : History) →
    EachMoment (LeavesDatabase (IsEither database next) (now h0)) h0 h1 →
    EachMoment (LeavesTied (Commit next ∷ []) database (now h0)) h0 h1
moments-commit database next h0 h1 run =
    moments_weaken (LeavesDatabase (IsEither database next) (now h0)) (LeavesTied (Commit next ∷ []) database (now h0)) h0 h1
    (tied-commit database next (now h0)) run

-- ---- what else has changed

synced-since : (old mid new : PartState) → IsSynced old mid → IsSynced mid new → IsSynced old new
synced-since old mid new first (inl same) = subst (IsSynced old) (sym same) first
synced-since old mid new (inl same) (inr synced) = inr (synced ∙ ap (λ (part : PartState). record { base = part.now; ranges = []; now = part.now }) same)
synced-since old mid new (inr first) (inr synced) = inr (synced ∙ ap (λ (part : PartState). record { base = part.now; ranges = []; now = part.now }) first)

pub changes-none : (s : State) → ChangesStore s s
changes-none s = record { pages = inl refl; others = refl }

changes-since : (old mid s : State) → ChangesStore old mid → ChangesStore mid s → ChangesStore old s
changes-since old mid s first second = record {
  pages = synced-since old.disk.pages mid.disk.pages s.disk.pages first.pages second.pages;
  others = second.others ∙ ap (λ (t : State). record t { disk = s.disk; said = s.said }) first.others;
}

changes-log : (old s : State) → ChangesLog old s → ChangesStore old s
changes-log old s same = record {
  pages = inl (ap (λ (t : State). t.disk.pages) same);
  others = same ∙ ap (λ (t : State). record old { disk = t.disk; said = t.said }) (sym same);
}

changes-synced : (old s : State) → OnlySyncs old s → ChangesStore old s
changes-synced old s only = record {
  pages = only.pages;
  others = only.others ∙ ap (λ (t : State). record old { disk = s.disk; said = t.said }) (sym only.others);
}

pub only-none : (h : History) → EachMoment (ChangesStore (now h)) h h
only-none h = moments_start (ChangesStore (now h)) h (changes-none (now h))

pub only-log : (h0 h1 : History) → EachMoment (ChangesLog (now h0)) h0 h1 → EachMoment (ChangesStore (now h0)) h0 h1
only-log h0 h1 run = moments_weaken (ChangesLog (now h0)) (ChangesStore (now h0)) h0 h1 (changes-log (now h0)) run

pub only-synced : (h0 h1 : History) → EachMoment (OnlySyncs (now h0)) h0 h1 → EachMoment (ChangesStore (now h0)) h0 h1
only-synced h0 h1 run = moments_weaken (OnlySyncs (now h0)) (ChangesStore (now h0)) h0 h1 (changes-synced (now h0)) run

pub only-then :
    (h0 h1 h2 : History) → EachMoment (ChangesStore (now h0)) h0 h1 → EachMoment (ChangesStore (now h1)) h1 h2 →
    EachMoment (ChangesStore (now h0)) h0 h2
only-then h0 h1 h2 first second =
    let here = moments_last (ChangesStore (now h0)) h0 h1 first in
    moments_then (ChangesStore (now h0)) h0 h1 h2 first
    (moments_weaken (ChangesStore (now h1)) (ChangesStore (now h0)) h1 h2
    (λ s changes. changes-since (now h0) (now h1) s here changes) second)

-- pages that were synced are so behind what syncs them at most
pub pages-stay :
    (h0 h1 h2 : History) → (now h1).disk ≡ settled_store (now h0).disk.log.now (now h0).disk.pages.now →
    EachMoment (ChangesStore (now h1)) h1 h2 → (now h2).disk.pages ≡ settled (now h0).disk.pages.now
pages-stay h0 h1 h2 synced run = by_sync (moments_last (ChangesStore (now h1)) h1 h2 run).pages
  where
    first : (now h1).disk.pages ≡ settled (now h0).disk.pages.now
    first = ap (λ (d : Store). d.pages) synced

    by_sync : IsSynced (now h1).disk.pages (now h2).disk.pages → (now h2).disk.pages ≡ settled (now h0).disk.pages.now
    by_sync (inl same) = same ∙ first
    by_sync (inr again) = again ∙ ap (λ (part : PartState). settled part.now) first
