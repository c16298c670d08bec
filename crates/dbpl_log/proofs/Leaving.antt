-- What holds of each image of the log, from one event to the next.
use Rattle.std.proofs.Common.{ℕ, List, length, refl, sym, ap, subst, ◌∙◌}
use Rattle.dbpl_world.specs.declared.part.Part.TheVariants.{Log, Pages}
use Rattle.dbpl_world.specs.Images.{IsImage, IsSmeared, settled, after_write, after_failed_write}
use Rattle.dbpl_world.specs.Writing.{IsWriting}
use Rattle.dbpl_world.specs.History.{State, Wrote, Smeared, Synced, step, History, now, ReadsAnImage}
use Rattle.dbpl_world.specs.Moments.{EachMoment}
use Rattle.dbpl_world.proofs.Torn.{image_of_failed_write, image_before_sync}
use Rattle.dbpl_world.proofs.Moments.{moments_weaken, moments_then, moments_last}
use Rattle.dbpl_log.specs.Changes.{LeavesLog}

pub leaves_start : (P : List ℕ → Type 0) (s : State) → ((left : List ℕ) → IsImage s.disk.log left → P left) → LeavesLog P s s
leaves_start P s holds = record { log = holds; pages = λ left image. image; others = refl }

pub leaves_wrote : (P : List ℕ → Type 0) (old s : State) (at : ℕ) (bytes : List ℕ) → LeavesLog P old s → ((left : List ℕ) → IsImage (after_write at bytes s.disk.log) left → P left) → LeavesLog P old (step s (Wrote Log at bytes))
leaves_wrote P old s at bytes leaves holds = record {
  log = holds;
  pages = leaves.pages;
  others = ap (λ (t : State). record t { disk = record s.disk { log = after_write at bytes s.disk.log } }) leaves.others;
}

pub leaves_smeared : (P : List ℕ → Type 0) (old s : State) (at : ℕ) (bytes after : List ℕ) → LeavesLog P old s → IsSmeared at (length bytes) s.disk.log.now after → ((left : List ℕ) → IsImage (after_write at bytes s.disk.log) left → P left) →
    LeavesLog P old (step s (Smeared Log at (length bytes) after))
leaves_smeared P old s at bytes after leaves smeared holds = record {
  log = λ left image. holds left (image_of_failed_write s.disk.log at bytes after left smeared image);
  pages = leaves.pages;
  others = ap (λ (t : State). record t { disk = record s.disk { log = after_failed_write at (length bytes) after s.disk.log } }) leaves.others;
}

pub leaves_synced_log : (P : List ℕ → Type 0) (old s : State) → ReadsAnImage s.disk → LeavesLog P old s → LeavesLog P old (step s (Synced Log))
leaves_synced_log P old s reads leaves = record {
  log = λ left image. leaves.log left (image_before_sync s.disk.log left reads.log image);
  pages = leaves.pages;
  others = ap (λ (t : State). record t { disk = record s.disk { log = settled s.disk.log.now } }) leaves.others;
}

pub leaves_synced_pages : (P : List ℕ → Type 0) (old s : State) → ReadsAnImage s.disk → LeavesLog P old s → LeavesLog P old (step s (Synced Pages))
leaves_synced_pages P old s reads leaves = record {
  log = leaves.log;
  pages = λ left image. leaves.pages left (image_before_sync s.disk.pages left reads.pages image);
  others = ap (λ (t : State). record t { disk = record s.disk { pages = settled s.disk.pages.now } }) leaves.others;
}

pub leaves_weaken : (P R : List ℕ → Type 0) (old s : State) → ((left : List ℕ) → P left → R left) → LeavesLog P old s → LeavesLog R old s
leaves_weaken P R old s weaker leaves = record { log = λ left image. weaker left (leaves.log left image); pages = leaves.pages; others = leaves.others }

-- since an earlier moment
pub leaves_since : (P R : List ℕ → Type 0) (old mid s : State) → LeavesLog P old mid → LeavesLog R mid s → LeavesLog R old s
leaves_since P R old mid s first second = record {
  log = second.log;
  pages = λ left image. first.pages left (second.pages left image);
  others = second.others ∙ ap (λ (t : State). record t { disk = s.disk }) first.others;
}

pub moments_leave_weaken : (P R : List ℕ → Type 0) (s : State) (old new : History) → ((left : List ℕ) → P left → R left) → EachMoment (LeavesLog P s) old new → EachMoment (LeavesLog R s) old new
moments_leave_weaken P R s old new weaker run = moments_weaken (LeavesLog P s) (LeavesLog R s) old new (λ t leaves. leaves_weaken P R s t weaker leaves) run

-- two runs, one behind the other
pub moments_leave_then : (P : List ℕ → Type 0) (old mid new : History) → EachMoment (LeavesLog P (now old)) old mid → EachMoment (LeavesLog P (now mid)) mid new → EachMoment (LeavesLog P (now old)) old new
moments_leave_then P old mid new first second =
    let there : LeavesLog P (now old) (now mid) = moments_last (LeavesLog P (now old)) old mid first in
    moments_then (LeavesLog P (now old)) old mid new first (moments_weaken (LeavesLog P (now mid)) (LeavesLog P (now old)) mid new (λ t leaves. leaves_since P P (now old) (now mid) t there leaves) second)

-- A write that is followed by a sync.

pub leaves_writing : (P : List ℕ → Type 0) (at : ℕ) (bytes : List ℕ) (old s : State) → ((left : List ℕ) → IsImage (after_write at bytes old.disk.log) left → P left) → IsWriting Log at bytes old s → LeavesLog P old s
leaves_writing P at bytes old s holds writing = record {
  log = λ left image. holds left (writing.images left image);
  pages = λ left image. subst (λ (t : State). IsImage t.disk.pages left) writing.others image;
  others = writing.others ∙ ap (λ disk. record old { disk = disk }) (sym (ap (λ (t : State). t.disk) writing.others));
}

pub moments_writing : (P : List ℕ → Type 0) (at : ℕ) (bytes : List ℕ) (old new : History) → ((left : List ℕ) → IsImage (after_write at bytes (now old).disk.log) left → P left) → EachMoment (IsWriting Log at bytes (now old)) old new → EachMoment (LeavesLog P (now old)) old new
moments_writing P at bytes old new holds run = moments_weaken (IsWriting Log at bytes (now old)) (LeavesLog P (now old)) old new (λ s writing. leaves_writing P at bytes (now old) s holds writing) run
