-- The moments of a write that is followed by a sync.
use Rattle.std.proofs.Common.{◌≡◌, ℕ, List, [], ◌∷◌, length, refl, sym, ap, subst, ◌∙◌}
use Rattle.dbpl_world.specs.declared.part.Part.{Part}
use Rattle.dbpl_world.specs.declared.part.Part.TheVariants.{Log, Pages}
use Rattle.dbpl_world.specs.Images.{IsImage, IsSmeared, written, after_write}
use Rattle.dbpl_world.specs.History.{State, part_of, Wrote, Smeared, Synced, step, History, more, now, ReadsAnImage}
use Rattle.dbpl_world.specs.Moments.{EachMoment}
use Rattle.dbpl_world.specs.Writing.{IsWriting}
use Rattle.dbpl_world.proofs.Images.{image_after_write}
use Rattle.dbpl_world.proofs.Torn.{image_before_write, image_of_failed_write, settled_image}
use Rattle.dbpl_world.proofs.Replays.{now-more}
use Rattle.dbpl_world.proofs.Moments.{Reached, reached_start, reached_on, reached_same, HasSmeared, reached_write_err}

writing_start : (part : Part) (at : ℕ) (bytes : List ℕ) (s : State) → IsWriting part at bytes s s
writing_start Log at bytes s = record { images = image_before_write s.disk.log at bytes; others = refl }
writing_start Pages at bytes s = record { images = image_before_write s.disk.pages at bytes; others = refl }

writing_wrote : (part : Part) (at : ℕ) (bytes : List ℕ) (s : State) → IsWriting part at bytes s (step s (Wrote part at bytes))
writing_wrote Log at bytes s = record { images = λ left image. image; others = refl }
writing_wrote Pages at bytes s = record { images = λ left image. image; others = refl }

writing_smeared : (part : Part) (at : ℕ) (bytes after : List ℕ) (s : State) → IsSmeared at (length bytes) (part_of part s.disk).now after → IsWriting part at bytes s (step s (Smeared part at (length bytes) after))
writing_smeared Log at bytes after s smeared = record { images = λ left image. image_of_failed_write s.disk.log at bytes after left smeared image; others = refl }
writing_smeared Pages at bytes after s smeared = record { images = λ left image. image_of_failed_write s.disk.pages at bytes after left smeared image; others = refl }

writing_synced : (part : Part) (at : ℕ) (bytes : List ℕ) (s : State) → ReadsAnImage s.disk → IsWriting part at bytes s (step (step s (Wrote part at bytes)) (Synced part))
writing_synced Log at bytes s reads = record {
  images = λ left image. subst (IsImage (after_write at bytes s.disk.log)) (sym (settled_image (written s.disk.log.now at bytes) left image)) (image_after_write s.disk.log at bytes reads.log);
  others = refl;
}
writing_synced Pages at bytes s reads = record {
  images = λ left image. subst (IsImage (after_write at bytes s.disk.pages)) (sym (settled_image (written s.disk.pages.now at bytes) left image)) (image_after_write s.disk.pages at bytes reads.pages);
  others = refl;
}

started : (part : Part) (at : ℕ) (bytes : List ℕ) (h : History) → Reached (IsWriting part at bytes (now h)) h h (now h)
started part at bytes h = reached_start (IsWriting part at bytes (now h)) h (now h) refl (writing_start part at bytes (now h))

wrote : (part : Part) (at : ℕ) (bytes : List ℕ) (h h' : History) → h' ≡ more h (Wrote part at bytes ∷ []) → Reached (IsWriting part at bytes (now h)) h h' (step (now h) (Wrote part at bytes))
wrote part at bytes h h' is = reached_on (IsWriting part at bytes (now h)) h h h' (now h) (Wrote part at bytes) (started part at bytes h) is (writing_wrote part at bytes (now h))

synced : (part : Part) (at : ℕ) (bytes : List ℕ) (h mid h' : History) → ReadsAnImage (now h).disk → mid ≡ more h (Wrote part at bytes ∷ []) → h' ≡ more mid (Synced part ∷ []) → Reached (IsWriting part at bytes (now h)) h h' (step (step (now h) (Wrote part at bytes)) (Synced part))
synced part at bytes h mid h' reads first second = reached_on (IsWriting part at bytes (now h)) h mid h' (step (now h) (Wrote part at bytes)) (Synced part) (wrote part at bytes h mid first) second (writing_synced part at bytes (now h) reads)

pub moments_synced : (part : Part) (at : ℕ) (bytes : List ℕ) (h mid h' : History) → ReadsAnImage (now h).disk → mid ≡ more h (Wrote part at bytes ∷ []) → h' ≡ more mid (Synced part ∷ []) → EachMoment (IsWriting part at bytes (now h)) h h'
moments_synced part at bytes h mid h' reads first second = (synced part at bytes h mid h' reads first second).moments

pub moments_not_synced : (part : Part) (at : ℕ) (bytes : List ℕ) (h mid h' : History) → mid ≡ more h (Wrote part at bytes ∷ []) → h' ≡ mid → EachMoment (IsWriting part at bytes (now h)) h h'
moments_not_synced part at bytes h mid h' first same = (reached_same (IsWriting part at bytes (now h)) h mid h' (step (now h) (Wrote part at bytes)) (wrote part at bytes h mid first) same).moments

pub moments_not_written : (part : Part) (at : ℕ) (bytes : List ℕ) (h h' : History) → HasSmeared part at (length bytes) h h' → EachMoment (IsWriting part at bytes (now h)) h h'
moments_not_written part at bytes h h' failed = reached_write_err (IsWriting part at bytes (now h)) h h h' (now h) part at (length bytes) (started part at bytes h) failed (λ after smeared. writing_smeared part at bytes after (now h) smeared)

settled_part : (part : Part) (at : ℕ) (bytes : List ℕ) (s : State) (left : List ℕ) → IsImage (part_of part (step (step s (Wrote part at bytes)) (Synced part)).disk) left → left ≡ written (part_of part s.disk).now at bytes
settled_part Log at bytes s left image = settled_image (written s.disk.log.now at bytes) left image
settled_part Pages at bytes s left image = settled_image (written s.disk.pages.now at bytes) left image

pub one_image : (part : Part) (at : ℕ) (bytes : List ℕ) (h mid h' : History) → mid ≡ more h (Wrote part at bytes ∷ []) → h' ≡ more mid (Synced part ∷ []) → (left : List ℕ) → IsImage (part_of part (now h').disk) left → left ≡ written (part_of part (now h).disk).now at bytes
one_image part at bytes h mid h' first second left image =
    let state : now h' ≡ step (step (now h) (Wrote part at bytes)) (Synced part) = ap now second ∙ now-more mid (Synced part ∷ []) ∙ ap (λ s. step s (Synced part)) (ap now first ∙ now-more h (Wrote part at bytes ∷ [])) in
    settled_part part at bytes (now h) left (subst (λ s. IsImage (part_of part s.disk) left) state image)
