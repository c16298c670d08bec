-- Which images a part has around writes and syncs, and what they are as lists.
use Rattle.std.proofs.Common.{◌≡◌, ◌≢◌, ℕ, ◌+◌, ◌-◌, ◌<◌, ◌≤◌, ◌⊎◌, inl, inr, List, [], ◌∷◌, ◌++◌, length, drop, refl, sym, ap, subst, ◌∙◌, arith, append-nil, length-append}
use Rattle.std.specs.Prelude.{slice_index}
use Rattle.std.proofs.lemmas.List.{ext_get_or}
use Rattle.std.proofs.lemmas.Bool.{cases_lt}
use Rattle.std.proofs.Math.Seq.{take-append_seam, drop-append-add}
use Rattle.std.proofs.lemmas.Grind.{common_steps}
use Rattle.dbpl_world.specs.declared.part.Part.{Part}
use Rattle.dbpl_world.specs.declared.part.Part.TheVariants.{Log, Pages}
use Rattle.dbpl_world.specs.Images.{PartState, IsOutside, IsImage, written, IsSmeared, settled, after_write, after_failed_write}
use Rattle.dbpl_world.specs.History.{part_of, State, Wrote, Smeared, Synced, step, ReadsAnImage}
use Rattle.dbpl_world.specs.Moments.{LeavesOnly}
use Rattle.dbpl_world.proofs.Images.{length-written}

-- An image from before a write is one after it.
pub image_before_write : (part : PartState) (at : ℕ) (bytes left : List ℕ) → IsImage part left → IsImage (after_write at bytes part) left
image_before_write part at bytes left image = record {
  no_shorter = image.no_shorter;
  no_longer = omega (arith, image.no_longer, length-written part.now at bytes);
  kept = λ i inside outside. image.kept i inside outside.1;
}

-- A write that failed leaves nothing that the same write could not have left.
pub image_of_failed_write : (part : PartState) (at : ℕ) (bytes after left : List ℕ) → IsSmeared at (length bytes) part.now after → IsImage (after_failed_write at (length bytes) after part) left → IsImage (after_write at bytes part) left
image_of_failed_write part at bytes after left smeared image = record {
  no_shorter = image.no_shorter;
  no_longer = omega (arith, image.no_longer, smeared.no_longer, length-written part.now at bytes);
  kept = image.kept;
}

-- After a sync there is one image.
pub settled_image : (bytes left : List ℕ) → IsImage (settled bytes) left → left ≡ bytes
settled_image bytes left image =
    let same : length left ≡ length bytes = omega (arith, image.no_shorter, image.no_longer) in
    ext_get_or 0 left bytes same (λ i inside. let held : i < length bytes = omega (arith, inside, same) in image.kept i held tt)

-- A sync adds no image.
pub image_before_sync : (part : PartState) (left : List ℕ) → IsImage part part.now → IsImage (settled part.now) left → IsImage part left
image_before_sync part left read image = subst (IsImage part) (sym (settled_image part.now left image)) read

-- The same of what each image of the mounted store satisfies.

pub leaves_before_write : (P : List ℕ → List ℕ → List ℕ → Type 0) (s : State) (part : Part) (at : ℕ) (bytes : List ℕ) → LeavesOnly P (step s (Wrote part at bytes)) → LeavesOnly P s
leaves_before_write P s Log at bytes holds log pages log_left pages_left = holds log pages (image_before_write s.disk.log at bytes log log_left) pages_left
leaves_before_write P s Pages at bytes holds log pages log_left pages_left = holds log pages log_left (image_before_write s.disk.pages at bytes pages pages_left)

pub leaves_after_failed_write : (P : List ℕ → List ℕ → List ℕ → Type 0) (s : State) (part : Part) (at : ℕ) (bytes after : List ℕ) → IsSmeared at (length bytes) (part_of part s.disk).now after → LeavesOnly P (step s (Wrote part at bytes)) → LeavesOnly P (step s (Smeared part at (length bytes) after))
leaves_after_failed_write P s Log at bytes after smeared holds log pages log_left pages_left = holds log pages (image_of_failed_write s.disk.log at bytes after log smeared log_left) pages_left
leaves_after_failed_write P s Pages at bytes after smeared holds log pages log_left pages_left = holds log pages log_left (image_of_failed_write s.disk.pages at bytes after pages smeared pages_left)

pub leaves_after_sync : (P : List ℕ → List ℕ → List ℕ → Type 0) (s : State) (part : Part) → ReadsAnImage s.disk → LeavesOnly P s → LeavesOnly P (step s (Synced part))
leaves_after_sync P s Log reads holds log pages log_left pages_left = holds log pages (image_before_sync s.disk.log log reads.log log_left) pages_left
leaves_after_sync P s Pages reads holds log pages log_left pages_left = holds log pages log_left (image_before_sync s.disk.pages pages reads.pages pages_left)

-- Images as lists: a front that no write has touched, and a single byte that was written.

-- all these ranges begin at this place or behind it
abbrev pub BeginAt : ℕ → List (ℕ × ℕ) → Type 0
BeginAt place [] = Unit {0}
BeginAt place (range ∷ ranges) = (place ≤ range.0) × BeginAt place ranges

outside_front : (place i : ℕ) (ranges : List (ℕ × ℕ)) → BeginAt place ranges → i < place → IsOutside i ranges
outside_front place i [] begin before = tt
outside_front place i (range ∷ ranges) begin before = (inl (omega (arith, begin.0)), outside_front place i ranges begin.1 before)

index_front : (front rest left : List ℕ) (i : ℕ) → length front ≤ length left → i < length left → (i < length front → slice_index left i ≡ slice_index (front ++ rest) i) → slice_index left i ≡ slice_index (front ++ drop (length front) left) i
index_front front rest left i long inside same = grind (arith, common_steps)

same_front : (front rest left : List ℕ) → length front ≤ length left → ((i : ℕ) → i < length front → slice_index left i ≡ slice_index (front ++ rest) i) → left ≡ front ++ drop (length front) left
same_front front rest left long same = ext_get_or 0 left (front ++ drop (length front) left) (grind (arith, common_steps)) (λ i inside. index_front front rest left i long inside (same i))

pub front_kept : (part : PartState) (front rest left : List ℕ) → part.base ≡ front ++ rest → BeginAt (length front) part.ranges → IsImage part left → left ≡ front ++ drop (length front) left
front_kept part front rest left base begin image =
    let long : length front ≤ length part.base = omega (arith, ap length base, length-append front rest) in
    same_front front rest left (omega (arith, long, image.no_shorter)) (λ i inside. let held : i < length part.base = omega arith in image.kept i held (outside_front (length front) i part.ranges begin inside) ∙ ap (λ bytes. slice_index bytes i) base)

-- a byte behind a front was written, and the part has its old length
index_torn : (front : List ℕ) (byte : ℕ) (rest left : List ℕ) (i : ℕ) → length left ≡ length (front ++ byte ∷ rest) → i < length left → (i ≢ length front → slice_index left i ≡ slice_index (front ++ byte ∷ rest) i) → slice_index left i ≡ slice_index (front ++ slice_index left (length front) ∷ rest) i
index_torn front byte rest left i same inside others = grind (arith, common_steps)

pub one_torn : (part : PartState) (front : List ℕ) (byte : ℕ) (rest left : List ℕ) → part.base ≡ front ++ byte ∷ rest → part.ranges ≡ (length front, 1) ∷ [] → length part.now ≡ length part.base → IsImage part left → (torn : ℕ) × (left ≡ front ++ torn ∷ rest)
one_torn part front byte rest left base ranges same image =
    let long : length left ≡ length (front ++ byte ∷ rest) = omega (arith, image.no_shorter, image.no_longer, same, ap length base) in
    (slice_index left (length front), ext_get_or 0 left (front ++ slice_index left (length front) ∷ rest) (long ∙ same_length) (λ i inside. index_torn front byte rest left i long inside (other i inside long)))
  where
    same_length : length (front ++ byte ∷ rest) ≡ length (front ++ slice_index left (length front) ∷ rest)
    same_length = grind (arith, common_steps)

    outside : (i : ℕ) → i ≢ length front → IsOutside i ((length front, 1) ∷ [])
    outside i apart = (by_order (cases_lt i (length front)), tt)
      where
        by_order : (i < length front) ⊎ (length front ≤ i) → (i < length front) ⊎ (length front + 1 ≤ i)
        by_order (inl below) = inl below
        by_order (inr above) = inr (omega (arith, above, apart))

    other : (i : ℕ) → i < length left → length left ≡ length (front ++ byte ∷ rest) → i ≢ length front → slice_index left i ≡ slice_index (front ++ byte ∷ rest) i
    other i inside long apart =
        let held : i < length part.base = omega (arith, inside, long, ap length base) in
        image.kept i held (subst (IsOutside i) (sym ranges) (outside i apart)) ∙ ap (λ bytes. slice_index bytes i) base

-- a write right behind a front
pub written-at_front : (front rest : List ℕ) (at : ℕ) (bytes : List ℕ) → at ≡ length front → written (front ++ rest) at bytes ≡ (front ++ bytes) ++ drop (length bytes) rest
written-at_front front rest at bytes behind =
    let none : at - length (front ++ rest) ≡ 0 = omega (arith, behind, length-append front rest) in
    rw (none, behind) (rw (append-nil (front ++ rest), take-append_seam front rest, drop-append-add front rest (length bytes)) refl)
