-- The bytes of a part after a write, and which bytes a stop may leave of it.
use Rattle.std.proofs.Common.{◌≡◌, ℕ, ◌+◌, ◌<◌, ◌≤◌, max, ◌⊎◌, inl, inr, List, length, refl, ◌∙◌, arith}
use Rattle.std.specs.Prelude.{slice_index, bytes_eq, Bool, true, false, Option, Some, None, if◌then◌else◌}
use Rattle.std.proofs.lemmas.Grind.{common_steps}
use Rattle.dbpl_world.specs.declared.part.Part.{Part}
use Rattle.dbpl_world.specs.declared.part.Part.TheVariants.{Log, Pages}
use Rattle.dbpl_world.specs.Images.{PartState, IsImage, written, IsSmeared, settled, after_write, after_failed_write}
use Rattle.dbpl_world.specs.History.{Store, part_of, in_part, settled_store, State, store_of, store_among, Event, Mounted, Took, Said, Noted, Wrote, Smeared, Synced, step, ReadsAnImage, AllReadAnImage}

pub length-written : (old : List ℕ) (at : ℕ) (bytes : List ℕ) → length (written old at bytes) ≡ max (length old) (at + length bytes)
length-written old at bytes = grind (arith, common_steps)

pub written-before : (old : List ℕ) (at : ℕ) (bytes : List ℕ) (i : ℕ) → i < length old → i < at → slice_index (written old at bytes) i ≡ slice_index old i
written-before old at bytes i inside before = grind (arith, common_steps)

pub written-behind : (old : List ℕ) (at : ℕ) (bytes : List ℕ) (i : ℕ) → i < length old → at + length bytes ≤ i → slice_index (written old at bytes) i ≡ slice_index old i
written-behind old at bytes i inside behind = grind (arith, common_steps)

pub written-outside : (old : List ℕ) (at : ℕ) (bytes : List ℕ) (i : ℕ) → i < length old → (i < at) ⊎ (at + length bytes ≤ i) → slice_index (written old at bytes) i ≡ slice_index old i
written-outside old at bytes i inside (inl before) = written-before old at bytes i inside before
written-outside old at bytes i inside (inr behind) = written-behind old at bytes i inside behind

-- What a read gives stays an image.

pub image_settled : (bytes : List ℕ) → IsImage (settled bytes) bytes
image_settled bytes = record { no_shorter = omega arith; no_longer = omega arith; kept = λ i inside outside. refl }

pub image_after_write : (part : PartState) (at : ℕ) (bytes : List ℕ) → IsImage part part.now → IsImage (after_write at bytes part) (written part.now at bytes)
image_after_write part at bytes image = record {
  no_shorter = omega (arith, length-written part.now at bytes, image.no_shorter);
  no_longer = omega arith;
  kept = λ i inside outside. let held : i < length part.now = omega (arith, image.no_shorter) in written-outside part.now at bytes i held outside.0 ∙ image.kept i inside outside.1;
}

pub image_after_failed_write : (part : PartState) (at n : ℕ) (bytes : List ℕ) → IsSmeared at n part.now bytes → IsImage part part.now → IsImage (after_failed_write at n bytes part) bytes
image_after_failed_write part at n bytes smeared image = record {
  no_shorter = omega (arith, smeared.no_shorter, image.no_shorter);
  no_longer = omega arith;
  kept = λ i inside outside. let held : i < length part.now = omega (arith, image.no_shorter) in smear i held outside.0 ∙ image.kept i inside outside.1;
}
  where
    smear : (i : ℕ) → i < length part.now → (i < at) ⊎ (at + n ≤ i) → slice_index bytes i ≡ slice_index part.now i
    smear i held (inl before) = smeared.below i held before
    smear i held (inr behind) = smeared.above i held behind

-- A step of a world keeps it so.

pub store_settled : (log pages : List ℕ) → ReadsAnImage (settled_store log pages)
store_settled log pages = record { log = image_settled log; pages = image_settled pages }

store_in_part : (part : Part) (change : PartState → PartState) (store : Store) → ((p : PartState) → IsImage p p.now → IsImage (change p) (change p).now) → ReadsAnImage store → ReadsAnImage (in_part part change store)
store_in_part Log change store keeps images = record { log = keeps store.log images.log; pages = images.pages }
store_in_part Pages change store keeps images = record { log = images.log; pages = keeps store.pages images.pages }

images_picked : (test : Bool) (disk other : Store) → ReadsAnImage disk → ReadsAnImage other → ReadsAnImage (if test then disk else other)
images_picked true disk other here there = here
images_picked false disk other here there = there

images_among : (mounted : Option (List ℕ)) (disk : Store) (others : List ℕ → Store) → ReadsAnImage disk → ((name : List ℕ) → ReadsAnImage (others name)) → (name : List ℕ) → ReadsAnImage (store_among mounted disk others name)
images_among None disk others here there name = there name
images_among (Some mounted) disk others here there name = images_picked (bytes_eq mounted name) disk (others name) here (there name)

pub images_of_store : (s : State) → AllReadAnImage s → (name : List ℕ) → ReadsAnImage (store_of s name)
images_of_store s images name = images_among s.mounted s.disk s.others images.disk images.others name

-- A failed write leaves what IsSmeared says.
abbrev pub IsPossible : State → Event → Type 0
IsPossible s (Smeared part at count bytes) = IsSmeared at count (part_of part s.disk).now bytes
IsPossible s _ = Unit {0}

images_smeared : (part : Part) (at count : ℕ) (bytes : List ℕ) (store : Store) → IsSmeared at count (part_of part store).now bytes → ReadsAnImage store → ReadsAnImage (in_part part (after_failed_write at count bytes) store)
images_smeared Log at count bytes store smeared images = record { log = image_after_failed_write store.log at count bytes smeared images.log; pages = images.pages }
images_smeared Pages at count bytes store smeared images = record { log = images.log; pages = image_after_failed_write store.pages at count bytes smeared images.pages }

pub images_after : (s : State) (event : Event) → IsPossible s event → AllReadAnImage s → AllReadAnImage (step s event)
images_after s (Mounted name) possible images = record { disk = images_of_store s images name; others = images_of_store s images }
images_after s (Took count) possible images = record { disk = images.disk; others = images.others }
images_after s (Said byte) possible images = record { disk = images.disk; others = images.others }
images_after s (Noted byte) possible images = record { disk = images.disk; others = images.others }
images_after s (Wrote part at bytes) possible images = record { disk = store_in_part part (after_write at bytes) s.disk (λ p image. image_after_write p at bytes image) images.disk; others = images.others }
images_after s (Smeared part at count bytes) possible images = record { disk = images_smeared part at count bytes s.disk possible images.disk; others = images.others }
images_after s (Synced part) possible images = record { disk = store_in_part part (λ synced. settled synced.now) s.disk (λ p image. image_settled p.now) images.disk; others = images.others }
