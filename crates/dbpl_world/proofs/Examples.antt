-- Examples of what a stop may leave of a part of ten bytes, and of what it may not.
use Rattle.std.proofs.Common.{◌≡◌, ℕ, ◌<◌, ◌⊎◌, inl, inr, List, [], ◌∷◌, length, refl, sym, subst, arith}
use Rattle.std.specs.Prelude.{slice_index}
use Rattle.dbpl_world.specs.declared.part.Part.TheVariants.{Pages}
use Rattle.dbpl_world.specs.Images.{PartState, IsOutside, IsImage, settled, after_write}
use Rattle.dbpl_world.specs.History.{State, Synced, step}
use Rattle.dbpl_world.proofs.Torn.{settled_image}

abbrev ten : List ℕ
ten = 0 ∷ 1 ∷ 2 ∷ 3 ∷ 4 ∷ 5 ∷ 6 ∷ 7 ∷ 8 ∷ 9 ∷ []

-- three writes since the last sync: two bytes at 2, one at 5, and three at 9, which make the part longer
abbrev three_writes : PartState
three_writes = after_write 9 (91 ∷ 92 ∷ 93 ∷ []) (after_write 5 (51 ∷ []) (after_write 2 (21 ∷ 22 ∷ []) (settled ten)))

a_read_gives : three_writes.now ≡ 0 ∷ 1 ∷ 21 ∷ 22 ∷ 4 ∷ 51 ∷ 6 ∷ 7 ∷ 8 ∷ 91 ∷ 92 ∷ 93 ∷ []
a_read_gives = refl

-- A place below ten that no range holds is one of six.
free_places : (P : ℕ → Type 0) → P 0 → P 1 → P 4 → P 6 → P 7 → P 8 → (i : ℕ) → i < 10 → IsOutside i three_writes.ranges → P i
free_places P p0 p1 p4 p6 p7 p8 i below outside = by_place (places i below outside)
  where
    places : (i : ℕ) → i < 10 → IsOutside i three_writes.ranges → (i ≡ 0) ⊎ ((i ≡ 1) ⊎ ((i ≡ 4) ⊎ ((i ≡ 6) ⊎ ((i ≡ 7) ⊎ (i ≡ 8)))))
    places i below outside = grind arith

    by_place : (i ≡ 0) ⊎ ((i ≡ 1) ⊎ ((i ≡ 4) ⊎ ((i ≡ 6) ⊎ ((i ≡ 7) ⊎ (i ≡ 8))))) → P i
    by_place (inl is) = subst P (sym is) p0
    by_place (inr (inl is)) = subst P (sym is) p1
    by_place (inr (inr (inl is))) = subst P (sym is) p4
    by_place (inr (inr (inr (inl is)))) = subst P (sym is) p6
    by_place (inr (inr (inr (inr (inl is))))) = subst P (sym is) p7
    by_place (inr (inr (inr (inr (inr is))))) = subst P (sym is) p8

-- Allowed: nothing of the writes has reached the disk.
nothing_written : IsImage three_writes ten
nothing_written = record { no_shorter = omega arith; no_longer = omega arith; kept = λ i inside outside. refl }

-- Allowed: all of them has.
all_written : IsImage three_writes three_writes.now
all_written = record { no_shorter = omega arith; no_longer = omega arith; kept = free_places (λ i. slice_index three_writes.now i ≡ slice_index ten i) refl refl refl refl refl refl }

-- Allowed: one byte of the first write, other bytes in its second place and in the range of the third, and one byte more.
abbrev torn : List ℕ
torn = 0 ∷ 1 ∷ 21 ∷ 200 ∷ 4 ∷ 5 ∷ 6 ∷ 7 ∷ 8 ∷ 201 ∷ 202 ∷ []

torn_writes : IsImage three_writes torn
torn_writes = record { no_shorter = omega arith; no_longer = omega arith; kept = free_places (λ i. slice_index torn i ≡ slice_index ten i) refl refl refl refl refl refl }

-- Not allowed: the byte at 4, outside each range, has changed.
changed_outside : IsImage three_writes (0 ∷ 1 ∷ 21 ∷ 22 ∷ 99 ∷ 51 ∷ 6 ∷ 7 ∷ 8 ∷ 9 ∷ []) → ⊥
changed_outside image =
    let outside : IsOutside 4 three_writes.ranges = (inl (omega arith), (inl (omega arith), (inr (omega arith), tt))) in
    let changed : ◌≡◌ {A = ℕ} 99 4 = image.kept 4 (omega arith) outside in
    omega (arith, changed)

-- Not allowed: a length past the greatest since the last sync, or below the least.
too_long : (left : List ℕ) → length left ≡ 13 → IsImage three_writes left → ⊥
too_long left long image = omega (arith, image.no_longer)

too_short : (left : List ℕ) → length left ≡ 9 → IsImage three_writes left → ⊥
too_short left short image = omega (arith, image.no_shorter)

-- Not allowed: after a sync of the part, anything but what a read gives.
old_after_sync : IsImage (settled three_writes.now) ten → ⊥
old_after_sync image = let same = settled_image three_writes.now ten image in absurd cc

-- Allowed: after a sync of the other part, still any of the images from before it.
other_synced : (s : State) → s.disk.log ≡ three_writes → IsImage (step s (Synced Pages)).disk.log torn
other_synced s log = subst (λ part. IsImage part torn) (sym log) torn_writes
