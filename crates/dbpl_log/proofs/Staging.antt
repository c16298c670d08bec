-- A record put behind a shut gate: what stood up to that gate and with it stays at each moment.
use Rattle.std.proofs.Common.{◌≡◌, ℕ, ◌+◌, ◌≤◌, List, [], ◌∷◌, ◌++◌, length, refl, sym, ap, subst, arith}
use Rattle.dbpl_world.specs.declared.part.Part.TheVariants.{Log}
use Rattle.dbpl_world.specs.Images.{IsImage, settled}
use Rattle.dbpl_world.specs.History.{State, Wrote, Synced, step, History, more, now, ReadsAnImage, AllReadAnImage}
use Rattle.dbpl_world.specs.Moments.{EachMoment}
use Rattle.dbpl_world.proofs.Torn.{BeginAt, front_kept}
use Rattle.dbpl_world.proofs.Moments.{Reached, reached_start, reached_on, reached_same, HasSmeared, reached_write_err}
use Rattle.dbpl_log.specs.Changes.{LeavesLog, HasFront}
use Rattle.dbpl_log.proofs.Leaving.{leaves_start, leaves_wrote, leaves_smeared, leaves_synced_log}

-- since the last sync, when this front stood there, all was written behind it
record Behind (front rest : List ℕ) (s : State) : Type 0 where
  pub base : s.disk.log.base ≡ front ++ rest
  pub begin : BeginAt (length front) s.disk.log.ranges

wrote_behind : (front rest : List ℕ) (s : State) (at : ℕ) (bytes : List ℕ) → length front ≤ at → Behind front rest s → Behind front rest (step s (Wrote Log at bytes))
wrote_behind front rest s at bytes place behind = record { base = behind.base; begin = (place, behind.begin) }

front_stays : (front rest : List ℕ) (s : State) → Behind front rest s → (left : List ℕ) → IsImage s.disk.log left → HasFront front left
front_stays front rest s behind left image = front_kept s.disk.log front rest left behind.base behind.begin image

module _ (gate : ℕ) (field added front rest : List ℕ) (h0 : History) (is : (now h0).disk.log ≡ settled (front ++ rest)) (long : length front ≡ gate + 1) where
  abbrev Q : State → Type 0
  Q s = LeavesLog (HasFront front) (now h0) s

  abbrev s0 : State
  s0 = now h0

  abbrev s1 : State
  s1 = step s0 (Wrote Log (gate + 1) field)

  abbrev s2 : State
  s2 = step s1 (Wrote Log (gate + 5) added)

  abbrev s3 : State
  s3 = step s2 (Wrote Log (gate + 5 + length added) (0 ∷ []))

  behind0 : Behind front rest s0
  behind0 = record { base = ap (λ part. part.base) is; begin = subst (λ part. BeginAt (length front) part.ranges) (sym is) tt }

  behind1 : Behind front rest s1
  behind1 = wrote_behind front rest s0 (gate + 1) field (omega (arith, long)) behind0

  behind2 : Behind front rest s2
  behind2 = wrote_behind front rest s1 (gate + 5) added (omega (arith, long)) behind1

  behind3 : Behind front rest s3
  behind3 = wrote_behind front rest s2 (gate + 5 + length added) (0 ∷ []) (omega (arith, long)) behind2

  q0 : Q s0
  q0 = leaves_start (HasFront front) s0 (front_stays front rest s0 behind0)

  q1 : Q s1
  q1 = leaves_wrote (HasFront front) s0 s0 (gate + 1) field q0 (front_stays front rest s1 behind1)

  q2 : Q s2
  q2 = leaves_wrote (HasFront front) s0 s1 (gate + 5) added q1 (front_stays front rest s2 behind2)

  q3 : Q s3
  q3 = leaves_wrote (HasFront front) s0 s2 (gate + 5 + length added) (0 ∷ []) q2 (front_stays front rest s3 behind3)

  to1 : (h1 : History) → h1 ≡ more h0 (Wrote Log (gate + 1) field ∷ []) → Reached Q h0 h1 s1
  to1 h1 first = reached_on Q h0 h0 h1 s0 (Wrote Log (gate + 1) field) (reached_start Q h0 s0 refl q0) first q1

  to2 : (h1 h2 : History) → h1 ≡ more h0 (Wrote Log (gate + 1) field ∷ []) → h2 ≡ more h1 (Wrote Log (gate + 5) added ∷ []) → Reached Q h0 h2 s2
  to2 h1 h2 first second = reached_on Q h0 h1 h2 s1 (Wrote Log (gate + 5) added) (to1 h1 first) second q2

  to3 : (h1 h2 h3 : History) → h1 ≡ more h0 (Wrote Log (gate + 1) field ∷ []) → h2 ≡ more h1 (Wrote Log (gate + 5) added ∷ []) → h3 ≡ more h2 (Wrote Log (gate + 5 + length added) (0 ∷ []) ∷ []) → Reached Q h0 h3 s3
  to3 h1 h2 h3 first second third = reached_on Q h0 h2 h3 s2 (Wrote Log (gate + 5 + length added) (0 ∷ [])) (to2 h1 h2 first second) third q3

  pub exit1 : (h1 : History) → HasSmeared Log (gate + 1) (length field) h0 h1 → EachMoment Q h0 h1
  exit1 h1 failed = reached_write_err Q h0 h0 h1 s0 Log (gate + 1) (length field) (reached_start Q h0 s0 refl q0) failed
      (λ after smeared. leaves_smeared (HasFront front) s0 s0 (gate + 1) field after q0 smeared (front_stays front rest s1 behind1))

  pub exit2 : (h1 h2 : History) → h1 ≡ more h0 (Wrote Log (gate + 1) field ∷ []) → HasSmeared Log (gate + 5) (length added) h1 h2 → EachMoment Q h0 h2
  exit2 h1 h2 first failed = reached_write_err Q h0 h1 h2 s1 Log (gate + 5) (length added) (to1 h1 first) failed
      (λ after smeared. leaves_smeared (HasFront front) s0 s1 (gate + 5) added after q1 smeared (front_stays front rest s2 behind2))

  pub exit3 : (h1 h2 h3 : History) → h1 ≡ more h0 (Wrote Log (gate + 1) field ∷ []) → h2 ≡ more h1 (Wrote Log (gate + 5) added ∷ []) → HasSmeared Log (gate + 5 + length added) 1 h2 h3 → EachMoment Q h0 h3
  exit3 h1 h2 h3 first second failed = reached_write_err Q h0 h2 h3 s2 Log (gate + 5 + length added) 1 (to2 h1 h2 first second) failed
      (λ after smeared. leaves_smeared (HasFront front) s0 s2 (gate + 5 + length added) (0 ∷ []) after q2 smeared (front_stays front rest s3 behind3))

  pub exit4 : (h1 h2 h3 h4 : History) → h1 ≡ more h0 (Wrote Log (gate + 1) field ∷ []) → h2 ≡ more h1 (Wrote Log (gate + 5) added ∷ []) → h3 ≡ more h2 (Wrote Log (gate + 5 + length added) (0 ∷ []) ∷ []) → h4 ≡ h3 → EachMoment Q h0 h4
  exit4 h1 h2 h3 h4 first second third same = (reached_same Q h0 h3 h4 s3 (to3 h1 h2 h3 first second third) same).moments

  pub staged : (h1 h2 h3 h4 : History) → AllReadAnImage (now h3) → h1 ≡ more h0 (Wrote Log (gate + 1) field ∷ []) → h2 ≡ more h1 (Wrote Log (gate + 5) added ∷ []) → h3 ≡ more h2 (Wrote Log (gate + 5 + length added) (0 ∷ []) ∷ []) →
      h4 ≡ more h3 (Synced Log ∷ []) → EachMoment Q h0 h4
  staged h1 h2 h3 h4 reads first second third synced =
      let there = to3 h1 h2 h3 first second third in
      (reached_on Q h0 h3 h4 s3 (Synced Log) there synced (leaves_synced_log (HasFront front) s0 s3 (subst (λ s. ReadsAnImage s.disk) there.state reads.disk) q3)).moments
