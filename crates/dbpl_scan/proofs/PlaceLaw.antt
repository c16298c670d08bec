-- Places behind bytes: one byte after another, and how far they can be.
use Rattle.std.proofs.Common.{◌≡◌, ℕ, ◌+◌, ◌≤◌, ◌<◌, List, [], ◌∷◌, ◌++◌, length, take, get_or, refl, sym, ap, ◌∙◌, add-one, arith}
use Rattle.std.specs.Prelude.{◌==◌}
use Rattle.std.proofs.Math.Seq.{take-suc}
use Rattle.std.proofs.lemmas.Bool.{cond_both}
use Rattle.std.proofs.lemmas.List.{length-take-le}
use Rattle.dbpl_base.specs.Places.{place_after, place_behind}
use Rattle.dbpl_base.specs.declared.place.Place.{Place}

pub place_after-append : (place : Place) (bytes more : List ℕ) → place_after place (bytes ++ more) ≡ place_after (place_after place bytes) more
place_after-append place [] more = refl
place_after-append place (byte ∷ bytes) more = place_after-append (place_behind place byte) bytes more

-- one byte more
pub place_step : (place there : Place) (bytes : List ℕ) (i byte : ℕ) → i < length bytes → get_or bytes i 0 ≡ byte → there ≡ place_after place (take i bytes) → place_behind there byte ≡ place_after place (take (i + 1) bytes)
place_step place there bytes i byte within is h =
    let front : take (i + 1) bytes ≡ take i bytes ++ byte ∷ [] = ap (λ (n : ℕ). take n bytes) (add-one i) ∙ take-suc bytes i 0 within ∙ ap (λ (b : ℕ). take i bytes ++ b ∷ []) is in
    ap (λ (p : Place). place_behind p byte) h ∙ sym (place_after-append place (take i bytes) (byte ∷ [])) ∙ ap (λ (bs : List ℕ). place_after place bs) (sym front)

-- a place, at most so far from another
pub record IsNear (place there : Place) (count : ℕ) : Type 0 where
  pub line : there.line ≤ place.line + count
  pub col : there.col ≤ place.col + count
  pub counted : 1 ≤ there.col

near_behind : (place there : Place) (count byte : ℕ) → 1 ≤ place.col → IsNear place there count → IsNear place (place_behind there byte) (count + 1)
near_behind place there count byte start h =
    cond_both (byte == 10) (record { unit = there.unit; line = there.line + 1; col = 1 }) (record { unit = there.unit; line = there.line; col = there.col + 1 }) (λ (p : Place). IsNear place p (count + 1)) (λ _. record { line = omega (arith, h.line); col = omega (arith, start); counted = omega arith }) (λ _. record { line = omega (arith, h.line); col = omega (arith, h.col); counted = omega arith })

near_after : (place there : Place) (count : ℕ) (bytes : List ℕ) → 1 ≤ place.col → IsNear place there count → IsNear place (place_after there bytes) (count + length bytes)
near_after place there count [] start h = record { line = omega (arith, h.line); col = omega (arith, h.col); counted = h.counted }
near_after place there count (byte ∷ bytes) start h =
    let later = near_after place (place_behind there byte) (count + 1) bytes start (near_behind place there count byte start h) in
    record { line = omega (arith, later.line); col = omega (arith, later.col); counted = later.counted }

-- a place is at most as far as there are bytes
pub place_near : (place : Place) (bytes : List ℕ) → 1 ≤ place.col → IsNear place (place_after place bytes) (length bytes)
place_near place bytes start =
    let far = near_after place place 0 bytes start (record { line = omega arith; col = omega arith; counted = start }) in
    record { line = omega (arith, far.line); col = omega (arith, far.col); counted = far.counted }

pub near_front : (place : Place) (bytes : List ℕ) (i : ℕ) → 1 ≤ place.col → i ≤ length bytes → IsNear place (place_after place (take i bytes)) i
near_front place bytes i start within =
    let far = place_near place (take i bytes) start in
    let count : length (take i bytes) ≡ i = length-take-le i bytes within in
    record { line = omega (arith, far.line, count); col = omega (arith, far.col, count); counted = far.counted }
