-- A list of bytes that is moved front by front, one event a byte.
use Rattle.std.proofs.Common.{◌≡◌, ℕ, ◌+◌, ◌-◌, ◌<◌, ◌≤◌, min, List, [], ◌∷◌, map, length, take, drop, get_or, refl, ap, sym, ◌∙◌, arith, drop-cons}
use Rattle.std.proofs.lemmas.List.{map-append}
use Rattle.std.proofs.lemmas.Grind.{common_steps}
use Rattle.std.proofs.Math.Seq.{take-add}
use Rattle.dbpl_world.specs.History.{Event, History, more}
use Rattle.dbpl_world.proofs.Replays.{more-more}

pub one_byte : (bytes : List ℕ) (i : ℕ) → i < length bytes → get_or bytes i 0 ∷ [] ≡ take 1 (drop i bytes)
one_byte bytes i within = rw (drop-cons bytes i 0) refl

pub take-take : (n k : ℕ) (bytes : List ℕ) → take n (take k bytes) ≡ take (min n k) bytes
take-take n k bytes = grind (arith, common_steps)

pub take_of_take : {A : Type 0} (n k : ℕ) (items : List A) → n ≤ k → take n (take k items) ≡ take n items
take_of_take n k items shorter = grind (arith, common_steps)

-- after a front of the bytes, a front of a piece of the rest
pub adds_more : (event : ℕ → Event) (bytes : List ℕ) (done k n : ℕ) (piece : List ℕ) (old mid new : History) → piece ≡ take k (drop done bytes) → mid ≡ more old (map event (take done bytes)) → new ≡ more mid (map event (take n piece)) → new ≡ more old (map event (take (done + min n k) bytes))
adds_more event bytes done k n piece old mid new of_rest first second = second
    ∙ ap (λ p. more mid (map event (take n p))) of_rest
    ∙ ap (λ p. more mid (map event p)) (take-take n k (drop done bytes))
    ∙ ap (λ h. more h (map event (take (min n k) (drop done bytes)))) first
    ∙ more-more old (map event (take done bytes)) (map event (take (min n k) (drop done bytes)))
    ∙ ap (more old) (sym (map-append event (take done bytes) (take (min n k) (drop done bytes))) ∙ ap (map event) (sym (take-add done (min n k) bytes)))

pub moved_within : (bytes : List ℕ) (done n : ℕ) → done ≤ length bytes → n ≤ length (take (length bytes - done) (drop done bytes)) → done + n ≤ length bytes
moved_within bytes done n before moved = grind (arith, common_steps)
