-- What the effects on a store do, one behind the other.
use Rattle.std.proofs.Common.{◌≡◌, ℕ, ◌-◌, List, [], ◌∷◌, ◌++◌, map, take, length, refl, sym, ap, ◌∙◌, append_assoc, length-append, arith}
use Rattle.dbpl_core.proofs.Events.{prints-append, prints-outs}
use Rattle.dbpl_core.specs.Events.{Event, Out, prints}
use Rattle.dbpl_core.specs.Stores.{Store, closes, opens, says}
use Rattle.dbpl_core.specs.declared.cell.Cell.{Cell}

outs-append : (first second : List ℕ) → map Out (first ++ second) ≡ map Out first ++ map Out second
outs-append [] second = refl
outs-append (byte ∷ bytes) second = ap (λ (rest : List Event). Out byte ∷ rest) (outs-append bytes second)

pub says-says : (first second : List ℕ) (store : Store) → says (first ++ second) store ≡ says second (says first store)
unfolding says
says-says first second store =
    ap (λ (events : List Event). record store { events = events })
    (ap (λ (rest : List Event). store.events ++ rest) (outs-append first second)
    ∙ sym (append_assoc store.events (map Out first) (map Out second)))

pub says-prints : (bytes : List ℕ) (store : Store) → prints (says bytes store).events ≡ prints store.events ++ bytes
unfolding says
says-prints bytes store =
    prints-append store.events (map Out bytes) ∙ ap (λ (rest : List ℕ). prints store.events ++ rest) (prints-outs bytes)

-- a list without its last is what stands in front of it
front : {A : Type 0} (xs : List A) (x : A) → take (length xs) (xs ++ x ∷ []) ≡ xs
front [] x = refl
front (y ∷ ys) x = ap (λ rest. y ∷ rest) (front ys x)

pub closes-opens : (frame : List Cell) (store : Store) → closes (opens frame store) ≡ store
unfolding closes opens
closes-opens frame store =
    let long : length (store.frames ++ frame ∷ []) - 1 ≡ length store.frames =
    rw (length-append store.frames (frame ∷ [])) (omega arith) in
    ap (λ (frames : List (List Cell)). record store { frames = frames })
    (ap (λ (n : ℕ). take n (store.frames ++ frame ∷ [])) long ∙ front store.frames frame)
