-- A call that is added to the record adds its events.
use Rattle.std.proofs.Common.{◌≡◌, ℕ, ◌+◌, ◌≤◌, List, [], ◌∷◌, ◌++◌, length, take, drop, ap, sym, ◌∙◌, arith, append_assoc, length-drop, append-nil}
use Rattle.std.proofs.lemmas.List.{take-append-le, drop-append-le}
use Rattle.std.proofs.Math.Seq.{take-length}
use Rattle.dbpl_world.specs.declared.made_call.MadeCall.{MadeCall}
use Rattle.dbpl_world.specs.Calls.{bytes_of, events_of, events_in, total_bytes}

pub total_bytes-append : (calls : List MadeCall) (made : MadeCall) → total_bytes (calls ++ made ∷ []) ≡ total_bytes calls + bytes_of made.call
total_bytes-append [] made = omega arith
total_bytes-append (first ∷ calls) made = omega (arith, total_bytes-append calls made)

one_call : (made : MadeCall) (moved : List ℕ) → bytes_of made.call ≡ length moved → events_of made.call (take (bytes_of made.call) moved) ++ [] ≡ events_of made.call moved
one_call made moved fits = append-nil _ ∙ ap (λ n. events_of made.call (take n moved)) fits ∙ ap (events_of made.call) (take-length moved)

pub events_in-append : (calls : List MadeCall) (made : MadeCall) (bytes moved : List ℕ) → total_bytes calls ≡ length bytes → bytes_of made.call ≡ length moved → events_in (calls ++ made ∷ []) (bytes ++ moved) ≡ events_in calls bytes ++ events_of made.call moved
events_in-append [] made [] moved whole fits = one_call made moved fits
events_in-append [] made (byte ∷ bytes) moved whole fits = absurd (omega arith)
events_in-append (first ∷ calls) made bytes moved whole fits =
    let within : bytes_of first.call ≤ length bytes = omega arith in
    let rest : total_bytes calls ≡ length (drop (bytes_of first.call) bytes) = omega (arith, length-drop (bytes_of first.call) bytes) in
    rw (take-append-le (bytes_of first.call) bytes moved within, drop-append-le (bytes_of first.call) bytes moved within, events_in-append calls made (drop (bytes_of first.call) bytes) moved rest fits)
    (sym (append_assoc (events_of first.call (take (bytes_of first.call) bytes)) (events_in calls (drop (bytes_of first.call) bytes)) (events_of made.call moved)))
