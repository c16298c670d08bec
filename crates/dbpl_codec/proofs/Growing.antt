-- Bytes that begin with those that stood there before.
use Rattle.std.proofs.Common.{◌≡◌, ℕ, ◌≤◌, List, [], ◌∷◌, ◌++◌, length, take, Result, Ok, Err, OnOk, refl, sym, ap, ◌∙◌, arith}
use Rattle.std.proofs.lemmas.List.{length-take, take-take, take_all}
use Rattle.dbpl_codec.specs.Growth.{Begins}

pub begins-itself : (bytes : List ℕ) → Begins bytes bytes
begins-itself bytes = take_all (length bytes) bytes (omega arith)

pub begins-same : (bytes front : List ℕ) → bytes ≡ front → Begins bytes front
begins-same bytes front e = ap (take (length front)) e ∙ begins-itself front

pub begins-append : (front more : List ℕ) → Begins (front ++ more) front
begins-append [] more = refl
begins-append (x ∷ front) more = ap (λ (xs : List ℕ). x ∷ xs) (begins-append front more)

pub begins-more : (bytes front more : List ℕ) → bytes ≡ front ++ more → Begins bytes front
begins-more bytes front more e = ap (take (length front)) e ∙ begins-append front more

pub begins-then : (bytes middle front : List ℕ) → Begins middle front → Begins bytes middle → Begins bytes front
begins-then bytes middle front h g =
    let short : length front ≤ length middle = omega (arith, length-take (length front) middle, ap (λ (xs : List ℕ). length xs) h) in
    sym (take-take (length front) (length middle) bytes short) ∙ ap (take (length front)) g ∙ h

pub begins-behind :
    (bytes middle front more : List ℕ) → middle ≡ front ++ more → Begins bytes middle → Begins bytes front
begins-behind bytes middle front more e h = begins-then bytes middle front (begins-more middle front more e) h

pub on_ok : {X E P : Type 0} (result : Result X E) → P → OnOk result P
on_ok (Ok x) p = p
on_ok (Err e) p = tt

pub ruleset grows = (begins-same, begins-more, begins-then)
