-- What two lists of events do, one behind the other.
use Rattle.std.proofs.Common.{◌≡◌, ℕ, List, [], ◌∷◌, ◌++◌, ap, map, refl}
use Rattle.dbpl_core.specs.Events.{Commit, Event, Out, last, prints}
use Rattle.dbpl_value.specs.declared.bound.Bound.{Bound}

pub prints-append : (events others : List Event) → prints (events ++ others) ≡ prints events ++ prints others
prints-append [] others = refl
prints-append (Out byte ∷ events) others = ap (λ rest. byte ∷ rest) (prints-append events others)
prints-append (Commit database ∷ events) others = prints-append events others

pub last-append :
    (events others : List Event) (database : List Bound) → last (events ++ others) database ≡ last others (last events database)
last-append [] others database = refl
last-append (Out byte ∷ events) others database = last-append events others database
last-append (Commit committed ∷ events) others database = last-append events others committed

pub prints-outs : (bytes : List ℕ) → prints (map Out bytes) ≡ bytes
prints-outs [] = refl
prints-outs (byte ∷ bytes) = ap (λ rest. byte ∷ rest) (prints-outs bytes)

pub last-outs : (bytes : List ℕ) (database : List Bound) → last (map Out bytes) database ≡ database
last-outs [] database = refl
last-outs (byte ∷ bytes) database = last-outs bytes database
