-- How a `Shared` holds its value, so that a type may lead back to itself through one: it is an `Rc` seen as its value.
use mathlib.Core.Former.{Former, this, const, pair, via}
use mathlib.Core.Path.{◌≡◌, refl}
use base.Fml.{ftrue}
use base.Stored.{gnil}
use denote.RattleType.{RattleType}
use denote.Memory.{part_of}
use denote.RawPtr.{Ptr}
use denote.Sharing.{nothing}
use denote.HoleLaws.{Alike}
use denote.HolePlaces.{Recodes, struct_places, laid, one_value}
use denote.Hole.Fix.{over}
use denote.Param.Weighed.{Weighed}
use denote.Model.Placed.{view_places}
use Rattle.std.specs.declared.alloc.Global.{Global}
use Rattle.std.specs.declared.cmp.PartialEq as eq
use Rattle.std.specs.contracts.alloc.Global as heap
use Rattle.std.specs.contracts.impls.GlobalAllocator.TheImpl.{ghosts}
use Rattle.std.specs.contracts.rc.Rc as rc
use Rattle.std.specs.declared.rc.Rc.{Rc}
use Rattle.dbpl_base.specs.contracts.shared.Shared as row
use Rattle.dbpl_base.specs.contracts.shared.Shared.TheInside as inside
use Rattle.dbpl_base.specs.declared.shared.Shared.TheInside.{Inside}
use Rattle.dbpl_base.specs.declared.shared.Shared.TheView.{view, invariant}

-- what a `Shared` of it is: the value
abbrev pub the_former : Former {0} → Former {0}
the_former value = value

abbrev pub the_weighed : {g : Former {0}} → Weighed g → Weighed (the_former g)
the_weighed weight = weight

-- the struct's one field: a pointer and the value behind it
abbrev fields : Former {0}
fields =
    via (pair (const Ptr) this) Inside (λ X held. (held.inner.ptr, held.inner.value))
    (λ X parts. record { inner = record { ptr = parts.0; value = parts.1 } }) (λ X held. refl) (λ X parts. refl)

-- the same owner of another value
abbrev holding : {X Y : Type 0} → Rc X Global → Y → Rc Y Global
holding owner y = record { ptr = owner.ptr; value = y }

abbrev rc_row : RattleType → RattleType
rc_row R = rc.the_row R heap.the_row ghosts

module _ (R S : RattleType) (h : R.Denot → S.Denot) where
  rc_places : Alike R S h → Alike (rc_row R) (rc_row S) (λ owner. holding owner (h owner.value))
  unfolding part_of
  rc_places alike = record {
    mir_same = λ i. (rc_row (one_value R (alike.mir_same i) (λ _. ftrue) (λ _ _. nothing) gnil)).mir;
    own_same = λ owner i.
        (rc_row (one_value R (alike.mir_same i) (alike.own_same owner.value i) (alike.shr_same owner.value i) gnil)).own_val
        (holding owner tt);
    shr_same = λ owner i.
        (rc_row (one_value R (alike.mir_same i) (alike.own_same owner.value i) (alike.shr_same owner.value i) gnil)).shr_at
        (holding owner tt);
  }

  pub the_places : Alike R S h → Alike (row.the_row R) (row.the_row S) ((the_former this).map R.Denot S.Denot h)
  the_places alike =
      view_places fields this view (λ X Y k held. refl) (λ X held. refl) R.Denot S.Denot h (row.the_row R).coded
      (row.the_row S).coded (invariant R.Denot) (invariant S.Denot) (λ held p q. refl) (λ held p q. refl) (λ held e. tt)
      (λ held e. tt) (over (inside.the_row R)) (over (inside.the_row S))
      (struct_places (inside.the_type R) (inside.the_type S) ((λ owner. holding owner (h owner.value)), tt) _ (λ held. refl) refl
      (laid _ _ _ (rc_places alike), tt))

  pub the_codes_placed : Recodes R S h → Recodes (row.the_row R) (row.the_row S) ((the_former this).map R.Denot S.Denot h)
  the_codes_placed recodes value = recodes value

-- a derived comparison goes through it
pub the_eq_natural : (X Y : Type 0) (h : X → Y) (V : eq.Ghosts Y) (a b : X) → V.eq (h a) (h b) ≡ V.eq (h a) (h b)
the_eq_natural X Y h V a b = refl
