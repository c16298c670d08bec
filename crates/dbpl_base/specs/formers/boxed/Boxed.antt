-- How a `Boxed` holds its value, so that a type may lead back to itself through one: it is a `Box` seen as its value.
use mathlib.Core.Former.{Former, this, const, pair, via}
use mathlib.Core.Path.{refl}
use base.Fml.{ftrue}
use base.Stored.{gnil}
use denote.RattleType.{RattleType}
use denote.Memory.{part_of}
use denote.RawPtr.{Ptr}
use denote.Sharing.{nothing}
use denote.HoleLaws.{Alike}
use denote.HolePlaces.{Recodes, struct_places, laid, one_value}
use denote.Hole.Fix.{over}
use denote.Param.Weighed.{Weighed}
use denote.Model.Placed.{view_places}
use Rattle.std.specs.declared.alloc.Global.{Global}
use Rattle.std.specs.contracts.alloc.Global as heap
use Rattle.std.specs.contracts.impls.GlobalAllocator.TheImpl.{ghosts}
use Rattle.std.specs.contracts.boxed.Box as box
use Rattle.std.specs.declared.boxed.Box.{Box}
use Rattle.dbpl_base.specs.contracts.boxed.Boxed as row
use Rattle.dbpl_base.specs.contracts.boxed.Boxed.TheInside as inside
use Rattle.dbpl_base.specs.declared.boxed.Boxed.TheInside.{Inside}
use Rattle.dbpl_base.specs.declared.boxed.Boxed.TheView.{view, invariant}

-- what a `Boxed` of it is: the value
abbrev pub the_former : Former {0} → Former {0}
the_former value = value

abbrev pub the_weighed : {g : Former {0}} → Weighed g → Weighed (the_former g)
the_weighed weight = weight

-- the struct's one field: a pointer, an allocator and the value behind them
abbrev fields : Former {0}
fields =
    via (pair (const (Ptr × Global)) this) Inside (λ X held. ((held.inner.ptr, held.inner.alloc), held.inner.value))
    (λ X parts. record { inner = record { ptr = parts.0.0; alloc = parts.0.1; value = parts.1 } }) (λ X held. refl)
    (λ X parts. refl)

-- the same box with another value in it
abbrev holding : {X Y : Type 0} → Box X Global → Y → Box Y Global
holding b y = record { ptr = b.ptr; alloc = b.alloc; value = y }

abbrev box_row : RattleType → RattleType
box_row R = box.the_row R heap.the_row ghosts

module _ (R S : RattleType) (h : R.Denot → S.Denot) where
  box_places : Alike R S h → Alike (box_row R) (box_row S) (λ b. holding b (h b.value))
  unfolding part_of
  box_places alike = record {
    mir_same = λ i. (box_row (one_value R (alike.mir_same i) (λ _. ftrue) (λ _ _. nothing) gnil)).mir;
    own_same = λ b i.
        (box_row (one_value R (alike.mir_same i) (alike.own_same b.value i) (alike.shr_same b.value i) gnil)).own_val
        (holding b tt);
    shr_same = λ b i.
        (box_row (one_value R (alike.mir_same i) (alike.own_same b.value i) (alike.shr_same b.value i) gnil)).shr_at
        (holding b tt);
  }

  pub the_places : Alike R S h → Alike (row.the_row R) (row.the_row S) ((the_former this).map R.Denot S.Denot h)
  the_places alike =
      view_places fields this view (λ X Y k held. refl) (λ X held. refl) R.Denot S.Denot h (row.the_row R).coded
      (row.the_row S).coded (invariant R.Denot) (invariant S.Denot) (λ held p q. refl) (λ held p q. refl) (λ held e. tt)
      (λ held e. tt) (over (inside.the_row R)) (over (inside.the_row S))
      (struct_places (inside.the_type R) (inside.the_type S) ((λ b. holding b (h b.value)), tt) _ (λ held. refl) refl
      (laid _ _ _ (box_places alike), tt))

  pub the_codes_placed : Recodes R S h → Recodes (row.the_row R) (row.the_row S) ((the_former this).map R.Denot S.Denot h)
  the_codes_placed recodes value = recodes value
