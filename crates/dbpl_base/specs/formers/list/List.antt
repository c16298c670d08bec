-- How a `List` holds its items, so that a type may lead back to itself through one: it is a `Vec` seen as a list.
use mathlib.Core.Path.{◌≡◌, refl, sym}
use mathlib.Core.List.{List as Seq, []}
use mathlib.Core.Former.{Former, this, list, via, children}
use base.Stored.{code_map}
use denote.RattleType.{RattleType}
use denote.HoleLaws.{Alike}
use denote.HolePlaces.{Recodes, struct_places, laid}
use denote.Hole.Carrier.{listed, list-listed}
use denote.Hole.Fix.{over}
use denote.Param.Weighed.{Weighed, w_list}
use denote.Model.Placed.{view_places}
use Rattle.std.specs.declared.alloc.Global.{Global}
use Rattle.std.specs.contracts.alloc.Global as heap
use Rattle.std.specs.contracts.impls.GlobalAllocator.TheImpl.{ghosts}
use Rattle.std.specs.formers.vec.Vec as vec
use Rattle.dbpl_base.specs.contracts.list.List as row
use Rattle.dbpl_base.specs.contracts.list.List.TheInside as inside
use Rattle.dbpl_base.specs.declared.list.List.TheInside.{Inside}
use Rattle.dbpl_base.specs.declared.list.List.TheView.{view, invariant}

-- what a `List` of them is: a list
abbrev pub the_former : Former {0} → Former {0}
the_former items = list items

abbrev pub the_weighed : {g : Former {0}} → Weighed g → Weighed (the_former g)
the_weighed weights = w_list weights

abbrev pub the_items : (X : Type 0) → Seq X → Seq X
the_items X items = items

pub the_items_listed : (X : Type 0) (items : Seq X) → listed _ (children (the_former this) X items) ≡ the_items X items
the_items_listed X items = list-listed X items

-- a list that is empty holds nothing, so a type that leads back through one has a value
pub the_empty : Seq ⊥
the_empty = []

-- the struct's one field, by which its fields are a `Vec`
abbrev fields : Former {0}
fields =
    via (vec.the_former this Global) Inside (λ X held. held.items) (λ X items. record { items = items }) (λ X held. refl)
    (λ X items. refl)

module _ (R S : RattleType) (h : R.Denot → S.Denot) where
  -- a list at either type is laid out, owned and lent alike
  pub the_places : Alike R S h → Alike (row.the_row R) (row.the_row S) ((the_former this).map R.Denot S.Denot h)
  the_places alike =
      view_places fields (list this) view (λ X Y k held. refl) (λ X held. refl) R.Denot S.Denot h (row.the_row R).coded
      (row.the_row S).coded (invariant R.Denot) (invariant S.Denot) (λ held p q. refl) (λ held p q. refl) (λ held e. tt)
      (λ held e. tt) (over (inside.the_row R)) (over (inside.the_row S))
      (struct_places (inside.the_type R) (inside.the_type S) (vec.mapped h, tt) _ (λ items. refl) refl
      (laid _ _ _ (vec.the_places heap.the_row ghosts R S h alike), tt))

  pub the_codes_placed : Recodes R S h → Recodes (row.the_row R) (row.the_row S) ((the_former this).map R.Denot S.Denot h)
  the_codes_placed recodes items = sym (code_map R.coded.code S.coded.code h (λ x. sym (recodes x)) items)
