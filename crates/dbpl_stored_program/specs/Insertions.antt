-- What the statement `v :+ S{..}` makes of a relation.
use Rattle.std.specs.Prelude.{ℕ, List, [], ◌∷◌, map, Option, Some, None, Result, Ok, Err}
use Rattle.dbpl_base.specs.declared.place.Place.{Place}
use Rattle.dbpl_stored_program.specs.Sets.{record_of, set_of}
use Rattle.dbpl_stored_program.specs.declared.insertion.Insertion.{Insertion}
use Rattle.dbpl_core.specs.declared.trap.Trap.{Trap}
use Rattle.dbpl_relation.specs.Changes.{changed, everywhere}
use Rattle.dbpl_relation.specs.declared.change_err.ChangeErr.{ChangeErr}
use Rattle.dbpl_relation.specs.declared.change_err.ChangeErr.TheVariants as change_err
use Rattle.dbpl_relation.specs.declared.op.Op.TheVariants as op
use Rattle.dbpl_value.specs.Keys.{parts_of}
use Rattle.dbpl_value.specs.declared.db_type.DbType.{DbType}
use Rattle.dbpl_value.specs.declared.value.Value.{Value}

abbrev pub trap : ℕ → Place → Trap
trap kind place = record { kind = kind; place = place }

-- ---- the set expression

-- A clash of keys in it is a trap of kind 9.
abbrev pub set_or_trap : Place → Option Value → Result Value Trap
set_or_trap place (Some set) = Ok set
set_or_trap place None = Err (trap 9 place)

-- THE value of the right side, or a trap at the set expression
abbrev pub right_side : DbType → Insertion → Result Value Trap
right_side t insertion = set_or_trap insertion.set_place (set_of t (map record_of insertion.rows))

-- ---- the operator

-- the trap of a change that was refused; a change is never refused for want of memory
abbrev pub refusal_kind : ChangeErr → ℕ
refusal_kind (change_err.Clash at) = 9
refusal_kind (change_err.Outside at) = 11
refusal_kind change_err.Memory = 0

abbrev pub changed_or_trap : Place → Result Value ChangeErr → Result Value Trap
changed_or_trap place (Ok relation) = Ok relation
changed_or_trap place (Err refusal) = Err (trap (refusal_kind refusal) place)

-- THE relation with the records of the set in it, or a trap at the operator
abbrev pub with_set : DbType → Place → Value → Value → Result Value Trap
with_set t place relation set = changed_or_trap place (changed t op.Add everywhere (parts_of relation) (parts_of set))

-- ---- statements

abbrev pub and_then : {A B : Type 0} → Result A Trap → (A → Result B Trap) → Result B Trap
and_then (Ok a) next = next a
and_then (Err trap) next = Err trap

-- THE relation after an insertion, or its trap: that of the right side comes first
abbrev pub inserted : DbType → Insertion → Value → Result Value Trap
inserted t insertion relation = and_then (right_side t insertion) (with_set t insertion.place relation)

-- THE relation after these insertions, one after the other, or the first trap
abbrev pub inserted_all : DbType → List Insertion → Value → Result Value Trap
inserted_all t [] relation = Ok relation
inserted_all t (insertion ∷ insertions) relation = and_then (inserted t insertion relation) (inserted_all t insertions)
