-- What the statements `:=`, `:+`, `:-` and `:&` make of a relation, plain and through a selector. Without a selector
-- every record is inside.
use Rattle.std.specs.Prelude.{◌≡◌, ℕ, Bool, true, false, not, ◌&&◌, if◌then◌else◌, List, map, Option, Some, None, unwrap_or, Result, Ok, Err}
use Rattle.std.specs.Borrow.{Bor}
use Rattle.std.specs.Fn.{FnReturnsAt, Shared}
use Rattle.std.specs.List.{filter, list_any, position}
use Rattle.dbpl_value.specs.Keys.{key_of}
use Rattle.dbpl_value.specs.declared.db_type.DbType.{DbType}
use Rattle.dbpl_value.specs.declared.value.Value.{Value}
use Rattle.dbpl_value.specs.declared.value.Value.TheVariants as value
use Rattle.dbpl_value.specs.Equality.{is_same}
use Rattle.dbpl_relation.specs.Relations.{have_one_key, is_among, merged, record_with}
use Rattle.dbpl_relation.specs.declared.change_err.ChangeErr.{ChangeErr}
use Rattle.dbpl_relation.specs.declared.change_err.ChangeErr.TheVariants as change_err
use Rattle.dbpl_relation.specs.declared.op.Op.{Op}
use Rattle.dbpl_relation.specs.declared.op.Op.TheVariants as op

-- every record is inside
abbrev pub everywhere : Value → Bool
everywhere element = true

-- ---- the new records

-- `:=`: the records outside, and those of the right side in the place of those inside
abbrev pub set : DbType → (Value → Bool) → List Value → List Value → List Value
set t inside records others = merged t (filter (λ element. not (inside element)) records) others

-- `:+`: the records of both
abbrev pub added : DbType → List Value → List Value → List Value
added t records others = merged t records others

-- `:-`: the records but for those inside that are equal to one of the right side
abbrev pub removed : (Value → Bool) → List Value → List Value → List Value
removed inside records others = filter (λ element. not (inside element && is_among others element)) records

-- `:&`: each record inside whose key occurs on the right side gives way to the one there
abbrev pub replacement : DbType → (Value → Bool) → List Value → Value → Value
replacement t inside others element =
    if inside element then unwrap_or (record_with t (key_of t element) others) element else element

abbrev pub replaced : DbType → (Value → Bool) → List Value → List Value → List Value
replaced t inside records others = map (replacement t inside others) records

abbrev pub after : DbType → Op → (Value → Bool) → List Value → List Value → List Value
after t op.Set inside records others = set t inside records others
after t op.Add inside records others = added t records others
after t op.Remove inside records others = removed inside records others
after t op.Replace inside records others = replaced t inside records others

-- ---- refusals

-- For `:=`, a record outside has the key of this one. For `:+`, a different record has it.
abbrev pub clashes : DbType → Op → (Value → Bool) → List Value → Value → Bool
clashes t op.Set inside records other = list_any (λ element. have_one_key t other element && not (inside element)) records
clashes t op.Add inside records other =
    list_any (λ element. have_one_key t other element && not (is_same element other)) records
clashes t _ inside records other = false

abbrev pub unless : {A : Type 0} → Option ℕ → (ℕ → ChangeErr) → Result A ChangeErr → Result A ChangeErr
unless None refusal result = result
unless (Some at) refusal result = Err (refusal at)

-- the relation after the statement where every record of the right side is inside, or Clash at the first that clashes
abbrev pub changed_inside : DbType → Op → (Value → Bool) → List Value → List Value → Result Value ChangeErr
changed_inside t op inside records others =
    unless (position (clashes t op inside records) others) change_err.Clash
    (Ok (value.Rel (after t op inside records others)))

-- THE relation after the statement, or the refusal: Outside at the first record of the right side that isn't inside,
-- and else Clash at the first that clashes
abbrev pub changed : DbType → Op → (Value → Bool) → List Value → List Value → Result Value ChangeErr
changed t op inside records others =
    unless (position (λ other. not (inside other)) others) change_err.Outside
    (changed_inside t op inside records others)

-- each call of the closure answers what the test gives
abbrev pub Computes : {F : Type 0} → Shared F (Bor Value × Unit {0}) Bool → (Value → Bool) → F → Type 0
Computes {F} g test f = (x : Value) (answer : Bool) → FnReturnsAt g f x answer → answer ≡ test x
