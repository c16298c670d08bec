-- A database with a program's relation variables, by what it was before: the variable is there, absent, or of another type.
use Rattle.std.proofs.Common.{◌≡◌, ◌≢◌, ◌⊎◌, Bool, true, false, if◌then◌else◌, inl, inr, List, [], ◌∷◌, Option, Some, None, refl, sym, ap, ◌∙◌}
use Rattle.dbpl_value.proofs.Options.{some_is}
use Rattle.std.specs.Option.{option_and_then}
use Rattle.dbpl_value.proofs.SameTypes.{is_same_type-equal, is_same_type-own}
use Rattle.dbpl_value.specs.Binding.{Binds, BindsAll, Differs, all_bound_to, bound_beside, bound_named, bound_to, empty_bound, with_bound}
use Rattle.dbpl_value.specs.Equality.{is_same_type}
use Rattle.dbpl_value.specs.declared.bound.Bound.{Bound}
use Rattle.dbpl_value.specs.declared.field.Field.{Field}

-- the name is there with another type
abbrev pub HasOtherType : Field → List Bound → Type 0
HasOtherType field database = (bound : Bound) × (bound_named field.name database ≡ Some bound) × (bound.kind ≢ field.kind)

-- the name is there with this type
abbrev pub IsThere : Field → List Bound → Type 0
IsThere field database = (bound : Bound) × (bound_named field.name database ≡ Some bound) × (bound.kind ≡ field.kind)

module _ (field : Field) (database : List Bound) where
  beside : (found : Option Bound) → bound_named field.name database ≡ found → bound_to field database ≡ bound_beside field database found
  beside found e = ap (bound_beside field database) e

  -- ---- a database that binds

  pub binds-there : IsThere field database → Binds field database database
  binds-there there =
      let same : is_same_type there.0.kind field.kind ≡ true =
      ap (is_same_type there.0.kind) (sym there.2) ∙ is_same_type-own there.0.kind
      in
      beside (Some there.0) there.1 ∙ rw same refl

  pub binds-absent : bound_named field.name database ≡ None → Binds field database (with_bound (empty_bound field) database)
  binds-absent none = beside None none

  by_found :
      (found : Option Bound) → bound_named field.name database ≡ found → (after : List Bound) →
      bound_beside field database found ≡ Some after →
      (IsThere field database × (after ≡ database))
      ⊎ ((bound_named field.name database ≡ None) × (after ≡ with_bound (empty_bound field) database))
  by_found None e after binds = inr (e, sym (some_is (with_bound (empty_bound field) database) after binds))
  by_found (Some bound) e after binds = by_type (is_same_type bound.kind field.kind) refl binds
    where
      by_type :
          (same : Bool) → is_same_type bound.kind field.kind ≡ same → (if same then Some database else None) ≡ Some after →
          (IsThere field database × (after ≡ database))
          ⊎ ((bound_named field.name database ≡ None) × (after ≡ with_bound (empty_bound field) database))
      by_type true same is =
          inl ((bound, e, is_same_type-equal bound.kind field.kind same), sym (some_is database after is))
      by_type false same is = cc

  pub binds-cases :
      (after : List Bound) → Binds field database after →
      (IsThere field database × (after ≡ database))
      ⊎ ((bound_named field.name database ≡ None) × (after ≡ with_bound (empty_bound field) database))
  binds-cases after binds = by_found (bound_named field.name database) refl after binds

  -- there is one such database at most
  pub binds-one : (after other : List Bound) → Binds field database after → Binds field database other → after ≡ other
  binds-one after other one two = some_is after other (sym one ∙ two)

  -- ---- a database that doesn't

  pub differs-where : HasOtherType field database → Differs field database
  differs-where other = beside (Some other.0) other.1 ∙ by_type (is_same_type other.0.kind field.kind) refl
    where
      by_type :
          (same : Bool) → is_same_type other.0.kind field.kind ≡ same →
          bound_beside field database (Some other.0) ≡ None
      by_type true same = absurd (other.2 (is_same_type-equal other.0.kind field.kind same))
      by_type false same = rw same refl

  differs_found :
      (found : Option Bound) → bound_named field.name database ≡ found → bound_beside field database found ≡ None →
      HasOtherType field database
  differs_found None e differs = cc
  differs_found (Some bound) e differs = (bound, e, λ same. by_type (is_same_type-own bound.kind) same differs)
    where
      by_type :
          is_same_type bound.kind bound.kind ≡ true → bound.kind ≡ field.kind →
          bound_beside field database (Some bound) ≡ None → ⊥
      by_type own same differs =
          let passes : is_same_type bound.kind field.kind ≡ true = ap (is_same_type bound.kind) (sym same) ∙ own in
          let is : Some database ≡ None = sym (rw passes refl) ∙ differs in
          cc

  pub differs-other : Differs field database → HasOtherType field database
  differs-other differs = differs_found (bound_named field.name database) refl differs

  pub differs-not_binds : (after : List Bound) → Differs field database → Binds field database after → ⊥
  differs-not_binds after differs binds = let both = sym binds ∙ differs in cc

-- ---- several variables

pub binds_all-more :
    (field : Field) (fields : List Field) (database between after : List Bound) → Binds field database between →
    BindsAll fields between after → BindsAll (field ∷ fields) database after
binds_all-more field fields database between after first others = rw first others

pub binds_all-first :
    (field : Field) (fields : List Field) (database after : List Bound) → BindsAll (field ∷ fields) database after →
    (between : List Bound) × Binds field database between × BindsAll fields between after
binds_all-first field fields database after all = by_first (bound_to field database) refl all
  where
    by_first :
        (first : Option (List Bound)) → bound_to field database ≡ first →
        option_and_then (all_bound_to fields) first ≡ Some after →
        (between : List Bound) × Binds field database between × BindsAll fields between after
    by_first None e is = cc
    by_first (Some between) e is = (between, e, is)

-- one variable alone
pub binds_all-one : (field : Field) (database after : List Bound) → Binds field database after → BindsAll (field ∷ []) database after
binds_all-one field database after binds = binds_all-more field [] database after after binds refl
