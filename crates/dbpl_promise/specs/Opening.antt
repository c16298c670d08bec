-- The stages in which a store is opened, and a program's relation variables are bound to its database.
use Rattle.std.specs.Prelude.{◌≡◌, ◌≢◌, ℕ, IsTrue, List, [], ◌∷◌, None, Some}
use Rattle.dbpl_base.specs.declared.status.Status.{Status}
use Rattle.dbpl_base.specs.declared.status.Status.TheVariants as status
use Rattle.dbpl_log.specs.Records.{HasHead}
use Rattle.dbpl_promise.specs.Faults.{disk_faults}
use Rattle.dbpl_promise.specs.Stages.{Never, Stage, gives, ◌>>=◌}
use Rattle.dbpl_promise.specs.Work.{Work}
use Rattle.dbpl_store.specs.Stands.{stands}
use Rattle.dbpl_value.specs.Binding.{Binds, Differs}
use Rattle.dbpl_value.specs.declared.bound.Bound.{Bound}
use Rattle.dbpl_value.specs.declared.field.Field.{Field}
use Rattle.dbpl_world.specs.History.{Store, now, store_of}

-- the store of this name as it was before
abbrev pub store_before : List ℕ → Work → Store
store_before name work = store_of (now work.before) name

-- ---- a name

-- the name `-` stands for no store
abbrev pub no_store : List ℕ
no_store = 45 ∷ []

abbrev pub IsUnnamed : List ℕ → Work → Status → Type 0
IsUnnamed name work status.NotStore = name ≡ no_store
IsUnnamed name work _ = ⊥

-- THE stage in which a name has to be one of a store
abbrev pub named : List ℕ → Stage (Unit {0})
named name = record { passes = λ work done. name ≢ no_store; refuses = IsUnnamed name; fails = Never; mounts = Never }

-- ---- opening

-- what a read gives of the store stands for this database
abbrev pub StandsAs : List Bound → Store → Type 0
StandsAs database store = stands store.log.now store.pages.now ≡ Some database

-- It has the head of a store, but stands for no database. So far that always shows at page 0.
pub record IsDamaged (store : Store) (page : ℕ) : Type 0 where
  pub head : HasHead store.log.now
  pub none : stands store.log.now store.pages.now ≡ None
  pub first : page ≡ 0

abbrev pub IsUnopened : List ℕ → Work → Status → Type 0
IsUnopened name work status.NotStore = IsTrue work.tells → HasHead (store_before name work).log.now → ⊥
IsUnopened name work (status.Damaged page) = IsTrue work.tells → IsDamaged (store_before name work) page
IsUnopened name work _ = ⊥

-- THE stage in which the store of this name is mounted and opened; it passes with its database
abbrev pub opened : List ℕ → Stage (List Bound)
opened name = record {
  passes = λ work database. IsTrue work.tells → StandsAs database (store_before name work);
  refuses = IsUnopened name;
  fails = disk_faults;
  mounts = λ work mounted. mounted ≡ name;
}

-- ---- binding

abbrev pub IsUnbound : Field → List Bound → Work → Status → Type 0
IsUnbound field database work (status.SchemaDiffers name) = (name ≡ field.name) × Differs field database
IsUnbound field database work _ = ⊥

-- THE stage in which a relation variable is bound to a database; it passes with the database that has it
abbrev pub bound : Field → List Bound → Stage (List Bound)
bound field database = record {
  passes = λ work after. Binds field database after;
  refuses = IsUnbound field database;
  fails = Never;
  mounts = Never;
}

-- THE stage in which these are bound, one after another: the first that can't be is refused
abbrev pub all_bound : List Field → List Bound → Stage (List Bound)
all_bound [] database = gives database
all_bound (field ∷ fields) database = bound field database >>= all_bound fields
