-- The type of a key field, found by its name.
use Rattle.std.proofs.Common.{◌≡◌, ◌+◌, ◌<◌, ℕ, true, false, List, length, drop, get_or, refl, add-one, drop-cons}
use Rattle.dbpl_value.specs.Types.{is_same_name}
use Rattle.dbpl_value.specs.declared.db_type.DbType.{DbType}
use Rattle.dbpl_value.specs.declared.field.Field.{Field}
use Rattle.dbpl_value.specs.Types.{type_named}

pub type_named-here :
    (t : DbType) (fields : List Field) (name : List ℕ) (i : ℕ) (field : Field) → i < length fields →
    field ≡ get_or fields i field → is_same_name field.name name ≡ true → type_named t (drop i fields) name ≡ field.kind
type_named-here t fields name i field h e same = rw (drop-cons fields i field, ← e, same) refl

pub type_named-later :
    (t : DbType) (fields : List Field) (name : List ℕ) (i : ℕ) (field : Field) → i < length fields →
    field ≡ get_or fields i field → is_same_name field.name name ≡ false →
    type_named t (drop i fields) name ≡ type_named t (drop (i + 1) fields) name
type_named-later t fields name i field h e other = rw (drop-cons fields i field, ← e, other, add-one) refl
