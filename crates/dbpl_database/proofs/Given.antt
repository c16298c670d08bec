-- What reading gave is what the definition gives.
use Rattle.std.proofs.Common.{◌≡◌, ◌≢◌, ◌&&◌, ℕ, Bool, true, false, List, [], ◌++◌, Option, Some, None, Result, Ok, Err, refl, ap, subst, ◌∙◌}
use Rattle.std.specs.Prelude.{IfOk}
use Rattle.dbpl_codec.proofs.ByteLaws.{IsBytes}
use Rattle.dbpl_codec.specs.Numbers.{count_fits}
use Rattle.dbpl_codec.specs.Reading.{Gives}
use Rattle.dbpl_codec.specs.TypeSpelling.{type_bytes, type_fits}
use Rattle.dbpl_codec.specs.ValueSpelling.{bytes_of, value_fits}
use Rattle.dbpl_codec.specs.declared.read_err.ReadErr.{ReadErr}
use Rattle.dbpl_codec.specs.declared.read_err.ReadErr.TheVariants as errors
use Rattle.dbpl_database.proofs.BoundLaws.{type_in-completes, type_in-sound, value_in-completes, value_in-sound}
use Rattle.dbpl_value.specs.Databases.{are_small, is_bound, is_kept_name, is_kept_type}
use Rattle.dbpl_database.specs.Reading.{type_in, value_in}
use Rattle.dbpl_value.specs.Types.{is_type}
use Rattle.dbpl_value.specs.Values.{is_of}
use Rattle.dbpl_value.specs.declared.bound.Bound.{Bound}
use Rattle.dbpl_value.specs.declared.db_type.DbType.{DbType}
use Rattle.dbpl_value.specs.declared.value.Value.{Value}

pub type_given :
    (bytes : List ℕ) (result : Result DbType ReadErr) → IsBytes bytes →
    IfOk result (λ t. (is_type t ≡ true) × (type_fits t ≡ true) × (bytes ≡ type_bytes t)) →
    ((t : DbType) → is_type t ≡ true → type_fits t ≡ true → bytes ≡ type_bytes t → Gives (λ u. u) result (Some t)) →
    Gives (λ t. t) result (type_in bytes)
type_given bytes (Ok t) h found only = ap type_in found.2 ∙ type_in-completes t found.0 found.1
type_given bytes (Err e) h found only = by_read (type_in bytes) refl
  where
    by_read : (read : Option DbType) → type_in bytes ≡ read → e ≢ errors.Memory → read ≡ None
    by_read None same ne = refl
    by_read (Some t) same ne = let spelt = type_in-sound bytes t h same in only t spelt.0 spelt.1 spelt.2 ne

pub value_given :
    (t : DbType) (bytes : List ℕ) (result : Result Value ReadErr) → IsBytes bytes → is_type t ≡ true →
    IfOk result (λ v. (is_of t v ≡ true) × (value_fits t v ≡ true) × (bytes ≡ bytes_of t v)) →
    ((v : Value) → is_of t v ≡ true → value_fits t v ≡ true → bytes ≡ bytes_of t v → Gives (λ w. w) result (Some v)) →
    Gives (λ v. v) result (value_in t bytes)
value_given t bytes (Ok v) h type found only =
    ap (λ (bs : List ℕ). value_in t bs) found.2 ∙ value_in-completes t v type found.0 found.1
value_given t bytes (Err e) h type found only = by_read (value_in t bytes) refl
  where
    by_read : (read : Option Value) → value_in t bytes ≡ read → e ≢ errors.Memory → read ≡ None
    by_read None same ne = refl
    by_read (Some v) same ne = let spelt = value_in-sound t bytes v h same in only v spelt.0 spelt.1 spelt.2 ne

-- what is left to be tested of a relation variable with a type and a relation of it
pub bound_given :
    (bound : Bound) → is_type bound.kind ≡ true → is_of bound.kind bound.rel ≡ true →
    is_bound bound ≡ (is_kept_name bound.name && is_kept_type bound.kind && are_small bound.kind bound.rel)
bound_given bound type of =
    rw (type, of) (by_tests (is_kept_name bound.name) (is_kept_type bound.kind) (are_small bound.kind bound.rel))
  where
    by_tests : (named typed small : Bool) → (named && true && typed && true && small) ≡ (named && typed && small)
    by_tests true true small = refl
    by_tests true false small = refl
    by_tests false typed small = refl

-- what was written alone, and read again behind its number
pub alone_fits :
    (text items before spelling : List ℕ) → count_fits text ≡ true → text ≡ items → items ≡ before ++ spelling →
    before ≡ [] → count_fits spelling ≡ true
alone_fits text items before spelling fits same written empty =
    subst (λ (bs : List ℕ). count_fits bs ≡ true) (same ∙ written ∙ ap (λ (front : List ℕ). front ++ spelling) empty) fits
