-- A type, from all of the bytes of its descriptor.
use Rattle.std.proofs.Common.{◌≡◌, ℕ, ◌&&◌, Bool, true, false, List, [], ◌++◌, Option, Some, sym, ap, ◌∙◌}
use Rattle.std.proofs.lemmas.List.{append-nil}
use Rattle.std.specs.Cmp.{first_so, second_so}
use Rattle.std.specs.Prelude.{nat_le}
use Rattle.dbpl_base.specs.declared.limits.TheConstants.{TYPE_DEPTH}
use Rattle.dbpl_value.specs.Types.{depth_of, is_sound, is_type}
use Rattle.dbpl_value.specs.declared.db_type.DbType.{DbType}
use Rattle.dbpl_codec.proofs.ByteLaws.{IsBytes, some_is}
use Rattle.dbpl_codec.proofs.TypeReadLaws.{type_at-completes}
use Rattle.dbpl_codec.proofs.TypeSound.{type_at-sound}
use Rattle.dbpl_codec.proofs.WholeLaws.{whole_some}
use Rattle.dbpl_codec.specs.Reading.{whole}
use Rattle.dbpl_codec.specs.TypeReading.{type_at}
use Rattle.dbpl_codec.specs.TypeSpelling.{type_bytes, type_fits}

pub type_found :
    (t : DbType) (bytes : List ℕ) → IsBytes bytes → whole (type_at TYPE_DEPTH bytes) ≡ Some t → is_type t ≡ true →
    (is_type t ≡ true) × (type_fits t ≡ true) × (bytes ≡ type_bytes t)
type_found t bytes h read kept =
    let spelled = type_at-sound TYPE_DEPTH bytes t [] h (whole_some (type_at TYPE_DEPTH bytes) t read) in
    (kept, spelled.fit, spelled.parts ∙ append-nil (type_bytes t))

-- a type stands no deeper than it may
type_within : (t : DbType) → is_type t ≡ true → nat_le (depth_of t) TYPE_DEPTH ≡ true
type_within t type =
    second_so (is_sound t) (nat_le (depth_of t) TYPE_DEPTH) (first_so (is_sound t && nat_le (depth_of t) TYPE_DEPTH) _ type)

-- the reading of what a type spells
pub type_read :
    (t : DbType) (bytes : List ℕ) → is_type t ≡ true → type_fits t ≡ true → bytes ≡ type_bytes t →
    whole (type_at TYPE_DEPTH bytes) ≡ Some t
type_read t bytes type fits e =
    ap (λ (bs : List ℕ). whole (type_at TYPE_DEPTH bs)) (e ∙ sym (append-nil (type_bytes t)))
    ∙ ap (λ (r : Option (DbType × List ℕ)). whole r) (type_at-completes TYPE_DEPTH t [] (type_within t type) fits)

-- a type that was read from these bytes is the one that they spell
pub same_type :
    (t u : DbType) (bytes : List ℕ) → whole (type_at TYPE_DEPTH bytes) ≡ Some u → is_type t ≡ true → type_fits t ≡ true →
    bytes ≡ type_bytes t → t ≡ u
same_type t u bytes read type fits e = some_is t u (sym (type_read t bytes type fits e) ∙ read)

-- no descriptor begins another
pub one_type :
    (t u : DbType) (rest other : List ℕ) → is_type t ≡ true → type_fits t ≡ true → is_type u ≡ true → type_fits u ≡ true →
    type_bytes t ++ rest ≡ type_bytes u ++ other → (t ≡ u) × (rest ≡ other)
one_type t u rest other tt ft tu fu e =
    let x : DbType × List ℕ = (t, rest) in
    let y : DbType × List ℕ = (u, other) in
    let both : Some x ≡ Some y =
    sym (type_at-completes TYPE_DEPTH t rest (type_within t tt) ft) ∙ ap (λ (bs : List ℕ). type_at TYPE_DEPTH bs) e
    ∙ type_at-completes TYPE_DEPTH u other (type_within u tu) fu
    in
    let same = some_is x y both in
    (ap (λ (z : DbType × List ℕ). z.0) same, ap (λ (z : DbType × List ℕ). z.1) same)

-- what doesn't keep the rules isn't what a type spells
pub unkept :
    (t u : DbType) (bytes : List ℕ) → whole (type_at TYPE_DEPTH bytes) ≡ Some u → is_type t ≡ true → type_fits t ≡ true →
    bytes ≡ type_bytes t → is_type u ≡ false → ⊥
unkept t u bytes read type fits e h =
    not_both (is_type u) h (ap is_type (sym (same_type t u bytes read type fits e)) ∙ type)
  where
    not_both : (b : Bool) → b ≡ false → b ≡ true → ⊥
    not_both true h g = cc
    not_both false h g = cc
