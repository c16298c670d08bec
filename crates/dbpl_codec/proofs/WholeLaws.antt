-- A value, from all of the bytes.
use Rattle.std.proofs.Common.{◌≡◌, ℕ, true, if◌then◌else◌, List, [], ◌∷◌, ◌++◌, Option, Some, None, Result, Ok, Err, refl, sym, ap, subst, ◌∙◌}
use Rattle.std.proofs.lemmas.List.{append-nil}
use Rattle.std.specs.Cmp.{first_so}
use Rattle.std.specs.Prelude.{IfOk}
use Rattle.dbpl_value.specs.Types.{is_none_left, is_sound, is_type}
use Rattle.dbpl_value.specs.Values.{is_of}
use Rattle.dbpl_value.specs.declared.db_type.DbType.{DbType}
use Rattle.dbpl_value.specs.declared.value.Value.{Value}
use Rattle.dbpl_codec.proofs.ByteLaws.{IsBytes, some_is}
use Rattle.dbpl_codec.proofs.CompleteLaws.{reads-complete}
use Rattle.dbpl_codec.proofs.ValueLaws.{reads-sound}
use Rattle.dbpl_codec.specs.declared.read_err.ReadErr.{ReadErr}
use Rattle.dbpl_codec.specs.Reading.{Gives, reads, whole}
use Rattle.dbpl_codec.specs.ValueSpelling.{bytes_of, value_fits}

-- all of the bytes were read
pub whole_some :
    {A : Type 0} (read : Option (A × List ℕ)) (y : A) → whole read ≡ Some y → read ≡ Some (y, [])
whole_some None y e = absurd cc
whole_some (Some x) y e = by_rest x.1 refl e
  where
    by_rest : (rest : List ℕ) → x.1 ≡ rest → (if is_none_left rest then Some x.0 else None) ≡ Some y → Some x ≡ Some (y, [])
    by_rest [] left f =
        let first : x.0 ≡ y = some_is x.0 y f in
        λ i. Some (first i, left i)
    by_rest (b ∷ rest) left f = absurd cc

pub value_found :
    (t : DbType) (bytes : List ℕ) (result : Result Value ReadErr) → IsBytes bytes →
    Gives (λ v. v) result (whole (reads t bytes)) →
    IfOk result (λ v. (is_of t v ≡ true) × (value_fits t v ≡ true) × (bytes ≡ bytes_of t v))
value_found t bytes (Ok v) h given =
    let spelled = reads-sound t bytes v [] h (whole_some (reads t bytes) v given) in
    (spelled.sort, spelled.fit, spelled.parts ∙ append-nil (bytes_of t v))
value_found t bytes (Err e) h given = tt

pub value_only :
    (t : DbType) (bytes : List ℕ) (result : Result Value ReadErr) → Gives (λ v. v) result (whole (reads t bytes)) →
    is_type t ≡ true → (v : Value) → is_of t v ≡ true → value_fits t v ≡ true → bytes ≡ bytes_of t v →
    Gives (λ w. w) result (Some v)
value_only t bytes result given type v typed fits e =
    let sound : is_sound t ≡ true = first_so (is_sound t) _ (first_so _ _ type) in
    let read : reads t bytes ≡ Some (v, []) =
    ap (λ (bs : List ℕ). reads t bs) (e ∙ sym (append-nil (bytes_of t v))) ∙ reads-complete t sound v [] typed fits
    in
    subst (λ (r : Option Value). Gives (λ w. w) result r) (ap (λ (r : Option (Value × List ℕ)). whole r) read) given

-- no spelling begins another
pub one_value :
    (t : DbType) (v w : Value) (rest other : List ℕ) → is_type t ≡ true → is_of t v ≡ true → value_fits t v ≡ true →
    is_of t w ≡ true → value_fits t w ≡ true → bytes_of t v ++ rest ≡ bytes_of t w ++ other → (v ≡ w) × (rest ≡ other)
one_value t v w rest other type tv fv tw fw e =
    let sound : is_sound t ≡ true = first_so (is_sound t) _ (first_so _ _ type) in
    let x : Value × List ℕ = (v, rest) in
    let y : Value × List ℕ = (w, other) in
    let both : Some x ≡ Some y =
    sym (reads-complete t sound v rest tv fv) ∙ ap (λ (bs : List ℕ). reads t bs) e ∙ reads-complete t sound w other tw fw
    in
    let same = some_is x y both in
    (ap (λ (z : Value × List ℕ). z.0) same, ap (λ (z : Value × List ℕ). z.1) same)
