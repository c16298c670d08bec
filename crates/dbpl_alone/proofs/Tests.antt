-- What the tests of trees tell.
use Rattle.std.proofs.Common.{◌≡◌, ◌≢◌, ℕ, Bool, true, false, ◌||◌, List, [], ◌∷◌, Option, Some, None, refl, sym, ◌∙◌, bytes_eq, if◌then◌else◌}
use Rattle.std.proofs.lemmas.Bool.{and_parts, false_from_ne_true, false≢true, or_from, or_parts}
use Rattle.std.proofs.lemmas.Slice.Eq.{bytes_eq-Decides}
use Rattle.dbpl_alone.specs.Small.{is_imported}
use Rattle.dbpl_tree.specs.Plain.{has_name, is_empty, is_name}
use Rattle.dbpl_tree.specs.Words.{in_out, write_ln, write_string}
use Rattle.dbpl_tree.specs.declared.designator.DesignatorOf.{DesignatorOf}
use Rattle.dbpl_tree.specs.declared.factor.Factor.{Factor}

-- what a test lets through
pub under : {A : Type 0} (test : Bool) (answer : Option A) (found : A) → (if test then answer else None) ≡ Some found →
    (test ≡ true) × (answer ≡ Some found)
under true answer found e = (refl, e)
under false answer found e = absurd (cc)

pub empty_is : {A : Type 0} (xs : List A) → is_empty xs ≡ true → xs ≡ []
empty_is [] e = refl
empty_is (x ∷ xs) e = absurd (false≢true e)

pub same_bytes : (one other : List ℕ) → bytes_eq one other ≡ true → one ≡ other
same_bytes one other e = (bytes_eq-Decides one other).0 e

pub bytes_same : (bytes : List ℕ) → bytes_eq bytes bytes ≡ true
bytes_same bytes = (bytes_eq-Decides bytes bytes).1 refl

pub bytes_differ : (one other : List ℕ) → bytes_eq one other ≡ false → one ≢ other
bytes_differ one other e same = false≢true (sym e ∙ (bytes_eq-Decides one other).1 same)

pub differ_bytes : (one other : List ℕ) → one ≢ other → bytes_eq one other ≡ false
differ_bytes one other unlike =
    false_from_ne_true (bytes_eq one other) (λ e. unlike ((bytes_eq-Decides one other).0 e))

-- a designator that is a name alone
pub name_is : (name : List ℕ) (d : DesignatorOf Factor) → is_name name d ≡ true → (d.head.name ≡ name) × (d.parts ≡ [])
name_is name d e =
    let parts = and_parts (has_name name d.head) (is_empty d.parts) e in
    (same_bytes d.head.name name parts.0, empty_is d.parts parts.1)

-- a name that is none of the imported ones
pub unlike_imported : (name : List ℕ) → is_imported name ≡ false → (name ≢ in_out) × (name ≢ write_string) × (name ≢ write_ln)
unlike_imported name e =
    let outer = or_parts (bytes_eq name in_out || bytes_eq name write_string) (bytes_eq name write_ln) e in
    let inner = or_parts (bytes_eq name in_out) (bytes_eq name write_string) outer.0 in
    (bytes_differ name in_out inner.0, bytes_differ name write_string inner.1, bytes_differ name write_ln outer.1)

pub imported_unlike : (name : List ℕ) → name ≢ in_out → name ≢ write_string → name ≢ write_ln → is_imported name ≡ false
imported_unlike name first second third =
    or_from _ _ (or_from _ _ (differ_bytes name in_out first) (differ_bytes name write_string second)) (differ_bytes name write_ln third)
