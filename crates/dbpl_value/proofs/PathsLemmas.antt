-- A path is followed one step at a time.
use Rattle.std.proofs.Common.{◌≡◌, ◌+◌, ◌-◌, ◌<◌, ◌≤◌, ℕ, zero, suc, List, [], ◌∷◌, length, drop, take, get_or, Option, Some, None, Err, refl, ap, sym, ◌∙◌, arith, add-one, drop-cons}
use Rattle.std.proofs.lemmas.List.{take_all}
use Rattle.std.specs.Prelude.{IfSome, IsTrue, pos, slice_get, slice_set}
use Rattle.std.specs.Option.{option_map_or}
use Rattle.dbpl_value.proofs.ValuesLemmas.{is_of-step}
use Rattle.dbpl_value.specs.Keys.{parts_of}
use Rattle.dbpl_value.specs.Paths.{part_at, place_of, refusal_of, type_at_step, type_at_path, with_part_at, with_parts}
use Rattle.dbpl_value.specs.Values.{is_of}
use Rattle.dbpl_value.specs.declared.db_type.DbType.{DbType}
use Rattle.dbpl_value.specs.declared.step.Step.{Step}
use Rattle.dbpl_value.specs.declared.value.Value.{Value, out-Value}
use Rattle.dbpl_value.specs.declared.value.Value.TheVariants as value

-- the first i steps of a path lead to this part, of this type
pub record Reached (t : DbType) (v : Value) (path : List Step) (i : ℕ) (kind : DbType) (part : Value) : Type 0 where
  pub same_part : part_at 0 t v path ≡ part_at i kind part (drop i path)
  pub same_type : type_at_path t path ≡ type_at_path kind (drop i path)
  pub of_type : IsTrue (is_of kind part)

-- one more step
pub reached-next :
    (t : DbType) (v : Value) (path : List Step) (i : ℕ) (kind : DbType) (part : Value) (step : Step) (next : Value) →
    Reached t v path i kind part → i < length path → step ≡ get_or path i step →
    slice_get (parts_of part) (place_of kind part step) ≡ Some next →
    Reached t v path (i + 1) (type_at_step kind step) next
reached-next t v path i kind part step next reached h e found = record {
  same_part = reached.same_part ∙ rw (drop-cons path i step, ← e, found, add-one) refl;
  same_type = reached.same_type ∙ rw (drop-cons path i step, ← e, add-one) refl;
  of_type = is_of-step kind part step next reached.of_type found;
}

-- a step that leads to no part
pub reached-refused :
    (t : DbType) (v : Value) (path : List Step) (i : ℕ) (kind : DbType) (part : Value) (step : Step) →
    Reached t v path i kind part → i < length path → step ≡ get_or path i step →
    slice_get (parts_of part) (place_of kind part step) ≡ None → part_at 0 t v path ≡ Err (refusal_of i step)
reached-refused t v path i kind part step reached h e none =
    reached.same_part ∙ rw (drop-cons path i step, ← e, none) refl

-- the parts after the one at a position was changed along a path
abbrev pub put_parts : DbType → List Value → ℕ → List Step → Value → List Value
put_parts kind parts place path new =
    option_map_or (λ part. slice_set parts place (with_part_at kind part path new)) (slice_get parts place) parts

abbrev pub PutIn : DbType → List Value → ℕ → List Step → Value → List Value → Type 0
PutIn kind parts place path new result =
    IfSome (slice_get parts place) (λ part. IsTrue (is_of kind part)) → result ≡ put_parts kind parts place path new

-- a part is taken out, changed, and put back
pub put_replaced :
    (kind : DbType) (parts : List Value) (place : ℕ) (path : List Step) (new part put : Value) (taken result : List Value) →
    slice_get parts place ≡ Some part → taken ≡ slice_set parts place (value.Num (pos 0)) →
    (IsTrue (is_of kind part) → put ≡ with_part_at kind part path new) → result ≡ slice_set taken place put →
    PutIn kind parts place path new result
put_replaced kind parts place path new part put taken result found out changed back typed =
    back ∙ ap (λ (xs : List Value). slice_set xs place put) out ∙ twice parts place
    ∙ ap (λ (w : Value). slice_set parts place w) (changed (rw found at typed))
    ∙ sym (ap (λ (o : Option Value). option_map_or (λ w. slice_set parts place (with_part_at kind w path new)) o parts) found)
  where
    twice : (xs : List Value) (i : ℕ) → slice_set (slice_set xs i (value.Num (pos 0))) i put ≡ slice_set xs i put
    twice [] i = refl
    twice (x ∷ xs) zero = refl
    twice (x ∷ xs) (suc i) = ap (λ (rest : List Value). x ∷ rest) (twice xs i)

-- what follows the first step of a path, as a slice pattern has it
abbrev pub rest_of : List Step → List Step
rest_of path = take (length path - 1) (drop 1 path)

first_and_rest :
    (path : List Step) (first : Step) → 1 ≤ length path → first ≡ get_or path 0 first → path ≡ first ∷ rest_of path
first_and_rest [] first h e = absurd (omega arith)
first_and_rest (next ∷ path) first h e =
    ap (λ (x : Step). x ∷ path) (sym e)
    ∙ ap (λ (xs : List Step). first ∷ xs) (sym (take_all (length (next ∷ path) - 1) path (omega arith)))

-- a value that is its parts, wrapped
pub record Wraps (wrap : List Value → Value) : Type 0 where
  pub parts : (xs : List Value) → parts_of (wrap xs) ≡ xs
  pub with_parts : (xs ys : List Value) → with_parts (out-Value (wrap xs)) ys ≡ wrap ys

pub Arr_wraps : Wraps value.Arr
Arr_wraps = record {
  parts = λ xs. rw (value.outs-Arr xs) refl;
  with_parts = λ xs ys. rw (value.outs-Arr xs) refl;
}

pub Rec_wraps : Wraps value.Rec
Rec_wraps = record {
  parts = λ xs. rw (value.outs-Rec xs) refl;
  with_parts = λ xs ys. rw (value.outs-Rec xs) refl;
}

pub Rel_wraps : Wraps value.Rel
Rel_wraps = record {
  parts = λ xs. rw (value.outs-Rel xs) refl;
  with_parts = λ xs ys. rw (value.outs-Rel xs) refl;
}

-- the first step of a path, into a value that is its parts
pub put_wrapped :
    (wrap : List Value → Value) (wraps : Wraps wrap) (t : DbType) (parts : List Value) (path : List Step) (step : Step)
    (new : Value) (place : ℕ) (kind : DbType) (result : List Value) → 1 ≤ length path → step ≡ get_or path 0 step →
    IsTrue (is_of t (wrap parts)) → place ≡ place_of t (wrap parts) step → kind ≡ type_at_step t step →
    PutIn kind parts place (rest_of path) new result → wrap result ≡ with_part_at t (wrap parts) path new
put_wrapped wrap wraps t parts path step new place kind result some first typed at of put =
    by_part (slice_get parts place) refl put
    ∙ sym (ap (λ (steps : List Step). with_part_at t (wrap parts) steps new) (first_and_rest path step some first))
  where
    by_part :
        (o : Option Value) → slice_get parts place ≡ o →
        (IfSome o (λ part. IsTrue (is_of kind part)) →
        result ≡ option_map_or (λ part. slice_set parts place (with_part_at kind part (rest_of path) new)) o parts) →
        wrap result ≡ with_part_at t (wrap parts) (step ∷ rest_of path) new
    by_part None e put =
        rw (wraps.parts parts, ← at, e) (ap wrap (put tt))
    by_part (Some part) e put =
        let typed_part = is_of-step t (wrap parts) step part typed (rw (wraps.parts parts, ← at) e) in
        rw (wraps.parts parts, ← at, e, wraps.with_parts parts, ← of) (ap wrap (put (rw of typed_part)))
