-- Trees of the parts of an aggregate, one more at a time.
use Rattle.std.proofs.Common.{◌≡◌, ◌+◌, arith, ℕ, List, [], ◌∷◌, ◌++◌, map, length, Option, Some, None, option_map, Result, Ok, Err, IfOk, IsOkAnd, refl, sym, ap, ◌∙◌}
use Rattle.std.proofs.lemmas.List.{map-append}
use Rattle.std.proofs.lemmas.Option.{slice_get-map}
use Rattle.std.specs.List.{slice_get}
use Rattle.std.specs.Option.{option_to_list}
use Rattle.dbpl_base.specs.declared.memory.Memory.{Memory}
use Rattle.dbpl_core.specs.declared.expr.CoreExpr.{CoreExpr}
use Rattle.dbpl_judging.specs.declared.typed.Typed.{Typed}
use Rattle.dbpl_rules_expr.specs.Aggregates.{fitted_fields}
use Rattle.dbpl_rules_operators.specs.Fitting.{fitted}
use Rattle.dbpl_value.specs.declared.db_type.DbType.{DbType}
use Rattle.dbpl_value.specs.declared.field.Field.{Field}

-- one more element of an array
pub one_more_element :
    (t : DbType) (parts : List Typed) (part : Typed) (trees longer : List CoreExpr) (made : Result CoreExpr Memory) →
    trees ≡ map (fitted t) parts → IfOk made (λ tree. tree ≡ fitted t part) →
    IsOkAnd made (λ tree. longer ≡ trees ++ tree ∷ []) → longer ≡ map (fitted t) (parts ++ part ∷ [])
one_more_element t parts part trees longer (Err error) before is joined = absurd joined
one_more_element t parts part trees longer (Ok tree) before is joined =
    joined ∙ ap (λ front. front ++ tree ∷ []) before ∙ ap (λ last. map (fitted t) parts ++ last ∷ []) is
    ∙ sym (map-append (fitted t) parts (part ∷ []))

pub none_fitted : (ts : List DbType) → fitted_fields ts [] ≡ []
none_fitted [] = refl
none_fitted (t ∷ ts) = refl

none_there : {A B : Type 0} (f : A → B) (number : ℕ) → option_to_list (option_map f (slice_get [] number)) ≡ []
none_there f number = refl

one_fitted :
    (ts : List DbType) (parts : List Typed) (part : Typed) →
    fitted_fields ts (parts ++ part ∷ [])
    ≡ fitted_fields ts parts ++ option_to_list (option_map (λ t. fitted t part) (slice_get ts (length parts)))
one_fitted [] parts part = sym (none_there (λ t. fitted t part) (length parts))
one_fitted (t ∷ ts) [] part = ap (λ rest. fitted t part ∷ rest) (none_fitted ts)
one_fitted (t ∷ ts) (first ∷ parts) part = ap (λ rest. fitted t first ∷ rest) (one_fitted ts parts part)

of_found :
    (found : Option Field) (part : Typed) →
    option_map (λ t. fitted t part) (option_map (λ (one : Field). one.kind) found)
    ≡ option_map (λ (one : Field). fitted one.kind part) found
of_found None part = refl
of_found (Some one) part = refl

of_field :
    (fields : List Field) (number : ℕ) (part : Typed) →
    option_map (λ (field : Field). fitted field.kind part) (slice_get fields number)
    ≡ option_map (λ t. fitted t part) (slice_get (map (λ (field : Field). field.kind) fields) number)
of_field fields number part =
    sym (ap (option_map (λ t. fitted t part)) (slice_get-map (λ (one : Field). one.kind) fields number)
    ∙ of_found (slice_get fields number) part)

-- one more field of a record
pub one_more_field :
    (fields : List Field) (number : ℕ) (parts : List Typed) (part : Typed) (trees longer : List CoreExpr)
    (made : Result (Option CoreExpr) Memory) →
    trees ≡ fitted_fields (map (λ (field : Field). field.kind) fields) parts → number ≡ length parts →
    IfOk made (λ tree. tree ≡ option_map (λ (field : Field). fitted field.kind part) (slice_get fields number)) →
    IsOkAnd made (λ tree. longer ≡ trees ++ option_to_list tree) →
    longer ≡ fitted_fields (map (λ (field : Field). field.kind) fields) (parts ++ part ∷ [])
one_more_field fields number parts part trees longer (Err error) before counted is joined = absurd joined
one_more_field fields number parts part trees longer (Ok tree) before counted is joined =
    joined ∙ ap (λ front. front ++ option_to_list tree) before
    ∙ ap (λ (last : Option CoreExpr). fitted_fields (map (λ (field : Field). field.kind) fields) parts ++ option_to_list last)
    (is ∙ of_field fields number part
    ∙ ap (λ n. option_map (λ t. fitted t part) (slice_get (map (λ (field : Field). field.kind) fields) n)) counted)
    ∙ sym (one_fitted (map (λ (field : Field). field.kind) fields) parts part)

length_more : {A : Type 0} (xs : List A) (x : A) → length (xs ++ x ∷ []) ≡ length xs + 1
length_more [] x = refl
length_more (y ∷ ys) x = let rest : length (ys ++ x ∷ []) ≡ length ys + 1 = length_more ys x in omega (arith, rest)

-- the number of the next part
pub one_counted :
    {A : Type 0} (number next : ℕ) (xs : List A) (x : A) → number ≡ length xs → next ≡ number + 1 →
    next ≡ length (xs ++ x ∷ [])
one_counted number next xs x before is = is ∙ ap (λ n. n + 1) before ∙ sym (length_more xs x)
