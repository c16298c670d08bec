-- Lists that are made part by part, and the places of parameters.
use Rattle.std.proofs.Common.{◌≡◌, ℕ, List, [], ◌∷◌, ◌++◌, map, Option, Some, None, option_map, refl, sym, ap, ◌∙◌}
use Rattle.std.proofs.lemmas.List.Elements.{filter_map-append}
use Rattle.std.proofs.lemmas.Option.{slice_get-map}
use Rattle.std.specs.List.{filter_map, slice_get}
use Rattle.std.specs.Option.{option_to_list}
use Rattle.dbpl_rules_calls.specs.Asking.{parameter_asks}
use Rattle.dbpl_value.specs.declared.param.Param.{Param}

alone :
    {A B : Type 0} (make : A → Option B) (part : A) (made : Option B) → make part ≡ made →
    option_to_list made ≡ filter_map make (part ∷ [])
alone make part None is = rw (is) refl
alone make part (Some one) is = rw (is) refl

-- What is made of the parts so far, and one more.
pub one_more_part :
    {A B : Type 0} (make : A → Option B) (parts : List A) (part : A) (list longer : List B) (made : Option B) →
    list ≡ filter_map make parts → made ≡ make part → longer ≡ list ++ option_to_list made →
    longer ≡ filter_map make (parts ++ part ∷ [])
one_more_part make parts part list longer made before same joined =
    joined ∙ ap (λ front. front ++ option_to_list made) before ∙
    ap (λ last. filter_map make parts ++ last) (alone make part made (sym same)) ∙
    sym (filter_map-append make parts (part ∷ []))

-- what the parameter of this number asks for
pub asked_of_parameter :
    (params : List Param) (number : ℕ) →
    slice_get (map parameter_asks params) number ≡ option_map parameter_asks (slice_get params number)
asked_of_parameter params number = slice_get-map parameter_asks params number
