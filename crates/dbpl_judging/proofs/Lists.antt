-- Lists of parts, some of which may be missing.
use Rattle.std.proofs.Common.{◌≡◌, List, [], ◌∷◌, Option, Some, None, option_map, refl}
use Rattle.dbpl_judging.specs.Judgements.{added, paired}

-- one part more at the end of a list
pub put_before : {A : Type 0} (first : Option A) (list : Option (List A)) (part : Option A) →
    option_map (λ parts. parts.0 ∷ parts.1) (paired first (added list part))
    ≡ added (option_map (λ parts. parts.0 ∷ parts.1) (paired first list)) part
put_before None list part = refl
put_before (Some first) None part = refl
put_before (Some first) (Some list) None = refl
put_before (Some first) (Some list) (Some part) = refl

-- a list of one part
pub one_core : {A : Type 0} (part : Option A) → option_map (λ parts. parts.0 ∷ parts.1) (paired part (Some [])) ≡ added (Some []) part
one_core None = refl
one_core (Some part) = refl
