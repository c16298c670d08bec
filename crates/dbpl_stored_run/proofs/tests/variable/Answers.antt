use Rattle.std.proofs.Common.{◌≡◌, true, List, [], ◌∷◌, ◌++◌, ◌&&◌, Option, Some, None, MatchOption, IfSome, sym, ap, ◌∙◌}
use Rattle.std.proofs.lemmas.List.Folds.{list_all-append}
use Rattle.std.specs.Cmp.{first_so, second_so}
use Rattle.std.specs.List.{list_all}
use Rattle.dbpl_value.specs.Databases.{is_bound, is_database}
use Rattle.dbpl_value.specs.declared.bound.Bound.{Bound}
use Rattle.dbpl_stored_run.proofs.tests.variable.Goals as goal

-- the last of a database is one of its variables
last-bound :
    (database rest : List Bound) (last : Option Bound) → is_database database ≡ true →
    MatchOption last ((database ≡ []) × (rest ≡ [])) (λ b. database ≡ rest ++ b ∷ []) →
    IfSome last (λ b. is_bound b ≡ true)
last-bound database rest None sound popped = tt
last-bound database rest (Some b) sound popped =
    let all = first_so (list_all is_bound database) _ sound in
    let parts : list_all is_bound rest && list_all is_bound (b ∷ []) ≡ true =
    sym (list_all-append is_bound rest (b ∷ [])) ∙ ap (list_all is_bound) (sym popped) ∙ all
    in
    first_so (is_bound b) true (second_so (list_all is_bound rest) (list_all is_bound (b ∷ [])) parts)

pub returns-in-Ok : goal.returns-in-Ok
returns-in-Ok c =
    last-bound c.in-Ok.database c.pop.new.self c.pop.result c.in-Ok.ensures.found.0 c.pop.ensures
