use Rattle.std.proofs.Common.{rules}
use Rattle.std.proofs.lemmas.Fn.{always_returns_same}
use Rattle.dbpl_value.specs.Keys.{key_cmp, key_of}
use Rattle.dbpl_relation.proofs.Searching.{place-of_search}
use Rattle.dbpl_relation.proofs.places.search.Goals as goal

pub returns-clause-place : goal.returns-clause-place
returns-clause-place c rises =
    place-of_search c.args.t.now (key_of c.args.t.now c.args.sought.now) c.args.records.now c.binary_search_by.result rises
    c.binary_search_by.ensures.bound
    (c.binary_search_by.ensures.position
    (λ element. key_cmp (key_of c.args.t.now element) (key_of c.args.t.now c.args.sought.now))
    (always_returns_same _ _ _ (λ a r f called. (search rules, search rules))))
