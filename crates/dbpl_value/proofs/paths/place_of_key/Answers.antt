use Rattle.std.proofs.Common.{rules, sym}
use Rattle.std.proofs.lemmas.Fn.{always_returns_same}
use Rattle.dbpl_value.specs.Keys.{key_cmp, key_from, key_of}
use Rattle.dbpl_value.proofs.KeyOrder.{place-absent, place-found}
use Rattle.dbpl_value.proofs.paths.place_of_key.Goals as goal

pub returns-in-Ok : goal.returns-in-Ok
returns-in-Ok c rises =
    let found =
    c.in-Ok.ensures.position (λ element. key_cmp (key_of c.args.t.now element) (key_from c.args.key.now))
    (always_returns_same _ _ _ (λ a r f called. (search rules, search rules)))
    in
    sym (place-found c.args.t.now (key_from c.args.key.now) c.args.records.now c.in-Ok.place rises c.in-Ok.ensures.bound found)

pub returns-in-Err : goal.returns-in-Err
returns-in-Err c rises =
    let absent =
    c.in-Err.ensures.position (λ element. key_cmp (key_of c.args.t.now element) (key_from c.args.key.now))
    (always_returns_same _ _ _ (λ a r f called. (search rules, search rules)))
    in
    sym (place-absent c.args.t.now (key_from c.args.key.now) c.args.records.now c.in-Err.field-0 rises absent)
