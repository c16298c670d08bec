use Rattle.std.proofs.Common.{ℕ, Global, Vec, None, Some, ap, refl, sym, ◌∙◌}
use Rattle.dbpl_store.proofs.Changing.{committed-kept, settled-kept}
use Rattle.dbpl_store.specs.Kept.{IsSpelt}
use Rattle.dbpl_store.proofs.opening.store_of.Goals as goal

pub invariant_of-result : goal.invariant_of-result
invariant_of-result c =
    let spelt : IsSpelt c.in-Ok.database c.in-Ok-spelled.stored.items = rw (← c.as_slice-2.ensures) c.in-Ok-spelled.ensures in
    record {
      sound = c.in-Ok.ensures.sound;
      kept = settled-kept (λ (bytes : Vec ℕ Global). bytes.items) c.in-Ok-spelled.stored.items c.in-Ok.database None c.in-Ok.ensures.sound
          spelt refl;
    }

pub returns-clause-newest : goal.returns-clause-newest
returns-clause-newest c =
    let spelt : IsSpelt c.in-Ok.database c.in-Ok-spelled.stored.items = rw (← c.as_slice-2.ensures) c.in-Ok-spelled.ensures in
    rw (← c.as_slice.ensures.value) c.in-Ok.ensures.reads
    ∙ ap (λ database. Some database)
    (sym (committed-kept c.in-Ok-spelled.stored.items c.in-Ok.database c.in-Ok.ensures.sound spelt))

pub returns-clause-database : goal.returns-clause-database
returns-clause-database c =
    let spelt : IsSpelt c.in-Ok.database c.in-Ok-spelled.stored.items = rw (← c.as_slice-2.ensures) c.in-Ok-spelled.ensures in
    sym (committed-kept c.in-Ok-spelled.stored.items c.in-Ok.database c.in-Ok.ensures.sound spelt)
