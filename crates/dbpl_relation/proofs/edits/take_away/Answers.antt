use Rattle.std.proofs.Common.{◌≡◌, List, [], ◌∷◌, length, refl, sym, ap, ◌∙◌, arith}
use Rattle.dbpl_relation.proofs.Filters.{are_records-filter, filter-everything, removed-step}
use Rattle.dbpl_relation.specs.Changes.{everywhere, removed}
use Rattle.dbpl_relation.specs.Relations.{are_records}
use Rattle.dbpl_relation.proofs.edits.take_away.Goals as goal

pub loop-other-preserved : goal.loop-other-preserved
loop-other-preserved c =
    let t = c.args.t.now in
    let records = c.loop-other.records.items in
    let split = c.in-Some.ensures.cases.0 in
    record {
      sound = ap (are_records t) c.take_one.ensures ∙ are_records-filter t _ records c.loop-other.invariant.sound;
      same =
          c.loop-other.invariant.same ∙ ap (removed everywhere records) split
          ∙ removed-step records c.in-Some.rest.now c.in-Some.other.now
          ∙ ap (λ left. removed everywhere left c.in-Some.rest.now) (sym c.take_one.ensures);
    }

none_left : {X : Type 0} (xs : List X) → length xs ≡ 0 → xs ≡ []
none_left [] h = refl
none_left (x ∷ xs) h = absurd (omega arith)

pub returns-clause-items : goal.returns-clause-items
returns-clause-items c =
    let empty = none_left c.loop-other.left.now c.in_default.ensures.cases in
    sym (
    c.loop-other.invariant.same ∙ ap (removed everywhere c.loop-other.records.items) empty
    ∙ filter-everything c.loop-other.records.items
    )
