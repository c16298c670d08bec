use Rattle.std.proofs.Common.{[], ◌∷◌, reverse, sym, ap, ◌∙◌}
use Rattle.std.proofs.lemmas.List.{reverse-append}
use Rattle.dbpl_relation.proofs.EditLemmas.{replaced-nothing, replaced-step}
use Rattle.dbpl_relation.proofs.OfType.{are_records-rest, are_records-rise}
use Rattle.dbpl_relation.specs.Changes.{replaced}
use Rattle.dbpl_relation.specs.Relations.{are_records}
use Rattle.dbpl_relation.proofs.edits.give_way.Goals as goal

pub loop-element-preserved : goal.loop-element-preserved
loop-element-preserved g c =
    let t = c.args.t.now in
    let element = c.in-Some.element in
    let popped = ap reverse c.in-Some.ensures ∙ reverse-append c.pop.new.self (element ∷ []) in
    let others = ap (are_records t) (sym popped) ∙ c.loop-element.invariant.others in
    record {
      records = c.give_way_to.ensures.of_type;
      others = are_records-rest t element (reverse c.pop.new.self) others;
      same = λ test computes.
          c.loop-element.invariant.same test computes ∙ ap (replaced t test c.loop-element.records.items) popped
          ∙ replaced-step t test c.loop-element.records.items element (reverse c.pop.new.self)
          (are_records-rise t (element ∷ reverse c.pop.new.self) others)
          ∙ ap (λ records. replaced t test records (reverse c.pop.new.self))
          (sym (c.give_way_to.ensures.items test computes));
    }

pub returns-clause-items : goal.returns-clause-items
returns-clause-items g c test computes =
    sym (
    c.loop-element.invariant.same test computes
    ∙ ap (λ left. replaced c.args.t.now test c.loop-element.records.items (reverse left)) c.in_default.ensures.0
    ∙ replaced-nothing c.args.t.now test c.loop-element.records.items
    )
