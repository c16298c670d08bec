use Rattle.std.proofs.Common.{◌≡◌, ◌<◌, cond, [], ◌∷◌, ◌++◌, length, refl, sym, ap, ◌∙◌, append-nil}
use Rattle.std.proofs.lemmas.Fn.{says_at}
use Rattle.std.proofs.lemmas.List.{take_all}
use Rattle.std.specs.List.{items_where_true}
use Rattle.dbpl_value.specs.declared.value.Value.{Value}
use Rattle.dbpl_relation.proofs.Filters.{are_records-kept, filter_more, some_more}
use Rattle.dbpl_relation.proofs.OfType.{are_records-parts, is_of-Rel}
use Rattle.dbpl_relation.specs.Relations.{are_records}
use Rattle.dbpl_relation.proofs.selection.select.Goals as goal
use Rattle.dbpl_relation.proofs.selection.select.Goals.{then-keep+in_ok-copy+in_ok-push, else-keep}

pub loop-element-preserved : goal.loop-element-preserved
loop-element-preserved g c =
    let records = c.records_of-records.result.now in
    let element = c.element-item.result in
    let i = c.loop-element.element-index in
    let before = c.loop-element.invariant in
    let within : i < length records = c.loop-element-test.true in
    let same : c.if-keep.kept ≡ c.loop-element.kept ++ cond c.keep.result (element ∷ []) [] =
    elim c.if-keep.branch [
      | then-keep+in_ok-copy+in_ok-push w ↦
          w.kept-is ∙ w.in_ok-push.ensures.ok ∙ ap (λ (v : Value). c.loop-element.kept ++ v ∷ []) w.in_ok-copy.ensures
          ∙ ap (λ b. c.loop-element.kept ++ cond b (element ∷ []) []) (sym w.if-keep.true)
      | else-keep w ↦
          w.kept-is ∙ sym (append-nil c.loop-element.kept)
          ∙ ap (λ b. c.loop-element.kept ++ cond b (element ∷ []) []) (sym w.if-keep.false)
    ]
    in
    let some =
    some_more records c.loop-element.kept c.if-keep.kept i element c.keep.result within c.element-item.is same
    (before.0, before.1, before.2)
    in (
      some.0,
      some.1,
      some.2,
      λ test computes.
          filter_more test records c.loop-element.kept c.if-keep.kept i element c.keep.result within c.element-item.is same
          (computes element c.keep.result (says_at g.F.Fn c.keep.ensures refl)) (before.3 test computes),
    )

pub returns-clause-of_type : goal.returns-clause-of_type
returns-clause-of_type g c =
    let t = c.args.t.now in
    let records = c.records_of-records.result.now in
    let some = c.loop-element.invariant in
    let all = take_all c.loop-element.element-index records c.loop-element-test.false in
    let sound =
    ap (are_records t) c.records_of-records.ensures.same
    ∙ are_records-parts t c.args.r.now c.requires.kind c.requires.relation
    in
    is_of-Rel t c.loop-element.kept c.requires.kind
    ∙ ap (are_records t) (some.2 ∙ ap (items_where_true some.0) all)
    ∙ are_records-kept t some.0 records sound
