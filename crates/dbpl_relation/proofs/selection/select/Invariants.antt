use Rattle.std.proofs.Common.{◌≡◌, Bool, List, length, take}
use Rattle.std.specs.List.{filter, items_where_true}
use Rattle.dbpl_value.specs.declared.value.Value.{Value}
use Rattle.dbpl_relation.specs.Changes.{Computes}
use Rattle.dbpl_relation.proofs.selection.select.Given as goal

abbrev pub invariant-loop-element : goal.invariant-loop-element
invariant-loop-element g l =
    (answers : List Bool) × (length answers ≡ l.element-index)
    × (l.kept ≡ items_where_true answers (take l.element-index l.records))
    × ((test : Value → Bool) → Computes g.F.Fn test l.keep → l.kept ≡ filter test (take l.element-index l.records))
