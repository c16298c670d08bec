use Rattle.std.proofs.Common.{◌≡◌, List, Result, Ok, Err, reverse, ap, ◌∙◌}
use Rattle.std.proofs.lemmas.List.{reverse-reverse}
use Rattle.std.specs.Prelude.{IfOk, IsTrue}
use Rattle.dbpl_base.specs.declared.memory.Memory.{Memory}
use Rattle.dbpl_value.specs.declared.db_type.DbType.{DbType}
use Rattle.dbpl_value.specs.declared.value.Value.{Value}
use Rattle.dbpl_relation.proofs.OfType.{are_records-parts}
use Rattle.dbpl_relation.specs.Relations.{are_records}
use Rattle.dbpl_relation.proofs.records.copies_from_last.Goals as goal

copies_are :
    (t : DbType) (values : List Value) (result : Result (List Value) Memory) → IsTrue (are_records t values) →
    IfOk result (λ copies. copies ≡ reverse values) → IfOk result (λ copies. IsTrue (are_records t (reverse copies)))
copies_are t values (Ok copies) h e = ap (are_records t) (ap reverse e ∙ reverse-reverse values) ∙ h
copies_are t values (Err refusal) h e = tt

pub returns-clause-records : goal.returns-clause-records
returns-clause-records c =
    let t = c.args.t.now in
    let relation = c.args.relation.now in
    copies_are t c.parts_of.result.now c.copy_from_last.result
    (ap (are_records t) c.parts_of.ensures ∙ are_records-parts t relation c.requires.kind c.requires.of_type)
    c.copy_from_last.ensures
