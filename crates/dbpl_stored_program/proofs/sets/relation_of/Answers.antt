-- A relation with one record of its record type.
use Rattle.std.proofs.Common.{◌≡◌, ◌∷◌, [], ◌++◌, List, ap, ◌∙◌}
use Rattle.dbpl_stored_program.proofs.Adding.{one-is_of}
use Rattle.dbpl_stored_program.specs.Sets.{record_of}
use Rattle.dbpl_value.specs.declared.value.Value.{Value}
use Rattle.dbpl_stored_program.proofs.sets.relation_of.Goals as goal

pub returns-clause-of_type : goal.returns-clause-of_type
returns-clause-of_type c =
    let records : c.push.new.self ≡ record_of c.args.row.now ∷ [] =
    c.in_ok-push.ensures.ok ∙ ap (λ (xs : List Value). xs ++ c.in_ok-record_in.field-0 ∷ []) c.new-records.ensures
    ∙ ap (λ (x : Value). x ∷ []) c.in_ok-record_in.ensures
    in
    one-is_of c.args.t.now c.push.new.self (record_of c.args.row.now) c.requires.kind records c.requires.row
