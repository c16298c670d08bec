use Rattle.std.proofs.Common.{refl, sym}
use Rattle.dbpl_value.proofs.FieldNames.{are_names-fields}
use Rattle.dbpl_value.proofs.name_rules.are_field_names.Goals as goal

pub returns-then-not-have_identifiers : goal.returns-then-not-have_identifiers
returns-then-not-have_identifiers c =
    sym (rw (are_names-fields c.args.fields.now, ← c.have_identifiers.ensures, c.if-not-have_identifiers.true) refl)

pub returns : goal.returns
returns c =
    rw (are_names-fields c.args.fields.now, ← c.have_identifiers.ensures, c.if-not-have_identifiers.false)
    c.are_fields_different.ensures
