use Rattle.std.proofs.Common.{ap, sym, ◌∙◌}
use Rattle.dbpl_value.specs.Keys.{keys_rise}
use Rattle.dbpl_value.specs.Values.{is_of}
use Rattle.dbpl_value.specs.declared.value.Value.{Value}
use Rattle.dbpl_value.specs.declared.value.Value.TheVariants.{outs-Rel}
use Rattle.dbpl_value.proofs.ValuesLemmas.{is_of-keys_rise}
use Rattle.dbpl_value.proofs.paths.place_of.Goals as goal

pub returns-in-Rel : goal.returns-in-Rel
returns-in-Rel c of_type =
    let rises =
    is_of-keys_rise c.args.t.now c.in-Rel.records
    (ap (λ (v : Value). is_of c.args.t.now v) (sym c.in-Rel.is) ∙ of_type)
    in
    rw (c.in-Key.is, c.in-Rel.is, outs-Rel c.in-Rel.records, ← c.as_slice-in-Rel.ensures, ← c.as_slice.ensures)
    (c.place_of_key.ensures (ap (keys_rise c.args.t.now) c.as_slice.ensures ∙ rises))
