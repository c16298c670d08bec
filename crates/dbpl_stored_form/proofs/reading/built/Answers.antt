-- Each exit has its cause.
use Rattle.std.proofs.Common.{inr, refl, sym, ◌∙◌}
use Rattle.dbpl_stored_form.proofs.reading.built.Goals as goal

pub returns-in-None-clause-refused : goal.returns-in-None-clause-refused
returns-in-None-clause-refused c = λ schema text first second.
    inr (inr (
      refl,
      refl,
      record {
        schema_unit = c.args.database.now;
        program_unit = c.args.program.now;
        schema_spelt = first;
        program_spelt = second;
        other = sym c.in_ok-stored.ensures ∙ c.in-None.is;
      },
    ))
