-- By the law over any number of turns.
use Rattle.std.proofs.Common.{◌+◌, refl}
use Rattle.dbpl_stored_program.proofs.Steady.{steady}
use Rattle.dbpl_stored_program.proofs.laws.meaning_is_steady.Goals as goal

pub returns : goal.returns
returns c = λ program database input. record {
  extends = λ turns others.
      let on = steady program database input turns others (turns + others) refl in (on.extends.rest, on.extends.is);
  stays = λ turns others ended. (steady program database input turns others (turns + others) refl).stays ended;
}
