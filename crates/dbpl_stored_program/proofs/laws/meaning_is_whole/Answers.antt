-- It isn't cut off, so more turns change nothing.
use Rattle.std.proofs.Common.{◌+◌, refl}
use Rattle.dbpl_stored_program.proofs.Steady.{steady}
use Rattle.dbpl_stored_program.proofs.Turns.{comes_to_end, whole-front}
use Rattle.dbpl_stored_program.specs.Whole.{turns_of}
use Rattle.dbpl_stored_program.proofs.laws.meaning_is_whole.Goals as goal

pub returns-clause-ends : goal.returns-clause-ends
returns-clause-ends c = comes_to_end

pub returns-clause-enough : goal.returns-clause-enough
returns-clause-enough c = λ program database input others.
    (steady program database input (turns_of program) others (turns_of program + others) refl).stays (comes_to_end program database input)

pub returns-clause-front : goal.returns-clause-front
returns-clause-front c = λ program database input turns.
    let front = whole-front program database input turns in (front.rest, front.is)
