-- By the law over any number of turns.
use Rattle.dbpl_meaning.proofs.Whole.{meaning-goes_on}
use Rattle.dbpl_meaning.proofs.laws.meaning_is_steady.Goals as goal

pub returns-clause-extends : goal.returns-clause-extends
returns-clause-extends c = λ program database input turns others.
    let on = meaning-goes_on program database input turns others in (on.rest, on.events)

pub returns-clause-takes : goal.returns-clause-takes
returns-clause-takes c = λ program database input turns others.
    let on = meaning-goes_on program database input turns others in (on.taken, on.input)

pub returns-clause-works : goal.returns-clause-works
returns-clause-works c = λ program database input turns others. (meaning-goes_on program database input turns others).works

pub returns-clause-stays : goal.returns-clause-stays
returns-clause-stays c = λ program database input turns others ended. (meaning-goes_on program database input turns others).stays ended
