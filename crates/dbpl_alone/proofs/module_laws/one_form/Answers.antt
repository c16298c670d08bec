-- Part by part, on the tree and on its lexemes.
use Rattle.dbpl_alone.proofs.FormLaw.{unit-form, unit-lexemes}
use Rattle.dbpl_alone.proofs.FoundLaw.{unit-found}
use Rattle.dbpl_alone.proofs.PlacedLaw.{tokens_spelt}
use Rattle.dbpl_alone.proofs.UnitLaw.{one-spelling}
use Rattle.dbpl_alone.proofs.module_laws.one_form.Goals as goal

pub returns-clause-found : goal.returns-clause-found
returns-clause-found c = unit-found

pub returns-clause-small : goal.returns-clause-small
returns-clause-small c = unit-form

pub returns-clause-spelled : goal.returns-clause-spelled
returns-clause-spelled c = unit-lexemes

pub returns-clause-spelling : goal.returns-clause-spelling
returns-clause-spelling c = one-spelling

pub returns-clause-texts : goal.returns-clause-texts
returns-clause-texts c = λ text tokens program is scanned e.
    let spelt = tokens_spelt tokens program is e in
    record { unit = spelt.unit; spelt = record { tokens = tokens; scanned = scanned; spelled = spelt.spelled }; small = spelt.small }
