-- Nothing stands at the end.
use Rattle.dbpl_scan.proofs.Spellings.{nothing_stands_within}
use Rattle.dbpl_scan.proofs.front.first_token.Goals as goal

pub returns-in_default-clause-none : goal.returns-in_default-clause-none
returns-in_default-clause-none c =
    λ _. nothing_stands_within c.args.text.now c.in_default.ensures.cases
