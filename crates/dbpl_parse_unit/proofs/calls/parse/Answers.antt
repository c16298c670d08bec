-- By the laws of what is read.
use Rattle.dbpl_parse_unit.proofs.Wholes.{is_answer}
use Rattle.dbpl_parse_unit.proofs.calls.parse.Goals as goal

pub returns : goal.returns
returns c =
    let law = c.reads_units.ensures in
    let is = is_answer law.complete law.sound law.refused law.begun law.named c.one_tree.ensures.units c.args.tokens.now c.whole_unit.result c.answered.result c.whole_unit.ensures c.answered.ensures in
    record { reads = is.reads; found = is.found; only = is.only; refused = is.refused; placed = is.placed }
