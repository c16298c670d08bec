use Rattle.std.proofs.Common.{sym, ◌∙◌, arith, rules}
use Rattle.dbpl_value.proofs.RisingNames.{names_rise-from, rises-more, rises-not}
use Rattle.dbpl_database.proofs.names.rise.Goals as goal

pub returns-then-not-is_less : goal.returns-then-not-is_less
returns-then-not-is_less c =
    sym (rises-not c.args.database.now c.loop-i.i c.index-database-i.result c.index-database-i-in-loop-i.result
    (search rules) (omega arith) c.index-database-i.is c.index-database-i-in-loop-i.is
    (rw (c.index-database-i.is, c.index-database-i-in-loop-i.is) (sym c.is_less.ensures ∙ search rules)))

pub loop-i-preserved : goal.loop-i-preserved
loop-i-preserved c =
    rises-more c.args.database.now c.loop-i.i c.index-database-i.result c.index-database-i-in-loop-i.result
    (search rules) (omega arith) c.index-database-i.is c.index-database-i-in-loop-i.is
    (rw (c.index-database-i.is, c.index-database-i-in-loop-i.is) (sym c.is_less.ensures ∙ search rules)) c.loop-i.invariant

pub returns : goal.returns
returns c =
    sym (names_rise-from c.args.database.now
    (λ j k lt within d. c.loop-i.invariant j k d lt (omega arith)))
