use Rattle.dbpl_value.proofs.Holding.{back_again, put_over}
use Rattle.dbpl_database.proofs.relations.put_relation.Goals as goal

pub returns-clause-put : goal.returns-clause-put
returns-clause-put c =
    put_over c.args.database.now c.replace-name.new.self c.replace.new.self c.args.at c.replace-name.result _
    c.args.relation c.replace-name.ensures.item c.replace-name.ensures.rest c.replace.ensures.rest

pub returns-clause-back : goal.returns-clause-back
returns-clause-back c =
    back_again c.args.database.now c.replace-name.new.self c.replace.new.self c.args.at c.replace-name.result _
    c.args.relation c.replace-name.ensures.item c.replace-name.ensures.rest c.replace.ensures.rest
