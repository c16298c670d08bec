-- The letter and the number of the rule are those of its name.
use Rattle.dbpl_words.proofs.Reports.{report-language, report-statics}
use Rattle.dbpl_words.proofs.report.note_refusal.Goals as goal

pub returns-then-rule-gt100-clause-ok : goal.returns-then-rule-gt100-clause-ok
returns-then-rule-gt100-clause-ok g c = λ told.
    rw (report-language c.args.rule c.args.place c.if-rule-gt100.true) (c.note_place.ensures.ok told)

pub returns-else-rule-gt100-clause-ok : goal.returns-else-rule-gt100-clause-ok
returns-else-rule-gt100-clause-ok g c = λ told.
    rw (report-statics c.args.rule c.args.place c.if-rule-gt100.false) (c.note_place-else-rule-gt100.ensures.ok told)

pub returns-then-rule-gt100-clause-err : goal.returns-then-rule-gt100-clause-err
returns-then-rule-gt100-clause-err g c = λ told.
    rw (report-language c.args.rule c.args.place c.if-rule-gt100.true) (c.note_place.ensures.err told)

pub returns-else-rule-gt100-clause-err : goal.returns-else-rule-gt100-clause-err
returns-else-rule-gt100-clause-err g c = λ told.
    rw (report-statics c.args.rule c.args.place c.if-rule-gt100.false) (c.note_place-else-rule-gt100.ensures.err told)
