use Rattle.dbpl_log.proofs.RecordLaws.{holds_records, records_hold}
use Rattle.dbpl_log.proofs.laws.records_are_held.Goals as goal

pub returns-clause-read : goal.returns-clause-read
returns-clause-read c = holds_records

pub returns-clause-held : goal.returns-clause-held
returns-clause-held c = records_hold
