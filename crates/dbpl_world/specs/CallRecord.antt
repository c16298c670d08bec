-- What a record says that happened.
use Rattle.std.specs.Prelude.{List}
use Rattle.dbpl_world.specs.declared.call_record.CallRecord.{CallRecord}
use Rattle.dbpl_world.specs.Calls.{events_in}
use Rattle.dbpl_world.specs.History.{Event}

abbrev pub events_recorded : CallRecord → List Event
events_recorded recorded = events_in recorded.calls.items recorded.bytes.items
