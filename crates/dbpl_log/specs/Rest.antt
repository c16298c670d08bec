-- The store between two calls: one log, that a stop leaves as it is.
use Rattle.std.specs.Prelude.{◌≡◌, ℕ, ◌+◌, List, map, Some}
use Rattle.dbpl_world.specs.Images.{settled}
use Rattle.dbpl_world.specs.History.{Store}
use Rattle.dbpl_log.specs.Records.{records_of, next_gate}
use Rattle.dbpl_log.specs.declared.log.Log.{Log}
use Rattle.dbpl_log.specs.declared.opened.Opened.{Opened}

-- a stop leaves one log, and it has these records
pub record HasOnly (disk : Store) (records : List (List ℕ)) : Type 0 where
  pub synced : disk.log ≡ settled disk.log.now
  pub records_are : records_of disk.log.now ≡ Some records

-- one past the next gate
abbrev pub length_of : Log → ℕ
length_of log = log.gate + 1

-- and this is what is kept of that log
pub record IsAtRest (disk : Store) (log : Log) (records : List (List ℕ)) : Type 0 where
  pub only : HasOnly disk records
  pub gate : log.gate ≡ next_gate records

-- the records that an opening has given
abbrev pub records_in : Opened → List (List ℕ)
records_in opened = map (λ one. one.items) opened.records.items
