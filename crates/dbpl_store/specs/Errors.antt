-- Why a store isn't opened, from why its log isn't.
use Rattle.dbpl_log.specs.declared.open_err.OpenErr.{OpenErr}
use Rattle.dbpl_log.specs.declared.open_err.OpenErr.TheVariants as log_errors
use Rattle.dbpl_store.specs.declared.store_err.StoreErr.{StoreErr}
use Rattle.dbpl_store.specs.declared.store_err.StoreErr.TheVariants as errors

-- a log that doesn't fit damages page 0
abbrev pub of_log : OpenErr → StoreErr
of_log log_errors.NotStore = errors.NotStore
of_log log_errors.Disk = errors.Disk
of_log log_errors.Damaged = errors.Damaged 0
of_log log_errors.Memory = errors.Memory
