use Rattle.std.proofs.Common.{◌≡◌, [], drop, map, true}
use Rattle.dbpl_value.specs.Databases.{is_database}
use Rattle.dbpl_store.specs.Stands.{newest}
use Rattle.dbpl_store.proofs.newest.newest.Given as goal

abbrev pub invariant-loop-bytes : goal.invariant-loop-bytes
invariant-loop-bytes l =
    (newest l.database (map (λ one. one.items) (drop l.bytes-index l.records)) ≡ newest [] (map (λ one. one.items) l.records))
    × (is_database l.database ≡ true)
