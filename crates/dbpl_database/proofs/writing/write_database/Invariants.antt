use Rattle.std.proofs.Common.{◌≡◌, ◌++◌, take}
use Rattle.std.specs.List.{flat_map, list_all}
use Rattle.std.specs.Prelude.{IsTrue}
use Rattle.dbpl_codec.specs.Numbers.{count_bytes, count_fits}
use Rattle.dbpl_database.specs.Spelling.{bound_bytes, bound_fits}
use Rattle.dbpl_database.proofs.writing.write_database.Given as goal

abbrev pub invariant-loop-bound : goal.invariant-loop-bound
invariant-loop-bound l =
    (l.out.items ≡ count_bytes l.database ++ flat_map bound_bytes (take l.bound-index l.database))
    × IsTrue (count_fits l.database)
    × IsTrue (list_all bound_fits (take l.bound-index l.database))
