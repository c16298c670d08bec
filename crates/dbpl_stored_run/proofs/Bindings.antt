-- What is bound is one database, and a store that stands for a database has a head.
use Rattle.std.proofs.Common.{◌≡◌, ◌∙◌, ℕ, List, [], Option, None, Some, refl, sym}
use Rattle.std.specs.Option.{option_and_then}
use Rattle.dbpl_log.proofs.RecordLaws.{records_head}
use Rattle.dbpl_log.specs.Records.{HasHead, records_of}
use Rattle.dbpl_store.specs.Stands.{newest, stands}
use Rattle.dbpl_value.specs.declared.bound.Bound.{Bound}

pub some-inside : {A : Type 0} (x y : A) → Some x ≡ Some y → x ≡ y
some-inside x y same = cc

-- what stands for one database stands for no other
pub stands-one : (log pages : List ℕ) (database other : List Bound) → stands log pages ≡ Some database → stands log pages ≡ Some other → database ≡ other
stands-one log pages database other first second = some-inside database other (sym first ∙ second)

by-records :
    (log : List ℕ) (database : List Bound) (found : Option (List (List ℕ))) → records_of log ≡ found →
    option_and_then (newest []) found ≡ Some database → HasHead log
by-records log database None is stood = absurd cc
by-records log database (Some records) is stood = (records_head log records is).0

pub stands-head : (log pages : List ℕ) (database : List Bound) → stands log pages ≡ Some database → HasHead log
unfolding stands
stands-head log pages database stood = by-records log database (records_of log) refl stood
