-- A relation of a type is the list of its records.
use Rattle.std.proofs.Common.{◌≡◌, Bool, true, ◌&&◌, List, ◌∷◌, refl, ap, sym, ◌∙◌}
use Rattle.std.specs.List.{list_all}
use Rattle.std.specs.Cmp.{first_so, second_so}
use Rattle.dbpl_value.proofs.ValuesLemmas.{is_of-out, tested}
use Rattle.dbpl_value.specs.Keys.{keys_rise, parts_of}
use Rattle.dbpl_value.specs.Types.{element_level, element_of}
use Rattle.dbpl_value.specs.Values.{is_of, is_of_level}
use Rattle.dbpl_value.specs.declared.db_type.DbType.{DbType, DbType-F, out-DbType, roll-DbType, roll-out-DbType}
use Rattle.dbpl_value.specs.declared.db_type.DbType.TheOpen as kinds
use Rattle.dbpl_value.specs.declared.db_type.DbType.TheVariants.{rolls-Rel}
use Rattle.dbpl_value.specs.declared.field.Field.{Field}
use Rattle.dbpl_value.specs.declared.value.Value.{Value, Value-F, out-Value, roll-Value, roll-out-Value}
use Rattle.dbpl_value.specs.declared.value.Value.TheOpen as values
use Rattle.dbpl_value.specs.declared.value.Value.TheVariants as value
use Rattle.dbpl_value.specs.declared.value.Value.TheVariants.{outs-Rel, rolls-Rel as rolls-Relation}
use Rattle.dbpl_relation.proofs.Puts.{both_so, merged-all, merged-rises}
use Rattle.dbpl_relation.specs.Relations.{are_records, stands_before, merged, is_relation_level, is_relation_type}

-- the records that the level of a type asks for
level_asks : DbType → DbType-F DbType Field → List Value → Bool
level_asks t level records = list_all (is_of (element_level t level)) records && keys_rise t records

rel_level :
    (t : DbType) (records : List Value) (level : DbType-F DbType Field) → level ≡ out-DbType t →
    is_relation_level level ≡ true →
    is_of_level (tested level) (values.Rel records) ≡ list_all (is_of (element_level t level)) records && keys_rise t records
rel_level t records (kinds.Rel keys record_type) e h =
    let same = sym (rolls-Rel keys record_type) ∙ ap roll-DbType e ∙ roll-out-DbType t in
    ap (λ (x : DbType). list_all (is_of record_type) records && keys_rise x records) same
rel_level t records kinds.Int e h = cc
rel_level t records kinds.Card e h = cc
rel_level t records kinds.Bool e h = cc
rel_level t records kinds.Char e h = cc
rel_level t records (kinds.Enum names) e h = cc
rel_level t records (kinds.Sub host least greatest) e h = cc
rel_level t records (kinds.Arr index element) e h = cc
rel_level t records (kinds.Rec fields) e h = cc

-- which lists of records are a relation of the type
pub is_of-Rel :
    (t : DbType) (records : List Value) → is_relation_type t ≡ true →
    is_of t (value.Rel records) ≡ are_records t records
is_of-Rel t records h =
    is_of-out t (value.Rel records) ∙ ap (is_of_level (tested (out-DbType t))) (outs-Rel records)
    ∙ rel_level t records (out-DbType t) refl h

is_rel_level :
    (level : DbType-F DbType Field) (v : Value-F Value) → is_relation_level level ≡ true →
    is_of_level (tested level) v ≡ true → (records : List Value) × (v ≡ values.Rel records)
is_rel_level (kinds.Rel keys record_type) (values.Num n) h g = cc
is_rel_level (kinds.Rel keys record_type) (values.Arr parts) h g = cc
is_rel_level (kinds.Rel keys record_type) (values.Rec parts) h g = cc
is_rel_level (kinds.Rel keys record_type) (values.Rel parts) h g = (parts, refl)
is_rel_level kinds.Int v h g = cc
is_rel_level kinds.Card v h g = cc
is_rel_level kinds.Bool v h g = cc
is_rel_level kinds.Char v h g = cc
is_rel_level (kinds.Enum names) v h g = cc
is_rel_level (kinds.Sub host least greatest) v h g = cc
is_rel_level (kinds.Arr index element) v h g = cc
is_rel_level (kinds.Rec fields) v h g = cc

-- a value of a relation type is a relation
pub is_Rel :
    (t : DbType) (v : Value) → is_relation_type t ≡ true → is_of t v ≡ true →
    (records : List Value) × (v ≡ value.Rel records)
is_Rel t v h g =
    let found = is_rel_level (out-DbType t) (out-Value v) h (sym (is_of-out t v) ∙ g) in
    (found.0, sym (roll-out-Value v) ∙ ap roll-Value found.1 ∙ rolls-Relation found.0)

pub parts_of-Rel : (records : List Value) → parts_of (value.Rel records) ≡ records
parts_of-Rel records = rw (outs-Rel records) refl

-- and its parts are its records
pub is_Rel-parts : (t : DbType) (v : Value) → is_relation_type t ≡ true → is_of t v ≡ true → v ≡ value.Rel (parts_of v)
is_Rel-parts t v h g =
    let found = is_Rel t v h g in
    found.1 ∙ ap value.Rel (sym (parts_of-Rel found.0) ∙ ap parts_of (sym found.1))

pub are_records-parts :
    (t : DbType) (v : Value) → is_relation_type t ≡ true → is_of t v ≡ true → are_records t (parts_of v) ≡ true
are_records-parts t v h g =
    sym (is_of-Rel t (parts_of v) h) ∙ ap (is_of t) (sym (is_Rel-parts t v h g)) ∙ g

pub are_records-all :
    (t : DbType) (records : List Value) → are_records t records ≡ true → list_all (is_of (element_of t)) records ≡ true
are_records-all t records h = first_so (list_all (is_of (element_of t)) records) (keys_rise t records) h

pub are_records-rise : (t : DbType) (records : List Value) → are_records t records ≡ true → keys_rise t records ≡ true
are_records-rise t records h = second_so (list_all (is_of (element_of t)) records) (keys_rise t records) h

pub are_records-of :
    (t : DbType) (records : List Value) → list_all (is_of (element_of t)) records ≡ true → keys_rise t records ≡ true →
    are_records t records ≡ true
are_records-of t records all rise = both_so (list_all (is_of (element_of t)) records) (keys_rise t records) all rise

pub are_records-rest :
    (t : DbType) (first : Value) (rest : List Value) → are_records t (first ∷ rest) ≡ true → are_records t rest ≡ true
are_records-rest t first rest h =
    are_records-of t rest
    (second_so (is_of (element_of t) first) (list_all (is_of (element_of t)) rest) (are_records-all t (first ∷ rest) h))
    (second_so (list_all (stands_before t first) rest) (keys_rise t rest) (are_records-rise t (first ∷ rest) h))

pub are_records-first :
    (t : DbType) (first : Value) (rest : List Value) → are_records t (first ∷ rest) ≡ true →
    is_of (element_of t) first ≡ true
are_records-first t first rest h =
    first_so (is_of (element_of t) first) (list_all (is_of (element_of t)) rest) (are_records-all t (first ∷ rest) h)

pub are_records-merged :
    (t : DbType) (records others : List Value) → are_records t records ≡ true → are_records t others ≡ true →
    are_records t (merged t records others) ≡ true
are_records-merged t records others h g =
    are_records-of t (merged t records others)
    (merged-all t (is_of (element_of t)) records others (are_records-all t records h) (are_records-all t others g))
    (merged-rises t records others (are_records-rise t records h))
