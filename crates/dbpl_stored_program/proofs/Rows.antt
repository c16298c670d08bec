-- Rows are records of a flat relation type.
use Rattle.std.proofs.Common.{◌≡◌, ℕ, Bool, true, ◌&&◌, List, [], ◌∷◌, length, map, refl, ap, sym, ◌∙◌, arith}
use Rattle.std.proofs.lemmas.Bool.{eqb-true}
use Rattle.std.proofs.lemmas.Bool.Decides.{nat_tests}
use Rattle.std.proofs.lemmas.List.{length-map}
use Rattle.std.specs.Cmp.{first_so, second_so}
use Rattle.std.specs.Cmp.Derive.{both_true}
use Rattle.std.specs.List.{list_all, zip}
use Rattle.std.specs.Prelude.{ℤ, nat_eq}
use Rattle.dbpl_stored_program.specs.Programs.{are_rows, is_cardinal, is_cardinal_field, is_cardinal_level, is_flat, is_in_cardinal, is_row}
use Rattle.dbpl_stored_program.specs.Sets.{record_of}
use Rattle.dbpl_stored_program.specs.declared.insertion.Insertion.{Insertion}
use Rattle.dbpl_relation.specs.Relations.{is_relation_type}
use Rattle.dbpl_value.proofs.ValuesLemmas.{is_of-out, tested}
use Rattle.dbpl_value.specs.Types.{element_of, fields_level, fields_of, is_record, is_record_level}
use Rattle.dbpl_value.specs.Values.{is_of, is_of_level}
use Rattle.dbpl_value.specs.declared.db_type.DbType.{DbType, DbType-F, out-DbType, roll-DbType, roll-out-DbType}
use Rattle.dbpl_value.specs.declared.db_type.DbType.TheOpen as kinds
use Rattle.dbpl_value.specs.declared.db_type.DbType.TheVariants as types
use Rattle.dbpl_value.specs.declared.db_type.DbType.TheVariants.{outs-Card, outs-Rec, rolls-Card, rolls-Rec}
use Rattle.dbpl_value.specs.declared.field.Field.{Field}
use Rattle.dbpl_value.specs.declared.value.Value.{Value, out-Value}
use Rattle.dbpl_value.specs.declared.value.Value.TheOpen as values
use Rattle.dbpl_value.specs.declared.value.Value.TheVariants as value
use Rattle.dbpl_value.specs.declared.value.Value.TheVariants.{outs-Num, outs-Rec as outs-Record}

-- ---- types by their tests

cardinal_level : (level : DbType-F DbType Field) → is_cardinal_level level ≡ true → level ≡ kinds.Card
cardinal_level kinds.Int h = cc
cardinal_level kinds.Card h = refl
cardinal_level kinds.Bool h = cc
cardinal_level kinds.Char h = cc
cardinal_level (kinds.Enum names) h = cc
cardinal_level (kinds.Sub host least greatest) h = cc
cardinal_level (kinds.Arr index element) h = cc
cardinal_level (kinds.Rec fields) h = cc
cardinal_level (kinds.Rel keys record_type) h = cc

pub is_Card : (t : DbType) → is_cardinal t ≡ true → t ≡ types.Card
is_Card t h = sym (roll-out-DbType t) ∙ ap roll-DbType (cardinal_level (out-DbType t) h) ∙ rolls-Card

record_level :
    (level : DbType-F DbType Field) → is_record_level level ≡ true → level ≡ kinds.Rec (fields_level level)
record_level kinds.Int h = cc
record_level kinds.Card h = cc
record_level kinds.Bool h = cc
record_level kinds.Char h = cc
record_level (kinds.Enum names) h = cc
record_level (kinds.Sub host least greatest) h = cc
record_level (kinds.Arr index element) h = cc
record_level (kinds.Rec fields) h = refl
record_level (kinds.Rel keys record_type) h = cc

pub is_Rec : (t : DbType) → is_record t ≡ true → t ≡ types.Rec (fields_of t)
is_Rec t h =
    sym (roll-out-DbType t) ∙ ap roll-DbType (record_level (out-DbType t) h) ∙ rolls-Rec (fields_of t)

-- ---- a flat type

pub flat-relation : (t : DbType) → is_flat t ≡ true → is_relation_type t ≡ true
flat-relation t h =
    first_so (is_relation_type t) (is_record (element_of t))
    (first_so (is_relation_type t && is_record (element_of t)) (list_all is_cardinal_field (fields_of (element_of t))) h)

pub flat-record : (t : DbType) → is_flat t ≡ true → element_of t ≡ types.Rec (fields_of (element_of t))
flat-record t h =
    is_Rec (element_of t)
    (second_so (is_relation_type t) (is_record (element_of t))
    (first_so (is_relation_type t && is_record (element_of t)) (list_all is_cardinal_field (fields_of (element_of t))) h))

pub flat-fields : (t : DbType) → is_flat t ≡ true → list_all is_cardinal_field (fields_of (element_of t)) ≡ true
flat-fields t h =
    second_so (is_relation_type t && is_record (element_of t)) (list_all is_cardinal_field (fields_of (element_of t))) h

-- ---- a row

card-is_of : (t : DbType) (n : ℤ) → is_cardinal t ≡ true → is_in_cardinal n ≡ true → is_of t (value.Num n) ≡ true
card-is_of t n kind h =
    ap (λ (x : DbType). is_of x (value.Num n)) (is_Card t kind) ∙ is_of-out types.Card (value.Num n)
    ∙ rw (outs-Card, outs-Num n) h

abbrev tests_of : List Field → List (Value → Bool)
tests_of fields =
    map (λ (field : Field × (Value → Bool)). field.1) (map (λ (field : Field). (field, is_of field.kind)) fields)

numbers-pass :
    (fields : List Field) (row : List ℤ) → list_all is_cardinal_field fields ≡ true → list_all is_in_cardinal row ≡ true →
    list_all (λ (pair : (Value → Bool) × Value). pair.0 pair.1) (zip (tests_of fields) (map value.Num row)) ≡ true
numbers-pass [] row flat h = refl
numbers-pass (field ∷ fields) [] flat h = refl
numbers-pass (field ∷ fields) (n ∷ row) flat h =
    both_true
    (card-is_of field.kind n (first_so (is_cardinal_field field) (list_all is_cardinal_field fields) flat)
    (first_so (is_in_cardinal n) (list_all is_in_cardinal row) h))
    (numbers-pass fields row (second_so (is_cardinal_field field) (list_all is_cardinal_field fields) flat)
    (second_so (is_in_cardinal n) (list_all is_in_cardinal row) h))

nat_eq-same : (a b : ℕ) → a ≡ b → nat_eq a b ≡ true
nat_eq-same a b e = grind (arith, nat_tests)

level :
    (fields : List Field) (parts : List Value) →
    is_of (types.Rec fields) (value.Rec parts) ≡ is_of_level (tested (kinds.Rec fields)) (values.Rec parts)
level fields parts =
    is_of-out (types.Rec fields) (value.Rec parts)
    ∙ ap (λ level. is_of_level (tested level) (out-Value (value.Rec parts))) (outs-Rec fields)
    ∙ ap (is_of_level (tested (kinds.Rec fields))) (outs-Record parts)

row-is_of :
    (fields : List Field) (row : List ℤ) → list_all is_cardinal_field fields ≡ true → is_row fields row ≡ true →
    is_of (types.Rec fields) (record_of row) ≡ true
row-is_of fields row flat h =
    let long : length row ≡ length fields = eqb-true (length row) (length fields) (first_so (nat_eq (length row) (length fields)) (list_all is_in_cardinal row) h) in
    level fields (map value.Num row)
    ∙ both_true
    (nat_eq-same (length (map value.Num row)) (length (tests_of fields)) (simp length-map long))
    (numbers-pass fields row flat (second_so (nat_eq (length row) (length fields)) (list_all is_in_cardinal row) h))

rows-are_of :
    (fields : List Field) (rows : List (List ℤ)) → list_all is_cardinal_field fields ≡ true →
    list_all (is_row fields) rows ≡ true → list_all (is_of (types.Rec fields)) (map record_of rows) ≡ true
rows-are_of fields [] flat h = refl
rows-are_of fields (row ∷ rows) flat h =
    both_true (row-is_of fields row flat (first_so (is_row fields row) (list_all (is_row fields) rows) h))
    (rows-are_of fields rows flat (second_so (is_row fields row) (list_all (is_row fields) rows) h))

-- the rows of an insertion are records of the relation
pub rows-records :
    (t : DbType) (insertion : Insertion) → is_flat t ≡ true → are_rows t insertion ≡ true →
    list_all (is_of (element_of t)) (map record_of insertion.rows) ≡ true
rows-records t insertion flat rows =
    ap (λ (x : DbType). list_all (is_of x) (map record_of insertion.rows)) (flat-record t flat)
    ∙ rows-are_of (fields_of (element_of t)) insertion.rows (flat-fields t flat) rows
