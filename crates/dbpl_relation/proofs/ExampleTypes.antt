-- The example types are of relations, and the example records are of them.
use Rattle.std.proofs.Common.{◌≡◌, ◌<◌, ℕ, true, List, [], ◌∷◌, refl, ap, ◌∙◌, arith}
use Rattle.std.proofs.lemmas.Bool.Decides.{nat_tests}
use Rattle.std.specs.Prelude.{codes, pos}
use Rattle.dbpl_value.proofs.ValuesLemmas.{is_of-out, tested}
use Rattle.dbpl_value.specs.Types.{element_of, is_in}
use Rattle.dbpl_value.specs.Values.{is_of, is_of_level}
use Rattle.dbpl_value.specs.declared.db_type.DbType.{DbType}
use Rattle.dbpl_value.specs.declared.db_type.DbType.TheVariants as types
use Rattle.dbpl_value.specs.declared.db_type.DbType.TheVariants.{outs-Card, outs-Rec, outs-Rel}
use Rattle.dbpl_value.specs.declared.db_type.DbType.TheOpen as kinds
use Rattle.dbpl_value.specs.declared.field.Field.{Field}
use Rattle.dbpl_value.specs.declared.value.Value.{Value, out-Value}
use Rattle.dbpl_value.specs.declared.value.Value.TheOpen as values
use Rattle.dbpl_value.specs.declared.value.Value.TheVariants as value
use Rattle.dbpl_value.specs.declared.value.Value.TheVariants.{outs-Num, outs-Rec as outs-Record}
use Rattle.dbpl_relation.proofs.OfType.{is_of-Rel}
use Rattle.dbpl_relation.specs.Examples.{part, part_of, parts, sub, sub_of, subs}
use Rattle.dbpl_relation.specs.Relations.{is_relation_type}

pub subs-kind : is_relation_type subs ≡ true
subs-kind = rw (outs-Rel _ sub) refl

pub parts-kind : is_relation_type parts ≡ true
parts-kind = rw (outs-Rel _ part) refl

within : (n : ℕ) → n < 4294967296 → is_in (record { least = pos 0; greatest = pos 4294967295 }) (pos n) ≡ true
within n h = grind (arith, nat_tests)

pub card-is_of : (n : ℕ) → n < 4294967296 → is_of types.Card (value.Num (pos n)) ≡ true
card-is_of n h = is_of-out types.Card (value.Num (pos n)) ∙ rw (outs-Card, outs-Num (pos n)) (within n h)

level :
    (fields : List Field) (vs : List Value) →
    is_of (types.Rec fields) (value.Rec vs) ≡ is_of_level (tested (kinds.Rec fields)) (values.Rec vs)
level fields vs =
    is_of-out (types.Rec fields) (value.Rec vs)
    ∙ ap (λ level. is_of_level (tested level) (out-Value (value.Rec vs))) (outs-Rec fields)
    ∙ ap (is_of_level (tested (kinds.Rec fields))) (outs-Record vs)

pub sub_of-is_of :
    (position quantity : ℕ) → position < 4294967296 → quantity < 4294967296 →
    is_of sub (sub_of position quantity) ≡ true
sub_of-is_of position quantity h g =
    level _ (value.Num (pos position) ∷ value.Num (pos quantity) ∷ [])
    ∙ rw (card-is_of position h, card-is_of quantity g) refl

pub part_of-is_of :
    (number : ℕ) (held : Value) → number < 4294967296 → is_of subs held ≡ true → is_of part (part_of number held) ≡ true
part_of-is_of number held h g =
    level _ (value.Num (pos number) ∷ held ∷ []) ∙ rw (card-is_of number h, g) refl

pub subs-element : element_of subs ≡ sub
subs-element = rw (outs-Rel (codes "pos" ∷ []) sub) refl

pub parts-element : element_of parts ≡ part
parts-element = rw (outs-Rel (codes "num" ∷ []) part) refl

-- a relation with one record
pub one-is_of :
    (t : DbType) (element : Value) → is_relation_type t ≡ true → is_of (element_of t) element ≡ true →
    is_of t (value.Rel (element ∷ [])) ≡ true
one-is_of t element h g = is_of-Rel t (element ∷ []) h ∙ rw g refl

pub none-is_of : (t : DbType) → is_relation_type t ≡ true → is_of t (value.Rel []) ≡ true
none-is_of t h = is_of-Rel t [] h

pub one_sub-is_of :
    (position quantity : ℕ) → position < 4294967296 → quantity < 4294967296 →
    is_of subs (value.Rel (sub_of position quantity ∷ [])) ≡ true
one_sub-is_of position quantity h g =
    one-is_of subs (sub_of position quantity) subs-kind
    (ap (λ t. is_of t (sub_of position quantity)) subs-element ∙ sub_of-is_of position quantity h g)

pub one_part-is_of :
    (number : ℕ) (held : Value) → number < 4294967296 → is_of subs held ≡ true →
    is_of parts (value.Rel (part_of number held ∷ [])) ≡ true
one_part-is_of number held h g =
    one-is_of parts (part_of number held) parts-kind
    (ap (λ t. is_of t (part_of number held)) parts-element ∙ part_of-is_of number held h g)
