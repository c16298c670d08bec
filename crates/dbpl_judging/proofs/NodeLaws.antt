-- How many nodes a record has, field by field.
use Rattle.std.proofs.Common.{◌≡◌, ℕ, ◌+◌, ◌<◌, ◌≤◌, List, [], ◌∷◌, ◌++◌, length, take, get_or, map, refl, ap, sym, ◌∙◌, arith}
use Rattle.std.proofs.lemmas.List.{take_more}
use Rattle.std.proofs.lemmas.List.Sums.{sum_by-append, sum_by-cons, sum_by-take-le}
use Rattle.std.specs.List.{sum_by}
use Rattle.dbpl_value.proofs.TypeParts.{by_answers-out}
use Rattle.dbpl_value.specs.declared.db_type.DbType.{DbType, DbType-F, map-DbType, out-DbType}
use Rattle.dbpl_value.specs.declared.db_type.DbType.TheVariants as types
use Rattle.dbpl_value.specs.declared.field.Field.{Field}
use Rattle.dbpl_judging.specs.Nodes.{nodes_level, nodes_of}

abbrev pub field_nodes : Field → ℕ
field_nodes field = nodes_of field.kind + 1

abbrev counted : DbType-F DbType Field → DbType-F ℕ ℕ
counted level = map-DbType DbType Field ℕ ℕ nodes_of (λ field. nodes_of field.kind) level

nodes_of-out : (t : DbType) → nodes_of t ≡ nodes_level (counted (out-DbType t))
nodes_of-out t = by_answers-out ℕ nodes_level t

pub nodes_of_card : nodes_of types.Card ≡ 1
nodes_of_card = rw (nodes_of-out types.Card, types.outs-Card) refl

mapped : (fields : List Field) →
    sum_by (λ nodes. nodes + 1) (map (λ (field : Field). nodes_of field.kind) fields) ≡ sum_by field_nodes fields
mapped [] = refl
mapped (field ∷ fields) =
    sum_by-cons (λ nodes. nodes + 1) (nodes_of field.kind) (map (λ (one : Field). nodes_of one.kind) fields)
    ∙ ap (λ n. field_nodes field + n) (mapped fields) ∙ sym (sum_by-cons field_nodes field fields)

pub nodes_of_rec : (fields : List Field) → nodes_of (types.Rec fields) ≡ sum_by field_nodes fields + 1
nodes_of_rec fields =
    rw (nodes_of-out (types.Rec fields), types.outs-Rec fields) (ap (λ n. n + 1) (mapped fields))

-- one field more
pub field_more : (fields : List Field) (at : ℕ) (field : Field) → at < length fields → field ≡ get_or fields at field →
    sum_by field_nodes (take (at + 1) fields) ≡ sum_by field_nodes (take at fields) + field_nodes field
field_more fields at field within is =
    ap (sum_by field_nodes) (take_more fields at field within ∙ ap (λ one. take at fields ++ one ∷ []) (sym is))
    ∙ sum_by-append field_nodes (take at fields) (field ∷ [])
    ∙ ap (λ n. sum_by field_nodes (take at fields) + n) (sum_by-cons field_nodes field [] ∙ omega arith)

-- the same against all of them
pub field_within : (fields : List Field) (at : ℕ) (field : Field) → at < length fields → field ≡ get_or fields at field →
    sum_by field_nodes (take at fields) + field_nodes field ≤ sum_by field_nodes fields
field_within fields at field within is =
    omega (arith, field_more fields at field within is, sum_by-take-le field_nodes fields (at + 1))
