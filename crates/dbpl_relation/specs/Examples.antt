-- Example types and values: positions with quantities, and parts that have some.
use Rattle.std.specs.Prelude.{ℕ, pos, List, [], ◌∷◌, codes}
use Rattle.dbpl_value.specs.declared.db_type.DbType.{DbType}
use Rattle.dbpl_value.specs.declared.db_type.DbType.TheVariants as types
use Rattle.dbpl_value.specs.declared.field.Field.{Field}
use Rattle.dbpl_value.specs.declared.value.Value.{Value}
use Rattle.dbpl_value.specs.declared.value.Value.TheVariants as value

abbrev pub field : List ℕ → DbType → Field
field name kind = record { name = name; kind = kind }

-- RECORD pos, qty: CARDINAL END
abbrev pub sub : DbType
sub = types.Rec (field (codes "pos") types.Card ∷ field (codes "qty") types.Card ∷ [])

-- RELATION pos OF sub
abbrev pub subs : DbType
subs = types.Rel (codes "pos" ∷ []) sub

-- RECORD num: CARDINAL; subs: (the relation above) END
abbrev pub part : DbType
part = types.Rec (field (codes "num") types.Card ∷ field (codes "subs") subs ∷ [])

-- RELATION num OF part
abbrev pub parts : DbType
parts = types.Rel (codes "num" ∷ []) part

abbrev pub sub_of : ℕ → ℕ → Value
sub_of position quantity = value.Rec (value.Num (pos position) ∷ value.Num (pos quantity) ∷ [])

abbrev pub part_of : ℕ → Value → Value
part_of number held = value.Rec (value.Num (pos number) ∷ held ∷ [])
