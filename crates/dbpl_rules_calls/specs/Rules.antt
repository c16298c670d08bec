-- The rules of calls, each by its number.
use Rattle.std.specs.Prelude.{ℕ, Bool, true, false, ◌&&◌, ◌||◌, ◌==◌, is_some, length, ℤ, pos, int_le, Option, Some, None}
use Rattle.dbpl_judging.specs.declared.facts.Facts.{Facts}
use Rattle.dbpl_judging.specs.declared.kind.Kind.{Kind}
use Rattle.dbpl_judging.specs.declared.kind.Kind.TheVariants as phrases
use Rattle.dbpl_rules_calls.specs.declared.denoted.Denoted.{Denoted}
use Rattle.dbpl_rules_operators.specs.Fitting.{fits, lies_in}
use Rattle.dbpl_rules_operators.specs.Hosts.{host, is_character, is_whole}
use Rattle.dbpl_rules_operators.specs.declared.host.Host.{Host}
use Rattle.dbpl_rules_operators.specs.declared.host.Host.TheVariants as hosts
use Rattle.dbpl_symbols.specs.declared.decl.Decl.{Decl, Decl-F, out-Decl}
use Rattle.dbpl_symbols.specs.declared.decl.Decl.TheOpen as decls
use Rattle.dbpl_symbols.specs.declared.standard_procedure.StandardProcedure.{StandardProcedure}
use Rattle.dbpl_symbols.specs.declared.standard_procedure.StandardProcedure.TheVariants as standard
use Rattle.dbpl_value.specs.Equality.{is_same_type}
use Rattle.dbpl_value.specs.Types.{is_char_array, is_ordinal}
use Rattle.dbpl_value.specs.declared.db_type.DbType.{DbType, DbType-F, out-DbType}
use Rattle.dbpl_value.specs.declared.db_type.DbType.TheOpen as kinds
use Rattle.dbpl_value.specs.declared.db_type.DbType.TheVariants as types
use Rattle.dbpl_value.specs.declared.head.Head.{Head}

abbrev pub is_count_of : StandardProcedure → ℕ → Bool
is_count_of standard.Inc count = count == 1 || count == 2
is_count_of standard.Dec count = count == 1 || count == 2
is_count_of standard.Val count = count == 2
is_count_of standard.Halt count = count == 0
is_count_of standard.Abort count = count == 0
is_count_of _ count = count == 1

abbrev pub is_count_for : Option Head → ℕ → Bool
is_count_for None count = count == 1
is_count_for (Some head) count = count == length head.params

abbrev pub takes_count : {D E P : Type 0} → Decl-F D E P → ℕ → Bool
takes_count (decls.Routine owner head) count = is_count_for (Some head) count
takes_count (decls.InOut which head) count = is_count_for head count
takes_count (decls.Standard which) count = is_count_of which count
takes_count _ count = true

-- S36: A call has as many arguments as parameters: INC and DEC one or two, the other standard procedures theirs.
abbrev pub S36 : Decl → ℕ → Bool
S36 decl count = takes_count (out-Decl decl) count

-- S37: A value argument is assignable to its parameter.
abbrev pub S37 : DbType → Facts → Bool
S37 = fits

-- S38: A VAR argument is of the parameter's type, and neither Done nor the variable of a range.
abbrev pub S38 : DbType → Denoted → Bool
S38 t denoted = denoted.may_change && is_same_type denoted.kind t

abbrev pub gives : StandardProcedure → Bool
gives standard.Inc = false
gives standard.Dec = false
gives standard.Halt = false
gives standard.Abort = false
gives _ = true

abbrev pub is_function : {D E P : Type 0} → Decl-F D E P → Bool
is_function (decls.Routine owner head) = is_some head.result
is_function (decls.InOut which head) = false
is_function (decls.Standard which) = gives which
is_function _ = false

-- S39: In an expression a function is called.
abbrev pub S39 : Decl → Bool
S39 decl = is_function (out-Decl decl)

-- a BOOLEAN, a CHAR, an enumeration, the host CARDINAL, or a whole constant from 0 on
abbrev pub has_order_number : Host → Option ℤ → Bool
has_order_number hosts.Integer number = false
has_order_number hosts.Other number = false
has_order_number hosts.Whole (Some n) = int_le (pos 0) n
has_order_number _ number = true

abbrev pub is_relation_level : {X Y : Type 0} → DbType-F X Y → Bool
is_relation_level (kinds.Rel keys record_type) = true
is_relation_level _ = false

abbrev pub is_relation_type : DbType → Bool
is_relation_type t = is_relation_level (out-DbType t)

abbrev pub is_relation_phrase : Kind → Bool
is_relation_phrase (phrases.Of t) = is_relation_type t
is_relation_phrase _ = false

-- S40: Standard procedures take what they are made for. ABS takes what is assignable to INTEGER, ODD and CHR a whole value (of
-- constants CHR one from 0 to 255), CAP a CHAR, ORD what has an order number, VAL, INC and DEC behind the comma a whole value,
-- CARD a relation.
abbrev pub S40 : StandardProcedure → Facts → Bool
S40 standard.Abs facts = fits types.Int facts
S40 standard.Odd facts = is_whole (host facts.kind)
S40 standard.Chr facts = is_whole (host facts.kind) && lies_in types.Char facts.number
S40 standard.Cap facts = is_character (host facts.kind)
S40 standard.Ord facts = has_order_number (host facts.kind) facts.number
S40 standard.Val facts = is_whole (host facts.kind)
S40 standard.Inc facts = is_whole (host facts.kind)
S40 standard.Dec facts = is_whole (host facts.kind)
S40 standard.Card facts = is_relation_phrase facts.kind
S40 _ facts = true

-- S40: MIN, MAX and VAL take an ordinal type, INC and DEC an ordinal variable.
abbrev pub S40_type : DbType → Bool
S40_type = is_ordinal

-- S40: WriteString takes a string, or an array of CHAR of any length.
abbrev pub S40_characters : Kind → Bool
S40_characters (phrases.Text length first) = true
S40_characters (phrases.Of t) = is_char_array t
S40_characters _ = false
