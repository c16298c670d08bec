-- Hosts. The host of a subrange is the type of its bounds; every other ordinal type is its own host.
use Rattle.std.specs.Prelude.{Bool, true, false, ◌==◌, if◌then◌else◌, Option, Some, None}
use Rattle.dbpl_core.specs.declared.whole_host.WholeHost.{WholeHost}
use Rattle.dbpl_core.specs.declared.whole_host.WholeHost.TheVariants as whole_hosts
use Rattle.dbpl_judging.specs.declared.kind.Kind.{Kind}
use Rattle.dbpl_judging.specs.declared.kind.Kind.TheVariants as phrases
use Rattle.dbpl_rules_operators.specs.declared.host.Host.{Host}
use Rattle.dbpl_rules_operators.specs.declared.host.Host.TheVariants as hosts
use Rattle.dbpl_value.specs.Equality.{is_same_type}
use Rattle.dbpl_value.specs.declared.db_type.DbType.{DbType, DbType-F, out-DbType}
use Rattle.dbpl_value.specs.declared.db_type.DbType.TheOpen as kinds
use Rattle.dbpl_value.specs.declared.db_type.DbType.TheVariants as types

-- ---- types

abbrev pub host_type_level : {Y : Type 0} → DbType → DbType-F DbType Y → DbType
host_type_level t (kinds.Sub host least greatest) = host
host_type_level t _ = t

-- the type of the bounds of a subrange, and every other type itself
abbrev pub host_type : DbType → DbType
host_type t = host_type_level t (out-DbType t)

-- one host, or one type that isn't ordinal
abbrev pub has_one_host : DbType → DbType → Bool
has_one_host t other = is_same_type (host_type t) (host_type other)

abbrev pub plain_host : {X Y : Type 0} → DbType-F X Y → Host
plain_host kinds.Int = hosts.Integer
plain_host kinds.Card = hosts.Cardinal
plain_host kinds.Bool = hosts.Boolean
plain_host kinds.Char = hosts.Char
plain_host (kinds.Enum names) = hosts.Enumeration
plain_host _ = hosts.Other

abbrev pub host_of : DbType → Host
host_of t = plain_host (out-DbType (host_type t))

-- ---- phrases

-- THE host of a phrase: a string of one character is a CHAR
abbrev pub host : Kind → Host
host phrases.Whole = hosts.Whole
host (phrases.Text length first) = if length == 1 then hosts.Char else hosts.Other
host (phrases.Of t) = host_of t

abbrev pub is_whole : Host → Bool
is_whole hosts.Whole = true
is_whole hosts.Integer = true
is_whole hosts.Cardinal = true
is_whole _ = false

abbrev pub is_boolean : Host → Bool
is_boolean hosts.Boolean = true
is_boolean _ = false

abbrev pub is_character : Host → Bool
is_character hosts.Char = true
is_character _ = false

abbrev pub is_other : Host → Bool
is_other hosts.Other = true
is_other _ = false

-- the host of two whole operands: that of the one that isn't a constant
abbrev pub joined : Host → Host → Host
joined hosts.Whole second = second
joined first second = first

-- the host in which a result must lie, and none for that of constants
abbrev pub result_host : Host → Option WholeHost
result_host hosts.Integer = Some whole_hosts.Integer
result_host hosts.Cardinal = Some whole_hosts.Cardinal
result_host _ = None

-- what a result in this whole host is
abbrev pub whole_kind : Host → Kind
whole_kind hosts.Integer = phrases.Of types.Int
whole_kind hosts.Cardinal = phrases.Of types.Card
whole_kind _ = phrases.Whole
