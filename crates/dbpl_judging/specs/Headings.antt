-- What the phrases in a routine ask of its heading.
use Rattle.std.specs.Prelude.{Option, Some, None}
use Rattle.dbpl_judging.specs.declared.gives.Gives.{Gives}
use Rattle.dbpl_judging.specs.declared.gives.Gives.TheVariants as gives
use Rattle.dbpl_judging.specs.declared.heading.Heading.{Heading}
use Rattle.dbpl_value.specs.declared.db_type.DbType.{DbType}
use Rattle.dbpl_value.specs.declared.head.Head.{Head}

abbrev pub gives_of : Option DbType → Gives
gives_of None = gives.Nothing
gives_of (Some t) = gives.Value t

-- THE same of a heading that was not refused
abbrev pub heading_of : Head → Heading
heading_of head = record { transaction = head.transaction; result = gives_of head.result }
