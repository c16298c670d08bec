-- What a call gives in an expression.
use Rattle.std.specs.Prelude.{ℕ, Bool, true, false, if◌then◌else◌, List, [], ◌∷◌, ℤ, Option, Some, None, option_map, option_and_then}
use Rattle.std.specs.List.{filter_map}
use Rattle.dbpl_base.specs.declared.place.Place.{Place}
use Rattle.dbpl_core.specs.declared.argument_of.CoreArgumentOf.{CoreArgumentOf}
use Rattle.dbpl_core.specs.declared.argument_of.CoreArgumentOf.TheVariants as core
use Rattle.dbpl_core.specs.declared.expr.CoreExpr.{CoreExpr}
use Rattle.dbpl_core.specs.declared.expr.CoreExpr.TheVariants as trees
use Rattle.dbpl_core.specs.declared.standard_function.StandardFunction.{StandardFunction}
use Rattle.dbpl_core.specs.declared.standard_function.StandardFunction.TheVariants as functions
use Rattle.dbpl_judging.specs.Judgements.{Judged, asks, both, good, ◌>>◌}
use Rattle.dbpl_judging.specs.declared.facts.Facts.{Facts}
use Rattle.dbpl_judging.specs.declared.kind.Kind.TheVariants as phrases
use Rattle.dbpl_judging.specs.declared.typed.Typed.{Typed}
use Rattle.dbpl_rules_calls.specs.Rules.{S36, S39}
use Rattle.dbpl_rules_calls.specs.declared.argument.Argument.{Argument}
use Rattle.dbpl_rules_calls.specs.declared.argument.Argument.TheVariants as arguments
use Rattle.dbpl_rules_operators.specs.Hosts.{host_of, host_type, is_whole}
use Rattle.dbpl_rules_operators.specs.Literals.{numbered}
use Rattle.dbpl_symbols.specs.declared.decl.Decl.{Decl, Decl-F, out-Decl}
use Rattle.dbpl_symbols.specs.declared.decl.Decl.TheOpen as decls
use Rattle.dbpl_symbols.specs.declared.standard_procedure.StandardProcedure.{StandardProcedure}
use Rattle.dbpl_symbols.specs.declared.standard_procedure.StandardProcedure.TheVariants as standard
use Rattle.dbpl_value.specs.Types.{range_of}
use Rattle.dbpl_value.specs.declared.db_type.DbType.{DbType}
use Rattle.dbpl_value.specs.declared.db_type.DbType.TheVariants as types
use Rattle.dbpl_value.specs.declared.head.Head.{Head}
use Rattle.dbpl_value.specs.declared.range.Range.{Range}

-- ---- routines

abbrev pub core_argument : Argument → Option (CoreArgumentOf CoreExpr)
core_argument (arguments.Value e) = Some (core.Value e.tree)
core_argument (arguments.Variable denoted) = Some (core.Variable denoted.designator)
core_argument _ = None

-- what is known of a value of this type that is no constant
abbrev pub computed_facts : Place → DbType → Facts
computed_facts place t = record { place = place; kind = phrases.Of t; number = None }

abbrev pub computed_value : Place → DbType → CoreExpr → Typed
computed_value place t tree = record { facts = computed_facts place t; tree = tree }

abbrev pub call_tree : Place → List ℕ → Head → List Argument → DbType → CoreExpr
call_tree place owner head given t =
    trees.Call
    (record {
      place = place;
      owner = owner;
      head = head;
      arguments = filter_map core_argument given;
    }) t

abbrev pub routine_result : Place → List ℕ → Head → List Argument → Option Typed
routine_result place owner head given =
    option_map (λ t. computed_value place t (call_tree place owner head given t)) head.result

-- ---- standard functions

-- a constant of the type's host
abbrev pub host_constant : Place → DbType → ℤ → Typed
host_constant place t n = numbered (if is_whole (host_of t) then phrases.Whole else phrases.Of (host_type t)) place n

abbrev pub bound_of : StandardProcedure → Range → Option ℤ
bound_of standard.Min range = Some range.least
bound_of standard.Max range = Some range.greatest
bound_of _ range = None

-- MIN and MAX of a type are constants.
abbrev pub of_type : Place → StandardProcedure → DbType → Option Typed
of_type place which t = option_map (host_constant place t) (option_and_then (bound_of which) (range_of t))

-- a standard function of an argument with this tree, and what is known of what it gives
abbrev pub applied : Place → StandardFunction → CoreExpr → Facts → Typed
applied place function tree facts = record { facts = facts; tree = trees.Standard place function tree }

-- ORD of a constant is a whole constant, else a CARDINAL.
abbrev pub order_facts : Place → Option ℤ → Facts
order_facts place None = computed_facts place types.Card
order_facts place (Some n) = record { place = place; kind = phrases.Whole; number = Some n }

-- CHR of a constant is a constant, and what ABS, ODD and CAP give never is.
abbrev pub of_value : Place → StandardProcedure → Typed → Option Typed
of_value place standard.Abs e = Some (applied place functions.Abs e.tree (computed_facts place types.Int))
of_value place standard.Odd e = Some (applied place functions.Odd e.tree (computed_facts place types.Bool))
of_value place standard.Cap e = Some (applied place functions.Cap e.tree (computed_facts place types.Char))
of_value place standard.Chr e =
    Some (applied place functions.Chr e.tree (record { place = place; kind = phrases.Of types.Char; number = e.facts.number }))
of_value place standard.Ord e = Some (applied place functions.Ord e.tree (order_facts place e.facts.number))
of_value place _ e = None

-- What VAL gives is never a constant.
abbrev pub converted : Place → DbType → Typed → Typed
converted place t e = applied place (functions.Val t) e.tree (computed_facts place t)

-- the last of one or two, and the one before it where there are two
abbrev pub one_or_two : {A : Type 0} → List A → Option (Option A × A)
one_or_two (last ∷ []) = Some (None, last)
one_or_two (first ∷ last ∷ []) = Some (Some first, last)
one_or_two _ = None

-- of one argument, and of two
abbrev pub of_one : Place → StandardProcedure → Argument → Option Typed
of_one place which (arguments.Kind t) = of_type place which t
of_one place which (arguments.Value e) = of_value place which e
of_one place which _ = None

abbrev pub of_two : Place → Argument → Argument → Option Typed
of_two place (arguments.Kind t) (arguments.Value e) = Some (converted place t e)
of_two place _ _ = None

abbrev pub of_given : Place → StandardProcedure → Option Argument → Argument → Option Typed
of_given place which None last = of_one place which last
of_given place which (Some first) last = of_two place first last

-- what a standard function gives; nothing where one that isn't built yet, or none, has these arguments
abbrev pub standard_result : Place → StandardProcedure → List Argument → Option Typed
standard_result place which given = option_and_then (λ few. of_given place which few.0 few.1) (one_or_two given)

-- ---- calls

-- the rules that the name of a function and the number of its arguments keep, whatever these arguments are
unfoldable pub function_rules : Place → ℕ → Decl → Judged Decl
function_rules place count decl =
    both (asks 36 place (S36 decl count)) (asks 39 place (S39 decl)) >> good decl

abbrev pub result_level : {D E P : Type 0} → Place → Decl-F D E P → List Argument → Option Typed
result_level place (decls.Routine owner head) given = routine_result place owner head given
result_level place (decls.Standard which) given = standard_result place which given
result_level place _ given = None

-- THE judgement of a call in an expression, whose name and arguments are judged and break no rule
unfoldable pub called : Place → Decl → List Argument → Judged Typed
called place decl given = record { breaches = []; core = result_level place (out-Decl decl) given }
