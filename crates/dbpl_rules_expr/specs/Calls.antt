-- Calls: what stands between their parentheses, place by place.
use Rattle.std.specs.Prelude.{ℕ, Bool, not, ◌&&◌, if◌then◌else◌, is_some, List, length, slice_get, unwrap_or, Option, None}
use Rattle.std.specs.Option.{option_map_or}
use Rattle.dbpl_base.specs.declared.place.Place.{Place}
use Rattle.dbpl_judging.specs.Judgements.{Judged, both, breaks, each_at, good, made, of, ◌>>=◌, ◌>>?◌}
use Rattle.dbpl_judging.specs.declared.typed.Typed.{Typed}
use Rattle.dbpl_rules_calls.specs.Arguments.{characters_argument, counted_argument, kind_argument, standard_argument, value_argument, variable_argument}
use Rattle.dbpl_rules_calls.specs.Asking.{asked_by}
use Rattle.dbpl_rules_calls.specs.Results.{called, function_rules}
use Rattle.dbpl_rules_calls.specs.declared.argument.Argument.{Argument}
use Rattle.dbpl_rules_calls.specs.declared.argument.Argument.TheVariants as arguments
use Rattle.dbpl_rules_calls.specs.declared.asked.Asked.{Asked}
use Rattle.dbpl_rules_calls.specs.declared.asked.Asked.TheVariants as asks
use Rattle.dbpl_rules_calls.specs.declared.denoted.Denoted.{Denoted}
use Rattle.dbpl_rules_expr.specs.Designators.{alone}
use Rattle.dbpl_rules_expr.specs.Names.{Named}
use Rattle.dbpl_symbols.specs.declared.decl.Decl.{Decl, Decl-F, out-Decl}
use Rattle.dbpl_symbols.specs.declared.decl.Decl.TheOpen as decls
use Rattle.dbpl_tree.specs.Plain.{is_empty}
use Rattle.dbpl_tree.specs.declared.expr.ExprOf.{ExprOf}
use Rattle.dbpl_value.specs.declared.db_type.DbType.{DbType}

-- What a designator without parentheses is where its place asks for no operand: as a variable, as one that is to be changed, as
-- the name of a type, and where nothing is asked.
pub record Designated : Type 0 where
  pub variable : Judged Denoted
  pub target : Judged Denoted
  pub kind : Judged DbType
  pub unasked : Judged (Unit {0})

-- what a phrase is, however its place asks for it: as an operand, and where it is a designator without parentheses all else
pub record Given : Type 0 where
  pub value : Judged Typed
  pub designated : Option Designated

-- a phrase that is an operand alone
abbrev pub only_value : Judged Typed → Given
only_value value = record { value = value; designated = None }

-- an expression that is one factor and nothing else
abbrev pub is_lone : {F : Type 0} → ExprOf F → Bool
is_lone e = not (is_some e.right) && not (is_some e.left.sign) && is_empty e.left.others && is_empty e.left.first.others

abbrev pub designated_by : {F : Type 0} → (F → Given) → ExprOf F → Option Designated
designated_by factor e = if is_lone e then (factor e.left.first.first).designated else None

-- what an expression is: an operand, and all else that its one factor is
abbrev pub given_by : {F : Type 0} → (F → Given) → (ExprOf F → Judged Typed) → ExprOf F → Given
given_by factor expr e = record { value = expr e; designated = designated_by factor e }

-- what is no designator breaks this rule where a name is asked for
abbrev pub or_breaks : {A : Type 0} → ℕ → Place → (Designated → Judged A) → Given → Judged A
or_breaks rule place asked given = option_map_or asked given.designated (given.value >>= λ e. breaks rule place)

-- what it is where nothing is asked
abbrev pub of_nothing : Given → Judged (Unit {0})
of_nothing given = option_map_or (λ designated. designated.unasked) given.designated (made (λ e. tt) given.value)

-- THE judgement of an argument that begins at this place
abbrev pub argument : Asked → Place → Given → Judged Argument
argument (asks.Value t) place given = given.value >>= value_argument t
argument (asks.Variable t) place given = or_breaks 38 place (λ designated. designated.variable) given >>= variable_argument t
argument (asks.Standard which) place given = given.value >>= standard_argument which
argument asks.Counted place given = or_breaks 53 place (λ designated. designated.target) given >>= counted_argument
argument asks.Kind place given = or_breaks 40 place (λ designated. designated.kind) given >>= kind_argument place
argument asks.Characters place given = given.value >>= characters_argument
argument asks.Nothing place given = made (λ none. arguments.Nothing) (of_nothing given)

-- what is asked of the argument of this number, counted from 0: past the last place nothing
abbrev pub asked_of : List Asked → ℕ → Asked
asked_of places number = unwrap_or (slice_get places number) asks.Nothing

-- THE judgement of arguments, each by its place
abbrev pub arguments_for : {F : Type 0} → (ExprOf F → Given) → List Asked → List (ExprOf F) → Judged (List Argument)
arguments_for given places es = each_at (λ number e. argument (asked_of places number) e.place (given e)) 0 es

abbrev pub callee_level : {D E P : Type 0} → Place → Decl → Decl-F D E P → Judged Decl
callee_level place decl (decls.Routine owner head) = good decl
callee_level place decl (decls.Standard which) = good decl
callee_level place decl (decls.InOut which head) = good decl
callee_level place decl _ = breaks 12 place

-- S12: What is called is a routine.
abbrev pub callee : Place → Decl → Judged Decl
callee place decl = callee_level place decl (out-Decl decl)

-- the name of what is called
abbrev pub callee_named : {F : Type 0} → (ExprOf F → Judged Typed) → Place → Named F → Judged Decl
callee_named expr place name = alone expr place name >>= callee place

-- what a call gives, once it is known what is called: S36 and S39 are asked of that alone, whatever the arguments break
abbrev pub call_by : {F : Type 0} → (ExprOf F → Given) → Place → List (ExprOf F) → Option Decl → Judged Typed
call_by given place es decl =
    both (of (function_rules place (length es)) decl) (arguments_for given (asked_by decl (length es)) es) >>= λ found.
    called place found.0 found.1

-- THE judgement of a call in an expression, which begins at this place: its name, and what stands in its parentheses
abbrev pub call : {F : Type 0} → (ExprOf F → Given) → Place → Named F → List (ExprOf F) → Judged Typed
call given place name es = callee_named (λ e. (given e).value) place name >>? call_by given place es
