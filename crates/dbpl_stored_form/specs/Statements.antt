-- Which statements are of the form, and which each is: v :+ S{R{1, 2}, ..} in the transaction, and t, WriteLn or
-- WriteString("text") in the body. An empty statement is none.
use Rattle.std.specs.Prelude.{ℕ, ℤ, pos, Bool, true, false, ◌&&◌, nat_eq, nat_le, if◌then◌else◌, List, [], ◌∷◌, length, Option, Some, None, option_and_then, option_map}
use Rattle.dbpl_base.specs.declared.place.Place.{Place}
use Rattle.dbpl_stored_program.specs.declared.action.Action.{Action}
use Rattle.dbpl_stored_program.specs.declared.action.Action.TheVariants.{Transact, WriteLn, WriteString}
use Rattle.dbpl_stored_program.specs.declared.insertion.Insertion.{Insertion}
use Rattle.dbpl_stored_form.specs.Imports.{is_imported}
use Rattle.dbpl_stored_form.specs.Lists.{joined_all, one_of, passing}
use Rattle.dbpl_stored_form.specs.Names.{is_plain}
use Rattle.dbpl_stored_form.specs.declared.schema.Schema.{Schema}
use Rattle.dbpl_tree.specs.Plain.{argument_of, is_factor, is_name}
use Rattle.dbpl_tree.specs.Words.{in_out, write_ln, write_string}
use Rattle.dbpl_tree.specs.declared.aggregate.Aggregate.{Aggregate}
use Rattle.dbpl_tree.specs.declared.designator.ArgumentsOf.{ArgumentsOf}
use Rattle.dbpl_tree.specs.declared.designator.DesignatorOf.{DesignatorOf}
use Rattle.dbpl_tree.specs.declared.element.Element.{Element, Element-F, out-Element}
use Rattle.dbpl_tree.specs.declared.element.Element.TheOpen as phrases
use Rattle.dbpl_tree.specs.declared.expr.ExprOf.{ExprOf}
use Rattle.dbpl_tree.specs.declared.factor.Factor.{Factor, Factor-F, out-Factor}
use Rattle.dbpl_tree.specs.declared.operators.ChangeOperator.{ChangeOperator}
use Rattle.dbpl_tree.specs.declared.operators.ChangeOperator.TheVariants as operators
use Rattle.dbpl_tree.specs.declared.statement.Statement.{Statement, Statement-F, out-Statement}
use Rattle.dbpl_tree.specs.declared.statement.Statement.TheOpen as statements
use Rattle.dbpl_tree.specs.declared.statements.StatementsOf.{StatementsOf}
use Rattle.dbpl_tree.specs.declared.unit.Import.{Import}

-- ---- expressions

abbrev pub literal_level : {E F R A C : Type 0} → Factor-F E F R A C → Option ℕ
literal_level (phrases.Number place n) = Some n
literal_level _ = None

abbrev pub plain_aggregate : {E F R A C : Type 0} → Factor-F E F R A C → Option A
plain_aggregate (phrases.Factor::Aggregate a) = Some a
plain_aggregate _ = None

-- the number or the aggregate that an expression is, if it is one and nothing else
abbrev pub literal_of : ExprOf Factor → Option ℕ
literal_of e = if is_factor e then literal_level (out-Factor e.left.first.first) else None

abbrev pub aggregate_of : ExprOf Factor → Option Aggregate
aggregate_of e = if is_factor e then plain_aggregate (out-Factor e.left.first.first) else None

-- T{..}, with this name of the type
abbrev pub aggregate_named : List ℕ → ExprOf Factor → Option Aggregate
aggregate_named name e = option_and_then (passing (λ a. is_plain name a.kind)) (aggregate_of e)

abbrev pub plain_level : {E F R A C : Type 0} → Element-F E F R A C → Option (ExprOf F)
plain_level (phrases.Plain e) = Some e
plain_level _ = None

-- the expression that an element of an aggregate is, if it is one and nothing else
abbrev pub plain_of : Element → Option (ExprOf Factor)
plain_of element = plain_level (out-Element element)

-- ---- statements

abbrev pub nothing_level : {S : Type 0} → Statement-F S → Bool
nothing_level (statements.Empty place) = true
nothing_level _ = false

-- an empty statement
abbrev pub is_nothing : Statement → Bool
is_nothing s = nothing_level (out-Statement s)

-- the statements behind BEGIN, if there are some
abbrev pub statements_of : Option (StatementsOf Statement) → List Statement
statements_of None = []
statements_of (Some block) = block.first ∷ block.others

-- ---- transactions

-- a number of CARDINAL
abbrev pub cardinal_of : ℕ → Option ℤ
cardinal_of n = if nat_le n 4294967295 then Some (pos n) else None

abbrev pub cardinal_in : Element → Option ℤ
cardinal_in element = option_and_then cardinal_of (option_and_then literal_of (plain_of element))

abbrev pub numbers_in : Element → Option (List ℤ)
numbers_in element = one_of (cardinal_in element)

-- R{1, 2}, with a number for each field
abbrev pub row_of : Schema → Aggregate → Option (List ℤ)
row_of schema a =
    option_and_then (passing (λ row. nat_eq (length row) (length schema.fields))) (joined_all numbers_in a.elements)

abbrev pub rows_in : Schema → Element → Option (List (List ℤ))
rows_in schema element =
    one_of (option_and_then (row_of schema) (option_and_then (aggregate_named schema.element) (plain_of element)))

-- S{R{1, 2}, ..}, behind an operator at this place
abbrev pub insertion_by : Schema → Place → Aggregate → Option Insertion
insertion_by schema place set =
    option_map (λ rows. record { set_place = set.kind.first.place; place = place; rows = rows })
    (joined_all (rows_in schema) set.elements)

abbrev pub insertion_of : Schema → Place → ExprOf Factor → Option Insertion
insertion_of schema place e = option_and_then (insertion_by schema place) (aggregate_named schema.relation e)

abbrev pub is_add : ChangeOperator → Bool
is_add operators.Add = true
is_add _ = false

abbrev pub is_added_to : Schema → DesignatorOf Factor → ChangeOperator → Bool
is_added_to schema target operator = is_name schema.variable target && is_add operator

-- v :+ S{R{1, 2}, ..}
abbrev pub insertion_level : {S : Type 0} → Schema → Statement-F S → Option Insertion
insertion_level schema (statements.Change target place operator e) =
    if is_added_to schema target operator then insertion_of schema place e else None
insertion_level schema _ = None

abbrev pub insertion_in : Schema → Statement → Option Insertion
insertion_in schema s = insertion_level schema (out-Statement s)

abbrev pub insertions_in : Schema → Statement → Option (List Insertion)
insertions_in schema s = if is_nothing s then Some [] else one_of (insertion_in schema s)

-- ---- bodies

-- a procedure of InOut, called by a name that is imported
abbrev pub is_call : List ℕ → List Import → DesignatorOf Factor → Bool
is_call name lines d = is_name name d && is_imported in_out name lines

-- t or WriteLn, which have no parentheses, or WriteString with one string in them
abbrev pub call_of : List ℕ → List Import → DesignatorOf Factor → Option (ArgumentsOf Factor) → Option Action
call_of transaction lines d None =
    if is_name transaction d then Some Transact else if is_call write_ln lines d then Some WriteLn else None
call_of transaction lines d (Some a) =
    if is_call write_string lines d then option_map WriteString (argument_of a) else None

abbrev pub action_level : {S : Type 0} → List ℕ → List Import → Statement-F S → Option Action
action_level transaction lines (statements.Call d a) = call_of transaction lines d a
action_level transaction lines _ = None

abbrev pub action_in : List ℕ → List Import → Statement → Option Action
action_in transaction lines s = action_level transaction lines (out-Statement s)

abbrev pub actions_in : List ℕ → List Import → Statement → Option (List Action)
actions_in transaction lines s = if is_nothing s then Some [] else one_of (action_in transaction lines s)
