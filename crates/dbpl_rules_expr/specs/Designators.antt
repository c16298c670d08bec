-- Designators: variables and their parts, and names that stand alone.
use Rattle.std.specs.Prelude.{ℕ, Bool, true, false, if◌then◌else◌, List, [], ◌∷◌, ◌++◌, map, pos, Option, Some, None, option_map, unwrap_or, codes}
use Rattle.std.specs.Option.{option_map_or}
use Rattle.std.specs.List.{fold}
use Rattle.dbpl_base.specs.declared.place.Place.{Place}
use Rattle.dbpl_core.specs.declared.expr.CoreExpr.{CoreExpr}
use Rattle.dbpl_core.specs.declared.expr.CoreExpr.TheVariants as trees
use Rattle.dbpl_core.specs.declared.root.Root.{Root}
use Rattle.dbpl_core.specs.declared.root.Root.TheVariants as roots
use Rattle.dbpl_core.specs.declared.step_of.CoreStepOf.{CoreStepOf}
use Rattle.dbpl_core.specs.declared.step_of.CoreStepOf.TheVariants as steps
use Rattle.dbpl_judging.specs.Judgements.{Judged, asks, both, breaks, each, good, made, of, paired, unbuilt, ◌>>=◌, ◌>>?◌, ◌>>◌}
use Rattle.dbpl_judging.specs.declared.facts.Facts.{Facts}
use Rattle.dbpl_judging.specs.declared.kind.Kind.TheVariants as phrases
use Rattle.dbpl_judging.specs.declared.typed.Typed.{Typed}
use Rattle.dbpl_rules_calls.specs.Rules.{is_relation_type}
use Rattle.dbpl_rules_calls.specs.declared.denoted.Denoted.{Denoted}
use Rattle.dbpl_rules_expr.specs.Names.{Named, declared, whole_name}
use Rattle.dbpl_rules_expr.specs.Rules.{S32, S33, S34, S53}
use Rattle.dbpl_rules_expr.specs.declared.reached.Reached.{Reached}
use Rattle.dbpl_rules_operators.specs.Fitting.{as_ordinal, index_of}
use Rattle.dbpl_rules_operators.specs.Literals.{ordinal_constant, text_constant, whole_constant}
use Rattle.dbpl_symbols.specs.declared.decl.Decl.{Decl, Decl-F, out-Decl}
use Rattle.dbpl_symbols.specs.declared.decl.Decl.TheOpen as decls
use Rattle.dbpl_symbols.specs.declared.sort.Sort.{Sort}
use Rattle.dbpl_symbols.specs.declared.sort.Sort.TheVariants as sorts
use Rattle.dbpl_tree.specs.Plain.{exprs_in, is_empty}
use Rattle.dbpl_tree.specs.declared.designator.PartOf.{PartOf}
use Rattle.dbpl_tree.specs.declared.designator.PartOf.TheVariants as parts
use Rattle.dbpl_tree.specs.declared.expr.ExprOf.{ExprOf}
use Rattle.dbpl_value.specs.Types.{element_of, fields_of, range_of, type_named}
use Rattle.dbpl_value.specs.declared.db_type.DbType.{DbType}
use Rattle.dbpl_value.specs.declared.range.Range.{Range}

-- ---- variables

-- a variable as a whole
abbrev pub whole_variable : Place → Root → DbType → Bool → Denoted
whole_variable place root t may_change = record {
  designator = record { place = place; root = root; root_kind = t; steps = [] };
  kind = t;
  may_change = may_change;
}

-- persistent variables and those of ranges aren't built yet
abbrev pub root_of : List ℕ → Sort → Option Root
root_of name (sorts.Global owner) = Some (roots.Global owner name)
root_of name (sorts.Local number) = Some (roots.Frame number)
root_of name (sorts.Param number) = Some (roots.Frame number)
root_of name sorts.Done = Some (roots.Global (codes "InOut") (codes "Done"))
root_of name _ = None

abbrev pub may_change : Sort → Bool
may_change sorts.Done = false
may_change sorts.Range = false
may_change _ = true

abbrev pub rooted : Place → List ℕ → DbType → Sort → Judged Denoted
rooted place name t sort =
    option_map_or (λ root. good (whole_variable place root t (may_change sort))) (root_of name sort) unbuilt

abbrev pub variable_level : {D E P : Type 0} → Place → List ℕ → Decl-F D E P → Judged Denoted
variable_level place name (decls.Variable t sort) = rooted place name t sort
variable_level place name _ = breaks 12 place

-- S12: What takes .f or brackets, or stands for VAR, is a variable.
abbrev pub variable : Place → List ℕ → Decl → Judged Denoted
variable place name decl = variable_level place name (out-Decl decl)

-- ---- parts of variables

abbrev pub with_step : CoreStepOf CoreExpr → DbType → Reached → Reached
with_step step t before = record { steps = before.steps ++ step ∷ []; kind = t }

-- the type to which a part leads from this one, where it leads anywhere
abbrev pub kind_behind : {F : Type 0} → PartOf F → DbType → DbType
kind_behind (parts.Field x) t = type_named t (fields_of t) x.name
kind_behind (parts.Subscripts place es) t = element_of t

abbrev pub to_field : Place → DbType → Reached → Option ℕ → Judged Reached
to_field place t before None = breaks 32 place
to_field place t before (Some position) = good (with_step (steps.Field position) t before)

-- a field of this name, which stands at this place
unfoldable pub at_field : Place → List ℕ → Reached → Judged Reached
at_field place name before = to_field place (type_named before.kind (fields_of before.kind) name) before (S32 before.kind name)

-- brackets after a relation aren't built yet
abbrev pub built : Reached → Judged Reached
built before = if is_relation_type before.kind then unbuilt else good before

-- the numbers of an array's index type
abbrev pub index_range : DbType → Range
index_range t = unwrap_or (range_of (index_of t)) (record { least = pos 0; greatest = pos 0 })

abbrev pub index_step : DbType → Typed → CoreStepOf CoreExpr
index_step t index = steps.Index index.facts.place (index_range t) (as_ordinal index)

abbrev pub only : {A : Type 0} → List A → Option A
only (x ∷ []) = Some x
only _ = None

-- the element to which the only index leads
abbrev pub at_index : List Typed → Reached → Judged Reached
at_index indices before =
    of (λ index. good (with_step (index_step before.kind index) (element_of before.kind) before)) (only indices)

unfoldable pub index_rules : Place → Place → DbType → List Facts → Judged (Unit {0})
index_rules place first t indices = asks 33 place (S33 t) >> asks 34 first (S34 t indices)

-- brackets at this place with indices that are judged, the first of which begins at `first`
unfoldable pub at_subscripts : Place → Place → Reached → List Typed → Judged Reached
at_subscripts place first before indices =
    index_rules place first before.kind (map (λ index. index.facts) indices) >> at_index indices before

-- one part more, whose indices are judged whatever stands before them
abbrev pub at_part : {F : Type 0} → (ExprOf F → Judged Typed) → PartOf F → Option Reached → Judged Reached
at_part expr (parts.Field x) before = of (at_field x.place x.name) before
at_part expr (parts.Subscripts place es) before =
    both (of built before) (each expr (exprs_in es)) >>= λ found. at_subscripts place es.first.place found.0 found.1

-- where parts lead, one behind the other
abbrev pub reached : {F : Type 0} → (ExprOf F → Judged Typed) → Judged Reached → List (PartOf F) → Judged Reached
reached expr start parts = fold (λ so_far part. so_far >>? at_part expr part) start parts

-- a variable as a whole: no step yet
abbrev pub begun : Denoted → Reached
begun whole = record { steps = []; kind = whole.kind }

-- the part of the variable to which these steps lead
abbrev pub part_of : Denoted → Reached → Denoted
part_of whole found = record whole {
  designator = record whole.designator { steps = found.steps };
  kind = found.kind;
}

abbrev pub with_reached : Option Denoted → Judged Reached → Judged Denoted
with_reached whole found = record {
  breaches = found.breaches;
  core = option_map (λ known. part_of known.0 known.1) (paired whole found.core);
}

-- a variable, once it is known what it is as a whole, with the parts behind it
abbrev pub denoted_by : {F : Type 0} → (ExprOf F → Judged Typed) → List (PartOf F) → Option Denoted → Judged Denoted
denoted_by expr parts whole =
    if is_empty parts then of good whole
    else with_reached whole (reached expr (of (λ known. good (begun known)) whole) parts)

-- what a name denotes as a variable that stands whole
abbrev pub variable_named : {F : Type 0} → Place → Named F → Judged Denoted
variable_named place name = declared name.word >>= variable place name.word.ident.name

-- THE judgement of a name, which begins at this place, with the parts behind it, as a variable or a part of one
abbrev pub denoted : {F : Type 0} → (ExprOf F → Judged Typed) → Place → Named F → Judged Denoted
denoted expr place name = variable_named place name >>? denoted_by expr name.parts

-- S53 is asked of the variable as a whole, whatever its parts break.
abbrev pub changed_by : {F : Type 0} → (ExprOf F → Judged Typed) → List (PartOf F) → Option Denoted → Judged Denoted
changed_by expr parts whole =
    made (λ found. found.1) (both (of (λ known. asks 53 known.designator.place (S53 known)) whole) (denoted_by expr parts whole))

-- THE same judgement of what is to be changed
abbrev pub target : {F : Type 0} → (ExprOf F → Judged Typed) → Place → Named F → Judged Denoted
target expr place name = variable_named place name >>? changed_by expr name.parts

-- ---- names that stand alone

abbrev pub part_indices : {F : Type 0} → (ExprOf F → Judged Typed) → PartOf F → Judged (List Typed)
part_indices expr (parts.Field x) = good []
part_indices expr (parts.Subscripts place es) = each expr (exprs_in es)

-- a name that is to stand alone, and the indices behind it, which are judged whatever it is
abbrev pub alone : {F : Type 0} → (ExprOf F → Judged Typed) → Place → Named F → Judged Decl
alone expr place name = made (λ found. found.0) (both (whole_name place name) (each (part_indices expr) name.parts))

abbrev pub kind_level : {D E P : Type 0} → Place → Decl-F D E P → Judged DbType
kind_level place (decls.Kind t) = good t
kind_level place _ = breaks 12 place

-- S12: MIN, MAX, VAL and a brace want a type.
abbrev pub kind : Place → Decl → Judged DbType
kind place decl = kind_level place (out-Decl decl)

-- THE judgement of a name as that of a type
abbrev pub kind_named : {F : Type 0} → (ExprOf F → Judged Typed) → Place → Named F → Judged DbType
kind_named expr place name = alone expr place name >>= kind place

-- ---- operands

abbrev pub constant_level : {D E P : Type 0} → Place → Decl-F D E P → Option Typed
constant_level place (decls.Num t n) = Some (ordinal_constant t place n)
constant_level place (decls.Whole n) = Some (whole_constant place n)
constant_level place (decls.Text text) = Some (text_constant place text)
constant_level place _ = None

abbrev pub constant_by : {F : Type 0} → Place → List (PartOf F) → Option Decl → Option Typed
constant_by place [] (Some decl) = constant_level place (out-Decl decl)
constant_by place _ _ = None

-- the constant that a name alone is, if it is one
abbrev pub constant_named : {F : Type 0} → Place → Named F → Option Typed
constant_named place name = constant_by place name.parts name.word.found

-- the value of a variable
abbrev pub read : Denoted → Typed
read denoted = record {
  facts = record { place = denoted.designator.place; kind = phrases.Of denoted.kind; number = None };
  tree = trees.Read denoted.designator denoted.kind;
}

-- THE judgement of a name with the parts behind it as an operand: a constant or a variable (S12)
abbrev pub operand_named : {F : Type 0} → (ExprOf F → Judged Typed) → Place → Named F → Judged Typed
operand_named expr place name = option_map_or good (constant_named place name) (made read (denoted expr place name))

-- ---- names of which nothing is asked

abbrev pub is_kind_or_module_level : {D E P : Type 0} → Decl-F D E P → Bool
is_kind_or_module_level (decls.Kind t) = true
is_kind_or_module_level (decls.Unit exports) = true
is_kind_or_module_level _ = false

abbrev pub is_kind_or_module_by : {F : Type 0} → List (PartOf F) → Option Decl → Bool
is_kind_or_module_by [] (Some decl) = is_kind_or_module_level (out-Decl decl)
is_kind_or_module_by _ _ = false

-- the name of a type or a module alone
abbrev pub is_kind_or_module : {F : Type 0} → Named F → Bool
is_kind_or_module name = is_kind_or_module_by name.parts name.word.found

-- THE judgement of a name of which nothing is asked: that of a type or a module alone breaks no rule, all else is an operand
abbrev pub unasked : {F : Type 0} → (ExprOf F → Judged Typed) → Place → Named F → Judged (Unit {0})
unasked expr place name = if is_kind_or_module name then good tt else made (λ e. tt) (operand_named expr place name)
