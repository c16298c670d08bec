-- Aggregates: values of record and array types, part by part.
use Rattle.std.specs.Prelude.{ℕ, if◌then◌else◌, List, [], ◌∷◌, map}
use Rattle.dbpl_base.specs.declared.place.Place.{Place}
use Rattle.dbpl_core.specs.declared.expr.CoreExpr.{CoreExpr}
use Rattle.dbpl_core.specs.declared.expr.CoreExpr.TheVariants as trees
use Rattle.dbpl_judging.specs.Judgements.{Judged, asks, breaks, good, unbuilt, ◌>>=◌, ◌>>◌}
use Rattle.dbpl_judging.specs.declared.facts.Facts.{Facts}
use Rattle.dbpl_judging.specs.declared.setting.Setting.{Setting}
use Rattle.dbpl_judging.specs.declared.typed.Typed.{Typed}
use Rattle.dbpl_rules_calls.specs.Results.{computed_value}
use Rattle.dbpl_rules_calls.specs.Rules.{is_relation_type}
use Rattle.dbpl_rules_expr.specs.Names.{qual_named}
use Rattle.dbpl_rules_expr.specs.Rules.{S41, S42, S42_number}
use Rattle.dbpl_rules_operators.specs.Fitting.{fitted}
use Rattle.dbpl_symbols.specs.declared.decl.Decl.{Decl, Decl-F, out-Decl}
use Rattle.dbpl_symbols.specs.declared.decl.Decl.TheOpen as decls
use Rattle.dbpl_tree.specs.declared.ident.Qual.{Qual}
use Rattle.dbpl_value.specs.Types.{fields_of}
use Rattle.dbpl_value.specs.declared.db_type.DbType.{DbType, DbType-F, out-DbType}
use Rattle.dbpl_value.specs.declared.db_type.DbType.TheOpen as kinds

-- sets and applications of constructors aren't built yet
abbrev pub built_kind : DbType → Judged DbType
built_kind t = if is_relation_type t then unbuilt else good t

abbrev pub brace_level : {D E P : Type 0} → Place → Decl-F D E P → Judged DbType
brace_level place (decls.Kind t) = built_kind t
brace_level place (decls.Constructor owner head t depth) = unbuilt
brace_level place _ = breaks 12 place

-- S12: Before a brace stands the name of a type.
abbrev pub brace : Place → Decl → Judged DbType
brace place decl = brace_level place (out-Decl decl)

-- the type that stands before a brace
abbrev pub brace_named : Setting → Qual → Judged DbType
brace_named setting q = qual_named setting q >>= brace q.first.place

-- the type, where the aggregate has as many elements as that has parts
unfoldable pub counted_kind : Place → ℕ → DbType → Judged DbType
counted_kind place count t = asks 42 place (S42_number t count) >> good t

abbrev pub fitted_fields : List DbType → List Typed → List CoreExpr
fitted_fields [] parts = []
fitted_fields (t ∷ ts) [] = []
fitted_fields (t ∷ ts) (part ∷ parts) = fitted t part ∷ fitted_fields ts parts

abbrev pub fitted_level : {X : Type 0} → DbType-F DbType X → List DbType → List Typed → List CoreExpr
fitted_level (kinds.Arr index element) ts parts = map (fitted element) parts
fitted_level _ ts parts = fitted_fields ts parts

-- each part of the type for which it stands
abbrev pub fitted_parts : DbType → List Typed → List CoreExpr
fitted_parts t parts = fitted_level (out-DbType t) (map (λ field. field.kind) (fields_of t)) parts

abbrev pub packed_value : Place → DbType → List Typed → Typed
packed_value place t parts = computed_value place t (trees.Packed place t (fitted_parts t parts))

unfoldable pub packed_rules : Place → DbType → List Facts → Judged (Unit {0})
packed_rules place t parts = asks 41 place (S41 t) >> asks 42 place (S42 t parts)

-- THE judgement of an aggregate, which begins at this place, whose type and elements are judged
unfoldable pub packed : Place → DbType → List Typed → Judged Typed
packed place t parts = packed_rules place t (map (λ part. part.facts) parts) >> good (packed_value place t parts)
