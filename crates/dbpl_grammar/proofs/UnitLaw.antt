-- The law of headings, declarations, imports and units.
use Rattle.std.proofs.Common.{◌≡◌, ℕ, max, true, false, ◌⊎◌, inl, inr, List, [], ◌∷◌, ◌++◌, flat_map, Option, Some, None, refl, ap, arith}
use Rattle.dbpl_base.specs.declared.lexeme.Lexeme.{Lexeme}
use Rattle.dbpl_base.specs.declared.place.Place.{Place}
use Rattle.dbpl_tree.specs.Declarations.{body_marks, common_marks, const_marks, decl_marks, heading_marks, item_marks, params_marks, plain_marks, routine_marks, section_marks, signature_marks, type_decl_marks, var_marks}
use Rattle.dbpl_tree.specs.Depths.{expr_depth, factor_depth, greatest, option_depth}
use Rattle.dbpl_tree.specs.Marks.{Of, Before, option_marks}
use Rattle.dbpl_tree.specs.UnitDepths.{body_depth, common_depth, decl_depth, item_depth, plain_depth, program_depth, routine_depth, type_depth, unit_depth}
use Rattle.dbpl_tree.specs.Units.{data_marks, definition_marks, import_marks, program_marks, unit_marks}
use Rattle.dbpl_tree.specs.Words.{colon, equal_sign, full_stop, left_parenthesis, right_parenthesis, semicolon, word_begin, word_const, word_constructor, word_database, word_definition, word_end, word_for, word_from, word_implementation, word_import, word_in, word_module, word_selector, word_type, word_var}
use Rattle.dbpl_tree.specs.declared.aggregate.Aggregate.{Aggregate}
use Rattle.dbpl_tree.specs.declared.decl.Common.{Common}
use Rattle.dbpl_tree.specs.declared.decl.Common.TheVariants as commons
use Rattle.dbpl_tree.specs.declared.decl.ConstDecl.{ConstDecl}
use Rattle.dbpl_tree.specs.declared.decl.Decl.{Decl}
use Rattle.dbpl_tree.specs.declared.decl.Decl.TheVariants as decls
use Rattle.dbpl_tree.specs.declared.decl.DefinitionItem.{DefinitionItem}
use Rattle.dbpl_tree.specs.declared.decl.DefinitionItem.TheVariants as items
use Rattle.dbpl_tree.specs.declared.decl.PlainDecl.{PlainDecl}
use Rattle.dbpl_tree.specs.declared.decl.PlainDecl.TheVariants as plain
use Rattle.dbpl_tree.specs.declared.decl.Routine.{Routine}
use Rattle.dbpl_tree.specs.declared.decl.TypeDecl.{TypeDecl}
use Rattle.dbpl_tree.specs.declared.decl.VarDecl.{VarDecl}
use Rattle.dbpl_tree.specs.declared.expr.ExprOf.{ExprOf}
use Rattle.dbpl_tree.specs.declared.factor.Factor.{Factor}
use Rattle.dbpl_tree.specs.declared.heading.Heading.{Heading}
use Rattle.dbpl_tree.specs.declared.heading.Params.{Params}
use Rattle.dbpl_tree.specs.declared.heading.Section.{Section}
use Rattle.dbpl_tree.specs.declared.heading.Signature.{Signature}
use Rattle.dbpl_tree.specs.declared.ident.Ident.{Ident}
use Rattle.dbpl_tree.specs.declared.ident.Idents.{Idents}
use Rattle.dbpl_tree.specs.declared.ident.Qual.{Qual}
use Rattle.dbpl_tree.specs.declared.unit.DataUnit.{DataUnit}
use Rattle.dbpl_tree.specs.declared.unit.DefinitionUnit.{DefinitionUnit}
use Rattle.dbpl_tree.specs.declared.unit.Import.{Import}
use Rattle.dbpl_tree.specs.declared.unit.Import.TheVariants as imports
use Rattle.dbpl_tree.specs.declared.unit.Program.{Program}
use Rattle.dbpl_tree.specs.declared.unit.Unit.{Unit as Module}
use Rattle.dbpl_tree.specs.declared.unit.Unit.TheVariants as units
use Rattle.dbpl_grammar.specs.Expressions.{all_of, ident_first}
use Rattle.dbpl_grammar.specs.Units.{body, common, common_first, const_decl, constants, constructor, data_unit, decl, decl_first, definition_item, definition_unit, heading, implementation, import, import_first, import_from, import_whole, params, plain_decl, plain_first, program, routine, routine_first, section, section_first, selector, signature, type_decl, types, unit, var_decl, variables}
use Rattle.dbpl_grammar.proofs.ChoiceLaw.{law_all, law_either, law_wider}
use Rattle.dbpl_grammar.proofs.Every.{Every, all_those, both, made, maybe, shallow_list, shallow_option, variant}
use Rattle.dbpl_grammar.proofs.FactorLaw.{inner_law}
use Rattle.dbpl_grammar.proofs.InnerLaw.{law_aggregate}
use Rattle.dbpl_grammar.proofs.JoinLaw.{law_closed}
use Rattle.dbpl_grammar.proofs.Law.{Law}
use Rattle.dbpl_grammar.proofs.ListLaw.{law_flag}
use Rattle.dbpl_grammar.proofs.NameLaw.{law_ident, law_idents, law_qual}
use Rattle.dbpl_grammar.proofs.OperatorLaw.{law_routine}
use Rattle.dbpl_grammar.proofs.StatementLaw.{law_statements, statements_more}
use Rattle.dbpl_grammar.proofs.TokenLaw.{law_after, law_here}
use Rattle.dbpl_grammar.proofs.TypeLaw.{law_type}

-- ---- headings

law_section : (limit : ℕ) → Every section_marks (λ (x : Section). 0) limit section_first (full_stop ∷ []) false section
unfolding section
law_section limit =
    made section_marks (λ (x : Section). 0) (both (law_here limit) (both (law_flag limit word_var refl) (both (law_idents limit) (law_after colon refl (law_qual limit)) refl) refl) refl) (λ found. record { place = found.0; by_reference = found.1.0; names = found.1.1.0; kind = found.1.1.1 }) (λ x. (x.place, (x.by_reference, (x.names, x.kind)))) (λ x. refl) (λ x. refl) (λ x. refl)

pub law_params : (limit : ℕ) → Every params_marks (λ (x : Params). 0) limit (left_parenthesis ∷ []) [] false params
unfolding params
law_params limit =
    made params_marks (λ (x : Params). 0) (both (law_here limit) (law_after left_parenthesis refl (law_closed right_parenthesis refl refl (maybe (both (law_section limit) (all_those (law_after semicolon refl (law_section limit)) refl) refl)))) refl) (λ found. record { place = found.0; sections = all_of found.1 }) (λ x. (x.place, unmake x.sections)) (λ x. marks x.0 x.1) (λ x. let none = shallow x.1 in omega arith) (λ x. ap (λ (xs : List Section). record { place = x.place; sections = xs }) (again x.sections))
  where
    unmake : List Section → Option (Section × List Section)
    unmake [] = None
    unmake (x ∷ xs) = Some (x, xs)

    again : (xs : List Section) → all_of (unmake xs) ≡ xs
    again [] = refl
    again (x ∷ xs) = refl

    marks : (place : Place) (x : Option (Section × List Section)) → params_marks (record { place = place; sections = all_of x }) ≡ Before place ∷ Of left_parenthesis ∷ (option_marks (λ (y : Section × List Section). section_marks y.0 ++ flat_map (λ (z : Section). Of semicolon ∷ section_marks z) y.1) x ++ Of right_parenthesis ∷ [])
    marks place None = refl
    marks place (Some x) = refl

    shallow : (x : Option (Section × List Section)) → option_depth (λ (y : Section × List Section). max 0 (greatest (λ (z : Section). 0) y.1)) x ≡ 0
    shallow None = refl
    shallow (Some x) = let none = shallow_list x.1 in omega arith

law_signature : (limit : ℕ) → Every signature_marks (λ (x : Signature). 0) limit (left_parenthesis ∷ []) (colon ∷ full_stop ∷ []) false signature
unfolding signature
law_signature limit =
    made signature_marks (λ (x : Signature). 0) (both (law_params limit) (maybe (law_after colon refl (law_qual limit))) refl) (λ found. record { params = found.0; result = found.1 }) (λ x. (x.params, x.result)) (λ x. refl) (λ x. let none = shallow_option x.1 in omega arith) (λ x. refl)

pub law_heading : (limit : ℕ) → Every heading_marks (λ (x : Heading). 0) limit routine_first (left_parenthesis ∷ colon ∷ full_stop ∷ []) false heading
unfolding heading
law_heading limit =
    made heading_marks (λ (x : Heading). 0) (both (law_here limit) (both (law_routine limit) (both (law_ident limit) (maybe (law_signature limit)) refl) refl) refl) (λ found. record { place = found.0; word = found.1.0; name = found.1.1.0; signature = found.1.1.1 }) (λ x. (x.place, (x.word, (x.name, x.signature)))) (λ x. refl) (λ x. let none = shallow_option x.1.1.1 in omega arith) (λ x. refl)

-- ---- declarations

law_const_decl : (limit : ℕ) → Every const_marks (λ (x : ConstDecl). expr_depth factor_depth x.value) limit ident_first [] false (const_decl limit)
unfolding const_decl
law_const_decl limit =
    made const_marks (λ (x : ConstDecl). expr_depth factor_depth x.value) (both (law_ident limit) (law_after equal_sign refl (law_closed semicolon refl refl (inner_law limit).expr)) refl) (λ found. record { name = found.0; value = found.1 }) (λ x. (x.name, x.value)) (λ x. refl) (λ x. omega arith) (λ x. refl)

law_type_decl : (limit : ℕ) → Every type_decl_marks (λ (x : TypeDecl). type_depth x.kind) limit ident_first [] false (type_decl limit)
unfolding type_decl
law_type_decl limit =
    made type_decl_marks (λ (x : TypeDecl). type_depth x.kind) (both (law_ident limit) (law_after equal_sign refl (law_closed semicolon refl refl (law_type limit))) refl) (λ found. record { name = found.0; kind = found.1 }) (λ x. (x.name, x.kind)) (λ x. refl) (λ x. omega arith) (λ x. refl)

law_var_decl : (limit : ℕ) → Every var_marks (λ (x : VarDecl). type_depth x.kind) limit ident_first [] false (var_decl limit)
unfolding var_decl
law_var_decl limit =
    made var_marks (λ (x : VarDecl). type_depth x.kind) (both (law_idents limit) (law_after colon refl (law_closed semicolon refl refl (law_type limit))) refl) (λ found. record { names = found.0; kind = found.1 }) (λ x. (x.names, x.kind)) (λ x. refl) (λ x. omega arith) (λ x. refl)

abbrev IsConst : PlainDecl → Type 0
IsConst y = (x : Place × List ConstDecl) × (plain.Const x.0 x.1 ≡ y)

abbrev IsType : PlainDecl → Type 0
IsType y = (x : Place × List TypeDecl) × (plain.Type x.0 x.1 ≡ y)

abbrev IsVar : PlainDecl → Type 0
IsVar y = (x : Place × List VarDecl) × (plain.Var x.0 x.1 ≡ y)

law_constants : (limit : ℕ) → Law plain_marks plain_depth limit (word_const ∷ []) ident_first false IsConst (constants limit)
unfolding constants
law_constants limit =
    variant plain_marks plain_depth (both (law_here limit) (law_after word_const refl (all_those (law_const_decl limit) refl)) refl) (λ found. plain.Const found.0 found.1) (λ x. refl) (λ x. omega arith)

law_types : (limit : ℕ) → Law plain_marks plain_depth limit (word_type ∷ []) ident_first false IsType (types limit)
unfolding types
law_types limit =
    variant plain_marks plain_depth (both (law_here limit) (law_after word_type refl (all_those (law_type_decl limit) refl)) refl) (λ found. plain.Type found.0 found.1) (λ x. refl) (λ x. omega arith)

law_variables : (limit : ℕ) → Law plain_marks plain_depth limit (word_var ∷ []) ident_first false IsVar (variables limit)
unfolding variables
law_variables limit =
    variant plain_marks plain_depth (both (law_here limit) (law_after word_var refl (all_those (law_var_decl limit) refl)) refl) (λ found. plain.Var found.0 found.1) (λ x. refl) (λ x. omega arith)

pub law_plain_decl : (limit : ℕ) → Every plain_marks plain_depth limit plain_first ident_first false (plain_decl limit)
unfolding plain_decl
law_plain_decl limit =
    law_all (λ (y : PlainDecl). Unit {0}) (λ y is. cases y) (λ y is. tt) (law_either (law_constants limit) (law_either (law_types limit) (law_variables limit) refl) refl)
  where
    cases : (y : PlainDecl) → IsConst y ⊎ (IsType y ⊎ IsVar y)
    cases (plain.Const place ds) = inl ((place, ds), refl)
    cases (plain.Type place ds) = inr (inl ((place, ds), refl))
    cases (plain.Var place ds) = inr (inr ((place, ds), refl))

abbrev IsSelector : Common → Type 0
IsSelector y =
    (x : Place × (Ident × (Option Params × (Ident × (Qual × ExprOf Factor))))) × (commons.Selector x.0 x.1.0 x.1.1.0 x.1.1.1.0 x.1.1.1.1.0 x.1.1.1.1.1 ≡ y)

abbrev IsConstructor : Common → Type 0
IsConstructor y =
    (x : Place × (Ident × (Option Params × Aggregate))) × (commons.Constructor x.0 x.1.0 x.1.1.0 x.1.1.1 ≡ y)

abbrev IsPlain : Common → Type 0
IsPlain y = (x : PlainDecl) × (commons.Plain x ≡ y)

law_selector : (limit : ℕ) → Law common_marks common_depth limit (word_selector ∷ []) ident_first false IsSelector (selector limit)
unfolding selector
law_selector limit =
    law_wider (word_selector ∷ []) ident_first refl refl (variant common_marks common_depth (both (law_here limit) (law_after word_selector refl (both (law_ident limit) (both (maybe (law_params limit)) (law_after word_for refl (both (law_ident limit) (law_after word_in refl (both (law_qual limit) (law_after colon refl (law_closed semicolon refl refl (inner_law limit).expr)) refl)) refl)) refl) refl)) refl) (λ found. commons.Selector found.0 found.1.0 found.1.1.0 found.1.1.1.0 found.1.1.1.1.0 found.1.1.1.1.1) (λ x. refl) (λ x. let none = shallow_option x.1.1.0 in omega arith))

law_constructor : (limit : ℕ) → Law common_marks common_depth limit (word_constructor ∷ []) ident_first false IsConstructor (constructor limit)
unfolding constructor
law_constructor limit =
    law_wider (word_constructor ∷ []) ident_first refl refl (variant common_marks common_depth (both (law_here limit) (law_after word_constructor refl (both (law_ident limit) (both (maybe (law_params limit)) (law_after colon refl (law_closed semicolon refl refl (law_aggregate (inner_law limit)))) refl) refl)) refl) (λ found. commons.Constructor found.0 found.1.0 found.1.1.0 found.1.1.1) (λ x. refl) (λ x. let none = shallow_option x.1.1.0 in omega arith))

pub law_common : (limit : ℕ) → Every common_marks common_depth limit common_first ident_first false (common limit)
unfolding common
law_common limit =
    law_all (λ (y : Common). Unit {0}) (λ y is. cases y) (λ y is. tt) (law_either (law_selector limit) (law_either (law_constructor limit) (variant common_marks common_depth (law_plain_decl limit) commons.Plain (λ x. refl) (λ x. refl)) refl) refl)
  where
    cases : (y : Common) → IsSelector y ⊎ (IsConstructor y ⊎ IsPlain y)
    cases (commons.Selector place name params x q e) = inl ((place, (name, (params, (x, (q, e))))), refl)
    cases (commons.Constructor place name params a) = inr (inl ((place, (name, (params, a))), refl))
    cases (commons.Plain d) = inr (inr (d, refl))

law_body : (limit : ℕ) → Every body_marks body_depth limit (word_begin ∷ []) (word_begin ∷ statements_more) true (body limit)
unfolding body
law_body limit = maybe (law_after word_begin refl (law_statements limit))

law_routine_decl : (limit : ℕ) → Every routine_marks routine_depth limit routine_first [] false (routine limit)
unfolding routine
law_routine_decl limit =
    made routine_marks routine_depth (both (law_heading limit) (law_after semicolon refl (both (all_those (law_plain_decl limit) refl) (both (law_body limit) (both (law_here limit) (law_after word_end refl (law_closed semicolon refl refl (law_ident limit))) refl) refl) refl)) refl) (λ found. record { heading = found.0; declarations = found.1.0; body = found.1.1.0; end = found.1.1.1.0; end_name = found.1.1.1.1 }) (λ x. (x.heading, (x.declarations, (x.body, (x.end, x.end_name))))) (λ x. refl) (λ x. omega arith) (λ x. refl)

pub law_decl : (limit : ℕ) → Every decl_marks decl_depth limit decl_first ident_first false (decl limit)
unfolding decl
law_decl limit =
    law_all (λ (y : Decl). Unit {0}) (λ y is. cases y) (λ y is. tt) (law_either (law_wider routine_first ident_first refl refl (variant decl_marks decl_depth (law_routine_decl limit) decls.Routine (λ x. refl) (λ x. refl))) (variant decl_marks decl_depth (law_common limit) decls.Common (λ x. refl) (λ x. refl)) refl)
  where
    cases : (y : Decl) → ((x : Routine) × (decls.Routine x ≡ y)) ⊎ ((x : Common) × (decls.Common x ≡ y))
    cases (decls.Routine x) = inl (x, refl)
    cases (decls.Common x) = inr (x, refl)

pub law_item : (limit : ℕ) → Every item_marks item_depth limit decl_first ident_first false (definition_item limit)
unfolding definition_item
law_item limit =
    law_all (λ (y : DefinitionItem). Unit {0}) (λ y is. cases y) (λ y is. tt) (law_either (law_wider routine_first ident_first refl refl (variant item_marks item_depth (law_closed semicolon refl refl (law_heading limit)) items.Heading (λ x. refl) (λ x. refl))) (variant item_marks item_depth (law_common limit) items.Common (λ x. refl) (λ x. refl)) refl)
  where
    cases : (y : DefinitionItem) → ((x : Heading) × (items.Heading x ≡ y)) ⊎ ((x : Common) × (items.Common x ≡ y))
    cases (items.Heading x) = inl (x, refl)
    cases (items.Common x) = inr (x, refl)

-- ---- units

pub law_import : (limit : ℕ) → Every import_marks (λ (x : Import). 0) limit import_first [] false import
unfolding import import_whole import_from
law_import limit =
    law_all (λ (y : Import). Unit {0}) (λ y is. cases y) (λ y is. tt) (law_either (variant import_marks (λ (x : Import). 0) (both (law_here limit) (law_after word_import refl (law_closed semicolon refl refl (law_idents limit))) refl) (λ found. imports.Whole found.0 found.1) (λ x. refl) (λ x. refl)) (variant import_marks (λ (x : Import). 0) (both (law_here limit) (law_after word_from refl (both (law_ident limit) (law_after word_import refl (law_closed semicolon refl refl (law_idents limit))) refl)) refl) (λ found. imports.From found.0 found.1.0 found.1.1) (λ x. refl) (λ x. refl)) refl)
  where
    cases : (y : Import) → ((x : Place × Idents) × (imports.Whole x.0 x.1 ≡ y)) ⊎ ((x : Place × (Ident × Idents)) × (imports.From x.0 x.1.0 x.1.1 ≡ y))
    cases (imports.Whole place names) = inl ((place, names), refl)
    cases (imports.From place name names) = inr ((place, (name, names)), refl)

law_program : (limit : ℕ) → Every program_marks program_depth limit (word_module ∷ []) [] false (program limit)
unfolding program
law_program limit =
    made program_marks program_depth (both (law_here limit) (law_after word_module refl (both (law_ident limit) (law_after semicolon refl (both (all_those (law_import limit) refl) (both (all_those (law_decl limit) refl) (both (law_body limit) (law_after word_end refl (law_closed full_stop refl refl (law_ident limit))) refl) refl) refl)) refl)) refl) (λ found. record { place = found.0; name = found.1.0; imports = found.1.1.0; declarations = found.1.1.1.0; body = found.1.1.1.1.0; end_name = found.1.1.1.1.1 }) (λ x. (x.place, (x.name, (x.imports, (x.declarations, (x.body, x.end_name)))))) (λ x. refl) (λ x. let none = shallow_list x.1.1.0 in omega arith) (λ x. refl)

law_definition : (limit : ℕ) → Every definition_marks (λ (x : DefinitionUnit). greatest item_depth x.items) limit (word_definition ∷ []) [] false (definition_unit limit)
unfolding definition_unit
law_definition limit =
    made definition_marks (λ (x : DefinitionUnit). greatest item_depth x.items) (both (law_here limit) (law_after word_definition refl (law_after word_module refl (both (law_ident limit) (law_after semicolon refl (both (all_those (law_import limit) refl) (both (all_those (law_item limit) refl) (law_after word_end refl (law_closed full_stop refl refl (law_ident limit))) refl) refl)) refl))) refl) (λ found. record { place = found.0; name = found.1.0; imports = found.1.1.0; items = found.1.1.1.0; end_name = found.1.1.1.1 }) (λ x. (x.place, (x.name, (x.imports, (x.items, x.end_name))))) (λ x. refl) (λ x. let none = shallow_list x.1.1.0 in omega arith) (λ x. refl)

law_data : (limit : ℕ) → Every data_marks (λ (x : DataUnit). greatest common_depth x.items) limit (word_database ∷ []) [] false (data_unit limit)
unfolding data_unit
law_data limit =
    made data_marks (λ (x : DataUnit). greatest common_depth x.items) (both (law_here limit) (law_after word_database refl (law_after word_module refl (both (law_ident limit) (law_after semicolon refl (both (all_those (law_import limit) refl) (both (all_those (law_common limit) refl) (law_after word_end refl (law_closed full_stop refl refl (law_ident limit))) refl) refl)) refl))) refl) (λ found. record { place = found.0; name = found.1.0; imports = found.1.1.0; items = found.1.1.1.0; end_name = found.1.1.1.1 }) (λ x. (x.place, (x.name, (x.imports, (x.items, x.end_name))))) (λ x. refl) (λ x. let none = shallow_list x.1.1.0 in omega arith) (λ x. refl)

abbrev IsProgram : Module → Type 0
IsProgram y = (x : Program) × (units.Program x ≡ y)

abbrev IsImplementation : Module → Type 0
IsImplementation y = (x : Place × Program) × (units.Implementation x.0 x.1 ≡ y)

abbrev IsDefinition : Module → Type 0
IsDefinition y = (x : DefinitionUnit) × (units.Definition x ≡ y)

abbrev IsData : Module → Type 0
IsData y = (x : DataUnit) × (units.Data x ≡ y)

abbrev pub unit_first : List Lexeme
unit_first = word_module ∷ word_implementation ∷ word_definition ∷ word_database ∷ []

pub law_unit : (limit : ℕ) → Every unit_marks unit_depth limit unit_first [] false (unit limit)
unfolding unit implementation
law_unit limit =
    law_all (λ (y : Module). Unit {0}) (λ y is. cases y) (λ y is. tt) (law_either (variant unit_marks unit_depth (law_program limit) units.Program (λ x. refl) (λ x. refl)) (law_either (variant unit_marks unit_depth (both (law_here limit) (law_after word_implementation refl (law_program limit)) refl) (λ found. units.Implementation found.0 found.1) (λ x. refl) (λ x. omega arith)) (law_either (variant unit_marks unit_depth (law_definition limit) units.Definition (λ x. refl) (λ x. refl)) (variant unit_marks unit_depth (law_data limit) units.Data (λ x. refl) (λ x. refl)) refl) refl) refl)
  where
    cases : (y : Module) → IsProgram y ⊎ (IsImplementation y ⊎ (IsDefinition y ⊎ IsData y))
    cases (units.Program x) = inl (x, refl)
    cases (units.Implementation place x) = inr (inl ((place, x), refl))
    cases (units.Definition x) = inr (inr (inl (x, refl)))
    cases (units.Data x) = inr (inr (inr (x, refl)))
