-- A module that can be run so far is spelled alike as a small tree and as a tree of the whole grammar.
use Rattle.std.proofs.Common.{◌≡◌, ℕ, List, [], ◌∷◌, ◌++◌, map, Some, None, refl, sym, ap, ◌∙◌, append-nil, append_assoc}
use Rattle.dbpl_base.specs.declared.lexeme.Lexeme.{Lexeme}
use Rattle.dbpl_base.specs.declared.lexeme.Lexeme.TheVariants as lexemes
use Rattle.dbpl_base.specs.declared.place.Place.{Place}
use Rattle.dbpl_alone.specs.Program.{spell_module as small_spell, spell_heading, spell_statement, spell_statements}
use Rattle.dbpl_alone.specs.Units.{statement_of, statements_of, string, unit_of}
use Rattle.dbpl_alone.specs.declared.program.Program.{Program}
use Rattle.dbpl_alone.specs.declared.statement.Statement.{Statement as Small}
use Rattle.dbpl_alone.specs.declared.statement.Statement.TheVariants.{WriteLn, WriteString}
use Rattle.dbpl_tree.proofs.Levels.{factor_marks-roll}
use Rattle.dbpl_tree.proofs.Lexemes.{lexemes_in-join}
use Rattle.dbpl_tree.proofs.StatementLevels.{statement_marks-roll}
use Rattle.dbpl_tree.specs.Factors.{factor_marks}
use Rattle.dbpl_tree.specs.Marks.{Mark, Of, Before, further_marks, lexemes_in}
use Rattle.dbpl_tree.specs.Statements.{statement_marks, statements_marks}
use Rattle.dbpl_tree.specs.Units.{ending_marks, spell}
use Rattle.dbpl_tree.specs.Words.{full_stop, semicolon, word_end, write_ln, write_string}
use Rattle.dbpl_tree.specs.declared.element.Element.TheOpen as phrases
use Rattle.dbpl_tree.specs.declared.factor.Factor.TheVariants as factors
use Rattle.dbpl_tree.specs.declared.statement.Statement.{Statement}
use Rattle.dbpl_tree.specs.declared.statement.Statement.TheOpen as kinds
use Rattle.dbpl_tree.specs.declared.statement.Statement.TheVariants as statements

module _ (place : Place) where
  pub text-marks :
      (text : List ℕ) → factor_marks (factors.Text place text) ≡ Before place ∷ Of (lexemes.Text text) ∷ []
  text-marks text = ap factor_marks (sym (factors.rolls-Text place text)) ∙ factor_marks-roll (phrases.Text place text)

  statement-lexemes : (s : Small) → lexemes_in (statement_marks (statement_of place s)) ≡ spell_statement s
  statement-lexemes WriteLn =
      ap (λ (x : Statement). lexemes_in (statement_marks x))
      (sym (statements.rolls-Call (record { head = record { place = place; name = write_ln }; parts = [] }) None))
      ∙ ap lexemes_in
      (statement_marks-roll (kinds.Call (record { head = record { place = place; name = write_ln }; parts = [] }) None))
  statement-lexemes (WriteString text) =
      ap (λ (x : Statement). lexemes_in (statement_marks x))
      (sym (statements.rolls-Call (record { head = record { place = place; name = write_string }; parts = [] })
      (Some (record { place = place; exprs = Some (record { first = string place text; others = [] }) }))))
      ∙ ap lexemes_in
      (statement_marks-roll (kinds.Call (record { head = record { place = place; name = write_string }; parts = [] })
      (Some (record { place = place; exprs = Some (record { first = string place text; others = [] }) }))))
      ∙ rw (text-marks text) refl

  empty-lexemes : lexemes_in (statement_marks (statements.Empty place)) ≡ []
  empty-lexemes =
      ap (λ (x : Statement). lexemes_in (statement_marks x)) (sym (statements.rolls-Empty place))
      ∙ ap lexemes_in (statement_marks-roll (kinds.Empty place))

  others-lexemes :
      (first : Small) (others : List Small) →
      spell_statement first ++
      lexemes_in (further_marks semicolon statement_marks (map (statement_of place) others))
      ≡ spell_statements (first ∷ others)
  others-lexemes first [] = append-nil (spell_statement first)
  others-lexemes first (next ∷ others) =
      ap (λ (rest : List Lexeme). spell_statement first ++ semicolon ∷ rest)
      (lexemes_in-join (statement_marks (statement_of place next))
      (further_marks semicolon statement_marks (map (statement_of place) others))
      ∙ ap (λ (front : List Lexeme). front ++
      lexemes_in (further_marks semicolon statement_marks (map (statement_of place) others))) (statement-lexemes next)
      ∙ others-lexemes next others)

  statements-lexemes :
      (ss : List Small) → lexemes_in (statements_marks statement_marks (statements_of place ss)) ≡ spell_statements ss
  statements-lexemes [] =
      lexemes_in-join (statement_marks (statements.Empty place)) [] ∙ rw empty-lexemes refl
  statements-lexemes (first ∷ others) =
      lexemes_in-join (statement_marks (statement_of place first))
      (further_marks semicolon statement_marks (map (statement_of place) others))
      ∙ ap (λ (front : List Lexeme). front ++
      lexemes_in (further_marks semicolon statement_marks (map (statement_of place) others))) (statement-lexemes first)
      ∙ others-lexemes first others

  abbrev finish : List Mark
  finish = Of lexemes.Finish ∷ []

  body-lexemes :
      (program : Program) →
      lexemes_in ((statements_marks statement_marks (statements_of place program.statements)
      ++ ending_marks (record { place = place; name = program.name })) ++ finish)
      ≡ spell_statements program.statements ++ word_end ∷ lexemes.Ident program.name ∷ full_stop ∷ lexemes.Finish ∷ []
  body-lexemes program =
      let body : List Mark = statements_marks statement_marks (statements_of place program.statements) in
      let ending : List Mark = ending_marks (record { place = place; name = program.name }) in
      lexemes_in-join (body ++ ending) finish
      ∙ ap (λ (front : List Lexeme). front ++ lexemes_in finish) (lexemes_in-join body ending)
      ∙ append_assoc (lexemes_in body) (lexemes_in ending) (lexemes_in finish)
      ∙ ap (λ (front : List Lexeme). front ++ (lexemes_in ending ++ lexemes_in finish))
      (statements-lexemes program.statements)

  pub one-spelling : (program : Program) → spell (unit_of place program) ≡ small_spell program
  one-spelling program = ap (λ (rest : List Lexeme). spell_heading program.name ++ rest) (body-lexemes program)
