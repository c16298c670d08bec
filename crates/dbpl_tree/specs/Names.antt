-- The marks of names: `x`, `a , b` and `M . x`.
use Rattle.std.specs.Prelude.{List, [], ◌∷◌, ◌++◌}
use Rattle.dbpl_base.specs.declared.lexeme.Lexeme.TheVariants as lexemes
use Rattle.dbpl_tree.specs.Marks.{Mark, Of, Before, further_marks, option_marks}
use Rattle.dbpl_tree.specs.Words.{comma, full_stop}
use Rattle.dbpl_tree.specs.declared.ident.Ident.{Ident}
use Rattle.dbpl_tree.specs.declared.ident.Idents.{Idents}
use Rattle.dbpl_tree.specs.declared.ident.Qual.{Qual}

abbrev pub ident_marks : Ident → List Mark
ident_marks x = Before x.place ∷ Of (lexemes.Ident x.name) ∷ []

abbrev pub idents_marks : Idents → List Mark
idents_marks xs = ident_marks xs.first ++ further_marks comma ident_marks xs.others

abbrev pub qual_marks : Qual → List Mark
qual_marks q = ident_marks q.first ++ option_marks (λ x. Of full_stop ∷ ident_marks x) q.second
