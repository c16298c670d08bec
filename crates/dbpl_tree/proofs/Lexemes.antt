-- The lexemes of marks one after another.
use Rattle.std.proofs.Common.{◌≡◌, List, [], ◌∷◌, ◌++◌, refl, ap}
use Rattle.dbpl_tree.specs.Marks.{Mark, Of, Before, lexemes_in}

pub lexemes_in-join : (front back : List Mark) → lexemes_in (front ++ back) ≡ lexemes_in front ++ lexemes_in back
lexemes_in-join [] back = refl
lexemes_in-join (Of lexeme ∷ front) back = ap (λ rest. lexeme ∷ rest) (lexemes_in-join front back)
lexemes_in-join (Before place ∷ front) back = lexemes_in-join front back
