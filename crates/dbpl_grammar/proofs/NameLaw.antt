-- The law of names, and what the tokens with a content mean.
use Rattle.std.proofs.Common.{◌≡◌, ℕ, false, List, [], ◌∷◌, Option, Some, None, refl, ap, arith}
use Rattle.dbpl_base.specs.declared.lexeme.Lexeme.{Lexeme}
use Rattle.dbpl_base.specs.declared.lexeme.Lexeme.TheVariants as lexemes
use Rattle.dbpl_tree.specs.Names.{ident_marks, idents_marks, qual_marks}
use Rattle.dbpl_tree.specs.Words.{comma, full_stop}
use Rattle.dbpl_tree.specs.declared.ident.Ident.{Ident}
use Rattle.dbpl_tree.specs.declared.ident.Idents.{Idents}
use Rattle.dbpl_tree.specs.declared.ident.Qual.{Qual}
use Rattle.dbpl_grammar.specs.Expressions.{char_code_of, ident, ident_first, idents, identifier_of, number_of, qual, text_of}
use Rattle.dbpl_grammar.proofs.Every.{Every, all_those, both, made, maybe, shallow_list, shallow_option}
use Rattle.dbpl_grammar.proofs.TokenLaw.{law_after, law_here, law_leaf}

pub name_is : (l : Lexeme) (x : List ℕ) → identifier_of l ≡ Some x → l ≡ lexemes.Ident x
name_is (lexemes.Ident name) x e = ap (λ (o : Option (List ℕ)). lexemes.Ident (or_none o)) e
  where
    or_none : Option (List ℕ) → List ℕ
    or_none (Some y) = y
    or_none None = []
name_is (lexemes.Number n) x e = absurd (let no : None ≡ Some x = e in cc)
name_is (lexemes.CharCode n) x e = absurd (let no : None ≡ Some x = e in cc)
name_is (lexemes.Text text) x e = absurd (let no : None ≡ Some x = e in cc)
name_is (lexemes.Reserved row) x e = absurd (let no : None ≡ Some x = e in cc)
name_is (lexemes.Sign row) x e = absurd (let no : None ≡ Some x = e in cc)
name_is lexemes.Finish x e = absurd (let no : None ≡ Some x = e in cc)

pub number_is : (l : Lexeme) (x : ℕ) → number_of l ≡ Some x → l ≡ lexemes.Number x
number_is (lexemes.Ident name) x e = absurd (let no : None ≡ Some x = e in cc)
number_is (lexemes.Number n) x e = ap (λ (o : Option (ℕ)). lexemes.Number (or_none o)) e
  where
    or_none : Option (ℕ) → ℕ
    or_none (Some y) = y
    or_none None = 0
number_is (lexemes.CharCode n) x e = absurd (let no : None ≡ Some x = e in cc)
number_is (lexemes.Text text) x e = absurd (let no : None ≡ Some x = e in cc)
number_is (lexemes.Reserved row) x e = absurd (let no : None ≡ Some x = e in cc)
number_is (lexemes.Sign row) x e = absurd (let no : None ≡ Some x = e in cc)
number_is lexemes.Finish x e = absurd (let no : None ≡ Some x = e in cc)

pub char_code_is : (l : Lexeme) (x : ℕ) → char_code_of l ≡ Some x → l ≡ lexemes.CharCode x
char_code_is (lexemes.Ident name) x e = absurd (let no : None ≡ Some x = e in cc)
char_code_is (lexemes.Number n) x e = absurd (let no : None ≡ Some x = e in cc)
char_code_is (lexemes.CharCode n) x e = ap (λ (o : Option (ℕ)). lexemes.CharCode (or_none o)) e
  where
    or_none : Option (ℕ) → ℕ
    or_none (Some y) = y
    or_none None = 0
char_code_is (lexemes.Text text) x e = absurd (let no : None ≡ Some x = e in cc)
char_code_is (lexemes.Reserved row) x e = absurd (let no : None ≡ Some x = e in cc)
char_code_is (lexemes.Sign row) x e = absurd (let no : None ≡ Some x = e in cc)
char_code_is lexemes.Finish x e = absurd (let no : None ≡ Some x = e in cc)

pub text_is : (l : Lexeme) (x : List ℕ) → text_of l ≡ Some x → l ≡ lexemes.Text x
text_is (lexemes.Ident name) x e = absurd (let no : None ≡ Some x = e in cc)
text_is (lexemes.Number n) x e = absurd (let no : None ≡ Some x = e in cc)
text_is (lexemes.CharCode n) x e = absurd (let no : None ≡ Some x = e in cc)
text_is (lexemes.Text text) x e = ap (λ (o : Option (List ℕ)). lexemes.Text (or_none o)) e
  where
    or_none : Option (List ℕ) → List ℕ
    or_none (Some y) = y
    or_none None = []
text_is (lexemes.Reserved row) x e = absurd (let no : None ≡ Some x = e in cc)
text_is (lexemes.Sign row) x e = absurd (let no : None ≡ Some x = e in cc)
text_is lexemes.Finish x e = absurd (let no : None ≡ Some x = e in cc)

pub law_ident : (limit : ℕ) → Every ident_marks (λ (x : Ident). 0) limit ident_first [] false ident
unfolding ident
law_ident limit =
    made ident_marks (λ (x : Ident). 0) (both (law_here limit) (law_leaf limit identifier_of lexemes.Ident ident_first [] refl (λ x. refl) name_is (λ x. refl)) refl) (λ found. record { place = found.0; name = found.1 }) (λ x. (x.place, x.name)) (λ x. refl) (λ x. refl) (λ x. refl)

pub law_idents : (limit : ℕ) → Every idents_marks (λ (x : Idents). 0) limit ident_first (comma ∷ []) false idents
unfolding idents
law_idents limit =
    made idents_marks (λ (x : Idents). 0) (both (law_ident limit) (all_those (law_after comma refl (law_ident limit)) refl) refl) (λ found. record { first = found.0; others = found.1 }) (λ x. (x.first, x.others)) (λ x. refl) (λ x. let none = shallow_list x.1 in omega arith) (λ x. refl)

pub law_qual : (limit : ℕ) → Every qual_marks (λ (x : Qual). 0) limit ident_first (full_stop ∷ []) false qual
unfolding qual
law_qual limit =
    made qual_marks (λ (x : Qual). 0) (both (law_ident limit) (maybe (law_after full_stop refl (law_ident limit))) refl) (λ found. record { first = found.0; second = found.1 }) (λ x. (x.first, x.second)) (λ x. refl) (λ x. let none = shallow_option x.1 in omega arith) (λ x. refl)
