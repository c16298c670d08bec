-- One lexeme of each kind that has a content, to stand for its kind in a set of lexemes.
use Rattle.std.specs.Prelude.{[]}
use Rattle.dbpl_base.specs.declared.lexeme.Lexeme.{Lexeme}
use Rattle.dbpl_base.specs.declared.lexeme.Lexeme.TheVariants.{Ident, Number, CharCode, Text}

abbrev pub an_ident : Lexeme
an_ident = Ident []

abbrev pub a_number : Lexeme
a_number = Number 0

abbrev pub a_char_code : Lexeme
a_char_code = CharCode 0

abbrev pub a_text : Lexeme
a_text = Text []
