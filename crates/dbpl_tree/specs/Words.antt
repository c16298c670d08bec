-- The words and signs that trees are spelled with, and three names that the language has.
use Rattle.std.specs.Prelude.{ℕ, List, codes}
use Rattle.dbpl_base.specs.declared.lexeme.Lexeme.{Lexeme}
use Rattle.dbpl_base.specs.declared.lexeme.Lexeme.TheVariants.{Reserved, Sign}
use Rattle.dbpl_base.specs.declared.words.TheConstants.{ADD, ALL, AMPERSAND, AND, ARRAY, BAR, BECOMES, BEGIN, BY, CASE, COLON, COMMA, CONST, CONSTRUCTOR, DATABASE, DEFINITION, DIV, DO, EACH, ELLIPSIS, ELSE, ELSIF, END, EQUALS, EXIT, FOR, FROM, FULL_STOP, GREATER, GREATER_EQUAL, HASH, IF, IMPLEMENTATION, IMPORT, IN, LEFT_BRACE, LEFT_BRACKET, LEFT_PARENTHESIS, LESS, LESS_EQUAL, LOOP, MINUS, MOD, MODULE, NOT, OF, OR, PLUS, PROCEDURE, RECORD, RELATION, REMOVE, REPEAT, REPLACE, RETURN, RIGHT_BRACE, RIGHT_BRACKET, RIGHT_PARENTHESIS, SELECTOR, SEMICOLON, SOME, THEN, TILDE, TIMES, TO, TRANSACTION, TYPE, UNEQUAL, UNTIL, VAR, WHILE}

-- the module that prints, and two of its procedures
unfoldable pub in_out : List ℕ
in_out = codes "InOut"

unfoldable pub write_string : List ℕ
write_string = codes "WriteString"

unfoldable pub write_ln : List ℕ
write_ln = codes "WriteLn"

-- ---- reserved words, by their positions in the table

abbrev pub word_and : Lexeme
word_and = Reserved AND

abbrev pub word_array : Lexeme
word_array = Reserved ARRAY

abbrev pub word_begin : Lexeme
word_begin = Reserved BEGIN

abbrev pub word_by : Lexeme
word_by = Reserved BY

abbrev pub word_case : Lexeme
word_case = Reserved CASE

abbrev pub word_const : Lexeme
word_const = Reserved CONST

abbrev pub word_definition : Lexeme
word_definition = Reserved DEFINITION

abbrev pub word_div : Lexeme
word_div = Reserved DIV

abbrev pub word_do : Lexeme
word_do = Reserved DO

abbrev pub word_else : Lexeme
word_else = Reserved ELSE

abbrev pub word_elsif : Lexeme
word_elsif = Reserved ELSIF

abbrev pub word_end : Lexeme
word_end = Reserved END

abbrev pub word_exit : Lexeme
word_exit = Reserved EXIT

abbrev pub word_for : Lexeme
word_for = Reserved FOR

abbrev pub word_from : Lexeme
word_from = Reserved FROM

abbrev pub word_if : Lexeme
word_if = Reserved IF

abbrev pub word_implementation : Lexeme
word_implementation = Reserved IMPLEMENTATION

abbrev pub word_import : Lexeme
word_import = Reserved IMPORT

abbrev pub word_in : Lexeme
word_in = Reserved IN

abbrev pub word_loop : Lexeme
word_loop = Reserved LOOP

abbrev pub word_mod : Lexeme
word_mod = Reserved MOD

abbrev pub word_module : Lexeme
word_module = Reserved MODULE

abbrev pub word_not : Lexeme
word_not = Reserved NOT

abbrev pub word_of : Lexeme
word_of = Reserved OF

abbrev pub word_or : Lexeme
word_or = Reserved OR

abbrev pub word_procedure : Lexeme
word_procedure = Reserved PROCEDURE

abbrev pub word_record : Lexeme
word_record = Reserved RECORD

abbrev pub word_repeat : Lexeme
word_repeat = Reserved REPEAT

abbrev pub word_return : Lexeme
word_return = Reserved RETURN

abbrev pub word_then : Lexeme
word_then = Reserved THEN

abbrev pub word_to : Lexeme
word_to = Reserved TO

abbrev pub word_type : Lexeme
word_type = Reserved TYPE

abbrev pub word_until : Lexeme
word_until = Reserved UNTIL

abbrev pub word_var : Lexeme
word_var = Reserved VAR

abbrev pub word_while : Lexeme
word_while = Reserved WHILE

abbrev pub word_all : Lexeme
word_all = Reserved ALL

abbrev pub word_constructor : Lexeme
word_constructor = Reserved CONSTRUCTOR

abbrev pub word_database : Lexeme
word_database = Reserved DATABASE

abbrev pub word_each : Lexeme
word_each = Reserved EACH

abbrev pub word_relation : Lexeme
word_relation = Reserved RELATION

abbrev pub word_selector : Lexeme
word_selector = Reserved SELECTOR

abbrev pub word_some : Lexeme
word_some = Reserved SOME

abbrev pub word_transaction : Lexeme
word_transaction = Reserved TRANSACTION

-- ---- signs, by their positions in the table

-- +
abbrev pub plus_sign : Lexeme
plus_sign = Sign PLUS

-- -
abbrev pub minus_sign : Lexeme
minus_sign = Sign MINUS

-- *
abbrev pub times_sign : Lexeme
times_sign = Sign TIMES

-- =
abbrev pub equal_sign : Lexeme
equal_sign = Sign EQUALS

-- #
abbrev pub hash_sign : Lexeme
hash_sign = Sign HASH

-- <>
abbrev pub unequal_sign : Lexeme
unequal_sign = Sign UNEQUAL

-- <
abbrev pub less_sign : Lexeme
less_sign = Sign LESS

-- <=
abbrev pub less_equal_sign : Lexeme
less_equal_sign = Sign LESS_EQUAL

-- >
abbrev pub greater_sign : Lexeme
greater_sign = Sign GREATER

-- >=
abbrev pub greater_equal_sign : Lexeme
greater_equal_sign = Sign GREATER_EQUAL

-- &
abbrev pub ampersand : Lexeme
ampersand = Sign AMPERSAND

-- ~
abbrev pub tilde : Lexeme
tilde = Sign TILDE

-- :=
abbrev pub becomes_sign : Lexeme
becomes_sign = Sign BECOMES

-- :+
abbrev pub add_sign : Lexeme
add_sign = Sign ADD

-- :-
abbrev pub remove_sign : Lexeme
remove_sign = Sign REMOVE

-- :&
abbrev pub replace_sign : Lexeme
replace_sign = Sign REPLACE

-- .
abbrev pub full_stop : Lexeme
full_stop = Sign FULL_STOP

-- ..
abbrev pub ellipsis : Lexeme
ellipsis = Sign ELLIPSIS

-- ,
abbrev pub comma : Lexeme
comma = Sign COMMA

-- ;
abbrev pub semicolon : Lexeme
semicolon = Sign SEMICOLON

-- :
abbrev pub colon : Lexeme
colon = Sign COLON

-- (
abbrev pub left_parenthesis : Lexeme
left_parenthesis = Sign LEFT_PARENTHESIS

-- )
abbrev pub right_parenthesis : Lexeme
right_parenthesis = Sign RIGHT_PARENTHESIS

-- [
abbrev pub left_bracket : Lexeme
left_bracket = Sign LEFT_BRACKET

-- ]
abbrev pub right_bracket : Lexeme
right_bracket = Sign RIGHT_BRACKET

-- {
abbrev pub left_brace : Lexeme
left_brace = Sign LEFT_BRACE

-- }
abbrev pub right_brace : Lexeme
right_brace = Sign RIGHT_BRACE

-- |
abbrev pub bar : Lexeme
bar = Sign BAR
