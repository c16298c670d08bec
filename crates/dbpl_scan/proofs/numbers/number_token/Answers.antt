-- The longest of the spellings is read.
use Rattle.std.proofs.Common.{◌∙◌, sym}
use Rattle.dbpl_scan.proofs.NumberLaw.{character_read, decimal_read, hexadecimal_read, no_hexadecimal_read, no_octal_read, octal_read}
use Rattle.dbpl_scan.proofs.numbers.number_token.Goals as goal

pub returns-then-begins_with : goal.returns-then-begins_with
returns-then-begins_with c =
    hexadecimal_read c.args.text.now c.hexadecimal_digits.result.0.now c.hexadecimal_digits.result.1.now c.past.result.now c.number_in.result c.requires c.hexadecimal_digits.ensures.digits c.hexadecimal_digits.ensures.rest (sym c.begins_with.ensures ∙ c.if-begins_with.true) c.number_in.ensures c.past.ensures

pub returns-then-begins_with-2 : goal.returns-then-begins_with-2
returns-then-begins_with-2 c =
    let none = no_hexadecimal_read c.args.text.now c.hexadecimal_digits.result.1.now c.hexadecimal_digits.ensures.rest (sym c.begins_with.ensures ∙ c.if-begins_with.false) in
    octal_read c.args.text.now c.octal_digits.result.0.now c.octal_digits.result.1.now c.past-then-begins_with-2.result.now c.number_in-then-begins_with-2.result c.requires none c.octal_digits.ensures.digits c.octal_digits.ensures.rest (sym c.begins_with-2.ensures ∙ c.if-begins_with-2.true) c.number_in-then-begins_with-2.ensures c.past-then-begins_with-2.ensures

pub returns-then-begins_with-3 : goal.returns-then-begins_with-3
returns-then-begins_with-3 c =
    let none = no_hexadecimal_read c.args.text.now c.hexadecimal_digits.result.1.now c.hexadecimal_digits.ensures.rest (sym c.begins_with.ensures ∙ c.if-begins_with.false) in
    character_read c.args.text.now c.octal_digits.result.0.now c.octal_digits.result.1.now c.past-then-begins_with-3.result.now c.number_in-then-begins_with-3.result c.requires none c.octal_digits.ensures.digits c.octal_digits.ensures.rest (sym c.begins_with-3.ensures ∙ c.if-begins_with-3.true) c.number_in-then-begins_with-3.ensures c.past-then-begins_with-3.ensures

pub returns : goal.returns
returns c =
    let none = no_hexadecimal_read c.args.text.now c.hexadecimal_digits.result.1.now c.hexadecimal_digits.ensures.rest (sym c.begins_with.ensures ∙ c.if-begins_with.false) in
    let no_octal = no_octal_read c.args.text.now c.octal_digits.result.1.now c.octal_digits.ensures.rest (sym c.begins_with-2.ensures ∙ c.if-begins_with-2.false) (sym c.begins_with-3.ensures ∙ c.if-begins_with-3.false) in
    decimal_read c.args.text.now c.decimal_digits.result.0.now c.decimal_digits.result.1.now c.number_in-2.result c.requires none no_octal c.decimal_digits.ensures.digits c.decimal_digits.ensures.rest c.number_in-2.ensures
