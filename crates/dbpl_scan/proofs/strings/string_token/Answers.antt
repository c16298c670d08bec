-- A string stands where its closing quote is found.
use Rattle.std.proofs.Common.{sym}
use Rattle.dbpl_scan.proofs.StringLaw.{no_string_stands, string_stands}
use Rattle.dbpl_scan.proofs.strings.string_token.Goals as goal

pub returns-in_ok-name_of-in-Some-clause-some : goal.returns-in_ok-name_of-in-Some-clause-some
returns-in_ok-name_of-in-Some-clause-some c =
    rw c.in_ok-name_of-in-Some.ensures (string_stands c.args.text.now c.in-Some.inside.now c.in-Some.rest.now c.requires (sym c.in-Some.ensures))

pub returns-in-None-clause-none : goal.returns-in-None-clause-none
returns-in-None-clause-none c =
    λ _. no_string_stands c.args.text.now c.requires (sym c.in-None.ensures)
