-- The longer sign is the token.
use Rattle.std.proofs.Common.{refl}
use Rattle.dbpl_scan.proofs.SignLaw.{no_sign_stands, one_stands, two_stand}
use Rattle.dbpl_scan.proofs.signs.sign_token.Goals as goal

pub returns-in-Some-clause-some : goal.returns-in-Some-clause-some
returns-in-Some-clause-some c =
    two_stand c.args.text.now c.in-Some.row c.in-Some.rest.now c.requires.first c.requires.no_comment c.in-Some.ensures.some

pub returns-in-Some-sign_of-clause-some : goal.returns-in-Some-sign_of-clause-some
returns-in-Some-sign_of-clause-some c =
    one_stands c.args.text.now c.in-Some-sign_of.row c.in-Some-sign_of.rest.now c.requires.first c.requires.no_comment (c.in-None.ensures.none refl) c.in-Some-sign_of.ensures.some

pub returns-in-None-sign_of-clause-none : goal.returns-in-None-sign_of-clause-none
returns-in-None-sign_of-clause-none c =
    λ _. no_sign_stands c.args.text.now c.requires.first (c.in-None.ensures.none refl) (c.in-None-sign_of.ensures.none refl)
