-- The longest word of letters and digits is a token.
use Rattle.std.proofs.Common.{◌∙◌, ℕ, List, ap, refl, subst, sym, take, drop}
use Rattle.dbpl_base.specs.Spelling.{IsRow}
use Rattle.dbpl_base.specs.Words.{reserved_words}
use Rattle.dbpl_scan.proofs.WordLaw.{identifier_stands, reserved_stands}
use Rattle.dbpl_scan.proofs.words.word_token.Goals as goal

pub returns-in-Some : goal.returns-in-Some
returns-in-Some c =
    let word = c.split_at.ensures.front ∙ ap (λ (n : ℕ). take n c.args.text.now) c.word_length.ensures.count in
    let rest = c.split_at.ensures.back ∙ ap (λ (n : ℕ). drop n c.args.text.now) c.word_length.ensures.count in
    rw rest (reserved_stands c.args.text.now c.in-Some.row c.requires (subst (λ (w : List ℕ). IsRow reserved_words c.in-Some.row w) word c.in-Some.ensures.some))

pub returns-in_ok-name_of-in-None : goal.returns-in_ok-name_of-in-None
returns-in_ok-name_of-in-None c =
    let word = c.split_at.ensures.front ∙ ap (λ (n : ℕ). take n c.args.text.now) c.word_length.ensures.count in
    let rest = c.split_at.ensures.back ∙ ap (λ (n : ℕ). drop n c.args.text.now) c.word_length.ensures.count in
    rw (rest, c.in_ok-name_of-in-None.ensures, word) (identifier_stands c.args.text.now c.requires (λ row is. c.in-None.ensures.none refl row (subst (λ (w : List ℕ). IsRow reserved_words row w) (sym word) is)))
