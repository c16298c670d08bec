-- Each blank and each whole comment makes the gap longer.
use Rattle.std.proofs.Common.{◌∙◌, List, ℕ, drop, refl, sym, subst}
use Rattle.std.proofs.lemmas.Bool.{true≢false}
use Rattle.dbpl_scan.specs.BreaksOff.{BlankStands}
use Rattle.dbpl_scan.specs.Fronts.{Closes}
use Rattle.dbpl_scan.proofs.GapLaw.{gap_blank, gap_comment, gap_nothing, gap_stands_open}
use Rattle.dbpl_scan.proofs.comments.after_gap.Goals as goal

pub loop-rest-init : goal.loop-rest-init
loop-rest-init c = gap_nothing c.args.text.now

pub loop-rest-preserved-then-begins_with_blank : goal.loop-rest-preserved-then-begins_with_blank
loop-rest-preserved-then-begins_with_blank c =
    rw c.past-rest.ensures (gap_blank c.args.text.now c.loop-rest.rest.now c.loop-rest.invariant (c.begins_with_blank.ensures.0 c.if-begins_with_blank.true))

pub loop-rest-preserved : goal.loop-rest-preserved
loop-rest-preserved c =
    gap_comment c.args.text.now c.loop-rest.rest.now c.in-Some.behind.now c.loop-rest.invariant (c.opens_comment.ensures.0 c.if-not-opens_comment.false) (subst (λ (t : List ℕ). Closes t c.in-Some.behind.now) c.past.ensures c.in-Some.ensures.some)

pub returns-in-None : goal.returns-in-None
returns-in-None c =
    let no_blank = λ (h : BlankStands c.loop-rest.rest.now). true≢false (sym (c.begins_with_blank.ensures.1 h) ∙ c.if-begins_with_blank.false) in
    let never = λ (behind : List ℕ) (h : Closes (drop 2 c.loop-rest.rest.now) behind). c.in-None.ensures.none refl behind (subst (λ (t : List ℕ). Closes t behind) (sym c.past.ensures) h) in
    gap_stands_open c.args.text.now c.loop-rest.rest.now c.loop-rest.invariant no_blank (c.opens_comment.ensures.0 c.if-not-opens_comment.false) never
