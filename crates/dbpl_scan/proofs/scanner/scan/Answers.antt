-- Each turn reads a gap and a token, and the last one answers.
use Rattle.std.proofs.Common.{◌∙◌, ◌+◌, ◌≤◌, length, sym, ap, inl, Ok, Err, arith}
use Rattle.dbpl_base.specs.Places.{start_of}
use Rattle.dbpl_base.specs.declared.place.Place.{Place}
use Rattle.dbpl_scan.specs.Fronts.{StandsFirst}
use Rattle.dbpl_scan.specs.declared.scan_err.ScanErr.TheVariants.{Bad}
use Rattle.dbpl_scan.proofs.CommentLaw.{empty_if, filled_nonempty}
use Rattle.dbpl_scan.proofs.TurnLaw.{Turn, break_at, finish_found, finish_no_break, finish_one, here_is, token_fits, token_shorter, token_turn}
use Rattle.dbpl_scan.proofs.WholeLaw.{breaks_no_scan, one_break}
use Rattle.dbpl_scan.proofs.scanner.scan.Goals as goal

pub returns-then-is_empty-clause-found : goal.returns-then-is_empty-clause-found
returns-then-is_empty-clause-found c =
    let here = here_is c.loop-front.place c.place_after-here.result c.loop-front.rest.now c.after_gap-front.result.now c.up_to.result.now c.after_gap-front.ensures c.up_to.ensures c.place_after-here.ensures in
    let empty = empty_if c.after_gap-front.result.now (sym c.is_empty.ensures ∙ c.if-is_empty.true) in
    finish_found c.args.unit c.args.text.now c.loop-front.tokens c.push.new.self c.loop-front.place c.place_after-here.result c.loop-front.rest.now c.after_gap-front.result.now c.loop-front.invariant.reads c.after_gap-front.ensures empty here c.in_ok-push.ensures.ok

pub returns-then-is_empty-clause-only : goal.returns-then-is_empty-clause-only
returns-then-is_empty-clause-only c =
    let here = here_is c.loop-front.place c.place_after-here.result c.loop-front.rest.now c.after_gap-front.result.now c.up_to.result.now c.after_gap-front.ensures c.up_to.ensures c.place_after-here.ensures in
    let empty = empty_if c.after_gap-front.result.now (sym c.is_empty.ensures ∙ c.if-is_empty.true) in
    finish_one c.args.unit c.args.text.now c.loop-front.tokens c.push.new.self c.loop-front.place c.place_after-here.result c.loop-front.rest.now c.after_gap-front.result.now c.loop-front.invariant.reads c.after_gap-front.ensures empty here c.in_ok-push.ensures.ok

pub returns-then-is_empty-clause-exact : goal.returns-then-is_empty-clause-exact
returns-then-is_empty-clause-exact c =
    let empty = empty_if c.after_gap-front.result.now (sym c.is_empty.ensures ∙ c.if-is_empty.true) in
    λ place o. absurd (finish_no_break c.args.unit c.args.text.now c.loop-front.tokens c.loop-front.place c.loop-front.rest.now c.after_gap-front.result.now c.loop-front.invariant.reads c.after_gap-front.ensures empty place o)

pub returns-in_default-clause-refused : goal.returns-in_default-clause-refused
returns-in_default-clause-refused c =
    let here = here_is c.loop-front.place c.place_after-here.result c.loop-front.rest.now c.after_gap-front.result.now c.up_to.result.now c.after_gap-front.ensures c.up_to.ensures c.place_after-here.ensures in
    let filled = filled_nonempty c.after_gap-front.result.now (sym c.is_empty.ensures ∙ c.if-is_empty.false) in
    let b = break_at c.loop-front.place c.place_after-here.result c.loop-front.rest.now c.after_gap-front.result.now c.after_gap-front.ensures here filled (c.first_token.ensures.none (c.in_ok-lexeme.was ∙ ap Ok c.in_default.is)) in
    λ place e tokens k. breaks_no_scan c.loop-front.tokens (start_of c.args.unit) c.args.text.now c.loop-front.place c.loop-front.rest.now c.place_after-here.result tokens c.loop-front.invariant.reads b k

pub returns-in_default-clause-exact : goal.returns-in_default-clause-exact
returns-in_default-clause-exact c =
    let here = here_is c.loop-front.place c.place_after-here.result c.loop-front.rest.now c.after_gap-front.result.now c.up_to.result.now c.after_gap-front.ensures c.up_to.ensures c.place_after-here.ensures in
    let filled = filled_nonempty c.after_gap-front.result.now (sym c.is_empty.ensures ∙ c.if-is_empty.false) in
    let b = break_at c.loop-front.place c.place_after-here.result c.loop-front.rest.now c.after_gap-front.result.now c.after_gap-front.ensures here filled (c.first_token.ensures.none (c.in_ok-lexeme.was ∙ ap Ok c.in_default.is)) in
    λ place o. inl (ap (λ (p : Place). Err (Bad p)) (sym (one_break c.args.unit c.args.text.now c.loop-front.tokens c.loop-front.place c.loop-front.rest.now c.place_after-here.result place c.loop-front.invariant.reads b o)))

pub place_after-place-requires-clause-line : goal.place_after-place-requires-clause-line
place_after-place-requires-clause-line c =
    let here = here_is c.loop-front.place c.place_after-here.result c.loop-front.rest.now c.after_gap-front.result.now c.up_to.result.now c.after_gap-front.ensures c.up_to.ensures c.place_after-here.ensures in
    let stands : StandsFirst c.after_gap-front.result.now c.in-Some.lexeme c.in-Some.behind.now = rw c.in-Some.is at c.in_ok-lexeme.ensures.some in
    let turn : Turn c.args.unit c.args.text.now c.loop-front.tokens c.loop-front.place c.loop-front.rest.now = record { reads = c.loop-front.invariant.reads; line = c.loop-front.invariant.line; col = c.loop-front.invariant.col; counted = c.loop-front.invariant.counted } in
    let fits = token_fits c.args.unit c.args.text.now c.loop-front.tokens c.loop-front.place c.place_after-here.result c.loop-front.rest.now c.after_gap-front.result.now c.in-Some.behind.now c.up_to-in-loop-front.result.now c.in-Some.lexeme turn c.after_gap-front.ensures here stands c.up_to-in-loop-front.ensures in
    let most = fits.line in
    let small : c.place_after-here.result.line + length c.up_to-in-loop-front.result.now ≤ 4294967295 = omega (arith, most, c.requires) in
    small

pub place_after-place-requires-clause-col : goal.place_after-place-requires-clause-col
place_after-place-requires-clause-col c =
    let here = here_is c.loop-front.place c.place_after-here.result c.loop-front.rest.now c.after_gap-front.result.now c.up_to.result.now c.after_gap-front.ensures c.up_to.ensures c.place_after-here.ensures in
    let stands : StandsFirst c.after_gap-front.result.now c.in-Some.lexeme c.in-Some.behind.now = rw c.in-Some.is at c.in_ok-lexeme.ensures.some in
    let turn : Turn c.args.unit c.args.text.now c.loop-front.tokens c.loop-front.place c.loop-front.rest.now = record { reads = c.loop-front.invariant.reads; line = c.loop-front.invariant.line; col = c.loop-front.invariant.col; counted = c.loop-front.invariant.counted } in
    let fits = token_fits c.args.unit c.args.text.now c.loop-front.tokens c.loop-front.place c.place_after-here.result c.loop-front.rest.now c.after_gap-front.result.now c.in-Some.behind.now c.up_to-in-loop-front.result.now c.in-Some.lexeme turn c.after_gap-front.ensures here stands c.up_to-in-loop-front.ensures in
    let most = fits.col in
    let small : c.place_after-here.result.col + length c.up_to-in-loop-front.result.now ≤ 4294967295 = omega (arith, most, c.requires) in
    small

pub place_after-place-requires-clause-counted : goal.place_after-place-requires-clause-counted
place_after-place-requires-clause-counted c =
    let here = here_is c.loop-front.place c.place_after-here.result c.loop-front.rest.now c.after_gap-front.result.now c.up_to.result.now c.after_gap-front.ensures c.up_to.ensures c.place_after-here.ensures in
    let stands : StandsFirst c.after_gap-front.result.now c.in-Some.lexeme c.in-Some.behind.now = rw c.in-Some.is at c.in_ok-lexeme.ensures.some in
    let turn : Turn c.args.unit c.args.text.now c.loop-front.tokens c.loop-front.place c.loop-front.rest.now = record { reads = c.loop-front.invariant.reads; line = c.loop-front.invariant.line; col = c.loop-front.invariant.col; counted = c.loop-front.invariant.counted } in
    let fits = token_fits c.args.unit c.args.text.now c.loop-front.tokens c.loop-front.place c.place_after-here.result c.loop-front.rest.now c.after_gap-front.result.now c.in-Some.behind.now c.up_to-in-loop-front.result.now c.in-Some.lexeme turn c.after_gap-front.ensures here stands c.up_to-in-loop-front.ensures in
    fits.counted

pub loop-front-smaller : goal.loop-front-smaller
loop-front-smaller c =
    let stands : StandsFirst c.after_gap-front.result.now c.in-Some.lexeme c.in-Some.behind.now = rw c.in-Some.is at c.in_ok-lexeme.ensures.some in
    token_shorter c.loop-front.rest.now c.after_gap-front.result.now c.in-Some.behind.now c.in-Some.lexeme c.after_gap-front.ensures stands

pub loop-front-preserved : goal.loop-front-preserved
loop-front-preserved c =
    let here = here_is c.loop-front.place c.place_after-here.result c.loop-front.rest.now c.after_gap-front.result.now c.up_to.result.now c.after_gap-front.ensures c.up_to.ensures c.place_after-here.ensures in
    let stands : StandsFirst c.after_gap-front.result.now c.in-Some.lexeme c.in-Some.behind.now = rw c.in-Some.is at c.in_ok-lexeme.ensures.some in
    let turn : Turn c.args.unit c.args.text.now c.loop-front.tokens c.loop-front.place c.loop-front.rest.now = record { reads = c.loop-front.invariant.reads; line = c.loop-front.invariant.line; col = c.loop-front.invariant.col; counted = c.loop-front.invariant.counted } in
    let next = token_turn c.args.unit c.args.text.now c.loop-front.tokens c.push-in-loop-front.new.self c.loop-front.place c.place_after-here.result c.place_after-place.result c.loop-front.rest.now c.after_gap-front.result.now c.in-Some.behind.now c.up_to-in-loop-front.result.now c.in-Some.lexeme turn c.after_gap-front.ensures here stands c.up_to-in-loop-front.ensures c.place_after-place.ensures c.in_ok-push-2.ensures.ok in
    record { reads = next.reads; line = next.line; col = next.col; counted = next.counted }
