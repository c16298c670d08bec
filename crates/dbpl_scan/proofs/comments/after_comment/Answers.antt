-- Each byte leads the walk on as the comment does.
use Rattle.std.proofs.Common.{◌∙◌, ◌+◌, ◌-◌, ◌<◌, ◌≤◌, ℕ, List, length, drop, sym, arith}
use Rattle.std.proofs.lemmas.Bool.{true≢false}
use Rattle.dbpl_base.specs.Scans.{OpensComment}
use Rattle.dbpl_scan.specs.Comments.{ClosesComment}
use Rattle.dbpl_scan.proofs.CommentLaw.{Same, closes_here, closes_length, closes_same, drop_length, empty_if, filled_if, never_closes, opens_length, opens_same, passes_same, same_more}
use Rattle.dbpl_scan.proofs.comments.after_comment.Goals as goal

record Stands (text : List ℕ) (depth : ℕ) (rest : List ℕ) : Type 0 where
  same : Same 0 text depth rest
  deep : depth + length rest ≤ length text

opens_on : (text rest : List ℕ) (depth : ℕ) → OpensComment rest → Same 0 text depth rest → depth + length rest ≤ length text → Stands text (depth + 1) (drop 2 rest)
opens_on text rest depth h same deep = record {
  same = same_more text rest (drop 2 rest) depth (depth + 1) same (opens_same depth rest h);
  deep = (let shorter = opens_length rest h in omega (arith, shorter, deep));
}

passes_on : (text rest : List ℕ) (depth : ℕ) → 1 ≤ length rest → (OpensComment rest → ⊥) → (ClosesComment rest → ⊥) → Same 0 text depth rest → depth + length rest ≤ length text → Stands text depth (drop 1 rest)
passes_on text rest depth some no_open no_close same deep = record {
  same = same_more text rest (drop 1 rest) depth depth same (passes_same depth rest some no_open no_close);
  deep = (let shorter = drop_length rest some in omega (arith, shorter, deep));
}

closes_on : (text rest : List ℕ) (depth : ℕ) → 0 < depth → ClosesComment rest → Same 0 text depth rest → depth + length rest ≤ length text → Stands text (depth - 1) (drop 2 rest)
closes_on text rest depth some h same deep = record {
  same = same_more text rest (drop 2 rest) depth (depth - 1) same (closes_same depth (depth - 1) rest (omega (arith, some)) h);
  deep = (let shorter = closes_length rest h in omega (arith, shorter, deep, some));
}

pub loop-rest-preserved-then-opens_comment : goal.loop-rest-preserved-then-opens_comment
loop-rest-preserved-then-opens_comment c =
    let opens = c.opens_comment.ensures.0 c.if-opens_comment.true in
    let on = opens_on c.args.text.now c.loop-rest.rest.now c.loop-rest.depth opens c.loop-rest.invariant.same c.loop-rest.invariant.deep in
    rw c.past-rest.ensures (record { same = on.same; deep = on.deep })

pub loop-rest-preserved-then-not-closes_comment : goal.loop-rest-preserved-then-not-closes_comment
loop-rest-preserved-then-not-closes_comment c =
    let some = filled_if c.loop-rest.rest.now (sym c.is_empty.ensures ∙ c.loop-rest-test.true) in
    let no_open = λ (h : OpensComment c.loop-rest.rest.now). true≢false (sym (c.opens_comment.ensures.1 h) ∙ c.if-opens_comment.false) in
    let no_close = λ (h : ClosesComment c.loop-rest.rest.now). true≢false (sym (c.closes_comment.ensures.1 h) ∙ c.if-not-closes_comment.true) in
    let on = passes_on c.args.text.now c.loop-rest.rest.now c.loop-rest.depth some no_open no_close c.loop-rest.invariant.same c.loop-rest.invariant.deep in
    rw c.past-rest-then-not-closes_comment.ensures (record { same = on.same; deep = on.deep })

pub loop-rest-preserved : goal.loop-rest-preserved
loop-rest-preserved c =
    let closes = c.closes_comment.ensures.0 c.if-not-closes_comment.false in
    let on = closes_on c.args.text.now c.loop-rest.rest.now c.loop-rest.depth c.if-depth-gt0.true closes c.loop-rest.invariant.same c.loop-rest.invariant.deep in
    rw c.past-rest-then-depth-gt0.ensures (record { same = on.same; deep = on.deep })

pub returns-else-depth-gt0-clause-some : goal.returns-else-depth-gt0-clause-some
returns-else-depth-gt0-clause-some c =
    let closes = c.closes_comment.ensures.0 c.if-not-closes_comment.false in
    rw c.past.ensures (closes_here c.loop-rest.depth c.args.text.now c.loop-rest.rest.now c.loop-rest.invariant.same (omega (arith, c.if-depth-gt0.false)) closes)

pub returns-clause-none : goal.returns-clause-none
returns-clause-none c =
    λ _ rest h. never_closes c.loop-rest.depth c.args.text.now c.loop-rest.rest.now rest c.loop-rest.invariant.same (empty_if c.loop-rest.rest.now (sym c.is_empty.ensures ∙ c.loop-rest-test.false)) h
