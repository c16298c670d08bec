use Rattle.std.proofs.Common.{arith, sym, ◌∙◌}
use Rattle.std.proofs.lemmas.Result.{err_from_is_err_and}
use Rattle.dbpl_codec.proofs.TypeWhole.{type_found, type_read, unkept}
use Rattle.dbpl_codec.proofs.descriptors.read_type.Goals as goal

pub returns-in_err-t-clause-only : goal.returns-in_err-t-clause-only
returns-in_err-t-clause-only c = λ t type fits e.
    let p = err_from_is_err_and c.from_residual.result c.from_residual.ensures.1 in
    rw (p.1, p.2) (λ ne. sym (type_read t c.args.bytes.now type fits e) ∙ c.in_err-t.ensures ne)

pub returns-then-branch-clause-found : goal.returns-then-branch-clause-found
returns-then-branch-clause-found c =
    type_found c.in_ok-t.t c.args.bytes.now (λ i. omega (arith, c.type_inv.bytes i)) c.in_ok-t.ensures
    (sym c.in_ok-is_type.ensures ∙ c.if-branch.true)

pub returns-then-branch-clause-only : goal.returns-then-branch-clause-only
returns-then-branch-clause-only c = λ t type fits e. sym (type_read t c.args.bytes.now type fits e) ∙ c.in_ok-t.ensures

pub returns-else-branch-clause-only : goal.returns-else-branch-clause-only
returns-else-branch-clause-only c = λ t type fits e ne.
    absurd (unkept t c.in_ok-t.t c.args.bytes.now c.in_ok-t.ensures type fits e
    (sym c.in_ok-is_type.ensures ∙ c.if-branch.false))
