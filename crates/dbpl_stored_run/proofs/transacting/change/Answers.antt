-- The variable that is bound is the one of the program's name.
use Rattle.std.proofs.Common.{◌∙◌, Err, ap}
use Rattle.dbpl_stored_program.specs.declared.run_err.RunErr.TheVariants as run_errors
use Rattle.dbpl_stored_run.proofs.Answering.{err-inside, handed}
use Rattle.dbpl_stored_run.proofs.Stores.{fits-in, fits-of, held-bound, put-is, some-bound, transacted-is}
use Rattle.dbpl_stored_run.proofs.transacting.change.Goals as goal

pub whole-requires : goal.whole-requires
whole-requires c = record {
  bound = some-bound c.args.program.now.relation c.args.store.now c.begin.new.self c.begin.ensures.bound c.requires.bound;
}

pub transacted-requires-clause-relation : goal.transacted-requires-clause-relation
transacted-requires-clause-relation c =
    fits-of c.args.program.now.relation c.args.store.now c.begin.new.self c.whole.result.now c.begin.ensures.bound
    c.requires.bound c.whole.ensures.of

pub replace_all-requires-clause-bound : goal.replace_all-requires-clause-bound
replace_all-requires-clause-bound c =
    some-bound c.args.program.now.relation c.args.store.now c.begin.new.self c.begin.ensures.bound c.requires.bound

pub replace_all-requires-clause-fits : goal.replace_all-requires-clause-fits
replace_all-requires-clause-fits c =
    fits-in c.args.program.now.relation c.args.store.now c.begin.new.self c.in_ok-after.after c.begin.ensures.bound
    c.requires.bound c.in_ok-after.ensures.of_type c.in_ok-after.ensures.are_small

pub returns-clause-ok : goal.returns-clause-ok
returns-clause-ok c = (
  c.in_ok-after.after,
  transacted-is c.args.program.now c.args.store.now c.begin.new.self c.whole.result.now _ c.requires.bound c.begin.ensures.bound
      c.whole.ensures.whole c.in_ok-after.ensures.after,
  put-is c.args.program.now.relation c.args.store.now c.begin.new.self c.replace_all.new.self c.in_ok-after.after
      c.requires.bound c.begin.ensures.database c.begin.ensures.bound c.in_ok-replace_all.ensures.ok,
)

pub returns-in_err-after-clause-trap : goal.returns-in_err-after-clause-trap
returns-in_err-after-clause-trap c = λ trap is.
    let why = err-inside c.from_residual.result _ (run_errors.Trap trap) (handed c.from_residual.result _ c.from_residual.ensures.1) is in
    transacted-is c.args.program.now c.args.store.now c.begin.new.self c.whole.result.now (Err trap) c.requires.bound
    c.begin.ensures.bound c.whole.ensures.whole (c.transacted.ensures.trap trap (c.in_err-after.was ∙ ap (λ e. Err e) why))

pub returns-clause-bound : goal.returns-clause-bound
returns-clause-bound c =
    held-bound c.args.program.now.relation c.args.store.now c.begin.new.self c.replace_all.new.self c.in_ok-after.after
    c.begin.ensures.bound c.in_ok-replace_all.ensures.held c.requires.bound
