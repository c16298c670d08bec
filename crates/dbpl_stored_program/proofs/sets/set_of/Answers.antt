-- A row is put where it clashes with none of those before, and else there is no set.
use Rattle.std.proofs.Common.{ap, sym, ◌∙◌}
use Rattle.std.proofs.lemmas.Result.{err_from_is_err_and}
use Rattle.dbpl_stored_program.proofs.Adding.{adding-none, none-is_of, row-clashes, row-is_of, row-put, rows-end, taken}
use Rattle.dbpl_stored_program.specs.Sets.{record_of}
use Rattle.dbpl_relation.specs.Relations.{put}
use Rattle.dbpl_value.specs.Keys.{parts_of}
use Rattle.dbpl_value.specs.Types.{element_of}
use Rattle.dbpl_value.specs.Values.{is_of}
use Rattle.dbpl_value.specs.declared.value.Value.TheVariants as value
use Rattle.dbpl_stored_program.proofs.sets.set_of.Goals as goal

pub loop-row-init : goal.loop-row-init
loop-row-init c = record {
  added = adding-none c.args.t.now c.args.rows.now c.new.result c.new.ensures;
  of_type = none-is_of c.args.t.now c.new.result c.requires.kind c.new.ensures;
}

pub put_row-requires-clause-row : goal.put_row-requires-clause-row
put_row-requires-clause-row c =
    ap (λ row. is_of (element_of c.args.t.now) (record_of row)) c.as_slice.ensures
    ∙ row-is_of c.args.t.now c.args.rows.now c.loop-row.row-index c.row-item.result c.requires.rows c.loop-row-test.true
    c.row-item.is

pub returns-in_err-put_row-clause-clash : goal.returns-in_err-put_row-clause-clash
returns-in_err-put_row-clause-clash c =
    let p = err_from_is_err_and c.from_residual.result c.from_residual.ensures.1 in
    let records = parts_of c.loop-row.set in
    rw (p.1, p.2) (λ e.
    row-clashes c.args.t.now c.args.rows.now records c.loop-row.row-index c.row-item.result c.loop-row-test.true c.row-item.is
    c.loop-row.invariant.added
    (ap (λ row. taken c.args.t.now records (record_of row)) (sym c.as_slice.ensures) ∙ c.in_err-put_row.ensures.clash e))

pub loop-row-preserved : goal.loop-row-preserved
loop-row-preserved c =
    let records = parts_of c.loop-row.set in
    record {
      added =
          row-put c.args.t.now c.args.rows.now records c.loop-row.row-index c.row-item.result c.put_row.new.set
          c.loop-row-test.true c.row-item.is c.loop-row.invariant.added
          (ap (λ row. taken c.args.t.now records (record_of row)) (sym c.as_slice.ensures) ∙ c.in_ok-put_row.ensures.free)
          (c.in_ok-put_row.ensures.put ∙ ap (λ row. value.Rel (put c.args.t.now records (record_of row))) c.as_slice.ensures);
      of_type = c.put_row.ensures.of_type;
    }

pub returns-clause-set : goal.returns-clause-set
returns-clause-set c =
    rows-end c.args.t.now c.args.rows.now c.loop-row.row-index c.loop-row.set c.loop-row-test.false c.requires.kind
    c.loop-row.invariant.of_type c.loop-row.invariant.added
