-- What the work keeps stays when its report is noted behind it.
use Rattle.std.proofs.Common.{ap}
use Rattle.dbpl_promise.specs.Work.{Work, work_of}
use Rattle.dbpl_tool.proofs.Noting.{Notes, all_counts, headline_of, is_reported, noted_since, notes_alone, whole_of}
use Rattle.dbpl_tool.proofs.command.dbpl.Given as given
use Rattle.dbpl_tool.proofs.command.dbpl.Goals as goal

-- the work up to the note of its report
abbrev worked : (g : given.Over) (c : goal.After-note_report g) → Work
worked g c = work_of g.S.Shelf g.W.World c.args.shelf.now c.work-status.new.shelf c.args.world.now c.work-status.new.world

notes : (g : given.Over) (c : goal.After-note_report g) →
    Notes (worked g c) (g.W.World.history c.note_report.new.world) (g.W.World.counts c.note_report.new.world) c.work-status.result
notes g c = record {
  result = c.note_report.result;
  did = c.work-status.ensures.counts;
  only = c.note_report.ensures.counts;
  cause = c.note_report.ensures.cause;
  ok = c.note_report.ensures.ok;
  err = c.note_report.ensures.err;
}

pub returns-clause-headline : goal.returns-clause-headline
returns-clause-headline g c = λ told run runs stood.
    headline_of (worked g c) _ _ c.work-status.result (notes g c) (record { files = told.files; world = told.world }) run runs.0
    (c.work-status.ensures.answers runs.0 runs.1) runs.2 stood

pub returns-clause-whole : goal.returns-clause-whole
returns-clause-whole g c = λ told run runs ends.
    whole_of (worked g c) _ _ c.work-status.result (notes g c) (record { files = told.files; world = told.world }) run runs.0
    (c.work-status.ensures.answers runs.0 runs.1) runs.2 ends

pub returns-clause-answers : goal.returns-clause-answers
returns-clause-answers g c = λ asked asks.
    is_reported (worked g c) _ _ c.work-status.result asked (c.work-status.ensures.answers asked asks) (notes g c)

pub returns-clause-noted : goal.returns-clause-noted
returns-clause-noted g c = noted_since (worked g c) _ _ c.work-status.result (notes g c) c.work-status.ensures.unnoted

pub returns-clause-counts : goal.returns-clause-counts
returns-clause-counts g c = all_counts (worked g c) _ _ c.work-status.result (notes g c)

pub returns-clause-idle : goal.returns-clause-idle
returns-clause-idle g c = λ bad told.
    notes_alone (worked g c) _ _ c.work-status.result (notes g c) (ap g.W.World.history (c.work-status.ensures.idle bad).0) told
