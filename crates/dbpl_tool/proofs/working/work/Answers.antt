-- Each branch keeps the promise of what was asked for.
use Rattle.std.proofs.Common.{◌∙◌, ap, sym}
use Rattle.dbpl_promise.specs.Promises.{Answered}
use Rattle.dbpl_promise.specs.Work.{Work, work_of}
use Rattle.dbpl_tool.proofs.Rows.{kept_as, no_bad_words}
use Rattle.dbpl_tool.proofs.working.work.Given as given
use Rattle.dbpl_tool.proofs.working.work.Goals as goal
use Rattle.dbpl_tool.specs.Commands.{promise_of}
use Rattle.dbpl_words.specs.Asked.{Create, Run, RunAlone, asked_of}

-- ---- one file

abbrev alone_work : (g : given.Over) (c : goal.After-run_alone g) → Work
alone_work g c = work_of g.S.Shelf g.W.World c.args.shelf.now c.run_alone.new.shelf c.args.world.now c.run_alone.new.world

alone : (g : given.Over) (c : goal.After-run_alone g) →
    Answered (promise_of (RunAlone c.in-Some-RunAlone.file.now)) (alone_work g c) c.run_alone.result
alone g c = c.run_alone.ensures.runs

pub returns-in-Some-RunAlone-clause-answers : goal.returns-in-Some-RunAlone-clause-answers
returns-in-Some-RunAlone-clause-answers g c = λ asked asks.
    let same = c.one_request.ensures.one c.args.words.now _ asked c.in-Some-RunAlone.ensures.reading asks in
    kept_as (RunAlone c.in-Some-RunAlone.file.now) asked (alone_work g c) c.run_alone.result
    (sym (ap asked_of c.in-Some-RunAlone.field-0-is) ∙ same) (alone g c)

pub returns-in-Some-RunAlone-clause-bad_words_only : goal.returns-in-Some-RunAlone-clause-bad_words_only
returns-in-Some-RunAlone-clause-bad_words_only g c = λ bad asked reading.
    no_bad_words (RunAlone c.in-Some-RunAlone.file.now) (alone_work g c) c.run_alone.result (alone g c) bad

pub returns-in-Some-RunAlone-clause-idle : goal.returns-in-Some-RunAlone-clause-idle
returns-in-Some-RunAlone-clause-idle g c = λ bad.
    absurd (no_bad_words (RunAlone c.in-Some-RunAlone.file.now) (alone_work g c) c.run_alone.result (alone g c) bad)

-- ---- a store to be made

abbrev made_work : (g : given.Over) (c : goal.After-create_store g) → Work
made_work g c = work_of g.S.Shelf g.W.World c.args.shelf.now c.args.shelf.now c.args.world.now c.create_store.new.world

made : (g : given.Over) (c : goal.After-create_store g) →
    Answered (promise_of (Create c.in-Some-Create.store.now)) (made_work g c) c.create_store.result
made g c = c.create_store.ensures.created (g.S.Shelf.files c.args.shelf.now) (g.S.Shelf.shelf_faults c.args.shelf.now)

pub returns-in-Some-Create-clause-answers : goal.returns-in-Some-Create-clause-answers
returns-in-Some-Create-clause-answers g c = λ asked asks.
    let same = c.one_request.ensures.one c.args.words.now _ asked c.in-Some-Create.ensures.reading asks in
    kept_as (Create c.in-Some-Create.store.now) asked (made_work g c) c.create_store.result
    (sym (ap asked_of c.in-Some-Create.field-0-is) ∙ same) (made g c)

pub returns-in-Some-Create-clause-bad_words_only : goal.returns-in-Some-Create-clause-bad_words_only
returns-in-Some-Create-clause-bad_words_only g c = λ bad asked reading.
    no_bad_words (Create c.in-Some-Create.store.now) (made_work g c) c.create_store.result (made g c) bad

pub returns-in-Some-Create-clause-idle : goal.returns-in-Some-Create-clause-idle
returns-in-Some-Create-clause-idle g c = λ bad.
    absurd (no_bad_words (Create c.in-Some-Create.store.now) (made_work g c) c.create_store.result (made g c) bad)

-- ---- two files over a store

abbrev run_work : (g : given.Over) (c : goal.After-run_files g) → Work
run_work g c = work_of g.S.Shelf g.W.World c.args.shelf.now c.run_files.new.shelf c.args.world.now c.run_files.new.world

ran : (g : given.Over) (c : goal.After-run_files g) →
    Answered (promise_of (Run c.in-Some-Run.store.now c.in-Some-Run.data.now c.in-Some-Run.program.now)) (run_work g c) c.run_files.result
ran g c = c.run_files.ensures.runs

pub returns-in-Some-Run-clause-answers : goal.returns-in-Some-Run-clause-answers
returns-in-Some-Run-clause-answers g c = λ asked asks.
    let same = c.one_request.ensures.one c.args.words.now _ asked c.in-Some-Run.ensures.reading asks in
    kept_as (Run c.in-Some-Run.store.now c.in-Some-Run.data.now c.in-Some-Run.program.now) asked (run_work g c) c.run_files.result
    (sym (ap asked_of c.in-Some-Run.field-0-is) ∙ same) (ran g c)

pub returns-in-Some-Run-clause-bad_words_only : goal.returns-in-Some-Run-clause-bad_words_only
returns-in-Some-Run-clause-bad_words_only g c = λ bad asked reading.
    no_bad_words (Run c.in-Some-Run.store.now c.in-Some-Run.data.now c.in-Some-Run.program.now) (run_work g c) c.run_files.result (ran g c) bad

pub returns-in-Some-Run-clause-idle : goal.returns-in-Some-Run-clause-idle
returns-in-Some-Run-clause-idle g c = λ bad.
    absurd (no_bad_words (Run c.in-Some-Run.store.now c.in-Some-Run.data.now c.in-Some-Run.program.now) (run_work g c) c.run_files.result (ran g c) bad)

-- ---- nothing that is known

pub returns-in-None-clause-answers : goal.returns-in-None-clause-answers
returns-in-None-clause-answers g c = λ asked asks. absurd (c.in-None.ensures.no_reading asked asks)
