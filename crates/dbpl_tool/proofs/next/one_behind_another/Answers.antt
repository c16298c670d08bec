-- What the first command leaves is what the second one runs over.
use Rattle.std.proofs.Common.{refl, subst, sym}
use Rattle.std.specs.Prelude.{IsSome}
use Rattle.dbpl_promise.proofs.Rows.{BeginsAs}
use Rattle.dbpl_promise.specs.Work.{IsTold, work_of}
use Rattle.dbpl_tool.proofs.Following.{as_read, leaves_store, runs_over_files, stood_for}
use Rattle.dbpl_tool.proofs.next.one_behind_another.Goals as goal
use Rattle.dbpl_tool.specs.Commands.{AnswersWords}
use Rattle.dbpl_world.specs.History.{now}

pub returns : goal.returns
returns g c = λ told.
    let first = work_of g.S.Shelf g.W.World c.args.shelf.now c.dbpl-first.new.shelf c.args.world.now c.dbpl-first.new.world in
    let second = work_of g.S.Shelf g.W.World c.dbpl-first.new.shelf c.dbpl-second.new.shelf c.dbpl-first.new.world c.dbpl-second.new.world in
    let told_first : IsTold first = record { files = told.files; world = told.world } in
    let same = c.dbpl-first.ensures.files in
    let all = g.met.W.World.reads_an_image c.dbpl-first.new.world told.world in
    let told_second : IsTold second = record { files = subst IsSome (sym same) told.files; world = told.world } in
    record {
      history = g.W.World.history c.dbpl-first.new.world;
      counts = g.W.World.counts c.dbpl-first.new.world;
      shelf_faults = g.S.Shelf.shelf_faults c.dbpl-first.new.shelf;
      first = record {
        keeps = c.dbpl-first.ensures.answers;
        bad_words = c.dbpl-first.ensures.bad_words;
        bad_words_only = c.dbpl-first.ensures.bad_words_only;
        idle = c.dbpl-first.ensures.idle;
        noted = c.dbpl-first.ensures.noted;
        counts = c.dbpl-first.ensures.counts;
      };
      second = subst (λ files. AnswersWords c.args.next.now (record second { files = files }) c.dbpl-second.result) same (record {
        keeps = c.dbpl-second.ensures.answers;
        bad_words = c.dbpl-second.ensures.bad_words;
        bad_words_only = c.dbpl-second.ensures.bad_words_only;
        idle = c.dbpl-second.ensures.idle;
        noted = c.dbpl-second.ensures.noted;
        counts = c.dbpl-second.ensures.counts;
      });
      stood = λ store leaves. leaves_store c.args.words.now first c.dbpl-first.result told_first all store c.dbpl-first.ensures.answers leaves;
      tied = λ store leaves run over runs.
          let both = work_of g.S.Shelf g.W.World c.args.shelf.now c.dbpl-second.new.shelf c.args.world.now
          c.dbpl-second.new.world in
          let later = record both { before = g.W.World.history c.dbpl-first.new.world } in
          let begins : BeginsAs later second = record { files = sym same; tells = refl; before = refl } in
          let here = runs_over_files c.args.next.now later second run begins runs in
          c.dbpl-second.ensures.headline told_second run here
          (stood_for c.args.next.now second store run told.world over here
          (as_read store (now (g.W.World.history c.dbpl-first.new.world)) all
          (leaves_store c.args.words.now first c.dbpl-first.result told_first all store c.dbpl-first.ensures.answers leaves)));
    }
