-- So far the files before the index were fetched.
use Rattle.std.proofs.Common.{◌≡◌, ◌≤◌, length, map, take}
use Rattle.std.specs.List.{All}
use Rattle.dbpl_base.specs.declared.limits.TheConstants.{SOURCE_BYTES}
use Rattle.dbpl_promise.specs.Work.{Work}
use Rattle.dbpl_sources.specs.Fetching.{all_fetched}
use Rattle.dbpl_sources.proofs.fetching.sources.Given as goal

abbrev pub invariant-loop-file : goal.invariant-loop-file
invariant-loop-file g l = record {
  found : (work : Work) → work.files ≡ g.S.Shelf.files l.initial.shelf →
      (all_fetched (map (λ file. file.now) (take l.file-index l.files))).passes work
      (map (λ text. text.items) l.texts.items);
  count : length l.texts.items ≡ l.file-index;
  within : All (λ text. length text.items ≤ SOURCE_BYTES) l.texts.items;
  files : g.S.Shelf.files l.shelf ≡ g.S.Shelf.files l.initial.shelf;
  fine : g.S.Shelf.shelf_faults l.shelf ≡ g.S.Shelf.shelf_faults l.initial.shelf;
  faults : g.S.Shelf.shelf_faults l.initial.shelf ≤ g.S.Shelf.shelf_faults l.shelf;
}
