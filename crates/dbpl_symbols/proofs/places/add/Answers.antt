use Rattle.std.proofs.Common.{◌∙◌, [], ◌∷◌, ap, sym, take}
use Rattle.std.proofs.lemmas.List.{take_at}
use Rattle.dbpl_symbols.proofs.PlaceLaws.{added_noted, undone_noted}
use Rattle.dbpl_symbols.specs.declared.held.Held.{Held}
use Rattle.dbpl_symbols.proofs.places.add.Goals as goal

pub returns-in-Ok-clause-indexed : goal.returns-in-Ok-clause-indexed
returns-in-Ok-clause-indexed c =
    let one : Held = record { pair = c.args.pair; hides = c.copied-hides.result } in
    added_noted c.args.held.now c.push.new.self c.args.places.now c.note.new.places one c.in_ok-name.name c.len-place.result
    c.requires (c.copied-hides.ensures ∙ c.get.ensures.value) c.in_ok-name.ensures c.len-place.ensures c.in_ok-push.ensures.ok
    c.in-Ok.ensures.ok

pub returns-in-Err-clause-indexed : goal.returns-in-Err-clause-indexed
returns-in-Err-clause-indexed c =
    let one : Held = record { pair = c.args.pair; hides = c.copied-hides.result } in
    undone_noted c.args.held.now c.truncate.new.self c.args.places.now c.note.new.places c.requires
    (c.truncate.ensures ∙ ap (take c.len-place.result) c.in_ok-push.ensures.ok ∙
    take_at c.args.held.now (one ∷ []) c.len-place.result (sym c.len-place.ensures))
    c.in-Err.ensures.err
