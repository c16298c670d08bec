use Rattle.std.proofs.Common.{◌≡◌, ◌+◌, ◌-◌, arith, get_or, length, subst, sym}
use Rattle.dbpl_symbols.proofs.PlaceLaws.{last_is_there, taken_off}
use Rattle.dbpl_symbols.specs.Places.{IsIndexed}
use Rattle.dbpl_symbols.proofs.places.take_off.Goals as goal

pub restore-requires : goal.restore-requires
restore-requires c =
    let n : length c.args.held.now ≡ (c.len-last.result - 1) + 1 = omega (arith, c.len-last.ensures, c.requires.some) in
    let one = c.index-all-last.result in
    let is : one ≡ get_or c.args.held.now (c.len-last.result - 1) one =
    subst (λ all. one ≡ get_or all (c.len-last.result - 1) one) c.as_slice-all.ensures c.index-all-last.is in
    last_is_there c.args.held.now (c.len-last.result - 1) one c.args.places.now n is c.requires.indexed

pub returns-clause-indexed : goal.returns-clause-indexed
returns-clause-indexed c =
    let n : length c.args.held.now ≡ (c.len-last.result - 1) + 1 = omega (arith, c.len-last.ensures, c.requires.some) in
    let one = c.index-all-last.result in
    let is : one ≡ get_or c.args.held.now (c.len-last.result - 1) one =
    subst (λ all. one ≡ get_or all (c.len-last.result - 1) one) c.as_slice-all.ensures c.index-all-last.is in
    subst (λ all. IsIndexed all c.restore.new.places) (sym c.truncate.ensures)
    (taken_off c.args.held.now (c.len-last.result - 1) one c.args.places.now c.restore.new.places n is c.requires.indexed
    c.restore.ensures)
