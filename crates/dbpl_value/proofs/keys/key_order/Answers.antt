use Rattle.std.proofs.Common.{◌≡◌, ◌<◌, true, length, sym, ap, ◌∙◌, arith}
use Rattle.std.specs.Ordering.{is_ne}
use Rattle.dbpl_value.proofs.KeysLemmas.{key_cmp-from, named_cmp, slice_cmp-differ, slice_cmp-done}
use Rattle.dbpl_value.proofs.keys.key_order.Goals as goal

pub returns-then-is_ne : goal.returns-then-is_ne
returns-then-is_ne c =
    let keys = c.keys_of-key-items.result.now in
    let key = c.key-item.result in
    let compared = named_cmp c.args.t.now c.args.a.now c.args.b.now in
    let within : c.loop-key.key-index < length keys = omega arith in
    let order : c.numbers_order-order.result ≡ compared key key = cc in
    let ne : is_ne (compared key key) ≡ true = sym (ap is_ne order) ∙ sym c.is_ne.ensures ∙ c.if-is_ne.true in
    let rest =
    slice_cmp-differ compared keys keys c.loop-key.key-index key key within within c.key-item.is c.key-item.is ne
    in
    key_cmp-from c.args.t.now c.args.a.now c.args.b.now keys c.numbers_order-order.result c.keys_of-key-items.ensures
    (c.loop-key.invariant ∙ rest ∙ sym order)

pub returns : goal.returns
returns c =
    let keys = c.keys_of-key-items.result.now in
    let compared = named_cmp c.args.t.now c.args.a.now c.args.b.now in
    key_cmp-from c.args.t.now c.args.a.now c.args.b.now keys _ c.keys_of-key-items.ensures
    (c.loop-key.invariant ∙ slice_cmp-done compared keys c.loop-key.key-index c.loop-key-test.false)
