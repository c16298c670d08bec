use Rattle.std.proofs.Common.{◌≡◌, ◌<◌, ◌≤◌, true, min, length, sym, ap, ◌∙◌, arith}
use Rattle.std.specs.Ordering.{is_ne}
use Rattle.dbpl_value.proofs.KeysLemmas.{given_cmp, key_cmp-given, slice_cmp-differ, slice_cmp-end}
use Rattle.dbpl_value.proofs.keys.order_to_key.Goals as goal

pub returns-then-is_ne : goal.returns-then-is_ne
returns-then-is_ne c =
    let keys = c.keys_of-keys.result.now in
    let compared = given_cmp c.args.t.now c.args.element.now in
    let keys_in : c.loop-i.i < length keys = omega arith in
    let key_in : c.loop-i.i < length c.args.key.now = omega arith in
    let order : c.numbers_order-order.result ≡ compared c.index-keys-i.result c.index-key-i.result = cc in
    let ne : is_ne (compared c.index-keys-i.result c.index-key-i.result) ≡ true =
    sym (ap is_ne order) ∙ sym c.is_ne.ensures ∙ c.if-is_ne.true
    in
    let rest =
    slice_cmp-differ compared keys c.args.key.now c.loop-i.i c.index-keys-i.result c.index-key-i.result keys_in key_in
    c.index-keys-i.is c.index-key-i.is ne
    in
    key_cmp-given c.args.t.now c.args.element.now keys c.args.key.now c.numbers_order-order.result c.keys_of-keys.ensures
    (c.loop-i.invariant ∙ rest ∙ sym order)

pub returns : goal.returns
returns c =
    let keys = c.keys_of-keys.result.now in
    let compared = given_cmp c.args.t.now c.args.element.now in
    let end : min (length keys) (length c.args.key.now) ≤ c.loop-i.i = omega arith in
    let within : c.loop-i.i ≤ min (length keys) (length c.args.key.now) = omega arith in
    key_cmp-given c.args.t.now c.args.element.now keys c.args.key.now c.cmp.result c.keys_of-keys.ensures
    (c.loop-i.invariant ∙ slice_cmp-end compared keys c.args.key.now c.loop-i.i end within ∙ sym c.cmp.ensures)
