use Rattle.std.proofs.Common.{◌≡◌, ◌<◌, ◌≤◌, min, length, get_or, arith}
use Rattle.dbpl_value.proofs.Pairs.{take-zip-all}
use Rattle.dbpl_value.specs.Types.{key_type, keys_of}
use Rattle.dbpl_codec.proofs.Growing.{begins-behind}
use Rattle.dbpl_codec.proofs.ValueBytes.{pairs-more}
use Rattle.dbpl_codec.specs.KeySpelling.{component_bytes}
use Rattle.dbpl_codec.proofs.keys.append_key.Goals as goal

pub loop-i-preserved : goal.loop-i-preserved
loop-i-preserved c =
    let keys_in : c.loop-i.i < length (keys_of c.args.t.now) = rw (← c.keys_of-keys.ensures) (omega arith) in
    let key_in : c.loop-i.i < length c.args.key.now = omega arith in
    let named : c.index-keys-i.result ≡ get_or (keys_of c.args.t.now) c.loop-i.i c.index-keys-i.result =
    rw (← c.keys_of-keys.ensures) c.index-keys-i.is
    in
    pairs-more (λ pair. component_bytes (key_type c.args.t.now pair.0) pair.1) (keys_of c.args.t.now) c.args.key.now
    c.loop-i.i c.index-keys-i.result c.index-key-i.result c.args.out.now.items c.loop-i.out.items _ keys_in key_in named
    c.index-key-i.is c.loop-i.invariant
    (rw (← c.key_type.ensures) c.in_ok-component.ensures.ok)

pub returns-clause-ok : goal.returns-clause-ok
returns-clause-ok c =
    let end : min (length (keys_of c.args.t.now)) (length c.args.key.now) ≤ c.loop-i.i =
    rw (← c.keys_of-keys.ensures) (omega arith)
    in
    rw (← take-zip-all (keys_of c.args.t.now) c.args.key.now c.loop-i.i end) c.loop-i.invariant

pub returns-in_err-component-clause-begins : goal.returns-in_err-component-clause-begins
returns-in_err-component-clause-begins c =
    begins-behind c.component.new.out.items c.loop-i.out.items c.args.out.now.items _ c.loop-i.invariant
    c.component.ensures.begins
