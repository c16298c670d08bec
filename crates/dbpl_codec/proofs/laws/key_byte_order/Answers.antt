use Rattle.std.specs.Cmp.{first_so}
use Rattle.dbpl_value.specs.Types.{is_sound}
use Rattle.dbpl_codec.proofs.KeyByteOrder.{key_apart, key_order, key_same}
use Rattle.dbpl_codec.proofs.laws.key_byte_order.Goals as goal

pub returns-clause-order : goal.returns-clause-order
returns-clause-order c = λ t key other type hk ho. key_order t key other (first_so (is_sound t) _ (first_so _ _ type)) hk ho

pub returns-clause-same : goal.returns-clause-same
returns-clause-same c = λ t key other type hk ho e.
    key_same t key other (first_so (is_sound t) _ (first_so _ _ type)) hk ho e

pub returns-clause-apart : goal.returns-clause-apart
returns-clause-apart c = λ t key other rest more type hk ho long e.
    key_apart t key other (first_so (is_sound t) _ (first_so _ _ type)) hk ho long rest more e
