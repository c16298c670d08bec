use Rattle.std.proofs.Common.{refl}
use Rattle.dbpl_symbols.specs.StandardNames.{type_pairs}
use Rattle.dbpl_symbols.proofs.standard_names.add_types.Goals as goal

pub returns : goal.returns
unfolding type_pairs
returns c = rw (c.in_ok-add_type-4.ensures, c.in_ok-add_type-3.ensures, c.in_ok-add_type-2.ensures, c.in_ok-add_type.ensures) refl
