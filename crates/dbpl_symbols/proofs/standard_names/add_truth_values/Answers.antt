use Rattle.std.proofs.Common.{refl}
use Rattle.dbpl_symbols.specs.StandardNames.{truth_pairs}
use Rattle.dbpl_symbols.proofs.standard_names.add_truth_values.Goals as goal

pub returns : goal.returns
unfolding truth_pairs
returns c = rw (c.in_ok-add_truth_value-2.ensures, c.in_ok-add_truth_value.ensures) refl
