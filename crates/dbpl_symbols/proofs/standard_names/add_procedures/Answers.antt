use Rattle.std.proofs.Common.{refl}
use Rattle.dbpl_symbols.specs.StandardNames.{procedure_pairs}
use Rattle.dbpl_symbols.proofs.standard_names.add_procedures.Goals as goal

pub returns : goal.returns
unfolding procedure_pairs
returns c = rw (c.in_ok-add_standard-4.ensures, c.in_ok-add_standard-3.ensures, c.in_ok-add_standard-2.ensures, c.in_ok-add_standard.ensures) refl
