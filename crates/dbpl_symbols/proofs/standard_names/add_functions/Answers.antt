use Rattle.std.proofs.Common.{refl}
use Rattle.dbpl_symbols.specs.StandardNames.{function_pairs}
use Rattle.dbpl_symbols.proofs.standard_names.add_functions.Goals as goal

pub returns : goal.returns
unfolding function_pairs
returns c = rw (c.in_ok-add_standard-9.ensures, c.in_ok-add_standard-8.ensures, c.in_ok-add_standard-7.ensures, c.in_ok-add_standard-6.ensures, c.in_ok-add_standard-5.ensures, c.in_ok-add_standard-4.ensures, c.in_ok-add_standard-3.ensures, c.in_ok-add_standard-2.ensures, c.in_ok-add_standard.ensures) refl
