use Rattle.std.proofs.Common.{refl}
use Rattle.dbpl_symbols.specs.StandardNames.{function_pairs, procedure_pairs, truth_pairs, type_pairs}
use Rattle.dbpl_symbols.proofs.standard_names.make_scope.Goals as goal

pub returns : goal.returns
unfolding function_pairs procedure_pairs truth_pairs type_pairs
returns c =
    rw (c.in_ok-add_procedures.ensures, c.in_ok-add_functions.ensures, c.in_ok-add_truth_values.ensures, c.in_ok-add_types.ensures, c.new-scope.ensures)
    refl
