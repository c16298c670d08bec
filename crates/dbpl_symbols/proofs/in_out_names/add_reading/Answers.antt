use Rattle.std.proofs.Common.{refl}
use Rattle.std.proofs.lemmas.List.{append_assoc}
use Rattle.dbpl_symbols.specs.InOutNames.{reading_pairs}
use Rattle.dbpl_symbols.proofs.in_out_names.add_reading.Goals as goal

pub returns : goal.returns
unfolding reading_pairs
returns c =
    rw (c.in_ok-add_routine-3.ensures, c.in_ok-add_routine-2.ensures, c.in_ok-add_routine.ensures, c.in_ok-params-3.ensures, c.in_ok-params-2.ensures, c.in_ok-params.ensures, c.in_ok-var_param-3.ensures, c.in_ok-var_param-2.ensures, c.in_ok-var_param.ensures)
    (simp append_assoc refl)
