use Rattle.std.proofs.Common.{refl}
use Rattle.std.proofs.lemmas.List.{append_assoc}
use Rattle.dbpl_symbols.specs.InOutNames.{writing_pairs}
use Rattle.dbpl_symbols.proofs.in_out_names.add_writing.Goals as goal

pub returns : goal.returns
unfolding writing_pairs
returns c =
    rw (c.in_ok-add_routine-4.ensures, c.in_ok-add_routine-3.ensures, c.in_ok-add_name.ensures, c.in_ok-add_routine-2.ensures, c.in_ok-add_routine.ensures, c.in_ok-params-3.ensures, c.in_ok-params-2.ensures, c.in_ok-params.ensures, c.in_ok-value_param.ensures, c.new.ensures)
    (simp append_assoc refl)
