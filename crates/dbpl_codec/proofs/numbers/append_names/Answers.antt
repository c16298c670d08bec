use Rattle.std.proofs.Common.{append_assoc, ◌∙◌}
use Rattle.dbpl_codec.proofs.Growing.{begins-behind}
use Rattle.dbpl_codec.proofs.numbers.append_names.Goals as goal

pub returns-in_err-append_name-clause-begins : goal.returns-in_err-append_name-clause-begins
returns-in_err-append_name-clause-begins c =
    begins-behind c.append_name.new.out.items c.loop-name.out.items c.args.out.now.items _
    (c.loop-name.invariant.0 ∙ append_assoc c.args.out.now.items _ _)
    c.append_name.ensures.begins
