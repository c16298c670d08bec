use Rattle.dbpl_codec.proofs.Growing.{begins-behind}
use Rattle.dbpl_codec.proofs.keys.+components.Goals as goal

pub characters-returns-in_err-component-clause-begins : goal.characters-returns-in_err-component-clause-begins
characters-returns-in_err-component-clause-begins t c =
    begins-behind c.component.new.out.items c.loop-part.out.items c.args.out.now.items _ c.loop-part.invariant
    c.component.ensures.begins
