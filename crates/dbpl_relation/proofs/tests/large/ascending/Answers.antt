use Rattle.std.proofs.Common.{ap, ◌∙◌}
use Rattle.dbpl_value.specs.Values.{is_of}
use Rattle.dbpl_value.specs.declared.value.Value.TheVariants as value
use Rattle.dbpl_relation.proofs.ExampleTypes.{none-is_of, subs-kind}
use Rattle.dbpl_relation.specs.Examples.{subs}
use Rattle.dbpl_relation.proofs.tests.large.ascending.Goals as goal

pub loop-position-init : goal.loop-position-init
loop-position-init c = ap (λ records. is_of subs (value.Rel records)) c.new.ensures ∙ none-is_of subs subs-kind
