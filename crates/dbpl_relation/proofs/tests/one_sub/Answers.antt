use Rattle.std.proofs.Common.{◌≡◌, ◌<◌, ◌∷◌, [], List, ap, ◌∙◌, arith}
use Rattle.std.proofs.lemmas.Int.{to_z-of_z}
use Rattle.std.specs.Prelude.{pos}
use Rattle.dbpl_value.specs.Values.{is_of}
use Rattle.dbpl_value.specs.declared.value.Value.{Value}
use Rattle.dbpl_value.specs.declared.value.Value.TheVariants as value
use Rattle.dbpl_relation.proofs.ExampleTypes.{one_sub-is_of}
use Rattle.dbpl_relation.specs.Examples.{subs}
use Rattle.dbpl_relation.proofs.tests.one_sub.Goals as goal

pub returns : goal.returns
returns c =
    let position : c.args.position < 4294967296 = omega (arith, c.ranges.position.fits) in
    let quantity : c.args.quantity < 4294967296 = omega (arith, c.ranges.quantity.fits) in
    let parts : c.in_ok-parts.parts ≡ value.Num (pos c.args.position) ∷ value.Num (pos c.args.quantity) ∷ [] = grind (arith, to_z-of_z) in
    let items = c.in_ok-one.ensures ∙ ap (λ (fields : List Value). value.Rec fields ∷ []) parts in
    ap (λ records. is_of subs (value.Rel records)) items ∙ one_sub-is_of c.args.position c.args.quantity position quantity
