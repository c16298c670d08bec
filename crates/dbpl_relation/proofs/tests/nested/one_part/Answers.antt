use Rattle.std.proofs.Common.{◌≡◌, ◌<◌, ◌∷◌, [], List, ap, ◌∙◌, arith}
use Rattle.std.proofs.lemmas.Int.{to_z-of_z}
use Rattle.std.specs.Prelude.{pos}
use Rattle.dbpl_value.specs.Values.{is_of}
use Rattle.dbpl_value.specs.declared.value.Value.{Value}
use Rattle.dbpl_value.specs.declared.value.Value.TheVariants as value
use Rattle.dbpl_relation.proofs.ExampleTypes.{one_part-is_of}
use Rattle.dbpl_relation.specs.Examples.{parts}
use Rattle.dbpl_relation.proofs.tests.nested.one_part.Goals as goal

pub returns : goal.returns
returns c =
    let number : c.args.number < 4294967296 = omega (arith, c.ranges.number.fits) in
    let fields : c.in_ok-record.record ≡ value.Num (pos c.args.number) ∷ c.in_ok-subs_of.field-0 ∷ [] = grind (arith, to_z-of_z) in
    let items = c.in_ok-one.ensures ∙ ap (λ (fields : List Value). value.Rec fields ∷ []) fields in
    ap (λ records. is_of parts (value.Rel records)) items
    ∙ one_part-is_of c.args.number c.in_ok-subs_of.field-0 number c.in_ok-subs_of.ensures
