use Rattle.std.proofs.Common.{◌≡◌, ℕ, replicate, sym, ap, ◌∙◌, rules}
use Rattle.std.proofs.lemmas.Int.{to_z-of_z}
use mir.Syntax.{w64}
use mir.Val.{SFits, of_z, to_z}
use Rattle.dbpl_value.specs.Values.{start_value_of}
use Rattle.dbpl_value.specs.declared.value.Value.TheVariants as value
use Rattle.dbpl_value.proofs.StartLemmas.{start_value_of-Arr, start_value_of-Rec, start_value_of-Rel, start_value_of-other}
use Rattle.dbpl_value.proofs.TypedStart.{typed_start}
use Rattle.dbpl_value.proofs.start.+starts.Goals as goal

pub start_value-returns-in_ok-start_elements-in-Some : goal.start_value-returns-in_ok-start_elements-in-Some
start_value-returns-in_ok-start_elements-in-Some t c =
    let is_start : value.Arr c.in_ok-start_elements-in-Some.field-0 ≡ start_value_of c.args.t.now =
    rw (c.in-Arr.is, start_value_of-Arr c.in-Arr.index c.in-Arr.element, ← c.get.ensures, ← c.get-in-Some.ensures)
    (ap value.Arr (c.in_ok-start_elements-in-Some.ensures
    ∙ ap (λ (count : ℕ). replicate count (start_value_of c.get-in-Some.result.now)) c.in-Some.ensures.some))
    in
    record { value = is_start; of_type = typed_start c.args.t.now _ is_start }

pub start_value-returns-in_ok-start_fields-in-Rec : goal.start_value-returns-in_ok-start_fields-in-Rec
start_value-returns-in_ok-start_fields-in-Rec t c =
    let is_start : value.Rec c.in_ok-start_fields-in-Rec.field-0 ≡ start_value_of c.args.t.now =
    rw (c.in-Rec.is, start_value_of-Rec c.in-Rec.fields, ← c.as_slice.ensures)
    (ap value.Rec c.in_ok-start_fields-in-Rec.ensures)
    in
    record { value = is_start; of_type = typed_start c.args.t.now _ is_start }

pub start_value-returns-in-Rel : goal.start_value-returns-in-Rel
start_value-returns-in-Rel t c =
    let is_start : value.Rel c.new.result ≡ start_value_of c.args.t.now =
    rw (c.in-Rel.is, start_value_of-Rel c.in-Rel.field-0 c.in-Rel.field-1) (ap value.Rel c.new.ensures)
    in
    record { value = is_start; of_type = typed_start c.args.t.now _ is_start }

pub start_value-returns-in_default : goal.start_value-returns-in_default
start_value-returns-in_default t c =
    let number = start_value_of-other c.args.t.now c.in_default.not-Arr c.in_default.not-Rec c.in_default.not-Rel in
    let fits : SFits w64 c.start_number.result = search rules in
    let is_start : value.Num (to_z w64 (of_z w64 c.start_number.result)) ≡ start_value_of c.args.t.now =
    ap value.Num (to_z-of_z w64 c.start_number.result fits ∙ c.start_number.ensures) ∙ sym number
    in
    record { value = is_start; of_type = typed_start c.args.t.now _ is_start }
