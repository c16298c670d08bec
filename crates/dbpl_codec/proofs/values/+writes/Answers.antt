use Rattle.std.proofs.Common.{◌≡◌, ◌<◌, ◌≤◌, min, ◌++◌, OnOk, ℕ, List, length, take, Bool, true, ◌^◌, subst, ap, ◌∙◌, sym, arith}
use Rattle.std.proofs.lemmas.List.{flat_map_more}
use Rattle.std.specs.List.{flat_map, list_all}
use Rattle.dbpl_value.specs.Keys.{parts_of}
use Rattle.dbpl_value.proofs.Pairs.{take-zip-all}
use Rattle.dbpl_codec.proofs.Growing.{begins-behind}
use Rattle.dbpl_codec.proofs.TypeBytes.{one_piece}
use Rattle.dbpl_codec.specs.Numbers.{count_bytes}
use Rattle.dbpl_codec.specs.ValueSpelling.{bytes_of, value_fits}
use Rattle.dbpl_codec.proofs.ValueBytes.{all-more, bytes_of-Rec, bytes_of-Rel, field_bytes, field_fits, pairs-more, pairs_fit-more, take_item, value_fits-Rec, value_fits-counted}
use Rattle.dbpl_codec.proofs.values.+writes.Goals as goal

pub append_fields-loop-i-preserved : goal.append_fields-loop-i-preserved
append_fields-loop-i-preserved t c =
    let fields_in : c.loop-i.i < length c.args.fields.now = omega arith in
    let parts_in : c.loop-i.i < length c.args.parts.now = omega arith in (
      pairs-more field_bytes c.args.fields.now c.args.parts.now c.loop-i.i c.index-fields-i.result c.index-parts-i.result
          c.args.out.now.items c.loop-i.out.items _ fields_in parts_in c.index-fields-i.is c.index-parts-i.is
          c.loop-i.invariant.0 (rw (← c.index-fields-i.is) at c.in_ok-append_value.ensures.ok),
      pairs_fit-more field_fits c.args.fields.now c.args.parts.now c.loop-i.i c.index-fields-i.result c.index-parts-i.result
          fields_in parts_in c.index-fields-i.is c.index-parts-i.is c.loop-i.invariant.1
          (rw (← c.index-fields-i.is) at c.in_ok-append_value.ensures.fits),
    )

pub append_fields-returns-clause-ok : goal.append_fields-returns-clause-ok
append_fields-returns-clause-ok t c =
    let end : min (length c.args.fields.now) (length c.args.parts.now) ≤ c.loop-i.i = omega arith in
    rw (← take-zip-all c.args.fields.now c.args.parts.now c.loop-i.i end) c.loop-i.invariant.0

pub append_fields-returns-clause-fits : goal.append_fields-returns-clause-fits
append_fields-returns-clause-fits t c =
    let end : min (length c.args.fields.now) (length c.args.parts.now) ≤ c.loop-i.i = omega arith in
    rw (← take-zip-all c.args.fields.now c.args.parts.now c.loop-i.i end) c.loop-i.invariant.1

pub append_fields-returns-in_err-append_value-clause-begins : goal.append_fields-returns-in_err-append_value-clause-begins
append_fields-returns-in_err-append_value-clause-begins t c =
    begins-behind c.append_value.new.out.items c.loop-i.out.items c.args.out.now.items _ c.loop-i.invariant.0
    c.append_value.ensures.begins

pub append_all-returns-in_err-append_value-clause-begins : goal.append_all-returns-in_err-append_value-clause-begins
append_all-returns-in_err-append_value-clause-begins t c =
    begins-behind c.append_value.new.out.items c.loop-part.out.items c.args.out.now.items _ c.loop-part.invariant.0
    c.append_value.ensures.begins

pub append_all-loop-part-preserved : goal.append_all-loop-part-preserved
append_all-loop-part-preserved t c = (
  rw (take_item c.args.parts.now c.loop-part.part-index c.part-item.result c.loop-part-test.true c.part-item.is)
      (c.in_ok-append_value.ensures.ok
      ∙ ap (λ (bytes : List ℕ). bytes ++ bytes_of c.args.t.now c.part-item.result) c.loop-part.invariant.0
      ∙ flat_map_more (bytes_of c.args.t.now) c.args.out.now.items (take c.loop-part.part-index c.args.parts.now) c.part-item.result),
  rw (take_item c.args.parts.now c.loop-part.part-index c.part-item.result c.loop-part-test.true c.part-item.is)
      (all-more (value_fits c.args.t.now) (take c.loop-part.part-index c.args.parts.now) c.part-item.result
      c.loop-part.invariant.1 c.in_ok-append_value.ensures.fits),
)

pub append_value-returns-in-Rec-clause-ok : goal.append_value-returns-in-Rec-clause-ok
append_value-returns-in-Rec-clause-ok t c =
    rw (c.in-Rec.is, bytes_of-Rec c.in-Rec.fields c.args.v.now, ← c.as_slice.ensures, ← c.parts_of-in-Rec.ensures)
    c.append_fields.ensures.ok

pub append_value-returns-in-Rec-clause-fits : goal.append_value-returns-in-Rec-clause-fits
append_value-returns-in-Rec-clause-fits t c =
    rw (c.in-Rec.is, value_fits-Rec c.in-Rec.fields c.args.v.now, ← c.as_slice.ensures, ← c.parts_of-in-Rec.ensures)
    c.append_fields.ensures.fits

pub append_value-returns-in_ok-append_count-in-Rel-clause-ok : goal.append_value-returns-in_ok-append_count-in-Rel-clause-ok
append_value-returns-in_ok-append_count-in-Rel-clause-ok t c =
    let parts = c.parts_of-in-Rel-2.result.now in
    let spelling : bytes_of c.args.t.now c.args.v.now
    ≡ count_bytes c.parts_of-in-Rel.result.now ++ flat_map (bytes_of c.get-in-Rel.result.now) parts =
    rw (c.parts_of-in-Rel.ensures, c.parts_of-in-Rel-2.ensures, c.get-in-Rel.ensures, c.in-Rel.is)
    (bytes_of-Rel c.in-Rel.field-0 c.in-Rel.record c.args.v.now)
    in
    subst (λ (bytes : List ℕ). OnOk c.append_all-in-Rel.result (c.append_all-in-Rel.new.out.items ≡ bytes))
    (one_piece c.args.out.now.items _ _ _ _ c.in_ok-append_count-in-Rel.ensures.ok spelling)
    c.append_all-in-Rel.ensures.ok

pub append_value-returns-in_ok-append_count-in-Rel-clause-fits : goal.append_value-returns-in_ok-append_count-in-Rel-clause-fits
append_value-returns-in_ok-append_count-in-Rel-clause-fits t c =
    let parts = c.parts_of-in-Rel-2.result.now in
    let below : length (parts_of c.args.v.now) < 2 ^ 32 =
    rw (← c.parts_of-in-Rel.ensures) c.in_ok-append_count-in-Rel.ensures.fits
    in
    let test : value_fits c.args.t.now c.args.v.now ≡ list_all (value_fits c.get-in-Rel.result.now) parts =
    rw (c.parts_of-in-Rel-2.ensures, c.get-in-Rel.ensures, c.in-Rel.is)
    (value_fits-counted c.in-Rel.field-0 c.in-Rel.record c.args.v.now below)
    in
    subst (λ (passed : Bool). OnOk c.append_all-in-Rel.result (passed ≡ true)) (sym test) c.append_all-in-Rel.ensures.fits
