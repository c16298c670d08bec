use Rattle.std.proofs.Common.{◌≡◌, ◌++◌, ◌∷◌, ◌^◌, [], length, true, OnOk, ℕ, List, ℤ, refl, subst, rules}
use Rattle.std.proofs.lemmas.Bool.{lt-ltb}
use Rattle.std.specs.Cmp.Derive.{both_true}
use Rattle.dbpl_codec.proofs.Growing.{begins-behind, begins-then, on_ok}
use Rattle.dbpl_codec.proofs.TypeFits.{type_fits-Arr, type_fits-Bool, type_fits-Card, type_fits-Char, type_fits-Enum, type_fits-Int, type_fits-Rec, type_fits-Rel, type_fits-Sub}
use Rattle.dbpl_codec.proofs.TypeReadLaws.{long-in}
use Rattle.std.proofs.lemmas.Int.{to_z-of_z}
use mir.Syntax.{w64}
use mir.Val.{SFits, of_z, to_z}
use Rattle.std.specs.List.{flat_map}
use Rattle.dbpl_codec.specs.Numbers.{count_bytes, count_fits, long_bytes, names_bytes, names_fit}
use Rattle.dbpl_codec.specs.TypeSpelling.{type_bytes, type_fits}
use Rattle.dbpl_codec.proofs.TypeBytes.{field_bytes, one_piece, three_pieces, two_pieces, type_bytes-Arr, type_bytes-Bool, type_bytes-Card, type_bytes-Char, type_bytes-Enum, type_bytes-Int, type_bytes-Rec, type_bytes-Rel, type_bytes-Sub}
use Rattle.dbpl_codec.proofs.types.+writes.Goals as goal

pub append_type-returns-in-Int-clause-ok : goal.append_type-returns-in-Int-clause-ok
append_type-returns-in-Int-clause-ok t c = rw (c.in-Int.is, type_bytes-Int) c.append_kind.ensures.ok

pub append_type-returns-in-Int-clause-fits : goal.append_type-returns-in-Int-clause-fits
append_type-returns-in-Int-clause-fits t c = rw (c.in-Int.is, type_fits-Int) (on_ok _ refl)

pub append_type-returns-in-Card-clause-ok : goal.append_type-returns-in-Card-clause-ok
append_type-returns-in-Card-clause-ok t c = rw (c.in-Card.is, type_bytes-Card) c.append_kind-in-Card.ensures.ok

pub append_type-returns-in-Card-clause-fits : goal.append_type-returns-in-Card-clause-fits
append_type-returns-in-Card-clause-fits t c = rw (c.in-Card.is, type_fits-Card) (on_ok _ refl)

pub append_type-returns-in-Bool-clause-ok : goal.append_type-returns-in-Bool-clause-ok
append_type-returns-in-Bool-clause-ok t c = rw (c.in-Bool.is, type_bytes-Bool) c.append_kind-in-Bool.ensures.ok

pub append_type-returns-in-Bool-clause-fits : goal.append_type-returns-in-Bool-clause-fits
append_type-returns-in-Bool-clause-fits t c = rw (c.in-Bool.is, type_fits-Bool) (on_ok _ refl)

pub append_type-returns-in-Char-clause-ok : goal.append_type-returns-in-Char-clause-ok
append_type-returns-in-Char-clause-ok t c = rw (c.in-Char.is, type_bytes-Char) c.append_kind-in-Char.ensures.ok

pub append_type-returns-in-Char-clause-fits : goal.append_type-returns-in-Char-clause-fits
append_type-returns-in-Char-clause-fits t c = rw (c.in-Char.is, type_fits-Char) (on_ok _ refl)

pub append_type-returns-in_ok-append_kind-in-Enum-clause-ok : goal.append_type-returns-in_ok-append_kind-in-Enum-clause-ok
append_type-returns-in_ok-append_kind-in-Enum-clause-ok t c =
    let spelling : type_bytes c.args.t.now ≡ 5 ∷ names_bytes c.as_slice.result.now =
    rw (c.in-Enum.is, c.as_slice.ensures) (type_bytes-Enum c.in-Enum.names)
    in
    subst (λ (bytes : List ℕ). OnOk c.append_names.result (c.append_names.new.out.items ≡ bytes))
    (one_piece c.args.out.now.items (5 ∷ []) _ _ _ c.in_ok-append_kind-in-Enum.ensures.ok spelling)
    c.append_names.ensures.ok

pub append_type-returns-in_ok-append_long-in-Sub-clause-ok : goal.append_type-returns-in_ok-append_long-in-Sub-clause-ok
append_type-returns-in_ok-append_long-in-Sub-clause-ok t c =
    let least : ℤ = to_z w64 (of_z w64 c.in-Sub.least) in
    let greatest : ℤ = to_z w64 (of_z w64 c.in-Sub.greatest) in
    let fits_least : SFits w64 c.in-Sub.least = search rules in
    let fits_greatest : SFits w64 c.in-Sub.greatest = search rules in
    let spelling : type_bytes c.args.t.now ≡ 6 ∷ (type_bytes c.get.result.now ++ (long_bytes least ++ long_bytes greatest)) =
    rw (c.in-Sub.is, c.get.ensures, to_z-of_z w64 c.in-Sub.least fits_least, to_z-of_z w64 c.in-Sub.greatest fits_greatest)
    (type_bytes-Sub c.in-Sub.host c.in-Sub.least c.in-Sub.greatest)
    in
    subst (λ (bytes : List ℕ). OnOk c.append_long-in-Sub.result (c.append_long-in-Sub.new.out.items ≡ bytes))
    (three_pieces c.args.out.now.items (6 ∷ []) (type_bytes c.get.result.now) (long_bytes least) (long_bytes greatest)
    _ _ _ _ c.in_ok-append_kind-in-Sub.ensures.ok c.in_ok-append_type-in-Sub.ensures.ok
    c.in_ok-append_long-in-Sub.ensures.ok spelling)
    c.append_long-in-Sub.ensures.ok

pub append_type-returns-in_ok-append_type-in-Arr-clause-ok : goal.append_type-returns-in_ok-append_type-in-Arr-clause-ok
append_type-returns-in_ok-append_type-in-Arr-clause-ok t c =
    let spelling : type_bytes c.args.t.now
    ≡ 7 ∷ (type_bytes c.get-in-Arr.result.now ++ type_bytes c.get-in-Arr-2.result.now) =
    rw (c.in-Arr.is, c.get-in-Arr.ensures, c.get-in-Arr-2.ensures) (type_bytes-Arr c.in-Arr.index c.in-Arr.element)
    in
    subst (λ (bytes : List ℕ). OnOk c.append_type-in-Arr-2.result (c.append_type-in-Arr-2.new.out.items ≡ bytes))
    (two_pieces c.args.out.now.items (7 ∷ []) (type_bytes c.get-in-Arr.result.now)
    (type_bytes c.get-in-Arr-2.result.now) _ _ _ c.in_ok-append_kind-in-Arr.ensures.ok
    c.in_ok-append_type-in-Arr.ensures.ok spelling)
    c.append_type-in-Arr-2.ensures.ok

pub append_type-returns-in_ok-append_count-in-Rec-clause-ok : goal.append_type-returns-in_ok-append_count-in-Rec-clause-ok
append_type-returns-in_ok-append_count-in-Rec-clause-ok t c =
    let spelling : type_bytes c.args.t.now
    ≡ 8 ∷ (count_bytes c.as_slice-in-Rec.result.now ++ flat_map field_bytes c.as_slice-in-Rec-2.result.now) =
    rw (c.in-Rec.is, c.as_slice-in-Rec.ensures, c.as_slice-in-Rec-2.ensures) (type_bytes-Rec c.in-Rec.fields)
    in
    subst (λ (bytes : List ℕ). OnOk c.append_fields.result (c.append_fields.new.out.items ≡ bytes))
    (two_pieces c.args.out.now.items (8 ∷ []) (count_bytes c.as_slice-in-Rec.result.now)
    (flat_map field_bytes c.as_slice-in-Rec-2.result.now) _ _ _ c.in_ok-append_kind-in-Rec.ensures.ok
    c.in_ok-append_count-in-Rec.ensures.ok spelling)
    c.append_fields.ensures.ok

pub append_type-returns-in_ok-append_names-in-Rel-clause-ok : goal.append_type-returns-in_ok-append_names-in-Rel-clause-ok
append_type-returns-in_ok-append_names-in-Rel-clause-ok t c =
    let spelling : type_bytes c.args.t.now
    ≡ 9 ∷ (names_bytes c.as_slice-in-Rel.result.now ++ type_bytes c.get-in-Rel.result.now) =
    rw (c.in-Rel.is, c.as_slice-in-Rel.ensures, c.get-in-Rel.ensures) (type_bytes-Rel c.in-Rel.keys c.in-Rel.record)
    in
    subst (λ (bytes : List ℕ). OnOk c.append_type-in-Rel.result (c.append_type-in-Rel.new.out.items ≡ bytes))
    (two_pieces c.args.out.now.items (9 ∷ []) (names_bytes c.as_slice-in-Rel.result.now)
    (type_bytes c.get-in-Rel.result.now) _ _ _ c.in_ok-append_kind-in-Rel.ensures.ok
    c.in_ok-append_names-in-Rel.ensures.ok spelling)
    c.append_type-in-Rel.ensures.ok

pub append_type-returns-in_ok-append_kind-in-Enum-clause-fits : goal.append_type-returns-in_ok-append_kind-in-Enum-clause-fits
append_type-returns-in_ok-append_kind-in-Enum-clause-fits t c =
    rw (c.in-Enum.is, type_fits-Enum c.in-Enum.names, ← c.as_slice.ensures) c.append_names.ensures.fits

pub append_type-returns-in_ok-append_long-in-Sub-clause-fits : goal.append_type-returns-in_ok-append_long-in-Sub-clause-fits
append_type-returns-in_ok-append_long-in-Sub-clause-fits t c =
    let fits_least : SFits w64 c.in-Sub.least = search rules in
    let fits_greatest : SFits w64 c.in-Sub.greatest = search rules in
    let host : type_fits c.in-Sub.host ≡ true = rw (← c.get.ensures) c.in_ok-append_type-in-Sub.ensures.fits in
    rw (c.in-Sub.is, type_fits-Sub c.in-Sub.host c.in-Sub.least c.in-Sub.greatest)
    (on_ok _ (both_true (both_true host (long-in c.in-Sub.least fits_least)) (long-in c.in-Sub.greatest fits_greatest)))

pub append_type-returns-in_ok-append_type-in-Arr-clause-fits : goal.append_type-returns-in_ok-append_type-in-Arr-clause-fits
append_type-returns-in_ok-append_type-in-Arr-clause-fits t c =
    let first : type_fits c.in-Arr.index ≡ true = rw (← c.get-in-Arr.ensures) c.in_ok-append_type-in-Arr.ensures.fits in
    rw (c.in-Arr.is, type_fits-Arr c.in-Arr.index c.in-Arr.element, first, ← c.get-in-Arr-2.ensures)
    c.append_type-in-Arr-2.ensures.fits

pub append_type-returns-in_ok-append_count-in-Rec-clause-fits : goal.append_type-returns-in_ok-append_count-in-Rec-clause-fits
append_type-returns-in_ok-append_count-in-Rec-clause-fits t c =
    let count : count_fits c.in-Rec.fields ≡ true =
    lt-ltb (length c.in-Rec.fields) (2 ^ 32) (rw (← c.as_slice-in-Rec.ensures) c.in_ok-append_count-in-Rec.ensures.fits)
    in
    rw (c.in-Rec.is, type_fits-Rec c.in-Rec.fields, count, ← c.as_slice-in-Rec-2.ensures) c.append_fields.ensures.fits

pub append_type-returns-in_ok-append_names-in-Rel-clause-fits : goal.append_type-returns-in_ok-append_names-in-Rel-clause-fits
append_type-returns-in_ok-append_names-in-Rel-clause-fits t c =
    let keys : names_fit c.in-Rel.keys ≡ true = rw (← c.as_slice-in-Rel.ensures) c.in_ok-append_names-in-Rel.ensures.fits in
    rw (c.in-Rel.is, type_fits-Rel c.in-Rel.keys c.in-Rel.record, keys, ← c.get-in-Rel.ensures)
    c.append_type-in-Rel.ensures.fits

pub append_fields-returns-in_err-append_name-clause-begins : goal.append_fields-returns-in_err-append_name-clause-begins
append_fields-returns-in_err-append_name-clause-begins t c =
    begins-behind c.append_name.new.out.items c.loop-field.out.items c.args.out.now.items _ c.loop-field.invariant.0
    c.append_name.ensures.begins

pub append_fields-returns-in_err-append_type-clause-begins : goal.append_fields-returns-in_err-append_type-clause-begins
append_fields-returns-in_err-append_type-clause-begins t c =
    begins-behind c.append_type.new.out.items c.loop-field.out.items c.args.out.now.items _ c.loop-field.invariant.0
    (begins-then c.append_type.new.out.items c.append_name.new.out.items c.loop-field.out.items c.append_name.ensures.begins
    c.append_type.ensures.begins)
