use Rattle.std.proofs.Common.{◌≡◌, sym, ap, ◌∙◌}
use Rattle.dbpl_value.specs.Paths.{place_of}
use Rattle.dbpl_value.specs.Values.{is_of}
use Rattle.dbpl_value.specs.declared.value.Value.{Value}
use Rattle.dbpl_value.specs.declared.value.Value.TheVariants as value
use Rattle.dbpl_value.proofs.PathsLemmas.{Arr_wraps, PutIn, Rec_wraps, Rel_wraps, put_replaced, put_wrapped, rest_of}
use Rattle.dbpl_value.proofs.paths.+put.Goals as goal

pub put_part-returns-in-Arr : goal.put_part-returns-in-Arr
put_part-returns-in-Arr t c of_type =
    let typed = ap (λ (v : Value). is_of c.args.t.now v) (sym c.in-Arr.is) ∙ of_type in
    let place : c.place_of-place.result ≡ place_of c.args.t.now (value.Arr c.in-Arr.parts) c.step-item.result =
    rw (← c.in-Arr.is) (c.place_of-place.ensures of_type)
    in
    let put :
    PutIn c.type_at-kind.result.now c.in-Arr.parts c.place_of-place.result (rest_of c.args.path.now) c.args.new
    c.put_in.result = c.put_in.ensures
    in
    rw c.in-Arr.is
    (put_wrapped value.Arr Arr_wraps c.args.t.now c.in-Arr.parts c.args.path.now c.step-item.result c.args.new
    c.place_of-place.result c.type_at-kind.result.now c.put_in.result c.in-len1-up.len_at_least c.step-item.is typed place
    c.type_at-kind.ensures put)

pub put_part-returns-in-Rec : goal.put_part-returns-in-Rec
put_part-returns-in-Rec t c of_type =
    let typed = ap (λ (v : Value). is_of c.args.t.now v) (sym c.in-Rec.is) ∙ of_type in
    let place : c.place_of-place.result ≡ place_of c.args.t.now (value.Rec c.in-Rec.parts) c.step-item.result =
    rw (← c.in-Rec.is) (c.place_of-place.ensures of_type)
    in
    let put :
    PutIn c.type_at-kind.result.now c.in-Rec.parts c.place_of-place.result (rest_of c.args.path.now) c.args.new
    c.put_in-in-Rec.result = c.put_in-in-Rec.ensures
    in
    rw c.in-Rec.is
    (put_wrapped value.Rec Rec_wraps c.args.t.now c.in-Rec.parts c.args.path.now c.step-item.result c.args.new
    c.place_of-place.result c.type_at-kind.result.now c.put_in-in-Rec.result c.in-len1-up.len_at_least c.step-item.is typed place
    c.type_at-kind.ensures put)

pub put_part-returns-in-Rel : goal.put_part-returns-in-Rel
put_part-returns-in-Rel t c of_type =
    let typed = ap (λ (v : Value). is_of c.args.t.now v) (sym c.in-Rel.is) ∙ of_type in
    let place : c.place_of-place.result ≡ place_of c.args.t.now (value.Rel c.in-Rel.parts) c.step-item.result =
    rw (← c.in-Rel.is) (c.place_of-place.ensures of_type)
    in
    let put :
    PutIn c.type_at-kind.result.now c.in-Rel.parts c.place_of-place.result (rest_of c.args.path.now) c.args.new
    c.put_in-in-Rel.result = c.put_in-in-Rel.ensures
    in
    rw c.in-Rel.is
    (put_wrapped value.Rel Rel_wraps c.args.t.now c.in-Rel.parts c.args.path.now c.step-item.result c.args.new
    c.place_of-place.result c.type_at-kind.result.now c.put_in-in-Rel.result c.in-len1-up.len_at_least c.step-item.is typed place
    c.type_at-kind.ensures put)

pub put_in-returns : goal.put_in-returns
put_in-returns t c of_type =
    put_replaced c.args.t.now c.args.parts c.args.place c.args.path.now c.args.new c.replace-part.result c.put_part-put.result _ _
    c.replace-part.ensures.item c.replace-part.ensures.rest c.put_part-put.ensures c.replace.ensures.rest of_type
