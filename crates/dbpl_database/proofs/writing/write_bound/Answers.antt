use Rattle.std.proofs.Common.{◌≡◌, true}
use Rattle.std.specs.Cmp.Derive.{both_true}
use Rattle.dbpl_codec.specs.Numbers.{count_fits}
use Rattle.dbpl_codec.specs.TypeSpelling.{type_bytes}
use Rattle.dbpl_codec.specs.ValueSpelling.{bytes_of}
use Rattle.dbpl_database.proofs.Given.{alone_fits}
use Rattle.dbpl_database.proofs.writing.write_bound.Goals as goal

pub returns-clause-fits : goal.returns-clause-fits
returns-clause-fits c =
    let named : count_fits c.args.bound.now.name ≡ true = rw (← c.as_bytes.ensures) c.in_ok-write_string.ensures.fits in
    let kind_fits =
    alone_fits c.as_slice.result.now c.write_type.new.out.items c.new-kind.result.items (type_bytes c.args.bound.now.kind)
    c.in_ok-write_string-2.ensures.fits c.as_slice.ensures.value c.in_ok-write_type.ensures.ok c.new-kind.ensures.items
    in
    let rel_fits =
    alone_fits c.as_slice-2.result.now c.write_value.new.out.items c.new-rel.result.items
    (bytes_of c.args.bound.now.kind c.args.bound.now.rel) c.in_ok-write_string-3.ensures.fits c.as_slice-2.ensures.value
    c.in_ok-write_value.ensures.ok c.new-rel.ensures.items
    in
    both_true
    (both_true (both_true (both_true named c.in_ok-write_type.ensures.fits) kind_fits) c.in_ok-write_value.ensures.fits)
    rel_fits
