use Rattle.std.proofs.Common.{◌≡◌, ap, ◌∙◌}
use Rattle.dbpl_value.specs.Paths.{with_part_at}
use Rattle.dbpl_value.specs.Values.{is_of}
use Rattle.dbpl_value.specs.declared.value.Value.{Value}
use Rattle.dbpl_value.proofs.PutLemmas.{is_of-with_part_at}
use Rattle.dbpl_value.proofs.paths.put_path.Goals as goal

pub returns-clause-of_type : goal.returns-clause-of_type
returns-clause-of_type c of_type typed keeps =
    let put : c.put_part.result ≡ with_part_at c.args.t.now c.args.v.now c.args.path.now c.args.new =
    cc (c.put_part.ensures (ap (λ (v : Value). is_of c.args.t.now v) c.replace.ensures.value ∙ of_type))
    in
    ap (λ (v : Value). is_of c.args.t.now v) put
    ∙ is_of-with_part_at c.args.t.now c.args.v.now c.args.path.now c.args.new of_type typed keeps
