use Rattle.std.proofs.Common.{◌≡◌, ◌<◌, ap, get_or, length, subst, ◌∙◌, ◌+◌}
use Rattle.dbpl_symbols.proofs.ParamLaws.{one_param_more}
use Rattle.dbpl_symbols.proofs.scope.Scope.add_params.Goals as goal

pub loop-param-preserved : goal.loop-param-preserved
loop-param-preserved c =
    let i = c.loop-param.param-index in
    let param = c.param-item.result in (
      one_param_more c.args.head.now.params i c.loop-param.number param c.args.self.now c.loop-param.self c.add_param.new.self
          (subst (λ params. i < length params) c.as_slice-param-items.ensures c.loop-param-test.true)
          c.loop-param.invariant.1
          (subst (λ params. param ≡ get_or params i param) c.as_slice-param-items.ensures c.param-item.is)
          c.loop-param.invariant.0 c.in_ok-add_param.ensures,
      c.in_ok-number.ensures ∙ ap (λ n. n + 1) c.loop-param.invariant.1,
    )
