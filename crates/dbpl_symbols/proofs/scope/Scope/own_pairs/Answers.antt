use Rattle.std.proofs.Common.{◌≡◌, drop, filter, subst}
use Rattle.dbpl_symbols.proofs.HeldLaws.{own_of}
use Rattle.dbpl_symbols.specs.Interfaces.{is_own}
use Rattle.dbpl_symbols.specs.Scopes.{Declarations, last_start}
use Rattle.dbpl_symbols.proofs.scope.Scope.own_pairs.Goals as goal

pub returns : goal.returns
returns c =
    let start = last_start c.args.self.now in
    let P : Declarations → Type 0 = λ scope. c.in_ok-pairs.pairs ≡ filter is_own (drop start scope.pairs) in
    subst P c.self.view_is
    (own_of c.in_ok-pairs.pairs c.self.inside.held c.from-level.result.now c.as_slice.result.now c.last_start-start.result start
    c.in_ok-pairs.ensures c.from-level.ensures c.as_slice.ensures c.last_start-start.ensures)
