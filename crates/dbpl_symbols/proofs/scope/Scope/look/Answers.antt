use Rattle.std.proofs.Common.{◌≡◌, ◌∙◌, None, Some, ap, option_map, subst, sym}
use Rattle.dbpl_symbols.proofs.PlaceLaws.{found_at}
use Rattle.dbpl_symbols.specs.Scopes.{Declarations, seen}
use Rattle.dbpl_symbols.proofs.scope.Scope.look.Goals as goal

pub returns-in-Some : goal.returns-in-Some
returns-in-Some c =
    let P : Declarations → Type 0 = λ scope. Some c.in-Some.held.now.pair.decl ≡ seen c.args.name.now scope in
    subst P c.self.view_is
    (sym (ap (option_map (λ pair. pair.decl))
    (found_at c.self.inside.held c.self.inside.places c.self.invariant.indexed c.args.name.now ∙
    ap (option_map (λ one. one.pair)) (sym c.in-Some.ensures))))

pub returns-in-None : goal.returns-in-None
returns-in-None c =
    let P : Declarations → Type 0 = λ scope. None ≡ seen c.args.name.now scope in
    subst P c.self.view_is
    (sym (ap (option_map (λ pair. pair.decl))
    (found_at c.self.inside.held c.self.inside.places c.self.invariant.indexed c.args.name.now ∙
    ap (option_map (λ one. one.pair)) (sym c.in-None.ensures))))
