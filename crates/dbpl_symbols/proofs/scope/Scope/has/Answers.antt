use Rattle.std.proofs.Common.{◌≡◌, ◌∙◌, List, ap, false, nat_le, subst, sym, unwrap_or, ℕ}
use Rattle.std.specs.Option.{option_map_or}
use Rattle.dbpl_symbols.proofs.PlaceLaws.{stands_at}
use Rattle.dbpl_symbols.specs.Scopes.{Declarations, is_declared, last_of, last_start}
use Rattle.dbpl_symbols.proofs.scope.Scope.has.Goals as goal

abbrev start_of : List ℕ → ℕ
start_of starts = unwrap_or (last_of starts) 0

pub returns-in-Some : goal.returns-in-Some
returns-in-Some c =
    let P : Declarations → Type 0 =
    λ scope. nat_le (last_start scope) c.in-Some.place.now ≡ is_declared c.args.name.now scope in
    ap (λ n. nat_le n c.in-Some.place.now) c.last_start-start.ensures ∙
    subst P c.self.view_is
    (ap (λ o. option_map_or (nat_le (start_of c.self.inside.starts)) o false) c.in-Some.ensures.value ∙
    sym (stands_at c.self.inside.held c.self.inside.places c.self.invariant.indexed c.args.name.now
    (start_of c.self.inside.starts)))

pub returns-in-None : goal.returns-in-None
returns-in-None c =
    let P : Declarations → Type 0 = λ scope. false ≡ is_declared c.args.name.now scope in
    subst P c.self.view_is
    (ap (λ o. option_map_or (nat_le (start_of c.self.inside.starts)) o false) c.in-None.ensures.value ∙
    sym (stands_at c.self.inside.held c.self.inside.places c.self.invariant.indexed c.args.name.now
    (start_of c.self.inside.starts)))
