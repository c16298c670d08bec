use Rattle.std.proofs.Common.{◌≡◌, [], ◌∷◌, ◌++◌, flat_map, reverse, subst}
use Rattle.dbpl_symbols.proofs.HeldLaws.{rises}
use Rattle.dbpl_symbols.proofs.ScopeLaws.{found-innermost, levels-counted, levels-declared, levels-inner, levels-joined}
use Rattle.dbpl_symbols.specs.Places.{pairs_of}
use Rattle.dbpl_symbols.specs.Scopes.{Declarations, entered, found, innermost, levels, with_last, with_pair, with_pairs}
use Rattle.dbpl_symbols.proofs.scope.Scope.stands_in_levels.Goals as goal

pub returns-clause-joined : goal.returns-clause-joined
returns-clause-joined c =
    let P : Declarations → Type 0 = λ scope. flat_map (λ level. level) (levels scope) ≡ scope.pairs in
    let scope : Declarations = record { pairs = pairs_of c.self.inside.held; starts = c.self.inside.starts } in
    subst P c.self.view_is
    (levels-joined scope (rises c.self.inside.held c.self.inside.starts c.self.inside.places c.self.invariant))

pub returns-clause-count : goal.returns-clause-count
returns-clause-count c = levels-counted c.args.self.now

pub returns-clause-declared : goal.returns-clause-declared
returns-clause-declared c = λ pair.
    let P : Declarations → Type 0 = λ scope. levels (with_pair pair scope) ≡ with_last pair (levels scope) in
    let scope : Declarations = record { pairs = pairs_of c.self.inside.held; starts = c.self.inside.starts } in
    subst P c.self.view_is
    (levels-declared pair scope (rises c.self.inside.held c.self.inside.starts c.self.inside.places c.self.invariant))

pub returns-clause-entered : goal.returns-clause-entered
returns-clause-entered c = λ more.
    let P : Declarations → Type 0 = λ scope. levels (with_pairs more (entered scope)) ≡ levels scope ++ more ∷ [] in
    let scope : Declarations = record { pairs = pairs_of c.self.inside.held; starts = c.self.inside.starts } in
    subst P c.self.view_is
    (levels-inner more scope (rises c.self.inside.held c.self.inside.starts c.self.inside.places c.self.invariant))

pub returns-clause-found : goal.returns-clause-found
returns-clause-found c = λ name.
    let P : Declarations → Type 0 = λ scope. found name scope ≡ innermost name (reverse (levels scope)) in
    let scope : Declarations = record { pairs = pairs_of c.self.inside.held; starts = c.self.inside.starts } in
    subst P c.self.view_is
    (found-innermost name scope (rises c.self.inside.held c.self.inside.starts c.self.inside.places c.self.invariant))
