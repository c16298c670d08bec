-- The turns of the loop over the statements of a body.
use Rattle.std.proofs.Common.{◌≡◌, ℕ, suc, ◌+◌, ◌<◌, List, [], ◌∷◌, ◌++◌, Option, Some, None, option_map, refl, sym, ap, ◌∙◌, add-one, take, drop, get_or, length}
use Rattle.std.proofs.Math.Seq.{drop-cons}
use Rattle.std.proofs.lemmas.List.{take-append-drop, take_more}
use Rattle.dbpl_alone.specs.Small.{in_front, small_statement, small_statements}
use Rattle.dbpl_alone.specs.declared.statement.Statement.{Statement as Small}
use Rattle.dbpl_tree.specs.declared.statement.Statement.{Statement}

-- these, and behind them the others
abbrev joined : Option (List Small) → Option (List Small) → Option (List Small)
joined None others = None
joined (Some front) others = option_map (λ back. front ++ back) others

joined-none : (front : Option (List Small)) → joined front None ≡ None
joined-none None = refl
joined-none (Some front) = refl

joined-front : (first : Option Small) (front back : Option (List Small)) →
    in_front first (joined front back) ≡ joined (in_front first front) back
joined-front None front back = refl
joined-front (Some first) None back = refl
joined-front (Some first) (Some front) None = refl
joined-front (Some first) (Some front) (Some back) = refl

nothing-front : (others : Option (List Small)) → joined (Some []) others ≡ others
nothing-front None = refl
nothing-front (Some others) = refl

small_statements-append : (front back : List Statement) →
    small_statements (front ++ back) ≡ joined (small_statements front) (small_statements back)
small_statements-append [] back = sym (nothing-front (small_statements back))
small_statements-append (s ∷ front) back =
    ap (in_front (small_statement s)) (small_statements-append front back)
    ∙ joined-front (small_statement s) (small_statements front) (small_statements back)

-- one more statement of the form
pub turn_more : (first : Small) (xs : List Statement) (i : ℕ) (x : Statement) (all : List Small) (next : Small) → x ≡ get_or xs i x →
    i < length xs → in_front (Some first) (small_statements (take i xs)) ≡ Some all → small_statement x ≡ Some next →
    in_front (Some first) (small_statements (take (i + 1) xs)) ≡ Some (all ++ next ∷ [])
turn_more first xs i x all next here within so_far e =
    ap (λ (ss : List Statement). in_front (Some first) (small_statements ss)) (take_more xs i x within ∙ ap (λ (y : Statement). take i xs ++ y ∷ []) (sym here))
    ∙ ap (in_front (Some first)) (small_statements-append (take i xs) (x ∷ []))
    ∙ joined-front (Some first) (small_statements (take i xs)) (small_statements (x ∷ []))
    ∙ ap (λ (o : Option (List Small)). joined o (small_statements (x ∷ []))) so_far
    ∙ ap (λ (o : Option Small). joined (Some all) (in_front o (Some []))) e

at_index : (xs : List Statement) (i : ℕ) (x : Statement) → x ≡ get_or xs i x → i < length xs → xs ≡ take i xs ++ (x ∷ drop (i + 1) xs)
at_index xs i x here within =
    sym (take-append-drop i xs) ∙ ap (λ ys. take i xs ++ ys) (rw (add-one, drop-cons xs i x within) (ap (λ (y : Statement). y ∷ drop (suc i) xs) (sym here)))

-- a statement of another form
pub turn_none : (first : Small) (xs : List Statement) (i : ℕ) (x : Statement) → x ≡ get_or xs i x → i < length xs →
    small_statement x ≡ None → in_front (Some first) (small_statements xs) ≡ None
turn_none first xs i x here within e =
    let behind : Option (List Small) = small_statements (drop (i + 1) xs) in
    ap (λ (ss : List Statement). in_front (Some first) (small_statements ss)) (at_index xs i x here within)
    ∙ ap (in_front (Some first)) (small_statements-append (take i xs) (x ∷ drop (i + 1) xs))
    ∙ ap (λ (o : Option Small). in_front (Some first) (joined (small_statements (take i xs)) (in_front o behind))) e
    ∙ ap (in_front (Some first)) (joined-none (small_statements (take i xs)))
