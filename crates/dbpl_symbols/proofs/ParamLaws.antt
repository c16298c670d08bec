-- The parameters of a routine, one after the other.
use Rattle.std.proofs.Common.{◌≡◌, ◌∙◌, ℕ, ◌+◌, ◌<◌, List, [], ◌∷◌, ◌++◌, length, take, get_or, ap, sym, arith}
use Rattle.std.proofs.lemmas.List.{append_assoc, length-take-le, take_more}
use Rattle.dbpl_symbols.specs.Parameters.{param_pair, params_from}
use Rattle.dbpl_symbols.specs.Scopes.{Declarations, with_pair, with_pairs}
use Rattle.dbpl_symbols.specs.declared.pair.Pair.{Pair}
use Rattle.dbpl_value.specs.declared.param.Param.{Param}

params-push : (first : ℕ) (params : List Param) (param : Param) →
    params_from first (params ++ param ∷ []) ≡ params_from first params ++ param_pair (first + length params) param ∷ []
params-push first [] param = ap (λ n. param_pair n param ∷ []) (omega arith)
params-push first (one ∷ params) param =
    ap (λ pairs. param_pair first one ∷ pairs)
    (params-push (first + 1) params param ∙
    ap (λ n. params_from (first + 1) params ++ param_pair n param ∷ []) (omega arith))

-- one turn of the loop over them
pub one_param_more : (params : List Param) (at number : ℕ) (param : Param) (old middle new : Declarations) → at < length params →
    number ≡ at → param ≡ get_or params at param → middle ≡ with_pairs (params_from 0 (take at params)) old →
    new ≡ with_pair (param_pair number param) middle → new ≡ with_pairs (params_from 0 (take (at + 1) params)) old
one_param_more params at number param old middle new within counted is before added =
    let front : List Pair = params_from 0 (take at params) in
    let numbered : number ≡ 0 + length (take at params) =
    omega (arith, counted, length-take-le at params (omega (arith, within))) in
    let whole : params_from 0 (take (at + 1) params) ≡ front ++ param_pair number param ∷ [] =
    ap (params_from 0) (take_more params at param within ∙ ap (λ one. take at params ++ one ∷ []) (sym is)) ∙
    params-push 0 (take at params) param ∙ ap (λ n. front ++ param_pair n param ∷ []) (sym numbered) in
    added ∙ ap (with_pair (param_pair number param)) before ∙
    ap (λ pairs. let scope : Declarations = record old { pairs = pairs } in scope)
    (append_assoc old.pairs front (param_pair number param ∷ [])) ∙
    ap (λ more. with_pairs more old) (sym whole)
