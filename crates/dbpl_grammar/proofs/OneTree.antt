-- One list of tokens spells one tree: both are what is read, where a token that ends each phrase stands behind.
use Rattle.std.proofs.Common.{◌≡◌, ℕ, max, Bool, false, List, [], ◌∷◌, ◌++◌, refl, sym, ap, ◌∙◌, subst, arith}
use Rattle.dbpl_base.specs.declared.lexeme.Lexeme.{Lexeme}
use Rattle.dbpl_base.specs.declared.lexeme.Lexeme.TheVariants.{Finish}
use Rattle.dbpl_base.specs.declared.token.Token.{Token}
use Rattle.dbpl_tree.specs.Marks.{Mark, Meets}
use Rattle.dbpl_grammar.specs.Laws.{OneTree}
use Rattle.dbpl_grammar.specs.Reading.{Parser, among}
use Rattle.dbpl_grammar.proofs.Every.{Every}
use Rattle.dbpl_grammar.proofs.Law.{Ends}
use Rattle.dbpl_grammar.proofs.MeetsLaw.{meets_front, meets_swap}
use Rattle.dbpl_grammar.proofs.TokenLaw.{ok_is}

module _ {A : Type 0} {w : A → List Mark} {n : A → ℕ} {first more : List Lexeme} {empty : Bool} {read : ℕ → Parser A} (law : (limit : ℕ) → Every w n limit first more empty (read limit)) (ends : among more Finish ≡ false) where
  one_before : (tokens rest : List Token) (one other : A) → Meets tokens (w one) rest → Meets tokens (w other) rest → Ends more rest → one ≡ other
  one_before tokens rest one other h k stops =
      let limit = max (n one) (n other) in
      let first_read = (law limit).reads one tokens rest tt (omega arith) h stops in
      let second_read = (law limit).reads other tokens rest tt (omega arith) k stops in
      let same = ok_is (one, rest) (other, rest) (sym first_read ∙ second_read) in
      ap (λ (s : A × List Token). s.0) same

  one_behind : (front rest : List Token) (one other : A) → Meets (front ++ rest) (w one) rest → Meets (front ++ rest) (w other) rest → one ≡ other
  one_behind front [] one other h k = one_before (front ++ []) [] one other h k refl
  one_behind front (token ∷ rest) one other h k =
      let finish : Token = record { lexeme = Finish; place = token.place } in
      one_before (front ++ finish ∷ []) (finish ∷ []) one other (meets_swap (w one) front (token ∷ rest) (finish ∷ []) refl h) (meets_swap (w other) front (token ∷ rest) (finish ∷ []) refl k) ends

  pub one_tree : OneTree w
  one_tree tokens rest one other h k =
      let parts = meets_front (w one) tokens rest h in
      one_behind parts.0 rest one other (subst (λ (t : List Token). Meets t (w one) rest) parts.1 h) (subst (λ (t : List Token). Meets t (w other) rest) parts.1 k)
