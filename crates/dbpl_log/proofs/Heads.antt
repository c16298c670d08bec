-- The head of a log: how it is found, and what is possible while it is written.
use Rattle.std.proofs.Common.{◌≡◌, ℕ, min, ◌↔◌, Bool, IsTrue, List, [], ◌∷◌, ◌++◌, length, take, refl, sym, ap, subst, ◌∙◌, arith}
use Rattle.std.specs.Prelude.{bytes_eq, nat_eq}
use Rattle.std.proofs.lemmas.Bool.{eqb-true}
use Rattle.std.proofs.lemmas.List.{take_all, length-take}
use Rattle.std.proofs.lemmas.Slice.Eq.{bytes_eq-Decides}
use Rattle.dbpl_log.specs.Records.{head_text, open_head, HasHead}
use Rattle.dbpl_log.proofs.RecordLaws.{length_head}

pub head_literal : 1 ∷ 68 ∷ 66 ∷ 80 ∷ 76 ∷ 45 ∷ 83 ∷ 84 ∷ 79 ∷ 82 ∷ 69 ∷ 45 ∷ 48 ∷ 48 ∷ 48 ∷ 48 ∷ [] ≡ open_head
unfolding head_text
head_literal = refl

pub text_literal : 68 ∷ 66 ∷ 80 ∷ 76 ∷ 45 ∷ 83 ∷ 84 ∷ 79 ∷ 82 ∷ 69 ∷ 45 ∷ 48 ∷ 48 ∷ 48 ∷ 48 ∷ 0 ∷ [] ≡ head_text ++ 0 ∷ []
unfolding head_text
text_literal = refl

-- Sixteen bytes were read, and compared.

read_whole : (into log : List ℕ) (count : ℕ) → length into ≡ 16 → count ≡ 16 → take count into ≡ take count log → into ≡ take 16 log
read_whole into log count long sixteen bytes = sym (take_all 16 into (omega (arith, long))) ∙ subst (λ n. take n into ≡ take n log) sixteen bytes

pub head_compared : (into log head : List ℕ) (count : ℕ) (result : Bool) → length into ≡ 16 → head ≡ open_head → result ≡ bytes_eq into head → count ≡ 16 → take count into ≡ take count log → IsTrue result ↔ HasHead log
head_compared into log head count result long head_is result_is sixteen bytes =
    let whole : into ≡ take 16 log = read_whole into log count long sixteen bytes in (
      λ yes. sym whole ∙ (bytes_eq-Decides into head).0 (sym result_is ∙ yes) ∙ head_is,
      λ found. result_is ∙ (bytes_eq-Decides into head).1 (whole ∙ found ∙ sym head_is),
    )

pub head_too_short : (log : List ℕ) (count : ℕ) (result : Bool) → (count ≡ 16 → ⊥) → count ≡ min 16 (length log) → result ≡ nat_eq count 16 → IsTrue result ↔ HasHead log
head_too_short log count result not_sixteen count_is result_is = (
  λ yes. absurd (not_sixteen (eqb-true count 16 (sym result_is ∙ yes))),
  λ found. absurd (not_sixteen (omega (arith, count_is, ap length found, length-take 16 log, length_head))),
)
