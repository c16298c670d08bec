-- The test of an identifier says what the definition of one says.
use Rattle.std.proofs.Common.{◌≡◌, ℕ, true, List, [], ◌∷◌}
use Rattle.std.specs.Cmp.{first_so, second_so}
use Rattle.std.specs.Cmp.Derive.{both_true}
use Rattle.std.specs.List.{list_all}
use Rattle.dbpl_base.specs.Spelling.{IsIdentifier}
use Rattle.dbpl_base.specs.Words.{is_letter, is_word_byte}
use Rattle.dbpl_value.specs.Types.{is_identifier}

pub IsIdentifier-from_test : (name : List ℕ) → is_identifier name ≡ true → IsIdentifier name
IsIdentifier-from_test [] h = cc
IsIdentifier-from_test (first ∷ others) h =
    (first_so (is_letter first) (list_all is_word_byte others) h, second_so (is_letter first) (list_all is_word_byte others) h)

pub is_identifier-from_fact : (name : List ℕ) → IsIdentifier name → is_identifier name ≡ true
is_identifier-from_fact [] h = absurd h
is_identifier-from_fact (first ∷ others) h = both_true h.0 h.1
