-- Comments, the gaps that they stand in, and the tokens of a text with such gaps.
use Rattle.std.specs.Prelude.{◌≡◌, ℕ, List, [], ◌∷◌, ◌++◌, IsTrue, codes}
use Rattle.dbpl_base.specs.Places.{start_of}
use Rattle.dbpl_base.specs.Scans.{OpensComment, ScansFrom}
use Rattle.dbpl_base.specs.Words.{is_blank}
use Rattle.dbpl_base.specs.declared.token.Token.{Token}

-- the text begins with the two bytes that close one
abbrev pub ClosesComment : List ℕ → Type 0
ClosesComment text = (rest : List ℕ) × (text ≡ codes "*)" ++ rest)

-- What follows an opening, up to and with the closing that belongs to it: the closing, or a whole comment and then such a text, or a byte at which neither stands and then such a text.
pub data IsInside : List ℕ → Type 0 where
  ends : (text : List ℕ) → text ≡ codes "*)" → IsInside text
  nests : (text inner outer : List ℕ) → text ≡ codes "(*" ++ (inner ++ outer) → IsInside inner → IsInside outer → IsInside text
  passes : (text : List ℕ) (byte : ℕ) (rest : List ℕ) → text ≡ byte ∷ rest → ¬ OpensComment text → ¬ ClosesComment text → IsInside rest → IsInside text

-- a whole comment; comments nest
abbrev pub IsComment : List ℕ → Type 0
IsComment text = (inside : List ℕ) × (text ≡ codes "(*" ++ inside) × IsInside inside

-- blanks and whole comments in turn
pub data IsGap : List ℕ → Type 0 where
  none : (gap : List ℕ) → gap ≡ [] → IsGap gap
  blank : (gap : List ℕ) (byte : ℕ) (rest : List ℕ) → gap ≡ byte ∷ rest → IsTrue (is_blank byte) → IsGap rest → IsGap gap
  comment : (gap whole rest : List ℕ) → gap ≡ whole ++ rest → IsComment whole → IsGap rest → IsGap gap

-- THE tokens of a text: the text of this unit has these, with blanks and whole comments between them
abbrev pub Scans : ℕ → List ℕ → List Token → Type 0
Scans unit text tokens = ScansFrom IsGap (start_of unit) text tokens
