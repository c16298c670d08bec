-- Sets of lexemes: what is decided of them by computing holds of every lexeme.
use Rattle.std.proofs.Common.{◌≡◌, ℕ, Bool, true, false, not, ◌==◌, ◌&&◌, ◌||◌, List, [], ◌∷◌, ◌++◌, refl, sym, ap, ap₂, ◌∙◌, true≢false, inl, inr, arith}
use Rattle.std.proofs.lemmas.Bool.Decides.{nat_tests}
use Rattle.std.specs.List.{list_all}
use Rattle.std.proofs.lemmas.Bool.{and_parts, or_cases, eqb-true}
use Rattle.dbpl_base.specs.declared.lexeme.Lexeme.{Lexeme}
use Rattle.dbpl_base.specs.declared.lexeme.Lexeme.TheVariants.{Ident, Number, CharCode, Text, Reserved, Sign, Finish}
use Rattle.dbpl_grammar.specs.Reading.{among, kind_of, like}

-- no lexeme is like one of both
abbrev pub apart : List Lexeme → List Lexeme → Bool
apart set other = list_all (λ one. not (among other one)) set

-- each is like one of the second
abbrev pub within : List Lexeme → List Lexeme → Bool
within set other = list_all (λ one. among other one) set

-- what has no content beside its kind
abbrev pub is_fixed : Lexeme → Bool
is_fixed (Ident name) = false
is_fixed (Number n) = false
is_fixed (CharCode n) = false
is_fixed (Text text) = false
is_fixed (Reserved row) = true
is_fixed (Sign row) = true
is_fixed Finish = true

pub like_kinds : (one other : Lexeme) → like one other ≡ true → ((kind_of one).0 ≡ (kind_of other).0) × ((kind_of one).1 ≡ (kind_of other).1)
like_kinds one other e =
    let both = and_parts ((kind_of other).0 == (kind_of one).0) ((kind_of other).1 == (kind_of one).1) e in
    (sym (eqb-true (kind_of other).0 (kind_of one).0 both.0), sym (eqb-true (kind_of other).1 (kind_of one).1 both.1))

pub like_same : (one other third : Lexeme) → like one other ≡ true → like third one ≡ like third other
like_same one other third e =
    let kinds = like_kinds one other e in
    ap₂ (λ (kind row : ℕ). kind == (kind_of third).0 && row == (kind_of third).1) kinds.0 kinds.1

pub among_same : (set : List Lexeme) (one other : Lexeme) → like one other ≡ true → among set one ≡ among set other
among_same [] one other e = refl
among_same (third ∷ set) one other e =
    ap₂ (λ (a b : Bool). a || b) (like_same one other third e) (among_same set one other e)

not_true : (b : Bool) → not b ≡ true → b ≡ false
not_true true e = absurd (true≢false (sym e))
not_true false e = refl

pub apart_so : (set other : List Lexeme) (lexeme : Lexeme) → apart set other ≡ true → among set lexeme ≡ true → among other lexeme ≡ false
apart_so [] other lexeme e is = absurd (true≢false (sym is))
apart_so (one ∷ set) other lexeme e is =
    let both = and_parts (not (among other one)) (apart set other) e in
    elim (or_cases (like one lexeme) (among set lexeme) is) as (λ _. among other lexeme ≡ false) [
      | inl same ↦ sym (among_same other one lexeme same) ∙ not_true (among other one) both.0
      | inr later ↦ apart_so set other lexeme both.1 later
    ]

pub within_so : (set other : List Lexeme) (lexeme : Lexeme) → within set other ≡ true → among set lexeme ≡ true → among other lexeme ≡ true
within_so [] other lexeme e is = absurd (true≢false (sym is))
within_so (one ∷ set) other lexeme e is =
    let both = and_parts (among other one) (within set other) e in
    elim (or_cases (like one lexeme) (among set lexeme) is) as (λ _. among other lexeme ≡ true) [
      | inl same ↦ sym (among_same other one lexeme same) ∙ both.0
      | inr later ↦ within_so set other lexeme both.1 later
    ]

-- what isn't among more isn't among fewer
pub outside_so : (set other : List Lexeme) (lexeme : Lexeme) → within set other ≡ true → among other lexeme ≡ false → among set lexeme ≡ false
outside_so set other lexeme e not_there = by_answer (among set lexeme) refl
  where
    by_answer : (b : Bool) → among set lexeme ≡ b → among set lexeme ≡ false
    by_answer true is = absurd (true≢false (sym (within_so set other lexeme e is) ∙ not_there))
    by_answer false is = is

pub among_append : (set other : List Lexeme) (lexeme : Lexeme) → among (set ++ other) lexeme ≡ (among set lexeme || among other lexeme)
among_append [] other lexeme = refl
among_append (one ∷ set) other lexeme =
    ap (λ (b : Bool). like one lexeme || b) (among_append set other lexeme) ∙ or_assoc (like one lexeme) (among set lexeme) (among other lexeme)
  where
    or_assoc : (a b c : Bool) → (a || (b || c)) ≡ ((a || b) || c)
    or_assoc true b c = refl
    or_assoc false b c = refl

pub like_self : (lexeme : Lexeme) → like lexeme lexeme ≡ true
like_self (Ident name) = refl
like_self (Number n) = refl
like_self (CharCode n) = refl
like_self (Text text) = refl
like_self (Reserved row) = eq_self row
  where
    eq_self : (n : ℕ) → (n == n) ≡ true
    eq_self n = grind (arith, nat_tests)
like_self (Sign row) = grind (arith, nat_tests)
like_self Finish = refl

-- a word or a sign is told by its kind
pub fixed_is : (lexeme other : Lexeme) → is_fixed lexeme ≡ true → like lexeme other ≡ true → other ≡ lexeme
fixed_is (Ident name) other fixed e = absurd (true≢false (sym fixed))
fixed_is (Number n) other fixed e = absurd (true≢false (sym fixed))
fixed_is (CharCode n) other fixed e = absurd (true≢false (sym fixed))
fixed_is (Text text) other fixed e = absurd (true≢false (sym fixed))
fixed_is (Reserved row) other fixed e = reserved_is other row (like_kinds (Reserved row) other e)
  where
    reserved_is : (other : Lexeme) (row : ℕ) → (4 ≡ (kind_of other).0) × (row ≡ (kind_of other).1) → other ≡ Reserved row
    reserved_is (Reserved r) row h = ap Reserved (sym h.1)
    reserved_is (Ident name) row h = absurd (let e : 4 ≡ 0 = h.0 in omega arith)
    reserved_is (Number n) row h = absurd (let e : 4 ≡ 1 = h.0 in omega arith)
    reserved_is (CharCode n) row h = absurd (let e : 4 ≡ 2 = h.0 in omega arith)
    reserved_is (Text text) row h = absurd (let e : 4 ≡ 3 = h.0 in omega arith)
    reserved_is (Sign r) row h = absurd (let e : 4 ≡ 5 = h.0 in omega arith)
    reserved_is Finish row h = absurd (let e : 4 ≡ 6 = h.0 in omega arith)
fixed_is (Sign row) other fixed e = sign_is other row (like_kinds (Sign row) other e)
  where
    sign_is : (other : Lexeme) (row : ℕ) → (5 ≡ (kind_of other).0) × (row ≡ (kind_of other).1) → other ≡ Sign row
    sign_is (Sign r) row h = ap Sign (sym h.1)
    sign_is (Ident name) row h = absurd (let e : 5 ≡ 0 = h.0 in omega arith)
    sign_is (Number n) row h = absurd (let e : 5 ≡ 1 = h.0 in omega arith)
    sign_is (CharCode n) row h = absurd (let e : 5 ≡ 2 = h.0 in omega arith)
    sign_is (Text text) row h = absurd (let e : 5 ≡ 3 = h.0 in omega arith)
    sign_is (Reserved r) row h = absurd (let e : 5 ≡ 4 = h.0 in omega arith)
    sign_is Finish row h = absurd (let e : 5 ≡ 6 = h.0 in omega arith)
fixed_is Finish other fixed e = finish_is other (like_kinds Finish other e)
  where
    finish_is : (other : Lexeme) → (6 ≡ (kind_of other).0) × (0 ≡ (kind_of other).1) → other ≡ Finish
    finish_is Finish h = refl
    finish_is (Ident name) h = absurd (let e : 6 ≡ 0 = h.0 in omega arith)
    finish_is (Number n) h = absurd (let e : 6 ≡ 1 = h.0 in omega arith)
    finish_is (CharCode n) h = absurd (let e : 6 ≡ 2 = h.0 in omega arith)
    finish_is (Text text) h = absurd (let e : 6 ≡ 3 = h.0 in omega arith)
    finish_is (Reserved r) h = absurd (let e : 6 ≡ 4 = h.0 in omega arith)
    finish_is (Sign r) h = absurd (let e : 6 ≡ 5 = h.0 in omega arith)

-- a word or a sign
abbrev pub is_word : Lexeme → Bool
is_word (Ident name) = false
is_word (Number n) = false
is_word (CharCode n) = false
is_word (Text text) = false
is_word (Reserved row) = true
is_word (Sign row) = true
is_word Finish = false

pub word_fixed : (lexeme : Lexeme) → is_word lexeme ≡ true → is_fixed lexeme ≡ true
word_fixed (Ident name) e = e
word_fixed (Number n) e = e
word_fixed (CharCode n) e = e
word_fixed (Text text) e = e
word_fixed (Reserved row) e = refl
word_fixed (Sign row) e = refl
word_fixed Finish e = refl

pub word_no_end : (lexeme : Lexeme) → is_word lexeme ≡ true → like Finish lexeme ≡ false
word_no_end (Ident name) e = refl
word_no_end (Number n) e = refl
word_no_end (CharCode n) e = refl
word_no_end (Text text) e = refl
word_no_end (Reserved row) e = refl
word_no_end (Sign row) e = refl
word_no_end Finish e = absurd (true≢false (sym e))
