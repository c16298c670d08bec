-- Bytes compare as the numbers that they spell, the highest byte first.
use Rattle.std.proofs.Common.{◌≡◌, ℕ, ◌+◌, ◌*◌, ◌/◌, ◌%◌, ◌<◌, ◌≤◌, ◌^◌, List, [], ◌∷◌, ◌++◌, length, refl, sym, ap, ◌∙◌, arith}
use Rattle.std.proofs.Math.Nat.{add-mul, mul-le-mul_right}
use Rattle.std.proofs.lemmas.Int.{ints}
use Rattle.std.specs.Cmp.{int_cmp_is, nat_cmp_is, ranked}
use Rattle.std.specs.Cmp.Lexicographic.{slice_cmp}
use Rattle.std.specs.Ordering.{MatchOrdering, int_cmp, nat_cmp, ordering_then}
use Rattle.std.specs.Prelude.{ℤ, pos, ◌+ℤ◌, ◌<ℤ◌}
use Rattle.std.specs.declared.cmp.Ordering.{Ordering}
use Rattle.std.specs.declared.cmp.Ordering.TheVariants.{Equal, Greater, Less}
use Rattle.byteorder.specs.Endian.{big_bytes}

pub then-Equal : (o : Ordering) → ordering_then o Equal ≡ o
then-Equal Less = refl
then-Equal Equal = refl
then-Equal Greater = refl

then-assoc : (o p q : Ordering) → ordering_then (ordering_then o p) q ≡ ordering_then o (ordering_then p q)
then-assoc Less p q = refl
then-assoc Equal p q = refl
then-assoc Greater p q = refl

-- ---- two digits

one_more : (x y m : ℕ) → x < y → x * m + m ≤ y * m
one_more x y m lt =
    let wide : (x + 1) * m ≤ y * m = mul-le-mul_right m (omega arith) in
    let split : (x + 1) * m ≡ x * m + 1 * m = add-mul x 1 m in
    omega (arith, wide, split)

-- the high digit decides, and else the low one
digits : (x y r s m : ℕ) → r < m → s < m → nat_cmp (x * m + r) (y * m + s) ≡ ordering_then (nat_cmp x y) (nat_cmp r s)
digits x y r s m hr hs = by_high (nat_cmp x y) refl
  where
    same_high : (o : Ordering) → nat_cmp r s ≡ o → x ≡ y → o ≡ nat_cmp (x * m + r) (y * m + s)
    same_high Less e h =
        let lt : r < s = ranked r s Less (sym e) in
        rw (← h) (nat_cmp_is (x * m + r) (x * m + s) Less (omega arith))
    same_high Equal e h =
        let is : r ≡ s = ranked r s Equal (sym e) in
        rw (← h) (nat_cmp_is (x * m + r) (x * m + s) Equal (omega arith))
    same_high Greater e h =
        let gt : s < r = ranked r s Greater (sym e) in
        rw (← h) (nat_cmp_is (x * m + r) (x * m + s) Greater (omega arith))

    by_high : (o : Ordering) → nat_cmp x y ≡ o → nat_cmp (x * m + r) (y * m + s) ≡ ordering_then o (nat_cmp r s)
    by_high Less e =
        let lt : x < y = ranked x y Less (sym e) in
        let more = one_more x y m lt in
        sym (nat_cmp_is (x * m + r) (y * m + s) Less (omega (arith, more)))
    by_high Equal e = sym (same_high (nat_cmp r s) refl (ranked x y Equal (sym e)))
    by_high Greater e =
        let gt : y < x = ranked x y Greater (sym e) in
        let more = one_more y x m gt in
        sym (nat_cmp_is (x * m + r) (y * m + s) Greater (omega (arith, more)))

-- ---- four bytes

pub four_bytes :
    (a b : ℕ) → a < 2 ^ 32 → b < 2 ^ 32 → slice_cmp nat_cmp (big_bytes 4 a) (big_bytes 4 b) ≡ nat_cmp a b
four_bytes a b ha hb =
    let a3 = a / 16777216 % 256 in
    let a2 = a / 65536 % 256 in
    let a1 = a / 256 % 256 in
    let b3 = b / 16777216 % 256 in
    let b2 = b / 65536 % 256 in
    let b1 = b / 256 % 256 in
    let top = digits a3 b3 (a % 16777216) (b % 16777216) 16777216 (omega arith) (omega arith) in
    let next = digits a2 b2 (a % 65536) (b % 65536) 65536 (omega arith) (omega arith) in
    let low = digits a1 b1 (a % 256) (b % 256) 256 (omega arith) (omega arith) in
    let a_is : a ≡ a3 * 16777216 + a % 16777216 = omega arith in
    let b_is : b ≡ b3 * 16777216 + b % 16777216 = omega arith in
    let a_next : a % 16777216 ≡ a2 * 65536 + a % 65536 = omega arith in
    let b_next : b % 16777216 ≡ b2 * 65536 + b % 65536 = omega arith in
    let a_low : a % 65536 ≡ a1 * 256 + a % 256 = omega arith in
    let b_low : b % 65536 ≡ b1 * 256 + b % 256 = omega arith in
    let first : nat_cmp a b ≡ ordering_then (nat_cmp a3 b3) (nat_cmp (a % 16777216) (b % 16777216)) =
    (λ i. nat_cmp (a_is i) (b_is i)) ∙ top
    in
    let second : nat_cmp (a % 16777216) (b % 16777216) ≡ ordering_then (nat_cmp a2 b2) (nat_cmp (a % 65536) (b % 65536)) =
    (λ i. nat_cmp (a_next i) (b_next i)) ∙ next
    in
    let third : nat_cmp (a % 65536) (b % 65536) ≡ ordering_then (nat_cmp a1 b1) (nat_cmp (a % 256) (b % 256)) =
    (λ i. nat_cmp (a_low i) (b_low i)) ∙ low
    in
    sym (
    first ∙ ap (λ (o : Ordering). ordering_then (nat_cmp a3 b3) o) (
    second ∙ ap (λ (o : Ordering). ordering_then (nat_cmp a2 b2) o) (
    third ∙ ap (λ (o : Ordering). ordering_then (nat_cmp a1 b1) o) (sym (then-Equal (nat_cmp (a % 256) (b % 256)))))))

-- ---- numbers

-- numbers that are raised alike compare as before
pub raised : (k a b : ℕ) (z y : ℤ) → z +ℤ pos k ≡ pos a → y +ℤ pos k ≡ pos b → int_cmp z y ≡ nat_cmp a b
raised k a b z y ez ey = sym (int_cmp_is z y (nat_cmp a b) (by_order (nat_cmp a b) refl))
  where
    by_order : (o : Ordering) → nat_cmp a b ≡ o → MatchOrdering o (z <ℤ y) (z ≡ y) (y <ℤ z)
    by_order Less e =
        let lt : a < b = ranked a b Less (sym e) in
        omega (arith, ints, ez, ey)
    by_order Equal e =
        let is : a ≡ b = ranked a b Equal (sym e) in
        omega (arith, ints, ez, ey)
    by_order Greater e =
        let gt : b < a = ranked a b Greater (sym e) in
        omega (arith, ints, ez, ey)

-- ---- lists that are joined

-- what stands behind lists of one length
pub joined :
    (xs ys bs cs : List ℕ) → length xs ≡ length ys →
    slice_cmp nat_cmp (xs ++ bs) (ys ++ cs) ≡ ordering_then (slice_cmp nat_cmp xs ys) (slice_cmp nat_cmp bs cs)
joined [] [] bs cs h = refl
joined [] (y ∷ ys) bs cs h = absurd (omega arith)
joined (x ∷ xs) [] bs cs h = absurd (omega arith)
joined (x ∷ xs) (y ∷ ys) bs cs h =
    ap (λ (o : Ordering). ordering_then (nat_cmp x y) o) (joined xs ys bs cs (omega arith))
    ∙ sym (then-assoc (nat_cmp x y) (slice_cmp nat_cmp xs ys) (slice_cmp nat_cmp bs cs))

-- fronts of one length are equal, and so is what stands behind
pub fronts-same :
    (xs ys bs cs : List ℕ) → length xs ≡ length ys → xs ++ bs ≡ ys ++ cs → xs ≡ ys
fronts-same [] [] bs cs h e = refl
fronts-same [] (y ∷ ys) bs cs h e = absurd (omega arith)
fronts-same (x ∷ xs) [] bs cs h e = absurd (omega arith)
fronts-same (x ∷ xs) (y ∷ ys) bs cs h e =
    let head : x ≡ y = cc in
    let tail : xs ++ bs ≡ ys ++ cs = cc in
    let rest = fronts-same xs ys bs cs (omega arith) tail in
    λ i. head i ∷ rest i

-- bytes that compare as equal are equal
pub same_bytes : (xs ys : List ℕ) → slice_cmp nat_cmp xs ys ≡ Equal → xs ≡ ys
same_bytes [] [] e = refl
same_bytes [] (y ∷ ys) e = absurd cc
same_bytes (x ∷ xs) [] e = absurd cc
same_bytes (x ∷ xs) (y ∷ ys) e = by_head (nat_cmp x y) refl (λ f. same_bytes xs ys f) e
  where
    by_head :
        (o : Ordering) → nat_cmp x y ≡ o → (slice_cmp nat_cmp xs ys ≡ Equal → xs ≡ ys) →
        ordering_then o (slice_cmp nat_cmp xs ys) ≡ Equal → x ∷ xs ≡ y ∷ ys
    by_head Less h same f = absurd cc
    by_head Equal h same f =
        let head : x ≡ y = ranked x y Equal (sym h) in
        let rest = same f in
        λ i. head i ∷ rest i
    by_head Greater h same f = absurd cc
