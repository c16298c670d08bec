-- How a comment closes: byte by byte, and in one way.
use Rattle.std.proofs.Common.{◌≡◌, ◌≢◌, ℕ, zero, suc, ◌≤◌, ◌+◌, List, [], ◌∷◌, ◌++◌, length, drop, refl, sym, ap, ◌∙◌, subst, add-one, append_assoc, arith, eqb-true, true, false}
use Rattle.std.specs.Prelude.{◌==◌}
use Rattle.std.proofs.lemmas.Bool.{true≢false}
use Rattle.dbpl_base.specs.Scans.{OpensComment}
use Rattle.dbpl_scan.specs.Comments.{ClosesComment, IsInside, ends, nests, passes}
use Rattle.dbpl_scan.specs.Fronts.{Closes}

-- ---- the first two bytes

pub opens_bytes : (text : List ℕ) → OpensComment text → text ≡ 40 ∷ (42 ∷ drop 2 text)
opens_bytes text h = let e : text ≡ 40 ∷ (42 ∷ h.0) = h.1 in rw e refl

pub closes_bytes : (text : List ℕ) → ClosesComment text → text ≡ 42 ∷ (41 ∷ drop 2 text)
closes_bytes text h = let e : text ≡ 42 ∷ (41 ∷ h.0) = h.1 in rw e refl

pub opens_length : (text : List ℕ) → OpensComment text → length text ≡ length (drop 2 text) + 2
opens_length text h = let e : length text ≡ length (40 ∷ (42 ∷ drop 2 text)) = ap (λ (t : List ℕ). length t) (opens_bytes text h) in omega (arith, e)

pub closes_length : (text : List ℕ) → ClosesComment text → length text ≡ length (drop 2 text) + 2
closes_length text h = let e : length text ≡ length (42 ∷ (41 ∷ drop 2 text)) = ap (λ (t : List ℕ). length t) (closes_bytes text h) in omega (arith, e)

-- a text inside a comment has two bytes at least
record HasTwo (text : List ℕ) : Type 0 where
  first : ℕ
  second : ℕ
  others : List ℕ
  is : text ≡ first ∷ (second ∷ others)

behind_two : (byte : ℕ) (text : List ℕ) → HasTwo text → HasTwo (byte ∷ text)
behind_two byte text h = record {
  first = byte;
  second = h.first;
  others = h.second ∷ h.others;
  is = ap (λ (rest : List ℕ). byte ∷ rest) h.is;
}

two_bytes : (text : List ℕ) → IsInside text → HasTwo text
two_bytes text (ends _ e) = record { first = 42; second = 41; others = []; is = e }
two_bytes text (nests _ inner outer e h k) = record { first = 40; second = 42; others = inner ++ outer; is = e }
two_bytes text (passes _ byte rest e no_open no_close h) =
    let more = behind_two byte rest (two_bytes rest h) in
    record { first = more.first; second = more.second; others = more.others; is = e ∙ more.is }

-- so what begins it, and not what follows it, opens or closes a comment
opens_itself : (text rest : List ℕ) → HasTwo text → OpensComment (text ++ rest) → OpensComment text
opens_itself text rest h k =
    let e : text ++ rest ≡ 40 ∷ (42 ∷ k.0) = k.1 in
    let f : h.first ∷ (h.second ∷ (h.others ++ rest)) ≡ 40 ∷ (42 ∷ k.0) = sym (ap (λ (t : List ℕ). t ++ rest) h.is) ∙ e in
    let first : h.first ≡ 40 = cc in
    let second : h.second ≡ 42 = cc in
    (h.others, rw (h.is, first, second) refl)

closes_itself : (text rest : List ℕ) → HasTwo text → ClosesComment (text ++ rest) → ClosesComment text
closes_itself text rest h k =
    let e : text ++ rest ≡ 42 ∷ (41 ∷ k.0) = k.1 in
    let f : h.first ∷ (h.second ∷ (h.others ++ rest)) ≡ 42 ∷ (41 ∷ k.0) = sym (ap (λ (t : List ℕ). t ++ rest) h.is) ∙ e in
    let first : h.first ≡ 42 = cc in
    let second : h.second ≡ 41 = cc in
    (h.others, rw (h.is, first, second) refl)

-- ---- what stands behind the first bytes

opened : (text inside rest : List ℕ) → 40 ∷ (42 ∷ text) ≡ inside ++ rest → IsInside inside → (middle : List ℕ) × Closes text middle × Closes middle rest
opened text inside rest split (ends _ e) =
    let f : 40 ∷ (42 ∷ text) ≡ 42 ∷ (41 ∷ rest) = split ∙ ap (λ (t : List ℕ). t ++ rest) e in
    let no : ◌≡◌ {A = ℕ} 40 42 = cc in
    absurd (omega (arith, no))
opened text inside rest split (nests _ inner outer e h k) =
    let f : 40 ∷ (42 ∷ text) ≡ 40 ∷ (42 ∷ ((inner ++ outer) ++ rest)) = split ∙ ap (λ (t : List ℕ). t ++ rest) e in
    let behind : text ≡ (inner ++ outer) ++ rest = cc in
    (outer ++ rest, (inner, behind ∙ append_assoc inner outer rest, h), (outer, refl, k))
opened text inside rest split (passes _ byte others e no_open no_close h) =
    let whole : IsInside inside = passes inside byte others e no_open no_close h in
    absurd (no_open (opens_itself inside rest (two_bytes inside whole) (text, sym split)))

closed : (text inside rest : List ℕ) → 42 ∷ (41 ∷ text) ≡ inside ++ rest → IsInside inside → text ≡ rest
closed text inside rest split (ends _ e) =
    let f : 42 ∷ (41 ∷ text) ≡ 42 ∷ (41 ∷ rest) = split ∙ ap (λ (t : List ℕ). t ++ rest) e in
    cc
closed text inside rest split (nests _ inner outer e h k) =
    let f : 42 ∷ (41 ∷ text) ≡ 40 ∷ (42 ∷ ((inner ++ outer) ++ rest)) = split ∙ ap (λ (t : List ℕ). t ++ rest) e in
    let no : ◌≡◌ {A = ℕ} 42 40 = cc in
    absurd (omega (arith, no))
closed text inside rest split (passes _ byte others e no_open no_close h) =
    let whole : IsInside inside = passes inside byte others e no_open no_close h in
    absurd (no_close (closes_itself inside rest (two_bytes inside whole) (text, sym split)))

passed : (first : ℕ) (text inside rest : List ℕ) → (OpensComment (first ∷ text) → ⊥) → (ClosesComment (first ∷ text) → ⊥) → first ∷ text ≡ inside ++ rest → IsInside inside → Closes text rest
passed first text inside rest no_open no_close split (ends _ e) =
    absurd (no_close (rest, split ∙ ap (λ (t : List ℕ). t ++ rest) e))
passed first text inside rest no_open no_close split (nests _ inner outer e h k) =
    absurd (no_open ((inner ++ outer) ++ rest, split ∙ ap (λ (t : List ℕ). t ++ rest) e))
passed first text inside rest no_open no_close split (passes _ byte others e _ _ h) =
    let f : first ∷ text ≡ byte ∷ (others ++ rest) = split ∙ ap (λ (t : List ℕ). t ++ rest) e in
    let behind : text ≡ others ++ rest = cc in
    (others, behind, h)

-- ---- a comment closes in one place

pub closes_once : (inside rest other : List ℕ) → IsInside inside → Closes (inside ++ rest) other → rest ≡ other
closes_once inside rest other (ends _ e) k =
    let f : 42 ∷ (41 ∷ rest) ≡ k.0 ++ other = sym (ap (λ (t : List ℕ). t ++ rest) e) ∙ k.1 in
    closed rest k.0 other f k.2
closes_once inside rest other (nests _ inner outer e g h) k =
    let f : 40 ∷ (42 ∷ ((inner ++ outer) ++ rest)) ≡ k.0 ++ other = sym (ap (λ (t : List ℕ). t ++ rest) e) ∙ k.1 in
    let later = opened ((inner ++ outer) ++ rest) k.0 other f k.2 in
    let first = closes_once inner (outer ++ rest) later.0 g (subst (λ (t : List ℕ). Closes t later.0) (append_assoc inner outer rest) later.1) in
    closes_once outer rest other h (subst (λ (t : List ℕ). Closes t other) (sym first) later.2)
closes_once inside rest other (passes _ byte others e no_open no_close h) k =
    let whole : IsInside inside = passes inside byte others e no_open no_close h in
    let two = two_bytes inside whole in
    let same : inside ++ rest ≡ byte ∷ (others ++ rest) = ap (λ (t : List ℕ). t ++ rest) e in
    let later = passed byte (others ++ rest) k.0 other (λ opens. no_open (opens_itself inside rest two (subst (λ (t : List ℕ). OpensComment t) (sym same) opens))) (λ closes. no_close (closes_itself inside rest two (subst (λ (t : List ℕ). ClosesComment t) (sym same) closes))) (sym same ∙ k.1) k.2 in
    closes_once others rest other h later

-- ---- comments within comments

-- so many open comments and one more close, in turn, before this rest
abbrev pub CloseAll : ℕ → List ℕ → List ℕ → Type 0
CloseAll zero text rest = Closes text rest
CloseAll (suc depth) text rest = (middle : List ℕ) × Closes text middle × CloseAll depth middle rest

-- `closing` this text is `closing` that one
pub record Same (depth : ℕ) (text : List ℕ) (deep : ℕ) (behind : List ℕ) : Type 0 where
  pub there : (rest : List ℕ) → CloseAll depth text rest → CloseAll deep behind rest
  pub back : (rest : List ℕ) → CloseAll deep behind rest → CloseAll depth text rest

opened_back : (text middle rest : List ℕ) → Closes text middle → Closes middle rest → Closes (40 ∷ (42 ∷ text)) rest
opened_back text middle rest h k =
    let inside = 40 ∷ (42 ∷ (h.0 ++ k.0)) in
    let split : text ≡ (h.0 ++ k.0) ++ rest = h.1 ∙ ap (λ (t : List ℕ). h.0 ++ t) k.1 ∙ sym (append_assoc h.0 k.0 rest) in
    (inside, ap (λ (t : List ℕ). 40 ∷ (42 ∷ t)) split, nests inside h.0 k.0 refl h.2 k.2)

opens_there : (depth : ℕ) (text rest : List ℕ) → CloseAll depth (40 ∷ (42 ∷ text)) rest → CloseAll (suc depth) text rest
opens_there zero text rest h = opened text h.0 rest h.1 h.2
opens_there (suc depth) text rest h =
    let both = opened text h.1.0 h.0 h.1.1 h.1.2 in
    (both.0, both.1, (h.0, both.2, h.2))

opens_back : (depth : ℕ) (text rest : List ℕ) → CloseAll (suc depth) text rest → CloseAll depth (40 ∷ (42 ∷ text)) rest
opens_back zero text rest h = opened_back text h.0 rest h.1 h.2
opens_back (suc depth) text rest h = (h.2.0, opened_back text h.0 h.2.0 h.1 h.2.1, h.2.2)

pub opens_same : (depth : ℕ) (text : List ℕ) → OpensComment text → Same depth text (depth + 1) (drop 2 text)
opens_same depth text h = record {
  there = λ rest k. subst (λ (d : ℕ). CloseAll d (drop 2 text) rest) (sym (add-one depth)) (opens_there depth (drop 2 text) rest (subst (λ (t : List ℕ). CloseAll depth t rest) (opens_bytes text h) k));
  back = λ rest k. subst (λ (t : List ℕ). CloseAll depth t rest) (sym (opens_bytes text h)) (opens_back depth (drop 2 text) rest (subst (λ (d : ℕ). CloseAll d (drop 2 text) rest) (add-one depth) k));
}

closes_there : (depth : ℕ) (text rest : List ℕ) → CloseAll (suc depth) (42 ∷ (41 ∷ text)) rest → CloseAll depth text rest
closes_there depth text rest h =
    subst (λ (t : List ℕ). CloseAll depth t rest) (sym (closed text h.1.0 h.0 h.1.1 h.1.2)) h.2

closed_back : (text : List ℕ) → Closes (42 ∷ (41 ∷ text)) text
closed_back text = (42 ∷ (41 ∷ []), refl, ends (42 ∷ (41 ∷ [])) refl)

closes_back : (depth : ℕ) (text rest : List ℕ) → CloseAll depth text rest → CloseAll (suc depth) (42 ∷ (41 ∷ text)) rest
closes_back depth text rest h = (text, closed_back text, h)

pub closes_same : (deep depth : ℕ) (text : List ℕ) → deep ≡ suc depth → ClosesComment text → Same deep text depth (drop 2 text)
closes_same deep depth text e h = record {
  there = λ rest k. closes_there depth (drop 2 text) rest (subst (λ (t : List ℕ). CloseAll (suc depth) t rest) (closes_bytes text h) (subst (λ (d : ℕ). CloseAll d text rest) e k));
  back = λ rest k. subst (λ (d : ℕ). CloseAll d text rest) (sym e) (subst (λ (t : List ℕ). CloseAll (suc depth) t rest) (sym (closes_bytes text h)) (closes_back depth (drop 2 text) rest k));
}

passes_there : (depth byte : ℕ) (text rest : List ℕ) → (OpensComment (byte ∷ text) → ⊥) → (ClosesComment (byte ∷ text) → ⊥) → CloseAll depth (byte ∷ text) rest → CloseAll depth text rest
passes_there zero byte text rest no_open no_close h = passed byte text h.0 rest no_open no_close h.1 h.2
passes_there (suc depth) byte text rest no_open no_close h =
    (h.0, passed byte text h.1.0 h.0 no_open no_close h.1.1 h.1.2, h.2)

opens_more : (text rest : List ℕ) → OpensComment text → OpensComment (text ++ rest)
opens_more text rest h = (h.0 ++ rest, ap (λ (t : List ℕ). t ++ rest) h.1)

closes_more : (text rest : List ℕ) → ClosesComment text → ClosesComment (text ++ rest)
closes_more text rest h = (h.0 ++ rest, ap (λ (t : List ℕ). t ++ rest) h.1)

passed_back : (byte : ℕ) (text rest : List ℕ) → (OpensComment (byte ∷ text) → ⊥) → (ClosesComment (byte ∷ text) → ⊥) → Closes text rest → Closes (byte ∷ text) rest
passed_back byte text rest no_open no_close h =
    let inside = byte ∷ h.0 in
    let split : byte ∷ text ≡ inside ++ rest = ap (λ (t : List ℕ). byte ∷ t) h.1 in
    (inside, split, passes inside byte h.0 refl (λ opens. no_open (subst (λ (t : List ℕ). OpensComment t) (sym split) (opens_more inside rest opens))) (λ closes. no_close (subst (λ (t : List ℕ). ClosesComment t) (sym split) (closes_more inside rest closes))) h.2)

passes_back : (depth byte : ℕ) (text rest : List ℕ) → (OpensComment (byte ∷ text) → ⊥) → (ClosesComment (byte ∷ text) → ⊥) → CloseAll depth text rest → CloseAll depth (byte ∷ text) rest
passes_back zero byte text rest no_open no_close h = passed_back byte text rest no_open no_close h
passes_back (suc depth) byte text rest no_open no_close h =
    (h.0, passed_back byte text h.0 no_open no_close h.1, h.2)

pub passes_same : (depth : ℕ) (text : List ℕ) → 1 ≤ length text → (OpensComment text → ⊥) → (ClosesComment text → ⊥) → Same depth text depth (drop 1 text)
passes_same depth [] some no_open no_close = absurd (omega (arith, some))
passes_same depth (byte ∷ text) some no_open no_close = record {
  there = λ rest h. passes_there depth byte text rest no_open no_close h;
  back = λ rest h. passes_back depth byte text rest no_open no_close h;
}

-- ---- the ends of the walk

-- the last closing leads to what stands behind it
closes_last : (text : List ℕ) → ClosesComment text → Closes text (drop 2 text)
closes_last text h =
    subst (λ (t : List ℕ). Closes t (drop 2 text)) (sym (closes_bytes text h)) (closed_back (drop 2 text))

no_inside : (inside rest : List ℕ) → [] ≡ inside ++ rest → IsInside inside → ⊥
no_inside inside rest split h =
    let two = two_bytes inside h in
    let e : [] ≡ two.first ∷ (two.second ∷ (two.others ++ rest)) = split ∙ ap (λ (t : List ℕ). t ++ rest) two.is in
    cc

-- no comment closes at the end of the text
none_at_end : (depth : ℕ) (rest : List ℕ) → CloseAll depth [] rest → ⊥
none_at_end zero rest h = no_inside h.0 rest h.1 h.2
none_at_end (suc depth) rest h = no_inside h.1.0 h.0 h.1.1 h.1.2

pub never_closes : (depth : ℕ) (text left rest : List ℕ) → Same 0 text depth left → left ≡ [] → Closes text rest → ⊥
never_closes depth text left rest same empty h =
    none_at_end depth rest (subst (λ (t : List ℕ). CloseAll depth t rest) empty (same.there rest h))

pub same_more : (text left behind : List ℕ) (depth deep : ℕ) → Same 0 text depth left → Same depth left deep behind → Same 0 text deep behind
same_more text left behind depth deep one two = record {
  there = λ rest h. two.there rest (one.there rest h);
  back = λ rest h. one.back rest (two.back rest h);
}

-- the first comment closes where the last open one does
pub closes_here : (depth : ℕ) (text left : List ℕ) → Same 0 text depth left → depth ≡ 0 → ClosesComment left → Closes text (drop 2 left)
closes_here depth text left same first h =
    same.back (drop 2 left) (subst (λ (d : ℕ). CloseAll d left (drop 2 left)) (sym first) (closes_last left h))

-- ---- what a test of the length says

pub empty_if : (xs : List ℕ) → (length xs == 0) ≡ true → xs ≡ []
empty_if [] e = refl
empty_if (x ∷ xs) e = absurd (let none = eqb-true (length (x ∷ xs)) 0 e in omega arith)

pub filled_if : (xs : List ℕ) → (length xs == 0) ≡ false → 1 ≤ length xs
filled_if [] e = absurd (true≢false e)
filled_if (x ∷ xs) e = omega arith

pub drop_length : (text : List ℕ) → 1 ≤ length text → length text ≡ length (drop 1 text) + 1
drop_length [] some = absurd (omega (arith, some))
drop_length (byte ∷ text) some = omega arith

pub filled_nonempty : (xs : List ℕ) → (length xs == 0) ≡ false → xs ≢ []
filled_nonempty xs e none = true≢false (sym (ap (λ (ys : List ℕ). length ys == 0) none) ∙ e)
