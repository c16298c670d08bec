-- The law of phrases that stand again and again, and of a word that may stand or not.
use Rattle.std.proofs.Common.{◌≡◌, ℕ, zero, suc, ◌≤◌, ◌<◌, Bool, true, false, ◌||◌, List, [], ◌∷◌, ◌++◌, length, flat_map, Ok, refl, sym, ap, ap₂, ◌∙◌, subst, zero-le, le_refl, le_trans, not-suc-le-zero, append_assoc, append-nil, arith, true≢false, if◌then◌else◌, Err}
use Rattle.dbpl_base.specs.declared.lexeme.Lexeme.{Lexeme}
use Rattle.dbpl_base.specs.declared.token.Token.{Token}
use Rattle.dbpl_tree.specs.Depths.{greatest}
use Rattle.dbpl_tree.specs.Marks.{Mark, Meets, where_marks}
use Rattle.dbpl_grammar.specs.Reading.{Parser, Refused, wrong, ◌>>=◌, after, among, begins, either, flag, like, many, many_from}
use Rattle.dbpl_grammar.proofs.PlacedLaw.{places_many}
use Rattle.dbpl_grammar.proofs.OpenLaw.{complete_nothing, err, ok, ok_isnt, opens_many, opens_never}
use Rattle.dbpl_grammar.proofs.ChoiceLaw.{begins_with}
use Rattle.dbpl_grammar.proofs.JoinLaw.{ends_before, may_follow}
use Rattle.dbpl_grammar.proofs.Law.{BeginsBy, Ends, Law, Lexed, Placed, Wrote, by_nothing, by_token}
use Rattle.dbpl_grammar.proofs.ManyLaw.{Goes, steady_many}
use Rattle.dbpl_grammar.proofs.MeetsLaw.{meets_join, meets_shorter, meets_split}
use Rattle.dbpl_grammar.proofs.Numbers.{max_both, max_left, max_right}
use Rattle.dbpl_grammar.proofs.Sets.{among_append, is_fixed, is_word, like_self, word_fixed, word_no_end}
use Rattle.dbpl_grammar.proofs.SteadyLaw.{steady_after, steady_either, steady_pure}
use Rattle.dbpl_grammar.proofs.TokenLaw.{both_ok, err_isnt, expect_ok, ok_is}

-- each of them is one of those that the law asks for
abbrev pub EachIs : {A : Type 0} → (A → Type 0) → List A → Type 0
EachIs Is [] = Unit {0}
EachIs Is (x ∷ xs) = Is x × EachIs Is xs

-- a phrase that isn't empty takes a token
pub takes_one : (first : List Lexeme) (tokens rest : List Token) → BeginsBy first false tokens rest → length rest < length tokens
takes_one first tokens rest (by_token token behind split is shorter) =
    let same : length tokens ≡ suc (length behind) = ap (λ (t : List Token). length t) split in
    omega arith
takes_one first tokens rest (by_nothing none split) = absurd (true≢false (sym none))

ends_first : (first more : List Lexeme) (rest : List Token) → Ends (first ++ more) rest → Ends first rest
ends_first first more [] e = refl
ends_first first more (token ∷ rest) e =
    by_among (among first token.lexeme) (among more token.lexeme) (sym (among_append first more token.lexeme) ∙ e)
  where
    by_among : (a b : Bool) → (a || b) ≡ false → a ≡ false
    by_among true b e = absurd (true≢false e)
    by_among false b e = refl

module _ {A : Type 0} {w : A → List Mark} {n : A → ℕ} {limit : ℕ} {first more : List Lexeme} {Is : A → Type 0} {read : Parser A} (law : Law w n limit first more false Is read) (follows : may_follow more first true (first ++ more) ≡ true) where
  many_begins : (found : List A) (tokens rest : List Token) → EachIs Is found → greatest n found ≤ limit → Meets tokens (flat_map w found) rest → BeginsBy first true tokens rest
  many_begins [] tokens rest is fits meets = by_nothing refl meets
  many_begins (x ∷ xs) tokens rest is fits meets =
      let parts = meets_split (w x) (flat_map w xs) tokens rest meets in
      more_than_one (law.begins_by x tokens parts.0 is.0 (max_left (n x) (greatest n xs) limit fits) parts.1) (meets_shorter (flat_map w xs) parts.0 rest parts.2)
    where
      more_than_one : {middle : List Token} → BeginsBy first false tokens middle → length rest ≤ length middle → BeginsBy first true tokens rest
      more_than_one (by_token token behind split is shorter) le = by_token token behind split is (le_trans le shorter)
      more_than_one (by_nothing none split) le = absurd (true≢false (sym none))

  many_reads_from : (found : List A) (turns : ℕ) (before : List A) (tokens rest : List Token) → EachIs Is found → greatest n found ≤ limit → Meets tokens (flat_map w found) rest → Ends (first ++ more) rest → length tokens < turns → many_from first read turns before tokens ≡ Ok (before ++ found, rest)
  many_reads_from found zero before tokens rest is fits meets ends enough = absurd (not-suc-le-zero enough)
  many_reads_from [] (suc turns) before tokens rest is fits meets ends enough =
      rw (ap (begins first) meets ∙ ends_first first more rest ends) (ap₂ (λ (xs : List A) (t : List Token). Ok (xs, t)) (sym (append-nil before)) meets)
  many_reads_from (x ∷ xs) (suc turns) before tokens rest is fits meets ends enough =
      let parts = meets_split (w x) (flat_map w xs) tokens rest meets in
      let begun = law.begins_by x tokens parts.0 is.0 (max_left (n x) (greatest n xs) limit fits) parts.1 in
      let next = many_begins xs parts.0 rest is.1 (max_right (n x) (greatest n xs) limit fits) parts.2 in
      let stops = ends_before more first (first ++ more) true parts.0 rest follows next ends in
      let one = law.reads x tokens parts.0 is.0 (max_left (n x) (greatest n xs) limit fits) parts.1 stops in
      let shorter = takes_one first tokens parts.0 begun in
      let all = many_reads_from xs turns (before ++ x ∷ []) parts.0 rest is.1 (max_right (n x) (greatest n xs) limit fits) parts.2 ends (omega arith) in
      rw (begins_with first tokens parts.0 begun, one) (all ∙ ap (λ (ys : List A). Ok (ys, rest)) (append_assoc before (x ∷ []) xs))

  goes : Goes read
  goes found tokens rest e =
      let one = law.wrote found tokens rest e in
      takes_one first tokens rest (law.begins_by found tokens rest one.is one.fits one.meets)

  many_wrote_from : (turns : ℕ) (before all : List A) (tokens rest : List Token) → many_from first read turns before tokens ≡ Ok (all, rest) → (found : List A) × (before ++ found ≡ all) × Wrote (flat_map w) (greatest n) limit (EachIs Is) found tokens rest
  many_wrote_from zero before all tokens rest e = absurd (err_isnt _ _ e)
  many_wrote_from (suc turns) before all tokens rest e =
      by_begins (λ before tokens e. many_wrote_from turns before all tokens rest e) (begins first tokens) e
    where
      by_begins : ((before : List A) (tokens : List Token) → many_from first read turns before tokens ≡ Ok (all, rest) → (found : List A) × (before ++ found ≡ all) × Wrote (flat_map w) (greatest n) limit (EachIs Is) found tokens rest) → (b : Bool) → (if b then (read tokens >>= λ next. many_from first read turns (before ++ next.0 ∷ []) next.1) else Ok (before, tokens)) ≡ Ok (all, rest) → (found : List A) × (before ++ found ≡ all) × Wrote (flat_map w) (greatest n) limit (EachIs Is) found tokens rest
      by_begins again true e =
          let one = both_ok (read tokens) (λ next. many_from first read turns (before ++ next.0 ∷ []) next.1) (all, rest) e in
          let front = law.wrote one.0.0 tokens one.0.1 one.1 in
          let later = again (before ++ one.0.0 ∷ []) one.0.1 one.2 in (
            one.0.0 ∷ later.0,
            sym (append_assoc before (one.0.0 ∷ []) later.0) ∙ later.1,
            record {
              is = (front.is, later.2.is);
              fits = max_both (n one.0.0) (greatest n later.0) limit front.fits later.2.fits;
              meets = meets_join (w one.0.0) (flat_map w later.0) tokens one.0.1 rest front.meets later.2.meets;
            },
          )
      by_begins again false e =
          let same = ok_is (before, tokens) (all, rest) e in
          ([], append-nil before ∙ ap (λ (s : List A × List Token). s.0) same, record { is = tt; fits = zero-le; meets = ap (λ (s : List A × List Token). s.1) same })

  many_wrote : (found : List A) (tokens rest : List Token) → many first read tokens ≡ Ok (found, rest) → Wrote (flat_map w) (greatest n) limit (EachIs Is) found tokens rest
  many_wrote found tokens rest e =
      let all = many_wrote_from (suc (length tokens)) [] found tokens rest e in
      subst (λ (xs : List A). Wrote (flat_map w) (greatest n) limit (EachIs Is) xs tokens rest) {x = all.0} all.1 all.2

  pub law_many : Law (flat_map w) (greatest n) limit first (first ++ more) true (EachIs Is) (many first read)
  law_many = record {
    begins_by = many_begins;
    reads = λ found tokens rest is fits meets ends. many_reads_from found (suc (length tokens)) [] tokens rest is fits meets ends (le_refl (suc (length tokens)));
    wrote = many_wrote;
    steady = steady_many first read law.steady goes;
    some = λ place. complete_nothing (flat_map w) (EachIs Is) place [] tt refl;
    opens = opens_many w Is (EachIs Is) tt (λ x xs is all. (is, all)) first read law.steady goes (λ x tokens rest e. ((law.wrote x tokens rest e).is, (law.wrote x tokens rest e).meets)) law.opens;
    places = places_many w n limit Is (EachIs Is) tt (λ x xs is all. (is, all)) (λ x xs is. is) law.places;
  }

-- ---- a word that may stand or not

abbrev pub flag_marks : Lexeme → Bool → List Mark
flag_marks lexeme there = where_marks there lexeme

flag_begins : (lexeme : Lexeme) (there : Bool) (tokens rest : List Token) → Meets tokens (where_marks there lexeme) rest → BeginsBy (lexeme ∷ []) true tokens rest
flag_begins lexeme false tokens rest m = by_nothing refl m
flag_begins lexeme true [] rest m = absurd m
flag_begins lexeme true (token ∷ tokens) rest m =
    by_token token tokens refl (ap (among (lexeme ∷ [])) m.0 ∙ ap (λ (b : Bool). b || false) (like_self lexeme)) (meets_shorter [] tokens rest m.1)

flag_reads : (lexeme : Lexeme) (there : Bool) (tokens rest : List Token) → Meets tokens (where_marks there lexeme) rest → Ends (lexeme ∷ []) rest → flag lexeme tokens ≡ Ok (there, rest)
flag_reads lexeme false tokens rest m ends =
    rw (ap (begins (lexeme ∷ [])) m ∙ ends) (ap (λ (t : List Token). Ok (false, t)) m)
flag_reads lexeme true [] rest m ends = absurd m
flag_reads lexeme true (token ∷ tokens) rest m ends =
    let is : like lexeme token.lexeme ≡ true = ap (like lexeme) m.0 ∙ like_self lexeme in
    rw (is) (ap (λ (t : List Token). Ok (true, t)) m.1)

flag_wrote : (limit : ℕ) (lexeme : Lexeme) (there : Bool) (tokens rest : List Token) → is_fixed lexeme ≡ true → flag lexeme tokens ≡ Ok (there, rest) → Wrote (flag_marks lexeme) (λ (b : Bool). 0) limit (λ (b : Bool). Unit {0}) there tokens rest
flag_wrote limit lexeme there tokens rest fixed e = by_begins (begins (lexeme ∷ []) tokens) e
  where
    by_begins : (b : Bool) → (if b then after lexeme (λ (rest : List Token). ok (true, rest)) tokens else Ok (false, tokens)) ≡ Ok (there, rest) → Wrote (flag_marks lexeme) (λ (b : Bool). 0) limit (λ (b : Bool). Unit {0}) there tokens rest
    by_begins true e =
        let one = both_ok (Rattle.dbpl_grammar.specs.Reading.expect lexeme tokens) (λ rest. ok (true, rest)) (there, rest) e in
        let same = ok_is (true, one.0) (there, rest) one.2 in
        subst (λ (s : Bool × List Token). Wrote (flag_marks lexeme) (λ (b : Bool). 0) limit (λ (b : Bool). Unit {0}) s.0 tokens s.1) {x = (true, one.0)} same (record { is = tt; fits = zero-le; meets = expect_ok lexeme tokens one.0 fixed one.1 })
    by_begins false e =
        let same = ok_is (false, tokens) (there, rest) e in
        subst (λ (s : Bool × List Token). Wrote (flag_marks lexeme) (λ (b : Bool). 0) limit (λ (b : Bool). Unit {0}) s.0 tokens s.1) {x = (false, tokens)} same (record { is = tt; fits = zero-le; meets = refl })

flag_places : (limit : ℕ) (lexeme : Lexeme) (there : Bool) (tokens rest : List Token) → Lexed tokens (where_marks there lexeme) rest → Placed (flag_marks lexeme) (λ (b : Bool). 0) limit (λ (b : Bool). Unit {0}) there tokens rest
flag_places limit lexeme false tokens rest h = record { tree = false; is = tt; fits = zero-le; meets = h; same = refl }
flag_places limit lexeme true [] rest h = absurd h
flag_places limit lexeme true (token ∷ tokens) rest h = record { tree = true; is = tt; fits = zero-le; meets = (h.0, h.1); same = refl }

-- a word that may stand is never refused
flag_reads_on : (lexeme : Lexeme) (tokens : List Token) (refused : Refused) → flag lexeme tokens ≡ Err refused → ⊥
flag_reads_on lexeme [] refused e = ok_isnt {A = Bool × List Token} (false, []) refused e
flag_reads_on lexeme (token ∷ tokens) refused e = by_like (like lexeme token.lexeme) e
  where
    by_like : (b : Bool) → (if b || false then ((if b then Ok tokens else err {A = List Token} (wrong (token ∷ tokens))) >>= λ rest. ok {A = Bool × List Token} (true, rest)) else Ok (false, token ∷ tokens)) ≡ Err refused → ⊥
    by_like true e = ok_isnt {A = Bool × List Token} (true, tokens) refused e
    by_like false e = ok_isnt {A = Bool × List Token} (false, token ∷ tokens) refused e

pub law_flag : (limit : ℕ) (lexeme : Lexeme) → is_word lexeme ≡ true → Law (flag_marks lexeme) (λ (b : Bool). 0) limit (lexeme ∷ []) (lexeme ∷ []) true (λ (b : Bool). Unit {0}) (flag lexeme)
law_flag limit lexeme fixed = record {
  begins_by = λ there tokens rest is fits meets. flag_begins lexeme there tokens rest meets;
  reads = λ there tokens rest is fits meets ends. flag_reads lexeme there tokens rest meets ends;
  wrote = λ there tokens rest e. flag_wrote limit lexeme there tokens rest (word_fixed lexeme fixed) e;
  steady = steady_either (lexeme ∷ []) (after lexeme (λ (rest : List Token). ok (true, rest))) (λ (rest : List Token). ok (false, rest)) (steady_after lexeme (λ (rest : List Token). ok (true, rest)) (word_no_end lexeme fixed) (λ rest. steady_pure true rest)) (λ rest. steady_pure false rest);
  some = λ place. complete_nothing (flag_marks lexeme) (λ (b : Bool). Unit {0}) place false tt refl;
  opens = opens_never (flag_marks lexeme) (λ (b : Bool). Unit {0}) (flag lexeme) (flag_reads_on lexeme);
  places = λ there tokens rest is fits h. flag_places limit lexeme there tokens rest h;
}
