-- A gap ends in one place: where neither a blank nor a whole comment stands.
use Rattle.std.proofs.Common.{◌≡◌, ℕ, true, List, [], ◌∷◌, ◌++◌, refl, sym, ap, ◌∙◌, subst, append_assoc, append-nil, drop, codes}
use Rattle.std.proofs.lemmas.Bool.{false≢true}
use Rattle.std.proofs.lemmas.List.{append_cancel_right}
use Rattle.std.specs.Prelude.{IsTrue}
use Rattle.dbpl_scan.specs.BreaksOff.{BlankStands, CommentStands}
use Rattle.dbpl_base.specs.Scans.{OpensComment}
use Rattle.dbpl_scan.specs.Comments.{IsComment, IsGap, blank, comment, none}
use Rattle.dbpl_base.specs.Words.{is_blank}
use Rattle.dbpl_scan.specs.Fronts.{Closes, GapStands}
use Rattle.dbpl_scan.proofs.CommentLaw.{closes_once, opens_bytes}

-- ---- whole comments

-- one whole comment stands at the front of a text
comment_once : (whole rest other behind : List ℕ) → IsComment whole → IsComment other → whole ++ rest ≡ other ++ behind → rest ≡ behind
comment_once whole rest other behind h k e =
    let one : whole ++ rest ≡ 40 ∷ (42 ∷ (h.0 ++ rest)) = ap (λ (t : List ℕ). t ++ rest) h.1 in
    let two : other ++ behind ≡ 40 ∷ (42 ∷ (k.0 ++ behind)) = ap (λ (t : List ℕ). t ++ behind) k.1 in
    let same : 40 ∷ (42 ∷ (h.0 ++ rest)) ≡ 40 ∷ (42 ∷ (k.0 ++ behind)) = sym one ∙ e ∙ two in
    let inside : h.0 ++ rest ≡ k.0 ++ behind = cc in
    closes_once h.0 rest behind h.2 (k.0, inside, k.2)

-- a comment begins with no blank
comment_no_blank : (whole rest others : List ℕ) (byte : ℕ) → IsComment whole → whole ++ rest ≡ byte ∷ others → IsTrue (is_blank byte) → ⊥
comment_no_blank whole rest others byte h e is =
    let one : 40 ∷ (42 ∷ (h.0 ++ rest)) ≡ byte ∷ others = sym (ap (λ (t : List ℕ). t ++ rest) h.1) ∙ e in
    let same : 40 ≡ byte = cc in
    false≢true (subst (λ (b : ℕ). is_blank b ≡ true) (sym same) is)

-- ---- gaps

blank_gap : (gap rest others : List ℕ) (byte : ℕ) → gap ≡ byte ∷ others → gap ++ rest ≡ byte ∷ (others ++ rest)
blank_gap gap rest others byte e = ap (λ (t : List ℕ). t ++ rest) e

comment_gap : (gap rest others whole : List ℕ) → gap ≡ whole ++ others → gap ++ rest ≡ whole ++ (others ++ rest)
comment_gap gap rest others whole e = ap (λ (t : List ℕ). t ++ rest) e ∙ append_assoc whole others rest

-- a gap before what begins with neither is empty
pub no_gap : (gap rest text : List ℕ) → IsGap gap → gap ++ rest ≡ text → (BlankStands text → ⊥) → (CommentStands text → ⊥) → rest ≡ text
no_gap gap rest text (none _ e) split no_blank no_comment =
    sym (ap (λ (t : List ℕ). t ++ rest) e) ∙ split
no_gap gap rest text (blank _ byte others e is h) split no_blank no_comment =
    absurd (no_blank (byte, others ++ rest, sym split ∙ blank_gap gap rest others byte e, is))
no_gap gap rest text (comment _ whole others e is h) split no_blank no_comment =
    absurd (no_comment (whole, others ++ rest, sym split ∙ comment_gap gap rest others whole e, is))

pub gap_ends_once : (gap rest other behind : List ℕ) → IsGap gap → IsGap other → gap ++ rest ≡ other ++ behind → (BlankStands rest → ⊥) → (CommentStands rest → ⊥) → (BlankStands behind → ⊥) → (CommentStands behind → ⊥) → rest ≡ behind
gap_ends_once gap rest other behind (none _ e) k split no_blank no_comment clear free =
    sym (no_gap other behind rest k (sym split ∙ ap (λ (t : List ℕ). t ++ rest) e) no_blank no_comment)
gap_ends_once gap rest other behind (blank _ byte others e is h) (none _ f) split no_blank no_comment clear free =
    let front : byte ∷ (others ++ rest) ≡ behind = sym (blank_gap gap rest others byte e) ∙ split ∙ ap (λ (t : List ℕ). t ++ behind) f in
    absurd (clear (byte, others ++ rest, sym front, is))
gap_ends_once gap rest other behind (blank _ byte others e is h) (blank _ first more f _ k) split no_blank no_comment clear free =
    let front : byte ∷ (others ++ rest) ≡ first ∷ (more ++ behind) = sym (blank_gap gap rest others byte e) ∙ split ∙ blank_gap other behind more first f in
    let later : others ++ rest ≡ more ++ behind = cc in
    gap_ends_once others rest more behind h k later no_blank no_comment clear free
gap_ends_once gap rest other behind (blank _ byte others e is h) (comment _ whole more f whole_is k) split no_blank no_comment clear free =
    let front : whole ++ (more ++ behind) ≡ byte ∷ (others ++ rest) = sym (comment_gap other behind more whole f) ∙ sym split ∙ blank_gap gap rest others byte e in
    absurd (comment_no_blank whole (more ++ behind) (others ++ rest) byte whole_is front is)
gap_ends_once gap rest other behind (comment _ whole others e whole_is h) (none _ f) split no_blank no_comment clear free =
    let front : whole ++ (others ++ rest) ≡ behind = sym (comment_gap gap rest others whole e) ∙ split ∙ ap (λ (t : List ℕ). t ++ behind) f in
    absurd (free (whole, others ++ rest, sym front, whole_is))
gap_ends_once gap rest other behind (comment _ whole others e whole_is h) (blank _ first more f is k) split no_blank no_comment clear free =
    let front : whole ++ (others ++ rest) ≡ first ∷ (more ++ behind) = sym (comment_gap gap rest others whole e) ∙ split ∙ blank_gap other behind more first f in
    absurd (comment_no_blank whole (others ++ rest) (more ++ behind) first whole_is front is)
gap_ends_once gap rest other behind (comment _ whole others e whole_is h) (comment _ again more f again_is k) split no_blank no_comment clear free =
    let front : whole ++ (others ++ rest) ≡ again ++ (more ++ behind) = sym (comment_gap gap rest others whole e) ∙ split ∙ comment_gap other behind more again f in
    let later = comment_once whole (others ++ rest) again (more ++ behind) whole_is again_is front in
    gap_ends_once others rest more behind h k later no_blank no_comment clear free

-- THE law of gaps: one stands before what begins with neither
pub one_gap : (gap rest other behind : List ℕ) → IsGap gap → IsGap other → gap ++ rest ≡ other ++ behind → (BlankStands rest → ⊥) → (CommentStands rest → ⊥) → (BlankStands behind → ⊥) → (CommentStands behind → ⊥) → (gap ≡ other) × (rest ≡ behind)
one_gap gap rest other behind h k split no_blank no_comment clear free =
    let same = gap_ends_once gap rest other behind h k split no_blank no_comment clear free in
    (append_cancel_right gap other rest (split ∙ ap (λ (t : List ℕ). other ++ t) (sym same)), same)

-- ---- gaps grow at their end

gap_append : (gap more : List ℕ) → IsGap gap → IsGap more → IsGap (gap ++ more)
gap_append gap more (none _ e) k = subst (λ (t : List ℕ). IsGap (t ++ more)) (sym e) k
gap_append gap more (blank _ byte others e is h) k =
    blank (gap ++ more) byte (others ++ more) (blank_gap gap more others byte e) is (gap_append others more h k)
gap_append gap more (comment _ whole others e is h) k =
    comment (gap ++ more) whole (others ++ more) (comment_gap gap more others whole e) is (gap_append others more h k)

-- the text is a gap up to this rest
abbrev pub GapTo : List ℕ → List ℕ → Type 0
GapTo text rest = (gap : List ℕ) × (text ≡ gap ++ rest) × IsGap gap

gap_to_more : (text rest behind piece : List ℕ) → GapTo text rest → IsGap piece → rest ≡ piece ++ behind → GapTo text behind
gap_to_more text rest behind piece h is split = (
  h.0 ++ piece,
  h.1 ∙ ap (λ (t : List ℕ). h.0 ++ t) split ∙ sym (append_assoc h.0 piece behind),
  gap_append h.0 piece h.2 is,
)

pub gap_nothing : (text : List ℕ) → GapTo text text
gap_nothing text = ([], refl, none [] refl)

pub gap_blank : (text rest : List ℕ) → GapTo text rest → BlankStands rest → GapTo text (drop 1 rest)
gap_blank text rest h b =
    let split : rest ≡ b.0 ∷ drop 1 rest = (let e = b.2 in rw e refl) in
    gap_to_more text rest (drop 1 rest) (b.0 ∷ []) h (blank (b.0 ∷ []) b.0 [] refl b.3 (none [] refl)) split

-- the opening and what closes it are a whole comment
whole_comment : (text behind : List ℕ) → OpensComment text → Closes (drop 2 text) behind → (whole : List ℕ) × (text ≡ whole ++ behind) × IsComment whole
whole_comment text behind h k =
    (codes "(*" ++ k.0, opens_bytes text h ∙ ap (λ (t : List ℕ). 40 ∷ (42 ∷ t)) k.1, (k.0, refl, k.2))

pub gap_comment : (text rest behind : List ℕ) → GapTo text rest → OpensComment rest → Closes (drop 2 rest) behind → GapTo text behind
gap_comment text rest behind h o k =
    let c = whole_comment rest behind o k in
    gap_to_more text rest behind c.0 h (comment c.0 c.0 [] (sym (append-nil c.0)) c.2 (none [] refl)) c.1

-- ---- where a gap ends

pub comment_opens : (text : List ℕ) → CommentStands text → OpensComment text
comment_opens text h = (h.3.0 ++ h.1, h.2 ∙ ap (λ (t : List ℕ). t ++ h.1) h.3.1)

-- a comment that never closes ends the gap too
pub gap_stands_open : (text rest : List ℕ) → GapTo text rest → (BlankStands rest → ⊥) → OpensComment rest → ((behind : List ℕ) → Closes (drop 2 rest) behind → ⊥) → GapStands text rest
gap_stands_open text rest h no_blank o never = record {
  gap = h.0;
  split = h.1;
  between = h.2;
  no_blank = no_blank;
  no_comment = λ c. never c.1 (c.3.0, inside_behind rest c o, c.3.2);
}
  where
    inside_behind : (rest : List ℕ) (c : CommentStands rest) → OpensComment rest → drop 2 rest ≡ c.3.0 ++ c.1
    inside_behind rest c o =
        let one : rest ≡ 40 ∷ (42 ∷ (c.3.0 ++ c.1)) = c.2 ∙ ap (λ (t : List ℕ). t ++ c.1) c.3.1 in
        let two : rest ≡ 40 ∷ (42 ∷ drop 2 rest) = opens_bytes rest o in
        let same : 40 ∷ (42 ∷ drop 2 rest) ≡ 40 ∷ (42 ∷ (c.3.0 ++ c.1)) = sym two ∙ one in
        cc
