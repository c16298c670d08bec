-- A text has one list of tokens and one unit, or one refusal.
use Rattle.std.proofs.Common.{◌≡◌, ℕ, List, [], ◌∷◌, ◌++◌, Err, inl, inr, refl, sym, ap, ◌∙◌, subst}
use Rattle.dbpl_base.specs.Places.{place_after, start_of}
use Rattle.dbpl_base.specs.Scans.{ScansFrom}
use Rattle.dbpl_base.specs.declared.place.Place.{Place}
use Rattle.dbpl_base.specs.declared.token.Token.{Token}
use Rattle.dbpl_front.specs.Texts.{HasNoTokens, HasNoUnit, IsMisspelt, IsUnparsed, IsUnscanned, SpellsText}
use Rattle.dbpl_grammar.proofs.WholeLaw.{one_unit}
use Rattle.dbpl_grammar.specs.Laws.{HasEnd, IsText}
use Rattle.dbpl_grammar.specs.Reading.{Refused}
use Rattle.dbpl_grammar.specs.Units.{depth_limit, whole_unit}
use Rattle.dbpl_parse_expr.specs.Calls.{error_of}
use Rattle.dbpl_parse_expr.specs.declared.parse_err.ParseErr.{ParseErr}
use Rattle.dbpl_parse_expr.specs.declared.parse_err.ParseErr.TheVariants as syntax
use Rattle.dbpl_scan.proofs.WholeLaw.{Breaks, one_break, scans_only}
use Rattle.dbpl_scan.specs.BreaksOff.{BreaksOffAt, ReadsTo}
use Rattle.dbpl_scan.specs.Comments.{IsGap, Scans}
use Rattle.dbpl_tree.specs.declared.unit.Unit.{Unit as Tree}

-- ---- tokens

-- The text has these tokens in front of its end, and a gap behind them.
record ReadToEnd (start : Place) (text : List ℕ) : Type 0 where
  front : List Token
  there : Place
  rest : List ℕ
  reads : ReadsTo start text front there rest
  gap : IsGap rest

read_to_end : (start : Place) (text : List ℕ) (tokens : List Token) → ScansFrom IsGap start text tokens → ReadToEnd start text
read_to_end start text [] k = absurd k
read_to_end start text (token ∷ []) k = record { front = []; there = start; rest = text; reads = (refl, refl); gap = k.2 }
read_to_end start text (token ∷ next ∷ tokens) k =
    let more = read_to_end (place_after start (k.0 ++ k.1)) k.2 (next ∷ tokens) k.4 in
    record {
      front = token ∷ more.front;
      there = more.there;
      rest = more.rest;
      reads = (k.0, k.1, k.2, k.3, more.reads);
      gap = more.gap;
    }

pub one_scan : (unit : ℕ) (text : List ℕ) (one other : List Token) → Scans unit text one → Scans unit text other → one ≡ other
one_scan unit text one other h k =
    let end = read_to_end (start_of unit) text one h in
    scans_only end.front (start_of unit) text end.there end.rest one end.reads end.gap h
    ∙ sym (scans_only end.front (start_of unit) text end.there end.rest other end.reads end.gap k)

-- the last token is the end of the text
pub scans_end : (start : Place) (text : List ℕ) (tokens : List Token) → ScansFrom IsGap start text tokens → HasEnd tokens
scans_end start text [] k = absurd k
scans_end start text (token ∷ []) k = ([], token, refl, k.0)
scans_end start text (token ∷ next ∷ tokens) k =
    let more = scans_end (place_after start (k.0 ++ k.1)) k.2 (next ∷ tokens) k.4 in
    (token ∷ more.0, more.1, ap (λ (ts : List Token). token ∷ ts) more.2, more.3)

one_place : (unit : ℕ) (text : List ℕ) (here place : Place) → BreaksOffAt unit text here → BreaksOffAt unit text place → place ≡ here
one_place unit text here place b o =
    let breaks : Breaks b.there b.rest here = record {
      gap = b.gap;
      left = b.left;
      split = b.split;
      between = b.between;
      placed = b.placed;
      goes_on = b.goes_on;
      no_blank = b.no_blank;
      no_comment = b.no_comment;
      no_token = b.no_token;
    } in
    one_break unit text b.tokens b.there b.rest here place b.reads breaks o

-- ---- units

pub one_tree : (number : ℕ) (text : List ℕ) (first second : Tree) → SpellsText number text first → SpellsText number text second → first ≡ second
one_tree number text first second h k =
    let tokens = one_scan number text k.tokens h.tokens k.scanned h.scanned in
    let spelled = subst (λ (ts : List Token). IsText ts second) tokens k.spelled in
    one_unit h.tokens first second h.spelled.0 spelled.0

unit_parsed : (number : ℕ) (text : List ℕ) (unit : Tree) (error : ParseErr) → SpellsText number text unit → IsUnparsed number text error → ⊥
unit_parsed number text unit error h u =
    let tokens = one_scan number text h.tokens u.tokens h.scanned u.scanned in
    u.none unit (subst (λ (ts : List Token). IsText ts unit) tokens h.spelled)

pub unit_or_misspelt : (number : ℕ) (text : List ℕ) (unit : Tree) (place : Place) (rule : ℕ) → SpellsText number text unit → IsMisspelt number text place rule → ⊥
unit_or_misspelt number text unit place rule h (inl u) = u.1.none h.tokens h.scanned
unit_or_misspelt number text unit place rule h (inr (inl u)) = unit_parsed number text unit (syntax.Syntax place) h u.1
unit_or_misspelt number text unit place rule h (inr (inr u)) = unit_parsed number text unit (syntax.Deep place) h u.1

one_error : (number : ℕ) (text : List ℕ) (one other : ParseErr) → IsUnparsed number text one → IsUnparsed number text other → one ≡ other
one_error number text one other h k =
    let tokens = one_scan number text h.tokens k.tokens h.scanned k.scanned in
    let same : Err h.refused ≡ Err k.refused = sym h.read ∙ ap (λ (ts : List Token). whole_unit depth_limit ts) tokens ∙ k.read in
    let refused : h.refused ≡ k.refused = cc in
    h.is ∙ ap (λ (r : Refused). error_of r.reason r.rest) refused ∙ sym k.is

syntax_or_deep : (number : ℕ) (text : List ℕ) (place other : Place) → IsUnparsed number text (syntax.Syntax place) → IsUnparsed number text (syntax.Deep other) → ⊥
syntax_or_deep number text place other h k =
    let same : syntax.Syntax place ≡ syntax.Deep other = one_error number text (syntax.Syntax place) (syntax.Deep other) h k in
    cc

pub one_misspelling : (number : ℕ) (text : List ℕ) (place other : Place) (rule another : ℕ) → IsMisspelt number text place rule →
    IsMisspelt number text other another → (place ≡ other) × (rule ≡ another)
one_misspelling number text place other rule another (inl h) (inl k) = (one_place number text other place k.1.breaks h.1.breaks, h.0 ∙ sym k.0)
one_misspelling number text place other rule another (inl h) (inr (inl k)) = absurd (h.1.none k.1.tokens k.1.scanned)
one_misspelling number text place other rule another (inl h) (inr (inr k)) = absurd (h.1.none k.1.tokens k.1.scanned)
one_misspelling number text place other rule another (inr (inl h)) (inl k) = absurd (k.1.none h.1.tokens h.1.scanned)
one_misspelling number text place other rule another (inr (inl h)) (inr (inl k)) =
    let same : syntax.Syntax place ≡ syntax.Syntax other = one_error number text (syntax.Syntax place) (syntax.Syntax other) h.1 k.1 in
    (cc, h.0 ∙ sym k.0)
one_misspelling number text place other rule another (inr (inl h)) (inr (inr k)) = absurd (syntax_or_deep number text place other h.1 k.1)
one_misspelling number text place other rule another (inr (inr h)) (inl k) = absurd (k.1.none h.1.tokens h.1.scanned)
one_misspelling number text place other rule another (inr (inr h)) (inr (inl k)) = absurd (syntax_or_deep number text other place k.1 h.1)
one_misspelling number text place other rule another (inr (inr h)) (inr (inr k)) =
    let same : syntax.Deep place ≡ syntax.Deep other = one_error number text (syntax.Deep place) (syntax.Deep other) h.1 k.1 in
    (cc, h.0 ∙ sym k.0)

-- ---- texts without a unit

pub no_tokens_misspelt : (number : ℕ) (text : List ℕ) (place : Place) (rule : ℕ) → HasNoTokens number text → IsMisspelt number text place rule → (rule ≡ 101) × IsUnscanned number text place
no_tokens_misspelt number text place rule none (inl u) = u
no_tokens_misspelt number text place rule none (inr (inl u)) = absurd (none u.1.tokens u.1.scanned)
no_tokens_misspelt number text place rule none (inr (inr u)) = absurd (none u.1.tokens u.1.scanned)

pub no_unit_unit : (number : ℕ) (text : List ℕ) (unit : Tree) → HasNoUnit number text → SpellsText number text unit → ⊥
no_unit_unit number text unit h s =
    let tokens = one_scan number text s.tokens h.tokens s.scanned h.scanned in
    h.none unit (subst (λ (ts : List Token). IsText ts unit) tokens s.spelled)
