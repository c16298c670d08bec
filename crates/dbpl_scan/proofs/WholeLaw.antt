-- Gaps and tokens stand in turn in one way: what is read so far is how every list of the text's tokens begins.
use Rattle.std.proofs.Common.{◌≡◌, ◌≢◌, ℕ, List, [], ◌∷◌, ◌++◌, refl, sym, ap, ap₂, ◌∙◌, subst, append-nil}
use Rattle.std.proofs.lemmas.Bool.{true≢false}
use Rattle.dbpl_scan.specs.BreaksOff.{BlankStands, BreaksOffAt, CommentStands, ReadsTo, TokenStands}
use Rattle.dbpl_base.specs.Places.{place_after, start_of}
use Rattle.dbpl_base.specs.Scans.{BeginsWith, OpensComment, ScansFrom}
use Rattle.dbpl_scan.specs.Comments.{IsGap}
use Rattle.dbpl_base.specs.Words.{is_blank}
use Rattle.dbpl_base.specs.declared.lexeme.Lexeme.{Lexeme}
use Rattle.dbpl_base.specs.declared.lexeme.Lexeme.TheVariants.{Finish}
use Rattle.dbpl_base.specs.declared.place.Place.{Place}
use Rattle.dbpl_base.specs.declared.token.Token.{Token}
use Rattle.dbpl_scan.specs.Fronts.{BeginsBy, GapStands, StandsFirst}
use Rattle.dbpl_scan.proofs.GapLaw.{comment_opens, one_gap}
use Rattle.dbpl_scan.proofs.OneLexeme.{one_token}
use Rattle.dbpl_scan.proofs.PlaceLaw.{place_after-append}
use Rattle.dbpl_scan.proofs.Spellings.{begins, first_byte, first_no_blank, nothing_stands}

-- ---- one token behind one gap

begins_no_blank : (lexeme : Lexeme) (word rest : List ℕ) → BeginsBy (begins lexeme) word → BlankStands (word ++ rest) → ⊥
begins_no_blank lexeme [] rest h b = h
begins_no_blank lexeme (first ∷ others) rest h b =
    let same : first ∷ (others ++ rest) ≡ b.0 ∷ b.1 = b.2 in
    let is : first ≡ b.0 = cc in
    true≢false (sym b.3 ∙ ap (λ (byte : ℕ). is_blank byte) (sym is) ∙ first_no_blank lexeme first h)

token_no_blank : (place : Place) (text gap word rest : List ℕ) (token : Token) → BeginsWith IsGap place text gap word rest token → BlankStands (word ++ rest) → ⊥
token_no_blank place text gap word rest token b =
    begins_no_blank token.lexeme word rest (first_byte token.lexeme word b.spelt)

token_no_comment : (place : Place) (text gap word rest : List ℕ) (token : Token) → BeginsWith IsGap place text gap word rest token → CommentStands (word ++ rest) → ⊥
token_no_comment place text gap word rest token b c = b.no_comment (comment_opens (word ++ rest) c)

-- what stands behind any gap of the text, free of blanks and comments, is what the token begins
one_front : (place : Place) (text gap word rest : List ℕ) (token : Token) (other left : List ℕ) → BeginsWith IsGap place text gap word rest token → text ≡ other ++ left → IsGap other → (BlankStands left → ⊥) → (CommentStands left → ⊥) → (gap ≡ other) × (word ++ rest ≡ left)
one_front place text gap word rest token other left b split is no_blank no_comment =
    one_gap gap (word ++ rest) other left b.between is (sym b.split ∙ split) (token_no_blank place text gap word rest token b) (token_no_comment place text gap word rest token b) no_blank no_comment

record SameFront (gap word rest : List ℕ) (token : Token) (gap' word' rest' : List ℕ) (token' : Token) : Type 0 where
  gaps : gap ≡ gap'
  words : word ≡ word'
  rests : rest ≡ rest'
  tokens : token ≡ token'

abbrev first_stands : (place : Place) (text gap word rest front : List ℕ) (token : Token) → BeginsWith IsGap place text gap word rest token → front ≡ word ++ rest → StandsFirst front token.lexeme rest
first_stands place text gap word rest front token b split = record {
  word = word;
  split = split;
  spelt = b.spelt;
  longest = b.longest;
  no_comment = b.no_comment;
}

same_front : (place : Place) (text gap word rest gap' word' rest' : List ℕ) (token token' : Token) → BeginsWith IsGap place text gap word rest token → BeginsWith IsGap place text gap' word' rest' token' → SameFront gap word rest token gap' word' rest' token'
same_front place text gap word rest gap' word' rest' token token' b d =
    let fronts = one_front place text gap word rest token gap' (word' ++ rest') b d.split d.between (token_no_blank place text gap' word' rest' token' d) (token_no_comment place text gap' word' rest' token' d) in
    let one = first_stands place text gap word rest (word ++ rest) token b refl in
    let two = first_stands place text gap' word' rest' (word ++ rest) token' d fronts.1 in
    let same = one_token (word ++ rest) token.lexeme token'.lexeme rest rest' one two in
    let places : token.place ≡ token'.place = b.placed ∙ ap (λ (g : List ℕ). place_after place g) fronts.0 ∙ sym d.placed in
    record {
      gaps = fronts.0;
      words = same.1;
      rests = same.2;
      tokens = ap₂ (λ (l : Lexeme) (p : Place). record { lexeme = l; place = p }) same.0 places;
    }

-- no token stands in a text that is a gap
gap_no_token : (place : Place) (text gap word rest : List ℕ) (token : Token) → IsGap text → BeginsWith IsGap place text gap word rest token → ⊥
gap_no_token place text gap word rest token is b =
    let fronts = one_front place text gap word rest token text [] b (sym (append-nil text)) is (λ h. let e : [] ≡ h.0 ∷ h.1 = h.2 in cc) (λ h. let e : [] ≡ 40 ∷ (42 ∷ (h.3.0 ++ h.1)) = h.2 ∙ ap (λ (t : List ℕ). t ++ h.1) h.3.1 in cc) in
    nothing_stands [] refl (token.lexeme, word, rest, sym fronts.1, b.spelt, λ opens. let e : [] ≡ 40 ∷ (42 ∷ opens.0) = opens.1 in cc)

-- ---- what is read so far

reads_more : (tokens : List Token) (start : Place) (text : List ℕ) (there : Place) (rest gap word behind : List ℕ) (token : Token) → ReadsTo start text tokens there rest → BeginsWith IsGap there rest gap word behind token → ReadsTo start text (tokens ++ token ∷ []) (place_after there (gap ++ word)) behind
reads_more [] start text there rest gap word behind token h b =
    let here : BeginsWith IsGap start text gap word behind token = subst (λ (p : Place). BeginsWith IsGap p text gap word behind token) (sym h.0) (subst (λ (t : List ℕ). BeginsWith IsGap there t gap word behind token) (sym h.1) b) in
    (gap, word, behind, here, (ap (λ (p : Place). place_after p (gap ++ word)) h.0, refl))
reads_more (first ∷ tokens) start text there rest gap word behind token h b =
    (h.0, h.1, h.2, h.3, reads_more tokens (place_after start (h.0 ++ h.1)) h.2 there rest gap word behind token h.4 b)

begins_from : (there : Place) (rest front : List ℕ) (lexeme : Lexeme) (behind : List ℕ) (g : GapStands rest front) (s : StandsFirst front lexeme behind) → BeginsWith IsGap there rest g.gap s.word behind (record { lexeme = lexeme; place = place_after there g.gap })
begins_from there rest front lexeme behind g s = record {
  split = g.split ∙ ap (λ (t : List ℕ). g.gap ++ t) s.split;
  between = g.between;
  spelt = s.spelt;
  longest = s.longest;
  no_comment = s.no_comment;
  placed = refl;
}

-- a gap and a token more
pub reads_token : (tokens : List Token) (start : Place) (text : List ℕ) (there : Place) (rest front : List ℕ) (lexeme : Lexeme) (behind : List ℕ) → ReadsTo start text tokens there rest → (g : GapStands rest front) → (s : StandsFirst front lexeme behind) → ReadsTo start text (tokens ++ record { lexeme = lexeme; place = place_after there g.gap } ∷ []) (place_after (place_after there g.gap) s.word) behind
reads_token tokens start text there rest front lexeme behind h g s =
    subst (λ (p : Place). ReadsTo start text (tokens ++ record { lexeme = lexeme; place = place_after there g.gap } ∷ []) p behind) (place_after-append there g.gap s.word) (reads_more tokens start text there rest g.gap s.word behind (record { lexeme = lexeme; place = place_after there g.gap }) h (begins_from there rest front lexeme behind g s))

-- ---- at the end of the text

scans_first : (start : Place) (text gap word behind : List ℕ) (token : Token) (tokens : List Token) → BeginsWith IsGap start text gap word behind token → ScansFrom IsGap (place_after start (gap ++ word)) behind tokens → ScansFrom IsGap start text (token ∷ tokens)
scans_first start text gap word behind token [] b h = absurd h
scans_first start text gap word behind token (next ∷ tokens) b h = (gap, word, behind, b, h)

abbrev pub finish_at : Place → Token
finish_at place = record { lexeme = Finish; place = place }

-- where a gap alone is left, the tokens so far and Finish are the text's
pub scans_end : (tokens : List Token) (start : Place) (text : List ℕ) (there : Place) (rest : List ℕ) → ReadsTo start text tokens there rest → IsGap rest → ScansFrom IsGap start text (tokens ++ finish_at (place_after there rest) ∷ [])
scans_end [] start text there rest h is =
    (refl, ap₂ (λ (p : Place) (t : List ℕ). place_after p t) (sym h.0) (sym h.1), subst (λ (t : List ℕ). IsGap t) (sym h.1) is)
scans_end (token ∷ tokens) start text there rest h is =
    scans_first start text h.0 h.1 h.2 token (tokens ++ finish_at (place_after there rest) ∷ []) h.3 (scans_end tokens (place_after start (h.0 ++ h.1)) h.2 there rest h.4 is)

-- every list of the text's tokens begins with the tokens so far
pub scans_rest : (tokens : List Token) (start : Place) (text : List ℕ) (there : Place) (rest : List ℕ) (others : List Token) → ReadsTo start text tokens there rest → ScansFrom IsGap start text others → (more : List Token) × (others ≡ tokens ++ more) × ScansFrom IsGap there rest more
scans_rest [] start text there rest others h k =
    (others, refl, subst (λ (t : List ℕ). ScansFrom IsGap there t others) h.1 (subst (λ (p : Place). ScansFrom IsGap p text others) h.0 k))
scans_rest (token ∷ tokens) start text there rest [] h k = absurd k
scans_rest (token ∷ tokens) start text there rest (other ∷ []) h k =
    absurd (gap_no_token start text h.0 h.1 h.2 token k.2 h.3)
scans_rest (token ∷ tokens) start text there rest (other ∷ next ∷ others) h k =
    let same = same_front start text h.0 h.1 h.2 k.0 k.1 k.2 token other h.3 k.3 in
    let place : place_after start (k.0 ++ k.1) ≡ place_after start (h.0 ++ h.1) = ap₂ (λ (g w : List ℕ). place_after start (g ++ w)) (sym same.gaps) (sym same.words) in
    let behind = subst (λ (t : List ℕ). ScansFrom IsGap (place_after start (h.0 ++ h.1)) t (next ∷ others)) (sym same.rests) (subst (λ (p : Place). ScansFrom IsGap p k.2 (next ∷ others)) place k.4) in
    let later = scans_rest tokens (place_after start (h.0 ++ h.1)) h.2 there rest (next ∷ others) h.4 behind in
    (later.0, ap₂ (λ (t : Token) (ts : List Token). t ∷ ts) (sym same.tokens) later.1, later.2)

-- a gap has the token Finish alone
finish_only : (there : Place) (rest : List ℕ) (more : List Token) → IsGap rest → ScansFrom IsGap there rest more → more ≡ finish_at (place_after there rest) ∷ []
finish_only there rest [] is h = absurd h
finish_only there rest (token ∷ []) is h =
    ap₂ (λ (l : Lexeme) (p : Place). record { lexeme = l; place = p } ∷ []) h.0 h.1
finish_only there rest (token ∷ next ∷ more) is h =
    absurd (gap_no_token there rest h.0 h.1 h.2 token is h.3)

-- THE law of tokens: a text has one list of them
pub scans_only : (tokens : List Token) (start : Place) (text : List ℕ) (there : Place) (rest : List ℕ) (others : List Token) → ReadsTo start text tokens there rest → IsGap rest → ScansFrom IsGap start text others → others ≡ tokens ++ finish_at (place_after there rest) ∷ []
scans_only tokens start text there rest others h is k =
    let found = scans_rest tokens start text there rest others h k in
    found.1 ∙ ap (λ (more : List Token). tokens ++ more) (finish_only there rest found.0 is found.2)

-- ---- where a text breaks off

-- behind a gap the rest goes on with neither a blank nor a comment nor a token
pub record Breaks (there : Place) (rest : List ℕ) (place : Place) : Type 0 where
  pub gap : List ℕ
  pub left : List ℕ
  pub split : rest ≡ gap ++ left
  pub between : IsGap gap
  pub placed : place ≡ place_after there gap
  pub goes_on : left ≢ []
  pub no_blank : BlankStands left → ⊥
  pub no_comment : CommentStands left → ⊥
  pub no_token : TokenStands left → ⊥

pub breaks_off : (unit : ℕ) (text : List ℕ) (tokens : List Token) (there : Place) (rest : List ℕ) (place : Place) → ReadsTo (start_of unit) text tokens there rest → Breaks there rest place → BreaksOffAt unit text place
breaks_off unit text tokens there rest place h b = record {
  tokens = tokens;
  there = there;
  rest = rest;
  reads = h;
  gap = b.gap;
  left = b.left;
  split = b.split;
  between = b.between;
  placed = b.placed;
  goes_on = b.goes_on;
  no_blank = b.no_blank;
  no_comment = b.no_comment;
  no_token = b.no_token;
}

breaks_from_off : (unit : ℕ) (text : List ℕ) (place : Place) (o : BreaksOffAt unit text place) → Breaks o.there o.rest place
breaks_from_off unit text place o = record {
  gap = o.gap;
  left = o.left;
  split = o.split;
  between = o.between;
  placed = o.placed;
  goes_on = o.goes_on;
  no_blank = o.no_blank;
  no_comment = o.no_comment;
  no_token = o.no_token;
}

-- no token stands behind the gap before the break
break_no_token : (place : Place) (text gap word rest : List ℕ) (token : Token) (at : Place) → Breaks place text at → BeginsWith IsGap place text gap word rest token → ⊥
break_no_token place text gap word rest token at o b =
    let fronts = one_front place text gap word rest token o.gap o.left b o.split o.between o.no_blank o.no_comment in
    let opens = subst (λ (t : List ℕ). OpensComment t → ⊥) fronts.1 b.no_comment in
    o.no_token (token.lexeme, word, rest, sym fronts.1, b.spelt, opens)

-- and a gap doesn't break off
gap_no_break : (place : Place) (text : List ℕ) (at : Place) → IsGap text → Breaks place text at → ⊥
gap_no_break place text at is o =
    let same = one_gap o.gap o.left text [] o.between is (sym o.split ∙ sym (append-nil text)) o.no_blank o.no_comment (λ h. let e : [] ≡ h.0 ∷ h.1 = h.2 in cc) (λ h. let e : [] ≡ 40 ∷ (42 ∷ (h.3.0 ++ h.1)) = h.2 ∙ ap (λ (t : List ℕ). t ++ h.1) h.3.1 in cc) in
    o.goes_on same.1

-- a text that breaks off has no tokens
pub breaks_no_scan : (tokens : List Token) (start : Place) (text : List ℕ) (there : Place) (rest : List ℕ) (place : Place) (others : List Token) → ReadsTo start text tokens there rest → Breaks there rest place → ScansFrom IsGap start text others → ⊥
breaks_no_scan tokens start text there rest place others h o k =
    let found = scans_rest tokens start text there rest others h k in
    none there rest place found.0 o found.2
  where
    none : (there : Place) (rest : List ℕ) (place : Place) (more : List Token) → Breaks there rest place → ScansFrom IsGap there rest more → ⊥
    none there rest place [] o k = absurd k
    none there rest place (token ∷ []) o k = gap_no_break there rest place k.2 o
    none there rest place (token ∷ next ∷ more) o k = break_no_token there rest k.0 k.1 k.2 token place o k.3

-- where a text breaks off, it begins with the tokens so far
breaks_rest : (tokens : List Token) (start : Place) (text : List ℕ) (there : Place) (rest : List ℕ) (others : List Token) (at : Place) (left : List ℕ) (place : Place) → ReadsTo start text tokens there rest → ReadsTo start text others at left → Breaks at left place → (more : List Token) × ReadsTo there rest more at left
breaks_rest [] start text there rest others at left place h k o =
    (others, subst (λ (t : List ℕ). ReadsTo there t others at left) h.1 (subst (λ (p : Place). ReadsTo p text others at left) h.0 k))
breaks_rest (token ∷ tokens) start text there rest [] at left place h k o =
    let here : Breaks start text place = subst (λ (p : Place). Breaks p text place) (sym k.0) (subst (λ (t : List ℕ). Breaks at t place) (sym k.1) o) in
    absurd (break_no_token start text h.0 h.1 h.2 token place here h.3)
breaks_rest (token ∷ tokens) start text there rest (other ∷ others) at left place h k o =
    let same = same_front start text h.0 h.1 h.2 k.0 k.1 k.2 token other h.3 k.3 in
    let moved : place_after start (k.0 ++ k.1) ≡ place_after start (h.0 ++ h.1) = ap₂ (λ (g w : List ℕ). place_after start (g ++ w)) (sym same.gaps) (sym same.words) in
    let behind = subst (λ (t : List ℕ). ReadsTo (place_after start (h.0 ++ h.1)) t others at left) (sym same.rests) (subst (λ (p : Place). ReadsTo p k.2 others at left) moved k.4) in
    breaks_rest tokens (place_after start (h.0 ++ h.1)) h.2 there rest others at left place h.4 behind o

-- a text that is read to its end doesn't break off
pub reads_no_break : (unit : ℕ) (text : List ℕ) (tokens : List Token) (there : Place) (rest : List ℕ) (place : Place) → ReadsTo (start_of unit) text tokens there rest → IsGap rest → BreaksOffAt unit text place → ⊥
reads_no_break unit text tokens there rest place h is o =
    let found = breaks_rest tokens (start_of unit) text there rest o.tokens o.there o.rest place h o.reads (breaks_from_off unit text place o) in
    none there rest place found.0 o.there o.rest is (breaks_from_off unit text place o) found.1
  where
    none : (there : Place) (rest : List ℕ) (place : Place) (more : List Token) (at : Place) (left : List ℕ) → IsGap rest → Breaks at left place → ReadsTo there rest more at left → ⊥
    none there rest place [] at left is o k = gap_no_break at left place (subst (λ (t : List ℕ). IsGap t) k.1 is) o
    none there rest place (token ∷ more) at left is o k = gap_no_token there rest k.0 k.1 k.2 token is k.3

-- THE law of breaks: a text breaks off at one place
pub one_break : (unit : ℕ) (text : List ℕ) (tokens : List Token) (there : Place) (rest : List ℕ) (here place : Place) → ReadsTo (start_of unit) text tokens there rest → Breaks there rest here → BreaksOffAt unit text place → place ≡ here
one_break unit text tokens there rest here place h b o =
    let found = breaks_rest tokens (start_of unit) text there rest o.tokens o.there o.rest place h o.reads (breaks_from_off unit text place o) in
    one there rest here place found.0 o.there o.rest b (breaks_from_off unit text place o) found.1
  where
    one : (there : Place) (rest : List ℕ) (here place : Place) (more : List Token) (at : Place) (left : List ℕ) → Breaks there rest here → Breaks at left place → ReadsTo there rest more at left → place ≡ here
    one there rest here place [] at left b o k =
        let same = one_gap o.gap o.left b.gap b.left o.between b.between (sym o.split ∙ sym k.1 ∙ b.split) o.no_blank o.no_comment b.no_blank b.no_comment in
        o.placed ∙ ap₂ (λ (p : Place) (g : List ℕ). place_after p g) (sym k.0) same.0 ∙ sym b.placed
    one there rest here place (token ∷ more) at left b o k =
        absurd (break_no_token there rest k.0 k.1 k.2 token here b k.3)

-- where no token stands behind a gap, the text breaks off
pub breaks_here : (there : Place) (rest front : List ℕ) (g : GapStands rest front) → front ≢ [] → (TokenStands front → ⊥) → Breaks there rest (place_after there g.gap)
breaks_here there rest front g goes_on no_token = record {
  gap = g.gap;
  left = front;
  split = g.split;
  between = g.between;
  placed = refl;
  goes_on = goes_on;
  no_blank = g.no_blank;
  no_comment = g.no_comment;
  no_token = no_token;
}
