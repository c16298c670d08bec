-- One turn of the scanner: a gap, and then a token, the end of the text, or the place where it breaks off.
use Rattle.std.proofs.Common.{◌≡◌, ◌≢◌, ℕ, ◌+◌, ◌-◌, ◌≤◌, ◌<◌, List, [], ◌∷◌, ◌++◌, length, take, refl, sym, ap, ◌∙◌, subst, arith, append-nil, length-append}
use Rattle.std.proofs.Math.Seq.{take-append_seam}
use Rattle.dbpl_scan.specs.BreaksOff.{BreaksOffAt, ReadsTo, TokenStands}
use Rattle.dbpl_base.specs.Places.{place_after, start_of}
use Rattle.dbpl_scan.specs.Comments.{IsGap, Scans}
use Rattle.dbpl_base.specs.declared.lexeme.Lexeme.{Lexeme}
use Rattle.dbpl_base.specs.declared.place.Place.{Place}
use Rattle.dbpl_base.specs.declared.token.Token.{Token}
use Rattle.dbpl_scan.specs.Fronts.{GapStands, StandsFirst}
use Rattle.dbpl_scan.proofs.PlaceLaw.{IsNear, place_near}
use Rattle.dbpl_scan.proofs.Spellings.{word_some}
use Rattle.dbpl_scan.proofs.WholeLaw.{Breaks, breaks_here, finish_at, reads_no_break, reads_token, scans_end, scans_only}

-- the front of a text up to its rest
up_to_is : (text front rest up : List ℕ) → text ≡ front ++ rest → up ≡ take (length text - length rest) text → up ≡ front
up_to_is text front rest up split is =
    let count : length (front ++ rest) - length rest ≡ length front = (let sum = length-append front rest in omega (arith, sum)) in
    is ∙ ap (λ (t : List ℕ). take (length t - length rest) t) split ∙ ap (λ (n : ℕ). take n (front ++ rest)) count ∙ take-append_seam front rest

-- what is read so far, and how far it can be
pub record Turn (unit : ℕ) (text : List ℕ) (tokens : List Token) (place : Place) (rest : List ℕ) : Type 0 where
  pub reads : ReadsTo (start_of unit) text tokens place rest
  pub line : place.line + length rest ≤ 1 + length text
  pub col : place.col + length rest ≤ 1 + length text
  pub counted : 1 ≤ place.col

-- the place behind the gap
pub here_is : (there here : Place) (rest front up : List ℕ) (g : GapStands rest front) → up ≡ take (length rest - length front) rest → here ≡ place_after there up → here ≡ place_after there g.gap
here_is there here rest front up g up_is is =
    is ∙ ap (λ (bytes : List ℕ). place_after there bytes) (up_to_is rest g.gap front up g.split up_is)

record Bounds (text rest : List ℕ) (place : Place) : Type 0 where
  line : place.line + length rest ≤ 1 + length text
  col : place.col + length rest ≤ 1 + length text
  counted : 1 ≤ place.col

-- bytes that are passed keep the place within the text
moved : (text rest front behind : List ℕ) (there here : Place) → Bounds text rest there → rest ≡ front ++ behind → here ≡ place_after there front → Bounds text behind here
moved text rest front behind there here b split is =
    let near : IsNear there here (length front) = subst (λ (p : Place). IsNear there p (length front)) (sym is) (place_near there front b.counted) in
    let sum : length rest ≡ length front + length behind = ap (λ (t : List ℕ). length t) split ∙ length-append front behind in
    let line : here.line + length behind ≤ 1 + length text = (let a = near.line in let c = b.line in omega (arith, sum, a, c)) in
    let col : here.col + length behind ≤ 1 + length text = (let a = near.col in let c = b.col in omega (arith, sum, a, c)) in
    record { line = line; col = col; counted = near.counted }

turn_bounds : (unit : ℕ) (text : List ℕ) (tokens : List Token) (place : Place) (rest : List ℕ) → Turn unit text tokens place rest → Bounds text rest place
turn_bounds unit text tokens place rest t = record { line = t.line; col = t.col; counted = t.counted }

-- ---- a token

-- how far the token can be
pub record TokenFits (text up : List ℕ) (here : Place) : Type 0 where
  pub line : here.line + length up ≤ 1 + length text
  pub col : here.col + length up ≤ 1 + length text
  pub counted : 1 ≤ here.col

pub token_fits : (unit : ℕ) (text : List ℕ) (tokens : List Token) (there here : Place) (rest front behind up : List ℕ) (lexeme : Lexeme) → Turn unit text tokens there rest → (g : GapStands rest front) → here ≡ place_after there g.gap → StandsFirst front lexeme behind → up ≡ take (length front - length behind) front → TokenFits text up here
token_fits unit text tokens there here rest front behind up lexeme t g here_at s up_is =
    let b = moved text rest g.gap front there here (turn_bounds unit text tokens there rest t) g.split here_at in
    let word : length up ≡ length s.word = ap (λ (w : List ℕ). length w) (up_to_is front s.word behind up s.split up_is) in
    let sum : length front ≡ length s.word + length behind = ap (λ (w : List ℕ). length w) s.split ∙ length-append s.word behind in
    let line : here.line + length up ≤ 1 + length text = (let a = b.line in omega (arith, word, sum, a)) in
    let col : here.col + length up ≤ 1 + length text = (let a = b.col in omega (arith, word, sum, a)) in
    record { line = line; col = col; counted = b.counted }

pub token_turn : (unit : ℕ) (text : List ℕ) (tokens more : List Token) (there here place : Place) (rest front behind up : List ℕ) (lexeme : Lexeme) → Turn unit text tokens there rest → (g : GapStands rest front) → here ≡ place_after there g.gap → StandsFirst front lexeme behind → up ≡ take (length front - length behind) front → place ≡ place_after here up → more ≡ tokens ++ record { lexeme = lexeme; place = here } ∷ [] → Turn unit text more place behind
token_turn unit text tokens more there here place rest front behind up lexeme t g here_at s up_is place_is more_are =
    let b = moved text rest g.gap front there here (turn_bounds unit text tokens there rest t) g.split here_at in
    let word = up_to_is front s.word behind up s.split up_is in
    let place_at : place ≡ place_after here s.word = place_is ∙ ap (λ (w : List ℕ). place_after here w) word in
    let d = moved text front s.word behind here place b s.split place_at in
    let reads = reads_token tokens (start_of unit) text there rest front lexeme behind t.reads g s in
    let placed : place ≡ place_after (place_after there g.gap) s.word = place_at ∙ ap (λ (p : Place). place_after p s.word) here_at in
    let listed : more ≡ tokens ++ record { lexeme = lexeme; place = place_after there g.gap } ∷ [] = more_are ∙ ap (λ (p : Place). tokens ++ record { lexeme = lexeme; place = p } ∷ []) here_at in
    record {
      reads = subst (λ (ts : List Token). ReadsTo (start_of unit) text ts place behind) (sym listed) (subst (λ (p : Place). ReadsTo (start_of unit) text (tokens ++ record { lexeme = lexeme; place = place_after there g.gap } ∷ []) p behind) (sym placed) reads);
      line = d.line;
      col = d.col;
      counted = d.counted;
    }

some_length : (word : List ℕ) → word ≢ [] → 0 < length word
some_length [] h = absurd (h refl)
some_length (first ∷ others) h = omega arith

pub token_shorter : (rest front behind : List ℕ) (lexeme : Lexeme) → GapStands rest front → StandsFirst front lexeme behind → length behind < length rest
token_shorter rest front behind lexeme g s =
    let some = some_length s.word (word_some lexeme s.word s.spelt) in
    let one : length rest ≡ length g.gap + length front = ap (λ (t : List ℕ). length t) g.split ∙ length-append g.gap front in
    let two : length front ≡ length s.word + length behind = ap (λ (t : List ℕ). length t) s.split ∙ length-append s.word behind in
    omega (arith, some, one, two)

-- ---- the end

gap_is_rest : (rest front : List ℕ) (g : GapStands rest front) → front ≡ [] → rest ≡ g.gap
gap_is_rest rest front g empty = g.split ∙ ap (λ (t : List ℕ). g.gap ++ t) empty ∙ append-nil g.gap

rest_is_gap : (rest front : List ℕ) → GapStands rest front → front ≡ [] → IsGap rest
rest_is_gap rest front g empty = subst (λ (t : List ℕ). IsGap t) (sym (gap_is_rest rest front g empty)) g.between

finish_listed : (tokens more : List Token) (there here : Place) (rest front : List ℕ) (g : GapStands rest front) → front ≡ [] → here ≡ place_after there g.gap → more ≡ tokens ++ finish_at here ∷ [] → more ≡ tokens ++ finish_at (place_after there rest) ∷ []
finish_listed tokens more there here rest front g empty here_at more_are =
    more_are ∙ ap (λ (p : Place). tokens ++ finish_at p ∷ []) (here_at ∙ ap (λ (t : List ℕ). place_after there t) (sym (gap_is_rest rest front g empty)))

pub finish_found : (unit : ℕ) (text : List ℕ) (tokens more : List Token) (there here : Place) (rest front : List ℕ) → ReadsTo (start_of unit) text tokens there rest → (g : GapStands rest front) → front ≡ [] → here ≡ place_after there g.gap → more ≡ tokens ++ finish_at here ∷ [] → Scans unit text more
finish_found unit text tokens more there here rest front h g empty here_at more_are =
    subst (λ (ts : List Token). Scans unit text ts) (sym (finish_listed tokens more there here rest front g empty here_at more_are)) (scans_end tokens (start_of unit) text there rest h (rest_is_gap rest front g empty))

pub finish_one : (unit : ℕ) (text : List ℕ) (tokens more : List Token) (there here : Place) (rest front : List ℕ) → ReadsTo (start_of unit) text tokens there rest → (g : GapStands rest front) → front ≡ [] → here ≡ place_after there g.gap → more ≡ tokens ++ finish_at here ∷ [] → (other : List Token) → Scans unit text other → other ≡ more
finish_one unit text tokens more there here rest front h g empty here_at more_are other k =
    scans_only tokens (start_of unit) text there rest other h (rest_is_gap rest front g empty) k ∙ sym (finish_listed tokens more there here rest front g empty here_at more_are)

pub finish_no_break : (unit : ℕ) (text : List ℕ) (tokens : List Token) (there : Place) (rest front : List ℕ) → ReadsTo (start_of unit) text tokens there rest → GapStands rest front → front ≡ [] → (place : Place) → BreaksOffAt unit text place → ⊥
finish_no_break unit text tokens there rest front h g empty place o =
    reads_no_break unit text tokens there rest place h (rest_is_gap rest front g empty) o

-- ---- where the text breaks off

pub break_at : (there here : Place) (rest front : List ℕ) (g : GapStands rest front) → here ≡ place_after there g.gap → front ≢ [] → (TokenStands front → ⊥) → Breaks there rest here
break_at there here rest front g here_at goes_on no_token =
    subst (λ (p : Place). Breaks there rest p) (sym here_at) (breaks_here there rest front g goes_on no_token)
