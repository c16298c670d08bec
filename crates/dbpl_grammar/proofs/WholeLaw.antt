-- What is read of a whole text: a unit, the end of the text, and nothing behind it.
use Rattle.std.proofs.Common.{◌≡◌, ◌≢◌, ℕ, zero, suc, ◌≤◌, Bool, true, false, not, ◌&&◌, List, [], ◌∷◌, ◌++◌, length, Result, Ok, Err, refl, sym, ap, ◌∙◌, subst, append_assoc, append-nil, arith, max, true≢false, if◌then◌else◌}
use Rattle.std.proofs.lemmas.Bool.{and_parts}
use Rattle.dbpl_base.specs.Scans.{lexemes_of}
use Rattle.dbpl_base.specs.declared.lexeme.Lexeme.TheVariants.{Finish}
use Rattle.dbpl_base.specs.declared.place.Place.{Place}
use Rattle.dbpl_base.specs.declared.token.Token.{Token}
use Rattle.dbpl_tree.specs.Marks.{Of, Meets}
use Rattle.dbpl_tree.specs.UnitDepths.{unit_depth}
use Rattle.dbpl_tree.specs.Units.{SpellsUnit, spell, text_marks, unit_marks}
use Rattle.dbpl_tree.specs.declared.unit.Unit.{Unit as Module}
use Rattle.dbpl_grammar.specs.Laws.{BegunUnits, HasEnd, IsText, NamesToken, NoneBegins, OneUnit, ReadsUnits, RefusesUnits, SpelledUnits, SpellingBegins, TextBegun}
use Rattle.dbpl_grammar.specs.Reading.{Refused, ◌>>=◌, begins, closed, expect, like, wrong}
use Rattle.dbpl_grammar.specs.Units.{at_end, depth_limit, unit, whole_unit}
use Rattle.dbpl_grammar.proofs.OpenLaw.{err, token_at}
use Rattle.dbpl_grammar.proofs.JoinLaw.{expect_meets}
use Rattle.dbpl_grammar.proofs.Law.{AtPlace, Lexed, Steady, no_end}
use Rattle.dbpl_grammar.proofs.MeetsLaw.{SamePlace, meets_join, meets_split, meets_swap}
use Rattle.dbpl_grammar.proofs.PlacedLaw.{lexed_split}
use Rattle.dbpl_grammar.proofs.Sets.{fixed_is}
use Rattle.dbpl_grammar.proofs.Spellings.{begins_so, completing, lexed_closed, meets_lexemes}
use Rattle.dbpl_grammar.proofs.SteadyLaw.{no_head, same_head}
use Rattle.dbpl_grammar.proofs.TokenLaw.{both_ok, err_isnt, expect_ok, ok_is}
use Rattle.dbpl_grammar.proofs.UnitLaw.{law_unit}

abbrev with_rest : Module → List Token → Result (Module × List Token) Refused
with_rest found rest = Ok (found, rest)

-- the rest of a refusal
err_rest : {A : Type 0} (one other : Refused) → err {A = A} one ≡ Err other → one.rest ≡ other.rest
err_rest {A = A} one other e = ap (λ (r : Result A Refused). rest_of r) e
  where
    rest_of : Result A Refused → List Token
    rest_of (Ok found) = one.rest
    rest_of (Err refused) = refused.rest

none_ends : (tokens : List Token) → begins [] tokens ≡ false
none_ends [] = refl
none_ends (token ∷ tokens) = refl

-- ---- what is spelled is read

text_reads : (limit : ℕ) (tokens : List Token) (found : Module) → unit_depth found ≤ limit → Meets tokens (text_marks found) [] → closed (unit limit) Finish tokens ≡ Ok (found, [])
text_reads limit tokens found fits meets =
    let parts = meets_split (unit_marks found) (Of Finish ∷ []) tokens [] meets in
    let read = (law_unit limit).reads found tokens parts.0 tt fits parts.1 (none_ends parts.0) in
    rw (read, expect_meets Finish parts.0 [] parts.2) refl

pub reads_units : ReadsUnits
unfolding whole_unit
reads_units tokens found h = rw (text_reads depth_limit tokens found h.1 h.0) refl

-- two units are both read, where the depth is great enough
pub one_unit : OneUnit
one_unit tokens one other h k =
    let first = meets_split (unit_marks one) (Of Finish ∷ []) tokens [] h in
    let second = meets_split (unit_marks other) (Of Finish ∷ []) tokens [] k in
    let limit = max (unit_depth one) (unit_depth other) in
    let a = text_reads limit tokens one (omega arith) h in
    let b = text_reads limit tokens other (omega arith) k in
    ap (λ (s : Module × List Token). s.0) (ok_is (one, []) (other, []) (sym a ∙ b))

-- ---- what is read is spelled

at_end_is : (found other : Module) (rest : List Token) → at_end found rest ≡ Ok other → (rest ≡ []) × (found ≡ other)
at_end_is found other [] e = (refl, ok_is found other e)
at_end_is found other (token ∷ rest) e = absurd (err_isnt _ _ e)

pub spelled_units : SpelledUnits
unfolding whole_unit
spelled_units tokens found e =
    let both = both_ok (closed (unit depth_limit) Finish tokens) (λ x. at_end x.0 x.1) found e in
    let inner = both_ok (unit depth_limit tokens) (λ x. expect Finish x.1 >>= λ rest. Ok (x.0, rest)) both.0 both.1 in
    let last = both_ok (expect Finish inner.0.1) (λ rest. Ok (inner.0.0, rest)) both.0 inner.2 in
    let front = (law_unit depth_limit).wrote inner.0.0 tokens inner.0.1 inner.1 in
    let end = at_end_is both.0.0 found both.0.1 both.2 in
    let same = ok_is (inner.0.0, last.0) both.0 last.2 in
    let unit_is : inner.0.0 ≡ found = ap (λ (s : Module × List Token). s.0) same ∙ end.1 in
    let rest_is : last.0 ≡ [] = ap (λ (s : Module × List Token). s.1) same ∙ end.0 in
    let closing = subst (λ (t : List Token). Meets inner.0.1 (Of Finish ∷ []) t) rest_is (expect_ok Finish inner.0.1 last.0 refl last.1) in
    subst (λ (x : Module). IsText tokens x) unit_is (meets_join (unit_marks inner.0.0) (Of Finish ∷ []) tokens inner.0.1 [] front.meets closing, front.fits)

-- ---- refusals

-- where a text is refused: in the unit, at the end of the text, or behind it
data Stops (tokens : List Token) (refused : Refused) : Type 0 where
  in_unit : (other : Refused) → unit depth_limit tokens ≡ Err other → other.rest ≡ refused.rest → Stops tokens refused
  at_no_end : (found : Module) → unit depth_limit tokens ≡ Ok (found, refused.rest) → ((token : Token) (behind : List Token) → refused.rest ≡ token ∷ behind → like Finish token.lexeme ≡ false) → Stops tokens refused
  behind_end : (found : Module) (finish token : Token) (behind : List Token) → unit depth_limit tokens ≡ Ok (found, finish ∷ token ∷ behind) → like Finish finish.lexeme ≡ true → refused.rest ≡ token ∷ behind → Stops tokens refused

stops : (tokens : List Token) (refused : Refused) → whole_unit depth_limit tokens ≡ Err refused → Stops tokens refused
unfolding whole_unit
stops tokens refused e = by_unit (unit depth_limit tokens) refl e
  where
    by_rest : (found : Module) (rest : List Token) → unit depth_limit tokens ≡ Ok (found, rest) → (expect Finish rest >>= λ behind. with_rest found behind) >>= (λ x. at_end x.0 x.1) ≡ Err refused → Stops tokens refused
    by_rest found [] is e =
        let same = err_rest (wrong []) refused e in
        at_no_end found (is ∙ ap (λ (t : List Token). Ok (found, t)) same) (λ token behind more. absurd (no_head token behind (same ∙ more)))
    by_rest found (first ∷ rest) is e = by_like (like Finish first.lexeme) refl rest is e
      where
        by_like : (b : Bool) → like Finish first.lexeme ≡ b → (rest : List Token) → unit depth_limit tokens ≡ Ok (found, first ∷ rest) → ((if b then Ok rest else Err (wrong (first ∷ rest))) >>= λ behind. with_rest found behind) >>= (λ x. at_end x.0 x.1) ≡ Err refused → Stops tokens refused
        by_like true like_it [] is e = absurd (err_isnt _ _ (sym e))
        by_like true like_it (token ∷ behind) is e =
            behind_end found first token behind is like_it (sym (err_rest (wrong (token ∷ behind)) refused e))
        by_like false unlike rest is e =
            let same = err_rest (wrong (first ∷ rest)) refused e in
            at_no_end found (is ∙ ap (λ (t : List Token). Ok (found, t)) same) (λ token behind more. ap (λ (t : Token). like Finish t.lexeme) (sym (same_head first token rest behind (same ∙ more))) ∙ unlike)

    by_unit : (answer : Result (Module × List Token) Refused) → unit depth_limit tokens ≡ answer → (answer >>= λ found. expect Finish found.1 >>= λ behind. with_rest found.0 behind) >>= (λ x. at_end x.0 x.1) ≡ Err refused → Stops tokens refused
    by_unit (Err other) is e = in_unit other is (err_rest other refused e)
    by_unit (Ok found) is e = by_rest found.0 found.1 is e

-- a text that spells a unit is read as that unit up to its end
unit_read : (tokens : List Token) (found : Module) → IsText tokens found → (finish : Token) × (unit depth_limit tokens ≡ Ok (found, finish ∷ [])) × (like Finish finish.lexeme ≡ true)
unit_read tokens found h =
    let parts = meets_split (unit_marks found) (Of Finish ∷ []) tokens [] h.0 in
    let read = (law_unit depth_limit).reads found tokens parts.0 tt h.1 parts.1 (none_ends parts.0) in
    by_rest parts.0 read parts.2
  where
    by_rest : (rest : List Token) → unit depth_limit tokens ≡ Ok (found, rest) → Meets rest (Of Finish ∷ []) [] → (finish : Token) × (unit depth_limit tokens ≡ Ok (found, finish ∷ [])) × (like Finish finish.lexeme ≡ true)
    by_rest [] read m = absurd m
    by_rest (finish ∷ rest) read m =
        (finish, read ∙ ap (λ (t : List Token). Ok (found, finish ∷ t)) m.1, ap (like Finish) m.0)

rest_is : (one other : Module) (rest more : List Token) → with_rest one rest ≡ Ok (other, more) → rest ≡ more
rest_is one other rest more e = ap (λ (s : Module × List Token). s.1) (ok_is (one, rest) (other, more) e)

-- other tokens of the lexemes of a spelling spell a unit too
text_at : (u : Module) (tokens : List Token) → unit_depth u ≤ depth_limit → spell u ≡ lexemes_of tokens → (v : Module) × IsText tokens v
text_at u tokens fits e =
    let parts = lexed_split (unit_marks u) (Of Finish ∷ []) tokens [] (lexed_closed (unit_marks u) Finish tokens e) in
    let p = (law_unit depth_limit).places u tokens parts.0 tt fits parts.1 in
    (p.tree, (meets_join (unit_marks p.tree) (Of Finish ∷ []) tokens parts.0 [] p.meets (last_token parts.0 parts.2), p.fits))
  where
    last_token : (rest : List Token) → Lexed rest (Of Finish ∷ []) [] → Meets rest (Of Finish ∷ []) []
    last_token [] h = absurd h
    last_token (token ∷ rest) h = (h.0, h.1)

-- the first lexemes of a spelling
text_begins : (u : Module) (front others : List Token) → SpellsUnit (front ++ others) u → SpellingBegins (spell u) front
text_begins u front others h =
    let all = meets_lexemes (text_marks u) (front ++ others) [] h in
    begins_so (spell u) front others (all.2 ∙ ap (λ (ts : List Token). lexemes_of ts) (sym (all.1 ∙ append-nil all.0)))

-- what is read of the tokens that the refusal rests on is read of every other text that begins with them
pub refuses_units : RefusesUnits
refuses_units tokens refused e = by_stop (stops tokens refused e)
  where
    by_stop : Stops tokens refused → NoneBegins tokens refused.rest
    by_stop (in_unit other is same) =
        let s = (law_unit depth_limit).steady tokens in
        let t : Steady (unit depth_limit) tokens (Err other) = subst (λ (answer : Result (Module × List Token) Refused). Steady (unit depth_limit) tokens answer) is s in
        record {
          front = t.front;
          split = t.split ∙ ap (λ (rest : List Token). t.front ++ rest) same;
          none = λ token behind u begun fits begins.
              (let rest = completing (spell u) t.front token begins in
              let text = text_at u (t.front ++ token ∷ rest.0) fits rest.1 in
              let read = unit_read (t.front ++ token ∷ rest.0) text.0 text.1 in
              err_isnt _ _ (sym (t.holds token behind rest.0 (same ∙ begun)) ∙ read.1));
        }
    by_stop (at_no_end found is unlike) =
        let s = (law_unit depth_limit).steady tokens in
        let t : Steady (unit depth_limit) tokens (Ok (found, refused.rest)) = subst (λ (answer : Result (Module × List Token) Refused). Steady (unit depth_limit) tokens answer) is s in
        record {
          front = t.front;
          split = t.split;
          none = λ token behind u begun fits begins.
              (let rest = completing (spell u) t.front token begins in
              let text = text_at u (t.front ++ token ∷ rest.0) fits rest.1 in
              let read = unit_read (t.front ++ token ∷ rest.0) text.0 text.1 in
              let same = rest_is found text.0 (token ∷ rest.0) (read.0 ∷ []) (sym (t.holds token behind rest.0 begun) ∙ read.1) in
              true≢false (sym read.2 ∙ ap (λ (t : Token). like Finish t.lexeme) (sym (same_head token read.0 rest.0 [] same)) ∙ unlike token behind begun));
        }
    by_stop (behind_end found finish token behind is like_it same) =
        let s = (law_unit depth_limit).steady tokens in
        let t : Steady (unit depth_limit) tokens (Ok (found, finish ∷ token ∷ behind)) = subst (λ (answer : Result (Module × List Token) Refused). Steady (unit depth_limit) tokens answer) is s in
        record {
          front = t.front ++ finish ∷ [];
          split = t.split ∙ sym (append_assoc t.front (finish ∷ []) (token ∷ behind)) ∙ ap (λ (rest : List Token). (t.front ++ finish ∷ []) ++ rest) (sym same);
          none = λ first later u begun fits begins.
              (let rest = completing (spell u) (t.front ++ finish ∷ []) first begins in
              let there = append_assoc t.front (finish ∷ []) (first ∷ rest.0) in
              let text = text_at u ((t.front ++ finish ∷ []) ++ first ∷ rest.0) fits rest.1 in
              let read = unit_read (t.front ++ finish ∷ first ∷ rest.0) text.0 (subst (λ (all : List Token). IsText all text.0) there text.1) in
              let rests = rest_is found text.0 (finish ∷ first ∷ rest.0) (read.0 ∷ []) (sym (t.holds finish (token ∷ behind) (first ∷ rest.0) refl) ∙ read.1) in
              no_head first rest.0 (sym (ap (λ (all : List Token). Rattle.std.proofs.Common.drop 1 all) rests)));
        }

-- ---- the end of the text is the last token alone

no_end_middle : (front more : List Token) (finish : Token) → finish.lexeme ≡ Finish → no_end (front ++ finish ∷ more) ≡ true → ⊥
no_end_middle [] more finish is e =
    let parts = and_parts (not (like Finish finish.lexeme)) (no_end more) e in
    let unlike : not (like Finish finish.lexeme) ≡ false = ap (λ (l : _). not (like Finish l)) is in
    true≢false (sym parts.0 ∙ unlike)
no_end_middle (token ∷ front) more finish is e =
    let parts = and_parts (not (like Finish token.lexeme)) (no_end (front ++ finish ∷ more)) e in
    no_end_middle front more finish is parts.1

-- tokens free of the end of the text aren't all of a text
pub not_all : (tokens front : List Token) → HasEnd tokens → no_end front ≡ true → tokens ≡ front → ⊥
not_all tokens front end inside same =
    no_end_middle end.0 [] end.1 end.3 (ap (λ (t : List Token). no_end t) (sym end.2 ∙ same) ∙ inside)

pub names_token : NamesToken
names_token tokens refused end e none = by_stop (stops tokens refused e)
  where
    by_stop : Stops tokens refused → ⊥
    by_stop (in_unit other is same) =
        let s = (law_unit depth_limit).steady tokens in
        let t : Steady (unit depth_limit) tokens (Err other) = subst (λ (answer : Result (Module × List Token) Refused). Steady (unit depth_limit) tokens answer) is s in
        not_all tokens t.front end t.inside (t.split ∙ ap (λ (rest : List Token). t.front ++ rest) (same ∙ none) ∙ append-nil t.front)
    by_stop (at_no_end found is unlike) =
        let s = (law_unit depth_limit).steady tokens in
        let t : Steady (unit depth_limit) tokens (Ok (found, refused.rest)) = subst (λ (answer : Result (Module × List Token) Refused). Steady (unit depth_limit) tokens answer) is s in
        not_all tokens t.front end t.inside (t.split ∙ ap (λ (rest : List Token). t.front ++ rest) none ∙ append-nil t.front)
    by_stop (behind_end found finish token behind is like_it same) = no_head token behind (sym none ∙ same)

-- ---- what stands in front of a refusal

first_place : List Token → Place
first_place [] = record { unit = 0; line = 0; col = 0 }
first_place (token ∷ rest) = token.place

at_first : (rest : List Token) → AtPlace (first_place rest) rest
unfolding first_place
at_first [] = tt
at_first (token ∷ rest) = refl

finish_place : (rest : List Token) → SamePlace rest (token_at (first_place rest) Finish ∷ [])
unfolding first_place
finish_place [] = tt
finish_place (token ∷ rest) = refl

-- a unit, and the end of the text behind it
ended : (tokens : List Token) (finish : Token) (u : Module) → finish.lexeme ≡ Finish → Meets tokens (unit_marks u) (finish ∷ []) → SpellsUnit tokens u
ended tokens finish u is meets = meets_join (unit_marks u) (Of Finish ∷ []) tokens (finish ∷ []) [] meets (is, refl)

pub begun_units : BegunUnits
begun_units tokens refused e = by_stop (stops tokens refused e)
  where
    by_stop : Stops tokens refused → TextBegun tokens refused.rest
    by_stop (in_unit other is same) =
        let s = (law_unit depth_limit).steady tokens in
        let t : Steady (unit depth_limit) tokens (Err other) = subst (λ (answer : Result (Module × List Token) Refused). Steady (unit depth_limit) tokens answer) is s in
        let place = first_place other.rest in
        let c = (law_unit depth_limit).opens tokens t.front other place is t.split (at_first other.rest) in
        let finish = token_at place Finish in
        record {
          front = t.front;
          split = t.split ∙ ap (λ (rest : List Token). t.front ++ rest) same;
          unit = c.tree;
          begins = text_begins c.tree t.front (c.tokens ++ finish ∷ []) (ended (t.front ++ (c.tokens ++ finish ∷ [])) finish c.tree refl (c.meets (finish ∷ []) refl));
        }
    by_stop (at_no_end found is unlike) =
        let s = (law_unit depth_limit).steady tokens in
        let t : Steady (unit depth_limit) tokens (Ok (found, refused.rest)) = subst (λ (answer : Result (Module × List Token) Refused). Steady (unit depth_limit) tokens answer) is s in
        let wrote = (law_unit depth_limit).wrote found tokens refused.rest is in
        let finish = token_at (first_place refused.rest) Finish in
        record {
          front = t.front;
          split = t.split;
          unit = found;
          begins = text_begins found t.front (finish ∷ []) (ended (t.front ++ finish ∷ []) finish found refl (meets_swap (unit_marks found) t.front refused.rest (finish ∷ []) (finish_place refused.rest) (subst (λ (all : List Token). Meets all (unit_marks found) refused.rest) t.split wrote.meets)));
        }
    by_stop (behind_end found finish token behind is like_it same) =
        let s = (law_unit depth_limit).steady tokens in
        let t : Steady (unit depth_limit) tokens (Ok (found, finish ∷ token ∷ behind)) = subst (λ (answer : Result (Module × List Token) Refused). Steady (unit depth_limit) tokens answer) is s in
        let wrote = (law_unit depth_limit).wrote found tokens (finish ∷ token ∷ behind) is in
        record {
          front = t.front ++ finish ∷ [];
          split = t.split ∙ sym (append_assoc t.front (finish ∷ []) (token ∷ behind)) ∙ ap (λ (rest : List Token). (t.front ++ finish ∷ []) ++ rest) (sym same);
          unit = found;
          begins = text_begins found (t.front ++ finish ∷ []) ([]) (subst (λ (all : List Token). SpellsUnit all found) (sym (append-nil (t.front ++ finish ∷ []))) (ended (t.front ++ finish ∷ []) finish found (fixed_is Finish finish.lexeme refl like_it) (meets_swap (unit_marks found) t.front (finish ∷ token ∷ behind) (finish ∷ []) refl (subst (λ (all : List Token). Meets all (unit_marks found) (finish ∷ token ∷ behind)) t.split wrote.meets))));
        }
