-- Tokens that are spelt as a module that prints lines spell a tree that is that module.
use Rattle.std.proofs.Common.{◌≡◌, ◌≢◌, ℕ, suc, ◌≤◌, false, max, List, [], ◌∷◌, ◌++◌, Option, Some, None, refl, sym, ap, ◌∙◌, subst, append-nil, append_assoc, arith}
use Rattle.dbpl_base.specs.Scans.{lexemes_of}
use Rattle.dbpl_base.specs.declared.lexeme.Lexeme.{Lexeme}
use Rattle.dbpl_base.specs.declared.lexeme.Lexeme.TheVariants as lexemes
use Rattle.dbpl_base.specs.declared.place.Place.{Place}
use Rattle.dbpl_base.specs.declared.token.Token.{Token}
use Rattle.dbpl_alone.proofs.Tests.{bytes_same, imported_unlike}
use Rattle.dbpl_alone.proofs.UnitLaw.{text-marks}
use Rattle.dbpl_alone.specs.Program.{IsSmall, spell_module, spell_statement, spell_statements}
use Rattle.dbpl_alone.specs.Small.{in_front, is_imported, small_of, small_statement, small_statements}
use Rattle.dbpl_alone.specs.Units.{string}
use Rattle.dbpl_alone.specs.declared.program.Program.{Program}
use Rattle.dbpl_alone.specs.declared.statement.Statement.{Statement as Small}
use Rattle.dbpl_alone.specs.declared.statement.Statement.TheVariants.{WriteLn, WriteString}
use Rattle.dbpl_grammar.proofs.MeetsLaw.{meets_join}
use Rattle.dbpl_grammar.specs.Laws.{IsText}
use Rattle.dbpl_tree.proofs.Levels.{factor_depth-roll}
use Rattle.dbpl_tree.proofs.StatementLevels.{statement_depth-roll, statement_marks-roll}
use Rattle.dbpl_tree.specs.Depths.{factor_depth, greatest}
use Rattle.dbpl_tree.specs.Marks.{Mark, Meets, Of, Before, further_marks}
use Rattle.dbpl_tree.specs.Statements.{statement_marks}
use Rattle.dbpl_tree.specs.UnitDepths.{statement_depth}
use Rattle.dbpl_tree.specs.Units.{ending_marks}
use Rattle.dbpl_tree.specs.Words.{comma, full_stop, in_out, left_parenthesis, right_parenthesis, semicolon, word_begin, word_end, word_from, word_import, word_module, write_ln, write_string}
use Rattle.dbpl_tree.specs.declared.designator.ArgumentsOf.{ArgumentsOf}
use Rattle.dbpl_tree.specs.declared.designator.DesignatorOf.{DesignatorOf}
use Rattle.dbpl_tree.specs.declared.element.Element.TheOpen as phrases
use Rattle.dbpl_tree.specs.declared.factor.Factor.{Factor}
use Rattle.dbpl_tree.specs.declared.factor.Factor.TheVariants as factors
use Rattle.dbpl_tree.specs.declared.statement.Statement.{Statement}
use Rattle.dbpl_tree.specs.declared.statement.Statement.TheOpen as kinds
use Rattle.dbpl_tree.specs.declared.statement.Statement.TheVariants as statements
use Rattle.dbpl_tree.specs.declared.unit.Import.TheVariants as imports
use Rattle.dbpl_tree.specs.declared.unit.Unit.{Unit as Tree}
use Rattle.dbpl_tree.specs.declared.unit.Unit.TheVariants as units

-- ---- one token

-- the first token has this lexeme, and those behind it the rest
record Taken (tokens : List Token) (lexeme : Lexeme) (rest : List Lexeme) : Type 0 where
  token : Token
  more : List Token
  split : tokens ≡ token ∷ more
  is : token.lexeme ≡ lexeme
  behind : lexemes_of more ≡ rest

taken : (tokens : List Token) (lexeme : Lexeme) (rest : List Lexeme) → lexemes_of tokens ≡ lexeme ∷ rest → Taken tokens lexeme rest
taken [] lexeme rest e = absurd (cc)
taken (token ∷ more) lexeme rest e =
    let same : token.lexeme ∷ lexemes_of more ≡ lexeme ∷ rest = e in
    record { token = token; more = more; split = refl; is = cc; behind = cc }

word : {tokens : List Token} {lexeme : Lexeme} {ls : List Lexeme} (t : Taken tokens lexeme ls) (marks : List Mark) (rest : List Token) →
    Meets t.more marks rest → Meets tokens (Of lexeme ∷ marks) rest
word {lexeme = lexeme} t marks rest m = subst (λ (ts : List Token). Meets ts (Of lexeme ∷ marks) rest) (sym t.split) (t.is, m)

placed : {tokens : List Token} {lexeme : Lexeme} {ls : List Lexeme} (t : Taken tokens lexeme ls) (marks : List Mark) (rest : List Token) →
    Meets tokens marks rest → Meets tokens (Before t.token.place ∷ marks) rest
placed t marks rest m =
    subst (λ (ts : List Token). Meets ts (Before t.token.place ∷ marks) rest) (sym t.split)
    (refl, subst (λ (ts : List Token). Meets ts marks rest) t.split m)

-- the token with its place in front
both : {tokens : List Token} {lexeme : Lexeme} {ls : List Lexeme} (t : Taken tokens lexeme ls) (marks : List Mark) (rest : List Token) →
    Meets t.more marks rest → Meets tokens (Before t.token.place ∷ Of lexeme ∷ marks) rest
both {lexeme = lexeme} t marks rest m = placed t (Of lexeme ∷ marks) rest (word t marks rest m)

-- ---- statements

abbrev named : Place → List ℕ → DesignatorOf Factor
named place name = record { head = record { place = place; name = name }; parts = [] }

abbrev given : Place → Place → List ℕ → ArgumentsOf Factor
given open_at at text = record { place = open_at; exprs = Some (record { first = string at text; others = [] }) }

write_ln-marks : (place : Place) →
    statement_marks (statements.Call (named place write_ln) None) ≡ Before place ∷ Of (lexemes.Ident write_ln) ∷ []
write_ln-marks place =
    ap statement_marks (sym (statements.rolls-Call (named place write_ln) None))
    ∙ statement_marks-roll (kinds.Call (named place write_ln) None)

write_string-marks : (place open_at at : Place) (text : List ℕ) →
    statement_marks (statements.Call (named place write_string) (Some (given open_at at text)))
    ≡ Before place ∷ Of (lexemes.Ident write_string) ∷ Before open_at ∷ Of left_parenthesis ∷ Before at ∷ Before at ∷
    Before at ∷ Before at ∷ Of (lexemes.Text text) ∷ Of right_parenthesis ∷ []
write_string-marks place open_at at text =
    ap statement_marks (sym (statements.rolls-Call (named place write_string) (Some (given open_at at text))))
    ∙ statement_marks-roll (kinds.Call (named place write_string) (Some (given open_at at text)))
    ∙ rw (text-marks at text) refl

write_ln-depth : (place : Place) → statement_depth (statements.Call (named place write_ln) None) ≡ 0
write_ln-depth place =
    ap statement_depth (sym (statements.rolls-Call (named place write_ln) None))
    ∙ statement_depth-roll (kinds.Call (named place write_ln) None)

text-depth : (place : Place) (text : List ℕ) → factor_depth (factors.Text place text) ≡ 0
text-depth place text =
    ap factor_depth (sym (factors.rolls-Text place text)) ∙ factor_depth-roll (phrases.Text place text)

write_string-depth : (place open_at at : Place) (text : List ℕ) →
    statement_depth (statements.Call (named place write_string) (Some (given open_at at text))) ≡ 1
write_string-depth place open_at at text =
    ap statement_depth (sym (statements.rolls-Call (named place write_string) (Some (given open_at at text))))
    ∙ statement_depth-roll (kinds.Call (named place write_string) (Some (given open_at at text)))
    ∙ rw (text-depth at text) refl

-- a tree of this statement stands at the front of the tokens, and the rest behind it
record OneStands (tokens : List Token) (small : Small) (ls : List Lexeme) : Type 0 where
  tree : Statement
  rest : List Token
  meets : Meets tokens (statement_marks tree) rest
  found : small_statement tree ≡ Some small
  flat : statement_depth tree ≤ 1
  behind : lexemes_of rest ≡ ls

one_stands : (small : Small) (tokens : List Token) (ls : List Lexeme) → lexemes_of tokens ≡ spell_statement small ++ ls → OneStands tokens small ls
one_stands WriteLn tokens ls e =
    let t = taken tokens (lexemes.Ident write_ln) ls e in
    record {
      tree = statements.Call (named t.token.place write_ln) None;
      rest = t.more;
      meets = subst (λ (marks : List Mark). Meets tokens marks t.more) (sym (write_ln-marks t.token.place)) (both t [] t.more refl);
      found = rw (statements.outs-Call (named t.token.place write_ln) None, bytes_same write_ln) refl;
      flat = rw (write_ln-depth t.token.place) (omega arith);
      behind = t.behind;
    }
one_stands (WriteString text) tokens ls e =
    let t = taken tokens (lexemes.Ident write_string) (left_parenthesis ∷ lexemes.Text text ∷ right_parenthesis ∷ ls) e in
    let left = taken t.more left_parenthesis (lexemes.Text text ∷ right_parenthesis ∷ ls) t.behind in
    let inner = taken left.more (lexemes.Text text) (right_parenthesis ∷ ls) left.behind in
    let right = taken inner.more right_parenthesis ls inner.behind in
    let at = inner.token.place in
    let ending : List Mark = Of (lexemes.Text text) ∷ Of right_parenthesis ∷ [] in
    let last = word inner (Of right_parenthesis ∷ []) right.more (word right [] right.more refl) in
    let first = placed inner ending right.more last in
    let second = placed inner (Before at ∷ ending) right.more first in
    let third = placed inner (Before at ∷ Before at ∷ ending) right.more second in
    let fourth = placed inner (Before at ∷ Before at ∷ Before at ∷ ending) right.more third in
    let opened = both left (Before at ∷ Before at ∷ Before at ∷ Before at ∷ ending) right.more fourth in
    let whole = both t (Before left.token.place ∷ Of left_parenthesis ∷ Before at ∷ Before at ∷ Before at ∷ Before at ∷ ending) right.more opened in
    record {
      tree = statements.Call (named t.token.place write_string) (Some (given left.token.place at text));
      rest = right.more;
      meets = subst (λ (marks : List Mark). Meets tokens marks right.more) (sym (write_string-marks t.token.place left.token.place at text)) whole;
      found = rw (statements.outs-Call (named t.token.place write_string) (Some (given left.token.place at text)), bytes_same write_string, factors.outs-Text at text) refl;
      flat = rw (write_string-depth t.token.place left.token.place at text) (omega arith);
      behind = right.behind;
    }

-- trees of these statements stand at the front of the tokens, and the rest behind them
record AllStand (tokens : List Token) (smalls : List Small) (ls : List Lexeme) : Type 0 where
  first : Statement
  others : List Statement
  rest : List Token
  meets : Meets tokens (statement_marks first ++ further_marks semicolon statement_marks others) rest
  found : small_statements (first ∷ others) ≡ Some smalls
  flat : max (statement_depth first) (greatest statement_depth others) ≤ 1
  behind : lexemes_of rest ≡ ls

all_stand : (small : Small) (smalls : List Small) (tokens : List Token) (ls : List Lexeme) →
    lexemes_of tokens ≡ spell_statements (small ∷ smalls) ++ ls → AllStand tokens (small ∷ smalls) ls
all_stand small [] tokens ls e =
    let one = one_stands small tokens ls e in
    let flat = one.flat in
    record {
      first = one.tree;
      others = [];
      rest = one.rest;
      meets = subst (λ (marks : List Mark). Meets tokens marks one.rest) (sym (append-nil (statement_marks one.tree))) one.meets;
      found = rw (one.found) refl;
      flat = omega (arith, flat);
      behind = one.behind;
    }
all_stand small (next ∷ smalls) tokens ls e =
    let after : List Lexeme = semicolon ∷ (spell_statements (next ∷ smalls) ++ ls) in
    let one = one_stands small tokens after (e ∙ append_assoc (spell_statement small) (semicolon ∷ spell_statements (next ∷ smalls)) ls) in
    let sign = taken one.rest semicolon (spell_statements (next ∷ smalls) ++ ls) one.behind in
    let later = all_stand next smalls sign.more ls sign.behind in
    let marks : List Mark = statement_marks later.first ++ further_marks semicolon statement_marks later.others in
    let flat = one.flat in
    let flat_later = later.flat in
    record {
      first = one.tree;
      others = later.first ∷ later.others;
      rest = later.rest;
      meets = meets_join (statement_marks one.tree) (Of semicolon ∷ marks) tokens one.rest later.rest one.meets (word sign marks later.rest later.meets);
      found = ap (in_front (small_statement one.tree)) later.found ∙ ap (λ (s : Option Small). in_front s (Some (next ∷ smalls))) one.found;
      flat = omega (arith, flat, flat_later);
      behind = later.behind;
    }

-- ---- modules

-- Tokens meet the marks that are made of something, and nothing stands behind them.
record Found {X : Type 0} (marks : X → List Mark) (tokens : List Token) : Type 0 where
  of : X
  meets : Meets tokens (marks of) []

word_found : {X : Type 0} {marks : X → List Mark} (lexeme : Lexeme) (ls : List Lexeme) →
    ((tokens : List Token) → lexemes_of tokens ≡ ls → Found marks tokens) →
    (tokens : List Token) → lexemes_of tokens ≡ lexeme ∷ ls → Found {X = X} (λ x. Of lexeme ∷ marks x) tokens
word_found lexeme ls next [] e = absurd (cc)
word_found lexeme ls next (token ∷ tokens) e =
    let same : token.lexeme ∷ lexemes_of tokens ≡ lexeme ∷ ls = e in
    let found = next tokens cc in
    record { of = found.of; meets = (cc, found.meets) }

-- the place of the token is kept
placed_found : {X : Type 0} {marks : X → List Mark} (lexeme : Lexeme) (ls : List Lexeme) →
    ((tokens : List Token) → lexemes_of tokens ≡ ls → Found marks tokens) →
    (tokens : List Token) → lexemes_of tokens ≡ lexeme ∷ ls →
    Found {X = Place × X} (λ x. Before x.0 ∷ Of lexeme ∷ marks x.1) tokens
placed_found lexeme ls next [] e = absurd (cc)
placed_found lexeme ls next (token ∷ tokens) e =
    let same : token.lexeme ∷ lexemes_of tokens ≡ lexeme ∷ ls = e in
    let found = next tokens cc in
    record { of = (token.place, found.of); meets = (refl, (cc, found.meets)) }

end_found : (tokens : List Token) → lexemes_of tokens ≡ [] → Found {X = Unit {0}} (λ x. []) tokens
end_found [] e = record { of = tt; meets = refl }
end_found (token ∷ tokens) e = absurd (cc)

-- what a text with these tokens is
pub record Spelt (tokens : List Token) (program : Program) : Type 0 where
  pub unit : Tree
  pub spelled : IsText tokens unit
  pub small : small_of unit ≡ Some program

within : (a b : ℕ) → max a b ≤ 1 → max 0 (suc (max a b)) ≤ 64
within a b flat = omega (arith, flat)

module _ (name : List ℕ) (first : Small) (others : List Small) where
  abbrev whole : Program
  whole = record { name = name; statements = first ∷ others }

  -- END m . and the end of the text
  abbrev ending : List Lexeme
  ending = word_end ∷ lexemes.Ident name ∷ full_stop ∷ lexemes.Finish ∷ []

  abbrev finish : List Mark
  finish = Of lexemes.Finish ∷ []

  -- trees of the statements of the module, and the place of its name at its end
  record Body : Type 0 where
    head : Statement
    tail : List Statement
    place : Place
    found : small_statements (head ∷ tail) ≡ Some (first ∷ others)
    flat : max (statement_depth head) (greatest statement_depth tail) ≤ 1

  abbrev block_marks : Statement → List Statement → List Mark
  block_marks head tail = statement_marks head ++ further_marks semicolon statement_marks tail

  abbrev end_marks : Place → List Mark
  end_marks place = ending_marks (record { place = place; name = name })

  abbrev body_marks : Body → List Mark
  body_marks body = (block_marks body.head body.tail ++ end_marks body.place) ++ finish

  ending_found : (tokens : List Token) → lexemes_of tokens ≡ ending → (place : Place) × Meets tokens (end_marks place ++ finish) []
  ending_found tokens e =
      let found =
      word_found word_end (lexemes.Ident name ∷ full_stop ∷ lexemes.Finish ∷ [])
      (placed_found (lexemes.Ident name) (full_stop ∷ lexemes.Finish ∷ [])
      (word_found full_stop (lexemes.Finish ∷ []) (word_found lexemes.Finish [] end_found))) tokens e in
      (found.of.0, found.meets)

  body_found : (tokens : List Token) → lexemes_of tokens ≡ spell_statements (first ∷ others) ++ ending → Found body_marks tokens
  body_found tokens e =
      let block = all_stand first others tokens ending e in
      let end = ending_found block.rest block.behind in
      let all : List Mark = block_marks block.first block.others in
      let joined = meets_join all (end_marks end.0 ++ finish) tokens block.rest [] block.meets end.1 in
      record {
        of = record { head = block.first; tail = block.others; place = end.0; found = block.found; flat = block.flat };
        meets = subst (λ (marks : List Mark). Meets tokens marks []) (sym (append_assoc all (end_marks end.0) finish)) joined;
      }

  -- FROM InOut IMPORT WriteString , WriteLn ; BEGIN and so on
  abbrev behind_name : List Lexeme
  behind_name =
      word_from ∷ lexemes.Ident in_out ∷ word_import ∷ lexemes.Ident write_string ∷ comma ∷ lexemes.Ident write_ln ∷
      semicolon ∷ word_begin ∷ (spell_statements (first ∷ others) ++ ending)

  -- the places of FROM, of the three names, and what stands in the body
  abbrev Imported : Type 0
  Imported = Place × (Place × (Place × (Place × Body)))

  abbrev import_marks_of : Imported → List Mark
  import_marks_of x =
      Before x.0 ∷ Of word_from ∷ Before x.1.0 ∷ Of (lexemes.Ident in_out) ∷ Of word_import ∷ Before x.1.1.0 ∷
      Of (lexemes.Ident write_string) ∷ Of comma ∷ Before x.1.1.1.0 ∷ Of (lexemes.Ident write_ln) ∷ Of semicolon ∷
      Of word_begin ∷ body_marks x.1.1.1.1

  import_found : (tokens : List Token) → lexemes_of tokens ≡ behind_name → Found import_marks_of tokens
  import_found =
      placed_found word_from _ (placed_found (lexemes.Ident in_out) _ (word_found word_import _
      (placed_found (lexemes.Ident write_string) _ (word_found comma _ (placed_found (lexemes.Ident write_ln) _
      (word_found semicolon _ (word_found word_begin _ body_found)))))))

  -- the places of MODULE and of the name, and the rest
  abbrev Placed : Type 0
  Placed = Place × (Place × Imported)

  abbrev module_marks_of : Placed → List Mark
  module_marks_of x =
      Before x.0 ∷ Of word_module ∷ Before x.1.0 ∷ Of (lexemes.Ident name) ∷ Of semicolon ∷ import_marks_of x.1.1

  abbrev body_of : Placed → Body
  body_of x = x.1.1.1.1.1.1

  module_found : (tokens : List Token) → lexemes_of tokens ≡ spell_module whole → Found module_marks_of tokens
  module_found = placed_found word_module _ (placed_found (lexemes.Ident name) _ (word_found semicolon _ import_found))

  abbrev tree : Placed → Tree
  tree x =
      units.Program (record {
        place = x.0;
        name = record { place = x.1.0; name = name };
        imports =
            imports.From x.1.1.0 (record { place = x.1.1.1.0; name = in_out })
            (record {
              first = record { place = x.1.1.1.1.0; name = write_string };
              others = record { place = x.1.1.1.1.1.0; name = write_ln } ∷ [];
            }) ∷ [];
        declarations = [];
        body = Some (record { first = (body_of x).head; others = (body_of x).tail });
        end_name = record { place = (body_of x).place; name = name };
      })

  tree_small : is_imported name ≡ false → (x : Placed) → small_of (tree x) ≡ Some whole
  unfolding small_of
  tree_small unlike x =
      let found = (body_of x).found in
      rw (unlike, bytes_same name, bytes_same in_out, bytes_same write_string, bytes_same write_ln, found) refl

  spelt : is_imported name ≡ false → (tokens : List Token) → lexemes_of tokens ≡ spell_module whole → Spelt tokens whole
  spelt unlike tokens e =
      let found = module_found tokens e in
      let body = body_of found.of in
      record {
        unit = tree found.of;
        spelled = (found.meets, within (statement_depth body.head) (greatest statement_depth body.tail) body.flat);
        small = tree_small unlike found.of;
      }

pub tokens_spelt : (tokens : List Token) (program : Program) → IsSmall program → lexemes_of tokens ≡ spell_module program → Spelt tokens program
tokens_spelt tokens program is e =
    by_statements program.name program.statements (imported_unlike program.name is.unlike_in_out is.unlike_write_string is.unlike_write_ln) is.some e
  where
    by_statements : (name : List ℕ) (smalls : List Small) → is_imported name ≡ false → smalls ≢ [] →
        lexemes_of tokens ≡ spell_module (record { name = name; statements = smalls }) → Spelt tokens (record { name = name; statements = smalls })
    by_statements name [] unlike some e = absurd (some refl)
    by_statements name (first ∷ others) unlike some e = spelt name first others unlike tokens e
