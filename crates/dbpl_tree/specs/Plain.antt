-- Phrases that are one thing and nothing else: a name, a factor, a string, or the one string in the parentheses of a call;
-- and the list of the expressions in those.
use Rattle.std.specs.Prelude.{ℕ, Bool, true, false, not, ◌&&◌, if◌then◌else◌, is_some, List, [], ◌∷◌, Option, Some, None, option_and_then, bytes_eq}
use Rattle.dbpl_tree.specs.declared.designator.ArgumentsOf.{ArgumentsOf}
use Rattle.dbpl_tree.specs.declared.designator.DesignatorOf.{DesignatorOf}
use Rattle.dbpl_tree.specs.declared.element.Element.TheOpen as phrases
use Rattle.dbpl_tree.specs.declared.expr.ExprOf.{ExprOf}
use Rattle.dbpl_tree.specs.declared.expr.ExprsOf.{ExprsOf}
use Rattle.dbpl_tree.specs.declared.factor.Factor.{Factor, Factor-F, out-Factor}
use Rattle.dbpl_tree.specs.declared.ident.Ident.{Ident}

abbrev pub is_empty : {A : Type 0} → List A → Bool
is_empty [] = true
is_empty (x ∷ xs) = false

abbrev pub has_name : List ℕ → Ident → Bool
has_name name ident = bytes_eq ident.name name

-- the designator is this name and nothing else
abbrev pub is_name : List ℕ → DesignatorOf Factor → Bool
is_name name d = has_name name d.head && is_empty d.parts

-- the expression is one factor and nothing else
abbrev pub is_factor : ExprOf Factor → Bool
is_factor e =
    not (is_some e.right) && not (is_some e.left.sign) && is_empty e.left.others && is_empty e.left.first.others

abbrev pub name_level : {E F R A C : Type 0} → Factor-F E F R A C → Option Ident
name_level (phrases.Factor::Designator d None) = if is_empty d.parts then Some d.head else None
name_level _ = None

abbrev pub text_level : {E F R A C : Type 0} → Factor-F E F R A C → Option (List ℕ)
text_level (phrases.Text place text) = Some text
text_level _ = None

-- the name that an expression is, if it is one and nothing else
abbrev pub name_of : ExprOf Factor → Option Ident
name_of e = if is_factor e then name_level (out-Factor e.left.first.first) else None

-- the string that an expression is, if it is one and nothing else
abbrev pub string_of : ExprOf Factor → Option (List ℕ)
string_of e = if is_factor e then text_level (out-Factor e.left.first.first) else None

-- the string of these expressions, if they are one string and nothing else
abbrev pub only_string : ExprsOf Factor → Option (List ℕ)
only_string es = if is_empty es.others then string_of es.first else None

-- the string in the parentheses of a call, if there is one and nothing else
abbrev pub argument_of : ArgumentsOf Factor → Option (List ℕ)
argument_of a = option_and_then only_string a.exprs

-- ---- the expressions in parentheses

abbrev pub exprs_in : {F : Type 0} → ExprsOf F → List (ExprOf F)
exprs_in es = es.first ∷ es.others

abbrev pub listed : {F : Type 0} → Option (ExprsOf F) → List (ExprOf F)
listed None = []
listed (Some es) = exprs_in es

abbrev pub arguments_in : {F : Type 0} → ArgumentsOf F → List (ExprOf F)
arguments_in a = listed a.exprs
