-- Laws of what is known: of a name that is looked up, of what changes a scope, of what every text knows.
use Rattle.std.proofs.Common.{codes, ℕ, ◌+◌, ◌-◌, ℤ, Bool, true, false, cond, List, [], ◌∷◌, filter, length, take, Option, Some, None, IfSome, option_map, subst, sym}
use Rattle.std.proofs.lemmas.List.Elements.{All-append, All-cons, All-drop, All-filter, All-head, All-nil, All-push, All-tail, All-take}
use Rattle.std.specs.List.{All}
use Rattle.std.specs.Option.{option_map_or, option_or}
use Rattle.dbpl_symbols.proofs.PlaceLaws.{latest-cons}
use Rattle.dbpl_symbols.specs.InOutNames.{in_out_exports, in_out_pairs, reading_pairs, writing_pairs}
use Rattle.dbpl_symbols.specs.Interfaces.{exports_of, interface_of, is_own, shown}
use Rattle.dbpl_symbols.specs.Known.{AreKnown, IsKnown, IsKnownDecl, IsKnownItself, IsKnownLevel, IsKnownThrough, ShowsKnown}
use Rattle.dbpl_symbols.specs.Parameters.{param_pair, params_from, with_params}
use Rattle.dbpl_symbols.specs.Scopes.{Declarations, entered, is_named, last_level, last_of, last_start, latest, left, seen, with_pair, with_pairs}
use Rattle.dbpl_symbols.specs.StandardNames.{function_pairs, procedure_pairs, standard_pairs, standard_scope, truth_pairs, type_pairs}
use Rattle.dbpl_symbols.specs.declared.decl.Decl.{Decl, Decl-F, out-Decl}
use Rattle.dbpl_symbols.specs.declared.decl.Decl.TheOpen as decls
use Rattle.dbpl_symbols.specs.declared.decl.Decl.TheVariants as forms
use Rattle.dbpl_symbols.specs.declared.exports.Exports.{Exports, out-Exports, out-roll-Exports}
use Rattle.dbpl_symbols.specs.declared.pair.Pair.{Pair}
use Rattle.dbpl_symbols.specs.declared.sort.Sort.{Sort}
use Rattle.dbpl_symbols.specs.declared.sort.Sort.TheVariants as sorts
use Rattle.dbpl_value.specs.declared.db_type.DbType.{DbType}
use Rattle.dbpl_value.specs.declared.head.Head.{Head}
use Rattle.dbpl_value.specs.declared.param.Param.{Param}

-- ---- what a name means is known

this_or_before : (P : Pair → Type 0) (pair : Pair) (test : Bool) (rest : Option Pair) → P pair → IfSome rest P →
    IfSome (option_or rest (cond test (Some pair) None)) P
this_or_before P pair test (Some one) here before = before
this_or_before P pair true None here before = here
this_or_before P pair false None here before = tt

pub latest_all : (P : Pair → Type 0) (name : List ℕ) (pairs : List Pair) → All P pairs → IfSome (latest name pairs) P
latest_all P name [] all = tt
latest_all P name (pair ∷ pairs) all =
    subst (λ (one : Option Pair). IfSome one P) (sym (latest-cons name pair pairs))
    (this_or_before P pair (is_named name pair) (latest name pairs) (All-head P pair pairs all)
    (latest_all P name pairs (All-tail P pair pairs all)))

its_decl : (P : Decl → Type 0) (pair : Option Pair) → IfSome pair (λ (one : Pair). P one.decl) →
    IfSome (option_map (λ (one : Pair). one.decl) pair) P
its_decl P None known = tt
its_decl P (Some pair) known = known

-- THE law for a look-up: what a name means in a known scope is known
pub seen_known : (scope : Declarations) → IsKnown scope → (name : List ℕ) → IfSome (seen name scope) IsKnownDecl
seen_known scope known name =
    its_decl IsKnownDecl (latest name scope.pairs) (latest_all (λ (pair : Pair). IsKnownDecl pair.decl) name scope.pairs known)

-- THE law for a look-up behind a unit's name
pub shown_known : (exports : Exports) → ShowsKnown exports → (name : List ℕ) → IfSome (shown name exports) IsKnownItself
shown_known exports known name =
    its_decl IsKnownItself (latest name (out-Exports exports).pairs)
    (latest_all (λ (pair : Pair). IsKnownItself pair.decl) name (out-Exports exports).pairs known)

-- ---- what changes a scope

abbrev IsKnownPair : Pair → Type 0
IsKnownPair pair = IsKnownDecl pair.decl

-- one declaration more
pub with_pair_known : (pair : Pair) (scope : Declarations) → IsKnownDecl pair.decl → IsKnown scope → IsKnown (with_pair pair scope)
with_pair_known pair scope isnt known = All-push IsKnownPair scope.pairs pair known isnt

-- several more
pub with_pairs_known : (more : List Pair) (scope : Declarations) → AreKnown more → IsKnown scope → IsKnown (with_pairs more scope)
with_pairs_known more scope others known = All-append IsKnownPair scope.pairs more known others

pub none_known : AreKnown []
none_known = All-nil IsKnownPair

pub more_known : (pair : Pair) (pairs : List Pair) → IsKnownDecl pair.decl → AreKnown pairs → AreKnown (pair ∷ pairs)
more_known pair pairs first others = All-cons IsKnownPair pair pairs first others

-- an empty level declares nothing
pub entered_known : (scope : Declarations) → IsKnown scope → IsKnown (entered scope)
entered_known scope known = known

-- what is left of a level
left_at : (scope : Declarations) (start : Option ℕ) → IsKnown scope →
    IsKnown (option_map_or (λ (first : ℕ). let outer : Declarations = record { pairs = take first scope.pairs; starts = take (length scope.starts - 1) scope.starts } in outer) start scope)
left_at scope None known = known
left_at scope (Some start) known = All-take IsKnownPair start scope.pairs known

pub left_known : (scope : Declarations) → IsKnown scope → IsKnown (left scope)
left_known scope known = left_at scope (last_of scope.starts) known

-- ---- what a unit shows

at_level : {D P : Type 0} (level : Decl-F D Exports P) → IsKnownThrough level → IsKnownLevel level
at_level (decls.Num kind number) known = tt
at_level (decls.Whole number) known = tt
at_level (decls.Text text) known = tt
at_level (decls.Kind kind) known = tt
at_level (decls.Variable kind sort) known = tt
at_level (decls.Routine owner head) known = tt
at_level (decls.Selector owner head over depth) known = tt
at_level (decls.Constructor owner head given depth) known = tt
at_level (decls.Standard procedure) known = tt
at_level (decls.InOut routine head) known = tt
at_level (decls.Unit exports) known = tt
at_level decls.Unknown known = known

plainly : (decl : Decl) → IsKnownDecl decl → IsKnownItself decl
plainly decl known = at_level (out-Decl decl) known

all_itself : (pairs : List Pair) → AreKnown pairs → All (λ (pair : Pair). IsKnownItself pair.decl) pairs
all_itself [] known = All-nil (λ (pair : Pair). IsKnownItself pair.decl)
all_itself (pair ∷ pairs) known =
    All-cons (λ (pair : Pair). IsKnownItself pair.decl) pair pairs (plainly pair.decl (All-head IsKnownPair pair pairs known))
    (all_itself pairs (All-tail IsKnownPair pair pairs known))

-- a unit that has these declarations shows them
shows : (unit : List ℕ) (pairs : List Pair) → All (λ (pair : Pair). IsKnownItself pair.decl) pairs →
    ShowsKnown (exports_of unit pairs)
shows unit pairs known =
    subst (λ exports. All (λ (pair : Pair). IsKnownItself pair.decl) exports.pairs)
    (sym (out-roll-Exports (record { «module» = unit; pairs = pairs }))) known

pub interface_known : (unit : List ℕ) (scope : Declarations) → IsKnown scope → ShowsKnown (interface_of unit scope)
interface_known unit scope known =
    shows unit (filter is_own (last_level scope))
    (All-filter is_own (λ (pair : Pair). IsKnownItself pair.decl) (last_level scope)
    (all_itself (last_level scope) (All-drop IsKnownPair (last_start scope) scope.pairs known)))

-- ---- what every text knows

AllTrue : (Pair → Type 0) → List Pair → Type 0
AllTrue P [] = Unit {0}
AllTrue P (pair ∷ pairs) = P pair × AllTrue P pairs

all_true : (P : Pair → Type 0) (pairs : List Pair) → AllTrue P pairs → All P pairs
unfolding AllTrue
all_true P [] each = All-nil P
all_true P (pair ∷ pairs) each = All-cons P pair pairs each.0 (all_true P pairs each.1)

pub standard_known : IsKnown standard_scope
unfolding AllTrue function_pairs procedure_pairs truth_pairs type_pairs out-Decl denote.Hole.Carrier.out
standard_known =
    all_true IsKnownPair standard_pairs
    (tt, (tt, (tt, (tt, (tt, (tt, (tt, (tt, (tt, (tt, (tt, (tt, (tt, (tt, (tt, (tt, (tt, (tt, (tt, tt)))))))))))))))))))

pub in_out_known : ShowsKnown in_out_exports
unfolding AllTrue reading_pairs writing_pairs out-Decl denote.Hole.Carrier.out
in_out_known =
    shows (codes "InOut") in_out_pairs
    (all_true (λ (pair : Pair). IsKnownItself pair.decl) in_out_pairs (tt, (tt, (tt, (tt, (tt, (tt, (tt, (tt, (tt, tt))))))))))

-- ---- a declaration of each form but those that may be unknown

pub num_known : (kind : DbType) (number : ℤ) → IsKnownDecl (forms.Num kind number)
unfolding out-Decl denote.Hole.Carrier.out
num_known kind number = tt

pub whole_known : (number : ℤ) → IsKnownDecl (forms.Whole number)
unfolding out-Decl denote.Hole.Carrier.out
whole_known number = tt

pub text_known : (text : List ℕ) → IsKnownDecl (forms.Text text)
unfolding out-Decl denote.Hole.Carrier.out
text_known text = tt

pub kind_known : (kind : DbType) → IsKnownDecl (forms.Kind kind)
unfolding out-Decl denote.Hole.Carrier.out
kind_known kind = tt

pub variable_known : (kind : DbType) (sort : Sort) → IsKnownDecl (forms.Variable kind sort)
unfolding out-Decl denote.Hole.Carrier.out
variable_known kind sort = tt

pub routine_known : (owner : List ℕ) (head : Head) → IsKnownDecl (forms.Routine owner head)
unfolding out-Decl denote.Hole.Carrier.out
routine_known owner head = tt

-- ---- parameters

pub params_known : (number : ℕ) (params : List Param) → AreKnown (params_from number params)
params_known number [] = none_known
params_known number (param ∷ params) =
    more_known (param_pair number param) (params_from (number + 1) params) (variable_known param.kind (sorts.Param number))
    (params_known (number + 1) params)

pub with_params_known : (head : Head) (scope : Declarations) → IsKnown scope → IsKnown (with_params head scope)
with_params_known head scope known = with_pairs_known (params_from 0 head.params) scope (params_known 0 head.params) known
