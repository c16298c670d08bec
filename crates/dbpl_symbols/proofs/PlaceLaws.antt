-- Laws of the places of declarations: where the latest of a name stands, and that one more, or one less, keeps the places.
use Rattle.std.proofs.Common.{◌≡◌, ◌∙◌, ◌+◌, ℕ, zero, suc, Bool, true, false, cond, List, [], ◌∷◌, ◌++◌, length, drop, get_or, reverse, take, Option, Some, None, refl, ap, sym, subst, arith}
use Rattle.std.proofs.lemmas.Grind.{common_steps}
use Rattle.std.proofs.lemmas.List.{append-nil, append_assoc, length-map, map-append, reverse-append, take_all, take_more}
use Rattle.std.proofs.lemmas.List.Folds.{find-append}
use Rattle.std.proofs.lemmas.Map.Text.{is_eq-slice_cmp}
use Rattle.std.proofs.lemmas.Option.{slice_get-map}
use Rattle.std.proofs.lemmas.Slice.Eq.{bytes_eq-Decides}
use Rattle.std.specs.BTreeMap.{BTreeMap, IsUnchanged, get, is_at}
use Rattle.std.specs.Bool.{nat_le}
use Rattle.std.specs.Cmp.Lexicographic.{slice_cmp}
use Rattle.std.specs.List.{find, slice_get}
use Rattle.std.specs.Map.{lookup}
use Rattle.std.specs.Option.{is_some, option_and_then, option_map, option_map_or, option_or, IsSome}
use Rattle.std.specs.Ordering.{nat_cmp}
use Rattle.std.specs.Str.{bytes_eq}
use Rattle.dbpl_symbols.specs.Places.{AreLinked, IsIndexed, Moves, pairs_of, spot}
use Rattle.dbpl_symbols.specs.Scopes.{is_named, latest}
use Rattle.dbpl_symbols.specs.declared.held.Held.{Held}
use Rattle.dbpl_symbols.specs.declared.pair.Pair.{Pair}

-- ---- the place of the latest

-- one more declaration is the latest of its name
push_more : (b : Bool) (n : ℕ) (o rest : Option ℕ) →
    option_or (option_map suc (cond b (Some n) o)) rest ≡ cond b (Some (suc n)) (option_or (option_map suc o) rest)
push_more true n o rest = refl
push_more false n o rest = refl

pub spot-push : (name : List ℕ) (pairs : List Pair) (pair : Pair) →
    spot name (pairs ++ pair ∷ []) ≡ cond (is_named name pair) (Some (length pairs)) (spot name pairs)
unfolding spot
spot-push name [] pair = refl
spot-push name (first ∷ pairs) pair =
    ap (λ o. option_or (option_map suc o) (cond (is_named name first) (Some 0) None)) (spot-push name pairs pair) ∙
    push_more (is_named name pair) (length pairs) (spot name pairs) (cond (is_named name first) (Some 0) None)

pub latest-cons : (name : List ℕ) (pair : Pair) (pairs : List Pair) →
    latest name (pair ∷ pairs) ≡ option_or (latest name pairs) (cond (is_named name pair) (Some pair) None)
latest-cons name pair pairs =
    ap (find (is_named name)) (reverse-append (pair ∷ []) pairs) ∙ find-append (is_named name) (reverse pairs) (pair ∷ [])

-- a place with what stands there, or neither
IsAt : List Pair → Option ℕ → Option Pair → Type 0
IsAt pairs None None = Unit {0}
IsAt pairs (Some place) (Some pair) = slice_get pairs place ≡ Some pair
IsAt pairs _ _ = ⊥

one_further : (first : Pair) (pairs : List Pair) (b : Bool) (o : Option ℕ) (l : Option Pair) → IsAt pairs o l →
    IsAt (first ∷ pairs) (option_or (option_map suc o) (cond b (Some 0) None)) (option_or l (cond b (Some first) None))
unfolding IsAt
one_further first pairs true None None h = refl
one_further first pairs false None None h = tt
one_further first pairs b (Some place) (Some pair) h = h
one_further first pairs b None (Some pair) h = absurd h
one_further first pairs b (Some place) None h = absurd h

is_at_spot : (name : List ℕ) (pairs : List Pair) → IsAt pairs (spot name pairs) (latest name pairs)
unfolding spot IsAt
is_at_spot name [] = tt
is_at_spot name (pair ∷ pairs) =
    subst (IsAt (pair ∷ pairs) (spot name (pair ∷ pairs))) (sym (latest-cons name pair pairs))
    (one_further pair pairs (is_named name pair) (spot name pairs) (latest name pairs) (is_at_spot name pairs))

read_there : (pairs : List Pair) (o : Option ℕ) (l : Option Pair) → IsAt pairs o l →
    l ≡ option_and_then (slice_get pairs) o
unfolding IsAt
read_there pairs None None h = refl
read_there pairs (Some place) (Some pair) h = sym h
read_there pairs None (Some pair) h = absurd h
read_there pairs (Some place) None h = absurd h

pub latest-at : (name : List ℕ) (pairs : List Pair) → latest name pairs ≡ option_and_then (slice_get pairs) (spot name pairs)
latest-at name pairs = read_there pairs (spot name pairs) (latest name pairs) (is_at_spot name pairs)

-- ---- the places from a start on

some_at : (pairs : List Pair) (o : Option ℕ) (l : Option Pair) → IsAt pairs o l →
    is_some l ≡ option_map_or (nat_le 0) o false
unfolding IsAt
some_at pairs None None h = refl
some_at pairs (Some place) (Some pair) h = grind (arith, common_steps)
some_at pairs None (Some pair) h = absurd h
some_at pairs (Some place) None h = absurd h

next_start : (start : ℕ) (b : Bool) (o : Option ℕ) (there : Bool) → there ≡ option_map_or (nat_le start) o false →
    there ≡ option_map_or (nat_le (suc start)) (option_or (option_map suc o) (cond b (Some 0) None)) false
next_start start true None there h = h ∙ grind (arith, common_steps)
next_start start false None there h = h
next_start start b (Some place) there h = h ∙ grind (arith, common_steps)

pub latest-drop : (name : List ℕ) (start : ℕ) (pairs : List Pair) →
    is_some (latest name (drop start pairs)) ≡ option_map_or (nat_le start) (spot name pairs) false
unfolding spot
latest-drop name zero pairs = some_at pairs (spot name pairs) (latest name pairs) (is_at_spot name pairs)
latest-drop name (suc start) [] = refl
latest-drop name (suc start) (pair ∷ pairs) =
    next_start start (is_named name pair) (spot name pairs) (is_some (latest name (drop start pairs)))
    (latest-drop name start pairs)

-- ---- links

links-push : (before : List Pair) (held : List Held) (one : Held) → AreLinked before held →
    one.hides ≡ spot one.pair.name (before ++ pairs_of held) → AreLinked before (held ++ one ∷ [])
links-push before [] one links h = (h ∙ ap (spot one.pair.name) (append-nil before), tt)
links-push before (first ∷ held) one links h = (
  links.0,
  links-push (before ++ first.pair ∷ []) held one links.1
      (h ∙ ap (spot one.pair.name) (sym (append_assoc before (first.pair ∷ []) (pairs_of held)))),
)

links-pop : (before : List Pair) (held : List Held) (one : Held) → AreLinked before (held ++ one ∷ []) →
    AreLinked before held × (one.hides ≡ spot one.pair.name (before ++ pairs_of held))
links-pop before [] one links = (tt, links.0 ∙ ap (spot one.pair.name) (sym (append-nil before)))
links-pop before (first ∷ held) one links =
    let below = links-pop (before ++ first.pair ∷ []) held one links.1 in
    ((links.0, below.0), below.1 ∙ ap (spot one.pair.name) (append_assoc before (first.pair ∷ []) (pairs_of held)))

-- ---- one more, and one less

abbrev pub there : BTreeMap (List ℕ) ℕ → List ℕ → Option ℕ
there places name = get (slice_cmp nat_cmp) places name

moved : (name : List ℕ) (place : Option ℕ) (old new : BTreeMap (List ℕ) ℕ) → Moves name place old new → (query : List ℕ) →
    there new query ≡ cond (bytes_eq name query) place (there old query)
moved name place old new moves query =
    moves query ∙ ap (λ b. cond b place (there old query)) (is_eq-slice_cmp name query)

pub added : (held : List Held) (old new : BTreeMap (List ℕ) ℕ) (one : Held) → IsIndexed held old →
    one.hides ≡ there old one.pair.name → Moves one.pair.name (Some (length held)) old new → IsIndexed (held ++ one ∷ []) new
added held old new one indexed hides moves = record {
  links = links-push [] held one indexed.links (hides ∙ indexed.known one.pair.name);
  known = λ name.
      moved one.pair.name (Some (length held)) old new moves name ∙
      ap (cond (bytes_eq one.pair.name name) (Some (length held))) (indexed.known name) ∙
      ap (λ n. cond (bytes_eq one.pair.name name) (Some n) (spot name (pairs_of held))) (sym (length-map held (λ one. one.pair))) ∙
      sym (spot-push name (pairs_of held) one.pair) ∙
      ap (spot name) (sym (map-append (λ one. one.pair) held (one ∷ [])));
}

-- without the last one, a name has the place of what that one hid
restored : (name own : List ℕ) (pairs : List Pair) (n : ℕ) (b : Bool) → bytes_eq own name ≡ b →
    cond b (spot own pairs) (cond b (Some n) (spot name pairs)) ≡ spot name pairs
restored name own pairs n true e = ap (λ x. spot x pairs) ((bytes_eq-Decides own name).0 e)
restored name own pairs n false e = refl

last_held : (held : List Held) (one : Held) (places : BTreeMap (List ℕ) ℕ) → IsIndexed (held ++ one ∷ []) places →
    (name : List ℕ) →
    there places name ≡ cond (bytes_eq one.pair.name name) (Some (length (pairs_of held))) (spot name (pairs_of held))
last_held held one places indexed name =
    indexed.known name ∙ ap (spot name) (map-append (λ one. one.pair) held (one ∷ [])) ∙
    spot-push name (pairs_of held) one.pair

pub popped : (held : List Held) (one : Held) (old new : BTreeMap (List ℕ) ℕ) → IsIndexed (held ++ one ∷ []) old →
    Moves one.pair.name one.hides old new → IsIndexed held new
popped held one old new indexed moves =
    let links = links-pop [] held one indexed.links in
    record {
      links = links.0;
      known = λ name.
          moved one.pair.name one.hides old new moves name ∙
          ap (λ hides. cond (bytes_eq one.pair.name name) hides (there old name)) links.1 ∙
          ap (cond (bytes_eq one.pair.name name) (spot one.pair.name (pairs_of held))) (last_held held one old indexed name) ∙
          restored name one.pair.name (pairs_of held) (length (pairs_of held)) (bytes_eq one.pair.name name) refl;
    }

pub is_there : (held : List Held) (one : Held) (places : BTreeMap (List ℕ) ℕ) → IsIndexed (held ++ one ∷ []) places →
    IsSome (there places one.pair.name)
is_there held one places indexed =
    ap is_some (last_held held one places indexed one.pair.name) ∙
    ap (λ b. is_some (cond b (Some (length (pairs_of held))) (spot one.pair.name (pairs_of held))))
    ((bytes_eq-Decides one.pair.name one.pair.name).1 refl)

-- the last one, and those before it
whole : (held : List Held) (last : ℕ) (one : Held) → length held ≡ last + 1 → one ≡ get_or held last one →
    held ≡ take last held ++ one ∷ []
whole held last one n is =
    sym (take_all (last + 1) held (omega (arith, n))) ∙ take_more held last one (omega (arith, n)) ∙
    ap (λ item. take last held ++ item ∷ []) (sym is)

split : (held : List Held) (last : ℕ) (one : Held) (places : BTreeMap (List ℕ) ℕ) → length held ≡ last + 1 →
    one ≡ get_or held last one → IsIndexed held places → IsIndexed (take last held ++ one ∷ []) places
split held last one places n is indexed = subst (λ all. IsIndexed all places) (whole held last one n is) indexed

pub taken_off : (held : List Held) (last : ℕ) (one : Held) (old new : BTreeMap (List ℕ) ℕ) → length held ≡ last + 1 →
    one ≡ get_or held last one → IsIndexed held old → Moves one.pair.name one.hides old new → IsIndexed (take last held) new
taken_off held last one old new n is indexed moves =
    popped (take last held) one old new (split held last one old n is indexed) moves

pub last_is_there : (held : List Held) (last : ℕ) (one : Held) (places : BTreeMap (List ℕ) ℕ) → length held ≡ last + 1 →
    one ≡ get_or held last one → IsIndexed held places → IsSome (there places one.pair.name)
last_is_there held last one places n is indexed =
    is_there (take last held) one places (split held last one places n is indexed)

pub undone : (held : List Held) (old new : BTreeMap (List ℕ) ℕ) → IsIndexed held old → IsUnchanged old new → IsIndexed held new
undone held old new indexed same = record {
  links = indexed.links;
  known = λ name. ap (lookup (is_at (slice_cmp nat_cmp name))) same ∙ indexed.known name;
}

-- the same with what is known where one was added
pub added_noted : (held now : List Held) (old new : BTreeMap (List ℕ) ℕ) (one : Held) (name : List ℕ) (place : ℕ) →
    IsIndexed held old → one.hides ≡ there old one.pair.name → name ≡ one.pair.name → place ≡ length held →
    now ≡ held ++ one ∷ [] → Moves name (Some place) old new → IsIndexed now new
added_noted held now old new one name place indexed hides named placed grown moves =
    let at_end : Moves name (Some (length held)) old new =
    subst (λ n. Moves name (Some n) old new) placed moves in
    let own : Moves one.pair.name (Some (length held)) old new =
    subst (λ text. Moves text (Some (length held)) old new) named at_end in
    subst (λ all. IsIndexed all new) (sym grown) (added held old new one indexed hides own)

pub undone_noted : (held now : List Held) (old new : BTreeMap (List ℕ) ℕ) → IsIndexed held old → now ≡ held →
    IsUnchanged old new → IsIndexed now new
undone_noted held now old new indexed back same =
    subst (λ all. IsIndexed all new) (sym back) (undone held old new indexed same)

-- ---- what a look-up finds

read_pair : (held : List Held) (o : Option ℕ) →
    option_and_then (slice_get (pairs_of held)) o ≡ option_map (λ one. one.pair) (option_and_then (slice_get held) o)
read_pair held None = refl
read_pair held (Some place) = slice_get-map (λ one. one.pair) held place

pub found_at : (held : List Held) (places : BTreeMap (List ℕ) ℕ) → IsIndexed held places → (name : List ℕ) →
    latest name (pairs_of held) ≡ option_map (λ one. one.pair) (option_and_then (slice_get held) (there places name))
found_at held places indexed name =
    latest-at name (pairs_of held) ∙ ap (option_and_then (slice_get (pairs_of held))) (sym (indexed.known name)) ∙
    read_pair held (there places name)

-- whether it stands at this start or behind it
pub stands_at : (held : List Held) (places : BTreeMap (List ℕ) ℕ) → IsIndexed held places → (name : List ℕ) (start : ℕ) →
    is_some (latest name (drop start (pairs_of held))) ≡ option_map_or (nat_le start) (there places name) false
stands_at held places indexed name start =
    latest-drop name start (pairs_of held) ∙
    ap (λ o. option_map_or (nat_le start) o false) (sym (indexed.known name))
