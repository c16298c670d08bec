-- Filters of the records of a relation.
use Rattle.std.proofs.Common.{◌≡◌, Bool, true, false, cond, not, ◌||◌, List, [], ◌∷◌, ◌++◌, ◌+◌, ◌<◌, ℕ, length, take, get_or, length-append, refl, ap, sym, ◌∙◌, arith}
use Rattle.std.proofs.lemmas.List.{length-take, take_more}
use Rattle.std.proofs.lemmas.List.Elements.{filter-append}
use Rattle.std.proofs.lemmas.List.Folds.{list_any-append}
use Rattle.std.specs.Cmp.{first_so, second_so}
use Rattle.std.specs.List.{filter, items_where_true, list_all}
use Rattle.dbpl_value.specs.Keys.{keys_rise}
use Rattle.dbpl_value.specs.Types.{element_of}
use Rattle.dbpl_value.specs.Values.{is_of}
use Rattle.dbpl_value.specs.declared.db_type.DbType.{DbType}
use Rattle.dbpl_value.specs.declared.value.Value.{Value}
use Rattle.dbpl_relation.proofs.OfType.{are_records-all, are_records-of, are_records-rise}
use Rattle.dbpl_relation.proofs.Puts.{both_so}
use Rattle.dbpl_relation.specs.Changes.{everywhere, removed}
use Rattle.dbpl_value.specs.Equality.{is_same}
use Rattle.dbpl_relation.specs.Relations.{are_records, is_among, stands_before}

-- what holds of all holds of those that are kept
pub kept-all :
    {X : Type 0} (p : X → Bool) (answers : List Bool) (xs : List X) → list_all p xs ≡ true →
    list_all p (items_where_true answers xs) ≡ true
kept-all p [] xs h = refl
kept-all p (true ∷ answers) [] h = refl
kept-all p (false ∷ answers) [] h = refl
kept-all p (true ∷ answers) (x ∷ xs) h =
    both_so (p x) (list_all p (items_where_true answers xs)) (first_so (p x) (list_all p xs) h)
    (kept-all p answers xs (second_so (p x) (list_all p xs) h))
kept-all p (false ∷ answers) (x ∷ xs) h = kept-all p answers xs (second_so (p x) (list_all p xs) h)

pub kept-rise :
    (t : DbType) (answers : List Bool) (records : List Value) → keys_rise t records ≡ true →
    keys_rise t (items_where_true answers records) ≡ true
kept-rise t [] records h = refl
kept-rise t (true ∷ answers) [] h = refl
kept-rise t (false ∷ answers) [] h = refl
kept-rise t (true ∷ answers) (first ∷ rest) h =
    both_so (list_all (stands_before t first) (items_where_true answers rest)) (keys_rise t (items_where_true answers rest))
    (kept-all (stands_before t first) answers rest (first_so (list_all (stands_before t first) rest) (keys_rise t rest) h))
    (kept-rise t answers rest (second_so (list_all (stands_before t first) rest) (keys_rise t rest) h))
kept-rise t (false ∷ answers) (first ∷ rest) h =
    kept-rise t answers rest (second_so (list_all (stands_before t first) rest) (keys_rise t rest) h)

pub are_records-kept :
    (t : DbType) (answers : List Bool) (records : List Value) → are_records t records ≡ true →
    are_records t (items_where_true answers records) ≡ true
are_records-kept t answers records h =
    are_records-of t (items_where_true answers records)
    (kept-all (is_of (element_of t)) answers records (are_records-all t records h))
    (kept-rise t answers records (are_records-rise t records h))

one-all :
    {X : Type 0} (p : X → Bool) (x : X) (xs : List X) (b : Bool) → p x ≡ true → list_all p xs ≡ true →
    list_all p (cond b (x ∷ xs) xs) ≡ true
one-all p x xs true e h = both_so (p x) (list_all p xs) e h
one-all p x xs false e h = h

-- and of those that pass a test
pub filter-all :
    {X : Type 0} (p test : X → Bool) (xs : List X) → list_all p xs ≡ true → list_all p (filter test xs) ≡ true
filter-all p test [] h = refl
filter-all p test (x ∷ xs) h =
    one-all p x (filter test xs) (test x) (first_so (p x) (list_all p xs) h)
    (filter-all p test xs (second_so (p x) (list_all p xs) h))

one-rises :
    (t : DbType) (first : Value) (rest : List Value) (b : Bool) → list_all (stands_before t first) rest ≡ true →
    keys_rise t rest ≡ true → keys_rise t (cond b (first ∷ rest) rest) ≡ true
one-rises t first rest true h g = both_so (list_all (stands_before t first) rest) (keys_rise t rest) h g
one-rises t first rest false h g = g

pub filter-rises :
    (t : DbType) (test : Value → Bool) (records : List Value) → keys_rise t records ≡ true →
    keys_rise t (filter test records) ≡ true
filter-rises t test [] h = refl
filter-rises t test (first ∷ rest) h =
    one-rises t first (filter test rest) (test first)
    (filter-all (stands_before t first) test rest (first_so (list_all (stands_before t first) rest) (keys_rise t rest) h))
    (filter-rises t test rest (second_so (list_all (stands_before t first) rest) (keys_rise t rest) h))

pub are_records-filter :
    (t : DbType) (test : Value → Bool) (records : List Value) → are_records t records ≡ true →
    are_records t (filter test records) ≡ true
are_records-filter t test records h =
    are_records-of t (filter test records) (filter-all (is_of (element_of t)) test records (are_records-all t records h))
    (filter-rises t test records (are_records-rise t records h))

one_step :
    (x : Value) (behind after_one : List Value) (left : List Value) (b c : Bool) → is_among left x ≡ b →
    behind ≡ removed everywhere after_one left →
    cond (not (b || (c || false))) (x ∷ behind) behind
    ≡ removed everywhere (cond (not (c || false)) (x ∷ after_one) after_one) left
one_step x behind after_one left true true e h = h
one_step x behind after_one left false true e h = h
one_step x behind after_one left true false e h = rw e h
one_step x behind after_one left false false e h = rw e (ap (λ others. x ∷ others) h)

-- the last of the right side, and then the others
pub removed-step :
    (records left : List Value) (other : Value) →
    removed everywhere records (left ++ other ∷ [])
    ≡ removed everywhere (removed everywhere records (other ∷ [])) left
removed-step [] left other = refl
removed-step (x ∷ xs) left other =
    ap
    (λ b. cond (not b) (x ∷ removed everywhere xs (left ++ other ∷ [])) (removed everywhere xs (left ++ other ∷ [])))
    (list_any-append (λ one. is_same one x) left (other ∷ []))
    ∙ one_step x (removed everywhere xs (left ++ other ∷ [])) (removed everywhere xs (other ∷ [])) left (is_among left x)
    (is_same other x) refl (removed-step xs left other)

pub filter-everything : {X : Type 0} (xs : List X) → filter (λ (x : X). true) xs ≡ xs
filter-everything [] = refl
filter-everything (x ∷ xs) = ap (λ ys. x ∷ ys) (filter-everything xs)

-- what is kept of one item more
pub kept-more :
    {X : Type 0} (answers : List Bool) (xs : List X) (answer : Bool) (x : X) → length answers ≡ length xs →
    items_where_true (answers ++ answer ∷ []) (xs ++ x ∷ [])
    ≡ items_where_true answers xs ++ cond answer (x ∷ []) []
kept-more [] [] true x h = refl
kept-more [] [] false x h = refl
kept-more [] (y ∷ ys) answer x h = absurd (omega arith)
kept-more (b ∷ bs) [] answer x h = absurd (omega arith)
kept-more (true ∷ bs) (y ∷ ys) answer x h = ap (λ zs. y ∷ zs) (kept-more bs ys answer x (omega arith))
kept-more (false ∷ bs) (y ∷ ys) answer x h = kept-more bs ys answer x (omega arith)

take_long : {X : Type 0} (xs : List X) (i : ℕ) → i < length xs → length (take i xs) ≡ i
take_long xs i h = rw length-take (omega arith)

-- a list is some of the items of another, in their order
abbrev pub IsSome_of : {X : Type 0} → List X → List X → ℕ → Type 0
IsSome_of kept xs i = (answers : List Bool) × (length answers ≡ i) × (kept ≡ items_where_true answers (take i xs))

pub some_more :
    {X : Type 0} (xs kept now : List X) (i : ℕ) (x : X) (answer : Bool) → i < length xs → x ≡ get_or xs i x →
    now ≡ kept ++ cond answer (x ∷ []) [] → IsSome_of kept xs i → IsSome_of now xs (i + 1)
some_more xs kept now i x answer within is e some =
    let long : length some.0 ≡ length (take i xs) = some.1 ∙ sym (take_long xs i within) in (
      some.0 ++ answer ∷ [],
      length-append some.0 (answer ∷ []) ∙ ap (λ n. n + 1) some.1,
      e ∙ ap (λ zs. zs ++ cond answer (x ∷ []) []) some.2 ∙ sym (kept-more some.0 (take i xs) answer x long)
          ∙ ap (items_where_true (some.0 ++ answer ∷ [])) (sym (take_more xs i x within ∙ ap (λ z. take i xs ++ z ∷ []) (sym is))),
    )

pub filter_more :
    {X : Type 0} (test : X → Bool) (xs kept now : List X) (i : ℕ) (x : X) (answer : Bool) → i < length xs →
    x ≡ get_or xs i x → now ≡ kept ++ cond answer (x ∷ []) [] → answer ≡ test x → kept ≡ filter test (take i xs) →
    now ≡ filter test (take (i + 1) xs)
filter_more test xs kept now i x answer within is e h before =
    e ∙ ap (λ b. kept ++ cond b (x ∷ []) []) h ∙ ap (λ zs. zs ++ cond (test x) (x ∷ []) []) before
    ∙ sym (filter-append test (take i xs) (x ∷ []))
    ∙ ap (filter test) (sym (take_more xs i x within ∙ ap (λ z. take i xs ++ z ∷ []) (sym is)))
