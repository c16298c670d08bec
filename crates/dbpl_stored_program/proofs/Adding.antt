-- A set is made by adding its records one at a time, and there is none where one clashes with those before it.
use Rattle.std.proofs.Common.{◌≡◌, ◌<◌, ◌≤◌, ◌+◌, ℕ, Bool, true, false, not, ◌&&◌, ◌||◌, List, [], ◌∷◌, length, get_or, drop, map, Option, Some, None, refl, ap, sym, ◌∙◌}
use Rattle.std.proofs.lemmas.List.{drop_all, drop_more}
use Rattle.std.proofs.lemmas.List.Folds.{list_all-map}
use Rattle.std.specs.List.{list_all, list_any}
use Rattle.std.specs.Prelude.{ℤ, if◌then◌else◌}
use Rattle.dbpl_stored_program.specs.Sets.{agree, clash, record_of, set_of}
use Rattle.dbpl_value.proofs.EqualityLemmas.{is_same-equal}
use Rattle.dbpl_relation.proofs.OfType.{is_Rel-parts, is_of-Rel, parts_of-Rel}
use Rattle.dbpl_value.specs.Equality.{is_same}
use Rattle.dbpl_relation.specs.Relations.{have_one_key, stands_before, is_relation_type, merged, put}
use Rattle.dbpl_value.proofs.KeyOrder.{list_all-get_or}
use Rattle.dbpl_value.specs.Keys.{parts_of}
use Rattle.dbpl_value.specs.Types.{element_of}
use Rattle.dbpl_value.specs.Values.{is_of}
use Rattle.dbpl_value.specs.declared.db_type.DbType.{DbType}
use Rattle.dbpl_value.specs.declared.value.Value.{Value}
use Rattle.dbpl_value.specs.declared.value.Value.TheVariants as value

-- ---- truth values

or_first : (a b c : Bool) → a || (b || c) ≡ (a || b) || c
or_first true b c = refl
or_first false b c = refl

or_last : (a b : Bool) → a || b ≡ b || a
or_last true true = refl
or_last true false = refl
or_last false true = refl
or_last false false = refl

or_twice : (a b : Bool) → a || b ≡ (a || b) || a
or_twice true b = refl
or_twice false true = refl
or_twice false false = refl

neither-first : (a b : Bool) → a || b ≡ false → a ≡ false
neither-first true b h = h
neither-first false b h = refl

neither-second : (a b : Bool) → a || b ≡ false → b ≡ false
neither-second true b h = cc
neither-second false b h = h

same_then : (same : Bool) → true && not same ≡ false → same ≡ true
same_then true h = refl
same_then false h = cc

apart : (a b c : Bool) → not (a || b) && c ≡ not a && (not b && c)
apart true b c = refl
apart false b c = refl

-- ---- tests of some item

any-or :
    {X : Type 0} (p q : X → Bool) (xs : List X) →
    list_any (λ x. p x || q x) xs ≡ list_any p xs || list_any q xs
any-or p q [] = refl
any-or p q (x ∷ xs) =
    ap (λ rest. (p x || q x) || rest) (any-or p q xs) ∙ both (p x) (q x) (list_any p xs) (list_any q xs)
  where
    both : (a b c d : Bool) → (a || b) || (c || d) ≡ (a || c) || (b || d)
    both true b c d = refl
    both false true true d = refl
    both false true false d = refl
    both false false c d = refl

any-same :
    {X : Type 0} (p q : X → Bool) (xs : List X) → ((x : X) → p x ≡ q x) → list_any p xs ≡ list_any q xs
any-same {X} p q xs e = ap (λ (h : X → Bool). list_any h xs) (λ i x. e x i)

-- the relation of these records
abbrev pub as_relation : Option (List Value) → Option Value
as_relation None = None
as_relation (Some records) = Some (value.Rel records)

module _ (t : DbType) where
  -- one of these clashes with the record
  abbrev pub taken : List Value → Value → Bool
  taken records element = list_any (λ held. clash t held element) records

  -- the records with these added one at a time
  abbrev pub adding : List Value → List Value → Option (List Value)
  adding records [] = Some records
  adding records (element ∷ others) = if taken records element then None else adding (put t records element) others

  put_any-by :
      (p : Value → Bool) (first : Value) (rest : List Value) (element : Value) (before one : Bool) →
      one && not (is_same first element) ≡ false → list_any p (put t rest element) ≡ list_any p rest || p element →
      list_any p (if before then first ∷ put t rest element else if one then element ∷ rest else element ∷ first ∷ rest)
      ≡ (p first || list_any p rest) || p element
  put_any-by p first rest element true one free later = ap (λ b. p first || b) later ∙ or_first (p first) (list_any p rest) (p element)
  put_any-by p first rest element false true free later =
      let same = is_same-equal first element (same_then (is_same first element) free) in
      or_twice (p element) (list_any p rest) ∙ ap (λ x. (p x || list_any p rest) || p element) (sym same)
  put_any-by p first rest element false false free later = or_last (p element) (p first || list_any p rest)

  -- where it clashes with none, one of all passes where one of those before does, or it does
  pub put-any :
      (p : Value → Bool) (records : List Value) (element : Value) → taken records element ≡ false →
      list_any p (put t records element) ≡ list_any p records || p element
  put-any p [] element free = or_last (p element) false
  put-any p (first ∷ rest) element free =
      put_any-by p first rest element (stands_before t first element) (have_one_key t element first)
      (neither-first (clash t first element) (taken rest element) free)
      (put-any p rest element (neither-second (clash t first element) (taken rest element) free))

  abbrev made : Bool → List Value → List Value → Option (List Value)
  made free records others = if free then Some (merged t records others) else None

  adding-by :
      (records : List Value) (element : Value) (others : List Value) (clashes : Bool) → taken records element ≡ clashes →
      adding (put t records element) others
      ≡ made (not (list_any (taken (put t records element)) others) && agree t others) (put t records element) others →
      (if clashes then None else adding (put t records element) others)
      ≡ made (not (clashes || list_any (taken records) others) && (not (list_any (clash t element) others) && agree t others))
      (put t records element) others
  adding-by records element others true e rest = refl
  adding-by records element others false e rest =
      rest
      ∙ ap (λ b. made (not b && agree t others) (put t records element) others)
      (any-same (taken (put t records element)) (λ other. taken records other || clash t element other) others
      (λ other. put-any (λ held. clash t held other) records element e)
      ∙ any-or (taken records) (clash t element) others)
      ∙ ap (λ b. made b (put t records element) others)
      (apart (list_any (taken records) others) (list_any (clash t element) others) (agree t others))

  pub adding-is :
      (records others : List Value) →
      adding records others ≡ made (not (list_any (taken records) others) && agree t others) records others
  adding-is records [] = refl
  adding-is records (element ∷ others) =
      adding-by records element others (taken records element) refl (adding-is (put t records element) others)

  none_taken : (others : List Value) → list_any (taken []) others ≡ false
  none_taken [] = refl
  none_taken (other ∷ others) = none_taken others

  made-set : (free : Bool) (others : List Value) → as_relation (made free [] others) ≡ (if free then Some (value.Rel (merged t [] others)) else None)
  made-set true others = refl
  made-set false others = refl

  -- THE set is what adding one record at a time to none gives
  pub set_of-adding : (others : List Value) → set_of t others ≡ as_relation (adding [] others)
  set_of-adding others =
      sym (ap as_relation (adding-is [] others ∙ ap (λ b. made (not b && agree t others) [] others) (none_taken others))
      ∙ made-set (agree t others) others)

-- ---- the rows of a set expression, one after the other

pub none-is_of :
    (t : DbType) (records : List Value) → is_relation_type t ≡ true → records ≡ [] → is_of t (value.Rel records) ≡ true
none-is_of t records kind e = ap (λ held. is_of t (value.Rel held)) e ∙ is_of-Rel t [] kind

pub one-is_of :
    (t : DbType) (records : List Value) (element : Value) → is_relation_type t ≡ true → records ≡ element ∷ [] →
    is_of (element_of t) element ≡ true → is_of t (value.Rel records) ≡ true
one-is_of t records element kind e h =
    ap (λ held. is_of t (value.Rel held)) e ∙ is_of-Rel t (element ∷ []) kind ∙ rw h refl

module _ (t : DbType) (rows : List (List ℤ)) where
  -- what is made of the rows from this one on
  abbrev pub rest_of : List Value → ℕ → Option (List Value)
  rest_of records i = adding t records (map record_of (drop i rows))

  pub row-is_of :
      (i : ℕ) (row : List ℤ) → list_all (is_of (element_of t)) (map record_of rows) ≡ true → i < length rows →
      row ≡ get_or rows i row → is_of (element_of t) (record_of row) ≡ true
  row-is_of i row all within is =
      ap (λ (r : List ℤ). is_of (element_of t) (record_of r)) is
      ∙ list_all-get_or (λ (r : List ℤ). is_of (element_of t) (record_of r)) rows i row
      (sym (list_all-map (is_of (element_of t)) record_of rows) ∙ all) within

  this_row : (records : List Value) (i : ℕ) (row : List ℤ) → i < length rows → row ≡ get_or rows i row →
      rest_of records i ≡ adding t records (record_of row ∷ map record_of (drop (i + 1) rows))
  this_row records i row within is =
      ap (λ left. adding t records (map record_of left)) (drop_more rows i row within)
      ∙ ap (λ (r : List ℤ). adding t records (record_of r ∷ map record_of (drop (i + 1) rows))) (sym is)

  -- nothing is there yet
  pub adding-none :
      (records : List Value) → records ≡ [] →
      rest_of (parts_of (value.Rel records)) 0 ≡ adding t [] (map record_of rows)
  adding-none records e = ap (λ held. adding t held (map record_of rows)) (parts_of-Rel records ∙ e)

  -- it clashes: there is no set
  pub row-clashes :
      (records : List Value) (i : ℕ) (row : List ℤ) → i < length rows → row ≡ get_or rows i row →
      rest_of records i ≡ adding t [] (map record_of rows) → taken t records (record_of row) ≡ true →
      set_of t (map record_of rows) ≡ None
  row-clashes records i row within is so_far clashes =
      set_of-adding t (map record_of rows)
      ∙ ap as_relation (sym so_far ∙ this_row records i row within is
      ∙ ap (λ b. if b then None else adding t (put t records (record_of row)) (map record_of (drop (i + 1) rows))) clashes)

  -- it doesn't: it is put there
  pub row-put :
      (records : List Value) (i : ℕ) (row : List ℤ) (set : Value) → i < length rows → row ≡ get_or rows i row →
      rest_of records i ≡ adding t [] (map record_of rows) → taken t records (record_of row) ≡ false →
      set ≡ value.Rel (put t records (record_of row)) →
      rest_of (parts_of set) (i + 1) ≡ adding t [] (map record_of rows)
  row-put records i row set within is so_far free e =
      ap (λ records. rest_of records (i + 1)) (ap parts_of e ∙ parts_of-Rel (put t records (record_of row)))
      ∙ sym (this_row records i row within is
      ∙ ap (λ b. if b then None else adding t (put t records (record_of row)) (map record_of (drop (i + 1) rows))) free)
      ∙ so_far

  -- none is left
  pub rows-end :
      (i : ℕ) (set : Value) → length rows ≤ i → is_relation_type t ≡ true → is_of t set ≡ true →
      rest_of (parts_of set) i ≡ adding t [] (map record_of rows) → set_of t (map record_of rows) ≡ Some set
  rows-end i set past kind of_type so_far =
      set_of-adding t (map record_of rows)
      ∙ ap as_relation (sym so_far ∙ ap (λ left. adding t (parts_of set) (map record_of left)) (drop_all i rows past))
      ∙ ap Some (sym (is_Rel-parts t set kind of_type))
