-- The loops that compare keys: two lists are compared, or a part is looked for, from one position on.
use Rattle.std.proofs.Common.{◌≡◌, ◌+◌, ◌-◌, ◌<◌, ◌≤◌, ℕ, min, true, false, if◌then◌else◌, List, [], ◌∷◌, map, length, drop, get_or, Some, None, refl, ap, sym, ◌∙◌, arith, add-one, drop-cons, length-drop}
use Rattle.std.proofs.lemmas.List.{drop_all}
use Rattle.std.proofs.lemmas.Bool.Decides.{nat_tests}
use Rattle.std.specs.Cmp.Lexicographic.{slice_cmp}
use Rattle.std.specs.Ordering.{int_cmp, is_ne, nat_cmp, ordering_then}
use Rattle.std.specs.declared.cmp.Ordering.{Ordering}
use Rattle.std.specs.declared.cmp.Ordering.TheVariants.{Equal, Greater, Less}
use Rattle.dbpl_value.specs.Keys.{component_named, component_of, key_cmp, key_from, key_of, number_of, part_named, parts_of}
use Rattle.dbpl_value.specs.Types.{element_of, fields_of, is_same_name, keys_of}
use Rattle.dbpl_value.specs.declared.db_type.DbType.{DbType}
use Rattle.dbpl_value.specs.declared.field.Field.{Field}
use Rattle.dbpl_value.specs.declared.value.Value.{Value}

-- two values, by the numbers that they are
abbrev pub number_cmp : Value → Value → Ordering
number_cmp a b = int_cmp (number_of a) (number_of b)

-- two key fields of a relation type, by the components that the records a and b have there
abbrev pub named_cmp : DbType → Value → Value → List ℕ → List ℕ → Ordering
named_cmp t a b name other =
    slice_cmp int_cmp (component_named (fields_of (element_of t)) (parts_of a) name)
    (component_named (fields_of (element_of t)) (parts_of b) other)

-- a key field, by the component that the record has there, and a component
abbrev pub given_cmp : DbType → Value → List ℕ → Value → Ordering
given_cmp t element name component =
    slice_cmp int_cmp (component_named (fields_of (element_of t)) (parts_of element) name) (component_of component)

then_ne : (first other : Ordering) → is_ne first ≡ true → ordering_then first other ≡ first
then_ne Less other h = refl
then_ne Equal other h = cc
then_ne Greater other h = refl

then_eq : (first other : Ordering) → is_ne first ≡ false → ordering_then first other ≡ other
then_eq Less other h = cc
then_eq Equal other h = refl
then_eq Greater other h = cc

-- comparing what is left of two lists when one has ended
nat_cmp-less :
    (m n i : ℕ) → min m n ≤ i → i ≤ min m n → nat_cmp (m - i) (n - i) ≡ nat_cmp m n
nat_cmp-less m n i h g = grind (arith, nat_tests)

-- comparing what two functions give of the items
pub slice_cmp-map :
    {A B C : Type 0} (R : C → C → Ordering) (f : A → C) (g : B → C) (xs : List A) (ys : List B) →
    slice_cmp R (map f xs) (map g ys) ≡ slice_cmp (λ x y. R (f x) (g y)) xs ys
slice_cmp-map R f g [] [] = refl
slice_cmp-map R f g [] (y ∷ ys) = refl
slice_cmp-map R f g (x ∷ xs) [] = refl
slice_cmp-map R f g (x ∷ xs) (y ∷ ys) = ap (ordering_then (R (f x) (g y))) (slice_cmp-map R f g xs ys)

module _ {A B : Type 0} (R : A → B → Ordering) where
  at :
      (xs : List A) (ys : List B) (i : ℕ) (x : A) (y : B) → i < length xs → i < length ys → x ≡ get_or xs i x →
      y ≡ get_or ys i y →
      slice_cmp R (drop i xs) (drop i ys) ≡ ordering_then (R x y) (slice_cmp R (drop (i + 1) xs) (drop (i + 1) ys))
  at xs ys i x y hx hy ex ey = rw (drop-cons xs i x, drop-cons ys i y, ← ex, ← ey, add-one) refl

  -- the items at a position differ
  pub slice_cmp-differ :
      (xs : List A) (ys : List B) (i : ℕ) (x : A) (y : B) → i < length xs → i < length ys → x ≡ get_or xs i x →
      y ≡ get_or ys i y → is_ne (R x y) ≡ true → slice_cmp R (drop i xs) (drop i ys) ≡ R x y
  slice_cmp-differ xs ys i x y hx hy ex ey h = at xs ys i x y hx hy ex ey ∙ then_ne (R x y) _ h

  -- they are equal
  pub slice_cmp-tie :
      (xs : List A) (ys : List B) (i : ℕ) (x : A) (y : B) → i < length xs → i < length ys → x ≡ get_or xs i x →
      y ≡ get_or ys i y → is_ne (R x y) ≡ false →
      slice_cmp R (drop i xs) (drop i ys) ≡ slice_cmp R (drop (i + 1) xs) (drop (i + 1) ys)
  slice_cmp-tie xs ys i x y hx hy ex ey h = at xs ys i x y hx hy ex ey ∙ then_eq (R x y) _ h

  ends : (xs : List A) (ys : List B) → min (length xs) (length ys) ≤ 0 → slice_cmp R xs ys ≡ nat_cmp (length xs) (length ys)
  ends [] [] h = refl
  ends [] (y ∷ ys) h = grind (arith, nat_tests)
  ends (x ∷ xs) [] h = grind (arith, nat_tests)
  ends (x ∷ xs) (y ∷ ys) h = absurd (omega arith)

  -- one list has ended
  pub slice_cmp-end :
      (xs : List A) (ys : List B) (i : ℕ) → min (length xs) (length ys) ≤ i → i ≤ min (length xs) (length ys) →
      slice_cmp R (drop i xs) (drop i ys) ≡ nat_cmp (length xs) (length ys)
  slice_cmp-end xs ys i h g =
      let short : min (length (drop i xs)) (length (drop i ys)) ≤ 0 = simp length-drop (omega arith) in
      ends (drop i xs) (drop i ys) short ∙ simp length-drop (nat_cmp-less (length xs) (length ys) i h g)

-- the order of two records is that of their keys from a position on, since the fields before it are equal
pub key_cmp-from :
    (t : DbType) (a b : Value) (keys : List (List ℕ)) (order : Ordering) →
    keys ≡ keys_of t → slice_cmp (named_cmp t a b) keys keys ≡ order → order ≡ key_cmp (key_of t a) (key_of t b)
key_cmp-from t a b keys order e h =
    sym h
    ∙ ap (λ ks. slice_cmp (named_cmp t a b) ks ks) e
    ∙ sym (slice_cmp-map (slice_cmp int_cmp) (component_named (fields_of (element_of t)) (parts_of a))
    (component_named (fields_of (element_of t)) (parts_of b)) (keys_of t) (keys_of t))

pub key_cmp-given :
    (t : DbType) (element : Value) (keys : List (List ℕ)) (key : List Value) (order : Ordering) →
    keys ≡ keys_of t → slice_cmp (given_cmp t element) keys key ≡ order →
    order ≡ key_cmp (key_of t element) (key_from key)
key_cmp-given t element keys key order e h =
    sym h
    ∙ ap (λ ks. slice_cmp (given_cmp t element) ks key) e
    ∙ sym (slice_cmp-map (slice_cmp int_cmp) (component_named (fields_of (element_of t)) (parts_of element))
    component_of (keys_of t) key)

-- no item is left
pub slice_cmp-done :
    {A : Type 0} (R : A → A → Ordering) (xs : List A) (i : ℕ) → length xs ≤ i → slice_cmp R (drop i xs) (drop i xs) ≡ Equal
slice_cmp-done R xs i h = rw (drop_all i xs h) refl

-- the part at a position, or a later one
named_at :
    (fields : List Field) (parts : List Value) (name : List ℕ) (i : ℕ) (field : Field) (part : Value) →
    i < length fields → i < length parts → field ≡ get_or fields i field → part ≡ get_or parts i part →
    part_named (drop i fields) (drop i parts) name
    ≡ if is_same_name field.name name then Some part else part_named (drop (i + 1) fields) (drop (i + 1) parts) name
named_at fields parts name i field part hf hp ef ep =
    rw (drop-cons fields i field, drop-cons parts i part, ← ef, ← ep, add-one) refl

pub part_named-here :
    (fields : List Field) (parts : List Value) (name : List ℕ) (i : ℕ) (field : Field) (part : Value) →
    i < length fields → i < length parts → field ≡ get_or fields i field → part ≡ get_or parts i part →
    is_same_name field.name name ≡ true → part_named (drop i fields) (drop i parts) name ≡ Some part
part_named-here fields parts name i field part hf hp ef ep h =
    named_at fields parts name i field part hf hp ef ep
    ∙ ap (λ same. if same then Some part else part_named (drop (i + 1) fields) (drop (i + 1) parts) name) h

pub part_named-later :
    (fields : List Field) (parts : List Value) (name : List ℕ) (i : ℕ) (field : Field) (part : Value) →
    i < length fields → i < length parts → field ≡ get_or fields i field → part ≡ get_or parts i part →
    is_same_name field.name name ≡ false →
    part_named (drop i fields) (drop i parts) name ≡ part_named (drop (i + 1) fields) (drop (i + 1) parts) name
part_named-later fields parts name i field part hf hp ef ep h =
    named_at fields parts name i field part hf hp ef ep
    ∙ ap (λ same. if same then Some part else part_named (drop (i + 1) fields) (drop (i + 1) parts) name) h

none_left :
    (fields : List Field) (parts : List Value) (name : List ℕ) → min (length fields) (length parts) ≤ 0 →
    part_named fields parts name ≡ None
none_left [] parts name h = refl
none_left (field ∷ fields) [] name h = refl
none_left (field ∷ fields) (part ∷ parts) name h = absurd (omega arith)

pub part_named-end :
    (fields : List Field) (parts : List Value) (name : List ℕ) (i : ℕ) →
    min (length fields) (length parts) ≤ i → part_named (drop i fields) (drop i parts) name ≡ None
part_named-end fields parts name i h =
    let short : min (length (drop i fields)) (length (drop i parts)) ≤ 0 = simp length-drop (omega arith) in
    none_left (drop i fields) (drop i parts) name short
