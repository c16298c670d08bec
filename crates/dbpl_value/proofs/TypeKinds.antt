-- What holds of a type of each kind: how deep, how large and how sound it is, by the types that stand in it.
use Rattle.std.proofs.Common.{◌≡◌, ℕ, ℤ, suc, ◌+◌, ◌*◌, ◌<◌, ◌≤◌, ◌&&◌, max, Bool, true, false, List, [], ◌∷◌, map, length, drop, get_or, add-one, drop-cons, refl, sym, ap, subst, ◌∙◌, arith}
use Rattle.std.proofs.lemmas.Bool.Decides.{nat_tests}
use Rattle.std.proofs.lemmas.List.{drop_all}
use Rattle.std.proofs.lemmas.List.Sums.{sum_by-cons}
use Rattle.std.proofs.lemmas.List.Folds.{list_all-append}
use Rattle.std.specs.List.{flat_map, list_all, sum_by}
use Rattle.std.specs.Prelude.{fold, nat_le, sum}
use Rattle.dbpl_value.proofs.TypeParts.{by_answers-out, by_parts-out}
use Rattle.dbpl_value.specs.Types.{count_of, depth_level, depth_of, greatest_of, inside, inside_level, is_sound, keeps_rules, relations_level, relations_of, scalars_level, scalars_of}
use Rattle.dbpl_value.specs.declared.db_type.DbType.{DbType, DbType-F, map-DbType, out-DbType, roll-DbType, roll-out-DbType}
use Rattle.dbpl_value.specs.declared.db_type.DbType.TheOpen as kinds
use Rattle.dbpl_value.specs.declared.db_type.DbType.TheVariants as types
use Rattle.dbpl_value.specs.declared.field.Field.{Field}

-- ---- every type is of one kind

pub record Each (P : DbType → Type 0) : Type 0 where
  pub int : P types.Int
  pub card : P types.Card
  pub bool : P types.Bool
  pub char : P types.Char
  pub enumeration : (names : List (List ℕ)) → P (types.Enum names)
  pub subrange : (host : DbType) (least greatest : ℤ) → P (types.Sub host least greatest)
  pub array : (index element : DbType) → P (types.Arr index element)
  pub compound : (fields : List Field) → P (types.Rec fields)
  pub relation : (keys : List (List ℕ)) (record_type : DbType) → P (types.Rel keys record_type)

pub by_kind : (P : DbType → Type 0) → Each P → (t : DbType) → P t
by_kind P each t = subst P (roll-out-DbType t) (level (out-DbType t))
  where
    level : (l : DbType-F DbType Field) → P (roll-DbType l)
    level kinds.Int = subst P (sym types.rolls-Int) each.int
    level kinds.Card = subst P (sym types.rolls-Card) each.card
    level kinds.Bool = subst P (sym types.rolls-Bool) each.bool
    level kinds.Char = subst P (sym types.rolls-Char) each.char
    level (kinds.Enum names) = subst P (sym (types.rolls-Enum names)) (each.enumeration names)
    level (kinds.Sub host least greatest) =
        subst P (sym (types.rolls-Sub host least greatest)) (each.subrange host least greatest)
    level (kinds.Arr index element) = subst P (sym (types.rolls-Arr index element)) (each.array index element)
    level (kinds.Rec fields) = subst P (sym (types.rolls-Rec fields)) (each.compound fields)
    level (kinds.Rel keys record_type) = subst P (sym (types.rolls-Rel keys record_type)) (each.relation keys record_type)

-- ---- depth

abbrev depths : DbType-F DbType Field → DbType-F ℕ ℕ
depths level = map-DbType DbType Field ℕ ℕ depth_of (λ field. depth_of field.kind) level

depth_of-out : (t : DbType) → depth_of t ≡ depth_level (depths (out-DbType t))
depth_of-out t = by_answers-out ℕ depth_level t

depth_of-Sub : (host : DbType) (least greatest : ℤ) → depth_of (types.Sub host least greatest) ≡ depth_of host + 1
depth_of-Sub host least greatest = rw (depth_of-out (types.Sub host least greatest), types.outs-Sub host least greatest) refl

depth_of-Arr : (index element : DbType) → depth_of (types.Arr index element) ≡ max (depth_of index) (depth_of element) + 1
depth_of-Arr index element = rw (depth_of-out (types.Arr index element), types.outs-Arr index element) refl

depth_of-Rec :
    (fields : List Field) → depth_of (types.Rec fields) ≡ greatest_of (map (λ (field : Field). depth_of field.kind) fields) + 1
depth_of-Rec fields = rw (depth_of-out (types.Rec fields), types.outs-Rec fields) refl

depth_of-Rel :
    (keys : List (List ℕ)) (record_type : DbType) → depth_of (types.Rel keys record_type) ≡ depth_of record_type + 1
depth_of-Rel keys record_type = rw (depth_of-out (types.Rel keys record_type), types.outs-Rel keys record_type) refl

-- within a depth
abbrev pub is_within : ℕ → DbType → Bool
is_within depth t = nat_le (depth_of t) depth

one_down : (a d : ℕ) → nat_le (a + 1) (suc d) ≡ nat_le a d
one_down a d = grind (arith, nat_tests)

both_within : (a b d : ℕ) → nat_le (max a b) d ≡ (nat_le a d && nat_le b d)
both_within a b d = grind (arith, nat_tests)

greater-within : (f : Field → ℕ) (d a : ℕ) (fields : List Field) →
    nat_le (fold max a (map f fields)) d ≡ (nat_le a d && list_all (λ (field : Field). nat_le (f field) d) fields)
greater-within f d a [] = grind (arith, nat_tests)
greater-within f d a (field ∷ fields) =
    greater-within f d (max a (f field)) fields
    ∙ ap (λ (b : Bool). b && list_all (λ (field : Field). nat_le (f field) d) fields) (both_within a (f field) d)
    ∙ and_assoc (nat_le a d) (nat_le (f field) d) (list_all (λ (field : Field). nat_le (f field) d) fields)
  where
    and_assoc : (a b c : Bool) → ((a && b) && c) ≡ (a && (b && c))
    and_assoc true b c = refl
    and_assoc false b c = refl

pub greatest-within :
    (f : Field → ℕ) (d : ℕ) (fields : List Field) →
    nat_le (greatest_of (map f fields)) d ≡ list_all (λ (field : Field). nat_le (f field) d) fields
greatest-within f d fields =
    greater-within f d 0 fields
    ∙ ap (λ (b : Bool). b && list_all (λ (field : Field). nat_le (f field) d) fields) (zero_first d)
  where
    zero_first : (d : ℕ) → nat_le 0 d ≡ true
    zero_first d = grind (arith, nat_tests)

pub within-Sub :
    (d : ℕ) (host : DbType) (least greatest : ℤ) → is_within (suc d) (types.Sub host least greatest) ≡ is_within d host
within-Sub d host least greatest =
    ap (λ (n : ℕ). nat_le n (suc d)) (depth_of-Sub host least greatest) ∙ one_down (depth_of host) d

pub within-Arr :
    (d : ℕ) (index element : DbType) →
    is_within (suc d) (types.Arr index element) ≡ (is_within d index && is_within d element)
within-Arr d index element =
    ap (λ (n : ℕ). nat_le n (suc d)) (depth_of-Arr index element) ∙ one_down (max (depth_of index) (depth_of element)) d
    ∙ both_within (depth_of index) (depth_of element) d

pub within-Rec :
    (d : ℕ) (fields : List Field) →
    is_within (suc d) (types.Rec fields) ≡ list_all (λ (field : Field). is_within d field.kind) fields
within-Rec d fields =
    ap (λ (n : ℕ). nat_le n (suc d)) (depth_of-Rec fields)
    ∙ one_down (greatest_of (map (λ (field : Field). depth_of field.kind) fields)) d
    ∙ greatest-within (λ (field : Field). depth_of field.kind) d fields

pub within-Rel :
    (d : ℕ) (keys : List (List ℕ)) (record_type : DbType) →
    is_within (suc d) (types.Rel keys record_type) ≡ is_within d record_type
within-Rel d keys record_type =
    ap (λ (n : ℕ). nat_le n (suc d)) (depth_of-Rel keys record_type) ∙ one_down (depth_of record_type) d

no_room : (n : ℕ) → nat_le (n + 1) 0 ≡ false
no_room n = grind (arith, nat_tests)

-- a type has some depth
pub within-none : (t : DbType) → is_within 0 t ≡ false
within-none = by_kind (λ t. is_within 0 t ≡ false) (record {
  int = rw (depth_of-out types.Int, types.outs-Int) refl;
  card = rw (depth_of-out types.Card, types.outs-Card) refl;
  bool = rw (depth_of-out types.Bool, types.outs-Bool) refl;
  char = rw (depth_of-out types.Char, types.outs-Char) refl;
  enumeration = λ names. rw (depth_of-out (types.Enum names), types.outs-Enum names) refl;
  subrange = λ host least greatest. ap (λ (n : ℕ). nat_le n 0) (depth_of-Sub host least greatest) ∙ no_room (depth_of host);
  array = λ index element.
      ap (λ (n : ℕ). nat_le n 0) (depth_of-Arr index element) ∙ no_room (max (depth_of index) (depth_of element));
  compound = λ fields.
      ap (λ (n : ℕ). nat_le n 0) (depth_of-Rec fields)
      ∙ no_room (greatest_of (map (λ (field : Field). depth_of field.kind) fields));
  relation = λ keys record_type. ap (λ (n : ℕ). nat_le n 0) (depth_of-Rel keys record_type) ∙ no_room (depth_of record_type);
})

pub within-Int : (d : ℕ) → is_within (suc d) types.Int ≡ true
within-Int d = rw (depth_of-out types.Int, types.outs-Int) (grind (arith, nat_tests))

pub within-Card : (d : ℕ) → is_within (suc d) types.Card ≡ true
within-Card d = rw (depth_of-out types.Card, types.outs-Card) (grind (arith, nat_tests))

pub within-Bool : (d : ℕ) → is_within (suc d) types.Bool ≡ true
within-Bool d = rw (depth_of-out types.Bool, types.outs-Bool) (grind (arith, nat_tests))

pub within-Char : (d : ℕ) → is_within (suc d) types.Char ≡ true
within-Char d = rw (depth_of-out types.Char, types.outs-Char) (grind (arith, nat_tests))

pub within-Enum : (d : ℕ) (names : List (List ℕ)) → is_within (suc d) (types.Enum names) ≡ true
within-Enum d names = rw (depth_of-out (types.Enum names), types.outs-Enum names) (grind (arith, nat_tests))

-- ---- relations inside one another

abbrev relations : DbType-F DbType Field → DbType-F ℕ ℕ
relations level = map-DbType DbType Field ℕ ℕ relations_of (λ field. relations_of field.kind) level

relations_of-out : (t : DbType) → relations_of t ≡ relations_level (relations (out-DbType t))
relations_of-out t = by_answers-out ℕ relations_level t

pub nested-Rec :
    (d : ℕ) (fields : List Field) →
    nat_le (relations_of (types.Rec fields)) d ≡ list_all (λ (field : Field). nat_le (relations_of field.kind) d) fields
nested-Rec d fields =
    ap (λ (n : ℕ). nat_le n d)
    (relations_of-out (types.Rec fields)
    ∙ ap (λ (level : DbType-F DbType Field). relations_level (relations level)) (types.outs-Rec fields))
    ∙ greatest-within (λ (field : Field). relations_of field.kind) d fields

-- ---- scalars

abbrev scalars : DbType-F DbType Field → DbType-F (DbType × ℕ) (Field × ℕ)
scalars level =
    map-DbType DbType Field (DbType × ℕ) (Field × ℕ) (λ part. (part, scalars_of part))
    (λ field. (field, scalars_of field.kind)) level

scalars_of-out : (t : DbType) → scalars_of t ≡ scalars_level (scalars (out-DbType t))
scalars_of-out t = by_parts-out ℕ scalars_level t

pub scalars_of-Arr :
    (index element : DbType) → scalars_of (types.Arr index element) ≡ count_of index * scalars_of element
scalars_of-Arr index element = rw (scalars_of-out (types.Arr index element), types.outs-Arr index element) refl

pub scalars_of-none : scalars_of (types.Rec []) ≡ 1
scalars_of-none = rw (scalars_of-out (types.Rec []), types.outs-Rec []) refl

pub scalars_of-Rec :
    (field : Field) (fields : List Field) →
    scalars_of (types.Rec (field ∷ fields)) ≡ sum_by (λ (f : Field). scalars_of f.kind) (field ∷ fields)
scalars_of-Rec field fields =
    let paired : Field → Field × ℕ = λ f. (f, scalars_of f.kind) in
    scalars_of-out (types.Rec (field ∷ fields))
    ∙ ap (λ (level : DbType-F DbType Field). scalars_level (scalars level)) (types.outs-Rec (field ∷ fields))
    ∙ ap (λ (n : ℕ). scalars_of field.kind + n) (summed fields)
    ∙ sym (sum_by-cons (λ (f : Field). scalars_of f.kind) field fields)
  where
    summed :
        (fields : List Field) →
        sum (map (λ (f : Field × ℕ). f.1) (map (λ (f : Field). (f, scalars_of f.kind)) fields))
        ≡ sum_by (λ (f : Field). scalars_of f.kind) fields
    summed [] = refl
    summed (field ∷ fields) =
        sum_by-cons (λ (n : ℕ). n) (scalars_of field.kind) (map (λ (f : Field × ℕ). f.1) (map (λ (f : Field). (f, scalars_of f.kind)) fields))
        ∙ ap (λ (n : ℕ). scalars_of field.kind + n) (summed fields)
        ∙ sym (sum_by-cons (λ (f : Field). scalars_of f.kind) field fields)

pub scalars_of-other :
    (t : DbType) → ((index element : DbType) → t ≡ types.Arr index element → ⊥) →
    ((fields : List Field) → t ≡ types.Rec fields → ⊥) → scalars_of t ≡ 1
scalars_of-other = by_kind
    (λ t. ((index element : DbType) → t ≡ types.Arr index element → ⊥) → ((fields : List Field) → t ≡ types.Rec fields → ⊥) →
    scalars_of t ≡ 1)
    (record {
      int = λ a r. rw (scalars_of-out types.Int, types.outs-Int) refl;
      card = λ a r. rw (scalars_of-out types.Card, types.outs-Card) refl;
      bool = λ a r. rw (scalars_of-out types.Bool, types.outs-Bool) refl;
      char = λ a r. rw (scalars_of-out types.Char, types.outs-Char) refl;
      enumeration = λ names a r. rw (scalars_of-out (types.Enum names), types.outs-Enum names) refl;
      subrange = λ host least greatest a r.
          rw (scalars_of-out (types.Sub host least greatest), types.outs-Sub host least greatest) refl;
      array = λ index element a r. absurd (a index element refl);
      compound = λ fields a r. absurd (r fields refl);
      relation = λ keys record_type a r. rw (scalars_of-out (types.Rel keys record_type), types.outs-Rel keys record_type) refl;
    })

-- ---- soundness

abbrev insides : DbType-F DbType Field → DbType-F (DbType × List DbType) (Field × List DbType)
insides level =
    map-DbType DbType Field (DbType × List DbType) (Field × List DbType) (λ part. (part, inside part))
    (λ field. (field, inside field.kind)) level

-- where a type keeps the rules itself, what stands inside it decides
inside-decides :
    (t : DbType) (level : DbType-F DbType Field) → out-DbType t ≡ level → keeps_rules t ≡ true →
    is_sound t ≡ list_all keeps_rules (inside_level (insides level))
inside-decides t level e h =
    ap (λ (b : Bool). b && list_all keeps_rules (inside t)) h
    ∙ ap (list_all keeps_rules) (by_parts-out (List DbType) inside_level t)
    ∙ ap (λ (l : DbType-F DbType Field). list_all keeps_rules (inside_level (insides l))) e

pub is_sound-not : (t : DbType) → keeps_rules t ≡ false → is_sound t ≡ false
is_sound-not t h = ap (λ (b : Bool). b && list_all keeps_rules (inside t)) h

pub is_sound-Sub :
    (host : DbType) (least greatest : ℤ) → keeps_rules (types.Sub host least greatest) ≡ true →
    is_sound (types.Sub host least greatest) ≡ is_sound host
is_sound-Sub host least greatest h =
    inside-decides (types.Sub host least greatest) (kinds.Sub host least greatest) (types.outs-Sub host least greatest) h

pub is_sound-Arr :
    (index element : DbType) → keeps_rules (types.Arr index element) ≡ true →
    is_sound (types.Arr index element) ≡ (is_sound index && is_sound element)
is_sound-Arr index element h =
    inside-decides (types.Arr index element) (kinds.Arr index element) (types.outs-Arr index element) h
    ∙ list_all-append keeps_rules (index ∷ inside index) (element ∷ inside element)

pub is_sound-Rec :
    (fields : List Field) → keeps_rules (types.Rec fields) ≡ true →
    is_sound (types.Rec fields) ≡ list_all (λ (field : Field). is_sound field.kind) fields
is_sound-Rec fields h = inside-decides (types.Rec fields) (kinds.Rec fields) (types.outs-Rec fields) h ∙ each fields
  where
    each :
        (fields : List Field) →
        list_all keeps_rules (flat_map (λ (field : Field × List DbType). field.0.kind ∷ field.1)
        (map (λ (field : Field). (field, inside field.kind)) fields))
        ≡ list_all (λ (field : Field). is_sound field.kind) fields
    each [] = refl
    each (field ∷ fields) =
        list_all-append keeps_rules (field.kind ∷ inside field.kind) _
        ∙ ap (λ (b : Bool). is_sound field.kind && b) (each fields)

pub is_sound-Rel :
    (keys : List (List ℕ)) (record_type : DbType) → keeps_rules (types.Rel keys record_type) ≡ true →
    is_sound (types.Rel keys record_type) ≡ is_sound record_type
is_sound-Rel keys record_type h =
    inside-decides (types.Rel keys record_type) (kinds.Rel keys record_type) (types.outs-Rel keys record_type) h

pub is_sound-other :
    (t : DbType) → keeps_rules t ≡ true → ((host : DbType) (least greatest : ℤ) → t ≡ types.Sub host least greatest → ⊥) →
    ((index element : DbType) → t ≡ types.Arr index element → ⊥) → ((fields : List Field) → t ≡ types.Rec fields → ⊥) →
    ((keys : List (List ℕ)) (record_type : DbType) → t ≡ types.Rel keys record_type → ⊥) → is_sound t ≡ true
is_sound-other = by_kind
    (λ t. keeps_rules t ≡ true → ((host : DbType) (least greatest : ℤ) → t ≡ types.Sub host least greatest → ⊥) →
    ((index element : DbType) → t ≡ types.Arr index element → ⊥) → ((fields : List Field) → t ≡ types.Rec fields → ⊥) →
    ((keys : List (List ℕ)) (record_type : DbType) → t ≡ types.Rel keys record_type → ⊥) → is_sound t ≡ true)
    (record {
      int = λ h s a r k. inside-decides types.Int kinds.Int types.outs-Int h;
      card = λ h s a r k. inside-decides types.Card kinds.Card types.outs-Card h;
      bool = λ h s a r k. inside-decides types.Bool kinds.Bool types.outs-Bool h;
      char = λ h s a r k. inside-decides types.Char kinds.Char types.outs-Char h;
      enumeration = λ names h s a r k. inside-decides (types.Enum names) (kinds.Enum names) (types.outs-Enum names) h;
      subrange = λ host least greatest h s a r k. absurd (s host least greatest refl);
      array = λ index element h s a r k. absurd (a index element refl);
      compound = λ fields h s a r k. absurd (r fields refl);
      relation = λ keys record_type h s a r k. absurd (k keys record_type refl);
    })

-- ---- lists that are gone through

module _ {A : Type 0} (p : A → Bool) where
  pub all-stops :
      (xs : List A) (i : ℕ) (x : A) → i < length xs → x ≡ get_or xs i x → p x ≡ false → list_all p (drop i xs) ≡ false
  all-stops xs i x lt e h = rw (drop-cons xs i x, ← e, h) refl

  pub all-goes :
      (xs : List A) (i : ℕ) (x : A) → i < length xs → x ≡ get_or xs i x → p x ≡ true →
      list_all p (drop i xs) ≡ list_all p (drop (i + 1) xs)
  all-goes xs i x lt e h = rw (drop-cons xs i x, ← e, h, add-one) refl

  pub all-done : (xs : List A) (i : ℕ) → length xs ≤ i → list_all p (drop i xs) ≡ true
  all-done xs i le = rw (drop_all i xs le) refl

pub scalars_of-filled :
    (fields : List Field) → (fields ≡ [] → ⊥) → scalars_of (types.Rec fields) ≡ sum_by (λ (f : Field). scalars_of f.kind) fields
scalars_of-filled [] h = absurd (h refl)
scalars_of-filled (field ∷ fields) h = scalars_of-Rec field fields

pub none_at : {A : Type 0} (xs : List A) → length xs ≡ 0 → xs ≡ []
none_at [] h = refl
none_at (x ∷ xs) h = absurd (omega arith)
