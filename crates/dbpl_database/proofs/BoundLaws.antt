-- A relation variable that is spelled is read, and what is read was spelled so.
use Rattle.std.proofs.Common.{◌≡◌, ◌&&◌, ◌+◌, ◌^◌, ◌<◌, ℕ, inl, inr, length, get_or, arith, Bool, true, false, if◌then◌else◌, List, [], ◌∷◌, ◌++◌, take, drop, Option, Some, None, refl, sym, ap, subst, ◌∙◌, append_assoc}
use Rattle.std.proofs.lemmas.Bool.{cases_lt, ltb-true}
use Rattle.std.proofs.lemmas.List.{append-nil, get_or-append-add, get_or_append_left, get_or_past, length-append}
use Rattle.std.specs.Cmp.{first_so, second_so}
use Rattle.std.specs.Cmp.Derive.{both_true}
use Rattle.dbpl_base.specs.declared.limits.TheConstants.{TYPE_DEPTH}
use Rattle.dbpl_codec.proofs.ByteLaws.{IsBytes, some_is, word_at-again}
use Rattle.dbpl_codec.proofs.CompleteLaws.{reads-complete}
use Rattle.dbpl_codec.proofs.ListLaws.{Completes, Sound, Spelled, bind_some}
use Rattle.dbpl_codec.proofs.TypeReadLaws.{name-sound}
use Rattle.dbpl_codec.proofs.TypeWhole.{type_found, type_read}
use Rattle.dbpl_codec.proofs.ValueLaws.{reads-sound}
use Rattle.dbpl_codec.proofs.WholeLaws.{whole_some}
use Rattle.dbpl_codec.specs.Numbers.{count_bytes, count_fits, name_bytes}
use Rattle.dbpl_codec.specs.Reading.{◌>>=◌, reads, whole, word_at}
use Rattle.dbpl_codec.specs.TypeReading.{bytes_at, name_at, type_at}
use Rattle.dbpl_codec.specs.TypeSpelling.{type_bytes, type_fits}
use Rattle.dbpl_codec.specs.ValueSpelling.{bytes_of, value_fits}
use Rattle.dbpl_database.proofs.StringSteps.{bytes_long, name_steps}
use Rattle.dbpl_value.specs.Databases.{are_small, is_bound, is_kept, is_kept_name, is_kept_type}
use Rattle.dbpl_database.specs.Reading.{bound_at, bound_from, type_in, value_in}
use Rattle.dbpl_database.specs.Spelling.{bound_bytes, bound_fits}
use Rattle.dbpl_value.specs.Types.{is_sound, is_type}
use Rattle.dbpl_value.specs.Values.{is_of}
use Rattle.dbpl_value.specs.declared.bound.Bound.{Bound}
use Rattle.dbpl_value.specs.declared.db_type.DbType.{DbType}
use Rattle.dbpl_value.specs.declared.value.Value.{Value}

-- what passes a test
pub passed : {A : Type 0} (x y : A) (test : Bool) → (if test then Some x else None) ≡ Some y → (test ≡ true) × (x ≡ y)
passed x y true e = (refl, some_is x y e)
passed x y false e = absurd cc

-- ---- types and values, from all of their bytes

pub type_in-completes : (t : DbType) → is_type t ≡ true → type_fits t ≡ true → type_in (type_bytes t) ≡ Some t
unfolding type_in
type_in-completes t type fits =
    ap (λ (r : Option DbType). r >>= λ u. if is_type u then Some u else None) (type_read t (type_bytes t) type fits refl)
    ∙ rw type refl

pub type_in-sound :
    (bytes : List ℕ) (t : DbType) → IsBytes bytes → type_in bytes ≡ Some t →
    (is_type t ≡ true) × (type_fits t ≡ true) × (bytes ≡ type_bytes t)
unfolding type_in
type_in-sound bytes t h e =
    let step = bind_some (whole (type_at TYPE_DEPTH bytes)) (λ u. if is_type u then Some u else None) t e in
    let both = passed step.0 t (is_type step.0) step.2 in
    let typed : is_type t ≡ true = ap is_type (sym both.1) ∙ both.0 in
    type_found t bytes h (step.1 ∙ ap (λ (u : DbType). Some u) both.1) typed

pub value_in-completes :
    (t : DbType) (v : Value) → is_type t ≡ true → is_of t v ≡ true → value_fits t v ≡ true →
    value_in t (bytes_of t v) ≡ Some v
unfolding value_in
value_in-completes t v type typed fits =
    let sound : is_sound t ≡ true = first_so (is_sound t) _ (first_so _ _ type) in
    ap (λ (r : Option (Value × List ℕ)). whole r)
    (ap (λ (bs : List ℕ). reads t bs) (sym (append-nil (bytes_of t v))) ∙ reads-complete t sound v [] typed fits)

pub value_in-sound :
    (t : DbType) (bytes : List ℕ) (v : Value) → IsBytes bytes → value_in t bytes ≡ Some v →
    (is_of t v ≡ true) × (value_fits t v ≡ true) × (bytes ≡ bytes_of t v)
unfolding value_in
value_in-sound t bytes v h e =
    let spelled = reads-sound t bytes v [] h (whole_some (reads t bytes) v e) in
    (spelled.sort, spelled.fit, spelled.parts ∙ append-nil (bytes_of t v))

-- ---- a relation variable

abbrev pub Strings : Type 0
Strings = List ℕ × List ℕ

abbrev bound_of : List ℕ → DbType → Value → Bound
bound_of name t v = record { name = name; kind = t; rel = v }

abbrev kept : List ℕ → DbType → Value → Option Bound
kept name t v = if is_bound (record { name = name; kind = t; rel = v }) then Some (record { name = name; kind = t; rel = v }) else None

bound_from-completes :
    (bound : Bound) → is_bound bound ≡ true → bound_fits bound ≡ true →
    bound_from bound.name (type_bytes bound.kind) (bytes_of bound.kind bound.rel) ≡ Some bound
unfolding bound_from
bound_from-completes bound typed fits =
    let held = first_so (is_kept bound.name bound.kind && is_of bound.kind bound.rel) (are_small bound.kind bound.rel) typed in
    let type =
    second_so (is_kept_name bound.name) (is_type bound.kind)
    (first_so (is_kept_name bound.name && is_type bound.kind) (is_kept_type bound.kind)
    (first_so (is_kept bound.name bound.kind) (is_of bound.kind bound.rel) held))
    in
    let of = second_so (is_kept bound.name bound.kind) (is_of bound.kind bound.rel) held in
    let fits4 = first_so _ (count_fits (bytes_of bound.kind bound.rel)) fits in
    let value = second_so _ (value_fits bound.kind bound.rel) fits4 in
    let fits3 = first_so _ (value_fits bound.kind bound.rel) fits4 in
    let typed_fits = second_so _ (type_fits bound.kind) (first_so _ (count_fits (type_bytes bound.kind)) fits3) in
    rw (type_in-completes bound.kind type typed_fits, value_in-completes bound.kind bound.rel type of value, typed) refl

-- a string is read from its spelling
front : (xs rest : List ℕ) → take (length xs) (xs ++ rest) ≡ xs
front [] rest = refl
front (x ∷ xs) rest = ap (λ (ys : List ℕ). x ∷ ys) (front xs rest)

behind : (xs rest : List ℕ) → drop (length xs) (xs ++ rest) ≡ rest
behind [] rest = refl
behind (x ∷ xs) rest = behind xs rest

name-again : (name rest : List ℕ) → count_fits name ≡ true → name_at (name_bytes name ++ rest) ≡ Some (name, rest)
name-again name rest fits =
    let count : word_at (name_bytes name ++ rest) ≡ Some (length name, name ++ rest) =
    ap (λ (bytes : List ℕ). word_at bytes) (append_assoc (count_bytes name) name rest)
    ∙ word_at-again (length name) (name ++ rest) (ltb-true (length name) (2 ^ 32) fits)
    in
    let text : bytes_at (length name) (name ++ rest) ≡ Some (name, rest) =
    bytes_long (length name) (name ++ rest) (omega (arith, length-append name rest)) ∙ rw (front name rest, behind name rest) refl
    in
    name_steps (name_bytes name ++ rest) ∙ ap (λ (r : Option (ℕ × List ℕ)). r >>= λ n. bytes_at n.0 n.1) count ∙ text

-- the three strings of a relation variable, one after the other
abbrev behind_kind : Strings → Strings → Strings → Option (Bound × List ℕ)
behind_kind name kind rel = bound_from name.0 kind.0 rel.0 >>= λ bound. Some (bound, rel.1)

abbrev behind_name : Strings → Strings → Option (Bound × List ℕ)
behind_name name kind = name_at kind.1 >>= λ rel. bound_from name.0 kind.0 rel.0 >>= λ bound. Some (bound, rel.1)

abbrev all_strings : Strings → Option (Bound × List ℕ)
all_strings name =
    name_at name.1 >>= λ kind. name_at kind.1 >>= λ rel. bound_from name.0 kind.0 rel.0 >>= λ bound. Some (bound, rel.1)

pub bound-completes : Completes is_bound bound_fits bound_bytes bound_at
unfolding bound_at
bound-completes bound rest typed fits =
    let kind = type_bytes bound.kind in
    let rel = bytes_of bound.kind bound.rel in
    let fits_rel = second_so _ (count_fits rel) fits in
    let fits3 = first_so _ (value_fits bound.kind bound.rel) (first_so _ (count_fits rel) fits) in
    let fits_kind = second_so _ (count_fits kind) fits3 in
    let fits_name = first_so (count_fits bound.name) (type_fits bound.kind) (first_so _ (count_fits kind) fits3) in
    let shape : bound_bytes bound ++ rest ≡ name_bytes bound.name ++ (name_bytes kind ++ (name_bytes rel ++ rest)) =
    append_assoc (name_bytes bound.name) (name_bytes kind ++ name_bytes rel) rest
    ∙ ap (λ (bs : List ℕ). name_bytes bound.name ++ bs) (append_assoc (name_bytes kind) (name_bytes rel) rest)
    in
    let first = name-again bound.name (name_bytes kind ++ (name_bytes rel ++ rest)) fits_name in
    let second = name-again kind (name_bytes rel ++ rest) fits_kind in
    let third = name-again rel rest fits_rel in
    ap (λ (bs : List ℕ). name_at bs >>= all_strings) shape
    ∙ ap (λ (r : Option Strings). r >>= all_strings) first
    ∙ ap (λ (r : Option Strings). r >>= behind_name (bound.name, name_bytes kind ++ (name_bytes rel ++ rest))) second
    ∙ ap (λ (r : Option Strings). r >>= behind_kind (bound.name, name_bytes kind ++ (name_bytes rel ++ rest)) (kind, name_bytes rel ++ rest)) third
    ∙ ap (λ (r : Option Bound). r >>= λ b. Some (b, rest)) (bound_from-completes bound typed fits)

-- a string at the front of bytes has bytes
front-bytes :
    (text rest bytes : List ℕ) → IsBytes bytes → bytes ≡ name_bytes text ++ rest → IsBytes text
front-bytes text rest bytes h e i =
    elim (cases_lt i (length text)) [
      | inl lt ↦ subst (λ (n : ℕ). n < 256) (at lt) (h (length (count_bytes text) + i))
      | inr le ↦ rw (get_or_past text i 0 le) (omega arith)
    ]
  where
    at : i < length text → get_or bytes (length (count_bytes text) + i) 0 ≡ get_or text i 0
    at lt =
        ap (λ (bs : List ℕ). get_or bs (length (count_bytes text) + i) 0) (e ∙ append_assoc (count_bytes text) text rest)
        ∙ get_or-append-add (count_bytes text) (text ++ rest) i 0 ∙ get_or_append_left text rest 0 i lt

-- what a relation variable that was read from three strings is
record IsRead (name kind rel : List ℕ) (bound : Bound) : Type 0 where
  sort : is_bound bound ≡ true
  named : name ≡ bound.name
  type_fit : type_fits bound.kind ≡ true
  kind_is : kind ≡ type_bytes bound.kind
  value_fit : value_fits bound.kind bound.rel ≡ true
  rel_is : rel ≡ bytes_of bound.kind bound.rel

bound_from-sound :
    (name kind rel : List ℕ) (bound : Bound) → IsBytes kind → IsBytes rel → bound_from name kind rel ≡ Some bound →
    IsRead name kind rel bound
unfolding bound_from
bound_from-sound name kind rel bound hk hr e =
    let step = bind_some (type_in kind) (λ t. value_in t rel >>= λ v. kept name t v) bound e in
    let t = step.0 in
    let next = bind_some (value_in t rel) (λ v. kept name t v) bound step.2 in
    let v = next.0 in
    let both = passed (bound_of name t v) bound (is_bound (bound_of name t v)) next.2 in
    let typed = type_in-sound kind t hk step.1 in
    let valued = value_in-sound t rel v hr next.1 in
    subst (λ (b : Bound). IsRead name kind rel b) both.1 (record {
      sort = both.0;
      named = refl;
      type_fit = typed.1;
      kind_is = typed.2;
      value_fit = valued.1;
      rel_is = valued.2;
    })

joined : (a b c d : List ℕ) → a ++ (b ++ (c ++ d)) ≡ (a ++ (b ++ c)) ++ d
joined a b c d = ap (λ (bs : List ℕ). a ++ bs) (sym (append_assoc b c d)) ∙ sym (append_assoc a (b ++ c) d)

abbrev String : List ℕ → List ℕ → List ℕ → Type 0
String bytes text rest = Spelled true (count_fits text) bytes (name_bytes text) rest

assembled :
    (bytes name after_name kind after_kind rel after_rel : List ℕ) (bound : Bound) → IsRead name kind rel bound →
    String bytes name after_name → String after_name kind after_kind → String after_kind rel after_rel →
    Spelled (is_bound bound) (bound_fits bound) bytes (bound_bytes bound) after_rel
assembled bytes name after_name kind after_kind rel after_rel bound read first second third =
    let named : count_fits bound.name ≡ true = rw (← read.named) first.fit in
    let kind_fits : count_fits (type_bytes bound.kind) ≡ true = rw (← read.kind_is) second.fit in
    let rel_fits : count_fits (bytes_of bound.kind bound.rel) ≡ true = rw (← read.rel_is) third.fit in
    let parts : bytes ≡ (name_bytes name ++ (name_bytes kind ++ name_bytes rel)) ++ after_rel =
    first.parts
    ∙ ap (λ (bs : List ℕ). name_bytes name ++ bs)
    (second.parts ∙ ap (λ (bs : List ℕ). name_bytes kind ++ bs) third.parts)
    ∙ joined (name_bytes name) (name_bytes kind) (name_bytes rel) after_rel
    in
    record {
      sort = read.sort;
      fit = both_true (both_true (both_true (both_true named read.type_fit) kind_fits) read.value_fit) rel_fits;
      parts = rw (← read.named, ← read.kind_is, ← read.rel_is) parts;
      left = third.left;
    }

pub bound-sound : Sound is_bound bound_fits bound_bytes bound_at
unfolding bound_at
bound-sound bytes bound rest h e =
    let one = bind_some (name_at bytes) all_strings (bound, rest) e in
    let name = one.0 in
    let two = bind_some (name_at name.1) (behind_name name) (bound, rest) one.2 in
    let kind = two.0 in
    let three = bind_some (name_at kind.1) (behind_kind name kind) (bound, rest) two.2 in
    let rel = three.0 in
    let made = bind_some (bound_from name.0 kind.0 rel.0) (λ b. Some (b, rel.1)) (bound, rest) three.2 in
    let both = some_is (made.0, rel.1) (bound, rest) made.2 in
    let first = name-sound bytes name.0 name.1 h one.1 in
    let second = name-sound name.1 kind.0 kind.1 first.left two.1 in
    let third = name-sound kind.1 rel.0 rel.1 second.left three.1 in
    let read =
    bound_from-sound name.0 kind.0 rel.0 made.0 (front-bytes kind.0 kind.1 name.1 first.left second.parts)
    (front-bytes rel.0 rel.1 kind.1 second.left third.parts) made.1
    in
    subst (λ (x : Bound × List ℕ). Spelled (is_bound x.0) (bound_fits x.0) bytes (bound_bytes x.0) x.1) both
    (assembled bytes name.0 name.1 kind.0 kind.1 rel.0 rel.1 made.0 read first second third)
