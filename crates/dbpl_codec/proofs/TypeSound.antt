-- A descriptor that is read was spelled so: by induction on the depth.
use Rattle.std.proofs.Common.{◌≡◌, ℕ, zero, suc, ◌<◌, ◌^◌, Bool, true, false, List, [], ◌∷◌, ◌++◌, length, Option, Some, None, refl, sym, ap, subst, ◌∙◌, append_assoc, arith}
use Rattle.std.proofs.lemmas.Bool.{lt-ltb}
use Rattle.std.proofs.lemmas.Bool.Decides.{nat_tests}
use Rattle.std.specs.Cmp.Derive.{both_true}
use Rattle.std.specs.List.{flat_map}
use Rattle.std.specs.Prelude.{nat_eq}
use Rattle.byteorder.specs.Endian.{little_bytes}
use Rattle.dbpl_value.specs.declared.db_type.DbType.{DbType}
use Rattle.dbpl_value.specs.declared.db_type.DbType.TheVariants as types
use Rattle.dbpl_value.specs.declared.field.Field.{Field}
use Rattle.dbpl_codec.proofs.ByteLaws.{IsBytes, IsBytes-rest, some_is, word_at-takes}
use Rattle.dbpl_codec.proofs.ListLaws.{Sound, Spelled, bind_some, repeat-sound}
use Rattle.dbpl_codec.proofs.TypeBytes.{field_bytes, type_bytes-Arr, type_bytes-Bool, type_bytes-Card, type_bytes-Char, type_bytes-Enum, type_bytes-Int, type_bytes-Rec, type_bytes-Rel, type_bytes-Sub}
use Rattle.dbpl_value.proofs.TypeKinds.{is_within, within-Arr, within-Bool, within-Card, within-Char, within-Enum, within-Int, within-Rec, within-Rel, within-Sub}
use Rattle.dbpl_codec.proofs.TypeFits.{field_fits, type_fits-Arr, type_fits-Bool, type_fits-Card, type_fits-Char, type_fits-Enum, type_fits-Int, type_fits-Rec, type_fits-Rel, type_fits-Sub}
use Rattle.dbpl_codec.proofs.TypeReadLaws.{Spells, field_pair, long-sound, name-sound, names-sound, one}
use Rattle.dbpl_codec.specs.Numbers.{count_bytes, long_bytes, name_bytes, names_bytes}
use Rattle.dbpl_codec.specs.Reading.{Reader, ◌>>=◌, repeat, word_at}
use Rattle.dbpl_codec.specs.TypeReading.{array_at, enumeration_at, field_at, kind_at, long_at, name_at, names_at, record_at, relation_at, subrange_at, type_at}
use Rattle.dbpl_codec.specs.TypeSpelling.{type_bytes, type_fits}

-- what was read behind the first byte of a kind was spelled so
abbrev SpelledAs : ℕ → ℕ → List ℕ → DbType → List ℕ → Type 0
SpelledAs depth kind bytes t rest = Spelled (is_within (suc depth) t) (type_fits t) (kind ∷ bytes) (type_bytes t) rest

-- the same of another descriptor and other bytes that they are
moved :
    (depth kind : ℕ) (bytes : List ℕ) (t u : DbType) (rest other : List ℕ) → one t rest ≡ Some (u, other) →
    SpelledAs depth kind bytes t rest → SpelledAs depth kind bytes u other
moved depth kind bytes t u rest other e spelled =
    subst (λ (x : DbType × List ℕ). SpelledAs depth kind bytes x.0 x.1) (some_is (t, rest) (u, other) e) spelled

field-sound :
    (typed : DbType → Bool) (read : Reader DbType) → Spells typed read →
    Sound (λ (field : Field). typed field.kind) field_fits field_bytes (field_at read)
unfolding field_at
field-sound typed read law bytes field rest h e =
    let first =
    bind_some (name_at bytes) (λ name. read name.1 >>= λ kind. Some (field_pair name.0 kind.0 kind.1)) (field, rest) e
    in
    let text = name-sound bytes first.0.0 first.0.1 h first.1 in
    let second = bind_some (read first.0.1) (λ kind. Some (field_pair first.0.0 kind.0 kind.1)) (field, rest) first.2 in
    let kind = law first.0.1 second.0.0 second.0.1 text.left second.1 in
    let made : Field = record { name = first.0.0; kind = second.0.0 } in
    let same = some_is (made, second.0.1) (field, rest) second.2 in
    let spelled : Spelled (typed made.kind) (field_fits made) bytes (field_bytes made) second.0.1 = record {
      sort = kind.sort;
      fit = both_true text.fit kind.fit;
      parts = text.parts ∙ ap (λ (bs : List ℕ). name_bytes first.0.0 ++ bs) kind.parts
          ∙ sym (append_assoc (name_bytes first.0.0) (type_bytes second.0.0) second.0.1);
      left = kind.left;
    }
    in
    subst (λ (x : Field × List ℕ). Spelled (typed x.0.kind) (field_fits x.0) bytes (field_bytes x.0) x.1) same spelled

enumeration_spelled :
    (depth : ℕ) (bytes : List ℕ) (t : DbType) (rest : List ℕ) → IsBytes bytes → enumeration_at bytes ≡ Some (t, rest) →
    SpelledAs depth 5 bytes t rest
unfolding enumeration_at
enumeration_spelled depth bytes t rest h e =
    let first = bind_some (names_at bytes) (λ names. Some (types.Enum names.0, names.1)) (t, rest) e in
    let names = first.0.0 in
    let got = names-sound bytes names first.0.1 h first.1 in
    moved depth 5 bytes (types.Enum names) t first.0.1 rest first.2 (record {
      sort = within-Enum depth names;
      fit = type_fits-Enum names ∙ got.fit;
      parts = ap (λ (bs : List ℕ). 5 ∷ bs) got.parts ∙ ap (λ (bs : List ℕ). bs ++ first.0.1) (sym (type_bytes-Enum names));
      left = got.left;
    })

abbrev none : {A : Type 0} → Option A
none = None

nothing : {A : Type 0} (x : A) → none {A = A} ≡ Some x → ⊥
nothing x e = cc

-- no kind has a number above 9
no_kind : (kind : ℕ) (read : Reader DbType) (bytes : List ℕ) → 9 < kind → kind_at read kind bytes ≡ None
unfolding kind_at
no_kind kind read bytes h =
    let n1 : nat_eq kind 1 ≡ false = grind (arith, nat_tests) in
    let n2 : nat_eq kind 2 ≡ false = grind (arith, nat_tests) in
    let n3 : nat_eq kind 3 ≡ false = grind (arith, nat_tests) in
    let n4 : nat_eq kind 4 ≡ false = grind (arith, nat_tests) in
    let n5 : nat_eq kind 5 ≡ false = grind (arith, nat_tests) in
    let n6 : nat_eq kind 6 ≡ false = grind (arith, nat_tests) in
    let n7 : nat_eq kind 7 ≡ false = grind (arith, nat_tests) in
    let n8 : nat_eq kind 8 ≡ false = grind (arith, nat_tests) in
    let n9 : nat_eq kind 9 ≡ false = grind (arith, nat_tests) in
    rw (n1, n2, n3, n4, n5, n6, n7, n8, n9) refl

module _ (depth : ℕ) (law : Spells (is_within depth) (type_at depth)) where
  subrange_spelled :
      (bytes : List ℕ) (t : DbType) (rest : List ℕ) → IsBytes bytes → subrange_at (type_at depth) bytes ≡ Some (t, rest) →
      SpelledAs depth 6 bytes t rest
  unfolding subrange_at
  subrange_spelled bytes t rest h e =
      let first =
      bind_some (type_at depth bytes) (λ host. long_at host.1 >>= λ least. long_at least.1 >>= λ greatest.
      Some (types.Sub host.0 least.0 greatest.0, greatest.1)) (t, rest) e
      in
      let host = first.0.0 in
      let one_got = law bytes host first.0.1 h first.1 in
      let second =
      bind_some (long_at first.0.1) (λ least. long_at least.1 >>= λ greatest.
      Some (types.Sub host least.0 greatest.0, greatest.1)) (t, rest) first.2
      in
      let least = second.0.0 in
      let two_got = long-sound first.0.1 least second.0.1 one_got.left second.1 in
      let third =
      bind_some (long_at second.0.1) (λ greatest. Some (types.Sub host least greatest.0, greatest.1)) (t, rest) second.2
      in
      let greatest = third.0.0 in
      let three_got = long-sound second.0.1 greatest third.0.1 two_got.left third.1 in
      let behind = third.0.1 in
      moved depth 6 bytes (types.Sub host least greatest) t behind rest third.2 (record {
        sort = within-Sub depth host least greatest ∙ one_got.sort;
        fit = type_fits-Sub host least greatest ∙ both_true (both_true one_got.fit two_got.fit) three_got.fit;
        parts = ap (λ (bs : List ℕ). 6 ∷ bs) (one_got.parts
            ∙ ap (λ (bs : List ℕ). type_bytes host ++ bs) (two_got.parts
            ∙ ap (λ (bs : List ℕ). long_bytes least ++ bs) three_got.parts
            ∙ sym (append_assoc (long_bytes least) (long_bytes greatest) behind))
            ∙ sym (append_assoc (type_bytes host) (long_bytes least ++ long_bytes greatest) behind))
            ∙ ap (λ (bs : List ℕ). bs ++ behind) (sym (type_bytes-Sub host least greatest));
        left = three_got.left;
      })

  array_spelled :
      (bytes : List ℕ) (t : DbType) (rest : List ℕ) → IsBytes bytes → array_at (type_at depth) bytes ≡ Some (t, rest) →
      SpelledAs depth 7 bytes t rest
  unfolding array_at
  array_spelled bytes t rest h e =
      let first =
      bind_some (type_at depth bytes) (λ index. type_at depth index.1 >>= λ element.
      Some (types.Arr index.0 element.0, element.1)) (t, rest) e
      in
      let index = first.0.0 in
      let one_got = law bytes index first.0.1 h first.1 in
      let second =
      bind_some (type_at depth first.0.1) (λ element. Some (types.Arr index element.0, element.1)) (t, rest) first.2
      in
      let element = second.0.0 in
      let behind = second.0.1 in
      let two_got = law first.0.1 element behind one_got.left second.1 in
      moved depth 7 bytes (types.Arr index element) t behind rest second.2 (record {
        sort = within-Arr depth index element ∙ both_true one_got.sort two_got.sort;
        fit = type_fits-Arr index element ∙ both_true one_got.fit two_got.fit;
        parts = ap (λ (bs : List ℕ). 7 ∷ bs) (one_got.parts ∙ ap (λ (bs : List ℕ). type_bytes index ++ bs) two_got.parts
            ∙ sym (append_assoc (type_bytes index) (type_bytes element) behind))
            ∙ ap (λ (bs : List ℕ). bs ++ behind) (sym (type_bytes-Arr index element));
        left = two_got.left;
      })

  record_spelled :
      (bytes : List ℕ) (t : DbType) (rest : List ℕ) → IsBytes bytes → record_at (type_at depth) bytes ≡ Some (t, rest) →
      SpelledAs depth 8 bytes t rest
  unfolding record_at
  record_spelled bytes t rest h e =
      let read = field_at (type_at depth) in
      let head =
      bind_some (word_at bytes) (λ n. repeat read n.0 [] n.1 >>= λ fields. Some (types.Rec fields.0, fields.1)) (t, rest) e
      in
      let word = word_at-takes bytes head.0.0 head.0.1 h head.1 in
      let second =
      bind_some (repeat read head.0.0 [] head.0.1) (λ fields. Some (types.Rec fields.0, fields.1)) (t, rest) head.2
      in
      let behind = second.0.1 in
      let got =
      repeat-sound (λ (field : Field). is_within depth field.kind) field_fits field_bytes read
      (field-sound (is_within depth) (type_at depth) law) head.0.0 [] head.0.1 second.0.0 behind word.left second.1
      in
      let fields = got.items in
      let below : length fields < 2 ^ 32 = rw got.long word.below in
      let same : one (types.Rec fields) behind ≡ Some (t, rest) =
      ap (λ (fs : List Field). one (types.Rec fs) behind) (sym got.behind) ∙ second.2
      in
      moved depth 8 bytes (types.Rec fields) t behind rest same (record {
        sort = within-Rec depth fields ∙ got.spelled.sort;
        fit = type_fits-Rec fields ∙ both_true (lt-ltb (length fields) (2 ^ 32) below) got.spelled.fit;
        parts = ap (λ (bs : List ℕ). 8 ∷ bs) (word.parts ∙ ap (λ (n : ℕ). little_bytes 4 n ++ head.0.1) (sym got.long)
            ∙ ap (λ (bs : List ℕ). count_bytes fields ++ bs) got.spelled.parts
            ∙ sym (append_assoc (count_bytes fields) (flat_map field_bytes fields) behind))
            ∙ ap (λ (bs : List ℕ). bs ++ behind) (sym (type_bytes-Rec fields));
        left = got.spelled.left;
      })

  relation_spelled :
      (bytes : List ℕ) (t : DbType) (rest : List ℕ) → IsBytes bytes → relation_at (type_at depth) bytes ≡ Some (t, rest) →
      SpelledAs depth 9 bytes t rest
  unfolding relation_at
  relation_spelled bytes t rest h e =
      let first =
      bind_some (names_at bytes) (λ keys. type_at depth keys.1 >>= λ of. Some (types.Rel keys.0 of.0, of.1)) (t, rest) e
      in
      let keys = first.0.0 in
      let one_got = names-sound bytes keys first.0.1 h first.1 in
      let second = bind_some (type_at depth first.0.1) (λ of. Some (types.Rel keys of.0, of.1)) (t, rest) first.2 in
      let record_type = second.0.0 in
      let behind = second.0.1 in
      let two_got = law first.0.1 record_type behind one_got.left second.1 in
      moved depth 9 bytes (types.Rel keys record_type) t behind rest second.2 (record {
        sort = within-Rel depth keys record_type ∙ two_got.sort;
        fit = type_fits-Rel keys record_type ∙ both_true one_got.fit two_got.fit;
        parts = ap (λ (bs : List ℕ). 9 ∷ bs) (one_got.parts ∙ ap (λ (bs : List ℕ). names_bytes keys ++ bs) two_got.parts
            ∙ sym (append_assoc (names_bytes keys) (type_bytes record_type) behind))
            ∙ ap (λ (bs : List ℕ). bs ++ behind) (sym (type_bytes-Rel keys record_type));
        left = two_got.left;
      })

  -- ---- the first byte

  plain_spelled :
      (kind : ℕ) (bytes : List ℕ) (t u : DbType) (rest : List ℕ) → IsBytes bytes → is_within (suc depth) t ≡ true →
      type_fits t ≡ true → type_bytes t ≡ kind ∷ [] → one t bytes ≡ Some (u, rest) → SpelledAs depth kind bytes u rest
  plain_spelled kind bytes t u rest h within fits spelling e =
      moved depth kind bytes t u bytes rest e (record {
        sort = within;
        fit = fits;
        parts = ap (λ (bs : List ℕ). bs ++ bytes) (sym spelling);
        left = h;
      })

  kind_spelled :
      (kind : ℕ) (bytes : List ℕ) (t : DbType) (rest : List ℕ) → IsBytes bytes →
      kind_at (type_at depth) kind bytes ≡ Some (t, rest) → SpelledAs depth kind bytes t rest
  unfolding kind_at
  kind_spelled zero bytes t rest h e = absurd cc
  kind_spelled (suc zero) bytes t rest h e =
      plain_spelled 1 bytes types.Int t rest h (within-Int depth) type_fits-Int type_bytes-Int e
  kind_spelled (suc (suc zero)) bytes t rest h e =
      plain_spelled 2 bytes types.Card t rest h (within-Card depth) type_fits-Card type_bytes-Card e
  kind_spelled (suc (suc (suc zero))) bytes t rest h e =
      plain_spelled 3 bytes types.Bool t rest h (within-Bool depth) type_fits-Bool type_bytes-Bool e
  kind_spelled (suc (suc (suc (suc zero)))) bytes t rest h e =
      plain_spelled 4 bytes types.Char t rest h (within-Char depth) type_fits-Char type_bytes-Char e
  kind_spelled (suc (suc (suc (suc (suc zero))))) bytes t rest h e = enumeration_spelled depth bytes t rest h e
  kind_spelled (suc (suc (suc (suc (suc (suc zero)))))) bytes t rest h e = subrange_spelled bytes t rest h e
  kind_spelled (suc (suc (suc (suc (suc (suc (suc zero))))))) bytes t rest h e = array_spelled bytes t rest h e
  kind_spelled (suc (suc (suc (suc (suc (suc (suc (suc zero)))))))) bytes t rest h e = record_spelled bytes t rest h e
  kind_spelled (suc (suc (suc (suc (suc (suc (suc (suc (suc zero))))))))) bytes t rest h e =
      relation_spelled bytes t rest h e
  kind_spelled (suc (suc (suc (suc (suc (suc (suc (suc (suc (suc n)))))))))) bytes t rest h e =
      let kind = suc (suc (suc (suc (suc (suc (suc (suc (suc (suc n))))))))) in
      absurd (nothing (t, rest) (sym (no_kind kind (type_at depth) bytes (omega arith)) ∙ e))

pub type_at-sound : (depth : ℕ) → Spells (is_within depth) (type_at depth)
unfolding type_at
type_at-sound zero bytes t rest h e = absurd cc
type_at-sound (suc depth) [] t rest h e = absurd cc
type_at-sound (suc depth) (kind ∷ bytes) t rest h e =
    kind_spelled depth (type_at-sound depth) kind bytes t rest (IsBytes-rest kind bytes h) e
