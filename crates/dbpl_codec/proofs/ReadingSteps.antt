-- Reading a value, one level of its type at a time.
use Rattle.std.proofs.Common.{◌≡◌, ℕ, ℤ, suc, ◌+◌, ◌-◌, ◌<◌, ◌≤◌, List, [], ◌∷◌, ◌++◌, map, length, drop, get_or, Option, Some, None, Result, refl, ap, sym, subst, ◌∙◌, arith, drop-cons, add-one}
use Rattle.std.proofs.lemmas.List.{drop_all}
use Rattle.dbpl_value.proofs.TypeParts.{by_parts-out}
use Rattle.dbpl_value.specs.Types.{count_of, range_of}
use Rattle.dbpl_value.specs.declared.db_type.DbType.{DbType, DbType-F, map-DbType, out-DbType, roll-DbType, roll-out-DbType}
use Rattle.dbpl_value.specs.declared.db_type.DbType.TheOpen as kinds
use Rattle.dbpl_value.specs.declared.db_type.DbType.TheVariants as types
use Rattle.dbpl_value.specs.declared.db_type.DbType.TheVariants.{rolls-Arr, rolls-Rec, rolls-Rel, rolls-Sub}
use Rattle.dbpl_value.specs.declared.field.Field.{Field}
use Rattle.dbpl_value.specs.declared.value.Value.{Value}
use Rattle.dbpl_value.specs.declared.value.Value.TheVariants as value
use Rattle.dbpl_codec.specs.declared.read_err.ReadErr.{ReadErr}
use Rattle.dbpl_codec.specs.Reading.{Gives, Reader, ◌>>=◌, checked, in_turn, number_at, read_level, reads, repeat, risen, word_at}

-- the readers of the types in one level of a type
abbrev pub readers : DbType-F DbType Field → DbType-F (DbType × Reader Value) (Field × Reader Value)
readers level =
    map-DbType DbType Field (DbType × Reader Value) (Field × Reader Value) (λ part. (part, reads part))
    (λ field. (field, reads field.kind)) level

pub reads-out : (t : DbType) (bytes : List ℕ) → reads t bytes ≡ read_level (readers (out-DbType t)) bytes
reads-out t bytes = ap (λ (read : Reader Value). read bytes) (by_parts-out (Reader Value) read_level t)

pub reads-Sub :
    (host : DbType) (least greatest : ℤ) (bytes : List ℕ) →
    reads (types.Sub host least greatest) bytes
    ≡ (reads host bytes >>= checked (range_of (types.Sub host least greatest)))
reads-Sub host least greatest bytes =
    rw (reads-out (types.Sub host least greatest) bytes, types.outs-Sub host least greatest) refl

abbrev pub array : List Value × List ℕ → Option (Value × List ℕ)
array x = Some (value.Arr x.0, x.1)

abbrev pub compound : List Value × List ℕ → Option (Value × List ℕ)
compound x = Some (value.Rec x.0, x.1)

pub reads-Arr :
    (index element : DbType) (bytes : List ℕ) →
    reads (types.Arr index element) bytes ≡ (repeat (reads element) (count_of index) [] bytes >>= array)
reads-Arr index element bytes = rw (reads-out (types.Arr index element) bytes, types.outs-Arr index element) refl

pub paired : (fields : List Field) →
    map (λ (field : Field × Reader Value). field.1) (map (λ (field : Field). (field, reads field.kind)) fields)
    ≡ map (λ (field : Field). reads field.kind) fields
paired [] = refl
paired (field ∷ fields) = ap (λ (rest : List (Reader Value)). reads field.kind ∷ rest) (paired fields)

pub reads-Rec :
    (fields : List Field) (bytes : List ℕ) →
    reads (types.Rec fields) bytes ≡ (in_turn (map (λ (field : Field). reads field.kind) fields) [] bytes >>= compound)
reads-Rec fields bytes =
    reads-out (types.Rec fields) bytes
    ∙ ap (λ (level : DbType-F DbType Field). read_level (readers level) bytes) (types.outs-Rec fields)
    ∙ ap (λ (reading : List (Reader Value)). in_turn reading [] bytes >>= compound) (paired fields)

abbrev pub records : DbType → List (List ℕ) → ℕ × List ℕ → Option (Value × List ℕ)
records record_type keys n =
    repeat (reads record_type) n.0 [] n.1 >>= risen (types.Rel keys record_type)

pub reads-Rel :
    (keys : List (List ℕ)) (record_type : DbType) (bytes : List ℕ) →
    reads (types.Rel keys record_type) bytes ≡ (word_at bytes >>= records record_type keys)
reads-Rel keys record_type bytes =
    rw (reads-out (types.Rel keys record_type) bytes, types.outs-Rel keys record_type) refl

other_level :
    (t : DbType) (level : DbType-F DbType Field) → level ≡ out-DbType t → (bytes : List ℕ) →
    ((host : DbType) (least greatest : ℤ) → t ≡ types.Sub host least greatest → ⊥) →
    ((index element : DbType) → t ≡ types.Arr index element → ⊥) → ((fields : List Field) → t ≡ types.Rec fields → ⊥) →
    ((keys : List (List ℕ)) (record_type : DbType) → t ≡ types.Rel keys record_type → ⊥) →
    read_level (readers (out-DbType t)) bytes ≡ number_at t bytes
other_level t kinds.Int e bytes s a r k = rw (← e) refl
other_level t kinds.Card e bytes s a r k = rw (← e) refl
other_level t kinds.Bool e bytes s a r k = rw (← e) refl
other_level t kinds.Char e bytes s a r k = rw (← e) refl
other_level t (kinds.Enum names) e bytes s a r k = rw (← e) refl
other_level t (kinds.Sub host least greatest) e bytes s a r k =
    absurd (s host least greatest (sym (roll-out-DbType t) ∙ ap roll-DbType (sym e) ∙ rolls-Sub host least greatest))
other_level t (kinds.Arr index element) e bytes s a r k =
    absurd (a index element (sym (roll-out-DbType t) ∙ ap roll-DbType (sym e) ∙ rolls-Arr index element))
other_level t (kinds.Rec fields) e bytes s a r k =
    absurd (r fields (sym (roll-out-DbType t) ∙ ap roll-DbType (sym e) ∙ rolls-Rec fields))
other_level t (kinds.Rel keys record_type) e bytes s a r k =
    absurd (k keys record_type (sym (roll-out-DbType t) ∙ ap roll-DbType (sym e) ∙ rolls-Rel keys record_type))

pub reads-other :
    (t : DbType) (bytes : List ℕ) → ((host : DbType) (least greatest : ℤ) → t ≡ types.Sub host least greatest → ⊥) →
    ((index element : DbType) → t ≡ types.Arr index element → ⊥) → ((fields : List Field) → t ≡ types.Rec fields → ⊥) →
    ((keys : List (List ℕ)) (record_type : DbType) → t ≡ types.Rel keys record_type → ⊥) →
    reads t bytes ≡ number_at t bytes
reads-other t bytes s a r k = reads-out t bytes ∙ other_level t (out-DbType t) refl bytes s a r k

-- ---- steps

module _ {A B : Type 0} where
  -- a step that failed
  pub fails : (total : Option B) (read : Option A) (f : A → Option B) → total ≡ (read >>= f) → read ≡ None → total ≡ None
  fails total read f e h = e ∙ ap (λ (r : Option A). r >>= f) h

  -- a step that passed
  pub passes :
      (total : Option B) (read : Option A) (f : A → Option B) (x : A) → total ≡ (read >>= f) → read ≡ Some x → total ≡ f x
  passes total read f x e h = e ∙ ap (λ (r : Option A). r >>= f) h

-- one more of so many items
pub repeat-step :
    {A : Type 0} (read : Reader A) (count i : ℕ) (found : List A) (bytes : List ℕ) → i < count →
    repeat read (count - i) found bytes ≡ (read bytes >>= λ x. repeat read (count - (i + 1)) (found ++ x.0 ∷ []) x.1)
unfolding repeat
repeat-step read count i found bytes lt =
    let k : count - i ≡ suc (count - (i + 1)) = omega arith in
    rw k refl

pub repeat-done :
    {A : Type 0} (read : Reader A) (count i : ℕ) (found : List A) (bytes : List ℕ) → count ≤ i →
    repeat read (count - i) found bytes ≡ Some (found, bytes)
unfolding repeat
repeat-done read count i found bytes le =
    let k : count - i ≡ 0 = omega arith in
    rw k refl

-- one more of the items in turn
pub in_turn-step :
    {A F : Type 0} (read : F → Reader A) (fields : List F) (i : ℕ) (field : F) (found : List A) (bytes : List ℕ) →
    i < length fields → field ≡ get_or fields i field →
    in_turn (map read (drop i fields)) found bytes
    ≡ (read field bytes >>= λ x. in_turn (map read (drop (i + 1) fields)) (found ++ x.0 ∷ []) x.1)
unfolding in_turn
in_turn-step read fields i field found bytes lt e = rw (drop-cons fields i field, ← e, add-one) refl

pub in_turn-done :
    {A F : Type 0} (read : F → Reader A) (fields : List F) (i : ℕ) (found : List A) (bytes : List ℕ) →
    length fields ≤ i → in_turn (map read (drop i fields)) found bytes ≡ Some (found, bytes)
unfolding in_turn
in_turn-done read fields i found bytes le = rw (drop_all i fields le) refl

-- what a function gave, where the reading is the same
pub gives-same :
    {X Y : Type 0} (view : X → Y) (result : Result X ReadErr) (read total : Option Y) → total ≡ read →
    Gives view result read → Gives view result total
gives-same view result read total e given = subst (λ (r : Option _). Gives view result r) (sym e) given
