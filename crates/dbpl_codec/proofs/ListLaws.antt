-- Lists of items: what is spelled is read, and what is read was spelled so, where that holds of each item.
use Rattle.std.proofs.Common.{◌≡◌, ℕ, zero, suc, Bool, true, List, [], ◌∷◌, ◌++◌, map, length, Option, Some, None, refl, sym, ap, subst, ◌∙◌, arith, append_assoc}
use Rattle.std.proofs.lemmas.List.Concat.{flat_map-cons}
use Rattle.std.specs.Cmp.{first_so, second_so}
use Rattle.std.specs.Cmp.Derive.{both_true}
use Rattle.std.proofs.lemmas.List.{append-nil}
use Rattle.std.specs.List.{AllByRecursion, flat_map, list_all, zip}
use Rattle.dbpl_codec.specs.Reading.{Reader, ◌>>=◌, in_turn, repeat}
use Rattle.dbpl_codec.proofs.ByteLaws.{IsBytes, some_is}

-- what was read is of the right sort, fits, and was spelled so
pub record Spelled (typed fits : Bool) (bytes spelling rest : List ℕ) : Type 0 where
  pub sort : typed ≡ true
  pub fit : fits ≡ true
  pub parts : bytes ≡ spelling ++ rest
  pub left : IsBytes rest

-- the reader reads each item of this sort that fits from its spelling
abbrev pub Completes : {A : Type 0} → (A → Bool) → (A → Bool) → (A → List ℕ) → Reader A → Type 0
Completes {A = A} typed fits spelling read =
    (x : A) (rest : List ℕ) → typed x ≡ true → fits x ≡ true → read (spelling x ++ rest) ≡ Some (x, rest)

-- what it reads was spelled so
abbrev pub Sound : {A : Type 0} → (A → Bool) → (A → Bool) → (A → List ℕ) → Reader A → Type 0
Sound {A = A} typed fits spelling read =
    (bytes : List ℕ) (x : A) (rest : List ℕ) → IsBytes bytes → read bytes ≡ Some (x, rest) →
    Spelled (typed x) (fits x) bytes (spelling x) rest

-- a step that passed
pub bind_some :
    {A B : Type 0} (r : Option A) (f : A → Option B) (y : B) → (r >>= f) ≡ Some y → (x : A) × (r ≡ Some x) × (f x ≡ Some y)
bind_some (Some x) f y e = (x, refl, e)
bind_some None f y e = absurd cc

module _ {A : Type 0} (typed fits : A → Bool) (spelling : A → List ℕ) (read : Reader A) where
  pub repeat-completes :
      Completes typed fits spelling read → (xs found : List A) (rest : List ℕ) → list_all typed xs ≡ true →
      list_all fits xs ≡ true →
      repeat read (length xs) found (flat_map spelling xs ++ rest) ≡ Some (found ++ xs, rest)
  unfolding repeat
  repeat-completes law [] found rest t f = ap (λ (ys : List A). Some (ys, rest)) (sym (append-nil found))
  repeat-completes law (x ∷ xs) found rest t f =
      let front : flat_map spelling (x ∷ xs) ++ rest ≡ spelling x ++ (flat_map spelling xs ++ rest) =
      ap (λ (bytes : List ℕ). bytes ++ rest) (flat_map-cons spelling x xs) ∙ append_assoc (spelling x) (flat_map spelling xs) rest
      in
      let one =
      law x (flat_map spelling xs ++ rest) (first_so (typed x) (list_all typed xs) t) (first_so (fits x) (list_all fits xs) f)
      in
      let others =
      repeat-completes law xs (found ++ x ∷ []) rest (second_so (typed x) (list_all typed xs) t)
      (second_so (fits x) (list_all fits xs) f)
      in
      ap (λ (bytes : List ℕ). read bytes >>= λ y. repeat read (length xs) (found ++ y.0 ∷ []) y.1) front
      ∙ ap (λ (r : Option (A × List ℕ)). r >>= λ y. repeat read (length xs) (found ++ y.0 ∷ []) y.1) one
      ∙ others ∙ ap (λ (ys : List A). Some (ys, rest)) (append_assoc found (x ∷ []) xs)

  -- the items that were read behind those found before
  pub record Items (count : ℕ) (found : List A) (bytes : List ℕ) (all : List A) (rest : List ℕ) : Type 0 where
    pub items : List A
    pub behind : all ≡ found ++ items
    pub long : length items ≡ count
    pub spelled : Spelled (list_all typed items) (list_all fits items) bytes (flat_map spelling items) rest

  pub repeat-sound :
      Sound typed fits spelling read → (count : ℕ) (found : List A) (bytes : List ℕ) (all : List A) (rest : List ℕ) →
      IsBytes bytes → repeat read count found bytes ≡ Some (all, rest) → Items count found bytes all rest
  unfolding repeat
  repeat-sound law zero found bytes all rest h e =
      let same : (found, bytes) ≡ (all, rest) = some_is (found, bytes) (all, rest) e in
      let left : bytes ≡ rest = ap (λ (x : List A × List ℕ). x.1) same in
      record {
        items = [];
        behind = sym (ap (λ (x : List A × List ℕ). x.0) same) ∙ sym (append-nil found);
        long = refl;
        spelled = record { sort = refl; fit = refl; parts = left; left = subst IsBytes left h };
      }
  repeat-sound law (suc count) found bytes all rest h e =
      let first = bind_some (read bytes) (λ x. repeat read count (found ++ x.0 ∷ []) x.1) (all, rest) e in
      let x = first.0.0 in
      let after = first.0.1 in
      let one = law bytes x after h first.1 in
      let others = repeat-sound law count (found ++ x ∷ []) after all rest one.left first.2 in
      let xs = others.items in
      record {
        items = x ∷ xs;
        behind = others.behind ∙ append_assoc found (x ∷ []) xs;
        long = ap suc others.long;
        spelled = record {
          sort = both_true one.sort others.spelled.sort;
          fit = both_true one.fit others.spelled.fit;
          parts = one.parts ∙ ap (λ (bs : List ℕ). spelling x ++ bs) others.spelled.parts
              ∙ sym (append_assoc (spelling x) (flat_map spelling xs) rest)
              ∙ ap (λ (bs : List ℕ). bs ++ rest) (sym (flat_map-cons spelling x xs));
          left = others.spelled.left;
        };
      }

-- ---- items of different sorts, one of each

module _ {A F : Type 0} (typed fits : F → A → Bool) (spelling : F → A → List ℕ) (read : F → Reader A) where
  pub in_turn-completes :
      (fields : List F) → AllByRecursion (λ field. Completes (typed field) (fits field) (spelling field) (read field)) fields →
      (xs found : List A) (rest : List ℕ) → length xs ≡ length fields →
      list_all (λ (pair : F × A). typed pair.0 pair.1) (zip fields xs) ≡ true →
      list_all (λ (pair : F × A). fits pair.0 pair.1) (zip fields xs) ≡ true →
      in_turn (map read fields) found (flat_map (λ (pair : F × A). spelling pair.0 pair.1) (zip fields xs) ++ rest)
      ≡ Some (found ++ xs, rest)
  unfolding in_turn
  in_turn-completes [] laws [] found rest long t f = ap (λ (ys : List A). Some (ys, rest)) (sym (append-nil found))
  in_turn-completes [] laws (x ∷ xs) found rest long t f = absurd (omega arith)
  in_turn-completes (field ∷ fields) laws [] found rest long t f = absurd (omega arith)
  in_turn-completes (field ∷ fields) laws (x ∷ xs) found rest long t f =
      let spell : F × A → List ℕ = λ pair. spelling pair.0 pair.1 in
      let test : F × A → Bool = λ pair. typed pair.0 pair.1 in
      let fitting : F × A → Bool = λ pair. fits pair.0 pair.1 in
      let pairs = zip fields xs in
      let front : flat_map spell ((field, x) ∷ pairs) ++ rest ≡ spelling field x ++ (flat_map spell pairs ++ rest) =
      ap (λ (bytes : List ℕ). bytes ++ rest) (flat_map-cons spell (field, x) pairs)
      ∙ append_assoc (spelling field x) (flat_map spell pairs) rest
      in
      let one =
      laws.0 x (flat_map spell pairs ++ rest) (first_so (typed field x) (list_all test pairs) t)
      (first_so (fits field x) (list_all fitting pairs) f)
      in
      let others =
      in_turn-completes fields laws.1 xs (found ++ x ∷ []) rest (omega arith)
      (second_so (typed field x) (list_all test pairs) t) (second_so (fits field x) (list_all fitting pairs) f)
      in
      ap (λ (bytes : List ℕ). read field bytes >>= λ y. in_turn (map read fields) (found ++ y.0 ∷ []) y.1) front
      ∙ ap (λ (r : Option (A × List ℕ)). r >>= λ y. in_turn (map read fields) (found ++ y.0 ∷ []) y.1) one
      ∙ others ∙ ap (λ (ys : List A). Some (ys, rest)) (append_assoc found (x ∷ []) xs)

  pub record Parts (fields : List F) (found : List A) (bytes : List ℕ) (all : List A) (rest : List ℕ) : Type 0 where
    pub items : List A
    pub behind : all ≡ found ++ items
    pub long : length items ≡ length fields
    pub spelled :
        Spelled (list_all (λ (pair : F × A). typed pair.0 pair.1) (zip fields items))
        (list_all (λ (pair : F × A). fits pair.0 pair.1) (zip fields items)) bytes
        (flat_map (λ (pair : F × A). spelling pair.0 pair.1) (zip fields items)) rest

  pub in_turn-sound :
      (fields : List F) → AllByRecursion (λ field. Sound (typed field) (fits field) (spelling field) (read field)) fields →
      (found : List A) (bytes : List ℕ) (all : List A) (rest : List ℕ) → IsBytes bytes →
      in_turn (map read fields) found bytes ≡ Some (all, rest) → Parts fields found bytes all rest
  unfolding in_turn
  in_turn-sound [] laws found bytes all rest h e =
      let same : (found, bytes) ≡ (all, rest) = some_is (found, bytes) (all, rest) e in
      let left : bytes ≡ rest = ap (λ (x : List A × List ℕ). x.1) same in
      record {
        items = [];
        behind = sym (ap (λ (x : List A × List ℕ). x.0) same) ∙ sym (append-nil found);
        long = refl;
        spelled = record { sort = refl; fit = refl; parts = left; left = subst IsBytes left h };
      }
  in_turn-sound (field ∷ fields) laws found bytes all rest h e =
      let spell : F × A → List ℕ = λ pair. spelling pair.0 pair.1 in
      let first = bind_some (read field bytes) (λ x. in_turn (map read fields) (found ++ x.0 ∷ []) x.1) (all, rest) e in
      let x = first.0.0 in
      let after = first.0.1 in
      let one = laws.0 bytes x after h first.1 in
      let others = in_turn-sound fields laws.1 (found ++ x ∷ []) after all rest one.left first.2 in
      let pairs = zip fields others.items in
      record {
        items = x ∷ others.items;
        behind = others.behind ∙ append_assoc found (x ∷ []) others.items;
        long = ap suc others.long;
        spelled = record {
          sort = both_true one.sort others.spelled.sort;
          fit = both_true one.fit others.spelled.fit;
          parts = one.parts ∙ ap (λ (bs : List ℕ). spelling field x ++ bs) others.spelled.parts
              ∙ sym (append_assoc (spelling field x) (flat_map spell pairs) rest)
              ∙ ap (λ (bs : List ℕ). bs ++ rest) (sym (flat_map-cons spell (field, x) pairs));
          left = others.spelled.left;
        };
      }
