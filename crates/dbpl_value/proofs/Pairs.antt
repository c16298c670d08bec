-- The walk over two lists side by side, as over the fields of a record type and the parts of a record.
use Rattle.std.proofs.Common.{◌≡◌, ◌+◌, ◌<◌, ◌≤◌, ℕ, min, Bool, List, [], ◌∷◌, ◌++◌, map, length, take, get_or, refl, ap, sym, ◌∙◌, arith}
use Rattle.std.specs.List.{flat_map, list_all, sum_by, zip}
use Rattle.std.proofs.lemmas.List.{take_all, take_more}
use Rattle.std.proofs.lemmas.List.Folds.{flat_map-map, fold-map, list_all-map}
use Rattle.std.proofs.lemmas.Slice.Zip.{get_or-zip, length-zip}

module _ {A B : Type 0} where
  -- one more pair
  pub take-zip-more :
      (xs : List A) (ys : List B) (i : ℕ) (x : A) (y : B) → i < length xs → i < length ys → x ≡ get_or xs i x →
      y ≡ get_or ys i y → take (i + 1) (zip xs ys) ≡ take i (zip xs ys) ++ (x, y) ∷ []
  take-zip-more xs ys i x y hx hy ex ey =
      let short : i < length (zip xs ys) = rw length-zip (omega arith) in
      take_more (zip xs ys) i (x, y) short
      ∙ ap (λ (p : A × B). take i (zip xs ys) ++ p ∷ [])
      (get_or-zip xs ys i (x, y) hx hy ∙ (λ j. (sym ex j, sym ey j)))

  -- all pairs
  pub take-zip-all :
      (xs : List A) (ys : List B) (i : ℕ) → min (length xs) (length ys) ≤ i → take i (zip xs ys) ≡ zip xs ys
  take-zip-all xs ys i h = take_all i (zip xs ys) (rw length-zip h)

-- a function of the first list's items
pub zip-map :
    {A B C : Type 0} (g : A → C) (xs : List A) (ys : List B) →
    zip (map g xs) ys ≡ map (λ (p : A × B). (g p.0, p.1)) (zip xs ys)
zip-map g [] ys = refl
zip-map g (x ∷ xs) [] = refl
zip-map g (x ∷ xs) (y ∷ ys) = ap (λ rest. (g x, y) ∷ rest) (zip-map g xs ys)

-- the sum over functions at their values
pub sum_by-zip_map :
    {A B : Type 0} (g : A → B → ℕ) (xs : List A) (ys : List B) →
    sum_by (λ (p : (B → ℕ) × B). p.0 p.1) (zip (map g xs) ys) ≡ sum_by (λ (p : A × B). g p.0 p.1) (zip xs ys)
sum_by-zip_map {A} {B} g xs ys =
    ap (sum_by (λ (p : (B → ℕ) × B). p.0 p.1)) (zip-map g xs ys)
    ∙ fold-map (λ (total : ℕ) (p : (B → ℕ) × B). total + p.0 p.1) (λ (p : A × B). (g p.0, p.1)) 0 (zip xs ys)

-- the lists that functions give of their values, one after the other
pub flat_map-zip_map :
    {A B C : Type 0} (g : A → B → List C) (xs : List A) (ys : List B) →
    flat_map (λ (p : (B → List C) × B). p.0 p.1) (zip (map g xs) ys) ≡ flat_map (λ (p : A × B). g p.0 p.1) (zip xs ys)
flat_map-zip_map {A} {B} {C} g xs ys =
    ap (flat_map (λ (p : (B → List C) × B). p.0 p.1)) (zip-map g xs ys)
    ∙ flat_map-map (λ (p : (B → List C) × B). p.0 p.1) (λ (p : A × B). (g p.0, p.1)) (zip xs ys)

-- tests that all pass at their values
pub list_all-zip_map :
    {A B : Type 0} (g : A → B → Bool) (xs : List A) (ys : List B) →
    list_all (λ (p : (B → Bool) × B). p.0 p.1) (zip (map g xs) ys) ≡ list_all (λ (p : A × B). g p.0 p.1) (zip xs ys)
list_all-zip_map {A} {B} g xs ys =
    ap (list_all (λ (p : (B → Bool) × B). p.0 p.1)) (zip-map g xs ys)
    ∙ list_all-map (λ (p : (B → Bool) × B). p.0 p.1) (λ (p : A × B). (g p.0, p.1)) (zip xs ys)
