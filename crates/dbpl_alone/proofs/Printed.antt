-- All statements have printed, and what they printed is written out.
use Rattle.std.proofs.Common.{◌≡◌, ◌∙◌, ◌≤◌, ℕ, List, Result, Ok, Err, ap, length, map, sym, take}
use Rattle.std.proofs.Math.Seq.{take-length}
use Rattle.std.proofs.lemmas.List.{take_all}
use Rattle.std.specs.List.{flat_map}
use Rattle.std.specs.Prelude.{OnErr, OnOk}
use Rattle.dbpl_alone.specs.Meaning.{printed_by}
use Rattle.dbpl_alone.specs.declared.statement.Statement.{Statement}
use Rattle.dbpl_world.specs.History.{History, Said, more}

module _ (items statements : List Statement) (i : ℕ) (start at end : History) (same : items ≡ statements) (past : length items ≤ i)
    (said : at ≡ more start (map Said (flat_map printed_by (take i items)))) (unchanged : end ≡ at) where
  -- all was said
  all_said : end ≡ more start (map Said (flat_map printed_by statements))
  all_said =
      unchanged ∙ said ∙ ap (λ (xs : List Statement). more start (map Said (flat_map printed_by xs))) (take_all i items past ∙ same)

  pub printed_ok : {T E : Type 0} (result : Result T E) → OnOk result (end ≡ more start (map Said (flat_map printed_by statements)))
  printed_ok (Ok value) = all_said
  printed_ok (Err error) = tt

  -- all is a front of itself
  pub printed_err :
      {T E : Type 0} (result : Result T E) →
      OnErr result ((n : ℕ) × (end ≡ more start (map Said (take n (flat_map printed_by statements)))))
  printed_err (Ok value) = tt
  printed_err (Err error) =
      let bytes : List ℕ = flat_map printed_by statements in
      (length bytes, all_said ∙ ap (λ (bs : List ℕ). more start (map Said bs)) (sym (take-length bytes)))
