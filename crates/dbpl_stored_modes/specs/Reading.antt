-- What two texts come to that were fetched.
use Rattle.std.specs.Prelude.{ℕ, List}
use Rattle.dbpl_base.specs.declared.status.Status.{Status}
use Rattle.dbpl_base.specs.declared.status.Status.TheVariants as status
use Rattle.dbpl_stored_form.specs.Texts.{IsRefused}

-- why two texts are no program over a store, by cases on the answer
abbrev pub AreRefused : List ℕ → List ℕ → Status → Type 0
AreRefused schema program (status.Refused place rule) = IsRefused schema program place rule
AreRefused schema program status.Memory = Unit {0}
AreRefused schema program _ = ⊥
