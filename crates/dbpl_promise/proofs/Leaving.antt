-- What is left where nothing is done, and what else may be claimed of what is left.
use Rattle.std.proofs.Common.{◌≡◌, ◌⊎◌, ℕ, List, [], None, Option, Some, append-nil, inl, inr, refl, sym}
use Rattle.std.specs.Prelude.{IsSomeAnd}
use Rattle.dbpl_promise.specs.Leaving.{IsUntouched}
use Rattle.dbpl_promise.specs.Promises.{LeavesAlone}
use Rattle.dbpl_promise.specs.Running.{SomeWereMade}
use Rattle.dbpl_promise.specs.Runs.{WereMade, IsTied, Leaves, Run, StoodFor}
use Rattle.dbpl_store.specs.Stands.{stands}
use Rattle.dbpl_value.specs.declared.bound.Bound.{Bound}
use Rattle.dbpl_world.specs.History.{State}

pub untouched_here : (s : State) → IsUntouched s s
untouched_here s = record { log = λ name left image. image; pages = λ name left image. image; said = refl; input = refl }

pub alone_here : (mounts : List ℕ → Type 0) (s : State) → LeavesAlone mounts s s
alone_here mounts s = record { mounted = inl refl; others = λ name none. refl; pages = λ name. inl refl; noted = refl }

module _ (P Q : List ℕ → Type 0) (more : (name : List ℕ) → P name → Q name) where
  some_more : (mounted : Option (List ℕ)) → IsSomeAnd mounted P → IsSomeAnd mounted Q
  some_more None holds = holds
  some_more (Some name) holds = more name holds

  -- where more stores may be mounted
  pub alone_more : (old s : State) → LeavesAlone P old s → LeavesAlone Q old s
  alone_more old s is = record {
    mounted = by_mount is.mounted;
    others = λ name none. is.others name (λ holds. none (more name holds));
    pages = is.pages;
    noted = is.noted;
  }
    where
      by_mount : (s.mounted ≡ old.mounted) ⊎ IsSomeAnd s.mounted P → (s.mounted ≡ old.mounted) ⊎ IsSomeAnd s.mounted Q
      by_mount (inl same) = inl same
      by_mount (inr some) = inr (some_more s.mounted some)

-- what follows from what is claimed, with the bytes said
pub leaves_more : (store : Option (List ℕ)) (P Q : Option (List Bound) → List ℕ → Type 0) (s : State) →
    ((found : Option (List Bound)) → P found s.said → Q found s.said) → Leaves store P s → Leaves store Q s
leaves_more None P Q s more holds = more (Some []) holds
leaves_more (Some name) P Q s more holds =
    λ log pages log_left pages_left. more (stands log pages) (holds log pages log_left pages_left)

module _ (run : Run) (old : State) (stood : StoodFor run old) where
  made_nothing : (found : Option (List Bound)) → found ≡ Some run.database → WereMade run old [] found old.said
  made_nothing found is = record { printed = sym (append-nil old.said); stored = is }

  -- no event was made yet
  pub tied_here : Leaves run.store (IsTied run old) old
  tied_here = leaves_more run.store (λ found said. found ≡ Some run.database) (IsTied run old) old
      (λ found is. record { made = []; may = (0, ((run.means old.input 0).events, refl)); has = made_nothing found is }) stood

  pub some_here : SomeWereMade run old old
  some_here = record {
    made = [];
    may = (0, ((run.means old.input 0).events, refl));
    left = leaves_more run.store (λ found said. found ≡ Some run.database) (WereMade run old []) old made_nothing stood;
  }
