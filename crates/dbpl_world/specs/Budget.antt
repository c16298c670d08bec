-- Which calls of a world in memory fail.
use Rattle.std.specs.Prelude.{ℕ, ◌+◌, ◌-◌, ◌^◌, ◌<◌, ◌≤◌, min, ◌⊎◌, List, Contains}
use Rattle.dbpl_world.specs.declared.budget.Budget.{Budget}

-- the numbers of the calls that fail, the number of the next call, and what is left of the room
pub record Rule : Type 0 where
  pub fails : List ℕ
  pub calls : ℕ
  pub left : ℕ

abbrev pub rule_of : Budget → Rule
rule_of budget = record { fails = budget.fails.items; calls = budget.calls; left = budget.left }

-- A call costs 64 and one for each byte that it moves. It fails where it is listed, or where its cost passes the room.
abbrev pub MustFail : Rule → ℕ → Type 0
MustFail rule moved = Contains rule.fails rule.calls ⊎ (rule.left < 64 + moved)

pub record Allows (rule : Rule) (moved : ℕ) : Type 0 where
  pub unlisted : ¬ (Contains rule.fails rule.calls)
  pub within : 64 + moved ≤ rule.left

-- after a call that moved so many bytes
abbrev pub after_call : Rule → ℕ → Rule
after_call rule moved = record { fails = rule.fails; calls = min (rule.calls + 1) (2 ^ 64 - 1); left = rule.left - (64 + moved) }
