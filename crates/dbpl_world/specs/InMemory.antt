-- What a world in memory tells.
use Rattle.std.specs.Prelude.{◌≡◌, ◌↔◌, ℕ, List, [], Option, None, option_map, bytes_eq, Result, IsErr, OnErr, MatchResult, is_ok, if◌then◌else◌}
use Rattle.dbpl_world.specs.declared.counts.Counts.{Counts}
use Rattle.dbpl_world.specs.declared.memory_world.MemoryWorld.{MemoryWorld}
use Rattle.dbpl_world.specs.Budget.{Rule, rule_of, MustFail, after_call}
use Rattle.dbpl_world.specs.CallRecord.{events_recorded}
use Rattle.dbpl_world.specs.History.{settled_store, State, History}
use Rattle.dbpl_world.specs.Tied.{history_in}

abbrev pub history_of : MemoryWorld → History
history_of world = history_in world.input.items world.stores.items world.put (events_recorded world.recorded)

abbrev pub mounted_in : MemoryWorld → Option (List ℕ)
mounted_in world = option_map (λ name. name.items) world.name

abbrev pub counts_of : MemoryWorld → Counts
counts_of world = world.counts

-- which of its next calls fail
abbrev pub rule_in : MemoryWorld → Rule
rule_in world = rule_of world.budget

-- the room that it was made with
abbrev pub room_in : MemoryWorld → ℕ
room_in world = world.room

-- a world with this input, no stores, and no calls made
abbrev pub fresh_history : List ℕ → History
fresh_history input = record { start = record { input = input; said = []; noted = []; mounted = None; disk = settled_store [] []; others = λ name. settled_store [] [] }; events = [] }

-- the same with a store of that name
abbrev pub with_store : List ℕ → List ℕ → List ℕ → State → State
with_store name log pages s = record s { others = λ other. if bytes_eq name other then settled_store log pages else s.others other }

-- the same history from a start that has this store too
abbrev pub with_store_put : List ℕ → List ℕ → List ℕ → History → History
with_store_put name log pages h = record h { start = with_store name log pages h.start }

-- A call of a world in memory that is to move so many bytes. It fails exactly where its rule says so, and then it does
-- nothing but raise its count.
pub record RunsCall {A E : Type 0} (old new : MemoryWorld) (moved : ℕ) (good bad : Counts → Counts) (result : Result A E) : Type 0 where
  pub exact : IsErr result ↔ MustFail (rule_in old) moved
  pub charged : rule_in new ≡ after_call (rule_in old) (if is_ok result then moved else 0)
  pub counted : MatchResult result (λ _. counts_of new ≡ good (counts_of old)) (λ _. counts_of new ≡ bad (counts_of old))
  pub kept : OnErr result (history_of new ≡ history_of old)
  pub room : room_in new ≡ room_in old
