-- A store that is put before any call belongs to the start.
use Rattle.std.proofs.Common.{◌≡◌, ℕ, ◌+◌, List, [], ◌∷◌, ◌++◌, length, take, Bool, true, false, Option, refl, ap, ◌∙◌, arith, length-append}
use Rattle.std.specs.Prelude.{bytes_eq, if◌then◌else◌}
use Rattle.std.proofs.lemmas.Grind.{fold-append}
use Rattle.std.proofs.Math.Seq.{take-length}
use mathlib.Core.Path.{fun_ext}
use Rattle.dbpl_world.specs.declared.made_call.MadeCall.{MadeCall}
use Rattle.dbpl_world.specs.declared.store_bytes.StoreBytes.{StoreBytes}
use Rattle.dbpl_world.specs.Calls.{events_in}
use Rattle.dbpl_world.specs.History.{settled_store, Event, History, now}
use Rattle.dbpl_world.specs.Tied.{last_contents_of, store_with, start_of, history_in, IsHeld}
use Rattle.dbpl_world.specs.InMemory.{with_store_put}
use Rattle.dbpl_world.proofs.Images.{store_settled}

pub no_events : (calls : List MadeCall) (bytes : List ℕ) → length calls ≡ 0 → events_in calls bytes ≡ []
no_events [] bytes none = refl
no_events (made ∷ calls) bytes none = absurd (omega arith)

take_whole : {A : Type 0} (n : ℕ) (items : List A) → n ≡ length items → take n items ≡ items
take_whole n items whole = ap (λ k. take k items) whole ∙ take-length items

last_contents-push : (stores : List StoreBytes) (store : StoreBytes) (name : List ℕ) → last_contents_of (stores ++ store ∷ []) name ≡ (if bytes_eq store.name.items name then (store.log.items, store.pages.items) else last_contents_of stores name)
last_contents-push stores store name = fold-append (λ found s. if bytes_eq s.name.items name then (s.log.items, s.pages.items) else found) ([], []) stores (store ∷ [])

store_picked : (test : Bool) (first second : List ℕ × List ℕ) → store_with (if test then first else second) ≡ (if test then store_with first else store_with second)
store_picked true first second = refl
store_picked false first second = refl

start_put : (input : List ℕ) (stores : List StoreBytes) (store : StoreBytes) (events : List Event) →
    ◌≡◌ {A = History} (record { start = start_of input (stores ++ store ∷ []); events = events }) (with_store_put store.name.items store.log.items store.pages.items (record { start = start_of input stores; events = events }))
start_put input stores store events =
    let others : (λ (name : List ℕ). store_with (last_contents_of (stores ++ store ∷ []) name)) ≡ (λ (name : List ℕ). if bytes_eq store.name.items name then settled_store store.log.items store.pages.items else store_with (last_contents_of stores name)) =
    fun_ext (λ name. ap store_with (last_contents-push stores store name) ∙ store_picked (bytes_eq store.name.items name) (store.log.items, store.pages.items) (last_contents_of stores name)) in
    ap {B = History} (λ others. record { start = record (start_of input stores) { others = others }; events = events }) others

pub history_put : (input : List ℕ) (stores stores' : List StoreBytes) (store : StoreBytes) (put : ℕ) (events : List Event) (name log pages : List ℕ) →
    put ≡ length stores → stores' ≡ stores ++ store ∷ [] → store.name.items ≡ name → store.log.items ≡ log → store.pages.items ≡ pages →
    history_in input stores' (put + 1) events ≡ with_store_put name log pages (history_in input stores put events)
history_put input stores stores' store put events name log pages all longer name_is log_is pages_is =
    let whole : take (put + 1) stores' ≡ stores ++ store ∷ [] = rw longer (take_whole (put + 1) (stores ++ store ∷ []) (omega (arith, length-append stores (store ∷ [])))) in
    rw (whole, take_whole put stores all, ← name_is, ← log_is, ← pages_is) (start_put input stores store events)

start_tied : (input : List ℕ) (stores stores' : List StoreBytes) {mounted : Option (List ℕ)} {left said noted log pages : List ℕ} → IsHeld (start_of input stores) mounted left said noted log pages stores → IsHeld (start_of input stores') mounted left said noted log pages stores'
start_tied input stores stores' tied = record {
  input_is = tied.input_is;
  said_is = tied.said_is;
  noted_is = tied.noted_is;
  mounted_is = tied.mounted_is;
  log_is = tied.log_is;
  pages_is = tied.pages_is;
  stores_are = λ name. rw (← tied.mounted_is) refl;
  images_are = record { disk = store_settled [] []; others = λ name. store_settled (last_contents_of stores' name).0 (last_contents_of stores' name).1 };
}

pub tied_put : (input : List ℕ) (stores stores' : List StoreBytes) (store : StoreBytes) (put : ℕ) (events : List Event) {mounted : Option (List ℕ)} {left said noted log pages : List ℕ} →
    events ≡ [] → put ≡ length stores → stores' ≡ stores ++ store ∷ [] → IsHeld (now (history_in input stores put events)) mounted left said noted log pages stores →
    IsHeld (now (history_in input stores' (put + 1) events)) mounted left said noted log pages stores'
unfolding now
tied_put input stores stores' store put events none all longer tied =
    let whole : take (put + 1) stores' ≡ stores' = take_whole (put + 1) stores' (omega (arith, ap length longer, length-append stores (store ∷ []))) in
    rw (none, whole) (start_tied input stores stores' (rw (none, take_whole put stores all) at tied))
