-- What a world in memory holds keeps agreeing with its history.
use Rattle.std.proofs.Common.{◌≤◌, take, sym, ◌≡◌, ℕ, ◌+◌, List, [], ◌∷◌, ◌++◌, map, drop, Bool, true, false, Option, Some, None, refl, ap, ap₂, ◌∙◌}
use Rattle.dbpl_world.specs.declared.part.Part.{Part}
use Rattle.dbpl_world.specs.declared.part.Part.TheVariants.{Log, Pages}
use Rattle.dbpl_world.specs.declared.store_bytes.StoreBytes.{StoreBytes}
use Rattle.std.specs.Prelude.{bytes_eq, if◌then◌else◌}
use Rattle.std.proofs.lemmas.List.{drop-drop}
use Rattle.dbpl_world.specs.Images.{written}
use Rattle.dbpl_world.specs.History.{Store, State, store_of, store_among, Event, Mounted, Took, Said, Noted, Wrote, Synced, step, replay, now, AllReadAnImage, by_part}
use Rattle.dbpl_world.specs.Tied.{start_of, history_in, reads_of, last_contents_of, contents_of, IsHeld}
use Rattle.dbpl_world.proofs.Fronts.{take_of_take}
use Rattle.dbpl_world.proofs.Images.{store_settled, images_after}
use Rattle.dbpl_world.proofs.Replays.{now-more, replay-said, replay-noted}

pub tied_start : (input : List ℕ) → IsHeld (now (history_in input [] 0 [])) None input [] [] [] [] []
unfolding now
tied_start input = record { input_is = refl; said_is = refl; noted_is = refl; mounted_is = refl; log_is = refl; pages_is = refl; stores_are = λ name. refl; images_are = record { disk = store_settled [] []; others = λ name. store_settled [] [] } }

pub tied_made : (input said noted log pages : List ℕ) (stores : List StoreBytes) (events : List Event) → stores ≡ [] → events ≡ [] → said ≡ [] → noted ≡ [] → log ≡ [] → pages ≡ [] → IsHeld (now (history_in input stores 0 events)) None (drop 0 input) said noted log pages stores
tied_made input said noted log pages stores events no_stores no_events e1 e2 e3 e4 = rw (no_stores, no_events, e1, e2, e3, e4) (tied_start input)

-- After more events the record gives what they lead to.
entered : (input : List ℕ) (stores : List StoreBytes) (put : ℕ) (events added all : List Event) → all ≡ events ++ added → now (history_in input stores put all) ≡ replay (now (history_in input stores put events)) added
entered input stores put events added all is = ap (λ es. now (history_in input stores put es)) is ∙ now-more (history_in input stores put events) added

pub tied_took : (input : List ℕ) (stores : List StoreBytes) (put : ℕ) (events all : List Event) {mounted : Option (List ℕ)} {said noted log pages : List ℕ} (taken count : ℕ) →
    IsHeld (now (history_in input stores put events)) mounted (drop taken input) said noted log pages stores → all ≡ events ++ Took count ∷ [] →
    IsHeld (now (history_in input stores put all)) mounted (drop (taken + count) input) said noted log pages stores
tied_took input stores put events all taken count tied is = rw (entered input stores put events (Took count ∷ []) all is)
    (record { input_is = ap (drop count) tied.input_is ∙ drop-drop count taken input; said_is = tied.said_is; noted_is = tied.noted_is; mounted_is = tied.mounted_is; log_is = tied.log_is; pages_is = tied.pages_is; stores_are = tied.stores_are; images_are = record { disk = tied.images_are.disk; others = tied.images_are.others } })

pub tied_said : (input : List ℕ) (stores : List StoreBytes) (put : ℕ) (events all : List Event) {mounted : Option (List ℕ)} {left noted log pages : List ℕ} (said piece said' : List ℕ) →
    IsHeld (now (history_in input stores put events)) mounted left said noted log pages stores → all ≡ events ++ map Said piece → said' ≡ said ++ piece →
    IsHeld (now (history_in input stores put all)) mounted left said' noted log pages stores
tied_said input stores put events all said piece said' tied is longer = rw (entered input stores put events (map Said piece) all is, replay-said, longer)
    (record { input_is = tied.input_is; said_is = ap (λ bytes. bytes ++ piece) tied.said_is; noted_is = tied.noted_is; mounted_is = tied.mounted_is; log_is = tied.log_is; pages_is = tied.pages_is; stores_are = tied.stores_are; images_are = record { disk = tied.images_are.disk; others = tied.images_are.others } })

pub tied_noted : (input : List ℕ) (stores : List StoreBytes) (put : ℕ) (events all : List Event) {mounted : Option (List ℕ)} {left said log pages : List ℕ} (noted piece noted' : List ℕ) →
    IsHeld (now (history_in input stores put events)) mounted left said noted log pages stores → all ≡ events ++ map Noted piece → noted' ≡ noted ++ piece →
    IsHeld (now (history_in input stores put all)) mounted left said noted' log pages stores
tied_noted input stores put events all noted piece noted' tied is longer = rw (entered input stores put events (map Noted piece) all is, replay-noted, longer)
    (record { input_is = tied.input_is; said_is = tied.said_is; noted_is = ap (λ bytes. bytes ++ piece) tied.noted_is; mounted_is = tied.mounted_is; log_is = tied.log_is; pages_is = tied.pages_is; stores_are = tied.stores_are; images_are = record { disk = tied.images_are.disk; others = tied.images_are.others } })

-- What reads of the stores give, where the mounted one has changed.

picked : (test : Bool) (disk disk' other : Store) (parts parts' others : List ℕ × List ℕ) → reads_of disk' ≡ parts' → reads_of (if test then disk else other) ≡ (if test then parts else others) → reads_of (if test then disk' else other) ≡ (if test then parts' else others)
picked true disk disk' other parts parts' others new old = new
picked false disk disk' other parts parts' others new old = old

among : (mounted : Option (List ℕ)) (disk disk' : Store) (others : List ℕ → Store) (parts parts' : List ℕ × List ℕ) (stores : List StoreBytes) (name : List ℕ) → reads_of disk' ≡ parts' → reads_of (store_among mounted disk others name) ≡ contents_of mounted parts stores name → reads_of (store_among mounted disk' others name) ≡ contents_of mounted parts' stores name
among None disk disk' others parts parts' stores name new old = old
among (Some mounted) disk disk' others parts parts' stores name new old = picked (bytes_eq mounted name) disk disk' (others name) parts parts' (last_contents_of stores name) new old

-- A step that changes the mounted store alone.
disk_changed : (s : State) (disk : Store) {mounted : Option (List ℕ)} {left said noted log pages : List ℕ} {stores : List StoreBytes} (log' pages' : List ℕ) → IsHeld s mounted left said noted log pages stores → disk.log.now ≡ log' → disk.pages.now ≡ pages' → AllReadAnImage (record s { disk = disk }) → IsHeld (record s { disk = disk }) mounted left said noted log' pages' stores
disk_changed s disk {log = log} {pages = pages} {stores = stores} log' pages' tied log_is pages_is images = record {
  input_is = tied.input_is;
  said_is = tied.said_is;
  noted_is = tied.noted_is;
  mounted_is = tied.mounted_is;
  log_is = log_is;
  pages_is = pages_is;
  images_are = images;
  stores_are = λ name. rw (← tied.mounted_is) (among s.mounted s.disk disk s.others (log, pages) (log', pages') stores name (ap₂ (λ a b. (a, b)) log_is pages_is) (rw (← tied.mounted_is) at (tied.stores_are name)));
}

wrote : (part : Part) (s : State) (at : ℕ) (bytes : List ℕ) {mounted : Option (List ℕ)} {left said noted log pages : List ℕ} {stores : List StoreBytes} → IsHeld s mounted left said noted log pages stores → IsHeld (step s (Wrote part at bytes)) mounted left said noted (by_part part (written log at bytes) log) (by_part part pages (written pages at bytes)) stores
wrote Log s at bytes tied = disk_changed s _ _ _ tied (ap (λ old. written old at bytes) tied.log_is) tied.pages_is (images_after s (Wrote Log at bytes) tt tied.images_are)
wrote Pages s at bytes tied = disk_changed s _ _ _ tied tied.log_is (ap (λ old. written old at bytes) tied.pages_is) (images_after s (Wrote Pages at bytes) tt tied.images_are)

pub tied_wrote : (input : List ℕ) (stores : List StoreBytes) (put : ℕ) (events all : List Event) {mounted : Option (List ℕ)} {left said noted log pages : List ℕ} (part : Part) (at : ℕ) (bytes log' pages' : List ℕ) →
    IsHeld (now (history_in input stores put events)) mounted left said noted log pages stores → all ≡ events ++ Wrote part at bytes ∷ [] → log' ≡ by_part part (written log at bytes) log → pages' ≡ by_part part pages (written pages at bytes) →
    IsHeld (now (history_in input stores put all)) mounted left said noted log' pages' stores
tied_wrote input stores put events all part at bytes log' pages' tied is log_is pages_is = rw (entered input stores put events (Wrote part at bytes ∷ []) all is, log_is, pages_is) (wrote part (now (history_in input stores put events)) at bytes tied)

synced : (part : Part) (s : State) {mounted : Option (List ℕ)} {left said noted log pages : List ℕ} {stores : List StoreBytes} → IsHeld s mounted left said noted log pages stores → IsHeld (step s (Synced part)) mounted left said noted log pages stores
synced Log s tied = disk_changed s _ _ _ tied tied.log_is tied.pages_is (images_after s (Synced Log) tt tied.images_are)
synced Pages s tied = disk_changed s _ _ _ tied tied.log_is tied.pages_is (images_after s (Synced Pages) tt tied.images_are)

pub tied_synced : (input : List ℕ) (stores : List StoreBytes) (put : ℕ) (events all : List Event) {mounted : Option (List ℕ)} {left said noted log pages : List ℕ} (part : Part) →
    IsHeld (now (history_in input stores put events)) mounted left said noted log pages stores → all ≡ events ++ Synced part ∷ [] →
    IsHeld (now (history_in input stores put all)) mounted left said noted log pages stores
tied_synced input stores put events all part tied is = rw (entered input stores put events (Synced part ∷ []) all is) (synced part (now (history_in input stores put events)) tied)

-- A store is mounted: what was mounted is set aside, and reads of no store change.

pub kept_front : (put n : ℕ) (stores stores' : List StoreBytes) → put ≤ n → take n stores' ≡ stores → take put stores' ≡ take put stores
kept_front put n stores stores' within kept = sym (take_of_take put n stores' within) ∙ ap (take put) kept

picked_mount : (test : Bool) (here there : Store) (parts others : List ℕ × List ℕ) → reads_of here ≡ parts → reads_of there ≡ others → reads_of (if test then here else there) ≡ (if test then parts else others)
picked_mount true here there parts others first second = first
picked_mount false here there parts others first second = second

mounts : (input : List ℕ) (stores stores' : List StoreBytes) (put : ℕ) (events all : List Event) {mounted : Option (List ℕ)} {left said noted log pages : List ℕ} (name log' pages' : List ℕ) →
    IsHeld (now (history_in input stores put events)) mounted left said noted log pages stores → all ≡ events ++ Mounted name ∷ [] → take put stores' ≡ take put stores →
    ((other : List ℕ) → last_contents_of stores' other ≡ contents_of mounted (log, pages) stores other) → contents_of mounted (log, pages) stores name ≡ (log', pages') →
    IsHeld (now (history_in input stores' put all)) (Some name) left said noted log' pages' stores'
mounts input stores stores' put events all name log' pages' tied is kept newer found =
    let s = now (history_in input stores put events) in
    let here : reads_of (store_of s name) ≡ (log', pages') = tied.stores_are name ∙ found in
    rw (ap (λ front. now (record { start = start_of input front; events = all })) kept ∙ entered input stores put events (Mounted name ∷ []) all is)
    (record {
      input_is = tied.input_is;
      said_is = tied.said_is;
      noted_is = tied.noted_is;
      mounted_is = refl;
      log_is = ap (λ parts. parts.0) here;
      pages_is = ap (λ parts. parts.1) here;
      stores_are = λ other. picked_mount (bytes_eq name other) (store_of s name) (store_of s other) _ (last_contents_of stores' other) here (tied.stores_are other ∙ sym (newer other));
      images_are = images_after s (Mounted name) tt tied.images_are;
    })

pub tied_mounted : (input : List ℕ) (stores stores' : List StoreBytes) (put : ℕ) (events all : List Event) {mounted mounted' : Option (List ℕ)} {left said noted log pages : List ℕ} (name log' pages' : List ℕ) →
    IsHeld (now (history_in input stores put events)) mounted left said noted log pages stores → all ≡ events ++ Mounted name ∷ [] → take put stores' ≡ take put stores →
    ((other : List ℕ) → last_contents_of stores' other ≡ contents_of mounted (log, pages) stores other) → contents_of mounted (log, pages) stores name ≡ (log', pages') → mounted' ≡ Some name →
    IsHeld (now (history_in input stores' put all)) mounted' left said noted log' pages' stores'
tied_mounted input stores stores' put events all name log' pages' tied is kept newer found mounted_is = rw mounted_is (mounts input stores stores' put events all name log' pages' tied is kept newer found)
