-- A command that mounts the store of a name, and then changes that store and what is said alone.
use Rattle.std.proofs.Common.{◌≡◌, ◌≢◌, ◌∙◌, ℕ, Bool, List, [], ◌∷◌, Option, Some, ap, false, inl, inr, refl, subst, sym, true}
use Rattle.std.proofs.lemmas.Slice.Eq.{bytes_eq-Decides}
use Rattle.std.specs.Prelude.{bytes_eq, if◌then◌else◌, IsSomeAnd}
use Rattle.dbpl_log.specs.Changes.{IsSynced}
use Rattle.dbpl_promise.specs.Leaving.{IsUntouched}
use Rattle.dbpl_promise.specs.Promises.{LeavesAlone}
use Rattle.dbpl_world.proofs.Moments.{moments_first, moments_then, store_of_mounted}
use Rattle.dbpl_world.proofs.Replays.{now-more}
use Rattle.dbpl_world.specs.History.{History, Mounted, State, Store, more, now, step, store_among, store_of}
use Rattle.dbpl_world.specs.Images.{IsImage}
use Rattle.dbpl_world.specs.Moments.{EachMoment}

-- a store of another name than the mounted one is among the others
other_store : (name other : List ℕ) (disk : Store) (others : List ℕ → Store) → other ≢ name → store_among (Some name) disk others other ≡ others other
other_store name other disk others different = by_test (bytes_eq name other) refl
  where
    by_test : (test : Bool) → bytes_eq name other ≡ test → (if test then disk else others other) ≡ others other
    by_test true e = absurd (different (sym ((bytes_eq-Decides name other).0 e)))
    by_test false e = refl

-- Since old the store of this name was mounted, and nothing has changed but it and what was said.
abbrev pub SinceMounted : List ℕ → State → State → Type 0
SinceMounted name old s = s ≡ record old { mounted = Some name; disk = s.disk; others = store_of old; said = s.said }

module _ (name : List ℕ) (old mid : History) (mount : mid ≡ more old (Mounted name ∷ [])) where
  pub mounted_state : now mid ≡ step (now old) (Mounted name)
  mounted_state = ap now mount ∙ now-more old (Mounted name ∷ [])

  pub mounted_disk : (now mid).disk ≡ store_of (now old) name
  mounted_disk = ap (λ (s : State). s.disk) mounted_state

  pub mounted_said : (now mid).said ≡ (now old).said
  mounted_said = ap (λ (s : State). s.said) mounted_state

  pub mounted_input : (now mid).input ≡ (now old).input
  mounted_input = ap (λ (s : State). s.input) mounted_state

  pub since_mounted : (s : State) → s ≡ record (now mid) { disk = s.disk; said = s.said } → SinceMounted name (now old) s
  since_mounted s others = others ∙ ap (λ (t : State). record t { disk = s.disk; said = s.said }) mounted_state

  -- what holds before, and at each moment from then on, holds at each moment
  pub moments_mounted : (Q : State → Type 0) (new : History) → Q (now old) → EachMoment Q mid new → EachMoment Q old new
  moments_mounted Q new first later =
      moments_then Q old mid new
      (record { events = Mounted name ∷ []; is = mount; each = (first, subst Q mounted_state (moments_first Q mid new later)) }) later

module _ (name : List ℕ) (old s : State) (since : SinceMounted name old s) where
  pub named_there : s.mounted ≡ Some name
  named_there = ap (λ (t : State). t.mounted) since

  pub stands_there : store_of s name ≡ s.disk
  stands_there = store_of_mounted s name named_there

  pub elsewhere : (other : List ℕ) → other ≢ name → store_of s other ≡ store_of old other
  elsewhere other different =
      ap (λ (m : Option (List ℕ)). store_among m s.disk s.others other) named_there
      ∙ (other_store name other s.disk s.others different
      ∙ ap (λ (t : State). t.others other) since)

  -- the store of another name, or the mounted one
  here_or_there : (P : List ℕ → Type 0) → P name → ((other : List ℕ) → other ≢ name → P other) → (other : List ℕ) → P other
  here_or_there P here there other = by_test (bytes_eq name other) refl
    where
      by_test : (test : Bool) → bytes_eq name other ≡ test → P other
      by_test true e = subst P ((bytes_eq-Decides name other).0 e) here
      by_test false e = there other (λ same. cc (e, (bytes_eq-Decides name other).1 (sym same)))

  pub alone_there : (mounts : List ℕ → Type 0) → mounts name → IsSynced (store_of old name).pages s.disk.pages → LeavesAlone mounts old s
  alone_there mounts may pages = record {
    mounted = inr (subst (λ (m : Option (List ℕ)). IsSomeAnd m mounts) (sym named_there) may);
    others = λ other none. elsewhere other (λ e. none (subst mounts (sym e) may));
    pages = here_or_there (λ other. IsSynced (store_of old other).pages (store_of s other).pages)
        (subst (λ (d : Store). IsSynced (store_of old name).pages d.pages) (sym stands_there) pages)
        (λ other different. inl (ap (λ (d : Store). d.pages) (elsewhere other different)));
    noted = ap (λ (t : State). t.noted) since;
  }

  pub untouched_there : s.said ≡ old.said → ((left : List ℕ) → IsImage s.disk.log left → IsImage (store_of old name).log left) →
      ((left : List ℕ) → IsImage s.disk.pages left → IsImage (store_of old name).pages left) → IsUntouched old s
  untouched_there said log pages = record {
    log = here_or_there (λ other. (left : List ℕ) → IsImage (store_of s other).log left → IsImage (store_of old other).log left)
        (λ left image. log left (subst (λ (d : Store). IsImage d.log left) stands_there image))
        (λ other different left image. subst (λ (d : Store). IsImage d.log left) (elsewhere other different) image);
    pages = here_or_there (λ other. (left : List ℕ) → IsImage (store_of s other).pages left → IsImage (store_of old other).pages left)
        (λ left image. pages left (subst (λ (d : Store). IsImage d.pages left) stands_there image))
        (λ other different left image. subst (λ (d : Store). IsImage d.pages left) (elsewhere other different) image);
    said = said;
    input = ap (λ (t : State). t.input) since;
  }

-- where nothing but the disk has changed, what was said has not
pub only_disk : (m s : State) → s ≡ record m { disk = s.disk } → s ≡ record m { disk = s.disk; said = s.said }
only_disk m s is =
    is ∙ ap (λ (bytes : List ℕ). record m { disk = s.disk; said = bytes }) (sym (ap (λ (t : State). t.said) is))
