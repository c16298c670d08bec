-- What holds at each moment while bytes are said.
use Rattle.std.proofs.Common.{◌≡◌, ◌∙◌, ℕ, List, [], ◌∷◌, ◌++◌, Some, ap, append_assoc, append-nil, map, refl, subst, sym}
use Rattle.std.proofs.lemmas.List.{map-append}
use Rattle.dbpl_core.proofs.Events.{last-outs, prints-outs}
use Rattle.dbpl_core.specs.Events.{Out}
use Rattle.dbpl_stored_run.proofs.Tying.{changes-none}
use Rattle.dbpl_stored_run.specs.Headline.{HasMade, HasMadeSome, LeavesTied, StandsFor}
use Rattle.dbpl_stored_run.specs.Leaving.{ChangesStore}
use Rattle.dbpl_value.specs.declared.bound.Bound.{Bound}
use Rattle.dbpl_world.proofs.Replays.{now-more, replay-said}
use Rattle.dbpl_world.specs.History.{History, Said, State, more, now, step}
use Rattle.dbpl_world.specs.Moments.{Always, EachMoment}

-- with these bytes said
abbrev saying : State → List ℕ → State
saying s bytes = record s { said = s.said ++ bytes }

-- those that came are the prints of a front of the events
came-tied :
    (database : List Bound) (s : State) (all came rest : List ℕ) → StandsFor database s → all ≡ came ++ rest →
    LeavesTied (map Out all) database s (saying s came)
came-tied database s all came rest stood split = record {
  left = λ log pages image torn. record {
    made = map Out came;
    rest = map Out rest;
    prefix = ap (λ (bytes : List ℕ). map Out bytes) split ∙ map-append Out came rest;
    printed = ap (λ (bytes : List ℕ). s.said ++ bytes) (sym (prints-outs came));
    stored = stood log pages image torn ∙ ap (λ (d : List Bound). Some d) (sym (last-outs came database));
  };
  others = refl;
}

one-more : (s : State) (came : List ℕ) (byte : ℕ) → saying s (came ++ byte ∷ []) ≡ step (saying s came) (Said byte)
one-more s came byte = ap (λ (bytes : List ℕ). record s { said = bytes }) (sym (append_assoc s.said came (byte ∷ [])))

always-tied :
    (database : List Bound) (s : State) (all came said rest : List ℕ) → StandsFor database s →
    all ≡ came ++ (said ++ rest) → Always (LeavesTied (map Out all) database s) (saying s came) (map Said said)
always-tied database s all came [] rest stood split = came-tied database s all came rest stood split
always-tied database s all came (byte ∷ said) rest stood split = (
  came-tied database s all came (byte ∷ (said ++ rest)) stood split,
  subst (λ (t : State). Always (LeavesTied (map Out all) database s) t (map Said said)) (one-more s came byte)
      (always-tied database s all (came ++ byte ∷ []) said rest stood
      (split ∙ sym (append_assoc came (byte ∷ []) (said ++ rest)))),
)

nothing-said : (s : State) → saying s [] ≡ s
nothing-said s = ap (λ (bytes : List ℕ). record s { said = bytes }) (append-nil s.said)

pub said-moments :
    (database : List Bound) (old new : History) (all said rest : List ℕ) → StandsFor database (now old) →
    all ≡ said ++ rest → new ≡ more old (map Said said) → EachMoment (LeavesTied (map Out all) database (now old)) old new
said-moments database old new all said rest stood split is = record {
  events = map Said said;
  is = is;
  each = subst (λ (t : State). Always (LeavesTied (map Out all) database (now old)) t (map Said said)) (nothing-said (now old))
      (always-tied database (now old) all [] said rest stood split);
}

pub said-state : (old new : History) (said : List ℕ) → new ≡ more old (map Said said) → now new ≡ saying (now old) said
said-state old new said is = ap now is ∙ now-more old (map Said said) ∙ replay-said (now old) said

pub said-made :
    (database : List Bound) (old new : History) (said : List ℕ) → StandsFor database (now old) →
    new ≡ more old (map Said said) → HasMade (map Out said) database (now old) (now new)
said-made database old new said stood is =
    subst (λ (t : State). HasMade (map Out said) database (now old) t) (sym (said-state old new said is)) (record {
      printed = ap (λ (bytes : List ℕ). (now old).said ++ bytes) (sym (prints-outs said));
      stored = λ log pages image torn.
          stood log pages image torn ∙ ap (λ (d : List Bound). Some d) (sym (last-outs said database));
    })

pub said-some :
    (database : List Bound) (old new : History) (all said rest : List ℕ) → StandsFor database (now old) →
    all ≡ said ++ rest → new ≡ more old (map Said said) → HasMadeSome (map Out all) database (now old) (now new)
said-some database old new all said rest stood split is = record {
  made = map Out said;
  rest = map Out rest;
  prefix = ap (λ (bytes : List ℕ). map Out bytes) split ∙ map-append Out said rest;
  has = said-made database old new said stood is;
}

pub said-disk :
    (old new : History) (said : List ℕ) → new ≡ more old (map Said said) → (now new).disk ≡ (now old).disk
said-disk old new said is = ap (λ (t : State). t.disk) (said-state old new said is)

always-only :
    (old s : State) (said : List ℕ) → ChangesStore old s → Always (ChangesStore old) s (map Said said)
always-only old s [] changes = changes
always-only old s (byte ∷ said) changes = (
  changes,
  always-only old (step s (Said byte)) said (record {
    pages = changes.pages;
    others = ap (λ (t : State). record t { said = s.said ++ byte ∷ [] }) changes.others;
  }),
)

pub said-only :
    (old new : History) (said : List ℕ) → new ≡ more old (map Said said) → EachMoment (ChangesStore (now old)) old new
said-only old new said is =
    record { events = map Said said; is = is; each = always-only (now old) (now old) said (changes-none (now old)) }
