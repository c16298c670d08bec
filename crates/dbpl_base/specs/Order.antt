-- Which of two places, and which of two refusals, comes first: by unit, line and column, and then by the rule's number.
use Rattle.std.specs.Prelude.{Bool}
use Rattle.std.specs.Cmp.{IsTotalOrder, nat_cmp_total, on_total, then_total}
use Rattle.std.specs.Ordering.{is_lt, nat_cmp, on, then_cmp}
use Rattle.std.specs.declared.cmp.Ordering.{Ordering}
use Rattle.dbpl_base.specs.declared.place.Place.{Place}
use Rattle.dbpl_base.specs.declared.refusal.Refusal.{Refusal}

abbrev pub place_cmp : Place → Place → Ordering
place_cmp =
    then_cmp (on (λ place. place.unit) nat_cmp) (then_cmp (on (λ place. place.line) nat_cmp) (on (λ place. place.col) nat_cmp))

abbrev pub refusal_cmp : Refusal → Refusal → Ordering
refusal_cmp = then_cmp (on (λ refusal. refusal.place) place_cmp) (on (λ refusal. refusal.rule) nat_cmp)

-- the first refusal is the one to report
abbrev pub is_before : Refusal → Refusal → Bool
is_before first other = is_lt (refusal_cmp first other)

pub place_total : IsTotalOrder place_cmp
place_total =
    then_total (on_total (λ place. place.unit) nat_cmp_total)
    (then_total (on_total (λ place. place.line) nat_cmp_total) (on_total (λ place. place.col) nat_cmp_total))

pub refusal_total : IsTotalOrder refusal_cmp
refusal_total = then_total (on_total (λ refusal. refusal.place) place_total) (on_total (λ refusal. refusal.rule) nat_cmp_total)
