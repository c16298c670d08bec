-- That each word of judgements keeps exactness.
use Rattle.std.proofs.Common.{◌≡◌, ℕ, Bool, true, false, List, Option, Some, None}
use Rattle.std.specs.Prelude.{if◌then◌else◌}
use Rattle.std.specs.Option.{option_map_or}
use Rattle.dbpl_base.specs.declared.place.Place.{Place}
use Rattle.dbpl_judging.proofs.Silencing.{asks_silences, both_silences, breaks_silences, each_at_silences, each_silences, folded_silences, good_silences, known_silences, made_silences, then_silences, unbuilt_silences}
use Rattle.dbpl_judging.proofs.Speaking.{asks_speaks, both_speaks, breaks_speaks, each_at_speaks, each_speaks, folded_speaks, good_speaks, known_speaks, made_speaks, then_speaks, unbuilt_speaks}
use Rattle.dbpl_judging.specs.Judgements.{Judged, asks, both, breaks, each, each_at, folded, good, made, unbuilt, ◌>>=◌, ◌>>?◌, ◌>>◌}
use Rattle.dbpl_rules_expr.specs.Exact.{IsExact}

pub good_exact : {A : Type 0} (core : A) → IsExact (good core)
good_exact core = record { speaks = good_speaks core; silences = good_silences core }

pub breaks_exact : {A : Type 0} (rule : ℕ) (place : Place) → IsExact (breaks {A = A} rule place)
breaks_exact rule place = record { speaks = breaks_speaks rule place; silences = breaks_silences rule place }

pub unbuilt_exact : {A : Type 0} → IsExact (unbuilt {A = A})
unbuilt_exact = record { speaks = unbuilt_speaks; silences = unbuilt_silences }

pub asks_exact : (rule : ℕ) (place : Place) (test : Bool) → IsExact (asks rule place test)
asks_exact rule place test = record { speaks = asks_speaks rule place test; silences = asks_silences rule place test }

-- what is judged whatever the phrase before it breaks has no core where that has none
pub known_exact :
    {A B : Type 0} (judged : Judged A) (next : Option A → Judged B) → IsExact judged → ((part : A) → IsExact (next (Some part))) →
    (next None).core ≡ None → IsExact (judged >>? next)
known_exact judged next first exact nothing = record {
  speaks = known_speaks judged next first.speaks (λ part. (exact part).speaks);
  silences = known_silences judged next first.silences (λ part. (exact part).silences) nothing;
}

pub then_exact :
    {A B : Type 0} (judged : Judged A) (next : A → Judged B) → IsExact judged → ((part : A) → IsExact (next part)) →
    IsExact (judged >>= next)
then_exact judged next first exact = record {
  speaks = then_speaks judged next first.speaks (λ part. (exact part).speaks);
  silences = then_silences judged next first.silences (λ part. (exact part).silences);
}

pub after_exact : {A B : Type 0} (judged : Judged A) (next : Judged B) → IsExact judged → IsExact next → IsExact (judged >> next)
after_exact judged next first second = then_exact judged (λ _. next) first (λ _. second)

pub both_exact : {A B : Type 0} (one : Judged A) (other : Judged B) → IsExact one → IsExact other → IsExact (both one other)
both_exact one other first second = record {
  speaks = both_speaks one other first.speaks (λ clean. second.speaks);
  silences = both_silences one other first.silences second.silences;
}

pub made_exact : {A B : Type 0} (make : A → B) (judged : Judged A) → IsExact judged → IsExact (made make judged)
made_exact make judged exact = record {
  speaks = made_speaks make judged exact.speaks;
  silences = made_silences make judged exact.silences;
}

pub each_exact :
    {A B : Type 0} (judge : A → Judged B) (phrases : List A) → ((phrase : A) → IsExact (judge phrase)) → IsExact (each judge phrases)
each_exact judge phrases exact = record {
  speaks = each_speaks judge phrases (λ phrase. (exact phrase).speaks);
  silences = each_silences judge phrases (λ phrase. (exact phrase).silences);
}

pub each_at_exact :
    {A B : Type 0} (judge : ℕ → A → Judged B) (number : ℕ) (phrases : List A) → ((at : ℕ) (phrase : A) → IsExact (judge at phrase)) →
    IsExact (each_at judge number phrases)
each_at_exact judge number phrases exact = record {
  speaks = each_at_speaks judge number phrases (λ at phrase. (exact at phrase).speaks);
  silences = each_at_silences judge number phrases (λ at phrase. (exact at phrase).silences);
}

pub folded_exact :
    {P A B : Type 0} (judge : P → Judged B) (next : P → A → B → Judged A) (start : Judged A) (phrases : List P) →
    ((phrase : P) → IsExact (judge phrase)) → ((phrase : P) (one : A) (other : B) → IsExact (next phrase one other)) →
    IsExact start → IsExact (folded judge next start phrases)
folded_exact judge next start phrases parts nexts first = record {
  speaks =
      folded_speaks judge next start phrases (λ phrase. (parts phrase).speaks) (λ phrase one other. (nexts phrase one other).speaks)
      first.speaks;
  silences =
      folded_silences judge next start phrases (λ phrase. (parts phrase).silences)
      (λ phrase one other. (nexts phrase one other).silences) first.silences;
}

pub if_exact : {A : Type 0} (test : Bool) (one other : Judged A) → IsExact one → IsExact other → IsExact (if test then one else other)
if_exact true one other first second = first
if_exact false one other first second = second

-- what is judged by a part that may be absent
pub option_exact :
    {A B : Type 0} (judge : A → Judged B) (part : Option A) (other : Judged B) → ((one : A) → IsExact (judge one)) →
    IsExact other → IsExact (option_map_or judge part other)
option_exact judge None other first second = second
option_exact judge (Some part) other first second = first part
