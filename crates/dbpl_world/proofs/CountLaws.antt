-- The counts after two calls, and what rose since an earlier moment.
use Rattle.std.proofs.Common.{ℕ, ◌≤◌, ap, ◌∙◌, arith}
use Rattle.dbpl_world.specs.Counts.{Counts, Rose, OnlyTakeFaults, OnlySayFaults, OnlyNoteFaults, OnlyDiskFaults}

pub rose_since : (old mid new : ℕ) → old ≤ mid → Rose mid new → Rose old new
rose_since old mid new later rose = omega arith

pub rose_until : (old mid new : ℕ) → Rose old mid → mid ≤ new → Rose old new
rose_until old mid new rose later = omega arith

pub take_then : {old mid new : Counts} → OnlyTakeFaults old mid → OnlyTakeFaults mid new → OnlyTakeFaults old new
take_then {new = new} first second = record {
  others = second.others ∙ ap {A = Counts} {B = Counts} (λ counts. record counts { take_faults = new.take_faults }) first.others;
  later = omega (arith, first.later, second.later);
}

pub say_then : {old mid new : Counts} → OnlySayFaults old mid → OnlySayFaults mid new → OnlySayFaults old new
say_then {new = new} first second = record {
  others = second.others ∙ ap {A = Counts} {B = Counts} (λ counts. record counts { say_faults = new.say_faults }) first.others;
  later = omega (arith, first.later, second.later);
}

pub note_then : {old mid new : Counts} → OnlyNoteFaults old mid → OnlyNoteFaults mid new → OnlyNoteFaults old new
note_then {new = new} first second = record {
  others = second.others ∙ ap {A = Counts} {B = Counts} (λ counts. record counts { note_faults = new.note_faults }) first.others;
  later = omega (arith, first.later, second.later);
}

pub disk_then : {old mid new : Counts} → OnlyDiskFaults old mid → OnlyDiskFaults mid new → OnlyDiskFaults old new
disk_then {new = new} first second = record {
  others = second.others ∙ ap {A = Counts} {B = Counts} (λ counts. record counts { disk_faults = new.disk_faults }) first.others;
  later = omega (arith, first.later, second.later);
}
