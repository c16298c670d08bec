-- What is noted on standard error for each answer: one line, or nothing for `Done`.
use Rattle.std.specs.Prelude.{ℕ, ◌-◌, List, [], ◌∷◌, ◌++◌, codes, decimal, nat_lt, if◌then◌else◌}
use Rattle.dbpl_base.specs.declared.place.Place.{Place}
use Rattle.dbpl_base.specs.declared.status.Status.{Status}
use Rattle.dbpl_base.specs.declared.status.Status.TheVariants.{Done, Trapped, BadWords, Refused, Stopped, Absent, SourceFault, NotStore, Damaged, SchemaDiffers, DiskFault, InFault, OutFault, StoreFull, Memory, Exists, Foreign, NoRelation, TooLong, LinkMissing, LinkTwice, LinkInterface, Malformed, Unsafe}

abbrev pub line : List ℕ → List ℕ
line text = text ++ 10 ∷ []

-- S and the number of the rule, or from 101 on L and the number less 100
abbrev pub rule_name : ℕ → List ℕ
rule_name rule = if nat_lt 100 rule then codes "L" ++ decimal (rule - 100) else codes "S" ++ decimal rule

-- the unit, the line and the column
abbrev pub place_text : Place → List ℕ
place_text place = decimal place.unit ++ codes ":" ++ decimal place.line ++ codes ":" ++ decimal place.col

unfoldable pub report : Status → List ℕ
report Done = []
report (Trapped kind place) = line (codes "trap " ++ decimal kind ++ codes " at " ++ place_text place)
report BadWords = line (codes "usage: dbpl MODE WORDS [--steps N]")
report (Refused place rule) = line (codes "refused " ++ rule_name rule ++ codes " at " ++ place_text place)
report (Stopped count) = line (codes "stopped after " ++ decimal count ++ codes " instructions")
report (Absent name) = line (codes "no file " ++ name)
report SourceFault = line (codes "cannot read a source file")
report NotStore = line (codes "not a store")
report (Damaged page) = line (codes "store damaged at page " ++ decimal page)
report (SchemaDiffers name) = line (name ++ codes " has another type in the store")
report DiskFault = line (codes "disk fault")
report InFault = line (codes "input fault")
report OutFault = line (codes "output fault")
report StoreFull = line (codes "store full")
report Memory = line (codes "out of memory")
report Exists = line (codes "store exists")
report Foreign = line (codes "files hold something else")
report (NoRelation name) = line (codes "no relation " ++ name)
report (TooLong name) = line (codes "file too long " ++ name)
report (LinkMissing name) = line (codes "link: " ++ name ++ codes " missing")
report (LinkTwice name) = line (codes "link: " ++ name ++ codes " twice")
report (LinkInterface name) = line (codes "link: " ++ name ++ codes " differs")
report (Malformed file at) = line (file ++ codes " is malformed at " ++ decimal at)
report (Unsafe address) = line (codes "unsafe at address " ++ decimal address)
