-- The exit status of each answer.
use Rattle.std.specs.Prelude.{ℕ}
use Rattle.dbpl_base.specs.declared.status.Status.{Status}
use Rattle.dbpl_base.specs.declared.status.Status.TheVariants.{Done, Trapped, BadWords, Refused, Stopped, Absent, SourceFault, NotStore, Damaged, SchemaDiffers, DiskFault, InFault, OutFault, StoreFull, Memory, Exists, Foreign, NoRelation, TooLong, LinkMissing, LinkTwice, LinkInterface, Malformed, Unsafe}

abbrev pub code_of : Status → ℕ
code_of Done = 0
code_of (Trapped kind place) = 1
code_of BadWords = 2
code_of (Refused place rule) = 3
code_of (Stopped count) = 4
code_of (Absent name) = 5
code_of SourceFault = 6
code_of NotStore = 7
code_of (Damaged page) = 8
code_of (SchemaDiffers name) = 9
code_of DiskFault = 10
code_of InFault = 11
code_of OutFault = 12
code_of StoreFull = 13
code_of Memory = 14
code_of Exists = 15
code_of Foreign = 15
code_of (NoRelation name) = 16
code_of (TooLong name) = 17
code_of (LinkMissing name) = 18
code_of (LinkTwice name) = 18
code_of (LinkInterface name) = 18
code_of (Malformed file at) = 19
code_of (Unsafe address) = 19
