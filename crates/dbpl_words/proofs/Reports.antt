-- Each report in the form in which it is noted.
use Rattle.std.proofs.Common.{◌≡◌, ◌∙◌, ℕ, ◌-◌, ◌<◌, ◌≤◌, List, [], ◌∷◌, ◌++◌, append_assoc, arith, refl}
use Rattle.std.specs.Prelude.{codes, decimal}
use Rattle.dbpl_base.specs.Report.{place_text, report, rule_name}
use Rattle.dbpl_base.specs.declared.place.Place.{Place}
use Rattle.dbpl_base.specs.declared.status.Status.TheVariants.{Absent, BadWords, Damaged, DiskFault, Done, Exists, Foreign, InFault, LinkInterface, LinkMissing, LinkTwice, Malformed, Memory, NoRelation, NotStore, OutFault, Refused, SchemaDiffers, SourceFault, Stopped, StoreFull, TooLong, Trapped, Unsafe}

pub report-done : report Done ≡ []
unfolding report
report-done = refl

pub report-bad_words : report BadWords ≡ codes "usage: dbpl MODE WORDS [--steps N]\n"
unfolding report
report-bad_words = refl

pub report-source_fault : report SourceFault ≡ codes "cannot read a source file\n"
unfolding report
report-source_fault = refl

pub report-not_store : report NotStore ≡ codes "not a store\n"
unfolding report
report-not_store = refl

pub report-disk_fault : report DiskFault ≡ codes "disk fault\n"
unfolding report
report-disk_fault = refl

pub report-in_fault : report InFault ≡ codes "input fault\n"
unfolding report
report-in_fault = refl

pub report-out_fault : report OutFault ≡ codes "output fault\n"
unfolding report
report-out_fault = refl

pub report-store_full : report StoreFull ≡ codes "store full\n"
unfolding report
report-store_full = refl

pub report-memory : report Memory ≡ codes "out of memory\n"
unfolding report
report-memory = refl

pub report-exists : report Exists ≡ codes "store exists\n"
unfolding report
report-exists = refl

pub report-foreign : report Foreign ≡ codes "files hold something else\n"
unfolding report
report-foreign = refl

pub report-absent : (name : List ℕ) → report (Absent name) ≡ codes "no file " ++ name ++ codes "\n"
unfolding report
report-absent name = refl

pub report-too_long : (name : List ℕ) → report (TooLong name) ≡ codes "file too long " ++ name ++ codes "\n"
unfolding report
report-too_long name = refl

pub report-no_relation : (name : List ℕ) → report (NoRelation name) ≡ codes "no relation " ++ name ++ codes "\n"
unfolding report
report-no_relation name = refl

pub report-schema_differs : (name : List ℕ) → report (SchemaDiffers name) ≡ [] ++ name ++ codes " has another type in the store\n"
unfolding report
report-schema_differs name = append_assoc name (codes " has another type in the store") (10 ∷ [])

pub report-link_missing : (name : List ℕ) → report (LinkMissing name) ≡ codes "link: " ++ name ++ codes " missing\n"
unfolding report
report-link_missing name = append_assoc (codes "link: " ++ name) (codes " missing") (10 ∷ [])

pub report-link_twice : (name : List ℕ) → report (LinkTwice name) ≡ codes "link: " ++ name ++ codes " twice\n"
unfolding report
report-link_twice name = append_assoc (codes "link: " ++ name) (codes " twice") (10 ∷ [])

pub report-link_interface : (name : List ℕ) → report (LinkInterface name) ≡ codes "link: " ++ name ++ codes " differs\n"
unfolding report
report-link_interface name = append_assoc (codes "link: " ++ name) (codes " differs") (10 ∷ [])

pub report-stopped : (count : ℕ) → report (Stopped count) ≡ codes "stopped after " ++ decimal count ++ codes " instructions\n"
unfolding report
report-stopped count = append_assoc (codes "stopped after " ++ decimal count) (codes " instructions") (10 ∷ [])

pub report-damaged : (page : ℕ) → report (Damaged page) ≡ codes "store damaged at page " ++ decimal page ++ codes "\n"
unfolding report
report-damaged page = refl

pub report-unsafe : (address : ℕ) → report (Unsafe address) ≡ codes "unsafe at address " ++ decimal address ++ codes "\n"
unfolding report
report-unsafe address = refl

-- the report of a malformed file, in the four pieces in which it is noted
pub report-malformed : (file : List ℕ) (at : ℕ) →
    report (Malformed file at) ≡ file ++ (codes " is malformed at " ++ (decimal at ++ 10 ∷ []))
unfolding report
report-malformed file at =
    append_assoc (file ++ codes " is malformed at ") (decimal at) (10 ∷ [])
    ∙ append_assoc file (codes " is malformed at ") (decimal at ++ 10 ∷ [])

-- what happened, its number, and the place
abbrev pub placed : List ℕ → ℕ → Place → List ℕ
placed what number place = what ++ decimal number ++ codes " at " ++ place_text place ++ 10 ∷ []

-- the same in the nine pieces in which it is noted
abbrev pub pieces_of : List ℕ → List ℕ → List ℕ → List ℕ → List ℕ → List ℕ
pieces_of what number unit line column =
    what ++ (number ++ (codes " at " ++ (unit ++ (58 ∷ (line ++ (58 ∷ (column ++ 10 ∷ [])))))))

pub placed-pieces : (what : List ℕ) (number : ℕ) (place : Place) →
    placed what number place ≡ pieces_of what (decimal number) (decimal place.unit) (decimal place.line) (decimal place.col)
placed-pieces what number place = simp append_assoc

pub report-trapped : (kind : ℕ) (place : Place) → report (Trapped kind place) ≡ placed (codes "trap ") kind place
unfolding report
report-trapped kind place = refl

rule_name-language : (rule : ℕ) → 100 < rule → rule_name rule ≡ codes "L" ++ decimal (rule - 100)
rule_name-language rule more = grind arith

rule_name-statics : (rule : ℕ) → rule ≤ 100 → rule_name rule ≡ codes "S" ++ decimal rule
rule_name-statics rule less = grind arith

pub report-language : (rule : ℕ) (place : Place) → 100 < rule → report (Refused place rule) ≡ placed (codes "refused L") (rule - 100) place
unfolding report
report-language rule place more = rw (rule_name-language rule more) refl

pub report-statics : (rule : ℕ) (place : Place) → rule ≤ 100 → report (Refused place rule) ≡ placed (codes "refused S") rule place
unfolding report
report-statics rule place less = rw (rule_name-statics rule less) refl
