-- Each status has its report.
use Rattle.dbpl_words.proofs.Appending.{more-nil}
use Rattle.dbpl_words.proofs.Reports.{report-absent, report-bad_words, report-damaged, report-disk_fault, report-done, report-exists, report-foreign, report-in_fault, report-link_interface, report-link_missing, report-link_twice, report-memory, report-no_relation, report-not_store, report-out_fault, report-schema_differs, report-source_fault, report-stopped, report-store_full, report-too_long, report-trapped, report-unsafe}
use Rattle.dbpl_words.proofs.report.note_report.Goals as goal

pub returns-in-Done-clause-ok : goal.returns-in-Done-clause-ok
returns-in-Done-clause-ok g c = λ told. rw (c.in-Done.is, report-done) (more-nil _)

pub returns-in-Trapped-clause-ok : goal.returns-in-Trapped-clause-ok
returns-in-Trapped-clause-ok g c = λ told. rw (c.in-Trapped.is, report-trapped, ← c.from.ensures) (c.note_place.ensures.ok told)

pub returns-in-Trapped-clause-err : goal.returns-in-Trapped-clause-err
returns-in-Trapped-clause-err g c = λ told. rw (c.in-Trapped.is, report-trapped, ← c.from.ensures) (c.note_place.ensures.err told)

pub returns-in-BadWords-clause-ok : goal.returns-in-BadWords-clause-ok
returns-in-BadWords-clause-ok g c = λ told. rw (c.in-BadWords.is, report-bad_words) (c.note_all.ensures.ok told)

pub returns-in-BadWords-clause-err : goal.returns-in-BadWords-clause-err
returns-in-BadWords-clause-err g c = λ told. rw (c.in-BadWords.is, report-bad_words) (c.note_all.ensures.err told)

pub returns-in-Stopped-clause-ok : goal.returns-in-Stopped-clause-ok
returns-in-Stopped-clause-ok g c = λ told. rw (c.in-Stopped.is, report-stopped) (c.note_number.ensures.ok told)

pub returns-in-Stopped-clause-err : goal.returns-in-Stopped-clause-err
returns-in-Stopped-clause-err g c = λ told. rw (c.in-Stopped.is, report-stopped) (c.note_number.ensures.err told)

pub returns-in-Absent-clause-ok : goal.returns-in-Absent-clause-ok
returns-in-Absent-clause-ok g c = λ told. rw (c.in-Absent.is, report-absent) (c.note_name.ensures.ok told)

pub returns-in-Absent-clause-err : goal.returns-in-Absent-clause-err
returns-in-Absent-clause-err g c = λ told. rw (c.in-Absent.is, report-absent) (c.note_name.ensures.err told)

pub returns-in-SourceFault-clause-ok : goal.returns-in-SourceFault-clause-ok
returns-in-SourceFault-clause-ok g c = λ told. rw (c.in-SourceFault.is, report-source_fault) (c.note_all-in-SourceFault.ensures.ok told)

pub returns-in-SourceFault-clause-err : goal.returns-in-SourceFault-clause-err
returns-in-SourceFault-clause-err g c = λ told. rw (c.in-SourceFault.is, report-source_fault) (c.note_all-in-SourceFault.ensures.err told)

pub returns-in-NotStore-clause-ok : goal.returns-in-NotStore-clause-ok
returns-in-NotStore-clause-ok g c = λ told. rw (c.in-NotStore.is, report-not_store) (c.note_all-in-NotStore.ensures.ok told)

pub returns-in-NotStore-clause-err : goal.returns-in-NotStore-clause-err
returns-in-NotStore-clause-err g c = λ told. rw (c.in-NotStore.is, report-not_store) (c.note_all-in-NotStore.ensures.err told)

pub returns-in-Damaged-clause-ok : goal.returns-in-Damaged-clause-ok
returns-in-Damaged-clause-ok g c = λ told. rw (c.in-Damaged.is, report-damaged, ← c.from-in-Damaged.ensures) (c.note_number-in-Damaged.ensures.ok told)

pub returns-in-Damaged-clause-err : goal.returns-in-Damaged-clause-err
returns-in-Damaged-clause-err g c = λ told. rw (c.in-Damaged.is, report-damaged, ← c.from-in-Damaged.ensures) (c.note_number-in-Damaged.ensures.err told)

pub returns-in-SchemaDiffers-clause-ok : goal.returns-in-SchemaDiffers-clause-ok
returns-in-SchemaDiffers-clause-ok g c = λ told. rw (c.in-SchemaDiffers.is, report-schema_differs) (c.note_name-in-SchemaDiffers.ensures.ok told)

pub returns-in-SchemaDiffers-clause-err : goal.returns-in-SchemaDiffers-clause-err
returns-in-SchemaDiffers-clause-err g c = λ told. rw (c.in-SchemaDiffers.is, report-schema_differs) (c.note_name-in-SchemaDiffers.ensures.err told)

pub returns-in-DiskFault-clause-ok : goal.returns-in-DiskFault-clause-ok
returns-in-DiskFault-clause-ok g c = λ told. rw (c.in-DiskFault.is, report-disk_fault) (c.note_all-in-DiskFault.ensures.ok told)

pub returns-in-DiskFault-clause-err : goal.returns-in-DiskFault-clause-err
returns-in-DiskFault-clause-err g c = λ told. rw (c.in-DiskFault.is, report-disk_fault) (c.note_all-in-DiskFault.ensures.err told)

pub returns-in-InFault-clause-ok : goal.returns-in-InFault-clause-ok
returns-in-InFault-clause-ok g c = λ told. rw (c.in-InFault.is, report-in_fault) (c.note_all-in-InFault.ensures.ok told)

pub returns-in-InFault-clause-err : goal.returns-in-InFault-clause-err
returns-in-InFault-clause-err g c = λ told. rw (c.in-InFault.is, report-in_fault) (c.note_all-in-InFault.ensures.err told)

pub returns-in-OutFault-clause-ok : goal.returns-in-OutFault-clause-ok
returns-in-OutFault-clause-ok g c = λ told. rw (c.in-OutFault.is, report-out_fault) (c.note_all-in-OutFault.ensures.ok told)

pub returns-in-OutFault-clause-err : goal.returns-in-OutFault-clause-err
returns-in-OutFault-clause-err g c = λ told. rw (c.in-OutFault.is, report-out_fault) (c.note_all-in-OutFault.ensures.err told)

pub returns-in-StoreFull-clause-ok : goal.returns-in-StoreFull-clause-ok
returns-in-StoreFull-clause-ok g c = λ told. rw (c.in-StoreFull.is, report-store_full) (c.note_all-in-StoreFull.ensures.ok told)

pub returns-in-StoreFull-clause-err : goal.returns-in-StoreFull-clause-err
returns-in-StoreFull-clause-err g c = λ told. rw (c.in-StoreFull.is, report-store_full) (c.note_all-in-StoreFull.ensures.err told)

pub returns-in-Memory-clause-ok : goal.returns-in-Memory-clause-ok
returns-in-Memory-clause-ok g c = λ told. rw (c.in-Memory.is, report-memory) (c.note_all-in-Memory.ensures.ok told)

pub returns-in-Memory-clause-err : goal.returns-in-Memory-clause-err
returns-in-Memory-clause-err g c = λ told. rw (c.in-Memory.is, report-memory) (c.note_all-in-Memory.ensures.err told)

pub returns-in-Exists-clause-ok : goal.returns-in-Exists-clause-ok
returns-in-Exists-clause-ok g c = λ told. rw (c.in-Exists.is, report-exists) (c.note_all-in-Exists.ensures.ok told)

pub returns-in-Exists-clause-err : goal.returns-in-Exists-clause-err
returns-in-Exists-clause-err g c = λ told. rw (c.in-Exists.is, report-exists) (c.note_all-in-Exists.ensures.err told)

pub returns-in-Foreign-clause-ok : goal.returns-in-Foreign-clause-ok
returns-in-Foreign-clause-ok g c = λ told. rw (c.in-Foreign.is, report-foreign) (c.note_all-in-Foreign.ensures.ok told)

pub returns-in-Foreign-clause-err : goal.returns-in-Foreign-clause-err
returns-in-Foreign-clause-err g c = λ told. rw (c.in-Foreign.is, report-foreign) (c.note_all-in-Foreign.ensures.err told)

pub returns-in-NoRelation-clause-ok : goal.returns-in-NoRelation-clause-ok
returns-in-NoRelation-clause-ok g c = λ told. rw (c.in-NoRelation.is, report-no_relation) (c.note_name-in-NoRelation.ensures.ok told)

pub returns-in-NoRelation-clause-err : goal.returns-in-NoRelation-clause-err
returns-in-NoRelation-clause-err g c = λ told. rw (c.in-NoRelation.is, report-no_relation) (c.note_name-in-NoRelation.ensures.err told)

pub returns-in-TooLong-clause-ok : goal.returns-in-TooLong-clause-ok
returns-in-TooLong-clause-ok g c = λ told. rw (c.in-TooLong.is, report-too_long) (c.note_name-in-TooLong.ensures.ok told)

pub returns-in-TooLong-clause-err : goal.returns-in-TooLong-clause-err
returns-in-TooLong-clause-err g c = λ told. rw (c.in-TooLong.is, report-too_long) (c.note_name-in-TooLong.ensures.err told)

pub returns-in-LinkMissing-clause-ok : goal.returns-in-LinkMissing-clause-ok
returns-in-LinkMissing-clause-ok g c = λ told. rw (c.in-LinkMissing.is, report-link_missing) (c.note_name-in-LinkMissing.ensures.ok told)

pub returns-in-LinkMissing-clause-err : goal.returns-in-LinkMissing-clause-err
returns-in-LinkMissing-clause-err g c = λ told. rw (c.in-LinkMissing.is, report-link_missing) (c.note_name-in-LinkMissing.ensures.err told)

pub returns-in-LinkTwice-clause-ok : goal.returns-in-LinkTwice-clause-ok
returns-in-LinkTwice-clause-ok g c = λ told. rw (c.in-LinkTwice.is, report-link_twice) (c.note_name-in-LinkTwice.ensures.ok told)

pub returns-in-LinkTwice-clause-err : goal.returns-in-LinkTwice-clause-err
returns-in-LinkTwice-clause-err g c = λ told. rw (c.in-LinkTwice.is, report-link_twice) (c.note_name-in-LinkTwice.ensures.err told)

pub returns-in-LinkInterface-clause-ok : goal.returns-in-LinkInterface-clause-ok
returns-in-LinkInterface-clause-ok g c = λ told. rw (c.in-LinkInterface.is, report-link_interface) (c.note_name-in-LinkInterface.ensures.ok told)

pub returns-in-LinkInterface-clause-err : goal.returns-in-LinkInterface-clause-err
returns-in-LinkInterface-clause-err g c = λ told. rw (c.in-LinkInterface.is, report-link_interface) (c.note_name-in-LinkInterface.ensures.err told)

pub returns-in-Unsafe-clause-ok : goal.returns-in-Unsafe-clause-ok
returns-in-Unsafe-clause-ok g c = λ told. rw (c.in-Unsafe.is, report-unsafe, ← c.from-in-Unsafe.ensures) (c.note_number-in-Unsafe.ensures.ok told)

pub returns-in-Unsafe-clause-err : goal.returns-in-Unsafe-clause-err
returns-in-Unsafe-clause-err g c = λ told. rw (c.in-Unsafe.is, report-unsafe, ← c.from-in-Unsafe.ensures) (c.note_number-in-Unsafe.ensures.err told)
