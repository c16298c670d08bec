use Rattle.std.proofs.Common.{◌≡◌, [], ◌++◌, ◌∷◌, Some, ap, rules, sym, ◌∙◌}
use Rattle.dbpl_log.proofs.OnlyLog.{only_start}
use Rattle.dbpl_store.proofs.Changing.{committed-kept, kept-none, kept-some, settled-kept}
use Rattle.dbpl_store.proofs.Committing.{nothing-written, record-written, written-bytes, written-length}
use Rattle.dbpl_store.proofs.Standing.{newest-more, same-spelling, spelt-read}
use Rattle.dbpl_store.specs.Stores.{committed_of, database_in}
use Rattle.dbpl_store.proofs.store.Store.commit.Goals as goal

pub returns-in_default-clause-moments : goal.returns-in_default-clause-moments
returns-in_default-clause-moments g c = λ told stood.
    nothing-written (g.W.World.history c.args.world.now) c.args.self.now.log (committed_of c.args.self.now)
    (database_in c.args.self.now) stood

pub returns-in_default-clause-committed : goal.returns-in_default-clause-committed
returns-in_default-clause-committed g c =
    committed-kept c.args.self.now.stored.items c.args.self.now.database c.args.self.now.sound
    (kept-none (λ bytes. bytes.items) c.args.self.now.stored.items c.args.self.now.database c.args.self.now.changed
    c.args.self.now.kept (sym c.take.ensures.value ∙ c.in_default.is))

pub returns-then-eq-clause-moments : goal.returns-then-eq-clause-moments
returns-then-eq-clause-moments g c = λ told stood.
    nothing-written (g.W.World.history c.args.world.now) c.args.self.now.log (committed_of c.args.self.now)
    (database_in c.args.self.now) stood

pub returns-then-eq-clause-committed : goal.returns-then-eq-clause-committed
returns-then-eq-clause-committed g c =
    let spelt =
    kept-some (λ bytes. bytes.items) c.args.self.now.stored.items c.args.self.now.database c.args.self.now.changed
    c.in-Some.changed c.args.self.now.kept (sym c.take.ensures.value ∙ c.in-Some.is)
    in
    let same : c.in-Some.changed.items ≡ c.args.self.now.stored.items = search rules in
    committed-kept c.args.self.now.stored.items c.args.self.now.database c.args.self.now.sound (rw (← same) spelt)

pub invariant_of-self-in-Ok : goal.invariant_of-self-in-Ok
invariant_of-self-in-Ok g c =
    let spelt =
    kept-some (λ bytes. bytes.items) c.args.self.now.stored.items c.args.self.now.database c.args.self.now.changed
    c.in-Some.changed c.args.self.now.kept (sym c.take.ensures.value ∙ c.in-Some.is)
    in
    record {
      sound = c.args.self.now.sound;
      kept = settled-kept (λ bytes. bytes.items) c.in-Some.changed.items c.args.self.now.database c.take.new.self
          c.args.self.now.sound spelt c.take.ensures.after;
    }

pub returns-in-Ok-clause-moments : goal.returns-in-Ok-clause-moments
returns-in-Ok-clause-moments g c = λ told stood.
    let spelt =
    kept-some (λ bytes. bytes.items) c.args.self.now.stored.items c.args.self.now.database c.args.self.now.changed
    c.in-Some.changed c.args.self.now.kept (sym c.take.ensures.value ∙ c.in-Some.is)
    in
    record-written (g.W.World.history c.args.world.now) (g.W.World.history c.commit.new.world) stood.0
    c.in-Some.changed.items (committed_of c.args.self.now) (database_in c.args.self.now) stood.2
    (spelt-read c.args.self.now.database c.in-Some.changed.items c.args.self.now.sound spelt)
    (rw (← c.as_slice-3.ensures.value) (c.commit.ensures.moments told stood.0 stood.1))

pub returns-in-Ok-clause-open : goal.returns-in-Ok-clause-open
returns-in-Ok-clause-open g c = λ told stood.
    let spelt =
    kept-some (λ bytes. bytes.items) c.args.self.now.stored.items c.args.self.now.database c.args.self.now.changed
    c.in-Some.changed c.args.self.now.kept (sym c.take.ensures.value ∙ c.in-Some.is)
    in
    let read = spelt-read c.args.self.now.database c.in-Some.changed.items c.args.self.now.sound spelt in (
      stood.0 ++ c.in-Some.changed.items ∷ [],
      rw (← c.as_slice-3.ensures.value) (c.in-Ok.ensures.committed told stood.0 stood.1),
      newest-more [] stood.0 (committed_of c.args.self.now) c.in-Some.changed.items c.args.self.now.database stood.2 read
          ∙ ap (λ database. Some database)
          (sym (committed-kept c.in-Some.changed.items c.args.self.now.database c.args.self.now.sound spelt)),
    )

pub returns-in-Ok-clause-committed : goal.returns-in-Ok-clause-committed
returns-in-Ok-clause-committed g c =
    committed-kept c.in-Some.changed.items c.args.self.now.database c.args.self.now.sound
    (kept-some (λ bytes. bytes.items) c.args.self.now.stored.items c.args.self.now.database c.args.self.now.changed
    c.in-Some.changed c.args.self.now.kept (sym c.take.ensures.value ∙ c.in-Some.is))

pub returns-in-Ok-clause-idle : goal.returns-in-Ok-clause-idle
returns-in-Ok-clause-idle g c = λ same.
    let spelt =
    kept-some (λ bytes. bytes.items) c.args.self.now.stored.items c.args.self.now.database c.args.self.now.changed
    c.in-Some.changed c.args.self.now.kept (sym c.take.ensures.value ∙ c.in-Some.is)
    in
    let one : c.in-Some.changed.items ≡ c.args.self.now.stored.items =
    same-spelling c.args.self.now.database c.args.self.now.stored.items c.in-Some.changed.items
    c.args.self.now.kept.stored_is spelt same
    in
    absurd (search rules)

pub returns-in-Err-clause-moments : goal.returns-in-Err-clause-moments
returns-in-Err-clause-moments g c = λ told stood.
    let spelt =
    kept-some (λ bytes. bytes.items) c.args.self.now.stored.items c.args.self.now.database c.args.self.now.changed
    c.in-Some.changed c.args.self.now.kept (sym c.take.ensures.value ∙ c.in-Some.is)
    in
    record-written (g.W.World.history c.args.world.now) (g.W.World.history c.commit.new.world) stood.0
    c.in-Some.changed.items (committed_of c.args.self.now) (database_in c.args.self.now) stood.2
    (spelt-read c.args.self.now.database c.in-Some.changed.items c.args.self.now.sound spelt)
    (rw (← c.as_slice-3.ensures.value) (c.commit.ensures.moments told stood.0 stood.1))

pub returns-in-Err-clause-idle : goal.returns-in-Err-clause-idle
returns-in-Err-clause-idle g c = λ same.
    let spelt =
    kept-some (λ bytes. bytes.items) c.args.self.now.stored.items c.args.self.now.database c.args.self.now.changed
    c.in-Some.changed c.args.self.now.kept (sym c.take.ensures.value ∙ c.in-Some.is)
    in
    let one : c.in-Some.changed.items ≡ c.args.self.now.stored.items =
    same-spelling c.args.self.now.database c.args.self.now.stored.items c.in-Some.changed.items
    c.args.self.now.kept.stored_is spelt same
    in
    absurd (search rules)

-- ---- where the database is another than the committed one

pub returns-in_default-clause-bytes : goal.returns-in_default-clause-bytes
returns-in_default-clause-bytes g c = λ told stood other.
    let same =
    committed-kept c.args.self.now.stored.items c.args.self.now.database c.args.self.now.sound
    (kept-none (λ bytes. bytes.items) c.args.self.now.stored.items c.args.self.now.database c.args.self.now.changed
    c.args.self.now.kept (sym c.take.ensures.value ∙ c.in_default.is))
    in
    absurd (other (sym same))

pub returns-in_default-clause-length : goal.returns-in_default-clause-length
returns-in_default-clause-length g c = λ other.
    let same =
    committed-kept c.args.self.now.stored.items c.args.self.now.database c.args.self.now.sound
    (kept-none (λ bytes. bytes.items) c.args.self.now.stored.items c.args.self.now.database c.args.self.now.changed
    c.args.self.now.kept (sym c.take.ensures.value ∙ c.in_default.is))
    in
    absurd (other (sym same))

pub returns-then-eq-clause-bytes : goal.returns-then-eq-clause-bytes
returns-then-eq-clause-bytes g c = λ told stood other.
    let spelt =
    kept-some (λ bytes. bytes.items) c.args.self.now.stored.items c.args.self.now.database c.args.self.now.changed
    c.in-Some.changed c.args.self.now.kept (sym c.take.ensures.value ∙ c.in-Some.is)
    in
    let one : c.in-Some.changed.items ≡ c.args.self.now.stored.items = search rules in
    absurd (other (sym (committed-kept c.args.self.now.stored.items c.args.self.now.database c.args.self.now.sound (rw (← one) spelt))))

pub returns-then-eq-clause-length : goal.returns-then-eq-clause-length
returns-then-eq-clause-length g c = λ other.
    let spelt =
    kept-some (λ bytes. bytes.items) c.args.self.now.stored.items c.args.self.now.database c.args.self.now.changed
    c.in-Some.changed c.args.self.now.kept (sym c.take.ensures.value ∙ c.in-Some.is)
    in
    let one : c.in-Some.changed.items ≡ c.args.self.now.stored.items = search rules in
    absurd (other (sym (committed-kept c.args.self.now.stored.items c.args.self.now.database c.args.self.now.sound (rw (← one) spelt))))

pub returns-in-Ok-clause-bytes : goal.returns-in-Ok-clause-bytes
returns-in-Ok-clause-bytes g c = λ told stood other.
    let spelt =
    kept-some (λ bytes. bytes.items) c.args.self.now.stored.items c.args.self.now.database c.args.self.now.changed
    c.in-Some.changed c.args.self.now.kept (sym c.take.ensures.value ∙ c.in-Some.is)
    in
    written-bytes c.args.self.now.database c.in-Some.changed.items c.as_slice-3.result.now c.args.self.now.log.gate _ _
    c.as_slice-3.ensures.value spelt (c.in-Ok.ensures.bytes told stood.0 stood.1)

pub returns-in-Ok-clause-length : goal.returns-in-Ok-clause-length
returns-in-Ok-clause-length g c = λ other.
    let spelt =
    kept-some (λ bytes. bytes.items) c.args.self.now.stored.items c.args.self.now.database c.args.self.now.changed
    c.in-Some.changed c.args.self.now.kept (sym c.take.ensures.value ∙ c.in-Some.is)
    in
    written-length c.args.self.now.database c.in-Some.changed.items c.as_slice-3.result.now _ _ c.as_slice-3.ensures.value
    spelt c.in-Ok.ensures.length

pub returns-in-Ok-clause-idle_length : goal.returns-in-Ok-clause-idle_length
returns-in-Ok-clause-idle_length g c = λ same.
    let spelt =
    kept-some (λ bytes. bytes.items) c.args.self.now.stored.items c.args.self.now.database c.args.self.now.changed
    c.in-Some.changed c.args.self.now.kept (sym c.take.ensures.value ∙ c.in-Some.is)
    in
    let one : c.in-Some.changed.items ≡ c.args.self.now.stored.items =
    same-spelling c.args.self.now.database c.args.self.now.stored.items c.in-Some.changed.items
    c.args.self.now.kept.stored_is spelt same
    in
    absurd (search rules)

-- ---- only the log is written

pub returns-in_default-clause-only_log : goal.returns-in_default-clause-only_log
returns-in_default-clause-only_log g c = λ told. only_start (g.W.World.history c.args.world.now)

pub returns-then-eq-clause-only_log : goal.returns-then-eq-clause-only_log
returns-then-eq-clause-only_log g c = λ told. only_start (g.W.World.history c.args.world.now)
