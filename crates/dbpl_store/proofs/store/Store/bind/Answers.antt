use Rattle.std.proofs.Common.{◌≡◌, None, Some, slice_get, refl, rules, ap}
use Rattle.std.proofs.lemmas.Option.{slice_get_read}
use Rattle.std.specs.Option.{option_and_then}
use Rattle.dbpl_value.specs.Binding.{bound_named}
use Rattle.dbpl_store.proofs.Changing.{added-sound, bound-added, bound-there, differs-there, named-none, taken-back}
use Rattle.dbpl_store.proofs.store.Store.bind.Goals as goal

pub returns-then-not-same_type-clause-bound : goal.returns-then-not-same_type-clause-bound
returns-then-not-same_type-clause-bound c =
    let got : slice_get c.args.self.now.database c.in-Some.at ≡ Some c.index-as_slice-at.result =
    slice_get_read c.args.self.now.database _ c.in-Some.at c.index-as_slice-at.result refl (search rules) (search rules)
    in (
      differs-there c.args.rel.now c.args.self.now.database c.in-Some.at c.index-as_slice-at.result c.same_type.result
          (search rules) got (λ e. c.same_type.ensures.equal.1 (rw (← c.index-as_slice-at.is) e)) (search rules),
      refl,
    )

pub returns-in-Some-clause-bound : goal.returns-in-Some-clause-bound
returns-in-Some-clause-bound c =
    let got : slice_get c.args.self.now.database c.in-Some.at ≡ Some c.index-as_slice-at.result =
    slice_get_read c.args.self.now.database _ c.in-Some.at c.index-as_slice-at.result refl (search rules) (search rules)
    in
    bound-there c.args.rel.now c.args.self.now.database c.in-Some.at c.index-as_slice-at.result
    (search rules) got (rw c.index-as_slice-at.is (c.same_type.ensures.equal.0 (search rules)))

pub invariant_of-self-in-Ok : goal.invariant_of-self-in-Ok
invariant_of-self-in-Ok c =
    let none : bound_named c.args.rel.now.name c.args.self.now.database ≡ None =
    named-none c.args.rel.now c.args.self.now.database c.place_of.result (search rules) (search rules)
    in
    record {
      sound = added-sound c.args.rel.now c.args.self.now.database c.add_empty.new.database c.requires.kept none
          c.args.self.now.sound c.in_ok-at.ensures.ok;
      kept = record {
        stored_spells = c.args.self.now.kept.stored_spells;
        stored_is = c.args.self.now.kept.stored_is;
        spells = rw (← c.as_slice-2.ensures) c.in-Ok.ensures;
      };
    }

pub invariant_of-self-in-Err : goal.invariant_of-self-in-Err
invariant_of-self-in-Err c =
    let back =
    taken-back c.args.rel.now c.args.self.now.database c.add_empty.new.database c.remove.new.self c.in_ok-at.at
    c.in_ok-at.ensures.within c.in_ok-at.ensures.inserted c.remove.ensures.rest
    in
    record {
      sound = rw back c.args.self.now.sound;
      kept = rw back c.args.self.now.kept;
    }

pub returns-in-Ok-clause-bound : goal.returns-in-Ok-clause-bound
returns-in-Ok-clause-bound c =
    let none : bound_named c.args.rel.now.name c.args.self.now.database ≡ None =
    named-none c.args.rel.now c.args.self.now.database c.place_of.result (search rules) (search rules)
    in
    bound-added c.args.rel.now c.args.self.now.database c.add_empty.new.database c.in_ok-at.at none
    c.in_ok-at.ensures.within c.in_ok-at.ensures.inserted c.in_ok-at.ensures.ok

pub returns-in-Err-clause-kept : goal.returns-in-Err-clause-kept
returns-in-Err-clause-kept c =
    taken-back c.args.rel.now c.args.self.now.database c.add_empty.new.database c.remove.new.self c.in_ok-at.at
    c.in_ok-at.ensures.within c.in_ok-at.ensures.inserted c.remove.ensures.rest

pub returns-in-Err-clause-bound_kept : goal.returns-in-Err-clause-bound_kept
returns-in-Err-clause-bound_kept c =
    ap (λ database. option_and_then (slice_get database) c.args.self.now.bound)
    (taken-back c.args.rel.now c.args.self.now.database c.add_empty.new.database c.remove.new.self c.in_ok-at.at
    c.in_ok-at.ensures.within c.in_ok-at.ensures.inserted c.remove.ensures.rest)
