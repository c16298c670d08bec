use Rattle.std.proofs.Common.{◌≡◌, ◌++◌, ◌∷◌, [], ◌+◌, length, vec_len, rules, arith}
use Rattle.dbpl_world.proofs.Recorded.{total_bytes-append, events_in-append}
use Rattle.dbpl_world.proofs.call_record.CallRecord.keep.Goals as goal

pub invariant_of-self : goal.invariant_of-self
invariant_of-self c =
    let calls : c.push.new.self.items ≡ c.args.self.now.calls.items ++ c.args.made ∷ [] = search rules in
    let long : vec_len c.extend_from_slice.new.self ≡ vec_len c.args.self.now.bytes + length c.args.bytes.now = search rules in
    record { whole = rw calls (omega (arith, total_bytes-append c.args.self.now.calls.items c.args.made, c.args.self.now.whole)) }

pub returns-clause-events : goal.returns-clause-events
returns-clause-events c =
    let calls : c.push.new.self.items ≡ c.args.self.now.calls.items ++ c.args.made ∷ [] = search rules in
    let bytes : c.extend_from_slice.new.self.items ≡ c.args.self.now.bytes.items ++ c.args.bytes.now = search rules in
    rw (calls, bytes) (events_in-append c.args.self.now.calls.items c.args.made c.args.self.now.bytes.items c.args.bytes.now (search rules) c.requires.whole)
