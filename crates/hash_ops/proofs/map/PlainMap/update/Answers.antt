use Rattle.std.proofs.Common.{refl}
use Rattle.hash_ops.specs.Calls.{update_call}
use Rattle.hash_ops.proofs.Ends.{updates_of, called_unknown}
use Rattle.hash_ops.proofs.map.PlainMap.update.Goals as goal

pub returns-then-flags-gt-BPF_EXIST-clause-updates : goal.returns-then-flags-gt-BPF_EXIST-clause-updates
returns-then-flags-gt-BPF_EXIST-clause-updates g c =
    (refl, called_unknown c.args.self.now c.args.pass.now (update_call c.args.side c.args.flags c.args.key.now c.args.value.now) c.requires.can c.if-flags-gt-BPF_EXIST.true)

pub returns-clause-updates : goal.returns-clause-updates
returns-clause-updates g c =
    updates_of c.args.self.now c.bucket_of_key-number.result c.args.pass.now c.enter-chain.new.pass c.update_in.new.pass c.enter-chain.result c.enter-chain.ensures c.requires.can (update_call c.args.side c.args.flags c.args.key.now c.args.value.now) c.bucket_of_key-number.ensures.value
    c.update_in.result c.update_in.ensures.ends
