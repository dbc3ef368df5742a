use Rattle.std.proofs.Common.{ℕ, ◌<◌, All, sym, subst}
use Rattle.std.proofs.lemmas.List.Elements.{All-weaker}
use Rattle.map_types.specs.declared.call.Call.{Call}
use Rattle.map_batch.specs.Calls.{table_of}
use Rattle.serial_laws.specs.Served.{IsServedCall}
use Rattle.map_run.proofs.Joining.{raced}
use Rattle.map_run.proofs.race.join_all.Goals as goal

pub join_workers-requires-clause-ended : goal.join_workers-requires-clause-ended
join_workers-requires-clause-ended c = (c.requires.ended.0, c.args.calls.now, c.requires.ended.1, c.requires.ended.2)

pub in_file_order-requires-clause-cpus : goal.in_file_order-requires-clause-cpus
in_file_order-requires-clause-cpus c =
    let t = (table_of c.args.map.now) in
    let joined = c.in_ok-replies.ensures.joined c.requires.ended.0 c.args.calls.now c.requires.ended.1 c.requires.ended.2 in
    subst (λ (n : ℕ). All (λ (call : Call). call.cpu < n) c.args.calls.now) (sym joined.workers) (All-weaker (IsServedCall t.shape) (λ (call : Call). call.cpu < t.shape.cpus) (λ call is. is.cpu) c.args.calls.now c.requires.calls)

pub in_file_order-requires-clause-counted : goal.in_file_order-requires-clause-counted
in_file_order-requires-clause-counted c =
    let joined = c.in_ok-replies.ensures.joined c.requires.ended.0 c.args.calls.now c.requires.ended.1 c.requires.ended.2 in
    λ cpu below. (joined.each cpu (subst (λ (n : ℕ). cpu < n) joined.workers below)).1

pub returns : goal.returns
returns c =
    let t = (table_of c.args.map.now) in
    λ number start ended.
    let joined = c.in_ok-replies.ensures.joined number c.args.calls.now start ended in
    raced t number c.args.calls.now start c.join_workers.new.pass _ _ c.in_ok-replies-2.replies.items c.requires.shape joined c.in_ok-replies-2.ensures.count c.in_ok-replies-2.ensures.each
