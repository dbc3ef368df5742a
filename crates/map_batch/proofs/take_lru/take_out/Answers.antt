use Rattle.std.proofs.Common.{◌∙◌, ap, refl, sym, subst, true}
use Rattle.map_types.specs.Stored.{Stored}
use Rattle.bucket_walks.specs.BatchReads.{PairsSoFar}
use Rattle.place_table.specs.BucketTurns.{Entered}
use Rattle.place_table.proofs.PartsMade.{made_part}
use Rattle.map_batch.specs.LruTakes.{TakesInto}
use Rattle.map_batch.proofs.LruOut.{emptying_begins, can_detach_head, has_space, emptying_more, fewer_left, fits_here, room_enough, may_give_over, left_over, may_give_empty, taken_out}
use Rattle.map_batch.proofs.take_lru.take_out.Goals as goal

pub give-requires-after_bounds : goal.give-requires-after_bounds
give-requires-after_bounds g c κs within =
    may_give_over c.enter_bucket-chain.ensures c.requires.evicts c.shape-shape.result.now c.cpu_of-cpu.result c.left-room.result c.shape-shape.ensures c.cpu_of-cpu.ensures.value c.args.taking.now.out c.read_whole.new.out c.left-room.ensures.value
    c.read_whole.result c.read_whole.ensures c.if-not-read_whole.true c.ok.result (made_part _ c.walk_part-part.result c.ok.ensures.value c.walk_part-part.ensures)

pub returns-then-not-read_whole-clause-takes : goal.returns-then-not-read_whole-clause-takes
returns-then-not-read_whole-clause-takes g c =
    left_over c.enter_bucket-chain.ensures c.requires.evicts c.shape-shape.result.now c.cpu_of-cpu.result c.left-room.result c.shape-shape.ensures c.cpu_of-cpu.ensures.value c.args.taking.now.out c.read_whole.new.out c.left-room.ensures.value
    c.read_whole.result c.read_whole.ensures c.if-not-read_whole.true c.give.new.pass c.args.taking.now.gone.bodies c.ok.result c.requires.empty (made_part _ c.walk_part-part.result c.ok.ensures.value c.walk_part-part.ensures) c.give.ensures

pub loop-body-init : goal.loop-body-init
loop-body-init g c = (emptying_begins c.enter_bucket-chain.ensures.inside c.requires.empty, refl)

pub detach-requires : goal.detach-requires
detach-requires g c = can_detach_head c.loop-body.invariant.0 c.in-Some.body c.in-Some.ensures.taken c.in-Some.ensures.bodies c.element.result (c.element.ensures ∙ ap (λ (b : Stored). b.element) c.body.ensures)

pub push-requires : goal.push-requires
push-requires g c =
    let fits = fits_here c.enter_bucket-chain.ensures c.requires.evicts c.shape-shape.result.now c.cpu_of-cpu.result c.left-room.result c.shape-shape.ensures c.cpu_of-cpu.ensures.value c.args.taking.now.out c.read_whole.new.out c.left-room.ensures.value
    c.read_whole.result c.read_whole.ensures c.if-not-read_whole.false in
    has_space c.loop-body.invariant.0 c.in-Some.body c.in-Some.ensures.taken c.in-Some.ensures.bodies c.left-room.result fits (room_enough _ c.left-room.ensures.value c.requires.room)

pub loop-body-preserved : goal.loop-body-preserved
loop-body-preserved g c =
    let fits = fits_here c.enter_bucket-chain.ensures c.requires.evicts c.shape-shape.result.now c.cpu_of-cpu.result c.left-room.result c.shape-shape.ensures c.cpu_of-cpu.ensures.value c.args.taking.now.out c.read_whole.new.out c.left-room.ensures.value
    c.read_whole.result c.read_whole.ensures c.if-not-read_whole.false in
    let some = has_space c.loop-body.invariant.0 c.in-Some.body c.in-Some.ensures.taken c.in-Some.ensures.bodies c.left-room.result fits (room_enough _ c.left-room.ensures.value c.requires.room) in
    (emptying_more c.loop-body.invariant.0 c.in-Some.body c.in-Some.ensures.taken c.in-Some.ensures.bodies c.element.result c.detach.new.pass c.push.new.self (c.element.ensures ∙ ap (λ (b : Stored). b.element) c.body.ensures) c.detach.ensures c.push.ensures some, c.loop-body.invariant.1)

pub loop-body-smaller : goal.loop-body-smaller
loop-body-smaller g c = fewer_left c.loop-body.invariant.0 c.in-Some.body c.in-Some.ensures.taken c.in-Some.ensures.bodies

pub give-requires-2-after_bounds : goal.give-requires-2-after_bounds
give-requires-2-after_bounds g c κs within =
    let inv = c.loop-body.invariant.0 in
    let entered : Entered c.args.table.now c.args.bucket c.args.pass.now c.enter_bucket-chain.new.pass c.enter_bucket-chain.result = record { no_lock = c.enter_bucket-chain.ensures.no_lock; took = c.enter_bucket-chain.ensures.took; inside = inv.inside } in
    may_give_empty entered c.requires.evicts c.shape-shape.result.now c.cpu_of-cpu.result c.left-room.result c.shape-shape.ensures c.cpu_of-cpu.ensures.value c.args.taking.now.out c.read_whole.new.out c.left-room.ensures.value
    c.read_whole.result c.read_whole.ensures c.if-not-read_whole.false c.take_out.new.self inv.taking c.in_default.ensures.taken c.in_default.ensures.bodies c.ok-2.result (made_part _ c.walk_part-part.result c.ok-2.ensures.value c.walk_part-part.ensures)

pub returns-clause-takes : goal.returns-clause-takes
returns-clause-takes g c =
    let inv = c.loop-body.invariant.0 in
    let entered : Entered c.args.table.now c.args.bucket c.args.pass.now c.enter_bucket-chain.new.pass c.enter_bucket-chain.result = record { no_lock = c.enter_bucket-chain.ensures.no_lock; took = c.enter_bucket-chain.ensures.took; inside = inv.inside } in
    subst (λ (out : PairsSoFar). TakesInto c.args.table.now c.args.bucket c.args.pass.now c.give-2.new.pass true c.args.taking.now.out out c.loop-body.taking.gone.bodies) (sym c.loop-body.invariant.1)
    (taken_out entered c.requires.evicts c.shape-shape.result.now c.cpu_of-cpu.result c.left-room.result c.shape-shape.ensures c.cpu_of-cpu.ensures.value c.args.taking.now.out c.read_whole.new.out c.left-room.ensures.value
    c.read_whole.result c.read_whole.ensures c.if-not-read_whole.false c.take_out.new.self inv.taking c.in_default.ensures.taken c.in_default.ensures.bodies c.give-2.new.pass c.ok-2.result (made_part _ c.walk_part-part.result c.ok-2.ensures.value c.walk_part-part.ensures) c.give-2.ensures)
