use Rattle.std.proofs.Common.{◌+◌, List, length, map, take, drop, min, sym, ap, ◌∙◌}
use Rattle.std.proofs.lemmas.List.{length-map}
use Rattle.place_words.specs.Walks.{buckets_from, pair_of}
use Rattle.evicting_traces.specs.Calls.{read_walks}
use Rattle.trace_check.specs.Pairs.{are_first}
use Rattle.evicting_traces.proofs.Answering.{nothing_seen, this_seen}
use Rattle.trace_check.proofs.WalkedPairs.{KeyValue, room_is, taken_to}
use Rattle.evicting_traces.proofs.WalkedSeens.{not_walked, walked_over, walked_on, walked_otherwise}
use Rattle.evicting_traces.proofs.batch_reads.read_walks.Goals as goal

pub returns-in_err-walked : goal.returns-in_err-walked
returns-in_err-walked c =
    rw c.from_residual.ensures
    (nothing_seen _
    (c.loop-bucket.invariant.1
    ∙ not_walked c.args.shape.now c.args.ask.remove (min c.args.ask.count c.args.shape.now.elements) c.loop-bucket.bucket c.room_left-room.result (take c.loop-bucket.count c.args.reply.now.taken.now) c.loop-bucket.rest
    c.loop-bucket-test.true (room_is c.args.reply.now.taken.now c.loop-bucket.count c.min-limit.result (min c.args.ask.count c.args.shape.now.elements) c.room_left-room.result c.loop-bucket.invariant.0 c.room_left-room.ensures c.min-limit.ensures) c.in_err-walked.ensures))

pub returns-in-Over : goal.returns-in-Over
returns-in-Over c =
    this_seen _ c.ends_at.result
    (c.loop-bucket.invariant.1
    ∙ walked_over c.args.shape.now c.args.ask.remove (min c.args.ask.count c.args.shape.now.elements) c.loop-bucket.bucket c.room_left-room.result c.in-Over.field-0
    (take c.loop-bucket.count c.args.reply.now.taken.now) c.loop-bucket.rest c.in_ok-walked.behind c.in_ok-walked.walked.now c.loop-bucket-test.true
    (room_is c.args.reply.now.taken.now c.loop-bucket.count c.min-limit.result (min c.args.ask.count c.args.shape.now.elements) c.room_left-room.result c.loop-bucket.invariant.0 c.room_left-room.ensures c.min-limit.ensures)
    c.in_ok-walked.ensures c.in-Over.is)
    (rw (sym c.stopped_behind-stop.ensures) c.ends_at.ensures) c.rest_if.ensures

pub returns-in_err-count-in-Taken : goal.returns-in_err-count-in-Taken
returns-in_err-count-in-Taken c =
    rw c.from_residual-in_err-count-in-Taken.ensures
    (λ rest is.
    walked_otherwise c.args.shape.now c.args.ask.remove (min c.args.ask.count c.args.shape.now.elements) (c.loop-bucket.bucket + 1) c.args.reply.now.taken.now (map pair_of c.in-Taken.taken) c.loop-bucket.count
    c.args.reply.now.stop c.args.reply.now.next c.in_ok-walked.behind rest c.loop-bucket.invariant.0
    (ap (λ l. are_first (map pair_of l) (drop c.loop-bucket.count c.args.reply.now.taken.now)) (sym c.as_slice.ensures) ∙ c.in_err-count-in-Taken.ensures)
    (sym
    (c.loop-bucket.invariant.1
    ∙ walked_on c.args.shape.now c.args.ask.remove (min c.args.ask.count c.args.shape.now.elements) c.loop-bucket.bucket c.room_left-room.result c.in-Taken.taken
    (take c.loop-bucket.count c.args.reply.now.taken.now) c.loop-bucket.rest c.in_ok-walked.behind c.in_ok-walked.walked.now c.loop-bucket-test.true
    (room_is c.args.reply.now.taken.now c.loop-bucket.count c.min-limit.result (min c.args.ask.count c.args.shape.now.elements) c.room_left-room.result c.loop-bucket.invariant.0 c.room_left-room.ensures c.min-limit.ensures)
    c.in_ok-walked.ensures c.in-Taken.is)
    ∙ is))

pub loop-bucket-preserved : goal.loop-bucket-preserved
loop-bucket-preserved c =
    let on = taken_to c.args.reply.now.taken.now (map pair_of c.in-Taken.taken) c.loop-bucket.count (length c.as_slice.result.now) c.in_ok-count-in-Taken.count c.loop-bucket.invariant.0
    (ap (λ l. are_first (map pair_of l) (drop c.loop-bucket.count c.args.reply.now.taken.now)) (sym c.as_slice.ensures) ∙ c.in_ok-count-in-Taken.ensures.0)
    (ap (λ l. length l) c.as_slice.ensures ∙ sym (length-map c.in-Taken.taken pair_of)) c.in_ok-count-in-Taken.ensures.1 in (
      on.0,
      c.loop-bucket.invariant.1
          ∙ walked_on c.args.shape.now c.args.ask.remove (min c.args.ask.count c.args.shape.now.elements) c.loop-bucket.bucket c.room_left-room.result c.in-Taken.taken
          (take c.loop-bucket.count c.args.reply.now.taken.now) c.loop-bucket.rest c.in_ok-walked.behind c.in_ok-walked.walked.now c.loop-bucket-test.true
          (room_is c.args.reply.now.taken.now c.loop-bucket.count c.min-limit.result (min c.args.ask.count c.args.shape.now.elements) c.room_left-room.result c.loop-bucket.invariant.0 c.room_left-room.ensures c.min-limit.ensures)
          c.in_ok-walked.ensures c.in-Taken.is
          ∙ ap (λ (l : List KeyValue). read_walks c.args.shape.now c.args.ask.remove (min c.args.ask.count c.args.shape.now.elements) (buckets_from c.args.shape.now (c.loop-bucket.bucket + 1)) l c.in_ok-walked.behind) on.1,
    )
