use Rattle.std.proofs.Common.{◌≡◌, ℕ, suc, ◌+◌, Bool, List, ◌++◌, length, map, take, None, Some, refl, sym, ap, ◌∙◌, arith}
use Rattle.std.proofs.lemmas.List.{length-map}
use Rattle.map_types.specs.declared.reply.Reply.TheVariants.{Batch}
use Rattle.place_words.specs.Handing.{handed, up_to_stop}
use Rattle.place_words.specs.Walks.{buckets_from}
use Rattle.trace_check.specs.Calls.{read_handing, stops_in}
use Rattle.evicting_traces.specs.Reading.{turns_in}
use Rattle.evicting_traces.proofs.Answering.{nothing_turned, this_turned}
use Rattle.trace_check.proofs.WalkedPairs.{KeyValue, room_is, taken_to}
use Rattle.trace_check.proofs.HandedPairs.{StopsOrGoes, not_handed, handed_none, handed_some, handed_otherwise}
use Rattle.evicting_traces.proofs.element_walks.read_handing.Goals as goal

pub returns-in_err-walked : goal.returns-in_err-walked
returns-in_err-walked c =
    rw c.from_residual.ensures
    (nothing_turned _
    (c.loop-bucket.invariant.1
    ∙ not_handed c.args.shape.now c.args.cpu c.args.stop.now c.loop-bucket.bucket c.room_left-room.result (take c.loop-bucket.count c.args.reply.now.taken.now) (turns_in c.loop-bucket.rest) c.loop-bucket-test.true (room_is c.args.reply.now.taken.now c.loop-bucket.count c.args.shape.now.elements c.args.shape.now.elements c.room_left-room.result c.loop-bucket.invariant.0 c.room_left-room.ensures refl) c.in_err-walked.ensures))

pub returns-in-Over : goal.returns-in-Over
returns-in-Over c =
    this_turned _ c.in_ok-walked.behind c.ends_at.result
    (c.loop-bucket.invariant.1
    ∙ handed_none c.args.shape.now c.args.cpu c.args.stop.now c.loop-bucket.bucket c.room_left-room.result c.in-Over.field-0
    (take c.loop-bucket.count c.args.reply.now.taken.now) (turns_in c.loop-bucket.rest) (turns_in c.in_ok-walked.behind) c.in_ok-walked.walked.now c.loop-bucket-test.true
    (room_is c.args.reply.now.taken.now c.loop-bucket.count c.args.shape.now.elements c.args.shape.now.elements c.room_left-room.result c.loop-bucket.invariant.0 c.room_left-room.ensures refl)
    c.in_ok-walked.ensures c.in-Over.is)
    c.ends_at.ensures c.rest_if.ensures

pub returns-in_err-count-in-Taken : goal.returns-in_err-count-in-Taken
returns-in_err-count-in-Taken c =
    rw c.from_residual-in_err-count-in-Taken.ensures
    (λ rest is.
    handed_otherwise c.args.shape.now c.args.cpu c.args.stop.now c.loop-bucket.bucket c.args.reply.now.taken.now (map (handed c.args.shape.now c.args.cpu) c.handed_over-stopped.result.0.now) c.loop-bucket.count
    c.args.reply.now.stop c.args.reply.now.next (turns_in c.in_ok-walked.behind) rest c.handed_over-stopped.result.1 c.loop-bucket.invariant.0
    c.in_err-count-in-Taken.ensures
    (sym
    (c.loop-bucket.invariant.1
    ∙ handed_some c.args.shape.now c.args.cpu c.args.stop.now c.loop-bucket.bucket c.room_left-room.result c.in-Taken.taken (take c.loop-bucket.count c.args.reply.now.taken.now) (map (handed c.args.shape.now c.args.cpu) c.handed_over-stopped.result.0.now)
    c.handed_over-stopped.result.1 (turns_in c.loop-bucket.rest) (turns_in c.in_ok-walked.behind) c.in_ok-walked.walked.now c.loop-bucket-test.true
    (room_is c.args.reply.now.taken.now c.loop-bucket.count c.args.shape.now.elements c.args.shape.now.elements c.room_left-room.result c.loop-bucket.invariant.0 c.room_left-room.ensures refl)
    c.in_ok-walked.ensures c.in-Taken.is
    (c.handed_over-stopped.ensures.over c.args.shape.now c.args.cpu ∙ ap (λ l. up_to_stop c.args.stop.now (map (handed c.args.shape.now c.args.cpu) l)) c.as_slice.ensures)
    (c.handed_over-stopped.ensures.stopped c.args.shape.now c.args.cpu ∙ ap (λ l. stops_in c.args.stop.now (map (handed c.args.shape.now c.args.cpu) l)) c.as_slice.ensures))
    ∙ is))

pub ends_at-requires-then-stopped : goal.ends_at-requires-then-stopped
ends_at-requires-then-stopped c =
    let on = taken_to c.args.reply.now.taken.now (map (handed c.args.shape.now c.args.cpu) c.handed_over-stopped.result.0.now) c.loop-bucket.count (length c.handed_over-stopped.result.0.now) c.in_ok-count-in-Taken.count c.loop-bucket.invariant.0 c.in_ok-count-in-Taken.ensures.0
    (sym (length-map c.handed_over-stopped.result.0.now (handed c.args.shape.now c.args.cpu))) c.in_ok-count-in-Taken.ensures.1 in
    on.0

pub returns-then-stopped : goal.returns-then-stopped
returns-then-stopped c =
    let on = taken_to c.args.reply.now.taken.now (map (handed c.args.shape.now c.args.cpu) c.handed_over-stopped.result.0.now) c.loop-bucket.count (length c.handed_over-stopped.result.0.now) c.in_ok-count-in-Taken.count c.loop-bucket.invariant.0 c.in_ok-count-in-Taken.ensures.0
    (sym (length-map c.handed_over-stopped.result.0.now (handed c.args.shape.now c.args.cpu))) c.in_ok-count-in-Taken.ensures.1 in
    let one : suc c.loop-bucket.bucket ≡ c.loop-bucket.bucket + 1 = omega arith in
    this_turned _ c.in_ok-walked.behind c.ends_at-then-stopped.result
    (c.loop-bucket.invariant.1
    ∙ handed_some c.args.shape.now c.args.cpu c.args.stop.now c.loop-bucket.bucket c.room_left-room.result c.in-Taken.taken (take c.loop-bucket.count c.args.reply.now.taken.now) (map (handed c.args.shape.now c.args.cpu) c.handed_over-stopped.result.0.now)
    c.handed_over-stopped.result.1 (turns_in c.loop-bucket.rest) (turns_in c.in_ok-walked.behind) c.in_ok-walked.walked.now c.loop-bucket-test.true
    (room_is c.args.reply.now.taken.now c.loop-bucket.count c.args.shape.now.elements c.args.shape.now.elements c.room_left-room.result c.loop-bucket.invariant.0 c.room_left-room.ensures refl)
    c.in_ok-walked.ensures c.in-Taken.is
    (c.handed_over-stopped.ensures.over c.args.shape.now c.args.cpu ∙ ap (λ l. up_to_stop c.args.stop.now (map (handed c.args.shape.now c.args.cpu) l)) c.as_slice.ensures)
    (c.handed_over-stopped.ensures.stopped c.args.shape.now c.args.cpu ∙ ap (λ l. stops_in c.args.stop.now (map (handed c.args.shape.now c.args.cpu) l)) c.as_slice.ensures)
    ∙ ap (λ (b : Bool). StopsOrGoes c.args.shape.now c.args.cpu c.args.stop.now c.loop-bucket.bucket (take c.loop-bucket.count c.args.reply.now.taken.now ++ map (handed c.args.shape.now c.args.cpu) c.handed_over-stopped.result.0.now) (turns_in c.in_ok-walked.behind) b) c.if-stopped.true
    ∙ ap (λ (l : List KeyValue). Some (Batch None l (suc c.loop-bucket.bucket), (turns_in c.in_ok-walked.behind))) on.1
    ∙ ap (λ (n : ℕ). Some (Batch None (take c.in_ok-count-in-Taken.count c.args.reply.now.taken.now) n, (turns_in c.in_ok-walked.behind))) one)
    c.ends_at-then-stopped.ensures c.rest_if-then-stopped.ensures

pub loop-bucket-preserved : goal.loop-bucket-preserved
loop-bucket-preserved c =
    let on = taken_to c.args.reply.now.taken.now (map (handed c.args.shape.now c.args.cpu) c.handed_over-stopped.result.0.now) c.loop-bucket.count (length c.handed_over-stopped.result.0.now) c.in_ok-count-in-Taken.count c.loop-bucket.invariant.0 c.in_ok-count-in-Taken.ensures.0
    (sym (length-map c.handed_over-stopped.result.0.now (handed c.args.shape.now c.args.cpu))) c.in_ok-count-in-Taken.ensures.1 in (
      on.0,
      c.loop-bucket.invariant.1
          ∙ handed_some c.args.shape.now c.args.cpu c.args.stop.now c.loop-bucket.bucket c.room_left-room.result c.in-Taken.taken (take c.loop-bucket.count c.args.reply.now.taken.now) (map (handed c.args.shape.now c.args.cpu) c.handed_over-stopped.result.0.now)
          c.handed_over-stopped.result.1 (turns_in c.loop-bucket.rest) (turns_in c.in_ok-walked.behind) c.in_ok-walked.walked.now c.loop-bucket-test.true
          (room_is c.args.reply.now.taken.now c.loop-bucket.count c.args.shape.now.elements c.args.shape.now.elements c.room_left-room.result c.loop-bucket.invariant.0 c.room_left-room.ensures refl)
          c.in_ok-walked.ensures c.in-Taken.is
          (c.handed_over-stopped.ensures.over c.args.shape.now c.args.cpu ∙ ap (λ l. up_to_stop c.args.stop.now (map (handed c.args.shape.now c.args.cpu) l)) c.as_slice.ensures)
          (c.handed_over-stopped.ensures.stopped c.args.shape.now c.args.cpu ∙ ap (λ l. stops_in c.args.stop.now (map (handed c.args.shape.now c.args.cpu) l)) c.as_slice.ensures)
          ∙ ap (λ (b : Bool). StopsOrGoes c.args.shape.now c.args.cpu c.args.stop.now c.loop-bucket.bucket (take c.loop-bucket.count c.args.reply.now.taken.now ++ map (handed c.args.shape.now c.args.cpu) c.handed_over-stopped.result.0.now) (turns_in c.in_ok-walked.behind) b) c.if-stopped.false
          ∙ ap (λ (l : List KeyValue). read_handing c.args.shape.now c.args.cpu c.args.stop.now (buckets_from c.args.shape.now (c.loop-bucket.bucket + 1)) l (turns_in c.in_ok-walked.behind)) on.1,
    )
