use Rattle.std.proofs.Common.{◌≡◌, subst, sym, ◌∙◌, List, ℕ, Bool, Some, None}
use Rattle.place_words.specs.declared.visits.Flush.{Flush}
use Rattle.place_words.specs.declared.visits.Visit.{Visit}
use Rattle.place_words.specs.declared.list_part.GlobalPart.{GlobalPart}
use Rattle.place_words.specs.Globals.{AllowsOnGlobal}
use Rattle.replay_words.specs.declared.note.Note.TheVariants.{Nothing, Probes}
use Rattle.lru_lists.specs.Sets.{SetView}
use Rattle.set_replay.specs.Judged.{RotationJudged}
use Rattle.set_replay.specs.GlobalTurns.{Flushed, GlobalShrinkJudged, GlobalTurned, MovedOff}
use Rattle.set_replay.specs.Pushing.{set_of}
use Rattle.set_replay.proofs.GlobalLemmas.{global_turned, global_pushed, rotation_refused, moving_refused, shrink_refused}
use Rattle.set_replay.proofs.global.global_turn.Goals as goal

-- what was read of a rotation is what is told
turned_by : (active active_read inactive inactive_read : List Visit) (come turned : SetView) (lawful : Bool) → active_read ≡ active → inactive_read ≡ inactive
    → RotationJudged 128 active_read inactive_read come turned lawful → RotationJudged 128 active inactive come turned lawful
turned_by active active_read inactive inactive_read come turned lawful first second judged =
    subst (λ (xs : List Visit). RotationJudged 128 xs inactive come turned lawful) first (subst (λ (xs : List Visit). RotationJudged 128 active_read xs come turned lawful) second judged)

pub returns-then-not-branch : goal.returns-then-not-branch
returns-then-not-branch g c allowed =
    let t = c.in-Turn in
    rotation_refused t.flushed t.active t.inactive t.free t.shrink c.args.set.now c.flushes.new.set c.rotates.new.set c.in_ok-rotates-in-Turn.field-0
    (subst (λ (fs : List Flush). Flushed fs c.args.set.now c.flushes.new.set) c.as_slice.ensures c.if-not-flushes.ensures) c.if-not-branch.true
    (turned_by t.active c.as_slice-in-Turn.result.now t.inactive c.as_slice-in-Turn-2.result.now c.flushes.new.set c.rotates.new.set c.in_ok-rotates-in-Turn.field-0 c.as_slice-in-Turn.ensures c.as_slice-in-Turn-2.ensures c.in_ok-rotates-in-Turn.ensures)
    (subst (λ (part : GlobalPart). AllowsOnGlobal part (set_of c.args.set.now)) t.is allowed)

pub returns-then-not-moves_off : goal.returns-then-not-moves_off
returns-then-not-moves_off g c allowed =
    let t = c.in-Turn in
    moving_refused t.flushed t.active t.inactive t.free t.shrink c.args.set.now c.flushes.new.set c.rotates.new.set c.in_ok-rotates-in-Turn.field-0
    (subst (λ (fs : List Flush). Flushed fs c.args.set.now c.flushes.new.set) c.as_slice.ensures c.if-not-flushes.ensures) c.if-not-branch.false
    (turned_by t.active c.as_slice-in-Turn.result.now t.inactive c.as_slice-in-Turn-2.result.now c.flushes.new.set c.rotates.new.set c.in_ok-rotates-in-Turn.field-0 c.as_slice-in-Turn.ensures c.as_slice-in-Turn-2.ensures c.in_ok-rotates-in-Turn.ensures)
    (λ taken. c.if-not-moves_off.ensures (c.as_slice-in-Turn-3.ensures ∙ taken))
    (subst (λ (part : GlobalPart). AllowsOnGlobal part (set_of c.args.set.now)) t.is allowed)

pub returns-in_default : goal.returns-in_default
returns-in_default g c allowed =
    let t = c.in-Turn in
    shrink_refused t.flushed t.active t.inactive t.free t.shrink c.args.set.now c.flushes.new.set c.rotates.new.set c.moves_off.new.set c.moves_off.new.marks.items c.in_ok-rotates-in-Turn.field-0
    (subst (λ (fs : List Flush). Flushed fs c.args.set.now c.flushes.new.set) c.as_slice.ensures c.if-not-flushes.ensures) c.if-not-branch.false
    (turned_by t.active c.as_slice-in-Turn.result.now t.inactive c.as_slice-in-Turn-2.result.now c.flushes.new.set c.rotates.new.set c.in_ok-rotates-in-Turn.field-0 c.as_slice-in-Turn.ensures c.as_slice-in-Turn-2.ensures c.in_ok-rotates-in-Turn.ensures)
    (subst (λ (es : List ℕ). MovedOff es c.rotates.new.set c.moves_off.new.set c.moves_off.new.marks.items) c.as_slice-in-Turn-3.ensures c.if-not-moves_off.ensures)
    (subst (λ (n : ℕ). GlobalShrinkJudged n t.shrink c.moves_off.new.set c.global_shrinks.new.set None) c.len.ensures
    (subst (GlobalShrinkJudged c.len.result t.shrink c.moves_off.new.set c.global_shrinks.new.set) c.in_default.is c.in_ok-hashes-in-Turn.ensures))
    (subst (λ (part : GlobalPart). AllowsOnGlobal part (set_of c.args.set.now)) t.is allowed)

pub returns-in-Some : goal.returns-in-Some
returns-in-Some g c =
    let t = c.in-Turn in
    subst (λ (part : GlobalPart). GlobalTurned part c.args.set.now c.global_shrinks.new.set c.moves_off.new.marks.items (Probes c.in-Some.hashes)) (sym t.is)
    (global_turned t.flushed t.active t.inactive t.free t.shrink c.args.set.now c.flushes.new.set c.rotates.new.set c.moves_off.new.set c.global_shrinks.new.set c.moves_off.new.marks.items c.in-Some.hashes c.in_ok-rotates-in-Turn.field-0
    (subst (λ (fs : List Flush). Flushed fs c.args.set.now c.flushes.new.set) c.as_slice.ensures c.if-not-flushes.ensures) c.if-not-branch.false
    (turned_by t.active c.as_slice-in-Turn.result.now t.inactive c.as_slice-in-Turn-2.result.now c.flushes.new.set c.rotates.new.set c.in_ok-rotates-in-Turn.field-0 c.as_slice-in-Turn.ensures c.as_slice-in-Turn-2.ensures c.in_ok-rotates-in-Turn.ensures)
    (subst (λ (es : List ℕ). MovedOff es c.rotates.new.set c.moves_off.new.set c.moves_off.new.marks.items) c.as_slice-in-Turn-3.ensures c.if-not-moves_off.ensures)
    (subst (λ (n : ℕ). GlobalShrinkJudged n t.shrink c.moves_off.new.set c.global_shrinks.new.set (Some c.in-Some.hashes)) c.len.ensures
    (subst (GlobalShrinkJudged c.len.result t.shrink c.moves_off.new.set c.global_shrinks.new.set) c.in-Some.is c.in_ok-hashes-in-Turn.ensures)))

pub returns-then-branch : goal.returns-then-branch
returns-then-branch g c =
    subst (λ (part : GlobalPart). GlobalTurned part c.args.set.now c.global_push.new.set c.global_push.new.marks.items Nothing) (sym c.in-Push.is)
    (global_pushed c.in-Push.element c.args.set.now c.global_push.new.set c.global_push.new.marks.items c.in_ok-global_push-in-Push.field-0 c.if-branch.true c.in_ok-global_push-in-Push.ensures.pushed c.in_ok-global_push-in-Push.ensures.marks)
