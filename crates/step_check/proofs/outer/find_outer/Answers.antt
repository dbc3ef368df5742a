use Rattle.std.proofs.Common.{◌≡◌, ◌+◌, ◌-◌, ◌<◌, refl, sym, subst, length, get_or, arith}
use Rattle.std.proofs.lemmas.List.{length-map}
use Rattle.place_words.specs.Entries.{entry_read}
use Rattle.place_words.specs.Interleaving.{Drawn}
use Rattle.step_check.specs.Places.{no_turn, turn_at, turns_at}
use Rattle.step_check.proofs.OuterTurns.{call_within, found_end, found_more, found_told, its_call, turn_read}
use Rattle.step_check.proofs.outer.find_outer.Goals as goal

pub slice_copy_out-later : goal.slice_copy_out-later
slice_copy_out-later c =
    call_within c.args.histories.now c.args.places.now (length c.args.places.now - 1 - c.loop-handled.handled) (length c.args.next.now) c.loop-handled.next c.lock_at-lock.result (entry_read c.entry_at-entry.result) _ (omega (arith, c.loop-handled-test.true)) c.requires.calls c.loop-handled.invariant.room
    c.lock_at-lock.ensures c.entry_at-entry.ensures

pub bounds-next-entry : goal.bounds-next-entry
bounds-next-entry c =
    call_within c.args.histories.now c.args.places.now (length c.args.places.now - 1 - c.loop-handled.handled) (length c.args.next.now) c.loop-handled.next c.lock_at-lock.result (entry_read c.entry_at-entry.result) _ (omega (arith, c.loop-handled-test.true)) c.requires.calls c.loop-handled.invariant.room
    c.lock_at-lock.ensures c.entry_at-entry.ensures

pub loop-handled-preserved : goal.loop-handled-preserved
loop-handled-preserved c =
    let hs = c.args.histories.now in
    let ps = c.args.places.now in
    let turn : Drawn = record { lock = c.lock_at-lock.result; entry = entry_read c.entry_at-entry.result } in
    let less : length ps - 1 - c.loop-handled.handled < length ps = omega (arith, c.loop-handled-test.true) in
    let less_turns : length ps - 1 - c.loop-handled.handled < length (turns_at hs ps) = subst (λ n. length ps - 1 - c.loop-handled.handled < n) (sym (length-map ps (turn_at hs))) less in
    let at : turn ≡ get_or (turns_at hs ps) (length ps - 1 - c.loop-handled.handled) no_turn =
    turn_read hs ps (length ps - 1 - c.loop-handled.handled) c.lock_at-lock.result (entry_read c.entry_at-entry.result) _ less c.lock_at-lock.ensures c.entry_at-entry.ensures in
    let from_is : length ps - c.loop-handled.handled ≡ (length ps - 1 - c.loop-handled.handled) + 1 = omega (arith, c.loop-handled-test.true) in
    let now_is : length ps - 1 - c.loop-handled.handled ≡ length ps - (c.loop-handled.handled + 1) = omega arith in
    found_end (turns_at hs ps) (length ps - 1 - c.loop-handled.handled) (length ps - (c.loop-handled.handled + 1)) (length c.args.next.now) _ _ now_is
    (found_told (turns_at hs ps) (length ps - 1 - c.loop-handled.handled) (length c.args.next.now) c.loop-handled.outer c.loop-handled.next turn _ c.outer_turn.result c.with_turn.result c.outer_turn.ensures c.with_turn.ensures
    (found_more (turns_at hs ps) (length ps - 1 - c.loop-handled.handled) (length ps - c.loop-handled.handled) (length c.args.next.now) c.loop-handled.outer c.loop-handled.next turn _ _ c.requires.one_cpu less_turns at
    (its_call (turns_at hs ps) (length ps - 1 - c.loop-handled.handled) (length c.args.next.now) turn c.requires.calls less_turns at)
    from_is refl c.loop-handled.invariant))
