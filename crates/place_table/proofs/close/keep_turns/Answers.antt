use Rattle.std.proofs.Common.{◌≡◌, ℕ, ◌+◌, ◌++◌, ◌∷◌, ◌∙◌, [], List, Option, None, true, false, length, get_or, sym, subst, arith}
use Rattle.std.proofs.lemmas.Iterator.Adapters.{YieldsList-from_vec}
use Rattle.std.proofs.lemmas.Iterator.Consumers.{YieldsList-turn, YieldsList-end}
use Rattle.std.proofs.lemmas.List.{get_or_default, length_push}
use Rattle.map_types.proofs.CreationLemmas.{bounds_of_shape}
use Rattle.place_words.specs.Locks.{lock_named}
use Rattle.place_words.specs.State.{is_bucket}
use Rattle.place_table.specs.declared.content.SlotTurns.{SlotTurns}
use Rattle.place_table.specs.Closing.{has_lock}
use Rattle.place_table.specs.Leaving.{AreKept, IsSlotHistory}
use Rattle.place_table.proofs.close.keep_turns.Goals as goal

pub overflow_add-number : goal.overflow_add-number
overflow_add-number c =
    let bounds = bounds_of_shape c.args.shape.now c.requires.shape in
    let made = c.into_iter-history-iterator.ensures.into_iter_gives in
    let turn = YieldsList-turn (YieldsList-from_vec {s = c.into_iter-history-iterator.result} c.args.turns.items made.0 (made.1 ∙ c.args.turns.ok.0)) c.loop-history.yielded c.loop-history.history-iterator c.loop-history.yielded_by c.next.result c.next.new.self c.in-Some.history c.in-Some.is c.next.ensures.steps in
    omega (arith, c.loop-history.invariant.2, turn.0, c.requires.within)

pub keep_numbered-requires-clause-room : goal.keep_numbered-requires-clause-room
keep_numbered-requires-clause-room c =
    let made = c.into_iter-history-iterator.ensures.into_iter_gives in
    let turn = YieldsList-turn (YieldsList-from_vec {s = c.into_iter-history-iterator.result} c.args.turns.items made.0 (made.1 ∙ c.args.turns.ok.0)) c.loop-history.yielded c.loop-history.history-iterator c.loop-history.yielded_by c.next.result c.next.new.self c.in-Some.history c.in-Some.is c.next.ensures.steps in
    omega (arith, c.loop-history.invariant.2, c.loop-history.invariant.3, c.loop-history.invariant.4, turn.0, c.requires.room)

pub loop-history-preserved : goal.loop-history-preserved
loop-history-preserved c =
    let so_far = c.loop-history.invariant in
    let shape = c.args.shape.now in
    let items : List (Option SlotTurns) = c.args.turns.items in
    let n : ℕ = length c.loop-history.yielded in
    let made = c.into_iter-history-iterator.ensures.into_iter_gives in
    let turn = YieldsList-turn (YieldsList-from_vec {s = c.into_iter-history-iterator.result} items made.0 (made.1 ∙ c.args.turns.ok.0)) c.loop-history.yielded c.loop-history.history-iterator c.loop-history.yielded_by c.next.result c.next.new.self c.in-Some.history c.in-Some.is c.next.ensures.steps in
    let here : c.loop-history.number ≡ c.args.first + n = so_far.2 in
    let it : get_or items n None ≡ c.in-Some.history = get_or_default items n None c.in-Some.history turn.0 ∙ sym turn.1 in
    let one_more : length (c.loop-history.yielded ++ c.in-Some.history ∷ []) ≡ n + 1 = length_push c.loop-history.yielded c.in-Some.history in (
      tt,
      tt,
      omega arith,
      c.keep_numbered.ensures.capacity ∙ so_far.3,
      omega (arith, c.keep_numbered.ensures.longer, so_far.4),
      λ log lost told before. c.keep_numbered.ensures.kept log lost
          (subst (λ (z : ℕ × Option SlotTurns). has_lock shape z.0 ≡ true → (is_bucket (lock_named shape z.0) ≡ false) × IsSlotHistory (lock_named shape z.0) (lost z.0) (log z.0) z.1) (λ i. (sym here i, it i)) (told n turn.0))
          (so_far.5 log lost told before),
    )

pub returns : goal.returns
returns c = λ log lost told before.
    let made = c.into_iter-history-iterator.ensures.into_iter_gives in
    let end = YieldsList-end (YieldsList-from_vec {s = c.into_iter-history-iterator.result} c.args.turns.items made.0 (made.1 ∙ c.args.turns.ok.0)) c.loop-history.yielded c.loop-history.history-iterator c.loop-history.yielded_by c.next.result c.next.new.self c.in-None.is c.next.ensures.steps in
    let all : c.loop-history.number ≡ c.args.first + length c.args.turns.items = omega (arith, c.loop-history.invariant.2, end.1) in
    subst (λ (k : ℕ). AreKept c.args.shape.now log lost k c.loop-history.histories.kept.items c.loop-history.histories.lost) all (c.loop-history.invariant.5 log lost told before)
