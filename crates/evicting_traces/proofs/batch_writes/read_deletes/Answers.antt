use Rattle.std.proofs.Common.{◌≡◌, ℕ, ◌+◌, List, [], ◌∷◌, drop, length, None, Some, ap, sym, ◌∙◌, arith}
use Rattle.map_types.specs.declared.call.Verb.TheVariants as verbs
use Rattle.map_types.specs.declared.reply.Reply.TheVariants.{Count}
use Rattle.place_words.specs.Walks.{deletes_of}
use Rattle.evicting_traces.proofs.Ways.{at_none}
use Rattle.evicting_traces.proofs.Entries.{entries_at, entries_end, entry_unread, entry_refused, entry_done, all_done}
use Rattle.evicting_traces.proofs.batch_writes.read_deletes.Goals as goal

pub returns-in_err-refusal : goal.returns-in_err-refusal
returns-in_err-refusal c =
    at_none _ _ c.from_residual.result c.from_residual.ensures
    (c.loop-done.invariant ∙ entry_unread c.args.shape.now c.args.cpu c.loop-done.done c.loop-done.rest (entries_at (λ (key : List ℕ). verbs.Delete key) c.args.keys.now c.loop-done.done [] c.loop-done-test.true
    ∙ ap (λ (key : List ℕ). verbs.Delete key ∷ deletes_of (drop (c.loop-done.done + 1) c.args.keys.now)) (sym c.key_at.ensures)) c.in_err-refusal.ensures)

pub returns-in-Some : goal.returns-in-Some
returns-in-Some c =
    c.loop-done.invariant ∙ entry_refused c.args.shape.now c.args.cpu c.loop-done.done c.loop-done.rest (entries_at (λ (key : List ℕ). verbs.Delete key) c.args.keys.now c.loop-done.done [] c.loop-done-test.true
    ∙ ap (λ (key : List ℕ). verbs.Delete key ∷ deletes_of (drop (c.loop-done.done + 1) c.args.keys.now)) (sym c.key_at.ensures)) c.in_ok-refusal.refusal c.in-Some.errno c.in_ok-refusal.behind c.in_ok-refusal.ensures c.in-Some.is

pub loop-done-preserved : goal.loop-done-preserved
loop-done-preserved c =
    c.loop-done.invariant ∙ entry_done c.args.shape.now c.args.cpu c.loop-done.done c.loop-done.rest (entries_at (λ (key : List ℕ). verbs.Delete key) c.args.keys.now c.loop-done.done [] c.loop-done-test.true
    ∙ ap (λ (key : List ℕ). verbs.Delete key ∷ deletes_of (drop (c.loop-done.done + 1) c.args.keys.now)) (sym c.key_at.ensures)) c.in_ok-refusal.refusal c.in_ok-refusal.behind c.in_ok-refusal.ensures c.in_default.is

pub returns : goal.returns
returns c =
    let all : c.loop-done.done ≡ length c.args.keys.now = omega (arith, c.loop-done-test.false, c.loop-done.auto.done-end) in
    c.loop-done.invariant
    ∙ all_done c.args.shape.now c.args.cpu c.loop-done.done c.loop-done.rest (entries_end (λ (key : List ℕ). verbs.Delete key) c.args.keys.now c.loop-done.done c.loop-done-test.false)
    ∙ ap (λ (n : ℕ). Some (Count None n, c.loop-done.rest)) all
