use Rattle.std.proofs.Common.{◌≡◌, ℕ, ◌+◌, List, [], ◌∷◌, drop, None, Some, ap, sym, ◌∙◌, arith}
use Rattle.map_types.specs.declared.call.Verb.TheVariants as verbs
use Rattle.map_types.specs.declared.reply.Reply.TheVariants.{Count}
use Rattle.place_words.specs.Walks.{updates_of}
use Rattle.map_types.specs.declared.kind.Side.TheVariants.{Sys}
use Rattle.map_types.specs.Pairs.{pair_at}
use Rattle.evicting_traces.proofs.Ways.{at_none}
use Rattle.evicting_traces.proofs.Entries.{entries_at, entries_end, entry_unread, entry_refused, entry_done, all_done}
use Rattle.evicting_traces.proofs.batch_writes.read_updates.Goals as goal

pub returns-in_err-refusal : goal.returns-in_err-refusal
returns-in_err-refusal c =
    at_none _ _ c.from_residual.result c.from_residual.ensures
    (c.loop-done.invariant ∙ entry_unread c.args.shape.now c.args.cpu c.loop-done.done c.loop-done.rest (entries_at (λ (pair : List ℕ × List ℕ). verbs.Update Sys 0 pair.0 pair.1) c.args.pairs.now c.loop-done.done ([], []) (omega (arith, c.loop-done-test.true, c.len-done-end.ensures))
    ∙ ap (λ (key : List ℕ). verbs.Update Sys 0 key (pair_at c.args.pairs.now c.loop-done.done).1 ∷ updates_of (drop (c.loop-done.done + 1) c.args.pairs.now)) (sym c.key.ensures)
    ∙ ap (λ (value : List ℕ). verbs.Update Sys 0 c.key.result.now value ∷ updates_of (drop (c.loop-done.done + 1) c.args.pairs.now)) (sym c.value.ensures)) c.in_err-refusal.ensures)

pub returns-in-Some : goal.returns-in-Some
returns-in-Some c =
    c.loop-done.invariant ∙ entry_refused c.args.shape.now c.args.cpu c.loop-done.done c.loop-done.rest (entries_at (λ (pair : List ℕ × List ℕ). verbs.Update Sys 0 pair.0 pair.1) c.args.pairs.now c.loop-done.done ([], []) (omega (arith, c.loop-done-test.true, c.len-done-end.ensures))
    ∙ ap (λ (key : List ℕ). verbs.Update Sys 0 key (pair_at c.args.pairs.now c.loop-done.done).1 ∷ updates_of (drop (c.loop-done.done + 1) c.args.pairs.now)) (sym c.key.ensures)
    ∙ ap (λ (value : List ℕ). verbs.Update Sys 0 c.key.result.now value ∷ updates_of (drop (c.loop-done.done + 1) c.args.pairs.now)) (sym c.value.ensures)) c.in_ok-refusal.refusal c.in-Some.errno c.in_ok-refusal.behind c.in_ok-refusal.ensures c.in-Some.is

pub loop-done-preserved : goal.loop-done-preserved
loop-done-preserved c =
    c.loop-done.invariant ∙ entry_done c.args.shape.now c.args.cpu c.loop-done.done c.loop-done.rest (entries_at (λ (pair : List ℕ × List ℕ). verbs.Update Sys 0 pair.0 pair.1) c.args.pairs.now c.loop-done.done ([], []) (omega (arith, c.loop-done-test.true, c.len-done-end.ensures))
    ∙ ap (λ (key : List ℕ). verbs.Update Sys 0 key (pair_at c.args.pairs.now c.loop-done.done).1 ∷ updates_of (drop (c.loop-done.done + 1) c.args.pairs.now)) (sym c.key.ensures)
    ∙ ap (λ (value : List ℕ). verbs.Update Sys 0 c.key.result.now value ∷ updates_of (drop (c.loop-done.done + 1) c.args.pairs.now)) (sym c.value.ensures)) c.in_ok-refusal.refusal c.in_ok-refusal.behind c.in_ok-refusal.ensures c.in_default.is

pub returns : goal.returns
returns c =
    let all : c.loop-done.done ≡ c.len.result = omega (arith, c.loop-done-test.false, c.loop-done.auto.done-end, c.len-done-end.ensures, c.len.ensures) in
    c.loop-done.invariant
    ∙ all_done c.args.shape.now c.args.cpu c.loop-done.done c.loop-done.rest
    (entries_end (λ (pair : List ℕ × List ℕ). verbs.Update Sys 0 pair.0 pair.1) c.args.pairs.now c.loop-done.done (omega (arith, c.loop-done-test.false, c.len-done-end.ensures)))
    ∙ ap (λ (n : ℕ). Some (Count None n, c.loop-done.rest)) all
