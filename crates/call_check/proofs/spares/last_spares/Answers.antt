use Rattle.std.proofs.Common.{◌≡◌, ◌+◌, ◌++◌, ◌∷◌, [], ℕ, List, Option, map, ap, sym, ◌∙◌, arith}
use Rattle.std.specs.List.{range_with_len}
use Rattle.std.proofs.lemmas.List.FromFn.{map-range_with_len_more}
use Rattle.call_check.specs.RightCalls.{spare_last}
use Rattle.call_check.proofs.LowMoments.{low_moments}
use Rattle.call_check.proofs.SparesAre.{left_last}
use Rattle.call_check.proofs.spares.last_spares.Goals as goal

pub loop-cpu-preserved : goal.loop-cpu-preserved
loop-cpu-preserved c =
    let last : ℕ → Option ℕ = spare_last c.args.script.now.cuts c.args.script.now.shape c.args.histories.now in
    let n : ℕ = c.loop-cpu.cpu in
    let here : c.left_at_end.result ≡ last n =
    left_last c.args.script.now.cuts c.args.script.now.shape c.args.histories.now c.in_ok-spares.spares.first.items c.in_ok-spares.spares.changes.items c.in_ok-spares.ensures (low_moments c.args.script.now c.requires.script c.args.histories.now c.requires.fit)
    n c.as_slice-in-loop-cpu.result.now c.changes_by-changes.result.now c.is_lru-evicts.result c.left_at_end.result c.loop-cpu-test.true c.as_slice-in-loop-cpu.ensures.value
    (c.changes_by-changes.ensures ∙ ap (λ (l : List (List _)). Rattle.std.proofs.Common.get_or l n []) c.as_slice.ensures.value)
    c.is_lru-evicts.ensures c.left_at_end.ensures in
    c.in_ok-push.ensures.items
    ∙ (ap (λ (l : List (Option ℕ)). l ++ c.left_at_end.result ∷ []) c.loop-cpu.invariant
    ∙ (ap (λ (x : Option ℕ). map last (range_with_len 0 n) ++ x ∷ []) here ∙ sym (map-range_with_len_more last 0 n n (omega arith))))
