use Rattle.std.proofs.Common.{ℕ, ◌++◌, ◌∷◌, [], List, ◌∙◌, ap, sym, false, get_or}
use Rattle.place_table.proofs.Leaves.{filter_passes, filter_fails}
use Rattle.place_table.proofs.read_slots.cpus_left.Goals as goal
use Rattle.place_table.proofs.read_slots.cpus_left.Goals.{then-flags-cpu+in_ok-push, else-flags-cpu}

pub loop-cpu-preserved : goal.loop-cpu-preserved
loop-cpu-preserved c =
    elim c.if-flags-cpu.branch [
      | then-flags-cpu+in_ok-push w ↦
          ap (λ v. v.items) w.cpus-is ∙ w.in_ok-push.ensures.items ∙ ap (λ (l : List ℕ). l ++ c.loop-cpu.cpu ∷ []) c.loop-cpu.invariant
          ∙ sym (filter_passes (λ cpu. get_or c.args.flags.now cpu false) c.loop-cpu.cpu w.if-flags-cpu.true)
      | else-flags-cpu w ↦
          ap (λ v. v.items) w.cpus-is ∙ c.loop-cpu.invariant
          ∙ sym (filter_fails (λ cpu. get_or c.args.flags.now cpu false) c.loop-cpu.cpu w.if-flags-cpu.false)
    ]
