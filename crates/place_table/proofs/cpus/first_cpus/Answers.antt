use Rattle.std.proofs.Common.{◌≡◌, ℕ, suc, ◌+◌, ap, ◌∙◌, arith}
use Rattle.place_table.specs.Views.{numbers_below}
use Rattle.place_table.specs.Passes.{flags_of}
use Rattle.place_table.proofs.Flags.{no_flags}
use Rattle.place_table.proofs.cpus.first_cpus.Goals as goal

pub loop-cpu-init : goal.loop-cpu-init
loop-cpu-init c = no_flags

pub loop-cpu-preserved : goal.loop-cpu-preserved
loop-cpu-preserved c =
    let next : suc c.loop-cpu.cpu ≡ c.loop-cpu.cpu + 1 = omega arith in
    c.add_cpu.ensures (numbers_below c.loop-cpu.cpu) c.loop-cpu.invariant ∙ ap (λ (n : ℕ). flags_of (numbers_below n)) next

pub returns : goal.returns
returns c =
    let all : c.loop-cpu.cpu ≡ c.args.count = omega (arith, c.loop-cpu.auto.cpu-end, c.loop-cpu-test.false) in
    c.loop-cpu.invariant ∙ ap (λ (n : ℕ). flags_of (numbers_below n)) all
