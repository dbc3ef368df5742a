use Rattle.std.specs.Prelude.{◌≡◌, ℕ, map}
use Rattle.std.specs.List.{range_with_len}
use Rattle.map_types.specs.declared.kind.DomainId.TheVariants.{Local}
use Rattle.place_words.specs.Named.{entries_of}
use Rattle.call_check.specs.Moved.{were_gone}
use Rattle.call_check.proofs.gone.gone_by_cpu.Given as goal

abbrev pub invariant-loop-cpu : goal.invariant-loop-cpu
invariant-loop-cpu l = l.table.items ≡ map (λ (cpu : ℕ). were_gone (entries_of l.histories (Local cpu))) (range_with_len 0 l.cpu)
