use Rattle.std.proofs.Common.{◌≡◌, drop}
use Rattle.std.specs.Prelude.{reverse}
use Rattle.place_words.specs.declared.bucket_part.Walked.{Walked}
use Rattle.place_words.specs.Bodies.{numbers}
use Rattle.evicting_traces.specs.Calls.{read_frees_all}
use Rattle.evicting_traces.proofs.batch_reads.read_all_freed.Given as goal

abbrev pub invariant-loop-freed : goal.invariant-loop-freed
invariant-loop-freed l =
    (answer : Walked) → read_frees_all l.shape answer (reverse (numbers l.all)) l.seens ≡ read_frees_all l.shape answer (drop l.freed (reverse (numbers l.all))) l.left
