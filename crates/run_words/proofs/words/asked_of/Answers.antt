use Rattle.std.proofs.Common.{map, string_bytes}
use Rattle.run_words.proofs.WordLemmasTaken.{other_read, other_so, taken_so}
use Rattle.run_words.proofs.words.asked_of.Goals as goal

pub returns-in-Ok-clause-taken : goal.returns-in-Ok-clause-taken
returns-in-Ok-clause-taken c =
    let taken = c.in-Ok.ensures.taken in
    taken_so (map string_bytes c.args.words.now) c.in-Ok.asked taken.1 taken.2 c.taken.result taken.0 c.taken.ensures.taken

pub returns-in-Ok-clause-other : goal.returns-in-Ok-clause-other
returns-in-Ok-clause-other c =
    let taken = c.in-Ok.ensures.taken in
    other_so (map string_bytes c.args.words.now) c.in-Ok.asked taken.1 taken.2 c.taken.result c.taken.ensures.other

pub returns-in-Err-clause-other : goal.returns-in-Err-clause-other
returns-in-Err-clause-other c = λ is. other_read (map string_bytes c.args.words.now) (c.in-Err.ensures.other is)
