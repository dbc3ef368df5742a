use Rattle.std.proofs.Common.{◌≡◌, ℕ, ◌+◌, length, ap, sym, subst, arith}
use Rattle.map_types.proofs.CreationLemmas.{bounds_of_shape}
use Rattle.place_words.specs.Locks.{first_freelist, lock_count}
use Rattle.place_table.specs.Leaving.{AreCounts, AreKept, HaveTurnsFrom}
use Rattle.place_table.proofs.close.keep_others.Goals as goal

pub returns-clause-kept : goal.returns-clause-kept
returns-clause-kept c = λ slots log lost is told tell.
    let shape = c.args.shape.now in
    let counts = subst (AreCounts shape log lost shape.buckets) (sym c.as_slice.ensures.value) (is.counts log lost told) in
    let first = c.in_ok-keep_logged.ensures.kept shape log lost counts tell (is.kept log lost told) in
    let turns_are : c.replace.result.items ≡ c.args.emptied.now.turns.items = ap (λ z. z.items) c.replace.ensures.value in
    let turns = subst (HaveTurnsFrom shape log lost (first_freelist shape)) (sym turns_are) (is.turns log lost told) in
    let all : first_freelist shape + length c.replace.result.items ≡ lock_count shape = omega (arith, ap length turns_are, is.many) in
    subst (λ (k : ℕ). AreKept shape log lost k c.keep_turns.new.histories.kept.items c.keep_turns.new.histories.lost) all (c.keep_turns.ensures log lost turns first)

pub overflow_add-first_set : goal.overflow_add-first_set
overflow_add-first_set c = let bounds = bounds_of_shape c.args.shape.now c.requires.shape in omega arith

pub overflow_add-first_bucket : goal.overflow_add-first_bucket
overflow_add-first_bucket c = let bounds = bounds_of_shape c.args.shape.now c.requires.shape in omega arith

pub overflow_add-first_freelist : goal.overflow_add-first_freelist
overflow_add-first_freelist c = let bounds = bounds_of_shape c.args.shape.now c.requires.shape in omega arith
