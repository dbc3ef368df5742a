-- The forged order has legal turns, and fails by words, at the taking of the bucket.
use Rattle.std.proofs.Common.{refl, arith}
use Rattle.map_types.specs.ElementLists.{put}
use Rattle.place_words.specs.Buckets.{AllowsInBucket, bucket_after}
use Rattle.core_runs.specs.SharedRaces.{AreShared}
use Rattle.place_words.specs.Globals.{with_flushed, global_after}
use Rattle.place_words.specs.Rotation.{rotated, active_visited, active_rotated, inactive_order, inactive_visited, inactive_rotated}
use Rattle.place_words.specs.Shrinking.{after_looks, after_tries, shrunk}
use Rattle.place_words.specs.Sets.{own_after}
use Rattle.place_words.specs.Histories.{replayed}
use Rattle.place_words.specs.Locals.{local_after}
use Rattle.std.proofs.lemmas.List.Elements.{All-nil}
use Rattle.place_words.specs.Openings.{opening_stack, opening_spares, opening_owner, opening_free}
use Rattle.place_words.specs.OpeningState.{opening, opening_lists}
use Rattle.place_words.specs.Interleaving.{enclosing, turn_events, interleaved}
use Rattle.core_runs.specs.Races.{AreTurns}
use Rattle.core_runs.specs.Words.{WordsAllow, words_after, RunsByWords}
use Rattle.core_runs.specs.RaceRows.{ForgedTurns, ForgedFails, RacesByWords, SharedByWords, RefilledTurns}
use Rattle.core_runs.proofs.RaceRuns.{race_to, words_to}
use Rattle.core_runs.proofs.SharedRuns.{shared_to}

pub forged_turns : ForgedTurns
unfolding AreTurns enclosing put AllowsInBucket bucket_after opening_stack opening_spares opening_owner opening_free
forged_turns = (
  record { cpu = 1; lock_is = refl; there = refl; inside = tt },
  refl,
  (
    record { bucket = 0; lock_is = refl; there = refl; paid = λ e. refl },
    refl,
    (
      record { bucket = 0; lock_is = refl; there = refl; paid = λ e. refl },
      (refl, λ same. absurd cc),
      tt,
    ),
  ),
)

pub forged_fails : ForgedFails
unfolding RunsByWords WordsAllow words_after enclosing turn_events interleaved put bucket_after opening opening_lists opening_stack opening_spares opening_owner opening_free
forged_fails words = let nobody = words.1.1.1.1.0.nobody in absurd cc

pub races_by_words : RacesByWords
races_by_words shape bounds turns are = record { enabled = race_to bounds turns are; words = words_to bounds turns }

pub shared_races_by_words : SharedByWords
shared_races_by_words shape bounds lru common turns are = record { enabled = shared_to bounds lru common turns are; words = words_to bounds turns }

pub refilled_turns : RefilledTurns
unfolding AreShared enclosing put replayed rotated active_visited active_rotated inactive_order inactive_visited inactive_rotated after_looks after_tries shrunk with_flushed own_after local_after global_after bucket_after opening_stack opening_spares opening_owner opening_free
refilled_turns = (
  record { lock_is = refl; pays = (refl, refl, (λ e. omega arith), (λ e. omega arith)) },
  (
    tt,
    record { of_active = refl; of_inactive = refl },
    refl,
    (
      omega arith,
      refl,
      record {
        looked = record { from_tail = refl; probed = All-nil _; until = record { here = refl; not_before = λ k less. absurd (omega (arith, less)) } };
        tried = record { from_tail = refl; until = record { here = refl; not_before = λ k less. absurd (omega (arith, less)) } };
      },
    ),
  ),
  (
    record { cpu = 0; lock_is = refl; there = refl; pays = (refl, λ e. refl) },
    (refl, refl, refl),
    tt,
  ),
)
