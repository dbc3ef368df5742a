-- The races in which an element is found in the hand of the CPU that deletes it compute, and the run in three phases.
use Rattle.std.proofs.Common.{refl}
use Rattle.map_types.specs.ElementLists.{put}
use Rattle.place_words.specs.Buckets.{bucket_after}
use Rattle.place_words.specs.Globals.{with_flushed, global_after}
use Rattle.place_words.specs.Histories.{replayed}
use Rattle.place_words.specs.Locals.{local_after}
use Rattle.place_words.specs.Openings.{opening_stack, opening_spares, opening_owner, opening_free}
use Rattle.place_words.specs.Rotation.{rotated, active_visited, active_rotated, inactive_order, inactive_visited, inactive_rotated}
use Rattle.place_words.specs.Sets.{own_after}
use Rattle.place_words.specs.Shrinking.{after_looks, after_tries, shrunk}
use Rattle.place_words.specs.Interleaving.{enclosing, turn_events, interleaved}
use Rattle.core_runs.specs.RowApart.{ApartEvents}
use Rattle.core_runs.specs.RowFlushed.{FlushedEvents}
use Rattle.core_runs.specs.RowPhases.{PhasesEvents}

pub apart_computes : ApartEvents
unfolding enclosing turn_events interleaved put replayed rotated active_visited active_rotated inactive_order inactive_visited inactive_rotated after_looks after_tries shrunk with_flushed own_after local_after global_after bucket_after opening_stack opening_spares opening_owner opening_free
apart_computes = refl

pub flushed_computes : FlushedEvents
unfolding enclosing turn_events interleaved put replayed rotated active_visited active_rotated inactive_order inactive_visited inactive_rotated after_looks after_tries shrunk with_flushed own_after local_after global_after bucket_after opening_stack opening_spares opening_owner opening_free
flushed_computes = refl

pub phases_compute : PhasesEvents
unfolding enclosing turn_events interleaved put replayed rotated active_visited active_rotated inactive_order inactive_visited inactive_rotated after_looks after_tries shrunk with_flushed own_after local_after global_after bucket_after opening_stack opening_spares opening_owner opening_free
phases_compute = refl
