-- The race worked by hand computes.
use Rattle.std.proofs.Common.{◌≡◌, refl}
use Rattle.place_words.specs.Interleaving.{enclosing, turn_events, interleaved}
use Rattle.core_runs.specs.Rows.{RowEvents, ExchangedEvents, FirstRefused}
use Rattle.std.proofs.Common.{ℕ, ◌<◌, Option, None, Some, arith}
use Rattle.place_words.specs.Locks.{rank_of, lock_named}
use Rattle.core_runs.specs.Rows.{shape}
use Rattle.place_words.specs.OpeningState.{opening, opening_lists}
use Rattle.place_words.proofs.ElementLemmas.{at_put}
use Rattle.map_types.specs.ElementLists.{put}
use Rattle.place_words.specs.Rotation.{rotated, active_visited, active_rotated, inactive_order, inactive_visited, inactive_rotated}
use Rattle.place_words.specs.Shrinking.{after_looks, after_tries, shrunk}
use Rattle.place_words.specs.Openings.{opening_stack, opening_spares, opening_owner, opening_free}
use Rattle.place_words.specs.Buckets.{bucket_after}
use Rattle.place_words.specs.Sets.{own_after}
use Rattle.place_words.specs.Locals.{local_after}
use Rattle.place_words.specs.Globals.{with_flushed, global_after}
use Rattle.place_words.specs.Histories.{replayed}

pub row_computes : RowEvents
unfolding enclosing turn_events interleaved put replayed rotated active_visited active_rotated inactive_order inactive_visited inactive_rotated after_looks after_tries shrunk with_flushed own_after local_after global_after bucket_after opening_stack opening_spares opening_owner opening_free
row_computes = refl

pub exchanged_computes : ExchangedEvents
unfolding enclosing turn_events interleaved put replayed rotated active_visited active_rotated inactive_order inactive_visited inactive_rotated after_looks after_tries shrunk with_flushed own_after local_after global_after bucket_after opening_stack opening_spares opening_owner opening_free
exchanged_computes = (_, refl)

pub first_refused : FirstRefused
unfolding opening opening_lists opening_owner opening_free opening_stack opening_spares put lock_named
first_refused = (
  record { is_cpu = omega arith; is_lock = refl; nobody = refl; above = λ j held. absurd cc },
  record { is_cpu = omega arith; is_lock = refl; nobody = refl; above = λ j held. at_put (λ (k : ℕ). no_holder) 1 (Some 1) (λ i h. h ≡ Some 1 → rank_of (lock_named shape i) < 2) j (λ _. one_below) (λ _ none. absurd cc) held },
  λ can. absurd (let none = can.same_free 0 in omega (arith, none)),
)
  where
    no_holder : Option ℕ
    no_holder = None

    one_below : 1 < 2
    one_below = omega arith
