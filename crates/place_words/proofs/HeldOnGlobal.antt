-- Worked history: a CPU deletes a key, and before it has freed the element, another flushes that and finds it in a hand. The
-- element is freed on the global lists, where its home was read.
use Rattle.std.proofs.Common.{◌≡◌, inr, take, true, false, List, [], ◌∷◌, refl, arith}
use Rattle.std.specs.Prelude.{None, Some}
use Rattle.map_types.specs.declared.attr.Shape.{Shape}
use Rattle.map_types.specs.declared.call.Verb.TheVariants as verbs
use Rattle.map_types.specs.declared.kind.DomainId.TheVariants.{Local, Global, Bucket}
use Rattle.map_types.specs.declared.kind.Side.TheVariants.{Prog}
use Rattle.map_types.specs.declared.refusal.Errno.TheVariants.{Enomem}
use Rattle.map_types.specs.declared.reply.Reply.TheVariants.{Done, Refused}
use Rattle.key_hash.specs.Jhash.{hash, absorb, start, add_block, mix, finish, finish_a, finish_b, finish_c, mix_a, mix_b, mix_c}
use Rattle.key_hash.specs.Bucket.{bucket_number}
use Rattle.place_words.specs.declared.bucket_part.BucketPart.TheVariants.{Update, Delete, Evict}
use Rattle.place_words.specs.declared.bucket_part.Put.TheVariants as puts
use Rattle.place_words.specs.declared.bucket_part.Seen.TheVariants.{Held}
use Rattle.place_words.specs.declared.history.Entry.{Entry}
use Rattle.place_words.specs.declared.history.Part.TheVariants as parts
use Rattle.place_words.specs.declared.list_part.GlobalPart.TheVariants as global
use Rattle.place_words.specs.declared.list_part.LocalPart.TheVariants as local
use Rattle.place_words.specs.declared.list_part.Stolen.TheVariants.{Nothing}
use Rattle.place_words.specs.Rotation.{rotated, active_visited, active_rotated, inactive_order, inactive_visited, inactive_rotated}
use Rattle.place_words.specs.Shrinking.{after_looks, after_tries, shrunk}
use Rattle.place_words.specs.Openings.{opening_stack, opening_spares, opening_owner, opening_free}
use Rattle.place_words.specs.Buckets.{AllowsInBucket, bucket_after}
use Rattle.place_words.specs.Sets.{own_after}
use Rattle.place_words.specs.Locals.{local_after}
use Rattle.place_words.specs.Globals.{with_flushed, global_after}
use Rattle.place_words.specs.Histories.{in_locals, in_global, content, IsLegal, replayed, AllAllowed}
use Rattle.place_words.specs.Traces.{IsTrace}
use Rattle.place_words.specs.Turns.{TurnAt, on_lock}
use Rattle.place_words.proofs.Worked.{entry, visit, flush, look, attempt, row, lru_hash, probed0, probed_more, end0, end1}

unfoldable pub shape : Shape
shape = lru_hash 1 2 true

unfoldable pub local_0 : List Entry
local_0 =
    entry 1 0 1 (parts.Local (local.Refill 82610235 [] (0 ∷ []) (Some 0)))
    ∷ entry 7 0 3 (parts.Local (local.Refill 3750671035 (visit 0 false ∷ []) [] None))
    ∷ entry 8 0 3 (parts.Local (local.Steal Nothing [] []))
    ∷ []

local_0_is_legal : IsLegal shape (Local 0) local_0
unfolding replayed AllAllowed rotated active_visited active_rotated inactive_order inactive_visited inactive_rotated after_looks after_tries shrunk with_flushed own_after local_after global_after AllowsInBucket bucket_after opening_stack opening_spares opening_owner opening_free shape local_0
local_0_is_legal = (
  (refl, refl, refl),
  (
    (refl, refl, refl),
    (
      (
        record {
          none_free = refl;
          sparing = record { from_tail = refl; probed = probed0; until = end0 _ refl };
          unsparing = record { from_tail = refl; until = end0 _ refl };
        },
        refl,
      ),
      tt,
    ),
  ),
)

local_0_leads : content shape (Local 0) local_0 ≡ in_locals (record { free = []; pending = []; steal = 0 })
unfolding replayed AllAllowed rotated active_visited active_rotated inactive_order inactive_visited inactive_rotated after_looks after_tries shrunk with_flushed own_after local_after global_after AllowsInBucket bucket_after opening_stack opening_spares opening_owner opening_free shape local_0
local_0_leads = refl

unfoldable pub local_1 : List Entry
local_1 = entry 9 0 3 (parts.Local (local.Steal Nothing [] [])) ∷ []

local_1_is_legal : IsLegal shape (Local 1) local_1
unfolding replayed AllAllowed rotated active_visited active_rotated inactive_order inactive_visited inactive_rotated after_looks after_tries shrunk with_flushed own_after local_after global_after AllowsInBucket bucket_after opening_stack opening_spares opening_owner opening_free shape local_1
local_1_is_legal = (
  (
    record {
      none_free = refl;
      sparing = record { from_tail = refl; probed = probed0; until = end0 _ refl };
      unsparing = record { from_tail = refl; until = end0 _ refl };
    },
    refl,
  ),
  tt,
)

unfoldable pub global_lists : List Entry
global_lists =
    entry 0 0 1 (parts.Global (global.Turn [] [] [] (0 ∷ []) (Some (record { target = 127; looks = []; forced = [] }))))
    ∷ entry 6 0 3 (parts.Global (global.Turn (flush 0 82610235 false ∷ []) [] (visit 0 false ∷ []) [] (Some (record { target = 128; looks = look 0 false (Some (Held 1)) ∷ []; forced = attempt 0 (Held 1) ∷ [] }))))
    ∷ entry 10 1 2 (parts.Global (global.Push 0))
    ∷ []

global_lists_is_legal : IsLegal shape Global global_lists
unfolding replayed AllAllowed rotated active_visited active_rotated inactive_order inactive_visited inactive_rotated after_looks after_tries shrunk with_flushed own_after local_after global_after AllowsInBucket bucket_after opening_stack opening_spares opening_owner opening_free shape global_lists
global_lists_is_legal = (
  (
    tt,
    record { of_active = refl; of_inactive = refl },
    refl,
    (
      omega arith,
      refl,
      record {
        looked = record { from_tail = refl; probed = probed0; until = end0 _ refl };
        tried = record { from_tail = refl; until = end0 _ refl };
      },
    ),
  ),
  (
    (
      ((refl, refl), refl, tt),
      record { of_active = refl; of_inactive = refl },
      refl,
      (
        omega arith,
        refl,
        record {
          looked = record { from_tail = refl; probed = probed_more (look 0 false (Some (Held 1))) [] refl probed0; until = end1 _ _ refl refl };
          tried = record { from_tail = refl; until = end1 _ _ refl refl };
        },
      ),
    ),
    (refl, tt),
  ),
)

global_lists_lead : content shape Global global_lists ≡ in_global (record { lists = record { active = []; inactive = []; cursor = None }; free = 0 ∷ [] })
unfolding replayed AllAllowed rotated active_visited active_rotated inactive_order inactive_visited inactive_rotated after_looks after_tries shrunk with_flushed own_after local_after global_after AllowsInBucket bucket_after opening_stack opening_spares opening_owner opening_free shape global_lists
global_lists_lead = refl

unfoldable pub bucket_0 : List Entry
bucket_0 =
    entry 2 0 1 (parts.Bucket (Update Prog 0 (1 ∷ []) (161 ∷ []) (Some 0) (puts.Added 0)))
    ∷ entry 3 1 2 (parts.Bucket (Delete (1 ∷ []) (Some 0)))
    ∷ entry 4 0 3 (parts.Bucket (Evict 0 (Held 1)))
    ∷ entry 5 0 3 (parts.Bucket (Evict 0 (Held 1)))
    ∷ []

bucket_0_is_legal : IsLegal shape (Bucket 0) bucket_0
unfolding replayed AllAllowed rotated active_visited active_rotated inactive_order inactive_visited inactive_rotated after_looks after_tries shrunk with_flushed own_after local_after global_after AllowsInBucket bucket_after opening_stack opening_spares opening_owner opening_free shape bucket_0
bucket_0_is_legal = (
  (refl, (λ same. absurd (omega (arith, same)))),
  (refl, ((refl, omega arith, (λ same. absurd (omega (arith, same)))), ((refl, omega arith, (λ same. absurd (omega (arith, same)))), tt))),
)

-- the delete, and the update that finds nothing
deleting : TurnAt
deleting = record { turn = on_lock (Bucket 0) (parts.Bucket (Delete (1 ∷ []) (Some 0))); earlier = take 1 bucket_0 }

freeing : TurnAt
freeing = record { turn = on_lock Global (parts.Global (global.Push 0)); earlier = take 2 global_lists }

second_call : IsTrace shape 1 None (verbs.Delete (1 ∷ [])) (deleting ∷ freeing ∷ []) Done
unfolding shape deleting freeing rotated active_visited active_rotated inactive_order inactive_visited inactive_rotated after_looks after_tries shrunk with_flushed own_after local_after global_after bucket_after opening_stack opening_spares opening_owner opening_free hash absorb start add_block mix finish finish_a finish_b finish_c mix_a mix_b mix_c bucket_number replayed
second_call = record { gone = Some 0; at_bucket = deleting; freeing = freeing ∷ []; turns_are = refl; bucket_is = refl; frees = inr (inr refl); reply_is = refl }

probing : TurnAt
probing = record { turn = on_lock (Bucket 0) (parts.Bucket (Evict 0 (Held 1))); earlier = take 2 bucket_0 }

forcing : TurnAt
forcing = record { turn = on_lock (Bucket 0) (parts.Bucket (Evict 0 (Held 1))); earlier = take 3 bucket_0 }

turning : TurnAt
turning = record {
  turn = on_lock Global (parts.Global (global.Turn (flush 0 82610235 false ∷ []) [] (visit 0 false ∷ []) [] (Some (record { target = 128; looks = look 0 false (Some (Held 1)) ∷ []; forced = attempt 0 (Held 1) ∷ [] }))));
  earlier = take 1 global_lists;
}

refilling : TurnAt
refilling = record { turn = on_lock (Local 0) (parts.Local (local.Refill 3750671035 (visit 0 false ∷ []) [] None)); earlier = take 1 local_0 }

from_own : TurnAt
from_own = record { turn = on_lock (Local 0) (parts.Local (local.Steal Nothing [] [])); earlier = take 2 local_0 }

from_other : TurnAt
from_other = record { turn = on_lock (Local 1) (parts.Local (local.Steal Nothing [] [])); earlier = [] }

third_call : IsTrace shape 0 None (verbs.Update Prog 0 (2 ∷ []) (178 ∷ [])) (probing ∷ forcing ∷ turning ∷ refilling ∷ from_own ∷ from_other ∷ []) (Refused Enomem)
unfolding shape local_0 global_lists bucket_0 probing forcing turning refilling from_own from_other rotated active_visited active_rotated inactive_order inactive_visited inactive_rotated after_looks after_tries shrunk with_flushed own_after local_after global_after bucket_after opening_stack opening_spares opening_owner opening_free hash absorb start add_block mix finish finish_a finish_b finish_c mix_a mix_b mix_c bucket_number replayed
third_call = inr (
  omega arith,
  record {
    got = None;
    taking = probing ∷ forcing ∷ turning ∷ refilling ∷ from_own ∷ from_other ∷ [];
    rest = [];
    turns_are = refl;
    takes = inr (record {
      lists = record { free = []; pending = row 0 82610235 ∷ []; steal = 0 };
      gave = None;
      refilling = probing ∷ forcing ∷ turning ∷ refilling ∷ [];
      stealing = from_own ∷ from_other ∷ [];
      turns_are = refl;
      refills = record {
        flushed = flush 0 82610235 false ∷ [];
        active = [];
        inactive = visit 0 false ∷ [];
        free = [];
        shrink = Some (record { target = 128; looks = look 0 false (Some (Held 1)) ∷ []; forced = attempt 0 (Held 1) ∷ [] });
        inner = probing ∷ forcing ∷ turning ∷ [];
        last = refilling;
        turns_are = refl;
        chased = record { probing = probing ∷ forcing ∷ []; last = turning; turns_are = refl; last_is = refl; chase = (refl, (refl, tt)) };
        last_is = refl;
        found_there = refl;
        with_hashes = refl;
      };
      steals = (
        from_own ∷ [],
        from_other ∷ [],
        Nothing,
        [],
        [],
        refl,
        record { probing = []; last = from_own; turns_are = refl; last_is = refl; chase = tt },
        (
          from_other ∷ [],
          [],
          Nothing,
          [],
          [],
          refl,
          record { probing = []; last = from_other; turns_are = refl; last_is = refl; chase = tt },
          (refl, refl),
        ),
      );
    });
    offers = (refl, refl);
  },
)
