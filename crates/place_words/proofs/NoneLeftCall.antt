-- The second call of a worked history: a refill that gets nothing, then a round of thefts, and ENOMEM.
use Rattle.std.proofs.Common.{◌≡◌, inr, ℕ, false, List, [], ◌∷◌, ◌++◌, take, refl, arith}
use Rattle.std.specs.Prelude.{None, Some}
use Rattle.map_types.specs.declared.call.Verb.TheVariants as verbs
use Rattle.map_types.specs.declared.kind.DomainId.TheVariants.{Local, Global, Bucket}
use Rattle.map_types.specs.declared.kind.Side.TheVariants.{Prog}
use Rattle.map_types.specs.declared.refusal.Errno.TheVariants.{Enomem}
use Rattle.map_types.specs.declared.reply.Reply.TheVariants.{Refused}
use Rattle.key_hash.specs.Jhash.{hash, absorb, start, add_block, mix, finish, finish_a, finish_b, finish_c, mix_a, mix_b, mix_c}
use Rattle.key_hash.specs.Bucket.{bucket_number}
use Rattle.place_words.specs.declared.bucket_part.BucketPart.TheVariants.{Evict}
use Rattle.place_words.specs.declared.bucket_part.Seen.TheVariants.{Held}
use Rattle.place_words.specs.declared.history.Part.TheVariants as parts
use Rattle.place_words.specs.declared.list_part.GlobalPart.TheVariants as global
use Rattle.place_words.specs.declared.list_part.LocalPart.TheVariants as local
use Rattle.place_words.specs.declared.list_part.Stolen.TheVariants.{Nothing}
use Rattle.place_words.specs.Openings.{opening_stack, opening_spares, opening_owner, opening_free}
use Rattle.place_words.specs.Buckets.{bucket_after}
use Rattle.place_words.specs.Sets.{own_after}
use Rattle.place_words.specs.Locals.{local_after}
use Rattle.place_words.specs.Globals.{with_flushed, global_after}
use Rattle.place_words.specs.Rotation.{rotated, active_visited, active_rotated, inactive_order, inactive_visited, inactive_rotated}
use Rattle.place_words.specs.Shrinking.{after_looks, after_tries, shrunk}
use Rattle.place_words.specs.Histories.{replayed}
use Rattle.place_words.specs.Turns.{TurnAt, turns_of, on_lock}
use Rattle.place_words.specs.Counts.{moves, looks, evictions}
use Rattle.place_words.specs.Named.{NameAll}
use Rattle.map_types.specs.declared.kind.DomainId.{DomainId}
use Rattle.place_words.specs.declared.history.LockHistory.{LockHistory}
use Rattle.place_words.specs.declared.history.StrandStep.{StrandStep}
use Rattle.place_words.specs.Traces.{IsTrace}
use Rattle.place_words.proofs.Worked.{look, attempt}
use Rattle.place_words.proofs.NoneLeft.{shape, local_0, local_1, global_lists, bucket_0}

refilling : List TurnAt
refilling =
    (record { turn = on_lock Global (parts.Global (global.Turn [] [] [] [] (Some (record { target = 128; looks = []; forced = [] })))); earlier = take 1 global_lists })
    ∷ (record { turn = on_lock (Local 1) (parts.Local (local.Refill 3750671035 [] [] None)); earlier = [] })
    ∷ []

from_itself : TurnAt
from_itself = record { turn = on_lock (Local 1) (parts.Local (local.Steal Nothing [] [])); earlier = take 1 local_1 }

evict_at : ℕ → TurnAt
evict_at n = record { turn = on_lock (Bucket 0) (parts.Bucket (Evict 0 (Held 0))); earlier = take n bucket_0 }

from_other : TurnAt
from_other = record { turn = on_lock (Local 0) (parts.Local (local.Steal Nothing (look 0 false (Some (Held 0)) ∷ []) (attempt 0 (Held 0) ∷ []))); earlier = take 1 local_0 }

stealing : List TurnAt
stealing = from_itself ∷ evict_at 0 ∷ evict_at 1 ∷ from_other ∷ []

second_call : IsTrace shape 1 None (verbs.Update Prog 0 (2 ∷ []) (178 ∷ [])) (refilling ++ stealing) (Refused Enomem)
unfolding shape local_0 local_1 global_lists bucket_0 refilling from_itself evict_at from_other stealing replayed bucket_after own_after local_after global_after with_flushed rotated active_visited active_rotated inactive_order inactive_visited inactive_rotated after_looks after_tries shrunk opening_stack opening_spares opening_owner opening_free hash absorb start add_block mix finish finish_a finish_b finish_c mix_a mix_b mix_c bucket_number
second_call = inr (
  omega arith,
  record {
    got = None;
    taking = refilling ++ stealing;
    rest = [];
    turns_are = refl;
    takes = inr (record {
      lists = record { free = []; pending = []; steal = 1 };
      gave = None;
      refilling = refilling;
      stealing = stealing;
      turns_are = refl;
      refills = record {
        flushed = [];
        active = [];
        inactive = [];
        free = [];
        shrink = Some (record { target = 128; looks = []; forced = [] });
        inner = take 1 refilling;
        last = record { turn = on_lock (Local 1) (parts.Local (local.Refill 3750671035 [] [] None)); earlier = [] };
        turns_are = refl;
        chased = record {
          probing = [];
          last = record { turn = on_lock Global (parts.Global (global.Turn [] [] [] [] (Some (record { target = 128; looks = []; forced = [] })))); earlier = take 1 global_lists };
          turns_are = refl;
          last_is = refl;
          chase = tt;
        };
        last_is = refl;
        found_there = refl;
        with_hashes = refl;
      };
      steals = (
        from_itself ∷ [],
        evict_at 0 ∷ evict_at 1 ∷ from_other ∷ [],
        Nothing,
        [],
        [],
        refl,
        record { probing = []; last = from_itself; turns_are = refl; last_is = refl; chase = tt },
        (
          evict_at 0 ∷ evict_at 1 ∷ from_other ∷ [],
          [],
          Nothing,
          look 0 false (Some (Held 0)) ∷ [],
          attempt 0 (Held 0) ∷ [],
          refl,
          record { probing = evict_at 0 ∷ evict_at 1 ∷ []; last = from_other; turns_are = refl; last_is = refl; chase = (refl, (refl, tt)) },
          (refl, refl),
        ),
      );
    });
    offers = (refl, refl);
  },
)

-- the strand of CPU 1 names these turns
histories : List LockHistory
histories =
    (record { lock = Local 0; entries = local_0 }) ∷ (record { lock = Local 1; entries = local_1 })
    ∷ (record { lock = Global; entries = global_lists }) ∷ (record { lock = Bucket 0; entries = bucket_0 }) ∷ []

step : DomainId → ℕ → StrandStep
step lock index = record { lock = lock; index = index }

steps : List StrandStep
steps = step Global 1 ∷ step (Local 1) 0 ∷ step (Local 1) 1 ∷ step (Bucket 0) 0 ∷ step (Bucket 0) 1 ∷ step (Local 0) 1 ∷ []

second_names : NameAll histories 1 2 steps (refilling ++ stealing)
unfolding histories step steps shape local_0 local_1 global_lists bucket_0 refilling from_itself evict_at from_other stealing
second_names = (
  record { lock = refl; ticket = 2; entry = refl; earlier = refl },
  (
    record { lock = refl; ticket = 3; entry = refl; earlier = refl },
    (
      record { lock = refl; ticket = 4; entry = refl; earlier = refl },
      (
        record { lock = refl; ticket = 5; entry = refl; earlier = refl },
        (record { lock = refl; ticket = 6; entry = refl; earlier = refl }, (record { lock = refl; ticket = 7; entry = refl; earlier = refl }, tt)),
      ),
    ),
  ),
)

-- it moves nothing, looks at four list locks and evicts nothing
second_moves : moves (turns_of (refilling ++ stealing)) ≡ 0
unfolding refilling from_itself evict_at from_other stealing
second_moves = refl

second_looks : looks (turns_of (refilling ++ stealing)) ≡ 4
unfolding refilling from_itself evict_at from_other stealing
second_looks = refl

second_evicts : evictions (turns_of (refilling ++ stealing)) ≡ 0
unfolding refilling from_itself evict_at from_other stealing
second_evicts = refl
