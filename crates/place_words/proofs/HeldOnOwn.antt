-- Worked history: a CPU deletes a key, and before it has freed the element, another finds nothing in its own set that isn't
-- in a hand.
use Rattle.std.proofs.Common.{◌≡◌, inr, take, false, List, [], ◌∷◌, refl, arith}
use Rattle.std.specs.Prelude.{None, Some}
use Rattle.map_types.specs.declared.attr.Shape.{Shape}
use Rattle.map_types.specs.declared.call.Verb.TheVariants as verbs
use Rattle.map_types.specs.declared.kind.DomainId.TheVariants.{CpuLru, Bucket}
use Rattle.map_types.specs.declared.kind.Side.TheVariants.{Prog}
use Rattle.map_types.specs.declared.refusal.Errno.TheVariants.{Enomem}
use Rattle.map_types.specs.declared.reply.Reply.TheVariants.{Done, Refused}
use Rattle.key_hash.specs.Jhash.{hash, absorb, start, add_block, mix, finish, finish_a, finish_b, finish_c, mix_a, mix_b, mix_c}
use Rattle.key_hash.specs.Bucket.{bucket_number}
use Rattle.place_words.specs.declared.bucket_part.BucketPart.TheVariants.{Update, Delete, Evict}
use Rattle.place_words.specs.declared.bucket_part.Put.TheVariants as puts
use Rattle.place_words.specs.declared.bucket_part.Seen.TheVariants.{Held}
use Rattle.place_words.specs.declared.history.Entry.{Entry}
use Rattle.place_words.specs.declared.history.Part.TheVariants as parts
use Rattle.place_words.specs.declared.list_part.OwnPart.TheVariants as own
use Rattle.place_words.specs.Rotation.{rotated, active_visited, active_rotated, inactive_order, inactive_visited, inactive_rotated}
use Rattle.place_words.specs.Shrinking.{after_looks, after_tries, shrunk}
use Rattle.place_words.specs.Openings.{opening_stack, opening_spares, opening_owner, opening_free}
use Rattle.place_words.specs.Buckets.{AllowsInBucket, bucket_after}
use Rattle.place_words.specs.Sets.{own_after}
use Rattle.place_words.specs.Locals.{local_after}
use Rattle.place_words.specs.Globals.{with_flushed, global_after}
use Rattle.place_words.specs.Histories.{in_bucket, in_own, content, IsLegal, replayed, AllAllowed}
use Rattle.place_words.specs.Traces.{IsTrace}
use Rattle.place_words.specs.Turns.{TurnAt, on_lock}
use Rattle.place_words.proofs.Worked.{entry, visit, look, attempt, lru_hash, not_nil, probed0, probed_more, end1}

unfoldable pub shape : Shape
shape = lru_hash 2 2 false

unfoldable pub lru_0 : List Entry
lru_0 =
    entry 0 0 1 (parts.Own (own.Turn 82610235 [] [] None (Some 0)))
    ∷ entry 5 0 3 (parts.Own (own.Turn 3750671035 [] (visit 0 false ∷ []) (Some (record { target = 4; looks = look 0 false (Some (Held 1)) ∷ []; forced = attempt 0 (Held 1) ∷ [] })) None))
    ∷ entry 6 1 2 (parts.Own (own.Push 0))
    ∷ []

lru_0_is_legal : IsLegal shape (CpuLru 0) lru_0
unfolding replayed AllAllowed rotated active_visited active_rotated inactive_order inactive_visited inactive_rotated after_looks after_tries shrunk with_flushed own_after local_after global_after AllowsInBucket bucket_after opening_stack opening_spares opening_owner opening_free shape lru_0
lru_0_is_legal = (
  (record { of_active = refl; of_inactive = refl }, (λ same. absurd (not_nil same)), refl),
  (
    (
      record { of_active = refl; of_inactive = refl },
      (
        refl,
        refl,
        record {
          looked = record { from_tail = refl; probed = probed_more (look 0 false (Some (Held 1))) [] refl probed0; until = end1 _ _ refl refl };
          tried = record { from_tail = refl; until = end1 _ _ refl refl };
        },
      ),
      refl,
    ),
    (refl, tt),
  ),
)

lru_0_leads : content shape (CpuLru 0) lru_0 ≡ in_own (record { lists = record { active = []; inactive = []; cursor = None }; free = 0 ∷ [] })
unfolding replayed AllAllowed rotated active_visited active_rotated inactive_order inactive_visited inactive_rotated after_looks after_tries shrunk with_flushed own_after local_after global_after AllowsInBucket bucket_after opening_stack opening_spares opening_owner opening_free shape lru_0
lru_0_leads = refl

unfoldable pub bucket_1 : List Entry
bucket_1 =
    entry 1 0 1 (parts.Bucket (Update Prog 0 (1 ∷ []) (161 ∷ []) (Some 0) (puts.Added 0)))
    ∷ entry 2 1 2 (parts.Bucket (Delete (1 ∷ []) (Some 0)))
    ∷ entry 3 0 3 (parts.Bucket (Evict 0 (Held 1)))
    ∷ entry 4 0 3 (parts.Bucket (Evict 0 (Held 1)))
    ∷ []

bucket_1_is_legal : IsLegal shape (Bucket 1) bucket_1
unfolding replayed AllAllowed rotated active_visited active_rotated inactive_order inactive_visited inactive_rotated after_looks after_tries shrunk with_flushed own_after local_after global_after AllowsInBucket bucket_after opening_stack opening_spares opening_owner opening_free shape bucket_1
bucket_1_is_legal = (
  (refl, (λ same. absurd (omega (arith, same)))),
  (refl, ((refl, omega arith, (λ same. absurd (omega (arith, same)))), ((refl, omega arith, (λ same. absurd (omega (arith, same)))), tt))),
)

bucket_1_leads : content shape (Bucket 1) bucket_1 ≡ in_bucket []
unfolding replayed AllAllowed rotated active_visited active_rotated inactive_order inactive_visited inactive_rotated after_looks after_tries shrunk with_flushed own_after local_after global_after AllowsInBucket bucket_after opening_stack opening_spares opening_owner opening_free shape bucket_1
bucket_1_leads = refl

-- the calls
taking : TurnAt
taking = record { turn = on_lock (CpuLru 0) (parts.Own (own.Turn 82610235 [] [] None (Some 0))); earlier = [] }

adding : TurnAt
adding = record { turn = on_lock (Bucket 1) (parts.Bucket (Update Prog 0 (1 ∷ []) (161 ∷ []) (Some 0) (puts.Added 0))); earlier = [] }

first_call : IsTrace shape 0 None (verbs.Update Prog 0 (1 ∷ []) (161 ∷ [])) (taking ∷ adding ∷ []) Done
unfolding shape taking adding rotated active_visited active_rotated inactive_order inactive_visited inactive_rotated after_looks after_tries shrunk with_flushed own_after local_after global_after bucket_after opening_stack opening_spares opening_owner opening_free hash absorb start add_block mix finish finish_a finish_b finish_c mix_a mix_b mix_c bucket_number replayed
first_call = inr (
  omega arith,
  record {
    got = Some 0;
    taking = taking ∷ [];
    rest = adding ∷ [];
    turns_are = refl;
    takes = record {
      active = [];
      inactive = [];
      shrink = None;
      chased = record { probing = []; last = taking; turns_are = refl; last_is = refl; chase = tt };
    };
    offers = record {
      put = puts.Added 0;
      may_put = refl;
      at_bucket = adding;
      freeing = [];
      turns_are = refl;
      bucket_is = refl;
      frees = refl;
      reply_is = refl;
    };
  },
)

deleting : TurnAt
deleting = record { turn = on_lock (Bucket 1) (parts.Bucket (Delete (1 ∷ []) (Some 0))); earlier = take 1 bucket_1 }

freeing : TurnAt
freeing = record { turn = on_lock (CpuLru 0) (parts.Own (own.Push 0)); earlier = take 2 lru_0 }

second_call : IsTrace shape 1 None (verbs.Delete (1 ∷ [])) (deleting ∷ freeing ∷ []) Done
unfolding shape deleting freeing rotated active_visited active_rotated inactive_order inactive_visited inactive_rotated after_looks after_tries shrunk with_flushed own_after local_after global_after bucket_after opening_stack opening_spares opening_owner opening_free hash absorb start add_block mix finish finish_a finish_b finish_c mix_a mix_b mix_c bucket_number replayed
second_call = record { gone = Some 0; at_bucket = deleting; freeing = freeing ∷ []; turns_are = refl; bucket_is = refl; frees = refl; reply_is = refl }

probing : TurnAt
probing = record { turn = on_lock (Bucket 1) (parts.Bucket (Evict 0 (Held 1))); earlier = take 2 bucket_1 }

forcing : TurnAt
forcing = record { turn = on_lock (Bucket 1) (parts.Bucket (Evict 0 (Held 1))); earlier = take 3 bucket_1 }

finding : TurnAt
finding = record {
  turn = on_lock (CpuLru 0) (parts.Own (own.Turn 3750671035 [] (visit 0 false ∷ []) (Some (record { target = 4; looks = look 0 false (Some (Held 1)) ∷ []; forced = attempt 0 (Held 1) ∷ [] })) None));
  earlier = take 1 lru_0;
}

third_call : IsTrace shape 0 None (verbs.Update Prog 0 (2 ∷ []) (178 ∷ [])) (probing ∷ forcing ∷ finding ∷ []) (Refused Enomem)
unfolding shape lru_0 bucket_1 probing forcing finding rotated active_visited active_rotated inactive_order inactive_visited inactive_rotated after_looks after_tries shrunk with_flushed own_after local_after global_after bucket_after opening_stack opening_spares opening_owner opening_free hash absorb start add_block mix finish finish_a finish_b finish_c mix_a mix_b mix_c bucket_number replayed
third_call = inr (
  omega arith,
  record {
    got = None;
    taking = probing ∷ forcing ∷ finding ∷ [];
    rest = [];
    turns_are = refl;
    takes = record {
      active = [];
      inactive = visit 0 false ∷ [];
      shrink = Some (record { target = 4; looks = look 0 false (Some (Held 1)) ∷ []; forced = attempt 0 (Held 1) ∷ [] });
      chased = record { probing = probing ∷ forcing ∷ []; last = finding; turns_are = refl; last_is = refl; chase = (refl, (refl, tt)) };
    };
    offers = (refl, refl);
  },
)
