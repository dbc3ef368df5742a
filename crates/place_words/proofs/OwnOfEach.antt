-- Worked history: two CPUs take each from its own set, in whatever order.
use Rattle.std.proofs.Common.{◌≡◌, inr, false, List, [], ◌∷◌, refl, arith}
use Rattle.std.specs.Prelude.{None, Some}
use Rattle.map_types.specs.declared.attr.Shape.{Shape}
use Rattle.map_types.specs.declared.call.Verb.TheVariants as verbs
use Rattle.map_types.specs.declared.kind.DomainId.TheVariants.{CpuLru, Bucket}
use Rattle.map_types.specs.declared.kind.Side.TheVariants.{Prog}
use Rattle.map_types.specs.declared.reply.Reply.TheVariants.{Done}
use Rattle.key_hash.specs.Jhash.{hash, absorb, start, add_block, mix, finish, finish_a, finish_b, finish_c, mix_a, mix_b, mix_c}
use Rattle.key_hash.specs.Bucket.{bucket_number}
use Rattle.place_words.specs.declared.bucket_part.BucketPart.TheVariants.{Update}
use Rattle.place_words.specs.declared.bucket_part.Put.TheVariants as puts
use Rattle.place_words.specs.declared.history.Entry.{Entry}
use Rattle.place_words.specs.declared.history.Part.TheVariants as parts
use Rattle.place_words.specs.declared.list_part.OwnPart.TheVariants as own
use Rattle.place_words.specs.Rotation.{rotated, active_visited, active_rotated, inactive_order, inactive_visited, inactive_rotated}
use Rattle.place_words.specs.Openings.{opening_stack, opening_spares, opening_owner, opening_free}
use Rattle.place_words.specs.Buckets.{AllowsInBucket, bucket_after}
use Rattle.place_words.specs.Sets.{own_after}
use Rattle.place_words.specs.Histories.{in_own, content, IsLegal, replayed, AllAllowed}
use Rattle.place_words.specs.Traces.{IsTrace}
use Rattle.place_words.specs.Turns.{TurnAt, on_lock}
use Rattle.place_words.proofs.Worked.{entry, row, lru_hash, not_nil}

unfoldable pub shape : Shape
shape = lru_hash 2 2 false

unfoldable pub lru_0 : List Entry
lru_0 = entry 0 0 1 (parts.Own (own.Turn 82610235 [] [] None (Some 0))) ∷ []

unfoldable pub lru_1 : List Entry
lru_1 = entry 2 1 2 (parts.Own (own.Turn 3143674318 [] [] None (Some 1))) ∷ []

unfoldable pub bucket_1 : List Entry
bucket_1 = entry 1 0 1 (parts.Bucket (Update Prog 0 (1 ∷ []) (161 ∷ []) (Some 0) (puts.Added 0))) ∷ []

unfoldable pub bucket_0 : List Entry
bucket_0 = entry 3 1 2 (parts.Bucket (Update Prog 0 (3 ∷ []) (179 ∷ []) (Some 1) (puts.Added 1))) ∷ []

lru_0_is_legal : IsLegal shape (CpuLru 0) lru_0
unfolding replayed AllAllowed rotated active_visited active_rotated inactive_order inactive_visited inactive_rotated own_after AllowsInBucket bucket_after opening_stack opening_spares opening_owner opening_free shape lru_0
lru_0_is_legal = ((record { of_active = refl; of_inactive = refl }, (λ same. absurd (not_nil same)), refl), tt)

lru_1_is_legal : IsLegal shape (CpuLru 1) lru_1
unfolding replayed AllAllowed rotated active_visited active_rotated inactive_order inactive_visited inactive_rotated own_after AllowsInBucket bucket_after opening_stack opening_spares opening_owner opening_free shape lru_1
lru_1_is_legal = ((record { of_active = refl; of_inactive = refl }, (λ same. absurd (not_nil same)), refl), tt)

lru_1_leads : content shape (CpuLru 1) lru_1 ≡ in_own (record { lists = record { active = []; inactive = row 1 3143674318 ∷ []; cursor = None }; free = [] })
unfolding replayed AllAllowed rotated active_visited active_rotated inactive_order inactive_visited inactive_rotated own_after AllowsInBucket bucket_after opening_stack opening_spares opening_owner opening_free shape lru_1
lru_1_leads = refl

bucket_0_is_legal : IsLegal shape (Bucket 0) bucket_0
unfolding replayed AllAllowed rotated active_visited active_rotated inactive_order inactive_visited inactive_rotated own_after AllowsInBucket bucket_after opening_stack opening_spares opening_owner opening_free shape bucket_0
bucket_0_is_legal = ((refl, (λ same. absurd (omega (arith, same)))), tt)

bucket_1_is_legal : IsLegal shape (Bucket 1) bucket_1
unfolding replayed AllAllowed rotated active_visited active_rotated inactive_order inactive_visited inactive_rotated own_after AllowsInBucket bucket_after opening_stack opening_spares opening_owner opening_free shape bucket_1
bucket_1_is_legal = ((refl, (λ same. absurd (omega (arith, same)))), tt)

-- the call of CPU 1
taking : TurnAt
taking = record { turn = on_lock (CpuLru 1) (parts.Own (own.Turn 3143674318 [] [] None (Some 1))); earlier = [] }

adding : TurnAt
adding = record { turn = on_lock (Bucket 0) (parts.Bucket (Update Prog 0 (3 ∷ []) (179 ∷ []) (Some 1) (puts.Added 1))); earlier = [] }

second_call : IsTrace shape 1 None (verbs.Update Prog 0 (3 ∷ []) (179 ∷ [])) (taking ∷ adding ∷ []) Done
unfolding shape taking adding hash absorb start add_block mix finish finish_a finish_b finish_c mix_a mix_b mix_c bucket_number replayed
second_call = inr (
  omega arith,
  record {
    got = Some 1;
    taking = taking ∷ [];
    rest = adding ∷ [];
    turns_are = refl;
    takes = record {
      active = [];
      inactive = [];
      shrink = None;
      chased = record { probing = []; last = taking; turns_are = refl; last_is = refl; chase = tt };
    };
    offers = record {
      put = puts.Added 1;
      may_put = refl;
      at_bucket = adding;
      freeing = [];
      turns_are = refl;
      bucket_is = refl;
      frees = refl;
      reply_is = refl;
    };
  },
)
