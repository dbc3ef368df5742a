-- The traces of the calls of a worked history.
use Rattle.std.proofs.Common.{inr, take, true, false, [], ◌∷◌, refl, arith}
use Rattle.std.specs.Prelude.{None, Some}
use Rattle.map_types.specs.declared.kind.DomainId.TheVariants.{CpuLru, Bucket}
use Rattle.map_types.specs.declared.call.Verb.TheVariants as verbs
use Rattle.map_types.specs.declared.refusal.Errno.TheVariants.{Enoent}
use Rattle.map_types.specs.declared.reply.Reply.TheVariants.{Refused, Done, Value}
use Rattle.key_hash.specs.Jhash.{hash, absorb, start, add_block, mix, finish, finish_a, finish_b, finish_c, mix_a, mix_b, mix_c}
use Rattle.key_hash.specs.Bucket.{bucket_number}
use Rattle.place_words.specs.Turns.{TurnAt, on_lock}
use Rattle.place_words.specs.Traces.{IsTrace}
use Rattle.map_types.specs.declared.kind.Side.TheVariants.{Prog}
use Rattle.place_words.specs.declared.bucket_part.BucketPart.TheVariants.{Lookup, Update, Evict}
use Rattle.place_words.specs.declared.bucket_part.Put.TheVariants as puts
use Rattle.place_words.specs.declared.bucket_part.Seen.TheVariants.{Removed}
use Rattle.place_words.specs.declared.history.Part.TheVariants as parts
use Rattle.place_words.specs.declared.list_part.OwnPart.TheVariants as own
use Rattle.place_words.specs.Rotation.{rotated, active_visited, active_rotated, inactive_order, inactive_visited, inactive_rotated}
use Rattle.place_words.specs.Shrinking.{after_looks, after_tries, shrunk}
use Rattle.place_words.specs.Openings.{opening_stack, opening_spares, opening_owner, opening_free}
use Rattle.place_words.specs.Buckets.{bucket_after}
use Rattle.place_words.specs.Sets.{own_after}
use Rattle.place_words.specs.Locals.{local_after}
use Rattle.place_words.specs.Globals.{with_flushed, global_after}
use Rattle.place_words.specs.Histories.{replayed}
use Rattle.place_words.proofs.Worked.{visit, attempt}
use Rattle.place_words.proofs.ForcedOnActive.{shape, lru_0, bucket_0, bucket_1}

c1_0 : TurnAt
c1_0 = record { turn = on_lock (CpuLru 0) (parts.Own (own.Turn 82610235 ([]) ([]) None (Some 1))); earlier = take 0 lru_0 }

c1_1 : TurnAt
c1_1 = record { turn = on_lock (Bucket 1) (parts.Bucket (Update Prog 0 (1 ∷ []) (161 ∷ []) (Some 1) (puts.Added 1))); earlier = take 0 bucket_1 }

call_1 : IsTrace shape 0 None (verbs.Update Prog 0 (1 ∷ []) (161 ∷ [])) (c1_0 ∷ c1_1 ∷ []) Done
unfolding shape lru_0 bucket_0 bucket_1 c1_0 c1_1 rotated active_visited active_rotated inactive_order inactive_visited inactive_rotated after_looks after_tries shrunk with_flushed own_after local_after global_after bucket_after opening_stack opening_spares opening_owner opening_free hash absorb start add_block mix finish finish_a finish_b finish_c mix_a mix_b mix_c bucket_number replayed
call_1 = inr (omega arith, record { got = (Some 1); taking = c1_0 ∷ []; rest = c1_1 ∷ []; turns_are = refl; takes = record { active = []; inactive = []; shrink = None; chased = record { probing = []; last = c1_0; turns_are = refl; last_is = refl; chase = tt } }; offers = record { put = (puts.Added 1); may_put = refl; at_bucket = c1_1; freeing = []; turns_are = refl; bucket_is = refl; frees = refl; reply_is = refl } })

c2_0 : TurnAt
c2_0 = record { turn = on_lock (CpuLru 0) (parts.Own (own.Turn 3750671035 ([]) ((visit 1 false) ∷ []) None (Some 0))); earlier = take 1 lru_0 }

c2_1 : TurnAt
c2_1 = record { turn = on_lock (Bucket 1) (parts.Bucket (Update Prog 0 (2 ∷ []) (178 ∷ []) (Some 0) (puts.Added 0))); earlier = take 1 bucket_1 }

call_2 : IsTrace shape 0 None (verbs.Update Prog 0 (2 ∷ []) (178 ∷ [])) (c2_0 ∷ c2_1 ∷ []) Done
unfolding shape lru_0 bucket_0 bucket_1 c2_0 c2_1 rotated active_visited active_rotated inactive_order inactive_visited inactive_rotated after_looks after_tries shrunk with_flushed own_after local_after global_after bucket_after opening_stack opening_spares opening_owner opening_free hash absorb start add_block mix finish finish_a finish_b finish_c mix_a mix_b mix_c bucket_number replayed
call_2 = inr (omega arith, record { got = (Some 0); taking = c2_0 ∷ []; rest = c2_1 ∷ []; turns_are = refl; takes = record { active = []; inactive = (visit 1 false) ∷ []; shrink = None; chased = record { probing = []; last = c2_0; turns_are = refl; last_is = refl; chase = tt } }; offers = record { put = (puts.Added 0); may_put = refl; at_bucket = c2_1; freeing = []; turns_are = refl; bucket_is = refl; frees = refl; reply_is = refl } })

c3_0 : TurnAt
c3_0 = record { turn = on_lock (Bucket 1) (parts.Bucket (Lookup Prog (1 ∷ []) (Some (1, 161 ∷ [])))); earlier = take 2 bucket_1 }

call_3 : IsTrace shape 0 None (verbs.Lookup Prog (1 ∷ [])) (c3_0 ∷ []) (Value (161 ∷ []))
unfolding shape lru_0 bucket_0 bucket_1 c3_0 rotated active_visited active_rotated inactive_order inactive_visited inactive_rotated after_looks after_tries shrunk with_flushed own_after local_after global_after bucket_after opening_stack opening_spares opening_owner opening_free hash absorb start add_block mix finish finish_a finish_b finish_c mix_a mix_b mix_c bucket_number replayed
call_3 = record { got = (Some (1, 161 ∷ [])); turns_are = refl; reply_is = refl }

c4_0 : TurnAt
c4_0 = record { turn = on_lock (Bucket 1) (parts.Bucket (Lookup Prog (2 ∷ []) (Some (0, 178 ∷ [])))); earlier = take 3 bucket_1 }

call_4 : IsTrace shape 0 None (verbs.Lookup Prog (2 ∷ [])) (c4_0 ∷ []) (Value (178 ∷ []))
unfolding shape lru_0 bucket_0 bucket_1 c4_0 rotated active_visited active_rotated inactive_order inactive_visited inactive_rotated after_looks after_tries shrunk with_flushed own_after local_after global_after bucket_after opening_stack opening_spares opening_owner opening_free hash absorb start add_block mix finish finish_a finish_b finish_c mix_a mix_b mix_c bucket_number replayed
call_4 = record { got = (Some (0, 178 ∷ [])); turns_are = refl; reply_is = refl }

c5_0 : TurnAt
c5_0 = record { turn = on_lock (Bucket 1) (parts.Bucket (Evict 1 Removed)); earlier = take 4 bucket_1 }

c5_1 : TurnAt
c5_1 = record { turn = on_lock (CpuLru 0) (parts.Own (own.Turn 3143674318 ([]) ((visit 1 true) ∷ (visit 0 true) ∷ []) (Some (record { target = 4; looks = []; forced = (attempt 1 Removed) ∷ [] })) (Some 1))); earlier = take 2 lru_0 }

c5_2 : TurnAt
c5_2 = record { turn = on_lock (Bucket 0) (parts.Bucket (Update Prog 0 (3 ∷ []) (195 ∷ []) (Some 1) (puts.Added 1))); earlier = take 0 bucket_0 }

call_5 : IsTrace shape 0 None (verbs.Update Prog 0 (3 ∷ []) (195 ∷ [])) (c5_0 ∷ c5_1 ∷ c5_2 ∷ []) Done
unfolding shape lru_0 bucket_0 bucket_1 c5_0 c5_1 c5_2 rotated active_visited active_rotated inactive_order inactive_visited inactive_rotated after_looks after_tries shrunk with_flushed own_after local_after global_after bucket_after opening_stack opening_spares opening_owner opening_free hash absorb start add_block mix finish finish_a finish_b finish_c mix_a mix_b mix_c bucket_number replayed
call_5 = inr (omega arith, record { got = (Some 1); taking = c5_0 ∷ c5_1 ∷ []; rest = c5_2 ∷ []; turns_are = refl; takes = record { active = []; inactive = (visit 1 true) ∷ (visit 0 true) ∷ []; shrink = (Some (record { target = 4; looks = []; forced = (attempt 1 Removed) ∷ [] })); chased = record { probing = c5_0 ∷ []; last = c5_1; turns_are = refl; last_is = refl; chase = (refl, tt) } }; offers = record { put = (puts.Added 1); may_put = refl; at_bucket = c5_2; freeing = []; turns_are = refl; bucket_is = refl; frees = refl; reply_is = refl } })

c6_0 : TurnAt
c6_0 = record { turn = on_lock (Bucket 1) (parts.Bucket (Lookup Prog (1 ∷ []) None)); earlier = take 5 bucket_1 }

call_6 : IsTrace shape 0 None (verbs.Lookup Prog (1 ∷ [])) (c6_0 ∷ []) (Refused Enoent)
unfolding shape lru_0 bucket_0 bucket_1 c6_0 rotated active_visited active_rotated inactive_order inactive_visited inactive_rotated after_looks after_tries shrunk with_flushed own_after local_after global_after bucket_after opening_stack opening_spares opening_owner opening_free hash absorb start add_block mix finish finish_a finish_b finish_c mix_a mix_b mix_c bucket_number replayed
call_6 = record { got = None; turns_are = refl; reply_is = refl }

c7_0 : TurnAt
c7_0 = record { turn = on_lock (Bucket 1) (parts.Bucket (Lookup Prog (2 ∷ []) (Some (0, 178 ∷ [])))); earlier = take 6 bucket_1 }

call_7 : IsTrace shape 0 None (verbs.Lookup Prog (2 ∷ [])) (c7_0 ∷ []) (Value (178 ∷ []))
unfolding shape lru_0 bucket_0 bucket_1 c7_0 rotated active_visited active_rotated inactive_order inactive_visited inactive_rotated after_looks after_tries shrunk with_flushed own_after local_after global_after bucket_after opening_stack opening_spares opening_owner opening_free hash absorb start add_block mix finish finish_a finish_b finish_c mix_a mix_b mix_c bucket_number replayed
call_7 = record { got = (Some (0, 178 ∷ [])); turns_are = refl; reply_is = refl }

c8_0 : TurnAt
c8_0 = record { turn = on_lock (Bucket 0) (parts.Bucket (Lookup Prog (3 ∷ []) (Some (1, 195 ∷ [])))); earlier = take 1 bucket_0 }

call_8 : IsTrace shape 0 None (verbs.Lookup Prog (3 ∷ [])) (c8_0 ∷ []) (Value (195 ∷ []))
unfolding shape lru_0 bucket_0 bucket_1 c8_0 rotated active_visited active_rotated inactive_order inactive_visited inactive_rotated after_looks after_tries shrunk with_flushed own_after local_after global_after bucket_after opening_stack opening_spares opening_owner opening_free hash absorb start add_block mix finish finish_a finish_b finish_c mix_a mix_b mix_c bucket_number replayed
call_8 = record { got = (Some (1, 195 ∷ [])); turns_are = refl; reply_is = refl }
