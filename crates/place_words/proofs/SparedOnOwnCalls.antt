-- The traces of the calls of a worked history.
use Rattle.std.proofs.Common.{inr, take, true, false, [], ◌∷◌, refl, arith}
use Rattle.std.specs.Prelude.{None, Some}
use Rattle.map_types.specs.declared.kind.DomainId.TheVariants.{CpuLru, Bucket}
use Rattle.map_types.specs.declared.call.Verb.TheVariants as verbs
use Rattle.map_types.specs.declared.refusal.Errno.TheVariants.{Enoent}
use Rattle.map_types.specs.declared.reply.Reply.TheVariants.{Refused, Done, Value}
use Rattle.key_hash.specs.Jhash.{hash, absorb, start, add_block, mix, finish, finish_a, finish_b, finish_c, mix_a, mix_b, mix_c}
use Rattle.key_hash.specs.Bucket.{bucket_number}
use Rattle.place_words.specs.Turns.{TurnAt, on_lock}
use Rattle.place_words.specs.Traces.{IsTrace}
use Rattle.map_types.specs.declared.kind.Side.TheVariants.{Prog, Sys}
use Rattle.place_words.specs.declared.bucket_part.BucketPart.TheVariants.{Lookup, Update, Evict}
use Rattle.place_words.specs.declared.bucket_part.Put.TheVariants as puts
use Rattle.place_words.specs.declared.bucket_part.Seen.TheVariants.{Removed}
use Rattle.place_words.specs.declared.history.Part.TheVariants as parts
use Rattle.place_words.specs.declared.list_part.OwnPart.TheVariants as own
use Rattle.place_words.specs.Rotation.{rotated, active_visited, active_rotated, inactive_order, inactive_visited, inactive_rotated}
use Rattle.place_words.specs.Shrinking.{after_looks, after_tries, shrunk}
use Rattle.place_words.specs.Openings.{opening_stack, opening_spares, opening_owner, opening_free}
use Rattle.place_words.specs.Buckets.{bucket_after}
use Rattle.place_words.specs.Sets.{own_after}
use Rattle.place_words.specs.Locals.{local_after}
use Rattle.place_words.specs.Globals.{with_flushed, global_after}
use Rattle.place_words.specs.Histories.{replayed}
use Rattle.place_words.proofs.Worked.{visit, look}
use Rattle.place_words.proofs.SparedOnOwn.{shape, lru_0, bucket_2, bucket_3}

c1_0 : TurnAt
c1_0 = record { turn = on_lock (CpuLru 0) (parts.Own (own.Turn 82610235 ([]) ([]) None (Some 3))); earlier = take 0 lru_0 }

c1_1 : TurnAt
c1_1 = record { turn = on_lock (Bucket 3) (parts.Bucket (Update Prog 0 (1 ∷ []) (161 ∷ []) (Some 3) (puts.Added 3))); earlier = take 0 bucket_3 }

call_1 : IsTrace shape 0 None (verbs.Update Prog 0 (1 ∷ []) (161 ∷ [])) (c1_0 ∷ c1_1 ∷ []) Done
unfolding shape lru_0 bucket_2 bucket_3 c1_0 c1_1 rotated active_visited active_rotated inactive_order inactive_visited inactive_rotated after_looks after_tries shrunk with_flushed own_after local_after global_after bucket_after opening_stack opening_spares opening_owner opening_free hash absorb start add_block mix finish finish_a finish_b finish_c mix_a mix_b mix_c bucket_number replayed
call_1 = inr (omega arith, record { got = (Some 3); taking = c1_0 ∷ []; rest = c1_1 ∷ []; turns_are = refl; takes = record { active = []; inactive = []; shrink = None; chased = record { probing = []; last = c1_0; turns_are = refl; last_is = refl; chase = tt } }; offers = record { put = (puts.Added 3); may_put = refl; at_bucket = c1_1; freeing = []; turns_are = refl; bucket_is = refl; frees = refl; reply_is = refl } })

c2_0 : TurnAt
c2_0 = record { turn = on_lock (CpuLru 0) (parts.Own (own.Turn 3750671035 ([]) ((visit 3 false) ∷ []) None (Some 2))); earlier = take 1 lru_0 }

c2_1 : TurnAt
c2_1 = record { turn = on_lock (Bucket 3) (parts.Bucket (Update Prog 0 (2 ∷ []) (162 ∷ []) (Some 2) (puts.Added 2))); earlier = take 1 bucket_3 }

call_2 : IsTrace shape 0 None (verbs.Update Prog 0 (2 ∷ []) (162 ∷ [])) (c2_0 ∷ c2_1 ∷ []) Done
unfolding shape lru_0 bucket_2 bucket_3 c2_0 c2_1 rotated active_visited active_rotated inactive_order inactive_visited inactive_rotated after_looks after_tries shrunk with_flushed own_after local_after global_after bucket_after opening_stack opening_spares opening_owner opening_free hash absorb start add_block mix finish finish_a finish_b finish_c mix_a mix_b mix_c bucket_number replayed
call_2 = inr (omega arith, record { got = (Some 2); taking = c2_0 ∷ []; rest = c2_1 ∷ []; turns_are = refl; takes = record { active = []; inactive = (visit 3 false) ∷ []; shrink = None; chased = record { probing = []; last = c2_0; turns_are = refl; last_is = refl; chase = tt } }; offers = record { put = (puts.Added 2); may_put = refl; at_bucket = c2_1; freeing = []; turns_are = refl; bucket_is = refl; frees = refl; reply_is = refl } })

c3_0 : TurnAt
c3_0 = record { turn = on_lock (CpuLru 0) (parts.Own (own.Turn 3143674318 ([]) ((visit 3 false) ∷ (visit 2 false) ∷ []) None (Some 1))); earlier = take 2 lru_0 }

c3_1 : TurnAt
c3_1 = record { turn = on_lock (Bucket 2) (parts.Bucket (Update Prog 0 (3 ∷ []) (163 ∷ []) (Some 1) (puts.Added 1))); earlier = take 0 bucket_2 }

call_3 : IsTrace shape 0 None (verbs.Update Prog 0 (3 ∷ []) (163 ∷ [])) (c3_0 ∷ c3_1 ∷ []) Done
unfolding shape lru_0 bucket_2 bucket_3 c3_0 c3_1 rotated active_visited active_rotated inactive_order inactive_visited inactive_rotated after_looks after_tries shrunk with_flushed own_after local_after global_after bucket_after opening_stack opening_spares opening_owner opening_free hash absorb start add_block mix finish finish_a finish_b finish_c mix_a mix_b mix_c bucket_number replayed
call_3 = inr (omega arith, record { got = (Some 1); taking = c3_0 ∷ []; rest = c3_1 ∷ []; turns_are = refl; takes = record { active = []; inactive = (visit 3 false) ∷ (visit 2 false) ∷ []; shrink = None; chased = record { probing = []; last = c3_0; turns_are = refl; last_is = refl; chase = tt } }; offers = record { put = (puts.Added 1); may_put = refl; at_bucket = c3_1; freeing = []; turns_are = refl; bucket_is = refl; frees = refl; reply_is = refl } })

c4_0 : TurnAt
c4_0 = record { turn = on_lock (CpuLru 0) (parts.Own (own.Turn 494459842 ([]) ((visit 3 false) ∷ (visit 2 false) ∷ (visit 1 false) ∷ []) None (Some 0))); earlier = take 3 lru_0 }

c4_1 : TurnAt
c4_1 = record { turn = on_lock (Bucket 2) (parts.Bucket (Update Prog 0 (4 ∷ []) (164 ∷ []) (Some 0) (puts.Added 0))); earlier = take 1 bucket_2 }

call_4 : IsTrace shape 0 None (verbs.Update Prog 0 (4 ∷ []) (164 ∷ [])) (c4_0 ∷ c4_1 ∷ []) Done
unfolding shape lru_0 bucket_2 bucket_3 c4_0 c4_1 rotated active_visited active_rotated inactive_order inactive_visited inactive_rotated after_looks after_tries shrunk with_flushed own_after local_after global_after bucket_after opening_stack opening_spares opening_owner opening_free hash absorb start add_block mix finish finish_a finish_b finish_c mix_a mix_b mix_c bucket_number replayed
call_4 = inr (omega arith, record { got = (Some 0); taking = c4_0 ∷ []; rest = c4_1 ∷ []; turns_are = refl; takes = record { active = []; inactive = (visit 3 false) ∷ (visit 2 false) ∷ (visit 1 false) ∷ []; shrink = None; chased = record { probing = []; last = c4_0; turns_are = refl; last_is = refl; chase = tt } }; offers = record { put = (puts.Added 0); may_put = refl; at_bucket = c4_1; freeing = []; turns_are = refl; bucket_is = refl; frees = refl; reply_is = refl } })

c5_0 : TurnAt
c5_0 = record { turn = on_lock (Bucket 3) (parts.Bucket (Lookup Prog (1 ∷ []) (Some (3, 161 ∷ [])))); earlier = take 2 bucket_3 }

call_5 : IsTrace shape 0 None (verbs.Lookup Prog (1 ∷ [])) (c5_0 ∷ []) (Value (161 ∷ []))
unfolding shape lru_0 bucket_2 bucket_3 c5_0 rotated active_visited active_rotated inactive_order inactive_visited inactive_rotated after_looks after_tries shrunk with_flushed own_after local_after global_after bucket_after opening_stack opening_spares opening_owner opening_free hash absorb start add_block mix finish finish_a finish_b finish_c mix_a mix_b mix_c bucket_number replayed
call_5 = record { got = (Some (3, 161 ∷ [])); turns_are = refl; reply_is = refl }

c6_0 : TurnAt
c6_0 = record { turn = on_lock (Bucket 3) (parts.Bucket (Lookup Sys (2 ∷ []) (Some (2, 162 ∷ [])))); earlier = take 3 bucket_3 }

call_6 : IsTrace shape 0 None (verbs.Lookup Sys (2 ∷ [])) (c6_0 ∷ []) (Value (162 ∷ []))
unfolding shape lru_0 bucket_2 bucket_3 c6_0 rotated active_visited active_rotated inactive_order inactive_visited inactive_rotated after_looks after_tries shrunk with_flushed own_after local_after global_after bucket_after opening_stack opening_spares opening_owner opening_free hash absorb start add_block mix finish finish_a finish_b finish_c mix_a mix_b mix_c bucket_number replayed
call_6 = record { got = (Some (2, 162 ∷ [])); turns_are = refl; reply_is = refl }

c7_0 : TurnAt
c7_0 = record { turn = on_lock (Bucket 3) (parts.Bucket (Evict 2 Removed)); earlier = take 4 bucket_3 }

c7_1 : TurnAt
c7_1 = record { turn = on_lock (Bucket 2) (parts.Bucket (Evict 1 Removed)); earlier = take 2 bucket_2 }

c7_2 : TurnAt
c7_2 = record { turn = on_lock (Bucket 2) (parts.Bucket (Evict 0 Removed)); earlier = take 3 bucket_2 }

c7_3 : TurnAt
c7_3 = record { turn = on_lock (CpuLru 0) (parts.Own (own.Turn 882461803 ([]) ((visit 3 true) ∷ (visit 2 false) ∷ (visit 1 false) ∷ (visit 0 false) ∷ []) (Some (record { target = 4; looks = (look 2 false (Some Removed)) ∷ (look 1 false (Some Removed)) ∷ (look 0 false (Some Removed)) ∷ []; forced = [] })) (Some 0))); earlier = take 4 lru_0 }

c7_4 : TurnAt
c7_4 = record { turn = on_lock (Bucket 3) (parts.Bucket (Update Prog 0 (5 ∷ []) (165 ∷ []) (Some 0) (puts.Added 0))); earlier = take 5 bucket_3 }

call_7 : IsTrace shape 0 None (verbs.Update Prog 0 (5 ∷ []) (165 ∷ [])) (c7_0 ∷ c7_1 ∷ c7_2 ∷ c7_3 ∷ c7_4 ∷ []) Done
unfolding shape lru_0 bucket_2 bucket_3 c7_0 c7_1 c7_2 c7_3 c7_4 rotated active_visited active_rotated inactive_order inactive_visited inactive_rotated after_looks after_tries shrunk with_flushed own_after local_after global_after bucket_after opening_stack opening_spares opening_owner opening_free hash absorb start add_block mix finish finish_a finish_b finish_c mix_a mix_b mix_c bucket_number replayed
call_7 = inr (omega arith, record { got = (Some 0); taking = c7_0 ∷ c7_1 ∷ c7_2 ∷ c7_3 ∷ []; rest = c7_4 ∷ []; turns_are = refl; takes = record { active = []; inactive = (visit 3 true) ∷ (visit 2 false) ∷ (visit 1 false) ∷ (visit 0 false) ∷ []; shrink = (Some (record { target = 4; looks = (look 2 false (Some Removed)) ∷ (look 1 false (Some Removed)) ∷ (look 0 false (Some Removed)) ∷ []; forced = [] })); chased = record { probing = c7_0 ∷ c7_1 ∷ c7_2 ∷ []; last = c7_3; turns_are = refl; last_is = refl; chase = (refl, (refl, (refl, tt))) } }; offers = record { put = (puts.Added 0); may_put = refl; at_bucket = c7_4; freeing = []; turns_are = refl; bucket_is = refl; frees = refl; reply_is = refl } })

c8_0 : TurnAt
c8_0 = record { turn = on_lock (Bucket 3) (parts.Bucket (Lookup Prog (1 ∷ []) (Some (3, 161 ∷ [])))); earlier = take 6 bucket_3 }

call_8 : IsTrace shape 0 None (verbs.Lookup Prog (1 ∷ [])) (c8_0 ∷ []) (Value (161 ∷ []))
unfolding shape lru_0 bucket_2 bucket_3 c8_0 rotated active_visited active_rotated inactive_order inactive_visited inactive_rotated after_looks after_tries shrunk with_flushed own_after local_after global_after bucket_after opening_stack opening_spares opening_owner opening_free hash absorb start add_block mix finish finish_a finish_b finish_c mix_a mix_b mix_c bucket_number replayed
call_8 = record { got = (Some (3, 161 ∷ [])); turns_are = refl; reply_is = refl }

c9_0 : TurnAt
c9_0 = record { turn = on_lock (Bucket 3) (parts.Bucket (Lookup Prog (2 ∷ []) None)); earlier = take 7 bucket_3 }

call_9 : IsTrace shape 0 None (verbs.Lookup Prog (2 ∷ [])) (c9_0 ∷ []) (Refused Enoent)
unfolding shape lru_0 bucket_2 bucket_3 c9_0 rotated active_visited active_rotated inactive_order inactive_visited inactive_rotated after_looks after_tries shrunk with_flushed own_after local_after global_after bucket_after opening_stack opening_spares opening_owner opening_free hash absorb start add_block mix finish finish_a finish_b finish_c mix_a mix_b mix_c bucket_number replayed
call_9 = record { got = None; turns_are = refl; reply_is = refl }

c10_0 : TurnAt
c10_0 = record { turn = on_lock (Bucket 2) (parts.Bucket (Lookup Prog (3 ∷ []) None)); earlier = take 4 bucket_2 }

call_10 : IsTrace shape 0 None (verbs.Lookup Prog (3 ∷ [])) (c10_0 ∷ []) (Refused Enoent)
unfolding shape lru_0 bucket_2 bucket_3 c10_0 rotated active_visited active_rotated inactive_order inactive_visited inactive_rotated after_looks after_tries shrunk with_flushed own_after local_after global_after bucket_after opening_stack opening_spares opening_owner opening_free hash absorb start add_block mix finish finish_a finish_b finish_c mix_a mix_b mix_c bucket_number replayed
call_10 = record { got = None; turns_are = refl; reply_is = refl }

c11_0 : TurnAt
c11_0 = record { turn = on_lock (Bucket 3) (parts.Bucket (Lookup Prog (5 ∷ []) (Some (0, 165 ∷ [])))); earlier = take 8 bucket_3 }

call_11 : IsTrace shape 0 None (verbs.Lookup Prog (5 ∷ [])) (c11_0 ∷ []) (Value (165 ∷ []))
unfolding shape lru_0 bucket_2 bucket_3 c11_0 rotated active_visited active_rotated inactive_order inactive_visited inactive_rotated after_looks after_tries shrunk with_flushed own_after local_after global_after bucket_after opening_stack opening_spares opening_owner opening_free hash absorb start add_block mix finish finish_a finish_b finish_c mix_a mix_b mix_c bucket_number replayed
call_11 = record { got = (Some (0, 165 ∷ [])); turns_are = refl; reply_is = refl }
