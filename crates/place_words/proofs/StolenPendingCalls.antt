-- The traces of the calls of a worked history.
use Rattle.std.proofs.Common.{inr, take, false, [], ◌∷◌, refl, arith}
use Rattle.std.specs.Prelude.{None, Some}
use Rattle.map_types.specs.declared.kind.DomainId.TheVariants.{Local, Global, Bucket}
use Rattle.map_types.specs.declared.call.Verb.TheVariants as verbs
use Rattle.map_types.specs.declared.refusal.Errno.TheVariants.{Enoent}
use Rattle.map_types.specs.declared.reply.Reply.TheVariants.{Refused, Done, Value}
use Rattle.key_hash.specs.Jhash.{hash, absorb, start, add_block, mix, finish, finish_a, finish_b, finish_c, mix_a, mix_b, mix_c}
use Rattle.key_hash.specs.Bucket.{bucket_number}
use Rattle.place_words.specs.Turns.{TurnAt, on_lock}
use Rattle.place_words.specs.Traces.{IsTrace}
use Rattle.map_types.specs.declared.kind.Side.TheVariants.{Prog}
use Rattle.place_words.specs.declared.bucket_part.BucketPart.TheVariants.{Lookup, Update, Evict}
use Rattle.place_words.specs.declared.bucket_part.Put.TheVariants as puts
use Rattle.place_words.specs.declared.bucket_part.Seen.TheVariants.{Removed}
use Rattle.place_words.specs.declared.history.Part.TheVariants as parts
use Rattle.place_words.specs.declared.list_part.GlobalPart.TheVariants as global
use Rattle.place_words.specs.declared.list_part.LocalPart.TheVariants as local
use Rattle.place_words.specs.declared.list_part.Stolen.TheVariants.{Pending, Nothing}
use Rattle.place_words.specs.Rotation.{rotated, active_visited, active_rotated, inactive_order, inactive_visited, inactive_rotated}
use Rattle.place_words.specs.Shrinking.{after_looks, after_tries, shrunk}
use Rattle.place_words.specs.Openings.{opening_stack, opening_spares, opening_owner, opening_free}
use Rattle.place_words.specs.Buckets.{bucket_after}
use Rattle.place_words.specs.Sets.{own_after}
use Rattle.place_words.specs.Locals.{local_after}
use Rattle.place_words.specs.Globals.{with_flushed, global_after}
use Rattle.place_words.specs.Histories.{replayed}
use Rattle.place_words.proofs.Worked.{look}
use Rattle.place_words.proofs.StolenPending.{shape, local_0, local_1, global_lists, bucket_0}

c1_0 : TurnAt
c1_0 = record { turn = on_lock Global (parts.Global (global.Turn ([]) ([]) ([]) (0 ∷ []) (Some (record { target = 127; looks = []; forced = [] })))); earlier = take 0 global_lists }

c1_1 : TurnAt
c1_1 = record { turn = on_lock (Local 0) (parts.Local (local.Refill 82610235 ([]) (0 ∷ []) (Some 0))); earlier = take 0 local_0 }

c1_2 : TurnAt
c1_2 = record { turn = on_lock (Bucket 0) (parts.Bucket (Update Prog 0 (1 ∷ []) (161 ∷ []) (Some 0) (puts.Added 0))); earlier = take 0 bucket_0 }

call_1 : IsTrace shape 0 None (verbs.Update Prog 0 (1 ∷ []) (161 ∷ [])) (c1_0 ∷ c1_1 ∷ c1_2 ∷ []) Done
unfolding shape local_0 local_1 global_lists bucket_0 c1_0 c1_1 c1_2 rotated active_visited active_rotated inactive_order inactive_visited inactive_rotated after_looks after_tries shrunk with_flushed own_after local_after global_after bucket_after opening_stack opening_spares opening_owner opening_free hash absorb start add_block mix finish finish_a finish_b finish_c mix_a mix_b mix_c bucket_number replayed
call_1 = inr (omega arith, record { got = (Some 0); taking = c1_0 ∷ c1_1 ∷ []; rest = c1_2 ∷ []; turns_are = refl; takes = inr (record { lists = record { free = []; pending = []; steal = 0 }; gave = (Some 0); refilling = c1_0 ∷ c1_1 ∷ []; stealing = []; turns_are = refl; refills = record { flushed = []; active = []; inactive = []; free = 0 ∷ []; shrink = (Some (record { target = 127; looks = []; forced = [] })); inner = c1_0 ∷ []; last = c1_1; turns_are = refl; chased = record { probing = []; last = c1_0; turns_are = refl; last_is = refl; chase = tt }; last_is = refl; found_there = refl; with_hashes = refl }; steals = (refl, refl) }); offers = record { put = (puts.Added 0); may_put = refl; at_bucket = c1_2; freeing = []; turns_are = refl; bucket_is = refl; frees = refl; reply_is = refl } })

c2_0 : TurnAt
c2_0 = record { turn = on_lock Global (parts.Global (global.Turn ([]) ([]) ([]) ([]) (Some (record { target = 128; looks = []; forced = [] })))); earlier = take 1 global_lists }

c2_1 : TurnAt
c2_1 = record { turn = on_lock (Local 1) (parts.Local (local.Refill 3750671035 ([]) ([]) None)); earlier = take 0 local_1 }

c2_2 : TurnAt
c2_2 = record { turn = on_lock (Local 1) (parts.Local (local.Steal Nothing ([]) ([]))); earlier = take 1 local_1 }

c2_3 : TurnAt
c2_3 = record { turn = on_lock (Bucket 0) (parts.Bucket (Evict 0 Removed)); earlier = take 1 bucket_0 }

c2_4 : TurnAt
c2_4 = record { turn = on_lock (Local 0) (parts.Local (local.Steal (Pending 0) ((look 0 false (Some Removed)) ∷ []) ([]))); earlier = take 1 local_0 }

c2_5 : TurnAt
c2_5 = record { turn = on_lock (Local 1) (parts.Local (local.Add 3750671035 0 1)); earlier = take 2 local_1 }

c2_6 : TurnAt
c2_6 = record { turn = on_lock (Bucket 0) (parts.Bucket (Update Prog 0 (2 ∷ []) (178 ∷ []) (Some 0) (puts.Added 0))); earlier = take 2 bucket_0 }

call_2 : IsTrace shape 1 None (verbs.Update Prog 0 (2 ∷ []) (178 ∷ [])) (c2_0 ∷ c2_1 ∷ c2_2 ∷ c2_3 ∷ c2_4 ∷ c2_5 ∷ c2_6 ∷ []) Done
unfolding shape local_0 local_1 global_lists bucket_0 c2_0 c2_1 c2_2 c2_3 c2_4 c2_5 c2_6 rotated active_visited active_rotated inactive_order inactive_visited inactive_rotated after_looks after_tries shrunk with_flushed own_after local_after global_after bucket_after opening_stack opening_spares opening_owner opening_free hash absorb start add_block mix finish finish_a finish_b finish_c mix_a mix_b mix_c bucket_number replayed
call_2 = inr (omega arith, record { got = (Some 0); taking = c2_0 ∷ c2_1 ∷ c2_2 ∷ c2_3 ∷ c2_4 ∷ c2_5 ∷ []; rest = c2_6 ∷ []; turns_are = refl; takes = inr (record { lists = record { free = []; pending = []; steal = 1 }; gave = None; refilling = c2_0 ∷ c2_1 ∷ []; stealing = c2_2 ∷ c2_3 ∷ c2_4 ∷ c2_5 ∷ []; turns_are = refl; refills = record { flushed = []; active = []; inactive = []; free = []; shrink = (Some (record { target = 128; looks = []; forced = [] })); inner = c2_0 ∷ []; last = c2_1; turns_are = refl; chased = record { probing = []; last = c2_0; turns_are = refl; last_is = refl; chase = tt }; last_is = refl; found_there = refl; with_hashes = refl }; steals = (c2_2 ∷ [], c2_3 ∷ c2_4 ∷ c2_5 ∷ [], Nothing, [], [], refl, record { probing = []; last = c2_2; turns_are = refl; last_is = refl; chase = tt }, (c2_3 ∷ c2_4 ∷ [], c2_5 ∷ [], (Pending 0), (look 0 false (Some Removed)) ∷ [], [], refl, record { probing = c2_3 ∷ []; last = c2_4; turns_are = refl; last_is = refl; chase = (refl, tt) }, (refl, refl))) }); offers = record { put = (puts.Added 0); may_put = refl; at_bucket = c2_6; freeing = []; turns_are = refl; bucket_is = refl; frees = refl; reply_is = refl } })

c3_0 : TurnAt
c3_0 = record { turn = on_lock (Bucket 0) (parts.Bucket (Lookup Prog (1 ∷ []) None)); earlier = take 3 bucket_0 }

call_3 : IsTrace shape 0 None (verbs.Lookup Prog (1 ∷ [])) (c3_0 ∷ []) (Refused Enoent)
unfolding shape local_0 local_1 global_lists bucket_0 c3_0 rotated active_visited active_rotated inactive_order inactive_visited inactive_rotated after_looks after_tries shrunk with_flushed own_after local_after global_after bucket_after opening_stack opening_spares opening_owner opening_free hash absorb start add_block mix finish finish_a finish_b finish_c mix_a mix_b mix_c bucket_number replayed
call_3 = record { got = None; turns_are = refl; reply_is = refl }

c4_0 : TurnAt
c4_0 = record { turn = on_lock (Bucket 0) (parts.Bucket (Lookup Prog (2 ∷ []) (Some (0, 178 ∷ [])))); earlier = take 4 bucket_0 }

call_4 : IsTrace shape 0 None (verbs.Lookup Prog (2 ∷ [])) (c4_0 ∷ []) (Value (178 ∷ []))
unfolding shape local_0 local_1 global_lists bucket_0 c4_0 rotated active_visited active_rotated inactive_order inactive_visited inactive_rotated after_looks after_tries shrunk with_flushed own_after local_after global_after bucket_after opening_stack opening_spares opening_owner opening_free hash absorb start add_block mix finish finish_a finish_b finish_c mix_a mix_b mix_c bucket_number replayed
call_4 = record { got = (Some (0, 178 ∷ [])); turns_are = refl; reply_is = refl }
