-- A serial run worked whole: the cursor.
use Rattle.std.proofs.Common.{◌≡◌, true, false, List, [], ◌∷◌, refl}
use Rattle.std.specs.Prelude.{None, Some}
use Rattle.map_types.specs.declared.attr.Shape.{Shape}
use Rattle.map_types.specs.declared.kind.MapKind.TheVariants.{LruHash}
use Rattle.map_types.specs.declared.call.Call.{Call}
use Rattle.map_types.specs.declared.call.Verb.TheVariants as verbs
use Rattle.map_types.specs.declared.kind.DomainId.TheVariants.{CpuLru, Bucket}
use Rattle.map_types.specs.declared.kind.Side.TheVariants.{Prog}
use Rattle.map_types.specs.declared.reply.Reply.TheVariants.{Done, Value}
use Rattle.key_hash.specs.Jhash.{hash, absorb, start, add_block, mix, finish, finish_a, finish_b, finish_c, mix_a, mix_b, mix_c}
use Rattle.key_hash.specs.Bucket.{bucket_number}
use Rattle.place_words.specs.declared.bucket_part.BucketPart.TheVariants.{Lookup, Update, Evict}
use Rattle.place_words.specs.declared.bucket_part.Put.TheVariants as puts
use Rattle.place_words.specs.declared.bucket_part.Seen.TheVariants.{Removed}
use Rattle.place_words.specs.declared.history.Entry.{Entry}
use Rattle.place_words.specs.declared.history.Part.TheVariants as parts
use Rattle.place_words.specs.declared.list_part.OwnPart.TheVariants as own
use Rattle.place_words.specs.Rotation.{rotated, active_visited, active_rotated, inactive_order, inactive_visited, inactive_rotated}
use Rattle.place_words.specs.Shrinking.{after_looks, after_tries, shrunk}
use Rattle.place_words.specs.Openings.{opening_stack, opening_spares, opening_owner, opening_free}
use Rattle.place_words.specs.Buckets.{bucket_after}
use Rattle.place_words.specs.Sets.{own_after}
use Rattle.place_words.specs.Locals.{local_after}
use Rattle.place_words.specs.Globals.{with_flushed, global_after}
use Rattle.place_words.specs.Histories.{replayed}
use Rattle.map_types.specs.ElementLists.{put}
use Rattle.place_words.specs.Choices.{own_turn, shrink_of, global_turn}
use Rattle.place_words.specs.Logs.{State, does, key_does, taken_own, refilled, acquired, freeing, run, answers, finals_of, new_state}
use Rattle.place_words.proofs.Worked.{entry, visit, look}

shape : Shape
shape = record {
  kind = LruHash;
  cpus = 1;
  capacity = 6;
  elements = 6;
  buckets = 8;
  key_size = 1;
  value_size = 1;
  seed = 0;
  common = false;
}

calls : List Call
calls =
    (record { cpu = 0; verb = verbs.Update Prog 0 (1 ∷ []) (17 ∷ []) })
    ∷ (record { cpu = 0; verb = verbs.Update Prog 0 (10 ∷ []) (18 ∷ []) })
    ∷ (record { cpu = 0; verb = verbs.Update Prog 0 (11 ∷ []) (19 ∷ []) })
    ∷ (record { cpu = 0; verb = verbs.Update Prog 0 (12 ∷ []) (20 ∷ []) })
    ∷ (record { cpu = 0; verb = verbs.Update Prog 0 (13 ∷ []) (21 ∷ []) })
    ∷ (record { cpu = 0; verb = verbs.Update Prog 0 (2 ∷ []) (22 ∷ []) })
    ∷ (record { cpu = 0; verb = verbs.Lookup Prog (2 ∷ []) })
    ∷ (record { cpu = 0; verb = verbs.Lookup Prog (1 ∷ []) })
    ∷ (record { cpu = 0; verb = verbs.Update Prog 0 (3 ∷ []) (23 ∷ []) })
    ∷ []

end : State
end = run shape 1 calls (new_state shape)

replies_are : answers shape 1 calls (new_state shape) ≡ Done ∷ Done ∷ Done ∷ Done ∷ Done ∷ Done ∷ (Value (22 ∷ [])) ∷ (Value (17 ∷ [])) ∷ Done ∷ []
unfolding finals_of put does key_does own_turn shrink_of global_turn taken_own refilled acquired freeing replayed rotated active_visited active_rotated inactive_order inactive_visited inactive_rotated after_looks after_tries shrunk with_flushed own_after local_after global_after bucket_after opening_stack opening_spares opening_owner opening_free hash absorb start add_block mix finish finish_a finish_b finish_c mix_a mix_b mix_c bucket_number shape calls
replies_are = refl

lru_0 : List Entry
lru_0 =
    entry 0 0 1 (parts.Own (own.Turn 82610235 ([]) ([]) None (Some 5)))
    ∷ entry 2 0 2 (parts.Own (own.Turn 116015543 ([]) ((visit 5 false) ∷ []) None (Some 4)))
    ∷ entry 4 0 3 (parts.Own (own.Turn 3116429366 ([]) ((visit 5 false) ∷ (visit 4 false) ∷ []) None (Some 3)))
    ∷ entry 6 0 4 (parts.Own (own.Turn 3978532671 ([]) ((visit 5 false) ∷ (visit 4 false) ∷ (visit 3 false) ∷ []) None (Some 2)))
    ∷ entry 8 0 5 (parts.Own (own.Turn 1429274276 ([]) ((visit 5 false) ∷ (visit 4 false) ∷ (visit 3 false) ∷ (visit 2 false) ∷ []) None (Some 1)))
    ∷ entry 10 0 6 (parts.Own (own.Turn 3750671035 ([]) ((visit 5 false) ∷ (visit 4 false) ∷ (visit 3 false) ∷ (visit 2 false) ∷ []) None (Some 0)))
    ∷ entry 18 0 9 (parts.Own (own.Turn 3143674318 ([]) ((visit 1 false) ∷ (visit 0 true) ∷ (visit 5 true) ∷ (visit 4 false) ∷ []) (Some (record { target = 4; looks = (look 4 false (Some Removed)) ∷ (look 3 false (Some Removed)) ∷ (look 2 false (Some Removed)) ∷ (look 1 false (Some Removed)) ∷ []; forced = [] })) (Some 1)))
    ∷ []

lru_0_is : end.logs (CpuLru 0) ≡ lru_0
unfolding finals_of put does key_does own_turn shrink_of global_turn taken_own refilled acquired freeing replayed rotated active_visited active_rotated inactive_order inactive_visited inactive_rotated after_looks after_tries shrunk with_flushed own_after local_after global_after bucket_after opening_stack opening_spares opening_owner opening_free hash absorb start add_block mix finish finish_a finish_b finish_c mix_a mix_b mix_c bucket_number shape calls end lru_0
lru_0_is = refl

bucket_3 : List Entry
bucket_3 =
    entry 1 0 1 (parts.Bucket (Update Prog 0 (1 ∷ []) (17 ∷ []) (Some 5) (puts.Added 5)))
    ∷ entry 11 0 6 (parts.Bucket (Update Prog 0 (2 ∷ []) (22 ∷ []) (Some 0) (puts.Added 0)))
    ∷ entry 12 0 7 (parts.Bucket (Lookup Prog (2 ∷ []) (Some (0, 22 ∷ []))))
    ∷ entry 13 0 8 (parts.Bucket (Lookup Prog (1 ∷ []) (Some (5, 17 ∷ []))))
    ∷ []

bucket_3_is : end.logs (Bucket 3) ≡ bucket_3
unfolding finals_of put does key_does own_turn shrink_of global_turn taken_own refilled acquired freeing replayed rotated active_visited active_rotated inactive_order inactive_visited inactive_rotated after_looks after_tries shrunk with_flushed own_after local_after global_after bucket_after opening_stack opening_spares opening_owner opening_free hash absorb start add_block mix finish finish_a finish_b finish_c mix_a mix_b mix_c bucket_number shape calls end bucket_3
bucket_3_is = refl

bucket_4 : List Entry
bucket_4 =
    entry 9 0 5 (parts.Bucket (Update Prog 0 (13 ∷ []) (21 ∷ []) (Some 1) (puts.Added 1)))
    ∷ entry 17 0 9 (parts.Bucket (Evict 1 Removed))
    ∷ []

bucket_4_is : end.logs (Bucket 4) ≡ bucket_4
unfolding finals_of put does key_does own_turn shrink_of global_turn taken_own refilled acquired freeing replayed rotated active_visited active_rotated inactive_order inactive_visited inactive_rotated after_looks after_tries shrunk with_flushed own_after local_after global_after bucket_after opening_stack opening_spares opening_owner opening_free hash absorb start add_block mix finish finish_a finish_b finish_c mix_a mix_b mix_c bucket_number shape calls end bucket_4
bucket_4_is = refl

bucket_6 : List Entry
bucket_6 =
    entry 5 0 3 (parts.Bucket (Update Prog 0 (11 ∷ []) (19 ∷ []) (Some 3) (puts.Added 3)))
    ∷ entry 15 0 9 (parts.Bucket (Evict 3 Removed))
    ∷ entry 19 0 9 (parts.Bucket (Update Prog 0 (3 ∷ []) (23 ∷ []) (Some 1) (puts.Added 1)))
    ∷ []

bucket_6_is : end.logs (Bucket 6) ≡ bucket_6
unfolding finals_of put does key_does own_turn shrink_of global_turn taken_own refilled acquired freeing replayed rotated active_visited active_rotated inactive_order inactive_visited inactive_rotated after_looks after_tries shrunk with_flushed own_after local_after global_after bucket_after opening_stack opening_spares opening_owner opening_free hash absorb start add_block mix finish finish_a finish_b finish_c mix_a mix_b mix_c bucket_number shape calls end bucket_6
bucket_6_is = refl

bucket_7 : List Entry
bucket_7 =
    entry 3 0 2 (parts.Bucket (Update Prog 0 (10 ∷ []) (18 ∷ []) (Some 4) (puts.Added 4)))
    ∷ entry 7 0 4 (parts.Bucket (Update Prog 0 (12 ∷ []) (20 ∷ []) (Some 2) (puts.Added 2)))
    ∷ entry 14 0 9 (parts.Bucket (Evict 4 Removed))
    ∷ entry 16 0 9 (parts.Bucket (Evict 2 Removed))
    ∷ []

bucket_7_is : end.logs (Bucket 7) ≡ bucket_7
unfolding finals_of put does key_does own_turn shrink_of global_turn taken_own refilled acquired freeing replayed rotated active_visited active_rotated inactive_order inactive_visited inactive_rotated after_looks after_tries shrunk with_flushed own_after local_after global_after bucket_after opening_stack opening_spares opening_owner opening_free hash absorb start add_block mix finish finish_a finish_b finish_c mix_a mix_b mix_c bucket_number shape calls end bucket_7
bucket_7_is = refl

finals_are : finals_of shape end ≡ record {
  buckets = ([]) ∷ ([]) ∷ ([]) ∷ (((record { element = 0; key = 2 ∷ []; values = (22 ∷ []) ∷ [] }) ∷ (record { element = 5; key = 1 ∷ []; values = (17 ∷ []) ∷ [] }) ∷ [])) ∷ ([]) ∷ ([]) ∷ (((record { element = 1; key = 3 ∷ []; values = (23 ∷ []) ∷ [] }) ∷ [])) ∷ ([]) ∷ [];
  freelists = [];
  spares = [];
  sets = ((record { active = 5 ∷ 0 ∷ []; inactive = 1 ∷ []; free = 2 ∷ 3 ∷ 4 ∷ []; cursor = None })) ∷ [];
  locals = [];
  marked = [];
}
unfolding finals_of put does key_does own_turn shrink_of global_turn taken_own refilled acquired freeing replayed rotated active_visited active_rotated inactive_order inactive_visited inactive_rotated after_looks after_tries shrunk with_flushed own_after local_after global_after bucket_after opening_stack opening_spares opening_owner opening_free hash absorb start add_block mix finish finish_a finish_b finish_c mix_a mix_b mix_c bucket_number shape calls end
finals_are = refl
