-- A serial run worked whole: own set, a shrink that spares a set bit.
use Rattle.std.proofs.Common.{◌≡◌, false, List, [], ◌∷◌, refl}
use Rattle.std.specs.Prelude.{None}
use Rattle.map_types.specs.declared.attr.Shape.{Shape}
use Rattle.map_types.specs.declared.kind.MapKind.TheVariants.{LruHash}
use Rattle.map_types.specs.declared.call.Call.{Call}
use Rattle.map_types.specs.declared.call.Verb.TheVariants as verbs
use Rattle.map_types.specs.declared.kind.DomainId.TheVariants.{CpuLru, Bucket}
use Rattle.map_types.specs.declared.kind.Side.TheVariants.{Prog, Sys}
use Rattle.map_types.specs.declared.refusal.Errno.TheVariants.{Enoent}
use Rattle.map_types.specs.declared.reply.Reply.TheVariants.{Done, Value, Refused}
use Rattle.key_hash.specs.Jhash.{hash, absorb, start, add_block, mix, finish, finish_a, finish_b, finish_c, mix_a, mix_b, mix_c}
use Rattle.key_hash.specs.Bucket.{bucket_number}
use Rattle.place_words.specs.Rotation.{rotated, active_visited, active_rotated, inactive_order, inactive_visited, inactive_rotated}
use Rattle.place_words.specs.Shrinking.{after_looks, after_tries, shrunk}
use Rattle.place_words.specs.Openings.{opening_stack, opening_spares, opening_owner, opening_free}
use Rattle.place_words.specs.Buckets.{bucket_after}
use Rattle.place_words.specs.Sets.{own_after}
use Rattle.place_words.specs.Locals.{local_after}
use Rattle.place_words.specs.Globals.{with_flushed, global_after}
use Rattle.place_words.specs.Histories.{replayed}
use Rattle.map_types.specs.ElementLists.{put}
use Rattle.place_words.specs.Choices.{own_turn, shrink_of, global_turn}
use Rattle.place_words.specs.Logs.{State, does, key_does, taken_own, refilled, acquired, freeing, run, answers, finals_of, new_state}
use Rattle.place_words.proofs.SparedOnOwn.{lru_0, bucket_2, bucket_3}

shape : Shape
shape = record {
  kind = LruHash;
  cpus = 1;
  capacity = 4;
  elements = 4;
  buckets = 4;
  key_size = 1;
  value_size = 1;
  seed = 0;
  common = false;
}

calls : List Call
calls =
    (record { cpu = 0; verb = verbs.Update Prog 0 (1 ∷ []) (161 ∷ []) })
    ∷ (record { cpu = 0; verb = verbs.Update Prog 0 (2 ∷ []) (162 ∷ []) })
    ∷ (record { cpu = 0; verb = verbs.Update Prog 0 (3 ∷ []) (163 ∷ []) })
    ∷ (record { cpu = 0; verb = verbs.Update Prog 0 (4 ∷ []) (164 ∷ []) })
    ∷ (record { cpu = 0; verb = verbs.Lookup Prog (1 ∷ []) })
    ∷ (record { cpu = 0; verb = verbs.Lookup Sys (2 ∷ []) })
    ∷ (record { cpu = 0; verb = verbs.Update Prog 0 (5 ∷ []) (165 ∷ []) })
    ∷ (record { cpu = 0; verb = verbs.Lookup Prog (1 ∷ []) })
    ∷ (record { cpu = 0; verb = verbs.Lookup Prog (2 ∷ []) })
    ∷ (record { cpu = 0; verb = verbs.Lookup Prog (3 ∷ []) })
    ∷ (record { cpu = 0; verb = verbs.Lookup Prog (5 ∷ []) })
    ∷ []

end : State
end = run shape 1 calls (new_state shape)

replies_are : answers shape 1 calls (new_state shape) ≡ Done ∷ Done ∷ Done ∷ Done ∷ (Value (161 ∷ [])) ∷ (Value (162 ∷ [])) ∷ Done ∷ (Value (161 ∷ [])) ∷ (Refused Enoent) ∷ (Refused Enoent) ∷ (Value (165 ∷ [])) ∷ []
unfolding finals_of put does key_does own_turn shrink_of global_turn taken_own refilled acquired freeing replayed rotated active_visited active_rotated inactive_order inactive_visited inactive_rotated after_looks after_tries shrunk with_flushed own_after local_after global_after bucket_after opening_stack opening_spares opening_owner opening_free hash absorb start add_block mix finish finish_a finish_b finish_c mix_a mix_b mix_c bucket_number shape calls
replies_are = refl

lru_0_is : end.logs (CpuLru 0) ≡ lru_0
unfolding finals_of put does key_does own_turn shrink_of global_turn taken_own refilled acquired freeing replayed rotated active_visited active_rotated inactive_order inactive_visited inactive_rotated after_looks after_tries shrunk with_flushed own_after local_after global_after bucket_after opening_stack opening_spares opening_owner opening_free hash absorb start add_block mix finish finish_a finish_b finish_c mix_a mix_b mix_c bucket_number shape calls end lru_0
lru_0_is = refl

bucket_2_is : end.logs (Bucket 2) ≡ bucket_2
unfolding finals_of put does key_does own_turn shrink_of global_turn taken_own refilled acquired freeing replayed rotated active_visited active_rotated inactive_order inactive_visited inactive_rotated after_looks after_tries shrunk with_flushed own_after local_after global_after bucket_after opening_stack opening_spares opening_owner opening_free hash absorb start add_block mix finish finish_a finish_b finish_c mix_a mix_b mix_c bucket_number shape calls end bucket_2
bucket_2_is = refl

bucket_3_is : end.logs (Bucket 3) ≡ bucket_3
unfolding finals_of put does key_does own_turn shrink_of global_turn taken_own refilled acquired freeing replayed rotated active_visited active_rotated inactive_order inactive_visited inactive_rotated after_looks after_tries shrunk with_flushed own_after local_after global_after bucket_after opening_stack opening_spares opening_owner opening_free hash absorb start add_block mix finish finish_a finish_b finish_c mix_a mix_b mix_c bucket_number shape calls end bucket_3
bucket_3_is = refl

finals_are : finals_of shape end ≡ record {
  buckets = ([]) ∷ ([]) ∷ ([]) ∷ (((record { element = 0; key = 5 ∷ []; values = (165 ∷ []) ∷ [] }) ∷ (record { element = 3; key = 1 ∷ []; values = (161 ∷ []) ∷ [] }) ∷ [])) ∷ [];
  freelists = [];
  spares = [];
  sets = ((record { active = 3 ∷ []; inactive = 0 ∷ []; free = 1 ∷ 2 ∷ []; cursor = None })) ∷ [];
  locals = [];
  marked = 0 ∷ 3 ∷ [];
}
unfolding finals_of put does key_does own_turn shrink_of global_turn taken_own refilled acquired freeing replayed rotated active_visited active_rotated inactive_order inactive_visited inactive_rotated after_looks after_tries shrunk with_flushed own_after local_after global_after bucket_after opening_stack opening_spares opening_owner opening_free hash absorb start add_block mix finish finish_a finish_b finish_c mix_a mix_b mix_c bucket_number shape calls end
finals_are = refl
