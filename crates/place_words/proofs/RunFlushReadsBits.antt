-- A serial run worked whole: a flush reads bits.
use Rattle.std.proofs.Common.{◌≡◌, true, List, [], ◌∷◌, refl}
use Rattle.std.specs.Prelude.{None}
use Rattle.map_types.specs.declared.attr.Shape.{Shape}
use Rattle.map_types.specs.declared.kind.MapKind.TheVariants.{LruHash}
use Rattle.map_types.specs.declared.call.Call.{Call}
use Rattle.map_types.specs.declared.call.Verb.TheVariants as verbs
use Rattle.map_types.specs.declared.kind.DomainId.TheVariants.{Local, Global, Bucket}
use Rattle.map_types.specs.declared.kind.Side.TheVariants.{Prog}
use Rattle.map_types.specs.declared.refusal.Errno.TheVariants.{Enoent}
use Rattle.map_types.specs.declared.reply.Reply.TheVariants.{Done, Value, Refused}
use Rattle.key_hash.specs.Jhash.{hash, absorb, start, add_block, mix, finish, finish_a, finish_b, finish_c, mix_a, mix_b, mix_c}
use Rattle.key_hash.specs.Bucket.{bucket_number}
use Rattle.place_words.specs.Rotation.{rotated, active_visited, active_rotated, inactive_order, inactive_visited, inactive_rotated}
use Rattle.place_words.specs.Shrinking.{after_looks, after_tries, shrunk}
use Rattle.place_words.specs.Openings.{opening_stack, opening_spares, opening_owner, opening_free}
use Rattle.place_words.specs.Buckets.{bucket_after}
use Rattle.place_words.specs.Sets.{own_after}
use Rattle.place_words.specs.Locals.{local_after}
use Rattle.place_words.specs.Globals.{with_flushed, global_after}
use Rattle.place_words.specs.Histories.{replayed}
use Rattle.map_types.specs.ElementLists.{put}
use Rattle.place_words.specs.Choices.{own_turn, shrink_of, global_turn}
use Rattle.place_words.specs.Logs.{State, does, key_does, taken_own, refilled, acquired, freeing, run, answers, finals_of, new_state}
use Rattle.place_words.proofs.FlushReadsBits.{local_0, bucket_0, bucket_1, global_lists}

shape : Shape
shape = record {
  kind = LruHash;
  cpus = 1;
  capacity = 2;
  elements = 2;
  buckets = 2;
  key_size = 1;
  value_size = 1;
  seed = 0;
  common = true;
}

calls : List Call
calls =
    (record { cpu = 0; verb = verbs.Update Prog 0 (1 ∷ []) (161 ∷ []) })
    ∷ (record { cpu = 0; verb = verbs.Update Prog 0 (2 ∷ []) (178 ∷ []) })
    ∷ (record { cpu = 0; verb = verbs.Lookup Prog (1 ∷ []) })
    ∷ (record { cpu = 0; verb = verbs.Update Prog 0 (3 ∷ []) (195 ∷ []) })
    ∷ (record { cpu = 0; verb = verbs.Lookup Prog (1 ∷ []) })
    ∷ (record { cpu = 0; verb = verbs.Lookup Prog (2 ∷ []) })
    ∷ (record { cpu = 0; verb = verbs.Lookup Prog (3 ∷ []) })
    ∷ []

end : State
end = run shape 1 calls (new_state shape)

replies_are : answers shape 1 calls (new_state shape) ≡ Done ∷ Done ∷ (Value (161 ∷ [])) ∷ Done ∷ (Value (161 ∷ [])) ∷ (Refused Enoent) ∷ (Value (195 ∷ [])) ∷ []
unfolding finals_of put does key_does own_turn shrink_of global_turn taken_own refilled acquired freeing replayed rotated active_visited active_rotated inactive_order inactive_visited inactive_rotated after_looks after_tries shrunk with_flushed own_after local_after global_after bucket_after opening_stack opening_spares opening_owner opening_free hash absorb start add_block mix finish finish_a finish_b finish_c mix_a mix_b mix_c bucket_number shape calls
replies_are = refl

local_0_is : end.logs (Local 0) ≡ local_0
unfolding finals_of put does key_does own_turn shrink_of global_turn taken_own refilled acquired freeing replayed rotated active_visited active_rotated inactive_order inactive_visited inactive_rotated after_looks after_tries shrunk with_flushed own_after local_after global_after bucket_after opening_stack opening_spares opening_owner opening_free hash absorb start add_block mix finish finish_a finish_b finish_c mix_a mix_b mix_c bucket_number shape calls end local_0
local_0_is = refl

global_lists_is : end.logs Global ≡ global_lists
unfolding finals_of put does key_does own_turn shrink_of global_turn taken_own refilled acquired freeing replayed rotated active_visited active_rotated inactive_order inactive_visited inactive_rotated after_looks after_tries shrunk with_flushed own_after local_after global_after bucket_after opening_stack opening_spares opening_owner opening_free hash absorb start add_block mix finish finish_a finish_b finish_c mix_a mix_b mix_c bucket_number shape calls end global_lists
global_lists_is = refl

bucket_0_is : end.logs (Bucket 0) ≡ bucket_0
unfolding finals_of put does key_does own_turn shrink_of global_turn taken_own refilled acquired freeing replayed rotated active_visited active_rotated inactive_order inactive_visited inactive_rotated after_looks after_tries shrunk with_flushed own_after local_after global_after bucket_after opening_stack opening_spares opening_owner opening_free hash absorb start add_block mix finish finish_a finish_b finish_c mix_a mix_b mix_c bucket_number shape calls end bucket_0
bucket_0_is = refl

bucket_1_is : end.logs (Bucket 1) ≡ bucket_1
unfolding finals_of put does key_does own_turn shrink_of global_turn taken_own refilled acquired freeing replayed rotated active_visited active_rotated inactive_order inactive_visited inactive_rotated after_looks after_tries shrunk with_flushed own_after local_after global_after bucket_after opening_stack opening_spares opening_owner opening_free hash absorb start add_block mix finish finish_a finish_b finish_c mix_a mix_b mix_c bucket_number shape calls end bucket_1
bucket_1_is = refl

finals_are : finals_of shape end ≡ record {
  buckets = (((record { element = 1; key = 3 ∷ []; values = (195 ∷ []) ∷ [] }) ∷ [])) ∷ (((record { element = 0; key = 1 ∷ []; values = (161 ∷ []) ∷ [] }) ∷ [])) ∷ [];
  freelists = [];
  spares = [];
  sets = ((record { active = 0 ∷ []; inactive = []; free = []; cursor = None })) ∷ [];
  locals = ((record { free = []; pending = 1 ∷ []; steal = 0 })) ∷ [];
  marked = 0 ∷ 1 ∷ [];
}
unfolding finals_of put does key_does own_turn shrink_of global_turn taken_own refilled acquired freeing replayed rotated active_visited active_rotated inactive_order inactive_visited inactive_rotated after_looks after_tries shrunk with_flushed own_after local_after global_after bucket_after opening_stack opening_spares opening_owner opening_free hash absorb start add_block mix finish finish_a finish_b finish_c mix_a mix_b mix_c bucket_number shape calls end
finals_are = refl
