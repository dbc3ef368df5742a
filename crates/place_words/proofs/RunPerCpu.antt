-- A serial run worked whole: values of each CPU.
use Rattle.std.proofs.Common.{◌≡◌, true, List, [], ◌∷◌, refl}
use Rattle.std.specs.Prelude.{None, Some}
use Rattle.map_types.specs.declared.attr.Shape.{Shape}
use Rattle.map_types.specs.declared.kind.MapKind.TheVariants.{LruPercpuHash}
use Rattle.map_types.specs.declared.call.Call.{Call}
use Rattle.map_types.specs.declared.call.Verb.TheVariants as verbs
use Rattle.map_types.specs.declared.kind.DomainId.TheVariants.{Local, Global, Bucket}
use Rattle.map_types.specs.declared.kind.Side.TheVariants.{Prog, Sys}
use Rattle.map_types.specs.declared.reply.Reply.TheVariants.{Done, Value}
use Rattle.key_hash.specs.Jhash.{hash, absorb, start, add_block, mix, finish, finish_a, finish_b, finish_c, mix_a, mix_b, mix_c}
use Rattle.key_hash.specs.Bucket.{bucket_number}
use Rattle.place_words.specs.declared.bucket_part.BucketPart.TheVariants.{Lookup, Update}
use Rattle.place_words.specs.declared.bucket_part.Put.TheVariants as puts
use Rattle.place_words.specs.declared.history.Entry.{Entry}
use Rattle.place_words.specs.declared.history.Part.TheVariants as parts
use Rattle.place_words.specs.declared.list_part.GlobalPart.TheVariants as global
use Rattle.place_words.specs.declared.list_part.LocalPart.TheVariants as local
use Rattle.place_words.specs.Rotation.{rotated, active_visited, active_rotated, inactive_order, inactive_visited, inactive_rotated}
use Rattle.place_words.specs.Shrinking.{after_looks, after_tries, shrunk}
use Rattle.place_words.specs.Openings.{opening_stack, opening_spares, opening_owner, opening_free}
use Rattle.place_words.specs.Buckets.{bucket_after}
use Rattle.place_words.specs.Sets.{own_after}
use Rattle.place_words.specs.Locals.{local_after}
use Rattle.place_words.specs.Globals.{with_flushed, global_after}
use Rattle.place_words.specs.Histories.{replayed}
use Rattle.map_types.specs.ElementLists.{put}
use Rattle.place_words.specs.Choices.{own_turn, shrink_of, global_turn}
use Rattle.place_words.specs.Logs.{State, does, key_does, taken_own, refilled, acquired, freeing, run, answers, finals_of, new_state}
use Rattle.place_words.proofs.Worked.{entry}

shape : Shape
shape = record {
  kind = LruPercpuHash;
  cpus = 1;
  capacity = 2;
  elements = 2;
  buckets = 2;
  key_size = 1;
  value_size = 1;
  seed = 0;
  common = true;
}

calls : List Call
calls =
    (record { cpu = 0; verb = verbs.Update Prog 0 (1 ∷ []) (161 ∷ []) })
    ∷ (record { cpu = 0; verb = verbs.Update Prog 0 (1 ∷ []) (162 ∷ []) })
    ∷ (record { cpu = 0; verb = verbs.Lookup Prog (1 ∷ []) })
    ∷ (record { cpu = 0; verb = verbs.Update Prog 2 (1 ∷ []) (163 ∷ []) })
    ∷ (record { cpu = 0; verb = verbs.Lookup Sys (1 ∷ []) })
    ∷ []

end : State
end = run shape 1 calls (new_state shape)

replies_are : answers shape 1 calls (new_state shape) ≡ Done ∷ Done ∷ (Value (162 ∷ [])) ∷ Done ∷ (Value (163 ∷ 0 ∷ 0 ∷ 0 ∷ 0 ∷ 0 ∷ 0 ∷ 0 ∷ [])) ∷ []
unfolding finals_of put does key_does own_turn shrink_of global_turn taken_own refilled acquired freeing replayed rotated active_visited active_rotated inactive_order inactive_visited inactive_rotated after_looks after_tries shrunk with_flushed own_after local_after global_after bucket_after opening_stack opening_spares opening_owner opening_free hash absorb start add_block mix finish finish_a finish_b finish_c mix_a mix_b mix_c bucket_number shape calls
replies_are = refl

local_0 : List Entry
local_0 =
    entry 1 0 1 (parts.Local (local.Refill 82610235 ([]) (1 ∷ 0 ∷ []) (Some 0)))
    ∷ entry 3 0 2 (parts.Local (local.Pop 82610235 1))
    ∷ entry 5 0 2 (parts.Local (local.Push 1 true))
    ∷ []

local_0_is : end.logs (Local 0) ≡ local_0
unfolding finals_of put does key_does own_turn shrink_of global_turn taken_own refilled acquired freeing replayed rotated active_visited active_rotated inactive_order inactive_visited inactive_rotated after_looks after_tries shrunk with_flushed own_after local_after global_after bucket_after opening_stack opening_spares opening_owner opening_free hash absorb start add_block mix finish finish_a finish_b finish_c mix_a mix_b mix_c bucket_number shape calls end local_0
local_0_is = refl

global_lists : List Entry
global_lists =
    entry 0 0 1 (parts.Global (global.Turn ([]) ([]) ([]) (1 ∷ 0 ∷ []) (Some (record { target = 126; looks = []; forced = [] }))))
    ∷ []

global_lists_is : end.logs Global ≡ global_lists
unfolding finals_of put does key_does own_turn shrink_of global_turn taken_own refilled acquired freeing replayed rotated active_visited active_rotated inactive_order inactive_visited inactive_rotated after_looks after_tries shrunk with_flushed own_after local_after global_after bucket_after opening_stack opening_spares opening_owner opening_free hash absorb start add_block mix finish finish_a finish_b finish_c mix_a mix_b mix_c bucket_number shape calls end global_lists
global_lists_is = refl

bucket_1 : List Entry
bucket_1 =
    entry 2 0 1 (parts.Bucket (Update Prog 0 (1 ∷ []) (161 ∷ []) (Some 0) (puts.Added 0)))
    ∷ entry 4 0 2 (parts.Bucket (Update Prog 0 (1 ∷ []) (162 ∷ []) (Some 1) (puts.Written 0)))
    ∷ entry 6 0 3 (parts.Bucket (Lookup Prog (1 ∷ []) (Some (0, 162 ∷ []))))
    ∷ entry 7 0 4 (parts.Bucket (Update Prog 2 (1 ∷ []) (163 ∷ []) None (puts.Written 0)))
    ∷ entry 8 0 5 (parts.Bucket (Lookup Sys (1 ∷ []) (Some (0, 163 ∷ 0 ∷ 0 ∷ 0 ∷ 0 ∷ 0 ∷ 0 ∷ 0 ∷ []))))
    ∷ []

bucket_1_is : end.logs (Bucket 1) ≡ bucket_1
unfolding finals_of put does key_does own_turn shrink_of global_turn taken_own refilled acquired freeing replayed rotated active_visited active_rotated inactive_order inactive_visited inactive_rotated after_looks after_tries shrunk with_flushed own_after local_after global_after bucket_after opening_stack opening_spares opening_owner opening_free hash absorb start add_block mix finish finish_a finish_b finish_c mix_a mix_b mix_c bucket_number shape calls end bucket_1
bucket_1_is = refl

finals_are : finals_of shape end ≡ record {
  buckets = ([]) ∷ (((record { element = 0; key = 1 ∷ []; values = (163 ∷ []) ∷ [] }) ∷ [])) ∷ [];
  freelists = [];
  spares = [];
  sets = ((record { active = []; inactive = []; free = []; cursor = None })) ∷ [];
  locals = ((record { free = 1 ∷ []; pending = 0 ∷ []; steal = 0 })) ∷ [];
  marked = 0 ∷ [];
}
unfolding finals_of put does key_does own_turn shrink_of global_turn taken_own refilled acquired freeing replayed rotated active_visited active_rotated inactive_order inactive_visited inactive_rotated after_looks after_tries shrunk with_flushed own_after local_after global_after bucket_after opening_stack opening_spares opening_owner opening_free hash absorb start add_block mix finish finish_a finish_b finish_c mix_a mix_b mix_c bucket_number shape calls end
finals_are = refl
