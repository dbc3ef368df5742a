-- A serial run worked whole: an update with BPF_EXIST evicts its own key.
use Rattle.std.proofs.Common.{◌≡◌, true, false, List, [], ◌∷◌, refl}
use Rattle.std.specs.Prelude.{None, Some}
use Rattle.map_types.specs.declared.attr.Shape.{Shape}
use Rattle.map_types.specs.declared.kind.MapKind.TheVariants.{LruHash}
use Rattle.map_types.specs.declared.call.Call.{Call}
use Rattle.map_types.specs.declared.call.Verb.TheVariants as verbs
use Rattle.map_types.specs.declared.kind.DomainId.TheVariants.{Local, Global, Bucket}
use Rattle.map_types.specs.declared.kind.Side.TheVariants.{Prog}
use Rattle.map_types.specs.declared.refusal.Errno.TheVariants.{Enoent}
use Rattle.map_types.specs.declared.reply.Reply.TheVariants.{Done, Refused}
use Rattle.key_hash.specs.Jhash.{hash, absorb, start, add_block, mix, finish, finish_a, finish_b, finish_c, mix_a, mix_b, mix_c}
use Rattle.key_hash.specs.Bucket.{bucket_number}
use Rattle.place_words.specs.declared.bucket_part.BucketPart.TheVariants.{Lookup, Update, Evict}
use Rattle.place_words.specs.declared.bucket_part.Put.TheVariants as puts
use Rattle.place_words.specs.declared.bucket_part.Seen.TheVariants.{Removed}
use Rattle.place_words.specs.declared.history.Entry.{Entry}
use Rattle.place_words.specs.declared.history.Part.TheVariants as parts
use Rattle.place_words.specs.declared.list_part.GlobalPart.TheVariants as global
use Rattle.place_words.specs.declared.list_part.LocalPart.TheVariants as local
use Rattle.place_words.specs.Rotation.{rotated, active_visited, active_rotated, inactive_order, inactive_visited, inactive_rotated}
use Rattle.place_words.specs.Shrinking.{after_looks, after_tries, shrunk}
use Rattle.place_words.specs.Openings.{opening_stack, opening_spares, opening_owner, opening_free}
use Rattle.place_words.specs.Buckets.{bucket_after}
use Rattle.place_words.specs.Sets.{own_after}
use Rattle.place_words.specs.Locals.{local_after}
use Rattle.place_words.specs.Globals.{with_flushed, global_after}
use Rattle.place_words.specs.Histories.{replayed}
use Rattle.map_types.specs.ElementLists.{put}
use Rattle.place_words.specs.Choices.{own_turn, shrink_of, global_turn}
use Rattle.place_words.specs.Logs.{State, does, key_does, taken_own, refilled, acquired, freeing, run, answers, finals_of, new_state}
use Rattle.place_words.proofs.Worked.{entry, visit, flush, look}

shape : Shape
shape = record {
  kind = LruHash;
  cpus = 1;
  capacity = 1;
  elements = 1;
  buckets = 1;
  key_size = 1;
  value_size = 1;
  seed = 0;
  common = true;
}

calls : List Call
calls =
    (record { cpu = 0; verb = verbs.Update Prog 0 (1 ∷ []) (161 ∷ []) })
    ∷ (record { cpu = 0; verb = verbs.Update Prog 2 (1 ∷ []) (177 ∷ []) })
    ∷ (record { cpu = 0; verb = verbs.Lookup Prog (1 ∷ []) })
    ∷ []

end : State
end = run shape 1 calls (new_state shape)

replies_are : answers shape 1 calls (new_state shape) ≡ Done ∷ (Refused Enoent) ∷ (Refused Enoent) ∷ []
unfolding finals_of put does key_does own_turn shrink_of global_turn taken_own refilled acquired freeing replayed rotated active_visited active_rotated inactive_order inactive_visited inactive_rotated after_looks after_tries shrunk with_flushed own_after local_after global_after bucket_after opening_stack opening_spares opening_owner opening_free hash absorb start add_block mix finish finish_a finish_b finish_c mix_a mix_b mix_c bucket_number shape calls
replies_are = refl

local_0 : List Entry
local_0 =
    entry 1 0 1 (parts.Local (local.Refill 82610235 ([]) (0 ∷ []) (Some 0)))
    ∷ entry 5 0 2 (parts.Local (local.Refill 82610235 ((visit 0 false) ∷ []) (0 ∷ []) (Some 0)))
    ∷ entry 7 0 2 (parts.Local (local.Push 0 true))
    ∷ []

local_0_is : end.logs (Local 0) ≡ local_0
unfolding finals_of put does key_does own_turn shrink_of global_turn taken_own refilled acquired freeing replayed rotated active_visited active_rotated inactive_order inactive_visited inactive_rotated after_looks after_tries shrunk with_flushed own_after local_after global_after bucket_after opening_stack opening_spares opening_owner opening_free hash absorb start add_block mix finish finish_a finish_b finish_c mix_a mix_b mix_c bucket_number shape calls end local_0
local_0_is = refl

global_lists : List Entry
global_lists =
    entry 0 0 1 (parts.Global (global.Turn ([]) ([]) ([]) (0 ∷ []) (Some (record { target = 127; looks = []; forced = [] }))))
    ∷ entry 4 0 2 (parts.Global (global.Turn ((flush 0 82610235 false) ∷ []) ([]) ((visit 0 false) ∷ []) ([]) (Some (record { target = 128; looks = (look 0 false (Some Removed)) ∷ []; forced = [] }))))
    ∷ []

global_lists_is : end.logs Global ≡ global_lists
unfolding finals_of put does key_does own_turn shrink_of global_turn taken_own refilled acquired freeing replayed rotated active_visited active_rotated inactive_order inactive_visited inactive_rotated after_looks after_tries shrunk with_flushed own_after local_after global_after bucket_after opening_stack opening_spares opening_owner opening_free hash absorb start add_block mix finish finish_a finish_b finish_c mix_a mix_b mix_c bucket_number shape calls end global_lists
global_lists_is = refl

bucket_0 : List Entry
bucket_0 =
    entry 2 0 1 (parts.Bucket (Update Prog 0 (1 ∷ []) (161 ∷ []) (Some 0) (puts.Added 0)))
    ∷ entry 3 0 2 (parts.Bucket (Evict 0 Removed))
    ∷ entry 6 0 2 (parts.Bucket (Update Prog 2 (1 ∷ []) (177 ∷ []) (Some 0) puts.Absent))
    ∷ entry 8 0 3 (parts.Bucket (Lookup Prog (1 ∷ []) None))
    ∷ []

bucket_0_is : end.logs (Bucket 0) ≡ bucket_0
unfolding finals_of put does key_does own_turn shrink_of global_turn taken_own refilled acquired freeing replayed rotated active_visited active_rotated inactive_order inactive_visited inactive_rotated after_looks after_tries shrunk with_flushed own_after local_after global_after bucket_after opening_stack opening_spares opening_owner opening_free hash absorb start add_block mix finish finish_a finish_b finish_c mix_a mix_b mix_c bucket_number shape calls end bucket_0
bucket_0_is = refl

finals_are : finals_of shape end ≡ record {
  buckets = ([]) ∷ [];
  freelists = [];
  spares = [];
  sets = ((record { active = []; inactive = []; free = []; cursor = None })) ∷ [];
  locals = ((record { free = 0 ∷ []; pending = []; steal = 0 })) ∷ [];
  marked = [];
}
unfolding finals_of put does key_does own_turn shrink_of global_turn taken_own refilled acquired freeing replayed rotated active_visited active_rotated inactive_order inactive_visited inactive_rotated after_looks after_tries shrunk with_flushed own_after local_after global_after bucket_after opening_stack opening_spares opening_owner opening_free hash absorb start add_block mix finish finish_a finish_b finish_c mix_a mix_b mix_c bucket_number shape calls end
finals_are = refl
