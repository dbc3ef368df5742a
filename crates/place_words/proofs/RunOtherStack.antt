-- A serial run worked whole: an element changes stacks.
use Rattle.std.proofs.Common.{◌≡◌, false, List, [], ◌∷◌, refl}
use Rattle.std.specs.Prelude.{None, Some}
use Rattle.map_types.specs.declared.attr.Shape.{Shape}
use Rattle.map_types.specs.declared.kind.MapKind.TheVariants.{Hash}
use Rattle.map_types.specs.declared.call.Call.{Call}
use Rattle.map_types.specs.declared.call.Verb.TheVariants as verbs
use Rattle.map_types.specs.declared.kind.DomainId.TheVariants.{Bucket, Freelist}
use Rattle.map_types.specs.declared.kind.Side.TheVariants.{Prog}
use Rattle.map_types.specs.declared.reply.Reply.TheVariants.{Done}
use Rattle.key_hash.specs.Jhash.{hash, absorb, start, add_block, mix, finish, finish_a, finish_b, finish_c, mix_a, mix_b, mix_c}
use Rattle.key_hash.specs.Bucket.{bucket_number}
use Rattle.place_words.specs.declared.bucket_part.BucketPart.TheVariants.{Update, Delete}
use Rattle.place_words.specs.declared.bucket_part.Put.TheVariants as puts
use Rattle.place_words.specs.declared.history.Entry.{Entry}
use Rattle.place_words.specs.declared.free_part.FreePart.TheVariants.{Pushed, Popped, FoundEmpty}
use Rattle.place_words.specs.declared.history.Part.TheVariants as parts
use Rattle.place_words.specs.Rotation.{rotated, active_visited, active_rotated, inactive_order, inactive_visited, inactive_rotated}
use Rattle.place_words.specs.Shrinking.{after_looks, after_tries, shrunk}
use Rattle.place_words.specs.Openings.{opening_stack, opening_spares, opening_owner, opening_free}
use Rattle.place_words.specs.Buckets.{bucket_after}
use Rattle.place_words.specs.Sets.{own_after}
use Rattle.place_words.specs.Locals.{local_after}
use Rattle.place_words.specs.Globals.{with_flushed, global_after}
use Rattle.place_words.specs.Histories.{replayed}
use Rattle.map_types.specs.ElementLists.{put}
use Rattle.place_words.specs.Choices.{own_turn, shrink_of, global_turn}
use Rattle.place_words.specs.Logs.{State, does, key_does, taken_own, refilled, acquired, freeing, run, answers, finals_of, new_state}
use Rattle.place_words.proofs.Worked.{entry}

shape : Shape
shape = record {
  kind = Hash;
  cpus = 2;
  capacity = 1;
  elements = 3;
  buckets = 1;
  key_size = 1;
  value_size = 1;
  seed = 0;
  common = false;
}

calls : List Call
calls =
    (record { cpu = 0; verb = verbs.Update Prog 0 (1 ∷ []) (170 ∷ []) })
    ∷ (record { cpu = 0; verb = verbs.Delete (1 ∷ []) })
    ∷ []

end : State
end = run shape 1 calls (new_state shape)

replies_are : answers shape 1 calls (new_state shape) ≡ Done ∷ Done ∷ []
unfolding finals_of put does key_does own_turn shrink_of global_turn taken_own refilled acquired freeing replayed rotated active_visited active_rotated inactive_order inactive_visited inactive_rotated after_looks after_tries shrunk with_flushed own_after local_after global_after bucket_after opening_stack opening_spares opening_owner opening_free hash absorb start add_block mix finish finish_a finish_b finish_c mix_a mix_b mix_c bucket_number shape calls
replies_are = refl

bucket_0 : List Entry
bucket_0 =
    entry 2 0 1 (parts.Bucket (Update Prog 0 (1 ∷ []) (170 ∷ []) None (puts.Added 2)))
    ∷ entry 4 0 2 (parts.Bucket (Delete (1 ∷ []) (Some 2)))
    ∷ []

bucket_0_is : end.logs (Bucket 0) ≡ bucket_0
unfolding finals_of put does key_does own_turn shrink_of global_turn taken_own refilled acquired freeing replayed rotated active_visited active_rotated inactive_order inactive_visited inactive_rotated after_looks after_tries shrunk with_flushed own_after local_after global_after bucket_after opening_stack opening_spares opening_owner opening_free hash absorb start add_block mix finish finish_a finish_b finish_c mix_a mix_b mix_c bucket_number shape calls end bucket_0
bucket_0_is = refl

freelist_0 : List Entry
freelist_0 =
    entry 0 0 1 (parts.Free FoundEmpty)
    ∷ entry 3 0 2 (parts.Free (Pushed 2))
    ∷ []

freelist_0_is : end.logs (Freelist 0) ≡ freelist_0
unfolding finals_of put does key_does own_turn shrink_of global_turn taken_own refilled acquired freeing replayed rotated active_visited active_rotated inactive_order inactive_visited inactive_rotated after_looks after_tries shrunk with_flushed own_after local_after global_after bucket_after opening_stack opening_spares opening_owner opening_free hash absorb start add_block mix finish finish_a finish_b finish_c mix_a mix_b mix_c bucket_number shape calls end freelist_0
freelist_0_is = refl

freelist_1 : List Entry
freelist_1 =
    entry 1 0 1 (parts.Free (Popped 2))
    ∷ []

freelist_1_is : end.logs (Freelist 1) ≡ freelist_1
unfolding finals_of put does key_does own_turn shrink_of global_turn taken_own refilled acquired freeing replayed rotated active_visited active_rotated inactive_order inactive_visited inactive_rotated after_looks after_tries shrunk with_flushed own_after local_after global_after bucket_after opening_stack opening_spares opening_owner opening_free hash absorb start add_block mix finish finish_a finish_b finish_c mix_a mix_b mix_c bucket_number shape calls end freelist_1
freelist_1_is = refl

finals_are : finals_of shape end ≡ record {
  buckets = ([]) ∷ [];
  freelists = ((2 ∷ [])) ∷ [] ∷ [];
  spares = 1 ∷ 0 ∷ [];
  sets = [];
  locals = [];
  marked = [];
}
unfolding finals_of put does key_does own_turn shrink_of global_turn taken_own refilled acquired freeing replayed rotated active_visited active_rotated inactive_order inactive_visited inactive_rotated after_looks after_tries shrunk with_flushed own_after local_after global_after bucket_after opening_stack opening_spares opening_owner opening_free hash absorb start add_block mix finish finish_a finish_b finish_c mix_a mix_b mix_c bucket_number shape calls end
finals_are = refl
