-- Serial runs worked: next key and batches, on a map that doesn't evict and on one that does.
use Rattle.std.proofs.Common.{◌≡◌, ℕ, true, false, List, [], ◌∷◌, refl}
use Rattle.std.specs.Prelude.{None, Some}
use Rattle.map_types.specs.declared.attr.Shape.{Shape}
use Rattle.map_types.specs.declared.kind.MapKind.TheVariants.{Hash}
use Rattle.map_types.specs.declared.call.Call.{Call}
use Rattle.map_types.specs.declared.call.Verb.{Verb}
use Rattle.map_types.specs.declared.call.Verb.TheVariants as verbs
use Rattle.map_types.specs.declared.kind.Side.TheVariants.{Prog}
use Rattle.map_types.specs.declared.refusal.Errno.TheVariants.{Enoent, E2big, Enospc, Einval}
use Rattle.map_types.specs.declared.reply.Reply.TheVariants.{Done, Value, Refused, Batch, Count}
use Rattle.key_hash.specs.Jhash.{hash, absorb, start, add_block, mix, finish, finish_a, finish_b, finish_c, mix_a, mix_b, mix_c}
use Rattle.key_hash.specs.Bucket.{bucket_number}
use Rattle.place_words.specs.Rotation.{rotated, active_visited, active_rotated, inactive_order, inactive_visited, inactive_rotated}
use Rattle.place_words.specs.Shrinking.{after_looks, after_tries, shrunk}
use Rattle.place_words.specs.Openings.{opening_stack, opening_spares, opening_owner, opening_free}
use Rattle.place_words.specs.Buckets.{bucket_after}
use Rattle.place_words.specs.Sets.{own_after}
use Rattle.place_words.specs.Locals.{local_after}
use Rattle.place_words.specs.Globals.{with_flushed, global_after}
use Rattle.place_words.specs.Histories.{replayed}
use Rattle.map_types.specs.ElementLists.{put}
use Rattle.place_words.specs.Choices.{own_turn, shrink_of, global_turn}
use Rattle.place_words.specs.Logs.{does, key_does, next_does, read_does, taken_own, refilled, acquired, freeing, run, answers, finals_of, new_state}
use Rattle.place_words.proofs.Worked.{lru_hash}

on_0 : Verb → Call
on_0 verb = record { cpu = 0; verb = verb }

sets : ℕ → Call
sets key = record { cpu = 0; verb = verbs.Update Prog 0 (key ∷ []) (key ∷ []) }

shape : Shape
shape = record {
  kind = Hash;
  cpus = 1;
  capacity = 4;
  elements = 5;
  buckets = 4;
  key_size = 1;
  value_size = 1;
  seed = 0;
  common = false;
}

four : List Call
four = sets 1 ∷ sets 2 ∷ sets 3 ∷ sets 4 ∷ []

nexts : List Call
nexts =
    on_0 (verbs.Next None) ∷ on_0 (verbs.Next (Some (4 ∷ []))) ∷ on_0 (verbs.Next (Some (3 ∷ [])))
    ∷ on_0 (verbs.Next (Some (2 ∷ []))) ∷ on_0 (verbs.Next (Some (1 ∷ []))) ∷ on_0 (verbs.Next (Some (5 ∷ []))) ∷ []

nexts_answer : answers shape 5 nexts (run shape 1 four (new_state shape)) ≡ Value (4 ∷ []) ∷ Value (3 ∷ []) ∷ Value (2 ∷ []) ∷ Value (1 ∷ []) ∷ Refused Enoent ∷ Value (4 ∷ []) ∷ []
unfolding finals_of put does key_does next_does read_does own_turn shrink_of global_turn taken_own refilled acquired freeing replayed rotated active_visited active_rotated inactive_order inactive_visited inactive_rotated after_looks after_tries shrunk with_flushed own_after local_after global_after bucket_after opening_stack opening_spares opening_owner opening_free hash absorb start add_block mix finish finish_a finish_b finish_c mix_a mix_b mix_c bucket_number on_0 sets shape four nexts
nexts_answer = refl

reads : List Call
reads =
    on_0 (verbs.BatchRead false 0 None 0) ∷ on_0 (verbs.BatchRead false 1 None 0) ∷ on_0 (verbs.BatchRead false 3 None 0)
    ∷ on_0 (verbs.BatchRead false 4 None 0) ∷ on_0 (verbs.BatchRead false 2 (Some 3) 0) ∷ on_0 (verbs.BatchRead false 2 (Some 4) 0)
    ∷ on_0 (verbs.BatchRead false 2 None 1) ∷ []

reads_answer : answers shape 5 reads (run shape 1 four (new_state shape)) ≡
    Done ∷ Batch (Some Enospc) [] 2 ∷ Batch None ((4 ∷ [], 4 ∷ []) ∷ (3 ∷ [], 3 ∷ []) ∷ []) 3
    ∷ Batch (Some Enoent) ((4 ∷ [], 4 ∷ []) ∷ (3 ∷ [], 3 ∷ []) ∷ (2 ∷ [], 2 ∷ []) ∷ (1 ∷ [], 1 ∷ []) ∷ []) 4
    ∷ Batch (Some Enoent) ((2 ∷ [], 2 ∷ []) ∷ (1 ∷ [], 1 ∷ []) ∷ []) 4 ∷ Refused Enoent ∷ Refused Einval ∷ []
unfolding finals_of put does key_does next_does read_does own_turn shrink_of global_turn taken_own refilled acquired freeing replayed rotated active_visited active_rotated inactive_order inactive_visited inactive_rotated after_looks after_tries shrunk with_flushed own_after local_after global_after bucket_after opening_stack opening_spares opening_owner opening_free hash absorb start add_block mix finish finish_a finish_b finish_c mix_a mix_b mix_c bucket_number on_0 sets shape four reads
reads_answer = refl

-- a map of two keys is full at the third
small : Shape
small = record shape { capacity = 2; elements = 3; buckets = 2 }

pair : ℕ → List ℕ × List ℕ
pair key = (key ∷ [], key ∷ [])

batches : List Call
batches =
    on_0 (verbs.BatchUpdate 0 (pair 1 ∷ pair 2 ∷ pair 3 ∷ [])) ∷ on_0 (verbs.BatchDelete 0 ((1 ∷ []) ∷ (5 ∷ []) ∷ (2 ∷ []) ∷ []))
    ∷ on_0 (verbs.BatchUpdate 1 (pair 1 ∷ [])) ∷ on_0 (verbs.BatchUpdate 0 []) ∷ on_0 (verbs.Take (2 ∷ [])) ∷ on_0 (verbs.Take (2 ∷ [])) ∷ []

batches_answer : answers small 1 batches (new_state small) ≡
    Count (Some E2big) 2 ∷ Count (Some Enoent) 1 ∷ Refused Einval ∷ Count None 0 ∷ Value (2 ∷ []) ∷ Refused Enoent ∷ []
unfolding finals_of put does key_does next_does read_does own_turn shrink_of global_turn taken_own refilled acquired freeing replayed rotated active_visited active_rotated inactive_order inactive_visited inactive_rotated after_looks after_tries shrunk with_flushed own_after local_after global_after bucket_after opening_stack opening_spares opening_owner opening_free hash absorb start add_block mix finish finish_a finish_b finish_c mix_a mix_b mix_c bucket_number on_0 pair shape small batches
batches_answer = refl

-- A batch take of a map that evicts frees the last taken first: element 0 comes to the free list before element 1.
lru : Shape
lru = lru_hash 2 1 true

takes : List Call
takes = sets 1 ∷ sets 2 ∷ on_0 (verbs.BatchRead true 2 None 0) ∷ []

takes_answer : answers lru 1 takes (new_state lru) ≡ Done ∷ Done ∷ Batch (Some Enoent) ((2 ∷ [], 2 ∷ []) ∷ (1 ∷ [], 1 ∷ []) ∷ []) 2 ∷ []
unfolding finals_of put does key_does next_does read_does own_turn shrink_of global_turn taken_own refilled acquired freeing replayed rotated active_visited active_rotated inactive_order inactive_visited inactive_rotated after_looks after_tries shrunk with_flushed own_after local_after global_after bucket_after opening_stack opening_spares opening_owner opening_free hash absorb start add_block mix finish finish_a finish_b finish_c mix_a mix_b mix_c bucket_number on_0 sets lru takes
takes_answer = refl

takes_leave : finals_of lru (run lru 1 takes (new_state lru)) ≡ record {
  buckets = [] ∷ [] ∷ [];
  freelists = [];
  spares = [];
  sets = (record { active = []; inactive = []; free = []; cursor = None }) ∷ [];
  locals = (record { free = 1 ∷ 0 ∷ []; pending = []; steal = 0 }) ∷ [];
  marked = [];
}
unfolding finals_of put does key_does next_does read_does own_turn shrink_of global_turn taken_own refilled acquired freeing replayed rotated active_visited active_rotated inactive_order inactive_visited inactive_rotated after_looks after_tries shrunk with_flushed own_after local_after global_after bucket_after opening_stack opening_spares opening_owner opening_free hash absorb start add_block mix finish finish_a finish_b finish_c mix_a mix_b mix_c bucket_number on_0 sets lru takes
takes_leave = refl
