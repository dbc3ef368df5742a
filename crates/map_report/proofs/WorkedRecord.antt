-- The record of a serial run worked: a CPU steals the one element, which another has pending.
use Rattle.std.proofs.Common.{◌≡◌, ℕ, true, [], ◌∷◌, map, refl}
use Rattle.std.specs.Prelude.{None}
use Rattle.map_types.specs.declared.attr.Shape.{Shape}
use Rattle.map_types.specs.declared.call.Verb.TheVariants as verbs
use Rattle.map_types.specs.declared.kind.DomainId.{DomainId}
use Rattle.map_types.specs.declared.kind.DomainId.TheVariants.{Local, Global, Bucket}
use Rattle.map_types.specs.declared.kind.MapKind.TheVariants.{LruHash}
use Rattle.map_types.specs.declared.kind.Side.TheVariants.{Prog}
use Rattle.map_types.specs.declared.refusal.Errno.TheVariants.{Enoent}
use Rattle.map_types.specs.declared.reply.Reply.TheVariants.{Done, Value, Refused}
use Rattle.map_script.specs.declared.script.Script.{Script}
use Rattle.key_hash.specs.Jhash.{hash, absorb, start, add_block, mix, finish, finish_a, finish_b, finish_c, mix_a, mix_b, mix_c}
use Rattle.key_hash.specs.Bucket.{bucket_number}
use Rattle.place_words.specs.declared.history.LockHistory.{LockHistory}
use Rattle.place_words.specs.declared.history.StrandStep.{StrandStep}
use Rattle.place_words.specs.Rotation.{rotated, active_visited, active_rotated, inactive_order, inactive_visited, inactive_rotated}
use Rattle.place_words.specs.Shrinking.{after_looks, after_tries, shrunk}
use Rattle.place_words.specs.Openings.{opening_stack, opening_spares, opening_owner, opening_free}
use Rattle.place_words.specs.Buckets.{bucket_after}
use Rattle.place_words.specs.Sets.{own_after}
use Rattle.place_words.specs.Locals.{local_after}
use Rattle.place_words.specs.Locks.{lock_named}
use Rattle.place_words.specs.Globals.{with_flushed, global_after}
use Rattle.place_words.specs.Histories.{replayed}
use Rattle.map_types.specs.ElementLists.{put}
use Rattle.place_words.specs.Choices.{own_turn, shrink_of, global_turn}
use Rattle.place_words.specs.Logs.{does, key_does, taken_own, refilled, acquired, freeing, finals_of}
use Rattle.map_report.specs.Runs.{serial}

shape : Shape
shape = record {
  kind = LruHash;
  cpus = 2;
  capacity = 1;
  elements = 1;
  buckets = 1;
  key_size = 1;
  value_size = 1;
  seed = 0;
  common = true;
}

script : Script
script = record {
  version = 1;
  attr = record { kind = LruHash; key_size = 1; value_size = 1; max_entries = 1; flags = 0; seed = 0; cpus = 2 };
  shape = shape;
  calls =
      (record { cpu = 0; verb = verbs.Update Prog 0 (1 ∷ []) (161 ∷ []) }) ∷ (record { cpu = 1; verb = verbs.Update Prog 0 (2 ∷ []) (178 ∷ []) })
      ∷ (record { cpu = 0; verb = verbs.Lookup Prog (1 ∷ []) }) ∷ (record { cpu = 0; verb = verbs.Lookup Prog (2 ∷ []) }) ∷ [];
  cuts = [];
  spec = None;
  target = None;
}

at : DomainId → ℕ → StrandStep
at lock index = record { lock = lock; index = index }

replies_are : (serial script).replies ≡ Done ∷ Done ∷ Refused Enoent ∷ Value (178 ∷ []) ∷ []
unfolding serial lock_named finals_of put does key_does own_turn shrink_of global_turn taken_own refilled acquired freeing replayed rotated active_visited active_rotated inactive_order inactive_visited inactive_rotated after_looks after_tries shrunk with_flushed own_after local_after global_after bucket_after opening_stack opening_spares opening_owner opening_free hash absorb start add_block mix finish finish_a finish_b finish_c mix_a mix_b mix_c bucket_number shape script
replies_are = refl

locks_are : map (λ (history : LockHistory). history.lock) (serial script).histories ≡ Local 0 ∷ Local 1 ∷ Global ∷ Bucket 0 ∷ []
unfolding serial lock_named finals_of put does key_does own_turn shrink_of global_turn taken_own refilled acquired freeing replayed rotated active_visited active_rotated inactive_order inactive_visited inactive_rotated after_looks after_tries shrunk with_flushed own_after local_after global_after bucket_after opening_stack opening_spares opening_owner opening_free hash absorb start add_block mix finish finish_a finish_b finish_c mix_a mix_b mix_c bucket_number shape script
locks_are = refl

-- the update that finds nothing free: a turn of the global lists and its refill, the own lists looked at, then the other's with a
-- probe before, the element brought home, and the bucket
strands_are : (serial script).strands ≡ (record {
  phase = 0;
  cpus = 0 ∷ 1 ∷ [];
  steps =
      at Global 0 ∷ at (Local 0) 0 ∷ at (Bucket 0) 0
      ∷ at Global 1 ∷ at (Local 1) 0 ∷ at (Local 1) 1 ∷ at (Bucket 0) 1 ∷ at (Local 0) 1 ∷ at (Local 1) 2 ∷ at (Bucket 0) 2
      ∷ at (Bucket 0) 3 ∷ at (Bucket 0) 4 ∷ [];
}) ∷ []
unfolding serial lock_named finals_of put does key_does own_turn shrink_of global_turn taken_own refilled acquired freeing replayed rotated active_visited active_rotated inactive_order inactive_visited inactive_rotated after_looks after_tries shrunk with_flushed own_after local_after global_after bucket_after opening_stack opening_spares opening_owner opening_free hash absorb start add_block mix finish finish_a finish_b finish_c mix_a mix_b mix_c bucket_number shape script at
strands_are = refl
