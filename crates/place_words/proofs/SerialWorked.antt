-- What the laws of runs in serial order say, worked: a CPU without an element of its own answers ENOMEM, so that a map has to have
-- enough; a probe that finds its element held is told as such; and a batch tells the error at which it stopped.
use Rattle.std.proofs.Common.{◌≡◌, true, false, List, [], ◌∷◌, refl, sym}
use Rattle.std.specs.Prelude.{Some}
use Rattle.std.proofs.lemmas.Bool.{true≢false}
use Rattle.std.proofs.lemmas.List.Elements.{All-head}
use Rattle.map_types.specs.declared.attr.Shape.{Shape}
use Rattle.map_types.specs.declared.call.Call.{Call}
use Rattle.map_types.specs.declared.call.Verb.TheVariants as verbs
use Rattle.map_types.specs.declared.kind.MapKind.TheVariants.{LruHash}
use Rattle.map_types.specs.declared.kind.Side.TheVariants.{Prog}
use Rattle.map_types.specs.declared.refusal.Errno.TheVariants.{Enomem}
use Rattle.map_types.specs.declared.reply.Reply.TheVariants.{Done, Refused, Batch, Count}
use Rattle.key_hash.specs.Jhash.{hash, absorb, start, add_block, mix, finish, finish_a, finish_b, finish_c, mix_a, mix_b, mix_c}
use Rattle.key_hash.specs.Bucket.{bucket_number}
use Rattle.place_words.specs.declared.bucket_part.BucketPart.TheVariants.{Evict}
use Rattle.place_words.specs.declared.bucket_part.Seen.TheVariants.{Held}
use Rattle.place_words.specs.declared.history.Part.TheVariants as parts
use Rattle.place_words.specs.declared.list_part.LocalPart.TheVariants as local
use Rattle.place_words.specs.declared.list_part.Stolen.TheVariants.{Nothing}
use Rattle.place_words.specs.declared.visits.Try.{Try}
use Rattle.place_words.specs.Rotation.{rotated, active_visited, active_rotated, inactive_order, inactive_visited, inactive_rotated}
use Rattle.place_words.specs.Shrinking.{after_looks, after_tries, shrunk, try_removed}
use Rattle.place_words.specs.Openings.{opening_stack, opening_owner, opening_free}
use Rattle.place_words.specs.Buckets.{bucket_after}
use Rattle.place_words.specs.Sets.{own_after}
use Rattle.place_words.specs.Histories.{replayed}
use Rattle.map_types.specs.ElementLists.{put}
use Rattle.map_types.specs.Replies.{error_of}
use Rattle.place_words.specs.Choices.{own_turn, shrink_of}
use Rattle.place_words.specs.Logs.{does, key_does, taken_own, acquired, freeing, answers, new_state}
use Rattle.place_words.specs.SerialOrder.{FindsNoneHeld}
use Rattle.place_words.proofs.Worked.{look}

-- one element for two CPUs with list sets of their own: no attributes give this shape
shape : Shape
shape = record {
  kind = LruHash;
  cpus = 2;
  capacity = 1;
  elements = 1;
  buckets = 1;
  key_size = 1;
  value_size = 1;
  seed = 0;
  common = false;
}

calls : List Call
calls = (record { cpu = 0; verb = verbs.Update Prog 0 (1 ∷ []) (161 ∷ []) }) ∷ (record { cpu = 1; verb = verbs.Update Prog 0 (2 ∷ []) (178 ∷ []) }) ∷ []

replies_are : answers shape 1 calls (new_state shape) ≡ Done ∷ Refused Enomem ∷ []
unfolding put does key_does own_turn shrink_of taken_own acquired freeing replayed rotated active_visited active_rotated inactive_order inactive_visited inactive_rotated after_looks after_tries shrunk own_after bucket_after opening_stack opening_owner opening_free hash absorb start add_block mix finish finish_a finish_b finish_c mix_a mix_b mix_c bucket_number shape calls
replies_are = refl

-- a probe that finds its element held
evict_held : FindsNoneHeld (parts.Bucket (Evict 3 (Held 1))) → ⊥
evict_held all = true≢false (sym (All-head (λ (probe : Try). try_removed probe ≡ true) (record { element = 3; probed = Held 1 }) [] all))

look_held : FindsNoneHeld (parts.Local (local.Steal Nothing (look 3 false (Some (Held 1)) ∷ []) [])) → ⊥
look_held all = true≢false (sym (All-head (λ (probe : Try). try_removed probe ≡ true) (record { element = 3; probed = Held 1 }) [] all))

-- a batch that stopped
told_by_count : error_of (Count (Some Enomem) 2) ≡ Some Enomem
told_by_count = refl

told_by_batch : error_of (Batch (Some Enomem) [] 0) ≡ Some Enomem
told_by_batch = refl
