-- The laws of walks over a map that nobody changes.
use Rattle.std.proofs.Common.{ℕ, ◌<◌, List, take, arith}
use Rattle.std.proofs.lemmas.List.Elements.{All-take}
use Rattle.key_hash.proofs.Buckets.{bucket_number-lt}
use Rattle.map_types.proofs.CreationLemmas.{bounds_of_shape}
use Rattle.map_types.specs.Shape.{HasBounds}
use Rattle.map_types.specs.Stored.{Stored}
use Rattle.map_types.specs.declared.attr.Shape.{Shape}
use Rattle.map_types.specs.declared.call.Call.{Call}
use Rattle.map_script.specs.declared.script.Script.{Script}
use Rattle.serial_laws.specs.Served.{SuitsItsMap}
use Rattle.serial_laws.specs.WalkLaws.{Moment, Holds, WalksGiveAll, buckets_before, WalkLaws}
use Rattle.serial_laws.proofs.OwnKeys.{own_keys}
use Rattle.serial_laws.proofs.WalkedKeys.{HaveOwnKeys, gives_keys, each_once_in_order}
use Rattle.serial_laws.proofs.WalkedPairs.{all_pairs, all_end}

some_bucket : (shape : Shape) → HasBounds shape → 0 < shape.buckets
some_bucket shape bounds = let below = bucket_number-lt 0 shape.buckets bounds.buckets_power in omega (arith, below)

-- over any buckets in which each key is in its own, once
pub walks_give : (shape : Shape) → HasBounds shape → (lie : ℕ → List Stored) → HaveOwnKeys shape lie → (at : ℕ → Moment) → ((n : ℕ) → Holds shape lie (at n)) → WalksGiveAll shape lie at
walks_give shape bounds lie keys at holds = record {
  keys = gives_keys shape bounds lie keys at holds;
  pairs = λ counts all is. all_pairs shape lie at holds counts all is;
  ends = λ counts few. all_end shape lie at holds (some_bucket shape bounds) counts few;
  once = λ key. each_once_in_order shape bounds lie keys key;
}

-- and so over those of each moment of a run
pub walk_laws : (script : Script) → SuitsItsMap script → WalkLaws script
walk_laws script like n at holds =
    let On : Call → Type 0 = λ call. call.cpu < script.shape.cpus in
    walks_give script.shape (bounds_of_shape script.shape like.shape) (buckets_before script n)
    (own_keys script.shape like.shape 1 (take n script.calls) (All-take On n script.calls (λ k d below. (like.calls k d below).cpu))) at holds
