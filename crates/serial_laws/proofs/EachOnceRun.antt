-- Over a call on one key each element stays in one place.
use Rattle.std.proofs.Common.{◌≡◌, ℕ, ◌<◌, false, cond, eqb, nat_lt, List, [], ◌∷◌, length, get_or, Option, Some, None, refl, ◌∙◌, arith}
use Rattle.std.proofs.lemmas.Bool.{cond_both}
use Rattle.std.proofs.lemmas.List.{length-set}
use Rattle.key_hash.proofs.Buckets.{bucket_number-lt}
use Rattle.key_hash.specs.Jhash.{hash}
use Rattle.place_words.specs.Bodies.{has_key}
use Rattle.map_types.specs.Kind.{is_lru, is_percpu}
use Rattle.map_types.specs.Shape.{HasBounds}
use Rattle.map_types.specs.Sides.{values_written}
use Rattle.map_types.specs.Stored.{Stored}
use Rattle.map_types.specs.declared.attr.Shape.{Shape}
use Rattle.map_types.specs.declared.call.Verb.{Verb}
use Rattle.map_types.specs.declared.call.Verb.TheVariants.{Lookup, Update, Delete, Take, Next, BatchRead, BatchUpdate, BatchDelete, Each}
use Rattle.map_types.specs.declared.kind.MapKind.{MapKind}
use Rattle.map_types.specs.declared.kind.MapKind.TheVariants.{Hash, PercpuHash, LruHash, LruPercpuHash}
use Rattle.map_types.specs.declared.kind.Side.{Side}
use Rattle.map_types.specs.declared.reply.Reply.{Reply}
use Rattle.map_types.specs.declared.reply.Reply.TheVariants.{Done}
use Rattle.place_words.specs.declared.finals.Finals.{Finals}
use Rattle.place_words.specs.Bodies.{present, without_key}
use Rattle.place_words.proofs.DoneLaws.{IsKeyVerb}
use Rattle.map_report.specs.Buckets.{bucket_of_key, with_in_place}
use Rattle.map_report.specs.EachOnce.{EachOnce, on_freelists}
use Rattle.map_report.specs.Freelists.{popped}
use Rattle.map_report.specs.Serial.{has_spares, spare_count, bucket_at, new_stored, replaced, written, added, updated, deleted, after_call}
use Rattle.map_report.specs.Soundness.{HasLists}
use Rattle.serial_laws.proofs.EachOnceOpening.{each_once_moved}
use Rattle.serial_laws.proofs.EachOnceSteps.{IsPop, popped_is, pushed_permutes, added_permutes, grown_permutes, taken_permutes, written_permutes, spare_there, spare_set, stays, comes_in, goes_out, changes_places}

-- a map whose lists have their lengths, with each element once
pub record IsWhole (shape : Shape) (n : ℕ) (lists : Finals) : Type 0 where
  pub lengths : HasLists shape lists
  pub once : EachOnce n lists

-- a key's bucket is there
pub bucket_within : (shape : Shape) (key : List ℕ) (lists : Finals) → HasBounds shape → HasLists shape lists → bucket_of_key shape key < length lists.buckets
bucket_within shape key lists bounds has =
    let below : bucket_of_key shape key < shape.buckets = bucket_number-lt (hash key shape.seed) shape.buckets bounds.buckets_power in
    let long : length lists.buckets ≡ shape.buckets = has.buckets in
    omega arith

-- a kind without values for each CPU has spares
pub spares_unless_percpu : (kind : MapKind) (cpus : ℕ) → is_lru kind ≡ false → is_percpu kind ≡ false → cond (has_spares kind) cpus 0 ≡ cpus
spares_unless_percpu Hash cpus built common = refl
spares_unless_percpu PercpuHash cpus built common = cc
spares_unless_percpu LruHash cpus built common = cc
spares_unless_percpu LruPercpuHash cpus built common = cc

module _ (shape : Shape) (n : ℕ) (lists : Finals) (bounds : HasBounds shape) (has : HasLists shape lists) (once : EachOnce n lists) where
  -- a key is deleted
  deleted_whole : (cpu : ℕ) (key : List ℕ) (reply : Reply) (found : Option Stored) → cpu < shape.cpus → present key (bucket_at shape lists key) ≡ found → IsWhole shape n (deleted shape cpu key lists reply found).0
  deleted_whole cpu key reply None few is = record { lengths = has; once = once }
  deleted_whole cpu key reply (Some old) few is =
      let place : ℕ = bucket_of_key shape key in
      let within : place < length lists.buckets = bucket_within shape key lists bounds has in
      let long : length lists.freelists ≡ shape.cpus = has.freelists in
      record {
        lengths = record {
          buckets = length-set lists.buckets place (without_key key (bucket_at shape lists key)) ∙ has.buckets;
          freelists = length-set lists.freelists cpu (old.element ∷ get_or lists.freelists cpu []) ∙ has.freelists;
          spares = has.spares;
        };
        once = each_once_moved n lists _ once
            (goes_out _ _ _ _ lists.spares old.element
            (taken_permutes lists.buckets place (has_key key) old within is)
            (pushed_permutes cpu old.element lists.freelists (omega arith)));
      }

  -- a new key
  added_whole : (side : Side) (cpu : ℕ) (key value : List ℕ) (top : Option (ℕ × List (List ℕ))) → popped cpu lists.freelists ≡ top → IsWhole shape n (added shape side cpu key value lists top).0
  added_whole side cpu key value None is = record { lengths = has; once = once }
  added_whole side cpu key value (Some top) is =
      let place : ℕ = bucket_of_key shape key in
      let within : place < length lists.buckets = bucket_within shape key lists bounds has in
      let pop : IsPop lists.freelists top = popped_is cpu lists.freelists top is in
      record {
        lengths = record {
          buckets = length-set lists.buckets place (new_stored shape side cpu top.0 key value ∷ bucket_at shape lists key) ∙ has.buckets;
          freelists = pop.stacks_kept ∙ has.freelists;
          spares = has.spares;
        };
        once = each_once_moved n lists _ once
            (comes_in _ _ _ _ lists.spares top.0 pop.permutes
            (grown_permutes lists.buckets place (new_stored shape side cpu top.0 key value) within));
      }

  -- a value is written in place
  written_whole : (side : Side) (cpu : ℕ) (key value : List ℕ) (old : Stored) → present key (bucket_at shape lists key) ≡ Some old → IsWhole shape n (written shape side cpu key value lists old)
  written_whole side cpu key value old is =
      let place : ℕ = bucket_of_key shape key in
      let within : place < length lists.buckets = bucket_within shape key lists bounds has in
      let new : Stored = record old { values = values_written shape side cpu old.values value } in
      record {
        lengths = record {
          buckets = length-set lists.buckets place (with_in_place key new (bucket_at shape lists key)) ∙ has.buckets;
          freelists = has.freelists;
          spares = has.spares;
        };
        once = each_once_moved n lists _ once
            (stays _ _ (on_freelists lists) lists.spares (written_permutes lists.buckets place (has_key key) old new within is refl));
      }

  -- a spare is in the place of the old element
  replaced_whole : (side : Side) (cpu : ℕ) (key value : List ℕ) (old : Stored) → cpu < length lists.spares → present key (bucket_at shape lists key) ≡ Some old → IsWhole shape n (replaced shape side cpu key value lists old)
  replaced_whole side cpu key value old few is =
      let place : ℕ = bucket_of_key shape key in
      let within : place < length lists.buckets = bucket_within shape key lists bounds has in
      let new : Stored = new_stored shape side cpu (get_or lists.spares cpu 0) key value in
      let rest : List Stored = without_key key (bucket_at shape lists key) in
      record {
        lengths = record {
          buckets = length-set lists.buckets place (new ∷ rest) ∙ has.buckets;
          freelists = has.freelists;
          spares = length-set lists.spares cpu old.element ∙ has.spares;
        };
        once = each_once_moved n lists _ once
            (changes_places _ _ _ (on_freelists lists) _ _ _ old.element new.element
            (taken_permutes lists.buckets place (has_key key) old within is)
            (added_permutes lists.buckets place new rest within)
            (spare_there lists.spares cpu few)
            (spare_set lists.spares cpu old.element few));
      }

  -- an update
  updated_whole : (side : Side) (cpu flags : ℕ) (key value : List ℕ) (found : Option Stored) → is_lru shape.kind ≡ false → cpu < shape.cpus → present key (bucket_at shape lists key) ≡ found
      → IsWhole shape n (updated shape side cpu flags key value lists found).0
  updated_whole side cpu flags key value None built few is =
      cond_both (eqb flags 2) _ _ (λ (after : Finals × Reply). IsWhole shape n after.0) (λ refused. record { lengths = has; once = once })
      (λ other. added_whole side cpu key value (popped cpu lists.freelists) refl)
  updated_whole side cpu flags key value (Some old) built few is =
      cond_both (eqb flags 1) _ _ (λ (after : Finals × Reply). IsWhole shape n after.0) (λ refused. record { lengths = has; once = once })
      (λ other. cond_both (is_percpu shape.kind) _ _ (IsWhole shape n) (λ parts. written_whole side cpu key value old is)
      (λ common.
      let spares : spare_count shape ≡ shape.cpus = spares_unless_percpu shape.kind shape.cpus built common in
      let long : length lists.spares ≡ spare_count shape = has.spares in
      replaced_whole side cpu key value old (omega arith) is))

  -- a call on one key
  key_whole : (cpu : ℕ) (verb : Verb) → IsKeyVerb verb → is_lru shape.kind ≡ false → cpu < shape.cpus → IsWhole shape n (after_call shape cpu verb lists).0
  unfolding after_call
  key_whole cpu (Lookup side key) is built few = record { lengths = has; once = once }
  key_whole cpu (Update side flags key value) is built few =
      cond_both (nat_lt 2 flags) _ _ (λ (after : Finals × Reply). IsWhole shape n after.0) (λ refused. record { lengths = has; once = once })
      (λ known. updated_whole side cpu flags key value (present key (bucket_at shape lists key)) built few refl)
  key_whole cpu (Delete key) is built few = deleted_whole cpu key Done (present key (bucket_at shape lists key)) few refl
  key_whole cpu (Take key) is built few = deleted_whole cpu key _ (present key (bucket_at shape lists key)) few refl
  key_whole cpu (Next key) is built few = absurd is
  key_whole cpu (BatchRead remove count start flags) is built few = absurd is
  key_whole cpu (BatchUpdate flags pairs) is built few = absurd is
  key_whole cpu (BatchDelete flags keys) is built few = absurd is
  key_whole cpu (Each flags stop) is built few = absurd is

-- A call on one key keeps each element in one place.
pub each_once_key : (shape : Shape) (n cpu : ℕ) (verb : Verb) (lists : Finals) → HasBounds shape → is_lru shape.kind ≡ false → cpu < shape.cpus → IsKeyVerb verb → HasLists shape lists → EachOnce n lists
    → IsWhole shape n (after_call shape cpu verb lists).0
each_once_key shape n cpu verb lists bounds built few is has once = key_whole shape n lists bounds has once cpu verb is built few
