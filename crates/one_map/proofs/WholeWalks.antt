-- Batch reads and walks over all elements tell whole buckets.
use Rattle.std.proofs.Common.{◌≡◌, ℕ, ◌-◌, inl, inr, Bool, true, false, eqb, ltb, List, [], ◌∷◌, ◌++◌, length, Option, refl, ap, sym, ◌∙◌, subst}
use Rattle.std.specs.Prelude.{unwrap_or, MatchBool}
use Rattle.std.proofs.lemmas.List.{map-append}
use Rattle.map_types.specs.declared.attr.Shape.{Shape}
use Rattle.map_types.specs.declared.kind.DomainId.TheVariants.{Bucket}
use Rattle.map_types.specs.declared.reply.Reply.{Reply}
use Rattle.place_words.specs.declared.bucket_part.BucketPart.TheVariants.{Walk}
use Rattle.place_words.specs.declared.bucket_part.Walked.{Walked}
use Rattle.place_words.specs.declared.bucket_part.Walked.TheVariants.{Over, Taken}
use Rattle.place_words.specs.declared.history.Part.TheVariants as parts
use Rattle.place_words.specs.Handing.{Callback, HandsOverBuckets, AfterHanding, IsHandingTrace}
use Rattle.place_words.specs.Interleaving.{Drawn}
use Rattle.place_words.specs.Turns.{Turn, TurnAt, turns_of, on_lock}
use Rattle.place_words.specs.Walks.{buckets_from, walked_out, AfterWalk, Walks, IsReadTrace}
use Rattle.turn_order.proofs.Members.{IsAmong, among_front, among_back}
use Rattle.one_map.specs.Laws.{one_map, IsOneMap}
use Rattle.one_map.specs.Turns.{IsSoOn}
use Rattle.one_map.specs.WholeWalks.{HasWalk, AfterBucket, ReadsBuckets, IsWholeRead, AfterHanded, HandsBuckets, IsWholeHanding}
use Rattle.one_map.proofs.KeyPoints.{IsMade, IsPlacedAt, placed_at}
use Rattle.one_map.proofs.WalkPoints.{in_taking}

abbrev Pairs : Type 0
Pairs = List (List ℕ × List ℕ)

either : (b : Bool) {P Q R S : Type 0} → MatchBool b P Q → (P → R) → (Q → S) → MatchBool b R S
either true may hit miss = hit may
either false may hit miss = miss may

one_bucket : (b c : ℕ) → Bucket b ≡ Bucket c → b ≡ c
one_bucket b c same = cc

module _ (shape : Shape) (turns : List Drawn) (whole : IsOneMap shape turns) (number cpu : ℕ) where
  abbrev AllMade : List Turn → Type 0
  AllMade its = (turn : Turn) → IsAmong turn its → IsMade turns number cpu turn

  walk_at : (remove : Bool) (room bucket : ℕ) (result : Walked) → IsMade turns number cpu (on_lock (Bucket bucket) (parts.Bucket (Walk remove room result))) → HasWalk shape turns number cpu remove bucket result
  walk_at remove room bucket result made =
      by (placed_at shape turns whole number cpu (Walk remove room result) (on_lock (Bucket bucket) (parts.Bucket (Walk remove room result))) refl made)
    where
      by : IsPlacedAt shape turns number cpu (Bucket bucket) (Walk remove room result) → HasWalk shape turns number cpu remove bucket result
      by here = record {
        before = here.before;
        drawn = here.drawn;
        later = here.later;
        turns_are = here.turns_are;
        call_is = here.call_is;
        cpu_is = here.cpu_is;
        room = room;
        lock_is = here.at_lock;
        part_is = here.part_is;
        so = subst (λ (b : ℕ). IsSoOn shape cpu b (one_map shape here.before) (Walk remove room result)) (sym (one_bucket bucket here.bucket here.lock_is)) here.so;
      }

  -- Batch reads
  walks_whole : (remove : Bool) (limit : ℕ) (buckets : List ℕ) (taken : Pairs) (its : List TurnAt) (reply : Reply) → Walks shape cpu remove limit buckets taken its reply → AllMade (turns_of its)
      → ReadsBuckets shape turns number cpu remove buckets taken reply
  walks_whole remove limit [] taken its reply walks all = walks.1
  walks_whole remove limit (bucket ∷ buckets) taken its reply walks all = (
    walks.0,
    walk_at remove (limit - length taken) bucket walks.0
        (in_taking shape turns whole number cpu _ (walked_out remove walks.0) walks.1 walks.3.1 (λ turn there. all turn (parted turn (among_front turn (turns_of walks.1) (turns_of walks.2) there)))),
    by walks.0 (λ now more. walks_whole remove limit buckets now walks.2 reply more (λ turn there. all turn (parted turn (among_back turn (turns_of walks.1) (turns_of walks.2) there)))) walks.3.2,
  )
    where
      parted : (turn : Turn) → IsAmong turn (turns_of walks.1 ++ turns_of walks.2) → IsAmong turn (turns_of its)
      parted turn there = subst (λ (l : List Turn). IsAmong turn l) (sym (ap (λ (l : List TurnAt). turns_of l) walks.3.0 ∙ map-append (λ (at : TurnAt). at.turn) walks.1 walks.2)) there

      by : (result : Walked) → ((now : Pairs) → Walks shape cpu remove limit buckets now walks.2 reply → ReadsBuckets shape turns number cpu remove buckets now reply)
          → AfterWalk bucket taken walks.2 reply result (λ now. Walks shape cpu remove limit buckets now walks.2 reply)
          → AfterBucket bucket taken reply result (λ now. ReadsBuckets shape turns number cpu remove buckets now reply)
      by (Over n) go after = after.1
      by (Taken bodies) go after = go _ after

  pub read_whole : (remove : Bool) (count : ℕ) (start : Option ℕ) (flags : ℕ) (its : List TurnAt) (reply : Reply) → IsReadTrace shape cpu remove count start flags its reply → AllMade (turns_of its)
      → IsWholeRead shape turns number cpu remove count start flags reply
  read_whole remove count start flags its reply trace all =
      either (eqb flags 0) trace
      (λ asked. either (eqb count 0) asked
      (λ none. none.1)
      (λ some. either (ltb (unwrap_or start 0) shape.buckets) some
      (λ walks. walks_whole remove _ _ [] its reply walks all)
      (λ none. none.1)))
      (λ refused. refused.1)

  -- Walks over all elements
  hands_whole : (Says : Callback) (buckets : List ℕ) (before : Pairs) (its : List Turn) (reply : Reply) → HandsOverBuckets shape cpu Says buckets before its reply → AllMade its
      → HandsBuckets shape turns number cpu Says buckets before reply
  hands_whole Says [] before its reply hands all = hands.1
  hands_whole Says (bucket ∷ buckets) before its reply hands all = (
    hands.0,
    walk_at false (shape.elements - length before) bucket hands.0
        (all (on_lock (Bucket bucket) (parts.Bucket (Walk false (shape.elements - length before) hands.0)))
        (subst (λ (l : List Turn). IsAmong (on_lock (Bucket bucket) (parts.Bucket (Walk false (shape.elements - length before) hands.0))) l) (sym hands.2.0) (inl refl))),
    by hands.0 (λ now more. hands_whole Says buckets now hands.1 reply more (λ turn there. all turn (subst (λ (l : List Turn). IsAmong turn l) (sym hands.2.0) (inr there)))) hands.2.1,
  )
    where
      by : (result : Walked) → ((now : Pairs) → HandsOverBuckets shape cpu Says buckets now hands.1 reply → HandsBuckets shape turns number cpu Says buckets now reply)
          → AfterHanding shape cpu Says bucket before hands.1 reply result (λ now. HandsOverBuckets shape cpu Says buckets now hands.1 reply)
          → AfterHanded shape cpu Says bucket before reply result (λ now. HandsBuckets shape turns number cpu Says buckets now reply)
      by (Over n) go after = after.1
      by (Taken bodies) go after = (after.0, after.1, after.2.0, either after.1 after.2.1 (λ stopped. stopped.1) (λ more. go _ more))

  pub handing_whole : (Says : Callback) (flags : ℕ) (its : List Turn) (reply : Reply) → IsHandingTrace shape cpu Says flags its reply → AllMade its → IsWholeHanding shape turns number cpu Says flags reply
  handing_whole Says flags its reply trace all = either (eqb flags 0) trace (λ hands. hands_whole Says (buckets_from shape 0) [] its reply hands all) (λ refused. refused.1)
