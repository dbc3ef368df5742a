-- Walks over all elements are read as their traces.
use Rattle.std.proofs.Common.{◌≡◌, ℕ, suc, ◌-◌, Bool, true, false, List, [], ◌∷◌, ◌++◌, length, map, Option, None, refl, ap, ◌∙◌, subst}
use Rattle.std.specs.Prelude.{◌==◌, MatchBool, if◌then◌else◌}
use Rattle.map_types.specs.declared.attr.Shape.{Shape}
use Rattle.map_types.specs.declared.kind.DomainId.TheVariants.{Bucket}
use Rattle.map_types.specs.declared.refusal.Errno.TheVariants.{Einval}
use Rattle.map_types.specs.declared.reply.Reply.{Reply}
use Rattle.map_types.specs.declared.reply.Reply.TheVariants.{Refused, Batch}
use Rattle.place_words.specs.declared.bucket_part.BucketPart.TheVariants.{Walk}
use Rattle.place_words.specs.declared.bucket_part.Walked.{Walked}
use Rattle.place_words.specs.declared.bucket_part.Walked.TheVariants.{Over, Taken}
use Rattle.place_words.specs.declared.history.Part.TheVariants as parts
use Rattle.place_words.specs.Handing.{HandsOver, AfterHanding, HandsOverBuckets, IsHandingTrace, StopsAt, is_stop, up_to_stop, handed}
use Rattle.place_words.specs.PlainTraces.{spare_after}
use Rattle.place_words.specs.Turns.{Turn, on_lock}
use Rattle.place_words.specs.Walks.{buckets_from}
use Rattle.trace_check.specs.Reading.{Reads, IsReader, read_nothing, read_at, same_turns}
use Rattle.trace_check.specs.Calls.{walked_in, stops_in, after_handing, read_handing, read_each}
use Rattle.trace_check.proofs.Readers.{IsThen, IsNothing, nothing_reader, then_reader, same_reader, match_reader}
use Rattle.trace_check.proofs.Walking.{IsAlone, alone, alone_then}
use Rattle.trace_check.proofs.Batches.{walk_only, walk_says}

abbrev pub Pairs : Type 0
Pairs = List (List ℕ × List ℕ)

-- which pairs are handed over, and whether the walk is stopped there, follows from the pairs
hands_so : (stop : Option (List ℕ)) (pairs : Pairs) → HandsOver (StopsAt stop) pairs (up_to_stop stop pairs) (stops_in stop pairs)
hands_so stop [] = (refl, refl)
hands_so stop (pair ∷ pairs) = (is_stop stop pair, (if is_stop stop pair then [] else up_to_stop stop pairs), (refl, refl, by (is_stop stop pair) (hands_so stop pairs)))
  where
    by : (b : Bool) → HandsOver (StopsAt stop) pairs (up_to_stop stop pairs) (stops_in stop pairs)
        → MatchBool b (((if b then [] else up_to_stop stop pairs) ≡ []) × ((if b then true else stops_in stop pairs) ≡ true)) (HandsOver (StopsAt stop) pairs (if b then [] else up_to_stop stop pairs) (if b then true else stops_in stop pairs))
    by true rest = (refl, refl)
    by false rest = rest

hands_told : (stop : Option (List ℕ)) (pairs over : Pairs) (stopped : Bool) → HandsOver (StopsAt stop) pairs over stopped → (over ≡ up_to_stop stop pairs) × (stopped ≡ stops_in stop pairs)
hands_told stop [] over stopped is = is
hands_told stop (pair ∷ pairs) over stopped is =
    let both = by is.0 is.1 is.2.2 (hands_told stop pairs is.1 stopped) in (
      is.2.0 ∙ ap (λ (l : Pairs). pair ∷ l) (both.0 ∙ ap (λ (b : Bool). if b then [] else up_to_stop stop pairs) is.2.1),
      both.1 ∙ ap (λ (b : Bool). if b then true else stops_in stop pairs) is.2.1,
    )
  where
    by : (b : Bool) (rest : Pairs) → MatchBool b ((rest ≡ []) × (stopped ≡ true)) (HandsOver (StopsAt stop) pairs rest stopped)
        → (HandsOver (StopsAt stop) pairs rest stopped → (rest ≡ up_to_stop stop pairs) × (stopped ≡ stops_in stop pairs))
        → (rest ≡ (if b then [] else up_to_stop stop pairs)) × (stopped ≡ (if b then true else stops_in stop pairs))
    by true rest now later = now
    by false rest now later = later now

module _ (shape : Shape) (cpu : ℕ) (stop : Option (List ℕ)) where
  abbrev pairs_of : Walked → Pairs
  pairs_of (Over n) = []
  pairs_of (Taken all) = map (handed shape cpu) all

  abbrev AfterHand : ℕ → Pairs → (Pairs → List Turn → Reply → Type 0) → Walked → List Turn → Reply → Type 0
  AfterHand bucket before More (Over n) xs reply = IsNothing (Batch None before bucket) xs reply
  AfterHand bucket before More (Taken all) xs reply =
      MatchBool (stops_in stop (map (handed shape cpu) all))
      (IsNothing (Batch None (before ++ up_to_stop stop (map (handed shape cpu) all)) (suc bucket)) xs reply)
      (More (before ++ up_to_stop stop (map (handed shape cpu) all)) xs reply)

  hand_reads : (bucket : ℕ) (before : Pairs) (More : Pairs → List Turn → Reply → Type 0) (more : Pairs → Reads Reply) → ((now : Pairs) → IsReader (More now) (more now)) → (result : Walked) → IsReader (AfterHand bucket before More result) (after_handing shape cpu stop bucket before more result)
  hand_reads bucket before More more reads (Over n) = nothing_reader (Batch None before bucket)
  hand_reads bucket before More more reads (Taken all) =
      let now : Pairs = before ++ up_to_stop stop (map (handed shape cpu) all) in
      match_reader (stops_in stop (map (handed shape cpu) all)) (IsNothing (Batch None now (suc bucket))) (More now) (read_nothing (Batch None now (suc bucket))) (more now)
      (nothing_reader (Batch None now (suc bucket))) (reads now)

  hand_there : (bucket : ℕ) (before : Pairs) (rest : List Turn) (reply : Reply) (More : Pairs → List Turn → Reply → Type 0) (result : Walked)
      → AfterHanding shape cpu (StopsAt stop) bucket before rest reply result (λ now. More now rest reply) → AfterHand bucket before More result rest reply
  hand_there bucket before rest reply More (Over n) is = is
  hand_there bucket before rest reply More (Taken all) is =
      let told = hands_told stop (map (handed shape cpu) all) is.0 is.1 is.2.0 in
      let at_over : MatchBool (stops_in stop (map (handed shape cpu) all)) ((rest ≡ []) × (reply ≡ Batch None (before ++ is.0) (suc bucket))) (More (before ++ is.0) rest reply) =
      subst (λ (b : Bool). MatchBool b ((rest ≡ []) × (reply ≡ Batch None (before ++ is.0) (suc bucket))) (More (before ++ is.0) rest reply)) told.1 is.2.1 in
      subst (λ (l : Pairs). MatchBool (stops_in stop (map (handed shape cpu) all)) ((rest ≡ []) × (reply ≡ Batch None (before ++ l) (suc bucket))) (More (before ++ l) rest reply)) told.0 at_over

  hand_back : (bucket : ℕ) (before : Pairs) (rest : List Turn) (reply : Reply) (More : Pairs → List Turn → Reply → Type 0) (result : Walked)
      → AfterHand bucket before More result rest reply → AfterHanding shape cpu (StopsAt stop) bucket before rest reply result (λ now. More now rest reply)
  hand_back bucket before rest reply More (Over n) is = is
  hand_back bucket before rest reply More (Taken all) is =
      (up_to_stop stop (map (handed shape cpu) all), stops_in stop (map (handed shape cpu) all), (hands_so stop (map (handed shape cpu) all), is))

  pub handing_reads : (buckets : List ℕ) (before : Pairs) → IsReader (HandsOverBuckets shape cpu (StopsAt stop) buckets before) (read_handing shape cpu stop buckets before)
  handing_reads [] before = nothing_reader (Batch None before shape.buckets)
  handing_reads (bucket ∷ buckets) before =
      let room : ℕ = shape.elements - length before in
      let More : Pairs → List Turn → Reply → Type 0 = λ now. HandsOverBuckets shape cpu (StopsAt stop) buckets now in
      same_reader (IsThen (IsAlone bucket (Walk false room)) (AfterHand bucket before More)) (HandsOverBuckets shape cpu (StopsAt stop) (bucket ∷ buckets) before) (read_handing shape cpu stop (bucket ∷ buckets) before)
      (λ xs reply is. (is.middle, is.zs, (alone_then bucket (Walk false room) xs is.ys is.zs is.middle is.first is.xs_are, hand_back bucket before is.zs reply More is.middle is.second)))
      (λ xs reply is. record {
        middle = is.0;
        ys = on_lock (Bucket bucket) (parts.Bucket (Walk false room is.0)) ∷ [];
        zs = is.1;
        xs_are = is.2.0;
        first = record { before = []; looks = refl; xs_are = refl };
        second = hand_there bucket before is.1 reply More is.0 is.2.1;
      })
      (then_reader (IsAlone bucket (Walk false room)) (AfterHand bucket before More) (read_at bucket (walked_in false room) (λ result looks. same_turns [] looks)) (after_handing shape cpu stop bucket before (λ now. read_handing shape cpu stop buckets now))
      (alone bucket (Walk false room) (walked_in false room) (walk_says false room) (walk_only false room))
      (hand_reads bucket before More (λ now. read_handing shape cpu stop buckets now) (handing_reads buckets)))

  pub each_reads : (flags : ℕ) → IsReader (IsHandingTrace shape cpu (StopsAt stop) flags) (read_each shape cpu stop flags)
  each_reads flags =
      match_reader (flags == 0) (HandsOverBuckets shape cpu (StopsAt stop) (buckets_from shape 0) []) (IsNothing (Refused Einval)) (read_handing shape cpu stop (buckets_from shape 0) []) (read_nothing (Refused Einval))
      (handing_reads (buckets_from shape 0) []) (nothing_reader (Refused Einval))

  hand_spare : (spare : Option ℕ) (bucket : ℕ) (before : Pairs) (xs : List Turn) (reply : Reply) (More : Pairs → List Turn → Reply → Type 0) (result : Walked)
      → ((now : Pairs) → More now xs reply → spare_after spare xs ≡ spare) → AfterHand bucket before More result xs reply → spare_after spare xs ≡ spare
  hand_spare spare bucket before xs reply More (Over n) more is = ap (spare_after spare) is.0
  hand_spare spare bucket before xs reply More (Taken all) more is = by (stops_in stop (map (handed shape cpu) all)) is
    where
      now : Pairs
      now = before ++ up_to_stop stop (map (handed shape cpu) all)

      by : (b : Bool) → MatchBool b (IsNothing (Batch None now (suc bucket)) xs reply) (More now xs reply) → spare_after spare xs ≡ spare
      by true ends = ap (spare_after spare) ends.0
      by false goes = more now goes

  handing_spare : (spare : Option ℕ) (buckets : List ℕ) (before : Pairs) (xs : List Turn) (reply : Reply) → HandsOverBuckets shape cpu (StopsAt stop) buckets before xs reply → spare_after spare xs ≡ spare
  handing_spare spare [] before xs reply is = ap (spare_after spare) is.0
  handing_spare spare (bucket ∷ buckets) before xs reply is =
      let More : Pairs → List Turn → Reply → Type 0 = λ now. HandsOverBuckets shape cpu (StopsAt stop) buckets now in
      ap (spare_after spare) is.2.0 ∙ hand_spare spare bucket before is.1 reply More is.0 (λ now more. handing_spare spare buckets now is.1 reply more) (hand_there bucket before is.1 reply More is.0 is.2.1)

  pub each_spare : (spare : Option ℕ) (flags : ℕ) (xs : List Turn) (reply : Reply) → IsHandingTrace shape cpu (StopsAt stop) flags xs reply → spare_after spare xs ≡ spare
  each_spare spare flags xs reply is = by (flags == 0) is
    where
      by : (b : Bool) → MatchBool b (HandsOverBuckets shape cpu (StopsAt stop) (buckets_from shape 0) [] xs reply) ((xs ≡ []) × (reply ≡ Refused Einval)) → spare_after spare xs ≡ spare
      by true walks = handing_spare spare (buckets_from shape 0) [] xs reply walks
      by false ends = ap (spare_after spare) ends.0
