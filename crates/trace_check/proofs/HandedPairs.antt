-- A walk over all elements against the pairs of a given reply.
use Rattle.std.proofs.Common.{◌≡◌, ℕ, suc, ◌+◌, ◌-◌, ◌<◌, ◌≤◌, Bool, true, false, List, [], ◌∷◌, ◌++◌, length, map, take, drop, Option, None, Some, ap, sym, ◌∙◌}
use Rattle.std.specs.Prelude.{if◌then◌else◌}
use Rattle.map_types.specs.declared.attr.Shape.{Shape}
use Rattle.map_types.specs.declared.refusal.Errno.{Errno}
use Rattle.map_types.specs.declared.reply.Reply.{Reply}
use Rattle.map_types.specs.declared.reply.Reply.TheVariants.{Batch}
use Rattle.map_types.specs.Stored.{Stored}
use Rattle.place_words.specs.declared.bucket_part.Walked.{Walked}
use Rattle.place_words.specs.declared.bucket_part.Walked.TheVariants.{Over, Taken}
use Rattle.place_words.specs.Handing.{handed, up_to_stop}
use Rattle.place_words.specs.Turns.{Turn}
use Rattle.place_words.specs.Walks.{buckets_from}
use Rattle.trace_check.specs.Calls.{read_whole, after_handing, read_handing, stops_in}
use Rattle.trace_check.specs.Pairs.{are_first}
use Rattle.trace_check.specs.Reading.{Reads, then_read}
use Rattle.trace_check.proofs.Answering.{more_buckets}
use Rattle.trace_check.proofs.WalkedPairs.{KeyValue, IsBatch, ends_batch, longer_batch, taken_otherwise}

module _ (shape : Shape) (cpu : ℕ) (stop : Option (List ℕ)) where
  abbrev Later : ℕ → List KeyValue → Reads Reply
  Later bucket now = read_handing shape cpu stop (buckets_from shape (bucket + 1)) now

  stepped : (bucket room : ℕ) (before : List KeyValue) (turns : List Turn) → bucket < shape.buckets → room ≡ shape.elements - length before
      → read_handing shape cpu stop (buckets_from shape bucket) before turns ≡ then_read (after_handing shape cpu stop bucket before (λ now. Later bucket now)) (read_whole bucket room turns)
  stepped bucket room before turns below room_is =
      ap (λ (l : List ℕ). read_handing shape cpu stop l before turns) (more_buckets shape bucket below)
      ∙ ap (λ (n : ℕ). then_read (after_handing shape cpu stop bucket before (λ now. Later bucket now)) (read_whole bucket n turns)) (sym room_is)

  pub not_handed : (bucket room : ℕ) (before : List KeyValue) (turns : List Turn) → bucket < shape.buckets → room ≡ shape.elements - length before → read_whole bucket room turns ≡ None
      → read_handing shape cpu stop (buckets_from shape bucket) before turns ≡ None
  not_handed bucket room before turns below room_is none =
      stepped bucket room before turns below room_is ∙ ap (then_read (after_handing shape cpu stop bucket before (λ now. Later bucket now))) none

  handed_on : (bucket room : ℕ) (before : List KeyValue) (turns behind : List Turn) (result now : Walked) → bucket < shape.buckets → room ≡ shape.elements - length before → read_whole bucket room turns ≡ Some (result, behind) → result ≡ now
      → read_handing shape cpu stop (buckets_from shape bucket) before turns ≡ after_handing shape cpu stop bucket before (λ more. Later bucket more) now behind
  handed_on bucket room before turns behind result now below room_is read is =
      stepped bucket room before turns below room_is ∙ ap (then_read (after_handing shape cpu stop bucket before (λ more. Later bucket more))) read
      ∙ ap (λ (w : Walked). after_handing shape cpu stop bucket before (λ more. Later bucket more) w behind) is

  pub handed_none : (bucket room n : ℕ) (before : List KeyValue) (turns behind : List Turn) (result : Walked) → bucket < shape.buckets → room ≡ shape.elements - length before → read_whole bucket room turns ≡ Some (result, behind) → result ≡ Over n
      → read_handing shape cpu stop (buckets_from shape bucket) before turns ≡ Some (Batch None before bucket, behind)
  handed_none bucket room n before turns behind result below room_is read is = handed_on bucket room before turns behind result (Over n) below room_is read is

  abbrev pub StopsOrGoes : ℕ → List KeyValue → List Turn → Bool → Option (Reply × List Turn)
  StopsOrGoes bucket now behind stopped =
      if stopped then Some (Batch None now (suc bucket), behind) else read_handing shape cpu stop (buckets_from shape (bucket + 1)) now behind

  pub handed_some : (bucket room : ℕ) (all : List Stored) (before over : List KeyValue) (stopped : Bool) (turns behind : List Turn) (result : Walked) → bucket < shape.buckets → room ≡ shape.elements - length before
      → read_whole bucket room turns ≡ Some (result, behind) → result ≡ Taken all
      → over ≡ up_to_stop stop (map (handed shape cpu) all) → stopped ≡ stops_in stop (map (handed shape cpu) all)
      → read_handing shape cpu stop (buckets_from shape bucket) before turns ≡ StopsOrGoes bucket (before ++ over) behind stopped
  handed_some bucket room all before over stopped turns behind result below room_is read is over_is stopped_is =
      handed_on bucket room before turns behind result (Taken all) below room_is read is
      ∙ ap (λ (l : List KeyValue). StopsOrGoes bucket (before ++ l) behind (stops_in stop (map (handed shape cpu) all))) (sym over_is)
      ∙ ap (λ (b : Bool). StopsOrGoes bucket (before ++ over) behind b) (sym stopped_is)

  pub handing_batch : (buckets : List ℕ) (before : List KeyValue) (turns rest : List Turn) (reply : Reply) → read_handing shape cpu stop buckets before turns ≡ Some (reply, rest) → IsBatch before reply
  handing_batch [] before turns rest reply is = ends_batch None before shape.buckets reply turns rest is
  handing_batch (bucket ∷ buckets) before turns rest reply is =
      by (read_whole bucket (shape.elements - length before) turns) (λ now left. handing_batch buckets now left rest reply) is
    where
      either : (over : List KeyValue) (left : List Turn) (b : Bool) → ((now : List KeyValue) (left : List Turn) → read_handing shape cpu stop buckets now left ≡ Some (reply, rest) → IsBatch now reply)
          → (if b then Some (Batch None (before ++ over) (suc bucket), left) else read_handing shape cpu stop buckets (before ++ over) left) ≡ Some (reply, rest) → IsBatch before reply
      either over left true later some = longer_batch before over reply (ends_batch None (before ++ over) (suc bucket) reply left rest some)
      either over left false later some = longer_batch before over reply (later (before ++ over) left some)

      by : (o : Option (Walked × List Turn)) → ((now : List KeyValue) (left : List Turn) → read_handing shape cpu stop buckets now left ≡ Some (reply, rest) → IsBatch now reply)
          → then_read (after_handing shape cpu stop bucket before (λ now. read_handing shape cpu stop buckets now)) o ≡ Some (reply, rest) → IsBatch before reply
      by None later none = absurd cc
      by (Some (Over n, left)) later some = ends_batch None before bucket reply left rest some
      by (Some (Taken all, left)) later some = either (up_to_stop stop (map (handed shape cpu) all)) left (stops_in stop (map (handed shape cpu) all)) later some

  pub handed_otherwise : (bucket : ℕ) (given pairs : List KeyValue) (count : ℕ) (why : Option Errno) (next : ℕ) (behind rest : List Turn) (stopped : Bool) → count ≤ length given → are_first pairs (drop count given) ≡ false
      → StopsOrGoes bucket (take count given ++ pairs) behind stopped ≡ Some (Batch why given next, rest) → ⊥
  handed_otherwise bucket given pairs count why next behind rest true within differs is =
      let batch = ends_batch None (take count given ++ pairs) (suc bucket) (Batch why given next) behind rest is in
      taken_otherwise given pairs batch.0 count within differs batch.1
  handed_otherwise bucket given pairs count why next behind rest false within differs is =
      let batch = handing_batch (buckets_from shape (bucket + 1)) (take count given ++ pairs) behind rest (Batch why given next) is in
      taken_otherwise given pairs batch.0 count within differs batch.1
