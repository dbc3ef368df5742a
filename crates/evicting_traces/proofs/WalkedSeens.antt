-- A batch read against the pairs of a given reply.
use Rattle.std.proofs.Common.{◌≡◌, ℕ, ◌+◌, ◌-◌, ◌<◌, ◌≤◌, Bool, false, List, [], ◌∷◌, ◌++◌, length, map, take, drop, Option, None, Some, ap, sym, ◌∙◌, subst}
use Rattle.std.proofs.lemmas.List.{append-nil}
use Rattle.std.proofs.lemmas.Option.{same_Some}
use Rattle.map_types.specs.declared.attr.Shape.{Shape}
use Rattle.map_types.specs.declared.refusal.Errno.{Errno}
use Rattle.map_types.specs.declared.refusal.Errno.TheVariants.{Enoent}
use Rattle.map_types.specs.declared.reply.Reply.{Reply}
use Rattle.map_types.specs.declared.reply.Reply.TheVariants.{Batch}
use Rattle.map_types.specs.Stored.{Stored}
use Rattle.place_words.specs.declared.bucket_part.Walked.{Walked}
use Rattle.place_words.specs.declared.bucket_part.Walked.TheVariants.{Over, Taken}
use Rattle.place_words.specs.Walks.{buckets_from, stopped_at, pair_of}
use Rattle.trace_check.specs.Pairs.{are_first}
use Rattle.trace_check.proofs.Answering.{more_buckets}
use Rattle.trace_check.proofs.WalkedPairs.{KeyValue, IsBatch, longer_batch, taken_otherwise}
use Rattle.evicting_traces.specs.Reading.{Seen, then_read}
use Rattle.evicting_traces.specs.Calls.{read_emptied, after_bucket, read_walks}

ends_batch : (stop : Option Errno) (taken : List KeyValue) (next : ℕ) (reply : Reply) (seens rest : List Seen) → ◌≡◌ {A = Option (Reply × List Seen)} (Some (Batch stop taken next, seens)) (Some (reply, rest)) → IsBatch taken reply
ends_batch stop taken next reply seens rest is =
    let pair : ◌≡◌ {A = Reply × List Seen} (Batch stop taken next, seens) (reply, rest) = same_Some (Batch stop taken next, seens) (reply, rest) is in
    subst (IsBatch taken) (ap (λ (p : Reply × List Seen). p.0) pair) ([], sym (append-nil taken))

module _ (shape : Shape) (remove : Bool) (limit : ℕ) where
  stepped : (bucket room : ℕ) (taken : List KeyValue) (seens : List Seen) → bucket < shape.buckets → room ≡ limit - length taken
      → read_walks shape remove limit (buckets_from shape bucket) taken seens
      ≡ then_read (after_bucket bucket taken (λ now. read_walks shape remove limit (buckets_from shape (bucket + 1)) now)) (read_emptied shape bucket remove room seens)
  stepped bucket room taken seens below room_is =
      ap (λ (l : List ℕ). read_walks shape remove limit l taken seens) (more_buckets shape bucket below)
      ∙ ap (λ (n : ℕ). then_read (after_bucket bucket taken (λ now. read_walks shape remove limit (buckets_from shape (bucket + 1)) now)) (read_emptied shape bucket remove n seens)) (sym room_is)

  pub not_walked : (bucket room : ℕ) (taken : List KeyValue) (seens : List Seen) → bucket < shape.buckets → room ≡ limit - length taken → read_emptied shape bucket remove room seens ≡ None
      → read_walks shape remove limit (buckets_from shape bucket) taken seens ≡ None
  not_walked bucket room taken seens below room_is none =
      stepped bucket room taken seens below room_is ∙ ap (then_read (after_bucket bucket taken (λ now. read_walks shape remove limit (buckets_from shape (bucket + 1)) now))) none

  walked : (bucket room : ℕ) (taken : List KeyValue) (seens behind : List Seen) (result now : Walked) → bucket < shape.buckets → room ≡ limit - length taken → read_emptied shape bucket remove room seens ≡ Some (result, behind) → result ≡ now
      → read_walks shape remove limit (buckets_from shape bucket) taken seens ≡ after_bucket bucket taken (λ now. read_walks shape remove limit (buckets_from shape (bucket + 1)) now) now behind
  walked bucket room taken seens behind result now below room_is read is =
      stepped bucket room taken seens below room_is ∙ ap (then_read (after_bucket bucket taken (λ now. read_walks shape remove limit (buckets_from shape (bucket + 1)) now))) read
      ∙ ap (λ (w : Walked). after_bucket bucket taken (λ now. read_walks shape remove limit (buckets_from shape (bucket + 1)) now) w behind) is

  pub walked_over : (bucket room n : ℕ) (taken : List KeyValue) (seens behind : List Seen) (result : Walked) → bucket < shape.buckets → room ≡ limit - length taken → read_emptied shape bucket remove room seens ≡ Some (result, behind) → result ≡ Over n
      → read_walks shape remove limit (buckets_from shape bucket) taken seens ≡ Some (Batch (stopped_at taken) taken bucket, behind)
  walked_over bucket room n taken seens behind result below room_is read is = walked bucket room taken seens behind result (Over n) below room_is read is

  pub walked_on : (bucket room : ℕ) (all : List Stored) (taken : List KeyValue) (seens behind : List Seen) (result : Walked) → bucket < shape.buckets → room ≡ limit - length taken → read_emptied shape bucket remove room seens ≡ Some (result, behind) → result ≡ Taken all
      → read_walks shape remove limit (buckets_from shape bucket) taken seens ≡ read_walks shape remove limit (buckets_from shape (bucket + 1)) (taken ++ map pair_of all) behind
  walked_on bucket room all taken seens behind result below room_is read is = walked bucket room taken seens behind result (Taken all) below room_is read is

  pub walks_batch : (buckets : List ℕ) (taken : List KeyValue) (seens rest : List Seen) (reply : Reply) → read_walks shape remove limit buckets taken seens ≡ Some (reply, rest) → IsBatch taken reply
  walks_batch [] taken seens rest reply is = ends_batch (Some Enoent) taken shape.buckets reply seens rest is
  walks_batch (bucket ∷ buckets) taken seens rest reply is =
      by (read_emptied shape bucket remove (limit - length taken) seens) (λ now left. walks_batch buckets now left rest reply) is
    where
      by : (o : Option (Walked × List Seen)) → ((now : List KeyValue) (left : List Seen) → read_walks shape remove limit buckets now left ≡ Some (reply, rest) → IsBatch now reply)
          → then_read (after_bucket bucket taken (λ now. read_walks shape remove limit buckets now)) o ≡ Some (reply, rest) → IsBatch taken reply
      by None later none = absurd cc
      by (Some (Over n, left)) later some = ends_batch (stopped_at taken) taken bucket reply left rest some
      by (Some (Taken all, left)) later some = longer_batch taken (map pair_of all) reply (later (taken ++ map pair_of all) left some)

  pub walked_otherwise : (bucket : ℕ) (given pairs : List KeyValue) (count : ℕ) (stop : Option Errno) (next : ℕ) (seens rest : List Seen) → count ≤ length given → are_first pairs (drop count given) ≡ false
      → read_walks shape remove limit (buckets_from shape bucket) (take count given ++ pairs) seens ≡ Some (Batch stop given next, rest) → ⊥
  walked_otherwise bucket given pairs count stop next seens rest within differ is =
      let batch = walks_batch (buckets_from shape bucket) (take count given ++ pairs) seens rest (Batch stop given next) is in
      taken_otherwise given pairs batch.0 count within differ batch.1
