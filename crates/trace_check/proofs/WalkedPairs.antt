-- A walk over buckets against the pairs of a given reply.
use Rattle.std.proofs.Common.{◌≡◌, ℕ, ◌+◌, ◌-◌, ◌<◌, ◌≤◌, Bool, true, false, List, [], ◌∷◌, ◌++◌, length, map, take, drop, Option, None, Some, refl, ap, sym, ◌∙◌, subst, arith, length-drop}
use Rattle.std.specs.Prelude.{◌&&◌, bytes_eq}
use Rattle.std.proofs.Math.Seq.{take-add}
use Rattle.std.proofs.lemmas.List.{append_assoc, append-nil, length-take-le}
use Rattle.std.proofs.lemmas.Option.{same_Some}
use Rattle.std.proofs.lemmas.Slice.Eq.{bytes_eq-Decides}
use Rattle.map_types.specs.declared.attr.Shape.{Shape}
use Rattle.map_types.specs.declared.refusal.Errno.{Errno}
use Rattle.map_types.specs.declared.refusal.Errno.TheVariants.{Enoent}
use Rattle.map_types.specs.declared.reply.Reply.{Reply}
use Rattle.map_types.specs.declared.reply.Reply.TheVariants.{Done, Value, Refused, Batch, Count}
use Rattle.map_types.specs.Stored.{Stored}
use Rattle.place_words.specs.declared.bucket_part.Walked.{Walked}
use Rattle.place_words.specs.declared.bucket_part.Walked.TheVariants.{Over, Taken}
use Rattle.place_words.specs.Turns.{Turn}
use Rattle.place_words.specs.Walks.{buckets_from, stopped_at, pair_of}
use Rattle.trace_check.specs.Calls.{read_bucket, after_bucket, read_walks}
use Rattle.trace_check.specs.Pairs.{same_pair, are_first}
use Rattle.trace_check.specs.Reading.{then_read}
use Rattle.trace_check.proofs.Answering.{more_buckets}

abbrev pub KeyValue : Type 0
KeyValue = List ℕ × List ℕ

both_true : (a b : Bool) → (a && b) ≡ true → (a ≡ true) × (b ≡ true)
both_true true b is = (refl, is)
both_true false b is = absurd cc

same_of : (one other : KeyValue) → same_pair one other ≡ true → one ≡ other
same_of (k, v) (l, w) is =
    let parts = both_true (bytes_eq k l) (bytes_eq v w) is in
    ap (λ (x : List ℕ). (x, v)) ((bytes_eq-Decides k l).0 parts.0) ∙ ap (λ (x : List ℕ). (l, x)) ((bytes_eq-Decides v w).0 parts.1)

same_self : (pair : KeyValue) → same_pair pair pair ≡ true
same_self (k, v) = ap (λ (b : Bool). b && bytes_eq v v) ((bytes_eq-Decides k k).1 refl) ∙ (bytes_eq-Decides v v).1 refl

-- the first of a list are these
pub first_of : (pairs given : List KeyValue) → are_first pairs given ≡ true → (length pairs ≤ length given) × (take (length pairs) given ≡ pairs)
first_of [] given is = (omega arith, refl)
first_of (pair ∷ pairs) [] is = absurd cc
first_of (pair ∷ pairs) (other ∷ given) is =
    let parts = both_true (same_pair pair other) (are_first pairs given) is in
    let rest = first_of pairs given parts.1 in
    (omega (arith, rest.0), ap (λ (l : List KeyValue). other ∷ l) rest.1 ∙ ap (λ (p : KeyValue). p ∷ pairs) (sym (same_of pair other parts.0)))

first_there : (pairs more : List KeyValue) → are_first pairs (pairs ++ more) ≡ true
first_there [] more = refl
first_there (pair ∷ pairs) more = ap (λ (b : Bool). b && are_first pairs (pairs ++ more)) (same_self pair) ∙ first_there pairs more

dropped : (front more : List KeyValue) (n : ℕ) → length front ≡ n → drop n (front ++ more) ≡ more
dropped front more n is = ap (λ (k : ℕ). drop k (front ++ more)) (sym is) ∙ off front
  where
    off : (l : List KeyValue) → drop (length l) (l ++ more) ≡ more
    off [] = refl
    off (x ∷ l) = off l

-- up to this place the given pairs are those before and these
pub taken_to : (given pairs : List KeyValue) (count long place : ℕ) → count ≤ length given → are_first pairs (drop count given) ≡ true → long ≡ length pairs → place ≡ count + long
    → (place ≤ length given) × (take count given ++ pairs ≡ take place given)
taken_to given pairs count long place within are long_is place_is =
    let first = first_of pairs (drop count given) are in
    let left : length (drop count given) ≡ length given - count = length-drop count given in (
      omega (arith, first.0, left, long_is, place_is),
      ap (λ (l : List KeyValue). take count given ++ l) (sym first.1) ∙ ap (λ (n : ℕ). take count given ++ take n (drop count given)) (sym long_is)
          ∙ sym (take-add count long given) ∙ ap (λ (n : ℕ). take n given) (sym place_is),
    )

-- and where they aren't, no list that begins so is the given one
pub taken_otherwise : (given pairs more : List KeyValue) (count : ℕ) → count ≤ length given → are_first pairs (drop count given) ≡ false → given ≡ (take count given ++ pairs) ++ more → ⊥
taken_otherwise given pairs more count within differ is =
    let front : length (take count given) ≡ count = length-take-le count given within in
    let left : drop count given ≡ pairs ++ more =
    ap (λ (l : List KeyValue). drop count l) (is ∙ append_assoc (take count given) pairs more) ∙ dropped (take count given) (pairs ++ more) count front in
    let same : true ≡ false = sym (ap (λ (l : List KeyValue). are_first pairs l) left ∙ first_there pairs more) ∙ differ in
    absurd cc

pub room_is : (given : List KeyValue) (count limit bound room : ℕ) → count ≤ length given → room ≡ limit - count → limit ≡ bound → room ≡ bound - length (take count given)
room_is given count limit bound room within is same =
    let front : length (take count given) ≡ count = length-take-le count given within in
    omega (arith, front, is, same)

-- a reply with pairs that begin so
abbrev pub IsBatch : List KeyValue → Reply → Type 0
IsBatch taken Done = ⊥
IsBatch taken (Value bytes) = ⊥
IsBatch taken (Refused errno) = ⊥
IsBatch taken (Batch stop all next) = (more : List KeyValue) × (all ≡ taken ++ more)
IsBatch taken (Count stop done) = ⊥

pub longer_batch : (taken pairs : List KeyValue) (reply : Reply) → IsBatch (taken ++ pairs) reply → IsBatch taken reply
longer_batch taken pairs Done is = is
longer_batch taken pairs (Value bytes) is = is
longer_batch taken pairs (Refused errno) is = is
longer_batch taken pairs (Batch stop all next) is = (pairs ++ is.0, is.1 ∙ append_assoc taken pairs is.0)
longer_batch taken pairs (Count stop done) is = is

pub ends_batch : (stop : Option Errno) (taken : List KeyValue) (next : ℕ) (reply : Reply) (turns rest : List Turn) → ◌≡◌ {A = Option (Reply × List Turn)} (Some (Batch stop taken next, turns)) (Some (reply, rest)) → IsBatch taken reply
ends_batch stop taken next reply turns rest is =
    let pair : ◌≡◌ {A = Reply × List Turn} (Batch stop taken next, turns) (reply, rest) = same_Some (Batch stop taken next, turns) (reply, rest) is in
    subst (IsBatch taken) (ap (λ (p : Reply × List Turn). p.0) pair) ([], sym (append-nil taken))

pub is_a_batch : (taken : List KeyValue) (reply : Reply) → IsBatch taken reply → ((stop : Option Errno) (all : List KeyValue) (next : ℕ) → reply ≡ Batch stop all next → ⊥) → ⊥
is_a_batch taken Done is differs = is
is_a_batch taken (Value bytes) is differs = is
is_a_batch taken (Refused errno) is differs = is
is_a_batch taken (Batch stop all next) is differs = differs stop all next refl
is_a_batch taken (Count stop done) is differs = is

module _ (shape : Shape) (cpu : ℕ) (remove : Bool) (limit : ℕ) where
  stepped : (bucket room : ℕ) (taken : List KeyValue) (turns : List Turn) → bucket < shape.buckets → room ≡ limit - length taken
      → read_walks shape cpu remove limit (buckets_from shape bucket) taken turns
      ≡ then_read (after_bucket bucket taken (λ now. read_walks shape cpu remove limit (buckets_from shape (bucket + 1)) now)) (read_bucket cpu bucket remove room turns)
  stepped bucket room taken turns below room_is =
      ap (λ (l : List ℕ). read_walks shape cpu remove limit l taken turns) (more_buckets shape bucket below)
      ∙ ap (λ (n : ℕ). then_read (after_bucket bucket taken (λ now. read_walks shape cpu remove limit (buckets_from shape (bucket + 1)) now)) (read_bucket cpu bucket remove n turns)) (sym room_is)

  pub not_walked : (bucket room : ℕ) (taken : List KeyValue) (turns : List Turn) → bucket < shape.buckets → room ≡ limit - length taken → read_bucket cpu bucket remove room turns ≡ None
      → read_walks shape cpu remove limit (buckets_from shape bucket) taken turns ≡ None
  not_walked bucket room taken turns below room_is none =
      stepped bucket room taken turns below room_is ∙ ap (then_read (after_bucket bucket taken (λ now. read_walks shape cpu remove limit (buckets_from shape (bucket + 1)) now))) none

  walked : (bucket room : ℕ) (taken : List KeyValue) (turns behind : List Turn) (result now : Walked) → bucket < shape.buckets → room ≡ limit - length taken → read_bucket cpu bucket remove room turns ≡ Some (result, behind) → result ≡ now
      → read_walks shape cpu remove limit (buckets_from shape bucket) taken turns ≡ after_bucket bucket taken (λ now. read_walks shape cpu remove limit (buckets_from shape (bucket + 1)) now) now behind
  walked bucket room taken turns behind result now below room_is read is =
      stepped bucket room taken turns below room_is ∙ ap (then_read (after_bucket bucket taken (λ now. read_walks shape cpu remove limit (buckets_from shape (bucket + 1)) now))) read
      ∙ ap (λ (w : Walked). after_bucket bucket taken (λ now. read_walks shape cpu remove limit (buckets_from shape (bucket + 1)) now) w behind) is

  pub walked_over : (bucket room n : ℕ) (taken : List KeyValue) (turns behind : List Turn) (result : Walked) → bucket < shape.buckets → room ≡ limit - length taken → read_bucket cpu bucket remove room turns ≡ Some (result, behind) → result ≡ Over n
      → read_walks shape cpu remove limit (buckets_from shape bucket) taken turns ≡ Some (Batch (stopped_at taken) taken bucket, behind)
  walked_over bucket room n taken turns behind result below room_is read is = walked bucket room taken turns behind result (Over n) below room_is read is

  pub walked_on : (bucket room : ℕ) (all : List Stored) (taken : List KeyValue) (turns behind : List Turn) (result : Walked) → bucket < shape.buckets → room ≡ limit - length taken → read_bucket cpu bucket remove room turns ≡ Some (result, behind) → result ≡ Taken all
      → read_walks shape cpu remove limit (buckets_from shape bucket) taken turns ≡ read_walks shape cpu remove limit (buckets_from shape (bucket + 1)) (taken ++ map pair_of all) behind
  walked_on bucket room all taken turns behind result below room_is read is = walked bucket room taken turns behind result (Taken all) below room_is read is

  pub walks_batch : (buckets : List ℕ) (taken : List KeyValue) (turns rest : List Turn) (reply : Reply) → read_walks shape cpu remove limit buckets taken turns ≡ Some (reply, rest) → IsBatch taken reply
  walks_batch [] taken turns rest reply is = ends_batch (Some Enoent) taken shape.buckets reply turns rest is
  walks_batch (bucket ∷ buckets) taken turns rest reply is =
      by (read_bucket cpu bucket remove (limit - length taken) turns) (λ now left. walks_batch buckets now left rest reply) is
    where
      by : (o : Option (Walked × List Turn)) → ((now : List KeyValue) (left : List Turn) → read_walks shape cpu remove limit buckets now left ≡ Some (reply, rest) → IsBatch now reply)
          → then_read (after_bucket bucket taken (λ now. read_walks shape cpu remove limit buckets now)) o ≡ Some (reply, rest) → IsBatch taken reply
      by None later none = absurd cc
      by (Some (Over n, left)) later some = ends_batch (stopped_at taken) taken bucket reply left rest some
      by (Some (Taken all, left)) later some = longer_batch taken (map pair_of all) reply (later (taken ++ map pair_of all) left some)

  pub walked_otherwise : (bucket : ℕ) (given pairs : List KeyValue) (count : ℕ) (stop : Option Errno) (next : ℕ) (turns rest : List Turn) → count ≤ length given → are_first pairs (drop count given) ≡ false
      → read_walks shape cpu remove limit (buckets_from shape bucket) (take count given ++ pairs) turns ≡ Some (Batch stop given next, rest) → ⊥
  walked_otherwise bucket given pairs count stop next turns rest within differ is =
      let batch = walks_batch (buckets_from shape bucket) (take count given ++ pairs) turns rest (Batch stop given next) is in
      taken_otherwise given pairs batch.0 count within differ batch.1
