-- Batch reads and walks over all elements are read as their traces.
use Rattle.std.proofs.Common.{◌≡◌, ℕ, ◌-◌, Bool, true, false, List, [], ◌∷◌, ◌++◌, length, map, Option, Some, refl, ap, ◌∙◌, sym, subst}
use Rattle.std.specs.Prelude.{◌==◌, ◌&&◌, nat_lt, min, unwrap_or, MatchBool}
use Rattle.std.proofs.lemmas.Bool.{and_parts, and_from, eqb-true, eq-eqb}
use Rattle.map_types.specs.declared.attr.Shape.{Shape}
use Rattle.map_types.specs.declared.kind.DomainId.TheVariants.{Bucket}
use Rattle.map_types.specs.declared.refusal.Errno.TheVariants.{Enoent, Einval}
use Rattle.map_types.specs.declared.reply.Reply.{Reply}
use Rattle.map_types.specs.declared.reply.Reply.TheVariants.{Done, Refused, Batch}
use Rattle.map_types.specs.Kind.{is_lru}
use Rattle.place_words.specs.declared.bucket_part.BucketPart.{BucketPart}
use Rattle.place_words.specs.declared.bucket_part.BucketPart.TheVariants.{Lookup, Update, Delete, Take, Next, First, Walk, Evict}
use Rattle.place_words.specs.declared.bucket_part.Walked.{Walked}
use Rattle.place_words.specs.declared.bucket_part.Walked.TheVariants.{Over, Taken}
use Rattle.place_words.specs.declared.history.Part.TheVariants as parts
use Rattle.place_words.specs.PlainTraces.{spare_after}
use Rattle.place_words.specs.Turns.{Turn, TurnAt, turns_of, on_lock}
use Rattle.place_words.specs.Walks.{buckets_from, IsFreedAfter, AfterWalk, Walks, walked_out, pair_of, stopped_at}
use Rattle.trace_check.specs.Reading.{Reads, IsReader, read_nothing, same_turns}
use Rattle.trace_check.specs.Calls.{same_bool, walked_in, pushes_all, read_bucket, after_bucket, read_walks, read_if, read_batch}
use Rattle.trace_check.proofs.Readers.{AreFree, IsThen, IsNothing, nothing_reader, then_reader, match_reader}
use Rattle.trace_check.proofs.Tests.{when_told, when_so, IsAt, at_reader}
use Rattle.trace_check.proofs.Keys.{at_spare}
use Rattle.trace_check.proofs.Puts.{row_tells}
use Rattle.trace_check.proofs.Lifting.{turns_both, in_two, none_of, spare_both}

one_bool : (a b : Bool) → same_bool a b ≡ true → a ≡ b
one_bool true b is = sym is
one_bool false false is = refl
one_bool false true is = absurd cc

bool_same : (a : Bool) → same_bool a a ≡ true
bool_same true = refl
bool_same false = refl

-- a bucket's turn of a walk
pub walk_only : (remove : Bool) (room : ℕ) (part : BucketPart) (result : Walked) → walked_in remove room part ≡ Some result → part ≡ Walk remove room result
walk_only remove room (Lookup s k got) result is = absurd cc
walk_only remove room (Update s f k v offer put) result is = absurd cc
walk_only remove room (Delete k _) result is = absurd cc
walk_only remove room (Take k _) result is = absurd cc
walk_only remove room (Next k found) result is = absurd cc
walk_only remove room (First k) result is = absurd cc
walk_only remove room (Walk r n other) result is =
    let told = when_told (same_bool remove r && room == n) other result is in
    let both = and_parts (same_bool remove r) (room == n) told.0 in
    ap (λ (b : Bool). Walk b n other) (sym (one_bool remove r both.0)) ∙ ap (λ (m : ℕ). Walk remove m other) (sym (eqb-true room n both.1)) ∙ ap (λ (w : Walked). Walk remove room w) told.1
walk_only remove room (Evict e probed) result is = absurd cc

pub walk_says : (remove : Bool) (room : ℕ) (result : Walked) → walked_in remove room (Walk remove room result) ≡ Some result
walk_says remove room result =
    when_so (same_bool remove remove && room == room) result (and_from (same_bool remove remove) (room == room) (bool_same remove) (eq-eqb room room refl))

free_pushes_all : (cpu : ℕ) (gone : List ℕ) → AreFree (pushes_all cpu gone)
free_pushes_all cpu [] = tt
free_pushes_all cpu (e ∷ gone) = (refl, free_pushes_all cpu gone)

abbrev IsBucket : ℕ → ℕ → Bool → ℕ → List Turn → Walked → Type 0
IsBucket cpu bucket remove room = IsAt bucket (λ result. Walk remove room result) (λ result before. before ≡ pushes_all cpu (walked_out remove result))

bucket_reads : (cpu bucket : ℕ) (remove : Bool) (room : ℕ) → IsReader (IsBucket cpu bucket remove room) (read_bucket cpu bucket remove room)
bucket_reads cpu bucket remove room =
    at_reader bucket (λ result. Walk remove room result) (λ result before. before ≡ pushes_all cpu (walked_out remove result)) (walked_in remove room) (λ result before. same_turns (pushes_all cpu (walked_out remove result)) before)
    (row_tells (λ result. Walk remove room result) (walked_in remove room) (λ result. pushes_all cpu (walked_out remove result)) (λ result. free_pushes_all cpu (walked_out remove result)) (walk_says remove room) (walk_only remove room))

-- the walk of a batch, over turns
abbrev AfterBucket : ℕ → List (List ℕ × List ℕ) → (List (List ℕ × List ℕ) → List Turn → Reply → Type 0) → Walked → List Turn → Reply → Type 0
AfterBucket bucket taken More (Over n) = IsNothing (Batch (stopped_at taken) taken bucket)
AfterBucket bucket taken More (Taken all) = More (taken ++ map pair_of all)

abbrev pub PlainWalks : Shape → ℕ → Bool → ℕ → List ℕ → List (List ℕ × List ℕ) → List Turn → Reply → Type 0
PlainWalks shape cpu remove limit [] taken = IsNothing (Batch (Some Enoent) taken shape.buckets)
PlainWalks shape cpu remove limit (bucket ∷ buckets) taken =
    IsThen (IsBucket cpu bucket remove (limit - length taken)) (AfterBucket bucket taken (λ now. PlainWalks shape cpu remove limit buckets now))

after_reads : (bucket : ℕ) (taken : List (List ℕ × List ℕ)) (More : List (List ℕ × List ℕ) → List Turn → Reply → Type 0) (more : List (List ℕ × List ℕ) → Reads Reply) → ((now : List (List ℕ × List ℕ)) → IsReader (More now) (more now)) → (result : Walked) → IsReader (AfterBucket bucket taken More result) (after_bucket bucket taken more result)
after_reads bucket taken More more reads (Over n) = nothing_reader (Batch (stopped_at taken) taken bucket)
after_reads bucket taken More more reads (Taken all) = reads (taken ++ map pair_of all)

module _ (shape : Shape) (cpu : ℕ) (remove : Bool) (limit : ℕ) where
  pub walks_read : (buckets : List ℕ) (taken : List (List ℕ × List ℕ)) → IsReader (PlainWalks shape cpu remove limit buckets taken) (read_walks shape cpu remove limit buckets taken)
  walks_read [] taken = nothing_reader (Batch (Some Enoent) taken shape.buckets)
  walks_read (bucket ∷ buckets) taken =
      then_reader (IsBucket cpu bucket remove (limit - length taken)) (AfterBucket bucket taken (λ now. PlainWalks shape cpu remove limit buckets now))
      (read_bucket cpu bucket remove (limit - length taken)) (after_bucket bucket taken (λ now. read_walks shape cpu remove limit buckets now))
      (bucket_reads cpu bucket remove (limit - length taken))
      (after_reads bucket taken (λ now. PlainWalks shape cpu remove limit buckets now) (λ now. read_walks shape cpu remove limit buckets now) (walks_read buckets))

  after_there : (bucket : ℕ) (taken : List (List ℕ × List ℕ)) (rest : List TurnAt) (reply : Reply) (buckets : List ℕ) (result : Walked)
      → ((now : List (List ℕ × List ℕ)) → Walks shape cpu remove limit buckets now rest reply → PlainWalks shape cpu remove limit buckets now (turns_of rest) reply)
      → AfterWalk bucket taken rest reply result (λ now. Walks shape cpu remove limit buckets now rest reply)
      → AfterBucket bucket taken (λ now. PlainWalks shape cpu remove limit buckets now) result (turns_of rest) reply
  after_there bucket taken rest reply buckets (Over n) more is = (ap turns_of is.0, is.1)
  after_there bucket taken rest reply buckets (Taken all) more is = more (taken ++ map pair_of all) is

  after_back : (bucket : ℕ) (taken : List (List ℕ × List ℕ)) (rest : List TurnAt) (reply : Reply) (buckets : List ℕ) (result : Walked)
      → ((now : List (List ℕ × List ℕ)) → PlainWalks shape cpu remove limit buckets now (turns_of rest) reply → Walks shape cpu remove limit buckets now rest reply)
      → AfterBucket bucket taken (λ now. PlainWalks shape cpu remove limit buckets now) result (turns_of rest) reply
      → AfterWalk bucket taken rest reply result (λ now. Walks shape cpu remove limit buckets now rest reply)
  after_back bucket taken rest reply buckets (Over n) more is = (none_of rest is.0, is.1)
  after_back bucket taken rest reply buckets (Taken all) more is = more (taken ++ map pair_of all) is

  module _ (plain : is_lru shape.kind ≡ false) where
    pub walks_there : (buckets : List ℕ) (taken : List (List ℕ × List ℕ)) (turns : List TurnAt) (reply : Reply) → Walks shape cpu remove limit buckets taken turns reply → PlainWalks shape cpu remove limit buckets taken (turns_of turns) reply
    walks_there [] taken turns reply is = (ap turns_of is.0, is.1)
    walks_there (bucket ∷ buckets) taken turns reply is =
        let result : Walked = is.0 in
        let one : List TurnAt = is.1 in
        let rest : List TurnAt = is.2 in
        let turn : Turn = on_lock (Bucket bucket) (parts.Bucket (Walk remove (limit - length taken) result)) in
        record {
          middle = result;
          ys = turns_of one;
          zs = turns_of rest;
          xs_are = ap turns_of is.3.0 ∙ turns_both one rest;
          first = record {
            before = pushes_all cpu (walked_out remove result);
            looks = refl;
            xs_are = subst (λ (b : Bool). MatchBool b (IsFreedAfter shape turn (walked_out remove result) one) (turns_of one ≡ pushes_all cpu (walked_out remove result) ++ turn ∷ [])) plain is.3.1;
          };
          second = after_there bucket taken rest reply buckets result (λ now more. walks_there buckets now rest reply more) is.3.2;
        }

    pub walks_back : (buckets : List ℕ) (taken : List (List ℕ × List ℕ)) (turns : List TurnAt) (reply : Reply) → PlainWalks shape cpu remove limit buckets taken (turns_of turns) reply → Walks shape cpu remove limit buckets taken turns reply
    walks_back [] taken turns reply is = (none_of turns is.0, is.1)
    walks_back (bucket ∷ buckets) taken turns reply is =
        let two = in_two turns is.ys is.zs is.xs_are in
        let result : Walked = is.middle in
        let turn : Turn = on_lock (Bucket bucket) (parts.Bucket (Walk remove (limit - length taken) result)) in
        let one_is : turns_of two.one ≡ pushes_all cpu (walked_out remove result) ++ turn ∷ [] =
        two.first ∙ is.first.xs_are ∙ ap (λ (l : List Turn). l ++ turn ∷ []) is.first.looks in
        let second : AfterBucket bucket taken (λ now. PlainWalks shape cpu remove limit buckets now) result (turns_of two.more) reply =
        subst (λ (l : List Turn). AfterBucket bucket taken (λ now. PlainWalks shape cpu remove limit buckets now) result l reply) (sym two.second) is.second in (
          result,
          two.one,
          two.more,
          (
            two.turns_are,
            subst (λ (b : Bool). MatchBool b (IsFreedAfter shape turn (walked_out remove result) two.one) (turns_of two.one ≡ pushes_all cpu (walked_out remove result) ++ turn ∷ [])) (sym plain) one_is,
            after_back bucket taken two.more reply buckets result (λ now more. walks_back buckets now two.more reply more) second,
          ),
        )

  after_spare : (spare : Option ℕ) (bucket : ℕ) (taken : List (List ℕ × List ℕ)) (buckets : List ℕ) (xs : List Turn) (reply : Reply) (result : Walked)
      → ((now : List (List ℕ × List ℕ)) → PlainWalks shape cpu remove limit buckets now xs reply → spare_after spare xs ≡ spare)
      → AfterBucket bucket taken (λ now. PlainWalks shape cpu remove limit buckets now) result xs reply → spare_after spare xs ≡ spare
  after_spare spare bucket taken buckets xs reply (Over n) more is = ap (spare_after spare) is.0
  after_spare spare bucket taken buckets xs reply (Taken all) more is = more (taken ++ map pair_of all) is

  -- a walk leaves the spare as it is
  pub walks_spare : (spare : Option ℕ) (buckets : List ℕ) (taken : List (List ℕ × List ℕ)) (xs : List Turn) (reply : Reply) → PlainWalks shape cpu remove limit buckets taken xs reply → spare_after spare xs ≡ spare
  walks_spare spare [] taken xs reply is = ap (spare_after spare) is.0
  walks_spare spare (bucket ∷ buckets) taken xs reply is =
      ap (spare_after spare) is.xs_are ∙ spare_both spare is.ys is.zs
      ∙ ap (λ (o : Option ℕ). spare_after o is.zs) (at_spare spare is.ys is.middle is.first (subst AreFree (sym is.first.looks) (free_pushes_all cpu (walked_out remove is.middle))))
      ∙ after_spare spare bucket taken buckets is.zs reply is.middle (λ now more. walks_spare spare buckets now is.zs reply more) is.second

-- a batch read, over turns
abbrev pub PlainRead : Shape → ℕ → Bool → ℕ → Option ℕ → ℕ → List Turn → Reply → Type 0
PlainRead shape cpu remove count start flags xs reply =
    MatchBool (flags == 0)
    (MatchBool (count == 0)
    (IsNothing Done xs reply)
    (MatchBool (nat_lt (unwrap_or start 0) shape.buckets)
    (PlainWalks shape cpu remove (min count shape.elements) (buckets_from shape (unwrap_or start 0)) [] xs reply)
    (IsNothing (Refused Enoent) xs reply)))
    (IsNothing (Refused Einval) xs reply)

pub batch_reads : (shape : Shape) (cpu : ℕ) (remove : Bool) (count : ℕ) (start : Option ℕ) (flags : ℕ) → IsReader (PlainRead shape cpu remove count start flags) (read_batch shape cpu remove count start flags)
batch_reads shape cpu remove count start flags =
    match_reader (flags == 0) Counted (IsNothing (Refused Einval)) counted (read_nothing (Refused Einval))
    (match_reader (count == 0) (IsNothing Done) Started (read_nothing Done) started (nothing_reader Done)
    (match_reader (nat_lt (unwrap_or start 0) shape.buckets) Walked_on (IsNothing (Refused Enoent)) walked_on (read_nothing (Refused Enoent))
    (walks_read shape cpu remove (min count shape.elements) (buckets_from shape (unwrap_or start 0)) []) (nothing_reader (Refused Enoent))))
    (nothing_reader (Refused Einval))
  where
    Walked_on : List Turn → Reply → Type 0
    Walked_on = PlainWalks shape cpu remove (min count shape.elements) (buckets_from shape (unwrap_or start 0)) []

    walked_on : Reads Reply
    walked_on = read_walks shape cpu remove (min count shape.elements) (buckets_from shape (unwrap_or start 0)) []

    Started : List Turn → Reply → Type 0
    Started xs reply = MatchBool (nat_lt (unwrap_or start 0) shape.buckets) (Walked_on xs reply) (IsNothing (Refused Enoent) xs reply)

    started : Reads Reply
    started = read_if (nat_lt (unwrap_or start 0) shape.buckets) walked_on (read_nothing (Refused Enoent))

    Counted : List Turn → Reply → Type 0
    Counted xs reply = MatchBool (count == 0) (IsNothing Done xs reply) (Started xs reply)

    counted : Reads Reply
    counted = read_if (count == 0) (read_nothing Done) started
