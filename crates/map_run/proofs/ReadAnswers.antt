-- What a batch read may answer by its turns: it takes no more pairs than it was to, and ends at a bucket or past the last.
use Rattle.std.proofs.Common.{◌≡◌, ℕ, ◌-◌, ◌<◌, ◌≤◌, Bool, true, false, eqb, ltb, List, [], ◌∷◌, ◌++◌, length, map, Option, None, Some, refl, ap, sym, ◌∙◌, subst, inl, inr, arith}
use Rattle.std.specs.Prelude.{All, MatchBool, MatchOption, min, unwrap_or}
use Rattle.std.proofs.lemmas.Bool.{eqb-true}
use Rattle.std.proofs.lemmas.List.{length-append, length-map}
use Rattle.std.proofs.lemmas.List.Elements.{All-nil, All-cons, All-head}
use Rattle.map_types.specs.declared.attr.Shape.{Shape}
use Rattle.map_types.specs.declared.call.Verb.TheVariants.{BatchRead}
use Rattle.map_types.specs.declared.kind.DomainId.TheVariants.{Bucket}
use Rattle.map_types.specs.declared.refusal.Errno.{Errno}
use Rattle.map_types.specs.declared.refusal.Errno.TheVariants.{Enoent, Einval}
use Rattle.map_types.specs.declared.reply.Reply.TheVariants.{Done, Refused, Batch}
use Rattle.map_types.specs.Kind.{is_lru}
use Rattle.map_types.specs.Stored.{Stored}
use Rattle.place_words.specs.declared.bucket_part.BucketPart.TheVariants.{Walk}
use Rattle.place_words.specs.declared.bucket_part.Walked.{Walked}
use Rattle.place_words.specs.declared.bucket_part.Walked.TheVariants.{Over, Taken}
use Rattle.place_words.specs.declared.free_part.FreePart.TheVariants.{Pushed}
use Rattle.place_words.specs.declared.history.Part.{Part}
use Rattle.place_words.specs.declared.history.Part.TheVariants as parts
use Rattle.place_words.specs.Buckets.{AllowsInBucket, as_read}
use Rattle.place_words.specs.Histories.{Content, bucket_in, Allows}
use Rattle.place_words.specs.Turns.{Turn, TurnAt, turns_of, on_lock, on_freelist_of}
use Rattle.place_words.specs.Walks.{IsFreedAfter, TakesOut, AfterWalk, Walks, IsReadTrace, buckets_from, pair_of, stopped_at, walked_out}
use Rattle.place_words.proofs.EachTurn.{AreWithin, first_within, others_within, buckets_within}
use Rattle.place_table.specs.declared.view.Turned.{Turned}
use Rattle.place_table.specs.Calls.{IsTold, AreTold, Called}
use Rattle.place_table.specs.Known.{AreAllowedAt, IsAllowedAt, turn_of, turn_at}
use Rattle.place_table.specs.Passes.{PassView, TableView}
use Rattle.hash_ops.proofs.Under.{turns_alone}
use Rattle.map_report.specs.Record.{MayAnswer}
use Rattle.serial_laws.proofs.ListPlaces.{all_in_both}

-- what such a turn took out of a bucket, or read of it, was no more than there was room for
abbrev IsWithinRoom : Turn → Type 0
IsWithinRoom turn = (remove : Bool) (room : ℕ) (all : List Stored) → turn.part ≡ parts.Bucket (Walk remove room (Taken all)) → length all ≤ room

allowed_within : (shape : Shape) (cpu : ℕ) (turn : Turn) (content : Content) → Allows shape cpu turn.part content → IsWithinRoom turn
unfolding AllowsInBucket
allowed_within shape cpu turn content allowed remove room all is = by (bucket_in content) (subst (λ (part : Part). Allows shape cpu part content) is allowed)
  where
    by : (found : Option (List Stored)) → MatchOption found ⊥ (AllowsInBucket shape cpu (Walk remove room (Taken all))) → length all ≤ room
    by None none = absurd none
    by (Some bodies) may = omega (arith, may.0, ap (length {A = Stored}) may.1, length-map bodies (as_read shape cpu))

told_one : (shape : Shape) (lost : List ℕ) (step told : Turned) → IsAllowedAt shape step → IsTold shape lost step told → IsWithinRoom (turn_of shape told)
told_one shape lost step told allowed (inl same, tells) =
    subst (λ (one : Turned). IsWithinRoom (turn_of shape one)) (sym same) (allowed_within shape step.entry.cpu (turn_of shape step) _ allowed.allowed)
told_one shape lost step told allowed (inr could, tells) = allowed_within shape told.entry.cpu (turn_of shape told) _ could.1.allowed

told_within : (shape : Shape) (lost : List ℕ) (steps told : List Turned) → AreAllowedAt shape steps → AreTold shape lost steps told → All IsWithinRoom (map (turn_of shape) told)
told_within shape lost [] [] allowed are = All-nil IsWithinRoom
told_within shape lost [] (told ∷ others) allowed are = absurd are
told_within shape lost (step ∷ steps) [] allowed are = absurd are
told_within shape lost (step ∷ steps) (told ∷ others) allowed are =
    All-cons IsWithinRoom (turn_of shape told) (map (turn_of shape) others) (told_one shape lost step told allowed.0 are.0) (told_within shape lost steps others allowed.1 are.1)

-- Lists of turns

turns_both : (xs ys : List TurnAt) → turns_of (xs ++ ys) ≡ turns_of xs ++ turns_of ys
turns_both [] ys = refl
turns_both (x ∷ xs) ys = ap (λ (turns : List Turn). x.turn ∷ turns) (turns_both xs ys)

module _ (shape : Shape) (cpu : ℕ) where
  -- the turn of the bucket is one of those that take out what it took
  turn_within : (turn : Turn) (gone : List ℕ) (turns : List TurnAt) → TakesOut shape cpu turn gone turns → All IsWithinRoom (turns_of turns) → IsWithinRoom turn
  turn_within turn gone turns out within = by (is_lru shape.kind) out
    where
      by : (lru : Bool) → MatchBool lru (IsFreedAfter shape turn gone turns) (turns_of turns ≡ map (λ e. on_freelist_of cpu (Pushed e)) gone ++ turn ∷ []) → IsWithinRoom turn
      by true freed =
          subst IsWithinRoom freed.bucket_is
          (All-head IsWithinRoom freed.at_bucket.turn (turns_of freed.freeing) (subst (λ (ts : List TurnAt). All IsWithinRoom (turns_of ts)) freed.turns_are within))
      by false pushed =
          All-head IsWithinRoom turn [] (all_in_both IsWithinRoom (map (λ e. on_freelist_of cpu (Pushed e)) gone) (turn ∷ []) (subst (All IsWithinRoom) pushed within)).1

  -- the pairs are no more than the limit, and the next bucket is one of the map's or past the last
  abbrev IsBounded : ℕ → List (List ℕ × List ℕ) → ℕ → Type 0
  IsBounded limit pairs next = (length pairs ≤ limit) × (next ≤ shape.buckets)

  bounded_as : (limit : ℕ) (stop other : Option Errno) (pairs taken : List (List ℕ × List ℕ)) (next bucket : ℕ) → Batch stop pairs next ≡ Batch other taken bucket → length taken ≤ limit → bucket ≤ shape.buckets → IsBounded limit pairs next
  bounded_as limit stop other pairs taken next bucket is few below =
      let same : pairs ≡ taken = cc in
      let here : next ≡ bucket = cc in
      (omega (arith, few, ap (length {A = List ℕ × List ℕ}) same), omega (arith, below, here))

  walks_bounded : (remove : Bool) (limit : ℕ) (buckets : List ℕ) → AreWithin (λ bucket. bucket < shape.buckets) buckets → (taken : List (List ℕ × List ℕ)) → length taken ≤ limit → (turns : List TurnAt) → All IsWithinRoom (turns_of turns)
      → (stop : Option Errno) (pairs : List (List ℕ × List ℕ)) (next : ℕ) → Walks shape cpu remove limit buckets taken turns (Batch stop pairs next) → IsBounded limit pairs next
  walks_bounded remove limit [] below taken few turns within stop pairs next walks = bounded_as limit stop (Some _) pairs taken next shape.buckets walks.1 few (omega arith)
  walks_bounded remove limit (bucket ∷ buckets) below taken few turns within stop pairs next walks =
      by walks.0 walks.1 walks.2 walks.3.0 walks.3.1 walks.3.2
      (λ now fits rest each later. walks_bounded remove limit buckets (others_within (λ b. b < shape.buckets) bucket buckets below) now fits rest each stop pairs next later)
    where
      room : ℕ
      room = limit - length taken

      turn : Walked → Turn
      turn result = on_lock (Bucket bucket) (parts.Bucket (Walk remove room result))

      by : (result : Walked) (one rest : List TurnAt) → turns ≡ one ++ rest → TakesOut shape cpu (turn result) (walked_out remove result) one
          → AfterWalk bucket taken rest (Batch stop pairs next) result (λ now. Walks shape cpu remove limit buckets now rest (Batch stop pairs next))
          → ((now : List (List ℕ × List ℕ)) → length now ≤ limit → (rest : List TurnAt) → All IsWithinRoom (turns_of rest) → Walks shape cpu remove limit buckets now rest (Batch stop pairs next) → IsBounded limit pairs next)
          → IsBounded limit pairs next
      by (Over n) one rest are out ends goes = bounded_as limit stop (stopped_at taken) pairs taken next bucket ends.1 few (omega (arith, first_within (λ b. b < shape.buckets) bucket buckets below))
      by (Taken all) one rest are out later goes =
          let each = all_in_both IsWithinRoom (turns_of one) (turns_of rest) (subst (All IsWithinRoom) (ap turns_of are ∙ turns_both one rest) within) in
          let fits : length all ≤ room = turn_within (turn (Taken all)) (walked_out remove (Taken all)) one out each.0 remove room all refl in
          goes (taken ++ map pair_of all) (omega (arith, fits, few, length-append taken (map pair_of all), length-map all pair_of)) rest each.1 later

  read_bounded : (remove : Bool) (count : ℕ) (start : Option ℕ) (flags : ℕ) (turns : List TurnAt) → All IsWithinRoom (turns_of turns) → (stop : Option Errno) (pairs : List (List ℕ × List ℕ)) (next : ℕ)
      → IsReadTrace shape cpu remove count start flags turns (Batch stop pairs next) → MayAnswer shape (BatchRead remove count start flags) (Batch stop pairs next)
  read_bounded remove count start flags turns within stop pairs next trace = by (eqb flags 0) (eqb count 0) (ltb (unwrap_or start 0) shape.buckets) refl trace
    where
      by : (plainly nothing there : Bool) → eqb flags 0 ≡ plainly
          → MatchBool plainly (MatchBool nothing ((turns ≡ []) × (Batch stop pairs next ≡ Done)) (MatchBool there (Walks shape cpu remove (min count shape.elements) (buckets_from shape (unwrap_or start 0)) [] turns (Batch stop pairs next)) ((turns ≡ []) × (Batch stop pairs next ≡ Refused Enoent)))) ((turns ≡ []) × (Batch stop pairs next ≡ Refused Einval))
          → MayAnswer shape (BatchRead remove count start flags) (Batch stop pairs next)
      by true true there none is = let other = is.1 in absurd cc
      by true false true none walks =
          let bounded = walks_bounded remove (min count shape.elements) (buckets_from shape (unwrap_or start 0)) (buckets_within shape (unwrap_or start 0)) [] (omega arith) turns within stop pairs next walks in
          (eqb-true flags 0 none, omega (arith, bounded.0), bounded.1)
      by true false false none is = let other = is.1 in absurd cc
      by false nothing there some is = let other = is.1 in absurd cc

pub batch_answers : (t : TableView) (before after : PassView) (remove : Bool) (count : ℕ) (start : Option ℕ) (flags : ℕ) (stop : Option Errno) (pairs : List (List ℕ × List ℕ)) (next : ℕ)
    → Called t before after (BatchRead remove count start flags) (Batch stop pairs next) → MayAnswer t.shape (BatchRead remove count start flags) (Batch stop pairs next)
batch_answers t before after remove count start flags stop pairs next called =
    let within = told_within t.shape called.lost called.steps called.told called.leaves.learns.allowed called.told_are in
    read_bounded t.shape before.cpu remove count start flags (map (turn_at t.shape) called.told)
    (subst (All IsWithinRoom) (turns_alone t.shape called.told) within) stop pairs next called.trace
