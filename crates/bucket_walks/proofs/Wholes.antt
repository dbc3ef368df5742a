-- The turn of a bucket that a batch lookup reads, and the buckets from one on: each is read whole, up to the first for which there
-- is no room.
use Rattle.std.proofs.Common.{◌≡◌, ℕ, ◌+◌, ◌-◌, ◌<◌, ◌≤◌, cond, Bool, true, false, List, [], ◌∷◌, ◌++◌, length, map, sym, refl, ap, ◌∙◌, subst, arith, Some}
use Rattle.std.specs.Prelude.{min, nat_lt, MatchBool}
use Rattle.std.specs.List.{range_with_len}
use Rattle.std.proofs.lemmas.Bool.{lt-ltb, le-ltb, ltb-true, ltb-false}
use Rattle.std.proofs.lemmas.List.{length-map, length-append, map-append, append_assoc}
use Rattle.std.proofs.lemmas.List.FromFn.{length-range_with_len}
use Rattle.map_types.specs.declared.attr.Shape.{Shape}
use Rattle.map_types.specs.declared.kind.DomainId.TheVariants.{Bucket}
use Rattle.map_types.specs.declared.kind.Side.TheVariants.{Sys}
use Rattle.map_types.specs.declared.refusal.Errno.TheVariants.{Enoent}
use Rattle.map_types.specs.declared.reply.Reply.{Reply}
use Rattle.map_types.specs.declared.reply.Reply.TheVariants.{Batch}
use Rattle.map_types.specs.Kind.{is_lru}
use Rattle.map_types.specs.Pairs.{HaveSizes}
use Rattle.map_types.specs.Stored.{Stored}
use Rattle.map_types.specs.ValueLen.{value_len_of}
use Rattle.bucket_chain.specs.Turns.{IsTurn}
use Rattle.place_words.specs.declared.bucket_part.BucketPart.TheVariants.{Walk}
use Rattle.place_words.specs.declared.bucket_part.Walked.{Walked}
use Rattle.place_words.specs.declared.bucket_part.Walked.TheVariants.{Over, Taken}
use Rattle.place_words.specs.declared.history.Part.TheVariants as parts
use Rattle.place_words.specs.Buckets.{AllowsInBucket, bucket_after}
use Rattle.place_words.specs.Turns.{Turn, TurnAt, on_lock}
use Rattle.place_words.specs.Walks.{Walks, TakesOut, IsFreedAfter, buckets_from, pair_of, stopped_at}
use Rattle.place_table.specs.declared.view.Turned.{Turned}
use Rattle.place_table.specs.Known.{turn_at}
use Rattle.place_table.specs.Passes.{PassView, TableView}
use Rattle.place_table.proofs.Entries.{append_nil}
use Rattle.place_table.proofs.Worlds.{by_bool, true_false}
use Rattle.bucket_walks.specs.Looks.{Looked, LooksInto}
use Rattle.bucket_walks.specs.BatchReads.{PairsSoFar, BeginsAt, IsOfMap, IsGathered, FitsRoom, ReadsInto, ReadsOn, stop_of, walked_by, with_pairs, all_read}
use Rattle.bucket_walks.proofs.Paged.{sizes_append, page_before, page_whole}
use Rattle.bucket_walks.proofs.Past.{range_before, before_none, before_more, before_here, before_all}
use Rattle.bucket_walks.proofs.Told.{looked_nowhere, looked_on}

-- One turn

left_alone : (shape : Shape) (cpu room : ℕ) (bodies : List Stored) → room < length bodies → IsTurn shape cpu (Walk false room (Over (length bodies))) bodies bodies
unfolding AllowsInBucket bucket_after
left_alone shape cpu room bodies over = record { allowed = (refl, over); left = refl }

read_out : (shape : Shape) (cpu room : ℕ) (bodies : List Stored) → length bodies ≤ room → IsTurn shape cpu (Walk false room (Taken (all_read shape cpu bodies))) bodies bodies
unfolding AllowsInBucket bucket_after
read_out shape cpu room bodies fits = record { allowed = (fits, refl); left = refl }

-- a batch reads a bucket whole exactly where there is room for it
pub walk_turn : (shape : Shape) (cpu room : ℕ) (bodies : List Stored) → IsTurn shape cpu (Walk false room (walked_by shape cpu room bodies)) bodies bodies
walk_turn shape cpu room bodies =
    by_bool (nat_lt room (length bodies)) (λ b. IsTurn shape cpu (Walk false room (cond b (Over (length bodies)) (Taken (all_read shape cpu bodies)))) bodies bodies)
    (λ over. left_alone shape cpu room bodies (ltb-true room (length bodies) over))
    (λ fits. read_out shape cpu room bodies (ltb-false room (length bodies) fits))

-- by the shape and the CPU that the table tells
pub walk_turn_told : (shape told : Shape) (cpu cpu_told room : ℕ) (bodies : List Stored) → told ≡ shape → cpu_told ≡ cpu → IsTurn shape cpu (Walk false room (walked_by told cpu_told room bodies)) bodies bodies
walk_turn_told shape told cpu cpu_told room bodies shape_is cpu_is =
    subst (λ (z : Shape × ℕ). IsTurn shape cpu (Walk false room (walked_by z.0 z.1 room bodies)) bodies bodies) (λ i. (sym shape_is i, sym cpu_is i)) (walk_turn shape cpu room bodies)

-- with the room that is left
pub reads_into : {t : TableView} {bucket : ℕ} {p s : PassView} {out now : PairsSoFar} (shape : Shape) (cpu room : ℕ) (bodies : List Stored) (whole : Bool) → room ≡ out.limit - length out.pairs → LooksInto t bucket p s (Walk false room (walked_by shape cpu room bodies))
    → IsGathered (walked_by shape cpu (out.limit - length out.pairs) bodies) whole out now
    → FitsRoom t.shape (out.limit - length out.pairs) (walked_by shape cpu (out.limit - length out.pairs) bodies) → ReadsInto t bucket p s whole out now
reads_into {t} {bucket} {p} {s} {out} shape cpu room bodies whole is into gathered fits = record {
  walked = walked_by shape cpu (out.limit - length out.pairs) bodies;
  into = subst (λ (n : ℕ). LooksInto t bucket p s (Walk false n (walked_by shape cpu n bodies))) is into;
  gathered = gathered;
  fits = fits;
}

-- Traces

-- nothing is taken out, so a bucket's turn stands alone
takes_none : (shape : Shape) (cpu : ℕ) (at : TurnAt) (turn : Turn) → at.turn ≡ turn → TakesOut shape cpu turn [] (at ∷ [])
takes_none shape cpu at turn is =
    by_bool (is_lru shape.kind) (λ b. MatchBool b (IsFreedAfter shape turn [] (at ∷ [])) (at.turn ∷ [] ≡ turn ∷ []))
    (λ _. record { at_bucket = at; freeing = []; turns_are = refl; bucket_is = is; frees = refl })
    (λ _. ap (λ (t : Turn). t ∷ []) is)

-- A bucket that was read whole, before a trace of the rest; and one for which there was no room, which ends it
module _ (shape : Shape) (cpu limit bucket : ℕ) (rest : List ℕ) (taken : List (List ℕ × List ℕ)) (at : TurnAt) where
  whole_first : (all : List Stored) (turns : List TurnAt) (reply : Reply) → at.turn ≡ on_lock (Bucket bucket) (parts.Bucket (Walk false (limit - length taken) (Taken all)))
      → Walks shape cpu false limit rest (taken ++ map pair_of all) turns reply → Walks shape cpu false limit (bucket ∷ rest) taken (at ∷ turns) reply
  whole_first all turns reply is later =
      (Taken all, at ∷ [], turns, (refl, takes_none shape cpu at (on_lock (Bucket bucket) (parts.Bucket (Walk false (limit - length taken) (Taken all)))) is, later))

  over_last : (n : ℕ) → at.turn ≡ on_lock (Bucket bucket) (parts.Bucket (Walk false (limit - length taken) (Over n))) → Walks shape cpu false limit (bucket ∷ rest) taken (at ∷ []) (Batch (stopped_at taken) taken bucket)
  over_last n is =
      (Over n, at ∷ [], [], (refl, takes_none shape cpu at (on_lock (Bucket bucket) (parts.Bucket (Walk false (limit - length taken) (Over n)))) is, (refl, refl)))

-- The buckets so far

-- These buckets were read whole, and these pairs were read of them: with a trace of the later buckets their turns are one of all.
pub record ReadWhole (t : TableView) (limit : ℕ) (buckets : List ℕ) (before after : PassView) (out : PairsSoFar) : Type 0 where
  pub steps : List Turned
  pub told : List Turned
  pub lost : List ℕ
  pub looked : Looked t before after steps told lost
  pub of_map : IsOfMap t.shape out
  pub limit_is : out.limit ≡ limit
  pub few : length out.pairs ≤ limit
  pub sizes : HaveSizes t.shape.key_size (value_len_of t.shape Sys) out.pairs
  pub some : 0 < length out.pairs → 0 < length buckets
  pub trace : (rest : List ℕ) (turns : List TurnAt) (reply : Reply) → Walks t.shape before.cpu false limit rest out.pairs turns reply
      → Walks t.shape before.cpu false limit (buckets ++ rest) [] (map (turn_at t.shape) told ++ turns) reply

read_none : (t : TableView) (limit : ℕ) (p : PassView) (out : PairsSoFar) → BeginsAt t.shape limit out → ReadWhole t limit [] p p out
read_none t limit p out begins = record {
  steps = [];
  told = [];
  lost = [];
  looked = looked_nowhere t p;
  of_map = begins.of_map;
  limit_is = begins.limit_is;
  few = subst (λ (pairs : List (List ℕ × List ℕ)). length pairs ≤ limit) (sym begins.none) (omega arith);
  sizes = subst (HaveSizes t.shape.key_size (value_len_of t.shape Sys)) (sym begins.none) tt;
  some = subst (λ (pairs : List (List ℕ × List ℕ)). 0 < length pairs → 0 < 0) (sym begins.none) (λ more. more);
  trace = λ rest turns reply later. subst (λ (pairs : List (List ℕ × List ℕ)). Walks t.shape p.cpu false limit rest pairs turns reply) begins.none later;
}

turns_one : (shape : Shape) (first : List Turned) (told : Turned) (turns : List TurnAt) → map (turn_at shape) first ++ turn_at shape told ∷ turns ≡ map (turn_at shape) (first ++ told ∷ []) ++ turns
turns_one shape first told turns = sym (ap (λ (l : List TurnAt). l ++ turns) (map-append (turn_at shape) first (told ∷ [])) ∙ append_assoc (map (turn_at shape) first) (turn_at shape told ∷ []) turns)

-- this bucket is behind so many from one on
abbrev IsBehind : ℕ → ℕ → ℕ → Type 0
IsBehind from bucket n = (from ≤ bucket) × (0 < n → from < bucket)

module _ {t : TableView} {limit : ℕ} {buckets : List ℕ} {p q : PassView} {out : PairsSoFar} (bucket : ℕ) (so_far : ReadWhole t limit buckets p q out) where
  -- its turn, with the room that was left
  turn_is : {r : PassView} {walked : Walked} (into : LooksInto t bucket q r (Walk false (out.limit - length out.pairs) walked)) → (turn_at t.shape into.told).turn ≡ on_lock (Bucket bucket) (parts.Bucket (Walk false (limit - length out.pairs) walked))
  turn_is {r} {walked} into = into.turn ∙ ap (λ (n : ℕ). on_lock (Bucket bucket) (parts.Bucket (Walk false (n - length out.pairs) walked))) so_far.limit_is

  few_more : (all : List Stored) → FitsRoom t.shape (out.limit - length out.pairs) (Taken all) → length (out.pairs ++ map pair_of all) ≤ limit
  few_more all fits =
      let left = fits.0 in
      omega (arith, so_far.limit_is, so_far.few, length-append out.pairs (map pair_of all), length-map all pair_of)

  one_whole : {r : PassView} {now : PairsSoFar} (all : List Stored) → LooksInto t bucket q r (Walk false (out.limit - length out.pairs) (Taken all)) → FitsRoom t.shape (out.limit - length out.pairs) (Taken all) → now ≡ with_pairs out (map pair_of all) → ReadWhole t limit (buckets ++ bucket ∷ []) p r now
  one_whole {r} {now} all into fits now_is = record {
    steps = so_far.steps ++ into.step ∷ [];
    told = so_far.told ++ into.told ∷ [];
    lost = into.lost ++ so_far.lost;
    looked = looked_on so_far.looked into.looked;
    of_map = subst (IsOfMap t.shape) (sym now_is) (record { keys = so_far.of_map.keys; values = so_far.of_map.values });
    limit_is = ap (λ (o : PairsSoFar). o.limit) now_is ∙ so_far.limit_is;
    few = subst (λ (o : PairsSoFar). length o.pairs ≤ limit) (sym now_is) (few_more all fits);
    sizes = subst (λ (o : PairsSoFar). HaveSizes t.shape.key_size (value_len_of t.shape Sys) o.pairs) (sym now_is) (sizes_append t.shape.key_size (value_len_of t.shape Sys) out.pairs (map pair_of all) so_far.sizes fits.1);
    some = λ _. omega (arith, length-append buckets (bucket ∷ []));
    trace = λ rest turns reply later.
        subst (λ (z : List ℕ × List TurnAt). Walks t.shape p.cpu false limit z.0 [] z.1 reply) (λ i. (sym (append_assoc buckets (bucket ∷ []) rest) i, turns_one t.shape so_far.told into.told turns i))
        (so_far.trace (bucket ∷ rest) (turn_at t.shape into.told ∷ turns) reply
        (whole_first t.shape p.cpu limit bucket rest out.pairs (turn_at t.shape into.told) all turns reply (turn_is into)
        (subst (λ (pairs : List (List ℕ × List ℕ)). Walks t.shape p.cpu false limit rest pairs turns reply) (ap (λ (o : PairsSoFar). o.pairs) now_is) later)));
  }

  one_over : {r : PassView} {now : PairsSoFar} (n from : ℕ) (rest : List ℕ) → LooksInto t bucket q r (Walk false (out.limit - length out.pairs) (Over n)) → FitsRoom t.shape (out.limit - length out.pairs) (Over n) → now ≡ out → IsBehind from bucket (length buckets) → bucket < t.shape.buckets → buckets ++ bucket ∷ rest ≡ buckets_from t.shape from → ReadsOn t from p r limit now.pairs bucket
  one_over {r} {now} n from rest into many now_is behind there all =
      let reply : Batch (stopped_at out.pairs) out.pairs bucket ≡ Batch (stop_of t.shape bucket now.pairs) now.pairs bucket =
      ap (λ (b : Bool). Batch (cond b (stopped_at out.pairs) (Some Enoent)) out.pairs bucket) (sym (lt-ltb bucket t.shape.buckets there))
      ∙ ap (λ (o : PairsSoFar). Batch (stop_of t.shape bucket o.pairs) o.pairs bucket) (sym now_is) in
      record {
        steps = so_far.steps ++ into.step ∷ [];
        told = so_far.told ++ into.told ∷ [];
        lost = into.lost ++ so_far.lost;
        looked = looked_on so_far.looked into.looked;
        trace = subst (λ (z : List ℕ × List TurnAt × Reply). Walks t.shape p.cpu false limit z.0 [] z.1 z.2) (λ i. (all i, (turns_one t.shape so_far.told into.told [] ∙ append_nil (map (turn_at t.shape) (so_far.told ++ into.told ∷ []))) i, reply i))
            (so_far.trace (bucket ∷ rest) (turn_at t.shape into.told ∷ []) (Batch (stopped_at out.pairs) out.pairs bucket)
            (over_last t.shape p.cpu limit bucket rest out.pairs (turn_at t.shape into.told) n (turn_is into)));
        page = page_before t.shape limit n from bucket out now now_is so_far.limit_is so_far.few so_far.sizes behind.0 (λ taken. behind.1 (so_far.some taken)) there many;
      }

  -- one bucket more that was read whole
  whole_by : {r : PassView} (now : PairsSoFar) (walked : Walked) (whole : Bool) → LooksInto t bucket q r (Walk false (out.limit - length out.pairs) walked) → FitsRoom t.shape (out.limit - length out.pairs) walked → IsGathered walked whole out now → whole ≡ true → ReadWhole t limit (buckets ++ bucket ∷ []) p r now
  whole_by now (Over n) whole into fits gathered is = absurd (true_false (sym is ∙ gathered.0))
  whole_by now (Taken all) whole into fits gathered is = one_whole all into fits gathered.1

  -- and one that was left, at which the batch ends
  over_by : {r : PassView} (now : PairsSoFar) (walked : Walked) (whole : Bool) (from : ℕ) (rest : List ℕ) → LooksInto t bucket q r (Walk false (out.limit - length out.pairs) walked) → FitsRoom t.shape (out.limit - length out.pairs) walked → IsGathered walked whole out now → whole ≡ false → IsBehind from bucket (length buckets) → bucket < t.shape.buckets → buckets ++ bucket ∷ rest ≡ buckets_from t.shape from
      → ReadsOn t from p r limit now.pairs bucket
  over_by now (Over n) whole from rest into fits gathered is behind there all = one_over n from rest into fits gathered.1 behind there all
  over_by now (Taken bodies) whole from rest into fits gathered is behind there all = absurd (true_false (sym gathered.0 ∙ is))

-- after the last bucket
read_all_on : {t : TableView} {limit : ℕ} {buckets : List ℕ} {p q : PassView} {out : PairsSoFar} (from to : ℕ) → to ≡ t.shape.buckets → buckets ++ [] ≡ buckets_from t.shape from → ReadWhole t limit buckets p q out → ReadsOn t from p q limit out.pairs to
read_all_on {t} {limit} {buckets} {p} {q} {out} from to to_is all so_far =
    let past_end : t.shape.buckets ≤ to = omega (arith, to_is) in
    let reply : Batch (Some Enoent) out.pairs t.shape.buckets ≡ Batch (stop_of t.shape to out.pairs) out.pairs to =
    ap (λ (b : Bool). Batch (cond b (stopped_at out.pairs) (Some Enoent)) out.pairs t.shape.buckets) (sym (le-ltb to t.shape.buckets past_end)) ∙ ap (λ (n : ℕ). Batch (stop_of t.shape to out.pairs) out.pairs n) (sym to_is) in
    record {
      steps = so_far.steps;
      told = so_far.told;
      lost = so_far.lost;
      looked = so_far.looked;
      trace = subst (λ (z : List ℕ × List TurnAt × Reply). Walks t.shape p.cpu false limit z.0 [] z.1 z.2) (λ i. (all i, append_nil (map (turn_at t.shape) so_far.told) i, reply i)) (so_far.trace [] [] (Batch (Some Enoent) out.pairs t.shape.buckets) (refl, refl));
      page = page_whole t.shape limit from to out.pairs to_is so_far.few so_far.sizes;
    }

-- The loop, where it stands at this bucket

abbrev pub ReadBefore : TableView → ℕ → ℕ → ℕ → ℕ → PassView → PassView → PairsSoFar → Type 0
ReadBefore t limit from bucket to p q out = ReadWhole t limit (range_before from bucket to) p q out

pub read_begins : (t : TableView) (limit from to : ℕ) (p : PassView) (out : PairsSoFar) → BeginsAt t.shape limit out → ReadBefore t limit from from to p p out
read_begins t limit from to p out begins = subst (λ (l : List ℕ). ReadWhole t limit l p p out) (before_none from to) (read_none t limit p out begins)

pub read_more : {t : TableView} {limit : ℕ} {p q r : PassView} {out now : PairsSoFar} (from bucket to : ℕ) (whole : Bool) → whole ≡ true → from ≤ bucket → bucket < to → ReadBefore t limit from bucket to p q out → ReadsInto t bucket q r whole out now → ReadBefore t limit from (bucket + 1) to p r now
read_more {t} {limit} {p} {q} {r} {out} {now} from bucket to whole is after before so_far read =
    subst (λ (l : List ℕ). ReadWhole t limit l p r now) (before_more from bucket to after before) (whole_by bucket so_far now read.walked whole read.into read.fits read.gathered is)

pub read_over : {t : TableView} {limit : ℕ} {p q r : PassView} {out now : PairsSoFar} (from bucket to : ℕ) (whole : Bool) → to ≡ t.shape.buckets → whole ≡ false → from ≤ bucket → bucket < to → ReadBefore t limit from bucket to p q out → ReadsInto t bucket q r whole out now → ReadsOn t from p r limit now.pairs bucket
read_over {t} {now = now} from bucket to whole to_is is after before so_far read =
    let there : bucket < t.shape.buckets = omega (arith, to_is, before) in
    let behind : 0 < length (range_before from bucket to) → from < bucket = λ some. omega (arith, some, length-range_with_len from (min bucket to - from)) in
    over_by bucket so_far now read.walked whole from (range_with_len (bucket + 1) (to - (bucket + 1))) read.into read.fits read.gathered is (after, behind) there (before_here t.shape from bucket to to_is after before)

pub read_end : {t : TableView} {limit : ℕ} {p q : PassView} {out : PairsSoFar} (from bucket to : ℕ) → to ≡ t.shape.buckets → to ≤ bucket → ReadBefore t limit from bucket to p q out → ReadsOn t from p q limit out.pairs to
read_end {t} from bucket to to_is past_end so_far = read_all_on from to to_is (before_all t.shape from bucket to to_is past_end) so_far
