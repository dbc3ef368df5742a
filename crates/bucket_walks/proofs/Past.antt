-- The buckets from one on are looked at in their order, up to the first that isn't empty.
use Rattle.std.proofs.Common.{◌≡◌, ℕ, ◌+◌, ◌-◌, ◌<◌, ◌≤◌, min, Bool, true, false, List, [], ◌∷◌, ◌++◌, map, sym, refl, ap, ◌∙◌, subst, arith, Some, None}
use Rattle.std.specs.List.{range_with_len}
use Rattle.std.proofs.lemmas.List.{map-append}
use Rattle.map_types.specs.declared.attr.Shape.{Shape}
use Rattle.map_types.specs.declared.kind.DomainId.TheVariants.{Bucket}
use Rattle.map_types.specs.declared.refusal.Errno.TheVariants.{Enoent}
use Rattle.map_types.specs.declared.reply.Reply.{Reply}
use Rattle.map_types.specs.declared.reply.Reply.TheVariants.{Value, Refused}
use Rattle.place_words.specs.declared.bucket_part.BucketPart.{BucketPart}
use Rattle.place_words.specs.declared.bucket_part.BucketPart.TheVariants.{First}
use Rattle.place_words.specs.declared.history.Part.TheVariants as parts
use Rattle.place_words.specs.Turns.{Turn, on_lock}
use Rattle.place_words.specs.Walks.{Firsts, buckets_from}
use Rattle.place_table.specs.Known.{turn_of}
use Rattle.place_table.specs.Passes.{PassView, TableView}
use Rattle.place_table.proofs.Entries.{append_nil}
use Rattle.place_table.proofs.Ranges.{range_split, range_at}
use Rattle.bucket_walks.specs.Looks.{LooksInto, WalkedPast, WalksOn, key_where, found_none}
use Rattle.bucket_walks.proofs.Told.{looked_nowhere, looked_on}

-- Traces from their end: where the rest of a walk looks at the later buckets, the whole looks at those found empty before it too.
firsts_past : (passed rest : List ℕ) (turns : List Turn) (reply : Reply) → Firsts rest turns reply → Firsts (passed ++ rest) (found_none passed ++ turns) reply
firsts_past [] rest turns reply later = later
firsts_past (bucket ∷ passed) rest turns reply later = (None, found_none passed ++ turns, refl, firsts_past passed rest turns reply later)

-- Those before a bucket, where a loop to `to` stands at it: none at first, one more after each, and all at the end

abbrev pub range_before : ℕ → ℕ → ℕ → List ℕ
range_before from bucket to = range_with_len from (min bucket to - from)

pub before_none : (from to : ℕ) → [] ≡ range_before from from to
before_none from to =
    let none : 0 ≡ min from to - from = omega arith in
    ap (range_with_len from) none

pub before_more : (from bucket to : ℕ) → from ≤ bucket → bucket < to → range_before from bucket to ++ bucket ∷ [] ≡ range_before from (bucket + 1) to
before_more from bucket to after before =
    let here : min bucket to - from ≡ bucket - from = omega arith in
    let next : bucket - from + 1 ≡ min (bucket + 1) to - from = omega arith in
    let start : from + (bucket - from) ≡ bucket = omega arith in
    ap (λ n. range_with_len from n ++ bucket ∷ []) here ∙ (ap (λ k. range_with_len from (bucket - from) ++ k ∷ []) (sym start) ∙ (sym (range_split from (bucket - from) 1) ∙ ap (range_with_len from) next))

pub before_here : (shape : Shape) (from bucket to : ℕ) → to ≡ shape.buckets → from ≤ bucket → bucket < to → range_before from bucket to ++ bucket ∷ range_with_len (bucket + 1) (to - (bucket + 1)) ≡ buckets_from shape from
before_here shape from bucket to to_is after before =
    let here : bucket - from ≡ min bucket to - from = omega arith in
    let left : List ℕ = range_with_len (bucket + 1) (to - (bucket + 1)) in
    sym (range_at from bucket to after before ∙ ap (λ n. range_with_len from n ++ bucket ∷ left) here) ∙ ap (λ n. range_with_len from (n - from)) to_is

pub before_all : (shape : Shape) (from bucket to : ℕ) → to ≡ shape.buckets → to ≤ bucket → range_before from bucket to ++ [] ≡ buckets_from shape from
before_all shape from bucket to to_is past_end =
    let count : min bucket to - from ≡ to - from = omega arith in
    append_nil (range_before from bucket to) ∙ (ap (range_with_len from) count ∙ ap (λ n. range_with_len from (n - from)) to_is)

-- One bucket after another

past_none : (t : TableView) (p : PassView) → WalkedPast t [] p p
past_none t p = record { steps = []; told = []; lost = []; looked = looked_nowhere t p; turns_are = refl }

none_append : (xs ys : List ℕ) → found_none (xs ++ ys) ≡ found_none xs ++ found_none ys
none_append xs ys = map-append (λ (bucket : ℕ). on_lock (Bucket bucket) (parts.Bucket (First None))) xs ys

-- the turns of one bucket more
turns_more : {t : TableView} {buckets : List ℕ} {p q r : PassView} {bucket : ℕ} {part : BucketPart} (past : WalkedPast t buckets p q) (into : LooksInto t bucket q r part)
    → map (turn_of t.shape) (past.told ++ into.told ∷ []) ≡ found_none buckets ++ on_lock (Bucket bucket) (parts.Bucket part) ∷ []
turns_more {t} past into = map-append (turn_of t.shape) past.told (into.told ∷ []) ∙ (λ i. past.turns_are i ++ into.turn i ∷ [])

past_one : {t : TableView} {buckets : List ℕ} {p q r : PassView} {bucket : ℕ} → WalkedPast t buckets p q → LooksInto t bucket q r (First None) → WalkedPast t (buckets ++ bucket ∷ []) p r
past_one {t} {buckets} {p} {q} {r} {bucket} past into = record {
  steps = past.steps ++ into.step ∷ [];
  told = past.told ++ into.told ∷ [];
  lost = into.lost ++ past.lost;
  looked = looked_on past.looked into.looked;
  turns_are = turns_more past into ∙ sym (none_append buckets (bucket ∷ []));
}

-- The looks so far, where the next one is at this bucket

abbrev pub WalkedBefore : TableView → ℕ → ℕ → ℕ → PassView → PassView → Type 0
WalkedBefore t from bucket to p q = WalkedPast t (range_before from bucket to) p q

pub past_begins : (t : TableView) (from to : ℕ) (p : PassView) → WalkedBefore t from from to p p
past_begins t from to p = subst (λ (l : List ℕ). WalkedPast t l p p) (before_none from to) (past_none t p)

pub past_more : {t : TableView} {p q r : PassView} (from bucket to : ℕ) (found : Bool) (out : List ℕ) → found ≡ false → from ≤ bucket → bucket < to → WalkedBefore t from bucket to p q → LooksInto t bucket q r (First (key_where found out)) → WalkedBefore t from (bucket + 1) to p r
past_more {t} {p} {q} {r} from bucket to found out none after before past into =
    subst (λ (l : List ℕ). WalkedPast t l p r) (before_more from bucket to after before) (past_one past (subst (λ (b : Bool). LooksInto t bucket q r (First (key_where b out))) none into))

-- this one has a first key
pub past_found : {t : TableView} {p q r : PassView} (from bucket to : ℕ) (found : Bool) (out : List ℕ) → to ≡ t.shape.buckets → found ≡ true → from ≤ bucket → bucket < to → WalkedBefore t from bucket to p q → LooksInto t bucket q r (First (key_where found out)) → WalksOn t from p r (Value out)
past_found {t} {p} {q} {r} from bucket to found out to_is some after before past into =
    let into_some : LooksInto t bucket q r (First (Some out)) = subst (λ (b : Bool). LooksInto t bucket q r (First (key_where b out))) some into in
    let passed : List ℕ = range_before from bucket to in
    let left : List ℕ = range_with_len (bucket + 1) (to - (bucket + 1)) in
    let turn : Turn = on_lock (Bucket bucket) (parts.Bucket (First (Some out))) in
    record {
      steps = past.steps ++ into_some.step ∷ [];
      told = past.told ++ into_some.told ∷ [];
      lost = into_some.lost ++ past.lost;
      looked = looked_on past.looked into_some.looked;
      trace = subst (λ (z : List ℕ × List Turn). Firsts z.0 z.1 (Value out)) (λ i. (before_here t.shape from bucket to to_is after before i, sym (turns_more past into_some) i))
          (firsts_past passed (bucket ∷ left) (turn ∷ []) (Value out) (Some out, [], refl, (refl, refl)));
    }

-- none has
pub past_all : {t : TableView} {p q : PassView} (from bucket to : ℕ) → to ≡ t.shape.buckets → to ≤ bucket → WalkedBefore t from bucket to p q → WalksOn t from p q (Refused Enoent)
past_all {t} {p} {q} from bucket to to_is past_end past =
    let passed : List ℕ = range_before from bucket to in
    record {
      steps = past.steps;
      told = past.told;
      lost = past.lost;
      looked = past.looked;
      trace = subst (λ (z : List ℕ × List Turn). Firsts z.0 z.1 (Refused Enoent)) (λ i. (before_all t.shape from bucket to to_is past_end i, (append_nil (found_none passed) ∙ sym past.turns_are) i)) (firsts_past passed [] [] (Refused Enoent) (refl, refl));
    }
