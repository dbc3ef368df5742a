-- A turn of a list lock with the turns of its probes is read by what was noted of it.
use Rattle.std.proofs.Common.{◌≡◌, ℕ, true, List, [], ◌∷◌, map, Option, None, Some, refl, ap, ◌∙◌, sym}
use Rattle.std.specs.Prelude.{◌==◌, ◌&&◌, is_some, option_map}
use Rattle.std.proofs.lemmas.Bool.{and_parts, and_from, eqb-true, eq-eqb}
use Rattle.std.proofs.lemmas.Option.{same_Some}
use Rattle.map_types.specs.declared.attr.Shape.{Shape}
use Rattle.map_types.specs.declared.kind.DomainId.{DomainId}
use Rattle.map_types.specs.declared.kind.DomainId.TheVariants.{Bucket}
use Rattle.map_types.specs.declared.row.Row.{Row}
use Rattle.key_hash.specs.Bucket.{bucket_number}
use Rattle.place_words.specs.declared.bucket_part.BucketPart.{BucketPart}
use Rattle.place_words.specs.declared.bucket_part.BucketPart.TheVariants as bucket
use Rattle.place_words.specs.declared.bucket_part.Seen.TheVariants.{Removed, Held}
use Rattle.place_words.specs.declared.bucket_part.Seen.{Seen}
use Rattle.place_words.specs.declared.history.Part.{Part}
use Rattle.place_words.specs.declared.history.Part.TheVariants as parts
use Rattle.place_words.specs.declared.visits.Try.{Try}
use Rattle.place_words.specs.Locks.{is_same_lock}
use Rattle.place_words.specs.Takings.{stored_hash, evicts, Chase}
use Rattle.place_words.specs.Turns.{Turn, on_lock}
use Rattle.place_words.proofs.LockLemmas.{same_lock, one_lock}
use Rattle.evicting_traces.specs.Parts.{evicted_in, same_seen, is_try, evicted, is_answer, are_answers}

one_seen : (seen other : Seen) → same_seen seen other ≡ true → seen ≡ other
one_seen Removed Removed is = refl
one_seen Removed (Held cpu) is = absurd cc
one_seen (Held cpu) Removed is = absurd cc
one_seen (Held cpu) (Held other) is = ap Held (eqb-true cpu other is)

seen_same : (seen : Seen) → same_seen seen seen ≡ true
seen_same Removed = refl
seen_same (Held cpu) = eq-eqb cpu cpu refl

evict_of : Try → BucketPart
evict_of probe = bucket.Evict probe.element probe.probed

try_only : (probe : Try) (o : Option Try) (part : BucketPart) → evicted_in part ≡ o → is_try probe o ≡ true → part ≡ evict_of probe
unfolding evict_of
try_only probe None part is same = absurd cc
try_only probe (Some other) (bucket.Lookup s k got) is same = absurd cc
try_only probe (Some other) (bucket.Update s f k v o put) is same = absurd cc
try_only probe (Some other) (bucket.Delete k _) is same = absurd cc
try_only probe (Some other) (bucket.Take k _) is same = absurd cc
try_only probe (Some other) (bucket.Next k found) is same = absurd cc
try_only probe (Some other) (bucket.First k) is same = absurd cc
try_only probe (Some other) (bucket.Walk remove room result) is same = absurd cc
try_only probe (Some other) (bucket.Evict e probed) is same =
    let told = and_parts (probe.element == other.element) (same_seen probe.probed other.probed) same in
    ap evict_of (same_Some (record { element = e; probed = probed }) other is)
    ∙ ap (λ n. bucket.Evict n other.probed) (sym (eqb-true probe.element other.element told.0))
    ∙ ap (bucket.Evict probe.element) (sym (one_seen probe.probed other.probed told.1))

part_only : (probe : Try) (part : Part) → is_try probe (evicted part) ≡ true → part ≡ parts.Bucket (evict_of probe)
part_only probe (parts.Bucket part) is = ap parts.Bucket (try_only probe (evicted_in part) part refl is)
part_only probe (parts.Free part) is = absurd cc
part_only probe (parts.Local part) is = absurd cc
part_only probe (parts.Global part) is = absurd cc
part_only probe (parts.Own part) is = absurd cc

-- each of these turns is one in which an element was to be evicted
abbrev pub AreEvicted : List Turn → Type 0
AreEvicted [] = Unit {0}
AreEvicted (turn ∷ turns) = (is_some (evicted turn.part) ≡ true) × AreEvicted turns

module _ (shape : Shape) (rows : List Row) where
  answer_so : (probe : Try) (turn : Turn) (o : Option ℕ) → option_map (evicts shape probe) o ≡ Some turn → is_answer shape probe o turn ≡ true
  answer_so probe turn None is = absurd cc
  answer_so probe turn (Some hash) is =
      let lock : DomainId = Bucket (bucket_number hash shape.buckets) in
      ap (is_answer shape probe (Some hash)) (sym (same_Some (evicts shape probe hash) turn is))
      ∙ and_from (is_same_lock lock lock) ((probe.element == probe.element) && same_seen probe.probed probe.probed) (same_lock lock)
      (and_from (probe.element == probe.element) (same_seen probe.probed probe.probed) (eq-eqb probe.element probe.element refl) (seen_same probe.probed))

  answer_only : (probe : Try) (turn : Turn) (o : Option ℕ) → is_answer shape probe o turn ≡ true → option_map (evicts shape probe) o ≡ Some turn
  unfolding evict_of
  answer_only probe turn None is = absurd cc
  answer_only probe turn (Some hash) is =
      let lock : DomainId = Bucket (bucket_number hash shape.buckets) in
      let told = and_parts (is_same_lock turn.lock lock) (is_try probe (evicted turn.part)) is in
      ap Some (sym (ap (λ l. on_lock l turn.part) (one_lock turn.lock lock told.0) ∙ ap (on_lock lock) (part_only probe turn.part told.1)))

  pub answers_so : (probes : List Try) (turns : List Turn) → Chase shape rows probes turns → are_answers shape probes (map (λ (probe : Try). stored_hash probe.element rows) probes) turns ≡ true
  answers_so [] [] is = refl
  answers_so [] (turn ∷ turns) is = absurd is
  answers_so (probe ∷ probes) [] is = absurd is
  answers_so (probe ∷ probes) (turn ∷ turns) is =
      and_from (is_answer shape probe (stored_hash probe.element rows) turn) (are_answers shape probes (map (λ (p : Try). stored_hash p.element rows) probes) turns)
      (answer_so probe turn (stored_hash probe.element rows) is.0) (answers_so probes turns is.1)

  pub answers_only : (probes : List Try) (turns : List Turn) → are_answers shape probes (map (λ (probe : Try). stored_hash probe.element rows) probes) turns ≡ true → Chase shape rows probes turns
  answers_only [] [] is = tt
  answers_only [] (turn ∷ turns) is = absurd cc
  answers_only (probe ∷ probes) [] is = absurd cc
  answers_only (probe ∷ probes) (turn ∷ turns) is =
      let told = and_parts (is_answer shape probe (stored_hash probe.element rows) turn) (are_answers shape probes (map (λ (p : Try). stored_hash p.element rows) probes) turns) is in
      (answer_only probe turn (stored_hash probe.element rows) told.0, answers_only probes turns told.1)

  evicted_so : (probe : Try) (turn : Turn) (o : Option ℕ) → option_map (evicts shape probe) o ≡ Some turn → is_some (evicted turn.part) ≡ true
  evicted_so probe turn None is = absurd cc
  evicted_so probe turn (Some hash) is = ap (λ (t : Turn). is_some (evicted t.part)) (sym (same_Some (evicts shape probe hash) turn is))

  pub chase_evicts : (probes : List Try) (turns : List Turn) → Chase shape rows probes turns → AreEvicted turns
  chase_evicts [] [] is = tt
  chase_evicts [] (turn ∷ turns) is = absurd is
  chase_evicts (probe ∷ probes) [] is = absurd is
  chase_evicts (probe ∷ probes) (turn ∷ turns) is = (evicted_so probe turn (stored_hash probe.element rows) is.0, chase_evicts probes turns is.1)
