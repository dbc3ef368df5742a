-- The laws of what a map holds.
use Rattle.std.proofs.Common.{◌≡◌, ℕ, zero, suc, ◌≤◌, ◌<◌, ◌^◌, ◌+◌, List, [], ◌∷◌, ◌++◌, map, Option, Some, None, refl, sym, ap, ◌∙◌, arith, append_assoc}
use Rattle.std.specs.Prelude.{codes, decimal}
use Rattle.std.specs.List.{flat_map, range_with_len}
use Rattle.map_types.specs.declared.attr.Shape.{Shape}
use Rattle.map_types.specs.Stored.{Stored}
use Rattle.map_report.specs.Dump.{stored_line, bucket_lines}
use Rattle.map_report.specs.Words.{bytes_text, numbered}
use Rattle.record_reading.specs.Readers.{behind, number, AllFit}
use Rattle.record_reading.specs.RecordReaders.{stored_of, bucket_head, bucket_section}
use Rattle.record_reading.specs.Sections.{Line, no_line, for_each}
use Rattle.record_shape.specs.WellShaped.{SoManyFit}
use Rattle.record_shape.specs.ShapedParts.{StoredFits}
use Rattle.record_reading.proofs.SectionLaws.{ReadsLine, Tells, NoStop, no_line_tells}
use Rattle.record_reading.proofs.MadeLaws.{told_tells, NoHead, each_print}
use Rattle.record_reading.proofs.AnyLaws.{any_print, AnyFits, AnyStops, any_tells}
use Rattle.record_reading.proofs.WholeLaws.{NoWord, NumberedStops, numbered_tells}
use Rattle.record_reading.proofs.BucketLaws.{Small}
use Rattle.record_reading.proofs.DumpLaws.{stored_reads}
use Rattle.record_reading.proofs.Laws.{from_some, number_back}

none_found : {A : Type 0} (o : Option A) → ((a : A) → o ≡ Some a → ⊥) → o ≡ None
none_found None none = refl
none_found (Some a) none = absurd (none a refl)

group_line : (w b d e k v : List ℕ) → (w ++ (b ++ d)) ++ (b ++ e) ++ k ++ v ≡ (w ++ b) ++ (d ++ (b ++ (e ++ (k ++ v))))
group_line w b d e k v = simp append_assoc

module _ (shape : Shape) (small : Small shape) (few_buckets : shape.buckets ≤ 2 ^ 64) where
  -- ---- the elements of a bucket

  module _ (bucket : ℕ) where
    heads : (u : Unit {0}) → ReadsLine (stored_line bucket) (StoredFits shape) (bucket_head shape bucket u)
    heads u = stored_reads shape small bucket

    abbrev NoMore : Stored → Unit {0} → Type 0
    NoMore stored u = u ≡ tt

    bodies : (u : Unit {0}) (stored : Stored) → StoredFits shape stored → Tells (λ (_ : Unit {0}). []) (NoMore stored) NoStop (no_line tt)
    bodies u stored fits = no_line_tells (λ (_ : Unit {0}). []) tt refl

    abbrev Item : Type 0
    Item = Stored × Unit {0}

    abbrev same_state : Unit {0} → Stored → Unit {0}
    same_state u stored = tt

    abbrev ItemsFit : List Item → Type 0
    ItemsFit items = AnyFits heads bodies same_state tt items

    abbrev items_print : List Item → List Line
    items_print items = any_print heads bodies same_state tt items

    abbrev ItemsStop : List Item → List Line → Type 0
    ItemsStop items rest = AnyStops heads bodies same_state tt items rest

    abbrev item : Stored → Item
    item stored = (stored, tt)

    abbrev pub BucketStops : List Stored → List Line → Type 0
    BucketStops elements rest = NoHead (bucket_head shape bucket tt) rest

    items_same : (elements : List Stored) → map stored_of (map item elements) ≡ elements
    items_same [] = refl
    items_same (stored ∷ more) = ap (λ (l : List Stored). stored ∷ l) (items_same more)

    items_fit : (elements : List Stored) → AllFit (StoredFits shape) elements → ItemsFit (map item elements)
    items_fit [] fits = tt
    items_fit (stored ∷ more) fits = ((fits.0, refl), items_fit more fits.1)

    elements_fit : (items : List Item) → ItemsFit items → AllFit (StoredFits shape) (map stored_of items)
    elements_fit [] fits = tt
    elements_fit (x ∷ items) fits = (fits.0.0, elements_fit items fits.1)

    elements_print : (items : List Item) → bucket_lines bucket (map stored_of items) ≡ items_print items
    elements_print [] = refl
    elements_print (x ∷ items) = ap (λ (l : List Line). stored_line bucket x.0 ∷ l) (elements_print items)

    stops_made : (items : List Item) (rest : List Line) → ItemsStop items rest → NoHead (bucket_head shape bucket tt) rest
    stops_made [] rest stops = stops
    stops_made (x ∷ items) rest stops = stops_made items rest stops

    stops_part : (items : List Item) (rest : List Line) → NoHead (bucket_head shape bucket tt) rest → ItemsStop items rest
    stops_part [] rest stops = stops
    stops_part (x ∷ items) rest stops = stops_part items rest stops

    pub bucket_tells : Tells (bucket_lines bucket) (AllFit (StoredFits shape)) BucketStops (bucket_section shape bucket)
    bucket_tells =
        told_tells (any_tells heads bodies same_state tt) (map stored_of) (bucket_lines bucket) (AllFit (StoredFits shape)) BucketStops
        (λ elements fits. (map item elements, items_same elements, items_fit elements fits)) (λ items fits. elements_print items) elements_fit (λ items rest fits stops. stops_made items rest stops) (λ items rest fits stops. stops_part items rest stops)

    -- a line that doesn't begin with the word, or is of another bucket
    no_word : (line : Line) → behind (codes "bucket") line ≡ None → bucket_head shape bucket tt line ≡ None
    unfolding behind
    no_word line none = none_found (bucket_head shape bucket tt line) (λ stored found. absurd (not_there line stored none ((stored_reads shape small bucket).right line stored found).0))
      where
        not_there : (line : Line) (stored : Stored) → behind (codes "bucket") line ≡ None → line ≡ stored_line bucket stored → ⊥
        not_there line stored none is = absurd (cc (sym none ∙ ap (behind (codes "bucket")) is))

  abbrev behind_number : Stored → List ℕ
  behind_number stored = codes " " ++ (decimal stored.element ++ (bytes_text stored.key ++ flat_map bytes_text stored.values))

  line_is : (bucket : ℕ) (stored : Stored) → stored_line bucket stored ≡ codes "bucket " ++ (decimal bucket ++ behind_number stored)
  line_is bucket stored = group_line (codes "bucket") (codes " ") (decimal bucket) (decimal stored.element) (bytes_text stored.key) (flat_map bytes_text stored.values)

  same_bucket : (one other : ℕ) → one < 2 ^ 64 → other < 2 ^ 64 → (a b : Stored) → stored_line one a ≡ stored_line other b → one ≡ other
  unfolding behind
  same_bucket one other few few_other a b is =
      let e : codes "bucket " ++ (decimal one ++ behind_number a) ≡ codes "bucket " ++ (decimal other ++ behind_number b) = sym (line_is one a) ∙ is ∙ line_is other b in
      let left : Some (decimal one ++ behind_number a) ≡ Some (decimal other ++ behind_number b) = ap (behind (codes "bucket ")) e in
      let text = from_some (decimal one ++ behind_number a) (decimal other ++ behind_number b) left in
      let pair : Some (one, behind_number a) ≡ Some (other, behind_number b) =
      sym (number_back (2 ^ 64) (omega arith) one (behind_number a) few refl) ∙ ap (number (2 ^ 64)) text ∙ number_back (2 ^ 64) (omega arith) other (behind_number b) few_other refl in
      ap (λ (p : ℕ × List ℕ). p.0) (from_some (one, behind_number a) (other, behind_number b) pair)

  other_bucket : (bucket later : ℕ) → bucket < later → later < 2 ^ 64 → (stored : Stored) → bucket_head shape bucket tt (stored_line later stored) ≡ None
  other_bucket bucket later less few stored =
      none_found (bucket_head shape bucket tt (stored_line later stored)) (λ found is.
      let e = same_bucket later bucket few (omega arith) stored found ((stored_reads shape small bucket).right (stored_line later stored) found is).0 in absurd (omega arith))

  -- ---- all buckets

  abbrev pub BucketsStop : ℕ → ℕ → List (List Stored) → List Line → Type 0
  BucketsStop first count buckets rest = NumberedStops bucket_lines (AllFit (StoredFits shape)) BucketStops first count buckets rest

  pub buckets_tell : (first count : ℕ) → Tells (numbered bucket_lines first) (SoManyFit count (AllFit (StoredFits shape))) (BucketsStop first count) (for_each (bucket_section shape) (range_with_len first count))
  buckets_tell first count = numbered_tells bucket_lines (AllFit (StoredFits shape)) BucketStops bucket_tells first count

  abbrev later_lines : ℕ → ℕ → List (List Stored) → List Line
  later_lines first count buckets = each_print bucket_lines (λ _. AllFit (StoredFits shape)) BucketStops (range_with_len first count) buckets

  no_bucket : (bucket : ℕ) (rest : List Line) → NoWord (codes "bucket") rest → NoHead (bucket_head shape bucket tt) rest
  no_bucket bucket [] none = tt
  no_bucket bucket (line ∷ rest) none = no_word bucket line none

  stops_before : (bucket first count : ℕ) (buckets : List (List Stored)) (rest : List Line) → bucket < first → first + count ≤ 2 ^ 64 → NoWord (codes "bucket") rest → NoHead (bucket_head shape bucket tt) (later_lines first count buckets ++ rest)
  stops_before bucket first zero buckets rest less few none = no_bucket bucket rest none
  stops_before bucket first (suc count) [] rest less few none = no_bucket bucket rest none
  stops_before bucket first (suc count) ([] ∷ buckets) rest less few none = stops_before bucket (first + 1) count buckets rest (omega arith) (omega arith) none
  stops_before bucket first (suc count) ((stored ∷ elements) ∷ buckets) rest less few none = other_bucket bucket first less (omega arith) stored

  pub buckets_stop : (first count : ℕ) (buckets : List (List Stored)) (rest : List Line) → first + count ≤ 2 ^ 64 → NoWord (codes "bucket") rest → BucketsStop first count buckets rest
  buckets_stop first zero buckets rest few none = tt
  buckets_stop first (suc count) [] rest few none = tt
  buckets_stop first (suc count) (elements ∷ buckets) rest few none =
      (stops_before first (first + 1) count buckets rest (omega arith) (omega arith) none, buckets_stop (first + 1) count buckets rest (omega arith) none)
