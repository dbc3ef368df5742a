-- Elements that are freed, the last one first.
use Rattle.std.proofs.Common.{◌≡◌, ℕ, Bool, suc, ◌+◌, ◌-◌, ◌<◌, ◌≤◌, List, [], ◌∷◌, length, drop, get_or, Option, None, Some, ap, ◌∙◌, arith, length-drop}
use Rattle.std.specs.Prelude.{reverse}
use Rattle.std.proofs.Math.Seq.{drop-cons}
use Rattle.std.proofs.lemmas.List.{get_or-reverse, get_or-map, length-map, length-reverse}
use Rattle.map_types.specs.declared.attr.Shape.{Shape}
use Rattle.map_types.specs.Stored.{Stored}
use Rattle.place_words.specs.Bodies.{numbers}
use Rattle.place_words.specs.declared.bucket_part.BucketPart.{BucketPart}
use Rattle.place_words.specs.declared.bucket_part.Walked.{Walked}
use Rattle.place_words.specs.Walks.{walked_out}
use Rattle.trace_check.specs.Calls.{walked_in}
use Rattle.evicting_traces.specs.Reading.{Seen, then_read}
use Rattle.evicting_traces.specs.Calls.{read_frees, read_frees_all, first_at, read_emptied}
use Rattle.evicting_traces.proofs.KeyTelling.{at_none, at_one}
use Rattle.evicting_traces.proofs.Ways.{nothing}

pub tail_first : (all : List Stored) (k : ℕ) (d : Stored) → k < length all → drop k (reverse (numbers all)) ≡ (get_or all (length all - 1 - k) d).element ∷ drop (k + 1) (reverse (numbers all))
tail_first all k d within =
    let many : length (numbers all) ≡ length all = length-map all (λ (body : Stored). body.element) in
    let turned : length (reverse (numbers all)) ≡ length (numbers all) = length-reverse (numbers all) in
    let here : k < length (reverse (numbers all)) = omega (arith, within, many, turned) in
    let there : k < length (numbers all) = omega (arith, within, many) in
    let one : suc k ≡ k + 1 = omega arith in
    let at : length all - 1 - k < length all = omega (arith, within) in
    drop-cons (reverse (numbers all)) k 0 here
    ∙ ap (λ n. get_or (reverse (numbers all)) k 0 ∷ drop n (reverse (numbers all))) one
    ∙ ap (λ (e : ℕ). e ∷ drop (k + 1) (reverse (numbers all)))
    (get_or-reverse (numbers all) k 0 there ∙ ap (λ n. get_or (numbers all) (n - 1 - k) 0) many ∙ get_or-map (λ (body : Stored). body.element) all (length all - 1 - k) d 0 at)

pub freed_end : (all : List Stored) (k : ℕ) → length all ≤ k → drop k (reverse (numbers all)) ≡ []
freed_end all k past =
    let many : length (numbers all) ≡ length all = length-map all (λ (body : Stored). body.element) in
    let turned : length (reverse (numbers all)) ≡ length (numbers all) = length-reverse (numbers all) in
    let left = length-drop k (reverse (numbers all)) in
    nothing (drop k (reverse (numbers all))) (omega (arith, past, many, turned, left))

module _ {A : Type 0} (shape : Shape) (answer : A) (seens : List Seen) {es others : List ℕ} {e : ℕ} (are : es ≡ e ∷ others) where
  pub unfreed : read_frees shape e seens ≡ None → read_frees_all shape answer es seens ≡ None
  unfreed none = ap (λ l. read_frees_all shape answer l seens) are ∙ ap (then_read (λ u. read_frees_all shape answer others)) none

  pub freed_on : (rest : List Seen) → read_frees shape e seens ≡ Some (tt, rest) → read_frees_all shape answer es seens ≡ read_frees_all shape answer others rest
  freed_on rest is = ap (λ l. read_frees_all shape answer l seens) are ∙ ap (then_read (λ u. read_frees_all shape answer others)) is

pub all_freed : {A : Type 0} (shape : Shape) (answer : A) (seens : List Seen) {es : List ℕ} → es ≡ [] → read_frees_all shape answer es seens ≡ Some (answer, seens)
all_freed shape answer seens are = ap (λ l. read_frees_all shape answer l seens) are

-- a bucket that is emptied
module _ (shape : Shape) (bucket : ℕ) (remove : Bool) (room : ℕ) (seens : List Seen) where
  abbrev next : Walked → List Seen → Option (Walked × List Seen)
  next result = read_frees_all shape result (reverse (walked_out remove result))

  pub emptied_none : first_at bucket seens ≡ None → read_emptied shape bucket remove room seens ≡ None
  emptied_none none = ap (then_read next) (at_none bucket (walked_in remove room) seens none)

  pub emptied_other : (part : BucketPart) (rest : List Seen) → first_at bucket seens ≡ Some (part, rest) → walked_in remove room part ≡ None → read_emptied shape bucket remove room seens ≡ None
  emptied_other part rest found is = ap (then_read next) (at_one bucket (walked_in remove room) seens part rest None found is)

  pub emptied_one : (part : BucketPart) (rest : List Seen) (walked : Walked) (r : Option (Walked × List Seen)) → first_at bucket seens ≡ Some (part, rest) → walked_in remove room part ≡ Some walked
      → read_frees_all shape walked (reverse (walked_out remove walked)) rest ≡ r → read_emptied shape bucket remove room seens ≡ r
  emptied_one part rest walked r found is frees = ap (then_read next) (at_one bucket (walked_in remove room) seens part rest (Some walked) found is) ∙ frees
