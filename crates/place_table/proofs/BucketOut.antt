-- The bodies of a bucket that is held: which elements lie there, that they are the map's, and how many they are.
use Rattle.std.proofs.Common.{◌≡◌, ℕ, ◌<◌, ◌≤◌, cond, List, [], length, sym, refl, ap, subst, arith, Some}
use Rattle.std.proofs.lemmas.List.{length-map}
use Rattle.map_types.specs.declared.attr.Shape.{Shape}
use Rattle.map_types.specs.Kind.{is_lru}
use Rattle.map_types.specs.Creation.{IsShape}
use Rattle.map_types.specs.Shape.{HasBounds}
use Rattle.map_types.proofs.CreationLemmas.{bounds_of_shape}
use Rattle.map_types.specs.Stored.{Stored}
use Rattle.map_types.specs.ElementLists.{times}
use Rattle.place_words.specs.declared.bucket_part.BucketPart.{BucketPart}
use Rattle.place_words.specs.declared.history.Part.TheVariants as parts
use Rattle.place_words.specs.Bodies.{present, numbers}
use Rattle.place_words.specs.Buckets.{bucket_marks}
use Rattle.place_words.specs.Histories.{in_bucket, marks}
use Rattle.place_words.proofs.BucketLaws.{present_is_in}
use Rattle.place_words.specs.declared.step.Lists.{Lists}
use Rattle.place_words.specs.State.{rows}
use Rattle.place_table.specs.Contents.{lists_of}
use Rattle.place_table.specs.declared.view.OwnerSeen.{OwnerSeen}
use Rattle.place_table.specs.Passes.{PassView, TableView, CanMark, CanDetach}
use Rattle.place_table.proofs.BucketBodies.{few_of}
use Rattle.place_table.proofs.Entries.{append_nil}
use Rattle.place_table.proofs.Worlds.{by_bool}
use Rattle.place_table.specs.BucketHeld.{Holds, HoldsBucket}
use Rattle.place_table.proofs.BucketUnder.{can_mark, can_detach}

-- the numbers of a table's map are within their bounds
pub bounds_here : (inside t : TableView) → inside ≡ t → IsShape inside.shape → HasBounds t.shape
bounds_here inside t is shape = bounds_of_shape t.shape (subst (λ (z : TableView). IsShape z.shape) is shape)

-- the elements of its bodies lie there, each as often
pub rows_here : (bodies : List Stored) (x : ℕ) → times x (numbers bodies) ≡ times x (rows (lists_of (in_bucket bodies)))
rows_here bodies x = ap (times x) (sym (append_nil (numbers bodies)))

-- a part that sets no bit sets none on a map of any kind
pub sets_none : (shape : Shape) (part : BucketPart) → bucket_marks part ≡ [] → [] ≡ marks shape (parts.Bucket part)
sets_none shape part none = by_bool (is_lru shape.kind) (λ b. [] ≡ cond b (bucket_marks part) []) (λ _. sym none) (λ _. refl)

module _ {t : TableView} {bucket : ℕ} {q : PassView} {bodies : List Stored} {now : Lists} {marked : List ℕ} {changed : List OwnerSeen} (h : Holds t bucket q bodies now marked changed) where
  -- the element of a key is one of the map's
  pub is_real : (key : List ℕ) (body : Stored) → present key bodies ≡ Some body → body.element < t.shape.elements
  is_real key body found = h.elements.rows_real body.element (subst (λ (n : ℕ). 0 < n) (rows_here bodies body.element) (present_is_in key bodies body found))

  -- a bucket has no more bodies than the map has elements
  pub few : HasBounds t.shape → length bodies < 4294967295
  few bounds =
      let at_most : length (numbers bodies) ≤ t.shape.elements = few_of t.shape.elements (numbers bodies) (λ x. subst (λ (n : ℕ). n ≤ 1) (sym (rows_here bodies x)) (h.elements.rows_once x)) (λ x there. h.elements.rows_real x (subst (λ (n : ℕ). 0 < n) (rows_here bodies x) there)) in
      let long = length-map bodies (λ (s : Stored). s.element) in
      let bound = bounds.elements_bounded in
      omega arith

-- it lies there, so its bit may be set
pub can_mark_at : {t : TableView} {bucket : ℕ} {q : PassView} {bodies : List Stored} (h : HoldsBucket t bucket q bodies) (key : List ℕ) (body : Stored) (e : ℕ) → present key bodies ≡ Some body → e ≡ body.element → CanMark t e bucket q
can_mark_at {t} {bucket} {q} {bodies} h key body e found e_is =
    subst (λ (x : ℕ). CanMark t x bucket q) (sym e_is) (can_mark h body.element (present_is_in key bodies body found) (is_real h key body found))

-- and it may be detached
pub can_detach_at : {t : TableView} {bucket : ℕ} {q : PassView} {bodies : List Stored} (h : HoldsBucket t bucket q bodies) (key : List ℕ) (body : Stored) (e : ℕ) → present key bodies ≡ Some body → e ≡ body.element → CanDetach t e bucket q
can_detach_at {t} {bucket} {q} {bodies} h key body e found e_is =
    subst (λ (x : ℕ). CanDetach t x bucket q) (sym e_is) (can_detach h body.element (present_is_in key bodies body found) (is_real h key body found))
