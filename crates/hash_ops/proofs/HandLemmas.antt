-- What is in the hands of a pass while an element of its bucket is on its way to a freelist.
use Rattle.std.proofs.Common.{◌≡◌, ℕ, inr, true, false, List, refl, arith, Some}
use Rattle.map_types.specs.Kind.{is_lru}
use Rattle.map_types.specs.Stored.{Stored}
use Rattle.place_words.specs.Bodies.{present, numbers}
use Rattle.map_types.specs.ElementLists.{IsIn}
use Rattle.place_words.proofs.BucketLaws.{present_is_in}
use Rattle.place_table.specs.Passes.{PassView, TableView}
use Rattle.place_table.specs.Views.{is_among, is_in_hand_of}
use Rattle.place_table.proofs.BucketBodies.{rows_taken}
use Rattle.place_table.proofs.Worlds.{by_bool}
use Rattle.place_table.specs.InBucket.{InBucket}

-- an element that lies in the bucket is in no hand
pub none_in_hand : {t : TableView} {bucket : ℕ} {q : PassView} {bodies : List Stored} (b : InBucket t bucket q bodies) (e cpu : ℕ) → is_lru t.shape.kind ≡ false → is_among cpu q.view.cpus ≡ true → IsIn e (numbers bodies) → is_in_hand_of e cpu q.view.hand ≡ false
none_in_hand {t} {bucket} {q} {bodies} b e cpu plain mine inside =
    by_bool (is_in_hand_of e cpu q.view.hand) (λ x. is_in_hand_of e cpu q.view.hand ≡ x → x ≡ false)
    (λ _ in_hand. let none = (b.apart e cpu mine in_hand).1 (inr refl) in let counted = rows_taken b e in absurd (omega arith))
    (λ _ _. refl) refl

-- that of a key does
pub not_in_hand : {t : TableView} {bucket : ℕ} {q : PassView} {bodies : List Stored} (b : InBucket t bucket q bodies) (key : List ℕ) (body : Stored) → present key bodies ≡ Some body → is_lru t.shape.kind ≡ false → (cpu : ℕ) → is_among cpu q.view.cpus ≡ true → is_in_hand_of body.element cpu q.view.hand ≡ false
not_in_hand {bodies = bodies} b key body found plain cpu mine = none_in_hand b body.element cpu plain mine (present_is_in key bodies body found)
