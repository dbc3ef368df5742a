-- A push puts an element on a freelist, which has room for it.
use Rattle.std.proofs.Common.{refl, ◌≡◌, ℕ, suc, ◌<◌, ◌≤◌, cond, false, List, [], ◌∷◌, length, sym, ap, ◌∙◌, subst, arith}
use Rattle.std.specs.Prelude.{IsTrue}
use Rattle.std.proofs.lemmas.List.{length-map}
use Rattle.std.proofs.lemmas.List.Elements.{All-cons}
use Rattle.map_types.specs.declared.kind.DomainId.TheVariants.{Freelist}
use Rattle.map_types.specs.Kind.{is_lru}
use Rattle.map_types.specs.Stored.{Stored, IsSized}
use Rattle.cpu_freelist.specs.Stack.{FreelistView}
use Rattle.place_words.specs.declared.free_part.FreePart.TheVariants as turns
use Rattle.place_words.specs.declared.history.Part.{Part}
use Rattle.place_words.specs.declared.history.Part.TheVariants as parts
use Rattle.place_words.specs.declared.owner.Owner.TheVariants as owners
use Rattle.place_words.specs.Bodies.{numbers}
use Rattle.map_types.specs.ElementLists.{times}
use Rattle.map_types.proofs.RowLemmas.{by_test}
use Rattle.place_words.specs.Histories.{on_freelist}
use Rattle.place_words.specs.Locks.{is_lock, lock_number}
use Rattle.place_words.specs.Traces.{on_freelist_of}
use Rattle.place_words.specs.declared.step.Lists.{Lists}
use Rattle.place_words.specs.State.{rows}
use Rattle.place_words.specs.Steps.{with_free, without_row}
use Rattle.place_table.specs.declared.content.Content.TheVariants as contents
use Rattle.place_table.specs.declared.view.Notes.{Notes}
use Rattle.place_table.specs.Passes.{PassView, TableView, TookLock, Settled, CanGive, Gave, Goes, with_view}
use Rattle.place_table.specs.Views.{no_notes, now_under, moved, with_changed, without_in_hand}
use Rattle.place_table.proofs.TakeToGive.{taken_of_table, taken_begun}
use Rattle.place_table.proofs.Hands.{with_lists}
use Rattle.place_table.proofs.Going.{given_turn, goes_moved, goes_of_table, goes_begun, learns_moved}
use Rattle.hash_ops.specs.Free.{CanPush, Pushed}
use Rattle.hash_ops.proofs.FreeTurns.{with_top, free_is, number_is, IsQuiet, quiet_fits, reached_once, turn_is}
use Rattle.hash_ops.proofs.Turning.{IsUnder, under_taken, under_now, under_moved, can_give}
use Rattle.place_table.specs.Words.{owner_word}
use Rattle.place_table.proofs.BucketBodies.{few_of}

-- a freelist whose numbers are distinct and the map's has room for one that isn't on it
room_for : (n e : ℕ) (xs : List ℕ) → e < n → times e xs ≡ 0 → ((x : ℕ) → times x xs ≤ 1) → ((x : ℕ) → 0 < times x xs → x < n) → length xs < n
room_for n e xs real absent once below =
    few_of n (e ∷ xs)
    (λ x. by_test e x (λ b. cond b (suc (times x xs)) (times x xs) ≤ 1) (λ is. let gone : times x xs ≡ 0 = subst (λ (z : ℕ). times z xs ≡ 0) is absent in omega arith) (λ _. once x))
    (λ x. by_test e x (λ b. 0 < cond b (suc (times x xs)) (times x xs) → x < n) (λ is _. subst (λ (z : ℕ). z < n) is real) (λ _ there. below x there))

-- what is noted in the turn: that it is free
abbrev notes_pushed : ℕ → Notes
notes_pushed e = record { came = []; marks = []; asked = []; owners = []; homes = []; flushed = []; off = []; changed = record { element = e; owner = owners.Free } ∷ [] }

quiet_pushed : (e : ℕ) → IsQuiet (notes_pushed e)
quiet_pushed e = record { marks = refl; asked = refl; owners = refl; off = refl }

module _ {t : TableView} {cpu : ℕ} {p q : PassView} {f : FreelistView} {body : Stored} (took : TookLock t (Freelist cpu) p q (contents.Freelist f)) (can : CanPush t body p) where
  pub push_room : length f.bodies < f.room
  push_room =
      let free = free_is t cpu p q f took in
      let absent : times body.element (numbers f.bodies) ≡ 0 = ap (times body.element) (sym free) ∙ (took.apart body.element p.cpu can.can.begun can.in_hand).0 in
      let once : (e : ℕ) → times e (numbers f.bodies) ≤ 1 = subst (λ (l : List ℕ). (e : ℕ) → times e l ≤ 1) free took.elements.free_once in
      let real : (e : ℕ) → 0 < times e (numbers f.bodies) → e < t.shape.elements = subst (λ (l : List ℕ). (e : ℕ) → 0 < times e l → e < t.shape.elements) free took.elements.free_real in
      let few = room_for t.shape.elements body.element (numbers f.bodies) can.real absent once real in
      let long = length-map f.bodies (λ (b : Stored). b.element) in
      let room = took.fits.1 in
      omega arith

  module _ {r : PassView} {new : FreelistView} {e : ℕ} (is_there : IsTrue (is_lock t.shape (Freelist cpu))) (same : e ≡ body.element) (settles : Settled (Freelist cpu) e q r) (on_top : new ≡ with_top body f) where
    -- what lies under the lock once it is free
    under_pushed : IsUnder p r took.hold (with_free e (without_row e took.hold.now)) (notes_pushed e)
    under_pushed =
        let here = contents.Freelist f in
        let k : ℕ = lock_number q.view.shape (Freelist cpu) in
        let number : took.hold.lock ≡ k = number_is t cpu p q here took can.can.of_table in
        let before = under_taken t (Freelist cpu) p q here took in
        under_moved p q r took.hold took.hold.now (with_free e (without_row e took.hold.now)) no_notes (notes_pushed e) settles.0 k (without_in_hand e q.cpu q.view.hand) (with_changed e owners.Free q.view.notes) (owner_word q.view.shape e) 0 before number (ap (with_changed e owners.Free) before.notes_are)
        (settles.1 ∙ ap (λ (now : Lists). with_view q (moved settles.0 k (with_free e (without_row e now)) (without_in_hand e q.cpu q.view.hand) (with_changed e owners.Free q.view.notes) (owner_word q.view.shape e) 0 q.view)) (under_now p q took.hold took.hold.now no_notes k before number))

    goes_pushed : Goes q r [] []
    goes_pushed = goes_moved settles.0 (lock_number q.view.shape (Freelist cpu)) (with_free e (without_row e (now_under (Freelist cpu) q.view))) (without_in_hand e q.cpu q.view.hand) (with_changed e owners.Free q.view.notes) (owner_word q.view.shape e) 0 q r settles.1

    pub can_give_pushed : is_lru t.shape.kind ≡ false → CanGive t (Freelist cpu) r (contents.Freelist new) (parts.Free (turns.Pushed e))
    can_give_pushed plain =
        let here = contents.Freelist f in
        let given : CanGive t (Freelist cpu) r (contents.Freelist (with_top body f)) (parts.Free (turns.Pushed e)) =
        can_give t (Freelist cpu) p q r here (contents.Freelist (with_top body f)) (parts.Free (turns.Pushed e)) (with_free e (without_row e took.hold.now)) (notes_pushed e) took tt
        under_pushed
        (goes_of_table t q r [] [] goes_pushed (taken_of_table t (Freelist cpu) p q here took can.can.of_table))
        (goes_begun q r [] [] goes_pushed (taken_begun t (Freelist cpu) p q here took can.can.begun))
        is_there
        (All-cons (IsSized t.shape) body f.bodies can.sized took.fits.0, took.fits.1)
        tt
        (ap (λ (x : ℕ). on_freelist (x ∷ numbers f.bodies)) (sym same))
        (λ x. λ i. times x (sym same i ∷ sym (free_is t cpu p q f took) i))
        (λ x. ap (λ (l : Lists). times x (rows (without_row e l))) (sym took.now))
        (quiet_fits t.shape r.view (with_lists (with_free e (without_row e took.hold.now)) took.hold) (turns.Pushed e) (notes_pushed e) (quiet_pushed e))
        (can.can.inside (turns.Pushed e))
        plain in
        subst (λ (z : FreelistView). CanGive t (Freelist cpu) r (contents.Freelist z) (parts.Free (turns.Pushed e))) (sym on_top) given

    pub pushed_once : (s : PassView) → is_lru t.shape.kind ≡ false → cpu ≡ p.cpu → cpu < t.shape.cpus → Gave r s (parts.Free (turns.Pushed e)) → Pushed t body p s
    pushed_once s plain mine within gave =
        let here = contents.Freelist f in
        let part : Part = parts.Free (turns.Pushed e) in
        let now : Lists = with_free e (without_row e took.hold.now) in
        let learns = learns_moved t.shape settles.0 (lock_number q.view.shape (Freelist cpu)) (with_free e (without_row e (now_under (Freelist cpu) q.view))) (without_in_hand e q.cpu q.view.hand) (with_changed e owners.Free q.view.notes) (owner_word q.view.shape e) 0 q r settles.1 in record {
          step = given_turn r gave.ticket gave.hold part;
          reached = reached_once t cpu p q r s here (contents.Freelist new) part now (notes_pushed e) took (quiet_pushed e) refl within goes_pushed (ap (λ (z : PassView). z.spares) settles.1) (ap (λ (z : PassView). z.view.bits) settles.1) (ap (λ (z : PassView). z.view.carried) settles.1) learns under_pushed (can_give_pushed plain) gave;
          turn = turn_is t cpu p q r s here (turns.Pushed e) now (notes_pushed e) took is_there under_pushed gave ∙ (λ i. on_freelist_of (mine i) (turns.Pushed (same i)));
          hand = ap (λ (z : PassView). z.view.hand) gave.after_is ∙ (ap (λ (z : PassView). z.view.hand) settles.1 ∙ (ap (λ (z : PassView). without_in_hand e z.cpu z.view.hand) took.after_is ∙ ap (λ (x : ℕ). without_in_hand x p.cpu p.view.hand) same));
        }
