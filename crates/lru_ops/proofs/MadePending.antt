-- The head of the free list of a CPU's local lists comes to their pending list and to the CPU's hand, under their lock.
use Rattle.std.proofs.Common.{inl, ◌≡◌, ℕ, ◌<◌, ◌+◌, true, Bool, List, [], ◌∷◌, drop, length, sym, ap, ◌∙◌, subst, Some, arith}
use Rattle.std.specs.Prelude.{All, slice_get}
use Rattle.std.proofs.lemmas.List.Elements.{recursion_from_All, All-from_recursion}
use Rattle.map_types.specs.declared.attr.Shape.{Shape}
use Rattle.map_types.specs.declared.kind.DomainId.{DomainId}
use Rattle.map_types.specs.declared.kind.DomainId.TheVariants.{Local}
use Rattle.map_types.specs.ElementLists.{times, IsHead}
use Rattle.map_types.specs.Stored.{Stored, IsSized}
use Rattle.place_words.specs.declared.owner.Owner.TheVariants as owners
use Rattle.place_words.specs.Bodies.{numbers}
use Rattle.place_words.specs.Locks.{lock_number}
use Rattle.place_words.specs.declared.step.Lists.{Lists}
use Rattle.place_words.specs.Steps.{with_row, without_free}
use Rattle.place_words.proofs.ElementLemmas.{times_cons_same}
use Rattle.place_table.specs.declared.view.Notes.{Notes}
use Rattle.place_table.specs.declared.view.View.{View}
use Rattle.place_table.specs.Calls.{clears_bit}
use Rattle.place_table.specs.Known.{Learns}
use Rattle.place_table.specs.Passes.{PassView, TableView, CanClaim, CanClear, Claimed, Cleared, Goes}
use Rattle.place_table.specs.Views.{is_in_hand_of, hold_at, now_under, with_came, with_clear, with_in_hand, with_now, cleared as cleared_view, hold_with, with_changed}
use Rattle.place_table.proofs.Going.{goes_on, goes_noted, goes_of_table, goes_begun, learns_on, learns_cleared}
use Rattle.place_table.proofs.Hands.{in_hand_more, now_at_is}
use Rattle.place_table.proofs.Worlds.{hold_at_first}
use Rattle.local_lists.specs.LocalLists.{LocalView, IsLocal, with_free, with_pending_row}
use Rattle.local_lists.proofs.ToldLemmas.{top_is_head, popped_numbers, popped_room}
use Rattle.lru_ops.specs.Evictions.{SawHolders}
use Rattle.lru_ops.specs.LocalWork.{CanMakePending, MadePending}
use Rattle.lru_ops.proofs.GivingOut.{came_first, forget_seen, popped_sized, first_of, head_number, without_head}
use Rattle.lru_ops.proofs.Holders.{saw_on_none, saw_none}
use Rattle.lru_ops.proofs.Removed.{goes_placed, learns_placed, now_first}
use Rattle.lru_ops.proofs.OwnersAround.{unchanged_alone}
use Rattle.percpu_values.specs.BodyList.{popped}

-- The head of free

free_real : {t : TableView} {lists : LocalView} {p : PassView} {body : Stored} → CanMakePending t lists p → Some body ≡ slice_get lists.free.bodies 0 → body.element < t.shape.elements
free_real {t} {lists} {p} {body} can top =
    let e : ℕ = body.element in
    let first : times e (numbers lists.free.bodies) ≡ times e (e ∷ drop 1 (numbers lists.free.bodies)) = ap (times e) (head_number lists.free.bodies body (sym top)) in
    let more = times_cons_same e (drop 1 (numbers lists.free.bodies)) in
    subst (λ (n : ℕ). e < n) can.fits.bound (can.fits.whole.below e (omega (arith, first, more)))

own_held : {t : TableView} {lists : LocalView} {p : PassView} (can : CanMakePending t lists p) → hold_at (lock_number t.shape (Local p.cpu)) p.view.held ≡ Some can.hold
own_held can = (λ i. hold_at (sym can.lock_is i) (can.held i)) ∙ hold_at_first can.hold []

pub can_claim_free : {t : TableView} {lists : LocalView} {p : PassView} {body : Stored} (element : ℕ) (lock : DomainId) → CanMakePending t lists p → lock ≡ Local p.cpu → Some body ≡ slice_get lists.free.bodies 0 → element ≡ body.element → CanClaim t element lock p
can_claim_free {t} {lists} {p} {body} element lock can own top number =
    subst (λ (z : ℕ × DomainId). CanClaim t z.0 z.1 p) (λ i. (sym number i, sym own i)) record {
      of_table = can.of_table;
      begun = can.begun;
      hold = can.hold;
      real = free_real can top;
      there = can.there;
      held = own_held can;
      cpu_is = can.cpu_is;
      head = subst (λ (l : List ℕ). IsHead body.element l) (sym can.free_is) (top_is_head lists.free.bodies body top);
      around = λ _. unchanged_alone p.view can.hold body.element can.held;
    }

pub can_clear_free : {t : TableView} {lists : LocalView} {p m : PassView} {body : Stored} (element : ℕ) (lock : DomainId) → CanMakePending t lists p → Some body ≡ slice_get lists.free.bodies 0 → element ≡ body.element → Claimed lock element p m → CanClear t element m
can_clear_free {t} {lists} {p} {m} {body} element lock can top number claim =
    let to_m : Goes p m [] [] = goes_placed _ _ _ _ _ _ p m claim.1 in
    record {
      of_table = goes_of_table t p m [] [] to_m can.of_table;
      begun = goes_begun p m [] [] to_m can.begun;
      real = subst (λ (n : ℕ). n < t.shape.elements) (sym number) (free_real can top);
      allowed = inl (ap (λ (z : PassView). is_in_hand_of element z.cpu z.view.hand) claim.1 ∙ in_hand_more element p.cpu p.view.hand);
    }

pub made_pending : (t : TableView) (hash element : ℕ) (lock : DomainId) (before popped_lists after : LocalView) (p middle q : PassView) (body : Stored) (bit : Bool) → CanMakePending t before p → lock ≡ Local p.cpu
    → Some body ≡ slice_get before.free.bodies 0 → popped_lists ≡ with_free (popped before.free) before → element ≡ body.element
    → after ≡ with_pending_row (record { element = element; hash = hash }) popped_lists → IsLocal after → Claimed lock element p middle → Cleared element middle q bit → MadePending t hash before after p q body
made_pending t hash element lock before popped_lists after p middle q body bit can own top is_popped number is whole claim clear =
    let f = can.fits in
    let after_is : after ≡ with_pending_row (record { element = body.element; hash = hash }) (with_free (popped before.free) before) = is ∙ (λ i. with_pending_row (record { element = number i; hash = hash }) (is_popped i)) in
    record {
      head = sym top;
      after_is = after_is;
      fits = record {
        sized = subst (λ (z : LocalView). All (IsSized t.shape) z.free.bodies) (sym after_is)
            (All-from_recursion (IsSized t.shape) (popped before.free).bodies (popped_sized (IsSized t.shape) before.free.bodies before.free.spare (recursion_from_All (IsSized t.shape) before.free.bodies f.sized)));
        bound = ap (λ (z : LocalView). z.elements) after_is ∙ f.bound;
        room = ap (λ (z : LocalView). length z.free.bodies + z.free.spare) after_is ∙ (popped_room before.free ∙ f.room);
        whole = whole;
        steal = subst (λ (z : LocalView). z.steal < t.shape.cpus) (sym after_is) f.steal;
      };
      real = free_real can top;
      sized = first_of (IsSized t.shape) before.free.bodies body (recursion_from_All (IsSized t.shape) before.free.bodies f.sized) (sym top);
      middle = middle;
      claimed = subst (λ (z : DomainId × ℕ). Claimed z.0 z.1 p middle) (λ i. (own i, number i)) claim;
      bit = bit;
      cleared = subst (λ (n : ℕ). Cleared n middle q bit) number clear;
    }

-- What that leaves of the pass
module _ {t : TableView} {hash : ℕ} {before after : LocalView} {p q : PassView} {body : Stored} (can : CanMakePending t before p) (g : MadePending t hash before after p q body) where
  abbrev e : ℕ
  e = body.element

  abbrev pub now_given : Lists
  now_given = with_row (Local p.cpu) e (without_free e can.hold.now)

  number_is : lock_number p.view.shape (Local p.cpu) ≡ can.hold.lock
  number_is = ap (λ (s : Shape). lock_number s (Local p.cpu)) can.of_table.1 ∙ sym can.lock_is

  known : now_under (Local p.cpu) p.view ≡ can.hold.now
  known = now_at_is (lock_number p.view.shape (Local p.cpu)) p.view.held can.hold ((λ i. hold_at (number_is i) (can.held i)) ∙ hold_at_first can.hold [])

  to_middle : Goes p g.middle [] []
  to_middle = goes_placed _ _ _ _ _ _ p g.middle g.claimed.1

  abbrev left : View
  left = cleared_view g.cleared.at e g.bit g.middle.view

  pub to_given : Goes p q [] []
  to_given = goes_on p g.middle q [] [] [] [] to_middle (goes_noted left.notes left.bits left.touched left.readings g.middle q g.cleared.after_is)

  pub held_given : q.view.held ≡ hold_with can.hold now_given ∷ []
  held_given =
      let k : ℕ = lock_number p.view.shape (Local p.cpu) in
      ap (λ (z : PassView). z.view.held) g.cleared.after_is
      ∙ (ap (λ (z : PassView). z.view.held) g.claimed.1
      ∙ ((λ i. with_now k (with_row (Local p.cpu) e (without_free e (known i))) (can.held i)) ∙ now_first k now_given can.hold number_is))

  -- what is noted then
  abbrev pub noted_with : Notes → Notes
  noted_with n = record n { came = e ∷ n.came; asked = record { element = e; bit = g.bit; cleared = true } ∷ n.asked; changed = record { element = e; owner = owners.Hand p.cpu } ∷ n.changed }

  pub noted_given : (n : Notes) (below : List Notes) → p.view.notes ≡ n ∷ below → q.view.notes ≡ noted_with n ∷ below
  noted_given n below was =
      let k : ℕ = lock_number p.view.shape (Local p.cpu) in
      ap (λ (z : PassView). z.view.notes) g.cleared.after_is
      ∙ (ap (λ (z : PassView). with_clear e g.bit z.view.notes) g.claimed.1
      ∙ ((λ i. with_clear e g.bit (with_changed e (owners.Hand p.cpu) (with_came k e (can.held i) (was i)))) ∙ ap (λ (l : List Notes). with_clear e g.bit (with_changed e (owners.Hand p.cpu) l)) (came_first k e can.hold n below number_is)))

  pub hand_given : q.view.hand ≡ with_in_hand e p.cpu p.view.hand
  hand_given = ap (λ (z : PassView). z.view.hand) g.cleared.after_is ∙ ap (λ (z : PassView). z.view.hand) g.claimed.1

  pub in_hand_given : is_in_hand_of e can.hold.cpu q.view.hand ≡ true
  in_hand_given = (λ i. is_in_hand_of e (can.cpu_is i) (hand_given i)) ∙ in_hand_more e p.cpu p.view.hand

  pub carried_given : q.view.carried ≡ p.view.carried
  carried_given = ap (λ (z : PassView). z.view.carried) g.cleared.after_is ∙ ap (λ (z : PassView). z.view.carried) g.claimed.1

  pub spares_given : q.spares ≡ p.spares
  spares_given = ap (λ (z : PassView). z.spares) g.cleared.after_is ∙ ap (λ (z : PassView). z.spares) g.claimed.1

  pub learns_given : Learns t.shape p.view q.view [] (clears_bit e ∷ [])
  learns_given =
      learns_on t.shape p.view g.middle.view q.view [] [] [] (clears_bit e ∷ []) (learns_placed t.shape _ _ _ _ _ _ p g.middle g.claimed.1)
      (subst (λ (z : PassView). Learns t.shape g.middle.view z.view [] (clears_bit e ∷ [])) (sym g.cleared.after_is) (forget_seen t.shape g.middle.view left e g.bit (learns_cleared t.shape g.cleared.at e g.bit g.middle.view g.cleared.known)))

  pub saw_given : SawHolders t.shape p q []
  saw_given = saw_on_none t.shape p g.middle q [] (saw_none t.shape p g.middle _ (ap (λ (z : PassView). z.view.touched) g.claimed.1)) (saw_none t.shape g.middle q _ (ap (λ (z : PassView). z.view.touched) g.cleared.after_is))

  -- and of the lists
  pub free_given : now_given.free ≡ numbers after.free.bodies
  free_given =
      without_head e can.hold.now.free (drop 1 (numbers before.free.bodies)) (can.free_is ∙ head_number before.free.bodies body g.head)
      ∙ sym (ap (λ (z : LocalView). numbers z.free.bodies) g.after_is ∙ popped_numbers before.free)

  pub pending_given : after.pending ≡ record { element = e; hash = hash } ∷ before.pending
  pending_given = ap (λ (z : LocalView). z.pending) g.after_is
