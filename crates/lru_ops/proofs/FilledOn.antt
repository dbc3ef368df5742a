-- The local lists, once the global ones were rotated over the pass that holds both locks.
use Rattle.std.proofs.Common.{◌≡◌, List, [], ◌∷◌, sym, ap, ◌∙◌, arith}
use Rattle.map_types.specs.ElementLists.{times}
use Rattle.place_words.specs.Bodies.{numbers}
use Rattle.place_words.specs.State.{rows}
use Rattle.place_table.specs.declared.view.Hold.{Hold}
use Rattle.place_table.specs.Passes.{PassView, TableView}
use Rattle.place_table.specs.Views.{is_among, is_in_hand_of}
use Rattle.place_table.proofs.Going.{same_head}
use Rattle.local_lists.specs.LocalLists.{LocalView}
use Rattle.lru_lists.specs.declared.notes.RotateNotes.{RotateNotes}
use Rattle.lru_lists.specs.Sets.{SetView}
use Rattle.lru_ops.specs.Askings.{notes_after}
use Rattle.lru_ops.specs.GlobalWork.{Rotated}
use Rattle.lru_ops.specs.Filling.{CanFill}
use Rattle.lru_ops.specs.declared.probing.Destination.TheVariants.{LocalFree}
use Rattle.lru_ops.proofs.Asked.{only_hash_still}
use Rattle.lru_ops.proofs.Flushes.{both_held, global_hold, local_hold, same_second}

pub same_tail : {A : Type 0} {x y : A} {xs ys : List A} → x ∷ xs ≡ y ∷ ys → xs ≡ ys
same_tail e = cc

module _ {t : TableView} {set after : SetView} {lists : LocalView} {turning turning_after : RotateNotes} {p q : PassView} (can : CanFill t set lists p) (r : Rotated t set after turning turning_after p q) where
  held_q : q.view.held ≡ r.leaves.holds.lists.hold ∷ r.leaves.holds.local ∷ []
  held_q = r.leaves.holds.lists.held ∙ ap (λ (l : List Hold). r.leaves.holds.lists.hold ∷ l) r.leaves.holds.around

  global_same : r.leaves.holds.lists.hold ≡ global_hold can
  global_same = same_head (sym held_q ∙ (r.does.held ∙ both_held can))

  local_same : r.leaves.holds.local ≡ local_hold can
  local_same = same_second (sym held_q ∙ (r.does.held ∙ both_held can))

  -- what was noted
  notes_same : r.does.notes ≡ can.notes
  notes_same = same_head (sym r.does.was_noted ∙ can.noted)

  below_same : r.does.below ≡ can.around ∷ can.below
  below_same = same_tail (sym r.does.was_noted ∙ can.noted)

  pub fill_rotated : CanFill t after lists q
  fill_rotated = record {
    walk = r.leaves;
    common = can.common;
    fits = can.fits;
    same_free = ap (λ (h : Hold). h.now.free) local_same ∙ can.same_free;
    same_rows = λ x. ap (λ (h : Hold). times x (rows h.now)) local_same ∙ can.same_rows x;
    apart = λ x.
        let once = can.apart x in
        let free : times x (numbers after.free.bodies) ≡ times x (numbers set.free.bodies) = ap (times x) (sym r.leaves.same_free ∙ (ap (λ (h : Hold). h.now.free) global_same ∙ can.walk.same_free)) in
        let was = can.walk.same_rows x in
        let is = r.leaves.same_rows x in
        let same : times x (rows r.leaves.holds.lists.hold.now) ≡ times x (rows (global_hold can).now) = ap (λ (h : Hold). times x (rows h.now)) global_same in
        omega (arith, once, free, was, is, same);
    hashed = λ x h stored. only_hash_still t.shape p.view q.view x h r.does.held (can.hashed x h stored);
    notes = notes_after LocalFree r.calls [] can.notes;
    around = can.around;
    below = can.below;
    noted = r.does.noted ∙ (λ i. notes_after LocalFree r.calls [] (notes_same i) ∷ below_same i);
    hands_empty = λ x cpu among. ap (is_in_hand_of x cpu) r.does.hand ∙ can.hands_empty x cpu (ap (is_among cpu) (sym r.does.goes.cpus) ∙ among);
  }
