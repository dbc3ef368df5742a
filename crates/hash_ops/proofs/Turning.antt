-- A turn with calls inside it: from its take and what lies under the lock to its give, and what is left of the pass then.
use Rattle.std.proofs.Common.{◌≡◌, ℕ, cond, false, List, [], ◌∷◌, ◌++◌, sym, refl, ap, ◌∙◌, subst}
use Rattle.std.specs.Prelude.{IsTrue}
use Rattle.map_types.specs.declared.kind.DomainId.{DomainId}
use Rattle.place_words.specs.declared.history.Part.{Part}
use Rattle.map_types.specs.Kind.{is_lru}
use Rattle.map_types.specs.ElementLists.{times}
use Rattle.map_types.proofs.RowLemmas.{by_test}
use Rattle.place_words.specs.Histories.{content, content_after, Allows, IsLegal}
use Rattle.place_words.specs.Locks.{is_lock, lock_named, lock_number}
use Rattle.place_words.proofs.LockLemmas.{named_by_number}
use Rattle.place_words.specs.declared.step.Lists.{Lists}
use Rattle.place_words.specs.State.{rows}
use Rattle.place_table.specs.declared.content.Content.{Content}
use Rattle.place_table.specs.declared.view.Hold.{Hold}
use Rattle.place_table.specs.declared.view.InHand.{InHand}
use Rattle.place_table.specs.declared.view.Notes.{Notes}
use Rattle.place_table.specs.declared.view.Turned.{Turned}
use Rattle.place_table.specs.Contents.{content_told, lists_of, FitsLock}
use Rattle.place_table.specs.Known.{Learns}
use Rattle.place_table.specs.Nested.{IsInside}
use Rattle.place_table.specs.Passes.{PassView, TableView, IsPassOf, HasBegun, TookLock, CanGive, Gave, Goes, Made, with_view, entry_of}
use Rattle.place_table.specs.TurnNotes.{NotesFit}
use Rattle.place_table.specs.Views.{no_notes, now_at, with_now, moved, learned, holds_below, notes_below, passed_on}
use Rattle.place_table.proofs.Entries.{append_nil}
use Rattle.place_table.proofs.Going.{AreElsewhere, given_turn, goes_on, goes_took, goes_gave, learns_turn, same_head}
use Rattle.place_table.proofs.Hands.{with_lists}
use Rattle.place_table.proofs.Worlds.{true_false}
use Rattle.place_table.specs.StoredHashes.{stored_in}
use Rattle.place_table.proofs.StoredHashes.{HasNoHashes, none_stored}

-- The lock of this hold was taken by p and is still the one that r took last: these lists lie under it, with these notes.
pub record IsUnder (p r : PassView) (hold : Hold) (now : Lists) (notes : Notes) : Type 0 where
  pub held : r.view.held ≡ with_lists now hold ∷ p.view.held
  pub notes_are : r.view.notes ≡ notes ∷ p.view.notes

pub under_taken : (t : TableView) (lock : DomainId) (p q : PassView) (here : Content) (took : TookLock t lock p q here) → IsUnder p q took.hold took.hold.now no_notes
under_taken t lock p q here took = record {
  held = ap (λ (z : PassView). z.view.held) took.after_is;
  notes_are = ap (λ (z : PassView). z.view.notes) took.after_is;
}

-- the lists under it, as a step reads them, and others after the step
pub under_now : (p r : PassView) (hold : Hold) (now : Lists) (notes : Notes) (k : ℕ) → IsUnder p r hold now notes → hold.lock ≡ k → now_at k r.view.held ≡ now
under_now p r hold now notes k under is =
    ap (now_at k) under.held
    ∙ by_test hold.lock k (λ b. cond b now (now_at k p.view.held) ≡ now) (λ _. refl) (λ other. absurd (other is))

pub under_moved : (p q r : PassView) (hold : Hold) (now later : Lists) (notes then : Notes) (at k : ℕ) (hand : List InHand) (noted : List Notes) (word left : ℕ) → IsUnder p q hold now notes → hold.lock ≡ k → noted ≡ then ∷ p.view.notes → r ≡ with_view q (moved at k later hand noted word left q.view) → IsUnder p r hold later then
under_moved p q r hold now later notes then at k hand noted word left under is noted_is after_is = record {
  held = ap (λ (z : PassView). z.view.held) after_is ∙ (ap (with_now k later) under.held
      ∙ by_test hold.lock k (λ b. cond b (with_lists later hold ∷ p.view.held) (with_lists now hold ∷ with_now k later p.view.held) ≡ with_lists later hold ∷ p.view.held) (λ _. refl) (λ other. absurd (other is)));
  notes_are = ap (λ (z : PassView). z.view.notes) after_is ∙ noted_is;
}

-- On a map that doesn't evict, a bucket or a freelist that was taken may be given back as something else: by a part that leads there,
-- with the elements that lie there now.
pub can_give : (t : TableView) (lock : DomainId) (p q r : PassView) (here back : Content) (part : Part) (now : Lists) (notes : Notes) (took : TookLock t lock p q here) → HasNoHashes lock → IsUnder p r took.hold now notes
    → IsPassOf t r → HasBegun r → IsTrue (is_lock t.shape lock) → FitsLock t.shape lock back → Allows t.shape r.cpu part (content_told lock here) → content_told lock back ≡ content_after t.shape r.cpu part (content_told lock here)
    → ((e : ℕ) → times e (lists_of (content_told lock back)).free ≡ times e now.free) → ((e : ℕ) → times e (rows (lists_of (content_told lock back))) ≡ times e (rows now)) → NotesFit t.shape r.view (with_lists now took.hold) part notes → IsInside t.shape part p.view.held
    → is_lru t.shape.kind ≡ false → CanGive t lock r back part
can_give t lock p q r here back part now notes took no_hashes under of_table begun there fits allowed leads same_free same_rows notes_fit inside plain =
    let named : lock_named t.shape took.hold.lock ≡ lock = ap (lock_named t.shape) took.lock_is ∙ named_by_number t.shape lock there in
    let told_there : content_told lock here ≡ content t.shape (lock_named t.shape took.hold.lock) took.hold.log = took.told_is ∙ ap (λ (d : DomainId). content t.shape d took.hold.log) (sym named) in record {
      of_table = of_table;
      begun = begun;
      hold = with_lists now took.hold;
      below = p.view.held;
      innermost = under.held;
      notes = notes;
      notes_below = p.view.notes;
      notes_are = under.notes_are;
      there = there;
      lock_is = took.lock_is;
      may_put = record {
        cpu = begun;
        told_is = ap (λ (d : DomainId). content_told d back) named ∙ (leads ∙ ap (content_after t.shape r.cpu part) told_there);
        fits = subst (λ (d : DomainId). FitsLock t.shape d back) (sym named) fits;
        allowed = subst (Allows t.shape r.cpu part) told_there allowed;
        same_free = λ e. ap (λ (d : DomainId). times e (lists_of (content_told d back)).free) named ∙ same_free e;
        same_rows = λ e. ap (λ (d : DomainId). times e (rows (lists_of (content_told d back)))) named ∙ same_rows e;
        rows_kept = λ _ j e h n other _ _ _ _ is. absurd (none_stored t.shape lock back e n no_hashes fits (ap (λ (d : DomainId). stored_in (content_told d back) e) (sym named) ∙ is));
        gone = λ _ c e h _ was _. absurd (none_stored t.shape lock here e h no_hashes took.fits (ap (λ z. stored_in z e) told_there ∙ was));
      };
      inside = inside;
      notes_fit = notes_fit;
      owners_fit = λ lru. absurd (true_false (sym lru ∙ plain));
    }

-- the hold that was given back is that of the take
pub given_hold : (p r s : PassView) (hold : Hold) (now : Lists) (notes : Notes) (part : Part) (gave : Gave r s part) → IsUnder p r hold now notes → gave.hold ≡ with_lists now hold
given_hold p r s hold now notes part gave under = same_head (sym gave.innermost ∙ under.held)

-- from the take to the give, with these turns between them
pub turn_made : (t : TableView) (lock : DomainId) (p q r s : PassView) (here : Content) (inner : List Turned) (lost : List ℕ) (part : Part) (now : Lists) (notes : Notes) (took : TookLock t lock p q here) → Goes q r inner lost
    → IsUnder p r took.hold now notes → passed_on part r.view.notes ≡ notes_below r.view.notes → (gave : Gave r s part) → Made p s (inner ++ given_turn r gave.ticket gave.hold part ∷ []) lost
turn_made t lock p q r s here inner lost part now notes took goes under passes gave = record {
  goes = goes_on p r s inner (given_turn r gave.ticket gave.hold part ∷ []) lost [] (subst (Goes p r inner) (append_nil lost) (goes_on p q r [] inner [] lost (goes_took t lock p q here took) goes)) (goes_gave r s part gave);
  held = ap (λ (z : PassView). z.view.held) gave.after_is ∙ ap holds_below under.held;
  notes = ap (λ (z : PassView). z.view.notes) gave.after_is ∙ (passes ∙ ap notes_below under.notes_are);
}

pub turn_learns : (t : TableView) (lock : DomainId) (p q r s : PassView) (here back : Content) (inner : List Turned) (part : Part) (now : Lists) (notes : Notes) (took : TookLock t lock p q here) → IsUnder p r took.hold now notes
    → CanGive t lock r back part → AreElsewhere (lock_number t.shape lock) inner → Learns t.shape q.view r.view inner [] → (gave : Gave r s part) → Learns t.shape p.view s.view (inner ++ given_turn r gave.ticket gave.hold part ∷ []) []
turn_learns t lock p q r s here back inner part now notes took under can apart learns gave =
    let taken : can.hold ≡ with_lists now took.hold = same_head (sym can.innermost ∙ under.held) in
    let same : can.hold ≡ gave.hold = taken ∙ sym (given_hold p r s took.hold now notes part gave under) in
    subst (λ (h : Hold). Learns t.shape p.view s.view (inner ++ given_turn r gave.ticket h part ∷ []) []) same
    (learns_turn t lock p q r here back inner gave.ticket part s.view took can
    (subst (λ (h : Hold). IsLegal t.shape lock h.log) (sym taken) took.legal)
    (λ log known. ap (λ (h : Hold). h.log) taken ∙ took.known log known) apart learns
    (ap (λ (z : PassView). z.view.known) gave.after_is ∙ ap (λ (h : Hold). learned h (entry_of r gave.ticket part) r.view) (sym same))
    (ap (λ (z : PassView). z.view.bits) gave.after_is)
    (ap (λ (z : PassView). z.view.cpus) gave.after_is) (ap (λ (z : PassView). z.view.shape) gave.after_is))
