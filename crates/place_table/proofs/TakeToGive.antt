-- From what a take tells to what a give asks.
use Rattle.std.proofs.Common.{◌≡◌, ◌≢◌, ℕ, zero, suc, ◌<◌, cond, true, List, [], sym, refl, ap, ◌∙◌, subst, arith}
use Rattle.std.specs.Prelude.{IsTrue}
use Rattle.map_types.specs.declared.attr.Shape.{Shape}
use Rattle.map_types.specs.declared.kind.DomainId.{DomainId}
use Rattle.map_types.specs.declared.kind.DomainId.TheVariants.{Local, Global, CpuLru, Bucket, Freelist}
use Rattle.place_words.specs.declared.history.Part.{Part}
use Rattle.place_words.specs.declared.history.Part.TheVariants as parts
use Rattle.map_types.specs.Kind.{is_lru}
use Rattle.map_types.specs.ElementLists.{times}
use Rattle.map_types.proofs.RowLemmas.{times_append, by_test}
use Rattle.place_words.specs.Histories as histories
use Rattle.place_words.specs.Histories.{content, content_after, Allows, in_bucket, on_freelist, in_locals, in_global, in_own}
use Rattle.place_words.specs.declared.list_part.GlobalPart.{GlobalPart}
use Rattle.place_words.specs.Globals.{global_after}
use Rattle.place_words.specs.Sets.{ListSet}
use Rattle.place_words.specs.Locks.{is_lock, lock_named}
use Rattle.place_words.proofs.LockLemmas.{named_by_number}
use Rattle.place_words.specs.State.{rows}
use Rattle.place_words.specs.declared.step.Lists.{Lists}
use Rattle.place_table.specs.declared.content.Content.{Content}
use Rattle.place_table.specs.declared.content.Content.TheVariants as contents
use Rattle.place_table.specs.StoredHashes.{stored_in}
use Rattle.place_table.specs.Contents.{content_told, lists_of, FitsLock}
use Rattle.place_table.specs.declared.view.View.{View}
use Rattle.place_table.specs.declared.view.Turned.{Turned}
use Rattle.place_table.specs.Views.{no_notes, is_among, is_in_hand_of, numbers_below, passed_on, notes_below, with_owners_read}
use Rattle.place_table.specs.Nested.{IsInside}
use Rattle.place_table.specs.Owners.{OwnersFit}
use Rattle.place_table.specs.TurnNotes.{NotesFit}
use Rattle.place_table.specs.Passes.{PassView, TableView, IsPassOf, HasBegun, TookLock, CanGive, Went, IsInNoCall, IsFirstPass, spare_of}
use Rattle.place_table.proofs.StoredHashes.{stored_listed, HasNoHashes, none_stored}
use Rattle.place_table.specs.declared.view.OwnerSeen.{OwnerSeen}

-- a bucket or a freelist that was taken may be given back by a part that changes nothing
pub unchanged : (t : TableView) (lock : DomainId) (p q : PassView) (here : Content) (part : Part) → HasNoHashes lock → (took : TookLock t lock p q here) → IsPassOf t q → HasBegun q → IsTrue (is_lock t.shape lock)
    → Allows t.shape q.cpu part (content_told lock here) → content_after t.shape q.cpu part (content_told lock here) ≡ content_told lock here → NotesFit t.shape q.view took.hold part no_notes → (IsTrue (is_lru t.shape.kind) → OwnersFit t.shape q.view took.hold q.cpu part no_notes) → IsInside t.shape part p.view.held → CanGive t lock q here part
unchanged t lock p q here part no_hashes took of_table begun there allowed same notes_fit owners_fit inside =
    let named : lock_named t.shape took.hold.lock ≡ lock = ap (lock_named t.shape) took.lock_is ∙ named_by_number t.shape lock there in
    let told_there : content_told lock here ≡ content t.shape (lock_named t.shape took.hold.lock) took.hold.log = took.told_is ∙ ap (λ (d : DomainId). content t.shape d took.hold.log) (sym named) in
    let lists_there : lists_of (content_told (lock_named t.shape took.hold.lock) here) ≡ took.hold.now = ap (λ (d : DomainId). lists_of (content_told d here)) named ∙ sym took.now in record {
      of_table = of_table;
      begun = begun;
      hold = took.hold;
      below = p.view.held;
      innermost = ap (λ (z : PassView). z.view.held) took.after_is;
      notes = no_notes;
      notes_below = p.view.notes;
      notes_are = ap (λ (z : PassView). z.view.notes) took.after_is;
      there = there;
      lock_is = took.lock_is;
      may_put = record {
        cpu = begun;
        told_is = ap (λ (d : DomainId). content_told d here) named ∙ (sym same ∙ ap (content_after t.shape q.cpu part) told_there);
        fits = subst (λ (d : DomainId). FitsLock t.shape d here) (sym named) took.fits;
        allowed = subst (Allows t.shape q.cpu part) told_there allowed;
        same_free = λ e. ap (λ (l : Lists). times e l.free) lists_there;
        same_rows = λ e. ap (λ (l : Lists). times e (rows l)) lists_there;
        rows_kept = λ lru j e h n other _ _ _ _ is. absurd (none_stored t.shape lock here e n no_hashes took.fits (ap (λ (d : DomainId). stored_in (content_told d here) e) (sym named) ∙ is));
        gone = λ lru c e h _ was none.
            let inside = stored_listed (content_told lock here) e h (ap (λ z. stored_in z e) told_there ∙ was) in
            let both = times_append e took.hold.now.free (rows took.hold.now) in
            let there : 0 < times e (rows took.hold.now) = subst (λ l. 0 < times e (rows l)) (sym took.now) inside in
            absurd (omega (arith, there, both, none));
      };
      inside = inside;
      notes_fit = notes_fit;
      owners_fit = owners_fit;
    }

-- a turn of the global lists leaves such lists
global_left : (shape : Shape) (cpu : ℕ) (part : GlobalPart) (there : histories.Content) → Allows shape cpu (parts.Global part) there → (set : ListSet) × (content_after shape cpu (parts.Global part) there ≡ in_global set)
global_left shape cpu part (in_bucket bodies) allowed = absurd allowed
global_left shape cpu part (on_freelist stack) allowed = absurd allowed
global_left shape cpu part (in_locals lists) allowed = absurd allowed
global_left shape cpu part (in_global set) allowed = (global_after part set, refl)
global_left shape cpu part (in_own set) allowed = absurd allowed

-- which lie under no other lock than the global one
none_shared : (shape : Shape) (lock : DomainId) (here : Content) (set : ListSet) → lock ≢ Global → FitsLock shape lock here → content_told lock here ≡ in_global set → ⊥
none_shared shape lock (contents.Bucket chain) set other fits is = cc
none_shared shape lock (contents.Freelist freelist) set other fits is = cc
none_shared shape lock (contents.Local lists) set other fits is = cc
none_shared shape (Local c) (contents.Set lists) set other fits is = fits
none_shared shape Global (contents.Set lists) set other fits is = other refl
none_shared shape (CpuLru c) (contents.Set lists) set other fits is = cc
none_shared shape (Bucket b) (contents.Set lists) set other fits is = fits
none_shared shape (Freelist c) (contents.Set lists) set other fits is = fits

-- A turn of another lock than the global one in which no owner was read hands nothing on to the turn around it.
pub none_passed : (t : TableView) (lock : DomainId) (p : PassView) (here : Content) (part : Part) → lock ≢ Global → (can : CanGive t lock p here part) → can.notes.owners ≡ [] → passed_on part p.view.notes ≡ notes_below p.view.notes
none_passed t lock p here (parts.Bucket part) other can none =
    ap (passed_on (parts.Bucket part)) can.notes_are ∙ (ap (λ (l : List OwnerSeen). with_owners_read l can.notes_below) none ∙ sym (ap notes_below can.notes_are))
none_passed t lock p here (parts.Free part) other can none = refl
none_passed t lock p here (parts.Local part) other can none = refl
none_passed t lock p here (parts.Global part) other can none =
    let named : lock_named t.shape can.hold.lock ≡ lock = ap (lock_named t.shape) can.lock_is ∙ named_by_number t.shape lock can.there in
    let left = global_left t.shape p.cpu part (content t.shape (lock_named t.shape can.hold.lock) can.hold.log) can.may_put.allowed in
    absurd (none_shared t.shape (lock_named t.shape can.hold.lock) here left.0 (λ is. other (sym named ∙ is)) can.may_put.fits (can.may_put.told_is ∙ left.1))
none_passed t lock p here (parts.Own part) other can none = refl

-- a pass in no call is in none afterwards
pub stays_idle : (p q : PassView) (more : List Turned) (lost : List ℕ) → IsInNoCall p → Went p q more lost → IsInNoCall q
stays_idle p q more lost idle went =
    let goes = went.made.goes in record {
      holds_nothing = went.made.held ∙ idle.holds_nothing;
      spares_only = λ e cpu has in_hand.
          let x = idle.spares_only e cpu (ap (is_among cpu) (sym goes.cpus) ∙ has) (ap (is_in_hand_of e cpu) (sym went.hand) ∙ in_hand) in
          (x.0, ap (spare_of cpu) went.spares ∙ x.1, x.2, ap (λ (z : Shape). z.kind) goes.shape ∙ x.3);
      spares_in_hand = λ cpu body kept. ap (is_in_hand_of body.element cpu) went.hand ∙ idle.spares_in_hand cpu body (ap (spare_of cpu) (sym went.spares) ∙ kept);
      none_out = λ kind cpu has.
          let x = idle.none_out (ap (λ (z : Shape). z.kind) (sym goes.shape) ∙ kind) cpu (ap (is_among cpu) (sym goes.cpus) ∙ has) in
          (x.0, ap (spare_of cpu) went.spares ∙ x.1);
      carries_nothing = went.carried ∙ idle.carries_nothing;
    }

-- the pass that has taken a lock is of the table and has begun
pub taken_of_table : (t : TableView) (lock : DomainId) (p q : PassView) (here : Content) → TookLock t lock p q here → IsPassOf t p → IsPassOf t q
taken_of_table t lock p q here took of_table =
    (ap (λ (z : PassView). z.table) took.after_is ∙ of_table.0, ap (λ (z : PassView). z.view.shape) took.after_is ∙ of_table.1)

pub taken_begun : (t : TableView) (lock : DomainId) (p q : PassView) (here : Content) → TookLock t lock p q here → HasBegun p → HasBegun q
taken_begun t lock p q here took begun = ap (λ (z : PassView). is_among z.cpu z.view.cpus) took.after_is ∙ begun

-- The first pass

pub among_below : (c n : ℕ) → c < n → is_among c (numbers_below n) ≡ true
among_below c zero less = absurd (omega arith)
among_below c (suc n) less = by_test n c (λ b. cond b true (is_among c (numbers_below n)) ≡ true) (λ _. refl) (λ other. among_below c n (omega arith))

-- it has all CPUs, and holds nothing
pub first_has : (t : TableView) (p : PassView) (c : ℕ) → IsFirstPass t p → c < t.shape.cpus → is_among c p.view.cpus ≡ true
first_has t p c first less = ap (λ (v : View). is_among c v.cpus) first.view_is ∙ among_below c t.shape.cpus less
