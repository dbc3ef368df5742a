-- A turn of a freelist, and what is left of a pass after some.
use Rattle.std.proofs.Common.{inl, ◌≡◌, ℕ, ◌<◌, Bool, true, false, List, [], ◌∷◌, ◌++◌, sym, refl, ap, ◌∙◌, subst, arith, Some}
use Rattle.std.specs.Prelude.{IsTrue, All, nat_lt, not, reverse, ◌&&◌}
use Rattle.std.proofs.lemmas.List.Elements.{All-nil, All-cons, All-head, All-tail, All-append}
use Rattle.map_types.specs.declared.attr.Shape.{Shape}
use Rattle.map_types.specs.declared.kind.DomainId.{DomainId}
use Rattle.map_types.specs.declared.kind.DomainId.TheVariants.{Bucket, Freelist}
use Rattle.map_types.specs.Kind.{is_lru}
use Rattle.map_types.specs.Stored.{Stored}
use Rattle.cpu_freelist.specs.Stack.{FreelistView}
use Rattle.place_words.specs.declared.free_part.FreePart.{FreePart}
use Rattle.place_words.specs.declared.history.Part.{Part}
use Rattle.place_words.specs.declared.history.Part.TheVariants as parts
use Rattle.place_words.specs.declared.visits.Visit.{Visit}
use Rattle.place_words.specs.Bodies.{numbers}
use Rattle.place_words.specs.Histories.{bits_cleared}
use Rattle.place_words.specs.Locks.{is_lock, lock_named, lock_number, rank_of}
use Rattle.place_words.specs.Traces.{on_freelist_of}
use Rattle.place_words.proofs.LockLemmas.{named_by_number}
use Rattle.place_words.specs.declared.step.Lists.{Lists}
use Rattle.place_table.specs.declared.content.Content.{Content}
use Rattle.place_table.specs.declared.content.Content.TheVariants as contents
use Rattle.place_table.specs.declared.view.View.{View}
use Rattle.place_table.specs.declared.view.Hold.{Hold}
use Rattle.place_table.specs.declared.view.BitAsked.{BitAsked}
use Rattle.place_table.specs.declared.view.Notes.{Notes}
use Rattle.place_table.specs.declared.view.Turned.{Turned}
use Rattle.place_table.specs.Flushes.{flushes}
use Rattle.place_table.specs.Known.{Learns}
use Rattle.place_table.specs.Nested.{IsInside}
use Rattle.place_table.specs.Passes.{PassView, TableView, IsPassOf, CanTake, TookLock, CanGive, Gave, Goes}
use Rattle.place_table.specs.Rules.{IsAboveAll}
use Rattle.place_table.specs.TurnNotes.{NotesFit, WasRead, ProbeFits, CameToHand, clears_among, clears_noted}
use Rattle.place_table.specs.Views.{no_notes, hold_at}
use Rattle.place_table.proofs.TakeToGive.{taken_of_table, none_passed}
use Rattle.place_table.proofs.Going.{same_head, AreElsewhere, given_turn, goes_on, goes_nowhere, goes_of_table, goes_begun, learns_on, learns_none}
use Rattle.place_table.proofs.Leaves.{passes_below}
use Rattle.place_table.proofs.Telling.{tells_turn}
use Rattle.place_table.proofs.TurnsOn.{told_append}
use Rattle.place_table.proofs.Worlds.{hold_at_first}
use Rattle.hash_ops.specs.Calls.{turn_of, IsBy}
use Rattle.hash_ops.specs.Free.{CanReach, AreOnFreelists, Reached}
use Rattle.hash_ops.proofs.Turning.{IsUnder, given_hold, turn_made, turn_learns}

-- A freelist is a lock of a map that doesn't evict

pub freelist_there : (shape : Shape) (cpu : ℕ) → is_lru shape.kind ≡ false → cpu < shape.cpus → IsTrue (is_lock shape (Freelist cpu))
freelist_there shape cpu plain within = ap (λ (b : Bool). not b && nat_lt cpu shape.cpus) plain ∙ passes_below cpu shape.cpus within

pub can_take : (t : TableView) (p : PassView) (cpu : ℕ) → is_lru t.shape.kind ≡ false → cpu < t.shape.cpus → CanReach t p → CanTake t (Freelist cpu) p
can_take t p cpu plain within can = record {
  of_table = can.of_table;
  begun = can.begun;
  there = freelist_there t.shape cpu plain within;
  above = can.above;
}

-- a freelist with a body on top
abbrev pub with_top : Stored → FreelistView → FreelistView
with_top body f = record { bodies = body ∷ f.bodies; room = f.room }

-- the free list under the lock, as it was taken
pub free_is : (t : TableView) (cpu : ℕ) (p q : PassView) (f : FreelistView) (took : TookLock t (Freelist cpu) p q (contents.Freelist f)) → took.hold.now.free ≡ numbers f.bodies
free_is t cpu p q f took = ap (λ (l : Lists). l.free) took.now

pub number_is : (t : TableView) (cpu : ℕ) (p q : PassView) (here : Content) (took : TookLock t (Freelist cpu) p q here) → IsPassOf t p → took.hold.lock ≡ lock_number q.view.shape (Freelist cpu)
number_is t cpu p q here took of_table = took.lock_is ∙ ap (λ (shape : Shape). lock_number shape (Freelist cpu)) (sym (taken_of_table t (Freelist cpu) p q here took of_table).1)

pub hold_is : (t : TableView) (cpu : ℕ) (p q : PassView) (here : Content) (took : TookLock t (Freelist cpu) p q here) → hold_at (lock_number t.shape (Freelist cpu)) q.view.held ≡ Some took.hold
hold_is t cpu p q here took =
    ap (λ (z : PassView). hold_at (lock_number t.shape (Freelist cpu)) z.view.held) took.after_is
    ∙ (ap (λ (k : ℕ). hold_at k (took.hold ∷ p.view.held)) (sym took.lock_is) ∙ hold_at_first took.hold p.view.held)

-- One turn of a freelist

-- only what came to the hand is noted
pub record IsQuiet (notes : Notes) : Type 0 where
  pub marks : notes.marks ≡ []
  pub asked : notes.asked ≡ []
  pub owners : notes.owners ≡ []
  pub off : notes.off ≡ []

pub quiet_none : IsQuiet no_notes
quiet_none = record { marks = refl; asked = refl; owners = refl; off = refl }

pub quiet_fits : (shape : Shape) (v : View) (hold : Hold) (part : FreePart) (notes : Notes) → IsQuiet notes → NotesFit shape v hold (parts.Free part) notes
quiet_fits shape v hold part notes quiet = record {
  marks_are = quiet.marks;
  clears_are = ap (λ (asked : List BitAsked). clears_among (reverse asked)) quiet.asked;
  reads = All-nil (WasRead notes.asked);
  flushed = tt;
  off = subst (All (λ e. flushes e (parts.Free part) ≡ true)) (sym quiet.off) (All-nil (λ e. flushes e (parts.Free part) ≡ true));
  held = All-nil (ProbeFits notes.owners);
  came = All-nil (CameToHand v hold notes);
}

-- a turn of some freelist
abbrev IsOnFreelist : Shape → Turned → Type 0
IsOnFreelist shape step = (c : ℕ) × (c < shape.cpus) × (step.lock ≡ lock_number shape (Freelist c))

-- the turn of a freelist, with what changes in hand, leaves a pass that has reached it
pub reached_once : (t : TableView) (cpu : ℕ) (p q r s : PassView) (here back : Content) (part : Part) (now : Lists) (notes : Notes) (took : TookLock t (Freelist cpu) p q here) → IsQuiet notes → bits_cleared part ≡ [] → cpu < t.shape.cpus → Goes q r [] [] → r.spares ≡ q.spares → r.view.bits ≡ q.view.bits → r.view.carried ≡ q.view.carried → Learns t.shape q.view r.view [] []
    → IsUnder p r took.hold now notes → CanGive t (Freelist cpu) r back part → (gave : Gave r s part) → Reached t p s (given_turn r gave.ticket gave.hold part ∷ [])
reached_once t cpu p q r s here back part now notes took quiet none_told within goes spares bits carried learns under can gave =
    let made = turn_made t (Freelist cpu) p q r s here [] [] part now notes took goes under (none_passed t (Freelist cpu) r back part (λ is. cc) can (ap (λ (z : Notes). z.owners) (same_head (sym can.notes_are ∙ under.notes_are)) ∙ quiet.owners)) gave in
    let same_cpu : r.cpu ≡ p.cpu = goes.cpu ∙ ap (λ (z : PassView). z.cpu) took.after_is in
    let same_call : r.call ≡ p.call = goes.call ∙ ap (λ (z : PassView). z.call) took.after_is in
    let lock_is : gave.hold.lock ≡ lock_number t.shape (Freelist cpu) = ap (λ (h : Hold). h.lock) (given_hold p r s took.hold now notes part gave under) ∙ took.lock_is in record {
      goes = made.goes;
      held = made.held;
      notes = made.notes;
      spares = ap (λ (z : PassView). z.spares) gave.after_is ∙ (spares ∙ ap (λ (z : PassView). z.spares) took.after_is);
      bits = ap (λ (z : PassView). z.view.bits) gave.after_is ∙ (bits ∙ ap (λ (z : PassView). z.view.bits) took.after_is);
      carried = ap (λ (z : PassView). z.view.carried) gave.after_is ∙ (carried ∙ ap (λ (z : PassView). z.view.carried) took.after_is);
      by_call = All-cons (IsBy p.cpu p.call) (given_turn r gave.ticket gave.hold part) [] (same_cpu, same_call) (All-nil (IsBy p.cpu p.call));
      on_freelists = All-cons (IsOnFreelist t.shape) (given_turn r gave.ticket gave.hold part) [] (cpu, within, lock_is) (All-nil (IsOnFreelist t.shape));
      learns = turn_learns t (Freelist cpu) p q r s here back [] part now notes took under can tt learns gave;
      told = ((inl refl, tells_turn can gave.ticket gave.hold part (same_head (sym gave.innermost ∙ can.innermost)) (clears_noted can.notes) (ap (λ (l : List Visit). l ++ clears_noted can.notes) (sym none_told))), tt);
    }

-- and the turn is one of this freelist
pub turn_is : (t : TableView) (cpu : ℕ) (p q r s : PassView) (here : Content) (part : FreePart) (now : Lists) (notes : Notes) (took : TookLock t (Freelist cpu) p q here) → IsTrue (is_lock t.shape (Freelist cpu)) → IsUnder p r took.hold now notes → (gave : Gave r s (parts.Free part))
    → turn_of t.shape (given_turn r gave.ticket gave.hold (parts.Free part)) ≡ on_freelist_of cpu part
turn_is t cpu p q r s here part now notes took is_there under gave =
    let lock_is : gave.hold.lock ≡ lock_number t.shape (Freelist cpu) = ap (λ (h : Hold). h.lock) (given_hold p r s took.hold now notes (parts.Free part) gave under) ∙ took.lock_is in
    ap (λ (d : DomainId). record { lock = d; part = parts.Free part }) (ap (lock_named t.shape) lock_is ∙ named_by_number t.shape (Freelist cpu) is_there)

-- Turns in their order

pub reached_nowhere : (t : TableView) (p : PassView) → Reached t p p []
reached_nowhere t p = record {
  goes = goes_nowhere p;
  held = refl;
  notes = refl;
  spares = refl;
  bits = refl;
  carried = refl;
  by_call = All-nil (IsBy p.cpu p.call);
  on_freelists = All-nil (IsOnFreelist t.shape);
  learns = learns_none t.shape p.view;
  told = tt;
}

pub reached_on : (t : TableView) (p q r : PassView) (first second : List Turned) → Reached t p q first → Reached t q r second → Reached t p r (first ++ second)
reached_on t p q r first second a b = record {
  goes = goes_on p q r first second [] [] a.goes b.goes;
  held = b.held ∙ a.held;
  notes = b.notes ∙ a.notes;
  spares = b.spares ∙ a.spares;
  bits = b.bits ∙ a.bits;
  carried = b.carried ∙ a.carried;
  by_call = All-append (IsBy p.cpu p.call) first second a.by_call (subst (λ (call : ℕ). All (IsBy p.cpu call) second) a.goes.call (subst (λ (cpu : ℕ). All (IsBy cpu q.call) second) a.goes.cpu b.by_call));
  on_freelists = All-append (IsOnFreelist t.shape) first second a.on_freelists b.on_freelists;
  learns = learns_on t.shape p.view q.view r.view first second [] [] a.learns b.learns;
  told = told_append t.shape [] first second first second a.told b.told;
}

-- freelists may be taken again
pub reach_on : (t : TableView) (p q : PassView) (steps : List Turned) → CanReach t p → Reached t p q steps → CanReach t q
reach_on t p q steps can reached = record {
  of_table = goes_of_table t p q steps [] reached.goes can.of_table;
  begun = goes_begun p q steps [] reached.goes can.begun;
  above = subst (IsAboveAll t.shape (rank_of (Freelist 0))) (sym reached.held) can.above;
  inside = λ part. subst (IsInside t.shape (parts.Free part)) (sym reached.held) (can.inside part);
}

-- Turns of freelists under a bucket's lock leave what lies there, and are turns of other locks.

pub under_reached : (t : TableView) (p q r : PassView) (hold : Hold) (now : Lists) (notes : Notes) (steps : List Turned) → IsUnder p q hold now notes → Reached t q r steps → IsUnder p r hold now notes
under_reached t p q r hold now notes steps under reached = record {
  held = reached.held ∙ under.held;
  notes_are = reached.notes ∙ under.notes_are;
}

pub elsewhere : (shape : Shape) (bucket : ℕ) (steps : List Turned) → bucket < shape.buckets → AreOnFreelists shape steps → AreElsewhere (lock_number shape (Bucket bucket)) steps
elsewhere shape bucket [] real on = tt
elsewhere shape bucket (step ∷ steps) real on =
    let first = All-head (IsOnFreelist shape) step steps on in
    (λ same. absurd (omega (arith, first.2)), elsewhere shape bucket steps real (All-tail (IsOnFreelist shape) step steps on))
