-- A part that a lock may be given back with tells the turn that ends so.
use Rattle.std.proofs.Common.{◌≡◌, ℕ, List, ◌++◌, sym, ap}
use Rattle.map_types.specs.declared.attr.Shape.{Shape}
use Rattle.map_types.specs.declared.kind.DomainId.{DomainId}
use Rattle.place_words.specs.declared.history.Part.{Part}
use Rattle.place_words.specs.declared.history.Part.TheVariants as parts
use Rattle.place_words.specs.declared.list_part.GlobalPart.TheVariants as global
use Rattle.place_words.specs.declared.visits.Flush.{Flush}
use Rattle.place_words.specs.declared.visits.Visit.{Visit}
use Rattle.place_words.specs.Histories.{bits_cleared}
use Rattle.place_table.specs.declared.content.Content.{Content}
use Rattle.place_table.specs.declared.view.View.{View}
use Rattle.place_table.specs.declared.view.Hold.{Hold}
use Rattle.place_table.specs.Calls.{TellsTurn, view_then}
use Rattle.place_table.specs.Passes.{PassView, TableView, CanGive}
use Rattle.place_table.specs.TurnNotes.{FlushedFit, clears_noted}
use Rattle.place_table.specs.Views.{moment_of}
use Rattle.place_table.proofs.Going.{given_turn}

-- of what a pass knows, flushes fit by the locks that it holds alone
flushed_then : (shape other : Shape) (v : View) (part : Part) (inside : List Flush) → FlushedFit shape v part inside → FlushedFit shape (view_then other (moment_of v)) part inside
flushed_then shape other v (parts.Bucket part) inside fit = fit
flushed_then shape other v (parts.Free part) inside fit = fit
flushed_then shape other v (parts.Local part) inside fit = fit
flushed_then shape other v (parts.Global (global.Turn flushed active inactive free shrink)) inside fit = fit
flushed_then shape other v (parts.Global (global.Push e)) inside fit = fit
flushed_then shape other v (parts.Own part) inside fit = fit

-- the turn may have been told by another part, as where the lock was given back without one
pub tells_turn : {t : TableView} {lock : DomainId} {p : PassView} {here : Content} {part : Part} (can : CanGive t lock p here part) (n : ℕ) (hold : Hold) (other : Part) → hold ≡ can.hold → (behind : List Visit) → clears_noted can.notes ≡ bits_cleared part ++ behind → TellsTurn t.shape (given_turn p n hold other) part
tells_turn {t} {lock} {p} {here} {part} can n hold other same behind first_are = record {
  hold = can.hold;
  below = can.below;
  innermost = can.innermost;
  lock_is = ap (λ (h : Hold). h.lock) (sym same);
  log_is = ap (λ (h : Hold). h.log) (sym same);
  notes = can.notes;
  notes_below = can.notes_below;
  notes_are = can.notes_are;
  notes_fit = record {
    marks_are = can.notes_fit.marks_are;
    clears_are = can.notes_fit.clears_are;
    reads = can.notes_fit.reads;
    flushed = flushed_then t.shape t.shape p.view part can.notes.flushed can.notes_fit.flushed;
    off = can.notes_fit.off;
    held = can.notes_fit.held;
    came = can.notes_fit.came;
  };
  first_clears = (behind, first_are);
  gone = can.may_put.gone;
}
