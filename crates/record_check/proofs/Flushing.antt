-- What entries of the global lists flush, as a well-shaped record has them.
use Rattle.std.proofs.Common.{ℕ, ◌<◌, List, [], ◌∷◌}
use Rattle.std.specs.Prelude.{All}
use Rattle.std.proofs.lemmas.List.Elements.{All-cons, All-nil}
use Rattle.map_types.specs.declared.attr.Shape.{Shape}
use Rattle.map_types.specs.declared.kind.DomainId.TheVariants as locks
use Rattle.place_words.specs.declared.history.Entry.{Entry}
use Rattle.place_words.specs.declared.history.Part.{Part}
use Rattle.place_words.specs.declared.history.Part.TheVariants as parts
use Rattle.place_words.specs.declared.list_part.GlobalPart.TheVariants as global
use Rattle.place_words.specs.declared.visits.Flush.{Flush}
use Rattle.record_shape.specs.Fits.{AllFit}
use Rattle.record_shape.specs.ShapedParts.{EntryFits, FlushFits, PartFits}
use Rattle.set_replay.specs.GlobalTurns.{FlushesBelow}

flushes_real : (shape : Shape) (flushed : List Flush) → AllFit (FlushFits shape) flushed → All (λ (flush : Flush). flush.element < shape.elements) flushed
flushes_real shape [] fit = All-nil (λ (flush : Flush). flush.element < shape.elements)
flushes_real shape (flush ∷ flushed) fit = All-cons (λ (flush : Flush). flush.element < shape.elements) flush flushed fit.0.0 (flushes_real shape flushed fit.1)

part_below : (shape : Shape) (part : Part) → PartFits shape locks.Global part → FlushesBelow shape.elements part
part_below shape (parts.Bucket part) fit = absurd fit
part_below shape (parts.Free part) fit = absurd fit
part_below shape (parts.Local part) fit = absurd fit
part_below shape (parts.Global (global.Turn flushed active inactive free shrink)) fit = flushes_real shape flushed fit.0.1
part_below shape (parts.Global (global.Push e)) fit = tt
part_below shape (parts.Own part) fit = absurd fit

pub flushes_below : (shape : Shape) (calls : ℕ) (entries : List Entry) → AllFit (EntryFits shape calls locks.Global) entries → All (λ (entry : Entry). FlushesBelow shape.elements entry.part) entries
flushes_below shape calls [] fit = All-nil (λ (entry : Entry). FlushesBelow shape.elements entry.part)
flushes_below shape calls (entry ∷ entries) fit =
    All-cons (λ (entry : Entry). FlushesBelow shape.elements entry.part) entry entries (part_below shape entry.part fit.0.part) (flushes_below shape calls entries fit.1)
