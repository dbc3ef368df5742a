-- What the entries of a well-shaped record name.
use Rattle.std.proofs.Common.{◌≡◌, ℕ, true, false, List, [], ◌∷◌, map, Some, ap, sym, ◌∙◌, subst}
use Rattle.std.specs.Prelude.{slice_get}
use Rattle.std.proofs.lemmas.List.Elements.{All-cons, All-nil}
use Rattle.map_types.specs.declared.attr.Shape.{Shape}
use Rattle.map_types.specs.declared.kind.DomainId.{DomainId}
use Rattle.map_types.specs.declared.kind.DomainId.TheVariants.{Local, Global, CpuLru, Bucket, Freelist}
use Rattle.place_words.specs.declared.history.Entry.{Entry}
use Rattle.place_words.specs.declared.history.LockHistory.{LockHistory}
use Rattle.place_words.specs.declared.history.Part.{Part}
use Rattle.place_words.specs.declared.history.Part.TheVariants as parts
use Rattle.place_words.specs.declared.list_part.LocalPart.{LocalPart}
use Rattle.place_words.specs.declared.list_part.LocalPart.TheVariants as local
use Rattle.place_words.specs.Locks.{is_lock, lock_number}
use Rattle.place_words.specs.Named.{entries_of}
use Rattle.map_report.specs.Record.{locks_of}
use Rattle.record_shape.specs.Fits.{AllFit}
use Rattle.record_shape.specs.ShapedParts.{EntryFits, LocalFits, PartFits}
use Rattle.record_shape.specs.WellShaped.{HistoryFits, lock_of}
use Rattle.record_shape.proofs.ByPlaces.{fit_at}
use Rattle.call_check.specs.StrandPlaces.{place_of}
use Rattle.call_check.proofs.Places.{history_at}
use Rattle.call_check.specs.GoneTables.{NameElements}
use Rattle.call_check.specs.Moved.{AreGoneBelow, OneBelow, gone_by, gone_by_local}

local_below : (shape : Shape) (part : LocalPart) → LocalFits shape part → OneBelow shape.elements (gone_by_local part)
local_below shape (local.Pop hash e) fits = tt
local_below shape (local.Refill hash flushed gained got) fits = tt
local_below shape (local.Steal got first second) fits = tt
local_below shape (local.Add hash e cursor) fits = tt
local_below shape (local.Push e true) fits = tt
local_below shape (local.Push e false) fits = fits

part_below : (shape : Shape) (lock : DomainId) (part : Part) → PartFits shape lock part → OneBelow shape.elements (gone_by part)
part_below shape lock (parts.Bucket part) fits = tt
part_below shape lock (parts.Free part) fits = tt
part_below shape (Local cpu) (parts.Local part) fits = local_below shape part fits
part_below shape Global (parts.Local part) fits = absurd fits
part_below shape (CpuLru cpu) (parts.Local part) fits = absurd fits
part_below shape (Bucket bucket) (parts.Local part) fits = absurd fits
part_below shape (Freelist cpu) (parts.Local part) fits = absurd fits
part_below shape lock (parts.Global part) fits = tt
part_below shape lock (parts.Own part) fits = tt

gone_below : (shape : Shape) (calls : ℕ) (lock : DomainId) (entries : List Entry) → AllFit (EntryFits shape calls lock) entries → AreGoneBelow shape.elements entries
gone_below shape calls lock [] fit = All-nil (λ (entry : Entry). OneBelow shape.elements (gone_by entry.part))
gone_below shape calls lock (entry ∷ entries) fit =
    All-cons (λ (e : Entry). OneBelow shape.elements (gone_by e.part)) entry entries (part_below shape lock entry.part fit.0.part) (gone_below shape calls lock entries fit.1)

pub name_elements : (shape : Shape) (calls : ℕ) (histories : List LockHistory) → AllFit (HistoryFits shape calls) histories → NameElements shape histories
name_elements shape calls [] fit = All-nil (λ (history : LockHistory). AreGoneBelow shape.elements history.entries)
name_elements shape calls (history ∷ histories) fit =
    All-cons (λ (h : LockHistory). AreGoneBelow shape.elements h.entries) history histories (gone_below shape calls history.lock history.entries fit.0.entries) (name_elements shape calls histories fit.1)

-- the part of an entry is of its lock's kind
pub part_fits : (shape : Shape) (calls : ℕ) (histories : List LockHistory) → map lock_of histories ≡ locks_of shape → AllFit (HistoryFits shape calls) histories
    → (lock : DomainId) (index : ℕ) (entry : Entry) → is_lock shape lock ≡ true → slice_get (entries_of histories lock) index ≡ Some entry → PartFits shape lock entry.part
part_fits shape calls histories locks fit lock index entry is at =
    let there = history_at shape histories locks lock is in
    let history_fits = fit_at (HistoryFits shape calls) histories fit (place_of shape (lock_number shape lock)) there.history there.there in
    let entry_fits = fit_at (EntryFits shape calls there.history.lock) there.history.entries history_fits.entries index entry (ap (λ (es : List Entry). slice_get es index) (sym there.entries_are) ∙ at) in
    subst (λ (l : DomainId). PartFits shape l entry.part) there.lock_is entry_fits.part
