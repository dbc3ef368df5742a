use Rattle.std.proofs.Common.{◌≡◌, ℕ, get_or, ap, sym, ◌∙◌, arith}
use Rattle.std.proofs.lemmas.Option.{get_or_from_slice_get}
use Rattle.place_words.specs.declared.history.LockHistory.{LockHistory}
use Rattle.place_words.specs.Locks.{lock_number}
use Rattle.record_parts.specs.StrandTables.{place_of}
use Rattle.record_parts.proofs.Places.{history_at, place_low, place_read, places_counted}
use Rattle.record_parts.proofs.strands.entries_at.Goals as goal

pub bounds-places-number : goal.bounds-places-number
bounds-places-number c = omega (arith, places_counted c.args.shape.now c.args.places.now c.requires.places, c.lock_number-number.ensures.within)

pub bounds-histories-place : goal.bounds-histories-place
bounds-histories-place c =
    let at = history_at c.args.shape.now c.args.histories.now c.requires.locks c.args.lock c.requires.lock in
    let read = place_read c.args.shape.now c.args.places.now c.lock_number-number.result c.requires.places c.lock_number-number.ensures.within in
    let same : place_of c.args.shape.now c.lock_number-number.result ≡ place_of c.args.shape.now (lock_number c.args.shape.now c.args.lock) = ap (place_of c.args.shape.now) c.lock_number-number.ensures.exact in
    omega (arith, at.within, read, same)

pub returns : goal.returns
returns c =
    let at = history_at c.args.shape.now c.args.histories.now c.requires.locks c.args.lock c.requires.lock in
    let read = place_read c.args.shape.now c.args.places.now c.lock_number-number.result c.requires.places c.lock_number-number.ensures.within in
    let same : get_or c.args.places.now c.lock_number-number.result 0 ≡ place_of c.args.shape.now (lock_number c.args.shape.now c.args.lock) = read ∙ ap (place_of c.args.shape.now) c.lock_number-number.ensures.exact in
    let here : get_or c.args.histories.now (get_or c.args.places.now c.lock_number-number.result 0) c.index-histories-place.result ≡ at.history =
    ap (λ (k : ℕ). get_or c.args.histories.now k c.index-histories-place.result) same
    ∙ get_or_from_slice_get c.args.histories.now (place_of c.args.shape.now (lock_number c.args.shape.now c.args.lock)) at.history c.index-histories-place.result at.there in
    ap (λ (h : LockHistory). h.entries) here ∙ sym at.entries_are

pub offset_bounds-histories-place : goal.offset_bounds-histories-place
offset_bounds-histories-place c =
    let read = place_read c.args.shape.now c.args.places.now c.lock_number-number.result c.requires.places c.lock_number-number.ensures.within in
    omega (arith, read, place_low c.args.shape.now c.lock_number-number.result, c.lock_number-number.type_inv)
