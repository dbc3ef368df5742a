use Rattle.std.proofs.Common.{◌≡◌, ℕ, List, [], ◌∷◌, ◌++◌, map, ap, sym, ◌∙◌, arith}
use Rattle.std.specs.List.{range_with_len}
use Rattle.std.proofs.lemmas.List.FromFn.{map-range_with_len_more}
use Rattle.place_words.specs.declared.history.Entry.{Entry}
use Rattle.place_words.specs.Entries.{entry_read}
use Rattle.call_check.specs.Moved.{entry_at, no_entry, placed_at}
use Rattle.call_check.specs.declared.moved.Ticketed.{Ticketed}
use Rattle.call_check.proofs.moved.turns_placed.Goals as goal

pub loop-place-preserved : goal.loop-place-preserved
loop-place-preserved c =
    let entries : List Entry = c.args.entries.now in
    let place : ℕ = c.loop-place.place in
    let read : Entry = entry_read c.at.result in
    let same : read ≡ entry_at entries place = sym (c.at.ensures.whatever no_entry) in
    ◌∙◌ {A = List Ticketed} c.in_ok-push.ensures.items
    (ap (λ (l : List Ticketed). l ++ record { ticket = read.ticket; place = place } ∷ []) c.loop-place.invariant
    ∙ (ap (λ (t : ℕ). map (placed_at entries) (range_with_len 0 place) ++ record { ticket = t; place = place } ∷ []) (ap (λ (e : Entry). e.ticket) same)
    ∙ sym (map-range_with_len_more (placed_at entries) 0 place place (omega arith))))
