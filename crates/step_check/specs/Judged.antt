-- What the words say of turns of the global lists: what one flushes was pending on the CPU's own lists, and so it isn't free.
use Rattle.std.specs.Prelude.{◌≢◌, ℕ, zero, suc, All, List, [], ◌∷◌, ◌++◌}
use Rattle.map_types.specs.declared.attr.Shape.{Shape}
use Rattle.map_types.specs.declared.kind.DomainId.{DomainId}
use Rattle.place_words.specs.declared.history.Part.{Part}
use Rattle.place_words.specs.declared.history.Part.TheVariants as parts
use Rattle.place_words.specs.declared.list_part.GlobalPart.{GlobalPart}
use Rattle.place_words.specs.declared.list_part.GlobalPart.TheVariants as global
use Rattle.place_words.specs.declared.owner.Owner.TheVariants as owners
use Rattle.place_words.specs.Globals.{flushed_elements}
use Rattle.place_words.specs.Histories.{Content, opening_content}
use Rattle.place_words.specs.Interleaving.{Drawn, turn_of, enclosing, lists_in, tickets_of, turn_events}
use Rattle.place_words.specs.OpeningState.{opening}
use Rattle.place_words.specs.Turns.{after_turn}
use Rattle.core_runs.specs.Words.{Words, words_of}
use Rattle.step_check.specs.Ran.{words_over}

-- what a part flushes to the global lists
abbrev pub flushed_in : GlobalPart → List ℕ
flushed_in (global.Turn flushed active inactive free shrink) = flushed_elements flushed
flushed_in (global.Push e) = []

abbrev pub flushed_by : Part → List ℕ
flushed_by (parts.Bucket part) = []
flushed_by (parts.Free part) = []
flushed_by (parts.Local part) = []
flushed_by (parts.Global part) = flushed_in part
flushed_by (parts.Own part) = []

abbrev pub FlushesListed : Words → Part → Type 0
FlushesListed w part = All (λ e. w.owner e ≢ owners.Free) (flushed_by part)

-- what each of the first turns flushes isn't free by then
unfoldable pub FlushesTo : ℕ → Shape → (DomainId → Content) → List ℕ → Words → List Drawn → Type 0
FlushesTo zero shape contents begun w turns = Unit {0}
FlushesTo (suc n) shape contents begun w [] = Unit {0}
FlushesTo (suc n) shape contents begun w (x ∷ later) =
    let around : List Drawn = enclosing x later in
    let now : DomainId → Content = after_turn shape x.entry.cpu contents (turn_of x) in
    FlushesListed w x.entry.part
    × FlushesTo n shape now (x.entry.ticket ∷ tickets_of around ++ begun) (words_over shape w (turn_events shape around begun (lists_in (now x.lock)) x)) later

abbrev pub FlushTo : Shape → ℕ → List Drawn → Type 0
FlushTo shape n turns = FlushesTo n shape (opening_content shape) [] (words_of (opening shape)) turns
