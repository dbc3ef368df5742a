-- The first turns one after another, as they are judged.
use Rattle.std.proofs.Common.{ℕ, zero, suc, List, [], ◌∷◌, ◌++◌}
use Rattle.map_types.specs.declared.attr.Shape.{Shape}
use Rattle.map_types.specs.declared.kind.DomainId.{DomainId}
use Rattle.place_words.specs.Histories.{Content}
use Rattle.place_words.specs.Interleaving.{Drawn, turn_of, Event, enclosing, lists_in, tickets_of, turn_events}
use Rattle.place_words.specs.Turns.{after_turn}
use Rattle.core_runs.specs.Words.{Words, RunsByWords}
use Rattle.turn_order.specs.Ordered.{interleaved_to}
use Rattle.step_check.specs.Judged.{FlushesListed, FlushesTo}
use Rattle.step_check.specs.Ran.{words_over}
use Rattle.step_check.proofs.RunLemmas.{runs_both_parts, runs_first, runs_second}

-- Of each of the first turns, what it flushes isn't free, and its events may happen by words.
unfoldable pub JudgedTo : ℕ → Shape → (DomainId → Content) → List ℕ → Words → List Drawn → Type 0
JudgedTo zero shape contents begun w turns = Unit {0}
JudgedTo (suc n) shape contents begun w [] = Unit {0}
JudgedTo (suc n) shape contents begun w (x ∷ later) =
    let around : List Drawn = enclosing x later in
    let now : DomainId → Content = after_turn shape x.entry.cpu contents (turn_of x) in
    let events : List Event = turn_events shape around begun (lists_in (now x.lock)) x in
    FlushesListed w x.entry.part × RunsByWords shape w events
    × JudgedTo n shape now (x.entry.ticket ∷ tickets_of around ++ begun) (words_over shape w events) later

-- They are such exactly where their events run by words, and what they flush isn't free.
pub judged_by : (n : ℕ) (shape : Shape) (contents : DomainId → Content) (begun : List ℕ) (w : Words) (turns : List Drawn)
    → RunsByWords shape w (interleaved_to n shape contents begun turns) → FlushesTo n shape contents begun w turns → JudgedTo n shape contents begun w turns
unfolding interleaved_to FlushesTo JudgedTo
judged_by zero shape contents begun w turns run flushes = tt
judged_by (suc n) shape contents begun w [] run flushes = tt
judged_by (suc n) shape contents begun w (x ∷ later) run flushes =
    let around : List Drawn = enclosing x later in
    let now : DomainId → Content = after_turn shape x.entry.cpu contents (turn_of x) in
    let then : List ℕ = x.entry.ticket ∷ tickets_of around ++ begun in
    let first : List Event = turn_events shape around begun (lists_in (now x.lock)) x in
    let more : List Event = interleaved_to n shape now then later in
    (flushes.0, runs_first shape first more w run, judged_by n shape now then (words_over shape w first) later (runs_second shape first more w run) flushes.1)

pub runs_judged : (n : ℕ) (shape : Shape) (contents : DomainId → Content) (begun : List ℕ) (w : Words) (turns : List Drawn)
    → JudgedTo n shape contents begun w turns → RunsByWords shape w (interleaved_to n shape contents begun turns) × FlushesTo n shape contents begun w turns
unfolding interleaved_to FlushesTo JudgedTo RunsByWords
runs_judged zero shape contents begun w turns all = (tt, tt)
runs_judged (suc n) shape contents begun w [] all = (tt, tt)
runs_judged (suc n) shape contents begun w (x ∷ later) all =
    let around : List Drawn = enclosing x later in
    let now : DomainId → Content = after_turn shape x.entry.cpu contents (turn_of x) in
    let then : List ℕ = x.entry.ticket ∷ tickets_of around ++ begun in
    let first : List Event = turn_events shape around begun (lists_in (now x.lock)) x in
    let more : List Event = interleaved_to n shape now then later in
    let rest = runs_judged n shape now then (words_over shape w first) later all.2 in
    (runs_both_parts shape first more w all.1 rest.0, (all.0, rest.1))
