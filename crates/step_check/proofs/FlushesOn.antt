-- What the first turns flush, one turn more.
use Rattle.std.proofs.Common.{ℕ, zero, suc, ◌<◌, List, [], ◌∷◌, ◌++◌, length, sym, subst, arith}
use Rattle.map_types.specs.declared.attr.Shape.{Shape}
use Rattle.map_types.specs.declared.kind.DomainId.{DomainId}
use Rattle.place_words.specs.Histories.{Content}
use Rattle.place_words.specs.Interleaving.{Drawn, turn_of, Event, enclosing, lists_in, tickets_of, turn_events}
use Rattle.place_words.specs.Turns.{after_turn}
use Rattle.core_runs.specs.Words.{Words}
use Rattle.turn_order.specs.Ordered.{interleaved_to}
use Rattle.step_check.specs.Begun.{turn_in}
use Rattle.step_check.specs.Judged.{FlushesListed, FlushesTo}
use Rattle.step_check.specs.Ran.{words_over}
use Rattle.step_check.proofs.RunLemmas.{over_both}

-- One turn more: what it flushes isn't free by the words after the turns before it.
pub flushes_more : (n : ℕ) (shape : Shape) (contents : DomainId → Content) (begun : List ℕ) (w : Words) (turns : List Drawn) → n < length turns → FlushesTo n shape contents begun w turns
    → FlushesListed (words_over shape w (interleaved_to n shape contents begun turns)) (turn_in turns n).entry.part → FlushesTo (suc n) shape contents begun w turns
unfolding interleaved_to FlushesTo words_over
flushes_more n shape contents begun w [] less so_far here = absurd (omega (arith, less))
flushes_more zero shape contents begun w (x ∷ later) less so_far here = (here, tt)
flushes_more (suc n) shape contents begun w (x ∷ later) less so_far here =
    let around : List Drawn = enclosing x later in
    let now : DomainId → Content = after_turn shape x.entry.cpu contents (turn_of x) in
    let then : List ℕ = x.entry.ticket ∷ tickets_of around ++ begun in
    let first : List Event = turn_events shape around begun (lists_in (now x.lock)) x in (
      so_far.0,
      flushes_more n shape now then (words_over shape w first) later (omega (arith, less)) so_far.1
          (subst (λ (v : Words). FlushesListed v (turn_in later n).entry.part) (over_both shape first (interleaved_to n shape now then later) w) here),
    )

-- and the other way round
pub flushes_there : (n : ℕ) (shape : Shape) (contents : DomainId → Content) (begun : List ℕ) (w : Words) (turns : List Drawn) → n < length turns → FlushesTo (suc n) shape contents begun w turns
    → FlushesListed (words_over shape w (interleaved_to n shape contents begun turns)) (turn_in turns n).entry.part
unfolding interleaved_to FlushesTo words_over
flushes_there n shape contents begun w [] less all = absurd (omega (arith, less))
flushes_there zero shape contents begun w (x ∷ later) less all = all.0
flushes_there (suc n) shape contents begun w (x ∷ later) less all =
    let around : List Drawn = enclosing x later in
    let now : DomainId → Content = after_turn shape x.entry.cpu contents (turn_of x) in
    let then : List ℕ = x.entry.ticket ∷ tickets_of around ++ begun in
    let first : List Event = turn_events shape around begun (lists_in (now x.lock)) x in
    subst (λ (v : Words). FlushesListed v (turn_in later n).entry.part) (sym (over_both shape first (interleaved_to n shape now then later) w))
    (flushes_there n shape now then (words_over shape w first) later (omega (arith, less)) all.1)

pub flushes_fewer : (n : ℕ) (shape : Shape) (contents : DomainId → Content) (begun : List ℕ) (w : Words) (turns : List Drawn) → FlushesTo (suc n) shape contents begun w turns → FlushesTo n shape contents begun w turns
unfolding FlushesTo
flushes_fewer zero shape contents begun w turns all = tt
flushes_fewer (suc n) shape contents begun w [] all = tt
flushes_fewer (suc n) shape contents begun w (x ∷ later) all =
    let around : List Drawn = enclosing x later in
    let now : DomainId → Content = after_turn shape x.entry.cpu contents (turn_of x) in
    let first : List Event = turn_events shape around begun (lists_in (now x.lock)) x in
    (all.0, flushes_fewer n shape now (x.entry.ticket ∷ tickets_of around ++ begun) (words_over shape w first) later all.1)
