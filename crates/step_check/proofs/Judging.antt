-- Turns that are judged one by one are allowed by words all together; and the other way round where no turn flushes.
use Rattle.std.proofs.Common.{◌≡◌, ℕ, zero, suc, false, List, [], ◌∷◌, ◌++◌}
use Rattle.std.specs.Prelude.{IsTrue}
use Rattle.std.proofs.lemmas.List.Elements.{All-nil}
use Rattle.map_types.specs.declared.attr.Shape.{Shape}
use Rattle.map_types.specs.declared.kind.DomainId.{DomainId}
use Rattle.map_types.specs.declared.kind.DomainId.TheVariants.{Global}
use Rattle.place_words.specs.declared.history.Part.{Part}
use Rattle.place_words.specs.declared.history.Part.TheVariants as parts
use Rattle.place_words.specs.Histories.{Content}
use Rattle.place_words.specs.Locks.{is_lock}
use Rattle.place_words.specs.Turns.{after_turn}
use Rattle.place_words.specs.Interleaving.{Drawn, turn_of, Event, does, sees, enclosing, lists_in, tickets_of, turn_events}
use Rattle.turn_order.specs.Ordered.{interleaved_to}
use Rattle.core_runs.specs.Words.{Words, words_after, RunsByWords}
use Rattle.core_runs.proofs.RaceLinks.{AllowAlong, AreOnLocks}
use Rattle.step_check.specs.Ran.{words_over}
use Rattle.step_check.specs.Judged.{FlushesListed}
use Rattle.step_check.proofs.TurnsJudged.{JudgedTo}
use Rattle.step_check.proofs.LockSorts.{AreOfTheirSorts, sort_of_part, sort_of_lock, sorts_after, part_sort, global_lock}
use Rattle.step_check.proofs.PlainLinks.{no_global, on_lock_named}

pub words_both : (shape : Shape) (some more : List Event) (w : Words) → RunsByWords shape w some → RunsByWords shape (words_over shape w some) more → RunsByWords shape w (some ++ more)
unfolding RunsByWords words_over
words_both shape [] more w first second = second
words_both shape (does step ∷ some) more w first second = (first.0, words_both shape some more (words_after shape w step) first.1 second)
words_both shape (sees e holder ∷ some) more w first second = (first.0, words_both shape some more w first.1 second)

pub words_apart : (shape : Shape) (some more : List Event) (w : Words) → RunsByWords shape w (some ++ more) → RunsByWords shape w some × RunsByWords shape (words_over shape w some) more
unfolding RunsByWords words_over
words_apart shape [] more w run = (tt, run)
words_apart shape (does step ∷ some) more w run =
    let rest = words_apart shape some more (words_after shape w step) run.1 in ((run.0, rest.0), rest.1)
words_apart shape (sees e holder ∷ some) more w run =
    let rest = words_apart shape some more w run.1 in ((run.0, rest.0), rest.1)

pub judged_words : (shape : Shape) (n : ℕ) (turns : List Drawn) (contents : DomainId → Content) (begun : List ℕ) (w : Words) → JudgedTo n shape contents begun w turns → RunsByWords shape w (interleaved_to n shape contents begun turns)
unfolding JudgedTo interleaved_to RunsByWords
judged_words shape zero turns contents begun w judged = tt
judged_words shape (suc n) [] contents begun w judged = tt
judged_words shape (suc n) (x ∷ later) contents begun w judged =
    let around : List Drawn = enclosing x later in
    let now : DomainId → Content = after_turn shape x.entry.cpu contents (turn_of x) in
    let events : List Event = turn_events shape around begun (lists_in (now x.lock)) x in
    let more : List ℕ = x.entry.ticket ∷ tickets_of around ++ begun in
    words_both shape events (interleaved_to n shape now more later) w judged.1 (judged_words shape n later now more (words_over shape w events) judged.2)

-- maps whose CPUs don't share lists have no turn that flushes
flushes_none : (shape : Shape) (w : Words) (lock : DomainId) (part : Part) → shape.common ≡ false → sort_of_part part ≡ sort_of_lock lock → IsTrue (is_lock shape lock) → FlushesListed w part
flushes_none shape w lock (parts.Bucket part) apart sort on = All-nil _
flushes_none shape w lock (parts.Free part) apart sort on = All-nil _
flushes_none shape w lock (parts.Local part) apart sort on = All-nil _
flushes_none shape w lock (parts.Global part) apart sort on = absurd (no_global shape apart (on_lock_named shape lock Global (global_lock lock sort) on))
flushes_none shape w lock (parts.Own part) apart sort on = All-nil _

pub judged_apart : (shape : Shape) → shape.common ≡ false → (n : ℕ) (turns : List Drawn) (contents : DomainId → Content) (begun : List ℕ) (w : Words) → AreOfTheirSorts contents → AreOnLocks shape turns → AllowAlong shape contents turns
    → RunsByWords shape w (interleaved_to n shape contents begun turns) → JudgedTo n shape contents begun w turns
unfolding JudgedTo interleaved_to
judged_apart shape apart zero turns contents begun w sorts on allow run = tt
judged_apart shape apart (suc n) [] contents begun w sorts on allow run = tt
judged_apart shape apart (suc n) (x ∷ later) contents begun w sorts on allow run =
    let around : List Drawn = enclosing x later in
    let now : DomainId → Content = after_turn shape x.entry.cpu contents (turn_of x) in
    let events : List Event = turn_events shape around begun (lists_in (now x.lock)) x in
    let more : List ℕ = x.entry.ticket ∷ tickets_of around ++ begun in
    let both = words_apart shape events (interleaved_to n shape now more later) w run in (
      flushes_none shape w x.lock x.entry.part apart (part_sort shape x.entry.cpu x.entry.part x.lock contents sorts allow.0) on.0,
      both.0,
      judged_apart shape apart n later now more (words_over shape w events) (sorts_after shape x.entry.cpu contents (turn_of x) sorts) on.1 allow.1 both.1,
    )
