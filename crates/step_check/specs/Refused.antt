-- Which turn of a record is the first that words don't allow in its place.
use Rattle.std.specs.Prelude.{◌≡◌, ℕ, suc, ◌<◌, ◌≤◌, All, List, [], length, Option, None, Some}
use Rattle.map_types.specs.declared.attr.Shape.{Shape}
use Rattle.place_words.specs.declared.history.Entry.{Entry}
use Rattle.place_words.specs.Histories.{opening_content}
use Rattle.place_words.specs.Interleaving.{Drawn}
use Rattle.place_words.specs.OpeningState.{opening}
use Rattle.core_runs.specs.Words.{RunsByWords, words_of}
use Rattle.step_check.specs.Judged.{FlushTo}
use Rattle.turn_order.specs.Ordered.{interleaved_to}

-- the first turns run from the opening, by words, and what they flush isn't free
abbrev pub RunTo : Shape → ℕ → List Drawn → Type 0
RunTo shape n turns = RunsByWords shape (words_of (opening shape)) (interleaved_to n shape (opening_content shape) [] turns) × FlushTo shape n turns

-- Of turns in the order of their tickets, the first that makes a run of those before it none. There is none where all are a run.
abbrev pub FirstRefused : Shape → List Drawn → Option ℕ → Type 0
FirstRefused shape turns None = RunTo shape (length turns) turns
FirstRefused shape turns (Some ticket) = (ticket < length turns) × RunTo shape ticket turns × (¬ RunTo shape (suc ticket) turns)

-- Where one is refused, all of them are no run.
abbrev pub IsJudged : Shape → List Drawn → Option ℕ → Type 0
IsJudged shape turns None = RunTo shape (length turns) turns
IsJudged shape turns (Some ticket) = ¬ RunTo shape (length turns) turns

-- Entries are of calls that are numbered up to this, and those of one call are by one CPU.
abbrev pub AreOfCalls : ℕ → List Entry → Type 0
AreOfCalls calls entries = All (λ (entry : Entry). entry.call ≤ calls) entries

abbrev pub CallsHaveOneCpu : List Entry → Type 0
CallsHaveOneCpu entries = All (λ (entry : Entry). All (λ (other : Entry). other.call ≡ entry.call → other.cpu ≡ entry.cpu) entries) entries
