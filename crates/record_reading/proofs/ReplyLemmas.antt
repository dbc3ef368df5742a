-- Replies, call by call.
use Rattle.std.proofs.Common.{◌≡◌, ℕ, zero, suc, ◌+◌, ◌<◌, ◌≤◌, List, [], ◌∷◌, ◌++◌, length, drop, get_or, Option, None, Ok, Err, refl, ap, ◌∙◌, arith}
use Rattle.map_types.specs.declared.attr.Shape.{Shape}
use Rattle.map_types.specs.declared.call.Call.{Call}
use Rattle.map_types.specs.declared.reply.Reply.{Reply}
use Rattle.map_script.specs.declared.script.Script.{Script}
use Rattle.record_reading.specs.Answers.{with_numbers, reply_of}
use Rattle.record_reading.specs.Outcomes.{Reads}
use Rattle.record_reading.specs.RecordReaders.{replies_section}
use Rattle.record_reading.specs.Sections.{Line, Section, one_line}
use Rattle.record_reading.proofs.LoopLemmas.{EachSoFar, each_start, each_more, each_none, each_done, none_read}

-- the calls from one on, with their numbers
abbrev pub calls_from : ℕ → List Call → List (ℕ × Call)
calls_from i calls = with_numbers (i + 1) (drop i calls)

from_call : (d : Call) (i first : ℕ) (calls : List Call) → i < length calls → with_numbers first (drop i calls) ≡ (first, get_or calls i d) ∷ with_numbers (first + 1) (drop (suc i) calls)
from_call d i first [] less = absurd (omega arith)
from_call d zero first (call ∷ calls) less = refl
from_call d (suc i) first (call ∷ calls) less = from_call d i first calls (omega arith)

next_call : (d : Call) (i : ℕ) (calls : List Call) → i < length calls → calls_from i calls ≡ (i + 1, get_or calls i d) ∷ calls_from (i + 1) calls
next_call d i calls less = from_call d i (i + 1) calls less ∙ ap (λ n. (i + 1, get_or calls i d) ∷ with_numbers (i + 1 + 1) (drop n calls)) {x = suc i} {y = i + 1} (omega arith)

past_calls : (i first : ℕ) (calls : List Call) → length calls ≤ i → with_numbers first (drop i calls) ≡ []
past_calls zero first [] past = refl
past_calls (suc i) first [] past = refl
past_calls zero first (call ∷ calls) past = absurd (omega arith)
past_calls (suc i) first (call ∷ calls) past = past_calls i first calls (omega arith)

abbrev read : Shape → ℕ × Call → Section Reply
read shape call = one_line (reply_of shape call)

pub record RepliesSoFar (shape : Shape) (calls : List Call) (i : ℕ) (old new : List Line) (found : List Reply) : Type 0 where
  pub so_far : EachSoFar (read shape) (with_numbers 1 calls) (calls_from i calls) old new found

pub replies_start : (shape : Shape) (calls : List Call) (old : List Line) (found : List Reply) → found ≡ [] → RepliesSoFar shape calls 0 old old found
replies_start shape calls old found none = record { so_far = each_start (read shape) (with_numbers 1 calls) (calls_from 0 calls) old old found refl refl none }

pub replies_more : (shape : Shape) (calls : List Call) (i : ℕ) (old new : List Line) (found : List Reply) → RepliesSoFar shape calls i old new found → i < length calls → (d : Call) (reply : Reply) (after : List Line)
    → read shape (i + 1, get_or calls i d) new ≡ Ok (reply, after) → RepliesSoFar shape calls (i + 1) old after (found ++ reply ∷ [])
replies_more shape calls i old new found so less d reply after h =
    record { so_far = each_more (read shape) (with_numbers 1 calls) (calls_from i calls) old new found so.so_far (i + 1, get_or calls i d) (calls_from (i + 1) calls) (next_call d i calls less) reply after h }

pub replies_none : (script : Script) (i : ℕ) (old new : List Line) (found : List Reply) → RepliesSoFar script.shape script.calls i old new found → i < length script.calls → (d : Call) (after : List Line) (reply : Option Reply)
    → Reads (read script.shape (i + 1, get_or script.calls i d)) new after reply → reply ≡ None → replies_section script old ≡ Err after
replies_none script i old new found so less d after reply h none =
    each_none (read script.shape) (with_numbers 1 script.calls) (calls_from i script.calls) old new found so.so_far (i + 1, get_or script.calls i d) (calls_from (i + 1) script.calls) (next_call d i script.calls less) after
    (none_read (read script.shape (i + 1, get_or script.calls i d)) new after reply h none)

pub replies_done : (script : Script) (i : ℕ) (old new : List Line) (found : List Reply) → RepliesSoFar script.shape script.calls i old new found → length script.calls ≤ i → replies_section script old ≡ Ok (found, new)
replies_done script i old new found so past =
    each_done (read script.shape) (with_numbers 1 script.calls) (calls_from i script.calls) old new found so.so_far (past_calls i (i + 1) script.calls past)
