-- The replies to calls, and those of each CPU.
use Rattle.std.specs.Prelude.{ℕ, ◌==◌, List, [], ◌∷◌, filter, length, slice_index_or, if◌then◌else◌}
use Rattle.map_types.specs.declared.call.Call.{Call}
use Rattle.map_types.specs.declared.reply.Reply.{Reply}

-- the replies to a CPU's calls, where there is one reply for each call
abbrev pub replies_of : ℕ → List Call → List Reply → List Reply
replies_of cpu [] replies = []
replies_of cpu (call ∷ calls) [] = []
replies_of cpu (call ∷ calls) (reply ∷ replies) =
    if call.cpu == cpu then reply ∷ replies_of cpu calls replies else replies_of cpu calls replies

-- how many of the calls are a CPU's
abbrev pub count_of : ℕ → List Call → ℕ
count_of cpu calls = length (filter (λ (call : Call). call.cpu == cpu) calls)

-- one CPU's replies, of those of each CPU
abbrev pub replies_by : ℕ → List (List Reply) → List Reply
replies_by cpu replies = slice_index_or replies cpu []
