-- How numbers are drawn: one after the other from a seed, by a linear congruence.
use Rattle.std.specs.Prelude.{ℕ, zero, suc, ◌+◌, ◌*◌, ◌/◌, ◌%◌, ◌^◌}

-- the state that a draw makes of the one before it
abbrev pub next_state : ℕ → ℕ
next_state state = (state * 1664525 + 1013904223) % 2 ^ 32

-- what a draw answers: the upper 16 of the 32 bits of the state that it made
abbrev pub answer_of : ℕ → ℕ
answer_of state = state / 65536

-- the state behind so many draws, which begins as the seed
abbrev pub state_after : ℕ → ℕ → ℕ
state_after seed zero = seed
state_after seed (suc draws) = next_state (state_after seed draws)

-- what the draw behind so many others answers
abbrev pub draw : ℕ → ℕ → ℕ
draw seed before = answer_of (next_state (state_after seed before))
