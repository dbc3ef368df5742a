-- Sections of a report: each is read from the front of its lines. Read are what it says and the lines behind it, or else the
-- lines from the first one on that doesn't go on with it.
use Rattle.std.specs.Prelude.{ℕ, zero, suc, List, [], ◌∷◌, length, Option, Some, None, Result, Ok, Err}

abbrev pub Line : Type 0
Line = List ℕ

abbrev pub Section : Type 0 → Type 0
Section A = List Line → Result (A × List Line) (List Line)

-- the next section, where the one before it was read
unfoldable pub go_on : {A B : Type 0} → Result (A × List Line) (List Line) → (A → Section B) → Result (B × List Line) (List Line)
go_on (Ok read) next = next read.0 read.1
go_on (Err rest) next = Err rest

-- no line
abbrev pub no_line : {A : Type 0} → A → Section A
no_line a lines = Ok (a, lines)

-- what a line says, and what stands behind it
unfoldable pub line_says : {A : Type 0} → Option A → Line → List Line → Result (A × List Line) (List Line)
line_says (Some a) line lines = Ok (a, lines)
line_says None line lines = Err (line ∷ lines)

abbrev pub one_line : {A : Type 0} → (Line → Option A) → Section A
one_line read [] = Err []
one_line read (line ∷ lines) = line_says (read line) line lines

-- what is made of a section
abbrev pub told : {A B : Type 0} → (A → B) → Section A → Section B
told make read lines = go_on (read lines) (λ a rest. Ok (make a, rest))

-- one section and another behind it, which may go by the first
abbrev pub with_next : {A B : Type 0} → Section A → (A → Section B) → Section (A × B)
with_next first second lines = go_on (first lines) (λ a rest. go_on (second a rest) (λ b left. Ok ((a, b), left)))

abbrev pub cons : {A : Type 0} → A × List A → List A
cons pair = pair.0 ∷ pair.1

-- a section for each of these, in their order
abbrev pub for_each : {X A : Type 0} → (X → Section A) → List X → Section (List A)
for_each read [] = no_line []
for_each read (x ∷ more) = told cons (with_next (read x) (λ _. for_each read more))

-- so many sections
abbrev pub so_many : {A : Type 0} → ℕ → Section A → Section (List A)
so_many zero read = no_line []
so_many (suc count) read = told cons (with_next read (λ _. so_many count read))

-- a section with a first line by which it is known, where that line is there
unfoldable pub known_by : {H B : Type 0} → Option H → (H → Section B) → Line → List Line → Result (Option (H × B) × List Line) (List Line)
known_by (Some head) body line lines = go_on (body head lines) (λ b rest. Ok (Some (head, b), rest))
known_by None body line lines = Ok (None, line ∷ lines)

abbrev pub if_there : {H B : Type 0} → (Line → Option H) → (H → Section B) → Section (Option (H × B))
if_there head body [] = Ok (None, [])
if_there head body (line ∷ lines) = known_by (head line) body line lines

-- Any number of such sections, at most so many. By which line the next one is known goes by the one before.
abbrev pub next_ones : {S H B : Type 0} → (S → Section (List (H × B))) → (S → H → S) → S → Option (H × B) → Section (List (H × B))
next_ones more next state None = no_line []
next_ones more next state (Some x) = more (next state x.0)

abbrev pub joined_on : {A : Type 0} → Option A × List A → List A
joined_on (None, more) = more
joined_on (Some a, more) = a ∷ more

abbrev pub at_most : {S H B : Type 0} → ℕ → (S → Line → Option H) → (H → Section B) → (S → H → S) → S → Section (List (H × B))
at_most zero head body next state = no_line []
at_most (suc most) head body next state =
    told joined_on (with_next (if_there (head state) body) (next_ones (at_most most head body next) next state))

-- each has a line at least, so there are no more than lines
abbrev pub any_number : {S H B : Type 0} → (S → Line → Option H) → (H → Section B) → (S → H → S) → S → Section (List (H × B))
any_number head body next state lines = at_most (length lines) head body next state lines
