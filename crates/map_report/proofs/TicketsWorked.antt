-- Tickets worked: a record's that are right, and what wrong ways to draw them leave, which is none.
use Rattle.std.proofs.Common.{ℕ, ◌≤◌, List, [], ◌∷◌, arith}
use Rattle.std.specs.Prelude.{map}
use Rattle.std.proofs.lemmas.List.Elements.{All-nil, All-cons, All-head}
use Rattle.std.proofs.lemmas.List.Sorted.{IsPermutation-refl, sum_by-IsPermutation}
use Rattle.map_types.specs.declared.kind.DomainId.{DomainId}
use Rattle.map_types.specs.declared.kind.DomainId.TheVariants.{Freelist}
use Rattle.place_words.specs.declared.free_part.FreePart.TheVariants.{FoundEmpty}
use Rattle.place_words.specs.declared.history.Entry.{Entry}
use Rattle.place_words.specs.declared.history.LockHistory.{LockHistory}
use Rattle.place_words.specs.declared.history.Part.TheVariants as parts
use Rattle.place_words.specs.declared.history.Strand.{Strand}
use Rattle.place_words.specs.declared.history.StrandStep.{StrandStep}
use Rattle.place_words.specs.Tickets.{AscendIn, tickets_of, ticket_at, AreTicketed}

-- an entry of CPU 0 with this ticket; which part it has counts for nothing
abbrev with_ticket : ℕ → Entry
with_ticket ticket = record { ticket = ticket; cpu = 0; call = 1; part = parts.Free FoundEmpty }

-- two turns of one lock, and one turn each of two locks
abbrev one_lock : ℕ → ℕ → List LockHistory
one_lock first second = (record { lock = Freelist 0; entries = with_ticket first ∷ with_ticket second ∷ [] }) ∷ []

abbrev two_locks : ℕ → ℕ → List LockHistory
two_locks first second = (record { lock = Freelist 0; entries = with_ticket first ∷ [] }) ∷ (record { lock = Freelist 1; entries = with_ticket second ∷ [] }) ∷ []

abbrev step : DomainId → ℕ → StrandStep
step lock index = record { lock = lock; index = index }

abbrev strand_of : List StrandStep → List Strand
strand_of steps = (record { phase = 0; cpus = 0 ∷ []; steps = steps }) ∷ []

right : AreTicketed (two_locks 0 1) (strand_of (step (Freelist 0) 0 ∷ step (Freelist 1) 0 ∷ []))
right =
    let first : AscendIn 0 (0 ∷ []) 2 = (omega arith, omega arith) in
    let second : AscendIn 0 (1 ∷ []) 2 = (omega arith, omega arith) in
    let both : AscendIn 0 (0 ∷ 1 ∷ []) 2 = (omega arith, (omega arith, omega arith)) in
    let steps : List StrandStep = step (Freelist 0) 0 ∷ step (Freelist 1) 0 ∷ [] in
    record {
      each_once = IsPermutation-refl (0 ∷ 1 ∷ []);
      in_histories = All-cons (λ (history : LockHistory). AscendIn 0 (tickets_of history.entries) 2) (record { lock = Freelist 0; entries = with_ticket 0 ∷ [] }) ((record { lock = Freelist 1; entries = with_ticket 1 ∷ [] }) ∷ []) first
          (All-cons (λ (history : LockHistory). AscendIn 0 (tickets_of history.entries) 2) (record { lock = Freelist 1; entries = with_ticket 1 ∷ [] }) [] second (All-nil (λ (history : LockHistory). AscendIn 0 (tickets_of history.entries) 2)));
      in_strands = All-cons (λ (strand : Strand). AscendIn 0 (map (ticket_at (two_locks 0 1)) strand.steps) 2) (record { phase = 0; cpus = 0 ∷ []; steps = steps }) [] both (All-nil (λ (strand : Strand). AscendIn 0 (map (ticket_at (two_locks 0 1)) strand.steps) 2));
    }

-- A number is left out: tickets are drawn by 2, or two for a turn.
left_out : (strands : List Strand) → AreTicketed (one_lock 0 2) strands → ⊥
left_out strands are = let sums = sum_by-IsPermutation (λ (t : ℕ). t) (0 ∷ 1 ∷ []) (0 ∷ 2 ∷ []) are.each_once in omega (arith, sums)

-- A number stands twice: what was read is recorded in place of what was drawn, or the tickets are of another word.
twice : (strands : List Strand) → AreTicketed (two_locks 0 0) strands → ⊥
twice strands are = let sums = sum_by-IsPermutation (λ (t : ℕ). t) (0 ∷ 1 ∷ []) (0 ∷ 0 ∷ []) are.each_once in omega (arith, sums)

-- They don't ascend in a history: a ticket is drawn after the lock was given back, when another CPU has had the lock and drawn its own.
late : (strands : List Strand) → AreTicketed (one_lock 1 0) strands → ⊥
late strands are =
    let order : AscendIn 0 (1 ∷ 0 ∷ []) 2 = All-head (λ (history : LockHistory). AscendIn 0 (tickets_of history.entries) 2) (record { lock = Freelist 0; entries = with_ticket 1 ∷ with_ticket 0 ∷ [] }) [] are.in_histories in
    let low : 2 ≤ 0 = order.1.0 in omega arith

-- Nor along a strand: a ticket is drawn after the CPU's next one.
late_on_strand : AreTicketed (two_locks 1 0) (strand_of (step (Freelist 0) 0 ∷ step (Freelist 1) 0 ∷ [])) → ⊥
late_on_strand are =
    let steps : List StrandStep = step (Freelist 0) 0 ∷ step (Freelist 1) 0 ∷ [] in
    let order : AscendIn 0 (1 ∷ 0 ∷ []) 2 = All-head (λ (strand : Strand). AscendIn 0 (map (ticket_at (two_locks 1 0)) strand.steps) 2) (record { phase = 0; cpus = 0 ∷ []; steps = steps }) [] are.in_strands in
    let low : 2 ≤ 0 = order.1.0 in omega arith
