-- First flaws worked: which entry it is where two are at odds.
use Rattle.std.proofs.Common.{◌≡◌, ℕ, List, [], ◌∷◌, length, replicate, false, refl, arith, Option, Some, None}
use Rattle.map_types.specs.declared.kind.DomainId.{DomainId}
use Rattle.map_types.specs.declared.kind.DomainId.TheVariants.{Local, Global}
use Rattle.place_words.specs.declared.free_part.FreePart.TheVariants.{FoundEmpty}
use Rattle.place_words.specs.declared.history.Entry.{Entry}
use Rattle.place_words.specs.declared.history.LockHistory.{LockHistory}
use Rattle.place_words.specs.declared.history.Part.TheVariants as parts
use Rattle.place_words.specs.declared.history.Strand.{Strand}
use Rattle.place_words.specs.declared.history.StrandStep.{StrandStep}
use Rattle.place_words.specs.Tickets.{all_entries, tickets_of}
use Rattle.record_order.specs.Tickets.{IsFirstFlaw, in_strand, number_of}
use Rattle.record_order.specs.TicketTables.{first_wrong, leasts_on_locks, raised_for_all}

-- an entry with this ticket; which part it has counts for nothing
abbrev with_ticket : ℕ → Entry
with_ticket ticket = record { ticket = ticket; cpu = 0; call = 1; part = parts.Free FoundEmpty }

-- a turn of local lists, and two of the global lists
abbrev three : ℕ → ℕ → ℕ → List LockHistory
three own first second = (record { lock = Local 0; entries = with_ticket own ∷ [] }) ∷ (record { lock = Global; entries = with_ticket first ∷ with_ticket second ∷ [] }) ∷ []

abbrev step : DomainId → ℕ → StrandStep
step lock index = record { lock = lock; index = index }

abbrev strand_of : List StrandStep → Strand
strand_of steps = record { phase = 0; cpus = []; steps = steps }

-- one CPU has the first global turn and then the local one, another CPU the second global turn
abbrev strands : List Strand
strands = strand_of (step Global 0 ∷ step (Local 0) 0 ∷ []) ∷ strand_of (step Global 1 ∷ []) ∷ []

-- the number of the first one, by the tables
abbrev first_of : List LockHistory → List Strand → Option ℕ
first_of hs all =
    first_wrong 0 (replicate (length (all_entries hs)) false) (tickets_of (all_entries hs)) (raised_for_all (number_of hs) (tickets_of (all_entries hs)) all (leasts_on_locks hs))

-- in order there is none
in_order : first_of (three 1 0 2) strands ≡ None
in_order = refl

-- With the tickets of the global turns exchanged it is the local one, which stands first, and in its strand behind a greater ticket.
exchanged : first_of (three 1 2 0) strands ≡ Some 0
exchanged = refl

its_place : IsFirstFlaw (three 1 2 0) strands (step (Local 0) 0)
its_place = record {
  stands = omega arith;
  wrong = in_strand 0 (strand_of (step Global 0 ∷ step (Local 0) 0 ∷ [])) (step Global 0) refl (record { at = 0; first = refl; second = refl }) (omega arith);
  none_before = λ other stands less. absurd (omega arith);
}

-- Of two entries with one ticket it is the later one in the order of the locks, unless a strand has the earlier one right behind the other.
equal_apart : first_of (three 2 0 2) strands ≡ Some 2
equal_apart = refl

equal_in_strand : first_of (three 1 1 2) strands ≡ Some 0
equal_in_strand = refl

-- one that is left out, and one that is too great
left_out : first_of (three 1 0 3) strands ≡ Some 2
left_out = refl
