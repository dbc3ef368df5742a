-- What the tables tell of an entry's ticket.
use Rattle.std.proofs.Common.{◌≡◌, ℕ, zero, suc, ◌+◌, ◌^◌, ◌<◌, ◌≤◌, false, List, length, get_or, take, replicate, refl, ap, sym, ◌∙◌, subst, ⊎_elim, arith, Option, Some, None}
use Rattle.std.specs.Prelude.{All, IsTrue, MatchOption, slice_index_or}
use Rattle.std.proofs.lemmas.Bool.{cases_lt}
use Rattle.std.proofs.lemmas.List.{length-replicate}
use Rattle.std.proofs.lemmas.List.Elements.{All-from_recursion}
use Rattle.std.proofs.lemmas.Option.{same_Some}
use Rattle.map_types.specs.declared.attr.Shape.{Shape}
use Rattle.map_types.specs.ElementLists.{times}
use Rattle.place_words.specs.declared.history.LockHistory.{LockHistory}
use Rattle.place_words.specs.declared.history.Strand.{Strand}
use Rattle.place_words.specs.declared.history.StrandStep.{StrandStep}
use Rattle.place_words.specs.Locks.{is_lock, lock_count}
use Rattle.place_words.specs.Tickets.{AreTicketed, all_entries, ticket_at, tickets_of}
use Rattle.place_words.proofs.LockLemmas.{number_within}
use Rattle.map_report.proofs.LogTickets.{as_many}
use Rattle.record_order.specs.Tickets.{IsFirstFlaw, IsTicketFlaw, NamesEntries, Stands, in_history, in_strand, not_below, entries_before, number_of, used}
use Rattle.record_order.specs.TicketTables.{AreReal, HasNumber, first_wrong, firsts_from, leasts_on_locks, next_least, number_by, place_of, raised_for_all}
use Rattle.record_order.proofs.FirstWrong.{IsFine, IsFirst, found_first}
use Rattle.record_order.proofs.Law.{none_wrong, step_stands, ticketed}
use Rattle.record_order.proofs.LocksOnce.{AreOrdered, ordered, stands_on}
use Rattle.record_order.proofs.Places.{HasPlace, firsts_are, firsts_long, has_place, least_of_first, least_of_next, leasts_long, number_below, place_back, ticket_is}
use Rattle.record_order.proofs.Raised.{AllOrigin, all_next, all_more, all_origin, behind, from_none, from_table, from_step}

-- the table of the locks' first numbers
abbrev pub firsts_of : Shape → List LockHistory → List ℕ
firsts_of shape hs = firsts_from shape 0 hs (replicate (lock_count shape) 0)

pub firsts_count : (shape : Shape) (hs : List LockHistory) → length (firsts_of shape hs) ≡ lock_count shape
firsts_count shape hs = firsts_long shape 0 hs (replicate (lock_count shape) 0) ∙ length-replicate (lock_count shape) 0

module _ (shape : Shape) (hs : List LockHistory) (strands : List Strand) (names : NamesEntries shape hs strands) where
  are : AreOrdered shape hs
  are = ordered shape hs names.locks

  abbrev ts : List ℕ
  ts = tickets_of (all_entries hs)

  long : length ts ≡ length (all_entries hs)
  long = as_many (all_entries hs)

  abbrev number : StrandStep → ℕ
  number step = number_by shape (firsts_of shape hs) step

  -- a step's number by the table
  number_is : (p : StrandStep) → Stands hs p → number p ≡ number_of hs p
  number_is p stands =
      let on = stands_on shape hs are.real p stands in
      let room = number_within shape p.lock on.0 in
      let count : length (replicate {A = ℕ} (lock_count shape) 0) ≡ lock_count shape = length-replicate (lock_count shape) 0 in
      let from_zero : (0 + entries_before hs p.lock) + p.index ≡ number_of hs p = omega arith in
      ap (λ (k : ℕ). k + p.index) (firsts_are shape 0 hs are (replicate (lock_count shape) 0) p.lock on.0 on.1 (omega arith)) ∙ from_zero

  pub has_number : (p : StrandStep) → Stands hs p → HasNumber shape (firsts_of shape hs) (length ts) p
  has_number p stands =
      let is = number_is p stands in
      let less = number_below hs p stands in
      record { lock = (stands_on shape hs are.real p stands).0; below = omega (arith, long) }

  pub all_numbered : All (λ (strand : Strand). All (HasNumber shape (firsts_of shape hs) (length ts)) strand.steps) strands
  all_numbered = λ k d less i e within. has_number (slice_index_or (slice_index_or strands k d).steps i e) (names.steps k d less i e within)

  abbrev leasts : List ℕ
  leasts = raised_for_all number ts strands (leasts_on_locks hs)

  leasts_are : length (leasts_on_locks hs) ≡ length ts
  leasts_are = leasts_long hs ∙ sym long

  -- the least ticket behind a step that stands
  behind_is : (p : StrandStep) → Stands hs p → behind number ts p ≡ next_least (ticket_at hs p)
  behind_is p stands = ap next_least (ap (λ (k : ℕ). get_or ts k 0) (number_is p stands) ∙ ticket_is hs p stands)

  -- a ticket that is wrong isn't fine
  pub wrong_is : length ts < 2 ^ 64 → (p : StrandStep) → Stands hs p → IsTicketFlaw hs strands p → IsFine ts leasts (number_of hs p) → ⊥
  wrong_is small p stands (not_below past) fine = let is = ticket_is hs p stands in let below = fine.below in omega (arith, long)
  wrong_is small p stands (used some) fine =
      let fresh = fine.fresh in
      let there : 0 < times (get_or ts (number_of hs p) 0) (take (number_of hs p) ts) = subst (λ (t : ℕ). 0 < times t (take (number_of hs p) ts)) (sym (ticket_is hs p stands)) some in
      omega arith
  wrong_is small p stands (in_history before is low) fine =
      let ticket = ticket_is hs p stands in
      let below = fine.below in
      let high = fine.high in
      let first = least_of_next hs p stands before is in
      let more = all_more number ts strands (leasts_on_locks hs) (number_of hs p) in
      too_low (length ts) (ticket_at hs p) (ticket_at hs (record { lock = p.lock; index = before })) small (omega arith) low (omega arith)
    where
      too_low : (n t before : ℕ) → n < 2 ^ 64 → t < n → t ≤ before → next_least before ≤ t → ⊥
      too_low n t before small less low high = omega arith
  wrong_is small p stands (in_strand k strand before there next low) fine =
      let ticket = ticket_is hs p stands in
      let below = fine.below in
      let high = fine.high in
      let its = behind_is before (step_stands shape hs strands names k strand next.at before there next.first) in
      let here = number_is p stands in
      let room = number_below hs p stands in
      let raise = all_next number ts strands (leasts_on_locks hs) k strand before p there (record { at = next.at; first = next.first; second = next.second }) (omega (arith, leasts_are, long)) in
      let raise_here : next_least (ticket_at hs before) ≤ get_or leasts (number_of hs p) 0 = subst (λ (z : ℕ × ℕ). z.0 ≤ get_or leasts z.1 0) (λ i. (its i, here i)) raise in
      too_low (length ts) (ticket_at hs p) (ticket_at hs before) small (omega arith) low (omega arith)
    where
      too_low : (n t before : ℕ) → n < 2 ^ 64 → t < n → t ≤ before → next_least before ≤ t → ⊥
      too_low n t before small less low high = omega arith

  -- two steps of one number are one
  one_place : (p q : StrandStep) → Stands hs p → Stands hs q → number_of hs p ≡ number_of hs q → p ≡ q
  one_place p q first second is = same_Some p q (sym (place_back hs p first) ∙ (ap (place_of hs) is ∙ place_back hs q second))

  -- one below its least is wrong by its history or a strand
  low_is_wrong : (p : StrandStep) → Stands hs p → {value : ℕ} → ticket_at hs p < value → AllOrigin number ts strands (leasts_on_locks hs) (number_of hs p) value → IsTicketFlaw hs strands p
  low_is_wrong p stands low (from_table kept) = by_index p.index refl
    where
      by_index : (i : ℕ) → p.index ≡ i → IsTicketFlaw hs strands p
      by_index zero is = absurd (let none = least_of_first hs p stands is in omega arith)
      by_index (suc before) is = in_history before is (let first = least_of_next hs p stands before is in omega arith)
  low_is_wrong p stands low (from_none kept) = absurd (omega arith)
  low_is_wrong p stands low (from_step k strand a b there follow is kept) =
      let a_stands = step_stands shape hs strands names k strand follow.at a there follow.first in
      let b_stands = step_stands shape hs strands names k strand (suc follow.at) b there follow.second in
      let same : b ≡ p = one_place b p b_stands stands (sym (number_is b b_stands) ∙ is) in
      let its = behind_is a a_stands in
      in_strand k strand a there (record { at = follow.at; first = follow.first; second = follow.second ∙ ap (λ (q : StrandStep). Some q) same }) (omega arith)

  -- one that isn't fine is wrong
  pub is_wrong_there : (p : StrandStep) → Stands hs p → (IsFine ts leasts (number_of hs p) → ⊥) → IsTicketFlaw hs strands p
  is_wrong_there p stands bad =
      let t : ℕ = get_or ts (number_of hs p) 0 in
      let ticket = ticket_is hs p stands in
      ⊎_elim
      (λ (below : t < length ts). ⊎_elim
      (λ (some : 0 < times t (take (number_of hs p) ts)). used (subst (λ (x : ℕ). 0 < times x (take (number_of hs p) ts)) ticket some))
      (λ (fresh : times t (take (number_of hs p) ts) ≤ 0). ⊎_elim
      (λ (low : t < get_or leasts (number_of hs p) 0). low_is_wrong p stands (omega arith) (all_origin number ts strands (leasts_on_locks hs) (number_of hs p)))
      (λ (high : get_or leasts (number_of hs p) 0 ≤ t). absurd (bad (record { below = below; fresh = omega arith; high = high })))
      (cases_lt t (get_or leasts (number_of hs p) 0)))
      (cases_lt 0 (times t (take (number_of hs p) ts))))
      (λ (past : length ts ≤ t). not_below (omega (arith, long)))
      (cases_lt t (length ts))

  -- where all are fine the tickets are as a record has them
  pub all_fine : length ts < 2 ^ 64 → ((k : ℕ) → k < length ts → IsFine ts leasts k) → AreTicketed hs strands
  all_fine small fine = ticketed shape hs strands names (λ p stands wrong. wrong_is small p stands wrong (fine (number_of hs p) (let less = number_below hs p stands in omega (arith, long))))

  -- and the first that isn't is the first flaw
  pub first_flaw : length ts < 2 ^ 64 → (g : ℕ) → IsFirst ts leasts g → MatchOption (place_of hs g) (AreTicketed hs strands) (λ place. IsFirstFlaw hs strands place × (AreTicketed hs strands → ⊥))
  first_flaw small g first =
      let less = first.within in
      let there : HasPlace hs g = has_place shape hs are g (omega (arith, long)) in
      let p : StrandStep = there.place in
      let wrong : IsTicketFlaw hs strands p = is_wrong_there p there.stands (λ fine. first.wrong (subst (IsFine ts leasts) there.number fine)) in
      let flaw : IsFirstFlaw hs strands p = record {
        stands = there.stands;
        wrong = wrong;
        none_before = λ other stands less bad. wrong_is small other stands bad (first.before (number_of hs other) (let number = there.number in omega arith));
      } in
      subst (λ (found : Option StrandStep). MatchOption found (AreTicketed hs strands) (λ place. IsFirstFlaw hs strands place × (AreTicketed hs strands → ⊥))) (sym there.found)
      (flaw, λ ticketed. none_wrong shape hs strands names ticketed p there.stands wrong)

  pub what_is_found : length ts < 2 ^ 64 → MatchOption (first_wrong 0 (replicate (length ts) false) ts leasts) (AreTicketed hs strands)
      (λ g. MatchOption (place_of hs g) (AreTicketed hs strands) (λ place. IsFirstFlaw hs strands place × (AreTicketed hs strands → ⊥)))
  what_is_found small = told (first_wrong 0 (replicate (length ts) false) ts leasts) (found_first ts leasts)
    where
      told : (found : Option ℕ) → MatchOption found ((k : ℕ) → k < length ts → IsFine ts leasts k) (IsFirst ts leasts)
          → MatchOption found (AreTicketed hs strands) (λ g. MatchOption (place_of hs g) (AreTicketed hs strands) (λ place. IsFirstFlaw hs strands place × (AreTicketed hs strands → ⊥)))
      told None fine = all_fine small fine
      told (Some g) first = first_flaw small g first

  -- of tables that are so
  pub told : (tickets firsts before tickets_then leasts_then : List ℕ) → tickets ≡ ts → firsts ≡ firsts_of shape hs → before ≡ leasts_on_locks hs → tickets_then ≡ ts
      → leasts_then ≡ raised_for_all (number_by shape firsts) tickets strands before → length tickets_then < 2 ^ 64
      → (found : Option ℕ) → found ≡ first_wrong 0 (replicate (length tickets_then) false) tickets_then leasts_then
      → MatchOption found (AreTicketed hs strands) (λ g. MatchOption (place_of hs g) (AreTicketed hs strands) (λ place. IsFirstFlaw hs strands place × (AreTicketed hs strands → ⊥)))
  told tickets firsts before tickets_then leasts_then tickets_are firsts_are before_are same then_are small found found_is =
      let ideal : leasts_then ≡ leasts = then_are ∙ (λ i. raised_for_all (number_by shape (firsts_are i)) (tickets_are i) strands (before_are i)) in
      let is : found ≡ first_wrong 0 (replicate (length ts) false) ts leasts = found_is ∙ (λ i. first_wrong 0 (replicate (length (same i)) false) (same i) (ideal i)) in
      subst (λ (f : Option ℕ). MatchOption f (AreTicketed hs strands) (λ g. MatchOption (place_of hs g) (AreTicketed hs strands) (λ place. IsFirstFlaw hs strands place × (AreTicketed hs strands → ⊥))))
      (sym is) (what_is_found (subst (λ (l : List ℕ). length l < 2 ^ 64) same small))

  pub counted_by : (tickets : List ℕ) (len all : ℕ) → tickets ≡ ts → len ≡ length tickets → all ≡ len → length (all_entries hs) ≤ all
  counted_by tickets len all tickets_are len_is all_is = let same = ap length tickets_are in omega (arith, long)

  -- each history is of a lock of the map
  pub all_real : AreReal shape hs
  all_real = All-from_recursion (λ (history : LockHistory). IsTrue (is_lock shape history.lock)) hs are.real

  -- the numbers of the steps by a table that is so
  pub steps_numbered : (tickets firsts : List ℕ) → tickets ≡ ts → firsts ≡ firsts_of shape hs → All (λ (strand : Strand). All (HasNumber shape firsts (length tickets)) strand.steps) strands
  steps_numbered tickets firsts tickets_are firsts_are =
      subst (λ (z : List ℕ × List ℕ). All (λ (strand : Strand). All (HasNumber shape z.0 (length z.1)) strand.steps) strands) (λ i. (sym firsts_are i, sym tickets_are i)) all_numbered

  pub as_many_leasts : (tickets before : List ℕ) → tickets ≡ ts → before ≡ leasts_on_locks hs → length before ≡ length tickets
  as_many_leasts tickets before tickets_are before_are = ap length before_are ∙ (leasts_are ∙ sym (ap length tickets_are))

-- so many are below 2 ^ 64
pub few_enough : (tickets : List ℕ) (len cap : ℕ) → length tickets ≡ len → len ≤ cap → cap < 2 ^ 63 → length tickets < 2 ^ 64
few_enough tickets len cap is within room = omega arith
