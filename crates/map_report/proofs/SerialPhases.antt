-- A run in serial order is a record, of a map of any kind: each phase has one strand, of all CPUs.
use Rattle.std.proofs.Common.{◌≡◌, ◌≢◌, ℕ, zero, suc, ◌+◌, ◌-◌, ◌<◌, ◌≤◌, Bool, true, false, cond, ◌&&◌, eqb, List, [], ◌∷◌, ◌++◌, length, take, drop, map, refl, ap, sym, ◌∙◌, subst, inl, inr, arith}
use Rattle.std.specs.Prelude.{Option, None, Some, All, MatchOption, ⊤, filter, slice_get}
use Rattle.std.specs.List.{range_with_len}
use Rattle.std.proofs.lemmas.Bool.{eq-eqb, ne_eqb, cases_lt}
use Rattle.std.proofs.lemmas.List.{append_cancel_left, append_assoc, append-nil, length-append, take_all}
use Rattle.std.proofs.lemmas.List.Elements.{All-nil, All-cons, All-head, All-tail, All-append, All-map, All-filter, All-take, All-drop, All-weaker}
use Rattle.std.proofs.lemmas.List.FromFn.{length-map-range_with_len}
use Rattle.std.proofs.lemmas.Option.{none-some, same_Some, slice_get_past}
use Rattle.map_types.specs.Creation.{IsShape}
use Rattle.map_types.specs.declared.attr.Shape.{Shape}
use Rattle.map_types.specs.declared.call.Call.{Call}
use Rattle.map_types.specs.declared.kind.DomainId.{DomainId}
use Rattle.map_types.specs.declared.kind.DomainId.TheVariants.{Global}
use Rattle.map_types.specs.declared.reply.Reply.{Reply}
use Rattle.map_types.proofs.RowLemmas.{by_test}
use Rattle.place_words.specs.declared.history.Entry.{Entry}
use Rattle.place_words.specs.declared.history.LockHistory.{LockHistory}
use Rattle.map_script.specs.declared.script.Script.{Script}
use Rattle.map_script.specs.WellFormed.{AreCuts, HasPhases}
use Rattle.place_words.specs.declared.history.Strand.{Strand}
use Rattle.place_words.specs.declared.history.StrandStep.{StrandStep}
use Rattle.place_words.specs.AtRest.{IsStart}
use Rattle.place_words.specs.Histories.{content, IsLegal}
use Rattle.place_words.specs.Locks.{is_lock, is_same_lock}
use Rattle.place_words.specs.Logs.{State, new_state, does, after_one, run, answers, finals_of}
use Rattle.place_words.specs.Named.{entries_of}
use Rattle.place_words.specs.Phases.{phase_of, phase_count, calls_before, of_phase, added_by, added}
use Rattle.place_words.specs.Strands.{places_on}
use Rattle.place_words.specs.Tickets.{AscendIn, tickets_of, all_entries, ticket_at}
use Rattle.place_words.specs.Turns.{Turn}
use Rattle.place_words.proofs.AnyStart.{new_start, done_from, logs_from, added_ascends}
use Rattle.place_words.proofs.Ascending.{ascend_to, ascend_from, ascend_within}
use Rattle.place_words.proofs.OnLocks.{no_others}
use Rattle.place_words.proofs.PlacedLaws.{AreLegal}
use Rattle.map_report.specs.declared.record.PhaseStart.{PhaseStart}
use Rattle.map_report.specs.Record.{IsRecord, StartsRise, IsInItsPhase, IsConcatenation, HoldsElements, EachAnswered, Tells, Ascend, has_cpu, locks_of, places_in}
use Rattle.map_report.specs.Runs.{steps_of_calls, state_before, start_of, strand_of_phase, serial}
use Rattle.map_report.specs.Serial.{opening}
use Rattle.map_report.specs.Turns.{spare_at}
use Rattle.map_report.proofs.CutLemmas.{Rise, cuts_rise, next_phase, before_end, last_end, is_behind, is_within, in_phase}
use Rattle.map_report.proofs.ListedAtRest.{all_to, ascends}
use Rattle.map_report.proofs.LogContents.{tells, spares_told}
use Rattle.map_report.proofs.LogGrowth.{Grows, grows_none, grows_run, AreOnCpus, run_on_cpus, legal_run, legal_first}
use Rattle.map_report.proofs.LogNames.{histories, entries_are}
use Rattle.map_report.proofs.LogRecord.{strand_is, locks_told}
use Rattle.map_report.proofs.LogSteps.{has_within, calls_places}
use Rattle.map_report.proofs.LogTickets.{all_of, calls_ascend, entries_counted, tickets_by_logs}
use Rattle.map_report.proofs.RunCuts.{length_drop, taken_before, next_state, end_state, phase_long, replies_of}

-- Numbers in a row

-- what a list of mapped numbers has at a place
mapped_from : {A : Type 0} (f : ℕ → A) (from n k : ℕ) → k < n → slice_get (map f (range_with_len from n)) k ≡ Some (f (from + k))
mapped_from f from zero k less = absurd (omega (arith, less))
mapped_from f from (suc n) zero less = let same : from ≡ from + 0 = omega arith in ap (λ (m : ℕ). Some (f m)) same
mapped_from f from (suc n) (suc k) less = let same : (from + 1) + k ≡ from + suc k = omega arith in mapped_from f (from + 1) n k (omega (arith, less)) ∙ ap (λ (m : ℕ). Some (f m)) same

mapped_at : {A : Type 0} (f : ℕ → A) (n k : ℕ) → k < n → slice_get (map f (range_with_len 0 n)) k ≡ Some (f k)
mapped_at f n k less = let same : 0 + k ≡ k = omega arith in mapped_from f 0 n k less ∙ ap (λ (m : ℕ). Some (f m)) same

mapped_past : {A : Type 0} (f : ℕ → A) (n k : ℕ) → n ≤ k → slice_get (map f (range_with_len 0 n)) k ≡ None
mapped_past f n k past = slice_get_past (map f (range_with_len 0 n)) k (let long = length-map-range_with_len f 0 n in omega (arith, long, past))

-- and which number a place has
mapped_is : {A : Type 0} (f : ℕ → A) (n k : ℕ) (a : A) → slice_get (map f (range_with_len 0 n)) k ≡ Some a → (k < n) × (f k ≡ a)
mapped_is f n k a is = elim (cases_lt k n) [
  | inl less ↦ (less, same_Some (f k) a (sym (mapped_at f n k less) ∙ is))
  | inr past ↦ absurd (none-some a (sym (mapped_past f n k past) ∙ is))
]

pub every_mapped : {A : Type 0} (P : A → Type 0) (f : ℕ → A) (from n : ℕ) → ((k : ℕ) → P (f k)) → All P (map f (range_with_len from n))
every_mapped P f from zero all = All-nil P
every_mapped P f from (suc n) all = All-cons P (f from) (map f (range_with_len (from + 1) n)) (all from) (every_mapped P f (from + 1) n all)

ranges : (from a b : ℕ) → range_with_len from (a + b) ≡ range_with_len from a ++ range_with_len (from + a) b
ranges from zero b = let same : from ≡ from + 0 = omega arith in let few : 0 + b ≡ b = omega arith in ap (range_with_len from) few ∙ ap (λ (m : ℕ). range_with_len m b) same
ranges from (suc a) b = let same : (from + 1) + a ≡ from + suc a = omega arith in let more : suc a + b ≡ suc (a + b) = omega arith in ap (range_with_len from) more ∙ ap (λ (l : List ℕ). from ∷ l) (ranges (from + 1) a b ∙ ap (λ (m : ℕ). range_with_len (from + 1) a ++ range_with_len m b) same)

none_kept : (xs : List ℕ) → filter (λ (e : ℕ). false) xs ≡ []
none_kept [] = refl
none_kept (x ∷ xs) = none_kept xs

all_kept : (a b : ℕ) (xs : List ℕ) → a ≡ b → xs ≡ filter (λ (cpu : ℕ). eqb a b) xs
all_kept a b [] is = refl
all_kept a b (x ∷ xs) is = by (eqb a b) (eq-eqb a b is) (all_kept a b xs is)
  where
    by : (c : Bool) → c ≡ true → xs ≡ filter (λ (cpu : ℕ). eqb a b) xs → x ∷ xs ≡ cond c (x ∷ filter (λ (cpu : ℕ). eqb a b) xs) (filter (λ (cpu : ℕ). eqb a b) xs)
    by true is rest = ap (λ (l : List ℕ). x ∷ l) rest
    by false is rest = absurd cc

-- What calls add: the numbers of their calls, and their tickets

abbrev IsOfCalls : ℕ → ℕ → Entry → Type 0
IsOfCalls from to entry = (from ≤ entry.call) × (entry.call < to)

by_turns : (cpu number : ℕ) (turns : List Turn) (ticket : ℕ) (lock : DomainId) (from to : ℕ) → from ≤ number → number < to → All (IsOfCalls from to) (added_by cpu number turns ticket lock)
by_turns cpu number [] ticket lock from to least most = All-nil (IsOfCalls from to)
by_turns cpu number (turn ∷ turns) ticket lock from to least most = by (is_same_lock turn.lock lock) (by_turns cpu number turns (suc ticket) lock from to least most)
  where
    by : (b : Bool) → All (IsOfCalls from to) (added_by cpu number turns (suc ticket) lock)
        → All (IsOfCalls from to) (cond b ((record { ticket = ticket; cpu = cpu; call = number; part = turn.part }) ∷ added_by cpu number turns (suc ticket) lock) (added_by cpu number turns (suc ticket) lock))
    by true rest = All-cons (IsOfCalls from to) (record { ticket = ticket; cpu = cpu; call = number; part = turn.part }) (added_by cpu number turns (suc ticket) lock) (least, most) rest
    by false rest = rest

of_calls : (shape : Shape) (number : ℕ) (calls : List Call) (state : State) (lock : DomainId) (from to : ℕ) → from ≤ number → number + length calls ≤ to → All (IsOfCalls from to) (added shape number calls state lock)
of_calls shape number [] state lock from to least most = All-nil (IsOfCalls from to)
of_calls shape number (call ∷ calls) state lock from to least most =
    All-append (IsOfCalls from to) (added_by call.cpu number (does shape call.cpu number state call.verb).turns state.next_ticket lock) (added shape (suc number) calls (after_one shape number call state) lock)
    (by_turns call.cpu number (does shape call.cpu number state call.verb).turns state.next_ticket lock from to least (omega (arith, most)))
    (of_calls shape (suc number) calls (after_one shape number call state) lock from to (omega (arith, least)) (omega (arith, most)))

abbrev IsDrawn : ℕ → ℕ → Entry → Type 0
IsDrawn from to entry = (from ≤ entry.ticket) × (entry.ticket < to)

drawn_in : (from to low : ℕ) (entries : List Entry) → low ≤ from → AscendIn from (tickets_of entries) to → All (IsDrawn low to) entries
drawn_in from to low [] least ascend = All-nil (IsDrawn low to)
drawn_in from to low (entry ∷ entries) least ascend =
    let past : suc entry.ticket ≤ to = ascend_within (suc entry.ticket) (tickets_of entries) to ascend.1 in
    All-cons (IsDrawn low to) entry entries (omega (arith, least, ascend.0), omega (arith, past)) (drawn_in (suc entry.ticket) to low entries (omega (arith, least, ascend.0)) ascend.1)

both : {A : Type 0} (P Q : A → Type 0) (xs : List A) → All P xs → All Q xs → All (λ (x : A). P x × Q x) xs
both P Q [] first second = All-nil (λ (x : _). P x × Q x)
both P Q (x ∷ xs) first second = All-cons (λ (x : _). P x × Q x) x xs (All-head P x xs first, All-head Q x xs second) (both P Q xs (All-tail P x xs first) (All-tail Q x xs second))

-- Places of a phase

module _ (cuts : List ℕ) (p cpus : ℕ) where
  abbrev mine : ℕ → List Entry → List ℕ
  mine place entries = places_in cuts p (range_with_len 0 cpus) place entries

  mine_both : (place : ℕ) (xs ys : List Entry) → mine place (xs ++ ys) ≡ mine place xs ++ mine (place + length xs) ys
  mine_both place [] ys = let same : place ≡ place + 0 = omega arith in ap (λ (n : ℕ). mine n ys) same
  mine_both place (x ∷ xs) ys =
      by (eqb (phase_of cuts x.call) p && has_cpu x.cpu (range_with_len 0 cpus))
      (let same : suc place + length xs ≡ place + suc (length xs) = omega arith in mine_both (suc place) xs ys ∙ ap (λ (n : ℕ). mine (suc place) xs ++ mine n ys) same)
    where
      by : (b : Bool) → mine (suc place) (xs ++ ys) ≡ mine (suc place) xs ++ mine (place + suc (length xs)) ys
          → cond b (place ∷ mine (suc place) (xs ++ ys)) (mine (suc place) (xs ++ ys)) ≡ cond b (place ∷ mine (suc place) xs) (mine (suc place) xs) ++ mine (place + suc (length xs)) ys
      by true rest = ap (λ (l : List ℕ). place ∷ l) rest
      by false rest = rest

  abbrev IsOther : Entry → Type 0
  IsOther entry = phase_of cuts entry.call ≢ p

  none_mine : (place : ℕ) (entries : List Entry) → All IsOther entries → mine place entries ≡ []
  none_mine place [] others = refl
  none_mine place (x ∷ xs) others =
      ap (λ (b : Bool). cond (b && has_cpu x.cpu (range_with_len 0 cpus)) (place ∷ mine (suc place) xs) (mine (suc place) xs)) (ne_eqb (phase_of cuts x.call) p (All-head IsOther x xs others))
      ∙ none_mine (suc place) xs (All-tail IsOther x xs others)

  abbrev IsMine : Entry → Type 0
  IsMine entry = (phase_of cuts entry.call ≡ p) × (entry.cpu < cpus)

  all_mine : (place : ℕ) (entries : List Entry) → All IsMine entries → mine place entries ≡ range_with_len place (length entries)
  all_mine place [] its = refl
  all_mine place (x ∷ xs) its =
      let here = All-head IsMine x xs its in
      let next : suc place ≡ place + 1 = omega arith in
      ap (λ (b : Bool). cond (b && has_cpu x.cpu (range_with_len 0 cpus)) (place ∷ mine (suc place) xs) (mine (suc place) xs)) (eq-eqb (phase_of cuts x.call) p here.0)
      ∙ (ap (λ (b : Bool). cond b (place ∷ mine (suc place) xs) (mine (suc place) xs)) (has_within x.cpu 0 cpus (omega arith) (omega (arith, here.1)))
      ∙ ap (λ (l : List ℕ). place ∷ l) (all_mine (suc place) xs (All-tail IsMine x xs its) ∙ ap (λ (n : ℕ). range_with_len n (length xs)) next))

-- The run

module _ (script : Script) (are : Rise 0 script.cuts (length script.calls)) (created : IsShape script.shape) (served : All (λ (call : Call). call.cpu < script.shape.cpus) script.calls) where
  abbrev shape : Shape
  shape = script.shape

  abbrev cuts : List ℕ
  cuts = script.cuts

  abbrev calls : List Call
  calls = script.calls

  abbrev all : ℕ
  all = length calls

  abbrev at : ℕ → ℕ
  at p = calls_before cuts all p

  abbrev first : State
  first = new_state shape

  abbrev end : State
  end = run shape 1 calls first

  abbrev before : ℕ → State
  before p = state_before script p

  abbrev phase : ℕ → List Call
  phase p = of_phase cuts p calls

  abbrev phases : List PhaseStart
  phases = map (λ p. start_of shape (before p)) (range_with_len 0 (phase_count cuts))

  starts : (p : ℕ) → IsStart shape (before p)
  starts p = (done_from shape 1 (take (at p) calls) first (All-take (λ (call : Call). call.cpu < shape.cpus) (at p) calls served) (new_start shape created)).1

  phase_served : (p : ℕ) → All (λ (call : Call). call.cpu < shape.cpus) (phase p)
  phase_served p = All-take (λ (call : Call). call.cpu < shape.cpus) (at (suc p) - at p) (drop (at p) calls) (All-drop (λ (call : Call). call.cpu < shape.cpus) (at p) calls served)

  last_state : before (phase_count cuts) ≡ end
  last_state = ap (λ (n : ℕ). run shape 1 (take n calls) first) (last_end cuts all are) ∙ ap (λ (l : List Call). run shape 1 l first) (take_all all calls (omega arith))

  grows_on : (p : ℕ) → Grows (before p) end
  grows_on p = subst (λ (state : State). Grows (before p) state) (sym (end_state script are p)) (grows_run shape (suc (at p)) (drop (at p) calls) (before p))

  -- the log of a lock in three parts: what was there before a phase, what the phase adds, and what comes behind it
  module _ (lock : DomainId) where
    abbrev adds : ℕ → List Entry
    adds p = added shape (suc (at p)) (phase p) (before p) lock

    behind : ℕ → List Entry
    behind p = added shape (suc (at p)) (drop (at p) calls) (before p) lock

    log_next : (p : ℕ) → (before (suc p)).logs lock ≡ (before p).logs lock ++ adds p
    log_next p = ap (λ (state : State). state.logs lock) (sym (next_state script are p)) ∙ logs_from shape (suc (at p)) (phase p) (before p) lock

    log_end : (p : ℕ) → end.logs lock ≡ (before p).logs lock ++ behind p
    unfolding behind
    log_end p = ap (λ (state : State). state.logs lock) (end_state script are p) ∙ logs_from shape (suc (at p)) (drop (at p) calls) (before p) lock

    in_three : (p : ℕ) → end.logs lock ≡ (before p).logs lock ++ (adds p ++ behind (suc p))
    in_three p = log_end (suc p) ∙ (ap (λ (entries : List Entry). entries ++ behind (suc p)) (log_next p) ∙ append_assoc ((before p).logs lock) (adds p) (behind (suc p)))

    -- the calls of each part
    calls_before_it : (p : ℕ) → All (IsOfCalls 1 (suc (at p))) ((before p).logs lock)
    calls_before_it p =
        let long : 1 + length (take (at p) calls) ≤ suc (at p) = omega (arith, taken_before script are p) in
        subst (All (IsOfCalls 1 (suc (at p)))) (sym (logs_from shape 1 (take (at p) calls) first lock)) (of_calls shape 1 (take (at p) calls) first lock 1 (suc (at p)) (omega arith) long)

    calls_of_it : (p : ℕ) → All (IsOfCalls (suc (at p)) (suc (at (suc p)))) (adds p)
    calls_of_it p =
        let long : suc (at p) + length (phase p) ≤ suc (at (suc p)) = omega (arith, phase_long script are p, next_phase cuts all are p) in
        of_calls shape (suc (at p)) (phase p) (before p) lock (suc (at p)) (suc (at (suc p))) (omega arith) long

    calls_behind_it : (p : ℕ) → All (IsOfCalls (suc (at p)) (suc all)) (behind p)
    unfolding behind
    calls_behind_it p =
        let long : suc (at p) + length (drop (at p) calls) ≤ suc all = omega (arith, length_drop (at p) calls (before_end cuts all are p)) in
        of_calls shape (suc (at p)) (drop (at p) calls) (before p) lock (suc (at p)) (suc all) (omega arith) long

    phase_of_it : (p : ℕ) (entry : Entry) → IsOfCalls (suc (at p)) (suc (at (suc p))) entry → phase_of cuts entry.call ≡ p
    phase_of_it p entry of = in_phase cuts all are p entry.call (omega (arith, of.0)) (omega (arith, of.1))

    other_before : (p : ℕ) (entry : Entry) → IsOfCalls 1 (suc (at p)) entry → phase_of cuts entry.call ≢ p
    other_before p entry of same = let low = is_behind cuts all are entry.call (omega (arith, of.0)) in let its : at (phase_of cuts entry.call) ≡ at p = ap at same in omega (arith, low, its, of.1)

    other_behind : (p : ℕ) (entry : Entry) → IsOfCalls (suc (at (suc p))) (suc all) entry → phase_of cuts entry.call ≢ p
    other_behind p entry of same = let high = is_within cuts all are entry.call (omega (arith, of.1)) in let its : at (suc (phase_of cuts entry.call)) ≡ at (suc p) = ap (λ (q : ℕ). at (suc q)) same in omega (arith, high, its, of.0)

    -- its CPUs
    on_cpus : AreOnCpus shape end
    on_cpus = run_on_cpus shape 1 calls first served (λ lock. All-nil (λ (entry : Entry). entry.cpu < shape.cpus))

    on_behind : (xs ys : List Entry) → All (λ (entry : Entry). entry.cpu < shape.cpus) (xs ++ ys) → All (λ (entry : Entry). entry.cpu < shape.cpus) ys
    on_behind [] ys on = on
    on_behind (x ∷ xs) ys on = on_behind xs ys (All-tail (λ (entry : Entry). entry.cpu < shape.cpus) x (xs ++ ys) on)

    on_first : (xs ys : List Entry) → All (λ (entry : Entry). entry.cpu < shape.cpus) (xs ++ ys) → All (λ (entry : Entry). entry.cpu < shape.cpus) xs
    on_first [] ys on = All-nil (λ (entry : Entry). entry.cpu < shape.cpus)
    on_first (x ∷ xs) ys on =
        All-cons (λ (entry : Entry). entry.cpu < shape.cpus) x xs (All-head (λ (entry : Entry). entry.cpu < shape.cpus) x (xs ++ ys) on) (on_first xs ys (All-tail (λ (entry : Entry). entry.cpu < shape.cpus) x (xs ++ ys) on))

    adds_on : (p : ℕ) → All (λ (entry : Entry). entry.cpu < shape.cpus) (adds p)
    adds_on p =
        on_first (adds p) (behind (suc p))
        (on_behind ((before p).logs lock) (adds p ++ behind (suc p)) (subst (All (λ (entry : Entry). entry.cpu < shape.cpus)) (in_three p) (on_cpus lock)))

    -- so the places of a phase are those of what it adds
    abbrev steps_of : ℕ → List StrandStep
    steps_of p = steps_of_calls shape (suc (at p)) (phase p) (before p)

    places : (p : ℕ) → places_on lock (steps_of p) ≡ range_with_len (length ((before p).logs lock)) (length (adds p))
    places p =
        let was : List Entry = (before p).logs lock in
        let longer : length ((before (suc p)).logs lock) ≡ length was + length (adds p) = ap length (log_next p) ∙ length-append was (adds p) in
        append_cancel_left (range_with_len 0 (length was)) (places_on lock (steps_of p)) (range_with_len (length was) (length (adds p)))
        (calls_places shape lock (suc (at p)) (phase p) (before p)
        ∙ (ap (λ (state : State). range_with_len 0 (length (state.logs lock))) (next_state script are p)
        ∙ (ap (range_with_len 0) longer
        ∙ (ranges 0 (length was) (length (adds p)) ∙ (let same : 0 + length was ≡ length was = omega arith in ap (λ (n : ℕ). range_with_len 0 (length was) ++ range_with_len n (length (adds p))) same)))))

    places_of_it : (p : ℕ) → places_in cuts p (range_with_len 0 shape.cpus) 0 (end.logs lock) ≡ range_with_len (length ((before p).logs lock)) (length (adds p))
    places_of_it p =
        let was : List Entry = (before p).logs lock in
        let its : List Entry = adds p in
        let rest : List Entry = behind (suc p) in
        let others : All (IsOther cuts p shape.cpus) was = All-weaker (IsOfCalls 1 (suc (at p))) (IsOther cuts p shape.cpus) (other_before p) was (calls_before_it p) in
        let later : All (IsOther cuts p shape.cpus) rest = All-weaker (IsOfCalls (suc (at (suc p))) (suc all)) (IsOther cuts p shape.cpus) (other_behind p) rest (calls_behind_it (suc p)) in
        let here : All (IsMine cuts p shape.cpus) its =
        both (λ (entry : Entry). phase_of cuts entry.call ≡ p) (λ (entry : Entry). entry.cpu < shape.cpus) its
        (All-weaker (IsOfCalls (suc (at p)) (suc (at (suc p)))) (λ (entry : Entry). phase_of cuts entry.call ≡ p) (phase_of_it p) its (calls_of_it p)) (adds_on p) in
        ap (mine cuts p shape.cpus 0) (in_three p)
        ∙ (mine_both cuts p shape.cpus 0 was (its ++ rest)
        ∙ (ap (λ (l : List ℕ). l ++ mine cuts p shape.cpus (0 + length was) (its ++ rest)) (none_mine cuts p shape.cpus 0 was others)
        ∙ (let same : 0 + length was ≡ length was = omega arith in ap (λ (n : ℕ). mine cuts p shape.cpus n (its ++ rest)) same
        ∙ (mine_both cuts p shape.cpus (length was) its rest
        ∙ (ap (λ (l : List ℕ). mine cuts p shape.cpus (length was) its ++ l) (none_mine cuts p shape.cpus (length was + length its) rest later)
        ∙ (append-nil (mine cuts p shape.cpus (length was) its) ∙ all_mine cuts p shape.cpus (length was) its here))))))

    -- each entry is in the phase of its call
    ends : (p : ℕ) (ticket : ℕ) → p < phase_count cuts → ticket < (before (suc p)).next_ticket → MatchOption (slice_get phases (suc p)) ⊤ (λ (next : PhaseStart). ticket < next.ticket)
    ends p ticket low less = elim (cases_lt (suc p) (phase_count cuts)) [
      | inl more ↦ subst (λ (o : Option PhaseStart). MatchOption o ⊤ (λ (next : PhaseStart). ticket < next.ticket)) (sym (mapped_at (λ q. start_of shape (before q)) (phase_count cuts) (suc p) more)) less
      | inr past ↦ subst (λ (o : Option PhaseStart). MatchOption o ⊤ (λ (next : PhaseStart). ticket < next.ticket)) (sym (mapped_past (λ q. start_of shape (before q)) (phase_count cuts) (suc p) past)) tt
    ]

    in_its_phase : (p : ℕ) → p < phase_count cuts → (entry : Entry) → (phase_of cuts entry.call ≡ p) × IsDrawn (before p).next_ticket (before (suc p)).next_ticket entry → IsInItsPhase cuts phases entry
    in_its_phase p low entry is = record {
      start = start_of shape (before p);
      start_is = ap (slice_get phases) is.0 ∙ mapped_at (λ q. start_of shape (before q)) (phase_count cuts) p low;
      from = is.1.0;
      to = subst (λ (q : ℕ). MatchOption (slice_get phases (suc q)) ⊤ (λ (next : PhaseStart). entry.ticket < next.ticket)) (sym is.0) (ends p entry.ticket low is.1.1);
    }

    adds_drawn : (p : ℕ) → All (IsDrawn (before p).next_ticket (before (suc p)).next_ticket) (adds p)
    adds_drawn p =
        drawn_in (before p).next_ticket (before (suc p)).next_ticket (before p).next_ticket (adds p) (omega arith)
        (subst (λ (state : State). AscendIn (before p).next_ticket (tickets_of (adds p)) state.next_ticket) (next_state script are p) (added_ascends shape (suc (at p)) (phase p) (before p) lock))

    up_to : (p : ℕ) → p ≤ phase_count cuts → All (IsInItsPhase cuts phases) ((before p).logs lock)
    up_to zero low = All-nil (IsInItsPhase cuts phases)
    up_to (suc p) low =
        let its : All (λ (entry : Entry). (phase_of cuts entry.call ≡ p) × IsDrawn (before p).next_ticket (before (suc p)).next_ticket entry) (adds p) =
        both (λ (entry : Entry). phase_of cuts entry.call ≡ p) (IsDrawn (before p).next_ticket (before (suc p)).next_ticket) (adds p)
        (All-weaker (IsOfCalls (suc (at p)) (suc (at (suc p)))) (λ (entry : Entry). phase_of cuts entry.call ≡ p) (phase_of_it p) (adds p) (calls_of_it p)) (adds_drawn p) in
        subst (All (IsInItsPhase cuts phases)) (sym (log_next p))
        (All-append (IsInItsPhase cuts phases) ((before p).logs lock) (adds p) (up_to p (omega (arith, low)))
        (All-weaker (λ (entry : Entry). (phase_of cuts entry.call ≡ p) × IsDrawn (before p).next_ticket (before (suc p)).next_ticket entry) (IsInItsPhase cuts phases) (in_its_phase p (omega (arith, low))) (adds p) its))

    all_in_phases : All (IsInItsPhase cuts phases) (end.logs lock)
    all_in_phases = subst (λ (state : State). All (IsInItsPhase cuts phases) (state.logs lock)) last_state (up_to (phase_count cuts) (omega arith))

  -- where another lock has no entries
  ours : (lock : DomainId) → is_lock shape lock ≡ false → end.logs lock ≡ []
  ours = no_others shape created calls served (done_from shape 1 calls first served (new_start shape created)).0

  abbrev told : List LockHistory
  told = histories shape end ours

  -- The tickets of the starts: none is below the one before it, nor above those of the run
  start_next : (p : ℕ) → (before p).next_ticket ≤ (before (suc p)).next_ticket
  start_next p =
      let adds : List Entry = added shape (suc (at p)) (phase p) (before p) Global in
      ascend_within (before p).next_ticket (tickets_of adds) (before (suc p)).next_ticket
      (subst (λ (state : State). AscendIn (before p).next_ticket (tickets_of adds) state.next_ticket) (next_state script are p) (added_ascends shape (suc (at p)) (phase p) (before p) Global))

  start_within : (p : ℕ) → (before p).next_ticket ≤ end.next_ticket
  start_within p =
      let adds : List Entry = added shape (suc (at p)) (drop (at p) calls) (before p) Global in
      ascend_within (before p).next_ticket (tickets_of adds) end.next_ticket
      (subst (λ (state : State). AscendIn (before p).next_ticket (tickets_of adds) state.next_ticket) (sym (end_state script are p)) (added_ascends shape (suc (at p)) (drop (at p) calls) (before p) Global))

  starts_from : (p n least : ℕ) → least ≤ (before p).next_ticket
      → AreCuts least (length (all_entries told)) (map (λ (start : PhaseStart). start.ticket) (map (λ q. start_of shape (before q)) (range_with_len p n)))
  starts_from p zero least low = tt
  starts_from p (suc n) least low =
      let next : suc p ≡ p + 1 = omega arith in (
        low,
        omega (arith, start_within p, entries_counted shape calls ours),
        starts_from (p + 1) n (before p).next_ticket (subst (λ (q : ℕ). (before p).next_ticket ≤ (before q).next_ticket) next (start_next p)),
      )

  starts_in_order : StartsRise (serial script)
  unfolding serial
  starts_in_order = starts_from 0 (phase_count cuts) 0 (omega arith)

  -- Spares: at first those of the opening, at the end those that are told, and between them those of the run
  spares : ℕ → ℕ → Option ℕ
  spares zero cpu = spare_at (opening shape) cpu
  spares (suc p) cpu = cond (eqb (suc p) (phase_count cuts)) (spare_at (finals_of shape end) cpu) ((before (suc p)).spares cpu)

  module _ (opens : (cpu : ℕ) → cpu < shape.cpus → spare_at (opening shape) cpu ≡ first.spares cpu) (holds : HoldsElements shape (finals_of shape end)) where
    spares_are : (p cpu : ℕ) → cpu < shape.cpus → spares p cpu ≡ (before p).spares cpu
    unfolding spares
    spares_are zero cpu within = opens cpu within
    spares_are (suc p) cpu within =
        by_test (suc p) (phase_count cuts) (λ b. cond b (spare_at (finals_of shape end) cpu) ((before (suc p)).spares cpu) ≡ (before (suc p)).spares cpu)
        (λ last. spares_told shape end cpu holds within ∙ ap (λ (state : State). state.spares cpu) (sym last_state ∙ ap before (sym last)))
        (λ other. refl)

    concatenated : (p : ℕ) → IsConcatenation shape told (range_with_len 0 shape.cpus) (suc (at p)) (phase p) (of_phase cuts p (answers shape 1 calls first)) (spares p) (spares (suc p)) (steps_of_calls shape (suc (at p)) (phase p) (before p))
    concatenated p =
        let next = next_state script are p in
        subst (λ (replies : List Reply). IsConcatenation shape told (range_with_len 0 shape.cpus) (suc (at p)) (phase p) replies (spares p) (spares (suc p)) (steps_of_calls shape (suc (at p)) (phase p) (before p))) (replies_of script are p)
        (strand_is shape end ours (spares (suc p)) (suc (at p)) (phase p) (before p) (spares p) (phase_served p) (done_from shape (suc (at p)) (phase p) (before p) (phase_served p) (starts p)).0 (spares_are p)
        (subst (λ (state : State). Grows state end) (sym next) (grows_on (suc p)))
        (λ cpu within. spares_are (suc p) cpu within ∙ ap (λ (state : State). state.spares cpu) (sym next)))

    in_order : (p : ℕ) → AscendIn 0 (map (ticket_at told) (steps_of_calls shape (suc (at p)) (phase p) (before p))) (length (all_entries told))
    in_order p =
        let next = next_state script are p in
        let tickets : List ℕ = map (ticket_at told) (steps_of_calls shape (suc (at p)) (phase p) (before p)) in
        let its : AscendIn (before p).next_ticket tickets (before (suc p)).next_ticket =
        subst (λ (state : State). AscendIn (before p).next_ticket tickets state.next_ticket) next (calls_ascend shape end ours (suc (at p)) (phase p) (before p) (subst (λ (state : State). Grows state end) (sym next) (grows_on (suc p)))) in
        let rest_is = end_state script are (suc p) in
        let rest : (before (suc p)).next_ticket ≤ end.next_ticket =
        subst (λ (state : State). (before (suc p)).next_ticket ≤ state.next_ticket) (sym rest_is)
        (ascend_within (before (suc p)).next_ticket (map (ticket_at told) (steps_of_calls shape (suc (at (suc p))) (drop (at (suc p)) calls) (before (suc p)))) (run shape (suc (at (suc p))) (drop (at (suc p)) calls) (before (suc p))).next_ticket
        (calls_ascend shape end ours (suc (at (suc p))) (drop (at (suc p)) calls) (before (suc p)) (subst (λ (state : State). Grows state end) rest_is (grows_none end)))) in
        ascend_from 0 (before p).next_ticket tickets (length (all_entries told)) (omega arith)
        (ascend_to (before p).next_ticket tickets (before (suc p)).next_ticket (length (all_entries told)) (omega (arith, rest, entries_counted shape calls ours)) its)

    record_by_logs : EachAnswered shape calls (answers shape 1 calls first) → IsRecord script (serial script)
    unfolding serial spares
    record_by_logs answered =
        let done = (done_from shape 1 calls first served (new_start shape created)).0 in
        let cpus : List ℕ = range_with_len 0 shape.cpus in
        let on : AreOnCpus shape end = run_on_cpus shape 1 calls first served (λ lock. All-nil (λ (entry : Entry). entry.cpu < shape.cpus)) in
        let legal : AreLegal shape end = legal_run shape 1 calls first done (legal_first shape) in
        let strand_at = mapped_at (strand_of_phase script) (phase_count cuts) in
        let strand_of_it = mapped_is (strand_of_phase script) (phase_count cuts) in
        record {
          locks = locks_told end (locks_of shape);
          legal = All-map (λ (history : LockHistory). IsLegal shape history.lock history.entries) (λ lock. record { lock = lock; entries = end.logs lock }) (locks_of shape) (all_of (locks_of shape) (λ lock. IsLegal shape lock (end.logs lock)) legal);
          on_cpus = All-map (λ (history : LockHistory). All (λ (entry : Entry). entry.cpu < shape.cpus) history.entries) (λ lock. record { lock = lock; entries = end.logs lock }) (locks_of shape)
              (all_of (locks_of shape) (λ lock. All (λ (entry : Entry). entry.cpu < shape.cpus) (end.logs lock)) on);
          one_each = length-map-range_with_len (λ p. start_of shape (before p)) 0 (phase_count cuts);
          first = ap (λ (l : List ℕ). Some (record { ticket = 0; marked = l })) (none_kept (range_with_len 0 shape.elements));
          in_phases = All-map (λ (history : LockHistory). All (IsInItsPhase cuts phases) history.entries) (λ lock. record { lock = lock; entries = end.logs lock }) (locks_of shape)
              (all_of (locks_of shape) (λ lock. All (IsInItsPhase cuts phases) (end.logs lock)) all_in_phases);
          strand_of = λ p cpu. p;
          in_strand = λ p cpu low within. subst (λ (o : Option Strand). MatchOption o ⊥ (λ (strand : Strand). strand.phase ≡ p)) (sym (strand_at p low)) refl;
          cpus_are = λ n strand is.
              let one = strand_of_it n strand is in
              subst (λ (s : Strand). (s.phase < phase_count cuts) × (s.cpus ≡ filter (λ cpu. eqb s.phase n) cpus)) one.1 (one.0, all_kept n n cpus refl);
          steps = λ n strand is lock there.
              let one = strand_of_it n strand is in
              subst (λ (s : Strand). places_on lock s.steps ≡ places_in cuts s.phase s.cpus 0 (entries_of told lock)) one.1
              (places lock n ∙ (sym (places_of_it lock n) ∙ ap (places_in cuts n cpus 0) (sym (entries_are shape end ours lock))));
          spares = spares;
          first_spares = λ cpu. refl;
          last_spares = λ cpu. ap (λ (b : Bool). cond b (spare_at (finals_of shape end) cpu) ((before (phase_count cuts)).spares cpu)) (eq-eqb (phase_count cuts) (phase_count cuts) refl);
          calls_are = λ n strand is.
              let one = strand_of_it n strand is in
              subst (λ (s : Strand). IsConcatenation shape told s.cpus (suc (at s.phase)) (of_phase cuts s.phase calls) (of_phase cuts s.phase (answers shape 1 calls first)) (spares s.phase) (spares (suc s.phase)) s.steps) one.1 (concatenated n);
          replies = answered;
          contents = λ lock there. subst (λ (entries : List Entry). Tells (finals_of shape end) lock (content shape lock entries)) (sym (entries_are shape end ours lock)) (tells shape end lock there);
          finals = holds;
          marked = every_mapped (λ (start : PhaseStart). All (λ (element : ℕ). element < shape.elements) start.marked × Ascend start.marked) (λ p. start_of shape (before p)) 0 (phase_count cuts)
              (λ p. (
                All-filter (before p).bits (λ (e : ℕ). e < shape.elements) (range_with_len 0 shape.elements) (subst (λ (n : ℕ). All (λ (e : ℕ). e < n) (range_with_len 0 shape.elements)) zero_more (all_to 0 shape.elements)),
                ascends (before p).bits 0 shape.elements,
              ));
          tickets =
              tickets_by_logs shape calls ours (map (strand_of_phase script) (range_with_len 0 (phase_count cuts)))
              (every_mapped (λ (strand : Strand). AscendIn 0 (map (ticket_at told) strand.steps) (length (all_entries told))) (strand_of_phase script) 0 (phase_count cuts) in_order);
        }
      where
        zero_more : 0 + shape.elements ≡ shape.elements
        zero_more = omega arith

-- It is enough that the cuts are of these calls, that the first spares and the replies are right, and that the map holds what it
-- should at the end.
pub record_of_done : (script : Script) → IsShape script.shape → HasPhases script.version (length script.calls) script.cuts → All (λ (call : Call). call.cpu < script.shape.cpus) script.calls
    → ((cpu : ℕ) → cpu < script.shape.cpus → spare_at (opening script.shape) cpu ≡ (new_state script.shape).spares cpu)
    → EachAnswered script.shape script.calls (answers script.shape 1 script.calls (new_state script.shape))
    → HoldsElements script.shape (finals_of script.shape (run script.shape 1 script.calls (new_state script.shape)))
    → IsRecord script (serial script)
record_of_done script created phases served spares answered holds =
    record_by_logs script (cuts_rise 0 script.cuts (length script.calls) (omega arith) phases.rise) created served spares holds answered

-- And the tickets of its starts never fall.
pub starts_of_done : (script : Script) → IsShape script.shape → HasPhases script.version (length script.calls) script.cuts → All (λ (call : Call). call.cpu < script.shape.cpus) script.calls → StartsRise (serial script)
starts_of_done script created phases served = starts_in_order script (cuts_rise 0 script.cuts (length script.calls) (omega arith) phases.rise) created served
