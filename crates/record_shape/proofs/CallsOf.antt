-- Each turn of a record is one of a call, and each call has its turns.
use Rattle.std.proofs.Common.{◌≡◌, ℕ, zero, suc, ◌+◌, ◌-◌, ◌<◌, ◌≤◌, Bool, true, false, cond, ◌&&◌, ◌||◌, List, [], ◌∷◌, ◌++◌, length, drop, Option, None, Some, refl, ap, sym, ◌∙◌, subst, ⊎_elim, arith}
use Rattle.std.specs.Prelude.{All, MatchOption, filter, slice_get, IsTrue, ◌==◌}
use Rattle.std.specs.List.{range_with_len}
use Rattle.std.proofs.lemmas.Bool.{eq-eqb}
use Rattle.std.proofs.lemmas.List.Elements.{All-weaker}
use Rattle.std.proofs.lemmas.Option.{none-some, same_Some, slice_get_within}
use Rattle.map_types.specs.declared.attr.Shape.{Shape}
use Rattle.map_types.specs.declared.call.Call.{Call}
use Rattle.map_types.specs.declared.kind.DomainId.{DomainId}
use Rattle.map_types.specs.declared.reply.Reply.{Reply}
use Rattle.map_types.specs.ElementLists.{put}
use Rattle.map_types.proofs.RowLemmas.{by_test}
use Rattle.place_words.specs.declared.history.Entry.{Entry}
use Rattle.place_words.specs.declared.history.LockHistory.{LockHistory}
use Rattle.place_words.specs.declared.history.Strand.{Strand}
use Rattle.place_words.specs.declared.history.StrandStep.{StrandStep}
use Rattle.place_words.specs.Locks.{is_lock, is_same_lock}
use Rattle.place_words.specs.Named.{entries_of, Names, NameAll}
use Rattle.place_words.specs.Phases.{phase_of, phase_count, calls_before, of_phase}
use Rattle.place_words.specs.Strands.{places_on}
use Rattle.place_words.specs.Traces.{IsTrace}
use Rattle.place_words.specs.Turns.{TurnAt}
use Rattle.place_words.specs.Walks.{spare_left}
use Rattle.place_words.proofs.LockLemmas.{one_lock}
use Rattle.map_script.specs.declared.script.Script.{Script}
use Rattle.map_script.specs.WellFormed.{IsCallOn, IsWellFormed}
use Rattle.map_report.specs.declared.record.RunRecord.{RunRecord}
use Rattle.map_report.specs.Record.{EachAnswered, IsCallOf, IsConcatenation, IsRecord, has_cpu, places_in}
use Rattle.map_report.proofs.CutLemmas.{Rise, cuts_rise, is_behind, is_within, is_phase}
use Rattle.record_shape.proofs.ByPlaces.{all_at, at_taken, taken_at, at_dropped, at_both, first_of, by_either}
use Rattle.record_shape.proofs.HistoriesOf.{IsHeld, is_held}

-- What some steps name

pub named_at : (histories : List LockHistory) (cpu number : ℕ) (steps : List StrandStep) (turns : List TurnAt)
    → NameAll histories cpu number steps turns
    → (k : ℕ) (step : StrandStep) → slice_get steps k ≡ Some step → (at : TurnAt) × (slice_get turns k ≡ Some at) × Names histories cpu number step at
named_at histories cpu number [] turns names k step there = absurd (none-some step there)
named_at histories cpu number (first ∷ steps) [] names k step there = absurd names
named_at histories cpu number (first ∷ steps) (turn ∷ turns) names zero step there =
    (turn, refl, subst (λ (s : StrandStep). Names histories cpu number s turn) (same_Some first step there) names.0)
named_at histories cpu number (first ∷ steps) (turn ∷ turns) names (suc k) step there = named_at histories cpu number steps turns names.1 k step there

pub named_by : (histories : List LockHistory) (cpu number : ℕ) (steps : List StrandStep) (turns : List TurnAt)
    → NameAll histories cpu number steps turns
    → (k : ℕ) (at : TurnAt) → slice_get turns k ≡ Some at → (step : StrandStep) × Names histories cpu number step at
named_by histories cpu number steps [] names k at there = absurd (none-some at there)
named_by histories cpu number [] (turn ∷ turns) names k at there = absurd names
named_by histories cpu number (step ∷ steps) (turn ∷ turns) names zero at there =
    (step, subst (λ (t : TurnAt). Names histories cpu number step t) (same_Some turn at there) names.0)
named_by histories cpu number (step ∷ steps) (turn ∷ turns) names (suc k) at there = named_by histories cpu number steps turns names.1 k at there

-- A call of some number is made, with steps of a strand and its turns
pub record IsMade (shape : Shape) (histories : List LockHistory) (number : ℕ) (call : Call) (reply : Reply) : Type 0 where
  pub spare : Option ℕ
  pub steps : List StrandStep
  pub turns : List TurnAt
  pub is : IsCallOf shape histories number call reply spare steps turns

-- a step is of one of some calls, the first of which has this number
pub record IsStepOf (shape : Shape) (histories : List LockHistory) (first : ℕ) (calls : List Call) (replies : List Reply) (step : StrandStep) : Type 0 where
  pub place : ℕ
  pub number : ℕ
  pub number_is : number ≡ first + place
  pub call : Call
  pub called : slice_get calls place ≡ Some call
  pub reply : Reply
  pub answered : slice_get replies place ≡ Some reply
  pub made : IsMade shape histories number call reply
  pub turn : ℕ
  pub at : TurnAt
  pub there : slice_get made.turns turn ≡ Some at
  pub names : Names histories call.cpu number step at

module _ (shape : Shape) (histories : List LockHistory) (cpus : List ℕ) where
  abbrev IsFirst : ℕ → Call → List Call → Reply → List Reply → (ℕ → Option ℕ) → (ℕ → Option ℕ) → List StrandStep → Type 0
  IsFirst number call calls reply replies spares last steps =
      (mine : List StrandStep) × (rest : List StrandStep) × (turns : List TurnAt) × (steps ≡ mine ++ rest)
      × IsCallOf shape histories number call reply (spares call.cpu) mine turns
      × IsConcatenation shape histories cpus (suc number) calls replies (put spares call.cpu (spare_left shape (spares call.cpu) turns)) last rest

  -- each call of the strand's CPUs is made
  call_in : (calls : List Call) (replies : List Reply) (number : ℕ) (spares last : ℕ → Option ℕ) (steps : List StrandStep)
      → IsConcatenation shape histories cpus number calls replies spares last steps
      → (m n : ℕ) (call : Call) → n ≡ number + m → slice_get calls m ≡ Some call → has_cpu call.cpu cpus ≡ true
      → (reply : Reply) × (slice_get replies m ≡ Some reply) × IsMade shape histories n call reply
  call_in [] replies number spares last steps are m n call is at has = absurd (none-some call at)
  call_in (first ∷ calls) [] number spares last steps are m n call is at has = absurd are
  call_in (first ∷ calls) (reply ∷ replies) number spares last steps are zero n call is at has =
      let same : first ≡ call = same_Some first call at in
      let here : has_cpu first.cpu cpus ≡ true = ap (λ (c : Call). has_cpu c.cpu cpus) same ∙ has in
      let made : IsFirst number first calls reply replies spares last steps =
      first_of (has_cpu first.cpu cpus) (IsFirst number first calls reply replies spares last steps) (IsConcatenation shape histories cpus (suc number) calls replies spares last steps) here are in
      let number_is : number ≡ n = omega (arith, is) in (
        reply,
        refl,
        record {
          spare = spares first.cpu;
          steps = made.0;
          turns = made.2;
          is =
              subst (λ (c : Call). IsCallOf shape histories n c reply (spares first.cpu) made.0 made.2) same (subst (λ (m : ℕ). IsCallOf shape histories m first reply (spares first.cpu) made.0 made.2) number_is made.4);
        },
      )
  call_in (first ∷ calls) (reply ∷ replies) number spares last steps are (suc m) n call is at has =
      by_either (has_cpu first.cpu cpus) (IsFirst number first calls reply replies spares last steps) (IsConcatenation shape histories cpus (suc number) calls replies spares last steps)
      ((answer : Reply) × (slice_get (reply ∷ replies) (suc m) ≡ Some answer) × IsMade shape histories n call answer) are
      (λ made. call_in calls replies (suc number) (put spares first.cpu (spare_left shape (spares first.cpu) made.2)) last made.1 made.5 m n call (omega (arith, is)) at has)
      (λ others. call_in calls replies (suc number) spares last steps others m n call (omega (arith, is)) at has)

  -- each step is of one of the calls
  later_step : (number : ℕ) (call : Call) (calls : List Call) (reply : Reply) (replies : List Reply) (step : StrandStep)
      → IsStepOf shape histories (suc number) calls replies step
      → IsStepOf shape histories number (call ∷ calls) (reply ∷ replies) step
  later_step number call calls reply replies step is = record {
    place = suc is.place;
    number = is.number;
    number_is = omega (arith, is.number_is);
    call = is.call;
    called = is.called;
    reply = is.reply;
    answered = is.answered;
    made = is.made;
    turn = is.turn;
    at = is.at;
    there = is.there;
    names = is.names;
  }

  step_in : (calls : List Call) (replies : List Reply) (number : ℕ) (spares last : ℕ → Option ℕ) (steps : List StrandStep)
      → IsConcatenation shape histories cpus number calls replies spares last steps
      → (k : ℕ) (step : StrandStep) → slice_get steps k ≡ Some step → IsStepOf shape histories number calls replies step
  step_in [] replies number spares last steps are k step there = absurd (none-some step (ap (λ (l : List StrandStep). slice_get l k) (sym are.0) ∙ there))
  step_in (first ∷ calls) [] number spares last steps are k step there = absurd are
  step_in (first ∷ calls) (reply ∷ replies) number spares last steps are k step there =
      by_either (has_cpu first.cpu cpus) (IsFirst number first calls reply replies spares last steps) (IsConcatenation shape histories cpus (suc number) calls replies spares last steps)
      (IsStepOf shape histories number (first ∷ calls) (reply ∷ replies) step) are
      (λ made.
      ⊎_elim
      (λ (mine : slice_get made.0 k ≡ Some step).
      let named = named_at histories first.cpu number made.0 made.2 made.4.names k step mine in
      record {
        place = 0;
        number = number;
        number_is = omega arith;
        call = first;
        called = refl;
        reply = reply;
        answered = refl;
        made = record { spare = spares first.cpu; steps = made.0; turns = made.2; is = made.4 };
        turn = k;
        at = named.0;
        there = named.1;
        names = named.2;
      })
      (λ (rest : (j : ℕ) × (slice_get made.1 j ≡ Some step)).
      later_step number first calls reply replies step
      (step_in calls replies (suc number) (put spares first.cpu (spare_left shape (spares first.cpu) made.2)) last made.1 made.5 rest.0 step rest.1))
      (at_both made.0 made.1 k step (ap (λ (l : List StrandStep). slice_get l k) (sym made.3) ∙ there)))
      (λ others. later_step number first calls reply replies step (step_in calls replies (suc number) spares last steps others k step there))

-- Places of a history that are a strand's

place_there : (cuts : List ℕ) (phase : ℕ) (cpus : List ℕ) (from : ℕ) (entries : List Entry) (k : ℕ) (entry : Entry) → slice_get entries k ≡ Some entry
    → phase_of cuts entry.call ≡ phase → has_cpu entry.cpu cpus ≡ true
    → (j : ℕ) × (slice_get (places_in cuts phase cpus from entries) j ≡ Some (from + k))
place_there cuts phase cpus from [] k entry at is has = absurd (none-some entry at)
place_there cuts phase cpus from (first ∷ entries) zero entry at is has =
    let same : first ≡ entry = same_Some first entry at in
    let in_phase : (phase_of cuts first.call == phase) ≡ true =
    ap (λ (e : Entry). phase_of cuts e.call == phase) same ∙ eq-eqb (phase_of cuts entry.call) phase is in
    let on_cpu : has_cpu first.cpu cpus ≡ true = ap (λ (e : Entry). has_cpu e.cpu cpus) same ∙ has in
    let rest : List ℕ = places_in cuts phase cpus (suc from) entries in
    let here : cond ((phase_of cuts first.call == phase) && has_cpu first.cpu cpus) (from ∷ rest) rest ≡ from ∷ rest =
    (λ i. cond (in_phase i && on_cpu i) (from ∷ rest) rest) in
    let where_it_is : from ≡ from + 0 = omega arith in
    (0, ap (λ (l : List ℕ). slice_get l 0) here ∙ ap Some where_it_is)
place_there cuts phase cpus from (first ∷ entries) (suc k) entry at is has =
    by ((phase_of cuts first.call == phase) && has_cpu first.cpu cpus) (place_there cuts phase cpus (suc from) entries k entry at is has)
  where
    where_it_is : suc from + k ≡ from + suc k
    where_it_is = omega arith

    by : (b : Bool) → (j : ℕ) × (slice_get (places_in cuts phase cpus (suc from) entries) j ≡ Some (suc from + k))
        → (j : ℕ) × (slice_get (cond b (from ∷ places_in cuts phase cpus (suc from) entries) (places_in cuts phase cpus (suc from) entries)) j ≡ Some (from + suc k))
    by true found = (suc found.0, found.1 ∙ ap Some where_it_is)
    by false found = (found.0, found.1 ∙ ap Some where_it_is)

-- a place that some steps on a lock name is that of one of them
abbrev IsStepAt : DomainId → ℕ → List StrandStep → Type 0
IsStepAt lock place steps = (k : ℕ) × (step : StrandStep) × (slice_get steps k ≡ Some step) × (step.lock ≡ lock) × (step.index ≡ place)

step_there : (lock : DomainId) (steps : List StrandStep) (j place : ℕ) → slice_get (places_on lock steps) j ≡ Some place → IsStepAt lock place steps
step_there lock [] j place at = absurd (none-some place at)
step_there lock (first ∷ steps) j place at = by (is_same_lock first.lock lock) refl j (λ i. step_there lock steps i place) at
  where
    by : (b : Bool) → is_same_lock first.lock lock ≡ b → (j : ℕ)
        → ((i : ℕ) → slice_get (places_on lock steps) i ≡ Some place → IsStepAt lock place steps)
        → slice_get (cond b (first.index ∷ places_on lock steps) (places_on lock steps)) j ≡ Some place → IsStepAt lock place (first ∷ steps)
    by true is zero later at = (0, first, refl, one_lock first.lock lock is, same_Some first.index place at)
    by true is (suc j) later at = let rest = later j at in (suc rest.0, rest.1, rest.2, rest.3, rest.4)
    by false is j later at = let rest = later j at in (suc rest.0, rest.1, rest.2, rest.3, rest.4)

-- The CPUs of a strand

has_kept : (keep : ℕ → Bool) (cpu from n : ℕ) → from ≤ cpu → cpu < from + n → keep cpu ≡ true
    → has_cpu cpu (filter keep (range_with_len from n)) ≡ true
has_kept keep cpu from zero least most kept = absurd (omega (arith, least, most))
has_kept keep cpu from (suc n) least most kept =
    by_test from cpu (λ _. has_cpu cpu (filter keep (range_with_len from (suc n))) ≡ true)
    (λ same.
    let here : keep from ≡ true = ap keep same ∙ kept in
    let found : (from == cpu) ≡ true = eq-eqb from cpu same in
    ap (λ (b : Bool). has_cpu cpu (cond b (from ∷ filter keep (range_with_len (from + 1) n)) (filter keep (range_with_len (from + 1) n)))) here
    ∙ ap (λ (b : Bool). b || has_cpu cpu (filter keep (range_with_len (from + 1) n))) found)
    (λ other. later (keep from) (has_kept keep cpu (from + 1) n (omega (arith, least, other)) (omega (arith, most)) kept))
  where
    either : (b c : Bool) → c ≡ true → (b || c) ≡ true
    either true c is = refl
    either false c is = is

    later : (b : Bool) → has_cpu cpu (filter keep (range_with_len (from + 1) n)) ≡ true
        → has_cpu cpu (cond b (from ∷ filter keep (range_with_len (from + 1) n)) (filter keep (range_with_len (from + 1) n))) ≡ true
    later true rest = either (from == cpu) (has_cpu cpu (filter keep (range_with_len (from + 1) n))) rest
    later false rest = rest

-- What is answered

as_many : (shape : Shape) (calls : List Call) (replies : List Reply) → EachAnswered shape calls replies → length replies ≡ length calls
as_many shape [] [] each = refl
as_many shape [] (reply ∷ replies) each = absurd each
as_many shape (call ∷ calls) [] each = absurd each
as_many shape (call ∷ calls) (reply ∷ replies) each = ap suc (as_many shape calls replies each.1)

some_there : {A : Type 0} (o : Option A) (P : A → Type 0) → MatchOption o ⊥ P → (x : A) × (o ≡ Some x) × P x
some_there None P found = absurd found
some_there (Some x) P found = (x, refl, found)

-- Of a record

-- a call has its reply and its turns
pub record OfCall (script : Script) (kept : RunRecord) (n : ℕ) (call : Call) : Type 0 where
  pub reply : Reply
  pub answered : slice_get kept.replies n ≡ Some reply
  pub spare : Option ℕ
  pub steps : List StrandStep
  pub turns : List TurnAt
  pub names : NameAll kept.histories call.cpu (suc n) steps turns
  pub trace : IsTrace script.shape call.cpu spare call.verb turns reply

-- an entry is that of a turn of a call
pub record OfEntry (script : Script) (kept : RunRecord) (lock : DomainId) (place : ℕ) (entry : Entry) : Type 0 where
  pub n : ℕ
  pub call : Call
  pub called : slice_get script.calls n ≡ Some call
  pub number : entry.call ≡ suc n
  pub cpu : entry.cpu ≡ call.cpu
  pub of : OfCall script kept n call
  pub step : StrandStep
  pub step_lock : step.lock ≡ lock
  pub step_index : step.index ≡ place
  pub turn : ℕ
  pub at : TurnAt
  pub there : slice_get of.turns turn ≡ Some at
  pub names : Names kept.histories call.cpu (suc n) step at
  pub lock_is : at.turn.lock ≡ lock
  pub part_is : entry.part ≡ at.turn.part

-- of a script whose cuts are of its calls, and whose calls are on the map's CPUs
module _ (script : Script) (kept : RunRecord) (rises : Rise 0 script.cuts (length script.calls)) (served : All (λ (call : Call). call.cpu < script.shape.cpus) script.calls) (is : IsRecord script kept) where
  abbrev cuts : List ℕ
  cuts = script.cuts

  abbrev all : ℕ
  all = length script.calls

  pub each_replied : length kept.replies ≡ all
  each_replied = as_many script.shape script.calls kept.replies is.replies

  -- the strand of a CPU in a phase
  record HasStrand (phase cpu : ℕ) : Type 0 where
    strand : Strand
    strand_there : slice_get kept.strands (is.strand_of phase cpu) ≡ Some strand
    phase_is : strand.phase ≡ phase
    has : has_cpu cpu strand.cpus ≡ true

  strand_of_cpu : (phase cpu : ℕ) → phase < phase_count cuts → cpu < script.shape.cpus → HasStrand phase cpu
  strand_of_cpu phase cpu below real =
      let found : (strand : Strand) × (slice_get kept.strands (is.strand_of phase cpu) ≡ Some strand) × (strand.phase ≡ phase) =
      some_there (slice_get kept.strands (is.strand_of phase cpu)) (λ (strand : Strand). strand.phase ≡ phase) (is.in_strand phase cpu below real) in
      let own : (is.strand_of found.0.phase cpu == is.strand_of phase cpu) ≡ true =
      eq-eqb (is.strand_of found.0.phase cpu) (is.strand_of phase cpu) (ap (λ (p : ℕ). is.strand_of p cpu) found.2) in
      record {
        strand = found.0;
        strand_there = found.1;
        phase_is = found.2;
        has = ap (has_cpu cpu) (is.cpus_are (is.strand_of phase cpu) found.0 found.1).1
            ∙ has_kept (λ c. is.strand_of found.0.phase c == is.strand_of phase cpu) cpu 0 script.shape.cpus (omega arith) (omega (arith, real)) own;
      }

  -- what stands at a place among what is of a phase stands behind what is of the phases before it
  in_all : {A : Type 0} (p : ℕ) (each : List A) → length each ≡ all → (m : ℕ) (x : A) → slice_get (of_phase cuts p each) m ≡ Some x
      → slice_get each (calls_before cuts all p + m) ≡ Some x
  in_all p each long m x at =
      let first : ℕ = calls_before cuts (length each) p in
      ap (λ (l : ℕ). slice_get each (calls_before cuts l p + m)) (sym long)
      ∙ (sym (at_dropped first each m) ∙ at_taken (calls_before cuts (length each) (suc p) - first) (drop first each) m x at)

  -- the call of some number is that of its phase at its place there
  in_phase : (p n m : ℕ) (call : Call) → slice_get script.calls n ≡ Some call → n ≡ calls_before cuts all p + m
      → suc n ≤ calls_before cuts all (suc p) → slice_get (of_phase cuts p script.calls) m ≡ Some call
  in_phase p n m call at is_there within =
      let first : ℕ = calls_before cuts all p in
      taken_at (calls_before cuts all (suc p) - first) (drop first script.calls) m call (omega (arith, is_there, within))
      (at_dropped first script.calls m ∙ (ap (slice_get script.calls) (sym is_there) ∙ at))

  -- a call is that of its strand
  call_by : (s : ℕ) (strand : Strand) → slice_get kept.strands s ≡ Some strand → (n : ℕ) (call : Call) → slice_get script.calls n ≡ Some call
      → calls_before cuts all strand.phase < suc n → suc n ≤ calls_before cuts all (suc strand.phase) → has_cpu call.cpu strand.cpus ≡ true
      → OfCall script kept n call
  call_by s strand strand_there n call at behind within has =
      let q : ℕ = strand.phase in
      let m : ℕ = n - calls_before cuts all q in
      let there : n ≡ calls_before cuts all q + m = omega (arith, behind) in
      by m there
      (call_in script.shape kept.histories strand.cpus (of_phase cuts q script.calls) (of_phase cuts q kept.replies) (suc (calls_before cuts all q)) (is.spares q) (is.spares (suc q)) strand.steps
      (is.calls_are s strand strand_there) m (suc n) call (omega (arith, there)) (in_phase q n m call at there within) has)
    where
      by : (m : ℕ) → n ≡ calls_before cuts all strand.phase + m
          → (reply : Reply) × (slice_get (of_phase cuts strand.phase kept.replies) m ≡ Some reply) × IsMade script.shape kept.histories (suc n) call reply
          → OfCall script kept n call
      by m there made = record {
        reply = made.0;
        answered = ap (slice_get kept.replies) there ∙ in_all strand.phase kept.replies each_replied m made.0 made.1;
        spare = made.2.spare;
        steps = made.2.steps;
        turns = made.2.turns;
        names = made.2.is.names;
        trace = made.2.is.trace;
      }

  pub call_there : (n : ℕ) (call : Call) → slice_get script.calls n ≡ Some call → OfCall script kept n call
  call_there n call at =
      let p : ℕ = phase_of cuts (suc n) in
      let real : call.cpu < script.shape.cpus = all_at (λ (one : Call). one.cpu < script.shape.cpus) script.calls served n call at in
      let below : n < all = slice_get_within script.calls n call at in
      by p (strand_of_cpu p call.cpu (is_phase cuts all rises (suc n)) real) (is_behind cuts all rises (suc n) (omega arith)) (is_within cuts all rises (suc n) (omega (arith, below)))
    where
      by : (p : ℕ) → HasStrand p call.cpu → calls_before cuts all p < suc n → suc n ≤ calls_before cuts all (suc p) → OfCall script kept n call
      by p its behind within =
          call_by (is.strand_of p call.cpu) its.strand its.strand_there n call at
          (subst (λ (r : ℕ). calls_before cuts all r < suc n) (sym its.phase_is) behind) (subst (λ (r : ℕ). suc n ≤ calls_before cuts all (suc r)) (sym its.phase_is) within) its.has

  -- an entry that a step of a strand names is that of a turn of a call
  module _ (lock : DomainId) (place : ℕ) (entry : Entry) (at : slice_get (entries_of kept.histories lock) place ≡ Some entry) where
    entry_by : (q : ℕ) (step : StrandStep) → step.lock ≡ lock → step.index ≡ place
        → IsStepOf script.shape kept.histories (suc (calls_before cuts all q)) (of_phase cuts q script.calls) (of_phase cuts q kept.replies) step
        → OfEntry script kept lock place entry
    entry_by q step lock_is index_is found =
        let n : ℕ = calls_before cuts all q + found.place in
        let number_is : found.number ≡ suc n = omega (arith, found.number_is) in
        let told : Entry = record { ticket = found.names.ticket; cpu = found.call.cpu; call = found.number; part = found.at.turn.part } in
        let is_told : Some entry ≡ Some told =
        sym at ∙ (ap (λ (l : DomainId). slice_get (entries_of kept.histories l) place) (sym lock_is) ∙ (ap (slice_get (entries_of kept.histories step.lock)) (sym index_is) ∙ found.names.entry)) in
        let is_entry : entry ≡ told = same_Some entry told is_told in
        record {
          n = n;
          call = found.call;
          called = in_all q script.calls refl found.place found.call found.called;
          number = ap (λ (e : Entry). e.call) is_entry ∙ number_is;
          cpu = ap (λ (e : Entry). e.cpu) is_entry;
          of = record {
            reply = found.reply;
            answered = in_all q kept.replies each_replied found.place found.reply found.answered;
            spare = found.made.spare;
            steps = found.made.steps;
            turns = found.made.turns;
            names = subst (λ (c : ℕ). NameAll kept.histories found.call.cpu c found.made.steps found.made.turns) number_is found.made.is.names;
            trace = found.made.is.trace;
          };
          step = step;
          step_lock = lock_is;
          step_index = index_is;
          turn = found.turn;
          at = found.at;
          there = found.there;
          names = subst (λ (c : ℕ). Names kept.histories found.call.cpu c step found.at) number_is found.names;
          lock_is = sym found.names.lock ∙ lock_is;
          part_is = ap (λ (e : Entry). e.part) is_entry;
        }

    module _ (real : IsTrue (is_lock script.shape lock)) where
      step_by : (s : ℕ) (strand : Strand) → slice_get kept.strands s ≡ Some strand → IsStepAt lock place strand.steps
          → OfEntry script kept lock place entry
      step_by s strand strand_there stepped =
          let q : ℕ = strand.phase in
          entry_by q stepped.1 stepped.3 stepped.4
          (step_in script.shape kept.histories strand.cpus (of_phase cuts q script.calls) (of_phase cuts q kept.replies) (suc (calls_before cuts all q)) (is.spares q) (is.spares (suc q)) strand.steps
          (is.calls_are s strand strand_there) stepped.0 stepped.1 stepped.2)

      strand_by : (s : ℕ) (strand : Strand) → slice_get kept.strands s ≡ Some strand → phase_of cuts entry.call ≡ strand.phase
          → has_cpu entry.cpu strand.cpus ≡ true → OfEntry script kept lock place entry
      strand_by s strand strand_there phase_is has =
          let plain : 0 + place ≡ place = omega arith in
          let listed : (j : ℕ) × (slice_get (places_in cuts strand.phase strand.cpus 0 (entries_of kept.histories lock)) j ≡ Some (0 + place)) =
          place_there cuts strand.phase strand.cpus 0 (entries_of kept.histories lock) place entry at phase_is has in
          step_by s strand strand_there
          (step_there lock strand.steps listed.0 place (ap (λ (l : List ℕ). slice_get l listed.0) (is.steps s strand strand_there lock real) ∙ (listed.1 ∙ ap Some plain)))

      pub entry_there : OfEntry script kept lock place entry
      entry_there =
          let p : ℕ = phase_of cuts entry.call in
          by (strand_of_cpu p entry.cpu (is_phase cuts all rises entry.call) (on_cpu (is_held kept.histories lock place entry at)))
        where
          on_cpu : IsHeld kept.histories lock → entry.cpu < script.shape.cpus
          on_cpu held =
              let own : slice_get held.history.entries place ≡ Some entry =
              ap (λ (es : List Entry). slice_get es place) (sym held.entries_are) ∙ at in
              all_at (λ (e : Entry). e.cpu < script.shape.cpus) held.history.entries
              (all_at (λ (h : LockHistory). All (λ (e : Entry). e.cpu < script.shape.cpus) h.entries) kept.histories is.on_cpus held.place held.history held.there) place entry own

          by : HasStrand (phase_of cuts entry.call) entry.cpu → OfEntry script kept lock place entry
          by its = strand_by (is.strand_of (phase_of cuts entry.call) entry.cpu) its.strand its.strand_there (sym its.phase_is) its.has

-- of a well-formed script
module _ (script : Script) (kept : RunRecord) (like : IsWellFormed script) (is : IsRecord script kept) where
  well_rises : Rise 0 script.cuts (length script.calls)
  well_rises = cuts_rise 0 script.cuts (length script.calls) (omega arith) like.phases.rise

  well_served : All (λ (call : Call). call.cpu < script.shape.cpus) script.calls
  well_served = All-weaker (IsCallOn script.shape) (λ (call : Call). call.cpu < script.shape.cpus) (λ call on. on.cpu) script.calls like.calls

  pub replies_long : length kept.replies ≡ length script.calls
  replies_long = each_replied script kept well_rises well_served is

  pub call_of : (n : ℕ) (call : Call) → slice_get script.calls n ≡ Some call → OfCall script kept n call
  call_of n call at = call_there script kept well_rises well_served is n call at

  pub entry_of_call : (lock : DomainId) (place : ℕ) (entry : Entry) → slice_get (entries_of kept.histories lock) place ≡ Some entry → IsTrue (is_lock script.shape lock) → OfEntry script kept lock place entry
  entry_of_call lock place entry at real = entry_there script kept well_rises well_served is lock place entry at real
