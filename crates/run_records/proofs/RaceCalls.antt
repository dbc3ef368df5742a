-- The calls of a race's workers: on which locks their turns are, what they leave as spares, that they are concatenations of the
-- calls' traces, and what they answer.
use Rattle.std.proofs.Common.{◌≡◌, ◌≢◌, ℕ, suc, ◌<◌, Bool, true, false, ◌||◌, eqb, List, [], ◌∷◌, ◌++◌, length, map, get_or, drop, Option, Some, refl, ap, sym, ◌∙◌, subst, arith}
use Rattle.std.specs.Prelude.{MatchBool, All, if◌then◌else◌}
use Rattle.std.specs.List.{AllByRecursion, range_with_len}
use Rattle.std.proofs.lemmas.Bool.{eq-eqb, ne_eqb}
use Rattle.std.proofs.lemmas.List.{map-append}
use Rattle.std.proofs.lemmas.List.Elements.{All-nil, All-append, All-head, All-tail, recursion_from_All}
use Rattle.map_types.specs.declared.attr.Shape.{Shape}
use Rattle.map_types.specs.declared.call.Call.{Call}
use Rattle.map_types.specs.declared.reply.Reply.{Reply}
use Rattle.place_words.specs.declared.history.LockHistory.{LockHistory}
use Rattle.map_types.specs.ElementLists.{put}
use Rattle.place_words.specs.Locks.{lock_named}
use Rattle.place_words.specs.Named.{NameAll}
use Rattle.place_words.specs.Traces.{IsTrace}
use Rattle.place_words.specs.Turns.{TurnAt}
use Rattle.place_words.specs.Walks.{spare_left}
use Rattle.place_words.proofs.ElementLemmas.{put_here, put_else}
use Rattle.map_report.proofs.LogSteps.{has_within, within_has}
use Rattle.map_types.proofs.RowLemmas.{eqb_turned, by_test}
use Rattle.place_table.specs.declared.view.Turned.{Turned}
use Rattle.place_table.specs.Known.{turn_at, IsBy}
use Rattle.place_table.specs.Rules.{StandsIn}
use Rattle.place_table.proofs.Stands.{entry_is, earlier_is}
use Rattle.map_report.specs.Record.{MayAnswer, EachAnswered, has_cpu, entries_of, IsConcatenation}
use Rattle.serial_laws.specs.Served.{IsServedCall}
use Rattle.file_order.specs.Replies.{replies_of}
use Rattle.run_records.specs.Work.{IsCallBy, AreCallsBy}
use Rattle.serial_laws.proofs.HistoryTurns.{matched}
use Rattle.run_records.proofs.RaceKept.{steps_of}
use Rattle.serial_laws.proofs.TurnLocks.{all_parts}
use Rattle.run_records.specs.ByLogs.{IsOfMap}

-- The first of some calls

one_reply : (reply other : Reply) (replies more : List Reply) → reply ∷ replies ≡ other ∷ more → (other ≡ reply) × (more ≡ replies)
one_reply reply other replies more is = (sym (ap (λ (l : List Reply). get_or l 0 reply) is), sym (ap (λ (l : List Reply). drop 1 l) is))

module _ (shape : Shape) (cpu : ℕ) where
  abbrev IsFirst : ℕ → Call → List Call → Option ℕ → Option ℕ → List Reply → List Turned → Type 0
  IsFirst number call calls spare last replies steps =
      (mine : List Turned) × (rest : List Turned) × (reply : Reply) × (more : List Reply) × (steps ≡ mine ++ rest) × (replies ≡ reply ∷ more)
      × IsCallBy shape number call spare reply mine
      × AreCallsBy shape cpu (suc number) calls (spare_left shape spare (map (turn_at shape) mine)) last more rest

  -- It is the CPU's, or another's.
  pub first_call : (R : Type 0) (number : ℕ) (call : Call) (calls : List Call) (spare last : Option ℕ) (reply : Reply) (replies : List Reply) (steps : List Turned)
      → AreCallsBy shape cpu number (call ∷ calls) spare last (replies_of cpu (call ∷ calls) (reply ∷ replies)) steps
      → (call.cpu ≡ cpu → (mine rest : List Turned) → steps ≡ mine ++ rest → IsCallBy shape number call spare reply mine
      → AreCallsBy shape cpu (suc number) calls (spare_left shape spare (map (turn_at shape) mine)) last (replies_of cpu calls replies) rest → R)
      → (call.cpu ≢ cpu → AreCallsBy shape cpu (suc number) calls spare last (replies_of cpu calls replies) steps → R) → R
  first_call R number call calls spare last reply replies steps are own elsewhere =
      let later : List Reply = replies_of cpu calls replies in
      by_test call.cpu cpu
      (λ b. MatchBool b (IsFirst number call calls spare last (if b then reply ∷ later else later) steps) (AreCallsBy shape cpu (suc number) calls spare last (if b then reply ∷ later else later) steps) → R)
      (λ is first.
      let same = one_reply reply first.2 later first.3 first.5 in
      own is first.0 first.1 first.4
      (subst (λ (r : Reply). IsCallBy shape number call spare r first.0) same.0 first.6)
      (subst (λ (more : List Reply). AreCallsBy shape cpu (suc number) calls (spare_left shape spare (map (turn_at shape) first.0)) last more first.1) same.1 first.7))
      (λ is others. elsewhere is others)
      are

-- Locks

module _ (shape : Shape) (cpu : ℕ) where
  -- the turns of a CPU's calls are on locks of the map
  pub calls_real : (calls : List Call) (replies : List Reply) (number : ℕ) (spare last : Option ℕ) (steps : List Turned) → length replies ≡ length calls
      → AreCallsBy shape cpu number calls spare last (replies_of cpu calls replies) steps → All (IsOfMap shape) steps
  calls_real [] replies number spare last steps count are = subst (All (IsOfMap shape)) (sym are.1) (All-nil (IsOfMap shape))
  calls_real (call ∷ calls) [] number spare last steps count are = absurd (omega arith)
  calls_real (call ∷ calls) (reply ∷ replies) number spare last steps count are =
      first_call shape cpu (All (IsOfMap shape) steps) number call calls spare last reply replies steps are
      (λ is mine rest split made more.
      subst (All (IsOfMap shape)) (sym split)
      (All-append (IsOfMap shape) mine rest made.of_map (calls_real calls replies (suc number) (spare_left shape spare (map (turn_at shape) mine)) last rest (omega arith) more)))
      (λ is more. calls_real calls replies (suc number) spare last steps (omega arith) more)

-- Traces, one after another

-- a turn stands in the history of its lock, right after the turns before it there
abbrev pub StandsThere : Shape → List LockHistory → Turned → Type 0
StandsThere shape histories step = StandsIn (entries_of histories (lock_named shape step.lock)) step

names_all : (shape : Shape) (histories : List LockHistory) (cpu number : ℕ) (steps : List Turned) → AllByRecursion (IsBy cpu number) steps → AllByRecursion (StandsThere shape histories) steps
    → NameAll histories cpu number (steps_of shape steps) (map (turn_at shape) steps)
names_all shape histories cpu number [] by_call stand = tt
names_all shape histories cpu number (step ∷ steps) by_call stand = (
  record {
    lock = refl;
    ticket = step.entry.ticket;
    entry = entry_is (entries_of histories (lock_named shape step.lock)) step stand.0 ∙ (λ i. Some record { ticket = step.entry.ticket; cpu = by_call.0.0 i; call = by_call.0.1 i; part = step.entry.part });
    earlier = earlier_is (entries_of histories (lock_named shape step.lock)) step stand.0;
  },
  names_all shape histories cpu number steps by_call.1 stand.1,
)

pub has_one : (cpu other : ℕ) → has_cpu other (cpu ∷ []) ≡ eqb other cpu
has_one cpu other = or_none (eqb cpu other) ∙ eqb_turned cpu other
  where
    or_none : (b : Bool) → (b || false) ≡ b
    or_none true = refl
    or_none false = refl

missed : (b : Bool) (P Q : Type 0) → b ≡ false → Q → MatchBool b P Q
missed true P Q is q = cc
missed false P Q is q = q

module _ (shape : Shape) (histories : List LockHistory) (cpu : ℕ) where
  -- A worker's turns are its calls, one after another.
  pub concatenation : (calls : List Call) (replies : List Reply) (number : ℕ) (spares last : ℕ → Option ℕ) (spare : Option ℕ) (steps : List Turned) → length replies ≡ length calls → spares cpu ≡ spare
      → AllByRecursion (StandsThere shape histories) steps → AreCallsBy shape cpu number calls spare (last cpu) (replies_of cpu calls replies) steps
      → IsConcatenation shape histories (cpu ∷ []) number calls replies spares last (steps_of shape steps)
  concatenation [] replies number spares last spare steps count at stand are = (
    ap (steps_of shape) are.1,
    λ other is. by_test cpu other (λ b. (b || false) ≡ true → last other ≡ spares other) (λ same _. ap last (sym same) ∙ are.2 ∙ sym at ∙ ap spares same) (λ _ none. cc) is,
  )
  concatenation (call ∷ calls) [] number spares last spare steps count at stand are = absurd (omega arith)
  concatenation (call ∷ calls) (reply ∷ replies) number spares last spare steps count at stand are =
      first_call shape cpu (IsConcatenation shape histories (cpu ∷ []) number (call ∷ calls) (reply ∷ replies) spares last (steps_of shape steps)) number call calls spare (last cpu) reply replies steps are
      (λ is mine rest split made more.
      let turns : List TurnAt = map (turn_at shape) mine in
      let parts = all_parts (StandsThere shape histories) mine rest (subst (AllByRecursion (StandsThere shape histories)) split stand) in
      let own : spares call.cpu ≡ spare = ap spares is ∙ at in
      matched (has_cpu call.cpu (cpu ∷ [])) _ _ (has_one cpu call.cpu ∙ eq-eqb call.cpu cpu is) (
        steps_of shape mine,
        steps_of shape rest,
        turns,
        ap (steps_of shape) split ∙ map-append _ mine rest,
        record {
          names = names_all shape histories call.cpu number mine (recursion_from_All (IsBy call.cpu number) mine made.by_call) parts.0;
          trace = subst (λ (s : Option ℕ). IsTrace shape call.cpu s call.verb turns reply) (sym own) made.trace;
        },
        concatenation calls replies (suc number) (put spares call.cpu (spare_left shape (spares call.cpu) turns)) last (spare_left shape spare turns) rest (omega arith)
            (ap (put spares call.cpu (spare_left shape (spares call.cpu) turns)) (sym is) ∙ put_here spares call.cpu (spare_left shape (spares call.cpu) turns)
            ∙ ap (λ (s : Option ℕ). spare_left shape s turns) own)
            parts.1 more,
      ))
      (λ other more. missed (has_cpu call.cpu (cpu ∷ [])) _ _ (has_one cpu call.cpu ∙ ne_eqb call.cpu cpu other) (concatenation calls replies (suc number) spares last spare steps (omega arith) at stand more))

-- So are those of a CPU that makes all of them, where the strand is of all CPUs.
module _ (shape : Shape) (histories : List LockHistory) (cpu : ℕ) (real : cpu < shape.cpus) where
  pub concatenation_alone : (calls : List Call) (replies : List Reply) (number : ℕ) (spares last : ℕ → Option ℕ) (spare : Option ℕ) (steps : List Turned) → All (λ (call : Call). call.cpu ≡ cpu) calls → length replies ≡ length calls → spares cpu ≡ spare
      → ((other : ℕ) → other < shape.cpus → other ≢ cpu → last other ≡ spares other)
      → AllByRecursion (StandsThere shape histories) steps → AreCallsBy shape cpu number calls spare (last cpu) (replies_of cpu calls replies) steps
      → IsConcatenation shape histories (range_with_len 0 shape.cpus) number calls replies spares last (steps_of shape steps)
  concatenation_alone [] replies number spares last spare steps own count at others stand are = (
    ap (steps_of shape) are.1,
    λ other is. by_test cpu other (λ _. last other ≡ spares other) (λ same. ap last (sym same) ∙ are.2 ∙ sym at ∙ ap spares same)
        (λ apart. others other (omega (arith, within_has other 0 shape.cpus is)) (λ same. apart (sym same))),
  )
  concatenation_alone (call ∷ calls) [] number spares last spare steps own count at others stand are = absurd (omega arith)
  concatenation_alone (call ∷ calls) (reply ∷ replies) number spares last spare steps own count at others stand are =
      let rest : All (λ (c : Call). c.cpu ≡ cpu) calls = All-tail (λ (c : Call). c.cpu ≡ cpu) call calls own in
      first_call shape cpu (IsConcatenation shape histories (range_with_len 0 shape.cpus) number (call ∷ calls) (reply ∷ replies) spares last (steps_of shape steps)) number call calls spare (last cpu) reply replies steps are
      (λ is mine more split made later.
      let turns : List TurnAt = map (turn_at shape) mine in
      let parts = all_parts (StandsThere shape histories) mine more (subst (AllByRecursion (StandsThere shape histories)) split stand) in
      let its : spares call.cpu ≡ spare = ap spares is ∙ at in
      matched (has_cpu call.cpu (range_with_len 0 shape.cpus)) _ _ (has_within call.cpu 0 shape.cpus (omega arith) (omega (arith, real, is))) (
        steps_of shape mine,
        steps_of shape more,
        turns,
        ap (steps_of shape) split ∙ map-append _ mine more,
        record {
          names = names_all shape histories call.cpu number mine (recursion_from_All (IsBy call.cpu number) mine made.by_call) parts.0;
          trace = subst (λ (s : Option ℕ). IsTrace shape call.cpu s call.verb turns reply) (sym its) made.trace;
        },
        concatenation_alone calls replies (suc number) (put spares call.cpu (spare_left shape (spares call.cpu) turns)) last (spare_left shape spare turns) more rest (omega arith)
            (ap (put spares call.cpu (spare_left shape (spares call.cpu) turns)) (sym is) ∙ put_here spares call.cpu (spare_left shape (spares call.cpu) turns)
            ∙ ap (λ (s : Option ℕ). spare_left shape s turns) its)
            (λ other below apart. others other below apart ∙ sym (put_else spares call.cpu (spare_left shape (spares call.cpu) turns) other (λ same. apart (same ∙ is))))
            parts.1 later,
      ))
      (λ other later. absurd (other (All-head (λ (c : Call). c.cpu ≡ cpu) call calls own)))

-- Answers

-- what each CPU's calls are of, from some number on
abbrev AreCallsOfEach : Shape → ℕ → List Call → (ℕ → Option ℕ) → List Reply → Type 0
AreCallsOfEach shape number calls last replies =
    (cpu : ℕ) → cpu < shape.cpus → (spare : Option ℕ) × (steps : List Turned) × AreCallsBy shape cpu number calls spare (last cpu) (replies_of cpu calls replies) steps

-- each call is answered, since it is the call of one of the CPUs
pub each_call_answered : (shape : Shape) (calls : List Call) (replies : List Reply) (number : ℕ) (last : ℕ → Option ℕ) → length replies ≡ length calls → AllByRecursion (IsServedCall shape) calls
    → AreCallsOfEach shape number calls last replies → EachAnswered shape calls replies
each_call_answered shape [] [] number last count served each = tt
each_call_answered shape [] (reply ∷ replies) number last count served each = absurd (omega arith)
each_call_answered shape (call ∷ calls) [] number last count served each = absurd (omega arith)
each_call_answered shape (call ∷ calls) (reply ∷ replies) number last count served each =
    let here = each call.cpu served.0.cpu in (
      first_call shape call.cpu (MayAnswer shape call.verb reply) number call calls here.0 (last call.cpu) reply replies here.1 here.2
          (λ is mine rest split made more. made.answers) (λ other more. absurd (other refl)),
      each_call_answered shape calls replies (suc number) last (omega arith) served.1
          (λ cpu real. let own = each cpu real in
          first_call shape cpu ((spare : Option ℕ) × (steps : List Turned) × AreCallsBy shape cpu (suc number) calls spare (last cpu) (replies_of cpu calls replies) steps) number call calls own.0 (last cpu) reply replies own.1 own.2
          (λ is mine rest split made more. (spare_left shape own.0 (map (turn_at shape) mine), rest, more))
          (λ other more. (own.0, own.1, more))),
    )
