-- On a map that doesn't evict a call by logs is the call on plain lists: it makes the same turns and answers the same, and what is known
-- by logs follows the lists.
use Rattle.std.proofs.Common.{◌≡◌, ◌≢◌, ℕ, zero, suc, ◌<◌, Bool, true, false, cond, List, [], ◌∷◌, ◌++◌, length, Option, Some, refl, ap, sym, ◌∙◌, subst, arith, append_assoc}
use Rattle.std.specs.Prelude.{IsTrue, slice_get, unwrap_or}
use Rattle.std.proofs.lemmas.List.{append-nil}
use Rattle.map_types.specs.declared.attr.Shape.{Shape}
use Rattle.map_types.specs.declared.call.Verb.{Verb}
use Rattle.map_types.specs.declared.kind.DomainId.{DomainId}
use Rattle.map_types.specs.declared.kind.MapKind.{MapKind}
use Rattle.map_types.specs.declared.kind.MapKind.TheVariants.{Hash, PercpuHash, LruHash, LruPercpuHash}
use Rattle.map_types.specs.declared.reply.Reply.{Reply}
use Rattle.map_types.specs.Kind.{is_lru, is_percpu}
use Rattle.map_types.specs.Shape.{HasBounds}
use Rattle.place_words.specs.declared.finals.Finals.{Finals}
use Rattle.place_words.specs.declared.history.Entry.{Entry}
use Rattle.map_types.specs.ElementLists.{put}
use Rattle.map_types.proofs.RowLemmas.{by_test}
use Rattle.place_words.specs.Histories.{Content, Allows, content, content_after, opening_content, replayed}
use Rattle.place_words.specs.Locks.{is_lock, is_same_lock}
use Rattle.place_words.specs.Logs.{State, Does, first_does, lies_in, turned, all_turned, key_does}
use Rattle.place_words.specs.PlainTraces.{IsPlainTrace, spare_after_part, spare_after}
use Rattle.place_words.specs.Turns.{Turn, after_turn, AreAllowed}
use Rattle.place_words.proofs.DoneLaws.{IsKeyVerb, key_done}
use Rattle.place_words.proofs.ElementLemmas.{put_here}
use Rattle.map_report.specs.Runs.{steps_of_turns}
use Rattle.map_report.specs.Serial.{after_call, has_spares}
use Rattle.map_report.specs.Soundness.{IsSound}
use Rattle.map_report.specs.Turns.{Happened, happened, all_happened, content_under, spare_at, call_turns, entries_on, steps_from}
use Rattle.serial_laws.proofs.HistoryTurns.{entries_append, replayed_append, call_replayed}
use Rattle.serial_laws.proofs.KeyTurns.{DoesTurns, does_turns}
use Rattle.serial_laws.proofs.Leads.{Leads, leads_both}
use Rattle.serial_laws.proofs.TraceLaws.{one_trace}
use Rattle.serial_laws.proofs.TurnLocks.{OnLocks, trace_real}

-- What is known by logs is what the lists tell, after these turns.
pub record Follows (shape : Shape) (lists : Finals) (before : List Happened) (state : State) : Type 0 where
  pub logs : (lock : DomainId) → IsTrue (is_lock shape lock) → state.logs lock ≡ entries_on lock before
  pub contents : (lock : DomainId) → IsTrue (is_lock shape lock) → lies_in shape state lock ≡ content_under lists lock
  pub spares : (cpu : ℕ) → state.spares cpu ≡ spare_at lists cpu

-- Turns that are allowed on some contents are so on others that are the same under the map's locks.
transfer : (shape : Shape) (cpu : ℕ) (a b : DomainId → Content) → ((lock : DomainId) → IsTrue (is_lock shape lock) → a lock ≡ b lock) → (turns : List Turn) → OnLocks shape turns → AreAllowed shape cpu a turns → AreAllowed shape cpu b turns
transfer shape cpu a b same [] real allowed = tt
transfer shape cpu a b same (turn ∷ turns) real allowed = (
  subst (Allows shape cpu turn.part) (same turn.lock real.0) allowed.0,
  transfer shape cpu (after_turn shape cpu a turn) (after_turn shape cpu b turn)
      (λ lock is. ap (λ (c : Content). cond (is_same_lock turn.lock lock) (content_after shape cpu turn.part c) c) (same lock is)) turns real.1 allowed.1,
)

-- The spare of a CPU is there where elements have one value

there_is : (xs : List ℕ) (i : ℕ) → i < length xs → slice_get xs i ≡ Some (unwrap_or (slice_get xs i) 0)
there_is [] i within = absurd (omega arith)
there_is (x ∷ xs) zero within = refl
there_is (x ∷ xs) (suc i) within = there_is xs i (omega arith)

kind_spares : (kind : MapKind) → is_lru kind ≡ false → is_percpu kind ≡ false → has_spares kind ≡ true
kind_spares Hash built one_value = refl
kind_spares PercpuHash built one_value = absurd cc
kind_spares LruHash built one_value = absurd cc
kind_spares LruPercpuHash built one_value = absurd cc

spare_there : (shape : Shape) (lists : Finals) (cpu : ℕ) → is_lru shape.kind ≡ false → IsSound shape lists → cpu < shape.cpus → is_percpu shape.kind ≡ false → spare_at lists cpu ≡ Some (unwrap_or (spare_at lists cpu) 0)
spare_there shape lists cpu built sound within one_value =
    let many : length lists.spares ≡ shape.cpus = sound.lengths.spares ∙ ap (λ (b : Bool). cond b shape.cpus 0) (kind_spares shape.kind built one_value) in
    there_is lists.spares cpu (omega (arith, many, within))

-- What a call by logs does is what it does on lists: these turns, which lead there, and this reply.
pub record IsSame (shape : Shape) (cpu : ℕ) (lists : Finals) (did : Does) (turns : List Turn) (after : Finals × Reply) : Type 0 where
  pub turns_are : did.turns ≡ turns
  pub reply_is : did.reply ≡ after.1
  pub leads : Leads shape cpu turns lists after.0

-- turns that come first
pub same_first : (shape : Shape) (cpu : ℕ) (made turns rest : List Turn) (later : Does) (lists middle : Finals) (after : Finals × Reply) → made ≡ turns → Leads shape cpu turns lists middle
    → IsSame shape cpu middle later rest after → IsSame shape cpu lists (first_does made later) (turns ++ rest) after
same_first shape cpu made turns rest later lists middle after same leads others = record {
  turns_are = λ i. same i ++ others.turns_are i;
  reply_is = others.reply_is;
  leads = leads_both shape cpu turns rest lists middle after.0 leads others.leads;
}

module _ (shape : Shape) (bounds : HasBounds shape) (built : is_lru shape.kind ≡ false) where
  plain : is_lru shape.kind ≡ false
  plain = built

  -- a call on one key makes the same turns and answers the same
  pub key_same : (lists : Finals) (before : List Happened) (state : State) (number cpu : ℕ) (verb : Verb) → Follows shape lists before state → cpu < shape.cpus → IsKeyVerb verb → IsSound shape lists
      → IsSame shape cpu lists (key_does shape cpu number state verb) (call_turns shape cpu verb lists) (after_call shape cpu verb lists)
  key_same lists before state number cpu verb follows within key sound =
      let made : DoesTurns shape cpu verb lists = does_turns shape cpu verb lists built bounds sound within key in
      let own : state.spares cpu ≡ spare_at lists cpu = follows.spares cpu in
      let spare = λ (one_value : is_percpu shape.kind ≡ false). own ∙ spare_there shape lists cpu built sound within one_value ∙ ap (λ (s : Option ℕ). Some (unwrap_or s 0)) (sym own) in
      let done = key_done shape cpu number state plain spare verb key in
      let trace = subst (λ (s : Option ℕ). IsPlainTrace shape cpu s verb (key_does shape cpu number state verb).turns (key_does shape cpu number state verb).reply) own done.trace in
      let real = trace_real shape bounds built cpu (spare_at lists cpu) verb (key_does shape cpu number state verb).turns (key_does shape cpu number state verb).reply within trace in
      let allowed = transfer shape cpu (lies_in shape state) (content_under lists) follows.contents (key_does shape cpu number state verb).turns real done.allowed in
      let same = one_trace shape cpu (spare_at lists cpu) verb (content_under lists) (key_does shape cpu number state verb).turns (call_turns shape cpu verb lists) (key_does shape cpu number state verb).reply (after_call shape cpu verb lists).1 plain trace allowed made.trace made.allowed in
      record {
        turns_are = same.0;
        reply_is = same.1;
        leads = record {
          on_locks = trace_real shape bounds built cpu (spare_at lists cpu) verb (call_turns shape cpu verb lists) (after_call shape cpu verb lists).1 within made.trace;
          leaves = made.leaves;
          spare = made.spare;
          other_spares = made.other_spares;
        };
      }

  -- the logs after turns
  one_log : (cpu number : ℕ) (turn : Turn) (state : State) (before : List Happened) (lock : DomainId) → state.logs lock ≡ entries_on lock before → (turned shape cpu number turn state).logs lock ≡ entries_on lock (before ++ happened cpu number state.next_ticket turn ∷ [])
  one_log cpu number turn state before lock same = by (is_same_lock turn.lock lock) ∙ sym (entries_append lock before (happened cpu number state.next_ticket turn ∷ []))
    where
      entry : Entry
      entry = record { ticket = state.next_ticket; cpu = cpu; call = number; part = turn.part }

      by : (b : Bool) → cond b (state.logs lock ++ record { ticket = state.next_ticket; cpu = cpu; call = number; part = turn.part } ∷ []) (state.logs lock) ≡ entries_on lock before ++ cond b (record { ticket = state.next_ticket; cpu = cpu; call = number; part = turn.part } ∷ []) []
      by true = ap (λ (xs : List Entry). xs ++ record { ticket = state.next_ticket; cpu = cpu; call = number; part = turn.part } ∷ []) same
      by false = same ∙ sym (append-nil (entries_on lock before))

  all_logs : (cpu number : ℕ) (turns : List Turn) (state : State) (before : List Happened) → ((lock : DomainId) → IsTrue (is_lock shape lock) → state.logs lock ≡ entries_on lock before)
      → (lock : DomainId) → IsTrue (is_lock shape lock) → (all_turned shape cpu number turns state).logs lock ≡ entries_on lock (before ++ all_happened cpu number state.next_ticket turns)
  all_logs cpu number [] state before are lock real = are lock real ∙ ap (entries_on lock) (sym (append-nil before))
  all_logs cpu number (turn ∷ turns) state before are lock real =
      all_logs cpu number turns (turned shape cpu number turn state) (before ++ happened cpu number state.next_ticket turn ∷ []) (λ other is. one_log cpu number turn state before other (are other is)) lock real
      ∙ ap (entries_on lock) (append_assoc before (happened cpu number state.next_ticket turn ∷ []) (all_happened cpu number (suc state.next_ticket) turns))

  -- each turn names the end of its lock's log
  pub all_steps : (cpu number : ℕ) (turns : List Turn) (state : State) (before : List Happened) → OnLocks shape turns → ((lock : DomainId) → IsTrue (is_lock shape lock) → state.logs lock ≡ entries_on lock before)
      → steps_of_turns shape cpu number turns state ≡ steps_from before (all_happened cpu number state.next_ticket turns)
  all_steps cpu number [] state before real are = refl
  all_steps cpu number (turn ∷ turns) state before real are =
      let rest = all_steps cpu number turns (turned shape cpu number turn state) (before ++ happened cpu number state.next_ticket turn ∷ []) real.1 (λ other is. one_log cpu number turn state before other (are other is)) in
      (λ i. record { lock = turn.lock; index = length (are turn.lock real.0 i) } ∷ rest i)

  -- the spares
  one_spare : (cpu number : ℕ) (turn : Turn) (state : State) → (turned shape cpu number turn state).spares ≡ put state.spares cpu (spare_after_part (state.spares cpu) turn.part)
  one_spare cpu number turn state = chosen (is_lru shape.kind) plain
    where
      chosen : (b : Bool) → b ≡ false → cond b state.spares (put state.spares cpu (spare_after_part (state.spares cpu) turn.part)) ≡ put state.spares cpu (spare_after_part (state.spares cpu) turn.part)
      chosen true is = absurd cc
      chosen false is = refl

  own_spare : (cpu number : ℕ) (turns : List Turn) (state : State) → (all_turned shape cpu number turns state).spares cpu ≡ spare_after (state.spares cpu) turns
  own_spare cpu number [] state = refl
  own_spare cpu number (turn ∷ turns) state =
      own_spare cpu number turns (turned shape cpu number turn state)
      ∙ ap (λ (s : Option ℕ). spare_after s turns) (ap (λ (f : ℕ → Option ℕ). f cpu) (one_spare cpu number turn state) ∙ put_here state.spares cpu (spare_after_part (state.spares cpu) turn.part))

  put_apart : (f : ℕ → Option ℕ) (cpu other : ℕ) (s : Option ℕ) → other ≢ cpu → put f cpu s other ≡ f other
  unfolding put
  put_apart f cpu other s apart = by_test other cpu (λ b. cond b s (f other) ≡ f other) (λ same. absurd (apart same)) (λ no. refl)

  other_spare : (cpu number : ℕ) (turns : List Turn) (state : State) (other : ℕ) → other ≢ cpu → (all_turned shape cpu number turns state).spares other ≡ state.spares other
  other_spare cpu number [] state other apart = refl
  other_spare cpu number (turn ∷ turns) state other apart =
      other_spare cpu number turns (turned shape cpu number turn state) other apart
      ∙ ap (λ (f : ℕ → Option ℕ). f other) (one_spare cpu number turn state) ∙ put_apart state.spares cpu other (spare_after_part (state.spares cpu) turn.part) apart

  -- after turns that lead from lists to others
  pub follows_on : (lists after : Finals) (before : List Happened) (state : State) (number cpu : ℕ) (turns : List Turn) → Follows shape lists before state → Leads shape cpu turns lists after
      → Follows shape after (before ++ all_happened cpu number state.next_ticket turns) (all_turned shape cpu number turns state)
  follows_on lists after before state number cpu turns follows leads =
      let mine : List Happened = all_happened cpu number state.next_ticket turns in
      let logs = all_logs cpu number turns state before follows.logs in
      record {
        logs = logs;
        contents = λ lock real.
            ap (content shape lock) (logs lock real ∙ entries_append lock before mine)
            ∙ replayed_append shape (opening_content shape lock) (entries_on lock before) (entries_on lock mine)
            ∙ ap (λ (c : Content). replayed shape c (entries_on lock mine)) (ap (content shape lock) (sym (follows.logs lock real)) ∙ follows.contents lock real)
            ∙ call_replayed shape cpu number lock (content_under lists) state.next_ticket turns ∙ leads.leaves lock real;
        spares = λ c.
            by_test c cpu (λ b. (all_turned shape cpu number turns state).spares c ≡ spare_at after c)
            (λ same. ap (all_turned shape cpu number turns state).spares same ∙ own_spare cpu number turns state ∙ ap (λ (s : Option ℕ). spare_after s turns) (follows.spares cpu) ∙ leads.spare ∙ ap (spare_at after) (sym same))
            (λ apart. other_spare cpu number turns state c apart ∙ follows.spares c ∙ sym (leads.other_spares c apart));
      }
