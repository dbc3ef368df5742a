-- On a map that doesn't evict the record of a run in serial order is that of the run on plain lists: what the logs lead to is what
-- the lists are at the end, no bit is set, and there are no lists of the kinds that evict.
use Rattle.std.proofs.Common.{◌≡◌, ℕ, zero, suc, ◌+◌, ◌-◌, ◌<◌, ◌≤◌, Bool, true, false, not, ◌&&◌, cond, List, [], ◌∷◌, ◌++◌, length, map, take, drop, get_or, All, Option, Some, None, refl, ap, sym, ◌∙◌, arith}
use Rattle.std.specs.Prelude.{IsTrue, filter, slice_get, option_to_list, unwrap_or}
use Rattle.std.specs.List.{flat_map, range_with_len}
use Rattle.std.proofs.lemmas.Bool.{lt-ltb}
use Rattle.std.proofs.lemmas.List.Elements.{All-drop, All-take, recursion_from_All}
use Rattle.std.proofs.lemmas.List.FromFn.{fill_by_all}
use Rattle.map_types.specs.declared.attr.Shape.{Shape}
use Rattle.map_types.specs.declared.call.Call.{Call}
use Rattle.map_types.specs.declared.kind.DomainId.{DomainId}
use Rattle.map_types.specs.declared.kind.DomainId.TheVariants.{Local, Global, CpuLru, Bucket, Freelist}
use Rattle.map_types.specs.declared.kind.MapKind.{MapKind}
use Rattle.map_types.specs.declared.kind.MapKind.TheVariants.{Hash, PercpuHash, LruHash, LruPercpuHash}
use Rattle.map_types.specs.Kind.{is_lru}
use Rattle.map_types.specs.Shape.{HasBounds}
use Rattle.map_script.specs.declared.script.Script.{Script}
use Rattle.place_words.specs.declared.finals.Finals.{Finals}
use Rattle.place_words.specs.declared.history.Entry.{Entry}
use Rattle.place_words.specs.declared.history.LockHistory.{LockHistory}
use Rattle.place_words.specs.declared.history.Part.{Part}
use Rattle.place_words.specs.declared.history.Part.TheVariants as parts
use Rattle.place_words.specs.Buckets.{bucket_marks}
use Rattle.place_words.specs.Choices.{among, without_bits, with_bits}
use Rattle.place_words.specs.Histories.{Content, marks, clears, bucket_in, freelist_in}
use Rattle.place_words.specs.Locks.{is_lock, lock_named, lock_count}
use Rattle.place_words.specs.Logs.{State, turned, all_turned, does, after_one, new_state, run, bucket_at, freelist_at, where_lock, final_set, final_local, globals_at, own_at, locals_at, finals_of}
use Rattle.place_words.specs.Phases.{calls_before, of_phase, phase_count}
use Rattle.place_words.specs.Turns.{Turn}
use Rattle.map_report.specs.ListRuns.{lists_at, turns_before, turns_in, turns_of_script, serial_on_lists}
use Rattle.map_report.specs.Runs.{serial, start_of, state_before, strand_of_phase}
use Rattle.map_report.specs.Serial.{opening, lists_after, has_spares}
use Rattle.map_report.specs.Soundness.{IsSound}
use Rattle.map_report.specs.Turns.{Happened, entries_on, history_on, steps_from, strand_of_turns, turns_from}
use Rattle.serial_laws.specs.Served.{IsCallFor}
use Rattle.serial_laws.proofs.HistoryTurns.{by_bool}
use Rattle.serial_laws.proofs.LogLaws.{IsSameRun, first_follows, log_run, same_run}
use Rattle.serial_laws.proofs.OpeningTurns.{no_local, no_set, not_common}
use Rattle.serial_laws.proofs.SameCalls.{Follows}
use Rattle.serial_laws.proofs.SoundRun.{sound_end, sound_from_opening, sound_opening}
use Rattle.serial_laws.proofs.ListPlaces.{all_pass, made_same, none_pass}

-- Bits

abbrev SetsNone : State → Type 0
SetsNone state = (e : ℕ) → state.bits e ≡ false

no_marks : (shape : Shape) (part : Part) → is_lru shape.kind ≡ false → marks shape part ≡ []
no_marks shape (parts.Bucket part) plain = ap (λ (b : Bool). cond b (bucket_marks part) []) plain
no_marks shape (parts.Free part) plain = refl
no_marks shape (parts.Local part) plain = refl
no_marks shape (parts.Global part) plain = refl
no_marks shape (parts.Own part) plain = refl

none_cleared : (cleared : List ℕ) (bits : ℕ → Bool) (e : ℕ) → bits e ≡ false → without_bits cleared bits e ≡ false
none_cleared cleared bits e none = by (among cleared e)
  where
    by : (b : Bool) → cond b false (bits e) ≡ false
    by true = refl
    by false = none

-- no turn, and so no call, sets a bit
module _ (shape : Shape) (plain : is_lru shape.kind ≡ false) where
  turn_sets_none : (cpu number : ℕ) (turn : Turn) (state : State) → SetsNone state → SetsNone (turned shape cpu number turn state)
  turn_sets_none cpu number turn state none e =
      ap (λ (set : List ℕ). with_bits set (without_bits (clears turn.part) state.bits) e) (no_marks shape turn.part plain)
      ∙ none_cleared (clears turn.part) state.bits e (none e)

  turns_set_none : (cpu number : ℕ) (turns : List Turn) (state : State) → SetsNone state → SetsNone (all_turned shape cpu number turns state)
  turns_set_none cpu number [] state none = none
  turns_set_none cpu number (turn ∷ turns) state none = turns_set_none cpu number turns (turned shape cpu number turn state) (turn_sets_none cpu number turn state none)

  run_sets_none : (number : ℕ) (calls : List Call) (state : State) → SetsNone state → SetsNone (run shape number calls state)
  run_sets_none number [] state none = none
  run_sets_none number (call ∷ calls) state none =
      run_sets_none (suc number) calls (after_one shape number call state) (turns_set_none call.cpu number (does shape call.cpu number state call.verb).turns state none)

-- Lists at the end

-- what is told of locks that are all there, one for each of the list
told_each : {A : Type 0} (shape : Shape) (lock : ℕ → DomainId) (tell : ℕ → A) (xs : List A) (d : A) (n : ℕ) → length xs ≡ n
    → ((k : ℕ) → k < n → is_lock shape (lock k) ≡ true) → ((k : ℕ) → k < n → tell k ≡ get_or xs k d) → where_lock shape lock tell (range_with_len 0 n) ≡ xs
told_each shape lock tell xs d n count there each =
    ap (map tell) (all_pass (λ k. is_lock shape (lock k)) 0 n (λ k low high. there k (omega arith)))
    ∙ sym (fill_by_all tell xs n d count (λ k below. sym (each k below)))

told_none : {A : Type 0} (shape : Shape) (lock : ℕ → DomainId) (tell : ℕ → A) (n : ℕ) → ((k : ℕ) → is_lock shape (lock k) ≡ false) → where_lock shape lock tell (range_with_len 0 n) ≡ []
told_none shape lock tell n gone = ap (map tell) (none_pass (λ k. is_lock shape (lock k)) 0 n (λ k low high. gone k))

spares_from : (spares : ℕ → Option ℕ) (xs : List ℕ) (a n : ℕ) → length xs ≤ n → ((k : ℕ) → spares (a + k) ≡ slice_get xs k)
    → flat_map (λ cpu. option_to_list (spares cpu)) (range_with_len a n) ≡ xs
spares_from spares [] a zero few each = refl
spares_from spares (x ∷ xs) a zero few each = absurd (omega arith)
spares_from spares [] a (suc n) few each =
    let first : a ≡ a + 0 = omega arith in
    let here : spares a ≡ None = ap spares first ∙ each 0 in
    let rest = spares_from spares [] (a + 1) n (omega arith) (λ k. let next : a + 1 + k ≡ a + suc k = omega arith in ap spares next ∙ each (suc k)) in
    λ i. option_to_list (here i) ++ rest i
spares_from spares (x ∷ xs) a (suc n) few each =
    let first : a ≡ a + 0 = omega arith in
    let here : spares a ≡ Some x = ap spares first ∙ each 0 in
    let rest = spares_from spares xs (a + 1) n (omega arith) (λ k. let next : a + 1 + k ≡ a + suc k = omega arith in ap spares next ∙ each (suc k)) in
    λ i. option_to_list (here i) ++ rest i

-- there is a spare for each CPU, or none
few_spares : (kind : MapKind) (n cpus : ℕ) → n ≡ cond (has_spares kind) cpus 0 → n ≤ cpus
few_spares Hash n cpus is = omega arith
few_spares PercpuHash n cpus is = omega arith
few_spares LruHash n cpus is = omega arith
few_spares LruPercpuHash n cpus is = omega arith

module _ (shape : Shape) (lists : Finals) (turns : List Happened) (state : State) (bounds : HasBounds shape) (plain : is_lru shape.kind ≡ false) (sound : IsSound shape lists) (follows : Follows shape lists turns state) where
  same_buckets : where_lock shape Bucket (bucket_at shape state) (range_with_len 0 shape.buckets) ≡ lists.buckets
  same_buckets =
      let there = λ (bucket : ℕ) (below : bucket < shape.buckets). lt-ltb bucket shape.buckets below in
      told_each shape Bucket (bucket_at shape state) lists.buckets [] shape.buckets sound.lengths.buckets there
      (λ bucket below. ap (λ (c : Content). unwrap_or (bucket_in c) []) (follows.contents (Bucket bucket) (there bucket below)))

  same_freelists : where_lock shape Freelist (freelist_at shape state) (range_with_len 0 shape.cpus) ≡ lists.freelists
  same_freelists =
      let there : (cpu : ℕ) → cpu < shape.cpus → is_lock shape (Freelist cpu) ≡ true = λ cpu below. (λ i. not (plain i) && lt-ltb cpu shape.cpus below i) in
      told_each shape Freelist (freelist_at shape state) lists.freelists [] shape.cpus sound.lengths.freelists there
      (λ cpu below. ap (λ (c : Content). unwrap_or (freelist_in c) []) (follows.contents (Freelist cpu) (there cpu below)))

  same_spares : flat_map (λ cpu. option_to_list (state.spares cpu)) (range_with_len 0 shape.cpus) ≡ lists.spares
  same_spares = spares_from state.spares lists.spares 0 shape.cpus (few_spares shape.kind (length lists.spares) shape.cpus sound.lengths.spares)
      (λ cpu. let same : 0 + cpu ≡ cpu = omega arith in ap state.spares same ∙ follows.spares cpu)

  same_finals : SetsNone state → finals_of shape state ≡ lists
  unfolding finals_of
  same_finals none =
      let global = told_none shape (λ one. Global) (λ one. final_set (globals_at shape state)) 1 (λ one. not_common shape bounds plain) in
      let own = told_none shape CpuLru (λ cpu. final_set (own_at shape state cpu)) shape.cpus (λ cpu. no_set shape cpu plain) in
      let locals = told_none shape Local (λ cpu. final_local (locals_at shape state cpu)) shape.cpus (λ cpu. no_local shape cpu (not_common shape bounds plain)) in
      let sets = (λ i. global i ++ own i) ∙ sym sound.no_lru_lists.sets in
      let all_locals = locals ∙ sym sound.no_lru_lists.locals in
      let marked = none_pass state.bits 0 shape.elements (λ e low high. none e) ∙ sym sound.no_lru_lists.marked in
      λ i. record { buckets = same_buckets i; freelists = same_freelists i; spares = same_spares i; sets = sets i; locals = all_locals i; marked = marked i }

-- Histories

abbrev history_by : (DomainId → List Entry) → DomainId → LockHistory
history_by logs lock = record { lock = lock; entries = logs lock }

same_histories : (shape : Shape) (turns : List Happened) (logs : DomainId → List Entry) → ((lock : DomainId) → IsTrue (is_lock shape lock) → logs lock ≡ entries_on lock turns) → (numbers : List ℕ)
    → map (history_by logs) (map (lock_named shape) (filter (λ k. is_lock shape (lock_named shape k)) numbers)) ≡ map (history_on shape turns) (filter (λ k. is_lock shape (lock_named shape k)) numbers)
same_histories shape turns logs same [] = refl
same_histories shape turns logs same (k ∷ numbers) =
    let others : List ℕ = filter (λ k. is_lock shape (lock_named shape k)) numbers in
    let rest = same_histories shape turns logs same numbers in
    by_bool (is_lock shape (lock_named shape k))
    (λ b. map (history_by logs) (map (lock_named shape) (cond b (k ∷ others) others)) ≡ map (history_on shape turns) (cond b (k ∷ others) others))
    (λ real. λ i. record { lock = lock_named shape k; entries = same (lock_named shape k) real i } ∷ rest i)
    (λ unreal. rest)

-- Phase by phase

module _ (script : Script) (bounds : HasBounds script.shape) (are : All (IsCallFor script.shape) script.calls) (plain : is_lru script.shape.kind ≡ false) (p : ℕ) where
  abbrev first : ℕ
  first = calls_before script.cuts (length script.calls) p

  same_before : IsSameRun script.shape bounds plain (opening script.shape) [] 1 (take first script.calls) (new_state script.shape)
  same_before =
      same_run script.shape bounds plain (take first script.calls) (opening script.shape) [] 1 (new_state script.shape)
      (recursion_from_All (IsCallFor script.shape) (take first script.calls) (All-take (IsCallFor script.shape) first script.calls are)) (sound_opening script.shape bounds plain) (first_follows script.shape bounds plain)

  ticket_is : (state_before script p).next_ticket ≡ length (turns_before script p)
  ticket_is = same_before.tickets ∙ (let sum : 0 + length (turns_before script p) ≡ length (turns_before script p) = omega arith in sum)

  same_in : IsSameRun script.shape bounds plain (lists_at script p) (turns_before script p) (suc first) (of_phase script.cuts p script.calls) (state_before script p)
  same_in =
      let mine : List Call = of_phase script.cuts p script.calls in
      let on_map = All-take (IsCallFor script.shape) (calls_before script.cuts (length script.calls) (suc p) - first) (drop first script.calls) (All-drop (IsCallFor script.shape) first script.calls are) in
      same_run script.shape bounds plain mine (lists_at script p) (turns_before script p) (suc first) (state_before script p)
      (recursion_from_All (IsCallFor script.shape) mine on_map) (sound_from_opening script.shape (take first script.calls) bounds plain (All-take (IsCallFor script.shape) first script.calls are)) same_before.follows

  strand_is : strand_of_phase script p ≡ strand_of_turns script.shape p (turns_before script p) (turns_in script p)
  strand_is =
      let steps = same_in.steps ∙ ap (λ (n : ℕ). steps_from (turns_before script p) (turns_from script.shape (lists_at script p) n (suc first) (of_phase script.cuts p script.calls))) ticket_is in
      λ i. record { phase = p; cpus = range_with_len 0 script.shape.cpus; steps = steps i }

  start_is : start_of script.shape (state_before script p) ≡ record { ticket = length (turns_before script p); marked = [] }
  start_is =
      let none = run_sets_none script.shape plain 1 (take first script.calls) (new_state script.shape) (λ e. refl) in
      let marked = none_pass (state_before script p).bits 0 script.shape.elements (λ e low high. none e) in
      λ i. record { ticket = ticket_is i; marked = marked i }

-- The record

pub one_record : (script : Script) → HasBounds script.shape → All (IsCallFor script.shape) script.calls → is_lru script.shape.kind ≡ false → serial script ≡ serial_on_lists script
unfolding serial serial_on_lists
one_record script bounds are plain =
    let shape : Shape = script.shape in
    let turns : List Happened = turns_of_script script in
    let lists : Finals = lists_after shape (opening shape) script.calls in
    let state : State = run shape 1 script.calls (new_state shape) in
    let same = log_run script bounds are plain in
    let histories = same_histories shape turns state.logs same.follows.logs (range_with_len 0 (lock_count shape)) in
    let finals = same_finals shape lists turns state bounds plain (sound_end script bounds are plain) same.follows (run_sets_none shape plain 1 script.calls (new_state shape) (λ e. refl)) in
    let strands = made_same (strand_of_phase script) (λ (p : ℕ). strand_of_turns shape p (turns_before script p) (turns_in script p)) 0 (phase_count script.cuts) (λ p _ _. strand_is script bounds are plain p) in
    let phases = made_same (λ (p : ℕ). start_of shape (state_before script p)) (λ (p : ℕ). record { ticket = length (turns_before script p); marked = [] }) 0 (phase_count script.cuts) (λ p _ _. start_is script bounds are plain p) in
    λ i. record {
      replies = same.replies i;
      histories = histories i;
      strands = strands i;
      finals = finals i;
      phases = phases i;
    }
