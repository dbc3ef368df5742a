-- On a map that doesn't evict a serial run by logs is the run on plain lists: it has the same replies, the same turns under each
-- lock, and the same steps, and what lies under the locks at the end is what the lists are then.
use Rattle.std.proofs.Common.{◌≡◌, ℕ, suc, ◌<◌, false, List, [], ◌∷◌, ◌++◌, length, take, All, refl, ap, sym, ◌∙◌, subst, append_assoc, ◌+◌, arith}
use Rattle.std.specs.Prelude.{slice_get, unwrap_or}
use Rattle.std.specs.List.{AllByRecursion}
use Rattle.std.proofs.lemmas.Bool.{lt-ltb}
use Rattle.std.proofs.lemmas.List.{append-nil, length-append}
use Rattle.std.proofs.lemmas.List.Elements.{recursion_from_All, All-take}
use Rattle.map_types.specs.declared.attr.Shape.{Shape}
use Rattle.map_types.specs.declared.call.Call.{Call}
use Rattle.map_types.specs.declared.kind.DomainId.TheVariants.{Bucket}
use Rattle.map_types.specs.declared.kind.MapKind.{MapKind}
use Rattle.map_types.specs.declared.kind.MapKind.TheVariants.{Hash, PercpuHash, LruHash, LruPercpuHash}
use Rattle.map_types.specs.declared.reply.Reply.{Reply}
use Rattle.map_types.specs.Kind.{is_lru}
use Rattle.map_types.specs.Shape.{HasBounds}
use Rattle.serial_laws.specs.Served.{IsCallFor}
use Rattle.map_script.specs.declared.script.Script.{Script}
use Rattle.place_words.specs.declared.finals.Finals.{Finals}
use Rattle.place_words.specs.declared.history.StrandStep.{StrandStep}
use Rattle.place_words.specs.Histories.{Content, bucket_in, replayed}
use Rattle.place_words.specs.Logs.{State, all_turned, after_one, new_state, run, answers}
use Rattle.place_words.specs.Openings.{first_spares}
use Rattle.place_words.specs.Turns.{Turn}
use Rattle.place_words.proofs.AnyStart.{tickets_after}
use Rattle.map_report.specs.Runs.{steps_of_turns, steps_of_calls}
use Rattle.map_report.specs.Serial.{opening, in_bucket_at, after_call, replies_from, lists_after}
use Rattle.map_report.specs.Soundness.{IsSound}
use Rattle.map_report.specs.Turns.{Happened, all_happened, call_turns, turns_from, entries_on, steps_from}
use Rattle.serial_laws.specs.Laws.{lists_before}
use Rattle.serial_laws.specs.WalkLaws.{buckets_before}
use Rattle.serial_laws.proofs.OpeningTurns.{opening_lies, opening_spares_are, no_opening_spares}
use Rattle.serial_laws.proofs.SameBatches.{call_same}
use Rattle.serial_laws.proofs.SameCalls.{Follows, all_steps, follows_on}
use Rattle.serial_laws.proofs.SoundRun.{sound_opening, sound_step}

-- Steps of turns, and then of others
pub steps_append : (before first second : List Happened) → steps_from before (first ++ second) ≡ steps_from before first ++ steps_from (before ++ first) second
steps_append before [] second = ap (λ (l : List Happened). steps_from l second) (sym (append-nil before))
steps_append before (turn ∷ first) second =
    let step : StrandStep = record { lock = turn.0; index = length (entries_on turn.0 before) } in
    ap (λ (l : List StrandStep). step ∷ l) (steps_append (before ++ turn ∷ []) first second
    ∙ ap (λ (l : List Happened). steps_from (before ++ turn ∷ []) first ++ steps_from l second) (append_assoc before (turn ∷ []) first))

happened_long : (cpu number ticket : ℕ) (turns : List Turn) → length (all_happened cpu number ticket turns) ≡ length turns
happened_long cpu number ticket [] = refl
happened_long cpu number ticket (turn ∷ turns) = ap suc (happened_long cpu number (suc ticket) turns)

module _ (shape : Shape) (bounds : HasBounds shape) (built : is_lru shape.kind ≡ false) where
  -- What a run by logs is, from some point on.
  pub record IsSameRun (lists : Finals) (before : List Happened) (number : ℕ) (calls : List Call) (state : State) : Type 0 where
    pub replies : answers shape number calls state ≡ replies_from shape lists calls
    pub steps : steps_of_calls shape number calls state ≡ steps_from before (turns_from shape lists state.next_ticket number calls)
    pub tickets : (run shape number calls state).next_ticket ≡ state.next_ticket + length (turns_from shape lists state.next_ticket number calls)
    pub follows : Follows shape (lists_after shape lists calls) (before ++ turns_from shape lists state.next_ticket number calls) (run shape number calls state)

  pub same_run : (calls : List Call) (lists : Finals) (before : List Happened) (number : ℕ) (state : State) → AllByRecursion (IsCallFor shape) calls → IsSound shape lists → Follows shape lists before state → IsSameRun lists before number calls state
  same_run [] lists before number state are sound follows = record { replies = refl; steps = refl; tickets = omega arith; follows = subst (λ (turns : List Happened). Follows shape lists turns state) (sym (append-nil before)) follows }
  same_run (call ∷ calls) lists before number state are sound follows =
      let same = call_same shape bounds built call.cpu number are.0.cpu lists before state call.verb are.0.sizes follows sound in
      let turns : List Turn = call_turns shape call.cpu call.verb lists in
      let next : Finals = (after_call shape call.cpu call.verb lists).0 in
      let mine : List Happened = all_happened call.cpu number state.next_ticket turns in
      let others : List Happened = turns_from shape next (state.next_ticket + length turns) (suc number) calls in
      let counted = tickets_after shape call.cpu number turns state in
      let goes : after_one shape number call state ≡ all_turned shape call.cpu number turns state = ap (λ (ts : List Turn). all_turned shape call.cpu number ts state) same.turns_are in
      let rest = same_run calls next (before ++ mine) (suc number) (all_turned shape call.cpu number turns state) are.1 (sound_step shape call lists bounds built are.0 sound)
      (follows_on shape bounds built lists next before state number call.cpu turns follows same.leads) in
      record {
        replies = (λ i. same.reply_is i ∷ answers shape (suc number) calls (goes i)) ∙ ap (λ (rs : List Reply). (after_call shape call.cpu call.verb lists).1 ∷ rs) rest.replies;
        steps = (λ i. steps_of_turns shape call.cpu number (same.turns_are i) state ++ steps_of_calls shape (suc number) calls (goes i))
            ∙ (λ i. all_steps shape bounds built call.cpu number turns state before same.leads.on_locks follows.logs i ++ (rest.steps ∙ ap (λ (n : ℕ). steps_from (before ++ mine) (turns_from shape next n (suc number) calls)) counted) i)
            ∙ sym (steps_append before mine others);
        tickets = ap (λ (s : State). (run shape (suc number) calls s).next_ticket) goes ∙ rest.tickets
            ∙ (λ i. counted i + length (turns_from shape next (counted i) (suc number) calls))
            ∙ (let long : length (mine ++ others) ≡ length turns + length others = length-append mine others ∙ ap (λ (n : ℕ). n + length others) (happened_long call.cpu number state.next_ticket turns) in
            let sum : state.next_ticket + length turns + length others ≡ state.next_ticket + length (mine ++ others) = omega (arith, long) in
            sum);
        follows = subst (λ (s : State). Follows shape (lists_after shape next calls) (before ++ (mine ++ others)) (run shape (suc number) calls s)) (sym goes)
            (subst (λ (ts : List Happened). Follows shape (lists_after shape next calls) ts (run shape (suc number) calls (all_turned shape call.cpu number turns state))) (append_assoc before mine others) (subst (λ (n : ℕ). Follows shape (lists_after shape next calls) ((before ++ mine) ++ turns_from shape next n (suc number) calls) (run shape (suc number) calls (all_turned shape call.cpu number turns state))) counted rest.follows));
      }

  -- a new map
  pub first_follows : Follows shape (opening shape) [] (new_state shape)
  unfolding replayed
  first_follows = record {
    logs = λ lock real. refl;
    contents = λ lock real. sym (opening_lies shape bounds built lock real);
    spares = λ cpu. ap (λ (l : List ℕ). slice_get l cpu) (by_kind shape.kind refl built);
  }
    where
      by_kind : (kind : MapKind) → shape.kind ≡ kind → is_lru kind ≡ false → first_spares shape kind ≡ (opening shape).spares
      by_kind Hash is built = sym (opening_spares_are shape bounds is)
      by_kind PercpuHash is built = sym (no_opening_spares shape is)
      by_kind LruHash is built = absurd cc
      by_kind LruPercpuHash is built = absurd cc

-- of a script
pub log_run : (script : Script) → (bounds : HasBounds script.shape) → All (IsCallFor script.shape) script.calls → (plain : is_lru script.shape.kind ≡ false) → IsSameRun script.shape bounds plain (opening script.shape) [] 1 script.calls (new_state script.shape)
log_run script bounds are plain =
    same_run script.shape bounds plain script.calls (opening script.shape) [] 1 (new_state script.shape) (recursion_from_All (IsCallFor script.shape) script.calls are) (sound_opening script.shape bounds plain)
    (first_follows script.shape bounds plain)

-- Before each call what lies in the buckets by the logs is what lies there on the lists.
pub buckets_run : (script : Script) → HasBounds script.shape → All (IsCallFor script.shape) script.calls → is_lru script.shape.kind ≡ false
    → (n bucket : ℕ) → bucket < script.shape.buckets → buckets_before script n bucket ≡ in_bucket_at (lists_before script n) bucket
buckets_run script bounds are plain n bucket below =
    let shape : Shape = script.shape in
    let calls : List Call = take n script.calls in
    let same = same_run shape bounds plain calls (opening shape) [] 1 (new_state shape) (recursion_from_All (IsCallFor shape) calls (All-take (IsCallFor shape) n script.calls are)) (sound_opening shape bounds plain) (first_follows shape bounds plain) in
    ap (λ (c : Content). unwrap_or (bucket_in c) []) (same.follows.contents (Bucket bucket) (lt-ltb bucket shape.buckets below))
