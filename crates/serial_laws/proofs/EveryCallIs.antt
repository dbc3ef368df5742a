-- What a call of any verb does is determined by its trace, on a map of any kind whose calls on one key and whose walks are: its turns
-- and its reply are those of a run in serial order.
use Rattle.std.proofs.Common.{◌≡◌, ℕ, suc, Bool, true, false, eqb, List, [], ◌∷◌, sym, subst}
use Rattle.std.specs.Prelude.{Option, None, Some, MatchBool, MatchOption}
use Rattle.map_types.specs.declared.attr.Shape.{Shape}
use Rattle.map_types.specs.declared.call.Verb.{Verb}
use Rattle.map_types.specs.declared.call.Verb.TheVariants as verbs
use Rattle.map_types.specs.declared.reply.Reply.{Reply}
use Rattle.map_types.specs.Kind.{is_lru}
use Rattle.place_words.specs.Logs.{State, lies_in, key_does, does}
use Rattle.place_words.specs.Traces.{IsTrace}
use Rattle.place_words.specs.Turns.{Turn, TurnAt}
use Rattle.place_words.specs.Walks.{IsKeyTrace, spare_left, refused_with, Writes, IsWriteBatch, updates_of, deletes_of}
use Rattle.place_words.proofs.EvictingDone.{IsAtRest, key_served}
use Rattle.place_words.proofs.PlacedContents.{lies_after_all}
use Rattle.place_words.proofs.PlainlyDone.{updates_served, deletes_served}
use Rattle.place_words.proofs.Supplies.{Supplies}
use Rattle.serial_laws.proofs.BatchReadIs.{DecidesWalks, read_is, plain_walks, evicting_walks}
use Rattle.serial_laws.proofs.BatchWriteIs.{write_is}
use Rattle.serial_laws.proofs.CallIs.{first_of, key_is}
use Rattle.serial_laws.proofs.Decides.{Decides}
use Rattle.serial_laws.proofs.EachIs.{each_is}
use Rattle.serial_laws.proofs.KeyCalls.{IsAs, DecidesKeys}
use Rattle.serial_laws.proofs.NextIs.{next_is}
use Rattle.serial_laws.proofs.TurnsMade.{AreMade, EachTurn}

module _ (Fact : State → Turn → Type 0) (shape : Shape) (cpu number : ℕ) (Good AtWalks : State → Type 0) (keys : DecidesKeys Fact shape cpu Good) (walks : DecidesWalks Fact shape cpu AtWalks)
    (state : State) (good : Good state) (at_walks : AtWalks state) (turns : List TurnAt) (reply : Reply) (made : AreMade shape cpu number turns state) (each : EachTurn Fact shape cpu number turns state) where
  pub call_is : (verb : Verb) → IsTrace shape cpu (state.spares cpu) verb turns reply → IsAs (does shape cpu number state verb) turns reply
  unfolding does
  call_is (verbs.Lookup side key) trace = keys.key_is number state (verbs.Lookup side key) turns reply good tt trace made each
  call_is (verbs.Update side flags key value) trace = keys.key_is number state (verbs.Update side flags key value) turns reply good tt trace made each
  call_is (verbs.Delete key) trace = keys.key_is number state (verbs.Delete key) turns reply good tt trace made each
  call_is (verbs.Take key) trace = keys.key_is number state (verbs.Take key) turns reply good tt trace made each
  call_is (verbs.Next key) trace = next_is shape cpu number state key turns reply trace made
  call_is (verbs.BatchRead remove count start flags) trace = read_is Fact shape cpu number AtWalks walks state at_walks remove count start flags turns reply trace made each
  call_is (verbs.BatchUpdate flags pairs) trace = write_is Fact shape cpu number Good keys state good flags (updates_of pairs) (updates_served pairs) turns reply trace made each
  call_is (verbs.BatchDelete flags keys_told) trace = write_is Fact shape cpu number Good keys state good flags (deletes_of keys_told) (deletes_served keys_told) turns reply trace made each
  call_is (verbs.Each flags stop) trace = each_is shape cpu number state flags stop turns reply trace made

-- On a map that evicts a trace is one on a CPU with any spare

module _ (shape : Shape) (cpu : ℕ) (lru : is_lru shape.kind ≡ true) where
  key_any : (spare other : Option ℕ) (verb : Verb) (turns : List TurnAt) (reply : Reply) → IsKeyTrace shape cpu spare verb turns reply → IsKeyTrace shape cpu other verb turns reply
  key_any spare other verb turns reply trace = by (is_lru shape.kind) lru _ _ _ trace
    where
      by : (b : Bool) → b ≡ true → (A B C : Type 0) → MatchBool b A B → MatchBool b A C
      by true is A B C it = it
      by false is A B C it = absurd cc

  writes_any : (entries : List Verb) (spare other : Option ℕ) (done : ℕ) (turns : List TurnAt) (reply : Reply) → Writes shape cpu spare entries done turns reply → Writes shape cpu other entries done turns reply
  writes_any [] spare other done turns reply trace = trace
  writes_any (entry ∷ entries) spare other done turns reply trace = (
    trace.0,
    trace.1,
    trace.2,
    (
      trace.3.0,
      key_any spare other entry trace.1 trace.0 trace.3.1,
      on_none (refused_with trace.0) _ _ _ (λ later. writes_any entries (spare_left shape spare trace.1) (spare_left shape other trace.1) (suc done) trace.2 reply later) trace.3.2,
    ),
  )
    where
      on_none : {E : Type 0} (o : Option E) (A B : Type 0) (C : E → Type 0) → (A → B) → MatchOption o A C → MatchOption o B C
      on_none None A B C f it = f it
      on_none (Some e) A B C f it = it

  batch_any : (spare other : Option ℕ) (flags : ℕ) (entries : List Verb) (turns : List TurnAt) (reply : Reply) → IsWriteBatch shape cpu spare flags entries turns reply → IsWriteBatch shape cpu other flags entries turns reply
  batch_any spare other flags entries turns reply trace = by (eqb flags 0) _ _ _ (writes_any entries spare other 0 turns reply) trace
    where
      by : (b : Bool) (A B C : Type 0) → (A → B) → MatchBool b A C → MatchBool b B C
      by true A B C f it = f it
      by false A B C f it = it

  pub any_spare : (spare other : Option ℕ) (verb : Verb) (turns : List TurnAt) (reply : Reply) → IsTrace shape cpu spare verb turns reply → IsTrace shape cpu other verb turns reply
  any_spare spare other (verbs.Lookup side key) turns reply trace = key_any spare other (verbs.Lookup side key) turns reply trace
  any_spare spare other (verbs.Update side flags key value) turns reply trace = key_any spare other (verbs.Update side flags key value) turns reply trace
  any_spare spare other (verbs.Delete key) turns reply trace = key_any spare other (verbs.Delete key) turns reply trace
  any_spare spare other (verbs.Take key) turns reply trace = key_any spare other (verbs.Take key) turns reply trace
  any_spare spare other (verbs.Next key) turns reply trace = trace
  any_spare spare other (verbs.BatchRead remove count start flags) turns reply trace = trace
  any_spare spare other (verbs.BatchUpdate flags pairs) turns reply trace = batch_any spare other flags (updates_of pairs) turns reply trace
  any_spare spare other (verbs.BatchDelete flags keys) turns reply trace = batch_any spare other flags (deletes_of keys) turns reply trace
  any_spare spare other (verbs.Each flags stop) turns reply trace = trace

-- A map that evicts

module _ (Fact : State → Turn → Type 0) (shape : Shape) (cpu : ℕ) (supplies : Supplies shape cpu) (decides : Decides Fact shape cpu) (lru : is_lru shape.kind ≡ true) where
  pub evicting_keys : DecidesKeys Fact shape cpu (λ state. IsAtRest shape (lies_in shape state))
  evicting_keys = record {
    key_is = λ number state verb turns reply rests is trace made each.
        key_is Fact shape cpu number supplies decides state rests lru turns reply made each verb is (first_of (is_lru shape.kind) _ _ lru trace);
    stays = λ number state verb rests is.
        subst (IsAtRest shape) (sym (lies_after_all shape cpu number (key_does shape cpu number state verb).turns state)) (key_served shape cpu number supplies state rests lru verb is).settled;
  }

  -- every call on it, between calls
  pub evicting_call_is : (number : ℕ) (state : State) → IsAtRest shape (lies_in shape state) → (spare : Option ℕ) (verb : Verb) (turns : List TurnAt) (reply : Reply) → IsTrace shape cpu spare verb turns reply
      → AreMade shape cpu number turns state → EachTurn Fact shape cpu number turns state → IsAs (does shape cpu number state verb) turns reply
  evicting_call_is number state rests spare verb turns reply trace made each =
      call_is Fact shape cpu number (λ now. IsAtRest shape (lies_in shape now)) (λ now. IsAtRest shape (lies_in shape now)) evicting_keys (evicting_walks Fact shape cpu supplies decides lru) state rests rests turns reply made each verb
      (any_spare shape cpu lru spare (state.spares cpu) verb turns reply trace)

-- A map that doesn't evict: of its walks nothing is asked

pub plain_call_is : (Fact : State → Turn → Type 0) (shape : Shape) (cpu number : ℕ) (Good : State → Type 0) → is_lru shape.kind ≡ false → DecidesKeys Fact shape cpu Good → (state : State) → Good state → (verb : Verb) (turns : List TurnAt) (reply : Reply)
    → IsTrace shape cpu (state.spares cpu) verb turns reply → AreMade shape cpu number turns state → EachTurn Fact shape cpu number turns state → IsAs (does shape cpu number state verb) turns reply
plain_call_is Fact shape cpu number Good plain keys state good verb turns reply trace made each =
    call_is Fact shape cpu number Good (λ now. Unit {0}) keys (plain_walks Fact shape cpu plain) state good tt turns reply made each verb trace
