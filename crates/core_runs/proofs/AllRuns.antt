-- Every run in serial order, of a map of any kind and of calls of any kind, is a run of the core.
use Rattle.std.proofs.Common.{◌≡◌, ℕ, suc, ◌+◌, ◌<◌, Bool, true, false, eqb, List, [], ◌∷◌, ◌++◌, map, Option, None, Some, refl, ap, ◌∙◌, sym, subst}
use Rattle.std.specs.Prelude.{MatchBool, MatchOption, unwrap_or, min, nat_lt}
use Rattle.std.proofs.lemmas.List.{append_assoc}
use Rattle.map_types.specs.declared.attr.Shape.{Shape}
use Rattle.map_types.specs.declared.call.Call.{Call}
use Rattle.map_types.specs.declared.call.Verb.{Verb}
use Rattle.map_types.specs.declared.call.Verb.TheVariants as verbs
use Rattle.map_types.specs.declared.kind.DomainId.{DomainId}
use Rattle.map_types.specs.declared.reply.Reply.{Reply}
use Rattle.map_types.specs.declared.reply.Reply.TheVariants.{Done, Refused, Value}
use Rattle.map_types.specs.declared.refusal.Errno.TheVariants.{Enoent, Einval}
use Rattle.map_types.specs.Kind.{is_lru}
use Rattle.map_types.specs.Shape.{HasBounds}
use Rattle.map_types.specs.ElementLists.{put}
use Rattle.place_words.specs.Handing.{Callback, AfterHanding, HandsOverBuckets, IsHandingTrace, StopsAt}
use Rattle.place_words.specs.declared.bucket_part.NextFound.{NextFound}
use Rattle.place_words.specs.declared.bucket_part.NextFound.TheVariants as nexts
use Rattle.place_words.specs.declared.bucket_part.Walked.{Walked}
use Rattle.place_words.specs.declared.bucket_part.Walked.TheVariants.{Over, Taken}
use Rattle.place_words.specs.Histories.{Content}
use Rattle.place_words.specs.Logs.{State, lies_in, placed, does, after_one, run}
use Rattle.place_words.specs.PlainTraces.{spare_after}
use Rattle.place_words.specs.SerialOrder.{AreDone}
use Rattle.place_words.specs.Traces.{IsTrace}
use Rattle.place_words.specs.Turns.{Turn, TurnAt, turns_of, after_turns, AreAllowed, bucket_of_key}
use Rattle.place_words.specs.Walks.{Firsts, GoesOn, IsNextTrace, Walks, AfterWalk, Writes, buckets_from, walked_out, pair_of, updates_of, deletes_of}
use Rattle.place_words.proofs.EachTurn.{buckets_within}
use Rattle.place_words.proofs.PlacedContents.{lies_after_all}
use Rattle.place_words.proofs.PlacedLaws.{placed_turns}
use Rattle.place_words.specs.Interleaving.{Drawn, interleaved, AreEnabled}
use Rattle.core_runs.proofs.BatchCalls.{write_goes, spare_both, same_spare, plain_writes_go, plain_walks_go}
use Rattle.core_runs.proofs.Chases.{turns_split}
use Rattle.core_runs.proofs.EvictingCalls.{Supplies, own_supplies, shared_supplies, evicting_goes, first_one, second}
use Rattle.core_runs.proofs.CallTurns.{drawn_calls, behind_call, allowed_of_legal, any_cpu}
use Rattle.core_runs.proofs.Nests.{AreFrom, stamped}
use Rattle.core_runs.proofs.OwnCalls.{AreFine, Nobody}
use Rattle.core_runs.proofs.PlainCalls.{goes_weaker, key_goes}
use Rattle.core_runs.proofs.PlainGoes.{Goes, goes_none, AreSpares, pushing}
use Rattle.core_runs.proofs.PlainRuns.{core_lists}
use Rattle.core_runs.proofs.SharedCalls.{AreOnLocks}
use Rattle.core_runs.proofs.Tied.{IsTied}
use Rattle.core_runs.proofs.WalkCalls.{next_goes, read_goes, each_goes}

abbrev pub AreServed : Shape → List Call → Type 0
AreServed shape [] = Unit {0}
AreServed shape (call ∷ calls) = (call.cpu < shape.cpus) × AreServed shape calls

-- No turn of the calls finds an element in a hand, and each is of a lock that the map has.
abbrev pub AreClean : Shape → ℕ → List Call → State → Type 0
AreClean shape number [] state = Unit {0}
AreClean shape number (call ∷ calls) state =
    (AreFine (does shape call.cpu number state call.verb).turns × AreOnLocks shape (does shape call.cpu number state call.verb).turns) × AreClean shape (suc number) calls (after_one shape number call state)

-- A map that evicts
module _ {shape : Shape} (bounds : HasBounds shape) (lru : is_lru shape.kind ≡ true) where
  supplies : (cpu : ℕ) → cpu < shape.cpus → Supplies shape cpu
  supplies cpu within = by shape.common refl
    where
      by : (b : Bool) → shape.common ≡ b → Supplies shape cpu
      by true is = shared_supplies bounds lru is within
      by false is = own_supplies bounds lru is within

  call_goes : (cpu : ℕ) (within : cpu < shape.cpus) (number : ℕ) (spare : Option ℕ) (verb : Verb) (turns : List Turn) (state : State) (reply : Reply) → IsTrace shape cpu spare verb (placed shape cpu number turns state) reply
      → AreFine turns → AreOnLocks shape turns → AreAllowed shape cpu (lies_in shape state) turns → Goes shape cpu (lies_in shape state) Nobody turns Nobody
  call_goes cpu within number spare (verbs.Lookup side key) turns state reply trace fine on allowed = evicting_goes bounds lru within (supplies cpu within) number (verbs.Lookup side key) turns state reply (first_one _ _ (is_lru shape.kind) lru trace) fine on allowed
  call_goes cpu within number spare (verbs.Update side flags key value) turns state reply trace fine on allowed = evicting_goes bounds lru within (supplies cpu within) number (verbs.Update side flags key value) turns state reply (first_one _ _ (is_lru shape.kind) lru trace) fine on allowed
  call_goes cpu within number spare (verbs.Delete key) turns state reply trace fine on allowed = evicting_goes bounds lru within (supplies cpu within) number (verbs.Delete key) turns state reply (first_one _ _ (is_lru shape.kind) lru trace) fine on allowed
  call_goes cpu within number spare (verbs.Take key) turns state reply trace fine on allowed = evicting_goes bounds lru within (supplies cpu within) number (verbs.Take key) turns state reply (first_one _ _ (is_lru shape.kind) lru trace) fine on allowed
  call_goes cpu within number spare (verbs.Next key) turns state reply trace fine on allowed =
      next_goes bounds within Nobody key turns reply (lies_in shape state) (subst (λ (l : List Turn). IsNextTrace shape key l reply) (placed_turns shape cpu number turns state) trace) allowed
  call_goes cpu within number spare (verbs.BatchRead remove count start flags) turns state reply trace fine on allowed =
      let are = placed_turns shape cpu number turns state in
      subst (λ (l : List Turn). Goes shape cpu (lies_in shape state) Nobody l Nobody) are
      (read_goes bounds lru within (supplies cpu within) remove count start flags (placed shape cpu number turns state) reply (lies_in shape state) trace (subst (AreOnLocks shape) (sym are) on) (subst (AreAllowed shape cpu (lies_in shape state)) (sym are) allowed))
  call_goes cpu within number spare (verbs.BatchUpdate flags pairs) turns state reply trace fine on allowed = write_goes bounds lru within (supplies cpu within) spare flags (updates_of pairs) number turns state reply trace fine on allowed
  call_goes cpu within number spare (verbs.BatchDelete flags keys) turns state reply trace fine on allowed = write_goes bounds lru within (supplies cpu within) spare flags (deletes_of keys) number turns state reply trace fine on allowed
  call_goes cpu within number spare (verbs.Each flags stop) turns state reply trace fine on allowed =
      each_goes bounds within Nobody (StopsAt stop) flags turns reply (lies_in shape state) (subst (λ (l : List Turn). IsHandingTrace shape cpu (StopsAt stop) flags l reply) (placed_turns shape cpu number turns state) trace) allowed

  -- From each state of the core that is tied to a state of the run the turns of calls are a run, whatever comes after them runs from
  -- the states after them.
  pub evicting_all : (calls : List Call) (number : ℕ) (state : State) (s : Rattle.place_words.specs.State.State) (more : List Drawn) → AreServed shape calls → AreDone shape number calls state → AreClean shape number calls state
      → AreFrom (run shape number calls state).next_ticket more → IsTied shape 0 [] (core_lists (lies_in shape state)) Nobody s
      → ((t : Rattle.place_words.specs.State.State) → IsTied shape 0 [] (core_lists (lies_in shape (run shape number calls state))) Nobody t → AreEnabled shape t (interleaved shape (lies_in shape (run shape number calls state)) [] more))
      → AreEnabled shape s (interleaved shape (lies_in shape state) [] (drawn_calls shape number calls state ++ more))
  evicting_all [] number state s more served done clean from tied then = then s tied
  evicting_all (call ∷ calls) number state s more served done clean from tied then =
      let turns : List Turn = (does shape call.cpu number state call.verb).turns in
      let allowed = allowed_of_legal shape call.cpu number turns state done.0.legal in
      let later : State = after_one shape number call state in
      let rest : List Drawn = drawn_calls shape (suc number) calls later in
      let lies : lies_in shape later ≡ after_turns shape call.cpu (lies_in shape state) turns = lies_after_all shape call.cpu number turns state in
      let goes = call_goes call.cpu served.0 number (state.spares call.cpu) call.verb turns state (does shape call.cpu number state call.verb).reply done.0.trace clean.0.0 clean.0.1 allowed in
      subst (λ (l : List Drawn). AreEnabled shape s (interleaved shape (lies_in shape state) [] l)) (sym (append_assoc (stamped state.next_ticket call.cpu number turns) rest more))
      (goes.run s state.next_ticket number (rest ++ more) (any_cpu call.cpu tied) (behind_call shape number call calls state more from)
      (λ t held. subst (λ (contents : DomainId → Content). IsTied shape call.cpu [] (core_lists contents) Nobody t → AreEnabled shape t (interleaved shape contents [] (rest ++ more))) lies
      (λ now. evicting_all calls (suc number) later t more served.1 done.1 clean.1 from (any_cpu 0 now) then) held))

-- A map that doesn't evict

firsts_spare : (buckets : List ℕ) (turns : List Turn) (reply : Reply) (spare : Option ℕ) → Firsts buckets turns reply → spare_after spare turns ≡ spare
firsts_spare [] turns reply spare firsts = ap (spare_after spare) firsts.0
firsts_spare (bucket ∷ buckets) turns reply spare (key, rest, are, goes_on) = ap (spare_after spare) are ∙ ends key goes_on (λ later. firsts_spare buckets rest reply spare later)
  where
    ends : (k : Option (List ℕ)) → MatchOption k (Firsts buckets rest reply) (λ first. (rest ≡ []) × (reply ≡ Value first)) → (Firsts buckets rest reply → spare_after spare rest ≡ spare) → spare_after spare rest ≡ spare
    ends None later go = go later
    ends (Some first) last go = ap (spare_after spare) last.0

goes_on_spare : (shape : Shape) (key : List ℕ) (found : NextFound) (turns : List Turn) (reply : Reply) (spare : Option ℕ) → GoesOn shape key found turns reply → spare_after spare turns ≡ spare
goes_on_spare shape key nexts.Absent turns reply spare firsts = firsts_spare (buckets_from shape 0) turns reply spare firsts
goes_on_spare shape key nexts.Last turns reply spare firsts = firsts_spare (buckets_from shape (bucket_of_key shape key + 1)) turns reply spare firsts
goes_on_spare shape key (nexts.Key next) turns reply spare none = ap (spare_after spare) none.0

next_spare : (shape : Shape) (key : Option (List ℕ)) (turns : List Turn) (reply : Reply) (spare : Option ℕ) → IsNextTrace shape key turns reply → spare_after spare turns ≡ spare
next_spare shape None turns reply spare firsts = firsts_spare (buckets_from shape 0) turns reply spare firsts
next_spare shape (Some key) turns reply spare trace = ap (spare_after spare) trace.turns_are ∙ goes_on_spare shape key trace.found trace.rest reply spare trace.goes_on

-- a walk over all elements
hands_spare : (shape : Shape) (cpu : ℕ) (Says : Callback) (buckets : List ℕ) (before : List (List ℕ × List ℕ)) (turns : List Turn) (reply : Reply) (spare : Option ℕ) → HandsOverBuckets shape cpu Says buckets before turns reply → spare_after spare turns ≡ spare
hands_spare shape cpu Says [] before turns reply spare trace = ap (spare_after spare) trace.0
hands_spare shape cpu Says (bucket ∷ buckets) before turns reply spare (result, rest, (are, goes_on)) = ap (spare_after spare) are ∙ ends result goes_on (λ now later. hands_spare shape cpu Says buckets now rest reply spare later)
  where
    ends : (w : Walked) → AfterHanding shape cpu Says bucket before rest reply w (λ now. HandsOverBuckets shape cpu Says buckets now rest reply) → ((now : List (List ℕ × List ℕ)) → HandsOverBuckets shape cpu Says buckets now rest reply → spare_after spare rest ≡ spare) → spare_after spare rest ≡ spare
    ends (Over n) last go = ap (spare_after spare) last.0
    ends (Taken all) (over, true, (hands, last)) go = ap (spare_after spare) last.0
    ends (Taken all) (over, false, (hands, later)) go = go (before ++ over) later

each_spare : (shape : Shape) (cpu : ℕ) (Says : Callback) (flags : ℕ) (turns : List Turn) (reply : Reply) (spare : Option ℕ) → IsHandingTrace shape cpu Says flags turns reply → spare_after spare turns ≡ spare
each_spare shape cpu Says flags turns reply spare trace = by (eqb flags 0) trace
  where
    by : (plainly : Bool) → MatchBool plainly (HandsOverBuckets shape cpu Says (buckets_from shape 0) [] turns reply) ((turns ≡ []) × (reply ≡ Refused Einval)) → spare_after spare turns ≡ spare
    by true told = hands_spare shape cpu Says (buckets_from shape 0) [] turns reply spare told
    by false told = ap (spare_after spare) told.0

pushing_spare : (cpu : ℕ) (es : List ℕ) (turns : List Turn) (spare : Option ℕ) → spare_after spare (pushing cpu es ++ turns) ≡ spare_after spare turns
pushing_spare cpu [] turns spare = refl
pushing_spare cpu (e ∷ es) turns spare = pushing_spare cpu es turns spare

module _ {shape : Shape} (bounds : HasBounds shape) (plain : is_lru shape.kind ≡ false) where
  walks_spare : (cpu : ℕ) (remove : Bool) (limit : ℕ) (buckets : List ℕ) (taken : List (List ℕ × List ℕ)) (turns : List TurnAt) (reply : Reply) (spare : Option ℕ) → Walks shape cpu remove limit buckets taken turns reply → spare_after spare (turns_of turns) ≡ spare
  walks_spare cpu remove limit [] taken turns reply spare walks = ap (λ (l : List TurnAt). spare_after spare (turns_of l)) walks.0
  walks_spare cpu remove limit (bucket ∷ buckets) taken turns reply spare (result, one, rest, (is, takes, after_walk)) =
      let one_is = second _ _ (is_lru shape.kind) plain takes in
      ap (spare_after spare) (ap turns_of is ∙ turns_split one rest) ∙ spare_both spare (turns_of one) (turns_of rest)
      ∙ ap (λ (o : Option ℕ). spare_after o (turns_of rest)) (ap (spare_after spare) one_is ∙ pushing_spare cpu (walked_out remove result) _ spare)
      ∙ ends result after_walk (λ now later. walks_spare cpu remove limit buckets now rest reply spare later)
    where
      ends : (result : Walked) → AfterWalk bucket taken rest reply result (λ now. Walks shape cpu remove limit buckets now rest reply) → ((now : List (List ℕ × List ℕ)) → Walks shape cpu remove limit buckets now rest reply → spare_after spare (turns_of rest) ≡ spare) → spare_after spare (turns_of rest) ≡ spare
      ends (Over n) last go = ap (λ (l : List TurnAt). spare_after spare (turns_of l)) last.0
      ends (Taken all) later go = go (taken ++ map pair_of all) later

  pub plain_call_goes : (cpu : ℕ) (within : cpu < shape.cpus) (number : ℕ) (spares : ℕ → Option ℕ) (verb : Verb) (turns : List Turn) (state : State) (reply : Reply) → IsTrace shape cpu (spares cpu) verb (placed shape cpu number turns state) reply
      → AreAllowed shape cpu (lies_in shape state) turns → Goes shape cpu (lies_in shape state) (AreSpares spares) turns (AreSpares (put spares cpu (spare_after (spares cpu) turns)))
  plain_call_goes cpu within number spares (verbs.Lookup side key) turns state reply trace allowed = of_key cpu within number spares (verbs.Lookup side key) turns state reply (second _ _ (is_lru shape.kind) plain trace) allowed
    where
      of_key : (cpu : ℕ) (within : cpu < shape.cpus) (number : ℕ) (spares : ℕ → Option ℕ) (verb : Verb) (turns : List Turn) (state : State) (reply : Reply) → Rattle.place_words.specs.PlainTraces.IsPlainTrace shape cpu (spares cpu) verb (turns_of (placed shape cpu number turns state)) reply
          → AreAllowed shape cpu (lies_in shape state) turns → Goes shape cpu (lies_in shape state) (AreSpares spares) turns (AreSpares (put spares cpu (spare_after (spares cpu) turns)))
      of_key cpu within number spares verb turns state reply trace allowed = key_goes bounds plain within (lies_in shape state) spares verb turns reply (subst (λ (l : List Turn). Rattle.place_words.specs.PlainTraces.IsPlainTrace shape cpu (spares cpu) verb l reply) (placed_turns shape cpu number turns state) trace) allowed
  plain_call_goes cpu within number spares (verbs.Update side flags key value) turns state reply trace allowed =
      key_goes bounds plain within (lies_in shape state) spares (verbs.Update side flags key value) turns reply (subst (λ (l : List Turn). Rattle.place_words.specs.PlainTraces.IsPlainTrace shape cpu (spares cpu) (verbs.Update side flags key value) l reply) (placed_turns shape cpu number turns state) (second _ _ (is_lru shape.kind) plain trace)) allowed
  plain_call_goes cpu within number spares (verbs.Delete key) turns state reply trace allowed =
      key_goes bounds plain within (lies_in shape state) spares (verbs.Delete key) turns reply (subst (λ (l : List Turn). Rattle.place_words.specs.PlainTraces.IsPlainTrace shape cpu (spares cpu) (verbs.Delete key) l reply) (placed_turns shape cpu number turns state) (second _ _ (is_lru shape.kind) plain trace)) allowed
  plain_call_goes cpu within number spares (verbs.Take key) turns state reply trace allowed =
      key_goes bounds plain within (lies_in shape state) spares (verbs.Take key) turns reply (subst (λ (l : List Turn). Rattle.place_words.specs.PlainTraces.IsPlainTrace shape cpu (spares cpu) (verbs.Take key) l reply) (placed_turns shape cpu number turns state) (second _ _ (is_lru shape.kind) plain trace)) allowed
  plain_call_goes cpu within number spares (verbs.Next key) turns state reply trace allowed =
      let next = subst (λ (l : List Turn). IsNextTrace shape key l reply) (placed_turns shape cpu number turns state) trace in
      subst (λ (o : Option ℕ). Goes shape cpu (lies_in shape state) (AreSpares spares) turns (AreSpares (put spares cpu o))) (sym (next_spare shape key turns reply (spares cpu) next))
      (goes_weaker (lies_in shape state) (AreSpares spares) (AreSpares spares) (AreSpares (put spares cpu (spares cpu))) turns (same_spare bounds plain within spares) (next_goes bounds within (AreSpares spares) key turns reply (lies_in shape state) next allowed))
  plain_call_goes cpu within number spares (verbs.Each flags stop) turns state reply trace allowed =
      let each = subst (λ (l : List Turn). IsHandingTrace shape cpu (StopsAt stop) flags l reply) (placed_turns shape cpu number turns state) trace in
      subst (λ (o : Option ℕ). Goes shape cpu (lies_in shape state) (AreSpares spares) turns (AreSpares (put spares cpu o))) (sym (each_spare shape cpu (StopsAt stop) flags turns reply (spares cpu) each))
      (goes_weaker (lies_in shape state) (AreSpares spares) (AreSpares spares) (AreSpares (put spares cpu (spares cpu))) turns (same_spare bounds plain within spares) (each_goes bounds within (AreSpares spares) (StopsAt stop) flags turns reply (lies_in shape state) each allowed))
  plain_call_goes cpu within number spares (verbs.BatchRead remove count start flags) turns state reply trace allowed = by (eqb flags 0) (eqb count 0) (nat_lt (unwrap_or start 0) shape.buckets) trace
    where
      are : turns_of (placed shape cpu number turns state) ≡ turns
      are = placed_turns shape cpu number turns state

      none : placed shape cpu number turns state ≡ [] → Goes shape cpu (lies_in shape state) (AreSpares spares) turns (AreSpares (put spares cpu (spare_after (spares cpu) turns)))
      none is = subst (λ (l : List Turn). Goes shape cpu (lies_in shape state) (AreSpares spares) l (AreSpares (put spares cpu (spare_after (spares cpu) l)))) (sym (ap turns_of is) ∙ placed_turns shape cpu number turns state)
          (goes_weaker (lies_in shape state) (AreSpares spares) (AreSpares spares) (AreSpares (put spares cpu (spares cpu))) [] (same_spare bounds plain within spares) (goes_none (lies_in shape state) (AreSpares spares)))

      by : (zero_flags nothing there : Bool) → MatchBool zero_flags (MatchBool nothing ((placed shape cpu number turns state ≡ []) × (reply ≡ Done))
          (MatchBool there (Walks shape cpu remove (min count shape.elements) (buckets_from shape (unwrap_or start 0)) [] (placed shape cpu number turns state) reply) ((placed shape cpu number turns state ≡ []) × (reply ≡ Refused Enoent))))
          ((placed shape cpu number turns state ≡ []) × (reply ≡ Refused Einval)) → Goes shape cpu (lies_in shape state) (AreSpares spares) turns (AreSpares (put spares cpu (spare_after (spares cpu) turns)))
      by true true there is = none is.0
      by true false true walks =
          subst (λ (l : List Turn). Goes shape cpu (lies_in shape state) (AreSpares spares) l (AreSpares (put spares cpu (spare_after (spares cpu) l)))) (placed_turns shape cpu number turns state)
          (subst (λ (o : Option ℕ). Goes shape cpu (lies_in shape state) (AreSpares spares) (turns_of (placed shape cpu number turns state)) (AreSpares (put spares cpu o)))
          (sym (walks_spare cpu remove (min count shape.elements) (buckets_from shape (unwrap_or start 0)) [] (placed shape cpu number turns state) reply (spares cpu) walks))
          (goes_weaker (lies_in shape state) (AreSpares spares) (AreSpares spares) (AreSpares (put spares cpu (spares cpu))) (turns_of (placed shape cpu number turns state)) (same_spare bounds plain within spares)
          (plain_walks_go bounds plain within (AreSpares spares) remove (min count shape.elements) (buckets_from shape (unwrap_or start 0)) [] (placed shape cpu number turns state) reply (lies_in shape state) walks (buckets_within shape (unwrap_or start 0))
          (subst (AreAllowed shape cpu (lies_in shape state)) (sym (placed_turns shape cpu number turns state)) allowed))))
      by true false false is = none is.0
      by false nothing there is = none is.0
  plain_call_goes cpu within number spares (verbs.BatchUpdate flags pairs) turns state reply trace allowed = of_batch cpu within number spares flags (updates_of pairs) turns state reply (eqb flags 0) trace allowed
    where
      of_batch : (cpu : ℕ) (within : cpu < shape.cpus) (number : ℕ) (spares : ℕ → Option ℕ) (flags : ℕ) (entries : List Verb) (turns : List Turn) (state : State) (reply : Reply) (zero_flags : Bool)
          → MatchBool zero_flags (Writes shape cpu (spares cpu) entries 0 (placed shape cpu number turns state) reply) ((placed shape cpu number turns state ≡ []) × (reply ≡ Refused Einval)) → AreAllowed shape cpu (lies_in shape state) turns
          → Goes shape cpu (lies_in shape state) (AreSpares spares) turns (AreSpares (put spares cpu (spare_after (spares cpu) turns)))
      of_batch cpu within number spares flags entries turns state reply true writes allowed =
          subst (λ (l : List Turn). Goes shape cpu (lies_in shape state) (AreSpares spares) l (AreSpares (put spares cpu (spare_after (spares cpu) l)))) (placed_turns shape cpu number turns state)
          (plain_writes_go bounds plain within spares entries 0 (placed shape cpu number turns state) reply (lies_in shape state) writes (subst (AreAllowed shape cpu (lies_in shape state)) (sym (placed_turns shape cpu number turns state)) allowed))
      of_batch cpu within number spares flags entries turns state reply false none allowed =
          subst (λ (l : List Turn). Goes shape cpu (lies_in shape state) (AreSpares spares) l (AreSpares (put spares cpu (spare_after (spares cpu) l)))) (sym (ap turns_of none.0) ∙ placed_turns shape cpu number turns state)
          (goes_weaker (lies_in shape state) (AreSpares spares) (AreSpares spares) (AreSpares (put spares cpu (spares cpu))) [] (same_spare bounds plain within spares) (goes_none (lies_in shape state) (AreSpares spares)))
  plain_call_goes cpu within number spares (verbs.BatchDelete flags keys) turns state reply trace allowed = of_batch (eqb flags 0) trace
    where
      of_batch : (zero_flags : Bool) → MatchBool zero_flags (Writes shape cpu (spares cpu) (deletes_of keys) 0 (placed shape cpu number turns state) reply) ((placed shape cpu number turns state ≡ []) × (reply ≡ Refused Einval))
          → Goes shape cpu (lies_in shape state) (AreSpares spares) turns (AreSpares (put spares cpu (spare_after (spares cpu) turns)))
      of_batch true writes =
          subst (λ (l : List Turn). Goes shape cpu (lies_in shape state) (AreSpares spares) l (AreSpares (put spares cpu (spare_after (spares cpu) l)))) (placed_turns shape cpu number turns state)
          (plain_writes_go bounds plain within spares (deletes_of keys) 0 (placed shape cpu number turns state) reply (lies_in shape state) writes (subst (AreAllowed shape cpu (lies_in shape state)) (sym (placed_turns shape cpu number turns state)) allowed))
      of_batch false none =
          subst (λ (l : List Turn). Goes shape cpu (lies_in shape state) (AreSpares spares) l (AreSpares (put spares cpu (spare_after (spares cpu) l)))) (sym (ap turns_of none.0) ∙ placed_turns shape cpu number turns state)
          (goes_weaker (lies_in shape state) (AreSpares spares) (AreSpares spares) (AreSpares (put spares cpu (spares cpu))) [] (same_spare bounds plain within spares) (goes_none (lies_in shape state) (AreSpares spares)))
