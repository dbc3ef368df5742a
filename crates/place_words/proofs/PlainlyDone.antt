-- On a map that doesn't evict every call does in serial order what the rules say, and leaves the map as orderly as it found it.
use Rattle.std.proofs.Common.{◌≡◌, ℕ, suc, ◌<◌, Bool, true, false, cond, eqb, List, [], ◌∷◌, refl, ap, sym, ◌∙◌, subst}
use Rattle.std.specs.Prelude.{Option, None, Some, MatchBool, MatchOption, IsSome, unwrap_or}
use Rattle.map_types.specs.declared.attr.Shape.{Shape}
use Rattle.map_types.specs.declared.call.Verb.{Verb}
use Rattle.map_types.specs.declared.call.Verb.TheVariants as verbs
use Rattle.map_types.specs.declared.kind.MapKind.{MapKind}
use Rattle.map_types.specs.declared.kind.MapKind.TheVariants.{Hash, PercpuHash, LruHash, LruPercpuHash}
use Rattle.map_types.specs.declared.refusal.Errno.{Errno}
use Rattle.map_types.specs.declared.refusal.Errno.TheVariants.{Einval}
use Rattle.map_types.specs.declared.reply.Reply.TheVariants.{Refused, Count}
use Rattle.map_types.specs.Kind.{is_lru, is_percpu}
use Rattle.place_words.specs.Evicting.{IsEvictingTrace}
use Rattle.place_words.specs.Handing.{IsHandingTrace, StopsAt}
use Rattle.place_words.specs.Logs.{State, all_turned, Does, key_does, next_does, counted_or, writes, write_does, each_does, does, placed, IsDone}
use Rattle.place_words.specs.PlainTraces.{IsPlainTrace, spare_after}
use Rattle.place_words.specs.SerialOrder.{IsOrderly}
use Rattle.place_words.specs.Traces.{IsTrace}
use Rattle.place_words.specs.Turns.{Turn}
use Rattle.place_words.specs.Walks.{IsNextTrace, IsKeyTrace, spare_left, refused_with, Writes, IsWriteBatch, updates_of, deletes_of}
use Rattle.place_words.proofs.DoneLaws.{IsPlainlyDone, IsKeyVerb, key_done}
use Rattle.place_words.proofs.PlacedLaws.{GoLegally, legally_none, legally_both, legally_allowed, placed-append, placed_turns, spares_after, spares_stay}
use Rattle.place_words.proofs.PlainLaws.{chosen_second, plain_spare}
use Rattle.place_words.proofs.WalksDone.{next_done, read_done, each_done}

-- a map that doesn't evict and has one value for each key is of kind HASH
only_hash : (kind : MapKind) → is_lru kind ≡ false → is_percpu kind ≡ false → kind ≡ Hash
only_hash Hash plain single = refl
only_hash PercpuHash plain single = absurd cc
only_hash LruHash plain single = absurd cc
only_hash LruPercpuHash plain single = absurd cc

there : (spare : Option ℕ) → IsSome spare → spare ≡ Some (unwrap_or spare 0)
there None some = absurd cc
there (Some e) some = refl

abbrev pub AreKeyVerbs : List Verb → Type 0
AreKeyVerbs [] = Unit {0}
AreKeyVerbs (entry ∷ entries) = IsKeyVerb entry × AreKeyVerbs entries

pub updates_served : (pairs : List (List ℕ × List ℕ)) → AreKeyVerbs (updates_of pairs)
updates_served [] = tt
updates_served (pair ∷ pairs) = (tt, updates_served pairs)

pub deletes_served : (keys : List (List ℕ)) → AreKeyVerbs (deletes_of keys)
deletes_served [] = tt
deletes_served (key ∷ keys) = (tt, deletes_served keys)

module _ (shape : Shape) (cpu number : ℕ) (plain : is_lru shape.kind ≡ false) (within : cpu < shape.cpus) where
  orderly_after : (turns : List Turn) (state : State) → IsOrderly shape state → GoLegally shape cpu number turns state → IsOrderly shape (all_turned shape cpu number turns state)
  orderly_after turns state orderly goes = record {
    legal = goes.after;
    spares = λ hash. spares_stay shape cpu number turns state (orderly.spares hash);
  }

  -- calls on one key
  one_done : (state : State) → IsOrderly shape state → (verb : Verb) → IsKeyVerb verb → IsPlainlyDone shape cpu state verb (key_does shape cpu number state verb)
  one_done state orderly verb served =
      key_done shape cpu number state plain (λ single. there (state.spares cpu) (orderly.spares (only_hash shape.kind plain single) cpu within)) verb served

  key_goes : (state : State) → IsOrderly shape state → (verb : Verb) → IsKeyVerb verb → GoLegally shape cpu number (key_does shape cpu number state verb).turns state
  key_goes state orderly verb served = legally_allowed shape cpu number (key_does shape cpu number state verb).turns state orderly.legal (one_done state orderly verb served).allowed

  key_traced : (state : State) → IsOrderly shape state → (verb : Verb) → IsKeyVerb verb
      → IsKeyTrace shape cpu (state.spares cpu) verb (placed shape cpu number (key_does shape cpu number state verb).turns state) (key_does shape cpu number state verb).reply
  key_traced state orderly verb served =
      let did : Does = key_does shape cpu number state verb in
      chosen_second (is_lru shape.kind) (IsEvictingTrace shape cpu verb (placed shape cpu number did.turns state) did.reply) _ plain
      (subst (λ (turns : List Turn). IsPlainTrace shape cpu (state.spares cpu) verb turns did.reply) (sym (placed_turns shape cpu number did.turns state)) (one_done state orderly verb served).trace)

  -- batch writes
  record AreWritten (state : State) (entries : List Verb) (count : ℕ) (did : Does) : Type 0 where
    trace : Writes shape cpu (state.spares cpu) entries count (placed shape cpu number did.turns state) did.reply
    goes : GoLegally shape cpu number did.turns state

  write_step : (state : State) → IsOrderly shape state → (entries : List Verb) (count : ℕ) (told : Option Errno) (later : Does) → AreWritten state entries (suc count) later
      → MatchOption told (Writes shape cpu (state.spares cpu) entries (suc count) (placed shape cpu number (counted_or told count later).turns state) (counted_or told count later).reply)
      (λ errno. (placed shape cpu number (counted_or told count later).turns state ≡ []) × ((counted_or told count later).reply ≡ Count (Some errno) count))
      × GoLegally shape cpu number (counted_or told count later).turns state
  write_step state orderly entries count None later rest = (rest.trace, rest.goes)
  write_step state orderly entries count (Some errno) later rest = ((refl, refl), legally_none shape cpu number state orderly.legal)

  writes_done : (state : State) → IsOrderly shape state → (entries : List Verb) → AreKeyVerbs entries → (count : ℕ) → AreWritten state entries count (writes shape cpu number state entries count)
  writes_done state orderly [] served count = record { trace = (refl, refl); goes = legally_none shape cpu number state orderly.legal }
  writes_done state orderly (entry ∷ entries) served count =
      let one : Does = key_does shape cpu number state entry in
      let now : State = all_turned shape cpu number one.turns state in
      let goes : GoLegally shape cpu number one.turns state = key_goes state orderly entry served.0 in
      let then_orderly : IsOrderly shape now = orderly_after one.turns state orderly goes in
      let later : Does = writes shape cpu number now entries (suc count) in
      let end : Does = counted_or (refused_with one.reply) count later in
      let rest = write_step now then_orderly entries count (refused_with one.reply) later (writes_done now then_orderly entries served.1 (suc count)) in
      let left : now.spares cpu ≡ spare_left shape (state.spares cpu) (placed shape cpu number one.turns state) =
      spares_after shape cpu number one.turns state plain ∙ ap (spare_after (state.spares cpu)) (sym (placed_turns shape cpu number one.turns state))
      ∙ sym (plain_spare shape (state.spares cpu) (placed shape cpu number one.turns state) plain) in
      record {
        trace = (
          one.reply,
          placed shape cpu number one.turns state,
          placed shape cpu number end.turns now,
          (
            placed-append shape cpu number one.turns end.turns state,
            key_traced state orderly entry served.0,
            subst (λ (spare : Option ℕ). MatchOption (refused_with one.reply) (Writes shape cpu spare entries (suc count) (placed shape cpu number end.turns now) end.reply)
                (λ errno. (placed shape cpu number end.turns now ≡ []) × (end.reply ≡ Count (Some errno) count))) left rest.0,
          ),
        );
        goes = legally_both shape cpu number one.turns end.turns state goes rest.1;
      }

  write_done : (state : State) → IsOrderly shape state → (flags : ℕ) (entries : List Verb) → AreKeyVerbs entries
      → IsWriteBatch shape cpu (state.spares cpu) flags entries (placed shape cpu number (write_does shape cpu number state flags entries).turns state) (write_does shape cpu number state flags entries).reply
      × GoLegally shape cpu number (write_does shape cpu number state flags entries).turns state
  write_done state orderly flags entries served = by (eqb flags 0) (writes_done state orderly entries served 0)
    where
      by : (plainly : Bool) → AreWritten state entries 0 (writes shape cpu number state entries 0)
          → let did : Does = cond plainly (writes shape cpu number state entries 0) (record { turns = []; reply = Refused Einval }) in
          MatchBool plainly (Writes shape cpu (state.spares cpu) entries 0 (placed shape cpu number did.turns state) did.reply) ((placed shape cpu number did.turns state ≡ []) × (did.reply ≡ Refused Einval))
          × GoLegally shape cpu number did.turns state
      by true done = (done.trace, done.goes)
      by false done = ((refl, refl), legally_none shape cpu number state orderly.legal)

  -- every call
  traced : (state : State) → IsOrderly shape state → (verb : Verb)
      → IsTrace shape cpu (state.spares cpu) verb (placed shape cpu number (does shape cpu number state verb).turns state) (does shape cpu number state verb).reply
      × GoLegally shape cpu number (does shape cpu number state verb).turns state
  unfolding does
  traced state orderly (verbs.Lookup side key) = (key_traced state orderly (verbs.Lookup side key) tt, key_goes state orderly (verbs.Lookup side key) tt)
  traced state orderly (verbs.Update side flags key value) = (key_traced state orderly (verbs.Update side flags key value) tt, key_goes state orderly (verbs.Update side flags key value) tt)
  traced state orderly (verbs.Delete key) = (key_traced state orderly (verbs.Delete key) tt, key_goes state orderly (verbs.Delete key) tt)
  traced state orderly (verbs.Take key) = (key_traced state orderly (verbs.Take key) tt, key_goes state orderly (verbs.Take key) tt)
  traced state orderly (verbs.Next key) =
      let done = next_done shape cpu state key in (
        subst (λ (turns : List Turn). IsNextTrace shape key turns (next_does shape state key).reply) (sym (placed_turns shape cpu number (next_does shape state key).turns state)) done.0,
        legally_allowed shape cpu number (next_does shape state key).turns state orderly.legal done.1,
      )
  traced state orderly (verbs.BatchRead remove count start flags) = read_done shape cpu number plain state orderly.legal remove count start flags
  traced state orderly (verbs.BatchUpdate flags pairs) = write_done state orderly flags (updates_of pairs) (updates_served pairs)
  traced state orderly (verbs.BatchDelete flags keys) = write_done state orderly flags (deletes_of keys) (deletes_served keys)
  traced state orderly (verbs.Each flags stop) =
      let did : Does = each_does shape cpu state flags stop in
      let done = each_done shape cpu state stop flags in (
        subst (λ (turns : List Turn). IsHandingTrace shape cpu (StopsAt stop) flags turns did.reply) (sym (placed_turns shape cpu number did.turns state)) done.0,
        legally_allowed shape cpu number did.turns state orderly.legal done.1,
      )

  -- Every call does what the rules say, and leaves the map orderly.
  pub plainly_done : (state : State) → IsOrderly shape state → (verb : Verb)
      → IsDone shape cpu number verb state × IsOrderly shape (all_turned shape cpu number (does shape cpu number state verb).turns state)
  plainly_done state orderly verb =
      let done = traced state orderly verb in
      (record { trace = done.0; legal = done.1.at_place }, orderly_after (does shape cpu number state verb).turns state orderly done.1)
