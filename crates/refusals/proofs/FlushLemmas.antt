-- What an update flushes to the global lists is what was pending, with its hashes.
use Rattle.std.proofs.Common.{◌≡◌, ℕ, true, false, ⊎_elim, List, [], ◌∷◌, ◌++◌, map, reverse, refl, ap, sym, ◌∙◌, subst, Option, None, Some, MatchOption}
use Rattle.std.specs.Prelude.{◌==◌, ◌&&◌, option_map}
use Rattle.std.specs.List.{flat_map}
use Rattle.std.proofs.lemmas.Grind.{flat_map-append}
use Rattle.std.proofs.lemmas.List.{append-nil}
use Rattle.map_types.specs.declared.attr.Shape.{Shape}
use Rattle.map_types.specs.declared.kind.DomainId.{DomainId}
use Rattle.map_types.specs.declared.kind.DomainId.TheVariants.{Local, CpuLru}
use Rattle.map_types.specs.declared.kind.Side.{Side}
use Rattle.map_types.specs.declared.refusal.Errno.TheVariants.{Enomem}
use Rattle.map_types.specs.declared.reply.Reply.{Reply}
use Rattle.map_types.specs.declared.reply.Reply.TheVariants.{Refused}
use Rattle.map_types.specs.declared.row.Row.{Row}
use Rattle.map_types.specs.Kind.{is_lru, is_percpu}
use Rattle.key_hash.specs.Jhash.{hash}
use Rattle.place_words.specs.declared.bucket_part.BucketPart.TheVariants.{Update}
use Rattle.place_words.specs.declared.history.Part.{Part}
use Rattle.place_words.specs.declared.history.Part.TheVariants as parts
use Rattle.place_words.specs.declared.list_part.GlobalPart.TheVariants as global
use Rattle.place_words.specs.declared.list_part.LocalPart.TheVariants as local
use Rattle.place_words.specs.declared.list_part.OwnPart.TheVariants as own
use Rattle.place_words.specs.declared.visits.Try.{Try}
use Rattle.place_words.specs.Evicting.{IsEvictingUpdate, OffersOne, FreesOne, left_over}
use Rattle.place_words.specs.Globals.{flushed_rows}
use Rattle.place_words.specs.Histories.{Content}
use Rattle.place_words.specs.Locals.{LocalLists}
use Rattle.place_words.specs.Takings.{Chase, IsChased, rows_brought, listed_rows, probes_of, stored_hash, evicts, TakesFree, TakesByRefill, Refills, Steals, Acquires, stolen_element, brings_home, Frees, FreesFlushed, freed_globally, set_of}
use Rattle.place_words.specs.Turns.{Turn, TurnAt, turns_of, found, on_lock, on_bucket_of, ring}
use Rattle.place_table.specs.declared.view.Turned.{Turned}
use Rattle.place_table.specs.Known.{turn_at}
use Rattle.refusals.specs.Made.{lay}
use Rattle.refusals.specs.Evicting.{pending_in, refilled, FlushedKeepTheirHashes}
use Rattle.refusals.proofs.KeyTraces.{by_kind}
use Rattle.refusals.proofs.EvictingLemmas.{first_chosen}

-- a turn that flushes nothing, and refills nothing
pub record Flushes_none (turn : Turn) : Type 0 where
  pub brings : rows_brought turn.part ≡ []
  pub refills : (lies : Content) → refilled turn.part lies ≡ []

abbrev None_flush : List Turn → Type 0
None_flush [] = Unit {0}
None_flush (turn ∷ turns) = Flushes_none turn × None_flush turns

none_both : (xs ys : List Turn) → None_flush xs → None_flush ys → None_flush (xs ++ ys)
none_both [] ys first second = second
none_both (x ∷ xs) ys first second = (first.0, none_both xs ys first.1 second)

module _ (shape : Shape) where
  abbrev brought : List TurnAt → List Row
  brought turns = flat_map (λ (at : TurnAt). rows_brought at.turn.part) turns

  abbrev waited : List TurnAt → List Row
  waited turns = flat_map (λ (at : TurnAt). refilled at.turn.part (found shape at)) turns

  abbrev Alike : List TurnAt → Type 0
  Alike turns = brought turns ≡ waited turns

  pub record Neither (turns : List TurnAt) : Type 0 where
    pub brings : brought turns ≡ []
    pub waits : waited turns ≡ []

  neither : (turns : List TurnAt) → None_flush (turns_of turns) → Neither turns
  neither [] none = record { brings = refl; waits = refl }
  neither (at ∷ turns) none = joined (neither turns none.1)
    where
      joined : Neither turns → Neither (at ∷ turns)
      joined rest = record {
        brings = ap (λ (l : List Row). l ++ brought turns) none.0.brings ∙ rest.brings;
        waits = ap (λ (l : List Row). l ++ waited turns) (none.0.refills (found shape at)) ∙ rest.waits;
      }

  alike_none : (turns : List TurnAt) (list : List Turn) → turns_of turns ≡ list → None_flush list → Alike turns
  alike_none turns list are none = let both = neither turns (subst None_flush (sym are) none) in both.brings ∙ sym both.waits

  alike_both : (xs ys : List TurnAt) → Alike xs → Alike ys → Alike (xs ++ ys)
  alike_both xs ys first second =
      flat_map-append (λ (at : TurnAt). rows_brought at.turn.part) xs ys ∙ ap (λ (l : List Row). l ++ brought ys) first ∙ ap (λ (l : List Row). waited xs ++ l) second
      ∙ sym (flat_map-append (λ (at : TurnAt). refilled at.turn.part (found shape at)) xs ys)

  evict_none : (probe : Try) (found_hash : Option ℕ) (turn : Turn) → option_map (evicts shape probe) found_hash ≡ Some turn → Flushes_none turn
  evict_none probe None turn is = absurd cc
  evict_none probe (Some h) turn is = subst Flushes_none (same is) (record { brings = refl; refills = λ lies. refl })
    where
      same : option_map (evicts shape probe) (Some h) ≡ Some turn → evicts shape probe h ≡ turn
      same e = cc

  chase_none : (rows : List Row) (probes : List Try) (turns : List Turn) → Chase shape rows probes turns → None_flush turns
  chase_none rows [] [] chase = tt
  chase_none rows [] (turn ∷ turns) chase = absurd chase
  chase_none rows (probe ∷ probes) [] chase = absurd chase
  chase_none rows (probe ∷ probes) (turn ∷ turns) chase = (evict_none probe (stored_hash probe.element rows) turn chase.0, chase_none rows probes turns chase.1)

  chased_alike : (lock : DomainId) (part : Part) (turns : List TurnAt) → Flushes_none (on_lock lock part) → IsChased shape lock part turns → Alike turns
  chased_alike lock part turns none chased =
      subst Alike (sym chased.turns_are)
      (alike_both chased.probing (chased.last ∷ [])
      (alike_none chased.probing (turns_of chased.probing) refl (chase_none (rows_brought part ++ listed_rows (found shape chased.last)) (probes_of part) (turns_of chased.probing) chased.chase))
      (alike_none (chased.last ∷ []) (on_lock lock part ∷ []) (ap (λ (x : Turn). x ∷ []) chased.last_is) (none, tt)))

  -- a refill
  module _ (cpu hash_of : ℕ) (lists : LocalLists) (got : Option ℕ) (turns : List TurnAt) (refills : Refills shape cpu hash_of lists got turns) where
    inner_brings : brought refills.inner ≡ flushed_rows refills.flushed
    inner_brings =
        ap brought refills.chased.turns_are ∙ flat_map-append (λ (at : TurnAt). rows_brought at.turn.part) refills.chased.probing (refills.chased.last ∷ [])
        ∙ ap (λ (l : List Row). l ++ brought (refills.chased.last ∷ [])) (neither refills.chased.probing (chase_none (rows_brought (parts.Global (global.Turn refills.flushed refills.active refills.inactive refills.free refills.shrink)) ++ listed_rows (found shape refills.chased.last)) (probes_of (parts.Global (global.Turn refills.flushed refills.active refills.inactive refills.free refills.shrink))) (turns_of refills.chased.probing) refills.chased.chase)).brings
        ∙ ap (λ (x : Turn). rows_brought x.part ++ []) refills.chased.last_is ∙ append-nil (flushed_rows refills.flushed)

    inner_waits : waited refills.inner ≡ []
    inner_waits =
        ap waited refills.chased.turns_are ∙ flat_map-append (λ (at : TurnAt). refilled at.turn.part (found shape at)) refills.chased.probing (refills.chased.last ∷ [])
        ∙ ap (λ (l : List Row). l ++ waited (refills.chased.last ∷ [])) (neither refills.chased.probing (chase_none (rows_brought (parts.Global (global.Turn refills.flushed refills.active refills.inactive refills.free refills.shrink)) ++ listed_rows (found shape refills.chased.last)) (probes_of (parts.Global (global.Turn refills.flushed refills.active refills.inactive refills.free refills.shrink))) (turns_of refills.chased.probing) refills.chased.chase)).waits
        ∙ ap (λ (x : Turn). refilled x.part (found shape refills.chased.last) ++ []) refills.chased.last_is

    last_waits : waited (refills.last ∷ []) ≡ reverse lists.pending
    last_waits =
        ap (λ (x : Turn). refilled x.part (found shape refills.last) ++ []) refills.last_is
        ∙ append-nil (reverse (pending_in (found shape refills.last))) ∙ ap (λ (lies : Content). reverse (pending_in lies)) refills.found_there

    last_brings : brought (refills.last ∷ []) ≡ []
    last_brings = ap (λ (x : Turn). rows_brought x.part ++ []) refills.last_is

    refill_alike : Alike turns
    refill_alike =
        subst Alike (sym refills.turns_are)
        (flat_map-append (λ (at : TurnAt). rows_brought at.turn.part) refills.inner (refills.last ∷ [])
        ∙ ap (λ (l : List Row). l ++ brought (refills.last ∷ [])) inner_brings ∙ ap (λ (l : List Row). flushed_rows refills.flushed ++ l) last_brings
        ∙ append-nil (flushed_rows refills.flushed) ∙ refills.with_hashes
        ∙ sym (flat_map-append (λ (at : TurnAt). refilled at.turn.part (found shape at)) refills.inner (refills.last ∷ [])
        ∙ ap (λ (l : List Row). l ++ waited (refills.last ∷ [])) inner_waits ∙ last_waits))

  -- the other ways to take an element, and to free one
  quiet_local : (lock : DomainId) (hash_of e : ℕ) → Flushes_none (on_lock lock (parts.Local (local.Pop hash_of e)))
  quiet_local lock hash_of e = record { brings = refl; refills = λ lies. refl }

  steals_alike : (cpu hash_of : ℕ) (cpus : List ℕ) (got : Option ℕ) (turns : List TurnAt) → Steals shape cpu hash_of cpus got turns → Alike turns
  steals_alike cpu hash_of [] got turns steals = subst Alike (sym steals.0) refl
  steals_alike cpu hash_of (from ∷ others) got turns (tried, rest, stolen, first, second, are, chased, goes) =
      subst Alike (sym are)
      (alike_both tried rest
      (chased_alike (Local from) (parts.Local (local.Steal stolen first second)) tried (record { brings = refl; refills = λ lies. refl }) chased)
      (on (λ more. steals_alike cpu hash_of others got rest more) (stolen_element stolen) goes))
    where
      on : (Steals shape cpu hash_of others got rest → Alike rest) → (taken : Option ℕ)
          → MatchOption taken (Steals shape cpu hash_of others got rest) (λ e. (got ≡ Some e) × (turns_of rest ≡ brings_home shape cpu hash_of from e ∷ [])) → Alike rest
      on next None more = next more
      on next (Some e) home = alike_none rest (brings_home shape cpu hash_of from e ∷ []) home.1 (record { brings = refl; refills = λ lies. refl }, tt)

  by_refill_alike : (cpu hash_of : ℕ) (got : Option ℕ) (turns : List TurnAt) → TakesByRefill shape cpu hash_of got turns → Alike turns
  by_refill_alike cpu hash_of got turns takes =
      subst Alike (sym takes.turns_are)
      (alike_both takes.refilling takes.stealing (refill_alike cpu hash_of takes.lists takes.gave takes.refilling takes.refills) (on takes.gave takes.steals))
    where
      on : (gave : Option ℕ) → MatchOption gave (Steals shape cpu hash_of (ring takes.lists.steal shape.cpus) got takes.stealing) (λ e. (takes.stealing ≡ []) × (got ≡ Some e)) → Alike takes.stealing
      on None more = steals_alike cpu hash_of (ring takes.lists.steal shape.cpus) got takes.stealing more
      on (Some e) gave = subst Alike (sym gave.0) refl

  free_alike : (cpu hash_of : ℕ) (got : Option ℕ) (turns : List TurnAt) → TakesFree cpu hash_of got turns → Alike turns
  free_alike cpu hash_of None turns takes = absurd takes
  free_alike cpu hash_of (Some e) turns takes = alike_none turns (on_lock (Local cpu) (parts.Local (local.Pop hash_of e)) ∷ []) takes (quiet_local (Local cpu) hash_of e, tt)

  takes_alike : (cpu hash_of : ℕ) (got : Option ℕ) (turns : List TurnAt) → Acquires shape cpu hash_of got turns → Alike turns
  takes_alike cpu hash_of got turns takes =
      by_kind shape.common takes
      (λ _ shared. ⊎_elim (λ free. free_alike cpu hash_of got turns free) (λ refill. by_refill_alike cpu hash_of got turns refill) shared)
      (λ _ of_own. chased_alike (CpuLru cpu) (parts.Own (own.Turn hash_of of_own.active of_own.inactive of_own.shrink got)) turns (record { brings = refl; refills = λ lies. refl }) of_own.chased)

  frees_alike : (e : ℕ) (turns : List TurnAt) → Frees shape e turns → Alike turns
  frees_alike e turns frees =
      by_kind shape.common frees
      (λ _ shared. ⊎_elim
      (λ pending. alike_none turns (on_lock (Local pending.on) (parts.Local (local.Push e true)) ∷ []) pending.turns_are (record { brings = refl; refills = λ lies. refl }, tt))
      (λ other. ⊎_elim
      (λ flushed. two flushed)
      (λ alone. alike_none turns (freed_globally e ∷ []) alone (record { brings = refl; refills = λ lies. refl }, tt)) other)
      shared)
      (λ _ of_own. alike_none turns (on_lock (CpuLru (set_of shape e)) (parts.Own (own.Push e)) ∷ []) of_own (record { brings = refl; refills = λ lies. refl }, tt))
    where
      two : FreesFlushed e turns → Alike turns
      two flushed =
          alike_none turns (on_lock (Local flushed.on) (parts.Local (local.Push e false)) ∷ freed_globally e ∷ [])
          (ap turns_of flushed.turns_are ∙ ap (λ (x : Turn). x ∷ flushed.second.turn ∷ []) flushed.first_is ∙ ap (λ (x : Turn). on_lock (Local flushed.on) (parts.Local (local.Push e false)) ∷ x ∷ []) flushed.second_is)
          (record { brings = refl; refills = λ lies. refl }, (record { brings = refl; refills = λ lies. refl }, tt))

  frees_one_alike : (gone : Option ℕ) (turns : List TurnAt) → FreesOne shape gone turns → Alike turns
  frees_one_alike None turns frees = subst Alike (sym frees) refl
  frees_one_alike (Some e) turns frees = frees_alike e turns frees

-- an update
module _ (shape : Shape) (cpu : ℕ) (side : Side) (flags : ℕ) (key value : List ℕ) (reply : Reply) where
  offer_alike : (got : Option ℕ) (rest : List TurnAt) → MatchOption got ((rest ≡ []) × (reply ≡ Refused Enomem)) (λ e. OffersOne shape side flags key value e rest reply) → Alike shape rest
  offer_alike None rest offers = subst (Alike shape) (sym offers.0) refl
  offer_alike (Some e) rest offers =
      subst (Alike shape) (sym offers.turns_are)
      (alike_both shape (offers.at_bucket ∷ []) offers.freeing
      (alike_none shape (offers.at_bucket ∷ []) (on_bucket_of shape key (Update side flags key value (Some e) offers.put) ∷ []) (ap (λ (x : Turn). x ∷ []) offers.bucket_is) (record { brings = refl; refills = λ lies. refl }, tt))
      (frees_one_alike shape (left_over e offers.put) offers.freeing offers.frees))

  update_alike : (turns : List TurnAt) → IsEvictingUpdate shape cpu side flags key value turns reply → Alike shape turns
  update_alike turns trace =
      ⊎_elim (λ unknown. subst (Alike shape) (sym unknown.1) refl)
      (λ known. by_kind (is_percpu shape.kind && (flags == 2)) known.1
      (λ _ alone. alike_none shape turns (on_bucket_of shape key (Update side flags key value None alone.put) ∷ []) alone.turns_are (record { brings = refl; refills = λ lies. refl }, tt))
      (λ _ offer. subst (Alike shape) (sym offer.turns_are)
      (alike_both shape offer.taking offer.rest (takes_alike shape cpu (hash key shape.seed) offer.got offer.taking offer.takes) (offer_alike offer.got offer.rest offer.offers))))
      trace

told_brought : (shape : Shape) (told : List Turned) → brought shape (map (turn_at shape) told) ≡ flat_map (λ (x : Turned). rows_brought x.entry.part) told
told_brought shape [] = refl
told_brought shape (x ∷ told) = ap (λ (l : List Row). rows_brought x.entry.part ++ l) (told_brought shape told)

told_waited : (shape : Shape) (told : List Turned) → waited shape (map (turn_at shape) told) ≡ flat_map (λ (x : Turned). refilled x.entry.part (lay shape x)) told
told_waited shape [] = refl
told_waited shape (x ∷ told) = ap (λ (l : List Row). refilled x.entry.part (lay shape x) ++ l) (told_waited shape told)

pub flushed_keep_hashes : FlushedKeepTheirHashes
flushed_keep_hashes t before after side flags key value reply evicting called =
    sym (told_brought t.shape called.told) ∙ update_alike t.shape before.cpu side flags key value reply (map (turn_at t.shape) called.told) (first_chosen (is_lru t.shape.kind) _ _ evicting called.trace)
    ∙ told_waited t.shape called.told
