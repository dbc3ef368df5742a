-- On a map whose CPUs share lists, the turns that take an element are determined by their trace and by the bits that they tell and
-- read.
use Rattle.std.proofs.Common.{◌≡◌, ◌⊎◌, ℕ, ◌+◌, ◌<◌, ◌≤◌, Bool, true, eqb, List, [], ◌∷◌, ◌++◌, map, reverse, Option, None, Some, refl, ap, ◌∙◌, sym, subst, inl, inr, arith}
use Rattle.std.specs.Prelude.{MatchOption, nat_lt, unwrap_or, option_to_list}
use Rattle.std.proofs.lemmas.Bool.{cond-true}
use Rattle.std.proofs.lemmas.List.{map-append}
use Rattle.map_types.specs.declared.attr.Shape.{Shape}
use Rattle.map_types.specs.declared.kind.DomainId.TheVariants.{Local, Global}
use Rattle.map_types.specs.declared.row.Row.{Row}
use Rattle.map_types.specs.ElementLists.{times, IsHead}
use Rattle.key_hash.specs.Bucket.{bucket_number}
use Rattle.place_words.specs.declared.history.Part.TheVariants as parts
use Rattle.place_words.specs.declared.list_part.GlobalPart.{GlobalPart}
use Rattle.place_words.specs.declared.list_part.GlobalPart.TheVariants as global
use Rattle.place_words.specs.declared.list_part.LocalPart.{LocalPart}
use Rattle.place_words.specs.declared.list_part.LocalPart.TheVariants as local
use Rattle.place_words.specs.declared.visits.Try.{Try}
use Rattle.place_words.specs.Choices.{global_turn, refill_of, refill_got}
use Rattle.place_words.specs.Globals.{flush_visit, flushed_rows}
use Rattle.place_words.specs.Histories.{Content, Allows, in_locals, in_global, content, locals_in}
use Rattle.place_words.specs.Locals.{LocalLists, new_locals, AllowsOnLocal}
use Rattle.place_words.specs.Logs.{State, Taking, lies_in, locals_at, globals_at, all_turned, probed, got_or, stolen, refilled, taken_shared, acquired}
use Rattle.place_words.specs.RowMoves.{rows_of}
use Rattle.place_words.specs.Sets.{ListSet, new_set}
use Rattle.place_words.specs.Takings.{listed_rows, shrink_probes, freed_by, Chase, TakesFree, Refills, Steals, TakesByRefill, Acquires}
use Rattle.place_words.specs.Turns.{Turn, TurnAt, turns_of, ring, on_lock, AreAllowed}
use Rattle.place_words.proofs.ChaseDone.{names_of}
use Rattle.place_words.proofs.ListSums.{local_once, global_once, list_locks, sum_over}
use Rattle.place_words.proofs.ListTurns.{rows_fewer}
use Rattle.place_words.proofs.RowCounts.{any, rows_append, rows_reverse}
use Rattle.place_words.proofs.Settled.{is_of, rows_on, elements_on, IsSettled, once_on}
use Rattle.place_words.proofs.SharedDone.{settled_then}
use Rattle.place_words.proofs.SharedFrees.{locals_there, globals_there}
use Rattle.place_words.proofs.SharedRound.{ring_below}
use Rattle.place_words.proofs.TwoLists.{two_of}
use Rattle.serial_laws.proofs.BitsRead.{ReadsBits}
use Rattle.serial_laws.proofs.ChasedIs.{probing, chase_there, may_there, told_there, probing_allowed, chased_turns, chased_elsewhere}
use Rattle.serial_laws.proofs.Decides.{IsTakenAs}
use Rattle.serial_laws.proofs.GlobalTurnIs.{global_turn_is}
use Rattle.serial_laws.proofs.ProbesRemoved.{CanOnlyRemove}
use Rattle.serial_laws.proofs.SharedRoundIs.{below_real, round_is, none_held}
use Rattle.serial_laws.proofs.TurnsMade.{AreMade, made_both, made_allowed, EachTurn, each_both}
use Rattle.serial_laws.proofs.CallIs.{first_of}

module _ (shape : Shape) (cpu number key_hash : ℕ) (state : State) (shared : shape.common ≡ true) (within : cpu < shape.cpus) (settled : IsSettled shape (lies_in shape state) (bucket_number key_hash shape.buckets) []) where
  abbrev lists : LocalLists
  lists = locals_at shape state cpu

  abbrev set : ListSet
  set = globals_at shape state

  own_there : (lies_in shape state (Local cpu) ≡ in_locals (locals_at shape state cpu)) × (cpu < shape.cpus → (locals_at shape state cpu).steal < shape.cpus)
  own_there = locals_there (lies_in shape state (Local cpu)) (new_locals cpu) (λ (l : LocalLists). cpu < shape.cpus → l.steal < shape.cpus) (settled.fit (Local cpu))

  all_there : lies_in shape state Global ≡ in_global (globals_at shape state)
  all_there = globals_there (lies_in shape state Global) (new_set []) (settled.fit Global)

  -- The head of the own free list

  head_taken : (e : ℕ) (turns : List TurnAt) (free : List ℕ) → turns_of turns ≡ on_lock (Local cpu) (parts.Local (local.Pop key_hash e)) ∷ [] → IsHead e free → IsTakenAs (taken_shared shape cpu number key_hash state lists free) (Some e) turns
  head_taken e turns [] are is = absurd is
  head_taken e turns (x ∷ free) are is =
      record { turns_are = are ∙ ap (λ (y : ℕ). on_lock (Local cpu) (parts.Local (local.Pop key_hash y)) ∷ []) (sym is); got_is = ap Some (sym is) }

  pop_allowed : (e : ℕ) (turns : List TurnAt) → turns_of turns ≡ on_lock (Local cpu) (parts.Local (local.Pop key_hash e)) ∷ [] → AreMade shape cpu number turns state → IsHead e lists.free
  pop_allowed e turns are made =
      let allowed = subst (λ (l : List Turn). AreAllowed shape cpu (lies_in shape state) l) are (made_allowed shape cpu number turns state made) in
      subst (Allows shape cpu (parts.Local (local.Pop key_hash e))) own_there.0 allowed.0

  free_is : (got : Option ℕ) (turns : List TurnAt) → TakesFree cpu key_hash got turns → AreMade shape cpu number turns state → IsTakenAs (taken_shared shape cpu number key_hash state lists lists.free) got turns
  free_is None turns takes made = absurd takes
  free_is (Some e) turns takes made = head_taken e turns lists.free takes (pop_allowed e turns takes made)

  -- A refill

  two_lists : (f : Content → ℕ) → f (lies_in shape state Global) + f (lies_in shape state (Local cpu)) ≤ sum_over f (lies_in shape state) (list_locks shape)
  two_lists f = two_of shape (lies_in shape state) Global (Local cpu) (global_once shape shared) (local_once shape cpu shared within) refl f

  abbrev inner_part : GlobalPart
  inner_part = global_turn state.bits lists.pending set

  abbrev refill_turns : List Turn
  refill_turns = probed shape state Global (parts.Global inner_part) ++ on_lock (Local cpu) (parts.Local (refill_of key_hash inner_part)) ∷ []

  module _ (there : LocalLists) (gave : Option ℕ) (refilling : List TurnAt) (refills : Refills shape cpu key_hash there gave refilling) (made : AreMade shape cpu number refilling state) where
    abbrev part_here : GlobalPart
    part_here = global.Turn refills.flushed refills.active refills.inactive refills.free refills.shrink

    parts_made : AreMade shape cpu number refills.inner state × AreMade shape cpu number (refills.last ∷ []) (all_turned shape cpu number (turns_of refills.inner) state)
    parts_made = made_both shape cpu number refills.inner (refills.last ∷ []) state (subst (λ (l : List TurnAt). AreMade shape cpu number l state) refills.turns_are made)

    abbrev then_state : State
    then_state = all_turned shape cpu number (turns_of refills.inner) state

    last_lies : lies_in shape then_state refills.last.turn.lock ≡ in_locals lists
    last_lies =
        ap (λ (turn : Turn). lies_in shape then_state turn.lock) refills.last_is
        ∙ chased_elsewhere shape cpu number state Global (parts.Global part_here) refills.inner (λ bucket. refl) refills.chased parts_made.0 (Local cpu) (λ bucket. refl) refl
        ∙ own_there.0

    lists_are : there ≡ lists
    lists_are =
        ap (λ (c : Content). unwrap_or (locals_in c) (new_locals cpu)) (sym refills.found_there ∙ ap (content shape refills.last.turn.lock) parts_made.1.0.earlier ∙ last_lies)

    may_refill : AllowsOnLocal shape (local.Refill key_hash (map flush_visit refills.flushed) (refills.free ++ freed_by refills.shrink) gave) lists
    may_refill =
        subst (Allows shape cpu (parts.Local (local.Refill key_hash (map flush_visit refills.flushed) (refills.free ++ freed_by refills.shrink) gave))) last_lies
        (subst (λ (turn : Turn). Allows shape cpu turn.part (lies_in shape then_state refills.last.turn.lock)) refills.last_is parts_made.1.0.allowed)

    hashes : flushed_rows refills.flushed ≡ reverse lists.pending
    hashes = refills.with_hashes ∙ ap (λ (l : LocalLists). reverse l.pending) lists_are

    abbrev rows_here : List Row
    rows_here = flushed_rows refills.flushed ++ (set.lists.active ++ set.lists.inactive)

    rows_are : (e : ℕ) (of : ℕ → Bool) → rows_of e of rows_here ≡ rows_on e of (lies_in shape state Global) + rows_on e of (lies_in shape state (Local cpu))
    rows_are e of =
        let at_there : rows_on e of (lies_in shape state Global) ≡ rows_of e of (set.lists.active ++ set.lists.inactive) = ap (rows_on e of) all_there in
        let at_here : rows_on e of (lies_in shape state (Local cpu)) ≡ rows_of e of lists.pending = ap (rows_on e of) own_there.0 in
        let flushed : rows_of e of (flushed_rows refills.flushed) ≡ rows_of e of (reverse lists.pending) = ap (rows_of e of) hashes in
        omega (arith, at_there, at_here, flushed, rows_append e of (flushed_rows refills.flushed) (set.lists.active ++ set.lists.inactive), rows_reverse e of lists.pending)

    rows_few : (e : ℕ) → rows_of e any rows_here ≤ sum_over (elements_on e) (lies_in shape state) (list_locks shape)
    rows_few e = omega (arith, rows_are e any, rows_fewer e any (lies_in shape state Global), rows_fewer e any (lies_in shape state (Local cpu)), two_lists (elements_on e))

    can_refill : (probes : List Try) → ((e : ℕ) → times e (names_of probes) ≤ rows_of e any rows_here) → CanOnlyRemove shape rows_here (lies_in shape state) probes
    can_refill probes few = record {
      fits = settled.fit;
      few = few;
      there = λ e bucket among. omega (arith, rows_are e (is_of shape bucket), two_lists (rows_on e (is_of shape bucket)), settled.placed e bucket, none_held (eqb (bucket_number key_hash shape.buckets) bucket));
    }

    abbrev turns_here : List Turn
    turns_here = probing shape cpu number state Global (parts.Global part_here) refills.inner (λ bucket. refl) refills.chased parts_made.0

    global_is : part_here ≡ inner_part
    global_is =
        global_turn_is shape cpu (lies_in shape state) state.bits lists.pending set refills.flushed refills.active refills.inactive refills.free refills.shrink
        (λ e. omega (arith, rows_few e, once_on settled e)) (λ e some. below_real shape.elements e (nat_lt e shape.elements) refl (omega (arith, some, rows_few e, settled.once e))) can_refill hashes
        (subst (Allows shape cpu (parts.Global part_here)) all_there (may_there shape cpu number state Global (parts.Global part_here) refills.inner (λ bucket. refl) refills.chased parts_made.0))
        (told_there shape cpu number state Global (parts.Global part_here) refills.inner (λ bucket. refl) refills.chased parts_made.0) turns_here
        (subst (λ (c : Content). Chase shape (flushed_rows refills.flushed ++ listed_rows c) (shrink_probes refills.shrink) turns_here) all_there
        (chase_there shape cpu number state Global (parts.Global part_here) refills.inner (λ bucket. refl) refills.chased parts_made.0))
        (probing_allowed shape cpu number state Global (parts.Global part_here) refills.inner (λ bucket. refl) refills.chased parts_made.0)

    inner_turns : turns_of refills.inner ≡ probed shape state Global (parts.Global inner_part)
    inner_turns =
        chased_turns shape cpu number state Global (parts.Global part_here) refills.inner (λ bucket. refl) refills.chased parts_made.0
        ∙ ap (λ (part : GlobalPart). probed shape state Global (parts.Global part)) global_is

    refill_is : local.Refill key_hash (map flush_visit refills.flushed) (refills.free ++ freed_by refills.shrink) gave ≡ refill_of key_hash inner_part
    refill_is =
        ap (λ (o : Option ℕ). local.Refill key_hash (map flush_visit refills.flushed) (refills.free ++ freed_by refills.shrink) o) may_refill.2
        ∙ ap (refill_of key_hash) global_is

    gave_is : gave ≡ refill_got (refill_of key_hash inner_part)
    gave_is = ap refill_got refill_is

    refilling_turns : turns_of refilling ≡ refill_turns
    refilling_turns =
        ap turns_of refills.turns_are
        ∙ map-append (λ (at : TurnAt). at.turn) refills.inner (refills.last ∷ [])
        ∙ (λ i. inner_turns i ++ (refills.last_is ∙ ap (λ (part : LocalPart). on_lock (Local cpu) (parts.Local part)) refill_is) i ∷ [])

  abbrev later_round : Taking
  later_round = stolen shape cpu key_hash (all_turned shape cpu number refill_turns state) (ring lists.steal shape.cpus)

  -- what came after the refill
  later_is : (got gave : Option ℕ) (refilling stealing : List TurnAt) → lists.free ≡ [] → turns_of refilling ≡ refill_turns → refill_got (refill_of key_hash inner_part) ≡ gave
      → AreMade shape cpu number stealing (all_turned shape cpu number (turns_of refilling) state) → EachTurn (ReadsBits shape) shape cpu number stealing (all_turned shape cpu number (turns_of refilling) state)
      → MatchOption gave (Steals shape cpu key_hash (ring lists.steal shape.cpus) got stealing) (λ e. (stealing ≡ []) × (got ≡ Some e))
      → IsTakenAs (got_or gave later_round) got stealing
  later_is got (Some e) refilling stealing none_free same is made read steals = record { turns_are = ap turns_of steals.0; got_is = steals.1 }
  later_is got None refilling stealing none_free same is made read steals =
      round_is shape cpu number key_hash (all_turned shape cpu number refill_turns state) shared
      (subst (λ (o : Option ℕ). IsSettled shape (lies_in shape (all_turned shape cpu number refill_turns state)) (bucket_number key_hash shape.buckets) (option_to_list o)) is
      (settled_then shape cpu number key_hash state shared within settled none_free))
      (ring lists.steal shape.cpus) (ring_below shape.cpus lists.steal (own_there.1 within)) (all_turned shape cpu number (turns_of refilling) state)
      (ap (λ (turns : List Turn). lies_in shape (all_turned shape cpu number turns state)) same) (ap (λ (turns : List Turn). (all_turned shape cpu number turns state).bits) same) got stealing steals made read

  refilled_is : (got : Option ℕ) (turns : List TurnAt) → TakesByRefill shape cpu key_hash got turns → AreMade shape cpu number turns state → EachTurn (ReadsBits shape) shape cpu number turns state → (lists.free ≡ []) × IsTakenAs (refilled shape cpu number key_hash state lists) got turns
  unfolding refilled
  refilled_is got turns takes made read =
      let both = made_both shape cpu number takes.refilling takes.stealing state (subst (λ (l : List TurnAt). AreMade shape cpu number l state) takes.turns_are made) in
      let both_read = each_both shape cpu number (ReadsBits shape) takes.refilling takes.stealing state (subst (λ (l : List TurnAt). EachTurn (ReadsBits shape) shape cpu number l state) takes.turns_are read) in
      let none_free : lists.free ≡ [] = (may_refill takes.lists takes.gave takes.refilling takes.refills both.0).0 in
      let same = refilling_turns takes.lists takes.gave takes.refilling takes.refills both.0 in
      let gave = gave_is takes.lists takes.gave takes.refilling takes.refills both.0 in
      let here = lists_are takes.lists takes.gave takes.refilling takes.refills both.0 in
      let later : IsTakenAs (got_or takes.gave later_round) got takes.stealing = later_is got takes.gave takes.refilling takes.stealing none_free same (sym gave) both.1 both_read.1
      (subst (λ (l : LocalLists). MatchOption takes.gave (Steals shape cpu key_hash (ring l.steal shape.cpus) got takes.stealing) (λ e. (takes.stealing ≡ []) × (got ≡ Some e))) here takes.steals) in (
        none_free,
        record {
          turns_are = ap turns_of takes.turns_are ∙ map-append (λ (at : TurnAt). at.turn) takes.refilling takes.stealing ∙ (λ i. same i ++ later.turns_are i)
              ∙ ap (λ (o : Option ℕ). refill_turns ++ (got_or o later_round).turns) gave;
          got_is = later.got_is ∙ ap (λ (o : Option ℕ). (got_or o later_round).got) gave;
        },
      )

  -- Either way

  either_is : (got : Option ℕ) (turns : List TurnAt) → TakesFree cpu key_hash got turns ⊎ TakesByRefill shape cpu key_hash got turns → AreMade shape cpu number turns state → EachTurn (ReadsBits shape) shape cpu number turns state
      → IsTakenAs (taken_shared shape cpu number key_hash state lists lists.free) got turns
  either_is got turns (inl takes) made read = free_is got turns takes made
  either_is got turns (inr takes) made read =
      let is = refilled_is got turns takes made read in
      subst (λ (free : List ℕ). IsTakenAs (taken_shared shape cpu number key_hash state lists free) got turns) (sym is.0) is.1

  pub takes_shared_is : (got : Option ℕ) (turns : List TurnAt) → Acquires shape cpu key_hash got turns → AreMade shape cpu number turns state → EachTurn (ReadsBits shape) shape cpu number turns state → IsTakenAs (acquired shape cpu number key_hash state) got turns
  unfolding acquired
  takes_shared_is got turns takes made read =
      subst (λ (taking : Taking). IsTakenAs taking got turns) (sym (cond-true shape.common _ _ shared)) (either_is got turns (first_of shape.common _ _ shared takes) made read)
