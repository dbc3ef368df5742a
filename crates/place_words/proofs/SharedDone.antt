-- A map whose CPUs share lists gives elements out and takes them back by its rules in serial order.
use Rattle.std.proofs.Common.{◌≡◌, ℕ, ◌<◌, Bool, true, List, [], ◌∷◌, ◌++◌, reverse, refl, ap, ◌∙◌, sym, subst, inl, inr, arith}
use Rattle.std.proofs.lemmas.Bool.{cond-true}
use Rattle.std.specs.Prelude.{Option, None, Some, MatchOption, option_to_list, unwrap_or}
use Rattle.map_types.specs.declared.attr.Shape.{Shape}
use Rattle.map_types.specs.declared.kind.DomainId.{DomainId}
use Rattle.map_types.specs.declared.kind.DomainId.TheVariants.{Local, Global}
use Rattle.map_types.specs.declared.row.Row.{Row}
use Rattle.map_types.specs.ElementLists.{IsHead}
use Rattle.key_hash.specs.Bucket.{bucket_number}
use Rattle.place_words.specs.declared.history.Part.{Part}
use Rattle.place_words.specs.declared.history.Part.TheVariants as parts
use Rattle.place_words.specs.declared.list_part.GlobalPart.{GlobalPart}
use Rattle.place_words.specs.declared.list_part.GlobalPart.TheVariants as global
use Rattle.place_words.specs.declared.list_part.LocalPart.{LocalPart}
use Rattle.place_words.specs.declared.list_part.LocalPart.TheVariants as local
use Rattle.place_words.specs.Choices.{global_turn, refill_of, refill_got}
use Rattle.place_words.specs.Histories.{Content, Allows, content_after, in_locals, in_global, locals_in}
use Rattle.place_words.specs.Locals.{LocalLists, new_locals, AllowsOnLocal, local_after}
use Rattle.place_words.specs.Logs.{State, Taking, lies_in, locals_at, globals_at, all_turned, placed, after_turns_of, got_or, stolen, refilled, taken_shared, acquired}
use Rattle.place_words.specs.Sets.{ListSet, new_set}
use Rattle.place_words.specs.Takings.{listed_rows, rows_brought, global_probes, IsChased, Refills, Steals}
use Rattle.place_words.specs.Turns.{Turn, ring, on_lock, after_turn, after_turns, AreAllowed}
use Rattle.place_words.proofs.AcquireLeaves.{refill_leaves_none}
use Rattle.place_words.proofs.ChaseDone.{IsChasing, chasing, chased}
use Rattle.place_words.proofs.DoneLaws.{allowed_both}
use Rattle.place_words.proofs.GlobalChoices.{global_brings}
use Rattle.place_words.proofs.ListSums.{local_once}
use Rattle.place_words.proofs.ListTurns.{rows_fewer, part_of, turn_gives, now_here}
use Rattle.place_words.proofs.PlacedContents.{after_both, lies_after_all}
use Rattle.place_words.proofs.PlacedLaws.{placed-append}
use Rattle.place_words.proofs.RowCounts.{any}
use Rattle.place_words.proofs.Settled.{elements_on, IsFit, IsSettled, once_on}
use Rattle.place_words.proofs.SharedFrees.{locals_there, globals_there, local_no_bucket, frees_shared}
use Rattle.place_words.proofs.SharedRound.{ring_below, rounds}
use Rattle.place_words.proofs.SharedTakes.{once_both, refill_chases, refill_settles, refill_all_allowed}
use Rattle.place_words.proofs.Supplies.{first_of_two, IsTaken, Supplies, row_held, is_chased}

pop_cursor : (key_hash e : ℕ) (lists : LocalLists) → (local_after (local.Pop key_hash e) lists).steal ≡ lists.steal
unfolding local_after
pop_cursor key_hash e lists = refl

-- a global turn that isn't a push
abbrev IsATurn : GlobalPart → Type 0
IsATurn (global.Turn flushed active inactive free shrink) = Unit {0}
IsATurn (global.Push e) = ⊥

is_a_turn : (bits : ℕ → Bool) (pending : List Row) (set : ListSet) → IsATurn (global_turn bits pending set)
unfolding global_turn
is_a_turn bits pending set = tt

module _ (shape : Shape) (cpu number key_hash : ℕ) (state : State) (shared : shape.common ≡ true) (within : cpu < shape.cpus) (settled : IsSettled shape (lies_in shape state) (bucket_number key_hash shape.buckets) []) where
  abbrev home : ℕ
  home = bucket_number key_hash shape.buckets

  abbrev lists : LocalLists
  lists = locals_at shape state cpu

  abbrev set : ListSet
  set = globals_at shape state

  own_there : (lies_in shape state (Local cpu) ≡ in_locals (locals_at shape state cpu)) × (cpu < shape.cpus → (locals_at shape state cpu).steal < shape.cpus)
  own_there = locals_there (lies_in shape state (Local cpu)) (new_locals cpu) (λ (l : LocalLists). cpu < shape.cpus → l.steal < shape.cpus) (settled.fit (Local cpu))

  all_there : lies_in shape state Global ≡ in_global (globals_at shape state)
  all_there = globals_there (lies_in shape state Global) (new_set []) (settled.fit Global)

  -- The head of the own free list

  takes_head : (e : ℕ) (free : List ℕ) → lists.free ≡ e ∷ free → IsTaken shape cpu number key_hash state (record { turns = on_lock (Local cpu) (parts.Local (local.Pop key_hash e)) ∷ []; got = Some e })
  takes_head e free is =
      let part : Part = parts.Local (local.Pop key_hash e) in
      let may : AllowsOnLocal shape (local.Pop key_hash e) lists = subst (IsHead e) (sym is) refl in
      let allowed : Allows shape cpu part (lies_in shape state (Local cpu)) = subst (Allows shape cpu part) (sym own_there.0) may in
      let stands = local_once shape cpu shared within in
      let chases = chased shape cpu (listed_rows (lies_in shape state (Local cpu)))
      (λ x. omega (arith, rows_fewer x any (lies_in shape state (Local cpu)), part_of shape cpu (lies_in shape state) (Local cpu) part stands (elements_on x), once_on settled x)) [] (lies_in shape state)
      (record { fits = settled.fit; removed = tt; few = λ x. omega arith; there = λ x bucket among. absurd (omega (arith, among)) }) in
      record {
        takes = first_of_two shape.common _ _ shared (inl refl);
        allowed = (allowed, tt);
        settled = turn_gives shape cpu (lies_in shape state) home (Local cpu) part stands (local_no_bucket cpu) allowed (refl, refl) [] [] (e ∷ []) settled chases
            (λ x of. refl) (λ x. refl) (λ x bucket. row_held shape key_hash (Some e) x bucket)
            (subst (λ (content : Content). IsFit shape (Local cpu) (content_after shape cpu part content)) (sym own_there.0) (λ below. subst (λ k. k < shape.cpus) (sym (pop_cursor key_hash e lists)) (own_there.1 below)));
      }

  -- A refill

  refills_by : (p : GlobalPart) → IsATurn p → rows_brought (parts.Global p) ≡ reverse lists.pending → (first : List Turn) → IsChased shape Global (parts.Global p) (placed shape cpu number first state)
      → lies_in shape (all_turned shape cpu number first state) (Local cpu) ≡ in_locals lists
      → Refills shape cpu key_hash lists (refill_got (refill_of key_hash p)) (placed shape cpu number (first ++ on_lock (Local cpu) (parts.Local (refill_of key_hash p)) ∷ []) state)
  refills_by (global.Turn flushed active inactive free shrink) is brings first chased_there lies = record {
    flushed = flushed;
    active = active;
    inactive = inactive;
    free = free;
    shrink = shrink;
    inner = placed shape cpu number first state;
    last = record { turn = on_lock (Local cpu) (parts.Local (refill_of key_hash (global.Turn flushed active inactive free shrink))); earlier = (all_turned shape cpu number first state).logs (Local cpu) };
    turns_are = placed-append shape cpu number first (on_lock (Local cpu) (parts.Local (refill_of key_hash (global.Turn flushed active inactive free shrink))) ∷ []) state;
    chased = chased_there;
    last_is = refl;
    found_there = lies;
    with_hashes = brings;
  }
  refills_by (global.Push e) is brings first chased_there lies = absurd is

  abbrev inner : GlobalPart
  inner = global_turn state.bits (locals_at shape state cpu).pending (globals_at shape state)

  abbrev refill : LocalPart
  refill = refill_of key_hash inner

  abbrev chase : List Turn
  chase = chasing shape (rows_brought (parts.Global inner) ++ listed_rows (lies_in shape state Global)) (global_probes inner)

  abbrev first_turns : List Turn
  first_turns = chase ++ on_lock Global (parts.Global inner) ∷ []

  abbrev refill_turns : List Turn
  refill_turns = first_turns ++ on_lock (Local cpu) (parts.Local refill) ∷ []

  abbrev state_then : State
  state_then = all_turned shape cpu number refill_turns state

  module _ (none_free : (locals_at shape state cpu).free ≡ []) where
    chases_there : IsChasing shape cpu (rows_brought (parts.Global inner) ++ listed_rows (lies_in shape state Global)) (lies_in shape state) (global_probes inner) chase
    chases_there = refill_chases shape cpu key_hash state.bits (lies_in shape state) set lists shared within all_there own_there.0 none_free settled

    local_stays : after_turns shape cpu (lies_in shape state) first_turns (Local cpu) ≡ lies_in shape state (Local cpu)
    local_stays =
        ap (λ (c : DomainId → Content). c (Local cpu)) (after_both shape cpu (lies_in shape state) chase (on_lock Global (parts.Global inner) ∷ []))
        ∙ chases_there.elsewhere (Local cpu) (λ bucket. refl)

    refill_is_one : Refills shape cpu key_hash lists (refill_got refill) (placed shape cpu number refill_turns state)
    refill_is_one =
        refills_by inner (is_a_turn state.bits lists.pending set) (global_brings state.bits lists.pending set) first_turns
        (is_chased shape cpu number state Global (parts.Global inner) chase (chases_there.elsewhere Global (λ bucket. refl)) chases_there.chase)
        (ap (λ (c : DomainId → Content). c (Local cpu)) (lies_after_all shape cpu number first_turns state) ∙ local_stays ∙ own_there.0)

    allowed_there : AreAllowed shape cpu (lies_in shape state) refill_turns
    allowed_there = refill_all_allowed shape cpu key_hash state.bits (lies_in shape state) set lists shared within all_there own_there.0 none_free settled

    lies_last : after_turns shape cpu (lies_in shape state) refill_turns ≡ after_turn shape cpu (after_turn shape cpu (after_turns shape cpu (lies_in shape state) chase) (on_lock Global (parts.Global inner))) (on_lock (Local cpu) (parts.Local refill))
    lies_last =
        after_both shape cpu (lies_in shape state) first_turns (on_lock (Local cpu) (parts.Local refill) ∷ [])
        ∙ ap (λ (c : DomainId → Content). after_turn shape cpu c (on_lock (Local cpu) (parts.Local refill))) (after_both shape cpu (lies_in shape state) chase (on_lock Global (parts.Global inner) ∷ []))

    settled_last : IsSettled shape (after_turns shape cpu (lies_in shape state) refill_turns) home (option_to_list (refill_got refill))
    settled_last =
        subst (λ (c : DomainId → Content). IsSettled shape c home (option_to_list (refill_got refill))) (sym lies_last)
        (refill_settles shape cpu key_hash state.bits (lies_in shape state) set lists shared within all_there own_there.0 none_free settled)

    pub settled_then : IsSettled shape (lies_in shape state_then) home (option_to_list (refill_got refill))
    settled_then = subst (λ (c : DomainId → Content). IsSettled shape c home (option_to_list (refill_got refill))) (sym (lies_after_all shape cpu number refill_turns state)) settled_last

    -- the own lists then
    own_then : lies_in shape state_then (Local cpu) ≡ in_locals (local_after refill lists)
    own_then =
        ap (λ (c : DomainId → Content). c (Local cpu)) (lies_after_all shape cpu number refill_turns state ∙ after_both shape cpu (lies_in shape state) first_turns (on_lock (Local cpu) (parts.Local refill) ∷ []))
        ∙ now_here shape cpu (after_turns shape cpu (lies_in shape state) first_turns) (Local cpu) (parts.Local refill) (local_once shape cpu shared within)
        ∙ ap (content_after shape cpu (parts.Local refill)) (local_stays ∙ own_there.0)

    lists_then : locals_at shape state_then cpu ≡ local_after refill lists
    lists_then = ap (λ (content : Content). unwrap_or (locals_in content) (new_locals cpu)) own_then

    -- what came after the refill
    refill_then : (gave : Option ℕ) (later : Taking) → refill_got refill ≡ gave
        → MatchOption gave (Steals shape cpu key_hash (ring lists.steal shape.cpus) later.got (placed shape cpu number later.turns state_then)) (λ e. (placed shape cpu number later.turns state_then ≡ []) × (later.got ≡ Some e))
        → AreAllowed shape cpu (lies_in shape state_then) later.turns → IsSettled shape (after_turns shape cpu (lies_in shape state_then) later.turns) home (option_to_list later.got)
        → IsTaken shape cpu number key_hash state (after_turns_of refill_turns later)
    refill_then gave later is steals allowed done = record {
      takes = first_of_two shape.common _ _ shared (inr (record {
        lists = lists;
        gave = gave;
        refilling = placed shape cpu number refill_turns state;
        stealing = placed shape cpu number later.turns state_then;
        turns_are = placed-append shape cpu number refill_turns later.turns state;
        refills = subst (λ (o : Option ℕ). Refills shape cpu key_hash lists o (placed shape cpu number refill_turns state)) is refill_is_one;
        steals = steals;
      }));
      allowed = allowed_both shape cpu (lies_in shape state) refill_turns later.turns allowed_there (subst (λ (c : DomainId → Content). AreAllowed shape cpu c later.turns) (lies_after_all shape cpu number refill_turns state) allowed);
      settled = subst (λ (c : DomainId → Content). IsSettled shape c home (option_to_list later.got)) (sym (after_both shape cpu (lies_in shape state) refill_turns later.turns))
          (subst (λ (c : DomainId → Content). IsSettled shape (after_turns shape cpu c later.turns) home (option_to_list later.got)) (lies_after_all shape cpu number refill_turns state) done);
    }

    refill_gave : (gave : Option ℕ) → refill_got refill ≡ gave → IsTaken shape cpu number key_hash state (after_turns_of refill_turns (got_or gave (stolen shape cpu key_hash state_then (ring lists.steal shape.cpus))))
    refill_gave (Some e) is = refill_then (Some e) (record { turns = []; got = Some e }) is (refl, refl) tt (subst (λ (o : Option ℕ). IsSettled shape (lies_in shape state_then) home (option_to_list o)) is settled_then)
    refill_gave None is =
        let empty = refill_leaves_none shape cpu key_hash state.bits set lists none_free (once_both shape cpu key_hash state.bits (lies_in shape state) set lists shared within all_there own_there.0 none_free settled) is in
        let round = rounds shape cpu number key_hash state_then shared within (subst (λ (o : Option ℕ). IsSettled shape (lies_in shape state_then) home (option_to_list o)) is settled_then)
        (ap (λ (l : LocalLists). l.free) lists_then ∙ empty.0) (ap (λ (l : LocalLists). l.pending) lists_then ∙ empty.1)
        (ring lists.steal shape.cpus) (ring_below shape.cpus lists.steal (own_there.1 within)) state_then refl in
        refill_then None (stolen shape cpu key_hash state_then (ring lists.steal shape.cpus)) is round.steals round.allowed round.settled_then

    takes_refilled : IsTaken shape cpu number key_hash state (refilled shape cpu number key_hash state lists)
    unfolding refilled
    takes_refilled = refill_gave (refill_got refill) refl

  takes_where : (free : List ℕ) → lists.free ≡ free → IsTaken shape cpu number key_hash state (taken_shared shape cpu number key_hash state lists free)
  takes_where [] is = takes_refilled is
  takes_where (e ∷ free) is = takes_head e free is

  pub takes_shared : IsTaken shape cpu number key_hash state (acquired shape cpu number key_hash state)
  unfolding acquired
  takes_shared = subst (λ (taking : Taking). IsTaken shape cpu number key_hash state taking) (sym (cond-true shape.common _ _ shared)) (takes_where lists.free refl)

-- Each CPU gives out of its local lists, and what is freed goes back where it is pending, or to the global lists.
pub shared_supplies : (shape : Shape) (cpu : ℕ) → shape.common ≡ true → cpu < shape.cpus → Supplies shape cpu
shared_supplies shape cpu shared within = record {
  takes = λ number key_hash state settled. takes_shared shape cpu number key_hash state shared within settled;
  frees = λ number state home e hand settled. frees_shared shape cpu number state home e hand shared settled;
}
