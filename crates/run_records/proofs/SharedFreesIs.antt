-- On a map whose CPUs share lists, the turn that frees an element is determined where no push finds its element moved. A trace alone
-- leaves two ways to free an element that a refill flushed: by the global lists, or by a push on local lists that finds it moved, and
-- then by the global lists.
use Rattle.std.proofs.Common.{◌≡◌, ◌⊎◌, ℕ, ◌<◌, ◌≤◌, Bool, true, List, [], ◌∷◌, ◌++◌, Option, None, Some, refl, ap, ◌∙◌, sym, subst, inl, inr, ⊎_elim, arith}
use Rattle.std.specs.Prelude.{IsTrue, IsFalse, find, nat_lt}
use Rattle.std.specs.List.{range_with_len}
use Rattle.std.proofs.lemmas.Bool.{both_ways, cases_eq, cond-true, ltb-true, and_parts, ne_eqb}
use Rattle.map_types.specs.declared.attr.Shape.{Shape}
use Rattle.map_types.specs.declared.kind.DomainId.TheVariants.{Local, Global}
use Rattle.place_words.specs.declared.history.Part.TheVariants as parts
use Rattle.place_words.specs.declared.list_part.GlobalPart.TheVariants as global
use Rattle.place_words.specs.declared.list_part.LocalPart.TheVariants as local
use Rattle.place_words.specs.Histories.{Allows, in_locals, in_global}
use Rattle.place_words.specs.Locals.{LocalLists, new_locals}
use Rattle.place_words.specs.Locks.{is_lock}
use Rattle.place_words.specs.Logs.{State, lies_in, locals_at, globals_at, freed_at, freeing}
use Rattle.place_words.specs.RowMoves.{rows_of}
use Rattle.place_words.specs.Sets.{ListSet, new_set, has_row, is_listed}
use Rattle.place_words.specs.Takings.{FreesPending, FreesFlushed, freed_globally, Frees}
use Rattle.place_words.specs.Turns.{Turn, TurnAt, turns_of, on_lock}
use Rattle.place_words.proofs.KeepLaws.{has_one, listed_one}
use Rattle.place_words.proofs.ListSums.{local_once, global_once}
use Rattle.place_words.proofs.ListTurns.{rows_fewer}
use Rattle.place_words.proofs.RowCounts.{any, rows_append}
use Rattle.place_words.proofs.Settled.{rows_on, elements_on, IsSettled, once_on}
use Rattle.place_words.proofs.SharedFrees.{locals_there, globals_there, found_within, missed_within}
use Rattle.place_words.proofs.TwoLists.{two_of}
use Rattle.place_table.specs.Calls.{finds_moved_on}
use Rattle.serial_laws.proofs.BitsRead.{ReadsBits}
use Rattle.serial_laws.proofs.Decides.{Decides}
use Rattle.serial_laws.proofs.LooksTold.{heads}
use Rattle.serial_laws.proofs.SharedTakesIs.{takes_shared_is}
use Rattle.serial_laws.proofs.TurnsMade.{AreMade, EachTurn, each_weaker}
use Rattle.serial_laws.proofs.CallIs.{first_of}

-- what is asked of each turn of a call where CPUs share lists, beside that it may be made there and tells what it clears
abbrev pub TellsShared : Shape → State → Turn → Type 0
TellsShared shape state turn = ReadsBits shape state turn × IsFalse (finds_moved_on turn.part)

module _ (shape : Shape) (cpu number : ℕ) (state : State) (home e : ℕ) (hand : List ℕ) (shared : shape.common ≡ true) (settled : IsSettled shape (lies_in shape state) home (e ∷ hand)) where
  abbrev is_pending : ℕ → Bool
  is_pending c = has_row e (locals_at shape state c).pending

  lies_there : (c : ℕ) → lies_in shape state (Local c) ≡ in_locals (locals_at shape state c)
  lies_there c = (locals_there (lies_in shape state (Local c)) (new_locals c) (λ (l : LocalLists). c < shape.cpus → l.steal < shape.cpus) (settled.fit (Local c))).0

  all_there : lies_in shape state Global ≡ in_global (globals_at shape state)
  all_there = globals_there (lies_in shape state Global) (new_set []) (settled.fit Global)

  pending_there : (c : ℕ) → is_pending c ≡ true → 1 ≤ elements_on e (lies_in shape state (Local c))
  pending_there c has =
      let rows : rows_on e any (lies_in shape state (Local c)) ≡ rows_of e any (locals_at shape state c).pending = ap (rows_on e any) (lies_there c) in
      omega (arith, rows, has_one e (locals_at shape state c).pending has, rows_fewer e any (lies_in shape state (Local c)))

  -- it is pending under one lock
  one_pending : (c d : ℕ) → c < shape.cpus → d < shape.cpus → is_pending c ≡ true → is_pending d ≡ true → c ≡ d
  one_pending c d below_c below_d has_c has_d =
      ⊎_elim
      (λ (same : c ≡ d). same)
      (λ (other : c ≡ d → ⊥).
      absurd (omega (
        arith,
        pending_there c has_c,
        pending_there d has_d,
        two_of shape (lies_in shape state) (Local c) (Local d) (local_once shape c shared below_c) (local_once shape d shared below_d) (ne_eqb c d other) (elements_on e),
        once_on settled e,
      )))
      (cases_eq c d)

  listed_there : is_listed e (globals_at shape state).lists ≡ true → 1 ≤ elements_on e (lies_in shape state Global)
  listed_there is =
      let set : ListSet = globals_at shape state in
      let rows : rows_on e any (lies_in shape state Global) ≡ rows_of e any (set.lists.active ++ set.lists.inactive) = ap (rows_on e any) all_there in
      omega (arith, rows, listed_one e set.lists is, rows_append e any set.lists.active set.lists.inactive, rows_fewer e any (lies_in shape state Global))

  not_both : (c : ℕ) → c < shape.cpus → is_pending c ≡ true → is_listed e (globals_at shape state).lists ≡ true → ⊥
  not_both c below has is =
      omega (
        arith,
        pending_there c has,
        listed_there is,
        two_of shape (lies_in shape state) Global (Local c) (global_once shape shared) (local_once shape c shared below) refl (elements_on e),
        once_on settled e,
      )

  -- it was pending
  local_freed : (on : ℕ) (found : Option ℕ) → on < shape.cpus → is_pending on ≡ true → find is_pending (range_with_len 0 shape.cpus) ≡ found → on_lock (Local on) (parts.Local (local.Push e true)) ≡ freed_at e found
  local_freed on None below has is = absurd (both_ways (is_pending on) (missed_within is_pending 0 shape.cpus is on (omega arith) (omega (arith, below))) has)
  local_freed on (Some c) below has is =
      let within = found_within is_pending 0 shape.cpus c is in
      ap (λ (x : ℕ). on_lock (Local x) (parts.Local (local.Push e true))) (one_pending on c below (omega (arith, within.0)) has within.1)

  -- or on the global lists
  global_freed : (found : Option ℕ) → is_listed e (globals_at shape state).lists ≡ true → find is_pending (range_with_len 0 shape.cpus) ≡ found → freed_globally e ≡ freed_at e found
  global_freed None listed is = refl
  global_freed (Some c) listed is = let within = found_within is_pending 0 shape.cpus c is in absurd (not_both c (omega (arith, within.0)) within.1 listed)

  freeing_is : freeing shape state e ≡ freed_at e (find is_pending (range_with_len 0 shape.cpus))
  unfolding freeing
  freeing_is = cond-true shape.common _ _ shared

  -- a single turn may be made there
  one_made : (turn : Turn) (turns : List TurnAt) → turns_of turns ≡ turn ∷ [] → AreMade shape cpu number turns state → IsTrue (is_lock shape turn.lock) × Allows shape cpu turn.part (lies_in shape state turn.lock)
  one_made turn [] is made = absurd (none is)
    where
      none : {x : Turn} → [] ≡ x ∷ [] → ⊥
      none same = grind (arith, same)
  one_made turn (at ∷ turns) is made =
      let same : at.turn ≡ turn = heads _ _ _ _ is in
      (subst (λ (t : Turn). IsTrue (is_lock shape t.lock)) same made.0.there, subst (λ (t : Turn). Allows shape cpu t.part (lies_in shape state t.lock)) same made.0.allowed)

  pending_freed : (turns : List TurnAt) → FreesPending e turns → AreMade shape cpu number turns state → turns_of turns ≡ freed_at e (find is_pending (range_with_len 0 shape.cpus)) ∷ []
  pending_freed turns frees made =
      let one = one_made (on_lock (Local frees.on) (parts.Local (local.Push e true))) turns frees.turns_are made in
      let below : frees.on < shape.cpus = ltb-true frees.on shape.cpus (and_parts shape.common (nat_lt frees.on shape.cpus) one.0).1 in
      let has : is_pending frees.on ≡ true = subst (Allows shape cpu (parts.Local (local.Push e true))) (lies_there frees.on) one.1 in
      frees.turns_are ∙ ap (λ (turn : Turn). turn ∷ []) (local_freed frees.on (find is_pending (range_with_len 0 shape.cpus)) below has refl)

  globally_freed : (turns : List TurnAt) → turns_of turns ≡ freed_globally e ∷ [] → AreMade shape cpu number turns state → turns_of turns ≡ freed_at e (find is_pending (range_with_len 0 shape.cpus)) ∷ []
  globally_freed turns are made =
      let one = one_made (freed_globally e) turns are made in
      let listed : is_listed e (globals_at shape state).lists ≡ true = subst (Allows shape cpu (parts.Global (global.Push e))) all_there one.1 in
      are ∙ ap (λ (turn : Turn). turn ∷ []) (global_freed (find is_pending (range_with_len 0 shape.cpus)) listed refl)

  no_flushed : (turns : List TurnAt) → FreesFlushed e turns → EachTurn (TellsShared shape) shape cpu number turns state → ⊥
  no_flushed turns frees each =
      let first = subst (λ (l : List TurnAt). EachTurn (TellsShared shape) shape cpu number l state) frees.turns_are each in
      both_ways true (subst (λ (turn : Turn). IsFalse (finds_moved_on turn.part)) frees.first_is first.0.1) refl

  pub frees_shared_is : (turns : List TurnAt) → Frees shape e turns → AreMade shape cpu number turns state → EachTurn (TellsShared shape) shape cpu number turns state → turns_of turns ≡ freeing shape state e ∷ []
  frees_shared_is turns frees made each = by (first_of shape.common _ _ shared frees) ∙ ap (λ (turn : Turn). turn ∷ []) (sym freeing_is)
    where
      by : FreesPending e turns ⊎ (FreesFlushed e turns ⊎ (turns_of turns ≡ freed_globally e ∷ [])) → turns_of turns ≡ freed_at e (find is_pending (range_with_len 0 shape.cpus)) ∷ []
      by (inl pending) = pending_freed turns pending made
      by (inr (inl flushed)) = absurd (no_flushed turns flushed each)
      by (inr (inr globally)) = globally_freed turns globally made

-- Where each turn tells the bits that it reads, and each push finds its element pending, takings and freeings are determined.
pub shared_decides : (shape : Shape) (cpu : ℕ) → shape.common ≡ true → cpu < shape.cpus → Decides (TellsShared shape) shape cpu
shared_decides shape cpu shared within = record {
  takes = λ number key_hash state got turns settled acquires made each.
      takes_shared_is shape cpu number key_hash state shared within settled got turns acquires made (each_weaker shape cpu number (TellsShared shape) (ReadsBits shape) (λ now turn tells. tells.0) turns state each);
  frees = λ number state home e others turns settled frees made each. frees_shared_is shape cpu number state home e others shared settled turns frees made each;
}
