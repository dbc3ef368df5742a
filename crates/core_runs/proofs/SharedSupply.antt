-- On a map whose CPUs share lists, every taking of an element and every freeing of one is a run of the core.
use Rattle.std.proofs.Common.{◌≡◌, ◌⊎◌, ℕ, ◌<◌, Bool, true, false, ◌||◌, ltb, List, [], ◌∷◌, ◌++◌, map, Option, None, Some, refl, ap, ◌∙◌, sym, subst, ⊎_elim, arith}
use Rattle.std.specs.Prelude.{IsTrue, MatchOption, option_to_list}
use Rattle.std.proofs.lemmas.Bool.{cases_Bool, ltb-true, and_parts}
use Rattle.std.proofs.lemmas.List.{append_assoc, append-nil}
use Rattle.std.proofs.lemmas.List.Elements.{All-head}
use Rattle.map_types.specs.declared.attr.Shape.{Shape}
use Rattle.map_types.specs.declared.kind.DomainId.{DomainId}
use Rattle.map_types.specs.declared.kind.DomainId.TheVariants.{Local, Global}
use Rattle.map_types.specs.Kind.{is_lru}
use Rattle.map_types.specs.Shape.{HasBounds}
use Rattle.map_types.specs.Listed.{elements_of}
use Rattle.map_types.specs.ElementLists.{times, IsIn}
use Rattle.map_types.proofs.RowLemmas.{times_append}
use Rattle.place_words.specs.declared.history.Part.TheVariants as parts
use Rattle.place_words.specs.declared.list_part.GlobalPart.TheVariants as global
use Rattle.place_words.specs.declared.list_part.LocalPart.TheVariants as local
use Rattle.place_words.specs.Globals.{AllowsOnGlobal}
use Rattle.place_words.specs.Histories.{Content, in_locals, content_after, Allows}
use Rattle.place_words.specs.Locals.{LocalLists, AllowsOnLocal, local_after}
use Rattle.place_words.specs.Locks.{is_lock}
use Rattle.place_words.specs.Logs.{State, lies_in, all_turned, placed}
use Rattle.place_words.specs.Sets.{ListSet, is_listed, has_row}
use Rattle.place_words.specs.Takings.{Refills, Steals, TakesFree, TakesByRefill, FreesPending, FreesFlushed, Frees, freed_globally, ring_next}
use Rattle.place_words.specs.Turns.{Turn, TurnAt, turns_of, on_lock, ring, after_turn, after_turns, AreAllowed}
use Rattle.place_words.proofs.LockLemmas.{same_lock}
use Rattle.place_words.proofs.PlacedContents.{after_both, lies_after_all}
use Rattle.place_words.proofs.PlacedLaws.{placed_turns}
use Rattle.place_words.proofs.Settled.{turned_here}
use Rattle.place_words.specs.State.{rows}
use Rattle.place_words.proofs.ElementLemmas.{times_cons_same}
use Rattle.place_words.specs.Interleaving.{set_lists, lists_in}
use Rattle.core_runs.proofs.BucketGoes.{IsListed}
use Rattle.core_runs.proofs.Chases.{placed_split, turns_split, row_inside}
use Rattle.core_runs.proofs.Evictions.{Hands}
use Rattle.core_runs.proofs.ListGoes.{goes_pop, goes_push_done, goes_push_global}
use Rattle.core_runs.proofs.OwnCalls.{AreFine, Nobody}
use Rattle.core_runs.proofs.PlainNests.{allowed_parts}
use Rattle.core_runs.proofs.PlainGoes.{Goes, goes_both, goes_quiet}
use Rattle.core_runs.proofs.SharedCalls.{on_locals, on_global, AreOnLocks, on_parts, fine_both, known_more, refill_goes, steals_go}
use Rattle.core_runs.proofs.SharedMoves.{local_lock}

module _ {shape : Shape} (bounds : HasBounds shape) (lru : is_lru shape.kind ≡ true) (common : IsTrue shape.common) {cpu : ℕ} (within : cpu < shape.cpus) where
  -- an element is taken from the own free list, by a refill, or from another CPU
  pub shared_takes : (number hash : ℕ) (got : Option ℕ) (turns : List Turn) (state : State)
      → TakesFree cpu hash got (placed shape cpu number turns state) ⊎ TakesByRefill shape cpu hash got (placed shape cpu number turns state)
      → AreFine turns → AreOnLocks shape turns → AreAllowed shape cpu (lies_in shape state) turns
      → Goes shape cpu (lies_in shape state) Nobody turns (Hands cpu (option_to_list got) Nobody)
  shared_takes number hash got turns state takes fine on allowed = ⊎_elim (λ free. from_free got free) (λ refill. by_refill refill) takes
    where
      from_free : (got : Option ℕ) → TakesFree cpu hash got (placed shape cpu number turns state) → Goes shape cpu (lies_in shape state) Nobody turns (Hands cpu (option_to_list got) Nobody)
      from_free None none = absurd none
      from_free (Some e) is =
          let turn : Turn = on_lock (Local cpu) (parts.Local (local.Pop hash e)) in
          let are : turns ≡ turn ∷ [] = sym (placed_turns shape cpu number turns state) ∙ is in
          let mine = on_locals (lies_in shape state (Local cpu)) (AllowsOnLocal shape (local.Pop hash e)) (subst (AreAllowed shape cpu (lies_in shape state)) are allowed).0 in
          subst (λ (l : List Turn). Goes shape cpu (lies_in shape state) Nobody l (Hands cpu (e ∷ []) Nobody)) (sym are)
          (known_more (lies_in shape state) (turn ∷ []) Nobody (Hands cpu (e ∷ []) Nobody) (goes_pop bounds common within (lies_in shape state) Nobody e hash [] mine.lists mine.lies mine.fact))

      go_on : (gave : Option ℕ) (xs ys : List Turn) (rest : List TurnAt) (lists : LocalLists) → turns_of rest ≡ ys → Goes shape cpu (lies_in shape state) Nobody xs (Hands cpu (option_to_list gave) Nobody)
          → rest ≡ placed shape cpu number ys (all_turned shape cpu number xs state) → AreFine ys → AreOnLocks shape ys → AreAllowed shape cpu (after_turns shape cpu (lies_in shape state) xs) ys
          → MatchOption gave (Steals shape cpu hash (ring lists.steal shape.cpus) got rest) (λ e. (rest ≡ []) × (got ≡ Some e))
          → Goes shape cpu (lies_in shape state) Nobody (xs ++ ys) (Hands cpu (option_to_list got) Nobody)
      go_on None xs ys rest lists is first rest_is fine_rest on_rest may steals =
          let passed : State = all_turned shape cpu number xs state in
          let lies_then : lies_in shape passed ≡ after_turns shape cpu (lies_in shape state) xs = lies_after_all shape cpu number xs state in
          goes_both (lies_in shape state) Nobody (Hands cpu [] Nobody) (Hands cpu (option_to_list got) Nobody) xs ys first
          (subst (λ (c : DomainId → Content). Goes shape cpu c (Hands cpu [] Nobody) ys (Hands cpu (option_to_list got) Nobody)) lies_then
          (steals_go bounds lru common within number hash got (ring lists.steal shape.cpus) ys passed Nobody (subst (Steals shape cpu hash (ring lists.steal shape.cpus) got) rest_is steals) fine_rest on_rest (subst (λ (c : DomainId → Content). AreAllowed shape cpu c ys) (sym lies_then) may)))
      go_on (Some e) xs ys rest lists is first rest_is fine_rest on_rest may ends =
          let none : ys ≡ [] = sym is ∙ ap turns_of ends.0 in
          subst (λ (l : List Turn). Goes shape cpu (lies_in shape state) Nobody (xs ++ l) (Hands cpu (option_to_list got) Nobody)) (sym none)
          (subst (λ (l : List Turn). Goes shape cpu (lies_in shape state) Nobody l (Hands cpu (option_to_list got) Nobody)) (sym (append-nil xs))
          (subst (λ (o : Option ℕ). Goes shape cpu (lies_in shape state) Nobody xs (Hands cpu (option_to_list o) Nobody)) (sym ends.1) first))

      by_refill : TakesByRefill shape cpu hash got (placed shape cpu number turns state) → Goes shape cpu (lies_in shape state) Nobody turns (Hands cpu (option_to_list got) Nobody)
      by_refill is =
          let split = placed_split shape cpu number turns state is.refilling is.stealing is.turns_are in
          let xs : List Turn = turns_of is.refilling in
          let ys : List Turn = turns_of is.stealing in
          let all : turns ≡ xs ++ ys = sym (placed_turns shape cpu number turns state) ∙ ap turns_of is.turns_are ∙ turns_split is.refilling is.stealing in
          let fines = fine_both xs ys (subst AreFine all fine) in
          let ons = on_parts shape xs ys (subst (AreOnLocks shape) all on) in
          let may = allowed_parts shape cpu (lies_in shape state) xs ys (subst (AreAllowed shape cpu (lies_in shape state)) all allowed) in
          subst (λ (l : List Turn). Goes shape cpu (lies_in shape state) Nobody l (Hands cpu (option_to_list got) Nobody)) (sym all)
          (go_on is.gave xs ys is.stealing is.lists refl
          (refill_goes bounds lru common within number hash is.lists is.gave xs state Nobody (subst (Refills shape cpu hash is.lists is.gave) split.first is.refills) fines.0 may.0)
          split.second fines.1 ons.1 may.1 is.steals)

  -- An element of the hand is freed: where it is pending, or on the global lists.
  pub shared_frees : (contents : DomainId → Content) (e : ℕ) (hand : List ℕ) (freeing : List TurnAt) → times e hand ≡ 0 → FreesPending e freeing ⊎ (FreesFlushed e freeing ⊎ (turns_of freeing ≡ freed_globally e ∷ [])) → AreOnLocks shape (turns_of freeing) → AreAllowed shape cpu contents (turns_of freeing)
      → Goes shape cpu contents (Hands cpu (e ∷ hand) Nobody) (turns_of freeing) (Hands cpu hand Nobody)
  unfolding local_after
  shared_frees contents e hand freeing gone frees on allowed =
      ⊎_elim
      (λ pending. of_turns (turns_of freeing) (on_lock (Local pending.on) (parts.Local (local.Push e true)) ∷ []) pending.turns_are on allowed (λ on_then may. pushed contents pending.on on_then may))
      (λ others. ⊎_elim
      (λ flushed. of_turns (turns_of freeing) (on_lock (Local flushed.on) (parts.Local (local.Push e false)) ∷ freed_globally e ∷ [])
      (ap turns_of flushed.turns_are ∙ ap (λ (t : Turn). t ∷ flushed.second.turn ∷ []) flushed.first_is ∙ ap (λ (t : Turn). on_lock (Local flushed.on) (parts.Local (local.Push e false)) ∷ t ∷ []) flushed.second_is) on allowed
      (λ on_then may. moved contents flushed.on on_then may))
      (λ globally. of_turns (turns_of freeing) (freed_globally e ∷ []) globally on allowed (λ on_then may. in_global_lists contents may.0)) others)
      frees
    where
      of_turns : (xs ys : List Turn) → xs ≡ ys → AreOnLocks shape xs → AreAllowed shape cpu contents xs → (AreOnLocks shape ys → AreAllowed shape cpu contents ys → Goes shape cpu contents (Hands cpu (e ∷ hand) Nobody) ys (Hands cpu hand Nobody))
          → Goes shape cpu contents (Hands cpu (e ∷ hand) Nobody) xs (Hands cpu hand Nobody)
      of_turns xs ys same on_them may goes = subst (λ (l : List Turn). Goes shape cpu contents (Hands cpu (e ∷ hand) Nobody) l (Hands cpu hand Nobody)) (sym same) (goes (subst (AreOnLocks shape) same on_them) (subst (AreAllowed shape cpu contents) same may))

      in_global_lists : (contents : DomainId → Content) → Allows shape cpu (parts.Global (global.Push e)) (contents Global) → Goes shape cpu contents (Hands cpu (e ∷ hand) Nobody) (freed_globally e ∷ []) (Hands cpu hand Nobody)
      in_global_lists contents may =
          let there = on_global (contents Global) (AllowsOnGlobal (global.Push e)) may in
          goes_push_global bounds common within contents Nobody e hand there.set there.lies there.fact (listed_inside there.set there.fact) gone (λ c x none. absurd none)
        where
          listed_inside : (set : ListSet) → is_listed e set.lists ≡ true → IsIn e (rows (set_lists set))
          listed_inside set is =
              let sum = times_append e (elements_of set.lists.active) (elements_of set.lists.inactive) in
              ⊎_elim
              (λ (active : has_row e set.lists.active ≡ true). let inside = row_inside e set.lists.active active in omega (arith, sum, inside))
              (λ (no : has_row e set.lists.active ≡ false). let inside = row_inside e set.lists.inactive (subst (λ (b : Bool). (b || has_row e set.lists.inactive) ≡ true) no is) in omega (arith, sum, inside))
              (cases_Bool (has_row e set.lists.active))

      local_within : (on : ℕ) → IsTrue (is_lock shape (Local on)) → on < shape.cpus
      local_within on is = ltb-true on shape.cpus (and_parts shape.common (ltb on shape.cpus) is).1

      pushed : (contents : DomainId → Content) (on : ℕ) → AreOnLocks shape (on_lock (Local on) (parts.Local (local.Push e true)) ∷ []) → AreAllowed shape cpu contents (on_lock (Local on) (parts.Local (local.Push e true)) ∷ [])
          → Goes shape cpu contents (Hands cpu (e ∷ hand) Nobody) (on_lock (Local on) (parts.Local (local.Push e true)) ∷ []) (Hands cpu hand Nobody)
      pushed contents on on_then may =
          let there = on_locals (contents (Local on)) (AllowsOnLocal shape (local.Push e true)) may.0 in
          goes_push_done bounds common within contents Nobody e hand on there.lists (local_within on (All-head (λ (t : Turn). IsTrue (is_lock shape t.lock)) (on_lock (Local on) (parts.Local (local.Push e true))) [] on_then)) there.lies (row_inside e there.lists.pending there.fact) gone (λ c x none. absurd none)

      moved : (contents : DomainId → Content) (on : ℕ) → AreOnLocks shape (on_lock (Local on) (parts.Local (local.Push e false)) ∷ freed_globally e ∷ []) → AreAllowed shape cpu contents (on_lock (Local on) (parts.Local (local.Push e false)) ∷ freed_globally e ∷ [])
          → Goes shape cpu contents (Hands cpu (e ∷ hand) Nobody) (on_lock (Local on) (parts.Local (local.Push e false)) ∷ freed_globally e ∷ []) (Hands cpu hand Nobody)
      moved contents on on_then may =
          let turn : Turn = on_lock (Local on) (parts.Local (local.Push e false)) in
          let there = on_locals (contents (Local on)) (AllowsOnLocal shape (local.Push e false)) may.0 in
          let less = local_within on (All-head (λ (t : Turn). IsTrue (is_lock shape t.lock)) turn (freed_globally e ∷ []) on_then) in
          goes_both contents (Hands cpu (e ∷ hand) Nobody) (Hands cpu (e ∷ hand) Nobody) (Hands cpu hand Nobody) (turn ∷ []) (freed_globally e ∷ [])
          (goes_quiet bounds within contents (Hands cpu (e ∷ hand) Nobody) turn refl (local_lock shape on common less) refl refl
          (ap lists_in (there.lies ∙ sym (turned_here shape cpu contents turn (Local on) (same_lock (Local on)) ∙ ap (content_after shape cpu turn.part) there.lies))))
          (in_global_lists (after_turn shape cpu contents turn) may.1.0)

-- What was taken is pending on the own lists then.

-- the last turn makes an element pending
pub record EndsPending (cpu e : ℕ) (turns : List Turn) : Type 0 where
  pub before : List Turn
  pub part : Rattle.place_words.specs.declared.list_part.LocalPart.LocalPart
  pub turns_are : turns ≡ before ++ on_lock (Local cpu) (parts.Local part) ∷ []
  pub pending : (lists : LocalLists) → IsIn e (elements_of (local_after part lists).pending)

steals_end : (shape : Shape) (cpu hash e : ℕ) (cpus : List ℕ) (turns : List TurnAt) → Steals shape cpu hash cpus (Some e) turns → EndsPending cpu e (turns_of turns)
unfolding local_after
steals_end shape cpu hash e [] turns steals = absurd (let none : Some e ≡ None = steals.1 in cc)
steals_end shape cpu hash e (from ∷ others) turns (tried, rest, stolen, first, second, turns_are, chased, goes_on) = by (Rattle.place_words.specs.Takings.stolen_element stolen) goes_on (λ later. steals_end shape cpu hash e others rest later)
  where
    more : EndsPending cpu e (turns_of rest) → EndsPending cpu e (turns_of turns)
    more ends = record {
      before = turns_of tried ++ ends.before;
      part = ends.part;
      turns_are = ap turns_of turns_are ∙ turns_split tried rest ∙ ap (λ (l : List Turn). turns_of tried ++ l) ends.turns_are ∙ sym (append_assoc (turns_of tried) ends.before (on_lock (Local cpu) (parts.Local ends.part) ∷ []));
      pending = ends.pending;
    }

    by : (o : Option ℕ) → MatchOption o (Steals shape cpu hash others (Some e) rest) (λ x. (Some e ≡ Some x) × (turns_of rest ≡ Rattle.place_words.specs.Takings.brings_home shape cpu hash from x ∷ [])) → (Steals shape cpu hash others (Some e) rest → EndsPending cpu e (turns_of rest)) → EndsPending cpu e (turns_of turns)
    by None later ends = more (ends later)
    by (Some x) home ends =
        let same : x ≡ e = Rattle.std.proofs.lemmas.Option.same_Some x e (sym home.0) in
        more (record {
          before = [];
          part = local.Add hash x (ring_next from shape.cpus);
          turns_are = home.1;
          pending = λ lists. subst (λ (y : ℕ). IsIn e (y ∷ elements_of lists.pending)) (sym same) (let here = times_cons_same e (elements_of lists.pending) in omega (arith, here));
        })

module _ {shape : Shape} (common : IsTrue shape.common) {cpu : ℕ} (within : cpu < shape.cpus) where
  takes_end : (hash e : ℕ) (turns : List TurnAt) → TakesFree cpu hash (Some e) turns ⊎ TakesByRefill shape cpu hash (Some e) turns → EndsPending cpu e (turns_of turns)
  unfolding local_after
  takes_end hash e turns takes = ⊎_elim free (λ (is : TakesByRefill shape cpu hash (Some e) turns). refilled is is.gave refl) takes
    where
      free : TakesFree cpu hash (Some e) turns → EndsPending cpu e (turns_of turns)
      free is = record { before = []; part = local.Pop hash e; turns_are = is; pending = λ lists. let here = times_cons_same e (elements_of lists.pending) in omega (arith, here) }

      go : (is : TakesByRefill shape cpu hash (Some e) turns) (gave : Option ℕ) → is.gave ≡ gave → Refills shape cpu hash is.lists gave is.refilling → MatchOption gave (Steals shape cpu hash (ring is.lists.steal shape.cpus) (Some e) is.stealing) (λ x. (is.stealing ≡ []) × (Some e ≡ Some x)) → EndsPending cpu e (turns_of turns)
      go is None gave_is refills steals =
          let ends = steals_end shape cpu hash e (ring is.lists.steal shape.cpus) is.stealing steals in
          record {
            before = turns_of is.refilling ++ ends.before;
            part = ends.part;
            turns_are = ap turns_of is.turns_are ∙ turns_split is.refilling is.stealing ∙ ap (λ (l : List Turn). turns_of is.refilling ++ l) ends.turns_are ∙ sym (append_assoc (turns_of is.refilling) ends.before (on_lock (Local cpu) (parts.Local ends.part) ∷ []));
            pending = ends.pending;
          }
      go is (Some x) gave_is refills ends =
          let same : x ≡ e = Rattle.std.proofs.lemmas.Option.same_Some x e (sym ends.1) in
          record {
            before = turns_of refills.inner;
            part = local.Refill hash (map Rattle.place_words.specs.Globals.flush_visit refills.flushed) (refills.free ++ Rattle.place_words.specs.Takings.freed_by refills.shrink) (Some x);
            turns_are = ap turns_of is.turns_are ∙ turns_split is.refilling is.stealing ∙ ap (λ (l : List TurnAt). turns_of is.refilling ++ turns_of l) ends.0 ∙ append-nil (turns_of is.refilling)
                ∙ ap turns_of refills.turns_are ∙ turns_split refills.inner (refills.last ∷ []) ∙ ap (λ (t : Turn). turns_of refills.inner ++ t ∷ []) refills.last_is;
            pending = λ lists. subst (λ (y : ℕ). IsIn e (y ∷ [])) (sym same) (let here = times_cons_same e [] in omega (arith, here));
          }

      refilled : (is : TakesByRefill shape cpu hash (Some e) turns) (gave : Option ℕ) → is.gave ≡ gave → EndsPending cpu e (turns_of turns)
      refilled is gave same = go is is.gave refl is.refills is.steals

  pub shared_listed : (number hash e : ℕ) (turns : List Turn) (state : State) → TakesFree cpu hash (Some e) (placed shape cpu number turns state) ⊎ TakesByRefill shape cpu hash (Some e) (placed shape cpu number turns state)
      → AreAllowed shape cpu (lies_in shape state) turns → IsListed shape (after_turns shape cpu (lies_in shape state) turns) e
  shared_listed number hash e turns state takes allowed =
      let ends = takes_end hash e (placed shape cpu number turns state) takes in
      let last : Turn = on_lock (Local cpu) (parts.Local ends.part) in
      let are : turns ≡ ends.before ++ last ∷ [] = sym (placed_turns shape cpu number turns state) ∙ ends.turns_are in
      let both = allowed_parts shape cpu (lies_in shape state) ends.before (last ∷ []) (subst (AreAllowed shape cpu (lies_in shape state)) are allowed) in
      let there = on_locals (after_turns shape cpu (lies_in shape state) ends.before (Local cpu)) (AllowsOnLocal shape ends.part) both.1.0 in
      let after : after_turns shape cpu (lies_in shape state) turns (Local cpu) ≡ in_locals (local_after ends.part there.lists) =
      ap (λ (l : List Turn). after_turns shape cpu (lies_in shape state) l (Local cpu)) are ∙ ap (λ (c : DomainId → Content). c (Local cpu)) (after_both shape cpu (lies_in shape state) ends.before (last ∷ []))
      ∙ turned_here shape cpu (after_turns shape cpu (lies_in shape state) ends.before) last (Local cpu) (same_lock (Local cpu)) ∙ ap (content_after shape cpu last.part) there.lies in
      record {
        lock = Local cpu;
        is = local_lock shape cpu common within;
        list = refl;
        inside = subst (λ (c : Content). IsIn e (rows (lists_in c))) (sym after) (let sum = times_append e (elements_of (local_after ends.part there.lists).pending) [] in let inside = ends.pending there.lists in omega (arith, sum, inside));
      }
