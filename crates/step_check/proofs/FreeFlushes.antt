-- A turn of the global lists whose steps may be done flushes nothing that is free: it would be free on the global lists then, where the
-- lists that are given back don't have it.
use Rattle.std.proofs.Common.{◌≡◌, ◌≢◌, ◌⊎◌, inl, inr, ℕ, suc, ◌+◌, ◌<◌, ◌≤◌, Bool, true, ◌&&◌, cond, ltb, List, [], ◌∷◌, ◌++◌, map, drop, take-append-drop, Option, refl, ap, ◌∙◌, sym, subst, ⊎_elim, arith}
use Rattle.std.specs.List.{flat_map}
use Rattle.std.proofs.lemmas.Bool.{lt-ltb}
use Rattle.map_types.specs.declared.attr.Shape.{Shape}
use Rattle.map_types.specs.declared.kind.DomainId.TheVariants.{Local, Global}
use Rattle.map_types.specs.Kind.{is_lru}
use Rattle.map_types.specs.Shape.{HasBounds}
use Rattle.map_types.specs.ElementLists.{one, times}
use Rattle.map_types.proofs.RowLemmas.{by_test, times_append}
use Rattle.place_words.specs.declared.home.Home.{Home}
use Rattle.place_words.specs.declared.home.Home.TheVariants as homes
use Rattle.place_words.specs.declared.list_part.GlobalPart.TheVariants as global
use Rattle.place_words.specs.declared.owner.Owner.{Owner}
use Rattle.place_words.specs.declared.owner.Owner.TheVariants as owners
use Rattle.place_words.specs.declared.step.Step.TheVariants as steps
use Rattle.place_words.specs.declared.visits.Flush.{Flush}
use Rattle.place_words.specs.declared.visits.ShrinkNote.{ShrinkNote}
use Rattle.place_words.specs.declared.visits.Visit.{Visit}
use Rattle.place_words.specs.Globals.{AllowsOnGlobal, global_after, global_target, flushed_elements}
use Rattle.place_words.specs.Interleaving.{Event, does, set_lists, global_steps, freed_steps, AreEnabled}
use Rattle.place_words.specs.Locks.{lock_number}
use Rattle.place_words.specs.Openings.{is_free}
use Rattle.place_words.specs.Places.{Placed, lies_at}
use Rattle.place_words.specs.Sets.{ListSet}
use Rattle.place_words.specs.State.{State, rows}
use Rattle.place_words.specs.Steps.{after}
use Rattle.place_words.specs.Takings.{freed_by}
use Rattle.place_words.proofs.ElementLemmas.{at_put, put_else}
use Rattle.place_words.proofs.StepLaws.{step_keeps_places}
use Rattle.core_runs.proofs.RefillNest.{three_parts}
use Rattle.core_runs.proofs.Words.{place_of_home}
use Rattle.step_check.proofs.SharedCounts.{global_rows, flushed_outside}

-- an element is free, and its home is the global lists
record FreeThere (shape : Shape) (e : ℕ) (s : State) : Type 0 where
  real : e < shape.elements
  owner : s.owner e ≡ owners.Free
  home : s.home e ≡ homes.In Global

-- a state from which events may be done, where this element is so
record FreeBefore (shape : Shape) (e : ℕ) (events : List Event) : Type 0 where
  state : State
  placed : Placed shape state
  enabled : AreEnabled shape state events
  free : FreeThere shape e state

free_hand : (cpu : ℕ) → owners.Free ≡ owners.Hand cpu → ⊥
free_hand cpu same = cc

module _ {shape : Shape} (bounds : HasBounds shape) (cpu e : ℕ) where
  flushed_free : (es : List ℕ) (s : State) (events : List Event) → Placed shape s → AreEnabled shape s (map does (map (λ x. steps.Rehome cpu x (homes.In Global)) es) ++ events) → s.owner e ≡ owners.Free
      → (1 ≤ times e es) ⊎ FreeThere shape e s → FreeBefore shape e events
  unfolding AreEnabled
  flushed_free [] s events p run owner (inl some) = absurd (omega (arith, some))
  flushed_free [] s events p run owner (inr free) = record { state = s; placed = p; enabled = run; free = free }
  flushed_free (x ∷ es) s events p run owner which =
      let step = steps.Rehome cpu x (homes.In Global) in
      flushed_free es (after shape s step) events (step_keeps_places shape s step bounds run.0 p) run.1 owner
      (by_test x e (λ b. (1 ≤ cond b (suc (times e es)) (times e es)) ⊎ FreeThere shape e s → (1 ≤ times e es) ⊎ FreeThere shape e (after shape s step))
      (λ same _. inr (record {
        real = subst (λ (y : ℕ). y < shape.elements) same run.0.real;
        owner = owner;
        home = at_put s.home x (homes.In Global) (λ (y : ℕ) (h : Home). e ≡ y → h ≡ homes.In Global) e (λ _. refl) (λ apart _. absurd (apart (sym same))) refl;
      }))
      (λ other. ⊎_elim
      (λ (some : 1 ≤ times e es). inl some)
      (λ (free : FreeThere shape e s). inr (record { real = free.real; owner = owner; home = put_else s.home x (homes.In Global) e (λ same. other (sym same)) ∙ free.home })))
      which)

  freeing_free : (es : List ℕ) (s : State) (events : List Event) → Placed shape s → AreEnabled shape s (map does (map (λ x. steps.Rehome cpu x (homes.In (Local cpu))) es) ++ events) → times e es ≡ 0 → FreeThere shape e s → FreeBefore shape e events
  unfolding AreEnabled
  freeing_free [] s events p run none_is free = record { state = s; placed = p; enabled = run; free = free }
  freeing_free (x ∷ es) s events p run none_is free =
      let step = steps.Rehome cpu x (homes.In (Local cpu)) in
      by_test x e (λ b. cond b (suc (times e es)) (times e es) ≡ 0 → FreeBefore shape e events)
      (λ same some. absurd (omega (arith, some)))
      (λ other rest.
      freeing_free es (after shape s step) events (step_keeps_places shape s step bounds run.0 p) run.1 rest
      (record { real = free.real; owner = free.owner; home = put_else s.home x (homes.In (Local cpu)) e (λ same. other (sym same)) ∙ free.home }))
      none_is

  freed_free : (es : List ℕ) (s : State) (events : List Event) → Placed shape s → AreEnabled shape s (map does (flat_map (freed_steps cpu) es) ++ events) → FreeThere shape e s → FreeBefore shape e events
  unfolding AreEnabled
  freed_free [] s events p run free = record { state = s; placed = p; enabled = run; free = free }
  freed_free (x ∷ es) s events p run free =
      let first = steps.Rehome cpu x (homes.In (Local cpu)) in
      let t : State = after shape s first in
      let second = steps.Settle cpu x (Local cpu) in
      by_test x e (λ _. FreeBefore shape e events)
      (λ same. absurd (free_hand cpu (sym free.owner ∙ ap s.owner (sym same) ∙ run.1.0.in_hand)))
      (λ other.
      freed_free es (after shape t second) events (step_keeps_places shape t second bounds run.1.0 (step_keeps_places shape s first bounds run.0 p)) run.1.1
      (record {
        real = free.real;
        owner = put_else s.owner x owners.Free e (λ same. other (sym same)) ∙ free.owner;
        home = put_else s.home x (homes.In (Local cpu)) e (λ same. other (sym same)) ∙ free.home;
      }))

  module _ (lru : is_lru shape.kind ≡ true) where
    -- so it stands in the global free list of the core
    counted_free : (s : State) → Placed shape s → FreeThere shape e s → times e (s.lists (lock_number shape Global)).free ≡ 1
    counted_free s p free =
        let k : ℕ = lock_number shape Global in
        let lies : lies_at k (p.place e) ≡ true = place_of_home shape Global (p.place e) lru (sym (p.placed.homes e free.real) ∙ free.home) in
        p.placed.free k e ∙ ap (λ (o : Owner). one (ltb e shape.elements && (is_free o && lies_at k (p.place e)))) free.owner
        ∙ ap (λ (b : Bool). one (ltb e shape.elements && b)) lies ∙ ap (λ (b : Bool). one (b && true)) (lt-ltb e shape.elements free.real)

    pub none_free : (flushed : List Flush) (active inactive : List Visit) (free : List ℕ) (shrink : Option ShrinkNote) (set : ListSet) (s : State) (more : List Event) → AllowsOnGlobal (global.Turn flushed active inactive free shrink) set → Placed shape s
        → AreEnabled shape s (map does (global_steps cpu (global.Turn flushed active inactive free shrink)) ++ does (steps.Give cpu Global (set_lists (global_after (global.Turn flushed active inactive free shrink) set))) ∷ more)
        → 1 ≤ times e (flushed_elements flushed) → s.owner e ≢ owners.Free
    unfolding AreEnabled global_after
    none_free flushed active inactive free shrink set s more allowed p run some owner =
        let gives : List Event = does (steps.Give cpu Global (set_lists (global_after (global.Turn flushed active inactive free shrink) set))) ∷ more in
        let left : List ℕ = drop global_target set.free in
        let split : set.free ≡ free ++ left = sym (take-append-drop global_target set.free) ∙ ap (λ (xs : List ℕ). xs ++ left) (sym allowed.2) in
        let outside : times e set.free + times e (rows (set_lists set)) ≡ 0 = sym (global_rows set e) ∙ (flushed_outside set flushed allowed.0 e).1 some in
        let parted : AreEnabled shape s (map does (map (λ x. steps.Rehome cpu x (homes.In Global)) (flushed_elements flushed)) ++ (map does (map (λ x. steps.Rehome cpu x (homes.In (Local cpu))) free) ++ (map does (flat_map (freed_steps cpu) (freed_by shrink)) ++ gives))) =
        subst (AreEnabled shape s) (three_parts (map (λ x. steps.Rehome cpu x (homes.In Global)) (flushed_elements flushed)) (map (λ x. steps.Rehome cpu x (homes.In (Local cpu))) free) (flat_map (freed_steps cpu) (freed_by shrink)) gives) run in
        let a = flushed_free (flushed_elements flushed) s _ p parted owner (inl some) in
        let b = freeing_free free a.state _ a.placed a.enabled (omega (arith, outside, ap (times e) split, times_append e free left)) a.free in
        let c = freed_free (freed_by shrink) b.state gives b.placed b.enabled b.free in
        omega (arith, c.enabled.0.same_free e, counted_free c.state c.placed c.free, outside, ap (times e) split, times_append e free left)
