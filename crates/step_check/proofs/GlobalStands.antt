-- A turn of the global lists inside a refill: what words allow of it may be done if nothing that it flushes is free, and it keeps what
-- stands.
use Rattle.std.proofs.Common.{◌≡◌, ◌≢◌, ℕ, ◌+◌, ◌<◌, ◌≤◌, Bool, true, false, List, [], ◌∷◌, ◌++◌, map, Option, None, refl, ap, ◌∙◌, sym, subst, ⊎_elim, arith}
use Rattle.std.specs.Prelude.{IsTrue}
use Rattle.std.proofs.lemmas.Bool.{cases_lt, true≢false}
use Rattle.map_types.specs.declared.attr.Shape.{Shape}
use Rattle.map_types.specs.declared.kind.DomainId.{DomainId}
use Rattle.map_types.specs.declared.kind.DomainId.TheVariants.{Local, Global, CpuLru, Bucket, Freelist}
use Rattle.map_types.specs.Kind.{is_lru}
use Rattle.map_types.specs.Shape.{HasBounds}
use Rattle.map_types.specs.ElementLists.{put, times}
use Rattle.map_types.proofs.RowLemmas.{by_test}
use Rattle.place_words.specs.declared.history.Part.{Part}
use Rattle.place_words.specs.declared.history.Part.TheVariants as parts
use Rattle.place_words.specs.declared.list_part.GlobalPart.{GlobalPart}
use Rattle.place_words.specs.declared.list_part.GlobalPart.TheVariants as global
use Rattle.place_words.specs.declared.owner.Owner.{Owner}
use Rattle.place_words.specs.declared.step.Lists.{Lists}
use Rattle.place_words.specs.declared.step.Step.TheVariants as steps
use Rattle.place_words.specs.declared.visits.Flush.{Flush}
use Rattle.place_words.specs.declared.visits.ShrinkNote.{ShrinkNote}
use Rattle.place_words.specs.declared.visits.Visit.{Visit}
use Rattle.place_words.specs.Globals.{AllowsOnGlobal, global_after, flushed_elements}
use Rattle.place_words.specs.Histories.{Content, Allows, in_global, content_after}
use Rattle.place_words.specs.Interleaving.{Drawn, turn_of, Event, does, enclosing, bucket_around, lists_in, set_lists, part_steps, seen_by, takes, not_begun, turn_events, AreEnabled}
use Rattle.place_words.specs.Locks.{is_lock, is_same_lock}
use Rattle.place_words.specs.Openings.{is_free}
use Rattle.place_words.specs.Sets.{ListSet}
use Rattle.place_words.specs.State.{State, rows, is_bucket}
use Rattle.place_words.specs.Steps.{lists_under, after}
use Rattle.place_words.specs.Takings.{freed_by}
use Rattle.place_words.specs.Turns.{after_turn}
use Rattle.place_words.proofs.ElementLemmas.{put_here, put_else}
use Rattle.place_words.proofs.LockLemmas.{other_lock}
use Rattle.place_words.proofs.Settled.{turned_here, turned_elsewhere}
use Rattle.core_runs.specs.SharedRaces.{Midst, midst_after}
use Rattle.core_runs.specs.Words.{words_of, RunsByWords, ListsAllow}
use Rattle.core_runs.proofs.Ties.{with_lists, lists_here, lists_else}
use Rattle.core_runs.proofs.Fits.{Fits, take_fits}
use Rattle.core_runs.proofs.Nests.{goes_on}
use Rattle.core_runs.proofs.OwnTurns.{stacked}
use Rattle.core_runs.proofs.RaceRuns.{bases}
use Rattle.core_runs.proofs.Reduced.{none}
use Rattle.core_runs.proofs.SharedCalls.{on_global}
use Rattle.step_check.proofs.GlobalTurns.{HoldsOnlyIts, LeftOf, reach_global}
use Rattle.step_check.proofs.Reaches.{state_after, Reaches, reaches_step, reaches_none, takes_owners}
use Rattle.step_check.proofs.Standing.{MidLists, Standing, lists_as, turn_block}

reach_takes : {shape : Shape} (bounds : HasBounds shape) {base out ins : ℕ → List ℕ} {lists : DomainId → Lists} (Then : State → Type 0) (turns : List Drawn) (s : State) (events : List Event) → Fits shape base out ins lists s
    → (Fits shape base out ins lists (state_after shape s (map takes turns)) → Reaches shape Then (state_after shape s (map takes turns)) events) → Reaches shape Then s (map takes turns ++ events)
unfolding ListsAllow state_after
reach_takes bounds Then [] s events fits next = next fits
reach_takes {shape} bounds Then (x ∷ turns) s events fits next =
    reaches_step bounds Then s (steps.Take x.entry.cpu x.lock) (map takes turns ++ events) fits.placed tt
    (λ can. reach_takes bounds Then turns (after shape s (steps.Take x.entry.cpu x.lock)) events (take_fits fits bounds x.entry.cpu x.lock can) next)

module _ {shape : Shape} (bounds : HasBounds shape) (lru : is_lru shape.kind ≡ true) (common : IsTrue shape.common) {contents : DomainId → Content} {m : Midst} {s : State} (standing : Standing shape contents m s) (begun : List ℕ) (x : Drawn) (later : List Drawn)
    (flushed : List Flush) (active inactive : List Visit) (free : List ℕ) (shrink : Option ShrinkNote) (part_is : x.entry.part ≡ parts.Global (global.Turn flushed active inactive free shrink)) (lock_is : x.lock ≡ Global)
    (allowed : Allows shape x.entry.cpu x.entry.part (contents x.lock)) (local_is : IsTrue (is_lock shape (Local x.entry.cpu))) (rests : m.busy x.entry.cpu ≡ false)
    (freed_in : (e : ℕ) → times e (freed_by shrink) ≤ times e (rows (lists_in (contents Global))) + times e (flushed_elements flushed))
    (only : HoldsOnlyIts shape x.entry.cpu (state_after shape s (map takes (not_begun begun (enclosing x later ++ x ∷ []))))) (owned : (e : ℕ) → 1 ≤ times e (flushed_elements flushed) → is_free (s.owner e) ≡ false) where
  abbrev cpu : ℕ
  cpu = x.entry.cpu

  abbrev now : DomainId → Content
  now = after_turn shape x.entry.cpu contents (turn_of x)

  abbrev now_midst : Midst
  now_midst = midst_after m x.entry.cpu x.lock x.entry.part

  abbrev part : GlobalPart
  part = global.Turn flushed active inactive free shrink

  elsewhere : (lock : DomainId) → Global ≢ lock → now lock ≡ contents lock
  elsewhere lock apart = turned_elsewhere shape x.entry.cpu contents (turn_of x) lock (ap (λ (l : DomainId). is_same_lock l lock) lock_is ∙ other_lock Global lock apart)

  stands_now : (set : ListSet) → contents Global ≡ in_global set → (t : State) (l' : Lists) → l'.free ≡ stacked (free ++ freed_by shrink) (lists_under shape s (Local cpu)).free → LeftOf (flushed_elements flushed) (lists_under shape s (Local cpu)) l'
      → Fits shape (bases contents) none none (with_lists Global (set_lists (global_after part set)) (with_lists (Local cpu) l' (lists_as shape s contents))) t → Standing shape now now_midst t
  stands_now set set_is t l' free_is left fits = record {
    fits = record {
      placed = fits.placed;
      chains = λ b is e. omega (arith, fits.chains b is e, ap (λ (k : Content). times e (lists_in k).first) (elsewhere (Bucket b) (λ same. absurd cc)));
      others = others_are;
    };
    locals = λ c is. subst (λ (n : Midst). MidLists (lists_under shape t (Local c)) (lists_in (now (Local c))) (n.busy c) (n.got c) (n.sent c)) (sym midst_is)
        (by_test c cpu (λ _. Mid c)
        (λ same. subst Mid (sym same) here)
        (λ apart. there c is apart));
  }
    where
      was : (lists_under shape s (Local cpu) ≡ lists_in (contents (Local cpu))) × (m.got cpu ≡ []) × (m.sent cpu ≡ [])
      was = (standing.locals cpu local_is).rest rests

      midst_is : now_midst ≡ midst_after m x.entry.cpu Global (parts.Global part)
      midst_is = ap (λ (l : DomainId). midst_after m x.entry.cpu l x.entry.part) lock_is ∙ ap (midst_after m x.entry.cpu Global) part_is

      now_is : lists_in (now Global) ≡ set_lists (global_after part set)
      now_is =
          ap lists_in (turned_here shape x.entry.cpu contents (turn_of x) Global (ap (λ (l : DomainId). is_same_lock l Global) lock_is)
          ∙ ap (content_after shape x.entry.cpu x.entry.part) set_is ∙ ap (λ (p : Part). content_after shape x.entry.cpu p (in_global set)) part_is)

      others_are : (lock : DomainId) → IsTrue (is_lock shape lock) → is_bucket lock ≡ false → lists_under shape t lock ≡ lists_as shape t now lock
      others_are (Local c) is list = refl
      others_are Global is list = fits.others Global is list ∙ sym now_is
      others_are (CpuLru c) is list = fits.others (CpuLru c) is list ∙ ap lists_in (sym (elsewhere (CpuLru c) (λ same. absurd cc)))
      others_are (Bucket b) is list = absurd (true≢false list)
      others_are (Freelist c) is list = fits.others (Freelist c) is list ∙ ap lists_in (sym (elsewhere (Freelist c) (λ same. absurd cc)))

      Mid : ℕ → Type 0
      Mid c = MidLists (lists_under shape t (Local c)) (lists_in (now (Local c))) (put m.busy cpu true c) (put m.got cpu (free ++ freed_by shrink) c) (put m.sent cpu (flushed_elements flushed) c)

      mid_alike : (c : ℕ) (l k : Lists) (b : Bool) (g f : List ℕ) → lists_under shape t (Local c) ≡ l → lists_in (now (Local c)) ≡ k → put m.busy cpu true c ≡ b → put m.got cpu (free ++ freed_by shrink) c ≡ g → put m.sent cpu (flushed_elements flushed) c ≡ f → MidLists l k b g f → Mid c
      mid_alike c l k b g f l_is k_is b_is g_is f_is mid =
          subst (λ (a : Lists). MidLists a (lists_in (now (Local c))) (put m.busy cpu true c) (put m.got cpu (free ++ freed_by shrink) c) (put m.sent cpu (flushed_elements flushed) c)) (sym l_is)
          (subst (λ (a : Lists). MidLists l a (put m.busy cpu true c) (put m.got cpu (free ++ freed_by shrink) c) (put m.sent cpu (flushed_elements flushed) c)) (sym k_is)
          (subst (λ (a : Bool). MidLists l k a (put m.got cpu (free ++ freed_by shrink) c) (put m.sent cpu (flushed_elements flushed) c)) (sym b_is)
          (subst (λ (a : List ℕ). MidLists l k b a (put m.sent cpu (flushed_elements flushed) c)) (sym g_is)
          (subst (λ (a : List ℕ). MidLists l k b g a) (sym f_is) mid))))

      here : Mid cpu
      here =
          mid_alike cpu l' (lists_in (contents (Local cpu))) true (free ++ freed_by shrink) (flushed_elements flushed)
          (fits.others (Local cpu) local_is refl ∙ lists_here (Local cpu) l' (lists_as shape s contents)) (ap lists_in (elsewhere (Local cpu) (λ same. absurd cc)))
          (put_here m.busy cpu true) (put_here m.got cpu (free ++ freed_by shrink)) (put_here m.sent cpu (flushed_elements flushed))
          (record {
            rest = λ never. absurd (true≢false never);
            free = λ _. free_is ∙ ap (λ (l : Lists). stacked (free ++ freed_by shrink) l.free) was.0;
            rows_are = λ _ sent_is y. ⊎_elim
                (λ (some : 0 < times y (flushed_elements flushed)). left.gone y some)
                (λ (few : times y (flushed_elements flushed) ≤ 0). omega (arith, few, left.kept y (omega (arith, few)), sent_is y, ap (λ (l : Lists). times y (rows l)) was.0))
                (cases_lt 0 (times y (flushed_elements flushed)));
          })

      there : (c : ℕ) → IsTrue (is_lock shape (Local c)) → c ≢ cpu → Mid c
      there c is apart =
          mid_alike c (lists_under shape s (Local c)) (lists_in (contents (Local c))) (m.busy c) (m.got c) (m.sent c)
          (fits.others (Local c) is refl ∙ lists_else (Local cpu) (Local c) l' (lists_as shape s contents) (λ same. apart (sym (local_name same)))) (ap lists_in (elsewhere (Local c) (λ same. absurd cc)))
          (put_else m.busy cpu true c apart) (put_else m.got cpu (free ++ freed_by shrink) c apart) (put_else m.sent cpu (flushed_elements flushed) c apart) (standing.locals c is)
        where
          local_name : Local cpu ≡ Local c → cpu ≡ c
          local_name same = cc

  pub global_stands : RunsByWords shape (words_of s) (turn_events shape (enclosing x later) begun (lists_in (now x.lock)) x)
      → AreEnabled shape s (turn_events shape (enclosing x later) begun (lists_in (now x.lock)) x) × Standing shape now now_midst (state_after shape s (turn_events shape (enclosing x later) begun (lists_in (now x.lock)) x))
  global_stands =
      let around : List Drawn = enclosing x later in
      let Then : State → Type 0 = Standing shape now now_midst in
      let found = on_global (contents Global) (AllowsOnGlobal part)
      (subst (λ (p : Part). Allows shape x.entry.cpu p (contents Global)) part_is (subst (λ (l : DomainId). Allows shape x.entry.cpu x.entry.part (contents l)) lock_is allowed)) in
      let new : Lists = set_lists (global_after part found.set) in
      let now_is : lists_in (now Global) ≡ new =
      ap lists_in (turned_here shape x.entry.cpu contents (turn_of x) Global (ap (λ (l : DomainId). is_same_lock l Global) lock_is)
      ∙ ap (content_after shape x.entry.cpu x.entry.part) found.lies ∙ ap (λ (p : Part). content_after shape x.entry.cpu p (in_global found.set)) part_is) in
      let t : State = state_after shape s (map takes (not_begun begun (around ++ x ∷ []))) in
      let goes : List Event = map does (part_steps shape x.entry.cpu Global None (parts.Global part)) ++ ([] ++ does (steps.Give x.entry.cpu Global new) ∷ []) in
      let known : goes ≡ goes_on shape contents around x [] =
      block_of found.set now_is in
      subst (Reaches shape Then s) (sym (turn_block shape contents begun x later))
      (reach_takes bounds Then (not_begun begun (around ++ x ∷ [])) s (goes_on shape contents around x []) standing.fits
      (λ fits. subst (Reaches shape Then t) known
      (reach_global bounds lru common Then x.entry.cpu flushed active inactive free shrink found.set (lists_under shape s (Local x.entry.cpu)) t [] local_is fits refl (ap lists_in found.lies) found.fact only
      (λ e some. ap (λ (f : ℕ → Owner). is_free (f e)) (takes_owners shape (not_begun begun (around ++ x ∷ [])) s) ∙ owned e some)
      (λ e. subst (λ (k : Content). times e (freed_by shrink) ≤ times e (rows (lists_in k)) + times e (flushed_elements flushed)) found.lies (freed_in e))
      (λ u l' free_is left fits'. reaches_none bounds Then u (stands_now found.set found.lies u l' free_is left fits')))))
    where
      block_of : (set : ListSet) → lists_in (now Global) ≡ set_lists (global_after part set)
          → map does (part_steps shape x.entry.cpu Global None (parts.Global part)) ++ ([] ++ does (steps.Give x.entry.cpu Global (set_lists (global_after part set))) ∷ []) ≡ goes_on shape contents (enclosing x later) x []
      block_of set now_is =
          ap (λ (l : Lists). map does (part_steps shape x.entry.cpu Global None (parts.Global part)) ++ ([] ++ does (steps.Give x.entry.cpu Global l) ∷ [])) (sym now_is)
          ∙ ap (λ (l : DomainId). map does (part_steps shape x.entry.cpu l (bucket_around (enclosing x later)) (parts.Global part)) ++ ([] ++ does (steps.Give x.entry.cpu l (lists_in (now l))) ∷ [])) (sym lock_is)
          ∙ ap (λ (p : Part). map does (part_steps shape x.entry.cpu x.lock (bucket_around (enclosing x later)) p) ++ (seen_by p ++ does (steps.Give x.entry.cpu x.lock (lists_in (now x.lock))) ∷ [])) (sym part_is)
