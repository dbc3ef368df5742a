-- Turns of a CPU's lists in a race: what words allow of them may be done.
use Rattle.std.proofs.Common.{◌≡◌, ℕ, ◌≤◌, Bool, true, false, cond, List, [], ◌∷◌, ◌++◌, map, reverse, Option, None, Some, refl, ap, ◌∙◌, sym, subst, arith, drop, append-nil}
use Rattle.std.specs.Prelude.{IsTrue, option_to_list}
use Rattle.map_types.specs.declared.attr.Shape.{Shape}
use Rattle.map_types.specs.declared.kind.DomainId.{DomainId}
use Rattle.map_types.specs.declared.kind.DomainId.TheVariants.{Local, Global}
use Rattle.map_types.specs.Kind.{is_lru}
use Rattle.map_types.specs.Listed.{elements_of}
use Rattle.map_types.specs.Shape.{HasBounds}
use Rattle.map_types.specs.ElementLists.{times, without, IsIn, IsHead}
use Rattle.map_types.proofs.RowLemmas.{times_append, by_test}
use Rattle.place_words.specs.declared.list_part.LocalPart.TheVariants as local
use Rattle.place_words.specs.declared.visits.Visit.{Visit}
use Rattle.place_words.specs.declared.history.Part.TheVariants as parts
use Rattle.place_words.specs.declared.list_part.GlobalPart.TheVariants as global
use Rattle.place_words.specs.Freelists.{without_top}
use Rattle.place_words.specs.Globals.{AllowsOnGlobal, global_after}
use Rattle.place_words.specs.Histories.{in_global}
use Rattle.place_words.specs.Locals.{LocalLists, last_of, local_after}
use Rattle.place_words.specs.Locks.{is_lock}
use Rattle.place_words.specs.Sets.{ListSet}
use Rattle.place_words.proofs.KeepLaws.{keeps_elements}
use Rattle.place_words.specs.declared.step.Lists.{Lists}
use Rattle.place_words.specs.declared.step.Step.TheVariants as steps
use Rattle.place_words.specs.State.{State, rows, is_bucket}
use Rattle.place_words.specs.Steps.{after, with_row, without_row, with_free, without_free}
use Rattle.place_words.proofs.RowLemmas.{rows_with_row_same, rows_with_row_other}
use Rattle.place_words.specs.Interleaving.{Event, does, set_lists, local_steps}
use Rattle.core_runs.specs.Words.{ListsAllow, GivesLists}
use Rattle.core_runs.proofs.Ties.{with_lists, lists_here}
use Rattle.core_runs.proofs.Fits.{Fits, fits_alike, settle_fits, claim_fits, give_list_fits, gives_same}
use Rattle.core_runs.proofs.Reduced.{Follows, follows_step, none}
use Rattle.core_runs.proofs.SharedMoves.{local_lists}
use Rattle.core_runs.proofs.SetsReduced.{few_rows, row_left, times_first, gives_total, cursor_there}
use Rattle.core_runs.proofs.GlobalReduced.{once_global}
use Rattle.core_runs.proofs.OwnTurns.{stacked}
use Rattle.core_runs.proofs.OwnNest.{put_back, put_twice, first_got, none_got, stacked_turned}
use Rattle.core_runs.proofs.PlainRuns.{head_first, without_head}
use Rattle.core_runs.proofs.ListGoes.{without_rows}
use Rattle.place_words.proofs.Cursors.{global_cursor}

module _ {shape : Shape} (bounds : HasBounds shape) (lru : is_lru shape.kind ≡ true) {base owed : ℕ → List ℕ} {lists : DomainId → Lists} (cpu c : ℕ) (is : IsTrue (is_lock shape (Local c))) (s : State) (more : List Event) (fits : Fits shape base owed none lists s) where
  -- the CPU's lists, as the core has them
  abbrev pub of_local : LocalLists → Lists
  of_local ll = local_lists ll.free (elements_of ll.pending)

  -- lists that are given back
  pub gives : (t : State) (l new : Lists) (lock : DomainId) → IsTrue (is_lock shape lock) → is_bucket lock ≡ false → Fits shape base owed none (with_lists lock l lists) t → GivesLists shape t lock new
      → ((u : State) → Fits shape base owed none (with_lists lock new lists) u → Follows shape u more) → Follows shape t (does (steps.Give cpu lock new) ∷ more)
  unfolding ListsAllow
  gives t l new lock is_l list fits' ok next =
      follows_step bounds t (steps.Give cpu lock new) more fits'.placed ok
      (λ can. next (after shape t (steps.Give cpu lock new)) (fits_alike (give_list_fits fits' bounds cpu lock new is_l list can) base owed none (with_lists lock new lists) (λ b. refl) (λ b. refl) (λ b. refl) (λ other _. put_twice lock new l lists other)))

  pub pop_turn : (hash e : ℕ) (ll : LocalLists) → lists (Local c) ≡ of_local ll → IsHead e ll.free
      → ((t : State) → Fits shape base owed none (with_lists (Local c) (of_local (local_after (local.Pop hash e) ll)) lists) t → Follows shape t more)
      → Follows shape s (map does (local_steps cpu (Local c) (local.Pop hash e)) ++ does (steps.Give cpu (Local c) (of_local (local_after (local.Pop hash e) ll))) ∷ more)
  unfolding ListsAllow local_after
  pop_turn hash e ll lies head next =
      let lock : DomainId = Local c in
      let new : Lists = of_local (local_after (local.Pop hash e) ll) in
      let free : ll.free ≡ e ∷ without_top ll.free = head_first e ll.free head in
      let gone : without e ll.free ≡ drop 1 ll.free = ap (without e) free ∙ without_head e (without_top ll.free) ∙ sym (ap (drop 1) free) in
      let made : with_row lock e (without_free e (lists lock)) ≡ new = ap (λ (k : Lists). with_row lock e (without_free e k)) lies ∙ ap (λ (xs : List ℕ). local_lists xs (e ∷ elements_of ll.pending)) gone in
      follows_step bounds s (steps.Claim cpu e lock) (does (steps.Give cpu lock new) ∷ more) fits.placed
      (subst (λ (k : Lists). IsHead e k.free) (sym (fits.others lock is refl ∙ lies)) head)
      (λ can.
      let t : State = after shape s (steps.Claim cpu e lock) in
      let fits' = claim_fits fits bounds cpu e lock new is refl made can in
      gives t new new lock is refl fits' (gives_same fits' bounds lock new is refl (lists_here lock new lists)) next)

  pub push_turn : (e : ℕ) (done : Bool) (ll : LocalLists) → lists (Local c) ≡ of_local ll
      → ((t : State) → Fits shape base owed none (with_lists (Local c) (of_local (local_after (local.Push e done) ll)) lists) t → Follows shape t more)
      → Follows shape s (map does (local_steps cpu (Local c) (local.Push e done)) ++ does (steps.Give cpu (Local c) (of_local (local_after (local.Push e done) ll))) ∷ more)
  unfolding ListsAllow local_after
  push_turn e true ll lies next =
      let lock : DomainId = Local c in
      let P : List ℕ = elements_of ll.pending in
      let new : Lists = of_local (local_after (local.Push e true) ll) in
      let few : times e P ≤ 1 = omega (arith, few_rows bounds lru fits lock is refl e, ap (λ (k : Lists). times e (rows k)) lies, times_append e P []) in
      let made : with_free e (without_row e (lists lock)) ≡ new = ap (λ (k : Lists). with_free e (without_row e k)) lies ∙ ap (λ (xs : List ℕ). local_lists (e ∷ ll.free) xs) (without_rows e ll.pending few) in
      follows_step bounds s (steps.Settle cpu e lock) (does (steps.Give cpu lock new) ∷ more) fits.placed tt
      (λ can.
      let t : State = after shape s (steps.Settle cpu e lock) in
      let fits' = settle_fits fits bounds cpu e lock new is refl made can in
      gives t new new lock is refl fits' (gives_same fits' bounds lock new is refl (lists_here lock new lists)) next)
  push_turn e false ll lies next =
      let start : Fits shape base owed none (with_lists (Local c) (of_local ll) lists) s = fits_alike fits base owed none (with_lists (Local c) (of_local ll) lists) (λ b. refl) (λ b. refl) (λ b. refl) (λ other _. sym (put_back (Local c) (of_local ll) lists lies other)) in
      gives s (of_local ll) (of_local ll) (Local c) is refl start (gives_same fits bounds (Local c) (of_local ll) is refl lies) next

  -- A refill, after the turn of the global lists inside it: nothing is pending, and what was gained is free.
  pub refill_turn : (hash : ℕ) (flushed : List Visit) (gained : List ℕ) (got : Option ℕ) (ll : LocalLists) (l : Lists) → lists (Local c) ≡ l → l.free ≡ stacked gained [] → ((x : ℕ) → times x (rows l) ≡ 0) → got ≡ last_of gained
      → ((t : State) → Fits shape base owed none (with_lists (Local c) (local_lists (drop 1 (reverse gained)) (option_to_list got)) lists) t → Follows shape t more)
      → Follows shape s (map does (local_steps cpu (Local c) (local.Refill hash flushed gained got)) ++ does (steps.Give cpu (Local c) (local_lists (drop 1 (reverse gained)) (option_to_list got))) ∷ more)
  unfolding ListsAllow
  refill_turn hash flushed gained None ll l lies free rows_none got_is next =
      let turned : stacked gained [] ≡ reverse gained = sym (stacked_turned gained []) ∙ append-nil (reverse gained) in
      let empty : reverse gained ≡ [] = none_got (reverse gained) (sym got_is) in
      let new : Lists = local_lists (drop 1 (reverse gained)) [] in
      let start : Fits shape base owed none (with_lists (Local c) l lists) s = fits_alike fits base owed none (with_lists (Local c) l lists) (λ b. refl) (λ b. refl) (λ b. refl) (λ other _. sym (put_back (Local c) l lists lies other)) in
      gives s l new (Local c) is refl start
      (gives_total bounds lru lists l new (Local c) is refl start refl (ap (drop 1) empty ∙ sym (free ∙ turned ∙ empty)) (λ x. sym (rows_none x)) tt) next
  refill_turn hash flushed gained (Some g) ll l lies free rows_none got_is next =
      let lock : DomainId = Local c in
      let turned : stacked gained [] ≡ reverse gained = sym (stacked_turned gained []) ∙ append-nil (reverse gained) in
      let first : reverse gained ≡ g ∷ drop 1 (reverse gained) = first_got (reverse gained) g (sym got_is) in
      let new : Lists = local_lists (drop 1 (reverse gained)) (g ∷ []) in
      let l2 : Lists = with_row lock g (without_free g l) in
      let left_free : l2.free ≡ drop 1 (reverse gained) = ap (without g) (free ∙ turned ∙ first) ∙ without_head g (drop 1 (reverse gained)) in
      let row_more : (x : ℕ) → times x (rows l2) ≡ times x (g ∷ []) = λ x.
      by_test g x (λ b. times x (rows l2) ≡ cond b 1 0)
      (λ same. subst (λ (y : ℕ). times y (rows l2) ≡ 1) same (omega (arith, rows_with_row_same lock g (without_free g l) refl, rows_none g)))
      (λ other. omega (arith, rows_with_row_other lock x g (without_free g l) (λ same. other (sym same)), rows_none x)) in
      follows_step bounds s (steps.Claim cpu g lock) (does (steps.Give cpu lock new) ∷ more) fits.placed
      (subst (λ (k : Lists). IsHead g k.free) (sym (fits.others lock is refl ∙ lies)) (subst (IsHead g) (sym (free ∙ turned ∙ first)) refl))
      (λ can.
      let t : State = after shape s (steps.Claim cpu g lock) in
      let fits' = claim_fits fits bounds cpu g lock l2 is refl (ap (λ (k : Lists). with_row lock g (without_free g k)) lies) can in
      gives t l2 new lock is refl fits' (gives_total bounds lru lists l2 new lock is refl fits' refl (sym left_free) (λ x. omega (arith, row_more x, times_append x (g ∷ []) [])) tt) next)

  -- A push on the global lists
  pub global_push : (e : ℕ) (set : ListSet) → IsTrue shape.common → lists Global ≡ set_lists set → AllowsOnGlobal (global.Push e) set
      → ((t : State) → Fits shape base owed none (with_lists Global (set_lists (global_after (global.Push e) set)) lists) t → Follows shape t more)
      → Follows shape s (does (steps.Settle cpu e Global) ∷ does (steps.Give cpu Global (set_lists (global_after (global.Push e) set))) ∷ more)
  unfolding ListsAllow global_after
  global_push e set common lies allowed next =
      let new : Lists = set_lists (global_after (global.Push e) set) in
      let l : Lists = set_lists set in
      let l' : Lists = with_free e (without_row e l) in
      let once : times e (rows l) ≤ 1 = subst (λ (k : Lists). times e (rows k) ≤ 1) lies (few_rows bounds lru fits Global common refl e) in
      follows_step bounds s (steps.Settle cpu e Global) (does (steps.Give cpu Global new) ∷ more) fits.placed tt
      (λ can.
      let t : State = after shape s (steps.Settle cpu e Global) in
      let inside : IsIn e (rows l) = subst (λ (k : Lists). IsIn e (rows k)) (fits.others Global common refl ∙ lies) (can.listed lru) in
      let fits' = settle_fits fits bounds cpu e Global l' common refl (ap (λ (k : Lists). with_free e (without_row e k)) lies) can in
      gives t l' new Global common refl fits'
      (gives_total bounds lru lists l' new Global common refl fits' tt refl
      (λ x. omega (arith, keeps_elements shape cpu (parts.Global (global.Push e)) (in_global set) allowed (once_global bounds lru common fits set lies) x, times_append x set.free (rows l), times_append x (e ∷ set.free) (rows new), row_left x e l once inside, times_first x e set.free))
      (global_cursor (global.Push e) set (cursor_there bounds lru fits Global l common refl lies))) next)
