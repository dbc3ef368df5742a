-- A refill of a CPU's lists is a run of the core: a turn of the global lists inside it, and evictions inside that.
use Rattle.std.proofs.Common.{◌≡◌, ℕ, suc, ◌+◌, ◌-◌, ◌<◌, ◌≤◌, Bool, true, false, ◌&&◌, cond, eqb, ltb, List, [], ◌∷◌, ◌++◌, length, map, drop, reverse, Option, None, Some, refl, ap, ◌∙◌, sym, subst, inr, ⊎_elim, arith}
use Rattle.std.specs.Prelude.{IsTrue, option_to_list}
use Rattle.std.specs.List.{flat_map}
use Rattle.std.proofs.lemmas.Bool.{cases_eq, cond-true, eq-eqb}
use Rattle.std.proofs.lemmas.List.{append_assoc, append-nil, map-append, take-append-drop}
use Rattle.map_types.specs.declared.attr.Shape.{Shape}
use Rattle.map_types.specs.declared.kind.DomainId.{DomainId}
use Rattle.map_types.specs.declared.kind.DomainId.TheVariants.{Local, Global, CpuLru, Bucket, Freelist}
use Rattle.map_types.specs.Kind.{is_lru}
use Rattle.map_types.specs.Shape.{HasBounds}
use Rattle.map_types.specs.Listed.{elements_of}
use Rattle.map_types.specs.ElementLists.{one, times, IsIn, without}
use Rattle.map_types.proofs.RowLemmas.{times_append}
use Rattle.place_words.specs.declared.history.Part.TheVariants as parts
use Rattle.place_words.specs.declared.home.Home.TheVariants as homes
use Rattle.place_words.specs.declared.list_part.GlobalPart.TheVariants as global
use Rattle.place_words.specs.declared.list_part.LocalPart.TheVariants as local
use Rattle.place_words.specs.declared.owner.Owner.TheVariants as owners
use Rattle.place_words.specs.declared.visits.Flush.{Flush}
use Rattle.place_words.specs.declared.visits.ShrinkNote.{ShrinkNote}
use Rattle.place_words.specs.declared.visits.Visit.{Visit}
use Rattle.place_words.specs.Globals.{AllowsOnGlobal, global_after, global_target, flushed_elements}
use Rattle.place_words.specs.Histories.{Content, in_locals, in_global, content_after}
use Rattle.place_words.specs.Locals.{LocalLists, last_of, local_after}
use Rattle.place_words.specs.Locks.{is_lock, lock_number}
use Rattle.place_words.specs.Moves.{elements_in}
use Rattle.place_words.specs.Openings.{is_free}
use Rattle.place_words.specs.RowMoves.{IsOnce}
use Rattle.place_words.specs.Sets.{ListSet}
use Rattle.place_words.specs.Takings.{freed_by}
use Rattle.place_words.specs.Turns.{Turn, on_lock, after_turn, after_turns, AreAllowed}
use Rattle.place_words.proofs.KeepLaws.{keeps_elements, times_turned}
use Rattle.place_words.proofs.LockLemmas.{named_by_number, same_lock}
use Rattle.place_words.proofs.PlacedContents.{after_both}
use Rattle.place_words.proofs.Settled.{turned_here, turned_elsewhere}
use Rattle.place_words.specs.declared.step.Lists.{Lists}
use Rattle.place_words.specs.declared.step.Step.{Step}
use Rattle.place_words.specs.declared.step.Step.TheVariants as steps
use Rattle.place_words.specs.Places.{has_row, lies_at}
use Rattle.place_words.specs.State.{State, rows, HasCursorInside}
use Rattle.place_words.specs.Steps.{with_row, without_free}
use Rattle.place_words.proofs.ElementLemmas.{times_cons_same, times_cons_other, times_without_same, times_without_other}
use Rattle.place_words.specs.Interleaving.{Drawn, Event, does, set_lists, claims, freed_steps, lists_in, interleaved, AreEnabled}
use Rattle.place_words.proofs.Cursors.{global_cursor}
use Rattle.core_runs.proofs.Evictions.{Hands, evicting, evicting_beside, AreBuckets, onto, evicting_runs}
use Rattle.core_runs.proofs.Nests.{stamped, AreFrom, from_less, drawn, nest_ends, inside_both, deep, deep_begins, both_first, middle_ends, outer_left}
use Rattle.core_runs.proofs.OwnNest.{names, evicting_ranks, evicting_length, evicting_else, times_onto, stacked_turned, first_got, none_got, free_apart, weaker, put_back, put_twice}
use Rattle.core_runs.proofs.OwnTurns.{stacked, without_all}
use Rattle.core_runs.proofs.PlainGoes.{Goes, stamped_both, length_both}
use Rattle.core_runs.proofs.PlainRuns.{core_lists, tied_alike, then_alike}
use Rattle.core_runs.proofs.SharedMoves.{local_lists, both_lists, rows_of_global, rows_gone, global_free, global_rows, gone_free, local_lock, rows_few, flushing_runs, freeing_runs, freed_runs}
use Rattle.core_runs.proofs.Tied.{IsTied, with_lists, held_first, lists_here, lists_else, free_real, under, take_tied, claim_tied, give_tied, give_same}

-- What a refill is, with the turn of the global lists inside it.
pub record IsRefill (shape : Shape) (cpu : ℕ) (contents : DomainId → Content) (es : List (ℕ × ℕ)) (gained : List ℕ) (got : Option ℕ) (flushed : List Flush) (active inactive : List Visit) (free : List ℕ) (shrink : Option ShrinkNote) : Type 0 where
  pub lists : LocalLists
  pub set : ListSet
  pub local_lies : contents (Local cpu) ≡ in_locals lists
  pub global_lies : contents Global ≡ in_global set
  pub buckets : AreBuckets shape es
  pub evictions : AreAllowed shape cpu contents (evicting es)
  pub allowed : AllowsOnGlobal (global.Turn flushed active inactive free shrink) set
  pub none_free : lists.free ≡ []
  pub flushed_are : flushed_elements flushed ≡ reverse (elements_of lists.pending)
  pub gained_are : gained ≡ free ++ freed_by shrink
  pub got_is : got ≡ last_of gained
  pub freed : freed_by shrink ≡ names es
  pub listed : (x : ℕ) → IsIn x (names es) → 0 < times x (rows (set_lists set)) + times x (flushed_elements flushed)

-- as many are left
left_times : (es ys : List ℕ) → ((x : ℕ) → times x es ≤ times x ys) → (x : ℕ) → times x (without_all es ys) + times x es ≡ times x ys
left_times [] ys most x = omega arith
left_times (e ∷ es) ys most x =
    let rest = left_times es (without e ys) (λ y. ⊎_elim
    (λ (same : y ≡ e). subst (λ (z : ℕ). times z es ≤ times z (without e ys)) (sym same) (let less = times_without_same e ys in let there = most e in let here = times_cons_same e es in omega (arith, less, there, here)))
    (λ (other : y ≡ e → ⊥). let stays = times_without_other y e ys other in let there = most y in let same = times_cons_other y e es other in omega (arith, stays, there, same))
    (cases_eq y e)) x in
    ⊎_elim
    (λ (same : x ≡ e). let less : times x (without e ys) ≡ times x ys - 1 = subst (λ (z : ℕ). times z (without e ys) ≡ times z ys - 1) (sym same) (times_without_same e ys) in let here : times x (e ∷ es) ≡ suc (times x es) = subst (λ (z : ℕ). times x (z ∷ es) ≡ suc (times x es)) same (times_cons_same x es) in let there = most x in omega (arith, rest, less, here, there))
    (λ (other : x ≡ e → ⊥). let stays = times_without_other x e ys other in let same = times_cons_other x e es other in omega (arith, rest, stays, same))
    (cases_eq x e)

none_at_all : (xs : List ℕ) → ((x : ℕ) → times x xs ≡ 0) → xs ≡ []
none_at_all [] none = refl
none_at_all (x ∷ xs) none = absurd (let here = times_cons_same x xs in let zero_there = none x in omega (arith, here, zero_there))

pub stacked_both : (xs ys free : List ℕ) → stacked (xs ++ ys) free ≡ stacked ys (stacked xs free)
stacked_both [] ys free = refl
stacked_both (x ∷ xs) ys free = stacked_both xs ys (x ∷ free)

-- each element lies in the global lists once at most
pub global_once : {shape : Shape} (bounds : HasBounds shape) {cpu : ℕ} (within : cpu < shape.cpus) {held : List DomainId} {lists : DomainId → Lists} {Known : ℕ → ℕ → Type 0} {s : State} → IsTied shape cpu held lists Known s
    → IsTrue shape.common → (set : ListSet) → lists Global ≡ set_lists set → IsOnce (in_global set)
global_once {shape = shape} bounds within {s = s} tied is set lies e =
    let number : ℕ = lock_number shape Global in
    let at = under bounds within tied Global is ∙ lies in
    let free : times e (s.lists number).free ≡ times e set.free = ap (λ (l : Lists). times e l.free) at in
    let row : times e (rows (s.lists number)) ≡ times e (rows (set_lists set)) = ap (λ (l : Lists). times e (rows l)) at in
    let sum : times e (elements_in (in_global set)) ≡ times e set.free + times e (rows (set_lists set)) = times_append e set.free (rows (set_lists set)) in
    let told : times e (rows (s.lists number)) ≡ one (ltb e shape.elements && has_row (is_lru shape.kind) Global (s.owner e) (lies_at number (tied.placed.place e))) =
    subst (λ (lock : DomainId). times e (rows (s.lists number)) ≡ one (ltb e shape.elements && has_row (is_lru shape.kind) lock (s.owner e) (lies_at number (tied.placed.place e)))) (named_by_number shape Global is) (tied.placed.placed.rows number e) in
    let most = free_apart (ltb e shape.elements) (is_free (s.owner e)) (lies_at number (tied.placed.place e)) (is_lru shape.kind) in
    omega (arith, sum, free, row, told, most, tied.placed.placed.free number e)

pub three_parts : (a b c : List Step) (more : List Event) → map does ((a ++ b) ++ c) ++ more ≡ map does a ++ (map does b ++ (map does c ++ more))
three_parts a b c more =
    ap (λ (l : List Event). l ++ more) (map-append does (a ++ b) c ∙ ap (λ (l : List Event). l ++ map does c) (map-append does a b))
    ∙ append_assoc (map does a ++ map does b) (map does c) more ∙ append_assoc (map does a) (map does b) (map does c ++ more)

-- What the refill gained is on the CPU's free list, and its head is claimed.
refilled_gives : {shape : Shape} (bounds : HasBounds shape) {cpu : ℕ} (within : cpu < shape.cpus) → IsTrue (is_lock shape (Local cpu)) → {Known : ℕ → ℕ → Type 0} (got : Option ℕ) (gained : List ℕ) → got ≡ last_of gained
    → (lists : DomainId → Lists) (rest : List ℕ) {u : State} → IsTied shape cpu (Local cpu ∷ []) (with_lists (Local cpu) (local_lists (stacked gained []) []) lists) (Hands cpu rest Known) u
    → (new : Lists) (more : List Event) → new ≡ local_lists (drop 1 (reverse gained)) (option_to_list got)
    → ((v : State) → IsTied shape cpu [] (with_lists (Local cpu) new lists) (Hands cpu (option_to_list got) Known) v → AreEnabled shape v more)
    → AreEnabled shape u (map does (claims cpu (Local cpu) got) ++ does (steps.Give cpu (Local cpu) new) ∷ more)
unfolding AreEnabled
refilled_gives {shape = shape} bounds {cpu = cpu} within is None gained got_is lists rest tied new more new_is k =
    let lock : DomainId = Local cpu in
    let turned : stacked gained [] ≡ reverse gained = sym (stacked_turned gained []) ∙ append-nil (reverse gained) in
    let empty : reverse gained ≡ [] = none_got (reverse gained) (sym got_is) in
    let now : local_lists (stacked gained []) [] ≡ new = ap (λ (xs : List ℕ). local_lists xs []) (turned ∙ empty ∙ sym (ap (drop 1) empty)) ∙ sym new_is in
    let gave = give_same bounds within lock tied new is tt (lists_here lock (local_lists (stacked gained []) []) lists ∙ now) in
    (gave.enabled, k _ (weaker (λ c x held. ⊎_elim (λ (mine : IsIn x [] × (c ≡ cpu)). absurd (omega (arith, mine.0))) (λ known. inr known) held) (tied_alike (put_twice lock new (local_lists (stacked gained []) []) lists) gave.tied)))
refilled_gives {shape = shape} bounds {cpu = cpu} within is {Known = Known} (Some g) gained got_is lists rest {u = u} tied new more new_is k =
    let lock : DomainId = Local cpu in
    let l : Lists = local_lists (stacked gained []) [] in
    let turned : stacked gained [] ≡ reverse gained = sym (stacked_turned gained []) ∙ append-nil (reverse gained) in
    let first : reverse gained ≡ g ∷ drop 1 (reverse gained) = first_got (reverse gained) g (sym got_is) in
    let here : with_lists lock l lists lock ≡ l = lists_here lock l lists in
    let free_is : (with_lists lock l lists lock).free ≡ g ∷ drop 1 (reverse gained) = ap (λ (x : Lists). x.free) here ∙ turned ∙ first in
    let inside : IsIn g (with_lists lock l lists lock).free = subst (λ (xs : List ℕ). IsIn g xs) (sym free_is) (let more_there = times_cons_same g (drop 1 (reverse gained)) in omega (arith, more_there)) in
    let free : u.owner g ≡ owners.Free = (free_real bounds within tied lock g is inside).1 in
    let made : with_row lock g (without_free g (with_lists lock l lists lock)) ≡ local_lists (drop 1 (reverse gained)) (g ∷ []) =
    ap (λ (x : Lists). with_row lock g (without_free g x)) here
    ∙ ap (λ (xs : List ℕ). local_lists (without g xs) (g ∷ [])) (turned ∙ first)
    ∙ ap (λ (xs : List ℕ). local_lists xs (g ∷ [])) (cond-true (eqb g g) (drop 1 (reverse gained)) (g ∷ without g (drop 1 (reverse gained))) (eq-eqb g g refl)) in
    let claimed = claim_tied bounds within tied lock g (drop 1 (reverse gained)) (local_lists (drop 1 (reverse gained)) (g ∷ [])) (Hands cpu (g ∷ []) Known) is (held_first cpu [] lock) free_is made
    (λ c x held. ⊎_elim
    (λ (mine : IsIn x (g ∷ []) × (c ≡ cpu)). ((λ same. mine.1), (λ other. absurd (let none = times_cons_other x g [] other in let some = mine.0 in omega (arith, none, some)))))
    (λ (known : Known c x). ((λ same. (let owner : owners.Free ≡ owners.Hand c = sym free ∙ ap u.owner (sym same) ∙ (tied.known c x (inr known)).1 in absurd cc)), (λ other. inr known)))
    held) in
    let gave = give_same bounds within lock claimed.tied new is tt (lists_here lock (local_lists (drop 1 (reverse gained)) (g ∷ [])) (with_lists lock l lists) ∙ sym new_is) in
    (claimed.enabled, (gave.enabled, k _ (tied_alike (λ other. put_twice lock new (local_lists (drop 1 (reverse gained)) (g ∷ [])) (with_lists lock l lists) other ∙ put_twice lock new l lists other) gave.tied)))

-- the state before the global lists are given back, and their lists
pub counted_rows : (F fr left es : List ℕ) (set : ListSet) (after_free : ℕ) (x total after_total rows_before rows_flushed rows_now rows_after : ℕ) → after_total + times x (fr ++ es) ≡ total + times x F → total ≡ times x set.free + rows_before → after_total ≡ after_free + rows_after
    → times x set.free ≡ times x fr + times x left → after_free ≡ times x left → rows_flushed ≡ rows_before + times x F → rows_now + times x es ≡ rows_flushed → rows_after ≡ rows_now
counted_rows F fr left es set after_free x total after_total rows_before rows_flushed rows_now rows_after kept before after free_is left_is flushed gone =
    let sum = times_append x fr es in omega (arith, kept, before, after, free_is, left_is, flushed, gone, sum)

pub pending_got : (hash : ℕ) (gained : List ℕ) (visits : List Visit) (lists : LocalLists) (got : Option ℕ) → lists_in (in_locals (local_after (local.Refill hash visits gained got) lists)) ≡ local_lists (drop 1 (reverse gained)) (option_to_list got)
unfolding local_after
pending_got hash gained visits lists None = refl
pending_got hash gained visits lists (Some e) = refl

settled_there : (cpu : ℕ) (new l m g : Lists) (was now : DomainId → Lists) (other : DomainId) → l ≡ m → with_lists Global new was other ≡ now other → with_lists Global new (both_lists cpu l g was) other ≡ with_lists (Local cpu) m now other
settled_there cpu new l m g was now (Local c) same base = by (eqb cpu c)
  where
    by : (b : Bool) → cond b l (was (Local c)) ≡ cond b m (now (Local c))
    by true = same
    by false = base
settled_there cpu new l m g was now Global same base = base
settled_there cpu new l m g was now (CpuLru c) same base = base
settled_there cpu new l m g was now (Bucket b) same base = base
settled_there cpu new l m g was now (Freelist c) same base = base

pub goes_refill : {shape : Shape} (bounds : HasBounds shape) (lru : is_lru shape.kind ≡ true) (common : IsTrue shape.common) {cpu : ℕ} (within : cpu < shape.cpus) → (contents : DomainId → Content) (Known : ℕ → ℕ → Type 0) (es : List (ℕ × ℕ)) (hash : ℕ) (visits : List Visit)
    (gained : List ℕ) (got : Option ℕ) (flushed : List Flush) (active inactive : List Visit) (free : List ℕ) (shrink : Option ShrinkNote)
    → IsRefill shape cpu contents es gained got flushed active inactive free shrink
    → Goes shape cpu contents Known (evicting es ++ on_lock Global (parts.Global (global.Turn flushed active inactive free shrink)) ∷ on_lock (Local cpu) (parts.Local (local.Refill hash visits gained got)) ∷ []) (Hands cpu (option_to_list got) Known)
unfolding AreEnabled global_after local_after
goes_refill {shape = shape} bounds lru common {cpu = cpu} within contents Known es hash visits gained got flushed active inactive free shrink turn = record {
  run = λ s n call later tied from more.
      let last : ℕ = n + length es in
      let middle : Turn = on_lock Global (parts.Global (global.Turn flushed active inactive free shrink)) in
      let outer : Turn = on_lock (Local cpu) (parts.Local (local.Refill hash visits gained got)) in
      let between : DomainId → Content = after_turns shape cpu contents (evicting es) in
      let now : DomainId → Content = after_turn shape cpu between middle in
      let end : DomainId → Content = after_turn shape cpu now outer in
      let F : List ℕ = flushed_elements flushed in
      let P : List ℕ = elements_of turn.lists.pending in
      let fs : List ℕ = freed_by shrink in
      let left : List ℕ = drop global_target turn.set.free in
      let g : Lists = set_lists turn.set in
      let there : is_lock shape (Local cpu) ≡ true = local_lock shape cpu common within in
      let local_is : between (Local cpu) ≡ in_locals turn.lists = evicting_else shape cpu (Local cpu) (λ bucket. refl) es contents ∙ turn.local_lies in
      let global_is : between Global ≡ in_global turn.set = evicting_else shape cpu Global (λ bucket. refl) es contents ∙ turn.global_lies in
      let long : length (evicting es) ≡ length es = evicting_length es in
      let whole : after_turns shape cpu contents (evicting es ++ middle ∷ outer ∷ []) ≡ end = after_both shape cpu contents (evicting es) (middle ∷ outer ∷ []) in
      let nested : stamped n cpu call (evicting es ++ middle ∷ outer ∷ []) ++ later ≡ stamped n cpu call (evicting es) ++ deep shape cpu call outer middle refl refl refl last later =
      ap (λ (l : List Drawn). l ++ later) (stamped_both n cpu call (evicting es) (middle ∷ outer ∷ [])) ∙ append_assoc (stamped n cpu call (evicting es)) (stamped (n + length (evicting es)) cpu call (middle ∷ outer ∷ [])) later
      ∙ ap (λ (k : ℕ). stamped n cpu call (evicting es) ++ drawn k cpu call middle ∷ drawn (suc k) cpu call outer ∷ later) (omega (arith, long)) in
      let later_from : AreFrom (suc (suc last)) later = from_less (suc (suc last)) (n + length (evicting es ++ middle ∷ outer ∷ [])) later (let sum = length_both (evicting es) (middle ∷ outer ∷ []) in let two : length (middle ∷ outer ∷ []) ≡ 2 = refl in omega (arith, sum, long, two)) from in
      let took_local = take_tied bounds within tied (Local cpu) there tt in
      let took_global = take_tied bounds within took_local.tied Global common (omega arith, tt) in
      subst (λ (l : List Drawn). AreEnabled shape s (interleaved shape contents [] l)) (sym nested)
      (subst (AreEnabled shape s) (sym (deep_begins shape cpu call outer middle refl refl refl contents 3 last n (evicting es) later (omega (arith, long)) (evicting_beside es) (evicting_ranks es) refl later_from)) (
        took_local.enabled,
        (
          took_global.enabled,
          evicting_runs bounds within call (omega arith, (omega arith, tt)) last (deep shape cpu call outer middle refl refl refl last later) (inside_both shape cpu call outer middle refl refl refl 3 last later refl) es [] contents
              (weaker (λ c x held. ⊎_elim (λ (mine : IsIn x [] × (c ≡ cpu)). absurd (omega (arith, mine.0))) (λ (known : Known c x). known) held) took_global.tied)
              (suc last ∷ last ∷ []) n refl (both_first shape cpu call outer middle refl refl refl n last (omega arith)) turn.buckets turn.evictions (λ x. omega arith) (λ c x known. refl)
              (λ t began has once apart held.
              let hand : List ℕ = onto es [] in
              let count : (x : ℕ) → times x hand ≡ times x (names es) = λ x. let sum = times_onto x es [] in omega (arith, sum) in
              let core_local : core_lists between (Local cpu) ≡ local_lists [] P = ap lists_in local_is ∙ ap (λ (xs : List ℕ). local_lists xs P) turn.none_free in
              let core_global : core_lists between Global ≡ g = ap lists_in global_is in
              let is_once : IsOnce (in_global turn.set) = global_once bounds within held common turn.set core_global in
              let pending_once : (x : ℕ) → times x P ≤ 1 = λ x. let few = rows_few bounds within held (Local cpu) there x in let same : times x (rows (core_lists between (Local cpu))) ≡ times x (P ++ []) = ap (λ (l : Lists). times x (rows l)) core_local in let sum = times_append x P [] in omega (arith, few, same, sum) in
              let same_flush : (x : ℕ) → times x F ≡ times x P = λ x. ap (times x) turn.flushed_are ∙ times_turned x P in
              let flushed_once : (x : ℕ) → times x F ≤ 1 = λ x. let same = same_flush x in let few = pending_once x in omega (arith, same, few) in
              let g1 : Lists = rows_of_global F g in
              let g1_free : g1.free ≡ free ++ left = global_free F g ∙ sym (take-append-drop global_target turn.set.free) ∙ ap (λ (xs : List ℕ). xs ++ left) (sym turn.allowed.2) in
              let g2 : Lists = record { free = left; first = g1.first; second = g1.second; cursor = g1.cursor } in
              let new : Lists = lists_in (now Global) in
              let after : new ≡ set_lists (global_after (global.Turn flushed active inactive free shrink) turn.set) = ap lists_in (turned_here shape cpu between middle Global refl ∙ ap (content_after shape cpu middle.part) global_is) in
              let gives : List Event = does (steps.Give cpu Global new) ∷ interleaved shape now (last ∷ suc last ∷ began) (drawn (suc last) cpu call outer ∷ later) in
              subst (AreEnabled shape t) (sym (middle_ends shape cpu call outer middle refl refl refl between began last last later has
              ∙ three_parts (map (λ e. steps.Rehome cpu e (homes.In Global)) F) (map (λ e. steps.Rehome cpu e (homes.In (Local cpu))) free) (flat_map (freed_steps cpu) fs) gives))
              (flushing_runs bounds lru common within F [] P g (core_lists between) _
              (tied_alike (λ other. sym (put_back Global g (with_lists (Local cpu) (local_lists [] P) (core_lists between)) (lists_else (Local cpu) Global (local_lists [] P) (core_lists between) (λ same. absurd cc) ∙ core_global) other ∙ put_back (Local cpu) (local_lists [] P) (core_lists between) core_local other)) held)
              flushed_once (λ x inside. let same = same_flush x in omega (arith, same, inside))
              (λ u flushed_tied.
              let Y : List ℕ = without_all F P in
              let none_pending : Y ≡ [] = none_at_all Y (λ x. let same = same_flush x in let rest = left_times F P (λ y. let equal = same_flush y in omega (arith, equal)) x in omega (arith, same, rest)) in
              freeing_runs bounds lru common within free [] left Y g1.first g1.second g1.cursor (core_lists between) _
              (tied_alike (λ other. ap (λ (xs : List ℕ). both_lists cpu (local_lists [] Y) (record { free = xs; first = g1.first; second = g1.second; cursor = g1.cursor }) (core_lists between) other) g1_free) flushed_tied)
              (λ v freed_tied.
              freed_runs bounds lru common within fs (stacked free []) Y hand g2 (core_lists between) gives freed_tied
              (λ x. subst (λ (f : List ℕ). times x f ≤ 1) (sym turn.freed) (let same = count x in let few = once x in omega (arith, same, few)))
              (λ x inside. let rows_are = global_rows F g x in let listed = turn.listed x (subst (λ (f : List ℕ). IsIn x f) turn.freed inside) in omega (arith, rows_are, listed))
              (λ x inside. subst (λ (k : ℕ). 0 < k) (sym (count x)) (subst (λ (f : List ℕ). IsIn x f) turn.freed inside))
              once apart
              (λ w gone final.
              let g3 : Lists = rows_gone fs g2 in
              let all : DomainId → Lists = both_lists cpu (local_lists (stacked fs (stacked free [])) Y) g3 (core_lists between) in
              let at_global : all Global ≡ g3 = refl in
              let gave = give_tied bounds within Global final new common (omega arith, tt) tt
              (λ e. ap (λ (x : Lists). times e x.free) after ∙ ap (times e) (sym (gone_free fs g2)))
              (λ e. ap (λ (x : Lists). times e (rows x)) after ∙ counted_rows F free left fs turn.set (times e left) e (times e (elements_in (in_global turn.set))) (times e (elements_in (in_global (global_after (global.Turn flushed active inactive free shrink) turn.set))))
              (times e (rows g)) (times e (rows g2)) (times e (rows g3)) (times e (rows (set_lists (global_after (global.Turn flushed active inactive free shrink) turn.set))))
              (keeps_elements shape cpu middle.part (in_global turn.set) turn.allowed is_once e)
              (times_append e turn.set.free (rows g))
              (times_append e left (rows (set_lists (global_after (global.Turn flushed active inactive free shrink) turn.set))))
              (ap (times e) (sym (take-append-drop global_target turn.set.free) ∙ ap (λ (xs : List ℕ). xs ++ left) (sym turn.allowed.2)) ∙ times_append e free left)
              refl (global_rows F g e) (gone e))
              (subst HasCursorInside (sym after) (global_cursor (global.Turn flushed active inactive free shrink) turn.set (subst HasCursorInside core_global (subst HasCursorInside (under bounds within held Global common) (held.placed.placed.cursors (lock_number shape Global)))))) in
              let x_is : stacked fs (stacked free []) ≡ stacked gained [] = sym (stacked_both free fs []) ∙ ap (λ (xs : List ℕ). stacked xs []) (sym turn.gained_are) in
              let local_now : now (Local cpu) ≡ in_locals turn.lists = turned_elsewhere shape cpu between middle (Local cpu) refl ∙ local_is in
              let local_end : lists_in (end (Local cpu)) ≡ local_lists (drop 1 (reverse gained)) (option_to_list got) =
              ap lists_in (turned_here shape cpu now outer (Local cpu) (same_lock (Local cpu)) ∙ ap (content_after shape cpu outer.part) local_now) ∙ pending_got hash gained visits turn.lists got in (
                gave.enabled,
                subst (AreEnabled shape _) (sym (nest_ends shape cpu call outer refl now (last ∷ suc last ∷ began) (suc last) (suc last) later (outer_left shape cpu call outer middle refl refl refl began last last has) later_from))
                    (refilled_gives bounds within there got gained turn.got_is (core_lists now) (without_all fs hand)
                    (tied_alike (λ other. settled_there cpu new (local_lists (stacked fs (stacked free [])) Y) (local_lists (stacked gained []) []) g3 (core_lists between) (core_lists now) other (ap (λ (xs : List ℕ). local_lists xs Y) x_is ∙ ap (local_lists (stacked gained [])) none_pending) (then_alike shape cpu between middle (core_lists between) (λ o away. refl) other)) gave.tied)
                    (lists_in (end (Local cpu))) (interleaved shape end [] later) local_end
                    (λ z done. subst (λ (c : DomainId → Content). (y : State) → IsTied shape cpu [] (core_lists c) (Hands cpu (option_to_list got) Known) y → AreEnabled shape y (interleaved shape c [] later)) whole more z
                    (tied_alike (then_alike shape cpu now outer (core_lists now) (λ other away. refl)) done))),
              )))))),
        ),
      ));
}
