-- An element is stolen from a CPU's lists and brought to the own ones: two turns of local lists are a run of the core.
use Rattle.std.proofs.Common.{◌≡◌, ℕ, suc, ◌+◌, ◌<◌, ◌≤◌, true, List, [], ◌∷◌, ◌++◌, drop, refl, ap, ◌∙◌, sym, subst, inl, ⊎_elim, arith}
use Rattle.std.specs.Prelude.{IsTrue}
use Rattle.map_types.specs.declared.attr.Shape.{Shape}
use Rattle.map_types.specs.declared.kind.DomainId.{DomainId}
use Rattle.map_types.specs.declared.kind.DomainId.TheVariants.{Local, Bucket}
use Rattle.map_types.specs.Kind.{is_lru}
use Rattle.map_types.specs.Shape.{HasBounds}
use Rattle.map_types.specs.Listed.{elements_of}
use Rattle.map_types.specs.ElementLists.{times, IsIn, IsHead, without}
use Rattle.map_types.proofs.RowLemmas.{times_append}
use Rattle.place_words.specs.declared.history.Part.TheVariants as parts
use Rattle.place_words.specs.declared.home.Home.TheVariants as homes
use Rattle.place_words.specs.declared.list_part.LocalPart.TheVariants as local
use Rattle.place_words.specs.declared.list_part.Stolen.TheVariants.{Free, Pending}
use Rattle.place_words.specs.declared.owner.Owner.TheVariants as owners
use Rattle.place_words.specs.declared.visits.Look.{Look}
use Rattle.place_words.specs.declared.visits.Try.{Try}
use Rattle.place_words.specs.Histories.{Content, in_locals, content_after}
use Rattle.place_words.specs.Locals.{LocalLists, local_after}
use Rattle.place_words.specs.Locks.{is_lock}
use Rattle.place_words.specs.Turns.{Turn, on_lock, after_turn, after_turns, AreAllowed}
use Rattle.place_words.proofs.LockLemmas.{same_lock}
use Rattle.place_words.proofs.PlacedContents.{after_both}
use Rattle.place_words.proofs.Settled.{turned_here}
use Rattle.place_words.specs.declared.step.Lists.{Lists}
use Rattle.place_words.specs.State.{State, rows}
use Rattle.place_words.specs.Steps.{with_row, without_row, without_free}
use Rattle.place_words.proofs.ElementLemmas.{put_here, times_cons_same}
use Rattle.place_words.specs.Interleaving.{Drawn, lists_in, interleaved, AreEnabled}
use Rattle.core_runs.proofs.Evictions.{Hands, evicting, evicting_beside, evicting_runs}
use Rattle.core_runs.proofs.ListGoes.{without_rows, in_hand_more}
use Rattle.core_runs.proofs.Nests.{stamped, AreFrom, from_less, drawn, turn_alone, nest, begun_first, begins, inside_one, nest_ends}
use Rattle.core_runs.proofs.OwnNest.{evicting_ranks, evicting_else, weaker}
use Rattle.core_runs.proofs.PlainGoes.{Goes}
use Rattle.core_runs.proofs.PlainRuns.{core_lists, tied_alike, then_alike, without_head}
use Rattle.core_runs.proofs.Rehomes.{row_lies_there, taken_away_tied, brought_tied}
use Rattle.core_runs.proofs.SharedMoves.{local_lists, local_lock, rows_few}
use Rattle.core_runs.proofs.Tied.{IsTied, with_lists, held_first, lists_here, lists_else, free_real, take_tied, claim_tied, give_same}

-- One that is pending there, which was evicted inside the turn, comes to the own pending list.
pub goes_steal_pending : {shape : Shape} (bounds : HasBounds shape) (lru : is_lru shape.kind ≡ true) (common : IsTrue shape.common) {cpu : ℕ} (within : cpu < shape.cpus) → (contents : DomainId → Content) (Known : ℕ → ℕ → Type 0)
    (theft bucket hash cursor other : ℕ) (first : List Look) (second : List Try) (theirs mine : LocalLists) → other < shape.cpus → bucket < shape.buckets
    → contents (Local other) ≡ in_locals theirs → IsIn theft (elements_of theirs.pending)
    → AreAllowed shape cpu contents (evicting ((theft, bucket) ∷ []))
    → after_turns shape cpu contents (evicting ((theft, bucket) ∷ []) ++ on_lock (Local other) (parts.Local (local.Steal (Pending theft) first second)) ∷ []) (Local cpu) ≡ in_locals mine
    → Goes shape cpu contents Known (evicting ((theft, bucket) ∷ []) ++ on_lock (Local other) (parts.Local (local.Steal (Pending theft) first second)) ∷ on_lock (Local cpu) (parts.Local (local.Add hash theft cursor)) ∷ []) (Hands cpu (theft ∷ []) Known)
unfolding AreEnabled local_after
goes_steal_pending {shape = shape} bounds lru common {cpu = cpu} within contents Known theft bucket hash cursor other first second theirs mine there bucket_there lies inside allowed mine_lies = record {
  run = λ s n call later tied from more.
      let es : List (ℕ × ℕ) = (theft, bucket) ∷ [] in
      let last : ℕ = n + 1 in
      let lock : DomainId = Local other in
      let steal : Turn = on_lock lock (parts.Local (local.Steal (Pending theft) first second)) in
      let add : Turn = on_lock (Local cpu) (parts.Local (local.Add hash theft cursor)) in
      let between : DomainId → Content = after_turns shape cpu contents (evicting es) in
      let now : DomainId → Content = after_turn shape cpu between steal in
      let end : DomainId → Content = after_turn shape cpu now add in
      let is : is_lock shape lock ≡ true = local_lock shape other common there in
      let is_own : is_lock shape (Local cpu) ≡ true = local_lock shape cpu common within in
      let lies_then : between lock ≡ in_locals theirs = evicting_else shape cpu lock (λ b. refl) es contents ∙ lies in
      let was : core_lists between lock ≡ local_lists theirs.free (elements_of theirs.pending) = ap lists_in lies_then in
      let nested : stamped n cpu call (evicting es ++ steal ∷ add ∷ []) ++ later ≡ nest shape cpu call steal refl last n (evicting es) (drawn (suc last) cpu call add ∷ later) =
      ap (λ (k : ℕ). drawn n cpu call (on_lock (Bucket bucket) (parts.Bucket (Rattle.place_words.specs.declared.bucket_part.BucketPart.TheVariants.Evict theft Rattle.place_words.specs.declared.bucket_part.Seen.TheVariants.Removed))) ∷ drawn k cpu call steal ∷ drawn (suc k) cpu call add ∷ later) (omega arith) in
      let add_from : AreFrom (suc (suc last)) later = from_less (suc (suc last)) (n + 3) later (omega arith) from in
      let rest_from : AreFrom (suc last) (drawn (suc last) cpu call add ∷ later) = (omega arith, from_less (suc last) (suc (suc last)) later (omega arith) add_from) in
      let took = take_tied bounds within tied lock is tt in
      subst (λ (l : List Drawn). AreEnabled shape s (interleaved shape contents [] l)) (sym nested)
      (subst (AreEnabled shape s) (sym (begins shape cpu call steal refl contents last n 3 (evicting es) (drawn (suc last) cpu call add ∷ later) (omega arith) (evicting_beside es) (evicting_ranks es) refl rest_from)) (
        took.enabled,
        evicting_runs bounds within call (omega arith, tt) last (drawn last cpu call steal ∷ drawn (suc last) cpu call add ∷ later) (inside_one shape cpu call steal refl 3 last (drawn (suc last) cpu call add ∷ later) refl) es [] contents
            (weaker (λ c x held. ⊎_elim (λ (mine : IsIn x [] × (c ≡ cpu)). absurd (omega (arith, mine.0))) (λ (known : Known c x). known) held) took.tied)
            (last ∷ []) n refl (begun_first shape cpu call steal refl n last) (bucket_there, tt) allowed (λ x. omega arith) (λ c x known. refl)
            (λ t began has once apart held.
            let in_hand : Hands cpu (theft ∷ []) Known cpu theft = inl (let self = times_cons_same theft [] in omega (arith, self), refl) in
            let inside_core : IsIn theft (rows (core_lists between lock)) = subst (λ (l : Lists). IsIn theft (rows l)) (sym was) (let sum = times_append theft (elements_of theirs.pending) [] in omega (arith, sum, inside)) in
            let theirs_once : times theft (elements_of theirs.pending) ≤ 1 = let few = rows_few bounds within held lock is theft in let same : times theft (rows (core_lists between lock)) ≡ times theft (elements_of theirs.pending ++ []) = ap (λ (l : Lists). times theft (rows l)) was in let sum = times_append theft (elements_of theirs.pending) [] in omega (arith, few, same, sum) in
            let lies_there = row_lies_there bounds lru within held lock theft is refl inside_core in
            let left : Lists = local_lists theirs.free (without theft (elements_of theirs.pending)) in
            let away = taken_away_tied bounds lru within held lock theft left common is (held_first cpu [] lock) lies_there in_hand (ap (without_row theft) was) in
            let after : left ≡ lists_in (now lock) =
            ap (local_lists theirs.free) (without_rows theft theirs.pending theirs_once)
            ∙ sym (ap lists_in (turned_here shape cpu between steal lock (same_lock lock) ∙ ap (content_after shape cpu steal.part) lies_then)) in
            let gave = give_same bounds within lock away.tied (lists_in (now lock)) is tt (lists_here lock left (core_lists between) ∙ after) in
            let then : IsTied shape cpu [] (core_lists now) (Hands cpu (theft ∷ []) Known) _ = tied_alike (then_alike shape cpu between steal (with_lists lock left (core_lists between)) (λ o far. lists_else lock o left (core_lists between) far)) gave.tied in
            let own_lies : now (Local cpu) ≡ in_locals mine = ap (λ (c : DomainId → Content). c (Local cpu)) (sym (after_both shape cpu contents (evicting es) (steal ∷ []))) ∙ mine_lies in
            let own_was : core_lists now (Local cpu) ≡ local_lists mine.free (elements_of mine.pending) = ap lists_in own_lies in
            let took_own = take_tied bounds within then (Local cpu) is_own tt in
            let joined : Lists = local_lists mine.free (theft ∷ elements_of mine.pending) in
            let brought = brought_tied bounds lru within took_own.tied (Local cpu) cpu theft joined refl common is_own (held_first cpu [] (Local cpu)) in_hand (put_here t.home theft (homes.Hand cpu)) (ap (with_row (Local cpu) theft) own_was) in
            let own_after : joined ≡ lists_in (end (Local cpu)) = sym (ap lists_in (turned_here shape cpu now add (Local cpu) (same_lock (Local cpu)) ∙ ap (content_after shape cpu add.part) own_lies)) in
            let gave_own = give_same bounds within (Local cpu) brought.tied (lists_in (end (Local cpu))) is_own tt (lists_here (Local cpu) joined (core_lists now) ∙ own_after) in
            subst (AreEnabled shape t) (sym (nest_ends shape cpu call steal refl between began last last (drawn (suc last) cpu call add ∷ later) has rest_from)) (
              away.enabled,
              (
                gave.enabled,
                subst (AreEnabled shape _) (sym (turn_alone shape now (drawn (suc last) cpu call add) later refl add_from)) (
                  took_own.enabled,
                  (
                    brought.enabled,
                    (
                      gave_own.enabled,
                      subst (λ (c : DomainId → Content). (u : State) → IsTied shape cpu [] (core_lists c) (Hands cpu (theft ∷ []) Known) u → AreEnabled shape u (interleaved shape c [] later)) (after_both shape cpu contents (evicting es) (steal ∷ add ∷ [])) more _
                          (tied_alike (then_alike shape cpu now add (with_lists (Local cpu) joined (core_lists now)) (λ o far. lists_else (Local cpu) o joined (core_lists now) far)) gave_own.tied),
                    ),
                  ),
                ),
              ),
            )),
      ));
}

-- One that is free there comes to the own pending list.
pub goes_steal_free : {shape : Shape} (bounds : HasBounds shape) (lru : is_lru shape.kind ≡ true) (common : IsTrue shape.common) {cpu : ℕ} (within : cpu < shape.cpus) → (contents : DomainId → Content) (Known : ℕ → ℕ → Type 0)
    (theft hash cursor other : ℕ) (first : List Look) (second : List Try) (theirs mine : LocalLists) → other < shape.cpus
    → contents (Local other) ≡ in_locals theirs → IsHead theft theirs.free
    → after_turns shape cpu contents (on_lock (Local other) (parts.Local (local.Steal (Free theft) first second)) ∷ []) (Local cpu) ≡ in_locals mine
    → Goes shape cpu contents (Hands cpu [] Known) (on_lock (Local other) (parts.Local (local.Steal (Free theft) first second)) ∷ on_lock (Local cpu) (parts.Local (local.Add hash theft cursor)) ∷ []) (Hands cpu (theft ∷ []) Known)
unfolding AreEnabled local_after
goes_steal_free {shape = shape} bounds lru common {cpu = cpu} within contents Known theft hash cursor other first second theirs mine there lies head mine_lies = record {
  run = λ s n call later tied from more.
      let lock : DomainId = Local other in
      let steal : Turn = on_lock lock (parts.Local (local.Steal (Free theft) first second)) in
      let add : Turn = on_lock (Local cpu) (parts.Local (local.Add hash theft cursor)) in
      let now : DomainId → Content = after_turn shape cpu contents steal in
      let end : DomainId → Content = after_turn shape cpu now add in
      let is : is_lock shape lock ≡ true = local_lock shape other common there in
      let is_own : is_lock shape (Local cpu) ≡ true = local_lock shape cpu common within in
      let left : List ℕ = drop 1 theirs.free in
      let pending : List ℕ = elements_of theirs.pending in
      let was : core_lists contents lock ≡ local_lists (theft ∷ left) pending = ap lists_in lies ∙ ap (λ (xs : List ℕ). local_lists xs pending) (head_is_first theirs.free head) in
      let took = take_tied bounds within tied lock is tt in
      let free : s.owner theft ≡ owners.Free = (free_real bounds within took.tied lock theft is (subst (λ (l : Lists). IsIn theft l.free) (sym was) (let here = times_cons_same theft left in omega (arith, here)))).1 in
      let claimed = claim_tied bounds within took.tied lock theft left (local_lists left (theft ∷ pending)) (Hands cpu (theft ∷ []) Known) is (held_first cpu [] lock) (ap (λ (l : Lists). l.free) was)
      (ap (λ (l : Lists). with_row lock theft (without_free theft l)) was ∙ ap (λ (xs : List ℕ). local_lists xs (theft ∷ pending)) (without_head theft left))
      (λ c x held. in_hand_more cpu theft [] Known c x (λ d y known same. (let owner : owners.Free ≡ owners.Hand d = sym free ∙ ap s.owner (sym same) ∙ (tied.known d y known).1 in absurd cc)) held) in
      let in_hand : Hands cpu (theft ∷ []) Known cpu theft = inl (let self = times_cons_same theft [] in omega (arith, self), refl) in
      let between : with_lists lock (local_lists left (theft ∷ pending)) (core_lists contents) lock ≡ local_lists left (theft ∷ pending) = lists_here lock (local_lists left (theft ∷ pending)) (core_lists contents) in
      let lies_there = row_lies_there bounds lru within claimed.tied lock theft is refl (subst (λ (l : Lists). IsIn theft (rows l)) (sym between) (let here = times_cons_same theft (pending ++ []) in omega (arith, here))) in
      let away = taken_away_tied bounds lru within claimed.tied lock theft (local_lists left pending) common is (held_first cpu [] lock) lies_there in_hand (ap (without_row theft) between ∙ ap (local_lists left) (without_head theft pending)) in
      let after : local_lists left pending ≡ lists_in (now lock) = sym (ap lists_in (turned_here shape cpu contents steal lock (same_lock lock) ∙ ap (content_after shape cpu steal.part) lies)) in
      let gave = give_same bounds within lock away.tied (lists_in (now lock)) is tt (lists_here lock (local_lists left pending) (with_lists lock (local_lists left (theft ∷ pending)) (core_lists contents)) ∙ after) in
      let passed : IsTied shape cpu [] (core_lists now) (Hands cpu (theft ∷ []) Known) _ =
      tied_alike (then_alike shape cpu contents steal (with_lists lock (local_lists left pending) (with_lists lock (local_lists left (theft ∷ pending)) (core_lists contents)))
      (λ o far. lists_else lock o (local_lists left pending) (with_lists lock (local_lists left (theft ∷ pending)) (core_lists contents)) far ∙ lists_else lock o (local_lists left (theft ∷ pending)) (core_lists contents) far)) gave.tied in
      let own_was : core_lists now (Local cpu) ≡ local_lists mine.free (elements_of mine.pending) = ap lists_in mine_lies in
      let took_own = take_tied bounds within passed (Local cpu) is_own tt in
      let joined : Lists = local_lists mine.free (theft ∷ elements_of mine.pending) in
      let brought = brought_tied bounds lru within took_own.tied (Local cpu) cpu theft joined refl common is_own (held_first cpu [] (Local cpu)) in_hand (put_here s.home theft (homes.Hand cpu)) (ap (with_row (Local cpu) theft) own_was) in
      let own_after : joined ≡ lists_in (end (Local cpu)) = sym (ap lists_in (turned_here shape cpu now add (Local cpu) (same_lock (Local cpu)) ∙ ap (content_after shape cpu add.part) mine_lies)) in
      let gave_own = give_same bounds within (Local cpu) brought.tied (lists_in (end (Local cpu))) is_own tt (lists_here (Local cpu) joined (core_lists now) ∙ own_after) in
      subst (AreEnabled shape s) (sym (turn_alone shape contents (drawn n cpu call steal) (drawn (suc n) cpu call add ∷ later) refl (omega arith, from_less (suc n) (n + 2) later (omega arith) from))) (
        took.enabled,
        (
          claimed.enabled,
          (
            away.enabled,
            (
              gave.enabled,
              subst (AreEnabled shape _) (sym (turn_alone shape now (drawn (suc n) cpu call add) later refl (from_less (suc (suc n)) (n + 2) later (omega arith) from))) (
                took_own.enabled,
                (
                  brought.enabled,
                  (
                    gave_own.enabled,
                    more _
                        (tied_alike (then_alike shape cpu now add (with_lists (Local cpu) joined (core_lists now)) (λ o far. lists_else (Local cpu) o joined (core_lists now) far)) gave_own.tied),
                  ),
                ),
              ),
            ),
          ),
        ),
      );
}
  where
    head_is_first : (xs : List ℕ) → IsHead theft xs → xs ≡ theft ∷ drop 1 xs
    head_is_first [] is = absurd is
    head_is_first (x ∷ xs) is = ap (λ (y : ℕ). y ∷ xs) is
