-- A race of a map whose CPUs share lists: its interleaving may be done exactly where words allow it.
use Rattle.std.proofs.Common.{◌≡◌, ◌≢◌, ℕ, suc, ◌+◌, ◌<◌, ◌≤◌, Bool, true, false, cond, eqb, List, [], ◌∷◌, ◌++◌, map, take, length, reverse, Option, None, Some, refl, ap, ◌∙◌, sym, subst, ⊎_elim, arith, drop}
use Rattle.std.specs.Prelude.{IsTrue, MatchOption, option_to_list}
use Rattle.std.proofs.lemmas.Bool.{true≢false}
use Rattle.map_types.specs.declared.attr.Shape.{Shape}
use Rattle.map_types.specs.declared.kind.DomainId.{DomainId}
use Rattle.map_types.specs.declared.kind.DomainId.TheVariants.{Local, Global, CpuLru, Bucket, Freelist}
use Rattle.map_types.specs.Kind.{is_lru}
use Rattle.map_types.specs.Listed.{elements_of}
use Rattle.map_types.specs.Shape.{HasBounds}
use Rattle.map_types.specs.ElementLists.{put, times, IsIn, IsHead}
use Rattle.map_types.proofs.RowLemmas.{times_append, by_test}
use Rattle.place_words.specs.declared.bucket_part.BucketPart.{BucketPart}
use Rattle.place_words.specs.declared.history.Part.{Part}
use Rattle.place_words.specs.declared.history.Part.TheVariants as parts
use Rattle.place_words.specs.declared.list_part.GlobalPart.{GlobalPart}
use Rattle.place_words.specs.declared.list_part.GlobalPart.TheVariants as global
use Rattle.place_words.specs.declared.list_part.LocalPart.{LocalPart}
use Rattle.place_words.specs.declared.list_part.LocalPart.TheVariants as local
use Rattle.place_words.specs.declared.list_part.Stolen.{Stolen}
use Rattle.place_words.specs.declared.list_part.Stolen.TheVariants as stolen
use Rattle.place_words.specs.declared.home.Home.TheVariants as homes
use Rattle.place_words.specs.Bodies.{numbers}
use Rattle.place_words.specs.Buckets.{AllowsInBucket, bucket_after}
use Rattle.place_words.specs.Choices.{among}
use Rattle.place_words.specs.Globals.{AllowsOnGlobal, global_after, flushed_elements}
use Rattle.place_words.specs.Histories.{Content, in_bucket, on_freelist, in_locals, in_global, in_own, locals_in, global_in, content_after, Allows, opening_content}
use Rattle.place_words.specs.Locals.{LocalLists, AllowsOnLocal, local_after}
use Rattle.place_words.specs.Locks.{is_lock, is_same_lock}
use Rattle.place_words.specs.Sets.{ListSet}
use Rattle.place_words.specs.Takings.{freed_by}
use Rattle.place_words.specs.Turns.{after_turn}
use Rattle.place_words.proofs.KeepLaws.{times_turned}
use Rattle.place_words.proofs.LockLemmas.{same_lock, other_lock}
use Rattle.place_words.proofs.Settled.{turned_here, turned_elsewhere}
use Rattle.place_words.specs.declared.step.Lists.{Lists}
use Rattle.place_words.specs.declared.step.Step.TheVariants as steps
use Rattle.place_words.specs.OpeningState.{opening}
use Rattle.place_words.specs.State.{State, rows, is_bucket}
use Rattle.place_words.proofs.ElementLemmas.{put_here, put_else}
use Rattle.place_words.proofs.OpeningLaws.{opening_placed}
use Rattle.place_words.specs.Interleaving.{Drawn, turn_of, Event, does, is_inner, enclosing, bucket_around, part_steps, seen_by, set_lists, lists_in, takes, not_begun, tickets_of, interleaved, AreEnabled}
use Rattle.core_runs.specs.Words.{words_of, RunsByWords, RunsByLists}
use Rattle.core_runs.specs.Races.{PaysBucket}
use Rattle.core_runs.specs.SharedRaces.{Midst, at_rest, IsStolenThere, LocalPays, PaysGlobal, SharedAt, midst_after, no_debts, AreShared}
use Rattle.core_runs.proofs.Ties.{with_lists, lists_here, lists_else}
use Rattle.core_runs.proofs.Words.{runs_both}
use Rattle.core_runs.proofs.Fits.{Fits, fits_alike, bucket_apart, other_sort}
use Rattle.core_runs.proofs.Nests.{first_turn, goes_on, outermost}
use Rattle.core_runs.proofs.Reduced.{Follows, none, follows_none, follows_takes, bucket_turn, chain_of}
use Rattle.core_runs.proofs.RaceRuns.{bases, opening_fits}
use Rattle.core_runs.proofs.SharedMoves.{local_lists}
use Rattle.core_runs.proofs.LocalReduced.{pop_turn, push_turn, refill_turn, global_push}
use Rattle.core_runs.proofs.GlobalReduced.{global_turn}
use Rattle.core_runs.proofs.StealReduced.{steal_turn, add_turn}
use Rattle.core_runs.proofs.RefillNest.{pending_got}
use Rattle.core_runs.proofs.OwnTurns.{stacked}
use Rattle.core_runs.proofs.PlainRuns.{core_lists, on_bodies}

pub record OnLocals (content : Content) (Fact : LocalLists → Type 0) : Type 0 where
  pub lists : LocalLists
  pub lies : content ≡ in_locals lists
  pub fact : Fact lists

on_locals : (content : Content) (Fact : LocalLists → Type 0) → MatchOption (locals_in content) ⊥ Fact → OnLocals content Fact
on_locals (in_bucket bodies) Fact may = absurd may
on_locals (on_freelist stack) Fact may = absurd may
on_locals (in_locals lists) Fact may = record { lists = lists; lies = refl; fact = may }
on_locals (in_global set) Fact may = absurd may
on_locals (in_own set) Fact may = absurd may

pub record OnGlobal (content : Content) (Fact : ListSet → Type 0) : Type 0 where
  pub set : ListSet
  pub lies : content ≡ in_global set
  pub fact : Fact set

on_global : (content : Content) (Fact : ListSet → Type 0) → MatchOption (global_in content) ⊥ Fact → OnGlobal content Fact
on_global (in_bucket bodies) Fact may = absurd may
on_global (on_freelist stack) Fact may = absurd may
on_global (in_locals lists) Fact may = absurd may
on_global (in_global set) Fact may = record { set = set; lies = refl; fact = may }
on_global (in_own set) Fact may = absurd may

abbrev pub is_local : DomainId → Bool
is_local (Local c) = true
is_local Global = false
is_local (CpuLru c) = false
is_local (Bucket b) = false
is_local (Freelist c) = false

-- A CPU's lists in the midst of a refill, or at rest
pub record MidLocal (l was : Lists) (busy : Bool) (got sent : List ℕ) : Type 0 where
  pub free : l.free ≡ stacked got was.free
  pub rows_are : (x : ℕ) → times x (rows l) + times x sent ≡ times x (rows was)
  pub same : busy ≡ false → l ≡ was

mid_alike : (l l2 was was2 : Lists) (b b2 : Bool) (g g2 s s2 : List ℕ) → l ≡ l2 → was ≡ was2 → b ≡ b2 → g ≡ g2 → s ≡ s2 → MidLocal l was b g s → MidLocal l2 was2 b2 g2 s2
mid_alike l l2 was was2 b b2 g g2 s s2 l_is was_is b_is g_is s_is mid =
    subst (λ (k : Lists). MidLocal k was2 b2 g2 s2) l_is (subst (λ (k : Lists). MidLocal l k b2 g2 s2) was_is (subst (λ (k : Bool). MidLocal l was k g2 s2) b_is (subst (λ (k : List ℕ). MidLocal l was b k s2) g_is (subst (λ (k : List ℕ). MidLocal l was b g k) s_is mid))))

pub record Midway (contents : DomainId → Content) (m : Midst) (lists : DomainId → Lists) : Type 0 where
  pub others : (lock : DomainId) → is_bucket lock ≡ false → is_local lock ≡ false → lists lock ≡ lists_in (contents lock)
  pub locals : (c : ℕ) → MidLocal (lists (Local c)) (lists_in (contents (Local c))) (m.busy c) (m.got c) (m.sent c)

local_apart : (c d : ℕ) → d ≢ c → Local c ≢ Local d
local_apart c d apart same = apart (sym (ap number same))
  where
    number : DomainId → ℕ
    number (Local n) = n
    number _ = 0

module _ {shape : Shape} (bounds : HasBounds shape) (lru : is_lru shape.kind ≡ true) (common : IsTrue shape.common) where
  pub shared_turn : (contents : DomainId → Content) (m : Midst) (begun : List ℕ) (x : Drawn) (later : List Drawn) (lists : DomainId → Lists) (s : State) (more : List Event)
      → SharedAt shape contents m (among begun x.entry.ticket) x.entry.cpu x.lock x.entry.part → Allows shape x.entry.cpu x.entry.part (contents x.lock) → Midway contents m lists → Fits shape (bases contents) none none lists s
      → ((t : State) (lists' : DomainId → Lists) → Midway (after_turn shape x.entry.cpu contents (turn_of x)) (midst_after m x.entry.cpu x.lock x.entry.part) lists' → Fits shape (bases (after_turn shape x.entry.cpu contents (turn_of x))) none none lists' t → Follows shape t more)
      → Follows shape s (map takes (not_begun begun (enclosing x later ++ x ∷ [])) ++ goes_on shape contents (enclosing x later) x more)
  shared_turn contents m begun x later lists s more pays allowed mid fits next = by x.entry.part refl x.lock refl pays allowed
    where
      around : List Drawn
      around = enclosing x later

      now : DomainId → Content
      now = after_turn shape x.entry.cpu contents (turn_of x)

      known : (t : State) (part : Part) (lock : DomainId) (new : Lists) → x.entry.part ≡ part → x.lock ≡ lock → lists_in (now lock) ≡ new
          → Follows shape t (map does (part_steps shape x.entry.cpu lock (bucket_around around) part) ++ (seen_by part ++ does (steps.Give x.entry.cpu lock new) ∷ more)) → Follows shape t (goes_on shape contents around x more)
      known t part lock new part_is lock_is new_is follows =
          subst (λ (p : Part). Follows shape t (map does (part_steps shape x.entry.cpu x.lock (bucket_around around) p) ++ (seen_by p ++ does (steps.Give x.entry.cpu x.lock (lists_in (now x.lock))) ∷ more))) (sym part_is)
          (subst (λ (l : DomainId). Follows shape t (map does (part_steps shape x.entry.cpu l (bucket_around around) part) ++ (seen_by part ++ does (steps.Give x.entry.cpu l (lists_in (now l))) ∷ more))) (sym lock_is)
          (subst (λ (l : Lists). Follows shape t (map does (part_steps shape x.entry.cpu lock (bucket_around around) part) ++ (seen_by part ++ does (steps.Give x.entry.cpu lock l) ∷ more))) (sym new_is) follows))

      here : (part : Part) (lock : DomainId) → x.entry.part ≡ part → x.lock ≡ lock → now lock ≡ content_after shape x.entry.cpu part (contents lock)
      here part lock part_is lock_is =
          turned_here shape x.entry.cpu contents (turn_of x) lock (ap (λ (l : DomainId). is_same_lock l lock) lock_is ∙ same_lock lock) ∙ ap (λ (p : Part). content_after shape x.entry.cpu p (contents lock)) part_is

      elsewhere : (lock other : DomainId) → x.lock ≡ lock → lock ≢ other → contents other ≡ now other
      elsewhere lock other lock_is apart = sym (turned_elsewhere shape x.entry.cpu contents (turn_of x) other (ap (λ (l : DomainId). is_same_lock l other) lock_is ∙ other_lock lock other apart))

      midst_is : (part : Part) (lock : DomainId) → x.entry.part ≡ part → x.lock ≡ lock → midst_after m x.entry.cpu lock part ≡ midst_after m x.entry.cpu x.lock x.entry.part
      midst_is part lock part_is lock_is = ap (λ (l : DomainId). midst_after m x.entry.cpu l part) (sym lock_is) ∙ ap (λ (p : Part). midst_after m x.entry.cpu x.lock p) (sym part_is)

      after_takes : ((t : State) → Fits shape (bases contents) none none lists t → Follows shape t (goes_on shape contents around x more)) → Follows shape s (map takes (not_begun begun (around ++ x ∷ [])) ++ goes_on shape contents around x more)
      after_takes = follows_takes bounds (not_begun begun (around ++ x ∷ [])) s (goes_on shape contents around x more) fits

      bases_stay : (lock : DomainId) → is_bucket lock ≡ false → x.lock ≡ lock → (b : ℕ) → bases contents b ≡ bases now b
      bases_stay lock list lock_is b = ap (λ (k : Content). (lists_in k).first) (elsewhere lock (Bucket b) lock_is (λ same. other_sort b lock list (sym same)))

      bucket_case : (part : BucketPart) → x.entry.part ≡ parts.Bucket part → {lock : DomainId} (pays : PaysBucket shape no_debts lock part) → Allows shape x.entry.cpu (parts.Bucket part) (contents (Bucket pays.bucket)) → x.lock ≡ Bucket pays.bucket
          → Follows shape s (map takes (not_begun begun (around ++ x ∷ [])) ++ goes_on shape contents around x more)
      bucket_case part is pays allowed lock_is =
          let b : ℕ = pays.bucket in
          let found = on_bodies (contents (Bucket b)) (AllowsInBucket shape x.entry.cpu part) allowed in
          let new : List ℕ = numbers (bucket_after shape x.entry.cpu part found.bodies) in
          let now_is : lists_in (now (Bucket b)) ≡ chain_of bounds new = ap lists_in (here (parts.Bucket part) (Bucket b) is lock_is ∙ ap (content_after shape x.entry.cpu (parts.Bucket part)) found.lies) in
          after_takes (λ t fits'. known t (parts.Bucket part) (Bucket b) (chain_of bounds new) is lock_is now_is
          (bucket_turn bounds x.entry.cpu b part found.bodies new t more pays.there fits' (ap (λ (c : Content). (lists_in c).first) found.lies) found.fact pays.paid refl
          (λ u fits2. next u lists
          (subst (λ (k : Midst). Midway now k lists) (midst_is (parts.Bucket part) (Bucket b) is lock_is)
          (record {
            others = λ lock list loc. mid.others lock list loc ∙ ap lists_in (elsewhere (Bucket b) lock lock_is (other_sort b lock list));
            locals = λ c. mid_alike _ _ _ _ _ _ _ _ _ _ refl (ap lists_in (elsewhere (Bucket b) (Local c) lock_is (other_sort b (Local c) refl))) refl refl refl (mid.locals c);
          }))
          (fits_alike fits2 (bases now) none none lists
          (λ c. by_test c b (λ _. put (bases contents) b new c ≡ bases now c)
          (λ same. subst (λ (d : ℕ). put (bases contents) b new d ≡ bases now d) (sym same) (put_here (bases contents) b new ∙ sym (ap (λ (l : Lists). l.first) now_is)))
          (λ apart. put_else (bases contents) b new c apart ∙ ap (λ (k : Content). (lists_in k).first) (elsewhere (Bucket b) (Bucket c) lock_is (bucket_apart b c (λ same. apart (sym same))))))
          (λ c. by_test c b (λ _. put none b [] c ≡ []) (λ same. subst (λ (d : ℕ). put none b [] d ≡ []) (sym same) (put_here none b [])) (λ apart. put_else none b [] c apart))
          (λ c. refl) (λ lock list. refl)))))

      -- a turn of a CPU's lists leaves them at rest
      local_rests : (c : ℕ) (part : LocalPart) (new : Lists) → x.entry.part ≡ parts.Local part → x.lock ≡ Local c → lists_in (now (Local c)) ≡ new → (t : State) → Fits shape (bases contents) none none (with_lists (Local c) new lists) t → Follows shape t more
      local_rests c part new is lock_is now_is t fits' = next t (with_lists (Local c) new lists)
          (subst (λ (k : Midst). Midway now k (with_lists (Local c) new lists)) (midst_is (parts.Local part) (Local c) is lock_is)
          (record {
            others = λ lock list loc.
                let apart : Local c ≢ lock = λ same. true≢false (ap is_local same ∙ loc) in
                lists_else (Local c) lock new lists apart ∙ mid.others lock list loc ∙ ap lists_in (elsewhere (Local c) lock lock_is apart);
            locals = λ d. by_test d c (λ _. MidLocal (with_lists (Local c) new lists (Local d)) (lists_in (now (Local d))) (put m.busy c false d) (put m.got c [] d) (put m.sent c [] d))
                (λ same. subst (λ (k : ℕ). MidLocal (with_lists (Local c) new lists (Local k)) (lists_in (now (Local k))) (put m.busy c false k) (put m.got c [] k) (put m.sent c [] k)) (sym same)
                (mid_alike new _ new _ false _ [] _ [] _ (sym (lists_here (Local c) new lists)) (sym now_is) (sym (put_here m.busy c false)) (sym (put_here m.got c [])) (sym (put_here m.sent c []))
                (record { free = refl; rows_are = λ y. omega arith; same = λ _. refl })))
                (λ apart. mid_alike _ _ _ _ _ _ _ _ _ _ (sym (lists_else (Local c) (Local d) new lists (local_apart c d apart))) (ap lists_in (elsewhere (Local c) (Local d) lock_is (local_apart c d apart)))
                (sym (put_else m.busy c false d apart)) (sym (put_else m.got c [] d apart)) (sym (put_else m.sent c [] d apart)) (mid.locals d));
          }))
          (fits_alike fits' (bases now) none none (with_lists (Local c) new lists) (bases_stay (Local c) refl lock_is) (λ b. refl) (λ b. refl) (λ lock list. refl))

      local_case : (part : LocalPart) → x.entry.part ≡ parts.Local part → (c : ℕ) → IsTrue (is_lock shape (Local c)) → LocalPays (contents (Local c)) m (among begun x.entry.ticket) x.entry.cpu c part → Allows shape x.entry.cpu (parts.Local part) (contents (Local c)) → x.lock ≡ Local c
          → Follows shape s (map takes (not_begun begun (around ++ x ∷ [])) ++ goes_on shape contents around x more)
      local_case (local.Pop hash e) is c there pays allowed lock_is =
          let found = on_locals (contents (Local c)) (AllowsOnLocal shape (local.Pop hash e)) allowed in
          let now_is = ap lists_in (here (parts.Local (local.Pop hash e)) (Local c) is lock_is ∙ ap (content_after shape x.entry.cpu (parts.Local (local.Pop hash e))) found.lies) in
          after_takes (λ t fits'. known t (parts.Local (local.Pop hash e)) (Local c) _ is lock_is now_is
          (pop_turn bounds lru x.entry.cpu c there t more fits' hash e found.lists ((mid.locals c).same pays ∙ ap lists_in found.lies) found.fact
          (λ u fits2. local_rests c (local.Pop hash e) _ is lock_is now_is u fits2)))
      local_case (local.Push e done) is c there pays allowed lock_is =
          let found = on_locals (contents (Local c)) (AllowsOnLocal shape (local.Push e done)) allowed in
          let now_is = ap lists_in (here (parts.Local (local.Push e done)) (Local c) is lock_is ∙ ap (content_after shape x.entry.cpu (parts.Local (local.Push e done))) found.lies) in
          after_takes (λ t fits'. known t (parts.Local (local.Push e done)) (Local c) _ is lock_is now_is
          (push_turn bounds lru x.entry.cpu c there t more fits' e done found.lists ((mid.locals c).same pays ∙ ap lists_in found.lies)
          (λ u fits2. local_rests c (local.Push e done) _ is lock_is now_is u fits2)))
      local_case (local.Steal got first second) is c there pays allowed lock_is =
          let part : LocalPart = local.Steal got first second in
          let found = on_locals (contents (Local c)) (AllowsOnLocal shape part) allowed in
          let now_is = ap lists_in (here (parts.Local part) (Local c) is lock_is ∙ ap (content_after shape x.entry.cpu (parts.Local part)) found.lies) in
          after_takes (λ t fits'. known t (parts.Local part) (Local c) _ is lock_is now_is
          (steal_turn bounds lru x.entry.cpu c there t more fits' got first second found.lists ((mid.locals c).same pays.0 ∙ ap lists_in found.lies)
          (λ e is_e. head_of got first second found.lists e is_e found.fact) (λ e is_e. subst (λ (k : Content). IsIn e (lists_in k).first) found.lies (stolen_of (contents (Local c)) got e is_e pays.1))
          (λ u fits2. local_rests c part _ is lock_is now_is u fits2)))
        where
          head_of : (got : Stolen) (first : List _) (second : List _) (ll : LocalLists) (e : ℕ) → got ≡ stolen.Free e → AllowsOnLocal shape (local.Steal got first second) ll → IsHead e ll.free
          head_of got first second ll e is may = (subst (λ (g : Stolen). AllowsOnLocal shape (local.Steal g first second) ll) is may).0

          stolen_of : (content : Content) (got : Stolen) (e : ℕ) → got ≡ stolen.Pending e → IsStolenThere content got → IsIn e (lists_in content).first
          stolen_of content got e is may = subst (IsStolenThere content) is may
      local_case (local.Refill hash flushed gained got) is c there pays allowed lock_is =
          let part : LocalPart = local.Refill hash flushed gained got in
          let found = on_locals (contents (Local c)) (AllowsOnLocal shape part) allowed in
          let was : lists_in (contents (Local c)) ≡ local_lists found.lists.free (elements_of found.lists.pending) = ap lists_in found.lies in
          let now_is : lists_in (now (Local c)) ≡ local_lists (drop 1 (reverse gained)) (option_to_list got) =
          ap lists_in (here (parts.Local part) (Local c) is lock_is ∙ ap (content_after shape x.entry.cpu (parts.Local part)) found.lies) ∙ pending_got hash gained flushed found.lists got in
          let free_is : (lists (Local c)).free ≡ stacked gained [] =
          (mid.locals c).free ∙ ap (λ (g : List ℕ). stacked g (lists_in (contents (Local c))).free) pays.0 ∙ ap (λ (l : Lists). stacked gained l.free) was ∙ ap (stacked gained) found.fact.0 in
          after_takes (λ t fits'. known t (parts.Local part) (Local c) _ is lock_is now_is
          (refill_turn bounds lru x.entry.cpu c there t more fits' hash flushed gained got found.lists (lists (Local c)) refl free_is
          (λ y. omega (arith, (mid.locals c).rows_are y, pays.1 y, ap (times y) found.fact.1, times_turned y (elements_of found.lists.pending), ap (λ (l : Lists). times y (rows l)) was, times_append y (elements_of found.lists.pending) []))
          found.fact.2
          (λ u fits2. local_rests c part _ is lock_is now_is u fits2)))
      local_case (local.Add hash e cursor) is c there pays allowed lock_is =
          let part : LocalPart = local.Add hash e cursor in
          let found = on_locals (contents (Local c)) (AllowsOnLocal shape part) allowed in
          let now_is = ap lists_in (here (parts.Local part) (Local c) is lock_is ∙ ap (content_after shape x.entry.cpu (parts.Local part)) found.lies) in
          let alone : around ≡ [] = outermost x later (ap is_inner is) in
          let taken : map takes (not_begun begun (around ++ x ∷ [])) ≡ does (steps.Take x.entry.cpu (Local c)) ∷ [] =
          ap (λ (l : List Drawn). map takes (not_begun begun (l ++ x ∷ []))) alone ∙ ap (λ (b : Bool). map takes (cond (Rattle.std.proofs.Common.not b) (x ∷ []) [])) pays.1 ∙ ap (λ (l : DomainId). does (steps.Take x.entry.cpu l) ∷ []) lock_is in
          subst (λ (l : List Event). Follows shape s (l ++ goes_on shape contents around x more)) (sym taken)
          (subst (λ (p : Part). Follows shape s (does (steps.Take x.entry.cpu (Local c)) ∷ (map does (part_steps shape x.entry.cpu x.lock (bucket_around around) p) ++ (seen_by p ++ does (steps.Give x.entry.cpu x.lock (lists_in (now x.lock))) ∷ more)))) (sym is)
          (subst (λ (l : DomainId). Follows shape s (does (steps.Take x.entry.cpu (Local c)) ∷ does (steps.Rehome x.entry.cpu e (homes.In (Local x.entry.cpu))) ∷ does (steps.Give x.entry.cpu l (lists_in (now l))) ∷ more)) (sym lock_is)
          (subst (λ (l : Lists). Follows shape s (does (steps.Take x.entry.cpu (Local c)) ∷ does (steps.Rehome x.entry.cpu e (homes.In (Local x.entry.cpu))) ∷ does (steps.Give x.entry.cpu (Local c) l) ∷ more)) (sym now_is)
          (subst (λ (k : ℕ). Follows shape s (does (steps.Take x.entry.cpu (Local c)) ∷ does (steps.Rehome x.entry.cpu e (homes.In (Local k))) ∷ does (steps.Give x.entry.cpu (Local c) (lists_in (in_locals (local_after part found.lists)))) ∷ more)) (sym pays.2)
          (add_turn bounds lru x.entry.cpu c there s more fits hash e cursor found.lists ((mid.locals c).same pays.0 ∙ ap lists_in found.lies) found.fact.0 found.fact.1
          (λ u fits2. local_rests c part _ is lock_is now_is u fits2))))))

      global_case : (part : GlobalPart) → x.entry.part ≡ parts.Global part → (pays : PaysGlobal shape contents m x.entry.cpu x.lock part) → Allows shape x.entry.cpu (parts.Global part) (contents Global)
          → Follows shape s (map takes (not_begun begun (around ++ x ∷ [])) ++ goes_on shape contents around x more)
      global_case (global.Turn flushed active inactive free shrink) is pays allowed =
          let part : GlobalPart = global.Turn flushed active inactive free shrink in
          let c : ℕ = x.entry.cpu in
          let lock_is : x.lock ≡ Global = pays.lock_is in
          let found = on_global (contents Global) (AllowsOnGlobal part) allowed in
          let new : Lists = set_lists (global_after part found.set) in
          let now_is : lists_in (now Global) ≡ new = ap lists_in (here (parts.Global part) Global is lock_is ∙ ap (content_after shape x.entry.cpu (parts.Global part)) found.lies) in
          let was : lists (Local c) ≡ lists_in (contents (Local c)) = (mid.locals c).same pays.pays.1 in
          let g_lies : lists Global ≡ set_lists found.set = mid.others Global refl refl ∙ ap lists_in found.lies in
          after_takes (λ t fits'. known t (parts.Global part) Global new is lock_is now_is
          (global_turn bounds lru common x.entry.cpu flushed active inactive free shrink found.set (lists (Local c)) t more pays.pays.0 fits' refl g_lies found.fact
          (λ y. subst (λ (l : Lists). times y (flushed_elements flushed) ≤ times y (rows l)) (sym was) (pays.pays.2 y))
          (λ y. subst (λ (k : Content). times y (freed_by shrink) ≤ times y (rows (lists_in k)) + times y (flushed_elements flushed)) found.lies (pays.pays.3 y))
          (λ u l' free_is rows_is fits2. next u (with_lists Global new (with_lists (Local c) l' lists))
          (subst (λ (k : Midst). Midway now k (with_lists Global new (with_lists (Local c) l' lists))) (midst_is (parts.Global part) Global is lock_is)
          (record {
            others = λ lock list loc. other_lists c new l' now_is lock_is lock list loc;
            locals = λ d. by_test d c (λ _. MidLocal (with_lists (Local c) l' lists (Local d)) (lists_in (now (Local d))) (put m.busy c true d) (put m.got c (free ++ freed_by shrink) d) (put m.sent c (flushed_elements flushed) d))
                (λ same. subst (λ (k : ℕ). MidLocal (with_lists (Local c) l' lists (Local k)) (lists_in (now (Local k))) (put m.busy c true k) (put m.got c (free ++ freed_by shrink) k) (put m.sent c (flushed_elements flushed) k)) (sym same)
                (mid_alike l' _ (lists (Local c)) _ true _ (free ++ freed_by shrink) _ (flushed_elements flushed) _ (sym (lists_here (Local c) l' lists)) (was ∙ ap lists_in (elsewhere Global (Local c) lock_is (λ eq. absurd cc))) (sym (put_here m.busy c true)) (sym (put_here m.got c (free ++ freed_by shrink))) (sym (put_here m.sent c (flushed_elements flushed)))
                (record { free = free_is; rows_are = rows_is; same = λ busy. absurd (true≢false busy) })))
                (λ apart. mid_alike _ _ _ _ _ _ _ _ _ _ (sym (lists_else (Local c) (Local d) l' lists (local_apart c d apart))) (ap lists_in (elsewhere Global (Local d) lock_is (λ eq. absurd cc)))
                (sym (put_else m.busy c true d apart)) (sym (put_else m.got c (free ++ freed_by shrink) d apart)) (sym (put_else m.sent c (flushed_elements flushed) d apart)) (mid.locals d));
          }))
          (fits_alike fits2 (bases now) none none (with_lists Global new (with_lists (Local c) l' lists)) (bases_stay Global refl lock_is) (λ b. refl) (λ b. refl) (λ lock list. refl)))))
        where
          other_lists : (c : ℕ) (new l' : Lists) → lists_in (now Global) ≡ new → x.lock ≡ Global → (lock : DomainId) → is_bucket lock ≡ false → is_local lock ≡ false → with_lists Global new (with_lists (Local c) l' lists) lock ≡ lists_in (now lock)
          other_lists c new l' now_is lock_is (Local d) list loc = absurd cc
          other_lists c new l' now_is lock_is Global list loc = sym now_is
          other_lists c new l' now_is lock_is (CpuLru d) list loc = mid.others (CpuLru d) refl refl ∙ ap lists_in (elsewhere Global (CpuLru d) lock_is (λ eq. absurd cc))
          other_lists c new l' now_is lock_is (Bucket d) list loc = absurd cc
          other_lists c new l' now_is lock_is (Freelist d) list loc = mid.others (Freelist d) refl refl ∙ ap lists_in (elsewhere Global (Freelist d) lock_is (λ eq. absurd cc))
      global_case (global.Push e) is pays allowed =
          let part : GlobalPart = global.Push e in
          let lock_is : x.lock ≡ Global = pays.lock_is in
          let found = on_global (contents Global) (AllowsOnGlobal part) allowed in
          let new : Lists = set_lists (global_after part found.set) in
          let now_is : lists_in (now Global) ≡ new = ap lists_in (here (parts.Global part) Global is lock_is ∙ ap (content_after shape x.entry.cpu (parts.Global part)) found.lies) in
          let g_lies : lists Global ≡ set_lists found.set = mid.others Global refl refl ∙ ap lists_in found.lies in
          after_takes (λ t fits'. known t (parts.Global part) Global new is lock_is now_is
          (global_push bounds lru x.entry.cpu x.entry.cpu pays.pays t more fits' e found.set common g_lies found.fact
          (λ u fits2. next u (with_lists Global new lists)
          (subst (λ (k : Midst). Midway now k (with_lists Global new lists)) (midst_is (parts.Global part) Global is lock_is)
          (record {
            others = λ lock list loc. push_lists new now_is lock_is lock list loc;
            locals = λ d. mid_alike _ _ _ _ _ _ _ _ _ _ refl (ap lists_in (elsewhere Global (Local d) lock_is (λ eq. absurd cc))) refl refl refl (mid.locals d);
          }))
          (fits_alike fits2 (bases now) none none (with_lists Global new lists) (bases_stay Global refl lock_is) (λ b. refl) (λ b. refl) (λ lock list. refl)))))
        where
          push_lists : (new : Lists) → lists_in (now Global) ≡ new → x.lock ≡ Global → (lock : DomainId) → is_bucket lock ≡ false → is_local lock ≡ false → with_lists Global new lists lock ≡ lists_in (now lock)
          push_lists new now_is lock_is (Local d) list loc = absurd cc
          push_lists new now_is lock_is Global list loc = sym now_is
          push_lists new now_is lock_is (CpuLru d) list loc = mid.others (CpuLru d) refl refl ∙ ap lists_in (elsewhere Global (CpuLru d) lock_is (λ eq. absurd cc))
          push_lists new now_is lock_is (Bucket d) list loc = absurd cc
          push_lists new now_is lock_is (Freelist d) list loc = mid.others (Freelist d) refl refl ∙ ap lists_in (elsewhere Global (Freelist d) lock_is (λ eq. absurd cc))

      by : (part : Part) → x.entry.part ≡ part → (lock : DomainId) → x.lock ≡ lock → SharedAt shape contents m (among begun x.entry.ticket) x.entry.cpu lock part → Allows shape x.entry.cpu part (contents lock)
          → Follows shape s (map takes (not_begun begun (around ++ x ∷ [])) ++ goes_on shape contents around x more)
      by (parts.Bucket part) is lock lock_is pays allowed = bucket_case part is pays (subst (λ (l : DomainId). Allows shape x.entry.cpu (parts.Bucket part) (contents l)) pays.lock_is allowed) (lock_is ∙ pays.lock_is)
      by (parts.Free part) is lock lock_is pays allowed = absurd pays
      by (parts.Local part) is lock lock_is pays allowed = local_case part is pays.cpu pays.there pays.pays (subst (λ (l : DomainId). Allows shape x.entry.cpu (parts.Local part) (contents l)) pays.lock_is allowed) (lock_is ∙ pays.lock_is)
      by (parts.Global part) is lock lock_is pays allowed = global_case part is (record { lock_is = lock_is ∙ pays.lock_is; pays = pays.pays }) (subst (λ (l : DomainId). Allows shape x.entry.cpu (parts.Global part) (contents l)) pays.lock_is allowed)
      by (parts.Own part) is lock lock_is pays allowed = absurd pays

  pub shared_follow : (turns : List Drawn) (contents : DomainId → Content) (m : Midst) (begun : List ℕ) (lists : DomainId → Lists) (s : State) → AreShared shape contents m begun turns → Midway contents m lists → Fits shape (bases contents) none none lists s
      → Follows shape s (interleaved shape contents begun turns)
  unfolding AreShared interleaved RunsByLists
  shared_follow [] contents m begun lists s are mid fits = follows_none bounds s
  shared_follow (x ∷ later) contents m begun lists s are mid fits =
      let around : List Drawn = enclosing x later in
      let now : DomainId → Content = after_turn shape x.entry.cpu contents (turn_of x) in
      subst (Follows shape s) (sym (first_turn shape contents begun x later around refl))
      (shared_turn contents m begun x later lists s (interleaved shape now (x.entry.ticket ∷ tickets_of around ++ begun) later) are.0 are.1 mid fits
      (λ t lists' mid' fits'. shared_follow later now (midst_after m x.entry.cpu x.lock x.entry.part) (x.entry.ticket ∷ tickets_of around ++ begun) lists' t are.2 mid' fits'))

  -- The interleaving of such a race may be done up to an event where words allow it up to there.
  pub shared_to : (turns : List Drawn) → AreShared shape (opening_content shape) at_rest [] turns → (n : ℕ) → RunsByWords shape (words_of (opening shape)) (take n (interleaved shape (opening_content shape) [] turns))
      → AreEnabled shape (opening shape) (take n (interleaved shape (opening_content shape) [] turns))
  shared_to turns are n words =
      runs_both bounds (take n (interleaved shape (opening_content shape) [] turns)) (opening shape) (opening_placed shape bounds) words
      (shared_follow turns (opening_content shape) at_rest [] (core_lists (opening_content shape)) (opening shape) are
      (record { others = λ lock list loc. refl; locals = λ c. record { free = refl; rows_are = λ y. omega arith; same = λ _. refl } }) (opening_fits bounds) n words)
