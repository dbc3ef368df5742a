-- Turns on a map whose CPUs share lists that flush nothing: what words allow of one may be done, and it keeps what stands.
use Rattle.std.proofs.Common.{◌≡◌, ◌≢◌, ◌⊎◌, inl, inr, ℕ, ◌<◌, Bool, true, false, not, cond, List, [], ◌∷◌, ◌++◌, map, Option, None, Some, refl, ap, ◌∙◌, sym, subst, arith}
use Rattle.std.specs.Prelude.{IsTrue, unwrap_or}
use Rattle.map_types.specs.declared.attr.Shape.{Shape}
use Rattle.map_types.specs.declared.kind.DomainId.{DomainId}
use Rattle.map_types.specs.declared.kind.DomainId.TheVariants.{Local, Global, CpuLru, Bucket, Freelist}
use Rattle.map_types.specs.Kind.{is_lru}
use Rattle.map_types.specs.Shape.{HasBounds}
use Rattle.map_types.specs.ElementLists.{put, IsIn}
use Rattle.map_types.proofs.RowLemmas.{by_test, times_append}
use Rattle.place_words.specs.declared.bucket_part.BucketPart.{BucketPart}
use Rattle.place_words.specs.declared.bucket_part.BucketPart.TheVariants.{Lookup, Update, Delete, Take, Next, First, Walk, Evict}
use Rattle.place_words.specs.declared.bucket_part.Put.{Put}
use Rattle.place_words.specs.declared.bucket_part.Put.TheVariants as puts
use Rattle.place_words.specs.declared.bucket_part.Seen.TheVariants.{Removed, Held as InHand}
use Rattle.place_words.specs.declared.history.Part.{Part}
use Rattle.place_words.specs.declared.history.Part.TheVariants as parts
use Rattle.place_words.specs.declared.home.Home.{Home}
use Rattle.place_words.specs.declared.home.Home.TheVariants as homes
use Rattle.place_words.specs.declared.list_part.GlobalPart.TheVariants as global
use Rattle.place_words.specs.declared.list_part.LocalPart.{LocalPart}
use Rattle.place_words.specs.declared.list_part.LocalPart.TheVariants as local
use Rattle.place_words.specs.declared.list_part.Stolen.{Stolen}
use Rattle.place_words.specs.declared.list_part.Stolen.TheVariants as stolen
use Rattle.place_words.specs.declared.step.Lists.{Lists}
use Rattle.place_words.specs.declared.step.Step.TheVariants as steps
use Rattle.place_words.specs.Choices.{among}
use Rattle.place_words.specs.Histories.{Content, Allows}
use Rattle.place_words.specs.Interleaving.{Drawn, turn_of, Event, does, is_inner, enclosing, bucket_around, bucket_of_lock, detaches, leave_steps, put_steps, bucket_steps, claims, steal_steps, local_steps, lists_in, part_steps, seen_in, seen_by, takes, not_begun, turn_events, AreEnabled}
use Rattle.place_words.specs.Locals.{AllowsOnLocal}
use Rattle.place_words.specs.Locks.{is_lock, lock_number, lock_named, rank_of}
use Rattle.place_words.specs.Moves.{taken_from_bucket}
use Rattle.place_words.specs.State.{State, rows}
use Rattle.place_words.specs.Steps.{MayLeave, after, taken, lists_under}
use Rattle.place_words.specs.Turns.{after_turn}
use Rattle.place_words.proofs.ElementLemmas.{put_here, put_else}
use Rattle.place_words.proofs.LockLemmas.{same_lock}
use Rattle.place_words.proofs.RowLemmas.{head_is_in}
use Rattle.place_words.proofs.Settled.{turned_here}
use Rattle.core_runs.specs.SharedRaces.{Midst, LocalPays, SharedAt, IsStolenThere, midst_after}
use Rattle.core_runs.proofs.Nests.{goes_on, outermost}
use Rattle.core_runs.proofs.SharedCalls.{on_locals}
use Rattle.core_runs.proofs.SharedReduced.{free_here, row_here}
use Rattle.step_check.proofs.Reaches.{state_after, state_behind, placed_after, enabled_apart, IsHomeAt, AreAt, at_both, takes_at, lists_kept, takes_homes}
use Rattle.step_check.proofs.SharedGoing.{IsOther, midst_else}
use Rattle.step_check.proofs.Standing.{Standing, turn_block, other_stands}

-- What the parts of buckets change lies under the bucket's lock.

detaches_at : (shape : Shape) (cpu b : ℕ) (es : List ℕ) (s : State) → AreAt shape (lock_number shape (Bucket b)) s (map does (detaches cpu b es))
detaches_at shape cpu b [] s = tt
detaches_at shape cpu b (e ∷ es) s = (refl, detaches_at shape cpu b es (after shape s (steps.Detach cpu e b)))

leave_at : (shape : Shape) (lru : Bool) (cpu b : ℕ) (es : List ℕ) (s : State) → AreAt shape (lock_number shape (Bucket b)) s (map does (leave_steps lru cpu b es))
leave_at shape true cpu b es s = detaches_at shape cpu b es s
leave_at shape false cpu b es s = tt

put_at : (shape : Shape) (cpu b : ℕ) (put : Put) (s : State) → AreAt shape (lock_number shape (Bucket b)) s (map does (put_steps cpu b put))
put_at shape cpu b (puts.Added e) s = (refl, tt)
put_at shape cpu b (puts.Replaced new old) s = (refl, (refl, tt))
put_at shape cpu b (puts.Written e) s = tt
put_at shape cpu b puts.Exists s = tt
put_at shape cpu b puts.Absent s = tt
put_at shape cpu b puts.Full s = tt

bucket_at : (shape : Shape) (cpu b : ℕ) (part : BucketPart) (s : State) → AreAt shape (lock_number shape (Bucket b)) s (map does (bucket_steps shape cpu b part))
bucket_at shape cpu b (Lookup side key got) s = tt
bucket_at shape cpu b (Update side flags key value offer put) s = put_at shape cpu b put s
bucket_at shape cpu b (Delete key removed) s = leave_at shape (is_lru shape.kind) cpu b (taken_from_bucket (Delete key removed)) s
bucket_at shape cpu b (Take key removed) s = leave_at shape (is_lru shape.kind) cpu b (taken_from_bucket (Take key removed)) s
bucket_at shape cpu b (Next key found) s = tt
bucket_at shape cpu b (First key) s = tt
bucket_at shape cpu b (Walk remove room result) s = leave_at shape (is_lru shape.kind) cpu b (taken_from_bucket (Walk remove room result)) s
bucket_at shape cpu b (Evict e probed) s = detaches_at shape cpu b (taken_from_bucket (Evict e probed)) s

bucket_seen_at : (shape : Shape) (k : ℕ) (part : BucketPart) (s : State) → AreAt shape k s (seen_in part)
bucket_seen_at shape k (Lookup side key got) s = tt
bucket_seen_at shape k (Update side flags key value offer put) s = tt
bucket_seen_at shape k (Delete key removed) s = tt
bucket_seen_at shape k (Take key removed) s = tt
bucket_seen_at shape k (Next key found) s = tt
bucket_seen_at shape k (First key) s = tt
bucket_seen_at shape k (Walk remove room result) s = tt
bucket_seen_at shape k (Evict e Removed) s = tt
bucket_seen_at shape k (Evict e (InHand holder)) s = tt

seen_at : (shape : Shape) (k : ℕ) (part : Part) (s : State) → AreAt shape k s (seen_by part)
seen_at shape k (parts.Bucket part) s = bucket_seen_at shape k part s
seen_at shape k (parts.Free part) s = tt
seen_at shape k (parts.Local part) s = tt
seen_at shape k (parts.Global part) s = tt
seen_at shape k (parts.Own part) s = tt

claims_at : (shape : Shape) (cpu : ℕ) (lock : DomainId) (got : Option ℕ) (s : State) → AreAt shape (lock_number shape lock) s (map does (claims cpu lock got))
claims_at shape cpu lock None s = tt
claims_at shape cpu lock (Some e) s = (refl, tt)

some_rank : (lock : DomainId) → rank_of lock < 1 → ⊥
some_rank (Local c) less = absurd (omega (arith, less))
some_rank Global less = absurd (omega (arith, less))
some_rank (CpuLru c) less = absurd (omega (arith, less))
some_rank (Bucket b) less = absurd (omega (arith, less))
some_rank (Freelist c) less = absurd (omega (arith, less))

-- Once local lists are taken the CPU holds no other lock, so that an element leaves these or the hand.
leaves_at : (shape : Shape) (s : State) (cpu : ℕ) (lock : DomainId) (home : Home) → rank_of lock ≡ 1 → ((j : ℕ) → s.holder j ≡ Some cpu → rank_of (lock_named shape j) < rank_of lock) → MayLeave shape (taken shape s cpu lock) cpu home
    → IsHomeAt shape (lock_number shape lock) home
leaves_at shape s cpu lock homes.Unlisted rank above may = tt
leaves_at shape s cpu lock (homes.In from) rank above may =
    by_test (lock_number shape from) (lock_number shape lock) (λ _. lock_number shape from ≡ lock_number shape lock)
    (λ same. same)
    (λ other. absurd (some_rank (lock_named shape (lock_number shape from))
    (subst (λ (n : ℕ). rank_of (lock_named shape (lock_number shape from)) < n) rank (above (lock_number shape from) (sym (put_else s.holder (lock_number shape lock) (Some cpu) (lock_number shape from) other) ∙ may.held)))))
leaves_at shape s cpu lock (homes.Hand c) rank above may = tt

module _ {shape : Shape} (bounds : HasBounds shape) (lru : is_lru shape.kind ≡ true) {contents : DomainId → Content} {m : Midst} {s : State} (standing : Standing shape contents m s) (begun : List ℕ) (x : Drawn) (later : List Drawn)
    (other : IsOther x.entry.part) (on : IsTrue (is_lock shape x.lock)) (pays : SharedAt shape contents m (among begun x.entry.ticket) x.entry.cpu x.lock x.entry.part) (allowed : Allows shape x.entry.cpu x.entry.part (contents x.lock)) where
  abbrev around : List Drawn
  around = enclosing x later

  abbrev took : List Event
  took = map takes (not_begun begun (around ++ x ∷ []))

  abbrev then_is : State
  then_is = state_after shape s took

  abbrev new : Lists
  new = lists_in (after_turn shape x.entry.cpu contents (turn_of x) x.lock)

  abbrev number : ℕ
  number = lock_number shape x.lock

  -- what is stolen lies there
  stolen_home : (c : ℕ) → IsTrue (is_lock shape (Local c)) → (got : Stolen) (first second : List _) → LocalPays (contents (Local c)) m (among begun x.entry.ticket) x.entry.cpu c (local.Steal got first second)
      → Allows shape x.entry.cpu (parts.Local (local.Steal got first second)) (contents (Local c)) → (e : ℕ) → (got ≡ stolen.Free e) ⊎ (got ≡ stolen.Pending e) → s.home e ≡ homes.In (Local c)
  stolen_home c is got first second p may e which = by which
    where
      lies : lists_under shape s (Local c) ≡ lists_in (contents (Local c))
      lies = ((standing.locals c is).rest p.0).0

      by : (got ≡ stolen.Free e) ⊎ (got ≡ stolen.Pending e) → s.home e ≡ homes.In (Local c)
      by (inl free) =
          let found = on_locals (contents (Local c)) (AllowsOnLocal shape (local.Steal (stolen.Free e) first second)) (subst (λ (g : Stolen). Allows shape x.entry.cpu (parts.Local (local.Steal g first second)) (contents (Local c))) free may) in
          (free_here bounds lru standing.fits (Local c) e is refl (subst (λ (l : Lists). IsIn e l.free) (sym (lies ∙ ap lists_in found.lies)) (head_is_in e found.lists.free found.fact.0))).home
      by (inr pending) =
          let inside : IsIn e (lists_in (contents (Local c))).first = subst (IsStolenThere (contents (Local c))) pending p.1 in
          (row_here bounds lru standing.fits (Local c) e is refl
          (subst (λ (l : Lists). IsIn e (rows l)) (sym lies) (omega (arith, inside, times_append e (lists_in (contents (Local c))).first (lists_in (contents (Local c))).second)))).home

  steal_at : (c : ℕ) → x.lock ≡ Local c → (got : Stolen) → ((e : ℕ) → (got ≡ stolen.Free e) ⊎ (got ≡ stolen.Pending e) → s.home e ≡ homes.In (Local c))
      → AreAt shape number then_is (map does (steal_steps x.entry.cpu x.lock got))
  steal_at c lock_is (stolen.Free e) home = (refl, ((home_at e (home e (inl refl)), tt), tt))
    where
      home_at : (e : ℕ) → s.home e ≡ homes.In (Local c) → IsHomeAt shape number (then_is.home e)
      home_at e is = subst (IsHomeAt shape number) (sym (ap (λ (f : ℕ → Home). f e) (takes_homes shape (not_begun begun (around ++ x ∷ [])) s) ∙ is)) (ap (lock_number shape) (sym lock_is))
  steal_at c lock_is (stolen.Pending e) home = ((home_at e (home e (inr refl)), tt), tt)
    where
      home_at : (e : ℕ) → s.home e ≡ homes.In (Local c) → IsHomeAt shape number (then_is.home e)
      home_at e is = subst (IsHomeAt shape number) (sym (ap (λ (f : ℕ → Home). f e) (takes_homes shape (not_begun begun (around ++ x ∷ [])) s) ∙ is)) (ap (lock_number shape) (sym lock_is))
  steal_at c lock_is stolen.Nothing home = tt

  module _ (enabled : AreEnabled shape s (turn_events shape around begun new x)) where
    block : AreEnabled shape s took × AreEnabled shape then_is (goes_on shape contents around x [])
    block = enabled_apart shape took (goes_on shape contents around x []) s (subst (AreEnabled shape s) (turn_block shape contents begun x later) enabled)

    local_at : (part : LocalPart) → x.entry.part ≡ parts.Local part → (c : ℕ) → IsTrue (is_lock shape (Local c)) → x.lock ≡ Local c → LocalPays (contents (Local c)) m (among begun x.entry.ticket) x.entry.cpu c part
        → Allows shape x.entry.cpu (parts.Local part) (contents (Local c)) → AreAt shape number then_is (map does (local_steps x.entry.cpu x.lock part))
    unfolding AreEnabled state_after
    local_at (local.Pop key e) is c there lock_is p may = (refl, tt)
    local_at (local.Refill key flushed gained got) is c there lock_is p may = claims_at shape x.entry.cpu x.lock got then_is
    local_at (local.Steal got first second) is c there lock_is p may = steal_at c lock_is got (stolen_home c there got first second p may)
    local_at (local.Add key e cursor) is c there lock_is p may = ((home, ap (λ (n : ℕ). lock_number shape (Local n)) p.2 ∙ ap (lock_number shape) (sym lock_is)), tt)
      where
        takes_it : took ≡ takes x ∷ []
        takes_it =
            ap (λ (l : List Drawn). map takes (not_begun begun (l ++ x ∷ []))) (outermost x later (ap is_inner is))
            ∙ ap (λ (b : Bool). map takes (cond (not b) (x ∷ []) [])) p.1

        leaves : MayLeave shape then_is x.entry.cpu (then_is.home e)
        leaves =
            (subst (λ (q : Part). AreEnabled shape then_is (map does (part_steps shape x.entry.cpu x.lock (bucket_around around) q) ++ (seen_by q ++ does (steps.Give x.entry.cpu x.lock new) ∷ []))) is block.1).0.from_there

        home : IsHomeAt shape number (then_is.home e)
        home =
            subst (λ (l : List Event). AreEnabled shape s l → MayLeave shape (state_after shape s l) x.entry.cpu ((state_after shape s l).home e) → IsHomeAt shape number ((state_after shape s l).home e)) (sym takes_it)
            (λ can may'. leaves_at shape s x.entry.cpu x.lock (s.home e) (ap rank_of lock_is) can.0.above may') block.0 leaves
    local_at (local.Push e true) is c there lock_is p may = (refl, tt)
    local_at (local.Push e false) is c there lock_is p may = tt

    word_at : AreAt shape number then_is (map does (part_steps shape x.entry.cpu x.lock (bucket_around around) x.entry.part))
    word_at = by x.entry.part refl other pays allowed
      where
        by : (part : Part) → x.entry.part ≡ part → IsOther part → SharedAt shape contents m (among begun x.entry.ticket) x.entry.cpu x.lock part → Allows shape x.entry.cpu part (contents x.lock)
            → AreAt shape number then_is (map does (part_steps shape x.entry.cpu x.lock (bucket_around around) part))
        by (parts.Bucket part) is one p may =
            subst (λ (l : DomainId). AreAt shape (lock_number shape l) then_is (map does (bucket_steps shape x.entry.cpu (unwrap_or (bucket_of_lock l) 0) part))) (sym p.lock_is) (bucket_at shape x.entry.cpu p.bucket part then_is)
        by (parts.Free part) is one p may = absurd p
        by (parts.Local part) is one p may = local_at part is p.cpu p.there p.lock_is p.pays (subst (λ (l : DomainId). Allows shape x.entry.cpu (parts.Local part) (contents l)) p.lock_is may)
        by (parts.Global (global.Turn flushed active inactive free shrink)) is one p may = absurd one
        by (parts.Global (global.Push e)) is one p may = (ap (lock_number shape) (sym p.lock_is), tt)
        by (parts.Own part) is one p may = absurd p

    block_at : AreAt shape number s (turn_events shape around begun new x)
    block_at =
        subst (AreAt shape number s) (sym (turn_block shape contents begun x later))
        (at_both shape number took (goes_on shape contents around x []) s (takes_at shape number (not_begun begun (around ++ x ∷ [])) s)
        (at_both shape number (map does (part_steps shape x.entry.cpu x.lock (bucket_around around) x.entry.part)) (seen_by x.entry.part ++ does (steps.Give x.entry.cpu x.lock new) ∷ []) then_is word_at
        (at_both shape number (seen_by x.entry.part) (does (steps.Give x.entry.cpu x.lock new) ∷ []) _ (seen_at shape number x.entry.part _) (refl, tt))))

    given_is : (state_after shape s (turn_events shape around begun new x)).lists number ≡ new
    unfolding turn_events state_after
    given_is =
        let before : List Event = took ++ map does (part_steps shape x.entry.cpu x.lock (bucket_around around) x.entry.part) ++ seen_by x.entry.part in
        ap (λ (u : State). u.lists number) (state_behind shape before (does (steps.Give x.entry.cpu x.lock new) ∷ []) s)
        ∙ put_here (state_after shape s before).lists number new

    -- It keeps what stands.
    pub other_kept : Standing shape (after_turn shape x.entry.cpu contents (turn_of x)) (midst_after m x.entry.cpu x.lock x.entry.part) (state_after shape s (turn_events shape around begun new x))
    other_kept =
        other_stands x.entry.cpu x.lock x.entry.part standing on (placed_after bounds (turn_events shape around begun new x) s standing.fits.placed enabled)
        (given_is ∙ ap lists_in (turned_here shape x.entry.cpu contents (turn_of x) x.lock (same_lock x.lock)))
        (λ j apart. lists_kept shape number (turn_events shape around begun new x) s block_at j apart)
        (λ c is. rests x.entry.part pays c is)
        (λ c apart. midst_else m x.entry.cpu x.lock x.entry.part c apart (λ flushed active inactive free shrink is same. subst IsOther is other))
      where
        rests : (part : Part) → SharedAt shape contents m (among begun x.entry.ticket) x.entry.cpu x.lock part → (c : ℕ) → x.lock ≡ Local c
            → ((midst_after m x.entry.cpu x.lock part).busy c ≡ false) × ((midst_after m x.entry.cpu x.lock part).got c ≡ []) × ((midst_after m x.entry.cpu x.lock part).sent c ≡ [])
        rests (parts.Bucket part) p c is = absurd (apart_names (sym is ∙ p.lock_is))
          where
            apart_names : Local c ≢ Bucket p.bucket
            apart_names same = absurd cc
        rests (parts.Free part) p c is = absurd p
        rests (parts.Local part) p c is =
            subst (λ (l : DomainId). ((midst_after m x.entry.cpu l (parts.Local part)).busy c ≡ false) × ((midst_after m x.entry.cpu l (parts.Local part)).got c ≡ []) × ((midst_after m x.entry.cpu l (parts.Local part)).sent c ≡ [])) (sym is)
            (put_here m.busy c false, put_here m.got c [], put_here m.sent c [])
        rests (parts.Global part) p c is = absurd (apart_names (sym is ∙ p.lock_is))
          where
            apart_names : Local c ≢ Global
            apart_names same = absurd cc
        rests (parts.Own part) p c is = absurd p
