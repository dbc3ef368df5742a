-- A race of a map that doesn't evict, or whose CPUs have lists of their own, of which the histories are legal and the pushes inside turns
-- are right: its interleaving may be done exactly where words allow it.
use Rattle.std.proofs.Common.{◌≡◌, ◌≢◌, ℕ, ◌+◌, List, [], ◌∷◌, ◌++◌, map, take, None, refl, ap, ◌∙◌, sym, subst}
use Rattle.std.specs.Prelude.{MatchOption}
use Rattle.map_types.specs.declared.attr.Shape.{Shape}
use Rattle.map_types.specs.declared.kind.DomainId.{DomainId}
use Rattle.map_types.specs.declared.kind.DomainId.TheVariants.{Bucket, Freelist, CpuLru}
use Rattle.map_types.specs.Shape.{HasBounds}
use Rattle.map_types.specs.ElementLists.{put, times}
use Rattle.map_types.proofs.RowLemmas.{by_test}
use Rattle.place_words.specs.declared.bucket_part.BucketPart.{BucketPart}
use Rattle.place_words.specs.declared.free_part.FreePart.{FreePart}
use Rattle.place_words.specs.declared.history.Part.{Part}
use Rattle.place_words.specs.declared.history.Part.TheVariants as parts
use Rattle.place_words.specs.Bodies.{numbers}
use Rattle.place_words.specs.Buckets.{AllowsInBucket, bucket_after}
use Rattle.place_words.specs.Freelists.{AllowsOnFreelist, freelist_after}
use Rattle.place_words.specs.Histories.{Content, in_bucket, on_freelist, in_locals, in_global, in_own, own_in, content_after, Allows, opening_content}
use Rattle.place_words.specs.Locks.{is_same_lock}
use Rattle.place_words.specs.Turns.{after_turn}
use Rattle.place_words.proofs.LockLemmas.{same_lock, other_lock, named_by_number}
use Rattle.place_words.specs.Openings.{opening_free}
use Rattle.place_words.specs.OpeningState.{opening, opening_lists}
use Rattle.core_runs.proofs.CallTurns.{opening_is}
use Rattle.place_words.proofs.OpeningLaws.{opening_placed}
use Rattle.place_words.proofs.Settled.{turned_here, turned_elsewhere}
use Rattle.place_words.specs.declared.step.Lists.{Lists}
use Rattle.place_words.specs.declared.step.Step.TheVariants as steps
use Rattle.place_words.specs.State.{State}
use Rattle.place_words.proofs.ElementLemmas.{put_here, put_else}
use Rattle.place_words.specs.Interleaving.{Drawn, turn_of, Event, does, enclosing, bucket_around, part_steps, seen_by, set_lists, lists_in, not_begun, tickets_of, interleaved, AreEnabled}
use Rattle.core_runs.specs.Words.{words_of, RunsByWords, RunsByLists}
use Rattle.core_runs.specs.Races.{AreTurns, PaysAt, PaysBucket, PaysFree, PaysOwn, owed_after}
use Rattle.core_runs.proofs.Ties.{with_lists}
use Rattle.core_runs.proofs.Words.{runs_words, runs_both}
use Rattle.core_runs.proofs.Fits.{Fits, fits_alike, bucket_apart, other_sort}
use Rattle.core_runs.proofs.Nests.{first_turn, goes_on}
use Rattle.core_runs.proofs.PlainRuns.{core_lists, on_bodies, on_stack, then_alike}
use Rattle.place_words.specs.declared.list_part.OwnPart.{OwnPart}
use Rattle.place_words.specs.Sets.{ListSet, AllowsOnOwn, own_after}
use Rattle.place_words.proofs.RowLemmas.{lock_listing}
use Rattle.core_runs.proofs.Reduced.{Follows, none, follows_none, follows_takes, bucket_turn, free_turn, chain_of, stack_of}
use Rattle.core_runs.proofs.SetsReduced.{own_turn}

-- the own set that lies under a lock
pub record OnOwn (content : Content) (Fact : ListSet → Type 0) : Type 0 where
  pub set : ListSet
  pub lies : content ≡ in_own set
  pub fact : Fact set

on_own : (content : Content) (Fact : ListSet → Type 0) → MatchOption (own_in content) ⊥ Fact → OnOwn content Fact
on_own (in_bucket bodies) Fact may = absurd may
on_own (on_freelist stack) Fact may = absurd may
on_own (in_locals lists) Fact may = absurd may
on_own (in_global set) Fact may = absurd may
on_own (in_own set) Fact may = record { set = set; lies = refl; fact = may }

-- what lies in the buckets
abbrev pub bases : (DomainId → Content) → ℕ → List ℕ
bases contents b = (lists_in (contents (Bucket b))).first

module _ {shape : Shape} (bounds : HasBounds shape) where
  -- One turn: its lock may be any that fits its part.
  pub turn_follows : (contents : DomainId → Content) (owed : ℕ → List ℕ) (x : Drawn) (around : List Drawn) (s : State) (more : List Event) → PaysAt shape owed (bucket_around around) x.lock x.entry.part → Allows shape x.entry.cpu x.entry.part (contents x.lock)
      → Fits shape (bases contents) owed none (core_lists contents) s
      → ((t : State) → Fits shape (bases (after_turn shape x.entry.cpu contents (turn_of x))) (owed_after (bucket_around around) x.lock x.entry.part owed) none (core_lists (after_turn shape x.entry.cpu contents (turn_of x))) t → Follows shape t more)
      → Follows shape s (goes_on shape contents around x more)
  turn_follows contents owed x around s more pays allowed fits next = by x.entry.part refl x.lock refl pays allowed
    where
      now : DomainId → Content
      now = after_turn shape x.entry.cpu contents (turn_of x)

      -- the events, where lock and part are known
      known : (part : Part) (lock : DomainId) (new : Lists) → x.entry.part ≡ part → x.lock ≡ lock → lists_in (now lock) ≡ new
          → Follows shape s (map does (part_steps shape x.entry.cpu lock (bucket_around around) part) ++ (seen_by part ++ does (steps.Give x.entry.cpu lock new) ∷ more)) → Follows shape s (goes_on shape contents around x more)
      known part lock new part_is lock_is new_is follows =
          subst (λ (p : Part). Follows shape s (map does (part_steps shape x.entry.cpu x.lock (bucket_around around) p) ++ (seen_by p ++ does (steps.Give x.entry.cpu x.lock (lists_in (now x.lock))) ∷ more))) (sym part_is)
          (subst (λ (l : DomainId). Follows shape s (map does (part_steps shape x.entry.cpu l (bucket_around around) part) ++ (seen_by part ++ does (steps.Give x.entry.cpu l (lists_in (now l))) ∷ more))) (sym lock_is)
          (subst (λ (l : Lists). Follows shape s (map does (part_steps shape x.entry.cpu lock (bucket_around around) part) ++ (seen_by part ++ does (steps.Give x.entry.cpu lock l) ∷ more))) (sym new_is) follows))

      here : (part : Part) (lock : DomainId) → x.entry.part ≡ part → x.lock ≡ lock → now lock ≡ content_after shape x.entry.cpu part (contents lock)
      here part lock part_is lock_is =
          turned_here shape x.entry.cpu contents (turn_of x) lock (ap (λ (l : DomainId). is_same_lock l lock) lock_is ∙ same_lock lock) ∙ ap (λ (p : Part). content_after shape x.entry.cpu p (contents lock)) part_is

      elsewhere : (lock other : DomainId) → x.lock ≡ lock → lock ≢ other → contents other ≡ now other
      elsewhere lock other lock_is apart = sym (turned_elsewhere shape x.entry.cpu contents (turn_of x) other (ap (λ (l : DomainId). is_same_lock l other) lock_is ∙ other_lock lock other apart))

      owed_is : (part : Part) (lock : DomainId) → x.entry.part ≡ part → x.lock ≡ lock → owed_after (bucket_around around) lock part owed ≡ owed_after (bucket_around around) x.lock x.entry.part owed
      owed_is part lock part_is lock_is = ap (λ (l : DomainId). owed_after (bucket_around around) l part owed) (sym lock_is) ∙ ap (λ (p : Part). owed_after (bucket_around around) x.lock p owed) (sym part_is)

      bucket_case : (part : BucketPart) → x.entry.part ≡ parts.Bucket part → {lock : DomainId} (pays : PaysBucket shape owed lock part) → Allows shape x.entry.cpu (parts.Bucket part) (contents (Bucket pays.bucket)) → x.lock ≡ Bucket pays.bucket → Follows shape s (goes_on shape contents around x more)
      bucket_case part is pays allowed lock_is =
          let b : ℕ = pays.bucket in
          let found = on_bodies (contents (Bucket b)) (AllowsInBucket shape x.entry.cpu part) allowed in
          let new : List ℕ = numbers (bucket_after shape x.entry.cpu part found.bodies) in
          let now_is : lists_in (now (Bucket b)) ≡ chain_of bounds new = ap lists_in (here (parts.Bucket part) (Bucket b) is lock_is ∙ ap (content_after shape x.entry.cpu (parts.Bucket part)) found.lies) in
          known (parts.Bucket part) (Bucket b) (chain_of bounds new) is lock_is now_is
          (bucket_turn bounds x.entry.cpu b part found.bodies new s more pays.there fits (ap (λ (c : Content). (lists_in c).first) found.lies) found.fact pays.paid refl
          (λ t fits'. next t (fits_alike fits' (bases now) (owed_after (bucket_around around) x.lock x.entry.part owed) none (core_lists now)
          (λ c. by_test c b (λ _. put (bases contents) b new c ≡ bases now c)
          (λ same. subst (λ (d : ℕ). put (bases contents) b new d ≡ bases now d) (sym same) (put_here (bases contents) b new ∙ sym (ap (λ (l : Lists). l.first) now_is)))
          (λ apart. put_else (bases contents) b new c apart ∙ ap (λ (k : Content). (lists_in k).first) (elsewhere (Bucket b) (Bucket c) lock_is (bucket_apart b c (λ same. apart (sym same))))))
          (λ c. ap (λ (f : ℕ → List ℕ). f c) (owed_is (parts.Bucket part) (Bucket b) is lock_is))
          (λ c. refl)
          (λ lock list. ap lists_in (elsewhere (Bucket b) lock lock_is (other_sort b lock list))))))

      free_case : (part : FreePart) → x.entry.part ≡ parts.Free part → {lock : DomainId} (pays : PaysFree shape (bucket_around around) lock part) → Allows shape x.entry.cpu (parts.Free part) (contents (Freelist pays.cpu)) → x.lock ≡ Freelist pays.cpu → Follows shape s (goes_on shape contents around x more)
      free_case part is pays allowed lock_is =
          let lock : DomainId = Freelist pays.cpu in
          let found = on_stack (contents lock) (AllowsOnFreelist part) allowed in
          let new : Lists = stack_of bounds (freelist_after part found.stack) in
          let now_is : lists_in (now lock) ≡ new = ap lists_in (here (parts.Free part) lock is lock_is ∙ ap (content_after shape x.entry.cpu (parts.Free part)) found.lies) in
          known (parts.Free part) lock new is lock_is now_is
          (free_turn bounds x.entry.cpu pays.cpu (bucket_around around) part found.stack s more pays.there fits (ap lists_in found.lies) found.fact pays.inside
          (λ t fits'. next t (fits_alike fits' (bases now) (owed_after (bucket_around around) x.lock x.entry.part owed) none (core_lists now)
          (λ c. ap (λ (k : Content). (lists_in k).first) (elsewhere lock (Bucket c) lock_is (λ same. other_sort c lock refl (sym same))))
          (λ c. ap (λ (f : ℕ → List ℕ). f c) (owed_is (parts.Free part) lock is lock_is))
          (λ c. refl)
          (λ other list. ap (λ (l : DomainId). with_lists l new (core_lists contents) other) (sym lock_is)
          ∙ ap (λ (l : Lists). with_lists x.lock l (core_lists contents) other) (sym now_is ∙ ap (λ (l : DomainId). lists_in (now l)) (sym lock_is))
          ∙ then_alike shape x.entry.cpu contents (turn_of x) (core_lists contents) (λ o apart. refl) other))))

      own_case : (part : OwnPart) → x.entry.part ≡ parts.Own part → {lock : DomainId} (pays : PaysOwn shape lock) → Allows shape x.entry.cpu (parts.Own part) (contents (CpuLru pays.cpu)) → x.lock ≡ CpuLru pays.cpu → Follows shape s (goes_on shape contents around x more)
      own_case part is pays allowed lock_is =
          let lock : DomainId = CpuLru pays.cpu in
          let found = on_own (contents lock) (AllowsOnOwn part) allowed in
          let new : Lists = set_lists (own_after part found.set) in
          let now_is : lists_in (now lock) ≡ new = ap lists_in (here (parts.Own part) lock is lock_is ∙ ap (content_after shape x.entry.cpu (parts.Own part)) found.lies) in
          known (parts.Own part) lock new is lock_is now_is
          (own_turn bounds (lock_listing shape lock bounds pays.there refl) x.entry.cpu pays.cpu part found.set s more pays.there fits (ap lists_in found.lies) found.fact
          (λ t fits'. next t (fits_alike fits' (bases now) (owed_after (bucket_around around) x.lock x.entry.part owed) none (core_lists now)
          (λ c. ap (λ (k : Content). (lists_in k).first) (elsewhere lock (Bucket c) lock_is (λ same. other_sort c lock refl (sym same))))
          (λ c. ap (λ (f : ℕ → List ℕ). f c) (owed_is (parts.Own part) lock is lock_is))
          (λ c. refl)
          (λ other list. ap (λ (l : DomainId). with_lists l new (core_lists contents) other) (sym lock_is)
          ∙ ap (λ (l : Lists). with_lists x.lock l (core_lists contents) other) (sym now_is ∙ ap (λ (l : DomainId). lists_in (now l)) (sym lock_is))
          ∙ then_alike shape x.entry.cpu contents (turn_of x) (core_lists contents) (λ o apart. refl) other))))

      by : (part : Part) → x.entry.part ≡ part → (lock : DomainId) → x.lock ≡ lock → PaysAt shape owed (bucket_around around) lock part → Allows shape x.entry.cpu part (contents lock) → Follows shape s (goes_on shape contents around x more)
      by (parts.Bucket part) is lock lock_is pays allowed = bucket_case part is pays (subst (λ (l : DomainId). Allows shape x.entry.cpu (parts.Bucket part) (contents l)) pays.lock_is allowed) (lock_is ∙ pays.lock_is)
      by (parts.Free part) is lock lock_is pays allowed = free_case part is pays (subst (λ (l : DomainId). Allows shape x.entry.cpu (parts.Free part) (contents l)) pays.lock_is allowed) (lock_is ∙ pays.lock_is)
      by (parts.Local part) is lock lock_is pays allowed = absurd pays
      by (parts.Global part) is lock lock_is pays allowed = absurd pays
      by (parts.Own part) is lock lock_is pays allowed = own_case part is pays (subst (λ (l : DomainId). Allows shape x.entry.cpu (parts.Own part) (contents l)) pays.lock_is allowed) (lock_is ∙ pays.lock_is)

  -- All turns: what words allow, lists allow.
  pub turns_follow : (turns : List Drawn) (contents : DomainId → Content) (owed : ℕ → List ℕ) (begun : List ℕ) (s : State) → AreTurns shape contents owed turns → Fits shape (bases contents) owed none (core_lists contents) s
      → Follows shape s (interleaved shape contents begun turns)
  unfolding AreTurns interleaved RunsByLists
  turns_follow [] contents owed begun s are fits = follows_none bounds s
  turns_follow (x ∷ later) contents owed begun s are fits =
      let around : List Drawn = enclosing x later in
      let now : DomainId → Content = after_turn shape x.entry.cpu contents (turn_of x) in
      let more : List Event = interleaved shape now (x.entry.ticket ∷ tickets_of around ++ begun) later in
      subst (Follows shape s) (sym (first_turn shape contents begun x later around refl))
      (follows_takes bounds (not_begun begun (around ++ x ∷ [])) s (goes_on shape contents around x more) fits
      (λ t fits'. turn_follows contents owed x around t more are.0 are.1 fits'
      (λ u fits''. turns_follow later now (owed_after (bucket_around around) x.lock x.entry.part owed) (x.entry.ticket ∷ tickets_of around ++ begun) u are.2 fits'')))

  pub opening_fits : Fits shape (bases (opening_content shape)) none none (core_lists (opening_content shape)) (opening shape)
  unfolding opening opening_lists
  opening_fits = record {
    placed = opening_placed shape bounds;
    chains = λ b is e. ap (λ (l : Lists). times e l.first + 0) (ap (λ (lock : DomainId). record { free = opening_free shape lock; first = []; second = []; cursor = None }) (named_by_number shape (Bucket b) is) ∙ opening_is shape (Bucket b));
    others = λ lock is list. ap (λ (lock : DomainId). record { free = opening_free shape lock; first = []; second = []; cursor = None }) (named_by_number shape lock is) ∙ opening_is shape lock;
  }

  -- The interleaving of such a race may be done up to an event exactly where words allow it up to there.
  pub race_to : (turns : List Drawn) → AreTurns shape (opening_content shape) none turns → (n : ℕ) → RunsByWords shape (words_of (opening shape)) (take n (interleaved shape (opening_content shape) [] turns))
      → AreEnabled shape (opening shape) (take n (interleaved shape (opening_content shape) [] turns))
  race_to turns are n words =
      runs_both bounds (take n (interleaved shape (opening_content shape) [] turns)) (opening shape) (opening_placed shape bounds) words (turns_follow turns (opening_content shape) none [] (opening shape) are opening_fits n words)

  pub words_to : (turns : List Drawn) (n : ℕ) → AreEnabled shape (opening shape) (take n (interleaved shape (opening_content shape) [] turns)) → RunsByWords shape (words_of (opening shape)) (take n (interleaved shape (opening_content shape) [] turns))
  words_to turns n run = runs_words bounds (take n (interleaved shape (opening_content shape) [] turns)) (opening shape) (opening_placed shape bounds) run
