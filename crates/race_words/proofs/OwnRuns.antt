-- The turns of a race of a map whose CPUs have lists of their own may be made in the order of their tickets, where turns that were made inside
-- others are open until these come, each CPU uses what it has in hand, and probes see in hands what is there.
use Rattle.std.proofs.Common.{◌≡◌, ◌≢◌, inl, ℕ, zero, suc, ◌<◌, Bool, true, false, List, [], ◌∷◌, ◌++◌, map, length, Option, None, Some, refl, ap, ◌∙◌, sym, subst, ⊎_elim, not, ltb}
use Rattle.std.specs.Prelude.{IsTrue}
use Rattle.std.proofs.Math.Seq.{take-length}
use Rattle.std.proofs.lemmas.Bool.{cases_Bool, true≢false, and_parts}
use Rattle.map_types.specs.declared.attr.Shape.{Shape}
use Rattle.map_types.specs.declared.kind.DomainId.{DomainId}
use Rattle.map_types.specs.declared.kind.DomainId.TheVariants.{Bucket}
use Rattle.map_types.specs.Kind.{is_lru}
use Rattle.map_types.specs.Shape.{HasBounds}
use Rattle.map_types.specs.ElementLists.{put}
use Rattle.place_words.specs.declared.bucket_part.BucketPart.{BucketPart}
use Rattle.place_words.specs.declared.bucket_part.BucketPart.TheVariants.{Lookup, Update, Delete, Take, Next, First, Walk, Evict}
use Rattle.place_words.specs.declared.bucket_part.Put.TheVariants as puts
use Rattle.place_words.specs.declared.bucket_part.Seen.TheVariants.{Removed, Held}
use Rattle.place_words.specs.declared.history.Part.{Part}
use Rattle.place_words.specs.declared.history.Part.TheVariants as parts
use Rattle.place_words.specs.declared.list_part.OwnPart.{OwnPart}
use Rattle.place_words.specs.declared.list_part.OwnPart.TheVariants as own
use Rattle.place_words.specs.declared.step.Lists.{Lists}
use Rattle.place_words.specs.declared.step.Step.{Step}
use Rattle.place_words.specs.declared.step.Step.TheVariants as steps
use Rattle.place_words.specs.Histories.{Content, Allows}
use Rattle.place_words.specs.Interleaving.{Drawn, turn_of, Event, does, leave_steps, claims, bucket_steps, own_steps, part_steps, seen_by, enclosing, bucket_around, lists_in, takes, not_begun, turn_events, AreEnabled}
use Rattle.place_words.specs.Locks.{is_lock, is_same_lock, lock_number}
use Rattle.place_words.specs.State.{State}
use Rattle.place_words.specs.Steps.{after}
use Rattle.place_words.specs.Takings.{freed_by}
use Rattle.place_words.specs.Turns.{after_turn}
use Rattle.place_words.proofs.ElementLemmas.{put_here}
use Rattle.place_words.proofs.LockLemmas.{one_lock, same_lock}
use Rattle.place_words.proofs.Settled.{turned_elsewhere}
use Rattle.turn_order.specs.Ordered.{interleaved_to}
use Rattle.core_runs.specs.Words.{Words, RunsByWords, RunsByLists, words_of}
use Rattle.core_runs.proofs.Fits.{Fits, number_apart}
use Rattle.core_runs.proofs.Nests.{goes_on}
use Rattle.core_runs.proofs.PlainRuns.{core_lists}
use Rattle.core_runs.proofs.RaceLinks.{AllowAlong, AreOnLocks}
use Rattle.core_runs.proofs.RaceRuns.{bases, turn_follows}
use Rattle.core_runs.proofs.Reduced.{none, follows_none}
use Rattle.core_runs.proofs.Words.{runs_both}
use Rattle.step_check.specs.Ran.{words_over}
use Rattle.step_check.proofs.Begun.{HaveOwnTickets, Made, begun_after, stands_right}
use Rattle.step_check.proofs.LockSorts.{sort_of_lock, sort_of_part, AreOfTheirSorts, sorts_after, part_sort, IsBucketLock, bucket_lock, freelist_lock, local_lock, global_lock}
use Rattle.step_check.proofs.PlainLinks.{own_pays}
use Rattle.step_check.proofs.Reaches.{state_after, words_reached, state_behind, enabled_both, placed_after, takes_owners, lists_kept, AreAt, IsStepAt, at_both}
use Rattle.race_words.proofs.Inner.{AreOpen}
use Rattle.race_words.proofs.ListHands.{next_counts, Mode, mode_after, MayCounts}
use Rattle.race_words.proofs.ListTogether.{CountsAlong}
use Rattle.race_words.proofs.OwnSteps.{Lying, lying_fits, turn_at}
use Rattle.race_words.proofs.OwnWords.{CountsIn, SeesHeld, Worded}
use Rattle.race_words.proofs.PlainRuns.{AreByCpus, turn_block, takes_lead}
use Rattle.race_words.proofs.PlainSteps.{LeadTo}
use Rattle.race_words.proofs.Taken.{Holding, takes_run, lock_held, made_here, holding_after}
use Rattle.place_words.specs.Moves.{taken_from_bucket}
use Rattle.place_words.specs.declared.owner.Owner.{Owner}

-- what probes see in hands is so, by the words at each turn
unfoldable pub LooksAlong : Shape → (DomainId → Content) → List ℕ → Words → List Drawn → Type 0
LooksAlong shape contents begun w [] = Unit {0}
LooksAlong shape contents begun w (x ∷ later) =
    let now : DomainId → Content = after_turn shape x.entry.cpu contents (turn_of x) in
    SeesHeld w x.entry.part × LooksAlong shape now (begun_after x later begun) (words_over shape w (turn_events shape (enclosing x later) begun (lists_in (now x.lock)) x)) later

-- Steps under one lock

-- of each step of a turn but the taking of locks
abbrev pub IsUnder : Shape → ℕ → Step → Type 0
IsUnder shape k (steps.Take cpu lock) = ⊥
IsUnder shape k (steps.Give cpu lock lists) = lock_number shape lock ≡ k
IsUnder shape k (steps.Claim cpu e lock) = lock_number shape lock ≡ k
IsUnder shape k (steps.Settle cpu e lock) = lock_number shape lock ≡ k
IsUnder shape k (steps.Attach cpu e bucket) = lock_number shape (Bucket bucket) ≡ k
IsUnder shape k (steps.Detach cpu e bucket) = lock_number shape (Bucket bucket) ≡ k
IsUnder shape k (steps.Rehome cpu e to) = ⊥
IsUnder shape k (steps.Mark cpu e bucket) = Unit {0}
IsUnder shape k (steps.Clear cpu e) = Unit {0}
IsUnder shape k (steps.Glance cpu e) = Unit {0}

abbrev pub AreUnder : Shape → ℕ → List Step → Type 0
AreUnder shape k [] = Unit {0}
AreUnder shape k (step ∷ xs) = IsUnder shape k step × AreUnder shape k xs

under_step : (shape : Shape) (k : ℕ) (s : State) (step : Step) → IsUnder shape k step → IsStepAt shape k s step
under_step shape k s (steps.Take cpu lock) is = absurd is
under_step shape k s (steps.Give cpu lock lists) is = is
under_step shape k s (steps.Claim cpu e lock) is = is
under_step shape k s (steps.Settle cpu e lock) is = is
under_step shape k s (steps.Attach cpu e bucket) is = is
under_step shape k s (steps.Detach cpu e bucket) is = is
under_step shape k s (steps.Rehome cpu e to) is = absurd is
under_step shape k s (steps.Mark cpu e bucket) is = tt
under_step shape k s (steps.Clear cpu e) is = tt
under_step shape k s (steps.Glance cpu e) is = tt

under_at : (shape : Shape) (k : ℕ) (xs : List Step) (s : State) → AreUnder shape k xs → AreAt shape k s (map does xs)
under_at shape k [] s are = tt
under_at shape k (step ∷ xs) s are = (under_step shape k s step are.0, under_at shape k xs (after shape s step) are.1)

under_each : (shape : Shape) (k : ℕ) (f : ℕ → Step) (es : List ℕ) → ((e : ℕ) → IsUnder shape k (f e)) → AreUnder shape k (map f es)
under_each shape k f [] each = tt
under_each shape k f (e ∷ es) each = (each e, under_each shape k f es each)

under_both : (shape : Shape) (k : ℕ) (xs ys : List Step) → AreUnder shape k xs → AreUnder shape k ys → AreUnder shape k (xs ++ ys)
under_both shape k [] ys first second = second
under_both shape k (x ∷ xs) ys first second = (first.0, under_both shape k xs ys first.1 second)

under_leave : (shape : Shape) (t : Bool) (cpu b : ℕ) (es : List ℕ) → AreUnder shape (lock_number shape (Bucket b)) (leave_steps t cpu b es)
under_leave shape true cpu b es = under_each shape (lock_number shape (Bucket b)) (λ e. steps.Detach cpu e b) es (λ e. refl)
under_leave shape false cpu b es = tt

pub under_bucket : (shape : Shape) (cpu b : ℕ) (part : BucketPart) → AreUnder shape (lock_number shape (Bucket b)) (bucket_steps shape cpu b part)
under_bucket shape cpu b (Lookup side key got) = tt
under_bucket shape cpu b (Update side flags key value offer (puts.Added e)) = (refl, tt)
under_bucket shape cpu b (Update side flags key value offer (puts.Replaced new old)) = (refl, (refl, tt))
under_bucket shape cpu b (Update side flags key value offer (puts.Written e)) = tt
under_bucket shape cpu b (Update side flags key value offer puts.Exists) = tt
under_bucket shape cpu b (Update side flags key value offer puts.Absent) = tt
under_bucket shape cpu b (Update side flags key value offer puts.Full) = tt
under_bucket shape cpu b (Delete key removed) = under_leave shape (is_lru shape.kind) cpu b (taken_from_bucket (Delete key removed))
under_bucket shape cpu b (Take key removed) = under_leave shape (is_lru shape.kind) cpu b (taken_from_bucket (Take key removed))
under_bucket shape cpu b (Next key found) = tt
under_bucket shape cpu b (First key) = tt
under_bucket shape cpu b (Walk remove room result) = under_leave shape (is_lru shape.kind) cpu b (taken_from_bucket (Walk remove room result))
under_bucket shape cpu b (Evict e probed) = under_each shape (lock_number shape (Bucket b)) (λ e. steps.Detach cpu e b) (taken_from_bucket (Evict e probed)) (λ e. refl)

under_own : (shape : Shape) (cpu : ℕ) (lock : DomainId) (part : OwnPart) → AreUnder shape (lock_number shape lock) (own_steps cpu lock part)
under_own shape cpu lock (own.Turn hash active inactive shrink got) =
    under_both shape (lock_number shape lock) (map (λ e. steps.Settle cpu e lock) (freed_by shrink)) (claims cpu lock got)
    (under_each shape (lock_number shape lock) (λ e. steps.Settle cpu e lock) (freed_by shrink) (λ e. refl)) (got_under got)
  where
    got_under : (o : Option ℕ) → AreUnder shape (lock_number shape lock) (claims cpu lock o)
    got_under None = tt
    got_under (Some e) = (refl, tt)
under_own shape cpu lock (own.Push e) = (refl, tt)

-- of a part of a bucket or of a set
under_part : (shape : Shape) (cpu : ℕ) (lock : DomainId) (outer : Option ℕ) (part : Part) → is_lru shape.kind ≡ true → shape.common ≡ false → IsTrue (is_lock shape lock) → sort_of_part part ≡ sort_of_lock lock → AreUnder shape (lock_number shape lock) (part_steps shape cpu lock outer part)
under_part shape cpu lock outer (parts.Bucket part) lru apart is sort =
    let named : IsBucketLock lock = bucket_lock lock sort in
    subst (λ (l : DomainId). AreUnder shape (lock_number shape l) (part_steps shape cpu l outer (parts.Bucket part))) (sym named.is) (under_bucket shape cpu named.bucket part)
under_part shape cpu lock outer (parts.Own part) lru apart is sort = under_own shape cpu lock part
under_part shape cpu lock outer (parts.Free part) lru apart is sort =
    let named = freelist_lock lock sort in
    absurd (true≢false (sym (and_parts (not (is_lru shape.kind)) (ltb named.cpu shape.cpus) (subst (λ (l : DomainId). IsTrue (is_lock shape l)) named.is is)).0 ∙ ap not lru))
under_part shape cpu lock outer (parts.Local part) lru apart is sort =
    let named = local_lock lock sort in
    absurd (true≢false (sym (and_parts shape.common (ltb named.cpu shape.cpus) (subst (λ (l : DomainId). IsTrue (is_lock shape l)) named.is is)).0 ∙ apart))
under_part shape cpu lock outer (parts.Global part) lru apart is sort =
    absurd (true≢false (sym (subst (λ (l : DomainId). IsTrue (is_lock shape l)) (global_lock lock sort) is) ∙ apart))

-- what is seen changes nothing
seen_state : (shape : Shape) (part : Part) (s : State) → state_after shape s (seen_by part) ≡ s
unfolding state_after
seen_state shape (parts.Bucket (Lookup side key got)) s = refl
seen_state shape (parts.Bucket (Update side flags key value offer result)) s = refl
seen_state shape (parts.Bucket (Delete key removed)) s = refl
seen_state shape (parts.Bucket (Take key removed)) s = refl
seen_state shape (parts.Bucket (Next key found)) s = refl
seen_state shape (parts.Bucket (First key)) s = refl
seen_state shape (parts.Bucket (Walk remove room result)) s = refl
seen_state shape (parts.Bucket (Evict e Removed)) s = refl
seen_state shape (parts.Bucket (Evict e (Held holder))) s = refl
seen_state shape (parts.Free part) s = refl
seen_state shape (parts.Local part) s = refl
seen_state shape (parts.Global part) s = refl
seen_state shape (parts.Own part) s = refl

seen_at : (shape : Shape) (k : ℕ) (part : Part) (s : State) → AreAt shape k s (seen_by part)
seen_at shape k (parts.Bucket (Lookup side key got)) s = tt
seen_at shape k (parts.Bucket (Update side flags key value offer result)) s = tt
seen_at shape k (parts.Bucket (Delete key removed)) s = tt
seen_at shape k (parts.Bucket (Take key removed)) s = tt
seen_at shape k (parts.Bucket (Next key found)) s = tt
seen_at shape k (parts.Bucket (First key)) s = tt
seen_at shape k (parts.Bucket (Walk remove room result)) s = tt
seen_at shape k (parts.Bucket (Evict e Removed)) s = tt
seen_at shape k (parts.Bucket (Evict e (Held holder))) s = tt
seen_at shape k (parts.Free part) s = tt
seen_at shape k (parts.Local part) s = tt
seen_at shape k (parts.Global part) s = tt
seen_at shape k (parts.Own part) s = tt

takes_lists : (shape : Shape) (turns : List Drawn) (s : State) → (state_after shape s (map takes turns)).lists ≡ s.lists
unfolding state_after
takes_lists shape [] s = refl
takes_lists shape (x ∷ turns) s = takes_lists shape turns (after shape s (steps.Take x.entry.cpu x.lock))

-- words that say the same of owners
pub sees_alike : (w v : Words) (part : Part) → w.owner ≡ v.owner → SeesHeld w part → SeesHeld v part
sees_alike w v (parts.Bucket (Lookup side key got)) same held = tt
sees_alike w v (parts.Bucket (Update side flags key value offer result)) same held = tt
sees_alike w v (parts.Bucket (Delete key removed)) same held = tt
sees_alike w v (parts.Bucket (Take key removed)) same held = tt
sees_alike w v (parts.Bucket (Next key found)) same held = tt
sees_alike w v (parts.Bucket (First key)) same held = tt
sees_alike w v (parts.Bucket (Walk remove room result)) same held = tt
sees_alike w v (parts.Bucket (Evict e Removed)) same held = tt
sees_alike w v (parts.Bucket (Evict e (Held holder))) same held = sym (ap (λ (f : ℕ → Owner). f e) same) ∙ held
sees_alike w v (parts.Free part) same held = tt
sees_alike w v (parts.Local part) same held = tt
sees_alike w v (parts.Global part) same held = tt
sees_alike w v (parts.Own part) same held = tt

module _ {shape : Shape} (bounds : HasBounds shape) (lru : is_lru shape.kind ≡ true) (apart : shape.common ≡ false) where
  module _ (x : Drawn) (later : List Drawn) (contents : DomainId → Content) (begun : List ℕ) (hands : ℕ → ℕ → ℕ) (flag : Mode) (s : State)
      (on : AreOnLocks shape (x ∷ later)) (own_tickets : HaveOwnTickets (x ∷ later)) (opened : AreOpen (x ∷ later)) (within : x.entry.cpu < shape.cpus)
      (allowed : Allows shape x.entry.cpu x.entry.part (contents x.lock)) (may : MayCounts (hands x.entry.cpu) flag x.entry.part) (looks : SeesHeld (words_of s) x.entry.part)
      (holding : Holding shape (words_of s) begun (x ∷ later)) (lying : Lying shape contents s) (counts : CountsIn shape hands (words_of s)) (sorts : AreOfTheirSorts contents) where
    abbrev around : List Drawn
    around = enclosing x later

    abbrev now : DomainId → Content
    now = after_turn shape x.entry.cpu contents (turn_of x)

    abbrev ts : List Drawn
    ts = not_begun begun (around ++ x ∷ [])

    abbrev block : List Event
    block = turn_events shape around begun (lists_in (now x.lock)) x

    abbrev xs : List Step
    xs = part_steps shape x.entry.cpu x.lock (bucket_around around) x.entry.part

    abbrev word : List Event
    word = goes_on shape contents around x []

    made : Made shape (words_of s) (lists_in (now x.lock)) x later begun []
    made = made_here on own_tickets opened holding (lists_in (now x.lock))

    sort : sort_of_part x.entry.part ≡ sort_of_lock x.lock
    sort = part_sort shape x.entry.cpu x.entry.part x.lock contents sorts allowed

    taken : LeadTo shape (Fits shape (bases contents) none none (core_lists contents)) s (map takes ts)
    taken = takes_lead bounds ts s (lying_fits lying) (takes_run on own_tickets opened holding within)

    abbrev t : State
    t = state_after shape s (map takes ts)

    lying_t : Lying shape contents t
    lying_t = record { placed = taken.1.placed; lies = λ lock is. ap (λ (f : ℕ → Lists). f (lock_number shape lock)) (takes_lists shape ts s) ∙ lying.lies lock is }

    counts_t : CountsIn shape hands (words_of t)
    counts_t = record {
      held = λ c e some. let has = counts.held c e some in (has.0, ap (λ (f : ℕ → Owner). f e) (takes_owners shape ts s) ∙ has.1);
      once = counts.once;
    }

    held_t : t.holder (lock_number shape x.lock) ≡ Some x.entry.cpu
    held_t = ap (λ (w : Words). w.holder (lock_number shape x.lock)) (words_reached shape (map takes ts) s) ∙ lock_held on own_tickets opened holding x (stands_right x around (x ∷ []) (inl refl))

    worded : Worded shape x.entry.cpu hands x.entry.part (words_of t) word
    worded =
        turn_at bounds lru apart lying_t within counts_t x.lock x.entry.part (lists_in (now x.lock)) on.0 sort allowed held_t may.has
        (sees_alike (words_of s) (words_of t) x.entry.part (sym (takes_owners shape ts s)) looks) (bucket_around around)

    by_lists : RunsByLists shape t word
    by_lists =
        subst (RunsByLists shape t) (take-length word)
        (turn_follows bounds contents none x around t [] (own_pays shape lru apart x none (bucket_around around) (λ b. refl) on.0 x.entry.part sort) allowed (lying_fits lying_t) (λ u _. follows_none bounds u)
        (length word) (subst (RunsByWords shape (words_of t)) (sym (take-length word)) worded.runs))

    word_enabled : AreEnabled shape t word
    word_enabled = runs_both bounds word t lying_t.placed worded.runs by_lists

    -- The turn may be made.
    pub own_enabled : AreEnabled shape s block
    own_enabled = subst (AreEnabled shape s) (sym (turn_block shape contents begun x later)) (enabled_both shape (map takes ts) word s taken.0 word_enabled)

    then_is : state_after shape s block ≡ state_after shape t word
    then_is = ap (state_after shape s) (turn_block shape contents begun x later) ∙ state_behind shape (map takes ts) word s

    pub own_counts : CountsIn shape (put hands x.entry.cpu (next_counts (hands x.entry.cpu) x.entry.part)) (words_of (state_after shape s block))
    own_counts =
        subst (CountsIn shape (put hands x.entry.cpu (next_counts (hands x.entry.cpu) x.entry.part))) (sym (ap words_of then_is ∙ words_reached shape word t)) worded.counts

    pub own_holding : Holding shape (words_of (state_after shape s block)) (begun_after x later begun) later
    own_holding = subst (λ (w : Words). Holding shape w (begun_after x later begun) later) (made.now_is ∙ sym (words_reached shape block s)) (holding_after on own_tickets opened holding made)

    -- Of lists the turn changes those under its lock, which it gives back.
    abbrev k : ℕ
    k = lock_number shape x.lock

    abbrev give : Step
    give = steps.Give x.entry.cpu x.lock (lists_in (now x.lock))

    word_at : AreAt shape k t word
    word_at =
        at_both shape k (map does xs) (seen_by x.entry.part ++ does give ∷ []) t (under_at shape k xs t (under_part shape x.entry.cpu x.lock (bucket_around around) x.entry.part lru apart on.0 sort))
        (at_both shape k (seen_by x.entry.part) (does give ∷ []) (state_after shape t (map does xs)) (seen_at shape k x.entry.part (state_after shape t (map does xs))) (refl, tt))

    gave : (state_after shape t word).lists k ≡ lists_in (now x.lock)
    unfolding state_after
    gave =
        let v : State = state_after shape t (map does xs) in
        ap (λ (u : State). u.lists k) (state_behind shape (map does xs) (seen_by x.entry.part ++ does give ∷ []) t ∙ state_behind shape (seen_by x.entry.part) (does give ∷ []) v)
        ∙ put_here (state_after shape v (seen_by x.entry.part)).lists k (lists_in (now x.lock))

    pub own_lying : Lying shape now (state_after shape s block)
    own_lying = subst (Lying shape now) (sym then_is) (record {
      placed = placed_after bounds word t lying_t.placed word_enabled;
      lies = λ lock is. ⊎_elim
          (λ (same : is_same_lock x.lock lock ≡ true).
          let it : x.lock ≡ lock = one_lock x.lock lock same in
          subst (λ (l : DomainId). (state_after shape t word).lists (lock_number shape l) ≡ lists_in (now l)) it gave)
          (λ (differs : is_same_lock x.lock lock ≡ false).
          let other : lock_number shape lock ≢ k = number_apart shape lock x.lock is on.0 (λ is_it. true≢false (sym (same_lock lock) ∙ ap (λ (l : DomainId). is_same_lock l lock) is_it ∙ differs)) in
          lists_kept shape k word t word_at (lock_number shape lock) other ∙ lying_t.lies lock is ∙ ap lists_in (sym (turned_elsewhere shape x.entry.cpu contents (turn_of x) lock differs)))
          (cases_Bool (is_same_lock x.lock lock));
    })

  pub own_goes : (n : ℕ) (turns : List Drawn) (contents : DomainId → Content) (begun : List ℕ) (hands : ℕ → ℕ → ℕ) (flags : ℕ → Mode) (s : State)
      → AreOnLocks shape turns → HaveOwnTickets turns → AreOpen turns → AreByCpus shape turns → AllowAlong shape contents turns → CountsAlong hands flags turns → LooksAlong shape contents begun (words_of s) turns → Holding shape (words_of s) begun turns
      → Lying shape contents s → CountsIn shape hands (words_of s) → AreOfTheirSorts contents → AreEnabled shape s (interleaved_to n shape contents begun turns)
  unfolding interleaved_to AreEnabled LooksAlong
  own_goes zero turns contents begun hands flags s on own_tickets opened cpus allow may looks holding lying counts sorts = tt
  own_goes (suc n) [] contents begun hands flags s on own_tickets opened cpus allow may looks holding lying counts sorts = tt
  own_goes (suc n) (x ∷ later) contents begun hands flags s on own_tickets opened cpus allow may looks holding lying counts sorts =
      let now : DomainId → Content = after_turn shape x.entry.cpu contents (turn_of x) in
      let block : List Event = turn_events shape (enclosing x later) begun (lists_in (now x.lock)) x in
      enabled_both shape block (interleaved_to n shape now (begun_after x later begun) later) s
      (own_enabled x later contents begun hands (flags x.entry.cpu) s on own_tickets opened cpus.0 allow.0 may.0 looks.0 holding lying counts sorts)
      (own_goes n later now (begun_after x later begun) (put hands x.entry.cpu (next_counts (hands x.entry.cpu) x.entry.part)) (put flags x.entry.cpu (mode_after x.entry.part)) (state_after shape s block)
      on.1 own_tickets.1 opened.1 cpus.1 allow.1 may.1
      (subst (λ (w : Words). LooksAlong shape now (begun_after x later begun) w later) (sym (words_reached shape block s)) looks.1)
      (own_holding x later contents begun hands (flags x.entry.cpu) s on own_tickets opened cpus.0 allow.0 may.0 looks.0 holding lying counts sorts)
      (own_lying x later contents begun hands (flags x.entry.cpu) s on own_tickets opened cpus.0 allow.0 may.0 looks.0 holding lying counts sorts)
      (own_counts x later contents begun hands (flags x.entry.cpu) s on own_tickets opened cpus.0 allow.0 may.0 looks.0 holding lying counts sorts)
      (sorts_after shape x.entry.cpu contents (turn_of x) sorts))
