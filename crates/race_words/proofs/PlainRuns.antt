-- The turns of a race of a map that doesn't evict may be made in the order of their tickets, where turns that were made inside others are
-- opened until these come, and each CPU uses what it has in hand.
use Rattle.std.proofs.Common.{◌≡◌, inl, inr, ℕ, zero, suc, ◌<◌, ◌≤◌, Bool, true, false, ◌&&◌, cond, eqb, List, [], ◌∷◌, ◌++◌, map, Option, None, Some, refl, ap, ◌∙◌, sym, subst, ⊎_elim, arith}
use Rattle.std.proofs.lemmas.Bool.{cases_Bool, eq-eqb}
use Rattle.std.proofs.lemmas.List.{append_assoc}
use Rattle.map_types.specs.declared.attr.Shape.{Shape}
use Rattle.map_types.specs.declared.kind.DomainId.{DomainId}
use Rattle.map_types.specs.declared.kind.DomainId.TheVariants.{Local, Global, CpuLru, Bucket, Freelist}
use Rattle.map_types.specs.Kind.{is_lru}
use Rattle.map_types.specs.Shape.{HasBounds}
use Rattle.map_types.specs.Stored.{Stored}
use Rattle.map_types.specs.ElementLists.{put, times}
use Rattle.place_words.specs.declared.bucket_part.BucketPart.{BucketPart}
use Rattle.place_words.specs.declared.bucket_part.BucketPart.TheVariants.{Lookup, Update, Delete, Take, Next, First, Walk, Evict}
use Rattle.place_words.specs.declared.free_part.FreePart.TheVariants.{Pushed}
use Rattle.place_words.specs.declared.history.Part.{Part}
use Rattle.place_words.specs.declared.history.Part.TheVariants as parts
use Rattle.place_words.specs.declared.step.Lists.{Lists}
use Rattle.place_words.specs.declared.step.Step.TheVariants as steps
use Rattle.place_words.specs.Bodies.{numbers}
use Rattle.place_words.specs.Buckets.{AllowsInBucket}
use Rattle.place_words.specs.Choices.{among}
use Rattle.place_words.specs.Histories.{Content, Allows, opening_content}
use Rattle.place_words.specs.Interleaving.{Drawn, turn_of, Event, does, enclosing, bucket_around, bucket_of_lock, part_steps, seen_by, lists_in, takes, not_begun, turn_events, AreEnabled}
use Rattle.place_words.specs.Locks.{rank_of, lock_number}
use Rattle.place_words.specs.OpeningState.{opening}
use Rattle.place_words.specs.State.{State}
use Rattle.place_words.specs.Steps.{IsEnabled, after}
use Rattle.place_words.specs.Turns.{after_turn}
use Rattle.place_words.proofs.BucketLaws.{bucket_counts, times_more}
use Rattle.place_words.proofs.LockLemmas.{other_lock}
use Rattle.place_words.proofs.Settled.{turned_elsewhere}
use Rattle.turn_order.specs.InCalls.{AreInOrder}
use Rattle.turn_order.specs.Ordered.{interleaved_to}
use Rattle.core_runs.specs.Races.{left_inside, owed_after}
use Rattle.core_runs.specs.Words.{Words, ListsAllow, RunsByWords, words_of}
use Rattle.core_runs.proofs.Fits.{Fits, take_fits}
use Rattle.core_runs.proofs.Nests.{goes_on}
use Rattle.core_runs.proofs.PlainRuns.{core_lists, on_bodies}
use Rattle.core_runs.proofs.RaceLinks.{AllowAlong, AreOnLocks}
use Rattle.core_runs.proofs.RaceRuns.{bases, opening_fits}
use Rattle.core_runs.proofs.Reduced.{none}
use Rattle.core_runs.proofs.Words.{both_allow, words_go}
use Rattle.step_check.proofs.Begun.{Stands, HaveOwnTickets, Made, begun_after, stands_around, stands_left, stands_right}
use Rattle.step_check.proofs.Inside.{around_of, pushed_by, bucket_of_turn, bucket_around_is, pushed_in, is_turn, inside, ArePushedInside, FoundAround, found_around, encloses_call}
use Rattle.step_check.proofs.InsideCalls.{bucket_pays, pushed_inside}
use Rattle.step_check.proofs.LockSorts.{sort_of_lock, sort_of_part, AreOfTheirSorts, sorts_first, sorts_after, part_sort}
use Rattle.step_check.proofs.Nested.{left_of}
use Rattle.step_check.proofs.Owes.{Owes, owes_first}
use Rattle.step_check.proofs.PlainLinks.{pays, owes_then}
use Rattle.step_check.proofs.PlainNested.{calls_nested}
use Rattle.step_check.proofs.Reaches.{state_after, words_reached, state_behind, enabled_both, takes_owners}
use Rattle.race_words.proofs.Open.{IsOpen, around_each}
use Rattle.race_words.proofs.Inner.{AreOpen}
use Rattle.race_words.proofs.Hands.{Hand, hand_after, MayHand}
use Rattle.race_words.proofs.PlainSteps.{LeadTo, lead_step, lead_none, HandsIn, hands_same, Between, Turned, TurnLeads, turn_leads}
use Rattle.race_words.proofs.Taken.{Holding, holding_none, free_of, takes_run, lock_held, made_here, holding_after}

-- A turn's events, as its locks are taken and what follows.
pub turn_block : (shape : Shape) (contents : DomainId → Content) (begun : List ℕ) (x : Drawn) (later : List Drawn)
    → turn_events shape (enclosing x later) begun (lists_in (after_turn shape x.entry.cpu contents (turn_of x) x.lock)) x ≡ map takes (not_begun begun (enclosing x later ++ x ∷ [])) ++ goes_on shape contents (enclosing x later) x []
unfolding turn_events
turn_block shape contents begun x later =
    let around : List Drawn = enclosing x later in
    let give : List Event = does (steps.Give x.entry.cpu x.lock (lists_in (after_turn shape x.entry.cpu contents (turn_of x) x.lock))) ∷ [] in
    let word : List Event = map does (part_steps shape x.entry.cpu x.lock (bucket_around around) x.entry.part) in
    append_assoc (map takes (not_begun begun (around ++ x ∷ [])) ++ word) (seen_by x.entry.part) give
    ∙ append_assoc (map takes (not_begun begun (around ++ x ∷ []))) word (seen_by x.entry.part ++ give)

-- each CPU is one of the map's, and uses what it has
abbrev pub AreByCpus : Shape → List Drawn → Type 0
AreByCpus shape [] = Unit {0}
AreByCpus shape (x ∷ later) = (x.entry.cpu < shape.cpus) × AreByCpus shape later

abbrev pub HandsAlong : (ℕ → Hand) → List Drawn → Type 0
HandsAlong hands [] = Unit {0}
HandsAlong hands (x ∷ later) = MayHand (hands x.entry.cpu) x.entry.part × HandsAlong (put hands x.entry.cpu (hand_after (hands x.entry.cpu) x.entry.part)) later

-- A turn that is opened finds what lies under its lock now.
pub found_now : (shape : Shape) (Done : Drawn → Type 0) (contents : DomainId → Content) (y : Drawn) (later : List Drawn) → IsOpen Done y later → AllowAlong shape contents later → Allows shape y.entry.cpu y.entry.part (contents y.lock)
found_now shape Done contents y [] opened allow = absurd opened
found_now shape Done contents y (z ∷ more) (inl here) allow = subst (λ (d : Drawn). Allows shape d.entry.cpu d.entry.part (contents d.lock)) here.0 allow.0
found_now shape Done contents y (z ∷ more) (inr waits) allow =
    subst (Allows shape y.entry.cpu y.entry.part) (turned_elsewhere shape z.entry.cpu contents (turn_of z) y.lock (other_lock z.lock y.lock waits.0))
    (found_now shape Done (after_turn shape z.entry.cpu contents (turn_of z)) y more waits.2 allow.1)

-- what a bucket's turn takes out lay there
left_lies : (shape : Shape) (cpu : ℕ) (bodies : List Stored) (part : BucketPart) → AllowsInBucket shape cpu part bodies → (e : ℕ) → times e (left_inside false part) ≤ times e (numbers bodies)
left_lies shape cpu bodies (Lookup side key got) allowed e = omega arith
left_lies shape cpu bodies (Update side flags key value offer result) allowed e = omega arith
left_lies shape cpu bodies (Delete key removed) allowed e = omega (arith, bucket_counts shape cpu bodies e (Delete key removed) allowed)
left_lies shape cpu bodies (Take key removed) allowed e = omega (arith, bucket_counts shape cpu bodies e (Take key removed) allowed)
left_lies shape cpu bodies (Next key found) allowed e = omega arith
left_lies shape cpu bodies (First key) allowed e = omega arith
left_lies shape cpu bodies (Walk remove room result) allowed e = omega (arith, bucket_counts shape cpu bodies e (Walk remove room result) allowed)
left_lies shape cpu bodies (Evict d probed) allowed e = omega arith

left_there : (shape : Shape) (cpu : ℕ) (content : Content) (part : Part) → Allows shape cpu part content → (e : ℕ) → times e (left_of part) ≤ times e (lists_in content).first
left_there shape cpu content (parts.Bucket part) allowed e =
    let found = on_bodies content (AllowsInBucket shape cpu part) allowed in
    omega (arith, left_lies shape cpu found.bodies part found.fact e, ap (λ (c : Content). times e (lists_in c).first) found.lies)
left_there shape cpu content (parts.Free part) allowed e = omega arith
left_there shape cpu content (parts.Local part) allowed e = omega arith
left_there shape cpu content (parts.Global part) allowed e = omega arith
left_there shape cpu content (parts.Own part) allowed e = omega arith

bucket_named : (lock : DomainId) (b : ℕ) → bucket_of_lock lock ≡ Some b → lock ≡ Bucket b
bucket_named (Local c) b is = absurd cc
bucket_named Global b is = absurd cc
bucket_named (CpuLru c) b is = absurd cc
bucket_named (Bucket c) b is = ap Bucket (let same : (◌≡◌ {A = Option ℕ} (Some c) (Some b)) = is in cc)
bucket_named (Freelist c) b is = absurd cc

-- the turn whose bucket is around
record BucketTurn (x : Drawn) (later : List Drawn) (b : ℕ) : Type 0 where
  turn : Drawn
  found : around_of x later ≡ Some turn
  lock_is : turn.lock ≡ Bucket b

bucket_turn : (x : Drawn) (later : List Drawn) (b : ℕ) → bucket_around (enclosing x later) ≡ Some b → BucketTurn x later b
bucket_turn x later b is = by (around_of x later) refl (sym (bucket_around_is x later) ∙ is)
  where
    by : (o : Option Drawn) → around_of x later ≡ o → bucket_of_turn o ≡ Some b → BucketTurn x later b
    by None found is = absurd cc
    by (Some z) found is = record { turn = z; found = found; lock_is = bucket_named z.lock b is }

one_bucket : (b c : ℕ) → Bucket b ≡ Bucket c → b ≡ c
one_bucket b c same = cc

module _ {shape : Shape} (bounds : HasBounds shape) where
  -- Locks that words allow to be taken
  pub takes_lead : {base out ins : ℕ → List ℕ} {lists : DomainId → Lists} (ts : List Drawn) (s : State) → Fits shape base out ins lists s → RunsByWords shape (words_of s) (map takes ts) → LeadTo shape (Fits shape base out ins lists) s (map takes ts)
  unfolding RunsByWords ListsAllow
  takes_lead {base} {out} {ins} {lists} [] s fits words = lead_none shape (Fits shape base out ins lists) s fits
  takes_lead {base} {out} {ins} {lists} (x ∷ ts) s fits words =
      let step = steps.Take x.entry.cpu x.lock in
      let can : IsEnabled shape s step = both_allow bounds s fits.placed step words.0 tt in
      lead_step shape (Fits shape base out ins lists) s step (map takes ts) can
      (takes_lead ts (after shape s step) (take_fits fits bounds x.entry.cpu x.lock can) (subst (λ (w : Words). RunsByWords shape w (map takes ts)) (sym (words_go shape s step)) words.1))

  module _ (plain : is_lru shape.kind ≡ false) where
    module _ (x : Drawn) (later : List Drawn) (contents : DomainId → Content) (owed : ℕ → List ℕ) (begun : List ℕ) (hands : ℕ → Hand) (s : State)
        (on : AreOnLocks shape (x ∷ later)) (own : HaveOwnTickets (x ∷ later)) (opened : AreOpen (x ∷ later)) (within : x.entry.cpu < shape.cpus) (pushed : ArePushedInside (x ∷ later))
        (allow : AllowAlong shape contents (x ∷ later)) (may : MayHand (hands x.entry.cpu) x.entry.part)
        (owes : Owes owed begun (x ∷ later)) (holding : Holding shape (words_of s) begun (x ∷ later)) (between : Between bounds plain within contents owed hands s) (sorts : AreOfTheirSorts contents) where
      abbrev around : List Drawn
      around = enclosing x later

      abbrev now : DomainId → Content
      now = after_turn shape x.entry.cpu contents (turn_of x)

      abbrev ts : List Drawn
      ts = not_begun begun (around ++ x ∷ [])

      abbrev block : List Event
      block = turn_events shape around begun (lists_in (now x.lock)) x

      made : Made shape (words_of s) (lists_in (now x.lock)) x later begun []
      made = made_here on own opened holding (lists_in (now x.lock))

      sort : sort_of_part x.entry.part ≡ sort_of_lock x.lock
      sort = part_sort shape x.entry.cpu x.entry.part x.lock contents sorts allow.0

      -- What is pushed lies in the bucket of the turn around it, beside what was pushed before.
      owing : (b e : ℕ) → bucket_around around ≡ Some b → x.entry.part ≡ parts.Free (Pushed e) → times e (owed b) < times e (bases contents b)
      owing b e outer_is part_is =
          let it : BucketTurn x later b = bucket_turn x later b outer_is in
          let y : Drawn = it.turn in
          let found : FoundAround x y later = found_around x y later it.found in
          let there : Stands y later = stands_around x y later found.around in
          let inside_y : inside y (x ∷ later) ≡ e ∷ inside y later =
          ap (λ (o : Option Drawn). pushed_in (eqb x.entry.call y.entry.call && is_turn y o) x.entry.part ++ inside y later) it.found
          ∙ ap (λ (c : Bool). pushed_in (c && eqb y.entry.ticket y.entry.ticket) x.entry.part ++ inside y later) (eq-eqb x.entry.call y.entry.call (sym (encloses_call y x found.encloses)))
          ∙ ap (λ (c : Bool). pushed_in c x.entry.part ++ inside y later) (eq-eqb y.entry.ticket y.entry.ticket refl)
          ∙ ap (λ (l : List ℕ). l ++ inside y later) (ap pushed_by part_is) in
          let lies : times e (left_of y.entry.part) ≤ times e (bases contents b) =
          left_there shape y.entry.cpu (contents (Bucket b)) y.entry.part
          (subst (λ (l : DomainId). Allows shape y.entry.cpu y.entry.part (contents l)) it.lock_is
          (subst (Allows shape y.entry.cpu y.entry.part) (elsewhere y found.around)
          (found_now shape (λ z. Stands z around) now y later (opened.0 y found.around) allow.1))) e in
          ⊎_elim
          (λ (has : among begun y.entry.ticket ≡ true). omega (arith, owes.begun_pays y b (inr there) it.lock_is has e, ap (times e) inside_y, times_more e e (inside y later), once e, lies))
          (λ (has_not : among begun y.entry.ticket ≡ false).
          let nothing : owed b ≡ [] = owes.at_rest b (λ z at z_is. ⊎_elim
          (λ (has : among begun z.entry.ticket ≡ true). absurd (free_of on own opened holding y (stands_left y around (x ∷ []) found.around) has_not z at has (z_is ∙ sym it.lock_is)))
          (λ (none_yet : among begun z.entry.ticket ≡ false). none_yet)
          (cases_Bool (among begun z.entry.ticket))) in
          omega (arith, owes.rest_pays y b (inr there) it.lock_is has_not e, ap (times e) inside_y, times_more e e (inside y later), once e, lies, ap (times e) nothing))
          (cases_Bool (among begun y.entry.ticket))
        where
          once : (e : ℕ) → times e (e ∷ []) ≡ 1
          once e = ap (λ (c : Bool). cond c 1 0) (eq-eqb e e refl)

          elsewhere : (y : Drawn) → Stands y around → now y.lock ≡ contents y.lock
          elsewhere y at = turned_elsewhere shape x.entry.cpu contents (turn_of x) y.lock (other_lock x.lock y.lock (λ same. below y at (ap rank_of same)))
            where
              below : (y : Drawn) → Stands y around → rank_of x.lock ≡ rank_of y.lock → ⊥
              below y at same = let lower = (around_each x later y at).lower in omega (arith, lower, same)

      taken : LeadTo shape (Fits shape (bases contents) owed none (core_lists contents)) s (map takes ts)
      taken = takes_lead ts s between.0 (takes_run on own opened holding within)

      abbrev t : State
      t = state_after shape s (map takes ts)

      held_at : (y : Drawn) → Stands y (around ++ x ∷ []) → t.holder (lock_number shape y.lock) ≡ Some x.entry.cpu
      held_at y at = ap (λ (w : Words). w.holder (lock_number shape y.lock)) (words_reached shape (map takes ts) s) ∙ lock_held on own opened holding y at

      lead : TurnLeads bounds plain within contents owed hands x.lock (bucket_around around) x.entry.part t
      lead =
          turn_leads bounds plain within contents owed hands x.lock (bucket_around around) x.entry.part t (pays bounds plain x later owed own made owes on pushed sort x.entry.part refl) allow.0
          (held_at x (stands_right x around (x ∷ []) (inl refl)))
          (λ b is.
          let it : BucketTurn x later b = bucket_turn x later b is in
          subst (λ (l : DomainId). t.holder (lock_number shape l) ≡ Some x.entry.cpu) it.lock_is (held_at it.turn (stands_left it.turn around (x ∷ []) (found_around x it.turn later it.found).around)))
          owing may
          (taken.1, hands_same between.1 t (takes_owners shape ts s))

      -- The turn may be made.
      pub turn_enabled : AreEnabled shape s block
      turn_enabled = subst (AreEnabled shape s) (sym (turn_block shape contents begun x later)) (enabled_both shape (map takes ts) (goes_on shape contents around x []) s taken.0 lead.0)

      pub turn_turned : Turned bounds plain within contents owed hands x.lock (bucket_around around) x.entry.part (state_after shape s block)
      turn_turned =
          subst (Turned bounds plain within contents owed hands x.lock (bucket_around around) x.entry.part)
          (sym (ap (state_after shape s) (turn_block shape contents begun x later) ∙ state_behind shape (map takes ts) (goes_on shape contents around x []) s)) lead.1

      pub turn_holding : Holding shape (words_of (state_after shape s block)) (begun_after x later begun) later
      turn_holding = subst (λ (w : Words). Holding shape w (begun_after x later begun) later) (made.now_is ∙ sym (words_reached shape block s)) (holding_after on own opened holding made)

      pub turn_owes : Owes (owed_after (bucket_around around) x.lock x.entry.part owed) (begun_after x later begun) later
      turn_owes = owes_then bounds plain x later owed own made owes on pushed sort x.entry.part refl

    race_goes : (n : ℕ) (turns : List Drawn) (contents : DomainId → Content) (owed : ℕ → List ℕ) (begun : List ℕ) (hands : ℕ → Hand) (s : State)
        → AreOnLocks shape turns → HaveOwnTickets turns → AreOpen turns → AreByCpus shape turns → ArePushedInside turns → AllowAlong shape contents turns → HandsAlong hands turns → Owes owed begun turns → Holding shape (words_of s) begun turns
        → Fits shape (bases contents) owed none (core_lists contents) s → HandsIn shape hands s → AreOfTheirSorts contents → AreEnabled shape s (interleaved_to n shape contents begun turns)
    unfolding interleaved_to AreEnabled
    race_goes zero turns contents owed begun hands s on own opened cpus pushed allow may owes holding fits held sorts = tt
    race_goes (suc n) [] contents owed begun hands s on own opened cpus pushed allow may owes holding fits held sorts = tt
    race_goes (suc n) (x ∷ later) contents owed begun hands s on own opened cpus pushed allow may owes holding fits held sorts =
        let now : DomainId → Content = after_turn shape x.entry.cpu contents (turn_of x) in
        let block : List Event = turn_events shape (enclosing x later) begun (lists_in (now x.lock)) x in
        let turned = turn_turned x later contents owed begun hands s on own opened cpus.0 pushed allow may.0 owes holding (fits, held) sorts in
        enabled_both shape block (interleaved_to n shape now (begun_after x later begun) later) s
        (turn_enabled x later contents owed begun hands s on own opened cpus.0 pushed allow may.0 owes holding (fits, held) sorts)
        (race_goes n later now (owed_after (bucket_around (enclosing x later)) x.lock x.entry.part owed) (begun_after x later begun) (put hands x.entry.cpu (hand_after (hands x.entry.cpu) x.entry.part)) (state_after shape s block)
        on.1 own.1 opened.1 cpus.1 pushed.1 allow.1 may.1
        (turn_owes x later contents owed begun hands s on own opened cpus.0 pushed allow may.0 owes holding (fits, held) sorts)
        (turn_holding x later contents owed begun hands s on own opened cpus.0 pushed allow may.0 owes holding (fits, held) sorts)
        turned.0 turned.1 (sorts_after shape x.entry.cpu contents (turn_of x) sorts))

    -- Such a race is a run of the core, from the opening on.
    pub plain_race : (turns : List Drawn) (hands : ℕ → Hand) → AreOnLocks shape turns → HaveOwnTickets turns → AreOpen turns → AreByCpus shape turns → AreInOrder shape turns → AllowAlong shape (opening_content shape) turns → HandsAlong hands turns
        → HandsIn shape hands (opening shape) → (n : ℕ) → AreEnabled shape (opening shape) (interleaved_to n shape (opening_content shape) [] turns)
    unfolding opening
    plain_race turns hands on own opened cpus in_order allow may held n =
        let each = calls_nested shape plain turns in_order in
        race_goes n turns (opening_content shape) none [] hands (opening shape) on own opened cpus (pushed_inside turns each) allow may (owes_first turns (bucket_pays turns own each))
        (holding_none shape (words_of (opening shape)) turns (λ k. refl)) (opening_fits bounds) held (sorts_first shape)
