-- On a map whose CPUs share lists the first turns of a record may be made in the core exactly where they may by words.
use Rattle.std.proofs.Common.{◌≡◌, ◌≢◌, inr, ℕ, zero, suc, ◌<◌, ◌≤◌, true, false, cond, List, [], ◌∷◌, ◌++◌, map, Option, Some, refl, ap, ◌∙◌, sym, subst, arith}
use Rattle.std.specs.Prelude.{IsTrue, All}
use Rattle.std.proofs.lemmas.Bool.{true≢false}
use Rattle.std.proofs.lemmas.List.{append-nil}
use Rattle.std.proofs.lemmas.List.Elements.{All-nil, All-cons, All-head, All-tail}
use Rattle.map_types.specs.declared.attr.Shape.{Shape}
use Rattle.map_types.specs.declared.kind.DomainId.{DomainId}
use Rattle.map_types.specs.declared.kind.DomainId.TheVariants.{Local, Global, CpuLru, Bucket, Freelist}
use Rattle.map_types.specs.Kind.{is_lru}
use Rattle.map_types.specs.Shape.{HasBounds}
use Rattle.map_types.specs.ElementLists.{times}
use Rattle.map_types.proofs.RowLemmas.{by_test}
use Rattle.place_words.specs.declared.history.Part.{Part}
use Rattle.place_words.specs.declared.history.Part.TheVariants as parts
use Rattle.place_words.specs.declared.list_part.GlobalPart.{GlobalPart}
use Rattle.place_words.specs.declared.list_part.GlobalPart.TheVariants as global
use Rattle.place_words.specs.declared.owner.Owner.{Owner}
use Rattle.place_words.specs.declared.owner.Owner.TheVariants as owners
use Rattle.place_words.specs.declared.step.Lists.{Lists}
use Rattle.place_words.specs.declared.step.Step.TheVariants as steps
use Rattle.place_words.specs.declared.visits.Flush.{Flush}
use Rattle.place_words.specs.declared.visits.ShrinkNote.{ShrinkNote}
use Rattle.place_words.specs.declared.visits.Visit.{Visit}
use Rattle.place_words.specs.Choices.{among}
use Rattle.place_words.specs.Globals.{AllowsOnGlobal, global_after, flushed_elements}
use Rattle.place_words.specs.Histories.{Content, Allows, in_global, content_after, opening_content}
use Rattle.place_words.specs.Interleaving.{Drawn, turn_of, Event, does, enclosing, bucket_around, lists_in, set_lists, part_steps, global_steps, seen_by, takes, not_begun, turn_events, AreEnabled}
use Rattle.place_words.specs.Locks.{is_lock, is_same_lock, lock_number, rank_of}
use Rattle.place_words.specs.OpeningState.{opening}
use Rattle.place_words.specs.Openings.{is_free}
use Rattle.place_words.specs.State.{State, is_bucket}
use Rattle.place_words.specs.Steps.{lists_under}
use Rattle.place_words.specs.Turns.{after_turn}
use Rattle.place_words.proofs.LockLemmas.{named_by_number}
use Rattle.place_words.proofs.Settled.{turned_here}
use Rattle.turn_order.specs.InCalls.{AreInOrder}
use Rattle.turn_order.specs.Ordered.{interleaved_to}
use Rattle.core_runs.specs.SharedRaces.{Midst, at_rest, SharedAt, midst_after}
use Rattle.core_runs.specs.Words.{Words, words_of, WordsAllow, RunsByWords}
use Rattle.core_runs.proofs.Nests.{goes_on}
use Rattle.core_runs.proofs.RaceLinks.{AllowAlong, AreOnLocks}
use Rattle.core_runs.proofs.RaceRuns.{opening_fits}
use Rattle.core_runs.proofs.SharedCalls.{on_global}
use Rattle.core_runs.proofs.Words.{runs_words}
use Rattle.step_check.specs.Judged.{FlushesListed}
use Rattle.step_check.proofs.TurnsJudged.{JudgedTo}
use Rattle.step_check.proofs.Begun.{Stands, HaveOwnTickets, Held, Made, begun_after, held_first, block_made, alone_before}
use Rattle.step_check.proofs.FreeFlushes.{none_free}
use Rattle.step_check.proofs.GlobalStands.{global_stands}
use Rattle.step_check.proofs.GlobalTurns.{HoldsOnlyIts}
use Rattle.step_check.proofs.HeldRanks.{HoldsOneOfRank, one_over, one_first}
use Rattle.step_check.proofs.Judging.{words_apart}
use Rattle.step_check.proofs.OtherTurns.{other_kept}
use Rattle.step_check.proofs.Reaches.{state_after, words_reached, enabled_both, enabled_apart, placed_after, takes_owners}
use Rattle.step_check.proofs.SharedGoing.{IsOther, stands_middle, AreByCpu, AreOwn, Going, stages_after}
use Rattle.step_check.proofs.SharedStart.{cpu_of_call, by_cpu, all_nested, owns_all, at_first}
use Rattle.step_check.proofs.SharedNests.{Stage, idle}
use Rattle.step_check.proofs.SharedTurns.{Here, shared_here, going_on, refill_around, outer_begun, outer_lock, at_rest_global, freed_there, global_named, local_is, mine}
use Rattle.step_check.proofs.Standing.{Standing, lists_as, turn_block, other_enabled}

pub each_of : (P : ℕ → Type 0) (es : List ℕ) → All P es → (e : ℕ) → 1 ≤ times e es → P e
each_of P [] all e = λ some. absurd (omega (arith, some))
each_of P (x ∷ es) all e = by_test x e (λ b. 1 ≤ cond b (suc (times e es)) (times e es) → P e)
    (λ same _. subst P same (All-head P x es all))
    (λ other some. each_of P es (All-tail P x es all) e some)

pub all_of : (P : ℕ → Type 0) (es : List ℕ) → ((e : ℕ) → 1 ≤ times e es → P e) → All P es
all_of P [] each = All-nil P
all_of P (x ∷ es) each = All-cons P x es (each x (by_test x x (λ b. 1 ≤ cond b (suc (times x es)) (times x es)) (λ _. omega arith) (λ other. absurd (other refl))))
    (all_of P es (λ e some. each e (by_test x e (λ b. 1 ≤ cond b (suc (times e es)) (times e es)) (λ _. omega arith) (λ _. some))))

owned_is : (o : Owner) → o ≢ owners.Free → is_free o ≡ false
owned_is owners.Free other = absurd (other refl)
owned_is (owners.Bucket b) other = refl
owned_is (owners.Hand c) other = refl

module _ {shape : Shape} (bounds : HasBounds shape) (lru : is_lru shape.kind ≡ true) (common : IsTrue shape.common) (cpu_of : ℕ → ℕ) where
  -- A turn at its place, with what is known of the turns, and with the state of the core.
  pub record At (contents : DomainId → Content) (m : Midst) (begun : List ℕ) (before : List Drawn) (x : Drawn) (later : List Drawn) (stage : ℕ → Stage) (s : State) : Type 0 where
    pub going : Going shape cpu_of contents m begun before (x ∷ later) stage
    pub standing : Standing shape contents m s
    pub held : Held shape (words_of s) begun (x ∷ later)
    pub ranks : HoldsOneOfRank shape s.holder
    pub on : AreOnLocks shape (x ∷ later)
    pub allowed : Allows shape x.entry.cpu x.entry.part (contents x.lock)
    pub tickets : HaveOwnTickets (x ∷ later)
    pub its : AreByCpu cpu_of (x ∷ later)
    pub own : AreOwn (x ∷ later)

  module _ (contents : DomainId → Content) (m : Midst) (begun : List ℕ) (before : List Drawn) (x : Drawn) (later : List Drawn) (stage : ℕ → Stage) (s : State) (at : At contents m begun before x later stage s) where
    abbrev pub around : List Drawn
    around = enclosing x later

    abbrev pub now : DomainId → Content
    now = after_turn shape x.entry.cpu contents (turn_of x)

    abbrev pub events : List Event
    events = turn_events shape around begun (lists_in (now x.lock)) x

    made_of : RunsByWords shape (words_of s) events → Made shape (words_of s) (lists_in (now x.lock)) x later begun []
    made_of words = block_made begun (words_of s) (lists_in (now x.lock)) x later [] at.tickets at.held (subst (RunsByWords shape (words_of s)) (sym (append-nil events)) words)

    within_of : RunsByWords shape (words_of s) events → x.entry.cpu < shape.cpus
    unfolding turn_events RunsByWords WordsAllow
    within_of words =
        let first : List Event = map takes (not_begun begun (around ++ x ∷ [])) ++ map does (part_steps shape x.entry.cpu x.lock (bucket_around around) x.entry.part) ++ seen_by x.entry.part in
        (words_apart shape first (does (steps.Give x.entry.cpu x.lock (lists_in (now x.lock))) ∷ []) (words_of s) words).1.0.is_cpu

    here_of : RunsByWords shape (words_of s) events → Here shape cpu_of contents m begun before x later stage
    here_of words =
        let made = made_of words in
        record {
          going = at.going;
          within = within_of words;
          alone = alone_before at.tickets made;
          on = at.on;
          allowed = at.allowed;
          tickets = at.tickets;
          apart = λ y z one other has also same. made.after_it.apart y z one other has also (ap (lock_number shape) same);
          its = at.its;
          own = at.own;
        }

    -- at a turn of the global lists the CPU holds its own local lists, and so no others
    only_its : (flushed : List Flush) (active inactive : List Visit) (free : List ℕ) (shrink : Option ShrinkNote) → x.entry.part ≡ parts.Global (global.Turn flushed active inactive free shrink) → x.lock ≡ Global
        → RunsByWords shape (words_of s) events → HoldsOnlyIts shape x.entry.cpu (state_after shape s (map takes (not_begun begun (around ++ x ∷ []))))
    only_its flushed active inactive free shrink is lock_is words d d_is has =
        let c : ℕ = x.entry.cpu in
        let h = here_of words in
        let made = made_of words in
        let took : List Event = map takes (not_begun begun (around ++ x ∷ [])) in
        let a = refill_around shape lru common cpu_of contents m begun before x later stage h flushed active inactive free shrink is lock_is in
        let there : Stands a.outer later = subst (Stands a.outer) (sym a.later_is) (stands_middle a.between a.outer a.more) in
        let its_lock : a.outer.lock ≡ Local c = outer_lock shape lru common cpu_of contents m begun before x later stage h flushed _ a in
        let its_cpu : a.outer.entry.cpu ≡ c = at.its a.outer (inr there) ∙ ap cpu_of a.its ∙ sym (mine shape lru common cpu_of contents m begun before x later stage h) in
        let run_taken : RunsByWords shape (words_of s) took =
        (words_apart shape took (goes_on shape contents around x []) (words_of s) (subst (RunsByWords shape (words_of s)) (turn_block shape contents begun x later) words)).0 in
        let words_are : words_of (state_after shape s took) ≡ made.taken = words_reached shape took s ∙ sym made.taken_is in
        let mine_held : (state_after shape s took).holder c ≡ Some c =
        ap (λ (w : Words). w.holder c) words_are
        ∙ ap (λ (l : DomainId). made.taken.holder (lock_number shape l)) (sym its_lock)
        ∙ made.at_its_place.held a.outer (inr there) (outer_begun shape lru common cpu_of contents m begun before x later stage h flushed _ a)
        ∙ ap Some its_cpu in
        let one : HoldsOneOfRank shape (state_after shape s took).holder =
        subst (λ (w : Words). HoldsOneOfRank shape w.holder) (sym (words_reached shape took s)) (one_over shape took (words_of s) run_taken at.ranks) in
        one c d c has mine_held
        (ap rank_of (named_by_number shape (Local d) d_is) ∙ sym (ap rank_of (named_by_number shape (Local c) (local_is shape lru common cpu_of c h.within))))

    -- What may be done by words, and flushes nothing that is free, may be done; then it is so again.
    pub turn_made : RunsByWords shape (words_of s) events → FlushesListed (words_of s) x.entry.part
        → AreEnabled shape s events × Standing shape now (midst_after m x.entry.cpu x.lock x.entry.part) (state_after shape s events)
    turn_made words listed = by x.entry.part refl
      where
        h : Here shape cpu_of contents m begun before x later stage
        h = here_of words

        others : IsOther x.entry.part → AreEnabled shape s events × Standing shape now (midst_after m x.entry.cpu x.lock x.entry.part) (state_after shape s events)
        others other =
            let pays : SharedAt shape contents m (among begun x.entry.ticket) x.entry.cpu x.lock x.entry.part =
            shared_here shape lru common cpu_of contents m begun before x later stage h other in
            let enabled = other_enabled bounds lru common at.standing begun x later other at.on.0 pays at.allowed words in
            (enabled, other_kept bounds lru at.standing begun x later other at.on.0 pays at.allowed enabled)

        by : (part : Part) → x.entry.part ≡ part → AreEnabled shape s events × Standing shape now (midst_after m x.entry.cpu x.lock x.entry.part) (state_after shape s events)
        by (parts.Bucket part) is = others (subst IsOther (sym is) tt)
        by (parts.Free part) is = others (subst IsOther (sym is) tt)
        by (parts.Local part) is = others (subst IsOther (sym is) tt)
        by (parts.Global (global.Turn flushed active inactive free shrink)) is =
            let lock_is : x.lock ≡ Global = global_named shape lru common cpu_of contents m begun before x later stage h (global.Turn flushed active inactive free shrink) is in
            let may : Allows shape x.entry.cpu (parts.Global (global.Turn flushed active inactive free shrink)) (contents Global) =
            subst (λ (p : Part). Allows shape x.entry.cpu p (contents Global)) is (subst (λ (l : DomainId). Allows shape x.entry.cpu x.entry.part (contents l)) lock_is at.allowed) in
            global_stands bounds lru common at.standing begun x later flushed active inactive free shrink is lock_is at.allowed (local_is shape lru common cpu_of x.entry.cpu h.within)
            (at_rest_global shape lru common cpu_of contents m begun before x later stage h flushed active inactive free shrink is lock_is)
            (freed_there shape lru common cpu_of contents m begun before x later stage h flushed active inactive free shrink may)
            (only_its flushed active inactive free shrink is lock_is words)
            (λ e some. owned_is (s.owner e) (each_of (λ (y : ℕ). s.owner y ≢ owners.Free) (flushed_elements flushed) (subst (FlushesListed (words_of s)) is listed) e some))
            words
        by (parts.Global (global.Push e)) is = others (subst IsOther (sym is) tt)
        by (parts.Own part) is = others (subst IsOther (sym is) tt)

    -- And what may be done flushes nothing that is free.
    turn_listed : AreEnabled shape s events → FlushesListed (words_of s) x.entry.part
    turn_listed enabled = by x.entry.part refl
      where
        words : RunsByWords shape (words_of s) events
        words = runs_words bounds events s at.standing.fits.placed enabled

        took : List Event
        took = map takes (not_begun begun (around ++ x ∷ []))

        block : AreEnabled shape s took × AreEnabled shape (state_after shape s took) (goes_on shape contents around x [])
        block = enabled_apart shape took (goes_on shape contents around x []) s (subst (AreEnabled shape s) (turn_block shape contents begun x later) enabled)

        by : (part : Part) → x.entry.part ≡ part → FlushesListed (words_of s) x.entry.part
        by (parts.Bucket part) is = subst (FlushesListed (words_of s)) (sym is) (All-nil _)
        by (parts.Free part) is = subst (FlushesListed (words_of s)) (sym is) (All-nil _)
        by (parts.Local part) is = subst (FlushesListed (words_of s)) (sym is) (All-nil _)
        by (parts.Global (global.Turn flushed active inactive free shrink)) is =
            let part : GlobalPart = global.Turn flushed active inactive free shrink in
            let lock_is : x.lock ≡ Global = global_named shape lru common cpu_of contents m begun before x later stage (here_of words) part is in
            let may : Allows shape x.entry.cpu (parts.Global part) (contents Global) =
            subst (λ (p : Part). Allows shape x.entry.cpu p (contents Global)) is (subst (λ (l : DomainId). Allows shape x.entry.cpu x.entry.part (contents l)) lock_is at.allowed) in
            let found = on_global (contents Global) (AllowsOnGlobal part) may in
            let now_is : lists_in (now Global) ≡ set_lists (global_after part found.set) =
            ap lists_in (turned_here shape x.entry.cpu contents (turn_of x) Global (ap (λ (l : DomainId). is_same_lock l Global) lock_is)
            ∙ ap (content_after shape x.entry.cpu x.entry.part) found.lies ∙ ap (λ (p : Part). content_after shape x.entry.cpu p (in_global found.set)) is) in
            let known : AreEnabled shape (state_after shape s took) (map does (global_steps x.entry.cpu part) ++ does (steps.Give x.entry.cpu Global (set_lists (global_after part found.set))) ∷ []) =
            subst (λ (l : Lists). AreEnabled shape (state_after shape s took) (map does (global_steps x.entry.cpu part) ++ does (steps.Give x.entry.cpu Global l) ∷ [])) now_is
            (subst (λ (l : DomainId). AreEnabled shape (state_after shape s took) (map does (global_steps x.entry.cpu part) ++ does (steps.Give x.entry.cpu l (lists_in (now l))) ∷ [])) lock_is
            (subst (λ (p : Part). AreEnabled shape (state_after shape s took) (map does (part_steps shape x.entry.cpu x.lock (bucket_around around) p) ++ (seen_by p ++ does (steps.Give x.entry.cpu x.lock (lists_in (now x.lock))) ∷ []))) is block.1)) in
            subst (FlushesListed (words_of s)) (sym is)
            (all_of (λ (y : ℕ). s.owner y ≢ owners.Free) (flushed_elements flushed)
            (λ e some free_is.
            none_free bounds x.entry.cpu e lru flushed active inactive free shrink found.set (state_after shape s took) [] found.fact (placed_after bounds took s at.standing.fits.placed block.0) known some
            (ap (λ (f : ℕ → Owner). f e) (takes_owners shape (not_begun begun (around ++ x ∷ [])) s) ∙ free_is)))
        by (parts.Global (global.Push e)) is = subst (FlushesListed (words_of s)) (sym is) (All-nil _)
        by (parts.Own part) is = subst (FlushesListed (words_of s)) (sym is) (All-nil _)

    -- the next turn at its place
    pub next_going : RunsByWords shape (words_of s) events → Going shape cpu_of now (midst_after m x.entry.cpu x.lock x.entry.part) (begun_after x later begun) (before ++ x ∷ []) later (stages_after stage x)
    next_going words = going_on shape lru common cpu_of contents m begun before x later stage (here_of words)

    pub next_held : RunsByWords shape (words_of s) events → Held shape (words_of (state_after shape s events)) (begun_after x later begun) later
    next_held words =
        let made = made_of words in
        subst (λ (w : Words). Held shape w (begun_after x later begun) later) (made.now_is ∙ sym (words_reached shape events s)) made.after_it

    pub next_ranks : RunsByWords shape (words_of s) events → HoldsOneOfRank shape (state_after shape s events).holder
    next_ranks words = subst (λ (w : Words). HoldsOneOfRank shape w.holder) (sym (words_reached shape events s)) (one_over shape events (words_of s) words at.ranks)

  pub decided_along : (n : ℕ) (later before : List Drawn) (contents : DomainId → Content) (m : Midst) (begun : List ℕ) (stage : ℕ → Stage) (s : State) → Standing shape contents m s → Held shape (words_of s) begun later → HoldsOneOfRank shape s.holder
      → AreOnLocks shape later → AllowAlong shape contents later → HaveOwnTickets later → AreByCpu cpu_of later → AreOwn later → Going shape cpu_of contents m begun before later stage
      → (JudgedTo n shape contents begun (words_of s) later → AreEnabled shape s (interleaved_to n shape contents begun later))
      × (AreEnabled shape s (interleaved_to n shape contents begun later) → JudgedTo n shape contents begun (words_of s) later)
  unfolding JudgedTo interleaved_to AreEnabled
  decided_along zero later before contents m begun stage s standing held ranks on allow tickets its own going = (λ _. tt, λ _. tt)
  decided_along (suc n) [] before contents m begun stage s standing held ranks on allow tickets its own going = (λ _. tt, λ _. tt)
  decided_along (suc n) (x ∷ later) before contents m begun stage s standing held ranks on allow tickets its own going =
      let at : At contents m begun before x later stage s =
      record { going = going; standing = standing; held = held; ranks = ranks; on = on; allowed = allow.0; tickets = tickets; its = its; own = own } in
      let there : DomainId → Content = after_turn shape x.entry.cpu contents (turn_of x) in
      let block : List Event = turn_events shape (enclosing x later) begun (lists_in (there x.lock)) x in
      let more : List Event = interleaved_to n shape there (begun_after x later begun) later in
      let rest = λ (words : RunsByWords shape (words_of s) block) (made : AreEnabled shape s block × Standing shape there (midst_after m x.entry.cpu x.lock x.entry.part) (state_after shape s block)).
      decided_along n later (before ++ x ∷ []) there (midst_after m x.entry.cpu x.lock x.entry.part) (begun_after x later begun) (stages_after stage x) (state_after shape s block) made.1
      (next_held contents m begun before x later stage s at words) (next_ranks contents m begun before x later stage s at words) on.1 allow.1 tickets.1 (λ z stands. its z (inr stands)) (λ z stands. own z (inr stands))
      (next_going contents m begun before x later stage s at words) in (
        λ judged.
            let made = turn_made contents m begun before x later stage s at judged.1 judged.0 in
            enabled_both shape block more s made.0
            ((rest judged.1 made).0 (subst (λ (w : Words). JudgedTo n shape there (begun_after x later begun) w later) (sym (words_reached shape block s)) judged.2)),
        λ run.
            let both = enabled_apart shape block more s run in
            let words : RunsByWords shape (words_of s) block = runs_words bounds block s standing.fits.placed both.0 in
            let listed : FlushesListed (words_of s) x.entry.part = turn_listed contents m begun before x later stage s at both.0 in
            (listed, words, subst (λ (w : Words). JudgedTo n shape there (begun_after x later begun) w later) (words_reached shape block s) ((rest words (turn_made contents m begun before x later stage s at words listed)).1 both.1)),
      )

-- at the opening of a map
pub stands_first : {shape : Shape} (bounds : HasBounds shape) → Standing shape (opening_content shape) at_rest (opening shape)
stands_first {shape} bounds =
    let first = opening_fits bounds in
    record {
      fits = record { placed = first.placed; chains = first.chains; others = others_are };
      locals = λ c is. record { rest = λ _. (first.others (Local c) is refl, refl, refl); free = λ never. absurd (true≢false (sym never)); rows_are = λ never. absurd (true≢false (sym never)) };
    }
  where
    others_are : (lock : DomainId) → IsTrue (is_lock shape lock) → is_bucket lock ≡ false → lists_under shape (opening shape) lock ≡ lists_as shape (opening shape) (opening_content shape) lock
    others_are (Local c) is list = refl
    others_are Global is list = (opening_fits bounds).others Global is list
    others_are (CpuLru c) is list = (opening_fits bounds).others (CpuLru c) is list
    others_are (Bucket b) is list = absurd (true≢false list)
    others_are (Freelist c) is list = (opening_fits bounds).others (Freelist c) is list

-- The first turns are allowed by words exactly where the core allows them.
pub shared_decided : {shape : Shape} → HasBounds shape → is_lru shape.kind ≡ true → IsTrue shape.common → (turns : List Drawn) → AreOnLocks shape turns → AllowAlong shape (opening_content shape) turns → AreInOrder shape turns → HaveOwnTickets turns → (n : ℕ)
    → (JudgedTo n shape (opening_content shape) [] (words_of (opening shape)) turns → AreEnabled shape (opening shape) (interleaved_to n shape (opening_content shape) [] turns))
    × (AreEnabled shape (opening shape) (interleaved_to n shape (opening_content shape) [] turns) → JudgedTo n shape (opening_content shape) [] (words_of (opening shape)) turns)
shared_decided {shape} bounds lru common turns on allow in_order tickets n =
    decided_along bounds lru common (cpu_of_call turns) n turns [] (opening_content shape) at_rest [] (λ number. idle) (opening shape) (stands_first bounds) (held_first shape (words_of (opening shape)) turns) (one_first shape) on allow tickets
    (by_cpu shape turns in_order) (owns_all shape lru common turns in_order)
    (at_first shape bounds lru common (cpu_of_call turns) turns (all_nested shape lru common turns in_order))
