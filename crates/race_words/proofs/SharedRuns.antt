-- The turns of a race of a map whose CPUs share lists may be made in the order of their tickets, where turns that were made inside others are
-- open until these come, each CPU uses what it has in hand and brings home what it carries, and probes see in hands what is there.
use Rattle.std.proofs.Common.{◌≡◌, ◌≢◌, inl, inr, ℕ, zero, suc, ◌<◌, ◌≤◌, Bool, true, false, List, [], ◌∷◌, ◌++◌, map, Option, Some, refl, ap, ◌∙◌, sym, subst, arith}
use Rattle.std.specs.Prelude.{IsTrue}
use Rattle.std.proofs.lemmas.List.Elements.{All-nil}
use Rattle.map_types.specs.declared.attr.Shape.{Shape}
use Rattle.map_types.specs.declared.kind.DomainId.{DomainId}
use Rattle.map_types.specs.declared.kind.DomainId.TheVariants.{Local, Global, Bucket}
use Rattle.map_types.specs.ElementLists.{put, times}
use Rattle.map_types.specs.Kind.{is_lru}
use Rattle.map_types.specs.Listed.{elements_of}
use Rattle.map_types.specs.Shape.{HasBounds}
use Rattle.map_types.proofs.RowLemmas.{times_append}
use Rattle.place_words.specs.declared.history.Part.{Part}
use Rattle.place_words.specs.declared.history.Part.TheVariants as parts
use Rattle.place_words.specs.declared.home.Home.{Home}
use Rattle.place_words.specs.declared.list_part.GlobalPart.TheVariants as global
use Rattle.place_words.specs.declared.list_part.LocalPart.TheVariants as local
use Rattle.place_words.specs.declared.owner.Owner.{Owner}
use Rattle.place_words.specs.declared.owner.Owner.TheVariants as owners
use Rattle.place_words.specs.declared.step.Lists.{Lists}
use Rattle.place_words.specs.declared.visits.Flush.{Flush}
use Rattle.place_words.specs.declared.visits.ShrinkNote.{ShrinkNote}
use Rattle.place_words.specs.declared.visits.Visit.{Visit}
use Rattle.place_words.specs.Choices.{among}
use Rattle.place_words.specs.Globals.{flush_visit, flushed_elements}
use Rattle.place_words.specs.Histories.{Content, Allows}
use Rattle.place_words.specs.Interleaving.{Drawn, turn_of, Event, enclosing, bucket_around, lists_in, part_steps, seen_by, takes, not_begun, turn_events, AreEnabled}
use Rattle.place_words.specs.Locals.{AllowsOnLocal}
use Rattle.place_words.specs.Locks.{is_lock, is_same_lock, lock_number}
use Rattle.place_words.specs.Openings.{is_free}
use Rattle.place_words.specs.State.{State, rows}
use Rattle.place_words.specs.Takings.{freed_by}
use Rattle.place_words.specs.Turns.{Turn, after_turn}
use Rattle.place_words.proofs.ElementLemmas.{at_put, put_here, put_else}
use Rattle.place_words.proofs.KeepLaws.{times_turned}
use Rattle.place_words.proofs.Settled.{turned_elsewhere}
use Rattle.turn_order.specs.Ordered.{interleaved_to}
use Rattle.core_runs.specs.SharedRaces.{Midst, SharedAt, midst_after}
use Rattle.core_runs.specs.Words.{Words, RunsByWords, words_of}
use Rattle.core_runs.proofs.Fits.{Fits}
use Rattle.core_runs.proofs.Nests.{goes_on}
use Rattle.core_runs.proofs.RaceLinks.{AllowAlong, AreOnLocks}
use Rattle.core_runs.proofs.RaceRuns.{bases}
use Rattle.core_runs.proofs.Reduced.{none}
use Rattle.core_runs.proofs.SharedCalls.{on_locals}
use Rattle.step_check.specs.Judged.{FlushesListed}
use Rattle.step_check.specs.Ran.{words_over}
use Rattle.step_check.proofs.Begun.{Stands, HaveOwnTickets, Held, Made, begun_after, alone_before, stands_left, stands_right}
use Rattle.step_check.proofs.HeldRanks.{HoldsOneOfRank}
use Rattle.step_check.proofs.Judging.{words_both}
use Rattle.step_check.proofs.LockSorts.{IsBucketLock, bucket_lock, part_sort}
use Rattle.step_check.proofs.Reaches.{state_after, words_reached, state_behind, enabled_both, takes_homes, takes_owners}
use Rattle.step_check.proofs.SharedDecided.{At, all_of, turn_made, next_going, next_held, next_ranks}
use Rattle.step_check.proofs.SharedGoing.{IsOther, AreByCpu, AreOwn, Going, stages_after}
use Rattle.step_check.proofs.SharedNests.{Stage}
use Rattle.step_check.proofs.SharedTurns.{Here, shared_here, refill_around, outer_lock, at_rest_global, freed_there, global_named, local_is, visit_names}
use Rattle.step_check.proofs.Standing.{Standing, MidLists, lists_as, turn_block}
use Rattle.race_words.proofs.Inner.{AreOpen}
use Rattle.race_words.proofs.ListHands.{leaves, next_counts, Mode, mode_after, carries, Carried, MayCounts}
use Rattle.race_words.proofs.ListTogether.{CountsAlong}
use Rattle.race_words.proofs.OwnRuns.{LooksAlong, sees_alike}
use Rattle.race_words.proofs.OwnWords.{CountsIn, SeesHeld, word_of}
use Rattle.race_words.proofs.PlainRuns.{AreByCpus, found_now, takes_lead}
use Rattle.race_words.proofs.PlainSteps.{LeadTo}
use Rattle.race_words.proofs.SharedSteps.{Under, row_home, bucket_at, local_at, push_at, global_at}
use Rattle.race_words.proofs.SharedWords.{Carrying, SharedWorded}
use Rattle.race_words.proofs.Taken.{Holding, takes_run, lock_held, made_here, holding_after}

-- what CPUs carry
abbrev pub loads_of : (ℕ → Mode) → ℕ → Option ℕ
loads_of modes c = (modes c).carry

carrying_alike : {shape : Shape} {w : Words} (loads other : ℕ → Option ℕ) → ((c : ℕ) → loads c ≡ other c) → Carrying shape loads w → Carrying shape other w
carrying_alike loads other same carrying = record {
  carried = λ c e is. carrying.carried c e (same c ∙ is);
  only = λ c e real home. sym (same c) ∙ carrying.only c e real home;
}

loads_put : (modes : ℕ → Mode) (cpu : ℕ) (mode : Mode) (c : ℕ) → put (loads_of modes) cpu mode.carry c ≡ loads_of (put modes cpu mode) c
loads_put modes cpu mode c =
    at_put modes cpu mode (λ d o. put (loads_of modes) cpu mode.carry d ≡ o.carry) c (put_here (loads_of modes) cpu mode.carry) (λ other. put_else (loads_of modes) cpu mode.carry c other)

no_free_bool : {A : Type 0} → (◌≡◌ {A = Bool} true false) → A
no_free_bool is = absurd cc

-- what a refill flushes was pending
flushed_pending : (shape : Shape) (cpu : ℕ) (content : Content) (key : ℕ) (flushed : List Flush) (gained : List ℕ) (got : Option ℕ) → Allows shape cpu (parts.Local (local.Refill key (map flush_visit flushed) gained got)) content
    → (e : ℕ) → times e (flushed_elements flushed) ≤ times e (rows (lists_in content))
flushed_pending shape cpu content key flushed gained got allowed e =
    let found = on_locals content (AllowsOnLocal shape (local.Refill key (map flush_visit flushed) gained got)) allowed in
    omega (
      arith,
      ap (times e) (visit_names flushed),
      ap (times e) found.fact.1,
      times_turned e (elements_of found.lists.pending),
      ap (λ (c : Content). times e (rows (lists_in c))) found.lies,
      times_append e (elements_of found.lists.pending) [],
    )

module _ {shape : Shape} (bounds : HasBounds shape) (lru : is_lru shape.kind ≡ true) (common : IsTrue shape.common) (cpu_of : ℕ → ℕ) where
  module _ (contents : DomainId → Content) (m : Midst) (begun : List ℕ) (before : List Drawn) (x : Drawn) (later : List Drawn) (stage : ℕ → Stage) (s : State) (at : At bounds lru common cpu_of contents m begun before x later stage s)
      (hands : ℕ → ℕ → ℕ) (modes : ℕ → Mode) (opened : AreOpen (x ∷ later)) (within : x.entry.cpu < shape.cpus) (allow : AllowAlong shape contents (x ∷ later)) (may : MayCounts (hands x.entry.cpu) (modes x.entry.cpu) x.entry.part)
      (looks : SeesHeld (words_of s) x.entry.part) (holding : Holding shape (words_of s) begun (x ∷ later)) (counts : CountsIn shape hands (words_of s)) (carrying : Carrying shape (loads_of modes) (words_of s)) where
    abbrev around : List Drawn
    around = enclosing x later

    abbrev now : DomainId → Content
    now = after_turn shape x.entry.cpu contents (turn_of x)

    abbrev ts : List Drawn
    ts = not_begun begun (around ++ x ∷ [])

    abbrev block : List Event
    block = turn_events shape around begun (lists_in (now x.lock)) x

    abbrev word : List Event
    word = goes_on shape contents around x []

    abbrev lists : Lists
    lists = lists_in (now x.lock)

    abbrev cpu : ℕ
    cpu = x.entry.cpu

    made : Made shape (words_of s) lists x later begun []
    made = made_here at.on at.tickets opened holding lists

    here : Here shape cpu_of contents m begun before x later stage
    here = record {
      going = at.going;
      within = within;
      alone = alone_before at.tickets made;
      on = at.on;
      allowed = at.allowed;
      tickets = at.tickets;
      apart = λ y z one other has also same. made.after_it.apart y z one other has also (ap (lock_number shape) same);
      its = at.its;
      own = at.own;
    }

    taken : LeadTo shape (Fits shape (bases contents) none none (lists_as shape s contents)) s (map takes ts)
    taken = takes_lead bounds ts s at.standing.fits (takes_run at.on at.tickets opened holding within)

    abbrev t : State
    t = state_after shape s (map takes ts)

    under_t : Under shape contents m t
    under_t = record {
      placed = taken.1.placed;
      chains = λ b is e. omega (arith, taken.1.chains b is e);
      globals = λ is. taken.1.others Global is refl;
      locals = λ c is. subst (λ (l : Lists). MidLists l (lists_in (contents (Local c))) (m.busy c) (m.got c) (m.sent c)) (sym (taken.1.others (Local c) is refl)) (at.standing.locals c is);
    }

    counts_t : CountsIn shape hands (words_of t)
    counts_t = record {
      held = λ c e some. let has = counts.held c e some in (has.0, ap (λ (f : ℕ → Owner). f e) (takes_owners shape ts s) ∙ has.1);
      once = counts.once;
    }

    carrying_t : Carrying shape (loads_of modes) (words_of t)
    carrying_t = record {
      carried = λ c e is. let has = carrying.carried c e is in (has.0, ap (λ (f : ℕ → Home). f e) (takes_homes shape ts s) ∙ has.1);
      only = λ c e real home. carrying.only c e real (sym (ap (λ (f : ℕ → Home). f e) (takes_homes shape ts s)) ∙ home);
    }

    held_at : (y : Drawn) → Stands y (around ++ x ∷ []) → t.holder (lock_number shape y.lock) ≡ Some cpu
    held_at y there = ap (λ (w : Words). w.holder (lock_number shape y.lock)) (words_reached shape (map takes ts) s) ∙ lock_held at.on at.tickets opened holding y there

    held_x : t.holder (lock_number shape x.lock) ≡ Some cpu
    held_x = held_at x (stands_right x around (x ∷ []) (inl refl))

    looks_t : SeesHeld (words_of t) x.entry.part
    looks_t = sees_alike (words_of s) (words_of t) x.entry.part (sym (takes_owners shape ts s)) looks

    -- what a turn of the global lists flushes was pending on the CPU's lists
    pending : (flushed : List Flush) (active inactive : List Visit) (free : List ℕ) (shrink : Option ShrinkNote) → x.entry.part ≡ parts.Global (global.Turn flushed active inactive free shrink) → x.lock ≡ Global
        → (e : ℕ) → times e (flushed_elements flushed) ≤ times e (rows (lists_in (contents (Local cpu))))
    pending flushed active inactive free shrink is lock_is e =
        let a = refill_around shape lru common cpu_of contents m begun before x later stage here flushed active inactive free shrink is lock_is in
        let its_lock : a.outer.lock ≡ Local cpu = outer_lock shape lru common cpu_of contents m begun before x later stage here flushed _ a in
        let there : Stands a.outer around = subst (Stands a.outer) (sym a.around_is) (inl refl) in
        let now_allowed : Allows shape a.outer.entry.cpu a.outer.entry.part (now a.outer.lock) = found_now shape (λ z. Stands z around) now a.outer later (opened.0 a.outer there) allow.1 in
        let lists_now : now (Local cpu) ≡ contents (Local cpu) = turned_elsewhere shape cpu contents (turn_of x) (Local cpu) (ap (λ (l : DomainId). is_same_lock l (Local cpu)) lock_is) in
        let may_refill : Allows shape a.outer.entry.cpu (parts.Local (local.Refill a.fills.key (map flush_visit flushed) (free ++ freed_by shrink) a.fills.got)) (contents (Local cpu)) =
        subst (Allows shape a.outer.entry.cpu (parts.Local (local.Refill a.fills.key (map flush_visit flushed) (free ++ freed_by shrink) a.fills.got))) lists_now
        (subst (λ (l : DomainId). Allows shape a.outer.entry.cpu (parts.Local (local.Refill a.fills.key (map flush_visit flushed) (free ++ freed_by shrink) a.fills.got)) (now l)) its_lock
        (subst (λ (p : Part). Allows shape a.outer.entry.cpu p (now a.outer.lock)) (ap (λ (u : Turn). u.part) a.fills.turn_is) now_allowed)) in
        flushed_pending shape a.outer.entry.cpu (contents (Local cpu)) a.fills.key flushed (free ++ freed_by shrink) a.fills.got may_refill e

    -- the refill's lock is held
    outer_held : (flushed : List Flush) (active inactive : List Visit) (free : List ℕ) (shrink : Option ShrinkNote) → x.entry.part ≡ parts.Global (global.Turn flushed active inactive free shrink) → x.lock ≡ Global
        → t.holder (lock_number shape (Local cpu)) ≡ Some cpu
    outer_held flushed active inactive free shrink is lock_is =
        let a = refill_around shape lru common cpu_of contents m begun before x later stage here flushed active inactive free shrink is lock_is in
        let its_lock : a.outer.lock ≡ Local cpu = outer_lock shape lru common cpu_of contents m begun before x later stage here flushed _ a in
        let there : Stands a.outer around = subst (Stands a.outer) (sym a.around_is) (inl refl) in
        subst (λ (l : DomainId). t.holder (lock_number shape l) ≡ Some cpu) its_lock (held_at a.outer (stands_left a.outer around (x ∷ []) there))

    abbrev Here_worded : Part → DomainId → Type 0
    Here_worded part lock = SharedWorded shape cpu hands (loads_of modes) part (words_of t) (word_of cpu lock lists (part_steps shape cpu lock (bucket_around around) part) (seen_by part))

    other_pays : (part : Part) → x.entry.part ≡ part → IsOther part → SharedAt shape contents m (among begun x.entry.ticket) cpu x.lock part
    other_pays part is other =
        subst (SharedAt shape contents m (among begun x.entry.ticket) cpu x.lock) is (shared_here shape lru common cpu_of contents m begun before x later stage here (subst IsOther (sym is) other))

    allowed_on : (part : Part) → x.entry.part ≡ part → (lock : DomainId) → x.lock ≡ lock → Allows shape cpu part (contents lock)
    allowed_on part is lock lock_is = subst (λ (l : DomainId). Allows shape cpu part (contents l)) lock_is (subst (λ (p : Part). Allows shape cpu p (contents x.lock)) is at.allowed)

    has_of : (part : Part) → x.entry.part ≡ part → (e : ℕ) → times e (leaves part) ≤ hands cpu e
    has_of part is = subst (λ (p : Part). (e : ℕ) → times e (leaves p) ≤ hands cpu e) is may.has

    load_of : (part : Part) → x.entry.part ≡ part → Carried (loads_of modes cpu) part
    load_of part is = subst (Carried (loads_of modes cpu)) is may.carried

    held_on : (lock : DomainId) → x.lock ≡ lock → t.holder (lock_number shape lock) ≡ Some cpu
    held_on lock lock_is = subst (λ (l : DomainId). t.holder (lock_number shape l) ≡ Some cpu) lock_is held_x

    lock_on : (lock : DomainId) → x.lock ≡ lock → IsTrue (is_lock shape lock)
    lock_on lock lock_is = subst (λ (l : DomainId). IsTrue (is_lock shape l)) lock_is at.on.0

    worded_of : (part : Part) → x.entry.part ≡ part → Here_worded part x.lock
    worded_of (parts.Bucket part) is =
        let named : IsBucketLock x.lock = bucket_lock x.lock (part_sort shape cpu (parts.Bucket part) x.lock contents at.going.sorted (allowed_on (parts.Bucket part) is x.lock refl)) in
        subst (Here_worded (parts.Bucket part)) (sym named.is)
        (bucket_at bounds lru common under_t within counts_t carrying_t named.bucket part lists (lock_on (Bucket named.bucket) named.is) (allowed_on (parts.Bucket part) is (Bucket named.bucket) named.is) (held_on (Bucket named.bucket) named.is)
        (has_of (parts.Bucket part) is) (load_of (parts.Bucket part) is) (subst (SeesHeld (words_of t)) is looks_t) (bucket_around around))
    worded_of (parts.Free part) is = absurd (other_pays (parts.Free part) is tt)
    worded_of (parts.Local part) is =
        let pays = other_pays (parts.Local part) is tt in
        subst (Here_worded (parts.Local part)) (sym pays.lock_is)
        (local_at bounds lru common under_t within counts_t carrying_t pays.cpu lists pays.there (held_on (Local pays.cpu) pays.lock_is) (among begun x.entry.ticket) part pays.pays
        (allowed_on (parts.Local part) is (Local pays.cpu) pays.lock_is) (has_of (parts.Local part) is) (load_of (parts.Local part) is) (bucket_around around))
    worded_of (parts.Global (global.Turn flushed active inactive free shrink)) is =
        let lock_is : x.lock ≡ Global = global_named shape lru common cpu_of contents m begun before x later stage here (global.Turn flushed active inactive free shrink) is in
        let allowed = allowed_on (parts.Global (global.Turn flushed active inactive free shrink)) is Global lock_is in
        subst (Here_worded (parts.Global (global.Turn flushed active inactive free shrink))) (sym lock_is)
        (global_at bounds lru common under_t within counts_t carrying_t lists (lock_on Global lock_is) (held_on Global lock_is) flushed active inactive free shrink allowed
        (local_is shape lru common cpu_of cpu within) (outer_held flushed active inactive free shrink is lock_is)
        (at_rest_global shape lru common cpu_of contents m begun before x later stage here flushed active inactive free shrink is lock_is)
        (pending flushed active inactive free shrink is lock_is)
        (freed_there shape lru common cpu_of contents m begun before x later stage here flushed active inactive free shrink allowed)
        (has_of (parts.Global (global.Turn flushed active inactive free shrink)) is) (load_of (parts.Global (global.Turn flushed active inactive free shrink)) is) (bucket_around around))
    worded_of (parts.Global (global.Push e)) is =
        let lock_is : x.lock ≡ Global = global_named shape lru common cpu_of contents m begun before x later stage here (global.Push e) is in
        subst (Here_worded (parts.Global (global.Push e))) (sym lock_is)
        (push_at bounds lru common under_t within counts_t carrying_t lists (lock_on Global lock_is) (held_on Global lock_is) e (allowed_on (parts.Global (global.Push e)) is Global lock_is)
        (has_of (parts.Global (global.Push e)) is) (load_of (parts.Global (global.Push e)) is) (bucket_around around))
    worded_of (parts.Own part) is = absurd (other_pays (parts.Own part) is tt)

    worded : SharedWorded shape cpu hands (loads_of modes) x.entry.part (words_of t) word
    worded = worded_of x.entry.part refl

    pub words_here : RunsByWords shape (words_of s) block
    words_here =
        subst (RunsByWords shape (words_of s)) (sym (turn_block shape contents begun x later))
        (words_both shape (map takes ts) word (words_of s) (takes_run at.on at.tickets opened holding within)
        (subst (λ (w : Words). RunsByWords shape w word) (words_reached shape (map takes ts) s) worded.runs))

    listed_of : (part : Part) → x.entry.part ≡ part → FlushesListed (words_of s) part
    listed_of (parts.Bucket part) is = All-nil _
    listed_of (parts.Free part) is = All-nil _
    listed_of (parts.Local part) is = All-nil _
    listed_of (parts.Global (global.Turn flushed active inactive free shrink)) is =
        let lock_is : x.lock ≡ Global = global_named shape lru common cpu_of contents m begun before x later stage here (global.Turn flushed active inactive free shrink) is in
        let rests = at_rest_global shape lru common cpu_of contents m begun before x later stage here flushed active inactive free shrink is lock_is in
        let mine_is : IsTrue (is_lock shape (Local cpu)) = local_is shape lru common cpu_of cpu within in
        all_of (λ (y : ℕ). s.owner y ≢ owners.Free) (flushed_elements flushed)
        (λ e some free_is.
        let row = row_home bounds lru common at.standing.fits.placed (Local cpu) e mine_is refl
        (omega (arith, some, pending flushed active inactive free shrink is lock_is e, ap (λ (l : Lists). times e (rows l)) ((at.standing.locals cpu mine_is).rest rests).0)) in
        no_free_bool (sym (ap is_free free_is) ∙ row.1))
    listed_of (parts.Global (global.Push e)) is = All-nil _
    listed_of (parts.Own part) is = All-nil _

    pub listed_here : FlushesListed (words_of s) x.entry.part
    listed_here = listed_of x.entry.part refl

    then_is : state_after shape s block ≡ state_after shape t word
    then_is = ap (state_after shape s) (turn_block shape contents begun x later) ∙ state_behind shape (map takes ts) word s

    words_are : words_of (state_after shape s block) ≡ words_over shape (words_of t) word
    words_are = ap words_of then_is ∙ words_reached shape word t

    pub shared_counts : CountsIn shape (put hands cpu (next_counts (hands cpu) x.entry.part)) (words_of (state_after shape s block))
    shared_counts = subst (CountsIn shape (put hands cpu (next_counts (hands cpu) x.entry.part))) (sym words_are) worded.counts

    pub shared_carrying : Carrying shape (loads_of (put modes cpu (mode_after x.entry.part))) (words_of (state_after shape s block))
    shared_carrying =
        carrying_alike (put (loads_of modes) cpu (carries x.entry.part)) (loads_of (put modes cpu (mode_after x.entry.part))) (loads_put modes cpu (mode_after x.entry.part))
        (subst (Carrying shape (put (loads_of modes) cpu (carries x.entry.part))) (sym words_are) worded.carrying)

    pub shared_holding : Holding shape (words_of (state_after shape s block)) (begun_after x later begun) later
    shared_holding = subst (λ (w : Words). Holding shape w (begun_after x later begun) later) (made.now_is ∙ sym (words_reached shape block s)) (holding_after at.on at.tickets opened holding made)

  pub shared_goes : (n : ℕ) (later before : List Drawn) (contents : DomainId → Content) (m : Midst) (begun : List ℕ) (stage : ℕ → Stage) (hands : ℕ → ℕ → ℕ) (modes : ℕ → Mode) (s : State)
      → Standing shape contents m s → Held shape (words_of s) begun later → HoldsOneOfRank shape s.holder → AreOnLocks shape later → AllowAlong shape contents later → HaveOwnTickets later → AreByCpu cpu_of later → AreOwn later
      → Going shape cpu_of contents m begun before later stage → AreOpen later → AreByCpus shape later → CountsAlong hands modes later → LooksAlong shape contents begun (words_of s) later → Holding shape (words_of s) begun later
      → CountsIn shape hands (words_of s) → Carrying shape (loads_of modes) (words_of s) → AreEnabled shape s (interleaved_to n shape contents begun later)
  unfolding interleaved_to AreEnabled LooksAlong
  shared_goes zero later before contents m begun stage hands modes s standing held ranks on allow tickets its own going opened cpus may looks holding counts carrying = tt
  shared_goes (suc n) [] before contents m begun stage hands modes s standing held ranks on allow tickets its own going opened cpus may looks holding counts carrying = tt
  shared_goes (suc n) (x ∷ later) before contents m begun stage hands modes s standing held ranks on allow tickets its own going opened cpus may looks holding counts carrying =
      let at : At bounds lru common cpu_of contents m begun before x later stage s =
      record { going = going; standing = standing; held = held; ranks = ranks; on = on; allowed = allow.0; tickets = tickets; its = its; own = own } in
      let there : DomainId → Content = after_turn shape x.entry.cpu contents (turn_of x) in
      let block : List Event = turn_events shape (enclosing x later) begun (lists_in (there x.lock)) x in
      let words : RunsByWords shape (words_of s) block = words_here contents m begun before x later stage s at hands modes opened cpus.0 allow may.0 looks.0 holding counts carrying in
      let listed : FlushesListed (words_of s) x.entry.part = listed_here contents m begun before x later stage s at hands modes opened cpus.0 allow may.0 looks.0 holding counts carrying in
      let made = turn_made bounds lru common cpu_of contents m begun before x later stage s at words listed in
      enabled_both shape block (interleaved_to n shape there (begun_after x later begun) later) s made.0
      (shared_goes n later (before ++ x ∷ []) there (midst_after m x.entry.cpu x.lock x.entry.part) (begun_after x later begun) (stages_after stage x) (put hands x.entry.cpu (next_counts (hands x.entry.cpu) x.entry.part))
      (put modes x.entry.cpu (mode_after x.entry.part)) (state_after shape s block) made.1
      (next_held bounds lru common cpu_of contents m begun before x later stage s at words) (next_ranks bounds lru common cpu_of contents m begun before x later stage s at words) on.1 allow.1 tickets.1
      (λ z stands. its z (inr stands)) (λ z stands. own z (inr stands)) (next_going bounds lru common cpu_of contents m begun before x later stage s at words) opened.1 cpus.1 may.1
      (subst (λ (w : Words). LooksAlong shape there (begun_after x later begun) w later) (sym (words_reached shape block s)) looks.1)
      (shared_holding contents m begun before x later stage s at hands modes opened cpus.0 allow may.0 looks.0 holding counts carrying)
      (shared_counts contents m begun before x later stage s at hands modes opened cpus.0 allow may.0 looks.0 holding counts carrying)
      (shared_carrying contents m begun before x later stage s at hands modes opened cpus.0 allow may.0 looks.0 holding counts carrying))
