-- One turn of a race on a map whose CPUs share lists: it is such as words decide, and what is known before it is known after it.
use Rattle.std.proofs.Common.{◌≡◌, ◌≢◌, ◌⊎◌, ℕ, ◌+◌, ◌<◌, ◌≤◌, Bool, true, false, not, ◌&&◌, ltb, List, [], ◌∷◌, ◌++◌, map, refl, ap, ◌∙◌, sym, subst, inl, inr, ⊎_elim, arith}
use Rattle.std.specs.Prelude.{IsTrue, Option}
use Rattle.std.proofs.lemmas.Bool.{cases_Bool, true≢false, and_from, lt-ltb}
use Rattle.map_types.specs.declared.attr.Shape.{Shape}
use Rattle.map_types.specs.declared.kind.DomainId.{DomainId}
use Rattle.map_types.specs.declared.kind.DomainId.TheVariants.{Local, Global}
use Rattle.map_types.specs.Kind.{is_lru}
use Rattle.map_types.specs.ElementLists.{put, times}
use Rattle.place_words.specs.declared.bucket_part.BucketPart.{BucketPart}
use Rattle.place_words.specs.declared.bucket_part.BucketPart.TheVariants.{Lookup, Update, Delete, Take, Next, First, Walk, Evict}
use Rattle.place_words.specs.declared.history.Part.{Part}
use Rattle.place_words.specs.declared.history.Part.TheVariants as parts
use Rattle.place_words.specs.declared.list_part.GlobalPart.{GlobalPart}
use Rattle.place_words.specs.declared.list_part.GlobalPart.TheVariants as global
use Rattle.place_words.specs.declared.list_part.LocalPart.{LocalPart}
use Rattle.place_words.specs.declared.list_part.LocalPart.TheVariants as local
use Rattle.place_words.specs.declared.list_part.Stolen.{Stolen}
use Rattle.place_words.specs.declared.list_part.Stolen.TheVariants as stolen
use Rattle.place_words.specs.declared.visits.Flush.{Flush}
use Rattle.place_words.specs.declared.visits.ShrinkNote.{ShrinkNote}
use Rattle.place_words.specs.declared.visits.Visit.{Visit}
use Rattle.place_words.specs.Choices.{among}
use Rattle.place_words.specs.Globals.{AllowsOnGlobal, flush_visit, flushed_elements}
use Rattle.place_words.specs.Histories.{Content, in_bucket, on_freelist, in_locals, in_global, in_own, content_after, Allows}
use Rattle.place_words.specs.Locks.{is_lock, is_same_lock, rank_of}
use Rattle.place_words.specs.Rotation.{visited_elements}
use Rattle.place_words.specs.RowMoves.{IsOnce}
use Rattle.place_words.specs.State.{rows}
use Rattle.place_words.specs.Takings.{freed_by}
use Rattle.place_words.specs.Turns.{Turn, after_turn}
use Rattle.place_words.specs.Interleaving.{Drawn, turn_of, entry_of, drawn_on, enclosing, lists_in, tickets_of}
use Rattle.place_words.proofs.ElementLemmas.{at_put, put_here, put_else}
use Rattle.place_words.proofs.LockLemmas.{one_lock}
use Rattle.place_words.proofs.Settled.{turned_here, turned_elsewhere}
use Rattle.turn_order.specs.InCalls.{place}
use Rattle.core_runs.specs.Races.{left_inside}
use Rattle.core_runs.specs.SharedRaces.{Midst, IsStolenThere, LocalPays, SharedAt, midst_after}
use Rattle.core_runs.proofs.RaceLinks.{AreOnLocks}
use Rattle.core_runs.proofs.SharedCalls.{on_global}
use Rattle.step_check.proofs.Begun.{Stands, HaveOwnTickets, begun_after, HasTicket, by_ticket, stands_around, begun_by, around_begun, before_begun}
use Rattle.step_check.proofs.SharedAround.{rest_of, Around, filled_around, NoAddition, HasRank, around_adds}
use Rattle.step_check.proofs.SharedCounts.{global_once, freed_listed, stolen_pending}
use Rattle.step_check.proofs.SharedGoing.{IsOther, AreByCpu, AreOwn, OwnBrings, Filling, FillingAt, Whose, Going, HeadNest, nest_head, nest_tail, stages_after, first_of, Behind, SameMidst, midst_else, stands_middle, one_cpu}
use Rattle.step_check.proofs.SharedNests.{Stage, idle, probing, filled, stage_after, Alone, Probed, Fills, May, AreNested}
use Rattle.step_check.proofs.LockSorts.{sort_of_part, sort_of_lock, sort_of_content, IsLocalLock, sorts_after, part_sort, bucket_lock, freelist_lock, set_lock, local_lock, global_lock}

-- the turn at whose place a race is, with what is known of it
pub record Here (shape : Shape) (cpu_of : ℕ → ℕ) (contents : DomainId → Content) (m : Midst) (begun : List ℕ) (before : List Drawn) (x : Drawn) (later : List Drawn) (stage : ℕ → Stage) : Type 0 where
  pub going : Going shape cpu_of contents m begun before (x ∷ later) stage
  pub within : x.entry.cpu < shape.cpus
  pub alone : (y : Drawn) → Stands y later → among begun y.entry.ticket ≡ true → y.lock ≢ x.lock
  pub on : AreOnLocks shape (x ∷ later)
  pub allowed : Allows shape x.entry.cpu x.entry.part (contents x.lock)
  pub tickets : HaveOwnTickets (x ∷ later)
  pub apart : (y z : Drawn) → Stands y later → Stands z later → among (begun_after x later begun) y.entry.ticket ≡ true → among (begun_after x later begun) z.entry.ticket ≡ true → y.lock ≡ z.lock → y ≡ z
  pub its : AreByCpu cpu_of (x ∷ later)
  pub own : AreOwn (x ∷ later)

is_refill : Part → Bool
is_refill (parts.Bucket part) = false
is_refill (parts.Free part) = false
is_refill (parts.Local (local.Pop key e)) = false
is_refill (parts.Local (local.Refill key flushed gained got)) = true
is_refill (parts.Local (local.Steal got first second)) = false
is_refill (parts.Local (local.Add key e cursor)) = false
is_refill (parts.Local (local.Push e done)) = false
is_refill (parts.Global part) = false
is_refill (parts.Own part) = false

left_none : (part : BucketPart) → left_inside true part ≡ []
left_none (Lookup side key got) = refl
left_none (Update side flags key value offer put) = refl
left_none (Delete key removed) = refl
left_none (Take key removed) = refl
left_none (Next key next) = refl
left_none (First key) = refl
left_none (Walk remove room result) = refl
left_none (Evict e probed) = refl

pub visit_names : (flushed : List Flush) → visited_elements (map flush_visit flushed) ≡ flushed_elements flushed
visit_names [] = refl
visit_names (flush ∷ flushed) = ap (λ (l : List ℕ). flush.element ∷ l) (visit_names flushed)

gained_in : Part → List ℕ
gained_in (parts.Local (local.Refill key flushed gained got)) = gained
gained_in _ = []

flushed_in : Part → List Visit
flushed_in (parts.Local (local.Refill key flushed gained got)) = flushed
flushed_in _ = []

pub no_own : (common : Bool) (lru within : Bool) → common ≡ true → ((lru && not common) && within) ≡ true → ⊥
no_own common lru within is there = by lru (subst (λ (b : Bool). ((lru && not b) && within) ≡ true) is there)
  where
    by : (lru : Bool) → ((lru && false) && within) ≡ true → ⊥
    by true none = true≢false (sym none)
    by false none = true≢false (sym none)

pub no_free : (lru within : Bool) → lru ≡ true → (not lru && within) ≡ true → ⊥
no_free lru within is there = true≢false (sym (subst (λ (b : Bool). (not b && within) ≡ true) is there))

module _ (shape : Shape) (lru : is_lru shape.kind ≡ true) (common : IsTrue shape.common) (cpu_of : ℕ → ℕ) where
  pub local_is : (cpu : ℕ) → cpu < shape.cpus → IsTrue (is_lock shape (Local cpu))
  local_is cpu within = and_from shape.common (ltb cpu shape.cpus) common (lt-ltb cpu shape.cpus within)

  module _ (contents : DomainId → Content) (m : Midst) (begun : List ℕ) (before : List Drawn) (x : Drawn) (later : List Drawn) (stage : ℕ → Stage) (h : Here shape cpu_of contents m begun before x later stage) where
    abbrev pub number : ℕ
    number = x.entry.call

    pub mine : x.entry.cpu ≡ cpu_of x.entry.call
    mine = h.its x (inl refl)

    nest : HeadNest shape cpu_of stage before x later
    nest = nest_head shape cpu_of stage before x later h.going.nests

    its_sort : (part : Part) → Allows shape x.entry.cpu part (contents x.lock) → sort_of_part part ≡ sort_of_lock x.lock
    its_sort part allowed = part_sort shape x.entry.cpu part x.lock contents h.going.sorted allowed

    -- the refill of a call that is in one
    its_filling : (n : ℕ) (flushed : List Flush) (gained : List ℕ) → stage n ≡ filled flushed gained → Filling m begun (cpu_of n) n flushed gained (x ∷ later)
    its_filling n flushed gained is = subst (FillingAt m begun (cpu_of n) n (x ∷ later)) is (h.going.fillings n)

    -- while a CPU's lists are busy, the one turn of them is the refill itself
    busy_refill : (d : ℕ) → x.lock ≡ Local d → m.busy d ≡ true → is_refill x.entry.part ≡ true
    unfolding is_refill
    busy_refill d lock_is busy =
        let who = h.going.whose d busy in
        let f = its_filling who.number who.flushed who.gained who.stage_is in
        let outer_lock : f.outer.lock ≡ x.lock = ap (λ (t : Turn). t.lock) f.turn_is ∙ ap (λ (n : ℕ). Local n) who.cpu_is ∙ sym lock_is in
        ⊎_elim
        (λ (same : x ≡ f.outer). ap (λ (d : Drawn). is_refill d.entry.part) same ∙ ap (λ (t : Turn). is_refill t.part) f.turn_is)
        (λ (behind : Behind x later f.between f.outer f.more).
        absurd (h.alone f.outer (subst (Stands f.outer) (sym behind.later_is) (stands_middle behind.rest f.outer f.more)) f.begun_is outer_lock))
        (first_of x later f.between f.outer f.more f.later_is)

    at_rest_here : (d : ℕ) (part : Part) → x.entry.part ≡ part → is_refill part ≡ false → x.lock ≡ Local d → m.busy d ≡ false
    at_rest_here d part is none lock_is =
        ⊎_elim
        (λ (busy : m.busy d ≡ true). absurd (true≢false (sym (busy_refill d lock_is busy) ∙ ap is_refill is ∙ none)))
        (λ (rest : m.busy d ≡ false). rest)
        (cases_Bool (m.busy d))

    -- at a refill its call is in it
    refill_stage : (key : ℕ) (flushed : List Visit) (gained : List ℕ) (got : Option ℕ) (d : ℕ) → x.entry.part ≡ parts.Local (local.Refill key flushed gained got) → x.lock ≡ Local d
        → (s : Stage) → stage number ≡ s → May shape (cpu_of number) s (place before x).at → (m.got d ≡ gained) × ((e : ℕ) → times e (m.sent d) ≡ times e (visited_elements flushed))
    unfolding gained_in flushed_in
    refill_stage key flushed gained got d is lock_is idle stage_is may = absurd (subst (Alone (cpu_of number) x.lock) is may)
    refill_stage key flushed gained got d is lock_is probing stage_is may = absurd (subst (Probed x.lock) is may)
    refill_stage key flushed gained got d is lock_is (filled flushes g) stage_is fills =
        let f = its_filling number flushes g stage_is in
        let part_is : parts.Local (local.Refill key flushed gained got) ≡ parts.Local (local.Refill fills.key (map flush_visit flushes) g fills.got) = sym is ∙ ap (λ (t : Turn). t.part) fills.turn_is in
        let cpu_is : cpu_of number ≡ d = one_cpu (cpu_of number) d (sym (ap (λ (t : Turn). t.lock) fills.turn_is) ∙ lock_is) in (
          subst (λ (c : ℕ). m.got c ≡ gained) cpu_is (f.got_are ∙ sym (ap gained_in part_is)),
          λ e. subst (λ (c : ℕ). times e (m.sent c) ≡ times e (visited_elements flushed)) cpu_is (ap (times e) (f.sent_are ∙ sym (visit_names flushes) ∙ sym (ap (λ (p : Part). visited_elements (flushed_in p)) part_is))),
        )

    -- the turn of the global lists, and the refill around it
    pub refill_around : (flushed : List Flush) (active inactive : List Visit) (free : List ℕ) (shrink : Option ShrinkNote) → x.entry.part ≡ parts.Global (global.Turn flushed active inactive free shrink) → x.lock ≡ Global
        → Around shape (cpu_of number) number flushed (free ++ freed_by shrink) (before ++ x ∷ []) later x
    refill_around flushed active inactive free shrink is lock_is =
        filled_around shape (cpu_of number) number flushed (free ++ freed_by shrink) (before ++ x ∷ []) later x (ap rank_of lock_is) (ap Rattle.place_words.specs.Interleaving.is_inner is) mine refl
        (λ z at same. h.its z (inr at) ∙ ap cpu_of same)
        (subst (λ (p : Part). AreNested shape (cpu_of number) (stage_after p) (rest_of number (before ++ x ∷ []) later)) is nest.1)

    pub outer_begun : (flushed : List Flush) (gained : List ℕ) (a : Around shape (cpu_of number) number flushed gained (before ++ x ∷ []) later x) → among (begun_after x later begun) a.outer.entry.ticket ≡ true
    outer_begun flushed gained a = around_begun x later begun a.outer (subst (Stands a.outer) (sym a.around_is) (inl refl))

    pub outer_lock : (flushed : List Flush) (gained : List ℕ) (a : Around shape (cpu_of number) number flushed gained (before ++ x ∷ []) later x) → a.outer.lock ≡ Local x.entry.cpu
    outer_lock flushed gained a = ap (λ (t : Turn). t.lock) a.fills.turn_is ∙ ap (λ (n : ℕ). Local n) (sym mine)

    -- a call that is in a refill makes that turn now
    its_refill : (flushed : List Flush) (gained : List ℕ) → stage number ≡ filled flushed gained → Fills shape (cpu_of number) flushed gained (place before x).at
    its_refill flushed gained is = subst (λ (s : Stage). May shape (cpu_of x.entry.call) s (place before x).at) is nest.0

    not_its : (d : ℕ) (who : Whose cpu_of stage d) (part : Part) → x.entry.part ≡ part → is_refill part ≡ false → who.number ≢ number
    unfolding is_refill
    not_its d who part is none same =
        let fills = its_refill who.flushed who.gained (ap stage (sym same) ∙ who.stage_is) in
        true≢false (sym (ap (λ (t : Turn). is_refill t.part) fills.turn_is) ∙ ap is_refill is ∙ none)

    -- a turn of the global lists is made in no other refill of its CPU
    pub at_rest_global : (flushed : List Flush) (active inactive : List Visit) (free : List ℕ) (shrink : Option ShrinkNote) → x.entry.part ≡ parts.Global (global.Turn flushed active inactive free shrink) → x.lock ≡ Global → m.busy x.entry.cpu ≡ false
    unfolding is_refill
    at_rest_global flushed active inactive free shrink is lock_is =
        ⊎_elim
        (λ (busy : m.busy x.entry.cpu ≡ true).
        let who = h.going.whose x.entry.cpu busy in
        let f = its_filling who.number who.flushed who.gained who.stage_is in
        ⊎_elim
        (λ (same : x ≡ f.outer). absurd (true≢false (sym (ap (λ (d : Drawn). is_refill d.entry.part) same ∙ ap (λ (t : Turn). is_refill t.part) f.turn_is) ∙ ap is_refill is)))
        (λ (behind : Behind x later f.between f.outer f.more). absurd (not_its x.entry.cpu who _ is refl (by who f behind (refill_around flushed active inactive free shrink is lock_is))))
        (first_of x later f.between f.outer f.more f.later_is))
        (λ (rest : m.busy x.entry.cpu ≡ false). rest)
        (cases_Bool (m.busy x.entry.cpu))
      where
        by : (who : Whose cpu_of stage x.entry.cpu) (f : Filling m begun (cpu_of who.number) who.number who.flushed who.gained (x ∷ later)) → Behind x later f.between f.outer f.more
            → Around shape (cpu_of number) number flushed (free ++ freed_by shrink) (before ++ x ∷ []) later x → who.number ≡ number
        by who f behind a =
            let there : Stands f.outer later = subst (Stands f.outer) (sym behind.later_is) (stands_middle behind.rest f.outer f.more) in
            let also : Stands a.outer later = subst (Stands a.outer) (sym a.later_is) (stands_middle a.between a.outer a.more) in
            let lock : f.outer.lock ≡ Local x.entry.cpu = ap (λ (t : Turn). t.lock) f.turn_is ∙ ap (λ (n : ℕ). Local n) who.cpu_is in
            sym f.its
            ∙ ap (λ (d : Drawn). d.entry.call) (h.apart f.outer a.outer there also (before_begun x later begun f.outer.entry.ticket f.begun_is) (outer_begun flushed (free ++ freed_by shrink) a) (lock ∙ sym (outer_lock flushed (free ++ freed_by shrink) a)))
            ∙ a.its

    -- The turn is such as words decide.
    local_pays : (part : LocalPart) (d : ℕ) → x.entry.part ≡ parts.Local part → x.lock ≡ Local d → Allows shape x.entry.cpu (parts.Local part) (contents (Local d)) → LocalPays (contents (Local d)) m (among begun x.entry.ticket) x.entry.cpu d part
    unfolding is_refill
    local_pays (local.Pop key e) d is lock_is allowed = at_rest_here d _ is refl lock_is
    local_pays (local.Refill key flushed gained got) d is lock_is allowed = refill_stage key flushed gained got d is lock_is (stage number) refl nest.0
    local_pays (local.Steal got first second) d is lock_is allowed = (at_rest_here d _ is refl lock_is, taken got allowed)
      where
        taken : (got : Stolen) → Allows shape x.entry.cpu (parts.Local (local.Steal got first second)) (contents (Local d)) → IsStolenThere (contents (Local d)) got
        taken (stolen.Free e) may = tt
        taken (stolen.Pending e) may = stolen_pending (contents (Local d)) shape x.entry.cpu e first second may
        taken stolen.Nothing may = tt
    local_pays (local.Add key e cursor) d is lock_is allowed = (
      at_rest_here d _ is refl lock_is,
      ⊎_elim
          (λ (has : among begun x.entry.ticket ≡ true). absurd (subst NoAddition is (h.going.no_addition x (inl refl) has)))
          (λ (none : among begun x.entry.ticket ≡ false). none)
          (cases_Bool (among begun x.entry.ticket)),
      one_cpu x.entry.cpu d (sym (subst (OwnBrings x.entry.cpu x.lock) is (h.own x (inl refl))) ∙ lock_is),
    )
    local_pays (local.Push e done) d is lock_is allowed = at_rest_here d _ is refl lock_is

    -- what it frees is listed globally by then
    pub freed_there : (flushed : List Flush) (active inactive : List Visit) (free : List ℕ) (shrink : Option ShrinkNote) → Allows shape x.entry.cpu (parts.Global (global.Turn flushed active inactive free shrink)) (contents Global)
        → (e : ℕ) → times e (freed_by shrink) ≤ times e (rows (lists_in (contents Global))) + times e (flushed_elements flushed)
    freed_there flushed active inactive free shrink allowed e =
        let there = on_global (contents Global) (AllowsOnGlobal (global.Turn flushed active inactive free shrink)) allowed in
        let once : IsOnce (in_global there.set) = subst IsOnce there.lies h.going.once in
        subst (λ (k : Content). times e (freed_by shrink) ≤ times e (rows (lists_in k)) + times e (flushed_elements flushed)) (sym there.lies)
        (freed_listed shape x.entry.cpu flushed active inactive free shrink there.set there.fact once e)

    pub shared_here : IsOther x.entry.part → SharedAt shape contents m (among begun x.entry.ticket) x.entry.cpu x.lock x.entry.part
    shared_here other = by x.entry.part refl other h.allowed
      where
        by : (part : Part) → x.entry.part ≡ part → IsOther part → Allows shape x.entry.cpu part (contents x.lock) → SharedAt shape contents m (among begun x.entry.ticket) x.entry.cpu x.lock part
        by (parts.Bucket part) is one allowed =
            let named = bucket_lock x.lock (its_sort (parts.Bucket part) allowed) in
            record {
              bucket = named.bucket;
              lock_is = named.is;
              there = subst (λ (l : DomainId). IsTrue (is_lock shape l)) named.is h.on.0;
              paid = λ e. ap (times e) (sym (ap (λ (b : Bool). left_inside b part) lru ∙ left_none part));
            }
        by (parts.Free part) is one allowed =
            let named = freelist_lock x.lock (its_sort (parts.Free part) allowed) in
            no_free (is_lru shape.kind) (ltb named.cpu shape.cpus) lru (subst (λ (l : DomainId). IsTrue (is_lock shape l)) named.is h.on.0)
        by (parts.Local part) is one allowed =
            let named = local_lock x.lock (its_sort (parts.Local part) allowed) in
            record {
              cpu = named.cpu;
              lock_is = named.is;
              there = subst (λ (l : DomainId). IsTrue (is_lock shape l)) named.is h.on.0;
              pays = local_pays part named.cpu is named.is (subst (λ (l : DomainId). Allows shape x.entry.cpu (parts.Local part) (contents l)) named.is allowed);
            }
        by (parts.Global (global.Turn flushed active inactive free shrink)) is one allowed = absurd one
        by (parts.Global (global.Push e)) is one allowed = record { lock_is = global_lock x.lock (its_sort (parts.Global (global.Push e)) allowed); pays = local_is x.entry.cpu h.within }
        by (parts.Own part) is one allowed =
            let named = set_lock x.lock (its_sort (parts.Own part) allowed) in
            no_own shape.common (is_lru shape.kind) (ltb named.cpu shape.cpus) common (subst (λ (l : DomainId). IsTrue (is_lock shape l)) named.is h.on.0)

    -- After it

    pub global_named : (part : GlobalPart) → x.entry.part ≡ parts.Global part → x.lock ≡ Global
    global_named part is = global_lock x.lock (its_sort (parts.Global part) (subst (λ (p : Part). Allows shape x.entry.cpu p (contents x.lock)) is h.allowed))

    filling_here : (part : Part) → x.entry.part ≡ part → FillingAt (midst_after m x.entry.cpu x.lock part) (begun_after x later begun) (cpu_of number) number later (stage_after part)
    filling_here (parts.Bucket (Lookup side key got)) is = tt
    filling_here (parts.Bucket (Update side flags key value offer put)) is = tt
    filling_here (parts.Bucket (Delete key removed)) is = tt
    filling_here (parts.Bucket (Take key removed)) is = tt
    filling_here (parts.Bucket (Next key next)) is = tt
    filling_here (parts.Bucket (First key)) is = tt
    filling_here (parts.Bucket (Walk remove room result)) is = tt
    filling_here (parts.Bucket (Evict e probed)) is = tt
    filling_here (parts.Free part) is = tt
    filling_here (parts.Local part) is = tt
    filling_here (parts.Global (global.Turn flushed active inactive free shrink)) is =
        let a = refill_around flushed active inactive free shrink is (global_named _ is) in
        record {
          between = a.between;
          outer = a.outer;
          more = a.more;
          later_is = a.later_is;
          its = a.its;
          key = a.fills.key;
          got = a.fills.got;
          turn_is = a.fills.turn_is;
          begun_is = outer_begun flushed (free ++ freed_by shrink) a;
          busy = ap (put m.busy x.entry.cpu true) (sym mine) ∙ put_here m.busy x.entry.cpu true;
          got_are = ap (put m.got x.entry.cpu (free ++ freed_by shrink)) (sym mine) ∙ put_here m.got x.entry.cpu (free ++ freed_by shrink);
          sent_are = ap (put m.sent x.entry.cpu (flushed_elements flushed)) (sym mine) ∙ put_here m.sent x.entry.cpu (flushed_elements flushed);
        }
    filling_here (parts.Global (global.Push e)) is = tt
    filling_here (parts.Own part) is = tt

    filling_else : (j : ℕ) → j ≢ number → (s : Stage) → FillingAt m begun (cpu_of j) j (x ∷ later) s → FillingAt (midst_after m x.entry.cpu x.lock x.entry.part) (begun_after x later begun) (cpu_of j) j later s
    filling_else j other idle f = tt
    filling_else j other probing f = tt
    filling_else j other (filled flushed gained) f =
        ⊎_elim
        (λ (same : x ≡ f.outer). absurd (other (sym f.its ∙ sym (ap (λ (d : Drawn). d.entry.call) same))))
        (λ (behind : Behind x later f.between f.outer f.more). goes_on behind)
        (first_of x later f.between f.outer f.more f.later_is)
      where
        goes_on : Behind x later f.between f.outer f.more → Filling (midst_after m x.entry.cpu x.lock x.entry.part) (begun_after x later begun) (cpu_of j) j flushed gained later
        goes_on behind =
            let there : Stands f.outer later = subst (Stands f.outer) (sym behind.later_is) (stands_middle behind.rest f.outer f.more) in
            let same : SameMidst m (midst_after m x.entry.cpu x.lock x.entry.part) (cpu_of j) =
            midst_else m x.entry.cpu x.lock x.entry.part (cpu_of j) (λ is. h.alone f.outer there f.begun_is (ap (λ (t : Turn). t.lock) f.turn_is ∙ sym is)) (λ flushed active inactive free shrink is cpus. true≢false (sym f.busy ∙ ap m.busy (sym cpus) ∙ at_rest_global flushed active inactive free shrink is (global_named _ is))) in
            record {
              between = behind.rest;
              outer = f.outer;
              more = f.more;
              later_is = behind.later_is;
              its = f.its;
              key = f.key;
              got = f.got;
              turn_is = f.turn_is;
              begun_is = before_begun x later begun f.outer.entry.ticket f.begun_is;
              busy = same.busy ∙ f.busy;
              got_are = same.got ∙ f.got_are;
              sent_are = same.sent ∙ f.sent_are;
            }

    refill_lock : (d n : ℕ) (flushed : List Flush) (gained : List ℕ) → stage n ≡ filled flushed gained → cpu_of n ≡ d → n ≡ number → x.lock ≡ Local d
    refill_lock d n flushed gained stage_is cpu_is same =
        by (its_refill flushed gained (ap stage (sym same) ∙ stage_is))
      where
        by : Fills shape (cpu_of number) flushed gained (place before x).at → x.lock ≡ Local d
        by fills = ap (λ (t : Turn). t.lock) fills.turn_is ∙ ap (λ (n : ℕ). Local (cpu_of n)) (sym same) ∙ ap (λ (n : ℕ). Local n) cpu_is

    kept : (d : ℕ) (who : Whose cpu_of stage d) → who.number ≢ number → Whose cpu_of (stages_after stage x) d
    kept d who other = record { number = who.number; flushed = who.flushed; gained = who.gained; stage_is = put_else stage x.entry.call (stage_after x.entry.part) who.number other ∙ who.stage_is; cpu_is = who.cpu_is }

    whose_after : (part : Part) → x.entry.part ≡ part → (d : ℕ) → (midst_after m x.entry.cpu x.lock part).busy d ≡ true → Whose cpu_of (stages_after stage x) d
    unfolding is_refill
    whose_after (parts.Bucket part) is d busy = let who = h.going.whose d busy in kept d who (not_its d who _ is refl)
    whose_after (parts.Free part) is d busy = let who = h.going.whose d busy in kept d who (not_its d who _ is refl)
    whose_after (parts.Local part) is d busy = by named.is busy
      where
        named : IsLocalLock x.lock
        named = local_lock x.lock (its_sort (parts.Local part) (subst (λ (p : Part). Allows shape x.entry.cpu p (contents x.lock)) is h.allowed))

        by : x.lock ≡ Local named.cpu → (midst_after m x.entry.cpu x.lock (parts.Local part)).busy d ≡ true → Whose cpu_of (stages_after stage x) d
        by lock_is busy' =
            at_put m.busy named.cpu false (λ (e : ℕ) (b : Bool). e ≡ d → b ≡ true → Whose cpu_of (stages_after stage x) d) d
            (λ same never. absurd (true≢false (sym never)))
            (λ apart same was.
            let who = h.going.whose d was in
            kept d who (λ its. apart (sym (one_cpu named.cpu d (sym lock_is ∙ refill_lock d who.number who.flushed who.gained who.stage_is who.cpu_is its)))))
            refl (subst (λ (l : DomainId). (midst_after m x.entry.cpu l (parts.Local part)).busy d ≡ true) lock_is busy')
    whose_after (parts.Global (global.Turn flushed active inactive free shrink)) is d busy =
        at_put m.busy x.entry.cpu true (λ (e : ℕ) (b : Bool). e ≡ d → b ≡ true → Whose cpu_of (stages_after stage x) d) d
        (λ same _. record {
          number = number;
          flushed = flushed;
          gained = free ++ freed_by shrink;
          stage_is = put_here stage x.entry.call (stage_after x.entry.part) ∙ ap stage_after is;
          cpu_is = sym mine ∙ same;
        })
        (λ apart same was. let who = h.going.whose d was in kept d who (not_its d who _ is refl))
        refl busy
    whose_after (parts.Global (global.Push e)) is d busy = let who = h.going.whose d busy in kept d who (not_its d who _ is refl)
    whose_after (parts.Own part) is d busy = let who = h.going.whose d busy in kept d who (not_its d who _ is refl)

    ranked : HasRank x.lock x.entry.part
    ranked = by x.entry.part refl h.allowed
      where
        by : (part : Part) → x.entry.part ≡ part → Allows shape x.entry.cpu part (contents x.lock) → HasRank x.lock part
        by (parts.Bucket part) is allowed = ap rank_of (bucket_lock x.lock (its_sort (parts.Bucket part) allowed)).is
        by (parts.Free part) is allowed =
            let named = freelist_lock x.lock (its_sort (parts.Free part) allowed) in
            no_free (is_lru shape.kind) (ltb named.cpu shape.cpus) lru (subst (λ (l : DomainId). IsTrue (is_lock shape l)) named.is h.on.0)
        by (parts.Local part) is allowed = tt
        by (parts.Global part) is allowed = ap rank_of (global_lock x.lock (its_sort (parts.Global part) allowed))
        by (parts.Own part) is allowed = tt

    no_addition_after : (z : Drawn) → Stands z later → among (begun_after x later begun) z.entry.ticket ≡ true → NoAddition z.entry.part
    no_addition_after z at has =
        ⊎_elim
        (λ (same : x.entry.ticket ≡ z.entry.ticket). absurd (h.tickets.0 z at (sym same)))
        (λ (either : HasTicket (enclosing x later) z.entry.ticket ⊎ (among begun z.entry.ticket ≡ true)).
        ⊎_elim
        (λ (t : HasTicket (enclosing x later) z.entry.ticket).
        subst (λ (d : Drawn). NoAddition d.entry.part) (by_ticket later t.turn z h.tickets.1 (stands_around x t.turn later t.stands) at t.is)
        (around_adds shape (cpu_of number) number (before ++ x ∷ []) later x ranked mine refl (λ y there same. h.its y (inr there) ∙ ap cpu_of same) nest.1 t.turn t.stands))
        (λ (was : among begun z.entry.ticket ≡ true). h.going.no_addition z (inr at) was)
        either)
        (begun_by x later begun z.entry.ticket has)

    once_after : IsOnce (after_turn shape x.entry.cpu contents (turn_of x) Global)
    once_after =
        ⊎_elim
        (λ (here : is_same_lock x.lock Global ≡ true).
        subst IsOnce (sym (turned_here shape x.entry.cpu contents (turn_of x) Global here))
        (kept_once (contents Global) (h.going.sorted Global) (subst (λ (l : DomainId). Allows shape x.entry.cpu x.entry.part (contents l)) (one_lock x.lock Global here) h.allowed) h.going.once))
        (λ (other : is_same_lock x.lock Global ≡ false). subst IsOnce (sym (turned_elsewhere shape x.entry.cpu contents (turn_of x) Global other)) h.going.once)
        (cases_Bool (is_same_lock x.lock Global))
      where
        kept_once : (k : Content) → sort_of_content k ≡ 1 → Allows shape x.entry.cpu x.entry.part k → IsOnce k → IsOnce (content_after shape x.entry.cpu x.entry.part k)
        kept_once (in_bucket bodies) is allowed once = absurd (omega (arith, is))
        kept_once (on_freelist stack) is allowed once = absurd (omega (arith, is))
        kept_once (in_locals lists) is allowed once = absurd (omega (arith, is))
        kept_once (in_global set) is allowed once = global_once shape x.entry.cpu x.entry.part set allowed once
        kept_once (in_own set) is allowed once = absurd (omega (arith, is))

    pub going_on : Going shape cpu_of (after_turn shape x.entry.cpu contents (turn_of x)) (midst_after m x.entry.cpu x.lock x.entry.part) (begun_after x later begun) (before ++ x ∷ []) later (stages_after stage x)
    going_on = record {
      nests = nest_tail shape cpu_of stage before x later h.going.nests;
      fillings = λ j. at_put stage x.entry.call (stage_after x.entry.part) (λ (i : ℕ) (s : Stage). FillingAt (midst_after m x.entry.cpu x.lock x.entry.part) (begun_after x later begun) (cpu_of i) i later s) j
          (filling_here x.entry.part refl) (λ other. filling_else j other (stage j) (h.going.fillings j));
      whose = whose_after x.entry.part refl;
      no_addition = no_addition_after;
      sorted = sorts_after shape x.entry.cpu contents (turn_of x) h.going.sorted;
      once = once_after;
    }
