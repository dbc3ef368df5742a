-- Turns inside turns, in the order of all tickets: what stands before the turn around one in the history of its lock has a ticket below
-- that one's.
use Rattle.std.proofs.Common.{◌≡◌, ◌≢◌, ◌⊎◌, inl, inr, ℕ, suc, ◌<◌, ◌≤◌, Bool, true, false, cond, List, [], ◌∷◌, ◌++◌, All, refl, ap, sym, ◌∙◌, subst, ⊎_elim, arith}
use Rattle.std.specs.Prelude.{IsTrue, ◌&&◌, not}
use Rattle.std.proofs.lemmas.Bool.{and_from, and_parts, cases_eq, eq-eqb, eqb-true, lt-ltb, ltb-true, true≢false}
use Rattle.std.proofs.lemmas.List.Elements.{All-nil, All-cons, All-append}
use Rattle.map_types.specs.declared.attr.Shape.{Shape}
use Rattle.map_types.specs.declared.kind.DomainId.{DomainId}
use Rattle.map_types.specs.declared.kind.DomainId.TheVariants.{Local, Global, CpuLru, Bucket, Freelist}
use Rattle.map_types.specs.Kind.{is_lru}
use Rattle.place_words.specs.declared.history.Entry.{Entry}
use Rattle.place_words.specs.declared.history.LockHistory.{LockHistory}
use Rattle.place_words.specs.declared.history.Part.{Part}
use Rattle.place_words.specs.declared.history.Part.TheVariants as parts
use Rattle.place_words.specs.Interleaving.{Drawn, is_inner, encloses, enclosing, tickets_of}
use Rattle.place_words.specs.Locks.{is_lock, lock_named, rank_of}
use Rattle.place_words.specs.Named.{entries_of}
use Rattle.place_words.specs.Tickets as by_entry
use Rattle.place_words.specs.Tickets.{AscendIn}
use Rattle.place_words.proofs.Ascending.{ascend_within}
use Rattle.place_table.specs.declared.view.Hold.{Hold}
use Rattle.place_table.specs.declared.view.Turned.{Turned}
use Rattle.place_table.specs.Nested.{MayBeAround, AreNested}
use Rattle.place_table.specs.Rules.{StandsIn}
use Rattle.place_table.specs.Tickets.{turn_tickets}
use Rattle.turn_order.specs.Nests.{EarlierBelow, NestsApart}
use Rattle.turn_order.specs.Ordered.{all_drawn, ordered}
use Rattle.turn_order.specs.OrderLaws.{turn_count, AreDrawnOnce}
use Rattle.turn_order.proofs.Members.{IsAmong, among_back, append_among}
use Rattle.turn_order.proofs.TicketOrder.{ordered_ascend, all_ordered, ordered_all}
use Rattle.run_records.proofs.NestedStrands.{rank, second_held, ticket_above, held_there, Meets, meets, IsHeldAround, IsInsideOf, inside_of, StandsBefore, stands_before, local_below, alone_inside, none_before}
use Rattle.run_records.proofs.PartRanks.{part_rank}

-- Histories whose tickets ascend

none_earlier : (P : Entry → Type 0) (from to t : ℕ) (entries : List Entry) → AscendIn from (by_entry.tickets_of entries) to → t ≤ from → All (λ (entry : Entry). entry.ticket < t → P entry) entries
none_earlier P from to t [] ascend low = All-nil (λ (entry : Entry). entry.ticket < t → P entry)
none_earlier P from to t (entry ∷ entries) ascend low =
    let first : from ≤ entry.ticket = ascend.0 in
    All-cons (λ (e : Entry). e.ticket < t → P e) entry entries (λ less. absurd (omega (arith, first, low, less)))
    (none_earlier P (suc entry.ticket) to t entries ascend.1 (omega (arith, first, low)))

pub those_before : (from to low bound : ℕ) (earlier : List Entry) (entry : Entry) (later : List Entry) → AscendIn from (by_entry.tickets_of (earlier ++ entry ∷ later)) to
    → AscendIn low (by_entry.tickets_of earlier) bound → All (λ (e : Entry). e.ticket < entry.ticket → e.ticket < bound) (earlier ++ entry ∷ later)
those_before from to low bound [] entry later ascend below =
    All-cons (λ (e : Entry). e.ticket < entry.ticket → e.ticket < bound) entry later (λ less. absurd (omega (arith, less)))
    (none_earlier (λ (e : Entry). e.ticket < bound) (suc entry.ticket) to entry.ticket later ascend.1 (omega arith))
those_before from to low bound (first ∷ earlier) entry later ascend below =
    let within : suc first.ticket ≤ bound = ascend_within (suc first.ticket) (by_entry.tickets_of earlier) bound below.1 in
    All-cons (λ (e : Entry). e.ticket < entry.ticket → e.ticket < bound) first (earlier ++ entry ∷ later) (λ less. within)
    (those_before (suc first.ticket) to (suc first.ticket) bound earlier entry later ascend.1 below.1)

-- Turns in the order of their tickets

all_above : (from to : ℕ) (turns : List Drawn) (z : Drawn) → AscendIn from (tickets_of turns) to → IsAmong z turns → from ≤ z.entry.ticket
all_above from to [] z ascend at = absurd at
all_above from to (x ∷ turns) z ascend (inl same) = subst (λ (w : Drawn). from ≤ w.entry.ticket) same ascend.0
all_above from to (x ∷ turns) z ascend (inr later) = let rest = all_above (suc x.entry.ticket) to turns z ascend.1 later in let first : from ≤ x.entry.ticket = ascend.0 in omega (arith, rest, first)

behind_ascends : (from to : ℕ) (before : List Drawn) (x : Drawn) (later : List Drawn) → AscendIn from (tickets_of (before ++ x ∷ later)) to → AscendIn (suc x.entry.ticket) (tickets_of later) to
behind_ascends from to [] x later ascend = ascend.1
behind_ascends from to (w ∷ before) x later ascend = behind_ascends (suc w.entry.ticket) to before x later ascend.1

-- those with higher tickets come later
comes_later : (from to : ℕ) (before : List Drawn) (x : Drawn) (later : List Drawn) (z : Drawn) → AscendIn from (tickets_of (before ++ x ∷ later)) to → IsAmong z (before ++ x ∷ later) → x.entry.ticket < z.entry.ticket → IsAmong z later
comes_later from to [] x later z ascend (inl same) less = absurd (let both : x.entry.ticket ≡ z.entry.ticket = ap (λ (w : Drawn). w.entry.ticket) same in omega (arith, both, less))
comes_later from to [] x later z ascend (inr there) less = there
comes_later from to (w ∷ before) x later z ascend (inl same) less =
    let both : w.entry.ticket ≡ z.entry.ticket = ap (λ (v : Drawn). v.entry.ticket) same in
    let above = all_above (suc w.entry.ticket) to (before ++ x ∷ later) x ascend.1 (front before) in absurd (omega (arith, both, less, above))
  where
    front : (some : List Drawn) → IsAmong x (some ++ x ∷ later)
    front [] = inl refl
    front (v ∷ some) = inr (front some)
comes_later from to (w ∷ before) x later z ascend (inr there) less = comes_later (suc w.entry.ticket) to before x later z ascend.1 there less

-- The first turn around one

pub record FirstAround (inner : Drawn) (later : List Drawn) : Type 0 where
  pub skipped : List Drawn
  pub outer : Drawn
  pub rest : List Drawn
  pub split : later ≡ skipped ++ outer ∷ rest
  pub around : encloses outer inner ≡ true
  pub none : (z : Drawn) → IsAmong z skipped → encloses z inner ≡ false
  pub all_are : enclosing inner later ≡ enclosing outer rest ++ outer ∷ []

pub first_around : (inner : Drawn) (later : List Drawn) → (enclosing inner later ≡ []) ⊎ FirstAround inner later
unfolding enclosing
first_around inner [] = inl refl
first_around inner (x ∷ later) = by (encloses x inner) refl (first_around inner later)
  where
    by : (b : Bool) → encloses x inner ≡ b → (enclosing inner later ≡ []) ⊎ FirstAround inner later → (cond b (enclosing x later ++ x ∷ []) (enclosing inner later) ≡ []) ⊎ FirstAround inner (x ∷ later)
    by true is rest = inr (record {
      skipped = [];
      outer = x;
      rest = later;
      split = refl;
      around = is;
      none = λ z there. absurd there;
      all_are = ap (λ (b : Bool). cond b (enclosing x later ++ x ∷ []) (enclosing inner later)) is;
    })
    by false is (inl nothing) = inl nothing
    by false is (inr found) = inr (record {
      skipped = x ∷ found.skipped;
      outer = found.outer;
      rest = found.rest;
      split = ap (λ (l : List Drawn). x ∷ l) found.split;
      around = found.around;
      none = λ z there. ⊎_elim (λ (same : x ≡ z). ap (λ (w : Drawn). encloses w inner) (sym same) ∙ is) (λ (further : IsAmong z found.skipped). found.none z further) there;
      all_are = ap (λ (b : Bool). cond b (enclosing x later ++ x ∷ []) (enclosing inner later)) is ∙ found.all_are;
    })

-- which comes before all others around it
pub first_of_all : (inner : Drawn) (later : List Drawn) (from to : ℕ) → AscendIn from (tickets_of later) to → (f : FirstAround inner later) → (z : Drawn) → IsAmong z later → encloses z inner ≡ true → f.outer.entry.ticket ≤ z.entry.ticket
first_of_all inner later from to ascend f z at its = by (append_among z f.skipped (f.outer ∷ f.rest) (subst (IsAmong z) f.split at))
  where
    by : IsAmong z f.skipped ⊎ IsAmong z (f.outer ∷ f.rest) → f.outer.entry.ticket ≤ z.entry.ticket
    by (inl skipped) = absurd (true≢false (sym its ∙ f.none z skipped))
    by (inr (inl same)) = let both : f.outer.entry.ticket ≡ z.entry.ticket = ap (λ (w : Drawn). w.entry.ticket) same in omega (arith, both)
    by (inr (inr further)) =
        let up = all_above (suc f.outer.entry.ticket) to f.rest z (behind_ascends from to f.skipped f.outer f.rest (subst (λ (l : List Drawn). AscendIn from (tickets_of l) to) f.split ascend)) further in omega (arith, up)

-- what encloses one is of its call, and has a lower rank
pub record Around (outer inner : Drawn) : Type 0 where
  pub inner_is : is_inner inner.entry.part ≡ true
  pub lower : rank_of outer.lock < rank_of inner.lock
  pub cpu : outer.entry.cpu ≡ inner.entry.cpu
  pub call : outer.entry.call ≡ inner.entry.call

pub around_is : (outer inner : Drawn) → encloses outer inner ≡ true → Around outer inner
around_is outer inner is =
    let both = and_parts _ _ is in
    let left = and_parts _ _ both.0 in
    let right = and_parts _ _ both.1 in
    record {
      inner_is = left.0;
      lower = ltb-true (rank_of outer.lock) (rank_of inner.lock) left.1;
      cpu = eqb-true outer.entry.cpu inner.entry.cpu right.0;
      call = eqb-true outer.entry.call inner.entry.call right.1;
    }

encloses_from : (outer inner : Drawn) → Around outer inner → encloses outer inner ≡ true
encloses_from outer inner a =
    and_from _ _ (and_from _ _ a.inner_is (lt-ltb (rank_of outer.lock) (rank_of inner.lock) a.lower))
    (and_from _ _ (eq-eqb outer.entry.cpu inner.entry.cpu a.cpu) (eq-eqb outer.entry.call inner.entry.call a.call))

-- a turn of a strand among all
abbrev pub drawn_of : Shape → Turned → Drawn
drawn_of shape step = record { lock = lock_named shape step.lock; entry = step.entry }

-- A turn in its strand, where those of its call stand too, and those between are of that call.
pub record OfStrand (shape : Shape) (lost : ℕ → Bool) (histories : List LockHistory) (x : Drawn) : Type 0 where
  pub turns : List Turned
  pub behind : List Turned
  pub from : ℕ
  pub to : ℕ
  pub nested : AreNested shape lost (turns ++ behind) []
  pub ascend : AscendIn from (turn_tickets turns) to
  pub first : Turned
  pub first_there : IsAmong first turns
  pub first_is : drawn_of shape first ≡ x
  pub of_call : (y : Drawn) → IsAmong y (all_drawn histories) → y.entry.cpu ≡ x.entry.cpu → y.entry.call ≡ x.entry.call → (t : Turned) × IsAmong t turns × (drawn_of shape t ≡ y)
  pub between : (z t : Turned) → IsAmong z turns → IsAmong t turns → first.entry.ticket < z.entry.ticket → z.entry.ticket < t.entry.ticket → t.entry.call ≡ first.entry.call → (z.entry.cpu ≡ first.entry.cpu) × (z.entry.call ≡ first.entry.call)
  pub told : (z : Turned) → IsAmong z turns → IsAmong (drawn_of shape z) (all_drawn histories)
  pub real : (z : Turned) → IsAmong z (turns ++ behind) → IsTrue (is_lock shape (lock_named shape z.lock))
  pub stands : (z : Turned) → IsAmong z turns → StandsIn (entries_of histories (lock_named shape z.lock)) z
  pub whole : (z : Turned) → IsAmong z turns → lost z.lock ≡ false

at_most : (lock : DomainId) → rank_of lock ≤ 4
at_most (Local cpu) = omega arith
at_most Global = omega arith
at_most (CpuLru cpu) = omega arith
at_most (Bucket bucket) = omega arith
at_most (Freelist cpu) = omega arith

at_least : (lock : DomainId) → 1 ≤ rank_of lock
at_least (Local cpu) = omega arith
at_least Global = omega arith
at_least (CpuLru cpu) = omega arith
at_least (Bucket bucket) = omega arith
at_least (Freelist cpu) = omega arith

-- Where a rank is between that of a turn and that of the lock around it, it is that of lists, between local ones and an eviction.
gap : (shape : Shape) (part : Part) (lock : DomainId) (others : List Hold) (o i : ℕ) → MayBeAround shape part lock others → i ≡ part_rank part → rank_of lock < o → o < i → (o ≡ 2) × (part_rank part ≡ 3) × (rank_of lock ≡ 1)
gap shape (parts.Bucket part) lock others o i may same low high = let some = at_least lock in let under : rank_of lock < 3 = may.0 in (omega (arith, some, same, low, high), refl, omega (arith, some, same, low, high))
gap shape (parts.Free part) (Local cpu) others o i may same low high = absurd cc
gap shape (parts.Free part) Global others o i may same low high = absurd cc
gap shape (parts.Free part) (CpuLru cpu) others o i may same low high = absurd cc
gap shape (parts.Free part) (Bucket bucket) others o i may same low high = absurd (omega (arith, same, low, high))
gap shape (parts.Free part) (Freelist cpu) others o i may same low high = absurd cc
gap shape (parts.Local part) lock others o i may same low high = absurd may
gap shape (parts.Global part) (Local cpu) others o i may same low high = absurd (omega (arith, same, low, high))
gap shape (parts.Global part) Global others o i may same low high = absurd cc
gap shape (parts.Global part) (CpuLru cpu) others o i may same low high = absurd cc
gap shape (parts.Global part) (Bucket bucket) others o i may same low high = absurd cc
gap shape (parts.Global part) (Freelist cpu) others o i may same low high = absurd cc
gap shape (parts.Own part) lock others o i may same low high = absurd may

-- Where there are local lists the others are the global ones.

is_common : (shape : Shape) (lock : DomainId) → IsTrue (is_lock shape lock) → rank_of lock ≡ 1 → shape.common ≡ true
is_common shape (Local cpu) is one = (and_parts shape.common _ is).0
is_common shape Global is one = absurd (omega (arith, one))
is_common shape (CpuLru cpu) is one = absurd (omega (arith, one))
is_common shape (Bucket bucket) is one = absurd (omega (arith, one))
is_common shape (Freelist cpu) is one = absurd (omega (arith, one))

is_global : (shape : Shape) (lock : DomainId) → IsTrue (is_lock shape lock) → rank_of lock ≡ 2 → shape.common ≡ true → lock ≡ Global
is_global shape (Local cpu) is two common = absurd (omega (arith, two))
is_global shape Global is two common = refl
is_global shape (CpuLru cpu) is two common = absurd (true≢false (sym (and_parts (is_lru shape.kind) (not shape.common) (and_parts (is_lru shape.kind && not shape.common) _ is).0).1 ∙ ap not common))
is_global shape (Bucket bucket) is two common = absurd (omega (arith, two))
is_global shape (Freelist cpu) is two common = absurd (omega (arith, two))

pub global_beside : (shape : Shape) (local lock : DomainId) → IsTrue (is_lock shape local) → IsTrue (is_lock shape lock) → rank_of local ≡ 1 → rank_of lock ≡ 2 → lock ≡ Global
global_beside shape local lock there is one two = is_global shape lock is two (is_common shape local there one)

module _ (shape : Shape) (lost : ℕ → Bool) (histories : List LockHistory) where
  abbrev Its : Drawn → Type 0
  Its x = OfStrand shape lost histories x

  -- a turn, and a later one of its call
  module _ (x y : Drawn) (o : Its x) (there : IsAmong y (all_drawn histories)) (cpu : y.entry.cpu ≡ x.entry.cpu) (call : y.entry.call ≡ x.entry.call) (less : x.entry.ticket < y.entry.ticket) where
    abbrev pub second : Turned
    second = (o.of_call y there cpu call).0

    pub second_there : IsAmong second o.turns
    second_there = (o.of_call y there cpu call).1

    pub second_is : drawn_of shape second ≡ y
    second_is = (o.of_call y there cpu call).2

    at_x : o.first.entry.ticket ≡ x.entry.ticket
    at_x = ap (λ (w : Drawn). w.entry.ticket) o.first_is

    at_y : second.entry.ticket ≡ y.entry.ticket
    at_y = ap (λ (w : Drawn). w.entry.ticket) second_is

    one_call : second.entry.call ≡ o.first.entry.call
    one_call = ap (λ (w : Drawn). w.entry.call) second_is ∙ call ∙ sym (ap (λ (w : Drawn). w.entry.call) o.first_is)

    pub rank_x : rank shape o.first.lock ≡ rank_of x.lock
    rank_x = ap (λ (w : Drawn). rank_of w.lock) o.first_is

    pub rank_y : rank shape second.lock ≡ rank_of y.lock
    rank_y = ap (λ (w : Drawn). rank_of w.lock) second_is

    -- what stands behind the first
    pub stood : StandsBefore shape lost o.first second o.turns o.behind o.to
    stood = stands_before shape lost o.first second o.turns o.behind o.from o.to o.nested o.ascend o.first_there second_there (omega (arith, at_x, at_y, less))

    -- no other turn of a lock of this rank comes between
    abbrev pub NoOther : ℕ → Type 0
    NoOther r = (z : Drawn) → IsAmong z (all_drawn histories) → rank_of z.lock ≡ r → z.entry.cpu ≡ x.entry.cpu → z.entry.call ≡ x.entry.call → x.entry.ticket < z.entry.ticket → z.entry.ticket < y.entry.ticket → ⊥

    pub none_comes : (z : Turned) → IsAmong z stood.later → (r : ℕ) → rank shape z.lock ≡ r → NoOther r → z.entry.ticket < second.entry.ticket → ⊥
    none_comes z at r same no_other early =
        let above = ticket_above stood.from o.to stood.later z stood.ascend at in
        let first = stood.first in
        let after : o.first.entry.ticket < z.entry.ticket = omega (arith, above, first) in
        let of_it = o.between z second (stood.among z at) second_there after early one_call in
        let here = at_x in
        let its = at_y in
        no_other (drawn_of shape z) (o.told z (stood.among z at)) same (of_it.0 ∙ ap (λ (w : Drawn). w.entry.cpu) o.first_is) (of_it.1 ∙ ap (λ (w : Drawn). w.entry.call) o.first_is)
        (omega (arith, after, here)) (omega (arith, early, its))

    -- A lock that was held at the first turn is that of the second one.
    pub is_its : (k : ℕ) (log : List Entry) → IsHeldAround shape lost o.first (stood.later ++ o.behind) k log → (rank shape k < rank_of y.lock → ⊥) → NoOther (rank shape k) → (second.lock ≡ k) × (second.earlier ≡ log)
    is_its k log around none no_other = by (meets shape lost k log stood.later o.behind stood.from o.to second stood.all_nested around.held_on stood.ascend stood.there)
      where
        by : Meets shape lost k log second stood.later → (second.lock ≡ k) × (second.earlier ≡ log)
        by (inl it) = it
        by (inr (inl up)) = absurd (none (let its = rank_y in omega (arith, up, its)))
        by (inr (inr z)) = absurd (none_comes z.0 z.1 (rank shape k) (ap (rank shape) z.2) no_other z.3)

    -- So what stands before the second one has lower tickets than the first.
    pub are_below : (to k : ℕ) (log : List Entry) → IsHeldAround shape lost o.first (stood.later ++ o.behind) k log → (second.lock ≡ k) × (second.earlier ≡ log)
        → AscendIn 0 (by_entry.tickets_of (entries_of histories y.lock)) to → EarlierBelow histories y x.entry.ticket
    are_below to k log around it ascend =
        let stands = o.stands second second_there in
        let ascend_here : AscendIn 0 (by_entry.tickets_of (entries_of histories (lock_named shape second.lock))) to =
        subst (λ (l : DomainId). AscendIn 0 (by_entry.tickets_of (entries_of histories l)) to) (sym (ap (λ (w : Drawn). w.lock) second_is)) ascend in
        let before : AscendIn 0 (by_entry.tickets_of second.earlier) o.first.entry.ticket =
        subst (λ (l : List Entry). AscendIn 0 (by_entry.tickets_of l) o.first.entry.ticket) (sym it.1) (around.before (subst (λ (m : ℕ). lost m ≡ false) it.0 (o.whole second second_there))) in
        subst (λ (p : Drawn × Drawn). EarlierBelow histories p.1 p.0.entry.ticket) (λ i. (o.first_is i, second_is i))
        (subst (All (λ (e : Entry). e.ticket < second.entry.ticket → e.ticket < o.first.entry.ticket)) (sym stands.log_is)
        (those_before 0 to 0 o.first.entry.ticket second.earlier second.entry stands.later (subst (λ (l : List Entry). AscendIn 0 (by_entry.tickets_of l) to) stands.log_is ascend_here) before))

    pub is_inside : is_inner x.entry.part ≡ true → IsInsideOf shape lost o.first (stood.later ++ o.behind)
    is_inside inner = inside_of shape lost o.first (stood.later ++ o.behind) stood.nested (ap (λ (w : Drawn). is_inner w.entry.part) o.first_is ∙ inner)

    -- Where the second turn is the first around the first one
    module _ (around : Around y x) (comes_first : (z : Drawn) → IsAmong z (all_drawn histories) → x.entry.ticket < z.entry.ticket → encloses z x ≡ true → y.entry.ticket ≤ z.entry.ticket)
        (sort : rank_of x.lock ≡ part_rank x.entry.part) where
      abbrev pub inside : IsInsideOf shape lost o.first (stood.later ++ o.behind)
      inside = is_inside around.inner_is

      pub lock_real : IsTrue (is_lock shape (lock_named shape inside.outer.lock))
      lock_real =
          let its = held_there inside.outer.lock inside.outer.log (stood.later ++ o.behind) inside.around.held_on in
          subst (λ (m : ℕ). IsTrue (is_lock shape (lock_named shape m))) its.2 (o.real its.0 (stood.among_all its.0 its.1))

      pub no_other : NoOther (rank shape inside.outer.lock)
      no_other z at same own its after early =
          let low = inside.around.lower in
          let here = rank_x in
          let late = comes_first z at after (encloses_from z x (record { inner_is = around.inner_is; lower = omega (arith, same, low, here); cpu = own; call = its })) in omega (arith, late, early)

      -- a rank between is that of lists
      pub in_gap : rank shape inside.outer.lock < rank_of y.lock → (rank_of y.lock ≡ 2) × (part_rank x.entry.part ≡ 3) × (rank shape inside.outer.lock ≡ 1)
      in_gap up =
          gap shape x.entry.part (lock_named shape inside.outer.lock) inside.others (rank_of y.lock) (rank_of x.lock)
          (subst (λ (w : Drawn). MayBeAround shape w.entry.part (lock_named shape inside.outer.lock) inside.others) o.first_is inside.may_be) sort up around.lower

      pub is_outer : (rank shape inside.outer.lock < rank_of y.lock → ⊥) → (second.lock ≡ inside.outer.lock) × (second.earlier ≡ inside.outer.log)
      is_outer none = is_its inside.outer.lock inside.outer.log inside.around none no_other

      -- which never is: the global lists, of which that turn would be, were not held
      pub never_up : rank shape inside.outer.lock < rank_of y.lock → ⊥
      never_up up =
          let its = in_gap up in
          let two = its.0 in
          let one = its.2 in
          let there_is = rank_y in
          let none = alone_inside shape lost o.first (stood.later ++ o.behind) stood.nested stood.all_nested inside (rank_x ∙ sort ∙ its.1) one
          (λ z at z_two. global_beside shape (lock_named shape inside.outer.lock) (lock_named shape z.lock) lock_real (o.real z (stood.among_all z at)) one z_two) in
          by (none_before shape inside.outer.lock stood.later o.behind stood.from o.to second none stood.ascend stood.there) two one there_is
        where
          by : (second.lock ≡ inside.outer.lock) ⊎ ((rank shape second.lock ≢ 2) ⊎ ((z : Turned) × IsAmong z stood.later × (z.lock ≡ inside.outer.lock) × (z.entry.ticket < second.entry.ticket)))
              → rank_of y.lock ≡ 2 → rank shape inside.outer.lock ≡ 1 → rank shape second.lock ≡ rank_of y.lock → ⊥
          by (inl same) two one is = let alike : rank shape second.lock ≡ rank shape inside.outer.lock = ap (rank shape) same in omega (arith, alike, two, one, is)
          by (inr (inl apart)) two one is = apart (is ∙ two)
          by (inr (inr z)) two one is = none_comes z.0 z.1 (rank shape inside.outer.lock) (ap (rank shape) z.2) no_other z.3

  -- The turns of histories

  module _ (once : AreDrawnOnce histories) (to : ℕ) (rising : (x : Drawn) → IsAmong x (all_drawn histories) → AscendIn 0 (by_entry.tickets_of (entries_of histories x.lock)) to)
      (ranked : (x : Drawn) → IsAmong x (all_drawn histories) → rank_of x.lock ≡ part_rank x.entry.part)
      (strands : (x : Drawn) → IsAmong x (all_drawn histories) → Its x)
      (mixed : (x y : Drawn) → IsAmong x (all_drawn histories) → IsAmong y (all_drawn histories) → rank_of x.lock ≡ 4 → rank_of y.lock ≤ 2 → ⊥)
      (shared : (x y : Drawn) → IsAmong x (all_drawn histories) → IsAmong y (all_drawn histories) → rank_of x.lock ≡ 1 → rank_of y.lock ≡ 2 → y.lock ≡ Global) where
    module _ (before : List Drawn) (inner : Drawn) (later : List Drawn) (is : ordered histories ≡ before ++ inner ∷ later) where
      ascends : AscendIn 0 (tickets_of (before ++ inner ∷ later)) (turn_count histories)
      ascends = subst (λ (l : List Drawn). AscendIn 0 (tickets_of l) (turn_count histories)) is (ordered_ascend histories once)

      later_ascends : AscendIn (suc inner.entry.ticket) (tickets_of later) (turn_count histories)
      later_ascends = behind_ascends 0 (turn_count histories) before inner later ascends

      pub inner_there : IsAmong inner (all_drawn histories)
      inner_there = ordered_all histories inner (subst (IsAmong inner) (sym is) (among_back inner before (inner ∷ later) (inl refl)))

      pub later_there : (z : Drawn) → IsAmong z later → IsAmong z (all_drawn histories)
      later_there z at = ordered_all histories z (subst (IsAmong z) (sym is) (among_back z before (inner ∷ later) (inr at)))

      pub later_above : (z : Drawn) → IsAmong z later → inner.entry.ticket < z.entry.ticket
      later_above z at = all_above (suc inner.entry.ticket) (turn_count histories) later z later_ascends at

      pub is_later : (z : Drawn) → IsAmong z (all_drawn histories) → inner.entry.ticket < z.entry.ticket → IsAmong z later
      is_later z at above = comes_later 0 (turn_count histories) before inner later z ascends (subst (IsAmong z) is (all_ordered histories once z at)) above

      module _ (f : FirstAround inner later) where
        pub outer_later : IsAmong f.outer later
        outer_later = subst (IsAmong f.outer) (sym f.split) (among_back f.outer f.skipped (f.outer ∷ f.rest) (inl refl))

        pub rest_later : (z : Drawn) → IsAmong z f.rest → IsAmong z later
        rest_later z at = subst (IsAmong z) (sym f.split) (among_back z f.skipped (f.outer ∷ f.rest) (inr at))

        -- another one around it comes behind the first
        pub comes_behind : (z : Drawn) → IsAmong z (all_drawn histories) → inner.entry.ticket < z.entry.ticket → encloses z inner ≡ true → (f.outer ≡ z) ⊎ IsAmong z f.rest
        comes_behind z at above its =
            by (append_among z f.skipped (f.outer ∷ f.rest) (subst (IsAmong z) f.split (is_later z at above)))
          where
            by : IsAmong z f.skipped ⊎ IsAmong z (f.outer ∷ f.rest) → (f.outer ≡ z) ⊎ IsAmong z f.rest
            by (inl skipped) = absurd (true≢false (sym its ∙ f.none z skipped))
            by (inr there) = there

        rest_ascends : AscendIn (suc f.outer.entry.ticket) (tickets_of f.rest) (turn_count histories)
        rest_ascends = behind_ascends (suc inner.entry.ticket) (turn_count histories) f.skipped f.outer f.rest (subst (λ (l : List Drawn). AscendIn (suc inner.entry.ticket) (tickets_of l) (turn_count histories)) f.split later_ascends)

        pub rest_above : (z : Drawn) → IsAmong z f.rest → f.outer.entry.ticket < z.entry.ticket
        rest_above z at =
            all_above (suc f.outer.entry.ticket) (turn_count histories) f.rest z
            (behind_ascends (suc inner.entry.ticket) (turn_count histories) f.skipped f.outer f.rest (subst (λ (l : List Drawn). AscendIn (suc inner.entry.ticket) (tickets_of l) (turn_count histories)) f.split later_ascends)) at

        pub comes_first : (z : Drawn) → IsAmong z (all_drawn histories) → inner.entry.ticket < z.entry.ticket → encloses z inner ≡ true → f.outer.entry.ticket ≤ z.entry.ticket
        comes_first z at above its = ⊎_elim
            (λ (same : f.outer ≡ z). let both : f.outer.entry.ticket ≡ z.entry.ticket = ap (λ (w : Drawn). w.entry.ticket) same in omega (arith, both))
            (λ (there : IsAmong z f.rest). let up = rest_above z there in omega (arith, up))
            (comes_behind z at above its)

        abbrev pub around : Around f.outer inner
        around = around_is f.outer inner f.around

        pub outer_there : IsAmong f.outer (all_drawn histories)
        outer_there = later_there f.outer outer_later

        abbrev pub own : Its inner
        own = strands inner inner_there

        abbrev pub around_inner : IsInsideOf shape lost own.first ((stood inner f.outer own outer_there around.cpu around.call (later_above f.outer outer_later)).later ++ own.behind)
        around_inner = inside inner f.outer own outer_there around.cpu around.call (later_above f.outer outer_later) around comes_first (ranked inner inner_there)

        pub first_below : (rank shape around_inner.outer.lock < rank_of f.outer.lock → ⊥) → EarlierBelow histories f.outer inner.entry.ticket
        first_below none =
            are_below inner f.outer own outer_there around.cpu around.call (later_above f.outer outer_later) to around_inner.outer.lock around_inner.outer.log around_inner.around
            (is_outer inner f.outer own outer_there around.cpu around.call (later_above f.outer outer_later) around comes_first (ranked inner inner_there) none) (rising f.outer outer_there)

        -- the one around the outer one
        module _ (g : FirstAround f.outer f.rest) where
          abbrev pub next : Around g.outer f.outer
          next = around_is g.outer f.outer g.around

          pub next_rest : IsAmong g.outer f.rest
          next_rest = subst (IsAmong g.outer) (sym g.split) (among_back g.outer g.skipped (g.outer ∷ g.rest) (inl refl))

          pub next_there : IsAmong g.outer (all_drawn histories)
          next_there = later_there g.outer (rest_later g.outer next_rest)

          -- is of local lists, around the global ones, inside which an eviction was made
          pub chain_is : (rank_of g.outer.lock ≡ 1) × (rank_of f.outer.lock ≡ 2) × (rank_of inner.lock ≡ 3)
          chain_is =
              let some = at_least g.outer.lock in
              let low = next.lower in
              let high = around.lower in
              let most = at_most inner.lock in
              elim (cases_eq (rank_of inner.lock) 4) [
                | inl four ↦ absurd (mixed inner g.outer inner_there next_there four (omega (arith, four, low, high)))
                | inr other ↦ (omega (arith, other, some, low, high, most), omega (arith, other, some, low, high, most), omega (arith, other, some, low, high, most))
              ]

          -- no other turn of local lists comes before it
          pub no_local : (z : Drawn) → IsAmong z (all_drawn histories) → rank_of z.lock ≡ 1 → z.entry.cpu ≡ inner.entry.cpu → z.entry.call ≡ inner.entry.call → inner.entry.ticket < z.entry.ticket → z.entry.ticket < g.outer.entry.ticket → ⊥
          no_local z at one cpu call after early =
              let ranks = chain_is in
              let three = ranks.2 in
              let two = ranks.1 in
              let its : encloses z inner ≡ true = encloses_from z inner (record { inner_is = around.inner_is; lower = omega (arith, one, three); cpu = cpu; call = call }) in
              by (comes_behind z at after its) two
            where
              by : (f.outer ≡ z) ⊎ IsAmong z f.rest → rank_of f.outer.lock ≡ 2 → ⊥
              by (inl same) two = let alike : rank_of f.outer.lock ≡ rank_of z.lock = ap (λ (w : Drawn). rank_of w.lock) same in omega (arith, alike, one, two)
              by (inr there) two =
                  let of_it : encloses z f.outer ≡ true = encloses_from z f.outer (record { inner_is = next.inner_is; lower = omega (arith, one, two); cpu = cpu ∙ sym around.cpu; call = call ∙ sym around.call }) in
                  let late = first_of_all f.outer f.rest (suc f.outer.entry.ticket) (turn_count histories) rest_ascends g z there of_it in omega (arith, late, early)

          abbrev next_cpu : g.outer.entry.cpu ≡ inner.entry.cpu
          next_cpu = next.cpu ∙ around.cpu

          abbrev next_call : g.outer.entry.call ≡ inner.entry.call
          next_call = next.call ∙ around.call

          abbrev next_above : inner.entry.ticket < g.outer.entry.ticket
          next_above = later_above g.outer (rest_later g.outer next_rest)

          abbrev stood_next : StandsBefore shape lost own.first (second inner g.outer own next_there next_cpu next_call next_above) own.turns own.behind own.to
          stood_next = stood inner g.outer own next_there next_cpu next_call next_above

          below_by : (below : Hold) → rank shape below.lock ≡ 1 → IsHeldAround shape lost own.first (stood_next.later ++ own.behind) below.lock below.log → EarlierBelow histories g.outer inner.entry.ticket
          below_by below lowest held =
              let one = chain_is.0 in
              are_below inner g.outer own next_there next_cpu next_call next_above to below.lock below.log held
              (is_its inner g.outer own next_there next_cpu next_call next_above below.lock below.log held (λ up. omega (arith, up, one, lowest))
              (λ z at its cpu call after early. no_local z at (its ∙ lowest) cpu call after early)) (rising g.outer next_there)

          -- and what stands before it has lower tickets than the eviction
          pub next_below : (rank shape around_inner.outer.lock < rank_of f.outer.lock → ⊥) → EarlierBelow histories g.outer inner.entry.ticket
          next_below none =
              let ranks = chain_is in
              let two = ranks.1 in
              let three : part_rank inner.entry.part ≡ 3 = sym (ranked inner inner_there) ∙ ranks.2 in
              let there : IsInsideOf shape lost own.first (stood_next.later ++ own.behind) = is_inside inner g.outer own next_there next_cpu next_call next_above around.inner_is in
              let it = is_outer inner f.outer own outer_there around.cpu around.call (later_above f.outer outer_later) around comes_first (ranked inner inner_there) none in
              let of_outer : lock_named shape around_inner.outer.lock ≡ f.outer.lock =
              ap (lock_named shape) (sym it.0) ∙ ap (λ (w : Drawn). w.lock) (second_is inner f.outer own outer_there around.cpu around.call (later_above f.outer outer_later)) in
              let same : around_inner.outer ≡ there.outer =
              second_held own.first.moment.held around_inner.own around_inner.outer there.own there.outer around_inner.others there.others around_inner.held_are there.held_are in
              let global : lock_named shape there.outer.lock ≡ Global = ap (λ (h : Hold). lock_named shape h.lock) (sym same) ∙ of_outer ∙ shared g.outer f.outer next_there outer_there ranks.0 two in
              let under = local_below shape own.first.entry.part (lock_named shape there.outer.lock) there.others there.may_be (ap (λ (w : Drawn). part_rank w.entry.part) own.first_is ∙ three) global in
              below_by under.0 under.3 (there.beneath under.0 under.1 under.2)

    pub apart_nests : NestsApart histories
    apart_nests before inner later is = by (first_around inner later)
      where
        Below : Drawn → Type 0
        Below outer = EarlierBelow histories outer inner.entry.ticket

        not_up : (f : FirstAround inner later) → rank shape (around_inner before inner later is f).outer.lock < rank_of f.outer.lock → ⊥
        not_up f up =
            let a = around_is f.outer inner f.around in
            let above = later_above before inner later is f.outer (outer_later before inner later is f) in
            never_up inner f.outer (own before inner later is f) (outer_there before inner later is f) a.cpu a.call above a (comes_first before inner later is f) (ranked inner (inner_there before inner later is)) up

        no_more : (f : FirstAround inner later) (g : FirstAround f.outer f.rest) → (enclosing g.outer g.rest ≡ []) ⊎ FirstAround g.outer g.rest → All Below (enclosing g.outer g.rest)
        no_more f g (inl none) = subst (All Below) (sym none) (All-nil Below)
        no_more f g (inr h) =
            let low = (around_is h.outer g.outer h.around).lower in
            let some = at_least h.outer.lock in
            let one = (chain_is before inner later is f g).0 in
            absurd (omega (arith, low, some, one))

        around_that : (f : FirstAround inner later) → (enclosing f.outer f.rest ≡ []) ⊎ FirstAround f.outer f.rest → All Below (enclosing f.outer f.rest)
        around_that f (inl none) = subst (All Below) (sym none) (All-nil Below)
        around_that f (inr g) =
            subst (All Below) (sym g.all_are)
            (All-append Below (enclosing g.outer g.rest) (g.outer ∷ []) (no_more f g (first_around g.outer g.rest))
            (All-cons Below g.outer [] (next_below before inner later is f g (not_up f)) (All-nil Below)))

        by : (enclosing inner later ≡ []) ⊎ FirstAround inner later → All Below (enclosing inner later)
        by (inl none) = subst (All Below) (sym none) (All-nil Below)
        by (inr f) =
            subst (All Below) (sym f.all_are)
            (All-append Below (enclosing f.outer f.rest) (f.outer ∷ []) (around_that f (first_around f.outer f.rest))
            (All-cons Below f.outer [] (first_below before inner later is f (not_up f)) (All-nil Below)))
