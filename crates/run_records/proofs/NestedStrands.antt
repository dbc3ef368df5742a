-- Turns inside turns, along a strand that has ended: the lock held around one is that of a later turn, which comes right after what was
-- there when it was held.
use Rattle.std.proofs.Common.{◌≡◌, ◌≢◌, ◌⊎◌, inl, inr, ℕ, suc, ◌<◌, ◌≤◌, Bool, true, false, cond, eqb, List, [], ◌∷◌, ◌++◌, Some, refl, ap, sym, ◌∙◌, subst, arith}
use Rattle.std.specs.Prelude.{MatchBool, option_map, IsTrue}
use Rattle.std.proofs.lemmas.Bool.{eq-eqb, ne_eqb}
use Rattle.std.proofs.lemmas.Option.{none-some}
use Rattle.map_types.specs.declared.attr.Shape.{Shape}
use Rattle.map_types.specs.declared.kind.DomainId.{DomainId}
use Rattle.map_types.specs.declared.kind.DomainId.TheVariants.{Local, Global, CpuLru, Bucket, Freelist}
use Rattle.map_types.proofs.RowLemmas.{by_test}
use Rattle.place_words.specs.declared.history.Entry.{Entry}
use Rattle.place_words.specs.declared.history.Part.{Part}
use Rattle.place_words.specs.declared.history.Part.TheVariants as parts
use Rattle.place_words.specs.Interleaving.{is_inner}
use Rattle.place_words.specs.Locks.{lock_named, rank_of}
use Rattle.place_words.specs.Tickets.{AscendIn, tickets_of}
use Rattle.place_table.specs.declared.view.Hold.{Hold}
use Rattle.place_table.specs.declared.view.Turned.{Turned}
use Rattle.place_table.specs.Nested.{MayBeAround, IsAround, log_held, IsHeldOn, StaysWithGlobal, IsNested, AreNested}
use Rattle.place_table.specs.Tickets.{turn_tickets}
use Rattle.place_table.specs.Views.{hold_at, is_local, IsAboveAll, Ascends}
use Rattle.serial_laws.proofs.LooksTold.{heads, tails}
use Rattle.turn_order.proofs.Members.{IsAmong}
use Rattle.run_records.proofs.PartRanks.{part_rank}

-- the rank of a lock, by its number
abbrev pub rank : Shape → ℕ → ℕ
rank shape k = rank_of (lock_named shape k)

-- a lock that is held is below what all are below
ranks_below : (shape : Shape) (k r : ℕ) (log : List Entry) (holds : List Hold) → IsAboveAll shape r holds → log_held k holds ≡ Some log → rank shape k < r
ranks_below shape k r log [] above is = absurd (none-some log is)
ranks_below shape k r log (hold ∷ holds) above is =
    by_test hold.lock k (λ b. option_map (λ (h : Hold). h.log) (cond b (Some hold) (hold_at k holds)) ≡ Some log → rank shape k < r)
    (λ same _. subst (λ (m : ℕ). rank shape m < r) same above.0) (λ _ rest. ranks_below shape k r log holds above.1 rest) is

-- what is held besides the lock at the front
held_behind : (k : ℕ) (hold : Hold) (holds : List Hold) → hold.lock ≢ k → log_held k (hold ∷ holds) ≡ log_held k holds
held_behind k hold holds other = ap (λ (b : Bool). option_map (λ (h : Hold). h.log) (cond b (Some hold) (hold_at k holds))) (ne_eqb hold.lock k other)

held_front : (hold : Hold) (holds : List Hold) → log_held hold.lock (hold ∷ holds) ≡ Some hold.log
held_front hold holds = ap (λ (b : Bool). option_map (λ (h : Hold). h.log) (cond b (Some hold) (hold_at hold.lock holds))) (eq-eqb hold.lock hold.lock refl)

-- the second of some locks that are held
pub second_held : (held : List Hold) (a b c d : Hold) (xs ys : List Hold) → held ≡ a ∷ b ∷ xs → held ≡ c ∷ d ∷ ys → b ≡ d
second_held held a b c d xs ys is other = heads b d xs ys (tails a c (b ∷ xs) (d ∷ ys) (sym is ∙ other))

-- turns whose tickets ascend are above what the first one is
pub ticket_above : (from to : ℕ) (steps : List Turned) (t : Turned) → AscendIn from (turn_tickets steps) to → IsAmong t steps → from ≤ t.entry.ticket
ticket_above from to [] t ascend at = absurd at
ticket_above from to (step ∷ steps) t ascend (inl same) = subst (λ (s : Turned). from ≤ s.entry.ticket) same ascend.0
ticket_above from to (step ∷ steps) t ascend (inr later) = let rest = ticket_above (suc step.entry.ticket) to steps t ascend.1 later in let first = ascend.0 in omega (arith, rest, first)

-- a lock that is held on has a turn later
pub held_there : (k : ℕ) (log : List Entry) (steps : List Turned) → IsHeldOn k log steps [] → (z : Turned) × IsAmong z steps × (z.lock ≡ k)
held_there k log [] held = absurd (none-some log held)
held_there k log (w ∷ steps) held =
    by_test w.lock k
    (λ b. MatchBool b (w.earlier ≡ log) ((log_held k w.moment.held ≡ Some log) × IsHeldOn k log steps []) → (z : Turned) × IsAmong z (w ∷ steps) × (z.lock ≡ k))
    (λ same _. (w, inl refl, same)) (λ _ rest. let found = held_there k log steps rest.1 in (found.0, inr found.1, found.2)) held

module _ (shape : Shape) (lost : ℕ → Bool) where
  -- a lock held at a turn of another one, whose rank is higher
  pub higher : (step : Turned) (later : List Turned) (k : ℕ) (log : List Entry) → IsNested shape lost step later [] → step.lock ≢ k → log_held k step.moment.held ≡ Some log → rank shape k < rank shape step.lock
  higher step later k log nested other is =
      let there : Ascends shape (nested.own ∷ nested.around) = subst (Ascends shape) nested.held_are nested.ascends in
      let apart : nested.own.lock ≢ k = λ same. other (sym nested.lock_is ∙ same) in
      let behind : log_held k nested.around ≡ Some log = sym (held_behind k nested.own nested.around apart) ∙ ap (log_held k) (sym nested.held_are) ∙ is in
      subst (λ (m : ℕ). rank shape k < rank shape m) nested.lock_is (ranks_below shape k (rank shape nested.own.lock) log nested.around there.0 behind)

  -- Of a lock that is held on, and a later turn: that turn is the one before which it was held, or its rank is higher, or that
  -- one stands before it.
  abbrev pub Meets : ℕ → List Entry → Turned → List Turned → Type 0
  Meets k log t steps =
      ((t.lock ≡ k) × (t.earlier ≡ log)) ⊎ ((rank shape k < rank shape t.lock)
      ⊎ ((z : Turned) × IsAmong z steps × (z.lock ≡ k) × (z.entry.ticket < t.entry.ticket)))

  pub meets : (k : ℕ) (log : List Entry) (steps behind : List Turned) (from to : ℕ) (t : Turned) → AreNested shape lost (steps ++ behind) [] → IsHeldOn k log (steps ++ behind) []
      → AscendIn from (turn_tickets steps) to → IsAmong t steps → Meets k log t steps
  meets k log [] behind from to t nested held ascend at = absurd at
  meets k log (w ∷ steps) behind from to t nested held ascend at =
      by_test w.lock k
      (λ b. MatchBool b (w.earlier ≡ log) ((log_held k w.moment.held ≡ Some log) × IsHeldOn k log (steps ++ behind) []) → IsAmong t (w ∷ steps) → Meets k log t (w ∷ steps))
      own (λ other there it. further other there (λ later. meets k log steps behind (suc w.entry.ticket) to t nested.1 there.1 ascend.1 later) it) held at
    where
      own : w.lock ≡ k → w.earlier ≡ log → IsAmong t (w ∷ steps) → Meets k log t (w ∷ steps)
      own same comes (inl it) = inl (subst (λ (s : Turned). (s.lock ≡ k) × (s.earlier ≡ log)) it (same, comes))
      own same comes (inr later) = inr (inr (w, inl refl, same, ticket_above (suc w.entry.ticket) to steps t ascend.1 later))

      on : Meets k log t steps → Meets k log t (w ∷ steps)
      on (inl it) = inl it
      on (inr (inl up)) = inr (inl up)
      on (inr (inr z)) = inr (inr (z.0, inr z.1, z.2, z.3))

      further : w.lock ≢ k → (log_held k w.moment.held ≡ Some log) × IsHeldOn k log (steps ++ behind) [] → (IsAmong t steps → Meets k log t steps) → IsAmong t (w ∷ steps) → Meets k log t (w ∷ steps)
      further other there more (inl it) = inr (inl (subst (λ (s : Turned). rank shape k < rank shape s.lock) it (higher w (steps ++ behind) k log nested.0 other there.0)))
      further other there more (inr later) = on (more later)

  -- What is known of a lock held around a turn.
  pub record IsHeldAround (step : Turned) (later : List Turned) (k : ℕ) (log : List Entry) : Type 0 where
    pub lower : rank shape k < rank shape step.lock
    pub held_on : IsHeldOn k log later []
    pub before : lost k ≡ false → AscendIn 0 (tickets_of log) step.entry.ticket

  pub held_around : (step : Turned) (later : List Turned) (nested : IsNested shape lost step later []) (k : ℕ) (log : List Entry) → log_held k nested.around ≡ Some log → IsHeldAround step later k log
  held_around step later nested k log here =
      let ranked : Ascends shape (nested.own ∷ nested.around) = subst (Ascends shape) nested.held_are nested.ascends in
      let low : rank shape k < rank shape nested.own.lock = ranks_below shape k (rank shape nested.own.lock) log nested.around ranked.0 here in
      let apart : nested.own.lock ≢ k = λ same. let alike : rank shape nested.own.lock ≡ rank shape k = ap (rank shape) same in omega (arith, alike, low) in
      record {
        lower = subst (λ (m : ℕ). rank shape k < rank shape m) nested.lock_is low;
        held_on = nested.held_on k log here;
        before = nested.above k log (ap (log_held k) nested.held_are ∙ held_behind k nested.own nested.around apart ∙ here);
      }

  -- The lock around an inner turn.
  pub record IsInsideOf (step : Turned) (later : List Turned) : Type 0 where
    pub own : Hold
    pub outer : Hold
    pub others : List Hold
    pub held_are : step.moment.held ≡ own ∷ outer ∷ others
    pub may_be : MayBeAround shape step.entry.part (lock_named shape outer.lock) others
    pub around : IsHeldAround step later outer.lock outer.log
    -- and the one around that
    pub beneath : (below : Hold) (more : List Hold) → others ≡ below ∷ more → IsHeldAround step later below.lock below.log

  pub inside_of : (step : Turned) (later : List Turned) → IsNested shape lost step later [] → is_inner step.entry.part ≡ true → IsInsideOf step later
  inside_of step later nested inner =
      let around : IsAround shape step.entry.part nested.around = subst (λ (b : Bool). MatchBool b (IsAround shape step.entry.part nested.around) (Unit {0})) inner nested.inside in
      let outer : Hold = around.outer in
      let ranked : Ascends shape (nested.own ∷ nested.around) = subst (Ascends shape) nested.held_are nested.ascends in
      let next : Ascends shape (outer ∷ around.others) = subst (Ascends shape) around.held_are ranked.1 in
      record {
        own = nested.own;
        outer = outer;
        others = around.others;
        held_are = nested.held_are ∙ ap (λ (l : List Hold). nested.own ∷ l) around.held_are;
        may_be = around.may_be;
        around = held_around step later nested outer.lock outer.log (ap (log_held outer.lock) around.held_are ∙ held_front outer around.others);
        beneath = λ below more are.
            let under : IsAboveAll shape (rank shape outer.lock) (below ∷ more) = subst (IsAboveAll shape (rank shape outer.lock)) are next.0 in
            let low = under.0 in
            let apart : outer.lock ≢ below.lock = λ same. let alike : rank shape outer.lock ≡ rank shape below.lock = ap (rank shape) same in omega (arith, alike, low) in
            held_around step later nested below.lock below.log
            (ap (log_held below.lock) around.held_are ∙ held_behind below.lock outer around.others apart ∙ ap (log_held below.lock) are ∙ held_front below more);
      }

  -- what stands behind a turn of a strand
  pub record StandsBefore (a t : Turned) (steps behind : List Turned) (to : ℕ) : Type 0 where
    pub before : List Turned
    pub later : List Turned
    pub split : steps ++ behind ≡ before ++ a ∷ (later ++ behind)
    pub nested : IsNested shape lost a (later ++ behind) []
    pub all_nested : AreNested shape lost (later ++ behind) []
    pub from : ℕ
    pub ascend : AscendIn from (turn_tickets later) to
    pub first : a.entry.ticket < from
    pub there : IsAmong t later
    pub among : (z : Turned) → IsAmong z later → IsAmong z steps
    pub among_all : (z : Turned) → IsAmong z (later ++ behind) → IsAmong z (steps ++ behind)

  pub stands_before : (a t : Turned) (steps behind : List Turned) (from to : ℕ) → AreNested shape lost (steps ++ behind) [] → AscendIn from (turn_tickets steps) to → IsAmong a steps → IsAmong t steps
      → a.entry.ticket < t.entry.ticket → StandsBefore a t steps behind to
  stands_before a t [] behind from to nested ascend at other less = absurd at
  stands_before a t (w ∷ steps) behind from to nested ascend at other less =
      by (λ further later. stands_before a t steps behind (suc w.entry.ticket) to nested.1 ascend.1 further later less) at other
    where
      by : (IsAmong a steps → IsAmong t steps → StandsBefore a t steps behind to) → IsAmong a (w ∷ steps) → IsAmong t (w ∷ steps) → StandsBefore a t (w ∷ steps) behind to
      by more (inl same) (inl it) = absurd (let both : a.entry.ticket ≡ t.entry.ticket = ap (λ (s : Turned). s.entry.ticket) (sym same ∙ it) in omega (arith, both, less))
      by more (inl same) (inr later) = record {
        before = [];
        later = steps;
        split = ap (λ (s : Turned). s ∷ (steps ++ behind)) same;
        nested = subst (λ (s : Turned). IsNested shape lost s (steps ++ behind) []) same nested.0;
        all_nested = nested.1;
        from = suc w.entry.ticket;
        ascend = ascend.1;
        first = let both : w.entry.ticket ≡ a.entry.ticket = ap (λ (s : Turned). s.entry.ticket) same in omega (arith, both);
        there = later;
        among = λ z there. inr there;
        among_all = λ z there. inr there;
      }
      by more (inr further) (inl it) =
          absurd (let both : w.entry.ticket ≡ t.entry.ticket = ap (λ (s : Turned). s.entry.ticket) it in let above = ticket_above (suc w.entry.ticket) to steps a ascend.1 further in omega (arith, both, less, above))
      by more (inr further) (inr later) =
          let rest = more further later in
          record {
            before = w ∷ rest.before;
            later = rest.later;
            split = ap (λ (l : List Turned). w ∷ l) rest.split;
            nested = rest.nested;
            all_nested = rest.all_nested;
            from = rest.from;
            ascend = rest.ascend;
            first = rest.first;
            there = rest.there;
            among = λ z there. inr (rest.among z there);
            among_all = λ z there. inr (rest.among_all z there);
          }

-- Evictions on a map with shared lists

-- up to the next turn of a lock no turn has rank 2
abbrev pub NoneOfLists : Shape → ℕ → List Turned → Type 0
NoneOfLists shape k [] = Unit {0}
NoneOfLists shape k (step ∷ steps) = MatchBool (eqb step.lock k) (Unit {0}) ((rank shape step.lock ≢ 2) × NoneOfLists shape k steps)

lowest_local : (lock : DomainId) → rank_of lock ≡ 1 → IsTrue (is_local lock)
lowest_local (Local cpu) one = refl
lowest_local Global one = absurd (omega (arith, one))
lowest_local (CpuLru cpu) one = absurd (omega (arith, one))
lowest_local (Bucket bucket) one = absurd (omega (arith, one))
lowest_local (Freelist cpu) one = absurd (omega (arith, one))

local_lowest : (lock : DomainId) → IsTrue (is_local lock) → rank_of lock ≡ 1
local_lowest (Local cpu) is = refl
local_lowest Global is = absurd cc
local_lowest (CpuLru cpu) is = absurd cc
local_lowest (Bucket bucket) is = absurd cc
local_lowest (Freelist cpu) is = absurd cc

-- where the global lists were held around an eviction, local ones were held around these
pub local_below : (shape : Shape) (part : Part) (lock : DomainId) (others : List Hold) → MayBeAround shape part lock others → part_rank part ≡ 3 → lock ≡ Global
    → (below : Hold) × (more : List Hold) × (others ≡ below ∷ more) × (rank shape below.lock ≡ 1)
local_below shape (parts.Bucket part) lock [] may three global = absurd (may.1 global)
local_below shape (parts.Bucket part) lock (below ∷ more) may three global = (below, more, refl, local_lowest (lock_named shape below.lock) (may.1 global))
local_below shape (parts.Free part) lock others may three global = absurd (omega (arith, three))
local_below shape (parts.Local part) lock others may three global = absurd may
local_below shape (parts.Global part) lock others may three global = absurd (omega (arith, three))
local_below shape (parts.Own part) lock others may three global = absurd may

-- Where local lists were held at a turn, and the global ones weren't, no turn of these comes before the next one of those.
none_of_lists : (shape : Shape) (lost : ℕ → Bool) (step : Turned) (k : ℕ) (log : List Entry) (later : List Turned) → IsTrue (is_local (lock_named shape k)) → log_held k step.moment.held ≡ Some log
    → ((g : ℕ) (globals : List Entry) → lock_named shape g ≡ Global → log_held g step.moment.held ≡ Some globals → ⊥) → ((z : Turned) → IsAmong z later → rank shape z.lock ≡ 2 → lock_named shape z.lock ≡ Global)
    → StaysWithGlobal shape step later [] → IsHeldOn k log later [] → AreNested shape lost later [] → NoneOfLists shape k later
none_of_lists shape lost step k log [] local here none global stays held nested = tt
none_of_lists shape lost step k log (x ∷ later) local here none global stays held nested =
    by_test x.lock k
    (λ b. MatchBool b (x.earlier ≡ log) ((log_held k x.moment.held ≡ Some log) × IsHeldOn k log later []) → MatchBool b (Unit {0}) ((rank shape x.lock ≢ 2) × NoneOfLists shape k later))
    (λ _ _. tt)
    (λ _ on. (
      λ two. none x.lock nested.0.own.log (global x (inl refl) two) (stays.0 k x.lock log nested.0.own.log local (global x (inl refl) two) on.0 own_held here),
      none_of_lists shape lost step k log later local here none (λ z at. global z (inr at)) stays.1 on.1 nested.1,
    )) held
  where
    own_held : log_held x.lock x.moment.held ≡ Some nested.0.own.log
    own_held = ap (log_held x.lock) nested.0.held_are ∙ subst (λ (m : ℕ). log_held m (nested.0.own ∷ nested.0.around) ≡ Some nested.0.own.log) nested.0.lock_is (held_front nested.0.own nested.0.around)

-- So it is where local lists are the lock around an eviction.
pub alone_inside : (shape : Shape) (lost : ℕ → Bool) (step : Turned) (later : List Turned) → IsNested shape lost step later [] → AreNested shape lost later [] → (inside : IsInsideOf shape lost step later) → rank shape step.lock ≡ 3 → rank shape inside.outer.lock ≡ 1
    → ((z : Turned) → IsAmong z later → rank shape z.lock ≡ 2 → lock_named shape z.lock ≡ Global) → NoneOfLists shape inside.outer.lock later
alone_inside shape lost step later nested behind inside three one global =
    none_of_lists shape lost step inside.outer.lock inside.outer.log later (lowest_local (lock_named shape inside.outer.lock) one) here no_global global nested.with_global inside.around.held_on behind
  where
    own_lock : inside.own.lock ≡ step.lock
    own_lock = ap (λ (h : Hold). h.lock) (heads inside.own nested.own (inside.outer ∷ inside.others) nested.around (sym inside.held_are ∙ nested.held_are)) ∙ nested.lock_is

    own_rank : rank shape inside.own.lock ≡ 3
    own_rank = ap (rank shape) own_lock ∙ three

    here : log_held inside.outer.lock step.moment.held ≡ Some inside.outer.log
    here =
        let apart : inside.own.lock ≢ inside.outer.lock = λ same. let alike : rank shape inside.own.lock ≡ rank shape inside.outer.lock = ap (rank shape) same in let mine = own_rank in omega (arith, alike, one, mine) in
        ap (log_held inside.outer.lock) inside.held_are ∙ held_behind inside.outer.lock inside.own (inside.outer ∷ inside.others) apart ∙ held_front inside.outer inside.others

    no_global : (g : ℕ) (globals : List Entry) → lock_named shape g ≡ Global → log_held g step.moment.held ≡ Some globals → ⊥
    no_global g globals named is =
        let two : rank shape g ≡ 2 = ap rank_of named in
        let mine = own_rank in
        let ranked : Ascends shape (inside.own ∷ inside.outer ∷ inside.others) = subst (Ascends shape) inside.held_are nested.ascends in
        by_test inside.own.lock g (λ b. option_map (λ (h : Hold). h.log) (cond b (Some inside.own) (hold_at g (inside.outer ∷ inside.others))) ≡ Some globals → ⊥)
        (λ same _. let alike : rank shape inside.own.lock ≡ rank shape g = ap (rank shape) same in omega (arith, alike, two, mine))
        (λ _ rest. by_test inside.outer.lock g (λ b. option_map (λ (h : Hold). h.log) (cond b (Some inside.outer) (hold_at g inside.others)) ≡ Some globals → ⊥)
        (λ same _. let alike : rank shape inside.outer.lock ≡ rank shape g = ap (rank shape) same in omega (arith, alike, two, one))
        (λ _ more. let low = ranks_below shape g (rank shape inside.outer.lock) globals inside.others ranked.1.0 more in omega (arith, low, two, one)) rest)
        (ap (log_held g) (sym inside.held_are) ∙ is)

pub none_before : (shape : Shape) (k : ℕ) (steps behind : List Turned) (from to : ℕ) (t : Turned) → NoneOfLists shape k (steps ++ behind) → AscendIn from (turn_tickets steps) to → IsAmong t steps
    → (t.lock ≡ k) ⊎ ((rank shape t.lock ≢ 2) ⊎ ((z : Turned) × IsAmong z steps × (z.lock ≡ k) × (z.entry.ticket < t.entry.ticket)))
none_before shape k [] behind from to t none ascend at = absurd at
none_before shape k (w ∷ steps) behind from to t none ascend at =
    by_test w.lock k (λ b. MatchBool b (Unit {0}) ((rank shape w.lock ≢ 2) × NoneOfLists shape k (steps ++ behind)) → IsAmong t (w ∷ steps) → Its (w ∷ steps))
    own (λ other there it. further there.0 (λ later. none_before shape k steps behind (suc w.entry.ticket) to t there.1 ascend.1 later) it) none at
  where
    Its : List Turned → Type 0
    Its some = (t.lock ≡ k) ⊎ ((rank shape t.lock ≢ 2) ⊎ ((z : Turned) × IsAmong z some × (z.lock ≡ k) × (z.entry.ticket < t.entry.ticket)))

    own : w.lock ≡ k → Unit {0} → IsAmong t (w ∷ steps) → Its (w ∷ steps)
    own same nothing (inl it) = inl (subst (λ (s : Turned). s.lock ≡ k) it same)
    own same nothing (inr later) = inr (inr (w, inl refl, same, ticket_above (suc w.entry.ticket) to steps t ascend.1 later))

    on : Its steps → Its (w ∷ steps)
    on (inl it) = inl it
    on (inr (inl apart)) = inr (inl apart)
    on (inr (inr z)) = inr (inr (z.0, inr z.1, z.2, z.3))

    further : rank shape w.lock ≢ 2 → (IsAmong t steps → Its steps) → IsAmong t (w ∷ steps) → Its (w ∷ steps)
    further apart more (inl it) = inr (inl (subst (λ (s : Turned). rank shape s.lock ≢ 2) it apart))
    further apart more (inr later) = on (more later)
