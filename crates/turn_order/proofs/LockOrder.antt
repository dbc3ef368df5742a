-- The turns of each lock, in the order of all, are its history, where no lock has two; and only one order of turns is such.
use Rattle.std.proofs.Common.{◌≡◌, ◌⊎◌, inl, inr, ℕ, Bool, true, false, ◌||◌, cond, List, [], ◌∷◌, map, refl, ap, sym, ◌∙◌, subst, arith}
use Rattle.std.specs.Prelude.{All, IsTrue}
use Rattle.std.specs.List.{range_with_len}
use Rattle.std.proofs.lemmas.List.Elements.{All-head, All-tail}
use Rattle.map_types.specs.declared.kind.DomainId.{DomainId}
use Rattle.place_words.specs.declared.history.Entry.{Entry}
use Rattle.place_words.specs.declared.history.LockHistory.{LockHistory}
use Rattle.place_words.specs.Interleaving.{Drawn, tickets_of, entry_of, drawn_on}
use Rattle.place_words.specs.Locks.{is_same_lock}
use Rattle.place_words.specs.Named.{entries_of}
use Rattle.place_words.specs.Tickets as by_entry
use Rattle.place_words.specs.Tickets.{AscendIn, all_entries}
use Rattle.place_words.proofs.LockLemmas.{same_lock, one_lock}
use Rattle.turn_order.specs.Ordered.{drawn_in, all_drawn, ordered}
use Rattle.turn_order.specs.OrderLaws.{turn_count, AreDrawnOnce, AscendInEach, is_one_of, AreApart, locks_in}
use Rattle.turn_order.proofs.Members.{IsAmong, among_filter, filter_among, among_map, map_among, all_among, append_among, among_front, among_back}
use Rattle.turn_order.proofs.InOrder.{ascend_filter, one_list, one_by_tickets}
use Rattle.turn_order.proofs.TicketOrder.{entry_tickets, ordered_tickets, ordered_ascend, all_ordered, ordered_all}

-- the turns with these entries on a lock
abbrev pub drawn_as : DomainId → List Entry → List Drawn
drawn_as lock entries = map (λ (entry : Entry). record { lock = lock; entry = entry }) entries

pub entries_back : (lock : DomainId) (entries : List Entry) → map entry_of (drawn_as lock entries) ≡ entries
entries_back lock [] = refl
entries_back lock (entry ∷ entries) = ap (λ (l : List Entry). entry ∷ l) (entries_back lock entries)

pub one_drawn : (x y : Drawn) → x.lock ≡ y.lock → x.entry ≡ y.entry → x ≡ y
one_drawn x y lock entry = ap (λ (l : DomainId). record { lock = l; entry = x.entry }) lock ∙ ap (λ (e : Entry). record { lock = y.lock; entry = e }) entry

-- a turn of a lock among these has its entry among them
pub entry_among : (lock : DomainId) (entries : List Entry) (x : Drawn) → IsAmong x (drawn_as lock entries) → (x.lock ≡ lock) × IsAmong x.entry entries
entry_among lock entries x there =
    let found = map_among (λ (entry : Entry). record { lock = lock; entry = entry }) x entries there in
    (sym (ap (λ (w : Drawn). w.lock) found.2), subst (λ (e : Entry). IsAmong e entries) (ap (λ (w : Drawn). w.entry) found.2) found.1)

pub among_entry : (lock : DomainId) (entries : List Entry) (x : Drawn) → x.lock ≡ lock → IsAmong x.entry entries → IsAmong x (drawn_as lock entries)
among_entry lock entries x same there = subst (λ (l : DomainId). IsAmong x (drawn_as l entries)) same (among_map (λ (entry : Entry). record { lock = x.lock; entry = entry }) x.entry entries there)

-- a lock that isn't among these has no history
none_there : (histories : List LockHistory) (lock : DomainId) → is_one_of (locks_in histories) lock ≡ false → entries_of histories lock ≡ []
none_there [] lock none = refl
none_there (history ∷ histories) lock none = by (is_same_lock history.lock lock) none (none_there histories lock)
  where
    by : (b : Bool) → (b || is_one_of (locks_in histories) lock) ≡ false → (is_one_of (locks_in histories) lock ≡ false → entries_of histories lock ≡ []) → cond b history.entries (entries_of histories lock) ≡ []
    by true is rest = absurd cc
    by false is rest = rest is

-- what has entries is one of the locks
pub one_there : (histories : List LockHistory) (lock : DomainId) (e : Entry) → IsAmong e (entries_of histories lock) → is_one_of (locks_in histories) lock ≡ true
one_there [] lock e there = absurd there
one_there (history ∷ histories) lock e there = by (is_same_lock history.lock lock) there (one_there histories lock e)
  where
    by : (b : Bool) → IsAmong e (cond b history.entries (entries_of histories lock)) → (IsAmong e (entries_of histories lock) → is_one_of (locks_in histories) lock ≡ true) → (b || is_one_of (locks_in histories) lock) ≡ true
    by true here rest = refl
    by false later rest = rest later

-- an entry of a lock's history is a turn among all
pub drawn_there : (histories : List LockHistory) (x : Drawn) → IsAmong x.entry (entries_of histories x.lock) → IsAmong x (all_drawn histories)
drawn_there [] x there = absurd there
drawn_there (history ∷ histories) x there = by (is_same_lock history.lock x.lock) refl there (drawn_there histories x)
  where
    by : (b : Bool) → is_same_lock history.lock x.lock ≡ b → IsAmong x.entry (cond b history.entries (entries_of histories x.lock)) → (IsAmong x.entry (entries_of histories x.lock) → IsAmong x (all_drawn histories)) → IsAmong x (all_drawn (history ∷ histories))
    by true is here rest = among_front x (drawn_in history) (all_drawn histories) (among_entry history.lock history.entries x (sym (one_lock history.lock x.lock is)) here)
    by false is later rest = among_back x (drawn_in history) (all_drawn histories) (rest later)

-- and a turn among all is an entry of its lock's history, where no lock has two
pub there_drawn : (histories : List LockHistory) → AreApart (locks_in histories) → (x : Drawn) → IsAmong x (all_drawn histories) → IsAmong x.entry (entries_of histories x.lock)
there_drawn [] apart x there = absurd there
there_drawn (history ∷ histories) apart x there = by (append_among x (drawn_in history) (all_drawn histories) there) (there_drawn histories apart.1 x)
  where
    later : (b : Bool) → is_same_lock history.lock x.lock ≡ b → IsAmong x.entry (entries_of histories x.lock) → IsAmong x.entry (cond b history.entries (entries_of histories x.lock))
    later true is rest =
        let same : history.lock ≡ x.lock = one_lock history.lock x.lock is in
        let none : entries_of histories x.lock ≡ [] = none_there histories x.lock (subst (λ (l : DomainId). is_one_of (locks_in histories) l ≡ false) same apart.0) in
        absurd (subst (λ (l : List Entry). IsAmong x.entry l) none rest)
    later false is rest = rest

    by : IsAmong x (drawn_in history) ⊎ IsAmong x (all_drawn histories) → (IsAmong x (all_drawn histories) → IsAmong x.entry (entries_of histories x.lock)) → IsAmong x.entry (entries_of (history ∷ histories) x.lock)
    by (inl here) rest =
        let found = entry_among history.lock history.entries x here in
        subst (λ (b : Bool). IsAmong x.entry (cond b history.entries (entries_of histories x.lock))) (sym (ap (λ (l : DomainId). is_same_lock history.lock l) found.0 ∙ same_lock history.lock)) found.1
    by (inr there) rest = later (is_same_lock history.lock x.lock) refl (rest there)

-- the tickets of each lock's history ascend
pub entries_ascend : (histories : List LockHistory) (n : ℕ) → All (λ (history : LockHistory). AscendIn 0 (by_entry.tickets_of history.entries) n) histories → (lock : DomainId) → AscendIn 0 (by_entry.tickets_of (entries_of histories lock)) n
entries_ascend [] n all lock = omega arith
entries_ascend (history ∷ histories) n all lock =
    by (is_same_lock history.lock lock) (All-head (λ (h : LockHistory). AscendIn 0 (by_entry.tickets_of h.entries) n) history histories all)
    (entries_ascend histories n (All-tail (λ (h : LockHistory). AscendIn 0 (by_entry.tickets_of h.entries) n) history histories all) lock)
  where
    by : (b : Bool) → AscendIn 0 (by_entry.tickets_of history.entries) n → AscendIn 0 (by_entry.tickets_of (entries_of histories lock)) n → AscendIn 0 (by_entry.tickets_of (cond b history.entries (entries_of histories lock))) n
    by true here rest = here
    by false here rest = rest

module _ (histories : List LockHistory) (once : AreDrawnOnce histories) (apart : AreApart (locks_in histories)) where
  -- a turn stands in the order exactly where its entry stands in its lock's history
  pub in_history : (x : Drawn) → IsAmong x (ordered histories) → IsAmong x.entry (entries_of histories x.lock)
  in_history x there = there_drawn histories apart x (ordered_all histories x there)

  pub in_order : (x : Drawn) → IsAmong x.entry (entries_of histories x.lock) → IsAmong x (ordered histories)
  in_order x there = all_ordered histories once x (drawn_there histories x there)

  pub its_lock : (x : Drawn) → IsAmong x (ordered histories) → is_one_of (locks_in histories) x.lock ≡ true
  its_lock x there = one_there histories x.lock x.entry (in_history x there)

  pub locks_of_ordered : All (λ (drawn : Drawn). IsTrue (is_one_of (locks_in histories) drawn.lock)) (ordered histories)
  locks_of_ordered = all_among (λ (drawn : Drawn). IsTrue (is_one_of (locks_in histories) drawn.lock)) (ordered histories) its_lock

  -- the turns of a lock
  module _ (ascend : AscendInEach histories) (lock : DomainId) where
    abbrev on : Drawn → Bool
    on drawn = is_same_lock drawn.lock lock

    drawn_is : (x : Drawn) → IsAmong x (drawn_on lock (ordered histories)) → IsAmong x (drawn_as lock (entries_of histories lock))
    drawn_is x there =
        let found = filter_among on x (ordered histories) there in
        let same : x.lock ≡ lock = one_lock x.lock lock found.1 in
        among_entry lock (entries_of histories lock) x same (subst (λ (l : DomainId). IsAmong x.entry (entries_of histories l)) same (in_history x found.0))

    is_drawn : (x : Drawn) → IsAmong x (drawn_as lock (entries_of histories lock)) → IsAmong x (drawn_on lock (ordered histories))
    is_drawn x there =
        let found = entry_among lock (entries_of histories lock) x there in
        let same : is_same_lock x.lock lock ≡ true = ap (λ (l : DomainId). is_same_lock l lock) found.0 ∙ same_lock lock in
        among_filter on x (ordered histories) same (in_order x (subst (λ (l : DomainId). IsAmong x.entry (entries_of histories l)) (sym found.0) found.1))

    pub on_lock : drawn_on lock (ordered histories) ≡ drawn_as lock (entries_of histories lock)
    on_lock =
        one_list 0 0 (drawn_on lock (ordered histories)) (drawn_as lock (entries_of histories lock)) (turn_count histories)
        (ascend_filter on 0 (ordered histories) (turn_count histories) (ordered_ascend histories once))
        (subst (λ (l : List ℕ). AscendIn 0 l (turn_count histories)) (sym (entry_tickets lock (entries_of histories lock))) (entries_ascend histories (turn_count histories) ascend lock))
        drawn_is is_drawn

    pub entries_on : map entry_of (drawn_on lock (ordered histories)) ≡ entries_of histories lock
    entries_on = ap (map entry_of) on_lock ∙ entries_back lock (entries_of histories lock)

  -- no other order
  module _ (turns : List Drawn) (tickets : tickets_of turns ≡ range_with_len 0 (turn_count histories)) (are : (lock : DomainId) → IsTrue (is_one_of (locks_in histories) lock) → map entry_of (drawn_on lock turns) ≡ entries_of histories lock) where
    is_there : (x : Drawn) → IsAmong x (ordered histories) → IsAmong x turns
    is_there x there =
        let entry : IsAmong x.entry (map entry_of (drawn_on x.lock turns)) = subst (λ (l : List Entry). IsAmong x.entry l) (sym (are x.lock (its_lock x there))) (in_history x there) in
        let found = map_among entry_of x.entry (drawn_on x.lock turns) entry in
        let kept = filter_among (λ (drawn : Drawn). is_same_lock drawn.lock x.lock) found.0 turns found.1 in
        subst (λ (w : Drawn). IsAmong w turns) (one_drawn found.0 x (one_lock found.0.lock x.lock kept.1) found.2) kept.0

    turns_ascend : AscendIn 0 (tickets_of turns) (turn_count histories)
    turns_ascend = subst (λ (l : List ℕ). AscendIn 0 l (turn_count histories)) (ordered_tickets histories once ∙ sym tickets) (ordered_ascend histories once)

    pub one_order : turns ≡ ordered histories
    one_order = sym (one_by_tickets 0 0 (ordered histories) turns (turn_count histories) (ordered_ascend histories once) turns_ascend (ordered_tickets histories once ∙ sym tickets) is_there)
