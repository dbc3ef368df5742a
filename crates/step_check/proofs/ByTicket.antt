-- The places of all turns in the order of their tickets.
use Rattle.std.proofs.Common.{◌≡◌, ℕ, zero, suc, ◌+◌, ◌<◌, ◌≤◌, All, Bool, true, cond, eqb, ltb, List, [], ◌∷◌, ◌++◌, length, get_or, set, take, drop, map, refl, ap, ◌∙◌, sym, subst, ⊎_elim, arith}
use Rattle.std.specs.Prelude.{filter, IsPermutation}
use Rattle.std.specs.List.{flat_map, range_with_len, count_by}
use Rattle.std.proofs.lemmas.Bool.{cases_lt, eqb-true, lt-ltb, le-ltb}
use Rattle.std.proofs.lemmas.List.{append-nil, drop_more, drop_all, get_or-set_same, get_or-set_other, get_or-map, length-map, length-set, map-append, take_all}
use Rattle.std.proofs.lemmas.List.Elements.{All-filter, All-head, All-from_get_or, filter_more, filter_passes}
use Rattle.std.proofs.lemmas.List.Recursion.{is_count_by}
use Rattle.std.proofs.lemmas.List.Sorted.{sum_by-IsPermutation}
use Rattle.map_types.specs.ElementLists.{one, times}
use Rattle.map_types.proofs.RowLemmas.{by_test}
use Rattle.place_words.specs.declared.history.Entry.{Entry}
use Rattle.place_words.specs.declared.history.LockHistory.{LockHistory}
use Rattle.place_words.specs.Interleaving.{Drawn, entry_of, tickets_of as drawn_tickets}
use Rattle.place_words.specs.Tickets.{all_entries, tickets_of}
use Rattle.place_words.proofs.Permutes.{numbers_count}
use Rattle.turn_order.specs.Ordered.{all_drawn, drawn_in, with_ticket}
use Rattle.step_check.specs.declared.places.TurnPlace.{TurnPlace}
use Rattle.step_check.specs.Places.{AreInOrder, IsPlace, entry_at, has_ticket, last_of, turn_at, turns_at}
use Rattle.step_check.proofs.Cases.{by_bool}

abbrev ticket_at : List LockHistory → TurnPlace → ℕ
ticket_at histories place = (entry_at histories place).ticket

-- What stands at each ticket is the last of these places that has it.
pub record AreSet (histories : List LockHistory) (places first now : List TurnPlace) : Type 0 where
  pub long : length now ≡ length first
  pub last : (ticket : ℕ) (none : TurnPlace) → get_or now ticket none ≡ last_of (get_or first ticket none) (filter (has_ticket histories ticket) places)

last_pushed : (none place : TurnPlace) (places : List TurnPlace) → last_of none (places ++ place ∷ []) ≡ place
last_pushed none place [] = refl
last_pushed none place (other ∷ places) = last_pushed other place places

pub set_more : (histories : List LockHistory) (places : List TurnPlace) (i : ℕ) (first was : List TurnPlace) (entry : Entry) (d : TurnPlace) → i < length places → entry ≡ entry_at histories (get_or places i d)
    → All (λ place. ticket_at histories place < length first) places → AreSet histories (take i places) first was → AreSet histories (take (i + 1) places) first (set was entry.ticket (get_or places i d))
set_more histories places i first was entry d less at within before =
    let place : TurnPlace = get_or places i d in
    let own : entry.ticket ≡ ticket_at histories place = ap (λ (e : Entry). e.ticket) at in
    let room : entry.ticket < length was = subst (λ n. n < length was) (sym own) (subst (λ n. ticket_at histories place < n) (sym before.long) (within i d less)) in
    record {
      long = length-set was entry.ticket place ∙ before.long;
      last = λ ticket none.
          let some : List TurnPlace = filter (has_ticket histories ticket) (take i places) in
          let more : filter (has_ticket histories ticket) (take (i + 1) places) ≡ some ++ cond (has_ticket histories ticket place) (place ∷ []) [] = filter_more (has_ticket histories ticket) places i d less in
          let told : get_or (set was entry.ticket place) ticket none ≡ last_of (get_or first ticket none) (some ++ cond (eqb (ticket_at histories place) ticket) (place ∷ []) []) =
          by_test (ticket_at histories place) ticket (λ b. get_or (set was entry.ticket place) ticket none ≡ last_of (get_or first ticket none) (some ++ cond b (place ∷ []) []))
          (λ is. ap (λ n. get_or (set was n place) ticket none) (own ∙ is) ∙ (get_or-set_same was ticket place none (subst (λ n. n < length was) (own ∙ is) room) ∙ sym (last_pushed (get_or first ticket none) place some)))
          (λ other. get_or-set_other was entry.ticket ticket place none (λ is. other (sym own ∙ sym is)) ∙ (before.last ticket none ∙ ap (last_of (get_or first ticket none)) (sym (append-nil some)))) in
          told ∙ ap (last_of (get_or first ticket none)) (sym more);
    }

pub set_all : (histories : List LockHistory) (places : List TurnPlace) (i : ℕ) (first now : List TurnPlace) → length places ≤ i → AreSet histories (take i places) first now
    → (ticket : ℕ) (none : TurnPlace) → get_or now ticket none ≡ last_of (get_or first ticket none) (filter (has_ticket histories ticket) places)
set_all histories places i first now past set ticket none = set.last ticket none ∙ ap (λ (l : List TurnPlace). last_of (get_or first ticket none) (filter (has_ticket histories ticket) l)) (take_all i places past)

-- The law

times_counts : (e : ℕ) (xs : List ℕ) → times e xs ≡ count_by (λ x. eqb x e) xs
times_counts e xs =
    is_count_by (times e) (λ x. eqb x e) refl (λ x ys. by_test x e (λ b. cond b (suc (times e ys)) (times e ys) ≡ cond b (1 + times e ys) (times e ys)) (λ _. omega arith) (λ _. refl)) xs

permuted_count : (n : ℕ) (es : List ℕ) → IsPermutation (range_with_len 0 n) es → (e : ℕ) → times e es ≡ one (ltb e n)
permuted_count n es permuted e =
    times_counts e es ∙ (sum_by-IsPermutation (λ x. cond (eqb x e) 1 0) (range_with_len 0 n) es permuted ∙ (sym (times_counts e (range_with_len 0 n)) ∙ numbers_count e n))

-- how many pass is how often the ticket stands there
filter_count : (f : TurnPlace → ℕ) (e : ℕ) (places : List TurnPlace) → length (filter (λ place. eqb (f place) e) places) ≡ times e (map f places)
filter_count f e [] = refl
filter_count f e (place ∷ places) =
    let rest : length (filter (λ p. eqb (f p) e) places) ≡ times e (map f places) = filter_count f e places in
    by_test (f place) e (λ b. length (cond b (place ∷ filter (λ p. eqb (f p) e) places) (filter (λ p. eqb (f p) e) places)) ≡ cond b (suc (times e (map f places))) (times e (map f places)))
    (λ is. ap suc rest)
    (λ other. rest)

single : (places : List TurnPlace) → length places ≡ 1 → (place : TurnPlace) × (places ≡ place ∷ [])
single [] one_is = absurd (omega (arith, one_is))
single (place ∷ []) one_is = (place, refl)
single (place ∷ other ∷ places) one_is = absurd (omega (arith, one_is))

filter_named : (f : TurnPlace → Drawn) (p : Drawn → Bool) (places : List TurnPlace) → filter p (map f places) ≡ map f (filter (λ place. p (f place)) places)
filter_named f p [] = refl
filter_named f p (place ∷ places) =
    let rest : filter p (map f places) ≡ map f (filter (λ place. p (f place)) places) = filter_named f p places in
    by_bool (p (f place))
    (λ b. cond b (f place ∷ filter p (map f places)) (filter p (map f places)) ≡ map f (cond b (place ∷ filter (λ place. p (f place)) places) (filter (λ place. p (f place)) places)))
    (ap (λ (l : List Drawn). f place ∷ l) rest) rest

-- the tickets of places are those of the entries
entries_in : (history : LockHistory) (entries : List Entry) → map entry_of (map (λ (entry : Entry). record { lock = history.lock; entry = entry }) entries) ≡ entries
entries_in history [] = refl
entries_in history (entry ∷ entries) = ap (λ (l : List Entry). entry ∷ l) (entries_in history entries)

entries_drawn : (histories : List LockHistory) → map entry_of (all_drawn histories) ≡ all_entries histories
entries_drawn [] = refl
entries_drawn (history ∷ histories) =
    map-append entry_of (drawn_in history) (all_drawn histories) ∙ (λ j. entries_in history history.entries j ++ entries_drawn histories j)

tickets_map : (entries : List Entry) → map (λ (entry : Entry). entry.ticket) entries ≡ tickets_of entries
tickets_map [] = refl
tickets_map (entry ∷ entries) = ap (λ (l : List ℕ). entry.ticket ∷ l) (tickets_map entries)

tickets_at : (histories : List LockHistory) (places : List TurnPlace) → map (ticket_at histories) places ≡ map (λ (entry : Entry). entry.ticket) (map entry_of (turns_at histories places))
tickets_at histories [] = refl
tickets_at histories (place ∷ places) = ap (λ (l : List ℕ). ticket_at histories place ∷ l) (tickets_at histories places)

pub tickets_told : (histories : List LockHistory) (places : List TurnPlace) → turns_at histories places ≡ all_drawn histories → map (ticket_at histories) places ≡ tickets_of (all_entries histories)
tickets_told histories places named =
    tickets_at histories places ∙ (ap (λ (l : List Drawn). map (λ (entry : Entry). entry.ticket) (map entry_of l)) named
    ∙ (ap (map (λ (entry : Entry). entry.ticket)) (entries_drawn histories) ∙ tickets_map (all_entries histories)))

-- there are as many places as entries
pub as_many : (histories : List LockHistory) (places : List TurnPlace) → turns_at histories places ≡ all_drawn histories → length places ≡ length (all_entries histories)
as_many histories places named =
    sym (length-map places (turn_at histories)) ∙ (ap length named ∙ (sym (length-map (all_drawn histories) entry_of) ∙ ap length (entries_drawn histories)))

-- each ticket is below the count
is_in : (xs : List ℕ) (k d : ℕ) → k < length xs → 0 < times (get_or xs k d) xs
is_in [] k d less = absurd (omega (arith, less))
is_in (x ∷ xs) zero d less = by_test x x (λ b. 0 < cond b (suc (times x xs)) (times x xs)) (λ is. omega arith) (λ other. absurd (other refl))
is_in (x ∷ xs) (suc k) d less =
    let rest : 0 < times (get_or xs k d) xs = is_in xs k d (omega (arith, less)) in
    by_test x (get_or xs k d) (λ b. 0 < cond b (suc (times (get_or xs k d) xs)) (times (get_or xs k d) xs)) (λ is. omega arith) (λ other. rest)

below : (n : ℕ) (xs : List ℕ) → ((e : ℕ) → times e xs ≡ one (ltb e n)) → (k d : ℕ) → k < length xs → get_or xs k d < n
below n xs counts k d less =
    let there : 0 < times (get_or xs k d) xs = is_in xs k d less in
    ⊎_elim (λ (within : get_or xs k d < n). within)
    (λ (past : n ≤ get_or xs k d). let none : one (ltb (get_or xs k d) n) ≡ 0 = ap one (le-ltb (get_or xs k d) n past) in let count : times (get_or xs k d) xs ≡ one (ltb (get_or xs k d) n) = counts (get_or xs k d) in absurd (omega arith))
    (cases_lt (get_or xs k d) n)

pub tickets_within : (histories : List LockHistory) (places : List TurnPlace) (count : ℕ) → IsPermutation (range_with_len 0 (length (all_entries histories))) (tickets_of (all_entries histories)) → turns_at histories places ≡ all_drawn histories
    → length places ≡ count → All (λ place. ticket_at histories place < count) places
tickets_within histories places count once named counted k d less =
    let tickets : List ℕ = map (ticket_at histories) places in
    let are : tickets ≡ tickets_of (all_entries histories) = tickets_told histories places named in
    let n : ℕ = length (all_entries histories) in
    let within : get_or tickets k 0 < n = below n tickets (λ e. ap (times e) are ∙ permuted_count n (tickets_of (all_entries histories)) once e) k 0 (subst (λ m. k < m) (sym (length-map places (ticket_at histories))) less) in
    subst (λ m. ticket_at histories (get_or places k d) < m) (sym (as_many histories places named) ∙ counted)
    (subst (λ m. m < n) (get_or-map (ticket_at histories) places k d 0 less) within)

-- the turn of a ticket, by its place
record IsAt (histories : List LockHistory) (order : List TurnPlace) (none : TurnPlace) (ticket : ℕ) : Type 0 where
  named : with_ticket ticket (all_drawn histories) ≡ turn_at histories (get_or order ticket none) ∷ []
  real : IsPlace histories (get_or order ticket none)
  own : ticket_at histories (get_or order ticket none) ≡ ticket

at_ticket : (histories : List LockHistory) (places first order : List TurnPlace) (none : TurnPlace) (ticket : ℕ) → ticket < length (all_entries histories)
    → IsPermutation (range_with_len 0 (length (all_entries histories))) (tickets_of (all_entries histories)) → turns_at histories places ≡ all_drawn histories → All (IsPlace histories) places
    → get_or order ticket none ≡ last_of (get_or first ticket none) (filter (has_ticket histories ticket) places) → IsAt histories order none ticket
at_ticket histories places first order none ticket less once named real last =
    let some : List TurnPlace = filter (has_ticket histories ticket) places in
    let n : ℕ = length (all_entries histories) in
    let count : length some ≡ 1 =
    filter_count (ticket_at histories) ticket places ∙ (ap (times ticket) (tickets_told histories places named) ∙ (permuted_count n (tickets_of (all_entries histories)) once ticket ∙ ap one (lt-ltb ticket n less))) in
    let found : (place : TurnPlace) × (some ≡ place ∷ []) = single some count in
    let here : get_or order ticket none ≡ found.0 = last ∙ ap (last_of (get_or first ticket none)) found.1 in
    record {
      named = ap (with_ticket ticket) (sym named) ∙ (filter_named (turn_at histories) (λ (drawn : Drawn). eqb drawn.entry.ticket ticket) places
          ∙ (ap (turns_at histories) found.1 ∙ ap (λ (place : TurnPlace). turn_at histories place ∷ []) (sym here)));
      real = subst (IsPlace histories) (sym here)
          (All-head (IsPlace histories) found.0 [] (subst (All (IsPlace histories)) found.1 (All-filter (has_ticket histories ticket) (IsPlace histories) places real)));
      own = ap (ticket_at histories) here
          ∙ eqb-true (ticket_at histories found.0) ticket (All-head (λ place. has_ticket histories ticket place ≡ true) found.0 [] (subst (All (λ place. has_ticket histories ticket place ≡ true)) found.1 (filter_passes (has_ticket histories ticket) places)));
    }

each_listed : (histories : List LockHistory) (order : List TurnPlace) (none : TurnPlace) (turns : ℕ → List Drawn) (from count : ℕ) → from + count ≡ length order
    → ((ticket : ℕ) → ticket < length order → turns ticket ≡ turn_at histories (get_or order ticket none) ∷ []) → turns_at histories (drop from order) ≡ flat_map turns (range_with_len from count)
each_listed histories order none turns from zero long are = ap (turns_at histories) (drop_all from order (omega (arith, long)))
each_listed histories order none turns from (suc count) long are =
    let less : from < length order = omega (arith, long) in
    let rest : turns_at histories (drop (from + 1) order) ≡ flat_map turns (range_with_len (from + 1) count) = each_listed histories order none turns (from + 1) count (omega (arith, long)) are in
    ap (turns_at histories) (drop_more order from none less) ∙ (λ j. sym (are from less) j ++ rest j)

tickets_listed : (histories : List LockHistory) (order : List TurnPlace) (none : TurnPlace) (from count : ℕ) → from + count ≡ length order → ((ticket : ℕ) → ticket < length order → ticket_at histories (get_or order ticket none) ≡ ticket)
    → drawn_tickets (turns_at histories (drop from order)) ≡ range_with_len from count
tickets_listed histories order none from zero long are = ap (λ (l : List TurnPlace). drawn_tickets (turns_at histories l)) (drop_all from order (omega (arith, long)))
tickets_listed histories order none from (suc count) long are =
    let less : from < length order = omega (arith, long) in
    ap (λ (l : List TurnPlace). drawn_tickets (turns_at histories l)) (drop_more order from none less)
    ∙ (λ j. are from less j ∷ tickets_listed histories order none (from + 1) count (omega (arith, long)) are j)

pub in_order : (histories : List LockHistory) (places first order : List TurnPlace) (none : TurnPlace)
    → IsPermutation (range_with_len 0 (length (all_entries histories))) (tickets_of (all_entries histories)) → turns_at histories places ≡ all_drawn histories → All (IsPlace histories) places
    → length order ≡ length places → ((ticket : ℕ) (none : TurnPlace) → get_or order ticket none ≡ last_of (get_or first ticket none) (filter (has_ticket histories ticket) places)) → AreInOrder histories order
in_order histories places first order none once named real long last =
    let n : ℕ = length (all_entries histories) in
    let long_is : length order ≡ n = long ∙ as_many histories places named in
    let each : (ticket : ℕ) → ticket < length order → IsAt histories order none ticket =
    λ ticket less. at_ticket histories places first order none ticket (subst (λ m. ticket < m) long_is less) once named real (last ticket none) in
    record {
      real = All-from_get_or (IsPlace histories) order none (λ k less. (each k less).real);
      in_order = each_listed histories order none (λ ticket. with_ticket ticket (all_drawn histories)) 0 n (let z : 0 + n ≡ n = omega arith in z ∙ sym long_is) (λ ticket less. (each ticket less).named);
      tickets = tickets_listed histories order none 0 (length order) (omega arith) (λ ticket less. (each ticket less).own);
    }
