-- The spare of a CPU before a call, and how the call's turns carry it on.
use Rattle.std.proofs.Common.{◌≡◌, inl, ℕ, zero, suc, ◌+◌, ◌*◌, ◌<◌, ◌≤◌, Bool, true, false, cond, eqb, ltb, List, [], ◌∷◌, ◌++◌, length, map, Option, Some, refl, ap, sym, ◌∙◌, subst, arith}
use Rattle.std.specs.Prelude.{filter, slice_get, take}
use Rattle.std.specs.List.{flat_map, range_with_len}
use Rattle.std.proofs.lemmas.Bool.{cond-true, eq-eqb, eqb-true, lt-ltb, le-ltb, ne_eqb}
use Rattle.std.proofs.lemmas.Grind.{flat_map-append}
use Rattle.std.proofs.lemmas.List.{append-nil, map-append}
use Rattle.std.proofs.lemmas.List.Elements.{filter-append}
use Rattle.std.proofs.lemmas.Option.{none-some}
use Rattle.map_types.specs.ElementLists.{put}
use Rattle.map_types.specs.Kind.{is_lru}
use Rattle.map_types.specs.declared.attr.Shape.{Shape}
use Rattle.place_words.specs.declared.history.Entry.{Entry}
use Rattle.place_words.specs.declared.history.LockHistory.{LockHistory}
use Rattle.place_words.specs.Interleaving.{Drawn, tickets_of, turn_of}
use Rattle.place_words.specs.Named.{entries_of}
use Rattle.place_words.specs.Phases.{drawn_before}
use Rattle.place_words.specs.PlainTraces.{spare_after}
use Rattle.place_words.specs.Tickets.{AscendIn}
use Rattle.place_words.specs.Turns.{Turn, TurnAt, turns_of}
use Rattle.place_words.specs.Walks.{spare_left}
use Rattle.map_report.specs.Serial.{opening}
use Rattle.map_report.specs.Turns.{spare_at}
use Rattle.turn_order.specs.Ordered.{all_drawn, ordered}
use Rattle.turn_order.specs.OrderLaws.{turn_count, AreDrawnOnce, AscendInEach, AreApart, locks_in}
use Rattle.turn_order.proofs.Members.{IsAmong, among_at, among_back, among_front, filter_among}
use Rattle.turn_order.proofs.InOrder.{ascend_filter, ticket_from}
use Rattle.turn_order.proofs.LockOrder.{entries_ascend, in_history}
use Rattle.turn_order.proofs.TicketOrder.{ordered_all, ordered_ascend}
use Rattle.call_check.proofs.PlacedTurns.{at_of, take_drawn}
use Rattle.call_check.proofs.Filtered.{keeps_all, keeps_none}
use Rattle.call_check.specs.RightCalls.{spare_first, spare_of_entry, ticket_bound}
use Rattle.call_check.proofs.BelowTicket.{drawn_below, drawn_earlier, drawn_of, of_call, of_call_below, range_split}
use Rattle.call_check.proofs.CarriedSpares.{Carries, spare_joined}
use Rattle.call_check.proofs.Moments.{before_ticket, turns_by_call}
use Rattle.call_check.proofs.PhaseMoments.{CallsRise, before_own}

taken_long : {A : Type 0} (xs : List A) (k : ℕ) (x : A) → slice_get xs k ≡ Some x → length (take k xs) ≡ k
taken_long [] k x at = absurd (none-some x at)
taken_long (y ∷ xs) zero x at = refl
taken_long (y ∷ xs) (suc k) x at = ap suc (taken_long xs k x at)

-- below a turn's ticket are those before it
below_here : (from : ℕ) (before : List Drawn) (x : Drawn) (later : List Drawn) (to : ℕ) → AscendIn from (tickets_of (before ++ x ∷ later)) to
    → filter (λ (drawn : Drawn). ltb drawn.entry.ticket x.entry.ticket) (before ++ x ∷ later) ≡ before
below_here from [] x later to ascend =
    keeps_none (λ (drawn : Drawn). ltb drawn.entry.ticket x.entry.ticket) (x ∷ later)
    (λ y there. le-ltb y.entry.ticket x.entry.ticket (ticket_from x.entry.ticket (x ∷ later) to y (omega arith, ascend.1) there))
below_here from (b ∷ before) x later to ascend =
    let above : suc b.entry.ticket ≤ x.entry.ticket = ticket_from (suc b.entry.ticket) (before ++ x ∷ later) to x ascend.1 (among_back x before (x ∷ later) (inl refl)) in
    cond-true (ltb b.entry.ticket x.entry.ticket) (b ∷ filter (λ (drawn : Drawn). ltb drawn.entry.ticket x.entry.ticket) (before ++ x ∷ later)) (filter (λ (drawn : Drawn). ltb drawn.entry.ticket x.entry.ticket) (before ++ x ∷ later)) (lt-ltb b.entry.ticket x.entry.ticket (omega (arith, above)))
    ∙ ap (λ (l : List Drawn). b ∷ l) (below_here (suc b.entry.ticket) before x later to ascend.1)

-- a list of images, taken apart
pub record Parts {A B : Type 0} (f : A → B) (xs : List A) (front : List B) (y : B) : Type 0 where
  pub before : List A
  pub here : A
  pub later : List A
  pub is : xs ≡ before ++ here ∷ later
  pub front_is : map f before ≡ front
  pub here_is : f here ≡ y

parts_of : {A B : Type 0} (f : A → B) (xs : List A) (front : List B) (y : B) (back : List B) → map f xs ≡ front ++ y ∷ back → Parts f xs front y
parts_of f [] [] y back is = absurd cc
parts_of f [] (z ∷ front) y back is = absurd cc
parts_of f (x ∷ xs) [] y back is = record { before = []; here = x; later = xs; is = refl; front_is = refl; here_is = cc }
parts_of f (x ∷ xs) (z ∷ front) y back is = by (parts_of f xs front y back cc)
  where
    first : f x ≡ z
    first = cc

    by : Parts f xs front y → Parts f (x ∷ xs) (z ∷ front) y
    by rest = record {
      before = x ∷ rest.before;
      here = rest.here;
      later = rest.later;
      is = ap (λ (l : List _). x ∷ l) rest.is;
      front_is = ap (λ (w : _). w ∷ map f rest.before) first ∙ ap (λ (l : List _). z ∷ l) rest.front_is;
      here_is = rest.here_is;
    }

-- of some turns those of a CPU
abbrev pub turns_on : ℕ → List Drawn → List Turn
turns_on cpu turns = map turn_of (filter (λ (drawn : Drawn). eqb drawn.entry.cpu cpu) turns)

pub turns_at : (histories : List LockHistory) (xs : List Drawn) → turns_of (map (at_of histories) xs) ≡ map turn_of xs
turns_at histories [] = refl
turns_at histories (x ∷ xs) = ap (λ (l : List Turn). turn_of x ∷ l) (turns_at histories xs)

pub all_on : (cpu : ℕ) (xs : List Drawn) → ((x : Drawn) → IsAmong x xs → x.entry.cpu ≡ cpu) → turns_on cpu xs ≡ map turn_of xs
all_on cpu xs each = ap (map turn_of) (keeps_all (λ (drawn : Drawn). eqb drawn.entry.cpu cpu) xs (λ x there. eq-eqb x.entry.cpu cpu (each x there)))

on_joined : (cpu : ℕ) (xs ys : List Drawn) → turns_on cpu (xs ++ ys) ≡ turns_on cpu xs ++ turns_on cpu ys
on_joined cpu xs ys =
    ap (map turn_of) (filter-append (λ (drawn : Drawn). eqb drawn.entry.cpu cpu) xs ys)
    ∙ map-append turn_of (filter (λ (drawn : Drawn). eqb drawn.entry.cpu cpu) xs) (filter (λ (drawn : Drawn). eqb drawn.entry.cpu cpu) ys)

-- of what is put in a place
pub put_at : {A : Type 0} (f : ℕ → A) (k : ℕ) (x : A) → put f k x k ≡ x
unfolding put
put_at f k x = ap (λ (b : Bool). cond b x (f k)) (eq-eqb k k refl)

pub put_beside : {A : Type 0} (f : ℕ → A) (k : ℕ) (x : A) (j : ℕ) → (j ≡ k → ⊥) → put f k x j ≡ f j
unfolding put
put_beside f k x j other = ap (λ (b : Bool). cond b x (f j)) (ne_eqb j k other)

-- the spare before a call, where all turns of calls before it were made
abbrev pub spare_to : Shape → List LockHistory → ℕ → ℕ → Option ℕ
spare_to shape histories cpu number = spare_after (spare_at (opening shape) cpu) (turns_on cpu (drawn_earlier number (all_drawn histories)))

-- on a map that evicts the one with which the CPU began
abbrev pub spare_by : Shape → List LockHistory → ℕ → ℕ → Option ℕ
spare_by shape histories cpu number = cond (is_lru shape.kind) (spare_at (opening shape) cpu) (spare_to shape histories cpu number)

module _ (shape : Shape) (histories : List LockHistory) (once : AreDrawnOnce histories) (low : (x : Drawn) → IsAmong x (all_drawn histories) → x.entry.ticket < ticket_bound) where
  abbrev turns_in : ℕ → List Drawn
  turns_in number = drawn_of number (ordered histories)

  one_more : (number : ℕ) → drawn_earlier (suc number) (all_drawn histories) ≡ drawn_earlier number (all_drawn histories) ++ turns_in number
  one_more number =
      let next : suc number ≡ number + 1 = omega arith in
      let all : List Drawn = all_drawn histories in
      ap (λ (k : ℕ). drawn_earlier k all) next
      ∙ (ap (flat_map (λ n. drawn_below ticket_bound (drawn_of n all))) (range_split 0 number 1)
      ∙ (flat_map-append (λ n. drawn_below ticket_bound (drawn_of n all)) (range_with_len 0 number) (range_with_len (0 + number) 1)
      ∙ ap (λ (l : List Drawn). drawn_earlier number all ++ l)
      (append-nil (drawn_below ticket_bound (drawn_of (0 + number) all)) ∙ (of_call histories once low (0 + number) ∙ (let same : 0 + number ≡ number = omega arith in ap turns_in same)))))

  pub to_next : (cpu number : ℕ) → spare_to shape histories cpu (suc number) ≡ spare_after (spare_to shape histories cpu number) (turns_on cpu (turns_in number))
  to_next cpu number =
      ap (λ (l : List Drawn). spare_after (spare_at (opening shape) cpu) (turns_on cpu l)) (one_more number)
      ∙ (ap (spare_after (spare_at (opening shape) cpu)) (on_joined cpu (drawn_earlier number (all_drawn histories)) (turns_in number))
      ∙ spare_joined (spare_at (opening shape) cpu) (turns_on cpu (drawn_earlier number (all_drawn histories))) (turns_on cpu (turns_in number)))

  -- a call of another CPU leaves the spare
  pub by_other : (cpu number : ℕ) → ((x : Drawn) → IsAmong x (turns_in number) → eqb x.entry.cpu cpu ≡ false) → spare_by shape histories cpu (suc number) ≡ spare_by shape histories cpu number
  by_other cpu number none =
      ap (cond (is_lru shape.kind) (spare_at (opening shape) cpu))
      (to_next cpu number ∙ ap (λ (l : List Drawn). spare_after (spare_to shape histories cpu number) (map turn_of l)) (keeps_none (λ (drawn : Drawn). eqb drawn.entry.cpu cpu) (turns_in number) none))

  -- one of its own leaves what its turns leave
  pub by_own : (cpu number : ℕ) → ((x : Drawn) → IsAmong x (turns_in number) → x.entry.cpu ≡ cpu)
      → spare_by shape histories cpu (suc number) ≡ spare_left shape (spare_by shape histories cpu number) (map (at_of histories) (turns_in number))
  by_own cpu number all =
      by (is_lru shape.kind)
      (to_next cpu number ∙ ap (spare_after (spare_to shape histories cpu number)) (all_on cpu (turns_in number) all ∙ sym (turns_at histories (turns_in number))))
    where
      by : (lru : Bool) → spare_to shape histories cpu (suc number) ≡ spare_after (spare_to shape histories cpu number) (turns_of (map (at_of histories) (turns_in number)))
          → cond lru (spare_at (opening shape) cpu) (spare_to shape histories cpu (suc number))
          ≡ cond lru (cond lru (spare_at (opening shape) cpu) (spare_to shape histories cpu number)) (spare_after (cond lru (spare_at (opening shape) cpu) (spare_to shape histories cpu number)) (turns_of (map (at_of histories) (turns_in number))))
      by true is = refl
      by false is = is

  -- and before one of its turns it is what those before that turn leave
  before_turn : (cpu number ticket : ℕ) → ticket ≤ ticket_bound
      → spare_after (spare_at (opening shape) cpu) (turns_on cpu (turns_by_call (number * ticket_bound + ticket) (all_drawn histories)))
      ≡ spare_after (spare_to shape histories cpu number) (turns_on cpu (filter (λ (drawn : Drawn). ltb drawn.entry.ticket ticket) (turns_in number)))
  before_turn cpu number ticket within =
      ap (λ (l : List Drawn). spare_after (spare_at (opening shape) cpu) (turns_on cpu l))
      (before_ticket (all_drawn histories) low number ticket within ∙ ap (λ (l : List Drawn). drawn_earlier number (all_drawn histories) ++ l) (of_call_below histories once ticket number))
      ∙ (ap (spare_after (spare_at (opening shape) cpu)) (on_joined cpu (drawn_earlier number (all_drawn histories)) (filter (λ (drawn : Drawn). ltb drawn.entry.ticket ticket) (turns_in number)))
      ∙ spare_joined (spare_at (opening shape) cpu) (turns_on cpu (drawn_earlier number (all_drawn histories))) (turns_on cpu (filter (λ (drawn : Drawn). ltb drawn.entry.ticket ticket) (turns_in number))))

  module _ (cuts : List ℕ) (rise : CallsRise cuts histories) (apart : AreApart (locks_in histories)) (ascends : AscendInEach histories) where
    -- a turn is the entry behind those with lower tickets
    entry_here : (x : Drawn) → IsAmong x (ordered histories) → slice_get (entries_of histories x.lock) (length (at_of histories x).earlier) ≡ Some x.entry
    entry_here x there =
        let found = among_at x.entry (entries_of histories x.lock) (in_history histories once apart x there) in
        let before : take found.0 (entries_of histories x.lock) ≡ drawn_before x.entry.ticket (entries_of histories x.lock) =
        take_drawn 0 (entries_of histories x.lock) (turn_count histories) found.0 x.entry (entries_ascend histories (turn_count histories) ascends x.lock) found.1 in
        ap (slice_get (entries_of histories x.lock)) (sym (ap (length {A = Entry}) before) ∙ taken_long (entries_of histories x.lock) found.0 x.entry found.1) ∙ found.1

    pub carries : (cpu number : ℕ) → ((x : Drawn) → IsAmong x (turns_in number) → x.entry.cpu ≡ cpu)
        → Carries shape (spare_first cuts shape histories cpu) (spare_by shape histories cpu number) (map (at_of histories) (turns_in number))
    carries cpu number all plain before one rest at are =
        let parts : Parts (at_of histories) (turns_in number) before at = parts_of (at_of histories) (turns_in number) before at (one ++ rest) are in
        by parts
      where
        with_kind : (lru : Bool) → lru ≡ false → (first last : Option ℕ) (turns : List TurnAt) → spare_after last (turns_of turns) ≡ cond lru (cond lru first last) (spare_after (cond lru first last) (turns_of turns))
        with_kind true is first last turns = absurd cc
        with_kind false is first last turns = refl

        by : Parts (at_of histories) (turns_in number) before at → spare_first cuts shape histories cpu (at ∷ one) ≡ spare_left shape (spare_by shape histories cpu number) before
        by parts =
            let x : Drawn = parts.here in
            let among : IsAmong x (turns_in number) = subst (λ (l : List Drawn). IsAmong x l) (sym parts.is) (among_back x parts.before (x ∷ parts.later) (inl refl)) in
            let there = filter_among (λ (drawn : Drawn). eqb drawn.entry.call number) x (ordered histories) among in
            let ascend : AscendIn 0 (tickets_of (parts.before ++ x ∷ parts.later)) (turn_count histories) =
            subst (λ (l : List Drawn). AscendIn 0 (tickets_of l) (turn_count histories)) parts.is
            (ascend_filter (λ (drawn : Drawn). eqb drawn.entry.call number) 0 (ordered histories) (turn_count histories) (ordered_ascend histories once)) in
            let below : filter (λ (drawn : Drawn). ltb drawn.entry.ticket x.entry.ticket) (turns_in number) ≡ parts.before =
            ap (filter (λ (drawn : Drawn). ltb drawn.entry.ticket x.entry.ticket)) parts.is ∙ below_here 0 parts.before x parts.later (turn_count histories) ascend in
            let theirs : turns_on cpu parts.before ≡ turns_of before =
            all_on cpu parts.before (λ y inside. all y (subst (λ (l : List Drawn). IsAmong y l) (sym parts.is) (among_front y parts.before (x ∷ parts.later) inside)))
            ∙ (sym (turns_at histories parts.before) ∙ ap turns_of parts.front_is) in
            ap (λ (t : TurnAt). spare_of_entry cuts shape histories cpu (slice_get (entries_of histories t.turn.lock) (length t.earlier))) (sym parts.here_is)
            ∙ (ap (spare_of_entry cuts shape histories cpu) (entry_here x there.0)
            ∙ (ap (λ (l : List Drawn). spare_after (spare_at (opening shape) cpu) (map turn_of l)) (before_own cuts histories low rise cpu x (ordered_all histories x there.0) (all x among))
            ∙ (ap (λ (k : ℕ). spare_after (spare_at (opening shape) cpu) (turns_on cpu (turns_by_call (k * ticket_bound + x.entry.ticket) (all_drawn histories)))) (eqb-true x.entry.call number there.1)
            ∙ (before_turn cpu number x.entry.ticket (let under = low x (ordered_all histories x there.0) in omega (arith, under))
            ∙ (ap (λ (l : List Drawn). spare_after (spare_to shape histories cpu number) (turns_on cpu l)) below
            ∙ (ap (spare_after (spare_to shape histories cpu number)) theirs
            ∙ with_kind (is_lru shape.kind) plain (spare_at (opening shape) cpu) (spare_to shape histories cpu number) before))))))
