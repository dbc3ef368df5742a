-- Which pushes found their element gone since a refill had flushed it: the turns of a lock by their tickets, and who moved each element last.
use Rattle.std.proofs.Common.{◌≡◌, ℕ, zero, suc, ◌+◌, ◌-◌, ◌<◌, ◌≤◌, Bool, true, false, cond, eqb, ltb, List, [], ◌∷◌, ◌++◌, length, get_or, map, set, take, drop, Option, None, Some, refl, ap, sym, ◌∙◌, subst, inl, inr, arith}
use Rattle.std.specs.Prelude.{All, filter, ◌&&◌, not}
use Rattle.std.specs.List.{flat_map, range_with_len}
use Rattle.std.specs.List.Sorted.{IsNonDecreasingBy, IsPermutation, IsStableByKey}
use Rattle.std.specs.Cmp.{nat_cmp_is}
use Rattle.std.specs.Ordering.{is_lt, nat_cmp}
use Rattle.std.specs.declared.cmp.Ordering.{Ordering}
use Rattle.std.specs.declared.cmp.Ordering.TheVariants.{Less, Equal, Greater}
use Rattle.std.proofs.lemmas.Bool.{cases_eq, cases_lt, eq-eqb, le-ltb, lt-ltb, ne_eqb}
use Rattle.std.proofs.lemmas.List.{take_more as take_next}
use Rattle.std.proofs.lemmas.List.{ext_get_or, get_or-set_other, get_or-set_same, length-map, map-append}
use Rattle.std.proofs.lemmas.List.Elements.{filter_agree}
use Rattle.std.proofs.lemmas.List.FromFn.{get_or-map-range_with_len, length-map-range_with_len}
use Rattle.std.proofs.lemmas.List.Sorted.{All-permutation, IsPermutation-sym}
use Rattle.place_words.specs.declared.history.Entry.{Entry}
use Rattle.place_words.specs.Takings.{ends_flushed, flushed_by}
use Rattle.map_report.proofs.RunCuts.{take_more}
use Rattle.call_check.specs.Moved.{AreGoneBelow, IsPlaced, MovedTo, OneBelow, ended_flushed, entry_at, entry_of, gone_by, no_entry, placed, placed_at, told_by, was_gone, were_gone}
use Rattle.call_check.specs.RightCalls.{entries_below}
use Rattle.call_check.specs.declared.moved.Ticketed.{Ticketed}
use Rattle.call_check.proofs.ByTicket.{each_below, flat_agree, taken_passing, to_rises}

-- Lists

pub any_default : {A : Type 0} (xs : List A) (i : ℕ) (d e : A) → i < length xs → get_or xs i d ≡ get_or xs i e
any_default [] i d e less = absurd (omega (arith, less))
any_default (x ∷ xs) zero d e less = refl
any_default (x ∷ xs) (suc i) d e less = any_default xs i d e (omega (arith, less))

filter_mapped : {A B : Type 0} (p : B → Bool) (f : A → B) (xs : List A) → filter p (map f xs) ≡ map f (filter (λ a. p (f a)) xs)
filter_mapped p f [] = refl
filter_mapped p f (x ∷ xs) = by (p (f x)) (filter_mapped p f xs)
  where
    by : (b : Bool) → filter p (map f xs) ≡ map f (filter (λ a. p (f a)) xs) → cond b (f x ∷ filter p (map f xs)) (filter p (map f xs)) ≡ map f (cond b (x ∷ filter (λ a. p (f a)) xs) (filter (λ a. p (f a)) xs))
    by true rest = ap (λ (l : List _). f x ∷ l) rest
    by false rest = rest

map_twice : {A B C : Type 0} (f : B → C) (g : A → B) (xs : List A) → map f (map g xs) ≡ map (λ a. f (g a)) xs
map_twice f g [] = refl
map_twice f g (x ∷ xs) = ap (λ (l : List _). f (g x) ∷ l) (map_twice f g xs)

flat_mapped : {A B C : Type 0} (f : B → C) (g : A → List B) (xs : List A) → flat_map (λ a. map f (g a)) xs ≡ map f (flat_map g xs)
flat_mapped f g [] = refl
flat_mapped f g (x ∷ xs) = ap (λ (l : List _). map f (g x) ++ l) (flat_mapped f g xs) ∙ sym (map-append f (g x) (flat_map g xs))

read_all : {A : Type 0} (d : A) (xs : List A) → map (λ k. get_or xs k d) (range_with_len 0 (length xs)) ≡ xs
read_all d xs =
    ext_get_or d (map (λ k. get_or xs k d) (range_with_len 0 (length xs))) xs (length-map-range_with_len (λ k. get_or xs k d) 0 (length xs))
    (λ i less. get_or-map-range_with_len (λ k. get_or xs k d) 0 (length xs) i i d (omega (arith, less, length-map-range_with_len (λ k. get_or xs k d) 0 (length xs))) (omega arith))

-- Turns of a lock

pub ends_more : (e : ℕ) (before : Bool) (entries : List Entry) (entry : Entry) → ends_flushed e before (entries ++ entry ∷ []) ≡ flushed_by e entry.part (ends_flushed e before entries)
ends_more e before [] entry = refl
ends_more e before (x ∷ xs) entry = ends_more e (flushed_by e x.part before) xs entry

ends_both : (e : ℕ) (before : Bool) (xs ys : List Entry) → ends_flushed e before (xs ++ ys) ≡ ends_flushed e (ends_flushed e before xs) ys
ends_both e before [] ys = refl
ends_both e before (x ∷ xs) ys = ends_both e (flushed_by e x.part before) xs ys

abbrev ticket_of : Ticketed → ℕ
ticket_of turn = turn.ticket

-- what a stable sort leaves as it was
tied : (n k : ℕ) → (not (is_lt (nat_cmp n k)) && not (is_lt (nat_cmp k n))) ≡ eqb k n
tied n k = elim (cases_eq k n) [
  | inl same ↦
      let first : nat_cmp n k ≡ Equal = sym (nat_cmp_is n k Equal (sym same)) in
      let second : nat_cmp k n ≡ Equal = sym (nat_cmp_is k n Equal same) in
      ap (λ (o : Ordering). not (is_lt o) && not (is_lt (nat_cmp k n))) first ∙ (ap (λ (o : Ordering). true && not (is_lt o)) second ∙ sym (eq-eqb k n same))
  | inr other ↦ elim (cases_lt n k) [
    | inl before ↦
        let first : nat_cmp n k ≡ Less = sym (nat_cmp_is n k Less before) in
        ap (λ (o : Ordering). not (is_lt o) && not (is_lt (nat_cmp k n))) first ∙ sym (ne_eqb k n other)
    | inr behind ↦
        let first : nat_cmp n k ≡ Greater = sym (nat_cmp_is n k Greater (omega (arith, other, behind))) in
        let second : nat_cmp k n ≡ Less = sym (nat_cmp_is k n Less (omega (arith, other, behind))) in
        ap (λ (o : Ordering). not (is_lt o) && not (is_lt (nat_cmp k n))) first ∙ (ap (λ (o : Ordering). true && not (is_lt o)) second ∙ sym (ne_eqb k n other))
  ]
]

pub same_by_ticket : (before now : List Ticketed) → IsStableByKey ticket_of nat_cmp before now → (ticket : ℕ)
    → filter (λ (turn : Ticketed). eqb turn.ticket ticket) now ≡ filter (λ (turn : Ticketed). eqb turn.ticket ticket) before
same_by_ticket before now stable ticket =
    let one : Ticketed = record { ticket = ticket; place = 0 } in
    sym (filter_agree _ _ (λ (turn : Ticketed). tied ticket turn.ticket) now) ∙ (stable one ∙ filter_agree _ _ (λ (turn : Ticketed). tied ticket turn.ticket) before)

-- the turns by their places
pub each_placed : (entries : List Entry) → All (IsPlaced entries) (placed entries)
each_placed entries i d less =
    let within : i < length entries = omega (arith, less, length-map-range_with_len (placed_at entries) 0 (length entries)) in
    subst (IsPlaced entries) (sym (get_or-map-range_with_len (placed_at entries) 0 (length entries) i i d within (omega arith))) (within, refl)

with_ticket : (entries : List Entry) (t : ℕ) → filter (λ (entry : Entry). eqb entry.ticket t) entries ≡ map (entry_of entries) (filter (λ (turn : Ticketed). eqb turn.ticket t) (placed entries))
with_ticket entries t =
    let ks : List ℕ = range_with_len 0 (length entries) in
    let its : Entry → Bool = λ entry. eqb entry.ticket t in
    let turns : Ticketed → Bool = λ turn. eqb turn.ticket t in
    let here : ℕ → Bool = λ k. eqb (entry_at entries k).ticket t in
    ap (filter its) (sym (read_all no_entry entries))
    ∙ (filter_mapped its (entry_at entries) ks
    ∙ sym (ap (map (entry_of entries)) (filter_mapped turns (placed_at entries) ks) ∙ map_twice (entry_of entries) (placed_at entries) (filter here ks)))

module _ (entries : List Entry) (order : List Ticketed) (rise : IsNonDecreasingBy ticket_of order)
    (same : (ticket : ℕ) → filter (λ (turn : Ticketed). eqb turn.ticket ticket) order ≡ filter (λ (turn : Ticketed). eqb turn.ticket ticket) (placed entries)) where
  -- those below a ticket
  below_read : (ticket : ℕ) → entries_below ticket entries ≡ map (entry_of entries) (filter (λ (turn : Ticketed). ltb turn.ticket ticket) order)
  below_read ticket =
      flat_agree (λ (t : ℕ). filter (λ (entry : Entry). eqb entry.ticket t) entries) (λ (t : ℕ). map (entry_of entries) (filter (λ (turn : Ticketed). eqb turn.ticket t) order))
      (λ t. with_ticket entries t ∙ ap (map (entry_of entries)) (sym (same t))) (range_with_len 0 ticket)
      ∙ (flat_mapped (entry_of entries) (λ (t : ℕ). filter (λ (turn : Ticketed). eqb turn.ticket t) order) (range_with_len 0 ticket)
      ∙ ap (map (entry_of entries)) (each_below ticket_of ticket 0 order (to_rises ticket_of 0 order (λ d some. omega arith) rise)))

  below_taken : (ticket moved : ℕ) → moved ≤ length order → ((k : ℕ) (d : Ticketed) → k < moved → (get_or order k d).ticket < ticket)
      → ((k : ℕ) (d : Ticketed) → moved ≤ k → k < length order → ticket ≤ (get_or order k d).ticket) → entries_below ticket entries ≡ map (entry_of entries) (take moved order)
  below_taken ticket moved within front back =
      below_read ticket
      ∙ ap (map (entry_of entries)) (taken_passing (λ (turn : Ticketed). ltb turn.ticket ticket) order moved within (λ k d less. lt-ltb _ ticket (front k d less)) (λ k d least less. le-ltb _ ticket (back k d least less)))

  -- what the table tells of the next one
  pub told_next : (elements at moved : ℕ) (table : List Bool) (d : Ticketed) → MovedTo elements entries order (at + 1) moved table → moved ≤ at → at < length order
      → IsPlaced entries (get_or order at d) → AreGoneBelow elements entries
      → told_by table (gone_by (entry_of entries (get_or order at d)).part) ≡ was_gone entries (entry_of entries (get_or order at d))
  told_next elements at moved table d so_far to less is_placed low =
      let turn : Ticketed = get_or order at d in
      let ticket : ℕ = (entry_of entries turn).ticket in
      let ticket_is : turn.ticket ≡ ticket = is_placed.1 in
      let here : (k : ℕ) (e : Ticketed) → ticket ≡ (get_or order at e).ticket = λ k e. sym ticket_is ∙ ap ticket_of (any_default order at d e less) in
      let below : entries_below ticket entries ≡ map (entry_of entries) (take moved order) =
      below_taken ticket moved (omega (arith, to, less))
      (λ k e before. omega (arith, so_far.front k e before, rise moved at e to less, here k e))
      (λ k e least within. omega (arith, so_far.level at e (omega arith), rise moved k e least within, here k e)) in
      by (gone_by (entry_of entries turn).part) below (low turn.place no_entry is_placed.0)
    where
      by : (o : Option ℕ) → entries_below (entry_of entries (get_or order at d)).ticket entries ≡ map (entry_of entries) (take moved order) → OneBelow elements o
          → told_by table o ≡ ended_flushed o (entries_below (entry_of entries (get_or order at d)).ticket entries)
      by None below low = refl
      by (Some e) below low = so_far.table_is.1 e low ∙ ap (ends_flushed e false) (sym below)

-- the table after more turns
pub moved_on : (elements : ℕ) (entries : List Entry) (order : List Ticketed) → IsNonDecreasingBy ticket_of order → (at moved : ℕ) (old now : List Bool) (part : List Ticketed) (d : Ticketed)
    → MovedTo elements entries order at moved old → at < length order → (get_or order moved d).ticket < (get_or order at d).ticket → part ≡ take (at - moved) (drop moved order)
    → length now ≡ length old → ((e : ℕ) → e < length old → get_or now e false ≡ ends_flushed e (get_or old e false) (map (entry_of entries) part))
    → MovedTo elements entries order (at + 1) at now
moved_on elements entries order rise at moved old now part d so_far less before part_is size told =
    let counted : length old ≡ elements = so_far.table_is.0 in
    let whole : take at order ≡ take moved order ++ part = take_more moved at order so_far.within ∙ ap (λ (l : List Ticketed). take moved order ++ l) (sym part_is) in
    let inside : (k : ℕ) → k < length order → (e : Ticketed) → (get_or order k e).ticket ≡ (get_or order k d).ticket = λ k within e. ap ticket_of (any_default order k e d within) in
    let low : moved < length order = omega (arith, so_far.within, less) in
    record {
      table_is = (
        omega (arith, size, counted),
        λ e within.
            told e (omega (arith, within, counted))
            ∙ (ap (λ (b : Bool). ends_flushed e b (map (entry_of entries) part)) (so_far.table_is.1 e within)
            ∙ (sym (ends_both e false (map (entry_of entries) (take moved order)) (map (entry_of entries) part))
            ∙ ap (ends_flushed e false) (sym (ap (map (entry_of entries)) whole ∙ map-append (entry_of entries) (take moved order) part)))),
      );
      front = λ k e first. omega (arith, so_far.level k e first, before, inside moved low e, inside at less e);
      level = λ k e first. rise k at e (omega (arith, first)) less;
      within = omega arith;
    }

pub stayed : (elements : ℕ) (entries : List Entry) (order : List Ticketed) → IsNonDecreasingBy ticket_of order → (at moved : ℕ) (table : List Bool) (d : Ticketed)
    → MovedTo elements entries order at moved table → at < length order → (get_or order at d).ticket ≤ (get_or order moved d).ticket → MovedTo elements entries order (at + 1) moved table
stayed elements entries order rise at moved table d so_far less not_before =
    let inside : (k : ℕ) → k < length order → (e : Ticketed) → (get_or order k e).ticket ≡ (get_or order k d).ticket = λ k within e. ap ticket_of (any_default order k e d within) in
    let low : moved < length order = omega (arith, so_far.within, less) in
    record {
      table_is = so_far.table_is;
      front = so_far.front;
      level = λ k e first. omega (arith, rise k at e (omega (arith, first)) less, not_before, inside moved low e, inside at less e);
      within = omega (arith, so_far.within);
    }

pub none_moved : (elements : ℕ) (entries : List Entry) (order : List Ticketed) (table : List Bool) → length table ≡ elements → ((n : ℕ) → get_or table n false ≡ false) → MovedTo elements entries order 0 0 table
none_moved elements entries order table size none = record {
  table_is = (size, λ e less. none e ∙ ap (λ (l : List Ticketed). ends_flushed e false (map (entry_of entries) l)) (sym (nothing order)));
  front = λ k d less. absurd (omega (arith, less));
  level = λ k d less. absurd (omega (arith, less));
  within = omega arith;
}
  where
    nothing : (l : List Ticketed) → take 0 l ≡ []
    nothing [] = refl
    nothing (x ∷ l) = refl

-- one turn more
pub moved_more : (entries : List Entry) (order : List Ticketed) (i : ℕ) (e : ℕ) (before : Bool) (d : Ticketed) (other : Entry) → i < length order → (get_or order i d).place < length entries
    → flushed_by e (get_or entries (get_or order i d).place other).part (ends_flushed e before (map (entry_of entries) (take i order))) ≡ ends_flushed e before (map (entry_of entries) (take (i + 1) order))
moved_more entries order i e before d other less within =
    let entry_is : get_or entries (get_or order i d).place other ≡ entry_of entries (get_or order i d) = any_default entries (get_or order i d).place other no_entry within in
    sym (ap (λ (l : List Ticketed). ends_flushed e before (map (entry_of entries) l)) (take_next order i d less)
    ∙ (ap (ends_flushed e before) (map-append (entry_of entries) (take i order) (get_or order i d ∷ []))
    ∙ (ends_more e before (map (entry_of entries) (take i order)) (entry_of entries (get_or order i d))
    ∙ ap (λ (en : Entry). flushed_by e en.part (ends_flushed e before (map (entry_of entries) (take i order)))) (sym entry_is))))

-- what is told of the turns below a place is told of one more
abbrev pub AreTold : List Entry → List Ticketed → ℕ → List Bool → Type 0
AreTold entries order at gone = (k : ℕ) (d : Ticketed) → k < at → get_or gone (get_or order k d).place false ≡ was_gone entries (entry_of entries (get_or order k d))

pub told_more : (entries : List Entry) (order : List Ticketed) (at : ℕ) (gone : List Bool) (e : Ticketed) (answer : Bool) → All (IsPlaced entries) order → at < length order → length gone ≡ length entries
    → answer ≡ was_gone entries (entry_of entries (get_or order at e)) → AreTold entries order at gone → AreTold entries order (at + 1) (set gone (get_or order at e).place answer)
told_more entries order at gone e answer places less counted is told k d to =
    let place : ℕ = (get_or order at e).place in
    let within : k < length order = omega (arith, to, less) in
    elim (cases_eq (get_or order k d).place place) [
      | inl one ↦
          let there : place < length gone = omega (arith, (places at e less).0, counted) in
          ap (λ (p : ℕ). get_or (set gone place answer) p false) one
          ∙ (get_or-set_same gone place answer false there
          ∙ (is ∙ ap (λ (p : ℕ). was_gone entries (entry_at entries p)) (sym one)))
      | inr other ↦ get_or-set_other gone place (get_or order k d).place answer false other ∙ earlier other
    ]
  where
    earlier : ((get_or order k d).place ≡ (get_or order at e).place → ⊥) → get_or gone (get_or order k d).place false ≡ was_gone entries (entry_of entries (get_or order k d))
    earlier other = elim (cases_eq k at) [
      | inl same ↦ absurd (other (ap (λ (j : ℕ). (get_or order j d).place) same ∙ ap (λ (t : Ticketed). t.place) (any_default order at d e less)))
      | inr apart ↦ told k d (omega (arith, to, apart))
    ]

pub told_step : (entries : List Entry) (order : List Ticketed) → IsNonDecreasingBy ticket_of order
    → ((ticket : ℕ) → filter (λ (turn : Ticketed). eqb turn.ticket ticket) order ≡ filter (λ (turn : Ticketed). eqb turn.ticket ticket) (placed entries))
    → All (IsPlaced entries) order → (elements at moved : ℕ) (table gone : List Bool) (turn : Ticketed) (other : Entry) (asked : Option ℕ) (answer : Bool) (d : Ticketed) → turn ≡ get_or order at d → at < length order → moved ≤ at
    → MovedTo elements entries order (at + 1) moved table → AreGoneBelow elements entries → length gone ≡ length entries → asked ≡ gone_by (get_or entries turn.place other).part → answer ≡ told_by table asked
    → AreTold entries order at gone → AreTold entries order (at + 1) (set gone turn.place answer)
told_step entries order rise same places elements at moved table gone turn other asked answer d turn_is less to so_far low counted asked_is answer_is told =
    let its : IsPlaced entries (get_or order at d) = places at d less in
    let within : turn.place < length entries = omega (arith, its.0, ap (λ (t : Ticketed). t.place) turn_is) in
    let entry_is : get_or entries turn.place other ≡ entry_of entries (get_or order at d) = any_default entries turn.place other no_entry within ∙ ap (entry_of entries) turn_is in
    let right : answer ≡ was_gone entries (entry_of entries (get_or order at d)) =
    answer_is ∙ (ap (told_by table) (asked_is ∙ ap (λ (en : Entry). gone_by en.part) entry_is) ∙ told_next entries order rise same elements at moved table d so_far to less its low) in
    subst (λ (t : Ticketed). AreTold entries order (at + 1) (set gone t.place answer)) (sym turn_is) (told_more entries order at gone d answer places less counted right told)

-- and at the end of each
pub all_told : (entries : List Entry) (order : List Ticketed) (gone : List Bool) → IsPermutation (placed entries) order → length gone ≡ length entries → AreTold entries order (length order) gone → gone ≡ were_gone entries
all_told entries order gone all counted told =
    let IsTold : Ticketed → Type 0 = λ turn. get_or gone turn.place false ≡ was_gone entries (entry_of entries turn) in
    let each : All IsTold (placed entries) = All-permutation IsTold order (placed entries) (IsPermutation-sym (placed entries) order all) (λ k d less. told k d less) in
    ext_get_or false gone (were_gone entries) (counted ∙ sym (length-map entries (was_gone entries)))
    (λ i less.
    let within : i < length entries = omega (arith, less, counted) in
    let turn : Ticketed = record { ticket = 0; place = 0 } in
    let here : get_or (placed entries) i turn ≡ placed_at entries i = get_or-map-range_with_len (placed_at entries) 0 (length entries) i i turn within (omega arith) in
    subst IsTold here (each i turn (omega (arith, within, length-map-range_with_len (placed_at entries) 0 (length entries)))) ∙ sym (read_map (was_gone entries) entries i within))
  where
    read_map : (f : Entry → Bool) (xs : List Entry) (i : ℕ) → i < length xs → get_or (map f xs) i false ≡ f (get_or xs i no_entry)
    read_map f [] i less = absurd (omega (arith, less))
    read_map f (x ∷ xs) zero less = refl
    read_map f (x ∷ xs) (suc i) less = read_map f xs i (omega (arith, less))

pub permuted : (xs ys zs : List Ticketed) → xs ≡ zs → IsPermutation xs ys → IsPermutation zs ys
permuted xs ys zs same is = subst (λ (l : List Ticketed). IsPermutation l ys) same is

pub all_placed : (entries : List Entry) (order : List Ticketed) → IsPermutation (placed entries) order → All (IsPlaced entries) order
all_placed entries order all = All-permutation (IsPlaced entries) (placed entries) order all (each_placed entries)
