-- The spares that the replacements by their moments give are those that the CPUs have.
use Rattle.std.proofs.Common.{◌≡◌, ℕ, ◌+◌, ◌*◌, ◌<◌, Bool, true, false, cond, eqb, ltb, List, [], ◌∷◌, ◌++◌, length, get_or, map, take, Option, Some, None, refl, ap, sym, ◌∙◌, subst, inl, inr, arith}
use Rattle.std.specs.Prelude.{◌&&◌, All, not, filter, option_map, slice_get}
use Rattle.std.specs.List.{cons_option, filter_map, flat_map, range_with_len}
use Rattle.std.specs.Cmp.{nat_cmp_is}
use Rattle.std.specs.List.Sorted.{IsStableByKey}
use Rattle.std.specs.Ordering.{is_lt, nat_cmp}
use Rattle.std.specs.declared.cmp.Ordering.{Ordering}
use Rattle.std.specs.declared.cmp.Ordering.TheVariants.{Less, Equal, Greater}
use Rattle.std.proofs.lemmas.Bool.{cases_eq, cases_lt, eq-eqb, ne_eqb}
use Rattle.std.proofs.lemmas.Grind.{flat_map-append}
use Rattle.std.proofs.lemmas.List.{append_assoc, get_or_past, take_more}
use Rattle.std.proofs.lemmas.List.Elements.{All-append, All-cons, All-filter, All-nil, All-tail, filter_agree, filter_map-append}
use Rattle.map_types.specs.Kind.{is_lru}
use Rattle.map_types.specs.declared.attr.Shape.{Shape}
use Rattle.place_words.specs.declared.bucket_part.BucketPart.{BucketPart}
use Rattle.place_words.specs.declared.bucket_part.BucketPart.TheVariants.{Lookup, Update, Delete, Take, Next, First, Walk, Evict}
use Rattle.place_words.specs.declared.bucket_part.Put.{Put}
use Rattle.place_words.specs.declared.bucket_part.Put.TheVariants as puts
use Rattle.place_words.specs.declared.history.Entry.{Entry}
use Rattle.place_words.specs.declared.history.LockHistory.{LockHistory}
use Rattle.place_words.specs.declared.history.Part.{Part}
use Rattle.place_words.specs.declared.history.Part.TheVariants as parts
use Rattle.place_words.specs.Interleaving.{Drawn, turn_of}
use Rattle.place_words.specs.PlainTraces.{spare_after, spare_after_bucket_part, spare_after_part, spare_after_put}
use Rattle.place_words.specs.Tickets.{all_entries}
use Rattle.map_report.specs.Serial.{opening}
use Rattle.map_report.specs.Turns.{spare_at}
use Rattle.turn_order.specs.Ordered.{all_drawn, drawn_in}
use Rattle.call_check.specs.RightCalls.{moment_of, spare_before, spare_last, ticket_bound, turns_before}
use Rattle.call_check.specs.Spares.{AreLow, AreSpares, Rise, change_by, change_of, changes_of, last_left, left_by, spare_in}
use Rattle.call_check.specs.declared.changes.Change.{Change}
use Rattle.call_check.proofs.Last.{all_left}
use Rattle.call_check.proofs.ByTicket.{each_below, filters_turned, flat_agree, from_rises, kept_rise, nothing_more, to_rises}

-- Of turns

-- what one turn left, else what was there
left_or : Option ℕ → Option ℕ → Option ℕ
left_or spare None = spare
left_or spare (Some old) = Some old

put_leaves : (spare : Option ℕ) (put : Put) → spare_after_put spare put ≡ left_or spare (Rattle.call_check.specs.Spares.left_by_put put)
unfolding left_or
put_leaves spare (puts.Added e) = refl
put_leaves spare (puts.Replaced new old) = refl
put_leaves spare (puts.Written e) = refl
put_leaves spare puts.Exists = refl
put_leaves spare puts.Absent = refl
put_leaves spare puts.Full = refl

bucket_leaves : (spare : Option ℕ) (part : BucketPart) → spare_after_bucket_part spare part ≡ left_or spare (Rattle.call_check.specs.Spares.left_by_bucket_part part)
unfolding left_or
bucket_leaves spare (Lookup side key got) = refl
bucket_leaves spare (Update side flags key value offer put) = put_leaves spare put
bucket_leaves spare (Delete key _) = refl
bucket_leaves spare (Take key _) = refl
bucket_leaves spare (Next key found) = refl
bucket_leaves spare (First key) = refl
bucket_leaves spare (Walk remove room result) = refl
bucket_leaves spare (Evict e probed) = refl

part_leaves : (spare : Option ℕ) (part : Part) → spare_after_part spare part ≡ left_or spare (left_by part)
unfolding left_or
part_leaves spare (parts.Bucket part) = bucket_leaves spare part
part_leaves spare (parts.Free part) = refl
part_leaves spare (parts.Local part) = refl
part_leaves spare (parts.Global part) = refl
part_leaves spare (parts.Own part) = refl

abbrev moment_at : Change → ℕ
moment_at change = change.moment

-- what a stable sort leaves as it was
pub tied : (n k : ℕ) → (not (is_lt (nat_cmp n k)) && not (is_lt (nat_cmp k n))) ≡ eqb k n
tied n k = elim (cases_eq k n) [
  | inl same ↦
      let first : nat_cmp n k ≡ Equal = sym (nat_cmp_is n k Equal (sym same)) in
      let second : nat_cmp k n ≡ Equal = sym (nat_cmp_is k n Equal same) in
      ap (λ (o : Ordering). not (is_lt o) && not (is_lt (nat_cmp k n))) first ∙ (ap (λ (o : Ordering). true && not (is_lt o)) second ∙ sym (eq-eqb k n same))
  | inr other ↦ elim (cases_lt n k) [
    | inl before ↦
        let first : nat_cmp n k ≡ Less = sym (nat_cmp_is n k Less before) in
        ap (λ (o : Ordering). not (is_lt o) && not (is_lt (nat_cmp k n))) first ∙ sym (ne_eqb k n other)
    | inr behind ↦
        let first : nat_cmp n k ≡ Greater = sym (nat_cmp_is n k Greater (omega (arith, other, behind))) in
        let second : nat_cmp k n ≡ Less = sym (nat_cmp_is k n Less (omega (arith, other, behind))) in
        ap (λ (o : Ordering). not (is_lt o) && not (is_lt (nat_cmp k n))) first ∙ (ap (λ (o : Ordering). true && not (is_lt o)) second ∙ sym (ne_eqb k n other))
  ]
]

pub same_by_moment : (before now : List Change) → IsStableByKey moment_at nat_cmp before now → (moment : ℕ)
    → filter (λ (change : Change). eqb change.moment moment) now ≡ filter (λ (change : Change). eqb change.moment moment) before
same_by_moment before now stable moment =
    let one : Change = record { moment = moment; cpu = 0; old = 0 } in
    sym (filter_agree _ _ (λ (change : Change). tied moment change.moment) now) ∙ (stable one ∙ filter_agree _ _ (λ (change : Change). tied moment change.moment) before)

-- each CPU's replacements rise as all do
pub own_rise : (sorted : List Change) (changes : List (List Change)) (cpus : ℕ) → length changes ≡ cpus → Rise sorted
    → ((cpu : ℕ) → cpu < cpus → get_or changes cpu [] ≡ filter (λ (change : Change). eqb change.cpu cpu) sorted) → (cpu : ℕ) → Rise (get_or changes cpu [])
own_rise sorted changes cpus each rise own cpu = elim (cases_lt cpu cpus) [
  | inl within ↦ subst Rise (sym (own cpu within)) (from_rises moment_at 0 (filter (λ (change : Change). eqb change.cpu cpu) sorted) (kept_rise moment_at (λ (change : Change). eqb change.cpu cpu) 0 sorted (to_rises moment_at 0 sorted (λ d some. omega arith) rise)))
  | inr past ↦ subst Rise (sym (get_or_past changes cpu [] (omega (arith, past, each)))) (λ i j d to less. absurd (omega (arith, less)))
]

-- and are as low
pub own_low : (sorted : List Change) (changes : List (List Change)) (all : List Change) (cpus : ℕ) → length changes ≡ cpus → ((bound : ℕ) → AreLow bound all → AreLow bound sorted)
    → ((cpu : ℕ) → cpu < cpus → get_or changes cpu [] ≡ filter (λ (change : Change). eqb change.cpu cpu) sorted) → (bound : ℕ) → AreLow bound all → (cpu : ℕ) → AreLow bound (get_or changes cpu [])
own_low sorted changes all cpus each low own bound are cpu = elim (cases_lt cpu cpus) [
  | inl within ↦ subst (AreLow bound) (sym (own cpu within)) (All-filter (λ (change : Change). eqb change.cpu cpu) (λ (change : Change). change.moment < bound) sorted (low bound are))
  | inr past ↦ subst (AreLow bound) (sym (get_or_past changes cpu [] (omega (arith, past, each)))) (All-nil (λ (change : Change). change.moment < bound))
]

module _ (cuts : List ℕ) where
  abbrev of_drawn : Drawn → Option Change
  of_drawn drawn = change_of cuts drawn.entry

  -- the last that was left
  pub leaves : (spare : Option ℕ) (turns : List Drawn) → spare_after spare (map turn_of turns) ≡ last_left spare (filter_map of_drawn turns)
  unfolding left_or
  leaves spare [] = refl
  leaves spare (drawn ∷ turns) =
      ap (λ (s : Option ℕ). spare_after s (map turn_of turns)) (part_leaves spare drawn.entry.part) ∙ by (λ s. leaves s turns) (left_by drawn.entry.part)
    where
      by : ((s : Option ℕ) → spare_after s (map turn_of turns) ≡ last_left s (filter_map of_drawn turns)) → (o : Option ℕ) → spare_after (left_or spare o) (map turn_of turns) ≡ last_left spare (cons_option (option_map (change_by cuts drawn.entry) o) (filter_map of_drawn turns))
      by more None = more spare
      by more (Some old) = more (Some old)

  -- the replacements of turns that pass a test are those that pass the same test
  pub kept_changes : (p : Drawn → Bool) (q : Change → Bool) → ((drawn : Drawn) (old : ℕ) → q (change_by cuts drawn.entry old) ≡ p drawn)
      → (turns : List Drawn) → filter_map of_drawn (filter p turns) ≡ filter q (filter_map of_drawn turns)
  kept_changes p q same [] = refl
  kept_changes p q same (drawn ∷ turns) = by (kept_changes p q same turns) (p drawn) refl (left_by drawn.entry.part) refl
    where
      by : filter_map of_drawn (filter p turns) ≡ filter q (filter_map of_drawn turns) → (b : Bool) → p drawn ≡ b → (o : Option ℕ) → left_by drawn.entry.part ≡ o
          → filter_map of_drawn (cond b (drawn ∷ filter p turns) (filter p turns)) ≡ filter q (cons_option (option_map (change_by cuts drawn.entry) o) (filter_map of_drawn turns))
      by rest true is None none = ap (λ (o : Option ℕ). cons_option (option_map (change_by cuts drawn.entry) o) (filter_map of_drawn (filter p turns))) none ∙ rest
      by rest true is (Some old) some =
          ap (λ (o : Option ℕ). cons_option (option_map (change_by cuts drawn.entry) o) (filter_map of_drawn (filter p turns))) some
          ∙ (ap (λ (l : List Change). change_by cuts drawn.entry old ∷ l) rest
          ∙ sym (ap (λ (t : Bool). cond t (change_by cuts drawn.entry old ∷ filter q (filter_map of_drawn turns)) (filter q (filter_map of_drawn turns))) (same drawn old ∙ is)))
      by rest false is None none = rest
      by rest false is (Some old) some =
          rest ∙ sym (ap (λ (t : Bool). cond t (change_by cuts drawn.entry old ∷ filter q (filter_map of_drawn turns)) (filter q (filter_map of_drawn turns))) (same drawn old ∙ is))

  -- those of all turns are those of all entries
  of_history : (history : LockHistory) (entries : List Entry) → filter_map of_drawn (map (λ (entry : Entry). record { lock = history.lock; entry = entry }) entries) ≡ filter_map (change_of cuts) entries
  of_history history [] = refl
  of_history history (entry ∷ entries) = ap (cons_option (change_of cuts entry)) (of_history history entries)

  pub of_all : (histories : List LockHistory) → filter_map of_drawn (all_drawn histories) ≡ changes_of cuts histories
  of_all [] = refl
  of_all (history ∷ histories) =
      filter_map-append of_drawn (drawn_in history) (all_drawn histories)
      ∙ (ap (λ (l : List Change). l ++ filter_map of_drawn (all_drawn histories)) (of_history history history.entries)
      ∙ (ap (λ (l : List Change). filter_map (change_of cuts) history.entries ++ l) (of_all histories)
      ∙ sym (filter_map-append (change_of cuts) history.entries (all_entries histories))))

  -- the replacements below a moment
  in_turn : (ks : List ℕ) (turns : List Drawn) → filter_map of_drawn (flat_map (λ (k : ℕ). filter (λ (drawn : Drawn). eqb (moment_of cuts drawn.entry) k) turns) ks) ≡ flat_map (λ (k : ℕ). filter (λ (change : Change). eqb change.moment k) (filter_map of_drawn turns)) ks
  in_turn [] turns = refl
  in_turn (k ∷ ks) turns =
      filter_map-append of_drawn (filter (λ (drawn : Drawn). eqb (moment_of cuts drawn.entry) k) turns) (flat_map (λ (k : ℕ). filter (λ (drawn : Drawn). eqb (moment_of cuts drawn.entry) k) turns) ks)
      ∙ (ap (λ (l : List Change). l ++ filter_map of_drawn (flat_map (λ (k : ℕ). filter (λ (drawn : Drawn). eqb (moment_of cuts drawn.entry) k) turns) ks))
      (kept_changes (λ (drawn : Drawn). eqb (moment_of cuts drawn.entry) k) (λ (change : Change). eqb change.moment k) (λ drawn old. refl) turns)
      ∙ ap (λ (l : List Change). filter (λ (change : Change). eqb change.moment k) (filter_map of_drawn turns) ++ l) (in_turn ks turns))

  -- Sorted by their moments, with those of one moment in their order, they give the spares.
  pub spares_are : (shape : Shape) (histories : List LockHistory) (first : List ℕ) (sorted : List Change) (changes : List (List Change))
      → first ≡ (opening shape).spares → Rise sorted
      → ((moment : ℕ) → filter (λ (change : Change). eqb change.moment moment) sorted ≡ filter (λ (change : Change). eqb change.moment moment) (changes_of cuts histories))
      → ((cpu : ℕ) → cpu < shape.cpus → get_or changes cpu [] ≡ filter (λ (change : Change). eqb change.cpu cpu) sorted)
      → (cpu moment : ℕ) → cpu < shape.cpus → spare_in first changes cpu moment ≡ spare_before cuts shape histories cpu moment
  spares_are shape histories first sorted changes first_is rise same own cpu moment within =
      let below : Change → Bool = λ change. ltb change.moment moment in
      let its : Change → Bool = λ change. eqb change.cpu cpu in
      let spare : Option ℕ = spare_at (opening shape) cpu in
      let turns : List Drawn = turns_before cuts moment (all_drawn histories) in
      let changes_below : filter_map of_drawn turns ≡ filter below sorted =
      in_turn (range_with_len 0 moment) (all_drawn histories)
      ∙ (flat_agree (λ (k : ℕ). filter (λ (change : Change). eqb change.moment k) (filter_map of_drawn (all_drawn histories))) (λ (k : ℕ). filter (λ (change : Change). eqb change.moment k) sorted)
      (λ k. ap (filter (λ (change : Change). eqb change.moment k)) (of_all histories) ∙ sym (same k)) (range_with_len 0 moment)
      ∙ each_below moment_at moment 0 sorted (to_rises moment_at 0 sorted (λ d some. omega arith) rise)) in
      ap (λ (f : List ℕ). last_left (slice_get f cpu) (filter below (get_or changes cpu []))) first_is
      ∙ (ap (λ (l : List Change). last_left spare (filter below l)) (own cpu within)
      ∙ (ap (last_left spare) (filters_turned below its sorted)
      ∙ sym (leaves spare (filter (λ (drawn : Drawn). eqb drawn.entry.cpu cpu) turns)
      ∙ ap (last_left spare) (kept_changes (λ (drawn : Drawn). eqb drawn.entry.cpu cpu) its (λ drawn old. refl) turns ∙ ap (filter its) changes_below))))

  -- one entry more, and one history more
  pub entries_more : (before : List Change) (entries : List Entry) (i : ℕ) (entry : Entry) → i < length entries → entry ≡ get_or entries i entry
      → (before ++ filter_map (change_of cuts) (take i entries)) ++ filter_map (change_of cuts) (entry ∷ []) ≡ before ++ filter_map (change_of cuts) (take (i + 1) entries)
  entries_more before entries i entry less is =
      append_assoc before (filter_map (change_of cuts) (take i entries)) (filter_map (change_of cuts) (entry ∷ []))
      ∙ ap (λ (l : List Change). before ++ l)
      (sym (ap (filter_map (change_of cuts)) (take_more entries i entry less) ∙ (filter_map-append (change_of cuts) (take i entries) (get_or entries i entry ∷ [])
      ∙ ap (λ (e : Entry). filter_map (change_of cuts) (take i entries) ++ filter_map (change_of cuts) (e ∷ [])) (sym is))))

  pub histories_more : (histories : List LockHistory) (i : ℕ) (history : LockHistory) → i < length histories → history ≡ get_or histories i history
      → changes_of cuts (take i histories) ++ filter_map (change_of cuts) history.entries ≡ changes_of cuts (take (i + 1) histories)
  histories_more histories i history less is =
      sym (ap (changes_of cuts) (take_more histories i history less)
      ∙ (ap (λ (h : LockHistory). changes_of cuts (take i histories ++ h ∷ [])) (sym is)
      ∙ (ap (filter_map (change_of cuts)) (flat_map-append (λ (h : LockHistory). h.entries) (take i histories) (history ∷ []))
      ∙ (filter_map-append (change_of cuts) (all_entries (take i histories)) (history.entries ++ [])
      ∙ ap (λ (l : List Entry). changes_of cuts (take i histories) ++ filter_map (change_of cuts) l) (nothing_more history.entries)))))

  low_entries : (bound : ℕ) (entries : List Entry) → All (λ (entry : Entry). moment_of cuts entry < bound) entries → AreLow bound (filter_map (change_of cuts) entries)
  low_entries bound [] low = All-nil (λ (change : Change). change.moment < bound)
  low_entries bound (entry ∷ entries) low = by (left_by entry.part) (low_entries bound entries (All-tail (λ (e : Entry). moment_of cuts e < bound) entry entries low))
    where
      by : (o : Option ℕ) → AreLow bound (filter_map (change_of cuts) entries) → AreLow bound (cons_option (option_map (change_by cuts entry) o) (filter_map (change_of cuts) entries))
      by None rest = rest
      by (Some old) rest = All-cons (λ (change : Change). change.moment < bound) (change_by cuts entry old) (filter_map (change_of cuts) entries) (low 0 entry (omega arith)) rest

  pub low_histories : (bound : ℕ) (histories : List LockHistory) → All (λ (history : LockHistory). All (λ (entry : Entry). moment_of cuts entry < bound) history.entries) histories → AreLow bound (changes_of cuts histories)
  low_histories bound [] low = All-nil (λ (change : Change). change.moment < bound)
  low_histories bound (history ∷ histories) low =
      subst (AreLow bound) (sym (filter_map-append (change_of cuts) history.entries (all_entries histories)))
      (All-append (λ (change : Change). change.moment < bound) (filter_map (change_of cuts) history.entries) (changes_of cuts histories)
      (low_entries bound history.entries (low 0 history (omega arith)))
      (low_histories bound histories (All-tail (λ (h : LockHistory). All (λ (entry : Entry). moment_of cuts entry < bound) h.entries) history histories low)))

  left_below : (bound : ℕ) (shape : Shape) (histories : List LockHistory) (first : List ℕ) (changes : List (List Change)) → AreSpares cuts shape histories first changes
      → All (λ (history : LockHistory). All (λ (entry : Entry). moment_of cuts entry < bound) history.entries) histories
      → (cpu : ℕ) (read : List ℕ) (own : List Change) (answer : Option ℕ) → cpu < shape.cpus → read ≡ first → own ≡ get_or changes cpu []
      → answer ≡ last_left (slice_get read cpu) own → answer ≡ spare_before cuts shape histories cpu bound
  left_below bound shape histories first changes are low cpu read own answer within read_is own_is is =
      is
      ∙ (ap (λ (f : List ℕ). last_left (slice_get f cpu) own) read_is
      ∙ (ap (last_left (slice_get first cpu)) own_is
      ∙ (all_left first changes cpu bound (are.low bound (low_histories bound histories low) cpu) ∙ are.exact cpu bound within)))

  -- at the end
  pub left_last : (shape : Shape) (histories : List LockHistory) (first : List ℕ) (changes : List (List Change)) → AreSpares cuts shape histories first changes
      → All (λ (history : LockHistory). All (λ (entry : Entry). moment_of cuts entry < ticket_bound * ticket_bound) history.entries) histories
      → (cpu : ℕ) (read : List ℕ) (own : List Change) (evicts : Bool) (answer : Option ℕ) → cpu < shape.cpus → read ≡ first → own ≡ get_or changes cpu [] → evicts ≡ is_lru shape.kind
      → answer ≡ cond evicts (slice_get read cpu) (last_left (slice_get read cpu) own) → answer ≡ spare_last cuts shape histories cpu
  left_last shape histories first changes are low cpu read own evicts answer within read_is own_is kind is =
      is
      ∙ (by evicts (left_below (ticket_bound * ticket_bound) shape histories first changes are low cpu read own (last_left (slice_get read cpu) own) within read_is own_is refl)
      ∙ ap (λ (lru : Bool). cond lru (spare_at (opening shape) cpu) (spare_before cuts shape histories cpu (ticket_bound * ticket_bound))) kind)
    where
      by : (lru : Bool) → last_left (slice_get read cpu) own ≡ spare_before cuts shape histories cpu (ticket_bound * ticket_bound)
          → cond lru (slice_get read cpu) (last_left (slice_get read cpu) own) ≡ cond lru (spare_at (opening shape) cpu) (spare_before cuts shape histories cpu (ticket_bound * ticket_bound))
      by true last = ap (λ (f : List ℕ). slice_get f cpu) (read_is ∙ are.first_is)
      by false last = last
