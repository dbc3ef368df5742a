-- The tickets are as a record has them exactly where no entry's is wrong.
use Rattle.std.proofs.Common.{◌≡◌, ℕ, suc, ◌<◌, ◌≤◌, List, length, map, get_or, take, refl, ap, sym, ◌∙◌, subst, ⊎_elim, arith, Some}
use Rattle.std.specs.Prelude.{All, IsPermutation, slice_get, slice_index_or}
use Rattle.std.specs.List.{range_with_len}
use Rattle.std.proofs.lemmas.Bool.{cases_lt}
use Rattle.std.proofs.lemmas.List.{get_or-map, length-map}
use Rattle.std.proofs.lemmas.Option.{slice_get-get_or, get_or_from_slice_get, slice_get_within}
use Rattle.map_types.specs.declared.attr.Shape.{Shape}
use Rattle.map_types.specs.declared.kind.DomainId.TheVariants.{Global}
use Rattle.map_types.specs.ElementLists.{times}
use Rattle.place_words.specs.declared.history.Entry.{Entry}
use Rattle.place_words.specs.declared.history.LockHistory.{LockHistory}
use Rattle.place_words.specs.declared.history.Strand.{Strand}
use Rattle.place_words.specs.declared.history.StrandStep.{StrandStep}
use Rattle.place_words.specs.Named.{entries_of}
use Rattle.place_words.specs.Tickets.{AreTicketed, AscendIn, all_entries, ticket_at, tickets_of}
use Rattle.map_report.proofs.LogTickets.{as_many}
use Rattle.record_order.specs.Tickets.{IsTicketFlaw, NamesEntries, Stands, in_history, in_strand, not_below, number_of, used}
use Rattle.record_order.specs.TicketLaws.{WhereNoneIsWrong}
use Rattle.record_order.proofs.Ascents as ascents
use Rattle.record_order.proofs.LocksOnce.{AreOrdered, entries_there, history_of, ordered}
use Rattle.record_order.proofs.OnceEach as counts
use Rattle.record_order.proofs.Places.{HasPlace, has_place, number_below, ticket_is}

-- what stands at a place of a list of which something holds
pub all_at : {X : Type 0} (P : X → Type 0) (xs : List X) (n : ℕ) (x : X) → All P xs → slice_get xs n ≡ Some x → P x
all_at P xs n x all at = subst P (get_or_from_slice_get xs n x x at) (all n x (slice_get_within xs n x at))

nowhere : StrandStep
nowhere = record { lock = Global; index = 0 }

module _ (shape : Shape) (hs : List LockHistory) (strands : List Strand) (names : NamesEntries shape hs strands) where
  are : AreOrdered shape hs
  are = ordered shape hs names.locks

  abbrev ts : List ℕ
  ts = tickets_of (all_entries hs)

  abbrev n : ℕ
  n = length (all_entries hs)

  long : length ts ≡ n
  long = as_many (all_entries hs)

  -- a step of a strand stands
  pub step_stands : (k : ℕ) (strand : Strand) (i : ℕ) (step : StrandStep) → slice_get strands k ≡ Some strand → slice_get strand.steps i ≡ Some step → Stands hs step
  step_stands k strand i step at there = all_at (Stands hs) strand.steps i step (all_at (λ (s : Strand). All (Stands hs) s.steps) strands k strand names.steps at) there

  module _ (none : (p : StrandStep) → Stands hs p → IsTicketFlaw hs strands p → ⊥) where
    below : (p : StrandStep) → Stands hs p → ticket_at hs p < n
    below p stands = ⊎_elim (λ (less : ticket_at hs p < n). less) (λ (past : n ≤ ticket_at hs p). absurd (none p stands (not_below past))) (cases_lt (ticket_at hs p) n)

    at : (g : ℕ) → g < length ts → HasPlace hs g
    at g less = has_place shape hs are g (omega (arith, long))

    is_at : (g : ℕ) (less : g < length ts) → get_or ts g 0 ≡ ticket_at hs (at g less).place
    is_at g less = ap (λ (k : ℕ). get_or ts k 0) (sym (at g less).number) ∙ ticket_is hs (at g less).place (at g less).stands

    each_below : (g : ℕ) → g < length ts → get_or ts g 0 < length ts
    each_below g less = let is = is_at g less in let low = below (at g less).place (at g less).stands in omega (arith, long)

    each_fresh : (g : ℕ) → g < length ts → times (get_or ts g 0) (take g ts) ≡ 0
    each_fresh g less = ⊎_elim
        (λ (some : 0 < times (get_or ts g 0) (take g ts)).
        absurd (none (at g less).place (at g less).stands (used (subst (λ (z : ℕ × ℕ). 0 < times z.0 (take z.1 ts)) (λ i. (is_at g less i, sym (at g less).number i)) some))))
        (λ (zero_times : times (get_or ts g 0) (take g ts) ≤ 0). omega arith)
        (cases_lt 0 (times (get_or ts g 0) (take g ts)))

    each_once : IsPermutation (range_with_len 0 n) ts
    each_once = subst (λ (m : ℕ). IsPermutation (range_with_len 0 m) ts) long (counts.each_once ts each_below each_fresh)

    -- along a history
    module _ (k : ℕ) (history : LockHistory) (there : slice_get hs k ≡ Some history) where
      abbrev place : ℕ → StrandStep
      place i = record { lock = history.lock; index = i }

      entries : entries_of hs history.lock ≡ history.entries
      entries = entries_there shape hs are k history there

      stands : (i : ℕ) → i < length (tickets_of history.entries) → Stands hs (place i)
      stands i less = let many = as_many history.entries in subst (λ (es : List Entry). i < length es) (sym entries) (omega arith)

      ticket : (i : ℕ) → ticket_at hs (place i) ≡ get_or (tickets_of history.entries) i 0
      ticket i = ap (λ (es : List Entry). get_or (tickets_of es) i 0) entries

      history_ascends : AscendIn 0 (tickets_of history.entries) n
      history_ascends = ascents.ascends (tickets_of history.entries) n
          (λ i less. let low = below (place i) (stands i less) in let is = ticket i in omega arith)
          (λ i less.
          let first = ticket i in
          let second = ticket (suc i) in
          ⊎_elim
          (λ (up : get_or (tickets_of history.entries) i 0 < get_or (tickets_of history.entries) (suc i) 0). up)
          (λ (down : get_or (tickets_of history.entries) (suc i) 0 ≤ get_or (tickets_of history.entries) i 0).
          absurd (none (place (suc i)) (stands (suc i) less) (in_history i refl (omega arith))))
          (cases_lt (get_or (tickets_of history.entries) i 0) (get_or (tickets_of history.entries) (suc i) 0)))

    -- along a strand
    module _ (k : ℕ) (strand : Strand) (there : slice_get strands k ≡ Some strand) where
      abbrev step : ℕ → StrandStep
      step i = get_or strand.steps i nowhere

      abbrev along : List ℕ
      along = map (ticket_at hs) strand.steps

      many : length along ≡ length strand.steps
      many = length-map strand.steps (ticket_at hs)

      step_at : (i : ℕ) → i < length along → slice_get strand.steps i ≡ Some (step i)
      step_at i less = slice_get-get_or strand.steps i nowhere (omega (arith, many))

      ticket_along : (i : ℕ) → i < length along → get_or along i 0 ≡ ticket_at hs (step i)
      ticket_along i less = get_or-map (ticket_at hs) strand.steps i nowhere 0 (omega (arith, many))

      strand_ascends : AscendIn 0 along n
      strand_ascends = ascents.ascends along n
          (λ i less. let low = below (step i) (step_stands k strand i (step i) there (step_at i less)) in let is = ticket_along i less in omega arith)
          (λ i less.
          let first = ticket_along i (omega arith) in
          let second = ticket_along (suc i) less in
          ⊎_elim
          (λ (up : get_or along i 0 < get_or along (suc i) 0). up)
          (λ (down : get_or along (suc i) 0 ≤ get_or along i 0).
          absurd (none (step (suc i)) (step_stands k strand (suc i) (step (suc i)) there (step_at (suc i) less))
          (in_strand k strand (step i) there (record { at = i; first = step_at i (omega arith); second = step_at (suc i) less }) (omega arith))))
          (cases_lt (get_or along i 0) (get_or along (suc i) 0)))

    -- where no ticket is wrong they are as a record has them
    pub ticketed : AreTicketed hs strands
    ticketed = record {
      each_once = each_once;
      in_histories = λ k d less. history_ascends k (slice_index_or hs k d) (slice_get-get_or hs k d less);
      in_strands = λ k d less. strand_ascends k (slice_index_or strands k d) (slice_get-get_or strands k d less);
    }

  -- and where they are so none is wrong
  pub none_wrong : AreTicketed hs strands → (p : StrandStep) → Stands hs p → IsTicketFlaw hs strands p → ⊥
  none_wrong ticketed p stands (not_below past) =
      let is = ticket_is hs p stands in
      let low = counts.is_below n ts ticketed.each_once (number_of hs p) (let less = number_below hs p stands in omega (arith, long)) in
      omega arith
  none_wrong ticketed p stands (used some) =
      let fresh = counts.none_earlier n ts ticketed.each_once (number_of hs p) (let less = number_below hs p stands in omega (arith, long)) in
      let there : 0 < times (get_or ts (number_of hs p) 0) (take (number_of hs p) ts) = subst (λ (t : ℕ). 0 < times t (take (number_of hs p) ts)) (sym (ticket_is hs p stands)) some in
      omega arith
  none_wrong ticketed p stands (in_history before is low) =
      let its = history_of hs p stands in
      let history : LockHistory = its.1 in
      let rise = ascents.climbs 0 (tickets_of history.entries) n (all_at (λ (h : LockHistory). AscendIn 0 (tickets_of h.entries) n) hs its.0 history ticketed.in_histories its.2) in
      let ticket : (i : ℕ) → get_or (tickets_of (entries_of hs p.lock)) i 0 ≡ get_or (tickets_of history.entries) i 0 = λ i. ap (λ (es : List Entry). get_or (tickets_of es) i 0) its.3 in
      let many = as_many history.entries in
      let room : p.index < length history.entries = subst (λ (es : List Entry). p.index < length es) its.3 stands in
      let up = rise before (omega arith) in
      let first = ticket before in
      let here = ticket (suc before) in
      let there : ticket_at hs p ≡ get_or (tickets_of (entries_of hs p.lock)) (suc before) 0 = ap (λ (i : ℕ). get_or (tickets_of (entries_of hs p.lock)) i 0) is in
      omega arith
  none_wrong ticketed p stands (in_strand k strand before there next low) =
      let rise = ascents.climbs 0 (map (ticket_at hs) strand.steps) n (all_at (λ (s : Strand). AscendIn 0 (map (ticket_at hs) s.steps) n) strands k strand ticketed.in_strands there) in
      let i : ℕ = next.at in
      let first_within = slice_get_within strand.steps i before next.first in
      let second_within = slice_get_within strand.steps (suc i) p next.second in
      let many = length-map strand.steps (ticket_at hs) in
      let up = rise i (omega arith) in
      let first = get_or-map (ticket_at hs) strand.steps i before 0 first_within ∙ ap (ticket_at hs) (get_or_from_slice_get strand.steps i before before next.first) in
      let second = get_or-map (ticket_at hs) strand.steps (suc i) p 0 second_within ∙ ap (ticket_at hs) (get_or_from_slice_get strand.steps (suc i) p p next.second) in
      omega arith

pub where_none_is_wrong : WhereNoneIsWrong
where_none_is_wrong shape hs strands names = (λ none. ticketed shape hs strands names none, λ are. none_wrong shape hs strands names are)
