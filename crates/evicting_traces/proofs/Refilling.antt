-- A refill is read by what was noted of it.
use Rattle.std.proofs.Common.{◌≡◌, ℕ, List, [], ◌∷◌, ◌++◌, map, Option, None, Some, refl, ap, ◌∙◌, sym, subst}
use Rattle.std.specs.Prelude.{bytes_eq, reverse}
use Rattle.std.proofs.lemmas.Grind.{reverse_onto}
use Rattle.std.proofs.lemmas.List.{map-append}
use Rattle.std.proofs.lemmas.Option.{same_Some}
use Rattle.map_types.specs.declared.attr.Shape.{Shape}
use Rattle.map_types.specs.declared.kind.DomainId.TheVariants.{Local, Global}
use Rattle.map_types.specs.declared.row.Row.{Row}
use Rattle.map_types.specs.Listed.{elements_of}
use Rattle.place_words.specs.declared.history.Part.{Part}
use Rattle.place_words.specs.declared.history.Part.TheVariants as parts
use Rattle.place_words.specs.declared.list_part.LocalPart.{LocalPart}
use Rattle.place_words.specs.declared.list_part.LocalPart.TheVariants as local
use Rattle.place_words.specs.declared.visits.Flush.{Flush}
use Rattle.place_words.specs.Globals.{flush_row, flush_visit, flushed_rows}
use Rattle.place_words.specs.Histories.{Content, in_bucket, on_freelist, in_locals, in_global, in_own, Allows}
use Rattle.place_words.specs.Locals.{LocalLists}
use Rattle.place_words.specs.Rotation.{visited_elements}
use Rattle.place_words.specs.Takings.{freed_by, IsChased, Refills}
use Rattle.place_words.specs.Turns.{Turn, TurnAt, found, on_lock}
use Rattle.replay_words.specs.Notes.{note_of, refill_note}
use Rattle.trace_check.proofs.Tests.{one_key, key_same, when_told, when_so}
use Rattle.evicting_traces.specs.Reading.{seen_at, is_refill, IsRefillLegal, IsReaderAt, read_seen}
use Rattle.evicting_traces.specs.Parts.{on, of_local, of_global, refilled_in, Giving, given_in, steal_noted}
use Rattle.evicting_traces.specs.Calls.{both, flushed_hashes, refilled, read_chased, read_refill}
use Rattle.evicting_traces.proofs.Readers.{same_reader, IsThen, then_reader, IsOne, one_reader}
use Rattle.evicting_traces.proofs.Tests.{Tells, tells_local, tells_global, tells_on, tells_refilled, global_of, tells_given}
use Rattle.evicting_traces.proofs.Groups.{Probing, chased_reader}

-- both of two
both_so : {A B : Type 0} (o : Option A) (p : Option B) (r : A × B) → o ≡ Some r.0 → p ≡ Some r.1 → both o p ≡ Some r
both_so o p r first second = ap (λ q. both q p) first ∙ ap (both (Some r.0)) second

both_told : {A B : Type 0} (o : Option A) (p : Option B) (r : A × B) → both o p ≡ Some r → (o ≡ Some r.0) × (p ≡ Some r.1)
both_told None p r is = absurd cc
both_told (Some a) None r is = absurd cc
both_told {A = A} {B = B} (Some a) (Some b) r is =
    let pair : (a, b) ≡ r = same_Some (a, b) r is in
    (ap (λ (q : A × B). Some q.0) pair, ap (λ (q : A × B). Some q.1) pair)

-- rows by their elements and their hashes
number_or : List ℕ → ℕ
number_or [] = 0
number_or (n ∷ ns) = n

numbers_behind : List ℕ → List ℕ
numbers_behind [] = []
numbers_behind (n ∷ ns) = ns

row_by : ℕ → ℕ → Row
row_by e hash = record { element = e; hash = hash }

abbrev hashes_of : List Row → List ℕ
hashes_of rows = map (λ (row : Row). row.hash) rows

rows_are : (flushed : List Flush) (rows : List Row) → visited_elements (map flush_visit flushed) ≡ elements_of rows → flushed_hashes flushed ≡ hashes_of rows → flushed_rows flushed ≡ rows
unfolding number_or numbers_behind row_by
rows_are [] [] elements hashes = refl
rows_are [] (row ∷ rows) elements hashes = absurd cc
rows_are (flush ∷ flushed) [] elements hashes = absurd cc
rows_are (flush ∷ flushed) (row ∷ rows) elements hashes =
    let element : flush.element ≡ row.element = ap number_or elements in
    let hash : flush.hash ≡ row.hash = ap number_or hashes in
    let here : flush_row flush ≡ row = ap (λ e. row_by e flush.hash) element ∙ ap (row_by row.element) hash in
    ap (λ (r : Row). r ∷ flushed_rows flushed) here ∙ ap (λ (l : List Row). row ∷ l) (rows_are flushed rows (ap numbers_behind elements) (ap numbers_behind hashes))

hashes_flushed : (flushed : List Flush) → hashes_of (flushed_rows flushed) ≡ flushed_hashes flushed
hashes_flushed [] = refl
hashes_flushed (flush ∷ flushed) = ap (λ (l : List ℕ). flush.hash ∷ l) (hashes_flushed flushed)

elements_reverse : (rows : List Row) → elements_of (reverse rows) ≡ reverse (elements_of rows)
elements_reverse [] = refl
elements_reverse (row ∷ rows) =
    let split : elements_of (reverse (row ∷ rows)) ≡ elements_of (reverse rows) ++ row.element ∷ [] =
    ap elements_of (reverse_onto rows row []) ∙ map-append (λ (r : Row). r.element) (reverse rows) (row ∷ []) in
    split ∙ ap (λ (front : List ℕ). front ++ row.element ∷ []) (elements_reverse rows) ∙ sym (reverse_onto (elements_of rows) row.element [])

-- what a refill found on its lists, by its note, where it is allowed
record Pended (flushed : List Flush) (steal : ℕ) (content : Content) : Type 0 where
  lists : LocalLists
  found_there : content ≡ in_locals lists
  with_hashes : flushed_rows flushed ≡ reverse lists.pending
  steal_is : steal ≡ lists.steal

module _ (shape : Shape) (cpu hash : ℕ) (flushed : List Flush) (gained : List ℕ) where
  abbrev refill : Option ℕ → LocalPart
  refill got = local.Refill hash (map flush_visit flushed) gained got

  pended : (got : Option ℕ) (steal : ℕ) (content : Content) → Allows shape cpu (parts.Local (refill got)) content → steal_noted (flushed_hashes flushed) (refill_note content) ≡ Some steal → Pended flushed steal content
  pended got steal (in_bucket bodies) allowed is = absurd allowed
  pended got steal (on_freelist stack) allowed is = absurd allowed
  pended got steal (in_locals lists) allowed is =
      let told = when_told (bytes_eq (flushed_hashes flushed) (hashes_of (reverse lists.pending))) lists.steal steal is in
      record {
        lists = lists;
        found_there = refl;
        with_hashes = rows_are flushed (reverse lists.pending) (allowed.1 ∙ sym (elements_reverse lists.pending)) (one_key (flushed_hashes flushed) (hashes_of (reverse lists.pending)) told.0);
        steal_is = sym told.1;
      }
  pended got steal (in_global set) allowed is = absurd allowed
  pended got steal (in_own set) allowed is = absurd allowed

  noted : (steal : ℕ) (content : Content) → Pended flushed steal content → steal_noted (flushed_hashes flushed) (refill_note content) ≡ Some steal
  noted steal content is =
      let hashes : flushed_hashes flushed ≡ hashes_of (reverse is.lists.pending) = sym (hashes_flushed flushed) ∙ ap hashes_of is.with_hashes in
      ap (λ (c : Content). steal_noted (flushed_hashes flushed) (refill_note c)) is.found_there
      ∙ when_so (bytes_eq (flushed_hashes flushed) (hashes_of (reverse is.lists.pending))) is.lists.steal (ap (bytes_eq (flushed_hashes flushed)) (sym hashes) ∙ key_same (flushed_hashes flushed))
      ∙ ap Some (sym is.steal_is)

-- one refill's turn
record IsRefilled (shape : Shape) (cpu hash : ℕ) (given : Giving) (at : TurnAt) (r : Option ℕ × ℕ) : Type 0 where
  turn_is : at.turn ≡ on_lock (Local cpu) (parts.Local (refill shape cpu hash given.0 (given.3 ++ freed_by given.4) r.0))
  there : Pended given.0 r.1 (found shape at)

module _ (shape : Shape) (cpu hash : ℕ) where
  abbrev part_of : Giving → Option ℕ → Part
  part_of given got = parts.Local (refill shape cpu hash given.0 (given.3 ++ freed_by given.4) got)

  abbrev says : Giving → Part → Option (Option ℕ)
  says given = of_local (refilled_in hash (map flush_visit given.0) (given.3 ++ freed_by given.4))

  tells_refill : (given : Giving) → Tells (λ got. on_lock (Local cpu) (part_of given got)) (on (Local cpu) (says given))
  tells_refill given =
      tells_on (Local cpu) (part_of given) (says given)
      (tells_local (refill shape cpu hash given.0 (given.3 ++ freed_by given.4)) (refilled_in hash (map flush_visit given.0) (given.3 ++ freed_by given.4)) (tells_refilled hash (map flush_visit given.0) (given.3 ++ freed_by given.4)))

  noted_of : Giving → TurnAt → Turn → Option ℕ
  noted_of given at turn = steal_noted (flushed_hashes given.0) (note_of (found shape at) turn.part)

  refilled_so : (given : Giving) (at : TurnAt) (r : Option ℕ × ℕ) → IsRefilled shape cpu hash given at r → refilled cpu hash given (seen_at shape at) ≡ Some r
  unfolding noted_of
  refilled_so given at r is =
      both_so (on (Local cpu) (says given) at.turn) (noted_of given at at.turn) r
      (ap (on (Local cpu) (says given)) is.turn_is ∙ (tells_refill given).says_it r.0)
      (ap (noted_of given at) is.turn_is ∙ noted shape cpu hash given.0 (given.3 ++ freed_by given.4) r.1 (found shape at) is.there)

  refilled_only : (given : Giving) (at : TurnAt) (r : Option ℕ × ℕ) → IsRefillLegal shape cpu at → refilled cpu hash given (seen_at shape at) ≡ Some r → IsRefilled shape cpu hash given at r
  unfolding noted_of
  refilled_only given at r legal is =
      let told = both_told (on (Local cpu) (says given) at.turn) (noted_of given at at.turn) r is in
      let turn_is : at.turn ≡ on_lock (Local cpu) (part_of given r.0) = (tells_refill given).says_only at.turn r.0 told.0 in
      record {
        turn_is = turn_is;
        there = pended shape cpu hash given.0 (given.3 ++ freed_by given.4) r.0 r.1 (found shape at)
            (subst (λ (t : Turn). Allows shape cpu t.part (found shape at)) turn_is (legal (ap (λ (t : Turn). is_refill t.part) turn_is)).1)
            (ap (noted_of given at) (sym turn_is) ∙ told.1);
      }

  abbrev pub IsRefill : List TurnAt → Option ℕ × ℕ → Type 0
  IsRefill turns r = (lists : LocalLists) × (Refills shape cpu hash lists r.0 turns × (r.1 ≡ lists.steal))

  abbrev Chased : List TurnAt → Giving → Type 0
  Chased turns given = IsChased shape Global (parts.Global (global_of given)) turns

  probing_given : Probing (λ given. parts.Global (global_of given)) (of_global given_in)
  probing_given = record { tells = tells_global global_of given_in tells_given; noted = λ given content. refl; evicts_none = λ given. refl }

  pub refill_reader : IsReaderAt shape cpu IsRefill (read_refill shape cpu hash)
  refill_reader =
      same_reader (IsThen Chased (λ given. IsOne (IsRefilled shape cpu hash given))) IsRefill (read_refill shape cpu hash) there back
      (then_reader Chased (λ given. IsOne (IsRefilled shape cpu hash given)) (read_chased shape (on Global (of_global given_in))) (λ given. read_seen (refilled cpu hash given))
      (chased_reader shape cpu Global (λ given. parts.Global (global_of given)) (of_global given_in) probing_given)
      (λ given. one_reader (IsRefilled shape cpu hash given) (refilled cpu hash given) (refilled_so given) (refilled_only given)))
    where
      there : (turns : List TurnAt) (r : Option ℕ × ℕ) → IsThen Chased (λ given. IsOne (IsRefilled shape cpu hash given)) turns r → IsRefill turns r
      there turns r is =
          let given : Giving = is.middle in
          let last : TurnAt = is.second.at in
          let at_last = is.second.is in (
            at_last.there.lists,
            (
              record {
                flushed = given.0;
                active = given.1;
                inactive = given.2;
                free = given.3;
                shrink = given.4;
                inner = is.front;
                last = last;
                turns_are = is.turns_are ∙ ap (λ (l : List TurnAt). is.front ++ l) is.second.turns_are;
                chased = is.first;
                last_is = at_last.turn_is;
                found_there = at_last.there.found_there;
                with_hashes = at_last.there.with_hashes;
              },
              at_last.there.steal_is,
            ),
          )

      back : (turns : List TurnAt) (r : Option ℕ × ℕ) → IsRefill turns r → IsThen Chased (λ given. IsOne (IsRefilled shape cpu hash given)) turns r
      back turns r is =
          let refills = is.1.0 in
          record {
            middle = (refills.flushed, refills.active, refills.inactive, refills.free, refills.shrink);
            front = refills.inner;
            behind = refills.last ∷ [];
            turns_are = refills.turns_are;
            first = refills.chased;
            second = record {
              at = refills.last;
              turns_are = refl;
              is = record { turn_is = refills.last_is; there = record { lists = is.0; found_there = refills.found_there; with_hashes = refills.with_hashes; steal_is = is.1.1 } };
            };
          }
