-- A forced shrink, from the search that it makes.
use Rattle.std.proofs.Common.{◌≡◌, ℕ, suc, ◌+◌, ◌<◌, ◌≤◌, Bool, true, false, cond, ◌||◌, ◌&&◌, eqb, List, [], ◌∷◌, ◌++◌, map, reverse, length, take, drop, refl, ap, ◌∙◌, sym, subst, arith, inl, inr}
use Rattle.std.specs.Prelude.{Option, None, Some, filter, option_map, unwrap_or, reverse}
use Rattle.std.specs.Option.{IfSome}
use Rattle.std.specs.List.{list_any}
use Rattle.std.proofs.Math.Path.{fun_ext}
use Rattle.std.proofs.lemmas.List.{take-append-drop}
use Rattle.std.proofs.lemmas.Bool.{eq-eqb, cases_Bool}
use Rattle.map_types.specs.Stored.{Stored}
use Rattle.percpu_values.specs.BodyList.{BodyList, pushed}
use Rattle.map_types.specs.ElementLists.{times, IsIn}
use Rattle.map_types.specs.Listed.{Listed, elements_of, without_those, cursor_without}
use Rattle.map_types.specs.declared.row.Row.{Row}
use Rattle.map_types.proofs.RowLemmas.{by_test, eqb_turned, times_rows-append, times_rows-reverse}
use Rattle.place_words.specs.Shrinking.{AreTries, try_removed, after_tries, forced_rows, forced_out}
use Rattle.place_words.specs.declared.visits.Try.{Try}
use Rattle.row_list.specs.RowWords.{row_of}
use Rattle.row_list.proofs.ElementLemmas.{times_here}
use Rattle.row_list.proofs.RowLemmas.{length_without, row_present, row_of_absent, row_of_left, row_of_right, row_of_split, splits}
use Rattle.lru_lists.specs.Sets.{SetView, IsSet, listed, row_on, times_listed, taken_off, with_listed}
use Rattle.lru_lists.specs.declared.bits.BitCall.{BitCall}
use Rattle.lru_lists.specs.declared.bits.ProbeCall.{ProbeCall}
use Rattle.lru_lists.specs.declared.notes.Noted.{Noted}
use Rattle.lru_shrink.specs.Searches.{IsFound, SearchMoment, UnsparingSearch}
use Rattle.lru_shrink.specs.Shrunk.{AreStacked, ShrinkMoment, TriesPart, probe_on, probes_of_tries, try_probes, removed_by_tries}
use Rattle.lru_shrink.proofs.LookLoop.{cursor_none}
use Rattle.lru_shrink.proofs.LookWalk.{same_listed, at_true, at_false}
use Rattle.lru_shrink.proofs.Marks.{or_false, and_true, and_false, unmarked_stay}
use Rattle.lru_shrink.proofs.RowSteps.{times_off, row_off, number_off}
use Rattle.lru_shrink.proofs.SearchLoop.{try_element}
use Rattle.lru_shrink.proofs.SearchWalk.{length_removed}
use Rattle.lru_shrink.proofs.StackLemmas.{stacked_none, stacked_one}

-- a moment of the search
abbrev moment : List BitCall → List ProbeCall → Noted Try → SearchMoment (Noted Try)
moment calls probes notes = record { asked = record { calls = calls; probes = probes }; notes = notes }

-- which elements tries took off, by those that they removed
out_by : (tries : List Try) (e : ℕ) → forced_out tries e ≡ list_any (λ x. eqb x e) (removed_by_tries tries)
out_by [] e = refl
out_by (try ∷ tries) e = go (try_removed try) (out_by tries e)
  where
    go : (b : Bool) → forced_out tries e ≡ list_any (λ x. eqb x e) (removed_by_tries tries) →
        ((eqb try.element e && b) || forced_out tries e) ≡ list_any (λ x. eqb x e) (map try_element (cond b (try ∷ filter try_removed tries) (filter try_removed tries)))
    go true rest = rw (and_true (eqb try.element e)) (ap (λ (b : Bool). eqb try.element e || b) rest)
    go false rest = rw (and_false (eqb try.element e)) rest

-- the set after tries that removed none, and after tries that removed one
abbrev without_out : (ℕ → Bool) → SetView → SetView
without_out out set = record set { active = without_those out set.active; inactive = without_those out set.inactive; cursor = cursor_without out set.inactive set.cursor }

after_out : (set : SetView) (tries : List Try) (out : ℕ → Bool) → forced_out tries ≡ out → with_listed (after_tries (listed set) tries) set ≡ without_out out set
unfolding after_tries
after_out set tries out is = ap (λ (out : ℕ → Bool). without_out out set) is

pub set_stays : (set : SetView) (tries : List Try) → removed_by_tries tries ≡ [] → with_listed (after_tries (listed set) tries) set ≡ set
set_stays set tries none =
    after_out set tries (λ _. false) (fun_ext (λ e. out_by tries e ∙ ap (list_any (λ x. eqb x e)) none))
    ∙ ap (λ (rows : Listed). with_listed rows set) (same_listed (record { active = without_those (λ _. false) set.active; inactive = without_those (λ _. false) set.inactive; cursor = cursor_without (λ _. false) set.inactive set.cursor }) (listed set)
    (unmarked_stay (λ _. false) set.active (λ e _. refl)) (unmarked_stay (λ _. false) set.inactive (λ e _. refl)) (cursor_none set.inactive set.cursor))

set_loses : (set : SetView) (tries : List Try) (gone : ℕ) → removed_by_tries tries ≡ gone ∷ [] → with_listed (after_tries (listed set) tries) set ≡ taken_off gone set
set_loses set tries gone one =
    after_out set tries (λ x. eqb x gone) (fun_ext (λ e. out_by tries e ∙ ap (list_any (λ x. eqb x e)) one ∙ or_false (eqb gone e) ∙ eqb_turned gone e))

-- What stands on the list that is walked has its row in the set.
module _ (set : SetView) (whole : IsSet set) where
  pub on_forced : (e : ℕ) (row : Row) → row_of e (forced_rows (listed set)) ≡ Some row → row_on e set ≡ Some row
  on_forced e row is = elim (cases_Bool (eqb (length set.inactive) 0)) [
    | inl empty ↦ row_of_left e set.active set.inactive row (ap (row_of e) (sym (at_true (eqb (length set.inactive) 0) set.active set.inactive empty)) ∙ is)
    | inr some ↦
        let here : row_of e set.inactive ≡ Some row = ap (row_of e) (sym (at_false (eqb (length set.inactive) 0) set.active set.inactive some)) ∙ is in
        let is_in = (row_present e set.inactive).0 (rw here refl) in
        let most = whole.once e in
        row_of_right e set.active set.inactive (row_of_absent e set.active (omega arith)) ∙ here
  ]

  row_there_on : (e : ℕ) → IsIn e (elements_of (forced_rows (listed set))) → (row : Row) × (row.element ≡ e) × (row_of e (forced_rows (listed set)) ≡ Some row) × (row_on e set ≡ Some row)
  row_there_on e is_in =
      let parts = splits e (forced_rows (listed set)) is_in in
      let found : row_of e (forced_rows (listed set)) ≡ Some parts.1 = ap (row_of e) parts.3.around ∙ row_of_split e parts.0 parts.1 parts.2 parts.3.not_before parts.3.its in
      (parts.1, parts.3.its, found, on_forced e parts.1 found)

  -- so probes are told alike by the list and by the set
  alike_probes : (tries : List Try) → ((e : ℕ) → IsIn e (map try_element tries) → IsIn e (elements_of (forced_rows (listed set)))) → probes_of_tries (forced_rows (listed set)) tries ≡ try_probes set tries
  alike_probes [] on_list = refl
  alike_probes (try ∷ tries) on_list =
      let first = row_there_on try.element (on_list try.element (here try.element (map try_element tries))) in
      let same : row_of try.element (forced_rows (listed set)) ≡ row_on try.element set = first.2 ∙ sym first.3 in
      let call : ProbeCall = probe_on set try.element try.probed in
      ap (λ (found : Option Row). let head : ProbeCall = record { element = try.element; hash = unwrap_or (option_map (λ (r : Row). r.hash) found) 0; probed = try.probed } in head ∷ probes_of_tries (forced_rows (listed set)) tries) same
      ∙ ap (λ (calls : List ProbeCall). call ∷ calls) (alike_probes tries (λ e is_in. on_list e (behind e try.element (map try_element tries) is_in)))
    where
      here : (e : ℕ) (es : List ℕ) → IsIn e (e ∷ es)
      here e es = rw (eq-eqb e e refl) (omega arith)

      behind : (e x : ℕ) (es : List ℕ) → IsIn e es → IsIn e (x ∷ es)
      behind e x es is_in = by_test x e (λ b. 0 < cond b (suc (times e es)) (times e es)) (λ _. omega arith) (λ _. is_in)

-- What the search of the list found is what the shrink is to do.
module _ {before : SetView} (whole : IsSet before) {calls calls_after : List BitCall} {probes probes_after : List ProbeCall} {gives : Stored → Type 0} {notes notes_after : Noted Try} {found : Option Stored}
    {rows : List Row} (walked : rows ≡ forced_rows (listed before)) (searched : UnsparingSearch rows gives (moment calls probes notes) (moment calls_after probes_after notes_after) found) where
  search : UnsparingSearch (forced_rows (listed before)) gives (moment calls probes notes) (moment calls_after probes_after notes_after) found
  search = subst (λ (rows : List Row). UnsparingSearch rows gives (moment calls probes notes) (moment calls_after probes_after notes_after) found) walked searched

  -- the moments of the shrink around those of the search
  abbrev first : BodyList → ShrinkMoment (Noted Try)
  first out = record { set = before; asked = record { calls = calls; probes = probes }; out = out; notes = notes }

  abbrev last : SetView → BodyList → ShrinkMoment (Noted Try)
  last set out = record { set = set; asked = record { calls = calls_after; probes = probes_after }; out = out; notes = notes_after }

  were_on_list : (e : ℕ) → IsIn e (map try_element search.tries) → IsIn e (elements_of (forced_rows (listed before)))
  were_on_list e is_in =
      let rows = forced_rows (listed before) in
      let n = length search.tries in
      let same = ap (times e) search.are.from_tail in
      let cut = times_rows-append e (take n (reverse rows)) (drop n (reverse rows)) in
      let joined = ap (λ (xs : List Row). times e (elements_of xs)) (take-append-drop n (reverse rows)) in
      let turned = times_rows-reverse e rows in
      omega arith

  probed_on : probes_after ≡ probes ++ try_probes before search.tries
  probed_on = search.probed ∙ ap (λ (calls : List ProbeCall). probes ++ calls) (alike_probes before whole search.tries were_on_list)

  are_tries : AreTries (listed before) search.tries
  are_tries = record { from_tail = search.are.from_tail; until = search.are.until }

  -- nothing
  module _ (none : found ≡ None) where
    removed_none : removed_by_tries search.tries ≡ []
    removed_none = nothing found none search.answer
      where
        nothing : (o : Option Stored) → o ≡ None → IsFound gives (removed_by_tries search.tries) o → removed_by_tries search.tries ≡ []
        nothing None is answer = answer
        nothing (Some body) is answer = absurd cc

    pub forced_none : (out : BodyList) → TriesPart gives (first out) (last before out) 0
    forced_none out = record {
      tries = search.tries;
      tried = are_tries;
      set = sym (set_stays before search.tries removed_none);
      left = subst (λ (elements : List ℕ). AreStacked gives elements out out) (sym removed_none) (stacked_none gives out);
      count = ap (length {A = ℕ}) (sym removed_none) ∙ length_removed try_element try_removed search.tries;
      one = omega arith;
      asked = search.asked;
      probed = probed_on;
      noted = search.noted;
      rows = λ e. let none = ap (times e) removed_none in omega arith;
      same_rows = λ e _. refl;
      number = omega arith;
    }

  -- the body of one element
  module _ {body : Stored} (some : found ≡ Some body) where
    answer_is : (removed_by_tries search.tries ≡ body.element ∷ []) × gives body
    answer_is = something found some search.answer
      where
        something : (o : Option Stored) → o ≡ Some body → IsFound gives (removed_by_tries search.tries) o → (removed_by_tries search.tries ≡ body.element ∷ []) × gives body
        something None is answer = absurd cc
        something (Some found) is answer = subst (λ (o : Option Stored). IsFound gives (removed_by_tries search.tries) o) is answer

    its : (row : Row) × (row.element ≡ body.element) × (row_of body.element (forced_rows (listed before)) ≡ Some row) × (row_on body.element before ≡ Some row)
    its = row_there_on before whole body.element (subst (λ (o : Option Stored). IfSome o (λ body. IsIn body.element (elements_of (forced_rows (listed before))))) some search.there)

    its_on : row_on its.0.element before ≡ Some its.0
    its_on = ap (λ (e : ℕ). row_on e before) its.1 ∙ its.3

    pub forced_room : {spare : ℕ} → (1 ≤ length (forced_rows (listed before)) → 1 ≤ spare) → 1 ≤ spare
    forced_room room =
        let is_in = (row_present body.element (forced_rows (listed before))).0 (rw its.2 refl) in
        let long = length_without body.element (forced_rows (listed before)) in
        room (omega arith)

    -- `lent` is the body by which its element was read
    module _ {after : SetView} {lent : Stored} {e : ℕ} (exact : after ≡ taken_off e before) (named : e ≡ lent.element) (same : lent ≡ body) where
      off : after ≡ taken_off body.element before
      off = exact ∙ ap (λ (e : ℕ). taken_off e before) (named ∙ ap (λ (b : Stored). b.element) same)

      off_row : after ≡ taken_off its.0.element before
      off_row = off ∙ ap (λ (e : ℕ). taken_off e before) (sym its.1)

      times_after : (e : ℕ) → times_listed e after + times e (removed_by_tries search.tries) ≡ times_listed e before
      times_after e =
          let same = ap (times_listed e) off_row in
          let gone = ap (times e) answer_is.0 ∙ ap (λ (n : ℕ). times e (n ∷ [])) (sym its.1) in
          let step = times_off before its.0 whole its_on e in
          omega arith

      pub forced_one : {out out_after : BodyList} → 1 ≤ out.spare → out_after ≡ pushed body out → TriesPart gives (first out) (last after out_after) 1
      forced_one {out = out} {out_after = out_after} room push = record {
        tries = search.tries;
        tried = are_tries;
        set = off ∙ sym (set_loses before search.tries body.element answer_is.0);
        left = subst (λ (elements : List ℕ). AreStacked gives elements out out_after) (sym answer_is.0) (stacked_one gives body.element body out out_after refl answer_is.1 room push);
        count = ap (length {A = ℕ}) (sym answer_is.0) ∙ length_removed try_element try_removed search.tries;
        one = omega arith;
        asked = search.asked;
        probed = probed_on;
        noted = search.noted;
        rows = times_after;
        same_rows = λ e none. ap (row_on e) off_row ∙ row_off before its.0 whole its_on e (λ is. absurd (let gone = ap (times e) answer_is.0 in let one = times_here body.element e [] (sym (is ∙ its.1)) in omega arith));
        number = ap (λ (set : SetView). (length set.active + length set.inactive) + 1) off_row ∙ number_off before its.0 whole its_on;
      }
