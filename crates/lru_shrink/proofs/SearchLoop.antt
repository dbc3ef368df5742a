-- The two searches over rows, as far as they have come.
use Rattle.std.proofs.Common.{◌≡◌, ◌≢◌, ℕ, ◌+◌, ◌-◌, ◌*◌, ◌<◌, ◌≤◌, true, false, not, cond, List, [], ◌∷◌, ◌++◌, map, reverse, length, take, refl, ap, ◌∙◌, sym, subst, arith, inl, inr, ◌⊎◌}
use Rattle.std.specs.Prelude.{Option, None, Some, All, option_map, is_some}
use Rattle.std.specs.Option.{IfSome}
use Rattle.std.proofs.lemmas.List.{append-nil, append_assoc, length-append, length-map, map-append}
use Rattle.std.proofs.lemmas.List.Elements.{All-nil, All-push, filter_map-append}
use Rattle.map_types.specs.Stored.{Stored}
use Rattle.map_types.specs.ElementLists.{times, IsIn}
use Rattle.map_types.specs.Listed.{elements_of}
use Rattle.map_types.specs.declared.row.Row.{Row}
use Rattle.map_types.proofs.RowLemmas.{AreOnce, by_test}
use Rattle.place_words.specs.Locals.{AreSparing, AreUnsparing}
use Rattle.place_words.specs.Shrinking.{look_removed, try_removed}
use Rattle.place_words.specs.declared.visits.Look.{Look}
use Rattle.place_words.specs.declared.visits.Try.{Try}
use Rattle.row_list.specs.RowWords.{row_of, tail_row, row_before}
use Rattle.row_list.proofs.RowLemmas.{row_of_split}
use Rattle.lru_lists.specs.Notes.{AreNoted}
use Rattle.lru_lists.specs.declared.bits.BitCall.{BitCall}
use Rattle.lru_lists.specs.declared.bits.ProbeCall.{ProbeCall}
use Rattle.lru_lists.specs.declared.notes.Noted.{Noted}
use Rattle.lru_lists.proofs.NoteLemmas.{noted_none, noted_more}
use Rattle.lru_shrink.specs.Asking.{LeavesBut, Terms}
use Rattle.lru_shrink.specs.Searches.{SearchMoment, SparingSearch, UnsparingSearch, IsFound, bits_read}
use Rattle.lru_shrink.specs.Shrunk.{probe_by, probes_of_looks, probes_of_tries, removed_by_looks, removed_by_tries}
use Rattle.lru_shrink.proofs.AskingLemmas.{leaves_all, leaves_more, leaves_as}
use Rattle.lru_shrink.proofs.LookLoop.{few_probes, probes_alike}
use Rattle.lru_shrink.proofs.LookWalk.{look_element}
use Rattle.lru_shrink.proofs.RowWalk.{Walked, walked_none, few_walked, all_walked, from_tail, fewer_walked, row_is_in, its_row, walked_more}
use Rattle.lru_shrink.proofs.SearchWalk.{AreHeld, held_none, times_push, removed_last, one_held, one_removed, ends_at_removed, ends_at_all}

abbrev pub try_element : Try → ℕ
try_element try = try.element

-- a moment of a search, by the object that is asked
abbrev moment : {Asked Notes : Type 0} → (Asked → List BitCall) → (Asked → List ProbeCall) → Asked → Notes → SearchMoment Notes
moment calls probes asked notes = record { asked = record { calls = calls asked; probes = probes asked }; notes = notes }

-- what is asked of an element that another one isn't
others_stay : (e other : ℕ) → e ≢ other → times e (other ∷ []) ≡ 0
others_stay e other apart = by_test other e (λ b. ◌≡◌ {A = ℕ} (cond b 1 0) 0) (λ is. absurd (apart (sym is))) (λ _. refl)

-- where a search found something, and where it found nothing
found_some : (gives : Stored → Type 0) (removed : List ℕ) (found : Option Stored) → is_some found ≡ true → IsFound gives removed found → (body : Stored) × (found ≡ Some body) × (removed ≡ body.element ∷ []) × gives body
found_some gives removed None is answer = absurd cc
found_some gives removed (Some body) is answer = (body, refl, answer.0, answer.1)

found_none : (gives : Stored → Type 0) (removed : List ℕ) (found : Option Stored) → is_some found ≡ false → IsFound gives removed found → removed ≡ []
found_none gives removed None is answer = answer
found_none gives removed (Some body) is answer = absurd cc

found_there : (rows : List Row) (found : Option Stored) (body : Stored) {e : ℕ} → found ≡ Some body → body.element ≡ e → IsIn e (elements_of rows) → IfSome found (λ body. IsIn body.element (elements_of rows))
found_there rows found body is named is_in =
    subst (λ (o : Option Stored). IfSome o (λ body. IsIn body.element (elements_of rows))) (sym is) (subst (λ (e : ℕ). IsIn e (elements_of rows)) (sym named) is_in)

found_stays : (gives : Stored → Type 0) (removed : List ℕ) (found : Option Stored) → IsFound gives removed found → (e : ℕ) → IfSome found (λ body. e ≢ body.element) → times e removed ≡ 0
found_stays gives removed None answer e stays = ap (times e) answer
found_stays gives removed (Some body) answer e stays = ap (times e) answer.0 ∙ others_stay e body.element stays

module _ {Asked : Type 0} (terms : Terms Asked) (calls : Asked → List BitCall) (probes : Asked → List ProbeCall) where
  -- looks, and what they asked
  pub record Looked (rows : List Row) (asked_before asked_now : Asked) (notes notes_now : Noted Look) (looks : List Look) : Type 0 where
    pub bits : All (λ look. is_some look.probed ≡ not look.bit) looks
    pub asked : calls asked_now ≡ calls asked_before ++ bits_read looks
    pub probed : probes asked_now ≡ probes asked_before ++ probes_of_looks rows looks
    pub noted : AreNoted looks notes notes_now
    pub leaves : LeavesBut terms (λ e. times e (removed_by_looks looks) ≡ 0) (length looks + length (probes_of_looks rows looks)) asked_before asked_now

  pub record Sparing (rows : List Row) (asked_before asked_now : Asked) (notes notes_now : Noted Look) (at : Option Row) (i : ℕ) : Type 0 where
    pub looks : List Look
    pub walk : Walked rows (map look_element looks) at
    pub held : AreHeld look_element look_removed looks
    pub many : length looks ≡ i
    pub did : Looked rows asked_before asked_now notes notes_now looks

  pub sparing_none : (rows : List Row) (asked : Asked) (notes : Noted Look) (at : Option Row) → at ≡ tail_row rows → Sparing rows asked asked notes notes at 0
  sparing_none rows asked notes at is = record {
    looks = [];
    walk = walked_none rows at is;
    held = All-nil (λ (look : Look). look_removed look ≡ false);
    many = refl;
    did = record {
      bits = All-nil (λ (look : Look). is_some look.probed ≡ not look.bit);
      asked = sym (append-nil (calls asked));
      probed = sym (append-nil (probes asked));
      noted = noted_none notes;
      leaves = leaves_all terms (λ e. times e [] ≡ 0) asked;
    };
  }

  -- tries, and what they asked
  pub record Tried (rows : List Row) (asked_before asked_now : Asked) (notes notes_now : Noted Try) (tries : List Try) : Type 0 where
    pub asked : calls asked_now ≡ calls asked_before
    pub probed : probes asked_now ≡ probes asked_before ++ probes_of_tries rows tries
    pub noted : AreNoted tries notes notes_now
    pub leaves : LeavesBut terms (λ e. times e (removed_by_tries tries) ≡ 0) (length tries) asked_before asked_now

  pub record Unsparing (rows : List Row) (asked_before asked_now : Asked) (notes notes_now : Noted Try) (at : Option Row) (i : ℕ) : Type 0 where
    pub tries : List Try
    pub walk : Walked rows (map try_element tries) at
    pub held : AreHeld try_element try_removed tries
    pub many : length tries ≡ i
    pub did : Tried rows asked_before asked_now notes notes_now tries

  pub unsparing_none : (rows : List Row) (asked : Asked) (notes : Noted Try) (at : Option Row) → at ≡ tail_row rows → Unsparing rows asked asked notes notes at 0
  unsparing_none rows asked notes at is = record {
    tries = [];
    walk = walked_none rows at is;
    held = All-nil (λ (try : Try). try_removed try ≡ false);
    many = refl;
    did = record {
      asked = refl;
      probed = sym (append-nil (probes asked));
      noted = noted_none notes;
      leaves = leaves_all terms (λ e. times e [] ≡ 0) asked;
    };
  }

-- What walks did, once they are done
module _ {Asked : Type 0} {terms : Terms Asked} {calls : Asked → List BitCall} {probes : Asked → List ProbeCall}
    {rows : List Row} {asked_before asked_now : Asked} where
  looks_search : {notes notes_now : Noted Look} {at : Option Row} (looks : List Look) (found : Option Stored) → Looked terms calls probes rows asked_before asked_now notes notes_now looks → Walked rows (map look_element looks) at →
      AreSparing rows looks → IsFound (terms.gives asked_now) (removed_by_looks looks) found → IfSome found (λ body. IsIn body.element (elements_of rows)) →
      SparingSearch rows (terms.gives asked_now) (moment calls probes asked_before notes) (moment calls probes asked_now notes_now) found
  looks_search looks found did walk are answer there = record {
    looks = looks;
    are = are;
    few = let few = few_walked walk in let long = length-map looks look_element in omega arith;
    asked = did.asked;
    probed = did.probed;
    noted = did.noted;
    answer = answer;
    there = there;
  }

  looks_leave : {notes notes_now : Noted Look} (looks : List Look) (found : Option Stored) → Looked terms calls probes rows asked_before asked_now notes notes_now looks →
      IsFound (terms.gives asked_now) (removed_by_looks looks) found →
      LeavesBut terms (λ e. IfSome found (λ body. e ≢ body.element)) ((length (calls asked_now) - length (calls asked_before)) + (length (probes asked_now) - length (probes asked_before))) asked_before asked_now
  looks_leave looks found did answer =
      let calls_long = ap (length {A = BitCall}) did.asked ∙ length-append (calls asked_before) (bits_read looks) ∙ ap (λ (n : ℕ). length (calls asked_before) + n) (length-map looks _) in
      let probes_long = ap (length {A = ProbeCall}) did.probed ∙ length-append (probes asked_before) (probes_of_looks rows looks) in
      leaves_as terms (λ e. times e (removed_by_looks looks) ≡ 0) (λ e. IfSome found (λ body. e ≢ body.element))
      (length looks + length (probes_of_looks rows looks)) ((length (calls asked_now) - length (calls asked_before)) + (length (probes asked_now) - length (probes asked_before))) asked_before asked_now
      (found_stays (terms.gives asked_now) (removed_by_looks looks) found answer) (omega arith) did.leaves

  tries_search : {notes notes_now : Noted Try} {at : Option Row} (tries : List Try) (found : Option Stored) → Tried terms calls probes rows asked_before asked_now notes notes_now tries → Walked rows (map try_element tries) at →
      AreUnsparing rows tries → IsFound (terms.gives asked_now) (removed_by_tries tries) found → IfSome found (λ body. IsIn body.element (elements_of rows)) →
      UnsparingSearch rows (terms.gives asked_now) (moment calls probes asked_before notes) (moment calls probes asked_now notes_now) found
  tries_search tries found did walk are answer there = record {
    tries = tries;
    are = are;
    few = let few = few_walked walk in let long = length-map tries try_element in omega arith;
    asked = did.asked;
    probed = did.probed;
    noted = did.noted;
    answer = answer;
    there = there;
  }

  tries_leave : {notes notes_now : Noted Try} (tries : List Try) (found : Option Stored) → Tried terms calls probes rows asked_before asked_now notes notes_now tries →
      IsFound (terms.gives asked_now) (removed_by_tries tries) found →
      LeavesBut terms (λ e. IfSome found (λ body. e ≢ body.element)) (length (probes asked_now) - length (probes asked_before)) asked_before asked_now
  tries_leave tries found did answer =
      let long = ap (length {A = ProbeCall}) did.probed ∙ length-append (probes asked_before) (probes_of_tries rows tries) ∙ ap (λ (n : ℕ). length (probes asked_before) + n) (length-map tries _) in
      leaves_as terms (λ e. times e (removed_by_tries tries) ≡ 0) (λ e. IfSome found (λ body. e ≢ body.element))
      (length tries) (length (probes asked_now) - length (probes asked_before)) asked_before asked_now
      (found_stays (terms.gives asked_now) (removed_by_tries tries) found answer) (omega arith) did.leaves

module _ {X : Type 0} (element : X → ℕ) (rows : List Row) (items : List X) where
  rows_gone_by : {at : Option Row} → Walked rows (map element items) at → map element items ≡ elements_of (take (length items) (reverse rows))
  rows_gone_by walk = subst (λ (n : ℕ). map element items ≡ elements_of (take n (reverse rows))) (length-map items element) (from_tail walk)

  fewer_items : {at : Option Row} {row : Row} → Walked rows (map element items) at → at ≡ Some row → length items < length rows
  fewer_items walk here = let fewer = fewer_walked walk here in let long = length-map items element in omega arith

  all_items : {at : Option Row} {i : ℕ} → Walked rows (map element items) at → length items ≡ i → (i ≡ length rows) ⊎ (at ≡ None) → length items ≡ length rows
  all_items walk many (inl all) = many ∙ all
  all_items walk many (inr none) = sym (length-map items element) ∙ all_walked walk none

  one_more : {at at_then : Option Row} {row : Row} (item : X) → Walked rows (map element items) at → AreOnce rows → at ≡ Some row → element item ≡ row.element → at_then ≡ row_before row.element rows → Walked rows (map element (items ++ item ∷ [])) at_then
  one_more {at_then = at_then} item walk once here named next = subst (λ (elements : List ℕ). Walked rows elements at_then) (sym (map-append element items (item ∷ []))) (walked_more walk here once named next)

-- The search that spares set bits, at the next row
module _ {Asked : Type 0} {terms : Terms Asked} {calls : Asked → List BitCall} {probes : Asked → List ProbeCall}
    {rows : List Row} {asked_before asked_now : Asked} {notes notes_now : Noted Look} {at : Option Row} {i : ℕ} {row : Row}
    (so_far : Sparing terms calls probes rows asked_before asked_now notes notes_now at i) (once : AreOnce rows) (here : at ≡ Some row) where
  pub look_noted : terms.can_note asked_before (2 * length rows) → ((m n : ℕ) → m ≤ n → terms.can_note asked_now n → terms.can_note asked_now m) → terms.can_note asked_now 2
  look_noted can fewer =
      let below = fewer_items look_element rows so_far.looks so_far.walk here in
      let few = few_probes rows so_far.looks in
      fewer 2 (2 * length rows - (length so_far.looks + length (probes_of_looks rows so_far.looks))) (omega arith) (so_far.did.leaves.noted (2 * length rows) can)

  pub look_asked : ((e : ℕ) → IsIn e (elements_of rows) → terms.may_ask asked_before e) → terms.may_ask asked_now row.element
  look_asked may = so_far.did.leaves.asked row.element (may row.element (row_is_in so_far.walk here))

  pub look_probed : ((r : Row) → row_of r.element rows ≡ Some r → terms.may_probe asked_before r) → terms.may_probe asked_now row
  look_probed may = so_far.did.leaves.probing row (ap (times row.element) (held_none look_element look_removed so_far.looks so_far.held)) (may row (its_row so_far.walk here once))

  -- after one more look
  module _ {asked_then : Asked} (notes_then : Noted Look) (look : Look) (named : look.element ≡ row.element) (bit : is_some look.probed ≡ not look.bit)
      (call : calls asked_then ≡ calls asked_now ++ bits_read (look ∷ [])) (probe : probes asked_then ≡ probes asked_now ++ probes_of_looks (row ∷ []) (look ∷ []))
      (only : LeavesBut terms (λ e. times e (removed_by_looks (look ∷ [])) ≡ 0) (1 + length (probes_of_looks (row ∷ []) (look ∷ []))) asked_now asked_then)
      (noted : AreNoted (look ∷ []) notes_now notes_then) (found : Option Stored) (answer : IsFound (terms.gives asked_then) (removed_by_looks (look ∷ [])) found) where
    looked : Looked terms calls probes rows asked_before asked_then notes notes_then (so_far.looks ++ look ∷ [])
    looked =
        let looks : List Look = so_far.looks in
        let alike : probes_of_looks (row ∷ []) (look ∷ []) ≡ probes_of_looks rows (look ∷ []) =
        probes_alike (row ∷ []) rows look (row_of_split look.element [] row [] refl (sym named) ∙ sym (its_row so_far.walk here once) ∙ ap (λ (e : ℕ). row_of e rows) (sym named)) in
        let both = filter_map-append (λ (l : Look). option_map (probe_by rows l.element) l.probed) looks (look ∷ []) in
        record {
          bits = All-push (λ (l : Look). is_some l.probed ≡ not l.bit) looks look so_far.did.bits bit;
          asked =
              call ∙ ap (λ (xs : List BitCall). xs ++ bits_read (look ∷ [])) so_far.did.asked ∙ append_assoc (calls asked_before) (bits_read looks) (bits_read (look ∷ []))
              ∙ ap (λ (xs : List BitCall). calls asked_before ++ xs) (sym (map-append _ looks (look ∷ [])));
          probed =
              probe ∙ ap (λ (xs : List ProbeCall). probes asked_now ++ xs) alike ∙ ap (λ (xs : List ProbeCall). xs ++ probes_of_looks rows (look ∷ [])) so_far.did.probed
              ∙ append_assoc (probes asked_before) (probes_of_looks rows looks) (probes_of_looks rows (look ∷ [])) ∙ ap (λ (xs : List ProbeCall). probes asked_before ++ xs) (sym both);
          noted = noted_more looks (look ∷ []) notes notes_now notes_then so_far.did.noted noted;
          leaves =
              let longer = length-append looks (look ∷ []) in
              let probes_longer = ap (length {A = ProbeCall}) both ∙ length-append (probes_of_looks rows looks) (probes_of_looks rows (look ∷ [])) in
              let same_number = ap (length {A = ProbeCall}) alike in
              leaves_more terms (λ e. times e (removed_by_looks looks) ≡ 0) (λ e. times e (removed_by_looks (look ∷ [])) ≡ 0) (λ e. times e (removed_by_looks (looks ++ look ∷ [])) ≡ 0)
              (length looks + length (probes_of_looks rows looks)) (1 + length (probes_of_looks (row ∷ []) (look ∷ []))) (length (looks ++ look ∷ []) + length (probes_of_looks rows (looks ++ look ∷ [])))
              asked_before asked_now asked_then
              (λ e none. let more = times_push look_element look_removed e looks look in omega arith) (λ e none. let more = times_push look_element look_removed e looks look in omega arith) (omega arith) so_far.did.leaves only;
        }

    -- one that removed nothing
    pub sparing_more : {at_then : Option Row} → at_then ≡ row_before row.element rows → is_some found ≡ false → Sparing terms calls probes rows asked_before asked_then notes notes_then at_then (i + 1)
    sparing_more next none = record {
      looks = so_far.looks ++ look ∷ [];
      walk = one_more look_element rows so_far.looks look so_far.walk once here named next;
      held = All-push (λ (l : Look). look_removed l ≡ false) so_far.looks look so_far.held (one_held look_element look_removed look (found_none (terms.gives asked_then) (removed_by_looks (look ∷ [])) found none answer));
      many = length-append so_far.looks (look ∷ []) ∙ ap (λ (n : ℕ). n + 1) so_far.many;
      did = looked;
    }

    -- one that removed its element
    answer_then : IsFound (terms.gives asked_then) (removed_by_looks (so_far.looks ++ look ∷ [])) found
    answer_then = subst (λ (elements : List ℕ). IsFound (terms.gives asked_then) elements found) (sym (removed_last look_element look_removed so_far.looks look so_far.held)) answer

    pub sparing_found : is_some found ≡ true → SparingSearch rows (terms.gives asked_then) (moment calls probes asked_before notes) (moment calls probes asked_then notes_then) found
    sparing_found some =
        let body = found_some (terms.gives asked_then) (removed_by_looks (look ∷ [])) found some answer in
        let walk = one_more look_element rows so_far.looks look so_far.walk once here named refl in
        looks_search (so_far.looks ++ look ∷ []) found looked walk
        (record {
          from_tail = rows_gone_by look_element rows (so_far.looks ++ look ∷ []) walk;
          probed = looked.bits;
          until = ends_at_removed look_element look_removed (length rows) so_far.looks look so_far.held (fewer_items look_element rows so_far.looks so_far.walk here) (one_removed look_element look_removed look body.0.element body.2).0;
        })
        answer_then (found_there rows found body.0 body.1 (sym ((one_removed look_element look_removed look body.0.element body.2).1) ∙ named) (row_is_in so_far.walk here))

    pub sparing_found_leaves : LeavesBut terms (λ e. IfSome found (λ body. e ≢ body.element)) ((length (calls asked_then) - length (calls asked_before)) + (length (probes asked_then) - length (probes asked_before))) asked_before asked_then
    sparing_found_leaves = looks_leave (so_far.looks ++ look ∷ []) found looked answer_then

-- at its end, where nothing was removed
module _ {Asked : Type 0} {terms : Terms Asked} {calls : Asked → List BitCall} {probes : Asked → List ProbeCall}
    {rows : List Row} {asked_before asked_now : Asked} {notes notes_now : Noted Look} {at : Option Row} {i : ℕ}
    (so_far : Sparing terms calls probes rows asked_before asked_now notes notes_now at i) where
  none_looked : removed_by_looks so_far.looks ≡ []
  none_looked = held_none look_element look_removed so_far.looks so_far.held

  pub sparing_all : (i ≡ length rows) ⊎ (at ≡ None) → SparingSearch rows (terms.gives asked_now) (moment calls probes asked_before notes) (moment calls probes asked_now notes_now) None
  sparing_all done =
      looks_search so_far.looks None so_far.did so_far.walk
      (record {
        from_tail = rows_gone_by look_element rows so_far.looks so_far.walk;
        probed = so_far.did.bits;
        until = ends_at_all look_element look_removed (length rows) so_far.looks so_far.held (all_items look_element rows so_far.looks so_far.walk so_far.many done);
      })
      none_looked tt

  pub sparing_all_leaves : LeavesBut terms (λ e. IfSome {T = Stored} None (λ body. e ≢ body.element)) ((length (calls asked_now) - length (calls asked_before)) + (length (probes asked_now) - length (probes asked_before))) asked_before asked_now
  sparing_all_leaves = looks_leave so_far.looks None so_far.did none_looked

-- The search that spares none, at the next row
module _ {Asked : Type 0} {terms : Terms Asked} {calls : Asked → List BitCall} {probes : Asked → List ProbeCall}
    {rows : List Row} {asked_before asked_now : Asked} {notes notes_now : Noted Try} {at : Option Row} {i : ℕ} {row : Row}
    (so_far : Unsparing terms calls probes rows asked_before asked_now notes notes_now at i) (once : AreOnce rows) (here : at ≡ Some row) where
  pub try_noted : terms.can_note asked_before (length rows) → ((m n : ℕ) → m ≤ n → terms.can_note asked_now n → terms.can_note asked_now m) → terms.can_note asked_now 1
  try_noted can fewer =
      let below = fewer_items try_element rows so_far.tries so_far.walk here in
      fewer 1 (length rows - length so_far.tries) (omega arith) (so_far.did.leaves.noted (length rows) can)

  pub try_probed : ((r : Row) → row_of r.element rows ≡ Some r → terms.may_probe asked_before r) → terms.may_probe asked_now row
  try_probed may = so_far.did.leaves.probing row (ap (times row.element) (held_none try_element try_removed so_far.tries so_far.held)) (may row (its_row so_far.walk here once))

  -- after one more try
  module _ {asked_then : Asked} (notes_then : Noted Try) (try : Try) (named : try.element ≡ row.element)
      (called : calls asked_then ≡ calls asked_now) (probe : probes asked_then ≡ probes asked_now ++ record { element = row.element; hash = row.hash; probed = try.probed } ∷ [])
      (only : LeavesBut terms (λ e. times e (removed_by_tries (try ∷ [])) ≡ 0) 1 asked_now asked_then)
      (noted : AreNoted (try ∷ []) notes_now notes_then) (found : Option Stored) (answer : IsFound (terms.gives asked_then) (removed_by_tries (try ∷ [])) found) where
    tried : Tried terms calls probes rows asked_before asked_then notes notes_then (so_far.tries ++ try ∷ [])
    tried =
        let tries : List Try = so_far.tries in
        let alike : record { element = row.element; hash = row.hash; probed = try.probed } ≡ probe_by rows try.element try.probed = rw (named, its_row so_far.walk here once) refl in
        let both = map-append (λ (t : Try). probe_by rows t.element t.probed) tries (try ∷ []) in
        record {
          asked = called ∙ so_far.did.asked;
          probed =
              probe ∙ ap (λ (call : ProbeCall). probes asked_now ++ call ∷ []) alike ∙ ap (λ (xs : List ProbeCall). xs ++ probes_of_tries rows (try ∷ [])) so_far.did.probed
              ∙ append_assoc (probes asked_before) (probes_of_tries rows tries) (probes_of_tries rows (try ∷ [])) ∙ ap (λ (xs : List ProbeCall). probes asked_before ++ xs) (sym both);
          noted = noted_more tries (try ∷ []) notes notes_now notes_then so_far.did.noted noted;
          leaves =
              leaves_more terms (λ e. times e (removed_by_tries tries) ≡ 0) (λ e. times e (removed_by_tries (try ∷ [])) ≡ 0) (λ e. times e (removed_by_tries (tries ++ try ∷ [])) ≡ 0)
              (length tries) 1 (length (tries ++ try ∷ [])) asked_before asked_now asked_then
              (λ e none. let more = times_push try_element try_removed e tries try in omega arith) (λ e none. let more = times_push try_element try_removed e tries try in omega arith) (sym (length-append tries (try ∷ []))) so_far.did.leaves only;
        }

    -- one that removed nothing
    pub unsparing_more : {at_then : Option Row} → at_then ≡ row_before row.element rows → is_some found ≡ false → Unsparing terms calls probes rows asked_before asked_then notes notes_then at_then (i + 1)
    unsparing_more next none = record {
      tries = so_far.tries ++ try ∷ [];
      walk = one_more try_element rows so_far.tries try so_far.walk once here named next;
      held = All-push (λ (t : Try). try_removed t ≡ false) so_far.tries try so_far.held (one_held try_element try_removed try (found_none (terms.gives asked_then) (removed_by_tries (try ∷ [])) found none answer));
      many = length-append so_far.tries (try ∷ []) ∙ ap (λ (n : ℕ). n + 1) so_far.many;
      did = tried;
    }

    -- one that removed its element
    answer_so : IsFound (terms.gives asked_then) (removed_by_tries (so_far.tries ++ try ∷ [])) found
    answer_so = subst (λ (elements : List ℕ). IsFound (terms.gives asked_then) elements found) (sym (removed_last try_element try_removed so_far.tries try so_far.held)) answer

    pub unsparing_found : is_some found ≡ true → UnsparingSearch rows (terms.gives asked_then) (moment calls probes asked_before notes) (moment calls probes asked_then notes_then) found
    unsparing_found some =
        let body = found_some (terms.gives asked_then) (removed_by_tries (try ∷ [])) found some answer in
        let walk = one_more try_element rows so_far.tries try so_far.walk once here named refl in
        tries_search (so_far.tries ++ try ∷ []) found tried walk
        (record {
          from_tail = rows_gone_by try_element rows (so_far.tries ++ try ∷ []) walk;
          until = ends_at_removed try_element try_removed (length rows) so_far.tries try so_far.held (fewer_items try_element rows so_far.tries so_far.walk here) (one_removed try_element try_removed try body.0.element body.2).0;
        })
        answer_so (found_there rows found body.0 body.1 (sym ((one_removed try_element try_removed try body.0.element body.2).1) ∙ named) (row_is_in so_far.walk here))

    pub unsparing_found_leaves : LeavesBut terms (λ e. IfSome found (λ body. e ≢ body.element)) (length (probes asked_then) - length (probes asked_before)) asked_before asked_then
    unsparing_found_leaves = tries_leave (so_far.tries ++ try ∷ []) found tried answer_so

-- at its end, where nothing was removed
module _ {Asked : Type 0} {terms : Terms Asked} {calls : Asked → List BitCall} {probes : Asked → List ProbeCall}
    {rows : List Row} {asked_before asked_now : Asked} {notes notes_now : Noted Try} {at : Option Row} {i : ℕ}
    (so_far : Unsparing terms calls probes rows asked_before asked_now notes notes_now at i) where
  none_tried : removed_by_tries so_far.tries ≡ []
  none_tried = held_none try_element try_removed so_far.tries so_far.held

  pub unsparing_all : (i ≡ length rows) ⊎ (at ≡ None) → UnsparingSearch rows (terms.gives asked_now) (moment calls probes asked_before notes) (moment calls probes asked_now notes_now) None
  unsparing_all done =
      tries_search so_far.tries None so_far.did so_far.walk
      (record {
        from_tail = rows_gone_by try_element rows so_far.tries so_far.walk;
        until = ends_at_all try_element try_removed (length rows) so_far.tries so_far.held (all_items try_element rows so_far.tries so_far.walk so_far.many done);
      })
      none_tried tt

  pub unsparing_all_leaves : LeavesBut terms (λ e. IfSome {T = Stored} None (λ body. e ≢ body.element)) (length (probes asked_now) - length (probes asked_before)) asked_before asked_now
  unsparing_all_leaves = tries_leave so_far.tries None so_far.did none_tried
