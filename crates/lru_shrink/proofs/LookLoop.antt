-- The walk of looks over inactive, as far as it has come.
use Rattle.std.proofs.Common.{◌≡◌, ℕ, suc, ◌+◌, ◌-◌, ◌*◌, ◌<◌, ◌≤◌, min, Bool, true, false, not, cond, ◌||◌, eqb, List, [], ◌∷◌, ◌++◌, reverse, length, take, drop, refl, ap, ◌∙◌, sym, subst, arith, inl, inr, ◌⊎◌}
use Rattle.std.specs.Prelude.{Option, None, Some, All, filter_map, count_by, option_map, unwrap_or, is_some}
use Rattle.std.specs.List.{cons_option}
use Rattle.std.proofs.lemmas.List.{append-nil, append_assoc, length-append, length-map, map-append, take-append-le, length-take-le, take_at, take-append-drop, length-reverse}
use Rattle.std.proofs.lemmas.List.Elements.{All-nil, All-push, filter_map-append}
use Rattle.std.proofs.lemmas.List.Sums.{sum_by-append, count_by-le-length}
use Rattle.std.proofs.lemmas.Bool.{ne_eqb, eq-eqb}
use Rattle.map_types.specs.Stored.{Stored}
use Rattle.percpu_values.specs.BodyList.{BodyList}
use Rattle.map_types.specs.ElementLists.{times}
use Rattle.place_words.specs.declared.bucket_part.Seen.{Seen}
use Rattle.map_types.specs.declared.row.Row.{Row}
use Rattle.place_words.specs.declared.visits.Look.{Look}
use Rattle.map_types.specs.Listed.{elements_of, cursor_without}
use Rattle.place_words.specs.Shrinking.{AreLooks, look_removed, after_looks}
use Rattle.row_list.specs.RowWords.{row_of, head_row, tail_row, row_before}
use Rattle.lru_lists.specs.Notes.{AreNoted}
use Rattle.lru_lists.specs.Sets.{SetView, IsSet, IsListed, listed, row_on, times_listed, with_listed}
use Rattle.lru_lists.specs.declared.bits.BitCall.{BitCall}
use Rattle.lru_lists.specs.declared.bits.ProbeCall.{ProbeCall}
use Rattle.lru_lists.specs.declared.notes.Noted.{Noted}
use Rattle.lru_shrink.specs.Asking.{LeavesBut, Terms}
use Rattle.lru_shrink.specs.Shrunk.{AreStacked, LooksPart, after_look, cleared, probe_by, probe_on, probes_of_looks, look_probes, removed_by_looks}
use Rattle.lru_shrink.proofs.AskingLemmas.{leaves_all, leaves_more, leaves_as}
use Rattle.lru_shrink.proofs.Marks.{unmarked_stay}
use Rattle.lru_shrink.proofs.LookWalk as walk
use Rattle.lru_shrink.proofs.LookWalk.{looked_at, or_true, or_other, or_none}
use Rattle.lru_shrink.proofs.SearchWalk.{length_removed, removed_push, times_push}
use Rattle.lru_shrink.proofs.RowWalk.{first_of, none_first}
use Rattle.lru_shrink.proofs.RowSteps.{times_look, row_look, number_look}
use Rattle.lru_lists.proofs.NoteLemmas.{noted_none, noted_more}
use Rattle.lru_shrink.proofs.StackLemmas.{stacked_none, stacked_more}

pub cursor_none : (rows : List Row) (at : Option ℕ) → cursor_without (λ _. false) rows at ≡ at
cursor_none rows None = refl
cursor_none rows (Some c) = refl

count_push : (looks : List Look) (look : Look) → count_by look_removed (looks ++ look ∷ []) ≡ count_by look_removed looks + count_by look_removed (look ∷ [])
count_push looks look = sum_by-append (λ (l : Look). cond (look_removed l) 1 0) looks (look ∷ [])

count_take : (k : ℕ) (looks : List Look) → count_by look_removed (take k looks) ≤ count_by look_removed looks
count_take k looks =
    let apart = sum_by-append (λ (l : Look). cond (look_removed l) 1 0) (take k looks) (drop k looks) in
    let whole = ap (count_by look_removed) (take-append-drop k looks) in
    omega arith

early_push : (looks : List Look) (look : Look) (target : ℕ) → count_by look_removed looks < target → (k : ℕ) → k < length (looks ++ look ∷ []) → count_by look_removed (take k (looks ++ look ∷ [])) < target
early_push looks look target below k within =
    let longer = length-append looks (look ∷ []) in
    let same = ap (count_by look_removed) (take-append-le k looks (look ∷ []) (omega arith)) in
    let few = count_take k looks in
    omega arith

-- the probes of a look by what two lists say alike of its row
pub probes_alike : (a b : List Row) (look : Look) → row_of look.element a ≡ row_of look.element b → probes_of_looks a (look ∷ []) ≡ probes_of_looks b (look ∷ [])
probes_alike a b look same =
    ap (λ (found : Option Row). filter_map (λ (l : Look). option_map (λ (seen : Seen). let call : ProbeCall = record { element = l.element; hash = unwrap_or (option_map (λ (row : Row). row.hash) found) 0; probed = seen } in call) l.probed) (look ∷ [])) same

pub few_probes : (rows : List Row) (looks : List Look) → length (probes_of_looks rows looks) ≤ length looks
few_probes rows [] = omega arith
few_probes rows (look ∷ looks) = let rest = few_probes rows looks in one_more_at_most (option_map (probe_by rows look.element) look.probed) (probes_of_looks rows looks) (length looks) rest
  where
    one_more_at_most : (call : Option ProbeCall) (calls : List ProbeCall) (n : ℕ) → length calls ≤ n → length (cons_option call calls) ≤ suc n
    one_more_at_most None calls n few = omega arith
    one_more_at_most (Some call) calls n few = omega arith

module _ {Asked : Type 0} (terms : Terms Asked) (calls : Asked → List BitCall) (probes : Asked → List ProbeCall) where
  pub record Looking (target : ℕ) (before now : SetView) (asked_before asked_now : Asked) (out out_now : BodyList) (notes notes_now : Noted Look) (at : Option Row) (freed i : ℕ) : Type 0 where
    pub visited : List Row
    pub left : List Row
    pub looks : List Look
    pub order : reverse before.inactive ≡ visited ++ left
    pub seen : looked_at looks ≡ elements_of visited
    pub next : at ≡ head_row left
    pub many : length looks ≡ i
    pub bits : All (λ look. is_some look.probed ≡ not look.bit) looks
    pub early : (k : ℕ) → k < length looks → count_by look_removed (take k looks) < target
    pub set : now ≡ with_listed (after_looks (listed before) looks) before
    pub stacked : AreStacked (terms.gives asked_now) (removed_by_looks looks) out out_now
    pub count : freed ≡ count_by look_removed looks
    pub asked : calls asked_now ≡ calls asked_before ++ cleared looks
    pub probed : probes asked_now ≡ probes asked_before ++ look_probes before looks
    pub noted : AreNoted looks notes notes_now
    pub rows : (e : ℕ) → times_listed e now + times e (removed_by_looks looks) ≡ times_listed e before
    pub same_rows : (e : ℕ) → times e (removed_by_looks looks) ≡ 0 → row_on e now ≡ row_on e before
    pub leaves : LeavesBut terms (λ e. times e (removed_by_looks looks) ≡ 0) (length looks + length (look_probes before looks)) asked_before asked_now
    pub number : (length now.active + length now.inactive) + freed ≡ length before.active + length before.inactive
    pub was_whole : IsSet before
    pub whole : IsSet now

  pub looking_none : (target : ℕ) (set : SetView) (asked : Asked) (out : BodyList) (notes : Noted Look) (at : Option Row) → IsSet set → at ≡ tail_row set.inactive → Looking target set set asked asked out out notes notes at 0 0
  unfolding after_looks
  looking_none target set asked out notes at whole is = record {
    visited = [];
    left = reverse set.inactive;
    looks = [];
    order = refl;
    seen = refl;
    next = is;
    many = refl;
    bits = All-nil (λ (look : Look). is_some look.probed ≡ not look.bit);
    early = λ k none. absurd (omega arith);
    set = rw (unmarked_stay (λ _. false) set.inactive (λ e _. refl), cursor_none set.inactive set.cursor) refl;
    stacked = stacked_none (terms.gives asked) out;
    count = refl;
    asked = sym (append-nil (calls asked));
    probed = sym (append-nil (probes asked));
    noted = noted_none notes;
    rows = λ e. omega arith;
    same_rows = λ e _. refl;
    leaves = leaves_all terms (λ e. times e [] ≡ 0) asked;
    number = omega arith;
    was_whole = whole;
    whole = whole;
  }

-- At the next row
module _ {Asked : Type 0} {terms : Terms Asked} {calls : Asked → List BitCall} {probes : Asked → List ProbeCall}
    {target : ℕ} {before now : SetView} {asked_before asked_now : Asked} {out out_now : BodyList} {notes notes_now : Noted Look} {at : Option Row} {freed i : ℕ} {row : Row}
    (so_far : Looking terms calls probes target before now asked_before asked_now out out_now notes notes_now at freed i) (here : at ≡ Some row) where
  rest : List Row
  rest = (first_of so_far.left row (sym so_far.next ∙ here)).0

  order_here : reverse before.inactive ≡ so_far.visited ++ row ∷ rest
  unfolding rest
  order_here = so_far.order ∙ ap (λ (xs : List Row). so_far.visited ++ xs) (first_of so_far.left row (sym so_far.next ∙ here)).1

  pub row_listed : IsListed row.element now
  row_listed = subst (λ (set : SetView). IsListed row.element set) (sym so_far.set) (walk.is_listed before so_far.was_whole so_far.visited rest row so_far.looks order_here so_far.seen)

  was_its : row_on row.element before ≡ Some row
  was_its = walk.was_its before so_far.was_whole so_far.visited rest row so_far.looks order_here so_far.seen

  its : row_on row.element now ≡ Some row
  its = ap (row_on row.element) so_far.set ∙ walk.its_row before so_far.was_whole so_far.visited rest row so_far.looks order_here so_far.seen

  not_removed : times row.element (removed_by_looks so_far.looks) ≡ 0
  not_removed = let sum = so_far.rows row.element in let most = so_far.was_whole.once row.element in let listed = row_listed in omega arith

  few_visited : length so_far.looks < length before.inactive
  few_visited =
      let same = ap (length {A = Row}) order_here in
      let apart = length-append so_far.visited (row ∷ rest) in
      let turned = length-reverse before.inactive in
      let looked = sym (length-map so_far.looks walk.look_element) ∙ ap (length {A = ℕ}) so_far.seen ∙ length-map so_far.visited (λ (r : Row). r.element) in
      omega arith

  pub room_now : min target (length before.inactive) ≤ out.spare → freed < target → 1 ≤ out_now.spare
  room_now room below =
      let few = few_visited in
      let count = so_far.count in
      let most = count_by-le-length look_removed so_far.looks in
      let bodies = sym (length-map so_far.stacked.bodies (λ (body : Stored). body.element)) ∙ ap (length {A = ℕ}) so_far.stacked.numbers ∙ length_removed walk.look_element look_removed so_far.looks in
      let spare = ap (λ (stack : BodyList). stack.spare) so_far.stacked.stacked in
      omega arith

  pub noted_now : (scans : ℕ) → i < scans → terms.can_note asked_before (2 * scans) → ((m n : ℕ) → m ≤ n → terms.can_note asked_now n → terms.can_note asked_now m) → terms.can_note asked_now 2
  noted_now scans below can fewer =
      let few = few_probes (before.active ++ before.inactive) so_far.looks in
      let many = so_far.many in
      fewer 2 (2 * scans - (length so_far.looks + length (look_probes before so_far.looks))) (omega arith) (so_far.leaves.noted (2 * scans) can)

  pub asked_row : ((e : ℕ) → IsListed e before → terms.may_ask asked_before e) → terms.may_ask asked_now row.element
  asked_row may = so_far.leaves.asked row.element (may row.element (walk.was_listed before so_far.was_whole so_far.visited rest row so_far.looks order_here so_far.seen))

  pub probed_row : ((r : Row) → row_on r.element before ≡ Some r → terms.may_probe asked_before r) → terms.may_probe asked_now row
  probed_row may = so_far.leaves.probing row not_removed (may row was_its)

  next_row : row_before row.element now.inactive ≡ head_row rest
  next_row = ap (λ (set : SetView). row_before row.element set.inactive) so_far.set ∙ walk.next_row before so_far.was_whole so_far.visited rest row so_far.looks order_here so_far.seen

  -- after one more look
  pub looking_more : {then : SetView} {asked_then : Asked} {out_then : BodyList} {at_then : Option Row} {freed_then : ℕ} (notes_then : Noted Look) (look : Look) →
      look.element ≡ row.element → is_some look.probed ≡ not look.bit → then ≡ after_look look now →
      AreStacked (terms.gives asked_then) (removed_by_looks (look ∷ [])) out_now out_then → calls asked_then ≡ calls asked_now ++ cleared (look ∷ []) →
      (row_on row.element now ≡ Some row → probes asked_then ≡ probes asked_now ++ look_probes now (look ∷ [])) →
      (IsSet now → IsSet then) → LeavesBut terms (λ e. times e (removed_by_looks (look ∷ [])) ≡ 0) (1 + length (look_probes now (look ∷ []))) asked_now asked_then →
      AreNoted (look ∷ []) notes_now notes_then → at_then ≡ row_before row.element now.inactive → freed_then ≡ freed + count_by look_removed (look ∷ []) → freed < target →
      Looking terms calls probes target before then asked_before asked_then out out_then notes notes_then at_then freed_then (i + 1)
  looking_more {then = then} {asked_then = asked_then} {out_then = out_then} notes_then look named bit is stacked call probe whole only noted next count below =
      let looks : List Look = so_far.looks in
      let same : row_on look.element now ≡ row_on look.element before = ap (λ (e : ℕ). row_on e now) named ∙ its ∙ sym was_its ∙ ap (λ (e : ℕ). row_on e before) (sym named) in
      let alike = probes_alike (now.active ++ now.inactive) (before.active ++ before.inactive) look same in
      let both = filter_map-append (λ (l : Look). option_map (probe_on before l.element) l.probed) looks (look ∷ []) in
      record {
        visited = so_far.visited ++ row ∷ [];
        left = rest;
        looks = looks ++ look ∷ [];
        order = order_here ∙ sym (append_assoc so_far.visited (row ∷ []) rest);
        seen = map-append walk.look_element looks (look ∷ []) ∙ ap (λ (xs : List ℕ). xs ++ look.element ∷ []) so_far.seen ∙ ap (λ (e : ℕ). elements_of so_far.visited ++ e ∷ []) named ∙ sym (map-append (λ (r : Row). r.element) so_far.visited (row ∷ []));
        next = next ∙ next_row;
        many = length-append looks (look ∷ []) ∙ ap (λ (n : ℕ). n + 1) so_far.many;
        bits = All-push (λ (l : Look). is_some l.probed ≡ not l.bit) looks look so_far.bits bit;
        early = early_push looks look target (let had = so_far.count in omega arith);
        set = is ∙ ap (after_look look) so_far.set ∙ sym (walk.one_more before so_far.was_whole so_far.visited rest row looks order_here so_far.seen look named);
        stacked = subst (λ (xs : List ℕ). AreStacked (terms.gives asked_then) xs out out_then) (sym (removed_push walk.look_element look_removed looks look)) (stacked_more (terms.gives asked_now) (terms.gives asked_then) (removed_by_looks looks) (removed_by_looks (look ∷ [])) out out_now out_then (λ body. (only.given body).0) so_far.stacked stacked);
        count = count ∙ ap (λ (n : ℕ). n + count_by look_removed (look ∷ [])) so_far.count ∙ sym (count_push looks look);
        asked = call ∙ ap (λ (xs : List BitCall). xs ++ cleared (look ∷ [])) so_far.asked ∙ append_assoc (calls asked_before) (cleared looks) (cleared (look ∷ [])) ∙ ap (λ (xs : List BitCall). calls asked_before ++ xs) (sym (map-append _ looks (look ∷ [])));
        probed = probe its ∙ ap (λ (xs : List ProbeCall). xs ++ look_probes now (look ∷ [])) so_far.probed ∙ append_assoc (probes asked_before) (look_probes before looks) (look_probes now (look ∷ [])) ∙ ap (λ (xs : List ProbeCall). probes asked_before ++ (look_probes before looks ++ xs)) alike ∙ ap (λ (xs : List ProbeCall). probes asked_before ++ xs) (sym both);
        noted = noted_more looks (look ∷ []) notes notes_now notes_then so_far.noted noted;
        rows = λ e. let step = times_look now row so_far.whole its look named bit e in let old = so_far.rows e in let more = times_push walk.look_element look_removed e looks look in let then_is = ap (times_listed e) is in omega arith;
        same_rows = λ e none. let more = times_push walk.look_element look_removed e looks look in ap (row_on e) is ∙ row_look now row so_far.whole its look named bit e (omega arith) ∙ so_far.same_rows e (omega arith);
        leaves =
            let longer = length-append looks (look ∷ []) in
            let probes_longer = ap (length {A = ProbeCall}) both ∙ length-append (look_probes before looks) (look_probes before (look ∷ [])) in
            let same_number = ap (length {A = ProbeCall}) alike in
            leaves_more terms (λ e. times e (removed_by_looks looks) ≡ 0) (λ e. times e (removed_by_looks (look ∷ [])) ≡ 0) (λ e. times e (removed_by_looks (looks ++ look ∷ [])) ≡ 0)
            (length looks + length (look_probes before looks)) (1 + length (look_probes now (look ∷ []))) (length (looks ++ look ∷ []) + length (look_probes before (looks ++ look ∷ [])))
            asked_before asked_now asked_then
            (λ e none. let more = times_push walk.look_element look_removed e looks look in omega arith) (λ e none. let more = times_push walk.look_element look_removed e looks look in omega arith) (omega arith) so_far.leaves only;
        number =
            let step = number_look now row so_far.whole its look named bit in
            let active = ap (λ (set : SetView). length set.active) is in
            let inactive = ap (λ (set : SetView). length set.inactive) is in
            let old = so_far.number in
            omega arith;
        was_whole = so_far.was_whole;
        whole = whole so_far.whole;
      }

-- At its end
module _ {Asked : Type 0} {terms : Terms Asked} {calls : Asked → List BitCall} {probes : Asked → List ProbeCall}
    {target : ℕ} {before now : SetView} {asked_before asked_now : Asked} {out out_now : BodyList} {notes notes_now : Noted Look} {at : Option Row} {freed i : ℕ}
    (so_far : Looking terms calls probes target before now asked_before asked_now out out_now notes notes_now at freed i) where
  counted : length before.inactive ≡ length so_far.looks + length so_far.left
  counted =
      let same = ap (length {A = Row}) so_far.order in
      let apart = length-append so_far.visited so_far.left in
      let turned = length-reverse before.inactive in
      let looked = sym (length-map so_far.looks walk.look_element) ∙ ap (length {A = ℕ}) so_far.seen ∙ length-map so_far.visited (λ (r : Row). r.element) in
      omega arith

  from_the_tail : looked_at so_far.looks ≡ elements_of (take (length so_far.looks) (reverse before.inactive))
  from_the_tail =
      let looked = sym (length-map so_far.looks walk.look_element) ∙ ap (length {A = ℕ}) so_far.seen ∙ length-map so_far.visited (λ (r : Row). r.element) in
      so_far.seen ∙ sym (ap elements_of (ap (take (length so_far.looks)) so_far.order ∙ take_at so_far.visited so_far.left (length so_far.looks) (sym looked)))

  pub looks_leave : LeavesBut terms (λ e. times_listed e now ≡ times_listed e before) ((length (calls asked_now) - length (calls asked_before)) + (length (probes asked_now) - length (probes asked_before))) asked_before asked_now
  looks_leave =
      let calls_long = ap (length {A = BitCall}) so_far.asked ∙ length-append (calls asked_before) (cleared so_far.looks) ∙ ap (λ (n : ℕ). length (calls asked_before) + n) (length-map so_far.looks _) in
      let probes_long = ap (length {A = ProbeCall}) so_far.probed ∙ length-append (probes asked_before) (look_probes before so_far.looks) in
      leaves_as terms (λ e. times e (removed_by_looks so_far.looks) ≡ 0) (λ e. times_listed e now ≡ times_listed e before)
      (length so_far.looks + length (look_probes before so_far.looks)) ((length (calls asked_now) - length (calls asked_before)) + (length (probes asked_now) - length (probes asked_before))) asked_before asked_now
      (λ e same. let sum = so_far.rows e in omega arith) (omega arith) so_far.leaves

  module _ (scans : ℕ) where
    ends : List Look → Bool
    ends walked = eqb (length walked) scans || (eqb (count_by look_removed walked) target || eqb (length walked) (length before.inactive))

    done : (freed ≡ target) ⊎ ((i ≡ scans) ⊎ (at ≡ None)) → ends so_far.looks ≡ true
    unfolding ends
    done (inl all) = or_other (eqb (length so_far.looks) scans) (eqb (count_by look_removed so_far.looks) target || eqb (length so_far.looks) (length before.inactive)) (or_true (eqb (count_by look_removed so_far.looks) target) (eqb (length so_far.looks) (length before.inactive)) (eq-eqb (count_by look_removed so_far.looks) target (sym so_far.count ∙ all)))
    done (inr (inl scanned)) = or_true (eqb (length so_far.looks) scans) (eqb (count_by look_removed so_far.looks) target || eqb (length so_far.looks) (length before.inactive)) (eq-eqb (length so_far.looks) scans (so_far.many ∙ scanned))
    done (inr (inr none)) =
        let rest : so_far.left ≡ [] = none_first so_far.left (sym so_far.next ∙ none) in
        let empty = ap (length {A = Row}) rest in
        let all = counted in
        or_other (eqb (length so_far.looks) scans) (eqb (count_by look_removed so_far.looks) target || eqb (length so_far.looks) (length before.inactive)) (or_other (eqb (count_by look_removed so_far.looks) target) (eqb (length so_far.looks) (length before.inactive)) (eq-eqb (length so_far.looks) (length before.inactive) (omega arith)))

    goes_on : i ≤ scans → (k : ℕ) → k < length so_far.looks → ends (take k so_far.looks) ≡ false
    unfolding ends
    goes_on within k below =
        let long = length-take-le k so_far.looks (omega arith) in
        let few = so_far.early k below in
        let all = counted in
        let many = so_far.many in
        or_none (eqb (length (take k so_far.looks)) scans) (eqb (count_by look_removed (take k so_far.looks)) target || eqb (length (take k so_far.looks)) (length before.inactive))
        (ne_eqb (length (take k so_far.looks)) scans (λ is. absurd (omega arith)))
        (or_none (eqb (count_by look_removed (take k so_far.looks)) target) (eqb (length (take k so_far.looks)) (length before.inactive))
        (ne_eqb (count_by look_removed (take k so_far.looks)) target (λ is. absurd (omega arith)))
        (ne_eqb (length (take k so_far.looks)) (length before.inactive) (λ is. absurd (omega arith))))

    are_looks : (freed ≡ target) ⊎ ((i ≡ scans) ⊎ (at ≡ None)) → i ≤ scans → AreLooks scans target (listed before) so_far.looks
    unfolding ends
    are_looks end within = record {
      from_tail = from_the_tail;
      probed = so_far.bits;
      until = record { here = done end; not_before = goes_on within };
    }

    pub looks_done : (freed ≡ target) ⊎ ((i ≡ scans) ⊎ (at ≡ None)) → i ≤ scans → freed ≤ target →
        LooksPart scans target (terms.gives asked_now)
        (record { set = before; asked = record { calls = calls asked_before; probes = probes asked_before }; out = out; notes = notes })
        (record { set = now; asked = record { calls = calls asked_now; probes = probes asked_now }; out = out_now; notes = notes_now }) freed
    looks_done end within enough = record {
      looks = so_far.looks;
      looked = are_looks end within;
      set = so_far.set;
      left = so_far.stacked;
      count = so_far.count;
      enough = enough;
      asked = so_far.asked;
      probed = so_far.probed;
      noted = so_far.noted;
      rows = so_far.rows;
      same_rows = so_far.same_rows;
      number = so_far.number;
    }
