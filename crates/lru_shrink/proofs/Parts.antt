-- A shrink from its parts.
use Rattle.std.proofs.Common.{◌≡◌, ◌≢◌, ℕ, ◌+◌, ◌-◌, ◌*◌, ◌≤◌, min, Bool, true, false, eqb, List, [], ◌∷◌, ◌++◌, map, length, refl, ap, ◌∙◌, sym, subst, arith, inl, inr}
use Rattle.std.specs.Prelude.{Option, Some, count_by, option_map, unwrap_or, MatchBool}
use Rattle.std.proofs.Math.Path.{fun_ext}
use Rattle.std.proofs.lemmas.Bool.{ne_eqb, eq-eqb, cases_Bool}
use Rattle.std.proofs.lemmas.List.{append-nil, length-append, length-map}
use Rattle.map_types.specs.Stored.{Stored}
use Rattle.percpu_values.specs.BodyList.{BodyList}
use Rattle.map_types.specs.ElementLists.{times}
use Rattle.map_types.specs.declared.row.Row.{Row}
use Rattle.place_words.specs.declared.visits.Look.{Look}
use Rattle.place_words.specs.declared.visits.Try.{Try}
use Rattle.place_words.specs.Shrinking.{AreTries, IsShrink, look_removed, try_removed, after_looks, after_tries, shrunk, forced_rows, freed}
use Rattle.map_types.proofs.RowLemmas.{times_append}
use Rattle.lru_lists.specs.Sets.{SetView, listed, row_on, times_listed, with_listed}
use Rattle.lru_lists.specs.declared.bits.BitCall.{BitCall}
use Rattle.lru_lists.specs.declared.bits.ProbeCall.{ProbeCall}
use Rattle.lru_lists.specs.declared.notes.Noted.{Noted}
use Rattle.lru_lists.specs.declared.notes.ShrinkNotes.{ShrinkNotes}
use Rattle.lru_shrink.specs.Asking.{LeavesBut, Terms}
use Rattle.lru_shrink.specs.Shrunk.{AreStacked, ShrinkMoment, LooksPart, TriesPart, Shrink, cleared, look_probes, try_probes, removed_by_looks, removed_by_tries}
use Rattle.lru_shrink.proofs.AskingLemmas.{leaves_more}
use Rattle.lru_shrink.proofs.LookLoop.{few_probes}
use Rattle.lru_shrink.proofs.LookWalk.{look_element}
use Rattle.lru_shrink.proofs.SearchLoop.{try_element}
use Rattle.lru_shrink.proofs.SearchWalk.{length_removed}
use Rattle.lru_shrink.proofs.ShrinkLaws.{few_looks, few_tries, spares_used}
use Rattle.lru_lists.proofs.NoteLemmas.{noted_none}
use Rattle.lru_shrink.proofs.StackLemmas.{stacked_more, stacked_nothing}
use Rattle.lru_shrink.proofs.ForcedSearch.{set_stays}

abbrev moment : {Notes : Type 0} → SetView → List BitCall → List ProbeCall → BodyList → Notes → ShrinkMoment Notes
moment set calls probes out notes = record { set = set; asked = record { calls = calls; probes = probes }; out = out; notes = notes }

match_true : (b : Bool) (P Q : Type 0) → b ≡ true → P → MatchBool b P Q
match_true true P Q is p = p
match_true false P Q is p = absurd cc

match_false : (b : Bool) (P Q : Type 0) → b ≡ false → Q → MatchBool b P Q
match_false true P Q is q = absurd cc
match_false false P Q is q = q

-- Some look removed one, so none is tried by force.
module _ {scans target : ℕ} {before after : SetView} {calls calls_after : List BitCall} {probes probes_after : List ProbeCall} {gives : Stored → Type 0}
    {out out_after : BodyList} {looks_after : Noted Look} {answer : ℕ} (notes : ShrinkNotes)
    (some : 1 ≤ target) (part : LooksPart scans target gives (moment before calls probes out notes.looks) (moment after calls_after probes_after out_after looks_after) answer) where
  all_freed : freed part.looks [] ≡ removed_by_looks part.looks
  all_freed = append-nil (removed_by_looks part.looks)

  by_looks_is : answer ≢ 0 → IsShrink scans target (listed before) part.looks []
  by_looks_is not_zero = record {
    looked = part.looked;
    tried = match_false (eqb (count_by look_removed part.looks) 0) (AreTries (after_looks (listed before) part.looks) []) ([] ≡ []) (ne_eqb (count_by look_removed part.looks) 0 (λ is. not_zero (part.count ∙ is))) refl;
  }

  after_none : with_listed (shrunk (listed before) part.looks []) before ≡ with_listed (after_looks (listed before) part.looks) before
  unfolding shrunk
  after_none = ap (λ (set : SetView). with_listed (listed set) before) (set_stays (with_listed (after_looks (listed before) part.looks) before) [] refl)

  pub shrunk_by_looks : answer ≢ 0 → Shrink scans target gives (moment before calls probes out notes) (moment after calls_after probes_after out_after (record { looks = looks_after; forced = notes.forced })) answer
  shrunk_by_looks not_zero = record {
    looks = part.looks;
    forced = [];
    shrinks = by_looks_is not_zero;
    set = part.set ∙ sym after_none;
    left = subst (λ (elements : List ℕ). AreStacked gives elements out out_after) (sym all_freed) part.left;
    count = part.count ∙ sym (length_removed look_element look_removed part.looks) ∙ ap (length {A = ℕ}) (sym all_freed);
    asked = part.asked;
    probed = part.probed ∙ sym (append-nil (probes ++ look_probes before part.looks));
    noted_looks = part.noted;
    noted_forced = noted_none notes.forced;
    few_looks = few_looks scans target (listed before) part.looks part.looked;
    few_tries = omega arith;
    enough = part.enough;
    rows = λ e. ap (λ (elements : List ℕ). times_listed e after + times e elements) all_freed ∙ part.rows e;
    same_rows = λ e none. part.same_rows e (sym (ap (times e) all_freed) ∙ none);
    number = part.number;
    spared = spares_used scans target (listed before) part.looks [] some (by_looks_is not_zero);
  }

-- No look removed one.
module _ {scans target : ℕ} {before middle : SetView} {calls calls_middle : List BitCall} {probes probes_middle : List ProbeCall} {gives : Stored → Type 0}
    {out out_middle : BodyList} {looks_after : Noted Look} {first : ℕ} (notes : ShrinkNotes) (none : first ≡ 0)
    (part : LooksPart scans target gives (moment before calls probes out notes.looks) (moment middle calls_middle probes_middle out_middle looks_after) first) where
  none_left : removed_by_looks part.looks ≡ []
  none_left = empty (removed_by_looks part.looks) (length_removed look_element look_removed part.looks ∙ sym part.count ∙ none)
    where
      empty : (xs : List ℕ) → length xs ≡ 0 → xs ≡ []
      empty [] long = refl
      empty (x ∷ xs) long = absurd (omega arith)

  same_row : (e : ℕ) → row_on e middle ≡ row_on e before
  same_row e = part.same_rows e (ap (times e) none_left)

  forced_few : length (forced_rows (listed middle)) ≤ length before.active + length before.inactive
  forced_few =
      let number = part.number in
      elim (cases_Bool (eqb (length middle.inactive) 0)) [
        | inl empty ↦ rw empty (omega arith)
        | inr other ↦ rw other (omega arith)
      ]

  pub forced_room : 1 ≤ target → min target (length before.active + length before.inactive) ≤ out.spare → 1 ≤ length (forced_rows (listed middle)) → 1 ≤ out_middle.spare
  forced_room some room rows =
      let few = forced_few in
      let same = ap (λ (stack : BodyList). stack.spare) (stacked_nothing gives (removed_by_looks part.looks) out out_middle none_left part.left) in
      omega arith

  module _ {Asked : Type 0} {terms : Terms Asked} {asked_before asked_now : Asked}
      (only : LeavesBut terms (λ e. times_listed e middle ≡ times_listed e before) ((length calls_middle - length calls) + (length probes_middle - length probes)) asked_before asked_now) where
    pub forced_noted : terms.can_note asked_before (2 * scans + (length before.active + length before.inactive)) → ((m n : ℕ) → m ≤ n → terms.can_note asked_now n → terms.can_note asked_now m) → terms.can_note asked_now (length (forced_rows (listed middle)))
    forced_noted can fewer =
        let few = forced_few in
        let calls_long = ap (length {A = BitCall}) part.asked ∙ length-append calls (cleared part.looks) ∙ ap (λ (n : ℕ). length calls + n) (length-map part.looks _) in
        let probes_long = ap (length {A = ProbeCall}) part.probed ∙ length-append probes (look_probes before part.looks) in
        let less = few_probes (before.active ++ before.inactive) part.looks in
        let most = few_looks scans target (listed before) part.looks part.looked in
        let all : ℕ = 2 * scans + (length before.active + length before.inactive) in
        fewer (length (forced_rows (listed middle))) (all - ((length calls_middle - length calls) + (length probes_middle - length probes))) (omega arith) (only.noted all can)

    pub forced_probed : ((row : Row) → row_on row.element before ≡ Some row → terms.may_probe asked_before row) → (row : Row) → row_on row.element middle ≡ Some row → terms.may_probe asked_now row
    forced_probed may row its =
        only.probing row (let sum = part.rows row.element in let nothing = ap (times row.element) none_left in omega arith) (may row (sym (same_row row.element) ∙ its))

  module _ {after : SetView} {calls_after : List BitCall} {probes_after : List ProbeCall} {gives_after : Stored → Type 0} {out_after : BodyList} {forced_after : Noted Try} {answer : ℕ}
      (some : 1 ≤ target) (more : TriesPart gives_after (moment middle calls_middle probes_middle out_middle notes.forced) (moment after calls_after probes_after out_after forced_after) answer)
      (keeps : (body : Stored) → gives body → gives_after body) where
    all_left : freed part.looks more.tries ≡ removed_by_tries more.tries
    all_left = ap (λ (xs : List ℕ). xs ++ removed_by_tries more.tries) none_left

    tries_there : AreTries (after_looks (listed before) part.looks) more.tries
    tries_there = subst (λ (set : SetView). AreTries (listed set) more.tries) part.set more.tried

    by_force_is : IsShrink scans target (listed before) part.looks more.tries
    by_force_is = record {
      looked = part.looked;
      tried = match_true (eqb (count_by look_removed part.looks) 0) (AreTries (after_looks (listed before) part.looks) more.tries) (more.tries ≡ []) (eq-eqb (count_by look_removed part.looks) 0 (sym part.count ∙ none)) tries_there;
    }

    after_all : after ≡ with_listed (shrunk (listed before) part.looks more.tries) before
    unfolding shrunk
    after_all = more.set ∙ ap (λ (set : SetView). with_listed (after_tries (listed set) more.tries) set) part.set

    same_probes : try_probes middle more.tries ≡ try_probes before more.tries
    same_probes =
        ap (λ (call : Try → ProbeCall). map call more.tries)
        (fun_ext (λ (try : Try). ap (λ (found : Option Row). let call : ProbeCall = record { element = try.element; hash = unwrap_or (option_map (λ (row : Row). row.hash) found) 0; probed = try.probed } in call) (same_row try.element)))

    pub shrunk_by_force : Shrink scans target gives_after (moment before calls probes out notes) (moment after calls_after probes_after out_after (record { looks = looks_after; forced = forced_after })) answer
    shrunk_by_force = record {
      looks = part.looks;
      forced = more.tries;
      shrinks = by_force_is;
      set = after_all;
      left = stacked_more gives gives_after (removed_by_looks part.looks) (removed_by_tries more.tries) out out_middle out_after keeps part.left more.left;
      count = more.count ∙ sym (length_removed try_element try_removed more.tries) ∙ ap (length {A = ℕ}) (sym all_left);
      asked = more.asked ∙ part.asked;
      probed = more.probed ∙ ap (λ (xs : List ProbeCall). xs ++ try_probes middle more.tries) part.probed ∙ ap (λ (xs : List ProbeCall). (probes ++ look_probes before part.looks) ++ xs) same_probes;
      noted_looks = part.noted;
      noted_forced = more.noted;
      few_looks = few_looks scans target (listed before) part.looks part.looked;
      few_tries = few_tries (after_looks (listed before) part.looks) more.tries tries_there;
      enough = let one = more.one in omega arith;
      rows = λ e. let sum = part.rows e in let then = more.rows e in let apart = times_append e (removed_by_looks part.looks) (removed_by_tries more.tries) in omega arith;
      same_rows = λ e gone. more.same_rows e (sym (ap (times e) all_left) ∙ gone) ∙ same_row e;
      number = let looked = part.number in let tried = more.number in omega arith;
      spared = spares_used scans target (listed before) part.looks more.tries some by_force_is;
    }

    module _ {Asked : Type 0} {terms : Terms Asked} {asked_before asked_middle asked_after : Asked} where
      pub shrunk_leaves : LeavesBut terms (λ e. times_listed e middle ≡ times_listed e before) ((length calls_middle - length calls) + (length probes_middle - length probes)) asked_before asked_middle →
          LeavesBut terms (λ e. times_listed e after ≡ times_listed e middle) (length probes_after - length probes_middle) asked_middle asked_after →
          LeavesBut terms (λ e. times_listed e after ≡ times_listed e before) ((length calls_after - length calls) + (length probes_after - length probes)) asked_before asked_after
      shrunk_leaves one two =
          let calls_same = ap (length {A = BitCall}) more.asked in
          let probes_long = ap (length {A = ProbeCall}) part.probed ∙ length-append probes (look_probes before part.looks) in
          let probes_longer = ap (length {A = ProbeCall}) more.probed ∙ length-append probes_middle (try_probes middle more.tries) in
          leaves_more terms (λ e. times_listed e middle ≡ times_listed e before) (λ e. times_listed e after ≡ times_listed e middle) (λ e. times_listed e after ≡ times_listed e before)
          ((length calls_middle - length calls) + (length probes_middle - length probes)) (length probes_after - length probes_middle) ((length calls_after - length calls) + (length probes_after - length probes))
          asked_before asked_middle asked_after
          (λ e same. let sum = part.rows e in let then = more.rows e in omega arith) (λ e same. let sum = part.rows e in let then = more.rows e in omega arith) (omega arith) one two
