-- A call is right exactly where the row of its steps is.
use Rattle.std.proofs.Common.{◌≡◌, ℕ, suc, ◌-◌, Bool, true, false, List, length, get_or, set, take, drop, Some, refl, ap, sym, ◌∙◌, subst, inl, inr, arith}
use Rattle.std.specs.Prelude.{slice_get}
use Rattle.std.specs.List.{list_all, list_any}
use Rattle.std.proofs.lemmas.Bool.{both_ways, cases_eq}
use Rattle.std.proofs.lemmas.List.{get_or-set_other, get_or-set_same, length-set}
use Rattle.std.proofs.lemmas.Option.{same_Some, slice_get_within}
use Rattle.map_types.specs.declared.call.Call.{Call}
use Rattle.map_types.specs.declared.kind.DomainId.TheVariants.{Local}
use Rattle.map_types.specs.declared.reply.Reply.{Reply}
use Rattle.map_script.specs.declared.script.Script.{Script}
use Rattle.map_script.specs.WellFormed.{IsWellFormed}
use Rattle.place_words.specs.declared.history.Strand.{Strand}
use Rattle.place_words.specs.declared.history.StrandStep.{StrandStep}
use Rattle.place_words.specs.Phases.{phase_of}
use Rattle.map_report.specs.declared.record.RunRecord.{RunRecord}
use Rattle.record_shape.specs.WellShaped.{WellShaped}
use Rattle.record_flaws.specs.StrandFlaws.{AreStrandsRight}
use Rattle.call_check.specs.StrandPlaces.{cell}
use Rattle.call_check.proofs.CpuLists.{any_at, first_at, first_there}
use Rattle.call_check.specs.Judged.{IsRightRow, IsTraceOf}
use Rattle.call_check.specs.RightCalls.{IsRightAt, IsRightCall, is_of_cpu, steps_of_call}
use Rattle.call_check.specs.Steps.{AreBehind, IsBehind, LeadToStrands, is_late, is_late_from}
use Rattle.call_check.proofs.Late.{in_order, late_has, late_overtaken}
use Rattle.call_check.proofs.OwnStrand.{HomeOf, own_strand, some_named}
use Rattle.call_check.proofs.Rows.{IsRow, behind_row, row_is, still_behind}

none_at : {A : Type 0} (test : A → Bool) (xs : List A) → list_any test xs ≡ false → (k : ℕ) (x : A) → slice_get xs k ≡ Some x → test x ≡ false
none_at test xs none k x at = by (test x) refl
  where
    by : (b : Bool) → test x ≡ b → b ≡ false
    by false is = refl
    by true is = absurd (both_ways (list_any test xs) none (any_at test xs k x at is))

bool_cases : {P : Type 0} (b : Bool) → (b ≡ true → P) → (b ≡ false → P) → P
bool_cases true one other = one refl
bool_cases false one other = other refl

dummy : StrandStep
dummy = record { lock = Local 0; index = 0 }

module _ (script : Script) (kept : RunRecord) (formed : IsWellFormed script) (well : WellShaped script kept) (right : AreStrandsRight script kept)
    (table : List ℕ) (lead : LeadToStrands kept.strands table) (place : ℕ) (call : Call) (reply : Reply)
    (at_call : slice_get script.calls place ≡ Some call) (at_reply : slice_get kept.replies place ≡ Some reply) where
  abbrev number : ℕ
  number = suc place

  abbrev phase : ℕ
  phase = phase_of script.cuts (suc place)

  abbrev home : ℕ
  home = get_or table (cell phase call.cpu) 0

  module _ (h : HomeOf kept table phase call.cpu) where
    -- it is the one strand of the call
    at_here : IsRightCall script kept number call reply h.strand → IsRightAt script kept place
    at_here is other_call other_reply other n at_c at_r at_n of_phase has_other =
        let one_call : call ≡ other_call = same_Some call other_call (sym at_call ∙ at_c) in
        let one_reply : reply ≡ other_reply = same_Some reply other_reply (sym at_reply ∙ at_r) in
        let leads : get_or table (cell phase other_call.cpu) 0 ≡ n = subst (λ (p : ℕ). get_or table (cell p other_call.cpu) 0 ≡ n) of_phase (lead n other at_n other_call.cpu has_other) in
        let here : home ≡ n = ap (λ (c : Call). get_or table (cell phase c.cpu) 0) one_call ∙ leads in
        let one : h.strand ≡ other = same_Some h.strand other (sym h.at ∙ (ap (slice_get kept.strands) here ∙ at_n)) in
        subst (λ (s : Strand). IsRightCall script kept number other_call other_reply s) one
        (subst (λ (r : Reply). IsRightCall script kept number other_call r h.strand) one_reply
        (subst (λ (c : Call). IsRightCall script kept number c reply h.strand) one_call is))

    of_here : IsRightAt script kept place → IsRightCall script kept number call reply h.strand
    of_here is = is call reply h.strand home at_call at_reply h.at h.phase_is h.has

    -- where no step of the call is late in its strand, none is anywhere
    in_time : is_late kept.histories number h.strand ≡ false → list_any (is_late kept.histories number) kept.strands ≡ false
    in_time none = bool_cases (list_any (is_late kept.histories number) kept.strands)
        (λ some.
        let found = first_there (is_late kept.histories number) kept.strands some in
        let one = late_has kept.histories number 0 found.item.steps found.passes in
        let here = own_strand script kept formed well right table lead (first_at (is_late kept.histories number) kept.strands) found.item found.there one.place dummy one.within place call at_call (one.its dummy) in
        let same : h.strand ≡ found.item = same_Some h.strand found.item (sym h.at ∙ (ap (slice_get kept.strands) here ∙ found.there)) in
        absurd (both_ways (is_late kept.histories number h.strand) none (ap (is_late kept.histories number) same ∙ found.passes)))
        (λ none. none)

    not_late : IsRightCall script kept number call reply h.strand → is_late kept.histories number h.strand ≡ false
    not_late is = bool_cases (is_late kept.histories number h.strand)
        (λ late.
        let found = late_overtaken kept.histories number h.strand.steps late in
        absurd (is.in_order found.before found.later found.step found.is found.less found.place found.step found.within found.its))
        (λ none. none)

    module _ (from to : ℕ) (behind : IsBehind kept.histories number h.strand.steps from) (row : IsRow kept.histories number h.strand.steps from to) where
      abbrev steps : List StrandStep
      steps = take (to - from) (drop from h.strand.steps)

      pub row_right : IsRightRow script kept number call reply steps → IsRightAt script kept place
      row_right is =
          let none = none_at (is_late kept.histories number) kept.strands is.in_time home h.strand h.at in
          let same : steps ≡ steps_of_call kept.histories number h.strand.steps = sym (row_is kept.histories number h.strand.steps from to behind row none) in
          at_here (record {
            its_cpu = ap (list_all (is_of_cpu kept.histories call.cpu)) (sym same) ∙ is.its_cpu;
            trace = subst (IsTraceOf script kept call reply) same is.trace;
            in_order = λ before later step split less. in_order kept.histories number 0 before later step (ap (is_late_from kept.histories number 0) (sym split) ∙ none) less;
          })

      pub right_row : IsRightAt script kept place → IsRightRow script kept number call reply steps
      right_row is_right =
          let is = of_here is_right in
          let none = not_late is in
          let same : steps_of_call kept.histories number h.strand.steps ≡ steps = row_is kept.histories number h.strand.steps from to behind row none in
          record {
            in_time = in_time none;
            its_cpu = ap (list_all (is_of_cpu kept.histories call.cpu)) (sym same) ∙ is.its_cpu;
            trace = subst (IsTraceOf script kept call reply) same is.trace;
          }

    -- the cursors behind the call's steps
    pub behind_more : (cursors now : List ℕ) (to : ℕ) → AreBehind kept.histories number kept.strands cursors → IsRow kept.histories number h.strand.steps (get_or cursors home 0) to
        → list_any (is_late kept.histories number) kept.strands ≡ false → now ≡ set cursors home to → AreBehind kept.histories (suc number) kept.strands now
    behind_more cursors now to are row in_time now_is = record {
      each = ap length now_is ∙ (length-set cursors home to ∙ are.each);
      are = λ n strand at. elim (cases_eq n home) [
        | inl same ↦
            let one : h.strand ≡ strand = same_Some h.strand strand (sym h.at ∙ (ap (slice_get kept.strands) (sym same) ∙ at)) in
            let here : to ≡ get_or now n 0 =
            sym (ap (λ (l : List ℕ). get_or l n 0) now_is ∙ (ap (λ (k : ℕ). get_or (set cursors home to) k 0) same
            ∙ get_or-set_same cursors home to 0 (let within = slice_get_within kept.strands home h.strand h.at in omega (arith, within, are.each)))) in
            subst (λ (s : Strand). IsBehind kept.histories (suc number) s.steps (get_or now n 0)) one
            (subst (IsBehind kept.histories (suc number) h.strand.steps) here
            (behind_row kept.histories number h.strand.steps (get_or cursors home 0) to (are.are home h.strand h.at) row
            (none_at (is_late kept.histories number) kept.strands in_time home h.strand h.at)))
        | inr other ↦
            let here : get_or cursors n 0 ≡ get_or now n 0 = sym (ap (λ (l : List ℕ). get_or l n 0) now_is ∙ get_or-set_other cursors home n to 0 other) in
            subst (IsBehind kept.histories (suc number) strand.steps) here
            (still_behind kept.histories number strand.steps (get_or cursors n 0) (are.are n strand at)
            (λ k d within named. other (sym (own_strand script kept formed well right table lead n strand at k d within place call at_call named))))
      ];
    }

-- at first
pub first_behind : (script : Script) (kept : RunRecord) → IsWellFormed script → WellShaped script kept → AreStrandsRight script kept
    → (cursors : List ℕ) → length cursors ≡ length kept.strands → ((n : ℕ) → get_or cursors n 0 ≡ 0) → AreBehind kept.histories 1 kept.strands cursors
first_behind script kept formed well right cursors each zeros = record {
  each = each;
  are = λ n strand at. subst (IsBehind kept.histories 1 strand.steps) (sym (zeros n)) (record {
    within = omega arith;
    before = λ k d less. absurd (omega (arith, less));
    behind = λ k d least less. some_named script kept formed well right n strand at k d less;
  });
}
