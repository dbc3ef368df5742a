-- What is known where one call is judged.
use Rattle.std.proofs.Common.{◌≡◌, ℕ, zero, suc, ◌+◌, ◌-◌, ◌<◌, Bool, true, false, List, [], ◌∷◌, length, get_or, set, take, drop, Some, refl, ap, sym, ◌∙◌, subst, arith}
use Rattle.std.specs.Prelude.{All, MatchBool, nat_lt, slice_get}
use Rattle.std.specs.Bool.{OnTrue}
use Rattle.std.proofs.lemmas.List.Sums.{count_by-le-length, length-filter}
use Rattle.std.proofs.lemmas.Option.{same_Some, slice_get_read, slice_get_within}
use Rattle.map_types.specs.declared.attr.Shape.{Shape}
use Rattle.map_types.specs.declared.call.Call.{Call}
use Rattle.map_types.specs.declared.reply.Reply.{Reply}
use Rattle.map_types.proofs.CreationLemmas.{bounds_of_shape}
use Rattle.map_script.specs.declared.script.Script.{Script}
use Rattle.map_script.specs.WellFormed.{IsCallOn, IsWellFormed}
use Rattle.place_words.specs.declared.history.Strand.{Strand}
use Rattle.place_words.specs.Phases.{phase_of}
use Rattle.map_report.specs.declared.record.RunRecord.{RunRecord}
use Rattle.record_shape.specs.Fits.{AllFit}
use Rattle.record_shape.specs.ShapedParts.{RepliesFit}
use Rattle.record_shape.specs.WellShaped.{WellShaped}
use Rattle.record_flaws.specs.StrandFlaws.{AreStrandsRight}
use Rattle.call_check.specs.StrandPlaces.{cell}
use Rattle.call_check.proofs.KnownStrands.{fits}
use Rattle.call_check.specs.Judged.{IsRightRow}
use Rattle.call_check.specs.RightCalls.{IsRightAt}
use Rattle.call_check.specs.Steps.{AreBehind, LeadToStrands, StepsFit}
use Rattle.call_check.specs.PlainRows.{AreNamed}
use Rattle.call_check.proofs.OwnStrand.{HomeOf, home_of, named_from, own_entry}
use Rattle.call_check.proofs.RightRows.{behind_more, right_row, row_right}
use Rattle.call_check.proofs.Rows.{IsRow}

pub no_strand : Strand
no_strand = record { phase = 0; cpus = []; steps = [] }

-- the one at a place
pub item_at : {A : Type 0} (xs ys : List A) (place : ℕ) (x : A) → xs ≡ ys → place < length ys → x ≡ get_or xs place x → slice_get ys place ≡ Some x
item_at xs ys place x same less is =
    subst (λ (l : List _). slice_get l place ≡ Some x) same (slice_get_read xs (length xs) place x refl (omega (arith, less, ap length same)) is)

pub replies_counted : (shape : Shape) (calls : List Call) (replies : List Reply) → RepliesFit shape calls replies → length replies ≡ length calls
replies_counted shape [] [] fit = refl
replies_counted shape [] (reply ∷ replies) fit = absurd fit
replies_counted shape (call ∷ calls) [] fit = absurd fit
replies_counted shape (call ∷ calls) (reply ∷ replies) fit = ap suc (replies_counted shape calls replies fit.1)

phase_in : (cuts : List ℕ) (number : ℕ) → phase_of cuts number < suc (length cuts)
phase_in cuts number = omega (arith, length-filter (λ (cut : ℕ). nat_lt cut number) cuts, count_by-le-length (λ (cut : ℕ). nat_lt cut number) cuts)

taken_fit : {A : Type 0} (P : A → Type 0) (n : ℕ) (xs : List A) → AllFit P xs → AllFit P (take n xs)
taken_fit P zero [] fit = tt
taken_fit P zero (x ∷ xs) fit = tt
taken_fit P (suc n) [] fit = tt
taken_fit P (suc n) (x ∷ xs) fit = (fit.0, taken_fit P n xs fit.1)

dropped_fit : {A : Type 0} (P : A → Type 0) (n : ℕ) (xs : List A) → AllFit P xs → AllFit P (drop n xs)
dropped_fit P zero [] fit = tt
dropped_fit P zero (x ∷ xs) fit = fit
dropped_fit P (suc n) [] fit = tt
dropped_fit P (suc n) (x ∷ xs) fit = dropped_fit P n xs fit.1

pub part_fits : {A : Type 0} (P : A → Type 0) (n m : ℕ) (xs : List A) → AllFit P xs → AllFit P (take n (drop m xs))
part_fits P n m xs fit = taken_fit P n (drop m xs) (dropped_fit P m xs fit)

module _ (script : Script) (kept : RunRecord) (formed : IsWellFormed script) (well : WellShaped script kept) where
  pub steps_fit : (n : ℕ) (strand : Strand) → slice_get kept.strands n ≡ Some strand → StepsFit script.shape strand.steps
  steps_fit n strand at = (fits script kept formed well n strand at).steps

  pub call_fits : (place : ℕ) (call : Call) → slice_get script.calls place ≡ Some call → IsCallOn script.shape call
  call_fits place call at =
      let within = slice_get_within script.calls place call at in
      let one : get_or script.calls place call ≡ call = Rattle.std.proofs.lemmas.Option.get_or_from_slice_get script.calls place call call at in
      subst (IsCallOn script.shape) one (formed.calls place call within)

  pub steps_named : AreStrandsRight script kept → (n : ℕ) (strand : Strand) → slice_get kept.strands n ≡ Some strand → AreNamed script.shape kept.histories strand.steps
  steps_named right n strand at = named_from script kept strand strand.steps (steps_fit n strand at) (own_entry script kept formed well right n strand at)

  pub all_fit : (strands : List Strand) → strands ≡ kept.strands → All (λ (strand : Strand). StepsFit script.shape strand.steps) strands
  all_fit strands same = λ k d less. steps_fit k (get_or strands k d) (item_at strands kept.strands k (get_or strands k d) same (omega (arith, less, ap length same)) (sym (twice strands k d less)))
    where
      twice : {A : Type 0} (xs : List A) (k : ℕ) (d : A) → k < length xs → get_or xs k (get_or xs k d) ≡ get_or xs k d
      twice [] k d less = absurd (omega (arith, less))
      twice (x ∷ xs) zero d less = refl
      twice (x ∷ xs) (suc k) d less = twice xs k d (omega (arith, less))

  pub cpu_in : (place : ℕ) (call : Call) → slice_get script.calls place ≡ Some call → call.cpu < script.shape.cpus
  cpu_in place call at =
      let within = slice_get_within script.calls place call at in
      let one : get_or script.calls place call ≡ call = Rattle.std.proofs.lemmas.Option.get_or_from_slice_get script.calls place call call at in
      subst (λ (c : Call). c.cpu < script.shape.cpus) one (formed.calls place call within).cpu

  pub cpu_low : (place : ℕ) (call : Call) → slice_get script.calls place ≡ Some call → call.cpu < 16
  cpu_low place call at = let few = (bounds_of_shape script.shape formed.shape).cpus_bounded in omega (arith, few, cpu_in place call at)

  module _ (right : AreStrandsRight script kept) (table : List ℕ) (lead : LeadToStrands kept.strands table) (place : ℕ) (call : Call) (at_call : slice_get script.calls place ≡ Some call)
      (home : ℕ) (home_is : home ≡ get_or table (cell (phase_of script.cuts (place + 1)) call.cpu) 0) where
    next : place + 1 ≡ suc place
    next = omega arith

    h : HomeOf kept table (phase_of script.cuts (suc place)) call.cpu
    h = home_of script kept right table lead (phase_of script.cuts (suc place)) call.cpu (phase_in script.cuts (suc place)) (cpu_in place call at_call)

    same_home : home ≡ get_or table (cell (phase_of script.cuts (suc place)) call.cpu) 0
    same_home = home_is ∙ ap (λ (n : ℕ). get_or table (cell (phase_of script.cuts n) call.cpu) 0) next

    pub home_there : home < length kept.strands
    home_there = let within = slice_get_within kept.strands (get_or table (cell (phase_of script.cuts (suc place)) call.cpu) 0) h.strand h.at in omega (arith, within, same_home)

    module _ (reply : Reply) (at_reply : slice_get kept.replies place ≡ Some reply) (strand : Strand) (at : slice_get kept.strands home ≡ Some strand)
        (cursors : List ℕ) (behind : AreBehind kept.histories (suc place) kept.strands cursors) (from to : ℕ) (from_is : from ≡ get_or cursors home 0)
        (row : IsRow kept.histories (place + 1) strand.steps from to) where
      one : strand ≡ h.strand
      one = same_Some strand h.strand (sym at ∙ (ap (slice_get kept.strands) same_home ∙ h.at))

      abbrev there : ℕ
      there = get_or table (cell (phase_of script.cuts (suc place)) call.cpu) 0

      start : from ≡ get_or cursors there 0
      start = from_is ∙ ap (λ (n : ℕ). get_or cursors n 0) same_home

      row_there : IsRow kept.histories (suc place) h.strand.steps (get_or cursors there 0) to
      row_there = subst (λ (n : ℕ). IsRow kept.histories (suc place) h.strand.steps n to) start
          (subst (λ (s : Strand). IsRow kept.histories (suc place) s.steps from to) one
          (subst (λ (n : ℕ). IsRow kept.histories n strand.steps from to) next row))

      abbrev Right : Type 0
      Right = IsRightRow script kept (place + 1) call reply (take (to - from) (drop from strand.steps))

      abbrev RightThere : Type 0
      RightThere = IsRightRow script kept (suc place) call reply (take (to - get_or cursors there 0) (drop (get_or cursors there 0) h.strand.steps))

      moved : Right → RightThere
      moved is =
          subst (λ (n : ℕ). IsRightRow script kept (suc place) call reply (take (to - n) (drop n h.strand.steps))) start
          (subst (λ (s : Strand). IsRightRow script kept (suc place) call reply (take (to - from) (drop from s.steps))) one
          (subst (λ (n : ℕ). IsRightRow script kept n call reply (take (to - from) (drop from strand.steps))) next is))

      back : RightThere → Right
      back is =
          subst (λ (n : ℕ). IsRightRow script kept n call reply (take (to - from) (drop from strand.steps))) (sym next)
          (subst (λ (s : Strand). IsRightRow script kept (suc place) call reply (take (to - from) (drop from s.steps))) (sym one)
          (subst (λ (n : ℕ). IsRightRow script kept (suc place) call reply (take (to - n) (drop n h.strand.steps))) (sym start) is))

      pub judged_right : (is : Bool) → MatchBool is Right (Right → ⊥) → MatchBool is (IsRightAt script kept place) (IsRightAt script kept place → ⊥)
      judged_right true is =
          row_right script kept formed well right table lead place call reply at_call at_reply h (get_or cursors there 0) to (behind.are there h.strand h.at) row_there (moved is)
      judged_right false is_not = λ is.
          is_not (back (right_row script kept formed well right table lead place call reply at_call at_reply h (get_or cursors there 0) to (behind.are there h.strand h.at) row_there is))

      pub judged_behind : (is : Bool) → MatchBool is Right (Right → ⊥) → (now : List ℕ) → now ≡ set cursors home to → OnTrue is (AreBehind kept.histories (suc (suc place)) kept.strands now)
      judged_behind true is now now_is =
          behind_more script kept formed well right table lead place call reply at_call at_reply h cursors now to behind row_there (moved is).in_time (now_is ∙ ap (λ (n : ℕ). set cursors n to) same_home)
      judged_behind false is_not now now_is = tt
