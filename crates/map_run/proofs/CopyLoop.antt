-- A copy, page after page: what each read asks for, and how the copy goes on and ends.
use Rattle.std.proofs.Common.{◌≡◌, ℕ, ◌+◌, ◌<◌, ◌≤◌, true, false, List, [], ◌∷◌, ◌++◌, length, refl, ap, sym, ◌∙◌, subst, arith, inl, inr}
use Rattle.std.specs.Prelude.{◌^◌, ◌⊎◌, Bool, MatchBool, Some}
use Rattle.std.specs.List.{flat_map}
use Rattle.std.proofs.lemmas.List.{length-append}
use Rattle.map_types.specs.Creation.{IsShape}
use Rattle.map_types.specs.declared.attr.Shape.{Shape}
use Rattle.map_types.specs.declared.reply.Reply.{Reply}
use Rattle.map_types.proofs.CreationLemmas.{bounds_of_shape}
use Rattle.map_copy.specs.Bounds.{MayAsk}
use Rattle.map_copy.specs.Copied.{Step, Copies, first_read, pairs_in}
use Rattle.map_copy.specs.CopyScripts.{put_calls, puts_of_pairs}
use Rattle.map_copy.specs.Plans.{PlanView, IsCopied, IsCopying, step_of}
use Rattle.map_copy.proofs.BoundLemmas.{asks_within, goes_on_below}
use Rattle.place_table.specs.Passes.{PassView, TableView}
use Rattle.map_run.specs.Copying.{CanCopy, HasCopiedAll, HasCopiedPage, HaveCopied}
use Rattle.map_run.proofs.CopiedPages.{can_still, copied_more, none_copied}

one_put : (pairs : List (List ℕ × List ℕ)) → length (puts_of_pairs pairs) ≤ 1
one_put [] = omega arith
one_put (pair ∷ pairs) = omega arith

-- there are at most as many puts as reads
few_puts : (steps : List Step) → length (flat_map put_calls steps) ≤ length steps
few_puts [] = omega arith
few_puts (step ∷ steps) =
    let one = one_put (pairs_in step.page) in
    let rest = few_puts steps in
    let both = length-append (put_calls step) (flat_map put_calls steps) in
    omega (arith, one, rest, both)

when_false : (b : Bool) (A B : Type 0) → b ≡ false → MatchBool b A B → B
when_false true A B is both = cc
when_false false A B is both = both

when_true : (b : Bool) (A B : Type 0) → b ≡ true → MatchBool b A B → A
when_true true A B is both = both
when_true false A B is both = cc

pub some_element : (shape : Shape) → IsShape shape → 1 ≤ shape.elements
some_element shape is =
    let bounds = bounds_of_shape shape is in
    let some = bounds.some_capacity in
    let within = bounds.capacity_in_elements in
    omega (arith, some, within)

-- These pages were copied, and another one is next.
abbrev pub CopiesOn : TableView → TableView → ℕ → ℕ → ℕ → PassView → PassView → PassView → PassView → PlanView → List Reply → List Reply → Type 0
CopiesOn source target before count done start p put_start q plan reads puts =
    (steps : List Step) × (length steps ≡ done) × (plan.elements ≡ source.shape.elements) × IsCopying count steps plan × HaveCopied source target before steps start p put_start q reads puts

module _ {source target : TableView} {before count : ℕ} {start put_start : PassView} (can : CanCopy source target start put_start) (some : 1 ≤ count) (fits : count < 2 ^ 32) where
  module _ {done : ℕ} {p q : PassView} {plan : PlanView} {reads puts : List Reply} (so_far : CopiesOn source target before count done start p put_start q plan reads puts) where
    abbrev steps : List Step
    steps = so_far.0

    copying : Copies source.shape.elements (Some (first_read count)) steps (Some plan.next)
    copying = subst (λ (n : ℕ). Copies n (Some (first_read count)) steps (Some plan.next)) so_far.2 so_far.3

    asks : MayAsk source.shape count plan.next
    asks = asks_within source.shape count steps plan.next can.source_shape some copying so_far.4.answered

    pub next_start : plan.next.start < source.shape.buckets
    next_start = asks.start

    next_fits : plan.next.count < 2 ^ 32
    next_fits = by asks.within
      where
        by : (plan.next.count ≡ count) ⊎ (plan.next.count ≤ source.shape.elements) → plan.next.count < 2 ^ 32
        by (inl is) = omega (arith, is, fits)
        by (inr within) = let few = (bounds_of_shape source.shape can.source_shape).elements_bounded in omega (arith, within, few)

    -- so few pages were copied
    pub few_done : done < source.shape.buckets + 17
    few_done =
        let few = goes_on_below source.shape count steps plan.next can.source_shape some copying so_far.4.answered in
        let long = so_far.1 in
        omega (arith, few, long)

    pub few_put : length puts + 1 < 2 ^ 32
    few_put =
        let few = few_done in
        let long = so_far.1 in
        let counted = so_far.4.put.counted in
        let most = few_puts steps in
        let buckets = (bounds_of_shape source.shape can.source_shape).buckets_bounded in
        omega (arith, few, long, counted, most, buckets)

    pub can_next : CanCopy source target p q
    can_next = can_still source target before steps start p put_start q reads puts can so_far.4

    module _ {r s : PassView} {plan_then : PlanView} {reads_then puts_then : List Reply} {number : ℕ} {goes_on : Bool} (number_is : number ≡ before + done + 1) (page : HasCopiedPage source target number plan plan_then p r q s reads reads_then puts puts_then goes_on) where
      abbrev step : Step
      step = step_of plan page.page page.put

      made : HaveCopied source target before (steps ++ step ∷ []) start r put_start s reads_then puts_then
      made =
          let long = so_far.1 in
          copied_more can.source_shape can.target_shape can.fits next_fits so_far.4 (omega (arith, number_is, long)) page

      -- where another page is next
      pub page_more : goes_on ≡ true → CopiesOn source target before count (done + 1) start r put_start s plan_then reads_then puts_then
      page_more goes = (
        steps ++ step ∷ [],
        length-append steps (step ∷ []) ∙ ap (λ (k : ℕ). k + 1) so_far.1,
        ap (λ (z : PlanView). z.elements) page.plan_is ∙ so_far.2,
        when_true goes_on (IsCopying count (steps ++ step ∷ []) plan_then) (IsCopied count plan.elements (steps ++ step ∷ [])) goes (page.so_far count steps so_far.3),
        made,
      )

      -- and where none is
      pub page_last : goes_on ≡ false → HasCopiedAll source target before count start r put_start s reads_then puts_then
      page_last ends = record {
        steps = steps ++ step ∷ [];
        copied = subst (λ (n : ℕ). IsCopied count n (steps ++ step ∷ [])) so_far.2
            (when_false goes_on (IsCopying count (steps ++ step ∷ []) plan_then) (IsCopied count plan.elements (steps ++ step ∷ [])) ends (page.so_far count steps so_far.3));
        made = made;
      }

pub copy_begins : (source target : TableView) (before count : ℕ) (p q : PassView) (plan : PlanView) (reads puts : List Reply) → CanCopy source target p q → plan.elements ≡ source.shape.elements → IsCopying count [] plan → reads ≡ [] → puts ≡ []
    → CopiesOn source target before count 0 p p q q plan reads puts
copy_begins source target before count p q plan reads puts can elements copying no_reads no_puts = (
  [],
  refl,
  elements,
  copying,
  subst (λ (z : List Reply × List Reply). HaveCopied source target before [] p p q q z.0 z.1) (λ i. (sym no_reads i, sym no_puts i)) (none_copied source target before p q can.of_table can.in_no_call can.whole),
)
