use Rattle.std.proofs.Common.{rules, ◌≡◌, ℕ, List, subst, sym, ◌∙◌}
use Rattle.std.specs.List.Sorted.{IsPermutation, IsSorted}
use Rattle.std.specs.Ordering.{nat_cmp}
use Rattle.place_core.proofs.ListCode.{sorted_same, same_sorted, pointwise_same, pointwise_refl}
use Rattle.place_core.proofs.lists.have_same.Goals as goal

pub returns : goal.returns
returns c =
    let one_is : c.in_ok-one.one.items ≡ c.args.some.now = search rules in
    let other_is : c.in_ok-other.other.items ≡ c.args.others.now = search rules in
    let one_moved : IsPermutation c.args.some.now c.sort.new.self.items = subst (λ (xs : List ℕ). IsPermutation xs c.sort.new.self.items) one_is c.sort.ensures.permutation in
    let other_moved : IsPermutation c.args.others.now c.sort-2.new.self.items = subst (λ (xs : List ℕ). IsPermutation xs c.sort-2.new.self.items) other_is c.sort-2.ensures.permutation in
    let one_sorted : IsSorted nat_cmp c.sort.new.self.items = c.in_ok-sort.ensures.sorted in
    let other_sorted : IsSorted nat_cmp c.sort-2.new.self.items = c.in_ok-sort-2.ensures.sorted in (
      (λ same. same_sorted c.args.some.now c.args.others.now c.sort.new.self.items c.sort-2.new.self.items one_moved other_moved (pointwise_same c.sort.new.self.items c.sort-2.new.self.items (sym c.eq.ensures ∙ same))),
      (λ same. c.eq.ensures ∙ pointwise_refl c.sort.new.self.items c.sort-2.new.self.items (sorted_same c.args.some.now c.args.others.now c.sort.new.self.items c.sort-2.new.self.items one_moved other_moved one_sorted other_sorted same)),
    )
