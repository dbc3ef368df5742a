use Rattle.std.proofs.Common.{◌≡◌, ◌≢◌, ℕ, zero, suc, ◌+◌, ◌++◌, List, [], ◌∷◌, Bool, true, false, get_or, refl, sym, ap, ◌∙◌}
use mathlib.Core.Option.{some, some-injective, some-ne-none}
use lib.ListN.{get_elem?}
use Rattle.std.specs.Slots.{slots_items}
use Rattle.map_types.specs.ElementLists.{one}
use Rattle.place_table.proofs.Leaves.{filter_passes, filter_fails}
use Rattle.place_table.proofs.close.marked_in.Goals as goal
use Rattle.place_table.proofs.close.marked_in.Goals.{then-word-eq1+in_ok-push, else-word-eq1}

read_is : (l : List ℕ) (i a d : ℕ) → get_elem? l i ≡ some a → get_or l i d ≡ a
read_is [] i a d e = absurd (some-ne-none a (sym e))
read_is (x ∷ xs) zero a d e = some-injective x a e
read_is (x ∷ xs) (suc i) a d e = read_is xs i a d e

bit_of_one : (b : Bool) → one b ≡ 1 → b ≡ true
bit_of_one true is = refl
bit_of_one false is = cc

bit_of_other : (b : Bool) → one b ≢ 1 → b ≡ false
bit_of_other true other = absurd (other refl)
bit_of_other false other = refl

pub loop-element-preserved : goal.loop-element-preserved
loop-element-preserved c = λ bit told.
    let is : one (bit c.loop-element.element) ≡ c.word.result = sym (told c.loop-element.element c.loop-element-test.true) ∙ read_is (slots_items c.args.closed.now.words) (c.args.first + c.loop-element.element) c.word.result 0 c.word.ensures in
    elim c.if-word-eq1.branch [
      | then-word-eq1+in_ok-push w ↦
          ap (λ v. v.items) w.marked-is ∙ w.in_ok-push.ensures.items ∙ ap (λ (l : List ℕ). l ++ c.loop-element.element ∷ []) (c.loop-element.invariant bit told)
          ∙ sym (filter_passes bit c.loop-element.element (bit_of_one _ (is ∙ w.if-word-eq1.true)))
      | else-word-eq1 w ↦
          ap (λ v. v.items) w.marked-is ∙ c.loop-element.invariant bit told
          ∙ sym (filter_fails bit c.loop-element.element (bit_of_other _ (λ e. w.if-word-eq1.false (sym is ∙ e))))
    ]
