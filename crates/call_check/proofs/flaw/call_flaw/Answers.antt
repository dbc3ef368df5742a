use Rattle.std.proofs.Common.{◌≡◌, ◌+◌, ℕ, suc, Bool, ◌∙◌, subst, inl, inr, arith}
use Rattle.std.specs.Prelude.{MatchBool}
use Rattle.std.specs.Bool.{OnTrue}
use Rattle.std.proofs.lemmas.Bool.{cases_lt}
use Rattle.call_check.specs.RightCalls.{IsRightAt}
use Rattle.call_check.specs.Steps.{AreBehind}
use Rattle.call_check.proofs.RightRows.{first_behind}
use Rattle.call_check.proofs.flaw.call_flaw.Goals as goal

pub is_right_at-requires-clause-record : goal.is_right_at-requires-clause-record
is_right_at-requires-clause-record c = record { formed = c.requires.script; shaped = c.requires.shaped; strands = c.requires.strands; legal = c.requires.legal; noted = c.requires.noted }

pub loop-place-init : goal.loop-place-init
loop-place-init c = (
  first_behind c.args.script.now c.args.kept.now c.requires.script c.requires.shaped c.requires.strands c.in_ok-cursors.cursors.items
      (c.in_ok-cursors.ensures.each ∙ c.len.ensures) c.in_ok-cursors.ensures.zeros,
  λ q less. absurd (omega (arith, less)),
)

pub returns-then-not-branch : goal.returns-then-not-branch
returns-then-not-branch c =
    let script = c.args.script.now in
    let kept = c.args.kept.now in
    let n : ℕ = c.loop-place.place in
    let wrong : IsRightAt script kept n → ⊥ =
    subst (λ (b : Bool). MatchBool b (IsRightAt script kept n) (IsRightAt script kept n → ⊥)) c.if-not-branch.true c.in_ok-is_right_at.ensures.right in
    (omega (arith, c.loop-place-test.true, c.len-place-end.ensures), wrong, λ q less. c.loop-place.invariant.1 q less)

pub loop-place-preserved : goal.loop-place-preserved
loop-place-preserved c =
    let script = c.args.script.now in
    let kept = c.args.kept.now in
    let n : ℕ = c.loop-place.place in
    let next : suc n ≡ n + 1 = omega arith in
    let right : IsRightAt script kept n =
    subst (λ (b : Bool). MatchBool b (IsRightAt script kept n) (IsRightAt script kept n → ⊥)) c.if-not-branch.false c.in_ok-is_right_at.ensures.right in
    let behind : AreBehind kept.histories (suc (suc n)) kept.strands c.is_right_at.new.cursors.items =
    subst (λ (b : Bool). OnTrue b (AreBehind kept.histories (suc (suc n)) kept.strands c.is_right_at.new.cursors.items)) c.if-not-branch.false c.in_ok-is_right_at.ensures.behind in (
      subst (λ (k : ℕ). AreBehind kept.histories (suc k) kept.strands c.is_right_at.new.cursors.items) next behind,
      λ q less. elim (cases_lt q n) [
        | inl before ↦ c.loop-place.invariant.1 q before
        | inr after ↦ let here : n ≡ q = omega (arith, less, after) in subst (IsRightAt script kept) here right
      ],
    )

pub returns : goal.returns
returns c = λ place less. c.loop-place.invariant.1 place (omega (arith, less, c.loop-place-test.false, c.len-place-end.ensures))
