-- In serial order every update of a map that evicts finds an element to take, so that no reply is ENOMEM.
use Rattle.std.proofs.Common.{◌≡◌, ℕ, zero, suc, ◌/◌, ◌%◌, ◌<◌, ◌≤◌, Bool, true, false, length, refl, sym, ◌∙◌, arith, inl, inr}
use Rattle.std.specs.Prelude.{MatchBool}
use Rattle.std.proofs.Math.Nat.{mod-eq_of_lt}
use Rattle.std.proofs.lemmas.Nat.{le-div}
use Rattle.std.proofs.lemmas.Bool.{cases_lt, true≢false}
use Rattle.map_types.specs.Shape.{HasBounds}
use Rattle.map_types.specs.declared.attr.Shape.{Shape}
use Rattle.map_types.specs.Kind.{is_lru}
use Rattle.place_words.specs.Logs.{State}
use Rattle.place_words.specs.Openings.{opening_stack}
use Rattle.place_words.specs.SerialOrder.{HasEnough}
use Rattle.place_words.specs.Shares.{share_first, share_count, pushed_from}
use Rattle.place_words.proofs.EachTurn.{TurnLaw}

-- The opening

pushed_some : (a n : ℕ) → 1 ≤ n → 1 ≤ length (pushed_from a n)
pushed_some a zero some = absurd (omega (arith, some))
pushed_some a (suc n) some = omega arith

share_some : (elements cpus cpu : ℕ) → cpu < cpus → cpus ≤ elements → 1 ≤ share_count elements cpus cpu
share_some elements cpus cpu within enough = let whole : 1 ≤ elements / cpus = le-div 1 elements cpus (omega (arith, within)) (omega (arith, enough)) in omega (arith, whole)

pub stack_some : (shape : Shape) (cpu : ℕ) → cpu < shape.cpus → shape.cpus ≤ shape.elements → 1 ≤ length (opening_stack shape cpu)
unfolding opening_stack
stack_some shape cpu within enough = pushed_some (share_first shape.elements shape.cpus cpu) (share_count shape.elements shape.cpus cpu) (share_some shape.elements shape.cpus cpu within enough)

-- Maps that don't evict take nothing

pub plain_law : (shape : Shape) (cpu number : ℕ) → is_lru shape.kind ≡ false → TurnLaw shape cpu number (λ side key value. Unit {0}) (λ state. Unit {0}) (λ turns. (state : State) → Unit {0} → Unit {0}) ⊥
plain_law shape cpu number plain = record {
  none = λ state kept. tt;
  both = λ xs ys first second state kept. tt;
  keeps = λ turns fits state kept. tt;
  in_key = λ key part is state kept. tt;
  in_bucket = λ bucket within part is state kept. tt;
  pushes = λ same e state kept. tt;
  looks = λ same from there part state kept. tt;
  frees = λ lru before e state kept. tt;
  takes = λ lru key_hash before there state kept. tt;
  lacks = λ lru key_hash state kept none. absurd (true≢false (sym lru ∙ plain));
}

-- every map that is created has an element, or one for each CPU
pub enough_of : (shape : Shape) → HasBounds shape → HasEnough shape
enough_of shape bounds lru = by shape.common refl
  where
    by : (common : Bool) → shape.common ≡ common → MatchBool common (1 ≤ shape.elements) (shape.cpus ≤ shape.elements)
    by true is = omega (arith, bounds.some_capacity, bounds.capacity_in_elements)
    by false is =
        let even = bounds.equal_shares lru is in
        let some = bounds.some_capacity in
        let most = bounds.capacity_in_elements in
        elim (cases_lt shape.capacity shape.cpus) [
          | inl few ↦ let rest : shape.capacity % shape.cpus ≡ shape.capacity = mod-eq_of_lt few in absurd (omega (arith, even, rest, some))
          | inr many ↦ omega (arith, many, most)
        ]
