-- Three draws are a call.
use Rattle.std.proofs.Common.{◌≡◌, ℕ, suc, ◌+◌, ◌*◌, ◌%◌, sym, ap, ◌∙◌, arith}
use Rattle.map_types.specs.declared.attr.Shape.{Shape}
use Rattle.map_types.specs.declared.call.Verb.{Verb}
use Rattle.map_script.specs.declared.script.GenSpec.{GenSpec}
use Rattle.map_script.specs.Grammar.{call_on}
use Rattle.workload_gen.specs.Draws.{next_state, answer_of, state_after, draw}
use Rattle.workload_gen.specs.Generated.{drawn_verb, drawn_call}

-- the state behind one draw more
state_more : (seed n m before now : ℕ) → m ≡ suc n → before ≡ state_after seed n → now ≡ next_state before → now ≡ state_after seed m
state_more seed n m before now more is step = step ∙ ap next_state is ∙ ap (state_after seed) (sym more)

-- what that draw answers
draw_is : (seed n before now answer : ℕ) → before ≡ state_after seed n → now ≡ next_state before → answer ≡ answer_of now → answer ≡ draw seed n
draw_is seed n before now answer is step answered = answered ∙ ap answer_of (step ∙ ap next_state is)

-- the states of three draws, from that behind the draws of i calls on
module _ (spec : GenSpec) (i : ℕ) {s0 s1 s2 s3 : ℕ} (begun : s0 ≡ state_after spec.seed (3 * i)) (first : s1 ≡ next_state s0) (second : s2 ≡ next_state s1) (third : s3 ≡ next_state s2) where
  after_one : s1 ≡ state_after spec.seed (3 * i + 1)
  after_one = state_more spec.seed (3 * i) (3 * i + 1) s0 s1 (omega arith) begun first

  after_two : s2 ≡ state_after spec.seed (3 * i + 2)
  after_two = state_more spec.seed (3 * i + 1) (3 * i + 2) s1 s2 (omega arith) after_one second

  -- they end behind the draws of one call more
  pub drawn_more : s3 ≡ state_after spec.seed (3 * (i + 1))
  drawn_more = state_more spec.seed (3 * i + 2) (3 * (i + 1)) s2 s3 (omega arith) after_two third

  -- and what they answered makes that call
  pub call_is : (shape : Shape) {cpu choice k : ℕ} {verb : Verb} → cpu ≡ answer_of s1 → choice ≡ answer_of s2 → k ≡ answer_of s3 → verb ≡ drawn_verb shape (choice % 8) (k % spec.keys) i
      → call_on (cpu % shape.cpus) verb ≡ drawn_call shape spec i
  unfolding drawn_call
  call_is shape {cpu} {choice} {k} {verb} cpu_answer choice_answer k_answer verb_is =
      let cpu_is = draw_is spec.seed (3 * i) s0 s1 cpu begun first cpu_answer in
      let choice_is = draw_is spec.seed (3 * i + 1) s1 s2 choice after_one second choice_answer in
      let k_is = draw_is spec.seed (3 * i + 2) s2 s3 k after_two third k_answer in
      let same : verb ≡ drawn_verb shape (draw spec.seed (3 * i + 1) % 8) (draw spec.seed (3 * i + 2) % spec.keys) i = verb_is ∙ (λ n. drawn_verb shape (choice_is n % 8) (k_is n % spec.keys) i) in
      λ n. call_on (cpu_is n % shape.cpus) (same n)
