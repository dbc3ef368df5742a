-- The spares of two passes.
use Rattle.std.proofs.Common.{◌≡◌, ◌≢◌, ℕ, ◌+◌, ◌<◌, ◌≤◌, ⊎_elim, List, length, Option, None, sym, refl, ◌∙◌, subst, arith}
use Rattle.std.proofs.lemmas.Bool.{cases_lt}
use Rattle.std.proofs.lemmas.List.{get_or_past}
use Rattle.map_types.specs.Stored.{Stored}
use Rattle.map_types.proofs.RowLemmas.{by_test}
use Rattle.place_table.specs.Passes.{spare_of, SparesDiffer, either_spare}

-- up to a CPU those of both are kept, and from there on each is where it was
pub record JoinedBelow (ours theirs : List (Option Stored)) (n : ℕ) (now left : List (Option Stored)) : Type 0 where
  pub done : (cpu : ℕ) → cpu < n → spare_of cpu now ≡ either_spare (spare_of cpu ours) (spare_of cpu theirs)
  pub still : (cpu : ℕ) → n ≤ cpu → (spare_of cpu now ≡ spare_of cpu ours) × (spare_of cpu left ≡ spare_of cpu theirs)

pub joined_none : (ours theirs : List (Option Stored)) → JoinedBelow ours theirs 0 ours theirs
joined_none ours theirs = record { done = λ cpu below. absurd (omega arith); still = λ cpu from_there. (refl, refl) }

pub joined_more : (ours theirs : List (Option Stored)) (n : ℕ) (now left after rest : List (Option Stored)) → JoinedBelow ours theirs n now left → spare_of n after ≡ either_spare (spare_of n now) (spare_of n left) → SparesDiffer n now after → SparesDiffer n left rest
    → JoinedBelow ours theirs (n + 1) after rest
joined_more ours theirs n now left after rest so_far here others left_others =
    let was = so_far.still n (omega arith) in record {
      done = λ cpu below. by_test cpu n (λ _. spare_of cpu after ≡ either_spare (spare_of cpu ours) (spare_of cpu theirs))
          (λ same. subst (λ (z : ℕ). spare_of z after ≡ either_spare (spare_of z ours) (spare_of z theirs)) (sym same) (here ∙ (λ i. either_spare (was.0 i) (was.1 i))))
          (λ other. others cpu other ∙ so_far.done cpu (omega arith));
      still = λ cpu from_there.
          let other : cpu ≢ n = (λ e. omega arith) in let same = so_far.still cpu (omega arith) in
          (others cpu other ∙ same.0, left_others cpu other ∙ same.1);
    }

pub joined_all : (ours theirs : List (Option Stored)) (n : ℕ) (now left : List (Option Stored)) → length ours ≡ 16 → length theirs ≡ 16 → 16 ≤ n → JoinedBelow ours theirs n now left → (cpu : ℕ) → spare_of cpu now ≡ either_spare (spare_of cpu ours) (spare_of cpu theirs)
joined_all ours theirs n now left long theirs_long all so_far cpu =
    ⊎_elim
    (λ (below : cpu < n). so_far.done cpu below)
    (λ (past : n ≤ cpu).
    let ours_none : spare_of cpu ours ≡ None = get_or_past ours cpu None (omega (arith, long)) in
    let theirs_none : spare_of cpu theirs ≡ None = get_or_past theirs cpu None (omega (arith, theirs_long)) in
    (so_far.still cpu past).0 ∙ (ours_none ∙ sym (λ i. either_spare (ours_none i) (theirs_none i))))
    (cases_lt cpu n)
