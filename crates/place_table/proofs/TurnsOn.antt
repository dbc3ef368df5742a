-- Turns one after another: which locks' records are lost, and what is told of them.
use Rattle.std.proofs.Common.{◌≡◌, ℕ, cond, true, List, [], ◌∷◌, ◌++◌, inl, inr, ⊎_elim, sym, refl}
use Rattle.map_types.specs.declared.attr.Shape.{Shape}
use Rattle.map_types.proofs.RowLemmas.{by_test}
use Rattle.place_table.specs.declared.view.Turned.{Turned}
use Rattle.place_table.specs.Calls.{CouldBe, AreTold}
use Rattle.place_table.specs.Views.{is_among}
use Rattle.place_table.proofs.Worlds.{true_false}

pub among_behind : (n : ℕ) (first second : List ℕ) → is_among n second ≡ true → is_among n (first ++ second) ≡ true
among_behind n [] second among = among
among_behind n (x ∷ first) second among = by_test x n (λ b. cond b true (is_among n (first ++ second)) ≡ true) (λ _. refl) (λ _. among_behind n first second among)

pub among_before : (n : ℕ) (first second : List ℕ) → is_among n first ≡ true → is_among n (first ++ second) ≡ true
among_before n [] second among = absurd (true_false (sym among))
among_before n (x ∷ first) second among =
    by_test x n (λ b. cond b true (is_among n first) ≡ true → cond b true (is_among n (first ++ second)) ≡ true) (λ _ _. refl) (λ _ later. among_before n first second later) among

-- what is told of turns where some records are lost is so where more are
pub told_where : (shape : Shape) (lost more : List ℕ) → ((n : ℕ) → is_among n lost ≡ true → is_among n more ≡ true) → (steps told : List Turned) → AreTold shape lost steps told → AreTold shape more steps told
told_where shape lost more are [] [] is = tt
told_where shape lost more are [] (told ∷ others) is = absurd is
told_where shape lost more are (step ∷ steps) [] is = absurd is
told_where shape lost more are (step ∷ steps) (told ∷ others) is = (
  (⊎_elim (λ (same : told ≡ step). inl same) (λ (x : (is_among step.lock lost ≡ true) × CouldBe shape step told). inr (are step.lock x.0, x.1)) is.0.0, is.0.1),
  told_where shape lost more are steps others is.1,
)

pub told_append : (shape : Shape) (lost : List ℕ) (first second told others : List Turned) → AreTold shape lost first told → AreTold shape lost second others → AreTold shape lost (first ++ second) (told ++ others)
told_append shape lost [] second [] others is later = later
told_append shape lost [] second (one ∷ told) others is later = absurd is
told_append shape lost (step ∷ first) second [] others is later = absurd is
told_append shape lost (step ∷ first) second (one ∷ told) others is later = (is.0, told_append shape lost first second told others is.1 later)
