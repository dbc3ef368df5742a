-- The loop over the turns of freelists up to a bucket's turn.
use Rattle.std.proofs.Common.{◌≡◌, ℕ, zero, suc, ◌+◌, ◌≤◌, Bool, true, false, List, [], ◌∷◌, ◌++◌, length, take, drop, Option, None, Some, refl, ap, sym, ◌∙◌, subst, arith, take-append-drop, length-drop, ◌-◌}
use Rattle.std.specs.Prelude.{if◌then◌else◌}
use Rattle.std.proofs.lemmas.List.{append-nil}
use Rattle.place_words.specs.Turns.{Turn}
use Rattle.place_words.specs.declared.bucket_part.BucketPart.{BucketPart}
use Rattle.trace_check.specs.Reading.{is_free, with_rest, read_group, with_before, at_bucket, bucket_group}
use Rattle.trace_check.proofs.Readers.{AreFree}

-- so many turns of freelists were passed by, and these are left
pub record ArePassed (turns : List Turn) (count : ℕ) (rest : List Turn) : Type 0 where
  pub rest_is : rest ≡ drop count turns
  pub are_free : AreFree (take count turns)

nothing : (rest : List Turn) → length rest ≤ 0 → rest ≡ []
nothing [] none = refl
nothing (t ∷ rest) some = absurd (omega arith)

-- all of them were
pub all_passed : {turns : List Turn} {count : ℕ} {rest : List Turn} → ArePassed turns count rest → length turns ≤ count → rest ≡ []
all_passed {turns = turns} {count = count} {rest = rest} passed all =
    let long : length rest ≡ length turns - count = ap (λ (l : List Turn). length l) passed.rest_is ∙ length-drop count turns in
    nothing rest (omega arith)

pub none_passed : (turns : List Turn) → ArePassed turns 0 turns
none_passed turns = record { rest_is = refl; are_free = tt }

one_more : (k : ℕ) → k + 1 ≡ suc k
one_more k = omega arith

module _ {X : Type 0} where
  taken_more : (k : ℕ) (xs : List X) (x : X) (rest : List X) → drop k xs ≡ x ∷ rest → take (suc k) xs ≡ take k xs ++ x ∷ []
  taken_more zero [] x rest at = absurd cc
  taken_more zero (y ∷ xs) x rest at = cc
  taken_more (suc k) [] x rest at = absurd cc
  taken_more (suc k) (y ∷ xs) x rest at = ap (λ ys. y ∷ ys) (taken_more k xs x rest at)

  left_more : (k : ℕ) (xs : List X) (x : X) (rest : List X) → drop k xs ≡ x ∷ rest → drop (suc k) xs ≡ rest
  left_more zero [] x rest at = absurd cc
  left_more zero (y ∷ xs) x rest at = cc
  left_more (suc k) [] x rest at = absurd cc
  left_more (suc k) (y ∷ xs) x rest at = left_more k xs x rest at

free_more : (xs : List Turn) (t : Turn) → AreFree xs → is_free t.part ≡ true → AreFree (xs ++ t ∷ [])
free_more [] t are is = (is, tt)
free_more (x ∷ xs) t are is = (are.0, free_more xs t are.1 is)

pub one_passed : {turns : List Turn} {count : ℕ} {rest behind : List Turn} {t : Turn} → ArePassed turns count rest → rest ≡ t ∷ behind → is_free t.part ≡ true → ArePassed turns (count + 1) behind
one_passed {turns = turns} {count = count} {behind = behind} {t = t} passed split free =
    let at : drop count turns ≡ t ∷ behind = sym passed.rest_is ∙ split in
    record {
      rest_is = sym (ap (λ n. drop n turns) (one_more count) ∙ left_more count turns t behind at);
      are_free = subst AreFree (sym (ap (λ n. take n turns) (one_more count) ∙ taken_more count turns t behind at)) (free_more (take count turns) t passed.are_free free);
    }

module _ {A : Type 0} where
  free_group : (before rest : List Turn) (says : List Turn → Turn → Option A) → AreFree before → read_group (before ++ rest) says ≡ read_group rest (λ more. says (before ++ more))
  free_group [] rest says are = refl
  free_group (t ∷ before) rest says are =
      ap (λ (b : Bool). if b then read_group (before ++ rest) (λ more. says (t ∷ more)) else with_rest (before ++ rest) (says [] t)) are.0
      ∙ free_group before rest (λ more. says (t ∷ more)) are.1

  split_group : (turns : List Turn) (count : ℕ) (rest : List Turn) (says : List Turn → Turn → Option A) → ArePassed turns count rest → read_group turns says ≡ read_group rest (λ more. says (take count turns ++ more))
  split_group turns count rest says passed =
      ap (λ (l : List Turn). read_group l says) (sym (take-append-drop count turns) ∙ ap (λ (l : List Turn). take count turns ++ l) (sym passed.rest_is))
      ∙ free_group (take count turns) rest says passed.are_free

  pub no_group : {turns : List Turn} {count : ℕ} {rest : List Turn} (says : List Turn → Turn → Option A) → ArePassed turns count rest → rest ≡ [] → None ≡ read_group turns says
  no_group {turns = turns} {count = count} {rest = rest} says passed none =
      sym (split_group turns count rest says passed ∙ ap (λ (l : List Turn). read_group l (λ more. says (take count turns ++ more))) none)

  pub one_group : {turns : List Turn} {count : ℕ} {rest behind : List Turn} {t : Turn} (says : List Turn → Turn → Option A) → ArePassed turns count rest → rest ≡ t ∷ behind → is_free t.part ≡ false
      → with_rest behind (says (take count turns) t) ≡ read_group turns says
  one_group {turns = turns} {count = count} {rest = rest} {behind = behind} {t = t} says passed split bucket =
      sym
      (split_group turns count rest says passed
      ∙ ap (λ (l : List Turn). read_group l (λ more. says (take count turns ++ more))) split
      ∙ ap (λ (b : Bool). if b then read_group behind (λ more. says (take count turns ++ t ∷ more)) else with_rest behind (says (take count turns ++ []) t)) bucket
      ∙ ap (λ (l : List Turn). with_rest behind (says l t)) (append-nil (take count turns)))

pub no_bucket_group : {turns : List Turn} {count : ℕ} {rest : List Turn} (bucket : ℕ) → ArePassed turns count rest → rest ≡ [] → None ≡ bucket_group bucket turns
unfolding bucket_group
no_bucket_group bucket passed none = no_group (λ before last. with_before before (at_bucket bucket Some last)) passed none

pub one_bucket_group : {turns : List Turn} {count : ℕ} {rest behind : List Turn} {t : Turn} (bucket : ℕ) (told : Option BucketPart) → ArePassed turns count rest → rest ≡ t ∷ behind → is_free t.part ≡ false → at_bucket bucket Some t ≡ told
    → with_rest behind (with_before (take count turns) told) ≡ bucket_group bucket turns
unfolding bucket_group
one_bucket_group {turns = turns} {count = count} {behind = behind} bucket told passed split not_free is =
    ap (λ o. with_rest behind (with_before (take count turns) o)) (sym is)
    ∙ one_group (λ before last. with_before before (at_bucket bucket Some last)) passed split not_free
