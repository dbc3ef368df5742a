-- A walk down a list that looks for the first that passes.
use Rattle.std.proofs.Common.{◌≡◌, ℕ, ◌+◌, ◌<◌, ◌≤◌, Bool, true, false, not, cond, List, [], ◌∷◌, length, ap, sym, ◌∙◌, arith}
use Rattle.std.specs.Prelude.{position, nat_lt, None, Some}
use Rattle.std.specs.List.{position_or_len}
use Rattle.std.proofs.lemmas.Bool.{lt-ltb, le-ltb}

-- None before the place passes, and this is left from there on.
pub record Walked {X : Type 0} (test : X → Bool) (all : List X) (place : ℕ) (rest : List X) : Type 0 where
  pub first : position_or_len test all ≡ place + position_or_len test rest
  pub long : length all ≡ place + length rest

module _ {X : Type 0} (test : X → Bool) (all : List X) (place : ℕ) where
  pub walk_begins : Walked test all 0 all
  walk_begins = record { first = omega arith; long = omega arith }

  pub walks_on : (x : X) (rest : List X) → Walked test all place (x ∷ rest) → test x ≡ false → Walked test all (place + 1) rest
  walks_on x rest walked fails =
      let here : position_or_len test (x ∷ rest) ≡ 1 + position_or_len test rest = ap (λ (b : Bool). cond (not b) (1 + position_or_len test rest) 0) fails in
      record { first = omega (arith, walked.first, here); long = omega (arith, walked.long) }

  pub walk_finds : (x : X) (rest : List X) → Walked test all place (x ∷ rest) → test x ≡ true → Some place ≡ position test all
  walk_finds x rest walked passes =
      let here : position_or_len test (x ∷ rest) ≡ 0 = ap (λ (b : Bool). cond (not b) (1 + position_or_len test rest) 0) passes in
      let at : position_or_len test all ≡ place = omega (arith, walked.first, here) in
      let within : place < length all = omega (arith, walked.long) in
      sym (ap (λ k. cond (nat_lt k (length all)) (Some k) None) at ∙ ap (λ (b : Bool). cond b (Some place) None) (lt-ltb place (length all) within))

  pub walk_ends : Walked test all place [] → None ≡ position test all
  walk_ends walked =
      let at : position_or_len test all ≡ place = omega (arith, walked.first) in
      let past : length all ≤ place = omega (arith, walked.long) in
      sym (ap (λ k. cond (nat_lt k (length all)) (Some k) None) at ∙ ap (λ (b : Bool). cond b (Some place) None) (le-ltb place (length all) past))
