-- Ways out of a function that answers something or nothing, and lists that are at their end.
use Rattle.std.proofs.Common.{◌≡◌, ◌≤◌, List, [], ◌∷◌, length, Option, None, refl, sym, subst, arith}
use Rattle.std.specs.Prelude.{MatchOption}

pub at_none : {X : Type 0} (P : Type 0) (Q : X → Type 0) (o : Option X) → o ≡ None → P → MatchOption o P Q
at_none P Q o is holds = subst (λ q. MatchOption q P Q) (sym is) holds

pub nothing : {X : Type 0} (xs : List X) → length xs ≤ 0 → xs ≡ []
nothing [] none = refl
nothing (x ∷ xs) some = absurd (omega arith)
