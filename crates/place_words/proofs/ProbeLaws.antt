-- Probes that remove their elements.
use Rattle.std.proofs.Common.{◌≡◌, ℕ, List, [], ◌∷◌, refl, sym, subst}
use Rattle.place_words.specs.declared.visits.Try.{Try}
use Rattle.place_words.proofs.ChaseDone.{names_of, AreRemoved}
use Rattle.place_words.proofs.ShrinkProbes.{removed_tries, removed_names}

-- probes that remove these elements
pub record IsRemoving (probes : List Try) (out : List ℕ) : Type 0 where
  pub removed : AreRemoved probes
  pub names : names_of probes ≡ out

all_removed : (es : List ℕ) → AreRemoved (removed_tries es)
all_removed [] = tt
all_removed (e ∷ es) = (refl, all_removed es)

pub removing_of : (probes : List Try) (out : List ℕ) → probes ≡ removed_tries out → IsRemoving probes out
removing_of probes out is = subst (λ (tries : List Try). IsRemoving tries out) (sym is) (record { removed = all_removed out; names = removed_names out })
