-- What stays over several calls.
use Rattle.std.proofs.Common.{ℕ, ◌+◌, ◌-◌, List, refl, ◌∙◌, subst, arith}
use Rattle.map_types.specs.Stored.{Stored}
use Rattle.map_types.specs.declared.row.Row.{Row}
use Rattle.lru_lists.specs.declared.bits.ProbeCall.{ProbeCall}
use Rattle.lru_rotate.specs.Asking.{OnlyBits}

module _ {Asked : Type 0} (may_ask : Asked → ℕ → Type 0) (probes : Asked → List ProbeCall) (may_probe : Asked → Row → Type 0) (gives : Asked → Stored → Type 0) (lender : Asked → ℕ) where
  pub only_none : (now : Asked) → OnlyBits may_ask probes may_probe gives lender now now
  only_none now = record { asked = λ e may. may; probed = refl; probing = λ row. (λ may. may, λ may. may); given = λ body. (λ is. is, λ is. is); lent = refl }

  pub only_more : (first second third : Asked) → OnlyBits may_ask probes may_probe gives lender first second → OnlyBits may_ask probes may_probe gives lender second third → OnlyBits may_ask probes may_probe gives lender first third
  only_more first second third one other = record {
    asked = λ e may. other.asked e (one.asked e may);
    probed = other.probed ∙ one.probed;
    probing = λ row. (λ may. (other.probing row).0 ((one.probing row).0 may), λ may. (one.probing row).1 ((other.probing row).1 may));
    given = λ body. (λ is. (other.given body).0 ((one.given body).0 is), λ is. (one.given body).1 ((other.given body).1 is));
    lent = other.lent ∙ one.lent;
  }

pub none_less : (can : ℕ → Type 0) (n : ℕ) → can n → can (n - 0)
none_less can n is = subst can (omega arith) is

-- one call less
pub less_one : (can : ℕ → Type 0) (n made : ℕ) → can ((n - made) - 1) → can (n - (made + 1))
less_one can n made is = subst can (omega arith) is
