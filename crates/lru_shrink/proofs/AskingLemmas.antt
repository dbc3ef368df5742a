-- What stays over several calls.
use Rattle.std.proofs.Common.{◌≡◌, ℕ, ◌+◌, ◌-◌, refl, ◌∙◌, subst, arith}
use Rattle.lru_shrink.specs.Asking.{LeavesBut, Terms}

module _ {Asked : Type 0} (terms : Terms Asked) where
  pub leaves_all : (stays : ℕ → Type 0) (now : Asked) → LeavesBut terms stays 0 now now
  leaves_all stays now = record {
    noted = λ n can. subst (λ (m : ℕ). terms.can_note now m) (let same : n ≡ n - 0 = omega arith in same) can;
    asked = λ e may. may;
    probing = λ row _ may. may;
    given = λ body. (λ is. is, λ is. is);
    lent = refl;
  }

  pub leaves_more : (one two both : ℕ → Type 0) (first second total : ℕ) (a b c : Asked) → ((e : ℕ) → both e → one e) → ((e : ℕ) → both e → two e) → first + second ≡ total → LeavesBut terms one first a b → LeavesBut terms two second b c → LeavesBut terms both total a c
  leaves_more one two both first second total a b c to_one to_two sum before after = record {
    noted = λ n can. subst (λ (m : ℕ). terms.can_note c m) (let less : (n - first) - second ≡ n - total = omega arith in less) (after.noted (n - first) (before.noted n can));
    asked = λ e may. after.asked e (before.asked e may);
    probing = λ row stays may. after.probing row (to_two row.element stays) (before.probing row (to_one row.element stays) may);
    given = λ body. (λ is. (after.given body).0 ((before.given body).0 is), λ is. (before.given body).1 ((after.given body).1 is));
    lent = after.lent ∙ before.lent;
  }

  pub leaves_as : (one two : ℕ → Type 0) (first second : ℕ) (a b : Asked) → ((e : ℕ) → two e → one e) → first ≡ second → LeavesBut terms one first a b → LeavesBut terms two second a b
  leaves_as one two first second a b to same is = record {
    noted = λ n can. subst (λ (m : ℕ). terms.can_note b (n - m)) same (is.noted n can);
    asked = is.asked;
    probing = λ row stays may. is.probing row (to row.element stays) may;
    given = is.given;
    lent = is.lent;
  }
