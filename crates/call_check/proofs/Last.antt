-- The last of some replacements.
use Rattle.std.proofs.Common.{◌≡◌, ℕ, zero, suc, ◌-◌, ◌<◌, Bool, cond, ltb, List, [], ◌∷◌, length, get_or, take, Option, Some, None, refl, ap, sym, ◌∙◌, arith}
use Rattle.std.specs.Prelude.{filter, slice_get}
use Rattle.std.proofs.lemmas.Bool.{lt-ltb}
use Rattle.std.proofs.lemmas.Option.{none-some, same_Some, slice_get-get_or}
use Rattle.call_check.specs.Spares.{last_left, spare_in}
use Rattle.call_check.specs.declared.changes.Change.{Change}

last_at : (spare : Option ℕ) (changes : List Change) (last : Change) (k : ℕ) → suc k ≡ length changes → slice_get changes k ≡ Some last → last_left spare changes ≡ Some last.old
last_at spare [] last k end is = absurd (none-some last is)
last_at spare (change ∷ []) last zero end is = ap (λ (c : Change). Some c.old) (same_Some change last is)
last_at spare (change ∷ []) last (suc k) end is = absurd (none-some last is)
last_at spare (change ∷ (next ∷ more)) last zero end is = absurd (omega (arith, end))
last_at spare (change ∷ (next ∷ more)) last (suc k) end is = last_at (Some change.old) (next ∷ more) last k (omega (arith, end)) is

pub last_is : (spare : Option ℕ) (changes : List Change) (last : Change) → slice_get changes (length changes - 1) ≡ Some last → last_left spare changes ≡ Some last.old
last_is spare [] last is = absurd (none-some last is)
last_is spare (change ∷ more) last is = last_at spare (change ∷ more) last (length (change ∷ more) - 1) (omega arith) is

pub none_last : (spare : Option ℕ) (changes : List Change) → slice_get changes (length changes - 1) ≡ None → last_left spare changes ≡ spare
none_last spare [] is = refl
none_last spare (change ∷ more) is =
    absurd (none-some (get_or (change ∷ more) (length (change ∷ more) - 1) change) (sym is ∙ slice_get-get_or (change ∷ more) (length (change ∷ more) - 1) change (omega arith)))

-- what the replacements below a moment left
pub left_is : (first : List ℕ) (changes : List (List Change)) (cpu moment : ℕ) (read : List ℕ) (own : List Change) (count : ℕ) (answer : Option ℕ)
    → read ≡ first → own ≡ get_or changes cpu [] → filter (λ (change : Change). ltb change.moment moment) own ≡ take count own
    → answer ≡ last_left (slice_get read cpu) (take count own) → answer ≡ spare_in first changes cpu moment
left_is first changes cpu moment read own count answer read_is own_is taken is =
    is
    ∙ (ap (λ (f : List ℕ). last_left (slice_get f cpu) (take count own)) read_is
    ∙ (ap (last_left (slice_get first cpu)) (sym taken)
    ∙ ap (λ (l : List Change). last_left (slice_get first cpu) (filter (λ (change : Change). ltb change.moment moment) l)) own_is))

-- all of them, where no moment is so great
pub all_left : (first : List ℕ) (changes : List (List Change)) (cpu moment : ℕ) → ((k : ℕ) (d : Change) → k < length (get_or changes cpu []) → (get_or (get_or changes cpu []) k d).moment < moment)
    → last_left (slice_get first cpu) (get_or changes cpu []) ≡ spare_in first changes cpu moment
all_left first changes cpu moment low = ap (last_left (slice_get first cpu)) (sym (all_pass (get_or changes cpu []) low))
  where
    all_pass : (l : List Change) → ((k : ℕ) (d : Change) → k < length l → (get_or l k d).moment < moment) → filter (λ (change : Change). ltb change.moment moment) l ≡ l
    all_pass [] low = refl
    all_pass (change ∷ l) low =
        ap (λ (b : Bool). cond b (change ∷ filter (λ (change : Change). ltb change.moment moment) l) (filter (λ (change : Change). ltb change.moment moment) l)) (lt-ltb change.moment moment (low 0 change (omega arith)))
        ∙ ap (λ (cs : List Change). change ∷ cs) (all_pass l (λ k d less. low (suc k) d (omega (arith, less))))
