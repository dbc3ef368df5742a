-- The least of the places at which items aren't right, item after item.
use Rattle.std.proofs.Common.{◌≡◌, ℕ, ◌+◌, ◌<◌, List, [], ◌∷◌, ◌++◌, length, get_or, take, refl, sym, ◌∙◌, subst, inl, inr, arith}
use Rattle.std.specs.Prelude.{All}
use Rattle.std.proofs.lemmas.List.{take_more}
use Rattle.std.proofs.lemmas.List.Elements.{All-nil, All-cons, All-head, All-tail, All-append}
use Rattle.place_words.specs.declared.history.Entry.{Entry}
use Rattle.place_words.specs.declared.history.LockHistory.{LockHistory}
use Rattle.place_words.specs.Phases.{phase_of}
use Rattle.map_report.specs.Record.{IsInItsPhase}
use Rattle.map_report.specs.declared.record.PhaseStart.{PhaseStart}
use Rattle.record_parts.specs.PhaseTables.{IsLeastWrong, IsOnTime}
use Rattle.record_flaws.specs.PhaseFlaws.{IsRightEntry, IsRightHistory}

pub all_first : {A : Type 0} (P : A → Type 0) (xs ys : List A) → All P (xs ++ ys) → All P xs
all_first P [] ys all = All-nil P
all_first P (x ∷ xs) ys all = All-cons P x xs (All-head P x (xs ++ ys) all) (all_first P xs ys (All-tail P x (xs ++ ys) all))

pub all_last : {A : Type 0} (P : A → Type 0) (xs ys : List A) → All P (xs ++ ys) → All P ys
all_last P [] ys all = all
all_last P (x ∷ xs) ys all = all_last P xs ys (All-tail P x (xs ++ ys) all)

pub least_none : {A : Type 0} (IsRight : ℕ → A → Type 0) (first : ℕ) → IsLeastWrong IsRight [] first first
least_none IsRight first = record { within = omega arith; right = λ place less. All-nil (IsRight place); wrong = inl refl }

-- of some items, and then of others from there on
pub least_on : {A : Type 0} {IsRight : ℕ → A → Type 0} {xs ys : List A} {first middle least : ℕ}
    → IsLeastWrong IsRight xs first middle → IsLeastWrong IsRight ys middle least → IsLeastWrong IsRight (xs ++ ys) first least
least_on {IsRight = IsRight} {xs = xs} {ys = ys} {first = first} {middle = middle} {least = least} before behind = record {
  within = omega (arith, before.within, behind.within);
  right = λ place less. All-append (IsRight place) xs ys (before.right place (omega (arith, less, behind.within))) (behind.right place less);
  wrong = elim behind.wrong [
    | inr wrong ↦ inr (λ all. wrong (all_last (IsRight least) xs ys all))
    | inl same ↦ elim before.wrong [
      | inl as_first ↦ inl (same ∙ as_first)
      | inr wrong ↦ inr (λ all. wrong (all_first (IsRight middle) xs ys (subst (λ (p : ℕ). All (IsRight p) (xs ++ ys)) same all)))
    ]
  ];
}

-- one more item of a list
pub least_more : {A : Type 0} (IsRight : ℕ → A → Type 0) (xs : List A) (i : ℕ) (x : A) (first middle least : ℕ) → i < length xs → x ≡ get_or xs i x
    → IsLeastWrong IsRight (take i xs) first middle → IsLeastWrong IsRight (x ∷ []) middle least → IsLeastWrong IsRight (take (i + 1) xs) first least
least_more IsRight xs i x first middle least within is before here =
    subst (λ (ys : List _). IsLeastWrong IsRight ys first least) (sym (take_more xs i x within))
    (least_on before (subst (λ (y : _). IsLeastWrong IsRight (y ∷ []) middle least) is here))

-- of one history, by its entries
pub least_in_one : (cuts : List ℕ) (starts : List PhaseStart) (history : LockHistory) (first least : ℕ)
    → IsLeastWrong (IsRightEntry cuts starts) history.entries first least → IsLeastWrong (IsRightHistory cuts starts) (history ∷ []) first least
least_in_one cuts starts history first least here = record {
  within = here.within;
  right = λ place less. All-cons (IsRightHistory cuts starts place) history [] (here.right place less) (All-nil (IsRightHistory cuts starts place));
  wrong = elim here.wrong [
    | inl as_first ↦ inl as_first
    | inr wrong ↦ inr (λ all. wrong (All-head (IsRightHistory cuts starts least) history [] all))
  ];
}

-- of one entry that isn't in its phase
pub least_here : (cuts : List ℕ) (starts : List PhaseStart) (entry : Entry) (first phase : ℕ) → phase ≡ phase_of cuts entry.call → phase < first
    → (IsOnTime starts phase entry.ticket → ⊥) → IsLeastWrong (IsRightEntry cuts starts) (entry ∷ []) first phase
least_here cuts starts entry first phase is less late = record {
  within = omega arith;
  right = λ place below. All-cons (IsRightEntry cuts starts place) entry [] (λ same. absurd (omega (arith, is, same, below))) (All-nil (IsRightEntry cuts starts place));
  wrong = inr (λ all. late (on_time (All-head (IsRightEntry cuts starts phase) entry [] all (sym is))));
}
  where
    on_time : IsInItsPhase cuts starts entry → IsOnTime starts phase entry.ticket
    on_time in_phase = subst (λ (p : ℕ). IsOnTime starts p entry.ticket) (sym is) (record { start = in_phase.start; start_is = in_phase.start_is; from = in_phase.from; to = in_phase.to })
