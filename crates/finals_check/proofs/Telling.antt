-- What finals tell of the locks of a map, in its own form and by what lies there.
use Rattle.std.proofs.Common.{length, get_or, Option, None, ◌≡◌, ◌≢◌, ◌⊎◌, inl, inr, ℕ, zero, suc, ◌+◌, ◌<◌, ◌≤◌, Bool, true, false, cond, List, [], ◌∷◌, map, refl, ap, sym, ◌∙◌, subst, ⊎_elim, arith}
use Rattle.std.specs.Prelude.{IsTrue, filter, slice_get}
use Rattle.std.specs.List.{range_with_len}
use Rattle.std.proofs.lemmas.Bool.{cases_eq, cases_lt}
use Rattle.std.proofs.lemmas.Option.{none-some, same_Some}
use Rattle.std.proofs.Math.ListN.{get_or-eq_default}
use Rattle.map_types.specs.declared.attr.Shape.{Shape}
use Rattle.map_types.specs.declared.kind.DomainId.{DomainId}
use Rattle.map_types.specs.declared.kind.DomainId.TheVariants.{Local, Global, CpuLru, Bucket, Freelist}
use Rattle.place_words.specs.declared.finals.Finals.{Finals}
use Rattle.place_words.specs.Histories.{Content, in_bucket, on_freelist, in_locals, in_global, in_own, bucket_in, freelist_in, content}
use Rattle.place_words.specs.Locks.{is_lock, lock_count, lock_named, lock_number}
use Rattle.place_words.proofs.LockLemmas.{named_by_number, number_within}
use Rattle.map_report.specs.Record.{Tells, entries_of, locks_of}
use Rattle.record_shape.specs.Fits.{AllFit}
use Rattle.record_shape.proofs.StrandsFit.{locks_are}
use Rattle.finals_check.specs.declared.told.Lies.{Lies}
use Rattle.finals_check.specs.Telling.{AllTell, AreTold, FormTells, SparesTold, lying_of}

pub form_tells : FormTells
form_tells finals (Local cpu) (in_bucket bodies) = (λ told. absurd told, λ told. absurd told)
form_tells finals (Local cpu) (on_freelist stack) = (λ told. absurd told, λ told. absurd told)
form_tells finals (Local cpu) (in_locals lists) = (λ told. told, λ told. told)
form_tells finals (Local cpu) (in_global set) = (λ told. absurd told, λ told. absurd told)
form_tells finals (Local cpu) (in_own set) = (λ told. absurd told, λ told. absurd told)
form_tells finals Global (in_bucket bodies) = (λ told. absurd told, λ told. absurd told)
form_tells finals Global (on_freelist stack) = (λ told. absurd told, λ told. absurd told)
form_tells finals Global (in_locals lists) = (λ told. absurd told, λ told. absurd told)
form_tells finals Global (in_global set) = (λ told. told, λ told. told)
form_tells finals Global (in_own set) = (λ told. absurd told, λ told. absurd told)
form_tells finals (CpuLru cpu) (in_bucket bodies) = (λ told. absurd told, λ told. absurd told)
form_tells finals (CpuLru cpu) (on_freelist stack) = (λ told. absurd told, λ told. absurd told)
form_tells finals (CpuLru cpu) (in_locals lists) = (λ told. absurd told, λ told. absurd told)
form_tells finals (CpuLru cpu) (in_global set) = (λ told. absurd told, λ told. absurd told)
form_tells finals (CpuLru cpu) (in_own set) = (λ told. told, λ told. told)
form_tells finals (Bucket bucket) (in_bucket bodies) = (λ told. ap in_bucket told, λ told. same_Some _ bodies (ap bucket_in told))
form_tells finals (Bucket bucket) (on_freelist stack) = (λ told. absurd told, λ told. absurd cc)
form_tells finals (Bucket bucket) (in_locals lists) = (λ told. absurd told, λ told. absurd cc)
form_tells finals (Bucket bucket) (in_global set) = (λ told. absurd told, λ told. absurd cc)
form_tells finals (Bucket bucket) (in_own set) = (λ told. absurd told, λ told. absurd cc)
form_tells finals (Freelist cpu) (in_bucket bodies) = (λ told. absurd told, λ told. absurd cc)
form_tells finals (Freelist cpu) (on_freelist stack) = (λ told. ap on_freelist told, λ told. same_Some _ stack (ap freelist_in told))
form_tells finals (Freelist cpu) (in_locals lists) = (λ told. absurd told, λ told. absurd cc)
form_tells finals (Freelist cpu) (in_global set) = (λ told. absurd told, λ told. absurd cc)
form_tells finals (Freelist cpu) (in_own set) = (λ told. absurd told, λ told. absurd cc)

-- Which locks a map has

abbrev Among : DomainId → List DomainId → Type 0
Among lock [] = ⊥
Among lock (other ∷ more) = (other ≡ lock) ⊎ Among lock more

module _ (test : ℕ → Bool) (named : ℕ → DomainId) where
  kept : (k a : ℕ) (ks : List ℕ) (b : Bool) → Among (named k) (map named ks) → Among (named k) (map named (cond b (a ∷ ks) ks))
  kept k a ks true there = inr there
  kept k a ks false there = there

  among_from : (a n k : ℕ) → a ≤ k → k < a + n → test k ≡ true → Among (named k) (map named (filter test (range_with_len a n)))
  among_from a zero k from below passes = absurd (omega (arith, from, below))
  among_from a (suc n) k from below passes =
      let rest : List ℕ = filter test (range_with_len (a + 1) n) in
      ⊎_elim
      (λ (is : a ≡ k). subst (λ (b : Bool). Among (named k) (map named (cond b (a ∷ rest) rest))) (sym (ap test is ∙ passes)) (inl (ap named is)))
      (λ (other : a ≢ k). kept k a rest (test a) (among_from (a + 1) n k (omega (arith, from, other)) (omega (arith, below)) passes))
      (cases_eq a k)

among_locks : (shape : Shape) (lock : DomainId) → IsTrue (is_lock shape lock) → Among lock (locks_of shape)
among_locks shape lock is =
    let number : ℕ = lock_number shape lock in
    let named : lock_named shape number ≡ lock = named_by_number shape lock is in
    subst (λ (l : DomainId). Among l (locks_of shape)) named
    (among_from (λ k. is_lock shape (lock_named shape k)) (lock_named shape) 0 (lock_count shape) number (omega arith) (let within = number_within shape lock is in omega (arith, within)) (ap (is_lock shape) named ∙ is))

among_fit : (Fits : DomainId → Type 0) (lock : DomainId) (ls : List DomainId) → AllFit Fits ls → Among lock ls → Fits lock
among_fit Fits lock [] fit there = absurd there
among_fit Fits lock (other ∷ more) fit (inl is) = subst Fits is fit.0
among_fit Fits lock (other ∷ more) fit (inr there) = among_fit Fits lock more fit.1 there

-- All locks

module _ (finals : Finals) (lies : DomainId → Content) where
  abbrev form : DomainId → Lies
  form lock = record { lock = lock; content = lying_of (lies lock) }

  told_at : (lock : DomainId) (ls : List DomainId) → AreTold finals (map form ls) → Among lock ls → Tells finals lock (lies lock)
  told_at lock [] told there = absurd there
  told_at lock (other ∷ more) told (inl is) = subst (λ (l : DomainId). Tells finals l (lies l)) is ((form_tells finals other (lies other)).0 told.0)
  told_at lock (other ∷ more) told (inr there) = told_at lock more told.1 there

  told_from : (ls : List DomainId) → ((lock : DomainId) → Among lock ls → Tells finals lock (lies lock)) → AreTold finals (map form ls)
  told_from [] each = tt
  told_from (lock ∷ more) each = ((form_tells finals lock (lies lock)).1 (each lock (inl refl)), told_from more (λ l there. each l (inr there)))

pub all_tell : AllTell
all_tell shape kept =
    let lies : DomainId → Content = λ lock. content shape lock (entries_of kept.histories lock) in (
      λ told lock is. told_at kept.finals lies lock (locks_of shape) told (among_locks shape lock is),
      λ each. told_from kept.finals lies (locks_of shape) (λ lock there. each lock (among_fit (λ (l : DomainId). is_lock shape l ≡ true) lock (locks_of shape) (locks_are shape) there)),
    )

-- Spares

within_some : (xs : List ℕ) (i : ℕ) → i < length xs → slice_get xs i ≡ None → ⊥
within_some [] i less none = absurd (omega (arith, less))
within_some (x ∷ xs) zero less none = absurd (none-some x (sym none))
within_some (x ∷ xs) (suc i) less none = within_some xs i (omega (arith, less)) none

past_none : (xs : List ℕ) (i : ℕ) → length xs ≤ i → slice_get xs i ≡ None
past_none [] i past = refl
past_none (x ∷ xs) zero past = absurd (omega (arith, past))
past_none (x ∷ xs) (suc i) past = past_none xs i (omega (arith, past))

pub few_left : (finals : Finals) (left : List (Option ℕ)) → length left < length finals.spares → SparesTold finals left → ⊥
few_left finals left few told =
    within_some finals.spares (length left) few (sym (told (length left)) ∙ get_or-eq_default left None (let same : length left ≤ length left = omega arith in same))

pub all_left : (finals : Finals) (left : List (Option ℕ)) → length finals.spares ≤ length left
    → ((c : ℕ) → c < length left → get_or left c None ≡ slice_get finals.spares c) → SparesTold finals left
all_left finals left enough each cpu = ⊎_elim
    (λ (less : cpu < length left). each cpu less)
    (λ (past : length left ≤ cpu). get_or-eq_default left None past ∙ sym (past_none finals.spares cpu (omega (arith, enough, past))))
    (cases_lt cpu (length left))
