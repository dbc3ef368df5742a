-- A state of the core in the middle of a race: which elements lie in each bucket, by counts, and what lies under each other lock;
-- and what each step makes of that, whoever holds the locks.
use Rattle.std.proofs.Common.{◌≡◌, ◌≢◌, ℕ, ◌+◌, ◌≤◌, Bool, true, false, ◌&&◌, eqb, ltb, List, [], ◌∷◌, None, refl, ap, ◌∙◌, sym, subst, ⊎_elim, arith}
use Rattle.std.specs.Prelude.{IsTrue}
use Rattle.std.proofs.lemmas.Bool.{cases_Bool, cond-true, cond-false, eqb-true, eq-eqb, true≢false}
use Rattle.map_types.specs.declared.attr.Shape.{Shape}
use Rattle.map_types.specs.declared.kind.DomainId.{DomainId}
use Rattle.map_types.specs.declared.kind.DomainId.TheVariants.{Bucket}
use Rattle.map_types.specs.Shape.{HasBounds}
use Rattle.map_types.specs.ElementLists.{put, one, times, without, IsIn}
use Rattle.map_types.proofs.RowLemmas.{times_append, by_test}
use Rattle.place_words.specs.Locks.{is_lock, lock_number, lock_named, is_same_lock}
use Rattle.place_words.proofs.BucketLaws.{times_more}
use Rattle.place_words.proofs.LockLemmas.{named_by_number, same_lock, one_lock}
use Rattle.place_words.specs.declared.step.Lists.{Lists}
use Rattle.place_words.specs.declared.step.Step.TheVariants as steps
use Rattle.place_words.specs.Places.{Placed, has_row, lies_at}
use Rattle.map_types.specs.Kind.{is_lru}
use Rattle.place_words.specs.State.{State, rows, is_bucket, HasOnlyItsLists, HasCursorInside}
use Rattle.place_words.specs.Steps.{IsEnabled, after, lists_under, with_row, without_row, with_free, without_free}
use Rattle.place_words.proofs.ElementLemmas.{put_here, put_else, times_cons_same, times_cons_other, times_without_same, times_without_other}
use Rattle.place_words.proofs.StepLaws.{step_keeps_places}
use Rattle.core_runs.proofs.Ties.{with_lists}
use Rattle.core_runs.specs.Words.{GivesLists}

-- In each bucket lies what lay there at first, without what left it since and with what came; under another lock lie these lists.
pub record Fits (shape : Shape) (base out ins : ℕ → List ℕ) (lists : DomainId → Lists) (s : State) : Type 0 where
  pub placed : Placed shape s
  pub chains : (b : ℕ) → IsTrue (is_lock shape (Bucket b)) → (e : ℕ) → times e (lists_under shape s (Bucket b)).first + times e (out b) ≡ times e (base b) + times e (ins b)
  pub others : (lock : DomainId) → IsTrue (is_lock shape lock) → is_bucket lock ≡ false → lists_under shape s lock ≡ lists lock

pub number_apart : (shape : Shape) (a b : DomainId) → IsTrue (is_lock shape a) → IsTrue (is_lock shape b) → a ≢ b → lock_number shape a ≢ lock_number shape b
number_apart shape a b is_a is_b apart same = apart (sym (named_by_number shape a is_a) ∙ ap (lock_named shape) same ∙ named_by_number shape b is_b)

pub bucket_apart : (b c : ℕ) → b ≢ c → Bucket b ≢ Bucket c
bucket_apart b c apart same = apart (ap number same)
  where
    number : DomainId → ℕ
    number (Bucket n) = n
    number _ = 0

pub other_sort : (b : ℕ) (lock : DomainId) → is_bucket lock ≡ false → Bucket b ≢ lock
other_sort b lock list same = true≢false (ap is_bucket same ∙ list)

one_at_most : (b : Bool) → one b ≤ 1
one_at_most true = omega arith
one_at_most false = omega arith

left : (x e : ℕ) (xs : List ℕ) → times e xs ≤ 1 → IsIn e xs → times x (without e xs) + times x (e ∷ []) ≡ times x xs
left x e xs once inside =
    ⊎_elim
    (λ (same : eqb x e ≡ true). subst (λ (y : ℕ). times y (without e xs) + times y (e ∷ []) ≡ times y xs) (sym (eqb-true x e same)) (omega (arith, times_without_same e xs, times_cons_same e [], once, inside)))
    (λ (differs : eqb x e ≡ false).
    let apart : x ≢ e = λ is. true≢false (sym (eq-eqb x e is) ∙ differs) in
    omega (arith, times_without_other x e xs apart, times_cons_other x e [] apart))
    (cases_Bool (eqb x e))

module _ {shape : Shape} {base out ins : ℕ → List ℕ} {lists : DomainId → Lists} {s : State} (fits : Fits shape base out ins lists s) where
  -- other lists under a bucket's lock
  pub chain_changes : (b : ℕ) → IsTrue (is_lock shape (Bucket b)) → (new : Lists) (base' out' ins' : ℕ → List ℕ) (t : State) → Placed shape t → t.lists ≡ put s.lists (lock_number shape (Bucket b)) new
      → ((e : ℕ) → times e new.first + times e (out' b) ≡ times e (base' b) + times e (ins' b)) → ((c : ℕ) → c ≢ b → (base' c ≡ base c) × (out' c ≡ out c) × (ins' c ≡ ins c)) → Fits shape base' out' ins' lists t
  chain_changes b is new base' out' ins' t placed lists_are here else_ = record {
    placed = placed;
    chains = λ c is_c e. by_test c b (λ _. times e (lists_under shape t (Bucket c)).first + times e (out' c) ≡ times e (base' c) + times e (ins' c))
        (λ same. subst (λ (d : ℕ). times e (lists_under shape t (Bucket d)).first + times e (out' d) ≡ times e (base' d) + times e (ins' d)) (sym same)
        (ap (λ (l : Lists). times e l.first + times e (out' b)) (ap (λ (f : ℕ → Lists). f (lock_number shape (Bucket b))) lists_are ∙ put_here s.lists (lock_number shape (Bucket b)) new) ∙ here e))
        (λ apart.
        let same : t.lists (lock_number shape (Bucket c)) ≡ s.lists (lock_number shape (Bucket c)) =
        ap (λ (f : ℕ → Lists). f (lock_number shape (Bucket c))) lists_are ∙ put_else s.lists (lock_number shape (Bucket b)) new (lock_number shape (Bucket c)) (number_apart shape (Bucket c) (Bucket b) is_c is (bucket_apart c b apart)) in
        let kept = else_ c apart in
        omega (arith, ap (λ (l : Lists). times e l.first) same, ap (times e) kept.0, ap (times e) kept.1, ap (times e) kept.2, fits.chains c is_c e));
    others = λ lock is_l list. ap (λ (f : ℕ → Lists). f (lock_number shape lock)) lists_are
        ∙ put_else s.lists (lock_number shape (Bucket b)) new (lock_number shape lock) (number_apart shape lock (Bucket b) is_l is (λ same. other_sort b lock list (sym same))) ∙ fits.others lock is_l list;
  }

  -- other lists under another lock
  pub list_changes : (lock : DomainId) → IsTrue (is_lock shape lock) → is_bucket lock ≡ false → (new : Lists) (t : State) → Placed shape t → t.lists ≡ put s.lists (lock_number shape lock) new
      → Fits shape base out ins (with_lists lock new lists) t
  list_changes lock is list new t placed lists_are = record {
    placed = placed;
    chains = λ c is_c e.
        let same : t.lists (lock_number shape (Bucket c)) ≡ s.lists (lock_number shape (Bucket c)) =
        ap (λ (f : ℕ → Lists). f (lock_number shape (Bucket c))) lists_are ∙ put_else s.lists (lock_number shape lock) new (lock_number shape (Bucket c)) (number_apart shape (Bucket c) lock is_c is (other_sort c lock list)) in
        omega (arith, ap (λ (l : Lists). times e l.first) same, fits.chains c is_c e);
    others = λ other is_o list_o.
        ⊎_elim
        (λ (same : is_same_lock lock other ≡ true).
        subst (λ (o : DomainId). lists_under shape t o ≡ with_lists lock new lists o) (one_lock lock other same)
        (ap (λ (f : ℕ → Lists). f (lock_number shape lock)) lists_are ∙ put_here s.lists (lock_number shape lock) new ∙ sym (cond-true (is_same_lock lock lock) new (lists lock) (same_lock lock))))
        (λ (differs : is_same_lock lock other ≡ false).
        ap (λ (f : ℕ → Lists). f (lock_number shape other)) lists_are
        ∙ put_else s.lists (lock_number shape lock) new (lock_number shape other) (number_apart shape other lock is_o is (λ same. true≢false (sym (subst (λ (o : DomainId). is_same_lock lock o ≡ true) (sym same) (same_lock lock)) ∙ differs)))
        ∙ fits.others other is_o list_o ∙ sym (cond-false (is_same_lock lock other) new (lists other) differs))
        (cases_Bool (is_same_lock lock other));
  }

  -- only other words
  pub lists_stay : (t : State) → Placed shape t → t.lists ≡ s.lists → Fits shape base out ins lists t
  lists_stay t placed same = record {
    placed = placed;
    chains = λ c is_c e. ap (λ (f : ℕ → Lists). times e (f (lock_number shape (Bucket c))).first + times e (out c)) same ∙ fits.chains c is_c e;
    others = λ lock is list. ap (λ (f : ℕ → Lists). f (lock_number shape lock)) same ∙ fits.others lock is list;
  }

  pub fits_alike : (base' out' ins' : ℕ → List ℕ) (lists' : DomainId → Lists) → ((b : ℕ) → base b ≡ base' b) → ((b : ℕ) → out b ≡ out' b) → ((b : ℕ) → ins b ≡ ins' b) → ((lock : DomainId) → is_bucket lock ≡ false → lists lock ≡ lists' lock) → Fits shape base' out' ins' lists' s
  fits_alike base' out' ins' lists' bases outs inss alike = record {
    placed = fits.placed;
    chains = λ c is_c e. omega (arith, fits.chains c is_c e, ap (times e) (bases c), ap (times e) (outs c), ap (times e) (inss c));
    others = λ lock is list. fits.others lock is list ∙ alike lock list;
  }

  -- an element is in a bucket once at most
  once : (b e : ℕ) → times e (lists_under shape s (Bucket b)).first ≤ 1
  once b e =
      let k : ℕ = lock_number shape (Bucket b) in
      omega (arith, fits.placed.placed.rows k e, one_at_most (ltb e shape.elements && has_row (is_lru shape.kind) (lock_named shape k) (s.owner e) (lies_at k (fits.placed.place e))), times_append e (s.lists k).first (s.lists k).second)

  module _ (bounds : HasBounds shape) where
    pub take_fits : (cpu : ℕ) (lock : DomainId) → IsEnabled shape s (steps.Take cpu lock) → Fits shape base out ins lists (after shape s (steps.Take cpu lock))
    take_fits cpu lock can = lists_stay (after shape s (steps.Take cpu lock)) (step_keeps_places shape s (steps.Take cpu lock) bounds can fits.placed) refl

    pub attach_fits : (cpu e b : ℕ) → IsTrue (is_lock shape (Bucket b)) → IsEnabled shape s (steps.Attach cpu e b) → Fits shape base out (put ins b (e ∷ ins b)) lists (after shape s (steps.Attach cpu e b))
    attach_fits cpu e b is can =
        chain_changes b is (with_row (Bucket b) e (lists_under shape s (Bucket b))) base out (put ins b (e ∷ ins b)) (after shape s (steps.Attach cpu e b)) (step_keeps_places shape s (steps.Attach cpu e b) bounds can fits.placed) refl
        (λ x. omega (arith, fits.chains b is x, ap (times x) (put_here ins b (e ∷ ins b)), times_more x e (ins b), times_more x e (lists_under shape s (Bucket b)).first))
        (λ c apart. (refl, refl, put_else ins b (e ∷ ins b) c apart))

    pub detach_fits : (cpu e b : ℕ) → IsTrue (is_lock shape (Bucket b)) → IsEnabled shape s (steps.Detach cpu e b) → Fits shape base (put out b (e ∷ out b)) ins lists (after shape s (steps.Detach cpu e b))
    detach_fits cpu e b is can =
        let first : List ℕ = (lists_under shape s (Bucket b)).first in
        chain_changes b is (without_row e (lists_under shape s (Bucket b))) base (put out b (e ∷ out b)) ins (after shape s (steps.Detach cpu e b)) (step_keeps_places shape s (steps.Detach cpu e b) bounds can fits.placed) refl
        (λ x. omega (arith, fits.chains b is x, ap (times x) (put_here out b (e ∷ out b)), times_more x e (out b), left x e first (once b e) can.inside))
        (λ c apart. (refl, put_else out b (e ∷ out b) c apart, refl))

    pub settle_fits : (cpu e : ℕ) (lock : DomainId) (new : Lists) → IsTrue (is_lock shape lock) → is_bucket lock ≡ false → with_free e (without_row e (lists lock)) ≡ new → IsEnabled shape s (steps.Settle cpu e lock)
        → Fits shape base out ins (with_lists lock new lists) (after shape s (steps.Settle cpu e lock))
    settle_fits cpu e lock new is list made can =
        list_changes lock is list new (after shape s (steps.Settle cpu e lock)) (step_keeps_places shape s (steps.Settle cpu e lock) bounds can fits.placed)
        (ap (put s.lists (lock_number shape lock)) (ap (λ (l : Lists). with_free e (without_row e l)) (fits.others lock is list) ∙ made))

    pub claim_fits : (cpu e : ℕ) (lock : DomainId) (new : Lists) → IsTrue (is_lock shape lock) → is_bucket lock ≡ false → with_row lock e (without_free e (lists lock)) ≡ new → IsEnabled shape s (steps.Claim cpu e lock)
        → Fits shape base out ins (with_lists lock new lists) (after shape s (steps.Claim cpu e lock))
    claim_fits cpu e lock new is list made can =
        list_changes lock is list new (after shape s (steps.Claim cpu e lock)) (step_keeps_places shape s (steps.Claim cpu e lock) bounds can fits.placed)
        (ap (put s.lists (lock_number shape lock)) (ap (λ (l : Lists). with_row lock e (without_free e l)) (fits.others lock is list) ∙ made))

    pub give_list_fits : (cpu : ℕ) (lock : DomainId) (new : Lists) → IsTrue (is_lock shape lock) → is_bucket lock ≡ false → IsEnabled shape s (steps.Give cpu lock new)
        → Fits shape base out ins (with_lists lock new lists) (after shape s (steps.Give cpu lock new))
    give_list_fits cpu lock new is list can = list_changes lock is list new (after shape s (steps.Give cpu lock new)) (step_keeps_places shape s (steps.Give cpu lock new) bounds can fits.placed) refl

    pub give_bucket_fits : (cpu b : ℕ) (new : Lists) → IsTrue (is_lock shape (Bucket b)) → IsEnabled shape s (steps.Give cpu (Bucket b) new)
        → Fits shape (put base b new.first) (put out b []) (put ins b []) lists (after shape s (steps.Give cpu (Bucket b) new))
    give_bucket_fits cpu b new is can =
        chain_changes b is new (put base b new.first) (put out b []) (put ins b []) (after shape s (steps.Give cpu (Bucket b) new)) (step_keeps_places shape s (steps.Give cpu (Bucket b) new) bounds can fits.placed) refl
        (λ x. omega (arith, ap (times x) (put_here base b new.first), ap (times x) (put_here out b []), ap (times x) (put_here ins b [])))
        (λ c apart. (put_else base b new.first c apart, put_else out b [] c apart, put_else ins b [] c apart))

    -- what a bucket is given back as, by counts
    pub gives_bucket : (b : ℕ) (first : List ℕ) → IsTrue (is_lock shape (Bucket b)) → ((e : ℕ) → times e first + times e (out b) ≡ times e (base b) + times e (ins b))
        → GivesLists shape s (Bucket b) (record { free = []; first = first; second = []; cursor = None })
    gives_bucket b first is counts =
        let fit : HasOnlyItsLists (Bucket b) (lists_under shape s (Bucket b)) =
        subst (λ (l : DomainId). HasOnlyItsLists l (lists_under shape s (Bucket b))) (named_by_number shape (Bucket b) is) (fits.placed.placed.fit (lock_number shape (Bucket b))) in
        record {
          fit = (refl, refl);
          same_free = λ e. ap (times e) (sym fit.0);
          same_rows = λ e. omega (arith, counts e, fits.chains b is e, times_append e first [], times_append e (lists_under shape s (Bucket b)).first (lists_under shape s (Bucket b)).second, ap (times e) fit.1);
          cursor = tt;
        }

    -- lists that are given back as they are
    pub gives_same : (lock : DomainId) (new : Lists) → IsTrue (is_lock shape lock) → is_bucket lock ≡ false → lists lock ≡ new → GivesLists shape s lock new
    gives_same lock new is list same =
        let at : lists_under shape s lock ≡ new = fits.others lock is list ∙ same in
        record {
          fit = subst (HasOnlyItsLists lock) at (subst (λ (l : DomainId). HasOnlyItsLists l (lists_under shape s lock)) (named_by_number shape lock is) (fits.placed.placed.fit (lock_number shape lock)));
          same_free = λ e. ap (λ (l : Lists). times e l.free) (sym at);
          same_rows = λ e. ap (λ (l : Lists). times e (rows l)) (sym at);
          cursor = subst HasCursorInside at (fits.placed.placed.cursors (lock_number shape lock));
        }
