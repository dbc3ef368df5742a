-- A turn of a list lock between settled contents: one with its probes that gives an element out or none, and one that frees an
-- element that was in hand.
use Rattle.std.proofs.Common.{◌≡◌, ◌≢◌, ◌⊎◌, ℕ, zero, suc, ◌+◌, ◌<◌, ◌≤◌, Bool, true, false, cond, eqb, List, [], ◌∷◌, ◌++◌, refl, ap, ◌∙◌, sym, subst, ⊎_elim, arith}
use Rattle.std.proofs.lemmas.Bool.{cases_lt, cases_eq, eq-eqb, ne_eqb}
use Rattle.map_types.specs.declared.attr.Shape.{Shape}
use Rattle.map_types.specs.declared.kind.DomainId.{DomainId}
use Rattle.map_types.specs.declared.kind.DomainId.TheVariants.{Bucket}
use Rattle.map_types.specs.ElementLists.{times, one}
use Rattle.map_types.specs.Listed.{elements_of}
use Rattle.map_types.proofs.RowLemmas.{by_test, times_append}
use Rattle.key_hash.specs.Bucket.{bucket_number}
use Rattle.place_words.specs.declared.history.Part.{Part}
use Rattle.place_words.specs.declared.visits.Try.{Try}
use Rattle.place_words.specs.Bodies.{numbers}
use Rattle.place_words.specs.Histories.{Content, Allows, content_after, in_bucket, on_freelist, in_locals, in_global, in_own}
use Rattle.place_words.specs.Locks.{is_same_lock}
use Rattle.place_words.specs.Moves.{brought, taken, MovesNothing}
use Rattle.place_words.specs.RowMoves.{rows_of, new_rows, rows_gone, IsOnce}
use Rattle.place_words.specs.Takings.{listed_rows, rows_brought}
use Rattle.place_words.specs.Turns.{Turn, on_lock, after_turn, after_turns}
use Rattle.place_words.proofs.BucketLaws.{times_more}
use Rattle.place_words.proofs.ChaseDone.{names_of, IsChasing, one_row, times_one, times_other}
use Rattle.place_words.proofs.KeepLaws.{keeps_elements, keeps_rows}
use Rattle.place_words.proofs.ListSums.{list_locks, how_often, sum_over, sum_once, others_stay, others_fewer}
use Rattle.place_words.proofs.LockLemmas.{same_lock, one_lock}
use Rattle.place_words.proofs.RowCounts.{any, rows_append, rows_any, rows_least}
use Rattle.place_words.proofs.Settled.{bodies_at, bodies_in, is_of, elements_on, rows_on, on_lists, listed, held, IsFit, IsSettled, once_on, turned_here, turned_elsewhere}

-- listed rows are of elements that lie there
pub rows_fewer : (e : ℕ) (of : ℕ → Bool) (content : Content) → rows_on e of content ≤ elements_on e content
rows_fewer e of (in_bucket bodies) = omega arith
rows_fewer e of (on_freelist stack) = omega arith
rows_fewer e of (in_locals lists) = omega (arith, times_append e lists.free (elements_of lists.pending), rows_least e of lists.pending)
rows_fewer e of (in_global set) =
    omega (arith, times_append e set.free (elements_of set.lists.active ++ elements_of set.lists.inactive), times_append e (elements_of set.lists.active) (elements_of set.lists.inactive), rows_append e of set.lists.active set.lists.inactive, rows_least e of set.lists.active, rows_least e of set.lists.inactive)
rows_fewer e of (in_own set) =
    omega (arith, times_append e set.free (elements_of set.lists.active ++ elements_of set.lists.inactive), times_append e (elements_of set.lists.active) (elements_of set.lists.inactive), rows_append e of set.lists.active set.lists.inactive, rows_least e of set.lists.active, rows_least e of set.lists.inactive)

pub rows_fewest : (e : ℕ) (of : ℕ → Bool) (content : Content) → rows_on e of content ≤ rows_on e any content
rows_fewest e of content = omega (arith, rows_least e of (listed_rows content), rows_any e (listed_rows content))

-- a lock that is not a bucket's
abbrev pub IsNoBucket : DomainId → Type 0
IsNoBucket lock = (bucket : ℕ) → (is_same_lock (Bucket bucket) lock ≡ false) × (is_same_lock lock (Bucket bucket) ≡ false)

-- what is left where some may be gone
pub none_gone : (n rows more given after : ℕ) → after ≡ cond (eqb n 0) (rows + more) 0 + given → more ≡ 0 → n ≡ 0 → after ≡ rows + given
none_gone zero rows more given after is no_more none = omega (arith, is, no_more)
none_gone (suc n) rows more given after is no_more none = absurd (omega (arith, none))

pub all_gone : (n rows given after : ℕ) → after ≡ cond (eqb n 0) rows 0 + given → 1 ≤ n → after ≡ given
all_gone zero rows given after is some = absurd (omega (arith, some))
all_gone (suc n) rows given after is some =
    let last : cond (eqb (suc n) 0) rows 0 ≡ 0 = ap (λ (b : Bool). cond b rows 0) (ne_eqb (suc n) 0 (λ same. omega (arith, same))) in omega (arith, is, last)

module _ (shape : Shape) (cpu : ℕ) (mid : DomainId → Content) (lock : DomainId) (part : Part) (stands : how_often lock (list_locks shape) ≡ 1) where
  abbrev now : DomainId → Content
  now = after_turn shape cpu mid (on_lock lock part)

  pub now_here : now lock ≡ content_after shape cpu part (mid lock)
  now_here = turned_here shape cpu mid (on_lock lock part) lock (same_lock lock)

  pub now_elsewhere : (other : DomainId) → is_same_lock lock other ≡ false → now other ≡ mid other
  now_elsewhere other apart = turned_elsewhere shape cpu mid (on_lock lock part) other apart

  pub sum_now : (f : Content → ℕ) → sum_over f now (list_locks shape) + f (mid lock) ≡ sum_over f mid (list_locks shape) + f (now lock)
  sum_now f =
      omega (
        arith,
        sum_once f now lock (list_locks shape) stands,
        sum_once f mid lock (list_locks shape) stands,
        others_stay f mid now lock (λ other apart. sym (now_elsewhere other apart)) (list_locks shape),
      )

  pub part_of : (f : Content → ℕ) → f (mid lock) ≤ sum_over f mid (list_locks shape)
  part_of f = omega (arith, sum_once f mid lock (list_locks shape) stands)

  -- where an element is listed there, it is listed nowhere else
  pub all_there : (e : ℕ) (of : ℕ → Bool) → 1 ≤ rows_on e any (mid lock) → on_lists shape mid e ≤ 1 → listed shape mid e of ≡ rows_on e of (mid lock)
  all_there e of some most =
      omega (
        arith,
        sum_once (rows_on e of) mid lock (list_locks shape) stands,
        sum_once (elements_on e) mid lock (list_locks shape) stands,
        rows_fewer e any (mid lock),
        others_fewer (rows_on e of) (elements_on e) mid lock (rows_fewer e of) (list_locks shape),
        some,
        most,
      )

  pub fit_now : ((other : DomainId) → IsFit shape other (mid other)) → IsFit shape lock (content_after shape cpu part (mid lock)) → (other : DomainId) → IsFit shape other (now other)
  fit_now fit here other = by (is_same_lock lock other) refl
    where
      by : (b : Bool) → is_same_lock lock other ≡ b → IsFit shape other (now other)
      by true is = subst (λ (l : DomainId). IsFit shape l (now l)) (one_lock lock other is) (subst (IsFit shape lock) (sym now_here) here)
      by false is = subst (IsFit shape other) (sym (now_elsewhere other is)) (fit other)

module _ (shape : Shape) (cpu : ℕ) (contents : DomainId → Content) (home : ℕ) (lock : DomainId) (part : Part) (stands : how_often lock (list_locks shape) ≡ 1) (apart : IsNoBucket lock) (may : Allows shape cpu part (contents lock)) (moves : MovesNothing part) where
  once_here : {hand : List ℕ} → IsSettled shape contents home hand → IsOnce (contents lock)
  once_here settled e = omega (arith, part_of shape cpu contents lock part stands (elements_on e), once_on settled e)

  -- A turn with its probes gives out what it gives a new row, from the bucket of that row's hash.
  module _ (probes : List Try) (turns : List Turn) (given : List ℕ) (settled : IsSettled shape contents home []) (chasing : IsChasing shape cpu (listed_rows (contents lock)) contents probes turns) where
    abbrev chased_to : DomainId → Content
    chased_to = after_turns shape cpu contents turns

    same_there : chased_to lock ≡ contents lock
    same_there = chasing.elsewhere lock (λ bucket. (apart bucket).0)

    given_sum : (f : Content → ℕ) → sum_over f (after_turn shape cpu chased_to (on_lock lock part)) (list_locks shape) + f (contents lock) ≡ sum_over f contents (list_locks shape) + f (content_after shape cpu part (contents lock))
    given_sum f =
        let here : f (after_turn shape cpu chased_to (on_lock lock part) lock) ≡ f (content_after shape cpu part (contents lock)) =
        ap f (now_here shape cpu chased_to lock part stands ∙ ap (content_after shape cpu part) same_there) in
        omega (arith, sum_now shape cpu chased_to lock part stands f, chasing.lists f, ap f same_there, here)

    pub turn_gives : ((e : ℕ) (of : ℕ → Bool) → rows_of e of (rows_brought part) ≡ 0) → ((e : ℕ) → times e (rows_gone part) ≡ times e (names_of probes))
        → ((e bucket : ℕ) → rows_of e (is_of shape bucket) (new_rows part) ≡ held home given e bucket) → IsFit shape lock (content_after shape cpu part (contents lock))
        → IsSettled shape (after_turn shape cpu chased_to (on_lock lock part)) home given
    turn_gives brings goes gives fits = record {
      fit = fit_now shape cpu chased_to lock part stands chasing.fit (subst (λ (content : Content). IsFit shape lock (content_after shape cpu part content)) (sym same_there) fits);
      once = λ e.
          let kept = keeps_elements shape cpu part (contents lock) may (once_here settled) e in
          let none_brought : times e (brought part) ≡ 0 = ap (times e) moves.0 in
          let none_taken : times e (taken part) ≡ 0 = ap (times e) moves.1 in
          let same : on_lists shape (after_turn shape cpu chased_to (on_lock lock part)) e ≡ on_lists shape contents e = omega (arith, kept, none_brought, none_taken, given_sum (elements_on e)) in
          same ∙ settled.once e;
      placed = λ e bucket.
          at e bucket (cases_lt 0 (times e (names_of probes)));
    }
      where
        at : (e bucket : ℕ) → (0 < times e (names_of probes)) ⊎ (times e (names_of probes) ≤ 0)
            → times e (numbers (bodies_at (after_turn shape cpu chased_to (on_lock lock part)) bucket)) + held home given e bucket ≡ listed shape (after_turn shape cpu chased_to (on_lock lock part)) e (is_of shape bucket)
        at e bucket which =
            let bodies_same : times e (numbers (bodies_at (after_turn shape cpu chased_to (on_lock lock part)) bucket)) ≡ times e (numbers (bodies_at chased_to bucket)) =
            ap (λ (content : Content). times e (numbers (bodies_in content))) (now_elsewhere shape cpu chased_to lock part stands (Bucket bucket) (apart bucket).1) in
            let rows_then = keeps_rows shape cpu part (contents lock) may (once_here settled) e (is_of shape bucket) in
            let no_more = brings e (is_of shape bucket) in
            let was = settled.placed e bucket in
            let empty : held home [] e bucket ≡ 0 = none_held (eqb home bucket) in
            ⊎_elim
            (λ (some : 0 < times e (names_of probes)).
            let left = all_gone (times e (rows_gone part)) _ _ _ rows_then (omega (arith, some, goes e)) in
            omega (arith, bodies_same, left, chasing.gone e bucket some, given_sum (rows_on e (is_of shape bucket)), was, empty, gives e bucket))
            (λ (none : times e (names_of probes) ≤ 0).
            let left = none_gone (times e (rows_gone part)) _ _ _ _ rows_then no_more (omega (arith, none, goes e)) in
            omega (arith, bodies_same, left, chasing.kept e bucket (omega (arith, none)), given_sum (rows_on e (is_of shape bucket)), was, empty, gives e bucket))
            which
          where
            none_held : (b : Bool) → cond b 0 0 ≡ zero
            none_held true = refl
            none_held false = refl

  -- A push frees one element that was in hand and is listed there.
  module _ (e : ℕ) (hand : List ℕ) (settled : IsSettled shape contents home (e ∷ hand)) (goes : (x : ℕ) → times x (rows_gone part) ≡ times x (e ∷ [])) (gives : (x : ℕ) (of : ℕ → Bool) → rows_of x of (new_rows part) ≡ 0) (brings : (x : ℕ) (of : ℕ → Bool) → rows_of x of (rows_brought part) ≡ 0) (there : 1 ≤ rows_on e any (contents lock)) where
    abbrev freed_to : DomainId → Content
    freed_to = after_turn shape cpu contents (on_lock lock part)

    freed_sum : (f : Content → ℕ) → sum_over f freed_to (list_locks shape) + f (contents lock) ≡ sum_over f contents (list_locks shape) + f (content_after shape cpu part (contents lock))
    freed_sum f = omega (arith, sum_now shape cpu contents lock part stands f, ap f (now_here shape cpu contents lock part stands))

    -- its only row
    its_row : (of : ℕ → Bool) → listed shape contents e of ≡ rows_on e of (contents lock)
    its_row of = all_there shape cpu contents lock part stands e of there (once_on settled e)

    bodies_still : (x bucket : ℕ) → times x (numbers (bodies_at freed_to bucket)) ≡ times x (numbers (bodies_at contents bucket))
    bodies_still x bucket = ap (λ (content : Content). times x (numbers (bodies_in content))) (now_elsewhere shape cpu contents lock part stands (Bucket bucket) (apart bucket).1)

    other_placed : (x bucket : ℕ) → e ≢ x → times x (numbers (bodies_at freed_to bucket)) + held home hand x bucket ≡ listed shape freed_to x (is_of shape bucket)
    other_placed x bucket other =
        let rows_then = keeps_rows shape cpu part (contents lock) may (once_here settled) x (is_of shape bucket) in
        let none : times x (rows_gone part) ≡ 0 = goes x ∙ times_other x e other in
        let left = none_gone (times x (rows_gone part)) _ _ _ _ rows_then (brings x (is_of shape bucket)) none in
        let hands : held home (e ∷ hand) x bucket ≡ held home hand x bucket = ap (λ n. cond (eqb home bucket) n 0) (let out : times x (e ∷ hand) ≡ times x hand = omega (arith, times_more x e hand, times_other x e other) in out) in
        omega (arith, bodies_still x bucket, left, gives x (is_of shape bucket), freed_sum (rows_on x (is_of shape bucket)), settled.placed x bucket, hands)

    -- the bucket of its row is that from which it was in hand
    own_placed : (bucket : ℕ) → times e (numbers (bodies_at freed_to bucket)) + held home hand e bucket ≡ listed shape freed_to e (is_of shape bucket)
    own_placed bucket =
        let once_rows : rows_on e any (contents lock) ≡ 1 = omega (arith, there, rows_fewer e any (contents lock), once_here settled e) in
        let row = one_row e (listed_rows (contents lock)) once_rows in
        let here : (other : ℕ) → listed shape contents e (is_of shape other) ≡ one (eqb (bucket_number row.0 shape.buckets) other) = λ other. its_row (is_of shape other) ∙ row.2 (is_of shape other) in
        let rows_then = keeps_rows shape cpu part (contents lock) may (once_here settled) e (is_of shape bucket) in
        let left = all_gone (times e (rows_gone part)) _ _ _ rows_then (omega (arith, goes e, times_one e)) in
        let gone : listed shape freed_to e (is_of shape bucket) ≡ 0 = omega (arith, left, gives e (is_of shape bucket), freed_sum (rows_on e (is_of shape bucket)), its_row (is_of shape bucket)) in
        let in_home : held home (e ∷ hand) e home ≡ suc (times e hand) = ap (λ (b : Bool). cond b (times e (e ∷ hand)) 0) (eq-eqb home home refl) ∙ omega (arith, times_more e e hand, times_one e) in
        let is_home = counted (bucket_number row.0 shape.buckets) (here home) (settled.placed e home) in_home in
        let none : times e (numbers (bodies_at contents bucket)) + held home hand e bucket ≡ 0 = left_none bucket is_home.1 (subst (λ b. listed shape contents e (is_of shape bucket) ≡ one (eqb b bucket)) is_home.0 (here bucket)) (settled.placed e bucket) in
        omega (arith, gone, none, bodies_still e bucket)
      where
        counted : (at : ℕ) → listed shape contents e (is_of shape home) ≡ one (eqb at home) → times e (numbers (bodies_at contents home)) + held home (e ∷ hand) e home ≡ listed shape contents e (is_of shape home) → held home (e ∷ hand) e home ≡ suc (times e hand)
            → (at ≡ home) × (times e hand ≡ 0)
        counted at is was in_hand =
            by_test at home (λ b. listed shape contents e (is_of shape home) ≡ one b → (at ≡ home) × (times e hand ≡ 0))
            (λ same one_there. (same, omega (arith, one_there, was, in_hand)))
            (λ other none_there. absurd (omega (arith, none_there, was, in_hand)))
            is

        left_none : (bucket : ℕ) → times e hand ≡ 0 → listed shape contents e (is_of shape bucket) ≡ one (eqb home bucket) → times e (numbers (bodies_at contents bucket)) + held home (e ∷ hand) e bucket ≡ listed shape contents e (is_of shape bucket)
            → times e (numbers (bodies_at contents bucket)) + held home hand e bucket ≡ 0
        left_none bucket no_other is was =
            let more : times e (e ∷ hand) ≡ suc (times e hand) = omega (arith, times_more e e hand, times_one e) in
            at (eqb home bucket) more is was
          where
            at : (b : Bool) → times e (e ∷ hand) ≡ suc (times e hand) → listed shape contents e (is_of shape bucket) ≡ one b → times e (numbers (bodies_at contents bucket)) + cond b (times e (e ∷ hand)) 0 ≡ listed shape contents e (is_of shape bucket)
                → times e (numbers (bodies_at contents bucket)) + cond b (times e hand) 0 ≡ 0
            at true more now_is then = omega (arith, more, now_is, then, no_other)
            at false more now_is then = omega (arith, now_is, then)

    pub push_frees : IsFit shape lock (content_after shape cpu part (contents lock)) → IsSettled shape freed_to home hand
    push_frees fits = record {
      fit = fit_now shape cpu contents lock part stands settled.fit fits;
      once = λ x.
          let kept = keeps_elements shape cpu part (contents lock) may (once_here settled) x in
          let none_brought : times x (brought part) ≡ 0 = ap (times x) moves.0 in
          let none_taken : times x (taken part) ≡ 0 = ap (times x) moves.1 in
          let same : on_lists shape freed_to x ≡ on_lists shape contents x = omega (arith, kept, none_brought, none_taken, freed_sum (elements_on x)) in
          same ∙ settled.once x;
      placed = λ x bucket. ⊎_elim
          (λ (same : e ≡ x). subst (λ y. times y (numbers (bodies_at freed_to bucket)) + held home hand y bucket ≡ listed shape freed_to y (is_of shape bucket)) same (own_placed bucket))
          (λ (other : e ≡ x → ⊥). other_placed x bucket other)
          (cases_eq e x);
    }
