-- Turns of two list locks, one after the other, between settled contents: elements go from one to the other, some are evicted
-- on the way, and one is given out or none.
use Rattle.std.proofs.Common.{◌≡◌, ◌⊎◌, ℕ, zero, suc, ◌+◌, ◌<◌, ◌≤◌, Bool, true, false, cond, eqb, List, [], ◌∷◌, refl, ap, ◌∙◌, sym, subst, ⊎_elim, arith}
use Rattle.std.proofs.lemmas.Bool.{both_ways, cases_lt}
use Rattle.map_types.specs.declared.attr.Shape.{Shape}
use Rattle.map_types.specs.declared.kind.DomainId.{DomainId}
use Rattle.map_types.specs.declared.kind.DomainId.TheVariants.{Bucket}
use Rattle.map_types.specs.declared.row.Row.{Row}
use Rattle.map_types.specs.ElementLists.{times, one}
use Rattle.place_words.specs.declared.history.Part.{Part}
use Rattle.place_words.specs.declared.visits.Try.{Try}
use Rattle.place_words.specs.Bodies.{numbers}
use Rattle.place_words.specs.Histories.{Content, content_after}
use Rattle.place_words.specs.Locks.{is_same_lock}
use Rattle.place_words.specs.RowMoves.{rows_of}
use Rattle.place_words.specs.Turns.{Turn, on_lock, after_turn, after_turns}
use Rattle.place_words.proofs.ChaseDone.{names_of, IsChasing}
use Rattle.place_words.proofs.ListSums.{list_locks, how_often, sum_over, sum_others, sum_once}
use Rattle.place_words.proofs.ListTurns.{IsNoBucket, now_here, now_elsewhere, sum_now, fit_now, all_gone}
use Rattle.place_words.proofs.LockLemmas.{one_lock}
use Rattle.place_words.proofs.Settled.{bodies_at, bodies_in, is_of, elements_on, rows_on, on_lists, listed, held, IsFit, IsSettled}

-- what lies under two locks is no more than what lies under all
others_step : (f : Content → ℕ) (contents : DomainId → Content) (first second other : DomainId) (same at : Bool) (often rest : ℕ) → is_same_lock second other ≡ same → is_same_lock first other ≡ at → is_same_lock first second ≡ false → one same + often ≡ 1
    → (often ≡ 1 → f (contents second) ≤ rest) → f (contents second) ≤ cond at 0 (f (contents other)) + rest
others_step f contents first second other true true often rest is at apart once more =
    let other_is : second ≡ other = one_lock second other is in
    let both : is_same_lock first second ≡ true = subst (λ (l : DomainId). is_same_lock first l ≡ true) (sym other_is) at in
    absurd (both_ways (is_same_lock first second) apart both)
others_step f contents first second other true false often rest is at apart once more =
    let same : f (contents second) ≡ f (contents other) = ap (λ l. f (contents l)) (one_lock second other is) in omega (arith, same)
others_step f contents first second other false at often rest is at_is apart once more = omega (arith, more (omega (arith, once)))

others_have : (f : Content → ℕ) (contents : DomainId → Content) (first second : DomainId) → is_same_lock first second ≡ false → (locks : List DomainId) → how_often second locks ≡ 1 → f (contents second) ≤ sum_others f contents first locks
others_have f contents first second apart [] once = absurd (omega (arith, once))
others_have f contents first second apart (other ∷ locks) once =
    others_step f contents first second other (is_same_lock second other) (is_same_lock first other) (how_often second locks) (sum_others f contents first locks) refl refl apart once (others_have f contents first second apart locks)

pub two_of : (shape : Shape) (contents : DomainId → Content) (first second : DomainId) → how_often first (list_locks shape) ≡ 1 → how_often second (list_locks shape) ≡ 1 → is_same_lock first second ≡ false
    → (f : Content → ℕ) → f (contents first) + f (contents second) ≤ sum_over f contents (list_locks shape)
two_of shape contents first second one_first one_second apart f =
    omega (arith, sum_once f contents first (list_locks shape) one_first, others_have f contents first second apart (list_locks shape) one_second)

-- what two turns have of the elements and rows under their locks, where probes took these elements out of their buckets
pub record Between (shape : Shape) (cpu : ℕ) (contents : DomainId → Content) (home : ℕ) (first second : DomainId) (one_part other_part : Part) (rows : List Row) (probes : List Try) (given : List ℕ) : Type 0 where
  pub gone : List ℕ
  pub new : List Row
  pub elements : (e : ℕ) → elements_on e (content_after shape cpu one_part (contents first)) + elements_on e (content_after shape cpu other_part (contents second)) ≡ elements_on e (contents first) + elements_on e (contents second)
  pub rows_then : (e : ℕ) (of : ℕ → Bool) → rows_on e of (content_after shape cpu one_part (contents first)) + rows_on e of (content_after shape cpu other_part (contents second))
      ≡ cond (eqb (times e gone) 0) (rows_on e of (contents first) + rows_on e of (contents second)) 0 + rows_of e of new
  pub named : (e : ℕ) → times e gone ≡ times e (names_of probes)
  pub gives : (e bucket : ℕ) → rows_of e (is_of shape bucket) new ≡ held home given e bucket
  pub among : (e : ℕ) (of : ℕ → Bool) → 1 ≤ times e (names_of probes) → rows_of e of rows ≡ rows_on e of (contents first) + rows_on e of (contents second)
  pub first_fits : IsFit shape first (content_after shape cpu one_part (contents first))
  pub second_fits : IsFit shape second (content_after shape cpu other_part (contents second))

left_where : (n was given after : ℕ) → after ≡ cond (eqb n 0) was 0 + given → n ≡ 0 → after ≡ was + given
left_where zero was given after is none = is
left_where (suc n) was given after is none = absurd (omega (arith, none))

module _ (shape : Shape) (cpu : ℕ) (contents : DomainId → Content) (home : ℕ) (first second : DomainId) (one_part other_part : Part) (rows : List Row) (probes : List Try) (turns : List Turn) (given : List ℕ)
    (one_first : how_often first (list_locks shape) ≡ 1) (one_second : how_often second (list_locks shape) ≡ 1) (apart : is_same_lock first second ≡ false) (back : is_same_lock second first ≡ false)
    (first_no_bucket : IsNoBucket first) (second_no_bucket : IsNoBucket second) (settled : IsSettled shape contents home []) (chasing : IsChasing shape cpu rows contents probes turns)
    (between : Between shape cpu contents home first second one_part other_part rows probes given) where
  abbrev chased_to : DomainId → Content
  chased_to = after_turns shape cpu contents turns

  abbrev mid : DomainId → Content
  mid = after_turn shape cpu chased_to (on_lock first one_part)

  abbrev last : DomainId → Content
  last = after_turn shape cpu mid (on_lock second other_part)

  pub first_there : chased_to first ≡ contents first
  first_there = chasing.elsewhere first (λ bucket. (first_no_bucket bucket).0)

  pub second_there : mid second ≡ contents second
  second_there = now_elsewhere shape cpu chased_to first one_part one_first second apart ∙ chasing.elsewhere second (λ bucket. (second_no_bucket bucket).0)

  both_sum : (f : Content → ℕ) → sum_over f last (list_locks shape) + (f (contents first) + f (contents second))
      ≡ sum_over f contents (list_locks shape) + (f (content_after shape cpu one_part (contents first)) + f (content_after shape cpu other_part (contents second)))
  both_sum f =
      let at_first : f (mid first) ≡ f (content_after shape cpu one_part (contents first)) = ap f (now_here shape cpu chased_to first one_part one_first ∙ ap (content_after shape cpu one_part) first_there) in
      let at_second : f (last second) ≡ f (content_after shape cpu other_part (contents second)) = ap f (now_here shape cpu mid second other_part one_second ∙ ap (content_after shape cpu other_part) second_there) in
      omega (arith, sum_now shape cpu chased_to first one_part one_first f, sum_now shape cpu mid second other_part one_second f, chasing.lists f, ap f first_there, ap f second_there, at_first, at_second)

  pub both_give : IsSettled shape last home given
  both_give = record {
    fit = fit_now shape cpu mid second other_part one_second
        (fit_now shape cpu chased_to first one_part one_first chasing.fit (subst (λ (content : Content). IsFit shape first (content_after shape cpu one_part content)) (sym first_there) between.first_fits))
        (subst (λ (content : Content). IsFit shape second (content_after shape cpu other_part content)) (sym second_there) between.second_fits);
    once = λ e. let same : on_lists shape last e ≡ on_lists shape contents e = omega (arith, both_sum (elements_on e), between.elements e) in same ∙ settled.once e;
    placed = λ e bucket. at e bucket (cases_lt 0 (times e (names_of probes)));
  }
    where
      at : (e bucket : ℕ) → (0 < times e (names_of probes)) ⊎ (times e (names_of probes) ≤ 0) → times e (numbers (bodies_at last bucket)) + held home given e bucket ≡ listed shape last e (is_of shape bucket)
      at e bucket which =
          let bodies_same : times e (numbers (bodies_at last bucket)) ≡ times e (numbers (bodies_at chased_to bucket)) =
          ap (λ (content : Content). times e (numbers (bodies_in content)))
          (now_elsewhere shape cpu mid second other_part one_second (Bucket bucket) (second_no_bucket bucket).1 ∙ now_elsewhere shape cpu chased_to first one_part one_first (Bucket bucket) (first_no_bucket bucket).1) in
          let rows_are = between.rows_then e (is_of shape bucket) in
          let was = settled.placed e bucket in
          let empty : held home [] e bucket ≡ 0 = none_held (eqb home bucket) in
          ⊎_elim
          (λ (some : 0 < times e (names_of probes)).
          let left = all_gone (times e between.gone) _ _ _ rows_are (omega (arith, some, between.named e)) in
          omega (arith, bodies_same, left, chasing.gone e bucket some, both_sum (rows_on e (is_of shape bucket)), was, empty, between.gives e bucket, between.among e (is_of shape bucket) some))
          (λ (none : times e (names_of probes) ≤ 0).
          let left = left_where (times e between.gone) _ _ _ rows_are (omega (arith, none, between.named e)) in
          omega (arith, bodies_same, left, chasing.kept e bucket (omega (arith, none)), both_sum (rows_on e (is_of shape bucket)), was, empty, between.gives e bucket))
          which
        where
          none_held : (b : Bool) → cond b 0 0 ≡ zero
          none_held true = refl
          none_held false = refl
