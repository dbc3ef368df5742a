-- What was pushed inside the turns of buckets that are under way, on a map that doesn't evict: with what is still pushed inside each it is what
-- that turn takes out.
use Rattle.std.proofs.Common.{◌≡◌, ◌≢◌, ℕ, ◌+◌, inl, inr, Bool, true, false, ◌&&◌, eqb, List, [], ◌∷◌, ◌++◌, Option, Some, refl, ap, ◌∙◌, sym, subst, ⊎_elim, arith}
use Rattle.std.proofs.lemmas.Bool.{cases_Bool, eq-eqb, ne_eqb, true≢false}
use Rattle.map_types.specs.declared.attr.Shape.{Shape}
use Rattle.map_types.specs.declared.kind.DomainId.{DomainId}
use Rattle.map_types.specs.declared.kind.DomainId.TheVariants.{Bucket}
use Rattle.map_types.specs.ElementLists.{put, times}
use Rattle.map_types.proofs.RowLemmas.{by_test}
use Rattle.place_words.specs.Choices.{among}
use Rattle.place_words.specs.Locks.{lock_number, is_same_lock}
use Rattle.place_words.proofs.BucketLaws.{times_more}
use Rattle.place_words.proofs.ElementLemmas.{put_here, put_else}
use Rattle.place_words.proofs.LockLemmas.{one_lock, same_lock}
use Rattle.place_words.specs.Interleaving.{Drawn, Event}
use Rattle.place_words.specs.declared.step.Lists.{Lists}
use Rattle.core_runs.specs.Words.{Words}
use Rattle.step_check.proofs.Begun.{Stands, HaveOwnTickets, begun_after, Made, by_ticket, stands_around, itself_begun, around_begun, before_begun, alone}
use Rattle.step_check.proofs.Inside.{around_of, pushed_by, is_turn, pushed_in, inside, found_around, FoundAround, encloses_call, inside_none}
use Rattle.step_check.proofs.Nested.{left_of, quiet_inside}

-- Of turns still to come: what was pushed inside a turn of a bucket that has begun, and what these push inside it, is what it takes out. Where
-- no turn of a bucket has begun, nothing was pushed.
pub record Owes (owed : ℕ → List ℕ) (begun : List ℕ) (turns : List Drawn) : Type 0 where
  pub begun_pays : (y : Drawn) (b : ℕ) → Stands y turns → y.lock ≡ Bucket b → among begun y.entry.ticket ≡ true → (e : ℕ) → times e (owed b) + times e (inside y turns) ≡ times e (left_of y.entry.part)
  pub rest_pays : (y : Drawn) (b : ℕ) → Stands y turns → y.lock ≡ Bucket b → among begun y.entry.ticket ≡ false → (e : ℕ) → times e (inside y turns) ≡ times e (left_of y.entry.part)
  pub at_rest : (b : ℕ) → ((y : Drawn) → Stands y turns → y.lock ≡ Bucket b → among begun y.entry.ticket ≡ false) → owed b ≡ []

-- nothing has begun
pub owes_first : (turns : List Drawn) → ((y : Drawn) → Stands y turns → (b : ℕ) → y.lock ≡ Bucket b → (e : ℕ) → times e (inside y turns) ≡ times e (left_of y.entry.part)) → Owes (λ b. []) [] turns
owes_first turns pays = record {
  begun_pays = λ y b at is has e. absurd (true≢false (sym has));
  rest_pays = λ y b at is has_not e. pays y at b is e;
  at_rest = λ b none. refl;
}

one_bucket : (b c : ℕ) → Bucket b ≡ Bucket c → b ≡ c
one_bucket b c same = cc

and_false : (a : Bool) → (a && false) ≡ false
and_false true = refl
and_false false = refl

module _ {shape : Shape} {w : Words} {lists : Lists} {x : Drawn} {later : List Drawn} {begun : List ℕ} {owed : ℕ → List ℕ} {more : List Event}
    (own : HaveOwnTickets (x ∷ later)) (made : Made shape w lists x later begun more) (owes : Owes owed begun (x ∷ later)) where
  not_before : (t : ℕ) → among (begun_after x later begun) t ≡ false → among begun t ≡ false
  not_before t is_not = ⊎_elim
      (λ (has_it : among begun t ≡ true). absurd (true≢false (sym (before_begun x later begun t has_it) ∙ is_not)))
      (λ (none : among begun t ≡ false). none)
      (cases_Bool (among begun t))

  -- where a turn begins, nothing was pushed inside a turn of its bucket
  waits : (z : Drawn) (b : ℕ) → Stands z (x ∷ later) → z.lock ≡ Bucket b → among begun z.entry.ticket ≡ false → among (begun_after x later begun) z.entry.ticket ≡ true → owed b ≡ []
  waits z b at is not_yet has = owes.at_rest b (λ y there y_is. ⊎_elim
      (λ (has_it : among begun y.entry.ticket ≡ true). absurd (true≢false
      (sym (subst (λ (d : Drawn). among begun d.entry.ticket ≡ true) (made.at_its_place.apart y z there at (before_begun x later begun y.entry.ticket has_it) has (ap (lock_number shape) (y_is ∙ sym is))) has_it) ∙ not_yet)))
      (λ (none : among begun y.entry.ticket ≡ false). none)
      (cases_Bool (among begun y.entry.ticket)))

  -- A turn of a bucket takes out what was pushed inside it.
  pub owes_here : (b : ℕ) → x.lock ≡ Bucket b → pushed_by x.entry.part ≡ [] → (e : ℕ) → times e (owed b) ≡ times e (left_of x.entry.part)
  owes_here b is quiet e =
      let none : inside x (x ∷ later) ≡ [] = quiet_inside x x later quiet ∙ inside_none x later own.0 in
      ⊎_elim
      (λ (has_it : among begun x.entry.ticket ≡ true). omega (arith, owes.begun_pays x b (inl refl) is has_it e, ap (times e) none))
      (λ (is_not : among begun x.entry.ticket ≡ false). omega (arith, owes.rest_pays x b (inl refl) is is_not e, ap (times e) none, ap (times e) (waits x b (inl refl) is is_not (itself_begun x later begun))))
      (cases_Bool (among begun x.entry.ticket))

  keeps : (y : Drawn) (b : ℕ) → Stands y later → y.lock ≡ Bucket b → inside y (x ∷ later) ≡ inside y later → among (begun_after x later begun) y.entry.ticket ≡ true → (e : ℕ)
      → times e (owed b) + times e (inside y later) ≡ times e (left_of y.entry.part)
  keeps y b at is same has e = ⊎_elim
      (λ (has_it : among begun y.entry.ticket ≡ true). omega (arith, owes.begun_pays y b (inr at) is has_it e, ap (times e) same))
      (λ (is_not : among begun y.entry.ticket ≡ false). omega (arith, owes.rest_pays y b (inr at) is is_not e, ap (times e) same, ap (times e) (waits y b (inr at) is is_not has)))
      (cases_Bool (among begun y.entry.ticket))

  -- A turn that pushes nothing: what was pushed inside turns of other buckets stays.
  pub owes_quiet : (now : ℕ → List ℕ) → pushed_by x.entry.part ≡ [] → ((b : ℕ) → x.lock ≢ Bucket b → now b ≡ owed b) → ((b : ℕ) → x.lock ≡ Bucket b → now b ≡ []) → Owes now (begun_after x later begun) later
  owes_quiet now quiet same gone = record {
    begun_pays = λ y b at is has e.
        omega (arith, keeps y b at is (quiet_inside y x later quiet) has e, ap (times e) (same b (λ here. alone own made y at has (is ∙ sym here))));
    rest_pays = λ y b at is is_not e. omega (arith, owes.rest_pays y b (inr at) is (not_before y.entry.ticket is_not) e, ap (times e) (quiet_inside y x later quiet));
    at_rest = λ b none. ⊎_elim
        (λ (here : is_same_lock x.lock (Bucket b) ≡ true). gone b (one_lock x.lock (Bucket b) here))
        (λ (apart : is_same_lock x.lock (Bucket b) ≡ false).
        let other : x.lock ≢ Bucket b = λ is. true≢false (sym (same_lock (Bucket b)) ∙ ap (λ (l : DomainId). is_same_lock l (Bucket b)) (sym is) ∙ apart) in
        same b other ∙ owes.at_rest b (λ y at is. ⊎_elim
        (λ (it : x ≡ y). absurd (other (ap (λ (d : Drawn). d.lock) it ∙ is)))
        (λ (there : Stands y later). not_before y.entry.ticket (none y there is))
        at))
        (cases_Bool (is_same_lock x.lock (Bucket b)));
  }

  -- A push inside a turn of a bucket
  module _ (z : Drawn) (c e0 : ℕ) (found : around_of x later ≡ Some z) (z_is : z.lock ≡ Bucket c) (pushes : pushed_by x.entry.part ≡ e0 ∷ []) (no_bucket : (b : ℕ) → x.lock ≢ Bucket b) where
    around : FoundAround x z later
    around = found_around x z later found

    z_later : Stands z later
    z_later = stands_around x z later around.around

    z_begun : among (begun_after x later begun) z.entry.ticket ≡ true
    z_begun = around_begun x later begun z around.around

    inside_z : inside z (x ∷ later) ≡ e0 ∷ inside z later
    inside_z =
        ap (λ (o : Option Drawn). pushed_in (eqb x.entry.call z.entry.call && is_turn z o) x.entry.part ++ inside z later) found
        ∙ ap (λ (b : Bool). pushed_in (b && eqb z.entry.ticket z.entry.ticket) x.entry.part ++ inside z later) (eq-eqb x.entry.call z.entry.call (sym (encloses_call z x around.encloses)))
        ∙ ap (λ (b : Bool). pushed_in b x.entry.part ++ inside z later) (eq-eqb z.entry.ticket z.entry.ticket refl)
        ∙ ap (λ (l : List ℕ). l ++ inside z later) pushes

    inside_other : (y : Drawn) → y.entry.ticket ≢ z.entry.ticket → inside y (x ∷ later) ≡ inside y later
    inside_other y other =
        ap (λ (o : Option Drawn). pushed_in (eqb x.entry.call y.entry.call && is_turn y o) x.entry.part ++ inside y later) found
        ∙ ap (λ (b : Bool). pushed_in (eqb x.entry.call y.entry.call && b) x.entry.part ++ inside y later) (ne_eqb z.entry.ticket y.entry.ticket (λ same. other (sym same)))
        ∙ ap (λ (b : Bool). pushed_in b x.entry.part ++ inside y later) (and_false (eqb x.entry.call y.entry.call))

    pays_z : (e : ℕ) → times e (e0 ∷ owed c) + times e (inside z later) ≡ times e (left_of z.entry.part)
    pays_z e = ⊎_elim
        (λ (has_it : among begun z.entry.ticket ≡ true). omega (arith, owes.begun_pays z c (inr z_later) z_is has_it e, ap (times e) inside_z, times_more e e0 (inside z later), times_more e e0 (owed c)))
        (λ (is_not : among begun z.entry.ticket ≡ false).
        omega (arith, owes.rest_pays z c (inr z_later) z_is is_not e, ap (times e) inside_z, times_more e e0 (inside z later), times_more e e0 (owed c), ap (times e) (waits z c (inr z_later) z_is is_not z_begun)))
        (cases_Bool (among begun z.entry.ticket))

    pub owes_push : Owes (put owed c (e0 ∷ owed c)) (begun_after x later begun) later
    owes_push = record {
      begun_pays = λ y b at is has e. by_test y.entry.ticket z.entry.ticket (λ _. times e (put owed c (e0 ∷ owed c) b) + times e (inside y later) ≡ times e (left_of y.entry.part))
          (λ same.
          let it : z ≡ y = sym (by_ticket later y z own.1 at z_later same) in
          let here : b ≡ c = one_bucket b c (sym is ∙ ap (λ (d : Drawn). d.lock) (sym it) ∙ z_is) in
          subst (λ (d : Drawn). times e (put owed c (e0 ∷ owed c) b) + times e (inside d later) ≡ times e (left_of d.entry.part)) it
          (omega (arith, pays_z e, ap (times e) (ap (put owed c (e0 ∷ owed c)) here ∙ put_here owed c (e0 ∷ owed c)))))
          (λ other.
          omega (
            arith,
            keeps y b at is (inside_other y other) has e,
            ap (times e) (put_else owed c (e0 ∷ owed c) b
                (λ here. other (ap (λ (d : Drawn). d.entry.ticket) (made.at_its_place.apart y z (inr at) (inr z_later) has z_begun (ap (lock_number shape) (is ∙ ap Bucket here ∙ sym z_is)))))),
          ));
      rest_pays = λ y b at is is_not e.
          omega (arith, owes.rest_pays y b (inr at) is (not_before y.entry.ticket is_not) e, ap (times e) (inside_other y (λ same. true≢false (sym z_begun ∙ ap (among (begun_after x later begun)) (sym same) ∙ is_not))));
      at_rest = λ b none.
          put_else owed c (e0 ∷ owed c) b (λ here. true≢false (sym z_begun ∙ none z z_later (z_is ∙ ap Bucket (sym here))))
          ∙ owes.at_rest b (λ y at is. ⊎_elim
          (λ (it : x ≡ y). absurd (no_bucket b (ap (λ (d : Drawn). d.lock) it ∙ is)))
          (λ (there : Stands y later). not_before y.entry.ticket (none y there is))
          at);
    }
