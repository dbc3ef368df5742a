-- One element changes under one lock. Its own places are right afterwards, and all others stay.
use Rattle.std.proofs.Common.{◌≡◌, ◌≢◌, ℕ, ◌<◌, Bool, ◌&&◌, ltb, List, refl, ap, ◌∙◌, sym, subst, ⊎_elim}
use Rattle.std.proofs.lemmas.Bool.{lt-ltb, cases_eq}
use Rattle.map_types.specs.declared.attr.Shape.{Shape}
use Rattle.map_types.specs.Kind.{is_lru}
use Rattle.place_words.specs.declared.owner.Owner.{Owner}
use Rattle.place_words.specs.declared.home.Home.{Home}
use Rattle.place_words.specs.Locks.{lock_named}
use Rattle.place_words.specs.declared.step.Lists.{Lists}
use Rattle.map_types.specs.ElementLists.{put, one, times}
use Rattle.place_words.specs.Openings.{is_free}
use Rattle.place_words.specs.State.{rows, HasOnlyItsLists, HasCursorInside}
use Rattle.place_words.specs.Places.{ElementPlace, lies_at, has_row, EachOnce, FreePlaced, RowsPlaced, MayOwn, MayLie, HomesTold, ListsFit, CursorsInside, PlacedAt}
use Rattle.place_words.proofs.ElementLemmas.{at_put, put_here, put_else}

-- what stands at a list, for an element
pub counted : (elements e : ℕ) (t : Bool) → e < elements → one (ltb e elements && t) ≡ one t
counted elements e t real = rw (lt-ltb e elements real) refl

-- Elements other than e are where they were, and e is where it stands now.
pub each_once_moved : (elements : ℕ) (list list' : ℕ → List ℕ) (stands stands' : ℕ → ℕ → Bool) (e : ℕ) → e < elements
    → EachOnce elements list stands
    → ((k x : ℕ) → x ≢ e → times x (list' k) ≡ times x (list k))
    → ((k x : ℕ) → x ≢ e → stands' k x ≡ stands k x)
    → ((k : ℕ) → times e (list' k) ≡ one (stands' k e))
    → EachOnce elements list' stands'
each_once_moved elements list list' stands stands' e real once others stay here k x =
    ⊎_elim
    (λ (is : x ≡ e). subst (λ (y : ℕ). times y (list' k) ≡ one (ltb y elements && stands' k y)) (sym is) (here k ∙ sym (counted elements e (stands' k e) real)))
    (λ (other : x ≡ e → ⊥). others k x other ∙ (once k x ∙ ap (λ t. one (ltb x elements && t)) (sym (stay k x other))))
    (cases_eq x e)

-- What a change of the lists under the lock k to `now`, by the element e alone, asks of the new owner and place of e.
pub record MovesAt (shape : Shape) (lists : ℕ → Lists) (owner : ℕ → Owner) (place : ℕ → ElementPlace) (k e : ℕ) (now : Lists) (o : Owner) (p : ElementPlace) : Type 0 where
  pub others_free : (x : ℕ) → x ≢ e → times x now.free ≡ times x (lists k).free
  pub others_rows : (x : ℕ) → x ≢ e → times x (rows now) ≡ times x (rows (lists k))
  pub free_here : times e now.free ≡ one (is_free o && lies_at k p)
  pub row_here : times e (rows now) ≡ one (has_row (is_lru shape.kind) (lock_named shape k) o (lies_at k p))
  pub free_else : (j : ℕ) → j ≢ k → (is_free o && lies_at j p) ≡ (is_free (owner e) && lies_at j (place e))
  pub row_else : (j : ℕ) → j ≢ k → has_row (is_lru shape.kind) (lock_named shape j) o (lies_at j p) ≡ has_row (is_lru shape.kind) (lock_named shape j) (owner e) (lies_at j (place e))

-- one function is another but at e
pub record DiffersAt {A : Type 0} (f g : ℕ → A) (e : ℕ) (x : A) : Type 0 where
  pub here : g e ≡ x
  pub else_same : (j : ℕ) → j ≢ e → g j ≡ f j

pub differs_put : {A : Type 0} (f : ℕ → A) (e : ℕ) (x : A) → DiffersAt f (put f e x) e x
differs_put f e x = record { here = put_here f e x; else_same = put_else f e x }

pub differs_not : {A : Type 0} (f : ℕ → A) (e : ℕ) → DiffersAt f f e (f e)
differs_not f e = record { here = refl; else_same = λ _ _. refl }

module _ (shape : Shape) (lists : ℕ → Lists) (owner owner' : ℕ → Owner) (place place' : ℕ → ElementPlace) (k e : ℕ) (now : Lists) (o : Owner) (p : ElementPlace) where
  pub free_moved : e < shape.elements → MovesAt shape lists owner place k e now o p → DiffersAt owner owner' e o → DiffersAt place place' e p → FreePlaced shape lists owner place → FreePlaced shape (put lists k now) owner' place'
  free_moved real moves owners places placed =
      each_once_moved shape.elements (λ j. (lists j).free) (λ j. (put lists k now j).free) (λ j x. is_free (owner x) && lies_at j (place x)) (λ j x. is_free (owner' x) && lies_at j (place' x)) e real placed
      (λ j x other. at_put lists k now (λ i l. times x l.free ≡ times x (lists i).free) j (moves.others_free x other) (λ _. refl))
      (λ j x other. λ i. is_free (owners.else_same x other i) && lies_at j (places.else_same x other i))
      (λ j. at_put lists k now (λ i l. times e l.free ≡ one (is_free (owner' e) && lies_at i (place' e))) j
      (moves.free_here ∙ sym (now_is k))
      (λ apart. placed j e ∙ (counted shape.elements e _ real ∙ (ap one (sym (moves.free_else j apart)) ∙ sym (now_is j)))))
    where
      now_is : (j : ℕ) → one (is_free (owner' e) && lies_at j (place' e)) ≡ one (is_free o && lies_at j p)
      now_is j = λ i. one (is_free (owners.here i) && lies_at j (places.here i))

  pub rows_moved : e < shape.elements → MovesAt shape lists owner place k e now o p → DiffersAt owner owner' e o → DiffersAt place place' e p → RowsPlaced shape lists owner place → RowsPlaced shape (put lists k now) owner' place'
  rows_moved real moves owners places placed =
      each_once_moved shape.elements (λ j. rows (lists j)) (λ j. rows (put lists k now j)) (λ j x. has_row lru (lock_named shape j) (owner x) (lies_at j (place x))) (λ j x. has_row lru (lock_named shape j) (owner' x) (lies_at j (place' x))) e real placed
      (λ j x other. at_put lists k now (λ i l. times x (rows l) ≡ times x (rows (lists i))) j (moves.others_rows x other) (λ _. refl))
      (λ j x other. λ i. has_row lru (lock_named shape j) (owners.else_same x other i) (lies_at j (places.else_same x other i)))
      (λ j. at_put lists k now (λ i l. times e (rows l) ≡ one (has_row lru (lock_named shape i) (owner' e) (lies_at i (place' e)))) j
      (moves.row_here ∙ sym (now_is k))
      (λ apart. placed j e ∙ (counted shape.elements e _ real ∙ (ap one (sym (moves.row_else j apart)) ∙ sym (now_is j)))))
    where
      lru : Bool
      lru = is_lru shape.kind

      now_is : (j : ℕ) → one (has_row (is_lru shape.kind) (lock_named shape j) (owner' e) (lies_at j (place' e))) ≡ one (has_row (is_lru shape.kind) (lock_named shape j) o (lies_at j p))
      now_is j = λ i. one (has_row (is_lru shape.kind) (lock_named shape j) (owners.here i) (lies_at j (places.here i)))

-- a part that speaks of each element by itself
pub all_but_one : {A : Type 0} (elements : ℕ) (f g : ℕ → A) (e : ℕ) (x : A) (P : ℕ → A → Type 0) → DiffersAt f g e x → (e < elements → P e x) → ((j : ℕ) → j < elements → P j (f j)) → (j : ℕ) → j < elements → P j (g j)
all_but_one elements f g e x P differs here all j real =
    ⊎_elim
    (λ (is : j ≡ e). subst (λ (i : ℕ). i < elements → P i (g i)) (sym is) (λ r. subst (P e) (sym differs.here) (here r)) real)
    (λ (other : j ≡ e → ⊥). subst (P j) (sym (differs.else_same j other)) (all j real))
    (cases_eq j e)

-- a part that speaks of each lock by itself
pub fit_put : (shape : Shape) (lists : ℕ → Lists) (k : ℕ) (now : Lists) → HasOnlyItsLists (lock_named shape k) now → ListsFit shape lists → ListsFit shape (put lists k now)
fit_put shape lists k now here fit j = at_put lists k now (λ i l. HasOnlyItsLists (lock_named shape i) l) j here (λ _. fit j)

pub cursors_put : (lists : ℕ → Lists) (k : ℕ) (now : Lists) → HasCursorInside now → CursorsInside lists → CursorsInside (put lists k now)
cursors_put lists k now here inside j = at_put lists k now (λ i l. HasCursorInside l) j here (λ _. inside j)

-- The whole: under the lock k lies `now`, and e has the owner o and the place p.
pub placed_moved : (shape : Shape) (lists : ℕ → Lists) (owner owner' : ℕ → Owner) (home home' : ℕ → Home) (place place' : ℕ → ElementPlace) (k e : ℕ) (now : Lists) (o : Owner) (p : ElementPlace)
    → e < shape.elements → PlacedAt shape lists owner home place → MovesAt shape lists owner place k e now o p
    → DiffersAt owner owner' e o → DiffersAt place place' e p → HomesTold shape home' place'
    → MayOwn shape o → MayLie shape e o p → HasOnlyItsLists (lock_named shape k) now → HasCursorInside now
    → PlacedAt shape (put lists k now) owner' home' place'
placed_moved shape lists owner owner' home home' place place' k e now o p real placed moves owners places told may_own may_lie fit cursor = record {
  free = free_moved shape lists owner owner' place place' k e now o p real moves owners places placed.free;
  rows = rows_moved shape lists owner owner' place place' k e now o p real moves owners places placed.rows;
  owners = all_but_one shape.elements owner owner' e o (λ _ x. MayOwn shape x) owners (λ _. may_own) placed.owners;
  places = λ j r. ⊎_elim
      (λ (is : j ≡ e). subst (λ (i : ℕ). MayLie shape i (owner' i) (place' i)) (sym is) (subst (λ (x : Owner × ElementPlace). MayLie shape e x.0 x.1) (λ i. (sym owners.here i, sym places.here i)) may_lie))
      (λ (other : j ≡ e → ⊥). subst (λ (x : Owner × ElementPlace). MayLie shape j x.0 x.1) (λ i. (sym (owners.else_same j other) i, sym (places.else_same j other) i)) (placed.places j r))
      (cases_eq j e);
  homes = told;
  fit = fit_put shape lists k now fit placed.fit;
  cursors = cursors_put lists k now cursor placed.cursors;
}
