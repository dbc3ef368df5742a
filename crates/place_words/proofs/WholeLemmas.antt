-- Where the places are right, each element is in one place.
use Rattle.std.proofs.Common.{◌≡◌, ◌≢◌, ℕ, ◌+◌, ◌/◌, ◌<◌, Bool, true, false, not, ◌&&◌, ltb, refl, ap, ◌∙◌, sym, subst, ⊎_elim, inl, inr, ◌⊎◌, arith}
use Rattle.std.specs.Prelude.{IsTrue}
use Rattle.std.proofs.lemmas.Bool.{and_parts, and_right, cases_Bool, cases_eq, lt-ltb, eq-eqb}
use Rattle.map_types.specs.declared.attr.Shape.{Shape}
use Rattle.map_types.specs.declared.kind.DomainId.{DomainId}
use Rattle.map_types.specs.declared.kind.DomainId.TheVariants.{Local, Global, CpuLru, Bucket, Freelist}
use Rattle.map_types.specs.Kind.{is_lru}
use Rattle.place_words.specs.declared.home.Home.{Home}
use Rattle.place_words.specs.declared.home.Home.TheVariants as homes
use Rattle.place_words.specs.declared.owner.Owner.{Owner}
use Rattle.place_words.specs.declared.owner.Owner.TheVariants as owners
use Rattle.place_words.specs.Locks.{is_lock, lock_number, lock_named}
use Rattle.place_words.proofs.LockLemmas.{named_by_number, number_of_named}
use Rattle.map_types.specs.ElementLists.{IsIn, one, times}
use Rattle.map_types.proofs.RowLemmas.{times_append}
use Rattle.place_words.specs.Openings.{is_free}
use Rattle.place_words.specs.State.{State, rows, is_bucket}
use Rattle.place_words.specs.Places.{ElementPlace, under_lock, carried, lies_at, home_of_place, is_in_bucket, has_row, MayOwn, MayLie, MayLieUnder, Placed}
use Rattle.place_words.specs.Wholeness.{StandsOnce, OnceWhere, all_of, EachInOnePlace}
use Rattle.place_words.specs.Steps.{lists_under}
use Rattle.place_words.proofs.FrameLemmas.{counted}
use Rattle.place_words.proofs.RowLemmas.{Stands, stands_where, lies_is, lies_here, lies_elsewhere, free_is, bucket_is, no_row_free, no_row_hand_away, row_lies}
use Rattle.place_words.proofs.TotalLemmas.{bucket_list}

bucket_row : (lru : Bool) (lock : DomainId) (o : Owner) (here : Bool) → is_bucket lock ≡ true → has_row lru lock o here ≡ true → (bucket : ℕ) × (lock ≡ Bucket bucket) × (o ≡ owners.Bucket bucket)
bucket_row lru (Local cpu) o here is row = absurd cc
bucket_row lru Global o here is row = absurd cc
bucket_row lru (CpuLru cpu) o here is row = absurd cc
bucket_row lru (Bucket bucket) o here is row = (bucket, refl, bucket_is bucket o row)
bucket_row lru (Freelist cpu) o here is row = absurd cc

-- on a map that evicts, an element stands once under the lock where it lies, free or listed
parts_once : (free here : Bool) → one (free && here) + one (not free && here) ≡ one here
parts_once true here = omega arith
parts_once false here = omega arith

free_or_row : (lock : DomainId) (o : Owner) (here : Bool) → is_bucket lock ≡ false → one (is_free o && here) + one (has_row true lock o here) ≡ one here
free_or_row (Local cpu) o here is = parts_once (is_free o) here
free_or_row Global o here is = parts_once (is_free o) here
free_or_row (CpuLru cpu) o here is = parts_once (is_free o) here
free_or_row (Bucket bucket) o here is = absurd cc
free_or_row (Freelist cpu) o here is = parts_once (is_free o) here

none_carried : (real lru : Bool) (lock : DomainId) (cpu : ℕ) → one (real && false) + one (real && has_row lru lock (owners.Hand cpu) false) ≡ 0
none_carried real lru lock cpu =
    let free = ap one (and_right real false refl) in
    let row = ap one (and_right real (has_row lru lock (owners.Hand cpu) false) (no_row_hand_away lru lock cpu)) in
    omega arith

either_in : (m n : ℕ) → 0 < m + n → (0 < m) ⊎ (0 < n)
either_in m n some = ⊎_elim (λ (is : m ≡ 0). inr (omega arith)) (λ (other : m ≡ 0 → ⊥). inl (omega arith)) (cases_eq m 0)

-- Homes

abbrev home_told : Shape → ElementPlace → Home
home_told shape (under_lock k) = homes.In (lock_named shape k)
home_told shape (carried cpu) = homes.Hand cpu

home_lru : (shape : Shape) (p : ElementPlace) → is_lru shape.kind ≡ true → home_of_place shape p ≡ home_told shape p
home_lru shape (under_lock k) lru = rw lru refl
home_lru shape (carried cpu) lru = rw lru refl

home_plain : (shape : Shape) (p : ElementPlace) → is_lru shape.kind ≡ false → home_of_place shape p ≡ homes.Unlisted
home_plain shape (under_lock k) plain = rw plain refl
home_plain shape (carried cpu) plain = rw plain refl

is_told : (shape : Shape) (p : ElementPlace) → home_told shape p ≢ homes.Unlisted
is_told shape (under_lock k) is = absurd cc
is_told shape (carried cpu) is = absurd cc

lies_by_home : (shape : Shape) (p : ElementPlace) (lock : DomainId) → home_told shape p ≡ homes.In lock → p ≡ under_lock (lock_number shape lock)
lies_by_home shape (under_lock j) lock is =
    let same : lock_named shape j ≡ lock = cc in
    ap under_lock (sym (number_of_named shape j) ∙ ap (lock_number shape) same)
lies_by_home shape (carried cpu) lock is = absurd cc

carried_by_home : (shape : Shape) (p : ElementPlace) (cpu : ℕ) → home_told shape p ≡ homes.Hand cpu → p ≡ carried cpu
carried_by_home shape (under_lock j) cpu is = absurd cc
carried_by_home shape (carried c) cpu is = let same : c ≡ cpu = cc in ap carried same

lies_where_free : (shape : Shape) (e : ℕ) (o : Owner) (p : ElementPlace) → MayLie shape e o p → o ≡ owners.Free → (k : ℕ) × (p ≡ under_lock k)
lies_where_free shape e o (under_lock k) may free = (k, refl)
lies_where_free shape e o (carried cpu) may free = let hand : owners.Free ≡ owners.Hand cpu = sym free ∙ may.1 in absurd cc

lock_there : (shape : Shape) (e : ℕ) (lock : DomainId) → MayLieUnder shape e lock → IsTrue (is_lock shape lock) × (is_bucket lock ≡ false)
lock_there shape e (Local cpu) may = (may, refl)
lock_there shape e Global may = (may, refl)
lock_there shape e (CpuLru cpu) may = (may.0, refl)
lock_there shape e (Bucket bucket) may = absurd may
lock_there shape e (Freelist cpu) may = (may, refl)

own_lock : (shape : Shape) (e : ℕ) (lock : DomainId) → MayLieUnder shape e lock → is_lru shape.kind ≡ true → shape.common ≡ false → lock ≡ CpuLru (e / (shape.elements / shape.cpus))
own_lock shape e (Local cpu) may lru own =
    let common : true ≡ false = sym (and_parts shape.common (ltb cpu shape.cpus) may).0 ∙ own in absurd cc
own_lock shape e Global may lru own = let common : true ≡ false = sym may ∙ own in absurd cc
own_lock shape e (CpuLru cpu) may lru own = ap CpuLru may.1
own_lock shape e (Bucket bucket) may lru own = absurd may
own_lock shape e (Freelist cpu) may lru own =
    let none : false ≡ true = sym (ap not lru) ∙ (and_parts (not (is_lru shape.kind)) (ltb cpu shape.cpus) may).0 in absurd cc

own_home : (shape : Shape) (e : ℕ) (o : Owner) (p : ElementPlace) → MayLie shape e o p → is_lru shape.kind ≡ true → shape.common ≡ false → home_told shape p ≡ homes.In (CpuLru (e / (shape.elements / shape.cpus)))
own_home shape e o (under_lock k) may lru own = ap homes.In (own_lock shape e (lock_named shape k) may lru own)
own_home shape e o (carried cpu) may lru own = let common : true ≡ false = sym may.0 ∙ own in absurd cc

module _ (shape : Shape) (s : State) (p : Placed shape s) where
  free_stands : (e k : ℕ) → IsIn e (s.lists k).free → Stands shape.elements e (is_free (s.owner e) && lies_at k (p.place e))
  free_stands e k inside = stands_where shape.elements e _ _ (p.placed.free k e) inside

  row_stands : (e k : ℕ) → IsIn e (rows (s.lists k)) → Stands shape.elements e (has_row (is_lru shape.kind) (lock_named shape k) (s.owner e) (lies_at k (p.place e)))
  row_stands e k inside = stands_where shape.elements e _ _ (p.placed.rows k e) inside

  lock_is_real : (e k : ℕ) → e < shape.elements → lies_at k (p.place e) ≡ true → IsTrue (is_lock shape (lock_named shape k)) × (is_bucket (lock_named shape k) ≡ false)
  lock_is_real e k real here =
      lock_there shape e (lock_named shape k) (subst (λ (q : ElementPlace). MayLie shape e (s.owner e) q) (lies_is k (p.place e) here) (p.placed.places e real))

  whole : (e k : ℕ) → times e (all_of (s.lists k)) ≡ one (ltb e shape.elements && (is_free (s.owner e) && lies_at k (p.place e))) + one (ltb e shape.elements && has_row (is_lru shape.kind) (lock_named shape k) (s.owner e) (lies_at k (p.place e)))
  whole e k =
      let sum = times_append e (s.lists k).free (rows (s.lists k)) in
      let free = p.placed.free k e in
      let row = p.placed.rows k e in
      omega arith

  told_is : (e : ℕ) → is_lru shape.kind ≡ true → e < shape.elements → s.home e ≡ home_told shape (p.place e)
  told_is e lru real = p.placed.homes e real ∙ home_lru shape (p.place e) lru

  untold : (e : ℕ) → is_lru shape.kind ≡ false → e < shape.elements → s.home e ≡ homes.Unlisted
  untold e plain real = p.placed.homes e real ∙ home_plain shape (p.place e) plain

  inside_row : (e k : ℕ) → IsIn e (rows (s.lists k)) → (e < shape.elements) × IsTrue (is_lock shape (lock_named shape k))
  inside_row e k is =
      let row = row_stands e k is in
      ⊎_elim
      (λ (bucket : is_bucket (lock_named shape k) ≡ true).
      let at = bucket_row (is_lru shape.kind) (lock_named shape k) (s.owner e) (lies_at k (p.place e)) bucket row.stands in
      let there : at.0 < shape.buckets = subst (λ (o : Owner). MayOwn shape o) at.2 (p.placed.owners e row.real) in
      (row.real, ap (is_lock shape) at.1 ∙ lt-ltb at.0 shape.buckets there))
      (λ (list : is_bucket (lock_named shape k) ≡ false).
      (row.real, (lock_is_real e k row.real (row_lies (is_lru shape.kind) (lock_named shape k) (s.owner e) (lies_at k (p.place e)) list row.stands)).0))
      (cases_Bool (is_bucket (lock_named shape k)))

  inside_free : (e k : ℕ) → IsIn e (s.lists k).free → (e < shape.elements) × IsTrue (is_lock shape (lock_named shape k))
  inside_free e k is =
      let stands = free_stands e k is in
      (stands.real, (lock_is_real e k stands.real (and_parts (is_free (s.owner e)) (lies_at k (p.place e)) stands.stands).1).0)

  inside : (e k : ℕ) → IsIn e (all_of (s.lists k)) → (e < shape.elements) × IsTrue (is_lock shape (lock_named shape k))
  inside e k is =
      ⊎_elim (inside_free e k) (inside_row e k) (either_in (times e (s.lists k).free) (times e (rows (s.lists k))) (let sum = times_append e (s.lists k).free (rows (s.lists k)) in omega arith))

  free_at : (e : ℕ) → e < shape.elements → s.owner e ≡ owners.Free → (k : ℕ) → times e (s.lists k).free ≡ one (lies_at k (p.place e))
  free_at e real free k =
      p.placed.free k e ∙ (counted shape.elements e _ real ∙ ap (λ (o : Owner). one (is_free o && lies_at k (p.place e))) free)

  free_once : (e : ℕ) → e < shape.elements → s.owner e ≡ owners.Free → StandsOnce e (λ k. (s.lists k).free)
  free_once e real free =
      let at = lies_where_free shape e (s.owner e) (p.place e) (p.placed.places e real) free in
      record {
        lock = at.0;
        once = free_at e real free at.0 ∙ (ap (λ (q : ElementPlace). one (lies_at at.0 q)) at.1 ∙ ap one (lies_here at.0));
        nowhere_else = λ k apart. free_at e real free k ∙ (ap (λ (q : ElementPlace). one (lies_at k q)) at.1 ∙ ap one (lies_elsewhere k at.0 apart));
      }

  free_not_listed : (e k : ℕ) → s.owner e ≡ owners.Free → times e (rows (s.lists k)) ≡ 0
  free_not_listed e k free =
      let none : has_row (is_lru shape.kind) (lock_named shape k) (s.owner e) (lies_at k (p.place e)) ≡ false = ap (λ (o : Owner). has_row (is_lru shape.kind) (lock_named shape k) o (lies_at k (p.place e))) free ∙ no_row_free _ _ _ in
      p.placed.rows k e ∙ ap one (and_right (ltb e shape.elements) _ none)

  free_only : (e k : ℕ) → IsIn e (s.lists k).free → (e < shape.elements) × (s.owner e ≡ owners.Free)
  free_only e k is =
      let stands = free_stands e k is in
      (stands.real, free_is (s.owner e) (and_parts (is_free (s.owner e)) (lies_at k (p.place e)) stands.stands).0)

  bucket_once : (e bucket : ℕ) → e < shape.elements → bucket < shape.buckets → OnceWhere (s.owner e ≡ owners.Bucket bucket) e (lists_under shape s (Bucket bucket)).first
  bucket_once e bucket real there =
      let is = bucket_list shape s p bucket e there ∙ counted shape.elements e (is_in_bucket bucket (s.owner e)) real in (
        λ owned. is ∙ (ap (λ (o : Owner). one (is_in_bucket bucket o)) owned ∙ ap one (eq-eqb bucket bucket refl)),
        λ other. is ∙ ⊎_elim
            (λ (inside : is_in_bucket bucket (s.owner e) ≡ true). absurd (other (bucket_is bucket (s.owner e) inside)))
            (λ (out : is_in_bucket bucket (s.owner e) ≡ false). ap one out)
            (cases_Bool (is_in_bucket bucket (s.owner e))),
      )

  at_lock : (e : ℕ) (lock : DomainId) → is_lru shape.kind ≡ true → e < shape.elements → IsTrue (is_lock shape lock) → is_bucket lock ≡ false → times e (all_of (lists_under shape s lock)) ≡ one (lies_at (lock_number shape lock) (p.place e))
  at_lock e lock lru real there list =
      let k = lock_number shape lock in
      let here = lies_at k (p.place e) in
      let sum = whole e k in
      let free = counted shape.elements e (is_free (s.owner e) && here) real in
      let row = counted shape.elements e (has_row (is_lru shape.kind) (lock_named shape k) (s.owner e) here) real in
      let named = ap (λ (d : DomainId). one (has_row (is_lru shape.kind) d (s.owner e) here)) (named_by_number shape lock there) in
      let evicts = ap (λ (b : Bool). one (has_row b lock (s.owner e) here)) lru in
      let once = free_or_row lock (s.owner e) here list in
      omega arith

  home_once : is_lru shape.kind ≡ true → (e : ℕ) (lock : DomainId) → e < shape.elements → IsTrue (is_lock shape lock) → is_bucket lock ≡ false → OnceWhere (s.home e ≡ homes.In lock) e (all_of (lists_under shape s lock))
  home_once lru e lock real there list =
      let k = lock_number shape lock in
      let is = at_lock e lock lru real there list in (
        λ home. is ∙ (ap (λ (q : ElementPlace). one (lies_at k q)) (lies_by_home shape (p.place e) lock (sym (told_is e lru real) ∙ home)) ∙ ap one (lies_here k)),
        λ other. is ∙ ⊎_elim
            (λ (here : lies_at k (p.place e) ≡ true). absurd (other (told_is e lru real ∙ (ap (home_told shape) (lies_is k (p.place e) here) ∙ ap homes.In (named_by_number shape lock there)))))
            (λ (away : lies_at k (p.place e) ≡ false). ap one away)
            (cases_Bool (lies_at k (p.place e))),
      )

  home_there : (e : ℕ) (lock : DomainId) → e < shape.elements → s.home e ≡ homes.In lock → IsTrue (is_lock shape lock) × (is_bucket lock ≡ false)
  home_there e lock real home =
      ⊎_elim
      (λ (lru : is_lru shape.kind ≡ true).
      let told : home_told shape (p.place e) ≡ homes.In lock = sym (told_is e lru real) ∙ home in
      let at = lies_by_home shape (p.place e) lock told in
      let k = lock_number shape lock in
      let same_home : homes.In (lock_named shape k) ≡ homes.In lock = sym (ap (home_told shape) at) ∙ told in
      let same : lock_named shape k ≡ lock = cc in
      let there = lock_is_real e k real (ap (lies_at k) at ∙ lies_here k) in
      (sym (ap (is_lock shape) same) ∙ there.0, sym (ap is_bucket same) ∙ there.1))
      (λ (plain : is_lru shape.kind ≡ false). let none : homes.Unlisted ≡ homes.In lock = sym (untold e plain real) ∙ home in absurd cc)
      (cases_Bool (is_lru shape.kind))

  carried_at : (e cpu : ℕ) → e < shape.elements → s.home e ≡ homes.Hand cpu → p.place e ≡ carried cpu
  carried_at e cpu real home =
      ⊎_elim
      (λ (lru : is_lru shape.kind ≡ true). carried_by_home shape (p.place e) cpu (sym (told_is e lru real) ∙ home))
      (λ (plain : is_lru shape.kind ≡ false). let none : homes.Unlisted ≡ homes.Hand cpu = sym (untold e plain real) ∙ home in absurd cc)
      (cases_Bool (is_lru shape.kind))

  carried_off : (e cpu : ℕ) → e < shape.elements → s.home e ≡ homes.Hand cpu → (s.owner e ≡ owners.Hand cpu) × ((k : ℕ) → times e (all_of (s.lists k)) ≡ 0)
  carried_off e cpu real home =
      let at = carried_at e cpu real home in
      let may : MayLie shape e (s.owner e) (carried cpu) = subst (λ (q : ElementPlace). MayLie shape e (s.owner e) q) at (p.placed.places e real) in
      let count : ℕ → Owner → ElementPlace → ℕ = λ k o q. one (ltb e shape.elements && (is_free o && lies_at k q)) + one (ltb e shape.elements && has_row (is_lru shape.kind) (lock_named shape k) o (lies_at k q)) in
      (may.1, λ k. whole e k ∙ (ap (λ (o : Owner). count k o (p.place e)) may.1 ∙ (ap (λ (q : ElementPlace). count k (owners.Hand cpu) q) at ∙ none_carried (ltb e shape.elements) (is_lru shape.kind) (lock_named shape k) cpu)))

  pub each_in_one_place : EachInOnePlace shape s
  each_in_one_place = record {
    inside = inside;
    free = free_once;
    free_not_listed = free_not_listed;
    free_only = free_only;
    bucket = bucket_once;
    owned = p.placed.owners;
    home = home_once;
    home_there = home_there;
    carried = carried_off;
    told = λ lru e real unlisted. is_told shape (p.place e) (sym (told_is e lru real) ∙ unlisted);
    plain = λ plain e real. untold e plain real;
    own = λ lru own e real. told_is e lru real ∙ own_home shape e (s.owner e) (p.place e) (p.placed.places e real) lru own;
    fit = p.placed.fit;
    cursors = p.placed.cursors;
  }
