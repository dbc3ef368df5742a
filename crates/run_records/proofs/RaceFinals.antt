-- The lists that a closed table leaves after a race: each element is in one place, once, and each CPU's spare is the one that
-- its pass keeps.
use Rattle.std.proofs.Common.{◌≡◌, ◌≢◌, ℕ, zero, suc, ◌+◌, ◌<◌, ◌≤◌, Bool, true, false, cond, not, ◌&&◌, eqb, ltb, List, [], ◌∷◌, ◌++◌, length, map, Option, Some, None, All, refl, ap, sym, ◌∙◌, ⊎_elim, subst, arith}
use Rattle.std.specs.Prelude.{IsTrue, filter, unwrap_or, slice_get, slice_index_or, if◌then◌else◌}
use Rattle.std.specs.List.{AllByRecursion, range_with_len}
use Rattle.std.proofs.lemmas.Bool.{both_ways, cases_lt, eq-eqb, ne_eqb, lt-ltb, le-ltb, ltb-true, eqb-true, eqb-false, and_parts, and_right}
use Rattle.std.proofs.lemmas.List.Elements.{All-filter, All-from_recursion}
use Rattle.std.proofs.lemmas.List.FromFn.{length-map-range_with_len}
use Rattle.std.proofs.lemmas.Option.{none-some, slice_get_past}
use Rattle.map_types.specs.declared.attr.Shape.{Shape}
use Rattle.map_types.specs.declared.kind.DomainId.{DomainId}
use Rattle.map_types.specs.declared.kind.DomainId.TheVariants.{Local, Global, CpuLru, Bucket, Freelist}
use Rattle.map_types.specs.declared.kind.MapKind.{MapKind}
use Rattle.map_types.specs.declared.kind.MapKind.TheVariants.{Hash, PercpuHash, LruHash, LruPercpuHash}
use Rattle.map_types.specs.Kind.{is_lru}
use Rattle.map_types.specs.Shape.{HasBounds}
use Rattle.map_types.specs.Stored.{Stored}
use Rattle.place_words.specs.declared.owner.Owner.{Owner}
use Rattle.place_words.specs.declared.owner.Owner.TheVariants as owners
use Rattle.place_words.specs.Bodies.{numbers}
use Rattle.map_types.specs.ElementLists.{one, times}
use Rattle.map_types.proofs.RowLemmas.{times_append}
use Rattle.place_words.specs.Histories as histories
use Rattle.place_words.specs.Histories.{content}
use Rattle.place_words.specs.Locks.{is_lock, lock_named, lock_number, first_freelist}
use Rattle.place_words.specs.Openings.{is_free}
use Rattle.place_words.proofs.LockLemmas.{named_by_number, number_of_named, number_within}
use Rattle.place_words.specs.declared.step.Lists.{Lists}
use Rattle.place_words.specs.Places.{ElementPlace, under_lock, carried, lies_at, is_in_bucket, MayLie, MayLieUnder, MayOwn}
use Rattle.place_words.specs.Totals.{sum_below}
use Rattle.place_words.proofs.TotalLemmas.{sum_same, sum_zero, sum_hit, bucket_list}
use Rattle.place_table.specs.Closing.{ClosedView, IsClosed}
use Rattle.place_table.specs.Contents.{lists_of}
use Rattle.place_table.specs.Passes.{PassView, IsInNoCall, spare_of}
use Rattle.place_table.specs.Rules.{is_hand_of}
use Rattle.place_table.specs.Views.{is_among, is_in_hand_of}
use Rattle.place_table.proofs.FirstSlots.{not_common}
use Rattle.place_table.proofs.MapLeft as map_left
use Rattle.map_report.specs.EachOnce.{elements_of, in_buckets, on_freelists}
use Rattle.map_report.specs.Record.{Ascend, HasElements}
use Rattle.map_report.specs.Serial.{has_spares, spare_count}
use Rattle.map_report.proofs.EachAtRest.{each_once_from}
use Rattle.run_records.proofs.Closing.{number_in, few_spares}
use Rattle.serial_laws.proofs.HistoryTurns.{by_bool}
use Rattle.serial_laws.proofs.TurnLocks.{range_below}
use Rattle.serial_laws.proofs.RaceLists.{counts_permute, times_range, times_past, times_flat_map, times_concat, times_made}
use Rattle.serial_laws.proofs.ListPlaces.{made_there}

-- Numbers in order

range_above : (a b n : ℕ) → a < b → AllByRecursion (λ (y : ℕ). a < y) (range_with_len b n)
range_above a b zero above = tt
range_above a b (suc n) above = (above, range_above a (b + 1) n (omega arith))

ascends_where : (here : Bool) (a : ℕ) (xs : List ℕ) → All (λ (y : ℕ). a < y) xs → Ascend xs → Ascend (cond here (a ∷ xs) xs)
ascends_where true a xs above rest = (above, rest)
ascends_where false a xs above rest = rest

-- what a filter leaves of a range ascends
pub filter_ascends : (p : ℕ → Bool) (a n : ℕ) → Ascend (filter p (range_with_len a n))
filter_ascends p a zero = tt
filter_ascends p a (suc n) =
    ascends_where (p a) a (filter p (range_with_len (a + 1) n))
    (All-filter p (λ (y : ℕ). a < y) (range_with_len (a + 1) n) (All-from_recursion (λ (y : ℕ). a < y) (range_with_len (a + 1) n) (range_above a (a + 1) n (omega arith))))
    (filter_ascends p (a + 1) n)

-- Sums

none_of_sum : (n : ℕ) (f : ℕ → ℕ) → ((k : ℕ) → k < n → f k ≡ 0) → sum_below n f ≡ 0
none_of_sum n f none = sum_same n f (λ _. 0) none ∙ sum_zero n

shifted : (a x y : ℕ) → eqb (a + x) (a + y) ≡ eqb x y
shifted a x y =
    by_bool (eqb x y) (λ b. eqb x y ≡ b → eqb (a + x) (a + y) ≡ b)
    (λ _ is. eq-eqb (a + x) (a + y) (ap (λ n. a + n) (eqb-true x y is)))
    (λ _ is. ne_eqb (a + x) (a + y) (λ same. eqb-false x y is (omega arith))) refl

-- Of a map that doesn't evict each element is in one place

module _ (shape : Shape) (bounds : HasBounds shape) (built : is_lru shape.kind ≡ false) where
  shares_none : {X : Type 0} → IsTrue shape.common → X
  shares_none common = absurd (both_ways (is_lru shape.kind) built (bounds.common_evicts common))

  -- a free one lies under the lock of one freelist
  under_one : (e k : ℕ) (lock : DomainId) → lock_named shape k ≡ lock → MayLieUnder shape e lock → sum_below shape.cpus (λ c. one (eqb k (lock_number shape (Freelist c)))) ≡ 1
  under_one e k (Local cpu) named under = shares_none (and_parts shape.common (ltb cpu shape.cpus) under).0
  under_one e k Global named under = shares_none under
  under_one e k (CpuLru cpu) named under =
      let evicts = (and_parts (is_lru shape.kind) (not shape.common) (and_parts (is_lru shape.kind && not shape.common) (ltb cpu shape.cpus) under.0).0).0 in
      absurd (both_ways (is_lru shape.kind) built evicts)
  under_one e k (Bucket bucket) named under = absurd under
  under_one e k (Freelist cpu) named under =
      let real : cpu < shape.cpus = ltb-true cpu shape.cpus (and_parts (not (is_lru shape.kind)) (ltb cpu shape.cpus) under).1 in
      let number : k ≡ lock_number shape (Freelist cpu) = sym (number_of_named shape k) ∙ ap (lock_number shape) named in
      sum_same shape.cpus (λ c. one (eqb k (lock_number shape (Freelist c)))) (λ c. one (eqb cpu c)) (λ c below. ap (λ n. one (eqb n (lock_number shape (Freelist c)))) number ∙ ap one (shifted (first_freelist shape) cpu c))
      ∙ sum_hit shape.cpus cpu real

  free_once : (e : ℕ) (o : Owner) (place : ElementPlace) → MayLie shape e o place → sum_below shape.cpus (λ c. one (lies_at (lock_number shape (Freelist c)) place)) ≡ 1
  free_once e o (under_lock k) may = under_one e k (lock_named shape k) refl may
  free_once e o (carried cpu) may = shares_none may.0

  in_one_place : (e : ℕ) (o : Owner) (place : ElementPlace) → MayOwn shape o → MayLie shape e o place
      → sum_below shape.buckets (λ b. one (is_in_bucket b o)) + sum_below shape.cpus (λ c. one (is_free o && lies_at (lock_number shape (Freelist c)) place)) + sum_below shape.cpus (λ c. one (is_hand_of c o)) ≡ 1
  in_one_place e owners.Free place own may =
      let buckets = sum_zero shape.buckets in
      let free = free_once e owners.Free place may in
      let hands = sum_zero shape.cpus in
      omega arith
  in_one_place e (owners.Bucket bucket) place own may =
      let buckets = sum_hit shape.buckets bucket own in
      let rest = sum_zero shape.cpus in
      omega arith
  in_one_place e (owners.Hand cpu) place own may =
      let buckets = sum_zero shape.buckets in
      let free = sum_zero shape.cpus in
      let hands = sum_hit shape.cpus cpu own in
      omega arith

-- The lists at the end

module _ (shape : Shape) (p : PassView) (closed : ClosedView) (ends : IsClosed shape p closed) where
  pub lists_there : (lock : DomainId) → IsTrue (is_lock shape lock) → ends.core.lists (lock_number shape lock) ≡ lists_of (content shape lock (ends.log (lock_number shape lock)))
  lists_there lock real =
      let k : ℕ = lock_number shape lock in
      let named = named_by_number shape lock real in
      ends.lists_are k (number_within shape lock real) (ap (is_lock shape) named ∙ real) ∙ ap (λ (d : DomainId). lists_of (content shape d (ends.log k))) named

  pub in_bucket_lists : (e : ℕ) → times e (in_buckets closed.finals) ≡ sum_below shape.buckets (λ b. one (ltb e shape.elements && is_in_bucket b (ends.core.owner e)))
  in_bucket_lists e =
      times_flat_map (λ bucket. map (λ (stored : Stored). stored.element) bucket) [] e closed.finals.buckets
      ∙ ap (λ n. sum_below n (λ b. times e (numbers (slice_index_or closed.finals.buckets b [])))) (map_left.buckets_counted ends.left)
      ∙ sum_same shape.buckets (λ b. times e (numbers (slice_index_or closed.finals.buckets b []))) (λ b. one (ltb e shape.elements && is_in_bucket b (ends.core.owner e)))
      (λ b real.
      let there = lists_there (Bucket b) (lt-ltb b shape.buckets real) in
      let same : (ends.core.lists (lock_number shape (Bucket b))).first ≡ numbers (slice_index_or closed.finals.buckets b []) =
      ap (λ (l : Lists). l.first) there ∙ ap (λ (c : histories.Content). (lists_of c).first) (sym (map_left.buckets_are ends.left b real)) in
      ap (times e) (sym same) ∙ bucket_list shape ends.core ends.placed b e real)

  -- what is marked are elements of the map, in order
  marked_below : All (λ (element : ℕ). element < shape.elements) closed.finals.marked
  marked_below =
      subst (All (λ (element : ℕ). element < shape.elements)) (sym (map_left.marked_are ends.left))
      (All-filter ends.core.bit (λ (element : ℕ). element < shape.elements) (range_with_len 0 shape.elements)
      (All-from_recursion (λ (element : ℕ). element < shape.elements) (range_with_len 0 shape.elements) (range_below shape.elements 0 shape.elements (omega arith))))

  pub marked_ascend : Ascend closed.finals.marked
  marked_ascend = subst Ascend (sym (map_left.marked_are ends.left)) (filter_ascends ends.core.bit 0 shape.elements)

-- a kind that has no spares isn't HASH
not_hash : (kind : MapKind) → has_spares kind ≡ false → kind ≡ Hash → ⊥
not_hash kind none is = let some : has_spares kind ≡ true = ap has_spares is in absurd (both_ways (has_spares kind) none some)

module _ (shape : Shape) (p : PassView) (closed : ClosedView) (ends : IsClosed shape p closed)
    (shape_is : p.view.shape ≡ shape) (all_cpus : (cpu : ℕ) → cpu < shape.cpus → is_among cpu p.view.cpus ≡ true) (idle : IsInNoCall p)
    (spareless : shape.kind ≢ Hash → (cpu : ℕ) → cpu < shape.cpus → spare_of cpu p.spares ≡ None) where
  -- Spares

  none_beyond : (cpu : ℕ) → shape.cpus ≤ cpu → (found : Option Stored) → spare_of cpu p.spares ≡ found → found ≡ None
  none_beyond cpu past None is = refl
  none_beyond cpu past (Some body) is = let real = ends.in_hand body.element cpu (idle.spares_in_hand cpu body is) in absurd (omega arith)

  abbrev spare_number : ℕ → ℕ
  spare_number cpu = unwrap_or (number_in (spare_of cpu p.spares)) 0

  abbrev pub spares_by : MapKind → List ℕ
  spares_by Hash = map spare_number (range_with_len 0 shape.cpus)
  spares_by PercpuHash = []
  spares_by LruHash = []
  spares_by LruPercpuHash = []

  kept_there : shape.kind ≡ Hash → (cpu : ℕ) → cpu < shape.cpus → (body : Stored) × (spare_of cpu p.spares ≡ Some body)
  kept_there hash cpu real = idle.none_out (ap (λ (s : Shape). s.kind) shape_is ∙ hash) cpu (all_cpus cpu real)

  number_there : (cpu : ℕ) (body : Stored) → spare_of cpu p.spares ≡ Some body → spare_number cpu ≡ body.element
  number_there cpu body is = ap (λ (spare : Option Stored). unwrap_or (number_in spare) 0) is

  -- where the map has no spares none is there
  none_by : (kind : MapKind) → shape.kind ≡ kind → has_spares kind ≡ false → (cpu : ℕ) → number_in (spare_of cpu p.spares) ≡ None
  none_by kind is none cpu =
      ap number_in (⊎_elim (λ (real : cpu < shape.cpus). spareless (λ hash. not_hash kind none (sym is ∙ hash)) cpu real) (λ (past : shape.cpus ≤ cpu). none_beyond cpu past (spare_of cpu p.spares) refl) (cases_lt cpu shape.cpus))

  spare_by : (kind : MapKind) → shape.kind ≡ kind → (cpu : ℕ) → number_in (spare_of cpu p.spares) ≡ slice_get (spares_by kind) cpu
  spare_by Hash is cpu =
      ⊎_elim
      (λ (real : cpu < shape.cpus).
      let kept = kept_there is cpu real in
      ap number_in kept.1 ∙ ap Some (sym (number_there cpu kept.0 kept.1)) ∙ sym (made_there spare_number shape.cpus cpu real))
      (λ (past : shape.cpus ≤ cpu).
      let long = length-map-range_with_len spare_number 0 shape.cpus in
      ap number_in (none_beyond cpu past (spare_of cpu p.spares) refl) ∙ sym (slice_get_past (map spare_number (range_with_len 0 shape.cpus)) cpu (omega arith)))
      (cases_lt cpu shape.cpus)
  spare_by PercpuHash is cpu = none_by PercpuHash is refl cpu
  spare_by LruHash is cpu = none_by LruHash is refl cpu
  spare_by LruPercpuHash is cpu = none_by LruPercpuHash is refl cpu

  spares_counted : (kind : MapKind) → shape.kind ≡ kind → length (spares_by kind) ≡ spare_count shape
  spares_counted Hash is = length-map-range_with_len spare_number 0 shape.cpus ∙ sym (ap (λ k. if has_spares k then shape.cpus else 0) is)
  spares_counted PercpuHash is = sym (ap (λ k. if has_spares k then shape.cpus else 0) is)
  spares_counted LruHash is = sym (ap (λ k. if has_spares k then shape.cpus else 0) is)
  spares_counted LruPercpuHash is = sym (ap (λ k. if has_spares k then shape.cpus else 0) is)

  pub spares_are : closed.finals.spares ≡ spares_by shape.kind
  spares_are =
      let counted = spares_counted shape.kind refl in
      let few = few_spares shape in
      map_left.spares_are ends.left ∙ map_left.spares_listed shape p.spares (spares_by shape.kind) (omega arith) (spare_by shape.kind refl)

  -- of each CPU it is the one that the pass keeps
  pub spare_is : (cpu : ℕ) → slice_get closed.finals.spares cpu ≡ number_in (spare_of cpu p.spares)
  spare_is cpu = ap (λ (l : List ℕ). slice_get l cpu) spares_are ∙ sym (spare_by shape.kind refl cpu)

  -- Counts

  in_freelists : is_lru shape.kind ≡ false → (e : ℕ) → times e (on_freelists closed.finals) ≡ sum_below shape.cpus (λ c. one (ltb e shape.elements && (is_free (ends.core.owner e) && lies_at (lock_number shape (Freelist c)) (ends.placed.place e))))
  in_freelists built e =
      times_concat e closed.finals.freelists
      ∙ ap (λ n. sum_below n (λ c. times e (slice_index_or closed.finals.freelists c []))) (map_left.freelists_counted ends.left built)
      ∙ sum_same shape.cpus (λ c. times e (slice_index_or closed.finals.freelists c [])) (λ c. one (ltb e shape.elements && (is_free (ends.core.owner e) && lies_at (lock_number shape (Freelist c)) (ends.placed.place e))))
      (λ c real.
      let there = lists_there shape p closed ends (Freelist c) (λ i. not (built i) && lt-ltb c shape.cpus real i) in
      let same : (ends.core.lists (lock_number shape (Freelist c))).free ≡ slice_index_or closed.finals.freelists c [] =
      ap (λ (l : Lists). l.free) there ∙ ap (λ (c : histories.Content). (lists_of c).free) (sym (map_left.freelists_are ends.left built c real)) in
      ap (times e) (sym same) ∙ ends.placed.placed.free (lock_number shape (Freelist c)) e)

  -- and no CPU has anything in hand
  pub nothing_in_hand : shape.kind ≢ Hash → (e c : ℕ) → c < shape.cpus → is_hand_of c (ends.core.owner e) ≡ false
  nothing_in_hand other e c real =
      ends.hands e c real
      ∙ by_bool (is_in_hand_of e c p.view.hand) (λ b. is_in_hand_of e c p.view.hand ≡ b → b ≡ false)
      (λ _ in_hand.
      let own = idle.spares_only e c (all_cpus c real) in_hand in
      absurd (none-some own.0 (sym (spareless other c real) ∙ own.1)))
      (λ _ _. refl) refl

  no_hands : shape.kind ≢ Hash → (e : ℕ) → 0 ≡ sum_below shape.cpus (λ c. one (ltb e shape.elements && is_hand_of c (ends.core.owner e)))
  no_hands other e =
      sym (none_of_sum shape.cpus (λ c. one (ltb e shape.elements && is_hand_of c (ends.core.owner e)))
      (λ c real. ap (λ b. one (ltb e shape.elements && b)) (nothing_in_hand other e c real) ∙ ap one (and_right (ltb e shape.elements) false refl)))

  in_hands : (kind : MapKind) → shape.kind ≡ kind → (e : ℕ) → times e (spares_by kind) ≡ sum_below shape.cpus (λ c. one (ltb e shape.elements && is_hand_of c (ends.core.owner e)))
  in_hands Hash is e =
      times_made spare_number e 0 shape.cpus
      ∙ sum_same shape.cpus (λ c. one (eqb (spare_number (0 + c)) e)) (λ c. one (ltb e shape.elements && is_hand_of c (ends.core.owner e)))
      (λ c real. ap one (ap (λ n. eqb (spare_number n) e) (let plain : 0 + c ≡ c = omega arith in plain) ∙ its_spare c real ∙ ap (λ b. ltb e shape.elements && b) (sym (ends.hands e c real))))
    where
      its_spare : (c : ℕ) → c < shape.cpus → eqb (spare_number c) e ≡ (ltb e shape.elements && is_in_hand_of e c p.view.hand)
      its_spare c real =
          by_bool (is_in_hand_of e c p.view.hand) (λ b. is_in_hand_of e c p.view.hand ≡ b → eqb (spare_number c) e ≡ (ltb e shape.elements && b))
          (λ _ in_hand.
          let own = idle.spares_only e c (all_cpus c real) in_hand in
          let below = (ends.in_hand e c in_hand).0 in
          eq-eqb (spare_number c) e (number_there c own.0 own.1 ∙ own.2) ∙ (λ i. sym (lt-ltb e shape.elements below) i && true))
          (λ _ out.
          let kept = kept_there is c real in
          ne_eqb (spare_number c) e (λ same.
          let here : is_in_hand_of e c p.view.hand ≡ true = ap (λ n. is_in_hand_of n c p.view.hand) (sym same ∙ number_there c kept.0 kept.1) ∙ idle.spares_in_hand c kept.0 kept.1 in
          cc)
          ∙ sym (and_right (ltb e shape.elements) false refl))
          refl
  in_hands PercpuHash is e = no_hands (λ hash. not_hash PercpuHash refl (sym is ∙ hash)) e
  in_hands LruHash is e = no_hands (λ hash. not_hash LruHash refl (sym is ∙ hash)) e
  in_hands LruPercpuHash is e = no_hands (λ hash. not_hash LruPercpuHash refl (sym is ∙ hash)) e

  counted : HasBounds shape → is_lru shape.kind ≡ false → (e : ℕ) → times e (range_with_len 0 shape.elements) ≡ times e (elements_of closed.finals)
  counted bounds built e =
      let whole = times_append e (in_buckets closed.finals ++ on_freelists closed.finals) closed.finals.spares in
      let lists = times_append e (in_buckets closed.finals) (on_freelists closed.finals) in
      let buckets = in_bucket_lists shape p closed ends e in
      let freelists = in_freelists built e in
      let spares = ap (times e) spares_are ∙ in_hands shape.kind refl e in
      ⊎_elim
      (λ (real : e < shape.elements).
      let once = times_range e 0 shape.elements (omega arith) (omega arith) in
      let here = in_one_place shape bounds built e (ends.core.owner e) (ends.placed.place e) (ends.placed.placed.owners e real) (ends.placed.placed.places e real) in
      let below = lt-ltb e shape.elements real in
      let b = ap (λ t. sum_below shape.buckets (λ b. one (t && is_in_bucket b (ends.core.owner e)))) below in
      let f = ap (λ t. sum_below shape.cpus (λ c. one (t && (is_free (ends.core.owner e) && lies_at (lock_number shape (Freelist c)) (ends.placed.place e))))) below in
      let h = ap (λ t. sum_below shape.cpus (λ c. one (t && is_hand_of c (ends.core.owner e)))) below in
      omega arith)
      (λ (past : shape.elements ≤ e).
      let none = times_past e 0 shape.elements (omega arith) in
      let beyond = le-ltb e shape.elements past in
      let b = ap (λ t. sum_below shape.buckets (λ b. one (t && is_in_bucket b (ends.core.owner e)))) beyond in
      let f = ap (λ t. sum_below shape.cpus (λ c. one (t && (is_free (ends.core.owner e) && lies_at (lock_number shape (Freelist c)) (ends.placed.place e))))) beyond in
      let h = ap (λ t. sum_below shape.cpus (λ c. one (t && is_hand_of c (ends.core.owner e)))) beyond in
      let zero_buckets = sum_zero shape.buckets in
      let zero_cpus = sum_zero shape.cpus in
      omega arith)
      (cases_lt e shape.elements)

  pub elements_left : HasBounds shape → is_lru shape.kind ≡ false → HasElements shape closed.finals
  elements_left bounds built = record {
    lengths = record {
      buckets = map_left.buckets_counted ends.left;
      freelists = map_left.freelists_counted ends.left built;
      spares = ap length spares_are ∙ spares_counted shape.kind refl;
    };
    each_once = each_once_from shape.elements closed.finals (counts_permute (range_with_len 0 shape.elements) (elements_of closed.finals) (counted bounds built));
    no_sets = map_left.no_sets ends.left built (not_common shape bounds built);
    no_locals = map_left.no_locals ends.left (not_common shape bounds built);
    marked = marked_below shape p closed ends;
    in_order = marked_ascend shape p closed ends;
  }
