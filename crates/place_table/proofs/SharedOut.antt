-- The turns of a lock, whose record isn't lost, are shared out among the strands that are told.
use Rattle.std.proofs.Common.{◌≡◌, ℕ, zero, suc, ◌+◌, ◌<◌, ◌≤◌, eqb, cond, Bool, true, false, List, [], ◌∷◌, length, map, sym, refl, ap, ◌∙◌, subst, arith, Some}
use Rattle.std.specs.Prelude.{not, All, filter, slice_get}
use Rattle.std.specs.List.{range_with_len}
use Rattle.std.proofs.lemmas.List.{length-map}
use Rattle.std.proofs.lemmas.Option.{slice_get_within, get_or_from_slice_get}
use Rattle.map_types.specs.declared.attr.Shape.{Shape}
use Rattle.map_types.specs.declared.kind.DomainId.{DomainId}
use Rattle.place_words.specs.declared.history.Entry.{Entry}
use Rattle.place_words.specs.declared.history.Strand.{Strand}
use Rattle.place_words.specs.declared.history.StrandStep.{StrandStep}
use Rattle.map_types.specs.ElementLists.{times, IsIn}
use Rattle.map_types.proofs.RowLemmas.{by_test}
use Rattle.place_words.specs.Strands.{places_on, AreSharedOut}
use Rattle.place_table.specs.declared.view.Ended.{Ended}
use Rattle.place_table.specs.Views.{is_among, is_recorded}
use Rattle.place_table.specs.Rules.{turns_on, indexes}
use Rattle.place_table.specs.Passes.{HasCpusOf}
use Rattle.place_table.specs.Closing.{numbered, turns_by, strand_told, strands_told, AreTurnsOf}
use Rattle.place_table.proofs.Worlds.{by_bool, true_false, some_is, none_some}
use Rattle.place_table.proofs.StrandNumbers.{same_true, other_false, one_less}

-- ---- lists

pub item_there : {A : Type 0} (l : List A) (i : ℕ) → i < length l → (a : A) × (slice_get l i ≡ Some a)
item_there [] i less = absurd (omega arith)
item_there (x ∷ xs) zero less = (x, refl)
item_there (x ∷ xs) (suc i) less = item_there xs i (omega arith)

map_from : {A B : Type 0} (f : A → B) (l : List A) (n : ℕ) (b : B) → slice_get (map f l) n ≡ Some b → (a : A) × (slice_get l n ≡ Some a) × (f a ≡ b)
map_from f [] n b found = absurd (none_some found)
map_from f (x ∷ xs) zero b found = (x, refl, some_is found)
map_from f (x ∷ xs) (suc n) b found = map_from f xs n b found

-- those of a range that pass, by their test there
pub filter_same : (f g : ℕ → Bool) (a n : ℕ) → ((c : ℕ) → a ≤ c → c < a + n → f c ≡ g c) → filter f (range_with_len a n) ≡ filter g (range_with_len a n)
filter_same f g a zero same = refl
filter_same f g a (suc n) same =
    ap (λ (l : List ℕ). cond {A = List ℕ} (f a) (a ∷ l) l) (filter_same f g (a + 1) n (λ c low less. same c (omega arith) (omega arith)))
    ∙ ap (λ (b : Bool). cond {A = List ℕ} b (a ∷ filter g (range_with_len (a + 1) n)) (filter g (range_with_len (a + 1) n))) (same a (omega arith) (omega arith))

in_filter : (test : ℕ → Bool) (c a n : ℕ) → a ≤ c → c < a + n → test c ≡ true → IsIn c (filter test (range_with_len a n))
in_filter test c a zero low less passes = absurd (omega arith)
in_filter test c a (suc n) low less passes =
    by_test a c (λ _. IsIn c (filter test (range_with_len a (suc n))))
    (λ same. subst (λ (b : Bool). IsIn c (cond b (a ∷ filter test (range_with_len (a + 1) n)) (filter test (range_with_len (a + 1) n)))) (sym (ap test same ∙ passes))
    (by_test a c (λ b. 0 < cond b (suc (times c (filter test (range_with_len (a + 1) n)))) (times c (filter test (range_with_len (a + 1) n)))) (λ _. omega arith) (λ other. absurd (other same))))
    (λ other. by_bool (test a) (λ b. IsIn c (cond b (a ∷ filter test (range_with_len (a + 1) n)) (filter test (range_with_len (a + 1) n))))
    (λ _. by_test a c (λ b. 0 < cond b (suc (times c (filter test (range_with_len (a + 1) n)))) (times c (filter test (range_with_len (a + 1) n)))) (λ _. omega arith) (λ _. in_filter test c (a + 1) n (omega arith) (omega arith) passes))
    (λ _. in_filter test c (a + 1) n (omega arith) (omega arith) passes))

indexes_by : (strand_at : ℕ → ℕ) (n i : ℕ) (log : List Entry) → indexes (turns_by strand_at n (numbered i log)) ≡ filter (λ place. eqb (strand_at place) n) (range_with_len i (length log))
indexes_by strand_at n i [] = refl
indexes_by strand_at n i (x ∷ xs) =
    let rest : indexes (turns_by strand_at n (numbered (suc i) xs)) ≡ filter (λ place. eqb (strand_at place) n) (range_with_len (i + 1) (length xs)) =
    indexes_by strand_at n (suc i) xs ∙ ap (λ (j : ℕ). filter (λ place. eqb (strand_at place) n) (range_with_len j (length xs))) (omega arith) in
    by_bool (eqb (strand_at i) n) (λ b. indexes (cond {A = List (ℕ × Entry)} b ((i, x) ∷ turns_by strand_at n (numbered (suc i) xs)) (turns_by strand_at n (numbered (suc i) xs)))
    ≡ cond {A = List ℕ} b (i ∷ filter (λ place. eqb (strand_at place) n) (range_with_len (i + 1) (length xs))) (filter (λ place. eqb (strand_at place) n) (range_with_len (i + 1) (length xs))))
    (λ _. ap (λ (l : List ℕ). i ∷ l) rest) (λ _. rest)

-- ---- the strands with a recorded step, by how many stand before them

abbrev pub rank : List Ended → ℕ → ℕ
rank [] n = 0
rank (e ∷ es) zero = 0
rank (e ∷ es) (suc n) = cond (is_recorded e) (suc (rank es n)) (rank es n)

rank_there : (es : List Ended) (n : ℕ) (e : Ended) → slice_get es n ≡ Some e → is_recorded e ≡ true → slice_get (filter is_recorded es) (rank es n) ≡ Some e
rank_there [] n e found recorded = absurd (none_some found)
rank_there (x ∷ xs) zero e found recorded =
    by_bool (is_recorded x) (λ b. slice_get (cond b (x ∷ filter is_recorded xs) (filter is_recorded xs)) 0 ≡ Some e)
    (λ _. found) (λ not_it. true_false (sym recorded ∙ (ap is_recorded (sym (some_is found)) ∙ not_it)))
rank_there (x ∷ xs) (suc n) e found recorded =
    by_bool (is_recorded x) (λ b. slice_get (cond b (x ∷ filter is_recorded xs) (filter is_recorded xs)) (cond b (suc (rank xs n)) (rank xs n)) ≡ Some e)
    (λ _. rank_there xs n e found recorded) (λ _. rank_there xs n e found recorded)

record RankedAt (es : List Ended) (m : ℕ) (e : Ended) : Type 0 where
  place : ℕ
  found : slice_get es place ≡ Some e
  recorded : is_recorded e ≡ true
  ranked : rank es place ≡ m

ranked_first : (x : Ended) (xs : List Ended) (m : ℕ) (e : Ended) → is_recorded x ≡ true → slice_get (x ∷ filter is_recorded xs) m ≡ Some e → ((n : ℕ) → slice_get (filter is_recorded xs) n ≡ Some e → RankedAt xs n e) → RankedAt (x ∷ xs) m e
ranked_first x xs zero e here found more = record { place = 0; found = found; recorded = ap is_recorded (sym (some_is found)) ∙ here; ranked = refl }
ranked_first x xs (suc m) e here found more =
    let there = more m found in record {
      place = suc there.place;
      found = there.found;
      recorded = there.recorded;
      ranked = ap (λ (b : Bool). cond b (suc (rank xs there.place)) (rank xs there.place)) here ∙ ap suc there.ranked;
    }

ranked_later : (x : Ended) (xs : List Ended) (m : ℕ) (e : Ended) → is_recorded x ≡ false → RankedAt xs m e → RankedAt (x ∷ xs) m e
ranked_later x xs m e not_it there = record {
  place = suc there.place;
  found = there.found;
  recorded = there.recorded;
  ranked = ap (λ (b : Bool). cond b (suc (rank xs there.place)) (rank xs there.place)) not_it ∙ there.ranked;
}

rank_from : (es : List Ended) (m : ℕ) (e : Ended) → slice_get (filter is_recorded es) m ≡ Some e → RankedAt es m e
rank_from [] m e found = absurd (none_some found)
rank_from (x ∷ xs) m e found =
    by_bool (is_recorded x) (λ b. slice_get (cond b (x ∷ filter is_recorded xs) (filter is_recorded xs)) m ≡ Some e → RankedAt (x ∷ xs) m e)
    (λ here f. ranked_first x xs m e here f (λ n g. rank_from xs n e g))
    (λ not_it f. ranked_later x xs m e not_it (rank_from xs m e f)) found

-- two of them have one rank where they have one place
rank_one : (es : List Ended) (a b : ℕ) (x y : Ended) → slice_get es a ≡ Some x → is_recorded x ≡ true → slice_get es b ≡ Some y → is_recorded y ≡ true → eqb (rank es a) (rank es b) ≡ eqb a b
rank_one [] a b x y at_a first at_b second = absurd (none_some at_a)
rank_one (e ∷ es) zero zero x y at_a first at_b second = refl
rank_one (e ∷ es) zero (suc b) x y at_a first at_b second =
    ap (λ (t : Bool). eqb 0 (cond t (suc (rank es b)) (rank es b))) (ap is_recorded (some_is at_a) ∙ first)
    ∙ (sym (other_false 0 (suc (rank es b)) (omega arith)) ∙ other_false 0 (suc b) (omega arith))
rank_one (e ∷ es) (suc a) zero x y at_a first at_b second =
    ap (λ (t : Bool). eqb (cond t (suc (rank es a)) (rank es a)) 0) (ap is_recorded (some_is at_b) ∙ second)
    ∙ (sym (other_false (suc (rank es a)) 0 (omega arith)) ∙ other_false (suc a) 0 (omega arith))
rank_one (e ∷ es) (suc a) (suc b) x y at_a first at_b second =
    let rest = rank_one es a b x y at_a first at_b second in
    by_bool (is_recorded e) (λ t. eqb (cond t (suc (rank es a)) (rank es a)) (cond t (suc (rank es b)) (rank es b)) ≡ eqb (suc a) (suc b))
    (λ _. one_less (rank es a) (rank es b) ∙ (rest ∙ sym (one_less a b)))
    (λ _. rest ∙ sym (one_less a b))

-- ---- what is told

some_kept : (lock : DomainId) (kept : List StrandStep) (c : ℕ) → IsIn c (places_on lock kept) → not (eqb (length kept) 0) ≡ true
some_kept lock [] c there = absurd (omega arith)
some_kept lock (x ∷ xs) c there = ap not (sym (other_false (suc (length xs)) 0 (omega arith)))

has_cpus : (shape : Shape) (es : List Ended) (n : ℕ) (e : Ended) → All (HasCpusOf shape) es → slice_get es n ≡ Some e → HasCpusOf shape e
has_cpus shape es n e all found = subst (HasCpusOf shape) (get_or_from_slice_get es n e e found) (all n e (slice_get_within es n e found))

module _ (shape : Shape) (k : ℕ) (lock : DomainId) (es : List Ended) (log : List Entry) (t : AreTurnsOf k es log)
    (recorded : (n : ℕ) (e : Ended) → slice_get es n ≡ Some e → places_on lock e.kept ≡ indexes (turns_on k e.steps)) (within : All (HasCpusOf shape) es) where
  -- the places that a strand's recorded steps name
  places : (n : ℕ) (e : Ended) → slice_get es n ≡ Some e → places_on lock e.kept ≡ filter (λ place. eqb (t.strand_at place) n) (range_with_len 0 (length log))
  places n e found = recorded n e found ∙ (ap indexes (t.turns n e found) ∙ indexes_by t.strand_at n 0 log)

  -- the strand of a turn has a recorded step
  strand_of : (place : ℕ) → place < length log → (e : Ended) × (slice_get es (t.strand_at place) ≡ Some e) × (is_recorded e ≡ true)
  strand_of place less =
      let there = item_there es (t.strand_at place) (t.within place less) in (
        there.0,
        there.1,
        some_kept lock there.0.kept place
            (subst (IsIn place) (sym (places (t.strand_at place) there.0 there.1))
            (in_filter (λ other. eqb (t.strand_at other) (t.strand_at place)) place 0 (length log) (omega arith) (omega arith) (sym (same_true (t.strand_at place) (t.strand_at place) refl)))),
      )

  pub shared_told : AreSharedOut lock (strands_told shape es) log
  shared_told = record {
    strand_at = λ place. rank es (t.strand_at place);
    within = λ place less.
        let s = strand_of place less in
        subst (λ (n : ℕ). rank es (t.strand_at place) < n) (sym (length-map (filter is_recorded es) (strand_told shape)))
        (slice_get_within (filter is_recorded es) (rank es (t.strand_at place)) s.0 (rank_there es (t.strand_at place) s.0 s.1 s.2));
    has_cpu = λ place entry strand at_place at_strand.
        let s = strand_of place (slice_get_within log place entry at_place) in
        let told = map_from (strand_told shape) (filter is_recorded es) (rank es (t.strand_at place)) strand at_strand in
        let same : told.0 ≡ s.0 = some_is (sym told.1 ∙ rank_there es (t.strand_at place) s.0 s.1 s.2) in
        let among : is_among entry.cpu s.0.cpus ≡ true = t.has_cpu place entry s.0 at_place s.1 in
        subst (λ (z : Strand). IsIn entry.cpu z.cpus) (ap (strand_told shape) (sym same) ∙ told.2)
        (in_filter (λ cpu. is_among cpu s.0.cpus) entry.cpu 0 shape.cpus (omega arith) (let less = has_cpus shape es (t.strand_at place) s.0 within s.1 entry.cpu among in omega arith) among);
    steps = λ n strand at_n.
        let told = map_from (strand_told shape) (filter is_recorded es) n strand at_n in
        let from = rank_from es n told.0 told.1 in
        ap (λ (z : Strand). places_on lock z.steps) (sym told.2) ∙ (places from.place told.0 from.found
        ∙ filter_same (λ place. eqb (t.strand_at place) from.place) (λ place. eqb (rank es (t.strand_at place)) n) 0 (length log)
        (λ place low less. let s = strand_of place (omega arith) in
        sym (rank_one es (t.strand_at place) from.place s.0 told.0 s.1 s.2 from.found from.recorded) ∙ ap (eqb (rank es (t.strand_at place))) from.ranked));
  }
