-- In a new map that doesn't evict each element is on one freelist, or the spare of one CPU.
use Rattle.std.proofs.Common.{◌≡◌, ◌≢◌, ℕ, zero, suc, ◌+◌, ◌/◌, ◌<◌, ◌≤◌, Bool, true, false, cond, not, eqb, ltb, List, [], ◌∷◌, length, take, refl, ap, ◌∙◌, sym, subst, ⊎_elim, arith}
use Rattle.std.specs.Prelude.{None, Some, filter, option_to_list, slice_get, position}
use Rattle.std.specs.List.{flat_map, range_with_len, position_or_len}
use Rattle.std.proofs.Math.Nat.{zero-mul}
use Rattle.std.proofs.lemmas.Bool.{cond-true, cases_lt, lt-ltb, le-ltb, and_from}
use Rattle.std.proofs.lemmas.List.{length-take}
use Rattle.map_types.specs.declared.attr.Shape.{Shape}
use Rattle.map_types.specs.declared.kind.DomainId.TheVariants.{Freelist}
use Rattle.map_types.specs.declared.kind.MapKind.{MapKind}
use Rattle.map_types.specs.declared.kind.MapKind.TheVariants.{Hash, PercpuHash, LruHash, LruPercpuHash}
use Rattle.map_types.specs.ElementLists.{times, one}
use Rattle.map_types.specs.Kind.{is_lru}
use Rattle.map_types.specs.Shape.{HasBounds}
use Rattle.map_types.proofs.RowLemmas.{by_test, times_append}
use Rattle.place_words.specs.Histories.{replayed}
use Rattle.place_words.specs.Locks.{is_lock}
use Rattle.place_words.specs.Logs.{freelist_at, new_state}
use Rattle.place_words.specs.Openings.{is_free, opening_stack, opening_spares, first_spares, spare_owner, opening_owner, opening_free}
use Rattle.place_words.specs.Shares.{share_first}
use Rattle.place_words.proofs.OpeningSettled.{stack_count, share_all}
use Rattle.place_words.proofs.PlainRests.{in_buckets, on_freelists, IsKept, sum_below}
use Rattle.place_words.proofs.RestCounts.{sum_first, sum_zero, range_first}

-- Shares

stacks_count : (shape : Shape) (n e : ℕ) → sum_first (λ c. times e (opening_stack shape c)) n ≡ one (ltb e (share_first shape.elements shape.cpus n))
stacks_count shape zero e =
    let nothing : share_first shape.elements shape.cpus 0 ≡ 0 = (let none = zero-mul (shape.elements / shape.cpus) in omega arith) in sym (ap (λ k. one (ltb e k)) nothing ∙ ap one (le-ltb e 0 (omega arith)))
stacks_count shape (suc n) e = omega (arith, stacks_count shape n e, stack_count shape n e)

all_stacks : (shape : Shape) → HasBounds shape → (e : ℕ) → sum_first (λ c. times e (opening_stack shape c)) shape.cpus ≡ one (ltb e shape.elements)
all_stacks shape bounds e = stacks_count shape shape.cpus e ∙ ap (λ k. one (ltb e k)) (share_all shape.elements shape.cpus bounds.some_cpu)

-- What is filtered

filter_count : (p : ℕ → Bool) (e : ℕ) (xs : List ℕ) → times e (filter p xs) ≡ cond (p e) (times e xs) 0
filter_count p e [] = none (p e)
  where
    none : (b : Bool) → times e [] ≡ cond b (times e []) 0
    none true = refl
    none false = refl
filter_count p e (x ∷ xs) =
    by_test x e (λ b. times e (cond (p x) (x ∷ filter p xs) (filter p xs)) ≡ cond (p e) (cond b (suc (times e xs)) (times e xs)) 0)
    (λ same. subst (λ (y : ℕ). times e (cond (p x) (x ∷ filter p xs) (filter p xs)) ≡ cond (p y) (suc (times e xs)) 0) same (at (p x) same (subst (λ (y : ℕ). times e (filter p xs) ≡ cond (p y) (times e xs) 0) (sym same) (filter_count p e xs))))
    (λ other. apart (p x) other ∙ filter_count p e xs)
  where
    at : (b : Bool) → x ≡ e → times e (filter p xs) ≡ cond b (times e xs) 0 → times e (cond b (x ∷ filter p xs) (filter p xs)) ≡ cond b (suc (times e xs)) 0
    at true same rest = by_test x e (λ t. cond t (suc (times e (filter p xs))) (times e (filter p xs)) ≡ suc (times e xs)) (λ is. ap suc rest) (λ other. absurd (other same))
    at false same rest = rest

    apart : (b : Bool) → x ≢ e → times e (cond b (x ∷ filter p xs) (filter p xs)) ≡ times e (filter p xs)
    apart true other = by_test x e (λ t. cond t (suc (times e (filter p xs))) (times e (filter p xs)) ≡ times e (filter p xs)) (λ is. absurd (other is)) (λ is. refl)
    apart false other = refl

take_count : (e n : ℕ) (xs : List ℕ) → times e (take n xs) ≤ times e xs
take_count e zero xs = omega arith
take_count e (suc n) [] = omega arith
take_count e (suc n) (x ∷ xs) =
    by_test x e (λ b. cond b (suc (times e (take n xs))) (times e (take n xs)) ≤ cond b (suc (times e xs)) (times e xs)) (λ is. omega (arith, take_count e n xs)) (λ other. take_count e n xs)

-- Who is nobody's spare

absent : (e : ℕ) (xs : List ℕ) → times e xs ≡ 0 → position_or_len (λ x. eqb x e) xs ≡ length xs
absent e [] none = refl
absent e (x ∷ xs) none =
    by_test x e (λ b. cond b (suc (times e xs)) (times e xs) ≡ 0 → cond (not b) (1 + position_or_len (λ y. eqb y e) xs) 0 ≡ suc (length xs))
    (λ is some. absurd (omega (arith, some)))
    (λ other rest. omega (arith, absent e xs rest))
    none

there : (e : ℕ) (xs : List ℕ) → 1 ≤ times e xs → position_or_len (λ x. eqb x e) xs < length xs
there e [] some = absurd (omega (arith, some))
there e (x ∷ xs) some =
    by_test x e (λ b. 1 ≤ cond b (suc (times e xs)) (times e xs) → cond (not b) (1 + position_or_len (λ y. eqb y e) xs) 0 < suc (length xs))
    (λ is rest. omega arith)
    (λ other rest. omega (arith, there e xs rest))
    some

free_none : (e : ℕ) (xs : List ℕ) → times e xs ≡ 0 → is_free (spare_owner (position (λ x. eqb x e) xs)) ≡ true
free_none e xs none = at (ltb (position_or_len (λ x. eqb x e) xs) (length xs)) (le-ltb _ _ (omega (arith, absent e xs none)))
  where
    at : (b : Bool) → b ≡ false → is_free (spare_owner (cond b (Some (position_or_len (λ x. eqb x e) xs)) None)) ≡ true
    at true is = absurd cc
    at false is = refl

free_some : (e : ℕ) (xs : List ℕ) → 1 ≤ times e xs → is_free (spare_owner (position (λ x. eqb x e) xs)) ≡ false
free_some e xs some = at (ltb (position_or_len (λ x. eqb x e) xs) (length xs)) (lt-ltb _ _ (there e xs some))
  where
    at : (b : Bool) → b ≡ true → is_free (spare_owner (cond b (Some (position_or_len (λ x. eqb x e) xs)) None)) ≡ false
    at true is = refl
    at false is = absurd cc

-- an element that stands at most once in all is a spare or free
split_count : (e all : ℕ) (xs : List ℕ) → times e xs ≤ all → all ≤ 1 → cond (is_free (spare_owner (position (λ x. eqb x e) xs))) all 0 + times e xs ≡ all
split_count e all xs within few =
    ⊎_elim
    (λ (some : 0 < times e xs). let free : cond (is_free (spare_owner (position (λ x. eqb x e) xs))) all 0 ≡ 0 = ap (λ b. cond b all 0) (free_some e xs (omega (arith, some))) in omega (arith, free, some, within, few))
    (λ (none : times e xs ≤ 0). let free : cond (is_free (spare_owner (position (λ x. eqb x e) xs))) all 0 ≡ all = ap (λ b. cond b all 0) (free_none e xs (omega (arith, none))) in omega (arith, free, none))
    (cases_lt 0 (times e xs))

one_most : (b : Bool) → one b ≤ 1
one_most true = omega arith
one_most false = omega arith

pub spares_within : (shape : Shape) → HasBounds shape → (e : ℕ) → times e (opening_spares shape) ≤ one (ltb e shape.elements)
unfolding opening_spares
spares_within shape bounds e =
    let joined = range_first (λ c. times e (opening_stack shape c)) (λ cs. times e (flat_map (opening_stack shape) cs)) shape.cpus refl (λ c cs. times_append e (opening_stack shape c) (flat_map (opening_stack shape) cs)) in
    omega (arith, take_count e shape.cpus (flat_map (opening_stack shape) (range_with_len 0 shape.cpus)), joined, all_stacks shape bounds e)

kind_count : (shape : Shape) → HasBounds shape → (e : ℕ) (kind : MapKind) → is_lru kind ≡ false → cond (is_free (opening_owner shape kind e)) (one (ltb e shape.elements)) 0 + times e (first_spares shape kind) ≡ one (ltb e shape.elements)
unfolding opening_owner
kind_count shape bounds e Hash plain = split_count e (one (ltb e shape.elements)) (opening_spares shape) (spares_within shape bounds e) (one_most (ltb e shape.elements))
kind_count shape bounds e PercpuHash plain = omega arith
kind_count shape bounds e LruHash plain = absurd cc
kind_count shape bounds e LruPercpuHash plain = absurd cc

spares_few : (shape : Shape) (kind : MapKind) → length (first_spares shape kind) ≤ shape.cpus
unfolding opening_spares
spares_few shape Hash = omega (arith, length-take shape.cpus (flat_map (opening_stack shape) (range_with_len 0 shape.cpus)))
spares_few shape PercpuHash = omega arith
spares_few shape LruHash = omega arith
spares_few shape LruPercpuHash = omega arith

-- Sums from their first number

sum_shift : (f : ℕ → ℕ) (n : ℕ) → sum_first f (suc n) ≡ f 0 + sum_first (λ k. f (suc k)) n
sum_shift f zero = refl
sum_shift f (suc n) = omega (arith, sum_shift f n)

listed_sum : (e : ℕ) (xs : List ℕ) (n : ℕ) → length xs ≤ n → sum_first (λ k. times e (option_to_list (slice_get xs k))) n ≡ times e xs
listed_sum e [] n few = sum_zero n
listed_sum e (x ∷ xs) zero few = absurd (omega (arith, few))
listed_sum e (x ∷ xs) (suc n) few =
    let shift = sum_shift (λ k. times e (option_to_list (slice_get (x ∷ xs) k))) n in
    let rest = listed_sum e xs n (omega (arith, few)) in
    let more = times_append e (x ∷ []) xs in
    omega (arith, shift, rest, more)

-- Freelists

module _ (shape : Shape) (bounds : HasBounds shape) (plain : is_lru shape.kind ≡ false) where
  abbrev stays : ℕ → Bool
  stays e = is_free (opening_owner shape shape.kind e)

  free_is : (c : ℕ) → c < shape.cpus → opening_free shape (Freelist c) ≡ filter (λ e. is_free (opening_owner shape shape.kind e)) (opening_stack shape c)
  unfolding opening_free
  free_is c below = cond-true (is_lock shape (Freelist c)) _ _ (and_from (not (is_lru shape.kind)) (ltb c shape.cpus) (ap not plain) (lt-ltb c shape.cpus below))

  stack_is : (c : ℕ) → freelist_at shape (new_state shape) c ≡ opening_free shape (Freelist c)
  unfolding replayed
  stack_is c = refl

  empty_first : (e : ℕ) → in_buckets shape (new_state shape) e ≡ 0
  unfolding replayed
  empty_first e = sum_zero shape.buckets

  none_stays : (b : Bool) (e n : ℕ) → sum_first (λ c. cond b (times e (opening_stack shape c)) 0) n ≡ cond b (sum_first (λ c. times e (opening_stack shape c)) n) 0
  none_stays true e n = refl
  none_stays false e n = sum_zero n

  free_first : (e : ℕ) → on_freelists shape (new_state shape) e ≡ cond (stays e) (one (ltb e shape.elements)) 0
  free_first e =
      sum_below (λ c. times e (freelist_at shape (new_state shape) c)) (λ c. cond (stays e) (times e (opening_stack shape c)) 0) shape.cpus
      (λ c below. ap (times e) (stack_is c ∙ free_is c below) ∙ filter_count (λ x. is_free (opening_owner shape shape.kind x)) e (opening_stack shape c))
      ∙ none_stays (stays e) e shape.cpus ∙ ap (λ n. cond (stays e) n 0) (all_stacks shape bounds e)

  no_spare : (kind : MapKind) → kind ≢ Hash → is_lru kind ≡ false → (cpu : ℕ) → slice_get (first_spares shape kind) cpu ≡ None
  no_spare Hash other is cpu = absurd (other refl)
  no_spare PercpuHash other is cpu = refl
  no_spare LruHash other is cpu = absurd cc
  no_spare LruPercpuHash other is cpu = absurd cc

  pub first_kept : IsKept shape (new_state shape)
  first_kept = record {
    once = λ e. omega (arith, empty_first e, free_first e, listed_sum e (first_spares shape shape.kind) shape.cpus (spares_few shape shape.kind), kind_count shape bounds e shape.kind plain);
    no_spares = λ other cpu. no_spare shape.kind other plain cpu;
  }
