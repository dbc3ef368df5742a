-- What lies under each lock at first.
use Rattle.std.proofs.Common.{◌≡◌, ℕ, suc, ◌+◌, ◌<◌, ◌≤◌, Bool, true, false, not, ◌&&◌, cond, ltb, List, [], ◌∷◌, ◌++◌, length, All, Option, Some, ap, ◌∙◌, sym, subst, ⊎_elim, arith}
use Rattle.std.specs.Prelude.{filter, nat_lt}
use Rattle.std.proofs.lemmas.Bool.{cases_Bool, cases_eq, and_parts, lt-ltb, ltb-true}
use Rattle.std.proofs.lemmas.List.{length-append}
use Rattle.std.proofs.lemmas.List.Elements.{All-nil}
use Rattle.atomic_table.proofs.Lists.{at_last, at_longer}
use Rattle.map_types.specs.declared.attr.Shape.{Shape}
use Rattle.map_types.specs.declared.kind.DomainId.{DomainId}
use Rattle.map_types.specs.declared.kind.DomainId.TheVariants.{Local, Global, CpuLru, Bucket, Freelist}
use Rattle.map_types.specs.ElementLists.{one, times, IsIn}
use Rattle.map_types.specs.Shape.{HasBounds}
use Rattle.map_types.specs.Kind.{is_lru}
use Rattle.map_types.specs.Stored.{IsSized}
use Rattle.percpu_values.specs.BodyList.{BodyList}
use Rattle.place_words.specs.Histories.{in_bucket}
use Rattle.place_words.specs.Locks.{is_lock, first_bucket, lock_named, lock_number}
use Rattle.place_words.proofs.LockLemmas.{named_by_number}
use Rattle.place_words.specs.Openings.{is_free, opening_owner, opening_pushed, opening_free}
use Rattle.place_words.specs.Shares.{share_count}
use Rattle.place_words.specs.OpeningState.{opening, opening_lists}
use Rattle.place_words.proofs.OpeningLaws.{opening_placed}
use Rattle.place_words.proofs.OpeningLemmas.{first_next, first_up, first_of_all}
use Rattle.place_words.proofs.RowLemmas.{stands_where}
use Rattle.place_table.specs.declared.content.Behind.{Behind}
use Rattle.place_table.specs.declared.content.Content.{Content}
use Rattle.place_table.specs.declared.content.Content.TheVariants as lying
use Rattle.place_table.specs.Opening.{IsFirstContent, IsFirstSlot, AreFirstSlots}
use Rattle.place_table.specs.Rules.{KeptAs}
use Rattle.place_table.proofs.FirstSpares.{length_pushed, length_stack}

-- Locks

-- a map that doesn't evict shares no lists
pub not_common : (shape : Shape) → HasBounds shape → is_lru shape.kind ≡ false → shape.common ≡ false
not_common shape bounds plain =
    ⊎_elim
    (λ (common : shape.common ≡ true). let lru = bounds.common_evicts common in absurd cc)
    (λ (own : shape.common ≡ false). own)
    (cases_Bool shape.common)

-- a map whose CPUs share no lists has no local ones
pub no_local : (shape : Shape) (cpu : ℕ) → shape.common ≡ false → is_lock shape (Local cpu) ≡ false
no_local shape cpu own = ap (λ b. b && ltb cpu shape.cpus) own

-- Free lists

length_filter : (p : ℕ → Bool) (xs : List ℕ) → length (filter p xs) ≤ length xs
length_filter p [] = omega arith
length_filter p (x ∷ xs) = either (p x) (length_filter p xs)
  where
    either : (b : Bool) → length (filter p xs) ≤ length xs → length (cond b (x ∷ filter p xs) (filter p xs)) ≤ suc (length xs)
    either true rest = omega arith
    either false rest = omega arith

share_within : (shape : Shape) (cpu : ℕ) → HasBounds shape → cpu < shape.cpus → share_count shape.elements shape.cpus cpu ≤ shape.elements
share_within shape cpu bounds few =
    let next = first_next shape cpu in
    let up = first_up shape (suc cpu) shape.cpus (omega arith) in
    let whole = first_of_all shape bounds.some_cpu in
    omega arith

-- what is pushed under a lock of the map are no more elements than the map has
pushed_few : (shape : Shape) (lock : DomainId) → HasBounds shape → is_lock shape lock ≡ true → length (opening_pushed shape lock) ≤ shape.elements
pushed_few shape (Local cpu) bounds is = omega arith
pushed_few shape Global bounds is = let all = length_pushed 0 shape.elements in omega arith
pushed_few shape (CpuLru cpu) bounds is =
    let few : cpu < shape.cpus = ltb-true cpu shape.cpus (and_parts (is_lru shape.kind && not shape.common) (ltb cpu shape.cpus) is).1 in
    let count = length_stack shape cpu in
    let within = share_within shape cpu bounds few in
    omega arith
pushed_few shape (Bucket bucket) bounds is = omega arith
pushed_few shape (Freelist cpu) bounds is =
    let few : cpu < shape.cpus = ltb-true cpu shape.cpus (and_parts (not (is_lru shape.kind)) (ltb cpu shape.cpus) is).1 in
    let count = length_stack shape cpu in
    let within = share_within shape cpu bounds few in
    omega arith

-- so a freelist and a list set have room for what is free there
pub free_few : (shape : Shape) (lock : DomainId) → HasBounds shape → is_lock shape lock ≡ true → length (opening_free shape lock) ≤ shape.elements
unfolding opening_free
free_few shape lock bounds is =
    let kept : List ℕ = filter (λ e. is_free (opening_owner shape shape.kind e)) (opening_pushed shape lock) in
    let fewer : length kept ≤ length (opening_pushed shape lock) = length_filter (λ e. is_free (opening_owner shape shape.kind e)) (opening_pushed shape lock) in
    let few = pushed_few shape lock bounds is in
    subst (λ (b : Bool). length (cond b kept []) ≤ shape.elements) (sym is) (omega arith)

-- what is free under a lock are elements of the map, each once
times_free : (shape : Shape) (lock : DomainId) (e : ℕ) → HasBounds shape → is_lock shape lock ≡ true → (t : Bool) × (times e (opening_free shape lock) ≡ one (nat_lt e shape.elements && t))
unfolding opening opening_lists
times_free shape lock e bounds is =
    let p = opening_placed shape bounds in
    let k : ℕ = lock_number shape lock in
    (_, ap (λ (d : DomainId). times e (opening_free shape d)) (sym (named_by_number shape lock is)) ∙ p.placed.free k e)

pub free_once : (shape : Shape) (lock : DomainId) → HasBounds shape → is_lock shape lock ≡ true → (e : ℕ) → times e (opening_free shape lock) ≤ 1
free_once shape lock bounds is e =
    let counted = times_free shape lock e bounds is in
    at_most (nat_lt e shape.elements && counted.0) counted.1
  where
    at_most : {n : ℕ} (b : Bool) → n ≡ one b → n ≤ 1
    at_most true same = omega (arith, same)
    at_most false same = omega (arith, same)

pub free_real : (shape : Shape) (lock : DomainId) → HasBounds shape → is_lock shape lock ≡ true → (e : ℕ) → IsIn e (opening_free shape lock) → e < shape.elements
free_real shape lock bounds is e inside =
    let counted = times_free shape lock e bounds is in
    (stands_where shape.elements e _ _ counted.1 inside).real

-- Slots

-- one slot more
pub slots_more : (shape : Shape) (slots now : List Behind) (slot : Behind) (n : ℕ) → AreFirstSlots shape n slots → IsFirstSlot shape n slot → now ≡ slots ++ slot ∷ [] → AreFirstSlots shape (n + 1) now
slots_more shape slots now slot n are last now_is =
    subst (AreFirstSlots shape (n + 1)) (sym now_is) record {
      count = let count = are.count in length-append slots (slot ∷ []) ∙ omega arith;
      each = λ k within. ⊎_elim
          (λ (here : k ≡ n). (slot, at_last slots slot k (are.count ∙ sym here), subst (λ (j : ℕ). IsFirstSlot shape j slot) (sym here) last))
          (λ (other : k ≡ n → ⊥). let found = are.each k (omega arith) in (found.0, at_longer slots (slot ∷ []) k found.0 found.1, found.2))
          (cases_eq k n);
    }

-- the slot of an empty bucket
pub bucket_first : (shape : Shape) (bucket : ℕ) (chain : BodyList) (slot : Behind) → bucket < shape.buckets → slot.content ≡ Some (lying.Bucket chain) → chain.bodies ≡ [] → KeptAs (Bucket bucket) false [] slot → IsFirstSlot shape (first_bucket shape + bucket) slot
bucket_first shape bucket chain slot within content_is none kept =
    let named : lock_named shape (first_bucket shape + bucket) ≡ Bucket bucket = named_by_number shape (Bucket bucket) (lt-ltb bucket shape.buckets within) in record {
      content = subst (λ (found : Option Content). IsFirstContent shape (lock_named shape (first_bucket shape + bucket)) found) (sym content_is)
          (subst (λ (lock : DomainId). IsFirstContent shape lock (Some (lying.Bucket chain))) (sym named) (ap in_bucket none, subst (All (IsSized shape)) (sym none) (All-nil (IsSized shape))));
      kept = subst (λ (lock : DomainId). KeptAs lock false [] slot) (sym named) kept;
    }
