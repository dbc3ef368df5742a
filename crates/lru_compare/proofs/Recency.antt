-- What the cache's words come to on the pairs as they are seen.
use Rattle.std.proofs.Common.{◌≡◌, ℕ, ◌+◌, ◌-◌, ◌≤◌, ◌<◌, Bool, true, false, List, [], ◌∷◌, map, length, take, Option, Some, None, refl, sym, ap, ◌∙◌, zero, suc, subst, cond, not, is_some, ◌&&◌, ◌==◌, option_map}
use Rattle.std.specs.Option.{option_map_or}
use Rattle.std.proofs.lemmas.Bool.{lt-ltb, le-ltb, eqb-true, eqb-false}
use native.Mathlib.Omega.{arith}
use Rattle.std.specs.Prelude.{bytes_eq}
use Rattle.std.specs.Map.{lookup, lookup_entry, remove_entry}
use Rattle.std.specs.Cmp.Lexicographic.{bytes_decides}
use Rattle.std.proofs.lemmas.List.{take_all, take-map, length-map}
use Rattle.lru.specs.LruCache.{LruCache, lru_cache, put_entries, promoted}
use Rattle.lru_compare.specs.Strict.{Held, Pairs, within_capacity, with_pairs, value_of, without}

module _ {K V : Type 0} (kb : K → List ℕ) (vb : V → List ℕ) where
  abbrev pub pair_shown : K × V → List ℕ × List ℕ
  pair_shown e = (kb e.0, vb e.1)

  abbrev pub shown : List (K × V) → Pairs
  shown es = map pair_shown es

  -- a key is found as it is shown
  pub looked : (key : List ℕ) (es : List (K × V)) → lookup (bytes_eq key) (shown es) ≡ option_map vb (lookup (λ k. bytes_eq key (kb k)) es)
  looked key [] = refl
  looked key (e ∷ es) = elim (bytes_eq key (kb e.0)) as (λ y. cond y (Some (vb e.1)) (lookup (bytes_eq key) (shown es)) ≡ option_map vb (cond y (Some e.1) (lookup (λ k. bytes_eq key (kb k)) es))) [
    | true ↦ refl
    | false ↦ looked key es
  ]

  -- taking a key out
  pub removed : (key : List ℕ) (es : List (K × V)) → shown (remove_entry (λ k. bytes_eq key (kb k)) es) ≡ remove_entry (bytes_eq key) (shown es)
  removed key [] = refl
  removed key (e ∷ es) = elim (bytes_eq key (kb e.0)) as (λ y. shown (cond y es (e ∷ remove_entry (λ k. bytes_eq key (kb k)) es)) ≡ cond y (shown es) (pair_shown e ∷ remove_entry (bytes_eq key) (shown es))) [
    | true ↦ refl
    | false ↦ ap (λ l. pair_shown e ∷ l) (removed key es)
  ]

module _ {K V : Type 0} (test : K → Bool) where
  -- a key that isn't there leaves all there is
  pub gone : (es : List (K × V)) → lookup test es ≡ None → remove_entry test es ≡ es
  gone [] h = refl
  gone (f ∷ es) h = (elim (test f.0) as (λ y. test f.0 ≡ y → remove_entry test (f ∷ es) ≡ f ∷ es) [
    | true ↦ λ t. let h' = rw t at h in cc
    | false ↦ λ t. let h' : lookup test es ≡ None = rw t at h in rw t (ap (λ l. f ∷ l) (gone es h'))
  ]) refl

  -- one that is there leaves one less, and is a key that passes
  pub one_less : (es : List (K × V)) (e : K × V) → lookup_entry test es ≡ Some e → (length es ≡ length (remove_entry test es) + 1) × (test e.0 ≡ true)
  one_less [] e h = cc
  one_less (f ∷ es) e h = (elim (test f.0) as (λ y. test f.0 ≡ y → (length (f ∷ es) ≡ length (remove_entry test (f ∷ es)) + 1) × (test e.0 ≡ true)) [
    | true ↦ λ t. let h' = rw t at h in let same : f ≡ e = cc in (rw t (omega arith), subst (λ g. test g.0 ≡ true) same t)
    | false ↦ λ t. let h' : lookup_entry test es ≡ Some e = rw t at h in let less = one_less es e h' in (rw t (omega (arith, less.0)), less.1)
  ]) refl

  -- the pair that is found has the value that is found
  pub of_entry : (es : List (K × V)) → lookup test es ≡ option_map (λ e. e.1) (lookup_entry test es)
  of_entry [] = refl
  of_entry (e ∷ es) = elim (test e.0) as (λ y. cond y (Some e.1) (lookup test es) ≡ option_map (λ e. e.1) (cond y (Some e) (lookup_entry test es))) [
    | true ↦ refl
    | false ↦ of_entry es
  ]

and_true : (b : Bool) → (b && true) ≡ b
and_true true = refl
and_true false = refl

and_false : (b : Bool) → (b && false) ≡ false
and_false true = refl
and_false false = refl

take_pos : {X : Type 0} (n : ℕ) (x : X) (xs : List X) → 0 < n → take n (x ∷ xs) ≡ x ∷ take (n - 1) xs
take_pos zero x xs h = absurd (omega (arith, h))
take_pos (suc n) x xs h = ap (λ m. x ∷ take m xs) (omega arith)

pick_true : {A : Type 0} {b : Bool} (x y : A) → b ≡ true → cond b x y ≡ x
pick_true x y e = ap (λ c. cond c x y) e

pick_false : {A : Type 0} {b : Bool} (x y : A) → b ≡ false → cond b x y ≡ y
pick_false x y e = ap (λ c. cond c x y) e

-- a pair that comes to a full list drives the last one out, and where there is room all stay
evicting : (capacity evicted : ℕ) (pair : List ℕ × List ℕ) (pairs : Pairs) → 0 < capacity → length pairs ≡ capacity
    → within_capacity (record { capacity = capacity; pairs = pair ∷ pairs; evicted = evicted })
    ≡ record { capacity = capacity; pairs = pair ∷ take (capacity - 1) pairs; evicted = evicted + 1 }
evicting capacity evicted pair pairs pos full =
    pick_true (record { capacity = capacity; pairs = take (length (pair ∷ pairs) - 1) (pair ∷ pairs); evicted = suc evicted }) (record { capacity = capacity; pairs = pair ∷ pairs; evicted = evicted })
    (lt-ltb capacity (length (pair ∷ pairs)) (omega arith))
    ∙ last_out (length (pair ∷ pairs) - 1) (suc evicted) (omega arith) (omega arith) where
      last_out : (n count : ℕ) → n ≡ capacity → count ≡ evicted + 1
          → ◌≡◌ {A = Held} (record { capacity = capacity; pairs = take n (pair ∷ pairs); evicted = count }) (record { capacity = capacity; pairs = pair ∷ take (capacity - 1) pairs; evicted = evicted + 1 })
      last_out n count same counts =
          ap (λ c. record { capacity = capacity; pairs = take n (pair ∷ pairs); evicted = c }) counts
          ∙ ap (λ l. record { capacity = capacity; pairs = l; evicted = evicted + 1 }) (ap (λ m. take m (pair ∷ pairs)) same ∙ take_pos capacity pair pairs pos)

pub fitting : (capacity evicted : ℕ) (pairs : Pairs) → length pairs ≤ capacity
    → within_capacity (record { capacity = capacity; pairs = pairs; evicted = evicted }) ≡ record { capacity = capacity; pairs = pairs; evicted = evicted }
fitting capacity evicted pairs fits =
    pick_false (record { capacity = capacity; pairs = take (length pairs - 1) pairs; evicted = suc evicted }) (record { capacity = capacity; pairs = pairs; evicted = evicted }) (le-ltb capacity (length pairs) fits)

module _ {K V : Type 0} (kb : K → List ℕ) (vb : V → List ℕ) where
  abbrev same : K → K → Bool
  same x y = bytes_eq (kb x) (kb y)

  -- what a cache holds, as it is seen
  abbrev pub held_of : LruCache K V → ℕ → Held
  held_of cache evicted = record { capacity = cache.cap; pairs = shown kb vb cache.entries; evicted = evicted }

  -- the entry that is found, as it is shown
  found_entry : (key : List ℕ) (es : List (K × V)) (o : Option (K × V)) → lookup_entry (λ k. bytes_eq key (kb k)) es ≡ o
      → lookup (bytes_eq key) (shown kb vb es) ≡ option_map (λ e. vb e.1) o
  found_entry key es o h = looked kb vb key es ∙ ap (option_map vb) (of_entry (λ k. bytes_eq key (kb k)) es ∙ ap (option_map (λ e. e.1)) h) ∙ both o where
    both : (o : Option (K × V)) → option_map vb (option_map (λ e. e.1) o) ≡ option_map (λ e. vb e.1) o
    both None = refl
    both (Some e) = refl

  -- a pair that is found goes first
  pub moved : (key value : List ℕ) (es : List (K × V)) → lookup (bytes_eq key) (shown kb vb es) ≡ Some value
      → shown kb vb (promoted (λ k. bytes_eq key (kb k)) es) ≡ (key, value) ∷ remove_entry (bytes_eq key) (shown kb vb es)
  moved key value es found = (elim (lookup_entry (λ k. bytes_eq key (kb k)) es) as (λ o. lookup_entry (λ k. bytes_eq key (kb k)) es ≡ o → shown kb vb (promoted (λ k. bytes_eq key (kb k)) es) ≡ (key, value) ∷ remove_entry (bytes_eq key) (shown kb vb es)) [
    | None ↦ λ h. let none : lookup (bytes_eq key) (shown kb vb es) ≡ None = found_entry key es None h in cc
    | Some e ↦ λ h.
        let less = one_less (λ k. bytes_eq key (kb k)) es e h in
        let is_key : key ≡ kb e.0 = (bytes_decides key (kb e.0)).0 less.1 in
        let some : lookup (bytes_eq key) (shown kb vb es) ≡ Some (vb e.1) = found_entry key es (Some e) h in
        let is_value : vb e.1 ≡ value = cc in
        let head : ◌≡◌ {A = List ℕ × List ℕ} (kb e.0, vb e.1) (key, value) = cc in
        rw h (ap (λ l. pair_shown kb vb e ∷ l) (removed kb vb key es) ∙ ap (λ p. p ∷ remove_entry (bytes_eq key) (shown kb vb es)) head)
  ]) refl

  -- a key that isn't found, and one that is
  pub finds_none : (cache : LruCache K V) (evicted : ℕ) {held : Held} (key : List ℕ) → held_of cache evicted ≡ held
      → None ≡ lookup (λ k. bytes_eq key (kb k)) cache.entries → value_of key held ≡ None
  finds_none cache evicted key is none = subst (λ h. value_of key h ≡ None) is (looked kb vb key cache.entries ∙ ap (option_map vb) (sym none))

  pub finds_some : (cache : LruCache K V) (evicted : ℕ) {held : Held} {value : V} (key : List ℕ) → held_of cache evicted ≡ held
      → Some value ≡ lookup (λ k. bytes_eq key (kb k)) cache.entries → value_of key held ≡ Some (vb value)
  finds_some cache evicted {value = value} key is some = subst (λ h. value_of key h ≡ Some (vb value)) is (looked kb vb key cache.entries ∙ ap (option_map vb) (sym some))

  -- whether a key is there
  pub is_found : (cache : LruCache K V) (evicted : ℕ) {held : Held} (key : List ℕ) → held_of cache evicted ≡ held
      → is_some (lookup (λ k. bytes_eq key (kb k)) cache.entries) ≡ is_some (value_of key held)
  is_found cache evicted key is = subst (λ h. is_some (lookup (λ k. bytes_eq key (kb k)) cache.entries) ≡ is_some (value_of key h)) is
      (either (lookup (λ k. bytes_eq key (kb k)) cache.entries) ∙ ap is_some (sym (looked kb vb key cache.entries))) where
        either : (o : Option V) → is_some o ≡ is_some (option_map vb o)
        either None = refl
        either (Some v) = refl

  -- a key that is found and promoted
  pub promotes : (cache : LruCache K V) (evicted : ℕ) {now : LruCache K V} {held : Held} (key value : List ℕ) → held_of cache evicted ≡ held
      → now ≡ lru_cache (promoted (λ k. bytes_eq key (kb k)) cache.entries) cache.cap
      → value_of key held ≡ Some value → held_of now evicted ≡ with_pairs held ((key, value) ∷ without key held)
  promotes cache evicted {now} key value is becomes = subst (λ h. value_of key h ≡ Some value → held_of now evicted ≡ with_pairs h ((key, value) ∷ without key h)) is
      (λ found. ap (λ c. held_of c evicted) becomes ∙ ap (λ pairs. with_pairs (held_of cache evicted) pairs) (moved key value cache.entries found))

  -- a key that is taken out
  pub takes : (cache : LruCache K V) (evicted : ℕ) {now : LruCache K V} {held : Held} (key : List ℕ) → held_of cache evicted ≡ held
      → now ≡ lru_cache (remove_entry (λ k. bytes_eq key (kb k)) cache.entries) cache.cap
      → held_of now evicted ≡ with_pairs held (without key held)
  takes cache evicted {now} key is becomes = subst (λ h. held_of now evicted ≡ with_pairs h (without key h)) is
      (ap (λ c. held_of c evicted) becomes ∙ ap (λ pairs. with_pairs (held_of cache evicted) pairs) (removed kb vb key cache.entries))

  -- a key that isn't there and is taken out
  pub misses : (cache : LruCache K V) (evicted : ℕ) {now : LruCache K V} {held : Held} (key : List ℕ) → held_of cache evicted ≡ held
      → now ≡ lru_cache (remove_entry (λ k. bytes_eq key (kb k)) cache.entries) cache.cap
      → None ≡ lookup (λ k. bytes_eq key (kb k)) cache.entries → held_of now evicted ≡ held
  misses cache evicted key is becomes none =
      ap (λ c. held_of c evicted) becomes ∙ ap (λ es. held_of (lru_cache es cache.cap) evicted) (gone (λ k. bytes_eq key (kb k)) cache.entries (sym none)) ∙ is

  -- a pair whose key isn't there is put in
  put_new : (cache : LruCache K V) (evicted : ℕ) (key : K) (value : V) → 0 < cache.cap → length cache.entries ≤ cache.cap
      → lookup_entry (same key) cache.entries ≡ None → (b : Bool) → (length cache.entries == cache.cap) ≡ b
      → held_of (lru_cache ((key, value) ∷ take (cache.cap - 1) cache.entries) cache.cap) (cond b (evicted + 1) evicted)
      ≡ within_capacity (with_pairs (held_of cache evicted) ((kb key, vb value) ∷ without (kb key) (held_of cache evicted)))
  put_new cache evicted key value pos fits h b full =
      let rest : without (kb key) (held_of cache evicted) ≡ shown kb vb cache.entries = sym (removed kb vb (kb key) cache.entries) ∙ ap (shown kb vb) (gone (same key) cache.entries (of_entry (same key) cache.entries ∙ ap (option_map (λ e. e.1)) h)) in
      let long : length (shown kb vb cache.entries) ≡ length cache.entries = length-map cache.entries (pair_shown kb vb) in
      let cut : take (cache.cap - 1) (shown kb vb cache.entries) ≡ shown kb vb (take (cache.cap - 1) cache.entries) = take-map (pair_shown kb vb) (cache.cap - 1) cache.entries in
      subst (λ l. held_of (lru_cache ((key, value) ∷ take (cache.cap - 1) cache.entries) cache.cap) (cond b (evicted + 1) evicted) ≡ within_capacity (with_pairs (held_of cache evicted) ((kb key, vb value) ∷ l)))
      (sym rest)
      (by b full long cut) where
        by : (b : Bool) → (length cache.entries == cache.cap) ≡ b → length (shown kb vb cache.entries) ≡ length cache.entries → take (cache.cap - 1) (shown kb vb cache.entries) ≡ shown kb vb (take (cache.cap - 1) cache.entries)
            → held_of (lru_cache ((key, value) ∷ take (cache.cap - 1) cache.entries) cache.cap) (cond b (evicted + 1) evicted) ≡ within_capacity (with_pairs (held_of cache evicted) ((kb key, vb value) ∷ shown kb vb cache.entries))
        by true full long cut =
            let is_full : length (shown kb vb cache.entries) ≡ cache.cap = long ∙ eqb-true (length cache.entries) cache.cap full in
            sym (evicting cache.cap evicted (kb key, vb value) (shown kb vb cache.entries) pos is_full
            ∙ ap (λ l. record { capacity = cache.cap; pairs = (kb key, vb value) ∷ l; evicted = evicted + 1 }) cut)
        by false full long cut =
            let room : length cache.entries ≡ cache.cap → ⊥ = eqb-false (length cache.entries) cache.cap full in
            let below : length (shown kb vb cache.entries) ≤ cache.cap - 1 = omega (arith, room) in
            let longer : length ((kb key, vb value) ∷ shown kb vb cache.entries) ≤ cache.cap = omega arith in
            sym (fitting cache.cap evicted ((kb key, vb value) ∷ shown kb vb cache.entries) longer
            ∙ ap (λ l. record { capacity = cache.cap; pairs = (kb key, vb value) ∷ l; evicted = evicted }) (sym (take_all (cache.cap - 1) (shown kb vb cache.entries) below) ∙ cut))

  -- a pair whose key is there
  put_over : (cache : LruCache K V) (evicted : ℕ) (key : K) (value : V) (e : K × V) → length cache.entries ≤ cache.cap
      → lookup_entry (same key) cache.entries ≡ Some e
      → held_of (lru_cache ((e.0, value) ∷ remove_entry (same key) cache.entries) cache.cap) evicted
      ≡ within_capacity (with_pairs (held_of cache evicted) ((kb key, vb value) ∷ without (kb key) (held_of cache evicted)))
  put_over cache evicted key value e fits h =
      let less = one_less (same key) cache.entries e h in
      let rest : without (kb key) (held_of cache evicted) ≡ shown kb vb (remove_entry (same key) cache.entries) = sym (removed kb vb (kb key) cache.entries) in
      let long : length (shown kb vb (remove_entry (same key) cache.entries)) ≡ length (remove_entry (same key) cache.entries) = length-map (remove_entry (same key) cache.entries) (pair_shown kb vb) in
      let is_key : kb key ≡ kb e.0 = (bytes_decides (kb key) (kb e.0)).0 less.1 in
      let fits_in : length ((kb key, vb value) ∷ shown kb vb (remove_entry (same key) cache.entries)) ≤ cache.cap = omega (arith, less.0, fits, long) in
      let head : ◌≡◌ {A = List ℕ × List ℕ} (kb e.0, vb value) (kb key, vb value) = ap (λ k. (k, vb value)) (sym is_key) in
      ap (λ p. record { capacity = cache.cap; pairs = p ∷ shown kb vb (remove_entry (same key) cache.entries); evicted = evicted }) head
      ∙ sym (fitting cache.cap evicted ((kb key, vb value) ∷ shown kb vb (remove_entry (same key) cache.entries)) fits_in)
      ∙ ap (λ l. within_capacity (with_pairs (held_of cache evicted) ((kb key, vb value) ∷ l))) (sym rest)

  put_either : (cache : LruCache K V) (evicted : ℕ) (key : K) (value : V) → 0 < cache.cap → length cache.entries ≤ cache.cap
      → (o : Option (K × V)) → lookup_entry (same key) cache.entries ≡ o
      → held_of (lru_cache (option_map_or (λ e. (e.0, value) ∷ remove_entry (same key) cache.entries) o ((key, value) ∷ take (cache.cap - 1) cache.entries)) cache.cap)
      (cond ((length cache.entries == cache.cap) && not (is_some (option_map (λ (e : K × V). e.1) o))) (evicted + 1) evicted)
      ≡ within_capacity (with_pairs (held_of cache evicted) ((kb key, vb value) ∷ without (kb key) (held_of cache evicted)))
  put_either cache evicted key value pos fits None h =
      ap (λ b. held_of (lru_cache ((key, value) ∷ take (cache.cap - 1) cache.entries) cache.cap) (cond b (evicted + 1) evicted)) (and_true (length cache.entries == cache.cap))
      ∙ put_new cache evicted key value pos fits h (length cache.entries == cache.cap) refl
  put_either cache evicted key value pos fits (Some e) h =
      ap (λ b. held_of (lru_cache ((e.0, value) ∷ remove_entry (same key) cache.entries) cache.cap) (cond b (evicted + 1) evicted)) (and_false (length cache.entries == cache.cap))
      ∙ put_over cache evicted key value e fits h

  -- What `put` leaves: the pair first, the key's older one gone, and the last one gone where there are more than the capacity. Then
  -- the cache was full, and the key wasn't there.
  pub puts : (cache : LruCache K V) (evicted : ℕ) {now : LruCache K V} {held : Held} (key : K) (value : V) {older : Option V} {len most count : ℕ} {some : Bool}
      → held_of cache evicted ≡ held → 0 < cache.cap → length cache.entries ≤ cache.cap
      → now ≡ lru_cache (put_entries same cache key value) cache.cap → older ≡ lookup (same key) cache.entries
      → len ≡ length cache.entries → most ≡ cache.cap → some ≡ is_some older → count ≡ cond ((len == most) && not some) (evicted + 1) evicted
      → held_of now count ≡ within_capacity (with_pairs held ((kb key, vb value) ∷ without (kb key) held))
  puts cache evicted {now} key value {older} {len} {most} {count} {some} is pos fits becomes was len_is most_is some_is counts =
      let full_is : (len == most) ≡ (length cache.entries == cache.cap) = ap (λ n. n == most) len_is ∙ ap (λ n. length cache.entries == n) most_is in
      let there_is : some ≡ is_some (option_map (λ (e : K × V). e.1) (lookup_entry (same key) cache.entries)) = some_is ∙ ap is_some (was ∙ of_entry (same key) cache.entries) in
      subst (λ h. held_of now count ≡ within_capacity (with_pairs h ((kb key, vb value) ∷ without (kb key) h))) is
      (ap (λ c. held_of c count) becomes
      ∙ ap (λ n. held_of (lru_cache (put_entries same cache key value) cache.cap) n)
      (counts ∙ ap (λ b. cond (b && not some) (evicted + 1) evicted) full_is
      ∙ ap (λ b. cond ((length cache.entries == cache.cap) && not b) (evicted + 1) evicted) there_is)
      ∙ put_either cache evicted key value pos fits (lookup_entry (same key) cache.entries) refl)
