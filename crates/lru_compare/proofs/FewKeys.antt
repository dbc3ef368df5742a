-- The keys of a map in serial order beside those that strict recency holds.
use Rattle.std.proofs.Common.{◌≡◌, ℕ, suc, ◌+◌, ◌≤◌, ◌<◌, Bool, true, false, not, ◌||◌, cond, eqb, List, [], ◌∷◌, ◌++◌, length, take, drop, Option, Some, None, option_map, refl, ap, sym, ◌∙◌, subst, arith, true≢false}
use Rattle.std.specs.Prelude.{bytes_eq, find}
use Rattle.std.specs.List.{before_first, after_first, position_or_len, list_any}
use Rattle.std.specs.Map.{lookup, remove_entry}
use Rattle.std.proofs.lemmas.Bool.{eqb-true}
use Rattle.std.proofs.lemmas.Slice.Eq.{bytes_eq-Decides}
use Rattle.map_types.specs.declared.attr.Shape.{Shape}
use Rattle.map_types.specs.Stored.{Stored}
use Rattle.place_words.specs.Bodies.{present}
use Rattle.place_words.specs.Logs.{State, bucket_at, own_at}
use Rattle.place_words.specs.Turns.{bucket_of_key}
use Rattle.key_lists.proofs.EntryLemmas.{hits, hit, Turned, taken_first, put_in, Finds, finds}
use Rattle.lru_compare.specs.Strict.{Held, Pairs, value_of, without}
use Rattle.lru_compare.specs.Law.{different}

pub eq_turned : (a b : List ℕ) → bytes_eq a b ≡ bytes_eq b a
eq_turned a b = both_ways (bytes_eq a b) (bytes_eq b a) refl refl where
  both_ways : (x y : Bool) → bytes_eq a b ≡ x → bytes_eq b a ≡ y → x ≡ y
  both_ways true true p q = refl
  both_ways false false p q = refl
  both_ways true false p q =
      let e : a ≡ b = (bytes_eq-Decides a b).0 p in
      let t : bytes_eq b a ≡ true = (bytes_eq-Decides b a).1 (sym e) in absurd (true≢false (sym t ∙ q))
  both_ways false true p q =
      let e : b ≡ a = (bytes_eq-Decides b a).0 q in
      let t : bytes_eq a b ≡ true = (bytes_eq-Decides a b).1 (sym e) in absurd (true≢false (sym t ∙ p))

-- the values that a key has in a bucket, and in the pairs
abbrev pub stored_hits : List ℕ → List Stored → List (List (List ℕ))
stored_hits key bodies = hits (λ (stored : Stored). stored.key) (λ (stored : Stored). stored.values) key bodies

abbrev pub pair_key : List ℕ × List ℕ → List ℕ
pair_key pair = pair.0

abbrev pub pair_values : List ℕ × List ℕ → List (List ℕ)
pair_values pair = pair.1 ∷ []

abbrev pub pair_hits : List ℕ → Pairs → List (List (List ℕ))
pair_hits key pairs = hits pair_key pair_values key pairs

-- the first pair of a key, and the pairs without it
lookup_is : (key : List ℕ) (pairs : Pairs) → lookup (bytes_eq key) pairs ≡ option_map (λ (pair : List ℕ × List ℕ). pair.1) (find (λ pair. bytes_eq (pair_key pair) key) pairs)
lookup_is key [] = refl
lookup_is key (p ∷ ps) =
    ap (λ b. cond b (Some p.1) (lookup (bytes_eq key) ps)) (eq_turned key p.0)
    ∙ elim (bytes_eq p.0 key) as (λ b. cond b (Some p.1) (lookup (bytes_eq key) ps) ≡ option_map (λ (pair : List ℕ × List ℕ). pair.1) (cond b (Some p) (find (λ pair. bytes_eq (pair_key pair) key) ps))) [
      | true ↦ refl
      | false ↦ lookup_is key ps
    ]

one_more : (n : ℕ) → 1 + n ≡ suc n
one_more n = omega arith

later : (n : ℕ) → (1 + n) + 1 ≡ suc (n + 1)
later n = omega arith

remove_is : (key : List ℕ) (pairs : Pairs) → before_first (λ pair. bytes_eq (pair_key pair) key) pairs ++ after_first (λ pair. bytes_eq (pair_key pair) key) pairs ≡ remove_entry (bytes_eq key) pairs
remove_is key [] = refl
remove_is key (x ∷ xs) =
    let test : List ℕ × List ℕ → Bool = λ pair. bytes_eq (pair_key pair) key in
    (elim (test x) as (λ b. take (cond (not b) (1 + position_or_len test xs) 0) (x ∷ xs) ++ drop (cond (not b) (1 + position_or_len test xs) 0 + 1) (x ∷ xs) ≡ cond b xs (x ∷ remove_entry (bytes_eq key) xs)) [
      | true ↦ refl
      | false ↦
          ap (λ n. take n (x ∷ xs) ++ drop (1 + position_or_len test xs + 1) (x ∷ xs)) (one_more (position_or_len test xs))
          ∙ ap (λ n. (x ∷ take (position_or_len test xs) xs) ++ drop n (x ∷ xs)) (later (position_or_len test xs))
          ∙ ap (λ rest. x ∷ rest) (remove_is key xs)
    ])
    ∙ ap (λ b. cond b xs (x ∷ remove_entry (bytes_eq key) xs)) (eq_turned x.0 key)

-- a pair that is taken out, and one that is put first
pub pair_out : (key : List ℕ) (held : Held) → length (pair_hits key held.pairs) ≤ 1 → Turned pair_key pair_values key [] held.pairs (without key held)
pair_out key held once = subst (λ l. Turned pair_key pair_values key [] held.pairs l) (remove_is key held.pairs) (taken_first pair_key pair_values key held.pairs once)

pub pair_first : (key value : List ℕ) (held : Held) → length (pair_hits key held.pairs) ≤ 1 → Turned pair_key pair_values key ((value ∷ []) ∷ []) held.pairs ((key, value) ∷ without key held)
pair_first key value held once = put_in pair_key pair_values key held.pairs [] (without key held) (key, value) ((bytes_eq-Decides key key).1 refl) (pair_out key held once)

-- fewer pairs than different keys that they may have
few_pairs : (named : List (List ℕ)) (pairs : Pairs) → ((key : List ℕ) → length (pair_hits key pairs) ≤ 1)
    → ((key : List ℕ) → list_any (bytes_eq key) named ≡ false → pair_hits key pairs ≡ []) → length pairs ≤ different named
few_pairs [] [] once among = omega arith
few_pairs [] (p ∷ ps) once among =
    let some : pair_hits p.0 (p ∷ ps) ≡ pair_values p ∷ pair_hits p.0 ps = hit pair_key pair_values p.0 p ps ((bytes_eq-Decides p.0 p.0).1 refl) in
    let none : pair_hits p.0 (p ∷ ps) ≡ [] = among p.0 refl in cc
few_pairs (k ∷ ks) pairs once among = by (λ less single named. few_pairs ks less single named) (list_any (bytes_eq k) ks) refl where
  by : ((less : Pairs) → ((key : List ℕ) → length (pair_hits key less) ≤ 1) → ((key : List ℕ) → list_any (bytes_eq key) ks ≡ false → pair_hits key less ≡ []) → length less ≤ different ks)
      → (b : Bool) → list_any (bytes_eq k) ks ≡ b → length pairs ≤ cond b (different ks) (suc (different ks))
  by again true there = again pairs once (λ key apart. elim (bytes_eq key k) as (λ b. bytes_eq key k ≡ b → pair_hits key pairs ≡ []) [
    | true ↦ λ is. let e : key ≡ k = (bytes_eq-Decides key k).0 is in absurd (true≢false (sym there ∙ subst (λ q. list_any (bytes_eq q) ks ≡ false) e apart))
    | false ↦ λ is. among key (ap (λ b. b || list_any (bytes_eq key) ks) is ∙ apart)
  ] refl)
  by again false there =
      let test : List ℕ × List ℕ → Bool = λ pair. bytes_eq (pair_key pair) k in
      let less : Pairs = before_first test pairs ++ after_first test pairs in
      let out : Turned pair_key pair_values k [] pairs less = taken_first pair_key pair_values k pairs (once k) in
      let fewer : length less ≤ different ks = again less
      (λ key. elim (bytes_eq k key) as (λ b. bytes_eq k key ≡ b → length (pair_hits key less) ≤ 1) [
        | true ↦ λ is. let e : k ≡ key = (bytes_eq-Decides k key).0 is in subst (λ q. length (pair_hits q less) ≤ 1) e (omega (arith, ap length out.here))
        | false ↦ λ is. omega (arith, ap length (out.elsewhere key is), once key)
      ] refl)
      (λ key apart. elim (bytes_eq k key) as (λ b. bytes_eq k key ≡ b → pair_hits key less ≡ []) [
        | true ↦ λ is. let e : k ≡ key = (bytes_eq-Decides k key).0 is in subst (λ q. pair_hits q less ≡ []) e out.here
        | false ↦ λ is. out.elsewhere key is ∙ among key (ap (λ b. b || list_any (bytes_eq key) ks) (eq_turned key k ∙ is) ∙ apart)
      ] refl) in
      omega (arith, fewer, out.count, once k)

-- a key's element and its value, where the key has these values
abbrev pub Meet : List (List (List ℕ)) → Option Stored → Option (List ℕ) → Type 0
Meet values None None = values ≡ []
Meet values None (Some value) = ⊥
Meet values (Some stored) None = ⊥
Meet values (Some stored) (Some value) = (stored.values ≡ value ∷ []) × (values ≡ (value ∷ []) ∷ [])

both_found : (found : Option Stored) (pair : Option (List ℕ × List ℕ)) (first second : List (List (List ℕ))) → first ≡ second
    → Finds (λ (stored : Stored). stored.values) found first → Finds pair_values pair second → Meet second found (option_map (λ (p : List ℕ × List ℕ). p.1) pair)
both_found None None first second is a b = b
both_found None (Some p) first second is a b = cc
both_found (Some s) None first second is a b = cc
both_found (Some s) (Some p) first second is a b = let same : s.values ≡ pair_values p = cc in (same, b)

-- At one moment a map and what strict recency holds have the same keys with the same values, each once, and all of them are named;
-- and as many elements are free as there is room for keys.
pub record Agree (shape : Shape) (cpu : ℕ) (named : List (List ℕ)) (state : State) (held : Held) : Type 0 where
  pub same : (key : List ℕ) → stored_hits key (bucket_at shape state (bucket_of_key shape key)) ≡ pair_hits key held.pairs
  pub once : (key : List ℕ) → length (pair_hits key held.pairs) ≤ 1
  pub among : (key : List ℕ) → list_any (bytes_eq key) named ≡ false → pair_hits key held.pairs ≡ []
  pub free : length (own_at shape state cpu).free + length held.pairs ≡ shape.elements
  pub capacity : held.capacity ≡ shape.elements

module _ {shape : Shape} {cpu : ℕ} {named : List (List ℕ)} {state : State} {held : Held} (agree : Agree shape cpu named state held) where
  -- so there is a free element for each key that isn't there
  pub some_free : different named < shape.elements → 1 ≤ length (own_at shape state cpu).free
  some_free fewer = omega (arith, agree.free, few_pairs named held.pairs agree.once agree.among, fewer)

  pub fits : different named < shape.elements → length held.pairs < held.capacity
  fits fewer = omega (arith, agree.capacity, few_pairs named held.pairs agree.once agree.among, fewer)

  pub meets : (key : List ℕ) → Meet (pair_hits key held.pairs) (present key (bucket_at shape state (bucket_of_key shape key))) (value_of key held)
  meets key =
      let bodies : List Stored = bucket_at shape state (bucket_of_key shape key) in
      let few : length (stored_hits key bodies) ≤ 1 = omega (arith, agree.once key, ap length (agree.same key)) in
      subst (λ o. Meet (pair_hits key held.pairs) (present key bodies) o) (sym (lookup_is key held.pairs))
      (both_found (present key bodies) (find (λ pair. bytes_eq (pair_key pair) key) held.pairs) (stored_hits key bodies) (pair_hits key held.pairs) (agree.same key)
      (finds (λ (stored : Stored). stored.key) (λ (stored : Stored). stored.values) key bodies few) (finds pair_key pair_values key held.pairs (agree.once key)))

  -- a key's values change on both sides
  pub changed : (key : List ℕ) (values : List (List (List ℕ))) (bodies : List Stored) (now : State) (then : Held) → list_any (bytes_eq key) named ≡ true → length values ≤ 1
      → Turned (λ (stored : Stored). stored.key) (λ (stored : Stored). stored.values) key values (bucket_at shape state (bucket_of_key shape key)) bodies
      → Turned pair_key pair_values key values held.pairs then.pairs
      → bucket_at shape now (bucket_of_key shape key) ≡ bodies
      → ((other : ℕ) → eqb (bucket_of_key shape key) other ≡ false → bucket_at shape now other ≡ bucket_at shape state other)
      → length (own_at shape now cpu).free + length then.pairs ≡ shape.elements → then.capacity ≡ held.capacity
      → Agree shape cpu named now then
  changed key values bodies now then is_named few stored pair here beside free capacity = record {
    same = λ q. elim (bytes_eq key q) as (λ b. bytes_eq key q ≡ b → stored_hits q (bucket_at shape now (bucket_of_key shape q)) ≡ pair_hits q then.pairs) [
      | true ↦ λ is. let e : key ≡ q = (bytes_eq-Decides key q).0 is in
          subst (λ k. stored_hits k (bucket_at shape now (bucket_of_key shape k)) ≡ pair_hits k then.pairs) e (ap (stored_hits key) here ∙ stored.here ∙ sym pair.here)
      | false ↦ λ is. in_its_bucket q is (eqb (bucket_of_key shape key) (bucket_of_key shape q)) refl ∙ agree.same q ∙ sym (pair.elsewhere q is)
    ] refl;
    once = λ q. elim (bytes_eq key q) as (λ b. bytes_eq key q ≡ b → length (pair_hits q then.pairs) ≤ 1) [
      | true ↦ λ is. let e : key ≡ q = (bytes_eq-Decides key q).0 is in subst (λ k. length (pair_hits k then.pairs) ≤ 1) e (omega (arith, ap length pair.here, few))
      | false ↦ λ is. omega (arith, ap length (pair.elsewhere q is), agree.once q)
    ] refl;
    among = λ q apart. elim (bytes_eq key q) as (λ b. bytes_eq key q ≡ b → pair_hits q then.pairs ≡ []) [
      | true ↦ λ is. let e : key ≡ q = (bytes_eq-Decides key q).0 is in absurd (true≢false (sym is_named ∙ subst (λ k. list_any (bytes_eq k) named ≡ false) (sym e) apart))
      | false ↦ λ is. pair.elsewhere q is ∙ agree.among q apart
    ] refl;
    free = free;
    capacity = capacity ∙ agree.capacity;
  } where
    in_its_bucket : (q : List ℕ) → bytes_eq key q ≡ false → (b : Bool) → eqb (bucket_of_key shape key) (bucket_of_key shape q) ≡ b
        → stored_hits q (bucket_at shape now (bucket_of_key shape q)) ≡ stored_hits q (bucket_at shape state (bucket_of_key shape q))
    in_its_bucket q is true one =
        let at : bucket_of_key shape key ≡ bucket_of_key shape q = eqb-true (bucket_of_key shape key) (bucket_of_key shape q) one in
        subst (λ n. stored_hits q (bucket_at shape now n) ≡ stored_hits q (bucket_at shape state n)) at (ap (stored_hits q) here ∙ stored.elsewhere q is)
    in_its_bucket q is false apart = ap (stored_hits q) (beside (bucket_of_key shape q) apart)
