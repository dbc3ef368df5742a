-- The opening contents as they are built.
use Rattle.std.proofs.Common.{◌≡◌, ℕ, zero, suc, ◌+◌, ◌-◌, ◌*◌, ◌/◌, ◌%◌, ◌<◌, ◌≤◌, Bool, true, false, cond, List, [], ◌∷◌, ◌++◌, length, get_or, take, refl, ap, ◌∙◌, sym, subst, ⊎_elim, append_assoc, append-nil, arith}
use Rattle.std.specs.Prelude.{map, filter}
use Rattle.std.specs.List.{range_with_len, flat_map}
use Rattle.std.proofs.Math.Nat.{mul-zero}
use Rattle.std.proofs.lemmas.Bool.{cases_eq}
use Rattle.std.proofs.lemmas.List.FromFn.{map-range_with_len_more, get_or-map-range_with_len, length-map-range_with_len}
use Rattle.map_types.specs.declared.attr.Shape.{Shape}
use Rattle.map_types.specs.declared.kind.DomainId.{DomainId}
use Rattle.map_types.specs.declared.kind.DomainId.TheVariants.{Local, Global, CpuLru, Bucket, Freelist}
use Rattle.map_types.specs.Shape.{HasBounds}
use Rattle.map_types.specs.Kind.{is_lru}
use Rattle.place_words.specs.declared.owner.Owner.{Owner}
use Rattle.place_words.specs.declared.owner.Owner.TheVariants as owners
use Rattle.place_words.specs.Locks.{is_lock}
use Rattle.place_words.specs.Openings.{is_free, opening_stack, opening_spares, opening_owner, opening_pushed, opening_free}
use Rattle.place_words.specs.Shares.{pushed_from, share_first, share_count}
use Rattle.place_words.specs.OpeningState.{AreOpeningOwners}
use Rattle.place_words.proofs.OpeningLaws.{spares_few}

-- the next element that is pushed
pub pushed_next : (a n : ℕ) → 0 < n → pushed_from a n ≡ (a + (n - 1)) ∷ pushed_from a (n - 1)
pushed_next a zero some = absurd (omega arith)
pushed_next a (suc n) some = let back : suc n - 1 ≡ n = omega arith in sym (ap (λ (m : ℕ). (a + m) ∷ pushed_from a m) back)

pub push_more : (a n : ℕ) (list now whole : List ℕ) → 0 < n → now ≡ list ++ (a + (n - 1)) ∷ [] → list ++ pushed_from a n ≡ whole → now ++ pushed_from a (n - 1) ≡ whole
push_more a n list now whole some now_is same =
    ap (λ (xs : List ℕ). xs ++ pushed_from a (n - 1)) now_is ∙ (append_assoc list ((a + (n - 1)) ∷ []) (pushed_from a (n - 1)) ∙ (ap (λ (xs : List ℕ). list ++ xs) (sym (pushed_next a n some)) ∙ same))

-- the same of those that pass a test
filter_next : (p : ℕ → Bool) (a n : ℕ) → 0 < n → filter p (pushed_from a n) ≡ cond (p (a + (n - 1))) ((a + (n - 1)) ∷ filter p (pushed_from a (n - 1))) (filter p (pushed_from a (n - 1)))
filter_next p a n some = ap (filter p) (pushed_next a n some)

pub filter_pass : (p : ℕ → Bool) (a n : ℕ) (list now whole : List ℕ) → 0 < n → p (a + (n - 1)) ≡ true → now ≡ list ++ (a + (n - 1)) ∷ [] → list ++ filter p (pushed_from a n) ≡ whole → now ++ filter p (pushed_from a (n - 1)) ≡ whole
filter_pass p a n list now whole some passes now_is same =
    let next : filter p (pushed_from a n) ≡ (a + (n - 1)) ∷ filter p (pushed_from a (n - 1)) = filter_next p a n some ∙ ap (λ b. cond b ((a + (n - 1)) ∷ filter p (pushed_from a (n - 1))) (filter p (pushed_from a (n - 1)))) passes in
    ap (λ (xs : List ℕ). xs ++ filter p (pushed_from a (n - 1))) now_is ∙ (append_assoc list ((a + (n - 1)) ∷ []) (filter p (pushed_from a (n - 1))) ∙ (ap (λ (xs : List ℕ). list ++ xs) (sym next) ∙ same))

pub filter_same : (p q : ℕ → Bool) (a n m : ℕ) → a + n ≤ m → ((e : ℕ) → e < m → p e ≡ q e) → filter p (pushed_from a n) ≡ filter q (pushed_from a n)
filter_same p q a zero m within same = refl
filter_same p q a (suc n) m within same =
    let rest = filter_same p q a n m (omega arith) same in
    let head = same (a + n) (omega arith) in
    λ i. cond (head i) ((a + n) ∷ rest i) (rest i)

-- spares
pub flat_more : (f : ℕ → List ℕ) (a n : ℕ) → flat_map f (range_with_len a (n + 1)) ≡ flat_map f (range_with_len a n) ++ f (a + n)
flat_more f a zero = let one : 0 + 1 ≡ suc 0 = omega arith in let here : a + 0 ≡ a = omega arith in
    ap (λ (k : ℕ). flat_map f (range_with_len a k)) one ∙ (append-nil (f a) ∙ ap f (sym here))
flat_more f a (suc n) =
    let one : suc n + 1 ≡ suc (n + 1) = omega arith in
    let next : a + 1 + n ≡ a + suc n = omega arith in
    ap (λ (k : ℕ). flat_map f (range_with_len a k)) one ∙ (ap (λ (xs : List ℕ). f a ++ xs) (flat_more f (a + 1) n) ∙ (sym (append_assoc (f a) (flat_map f (range_with_len (a + 1) n)) (f (a + 1 + n))) ∙ ap (λ (k : ℕ). (f a ++ flat_map f (range_with_len (a + 1) n)) ++ f k) next))

pub spares_are : (shape : Shape) (list now : List ℕ) → list ≡ flat_map (opening_stack shape) (range_with_len 0 shape.cpus) → now ≡ take shape.cpus list → now ≡ opening_spares shape
unfolding opening_spares
spares_are shape list now list_is now_is = now_is ∙ ap (take shape.cpus) list_is

pub stack_is : (shape : Shape) (cpu first count : ℕ) → first ≡ share_first shape.elements shape.cpus cpu → count ≡ share_count shape.elements shape.cpus cpu → pushed_from first count ≡ opening_stack shape cpu
unfolding opening_stack
stack_is shape cpu first count first_is count_is = λ i. pushed_from (first_is i) (count_is i)

-- a set has some elements for each CPU
pub share_some : (x n : ℕ) → x % n ≡ 0 → 1 ≤ x → 0 < n → 0 < x / n
share_some x n even some above =
    ⊎_elim
    (λ (none : x / n ≡ 0). let whole : n * (x / n) ≡ n * 0 = ap (λ (q : ℕ). n * q) none in absurd (omega (arith, mul-zero n)))
    (λ (other : x / n ≡ 0 → ⊥). omega arith)
    (cases_eq (x / n) 0)

pub set_some : (shape : Shape) → HasBounds shape → is_lru shape.kind ≡ true → shape.common ≡ false → 0 < shape.elements / shape.cpus
set_some shape bounds lru apart =
    let same : shape.elements ≡ shape.capacity = bounds.spares_of_others (λ hash. let plain : is_lru shape.kind ≡ false = ap is_lru hash in absurd cc) in
    share_some shape.elements shape.cpus (ap (λ (n : ℕ). n % shape.cpus) same ∙ bounds.equal_shares lru apart) (omega (arith, bounds.some_capacity)) (omega (arith, bounds.some_cpu))

-- owners
pub owner_read : (shape : Shape) (held : List Owner) (e : ℕ) → AreOpeningOwners shape held → e < shape.elements → get_or held e owners.Free ≡ opening_owner shape shape.kind e
owner_read shape held e are real =
    ap (λ (xs : List Owner). get_or xs e owners.Free) are ∙ get_or-map-range_with_len (opening_owner shape shape.kind) 0 shape.elements e e owners.Free real (omega arith)

pub free_is : (shape : Shape) (held : List Owner) (lock : DomainId) (first count : ℕ) → AreOpeningOwners shape held → is_lock shape lock ≡ true → opening_pushed shape lock ≡ pushed_from first count → first + count ≤ shape.elements
    → filter (λ e. is_free (get_or held e owners.Free)) (pushed_from first count) ≡ opening_free shape lock
unfolding opening_free
free_is shape held lock first count are is pushed within =
    filter_same (λ e. is_free (get_or held e owners.Free)) (λ e. is_free (opening_owner shape shape.kind e)) first count shape.elements within (λ e real. ap is_free (owner_read shape held e are real))
    ∙ (ap (filter (λ e. is_free (opening_owner shape shape.kind e))) (sym pushed) ∙ sym (ap (λ b. cond b (filter (λ e. is_free (opening_owner shape shape.kind e)) (opening_pushed shape lock)) []) is))

pub free_none : (shape : Shape) (lock : DomainId) → is_lock shape lock ≡ false → [] ≡ opening_free shape lock
unfolding opening_free
free_none shape lock is_not = sym (ap (λ b. cond b (filter (λ e. is_free (opening_owner shape shape.kind e)) (opening_pushed shape lock)) []) is_not)

pub free_empty : (shape : Shape) (lock : DomainId) → opening_pushed shape lock ≡ [] → [] ≡ opening_free shape lock
unfolding opening_free
free_empty shape lock none = sym (either (is_lock shape lock))
  where
    either : (b : Bool) → cond b (filter (λ e. is_free (opening_owner shape shape.kind e)) (opening_pushed shape lock)) [] ≡ []
    either true = ap (filter (λ e. is_free (opening_owner shape shape.kind e))) none
    either false = refl

-- steps of the loops
pub flat_next : (f : ℕ → List ℕ) (n : ℕ) (list more now : List ℕ) → list ≡ flat_map f (range_with_len 0 n) → more ≡ f n → now ≡ list ++ more → now ≡ flat_map f (range_with_len 0 (n + 1))
flat_next f n list more now list_is more_is now_is =
    let here : 0 + n ≡ n = omega arith in
    now_is ∙ ((λ i. list_is i ++ more_is i) ∙ (ap (λ (k : ℕ). flat_map f (range_with_len 0 n) ++ f k) (sym here) ∙ sym (flat_more f 0 n)))

pub spares_at_end : (shape : Shape) (n : ℕ) (list now : List ℕ) → list ≡ flat_map (opening_stack shape) (range_with_len 0 n) → n ≡ shape.cpus → now ≡ take shape.cpus list → now ≡ opening_spares shape
spares_at_end shape n list now list_is all now_is =
    spares_are shape list now (list_is ∙ ap (λ (k : ℕ). flat_map (opening_stack shape) (range_with_len 0 k)) all) now_is

pub map_next : {A : Type 0} (f : ℕ → A) (n : ℕ) (list now : List A) (x : A) → list ≡ map f (range_with_len 0 n) → x ≡ f n → now ≡ list ++ x ∷ [] → now ≡ map f (range_with_len 0 (n + 1))
map_next f n list now x list_is x_is now_is =
    now_is ∙ ((λ i. list_is i ++ x_is i ∷ []) ∙ sym (map-range_with_len_more f 0 n n (omega arith)))

pub owners_count : (shape : Shape) (held : List Owner) → AreOpeningOwners shape held → length held ≡ shape.elements
owners_count shape held are = ap length are ∙ length-map-range_with_len (opening_owner shape shape.kind) 0 shape.elements

pub spares_length : (shape : Shape) → length (opening_spares shape) ≤ shape.cpus
unfolding opening_spares
spares_length shape = spares_few shape.cpus (flat_map (opening_stack shape) (range_with_len 0 shape.cpus))

pub free_local : (shape : Shape) (lock : DomainId) (cpu : ℕ) → lock ≡ Local cpu → [] ≡ opening_free shape lock
free_local shape lock cpu is = subst (λ (d : DomainId). [] ≡ opening_free shape d) (sym is) (free_empty shape (Local cpu) refl)

pub free_bucket : (shape : Shape) (lock : DomainId) (bucket : ℕ) → lock ≡ Bucket bucket → [] ≡ opening_free shape lock
free_bucket shape lock bucket is = subst (λ (d : DomainId). [] ≡ opening_free shape d) (sym is) (free_empty shape (Bucket bucket) refl)

pub free_global : (shape : Shape) (held : List Owner) (lock : DomainId) → AreOpeningOwners shape held → is_lock shape lock ≡ true → lock ≡ Global → filter (λ e. is_free (get_or held e owners.Free)) (pushed_from 0 shape.elements) ≡ opening_free shape lock
free_global shape held lock are is lock_is = free_is shape held lock 0 shape.elements are is (ap (opening_pushed shape) lock_is) (omega arith)

pub free_set : (shape : Shape) (held : List Owner) (lock : DomainId) (cpu first count : ℕ) → AreOpeningOwners shape held → is_lock shape lock ≡ true → lock ≡ CpuLru cpu → first ≡ share_first shape.elements shape.cpus cpu → count ≡ share_count shape.elements shape.cpus cpu → first + count ≤ shape.elements → filter (λ e. is_free (get_or held e owners.Free)) (pushed_from first count) ≡ opening_free shape lock
free_set shape held lock cpu first count are is lock_is first_is count_is within =
    free_is shape held lock first count are is (ap (opening_pushed shape) lock_is ∙ sym (stack_is shape cpu first count first_is count_is)) within

pub free_list : (shape : Shape) (held : List Owner) (lock : DomainId) (cpu first count : ℕ) → AreOpeningOwners shape held → is_lock shape lock ≡ true → lock ≡ Freelist cpu → first ≡ share_first shape.elements shape.cpus cpu → count ≡ share_count shape.elements shape.cpus cpu → first + count ≤ shape.elements → filter (λ e. is_free (get_or held e owners.Free)) (pushed_from first count) ≡ opening_free shape lock
free_list shape held lock cpu first count are is lock_is first_is count_is within =
    free_is shape held lock first count are is (ap (opening_pushed shape) lock_is ∙ sym (stack_is shape cpu first count first_is count_is)) within
