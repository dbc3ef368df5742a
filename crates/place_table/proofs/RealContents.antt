-- What lies under a lock after any number of its turns is elements of the map, each once at most.
use Rattle.std.proofs.Common.{◌≡◌, ℕ, ◌+◌, ◌≤◌, ◌⊎◌, inl, inr, ⊎_elim, Bool, true, false, ◌&&◌, List, [], ◌∷◌, ◌++◌, sym, refl, ap, ◌∙◌, subst, arith}
use Rattle.std.specs.Prelude.{nat_lt}
use Rattle.map_types.specs.declared.attr.Shape.{Shape}
use Rattle.map_types.specs.declared.kind.DomainId.{DomainId}
use Rattle.map_types.specs.declared.kind.DomainId.TheVariants.{Local, Global, CpuLru, Bucket, Freelist}
use Rattle.map_types.specs.Kind.{is_lru}
use Rattle.map_types.specs.ElementLists.{one, times}
use Rattle.map_types.specs.Listed.{elements_of}
use Rattle.map_types.proofs.RowLemmas.{times_append}
use Rattle.place_words.specs.declared.history.Entry.{Entry}
use Rattle.place_words.specs.declared.owner.Owner.{Owner}
use Rattle.place_words.specs.declared.owner.Owner.TheVariants as owners
use Rattle.place_words.specs.declared.step.Lists.{Lists}
use Rattle.place_words.specs.Bodies.{numbers}
use Rattle.place_words.specs.Histories.{Content, content, in_bucket, on_freelist, in_locals, in_global, in_own}
use Rattle.place_words.specs.Locks.{lock_named}
use Rattle.place_words.specs.Moves.{elements_in}
use Rattle.place_words.specs.Openings.{is_free}
use Rattle.place_words.specs.Places.{lies_at, has_row, Placed}
use Rattle.place_words.specs.State.{State, rows}
use Rattle.place_table.specs.Contents.{lists_of}
use Rattle.place_words.specs.Real.{IsReal, IsAlwaysReal}

-- a free element has no row
no_row : (lru here : Bool) (lock : DomainId) → has_row lru lock owners.Free here ≡ false
no_row true here (Local cpu) = refl
no_row false here (Local cpu) = refl
no_row true here Global = refl
no_row false here Global = refl
no_row true here (CpuLru cpu) = refl
no_row false here (CpuLru cpu) = refl
no_row lru here (Bucket bucket) = refl
no_row true here (Freelist cpu) = refl
no_row false here (Freelist cpu) = refl

at_most : (b : Bool) → one b ≤ 1
at_most true = omega arith
at_most false = omega arith

-- so an element of the map is free or has a row, and no other number does
free_or_row : (real here lru : Bool) (lock : DomainId) (o : Owner) → one (real && (is_free o && here)) + one (real && has_row lru lock o here) ≤ one real
free_or_row false here lru lock o = omega arith
free_or_row true here lru lock owners.Free = let none = ap one (no_row lru here lock) in let few = at_most here in omega arith
free_or_row true here lru lock (owners.Bucket b) = let few = at_most (has_row lru lock (owners.Bucket b) here) in omega arith
free_or_row true here lru lock (owners.Hand c) = let few = at_most (has_row lru lock (owners.Hand c) here) in omega arith

-- the elements of a content are those of its lists
same_elements : (e : ℕ) (c : Content) → times e (elements_in c) ≡ times e (lists_of c).free + times e (rows (lists_of c))
same_elements e (in_bucket bodies) = let parts = times_append e (numbers bodies) [] in omega arith
same_elements e (on_freelist stack) = omega arith
same_elements e (in_locals lists) =
    let parts = times_append e lists.free (elements_of lists.pending) in let first = times_append e (elements_of lists.pending) [] in omega arith
same_elements e (in_global set) = times_append e set.free (elements_of set.lists.active ++ elements_of set.lists.inactive)
same_elements e (in_own set) = times_append e set.free (elements_of set.lists.active ++ elements_of set.lists.inactive)

-- what lies under a lock, where elements are in their places, is real
pub real_there : (shape : Shape) (s : State) (p : Placed shape s) (k : ℕ) (c : Content) → s.lists k ≡ lists_of c → IsReal shape c
real_there shape s p k c lies e =
    let same = same_elements e c in
    let free : times e (lists_of c).free ≡ one (nat_lt e shape.elements && (is_free (s.owner e) && lies_at k (p.place e))) = ap (λ (l : Lists). times e l.free) (sym lies) ∙ p.placed.free k e in
    let row : times e (rows (lists_of c)) ≡ one (nat_lt e shape.elements && has_row (is_lru shape.kind) (lock_named shape k) (s.owner e) (lies_at k (p.place e))) = ap (λ (l : Lists). times e (rows l)) (sym lies) ∙ p.placed.rows k e in
    let few = free_or_row (nat_lt e shape.elements) (lies_at k (p.place e)) (is_lru shape.kind) (lock_named shape k) (s.owner e) in
    omega arith

-- A beginning of turns with one more is a beginning of those before, or all.
begins : (turns before after : List Entry) (e : Entry) → turns ++ e ∷ [] ≡ before ++ after → ((rest : List Entry) × (turns ≡ before ++ rest)) ⊎ (before ≡ turns ++ e ∷ [])
begins turns [] after e is = inl (turns, refl)
begins [] (x ∷ []) after e is = let same : e ≡ x = cc in inr (ap (λ (y : Entry). y ∷ []) (sym same))
begins [] (x ∷ y ∷ ys) after e is = absurd cc
begins (t ∷ ts) (x ∷ xs) after e is =
    let head : t ≡ x = cc in let tail : ts ++ e ∷ [] ≡ xs ++ after = cc in
    ⊎_elim
    (λ (some : (rest : List Entry) × (ts ≡ xs ++ rest)). inl (some.0, (λ i. head i ∷ some.1 i)))
    (λ (all : xs ≡ ts ++ e ∷ []). inr (λ i. sym head i ∷ all i))
    (begins ts xs after e tail)

nothing_before : (before after : List Entry) → [] ≡ before ++ after → before ≡ []
nothing_before [] after is = refl
nothing_before (x ∷ xs) after is = absurd cc

pub real_at_first : (shape : Shape) (lock : DomainId) → IsReal shape (content shape lock []) → IsAlwaysReal shape lock []
real_at_first shape lock first before after is = subst (λ (l : List Entry). IsReal shape (content shape lock l)) (sym (nothing_before before after is)) first

-- one turn more leaves what is real
pub real_more : (shape : Shape) (lock : DomainId) (turns : List Entry) (e : Entry) → IsAlwaysReal shape lock turns → IsReal shape (content shape lock (turns ++ e ∷ [])) → IsAlwaysReal shape lock (turns ++ e ∷ [])
real_more shape lock turns e was now before after is =
    ⊎_elim
    (λ (some : (rest : List Entry) × (turns ≡ before ++ rest)). was before some.0 some.1)
    (λ (all : before ≡ turns ++ e ∷ []). subst (λ (l : List Entry). IsReal shape (content shape lock l)) (sym all) now)
    (begins turns before after e is)
