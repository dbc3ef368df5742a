-- Turns of a map that doesn't evict, one after another, are a run of the core: from a state whose lists are what lies under the
-- locks, each step may be done, and the lists are then what lies there after the turns.
use Rattle.std.proofs.Common.{◌≡◌, ◌≢◌, ℕ, zero, suc, ◌+◌, ◌<◌, ◌≤◌, Bool, true, false, cond, ltb, List, [], ◌∷◌, ◌++◌, length, map, Option, None, Some, refl, ap, ◌∙◌, sym, subst, ⊎_elim, arith}
use Rattle.std.specs.Prelude.{IsTrue, MatchOption}
use Rattle.std.proofs.lemmas.Bool.{cases_Bool, cond-true, cond-false}
use Rattle.map_types.specs.declared.attr.Shape.{Shape}
use Rattle.map_types.specs.declared.kind.DomainId.{DomainId}
use Rattle.map_types.specs.declared.kind.DomainId.TheVariants.{Bucket, Freelist}
use Rattle.map_types.specs.declared.kind.Side.{Side}
use Rattle.map_types.specs.Kind.{is_lru}
use Rattle.map_types.specs.Shape.{HasBounds}
use Rattle.map_types.specs.Stored.{Stored}
use Rattle.map_types.specs.ElementLists.{IsHead, times, without}
use Rattle.place_words.specs.declared.bucket_part.BucketPart.TheVariants.{Lookup, Update}
use Rattle.place_words.specs.declared.bucket_part.Put.TheVariants as puts
use Rattle.place_words.specs.declared.free_part.FreePart.TheVariants.{Popped, FoundEmpty}
use Rattle.place_words.specs.declared.history.Part.TheVariants as parts
use Rattle.place_words.specs.Buckets.{bucket_after}
use Rattle.place_words.specs.Freelists.{AllowsOnFreelist, without_top}
use Rattle.place_words.specs.Histories.{Content, in_bucket, on_freelist, freelist_in, bucket_in, content_after, Allows}
use Rattle.place_words.specs.Locks.{rank_of, is_lock, is_same_lock}
use Rattle.place_words.specs.Turns.{Turn, on_lock, on_freelist_of, after_turn, after_turns, AreAllowed}
use Rattle.place_words.proofs.LockLemmas.{same_lock, one_lock}
use Rattle.place_words.proofs.Settled.{turned_here, turned_elsewhere}
use Rattle.place_words.specs.declared.step.Lists.{Lists}
use Rattle.place_words.specs.declared.step.Step.TheVariants as steps
use Rattle.place_words.specs.State.{State}
use Rattle.place_words.specs.Steps.{with_row, without_free}
use Rattle.place_words.proofs.RowLemmas.{head_is_in}
use Rattle.place_words.specs.declared.owner.Owner.TheVariants as owners
use Rattle.place_words.specs.Interleaving.{Drawn, Event, does, is_inner, part_steps, seen_by, lists_in, takes, interleaved, AreEnabled}
use Rattle.core_runs.proofs.Nests.{stamped, AreFrom, AreBeside, turn_alone, drawn, nest, HasBegun, begun_first, begun_next, nest_begins, nest_goes, nest_ends}
use Rattle.core_runs.proofs.Tied.{IsTied, with_lists, held_first, lists_here, lists_else, free_real, take_tied, claim_tied, attach_tied, give_same}

-- the lists that the core has where this lies under the locks
abbrev pub core_lists : (DomainId → Content) → DomainId → Lists
core_lists contents lock = lists_in (contents lock)

-- the lists of a bucket
abbrev pub bucket_lists : List ℕ → Lists
bucket_lists xs = record { free = []; first = xs; second = []; cursor = None }

-- what the core has under a lock after its turn, where it is known what lay there
pub lists_turned : (shape : Shape) (cpu : ℕ) (contents : DomainId → Content) (turn : Turn) (was : Content) → contents turn.lock ≡ was → lists_in (after_turn shape cpu contents turn turn.lock) ≡ lists_in (content_after shape cpu turn.part was)
lists_turned shape cpu contents turn was lies = ap lists_in (turned_here shape cpu contents turn turn.lock (same_lock turn.lock) ∙ ap (content_after shape cpu turn.part) lies)

pub tied_alike : {shape : Shape} {cpu : ℕ} {held : List DomainId} {lists others : DomainId → Lists} {Known : ℕ → ℕ → Type 0} {s : State} → ((lock : DomainId) → lists lock ≡ others lock) → IsTied shape cpu held lists Known s → IsTied shape cpu held others Known s
tied_alike {shape = shape} same tied = record { holders = tied.holders; lists_are = λ k. tied.lists_are k ∙ same (Rattle.place_words.specs.Locks.lock_named shape k); placed = tied.placed; known = tied.known }

-- what is given back is what lies there after the turn, and the rest is as it was
pub then_alike : (shape : Shape) (cpu : ℕ) (contents : DomainId → Content) (turn : Turn) (lists : DomainId → Lists) → ((other : DomainId) → turn.lock ≢ other → lists other ≡ lists_in (contents other))
    → (other : DomainId) → with_lists turn.lock (lists_in (after_turn shape cpu contents turn turn.lock)) lists other ≡ lists_in (after_turn shape cpu contents turn other)
then_alike shape cpu contents turn lists apart other =
    ⊎_elim
    (λ (same : is_same_lock turn.lock other ≡ true).
    subst (λ (l : DomainId). with_lists turn.lock (lists_in (after_turn shape cpu contents turn turn.lock)) lists l ≡ lists_in (after_turn shape cpu contents turn l)) (one_lock turn.lock other same)
    (lists_here turn.lock (lists_in (after_turn shape cpu contents turn turn.lock)) lists))
    (λ (differs : is_same_lock turn.lock other ≡ false).
    cond-false (is_same_lock turn.lock other) _ _ differs ∙ apart other (λ same. Rattle.std.proofs.lemmas.Bool.true≢false (sym (subst (λ (l : DomainId). is_same_lock turn.lock l ≡ true) same (same_lock turn.lock)) ∙ differs)) ∙ ap lists_in (sym (turned_elsewhere shape cpu contents turn other differs)))
    (cases_Bool (is_same_lock turn.lock other))

module _ {shape : Shape} (bounds : HasBounds shape) {cpu : ℕ} (within : cpu < shape.cpus) {Known : ℕ → ℕ → Type 0} where
  -- A turn that moves no element, alone.
  pub quiet_alone : {s : State} (contents : DomainId → Content) → IsTied shape cpu [] (core_lists contents) Known s
      → (n call : ℕ) (turn : Turn) (later : List Drawn) → is_inner turn.part ≡ false → IsTrue (is_lock shape turn.lock) → AreFrom (suc n) later
      → part_steps shape cpu turn.lock None turn.part ≡ [] → seen_by turn.part ≡ [] → lists_in (contents turn.lock) ≡ lists_in (after_turn shape cpu contents turn turn.lock)
      → ((t : State) → IsTied shape cpu [] (core_lists (after_turn shape cpu contents turn)) Known t → AreEnabled shape t (interleaved shape (after_turn shape cpu contents turn) [] later))
      → AreEnabled shape s (interleaved shape contents [] (drawn n cpu call turn ∷ later))
  unfolding AreEnabled
  quiet_alone {s = s} contents tied n call turn later outer is from quiet blind same more =
      let now : DomainId → Content = after_turn shape cpu contents turn in
      let x : Drawn = drawn n cpu call turn in
      let took = take_tied bounds within tied turn.lock is tt in
      let gave = give_same bounds within turn.lock took.tied (lists_in (now turn.lock)) is tt same in
      let steps_are : interleaved shape contents [] (x ∷ later) ≡ takes x ∷ does (steps.Give cpu turn.lock (lists_in (now turn.lock))) ∷ interleaved shape now [] later =
      turn_alone shape contents x later outer from
      ∙ ap (λ (l : List Rattle.place_words.specs.declared.step.Step.Step). takes x ∷ map does l ++ (seen_by turn.part ++ does (steps.Give cpu turn.lock (lists_in (now turn.lock))) ∷ interleaved shape now [] later)) quiet
      ∙ ap (λ (l : List Event). takes x ∷ (l ++ does (steps.Give cpu turn.lock (lists_in (now turn.lock))) ∷ interleaved shape now [] later)) blind in
      subst (AreEnabled shape s) (sym steps_are)
      (took.enabled, (gave.enabled, more _ (tied_alike (then_alike shape cpu contents turn (core_lists contents) (λ other apart. refl)) gave.tied)))

  -- A lookup.
  pub lookup_runs : {s : State} (contents : DomainId → Content) → IsTied shape cpu [] (core_lists contents) Known s
      → (n call bucket : ℕ) (bodies : List Stored) (side : Side) (key : List ℕ) (got : Option (ℕ × List ℕ)) (later : List Drawn) → bucket < shape.buckets → contents (Bucket bucket) ≡ in_bucket bodies → AreFrom (suc n) later
      → ((t : State) → IsTied shape cpu [] (core_lists (after_turn shape cpu contents (on_lock (Bucket bucket) (parts.Bucket (Lookup side key got))))) Known t
      → AreEnabled shape t (interleaved shape (after_turn shape cpu contents (on_lock (Bucket bucket) (parts.Bucket (Lookup side key got)))) [] later))
      → AreEnabled shape s (interleaved shape contents [] (drawn n cpu call (on_lock (Bucket bucket) (parts.Bucket (Lookup side key got))) ∷ later))
  unfolding bucket_after
  lookup_runs contents tied n call bucket bodies side key got later there lies from more =
      let turn : Turn = on_lock (Bucket bucket) (parts.Bucket (Lookup side key got)) in
      quiet_alone contents tied n call turn later refl (Rattle.std.proofs.lemmas.Bool.lt-ltb bucket shape.buckets there) from refl refl
      (ap lists_in (lies ∙ sym (turned_here shape cpu contents turn (Bucket bucket) (same_lock (Bucket bucket)) ∙ ap (content_after shape cpu (parts.Bucket (Lookup side key got))) lies))) more

-- what lies under the lock of a freelist's turn, or of a bucket's
pub record OnStack (content : Content) (Fact : List ℕ → Type 0) : Type 0 where
  pub stack : List ℕ
  pub lies : content ≡ on_freelist stack
  pub fact : Fact stack

pub on_stack : (content : Content) (Fact : List ℕ → Type 0) → MatchOption (freelist_in content) ⊥ Fact → OnStack content Fact
on_stack (in_bucket bodies) Fact may = absurd may
on_stack (on_freelist stack) Fact may = record { stack = stack; lies = refl; fact = may }
on_stack (Rattle.place_words.specs.Histories.in_locals lists) Fact may = absurd may
on_stack (Rattle.place_words.specs.Histories.in_global set) Fact may = absurd may
on_stack (Rattle.place_words.specs.Histories.in_own set) Fact may = absurd may

pub record OnBodies (content : Content) (Fact : List Stored → Type 0) : Type 0 where
  pub bodies : List Stored
  pub lies : content ≡ in_bucket bodies
  pub fact : Fact bodies

pub on_bodies : (content : Content) (Fact : List Stored → Type 0) → MatchOption (bucket_in content) ⊥ Fact → OnBodies content Fact
on_bodies (in_bucket bodies) Fact may = record { bodies = bodies; lies = refl; fact = may }
on_bodies (on_freelist stack) Fact may = absurd may
on_bodies (Rattle.place_words.specs.Histories.in_locals lists) Fact may = absurd may
on_bodies (Rattle.place_words.specs.Histories.in_global set) Fact may = absurd may
on_bodies (Rattle.place_words.specs.Histories.in_own set) Fact may = absurd may

pub head_first : (e : ℕ) (stack : List ℕ) → IsHead e stack → stack ≡ e ∷ without_top stack
head_first e [] is = absurd is
head_first e (x ∷ stack) is = ap (λ (y : ℕ). y ∷ stack) is

pub without_head : (e : ℕ) (xs : List ℕ) → without e (e ∷ xs) ≡ xs
without_head e xs = cond-true (Rattle.std.proofs.Common.eqb e e) xs (e ∷ without e xs) (Rattle.std.proofs.lemmas.Bool.eq-eqb e e refl)

-- What is known to be in hands where an element came to a CPU's hand, and where one left the hands.
abbrev pub with_hand : ℕ → ℕ → (ℕ → ℕ → Type 0) → ℕ → ℕ → Type 0
with_hand cpu e Known c x = (x ≡ e → c ≡ cpu) × (x ≢ e → Known c x)

abbrev pub AreCpus : Shape → List ℕ → Type 0
AreCpus shape [] = Unit {0}
AreCpus shape (c ∷ cpus) = (c < shape.cpus) × AreCpus shape cpus

-- the turns by which an element is popped
abbrev pub popping : List ℕ → ℕ → ℕ → List Turn
popping [] giver e = on_freelist_of giver (Popped e) ∷ []
popping (c ∷ passed) giver e = on_freelist_of c FoundEmpty ∷ popping passed giver e

pub popping_beside : (passed : List ℕ) (giver e : ℕ) → AreBeside 4 (popping passed giver e)
popping_beside [] giver e = ((refl, refl), tt)
popping_beside (c ∷ passed) giver e = ((refl, refl), popping_beside passed giver e)

pub freelist_there : (shape : Shape) → is_lru shape.kind ≡ false → (c : ℕ) → c < shape.cpus → is_lock shape (Freelist c) ≡ true
freelist_there shape plain c less = rw (plain, Rattle.std.proofs.lemmas.Bool.lt-ltb c shape.cpus less) refl

module _ {shape : Shape} (bounds : HasBounds shape) (plain : is_lru shape.kind ≡ false) {cpu : ℕ} (within : cpu < shape.cpus) (call bucket : ℕ) (bucket_turn : Turn) (lock_is : bucket_turn.lock ≡ Bucket bucket)
    (outer : is_inner bucket_turn.part ≡ false) (last : ℕ) (later : List Drawn) where
  rank_there : ltb (rank_of bucket_turn.lock) 4 ≡ true
  rank_there = ap (λ (l : DomainId). ltb (rank_of l) 4) lock_is

  -- An element is popped inside the bucket's turn: it comes to the CPU's hand.
  pub popping_runs : {Known : ℕ → ℕ → Type 0} (passed : List ℕ) (giver e : ℕ) {s : State} (contents : DomainId → Content) → IsTied shape cpu (Bucket bucket ∷ []) (core_lists contents) Known s
      → (begun : List ℕ) (n : ℕ) → last ≡ n + suc (length passed) → HasBegun shape cpu call bucket_turn outer begun n last
      → AreAllowed shape cpu contents (popping passed giver e) → AreCpus shape passed → giver < shape.cpus
      → ((t : State) (began : List ℕ) → HasBegun shape cpu call bucket_turn outer began last last → ((c x : ℕ) → Known c x → x ≢ e)
      → IsTied shape cpu (Bucket bucket ∷ []) (core_lists (after_turns shape cpu contents (popping passed giver e))) (with_hand cpu e Known) t
      → AreEnabled shape t (interleaved shape (after_turns shape cpu contents (popping passed giver e)) began (drawn last cpu call bucket_turn ∷ later)))
      → AreEnabled shape s (interleaved shape contents begun (nest shape cpu call bucket_turn outer last n (popping passed giver e) later))
  unfolding AreEnabled
  popping_runs {Known = Known} [] giver e {s = s} contents tied begun n is has allowed cpus there more =
      let turn : Turn = on_freelist_of giver (Popped e) in
      let now : DomainId → Content = after_turn shape cpu contents turn in
      let stack = on_stack (contents (Freelist giver)) (AllowsOnFreelist (Popped e)) allowed.0 in
      let lies : contents (Freelist giver) ≡ on_freelist (e ∷ without_top stack.stack) = stack.lies ∙ ap on_freelist (head_first e stack.stack stack.fact) in
      let is_there : is_lock shape (Freelist giver) ≡ true = freelist_there shape plain giver there in
      let took = take_tied bounds within tied (Freelist giver) is_there (omega arith, tt) in
      let left : Lists = lists_in (on_freelist (without_top stack.stack)) in
      let made : with_row (Freelist giver) e (without_free e (lists_in (contents (Freelist giver)))) ≡ left =
      ap (λ (c : Content). with_row (Freelist giver) e (without_free e (lists_in c))) lies ∙ ap (λ (xs : List ℕ). lists_in (on_freelist xs)) (without_head e (without_top stack.stack)) in
      let claimed = claim_tied bounds within took.tied (Freelist giver) e (without_top stack.stack) left (with_hand cpu e Known) is_there (held_first cpu (Bucket bucket ∷ []) (Freelist giver)) (ap (λ (c : Content). (lists_in c).free) lies) made (λ c x later. later) in
      let after : lists_in (now (Freelist giver)) ≡ left =
      ap lists_in (turned_here shape cpu contents turn (Freelist giver) (same_lock (Freelist giver)) ∙ ap (content_after shape cpu (parts.Free (Popped e))) lies) in
      let gave = give_same bounds within (Freelist giver) claimed.tied (lists_in (now (Freelist giver))) is_there (omega arith, tt) (lists_here (Freelist giver) left (core_lists contents) ∙ sym after) in
      let free : s.owner e ≡ owners.Free = (free_real bounds within tied (Freelist giver) e is_there (subst (λ (xs : List ℕ). 0 < times e xs) (sym (ap (λ (c : Content). (lists_in c).free) lies)) (head_is_in e (e ∷ without_top stack.stack) refl))).1 in
      subst (AreEnabled shape s) (sym (nest_goes shape cpu call bucket_turn outer contents begun last n 4 turn [] later (omega (arith, is)) tt refl refl rank_there has)) (
        took.enabled,
        (
          claimed.enabled,
          (
            gave.enabled,
            more _ (n ∷ last ∷ begun)
                (subst (λ (k : ℕ). HasBegun shape cpu call bucket_turn outer (n ∷ last ∷ begun) k last) (omega (arith, is)) (begun_next shape cpu call bucket_turn outer begun n last (omega (arith, is)) has))
                (λ c x hand same. let owner : owners.Free ≡ owners.Hand c = sym free ∙ ap s.owner (sym same) ∙ (tied.known c x hand).1 in absurd cc)
                (tied_alike (then_alike shape cpu contents turn (with_lists (Freelist giver) left (core_lists contents)) (λ other apart. lists_else (Freelist giver) other left (core_lists contents) apart)) gave.tied),
          ),
        ),
      )
  popping_runs {Known = Known} (c ∷ passed) giver e {s = s} contents tied begun n is has allowed cpus there more =
      let turn : Turn = on_freelist_of c FoundEmpty in
      let now : DomainId → Content = after_turn shape cpu contents turn in
      let stack = on_stack (contents (Freelist c)) (AllowsOnFreelist FoundEmpty) allowed.0 in
      let is_there : is_lock shape (Freelist c) ≡ true = freelist_there shape plain c cpus.0 in
      let took = take_tied bounds within tied (Freelist c) is_there (omega arith, tt) in
      let after : lists_in (contents (Freelist c)) ≡ lists_in (now (Freelist c)) =
      ap lists_in (stack.lies ∙ sym (turned_here shape cpu contents turn (Freelist c) (same_lock (Freelist c)) ∙ ap (content_after shape cpu (parts.Free FoundEmpty)) stack.lies)) in
      let gave = give_same bounds within (Freelist c) took.tied (lists_in (now (Freelist c))) is_there (omega arith, tt) after in
      subst (AreEnabled shape s) (sym (nest_goes shape cpu call bucket_turn outer contents begun last n 4 turn (popping passed giver e) later (omega (arith, is)) (popping_beside passed giver e) refl refl rank_there has)) (
        took.enabled,
        (
          gave.enabled,
          popping_runs passed giver e now (tied_alike (then_alike shape cpu contents turn (core_lists contents) (λ other apart. refl)) gave.tied)
              (n ∷ last ∷ begun) (suc n) (omega (arith, is)) (begun_next shape cpu call bucket_turn outer begun n last (omega (arith, is)) has) allowed.1 cpus.1 there more,
        ),
      )

  -- the bucket's lock is taken before the first look
  popping_begins : (passed : List ℕ) (giver e : ℕ) (contents : DomainId → Content) (n : ℕ) → last ≡ n + suc (length passed) → AreFrom (suc last) later
      → interleaved shape contents [] (nest shape cpu call bucket_turn outer last n (popping passed giver e) later)
      ≡ does (steps.Take cpu bucket_turn.lock) ∷ interleaved shape contents (last ∷ []) (nest shape cpu call bucket_turn outer last n (popping passed giver e) later)
  popping_begins [] giver e contents n is from = nest_begins shape cpu call bucket_turn outer contents last n 4 (on_freelist_of giver (Popped e)) [] later (omega (arith, is)) tt refl refl rank_there from
  popping_begins (c ∷ passed) giver e contents n is from =
      nest_begins shape cpu call bucket_turn outer contents last n 4 (on_freelist_of c FoundEmpty) (popping passed giver e) later (omega (arith, is)) (popping_beside passed giver e) refl refl rank_there from

module _ {shape : Shape} (bounds : HasBounds shape) (plain : is_lru shape.kind ≡ false) {cpu : ℕ} (within : cpu < shape.cpus) {Known : ℕ → ℕ → Type 0} where
  -- An update that adds an element: it is popped, looking at the freelists in their order, and put at the head of the bucket.
  pub added_runs : {s : State} (contents : DomainId → Content) → IsTied shape cpu [] (core_lists contents) Known s
      → (n call bucket : ℕ) (side : Side) (flags : ℕ) (key value : List ℕ) (offer : Option ℕ) (passed : List ℕ) (giver e : ℕ) (later : List Drawn) → bucket < shape.buckets
      → AreAllowed shape cpu contents (popping passed giver e) → AreCpus shape passed → giver < shape.cpus
      → MatchOption (bucket_in (after_turns shape cpu contents (popping passed giver e) (Bucket bucket))) ⊥ (λ (bodies : List Stored). Unit {0})
      → AreFrom (suc (n + suc (length passed))) later
      → ((t : State) → IsTied shape cpu [] (core_lists (after_turn shape cpu (after_turns shape cpu contents (popping passed giver e)) (on_lock (Bucket bucket) (parts.Bucket (Update side flags key value offer (puts.Added e)))))) Known t
      → AreEnabled shape t (interleaved shape (after_turn shape cpu (after_turns shape cpu contents (popping passed giver e)) (on_lock (Bucket bucket) (parts.Bucket (Update side flags key value offer (puts.Added e))))) [] later))
      → AreEnabled shape s (interleaved shape contents [] (stamped n cpu call (popping passed giver e) ++ drawn (n + suc (length passed)) cpu call (on_lock (Bucket bucket) (parts.Bucket (Update side flags key value offer (puts.Added e)))) ∷ later))
  unfolding AreEnabled bucket_after
  added_runs {s = s} contents tied n call bucket side flags key value offer passed giver e later there allowed cpus giver_there lies from more =
      let last : ℕ = n + suc (length passed) in
      let turn : Turn = on_lock (Bucket bucket) (parts.Bucket (Update side flags key value offer (puts.Added e))) in
      let popped : DomainId → Content = after_turns shape cpu contents (popping passed giver e) in
      let now : DomainId → Content = after_turn shape cpu popped turn in
      let is_there : is_lock shape (Bucket bucket) ≡ true = Rattle.std.proofs.lemmas.Bool.lt-ltb bucket shape.buckets there in
      let bodies = on_bodies (popped (Bucket bucket)) (λ (l : List Stored). Unit {0}) lies in
      let took = take_tied bounds within tied (Bucket bucket) is_there tt in
      let brought : Lists = with_row (Bucket bucket) e (lists_in (popped (Bucket bucket))) in
      let after : brought ≡ lists_in (now (Bucket bucket)) =
      ap (λ (c : Content). with_row (Bucket bucket) e (lists_in c)) bodies.lies
      ∙ sym (ap lists_in (turned_here shape cpu popped turn (Bucket bucket) (same_lock (Bucket bucket)) ∙ ap (content_after shape cpu turn.part) bodies.lies)) in
      subst (AreEnabled shape s) (sym (popping_begins bounds plain within call bucket turn refl refl last later passed giver e contents n refl from)) (
        took.enabled,
        popping_runs bounds plain within call bucket turn refl refl last later passed giver e contents took.tied (last ∷ []) n refl (begun_first shape cpu call turn refl n last) allowed cpus giver_there
            (λ t began has away held.
            let put = attach_tied bounds within held bucket e brought Known is_there (held_first cpu [] (Bucket bucket)) ((λ same. refl), (λ other. absurd (other refl))) (λ lru. absurd (Rattle.std.proofs.lemmas.Bool.true≢false (sym lru ∙ plain))) refl
            (λ c x hand. (((λ same. absurd (away c x hand same)), (λ other. hand)), away c x hand)) in
            let gave = give_same bounds within (Bucket bucket) put.tied (lists_in (now (Bucket bucket))) is_there tt (lists_here (Bucket bucket) brought (core_lists popped) ∙ after) in
            subst (AreEnabled shape t) (sym (nest_ends shape cpu call turn refl popped began last last later has from)) (
              put.enabled,
              (
                gave.enabled,
                more _
                    (tied_alike (then_alike shape cpu popped turn (with_lists (Bucket bucket) brought (core_lists popped)) (λ other apart. lists_else (Bucket bucket) other brought (core_lists popped) apart)) gave.tied),
              ),
            )),
      )
