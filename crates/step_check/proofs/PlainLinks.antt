-- On maps that don't evict, and on those whose CPUs have lists of their own, the turns of calls, in the order of their tickets, are such as the
-- law of words asks for, as far as words allow them to run.
use Rattle.std.proofs.Common.{◌≡◌, ◌≢◌, ℕ, zero, suc, inl, inr, Bool, true, false, ◌&&◌, not, ltb, List, [], ◌∷◌, Option, None, Some, refl, ap, ◌∙◌, sym, subst, ⊎_elim, arith}
use Rattle.std.specs.Prelude.{IsTrue}
use Rattle.std.proofs.lemmas.Bool.{cases_Bool, and_parts, true≢false}
use Rattle.map_types.specs.declared.attr.Shape.{Shape}
use Rattle.map_types.specs.declared.kind.DomainId.{DomainId}
use Rattle.map_types.specs.declared.kind.DomainId.TheVariants.{Local, Global, CpuLru, Bucket, Freelist}
use Rattle.map_types.specs.Kind.{is_lru}
use Rattle.map_types.specs.Shape.{HasBounds}
use Rattle.map_types.specs.ElementLists.{put, times}
use Rattle.map_types.proofs.RowLemmas.{by_test}
use Rattle.place_words.specs.declared.bucket_part.BucketPart.{BucketPart}
use Rattle.place_words.specs.declared.bucket_part.BucketPart.TheVariants.{Lookup, Update, Delete, Take, Next, First, Walk, Evict}
use Rattle.place_words.specs.declared.free_part.FreePart.{FreePart}
use Rattle.place_words.specs.declared.free_part.FreePart.TheVariants.{Pushed, Popped, FoundEmpty}
use Rattle.place_words.specs.declared.history.Part.{Part}
use Rattle.place_words.specs.declared.history.Part.TheVariants as parts
use Rattle.place_words.specs.Histories.{Content, opening_content}
use Rattle.place_words.specs.Locks.{is_lock}
use Rattle.place_words.specs.OpeningState.{opening}
use Rattle.place_words.specs.Turns.{after_turn}
use Rattle.place_words.proofs.ElementLemmas.{put_here, put_else}
use Rattle.place_words.specs.Interleaving.{Drawn, turn_of, Event, enclosing, bucket_around, bucket_of_lock, lists_in}
use Rattle.turn_order.specs.Ordered.{interleaved_to}
use Rattle.turn_order.specs.InCalls.{AreInOrder}
use Rattle.place_words.specs.declared.step.Lists.{Lists}
use Rattle.core_runs.specs.Words.{Words, words_of, RunsByWords}
use Rattle.core_runs.specs.RaceRows.{no_debt}
use Rattle.core_runs.specs.Races.{left_inside, PaysAt, PushesInside, owed_given, owed_for, owed_after}
use Rattle.core_runs.proofs.RaceLinks.{AllowAlong, AreOnLocks}
use Rattle.step_check.proofs.First.{AreTurnsTo}
use Rattle.step_check.proofs.Begun.{Stands, HaveOwnTickets, Held, held_first, begun_after, Made, turn_made, stands_around}
use Rattle.step_check.proofs.LockSorts.{sort_of_lock, sort_of_part, AreOfTheirSorts, sorts_first, sorts_after, part_sort, IsBucketLock, bucket_lock, IsFreelistLock, freelist_lock, IsSetLock, set_lock, IsLocalLock, local_lock, global_lock}
use Rattle.step_check.proofs.Inside.{around_of, pushed_by, bucket_of_turn, bucket_around_is, InBucket, ArePushedInside, found_around}
use Rattle.step_check.proofs.Nested.{left_of}
use Rattle.step_check.proofs.InsideCalls.{bucket_pays, pushed_inside}
use Rattle.step_check.proofs.PlainNested.{calls_nested}
use Rattle.step_check.proofs.Owes.{Owes, owes_first, owes_here, owes_quiet, owes_push}

-- a turn that stands among some is of a lock of the map
pub on_stands : (shape : Shape) (turns : List Drawn) → AreOnLocks shape turns → (y : Drawn) → Stands y turns → IsTrue (is_lock shape y.lock)
on_stands shape [] on y at = absurd at
on_stands shape (x ∷ later) on y (inl is) = subst (λ (d : Drawn). IsTrue (is_lock shape d.lock)) is on.0
on_stands shape (x ∷ later) on y (inr at) = on_stands shape later on.1 y at

pub on_lock_named : (shape : Shape) (lock named : DomainId) → lock ≡ named → IsTrue (is_lock shape lock) → IsTrue (is_lock shape named)
on_lock_named shape lock named is on = subst (λ (l : DomainId). IsTrue (is_lock shape l)) is on

-- Which locks a map hasn't
no_freelist : (shape : Shape) (c : ℕ) → is_lru shape.kind ≡ true → is_lock shape (Freelist c) ≡ true → ⊥
no_freelist shape c evicts is =
    true≢false (sym (and_parts (not (is_lru shape.kind)) (ltb c shape.cpus) is).0 ∙ ap not evicts)

no_set : (shape : Shape) (c : ℕ) → is_lru shape.kind ≡ false → is_lock shape (CpuLru c) ≡ true → ⊥
no_set shape c plain is =
    true≢false (sym (and_parts (is_lru shape.kind) (not shape.common) (and_parts (is_lru shape.kind && not shape.common) (ltb c shape.cpus) is).0).0 ∙ plain)

no_local : (shape : Shape) (c : ℕ) → shape.common ≡ false → is_lock shape (Local c) ≡ true → ⊥
no_local shape c apart is = true≢false (sym (and_parts shape.common (ltb c shape.cpus) is).0 ∙ apart)

pub no_global : (shape : Shape) → shape.common ≡ false → is_lock shape Global ≡ true → ⊥
no_global shape apart is = true≢false (sym is ∙ apart)

-- a map that doesn't evict has no lists to share
pub plain_apart : {shape : Shape} → HasBounds shape → is_lru shape.kind ≡ false → shape.common ≡ false
plain_apart {shape} bounds plain = ⊎_elim
    (λ (common : shape.common ≡ true). absurd (true≢false (sym (bounds.common_evicts common) ∙ plain)))
    (λ (apart : shape.common ≡ false). apart)
    (cases_Bool shape.common)

some_item : (x : ℕ) (xs : List ℕ) → x ∷ xs ≡ [] → ⊥
some_item x xs same = cc

-- Maps that don't evict
module _ {shape : Shape} (bounds : HasBounds shape) (plain : is_lru shape.kind ≡ false) where
  module _ (x : Drawn) (later : List Drawn) (owed : ℕ → List ℕ) {w : Words} {lists : Lists} {begun : List ℕ} {more : List Event} (own : HaveOwnTickets (x ∷ later)) (made : Made shape w lists x later begun more) (owes : Owes owed begun (x ∷ later))
      (on : AreOnLocks shape (x ∷ later)) (pushed : ArePushedInside (x ∷ later)) (sort : sort_of_part x.entry.part ≡ sort_of_lock x.lock) where
    abbrev around : Option ℕ
    around = bucket_around (enclosing x later)

    around_is : (there : InBucket (around_of x later)) → around ≡ Some there.bucket
    around_is there = bucket_around_is x later ∙ ap bucket_of_turn there.is ∙ ap bucket_of_lock there.lock_is

    -- a push stands inside a turn of a bucket
    inside_bucket : (e : ℕ) → x.entry.part ≡ parts.Free (Pushed e) → InBucket (around_of x later)
    inside_bucket e is = ⊎_elim
        (λ (quiet : pushed_by x.entry.part ≡ []). absurd (some_item e [] (sym (ap pushed_by is) ∙ quiet)))
        (λ (there : InBucket (around_of x later)). there)
        pushed.0

    pushes_inside : (part : FreePart) → x.entry.part ≡ parts.Free part → PushesInside shape around part
    pushes_inside (Pushed e) is =
        let there : InBucket (around_of x later) = inside_bucket e is in
        record {
          bucket = there.bucket;
          around_is = around_is there;
          there = on_lock_named shape there.turn.lock (Bucket there.bucket) there.lock_is (on_stands shape later on.1 there.turn (stands_around x there.turn later (found_around x there.turn later there.is).around));
        }
    pushes_inside (Popped e) is = tt
    pushes_inside FoundEmpty is = tt

    pub pays : (part : Part) → x.entry.part ≡ part → PaysAt shape owed around x.lock part
    pays (parts.Bucket part) is =
        let lock : IsBucketLock x.lock = bucket_lock x.lock (sym (ap sort_of_part is) ∙ sort) in
        record {
          bucket = lock.bucket;
          lock_is = lock.is;
          there = on_lock_named shape x.lock (Bucket lock.bucket) lock.is on.0;
          paid = λ e. owes_here own made owes lock.bucket lock.is (ap pushed_by is) e
              ∙ ap (λ (p : Part). times e (left_of p)) is
              ∙ ap (λ (b : Bool). times e (left_inside b part)) (sym plain);
        }
    pays (parts.Free part) is =
        let lock : IsFreelistLock x.lock = freelist_lock x.lock (sym (ap sort_of_part is) ∙ sort) in
        record {
          cpu = lock.cpu;
          lock_is = lock.is;
          there = on_lock_named shape x.lock (Freelist lock.cpu) lock.is on.0;
          inside = pushes_inside part is;
        }
    pays (parts.Local part) is =
        let lock : IsLocalLock x.lock = local_lock x.lock (sym (ap sort_of_part is) ∙ sort) in
        no_local shape lock.cpu (plain_apart bounds plain) (on_lock_named shape x.lock (Local lock.cpu) lock.is on.0)
    pays (parts.Global part) is = no_global shape (plain_apart bounds plain) (on_lock_named shape x.lock Global (global_lock x.lock (sym (ap sort_of_part is) ∙ sort)) on.0)
    pays (parts.Own part) is =
        let lock : IsSetLock x.lock = set_lock x.lock (sym (ap sort_of_part is) ∙ sort) in
        absurd (no_set shape lock.cpu plain (on_lock_named shape x.lock (CpuLru lock.cpu) lock.is on.0))

    -- a part of another sort is under no bucket's lock
    no_bucket : {part : Part} → x.entry.part ≡ part → sort_of_part part ≢ 3 → (b : ℕ) → x.lock ≢ Bucket b
    no_bucket is other b lock_is = other (sym (ap sort_of_part is) ∙ sort ∙ ap sort_of_lock lock_is)

    stays : {part : Part} → x.entry.part ≡ part → pushed_by part ≡ [] → sort_of_part part ≢ 3 → Owes owed (begun_after x later begun) later
    stays is quiet other = owes_quiet own made owes owed (ap pushed_by is ∙ quiet) (λ b apart. refl) (λ b here. absurd (no_bucket is other b here))

    owes_free : (part : FreePart) → x.entry.part ≡ parts.Free part → Owes (owed_after around x.lock (parts.Free part) owed) (begun_after x later begun) later
    owes_free (Pushed e) is =
        let there : InBucket (around_of x later) = inside_bucket e is in
        subst (λ (o : Option ℕ). Owes (owed_for o e owed) (begun_after x later begun) later) (sym (around_is there))
        (owes_push own made owes there.turn there.bucket e there.is there.lock_is (ap pushed_by is) (no_bucket is (λ same. absurd (omega (arith, same)))))
    owes_free (Popped e) is = stays is refl (λ same. absurd (omega (arith, same)))
    owes_free FoundEmpty is = stays is refl (λ same. absurd (omega (arith, same)))

    pub owes_then : (part : Part) → x.entry.part ≡ part → Owes (owed_after around x.lock part owed) (begun_after x later begun) later
    owes_then (parts.Bucket part) is =
        let lock : IsBucketLock x.lock = bucket_lock x.lock (sym (ap sort_of_part is) ∙ sort) in
        subst (λ (l : DomainId). Owes (owed_given (bucket_of_lock l) owed) (begun_after x later begun) later) (sym lock.is)
        (owes_quiet own made owes (put owed lock.bucket []) (ap pushed_by is)
        (λ b apart. put_else owed lock.bucket [] b (λ same. apart (lock.is ∙ ap Bucket (sym same))))
        (λ b here. ap (put owed lock.bucket []) (sym (one_bucket lock.bucket b (sym lock.is ∙ here))) ∙ put_here owed lock.bucket []))
      where
        one_bucket : (b c : ℕ) → Bucket b ≡ Bucket c → b ≡ c
        one_bucket b c same = cc
    owes_then (parts.Free part) is = owes_free part is
    owes_then (parts.Local part) is = stays is refl (λ same. absurd (omega (arith, same)))
    owes_then (parts.Global part) is = stays is refl (λ same. absurd (omega (arith, same)))
    owes_then (parts.Own part) is = stays is refl (λ same. absurd (omega (arith, same)))

  plain_to : (n : ℕ) (turns : List Drawn) (contents : DomainId → Content) (owed : ℕ → List ℕ) (begun : List ℕ) (w : Words) → AreOfTheirSorts contents → HaveOwnTickets turns → Held shape w begun turns → Owes owed begun turns
      → AreOnLocks shape turns → ArePushedInside turns → AllowAlong shape contents turns → RunsByWords shape w (interleaved_to n shape contents begun turns) → AreTurnsTo n shape contents owed turns
  unfolding AreTurnsTo
  plain_to zero turns contents owed begun w sorts own h owes on pushed allow runs = tt
  plain_to (suc n) [] contents owed begun w sorts own h owes on pushed allow runs = tt
  plain_to (suc n) (x ∷ later) contents owed begun w sorts own h owes on pushed allow runs =
      let now : DomainId → Content = after_turn shape x.entry.cpu contents (turn_of x) in
      let made : Made shape w (lists_in (now x.lock)) x later begun (interleaved_to n shape now (begun_after x later begun) later) = turn_made n contents begun w x later own h runs in
      let sort : sort_of_part x.entry.part ≡ sort_of_lock x.lock = part_sort shape x.entry.cpu x.entry.part x.lock contents sorts allow.0 in (
        pays x later owed own made owes on pushed sort x.entry.part refl,
        allow.0,
        plain_to n later now (owed_after (bucket_around (enclosing x later)) x.lock x.entry.part owed) (begun_after x later begun) made.now (sorts_after shape x.entry.cpu contents (turn_of x) sorts) own.1 made.after_it
            (owes_then x later owed own made owes on pushed sort x.entry.part refl) on.1 pushed.1 allow.1 made.goes_on,
      )

  -- The turns of calls on a map that doesn't evict are such as the law of words asks for.
  pub plain_turns_to : (n : ℕ) (turns : List Drawn) → HaveOwnTickets turns → AreOnLocks shape turns → AllowAlong shape (opening_content shape) turns → AreInOrder shape turns
      → RunsByWords shape (words_of (opening shape)) (interleaved_to n shape (opening_content shape) [] turns) → AreTurnsTo n shape (opening_content shape) no_debt turns
  plain_turns_to n turns own on allow in_order runs =
      let each = calls_nested shape plain turns in_order in
      plain_to n turns (opening_content shape) (λ b. []) [] (words_of (opening shape)) (sorts_first shape) own (held_first shape (words_of (opening shape)) turns) (owes_first turns (bucket_pays turns own each)) on (pushed_inside turns each) allow runs

-- Maps whose CPUs have lists of their own
none_left : (part : BucketPart) → left_inside true part ≡ []
none_left (Lookup side key got) = refl
none_left (Update side flags key value offer result) = refl
none_left (Delete key removed) = refl
none_left (Take key removed) = refl
none_left (Next key found) = refl
none_left (First key) = refl
none_left (Walk remove room result) = refl
none_left (Evict e probed) = refl

given_none : (o : Option ℕ) (owed : ℕ → List ℕ) → ((b : ℕ) → owed b ≡ []) → (b : ℕ) → owed_given o owed b ≡ []
given_none None owed none b = none b
given_none (Some c) owed none b = by_test b c (λ _. put owed c [] b ≡ [])
    (λ same. ap (put owed c []) same ∙ put_here owed c [])
    (λ other. put_else owed c [] b other ∙ none b)

module _ (shape : Shape) (evicts : is_lru shape.kind ≡ true) (apart : shape.common ≡ false) where
  pub own_pays : (x : Drawn) (owed : ℕ → List ℕ) (outer : Option ℕ) → ((b : ℕ) → owed b ≡ []) → IsTrue (is_lock shape x.lock) → (part : Part) → sort_of_part part ≡ sort_of_lock x.lock → PaysAt shape owed outer x.lock part
  own_pays x owed outer none on (parts.Bucket part) sort =
      let lock : IsBucketLock x.lock = bucket_lock x.lock sort in
      record {
        bucket = lock.bucket;
        lock_is = lock.is;
        there = on_lock_named shape x.lock (Bucket lock.bucket) lock.is on;
        paid = λ e. ap (times e) (none lock.bucket ∙ sym (ap (λ (b : Bool). left_inside b part) evicts ∙ none_left part));
      }
  own_pays x owed outer none on (parts.Free part) sort =
      let lock : IsFreelistLock x.lock = freelist_lock x.lock sort in
      absurd (no_freelist shape lock.cpu evicts (on_lock_named shape x.lock (Freelist lock.cpu) lock.is on))
  own_pays x owed outer none on (parts.Local part) sort =
      let lock : IsLocalLock x.lock = local_lock x.lock sort in
      no_local shape lock.cpu apart (on_lock_named shape x.lock (Local lock.cpu) lock.is on)
  own_pays x owed outer none on (parts.Global part) sort = no_global shape apart (on_lock_named shape x.lock Global (global_lock x.lock sort) on)
  own_pays x owed outer none on (parts.Own part) sort =
      let lock : IsSetLock x.lock = set_lock x.lock sort in
      record { cpu = lock.cpu; lock_is = lock.is; there = on_lock_named shape x.lock (CpuLru lock.cpu) lock.is on }

  own_owed : (x : Drawn) (owed : ℕ → List ℕ) (outer : Option ℕ) → ((b : ℕ) → owed b ≡ []) → IsTrue (is_lock shape x.lock) → (part : Part) → sort_of_part part ≡ sort_of_lock x.lock → (b : ℕ) → owed_after outer x.lock part owed b ≡ []
  own_owed x owed outer none on (parts.Bucket part) sort b = given_none (bucket_of_lock x.lock) owed none b
  own_owed x owed outer none on (parts.Free part) sort b =
      let lock : IsFreelistLock x.lock = freelist_lock x.lock sort in
      absurd (no_freelist shape lock.cpu evicts (on_lock_named shape x.lock (Freelist lock.cpu) lock.is on))
  own_owed x owed outer none on (parts.Local part) sort b = none b
  own_owed x owed outer none on (parts.Global part) sort b = none b
  own_owed x owed outer none on (parts.Own part) sort b = none b

  own_to : (n : ℕ) (turns : List Drawn) (contents : DomainId → Content) (owed : ℕ → List ℕ) → AreOfTheirSorts contents → ((b : ℕ) → owed b ≡ []) → AreOnLocks shape turns → AllowAlong shape contents turns → AreTurnsTo n shape contents owed turns
  unfolding AreTurnsTo
  own_to zero turns contents owed sorts none on allow = tt
  own_to (suc n) [] contents owed sorts none on allow = tt
  own_to (suc n) (x ∷ later) contents owed sorts none on allow =
      let outer : Option ℕ = bucket_around (enclosing x later) in
      let sort : sort_of_part x.entry.part ≡ sort_of_lock x.lock = part_sort shape x.entry.cpu x.entry.part x.lock contents sorts allow.0 in (
        own_pays x owed outer none on.0 x.entry.part sort,
        allow.0,
        own_to n later (after_turn shape x.entry.cpu contents (turn_of x)) (owed_after outer x.lock x.entry.part owed) (sorts_after shape x.entry.cpu contents (turn_of x) sorts) (own_owed x owed outer none on.0 x.entry.part sort) on.1 allow.1,
      )

  -- The turns of a map whose CPUs have lists of their own are such, whatever words allow.
  pub own_turns_to : (n : ℕ) (turns : List Drawn) → AreOnLocks shape turns → AllowAlong shape (opening_content shape) turns → AreTurnsTo n shape (opening_content shape) no_debt turns
  own_turns_to n turns on allow = own_to n turns (opening_content shape) (λ b. []) (sorts_first shape) (λ b. refl) on allow

-- Both
pub links_turns_to : {shape : Shape} → HasBounds shape → shape.common ≡ false → (n : ℕ) (turns : List Drawn) → HaveOwnTickets turns → AreOnLocks shape turns → AllowAlong shape (opening_content shape) turns → AreInOrder shape turns
    → RunsByWords shape (words_of (opening shape)) (interleaved_to n shape (opening_content shape) [] turns) → AreTurnsTo n shape (opening_content shape) no_debt turns
links_turns_to {shape} bounds apart n turns own on allow in_order runs = ⊎_elim
    (λ (evicts : is_lru shape.kind ≡ true). own_turns_to shape evicts apart n turns on allow)
    (λ (plain : is_lru shape.kind ≡ false). plain_turns_to bounds plain n turns own on allow in_order runs)
    (cases_Bool (is_lru shape.kind))
