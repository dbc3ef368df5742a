-- A step may be done exactly where words and lists allow it: of lists only a Claim and a Give ask anything.
use Rattle.std.proofs.Common.{◌≡◌, ◌≢◌, ℕ, ◌<◌, ◌≤◌, Bool, true, false, ◌&&◌, cond, ltb, List, [], ◌∷◌, refl, ap, ◌∙◌, sym, subst, ⊎_elim, inl, inr, arith}
use Rattle.std.specs.Prelude.{IsTrue}
use Rattle.std.proofs.lemmas.Bool.{lt-ltb, eq-eqb}
use Rattle.map_types.specs.declared.attr.Shape.{Shape}
use Rattle.map_types.specs.declared.kind.DomainId.{DomainId}
use Rattle.map_types.specs.declared.kind.DomainId.TheVariants.{Local, Global, CpuLru, Bucket, Freelist}
use Rattle.map_types.specs.Kind.{is_lru}
use Rattle.map_types.specs.Shape.{HasBounds}
use Rattle.map_types.specs.ElementLists.{one, times, IsIn}
use Rattle.map_types.proofs.RowLemmas.{times_append}
use Rattle.place_words.specs.declared.home.Home.{Home}
use Rattle.place_words.specs.declared.home.Home.TheVariants as homes
use Rattle.place_words.specs.declared.owner.Owner.{Owner}
use Rattle.place_words.specs.declared.owner.Owner.TheVariants as owners
use Rattle.place_words.specs.Locks.{is_lock, lock_number, lock_named}
use Rattle.place_words.specs.Openings.{is_free}
use Rattle.place_words.proofs.LockLemmas.{named_by_number, number_of_named}
use Rattle.place_words.specs.declared.step.Step.{Step}
use Rattle.place_words.specs.declared.step.Step.TheVariants.{Take, Give, Claim, Settle, Attach, Detach, Rehome, Mark, Clear, Glance}
use Rattle.place_words.specs.Places.{Placed, ElementPlace, under_lock, carried, home_of_place, lies_at, has_row, is_in_bucket}
use Rattle.place_words.specs.State.{State, rows, is_bucket, HasOnlyItsLists}
use Rattle.place_words.specs.Steps.{IsEnabled, after, lists_under, Holds, MayLeave, MayEnter, IsHeldHome}
use Rattle.place_words.proofs.RowLemmas.{stands_where, lies_is, row_lies, bucket_is}
use Rattle.place_words.proofs.StepLaws.{step_keeps_places}
use Rattle.place_words.specs.Interleaving.{Event, does, sees, AreEnabled}
use Rattle.core_runs.specs.Words.{Words, words_of, HoldsWord, WordsAllow, words_after, RunsByWords, ListsAllow, RunsByLists, LeavesWord, EntersWord, IsHeldWord}

-- the words after a step are those of the state after it
pub words_go : (shape : Shape) (s : State) (step : Step) → words_of (after shape s step) ≡ words_after shape (words_of s) step
unfolding words_after
words_go shape s (Take cpu lock) = refl
words_go shape s (Give cpu lock lists) = refl
words_go shape s (Claim cpu e lock) = refl
words_go shape s (Settle cpu e lock) = refl
words_go shape s (Attach cpu e bucket) = refl
words_go shape s (Detach cpu e bucket) = refl
words_go shape s (Rehome cpu e to) = refl
words_go shape s (Mark cpu e bucket) = refl
words_go shape s (Clear cpu e) = refl
words_go shape s (Glance cpu e) = refl

holds_word : {shape : Shape} {s : State} {cpu : ℕ} {lock : DomainId} → Holds shape s cpu lock → HoldsWord shape (words_of s) cpu lock
holds_word holds = record { is_cpu = holds.is_cpu; is_lock = holds.is_lock; held = holds.held }

word_holds : {shape : Shape} {s : State} {cpu : ℕ} {lock : DomainId} → HoldsWord shape (words_of s) cpu lock → Holds shape s cpu lock
word_holds holds = record { is_cpu = holds.is_cpu; is_lock = holds.is_lock; held = holds.held }

leaves_word : (shape : Shape) (s : State) (cpu : ℕ) (home : Home) → MayLeave shape s cpu home → LeavesWord shape (words_of s) cpu home
leaves_word shape s cpu homes.Unlisted may = may
leaves_word shape s cpu (homes.In lock) may = holds_word may
leaves_word shape s cpu (homes.Hand c) may = may

word_leaves : (shape : Shape) (s : State) (cpu : ℕ) (home : Home) → LeavesWord shape (words_of s) cpu home → MayLeave shape s cpu home
word_leaves shape s cpu homes.Unlisted may = may
word_leaves shape s cpu (homes.In lock) may = word_holds may
word_leaves shape s cpu (homes.Hand c) may = may

enters_word : (shape : Shape) (s : State) (cpu : ℕ) (o : Owner) (home : Home) → MayEnter shape s cpu o home → EntersWord shape (words_of s) cpu o home
enters_word shape s cpu o homes.Unlisted may = may
enters_word shape s cpu o (homes.In (Local c)) may = (holds_word may.0, may.1)
enters_word shape s cpu o (homes.In Global) may = holds_word may
enters_word shape s cpu o (homes.In (CpuLru c)) may = may
enters_word shape s cpu o (homes.In (Bucket b)) may = may
enters_word shape s cpu o (homes.In (Freelist c)) may = may
enters_word shape s cpu o (homes.Hand c) may = may

word_enters : (shape : Shape) (s : State) (cpu : ℕ) (o : Owner) (home : Home) → EntersWord shape (words_of s) cpu o home → MayEnter shape s cpu o home
word_enters shape s cpu o homes.Unlisted may = may
word_enters shape s cpu o (homes.In (Local c)) may = (word_holds may.0, may.1)
word_enters shape s cpu o (homes.In Global) may = word_holds may
word_enters shape s cpu o (homes.In (CpuLru c)) may = may
word_enters shape s cpu o (homes.In (Bucket b)) may = may
word_enters shape s cpu o (homes.In (Freelist c)) may = may
word_enters shape s cpu o (homes.Hand c) may = may

held_word : (shape : Shape) (s : State) (cpu : ℕ) (home : Home) → IsHeldHome shape s cpu home → IsHeldWord shape (words_of s) cpu home
held_word shape s cpu homes.Unlisted may = may
held_word shape s cpu (homes.In lock) may = holds_word may
held_word shape s cpu (homes.Hand c) may = may

word_held : (shape : Shape) (s : State) (cpu : ℕ) (home : Home) → IsHeldWord shape (words_of s) cpu home → IsHeldHome shape s cpu home
word_held shape s cpu homes.Unlisted may = may
word_held shape s cpu (homes.In lock) may = word_holds may
word_held shape s cpu (homes.Hand c) may = may

one_at_most : (b : Bool) → one b ≤ 1
one_at_most true = omega arith
one_at_most false = omega arith

-- what a place is whose home is a lock
pub place_of_home : (shape : Shape) (lock : DomainId) (p : ElementPlace) → is_lru shape.kind ≡ true → home_of_place shape p ≡ homes.In lock → lies_at (lock_number shape lock) p ≡ true
place_of_home shape lock (under_lock k) lru is =
    let at : homes.In (lock_named shape k) ≡ homes.In lock = sym (ap (λ (b : Bool). cond b (homes.In (lock_named shape k)) homes.Unlisted) lru) ∙ is in
    let named : lock_named shape k ≡ lock = ap (λ (h : Home). lock_of lock h) at in
    eq-eqb k (lock_number shape lock) (sym (number_of_named shape k) ∙ ap (lock_number shape) named)
  where
    lock_of : DomainId → Home → DomainId
    lock_of other homes.Unlisted = other
    lock_of other (homes.In l) = l
    lock_of other (homes.Hand c) = other
place_of_home shape lock (carried cpu) lru is = absurd (apart (sym (ap (λ (b : Bool). cond b (homes.Hand cpu) homes.Unlisted) lru) ∙ is))
  where
    apart : homes.Hand cpu ≢ homes.In lock
    apart same = absurd cc

-- an element of a hand that lies under a lock of a map that evicts has a row there
pub row_of_hand : (lock : DomainId) (cpu : ℕ) → is_bucket lock ≡ false → has_row true lock (owners.Hand cpu) true ≡ true
row_of_hand (Local c) cpu list = refl
row_of_hand Global cpu list = refl
row_of_hand (CpuLru c) cpu list = refl
row_of_hand (Bucket b) cpu list = absurd cc
row_of_hand (Freelist c) cpu list = refl

module _ {shape : Shape} (bounds : HasBounds shape) (s : State) (p : Placed shape s) where
  -- An element is in a bucket where its owner says so.
  pub in_bucket_word : (bucket e : ℕ) → IsTrue (is_lock shape (Bucket bucket)) → IsIn e (lists_under shape s (Bucket bucket)).first → s.owner e ≡ owners.Bucket bucket
  in_bucket_word bucket e is inside =
      let k : ℕ = lock_number shape (Bucket bucket) in
      let there = stands_where shape.elements e (times e (rows (s.lists k))) (has_row (is_lru shape.kind) (lock_named shape k) (s.owner e) (lies_at k (p.place e))) (p.placed.rows k e) (omega (arith, inside, times_append e (s.lists k).first (s.lists k).second)) in
      bucket_is bucket (s.owner e) (subst (λ (l : DomainId). has_row (is_lru shape.kind) l (s.owner e) (lies_at k (p.place e)) ≡ true) (named_by_number shape (Bucket bucket) is) there.stands)

  pub word_in_bucket : (bucket e : ℕ) → IsTrue (is_lock shape (Bucket bucket)) → e < shape.elements → s.owner e ≡ owners.Bucket bucket → IsIn e (lists_under shape s (Bucket bucket)).first
  word_in_bucket bucket e is real owner =
      let k : ℕ = lock_number shape (Bucket bucket) in
      let named : lock_named shape k ≡ Bucket bucket = named_by_number shape (Bucket bucket) is in
      let fit : HasOnlyItsLists (Bucket bucket) (s.lists k) = subst (λ (l : DomainId). HasOnlyItsLists l (s.lists k)) named (p.placed.fit k) in
      let row : has_row (is_lru shape.kind) (lock_named shape k) (s.owner e) (lies_at k (p.place e)) ≡ true =
      ap (λ (l : DomainId). has_row (is_lru shape.kind) l (s.owner e) (lies_at k (p.place e))) named ∙ ap (is_in_bucket bucket) owner ∙ eq-eqb bucket bucket refl in
      let count : times e (rows (s.lists k)) ≡ 1 = p.placed.rows k e ∙ ap (λ (b : Bool). one (ltb e shape.elements && b)) row ∙ ap (λ (b : Bool). one (b && true)) (lt-ltb e shape.elements real) in
      let second : times e (s.lists k).second ≡ 0 = ap (times e) fit.1 in
      omega (arith, count, second, times_append e (s.lists k).first (s.lists k).second)

  -- An element of a hand is listed under a lock where its home says so.
  pub listed_word : (lock : DomainId) (e : ℕ) → IsTrue (is_lru shape.kind) → IsTrue (is_lock shape lock) → is_bucket lock ≡ false → IsIn e (rows (lists_under shape s lock)) → s.home e ≡ homes.In lock
  listed_word lock e lru is list inside =
      let k : ℕ = lock_number shape lock in
      let there = stands_where shape.elements e (times e (rows (s.lists k))) (has_row (is_lru shape.kind) (lock_named shape k) (s.owner e) (lies_at k (p.place e))) (p.placed.rows k e) inside in
      let lies : lies_at k (p.place e) ≡ true = row_lies (is_lru shape.kind) lock (s.owner e) (lies_at k (p.place e)) list
      (subst (λ (l : DomainId). has_row (is_lru shape.kind) l (s.owner e) (lies_at k (p.place e)) ≡ true) (named_by_number shape lock is) there.stands) in
      p.placed.homes e there.real ∙ ap (home_of_place shape) (lies_is k (p.place e) lies) ∙ ap (λ (b : Bool). cond b (homes.In (lock_named shape k)) homes.Unlisted) lru ∙ ap homes.In (named_by_number shape lock is)

  pub word_listed : (lock : DomainId) (e cpu : ℕ) → IsTrue (is_lru shape.kind) → IsTrue (is_lock shape lock) → is_bucket lock ≡ false → e < shape.elements → s.owner e ≡ owners.Hand cpu → s.home e ≡ homes.In lock → IsIn e (rows (lists_under shape s lock))
  word_listed lock e cpu lru is list real owner home =
      let k : ℕ = lock_number shape lock in
      let lies : lies_at k (p.place e) ≡ true = place_of_home shape lock (p.place e) lru (sym (p.placed.homes e real) ∙ home) in
      let row : has_row (is_lru shape.kind) (lock_named shape k) (s.owner e) (lies_at k (p.place e)) ≡ true =
      ap (λ (l : DomainId). has_row (is_lru shape.kind) l (s.owner e) (lies_at k (p.place e))) (named_by_number shape lock is)
      ∙ ap (λ (o : Owner). has_row (is_lru shape.kind) lock o (lies_at k (p.place e))) owner
      ∙ ap (λ (b : Bool). has_row (is_lru shape.kind) lock (owners.Hand cpu) b) lies
      ∙ ap (λ (b : Bool). has_row b lock (owners.Hand cpu) true) lru ∙ row_of_hand lock cpu list in
      let count : times e (rows (s.lists k)) ≡ 1 = p.placed.rows k e ∙ ap (λ (b : Bool). one (ltb e shape.elements && b)) row ∙ ap (λ (b : Bool). one (b && true)) (lt-ltb e shape.elements real) in
      omega (arith, count)

  -- A step that may be done is allowed by words and by lists.
  pub words_allow : (step : Step) → IsEnabled shape s step → WordsAllow shape (words_of s) step
  unfolding WordsAllow
  words_allow (Take cpu lock) can = record { is_cpu = can.is_cpu; is_lock = can.is_lock; nobody = can.nobody; above = can.above }
  words_allow (Give cpu lock lists) can = holds_word can.holds
  words_allow (Claim cpu e lock) can = (holds_word can.holds, can.real)
  words_allow (Settle cpu e lock) can = record {
    holds = holds_word can.holds;
    has_free_list = can.has_free_list;
    real = can.real;
    in_hand = can.in_hand;
    listed = λ lru. listed_word lock e lru can.holds.is_lock can.has_free_list (can.listed lru);
  }
  words_allow (Attach cpu e bucket) can = record { holds = holds_word can.holds; real = can.real; in_hand = can.in_hand; not_carried = can.not_carried }
  words_allow (Detach cpu e bucket) can = record { holds = holds_word can.holds; real = can.real; inside = in_bucket_word bucket e can.holds.is_lock can.inside }
  words_allow (Rehome cpu e to) can = record {
    common = can.common;
    is_cpu = can.is_cpu;
    real = can.real;
    from_there = leaves_word shape s cpu (s.home e) can.from_there;
    to_there = enters_word shape s cpu (s.owner e) to can.to_there;
  }
  words_allow (Mark cpu e bucket) can = record { holds = holds_word can.holds; real = can.real; inside = in_bucket_word bucket e can.holds.is_lock can.inside }
  words_allow (Clear cpu e) can = (can.is_cpu, can.real, ⊎_elim (λ a. inl (held_word shape s cpu (s.home e) a)) (λ b. inr b) can.allowed)
  words_allow (Glance cpu e) can = can

  pub lists_allow : (step : Step) → IsEnabled shape s step → ListsAllow shape s step
  unfolding ListsAllow
  lists_allow (Take cpu lock) can = tt
  lists_allow (Give cpu lock lists) can = record { fit = can.fit; same_free = can.same_free; same_rows = can.same_rows; cursor = can.cursor }
  lists_allow (Claim cpu e lock) can = can.head
  lists_allow (Settle cpu e lock) can = tt
  lists_allow (Attach cpu e bucket) can = tt
  lists_allow (Detach cpu e bucket) can = tt
  lists_allow (Rehome cpu e to) can = tt
  lists_allow (Mark cpu e bucket) can = tt
  lists_allow (Clear cpu e) can = tt
  lists_allow (Glance cpu e) can = tt

  -- And one that both allow may be done.
  pub both_allow : (step : Step) → WordsAllow shape (words_of s) step → ListsAllow shape s step → IsEnabled shape s step
  unfolding WordsAllow ListsAllow
  both_allow (Take cpu lock) w l = record { is_cpu = w.is_cpu; is_lock = w.is_lock; nobody = w.nobody; above = w.above }
  both_allow (Give cpu lock lists) w l =
      let k : ℕ = lock_number shape lock in
      record {
        holds = word_holds w;
        fit = l.fit;
        same_free = l.same_free;
        same_rows = l.same_rows;
        free_once = λ e. omega (arith, l.same_free e, p.placed.free k e, one_at_most (ltb e shape.elements && (is_free (s.owner e) && lies_at k (p.place e))));
        rows_once = λ e. omega (arith, l.same_rows e, p.placed.rows k e, one_at_most (ltb e shape.elements && has_row (is_lru shape.kind) (lock_named shape k) (s.owner e) (lies_at k (p.place e))));
        cursor = l.cursor;
      }
  both_allow (Claim cpu e lock) w l = record { holds = word_holds w.0; real = w.1; head = l }
  both_allow (Settle cpu e lock) w l = record {
    holds = word_holds w.holds;
    has_free_list = w.has_free_list;
    real = w.real;
    in_hand = w.in_hand;
    listed = λ lru. word_listed lock e cpu lru w.holds.is_lock w.has_free_list w.real w.in_hand (w.listed lru);
  }
  both_allow (Attach cpu e bucket) w l = record { holds = word_holds w.holds; real = w.real; in_hand = w.in_hand; not_carried = w.not_carried }
  both_allow (Detach cpu e bucket) w l = record { holds = word_holds w.holds; real = w.real; inside = word_in_bucket bucket e w.holds.is_lock w.real w.inside }
  both_allow (Rehome cpu e to) w l = record {
    common = w.common;
    is_cpu = w.is_cpu;
    real = w.real;
    from_there = word_leaves shape s cpu (s.home e) w.from_there;
    to_there = word_enters shape s cpu (s.owner e) to w.to_there;
  }
  both_allow (Mark cpu e bucket) w l = record { holds = word_holds w.holds; real = w.real; inside = word_in_bucket bucket e w.holds.is_lock w.real w.inside }
  both_allow (Clear cpu e) w l = record { is_cpu = w.0; real = w.1; allowed = ⊎_elim (λ a. inl (word_held shape s cpu (s.home e) a)) (λ b. inr b) w.2 }
  both_allow (Glance cpu e) w l = w

-- Whole runs: the checks by words are part of being enabled, and what they leave is the heads of free lists and what is given back.
pub runs_words : {shape : Shape} → HasBounds shape → (events : List Event) (s : State) → Placed shape s → AreEnabled shape s events → RunsByWords shape (words_of s) events
unfolding AreEnabled RunsByWords
runs_words bounds [] s p run = tt
runs_words {shape = shape} bounds (does step ∷ events) s p run =
    (words_allow bounds s p step run.0, subst (λ (w : Words). RunsByWords shape w events) (words_go shape s step) (runs_words bounds events (after shape s step) (step_keeps_places shape s step bounds run.0 p) run.1))
runs_words bounds (sees e holder ∷ events) s p run = (run.0, runs_words bounds events s p run.1)

pub runs_lists : {shape : Shape} → HasBounds shape → (events : List Event) (s : State) → Placed shape s → AreEnabled shape s events → RunsByLists shape s events
unfolding AreEnabled RunsByLists
runs_lists bounds [] s p run = tt
runs_lists {shape = shape} bounds (does step ∷ events) s p run =
    (lists_allow bounds s p step run.0, runs_lists bounds events (after shape s step) (step_keeps_places shape s step bounds run.0 p) run.1)
runs_lists bounds (sees e holder ∷ events) s p run = runs_lists bounds events s p run.1

pub runs_both : {shape : Shape} → HasBounds shape → (events : List Event) (s : State) → Placed shape s → RunsByWords shape (words_of s) events → RunsByLists shape s events → AreEnabled shape s events
unfolding AreEnabled RunsByLists RunsByWords
runs_both bounds [] s p words lists = tt
runs_both {shape = shape} bounds (does step ∷ events) s p words lists =
    let can : IsEnabled shape s step = both_allow bounds s p step words.0 lists.0 in
    (can, runs_both bounds events (after shape s step) (step_keeps_places shape s step bounds can p) (subst (λ (w : Words). RunsByWords shape w events) (sym (words_go shape s step)) words.1) lists.1)
runs_both bounds (sees e holder ∷ events) s p words lists = (words.0, runs_both bounds events s p words.1 lists)
