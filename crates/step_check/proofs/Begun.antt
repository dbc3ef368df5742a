-- Which turns of a run have begun, and whose locks are held for them: along events that words allow, the lock of each turn that has begun
-- and is still to come is held by its CPU, and two such turns have different locks.
use Rattle.std.proofs.Common.{◌≡◌, ◌≢◌, ℕ, zero, suc, ◌+◌, ◌≤◌, ◌⊎◌, inl, inr, Bool, true, false, ◌||◌, not, cond, List, [], ◌∷◌, ◌++◌, map, Option, None, Some, refl, ap, ◌∙◌, sym, subst, ⊎_elim, arith}
use Rattle.std.specs.Prelude.{unwrap_or}
use Rattle.std.specs.List.{flat_map, range_with_len}
use Rattle.std.proofs.lemmas.Bool.{cases_Bool, eq-eqb}
use Rattle.std.proofs.lemmas.List.{append_assoc}
use Rattle.map_types.specs.declared.attr.Shape.{Shape}
use Rattle.map_types.specs.declared.kind.DomainId.{DomainId}
use Rattle.map_types.specs.declared.kind.DomainId.TheVariants.{Local, Global}
use Rattle.map_types.specs.Kind.{is_lru}
use Rattle.map_types.specs.ElementLists.{put}
use Rattle.map_types.proofs.RowLemmas.{by_test}
use Rattle.place_words.specs.declared.bucket_part.BucketPart.{BucketPart}
use Rattle.place_words.specs.declared.bucket_part.BucketPart.TheVariants.{Lookup, Update, Delete, Take, Next, First, Walk, Evict}
use Rattle.place_words.specs.declared.bucket_part.Put.{Put}
use Rattle.place_words.specs.declared.bucket_part.Put.TheVariants as puts
use Rattle.place_words.specs.declared.bucket_part.Seen.TheVariants.{Removed, Held as InHand}
use Rattle.place_words.specs.declared.free_part.FreePart.{FreePart}
use Rattle.place_words.specs.declared.free_part.FreePart.TheVariants.{Pushed, Popped, FoundEmpty}
use Rattle.place_words.specs.declared.history.Part.{Part}
use Rattle.place_words.specs.declared.history.Part.TheVariants as parts
use Rattle.place_words.specs.declared.home.Home.TheVariants as homes
use Rattle.place_words.specs.declared.list_part.GlobalPart.{GlobalPart}
use Rattle.place_words.specs.declared.list_part.GlobalPart.TheVariants as global
use Rattle.place_words.specs.declared.list_part.LocalPart.{LocalPart}
use Rattle.place_words.specs.declared.list_part.LocalPart.TheVariants as local
use Rattle.place_words.specs.declared.list_part.OwnPart.{OwnPart}
use Rattle.place_words.specs.declared.list_part.OwnPart.TheVariants as own
use Rattle.place_words.specs.declared.list_part.Stolen.{Stolen}
use Rattle.place_words.specs.declared.list_part.Stolen.TheVariants as stolen
use Rattle.place_words.specs.declared.step.Lists.{Lists}
use Rattle.place_words.specs.declared.step.Step.{Step}
use Rattle.place_words.specs.declared.step.Step.TheVariants as steps
use Rattle.place_words.specs.Choices.{among}
use Rattle.place_words.specs.Globals.{flushed_elements}
use Rattle.place_words.specs.Moves.{taken_from_bucket}
use Rattle.place_words.specs.Takings.{freed_by}
use Rattle.place_words.specs.Histories.{Content}
use Rattle.place_words.specs.Locks.{lock_number}
use Rattle.place_words.specs.Turns.{after_turn}
use Rattle.place_words.proofs.ElementLemmas.{put_here, put_else}
use Rattle.place_words.specs.Interleaving.{Drawn, turn_of, Event, does, sees, encloses, enclosing, put_steps, leave_steps, bucket_steps, bucket_of_lock, freelist_steps, claims, steal_steps, local_steps, freed_steps, global_steps, own_steps, part_steps, bucket_around, seen_in, seen_by, lists_in, takes, not_begun, tickets_of, turn_events}
use Rattle.turn_order.specs.Ordered.{interleaved_to}
use Rattle.core_runs.specs.Words.{Words, WordsAllow, words_after, RunsByWords}
use Rattle.step_check.specs.Ran.{words_over}

-- equal lists of numbers
no_item : (x : ℕ) (xs : List ℕ) → x ∷ xs ≡ [] → ⊥
no_item x xs e = cc

first_item : (x y : ℕ) (xs ys : List ℕ) → x ∷ xs ≡ y ∷ ys → x ≡ y
first_item x y xs ys e = cc

rest_items : (x y : ℕ) (xs ys : List ℕ) → x ∷ xs ≡ y ∷ ys → xs ≡ ys
rest_items x y xs ys e = cc

-- a turn is one of these
abbrev pub Stands : Drawn → List Drawn → Type 0
Stands y [] = ⊥
Stands y (x ∷ xs) = (x ≡ y) ⊎ Stands y xs

-- no two of these turns have the same ticket
abbrev pub HaveOwnTickets : List Drawn → Type 0
HaveOwnTickets [] = Unit {0}
HaveOwnTickets (x ∷ later) = ((y : Drawn) → Stands y later → y.entry.ticket ≢ x.entry.ticket) × HaveOwnTickets later

-- Of turns that have begun each has its lock held by its CPU, and each lock is of one of them.
pub record Held (shape : Shape) (w : Words) (begun : List ℕ) (turns : List Drawn) : Type 0 where
  pub held : (y : Drawn) → Stands y turns → among begun y.entry.ticket ≡ true → w.holder (lock_number shape y.lock) ≡ Some y.entry.cpu
  pub apart : (y z : Drawn) → Stands y turns → Stands z turns → among begun y.entry.ticket ≡ true → among begun z.entry.ticket ≡ true
      → lock_number shape y.lock ≡ lock_number shape z.lock → y ≡ z

-- the tickets that have begun once a turn was made
abbrev pub begun_after : Drawn → List Drawn → List ℕ → List ℕ
begun_after x later begun = x.entry.ticket ∷ tickets_of (enclosing x later) ++ begun

-- at first nothing has begun
pub held_first : (shape : Shape) (w : Words) (turns : List Drawn) → Held shape w [] turns
held_first shape w turns = record {
  held = λ y stands has. absurd (none has);
  apart = λ y z at there has also same. absurd (none has);
}
  where
    none : (◌≡◌ {A = Bool} false true) → ⊥
    none e = cc

-- The block of a turn x that words allow: the words when all its locks are taken, and those after it.
pub record Made (shape : Shape) (w : Words) (lists : Lists) (x : Drawn) (later : List Drawn) (begun : List ℕ) (more : List Event) : Type 0 where
  pub taken : Words
  pub taken_is : taken ≡ words_over shape w (map takes (not_begun begun (enclosing x later ++ x ∷ [])))
  pub now : Words
  pub now_is : now ≡ words_over shape w (turn_events shape (enclosing x later) begun lists x)
  -- at its place, with its own ticket among those that have begun
  pub at_its_place : Held shape taken (begun_after x later begun) (x ∷ later)
  -- after it
  pub after_it : Held shape now (begun_after x later begun) later
  pub given : now.holder (lock_number shape x.lock) ≡ None
  pub goes_on : RunsByWords shape now more

-- one turn by its ticket
pub by_ticket : (turns : List Drawn) (y z : Drawn) → HaveOwnTickets turns → Stands y turns → Stands z turns → y.entry.ticket ≡ z.entry.ticket → y ≡ z
by_ticket [] y z own at there same = absurd at
by_ticket (x ∷ later) y z own (inl is) (inl also) same = sym is ∙ also
by_ticket (x ∷ later) y z own (inl is) (inr there) same = absurd (own.0 z there (sym same ∙ sym (ap (λ (d : Drawn). d.entry.ticket) is)))
by_ticket (x ∷ later) y z own (inr at) (inl also) same = absurd (own.0 y at (same ∙ sym (ap (λ (d : Drawn). d.entry.ticket) also)))
by_ticket (x ∷ later) y z own (inr at) (inr there) same = by_ticket later y z own.1 at there same

-- what has begun with one turn more
pub among_more : (t u : ℕ) (begun : List ℕ) → among (t ∷ begun) u ≡ true → (t ≡ u) ⊎ (among begun u ≡ true)
among_more t u begun = by_test t u (λ b. (b || among begun u) ≡ true → (t ≡ u) ⊎ (among begun u ≡ true)) (λ is _. inl is) (λ is_not has. inr has)

pub among_first : (t u : ℕ) (begun : List ℕ) → t ≡ u → among (t ∷ begun) u ≡ true
among_first t u begun is = ap (λ (b : Bool). b || among begun u) (eq-eqb t u is)

pub among_rest : (t u : ℕ) (begun : List ℕ) → among begun u ≡ true → among (t ∷ begun) u ≡ true
among_rest t u begun has = by_test t u (λ b. (b || among begun u) ≡ true) (λ _. refl) (λ _. has)

-- It is said of what has begun as far as tickets tell, and of holders alone.
held_less : {shape : Shape} {w : Words} {begun other : List ℕ} {turns : List Drawn} → Held shape w begun turns → ((t : ℕ) → among other t ≡ true → among begun t ≡ true) → Held shape w other turns
held_less h less = record {
  held = λ y at has. h.held y at (less y.entry.ticket has);
  apart = λ y z at there has also same. h.apart y z at there (less y.entry.ticket has) (less z.entry.ticket also) same;
}

held_by_some : (o : Option ℕ) (c : ℕ) → o ≡ None → o ≡ Some c → ⊥
held_by_some o c none some = cc

-- a lock is taken for one of the turns
held_take : {shape : Shape} {w : Words} {begun : List ℕ} {turns : List Drawn} → HaveOwnTickets turns → Held shape w begun turns → (x : Drawn) → Stands x turns → WordsAllow shape w (steps.Take x.entry.cpu x.lock)
    → Held shape (words_after shape w (steps.Take x.entry.cpu x.lock)) (x.entry.ticket ∷ begun) turns
unfolding WordsAllow words_after
held_take {shape} {w} {begun} {turns} own h x stands can = record {
  held = λ y at has. ⊎_elim
      (λ (is : x.entry.ticket ≡ y.entry.ticket).
      subst (λ (d : Drawn). put w.holder (lock_number shape x.lock) (Some x.entry.cpu) (lock_number shape d.lock) ≡ Some d.entry.cpu) (by_ticket turns x y own stands at is)
      (put_here w.holder (lock_number shape x.lock) (Some x.entry.cpu)))
      (λ (before : among begun y.entry.ticket ≡ true).
      put_else w.holder (lock_number shape x.lock) (Some x.entry.cpu) (lock_number shape y.lock) (other y at before) ∙ h.held y at before)
      (among_more x.entry.ticket y.entry.ticket begun has);
  apart = λ y z at there has also same. ⊎_elim
      (λ (is : x.entry.ticket ≡ y.entry.ticket). ⊎_elim
      (λ (it : x.entry.ticket ≡ z.entry.ticket). by_ticket turns y z own at there (sym is ∙ it))
      (λ (before : among begun z.entry.ticket ≡ true). absurd (other z there before (sym same ∙ sym (ap (λ (d : Drawn). lock_number shape d.lock) (by_ticket turns x y own stands at is)))))
      (among_more x.entry.ticket z.entry.ticket begun also))
      (λ (before : among begun y.entry.ticket ≡ true). ⊎_elim
      (λ (it : x.entry.ticket ≡ z.entry.ticket). absurd (other y at before (same ∙ sym (ap (λ (d : Drawn). lock_number shape d.lock) (by_ticket turns x z own stands there it)))))
      (λ (too : among begun z.entry.ticket ≡ true). h.apart y z at there before too same)
      (among_more x.entry.ticket z.entry.ticket begun also))
      (among_more x.entry.ticket y.entry.ticket begun has);
}
  where
    other : (y : Drawn) → Stands y turns → among begun y.entry.ticket ≡ true → lock_number shape y.lock ≢ lock_number shape x.lock
    other y at has same = held_by_some (w.holder (lock_number shape x.lock)) y.entry.cpu can.nobody (sym (ap w.holder same) ∙ h.held y at has)

-- all that a turn takes
pub record Took (shape : Shape) (w : Words) (begun : List ℕ) (xs turns : List Drawn) (more : List Event) : Type 0 where
  pub words : Words
  pub words_is : words ≡ words_over shape w (map takes xs)
  pub tickets : List ℕ
  pub has_old : (t : ℕ) → among begun t ≡ true → among tickets t ≡ true
  pub has_new : (x : Drawn) → Stands x xs → among tickets x.entry.ticket ≡ true
  pub holds : Held shape words tickets turns
  pub goes_on : RunsByWords shape words more

take_all : {shape : Shape} {turns : List Drawn} → HaveOwnTickets turns → (xs : List Drawn) (begun : List ℕ) (w : Words) (more : List Event) → ((x : Drawn) → Stands x xs → Stands x turns) → Held shape w begun turns → RunsByWords shape w (map takes xs ++ more)
    → Took shape w begun xs turns more
unfolding RunsByWords words_over
take_all own [] begun w more are h runs = record { words = w; words_is = refl; tickets = begun; has_old = λ t has. has; has_new = λ x none. absurd none; holds = h; goes_on = runs }
take_all {shape} own (x ∷ xs) begun w more are h runs =
    let rest : Took shape (words_after shape w (steps.Take x.entry.cpu x.lock)) (x.entry.ticket ∷ begun) xs _ more =
    take_all own xs (x.entry.ticket ∷ begun) (words_after shape w (steps.Take x.entry.cpu x.lock)) more (λ y at. are y (inr at)) (held_take own h x (are x (inl refl)) runs.0) runs.1 in
    record {
      words = rest.words;
      words_is = rest.words_is;
      tickets = rest.tickets;
      has_old = λ t has. rest.has_old t (among_rest x.entry.ticket t begun has);
      has_new = λ y at. ⊎_elim
          (λ (is : x ≡ y). rest.has_old y.entry.ticket (among_first x.entry.ticket y.entry.ticket begun (ap (λ (d : Drawn). d.entry.ticket) is)))
          (λ (there : Stands y xs). rest.has_new y there)
          at;
      holds = rest.holds;
      goes_on = rest.goes_on;
    }

-- Steps that take no lock and give none back
abbrev IsWithin : Step → Type 0
IsWithin (steps.Take cpu lock) = ⊥
IsWithin (steps.Give cpu lock lists) = ⊥
IsWithin (steps.Claim cpu e lock) = Unit {0}
IsWithin (steps.Settle cpu e lock) = Unit {0}
IsWithin (steps.Attach cpu e bucket) = Unit {0}
IsWithin (steps.Detach cpu e bucket) = Unit {0}
IsWithin (steps.Rehome cpu e to) = Unit {0}
IsWithin (steps.Mark cpu e bucket) = Unit {0}
IsWithin (steps.Clear cpu e) = Unit {0}
IsWithin (steps.Glance cpu e) = Unit {0}

abbrev AreWithin : List Step → Type 0
AreWithin [] = Unit {0}
AreWithin (step ∷ more) = IsWithin step × AreWithin more

within_both : (xs ys : List Step) → AreWithin xs → AreWithin ys → AreWithin (xs ++ ys)
within_both [] ys first second = second
within_both (x ∷ xs) ys first second = (first.0, within_both xs ys first.1 second)

within_each : (f : ℕ → Step) (es : List ℕ) → ((e : ℕ) → IsWithin (f e)) → AreWithin (map f es)
within_each f [] are = tt
within_each f (e ∷ es) are = (are e, within_each f es are)

within_freed : (cpu : ℕ) (es : List ℕ) → AreWithin (flat_map (freed_steps cpu) es)
within_freed cpu [] = tt
within_freed cpu (e ∷ es) = (tt, (tt, within_freed cpu es))

within_put : (cpu bucket : ℕ) (put : Put) → AreWithin (put_steps cpu bucket put)
within_put cpu bucket (puts.Added e) = (tt, tt)
within_put cpu bucket (puts.Replaced new old) = (tt, (tt, tt))
within_put cpu bucket (puts.Written e) = tt
within_put cpu bucket puts.Exists = tt
within_put cpu bucket puts.Absent = tt
within_put cpu bucket puts.Full = tt

within_leave : (lru : Bool) (cpu bucket : ℕ) (es : List ℕ) → AreWithin (leave_steps lru cpu bucket es)
within_leave true cpu bucket es = within_each (λ e. steps.Detach cpu e bucket) es (λ e. tt)
within_leave false cpu bucket es = tt

within_bucket : (shape : Shape) (cpu bucket : ℕ) (part : BucketPart) → AreWithin (bucket_steps shape cpu bucket part)
within_bucket shape cpu bucket (Lookup side key got) = tt
within_bucket shape cpu bucket (Update side flags key value offer put) = within_put cpu bucket put
within_bucket shape cpu bucket (Delete key removed) = within_leave (is_lru shape.kind) cpu bucket (taken_from_bucket (Delete key removed))
within_bucket shape cpu bucket (Take key removed) = within_leave (is_lru shape.kind) cpu bucket (taken_from_bucket (Take key removed))
within_bucket shape cpu bucket (Next key found) = tt
within_bucket shape cpu bucket (First key) = tt
within_bucket shape cpu bucket (Walk remove room result) = within_leave (is_lru shape.kind) cpu bucket (taken_from_bucket (Walk remove room result))
within_bucket shape cpu bucket (Evict e probed) = within_each (λ e. steps.Detach cpu e bucket) (taken_from_bucket (Evict e probed)) (λ e. tt)

within_free : (cpu : ℕ) (around : Option ℕ) (lock : DomainId) (part : FreePart) → AreWithin (freelist_steps cpu around lock part)
within_free cpu None lock (Pushed e) = (tt, tt)
within_free cpu (Some bucket) lock (Pushed e) = (tt, (tt, tt))
within_free cpu around lock (Popped e) = (tt, tt)
within_free cpu around lock FoundEmpty = tt

within_claims : (cpu : ℕ) (lock : DomainId) (got : Option ℕ) → AreWithin (claims cpu lock got)
within_claims cpu lock None = tt
within_claims cpu lock (Some e) = (tt, tt)

within_steal : (cpu : ℕ) (lock : DomainId) (got : Stolen) → AreWithin (steal_steps cpu lock got)
within_steal cpu lock (stolen.Free e) = (tt, (tt, tt))
within_steal cpu lock (stolen.Pending e) = (tt, tt)
within_steal cpu lock stolen.Nothing = tt

within_local : (cpu : ℕ) (lock : DomainId) (part : LocalPart) → AreWithin (local_steps cpu lock part)
within_local cpu lock (local.Pop hash e) = (tt, tt)
within_local cpu lock (local.Refill hash flushed gained got) = within_claims cpu lock got
within_local cpu lock (local.Steal got first second) = within_steal cpu lock got
within_local cpu lock (local.Add hash e cursor) = (tt, tt)
within_local cpu lock (local.Push e true) = (tt, tt)
within_local cpu lock (local.Push e false) = tt

within_global : (cpu : ℕ) (part : GlobalPart) → AreWithin (global_steps cpu part)
within_global cpu (global.Turn flushed active inactive free shrink) =
    within_both (map (λ e. steps.Rehome cpu e (homes.In Global)) (flushed_elements flushed) ++ map (λ e. steps.Rehome cpu e (homes.In (Local cpu))) free) (flat_map (freed_steps cpu) (freed_by shrink))
    (within_both (map (λ e. steps.Rehome cpu e (homes.In Global)) (flushed_elements flushed)) (map (λ e. steps.Rehome cpu e (homes.In (Local cpu))) free)
    (within_each (λ e. steps.Rehome cpu e (homes.In Global)) (flushed_elements flushed) (λ e. tt))
    (within_each (λ e. steps.Rehome cpu e (homes.In (Local cpu))) free (λ e. tt)))
    (within_freed cpu (freed_by shrink))
within_global cpu (global.Push e) = (tt, tt)

within_own : (cpu : ℕ) (lock : DomainId) (part : OwnPart) → AreWithin (own_steps cpu lock part)
within_own cpu lock (own.Turn hash active inactive shrink got) =
    within_both (map (λ e. steps.Settle cpu e lock) (freed_by shrink)) (claims cpu lock got) (within_each (λ e. steps.Settle cpu e lock) (freed_by shrink) (λ e. tt)) (within_claims cpu lock got)
within_own cpu lock (own.Push e) = (tt, tt)

within_part : (shape : Shape) (cpu : ℕ) (lock : DomainId) (around : Option ℕ) (part : Part) → AreWithin (part_steps shape cpu lock around part)
within_part shape cpu lock around (parts.Bucket part) = within_bucket shape cpu (unwrap_or (bucket_of_lock lock) 0) part
within_part shape cpu lock around (parts.Free part) = within_free cpu around lock part
within_part shape cpu lock around (parts.Local part) = within_local cpu lock part
within_part shape cpu lock around (parts.Global part) = within_global cpu part
within_part shape cpu lock around (parts.Own part) = within_own cpu lock part

within_holder : (shape : Shape) (w : Words) (step : Step) → IsWithin step → (words_after shape w step).holder ≡ w.holder
unfolding words_after
within_holder shape w (steps.Take cpu lock) is = absurd is
within_holder shape w (steps.Give cpu lock lists) is = absurd is
within_holder shape w (steps.Claim cpu e lock) is = refl
within_holder shape w (steps.Settle cpu e lock) is = refl
within_holder shape w (steps.Attach cpu e bucket) is = refl
within_holder shape w (steps.Detach cpu e bucket) is = refl
within_holder shape w (steps.Rehome cpu e to) is = refl
within_holder shape w (steps.Mark cpu e bucket) is = refl
within_holder shape w (steps.Clear cpu e) is = refl
within_holder shape w (steps.Glance cpu e) is = refl

record Stepped (shape : Shape) (w : Words) (xs : List Step) (more : List Event) : Type 0 where
  pub words : Words
  pub words_is : words ≡ words_over shape w (map does xs)
  pub same : words.holder ≡ w.holder
  pub goes_on : RunsByWords shape words more

steps_made : {shape : Shape} (xs : List Step) (w : Words) (more : List Event) → AreWithin xs → RunsByWords shape w (map does xs ++ more) → Stepped shape w xs more
unfolding RunsByWords words_over
steps_made [] w more are runs = record { words = w; words_is = refl; same = refl; goes_on = runs }
steps_made {shape} (x ∷ xs) w more are runs =
    let rest : Stepped shape (words_after shape w x) xs more = steps_made xs (words_after shape w x) more are.1 runs.1 in
    record { words = rest.words; words_is = rest.words_is; same = rest.same ∙ within_holder shape w x are.0; goes_on = rest.goes_on }

bucket_seen : (shape : Shape) (part : BucketPart) (w : Words) (more : List Event) → RunsByWords shape w (seen_in part ++ more) → RunsByWords shape w more
unfolding RunsByWords
bucket_seen shape (Lookup side key got) w more runs = runs
bucket_seen shape (Update side flags key value offer put) w more runs = runs
bucket_seen shape (Delete key removed) w more runs = runs
bucket_seen shape (Take key removed) w more runs = runs
bucket_seen shape (Next key found) w more runs = runs
bucket_seen shape (First key) w more runs = runs
bucket_seen shape (Walk remove room result) w more runs = runs
bucket_seen shape (Evict e Removed) w more runs = runs
bucket_seen shape (Evict e (InHand holder)) w more runs = runs.1

all_seen : (shape : Shape) (part : Part) (w : Words) (more : List Event) → RunsByWords shape w (seen_by part ++ more) → RunsByWords shape w more
all_seen shape (parts.Bucket part) w more runs = bucket_seen shape part w more runs
all_seen shape (parts.Free part) w more runs = runs
all_seen shape (parts.Local part) w more runs = runs
all_seen shape (parts.Global part) w more runs = runs
all_seen shape (parts.Own part) w more runs = runs

-- the words after what is seen, and after events behind others
bucket_unseen : (shape : Shape) (part : BucketPart) (w : Words) → words_over shape w (seen_in part) ≡ w
unfolding words_over
bucket_unseen shape (Lookup side key got) w = refl
bucket_unseen shape (Update side flags key value offer put) w = refl
bucket_unseen shape (Delete key removed) w = refl
bucket_unseen shape (Take key removed) w = refl
bucket_unseen shape (Next key found) w = refl
bucket_unseen shape (First key) w = refl
bucket_unseen shape (Walk remove room result) w = refl
bucket_unseen shape (Evict e Removed) w = refl
bucket_unseen shape (Evict e (InHand holder)) w = refl

all_unseen : (shape : Shape) (part : Part) (w : Words) → words_over shape w (seen_by part) ≡ w
unfolding words_over
all_unseen shape (parts.Bucket part) w = bucket_unseen shape part w
all_unseen shape (parts.Free part) w = refl
all_unseen shape (parts.Local part) w = refl
all_unseen shape (parts.Global part) w = refl
all_unseen shape (parts.Own part) w = refl

pub over_both : (shape : Shape) (some more : List Event) (w : Words) → words_over shape w (some ++ more) ≡ words_over shape (words_over shape w some) more
unfolding words_over
over_both shape [] more w = refl
over_both shape (does step ∷ some) more w = over_both shape some more (words_after shape w step)
over_both shape (sees e holder ∷ some) more w = over_both shape some more w

-- The words after a turn's block: nobody holds its lock, and else it is as after the taking of its locks.
steps_holder : (shape : Shape) (xs : List Step) (w : Words) → AreWithin xs → (words_over shape w (map does xs)).holder ≡ w.holder
unfolding words_over
steps_holder shape [] w are = refl
steps_holder shape (x ∷ xs) w are = steps_holder shape xs (words_after shape w x) are.1 ∙ within_holder shape w x are.0

pub holder_after : (shape : Shape) (around : List Drawn) (begun : List ℕ) (lists : Lists) (x : Drawn) (w : Words)
    → (words_over shape w (turn_events shape around begun lists x)).holder ≡ put (words_over shape w (map takes (not_begun begun (around ++ x ∷ [])))).holder (lock_number shape x.lock) None
unfolding words_after words_over turn_events
holder_after shape around begun lists x w =
    let took : List Event = map takes (not_begun begun (around ++ x ∷ [])) in
    let word : List Step = part_steps shape x.entry.cpu x.lock (bucket_around around) x.entry.part in
    let give : List Event = does (steps.Give x.entry.cpu x.lock lists) ∷ [] in
    ap (λ (v : Words). v.holder)
    (over_both shape (took ++ map does word ++ seen_by x.entry.part) give w
    ∙ ap (λ (v : Words). words_after shape v (steps.Give x.entry.cpu x.lock lists))
    (over_both shape (took ++ map does word) (seen_by x.entry.part) w ∙ all_unseen shape x.entry.part (words_over shape w (took ++ map does word)) ∙ over_both shape took (map does word) w))
    ∙ ap (λ (f : ℕ → Option ℕ). put f (lock_number shape x.lock) None) (steps_holder shape word (words_over shape w took) (within_part shape x.entry.cpu x.lock (bucket_around around) x.entry.part))

-- Where turns stand
pub stands_left : (y : Drawn) (xs ys : List Drawn) → Stands y xs → Stands y (xs ++ ys)
stands_left y [] ys at = absurd at
stands_left y (x ∷ xs) ys (inl is) = inl is
stands_left y (x ∷ xs) ys (inr at) = inr (stands_left y xs ys at)

pub stands_right : (y : Drawn) (xs ys : List Drawn) → Stands y ys → Stands y (xs ++ ys)
stands_right y [] ys at = at
stands_right y (x ∷ xs) ys at = inr (stands_right y xs ys at)

pub stands_in : (y : Drawn) (xs ys : List Drawn) → Stands y (xs ++ ys) → Stands y xs ⊎ Stands y ys
stands_in y [] ys at = inr at
stands_in y (x ∷ xs) ys (inl is) = inl (inl is)
stands_in y (x ∷ xs) ys (inr at) = ⊎_elim (λ (l : Stands y xs). inl (inr l)) (λ (r : Stands y ys). inr r) (stands_in y xs ys at)

-- what encloses a turn comes after it
pub stands_around : (x y : Drawn) (later : List Drawn) → Stands y (enclosing x later) → Stands y later
unfolding enclosing
stands_around x y [] at = at
stands_around x y (z ∷ later) at = by (λ above. stands_around z y later above) (λ there. stands_around x y later there) (encloses z x) at
  where
    by : (Stands y (enclosing z later) → Stands y later) → (Stands y (enclosing x later) → Stands y later) → (b : Bool) → Stands y (cond b (enclosing z later ++ z ∷ []) (enclosing x later)) → Stands y (z ∷ later)
    by above_it around_it true at = ⊎_elim
        (λ (above : Stands y (enclosing z later)). inr (above_it above))
        (λ (last : Stands y (z ∷ [])). ⊎_elim (λ (is : z ≡ y). inl is) (λ none. absurd none) last)
        (stands_in y (enclosing z later) (z ∷ []) at)
    by above_it around_it false at = inr (around_it at)

-- what isn't left out had begun
pub taken_or_begun : (begun : List ℕ) (y : Drawn) (xs : List Drawn) → Stands y xs → (among begun y.entry.ticket ≡ true) ⊎ Stands y (not_begun begun xs)
taken_or_begun begun y [] at = absurd at
taken_or_begun begun y (x ∷ xs) (inl is) =
    ⊎_elim
    (λ (has : among begun x.entry.ticket ≡ true). inl (subst (λ (d : Drawn). among begun d.entry.ticket ≡ true) is has))
    (λ (has_not : among begun x.entry.ticket ≡ false). inr (subst (λ (b : Bool). Stands y (cond (not b) (x ∷ not_begun begun xs) (not_begun begun xs))) (sym has_not) (inl is)))
    (cases_Bool (among begun x.entry.ticket))
taken_or_begun begun y (x ∷ xs) (inr at) =
    ⊎_elim
    (λ (has : among begun y.entry.ticket ≡ true). inl has)
    (λ (there : Stands y (not_begun begun xs)). inr (by (among begun x.entry.ticket) there))
    (taken_or_begun begun y xs at)
  where
    by : (b : Bool) → Stands y (not_begun begun xs) → Stands y (cond (not b) (x ∷ not_begun begun xs) (not_begun begun xs))
    by true there = there
    by false there = inr there

pub not_begun_stands : (begun : List ℕ) (y : Drawn) (xs : List Drawn) → Stands y (not_begun begun xs) → Stands y xs
not_begun_stands begun y [] at = at
not_begun_stands begun y (x ∷ xs) at = by (λ there. not_begun_stands begun y xs there) (among begun x.entry.ticket) at
  where
    by : (Stands y (not_begun begun xs) → Stands y xs) → (b : Bool) → Stands y (cond (not b) (x ∷ not_begun begun xs) (not_begun begun xs)) → Stands y (x ∷ xs)
    by rest true there = inr (rest there)
    by rest false (inl is) = inl is
    by rest false (inr there) = inr (rest there)

-- a ticket that stands among those of some turns or had begun
pub record HasTicket (xs : List Drawn) (t : ℕ) : Type 0 where
  pub turn : Drawn
  pub stands : Stands turn xs
  pub is : turn.entry.ticket ≡ t

ticket_of : (xs : List Drawn) (begun : List ℕ) (t : ℕ) → among (tickets_of xs ++ begun) t ≡ true → HasTicket xs t ⊎ (among begun t ≡ true)
ticket_of [] begun t has = inr has
ticket_of (x ∷ xs) begun t has =
    ⊎_elim
    (λ (is : x.entry.ticket ≡ t). inl (record { turn = x; stands = inl refl; is = is }))
    (λ (rest : among (tickets_of xs ++ begun) t ≡ true).
    ⊎_elim
    (λ (there : HasTicket xs t). inl (record { turn = there.turn; stands = inr there.stands; is = there.is }))
    (λ (before : among begun t ≡ true). inr before)
    (ticket_of xs begun t rest))
    (among_more x.entry.ticket t (tickets_of xs ++ begun) has)

-- the other way round
ticket_among : (xs : List Drawn) (begun : List ℕ) (y : Drawn) → Stands y xs → among (tickets_of xs ++ begun) y.entry.ticket ≡ true
ticket_among [] begun y at = absurd at
ticket_among (x ∷ xs) begun y (inl is) = among_first x.entry.ticket y.entry.ticket (tickets_of xs ++ begun) (ap (λ (d : Drawn). d.entry.ticket) is)
ticket_among (x ∷ xs) begun y (inr at) = among_rest x.entry.ticket y.entry.ticket (tickets_of xs ++ begun) (ticket_among xs begun y at)

before_among : (xs : List Drawn) (begun : List ℕ) (t : ℕ) → among begun t ≡ true → among (tickets_of xs ++ begun) t ≡ true
before_among [] begun t has = has
before_among (x ∷ xs) begun t has = among_rest x.entry.ticket t (tickets_of xs ++ begun) (before_among xs begun t has)

-- Which turns have begun after a turn: itself, those that enclose it, and those before.
pub begun_by : (x : Drawn) (later : List Drawn) (begun : List ℕ) (t : ℕ) → among (begun_after x later begun) t ≡ true → (x.entry.ticket ≡ t) ⊎ (HasTicket (enclosing x later) t ⊎ (among begun t ≡ true))
begun_by x later begun t has =
    ⊎_elim
    (λ (is : x.entry.ticket ≡ t). inl is)
    (λ (rest : among (tickets_of (enclosing x later) ++ begun) t ≡ true). inr (ticket_of (enclosing x later) begun t rest))
    (among_more x.entry.ticket t (tickets_of (enclosing x later) ++ begun) has)

pub itself_begun : (x : Drawn) (later : List Drawn) (begun : List ℕ) → among (begun_after x later begun) x.entry.ticket ≡ true
itself_begun x later begun = among_first x.entry.ticket x.entry.ticket (tickets_of (enclosing x later) ++ begun) refl

pub around_begun : (x : Drawn) (later : List Drawn) (begun : List ℕ) (y : Drawn) → Stands y (enclosing x later) → among (begun_after x later begun) y.entry.ticket ≡ true
around_begun x later begun y at = among_rest x.entry.ticket y.entry.ticket (tickets_of (enclosing x later) ++ begun) (ticket_among (enclosing x later) begun y at)

pub before_begun : (x : Drawn) (later : List Drawn) (begun : List ℕ) (t : ℕ) → among begun t ≡ true → among (begun_after x later begun) t ≡ true
before_begun x later begun t has = among_rest x.entry.ticket t (tickets_of (enclosing x later) ++ begun) (before_among (enclosing x later) begun t has)

block_is : (shape : Shape) (around : List Drawn) (begun : List ℕ) (lists : Lists) (x : Drawn) (more : List Event)
    → turn_events shape around begun lists x ++ more
    ≡ map takes (not_begun begun (around ++ x ∷ []))
    ++ (map does (part_steps shape x.entry.cpu x.lock (bucket_around around) x.entry.part) ++ (seen_by x.entry.part ++ does (steps.Give x.entry.cpu x.lock lists) ∷ more))
unfolding turn_events
block_is shape around begun lists x more =
    let give : List Event = does (steps.Give x.entry.cpu x.lock lists) ∷ [] in
    let word : List Event = map does (part_steps shape x.entry.cpu x.lock (bucket_around around) x.entry.part) in
    append_assoc (map takes (not_begun begun (around ++ x ∷ [])) ++ word ++ seen_by x.entry.part) give more
    ∙ append_assoc (map takes (not_begun begun (around ++ x ∷ [])) ++ word) (seen_by x.entry.part) (give ++ more)
    ∙ append_assoc (map takes (not_begun begun (around ++ x ∷ []))) word (seen_by x.entry.part ++ (give ++ more))

-- the lock of a turn is given back
held_give : {shape : Shape} {w now : Words} {begun : List ℕ} {x : Drawn} {later : List Drawn} → HaveOwnTickets (x ∷ later) → Held shape w begun (x ∷ later) → among begun x.entry.ticket ≡ true
    → now.holder ≡ put w.holder (lock_number shape x.lock) None → Held shape now begun later
held_give {shape} {w} {now} {begun} {x} own h mine now_is = record {
  held = λ y at has.
      ap (λ (f : ℕ → Option ℕ). f (lock_number shape y.lock)) now_is
      ∙ put_else w.holder (lock_number shape x.lock) None (lock_number shape y.lock)
      (λ same. own.0 y at (ap (λ (d : Drawn). d.entry.ticket) (h.apart y x (inr at) (inl refl) has mine same)))
      ∙ h.held y (inr at) has;
  apart = λ y z at there has also same. h.apart y z (inr at) (inr there) has also same;
}

-- A turn's block that words allow.
pub block_made : {shape : Shape} (begun : List ℕ) (w : Words) (lists : Lists) (x : Drawn) (later : List Drawn) (more : List Event) → HaveOwnTickets (x ∷ later) → Held shape w begun (x ∷ later)
    → RunsByWords shape w (turn_events shape (enclosing x later) begun lists x ++ more) → Made shape w lists x later begun more
unfolding RunsByWords words_after words_over turn_events
block_made {shape} begun w lists x later more own h runs =
    let around : List Drawn = enclosing x later in
    let give : Event = does (steps.Give x.entry.cpu x.lock lists) in
    let word : List Step = part_steps shape x.entry.cpu x.lock (bucket_around around) x.entry.part in
    let apart : RunsByWords shape w (map takes (not_begun begun (around ++ x ∷ [])) ++ (map does word ++ (seen_by x.entry.part ++ give ∷ more))) =
    subst (RunsByWords shape w) (block_is shape around begun lists x more) runs in
    let took : Took shape w begun (not_begun begun (around ++ x ∷ [])) (x ∷ later) (map does word ++ (seen_by x.entry.part ++ give ∷ more)) =
    take_all own (not_begun begun (around ++ x ∷ [])) begun w (map does word ++ (seen_by x.entry.part ++ give ∷ more)) (λ y at. inside y (not_begun_stands begun y (around ++ x ∷ []) at)) h apart in
    let stepped : Stepped shape took.words word (seen_by x.entry.part ++ give ∷ more) =
    steps_made word took.words (seen_by x.entry.part ++ give ∷ more) (within_part shape x.entry.cpu x.lock (bucket_around around) x.entry.part) took.goes_on in
    let gives : RunsByWords shape stepped.words (give ∷ more) = all_seen shape x.entry.part stepped.words (give ∷ more) stepped.goes_on in
    let here : Held shape took.words (begun_after x later begun) (x ∷ later) = held_less took.holds (λ t has. known took t has) in
    let took_events : List Event = map takes (not_begun begun (around ++ x ∷ [])) in
    record {
      taken = took.words;
      taken_is = took.words_is;
      now = words_after shape stepped.words (steps.Give x.entry.cpu x.lock lists);
      now_is = ap (λ (v : Words). words_after shape v (steps.Give x.entry.cpu x.lock lists))
          (stepped.words_is ∙ ap (λ (v : Words). words_over shape v (map does word)) took.words_is ∙ sym (over_both shape took_events (map does word) w)
          ∙ sym (all_unseen shape x.entry.part (words_over shape w (took_events ++ map does word))) ∙ sym (over_both shape (took_events ++ map does word) (seen_by x.entry.part) w))
          ∙ sym (over_both shape (took_events ++ map does word ++ seen_by x.entry.part) (give ∷ []) w);
      at_its_place = here;
      after_it = held_give own here (itself_begun x later begun) (ap (λ (f : ℕ → Option ℕ). put f (lock_number shape x.lock) None) stepped.same);
      given = put_here stepped.words.holder (lock_number shape x.lock) None;
      goes_on = gives.1;
    }
  where
    inside : (y : Drawn) → Stands y (enclosing x later ++ x ∷ []) → Stands y (x ∷ later)
    inside y at = ⊎_elim
        (λ (above : Stands y (enclosing x later)). inr (stands_around x y later above))
        (λ (last : Stands y (x ∷ [])). ⊎_elim (λ (is : x ≡ y). inl is) (λ none. absurd none) last)
        (stands_in y (enclosing x later) (x ∷ []) at)

    has_begun : {events : List Event} {w : Words} (took : Took shape w begun (not_begun begun (enclosing x later ++ x ∷ [])) (x ∷ later) events) (y : Drawn) → Stands y (enclosing x later ++ x ∷ []) → among took.tickets y.entry.ticket ≡ true
    has_begun took y at = ⊎_elim
        (λ (before : among begun y.entry.ticket ≡ true). took.has_old y.entry.ticket before)
        (λ (new : Stands y (not_begun begun (enclosing x later ++ x ∷ []))). took.has_new y new)
        (taken_or_begun begun y (enclosing x later ++ x ∷ []) at)

    known : {events : List Event} {w : Words} (took : Took shape w begun (not_begun begun (enclosing x later ++ x ∷ [])) (x ∷ later) events) (t : ℕ) → among (begun_after x later begun) t ≡ true → among took.tickets t ≡ true
    known took t has = ⊎_elim
        (λ (is : x.entry.ticket ≡ t). subst (λ (u : ℕ). among took.tickets u ≡ true) is (has_begun took x (stands_right x (enclosing x later) (x ∷ []) (inl refl))))
        (λ (rest : HasTicket (enclosing x later) t ⊎ (among begun t ≡ true)). ⊎_elim
        (λ (above : HasTicket (enclosing x later) t). subst (λ (u : ℕ). among took.tickets u ≡ true) above.is (has_begun took above.turn (stands_left above.turn (enclosing x later) (x ∷ []) above.stands)))
        (λ (before : among begun t ≡ true). took.has_old t before)
        rest)
        (begun_by x later begun t has)

pub turn_made : {shape : Shape} (n : ℕ) (contents : DomainId → Content) (begun : List ℕ) (w : Words) (x : Drawn) (later : List Drawn) → HaveOwnTickets (x ∷ later) → Held shape w begun (x ∷ later)
    → RunsByWords shape w (interleaved_to (suc n) shape contents begun (x ∷ later))
    → Made shape w (lists_in (after_turn shape x.entry.cpu contents (turn_of x) x.lock)) x later begun (interleaved_to n shape (after_turn shape x.entry.cpu contents (turn_of x)) (begun_after x later begun) later)
unfolding interleaved_to
turn_made {shape} n contents begun w x later own h runs =
    let now : DomainId → Content = after_turn shape x.entry.cpu contents (turn_of x) in
    block_made begun w (lists_in (now x.lock)) x later (interleaved_to n shape now (begun_after x later begun) later) own h runs

-- At its place a turn is the only one on its lock that has begun.
pub alone : {shape : Shape} {w : Words} {lists : Lists} {x : Drawn} {later : List Drawn} {begun : List ℕ} {more : List Event} → HaveOwnTickets (x ∷ later) → Made shape w lists x later begun more
    → (y : Drawn) → Stands y later → among (begun_after x later begun) y.entry.ticket ≡ true → y.lock ≢ x.lock
alone {shape} {x} {later} {begun} own made y at has same =
    own.0 y at (ap (λ (d : Drawn). d.entry.ticket) (made.at_its_place.apart y x (inr at) (inl refl) has (itself_begun x later begun) (ap (lock_number shape) same)))

pub alone_before : {shape : Shape} {w : Words} {lists : Lists} {x : Drawn} {later : List Drawn} {begun : List ℕ} {more : List Event} → HaveOwnTickets (x ∷ later) → Made shape w lists x later begun more
    → (y : Drawn) → Stands y later → among begun y.entry.ticket ≡ true → y.lock ≢ x.lock
alone_before {x = x} {later} {begun} own made y at has = alone own made y at (before_begun x later begun y.entry.ticket has)

-- Turns in the order of their tickets have each its own.
at_least : (turns : List Drawn) (a n : ℕ) → tickets_of turns ≡ range_with_len a n → (y : Drawn) → Stands y turns → a ≤ y.entry.ticket
at_least [] a n is y at = absurd at
at_least (x ∷ later) a zero is y at = absurd (no_item x.entry.ticket (tickets_of later) is)
at_least (x ∷ later) a (suc n) is y (inl same) = omega (arith, ap (λ (d : Drawn). d.entry.ticket) same, first_item x.entry.ticket a (tickets_of later) (range_with_len (a + 1) n) is)
at_least (x ∷ later) a (suc n) is y (inr at) = omega (arith, at_least later (a + 1) n (rest_items x.entry.ticket a (tickets_of later) (range_with_len (a + 1) n) is) y at)

pub own_from_range : (turns : List Drawn) (a n : ℕ) → tickets_of turns ≡ range_with_len a n → HaveOwnTickets turns
own_from_range [] a n is = tt
own_from_range (x ∷ later) a zero is = absurd (no_item x.entry.ticket (tickets_of later) is)
own_from_range (x ∷ later) a (suc n) is =
    let rest : tickets_of later ≡ range_with_len (a + 1) n = rest_items x.entry.ticket a (tickets_of later) (range_with_len (a + 1) n) is in (
      λ y at same. absurd (omega (arith, same, at_least later (a + 1) n rest y at, first_item x.entry.ticket a (tickets_of later) (range_with_len (a + 1) n) is)),
      own_from_range later (a + 1) n rest,
    )
