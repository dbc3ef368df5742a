-- Turns inside turns: how what is said of them goes over from one view to the next.
use Rattle.std.proofs.Common.{◌≡◌, ◌≢◌, ℕ, zero, suc, ◌<◌, ◌+◌, cond, Bool, false, List, [], ◌∷◌, ◌++◌, length, sym, refl, ap, ◌∙◌, subst, Option, Some, None, arith, length-append}
use Rattle.std.specs.Prelude.{MatchBool, option_map, ◌==◌, slice_get, IsFalse, IsTrue}
use Rattle.map_types.specs.declared.attr.Shape.{Shape}
use Rattle.map_types.specs.declared.kind.DomainId.{DomainId}
use Rattle.map_types.specs.declared.kind.DomainId.TheVariants.{Local, Global, CpuLru, Freelist}
use Rattle.map_types.specs.declared.kind.DomainId.TheVariants as locks
use Rattle.map_types.proofs.RowLemmas.{by_test}
use Rattle.place_words.specs.declared.bucket_part.BucketPart.{BucketPart}
use Rattle.place_words.specs.declared.bucket_part.BucketPart.TheVariants.{Lookup, Update, Delete, Take, Next, First, Walk, Evict}
use Rattle.place_words.specs.declared.history.Entry.{Entry}
use Rattle.place_words.specs.declared.history.Part.{Part}
use Rattle.place_words.specs.declared.history.Part.TheVariants as parts
use Rattle.place_words.specs.declared.visits.Try.{Try}
use Rattle.place_words.specs.declared.home.Home.{Home}
use Rattle.place_words.specs.declared.home.Home.TheVariants as homes
use Rattle.place_words.specs.declared.owner.Owner.{Owner}
use Rattle.place_words.specs.declared.step.Lists.{Lists}
use Rattle.place_words.specs.Interleaving.{is_inner}
use Rattle.place_words.specs.Locks.{lock_named, rank_of}
use Rattle.place_words.specs.SerialOrder.{bucket_probes}
use Rattle.place_words.specs.State.{no_lists}
use Rattle.place_words.specs.Tickets.{AscendIn, tickets_of}
use Rattle.place_table.specs.declared.view.View.{View}
use Rattle.place_table.specs.declared.view.Hold.{Hold}
use Rattle.place_table.specs.declared.view.Turned.{Turned}
use Rattle.place_table.specs.declared.view.Ended.{Ended}
use Rattle.place_table.specs.Nested.{IsAround, IsInside, log_held, IsHeldOn, IsWithGlobal, StaysWithGlobal, AreOutside, AreOutsideAll, MayTake, AreNested, EachNested}
use Rattle.place_table.specs.Tickets.{innermost}
use Rattle.place_table.specs.Rules.{World, entries, hold, hold_of, PassKnows, StandsIn, StandIn}
use Rattle.place_table.specs.Views.{hold_at, is_local, with_now, held_without, held_with, IsAboveAll, Ascends}
use Rattle.place_table.proofs.Worlds.{by_bool, some_is, none_some, none_below}

-- Locks that are held

-- the locks that are held still are, after the same turns
abbrev pub HoldsOn : List Hold → List Hold → Type 0
HoldsOn held others = (k : ℕ) (log : List Entry) → log_held k held ≡ Some log → log_held k others ≡ Some log

-- all of the holds but what lies there
unfoldable pub without_lists : List Hold → List Hold
without_lists [] = []
without_lists (h ∷ hs) = record { lock = h.lock; cpu = h.cpu; log = h.log; now = no_lists; lost = h.lost } ∷ without_lists hs

log_without : (k : ℕ) (held : List Hold) → log_held k (without_lists held) ≡ log_held k held
unfolding without_lists
log_without k [] = refl
log_without k (h ∷ hs) =
    by_test h.lock k (λ b. option_map (λ (x : Hold). x.log) (cond b (Some record { lock = h.lock; cpu = h.cpu; log = h.log; now = no_lists; lost = h.lost }) (hold_at k (without_lists hs))) ≡ option_map (λ (x : Hold). x.log) (cond b (Some h) (hold_at k hs)))
    (λ _. refl) (λ _. log_without k hs)

pub same_logs : (held others : List Hold) → without_lists others ≡ without_lists held → (k : ℕ) → log_held k others ≡ log_held k held
same_logs held others same k = sym (log_without k others) ∙ (ap (log_held k) same ∙ log_without k held)

inner_without : (held : List Hold) → innermost (without_lists held) ≡ innermost held
unfolding without_lists
inner_without [] = refl
inner_without (h ∷ hs) = refl

pub inner_same : (held others : List Hold) → without_lists others ≡ without_lists held → innermost others ≡ innermost held
inner_same held others same = sym (inner_without others) ∙ (ap innermost same ∙ inner_without held)

-- other lists under a lock
pub lists_now : (k : ℕ) (now : Lists) (held : List Hold) → without_lists (with_now k now held) ≡ without_lists held
unfolding without_lists
lists_now k now [] = refl
lists_now k now (h ∷ hs) =
    by_test h.lock k (λ b. without_lists (cond b (record { lock = h.lock; cpu = h.cpu; log = h.log; now = now; lost = h.lost } ∷ hs) (h ∷ with_now k now hs)) ≡ record { lock = h.lock; cpu = h.cpu; log = h.log; now = no_lists; lost = h.lost } ∷ without_lists hs)
    (λ _. refl) (λ _. ap (λ (l : List Hold). record { lock = h.lock; cpu = h.cpu; log = h.log; now = no_lists; lost = h.lost } ∷ l) (lists_now k now hs))

pub lists_without : (shape : Shape) (home : Home) (owner : Owner) (e : ℕ) (held : List Hold) → without_lists (held_without shape home owner e held) ≡ without_lists held
lists_without shape homes.Unlisted owner e held = refl
lists_without shape (homes.In lock) owner e held = lists_now _ _ held
lists_without shape (homes.Hand cpu) owner e held = refl

pub lists_with : (shape : Shape) (home : Home) (owner : Owner) (e : ℕ) (held : List Hold) → without_lists (held_with shape home owner e held) ≡ without_lists held
lists_with shape homes.Unlisted owner e held = refl
lists_with shape (homes.In lock) owner e held = lists_now _ _ held
lists_with shape (homes.Hand cpu) owner e held = refl

-- one lock more, above all that are held
pub holds_taken : (shape : Shape) (h : Hold) (held : List Hold) → IsAboveAll shape (rank_of (lock_named shape h.lock)) held → HoldsOn held (h ∷ held)
holds_taken shape h held above k log is =
    by_test h.lock k (λ b. option_map (λ (x : Hold). x.log) (cond b (Some h) (hold_at k held)) ≡ Some log)
    (λ same. absurd (none_some (sym (ap (option_map (λ (x : Hold). x.log)) (subst (λ (j : ℕ). hold_at j held ≡ None) same (none_below shape h.lock held above))) ∙ is)))
    (λ _. is)

-- what is held below a rank
log_below : (shape : Shape) (rank k : ℕ) (log : List Entry) (held : List Hold) → IsAboveAll shape rank held → log_held k held ≡ Some log → rank_of (lock_named shape k) < rank
log_below shape rank k log [] above is = absurd (none_some is)
log_below shape rank k log (h ∷ hs) above is =
    by_test h.lock k (λ b. option_map (λ (x : Hold). x.log) (cond b (Some h) (hold_at k hs)) ≡ Some log → rank_of (lock_named shape k) < rank)
    (λ same _. subst (λ (j : ℕ). rank_of (lock_named shape j) < rank) same above.0) (λ _ rest. log_below shape rank k log hs above.1 rest) is

-- The turns before are those that the lock has.
pub log_there : (shape : Shape) (w : World) (pass : ℕ) (v : View) → PassKnows shape w pass v → (k : ℕ) (log : List Entry) → log_held k v.held ≡ Some log → log ≡ entries (w.log k)
log_there shape w pass v kn k log is = go (w.core.holder k) (sym (ap (option_map (λ (x : Hold). x.log)) (kn.held k)) ∙ is)
  where
    go : (holder : Option ℕ) → option_map (λ (x : Hold). x.log) (hold_of pass w.pass_of_cpu k holder (w.log k) (w.core.lists k) (w.lost k)) ≡ Some log → log ≡ entries (w.log k)
    go None e = absurd (none_some e)
    go (Some c) e =
        by_test (w.pass_of_cpu c) pass (λ b. option_map (λ (x : Hold). x.log) (cond b (Some (hold k c (w.log k) (w.core.lists k) (w.lost k))) None) ≡ Some log → log ≡ entries (w.log k))
        (λ _ f. sym (some_is f)) (λ _ f. absurd (none_some f)) e

-- Turns that local lists have around them

rank_local : (lock : DomainId) → IsTrue (is_local lock) → rank_of lock ≡ 1
rank_local (Local cpu) is = refl
rank_local Global is = absurd cc
rank_local (CpuLru cpu) is = absurd cc
rank_local (locks.Bucket bucket) is = absurd cc
rank_local (Freelist cpu) is = absurd cc

-- what was made with the global lists held is so still, of each of these turns
abbrev pub KeepWithGlobal : Shape → List Hold → List Hold → List Turned → Type 0
KeepWithGlobal shape held others [] = Unit {0}
KeepWithGlobal shape held others (step ∷ steps) = (IsWithGlobal shape step held → IsWithGlobal shape step others) × KeepWithGlobal shape held others steps

-- where the locks that are held have the same turns before, or some of these are held no more
pub keep_fewer : (shape : Shape) (held others : List Hold) (steps : List Turned) → HoldsOn others held → KeepWithGlobal shape held others steps
keep_fewer shape held others [] fewer = tt
keep_fewer shape held others (s ∷ ss) fewer = (
  λ is k g log globals local global at_k at_g. is k g log globals local global (fewer k log at_k) (fewer g globals at_g),
  keep_fewer shape held others ss fewer,
)

-- and where one lock more is held, above all that are: the global lists only where none of the turns was made inside these
pub keep_taken : (shape : Shape) (h : Hold) (held : List Hold) (steps : List Turned) → IsAboveAll shape (rank_of (lock_named shape h.lock)) held
    → (lock_named shape h.lock ≡ Global → (k : ℕ) (log : List Entry) → log_held k held ≡ Some log → AreOutside k log steps) → KeepWithGlobal shape held (h ∷ held) steps
keep_taken shape h held [] above outside = tt
keep_taken shape h held (s ∷ ss) above outside = (one, keep_taken shape h held ss above (λ global k log is. (outside global k log is).1))
  where
    one : IsWithGlobal shape s held → IsWithGlobal shape s (h ∷ held)
    one is k g log globals local global at_k at_g made =
        let lowest : rank_of (lock_named shape k) ≡ 1 = rank_local (lock_named shape k) local in
        let middle : rank_of (lock_named shape g) ≡ 2 = ap rank_of global in
        by_test h.lock k (λ b. option_map (λ (x : Hold). x.log) (cond b (Some h) (hold_at k held)) ≡ Some log → log_held g s.moment.held ≡ Some globals)
        (λ same _. by_test h.lock g (λ b. option_map (λ (x : Hold). x.log) (cond b (Some h) (hold_at g held)) ≡ Some globals → log_held g s.moment.held ≡ Some globals)
        (λ also _. let alike : rank_of (lock_named shape k) ≡ rank_of (lock_named shape g) = ap (λ (j : ℕ). rank_of (lock_named shape j)) (sym same ∙ also) in absurd (omega (arith, alike, lowest, middle)))
        (λ _ there.
        let low : rank_of (lock_named shape g) < rank_of (lock_named shape h.lock) = log_below shape (rank_of (lock_named shape h.lock)) g globals held above there in
        let alike : rank_of (lock_named shape h.lock) ≡ rank_of (lock_named shape k) = ap (λ (j : ℕ). rank_of (lock_named shape j)) same in
        absurd (omega (arith, low, alike, lowest, middle))) at_g)
        (λ _ here. by_test h.lock g (λ b. option_map (λ (x : Hold). x.log) (cond b (Some h) (hold_at g held)) ≡ Some globals → log_held g s.moment.held ≡ Some globals)
        (λ same _. absurd ((outside (ap (lock_named shape) same ∙ global) k log here).0 made))
        (λ _ there. is k g log globals local global here there made) at_g) at_k

-- A lock that is to be taken

pub above_taken : (shape : Shape) (lock : DomainId) (v : View) → MayTake shape lock v → IsAboveAll shape (rank_of lock) v.held
above_taken shape (Local cpu) v may = may
above_taken shape Global v may = may.0
above_taken shape (CpuLru cpu) v may = may
above_taken shape (locks.Bucket bucket) v may = may
above_taken shape (Freelist cpu) v may = may

outside_held : (held : List Hold) (steps : List Turned) → AreOutsideAll held steps → (k : ℕ) (log : List Entry) → log_held k held ≡ Some log → AreOutside k log steps
outside_held [] steps all k log is = absurd (none_some is)
outside_held (h ∷ hs) steps all k log is =
    by_test h.lock k (λ b. option_map (λ (x : Hold). x.log) (cond b (Some h) (hold_at k hs)) ≡ Some log → AreOutside k log steps)
    (λ same own. subst (λ (z : ℕ × List Entry). AreOutside z.0 z.1 steps) (λ i. (same i, some_is own i)) all.0) (λ _ rest. outside_held hs steps all.1 k log rest) is

pub outside_taken : (shape : Shape) (lock : DomainId) (v : View) → MayTake shape lock v → lock ≡ Global → (k : ℕ) (log : List Entry) → log_held k v.held ≡ Some log → AreOutside k log v.steps
outside_taken shape (Local cpu) v may is = absurd cc
outside_taken shape Global v may is = outside_held v.held v.steps may.1
outside_taken shape (CpuLru cpu) v may is = absurd cc
outside_taken shape (locks.Bucket bucket) v may is = absurd cc
outside_taken shape (Freelist cpu) v may is = absurd cc

-- Turns

-- a turn is made inside another one, or inside none
pub made_inside : (shape : Shape) (part : Part) (held : List Hold) → IsAround shape part held → IsInside shape part held
made_inside shape part held around = by_bool (is_inner part) (λ b. MatchBool b (IsAround shape part held) (Unit {0})) (λ _. around) (λ _. tt)

pub made_alone : (shape : Shape) (part : Part) (held : List Hold) → IsFalse (is_inner part) → IsInside shape part held
made_alone shape part held alone = subst (λ (b : Bool). MatchBool b (IsAround shape part held) (Unit {0})) (sym alone) tt

-- as is a turn of a bucket that probes nothing
pub probes_nothing : (shape : Shape) (part : BucketPart) (held : List Hold) → bucket_probes part ≡ [] → IsInside shape (parts.Bucket part) held
probes_nothing shape (Lookup side key got) held none = tt
probes_nothing shape (Update side flags key value offer put) held none = tt
probes_nothing shape (Delete key removed) held none = tt
probes_nothing shape (Take key removed) held none = tt
probes_nothing shape (Next key found) held none = tt
probes_nothing shape (First key) held none = tt
probes_nothing shape (Walk remove room result) held none = tt
probes_nothing shape (Evict e probed) held none = absurd (some_probe none)
  where
    some_probe : {x : Try} {xs : List Try} → x ∷ xs ≡ [] → ⊥
    some_probe e = cc

pub on_longer : (k : ℕ) (log : List Entry) (steps : List Turned) (held others : List Hold) → HoldsOn held others → IsHeldOn k log steps held → IsHeldOn k log steps others
on_longer k log [] held others on is = on k log is
on_longer k log (s ∷ ss) held others on is =
    by_test s.lock k (λ b. MatchBool b (s.earlier ≡ log) ((log_held k s.moment.held ≡ Some log) × IsHeldOn k log ss held) → MatchBool b (s.earlier ≡ log) ((log_held k s.moment.held ≡ Some log) × IsHeldOn k log ss others))
    (λ _ same. same) (λ _ both. (both.0, on_longer k log ss held others on both.1)) is

pub with_global_on : (shape : Shape) (step : Turned) (steps : List Turned) (held others : List Hold) → (IsWithGlobal shape step held → IsWithGlobal shape step others) → StaysWithGlobal shape step steps held → StaysWithGlobal shape step steps others
with_global_on shape step [] held others on is = on is
with_global_on shape step (s ∷ ss) held others on is = (is.0, with_global_on shape step ss held others on is.1)

-- the same turns, where the locks that were held still are, and no record is lost less
pub nested_on : (shape : Shape) (lost losts : ℕ → Bool) (steps : List Turned) (held others : List Hold) → HoldsOn held others → KeepWithGlobal shape held others steps → ((k : ℕ) → losts k ≡ false → lost k ≡ false) → AreNested shape lost steps held → AreNested shape losts steps others
nested_on shape lost losts [] held others on keep kept are = tt
nested_on shape lost losts (s ∷ ss) held others on keep kept are = (
  record {
    own = are.0.own;
    around = are.0.around;
    held_are = are.0.held_are;
    lock_is = are.0.lock_is;
    earlier_is = are.0.earlier_is;
    ascends = are.0.ascends;
    inside = are.0.inside;
    held_on = λ k log is. on_longer k log ss held others on (are.0.held_on k log is);
    with_global = with_global_on shape s ss held others keep.0 are.0.with_global;
    above = λ k log is lo. are.0.above k log is (kept k lo);
  },
  nested_on shape lost losts ss held others on keep.1 kept are.1,
)

pub each_nested_on : (shape : Shape) (lost losts : ℕ → Bool) (strands : List Ended) → ((k : ℕ) → losts k ≡ false → lost k ≡ false) → EachNested shape lost strands → EachNested shape losts strands
each_nested_on shape lost losts [] kept are = tt
each_nested_on shape lost losts (x ∷ xs) kept are = (nested_on shape lost losts x.steps [] [] (λ _ _ is. is) (keep_fewer shape [] [] x.steps (λ _ _ is. is)) kept are.0, each_nested_on shape lost losts xs kept are.1)

pub each_nested_append : (shape : Shape) (lost : ℕ → Bool) (xs ys : List Ended) → EachNested shape lost xs → EachNested shape lost ys → EachNested shape lost (xs ++ ys)
each_nested_append shape lost [] ys are more = more
each_nested_append shape lost (x ∷ xs) ys are more = (are.0, each_nested_append shape lost xs ys are.1 more)

pub nested_at : (shape : Shape) (lost : ℕ → Bool) (strands : List Ended) → EachNested shape lost strands → (n : ℕ) (strand : Ended) → slice_get strands n ≡ Some strand → AreNested shape lost strand.steps []
nested_at shape lost [] are n strand at = absurd (none_some at)
nested_at shape lost (x ∷ xs) are zero strand at = subst (λ (z : Ended). AreNested shape lost z.steps []) (some_is at) are.0
nested_at shape lost (x ∷ xs) are (suc n) strand at = nested_at shape lost xs are.1 n strand at

-- No turn was made while a lock that is to be taken was held with the turns before that it has now: its next turn would be one of these.
no_turn_there : (k : ℕ) (log : ℕ → List Entry) (step : Turned) → step.lock ≡ k → step.earlier ≡ log k → StandsIn (log step.lock) step → ⊥
no_turn_there k log step lock_is earlier_is stands =
    let same : log k ≡ log k ++ step.entry ∷ stands.later = ap log (sym lock_is) ∙ (stands.log_is ∙ ap (λ (l : List Entry). l ++ step.entry ∷ stands.later) earlier_is) in
    let counted : length (log k) ≡ length (log k) + suc (length stands.later) = ap length same ∙ length-append (log k) (step.entry ∷ stands.later) in
    omega (arith, counted)

not_held_on : (k : ℕ) (log : ℕ → List Entry) (steps : List Turned) (held : List Hold) → hold_at k held ≡ None → StandIn log steps → IsHeldOn k (log k) steps held → ⊥
not_held_on k log [] held none stand is = none_some (sym (ap (option_map (λ (x : Hold). x.log)) none) ∙ is)
not_held_on k log (s ∷ ss) held none stand is =
    by_test s.lock k (λ b. MatchBool b (s.earlier ≡ log k) ((log_held k s.moment.held ≡ Some (log k)) × IsHeldOn k (log k) ss held) → ⊥)
    (λ same own. no_turn_there k log s same own stand.0) (λ _ rest. not_held_on k log ss held none stand.1 rest.1) is

pub none_inside : (shape : Shape) (lost : ℕ → Bool) (k : ℕ) (log : ℕ → List Entry) (steps : List Turned) (held : List Hold) → hold_at k held ≡ None → StandIn log steps → AreNested shape lost steps held → AreOutside k (log k) steps
none_inside shape lost k log [] held none stand are = tt
none_inside shape lost k log (s ∷ ss) held none stand are = (one, none_inside shape lost k log ss held none stand.1 are.1)
  where
    one : log_held k s.moment.held ≢ Some (log k)
    one is =
        by_test are.0.own.lock k (λ b. option_map (λ (x : Hold). x.log) (cond b (Some are.0.own) (hold_at k are.0.around)) ≡ Some (log k) → ⊥)
        (λ same own. no_turn_there k log s (sym are.0.lock_is ∙ same) (sym are.0.earlier_is ∙ some_is own) stand.0)
        (λ _ around. not_held_on k log ss held none stand.1 (are.0.held_on k (log k) around))
        (ap (log_held k) (sym are.0.held_are) ∙ is)

-- The lock taken last is given back.
pub record Ends (shape : Shape) (held left : List Hold) (step : Turned) : Type 0 where
  pub own : Hold
  pub held_are : held ≡ own ∷ left
  pub moment_is : step.moment.held ≡ held
  pub lock_is : own.lock ≡ step.lock
  pub earlier_is : own.log ≡ step.earlier
  pub ascends : Ascends shape held
  pub inside : IsInside shape step.entry.part left

module _ {shape : Shape} {held left : List Hold} {step : Turned} (ends : Ends shape held left step) where
  -- what was held on until then is the lock's own turn, or held on
  on_ended : (k : ℕ) (log : List Entry) (steps : List Turned) → IsHeldOn k log steps held → IsHeldOn k log (steps ++ step ∷ []) left
  on_ended k log [] is =
      let now : log_held k (ends.own ∷ left) ≡ Some log = ap (log_held k) (sym ends.held_are) ∙ is in
      let there : log_held k step.moment.held ≡ Some log = ap (log_held k) ends.moment_is ∙ is in
      subst (λ (j : ℕ). MatchBool (j == k) (step.earlier ≡ log) ((log_held k step.moment.held ≡ Some log) × (log_held k left ≡ Some log))) ends.lock_is
      (by_test ends.own.lock k (λ b. option_map (λ (x : Hold). x.log) (cond b (Some ends.own) (hold_at k left)) ≡ Some log → MatchBool b (step.earlier ≡ log) ((log_held k step.moment.held ≡ Some log) × (log_held k left ≡ Some log)))
      (λ _ own. sym ends.earlier_is ∙ some_is own) (λ _ other. (there, other)) now)
  on_ended k log (s ∷ ss) is =
      by_test s.lock k (λ b. MatchBool b (s.earlier ≡ log) ((log_held k s.moment.held ≡ Some log) × IsHeldOn k log ss held) → MatchBool b (s.earlier ≡ log) ((log_held k s.moment.held ≡ Some log) × IsHeldOn k log (ss ++ step ∷ []) left))
      (λ _ same. same) (λ _ both. (both.0, on_ended k log ss both.1)) is

  -- what is still held was held until then
  were_held : HoldsOn left held
  were_held k log is = ap (log_held k) ends.held_are ∙ holds_taken shape ends.own left (subst (Ascends shape) ends.held_are ends.ascends).0 k log is

  with_global_ended : (made : Turned) (steps : List Turned) → StaysWithGlobal shape made steps held → StaysWithGlobal shape made (steps ++ step ∷ []) left
  with_global_ended made [] is = (
    subst (IsWithGlobal shape made) (sym ends.moment_is) is,
    λ k g log globals local global at_k at_g. is k g log globals local global (were_held k log at_k) (were_held g globals at_g),
  )
  with_global_ended made (s ∷ ss) is = (is.0, with_global_ended made ss is.1)

  pub nested_ended : (lost losts : ℕ → Bool) (steps : List Turned) → ((k : ℕ) → losts k ≡ false → lost k ≡ false) → ((k : ℕ) (log : List Entry) → log_held k held ≡ Some log → losts k ≡ false → AscendIn 0 (tickets_of log) step.entry.ticket)
      → AreNested shape lost steps held → AreNested shape losts (steps ++ step ∷ []) left
  nested_ended lost losts [] kept above are = (
    record {
      own = ends.own;
      around = left;
      held_are = ends.moment_is ∙ ends.held_are;
      lock_is = ends.lock_is;
      earlier_is = ends.earlier_is;
      ascends = subst (Ascends shape) (sym ends.moment_is) ends.ascends;
      inside = ends.inside;
      held_on = λ k log is. is;
      with_global = λ k g log globals local global at_k at_g made. ap (log_held g) ends.moment_is ∙ were_held g globals at_g;
      above = λ k log is lo. above k log (ap (log_held k) (sym ends.moment_is) ∙ is) lo;
    },
    tt,
  )
  nested_ended lost losts (s ∷ ss) kept above are = (
    record {
      own = are.0.own;
      around = are.0.around;
      held_are = are.0.held_are;
      lock_is = are.0.lock_is;
      earlier_is = are.0.earlier_is;
      ascends = are.0.ascends;
      inside = are.0.inside;
      held_on = λ k log is. on_ended k log ss (are.0.held_on k log is);
      with_global = with_global_ended s ss are.0.with_global;
      above = λ k log is lo. are.0.above k log is (kept k lo);
    },
    nested_ended lost losts ss kept above are.1,
  )
