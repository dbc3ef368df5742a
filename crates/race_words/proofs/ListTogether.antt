-- What the order of the turns of a map that evicts has, by the traces of calls: each CPU uses what it has in hand, and inner turns of a call
-- follow one another up to the turn that they are for.
use Rattle.std.proofs.Common.{◌≡◌, ◌⊎◌, inl, inr, ℕ, zero, suc, ◌+◌, ◌<◌, ◌≤◌, Bool, true, false, not, cond, eqb, ltb, List, [], ◌∷◌, ◌++◌, map, refl, ap, ◌∙◌, sym, subst, ⊎_elim, arith}
use Rattle.std.specs.Prelude.{IsTrue, filter}
use Rattle.std.proofs.lemmas.Bool.{and_parts, cases_lt, cond-true, cond-false, eq-eqb, eqb-true, lt-ltb, ltb-true, ne_eqb, true≢false}
use Rattle.std.proofs.lemmas.List.{map-append}
use Rattle.map_types.specs.declared.attr.Shape.{Shape}
use Rattle.map_types.specs.declared.kind.DomainId.{DomainId}
use Rattle.map_types.specs.declared.kind.DomainId.TheVariants.{Local, Global, CpuLru, Bucket, Freelist}
use Rattle.map_types.specs.ElementLists.{put}
use Rattle.map_types.specs.Kind.{is_lru}
use Rattle.map_types.proofs.RowLemmas.{by_test}
use Rattle.place_words.specs.declared.bucket_part.BucketPart.{BucketPart}
use Rattle.place_words.specs.declared.history.Part.{Part}
use Rattle.place_words.specs.declared.history.Part.TheVariants as parts
use Rattle.place_words.specs.Histories.{Content}
use Rattle.place_words.specs.Interleaving.{Drawn, turn_of, is_inner, encloses}
use Rattle.place_words.specs.Locks.{rank_of, is_lock}
use Rattle.place_words.specs.Turns.{after_turn}
use Rattle.place_words.proofs.ElementLemmas.{put_here, put_else}
use Rattle.turn_order.specs.InCalls.{AreInOrder, CallInOrder, turns_of_call}
use Rattle.turn_order.proofs.Members.{IsAmong, filter_among, among_filter}
use Rattle.core_runs.proofs.RaceLinks.{AllowAlong, AreOnLocks}
use Rattle.step_check.proofs.Begun.{Stands, stands_around}
use Rattle.step_check.proofs.InsideCalls.{its}
use Rattle.step_check.proofs.LockSorts.{AreOfTheirSorts, sorts_after, part_sort, sort_of_lock, sort_of_part}
use Rattle.step_check.proofs.PlainNested.{SomeOf, all_stand, its_turns, some_or_none}
use Rattle.step_check.proofs.SharedTurns.{no_own}
use Rattle.step_check.proofs.StrandCalls.{keeps_none, picks_less}
use Rattle.race_words.proofs.Open.{Around, around_each}
use Rattle.race_words.proofs.Inner.{InnerBefore, InnersTogether, CallsRise, encloses_from}
use Rattle.race_words.proofs.ListHands.{Mode, resting, mode_after, CountRuns, MayCounts, Steady, both_steady, closes, next_counts, trace_steady}
use Rattle.race_words.proofs.Phases.{Climbs, climbs_filter, least_first}
use Rattle.race_words.proofs.StrandHands.{is_own, own}

pub among_stands : (y : Drawn) (ys : List Drawn) → IsAmong y ys → Stands y ys
among_stands y [] at = at
among_stands y (z ∷ ys) (inl same) = inl same
among_stands y (z ∷ ys) (inr at) = inr (among_stands y ys at)

-- A fact of turns that goes over appending holds of all where it holds of each class of a number that doesn't fall.
of_classes : (P : List Drawn → Type 0) → P [] → ((xs ys : List Drawn) → P xs → P ys → P (xs ++ ys)) → (f : Drawn → ℕ) (m p : ℕ) (xs : List Drawn) → Climbs f xs → ((x : Drawn) → IsAmong x xs → (p ≤ f x) × (f x < p + m))
    → ((q : ℕ) → P (filter (λ x. eqb (f x) q) xs)) → P xs
of_classes P none both f zero p [] climbs within each = none
of_classes P none both f zero p (x ∷ xs) climbs within each = let bounds = within x (inl refl) in absurd (omega (arith, bounds.0, bounds.1))
of_classes P none both f (suc m) p xs climbs within each =
    let later : List Drawn = filter (λ x. ltb p (f x)) xs in
    subst P (least_first f p xs climbs (λ x there. (within x there).0))
    (both (filter (λ x. eqb (f x) p) xs) later (each p)
    (of_classes P none both f m (suc p) later (climbs_filter f (λ x. ltb p (f x)) xs climbs)
    (λ x there.
    let found = filter_among (λ x. ltb p (f x)) x xs there in
    let above = ltb-true p (f x) found.1 in
    (omega (arith, above), omega (arith, (within x found.0).1)))
    (λ q. class q (cases_lt p q))))
  where
    class : (q : ℕ) → (p < q) ⊎ (q ≤ p) → P (filter (λ x. eqb (f x) q) (filter (λ x. ltb p (f x)) xs))
    class q (inl above) = subst P (sym (picks_less (λ x. eqb (f x) q) (λ x. ltb p (f x)) xs (λ x there is. lt-ltb p (f x) (let same = eqb-true (f x) q is in omega (arith, same, above))))) (each q)
    class q (inr low) = subst P (sym (keeps_none (λ x. eqb (f x) q) (filter (λ x. ltb p (f x)) xs) (λ x there.
        let found = filter_among (λ x. ltb p (f x)) x xs there in
        let above = ltb-true p (f x) found.1 in
        ne_eqb (f x) q (λ same. omega (arith, same, above, low))))) none

-- all of some numbers are below one
record Bound (f : Drawn → ℕ) (xs : List Drawn) : Type 0 where
  most : ℕ
  below : (x : Drawn) → IsAmong x xs → f x < most

bound_of : (f : Drawn → ℕ) (xs : List Drawn) → Bound f xs
bound_of f [] = record { most = 0; below = λ x there. absurd there }
bound_of f (x ∷ xs) =
    let rest : Bound f xs = bound_of f xs in
    record { most = suc (f x) + rest.most; below = λ y there. ⊎_elim (λ (same : x ≡ y). omega (arith, ap f same)) (λ (later : IsAmong y xs). omega (arith, rest.below y later)) there }

-- Calls

abbrev call_of : Drawn → ℕ
call_of x = x.entry.call

own_climbs : (cpu : ℕ) (turns : List Drawn) → CallsRise turns → Climbs call_of (own cpu turns)
own_climbs cpu [] rise = tt
own_climbs cpu (x ∷ later) rise = by (eqb x.entry.cpu cpu) refl (own_climbs cpu later rise.1)
  where
    by : (b : Bool) → eqb x.entry.cpu cpu ≡ b → Climbs call_of (own cpu later) → Climbs call_of (cond b (x ∷ own cpu later) (own cpu later))
    by true is rest = (
      λ y there.
          let found = filter_among (is_own cpu) y later there in
          rise.0 y (among_stands y later found.0) (eqb-true y.entry.cpu cpu found.1 ∙ sym (eqb-true x.entry.cpu cpu is)),
      rest,
    )
    by false is rest = rest

module _ (shape : Shape) (lru : is_lru shape.kind ≡ true) (turns : List Drawn) (in_order : AreInOrder shape turns) where
  abbrev steady : List Drawn → Type 0
  steady xs = Steady (map turn_of xs)

  none_steady : steady []
  none_steady h = (λ e. refl, refl)

  steady_both : (xs ys : List Drawn) → steady xs → steady ys → steady (xs ++ ys)
  steady_both xs ys first second = subst Steady (sym (map-append turn_of xs ys)) (both_steady (map turn_of xs) (map turn_of ys) first second)

  -- the turns of a call that a CPU made
  class_steady : (cpu q : ℕ) → steady (filter (λ x. eqb (call_of x) q) (own cpu turns))
  class_steady cpu q = ⊎_elim (λ (some : SomeOf turns q). of_some some) (λ (none : its q turns ≡ []). subst steady (sym (nothing none)) none_steady) (some_or_none q turns)
    where
      of_its : (x : Drawn) → IsAmong x turns → eqb (call_of x) q ≡ true → IsAmong x (its q turns)
      of_its x there is = among_filter (λ (y : Drawn). eqb y.entry.call q) x turns is there

      nothing : its q turns ≡ [] → filter (λ x. eqb (call_of x) q) (own cpu turns) ≡ []
      nothing none = keeps_none (λ x. eqb (call_of x) q) (own cpu turns) (λ x there. by x (filter_among (is_own cpu) x turns there).0 (eqb (call_of x) q) refl)
        where
          by : (x : Drawn) → IsAmong x turns → (b : Bool) → eqb (call_of x) q ≡ b → b ≡ false
          by x there true is = absurd (subst (λ (l : List Drawn). IsAmong x l) none (of_its x there is))
          by x there false is = refl

      of_some : SomeOf turns q → steady (filter (λ x. eqb (call_of x) q) (own cpu turns))
      of_some some =
          let c : CallInOrder shape turns q = subst (CallInOrder shape turns) some.is (all_stand (λ (y : Drawn). CallInOrder shape turns y.entry.call) turns in_order some.turn some.stands) in
          let all : steady (its q turns) = subst Steady (its_turns q [] turns) (trace_steady shape lru c.cpu c.spare c.verb (turns_of_call q turns) c.reply c.trace) in
          let its_cpu : (x : Drawn) → IsAmong x turns → eqb (call_of x) q ≡ true → x.entry.cpu ≡ c.cpu =
          λ x there is. all_stand (λ (d : Drawn). d.entry.call ≡ q → d.entry.cpu ≡ c.cpu) turns c.all_its x (among_stands x turns there) (eqb-true (call_of x) q is) in
          by_test c.cpu cpu (λ _. steady (filter (λ x. eqb (call_of x) q) (own cpu turns)))
          (λ same. subst steady (sym (picks_less (λ x. eqb (call_of x) q) (is_own cpu) turns (λ x there is. eq-eqb x.entry.cpu cpu (its_cpu x there is ∙ same)))) all)
          (λ other. subst steady (sym (keeps_none (λ x. eqb (call_of x) q) (own cpu turns) (λ x there.
          let found = filter_among (is_own cpu) x turns there in
          not_its x (eqb (call_of x) q) refl (λ is. other (sym (its_cpu x found.0 is) ∙ eqb-true x.entry.cpu cpu found.1))))) none_steady)
        where
          not_its : (x : Drawn) (b : Bool) → eqb (call_of x) q ≡ b → (eqb (call_of x) q ≡ true → ⊥) → b ≡ false
          not_its x true is never = absurd (never is)
          not_its x false is never = refl

  -- the turns of a CPU
  pub own_steady : CallsRise turns → (cpu : ℕ) → steady (own cpu turns)
  own_steady rise cpu =
      let most : Bound call_of (own cpu turns) = bound_of call_of (own cpu turns) in
      of_classes steady none_steady steady_both call_of most.most 0 (own cpu turns) (own_climbs cpu turns rise) (λ x there. (omega arith, let less = most.below x there in omega (arith, less))) (class_steady cpu)

-- From each CPU's turns to all

-- each CPU uses what it has, and behind its inner turns stands the turn that they are for
abbrev pub CountsAlong : (ℕ → ℕ → ℕ) → (ℕ → Mode) → List Drawn → Type 0
CountsAlong hands modes [] = Unit {0}
CountsAlong hands modes (x ∷ later) =
    MayCounts (hands x.entry.cpu) (modes x.entry.cpu) x.entry.part
    × CountsAlong (put hands x.entry.cpu (next_counts (hands x.entry.cpu) x.entry.part)) (put modes x.entry.cpu (mode_after x.entry.part)) later

counts_from : (turns : List Drawn) (hands : ℕ → ℕ → ℕ) (flags : ℕ → Mode) (last : ℕ → ℕ → ℕ) (ends : ℕ → Mode) → ((cpu : ℕ) → CountRuns (hands cpu) (flags cpu) (map turn_of (own cpu turns)) (last cpu) (ends cpu)) → CountsAlong hands flags turns
counts_from [] hands flags last ends runs = tt
counts_from (x ∷ later) hands flags last ends runs =
    let cpu : ℕ = x.entry.cpu in
    let mine : CountRuns (hands cpu) (flags cpu) (map turn_of (x ∷ own cpu later)) (last cpu) (ends cpu) =
    subst (λ (l : List Drawn). CountRuns (hands cpu) (flags cpu) (map turn_of l) (last cpu) (ends cpu)) (cond-true (eqb cpu cpu) (x ∷ own cpu later) (own cpu later) (eq-eqb cpu cpu refl)) (runs cpu) in
    let next : ℕ → ℕ = next_counts (hands cpu) x.entry.part in
    let flag : Mode = mode_after x.entry.part in (
      mine.0,
      counts_from later (put hands cpu next) (put flags cpu flag) last ends (λ c.
          by_test c cpu (λ _. CountRuns (put hands cpu next c) (put flags cpu flag c) (map turn_of (own c later)) (last c) (ends c))
          (λ same. subst (λ (d : ℕ). CountRuns (put hands cpu next d) (put flags cpu flag d) (map turn_of (own d later)) (last d) (ends d)) (sym same)
          (subst (λ (h : ℕ → ℕ). CountRuns h (put flags cpu flag cpu) (map turn_of (own cpu later)) (last cpu) (ends cpu)) (sym (put_here hands cpu next))
          (subst (λ (b : Mode). CountRuns next b (map turn_of (own cpu later)) (last cpu) (ends cpu)) (sym (put_here flags cpu flag)) mine.1)))
          (λ other.
          subst (λ (h : ℕ → ℕ). CountRuns h (put flags cpu flag c) (map turn_of (own c later)) (last c) (ends c)) (sym (put_else hands cpu next c other))
          (subst (λ (b : Mode). CountRuns (hands c) b (map turn_of (own c later)) (last c) (ends c)) (sym (put_else flags cpu flag c other))
          (subst (λ (l : List Drawn). CountRuns (hands c) (flags c) (map turn_of l) (last c) (ends c)) (cond-false (eqb cpu c) (x ∷ own c later) (own c later) (ne_eqb cpu c (λ is. other (sym is)))) (runs c))))),
    )

pub counts_along : (shape : Shape) → is_lru shape.kind ≡ true → (turns : List Drawn) → AreInOrder shape turns → CallsRise turns → CountsAlong (λ c e. 0) (λ c. resting) turns
counts_along shape lru turns in_order rise = counts_from turns (λ c e. 0) (λ c. resting) (λ c e. 0) (λ c. resting) (λ cpu. own_steady shape lru turns in_order rise cpu (λ e. 0))

-- Nests

-- What inner turns are for has a lock of a lower rank.
record IsApart (rank : ℕ) (lock : DomainId) (part : Part) : Type 0 where
  inner : is_inner part ≡ true → rank < rank_of lock
  outer : closes part ≡ true → rank_of lock ≤ rank

no_bool : {A : Type 0} → (◌≡◌ {A = Bool} false true) → A
no_bool is = absurd cc

-- Local lists have the first rank, the global ones and sets the second, and buckets the third.
abbrev rank_for : Shape → ℕ
rank_for shape = cond shape.common 1 2

bucket_apart : (shape : Shape) (b : ℕ) (part : BucketPart) → IsApart (rank_for shape) (Bucket b) (parts.Bucket part)
bucket_apart shape b part = record { inner = λ _. below shape.common; outer = λ is. no_bool is }
  where
    below : (common : Bool) → cond common 1 2 < 3
    below true = omega arith
    below false = omega arith

is_apart : (shape : Shape) → is_lru shape.kind ≡ true → (lock : DomainId) (part : Part) → IsTrue (is_lock shape lock) → sort_of_part part ≡ sort_of_lock lock → IsApart (rank_for shape) lock part
is_apart shape lru (Freelist c) part on sort = absurd (true≢false (sym (and_parts (not (is_lru shape.kind)) (ltb c shape.cpus) on).0 ∙ ap not lru))
is_apart shape lru (Bucket b) (parts.Bucket part) on sort = bucket_apart shape b part
is_apart shape lru (Bucket b) (parts.Free part) on sort = absurd (omega (arith, sort))
is_apart shape lru (Bucket b) (parts.Local part) on sort = absurd (omega (arith, sort))
is_apart shape lru (Bucket b) (parts.Global part) on sort = absurd (omega (arith, sort))
is_apart shape lru (Bucket b) (parts.Own part) on sort = absurd (omega (arith, sort))
is_apart shape lru (CpuLru c) (parts.Bucket part) on sort = absurd (omega (arith, sort))
is_apart shape lru (CpuLru c) (parts.Free part) on sort = absurd (omega (arith, sort))
is_apart shape lru (CpuLru c) (parts.Local part) on sort = absurd (omega (arith, sort))
is_apart shape lru (CpuLru c) (parts.Global part) on sort = absurd (omega (arith, sort))
is_apart shape lru (CpuLru c) (parts.Own part) on sort = record { inner = λ is. no_bool is; outer = λ _. is_own shape.common refl }
  where
    is_own : (common : Bool) → shape.common ≡ common → 2 ≤ cond common 1 2
    is_own true is = absurd (no_own shape.common (is_lru shape.kind) (ltb c shape.cpus) is on)
    is_own false is = omega arith
is_apart shape lru (Local c) (parts.Bucket part) on sort = absurd (omega (arith, sort))
is_apart shape lru (Local c) (parts.Free part) on sort = absurd (omega (arith, sort))
is_apart shape lru (Local c) (parts.Local part) on sort = record { inner = λ is. no_bool is; outer = λ _. least shape.common }
  where
    least : (common : Bool) → 1 ≤ cond common 1 2
    least true = omega arith
    least false = omega arith
is_apart shape lru (Local c) (parts.Global part) on sort = absurd (omega (arith, sort))
is_apart shape lru (Local c) (parts.Own part) on sort = absurd (omega (arith, sort))
is_apart shape lru Global (parts.Bucket part) on sort = absurd (omega (arith, sort))
is_apart shape lru Global (parts.Free part) on sort = absurd (omega (arith, sort))
is_apart shape lru Global (parts.Local part) on sort = absurd (omega (arith, sort))
is_apart shape lru Global (parts.Global part) on sort = record { inner = λ _. subst (λ (b : Bool). cond b 1 2 < 2) (sym on) (omega arith); outer = λ is. no_bool is }
is_apart shape lru Global (parts.Own part) on sort = absurd (omega (arith, sort))

abbrev AreApart : ℕ → List Drawn → Type 0
AreApart rank [] = Unit {0}
AreApart rank (x ∷ later) = IsApart rank x.lock x.entry.part × AreApart rank later

are_apart : (shape : Shape) → is_lru shape.kind ≡ true → (turns : List Drawn) (contents : DomainId → Content) → AreOfTheirSorts contents → AreOnLocks shape turns → AllowAlong shape contents turns → AreApart (rank_for shape) turns
are_apart shape lru [] contents sorts on allow = tt
are_apart shape lru (x ∷ later) contents sorts on allow = (
  is_apart shape lru x.lock x.entry.part on.0 (part_sort shape x.entry.cpu x.entry.part x.lock contents sorts allow.0),
  are_apart shape lru later (after_turn shape x.entry.cpu contents (turn_of x)) (sorts_after shape x.entry.cpu contents (turn_of x) sorts) on.1 allow.1,
)

-- behind an inner turn, up to the one that it is for
inners_before : (rank : ℕ) (x t : Drawn) → is_inner x.entry.part ≡ true → rank < rank_of x.lock → encloses t x ≡ true → t.entry.cpu ≡ x.entry.cpu → t.entry.call ≡ x.entry.call → (later : List Drawn) → AreApart rank later → Stands t later
    → ((y : Drawn) → Stands y later → y.entry.cpu ≡ x.entry.cpu → x.entry.call ≤ y.entry.call) → CallsRise later → (hands : ℕ → ℕ → ℕ) (modes : ℕ → Mode) → (modes x.entry.cpu).probing ≡ true → CountsAlong hands modes later → InnerBefore x later
inners_before rank x t inner above around t_cpu t_call [] ranks at behind rise hands modes probing counts = tt
inners_before rank x t inner above around t_cpu t_call (w ∷ more) ranks at behind rise hands modes probing counts =
    by (encloses w x) refl
    (λ there still. inners_before rank x t inner above around t_cpu t_call more ranks.1 there (λ y its cpu. behind y (inr its) cpu) rise.1 (put hands w.entry.cpu (next_counts (hands w.entry.cpu) w.entry.part)) (put modes w.entry.cpu (mode_after w.entry.part)) still counts.1)
  where
    -- it is inner too, where it is of the call and doesn't enclose this one
    probe : encloses w x ≡ false → w.entry.cpu ≡ x.entry.cpu → w.entry.call ≡ x.entry.call → is_inner w.entry.part ≡ true
    probe outside cpu call = ⊎_elim
        (λ (is : is_inner w.entry.part ≡ true). is)
        (λ (last : closes w.entry.part ≡ true).
        absurd (true≢false (sym (encloses_from w x (record { inner_is = inner; lower = omega (arith, above, ranks.0.outer last); cpu = cpu; call = call })) ∙ outside)))
        (counts.0.behind (ap (λ (c : ℕ). (modes c).probing) cpu ∙ probing))

    -- the turn that it is for comes later
    for_later : encloses w x ≡ false → Stands t more
    for_later outside = ⊎_elim (λ (same : w ≡ t). absurd (true≢false (sym around ∙ ap (λ (d : Drawn). encloses d x) (sym same) ∙ outside))) (λ (there : Stands t more). there) at

    of_call : encloses w x ≡ false → w.entry.cpu ≡ x.entry.cpu → w.entry.call ≡ x.entry.call
    of_call outside cpu = omega (arith, behind w (inl refl) cpu, rise.0 t (for_later outside) (t_cpu ∙ sym cpu), t_call)

    by : (b : Bool) → encloses w x ≡ b → (Stands t more → (put modes w.entry.cpu (mode_after w.entry.part) x.entry.cpu).probing ≡ true → InnerBefore x more) → InnerBefore x (w ∷ more)
    by true is go = inl is
    by false is go = inr (
      λ cpu call. probe is cpu call,
      go (for_later is) (by_test x.entry.cpu w.entry.cpu (λ _. (put modes w.entry.cpu (mode_after w.entry.part) x.entry.cpu).probing ≡ true)
          (λ same. ap (λ (c : ℕ). (put modes w.entry.cpu (mode_after w.entry.part) c).probing) same ∙ ap (λ (m : Mode). m.probing) (put_here modes w.entry.cpu (mode_after w.entry.part)) ∙ probe is (sym same) (of_call is (sym same)))
          (λ other. ap (λ (m : Mode). m.probing) (put_else modes w.entry.cpu (mode_after w.entry.part) x.entry.cpu other) ∙ probing)),
    )

together : (rank : ℕ) (turns : List Drawn) → AreApart rank turns → CallsRise turns → (hands : ℕ → ℕ → ℕ) (modes : ℕ → Mode) → CountsAlong hands modes turns → InnersTogether turns
together rank [] ranks rise hands modes counts = tt
together rank (x ∷ later) ranks rise hands modes counts =
    let hands_then : ℕ → ℕ → ℕ = put hands x.entry.cpu (next_counts (hands x.entry.cpu) x.entry.part) in
    let modes_then : ℕ → Mode = put modes x.entry.cpu (mode_after x.entry.part) in (
      λ t at.
          let a : Around t x = around_each x later t at in
          inners_before rank x t a.inner_is (ranks.0.inner a.inner_is) (encloses_from t x a) a.cpu a.call later ranks.1 (stands_around x t later at) rise.0 rise.1 hands_then modes_then
          (ap (λ (m : Mode). m.probing) (put_here modes x.entry.cpu (mode_after x.entry.part)) ∙ a.inner_is) counts.1,
      together rank later ranks.1 rise.1 hands_then modes_then counts.1,
    )

pub lists_together : (shape : Shape) → is_lru shape.kind ≡ true → (turns : List Drawn) (contents : DomainId → Content) → AreOfTheirSorts contents → AreOnLocks shape turns → AllowAlong shape contents turns → CallsRise turns
    → (hands : ℕ → ℕ → ℕ) (modes : ℕ → Mode) → CountsAlong hands modes turns → InnersTogether turns
lists_together shape lru turns contents sorts on allow rise hands modes counts = together (rank_for shape) turns (are_apart shape lru turns contents sorts on allow) rise hands modes counts
