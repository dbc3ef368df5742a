-- Turns of a map whose CPUs share lists, by words: each step may be done where the turn's lock is held, what it takes out lies there, what
-- leaves the hand is in it, and what is brought home is carried. What is in hands and what is carried after it is known.
use Rattle.std.proofs.Common.{◌≡◌, inl, inr, ℕ, ◌<◌, ◌≤◌, List, [], ◌∷◌, ◌++◌, map, Option, None, Some, refl, ap, ◌∙◌, sym, subst, arith}
use Rattle.std.specs.Prelude.{IsTrue, IsFalse, option_to_list}
use Rattle.map_types.specs.declared.attr.Shape.{Shape}
use Rattle.map_types.specs.declared.kind.DomainId.{DomainId}
use Rattle.map_types.specs.declared.kind.DomainId.TheVariants.{Local, Bucket}
use Rattle.map_types.specs.ElementLists.{put, times}
use Rattle.map_types.proofs.RowLemmas.{by_test}
use Rattle.place_words.specs.declared.bucket_part.BucketPart.{BucketPart}
use Rattle.place_words.specs.declared.bucket_part.BucketPart.TheVariants.{Lookup, Update, Delete, Take, Next, First, Walk, Evict}
use Rattle.place_words.specs.declared.bucket_part.Seen.TheVariants.{Removed, Held}
use Rattle.place_words.specs.declared.history.Part.{Part}
use Rattle.place_words.specs.declared.history.Part.TheVariants as parts
use Rattle.place_words.specs.declared.home.Home.{Home}
use Rattle.place_words.specs.declared.home.Home.TheVariants as homes
use Rattle.place_words.specs.declared.list_part.LocalPart.TheVariants as local
use Rattle.place_words.specs.declared.list_part.Stolen.TheVariants as stolen
use Rattle.place_words.specs.declared.owner.Owner.{Owner}
use Rattle.place_words.specs.declared.owner.Owner.TheVariants as owners
use Rattle.place_words.specs.declared.step.Lists.{Lists}
use Rattle.place_words.specs.declared.step.Step.{Step}
use Rattle.place_words.specs.declared.step.Step.TheVariants as steps
use Rattle.place_words.specs.declared.visits.Look.{Look}
use Rattle.place_words.specs.declared.visits.Try.{Try}
use Rattle.place_words.specs.Interleaving.{Event, does, claims, bucket_steps, seen_in, to_hand}
use Rattle.place_words.specs.Locks.{lock_number}
use Rattle.place_words.specs.Shrinking.{freed}
use Rattle.place_words.proofs.ElementLemmas.{at_put, put_here, put_else}
use Rattle.core_runs.specs.Words.{Words, HoldsWord, LeavesWord, WordsAllow, words_after, RunsByWords}
use Rattle.step_check.specs.Ran.{words_over}
use Rattle.step_check.proofs.Begun.{over_both}
use Rattle.race_words.proofs.ListHands.{leaves, comes, next_counts, carries}
use Rattle.race_words.proofs.OwnRuns.{IsUnder, AreUnder, under_bucket}
use Rattle.race_words.proofs.OwnWords.{CountsIn, Stepped, Worded, word_of, given, settled, claimed, one_time, is_first, few_first, few_got, none_rest}
use Rattle.place_words.specs.State.{is_bucket}
use Rattle.place_words.specs.Steps.{IsFreeOrInHand}

-- What is carried

-- What CPUs carry has its home in their hands, and nothing else has.
pub record Carrying (shape : Shape) (loads : ℕ → Option ℕ) (w : Words) : Type 0 where
  pub carried : (c e : ℕ) → loads c ≡ Some e → (e < shape.elements) × (w.home e ≡ homes.Hand c)
  pub only : (c e : ℕ) → e < shape.elements → w.home e ≡ homes.Hand c → loads c ≡ Some e

-- the same homes are in hands
pub record SameLoads (w v : Words) : Type 0 where
  pub stays : (c e : ℕ) → w.home e ≡ homes.Hand c → v.home e ≡ homes.Hand c
  pub was : (c e : ℕ) → v.home e ≡ homes.Hand c → w.home e ≡ homes.Hand c

pub same_loads : (w v : Words) → v.home ≡ w.home → SameLoads w v
same_loads w v same = record {
  stays = λ c e is. ap (λ (f : ℕ → Home). f e) same ∙ is;
  was = λ c e is. sym (ap (λ (f : ℕ → Home). f e) same) ∙ is;
}

one_home : (c d : ℕ) → homes.Hand c ≡ homes.Hand d → c ≡ d
one_home c d same = cc

no_load : {A : Type 0} (e : ℕ) → (◌≡◌ {A = Option ℕ} None (Some e)) → A
no_load e is = absurd cc

one_load : (d e : ℕ) → (◌≡◌ {A = Option ℕ} (Some d) (Some e)) → d ≡ e
one_load d e is = cc

pub no_hand : {A : Type 0} (lock : DomainId) (c : ℕ) → homes.In lock ≡ homes.Hand c → A
no_hand lock c is = absurd cc

module _ {shape : Shape} {loads : ℕ → Option ℕ} {w v : Words} (cpu : ℕ) (carrying : Carrying shape loads w) where
  pub loads_stay : loads cpu ≡ None → SameLoads w v → Carrying shape (put loads cpu None) v
  loads_stay none same = record {
    carried = λ c e. at_put loads cpu None (λ d o. o ≡ Some e → (e < shape.elements) × (v.home e ≡ homes.Hand d)) c (λ is. no_load e is)
        (λ other is. let has = carrying.carried c e is in (has.0, same.stays c e has.1));
    only = λ c e real. at_put loads cpu None (λ d o. v.home e ≡ homes.Hand d → o ≡ Some e) c
        (λ home. sym none ∙ carrying.only cpu e real (same.was cpu e home)) (λ other home. carrying.only c e real (same.was c e home));
  }

  pub loads_taken : (x : ℕ) (lock : DomainId) → x < shape.elements → loads cpu ≡ None → w.home x ≡ homes.In lock → v.home ≡ put w.home x (homes.Hand cpu) → Carrying shape (put loads cpu (Some x)) v
  loads_taken x lock real_x none in_lock now = record {
    carried = λ c e. at_put loads cpu (Some x) (λ d o. o ≡ Some e → (e < shape.elements) × (v.home e ≡ homes.Hand d)) c
        (λ is.
        let same : x ≡ e = one_load x e is in
        subst (λ (y : ℕ). (y < shape.elements) × (v.home y ≡ homes.Hand cpu)) same (real_x, ap (λ (f : ℕ → Home). f x) now ∙ put_here w.home x (homes.Hand cpu)))
        (λ other is.
        let has = carrying.carried c e is in
        (has.0, ap (λ (f : ℕ → Home). f e) now ∙ put_else w.home x (homes.Hand cpu) e (λ same. no_hand lock c (sym in_lock ∙ sym (ap w.home same) ∙ has.1)) ∙ has.1));
    only = λ c e real home. by_test e x (λ _. put loads cpu (Some x) c ≡ Some e)
        (λ same.
        let mine : homes.Hand cpu ≡ homes.Hand c = sym (put_here w.home x (homes.Hand cpu)) ∙ sym (ap (put w.home x (homes.Hand cpu)) same) ∙ sym (ap (λ (f : ℕ → Home). f e) now) ∙ home in
        ap (put loads cpu (Some x)) (sym (one_home cpu c mine)) ∙ put_here loads cpu (Some x) ∙ ap Some (sym same))
        (λ other.
        let was : w.home e ≡ homes.Hand c = sym (put_else w.home x (homes.Hand cpu) e other) ∙ sym (ap (λ (f : ℕ → Home). f e) now) ∙ home in
        at_put loads cpu (Some x) (λ d o. loads d ≡ Some e → o ≡ Some e) c (λ is. no_load e (sym none ∙ is)) (λ _ is. is) (carrying.only c e real was));
  }

  pub loads_home : (x : ℕ) (lock : DomainId) → loads cpu ≡ Some x → v.home ≡ put w.home x (homes.In lock) → Carrying shape (put loads cpu None) v
  loads_home x lock has_x now = record {
    carried = λ c e. at_put loads cpu None (λ d o. o ≡ Some e → (e < shape.elements) × (v.home e ≡ homes.Hand d)) c (λ is. no_load e is)
        (λ other is.
        let has = carrying.carried c e is in
        (has.0, ap (λ (f : ℕ → Home). f e) now ∙ put_else w.home x (homes.In lock) e (λ same. other (one_home c cpu (sym has.1 ∙ ap w.home same ∙ (carrying.carried cpu x has_x).1))) ∙ has.1));
    only = λ c e real home. by_test e x (λ _. put loads cpu None c ≡ Some e)
        (λ same. no_hand lock c (sym (put_here w.home x (homes.In lock)) ∙ sym (ap (put w.home x (homes.In lock)) same) ∙ sym (ap (λ (f : ℕ → Home). f e) now) ∙ home))
        (λ other.
        let was : w.home e ≡ homes.Hand c = sym (put_else w.home x (homes.In lock) e other) ∙ sym (ap (λ (f : ℕ → Home). f e) now) ∙ home in
        at_put loads cpu None (λ d o. loads d ≡ Some e → o ≡ Some e) c (λ is. absurd (other (one_load e x (sym is ∙ has_x)))) (λ _ is. is) (carrying.only c e real was));
  }

-- A turn's word

pub record SharedWorded (shape : Shape) (cpu : ℕ) (hands : ℕ → ℕ → ℕ) (loads : ℕ → Option ℕ) (part : Part) (w : Words) (events : List Event) : Type 0 where
  pub runs : RunsByWords shape w events
  pub counts : CountsIn shape (put hands cpu (next_counts (hands cpu) part)) (words_over shape w events)
  pub carrying : Carrying shape (put loads cpu (carries part)) (words_over shape w events)

under_home : (shape : Shape) (k : ℕ) (step : Step) (w : Words) → IsUnder shape k step → (words_after shape w step).home ≡ w.home
unfolding words_after
under_home shape k (steps.Take cpu lock) w is = refl
under_home shape k (steps.Give cpu lock lists) w is = refl
under_home shape k (steps.Claim cpu e lock) w is = refl
under_home shape k (steps.Settle cpu e lock) w is = refl
under_home shape k (steps.Attach cpu e bucket) w is = refl
under_home shape k (steps.Detach cpu e bucket) w is = refl
under_home shape k (steps.Rehome cpu e to) w is = absurd is
under_home shape k (steps.Mark cpu e bucket) w is = refl
under_home shape k (steps.Clear cpu e) w is = refl
under_home shape k (steps.Glance cpu e) w is = refl

under_homes : (shape : Shape) (k : ℕ) (xs : List Step) (w : Words) → AreUnder shape k xs → (words_over shape w (map does xs)).home ≡ w.home
unfolding words_over
under_homes shape k [] w are = refl
under_homes shape k (step ∷ xs) w are = under_homes shape k xs (words_after shape w step) are.1 ∙ under_home shape k step w are.0

-- what is seen changes nothing
pub seen_words : (shape : Shape) (part : BucketPart) (u : Words) (events : List Event) → words_over shape u (seen_in part ++ events) ≡ words_over shape u events
unfolding words_over
seen_words shape (Lookup side key got) u events = refl
seen_words shape (Update side flags key value offer result) u events = refl
seen_words shape (Delete key removed) u events = refl
seen_words shape (Take key removed) u events = refl
seen_words shape (Next key found) u events = refl
seen_words shape (First key) u events = refl
seen_words shape (Walk remove room result) u events = refl
seen_words shape (Evict e Removed) u events = refl
seen_words shape (Evict e (Held holder)) u events = refl

pub give_home : (shape : Shape) (cpu : ℕ) (lock : DomainId) (lists : Lists) (xs : List Step) (w : Words) → (words_over shape w (word_of cpu lock lists xs [])).home ≡ (words_over shape w (map does xs)).home
unfolding words_over words_after
give_home shape cpu lock lists xs w = ap (λ (u : Words). u.home) (over_both shape (map does xs) (does (steps.Give cpu lock lists) ∷ []) w)

bucket_home : (shape : Shape) (cpu b : ℕ) (lists : Lists) (part : BucketPart) (w : Words) → (words_over shape w (word_of cpu (Bucket b) lists (bucket_steps shape cpu b part) (seen_in part))).home ≡ w.home
unfolding words_over words_after
bucket_home shape cpu b lists part w =
    let xs : List Event = map does (bucket_steps shape cpu b part) in
    let give : List Event = does (steps.Give cpu (Bucket b) lists) ∷ [] in
    ap (λ (u : Words). u.home) (over_both shape xs (seen_in part ++ give) w ∙ seen_words shape part (words_over shape w xs) give)
    ∙ under_homes shape (lock_number shape (Bucket b)) (bucket_steps shape cpu b part) w (under_bucket shape cpu b part)

module _ {shape : Shape} {cpu : ℕ} {hands : ℕ → ℕ → ℕ} {loads : ℕ → Option ℕ} {w : Words} (carrying : Carrying shape loads w) where
  -- a turn that leaves homes as they were
  pub kept_worded : (part : Part) (events : List Event) → loads cpu ≡ None → carries part ≡ None → Worded shape cpu hands part w events → SameLoads w (words_over shape w events) → SharedWorded shape cpu hands loads part w events
  kept_worded part events none moves worded same = record {
    runs = worded.runs;
    counts = worded.counts;
    carrying = subst (λ (o : Option ℕ). Carrying shape (put loads cpu o) (words_over shape w events)) (sym moves) (loads_stay cpu carrying none same);
  }

  pub bucket_shared : (b : ℕ) (lists : Lists) (part : BucketPart) → loads cpu ≡ None → Worded shape cpu hands (parts.Bucket part) w (word_of cpu (Bucket b) lists (bucket_steps shape cpu b part) (seen_in part))
      → SharedWorded shape cpu hands loads (parts.Bucket part) w (word_of cpu (Bucket b) lists (bucket_steps shape cpu b part) (seen_in part))
  bucket_shared b lists part none worded = kept_worded (parts.Bucket part) _ none refl worded (same_loads w _ (bucket_home shape cpu b lists part w))

  module _ (lock : DomainId) (lists : Lists) (holds : HoldsWord shape w cpu lock) (counts : CountsIn shape hands w) where
    held_over : (xs : List Step) → (words_over shape w (map does xs)).holder ≡ w.holder → HoldsWord shape (words_over shape w (map does xs)) cpu lock
    held_over xs same = record { is_cpu = holds.is_cpu; is_lock = holds.is_lock; held = ap (λ (f : ℕ → Option ℕ). f (lock_number shape lock)) same ∙ holds.held }

    -- what is free there is claimed
    pub claims_shared : (part : Part) (got : Option ℕ) → comes part ≡ option_to_list got → leaves part ≡ [] → loads cpu ≡ None → carries part ≡ None
        → ((e : ℕ) → 1 ≤ times e (option_to_list got) → (e < shape.elements) × (w.owner e ≡ owners.Free)) → SharedWorded shape cpu hands loads part w (word_of cpu lock lists (claims cpu lock got) [])
    claims_shared part got in_ out none moves free =
        let xs : List Step = claims cpu lock got in
        let stepped : Stepped shape w (option_to_list got) (owners.Hand cpu) xs = claimed lock got w holds (λ e some. (free e some).0) in
        kept_worded part (word_of cpu lock lists xs []) none moves
        (given counts lock lists part xs stepped.runs (held_over xs stepped.holder)
        (record {
          in_hand = λ e some. let there = subst (λ (l : List ℕ). 1 ≤ times e l) in_ some in ((free e there).0, stepped.within e there);
          from = λ e some. inl (inl (free e (subst (λ (l : List ℕ). 1 ≤ times e l) in_ some)).1);
          few = λ e. omega (arith, few_got got e, ap (times e) in_);
          stay = λ e no_come _. stepped.without e (sym (ap (times e) in_) ∙ no_come);
        })
        (λ e. omega (arith, ap (times e) out)))
        (same_loads w _ (give_home shape cpu lock lists xs w ∙ stepped.home))

    -- what is in hand is settled
    pub settle_shared : (part : Part) (x : ℕ) → comes part ≡ [] → leaves part ≡ x ∷ [] → loads cpu ≡ None → carries part ≡ None → IsFalse (is_bucket lock) → w.home x ≡ homes.In lock → ((e : ℕ) → times e (leaves part) ≤ hands cpu e)
        → SharedWorded shape cpu hands loads part w (word_of cpu lock lists (steps.Settle cpu x lock ∷ []) [])
    settle_shared part x in_ out none moves list home may =
        let xs : List Step = steps.Settle cpu x lock ∷ [] in
        let has = counts.held cpu x (omega (arith, may x, ap (times x) out, one_time x)) in
        let stepped : Stepped shape w (x ∷ []) owners.Free xs =
        settled lock (x ∷ []) w holds list (λ e some. subst (λ (y : ℕ). (y < shape.elements) × (w.owner y ≡ owners.Hand cpu) × (w.home y ≡ homes.In lock)) (sym (is_first e x some)) (has.0, has.1, home)) (λ e. few_first e x) in
        kept_worded part (word_of cpu lock lists xs []) none moves
        (given counts lock lists part xs stepped.runs (held_over xs stepped.holder)
        (record {
          in_hand = λ e some. absurd (omega (arith, some, ap (times e) in_));
          from = λ e some. absurd (omega (arith, some, ap (times e) in_));
          few = λ e. omega (arith, ap (times e) in_);
          stay = λ e _ no_leave. stepped.without e (sym (ap (times e) out) ∙ no_leave);
        })
        may)
        (same_loads w _ (give_home shape cpu lock lists xs w ∙ stepped.home))

    pub quiet_shared : (part : Part) → comes part ≡ [] → leaves part ≡ [] → loads cpu ≡ None → carries part ≡ None → SharedWorded shape cpu hands loads part w (word_of cpu lock lists [] [])
    unfolding RunsByWords words_over
    quiet_shared part in_ out none moves =
        kept_worded part (word_of cpu lock lists [] []) none moves
        (given counts lock lists part [] tt holds
        (record {
          in_hand = λ e some. absurd (omega (arith, some, ap (times e) in_));
          from = λ e some. absurd (omega (arith, some, ap (times e) in_));
          few = λ e. omega (arith, ap (times e) in_);
          stay = λ e _ _. refl;
        })
        (λ e. omega (arith, ap (times e) out)))
        (same_loads w _ (give_home shape cpu lock lists [] w))

    -- A free element is stolen.
    pub steal_free : IsTrue shape.common → (x : ℕ) (first : List Look) (second : List Try) → freed first second ≡ [] → loads cpu ≡ None → x < shape.elements → w.owner x ≡ owners.Free → w.home x ≡ homes.In lock
        → SharedWorded shape cpu hands loads (parts.Local (local.Steal (stolen.Free x) first second)) w (word_of cpu lock lists (steps.Claim cpu x lock ∷ to_hand cpu x ∷ []) [])
    unfolding RunsByWords WordsAllow words_over words_after
    steal_free common x first second out none real free home =
        let part : Part = parts.Local (local.Steal (stolen.Free x) first second) in
        let xs : List Step = steps.Claim cpu x lock ∷ to_hand cpu x ∷ [] in
        let worded : Worded shape cpu hands part w (word_of cpu lock lists xs []) =
        given counts lock lists part xs (
          (holds, real),
          (
            record {
              common = common;
              is_cpu = holds.is_cpu;
              real = real;
              from_there = subst (LeavesWord shape (words_after shape w (steps.Claim cpu x lock)) cpu) (sym home) (record { is_cpu = holds.is_cpu; is_lock = holds.is_lock; held = holds.held });
              to_there = (refl, put_here w.owner x (owners.Hand cpu));
            },
            tt,
          ),
        )
        (record { is_cpu = holds.is_cpu; is_lock = holds.is_lock; held = holds.held })
        (record {
          in_hand = λ e some. subst (λ (y : ℕ). (y < shape.elements) × (put w.owner x (owners.Hand cpu) y ≡ owners.Hand cpu)) (sym (is_first e x some)) (real, put_here w.owner x (owners.Hand cpu));
          from = λ e some. inl (inl (ap w.owner (is_first e x some) ∙ free));
          few = λ e. few_first e x;
          stay = λ e no_come _. put_else w.owner x (owners.Hand cpu) e (none_rest x e [] no_come).0;
        })
        (λ e. omega (arith, ap (times e) out)) in
        record { runs = worded.runs; counts = worded.counts; carrying = loads_taken cpu carrying x lock real none home (give_home shape cpu lock lists xs w) }

    -- A pending element that probes removed is stolen.
    pub steal_pending : IsTrue shape.common → (x : ℕ) (first : List Look) (second : List Try) → freed first second ≡ x ∷ [] → loads cpu ≡ None → w.home x ≡ homes.In lock → ((e : ℕ) → times e (freed first second) ≤ hands cpu e)
        → SharedWorded shape cpu hands loads (parts.Local (local.Steal (stolen.Pending x) first second)) w (word_of cpu lock lists (to_hand cpu x ∷ []) [])
    unfolding RunsByWords WordsAllow words_over words_after
    steal_pending common x first second out none home may =
        let part : Part = parts.Local (local.Steal (stolen.Pending x) first second) in
        let xs : List Step = to_hand cpu x ∷ [] in
        let has = counts.held cpu x (omega (arith, may x, ap (times x) out, one_time x)) in
        let worded : Worded shape cpu hands part w (word_of cpu lock lists xs []) =
        given counts lock lists part xs (
          record { common = common; is_cpu = holds.is_cpu; real = has.0; from_there = subst (LeavesWord shape w cpu) (sym home) holds; to_there = (refl, has.1) },
          tt,
        )
        (record { is_cpu = holds.is_cpu; is_lock = holds.is_lock; held = holds.held })
        (record {
          in_hand = λ e some. subst (λ (y : ℕ). (y < shape.elements) × (w.owner y ≡ owners.Hand cpu)) (sym (is_first e x some)) has;
          from = λ e some. inr (omega (arith, some, ap (times e) out));
          few = λ e. few_first e x;
          stay = λ e _ _. refl;
        })
        may in
        record { runs = worded.runs; counts = worded.counts; carrying = loads_taken cpu carrying x lock has.0 none home (give_home shape cpu lock lists xs w) }

  -- What was stolen is brought home.
  pub add_shared : (lists : Lists) → HoldsWord shape w cpu (Local cpu) → CountsIn shape hands w → IsTrue shape.common → (hash x cursor : ℕ) → loads cpu ≡ Some x → w.owner x ≡ owners.Hand cpu
      → SharedWorded shape cpu hands loads (parts.Local (local.Add hash x cursor)) w (word_of cpu (Local cpu) lists (steps.Rehome cpu x (homes.In (Local cpu)) ∷ []) [])
  unfolding RunsByWords WordsAllow words_over words_after
  add_shared lists holds counts common hash x cursor has_x mine =
      let part : Part = parts.Local (local.Add hash x cursor) in
      let xs : List Step = steps.Rehome cpu x (homes.In (Local cpu)) ∷ [] in
      let has = carrying.carried cpu x has_x in
      let worded : Worded shape cpu hands part w (word_of cpu (Local cpu) lists xs []) =
      given counts (Local cpu) lists part xs (
        record { common = common; is_cpu = holds.is_cpu; real = has.0; from_there = subst (LeavesWord shape w cpu) (sym has.1) refl; to_there = (holds, subst (λ (o : Owner). IsFreeOrInHand cpu o) (sym mine) refl) },
        tt,
      )
      (record { is_cpu = holds.is_cpu; is_lock = holds.is_lock; held = holds.held })
      (record {
        in_hand = λ e some. absurd (omega (arith, some));
        from = λ e some. absurd (omega (arith, some));
        few = λ e. omega arith;
        stay = λ e _ _. refl;
      })
      (λ e. omega arith) in
      record { runs = worded.runs; counts = worded.counts; carrying = loads_home cpu carrying x (Local cpu) has_x (give_home shape cpu (Local cpu) lists xs w) }
