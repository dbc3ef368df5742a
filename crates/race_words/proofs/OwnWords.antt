-- Turns of a map whose CPUs have lists of their own, by words: each step may be done where the turn's lock is held, what it takes out lies there,
-- what leaves the hand is in it, and what a probe sees is so. What is in hands after it is known.
use Rattle.std.proofs.Common.{◌≡◌, ◌≢◌, ◌⊎◌, inl, inr, ℕ, ◌<◌, ◌≤◌, Bool, true, List, [], ◌∷◌, ◌++◌, map, Option, None, Some, refl, ap, ◌∙◌, sym, subst, ⊎_elim, arith}
use Rattle.std.specs.Prelude.{IsFalse, option_to_list}
use Rattle.std.proofs.lemmas.Bool.{cases_lt}
use Rattle.std.proofs.lemmas.List.{map-append}
use Rattle.map_types.specs.declared.attr.Shape.{Shape}
use Rattle.map_types.specs.declared.kind.DomainId.{DomainId}
use Rattle.map_types.specs.declared.kind.DomainId.TheVariants.{Bucket, CpuLru}
use Rattle.map_types.specs.Kind.{is_lru}
use Rattle.map_types.specs.ElementLists.{put, times}
use Rattle.map_types.proofs.RowLemmas.{by_test}
use Rattle.place_words.specs.declared.bucket_part.BucketPart.{BucketPart}
use Rattle.place_words.specs.declared.bucket_part.BucketPart.TheVariants.{Lookup, Update, Delete, Take, First, Walk, Evict}
use Rattle.place_words.specs.declared.bucket_part.BucketPart.TheVariants as bucket_parts
use Rattle.place_words.specs.declared.bucket_part.Put.TheVariants as puts
use Rattle.place_words.specs.declared.bucket_part.Seen.TheVariants.{Removed, Held}
use Rattle.place_words.specs.declared.history.Part.{Part}
use Rattle.place_words.specs.declared.history.Part.TheVariants as parts
use Rattle.place_words.specs.declared.home.Home.TheVariants as homes
use Rattle.place_words.specs.declared.list_part.OwnPart.TheVariants as own
use Rattle.place_words.specs.declared.owner.Owner.{Owner}
use Rattle.place_words.specs.declared.owner.Owner.TheVariants as owners
use Rattle.place_words.specs.declared.step.Lists.{Lists}
use Rattle.place_words.specs.declared.step.Step.{Step}
use Rattle.place_words.specs.declared.step.Step.TheVariants as steps
use Rattle.place_words.specs.Interleaving.{Event, does, sees, detaches, leave_steps, claims, bucket_steps, own_steps, seen_in}
use Rattle.place_words.specs.Locks.{lock_number}
use Rattle.place_words.specs.Moves.{taken_from_bucket, brought_to_bucket}
use Rattle.place_words.specs.Steps.{IsLockHome}
use Rattle.place_words.specs.Takings.{freed_by}
use Rattle.place_words.proofs.ElementLemmas.{at_put, put_here, put_else, times_cons_same, times_cons_other}
use Rattle.core_runs.specs.Words.{Words, HoldsWord, WordsAllow, words_after, RunsByWords}
use Rattle.step_check.specs.Ran.{words_over}
use Rattle.step_check.proofs.Begun.{over_both}
use Rattle.step_check.proofs.Judging.{words_both}
use Rattle.race_words.proofs.ListHands.{leaves, comes, next_counts}
use Rattle.place_words.specs.State.{is_bucket}
use Rattle.map_types.specs.declared.kind.Side.{Side}
use Rattle.place_words.specs.declared.visits.Visit.{Visit}
use Rattle.place_words.specs.declared.visits.ShrinkNote.{ShrinkNote}

-- Hands

-- what CPUs have in hand is in their hands, each once
pub record CountsIn (shape : Shape) (hands : ℕ → ℕ → ℕ) (w : Words) : Type 0 where
  pub held : (c e : ℕ) → 1 ≤ hands c e → (e < shape.elements) × (w.owner e ≡ owners.Hand c)
  pub once : (c e : ℕ) → hands c e ≤ 1

one_hand : (c d : ℕ) → owners.Hand c ≡ owners.Hand d → c ≡ d
one_hand c d same = cc

-- what an element comes from
abbrev pub IsOut : Owner → Type 0
IsOut o = (o ≡ owners.Free) ⊎ ((b : ℕ) × (o ≡ owners.Bucket b))

out_no_hand : (o : Owner) (c : ℕ) → IsOut o → o ≡ owners.Hand c → ⊥
out_no_hand o c (inl free) is = absurd (let both : owners.Free ≡ owners.Hand c = sym free ∙ is in cc)
out_no_hand o c (inr there) is = absurd (let both : owners.Bucket there.0 ≡ owners.Hand c = sym there.1 ∙ is in cc)

-- What a part makes of owners: what comes is in the CPU's hand, and what neither leaves nor comes stays.
pub record Moves (shape : Shape) (cpu : ℕ) (part : Part) (w v : Words) : Type 0 where
  pub in_hand : (e : ℕ) → 1 ≤ times e (comes part) → (e < shape.elements) × (v.owner e ≡ owners.Hand cpu)
  pub from : (e : ℕ) → 1 ≤ times e (comes part) → IsOut (w.owner e) ⊎ (1 ≤ times e (leaves part))
  pub few : (e : ℕ) → times e (comes part) ≤ 1
  pub stay : (e : ℕ) → times e (comes part) ≡ 0 → times e (leaves part) ≡ 0 → v.owner e ≡ w.owner e

module _ {shape : Shape} {cpu : ℕ} {part : Part} {w v : Words} {hands : ℕ → ℕ → ℕ} (moves : Moves shape cpu part w v) (counts : CountsIn shape hands w) (may : (e : ℕ) → times e (leaves part) ≤ hands cpu e) where
  abbrev next : ℕ → ℕ
  next = next_counts (hands cpu) part

  -- what comes wasn't in the hand, but for what leaves it
  not_held : (e : ℕ) → 1 ≤ times e (comes part) → hands cpu e ≤ times e (leaves part)
  not_held e coming = ⊎_elim
      (λ (more : times e (leaves part) < hands cpu e).
      let has = counts.held cpu e (omega (arith, more)) in
      ⊎_elim
      (λ (out : IsOut (w.owner e)). absurd (out_no_hand (w.owner e) cpu out has.1))
      (λ (leaving : 1 ≤ times e (leaves part)). absurd (omega (arith, more, leaving, counts.once cpu e)))
      (moves.from e coming))
      (λ (least : hands cpu e ≤ times e (leaves part)). least)
      (cases_lt (times e (leaves part)) (hands cpu e))

  mine : (e : ℕ) → 1 ≤ next e → (e < shape.elements) × (v.owner e ≡ owners.Hand cpu)
  mine e some = ⊎_elim
      (λ (none : times e (comes part) < 1).
      let has = counts.held cpu e (omega (arith, some, none)) in
      (has.0, moves.stay e (omega (arith, none)) (omega (arith, some, none, counts.once cpu e)) ∙ has.1))
      (λ (coming : 1 ≤ times e (comes part)). moves.in_hand e coming)
      (cases_lt (times e (comes part)) 1)

  others : (c : ℕ) → c ≢ cpu → (e : ℕ) → 1 ≤ hands c e → (e < shape.elements) × (v.owner e ≡ owners.Hand c)
  others c other e some =
      let has = counts.held c e some in
      let stays : times e (leaves part) < 1 = ⊎_elim
      (λ (none : times e (leaves part) < 1). none)
      (λ (leaving : 1 ≤ times e (leaves part)). absurd (other (one_hand c cpu (sym has.1 ∙ (counts.held cpu e (omega (arith, leaving, may e))).1))))
      (cases_lt (times e (leaves part)) 1) in
      let keeps : times e (comes part) < 1 = ⊎_elim
      (λ (none : times e (comes part) < 1). none)
      (λ (coming : 1 ≤ times e (comes part)). ⊎_elim
      (λ (out : IsOut (w.owner e)). absurd (out_no_hand (w.owner e) c out has.1))
      (λ (leaving : 1 ≤ times e (leaves part)). absurd (omega (arith, stays, leaving)))
      (moves.from e coming))
      (cases_lt (times e (comes part)) 1) in
      (has.0, moves.stay e (omega (arith, keeps)) (omega (arith, stays)) ∙ has.1)

  once : (e : ℕ) → next e ≤ 1
  once e = ⊎_elim
      (λ (none : times e (comes part) < 1). omega (arith, none, counts.once cpu e))
      (λ (coming : 1 ≤ times e (comes part)). omega (arith, not_held e coming, moves.few e))
      (cases_lt (times e (comes part)) 1)

  pub counts_after : CountsIn shape (put hands cpu (next_counts (hands cpu) part)) v
  counts_after = record {
    held = λ c e. at_put hands cpu next (λ d g. 1 ≤ g e → (e < shape.elements) × (v.owner e ≡ owners.Hand d)) c (λ some. mine e some) (λ other some. others c other e some);
    once = λ c e. at_put hands cpu next (λ d g. g e ≤ 1) c (once e) (λ _. counts.once c e);
  }

-- Steps

-- What some steps make of words: holders and homes stay, these elements have this owner, and others keep theirs.
pub record Stepped (shape : Shape) (w : Words) (es : List ℕ) (o : Owner) (xs : List Step) : Type 0 where
  pub runs : RunsByWords shape w (map does xs)
  pub holder : (words_over shape w (map does xs)).holder ≡ w.holder
  pub home : (words_over shape w (map does xs)).home ≡ w.home
  pub within : (e : ℕ) → 1 ≤ times e es → (words_over shape w (map does xs)).owner e ≡ o
  pub without : (e : ℕ) → times e es ≡ 0 → (words_over shape w (map does xs)).owner e ≡ w.owner e

pub not_first : (x e : ℕ) (es : List ℕ) → times x (x ∷ es) ≤ 1 → 1 ≤ times e es → e ≢ x
not_first x e es few some same = omega (arith, few, times_cons_same x es, ap (λ (y : ℕ). times y es) same, some)

pub rest_few : (x : ℕ) (es : List ℕ) → ((e : ℕ) → times e (x ∷ es) ≤ 1) → (e : ℕ) → times e es ≤ 1
rest_few x es few e = by_test e x (λ _. times e es ≤ 1)
    (λ same. subst (λ (y : ℕ). times y es ≤ 1) (sym same) (omega (arith, few x, times_cons_same x es)))
    (λ other. omega (arith, few e, times_cons_other e x es other))

pub rest_some : (x e : ℕ) (es : List ℕ) → 1 ≤ times e es → 1 ≤ times e (x ∷ es)
rest_some x e es some = by_test e x (λ _. 1 ≤ times e (x ∷ es))
    (λ same. subst (λ (y : ℕ). 1 ≤ times y (x ∷ es)) (sym same) (omega (arith, times_cons_same x es)))
    (λ other. omega (arith, some, times_cons_other e x es other))

pub none_rest : (x e : ℕ) (es : List ℕ) → times e (x ∷ es) ≡ 0 → (e ≢ x) × (times e es ≡ 0)
none_rest x e es none = by_test e x (λ _. (e ≢ x) × (times e es ≡ 0))
    (λ same. absurd (omega (arith, none, ap (λ (y : ℕ). times y (x ∷ es)) same, times_cons_same x es)))
    (λ other. (other, omega (arith, none, times_cons_other e x es other)))

module _ {shape : Shape} where
  -- one step that gives an element an owner, before others
  pub first_step : (w : Words) (step : Step) (x : ℕ) (es : List ℕ) (o : Owner) (xs : List Step) → WordsAllow shape w step → (words_after shape w step).holder ≡ w.holder → (words_after shape w step).home ≡ w.home
      → (words_after shape w step).owner ≡ put w.owner x o → Stepped shape (words_after shape w step) es o xs → Stepped shape w (x ∷ es) o (step ∷ xs)
  unfolding RunsByWords words_over
  first_step w step x es o xs can holder home owner rest = record {
    runs = (can, rest.runs);
    holder = rest.holder ∙ holder;
    home = rest.home ∙ home;
    within = λ e some. ⊎_elim
        (λ (none : times e es < 1). rest.without e (omega (arith, none)) ∙ ap (λ (f : ℕ → Owner). f e) owner
        ∙ by_test e x (λ _. put w.owner x o e ≡ o) (λ same. ap (put w.owner x o) same ∙ put_here w.owner x o) (λ other. absurd (omega (arith, some, none, times_cons_other e x es other))))
        (λ (there : 1 ≤ times e es). rest.within e there)
        (cases_lt (times e es) 1);
    without = λ e none.
        let parts = none_rest x e es none in
        rest.without e parts.1 ∙ ap (λ (f : ℕ → Owner). f e) owner ∙ put_else w.owner x o e parts.0;
  }

  pub no_step : (w : Words) (o : Owner) → Stepped shape w [] o []
  unfolding RunsByWords words_over
  no_step w o = record { runs = tt; holder = refl; home = refl; within = λ e some. absurd (omega (arith, some)); without = λ e none. refl }

module _ {shape : Shape} {cpu : ℕ} where
  detached : (b : ℕ) (es : List ℕ) (w : Words) → HoldsWord shape w cpu (Bucket b) → ((e : ℕ) → 1 ≤ times e es → (e < shape.elements) × (w.owner e ≡ owners.Bucket b)) → ((e : ℕ) → times e es ≤ 1)
      → Stepped shape w es (owners.Hand cpu) (detaches cpu b es)
  unfolding WordsAllow words_after
  detached b [] w holds inside few = no_step w (owners.Hand cpu)
  detached b (x ∷ es) w holds inside few =
      let has = inside x (omega (arith, times_cons_same x es)) in
      first_step w (steps.Detach cpu x b) x es (owners.Hand cpu) (detaches cpu b es) (record { holds = holds; real = has.0; inside = has.1 }) refl refl refl
      (detached b es (words_after shape w (steps.Detach cpu x b)) (record { is_cpu = holds.is_cpu; is_lock = holds.is_lock; held = holds.held })
      (λ e some. let was = inside e (rest_some x e es some) in (was.0, put_else w.owner x (owners.Hand cpu) e (not_first x e es (few x) some) ∙ was.1))
      (rest_few x es few))

  pub settled : (lock : DomainId) (es : List ℕ) (w : Words) → HoldsWord shape w cpu lock → IsFalse (is_bucket lock)
      → ((e : ℕ) → 1 ≤ times e es → (e < shape.elements) × (w.owner e ≡ owners.Hand cpu) × (w.home e ≡ homes.In lock)) → ((e : ℕ) → times e es ≤ 1)
      → Stepped shape w es owners.Free (map (λ e. steps.Settle cpu e lock) es)
  unfolding WordsAllow words_after
  settled lock [] w holds list inside few = no_step w owners.Free
  settled lock (x ∷ es) w holds list inside few =
      let has = inside x (omega (arith, times_cons_same x es)) in
      first_step w (steps.Settle cpu x lock) x es owners.Free (map (λ e. steps.Settle cpu e lock) es) (record { holds = holds; has_free_list = list; real = has.0; in_hand = has.1; listed = λ _. has.2 }) refl refl refl
      (settled lock es (words_after shape w (steps.Settle cpu x lock)) (record { is_cpu = holds.is_cpu; is_lock = holds.is_lock; held = holds.held }) list
      (λ e some. let was = inside e (rest_some x e es some) in (was.0, put_else w.owner x owners.Free e (not_first x e es (few x) some) ∙ was.1, was.2))
      (rest_few x es few))

-- A turn's block once its locks are taken

abbrev pub word_of : ℕ → DomainId → Lists → List Step → List Event → List Event
word_of cpu lock lists xs seen = map does xs ++ (seen ++ does (steps.Give cpu lock lists) ∷ [])

-- it runs by words, and leaves this in hands
pub record Worded (shape : Shape) (cpu : ℕ) (hands : ℕ → ℕ → ℕ) (part : Part) (w : Words) (events : List Event) : Type 0 where
  pub runs : RunsByWords shape w events
  pub counts : CountsIn shape (put hands cpu (next_counts (hands cpu) part)) (words_over shape w events)

module _ {shape : Shape} {cpu : ℕ} {hands : ℕ → ℕ → ℕ} {w : Words} (counts : CountsIn shape hands w) where
  -- the give, after steps and with nothing seen
  pub given : (lock : DomainId) (lists : Lists) (part : Part) (xs : List Step) → RunsByWords shape w (map does xs) → HoldsWord shape (words_over shape w (map does xs)) cpu lock → Moves shape cpu part w (words_over shape w (map does xs))
      → ((e : ℕ) → times e (leaves part) ≤ hands cpu e) → Worded shape cpu hands part w (word_of cpu lock lists xs [])
  unfolding RunsByWords WordsAllow words_over words_after
  given lock lists part xs runs holds moves may =
      let give : List Event = does (steps.Give cpu lock lists) ∷ [] in
      let after = counts_after moves counts may in
      record {
        runs = words_both shape (map does xs) give w runs (holds, tt);
        counts = subst (CountsIn shape (put hands cpu (next_counts (hands cpu) part))) (sym (over_both shape (map does xs) give w)) (record { held = after.held; once = after.once });
      }

-- a probe that sees an element in a hand
abbrev pub SeesInBucket : Words → BucketPart → Type 0
SeesInBucket w (Lookup side key got) = Unit {0}
SeesInBucket w (Update side flags key value offer result) = Unit {0}
SeesInBucket w (Delete key removed) = Unit {0}
SeesInBucket w (Take key removed) = Unit {0}
SeesInBucket w (bucket_parts.Next key found) = Unit {0}
SeesInBucket w (First key) = Unit {0}
SeesInBucket w (Walk remove room result) = Unit {0}
SeesInBucket w (Evict e Removed) = Unit {0}
SeesInBucket w (Evict e (Held holder)) = w.owner e ≡ owners.Hand holder

abbrev pub SeesHeld : Words → Part → Type 0
SeesHeld w (parts.Bucket part) = SeesInBucket w part
SeesHeld w (parts.Free part) = Unit {0}
SeesHeld w (parts.Local part) = Unit {0}
SeesHeld w (parts.Global part) = Unit {0}
SeesHeld w (parts.Own part) = Unit {0}

pub one_time : (e : ℕ) → times e (e ∷ []) ≡ 1
one_time e = times_cons_same e []

pub is_first : (e x : ℕ) → 1 ≤ times e (x ∷ []) → e ≡ x
is_first e x some = by_test e x (λ _. e ≡ x) (λ same. same) (λ other. absurd (omega (arith, some, times_cons_other e x [] other)))

pub few_first : (e x : ℕ) → times e (x ∷ []) ≤ 1
few_first e x = by_test e x (λ _. times e (x ∷ []) ≤ 1)
    (λ same. subst (λ (y : ℕ). times y (x ∷ []) ≤ 1) (sym same) (omega (arith, one_time x)))
    (λ other. omega (arith, times_cons_other e x [] other))

pub few_got : (o : Option ℕ) (e : ℕ) → times e (option_to_list o) ≤ 1
few_got None e = omega arith
few_got (Some x) e = few_first e x

pub claimed : {shape : Shape} {cpu : ℕ} (lock : DomainId) (o : Option ℕ) (v : Words) → HoldsWord shape v cpu lock → ((e : ℕ) → 1 ≤ times e (option_to_list o) → e < shape.elements) → Stepped shape v (option_to_list o) (owners.Hand cpu) (claims cpu lock o)
unfolding WordsAllow words_after
claimed {shape} {cpu} lock None v held real = no_step v (owners.Hand cpu)
claimed {shape} {cpu} lock (Some g) v held real =
    first_step v (steps.Claim cpu g lock) g [] (owners.Hand cpu) [] (held, real g (omega (arith, one_time g))) refl refl refl (no_step (words_after shape v (steps.Claim cpu g lock)) (owners.Hand cpu))

module _ {shape : Shape} (lru : is_lru shape.kind ≡ true) {cpu : ℕ} {hands : ℕ → ℕ → ℕ} {w : Words} (counts : CountsIn shape hands w) where
  -- A turn of a bucket
  module _ (b : ℕ) (lists : Lists) (holds : HoldsWord shape w cpu (Bucket b)) where
    quiet_worded : (part : BucketPart) → comes (parts.Bucket part) ≡ [] → leaves (parts.Bucket part) ≡ [] → Worded shape cpu hands (parts.Bucket part) w (word_of cpu (Bucket b) lists [] [])
    unfolding RunsByWords words_over
    quiet_worded part in_ out =
        given counts (Bucket b) lists (parts.Bucket part) [] tt holds
        (record {
          in_hand = λ e some. absurd (omega (arith, some, ap (times e) in_));
          from = λ e some. absurd (omega (arith, some, ap (times e) in_));
          few = λ e. omega (arith, ap (times e) in_);
          stay = λ e _ _. refl;
        })
        (λ e. omega (arith, ap (times e) out))

    detached_worded : (part : BucketPart) (es : List ℕ) → comes (parts.Bucket part) ≡ es → leaves (parts.Bucket part) ≡ [] → ((e : ℕ) → 1 ≤ times e es → (e < shape.elements) × (w.owner e ≡ owners.Bucket b)) → ((e : ℕ) → times e es ≤ 1)
        → Worded shape cpu hands (parts.Bucket part) w (word_of cpu (Bucket b) lists (detaches cpu b es) [])
    detached_worded part es in_ out inside few =
        let stepped : Stepped shape w es (owners.Hand cpu) (detaches cpu b es) = detached b es w holds inside few in
        given counts (Bucket b) lists (parts.Bucket part) (detaches cpu b es) stepped.runs
        (record { is_cpu = holds.is_cpu; is_lock = holds.is_lock; held = ap (λ (f : ℕ → Option ℕ). f (lock_number shape (Bucket b))) stepped.holder ∙ holds.held })
        (record {
          in_hand = λ e some. let there = subst (λ (l : List ℕ). 1 ≤ times e l) in_ some in ((inside e there).0, stepped.within e there);
          from = λ e some. inl (inr (b, (inside e (subst (λ (l : List ℕ). 1 ≤ times e l) in_ some)).1));
          few = λ e. omega (arith, few e, ap (times e) in_);
          stay = λ e none _. stepped.without e (sym (ap (times e) in_) ∙ none);
        })
        (λ e. omega (arith, ap (times e) out))

    added_worded : (side : Side) (flags : ℕ) (key value : List ℕ) (offer : Option ℕ) (e : ℕ) → IsLockHome (w.home e) → 1 ≤ hands cpu e
        → Worded shape cpu hands (parts.Bucket (Update side flags key value offer (puts.Added e))) w (word_of cpu (Bucket b) lists (steps.Attach cpu e b ∷ []) [])
    unfolding RunsByWords WordsAllow words_over words_after
    added_worded side flags key value offer e home mine =
        let has = counts.held cpu e mine in
        given counts (Bucket b) lists (parts.Bucket (Update side flags key value offer (puts.Added e))) (steps.Attach cpu e b ∷ []) (record { holds = holds; real = has.0; in_hand = has.1; not_carried = λ _. home }, tt)
        (record { is_cpu = holds.is_cpu; is_lock = holds.is_lock; held = holds.held })
        (record {
          in_hand = λ x some. absurd (omega (arith, some));
          from = λ x some. absurd (omega (arith, some));
          few = λ x. omega arith;
          stay = λ x _ none. put_else w.owner e (owners.Bucket b) x (none_rest e x [] none).0;
        })
        (λ x. by_test x e (λ _. times x (e ∷ []) ≤ hands cpu x) (λ same. subst (λ (y : ℕ). times y (e ∷ []) ≤ hands cpu y) (sym same) (omega (arith, one_time e, mine))) (λ other. omega (arith, times_cons_other x e [] other)))

    replaced_worded : (side : Side) (flags : ℕ) (key value : List ℕ) (offer : Option ℕ) (new old : ℕ) → IsLockHome (w.home new) → 1 ≤ hands cpu new → (old < shape.elements) × (w.owner old ≡ owners.Bucket b)
        → Worded shape cpu hands (parts.Bucket (Update side flags key value offer (puts.Replaced new old))) w (word_of cpu (Bucket b) lists (steps.Attach cpu new b ∷ steps.Detach cpu old b ∷ []) [])
    unfolding RunsByWords WordsAllow words_over words_after
    replaced_worded side flags key value offer new old home mine was =
        let has = counts.held cpu new mine in
        let other : old ≢ new = λ same. out_no_hand (w.owner old) cpu (inr (b, was.1)) (ap w.owner same ∙ has.1) in
        given counts (Bucket b) lists (parts.Bucket (Update side flags key value offer (puts.Replaced new old))) (steps.Attach cpu new b ∷ steps.Detach cpu old b ∷ []) (
          record { holds = holds; real = has.0; in_hand = has.1; not_carried = λ _. home },
          (
            record { holds = record { is_cpu = holds.is_cpu; is_lock = holds.is_lock; held = holds.held }; real = was.0; inside = put_else w.owner new (owners.Bucket b) old other ∙ was.1 },
            tt,
          ),
        )
        (record { is_cpu = holds.is_cpu; is_lock = holds.is_lock; held = holds.held })
        (record {
          in_hand = λ x some. subst (λ (y : ℕ). (y < shape.elements) × (put (put w.owner new (owners.Bucket b)) old (owners.Hand cpu) y ≡ owners.Hand cpu)) (sym (is_first x old some)) (was.0, put_here (put w.owner new (owners.Bucket b)) old (owners.Hand cpu));
          from = λ x some. inl (inr (b, ap w.owner (is_first x old some) ∙ was.1));
          few = λ x. few_first x old;
          stay = λ x none gone. put_else (put w.owner new (owners.Bucket b)) old (owners.Hand cpu) x (none_rest old x [] none).0 ∙ put_else w.owner new (owners.Bucket b) x (none_rest new x [] gone).0;
        })
        (λ x. by_test x new (λ _. times x (new ∷ []) ≤ hands cpu x) (λ same. subst (λ (y : ℕ). times y (new ∷ []) ≤ hands cpu y) (sym same) (omega (arith, one_time new, mine))) (λ other_. omega (arith, times_cons_other x new [] other_)))

    held_worded : (e holder : ℕ) → w.owner e ≡ owners.Hand holder → Worded shape cpu hands (parts.Bucket (Evict e (Held holder))) w (word_of cpu (Bucket b) lists [] (sees e holder ∷ []))
    unfolding RunsByWords WordsAllow words_over words_after
    held_worded e holder sees_it =
        let quiet = quiet_worded (Evict e (Held holder)) refl refl in
        record { runs = (sees_it, quiet.runs); counts = quiet.counts }

    -- what is taken out for good leaves the bucket in its own turn
    leave : (part : BucketPart) (es : List ℕ) → Worded shape cpu hands (parts.Bucket part) w (word_of cpu (Bucket b) lists (detaches cpu b es) []) → Worded shape cpu hands (parts.Bucket part) w (word_of cpu (Bucket b) lists (leave_steps (is_lru shape.kind) cpu b es) [])
    leave part es worded = subst (λ (t : Bool). Worded shape cpu hands (parts.Bucket part) w (word_of cpu (Bucket b) lists (leave_steps t cpu b es) [])) (sym lru) worded

    pub bucket_worded : (part : BucketPart) → ((e : ℕ) → 1 ≤ times e (taken_from_bucket part) → (e < shape.elements) × (w.owner e ≡ owners.Bucket b)) → ((e : ℕ) → times e (taken_from_bucket part) ≤ 1)
        → ((e : ℕ) → 1 ≤ times e (brought_to_bucket part) → e < shape.elements → IsLockHome (w.home e)) → SeesInBucket w part → ((e : ℕ) → times e (brought_to_bucket part) ≤ hands cpu e)
        → Worded shape cpu hands (parts.Bucket part) w (word_of cpu (Bucket b) lists (bucket_steps shape cpu b part) (seen_in part))
    bucket_worded (Lookup side key got) inside few home sees_it may = quiet_worded (Lookup side key got) refl refl
    bucket_worded (Update side flags key value offer (puts.Added e)) inside few home sees_it may =
        let mine : 1 ≤ hands cpu e = omega (arith, may e, one_time e) in added_worded side flags key value offer e (home e (omega (arith, one_time e)) (counts.held cpu e mine).0) mine
    bucket_worded (Update side flags key value offer (puts.Replaced new old)) inside few home sees_it may =
        let mine : 1 ≤ hands cpu new = omega (arith, may new, one_time new) in
        replaced_worded side flags key value offer new old (home new (omega (arith, one_time new)) (counts.held cpu new mine).0) mine (inside old (omega (arith, one_time old)))
    bucket_worded (Update side flags key value offer (puts.Written e)) inside few home sees_it may = quiet_worded (Update side flags key value offer (puts.Written e)) refl refl
    bucket_worded (Update side flags key value offer puts.Exists) inside few home sees_it may = quiet_worded (Update side flags key value offer puts.Exists) refl refl
    bucket_worded (Update side flags key value offer puts.Absent) inside few home sees_it may = quiet_worded (Update side flags key value offer puts.Absent) refl refl
    bucket_worded (Update side flags key value offer puts.Full) inside few home sees_it may = quiet_worded (Update side flags key value offer puts.Full) refl refl
    bucket_worded (Delete key removed) inside few home sees_it may = leave (Delete key removed) (taken_from_bucket (Delete key removed)) (detached_worded (Delete key removed) (taken_from_bucket (Delete key removed)) refl refl inside few)
    bucket_worded (Take key removed) inside few home sees_it may = leave (Take key removed) (taken_from_bucket (Take key removed)) (detached_worded (Take key removed) (taken_from_bucket (Take key removed)) refl refl inside few)
    bucket_worded (bucket_parts.Next key found) inside few home sees_it may = quiet_worded (bucket_parts.Next key found) refl refl
    bucket_worded (First key) inside few home sees_it may = quiet_worded (First key) refl refl
    bucket_worded (Walk remove room result) inside few home sees_it may =
        leave (Walk remove room result) (taken_from_bucket (Walk remove room result)) (detached_worded (Walk remove room result) (taken_from_bucket (Walk remove room result)) refl refl inside few)
    bucket_worded (Evict e Removed) inside few home sees_it may = detached_worded (Evict e Removed) (e ∷ []) refl refl inside few
    bucket_worded (Evict e (Held holder)) inside few home sees_it may = held_worded e holder sees_it

  -- A turn of a list set
  module _ (c : ℕ) (lists : Lists) (holds : HoldsWord shape w cpu (CpuLru c)) where
    abbrev lock : DomainId
    lock = CpuLru c

    -- what was freed is settled, and what is free then is claimed
    pub turn_worded : (hash : ℕ) (active inactive : List Visit) (shrink : Option ShrinkNote) (got : Option ℕ)
        → ((e : ℕ) → 1 ≤ times e (freed_by shrink) → w.home e ≡ homes.In lock) → ((e : ℕ) → 1 ≤ times e (option_to_list got) → (e < shape.elements) × (IsOut (w.owner e) ⊎ (1 ≤ times e (freed_by shrink))))
        → ((e : ℕ) → times e (freed_by shrink) ≤ hands cpu e)
        → Worded shape cpu hands (parts.Own (own.Turn hash active inactive shrink got)) w (word_of cpu lock lists (own_steps cpu lock (own.Turn hash active inactive shrink got)) [])
    turn_worded hash active inactive shrink got home from may =
        let es : List ℕ = freed_by shrink in
        let first : Stepped shape w es owners.Free (map (λ e. steps.Settle cpu e lock) es) =
        settled lock es w holds refl (λ e some. let has = counts.held cpu e (omega (arith, some, may e)) in (has.0, has.1, home e some)) (λ e. omega (arith, may e, counts.once cpu e)) in
        let v : Words = words_over shape w (map does (map (λ e. steps.Settle cpu e lock) es)) in
        let then : Stepped shape v (option_to_list got) (owners.Hand cpu) (claims cpu lock got) =
        claimed lock got v (record { is_cpu = holds.is_cpu; is_lock = holds.is_lock; held = ap (λ (f : ℕ → Option ℕ). f (lock_number shape lock)) first.holder ∙ holds.held }) (λ e some. (from e some).0) in
        let all : map does (map (λ e. steps.Settle cpu e lock) es ++ claims cpu lock got) ≡ map does (map (λ e. steps.Settle cpu e lock) es) ++ map does (claims cpu lock got) = map-append does (map (λ e. steps.Settle cpu e lock) es) (claims cpu lock got) in
        let words : words_over shape w (map does (map (λ e. steps.Settle cpu e lock) es ++ claims cpu lock got)) ≡ words_over shape v (map does (claims cpu lock got)) =
        ap (words_over shape w) all ∙ over_both shape (map does (map (λ e. steps.Settle cpu e lock) es)) (map does (claims cpu lock got)) w in
        given counts lock lists (parts.Own (own.Turn hash active inactive shrink got)) (map (λ e. steps.Settle cpu e lock) es ++ claims cpu lock got)
        (subst (RunsByWords shape w) (sym all) (words_both shape (map does (map (λ e. steps.Settle cpu e lock) es)) (map does (claims cpu lock got)) w first.runs then.runs))
        (record { is_cpu = holds.is_cpu; is_lock = holds.is_lock; held = ap (λ (u : Words). u.holder (lock_number shape lock)) words ∙ ap (λ (f : ℕ → Option ℕ). f (lock_number shape lock)) (then.holder ∙ first.holder) ∙ holds.held })
        (record {
          in_hand = λ e some. ((from e some).0, ap (λ (u : Words). u.owner e) words ∙ then.within e some);
          from = λ e some. (from e some).1;
          few = λ e. few_got got e;
          stay = λ e none gone. ap (λ (u : Words). u.owner e) words ∙ then.without e none ∙ first.without e gone;
        })
        may

    pub push_worded : (e : ℕ) → w.home e ≡ homes.In lock → 1 ≤ hands cpu e → Worded shape cpu hands (parts.Own (own.Push e)) w (word_of cpu lock lists (steps.Settle cpu e lock ∷ []) [])
    unfolding RunsByWords WordsAllow words_over words_after
    push_worded e home mine =
        let has = counts.held cpu e mine in
        given counts lock lists (parts.Own (own.Push e)) (steps.Settle cpu e lock ∷ []) (record { holds = holds; has_free_list = refl; real = has.0; in_hand = has.1; listed = λ _. home }, tt)
        (record { is_cpu = holds.is_cpu; is_lock = holds.is_lock; held = holds.held })
        (record {
          in_hand = λ x some. absurd (omega (arith, some));
          from = λ x some. absurd (omega (arith, some));
          few = λ x. omega arith;
          stay = λ x _ none. put_else w.owner e owners.Free x (none_rest e x [] none).0;
        })
        (λ x. by_test x e (λ _. times x (e ∷ []) ≤ hands cpu x) (λ same. subst (λ (y : ℕ). times y (e ∷ []) ≤ hands cpu y) (sym same) (omega (arith, one_time e, mine))) (λ other. omega (arith, times_cons_other x e [] other)))
