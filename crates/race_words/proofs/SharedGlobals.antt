-- A turn of the global lists inside a refill, by words: what is flushed comes home from the CPU's lists, what is free goes there, and so does
-- what was freed, which is settled.
use Rattle.std.proofs.Common.{◌≡◌, ◌≢◌, ◌⊎◌, inl, inr, ℕ, ◌<◌, ◌≤◌, List, [], ◌∷◌, ◌++◌, map, Option, None, refl, ap, ◌∙◌, sym, subst, ⊎_elim, arith}
use Rattle.std.specs.Prelude.{IsTrue}
use Rattle.std.specs.List.{flat_map}
use Rattle.std.proofs.lemmas.Bool.{cases_lt}
use Rattle.std.proofs.lemmas.List.{append_assoc, map-append}
use Rattle.map_types.specs.declared.attr.Shape.{Shape}
use Rattle.map_types.specs.declared.kind.DomainId.{DomainId}
use Rattle.map_types.specs.declared.kind.DomainId.TheVariants.{Local, Global}
use Rattle.map_types.specs.ElementLists.{put, times}
use Rattle.map_types.proofs.RowLemmas.{by_test}
use Rattle.place_words.specs.declared.history.Part.{Part}
use Rattle.place_words.specs.declared.history.Part.TheVariants as parts
use Rattle.place_words.specs.declared.home.Home.{Home}
use Rattle.place_words.specs.declared.home.Home.TheVariants as homes
use Rattle.place_words.specs.declared.list_part.GlobalPart.TheVariants as global
use Rattle.place_words.specs.declared.owner.Owner.{Owner}
use Rattle.place_words.specs.declared.owner.Owner.TheVariants as owners
use Rattle.place_words.specs.declared.step.Lists.{Lists}
use Rattle.place_words.specs.declared.step.Step.{Step}
use Rattle.place_words.specs.declared.step.Step.TheVariants as steps
use Rattle.place_words.specs.declared.visits.Flush.{Flush}
use Rattle.place_words.specs.declared.visits.ShrinkNote.{ShrinkNote}
use Rattle.place_words.specs.declared.visits.Visit.{Visit}
use Rattle.place_words.specs.Globals.{flushed_elements}
use Rattle.place_words.specs.Interleaving.{Event, does, freed_steps, global_steps}
use Rattle.place_words.specs.Locks.{lock_number}
use Rattle.place_words.specs.Steps.{IsFreeOrInHand}
use Rattle.place_words.specs.Takings.{freed_by}
use Rattle.place_words.proofs.ElementLemmas.{put_here, put_else, times_cons_same, times_cons_other}
use Rattle.core_runs.specs.Words.{Words, HoldsWord, LeavesWord, EntersWord, WordsAllow, words_after, RunsByWords}
use Rattle.step_check.specs.Ran.{words_over}
use Rattle.step_check.proofs.Begun.{over_both}
use Rattle.step_check.proofs.Judging.{words_both}
use Rattle.race_words.proofs.OwnWords.{CountsIn, word_of, given, none_rest, not_first, rest_few, rest_some}
use Rattle.race_words.proofs.SharedWords.{Carrying, SameLoads, SharedWorded, give_home, kept_worded, no_hand}

-- What some steps make of words: holders and owners stay, these elements have this lock for a home, and others keep theirs.
record Rehomed (shape : Shape) (w : Words) (es : List ℕ) (to : DomainId) (xs : List Step) : Type 0 where
  runs : RunsByWords shape w (map does xs)
  holder : (words_over shape w (map does xs)).holder ≡ w.holder
  owner : (words_over shape w (map does xs)).owner ≡ w.owner
  within : (e : ℕ) → 1 ≤ times e es → (words_over shape w (map does xs)).home e ≡ homes.In to
  without : (e : ℕ) → times e es ≡ 0 → (words_over shape w (map does xs)).home e ≡ w.home e

same_holds : {shape : Shape} {w : Words} {cpu : ℕ} {lock : DomainId} (v : Words) → v.holder ≡ w.holder → HoldsWord shape w cpu lock → HoldsWord shape v cpu lock
same_holds {shape} {w} {cpu} {lock} v same holds = record { is_cpu = holds.is_cpu; is_lock = holds.is_lock; held = ap (λ (f : ℕ → Option ℕ). f (lock_number shape lock)) same ∙ holds.held }

-- what is freed comes to the CPU's lists
record Freed (shape : Shape) (cpu : ℕ) (w : Words) (es : List ℕ) (xs : List Step) : Type 0 where
  runs : RunsByWords shape w (map does xs)
  holder : (words_over shape w (map does xs)).holder ≡ w.holder
  owner : (e : ℕ) → times e es ≡ 0 → (words_over shape w (map does xs)).owner e ≡ w.owner e
  within : (e : ℕ) → 1 ≤ times e es → (words_over shape w (map does xs)).home e ≡ homes.In (Local cpu)
  without : (e : ℕ) → times e es ≡ 0 → (words_over shape w (map does xs)).home e ≡ w.home e

no_free_hand : {A : Type 0} (o : Owner) (c : ℕ) → o ≡ owners.Free → o ≡ owners.Hand c → A
no_free_hand o c free hand = absurd (let both : owners.Free ≡ owners.Hand c = sym free ∙ hand in cc)

module _ {shape : Shape} (common : IsTrue shape.common) {cpu : ℕ} where
  rehomed : (from to : DomainId) (es : List ℕ) (w : Words) → HoldsWord shape w cpu from → HoldsWord shape w cpu to
      → ((e : ℕ) → 1 ≤ times e es → (e < shape.elements) × ((w.home e ≡ homes.In from) ⊎ (w.home e ≡ homes.In to)))
      → ((u : Words) → HoldsWord shape u cpu to → u.owner ≡ w.owner → (e : ℕ) → 1 ≤ times e es → EntersWord shape u cpu (u.owner e) (homes.In to))
      → Rehomed shape w es to (map (λ e. steps.Rehome cpu e (homes.In to)) es)
  unfolding RunsByWords WordsAllow words_over words_after
  rehomed from to [] w holds_from holds_to inside enters = record { runs = tt; holder = refl; owner = refl; within = λ e some. absurd (omega (arith, some)); without = λ e none. refl }
  rehomed from to (x ∷ es) w holds_from holds_to inside enters =
      let has = inside x (omega (arith, times_cons_same x es)) in
      let v : Words = words_after shape w (steps.Rehome cpu x (homes.In to)) in
      let rest = rehomed from to es v (same_holds v refl holds_from) (same_holds v refl holds_to)
      (λ e some.
      let was = inside e (rest_some x e es some) in (
        was.0,
        by_test e x (λ _. (v.home e ≡ homes.In from) ⊎ (v.home e ≡ homes.In to))
            (λ same. inr (ap v.home same ∙ put_here w.home x (homes.In to)))
            (λ other. ⊎_elim (λ (a : w.home e ≡ homes.In from). inl (put_else w.home x (homes.In to) e other ∙ a)) (λ (b : w.home e ≡ homes.In to). inr (put_else w.home x (homes.In to) e other ∙ b)) was.1),
      ))
      (λ u holds same e some. enters u holds same e (rest_some x e es some)) in
      record {
        runs = (
          record {
            common = common;
            is_cpu = holds_to.is_cpu;
            real = has.0;
            from_there = ⊎_elim (λ (a : w.home x ≡ homes.In from). subst (LeavesWord shape w cpu) (sym a) holds_from) (λ (b : w.home x ≡ homes.In to). subst (LeavesWord shape w cpu) (sym b) holds_to) has.1;
            to_there = enters w holds_to refl x (omega (arith, times_cons_same x es));
          },
          rest.runs,
        );
        holder = rest.holder;
        owner = rest.owner;
        within = λ e some. ⊎_elim
            (λ (none : times e es < 1). rest.without e (omega (arith, none)) ∙ by_test e x (λ _. put w.home x (homes.In to) e ≡ homes.In to)
            (λ same. ap (put w.home x (homes.In to)) same ∙ put_here w.home x (homes.In to)) (λ other. absurd (omega (arith, some, none, times_cons_other e x es other))))
            (λ (there : 1 ≤ times e es). rest.within e there)
            (cases_lt (times e es) 1);
        without = λ e none. let apart = none_rest x e es none in rest.without e apart.1 ∙ put_else w.home x (homes.In to) e apart.0;
      }

  all_freed : (es : List ℕ) (w : Words) → HoldsWord shape w cpu Global → HoldsWord shape w cpu (Local cpu)
      → ((e : ℕ) → 1 ≤ times e es → (e < shape.elements) × (w.owner e ≡ owners.Hand cpu) × (w.home e ≡ homes.In Global)) → ((e : ℕ) → times e es ≤ 1) → Freed shape cpu w es (flat_map (freed_steps cpu) es)
  unfolding RunsByWords WordsAllow words_over words_after
  all_freed [] w holds_global holds_local inside few = record { runs = tt; holder = refl; owner = λ e none. refl; within = λ e some. absurd (omega (arith, some)); without = λ e none. refl }
  all_freed (x ∷ es) w holds_global holds_local inside few =
      let has = inside x (omega (arith, times_cons_same x es)) in
      let u : Words = words_after shape w (steps.Rehome cpu x (homes.In (Local cpu))) in
      let v : Words = words_after shape u (steps.Settle cpu x (Local cpu)) in
      let rest = all_freed es v (same_holds v refl holds_global) (same_holds v refl holds_local)
      (λ e some.
      let was = inside e (rest_some x e es some) in
      let other : e ≢ x = not_first x e es (few x) some in
      (was.0, put_else w.owner x owners.Free e other ∙ was.1, put_else w.home x (homes.In (Local cpu)) e other ∙ was.2))
      (rest_few x es few) in
      record {
        runs = (
          record {
            common = common;
            is_cpu = holds_local.is_cpu;
            real = has.0;
            from_there = subst (LeavesWord shape w cpu) (sym has.2) holds_global;
            to_there = (holds_local, subst (λ (o : Owner). IsFreeOrInHand cpu o) (sym has.1) refl);
          },
          (
            record { holds = same_holds u refl holds_local; has_free_list = refl; real = has.0; in_hand = has.1; listed = λ _. put_here w.home x (homes.In (Local cpu)) },
            rest.runs,
          ),
        );
        holder = rest.holder;
        owner = λ e none. let apart = none_rest x e es none in rest.owner e apart.1 ∙ put_else w.owner x owners.Free e apart.0;
        within = λ e some. ⊎_elim
            (λ (none : times e es < 1). rest.without e (omega (arith, none)) ∙ by_test e x (λ _. put w.home x (homes.In (Local cpu)) e ≡ homes.In (Local cpu))
            (λ same. ap (put w.home x (homes.In (Local cpu))) same ∙ put_here w.home x (homes.In (Local cpu))) (λ other. absurd (omega (arith, some, none, times_cons_other e x es other))))
            (λ (there : 1 ≤ times e es). rest.within e there)
            (cases_lt (times e es) 1);
        without = λ e none. let apart = none_rest x e es none in rest.without e apart.1 ∙ put_else w.home x (homes.In (Local cpu)) e apart.0;
      }

  module _ {hands : ℕ → ℕ → ℕ} {loads : ℕ → Option ℕ} {w : Words} (counts : CountsIn shape hands w) (carrying : Carrying shape loads w) (lists : Lists) (holds_global : HoldsWord shape w cpu Global) (holds_local : HoldsWord shape w cpu (Local cpu))
      (flushed : List Flush) (active inactive : List Visit) (free : List ℕ) (shrink : Option ShrinkNote)
      (pending : (e : ℕ) → 1 ≤ times e (flushed_elements flushed) → (e < shape.elements) × (w.home e ≡ homes.In (Local cpu)))
      (frees : (e : ℕ) → 1 ≤ times e free → (e < shape.elements) × (w.owner e ≡ owners.Free) × (w.home e ≡ homes.In Global))
      (listed : (e : ℕ) → 1 ≤ times e (freed_by shrink) → (w.home e ≡ homes.In Global) ⊎ (1 ≤ times e (flushed_elements flushed)))
      (may : (e : ℕ) → times e (freed_by shrink) ≤ hands cpu e) where
    abbrev part : Part
    part = parts.Global (global.Turn flushed active inactive free shrink)

    abbrev es : List ℕ
    es = flushed_elements flushed

    abbrev gone : List ℕ
    gone = freed_by shrink

    abbrev ons : List Step
    ons = map (λ e. steps.Rehome cpu e (homes.In Global)) es

    abbrev homes_ : List Step
    homes_ = map (λ e. steps.Rehome cpu e (homes.In (Local cpu))) free

    abbrev offs : List Step
    offs = flat_map (freed_steps cpu) gone

    abbrev u : Words
    u = words_over shape w (map does ons)

    abbrev v : Words
    v = words_over shape u (map does homes_)

    abbrev z : Words
    z = words_over shape v (map does offs)

    first : Rehomed shape w es Global ons
    first = rehomed (Local cpu) Global es w holds_local holds_global (λ e some. let has = pending e some in (has.0, inl has.1)) (λ t holds same e some. holds)

    -- what is at home globally then
    home_then : (e : ℕ) → (w.home e ≡ homes.In Global) ⊎ (1 ≤ times e es) → u.home e ≡ homes.In Global
    home_then e is = ⊎_elim
        (λ (some : 1 ≤ times e es). first.within e some)
        (λ (none : times e es < 1). first.without e (omega (arith, none)) ∙ ⊎_elim (λ (home : w.home e ≡ homes.In Global). home) (λ (some : 1 ≤ times e es). absurd (omega (arith, some, none))) is)
        (⊎_elim (λ (none : times e es < 1). inr none) (λ (some : 1 ≤ times e es). inl some) (cases_lt (times e es) 1))

    second : Rehomed shape u free (Local cpu) homes_
    second = rehomed Global (Local cpu) free u (same_holds u first.holder holds_global) (same_holds u first.holder holds_local)
        (λ e some. let has = frees e some in (has.0, inl (home_then e (inl has.2))))
        (λ t holds same e some. (holds, subst (λ (o : Owner). IsFreeOrInHand cpu o) (sym (ap (λ (f : ℕ → Owner). f e) (same ∙ first.owner) ∙ (frees e some).1)) tt))

    owners_then : v.owner ≡ w.owner
    owners_then = second.owner ∙ first.owner

    third : Freed shape cpu v gone offs
    third = all_freed gone v (same_holds v (second.holder ∙ first.holder) holds_global) (same_holds v (second.holder ∙ first.holder) holds_local)
        (λ e some.
        let has = counts.held cpu e (omega (arith, some, may e)) in (
          has.0,
          ap (λ (f : ℕ → Owner). f e) owners_then ∙ has.1,
          ⊎_elim
              (λ (none : times e free < 1). second.without e (omega (arith, none)) ∙ home_then e (listed e some))
              (λ (also : 1 ≤ times e free). no_free_hand (w.owner e) cpu (frees e also).1 has.1)
              (cases_lt (times e free) 1),
        ))
        (λ e. omega (arith, may e, counts.once cpu e))

    abbrev xs : List Step
    xs = global_steps cpu (global.Turn flushed active inactive free shrink)

    all : map does xs ≡ map does ons ++ (map does homes_ ++ map does offs)
    all = map-append does (ons ++ homes_) offs ∙ ap (λ (l : List Event). l ++ map does offs) (map-append does ons homes_) ∙ append_assoc (map does ons) (map does homes_) (map does offs)

    words : words_over shape w (map does xs) ≡ z
    words = ap (words_over shape w) all ∙ over_both shape (map does ons) (map does homes_ ++ map does offs) w ∙ over_both shape (map does homes_) (map does offs) u

    runs : RunsByWords shape w (map does xs)
    runs = subst (RunsByWords shape w) (sym all) (words_both shape (map does ons) (map does homes_ ++ map does offs) w first.runs (words_both shape (map does homes_) (map does offs) u second.runs third.runs))

    -- a home was a lock and is one, or it is ons it was
    record IsListed (e : ℕ) : Type 0 where
      before : DomainId
      then : DomainId
      was : w.home e ≡ homes.In before
      is : z.home e ≡ homes.In then

    moved : (e : ℕ) → IsListed e ⊎ (z.home e ≡ w.home e)
    moved e = by (cases_lt (times e gone) 1) (cases_lt (times e free) 1) (cases_lt (times e es) 1)
      where
        home_before : (w.home e ≡ homes.In Global) ⊎ (1 ≤ times e es) → (l : DomainId) → z.home e ≡ homes.In l → IsListed e
        home_before which l is = ⊎_elim (λ (home : w.home e ≡ homes.In Global). record { before = Global; then = l; was = home; is = is }) (λ (some : 1 ≤ times e es). record { before = Local cpu; then = l; was = (pending e some).1; is = is }) which

        by : (times e gone < 1) ⊎ (1 ≤ times e gone) → (times e free < 1) ⊎ (1 ≤ times e free) → (times e es < 1) ⊎ (1 ≤ times e es) → IsListed e ⊎ (z.home e ≡ w.home e)
        by (inr freed_) b a = inl (home_before (listed e freed_) (Local cpu) (third.within e freed_))
        by (inl none) (inr free_) a = inl (home_before (inl (frees e free_).2) (Local cpu) (third.without e (omega (arith, none)) ∙ second.within e free_))
        by (inl none) (inl no_free) (inr flush) = inl (home_before (inr flush) Global (third.without e (omega (arith, none)) ∙ second.without e (omega (arith, no_free)) ∙ first.within e flush))
        by (inl none) (inl no_free) (inl no_flush) = inr (third.without e (omega (arith, none)) ∙ second.without e (omega (arith, no_free)) ∙ first.without e (omega (arith, no_flush)))

    loads_same : SameLoads w z
    loads_same = record {
      stays = λ c e hand. ⊎_elim (λ (lists_ : IsListed e). no_hand lists_.before c (sym lists_.was ∙ hand)) (λ (same : z.home e ≡ w.home e). same ∙ hand) (moved e);
      was = λ c e hand. ⊎_elim (λ (lists_ : IsListed e). no_hand lists_.then c (sym lists_.is ∙ hand)) (λ (same : z.home e ≡ w.home e). sym same ∙ hand) (moved e);
    }

    pub global_shared : loads cpu ≡ None → SharedWorded shape cpu hands loads part w (word_of cpu Global lists xs [])
    global_shared none =
        kept_worded carrying part (word_of cpu Global lists xs []) none refl
        (given counts Global lists part xs runs (same_holds (words_over shape w (map does xs)) (ap (λ (t : Words). t.holder) words ∙ third.holder ∙ second.holder ∙ first.holder) holds_global)
        (record {
          in_hand = λ e some. absurd (omega (arith, some));
          from = λ e some. absurd (omega (arith, some));
          few = λ e. omega arith;
          stay = λ e _ stays. ap (λ (t : Words). t.owner e) words ∙ third.owner e stays ∙ ap (λ (f : ℕ → Owner). f e) owners_then;
        })
        may)
        (record {
          stays = λ c e hand. ap (λ (f : ℕ → Home). f e) (give_home shape cpu Global lists xs w ∙ ap (λ (t : Words). t.home) words) ∙ loads_same.stays c e hand;
          was = λ c e hand. loads_same.was c e (sym (ap (λ (f : ℕ → Home). f e) (give_home shape cpu Global lists xs w ∙ ap (λ (t : Words). t.home) words)) ∙ hand);
        })
