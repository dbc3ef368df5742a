-- Where CPUs share lists, the global lists or the local ones of some CPU aren't empty between calls. So a refill gives an element, or
-- a round of thefts does.
use Rattle.std.proofs.Common.{◌≡◌, ◌≢◌, ◌⊎◌, ℕ, zero, suc, ◌+◌, ◌-◌, ◌<◌, ◌≤◌, Bool, true, false, cond, List, [], ◌∷◌, ◌++◌, length, refl, ap, sym, ◌∙◌, subst, arith, inl, inr}
use Rattle.std.specs.Prelude.{Option, None, Some, find, unwrap_or}
use Rattle.std.specs.List.{range_with_len}
use Rattle.std.proofs.lemmas.Bool.{cases_lt, ne_eqb}
use Rattle.std.proofs.lemmas.List.{append-nil}
use Rattle.std.proofs.lemmas.Option.{none-some, same_Some}
use Rattle.map_types.specs.declared.attr.Shape.{Shape}
use Rattle.map_types.specs.declared.kind.DomainId.TheVariants.{Local, Global, CpuLru, Bucket}
use Rattle.map_types.specs.ElementLists.{times}
use Rattle.place_words.specs.declared.history.Entry.{Entry}
use Rattle.place_words.specs.declared.history.Part.TheVariants as parts
use Rattle.place_words.specs.declared.list_part.GlobalPart.{GlobalPart}
use Rattle.place_words.specs.declared.list_part.GlobalPart.TheVariants as global
use Rattle.place_words.specs.declared.list_part.LocalPart.{LocalPart}
use Rattle.place_words.specs.declared.list_part.LocalPart.TheVariants as local
use Rattle.place_words.specs.declared.list_part.OwnPart.TheVariants as own
use Rattle.place_words.specs.Choices.{global_turn, refill_of, refill_got, steal_of, steal_got}
use Rattle.place_words.specs.Histories.{content, locals_in, global_in}
use Rattle.place_words.specs.Locals.{LocalLists, new_locals, local_after}
use Rattle.place_words.specs.Logs.{State, all_turned, locals_at, globals_at, Taking, after_turns_of, got_or, probed, taken_own, home_or, stolen, refilled, taken_shared, acquired, freed_at, freeing}
use Rattle.place_words.specs.Sets.{ListSet, new_set, has_row}
use Rattle.place_words.specs.Takings.{brings_home, freed_globally, set_of}
use Rattle.place_words.specs.Turns.{Turn, ring, on_lock, on_bucket_of, bucket_of_key}
use Rattle.place_words.proofs.EachTurn.{TurnLaw}
use Rattle.place_words.proofs.ListContents.{locals_turned, globals_turned, AreElsewhere, elsewhere_both, log_stays, all_turned-append}
use Rattle.place_words.proofs.Giving.{pop_leaves, add_leaves, push_leaves, refill_leaves, global_leaves, AreOfBuckets, probes_first, probes_are, buckets_elsewhere, keeps_both}
use Rattle.place_words.proofs.NeverEmpty.{set_count, local_count, refill_gives, steal_gives}
use Rattle.map_types.proofs.RowLemmas.{by_test, times_append}

-- Shared lists

abbrev pub SomeShared : Shape → State → Type 0
SomeShared shape state = (1 ≤ set_count (globals_at shape state)) ⊎ ((on : ℕ) × (on < shape.cpus) × (1 ≤ local_count (locals_at shape state on)))

-- a CPU is in the ring, wherever it starts
in_range : (c a n : ℕ) → a ≤ c → c < a + n → 1 ≤ times c (range_with_len a n)
in_range c a zero least most = absurd (omega (arith, least, most))
in_range c a (suc n) least most =
    by_test a c (λ b. 1 ≤ cond b (suc (times c (range_with_len (a + 1) n))) (times c (range_with_len (a + 1) n)))
    (λ same. omega arith)
    (λ other. in_range c (a + 1) n (omega (arith, least, other)) (omega (arith, most)))

in_ring : (c start cpus : ℕ) → c < cpus → 1 ≤ times c (ring start cpus)
in_ring c start cpus below = by (cases_lt c start) (times_append c (range_with_len start (cpus - start)) (range_with_len 0 start))
  where
    by : (c < start) ⊎ (start ≤ c) → times c (ring start cpus) ≡ times c (range_with_len start (cpus - start)) + times c (range_with_len 0 start) → 1 ≤ times c (ring start cpus)
    by (inl less) joined = omega (arith, joined, in_range c 0 start (omega arith) (omega (arith, less)))
    by (inr more) joined = omega (arith, joined, in_range c start (cpus - start) more (omega (arith, more, below)))

-- what is found in a range is within it
pub found_below : (p : ℕ → Bool) (a n x : ℕ) → find p (range_with_len a n) ≡ Some x → x < a + n
found_below p a zero x is = absurd (none-some x is)
found_below p a (suc n) x is = by (p a) is (found_below p (a + 1) n x)
  where
    by : (b : Bool) → cond b (Some a) (find p (range_with_len (a + 1) n)) ≡ Some x → (find p (range_with_len (a + 1) n) ≡ Some x → x < (a + 1) + n) → x < a + suc n
    by true now rest = omega (arith, same_Some a x now)
    by false now rest = omega (arith, rest now)

module _ (shape : Shape) (common : shape.common ≡ true) where
  abbrev GivesShared : ℕ → ℕ → List Turn → Type 0
  GivesShared cpu number turns = (state : State) → SomeShared shape (all_turned shape cpu number turns state)

  gives_last : (cpu number : ℕ) (xs ys : List Turn) → GivesShared cpu number ys → GivesShared cpu number (xs ++ ys)
  gives_last cpu number xs ys gives state = subst (SomeShared shape) (sym (all_turned-append shape cpu number xs ys state)) (gives (all_turned shape cpu number xs state))

  buckets_keep_shared : (cpu number : ℕ) (turns : List Turn) → AreOfBuckets turns → (state : State) → SomeShared shape state → SomeShared shape (all_turned shape cpu number turns state)
  buckets_keep_shared cpu number turns are state (inl some) =
      inl (subst (λ (entries : List Entry). 1 ≤ set_count (unwrap_or (global_in (content shape Global entries)) (new_set [])))
      (sym (log_stays shape cpu number turns state Global (buckets_elsewhere Global (λ bucket. refl) turns are))) some)
  buckets_keep_shared cpu number turns are state (inr (on, within, some)) =
      inr (
        on,
        within,
        subst (λ (entries : List Entry). 1 ≤ local_count (unwrap_or (locals_in (content shape (Local on) entries)) (new_locals on)))
            (sym (log_stays shape cpu number turns state (Local on) (buckets_elsewhere (Local on) (λ bucket. refl) turns are))) some,
      )

  local_gives : (cpu number on : ℕ) (part : LocalPart) → on < shape.cpus → ((lists : LocalLists) → 1 ≤ local_count (local_after part lists)) → GivesShared cpu number (on_lock (Local on) (parts.Local part) ∷ [])
  local_gives cpu number on part within leaves state =
      inr (on, within, subst (λ (lists : LocalLists). 1 ≤ local_count lists) (sym (locals_turned shape cpu number on part state)) (leaves (locals_at shape state on)))

  global_gives : (cpu number e : ℕ) → GivesShared cpu number (freed_globally e ∷ [])
  global_gives cpu number e state = inl (subst (λ (set : ListSet). 1 ≤ set_count set) (sym (globals_turned shape cpu number (global.Push e) state)) (global_leaves e (globals_at shape state)))

  freed_gives : (cpu number e : ℕ) (home : Option ℕ) → ((on : ℕ) → home ≡ Some on → on < shape.cpus) → GivesShared cpu number (freed_at e home ∷ [])
  freed_gives cpu number e None within = global_gives cpu number e
  freed_gives cpu number e (Some on) within = local_gives cpu number on (local.Push e true) (within on refl) (push_leaves e)

  freeing_gives : (cpu number : ℕ) (before : State) (e : ℕ) → GivesShared cpu number (freeing shape before e ∷ [])
  unfolding freeing
  freeing_gives cpu number before e = by shape.common common
    where
      by : (b : Bool) → b ≡ true → GivesShared cpu number (cond b (freed_at e (find (λ on. has_row e (locals_at shape before on).pending) (range_with_len 0 shape.cpus))) (on_lock (CpuLru (set_of shape e)) (parts.Own (own.Push e))) ∷ [])
      by true is = freed_gives cpu number e (find (λ on. has_row e (locals_at shape before on).pending) (range_with_len 0 shape.cpus)) (λ on found. omega (arith, found_below (λ on. has_row e (locals_at shape before on).pending) 0 shape.cpus on found))
      by false is = absurd cc

  module _ (cpu number key_hash : ℕ) (within : cpu < shape.cpus) where
    abbrev Finds : Taking → Type 0
    Finds taking = GivesShared cpu number taking.turns × (taking.got ≢ None)

    steal_step : (from : ℕ) (got : Option ℕ) (turns : List Turn) (later : Taking) → (got ≡ None → Finds later) → Finds (after_turns_of turns (home_or shape cpu key_hash from got later))
    steal_step from None turns later rest = (gives_last cpu number turns later.turns (rest refl).0, (rest refl).1)
    steal_step from (Some e) turns later rest = (
      gives_last cpu number turns (brings_home shape cpu key_hash from e ∷ []) (local_gives cpu number cpu _ within (add_leaves key_hash e _)),
      λ none. none-some e (sym none),
    )

    stolen_finds : (state : State) (cpus : List ℕ) (c : ℕ) → 1 ≤ times c cpus → 1 ≤ local_count (locals_at shape state c) → Finds (stolen shape cpu key_hash state cpus)
    stolen_finds state [] c member there = absurd (omega (arith, member))
    stolen_finds state (from ∷ others) c member there =
        let lists : LocalLists = locals_at shape state from in
        let part : LocalPart = steal_of state.bits lists.free lists.pending in
        let at_other : steal_got part ≡ None → 1 ≤ times c others = λ none.
        by_test from c (λ b. 1 ≤ cond b (suc (times c others)) (times c others) → 1 ≤ times c others)
        (λ same some. absurd (steal_gives state.bits lists.free lists.pending (subst (λ (n : ℕ). 1 ≤ local_count (locals_at shape state n)) (sym same) there) none))
        (λ other some. some)
        member in
        steal_step from (steal_got part) (probed shape state (Local from) (parts.Local part)) (stolen shape cpu key_hash state others)
        (λ none. stolen_finds state others c (at_other none) there)

    refill_step : (turns : List Turn) (refill : LocalPart) (got : Option ℕ) → refill_got refill ≡ got → (later : Taking) → (got ≡ None → Finds later)
        → Finds (after_turns_of (turns ++ on_lock (Local cpu) (parts.Local refill) ∷ []) (got_or got later))
    refill_step turns refill None is later rest = (gives_last cpu number (turns ++ on_lock (Local cpu) (parts.Local refill) ∷ []) later.turns (rest refl).0, (rest refl).1)
    refill_step turns refill (Some e) is later rest = (
      subst (GivesShared cpu number) (sym (append-nil (turns ++ on_lock (Local cpu) (parts.Local refill) ∷ [])))
          (gives_last cpu number turns (on_lock (Local cpu) (parts.Local refill) ∷ []) (local_gives cpu number cpu refill within (λ lists. refill_leaves refill lists (λ none. none-some e (sym none ∙ is))))),
      λ none. none-some e (sym none),
    )

    refilled_finds : (state : State) → SomeShared shape state → (locals_at shape state cpu).free ≡ [] → Finds (refilled shape cpu number key_hash state (locals_at shape state cpu))
    unfolding refilled
    refilled_finds state kept nothing =
        let lists : LocalLists = locals_at shape state cpu in
        let inner : GlobalPart = global_turn state.bits lists.pending (globals_at shape state) in
        let refill : LocalPart = refill_of key_hash inner in
        let first : List Turn = probed shape state Global (parts.Global inner) in
        let turns : List Turn = first ++ on_lock (Local cpu) (parts.Local refill) ∷ [] in
        let after : State = all_turned shape cpu number turns state in
        let other : refill_got refill ≡ None → (on : ℕ) × (on < shape.cpus) × (1 ≤ local_count (locals_at shape state on)) × (cpu ≢ on) = λ none.
        elsewhere kept (λ some. refill_gives key_hash state.bits lists.pending (globals_at shape state) some none) in
        refill_step first refill (refill_got refill) refl (stolen shape cpu key_hash after (ring lists.steal shape.cpus))
        (λ none. let on : (on : ℕ) × (on < shape.cpus) × (1 ≤ local_count (locals_at shape state on)) × (cpu ≢ on) = other none in
        stolen_finds after (ring lists.steal shape.cpus) on.0 (in_ring on.0 lists.steal shape.cpus on.1)
        (subst (λ (entries : List Entry). 1 ≤ local_count (unwrap_or (locals_in (content shape (Local on.0) entries)) (new_locals on.0)))
        (sym (log_stays shape cpu number turns state (Local on.0) (apart on.0 on.3 inner refill))) on.2))
      where
        elsewhere : SomeShared shape state → (1 ≤ length (locals_at shape state cpu).pending + set_count (globals_at shape state) → ⊥) → (on : ℕ) × (on < shape.cpus) × (1 ≤ local_count (locals_at shape state on)) × (cpu ≢ on)
        elsewhere (inl some) none = absurd (none (omega (arith, some)))
        elsewhere (inr (on, below, some)) none =
            (on, below, some, λ same. none (omega (arith, subst (λ (n : ℕ). 1 ≤ local_count (locals_at shape state n)) (sym same) some, ap (length {A = ℕ}) nothing)))

        apart : (on : ℕ) → cpu ≢ on → (inner : GlobalPart) (refill : LocalPart) → AreElsewhere (Local on) (probed shape state Global (parts.Global inner) ++ on_lock (Local cpu) (parts.Local refill) ∷ [])
        apart on other inner refill =
            elsewhere_both (Local on) (probed shape state Global (parts.Global inner)) (on_lock (Local cpu) (parts.Local refill) ∷ [])
            (elsewhere_both (Local on) (probes_first shape state Global (parts.Global inner)) (on_lock Global (parts.Global inner) ∷ [])
            (buckets_elsewhere (Local on) (λ bucket. refl) _ (probes_are shape state Global (parts.Global inner))) (refl, tt))
            (ne_eqb cpu on other, tt)

    shared_finds : (state : State) → SomeShared shape state → (free : List ℕ) → (locals_at shape state cpu).free ≡ free → Finds (taken_shared shape cpu number key_hash state (locals_at shape state cpu) free)
    shared_finds state kept [] is = refilled_finds state kept is
    shared_finds state kept (e ∷ free) is = (local_gives cpu number cpu (local.Pop key_hash e) within (pop_leaves key_hash e), λ none. none-some e (sym none))

    acquired_finds : (state : State) → SomeShared shape state → Finds (acquired shape cpu number key_hash state)
    unfolding acquired
    acquired_finds state kept = by shape.common common
      where
        by : (b : Bool) → b ≡ true → Finds (cond b (taken_shared shape cpu number key_hash state (locals_at shape state cpu) (locals_at shape state cpu).free) (taken_own shape cpu key_hash state))
        by true is = shared_finds state kept (locals_at shape state cpu).free refl
        by false is = absurd cc

  pub shared_law : (cpu number : ℕ) → cpu < shape.cpus → TurnLaw shape cpu number (λ side key value. Unit {0}) (SomeShared shape) (λ turns. (state : State) → SomeShared shape state → SomeShared shape (all_turned shape cpu number turns state)) ⊥
  shared_law cpu number within = record {
    none = λ state kept. kept;
    both = keeps_both shape (SomeShared shape) cpu number;
    keeps = λ turns keep. keep;
    in_key = λ key part is. buckets_keep_shared cpu number (on_bucket_of shape key part ∷ []) (bucket_of_key shape key, refl, tt);
    in_bucket = λ bucket within part is. buckets_keep_shared cpu number (on_lock (Bucket bucket) (parts.Bucket part) ∷ []) (bucket, refl, tt);
    pushes = λ plain e state kept. kept;
    looks = λ plain from there part state kept. kept;
    frees = λ lru before e state kept. freeing_gives cpu number before e state;
    takes = λ lru key_hash before there state kept. (acquired_finds cpu number key_hash within before there).0 state;
    lacks = λ lru key_hash state kept. (acquired_finds cpu number key_hash within state kept).1;
  }
