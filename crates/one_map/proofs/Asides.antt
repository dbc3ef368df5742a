-- The other turns of a call on one key: of freelists, of lists, and probes.
use Rattle.std.proofs.Common.{◌≡◌, ℕ, inl, inr, Bool, true, false, List, [], ◌∷◌, ◌++◌, map, Option, None, Some, refl, ap, ◌∙◌, sym, subst, ⊎_elim}
use Rattle.std.specs.Prelude.{MatchBool, MatchOption, option_map}
use Rattle.std.proofs.lemmas.List.{map-append}
use Rattle.std.proofs.lemmas.Option.{same_Some}
use Rattle.map_types.specs.declared.attr.Shape.{Shape}
use Rattle.map_types.specs.declared.kind.DomainId.{DomainId}
use Rattle.map_types.specs.declared.row.Row.{Row}
use Rattle.place_words.specs.declared.free_part.FreePart.TheVariants.{Popped}
use Rattle.place_words.specs.declared.bucket_part.Put.{Put}
use Rattle.place_words.specs.declared.bucket_part.Put.TheVariants as puts
use Rattle.place_words.specs.declared.history.LockHistory.{LockHistory}
use Rattle.place_words.specs.declared.history.Part.{Part}
use Rattle.place_words.specs.declared.visits.Try.{Try}
use Rattle.place_words.specs.Evicting.{FreesOne}
use Rattle.place_words.specs.Interleaving.{Drawn, turn_of}
use Rattle.place_words.specs.PlainTraces.{found_empty, pushes, LooksFor}
use Rattle.place_words.specs.Takings.{Acquires, Chase, evicts, Frees, FreesPending, FreesFlushed, freed_globally, IsChased, Steals, brings_home, stolen_element, stored_hash, TakesFree}
use Rattle.place_words.specs.Turns.{Turn, TurnAt, turns_of, on_lock, on_freelist_of}
use Rattle.turn_order.proofs.Members.{IsAmong}
use Rattle.step_check.proofs.PlacedTurns.{at_of}
use Rattle.one_map.specs.CallTurns.{is_on_keys}

-- none is a turn on keys
abbrev pub AreAside : List Turn → Type 0
AreAside [] = Unit {0}
AreAside (turn ∷ turns) = (is_on_keys turn.part ≡ false) × AreAside turns

-- at most one is
abbrev pub HaveOne : List Turn → Type 0
HaveOne [] = Unit {0}
HaveOne (turn ∷ turns) = MatchBool (is_on_keys turn.part) (AreAside turns) (HaveOne turns)

either : (b : Bool) {P Q R : Type 0} → MatchBool b P Q → (P → R) → (Q → R) → R
either true may hit miss = hit may
either false may hit miss = miss may

both_ways : (b : Bool) {P Q : Type 0} → P → Q → MatchBool b P Q
both_ways true hit miss = hit
both_ways false hit miss = miss

pub aside_one : (turns : List Turn) → AreAside turns → HaveOne turns
aside_one [] aside = tt
aside_one (turn ∷ turns) aside = both_ways (is_on_keys turn.part) aside.1 (aside_one turns aside.1)

pub one_among : (before : List Turn) (turn : Turn) (later : List Turn) → AreAside before → AreAside later → HaveOne (before ++ turn ∷ later)
one_among [] turn later first more = both_ways (is_on_keys turn.part) more (aside_one later more)
one_among (other ∷ before) turn later first more =
    subst (λ (b : Bool). MatchBool b (AreAside (before ++ turn ∷ later)) (HaveOne (before ++ turn ∷ later))) (sym first.0) (one_among before turn later first.1 more)

pub one_behind : (before rest : List Turn) → AreAside before → HaveOne rest → HaveOne (before ++ rest)
one_behind [] rest first more = more
one_behind (other ∷ before) rest first more = subst (λ (b : Bool). MatchBool b (AreAside (before ++ rest)) (HaveOne (before ++ rest))) (sym first.0) (one_behind before rest first.1 more)

pub aside_among : (turns : List Turn) → AreAside turns → (turn : Turn) → IsAmong turn turns → is_on_keys turn.part ≡ false
aside_among [] aside turn there = absurd there
aside_among (other ∷ turns) aside turn (inl same) = subst (λ (t : Turn). is_on_keys t.part ≡ false) same aside.0
aside_among (other ∷ turns) aside turn (inr later) = aside_among turns aside.1 turn later

-- of turns in the order of tickets
pub turn_among : (histories : List LockHistory) (x : Drawn) (xs : List Drawn) → IsAmong x xs → IsAmong (turn_of x) (turns_of (map (at_of histories) xs))
turn_among histories x [] there = absurd there
turn_among histories x (y ∷ xs) (inl same) = inl (ap turn_of same)
turn_among histories x (y ∷ xs) (inr later) = inr (turn_among histories x xs later)

pub clash : {P : Type 0} (b : Bool) → b ≡ true → b ≡ false → P
clash b is is_not = absurd (let never : true ≡ false = sym is ∙ is_not in cc)

pub same_one : (histories : List LockHistory) (xs : List Drawn) → HaveOne (turns_of (map (at_of histories) xs)) → (x y : Drawn) → IsAmong x xs → IsAmong y xs
    → is_on_keys x.entry.part ≡ true → is_on_keys y.entry.part ≡ true → x ≡ y
same_one histories [] one x y first second on on_too = absurd first
same_one histories (z ∷ xs) one x y (inl same) (inl same_too) on on_too = sym same ∙ same_too
same_one histories (z ∷ xs) one x y (inl same) (inr later) on on_too = by (is_on_keys z.entry.part) (subst (λ (d : Drawn). is_on_keys d.entry.part ≡ true) (sym same) on) one
  where
    by : (b : Bool) → b ≡ true → MatchBool b (AreAside (turns_of (map (at_of histories) xs))) (HaveOne (turns_of (map (at_of histories) xs))) → x ≡ y
    by true is aside = clash (is_on_keys y.entry.part) on_too (aside_among (turns_of (map (at_of histories) xs)) aside (turn_of y) (turn_among histories y xs later))
    by false is aside = absurd cc
same_one histories (z ∷ xs) one x y (inr later) (inl same) on on_too = by (is_on_keys z.entry.part) (subst (λ (d : Drawn). is_on_keys d.entry.part ≡ true) (sym same) on_too) one
  where
    by : (b : Bool) → b ≡ true → MatchBool b (AreAside (turns_of (map (at_of histories) xs))) (HaveOne (turns_of (map (at_of histories) xs))) → x ≡ y
    by true is aside = clash (is_on_keys x.entry.part) on (aside_among (turns_of (map (at_of histories) xs)) aside (turn_of x) (turn_among histories x xs later))
    by false is aside = absurd cc
same_one histories (z ∷ xs) one x y (inr later) (inr later_too) on on_too = by (is_on_keys z.entry.part) one (λ rest. same_one histories xs rest x y later later_too on on_too)
  where
    by : (b : Bool) → MatchBool b (AreAside (turns_of (map (at_of histories) xs))) (HaveOne (turns_of (map (at_of histories) xs))) → (HaveOne (turns_of (map (at_of histories) xs)) → x ≡ y) → x ≡ y
    by true aside go = clash (is_on_keys x.entry.part) on (aside_among (turns_of (map (at_of histories) xs)) aside (turn_of x) (turn_among histories x xs later))
    by false rest go = go rest

module _ (shape : Shape) where
  pub both : (one rest : List Turn) → AreAside one → AreAside rest → AreAside (one ++ rest)
  both [] rest first more = more
  both (turn ∷ one) rest first more = (first.0, both one rest first.1 more)

  all_aside : (one turns : List Turn) → turns ≡ one → AreAside one → AreAside turns
  all_aside one turns is home = subst (λ (l : List Turn). AreAside l) (sym is) home

  pub none_aside : (turns : List Turn) → turns ≡ [] → AreAside turns
  none_aside turns none = all_aside [] turns none tt

  pub none_at : (turns : List TurnAt) → turns ≡ [] → AreAside (turns_of turns)
  none_at turns none = subst (λ (l : List TurnAt). AreAside (turns_of l)) (sym none) tt

  both_at : (one rest turns : List TurnAt) → turns ≡ one ++ rest → AreAside (turns_of one) → AreAside (turns_of rest) → AreAside (turns_of turns)
  both_at one rest turns is first more =
      all_aside (turns_of one ++ turns_of rest) (turns_of turns) (ap (λ (l : List TurnAt). turns_of l) is ∙ map-append (λ (at : TurnAt). at.turn) one rest) (both (turns_of one) (turns_of rest) first more)

  -- a turn that is no turn on keys, with those behind it
  abbrev Aside : Turn → Type 0
  Aside turn = is_on_keys turn.part ≡ false

  then_at : (first : TurnAt) (turn : Turn) (rest turns : List TurnAt) → turns ≡ first ∷ rest → first.turn ≡ turn → Aside turn → AreAside (turns_of rest) → AreAside (turns_of turns)
  then_at first turn rest turns is first_is aside more =
      subst (λ (l : List TurnAt). AreAside (turns_of l)) (sym is) (subst Aside (sym first_is) aside, more)

  then_last : (one : List TurnAt) (last : TurnAt) (turn : Turn) (turns : List TurnAt) → turns ≡ one ++ last ∷ [] → last.turn ≡ turn → Aside turn → AreAside (turns_of one) → AreAside (turns_of turns)
  then_last one last turn turns is last_is aside more = both_at one (last ∷ []) turns is more (subst Aside (sym last_is) aside, tt)

  -- Of a map that doesn't evict
  empty_aside : (cpus : List ℕ) → AreAside (found_empty cpus)
  empty_aside [] = tt
  empty_aside (c ∷ cpus) = (refl, empty_aside cpus)

  pub pushes_aside : (cpu : ℕ) (gone : Option ℕ) → AreAside (pushes cpu gone)
  pushes_aside cpu None = tt
  pushes_aside cpu (Some e) = (refl, tt)

  pub looks_aside : (cpu : ℕ) (spare : Option ℕ) (put : Put) (turns : List Turn) → LooksFor shape cpu spare put turns → AreAside turns
  looks_aside cpu spare (puts.Added e) turns looks =
      all_aside (found_empty looks.passed ++ on_freelist_of looks.giver (Popped e) ∷ []) turns looks.turns_are (both (found_empty looks.passed) (on_freelist_of looks.giver (Popped e) ∷ []) (empty_aside looks.passed) (refl, tt))
  looks_aside cpu spare (puts.Replaced new old) turns looks = none_aside turns looks.0
  looks_aside cpu spare (puts.Written e) turns looks = none_aside turns looks
  looks_aside cpu spare puts.Exists turns looks = none_aside turns looks
  looks_aside cpu spare puts.Absent turns looks = none_aside turns looks
  looks_aside cpu spare puts.Full turns looks = subst (λ (l : List Turn). AreAside l) (sym looks) (empty_aside _)

  -- Of a map that evicts: probes are of the bucket of a hash
  chase_aside : (rows : List Row) (probes : List Try) (turns : List Turn) → Chase shape rows probes turns → AreAside turns
  chase_aside rows [] [] chase = tt
  chase_aside rows [] (turn ∷ turns) chase = absurd chase
  chase_aside rows (probe ∷ probes) [] chase = absurd chase
  chase_aside rows (probe ∷ probes) (turn ∷ turns) chase = (by (stored_hash probe.element rows) chase.0, chase_aside rows probes turns chase.1)
    where
      by : (hash : Option ℕ) → option_map (evicts shape probe) hash ≡ Some turn → Aside turn
      by None is = absurd cc
      by (Some hash) is = subst Aside (same_Some _ turn is) refl

  chased_aside : (lock : DomainId) (part : Part) (turns : List TurnAt) → is_on_keys part ≡ false → IsChased shape lock part turns → AreAside (turns_of turns)
  chased_aside lock part turns aside chased =
      then_last chased.probing chased.last (on_lock lock part) turns chased.turns_are chased.last_is aside (chase_aside _ _ (turns_of chased.probing) chased.chase)

  steals_aside : (cpu hash : ℕ) (cpus : List ℕ) (got : Option ℕ) (turns : List TurnAt) → Steals shape cpu hash cpus got turns → AreAside (turns_of turns)
  steals_aside cpu hash [] got turns steals = none_at turns steals.0
  steals_aside cpu hash (from ∷ others) got turns steals =
      both_at steals.0 steals.1 turns steals.5 (chased_aside _ _ steals.0 refl steals.6)
      (by steals.1 (stolen_element steals.2) (λ more. steals_aside cpu hash others got steals.1 more) steals.7)
    where
      by : (rest : List TurnAt) (stolen : Option ℕ) {P : Type 0} → (P → AreAside (turns_of rest)) → MatchOption stolen P (λ e. (got ≡ Some e) × (turns_of rest ≡ brings_home shape cpu hash from e ∷ [])) → AreAside (turns_of rest)
      by rest None go may = go may
      by rest (Some e) go may = subst (λ (l : List Turn). AreAside l) (sym may.1) (refl, tt)

  free_aside : (cpu hash : ℕ) (got : Option ℕ) (turns : List TurnAt) → TakesFree cpu hash got turns → AreAside (turns_of turns)
  free_aside cpu hash None turns takes = absurd takes
  free_aside cpu hash (Some e) turns takes = subst (λ (l : List Turn). AreAside l) (sym takes) (refl, tt)

  pub acquires_aside : (cpu hash : ℕ) (got : Option ℕ) (turns : List TurnAt) → Acquires shape cpu hash got turns → AreAside (turns_of turns)
  acquires_aside cpu hash got turns acquires =
      either shape.common acquires
      (λ shared. ⊎_elim
      (λ takes. free_aside cpu hash got turns takes)
      (λ refilled.
      both_at refilled.refilling refilled.stealing turns refilled.turns_are
      (then_last refilled.refills.inner refilled.refills.last _ refilled.refilling refilled.refills.turns_are refilled.refills.last_is refl (chased_aside _ _ refilled.refills.inner refl refilled.refills.chased))
      (stolen refilled.stealing refilled.gave (λ steals. steals_aside cpu hash _ got refilled.stealing steals) refilled.steals))
      shared)
      (λ takes. chased_aside _ _ turns refl takes.chased)
    where
      stolen : (rest : List TurnAt) (gave : Option ℕ) {P : Type 0} → (P → AreAside (turns_of rest)) → MatchOption gave P (λ e. (rest ≡ []) × (got ≡ Some e)) → AreAside (turns_of rest)
      stolen rest None go may = go may
      stolen rest (Some e) go may = none_at rest may.0

  pub frees_aside : (e : ℕ) (turns : List TurnAt) → Frees shape e turns → AreAside (turns_of turns)
  frees_aside e turns frees =
      either shape.common frees
      (λ shared. ⊎_elim
      (λ (pending : FreesPending e turns). subst (λ (l : List Turn). AreAside l) (sym pending.turns_are) (refl, tt))
      (λ others. ⊎_elim
      (λ (flushed : FreesFlushed e turns).
      then_at flushed.first _ (flushed.second ∷ []) turns flushed.turns_are flushed.first_is refl (subst Aside (sym flushed.second_is) refl, tt))
      (λ (one : turns_of turns ≡ freed_globally e ∷ []). subst (λ (l : List Turn). AreAside l) (sym one) (refl, tt))
      others)
      shared)
      (λ own. subst (λ (l : List Turn). AreAside l) (sym own) (refl, tt))

  pub frees_one_aside : (gone : Option ℕ) (turns : List TurnAt) → FreesOne shape gone turns → AreAside (turns_of turns)
  frees_one_aside None turns frees = none_at turns frees
  frees_one_aside (Some e) turns frees = frees_aside e turns frees
