-- The state of the map at the start of each phase of a race: one from which a run in serial order may start.
use Rattle.std.proofs.Common.{◌≡◌, ◌≢◌, ◌⊎◌, ℕ, zero, suc, ◌<◌, ◌≤◌, true, false, List, [], ◌++◌, Option, Some, None, refl, ap, sym, ◌∙◌, subst, arith, inl, inr}
use Rattle.std.specs.Prelude.{All, IsSome, MatchOption, slice_get}
use Rattle.std.proofs.lemmas.Bool.{cases_lt, both_ways}
use Rattle.std.proofs.lemmas.List.Elements.{All-nil, All-append}
use Rattle.std.proofs.lemmas.Option.{none-some}
use Rattle.map_types.specs.Kind.{is_lru}
use Rattle.map_types.specs.Stored.{Stored}
use Rattle.map_types.specs.declared.attr.Shape.{Shape}
use Rattle.map_types.specs.declared.call.Call.{Call}
use Rattle.map_types.specs.declared.kind.MapKind.{MapKind}
use Rattle.map_types.specs.declared.kind.MapKind.TheVariants.{Hash, PercpuHash, LruHash, LruPercpuHash}
use Rattle.map_types.specs.declared.reply.Reply.{Reply}
use Rattle.map_script.specs.declared.script.Script.{Script}
use Rattle.place_words.specs.Openings.{first_spares}
use Rattle.place_words.proofs.ElementLemmas.{put_here}
use Rattle.place_table.specs.declared.view.Turned.{Turned}
use Rattle.place_table.specs.declared.view.View.{View}
use Rattle.place_table.specs.Calls.{element_of}
use Rattle.place_table.specs.Passes.{PassView, TableView, spare_of}
use Rattle.place_table.specs.Views.{is_in_hand_of}
use Rattle.map_report.specs.declared.record.PhaseStart.{PhaseStart}
use Rattle.run_records.specs.declared.pieces.Piece.{Piece}
use Rattle.run_records.specs.ByLogs.{IsOfMap}
use Rattle.run_records.specs.Parts.{lone_cpu}
use Rattle.run_records.specs.Phased.{IsWhole}
use Rattle.run_records.specs.Races.{calls_of, RanAlone, RanAtOnce, HaveComeTo}
use Rattle.serial_laws.proofs.HistoryTurns.{by_bool}
use Rattle.run_records.proofs.PhaseParts.{Done, done_in, done_last, done_before}
use Rattle.run_records.proofs.PhaseChain.{IsSound, earlier_or_last, sound_begun}
use Rattle.run_records.proofs.PhaseMoments.{real_turns}
use Rattle.run_records.proofs.SerialRun.{element_is, spare_first}
use Rattle.run_records.proofs.LoneCalls.{lone_within}

-- What is in hand between calls, and what spares there are

-- a kind that evicts isn't HASH
pub evicts_not : (kind : MapKind) → is_lru kind ≡ true → kind ≢ Hash
evicts_not kind lru hash = let plain : is_lru kind ≡ false = ap is_lru hash in both_ways (is_lru kind) plain lru

-- on a map that evicts nothing is in hand
pub empty_handed : (t : TableView) (p : PassView) → IsWhole t p → is_lru t.shape.kind ≡ true → (e c : ℕ) → c < t.shape.cpus → is_in_hand_of e c p.view.hand ≡ false
empty_handed t p whole lru e c real =
    by_bool (is_in_hand_of e c p.view.hand) (λ b. is_in_hand_of e c p.view.hand ≡ b → b ≡ false)
    (λ _ here.
    let kept = whole.in_no_call.spares_only e c (whole.all_cpus c real) here in
    absurd (evicts_not t.shape.kind lru (ap (λ (s : Shape). s.kind) (sym whole.of_table.1) ∙ kept.3)))
    (λ _ _. refl) refl

-- and on one that isn't HASH there are no spares
pub spareless_there : (t : TableView) (p : PassView) → IsWhole t p → t.shape.kind ≢ Hash → (c : ℕ) → c < t.shape.cpus → (spare : Option Stored) → spare_of c p.spares ≡ spare → spare ≡ None
spareless_there t p whole other c real None is = refl
spareless_there t p whole other c real (Some body) is =
    let in_hand = whole.in_no_call.spares_in_hand c body is in
    let kept = whole.in_no_call.spares_only body.element c (whole.all_cpus c real) in_hand in
    absurd (other (ap (λ (s : Shape). s.kind) (sym whole.of_table.1) ∙ kept.3))

-- on HASH each CPU has one
pub spare_there : (t : TableView) (p : PassView) → IsWhole t p → t.shape.kind ≡ Hash → (c : ℕ) → c < t.shape.cpus → IsSome (element_of (spare_of c p.spares))
spare_there t p whole hash c real =
    let kept = whole.in_no_call.none_out (ap (λ (s : Shape). s.kind) whole.of_table.1 ∙ hash) c (whole.all_cpus c real) in
    subst (λ (spare : Option Stored). IsSome (element_of spare)) (sym kept.1) refl

no_first : (shape : Shape) (kind : MapKind) → is_lru kind ≡ true → first_spares shape kind ≡ []
no_first shape Hash lru = absurd cc
no_first shape PercpuHash lru = refl
no_first shape LruHash lru = refl
no_first shape LruPercpuHash lru = refl

module _ (t : TableView) (script : Script) (some : 0 < t.shape.cpus) (served : (q : ℕ) → All (λ (call : Call). call.cpu < t.shape.cpus) (calls_of script q)) where
  abbrev shape : Shape
  shape = t.shape

  abbrev its : (p : ℕ) (now : PassView) (replies : List Reply) (starts : List PhaseStart) (pieces : List Piece) → HaveComeTo t script p now replies starts pieces → ℕ → Done
  its p now replies starts pieces come = done_in t script p now replies starts pieces come

  abbrev Ran : (p : ℕ) → Option ℕ → PassView → PassView → List Reply → List Piece → Type 0
  Ran p lone start now told pieces = MatchOption lone (RanAtOnce t script p start now told pieces) (λ cpu. RanAlone t script p cpu start now told pieces)

  -- nor are there any for CPUs that the map doesn't have
  abbrev HasNoneBeyond : PassView → Type 0
  HasNoneBeyond p = (c : ℕ) → shape.cpus ≤ c → element_of (spare_of c p.spares) ≡ None

  beyond_by : (p : ℕ) (lone : Option ℕ) → lone_cpu (calls_of script p) ≡ lone → (start now : PassView) (told : List Reply) (pieces : List Piece) → Ran p lone start now told pieces → HasNoneBeyond start → HasNoneBeyond now
  beyond_by p None is start now told pieces ran none c past = ap element_of (ran.raced.beyond c past) ∙ none c past
  beyond_by p (Some cpu) is start now told pieces ran none c past =
      let real = lone_within shape.cpus (calls_of script p) cpu some (served p) is in
      ap element_of (ran.worked.other_spares c (λ same. omega (arith, past, real, same))) ∙ none c past

  beyond_to : is_lru shape.kind ≡ true → (p : ℕ) (now : PassView) (replies : List Reply) (starts : List PhaseStart) (pieces : List Piece) → HaveComeTo t script p now replies starts pieces → HasNoneBeyond now
  beyond_to lru zero now replies starts pieces come c past =
      element_is (spare_of c now.spares) ∙ spare_first t now come.0 c (spare_of c now.spares) refl ∙ ap (λ (spares : List ℕ). slice_get spares c) (no_first shape shape.kind lru)
  beyond_to lru (suc p) now replies starts pieces come c past =
      beyond_by p (lone_cpu (calls_of script p)) refl come.1 now come.3 come.7 come.10
      (λ c past. ap (λ (spares : List (Option Stored)). element_of (spare_of c spares)) come.9.stays.spares ∙ beyond_to lru p come.0 come.2 come.4 come.6 come.8 c past) c past

  -- the turns of the strand under way are on locks of the map
  real_by : (p : ℕ) (lone : Option ℕ) (before start now : PassView) (told : List Reply) (pieces : List Piece) (ran : Ran p lone start now told pieces) → All (IsOfMap shape) start.view.steps
      → ((cpu : ℕ) → lone ≡ Some cpu → (made : List Turned) → now.view.steps ≡ start.view.steps ++ made → All (IsOfMap shape) made → All (IsOfMap shape) now.view.steps)
      → ((cpu : ℕ) (is : lone ≡ Some cpu) → (made : List Turned) × (now.view.steps ≡ start.view.steps ++ made) × All (IsOfMap shape) made) → (lone ≡ None → now.view.steps ≡ []) → All (IsOfMap shape) now.view.steps
  real_by p None before start now told pieces ran real step alone none = subst (All (IsOfMap shape)) (sym (none refl)) (All-nil (IsOfMap shape))
  real_by p (Some cpu) before start now told pieces ran real step alone none = let made = alone cpu refl in step cpu refl made.0 made.1 made.2

  no_steps_by : (p : ℕ) (lone : Option ℕ) (start now : PassView) (told : List Reply) (pieces : List Piece) → Ran p lone start now told pieces → lone ≡ None → now.view.steps ≡ []
  no_steps_by p None start now told pieces ran is = ran.raced.no_steps.0
  no_steps_by p (Some cpu) start now told pieces ran is = absurd (none-some cpu (sym is))

  made_by : (p : ℕ) (lone : Option ℕ) (start now : PassView) (told : List Reply) (pieces : List Piece) (ran : Ran p lone start now told pieces) (cpu : ℕ) → lone ≡ Some cpu
      → (now.view.steps ≡ start.view.steps ++ Rattle.run_records.proofs.PhaseParts.turns_by t script p lone start now told pieces ran cpu)
  made_by p None start now told pieces ran cpu is = absurd (none-some cpu is)
  made_by p (Some c) start now told pieces ran cpu is =
      let same : c ≡ cpu = Rattle.std.proofs.lemmas.Option.same_Some c cpu is in
      ran.worked.steps ∙ ap (λ (l : List Turned). start.view.steps ++ l) (sym (put_here (λ other. []) c ran.worked.made) ∙ ap (Rattle.map_types.specs.ElementLists.put (λ other. []) c ran.worked.made) same)

  pub real_to : (p : ℕ) (now : PassView) (replies : List Reply) (starts : List PhaseStart) (pieces : List Piece) → HaveComeTo t script p now replies starts pieces → IsSound now → All (IsOfMap shape) now.view.steps
  real_to zero now replies starts pieces come sound = subst (λ (v : View). All (IsOfMap shape) v.steps) (sym come.0.view_is) (All-nil (IsOfMap shape))
  real_to (suc p) now replies starts pieces come sound =
      let last = done_last t script p now replies starts pieces come in
      let was : IsSound come.0 = subst (λ (d : Done). IsSound d.was) last (sound_begun t script (suc p) now replies starts pieces come sound p (omega arith)).1 in
      let before : All (IsOfMap shape) come.1.view.steps = subst (All (IsOfMap shape)) (sym come.9.stays.steps) (real_to p come.0 come.2 come.4 come.6 come.8 was) in
      let lone : Option ℕ = lone_cpu (calls_of script p) in
      real_by p lone come.0 come.1 now come.3 come.7 come.10 before
      (λ cpu is made steps reals. subst (All (IsOfMap shape)) (sym steps) (All-append (IsOfMap shape) come.1.view.steps made before reals))
      (λ cpu is. (
        (its (suc p) now replies starts pieces come p).turns cpu,
        made_by p lone come.1 now come.3 come.7 come.10 cpu is ∙ ap (λ (d : Done). come.1.view.steps ++ d.turns cpu) (sym last),
        real_turns t script some served (suc p) now replies starts pieces come sound p cpu (omega arith) (lone_within shape.cpus (calls_of script p) cpu some (served p) is),
      ))
      (no_steps_by p lone come.1 now come.3 come.7 come.10)

  -- The same at the start of each phase

  -- what holds of a race that has come somewhere, as long as it is sound, holds at the start of each phase
  pub at_each : (P : PassView → Type 0) → ((p : ℕ) (now : PassView) (replies : List Reply) (starts : List PhaseStart) (pieces : List Piece) → HaveComeTo t script p now replies starts pieces → IsSound now → P now)
      → (p : ℕ) (now : PassView) (replies : List Reply) (starts : List PhaseStart) (pieces : List Piece) (come : HaveComeTo t script p now replies starts pieces) → IsSound now → (q : ℕ) → q < p → P (its p now replies starts pieces come q).was
  at_each P holds zero now replies starts pieces come sound q less = absurd (omega (arith, less))
  at_each P holds (suc p) now replies starts pieces come sound q less = by (earlier_or_last q p less) (at_each P holds p come.0 come.2 come.4 come.6 come.8 was q)
    where
      was : IsSound come.0
      was = subst (λ (d : Done). IsSound d.was) (done_last t script p now replies starts pieces come) (sound_begun t script (suc p) now replies starts pieces come sound p (omega arith)).1

      by : (q < p) ⊎ (q ≡ p) → (q < p → P (its p come.0 come.2 come.4 come.6 come.8 q).was) → P (its (suc p) now replies starts pieces come q).was
      by (inl low) rest = subst (λ (d : Done). P d.was) (sym (done_before t script p now replies starts pieces come q low)) (rest low)
      by (inr same) rest =
          subst (λ (r : ℕ). P (its (suc p) now replies starts pieces come r).was) (sym same)
          (subst (λ (d : Done). P d.was) (sym (done_last t script p now replies starts pieces come)) (holds p come.0 come.2 come.4 come.6 come.8 was))

  module _ (p : ℕ) (now : PassView) (replies : List Reply) (starts : List PhaseStart) (pieces : List Piece) (come : HaveComeTo t script p now replies starts pieces) (sound : IsSound now) (q : ℕ) (less : q < p) where
    pub real_was : All (IsOfMap shape) (its p now replies starts pieces come q).was.view.steps
    real_was = at_each (λ v. All (IsOfMap shape) v.view.steps) real_to p now replies starts pieces come sound q less

    pub spareless_was : is_lru shape.kind ≡ true → IsWhole t (its p now replies starts pieces come q).was → (c : ℕ) → element_of (spare_of c (its p now replies starts pieces come q).was.spares) ≡ None
    spareless_was lru whole c = elim (cases_lt c shape.cpus) [
      | inl real ↦ ap element_of (spareless_there t (its p now replies starts pieces come q).was whole (evicts_not shape.kind lru) c real (spare_of c (its p now replies starts pieces come q).was.spares) refl)
      | inr past ↦ at_each HasNoneBeyond (λ n v rs ss ps has _. beyond_to lru n v rs ss ps has) p now replies starts pieces come sound q less c past
    ]
