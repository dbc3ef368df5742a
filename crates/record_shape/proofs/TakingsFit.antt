-- How elements are taken for new keys, and freed: the turns of that fit, and so does the element that was taken.
use Rattle.std.proofs.Common.{◌≡◌, ◌⊎◌, ℕ, Bool, true, false, List, [], ◌∷◌, ◌++◌, map, refl, sym, subst, inl, inr}
use Rattle.std.specs.Prelude.{All, Option, None, Some, MatchBool, MatchOption, option_map}
use Rattle.std.proofs.lemmas.List.Elements.{All-nil}
use Rattle.std.proofs.lemmas.Option.{none-some, same_Some}
use Rattle.map_types.specs.declared.attr.Shape.{Shape}
use Rattle.map_types.specs.declared.kind.DomainId.{DomainId}
use Rattle.map_types.specs.declared.kind.DomainId.TheVariants.{CpuLru, Global, Local}
use Rattle.map_types.specs.declared.row.Row.{Row}
use Rattle.key_hash.specs.Bucket.{bucket_number}
use Rattle.place_words.specs.Evicting.{FreesOne}
use Rattle.place_words.specs.Globals.{flush_visit}
use Rattle.place_words.specs.Histories.{Content, in_bucket, on_freelist, in_locals, in_global, in_own}
use Rattle.place_words.specs.Locals.{LocalLists}
use Rattle.place_words.specs.Takings.{Acquires, Chase, Frees, FreesFlushed, FreesPending, IsChased, Refills, Steals, TakesByRefill, TakesFree, TakesOwn, brings_home, evicts, freed_by, freed_globally, listed_rows, probes_of, ring_next, rows_brought, set_of, stolen_element, stored_hash}
use Rattle.place_words.specs.Turns.{Turn, TurnAt, turns_of, found, on_lock, ring}
use Rattle.place_words.specs.Walks.{FreesAll}
use Rattle.place_words.specs.declared.bucket_part.BucketPart.TheVariants.{Evict}
use Rattle.place_words.specs.declared.history.Part.{Part}
use Rattle.place_words.specs.declared.history.Part.TheVariants as parts
use Rattle.place_words.specs.declared.list_part.GlobalPart.{GlobalPart}
use Rattle.place_words.specs.declared.list_part.GlobalPart.TheVariants as global
use Rattle.place_words.specs.declared.list_part.LocalPart.{LocalPart}
use Rattle.place_words.specs.declared.list_part.LocalPart.TheVariants as local
use Rattle.place_words.specs.declared.list_part.OwnPart.{OwnPart}
use Rattle.place_words.specs.declared.list_part.OwnPart.TheVariants as own
use Rattle.place_words.specs.declared.list_part.Stolen.{Stolen}
use Rattle.place_words.specs.declared.list_part.Stolen.TheVariants.{Free, Nothing, Pending}
use Rattle.place_words.specs.declared.visits.Try.{Try}
use Rattle.record_shape.specs.Fits.{AllFit}
use Rattle.record_shape.specs.ShapedParts.{AreElements, FlushFits, GlobalFits, IsElement, LocalFits, OptionFits, OwnFits, PartFits, StolenFits}
use Rattle.record_shape.proofs.ListParts.{GlobalKnown, LocalKnown, PartKnown, flushed_known, global_fits, local_fits, own_fits, probe_elements}
use Rattle.record_shape.proofs.ListWalks.{ProbeFits, ProbeNames, ProbesFit, all_fit, fit_all}
use Rattle.record_shape.proofs.SaysLaws.{both_fit}
use Rattle.record_shape.proofs.BucketsFit.{AreRight, Fitting, FitsAnywhere, Known, Lies, Right, TurnsFit, all_split, bucket_anywhere, fit_where, lies_there, told_fit}

-- ---- parts of lists, where they lie

local_lies : (shape : Shape) (cpu : ℕ) → Known shape cpu → (part : LocalPart) → LocalKnown shape part → (content : Content)
    → Lies shape cpu (parts.Local part) content
    → ProbesFit shape (parts.Local part) → LocalFits shape part
local_lies shape cpu known part beside (in_bucket bodies) lies probed = absurd lies.allowed
local_lies shape cpu known part beside (on_freelist stack) lies probed = absurd lies.allowed
local_lies shape cpu known part beside (in_locals lists) lies probed =
    local_fits shape known.bounds cpu part lists lies.allowed lies.before lies.after lies.fits.0 lies.says beside probed
local_lies shape cpu known part beside (in_global set) lies probed = absurd lies.allowed
local_lies shape cpu known part beside (in_own set) lies probed = absurd lies.allowed

global_lies : (shape : Shape) (cpu : ℕ) → Known shape cpu → (part : GlobalPart) → GlobalKnown shape part → (content : Content)
    → Lies shape cpu (parts.Global part) content
    → ProbesFit shape (parts.Global part) → GlobalFits shape part
global_lies shape cpu known part beside (in_bucket bodies) lies probed = absurd lies.allowed
global_lies shape cpu known part beside (on_freelist stack) lies probed = absurd lies.allowed
global_lies shape cpu known part beside (in_locals lists) lies probed = absurd lies.allowed
global_lies shape cpu known part beside (in_global set) lies probed = global_fits shape known.bounds cpu part set lies.allowed lies.before lies.after beside probed
global_lies shape cpu known part beside (in_own set) lies probed = absurd lies.allowed

own_lies : (shape : Shape) (cpu : ℕ) → Known shape cpu → (part : OwnPart) → (content : Content) → Lies shape cpu (parts.Own part) content
    → ProbesFit shape (parts.Own part) → OwnFits shape part
own_lies shape cpu known part (in_bucket bodies) lies probed = absurd lies.allowed
own_lies shape cpu known part (on_freelist stack) lies probed = absurd lies.allowed
own_lies shape cpu known part (in_locals lists) lies probed = absurd lies.allowed
own_lies shape cpu known part (in_global set) lies probed = absurd lies.allowed
own_lies shape cpu known part (in_own set) lies probed = own_fits shape known.bounds cpu part set lies.allowed lies.before lies.after lies.says probed

-- what a push has to know of its element
push_known : (shape : Shape) (e : ℕ) (is_done : Bool) → IsElement shape e → LocalKnown shape (local.Push e is_done)
push_known shape e true real = tt
push_known shape e false real = real

-- ---- cases

pub by_cases : (b : Bool) (A B C : Type 0) → (A → C) → (B → C) → MatchBool b A B → C
by_cases true A B C first second it = first it
by_cases false A B C first second it = second it

pub by_option : {X : Type 0} (found : Option X) (A C : Type 0) (B : X → Type 0) → (A → C) → ((x : X) → found ≡ Some x → B x → C) → MatchOption found A B → C
by_option None A C B first second it = first it
by_option (Some x) A C B first second it = second x refl it

-- turns that stand one after another
pub right_split : (shape : Shape) (cpu : ℕ) (turns one rest : List TurnAt) → turns ≡ one ++ rest → AreRight shape cpu turns
    → AreRight shape cpu one × AreRight shape cpu rest
right_split shape cpu turns one rest is right = all_split (Right shape cpu) one rest (subst (AreRight shape cpu) is right)

pub fit_joined : (shape : Shape) (turns one rest : List TurnAt) → turns ≡ one ++ rest → TurnsFit shape one → TurnsFit shape rest → TurnsFit shape turns
fit_joined shape turns one rest is first second =
    subst (TurnsFit shape) (sym is) (both_fit (λ (at : TurnAt). Fitting shape at.turn) one rest first second)

pub none_fit : (shape : Shape) (turns : List TurnAt) → turns ≡ [] → TurnsFit shape turns
none_fit shape turns is = subst (TurnsFit shape) (sym is) tt

-- a turn of any lock, by what is said of its part where it lies
pub lies_anywhere : (shape : Shape) (cpu : ℕ) (lock : DomainId) (part : Part)
    → ((content : Content) → Lies shape cpu part content → PartFits shape lock part) → FitsAnywhere shape cpu (on_lock lock part)
lies_anywhere shape cpu lock part fits at is right = fits (found shape at) (lies_there shape cpu at (on_lock lock part) is right)

pub one_fits : (shape : Shape) (cpu : ℕ) (lock : DomainId) (part : Part) (turns : List TurnAt) → turns_of turns ≡ on_lock lock part ∷ []
    → ((content : Content) → Lies shape cpu part content → PartFits shape lock part) → AreRight shape cpu turns → TurnsFit shape turns
one_fits shape cpu lock part turns is fits right = fit_where shape cpu turns (on_lock lock part ∷ []) is (lies_anywhere shape cpu lock part fits, tt) right

-- and what is told of it
pub one_told : (shape : Shape) (lock : DomainId) (part : Part) (turns : List TurnAt) → turns_of turns ≡ on_lock lock part ∷ [] → TurnsFit shape turns
    → PartFits shape lock part
one_told shape lock part turns is fits = (told_fit shape turns (on_lock lock part ∷ []) is fits).0

-- ---- probes and their turns

-- which turn a probe has
probe_turn : (shape : Shape) (probe : Try) (found : Option ℕ) (turn : Turn) → option_map (evicts shape probe) found ≡ Some turn
    → (hash : ℕ) × (evicts shape probe hash ≡ turn)
probe_turn shape probe None turn is = absurd (none-some turn is)
probe_turn shape probe (Some hash) turn is = (hash, same_Some (evicts shape probe hash) turn is)

module _ (shape : Shape) (cpu : ℕ) (known : Known shape cpu) (rows : List Row) where
  -- the turns of probes of elements of the map
  chase_anywhere : (probes : List Try) (told : List Turn) → Chase shape rows probes told → AllFit (ProbeNames shape) probes → AllFit (FitsAnywhere shape cpu) told
  chase_anywhere [] [] chase real = tt
  chase_anywhere [] (turn ∷ told) chase real = absurd chase
  chase_anywhere (probe ∷ probes) [] chase real = absurd chase
  chase_anywhere (probe ∷ probes) (turn ∷ told) chase real =
      let evicting = probe_turn shape probe (stored_hash probe.element rows) turn chase.0 in (
        subst (FitsAnywhere shape cpu) evicting.1
            (bucket_anywhere shape cpu known (bucket_number evicting.0 shape.buckets) (Evict probe.element probe.probed) real.0),
        chase_anywhere probes told chase.1 real.1,
      )

  -- what these turns say of the probes
  chase_probed : (probes : List Try) (told : List Turn) → Chase shape rows probes told → AllFit (Fitting shape) told → AllFit (ProbeFits shape) probes
  chase_probed [] [] chase fits = tt
  chase_probed [] (turn ∷ told) chase fits = absurd chase
  chase_probed (probe ∷ probes) [] chase fits = absurd chase
  chase_probed (probe ∷ probes) (turn ∷ told) chase fits =
      let evicting = probe_turn shape probe (stored_hash probe.element rows) turn chase.0 in
      ((subst (Fitting shape) (sym evicting.1) fits.0).1, chase_probed probes told chase.1 fits.1)

-- a turn of lists with the turns of its probes
chased_fits : (shape : Shape) (cpu : ℕ) → Known shape cpu → (lock : DomainId) (part : Part) (turns : List TurnAt) → IsChased shape lock part turns
    → PartKnown shape part → ((content : Content) → Lies shape cpu part content → ProbesFit shape part → PartFits shape lock part)
    → AreRight shape cpu turns → TurnsFit shape turns × PartFits shape lock part
chased_fits shape cpu known lock part turns chased beside fits right =
    let split = right_split shape cpu turns chased.probing (chased.last ∷ []) chased.turns_are right in
    let rows : List Row = rows_brought part ++ listed_rows (found shape chased.last) in
    let probes : List Try = probes_of part in
    let probing : List Turn = turns_of chased.probing in
    let lies : Lies shape cpu part (found shape chased.last) = lies_there shape cpu chased.last (on_lock lock part) chased.last_is split.1.0 in
    let real = all_fit (ProbeNames shape) probes (probe_elements shape cpu part (found shape chased.last) lies.allowed lies.before beside) in
    let anywhere = chase_anywhere shape cpu known rows probes probing chased.chase real in
    let fit : TurnsFit shape chased.probing = fit_where shape cpu chased.probing probing refl anywhere split.0 in
    let probed = chase_probed shape cpu known rows probes probing chased.chase (told_fit shape chased.probing probing refl fit) in
    let last_fits : PartFits shape lock part = fits (found shape chased.last) lies (fit_all (ProbeFits shape) probes probed) in (
      fit_joined shape turns chased.probing (chased.last ∷ []) chased.turns_are fit (subst (Fitting shape) (sym chased.last_is) last_fits, tt),
      last_fits,
    )

-- ---- taking

-- what was taken is an element, and the turns of it fit
abbrev pub Takes : Shape → Option ℕ → List TurnAt → Type 0
Takes shape got turns = TurnsFit shape turns × OptionFits shape.elements got

module _ (shape : Shape) (cpu : ℕ) (known : Known shape cpu) where
  -- from a list set of the own CPU
  takes_own : (hash : ℕ) (got : Option ℕ) (turns : List TurnAt) → TakesOwn shape cpu hash got turns → AreRight shape cpu turns → Takes shape got turns
  takes_own hash got turns takes right =
      let part : OwnPart = own.Turn hash takes.active takes.inactive takes.shrink got in
      let fits = chased_fits shape cpu known (CpuLru cpu) (parts.Own part) turns takes.chased tt (own_lies shape cpu known part) right in
      (fits.0, fits.1.4)

  -- from the own local free list
  takes_free : (hash : ℕ) (got : Option ℕ) (turns : List TurnAt) → TakesFree cpu hash got turns → AreRight shape cpu turns → Takes shape got turns
  takes_free hash None turns takes right = absurd takes
  takes_free hash (Some e) turns takes right =
      let part : LocalPart = local.Pop hash e in
      let fits =
      one_fits shape cpu (Local cpu) (parts.Local part) turns takes
      (λ content lies. local_lies shape cpu known part tt content lies (All-nil (ProbeFits shape))) right in
      (fits, (one_told shape (Local cpu) (parts.Local part) turns takes fits).1)

  -- by a refill: what it flushes was pending
  refills_fit : (hash : ℕ) (lists : LocalLists) (got : Option ℕ) (turns : List TurnAt) → Refills shape cpu hash lists got turns
      → AreRight shape cpu turns → Takes shape got turns
  refills_fit hash lists got turns refills right =
      let split = right_split shape cpu turns refills.inner (refills.last ∷ []) refills.turns_are right in
      let part : LocalPart = local.Refill hash (map flush_visit refills.flushed) (refills.free ++ freed_by refills.shrink) got in
      let whole : GlobalPart = global.Turn refills.flushed refills.active refills.inactive refills.free refills.shrink in
      let lies : Lies shape cpu (parts.Local part) (in_locals lists) =
      subst (Lies shape cpu (parts.Local part)) refills.found_there
      (lies_there shape cpu refills.last (on_lock (Local cpu) (parts.Local part)) refills.last_is split.1.0) in
      let flushed : All (FlushFits shape) refills.flushed = flushed_known shape lists refills.flushed lies.before lies.fits.0 refills.with_hashes in
      let inner = chased_fits shape cpu known Global (parts.Global whole) refills.inner refills.chased flushed (global_lies shape cpu known whole flushed) split.0 in
      let fits : LocalFits shape part = local_lies shape cpu known part tt (in_locals lists) lies (All-nil (ProbeFits shape)) in (
        fit_joined shape turns refills.inner (refills.last ∷ []) refills.turns_are inner.0 (subst (Fitting shape) (sym refills.last_is) fits, tt),
        fits.3,
      )

  stolen_real : (stolen : Stolen) → StolenFits shape stolen → OptionFits shape.elements (stolen_element stolen)
  stolen_real (Free e) fits = fits
  stolen_real (Pending e) fits = fits
  stolen_real Nothing fits = tt

  brought_home : (hash from e : ℕ) (turns : List TurnAt) → turns_of turns ≡ brings_home shape cpu hash from e ∷ [] → AreRight shape cpu turns → TurnsFit shape turns
  brought_home hash from e turns is right =
      let part : LocalPart = local.Add hash e (ring_next from shape.cpus) in
      one_fits shape cpu (Local cpu) (parts.Local part) turns is (λ content lies. local_lies shape cpu known part tt content lies (All-nil (ProbeFits shape))) right

  -- by a round of thefts
  steals_fit : (hash : ℕ) (others : List ℕ) (got : Option ℕ) (turns : List TurnAt) → Steals shape cpu hash others got turns
      → AreRight shape cpu turns → Takes shape got turns
  steals_fit hash [] got turns steals right = (none_fit shape turns steals.0, subst (OptionFits shape.elements) (sym steals.1) tt)
  steals_fit hash (from ∷ others) got turns (tried, rest, stolen, first, second, turns_are, chased, goes_on) right =
      let split = right_split shape cpu turns tried rest turns_are right in
      let part : LocalPart = local.Steal stolen first second in
      let theft = chased_fits shape cpu known (Local from) (parts.Local part) tried chased tt (local_lies shape cpu known part tt) split.0 in
      let real : OptionFits shape.elements (stolen_element stolen) = stolen_real stolen theft.1.0 in
      let after : Takes shape got rest = by_option (stolen_element stolen) (Steals shape cpu hash others got rest) (Takes shape got rest)
      (λ e. (got ≡ Some e) × (turns_of rest ≡ brings_home shape cpu hash from e ∷ []))
      (λ more. steals_fit hash others got rest more split.1)
      (λ e is brought. (brought_home hash from e rest brought.1 split.1, subst (OptionFits shape.elements) (sym brought.0) (subst (OptionFits shape.elements) is real)))
      goes_on in
      (fit_joined shape turns tried rest turns_are theft.0 after.0, after.1)

  takes_by_refill : (hash : ℕ) (got : Option ℕ) (turns : List TurnAt) → TakesByRefill shape cpu hash got turns → AreRight shape cpu turns → Takes shape got turns
  takes_by_refill hash got turns takes right =
      let split = right_split shape cpu turns takes.refilling takes.stealing takes.turns_are right in
      let refilled : Takes shape takes.gave takes.refilling = refills_fit hash takes.lists takes.gave takes.refilling takes.refills split.0 in
      let after : Takes shape got takes.stealing =
      by_option takes.gave (Steals shape cpu hash (ring takes.lists.steal shape.cpus) got takes.stealing) (Takes shape got takes.stealing)
      (λ e. (takes.stealing ≡ []) × (got ≡ Some e))
      (λ steals. steals_fit hash (ring takes.lists.steal shape.cpus) got takes.stealing steals split.1)
      (λ e is gave. (none_fit shape takes.stealing gave.0, subst (OptionFits shape.elements) (sym gave.1) (subst (OptionFits shape.elements) is refilled.1)))
      takes.steals in
      (fit_joined shape turns takes.refilling takes.stealing takes.turns_are refilled.0 after.0, after.1)

  -- an element is taken for a new key, or none is
  pub acquires_fit : (hash : ℕ) (got : Option ℕ) (turns : List TurnAt) → Acquires shape cpu hash got turns → AreRight shape cpu turns → Takes shape got turns
  acquires_fit hash got turns takes right =
      by_cases shape.common (TakesFree cpu hash got turns ⊎ TakesByRefill shape cpu hash got turns) (TakesOwn shape cpu hash got turns) (Takes shape got turns)
      shared (λ own. takes_own hash got turns own right) takes
    where
      shared : TakesFree cpu hash got turns ⊎ TakesByRefill shape cpu hash got turns → Takes shape got turns
      shared (inl free) = takes_free hash got turns free right
      shared (inr refill) = takes_by_refill hash got turns refill right

  -- ---- freeing

  -- on local lists, where it may be pending no more
  local_push : (on e : ℕ) (is_done : Bool) → IsElement shape e → FitsAnywhere shape cpu (on_lock (Local on) (parts.Local (local.Push e is_done)))
  local_push on e is_done real =
      lies_anywhere shape cpu (Local on) (parts.Local (local.Push e is_done))
      (λ content lies. local_lies shape cpu known (local.Push e is_done) (push_known shape e is_done real) content lies (All-nil (ProbeFits shape)))

  -- on a list set of a CPU
  own_push : (e : ℕ) → FitsAnywhere shape cpu (on_lock (CpuLru (set_of shape e)) (parts.Own (own.Push e)))
  own_push e =
      lies_anywhere shape cpu (CpuLru (set_of shape e)) (parts.Own (own.Push e))
      (λ content lies. own_lies shape cpu known (own.Push e) content lies (All-nil (ProbeFits shape)))

  -- on the global lists
  global_push : (e : ℕ) → FitsAnywhere shape cpu (freed_globally e)
  global_push e =
      lies_anywhere shape cpu Global (parts.Global (global.Push e))
      (λ content lies. global_lies shape cpu known (global.Push e) tt content lies (All-nil (ProbeFits shape)))

  frees_flushed : (e : ℕ) (turns : List TurnAt) → IsElement shape e → FreesFlushed e turns → AreRight shape cpu turns → TurnsFit shape turns
  frees_flushed e turns real frees right =
      let stand = subst (AreRight shape cpu) frees.turns_are right in
      subst (TurnsFit shape) (sym frees.turns_are) (
        subst (Fitting shape) (sym frees.first_is) (local_push frees.on e false real frees.first frees.first_is stand.0),
        (subst (Fitting shape) (sym frees.second_is) (global_push e frees.second frees.second_is stand.1.0), tt),
      )

  -- an element is freed
  pub frees_fit : (e : ℕ) (turns : List TurnAt) → IsElement shape e → Frees shape e turns → AreRight shape cpu turns → TurnsFit shape turns
  frees_fit e turns real frees right =
      by_cases shape.common (FreesPending e turns ⊎ (FreesFlushed e turns ⊎ (turns_of turns ≡ freed_globally e ∷ [])))
      (turns_of turns ≡ on_lock (CpuLru (set_of shape e)) (parts.Own (own.Push e)) ∷ []) (TurnsFit shape turns)
      shared
      (λ is. fit_where shape cpu turns (on_lock (CpuLru (set_of shape e)) (parts.Own (own.Push e)) ∷ []) is (own_push e, tt) right)
      frees
    where
      shared : FreesPending e turns ⊎ (FreesFlushed e turns ⊎ (turns_of turns ≡ freed_globally e ∷ [])) → TurnsFit shape turns
      shared (inl pending) =
          fit_where shape cpu turns (on_lock (Local pending.on) (parts.Local (local.Push e true)) ∷ []) pending.turns_are
          (local_push pending.on e true real, tt) right
      shared (inr (inl flushed)) = frees_flushed e turns real flushed right
      shared (inr (inr globally)) = fit_where shape cpu turns (freed_globally e ∷ []) globally (global_push e, tt) right

  pub frees_one : (gone : Option ℕ) (turns : List TurnAt) → OptionFits shape.elements gone → FreesOne shape gone turns → AreRight shape cpu turns
      → TurnsFit shape turns
  frees_one None turns real frees right = none_fit shape turns frees
  frees_one (Some e) turns real frees right = frees_fit e turns real frees right

  pub frees_all : (es : List ℕ) (turns : List TurnAt) → AreElements shape es → FreesAll shape es turns → AreRight shape cpu turns → TurnsFit shape turns
  frees_all [] turns real frees right = none_fit shape turns frees
  frees_all (e ∷ es) turns real (one, others, frees) right =
      let split = right_split shape cpu turns one others frees.0 right in
      fit_joined shape turns one others frees.0 (frees_fit e one real.0 frees.1 split.0) (frees_all es others real.1 frees.2 split.1)
