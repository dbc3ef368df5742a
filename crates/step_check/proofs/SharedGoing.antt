-- What holds between two turns of a race on a map whose CPUs share lists: where each call is, and of each refill under way what the turn of
-- the global lists inside it flushed and gained.
use Rattle.std.proofs.Common.{◌≡◌, ◌≢◌, ◌⊎◌, ℕ, true, false, List, [], ◌∷◌, ◌++◌, map, refl, ap, sym, subst, inl, inr}
use Rattle.std.specs.Prelude.{Option}
use Rattle.map_types.specs.declared.attr.Shape.{Shape}
use Rattle.map_types.specs.declared.kind.DomainId.{DomainId}
use Rattle.map_types.specs.declared.kind.DomainId.TheVariants.{Local, Global, CpuLru, Bucket, Freelist}
use Rattle.map_types.specs.ElementLists.{put}
use Rattle.place_words.specs.declared.history.Part.{Part}
use Rattle.place_words.specs.declared.history.Part.TheVariants as parts
use Rattle.place_words.specs.declared.list_part.GlobalPart.TheVariants as global
use Rattle.place_words.specs.declared.list_part.LocalPart.TheVariants as local
use Rattle.place_words.specs.declared.visits.Flush.{Flush}
use Rattle.place_words.specs.declared.visits.ShrinkNote.{ShrinkNote}
use Rattle.place_words.specs.declared.visits.Visit.{Visit}
use Rattle.place_words.specs.Choices.{among}
use Rattle.place_words.specs.Globals.{flush_visit, flushed_elements}
use Rattle.place_words.specs.Histories.{Content}
use Rattle.place_words.specs.RowMoves.{IsOnce}
use Rattle.place_words.specs.Turns.{Turn, TurnAt, on_lock}
use Rattle.place_words.specs.Interleaving.{Drawn, turn_of}
use Rattle.place_words.proofs.ElementLemmas.{at_put, put_else}
use Rattle.turn_order.specs.InCalls.{place}
use Rattle.core_runs.specs.SharedRaces.{Midst, midst_of_lock, midst_after}
use Rattle.core_runs.proofs.Chases.{head_is, tail_is}
use Rattle.step_check.proofs.Begun.{Stands}
use Rattle.step_check.proofs.SharedAround.{rest_of, rest_its, rest_other, NoAddition}
use Rattle.step_check.proofs.SharedNests.{Stage, idle, probing, filled, stage_after, Alone, Probed, May, AreNested}
use Rattle.step_check.proofs.LockSorts.{AreOfTheirSorts}

-- no turn of the global lists that is made inside a refill
abbrev pub IsOther : Part → Type 0
IsOther (parts.Bucket part) = Unit {0}
IsOther (parts.Free part) = Unit {0}
IsOther (parts.Local part) = Unit {0}
IsOther (parts.Global (global.Turn flushed active inactive free shrink)) = ⊥
IsOther (parts.Global (global.Push e)) = Unit {0}
IsOther (parts.Own part) = Unit {0}

-- What comes to local lists comes to those of the CPU itself

abbrev pub OwnBrings : ℕ → DomainId → Part → Type 0
OwnBrings cpu lock (parts.Bucket part) = Unit {0}
OwnBrings cpu lock (parts.Free part) = Unit {0}
OwnBrings cpu lock (parts.Local (local.Pop key e)) = lock ≡ Local cpu
OwnBrings cpu lock (parts.Local (local.Refill key flushed gained got)) = lock ≡ Local cpu
OwnBrings cpu lock (parts.Local (local.Steal got first second)) = Unit {0}
OwnBrings cpu lock (parts.Local (local.Add key e cursor)) = lock ≡ Local cpu
OwnBrings cpu lock (parts.Local (local.Push e done)) = Unit {0}
OwnBrings cpu lock (parts.Global part) = Unit {0}
OwnBrings cpu lock (parts.Own part) = Unit {0}

alone_own : (cpu : ℕ) (lock : DomainId) (part : Part) → Alone cpu lock part → OwnBrings cpu lock part
alone_own cpu lock (parts.Bucket part) may = tt
alone_own cpu lock (parts.Free part) may = tt
alone_own cpu lock (parts.Local (local.Pop key e)) may = may
alone_own cpu lock (parts.Local (local.Refill key flushed gained got)) may = absurd may
alone_own cpu lock (parts.Local (local.Steal got first second)) may = tt
alone_own cpu lock (parts.Local (local.Add key e cursor)) may = may
alone_own cpu lock (parts.Local (local.Push e done)) may = tt
alone_own cpu lock (parts.Global part) may = tt
alone_own cpu lock (parts.Own part) may = tt

probed_own : (cpu : ℕ) (lock : DomainId) (part : Part) → Probed lock part → OwnBrings cpu lock part
probed_own cpu lock (parts.Bucket part) may = tt
probed_own cpu lock (parts.Free part) may = tt
probed_own cpu lock (parts.Local (local.Pop key e)) may = absurd may
probed_own cpu lock (parts.Local (local.Refill key flushed gained got)) may = absurd may
probed_own cpu lock (parts.Local (local.Steal got first second)) may = tt
probed_own cpu lock (parts.Local (local.Add key e cursor)) may = absurd may
probed_own cpu lock (parts.Local (local.Push e done)) may = tt
probed_own cpu lock (parts.Global part) may = tt
probed_own cpu lock (parts.Own part) may = tt

may_own : (shape : Shape) (cpu : ℕ) (stage : Stage) (at : TurnAt) → May shape cpu stage at → OwnBrings cpu at.turn.lock at.turn.part
may_own shape cpu idle at may = alone_own cpu at.turn.lock at.turn.part may
may_own shape cpu probing at may = probed_own cpu at.turn.lock at.turn.part may
may_own shape cpu (filled flushed gained) at fills = subst (λ (t : Turn). OwnBrings cpu t.lock t.part) (sym fills.turn_is) refl

-- Where each call is

abbrev pub AllNested : Shape → (ℕ → ℕ) → (ℕ → Stage) → List Drawn → List Drawn → Type 0
AllNested shape cpu_of stage before later = (number : ℕ) → AreNested shape (cpu_of number) (stage number) (rest_of number before later)

abbrev pub stages_after : (ℕ → Stage) → Drawn → ℕ → Stage
stages_after stage x = put stage x.entry.call (stage_after x.entry.part)

abbrev pub HeadNest : Shape → (ℕ → ℕ) → (ℕ → Stage) → List Drawn → Drawn → List Drawn → Type 0
HeadNest shape cpu_of stage before x later =
    May shape (cpu_of x.entry.call) (stage x.entry.call) (place before x).at
    × AreNested shape (cpu_of x.entry.call) (stage_after x.entry.part) (rest_of x.entry.call (before ++ x ∷ []) later)

pub nest_head : (shape : Shape) (cpu_of : ℕ → ℕ) (stage : ℕ → Stage) (before : List Drawn) (x : Drawn) (later : List Drawn) → AllNested shape cpu_of stage before (x ∷ later) → HeadNest shape cpu_of stage before x later
nest_head shape cpu_of stage before x later nests =
    subst (AreNested shape (cpu_of x.entry.call) (stage x.entry.call)) (rest_its x.entry.call before x later refl) (nests x.entry.call)

pub nest_tail : (shape : Shape) (cpu_of : ℕ → ℕ) (stage : ℕ → Stage) (before : List Drawn) (x : Drawn) (later : List Drawn) → AllNested shape cpu_of stage before (x ∷ later) → AllNested shape cpu_of (stages_after stage x) (before ++ x ∷ []) later
nest_tail shape cpu_of stage before x later nests number =
    at_put stage x.entry.call (stage_after x.entry.part) (λ (j : ℕ) (s : Stage). AreNested shape (cpu_of j) s (rest_of j (before ++ x ∷ []) later)) number
    (nest_head shape cpu_of stage before x later nests).1
    (λ other. subst (AreNested shape (cpu_of number) (stage number)) (rest_other number before x later (λ same. other (sym same))) (nests number))

-- all turns of each call are of one CPU
abbrev pub AreByCpu : (ℕ → ℕ) → List Drawn → Type 0
AreByCpu cpu_of turns = (z : Drawn) → Stands z turns → z.entry.cpu ≡ cpu_of z.entry.call

abbrev pub AreOwn : List Drawn → Type 0
AreOwn turns = (z : Drawn) → Stands z turns → OwnBrings z.entry.cpu z.lock z.entry.part

pub own_all : (shape : Shape) (cpu_of : ℕ → ℕ) (stage : ℕ → Stage) (before turns : List Drawn) → AllNested shape cpu_of stage before turns → AreByCpu cpu_of turns → AreOwn turns
own_all shape cpu_of stage before [] nests its z at = absurd at
own_all shape cpu_of stage before (x ∷ later) nests its z (inl same) =
    subst (λ (d : Drawn). OwnBrings d.entry.cpu d.lock d.entry.part) same
    (subst (λ (c : ℕ). OwnBrings c x.lock x.entry.part) (sym (its x (inl refl))) (may_own shape (cpu_of x.entry.call) (stage x.entry.call) (place before x).at (nest_head shape cpu_of stage before x later nests).0))
own_all shape cpu_of stage before (x ∷ later) nests its z (inr at) =
    own_all shape cpu_of (stages_after stage x) (before ++ x ∷ []) later (nest_tail shape cpu_of stage before x later nests) (λ y there. its y (inr there)) z at

pub stands_middle : (between : List Drawn) (outer : Drawn) (more : List Drawn) → Stands outer (between ++ outer ∷ more)
stands_middle [] outer more = inl refl
stands_middle (x ∷ between) outer more = inr (stands_middle between outer more)

-- Refills under way

pub record Filling (m : Midst) (begun : List ℕ) (cpu number : ℕ) (flushed : List Flush) (gained : List ℕ) (later : List Drawn) : Type 0 where
  pub between : List Drawn
  pub outer : Drawn
  pub more : List Drawn
  pub later_is : later ≡ between ++ outer ∷ more
  pub its : outer.entry.call ≡ number
  pub key : ℕ
  pub got : Option ℕ
  pub turn_is : turn_of outer ≡ on_lock (Local cpu) (parts.Local (local.Refill key (map flush_visit flushed) gained got))
  pub begun_is : among begun outer.entry.ticket ≡ true
  pub busy : m.busy cpu ≡ true
  pub got_are : m.got cpu ≡ gained
  pub sent_are : m.sent cpu ≡ flushed_elements flushed

abbrev pub FillingAt : Midst → List ℕ → ℕ → ℕ → List Drawn → Stage → Type 0
FillingAt m begun cpu number later idle = Unit {0}
FillingAt m begun cpu number later probing = Unit {0}
FillingAt m begun cpu number later (filled flushed gained) = Filling m begun cpu number flushed gained later

-- the call whose refill keeps a CPU's lists busy
pub record Whose (cpu_of : ℕ → ℕ) (stage : ℕ → Stage) (cpu : ℕ) : Type 0 where
  pub number : ℕ
  pub flushed : List Flush
  pub gained : List ℕ
  pub stage_is : stage number ≡ filled flushed gained
  pub cpu_is : cpu_of number ≡ cpu

pub record Going (shape : Shape) (cpu_of : ℕ → ℕ) (contents : DomainId → Content) (m : Midst) (begun : List ℕ) (before later : List Drawn) (stage : ℕ → Stage) : Type 0 where
  pub nests : AllNested shape cpu_of stage before later
  pub fillings : (number : ℕ) → FillingAt m begun (cpu_of number) number later (stage number)
  pub whose : (cpu : ℕ) → m.busy cpu ≡ true → Whose cpu_of stage cpu
  pub no_addition : (z : Drawn) → Stands z later → among begun z.entry.ticket ≡ true → NoAddition z.entry.part
  pub sorted : AreOfTheirSorts contents
  pub once : IsOnce (contents Global)

-- where a list begins, in two parts
pub record Behind (x : Drawn) (later between : List Drawn) (outer : Drawn) (more : List Drawn) : Type 0 where
  pub rest : List Drawn
  pub between_is : between ≡ x ∷ rest
  pub later_is : later ≡ rest ++ outer ∷ more

pub first_of : (x : Drawn) (later between : List Drawn) (outer : Drawn) (more : List Drawn) → x ∷ later ≡ between ++ outer ∷ more → (x ≡ outer) ⊎ Behind x later between outer more
first_of x later [] outer more is = inl (head_is x outer later more is)
first_of x later (y ∷ between) outer more is =
    inr (record { rest = between; between_is = ap (λ (d : Drawn). d ∷ between) (sym (head_is x y later (between ++ outer ∷ more) is)); later_is = tail_is x y later (between ++ outer ∷ more) is })

-- What a turn leaves of what is known of another CPU's lists

pub record SameMidst (m now : Midst) (cpu : ℕ) : Type 0 where
  pub busy : now.busy cpu ≡ m.busy cpu
  pub got : now.got cpu ≡ m.got cpu
  pub sent : now.sent cpu ≡ m.sent cpu

same_midst : (m : Midst) (cpu : ℕ) → SameMidst m m cpu
same_midst m cpu = record { busy = refl; got = refl; sent = refl }

of_lock : (m : Midst) (lock : DomainId) (d : ℕ) → lock ≢ Local d → SameMidst m (midst_of_lock m lock) d
of_lock m (Local c) d other =
    let apart : d ≢ c = λ same. other (ap (λ (n : ℕ). Local n) (sym same)) in
    record { busy = put_else m.busy c false d apart; got = put_else m.got c [] d apart; sent = put_else m.sent c [] d apart }
of_lock m Global d other = same_midst m d
of_lock m (CpuLru c) d other = same_midst m d
of_lock m (Bucket b) d other = same_midst m d
of_lock m (Freelist c) d other = same_midst m d

-- a turn of the global lists is of another CPU
abbrev pub NoGlobalOf : ℕ → Part → ℕ → Type 0
NoGlobalOf cpu part d = (flushed : List Flush) (active inactive : List Visit) (free : List ℕ) (shrink : Option ShrinkNote) → part ≡ parts.Global (global.Turn flushed active inactive free shrink) → cpu ≢ d

pub midst_else : (m : Midst) (cpu : ℕ) (lock : DomainId) (part : Part) (d : ℕ) → lock ≢ Local d → NoGlobalOf cpu part d → SameMidst m (midst_after m cpu lock part) d
midst_else m cpu lock (parts.Bucket part) d other apart = same_midst m d
midst_else m cpu lock (parts.Free part) d other apart = same_midst m d
midst_else m cpu lock (parts.Local part) d other apart = of_lock m lock d other
midst_else m cpu lock (parts.Global (global.Turn flushed active inactive free shrink)) d other apart =
    let turned : d ≢ cpu = λ same. apart flushed active inactive free shrink refl (sym same) in
    record { busy = put_else m.busy cpu true d turned; got = put_else m.got cpu _ d turned; sent = put_else m.sent cpu _ d turned }
midst_else m cpu lock (parts.Global (global.Push e)) d other apart = same_midst m d
midst_else m cpu lock (parts.Own part) d other apart = same_midst m d

-- the CPU of local lists
local_cpu : DomainId → ℕ
local_cpu (Local n) = n
local_cpu _ = 0

pub one_cpu : (c d : ℕ) → Local c ≡ Local d → c ≡ d
unfolding local_cpu
one_cpu c d same = ap local_cpu same
