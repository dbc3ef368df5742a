-- What was made of owners in a turn of lists is what its part tells.
use Rattle.std.proofs.Common.{◌≡◌, ℕ, cond, true, false, Bool, List, [], ◌∷◌, ◌++◌, map, sym, refl, ap, ◌∙◌, Option, Some, None, append_assoc}
use Rattle.std.specs.Prelude.{◌==◌, filter, option_map, unwrap_or}
use Rattle.std.specs.List.{flat_map}
use Rattle.map_types.specs.declared.kind.DomainId.{DomainId}
use Rattle.map_types.specs.declared.kind.DomainId.TheVariants.{Global, Local}
use Rattle.owner_words.specs.Owners.{owner_by}
use Rattle.owner_words.proofs.OneByOne.{one_by_one}
use Rattle.place_words.specs.declared.bucket_part.Seen.{Seen}
use Rattle.place_words.specs.declared.bucket_part.Seen.TheVariants.{Removed, Held}
use Rattle.place_words.specs.declared.home.Home.{Home}
use Rattle.place_words.specs.declared.home.Home.TheVariants as homes
use Rattle.place_words.specs.declared.list_part.GlobalPart.TheVariants as global
use Rattle.place_words.specs.declared.list_part.OwnPart.TheVariants as own
use Rattle.place_words.specs.declared.owner.Owner.{Owner}
use Rattle.place_words.specs.declared.owner.Owner.TheVariants.{Free, Hand}
use Rattle.place_words.specs.declared.step.Step.{Step}
use Rattle.place_words.specs.declared.step.Step.TheVariants as steps
use Rattle.place_words.specs.declared.visits.Flush.{Flush}
use Rattle.place_words.specs.declared.visits.Look.{Look}
use Rattle.place_words.specs.declared.visits.ShrinkNote.{ShrinkNote}
use Rattle.place_words.specs.declared.visits.Try.{Try}
use Rattle.place_words.specs.declared.visits.Visit.{Visit}
use Rattle.place_words.specs.Globals.{flushed_elements}
use Rattle.place_words.specs.Interleaving.{freed_steps, global_steps, own_steps}
use Rattle.place_words.specs.Shrinking.{is_removed, look_removed, try_removed}
use Rattle.place_words.specs.Takings.{freed_by, look_probes, shrink_probes}
use Rattle.place_table.specs.declared.view.OwnerSeen.{OwnerSeen}
use Rattle.place_table.specs.Owners.{owner_left}
use Rattle.place_table.proofs.Entries.{append_nil}
use Rattle.lru_lists.specs.declared.bits.ProbeCall.{ProbeCall}
use Rattle.lru_ops.specs.declared.probing.Destination.{Destination}
use Rattle.lru_ops.specs.declared.probing.Destination.TheVariants.{OwnFree, LocalFree}
use Rattle.lru_ops.specs.Askings.{changed_after, changed_by, changed_with}
use Rattle.lru_ops.specs.OwnTurns.{try_of}
use Rattle.lru_ops.proofs.SetWork.{taken_by}

-- What probes took is what their tries tell

abbrev tried_off : List Try → List ℕ
tried_off tries = map (λ (try : Try). try.element) (filter try_removed tries)

taken_one : (e hash : ℕ) (seen : Seen) (probes : List ProbeCall) (tries : List Try) → taken_by probes ≡ tried_off tries
    → taken_by (record { element = e; hash = hash; probed = seen } ∷ probes) ≡ tried_off (record { element = e; probed = seen } ∷ tries)
taken_one e hash Removed probes tries same = ap (λ (l : List ℕ). e ∷ l) same
taken_one e hash (Held holder) probes tries same = same

taken_tried : (probes : List ProbeCall) → taken_by probes ≡ tried_off (map try_of probes)
taken_tried [] = refl
taken_tried (probe ∷ probes) = taken_one probe.element probe.hash probe.probed probes (map try_of probes) (taken_tried probes)

look_cases : (b : Bool) (look : Look) (looks : List Look) → cond b (look.element ∷ map (λ (l : Look). l.element) looks) (map (λ (l : Look). l.element) looks) ≡ map (λ (l : Look). l.element) (cond b (look ∷ looks) looks)
look_cases true look looks = refl
look_cases false look looks = refl

looks_off : (looks : List Look) (tries : List Try) → tried_off (flat_map look_probes looks ++ tries) ≡ map (λ (look : Look). look.element) (filter look_removed looks) ++ tried_off tries
looks_off [] tries = refl
looks_off (look ∷ looks) tries =
    go look.probed (looks_off looks tries) ∙ ap (λ (l : List ℕ). l ++ tried_off tries) (look_cases (look_removed look) look (filter look_removed looks))
  where
    rest : List ℕ
    rest = map (λ (l : Look). l.element) (filter look_removed looks)

    go : (probed : Option Seen) → tried_off (flat_map look_probes looks ++ tries) ≡ rest ++ tried_off tries
        → tried_off ((unwrap_or (option_map (λ seen. (record { element = look.element; probed = seen }) ∷ []) probed) [] ++ flat_map look_probes looks) ++ tries) ≡ cond (unwrap_or (option_map is_removed probed) false) (look.element ∷ rest) rest ++ tried_off tries
    go None same = same
    go (Some Removed) same = ap (λ (l : List ℕ). look.element ∷ l) same
    go (Some (Held holder)) same = same

tried_freed : (note : Option ShrinkNote) → tried_off (shrink_probes note) ≡ freed_by note
tried_freed None = refl
tried_freed (Some note) = looks_off note.looks note.forced

freed_are : (probes : List ProbeCall) (note : Option ShrinkNote) → map try_of probes ≡ shrink_probes note → taken_by probes ≡ freed_by note
freed_are probes note tried = taken_tried probes ∙ (ap tried_off tried ∙ tried_freed note)

-- What was freed

abbrev settles : ℕ → DomainId → List ℕ → List Step
settles cpu lock es = map (λ e. steps.Settle cpu e lock) es

-- where a probe removes, the element is freed
abbrev Frees : Destination → Type 0
Frees to = (e : ℕ) (changed : List OwnerSeen) → changed_by to e changed ≡ record { element = e; owner = Free } ∷ changed

left_one : (to : Destination) → Frees to → (cpu : ℕ) (lock : DomainId) (e hash : ℕ) (seen : Seen) (probes : List ProbeCall) (changed : List OwnerSeen) (x : ℕ) (owner : Owner)
    → owner_by (settles cpu lock (taken_by probes)) x (owner_left (changed_with to e seen changed) x owner) ≡ owner_by (settles cpu lock (taken_by (record { element = e; hash = hash; probed = seen } ∷ probes))) x (owner_left changed x owner)
left_one to frees cpu lock e hash Removed probes changed x owner = ap (λ (l : List OwnerSeen). owner_by (settles cpu lock (taken_by probes)) x (owner_left l x owner)) (frees e changed)
left_one to frees cpu lock e hash (Held holder) probes changed x owner = refl

left_after : (to : Destination) → Frees to → (cpu : ℕ) (lock : DomainId) (probes : List ProbeCall) (changed : List OwnerSeen) (x : ℕ) (owner : Owner)
    → owner_left (changed_after to probes changed) x owner ≡ owner_by (settles cpu lock (taken_by probes)) x (owner_left changed x owner)
left_after to frees cpu lock [] changed x owner = refl
left_after to frees cpu lock (probe ∷ probes) changed x owner =
    left_after to frees cpu lock probes (changed_with to probe.element probe.probed changed) x owner
    ∙ left_one to frees cpu lock probe.element probe.hash probe.probed probes changed x owner

freed_left : (to : Destination) → Frees to → (cpu : ℕ) (lock : DomainId) (probes : List ProbeCall) (note : Option ShrinkNote) → map try_of probes ≡ shrink_probes note → (x : ℕ) (owner : Owner)
    → owner_left (changed_after to probes []) x owner ≡ owner_by (settles cpu lock (freed_by note)) x owner
freed_left to frees cpu lock probes note tried x owner =
    left_after to frees cpu lock probes [] x owner ∙ ap (λ (es : List ℕ). owner_by (settles cpu lock es) x owner) (freed_are probes note tried)

-- A turn of a CPU's own set frees what its shrink removed, and then an element may be given out.

abbrev pub with_got : Option ℕ → ℕ → List OwnerSeen → List OwnerSeen
with_got None cpu changed = changed
with_got (Some e) cpu changed = record { element = e; owner = Hand cpu } ∷ changed

pub own_left : (cpu hash : ℕ) (lock : DomainId) (active inactive : List Visit) (note : Option ShrinkNote) (got : Option ℕ) (probes : List ProbeCall) → map try_of probes ≡ shrink_probes note → (x : ℕ) (owner : Owner)
    → owner_left (with_got got cpu (changed_after OwnFree probes [])) x owner ≡ owner_by (own_steps cpu lock (own.Turn hash active inactive note got)) x owner
own_left cpu hash lock active inactive note None probes tried x owner =
    freed_left OwnFree (λ _ _. refl) cpu lock probes note tried x owner ∙ ap (λ (l : List Step). owner_by l x owner) (sym (append_nil (settles cpu lock (freed_by note))))
own_left cpu hash lock active inactive note (Some e) probes tried x owner =
    ap (λ (o : Owner). cond (e == x) (Hand cpu) o) (freed_left OwnFree (λ _ _. refl) cpu lock probes note tried x owner)
    ∙ sym (one_by_one (settles cpu lock (freed_by note)) (steps.Claim cpu e lock ∷ []) x owner)

-- A turn of the global lists changes no owner but of what its shrink removed.

rehomes_keep : (cpu : ℕ) (to : Home) (es : List ℕ) (more : List Step) (x : ℕ) (owner : Owner) → owner_by (map (λ e. steps.Rehome cpu e to) es ++ more) x owner ≡ owner_by more x owner
rehomes_keep cpu to [] more x owner = refl
rehomes_keep cpu to (e ∷ es) more x owner = rehomes_keep cpu to es more x owner

settled_home : (cpu : ℕ) (es : List ℕ) (x : ℕ) (owner : Owner) → owner_by (settles cpu (Local cpu) es) x owner ≡ owner_by (flat_map (freed_steps cpu) es) x owner
settled_home cpu [] x owner = refl
settled_home cpu (e ∷ es) x owner = settled_home cpu es x (cond (e == x) Free owner)

pub global_left : (cpu : ℕ) (flushed : List Flush) (active inactive : List Visit) (free : List ℕ) (note : Option ShrinkNote) (probes : List ProbeCall) → map try_of probes ≡ shrink_probes note → (x : ℕ) (owner : Owner)
    → owner_left (changed_after LocalFree probes []) x owner ≡ owner_by (global_steps cpu (global.Turn flushed active inactive free note)) x owner
global_left cpu flushed active inactive free note probes tried x owner =
    let flushing : List Step = map (λ e. steps.Rehome cpu e (homes.In Global)) (flushed_elements flushed) in
    let moving : List Step = map (λ e. steps.Rehome cpu e (homes.In (Local cpu))) free in
    let freeing : List Step = flat_map (freed_steps cpu) (freed_by note) in
    freed_left LocalFree (λ _ _. refl) cpu (Local cpu) probes note tried x owner
    ∙ (settled_home cpu (freed_by note) x owner
    ∙ sym (ap (λ (l : List Step). owner_by l x owner) (append_assoc flushing moving freeing)
    ∙ (rehomes_keep cpu (homes.In Global) (flushed_elements flushed) (moving ++ freeing) x owner ∙ rehomes_keep cpu (homes.In (Local cpu)) free freeing x owner)))
