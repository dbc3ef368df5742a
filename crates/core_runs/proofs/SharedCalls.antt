-- Takings of elements on a map whose CPUs share lists are runs of the core.
use Rattle.std.proofs.Common.{◌≡◌, ℕ, ◌<◌, true, ltb, List, [], ◌∷◌, ◌++◌, map, reverse, Option, Some, refl, ap, ◌∙◌, sym, subst, inr, ⊎_elim, arith}
use Rattle.std.specs.Prelude.{All, IsTrue, MatchOption, option_to_list}
use Rattle.std.proofs.lemmas.Bool.{ltb-true, and_parts}
use Rattle.std.proofs.lemmas.List.{append_assoc, append-nil, map-append}
use Rattle.std.proofs.lemmas.List.Elements.{All-head, All-tail, All-nil, All-cons}
use Rattle.map_types.specs.declared.attr.Shape.{Shape}
use Rattle.map_types.specs.declared.kind.DomainId.{DomainId}
use Rattle.map_types.specs.declared.kind.DomainId.TheVariants.{Local, Global}
use Rattle.map_types.specs.declared.row.Row.{Row}
use Rattle.map_types.specs.Kind.{is_lru}
use Rattle.map_types.specs.Shape.{HasBounds}
use Rattle.map_types.specs.Listed.{elements_of}
use Rattle.map_types.specs.ElementLists.{IsIn}
use Rattle.map_types.proofs.RowLemmas.{times_append}
use Rattle.place_words.specs.declared.history.Part.TheVariants as parts
use Rattle.place_words.specs.declared.list_part.GlobalPart.{GlobalPart}
use Rattle.place_words.specs.declared.list_part.GlobalPart.TheVariants as global
use Rattle.place_words.specs.declared.list_part.LocalPart.{LocalPart}
use Rattle.place_words.specs.declared.list_part.LocalPart.TheVariants as local
use Rattle.place_words.specs.declared.visits.Flush.{Flush}
use Rattle.place_words.specs.Globals.{AllowsOnGlobal, flush_visit, flushed_rows, flushed_elements}
use Rattle.place_words.specs.Histories.{Content, in_bucket, on_freelist, in_locals, in_global, in_own, locals_in, global_in, content_after, Allows}
use Rattle.place_words.specs.Locals.{LocalLists, AllowsSteal, AllowsOnLocal, local_after}
use Rattle.place_words.specs.declared.list_part.Stolen.{Stolen}
use Rattle.place_words.specs.declared.list_part.Stolen.TheVariants.{Free, Pending, Nothing}
use Rattle.place_words.specs.declared.visits.Look.{Look}
use Rattle.place_words.specs.declared.visits.Try.{Try}
use Rattle.place_words.specs.Shrinking.{freed}
use Rattle.place_words.proofs.ElementLemmas.{times_cons_same}
use Rattle.place_words.specs.Locks.{is_lock}
use Rattle.place_words.specs.Logs.{State, lies_in, all_turned, placed}
use Rattle.place_words.specs.SerialOrder.{FindsNoneHeld}
use Rattle.place_words.specs.Sets.{ListSet}
use Rattle.place_words.specs.Takings.{Refills, Steals, IsChased, stolen_element, brings_home, listed_rows, freed_by, shrink_probes}
use Rattle.place_words.specs.Turns.{Turn, TurnAt, turns_of, found, on_lock, after_turn, after_turns, AreAllowed}
use Rattle.place_words.proofs.LockLemmas.{same_lock}
use Rattle.place_words.proofs.PlacedContents.{after_both, lies_after_all}
use Rattle.place_words.proofs.PlacedLaws.{placed_turns}
use Rattle.place_words.proofs.Settled.{turned_here, turned_elsewhere}
use Rattle.place_words.specs.State.{rows}
use Rattle.place_words.specs.Interleaving.{set_lists, lists_in}
use Rattle.core_runs.proofs.Chases.{chase_of, freed_names, placed_split, head_is, turns_split}
use Rattle.core_runs.proofs.Evictions.{Hands, evicting, AreBuckets}
use Rattle.core_runs.proofs.OwnCalls.{AreFine, last_fine}
use Rattle.core_runs.proofs.OwnNest.{names, evicting_else, weaker}
use Rattle.core_runs.proofs.PlainNests.{allowed_parts}
use Rattle.core_runs.proofs.PlainGoes.{Goes, goes_none, goes_both, goes_quiet}
use Rattle.core_runs.proofs.SharedMoves.{local_lock}
use Rattle.core_runs.proofs.StealGoes.{goes_steal_free, goes_steal_pending}
use Rattle.core_runs.proofs.RefillNest.{goes_refill}

pub record OnLocals (content : Content) (Fact : LocalLists → Type 0) : Type 0 where
  pub lists : LocalLists
  pub lies : content ≡ in_locals lists
  pub fact : Fact lists

pub on_locals : (content : Content) (Fact : LocalLists → Type 0) → MatchOption (locals_in content) ⊥ Fact → OnLocals content Fact
on_locals (in_bucket bodies) Fact may = absurd may
on_locals (on_freelist stack) Fact may = absurd may
on_locals (in_locals lists) Fact may = record { lists = lists; lies = refl; fact = may }
on_locals (in_global set) Fact may = absurd may
on_locals (in_own set) Fact may = absurd may

pub record OnGlobal (content : Content) (Fact : ListSet → Type 0) : Type 0 where
  pub set : ListSet
  pub lies : content ≡ in_global set
  pub fact : Fact set

pub on_global : (content : Content) (Fact : ListSet → Type 0) → MatchOption (global_in content) ⊥ Fact → OnGlobal content Fact
on_global (in_bucket bodies) Fact may = absurd may
on_global (on_freelist stack) Fact may = absurd may
on_global (in_locals lists) Fact may = absurd may
on_global (in_global set) Fact may = record { set = set; lies = refl; fact = may }
on_global (in_own set) Fact may = absurd may

flush_names : (flushed : List Flush) → elements_of (flushed_rows flushed) ≡ flushed_elements flushed
flush_names [] = refl
flush_names (flush ∷ flushed) = ap (λ (l : List ℕ). flush.element ∷ l) (flush_names flushed)

reverse_names : (rs : List Row) → elements_of (reverse rs) ≡ reverse (elements_of rs)
reverse_names [] = refl
reverse_names (row ∷ rs) =
    ap elements_of (Rattle.std.proofs.lemmas.List.reverse-append (row ∷ []) rs) ∙ map-append (λ (r : Row). r.element) (reverse rs) (row ∷ []) ∙ ap (λ (l : List ℕ). l ++ row.element ∷ []) (reverse_names rs)
    ∙ sym (Rattle.std.proofs.lemmas.List.reverse-append (row.element ∷ []) (elements_of rs))

-- An element is taken by a refill.
pub refill_goes : {shape : Shape} (bounds : HasBounds shape) (lru : is_lru shape.kind ≡ true) (common : IsTrue shape.common) {cpu : ℕ} (within : cpu < shape.cpus) → (number hash : ℕ) (lists : LocalLists) (got : Option ℕ) (turns : List Turn) (state : State) (Known : ℕ → ℕ → Type 0)
    → Refills shape cpu hash lists got (placed shape cpu number turns state) → AreFine turns → AreAllowed shape cpu (lies_in shape state) turns
    → Goes shape cpu (lies_in shape state) Known turns (Hands cpu (option_to_list got) Known)
refill_goes {shape = shape} bounds lru common {cpu = cpu} within number hash lists got turns state Known takes fine allowed =
    let contents : DomainId → Content = lies_in shape state in
    let part : GlobalPart = global.Turn takes.flushed takes.active takes.inactive takes.free takes.shrink in
    let gained : List ℕ = takes.free ++ freed_by takes.shrink in
    let outer_part : LocalPart = local.Refill hash (map flush_visit takes.flushed) gained got in
    let middle : Turn = on_lock Global (parts.Global part) in
    let outer : Turn = on_lock (Local cpu) (parts.Local outer_part) in
    let split = placed_split shape cpu number turns state takes.inner (takes.last ∷ []) takes.turns_are in
    let inner_turns : List Turn = turns_of takes.inner in
    let probing : List TurnAt = takes.chased.probing in
    let inner_split = placed_split shape cpu number inner_turns state probing (takes.chased.last ∷ []) (sym split.first ∙ takes.chased.turns_are) in
    let passed : State = all_turned shape cpu number (turns_of probing) state in
    let at_middle : takes.chased.last ≡ (record { turn = takes.chased.last.turn; earlier = passed.logs takes.chased.last.turn.lock }) = head_is takes.chased.last (record { turn = takes.chased.last.turn; earlier = passed.logs takes.chased.last.turn.lock }) [] [] inner_split.second in
    let end : State = all_turned shape cpu number inner_turns state in
    let at_outer : takes.last ≡ (record { turn = takes.last.turn; earlier = end.logs takes.last.turn.lock }) = head_is takes.last (record { turn = takes.last.turn; earlier = end.logs takes.last.turn.lock }) [] [] split.second in
    let inner_are : inner_turns ≡ turns_of probing ++ middle ∷ [] = ap turns_of takes.chased.turns_are ∙ turns_split probing (takes.chased.last ∷ []) ∙ ap (λ (t : Turn). turns_of probing ++ t ∷ []) takes.chased.last_is in
    let turns_are : turns ≡ inner_turns ++ outer ∷ [] = sym (placed_turns shape cpu number turns state) ∙ ap turns_of takes.turns_are ∙ turns_split takes.inner (takes.last ∷ []) ∙ ap (λ (t : Turn). inner_turns ++ t ∷ []) takes.last_is in
    let fine_inner : FindsNoneHeld (parts.Global part) = last_fine (turns_of probing) middle (subst AreFine inner_are (front_fine inner_turns outer (subst AreFine turns_are fine))) in
    let chase = chase_of shape bounds (flushed_rows takes.flushed ++ listed_rows (found shape takes.chased.last)) (shrink_probes takes.shrink) (turns_of probing) fine_inner takes.chased.chase in
    let es : List (ℕ × ℕ) = chase.es in
    let inner_evict : inner_turns ≡ evicting es ++ middle ∷ [] = inner_are ∙ ap (λ (l : List Turn). l ++ middle ∷ []) chase.turns_are in
    let all : turns ≡ evicting es ++ middle ∷ outer ∷ [] = turns_are ∙ ap (λ (l : List Turn). l ++ outer ∷ []) inner_evict ∙ append_assoc (evicting es) (middle ∷ []) (outer ∷ []) in
    let both = allowed_parts shape cpu contents (evicting es) (middle ∷ outer ∷ []) (subst (AreAllowed shape cpu contents) all allowed) in
    let between : DomainId → Content = after_turns shape cpu contents (evicting es) in
    let by_what_lies : OnGlobal (between Global) (AllowsOnGlobal part) → Goes shape cpu contents Known turns (Hands cpu (option_to_list got) Known) = λ there.
    let global_lies : contents Global ≡ in_global there.set = sym (evicting_else shape cpu Global (λ bucket. refl) es contents) ∙ there.lies in
    let local_same : after_turn shape cpu between middle (Local cpu) ≡ contents (Local cpu) = turned_elsewhere shape cpu between middle (Local cpu) refl ∙ evicting_else shape cpu (Local cpu) (λ bucket. refl) es contents in
    let inner_after : after_turns shape cpu contents inner_turns ≡ after_turn shape cpu between middle = ap (λ (l : List Turn). after_turns shape cpu contents l) inner_evict ∙ after_both shape cpu contents (evicting es) (middle ∷ []) in
    let found_outer : found shape takes.last ≡ after_turn shape cpu between middle (Local cpu) =
    ap (found shape) at_outer ∙ ap (λ (t : Turn). lies_in shape end t.lock) takes.last_is
    ∙ ap (λ (c : DomainId → Content). c (Local cpu)) (lies_after_all shape cpu number inner_turns state ∙ inner_after) in
    let local_then : after_turn shape cpu between middle (Local cpu) ≡ in_locals lists = sym found_outer ∙ takes.found_there in
    let local_lies : contents (Local cpu) ≡ in_locals lists = sym local_same ∙ local_then in
    let local_may : AllowsOnLocal shape outer_part lists = subst (Allows shape cpu (parts.Local outer_part)) local_then both.1.1.0 in
    let found_middle : found shape takes.chased.last ≡ in_global there.set =
    ap (found shape) at_middle ∙ ap (λ (t : Turn). lies_in shape passed t.lock) takes.chased.last_is
    ∙ ap (λ (c : DomainId → Content). c Global) (lies_after_all shape cpu number (turns_of probing) state)
    ∙ ap (λ (l : List Turn). after_turns shape cpu contents l Global) chase.turns_are ∙ there.lies in
    let rows_are : elements_of (flushed_rows takes.flushed ++ listed_rows (found shape takes.chased.last)) ≡ flushed_elements takes.flushed ++ rows (set_lists there.set) =
    ap (λ (c : Content). elements_of (flushed_rows takes.flushed ++ listed_rows c)) found_middle ∙ map-append (λ (r : Row). r.element) (flushed_rows takes.flushed) (there.set.lists.active ++ there.set.lists.inactive)
    ∙ ap (λ (l : List ℕ). l ++ elements_of (there.set.lists.active ++ there.set.lists.inactive)) (flush_names takes.flushed)
    ∙ ap (λ (l : List ℕ). flushed_elements takes.flushed ++ l) (map-append (λ (r : Row). r.element) there.set.lists.active there.set.lists.inactive) in
    let goes = goes_refill bounds lru common within contents Known es hash (map flush_visit takes.flushed) gained got takes.flushed takes.active takes.inactive takes.free takes.shrink (record {
      lists = lists;
      set = there.set;
      local_lies = local_lies;
      global_lies = global_lies;
      buckets = chase.buckets;
      evictions = both.0;
      allowed = there.fact;
      none_free = local_may.0;
      flushed_are = sym (flush_names takes.flushed) ∙ ap elements_of takes.with_hashes ∙ reverse_names lists.pending;
      gained_are = refl;
      got_is = local_may.2;
      freed = freed_names takes.shrink fine_inner ∙ sym chase.names_are;
      listed = λ x inside. let sum = times_append x (flushed_elements takes.flushed) (rows (set_lists there.set)) in let listed = subst (λ (l : List ℕ). IsIn x l) rows_are (chase.listed x inside) in omega (arith, sum, listed);
    }) in
    subst (λ (l : List Turn). Goes shape cpu contents Known l (Hands cpu (option_to_list got) Known)) (sym all) goes in
    by_what_lies (on_global (between Global) (AllowsOnGlobal part) both.1.0)
  where
    front_fine : (xs : List Turn) (x : Turn) → AreFine (xs ++ x ∷ []) → AreFine xs
    front_fine [] x fine = All-nil (λ (t : Turn). FindsNoneHeld t.part)
    front_fine (y ∷ xs) x fine = All-cons (λ (t : Turn). FindsNoneHeld t.part) y xs (All-head (λ (t : Turn). FindsNoneHeld t.part) y (xs ++ x ∷ []) fine) (front_fine xs x (All-tail (λ (t : Turn). FindsNoneHeld t.part) y (xs ++ x ∷ []) fine))

-- each turn is of a lock that the map has
abbrev pub AreOnLocks : Shape → List Turn → Type 0
AreOnLocks shape turns = All (λ (turn : Turn). IsTrue (is_lock shape turn.lock)) turns

pub on_parts : (shape : Shape) (xs ys : List Turn) → AreOnLocks shape (xs ++ ys) → AreOnLocks shape xs × AreOnLocks shape ys
on_parts shape [] ys on = (All-nil (λ (t : Turn). IsTrue (is_lock shape t.lock)), on)
on_parts shape (x ∷ xs) ys on =
    let rest = on_parts shape xs ys (All-tail (λ (t : Turn). IsTrue (is_lock shape t.lock)) x (xs ++ ys) on) in
    (All-cons (λ (t : Turn). IsTrue (is_lock shape t.lock)) x xs (All-head (λ (t : Turn). IsTrue (is_lock shape t.lock)) x (xs ++ ys) on) rest.0, rest.1)

pub fine_both : (xs ys : List Turn) → AreFine (xs ++ ys) → AreFine xs × AreFine ys
fine_both [] ys fine = (All-nil (λ (t : Turn). FindsNoneHeld t.part), fine)
fine_both (x ∷ xs) ys fine =
    let rest = fine_both xs ys (All-tail (λ (t : Turn). FindsNoneHeld t.part) x (xs ++ ys) fine) in
    (All-cons (λ (t : Turn). FindsNoneHeld t.part) x xs (All-head (λ (t : Turn). FindsNoneHeld t.part) x (xs ++ ys) fine) rest.0, rest.1)

-- A turn that steals, with its evictions, at its place.
pub record IsStealing (shape : Shape) (cpu number from : ℕ) (state : State) (stolen : Stolen) (first : List Look) (second : List Try) (turns : List Turn) : Type 0 where
  pub es : List (ℕ × ℕ)
  pub all : turns ≡ evicting es ++ on_lock (Local from) (parts.Local (local.Steal stolen first second)) ∷ []
  pub there : from < shape.cpus
  pub lists : LocalLists
  pub lies : lies_in shape state (Local from) ≡ in_locals lists
  pub steals : AllowsSteal stolen first second lists
  pub names_are : names es ≡ freed first second
  pub buckets : AreBuckets shape es
  pub evictions : AreAllowed shape cpu (lies_in shape state) (evicting es)
  pub listed : (x : ℕ) → IsIn x (names es) → IsIn x (elements_of lists.pending)

pub stealing : {shape : Shape} (bounds : HasBounds shape) {cpu : ℕ} (number from : ℕ) (state : State) (stolen : Stolen) (first : List Look) (second : List Try) (turns : List Turn)
    → IsChased shape (Local from) (parts.Local (local.Steal stolen first second)) (placed shape cpu number turns state) → AreFine turns → AreOnLocks shape turns → AreAllowed shape cpu (lies_in shape state) turns
    → IsStealing shape cpu number from state stolen first second turns
stealing {shape = shape} bounds {cpu = cpu} number from state stolen first second turns chased fine on allowed =
    let contents : DomainId → Content = lies_in shape state in
    let lock : DomainId = Local from in
    let part : LocalPart = local.Steal stolen first second in
    let turn : Turn = on_lock lock (parts.Local part) in
    let probing : List TurnAt = chased.probing in
    let split = placed_split shape cpu number turns state probing (chased.last ∷ []) chased.turns_are in
    let passed : State = all_turned shape cpu number (turns_of probing) state in
    let at_last : chased.last ≡ (record { turn = chased.last.turn; earlier = passed.logs chased.last.turn.lock }) = head_is chased.last (record { turn = chased.last.turn; earlier = passed.logs chased.last.turn.lock }) [] [] split.second in
    let turns_are : turns ≡ turns_of probing ++ turn ∷ [] = sym (placed_turns shape cpu number turns state) ∙ ap turns_of chased.turns_are ∙ turns_split probing (chased.last ∷ []) ∙ ap (λ (t : Turn). turns_of probing ++ t ∷ []) chased.last_is in
    let fine_last : FindsNoneHeld (parts.Local part) = last_fine (turns_of probing) turn (subst AreFine turns_are fine) in
    let chase = chase_of shape bounds (listed_rows (found shape chased.last)) (Rattle.place_words.specs.Takings.walk_probes first second) (turns_of probing) fine_last chased.chase in
    let es : List (ℕ × ℕ) = chase.es in
    let all : turns ≡ evicting es ++ turn ∷ [] = turns_are ∙ ap (λ (l : List Turn). l ++ turn ∷ []) chase.turns_are in
    let both = allowed_parts shape cpu contents (evicting es) (turn ∷ []) (subst (AreAllowed shape cpu contents) all allowed) in
    let is : IsTrue (is_lock shape lock) = All-head (λ (t : Turn). IsTrue (is_lock shape t.lock)) turn [] (on_parts shape (evicting es) (turn ∷ []) (subst (AreOnLocks shape) all on)).1 in
    let by_what_lies : OnLocals (after_turns shape cpu contents (evicting es) lock) (AllowsOnLocal shape part) → IsStealing shape cpu number from state stolen first second turns = λ then_lies.
    let found_is : found shape chased.last ≡ in_locals then_lies.lists =
    ap (found shape) at_last ∙ ap (λ (t : Turn). lies_in shape passed t.lock) chased.last_is
    ∙ ap (λ (c : DomainId → Content). c lock) (lies_after_all shape cpu number (turns_of probing) state)
    ∙ ap (λ (l : List Turn). after_turns shape cpu contents l lock) chase.turns_are ∙ then_lies.lies in
    record {
      es = es;
      all = all;
      there = ltb-true from shape.cpus (and_parts shape.common (ltb from shape.cpus) is).1;
      lists = then_lies.lists;
      lies = sym (evicting_else shape cpu lock (λ bucket. refl) es contents) ∙ then_lies.lies;
      steals = then_lies.fact;
      names_are = chase.names_are ∙ sym (freed_names (Some (record { target = 0; looks = first; forced = second })) fine_last);
      buckets = chase.buckets;
      evictions = both.0;
      listed = λ x inside. subst (λ (c : Content). IsIn x (elements_of (listed_rows c))) found_is (chase.listed x inside);
    } in
    by_what_lies (on_locals (after_turns shape cpu contents (evicting es) lock) (AllowsOnLocal shape part) both.1.0)

no_names : (es : List (ℕ × ℕ)) → names es ≡ [] → es ≡ []
no_names [] is = refl
no_names (e ∷ es) is = absurd cc

one_name : (es : List (ℕ × ℕ)) (x : ℕ) → names es ≡ x ∷ [] → (bucket : ℕ) × (es ≡ (x, bucket) ∷ [])
one_name [] x is = absurd cc
one_name ((e, bucket) ∷ []) x is = (bucket, ap (λ (y : ℕ). (y, bucket) ∷ []) (head_is e x [] [] is))
one_name (e ∷ f ∷ es) x is = absurd cc

pub known_more : {shape : Shape} {cpu : ℕ} (contents : DomainId → Content) (turns : List Turn) (Known Later : ℕ → ℕ → Type 0) → Goes shape cpu contents (Hands cpu [] Known) turns Later → Goes shape cpu contents Known turns Later
known_more {cpu = cpu} contents turns Known Later goes = record {
  run = λ s n call later tied. goes.run s n call later (weaker (λ c x held. ⊎_elim (λ (mine : IsIn x [] × (c ≡ cpu)). absurd (omega (arith, mine.0))) (λ (known : Known c x). known) held) tied);
}

pub less_known : {shape : Shape} {cpu : ℕ} (contents : DomainId → Content) (turns : List Turn) (Known : ℕ → ℕ → Type 0) {Later : ℕ → ℕ → Type 0} → Goes shape cpu contents Known turns Later → Goes shape cpu contents (Hands cpu [] Known) turns Later
less_known contents turns Known goes = record { run = λ s n call later tied. goes.run s n call later (weaker (λ c x known. inr known) tied) }

-- A round of thefts, up to the first that gives an element, which is brought home.
pub steals_go : {shape : Shape} (bounds : HasBounds shape) (lru : is_lru shape.kind ≡ true) (common : IsTrue shape.common) {cpu : ℕ} (within : cpu < shape.cpus) (number hash : ℕ) (got : Option ℕ) (cpus : List ℕ) (turns : List Turn) (state : State) (Known : ℕ → ℕ → Type 0)
    → Steals shape cpu hash cpus got (placed shape cpu number turns state) → AreFine turns → AreOnLocks shape turns → AreAllowed shape cpu (lies_in shape state) turns
    → Goes shape cpu (lies_in shape state) (Hands cpu [] Known) turns (Hands cpu (option_to_list got) Known)
unfolding local_after
steals_go {shape = shape} bounds lru common {cpu = cpu} within number hash got [] turns state Known steals fine on allowed =
    let none : turns ≡ [] = sym (placed_turns shape cpu number turns state) ∙ ap turns_of steals.0 in
    subst (λ (l : List Turn). Goes shape cpu (lies_in shape state) (Hands cpu [] Known) l (Hands cpu (option_to_list got) Known)) (sym none)
    (subst (λ (o : Option ℕ). Goes shape cpu (lies_in shape state) (Hands cpu [] Known) [] (Hands cpu (option_to_list o) Known)) (sym steals.1) (goes_none (lies_in shape state) (Hands cpu [] Known)))
steals_go {shape = shape} bounds lru common {cpu = cpu} within number hash got (from ∷ others) turns state Known (tried, rest, stolen, first, second, turns_are, chased, goes_on) fine on allowed =
    let contents : DomainId → Content = lies_in shape state in
    let split = placed_split shape cpu number turns state tried rest turns_are in
    let xs : List Turn = turns_of tried in
    let ys : List Turn = turns_of rest in
    let all : turns ≡ xs ++ ys = sym (placed_turns shape cpu number turns state) ∙ ap turns_of turns_are ∙ turns_split tried rest in
    let fines = fine_both xs ys (subst AreFine all fine) in
    let ons = on_parts shape xs ys (subst (AreOnLocks shape) all on) in
    let may = allowed_parts shape cpu contents xs ys (subst (AreAllowed shape cpu contents) all allowed) in
    let passed : State = all_turned shape cpu number xs state in
    let lies_then : lies_in shape passed ≡ after_turns shape cpu contents xs = lies_after_all shape cpu number xs state in
    let is = stealing bounds number from state stolen first second xs (subst (IsChased shape (Local from) (parts.Local (local.Steal stolen first second))) split.first chased) fines.0 ons.0 may.0 in
    subst (λ (l : List Turn). Goes shape cpu contents (Hands cpu [] Known) l (Hands cpu (option_to_list got) Known)) (sym all)
    (by stolen xs ys refl is is.steals may.0 may.1 goes_on
    (λ later. subst (λ (c : DomainId → Content). Goes shape cpu c (Hands cpu [] Known) ys (Hands cpu (option_to_list got) Known)) lies_then
    (steals_go bounds lru common within number hash got others ys passed Known (subst (Steals shape cpu hash others got) split.second later) fines.1 ons.1 (subst (λ (c : DomainId → Content). AreAllowed shape cpu c ys) (sym lies_then) may.1))))
  where
    by : (stolen : Stolen) (xs ys : List Turn) → turns_of rest ≡ ys → (is : IsStealing shape cpu number from state stolen first second xs) → AllowsSteal stolen first second is.lists → AreAllowed shape cpu (lies_in shape state) xs → AreAllowed shape cpu (after_turns shape cpu (lies_in shape state) xs) ys
        → MatchOption (stolen_element stolen) (Steals shape cpu hash others got rest) (λ e. (got ≡ Some e) × (turns_of rest ≡ brings_home shape cpu hash from e ∷ []))
        → (Steals shape cpu hash others got rest → Goes shape cpu (after_turns shape cpu (lies_in shape state) xs) (Hands cpu [] Known) ys (Hands cpu (option_to_list got) Known))
        → Goes shape cpu (lies_in shape state) (Hands cpu [] Known) (xs ++ ys) (Hands cpu (option_to_list got) Known)
    by Nothing xs ys ys_are is steals one two later rest_goes =
        let turn : Turn = on_lock (Local from) (parts.Local (local.Steal Nothing first second)) in
        let none : is.es ≡ [] = no_names is.es (is.names_are ∙ steals.1) in
        let are : xs ≡ turn ∷ [] = is.all ∙ ap (λ (es : List (ℕ × ℕ)). evicting es ++ turn ∷ []) none in
        goes_both (lies_in shape state) (Hands cpu [] Known) (Hands cpu [] Known) (Hands cpu (option_to_list got) Known) xs ys
        (subst (λ (l : List Turn). Goes shape cpu (lies_in shape state) (Hands cpu [] Known) l (Hands cpu [] Known)) (sym are)
        (goes_quiet bounds within (lies_in shape state) (Hands cpu [] Known) turn refl (local_lock shape from common is.there) refl refl
        (ap lists_in (is.lies ∙ sym (turned_here shape cpu (lies_in shape state) turn (Local from) (same_lock (Local from)) ∙ ap (content_after shape cpu turn.part) is.lies)))))
        (rest_goes later)
    by (Free e) xs ys ys_are is steals one two later rest_goes =
        let turn : Turn = on_lock (Local from) (parts.Local (local.Steal (Free e) first second)) in
        let add : Turn = brings_home shape cpu hash from e in
        let nothing_freed : freed first second ≡ [] = ap (λ (l : List Look). freed l second) steals.1 ∙ ap (λ (l : List Try). freed [] l) steals.2 in
        let none : is.es ≡ [] = no_names is.es (is.names_are ∙ nothing_freed) in
        let are : xs ≡ turn ∷ [] = is.all ∙ ap (λ (es : List (ℕ × ℕ)). evicting es ++ turn ∷ []) none in
        let adds : ys ≡ add ∷ [] = sym ys_are ∙ later.1 in
        let both_are : xs ++ ys ≡ turn ∷ add ∷ [] = ap (λ (l : List Turn). l ++ ys) are ∙ ap (λ (l : List Turn). turn ∷ l) adds in
        let mine = on_locals (after_turns shape cpu (lies_in shape state) (turn ∷ []) (Local cpu)) (AllowsOnLocal shape (local.Add hash e (Rattle.place_words.specs.Takings.ring_next from shape.cpus))) (subst (AreAllowed shape cpu (after_turns shape cpu (lies_in shape state) (turn ∷ []))) adds (subst (λ (l : List Turn). AreAllowed shape cpu (after_turns shape cpu (lies_in shape state) l) ys) are two)).0 in
        subst (λ (l : List Turn). Goes shape cpu (lies_in shape state) (Hands cpu [] Known) l (Hands cpu (option_to_list got) Known)) (sym both_are)
        (subst (λ (o : Option ℕ). Goes shape cpu (lies_in shape state) (Hands cpu [] Known) (turn ∷ add ∷ []) (Hands cpu (option_to_list o) Known)) (sym later.0)
        (goes_steal_free bounds lru common within (lies_in shape state) Known e hash (Rattle.place_words.specs.Takings.ring_next from shape.cpus) from first second is.lists mine.lists is.there is.lies steals.0 mine.lies))
    by (Pending e) xs ys ys_are is steals one two later rest_goes =
        let turn : Turn = on_lock (Local from) (parts.Local (local.Steal (Pending e) first second)) in
        let add : Turn = brings_home shape cpu hash from e in
        let single = one_name is.es e (is.names_are ∙ steals.1) in
        let are : xs ≡ evicting ((e, single.0) ∷ []) ++ turn ∷ [] = is.all ∙ ap (λ (es : List (ℕ × ℕ)). evicting es ++ turn ∷ []) single.1 in
        let adds : ys ≡ add ∷ [] = sym ys_are ∙ later.1 in
        let both_are : xs ++ ys ≡ evicting ((e, single.0) ∷ []) ++ turn ∷ add ∷ [] = ap (λ (l : List Turn). l ++ ys) are ∙ ap (λ (l : List Turn). (evicting ((e, single.0) ∷ []) ++ turn ∷ []) ++ l) adds in
        let mine = on_locals (after_turns shape cpu (lies_in shape state) (evicting ((e, single.0) ∷ []) ++ turn ∷ []) (Local cpu)) (AllowsOnLocal shape (local.Add hash e (Rattle.place_words.specs.Takings.ring_next from shape.cpus))) (subst (AreAllowed shape cpu (after_turns shape cpu (lies_in shape state) (evicting ((e, single.0) ∷ []) ++ turn ∷ []))) adds (subst (λ (l : List Turn). AreAllowed shape cpu (after_turns shape cpu (lies_in shape state) l) ys) are two)).0 in
        subst (λ (l : List Turn). Goes shape cpu (lies_in shape state) (Hands cpu [] Known) l (Hands cpu (option_to_list got) Known)) (sym both_are)
        (subst (λ (o : Option ℕ). Goes shape cpu (lies_in shape state) (Hands cpu [] Known) (evicting ((e, single.0) ∷ []) ++ turn ∷ add ∷ []) (Hands cpu (option_to_list o) Known)) (sym later.0)
        (less_known (lies_in shape state) _ Known (goes_steal_pending bounds lru common within (lies_in shape state) Known e single.0 hash (Rattle.place_words.specs.Takings.ring_next from shape.cpus) from first second is.lists mine.lists is.there
        (subst (AreBuckets shape) single.1 is.buckets).0 is.lies (is.listed e (subst (λ (l : List (ℕ × ℕ)). IsIn e (names l)) (sym single.1) (let here = times_cons_same e [] in omega (arith, here)))) (subst (λ (l : List (ℕ × ℕ)). AreAllowed shape cpu (lies_in shape state) (evicting l)) single.1 is.evictions) mine.lies)))
