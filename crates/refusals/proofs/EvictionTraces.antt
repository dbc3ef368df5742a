-- The evictions of an update: each goes by the hash of its element's row on the list of a later turn, and there are as many as probes.
use Rattle.std.proofs.Common.{◌≡◌, ℕ, ◌+◌, ⊎_elim, List, [], ◌∷◌, ◌++◌, map, length, refl, ap, sym, ◌∙◌, subst, arith, append_assoc, true, false, Option, None, Some, MatchOption}
use Rattle.std.specs.Prelude.{◌==◌, ◌&&◌, find, option_map}
use Rattle.std.specs.List.{sum_by}
use Rattle.std.proofs.lemmas.List.Sums.{sum_by-append, sum_by-cons}
use Rattle.map_types.specs.declared.attr.Shape.{Shape}
use Rattle.map_types.specs.declared.kind.DomainId.{DomainId}
use Rattle.map_types.specs.declared.kind.DomainId.TheVariants.{Local, Global, CpuLru, Bucket}
use Rattle.map_types.specs.declared.kind.Side.{Side}
use Rattle.map_types.specs.declared.refusal.Errno.TheVariants.{Enomem}
use Rattle.map_types.specs.declared.reply.Reply.{Reply}
use Rattle.map_types.specs.declared.reply.Reply.TheVariants.{Refused}
use Rattle.map_types.specs.declared.row.Row.{Row}
use Rattle.map_types.specs.Kind.{is_lru, is_percpu}
use Rattle.key_hash.specs.Bucket.{bucket_number}
use Rattle.key_hash.specs.Jhash.{hash}
use Rattle.place_words.specs.declared.bucket_part.BucketPart.TheVariants.{Update, Evict}
use Rattle.place_words.specs.declared.bucket_part.Seen.{Seen}
use Rattle.place_words.specs.declared.history.Part.{Part}
use Rattle.place_words.specs.declared.history.Part.TheVariants as parts
use Rattle.place_words.specs.declared.list_part.GlobalPart.TheVariants as global
use Rattle.place_words.specs.declared.list_part.LocalPart.TheVariants as local
use Rattle.place_words.specs.declared.list_part.OwnPart.TheVariants as own
use Rattle.place_words.specs.declared.visits.Try.{Try}
use Rattle.place_words.specs.Evicting.{IsEvictingUpdate, OffersOne, FreesOne, left_over}
use Rattle.place_words.specs.Globals.{flush_visit}
use Rattle.place_words.specs.Locals.{LocalLists}
use Rattle.place_words.specs.Takings.{Chase, IsChased, rows_brought, listed_rows, probes_of, stored_hash, evicts, TakesFree, TakesByRefill, Refills, Steals, Acquires, stolen_element, brings_home, Frees, FreesFlushed, freed_globally, freed_by, set_of}
use Rattle.place_words.specs.Turns.{Turn, TurnAt, turns_of, found, on_lock, on_bucket_of, ring}
use Rattle.place_table.specs.declared.view.Turned.{Turned}
use Rattle.place_table.specs.Known.{turn_at}
use Rattle.refusals.specs.Evicting.{evicted_in, EvictionsGoByTheHash, ProbesAreTurns}
use Rattle.refusals.proofs.KeyTraces.{by_kind}
use Rattle.refusals.proofs.EvictingLemmas.{first_chosen}
use Rattle.refusals.proofs.MadeLemmas.{Split, split_mapped}

-- a turn that is no eviction and has no probe
abbrev Quiet : Turn → Type 0
Quiet turn = (evicted_in turn.part ≡ 0) × (length (probes_of turn.part) ≡ 0)

abbrev AllQuiet : List Turn → Type 0
AllQuiet [] = Unit {0}
AllQuiet (turn ∷ turns) = Quiet turn × AllQuiet turns

abbrev evictions_at : TurnAt → ℕ
evictions_at at = evicted_in at.turn.part

abbrev probes_at : TurnAt → ℕ
probes_at at = length (probes_of at.turn.part)

module _ (shape : Shape) where
  -- the turn is of the bucket of the hash that the element's row has on the list of one of these
  pub record GoesByHash (turn : Turn) (e : ℕ) (later : List TurnAt) : Type 0 where
    pub between : List TurnAt
    pub list : TurnAt
    pub others : List TurnAt
    pub row : Row
    pub later_is : later ≡ between ++ list ∷ others
    pub row_is : find (λ row. row.element == e) (rows_brought list.turn.part ++ listed_rows (found shape list)) ≡ Some row
    pub lock_is : turn.lock ≡ Bucket (bucket_number row.hash shape.buckets)

  abbrev Follows : TurnAt → List TurnAt → Type 0
  Follows at later = (e : ℕ) (seen : Seen) → at.turn.part ≡ parts.Bucket (Evict e seen) → GoesByHash at.turn e later

  abbrev AllFollow : List TurnAt → Type 0
  AllFollow [] = Unit {0}
  AllFollow (at ∷ turns) = Follows at turns × AllFollow turns

  longer : (turn : Turn) (e : ℕ) (later more : List TurnAt) → GoesByHash turn e later → GoesByHash turn e (later ++ more)
  longer turn e later more goes = record {
    between = goes.between;
    list = goes.list;
    others = goes.others ++ more;
    row = goes.row;
    later_is = ap (λ (l : List TurnAt). l ++ more) goes.later_is ∙ append_assoc goes.between (goes.list ∷ goes.others) more;
    row_is = goes.row_is;
    lock_is = goes.lock_is;
  }

  follow_both : (xs ys : List TurnAt) → AllFollow xs → AllFollow ys → AllFollow (xs ++ ys)
  follow_both [] ys first second = second
  follow_both (x ∷ xs) ys first second = (λ e seen is. longer x.turn e xs ys (first.0 e seen is), follow_both xs ys first.1 second)

  quiet_follows : (at : TurnAt) (later : List TurnAt) → evicted_in at.turn.part ≡ 0 → Follows at later
  quiet_follows at later none e seen is = let one : evicted_in at.turn.part ≡ 1 = ap evicted_in is in absurd (omega (arith, none, one))

  pub record IsWell (turns : List TurnAt) : Type 0 where
    pub follow : AllFollow turns
    pub alike : sum_by evictions_at turns ≡ sum_by probes_at turns

  well_none : IsWell []
  well_none = record { follow = tt; alike = refl }

  well_both : (xs ys : List TurnAt) → IsWell xs → IsWell ys → IsWell (xs ++ ys)
  well_both xs ys first second = record {
    follow = follow_both xs ys first.follow second.follow;
    alike = sum_by-append evictions_at xs ys ∙ omega (arith, first.alike, second.alike, sum_by-append probes_at xs ys);
  }

  well_one : (at : TurnAt) → Quiet at.turn → IsWell (at ∷ [])
  well_one at quiet =
      let none_evicted : sum_by evictions_at [] ≡ 0 = refl in
      let none_probed : sum_by probes_at [] ≡ 0 = refl in
      record { follow = (quiet_follows at [] quiet.0, tt); alike = sum_by-cons evictions_at at [] ∙ omega (arith, quiet.0, quiet.1, none_evicted, none_probed, sum_by-cons probes_at at []) }

  well_all : (turns : List TurnAt) → AllQuiet (turns_of turns) → IsWell turns
  well_all [] quiet = well_none
  well_all (at ∷ turns) quiet = well_both (at ∷ []) turns (well_one at quiet.0) (well_all turns quiet.1)

  well_quiet : (turns : List TurnAt) (list : List Turn) → turns_of turns ≡ list → AllQuiet list → IsWell turns
  well_quiet turns list are quiet = well_all turns (subst AllQuiet (sym are) quiet)

  -- a turn of a list, with those of its probes
  module _ (rows : List Row) (last : TurnAt) (rows_are : rows ≡ rows_brought last.turn.part ++ listed_rows (found shape last)) where
    probe_goes : (probe : Try) (at : TurnAt) (probing : List TurnAt) (lies : Option Row) → find (λ row. row.element == probe.element) rows ≡ lies
        → option_map (evicts shape probe) (option_map (λ (row : Row). row.hash) lies) ≡ Some at.turn → Follows at (probing ++ last ∷ [])
    probe_goes probe at probing None lies is e seen part_is = absurd cc
    probe_goes probe at probing (Some row) lies is e seen part_is =
        let turn_is : evicts shape probe row.hash ≡ at.turn = same is in
        let element : probe.element ≡ e = same_element (ap (λ (x : Turn). x.part) turn_is ∙ part_is) in
        record {
          between = probing;
          list = last;
          others = [];
          row = row;
          later_is = refl;
          row_is = ap (λ (l : List Row). find (λ row. row.element == e) l) (sym rows_are) ∙ ap (λ (x : ℕ). find (λ row. row.element == x) rows) (sym element) ∙ lies;
          lock_is = ap (λ (x : Turn). x.lock) (sym turn_is);
        }
      where
        same : option_map (evicts shape probe) (option_map (λ (row : Row). row.hash) (Some row)) ≡ Some at.turn → evicts shape probe row.hash ≡ at.turn
        same is = cc

        same_element : parts.Bucket (Evict probe.element probe.probed) ≡ parts.Bucket (Evict e seen) → probe.element ≡ e
        same_element is = cc

    probing_follow : (probes : List Try) (probing : List TurnAt) → Chase shape rows probes (turns_of probing) → Follows last [] → AllFollow (probing ++ last ∷ [])
    probing_follow [] [] chase ends = (ends, tt)
    probing_follow [] (at ∷ probing) chase ends = absurd chase
    probing_follow (probe ∷ probes) [] chase ends = absurd chase
    probing_follow (probe ∷ probes) (at ∷ probing) chase ends =
        (probe_goes probe at probing (find (λ row. row.element == probe.element) rows) refl chase.0, probing_follow probes probing chase.1 ends)

  evicted_one : (probe : Try) (found_hash : Option ℕ) (turn : Turn) → option_map (evicts shape probe) found_hash ≡ Some turn → (evicted_in turn.part ≡ 1) × (length (probes_of turn.part) ≡ 0)
  evicted_one probe None turn is = absurd cc
  evicted_one probe (Some h) turn is = subst (λ (x : Turn). (evicted_in x.part ≡ 1) × (length (probes_of x.part) ≡ 0)) (same is) (refl, refl)
    where
      same : option_map (evicts shape probe) (Some h) ≡ Some turn → evicts shape probe h ≡ turn
      same is = cc

  chase_counts : (rows : List Row) (probes : List Try) (probing : List TurnAt) → Chase shape rows probes (turns_of probing) → (sum_by evictions_at probing ≡ length probes) × (sum_by probes_at probing ≡ 0)
  chase_counts rows [] [] chase = (refl, refl)
  chase_counts rows [] (at ∷ probing) chase = absurd chase
  chase_counts rows (probe ∷ probes) [] chase = absurd chase
  chase_counts rows (probe ∷ probes) (at ∷ probing) chase =
      let one = evicted_one probe (stored_hash probe.element rows) at.turn chase.0 in
      let more = chase_counts rows probes probing chase.1 in
      (sum_by-cons evictions_at at probing ∙ omega (arith, one.0, more.0), sum_by-cons probes_at at probing ∙ omega (arith, one.1, more.1))

  well_chased : (lock : DomainId) (part : Part) (turns : List TurnAt) → evicted_in part ≡ 0 → IsChased shape lock part turns → IsWell turns
  well_chased lock part turns none chased =
      let rows : List Row = rows_brought part ++ listed_rows (found shape chased.last) in
      let counts = chase_counts rows (probes_of part) chased.probing chased.chase in
      let last_evicts : evictions_at chased.last ≡ 0 = ap (λ (x : Turn). evicted_in x.part) chased.last_is ∙ none in
      let last_probes : probes_at chased.last ≡ length (probes_of part) = ap (λ (x : Turn). length (probes_of x.part)) chased.last_is in
      let none_evicted : sum_by evictions_at [] ≡ 0 = refl in
      let none_probed : sum_by probes_at [] ≡ 0 = refl in
      subst IsWell (sym chased.turns_are)
      (record {
        follow = probing_follow rows chased.last (ap (λ (x : Turn). rows_brought x.part ++ listed_rows (found shape chased.last)) (sym chased.last_is)) (probes_of part) chased.probing chased.chase (quiet_follows chased.last [] last_evicts);
        alike = sum_by-append evictions_at chased.probing (chased.last ∷ [])
            ∙ omega (arith, counts.0, counts.1, last_evicts, last_probes, none_evicted, none_probed, sum_by-cons evictions_at chased.last [], sum_by-cons probes_at chased.last [], sum_by-append probes_at chased.probing (chased.last ∷ []));
      })

  -- taking an element, and freeing one
  well_refill : (cpu hash_of : ℕ) (lists : LocalLists) (got : Option ℕ) (turns : List TurnAt) → Refills shape cpu hash_of lists got turns → IsWell turns
  well_refill cpu hash_of lists got turns refills =
      subst IsWell (sym refills.turns_are)
      (well_both refills.inner (refills.last ∷ [])
      (well_chased Global (parts.Global (global.Turn refills.flushed refills.active refills.inactive refills.free refills.shrink)) refills.inner refl refills.chased)
      (well_quiet (refills.last ∷ []) (on_lock (Local cpu) (parts.Local (local.Refill hash_of (map flush_visit refills.flushed) (refills.free ++ freed_by refills.shrink) got)) ∷ []) (ap (λ (x : Turn). x ∷ []) refills.last_is) ((refl, refl), tt)))

  well_steals : (cpu hash_of : ℕ) (cpus : List ℕ) (got : Option ℕ) (turns : List TurnAt) → Steals shape cpu hash_of cpus got turns → IsWell turns
  well_steals cpu hash_of [] got turns steals = subst IsWell (sym steals.0) well_none
  well_steals cpu hash_of (from ∷ others) got turns (tried, rest, stolen, first, second, are, chased, goes) =
      subst IsWell (sym are)
      (well_both tried rest
      (well_chased (Local from) (parts.Local (local.Steal stolen first second)) tried refl chased)
      (on (λ more. well_steals cpu hash_of others got rest more) (stolen_element stolen) goes))
    where
      on : (Steals shape cpu hash_of others got rest → IsWell rest) → (taken : Option ℕ)
          → MatchOption taken (Steals shape cpu hash_of others got rest) (λ e. (got ≡ Some e) × (turns_of rest ≡ brings_home shape cpu hash_of from e ∷ [])) → IsWell rest
      on next None more = next more
      on next (Some e) home = well_quiet rest (brings_home shape cpu hash_of from e ∷ []) home.1 ((refl, refl), tt)

  well_by_refill : (cpu hash_of : ℕ) (got : Option ℕ) (turns : List TurnAt) → TakesByRefill shape cpu hash_of got turns → IsWell turns
  well_by_refill cpu hash_of got turns takes =
      subst IsWell (sym takes.turns_are)
      (well_both takes.refilling takes.stealing (well_refill cpu hash_of takes.lists takes.gave takes.refilling takes.refills) (on takes.gave takes.steals))
    where
      on : (gave : Option ℕ) → MatchOption gave (Steals shape cpu hash_of (ring takes.lists.steal shape.cpus) got takes.stealing) (λ e. (takes.stealing ≡ []) × (got ≡ Some e)) → IsWell takes.stealing
      on None more = well_steals cpu hash_of (ring takes.lists.steal shape.cpus) got takes.stealing more
      on (Some e) gave = subst IsWell (sym gave.0) well_none

  well_free : (cpu hash_of : ℕ) (got : Option ℕ) (turns : List TurnAt) → TakesFree cpu hash_of got turns → IsWell turns
  well_free cpu hash_of None turns takes = absurd takes
  well_free cpu hash_of (Some e) turns takes = well_quiet turns (on_lock (Local cpu) (parts.Local (local.Pop hash_of e)) ∷ []) takes ((refl, refl), tt)

  well_takes : (cpu hash_of : ℕ) (got : Option ℕ) (turns : List TurnAt) → Acquires shape cpu hash_of got turns → IsWell turns
  well_takes cpu hash_of got turns takes =
      by_kind shape.common takes
      (λ _ shared. ⊎_elim (λ free. well_free cpu hash_of got turns free) (λ refill. well_by_refill cpu hash_of got turns refill) shared)
      (λ _ of_own. well_chased (CpuLru cpu) (parts.Own (own.Turn hash_of of_own.active of_own.inactive of_own.shrink got)) turns refl of_own.chased)

  well_frees : (e : ℕ) (turns : List TurnAt) → Frees shape e turns → IsWell turns
  well_frees e turns frees =
      by_kind shape.common frees
      (λ _ shared. ⊎_elim
      (λ pending. well_quiet turns (on_lock (Local pending.on) (parts.Local (local.Push e true)) ∷ []) pending.turns_are ((refl, refl), tt))
      (λ other. ⊎_elim
      (λ flushed. two flushed)
      (λ alone. well_quiet turns (freed_globally e ∷ []) alone ((refl, refl), tt)) other)
      shared)
      (λ _ of_own. well_quiet turns (on_lock (CpuLru (set_of shape e)) (parts.Own (own.Push e)) ∷ []) of_own ((refl, refl), tt))
    where
      two : FreesFlushed e turns → IsWell turns
      two flushed =
          well_quiet turns (on_lock (Local flushed.on) (parts.Local (local.Push e false)) ∷ freed_globally e ∷ [])
          (ap turns_of flushed.turns_are ∙ ap (λ (x : Turn). x ∷ flushed.second.turn ∷ []) flushed.first_is ∙ ap (λ (x : Turn). on_lock (Local flushed.on) (parts.Local (local.Push e false)) ∷ x ∷ []) flushed.second_is)
          ((refl, refl), ((refl, refl), tt))

  well_frees_one : (gone : Option ℕ) (turns : List TurnAt) → FreesOne shape gone turns → IsWell turns
  well_frees_one None turns frees = subst IsWell (sym frees) well_none
  well_frees_one (Some e) turns frees = well_frees e turns frees

-- an update
module _ (shape : Shape) (cpu : ℕ) (side : Side) (flags : ℕ) (key value : List ℕ) (reply : Reply) where
  well_offer : (got : Option ℕ) (rest : List TurnAt) → MatchOption got ((rest ≡ []) × (reply ≡ Refused Enomem)) (λ e. OffersOne shape side flags key value e rest reply) → IsWell shape rest
  well_offer None rest offers = subst (IsWell shape) (sym offers.0) (well_none shape)
  well_offer (Some e) rest offers =
      subst (IsWell shape) (sym offers.turns_are)
      (well_both shape (offers.at_bucket ∷ []) offers.freeing
      (well_quiet shape (offers.at_bucket ∷ []) (on_bucket_of shape key (Update side flags key value (Some e) offers.put) ∷ []) (ap (λ (x : Turn). x ∷ []) offers.bucket_is) ((refl, refl), tt))
      (well_frees_one shape (left_over e offers.put) offers.freeing offers.frees))

  well_update : (turns : List TurnAt) → IsEvictingUpdate shape cpu side flags key value turns reply → IsWell shape turns
  well_update turns trace =
      ⊎_elim (λ unknown. subst (IsWell shape) (sym unknown.1) (well_none shape))
      (λ known. by_kind (is_percpu shape.kind && (flags == 2)) known.1
      (λ _ alone. well_quiet shape turns (on_bucket_of shape key (Update side flags key value None alone.put) ∷ []) alone.turns_are ((refl, refl), tt))
      (λ _ offer. subst (IsWell shape) (sym offer.turns_are)
      (well_both shape offer.taking offer.rest (well_takes shape cpu (hash key shape.seed) offer.got offer.taking offer.takes) (well_offer offer.got offer.rest offer.offers))))
      trace

-- as they are told
told_sum : (f : Part → ℕ) (shape : Shape) (told : List Turned) → sum_by (λ (at : TurnAt). f at.turn.part) (map (turn_at shape) told) ≡ sum_by (λ (x : Turned). f x.entry.part) told
told_sum f shape [] = refl
told_sum f shape (x ∷ told) =
    sum_by-cons (λ (at : TurnAt). f at.turn.part) (turn_at shape x) (map (turn_at shape) told) ∙ ap (λ (n : ℕ). f x.entry.part + n) (told_sum f shape told)
    ∙ sym (sum_by-cons (λ (y : Turned). f y.entry.part) x told)

pub probes_are_turns : ProbesAreTurns
probes_are_turns t before after side flags key value reply evicting called =
    let well = well_update t.shape before.cpu side flags key value reply (map (turn_at t.shape) called.told) (first_chosen (is_lru t.shape.kind) _ _ evicting called.trace) in
    sym (told_sum evicted_in t.shape called.told) ∙ well.alike ∙ told_sum (λ (part : Part). length (probes_of part)) t.shape called.told

module _ (shape : Shape) where
  follows_there : (front back : List Turned) (step : Turned) → AllFollow shape (map (turn_at shape) (front ++ step ∷ back)) → Follows shape (turn_at shape step) (map (turn_at shape) back)
  follows_there [] back step all = all.0
  follows_there (x ∷ front) back step all = follows_there front back step all.1

pub evictions_go_by_hash : EvictionsGoByTheHash
evictions_go_by_hash t before after side flags key value reply evicting called front back step e seen are is =
    let well = well_update t.shape before.cpu side flags key value reply (map (turn_at t.shape) called.told) (first_chosen (is_lru t.shape.kind) _ _ evicting called.trace) in
    with (follows_there t.shape front back step (subst (λ (l : List Turned). AllFollow t.shape (map (turn_at t.shape) l)) are well.follow) e seen is)
  where
    with : GoesByHash t.shape (turn_at t.shape step).turn e (map (turn_at t.shape) back)
        → (between : List Turned) × (list : Turned) × (others : List Turned) × (row : Row) × (back ≡ between ++ list ∷ others)
        × (find (λ row. row.element == e) (rows_brought list.entry.part ++ listed_rows (found t.shape (turn_at t.shape list))) ≡ Some row)
        × ((turn_at t.shape step).turn.lock ≡ Bucket (bucket_number row.hash t.shape.buckets))
    with goes = at (split_mapped (turn_at t.shape) back goes.between goes.list goes.others goes.later_is)
      where
        at : Split (turn_at t.shape) back goes.between goes.list goes.others
            → (between : List Turned) × (list : Turned) × (others : List Turned) × (row : Row) × (back ≡ between ++ list ∷ others)
            × (find (λ row. row.element == e) (rows_brought list.entry.part ++ listed_rows (found t.shape (turn_at t.shape list))) ≡ Some row)
            × ((turn_at t.shape step).turn.lock ≡ Bucket (bucket_number row.hash t.shape.buckets))
        at split = (
          split.front,
          split.here,
          split.back,
          goes.row,
          split.are,
          ap (λ (x : TurnAt). find (λ row. row.element == e) (rows_brought x.turn.part ++ listed_rows (found t.shape x))) split.here_is ∙ goes.row_is,
          goes.lock_is,
        )
