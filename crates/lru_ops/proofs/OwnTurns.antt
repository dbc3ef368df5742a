-- A turn of the own set that gives out an element, from its take to its give.
use Rattle.place_table.proofs.TicketsTaken.{took_touched}
use Rattle.std.proofs.Common.{inl, inr, ⊎_elim, ◌≡◌, ℕ, ◌<◌, cond, true, false, Bool, List, [], ◌∷◌, ◌++◌, map, sym, refl, ap, ◌∙◌, subst, Option, Some, None, arith, append_assoc}
use Rattle.std.specs.Prelude.{◌⊎◌, ◌==◌, ◌&&◌, not, option_map, option_to_list, MatchOption, MatchBool, IfSome, IsTrue, All, suc}
use Rattle.std.specs.List.{flat_map}
use Rattle.std.proofs.lemmas.Bool.{lt-ltb}
use Rattle.std.proofs.lemmas.List.{map-append}
use Rattle.std.proofs.lemmas.List.Concat.{flat_map-append}
use Rattle.std.proofs.lemmas.List.Elements.{All-nil, All-head, All-cons, All-append}
use Rattle.map_types.specs.declared.attr.Shape.{Shape}
use Rattle.map_types.specs.declared.kind.DomainId.{DomainId}
use Rattle.map_types.specs.declared.kind.DomainId.TheVariants.{Bucket, CpuLru, Local}
use Rattle.map_types.specs.declared.row.Row.{Row}
use Rattle.map_types.specs.Creation.{IsShape}
use Rattle.map_types.specs.ElementLists.{times}
use Rattle.map_types.specs.Kind.{is_lru}
use Rattle.map_types.specs.Listed.{elements_of}
use Rattle.map_types.specs.Stored.{Stored}
use Rattle.map_types.proofs.CreationLemmas.{bounds_of_shape}
use Rattle.map_types.proofs.RowLemmas.{by_test}
use Rattle.key_hash.specs.Bucket.{bucket_number, IsPowerOfTwo}
use Rattle.key_hash.proofs.Buckets.{bucket_number-lt}
use Rattle.owner_words.specs.Owners.{owner_told}
use Rattle.place_words.specs.declared.bucket_part.BucketPart.TheVariants.{Evict}
use Rattle.place_words.specs.declared.bucket_part.Seen.{Seen}
use Rattle.place_words.specs.declared.history.Entry.{Entry}
use Rattle.place_words.specs.declared.history.Part.{Part}
use Rattle.place_words.specs.declared.history.Part.TheVariants as parts
use Rattle.place_words.specs.declared.visits.Try.{Try}
use Rattle.place_words.specs.declared.visits.Visit.{Visit}
use Rattle.place_words.specs.Histories.{Content, in_own, content, content_after, Allows, IsLegal, bits_cleared, also_cleared, looks_told, got_cleared}
use Rattle.place_words.specs.Locks.{is_lock, lock_named, lock_number}
use Rattle.place_words.specs.Rotation.{visited_elements}
use Rattle.place_words.specs.Sets.{own_scans, rotated_set}
use Rattle.place_words.specs.Takings.{Acquires, TakesFree, TakesByRefill, TakesOwn, Chase, evicts, listed_rows, shrink_probes, stored_hash, walk_probes}
use Rattle.place_words.specs.Turns.{Turn, turns_of}
use Rattle.place_words.proofs.LockLemmas.{named_by_number}
use Rattle.place_words.specs.State.{rows}
use Rattle.place_table.specs.declared.content.Content.TheVariants as contents
use Rattle.place_table.specs.declared.view.HashIn.{HashIn}
use Rattle.place_table.specs.declared.view.Hold.{Hold}
use Rattle.place_table.specs.declared.view.InHand.{InHand}
use Rattle.place_table.specs.declared.view.Notes.{Notes}
use Rattle.place_table.specs.declared.view.Turned.{Turned}
use Rattle.place_table.specs.declared.view.View.{View}
use Rattle.place_table.specs.declared.view.WordStep.{WordStep}
use Rattle.place_table.specs.Calls.{CanCall, CouldBe, IsTold, AreTold, sets_bit, clears_found, clears_bit, bits_of_part, bits_of_turns}
use Rattle.place_table.specs.Contents.{set_told, set_under, lists_of, FitsLock}
use Rattle.place_table.specs.Flushes.{flushes}
use Rattle.place_table.specs.Known.{BitTouch, Learns, turn_of, turn_at, IsBy}
use Rattle.place_table.specs.Passes.{PassView, TableView, TookLock, CanGive, Gave, GaveSome, GaveBack, MayGiveBack, Goes, entry_of, ready as taken_view}
use Rattle.place_table.specs.StoredHashes.{stored_in}
use Rattle.place_table.specs.TurnNotes.{WasRead, AreCleared, CameToHand, clears_noted}
use Rattle.place_table.proofs.Came.{came_among}
use Rattle.place_table.specs.Views.{is_among, is_in_hand_of, hold_at, known_log, bucket_known, hash_given, hashes_given, came_last, learned, holding, holds_below, notes_below, passed_on, no_notes, with_in_hand, hold_with, ticket_of}
use Rattle.place_table.proofs.Entries.{append_nil}
use Rattle.place_table.proofs.Telling.{tells_turn}
use Rattle.place_table.proofs.TurnsOn.{told_append}
use Rattle.place_table.proofs.Going.{AreElsewhere, log_elsewhere, given_turn, goes_on, goes_took, goes_gave, goes_gave_some, goes_of_table, goes_begun, same_head, learns_on, learns_after, learns_gave, learns_took}
use Rattle.place_table.proofs.Worlds.{true_false}
use Rattle.lru_lists.specs.declared.bits.ProbeCall.{ProbeCall}
use Rattle.lru_lists.specs.declared.notes.Noted.TheVariants as noted
use Rattle.lru_lists.specs.declared.notes.RotateNotes.{RotateNotes}
use Rattle.lru_lists.specs.declared.notes.ShrinkNotes.{ShrinkNotes}
use Rattle.lru_lists.specs.Sets.{SetView}
use Rattle.lru_ops.specs.Askings.{AreEvicts}
use Rattle.lru_ops.specs.Evictions.{IsEvict, SawHolders}
use Rattle.lru_ops.specs.Lists.{Acquired, Changed, FoundNone, FoundNoneOwn, FoundNoneShared, IsHeldByOther, IsTakenFor}
use Rattle.lru_ops.specs.OwnTurns.{note_of, rows_on, try_of, own_part, IsOwnTurn, CanWork, Worked, GaveOut, GivesOut, in_turn}
use Rattle.lru_ops.proofs.OwnWalk.{hold_at_only}
use Rattle.lru_ops.proofs.EvictTurns.{other_lock}
use Rattle.lru_ops.proofs.GivingOut.{Ready, ready, hand_with_got, found_new, row_more}
use Rattle.lru_ops.proofs.Holders.{saw_on, saw_none, saw_both, own_tells_none}
use Rattle.lru_ops.proofs.NoneFound.{shrank_none, held_elsewhere}
use Rattle.lru_ops.proofs.PassWork.{stored_here}
use Rattle.lru_ops.proofs.OwnersAround.{own_no_probe}

-- Where each CPU has lists of its own, the map has their locks.
pub own_set_there : (shape : Shape) (cpu : ℕ) → IsTrue (is_lru shape.kind) → shape.common ≡ false → cpu < shape.cpus → IsTrue (is_lock shape (CpuLru cpu))
own_set_there shape cpu evicts apart few = (λ i. (evicts i && not (apart i)) && lt-ltb cpu shape.cpus few i)

-- Taking

-- on a map that evicts nothing is in hand between calls
none_in_hand : (t : TableView) (p : PassView) → CanCall t p → IsTrue (is_lru t.shape.kind) → (e cpu : ℕ) → is_among cpu p.view.cpus ≡ true → is_in_hand_of e cpu p.view.hand ≡ false
none_in_hand t p can evicts e cpu among = go (is_in_hand_of e cpu p.view.hand) refl
  where
    go : (b : Bool) → is_in_hand_of e cpu p.view.hand ≡ b → b ≡ false
    go false is = refl
    go true is = true_false (sym evicts ∙ ap is_lru (ap (λ (s : Shape). s.kind) (sym can.of_table.1) ∙ (can.in_no_call.spares_only e cpu among is).3))

pub can_work : (t : TableView) (p q : PassView) (set : SetView) → IsShape t.shape → IsTrue (is_lru t.shape.kind) → IsTrue (is_lock t.shape (CpuLru p.cpu)) → CanCall t p → TookLock t (CpuLru p.cpu) p q (contents.Set set) → CanWork t set q
can_work t p q set is_shape evicts there can took =
    let goes = goes_took t (CpuLru p.cpu) p q (contents.Set set) took in
    let view : q.view ≡ holding took.at took.hold p.view = ap (λ (z : PassView). z.view) took.after_is in
    record {
      holds = record {
        lists = record {
          of_table = goes_of_table t p q [] [] goes can.of_table;
          begun = goes_begun p q [] [] goes can.begun;
          is_shape = is_shape;
          evicts = evicts;
          there = subst (λ (c : ℕ). IsTrue (is_lock t.shape (CpuLru c))) (sym goes.cpu) there;
          lists = let low : 2 < 3 = omega arith in low;
          hold = took.hold;
          outer = [];
          held = ap (λ (v : View). v.held) view ∙ ap (λ (l : List Hold). took.hold ∷ l) can.in_no_call.holds_nothing;
          above = tt;
          lock_is = took.lock_is ∙ ap (λ (c : ℕ). lock_number t.shape (CpuLru c)) (sym goes.cpu);
          cpu_is = took.cpu_is ∙ sym goes.cpu;
          notes = no_notes;
          below = p.view.notes;
          notes_are = ap (λ (v : View). v.notes) view;
          freed = tt;
          unchanged = λ x. refl;
        };
        alone = refl;
        hands_empty = λ e cpu among. ap (λ (v : View). is_in_hand_of e cpu v.hand) view ∙ none_in_hand t p can evicts e cpu (ap (λ (v : View). is_among cpu v.cpus) (sym view) ∙ among);
      };
      fits = took.fits;
      found = took.told_is ∙ ap (λ (c : ℕ). content t.shape (CpuLru c) took.hold.log) (sym goes.cpu);
      now = took.now;
    }

-- The turns of probes

pub evict_lock : (shape : Shape) (cpu call hash e : ℕ) (seen : Seen) (turn : Turned) → IsPowerOfTwo shape.buckets → IsEvict shape cpu call (bucket_number hash shape.buckets) e seen turn → IsTrue (is_lock shape (Bucket (bucket_number hash shape.buckets)))
evict_lock shape cpu call hash e seen turn power is = lt-ltb (bucket_number hash shape.buckets) shape.buckets (bucket_number-lt hash shape.buckets power)

evicts_elsewhere : (shape : Shape) (cpu call own_cpu : ℕ) (rows : List Row) (probes : List ProbeCall) (turns : List Turned) → IsPowerOfTwo shape.buckets → IsTrue (is_lock shape (CpuLru own_cpu)) → AreEvicts shape cpu call rows probes turns → AreElsewhere (lock_number shape (CpuLru own_cpu)) turns
evicts_elsewhere shape cpu call own_cpu rows [] [] power own_there are = tt
evicts_elsewhere shape cpu call own_cpu rows [] (turn ∷ turns) power own_there are = absurd are
evicts_elsewhere shape cpu call own_cpu rows (probe ∷ probes) [] power own_there are = absurd are
evicts_elsewhere shape cpu call own_cpu rows (probe ∷ probes) (turn ∷ turns) power own_there are = (
  (λ same. other_lock shape (bucket_number probe.hash shape.buckets) own_cpu (evict_lock shape cpu call probe.hash probe.element probe.probed turn power are.0) own_there (sym are.0.lock ∙ same)),
  evicts_elsewhere shape cpu call own_cpu rows probes turns power own_there are.2,
)

pub evicts_by : (shape : Shape) (cpu call : ℕ) (rows : List Row) (probes : List ProbeCall) (turns : List Turned) → AreEvicts shape cpu call rows probes turns → All (IsBy cpu call) turns
evicts_by shape cpu call rows [] [] are = All-nil (IsBy cpu call)
evicts_by shape cpu call rows [] (turn ∷ turns) are = absurd are
evicts_by shape cpu call rows (probe ∷ probes) [] are = absurd are
evicts_by shape cpu call rows (probe ∷ probes) (turn ∷ turns) are =
    All-cons (IsBy cpu call) turn turns (ap (λ (x : Entry). x.cpu) are.0.entry, ap (λ (x : Entry). x.call) are.0.entry) (evicts_by shape cpu call rows probes turns are.2)

pub evict_bits : (shape : Shape) (e : ℕ) (seen : Seen) → bits_of_part shape (parts.Bucket (Evict e seen)) ≡ []
evict_bits shape e seen = go (is_lru shape.kind)
  where
    go : (b : Bool) → (map sets_bit (cond b [] []) ++ []) ++ [] ≡ []
    go true = refl
    go false = refl

pub evicts_bits : (shape : Shape) (cpu call : ℕ) (rows : List Row) (probes : List ProbeCall) (turns : List Turned) → AreEvicts shape cpu call rows probes turns → flat_map (λ (step : Turned). bits_of_part shape step.entry.part) turns ≡ []
evicts_bits shape cpu call rows [] [] are = refl
evicts_bits shape cpu call rows [] (turn ∷ turns) are = absurd are
evicts_bits shape cpu call rows (probe ∷ probes) [] are = absurd are
evicts_bits shape cpu call rows (probe ∷ probes) (turn ∷ turns) are =
    (λ i. (ap (λ (x : Entry). bits_of_part shape x.part) are.0.entry ∙ evict_bits shape probe.element probe.probed) i ++ evicts_bits shape cpu call rows probes turns are.2 i)

chased_by : (shape : Shape) (rows : List Row) (e h : ℕ) (seen : Seen) (turn : Turn) → stored_hash e rows ≡ Some h → turn ≡ evicts shape (record { element = e; probed = seen }) h → option_map (evicts shape (record { element = e; probed = seen })) (stored_hash e rows) ≡ Some turn
chased_by shape rows e h seen turn stored is = ap (option_map (evicts shape (record { element = e; probed = seen }))) stored ∙ ap Some (sym is)

pub chase_of : (shape : Shape) (cpu call : ℕ) (rows : List Row) (probes : List ProbeCall) (turns : List Turned) → IsPowerOfTwo shape.buckets → AreEvicts shape cpu call rows probes turns → Chase shape rows (map try_of probes) (turns_of (map (turn_at shape) turns))
chase_of shape cpu call rows [] [] power are = tt
chase_of shape cpu call rows [] (turn ∷ turns) power are = absurd are
chase_of shape cpu call rows (probe ∷ probes) [] power are = absurd are
chase_of shape cpu call rows (probe ∷ probes) (turn ∷ turns) power are =
    let b : ℕ = bucket_number probe.hash shape.buckets in
    let lock : lock_named shape turn.lock ≡ Bucket b = ap (lock_named shape) are.0.lock ∙ named_by_number shape (Bucket b) (evict_lock shape cpu call probe.hash probe.element probe.probed turn power are.0) in (
      chased_by shape rows probe.element probe.hash probe.probed (turn_of shape turn) are.1 (λ i. record { lock = lock i; part = (are.0.entry i).part }),
      chase_of shape cpu call rows probes turns power are.2,
    )

-- Telling

pub evicts_told : (shape : Shape) (lost : List ℕ) (cpu call : ℕ) (rows : List Row) (probes : List ProbeCall) (turns : List Turned) → AreEvicts shape cpu call rows probes turns → AreTold shape lost turns turns
evicts_told shape lost cpu call rows [] [] are = tt
evicts_told shape lost cpu call rows [] (turn ∷ turns) are = absurd are
evicts_told shape lost cpu call rows (probe ∷ probes) [] are = absurd are
evicts_told shape lost cpu call rows (probe ∷ probes) (turn ∷ turns) are = ((inl refl, are.0.tells), evicts_told shape lost cpu call rows probes turns are.2)

pub told_last : (shape : Shape) (lost : List ℕ) (steps : List Turned) (step told : Turned) → AreTold shape lost steps steps → IsTold shape lost step told → AreTold shape lost (steps ++ step ∷ []) (steps ++ told ∷ [])
told_last shape lost steps step told are is = told_append shape lost steps (step ∷ []) steps (told ∷ []) are (is, tt)

pub cleared_times : (x : ℕ) (also : List ℕ) (told done : List Visit) → AreCleared also told done → times x (visited_elements told ++ also) ≡ times x (visited_elements done)
cleared_times x [] told done are = ap (times x) (append_nil (visited_elements told)) ∙ ap (λ (l : List Visit). times x (visited_elements l)) (sym are)
cleared_times x (e ∷ also) told done are =
    let before : List Visit = are.0 in
    let behind : List Visit = are.2 in
    let visit : Visit = record { element = e; bit = are.1 } in
    let rest : times x (visited_elements told ++ also) ≡ times x (visited_elements (before ++ behind)) = cleared_times x also told (before ++ behind) are.4 in
    let both : times x (visited_elements told ++ also) ≡ times x (visited_elements before ++ visited_elements behind) = rest ∙ ap (times x) (map-append (λ (v : Visit). v.element) before behind) in
    row_more x e (visited_elements told) also
    ∙ (by_test e x (λ b. cond b (suc (times x (visited_elements told ++ also))) (times x (visited_elements told ++ also)) ≡ cond b (suc (times x (visited_elements before ++ visited_elements behind))) (times x (visited_elements before ++ visited_elements behind))) (λ _. ap suc both) (λ _. both)
    ∙ (sym (row_more x e (visited_elements before) (visited_elements behind))
    ∙ (ap (times x) (sym (map-append (λ (v : Visit). v.element) before (visit ∷ behind))) ∙ ap (λ (l : List Visit). times x (visited_elements l)) (sym are.3))))

-- nothing that an own turn tells is handed on
own_passed : (shape : Shape) (cpu : ℕ) (part : Part) (there : Content) (lists : _) (all : List Notes) → in_own lists ≡ there → Allows shape cpu part there → passed_on part all ≡ notes_below all
own_passed shape cpu part there lists all is allowed = go part (subst (Allows shape cpu part) (sym is) allowed)
  where
    go : (part : Part) → Allows shape cpu part (in_own lists) → passed_on part all ≡ notes_below all
    go (parts.Bucket part) allowed = absurd allowed
    go (parts.Free part) allowed = absurd allowed
    go (parts.Local part) allowed = absurd allowed
    go (parts.Global part) allowed = absurd allowed
    go (parts.Own part) allowed = refl

-- Hashes

pub first_hash : (cpu mine buckets e h : ℕ) (there : Content) (came : List ℕ) (hand : List InHand) (hashes : List HashIn) → mine ≡ cpu → is_among e came ≡ true → stored_in there e ≡ Some h → bucket_known e cpu (hashes_given mine buckets there came (with_in_hand e cpu hand) hashes) ≡ Some (bucket_number h buckets)
first_hash cpu mine buckets e h there came hand hashes is inside stored =
    by_test cpu mine (λ b. bucket_known e cpu (cond (b && is_among e came) (hash_given buckets (record { element = e; cpu = cpu }) (stored_in there e) (hashes_given mine buckets there came hand hashes)) (hashes_given mine buckets there came hand hashes)) ≡ Some (bucket_number h buckets))
    (λ _. (λ i. bucket_known e cpu (cond (inside i) (hash_given buckets (record { element = e; cpu = cpu }) (stored i) (hashes_given mine buckets there came hand hashes)) (hashes_given mine buckets there came hand hashes)))
    ∙ by_test e e (λ b. cond (b && (cpu == cpu)) (Some (bucket_number h buckets)) (bucket_known e cpu (hashes_given mine buckets there came hand hashes)) ≡ Some (bucket_number h buckets))
    (λ _. by_test cpu cpu (λ b. cond b (Some (bucket_number h buckets)) (bucket_known e cpu (hashes_given mine buckets there came hand hashes)) ≡ Some (bucket_number h buckets)) (λ _. refl) (λ other. absurd (other refl)))
    (λ other. absurd (other refl)))
    (λ other. absurd (other (sym is)))

-- the hash that the new row has
new_hash : (t : TableView) (hash : ℕ) (worked out : SetView) (r s : PassView) (body : Stored) → GaveOut t hash worked out r s body → stored_hash body.element (rows_on out) ≡ Some hash
new_hash t hash worked out r s body g =
    let e : ℕ = body.element in
    let rows_are : rows_on out ≡ worked.active ++ record { element = e; hash = hash } ∷ worked.inactive = ap rows_on g.after_is in
    let once = g.fits.whole.once e in
    let parts : times e (elements_of out.active) ≡ times e (elements_of worked.active) = ap (λ (z : SetView). times e (elements_of z.active)) g.after_is in
    let here : times e (elements_of out.inactive) ≡ suc (times e (elements_of worked.inactive)) = ap (λ (z : SetView). times e (elements_of z.inactive)) g.after_is ∙ by_test e e (λ b. cond b (suc (times e (elements_of worked.inactive))) (times e (elements_of worked.inactive)) ≡ suc (times e (elements_of worked.inactive))) (λ _. refl) (λ other. absurd (other refl)) in
    ap (stored_hash e) rows_are ∙ found_new e hash worked.active worked.inactive (omega (arith, once, parts, here))

-- Giving back

set_no_local : (c d : ℕ) → CpuLru c ≡ Local d → ⊥
set_no_local c d e = cc

-- what a give leaves, with an entry or without
pub record GaveAs (t : TableView) (s u : PassView) (hold : Hold) (part : Part) (lost : List ℕ) : Type 0 where
  pub ticket : ℕ
  pub goes : Goes s u (given_turn s ticket hold part ∷ []) lost
  pub held : u.view.held ≡ holds_below s.view.held
  pub notes : u.view.notes ≡ passed_on part s.view.notes
  pub hand : u.view.hand ≡ s.view.hand
  pub carried : u.view.carried ≡ s.view.carried
  pub spares : u.spares ≡ s.spares
  pub hashes : u.view.hashes ≡ cond (is_lru s.view.shape.kind) (hashes_given hold.cpu s.view.shape.buckets (content_after s.view.shape s.cpu part (content s.view.shape (lock_named s.view.shape hold.lock) hold.log)) (came_last s.view.notes) s.view.hand s.view.hashes) s.view.hashes
  pub known : u.view.known ≡ learned hold (entry_of s ticket part) s.view
  pub bits : u.view.bits ≡ s.view.bits
  pub touched : List WordStep
  pub touched_are : u.view.touched ≡ s.view.touched ++ touched

pub gave_as : (t : TableView) (s u : PassView) (part : Part) (gave : Gave s u part) → GaveAs t s u gave.hold part []
gave_as t s u part gave = record {
  ticket = gave.ticket;
  goes = goes_gave s u part gave;
  held = ap (λ (z : PassView). z.view.held) gave.after_is;
  notes = ap (λ (z : PassView). z.view.notes) gave.after_is;
  hand = ap (λ (z : PassView). z.view.hand) gave.after_is;
  carried = ap (λ (z : PassView). z.view.carried) gave.after_is;
  spares = ap (λ (z : PassView). z.spares) gave.after_is;
  hashes = ap (λ (z : PassView). z.view.hashes) gave.after_is;
  known = ap (λ (z : PassView). z.view.known) gave.after_is;
  bits = ap (λ (z : PassView). z.view.bits) gave.after_is;
  touched = (took_touched s.view gave.took.drawn gave.took.ticket gave.took.reached gave.took.touched gave.took.takes).more ++ record { at = gave.at; word = gave.hold.lock; seen = None; left = 0 } ∷ [];
  touched_are = let are = took_touched s.view gave.took.drawn gave.took.ticket gave.took.reached gave.took.touched gave.took.takes in
      ap (λ (z : PassView). z.view.touched) gave.after_is ∙ (ap (λ (l : List WordStep). l ++ record { at = gave.at; word = gave.hold.lock; seen = None; left = 0 } ∷ []) are.are ∙ append_assoc s.view.touched are.more (record { at = gave.at; word = gave.hold.lock; seen = None; left = 0 } ∷ []));
}

pub gave_some_as : (t : TableView) (lock : DomainId) (s u : PassView) (here : _) (gave : GaveSome t lock s u here) → GaveAs t s u gave.can.hold gave.part (gave.can.hold.lock ∷ [])
gave_some_as t lock s u here gave = record {
  ticket = ticket_of (taken_view s.view gave.took);
  goes = goes_gave_some t lock s u here gave;
  held = ap (λ (z : PassView). z.view.held) gave.after_is;
  notes = ap (λ (z : PassView). z.view.notes) gave.after_is;
  hand = ap (λ (z : PassView). z.view.hand) gave.after_is;
  carried = ap (λ (z : PassView). z.view.carried) gave.after_is;
  spares = ap (λ (z : PassView). z.spares) gave.after_is;
  hashes = ap (λ (z : PassView). z.view.hashes) gave.after_is;
  known = ap (λ (z : PassView). z.view.known) gave.after_is;
  bits = ap (λ (z : PassView). z.view.bits) gave.after_is;
  touched = (took_touched s.view gave.took.drawn gave.took.ticket gave.took.reached gave.took.touched gave.took.takes).more ++ record { at = gave.at; word = gave.can.hold.lock; seen = None; left = 0 } ∷ [];
  touched_are = let are = took_touched s.view gave.took.drawn gave.took.ticket gave.took.reached gave.took.touched gave.took.takes in
      ap (λ (z : PassView). z.view.touched) gave.after_is ∙ (ap (λ (l : List WordStep). l ++ record { at = gave.at; word = gave.can.hold.lock; seen = None; left = 0 } ∷ []) are.are ∙ append_assoc s.view.touched are.more (record { at = gave.at; word = gave.can.hold.lock; seen = None; left = 0 } ∷ []));
}

module _ {t : TableView} {p q s : PassView} {set out : SetView} {hash : ℕ} {turning turning_after : RotateNotes} {shrinking shrinking_after : ShrinkNotes} {shrunk : Bool} {got : Option ℕ}
    (is_shape : IsShape t.shape) (evicts : IsTrue (is_lru t.shape.kind)) (apart : t.shape.common ≡ false) (there : IsTrue (is_lock t.shape (CpuLru p.cpu)))
    (begins : CanCall t p) (took : TookLock t (CpuLru p.cpu) p q (contents.Set set)) (y : Ready t hash turning turning_after shrinking shrinking_after shrunk set out q s got) where
  abbrev lock : DomainId
  lock = CpuLru p.cpu

  abbrev part : Part
  part = own_part hash y.active y.inactive (note_of shrunk y.looks y.forced) got

  abbrev own_hold : Hold
  own_hold = hold_with y.hold y.now

  to_q : Goes p q [] []
  to_q = goes_took t lock p q (contents.Set set) took

  to_s : Goes p s y.turns []
  to_s = goes_on p q s [] y.turns [] [] to_q y.goes

  of_table : (s.table ≡ t.id) × (s.view.shape ≡ t.shape)
  of_table = goes_of_table t p s y.turns [] to_s begins.of_table

  hold_is : y.hold ≡ took.hold
  hold_is = same_head (sym y.was ∙ ap (λ (z : PassView). z.view.held) took.after_is)

  lock_is : y.hold.lock ≡ lock_number t.shape lock
  lock_is = ap (λ (z : Hold). z.lock) hold_is ∙ took.lock_is

  named : lock_named t.shape y.hold.lock ≡ lock
  named = ap (lock_named t.shape) lock_is ∙ named_by_number t.shape lock there

  found_set : in_own (set_told set) ≡ content t.shape lock y.hold.log
  found_set = took.told_is ∙ ap (λ (z : Hold). content t.shape lock z.log) (sym hold_is)

  found_here : in_own (set_told set) ≡ content t.shape (lock_named t.shape y.hold.lock) y.hold.log
  found_here = found_set ∙ ap (λ (d : DomainId). content t.shape d y.hold.log) (sym named)

  -- a set under this lock is told as a CPU's own
  out_there : set_under (lock_named t.shape y.hold.lock) (set_told out) ≡ in_own (set_told out)
  out_there = ap (λ (d : DomainId). set_under d (set_told out)) named

  pub can_give : CanGive t lock s (contents.Set out) part
  can_give =
      let begun = goes_begun p s y.turns [] to_s begins.begun in record {
        of_table = of_table;
        begun = begun;
        hold = own_hold;
        below = [];
        innermost = y.held;
        notes = y.notes;
        notes_below = y.below;
        notes_are = y.noted;
        there = there;
        lock_is = lock_is;
        may_put = record {
          cpu = begun;
          told_is = out_there ∙ (ap in_own (sym y.left) ∙ ap (content_after t.shape s.cpu part) found_here);
          fits = subst (λ (d : DomainId). FitsLock t.shape d (contents.Set out)) (sym named) y.fits;
          allowed = subst (Allows t.shape s.cpu part) found_here y.allowed;
          same_free = λ x. ap (λ (c : Content). times x (lists_of c).free) out_there ∙ ap (times x) y.same_free;
          same_rows = λ x. ap (λ (c : Content). times x (rows (lists_of c))) out_there ∙ y.same_rows x;
          rows_kept = λ _ j x h n other held _ not_mine before after.
              let only = hold_at_only j own_hold other (ap (hold_at j) (sym y.held) ∙ held) in
              let was : stored_in (in_own (set_told set)) x ≡ Some h = (λ i. stored_in (found_here i) x) ∙ ((λ i. stored_in (content t.shape (lock_named t.shape (only.0 i)) ((only.1 i).log)) x) ∙ before) in
              y.rows_kept x h n (ap (λ (l : List Notes). is_in_hand_of x y.hold.cpu s.view.hand && is_among x (came_last l)) (sym y.noted) ∙ not_mine) (sym (stored_here set x) ∙ was) (sym (stored_here out x) ∙ (ap (λ (c : Content). stored_in c x) (sym out_there) ∙ after));
          gone = λ _ c x h is. absurd (set_no_local p.cpu c (sym named ∙ is));
        };
        inside = tt;
        notes_fit = record {
          marks_are = y.marks;
          clears_are = y.cleared;
          reads = All-nil (WasRead y.notes.asked);
          flushed = tt;
          off = subst (All (λ e. flushes e part ≡ true)) (sym y.off) (All-nil (λ e. flushes e part ≡ true));
          held = y.owners;
          came = y.came;
        };
        owners_fit = λ _. record {
          changes = λ x owner. y.owners_told (lock_named t.shape y.hold.lock) x owner ∙ ap (λ (c : ℕ). owner_told t.shape (lock_named t.shape y.hold.lock) c part x owner) (sym y.goes.cpu);
          probed = λ x holder is. absurd (own_no_probe _ x holder is);
        };
      }

  module _ {u : PassView} {lost : List ℕ} (actual : Part) (can : CanGive t lock s (contents.Set out) actual) (g : GaveAs t s u can.hold actual lost) (told_as : (actual ≡ part) ⊎ (is_among can.hold.lock lost ≡ true)) where
    hold_there : can.hold ≡ own_hold
    hold_there = same_head (sym can.innermost ∙ y.held)

    notes_there : can.notes ≡ y.notes
    notes_there = same_head (sym can.notes_are ∙ y.noted)

    abbrev step : Turned
    step = given_turn s g.ticket can.hold actual

    abbrev told : Turned
    told = given_turn s g.ticket can.hold part

    abbrev content_there : Content
    content_there = content t.shape (lock_named t.shape can.hold.lock) can.hold.log

    set_there : in_own (set_told set) ≡ content_there
    set_there = found_here ∙ ap (λ (z : Hold). content t.shape (lock_named t.shape z.lock) z.log) (sym hold_there)

    out_told : set_under (lock_named t.shape can.hold.lock) (set_told out) ≡ in_own (set_told out)
    out_told = ap (λ (z : Hold). set_under (lock_named t.shape z.lock) (set_told out)) hold_there ∙ out_there

    told_left : in_own (set_told out) ≡ content_after t.shape s.cpu part content_there
    told_left = can_give_told ∙ ap (λ (z : Hold). content_after t.shape s.cpu part (content t.shape (lock_named t.shape z.lock) z.log)) (sym hold_there)
      where
        can_give_told : in_own (set_told out) ≡ content_after t.shape s.cpu part (content t.shape (lock_named t.shape own_hold.lock) own_hold.log)
        can_give_told = ap in_own (sym y.left) ∙ ap (content_after t.shape s.cpu part) found_here

    could_be : CouldBe t.shape step told
    could_be = record {
      lock = refl;
      earlier = refl;
      cpu = refl;
      call = refl;
      moment = refl;
      allowed = subst (Allows t.shape s.cpu part) set_there y.allowed;
      same_marks = sym y.marks ∙ (ap (λ (n : Notes). n.marks) (sym notes_there) ∙ can.notes_fit.marks_are);
      same_clears = λ x. cleared_times x (also_cleared part) (bits_cleared part) _ y.cleared ∙ (ap (λ (n : Notes). times x (visited_elements (clears_noted n))) (sym notes_there) ∙ sym (cleared_times x (also_cleared actual) (bits_cleared actual) _ can.notes_fit.clears_are));
      leaves = sym told_left ∙ (sym out_told ∙ can.may_put.told_is);
    }

    is_told : IsTold t.shape lost step told
    unfolding can_give
    is_told = (
      ⊎_elim (λ (same : actual ≡ part). inl (ap (given_turn s g.ticket can.hold) (sym same))) (λ (gone : is_among can.hold.lock lost ≡ true). inr (gone, could_be)) told_as,
      tells_turn can_give g.ticket can.hold actual hold_there y.in_order.0 y.in_order.1,
    )

    bits_told : map clears_found (y.active ++ (y.inactive ++ looks_told (note_of shrunk y.looks y.forced))) ++ map clears_bit (got_cleared got) ≡ bits_of_turns t.shape (y.turns ++ told ∷ [])
    bits_told =
        sym (ap (λ (b : Bool). cond b (flat_map (λ (x : Turned). bits_of_part t.shape x.entry.part) (y.turns ++ told ∷ [])) []) evicts
        ∙ (flat_map-append (λ (x : Turned). bits_of_part t.shape x.entry.part) y.turns (told ∷ [])
        ∙ ((λ i. evicts_bits t.shape q.cpu q.call (rows_on set) y.probes y.turns y.are_evicts i ++ flat_map (λ (x : Turned). bits_of_part t.shape x.entry.part) (told ∷ []))
        ∙ append_nil (map clears_found (y.active ++ (y.inactive ++ looks_told (note_of shrunk y.looks y.forced))) ++ map clears_bit (got_cleared got)))))

    power : IsPowerOfTwo t.shape.buckets
    power = (bounds_of_shape t.shape is_shape).buckets_power

    elsewhere : AreElsewhere (lock_number t.shape lock) y.turns
    elsewhere = evicts_elsewhere t.shape q.cpu q.call p.cpu (rows_on set) y.probes y.turns power there y.are_evicts

    log_is : can.hold.log ≡ took.hold.log
    log_is = ap (λ (z : Hold). z.log) hold_there ∙ ap (λ (z : Hold). z.log) hold_is

    learns_it : Learns t.shape p.view u.view (y.turns ++ step ∷ []) (bits_of_turns t.shape (y.turns ++ told ∷ []))
    learns_it =
        let k : ℕ = lock_number t.shape lock in
        let last : Learns t.shape s.view u.view (step ∷ []) [] =
        learns_gave t lock s (contents.Set out) g.ticket actual u.view can (subst (IsLegal t.shape lock) (sym log_is) took.legal)
        (λ has log is. log_is ∙ took.known log (ap (λ (z : PassView). known_log k z.view.known) (sym took.after_is) ∙ (sym ((y.learns.logs (sym y.learns.all ∙ has) k).known_is ∙ log_elsewhere k y.turns (known_log k q.view.known) elsewhere) ∙ is)))
        g.known g.bits g.goes.cpus g.goes.shape in
        let touches : List BitTouch = map clears_found (y.active ++ (y.inactive ++ looks_told (note_of shrunk y.looks y.forced))) ++ map clears_bit (got_cleared got) in
        subst (Learns t.shape p.view u.view (y.turns ++ step ∷ [])) (append_nil touches ∙ bits_told)
        (learns_after t.shape p.view q.view u.view (y.turns ++ step ∷ []) (touches ++ []) (learns_took t lock p q (contents.Set set) took)
        (learns_on t.shape q.view s.view u.view y.turns (step ∷ []) touches [] y.learns last))

    goes_there : Goes p u (y.turns ++ step ∷ []) lost
    goes_there = subst (Goes p u (y.turns ++ step ∷ [])) (append_nil lost) (goes_on p s u y.turns (step ∷ []) [] lost to_s g.goes)

    below_is : y.below ≡ p.view.notes
    below_is = ap notes_below (sym y.was_noted) ∙ ap (λ (z : PassView). notes_below z.view.notes) took.after_is

    changed : Changed t p u (y.turns ++ step ∷ []) (y.turns ++ told ∷ []) lost
    changed = record {
      told_are = told_last t.shape lost y.turns step told (evicts_told t.shape lost q.cpu q.call (rows_on set) y.probes y.turns y.are_evicts) is_told;
      made = record {
        goes = goes_there;
        held = g.held ∙ (ap holds_below y.held ∙ sym begins.in_no_call.holds_nothing);
        notes = g.notes ∙ (own_passed t.shape s.cpu actual content_there (set_told set) s.view.notes set_there can.may_put.allowed ∙ (ap notes_below y.noted ∙ below_is));
      };
      by_call = All-append (IsBy p.cpu p.call) y.turns (step ∷ [])
          (subst (λ (z : ℕ × ℕ). All (IsBy z.0 z.1) y.turns) (λ i. (to_q.cpu i, to_q.call i)) (evicts_by t.shape q.cpu q.call (rows_on set) y.probes y.turns y.are_evicts))
          (All-cons (IsBy p.cpu p.call) step [] (to_s.cpu, to_s.call) (All-nil (IsBy p.cpu p.call)));
      spares = g.spares ∙ (y.spares ∙ ap (λ (z : PassView). z.spares) took.after_is);
      carried = g.carried ∙ (y.carried ∙ ap (λ (z : PassView). z.view.carried) took.after_is);
      learns = learns_it;
      none_moved = λ common. true_false (sym common ∙ apart);
    }

    trace : Acquires t.shape p.cpu hash got (map (turn_at t.shape) (y.turns ++ told ∷ []))
    trace =
        let lock_there : lock_named t.shape can.hold.lock ≡ lock = ap (λ (z : Hold). lock_named t.shape z.lock) hold_there ∙ named in
        subst (λ (b : Bool). MatchBool b (TakesFree p.cpu hash got (map (turn_at t.shape) (y.turns ++ told ∷ [])) ⊎ TakesByRefill t.shape p.cpu hash got (map (turn_at t.shape) (y.turns ++ told ∷ []))) (TakesOwn t.shape p.cpu hash got (map (turn_at t.shape) (y.turns ++ told ∷ [])))) (sym apart) (record {
          active = y.active;
          inactive = y.inactive;
          shrink = note_of shrunk y.looks y.forced;
          chased = record {
            probing = map (turn_at t.shape) y.turns;
            last = turn_at t.shape told;
            turns_are = map-append (turn_at t.shape) y.turns (told ∷ []);
            last_is = λ i. record { lock = lock_there i; part = part };
            chase = subst (λ (z : List Row × List Try). Chase t.shape z.0 z.1 (turns_of (map (turn_at t.shape) y.turns))) (λ i. (listed_rows (set_there i), y.tried i))
                (chase_of t.shape q.cpu q.call (rows_on set) y.probes y.turns power y.are_evicts);
          };
        })

    saw : SawHolders t.shape p u ((y.turns ++ step ∷ []) ++ (y.turns ++ told ∷ []))
    saw =
        saw_both t.shape p s u y.turns step told g.touched
        (saw_on t.shape p q s [] y.turns (saw_none t.shape p q _ (ap (λ (z : PassView). z.view.touched) took.after_is)) y.saw) g.touched_are
        (own_tells_none t.shape s.cpu actual content_there (set_told set) set_there can.may_put.allowed)
        (own_tells_none t.shape s.cpu part content_there (set_told set) set_there (subst (Allows t.shape s.cpu part) set_there y.allowed))

    -- what the turn shows where nothing was got
    found_none : got ≡ None → FoundNone t.shape p.cpu hash (y.turns ++ told ∷ [])
    found_none none =
        let shrank = shrank_none shrunk (rotated_set own_scans y.active y.inactive (set_told set)) y.looks y.forced y.allowed.1 (sym y.allowed.2 ∙ none) in
        let lock_there : lock_named t.shape can.hold.lock ≡ lock = ap (λ (z : Hold). lock_named t.shape z.lock) hold_there ∙ named in
        let held = held_elsewhere t.shape q.cpu q.call (rows_on set) y.probes y.turns y.looks y.forced y.are_evicts y.learns.allowed
        (y.tried ∙ ap (λ (b : Bool). shrink_probes (note_of b y.looks y.forced)) shrank.was_shrunk) shrank.none_removed in
        subst (λ (b : Bool). MatchBool b (FoundNoneShared t.shape p.cpu hash (y.turns ++ told ∷ [])) (FoundNoneOwn t.shape p.cpu hash (y.turns ++ told ∷ []))) (sym apart) (record {
          probing = y.turns;
          last = told;
          turns_are = refl;
          set = set_told set;
          found_there = sym set_there;
          none_free = shrank.none_free;
          active = y.active;
          inactive = y.inactive;
          looks = y.looks;
          forced = y.forced;
          last_is = λ i. record { lock = lock_there i; part = own_part hash y.active y.inactive (note_of (shrank.was_shrunk i) y.looks y.forced) (none i) };
          tried_all = shrank.tried_all;
          held = subst (λ (c : ℕ). All (IsHeldByOther c) (walk_probes y.looks y.forced)) to_q.cpu held;
        })

    hand_left : u.view.hand ≡ hand_with_got got p.cpu p.view.hand
    hand_left = g.hand ∙ (y.hand ∙ ((λ i. hand_with_got got (to_q.cpu i) (took_hand i))))
      where
        took_hand : q.view.hand ≡ p.view.hand
        took_hand = ap (λ (z : PassView). z.view.hand) took.after_is

    hashes_left : u.view.hashes ≡ hashes_given can.hold.cpu t.shape.buckets (in_own (set_told out)) (came_last s.view.notes) (hand_with_got got q.cpu q.view.hand) s.view.hashes
    hashes_left =
        g.hashes
        ∙ (ap (λ (z : Shape). cond (is_lru z.kind) (hashes_given can.hold.cpu z.buckets (content_after z s.cpu actual (content z (lock_named z can.hold.lock) can.hold.log)) (came_last s.view.notes) s.view.hand s.view.hashes) s.view.hashes) of_table.1
        ∙ (ap (λ (b : Bool). cond b (hashes_given can.hold.cpu t.shape.buckets (content_after t.shape s.cpu actual content_there) (came_last s.view.notes) s.view.hand s.view.hashes) s.view.hashes) evicts
        ∙ (λ i. hashes_given can.hold.cpu t.shape.buckets ((sym can.may_put.told_is ∙ out_told) i) (came_last s.view.notes) (y.hand i) s.view.hashes)))

    holder_is : can.hold.cpu ≡ q.cpu
    holder_is = ap (λ (z : Hold). z.cpu) hold_there ∙ (ap (λ (z : Hold). z.cpu) hold_is ∙ (took.cpu_is ∙ sym to_q.cpu))

-- What the turn leaves, whether its entry was kept or not.

module _ {t : TableView} {p q s u : PassView} {set out : SetView} {hash : ℕ} {turning turning_after : RotateNotes} {shrinking shrinking_after : ShrinkNotes} {shrunk : Bool} (found : Option Stored) (worked : SetView) (r : PassView)
    (is_shape : IsShape t.shape) (evicts : IsTrue (is_lru t.shape.kind)) (apart : t.shape.common ≡ false) (there : IsTrue (is_lock t.shape (CpuLru p.cpu)))
    (begins : CanCall t p) (took : TookLock t (CpuLru p.cpu) p q (contents.Set set)) (y : Ready t hash turning turning_after shrinking shrinking_after shrunk set out q s (option_map (λ (body : Stored). body.element) found)) (gives : GivesOut t hash worked out r s found) where
  acquired_by : (actual : Part) (can : CanGive t (CpuLru p.cpu) s (contents.Set out) actual) {lost : List ℕ} (g : GaveAs t s u can.hold actual lost) → (actual ≡ part is_shape evicts apart there begins took y) ⊎ (is_among can.hold.lock lost ≡ true) → Acquired t hash p u found
  acquired_by actual can {lost} g told_as = record {
    steps = y.turns ++ given_turn s g.ticket can.hold actual ∷ [];
    told = y.turns ++ given_turn s g.ticket can.hold (part is_shape evicts apart there begins took y) ∷ [];
    lost = lost;
    changed = changed is_shape evicts apart there begins took y actual can g told_as;
    trace = trace is_shape evicts apart there begins took y actual can g told_as;
    hand = hand_for found (hand_left is_shape evicts apart there begins took y actual can g told_as);
    taken = taken_for found gives y.came (hashes_left is_shape evicts apart there begins took y actual can g told_as);
    none = none_for (y.turns ++ given_turn s g.ticket can.hold (part is_shape evicts apart there begins took y) ∷ []) found (found_none is_shape evicts apart there begins took y actual can g told_as);
    saw = saw is_shape evicts apart there begins took y actual can g told_as;
  }
    where
      hand_for : (found : Option Stored) → u.view.hand ≡ hand_with_got (option_map (λ (body : Stored). body.element) found) p.cpu p.view.hand → MatchOption found (u.view.hand ≡ p.view.hand) (λ body. u.view.hand ≡ with_in_hand body.element p.cpu p.view.hand)
      hand_for None is = is
      hand_for (Some body) is = is

      none_for : (turns : List Turned) (found : Option Stored) → (option_map (λ (body : Stored). body.element) found ≡ None → FoundNone t.shape p.cpu hash turns) → MatchOption found (FoundNone t.shape p.cpu hash turns) (λ body. Unit {0})
      none_for turns None shows = shows refl
      none_for turns (Some body) shows = tt

      taken_for : (found : Option Stored) → GivesOut t hash worked out r s found → All (CameToHand s.view (hold_with y.hold y.now) y.notes) (option_to_list (option_map (λ (body : Stored). body.element) found)) → u.view.hashes ≡ hashes_given can.hold.cpu t.shape.buckets (in_own (set_told out)) (came_last s.view.notes) (hand_with_got (option_map (λ (body : Stored). body.element) found) q.cpu q.view.hand) s.view.hashes → MatchOption found (Unit {0}) (IsTakenFor t hash u)
      taken_for None gave came hashes = tt
      taken_for (Some body) gave came hashes = record {
        real = gave.real;
        sized = gave.sized;
        hashed =
            (λ i. bucket_known body.element ((g.goes.cpu ∙ y.goes.cpu) i) (hashes i))
            ∙ first_hash q.cpu can.hold.cpu t.shape.buckets body.element hash (in_own (set_told out)) (came_last s.view.notes) q.view.hand s.view.hashes (holder_is is_shape evicts apart there begins took y actual can g told_as)
            (ap (λ (l : List Notes). is_among body.element (came_last l)) y.noted ∙ came_among body.element y.notes.came (All-head (CameToHand s.view (hold_with y.hold y.now) y.notes) body.element [] came).0)
            (stored_here out body.element ∙ new_hash t hash worked out r s body gave);
      }

pub lock_among : (k : ℕ) → is_among k (k ∷ []) ≡ true
lock_among k = by_test k k (λ b. cond b true false ≡ true) (λ _. refl) (λ other. absurd (other refl))

-- The entry that the notes tell is that of the turn.
pub as_noted : (t : TableView) (hash : ℕ) (turning_after : RotateNotes) (shrinking_after : ShrinkNotes) (shrunk : Bool) (set out : SetView) (q s : PassView) (got : Option ℕ) (given_part : Option Part) (y : Ready t hash (record { active = noted.Kept []; inactive = noted.Kept [] }) turning_after (record { looks = noted.Kept []; forced = noted.Kept [] }) shrinking_after shrunk set out q s got)
    → IfSome given_part (IsOwnTurn hash turning_after shrunk shrinking_after got) → IfSome given_part (λ x. x ≡ own_part hash y.active y.inactive (note_of shrunk y.looks y.forced) got)
as_noted t hash turning_after shrinking_after shrunk set out q s got None y is = tt
as_noted t hash turning_after shrinking_after shrunk set out q s got (Some x) y is = is y.active y.inactive y.looks y.forced y.noted_active y.noted_inactive y.noted_looks y.noted_forced

-- The whole turn, from what the pass was before it.
module _ {t : TableView} {p q r : PassView} {set worked : SetView} {turning_after : RotateNotes} {shrinking_after : ShrinkNotes} {shrunk : Bool} (hash : ℕ) (out : SetView) (s : PassView) (found : Option Stored)
    (is_shape : IsShape t.shape) (evicts : IsTrue (is_lru t.shape.kind)) (apart : t.shape.common ≡ false) (few : p.cpu < t.shape.cpus) (begins : CanCall t p) (took : TookLock t (CpuLru p.cpu) p q (contents.Set set))
    (w : Worked t (in_turn set (record { active = noted.Kept []; inactive = noted.Kept [] }) (record { looks = noted.Kept []; forced = noted.Kept [] })) (in_turn worked turning_after shrinking_after) shrunk q r) (gives : GivesOut t hash worked out r s found)
    (given_part : Option Part) (told_part : IfSome given_part (IsOwnTurn hash turning_after shrunk shrinking_after (option_map (λ (body : Stored). body.element) found))) where
  abbrev own_there : IsTrue (is_lock t.shape (CpuLru p.cpu))
  own_there = own_set_there t.shape p.cpu evicts apart few

  abbrev y : Ready t hash (record { active = noted.Kept []; inactive = noted.Kept [] }) turning_after (record { looks = noted.Kept []; forced = noted.Kept [] }) shrinking_after shrunk set out q s (option_map (λ (body : Stored). body.element) found)
  y = ready (can_work t p q set is_shape evicts own_there begins took) w found p.view.notes (ap (λ (z : PassView). z.view.notes) took.after_is) gives

  abbrev as_told : IfSome given_part (λ x. x ≡ part is_shape evicts apart own_there begins took y)
  as_told = as_noted t hash turning_after shrinking_after shrunk set out q s (option_map (λ (body : Stored). body.element) found) given_part y told_part

  may_by : (given_part : Option Part) → IfSome given_part (λ x. x ≡ part is_shape evicts apart own_there begins took y) → MayGiveBack t (CpuLru p.cpu) s (contents.Set out) given_part
  may_by None is = (part is_shape evicts apart own_there begins took y, can_give is_shape evicts apart own_there begins took y)
  may_by (Some x) is = subst (CanGive t (CpuLru p.cpu) s (contents.Set out)) (sym is) (can_give is_shape evicts apart own_there begins took y)

  pub may_give_own : MayGiveBack t (CpuLru p.cpu) s (contents.Set out) given_part
  may_give_own = may_by given_part as_told

  got_by : (u : PassView) (given_part : Option Part) → IfSome given_part (λ x. x ≡ part is_shape evicts apart own_there begins took y) → GaveBack t (CpuLru p.cpu) s u (contents.Set out) given_part → Acquired t hash p u found
  got_by u None is gave = acquired_by found worked r is_shape evicts apart own_there begins took y gives gave.part gave.can (gave_some_as t (CpuLru p.cpu) s u (contents.Set out) gave) (inr (lock_among gave.can.hold.lock))
  got_by u (Some x) is gave =
      let this : Part = part is_shape evicts apart own_there begins took y in
      let can = can_give is_shape evicts apart own_there begins took y in
      let made : Gave s u this = subst (Gave s u) is gave in
      let one : made.hold ≡ can.hold = same_head (sym made.innermost ∙ can.innermost) in
      acquired_by found worked r is_shape evicts apart own_there begins took y gives this can (subst (λ (h : Hold). GaveAs t s u h this []) one (gave_as t s u this made)) (inl refl)

  pub acquired_own : (u : PassView) → GaveBack t (CpuLru p.cpu) s u (contents.Set out) given_part → Acquired t hash p u found
  acquired_own u gave = got_by u given_part as_told gave
