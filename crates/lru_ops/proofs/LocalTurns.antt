-- A turn of the local lists of a CPU, whose lock is held alone, from its take to its give.
use Rattle.std.proofs.Common.{inl, inr, ⊎_elim, ◌≡◌, ℕ, ◌<◌, cond, true, false, Bool, List, [], ◌∷◌, ◌++◌, map, sym, refl, ap, ◌∙◌, subst, Option, Some, None, arith}
use Rattle.std.specs.Prelude.{◌⊎◌, ◌&&◌, IfSome, IsTrue, IsFalse, All}
use Rattle.std.specs.List.{flat_map}
use Rattle.std.proofs.lemmas.Bool.{lt-ltb}
use Rattle.std.proofs.lemmas.List.{map-append}
use Rattle.std.proofs.lemmas.List.Elements.{All-nil, All-cons, All-append}
use Rattle.map_types.specs.declared.attr.Shape.{Shape}
use Rattle.map_types.specs.declared.kind.DomainId.{DomainId}
use Rattle.map_types.specs.declared.kind.DomainId.TheVariants.{Local}
use Rattle.map_types.specs.declared.row.Row.{Row}
use Rattle.map_types.specs.Creation.{IsShape}
use Rattle.map_types.specs.ElementLists.{times}
use Rattle.map_types.specs.Kind.{is_lru}
use Rattle.map_types.specs.Listed.{elements_of}
use Rattle.map_types.proofs.CreationLemmas.{bounds_of_shape}
use Rattle.key_hash.specs.Bucket.{bucket_number, IsPowerOfTwo}
use Rattle.owner_words.specs.Owners.{owner_by, owner_told}
use Rattle.place_words.specs.declared.bucket_part.BucketPart.TheVariants.{Evict}
use Rattle.place_words.specs.declared.bucket_part.Seen.TheVariants.{Held}
use Rattle.place_words.specs.declared.history.Entry.{Entry}
use Rattle.place_words.specs.declared.history.Part.{Part}
use Rattle.place_words.specs.declared.history.Part.TheVariants as parts
use Rattle.place_words.specs.declared.list_part.LocalPart.{LocalPart}
use Rattle.place_words.specs.declared.visits.Try.{Try}
use Rattle.place_words.specs.Bodies.{numbers}
use Rattle.place_words.specs.Histories.{Content, in_locals, content, content_after, Allows, IsLegal, bits_cleared, also_cleared, local_also, local_reads}
use Rattle.place_words.specs.Locals.{LocalLists, AllowsOnLocal, local_after}
use Rattle.place_words.specs.Locks.{is_lock, lock_named, lock_number, rank_of}
use Rattle.place_words.specs.Rotation.{visited_elements}
use Rattle.place_words.specs.Takings.{IsChased, Chase, listed_rows, local_probes, stored_hash}
use Rattle.place_words.specs.Turns.{turns_of}
use Rattle.place_words.proofs.LockLemmas.{named_by_number}
use Rattle.place_words.specs.declared.step.Lists.{Lists}
use Rattle.place_words.specs.State.{rows}
use Rattle.place_words.specs.Wholeness.{all_of}
use Rattle.place_words.specs.Interleaving.{local_steps}
use Rattle.place_words.specs.declared.owner.Owner.{Owner}
use Rattle.place_table.specs.declared.content.Content.TheVariants as contents
use Rattle.place_table.specs.declared.view.Hold.{Hold}
use Rattle.place_table.specs.declared.view.Notes.{Notes}
use Rattle.place_table.specs.declared.view.Turned.{Turned}
use Rattle.place_table.specs.Calls.{AreTold, CouldBe, IsTold, reads_bit, clears_bit, found_moved_on, finds_moved_on, bits_of_part, bits_of_turns}
use Rattle.place_table.specs.Contents.{FitsLocal, FitsLock}
use Rattle.place_table.specs.Flushes.{flushes}
use Rattle.place_table.specs.Known.{BitTouch, Learns, turn_at, IsBy}
use Rattle.place_table.specs.Passes.{PassView, TableView, IsPassOf, HasBegun, TookLock, CanGive, MayGiveBack, Goes}
use Rattle.place_table.specs.StoredHashes.{stored_in}
use Rattle.place_table.specs.TurnNotes.{NotesFit, clears_noted}
use Rattle.place_table.specs.Views.{is_among, is_in_hand_of, hold_at, known_log, came_last, hashes_given, holds_below, notes_below, passed_on, no_notes, hold_with}
use Rattle.place_table.specs.Owners.{owner_left}
use Rattle.place_table.proofs.Entries.{append_nil}
use Rattle.place_table.proofs.Telling.{tells_turn}
use Rattle.place_table.proofs.Going.{AreElsewhere, log_elsewhere, given_turn, goes_on, goes_took, goes_of_table, goes_begun, same_head, learns_on, learns_after, learns_gave, learns_took}
use Rattle.lru_lists.specs.declared.bits.ProbeCall.{ProbeCall}
use Rattle.local_lists.specs.LocalLists.{LocalView, local_told}
use Rattle.lru_ops.specs.Askings.{AreEvicts}
use Rattle.lru_ops.specs.Evictions.{SawHolder, SawHolders}
use Rattle.lru_ops.specs.OwnTurns.{try_of}
use Rattle.lru_ops.specs.Shared.{ChangedHands}
use Rattle.place_table.proofs.TurnsOn.{among_behind, among_before, told_where, told_append}
use Rattle.lru_ops.proofs.Ends.{bits_append}
use Rattle.lru_ops.proofs.EvictTurns.{bucket_apart}
use Rattle.lru_ops.proofs.Holders.{TellsNoHolder, saw_on, saw_none, saw_nothing, saw_on_both, saw_both}
use Rattle.lru_ops.proofs.OwnTurns.{GaveAs, evict_lock, evicts_by, evicts_bits, evicts_told, chase_of, cleared_times}
use Rattle.lru_ops.proofs.OwnWalk.{hold_at_only}
use Rattle.lru_ops.proofs.OwnersAround.{local_no_probe}

-- Where the CPUs share lists, each has local ones.
pub local_there : (shape : Shape) (cpu : ℕ) → IsTrue shape.common → cpu < shape.cpus → IsTrue (is_lock shape (Local cpu))
local_there shape cpu common few = (λ i. common i && lt-ltb cpu shape.cpus few i)

-- The local lists of a CPU were taken by a pass that held no lock.
pub record OnLocal (t : TableView) (c : ℕ) (lists : LocalView) (p q : PassView) : Type 0 where
  pub is_shape : IsShape t.shape
  pub evicts : IsTrue (is_lru t.shape.kind)
  pub there : IsTrue (is_lock t.shape (Local c))
  pub of_table : IsPassOf t p
  pub begun : HasBegun p
  pub alone : p.view.held ≡ []
  pub took : TookLock t (Local c) p q (contents.Local lists)

-- Before they are given back: what the pass made since, as this part tells it. The turns inside are of other locks.
pub record ReadyAround (t : TableView) (part : LocalPart) (lists out : LocalView) (hold : Hold) (q s : PassView) : Type 0 where
  pub steps : List Turned
  pub inner : List Turned
  pub inner_lost : List ℕ
  pub inner_told : AreTold t.shape inner_lost steps inner
  pub goes : Goes q s steps inner_lost
  pub by_call : All (IsBy q.cpu q.call) steps
  pub elsewhere : AreElsewhere hold.lock steps
  pub inner_stay : All (λ (turn : Turned). IsFalse (finds_moved_on turn.entry.part)) inner
  pub now : Lists
  pub held : s.view.held ≡ hold_with hold now ∷ []
  pub notes : Notes
  pub noted : s.view.notes ≡ notes ∷ notes_below q.view.notes
  pub spares : s.spares ≡ q.spares
  pub left : local_after part (local_told lists) ≡ local_told out
  pub allowed : AllowsOnLocal t.shape part (local_told lists)
  pub fits : FitsLocal t.shape out
  pub same_free : (x : ℕ) → times x (numbers out.free.bodies) ≡ times x now.free
  pub same_rows : (x : ℕ) → times x (elements_of out.pending) ≡ times x (rows now)
  pub rows_kept : (x h n : ℕ) → (is_in_hand_of x hold.cpu s.view.hand && is_among x notes.came) ≡ false → stored_hash x lists.pending ≡ Some h → stored_hash x out.pending ≡ Some n → h ≡ n
  pub gone : (x h : ℕ) → stored_hash x lists.pending ≡ Some h → times x (all_of now) ≡ 0 → (is_in_hand_of x hold.cpu s.view.carried ≡ true) ⊎ (flushes x (parts.Local part) ≡ true)
  pub notes_fit : NotesFit t.shape s.view (hold_with hold now) (parts.Local part) notes
  pub owners_told : (lock : DomainId) (x : ℕ) (owner : Owner) → owner_left notes.changed x owner ≡ owner_by (local_steps q.cpu lock part) x owner
  pub stays : IsFalse (found_moved_on part)
  pub saw : SawHolders t.shape q s (steps ++ inner)
  pub learns : Learns t.shape q.view s.view steps (bits_of_turns t.shape inner ++ (map reads_bit (local_reads part) ++ map clears_bit (local_also part)))

-- The same where the turns inside are its probes.
pub record ReadyLocal (t : TableView) (part : LocalPart) (lists out : LocalView) (hold : Hold) (q s : PassView) : Type 0 where
  pub turns : List Turned
  pub goes : Goes q s turns []
  pub now : Lists
  pub held : s.view.held ≡ hold_with hold now ∷ []
  pub notes : Notes
  pub noted : s.view.notes ≡ notes ∷ notes_below q.view.notes
  pub spares : s.spares ≡ q.spares
  pub left : local_after part (local_told lists) ≡ local_told out
  pub allowed : AllowsOnLocal t.shape part (local_told lists)
  pub fits : FitsLocal t.shape out
  pub same_free : (x : ℕ) → times x (numbers out.free.bodies) ≡ times x now.free
  pub same_rows : (x : ℕ) → times x (elements_of out.pending) ≡ times x (rows now)
  pub rows_kept : (x h n : ℕ) → (is_in_hand_of x hold.cpu s.view.hand && is_among x notes.came) ≡ false → stored_hash x lists.pending ≡ Some h → stored_hash x out.pending ≡ Some n → h ≡ n
  pub gone : (x h : ℕ) → stored_hash x lists.pending ≡ Some h → times x (all_of now) ≡ 0 → is_in_hand_of x hold.cpu s.view.carried ≡ true
  pub notes_fit : NotesFit t.shape s.view (hold_with hold now) (parts.Local part) notes
  pub owners_told : (lock : DomainId) (x : ℕ) (owner : Owner) → owner_left notes.changed x owner ≡ owner_by (local_steps q.cpu lock part) x owner
  pub stays : IsFalse (found_moved_on part)
  pub probes : List ProbeCall
  pub are_evicts : AreEvicts t.shape q.cpu q.call lists.pending probes turns
  pub tried : map try_of probes ≡ local_probes part
  pub saw : SawHolders t.shape q s turns
  pub learns : Learns t.shape q.view s.view turns (map reads_bit (local_reads part) ++ map clears_bit (local_also part))

-- A probe's turn is of another lock, tells of no push, and only one of a holder

pub evicts_apart_from : (shape : Shape) (cpu call : ℕ) (lock : DomainId) (rows : List Row) (probes : List ProbeCall) (turns : List Turned) → IsPowerOfTwo shape.buckets → IsTrue (is_lock shape lock) → rank_of lock < 3 → AreEvicts shape cpu call rows probes turns → AreElsewhere (lock_number shape lock) turns
evicts_apart_from shape cpu call lock rows [] [] power there low are = tt
evicts_apart_from shape cpu call lock rows [] (turn ∷ turns) power there low are = absurd are
evicts_apart_from shape cpu call lock rows (probe ∷ probes) [] power there low are = absurd are
evicts_apart_from shape cpu call lock rows (probe ∷ probes) (turn ∷ turns) power there low are = (
  (λ same. bucket_apart shape (bucket_number probe.hash shape.buckets) lock (evict_lock shape cpu call probe.hash probe.element probe.probed turn power are.0) there low (sym are.0.lock ∙ same)),
  evicts_apart_from shape cpu call lock rows probes turns power there low are.2,
)

pub evicts_stay : (shape : Shape) (cpu call : ℕ) (rows : List Row) (probes : List ProbeCall) (turns : List Turned) → AreEvicts shape cpu call rows probes turns → All (λ (turn : Turned). IsFalse (finds_moved_on turn.entry.part)) turns
evicts_stay shape cpu call rows [] [] are = All-nil (λ (turn : Turned). IsFalse (finds_moved_on turn.entry.part))
evicts_stay shape cpu call rows [] (turn ∷ turns) are = absurd are
evicts_stay shape cpu call rows (probe ∷ probes) [] are = absurd are
evicts_stay shape cpu call rows (probe ∷ probes) (turn ∷ turns) are =
    All-cons (λ (z : Turned). IsFalse (finds_moved_on z.entry.part)) turn turns (ap (λ (x : Entry). finds_moved_on x.part) are.0.entry) (evicts_stay shape cpu call rows probes turns are.2)

-- What lies there tells which parts may be made

local_passed : (shape : Shape) (cpu : ℕ) (part : Part) (there : Content) (lists : LocalLists) (all : List Notes) → in_locals lists ≡ there → Allows shape cpu part there → passed_on part all ≡ notes_below all
local_passed shape cpu part there lists all is allowed = go part (subst (Allows shape cpu part) (sym is) allowed)
  where
    go : (part : Part) → Allows shape cpu part (in_locals lists) → passed_on part all ≡ notes_below all
    go (parts.Bucket part) allowed = absurd allowed
    go (parts.Free part) allowed = absurd allowed
    go (parts.Local part) allowed = refl
    go (parts.Global part) allowed = absurd allowed
    go (parts.Own part) allowed = absurd allowed

local_tells_none : (shape : Shape) (cpu : ℕ) (part : Part) (there : Content) (lists : LocalLists) → in_locals lists ≡ there → Allows shape cpu part there → TellsNoHolder part
local_tells_none shape cpu part there lists is allowed e holder same =
    let here : Allows shape cpu (parts.Bucket (Evict e (Held holder))) (in_locals lists) = subst (λ (z : Part × Content). Allows shape cpu z.0 z.1) (λ i. (same i, sym is i)) allowed in
    absurd here

saw_twice : (shape : Shape) (q s : PassView) (turns : List Turned) → SawHolders shape q s turns → SawHolders shape q s (turns ++ turns)
saw_twice shape q s turns saw = record { touched = saw.touched; touched_are = saw.touched_are; saw = All-append (SawHolder shape saw.touched) turns turns saw.saw saw.saw }

pub stored_pending : (lists : LocalView) (e : ℕ) → stored_in (in_locals (local_told lists)) e ≡ stored_hash e lists.pending
unfolding stored_in
stored_pending lists e = refl

module _ {t : TableView} {c : ℕ} {lists : LocalView} {p q : PassView} (b : OnLocal t c lists p q) where
  pub to_q : Goes p q [] []
  to_q = goes_took t (Local c) p q (contents.Local lists) b.took

  pub taken_held : q.view.held ≡ b.took.hold ∷ []
  taken_held = ap (λ (z : PassView). z.view.held) b.took.after_is ∙ ap (λ (l : List Hold). b.took.hold ∷ l) b.alone

  pub taken_noted : q.view.notes ≡ no_notes ∷ p.view.notes
  taken_noted = ap (λ (z : PassView). z.view.notes) b.took.after_is

  pub named_local : lock_named t.shape b.took.hold.lock ≡ Local c
  named_local = ap (lock_named t.shape) b.took.lock_is ∙ named_by_number t.shape (Local c) b.there

  pub found_local : in_locals (local_told lists) ≡ content t.shape (lock_named t.shape b.took.hold.lock) b.took.hold.log
  found_local = b.took.told_is ∙ ap (λ (d : DomainId). content t.shape d b.took.hold.log) (sym named_local)

  module _ {part : LocalPart} {out : LocalView} {s : PassView} (y : ReadyAround t part lists out b.took.hold q s) where
    abbrev entry_part : Part
    entry_part = parts.Local part

    to_s : Goes p s y.steps y.inner_lost
    to_s = subst (Goes p s y.steps) (append_nil y.inner_lost) (goes_on p q s [] y.steps [] y.inner_lost to_q y.goes)

    ready_of_table : IsPassOf t s
    ready_of_table = goes_of_table t p s y.steps y.inner_lost to_s b.of_table

    pub can_give_around : CanGive t (Local c) s (contents.Local out) entry_part
    can_give_around =
        let begun = goes_begun p s y.steps y.inner_lost to_s b.begun in record {
          of_table = ready_of_table;
          begun = begun;
          hold = hold_with b.took.hold y.now;
          below = [];
          innermost = y.held;
          notes = y.notes;
          notes_below = notes_below q.view.notes;
          notes_are = y.noted;
          there = b.there;
          lock_is = b.took.lock_is;
          may_put = record {
            cpu = begun;
            told_is = ap in_locals (sym y.left) ∙ ap (content_after t.shape s.cpu entry_part) found_local;
            fits = subst (λ (d : DomainId). FitsLock t.shape d (contents.Local out)) (sym named_local) y.fits;
            allowed = subst (Allows t.shape s.cpu entry_part) found_local y.allowed;
            same_free = y.same_free;
            same_rows = λ x. ap (times x) (append_nil (elements_of out.pending)) ∙ y.same_rows x;
            rows_kept = λ _ j x h n other held _ not_mine before after.
                let only = hold_at_only j (hold_with b.took.hold y.now) other (ap (hold_at j) (sym y.held) ∙ held) in
                let was : stored_in (in_locals (local_told lists)) x ≡ Some h = (λ i. stored_in (found_local i) x) ∙ ((λ i. stored_in (content t.shape (lock_named t.shape (only.0 i)) ((only.1 i).log)) x) ∙ before) in
                y.rows_kept x h n (ap (λ (l : List Notes). is_in_hand_of x b.took.hold.cpu s.view.hand && is_among x (came_last l)) (sym y.noted) ∙ not_mine) (sym (stored_pending lists x) ∙ was) (sym (stored_pending out x) ∙ after);
            gone = λ _ d x h _ before none. y.gone x h (sym (stored_pending lists x) ∙ ((λ i. stored_in (found_local i) x) ∙ before)) none;
          };
          inside = tt;
          notes_fit = y.notes_fit;
          owners_fit = λ _. record {
            changes = λ x owner. y.owners_told (lock_named t.shape b.took.hold.lock) x owner ∙ ap (λ (n : ℕ). owner_told t.shape (lock_named t.shape b.took.hold.lock) n entry_part x owner) (sym y.goes.cpu);
            probed = λ x holder is. absurd (local_no_probe part x holder is);
          };
        }

    pub may_give_around : (given_part : Option Part) → IfSome given_part (λ x. x ≡ entry_part) → MayGiveBack t (Local c) s (contents.Local out) given_part
    may_give_around None is = (entry_part, can_give_around)
    may_give_around (Some x) is = subst (CanGive t (Local c) s (contents.Local out)) (sym is) can_give_around

    -- Once they are given back, by the part that was made; it is told as this one
    module _ {u : PassView} {lost : List ℕ} (actual : Part) (can : CanGive t (Local c) s (contents.Local out) actual) (g : GaveAs t s u can.hold actual lost) (told_as : (actual ≡ entry_part) ⊎ (is_among can.hold.lock lost ≡ true)) where
      hold_there : can.hold ≡ hold_with b.took.hold y.now
      hold_there = same_head (sym can.innermost ∙ y.held)

      notes_there : can.notes ≡ y.notes
      notes_there = same_head (sym can.notes_are ∙ y.noted)

      abbrev step : Turned
      step = given_turn s g.ticket can.hold actual

      abbrev told : Turned
      told = given_turn s g.ticket can.hold entry_part

      abbrev content_there : Content
      content_there = content t.shape (lock_named t.shape can.hold.lock) can.hold.log

      pub lists_around : in_locals (local_told lists) ≡ content_there
      lists_around = found_local ∙ ap (λ (z : Hold). content t.shape (lock_named t.shape z.lock) z.log) (sym hold_there)

      allowed_there : Allows t.shape s.cpu entry_part content_there
      allowed_there = subst (Allows t.shape s.cpu entry_part) lists_around y.allowed

      could_be : CouldBe t.shape step told
      could_be = record {
        lock = refl;
        earlier = refl;
        cpu = refl;
        call = refl;
        moment = refl;
        allowed = allowed_there;
        same_marks = sym y.notes_fit.marks_are ∙ (ap (λ (n : Notes). n.marks) (sym notes_there) ∙ can.notes_fit.marks_are);
        same_clears = λ x. cleared_times x (also_cleared entry_part) (bits_cleared entry_part) _ y.notes_fit.clears_are ∙ (ap (λ (n : Notes). times x (visited_elements (clears_noted n))) (sym notes_there) ∙ sym (cleared_times x (also_cleared actual) (bits_cleared actual) _ can.notes_fit.clears_are));
        leaves = sym (ap in_locals (sym y.left) ∙ ap (content_after t.shape s.cpu entry_part) lists_around) ∙ can.may_put.told_is;
      }

      is_told : IsTold t.shape lost step told
      unfolding can_give_around
      is_told = (
        ⊎_elim (λ (same : actual ≡ entry_part). inl (ap (given_turn s g.ticket can.hold) (sym same))) (λ (gone : is_among can.hold.lock lost ≡ true). inr (gone, could_be)) told_as,
        tells_turn can_give_around g.ticket can.hold actual hold_there (clears_noted y.notes) refl,
      )

      abbrev bits : List BitTouch
      bits = map reads_bit (local_reads part) ++ map clears_bit (local_also part)

      bits_told : bits_of_turns t.shape y.inner ++ bits ≡ bits_of_turns t.shape (y.inner ++ told ∷ [])
      bits_told =
          let here : bits_of_turns t.shape (told ∷ []) ≡ bits =
          ap (λ (z : Bool). cond z (flat_map (λ (x : Turned). bits_of_part t.shape x.entry.part) (told ∷ [])) []) b.evicts
          ∙ (append_nil (bits_of_part t.shape entry_part)
          ∙ ap (λ (l : List BitTouch). l ++ map clears_bit (local_also part)) (append_nil (map reads_bit (local_reads part) ++ []) ∙ append_nil (map reads_bit (local_reads part)))) in
          sym (bits_append t.shape y.inner (told ∷ []) ∙ ap (λ (l : List BitTouch). bits_of_turns t.shape y.inner ++ l) here)

      elsewhere : AreElsewhere (lock_number t.shape (Local c)) y.steps
      elsewhere = subst (λ (n : ℕ). AreElsewhere n y.steps) b.took.lock_is y.elsewhere

      log_is : can.hold.log ≡ b.took.hold.log
      log_is = ap (λ (z : Hold). z.log) hold_there

      learns_it : Learns t.shape p.view u.view (y.steps ++ step ∷ []) (bits_of_turns t.shape (y.inner ++ told ∷ []))
      learns_it =
          let k : ℕ = lock_number t.shape (Local c) in
          let last : Learns t.shape s.view u.view (step ∷ []) [] =
          learns_gave t (Local c) s (contents.Local out) g.ticket actual u.view can (subst (IsLegal t.shape (Local c)) (sym log_is) b.took.legal)
          (λ has log is. log_is ∙ b.took.known log (ap (λ (z : PassView). known_log k z.view.known) (sym b.took.after_is) ∙ (sym ((y.learns.logs (sym y.learns.all ∙ has) k).known_is ∙ log_elsewhere k y.steps (known_log k q.view.known) elsewhere) ∙ is)))
          g.known g.bits g.goes.cpus g.goes.shape in
          let before : List BitTouch = bits_of_turns t.shape y.inner ++ bits in
          subst (Learns t.shape p.view u.view (y.steps ++ step ∷ [])) (append_nil before ∙ bits_told)
          (learns_after t.shape p.view q.view u.view (y.steps ++ step ∷ []) (before ++ []) (learns_took t (Local c) p q (contents.Local lists) b.took)
          (learns_on t.shape q.view s.view u.view y.steps (step ∷ []) before [] y.learns last))

      pub changed_around : ChangedHands t p u (y.steps ++ step ∷ []) (y.inner ++ told ∷ []) (lost ++ y.inner_lost)
      changed_around =
          let all : List ℕ = lost ++ y.inner_lost in record {
            told_are = told_append t.shape all y.steps (step ∷ []) y.inner (told ∷ []) (told_where t.shape y.inner_lost all (λ n. among_behind n lost y.inner_lost) y.steps y.inner y.inner_told)
                (told_where t.shape lost all (λ n. among_before n lost y.inner_lost) (step ∷ []) (told ∷ []) (is_told, tt));
            made = record {
              goes = goes_on p s u y.steps (step ∷ []) y.inner_lost lost to_s g.goes;
              held = g.held ∙ (ap holds_below y.held ∙ sym b.alone);
              notes = g.notes ∙ (local_passed t.shape s.cpu actual content_there (local_told lists) s.view.notes lists_around can.may_put.allowed ∙ (ap notes_below y.noted ∙ ap notes_below taken_noted));
            };
            by_call = All-append (IsBy p.cpu p.call) y.steps (step ∷ [])
                (subst (λ (z : ℕ × ℕ). All (IsBy z.0 z.1) y.steps) (λ i. (to_q.cpu i, to_q.call i)) y.by_call)
                (All-cons (IsBy p.cpu p.call) step [] (to_s.cpu, to_s.call) (All-nil (IsBy p.cpu p.call)));
            spares = g.spares ∙ (y.spares ∙ ap (λ (z : PassView). z.spares) b.took.after_is);
            learns = learns_it;
            none_moved = λ common logs knows. All-append (λ (z : Turned). IsFalse (finds_moved_on z.entry.part)) y.inner (told ∷ []) y.inner_stay
                (All-cons (λ (z : Turned). IsFalse (finds_moved_on z.entry.part)) told [] y.stays (All-nil (λ (z : Turned). IsFalse (finds_moved_on z.entry.part))));
          }

      pub named_around : lock_named t.shape can.hold.lock ≡ Local c
      named_around = ap (λ (z : Hold). lock_named t.shape z.lock) hold_there ∙ named_local

      pub saw_around : SawHolders t.shape p u ((y.steps ++ step ∷ []) ++ (y.inner ++ told ∷ []))
      saw_around =
          saw_on_both t.shape p s u y.steps (step ∷ []) y.inner (told ∷ [])
          (saw_on t.shape p q s [] (y.steps ++ y.inner) (saw_none t.shape p q _ (ap (λ (z : PassView). z.view.touched) b.took.after_is)) y.saw)
          (saw_both t.shape s s u [] step told g.touched (saw_nothing t.shape s) g.touched_are
          (local_tells_none t.shape s.cpu actual content_there (local_told lists) lists_around can.may_put.allowed)
          (local_tells_none t.shape s.cpu entry_part content_there (local_told lists) lists_around allowed_there))

      -- the hashes that were given
      pub hashes_around : u.view.hashes ≡ hashes_given p.cpu t.shape.buckets (in_locals (local_told out)) y.notes.came s.view.hand s.view.hashes
      hashes_around =
          g.hashes
          ∙ (ap (λ (z : Shape). cond (is_lru z.kind) (hashes_given can.hold.cpu z.buckets (content_after z s.cpu actual (content z (lock_named z can.hold.lock) can.hold.log)) (came_last s.view.notes) s.view.hand s.view.hashes) s.view.hashes) ready_of_table.1
          ∙ (ap (λ (z : Bool). cond z (hashes_given can.hold.cpu t.shape.buckets (content_after t.shape s.cpu actual content_there) (came_last s.view.notes) s.view.hand s.view.hashes) s.view.hashes) b.evicts
          ∙ (λ i. hashes_given ((ap (λ (z : Hold). z.cpu) hold_there ∙ b.took.cpu_is) i) t.shape.buckets (sym can.may_put.told_is i) ((ap came_last y.noted) i) s.view.hand s.view.hashes)))

  -- where the turns inside are its probes
  module _ {part : LocalPart} {out : LocalView} {s : PassView} (y : ReadyLocal t part lists out b.took.hold q s) where
    power : IsPowerOfTwo t.shape.buckets
    power = (bounds_of_shape t.shape b.is_shape).buckets_power

    around : ReadyAround t part lists out b.took.hold q s
    around =
        let bits : List BitTouch = map reads_bit (local_reads part) ++ map clears_bit (local_also part) in
        let none : bits_of_turns t.shape y.turns ≡ [] =
        ap (λ (z : Bool). cond z (flat_map (λ (x : Turned). bits_of_part t.shape x.entry.part) y.turns) []) b.evicts ∙ evicts_bits t.shape q.cpu q.call lists.pending y.probes y.turns y.are_evicts in
        record {
          steps = y.turns;
          inner = y.turns;
          inner_lost = [];
          inner_told = evicts_told t.shape [] q.cpu q.call lists.pending y.probes y.turns y.are_evicts;
          goes = y.goes;
          by_call = evicts_by t.shape q.cpu q.call lists.pending y.probes y.turns y.are_evicts;
          elsewhere = subst (λ (n : ℕ). AreElsewhere n y.turns) (sym b.took.lock_is) (evicts_apart_from t.shape q.cpu q.call (Local c) lists.pending y.probes y.turns power b.there (omega arith) y.are_evicts);
          inner_stay = evicts_stay t.shape q.cpu q.call lists.pending y.probes y.turns y.are_evicts;
          now = y.now;
          held = y.held;
          notes = y.notes;
          noted = y.noted;
          spares = y.spares;
          left = y.left;
          allowed = y.allowed;
          fits = y.fits;
          same_free = y.same_free;
          same_rows = y.same_rows;
          rows_kept = y.rows_kept;
          gone = λ x h before none_left. inl (y.gone x h before none_left);
          notes_fit = y.notes_fit;
          owners_told = y.owners_told;
          stays = y.stays;
          saw = saw_twice t.shape q s y.turns y.saw;
          learns = subst (λ (l : List BitTouch). Learns t.shape q.view s.view y.turns (l ++ bits)) (sym none) y.learns;
        }

    pub can_give_local : CanGive t (Local c) s (contents.Local out) (parts.Local part)
    can_give_local = can_give_around around

    pub may_give_local : (given_part : Option Part) → IfSome given_part (λ x. x ≡ parts.Local part) → MayGiveBack t (Local c) s (contents.Local out) given_part
    may_give_local given_part is = may_give_around around given_part is

    module _ {u : PassView} {lost : List ℕ} (actual : Part) (can : CanGive t (Local c) s (contents.Local out) actual) (g : GaveAs t s u can.hold actual lost) (told_as : (actual ≡ parts.Local part) ⊎ (is_among can.hold.lock lost ≡ true)) where
      abbrev step_made : Turned
      step_made = given_turn s g.ticket can.hold actual

      abbrev step_told : Turned
      step_told = given_turn s g.ticket can.hold (parts.Local part)

      pub lists_there : in_locals (local_told lists) ≡ content t.shape (lock_named t.shape can.hold.lock) can.hold.log
      lists_there = lists_around around actual can g told_as

      pub named_there : lock_named t.shape can.hold.lock ≡ Local c
      named_there = named_around around actual can g told_as

      pub changed_local : ChangedHands t p u (y.turns ++ step_made ∷ []) (y.turns ++ step_told ∷ []) lost
      unfolding around
      changed_local = subst (ChangedHands t p u (y.turns ++ step_made ∷ []) (y.turns ++ step_told ∷ [])) (append_nil lost) (changed_around around actual can g told_as)

      pub chased_local : IsChased t.shape (Local c) (parts.Local part) (map (turn_at t.shape) (y.turns ++ step_told ∷ []))
      chased_local = record {
        probing = map (turn_at t.shape) y.turns;
        last = turn_at t.shape step_told;
        turns_are = map-append (turn_at t.shape) y.turns (step_told ∷ []);
        last_is = λ i. record { lock = named_there i; part = parts.Local part };
        chase = subst (λ (z : Content × List Try). Chase t.shape (listed_rows z.0) z.1 (turns_of (map (turn_at t.shape) y.turns))) (λ i. (lists_there i, y.tried i))
            (chase_of t.shape q.cpu q.call lists.pending y.probes y.turns power y.are_evicts);
      }

      pub saw_local : SawHolders t.shape p u ((y.turns ++ step_made ∷ []) ++ (y.turns ++ step_told ∷ []))
      unfolding around
      saw_local = saw_around around actual can g told_as

      -- the hashes that were given
      pub hashes_local : u.view.hashes ≡ hashes_given p.cpu t.shape.buckets (in_locals (local_told out)) y.notes.came s.view.hand s.view.hashes
      unfolding around
      hashes_local = hashes_around around actual can g told_as
