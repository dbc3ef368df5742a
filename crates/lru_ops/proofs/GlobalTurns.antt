-- A turn of the global lists that fills a CPU's local free list, inside a turn of its local lists: from its take to its give.
use Rattle.std.proofs.Common.{inl, inr, ⊎_elim, ◌≡◌, ◌≢◌, ℕ, ltb, cond, true, Bool, List, [], ◌∷◌, ◌++◌, map, reverse, sym, refl, ap, ◌∙◌, subst, Option, Some, None, arith}
use Rattle.std.specs.Prelude.{◌⊎◌, IfSome, IsTrue, IsFalse, All, zero, suc}
use Rattle.std.specs.List.{flat_map}
use Rattle.std.proofs.lemmas.Bool.{lt-ltb}
use Rattle.std.proofs.lemmas.List.{map-append}
use Rattle.std.proofs.lemmas.List.Concat.{flat_map-append}
use Rattle.std.proofs.lemmas.List.Elements.{All-nil, All-cons, All-append}
use Rattle.map_types.specs.declared.attr.Shape.{Shape}
use Rattle.map_types.specs.declared.kind.DomainId.{DomainId}
use Rattle.map_types.specs.declared.kind.DomainId.TheVariants.{Global, Local}
use Rattle.map_types.specs.declared.row.Row.{Row}
use Rattle.map_types.specs.ElementLists.{times}
use Rattle.map_types.specs.Listed.{elements_of}
use Rattle.map_types.proofs.CreationLemmas.{bounds_of_shape}
use Rattle.map_types.proofs.RowLemmas.{times_append}
use Rattle.key_hash.specs.Bucket.{IsPowerOfTwo}
use Rattle.place_words.specs.declared.bucket_part.BucketPart.TheVariants.{Evict}
use Rattle.place_words.specs.declared.bucket_part.Seen.TheVariants.{Held}
use Rattle.place_words.specs.declared.history.Part.{Part}
use Rattle.place_words.specs.declared.history.Part.TheVariants as parts
use Rattle.place_words.specs.declared.list_part.GlobalPart.{GlobalPart}
use Rattle.place_words.specs.declared.list_part.GlobalPart.TheVariants as global
use Rattle.place_words.specs.declared.visits.Flush.{Flush}
use Rattle.place_words.specs.declared.visits.Try.{Try}
use Rattle.place_words.specs.declared.visits.Visit.{Visit}
use Rattle.place_words.specs.Bodies.{numbers}
use Rattle.place_words.specs.Globals.{flush_visit, flushed_rotated, flushed_rows}
use Rattle.place_words.specs.Histories.{Content, in_global, content, content_after, Allows, IsLegal, also_cleared, bits_cleared, looks_told}
use Rattle.place_words.specs.Locks.{is_lock, lock_named, lock_number}
use Rattle.place_words.specs.Rotation.{visited_elements}
use Rattle.place_words.specs.Sets.{ListSet}
use Rattle.place_words.specs.Shrinking.{freed}
use Rattle.place_words.specs.Takings.{Chase, IsChased, freed_by, listed_rows, shrink_probes, stored_hash, walk_probes}
use Rattle.place_words.specs.Turns.{turns_of}
use Rattle.place_words.proofs.LockLemmas.{named_by_number}
use Rattle.place_words.specs.State.{rows}
use Rattle.place_table.specs.declared.content.Content.TheVariants as contents
use Rattle.place_table.specs.declared.view.Hold.{Hold}
use Rattle.place_table.specs.declared.view.Notes.{Notes}
use Rattle.place_table.specs.declared.view.Turned.{Turned}
use Rattle.place_table.specs.Calls.{CouldBe, IsTold, bits_of_part, bits_of_turns, clears_found, finds_moved_on}
use Rattle.place_table.specs.Contents.{FitsLock, set_told, set_under, lists_of}
use Rattle.place_table.specs.Flushes.{flushes}
use Rattle.place_table.specs.Known.{BitTouch, IsBy, Learns, turn_at}
use Rattle.place_table.specs.Passes.{PassView, TableView, IsPassOf, TookLock, CanGive, Gave, GaveBack, MayGiveBack, Goes}
use Rattle.place_table.specs.StoredHashes.{stored_in}
use Rattle.place_table.specs.TurnNotes.{AreCleared, CameToHand, ProbeFits, TellsFlush, WasRead, clears_among, clears_noted}
use Rattle.place_table.specs.Views.{is_among, known_log, holds_below, notes_below, passed_on, no_notes, hold_with, is_local}
use Rattle.place_table.specs.Owners.{owner_left}
use Rattle.place_table.specs.declared.view.OwnerSeen.{OwnerSeen}
use Rattle.place_table.proofs.Entries.{append_nil}
use Rattle.place_table.proofs.Telling.{tells_turn}
use Rattle.place_table.proofs.Going.{AreElsewhere, log_elsewhere, given_turn, goes_on, goes_took, goes_of_table, goes_begun, same_head, learns_on, learns_after, learns_gave, learns_took}
use Rattle.local_lists.specs.LocalLists.{LocalView}
use Rattle.lru_lists.specs.declared.bits.ProbeCall.{ProbeCall}
use Rattle.lru_lists.specs.declared.notes.Noted.{Noted}
use Rattle.lru_lists.specs.declared.notes.Noted.TheVariants as noted
use Rattle.lru_lists.specs.declared.notes.RotateNotes.{RotateNotes}
use Rattle.lru_lists.specs.declared.notes.ShrinkNotes.{ShrinkNotes}
use Rattle.lru_lists.specs.Notes.{AreNoted}
use Rattle.lru_lists.specs.Sets.{SetView, row_on}
use Rattle.lru_lists.proofs.SetLemmas.{its_row}
use Rattle.lru_ops.specs.declared.refill.GlobalNotes.{GlobalNotes}
use Rattle.lru_ops.specs.declared.refill.Refilled.{Refilled}
use Rattle.lru_ops.specs.Askings.{AreEvicts, owners_after}
use Rattle.lru_ops.specs.Evictions.{SawHolders}
use Rattle.lru_ops.specs.Filling.{FilledUp, lacks, turn_told, IsGlobalTurn, global_note}
use Rattle.lru_ops.specs.GlobalWork.{both_lists}
use Rattle.lru_ops.specs.Refills.{CanRefill, FilledFrom, IsToldRefill}
use Rattle.lru_ops.specs.Lists.{GaveNone, IsHeldByOther}
use Rattle.lru_ops.specs.OwnTurns.{rows_on}
use Rattle.lru_ops.proofs.Asked.{other_local}
use Rattle.lru_ops.proofs.GivingOut.{clears_told, probes_fit}
use Rattle.lru_ops.proofs.GlobalWalk.{same_second, same_tail}
use Rattle.lru_ops.proofs.Holders.{TellsNoHolder, saw_both, saw_none, saw_on}
use Rattle.lru_ops.proofs.LocalTurns.{evicts_apart_from, evicts_stay}
use Rattle.lru_ops.proofs.NoneFound.{filled_none, held_elsewhere, none_taken, nothing_came}
use Rattle.lru_ops.proofs.OwnTurns.{GaveAs, gave_as, gave_some_as, evicts_bits, evicts_by, evicts_told, chase_of, cleared_times, lock_among, told_last}
use Rattle.lru_ops.proofs.SameFlushes.{flushes_passed, flushes_same, flushes_told}
use Rattle.lru_ops.proofs.SetWork.{stored_row}
use Rattle.lru_ops.proofs.FillTaken.{stored_global}
use Rattle.lru_ops.proofs.OwnersAround.{global_no_probe}
use Rattle.lru_ops.proofs.OwnersLeft.{global_left}

-- Probes among the rows that were there or flushed

evicts_on : (shape : Shape) (cpu call : ℕ) (rows others : List Row) (probes : List ProbeCall) (turns : List Turned) → ((e h : ℕ) → stored_hash e rows ≡ Some h → stored_hash e others ≡ Some h) → AreEvicts shape cpu call rows probes turns → AreEvicts shape cpu call others probes turns
evicts_on shape cpu call rows others [] [] on are = tt
evicts_on shape cpu call rows others [] (turn ∷ turns) on are = absurd are
evicts_on shape cpu call rows others (probe ∷ probes) [] on are = absurd are
evicts_on shape cpu call rows others (probe ∷ probes) (turn ∷ turns) on are = (are.0, on probe.element probe.hash are.1, evicts_on shape cpu call rows others probes turns on are.2)

all_elsewhere : (k : ℕ) (turns : List Turned) → AreElsewhere k turns → All (λ (turn : Turned). turn.lock ≢ k) turns
all_elsewhere k [] apart = All-nil (λ (turn : Turned). turn.lock ≢ k)
all_elsewhere k (turn ∷ turns) apart = All-cons (λ (z : Turned). z.lock ≢ k) turn turns apart.0 (all_elsewhere k turns apart.1)

global_no_local : (d : ℕ) → Global ≡ Local d → ⊥
global_no_local d e = cc

global_tells_none : (shape : Shape) (cpu : ℕ) (part : Part) (there : Content) (lists : ListSet) → in_global lists ≡ there → Allows shape cpu part there → TellsNoHolder part
global_tells_none shape cpu part there lists is allowed e holder same =
    let here : Allows shape cpu (parts.Bucket (Evict e (Held holder))) (in_global lists) = subst (λ (z : Part × Content). Allows shape cpu z.0 z.1) (λ i. (same i, sym is i)) allowed in
    absurd here

-- The global lists were taken.
module _ {t : TableView} {lists : LocalView} {p q : PassView} {set : SetView} (r : CanRefill t lists p) (took : TookLock t Global p q (contents.Set set)) where
  to_q : Goes p q [] []
  to_q = goes_took t Global p q (contents.Set set) took

  there : IsTrue (is_lock t.shape Global)
  there = r.common

  power : IsPowerOfTwo t.shape.buckets
  power = (bounds_of_shape t.shape r.is_shape).buckets_power

  held_q : q.view.held ≡ took.hold ∷ r.hold ∷ []
  held_q = ap (λ (z : PassView). z.view.held) took.after_is ∙ ap (λ (l : List Hold). took.hold ∷ l) r.held

  noted_q : q.view.notes ≡ no_notes ∷ no_notes ∷ r.below
  noted_q = ap (λ (z : PassView). z.view.notes) took.after_is ∙ ap (λ (l : List Notes). no_notes ∷ l) r.noted

  -- Before they are given back
  module _ {out : SetView} {lists_out : LocalView} {noting noting_after : GlobalNotes} {s : PassView} {target : ℕ}
      (y : FilledUp t (both_lists set lists q) (both_lists out lists_out s) noting noting_after target) where
    abbrev turn : GlobalPart
    turn = turn_told y.flushed y.active y.inactive y.free target y.looks y.forced

    abbrev pub part : Part
    part = parts.Global turn

    to_s : Goes p s y.turns []
    to_s = goes_on p q s [] y.turns [] [] to_q y.goes

    of_table : IsPassOf t s
    of_table = goes_of_table t p s y.turns [] to_s r.of_table

    global_is : y.global ≡ took.hold
    global_is = same_head (sym y.was ∙ held_q)

    local_is : y.local ≡ r.hold
    local_is = same_second (sym y.was ∙ held_q)

    below_is : y.below ≡ r.below
    below_is = same_tail (same_tail (sym y.was_noted ∙ noted_q))

    lock_is : y.global.lock ≡ lock_number t.shape Global
    lock_is = ap (λ (z : Hold). z.lock) global_is ∙ took.lock_is

    named : lock_named t.shape y.global.lock ≡ Global
    named = ap (lock_named t.shape) lock_is ∙ named_by_number t.shape Global there

    found_here : in_global (set_told set) ≡ content t.shape (lock_named t.shape y.global.lock) y.global.log
    found_here = took.told_is ∙ (λ i. content t.shape (sym named i) (sym (ap (λ (z : Hold). z.log) global_is) i))

    -- a set under this lock is told as the one that the CPUs share
    out_there : set_under (lock_named t.shape y.global.lock) (set_told out) ≡ in_global (set_told out)
    out_there = ap (λ (d : DomainId). set_under d (set_told out)) named

    -- the bits that were cleared are those that the part tells
    cleared_are : clears_noted y.notes ≡ bits_cleared part
    cleared_are = (λ i. clears_among (reverse (y.asked_is i))) ∙ clears_told (bits_cleared part)

    pub can_give_global : CanGive t Global s (contents.Set out) part
    can_give_global =
        let begun = goes_begun p s y.turns [] to_s r.begun in record {
          of_table = of_table;
          begun = begun;
          hold = hold_with y.global y.global_now;
          below = hold_with y.local y.local_now ∷ [];
          innermost = y.held;
          notes = y.notes;
          notes_below = y.around ∷ y.below;
          notes_are = y.noted;
          there = there;
          lock_is = lock_is;
          may_put = record {
            cpu = begun;
            told_is = out_there ∙ (ap in_global (sym y.left) ∙ ap (content_after t.shape s.cpu part) found_here);
            fits = subst (λ (d : DomainId). FitsLock t.shape d (contents.Set out)) (sym named) y.fits;
            allowed = subst (Allows t.shape s.cpu part) found_here y.allowed;
            same_free = λ x. ap (λ (c : Content). times x (lists_of c).free) out_there ∙ ap (times x) (sym y.same_free);
            same_rows = λ x. ap (λ (c : Content). times x (rows (lists_of c))) out_there ∙ (times_append x (elements_of out.active) (elements_of out.inactive) ∙ sym (y.same_rows x));
            rows_kept = λ _ j x h n other held _ _ before after.
                let here : stored_hash x (rows_on out) ≡ Some n = sym (stored_global out x) ∙ (ap (λ (c : Content). stored_in c x) (sym out_there) ∙ after) in
                let row = stored_row x n out here in
                let same : row.0.element ≡ x = its_row x out row.0 row.1 in
                y.hashed row.0 (ap (λ (e : ℕ). row_on e out) same ∙ row.1) j h other held (ap (stored_in (content t.shape (lock_named t.shape j) other.log)) same ∙ before) ∙ row.2;
            gone = λ _ c x h is. absurd (global_no_local c (sym named ∙ is));
          };
          inside = record {
            outer = hold_with y.local y.local_now;
            others = [];
            held_are = refl;
            may_be = subst (λ (d : DomainId). IsTrue (is_local d)) (sym (ap (λ (z : Hold). lock_named t.shape z.lock) local_is ∙ (ap (lock_named t.shape) r.lock_is ∙ named_by_number t.shape (Local p.cpu) r.there))) refl;
          };
          notes_fit = record {
            marks_are = y.no_marks;
            clears_are = cleared_are;
            reads = All-nil (WasRead y.notes.asked);
            flushed = y.flushed_hashed;
            off = subst (All (λ e. flushes e part ≡ true)) (sym y.none_off) (All-nil (λ e. flushes e part ≡ true));
            held = subst (λ (owners : _). All (ProbeFits owners) (shrink_probes (global_note (lacks target) target y.looks y.forced))) (sym y.owners_are) (subst (All (ProbeFits (owners_after y.probes []))) y.tried (probes_fit y.probes []));
            came = All-nil (CameToHand s.view (hold_with y.global y.global_now) y.notes);
          };
          owners_fit = λ _. record {
            changes = λ x owner. ap (λ (l : List OwnerSeen). owner_left l x owner) y.changed_is ∙ global_left s.cpu y.flushed y.active y.inactive y.free (global_note (lacks target) target y.looks y.forced) y.probes y.tried x owner;
            probed = λ x holder is. absurd (global_no_probe turn x holder is);
          };
        }

    pub may_give_global : (given_part : Option Part) → IfSome given_part (λ x. x ≡ part) → MayGiveBack t Global s (contents.Set out) given_part
    may_give_global None is = (part, can_give_global)
    may_give_global (Some x) is = subst (CanGive t Global s (contents.Set out)) (sym is) can_give_global

    -- Once they are given back, by the part that was made; it is told as this one
    module _ {u : PassView} {lost : List ℕ} (actual : Part) (can : CanGive t Global s (contents.Set out) actual) (g : GaveAs t s u can.hold actual lost) (told_as : (actual ≡ part) ⊎ (is_among can.hold.lock lost ≡ true)) where
      hold_there : can.hold ≡ hold_with y.global y.global_now
      hold_there = same_head (sym can.innermost ∙ y.held)

      notes_there : can.notes ≡ y.notes
      notes_there = same_head (sym can.notes_are ∙ y.noted)

      abbrev step : Turned
      step = given_turn s g.ticket can.hold actual

      abbrev told : Turned
      told = given_turn s g.ticket can.hold part

      abbrev content_there : Content
      content_there = content t.shape (lock_named t.shape can.hold.lock) can.hold.log

      set_there : in_global (set_told set) ≡ content_there
      set_there = found_here ∙ ap (λ (z : Hold). content t.shape (lock_named t.shape z.lock) z.log) (sym hold_there)

      named_there : lock_named t.shape can.hold.lock ≡ Global
      named_there = ap (λ (z : Hold). lock_named t.shape z.lock) hold_there ∙ named

      out_told : set_under (lock_named t.shape can.hold.lock) (set_told out) ≡ in_global (set_told out)
      out_told = ap (λ (d : DomainId). set_under d (set_told out)) named_there

      allowed_there : Allows t.shape s.cpu part content_there
      allowed_there = subst (Allows t.shape s.cpu part) set_there y.allowed

      could_be : CouldBe t.shape step told
      could_be = record {
        lock = refl;
        earlier = refl;
        cpu = refl;
        call = refl;
        moment = refl;
        allowed = allowed_there;
        same_marks = sym y.no_marks ∙ (ap (λ (n : Notes). n.marks) (sym notes_there) ∙ can.notes_fit.marks_are);
        same_clears = λ x. cleared_times x [] (bits_cleared part) _ cleared_are ∙ (ap (λ (n : Notes). times x (visited_elements (clears_noted n))) (sym notes_there) ∙ sym (cleared_times x (also_cleared actual) (bits_cleared actual) _ can.notes_fit.clears_are));
        leaves = sym (ap in_global (sym y.left) ∙ ap (content_after t.shape s.cpu part) set_there) ∙ (sym out_told ∙ can.may_put.told_is);
      }

      is_told : IsTold t.shape lost step told
      unfolding can_give_global
      is_told = (
        ⊎_elim (λ (same : actual ≡ part). inl (ap (given_turn s g.ticket can.hold) (sym same))) (λ (gone : is_among can.hold.lock lost ≡ true). inr (gone, could_be)) told_as,
        tells_turn can_give_global g.ticket can.hold actual hold_there [] (cleared_are ∙ sym (append_nil (bits_cleared part))),
      )

      abbrev bits : List BitTouch
      bits = map clears_found (bits_cleared part)

      bits_are : bits ≡ bits_of_turns t.shape (y.turns ++ told ∷ [])
      bits_are =
          sym (ap (λ (z : Bool). cond z (flat_map (λ (x : Turned). bits_of_part t.shape x.entry.part) (y.turns ++ told ∷ [])) []) r.evicts
          ∙ (flat_map-append (λ (x : Turned). bits_of_part t.shape x.entry.part) y.turns (told ∷ [])
          ∙ ((λ i. evicts_bits t.shape q.cpu q.call y.walked y.probes y.turns y.are_evicts i ++ flat_map (λ (x : Turned). bits_of_part t.shape x.entry.part) (told ∷ []))
          ∙ (append_nil (bits_of_part t.shape part) ∙ append_nil bits))))

      apart : AreElsewhere (lock_number t.shape Global) y.turns
      apart = evicts_apart_from t.shape q.cpu q.call Global y.walked y.probes y.turns power there (omega arith) y.are_evicts

      log_is : can.hold.log ≡ took.hold.log
      log_is = ap (λ (z : Hold). z.log) hold_there ∙ ap (λ (z : Hold). z.log) global_is

      learns_it : Learns t.shape p.view u.view (y.turns ++ step ∷ []) (bits_of_turns t.shape (y.turns ++ told ∷ []))
      learns_it =
          let k : ℕ = lock_number t.shape Global in
          let last : Learns t.shape s.view u.view (step ∷ []) [] =
          learns_gave t Global s (contents.Set out) g.ticket actual u.view can (subst (IsLegal t.shape Global) (sym log_is) took.legal)
          (λ has log is. log_is ∙ took.known log (ap (λ (z : PassView). known_log k z.view.known) (sym took.after_is) ∙ (sym ((y.learns.logs (sym y.learns.all ∙ has) k).known_is ∙ log_elsewhere k y.turns (known_log k q.view.known) apart) ∙ is)))
          g.known g.bits g.goes.cpus g.goes.shape in
          subst (Learns t.shape p.view u.view (y.turns ++ step ∷ [])) (append_nil bits ∙ bits_are)
          (learns_after t.shape p.view q.view u.view (y.turns ++ step ∷ []) (bits ++ []) (learns_took t Global p q (contents.Set set) took)
          (learns_on t.shape q.view s.view u.view y.turns (step ∷ []) bits [] y.learns last))

      -- the turns are of buckets and of the global lists
      not_local : All (λ (turn : Turned). turn.lock ≢ lock_number t.shape (Local p.cpu)) (y.turns ++ step ∷ [])
      not_local =
          let P : Turned → Type 0 = λ turn. turn.lock ≢ lock_number t.shape (Local p.cpu) in
          All-append P y.turns (step ∷ [])
          (all_elsewhere (lock_number t.shape (Local p.cpu)) y.turns (evicts_apart_from t.shape q.cpu q.call (Local p.cpu) y.walked y.probes y.turns power r.there (omega arith) y.are_evicts))
          (All-cons P step [] (λ same. other_local t.shape p.cpu there r.there (sym same ∙ can.lock_is)) (All-nil P))

      chased : IsChased t.shape Global part (map (turn_at t.shape) (y.turns ++ told ∷ []))
      chased = record {
        probing = map (turn_at t.shape) y.turns;
        last = turn_at t.shape told;
        turns_are = map-append (turn_at t.shape) y.turns (told ∷ []);
        last_is = λ i. record { lock = named_there i; part = part };
        chase = subst (λ (z : Content × List Try). Chase t.shape (flushed_rows y.flushed ++ listed_rows z.0) z.1 (turns_of (map (turn_at t.shape) y.turns))) (λ i. (set_there i, y.tried i))
            (chase_of t.shape q.cpu q.call (flushed_rows y.flushed ++ (set.active ++ set.inactive)) y.probes y.turns power
            (evicts_on t.shape q.cpu q.call y.walked (flushed_rows y.flushed ++ (set.active ++ set.inactive)) y.probes y.turns y.stored y.are_evicts));
      }

      saw_them : SawHolders t.shape p u ((y.turns ++ step ∷ []) ++ (y.turns ++ told ∷ []))
      saw_them =
          saw_both t.shape p s u y.turns step told g.touched
          (saw_on t.shape p q s [] y.turns (saw_none t.shape p q _ (ap (λ (z : PassView). z.view.touched) took.after_is)) y.saw) g.touched_are
          (global_tells_none t.shape s.cpu actual content_there (set_told set) set_there can.may_put.allowed)
          (global_tells_none t.shape s.cpu part content_there (set_told set) set_there allowed_there)

      -- what the turn hands on to that of the local lists is what it flushed, also where another part stands for it
      notes_left : u.view.notes ≡ record y.around { flushed = y.around.flushed ++ flushes_told actual } ∷ y.below
      notes_left =
          g.notes
          ∙ (ap (passed_on actual) y.noted
          ∙ flushes_passed t.shape s.cpu actual content_there (set_told set) y.notes y.around y.below set_there can.may_put.allowed)

      flushes_there : All (TellsFlush (y.around.flushed ++ flushes_told actual)) (map flush_visit y.flushed)
      flushes_there =
          subst (λ (l : List Flush). All (TellsFlush (l ++ flushes_told actual)) (map flush_visit y.flushed)) (sym y.around_flushed)
          (flushes_same t.shape s.cpu actual content_there (set_told set) y.flushed (y.active ++ (y.inactive ++ looks_told (global_note (lacks target) target y.looks y.forced))) set_there can.may_put.allowed y.allowed.0
          (subst (λ (l : List Visit). AreCleared (also_cleared actual) (bits_cleared actual) l) (ap clears_noted notes_there ∙ cleared_are) can.notes_fit.clears_are))

      -- what it shows where nothing is free on the local lists
      gave_none : lists_out.free.bodies ≡ [] → GaveNone t.shape p.cpu (y.turns ++ told ∷ [])
      gave_none none =
          let came = nothing_came y.free (freed y.looks y.forced) (sym y.free_is ∙ ap numbers none) in
          let shown = filled_none (lacks target) target y.free (flushed_rotated y.flushed y.active y.inactive (set_told set)).lists y.looks y.forced y.allowed.3 came.0 came.1 in
          let held = held_elsewhere t.shape q.cpu q.call y.walked y.probes y.turns y.looks y.forced y.are_evicts y.learns.allowed
          (y.tried ∙ ap (λ (b : Bool). shrink_probes (global_note b target y.looks y.forced)) shown.was_shrunk) shown.none_removed in
          record {
            probing = y.turns;
            last = told;
            turns_are = refl;
            set = set_told set;
            found_there = sym set_there;
            none_free = none_taken y.free (set_told set).free y.allowed.2 came.0;
            flushed = y.flushed;
            active = y.active;
            inactive = y.inactive;
            looks = y.looks;
            forced = y.forced;
            last_is = λ i. record { lock = named_there i; part = parts.Global (global.Turn y.flushed y.active y.inactive (came.0 i) (global_note (shown.was_shrunk i) (shown.all_lacked i) y.looks y.forced)) };
            tried_all = shown.tried_all;
            held = subst (λ (c : ℕ). All (IsHeldByOther c) (walk_probes y.looks y.forced)) to_q.cpu held;
          }

      pub filled_by : (refilled : Option Refilled) → IfSome refilled (λ (z : Refilled). (z.flushed ≡ map flush_visit y.flushed) × (z.gained ≡ y.free ++ freed y.looks y.forced)) → FilledFrom t lists lists_out p u refilled
      filled_by refilled is = record {
        flushed = y.flushed;
        active = y.active;
        inactive = y.inactive;
        free = y.free;
        shrink = global_note (lacks target) target y.looks y.forced;
        with_hashes = y.with_hashes;
        none_pending = y.none_pending;
        steal_is = y.steal_is;
        free_is = y.free_is ∙ ap (λ (l : List ℕ). reverse (y.free ++ l)) y.freed_is;
        fits = y.lists_fit;
        told_is = told_by refilled is;
        steps = y.turns ++ step ∷ [];
        told_steps = y.turns ++ told ∷ [];
        lost = lost;
        told_are = told_last t.shape lost y.turns step told (evicts_told t.shape lost q.cpu q.call y.walked y.probes y.turns y.are_evicts) is_told;
        goes = subst (Goes p u (y.turns ++ step ∷ [])) (append_nil lost) (goes_on p s u y.turns (step ∷ []) [] lost to_s g.goes);
        by_call = All-append (IsBy p.cpu p.call) y.turns (step ∷ [])
            (subst (λ (z : ℕ × ℕ). All (IsBy z.0 z.1) y.turns) (λ i. (to_q.cpu i, to_q.call i)) (evicts_by t.shape q.cpu q.call y.walked y.probes y.turns y.are_evicts))
            (All-cons (IsBy p.cpu p.call) step [] (to_s.cpu, to_s.call) (All-nil (IsBy p.cpu p.call)));
        elsewhere = not_local;
        stay = All-append (λ (z : Turned). IsFalse (finds_moved_on z.entry.part)) y.turns (told ∷ []) (evicts_stay t.shape q.cpu q.call y.walked y.probes y.turns y.are_evicts)
            (All-cons (λ (z : Turned). IsFalse (finds_moved_on z.entry.part)) told [] refl (All-nil (λ (z : Turned). IsFalse (finds_moved_on z.entry.part))));
        chased = chased;
        none = gave_none;
        hold = y.local;
        now = y.local_now;
        was = r.held ∙ ap (λ (z : Hold). z ∷ []) (sym local_is);
        held = g.held ∙ ap holds_below y.held;
        same_free = y.local_free;
        no_rows = y.no_rows;
        notes = record y.around { flushed = y.around.flushed ++ flushes_told actual };
        below = y.below;
        was_noted = r.noted ∙ ap (λ (l : List Notes). no_notes ∷ l) (sym below_is);
        noted = notes_left;
        no_marks = y.around_marks;
        none_asked = y.around_asked;
        none_changed = y.around_changed;
        told_inside = flushes_there;
        off_is = y.around_off;
        hand = g.hand ∙ (y.hand ∙ ap (λ (z : PassView). z.view.hand) took.after_is);
        carried = g.carried ∙ (y.carried ∙ ap (λ (z : PassView). z.view.carried) took.after_is);
        spares = g.spares ∙ (y.spares ∙ ap (λ (z : PassView). z.spares) took.after_is);
        saw = saw_them;
        learns = learns_it;
      }
        where
          told_by : (refilled : Option Refilled) → IfSome refilled (λ (z : Refilled). (z.flushed ≡ map flush_visit y.flushed) × (z.gained ≡ y.free ++ freed y.looks y.forced))
              → IfSome refilled (λ (z : Refilled). (z.flushed ≡ map flush_visit y.flushed) × (z.gained ≡ y.free ++ freed_by (global_note (lacks target) target y.looks y.forced)))
          told_by None is = tt
          told_by (Some z) is = (is.0, is.1 ∙ ap (λ (l : List ℕ). y.free ++ l) y.freed_is)

-- What the notes tell

pub some_lack : (n : ℕ) → ltb 0 n ≡ lacks n
some_lack zero = refl
some_lack (suc n) = lt-ltb 0 (suc n) (omega arith)

-- The whole turn, from the clauses of its calls. No note was made before it.
module _ {t : TableView} {lists : LocalView} {p q : PassView} {set : SetView} (r : CanRefill t lists p) (took : TookLock t Global p q (contents.Set set))
    {out : SetView} {lists_out : LocalView} {noting noting_after : GlobalNotes} {s : PassView} {target : ℕ}
    (y : FilledUp t (both_lists set lists q) (both_lists out lists_out s) noting noting_after target)
    (no_flush : noting.flushed ≡ noted.Kept []) (no_turning : noting.turning ≡ record { active = noted.Kept []; inactive = noted.Kept [] }) (no_moving : noting.moved ≡ noted.Kept []) (no_shrinking : noting.shrinking ≡ record { looks = noted.Kept []; forced = noted.Kept [] })
    {shrunk : Bool} (shrunk_is : shrunk ≡ lacks target) (given_part : Option Part) (part_told : IfSome given_part (IsGlobalTurn noting_after.flushed noting_after.turning noting_after.moved shrunk target noting_after.shrinking)) where
  as_told : (given_part : Option Part) → IfSome given_part (IsGlobalTurn noting_after.flushed noting_after.turning noting_after.moved shrunk target noting_after.shrinking) → IfSome given_part (λ x. x ≡ part r took y)
  as_told None is = tt
  as_told (Some x) is =
      is y.flushed y.active y.inactive y.free y.looks y.forced
      (subst (λ (z : Noted Flush). AreNoted y.flushed z noting_after.flushed) no_flush y.noted_flushed)
      (subst (λ (z : RotateNotes). AreNoted y.active z.active noting_after.turning.active) no_turning y.noted_active)
      (subst (λ (z : RotateNotes). AreNoted y.inactive z.inactive noting_after.turning.inactive) no_turning y.noted_inactive)
      (subst (λ (z : Noted ℕ). AreNoted y.free z noting_after.moved) no_moving y.noted_free)
      (subst (λ (z : ShrinkNotes). AreNoted y.looks z.looks noting_after.shrinking.looks) no_shrinking y.noted_looks)
      (subst (λ (z : ShrinkNotes). AreNoted y.forced z.forced noting_after.shrinking.forced) no_shrinking y.noted_forced)
      ∙ ap (λ (b : Bool). parts.Global (global.Turn y.flushed y.active y.inactive y.free (global_note b target y.looks y.forced))) shrunk_is

  pub may_give_refill : MayGiveBack t Global s (contents.Set out) given_part
  may_give_refill = may_give_global r took y given_part (as_told given_part part_told)

  refilled_is : (refilled : Option Refilled) → IfSome refilled (IsToldRefill noting_after.flushed noting_after.moved noting_after.shrinking) → IfSome refilled (λ (z : Refilled). (z.flushed ≡ map flush_visit y.flushed) × (z.gained ≡ y.free ++ freed y.looks y.forced))
  refilled_is None is = tt
  refilled_is (Some z) is =
      is y.flushed y.free y.looks y.forced
      (subst (λ (z : Noted Flush). AreNoted y.flushed z noting_after.flushed) no_flush y.noted_flushed)
      (subst (λ (z : Noted ℕ). AreNoted y.free z noting_after.moved) no_moving y.noted_free)
      (subst (λ (z : ShrinkNotes). AreNoted y.looks z.looks noting_after.shrinking.looks) no_shrinking y.noted_looks)
      (subst (λ (z : ShrinkNotes). AreNoted y.forced z.forced noting_after.shrinking.forced) no_shrinking y.noted_forced)

  filled_as : (u : PassView) (refilled : Option Refilled) → IfSome refilled (λ (z : Refilled). (z.flushed ≡ map flush_visit y.flushed) × (z.gained ≡ y.free ++ freed y.looks y.forced)) → (given_part : Option Part) → IfSome given_part (λ x. x ≡ part r took y)
      → GaveBack t Global s u (contents.Set out) given_part → FilledFrom t lists lists_out p u refilled
  filled_as u refilled told None is gave = filled_by r took y gave.part gave.can (gave_some_as t Global s u (contents.Set out) gave) (inr (lock_among gave.can.hold.lock)) refilled told
  filled_as u refilled told (Some x) is gave =
      let this : Part = part r took y in
      let can = can_give_global r took y in
      let made : Gave s u this = subst (Gave s u) is gave in
      let one : made.hold ≡ can.hold = same_head (sym made.innermost ∙ can.innermost) in
      filled_by r took y this can (subst (λ (h : Hold). GaveAs t s u h this []) one (gave_as t s u this made)) (inl refl) refilled told

  pub filled_from : (u : PassView) (refilled : Option Refilled) → IfSome refilled (IsToldRefill noting_after.flushed noting_after.moved noting_after.shrinking) → GaveBack t Global s u (contents.Set out) given_part → FilledFrom t lists lists_out p u refilled
  filled_from u refilled told gave = filled_as u refilled (refilled_is refilled told) given_part (as_told given_part part_told) gave
