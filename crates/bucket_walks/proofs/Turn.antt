-- The turn of a bucket that is left as it is: what it asks when the bucket is given back, and what is left then.
use Rattle.std.proofs.Common.{◌≡◌, ℕ, true, List, [], ◌∷◌, ◌++◌, inl, inr, sym, refl, ap, ◌∙◌, subst, Option, Some, None}
use Rattle.std.specs.Prelude.{IsTrue, IfSome, All}
use Rattle.std.proofs.lemmas.List.Elements.{All-nil, All-cons}
use Rattle.map_types.specs.declared.attr.Shape.{Shape}
use Rattle.map_types.specs.declared.kind.DomainId.{DomainId}
use Rattle.map_types.specs.declared.kind.DomainId.TheVariants.{Bucket, Local, Global}
use Rattle.map_types.specs.ElementLists.{times}
use Rattle.percpu_values.specs.BodyList.{BodyList}
use Rattle.bucket_chain.specs.Turns.{IsTurn}
use Rattle.owner_words.specs.Owners.{owner_by}
use Rattle.place_words.specs.declared.bucket_part.BucketPart.{BucketPart}
use Rattle.place_words.specs.declared.history.Part.{Part}
use Rattle.place_words.specs.declared.history.Part.TheVariants as parts
use Rattle.place_words.specs.declared.history.StrandStep.{StrandStep}
use Rattle.place_words.specs.Bodies.{numbers}
use Rattle.place_words.specs.Histories.{in_bucket, content, content_after, Allows, IsLegal}
use Rattle.place_words.specs.Locks.{is_lock, lock_named}
use Rattle.place_words.specs.Turns.{on_lock}
use Rattle.place_words.proofs.LockLemmas.{named_by_number}
use Rattle.place_table.specs.declared.content.Content.TheVariants as contents
use Rattle.place_table.specs.declared.view.View.{View}
use Rattle.place_table.specs.declared.view.Hold.{Hold}
use Rattle.place_table.specs.declared.view.Notes.{Notes}
use Rattle.place_table.specs.declared.view.Turned.{Turned}
use Rattle.place_words.specs.declared.step.Lists.{Lists}
use Rattle.place_words.specs.declared.step.Step.{Step}
use Rattle.place_words.specs.declared.visits.Try.{Try}
use Rattle.place_words.specs.SerialOrder.{probes_in}
use Rattle.place_table.specs.Calls.{CouldBe, IsTold, TellsTurn}
use Rattle.place_table.specs.Contents.{content_told, FitsLock}
use Rattle.place_table.specs.Flushes.{flushes}
use Rattle.place_table.specs.InBucket.{InBucket}
use Rattle.place_table.specs.Known.{IsBy, Learns}
use Rattle.place_table.specs.Passes.{PassView, TableView, TookLock, CanGive, GaveBack, MayGiveBack, Goes, with_view, entry_of, ready, TookTicket}
use Rattle.place_table.specs.TurnNotes.{NotesFit, WasRead, ProbeFits, CameToHand, clears_noted}
use Rattle.place_table.specs.Views.{known_log, given, with_lost, no_notes, notes_below, holds_below, ticket_of}
use Rattle.place_table.proofs.BucketBodies.{rows_taken}
use Rattle.place_table.proofs.Entries.{append_nil}
use Rattle.place_table.proofs.Ranges.{bucket_there}
use Rattle.place_table.proofs.TakeToGive.{none_passed}
use Rattle.place_table.proofs.Telling.{tells_turn}
use Rattle.place_table.proofs.Going.{goes_on, goes_took, goes_gave, goes_gave_some, given_turn, same_head, learns_after, learns_took, learns_gave}
use Rattle.place_table.proofs.Nesting.{probes_nothing}
use Rattle.place_table.proofs.StoredHashes.{none_stored}
use Rattle.place_table.proofs.TurnClears.{same_clears}
use Rattle.place_table.proofs.Worlds.{among_first}
use Rattle.bucket_walks.specs.Looks.{IsLook, LooksInto}
use Rattle.bucket_walks.proofs.Told.{marks_none, probes_none, steps_none}

-- Giving back

-- a look probes nothing, and sets no bit
none_noted : (shape : Shape) (v : View) (hold : Hold) (part : BucketPart) → IsLook (parts.Bucket part) → NotesFit shape v hold (parts.Bucket part) no_notes
none_noted shape v hold part is = record {
  marks_are = sym (marks_none shape (parts.Bucket part) is);
  clears_are = refl;
  reads = All-nil (WasRead []);
  flushed = tt;
  off = All-nil (λ e. flushes e (parts.Bucket part) ≡ true);
  held = subst (All (ProbeFits [])) (sym (probes_none (parts.Bucket part) is)) (All-nil (ProbeFits []));
  came = All-nil (CameToHand v hold no_notes);
}

none_probed : {probe : Try} → [] ≡ probe ∷ [] → ⊥
none_probed {probe} is = cc

not_local : (bucket c : ℕ) → Bucket bucket ≡ Local c → ⊥
not_local bucket c e = cc

not_global : (bucket : ℕ) → Bucket bucket ≡ Global → ⊥
not_global bucket e = cc

module _ {t : TableView} {bucket : ℕ} {q : PassView} (chain : BodyList) (b : InBucket t bucket q chain.bodies) (part : BucketPart) (is : IsLook (parts.Bucket part)) (turn : IsTurn t.shape q.cpu part chain.bodies chain.bodies) where
  there : IsTrue (is_lock t.shape (Bucket bucket))
  there = bucket_there t.shape bucket b.there

  can_give : CanGive t (Bucket bucket) q (contents.Bucket chain) (parts.Bucket part)
  can_give =
      let named : lock_named t.shape b.hold.lock ≡ Bucket bucket = ap (lock_named t.shape) b.lock_is ∙ named_by_number t.shape (Bucket bucket) there in
      let found : in_bucket chain.bodies ≡ content t.shape (lock_named t.shape b.hold.lock) b.hold.log = b.content_is ∙ ap (λ (d : DomainId). content t.shape d b.hold.log) (sym named) in
      record {
        of_table = b.of_table;
        begun = b.begun;
        hold = b.hold;
        below = [];
        innermost = b.held;
        notes = no_notes;
        notes_below = b.below;
        notes_are = b.notes;
        there = there;
        lock_is = b.lock_is;
        may_put = record {
          cpu = b.begun;
          told_is = ap in_bucket turn.left ∙ ap (content_after t.shape q.cpu (parts.Bucket part)) found;
          fits = subst (λ (d : DomainId). FitsLock t.shape d (contents.Bucket chain)) (sym named) b.sized;
          allowed = subst (Allows t.shape q.cpu (parts.Bucket part)) found turn.allowed;
          same_free = λ e. ap (times e) (sym (ap (λ (l : Lists). l.free) b.now));
          same_rows = λ e. ap (times e) (append_nil (numbers chain.bodies)) ∙ rows_taken b e;
          rows_kept = λ _ j e h n other _ _ _ _ is_row. absurd (none_stored t.shape (Bucket bucket) (contents.Bucket chain) e n tt b.sized is_row);
          gone = λ _ c e h is_local _ _. absurd (not_local bucket c (sym named ∙ is_local));
        };
        inside = probes_nothing t.shape part [] (probes_none (parts.Bucket part) is);
        notes_fit = none_noted t.shape q.view b.hold part is;
        owners_fit = λ _. record {
          changes = λ e owner. ap (λ (steps : List Step). owner_by steps e owner) (sym (steps_none t.shape (lock_named t.shape b.hold.lock) q.cpu (parts.Bucket part) is));
          probed = λ e holder same. absurd (none_probed (sym (probes_none (parts.Bucket part) is) ∙ ap probes_in same));
        };
      }

  pub may_give : (found : Option Part) → IfSome found (λ x. x ≡ parts.Bucket part) → MayGiveBack t (Bucket bucket) q (contents.Bucket chain) found
  may_give None same = (parts.Bucket part, can_give)
  may_give (Some x) same = subst (CanGive t (Bucket bucket) q (contents.Bucket chain)) (sym same) can_give

  -- what is told of it is so
  tells : (n : ℕ) (hold : Hold) (other : Part) → hold ≡ can_give.hold → TellsTurn t.shape (given_turn q n hold other) (parts.Bucket part)
  tells n hold other same = tells_turn can_give n hold other same (clears_noted can_give.notes) refl

  -- two parts that could be given at once: the turn of the one could be that of the other
  could_be : (n : ℕ) (stands : Part) (other : CanGive t (Bucket bucket) q (contents.Bucket chain) stands) → CouldBe t.shape (given_turn q n other.hold stands) (given_turn q n can_give.hold (parts.Bucket part))
  could_be n stands other =
      let same : can_give.hold ≡ other.hold = same_head (sym can_give.innermost ∙ other.innermost) in
      let notes : can_give.notes ≡ other.notes = same_head (sym can_give.notes_are ∙ other.notes_are) in
      record {
        lock = ap (λ (h : Hold). h.lock) same;
        earlier = ap (λ (h : Hold). h.log) same;
        cpu = refl;
        call = refl;
        moment = refl;
        allowed = subst (λ (h : Hold). Allows t.shape q.cpu (parts.Bucket part) (content t.shape (lock_named t.shape h.lock) h.log)) same can_give.may_put.allowed;
        same_marks = sym can_give.notes_fit.marks_are ∙ (ap (λ (n : Notes). n.marks) notes ∙ other.notes_fit.marks_are);
        same_clears = same_clears t.shape q.view q.view can_give.hold other.hold (parts.Bucket part) stands other.notes (subst (NotesFit t.shape q.view can_give.hold (parts.Bucket part)) notes can_give.notes_fit) other.notes_fit;
        leaves = sym (subst (λ (h : Hold). content_told (lock_named t.shape h.lock) (contents.Bucket chain) ≡ content_after t.shape q.cpu (parts.Bucket part) (content t.shape (lock_named t.shape h.lock) h.log)) same can_give.may_put.told_is) ∙ other.may_put.told_is;
      }

  module _ {p s : PassView} (none_held : p.view.held ≡ []) (took : TookLock t (Bucket bucket) p q (contents.Bucket chain)) where
    looks_by : (stands : Part) (lost : List ℕ) (n : ℕ) (taken : TookTicket q.view) (at : ℕ) (kept : List StrandStep) (can : CanGive t (Bucket bucket) q (contents.Bucket chain) stands) → Goes q s (given_turn q n can.hold stands ∷ []) lost
        → s ≡ with_view q (with_lost (lost ++ q.view.lost) (given at can.hold (entry_of q n stands) kept (ready q.view taken))) → IsTold t.shape lost (given_turn q n can.hold stands) (given_turn q n can_give.hold (parts.Bucket part)) → LooksInto t bucket p s part
    looks_by stands lost n taken at kept can goes s_is is_told =
        let hold_is : can.hold ≡ b.hold = same_head (sym can.innermost ∙ b.held) in
        let step : Turned = given_turn q n can.hold stands in
        let gave : Learns t.shape q.view s.view (step ∷ []) [] =
        learns_gave t (Bucket bucket) q (contents.Bucket chain) n stands s.view can
        (subst (λ (h : Hold). IsLegal t.shape (Bucket bucket) h.log) (sym hold_is) b.legal)
        (λ has log known. ap (λ (h : Hold). h.log) hold_is ∙ b.known log (ap (λ (k : ℕ). known_log k q.view.known) b.lock_is ∙ known))
        (ap (λ (z : PassView). z.view.known) s_is) (ap (λ (z : PassView). z.view.bits) s_is) (ap (λ (z : PassView). z.view.cpus) s_is) (ap (λ (z : PassView). z.view.shape) s_is) in
        record {
          step = step;
          told = given_turn q n can_give.hold (parts.Bucket part);
          lost = lost;
          looked = record {
            told_are = (is_told, tt);
            are_looks = (is, tt);
            went = record {
              made = record {
                goes = subst (Goes p s (step ∷ [])) (append_nil lost) (goes_on p q s [] (step ∷ []) [] lost (goes_took t (Bucket bucket) p q (contents.Bucket chain) took) goes);
                held = ap (λ (z : PassView). z.view.held) s_is ∙ (ap holds_below b.held ∙ sym none_held);
                notes = ap (λ (z : PassView). z.view.notes) s_is
                    ∙ (none_passed t (Bucket bucket) q (contents.Bucket chain) stands (not_global bucket) can (ap (λ (z : Notes). z.owners) (same_head (sym can.notes_are ∙ b.notes)))
                    ∙ ap (λ (z : PassView). notes_below z.view.notes) took.after_is);
              };
              spares = ap (λ (z : PassView). z.spares) s_is ∙ ap (λ (z : PassView). z.spares) took.after_is;
              hand = ap (λ (z : PassView). z.view.hand) s_is ∙ ap (λ (z : PassView). z.view.hand) took.after_is;
              carried = ap (λ (z : PassView). z.view.carried) s_is ∙ ap (λ (z : PassView). z.view.carried) took.after_is;
            };
            by_call = All-cons (IsBy p.cpu p.call) step [] (ap (λ (z : PassView). z.cpu) took.after_is, ap (λ (z : PassView). z.call) took.after_is) (All-nil (IsBy p.cpu p.call));
            bits = ap (λ (z : PassView). z.view.bits) s_is ∙ ap (λ (z : PassView). z.view.bits) took.after_is;
            learns = learns_after t.shape p.view q.view s.view (step ∷ []) [] (learns_took t (Bucket bucket) p q (contents.Bucket chain) took) gave;
          };
          turn = (λ i. on_lock (named i) (parts.Bucket part));
        }
      where
        named : lock_named t.shape can_give.hold.lock ≡ Bucket bucket
        named = ap (lock_named t.shape) can_give.lock_is ∙ named_by_number t.shape (Bucket bucket) there

    -- whether memory for the entry was found or not
    pub looks : (found : Option Part) → IfSome found (λ x. x ≡ parts.Bucket part) → GaveBack t (Bucket bucket) q s (contents.Bucket chain) found → LooksInto t bucket p s part
    looks None same gave =
        looks_by gave.part (gave.can.hold.lock ∷ []) (ticket_of (ready q.view gave.took)) gave.took gave.at q.view.kept gave.can (goes_gave_some t (Bucket bucket) q s (contents.Bucket chain) gave) gave.after_is (
          inr (among_first gave.can.hold.lock [], could_be (ticket_of (ready q.view gave.took)) gave.part gave.can),
          tells (ticket_of (ready q.view gave.took)) gave.can.hold gave.part (same_head (sym gave.can.innermost ∙ can_give.innermost)),
        )
    looks (Some x) same gave =
        let hold_is : gave.hold ≡ can_give.hold = same_head (sym gave.innermost ∙ can_give.innermost) in
        let recorded : Goes q s (given_turn q gave.ticket can_give.hold (parts.Bucket part) ∷ []) [] = subst (λ (z : Hold × Part). Goes q s (given_turn q gave.ticket z.0 z.1 ∷ []) []) (λ i. (hold_is i, same i)) (goes_gave q s x gave) in
        looks_by (parts.Bucket part) [] gave.ticket gave.took gave.at gave.kept can_give recorded (gave.after_is ∙ (λ i. with_view q (given gave.at (hold_is i) (entry_of q gave.ticket (same i)) gave.kept (ready q.view gave.took)))) (inl refl, tells gave.ticket can_give.hold (parts.Bucket part) refl)
