-- Calls for bits and probes over a pass, and then more of them.
use Rattle.std.proofs.Common.{◌≡◌, ℕ, List, [], ◌∷◌, ◌++◌, map, sym, refl, ap, ◌∙◌, subst}
use Rattle.std.proofs.lemmas.List.{map-append}
use Rattle.map_types.specs.declared.attr.Shape.{Shape}
use Rattle.map_types.specs.declared.row.Row.{Row}
use Rattle.place_table.specs.declared.view.BitAsked.{BitAsked}
use Rattle.place_table.specs.declared.view.Hold.{Hold}
use Rattle.place_table.specs.declared.view.InHand.{InHand}
use Rattle.place_table.specs.declared.view.Notes.{Notes}
use Rattle.place_table.specs.declared.view.OwnerSeen.{OwnerSeen}
use Rattle.place_table.specs.declared.view.Turned.{Turned}
use Rattle.place_table.specs.Known.{Learns}
use Rattle.place_table.specs.Passes.{PassView, TableView}
use Rattle.place_table.proofs.Going.{goes_on, goes_nowhere, same_head, learns_on, learns_none}
use Rattle.lru_lists.specs.declared.bits.BitCall.{BitCall}
use Rattle.lru_lists.specs.declared.bits.ProbeCall.{ProbeCall}
use Rattle.lru_ops.specs.declared.probing.Destination.{Destination}
use Rattle.lru_ops.specs.Askings.{asked_by, asked_after, owners_with, owners_after, notes_after, changed_with, changed_after, came_with, came_after, held_after, taken_after, touch_by, AreEvicts, Does}
use Rattle.lru_ops.specs.Evictions.{held_with, taken_with}
use Rattle.lru_ops.proofs.Holders.{saw_on, saw_nothing}

-- nothing yet
pub does_nothing : (t : TableView) (to : Destination) (rows : List Row) (p : PassView) (notes : Notes) (below : List Notes) → p.view.notes ≡ notes ∷ below → Does t to rows [] [] p p
does_nothing t to rows p notes below are = record {
  turns = [];
  goes = goes_nowhere p;
  held = refl;
  notes = notes;
  below = below;
  was_noted = are;
  noted = are;
  carried = refl;
  hand = refl;
  spares = refl;
  are_evicts = tt;
  saw = saw_nothing t.shape p;
  learns = learns_none t.shape p.view;
}

pub asked_append : (first second : List BitCall) (asked : List BitAsked) → asked_after (first ++ second) asked ≡ asked_after second (asked_after first asked)
asked_append [] second asked = refl
asked_append (call ∷ first) second asked = asked_append first second (asked_by call ∷ asked)

changed_append : (to : Destination) (first second : List ProbeCall) (changed : List OwnerSeen) → changed_after to (first ++ second) changed ≡ changed_after to second (changed_after to first changed)
changed_append to [] second changed = refl
changed_append to (probe ∷ first) second changed = changed_append to first second (changed_with to probe.element probe.probed changed)

owners_append : (first second : List ProbeCall) (owners : List OwnerSeen) → owners_after (first ++ second) owners ≡ owners_after second (owners_after first owners)
owners_append [] second owners = refl
owners_append (probe ∷ first) second owners = owners_append first second (owners_with probe.element probe.probed owners)

held_append : (to : Destination) (first second : List ProbeCall) (held : List Hold) → held_after to (first ++ second) held ≡ held_after to second (held_after to first held)
held_append to [] second held = refl
held_append to (probe ∷ first) second held = held_append to first second (held_with to probe.element probe.probed held)

came_append : (to : Destination) (first second : List ProbeCall) (notes : List Notes) → came_after to (first ++ second) notes ≡ came_after to second (came_after to first notes)
came_append to [] second notes = refl
came_append to (probe ∷ first) second notes = came_append to first second (came_with to probe.element probe.probed notes)

taken_append : (to : Destination) (cpu : ℕ) (first second : List ProbeCall) (hand : List InHand) → taken_after to cpu (first ++ second) hand ≡ taken_after to cpu second (taken_after to cpu first hand)
taken_append to cpu [] second hand = refl
taken_append to cpu (probe ∷ first) second hand = taken_append to cpu first second (taken_with to cpu probe.element probe.probed hand)

evicts_append : (shape : Shape) (cpu call : ℕ) (rows : List Row) (first second : List ProbeCall) (turns more : List Turned) → AreEvicts shape cpu call rows first turns → AreEvicts shape cpu call rows second more → AreEvicts shape cpu call rows (first ++ second) (turns ++ more)
evicts_append shape cpu call rows [] second [] more are others = others
evicts_append shape cpu call rows [] second (turn ∷ turns) more are others = absurd are
evicts_append shape cpu call rows (probe ∷ first) second [] more are others = absurd are
evicts_append shape cpu call rows (probe ∷ first) second (turn ∷ turns) more are others = (are.0, are.1, evicts_append shape cpu call rows first second turns more are.2 others)

pub same_rest : {A : Type 0} {x y : A} {xs ys : List A} → x ∷ xs ≡ y ∷ ys → xs ≡ ys
same_rest e = cc

pub does_on : {t : TableView} {to : Destination} {rows : List Row} {calls more_calls : List BitCall} {probes more_probes : List ProbeCall} {p q r : PassView} → Does t to rows calls probes p q → Does t to rows more_calls more_probes q r → Does t to rows (calls ++ more_calls) (probes ++ more_probes) p r
does_on {t} {to} {rows} {calls} {more_calls} {probes} {more_probes} {p} {q} {r} a b =
    let between : b.notes ∷ b.below ≡ notes_after to calls probes a.notes ∷ came_after to probes a.below = sym b.was_noted ∙ a.noted in
    let notes : b.notes ≡ notes_after to calls probes a.notes = same_head between in
    let below : b.below ≡ came_after to probes a.below = same_rest between in
    record {
      turns = a.turns ++ b.turns;
      goes = goes_on p q r a.turns b.turns [] [] a.goes b.goes;
      held = b.held ∙ (ap (held_after to more_probes) a.held ∙ sym (held_append to probes more_probes p.view.held));
      notes = a.notes;
      below = a.below;
      was_noted = a.was_noted;
      noted = b.noted
          ∙ ((λ i. notes_after to more_calls more_probes (notes i) ∷ came_after to more_probes (below i))
          ∙ (λ i. record a.notes { asked = sym (asked_append calls more_calls a.notes.asked) i; owners = sym (owners_append probes more_probes a.notes.owners) i; changed = sym (changed_append to probes more_probes a.notes.changed) i } ∷ sym (came_append to probes more_probes a.below) i));
      carried = b.carried ∙ ((λ i. taken_after to (a.goes.cpu i) more_probes (a.carried i)) ∙ sym (taken_append to p.cpu probes more_probes p.view.carried));
      hand = b.hand ∙ ((λ i. taken_after to (a.goes.cpu i) more_probes (a.hand i)) ∙ sym (taken_append to p.cpu probes more_probes p.view.hand));
      spares = b.spares ∙ a.spares;
      are_evicts = evicts_append t.shape p.cpu p.call rows probes more_probes a.turns b.turns a.are_evicts (subst (λ (z : ℕ × ℕ). AreEvicts t.shape z.0 z.1 rows more_probes b.turns) (λ i. (a.goes.cpu i, a.goes.call i)) b.are_evicts);
      saw = saw_on t.shape p q r a.turns b.turns a.saw b.saw;
      learns = subst (Learns t.shape p.view r.view (a.turns ++ b.turns)) (sym (map-append touch_by calls more_calls)) (learns_on t.shape p.view q.view r.view a.turns b.turns (map touch_by calls) (map touch_by more_calls) a.learns b.learns);
    }
