-- What a walk over the own set leaves of a pass that holds its lock alone.
use Rattle.std.proofs.Common.{◌≡◌, ℕ, cond, List, [], ◌∷◌, map, sym, refl, ap, ◌∙◌, Some, None}
use Rattle.map_types.specs.declared.row.Row.{Row}
use Rattle.map_types.proofs.RowLemmas.{by_test}
use Rattle.place_words.specs.declared.bucket_part.Seen.{Seen}
use Rattle.place_words.specs.declared.bucket_part.Seen.TheVariants.{Removed, Held}
use Rattle.place_words.specs.declared.step.Lists.{Lists}
use Rattle.place_table.specs.declared.view.Hold.{Hold}
use Rattle.place_table.specs.declared.view.InHand.{InHand}
use Rattle.place_table.specs.declared.view.Notes.{Notes}
use Rattle.place_table.specs.declared.view.Turned.{Turned}
use Rattle.place_table.specs.Known.{Learns}
use Rattle.place_table.specs.Passes.{PassView, TableView, Goes}
use Rattle.place_table.specs.Views.{hold_at, with_now, hold_with}
use Rattle.place_table.proofs.Worlds.{some_is, none_some}
use Rattle.lru_lists.specs.declared.bits.BitCall.{BitCall}
use Rattle.lru_lists.specs.declared.bits.ProbeCall.{ProbeCall}
use Rattle.lru_ops.specs.declared.probing.Destination.TheVariants.{OwnFree}
use Rattle.lru_ops.specs.Askings.{notes_after, came_after, held_after, lists_after, touch_by, AreEvicts, Does}
use Rattle.lru_ops.specs.Evictions.{SawHolders, lists_with, taken_with}
use Rattle.lru_ops.proofs.Asked.{held_first, taken_none}

-- the one lock that is held
pub hold_at_only : (k : ℕ) (hold x : Hold) → hold_at k (hold ∷ []) ≡ Some x → (hold.lock ≡ k) × (hold ≡ x)
hold_at_only k hold x is =
    by_test hold.lock k (λ b. cond b (Some hold) None ≡ Some x → (hold.lock ≡ k) × (hold ≡ x)) (λ same f. (same, some_is f)) (λ _ f. absurd (none_some f)) is

pub now_first : (k : ℕ) (now : Lists) (hold : Hold) → k ≡ hold.lock → with_now k now (hold ∷ []) ≡ hold_with hold now ∷ []
now_first k now hold is = by_test hold.lock k (λ b. cond b (hold_with hold now ∷ []) (hold ∷ []) ≡ hold_with hold now ∷ []) (λ _. refl) (λ other. absurd (other (sym is)))

-- under it
own_held : (probes : List ProbeCall) (hold : Hold) → held_after OwnFree probes (hold ∷ []) ≡ hold_with hold (lists_after probes hold.now) ∷ []
own_held [] hold = refl
own_held (probe ∷ probes) hold =
    ap (held_after OwnFree probes) (held_first OwnFree probe.element probe.probed hold [])
    ∙ own_held probes (hold_with hold (lists_with probe.element probe.probed hold.now))

own_came : (probes : List ProbeCall) (below : List Notes) → came_after OwnFree probes below ≡ below
own_came [] below = refl
own_came (probe ∷ probes) below = own_came probes below

own_taken : (cpu e : ℕ) (seen : Seen) (hand : List InHand) → taken_with OwnFree cpu e seen hand ≡ hand
own_taken cpu e Removed hand = refl
own_taken cpu e (Held holder) hand = refl

-- What was removed is free under that lock. The hand and what is carried are as before.
pub record DidOwn (t : TableView) (rows : List Row) (calls : List BitCall) (probes : List ProbeCall) (before after : PassView) (hold : Hold) : Type 0 where
  pub turns : List Turned
  pub goes : Goes before after turns []
  pub was : before.view.held ≡ hold ∷ []
  pub held : after.view.held ≡ hold_with hold (lists_after probes hold.now) ∷ []
  pub notes : Notes
  pub below : List Notes
  pub was_noted : before.view.notes ≡ notes ∷ below
  pub noted : after.view.notes ≡ notes_after OwnFree calls probes notes ∷ below
  pub carried : after.view.carried ≡ before.view.carried
  pub hand : after.view.hand ≡ before.view.hand
  pub spares : after.spares ≡ before.spares
  pub are_evicts : AreEvicts t.shape before.cpu before.call rows probes turns
  pub saw : SawHolders t.shape before after turns
  pub learns : Learns t.shape before.view after.view turns (map touch_by calls)

pub did_own : {t : TableView} {rows : List Row} {calls : List BitCall} {probes : List ProbeCall} {before after : PassView} (hold : Hold) → before.view.held ≡ hold ∷ [] → Does t OwnFree rows calls probes before after → DidOwn t rows calls probes before after hold
did_own {t} {rows} {calls} {probes} {before} {after} hold was d = record {
  turns = d.turns;
  goes = d.goes;
  was = was;
  held = d.held ∙ (ap (held_after OwnFree probes) was ∙ own_held probes hold);
  notes = d.notes;
  below = d.below;
  was_noted = d.was_noted;
  noted = d.noted ∙ ap (λ (l : List Notes). notes_after OwnFree calls probes d.notes ∷ l) (own_came probes d.below);
  carried = d.carried ∙ taken_none OwnFree own_taken before.cpu probes before.view.carried;
  hand = d.hand ∙ taken_none OwnFree own_taken before.cpu probes before.view.hand;
  spares = d.spares;
  are_evicts = d.are_evicts;
  saw = d.saw;
  learns = d.learns;
}
