-- From the turns of a call to what it leaves: turns one after another, and the end of the call.
use Rattle.std.proofs.Common.{◌≡◌, ℕ, cond, true, false, List, [], ◌∷◌, ◌++◌, map, sym, refl, ap, ◌∙◌, subst, Option}
use Rattle.std.specs.Prelude.{IsTrue, IsFalse, All, flat_map, MatchBool}
use Rattle.std.proofs.lemmas.Grind.{flat_map-append}
use Rattle.std.proofs.lemmas.List.Elements.{All-nil, All-cons, All-append}
use Rattle.map_types.specs.declared.attr.Shape.{Shape}
use Rattle.map_types.specs.declared.call.Verb.{Verb}
use Rattle.map_types.specs.declared.kind.DomainId.TheVariants.{Bucket}
use Rattle.map_types.specs.declared.kind.MapKind.{MapKind}
use Rattle.map_types.specs.declared.kind.MapKind.TheVariants.{Hash}
use Rattle.map_types.specs.declared.reply.Reply.{Reply}
use Rattle.map_types.specs.Kind.{is_lru}
use Rattle.percpu_values.specs.BodyList.{BodyList}
use Rattle.place_words.specs.declared.bucket_part.BucketPart.{BucketPart}
use Rattle.place_words.specs.declared.history.Part.TheVariants as parts
use Rattle.place_words.specs.Evicting.{IsEvictingTrace}
use Rattle.place_words.specs.PlainTraces.{IsPlainTrace, spare_after}
use Rattle.place_words.specs.Turns.{TurnAt, Turn, turns_of}
use Rattle.place_words.specs.Traces.{IsTrace}
use Rattle.place_words.specs.Walks.{IsKeyTrace}
use Rattle.place_table.specs.declared.content.Content.TheVariants as contents
use Rattle.place_table.specs.declared.view.InHand.{InHand}
use Rattle.place_table.specs.declared.view.Turned.{Turned}
use Rattle.place_table.specs.Calls.{CanCall, Called, Leaves, bits_of_part, bits_of_turns, finds_moved_on, spare_element, element_of}
use Rattle.place_table.specs.Known.{BitTouch, Learns, turn_at, IsBy, logs_after}
use Rattle.place_table.specs.Passes.{PassView, TableView, IsInNoCall, Goes, spare_of}
use Rattle.place_table.specs.Views.{is_among, is_in_hand_of, notes_below}
use Rattle.place_table.proofs.Entries.{append_nil}
use Rattle.place_table.proofs.Going.{goes_on, goes_took, made_on, learns_on, learns_after, learns_took, learns_all}
use Rattle.place_table.proofs.Worlds.{true_false, by_bool}
use Rattle.place_table.proofs.TurnsOn.{among_behind, among_before, told_where, told_append}
use Rattle.lru_ops.specs.Lists.{Changed}
use Rattle.lru_ops.specs.Shared.{ChangedHands}
use Rattle.lru_ops.specs.Under.{Enters, GivenBack}

-- Turns one after another

abbrev bits_at : Shape → Turned → List BitTouch
bits_at shape step = bits_of_part shape step.entry.part

pub bits_append : (shape : Shape) (first second : List Turned) → bits_of_turns shape (first ++ second) ≡ bits_of_turns shape first ++ bits_of_turns shape second
bits_append shape first second =
    by_bool (is_lru shape.kind)
    (λ b. cond b (flat_map (bits_at shape) (first ++ second)) [] ≡ cond b (flat_map (bits_at shape) first) [] ++ cond b (flat_map (bits_at shape) second) [])
    (λ _. flat_map-append (bits_at shape) first second) (λ _. refl)

-- where what is in hand and what is carried may have changed
pub hands_on : {t : TableView} {p q r : PassView} {first second told others : List Turned} {lost more : List ℕ} → ChangedHands t p q first told lost → ChangedHands t q r second others more → ChangedHands t p r (first ++ second) (told ++ others) (more ++ lost)
hands_on {t} {p} {q} {r} {first} {second} {told} {others} {lost} {more} a b = record {
  told_are = told_append t.shape (more ++ lost) first second told others (told_where t.shape lost (more ++ lost) (λ n. among_behind n more lost) first told a.told_are) (told_where t.shape more (more ++ lost) (λ n. among_before n more lost) second others b.told_are);
  made = made_on p q r first second lost more a.made b.made;
  by_call = All-append (IsBy p.cpu p.call) first second a.by_call (subst (λ (z : ℕ × ℕ). All (IsBy z.0 z.1) second) (λ i. (a.made.goes.cpu i, a.made.goes.call i)) b.by_call);
  spares = b.spares ∙ a.spares;
  learns = subst (Learns t.shape p.view r.view (first ++ second)) (sym (bits_append t.shape told others))
      (learns_on t.shape p.view q.view r.view first second (bits_of_turns t.shape told) (bits_of_turns t.shape others) a.learns b.learns);
  none_moved = λ common logs knows.
      All-append (λ (turn : Turned). IsFalse (finds_moved_on turn.entry.part)) told others (a.none_moved common logs knows)
      (b.none_moved common (logs_after logs first) (learns_all t.shape p.view q.view logs first (bits_of_turns t.shape told) a.learns knows).1);
}

changed_hands : {t : TableView} {p q : PassView} {steps told : List Turned} {lost : List ℕ} → Changed t p q steps told lost → ChangedHands t p q steps told lost
changed_hands c = record {
  told_are = c.told_are;
  made = c.made;
  by_call = c.by_call;
  spares = c.spares;
  learns = c.learns;
  none_moved = c.none_moved;
}

-- where nothing was carried otherwise, no more than the hand has changed
pub changed_all : {t : TableView} {p q : PassView} {steps told : List Turned} {lost : List ℕ} → ChangedHands t p q steps told lost → q.view.carried ≡ p.view.carried → Changed t p q steps told lost
changed_all c carried = record {
  told_are = c.told_are;
  made = c.made;
  by_call = c.by_call;
  spares = c.spares;
  carried = carried;
  learns = c.learns;
  none_moved = c.none_moved;
}

pub changed_on : {t : TableView} {p q r : PassView} {first second told others : List Turned} {lost more : List ℕ} → Changed t p q first told lost → Changed t q r second others more → Changed t p r (first ++ second) (told ++ others) (more ++ lost)
changed_on a b = changed_all (hands_on (changed_hands a) (changed_hands b)) (b.carried ∙ a.carried)

-- a bucket's turn, from its take
pub changed_given : {t : TableView} {bucket : ℕ} {p q s : PassView} {chain : BodyList} {part : BucketPart} {hand : List InHand} → p.view.held ≡ [] → Enters t bucket p q chain → (given : GivenBack t bucket q s (parts.Bucket part) hand) → Changed t p s (given.step ∷ []) (given.told ∷ []) given.lost
changed_given {t} {bucket} {p} {q} {s} {chain} {part} {hand} none_held enters given =
    let took = enters.took in
    record {
      told_are = (given.is_told, tt);
      made = record {
        goes = subst (Goes p s (given.step ∷ [])) (append_nil given.lost) (goes_on p q s [] (given.step ∷ []) [] given.lost (goes_took t (Bucket bucket) p q (contents.Bucket chain) took) given.goes);
        held = given.held ∙ sym none_held;
        notes = given.notes ∙ ap (λ (z : PassView). notes_below z.view.notes) took.after_is;
      };
      by_call = All-cons (IsBy p.cpu p.call) given.step [] (subst (λ (z : PassView). IsBy z.cpu z.call given.step) took.after_is given.by_call) (All-nil (IsBy p.cpu p.call));
      spares = given.spares ∙ ap (λ (z : PassView). z.spares) took.after_is;
      carried = given.carried ∙ ap (λ (z : PassView). z.view.carried) took.after_is;
      learns = learns_after t.shape p.view q.view s.view (given.step ∷ []) (bits_of_turns t.shape (given.told ∷ [])) (learns_took t (Bucket bucket) p q (contents.Bucket chain) took) given.learns;
      none_moved = λ _ _ _. All-cons (λ (turn : Turned). IsFalse (finds_moved_on turn.entry.part)) given.told [] (ap (λ (turn : Turn). finds_moved_on turn.part) given.turn) (All-nil (λ (turn : Turned). IsFalse (finds_moved_on turn.entry.part)));
    }

-- Hands

-- a map that evicts has no spares
no_hash : (kind : MapKind) → is_lru kind ≡ true → kind ≡ Hash → ⊥
no_hash kind lru is = true_false (sym lru ∙ ap is_lru is)

-- so between calls nothing is in hand
pub in_no_hand : {t : TableView} {p : PassView} → CanCall t p → IsTrue (is_lru t.shape.kind) → (e cpu : ℕ) → is_among cpu p.view.cpus ≡ true → is_in_hand_of e cpu p.view.hand ≡ false
in_no_hand {t} {p} can lru e cpu has =
    by_bool (is_in_hand_of e cpu p.view.hand) (λ z. z ≡ false)
    (λ in_hand. absurd (no_hash p.view.shape.kind (ap (λ (s : Shape). is_lru s.kind) can.of_table.1 ∙ lru) (can.in_no_call.spares_only e cpu has in_hand).3)) (λ _. refl)

-- Calls

-- a pass whose hands hold the same, and whose spares are the same, is in no call
idle_again : {t : TableView} {p s : PassView} {steps told : List Turned} {lost : List ℕ} → CanCall t p → Changed t p s steps told lost → ((e c : ℕ) → is_in_hand_of e c s.view.hand ≡ is_in_hand_of e c p.view.hand) → IsInNoCall s
idle_again {t} {p} {s} {steps} {told} {lost} can changed hand =
    let goes = changed.made.goes in
    let idle = can.in_no_call in record {
      holds_nothing = changed.made.held ∙ idle.holds_nothing;
      spares_only = λ e cpu mine in_hand.
          let x = idle.spares_only e cpu (ap (is_among cpu) (sym goes.cpus) ∙ mine) (sym (hand e cpu) ∙ in_hand) in
          (x.0, ap (spare_of cpu) changed.spares ∙ x.1, x.2, ap (λ (z : Shape). z.kind) goes.shape ∙ x.3);
      spares_in_hand = λ cpu body kept. hand body.element cpu ∙ idle.spares_in_hand cpu body (ap (spare_of cpu) (sym changed.spares) ∙ kept);
      none_out = λ kind cpu mine.
          let x = idle.none_out (ap (λ (z : Shape). z.kind) (sym goes.shape) ∙ kind) cpu (ap (is_among cpu) (sym goes.cpus) ∙ mine) in
          (x.0, ap (spare_of cpu) changed.spares ∙ x.1);
      carries_nothing = changed.carried ∙ idle.carries_nothing;
    }

-- what a call leaves whose turns these are
pub leaves_changed : {t : TableView} {p s : PassView} {steps told : List Turned} {lost : List ℕ} → CanCall t p → IsTrue (is_lru t.shape.kind) → Changed t p s steps told lost → ((e c : ℕ) → is_in_hand_of e c s.view.hand ≡ is_in_hand_of e c p.view.hand)
    → Leaves t p s steps lost (bits_of_turns t.shape told)
leaves_changed {t} {p} {s} {steps} {told} {lost} can lru changed hand = record {
  made = changed.made;
  in_no_call = idle_again can changed hand;
  by_call = changed.by_call;
  other_spares = λ other _. ap (spare_of other) changed.spares;
  bits = λ plain. absurd (true_false (sym lru ∙ plain));
  learns = changed.learns;
}

-- a call on one key whose turns are such a trace
abbrev pub called_changed : {t : TableView} {p s : PassView} {steps told : List Turned} {lost : List ℕ} (verb : Verb) (reply : Reply) → CanCall t p → IsTrue (is_lru t.shape.kind) → Changed t p s steps told lost → ((e c : ℕ) → is_in_hand_of e c s.view.hand ≡ is_in_hand_of e c p.view.hand)
    → IsTrace t.shape p.cpu (spare_element p) verb (map (turn_at t.shape) told) reply → Called t p s verb reply
called_changed {t} {p} {s} {steps} {told} {lost} verb reply can lru changed hand trace = record {
  steps = steps;
  lost = lost;
  told = told;
  told_are = changed.told_are;
  leaves = leaves_changed can lru changed hand;
  trace = trace;
  none_moved = changed.none_moved;
  spare = (λ i. element_of (spare_of (changed.made.goes.cpu i) (changed.spares i))) ∙ sym (ap (λ b. cond b (spare_element p) (spare_after (spare_element p) (turns_of (map (turn_at t.shape) told)))) lru);
}

-- the turns of a call on one key of a map that evicts
pub trace_here : (shape : Shape) (cpu : ℕ) (spare : Option ℕ) (verb : Verb) (turns : List TurnAt) (reply : Reply) → IsTrue (is_lru shape.kind) → IsEvictingTrace shape cpu verb turns reply → IsKeyTrace shape cpu spare verb turns reply
trace_here shape cpu spare verb turns reply lru trace =
    subst (λ b. MatchBool b (IsEvictingTrace shape cpu verb turns reply) (IsPlainTrace shape cpu spare verb (turns_of turns) reply)) (sym lru) trace

-- the map of a call
pub lru_of : (inside t : TableView) → inside ≡ t → IsTrue (is_lru inside.shape.kind) → IsTrue (is_lru t.shape.kind)
lru_of inside t is lru = subst (λ (z : TableView). IsTrue (is_lru z.shape.kind)) is lru
