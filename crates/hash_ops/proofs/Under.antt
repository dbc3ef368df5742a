-- A call from where it takes the bucket of its key to where it has given it back: what it enters with, what its turns tell, and what
-- it leaves.
use Rattle.std.proofs.Common.{◌≡◌, ℕ, cond, true, false, List, [], ◌∷◌, ◌++◌, map, ⊎_elim, sym, refl, ap, ◌∙◌, subst, Option}
use Rattle.std.specs.Prelude.{flat_map, All}
use Rattle.map_types.specs.declared.attr.Shape.{Shape}
use Rattle.map_types.specs.declared.call.Verb.{Verb}
use Rattle.map_types.specs.declared.kind.DomainId.TheVariants.{Bucket}
use Rattle.map_types.specs.declared.reply.Reply.{Reply}
use Rattle.map_types.specs.Creation.{IsShape}
use Rattle.map_types.specs.Kind.{is_lru}
use Rattle.percpu_values.specs.BodyList.{BodyList}
use Rattle.map_types.proofs.CreationLemmas.{bounds_of_shape}
use Rattle.place_words.specs.declared.bucket_part.BucketPart.{BucketPart}
use Rattle.place_words.specs.declared.history.Part.TheVariants as parts
use Rattle.place_words.specs.Locks.{lock_number}
use Rattle.place_words.specs.Traces.{Turn, IsTrace, IsPlainTrace, bucket_of_key, on_bucket_of, spare_after}
use Rattle.place_words.specs.Turns.{turns_of}
use Rattle.place_words.specs.Walks.{spare_left}
use Rattle.place_words.proofs.PlainLaws.{plain_trace, plain_spare}
use Rattle.place_table.specs.declared.content.Content.TheVariants as contents
use Rattle.place_table.specs.declared.view.View.{View}
use Rattle.place_table.specs.declared.view.Turned.{Turned}
use Rattle.place_table.specs.Known.{turn_of, turn_at, IsBy}
use Rattle.place_table.specs.Passes.{PassView, TableView, IsInNoCall, SparesDiffer, TookLock, Goes, spare_of}
use Rattle.place_table.specs.Views.{is_among, is_in_hand_of, holding, notes_below}
use Rattle.place_table.proofs.Going.{goes_on, goes_took, learns_after, learns_took}
use Rattle.place_table.proofs.Entries.{append_nil}
use Rattle.place_table.specs.Calls.{bits_of_part, bits_of_turns}
use Rattle.place_table.proofs.TurnsOn.{told_append, told_where}
use Rattle.hash_ops.specs.Calls.{CanCall, Leaves, Called, CalledOn, CouldBe, IsTold, AreTold, LosesAtMost, spare_element}
use Rattle.place_table.specs.BucketTurns.{Entered}
use Rattle.hash_ops.specs.Under.{HasItsSpares, Enters, LeftBucket, Answered, AnsweredAt}
use Rattle.place_table.proofs.Worlds.{true_false}
use Rattle.place_table.proofs.FirstSlots.{not_common}

-- Entering

-- a pass in no call, of a map that doesn't evict, whose CPUs share no lists
pub enters : {t : TableView} {bucket : ℕ} {p q : PassView} {chain : BodyList} → is_lru t.shape.kind ≡ false → t.shape.common ≡ false → CanCall t p → Entered t bucket p q chain → Enters t bucket p q chain
enters {t} {bucket} {p} {q} {chain} plain none_shared can entered =
    let took = entered.took in
    let view : q.view ≡ holding took.at took.hold p.view = ap (λ (z : PassView). z.view) took.after_is in
    record {
      plain = plain;
      none_shared = none_shared;
      took = took;
      inside = entered.inside;
      spares = record {
        holds_nothing = refl;
        spares_only = λ e cpu has in_hand.
            let x = can.in_no_call.spares_only e cpu (ap (λ (v : View). is_among cpu v.cpus) (sym view) ∙ has) (ap (λ (v : View). is_in_hand_of e cpu v.hand) (sym view) ∙ in_hand) in
            (x.0, ap (λ (z : PassView). spare_of cpu z.spares) took.after_is ∙ x.1, x.2, ap (λ (v : View). v.shape.kind) view ∙ x.3);
        spares_in_hand = λ cpu body kept. ap (λ (v : View). is_in_hand_of body.element cpu v.hand) view ∙ can.in_no_call.spares_in_hand cpu body (ap (λ (z : PassView). spare_of cpu z.spares) (sym took.after_is) ∙ kept);
        none_out = λ kind cpu has.
            let x = can.in_no_call.none_out (ap (λ (v : View). v.shape.kind) (sym view) ∙ kind) cpu (ap (λ (v : View). is_among cpu v.cpus) (sym view) ∙ has) in
            (x.0, ap (λ (z : PassView). spare_of cpu z.spares) took.after_is ∙ x.1);
        carries_nothing = ap (λ (v : View). v.carried) view ∙ can.in_no_call.carries_nothing;
      };
    }

-- What is told

pub told_more : (shape : Shape) (lost : List ℕ) (inner : List Turned) (last told : Turned) → AreTold shape [] inner inner → IsTold shape lost last told → AreTold shape lost (inner ++ last ∷ []) (inner ++ told ∷ [])
told_more shape lost inner last told are is =
    told_append shape lost inner (last ∷ []) inner (told ∷ []) (told_where shape [] lost (λ n among. true_false (sym among)) inner inner are) (is, tt)

-- where no record is lost, the turns are told as they were made
pub told_whole : (shape : Shape) (steps told : List Turned) → AreTold shape [] steps told → told ≡ steps
told_whole shape [] [] are = refl
told_whole shape [] (told ∷ others) are = absurd are
told_whole shape (step ∷ steps) [] are = absurd are
told_whole shape (step ∷ steps) (told ∷ others) are =
    let first : told ≡ step = ⊎_elim (λ (same : told ≡ step). same) (λ (x : (false ≡ true) × CouldBe shape step told). true_false (sym x.0)) are.0.0 in
    (λ i. first i ∷ told_whole shape steps others are.1 i)

-- Answers

-- a pass whose hands hold the same, and whose spares are the same, is in no call
pub idle_same : (q s : PassView) → HasItsSpares q → s.view.held ≡ [] → s.view.cpus ≡ q.view.cpus → s.view.shape ≡ q.view.shape → s.spares ≡ q.spares → s.view.carried ≡ q.view.carried → ((e c : ℕ) → is_in_hand_of e c s.view.hand ≡ is_in_hand_of e c q.view.hand) → IsInNoCall s
idle_same q s has held cpus shape spares carried hand = record {
  holds_nothing = held;
  spares_only = λ e cpu mine in_hand.
      let x = has.spares_only e cpu (ap (is_among cpu) (sym cpus) ∙ mine) (sym (hand e cpu) ∙ in_hand) in
      (x.0, ap (spare_of cpu) spares ∙ x.1, x.2, ap (λ (z : Shape). z.kind) shape ∙ x.3);
  spares_in_hand = λ cpu body kept. hand body.element cpu ∙ has.spares_in_hand cpu body (ap (spare_of cpu) (sym spares) ∙ kept);
  none_out = λ kind cpu mine.
      let x = has.none_out (ap (λ (z : Shape). z.kind) (sym shape) ∙ kind) cpu (ap (is_among cpu) (sym cpus) ∙ mine) in
      (x.0, ap (spare_of cpu) spares ∙ x.1);
  carries_nothing = carried ∙ has.carries_nothing;
}

-- what is left from where the call began
pub leaves_of : (t : TableView) (bucket : ℕ) (p q s : PassView) (chain : BodyList) (steps : List Turned) (lost : List ℕ) → TookLock t (Bucket bucket) p q (contents.Bucket chain) → p.view.held ≡ [] → LeftBucket t q s steps lost → Leaves t p s steps lost []
leaves_of t bucket p q s chain steps lost took none_held f =
    let first = goes_took t (Bucket bucket) p q (contents.Bucket chain) took in
    record {
      made = record {
        goes = subst (λ (l : List ℕ). Goes p s steps l) (append_nil lost) (goes_on p q s [] steps [] lost first f.goes);
        held = f.in_no_call.holds_nothing ∙ sym none_held;
        notes = f.notes ∙ ap (λ (z : PassView). notes_below z.view.notes) took.after_is;
      };
      in_no_call = f.in_no_call;
      by_call = subst (λ (z : PassView). All (IsBy z.cpu z.call) steps) took.after_is f.by_call;
      other_spares = subst (λ (z : PassView). SparesDiffer z.cpu z.spares s.spares) took.after_is f.other_spares;
      bits = λ _. f.bits ∙ ap (λ (z : PassView). z.view.bits) took.after_is;
      learns = learns_after t.shape p.view q.view s.view steps [] (learns_took t (Bucket bucket) p q (contents.Bucket chain) took) f.learns;
    }

-- the turns of a pass without what came before them
pub turns_alone : (shape : Shape) (steps : List Turned) → map (turn_of shape) steps ≡ turns_of (map (turn_at shape) steps)
turns_alone shape [] = refl
turns_alone shape (step ∷ steps) = ap (λ (turns : List Turn). turn_of shape step ∷ turns) (turns_alone shape steps)

-- on a map that doesn't evict a trace looks at nothing that came before
pub trace_at : (shape : Shape) (cpu : ℕ) (spare : Option ℕ) (verb : Verb) (steps : List Turned) (reply : Reply) → is_lru shape.kind ≡ false → IsPlainTrace shape cpu spare verb (map (turn_of shape) steps) reply → IsTrace shape cpu spare verb (map (turn_at shape) steps) reply
trace_at shape cpu spare verb steps reply plain trace =
    plain_trace shape cpu spare (map (turn_at shape) steps) reply plain verb (subst (λ (turns : List Turn). IsPlainTrace shape cpu spare verb turns reply) (turns_alone shape steps) trace)

pub plain_left : (shape : Shape) (spare : Option ℕ) (steps : List Turned) → is_lru shape.kind ≡ false → spare_after spare (map (turn_of shape) steps) ≡ spare_left shape spare (map (turn_at shape) steps)
plain_left shape spare steps plain = ap (spare_after spare) (turns_alone shape steps) ∙ sym (plain_spare shape spare (map (turn_at shape) steps) plain)

-- no step on a bit is told there
pub no_bits : (shape : Shape) (steps : List Turned) → is_lru shape.kind ≡ false → bits_of_turns shape steps ≡ []
no_bits shape steps plain = ap (λ b. cond b (flat_map (λ (step : Turned). bits_of_part shape step.entry.part) steps) []) plain

-- from where the bucket was taken to where the call began
pub called_of : (t : TableView) (bucket : ℕ) (p q s : PassView) (chain : BodyList) (verb : Verb) (reply : Reply) → Enters t bucket p q chain → p.view.held ≡ [] → Answered t q s verb reply → Called t p s verb reply
called_of t bucket p q s chain verb reply enters none_held answered =
    let took = enters.took in
    let f = answered.finished in
    let told : List Turned = answered.told in
    record {
      steps = answered.steps;
      lost = answered.lost;
      leaves = subst (Leaves t p s answered.steps answered.lost) (sym (no_bits t.shape told enters.plain)) (leaves_of t bucket p q s chain answered.steps answered.lost took none_held f);
      told = told;
      told_are = answered.told_are;
      trace = subst (λ (z : PassView). IsTrace t.shape z.cpu (spare_element z) verb (map (turn_at t.shape) told) reply) took.after_is
          (trace_at t.shape q.cpu (spare_element q) verb told reply enters.plain answered.trace);
      none_moved = λ common. true_false (sym common ∙ enters.none_shared);
      spare = subst (λ (z : PassView). spare_element s ≡ spare_left t.shape (spare_element z) (map (turn_at t.shape) told)) took.after_is
          (answered.spare ∙ plain_left t.shape (spare_element q) told enters.plain);
    }

-- the same of a call on a key
pub called_on : (t : TableView) (bucket : ℕ) (p q s : PassView) (chain : BodyList) (verb : Verb) (key : List ℕ) (reply : Reply) → Enters t bucket p q chain → p.view.held ≡ [] → bucket ≡ bucket_of_key t.shape key → AnsweredAt t bucket q s verb reply → CalledOn t p s verb key reply
unfolding called_of
called_on t bucket p q s chain verb key reply enters none_held here answered =
    (called_of t bucket p q s chain verb reply enters none_held answered.0, subst (λ (n : ℕ). LosesAtMost (lock_number t.shape (Bucket n)) answered.0.lost) here answered.1)

-- where no record is lost, the turns that were made are the trace, and leave the spare
module _ (t : TableView) (p q : PassView) (verb : Verb) (reply : Reply) (called : Called t p q verb reply) (whole : called.lost ≡ []) where
  told_made : called.told ≡ called.steps
  told_made = told_whole t.shape called.steps called.told (subst (λ (lost : List ℕ). AreTold t.shape lost called.steps called.told) whole called.told_are)

  pub trace_made : IsTrace t.shape p.cpu (spare_element p) verb (map (turn_at t.shape) called.steps) reply
  trace_made = subst (λ (steps : List Turned). IsTrace t.shape p.cpu (spare_element p) verb (map (turn_at t.shape) steps) reply) told_made called.trace

  pub spare_made : spare_element q ≡ spare_left t.shape (spare_element p) (map (turn_at t.shape) called.steps)
  spare_made = subst (λ (steps : List Turned). spare_element q ≡ spare_left t.shape (spare_element p) (map (turn_at t.shape) steps)) told_made called.spare

-- the map of a call
pub is_plain_of : (inside t : TableView) → inside ≡ t → IsShape inside.shape × (is_lru inside.shape.kind ≡ false) → is_lru t.shape.kind ≡ false
is_plain_of inside t is inv = subst (λ (z : TableView). is_lru z.shape.kind ≡ false) is inv.1

pub shares_none : (inside t : TableView) → inside ≡ t → IsShape inside.shape × (is_lru inside.shape.kind ≡ false) → t.shape.common ≡ false
shares_none inside t is inv = subst (λ (z : TableView). z.shape.common ≡ false) is (not_common inside.shape (bounds_of_shape inside.shape inv.0) inv.1)

-- a turn of the bucket of a key, as traces tell it
pub on_bucket : (shape : Shape) (bucket : ℕ) (key : List ℕ) (part : BucketPart) → bucket ≡ bucket_of_key shape key → record { lock = Bucket bucket; part = parts.Bucket part } ∷ [] ≡ on_bucket_of shape key part ∷ []
on_bucket shape bucket key part is i = record { lock = Bucket (is i); part = parts.Bucket part } ∷ []
