-- A call from where it holds the bucket of its key to where it has given it back: the turns of other locks between, and what all of
-- them leave.
use Rattle.std.proofs.Common.{◌≡◌, ℕ, ◌<◌, cond, true, false, List, [], ◌∷◌, ◌++◌, map, inr, sym, refl, ap, ◌∙◌, subst, arith, ◌≤◌, Option, None, Some}
use Rattle.std.specs.Prelude.{All, IsTrue}
use Rattle.std.proofs.lemmas.List.{map-append}
use Rattle.std.proofs.lemmas.List.Elements.{All-nil, All-cons, All-append}
use Rattle.map_types.specs.declared.call.Verb.{Verb}
use Rattle.map_types.specs.declared.call.Verb.TheVariants as verbs
use Rattle.map_types.specs.declared.kind.DomainId.{DomainId}
use Rattle.map_types.specs.declared.kind.DomainId.TheVariants.{Bucket, Freelist}
use Rattle.map_types.specs.declared.kind.Side.{Side}
use Rattle.map_types.specs.declared.reply.Reply.{Reply}
use Rattle.map_types.specs.Kind.{is_lru}
use Rattle.map_types.specs.Stored.{Stored}
use Rattle.place_words.specs.declared.bucket_part.BucketPart.TheVariants.{Update}
use Rattle.place_words.specs.declared.bucket_part.Put.{Put}
use Rattle.place_words.specs.declared.history.Part.{Part}
use Rattle.place_words.specs.Locks.{lock_named, lock_number, rank_of}
use Rattle.place_words.specs.State.{is_bucket}
use Rattle.place_words.specs.Traces.{Turn, IsPlainTrace, LooksFor, reply_of_put, spare_after}
use Rattle.place_words.specs.PlainTraces.{spare_after_put}
use Rattle.place_words.specs.Turns.{on_lock}
use Rattle.place_words.proofs.LockLemmas.{named_by_number}
use Rattle.place_words.specs.declared.step.Lists.{Lists}
use Rattle.place_table.specs.declared.view.InHand.{InHand}
use Rattle.place_table.specs.declared.view.OwnerSeen.{OwnerSeen}
use Rattle.place_table.specs.declared.view.Turned.{Turned}
use Rattle.place_table.specs.declared.view.View.{View}
use Rattle.place_table.specs.Calls.{bits_of_turns}
use Rattle.place_table.specs.Known.{Learns, turn_of, IsBy}
use Rattle.place_table.specs.Passes.{PassView, TableView, IsInNoCall, SparesDiffer, Goes, spare_of, with_spares}
use Rattle.place_table.specs.Rules.{IsAboveAll}
use Rattle.place_table.specs.Views.{is_in_hand_of, known_log, notes_below, has_all}
use Rattle.place_table.proofs.Entries.{append_nil}
use Rattle.place_table.proofs.Going.{goes_on, goes_nowhere, goes_spared, goes_of_table, goes_begun, learns_on, learns_none, log_elsewhere}
use Rattle.place_table.specs.BucketHeld.{Holds}
use Rattle.place_table.specs.declared.bucket_takes.TakenOut.{TakenOut}
use Rattle.place_table.specs.BucketPuts.{AreUpdateArguments, PutsInPlace, UpdateCall, asked_of, put_part, update_part, with_offer}
use Rattle.place_table.specs.BucketTurns.{GivenBack, HasOut}
use Rattle.place_table.proofs.Ranges.{bucket_there}
use Rattle.place_table.proofs.TurnsOn.{told_append}
use Rattle.hash_ops.specs.Calls.{spare_element, element_of, AreTold}
use Rattle.hash_ops.specs.Free.{CanReach, Reached}
use Rattle.hash_ops.specs.Under.{HasItsSpares, LeftBucket, AnsweredAt}
use Rattle.hash_ops.proofs.FreeTurns.{elsewhere}
use Rattle.hash_ops.proofs.Under.{idle_same, told_more, no_bits, on_bucket}

-- The bucket stays held

module _ {t : TableView} {bucket : ℕ} {r : PassView} {bodies : List Stored} {now : Lists} {marked : List ℕ} {changed : List OwnerSeen} (h : Holds t bucket r bodies now marked changed) where
  -- freelists may be taken there
  pub may_reach : CanReach t r
  may_reach = record {
    of_table = h.of_table;
    begun = h.begun;
    above = subst (IsAboveAll t.shape (rank_of (Freelist 0))) (sym h.held)
        (subst (λ (d : DomainId). rank_of d < rank_of (Freelist 0)) (sym (ap (lock_named t.shape) h.lock_is ∙ named_by_number t.shape (Bucket bucket) (bucket_there t.shape bucket h.there))) (let low : 3 < 4 = omega arith in low), tt);
    inside = λ part. record {
      outer = h.hold;
      others = [];
      held_are = h.held;
      may_be = subst (λ (d : DomainId). IsTrue (is_bucket d)) (sym (ap (lock_named t.shape) h.lock_is ∙ named_by_number t.shape (Bucket bucket) (bucket_there t.shape bucket h.there))) refl;
    };
  }

  -- where they were
  pub holds_reached : (s : PassView) (steps : List Turned) → Reached t r s steps → Holds t bucket s bodies now marked changed
  holds_reached s steps reached =
      let k : ℕ = lock_number t.shape (Bucket bucket) in
      let goes = reached.goes in
      record {
        of_table = goes_of_table t r s steps [] goes h.of_table;
        begun = goes_begun r s steps [] goes h.begun;
        there = h.there;
        cpu_there = subst (λ (c : ℕ). c < t.shape.cpus) (sym goes.cpu) h.cpu_there;
        hold = h.hold;
        below = h.below;
        held = reached.held ∙ h.held;
        notes = reached.notes ∙ h.notes;
        lock_is = h.lock_is;
        cpu_is = h.cpu_is ∙ sym goes.cpu;
        content_is = h.content_is;
        legal = h.legal;
        now_is = h.now_is;
        elements = h.elements;
        sized = h.sized;
        known = λ has log is.
            let before : has_all r.view ≡ true = sym reached.learns.all ∙ has in
            let same : known_log k s.view.known ≡ known_log k r.view.known = (reached.learns.logs before k).known_is ∙ log_elsewhere k steps (known_log k r.view.known) (elsewhere t.shape bucket steps h.there reached.on_freelists) in
            h.known before log (ap (λ (n : ℕ). known_log n r.view.known) h.lock_is ∙ (sym same ∙ (ap (λ (n : ℕ). known_log n s.view.known) (sym h.lock_is) ∙ is)));
      }

  -- where a spare was handed out or kept
  pub holds_spared : (s : PassView) → s ≡ with_spares r s.spares → Holds t bucket s bodies now marked changed
  holds_spared s is = subst (λ (z : PassView). Holds t bucket z bodies now marked changed) (sym is) record {
    of_table = h.of_table;
    begun = h.begun;
    there = h.there;
    cpu_there = h.cpu_there;
    hold = h.hold;
    below = h.below;
    held = h.held;
    notes = h.notes;
    lock_is = h.lock_is;
    cpu_is = h.cpu_is;
    content_is = h.content_is;
    legal = h.legal;
    now_is = h.now_is;
    elements = h.elements;
    sized = h.sized;
    known = h.known;
  }

-- The turns before it is given back

-- These turns of other locks were made, and but for them, for what is in hand and for spares nothing changed.
pub record Between (t : TableView) (q r : PassView) (inner : List Turned) : Type 0 where
  pub goes : Goes q r inner []
  pub notes : notes_below r.view.notes ≡ notes_below q.view.notes
  pub bits : r.view.bits ≡ q.view.bits
  pub carried : r.view.carried ≡ q.view.carried
  pub by_call : All (IsBy q.cpu q.call) inner
  pub learns : Learns t.shape q.view r.view inner []
  pub told : AreTold t.shape [] inner inner

pub between_nothing : (t : TableView) (q : PassView) → Between t q q []
between_nothing t q = record {
  goes = goes_nowhere q;
  notes = refl;
  bits = refl;
  carried = refl;
  by_call = All-nil (IsBy q.cpu q.call);
  learns = learns_none t.shape q.view;
  told = tt;
}

pub between_reached : {t : TableView} {q r : PassView} {steps : List Turned} → Reached t q r steps → Between t q r steps
between_reached reached = record {
  goes = reached.goes;
  notes = ap notes_below reached.notes;
  bits = reached.bits;
  carried = reached.carried;
  by_call = reached.by_call;
  learns = reached.learns;
  told = reached.told;
}

pub between_out : {t : TableView} {bucket : ℕ} {q r : PassView} {bodies : List Stored} {key : List ℕ} {found : TakenOut} → HasOut t bucket q r bodies key found → Between t q r []
between_out {t} {bucket} {q} out = record {
  goes = out.goes;
  notes = out.notes;
  bits = out.bits;
  carried = out.carried;
  by_call = All-nil (IsBy q.cpu q.call);
  learns = out.learns;
  told = tt;
}

pub between_spared : {t : TableView} {q r : PassView} → r ≡ with_spares q r.spares → Between t q r []
between_spared {t} {q} {r} is = subst (λ (z : PassView). Between t q z []) (sym is) record {
  goes = goes_spared q (with_spares q r.spares) refl;
  notes = refl;
  bits = refl;
  carried = refl;
  by_call = All-nil (IsBy q.cpu q.call);
  learns = learns_none t.shape q.view;
  told = tt;
}

pub between_on : {t : TableView} {q r s : PassView} {first second : List Turned} → Between t q r first → Between t r s second → Between t q s (first ++ second)
between_on {t} {q} {r} {s} {first} {second} a b = record {
  goes = goes_on q r s first second [] [] a.goes b.goes;
  notes = b.notes ∙ a.notes;
  bits = b.bits ∙ a.bits;
  carried = b.carried ∙ a.carried;
  by_call = All-append (IsBy q.cpu q.call) first second a.by_call (subst (λ (z : ℕ × ℕ). All (IsBy z.0 z.1) second) (λ i. (a.goes.cpu i, a.goes.call i)) b.by_call);
  learns = learns_on t.shape q.view r.view s.view first second [] [] a.learns b.learns;
  told = told_append t.shape [] first second first second a.told b.told;
}

-- Once it is given back

module _ {t : TableView} {bucket : ℕ} {q r s : PassView} {inner : List Turned} {part : Part} {hand : List InHand} (plain : is_lru t.shape.kind ≡ false) (b : Between t q r inner) (g : GivenBack t bucket r s part hand) where
  carried_same : s.view.carried ≡ q.view.carried
  carried_same = g.carried ∙ b.carried

  -- all turns
  pub all_turns : Goes q s (inner ++ g.step ∷ []) g.lost
  all_turns = subst (Goes q s (inner ++ g.step ∷ [])) (append_nil g.lost) (goes_on q r s inner (g.step ∷ []) [] g.lost b.goes g.goes)

  pub whole_by_call : All (IsBy q.cpu q.call) (inner ++ g.step ∷ [])
  whole_by_call = All-append (IsBy q.cpu q.call) inner (g.step ∷ []) b.by_call (All-cons (IsBy q.cpu q.call) g.step [] (subst (λ (y : ℕ × ℕ). IsBy y.0 y.1 g.step) (λ i. (b.goes.cpu i, b.goes.call i)) g.by_call) (All-nil (IsBy q.cpu q.call)))

  pub whole_learns : Learns t.shape q.view s.view (inner ++ g.step ∷ []) []
  whole_learns = subst (Learns t.shape q.view s.view (inner ++ g.step ∷ [])) (no_bits t.shape (g.told ∷ []) plain) (learns_on t.shape q.view r.view s.view inner (g.step ∷ []) [] (bits_of_turns t.shape (g.told ∷ [])) b.learns g.learns)

  -- as they are told
  pub whole_told : AreTold t.shape g.lost (inner ++ g.step ∷ []) (inner ++ g.told ∷ [])
  whole_told = told_more t.shape g.lost inner g.step g.told b.told g.is_told

  pub whole_turns : (turns : List Turn) → map (turn_of t.shape) inner ≡ turns → map (turn_of t.shape) (inner ++ g.told ∷ []) ≡ turns ++ on_lock (Bucket bucket) part ∷ []
  whole_turns turns turns_are = map-append (turn_of t.shape) inner (g.told ∷ []) ∙ (λ i. turns_are i ++ g.turn i ∷ [])

  module _ (z : PassView) (after : z ≡ with_spares s z.spares) where
    -- where a spare was kept afterwards
    pub kept_on : Goes q z (inner ++ g.step ∷ []) g.lost
    kept_on = subst (λ (l : List Turned). Goes q z l g.lost) (append_nil (inner ++ g.step ∷ [])) (goes_on q s z (inner ++ g.step ∷ []) [] g.lost [] all_turns (goes_spared s z after))

    left_bucket : IsInNoCall z → SparesDiffer q.cpu q.spares z.spares → LeftBucket t q z (inner ++ g.step ∷ []) g.lost
    left_bucket idle differ = record {
      goes = kept_on;
      notes = ap (λ (y : PassView). y.view.notes) after ∙ (g.notes ∙ b.notes);
      bits = ap (λ (y : PassView). y.view.bits) after ∙ (g.bits plain ∙ b.bits);
      in_no_call = idle;
      by_call = whole_by_call;
      other_spares = differ;
      learns = subst (λ (v : View). Learns t.shape q.view v (inner ++ g.step ∷ []) []) (sym (ap (λ (y : PassView). y.view) after)) whole_learns;
    }

    -- they are those of a call
    pub answered : (verb : Verb) (reply : Reply) (turns : List Turn) → IsInNoCall z → SparesDiffer q.cpu q.spares z.spares → map (turn_of t.shape) inner ≡ turns
        → IsPlainTrace t.shape q.cpu (spare_element q) verb (turns ++ on_lock (Bucket bucket) part ∷ []) reply
        → spare_element z ≡ spare_after (spare_element q) (turns ++ on_lock (Bucket bucket) part ∷ []) → AnsweredAt t bucket q z verb reply
    answered verb reply turns idle differ turns_are trace spare =
        let told : List Turned = inner ++ g.told ∷ [] in
        let as_turns = whole_turns turns turns_are in (
          record {
            steps = inner ++ g.step ∷ [];
            lost = g.lost;
            finished = left_bucket idle differ;
            told = told;
            told_are = whole_told;
            trace = subst (λ (ts : List Turn). IsPlainTrace t.shape q.cpu (spare_element q) verb ts reply) (sym as_turns) trace;
            spare = spare ∙ ap (spare_after (spare_element q)) (sym as_turns);
          },
          g.loses,
        )

  -- the hands hold what they held, and spares stay
  pub answered_same : (verb : Verb) (reply : Reply) (turns : List Turn) → HasItsSpares q → r.spares ≡ q.spares → ((e c : ℕ) → is_in_hand_of e c hand ≡ is_in_hand_of e c q.view.hand) → map (turn_of t.shape) inner ≡ turns
      → IsPlainTrace t.shape q.cpu (spare_element q) verb (turns ++ on_lock (Bucket bucket) part ∷ []) reply
      → spare_element q ≡ spare_after (spare_element q) (turns ++ on_lock (Bucket bucket) part ∷ []) → AnsweredAt t bucket q s verb reply
  answered_same verb reply turns has spares hands turns_are trace spare =
      let same_spares : s.spares ≡ q.spares = g.spares ∙ spares in
      answered s refl verb reply turns
      (idle_same q s has g.held all_turns.cpus all_turns.shape same_spares carried_same (λ e c. ap (is_in_hand_of e c) g.hand_is ∙ hands e c))
      (λ other _. ap (spare_of other) same_spares) turns_are trace
      ((λ i. element_of (spare_of (all_turns.cpu i) (same_spares i))) ∙ spare)

-- an update is offered no element
pub put_alone : {t : TableView} {bucket : ℕ} {q s : PassView} {hand : List InHand} (update : UpdateCall) (e : ℕ) (put : Put) → is_lru t.shape.kind ≡ false → GivenBack t bucket q s (put_part t update e put) hand → GivenBack t bucket q s (update_part (with_offer update None) put) hand
put_alone {t} {bucket} {q} {s} {hand} update e put plain = subst (λ (offer : Option ℕ). GivenBack t bucket q s (update_part (with_offer update offer) put) hand) (ap (λ b. cond b (Some e) None) plain)

-- the trace of an update
pub update_trace : (t : TableView) (bucket cpu : ℕ) (spare : Option ℕ) (side : Side) (flags : ℕ) (key value : List ℕ) (put : Put) (looks : List Turn) → flags ≤ 2 → AreUpdateArguments t bucket side key value → LooksFor t.shape cpu spare put looks
    → IsPlainTrace t.shape cpu spare (verbs.Update side flags key value) (looks ++ on_lock (Bucket bucket) (update_part (asked_of side flags key value None) put) ∷ []) (reply_of_put put)
update_trace t bucket cpu spare side flags key value put looks known gives looked =
    inr (known, record { put = put; looks = looks; looks_are = looked; turns_are = ap (λ (l : List Turn). looks ++ l) (on_bucket t.shape bucket key (Update side flags key value None put) gives.bucket_is); reply_is = refl })

-- an update that moved no element
pub answered_put : {t : TableView} {bucket : ℕ} {q s : PassView} {side : Side} {flags : ℕ} {key value : List ℕ} → is_lru t.shape.kind ≡ false → HasItsSpares q → flags ≤ 2 → AreUpdateArguments t bucket side key value → (put : Put) → PutsInPlace t bucket q s (asked_of side flags key value None) put
    → LooksFor t.shape q.cpu (spare_element q) put [] → spare_element q ≡ spare_after_put (spare_element q) put → AnsweredAt t bucket q s (verbs.Update side flags key value) (reply_of_put put)
answered_put {t} {bucket} {q} {s} {side} {flags} {key} {value} plain has known gives put given looked spare =
    answered_same plain (between_nothing t q) given (verbs.Update side flags key value) (reply_of_put put) [] has refl (λ _ _. refl) refl (update_trace t bucket q.cpu (spare_element q) side flags key value put [] known gives looked) spare
