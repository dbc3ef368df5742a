-- What is left of a pass after each call on the table, and after some calls in their order.
use Rattle.place_words.specs.Tickets.{AscendIn}
use Rattle.place_table.specs.declared.view.HomeRead.{HomeRead}
use Rattle.place_table.specs.Tickets.{turn_tickets}
use Rattle.std.proofs.Common.{◌≡◌, ◌≢◌, ℕ, ◌<◌, inl, inr, ⊎_elim, cond, Bool, true, false, List, [], ◌∷◌, ◌++◌, sym, refl, ap, ◌∙◌, subst, append_assoc, Option, None, Some, MatchOption, suc, arith}
use Rattle.std.specs.Prelude.{IsTrue}
use Rattle.map_types.specs.declared.attr.Shape.{Shape}
use Rattle.map_types.specs.declared.kind.DomainId.{DomainId}
use Rattle.map_types.proofs.RowLemmas.{by_test}
use Rattle.place_words.specs.declared.history.Entry.{Entry}
use Rattle.place_words.specs.declared.history.Part.{Part}
use Rattle.place_words.specs.declared.history.StrandStep.{StrandStep}
use Rattle.place_words.specs.Histories.{content, Allows, IsLegal}
use Rattle.place_words.specs.Locks.{is_lock, lock_named, lock_number, lock_count}
use Rattle.place_words.proofs.LockLemmas.{named_by_number, number_within}
use Rattle.place_words.specs.declared.step.Lists.{Lists}
use Rattle.place_words.proofs.ElementLemmas.{at_put}
use Rattle.place_table.specs.declared.content.Content.{Content}
use Rattle.place_table.specs.declared.view.View.{View}
use Rattle.place_table.specs.declared.view.Hold.{Hold}
use Rattle.place_table.specs.declared.view.InHand.{InHand}
use Rattle.place_table.specs.declared.view.HashIn.{HashIn}
use Rattle.place_table.specs.declared.view.Notes.{Notes}
use Rattle.place_table.specs.declared.view.BitSeen.{BitSeen}
use Rattle.place_table.specs.declared.view.Turned.{Turned}
use Rattle.place_table.specs.Known.{AreAllowedAt, log_then, log_after_all, GoOn, bit_then, bit_after_all, BitTouch, SeesBit, SeeOn, Learns, KnowsAll, FollowOn, log_after, logs_after}
use Rattle.place_table.specs.Plays.{IsKnownBit}
use Rattle.place_table.specs.Passes.{PassView, TableView, IsPassOf, HasBegun, TookLock, CanGive, Gave, GaveSome, IsKeptOf, Goes, Made, with_view, with_spares, entry_of, ready, AreNumbered, AreCounted, IsNumbered}
use Rattle.place_table.specs.Views.{has_all, has_all_below, known_log, bit_seen, bits_with, marked, cleared, bit_read, learned, moved, noted, turned, place_of, kept_step, holding, is_among, with_hashes, ticket_of, next, with_homes_read}
use Rattle.place_words.proofs.Ascending.{ascend_on}
use Rattle.place_table.proofs.Entries.{append_nil}
use Rattle.place_table.specs.declared.view.WordStep.{WordStep}
use Rattle.place_table.specs.declared.view.HomeIn.{HomeIn}

pub same_head : {A : Type 0} {x y : A} {xs ys : List A} → x ∷ xs ≡ y ∷ ys → x ≡ y
same_head e = cc

-- What is recorded

pub kept_on : (shape : Shape) (first second : List Turned) (a b c : List StrandStep) → IsKeptOf shape first a b → IsKeptOf shape second b c → IsKeptOf shape (first ++ second) a c
kept_on shape [] second a b c one other = subst (λ (l : List StrandStep). IsKeptOf shape second l c) one other
kept_on shape (step ∷ steps) second a b c one other =
    ⊎_elim
    (λ (lost : IsKeptOf shape steps a b). inl (kept_on shape steps second a b c lost other))
    (λ (more : IsKeptOf shape steps (a ++ kept_step shape step.lock (place_of step) ∷ []) b). inr (kept_on shape steps second (a ++ kept_step shape step.lock (place_of step) ∷ []) b c more other))
    one

-- Numbers of turns, one after the other

turn_tickets_append : (xs ys : List Turned) → turn_tickets (xs ++ ys) ≡ turn_tickets xs ++ turn_tickets ys
turn_tickets_append [] ys = refl
turn_tickets_append (x ∷ xs) ys = ap (λ (l : List ℕ). x.entry.ticket ∷ l) (turn_tickets_append xs ys)

counted_on : (n middle to : ℕ) (xs ys : List Turned) → AreCounted n xs middle → AreCounted middle ys to → AreCounted n (xs ++ ys) to
counted_on n middle to [] ys are more = subst (λ (z : ℕ). AreCounted z ys to) are more
counted_on n middle to (x ∷ xs) ys are more = (are.0, counted_on (suc n) middle to xs ys are.1 more)

numbered_on : (u v w : View) (first second : List Turned) → has_all v ≡ has_all u → AreNumbered u v first → AreNumbered v w second → AreNumbered u w (first ++ second)
numbered_on u v w first second all a b = record {
  reached = omega (arith, a.reached, b.reached);
  refused = omega (arith, a.refused, b.refused);
  ascend = subst (λ (l : List ℕ). AscendIn (next u) l (next w)) (sym (turn_tickets_append first second)) (ascend_on (next u) (next v) (next w) (turn_tickets first) (turn_tickets second) a.ascend b.ascend);
  exact = λ has. counted_on (next u) (next v) (next w) first second (a.exact has) (b.exact (all ∙ has));
}

-- Goes

-- one after the other
pub goes_on : (p q r : PassView) (first second : List Turned) (lost more_lost : List ℕ) → Goes p q first lost → Goes q r second more_lost → Goes p r (first ++ second) (more_lost ++ lost)
goes_on p q r first second lost more_lost a b = record {
  table = b.table ∙ a.table;
  seat = b.seat ∙ a.seat;
  cpu = b.cpu ∙ a.cpu;
  call = b.call ∙ a.call;
  shape = b.shape ∙ a.shape;
  cpus = b.cpus ∙ a.cpus;
  steps = b.steps ∙ (ap (λ (l : List Turned). l ++ second) a.steps ∙ append_assoc p.view.steps first second);
  numbers = numbered_on p.view q.view r.view first second (λ i. has_all_below ((a.shape i).cpus) (a.cpus i)) a.numbers b.numbers;
  kept = kept_on p.view.shape first second p.view.kept q.view.kept r.view.kept a.kept (subst (λ (s : Shape). IsKeptOf s second q.view.kept r.view.kept) a.shape b.kept);
  ended = b.ended ∙ a.ended;
  lost_is = b.lost_is ∙ (ap (λ (l : List ℕ). more_lost ++ l) a.lost_is ∙ sym (append_assoc more_lost lost p.view.lost));
}

pub goes_nowhere : (p : PassView) → Goes p p [] []
goes_nowhere p = record {
  table = refl;
  seat = refl;
  cpu = refl;
  call = refl;
  shape = refl;
  cpus = refl;
  steps = sym (append_nil p.view.steps);
  numbers = record { reached = omega arith; refused = omega arith; ascend = omega arith; exact = λ _. refl };
  kept = refl;
  ended = refl;
  lost_is = refl;
}

pub goes_took : (t : TableView) (lock : DomainId) (p q : PassView) (here : Content) → TookLock t lock p q here → Goes p q [] []
goes_took t lock p q here took =
    subst (λ (z : PassView). Goes p z [] []) (sym took.after_is) record {
      table = refl;
      seat = refl;
      cpu = refl;
      call = refl;
      shape = refl;
      cpus = refl;
      steps = sym (append_nil p.view.steps);
      numbers = record { reached = omega arith; refused = omega arith; ascend = omega arith; exact = λ _. refl };
      kept = refl;
      ended = refl;
      lost_is = refl;
    }

pub goes_moved : {hashes : List HashIn} (at k : ℕ) (now : Lists) (hand : List InHand) (notes : List Notes) (word left : ℕ) (p q : PassView) → q ≡ with_view p (with_hashes hashes (moved at k now hand notes word left p.view)) → Goes p q [] []
goes_moved {hashes} at k now hand notes word left p q is =
    subst (λ (z : PassView). Goes p z [] []) (sym is) record {
      table = refl;
      seat = refl;
      cpu = refl;
      call = refl;
      shape = refl;
      cpus = refl;
      steps = sym (append_nil p.view.steps);
      numbers = record { reached = omega arith; refused = omega arith; ascend = omega arith; exact = λ _. refl };
      kept = refl;
      ended = refl;
      lost_is = refl;
    }

pub goes_noted : (notes : List Notes) (bits : List BitSeen) (touched : List WordStep) (readings : List HomeIn) (p q : PassView) → q ≡ with_view p (noted notes bits touched readings p.view) → Goes p q [] []
goes_noted notes bits touched readings p q is =
    subst (λ (z : PassView). Goes p z [] []) (sym is) record {
      table = refl;
      seat = refl;
      cpu = refl;
      call = refl;
      shape = refl;
      cpus = refl;
      steps = sym (append_nil p.view.steps);
      numbers = record { reached = omega arith; refused = omega arith; ascend = omega arith; exact = λ _. refl };
      kept = refl;
      ended = refl;
      lost_is = refl;
    }

pub goes_read : (homes_read : List HomeRead) (notes : List Notes) (bits : List BitSeen) (touched : List WordStep) (readings : List HomeIn) (p q : PassView) → q ≡ with_view p (with_homes_read homes_read (noted notes bits touched readings p.view)) → Goes p q [] []
goes_read homes_read notes bits touched readings p q is =
    subst (λ (z : PassView). Goes p z [] []) (sym is) record {
      table = refl;
      seat = refl;
      cpu = refl;
      call = refl;
      shape = refl;
      cpus = refl;
      steps = sym (append_nil p.view.steps);
      numbers = record { reached = omega arith; refused = omega arith; ascend = omega arith; exact = λ _. refl };
      kept = refl;
      ended = refl;
      lost_is = refl;
    }

pub goes_spared : (p q : PassView) → q ≡ with_spares p q.spares → Goes p q [] []
goes_spared p q is =
    subst (λ (z : PassView). Goes p z [] []) (sym is) record {
      table = refl;
      seat = refl;
      cpu = refl;
      call = refl;
      shape = refl;
      cpus = refl;
      steps = sym (append_nil p.view.steps);
      numbers = record { reached = omega arith; refused = omega arith; ascend = omega arith; exact = λ _. refl };
      kept = refl;
      ended = refl;
      lost_is = refl;
    }

-- the turn of a give
abbrev pub given_turn : PassView → ℕ → Hold → Part → Turned
given_turn p ticket hold part = turned hold.lock hold.log (entry_of p ticket part) p.view

-- its number
one_numbered : (p q : PassView) {z : PassView} (n : ℕ) (hold : Hold) (part : Part) → IsNumbered p.view n q.view → q ≡ z → AreNumbered p.view z.view (given_turn p n hold part ∷ [])
one_numbered p q n hold part is same = subst (λ (x : PassView). AreNumbered p.view x.view (given_turn p n hold part ∷ [])) same record {
  reached = is.reached;
  refused = is.refused;
  ascend = (is.ascends, let next_is = is.next_is in omega arith);
  exact = λ all. (is.exact all, is.next_is ∙ ap suc (is.exact all));
}

pub goes_gave : (p q : PassView) (part : Part) (gave : Gave p q part) → Goes p q (given_turn p gave.ticket gave.hold part ∷ []) []
goes_gave p q part gave =
    let kept : IsKeptOf p.view.shape (given_turn p gave.ticket gave.hold part ∷ []) p.view.kept gave.kept = ⊎_elim (λ same. inl same) (λ more. inr more) gave.kept_is in
    subst (λ (z : PassView). Goes p z (given_turn p gave.ticket gave.hold part ∷ []) []) (sym gave.after_is) record {
      table = refl;
      seat = refl;
      cpu = refl;
      call = refl;
      shape = refl;
      cpus = refl;
      steps = refl;
      numbers = one_numbered p q gave.ticket gave.hold part gave.numbered gave.after_is;
      kept = kept;
      ended = refl;
      lost_is = refl;
    }

pub goes_gave_some : (t : TableView) (lock : DomainId) (p q : PassView) (here : Content) (gave : GaveSome t lock p q here) → Goes p q (given_turn p (ticket_of (ready p.view gave.took)) gave.can.hold gave.part ∷ []) (gave.can.hold.lock ∷ [])
goes_gave_some t lock p q here gave =
    subst (λ (z : PassView). Goes p z (given_turn p (ticket_of (ready p.view gave.took)) gave.can.hold gave.part ∷ []) (gave.can.hold.lock ∷ [])) (sym gave.after_is) record {
      table = refl;
      seat = refl;
      cpu = refl;
      call = refl;
      shape = refl;
      cpus = refl;
      steps = refl;
      numbers = one_numbered p q (ticket_of (ready p.view gave.took)) gave.can.hold gave.part gave.numbered gave.after_is;
      kept = inl refl;
      ended = refl;
      lost_is = refl;
    }

-- what a pass is of, and that it has begun, stays
pub goes_of_table : (t : TableView) (p q : PassView) (more : List Turned) (lost : List ℕ) → Goes p q more lost → IsPassOf t p → IsPassOf t q
goes_of_table t p q more lost goes of_table = (goes.table ∙ of_table.0, goes.shape ∙ of_table.1)

pub goes_begun : (p q : PassView) (more : List Turned) (lost : List ℕ) → Goes p q more lost → HasBegun p → HasBegun q
goes_begun p q more lost goes begun = (λ i. is_among (goes.cpu i) (goes.cpus i)) ∙ begun

-- Made

pub made_on : (p q r : PassView) (first second : List Turned) (lost more_lost : List ℕ) → Made p q first lost → Made q r second more_lost → Made p r (first ++ second) (more_lost ++ lost)
made_on p q r first second lost more_lost a b = record {
  goes = goes_on p q r first second lost more_lost a.goes b.goes;
  held = b.held ∙ a.held;
  notes = b.notes ∙ a.notes;
}

-- What a pass knows

-- two in their order

log_append : (k : ℕ) (known : Option (List Entry)) (first second : List Turned) → log_after_all k known (first ++ second) ≡ log_after_all k (log_after_all k known first) second
log_append k known [] second = refl
log_append k known (step ∷ steps) second = log_append k (log_then k known step) steps second

go_append : (k : ℕ) (known : Option (List Entry)) (first second : List Turned) → GoOn k known first → GoOn k (log_after_all k known first) second → GoOn k known (first ++ second)
go_append k known [] second one other = other
go_append k known (step ∷ steps) second one other = (one.0, go_append k (log_then k known step) steps second one.1 other)

pub bit_append : (e : ℕ) (known : Option Bool) (first second : List BitTouch) → bit_after_all e known (first ++ second) ≡ bit_after_all e (bit_after_all e known first) second
bit_append e known [] second = refl
bit_append e known (touch ∷ touches) second = bit_append e (bit_then e known touch) touches second

see_append : (e : ℕ) (known : Option Bool) (first second : List BitTouch) → SeeOn e known first → SeeOn e (bit_after_all e known first) second → SeeOn e known (first ++ second)
see_append e known [] second one other = other
see_append e known (touch ∷ touches) second one other = (one.0, see_append e (bit_then e known touch) touches second one.1 other)

allowed_append : (shape : Shape) (first second : List Turned) → AreAllowedAt shape first → AreAllowedAt shape second → AreAllowedAt shape (first ++ second)
allowed_append shape [] second one other = other
allowed_append shape (step ∷ steps) second one other = (one.0, allowed_append shape steps second one.1 other)

pub learns_on : (shape : Shape) (u v w : View) (first second : List Turned) (touches more : List BitTouch) → Learns shape u v first touches → Learns shape v w second more → Learns shape u w (first ++ second) (touches ++ more)
learns_on shape u v w first second touches more a b = record {
  allowed = allowed_append shape first second a.allowed b.allowed;
  all = b.all ∙ a.all;
  logs = λ has k.
      let one = a.logs has k in let other = b.logs (a.all ∙ has) k in record {
        go_on = go_append k (known_log k u.known) first second one.go_on (subst (λ (z : Option (List Entry)). GoOn k z second) one.known_is other.go_on);
        known_is = other.known_is ∙ (ap (λ (z : Option (List Entry)). log_after_all k z second) one.known_is ∙ sym (log_append k (known_log k u.known) first second));
      };
  bits = λ has e.
      let one = a.bits has e in let other = b.bits (a.all ∙ has) e in record {
        see_on = see_append e (bit_seen e u.bits) touches more one.see_on (subst (λ (z : Option Bool). SeeOn e z more) one.known_is other.see_on);
        known_is = other.known_is ∙ (ap (λ (z : Option Bool). bit_after_all e z more) one.known_is ∙ sym (bit_append e (bit_seen e u.bits) touches more));
      };
}

-- the same where the first only moved something
pub learns_after : (shape : Shape) (u v w : View) (steps : List Turned) (touches : List BitTouch) → Learns shape u v [] [] → Learns shape v w steps touches → Learns shape u w steps touches
learns_after shape u v w steps touches a b = learns_on shape u v w [] steps [] touches a b

-- and where the second did
pub learns_before : (shape : Shape) (u v w : View) (steps : List Turned) → Learns shape u v steps [] → Learns shape v w [] [] → Learns shape u w steps []
learns_before shape u v w steps a b = subst (λ (l : List Turned). Learns shape u w l []) (append_nil steps) (learns_on shape u v w steps [] [] [] a b)

has_all_same : (v w : View) → w.cpus ≡ v.cpus → w.shape ≡ v.shape → has_all w ≡ has_all v
has_all_same v w cpus shape = (λ i. has_all_below ((shape i).cpus) (cpus i))

-- a step that tells nothing of turns and bits
pub learns_nothing : (shape : Shape) (v w : View) → w.known ≡ v.known → w.bits ≡ v.bits → w.cpus ≡ v.cpus → w.shape ≡ v.shape → Learns shape v w [] []
learns_nothing shape v w known bits cpus same = record {
  allowed = tt;
  all = has_all_same v w cpus same;
  logs = λ has k. record { go_on = tt; known_is = ap (known_log k) known };
  bits = λ has e. record { see_on = tt; known_is = ap (bit_seen e) bits };
}

pub learns_none : (shape : Shape) (v : View) → Learns shape v v [] []
learns_none shape v = learns_nothing shape v v refl refl refl refl

-- what was moved
pub learns_moved : {hashes : List HashIn} (shape : Shape) (at k : ℕ) (now : Lists) (hand : List InHand) (notes : List Notes) (word left : ℕ) (p q : PassView) → q ≡ with_view p (with_hashes hashes (moved at k now hand notes word left p.view)) → Learns shape p.view q.view [] []
learns_moved {hashes} shape at k now hand notes word left p q is =
    subst (λ (z : PassView). Learns shape p.view z.view [] []) (sym is) (learns_nothing shape p.view (with_hashes hashes (moved at k now hand notes word left p.view)) refl refl refl refl)

-- A step on a bit: what it saw is what was known of the bit, and what it left is known from then on.
learns_touched : (shape : Shape) (v w : View) (e : ℕ) (seen : Option Bool) (left : Bool) → w.known ≡ v.known → w.bits ≡ bits_with e left v → w.cpus ≡ v.cpus → w.shape ≡ v.shape
    → ((known : Bool) → bit_seen e v.bits ≡ Some known → SeesBit seen known) → Learns shape v w [] (record { element = e; seen = seen; left = left } ∷ [])
learns_touched shape v w e seen left known bits cpus same sees = record {
  allowed = tt;
  all = has_all_same v w cpus same;
  logs = λ has k. record { go_on = tt; known_is = ap (known_log k) known };
  bits = λ has d. record {
    see_on = ((λ is. subst (λ (x : ℕ). MatchOption (bit_seen x v.bits) (Unit {0}) (SeesBit seen)) is (by_known (bit_seen e v.bits) sees)), tt);
    known_is = ap (bit_seen d) (bits ∙ ap (λ (b : Bool). cond b (record { element = e; bit = left } ∷ v.bits) v.bits) has);
  };
}
  where
    by_known : (known : Option Bool) → ((bit : Bool) → known ≡ Some bit → SeesBit seen bit) → MatchOption known (Unit {0}) (SeesBit seen)
    by_known None sees = tt
    by_known (Some bit) sees = sees bit refl

pub learns_marked : (shape : Shape) (at e : ℕ) (v : View) → Learns shape v (marked at e v) [] (record { element = e; seen = None; left = true } ∷ [])
learns_marked shape at e v = learns_touched shape v (marked at e v) e None true refl refl refl refl (λ known is. tt)

pub learns_cleared : (shape : Shape) (at e : ℕ) (was : Bool) (v : View) → IsKnownBit e was v → Learns shape v (cleared at e was v) [] (record { element = e; seen = Some was; left = false } ∷ [])
learns_cleared shape at e was v known = learns_touched shape v (cleared at e was v) e (Some was) false refl refl refl refl known

pub learns_bit_read : (shape : Shape) (at e : ℕ) (bit : Bool) (v : View) → IsKnownBit e bit v → Learns shape v (bit_read at e bit v) [] (record { element = e; seen = Some bit; left = bit } ∷ [])
learns_bit_read shape at e bit v known = learns_touched shape v (bit_read at e bit v) e (Some bit) bit refl refl refl refl known

-- turns of other locks leave the turns of this one
abbrev pub AreElsewhere : ℕ → List Turned → Type 0
AreElsewhere k [] = Unit {0}
AreElsewhere k (step ∷ steps) = (step.lock ≢ k) × AreElsewhere k steps

pub log_elsewhere : (k : ℕ) (steps : List Turned) (known : Option (List Entry)) → AreElsewhere k steps → log_after_all k known steps ≡ known
log_elsewhere k [] known apart = refl
log_elsewhere k (step ∷ steps) known apart =
    ap (λ (z : Option (List Entry)). log_after_all k z steps)
    (by_test step.lock k (λ b. cond b (Some (step.earlier ++ step.entry ∷ [])) known ≡ known) (λ same. absurd (apart.0 same)) (λ _. refl))
    ∙ log_elsewhere k steps known apart.1

-- A lock is given back. Where the pass has all CPUs it knows the turns of the lock from then on.
pub learns_gave : (t : TableView) (lock : DomainId) (r : PassView) (back : Content) (ticket : ℕ) (part : Part) (w : View) → (can : CanGive t lock r back part)
    → IsLegal t.shape lock can.hold.log → (has_all r.view ≡ true → (log : List Entry) → known_log (lock_number t.shape lock) r.view.known ≡ Some log → can.hold.log ≡ log)
    → w.known ≡ learned can.hold (entry_of r ticket part) r.view → w.bits ≡ r.view.bits → w.cpus ≡ r.view.cpus → w.shape ≡ r.view.shape → Learns t.shape r.view w (given_turn r ticket can.hold part ∷ []) []
learns_gave t lock r back ticket part w can legal told known bits cpus same =
    let real : lock_number t.shape lock < lock_count t.shape = number_within t.shape lock can.there in
    let named : lock_named t.shape can.hold.lock ≡ lock = ap (lock_named t.shape) can.lock_is ∙ named_by_number t.shape lock can.there in record {
      allowed = (
        record {
          below = subst (λ (n : ℕ). n < lock_count t.shape) (sym can.lock_is) real;
          there = subst (λ (d : DomainId). IsTrue (is_lock t.shape d)) (sym named) can.there;
          legal = subst (λ (d : DomainId). IsLegal t.shape d can.hold.log) (sym named) legal;
          allowed = can.may_put.allowed;
        },
        tt,
      );
      all = has_all_same r.view w cpus same;
      logs = λ has k. record {
        go_on = ((λ is. subst (λ (n : ℕ). MatchOption (known_log n r.view.known) (Unit {0}) (λ log. can.hold.log ≡ log)) (sym can.lock_is ∙ is) (by_known (known_log (lock_number t.shape lock) r.view.known) (told has))), tt);
        known_is = ap (known_log k) (known ∙ ap (λ (b : Bool). cond b (record { lock = can.hold.lock; log = can.hold.log ++ entry_of r ticket part ∷ [] } ∷ r.view.known) r.view.known) has);
      };
      bits = λ has e. record { see_on = tt; known_is = ap (bit_seen e) bits };
    }
  where
    by_known : (known : Option (List Entry)) → ((log : List Entry) → known ≡ Some log → can.hold.log ≡ log) → MatchOption known (Unit {0}) (λ log. can.hold.log ≡ log)
    by_known None told = tt
    by_known (Some log) told = told log refl

-- A turn with turns of other locks inside it, from where its lock is held to its give.
pub learns_given : (t : TableView) (lock : DomainId) (q r : PassView) (back : Content) (inner : List Turned) (ticket : ℕ) (part : Part) (w : View) → (can : CanGive t lock r back part)
    → IsLegal t.shape lock can.hold.log → ((log : List Entry) → known_log (lock_number t.shape lock) q.view.known ≡ Some log → can.hold.log ≡ log) → AreElsewhere (lock_number t.shape lock) inner → Learns t.shape q.view r.view inner []
    → w.known ≡ learned can.hold (entry_of r ticket part) r.view → w.bits ≡ r.view.bits → w.cpus ≡ r.view.cpus → w.shape ≡ r.view.shape → Learns t.shape q.view w (inner ++ given_turn r ticket can.hold part ∷ []) []
learns_given t lock q r back inner ticket part w can legal told apart knows known bits cpus same =
    let k : ℕ = lock_number t.shape lock in
    learns_on t.shape q.view r.view w inner (given_turn r ticket can.hold part ∷ []) [] [] knows
    (learns_gave t lock r back ticket part w can legal (λ has log is. told log (sym ((knows.logs (sym knows.all ∙ has) k).known_is ∙ log_elsewhere k inner (known_log k q.view.known) apart) ∙ is)) known bits cpus same)

-- a take tells nothing of turns
pub learns_took : (t : TableView) (lock : DomainId) (p q : PassView) (here : Content) → TookLock t lock p q here → Learns t.shape p.view q.view [] []
learns_took t lock p q here took =
    subst (λ (z : PassView). Learns t.shape p.view z.view [] []) (sym took.after_is) (learns_nothing t.shape p.view (holding took.at took.hold p.view) refl refl refl refl)

-- the same from its take
pub learns_turn : (t : TableView) (lock : DomainId) (p q r : PassView) (here back : Content) (inner : List Turned) (ticket : ℕ) (part : Part) (w : View) → TookLock t lock p q here → (can : CanGive t lock r back part)
    → IsLegal t.shape lock can.hold.log → ((log : List Entry) → known_log (lock_number t.shape lock) p.view.known ≡ Some log → can.hold.log ≡ log) → AreElsewhere (lock_number t.shape lock) inner → Learns t.shape q.view r.view inner []
    → w.known ≡ learned can.hold (entry_of r ticket part) r.view → w.bits ≡ r.view.bits → w.cpus ≡ r.view.cpus → w.shape ≡ r.view.shape → Learns t.shape p.view w (inner ++ given_turn r ticket can.hold part ∷ []) []
learns_turn t lock p q r here back inner ticket part w took can legal told apart knows known bits cpus same =
    learns_after t.shape p.view q.view w (inner ++ given_turn r ticket can.hold part ∷ []) [] (learns_took t lock p q here took)
    (learns_given t lock q r back inner ticket part w can legal (λ log is. told log (ap (λ (z : PassView). known_log (lock_number t.shape lock) z.view.known) (sym took.after_is) ∙ is)) apart knows known bits cpus same)

-- All locks at once

-- what is known of each lock of the map
abbrev Known : Shape → (ℕ → List Entry) → (ℕ → Option (List Entry)) → Type 0
Known shape logs known = (k : ℕ) → k < lock_count shape → IsTrue (is_lock shape (lock_named shape k)) → known k ≡ Some (logs k)

module _ (shape : Shape) where
  known_more : (logs : ℕ → List Entry) (known : ℕ → Option (List Entry)) (step : Turned) → step.earlier ≡ logs step.lock → Known shape logs known → Known shape (log_after logs step) (λ k. log_then k (known k) step)
  known_more logs known step earlier is k below there =
      at_put logs step.lock (logs step.lock ++ step.entry ∷ []) (λ j l. j ≡ k → log_then k (known k) step ≡ Some l) k
      (λ same. by_test step.lock k (λ b. cond b (Some (step.earlier ++ step.entry ∷ [])) (known k) ≡ Some (logs step.lock ++ step.entry ∷ [])) (λ _. ap (λ (l : List Entry). Some (l ++ step.entry ∷ [])) earlier) (λ other. absurd (other same)))
      (λ other _. by_test step.lock k (λ b. cond b (Some (step.earlier ++ step.entry ∷ [])) (known k) ≡ Some (logs k)) (λ same. absurd (other (sym same))) (λ _. is k below there))
      refl

  follow : (steps : List Turned) (logs : ℕ → List Entry) (known : ℕ → Option (List Entry)) → AreAllowedAt shape steps → ((k : ℕ) → GoOn k (known k) steps) → Known shape logs known
      → FollowOn shape logs steps × Known shape (logs_after logs steps) (λ k. log_after_all k (known k) steps)
  follow [] logs known allowed on is = (tt, is)
  follow (step ∷ steps) logs known allowed on is =
      let first = allowed.0 in
      let earlier : step.earlier ≡ logs step.lock =
      subst (λ (z : Option (List Entry)). MatchOption z (Unit {0}) (λ log. step.earlier ≡ log)) (is step.lock first.below first.there) ((on step.lock).0 refl) in
      let rest = follow steps (log_after logs step) (λ k. log_then k (known k) step) allowed.1 (λ k. (on k).1) (known_more logs known step earlier is) in (
        (
          record {
            below = first.below;
            there = first.there;
            earlier_is = earlier;
            allowed = subst (λ (l : List Entry). Allows shape step.entry.cpu step.entry.part (content shape (lock_named shape step.lock) l)) earlier first.allowed;
          },
          rest.0,
        ),
        rest.1,
      )

  -- where a pass knew the turns of all locks, its own ones followed on them, and it knows them all afterwards
  pub learns_all : (v w : View) (logs : ℕ → List Entry) (steps : List Turned) (touches : List BitTouch) → Learns shape v w steps touches → KnowsAll shape logs v → FollowOn shape logs steps × KnowsAll shape (logs_after logs steps) w
  learns_all v w logs steps touches learns knows =
      let on = follow steps logs (λ k. known_log k v.known) learns.allowed (λ k. (learns.logs knows.all k).go_on) knows.each in (
        on.0,
        record {
          all = learns.all ∙ knows.all;
          each = λ k below there. (learns.logs knows.all k).known_is ∙ on.1 k below there;
        },
      )
