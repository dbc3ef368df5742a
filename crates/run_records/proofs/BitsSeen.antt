-- The bits that a pass with all CPUs reads at the start of a phase, what it knows then, and what is as before.
use Rattle.std.proofs.Common.{◌≡◌, ℕ, suc, ◌<◌, Bool, true, false, cond, eqb, List, [], ◌∷◌, ◌++◌, refl, ap, sym, ◌∙◌, subst, arith}
use Rattle.std.specs.Prelude.{Some, filter}
use Rattle.std.specs.List.{range_with_len}
use Rattle.std.proofs.lemmas.List.Elements.{filter-append}
use Rattle.map_types.specs.declared.attr.Shape.{Shape}
use Rattle.map_types.proofs.RowLemmas.{by_test}
use Rattle.place_table.specs.declared.view.View.{View}
use Rattle.place_table.specs.Idle.{LearnsAll}
use Rattle.place_table.specs.Passes.{PassView, IsInNoCall, spare_of, TableView, SawBit, SawTicket}
use Rattle.place_table.specs.Views.{is_among, is_in_hand_of, bit_seen, has_all, has_all_below}
use Rattle.place_table.proofs.Worlds.{all_here}
use Rattle.map_report.specs.declared.record.PhaseStart.{PhaseStart}
use Rattle.run_records.specs.Phased.{IsAsBefore, IsWhole, SawBits, Started}
use Rattle.serial_laws.proofs.ListPlaces.{next_below, same_filter}

pub same_as_before : (p : PassView) → IsAsBefore p p
same_as_before p = record { table = refl; spares = refl; shape = refl; cpus = refl; held = refl; hand = refl; carried = refl; reached = refl; refused = refl; steps = refl; kept = refl; ended = refl; lost = refl }

-- One bit more

abbrev bits_then : ℕ → Bool → (ℕ → Bool) → ℕ → Bool
bits_then n bit bits e = cond (eqb n e) bit (bits e)

marked_more : (n : ℕ) (bit : Bool) (bits : ℕ → Bool) → filter bits (range_with_len 0 n) ++ cond bit (n ∷ []) [] ≡ filter (bits_then n bit bits) (range_with_len 0 (suc n))
marked_more n bit bits =
    let now : ℕ → Bool = bits_then n bit bits in
    let low : filter bits (range_with_len 0 n) ≡ filter now (range_with_len 0 n) =
    same_filter bits now 0 n (λ e least less. by_test n e (λ b. bits e ≡ cond b bit (bits e)) (λ same. absurd (omega arith)) (λ _. refl)) in
    let here : now n ≡ bit = by_test n n (λ b. cond b bit (bits n) ≡ bit) (λ _. refl) (λ other. absurd (other refl)) in
    (λ i. low i ++ cond (sym here i) (n ∷ []) [])
    ∙ sym (filter-append now (range_with_len 0 n) (n ∷ []))
    ∙ ap (filter now) (sym (next_below n))

pub saw_none : (p : PassView) (marked : List ℕ) → marked ≡ [] → SawBits 0 p p marked
saw_none p marked none = record {
  bits = λ e. false;
  marked_are = none;
  seen = λ e less. absurd (omega (arith, less));
  others = λ e least. refl;
  knew = λ e bit less was. absurd (omega (arith, less));
  known = refl;
  stays = same_as_before p;
}

has_all_still : (before p : PassView) → IsAsBefore before p → has_all before.view ≡ true → has_all p.view ≡ true
has_all_still before p stays all = (λ i. has_all_below (stays.shape i).cpus (stays.cpus i)) ∙ all

bits_known : (e n : ℕ) (bit : Bool) (v : View) → has_all v ≡ true → bit_seen e (cond (has_all v) (record { element = n; bit = bit } ∷ v.bits) v.bits) ≡ cond (eqb n e) (Some bit) (bit_seen e v.bits)
bits_known e n bit v all = ap (λ (b : Bool). bit_seen e (cond b (record { element = n; bit = bit } ∷ v.bits) v.bits)) all

pub saw_more : (n m : ℕ) (before p q : PassView) (marked after : List ℕ) (bit : Bool) → m ≡ suc n → has_all before.view ≡ true → SawBits n before p marked → SawBit n p q bit → after ≡ marked ++ cond bit (n ∷ []) [] → SawBits m before q after
saw_more n m before p q marked after bit next all saw here is =
    let still = has_all_still before p saw.stays all in
    let seen_then : (e : ℕ) → bit_seen e q.view.bits ≡ cond (eqb n e) (Some bit) (bit_seen e p.view.bits) =
    (λ e. ap (λ (z : PassView). bit_seen e z.view.bits) here.after_is ∙ bits_known e n bit p.view still) in
    subst (λ (k : ℕ). SawBits k before q after) (sym next) record {
      bits = bits_then n bit saw.bits;
      marked_are = is ∙ ap (λ (l : List ℕ). l ++ cond bit (n ∷ []) []) saw.marked_are ∙ marked_more n bit saw.bits;
      seen = λ e less. seen_then e ∙ by_test n e (λ b. cond b (Some bit) (bit_seen e p.view.bits) ≡ Some (cond b bit (saw.bits e))) (λ _. refl) (λ other. saw.seen e (omega arith));
      others = λ e least. seen_then e ∙ by_test n e (λ b. cond b (Some bit) (bit_seen e p.view.bits) ≡ bit_seen e before.view.bits) (λ same. absurd (omega arith)) (λ other. saw.others e (omega arith));
      knew = λ e was less told. by_test n e (λ b. cond b bit (saw.bits e) ≡ was) (λ same. here.known was (ap (λ (k : ℕ). bit_seen k p.view.bits) same ∙ saw.others e (omega arith) ∙ told)) (λ other. saw.knew e was (omega arith) told);
      known = ap (λ (z : PassView). z.view.known) here.after_is ∙ saw.known;
      stays = record {
        table = ap (λ (z : PassView). z.table) here.after_is ∙ saw.stays.table;
        spares = ap (λ (z : PassView). z.spares) here.after_is ∙ saw.stays.spares;
        shape = ap (λ (z : PassView). z.view.shape) here.after_is ∙ saw.stays.shape;
        cpus = ap (λ (z : PassView). z.view.cpus) here.after_is ∙ saw.stays.cpus;
        held = ap (λ (z : PassView). z.view.held) here.after_is ∙ saw.stays.held;
        hand = ap (λ (z : PassView). z.view.hand) here.after_is ∙ saw.stays.hand;
        carried = ap (λ (z : PassView). z.view.carried) here.after_is ∙ saw.stays.carried;
        reached = ap (λ (z : PassView). z.view.reached) here.after_is ∙ saw.stays.reached;
        refused = ap (λ (z : PassView). z.view.refused) here.after_is ∙ saw.stays.refused;
        steps = ap (λ (z : PassView). z.view.steps) here.after_is ∙ saw.stays.steps;
        kept = ap (λ (z : PassView). z.view.kept) here.after_is ∙ saw.stays.kept;
        ended = ap (λ (z : PassView). z.view.ended) here.after_is ∙ saw.stays.ended;
        lost = ap (λ (z : PassView). z.view.lost) here.after_is ∙ saw.stays.lost;
      };
    }

-- The ticket word first

pub ticket_stays : (before after : PassView) (found : ℕ) → SawTicket before after found → IsAsBefore before after
ticket_stays before after found saw = record {
  table = ap (λ (z : PassView). z.table) saw.after_is;
  spares = ap (λ (z : PassView). z.spares) saw.after_is;
  shape = ap (λ (z : PassView). z.view.shape) saw.after_is;
  cpus = ap (λ (z : PassView). z.view.cpus) saw.after_is;
  held = ap (λ (z : PassView). z.view.held) saw.after_is;
  hand = ap (λ (z : PassView). z.view.hand) saw.after_is;
  carried = ap (λ (z : PassView). z.view.carried) saw.after_is;
  reached = ap (λ (z : PassView). z.view.reached) saw.after_is ∙ saw.exact;
  refused = ap (λ (z : PassView). z.view.refused) saw.after_is;
  steps = ap (λ (z : PassView). z.view.steps) saw.after_is;
  kept = ap (λ (z : PassView). z.view.kept) saw.after_is;
  ended = ap (λ (z : PassView). z.view.ended) saw.after_is;
  lost = ap (λ (z : PassView). z.view.lost) saw.after_is;
}

pub stays_on : (first second third : PassView) → IsAsBefore first second → IsAsBefore second third → IsAsBefore first third
stays_on first second third one two = record {
  table = two.table ∙ one.table;
  spares = two.spares ∙ one.spares;
  shape = two.shape ∙ one.shape;
  cpus = two.cpus ∙ one.cpus;
  held = two.held ∙ one.held;
  hand = two.hand ∙ one.hand;
  carried = two.carried ∙ one.carried;
  reached = two.reached ∙ one.reached;
  refused = two.refused ∙ one.refused;
  steps = two.steps ∙ one.steps;
  kept = two.kept ∙ one.kept;
  ended = two.ended ∙ one.ended;
  lost = two.lost ∙ one.lost;
}

pub whole_has_all : (t : TableView) (p : PassView) → IsWhole t p → has_all p.view ≡ true
whole_has_all t p whole =
    ap (λ (s : Shape). has_all_below s.cpus p.view.cpus) whole.of_table.1 ∙ all_here t.shape.cpus p.view.cpus whole.all_cpus

pub all_still : (t : TableView) (before after : PassView) (found : ℕ) → IsWhole t before → SawTicket before after found → has_all after.view ≡ true
all_still t before after found whole saw = has_all_still before after (ticket_stays before after found saw) (whole_has_all t before whole)

pub started : (t : TableView) (before read after : PassView) (found elements : ℕ) (marked : List ℕ) (start : PhaseStart) → IsWhole t before → SawTicket before read found → elements ≡ t.shape.elements → SawBits elements read after marked
    → start.ticket ≡ found → start.marked ≡ marked → Started t before after start
started t before read after found elements marked start whole saw count bits ticket_is marked_is =
    let first = ticket_stays before read found saw in
    record {
      ticket_is = ticket_is ∙ saw.exact;
      learned = saw.learned;
      learns = subst (λ (s : Shape). LearnsAll s before.view saw.learned) whole.of_table.1 saw.learns;
      known_is = bits.known ∙ ap (λ (z : PassView). z.view.known) saw.after_is;
      bits = bits.bits;
      marked_are = marked_is ∙ bits.marked_are ∙ ap (λ (n : ℕ). filter bits.bits (range_with_len 0 n)) count;
      seen = λ e less. bits.seen e (subst (λ (n : ℕ). e < n) (sym count) less);
      knew = λ e bit less told. bits.knew e bit (subst (λ (n : ℕ). e < n) (sym count) less) (ap (λ (z : PassView). bit_seen e z.view.bits) saw.after_is ∙ told);
      stays = stays_on before read after first bits.stays;
    }

-- What is still so once the start was read

pub no_call_still : (before after : PassView) → IsAsBefore before after → IsInNoCall before → IsInNoCall after
no_call_still before after stays was = record {
  holds_nothing = stays.held ∙ was.holds_nothing;
  spares_only = λ e cpu there hand.
      let found = was.spares_only e cpu (ap (is_among cpu) (sym stays.cpus) ∙ there) (ap (is_in_hand_of e cpu) (sym stays.hand) ∙ hand) in
      (found.0, ap (spare_of cpu) stays.spares ∙ found.1, found.2, ap (λ (s : Shape). s.kind) stays.shape ∙ found.3);
  spares_in_hand = λ cpu body is. ap (is_in_hand_of body.element cpu) stays.hand ∙ was.spares_in_hand cpu body (ap (spare_of cpu) (sym stays.spares) ∙ is);
  none_out = λ hash cpu there.
      let found = was.none_out (ap (λ (s : Shape). s.kind) (sym stays.shape) ∙ hash) cpu (ap (is_among cpu) (sym stays.cpus) ∙ there) in
      (found.0, ap (spare_of cpu) stays.spares ∙ found.1);
  carries_nothing = stays.carried ∙ was.carries_nothing;
}

pub whole_still : (t : TableView) (before after : PassView) (start : PhaseStart) → Started t before after start → IsWhole t before → IsWhole t after
whole_still t before after start begins whole =
    let stays = begins.stays in
    record {
      of_table = (stays.table ∙ whole.of_table.0, stays.shape ∙ whole.of_table.1);
      all_cpus = λ cpu real. ap (is_among cpu) stays.cpus ∙ whole.all_cpus cpu real;
      in_no_call = no_call_still before after stays whole.in_no_call;
    }
