-- Calls on keys one after another are a batch write of them: their turns, in order, are its turns, and the spare that one leaves is
-- the next one's.
use Rattle.std.proofs.Common.{◌≡◌, ◌≢◌, ℕ, suc, cond, List, [], ◌∷◌, ◌++◌, map, sym, refl, ap, ◌∙◌, subst, append_assoc, append-nil, Option, None, Some, MatchOption}
use Rattle.std.specs.Prelude.{IsFalse, All, MatchBool}
use Rattle.std.proofs.lemmas.Bool.{ne_eqb}
use Rattle.std.proofs.lemmas.List.{map-append}
use Rattle.std.proofs.lemmas.List.Elements.{All-nil, All-append}
use Rattle.map_types.specs.declared.attr.Shape.{Shape}
use Rattle.map_types.specs.declared.call.Verb.{Verb}
use Rattle.map_types.specs.declared.refusal.Errno.{Errno}
use Rattle.map_types.specs.declared.refusal.Errno.TheVariants.{Einval}
use Rattle.map_types.specs.declared.reply.Reply.{Reply}
use Rattle.map_types.specs.declared.reply.Reply.TheVariants.{Refused, Count}
use Rattle.map_types.specs.Kind.{is_lru}
use Rattle.place_words.specs.PlainTraces.{spare_after, spare_after_part}
use Rattle.place_words.specs.Turns.{TurnAt, turns_of}
use Rattle.place_words.specs.Traces.{IsTrace}
use Rattle.place_words.specs.Walks.{IsKeyTrace, spare_left, refused_with, Writes, IsWriteBatch}
use Rattle.place_table.specs.declared.view.Turned.{Turned}
use Rattle.place_table.specs.Calls.{CanCall, Called, Leaves, AreTold, FindNoneMoved, bits_of_turns, finds_moved_on, spare_element}
use Rattle.place_table.specs.Known.{BitTouch, Learns, turn_at, IsBy, logs_after}
use Rattle.place_table.specs.Passes.{PassView, TableView}
use Rattle.place_table.proofs.Going.{goes_nowhere, goes_of_table, goes_begun, made_on, learns_none, learns_on, learns_all}
use Rattle.place_table.proofs.TurnsOn.{among_before, among_behind, told_where, told_append}
use Rattle.place_table.proofs.Worlds.{by_bool}
use Rattle.lru_ops.proofs.Ends.{bits_append}

-- Spares

spare_append : (spare : Option ℕ) (first second : List TurnAt) → spare_after spare (turns_of (first ++ second)) ≡ spare_after (spare_after spare (turns_of first)) (turns_of second)
spare_append spare [] second = refl
spare_append spare (at ∷ first) second = spare_append (spare_after_part spare at.turn.part) first second

-- the spare that turns leave goes on to those after them
pub left_append : (shape : Shape) (spare : Option ℕ) (first second : List TurnAt) → spare_left shape spare (first ++ second) ≡ spare_left shape (spare_left shape spare first) second
left_append shape spare first second =
    by_bool (is_lru shape.kind)
    (λ b. cond b spare (spare_after spare (turns_of (first ++ second))) ≡ cond b (cond b spare (spare_after spare (turns_of first))) (spare_after (cond b spare (spare_after spare (turns_of first))) (turns_of second)))
    (λ _. refl) (λ _. spare_append spare first second)

left_none : (shape : Shape) (spare : Option ℕ) → spare ≡ spare_left shape spare []
left_none shape spare = by_bool (is_lru shape.kind) (λ b. spare ≡ cond b spare spare) (λ _. refl) (λ _. refl)

-- Entries

same_done : {stop other : Option Errno} {a b : ℕ} → Count stop a ≡ Count other b → a ≡ b
same_done same = cc

never_stopped : {errno : Errno} {a b : ℕ} → Count None a ≡ Count (Some errno) b → ⊥
never_stopped same = cc

-- where all entries so far are done, others go on
module _ (more others : List TurnAt) (reply : Reply) (n now : ℕ) where
  go_on : {A B : Type 0} (refused : Option Errno) → (A → B) → MatchOption refused A (λ errno. (more ≡ []) × (Count None now ≡ Count (Some errno) n))
      → MatchOption refused B (λ errno. (more ++ others ≡ []) × (reply ≡ Count (Some errno) n))
  go_on None later is = later is
  go_on (Some errno) later is = absurd (never_stopped is.1)

abbrev nothing : List TurnAt
nothing = []

module _ (shape : Shape) (cpu : ℕ) where
  -- one entry that is done
  pub entry_done : (spare : Option ℕ) (entry : Verb) (n : ℕ) (turns : List TurnAt) (answer : Reply) → IsKeyTrace shape cpu spare entry turns answer → refused_with answer ≡ None
      → Writes shape cpu spare (entry ∷ []) n turns (Count None (suc n))
  entry_done spare entry n turns answer trace none = (
    answer,
    turns,
    [],
    (
      sym (append-nil turns),
      trace,
      subst (λ (r : Option Errno). MatchOption r (Writes shape cpu (spare_left shape spare turns) [] (suc n) [] (Count None (suc n))) (λ errno. (nothing ≡ nothing) × (Count None (suc n) ≡ Count (Some errno) n))) (sym none) (refl, refl),
    ),
  )

  -- one that is refused, after which no other is begun
  pub entry_refused : (spare : Option ℕ) (entry : Verb) (later : List Verb) (n : ℕ) (turns : List TurnAt) (answer : Reply) (errno : Errno) → IsKeyTrace shape cpu spare entry turns answer → refused_with answer ≡ Some errno
      → Writes shape cpu spare (entry ∷ later) n turns (Count (Some errno) n)
  entry_refused spare entry later n turns answer errno trace is = (
    answer,
    turns,
    [],
    (
      sym (append-nil turns),
      trace,
      subst (λ (r : Option Errno). MatchOption r (Writes shape cpu (spare_left shape spare turns) later (suc n) [] (Count (Some errno) n)) (λ other. (nothing ≡ nothing) × (Count (Some errno) n ≡ Count (Some other) n))) (sym is) (refl, refl),
    ),
  )

  -- entries that are done, and others after them
  pub writes_on : (first rest : List Verb) (spare : Option ℕ) (n now : ℕ) (turns others : List TurnAt) (reply : Reply) → Writes shape cpu spare first n turns (Count None now)
      → Writes shape cpu (spare_left shape spare turns) rest now others reply → Writes shape cpu spare (first ++ rest) n (turns ++ others) reply
  writes_on [] rest spare n now turns others reply done later =
      let none : turns ≡ [] = done.0 in
      let same : now ≡ n = same_done done.1 in
      let left : spare_left shape spare turns ≡ spare = ap (spare_left shape spare) none ∙ sym (left_none shape spare) in
      subst (λ (l : List TurnAt). Writes shape cpu spare rest n (l ++ others) reply) (sym none)
      (subst (λ (m : ℕ). Writes shape cpu spare rest m others reply) same (subst (λ (s : Option ℕ). Writes shape cpu s rest now others reply) left later))
  writes_on (entry ∷ first) rest spare n now turns others reply done later =
      let answer = done.0 in
      let one = done.1 in
      let more = done.2 in
      let are : turns ≡ one ++ more = done.3.0 in (
        answer,
        one,
        more ++ others,
        (
          ap (λ (l : List TurnAt). l ++ others) are ∙ append_assoc one more others,
          done.3.1,
          go_on more others reply n now (refused_with answer)
              (λ is. writes_on first rest (spare_left shape spare one) (suc n) now more others reply is
              (subst (λ (s : Option ℕ). Writes shape cpu s rest now others reply) (ap (spare_left shape spare) are ∙ left_append shape spare one more) later))
              done.3.2,
        ),
      )

-- flags that aren't 0 are refused before any is begun
pub batch_refused : (shape : Shape) (cpu : ℕ) (spare : Option ℕ) (flags : ℕ) (entries : List Verb) → flags ≢ 0 → IsWriteBatch shape cpu spare flags entries [] (Refused Einval)
batch_refused shape cpu spare flags entries other =
    subst (λ b. MatchBool b (Writes shape cpu spare entries 0 [] (Refused Einval)) ((nothing ≡ nothing) × (Refused Einval ≡ Refused Einval))) (sym (ne_eqb flags 0 other)) (refl, refl)

-- Calls

-- what the calls of these entries left, up to the first that was refused
pub record Wrote (t : TableView) (p q : PassView) (entries : List Verb) (reply : Reply) : Type 0 where
  pub steps : List Turned
  pub lost : List ℕ
  pub told : List Turned
  pub told_are : AreTold t.shape lost steps told
  pub leaves : Leaves t p q steps lost (bits_of_turns t.shape told)
  pub trace : Writes t.shape p.cpu (spare_element p) entries 0 (map (turn_at t.shape) told) reply
  pub none_moved : FindNoneMoved t p told
  pub spare : spare_element q ≡ spare_left t.shape (spare_element p) (map (turn_at t.shape) told)

-- with all its entries it is a call
pub called_wrote : {t : TableView} {p q : PassView} {entries : List Verb} {reply : Reply} (verb : Verb) (answer : Reply) (wrote : Wrote t p q entries reply)
    → IsTrace t.shape p.cpu (spare_element p) verb (map (turn_at t.shape) wrote.told) answer → (called : Called t p q verb answer) × (called.lost ≡ wrote.lost)
called_wrote {t} {p} {q} {entries} {reply} verb answer wrote trace = (
  record {
    steps = wrote.steps;
    lost = wrote.lost;
    told = wrote.told;
    told_are = wrote.told_are;
    leaves = wrote.leaves;
    trace = trace;
    none_moved = wrote.none_moved;
    spare = wrote.spare;
  },
  refl,
)

no_bits : (shape : Shape) → [] ≡ bits_of_turns shape []
no_bits shape = by_bool (is_lru shape.kind) (λ b. ◌≡◌ {A = List BitTouch} [] (cond b [] [])) (λ _. refl) (λ _. refl)

-- no call left the pass as it was
pub leaves_nothing : {t : TableView} {p : PassView} → CanCall t p → Leaves t p p [] [] (bits_of_turns t.shape [])
leaves_nothing {t} {p} can = record {
  made = record { goes = goes_nowhere p; held = refl; notes = refl };
  in_no_call = can.in_no_call;
  by_call = All-nil (IsBy p.cpu p.call);
  other_spares = λ other _. refl;
  bits = λ _. refl;
  learns = subst (Learns t.shape p.view p.view []) (no_bits t.shape) (learns_none t.shape p.view);
}

pub wrote_none : {t : TableView} {p : PassView} → CanCall t p → (wrote : Wrote t p p [] (Count None 0)) × (wrote.lost ≡ [])
wrote_none {t} {p} can = (
  record {
    steps = [];
    lost = [];
    told = [];
    told_are = tt;
    leaves = leaves_nothing can;
    trace = (refl, refl);
    none_moved = λ _ _ _. All-nil (λ (turn : Turned). IsFalse (finds_moved_on turn.entry.part));
    spare = left_none t.shape (spare_element p);
  },
  refl,
)

-- nor did a call that is refused before anything is looked at
pub called_nothing : {t : TableView} {p : PassView} (verb : Verb) (answer : Reply) → CanCall t p → IsTrace t.shape p.cpu (spare_element p) verb [] answer → (called : Called t p p verb answer) × (called.lost ≡ [])
called_nothing {t} {p} verb answer can trace = (
  record {
    steps = [];
    lost = [];
    told = [];
    told_are = tt;
    leaves = leaves_nothing can;
    trace = trace;
    none_moved = λ _ _ _. All-nil (λ (turn : Turned). IsFalse (finds_moved_on turn.entry.part));
    spare = left_none t.shape (spare_element p);
  },
  refl,
)

-- after a call the pass may make another
pub can_again : {t : TableView} {p q : PassView} {steps : List Turned} {lost : List ℕ} {touches : List BitTouch} → CanCall t p → Leaves t p q steps lost touches → CanCall t q
can_again {t} {p} {q} {steps} {lost} can leaves = record {
  of_table = goes_of_table t p q steps lost leaves.made.goes can.of_table;
  begun = goes_begun p q steps lost leaves.made.goes can.begun;
  in_no_call = leaves.in_no_call;
}

-- what two calls leave one after the other
pub leaves_on : {t : TableView} {p q r : PassView} {first second : List Turned} {lost more : List ℕ} (told others : List Turned) → Leaves t p q first lost (bits_of_turns t.shape told) → Leaves t q r second more (bits_of_turns t.shape others)
    → Leaves t p r (first ++ second) (more ++ lost) (bits_of_turns t.shape (told ++ others))
leaves_on {t} {p} {q} {r} {first} {second} {lost} {more} told others a b = record {
  made = made_on p q r first second lost more a.made b.made;
  in_no_call = b.in_no_call;
  by_call = All-append (IsBy p.cpu p.call) first second a.by_call (subst (λ (z : ℕ × ℕ). All (IsBy z.0 z.1) second) (λ i. (a.made.goes.cpu i, a.made.goes.call i)) b.by_call);
  other_spares = λ other apart. b.other_spares other (λ same. apart (same ∙ a.made.goes.cpu)) ∙ a.other_spares other apart;
  bits = λ plain. b.bits plain ∙ a.bits plain;
  learns = subst (Learns t.shape p.view r.view (first ++ second)) (sym (bits_append t.shape told others))
      (learns_on t.shape p.view q.view r.view first second (bits_of_turns t.shape told) (bits_of_turns t.shape others) a.learns b.learns);
}

-- One call more: what its turns make of the entries before it is what the batch answers.
module _ {t : TableView} {p q r : PassView} {first : List Verb} {now : ℕ} (wrote : Wrote t p q first (Count None now)) {entry : Verb} {answer : Reply} (called : Called t q r entry answer) where
  joined : (rest : List Verb) (reply : Reply) → Writes t.shape q.cpu (spare_element q) rest now (map (turn_at t.shape) called.told) reply
      → (both : Wrote t p r (first ++ rest) reply) × (both.lost ≡ called.lost ++ wrote.lost)
  joined rest reply later =
      let shape = t.shape in
      let lost = called.lost ++ wrote.lost in
      let apart : map (turn_at shape) (wrote.told ++ called.told) ≡ map (turn_at shape) wrote.told ++ map (turn_at shape) called.told = map-append (turn_at shape) wrote.told called.told in (
        record {
          steps = wrote.steps ++ called.steps;
          lost = lost;
          told = wrote.told ++ called.told;
          told_are = told_append shape lost wrote.steps called.steps wrote.told called.told (told_where shape wrote.lost lost (λ n. among_behind n called.lost wrote.lost) wrote.steps wrote.told wrote.told_are)
              (told_where shape called.lost lost (λ n. among_before n called.lost wrote.lost) called.steps called.told called.told_are);
          leaves = leaves_on wrote.told called.told wrote.leaves called.leaves;
          trace = subst (λ (turns : List TurnAt). Writes shape p.cpu (spare_element p) (first ++ rest) 0 turns reply) (sym apart)
              (writes_on shape p.cpu first rest (spare_element p) 0 now (map (turn_at shape) wrote.told) (map (turn_at shape) called.told) reply wrote.trace
              (subst (λ (x : ℕ × Option ℕ). Writes shape x.0 x.1 rest now (map (turn_at shape) called.told) reply) (λ i. (wrote.leaves.made.goes.cpu i, wrote.spare i)) later));
          none_moved = λ common logs knows.
              All-append (λ (turn : Turned). IsFalse (finds_moved_on turn.entry.part)) wrote.told called.told (wrote.none_moved common logs knows)
              (called.none_moved common (logs_after logs wrote.steps) (learns_all shape p.view q.view logs wrote.steps (bits_of_turns shape wrote.told) wrote.leaves.learns knows).1);
          spare = called.spare ∙ ap (λ (s : Option ℕ). spare_left shape s (map (turn_at shape) called.told)) wrote.spare
              ∙ sym (left_append shape (spare_element p) (map (turn_at shape) wrote.told) (map (turn_at shape) called.told)) ∙ ap (spare_left shape (spare_element p)) (sym apart);
        },
        refl,
      )

  pub wrote_more : IsKeyTrace t.shape q.cpu (spare_element q) entry (map (turn_at t.shape) called.told) answer → refused_with answer ≡ None
      → (both : Wrote t p r (first ++ entry ∷ []) (Count None (suc now))) × (both.lost ≡ called.lost ++ wrote.lost)
  wrote_more trace none = joined (entry ∷ []) (Count None (suc now)) (entry_done t.shape q.cpu (spare_element q) entry now (map (turn_at t.shape) called.told) answer trace none)

  pub wrote_stopped : (later : List Verb) (errno : Errno) → IsKeyTrace t.shape q.cpu (spare_element q) entry (map (turn_at t.shape) called.told) answer → refused_with answer ≡ Some errno
      → (both : Wrote t p r (first ++ entry ∷ later) (Count (Some errno) now)) × (both.lost ≡ called.lost ++ wrote.lost)
  wrote_stopped later errno trace is =
      joined (entry ∷ later) (Count (Some errno) now) (entry_refused t.shape q.cpu (spare_element q) entry later now (map (turn_at t.shape) called.told) answer errno trace is)
