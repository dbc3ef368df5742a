-- How an element is freed is read.
use Rattle.std.proofs.Common.{◌≡◌, ℕ, Bool, true, false, List, [], ◌∷◌, ◌++◌, Option, None, Some, refl, ap, ◌∙◌, sym}
use Rattle.std.specs.Prelude.{◌⊎◌, ◌&&◌, is_some, if◌then◌else◌}
use Rattle.std.proofs.Common.{inl, inr}
use Rattle.std.proofs.lemmas.Bool.{eq-eqb}
use Rattle.std.proofs.lemmas.Option.{same_Some}
use Rattle.map_types.specs.declared.attr.Shape.{Shape}
use Rattle.map_types.specs.declared.kind.DomainId.{DomainId}
use Rattle.map_types.specs.declared.kind.DomainId.TheVariants.{Local, Global, CpuLru, Bucket, Freelist}
use Rattle.place_words.specs.declared.history.Part.{Part}
use Rattle.place_words.specs.declared.history.Part.TheVariants as parts
use Rattle.place_words.specs.declared.list_part.GlobalPart.TheVariants as global
use Rattle.place_words.specs.declared.list_part.LocalPart.TheVariants as local
use Rattle.place_words.specs.declared.list_part.OwnPart.TheVariants as own
use Rattle.place_words.specs.Evicting.{FreesOne}
use Rattle.place_words.specs.Takings.{ends_flushed, FreesPending, FreesFlushed, freed_globally, set_of, Frees}
use Rattle.place_words.specs.Turns.{Turn, TurnAt, turns_of, on_lock}
use Rattle.place_words.specs.Walks.{FreesAll}
use Rattle.trace_check.specs.Reading.{when}
use Rattle.evicting_traces.specs.Reading.{Seen, seen_at, all_seen, IsReaderAt, was_flushed, read_or, told, then_read, with_rest, read_seen, read_turn}
use Rattle.evicting_traces.specs.Parts.{on, of_local, of_global, of_own, local_of, pushed_in, freed_in, own_freed_in}
use Rattle.evicting_traces.specs.Calls.{on_some_local, unflushed_from, read_freed_globally, read_pending, read_flushed, read_frees, read_frees_all, read_frees_one}
use Rattle.evicting_traces.specs.Laws.{ReadsFrees}
use Rattle.evicting_traces.proofs.Readers.{nothing_reader, IsAs, as_reader, same_reader, match_reader, IsThen, then_reader, or_reader, IsOne, one_reader}
use Rattle.evicting_traces.proofs.Tests.{Tells, tells_local, tells_global, tells_own, tells_on, tells_pushed, tells_freed, tells_own_freed}

-- one turn by what it is alone
pub record OneTurn (turns : List TurnAt) (turn : Turn) : Type 0 where
  pub at : TurnAt
  pub turns_are : turns ≡ at ∷ []
  pub turn_is : at.turn ≡ turn

head_or : Turn → List Turn → Turn
head_or other [] = other
head_or other (turn ∷ turns) = turn

pub one_of : (turns : List TurnAt) (turn : Turn) → turns_of turns ≡ turn ∷ [] → OneTurn turns turn
unfolding head_or
one_of [] turn is = absurd cc
one_of (at ∷ []) turn is = record { at = at; turns_are = refl; turn_is = ap (head_or turn) is }
one_of (at ∷ (next ∷ more)) turn is = absurd cc

pub of_one : (turns : List TurnAt) (turn : Turn) (at : TurnAt) → turns ≡ at ∷ [] → at.turn ≡ turn → turns_of turns ≡ turn ∷ []
of_one turns turn at turns_are turn_is = ap turns_of turns_are ∙ ap (λ (t : Turn). t ∷ []) turn_is

abbrev pub AreOne : {A : Type 0} → (A → Turn) → List TurnAt → A → Type 0
AreOne of turns a = turns_of turns ≡ of a ∷ []

pub turn_reader : {A : Type 0} (shape : Shape) (cpu : ℕ) (of : A → Turn) (says : Turn → Option A) → Tells of says → IsReaderAt shape cpu (AreOne of) (read_turn says)
turn_reader {A = A} shape cpu of says tells =
    same_reader (IsOne Is) (AreOne of) (read_turn says)
    (λ turns a is. of_one turns (of a) is.at is.turns_are is.is)
    (λ turns a is. let one = one_of turns (of a) is in record { at = one.at; turns_are = one.turns_are; is = one.turn_is })
    (one_reader Is (λ seen. says seen.turn) (λ at a is. ap says is ∙ tells.says_it a) (λ at a legal is. tells.says_only at.turn a is))
  where
    Is : TurnAt → A → Type 0
    Is at a = at.turn ≡ of a

-- a reader of one turn doesn't read these
pub first_none : {A : Type 0} (shape : Shape) (says : Seen → Option A) (turns more : List TurnAt) (rest : List Seen) (at : TurnAt) → turns ≡ at ∷ more → says (seen_at shape at) ≡ None → read_seen says (all_seen shape turns ++ rest) ≡ None
first_none shape says turns more rest at is none =
    ap (λ (l : List TurnAt). read_seen says (all_seen shape l ++ rest)) is ∙ ap (with_rest (all_seen shape more ++ rest)) none

-- on the local lists of some CPU
local_only : (lock : DomainId) (cpu : ℕ) → local_of lock ≡ Some cpu → lock ≡ Local cpu
local_only (Local other) cpu is = ap Local (same_Some other cpu is)
local_only Global cpu is = absurd cc
local_only (CpuLru other) cpu is = absurd cc
local_only (Bucket number) cpu is = absurd cc
local_only (Freelist other) cpu is = absurd cc

tells_some_local : (part : Part) (says : Part → Option (Unit {0})) → Tells (λ (u : Unit {0}). part) says → Tells (λ cpu. on_lock (Local cpu) part) (on_some_local says)
tells_some_local part says tells = record {
  says_it = λ cpu. ap (λ (o : Option (Unit {0})). if is_some o then Some cpu else None) (tells.says_it tt);
  says_only = λ turn cpu is. by turn cpu (says turn.part) refl is;
}
  where
    by : (turn : Turn) (cpu : ℕ) (o : Option (Unit {0})) → says turn.part ≡ o → (if is_some o then local_of turn.lock else None) ≡ Some cpu → turn ≡ on_lock (Local cpu) part
    by turn cpu None told is = absurd cc
    by turn cpu (Some u) told is = ap (λ l. on_lock l turn.part) (local_only turn.lock cpu is) ∙ ap (on_lock (Local cpu)) (tells.says_only turn.part u told)

module _ (shape : Shape) (cpu e : ℕ) where
  abbrev push : Bool → Part
  push done = parts.Local (local.Push e done)

  tells_push : (done : Bool) → Tells (λ (u : Unit {0}). push done) (of_local (pushed_in e done))
  tells_push done = tells_local (λ (u : Unit {0}). local.Push e done) (pushed_in e done) (tells_pushed e done)

  pending_reader : IsReaderAt shape cpu (λ turns (u : Unit {0}). FreesPending e turns) (read_pending e)
  pending_reader =
      same_reader (IsAs (λ on. tt) (AreOne pushed)) (λ turns (u : Unit {0}). FreesPending e turns) (read_pending e)
      (λ turns u is. record { on = is.0; turns_are = is.1.0 })
      (λ turns u is. (is.on, (is.turns_are, refl)))
      (as_reader (λ on. tt) (AreOne pushed) (read_turn (on_some_local (of_local (pushed_in e true))))
      (turn_reader shape cpu pushed (on_some_local (of_local (pushed_in e true))) (tells_some_local (push true) (of_local (pushed_in e true)) (tells_push true))))
    where
      pushed : ℕ → Turn
      pushed on = on_lock (Local on) (push true)

  globally_reader : IsReaderAt shape cpu (λ turns (u : Unit {0}). turns_of turns ≡ freed_globally e ∷ []) (read_freed_globally e)
  globally_reader =
      turn_reader shape cpu (λ (u : Unit {0}). freed_globally e) (on Global (of_global (freed_in e)))
      (tells_on Global (λ (u : Unit {0}). parts.Global (global.Push e)) (of_global (freed_in e)) (tells_global (λ (u : Unit {0}). global.Push e) (freed_in e) (tells_freed e)))

  abbrev Unflushed : TurnAt → ℕ → Type 0
  Unflushed at on = (at.turn ≡ on_lock (Local on) (push false)) × (ends_flushed e false at.earlier ≡ true)

  tells_unflushed : Tells (λ on. on_lock (Local on) (push false)) (on_some_local (of_local (pushed_in e false)))
  tells_unflushed = tells_some_local (push false) (of_local (pushed_in e false)) (tells_push false)

  unflushed_so : (at : TurnAt) (on : ℕ) → Unflushed at on → unflushed_from e (seen_at shape at) ≡ Some on
  unflushed_so at on is =
      ap (λ (t : Turn). if was_flushed at.earlier t.part then on_some_local (of_local (pushed_in e false)) t else None) is.0
      ∙ ap (λ (b : Bool). if b then on_some_local (of_local (pushed_in e false)) (on_lock (Local on) (push false)) else None) is.1
      ∙ tells_unflushed.says_it on

  unflushed_only : (at : TurnAt) (on : ℕ) → unflushed_from e (seen_at shape at) ≡ Some on → Unflushed at on
  unflushed_only at on is = by (was_flushed at.earlier at.turn.part) refl is
    where
      by : (b : Bool) → was_flushed at.earlier at.turn.part ≡ b → (if b then on_some_local (of_local (pushed_in e false)) at.turn else None) ≡ Some on → Unflushed at on
      by true flushed told =
          let turn_is : at.turn ≡ on_lock (Local on) (push false) = tells_unflushed.says_only at.turn on told in
          (turn_is, sym (ap (λ (t : Turn). was_flushed at.earlier t.part) turn_is) ∙ flushed)
      by false flushed told = absurd cc

  abbrev Globally : List TurnAt → Unit {0} → Type 0
  Globally turns u = turns_of turns ≡ freed_globally e ∷ []

  flushed_reader : IsReaderAt shape cpu (λ turns (u : Unit {0}). FreesFlushed e turns) (read_flushed e)
  flushed_reader =
      same_reader (IsThen (IsOne Unflushed) (λ on. Globally)) (λ turns (u : Unit {0}). FreesFlushed e turns) (read_flushed e) there back
      (then_reader (IsOne Unflushed) (λ on. Globally) (read_seen (unflushed_from e)) (λ on. read_freed_globally e)
      (one_reader Unflushed (unflushed_from e) unflushed_so (λ at on legal is. unflushed_only at on is)) (λ on. globally_reader))
    where
      there : (turns : List TurnAt) (u : Unit {0}) → IsThen (IsOne Unflushed) (λ on. Globally) turns u → FreesFlushed e turns
      there turns u is =
          let last = one_of is.behind (freed_globally e) is.second in
          record {
            on = is.middle;
            first = is.first.at;
            second = last.at;
            turns_are = is.turns_are ∙ ap (λ (l : List TurnAt). l ++ is.behind) is.first.turns_are ∙ ap (λ (l : List TurnAt). is.first.at ∷ l) last.turns_are;
            first_is = is.first.is.0;
            was_flushed = is.first.is.1;
            second_is = last.turn_is;
          }

      back : (turns : List TurnAt) (u : Unit {0}) → FreesFlushed e turns → IsThen (IsOne Unflushed) (λ on. Globally) turns u
      back turns u is = record {
        middle = is.on;
        front = is.first ∷ [];
        behind = is.second ∷ [];
        turns_are = is.turns_are;
        first = record { at = is.first; turns_are = refl; is = (is.first_is, is.was_flushed) };
        second = of_one (is.second ∷ []) (freed_globally e) is.second refl is.second_is;
      }

  -- no two of the three ways begin with the same turn
  pending_or : (turns : List TurnAt) (rest : List Seen) (u : Unit {0}) → FreesFlushed e turns ⊎ Globally turns u → read_pending e (all_seen shape turns ++ rest) ≡ None
  pending_or turns rest u (inl is) =
      ap (told (λ on. tt)) (first_none shape (λ seen. on_some_local (of_local (pushed_in e true)) seen.turn) turns (is.second ∷ []) rest is.first is.turns_are
      (ap (on_some_local (of_local (pushed_in e true))) is.first_is
      ∙ ap (λ (b : Bool). if is_some (when (b && false) tt) then Some is.on else None) (eq-eqb e e refl)))
  pending_or turns rest u (inr is) =
      let one = one_of turns (freed_globally e) is in
      ap (told (λ on. tt)) (first_none shape (λ seen. on_some_local (of_local (pushed_in e true)) seen.turn) turns [] rest one.at one.turns_are
      (ap (on_some_local (of_local (pushed_in e true))) one.turn_is))

  flushed_or : (turns : List TurnAt) (rest : List Seen) (u : Unit {0}) → Globally turns u → read_flushed e (all_seen shape turns ++ rest) ≡ None
  flushed_or turns rest u is =
      let one = one_of turns (freed_globally e) is in
      ap (then_read (λ on. read_freed_globally e)) (first_none shape (unflushed_from e) turns [] rest one.at one.turns_are
      (ap (λ (t : Turn). if was_flushed one.at.earlier t.part then on_some_local (of_local (pushed_in e false)) t else None) one.turn_is))

  shared_reader : IsReaderAt shape cpu (λ turns (u : Unit {0}). FreesPending e turns ⊎ (FreesFlushed e turns ⊎ Globally turns u)) (read_or (read_pending e) (read_or (read_flushed e) (read_freed_globally e)))
  shared_reader =
      or_reader (λ turns (u : Unit {0}). FreesPending e turns) (λ turns (u : Unit {0}). FreesFlushed e turns ⊎ Globally turns u) (read_pending e) (read_or (read_flushed e) (read_freed_globally e)) pending_reader
      (or_reader (λ turns (u : Unit {0}). FreesFlushed e turns) Globally (read_flushed e) (read_freed_globally e) flushed_reader globally_reader flushed_or) pending_or

  abbrev Own : List TurnAt → Unit {0} → Type 0
  Own turns u = turns_of turns ≡ on_lock (CpuLru (set_of shape e)) (parts.Own (own.Push e)) ∷ []

  own_reader : IsReaderAt shape cpu Own (read_turn (on (CpuLru (set_of shape e)) (of_own (own_freed_in e))))
  own_reader =
      turn_reader shape cpu (λ (u : Unit {0}). on_lock (CpuLru (set_of shape e)) (parts.Own (own.Push e))) (on (CpuLru (set_of shape e)) (of_own (own_freed_in e)))
      (tells_on (CpuLru (set_of shape e)) (λ (u : Unit {0}). parts.Own (own.Push e)) (of_own (own_freed_in e)) (tells_own (λ (u : Unit {0}). own.Push e) (own_freed_in e) (tells_own_freed e)))

pub reads_frees : ReadsFrees
reads_frees shape cpu e =
    match_reader shape.common (λ turns (u : Unit {0}). FreesPending e turns ⊎ (FreesFlushed e turns ⊎ (turns_of turns ≡ freed_globally e ∷ []))) (Own shape cpu e)
    (read_or (read_pending e) (read_or (read_flushed e) (read_freed_globally e))) (read_turn (on (CpuLru (set_of shape e)) (of_own (own_freed_in e))))
    (shared_reader shape cpu e) (own_reader shape cpu e)

-- elements that are freed one after another, and an answer
abbrev pub FreesAnd : {A : Type 0} → Shape → A → List ℕ → List TurnAt → A → Type 0
FreesAnd shape answer es turns a = FreesAll shape es turns × (a ≡ answer)

pub frees_all_reader : {A : Type 0} (shape : Shape) (cpu : ℕ) (answer : A) (es : List ℕ) → IsReaderAt shape cpu (FreesAnd shape answer es) (read_frees_all shape answer es)
frees_all_reader shape cpu answer [] = nothing_reader answer
frees_all_reader {A = A} shape cpu answer (e ∷ es) =
    same_reader (IsThen Free (λ u. FreesAnd shape answer es)) (FreesAnd shape answer (e ∷ es)) (read_frees_all shape answer (e ∷ es))
    (λ turns a is. ((is.front, is.behind, (is.turns_are, is.first, is.second.0)), is.second.1))
    (λ turns a is. record { middle = tt; front = is.0.0; behind = is.0.1; turns_are = is.0.2.0; first = is.0.2.1; second = (is.0.2.2, is.1) })
    (then_reader Free (λ u. FreesAnd shape answer es) (read_frees shape e) (λ u. read_frees_all shape answer es) (reads_frees shape cpu e) (λ u. frees_all_reader shape cpu answer es))
  where
    Free : List TurnAt → Unit {0} → Type 0
    Free turns u = Frees shape e turns

abbrev pub FreesOneAnd : {A : Type 0} → Shape → A → Option ℕ → List TurnAt → A → Type 0
FreesOneAnd shape answer o turns a = FreesOne shape o turns × (a ≡ answer)

pub frees_one_reader : {A : Type 0} (shape : Shape) (cpu : ℕ) (answer : A) (o : Option ℕ) → IsReaderAt shape cpu (FreesOneAnd shape answer o) (read_frees_one shape answer o)
frees_one_reader shape cpu answer None = nothing_reader answer
frees_one_reader shape cpu answer (Some e) =
    same_reader (IsAs (λ u. answer) (λ turns (u : Unit {0}). Frees shape e turns)) (FreesOneAnd shape answer (Some e)) (read_frees_one shape answer (Some e))
    (λ turns a is. is.1) (λ turns a is. (tt, is))
    (as_reader (λ u. answer) (λ turns (u : Unit {0}). Frees shape e turns) (read_frees shape e) (reads_frees shape cpu e))
