-- A turn of a list lock with the turns of its probes is read.
use Rattle.std.proofs.Common.{◌≡◌, ℕ, Bool, true, false, List, [], ◌∷◌, ◌++◌, Option, None, Some, refl, ap, ◌∙◌, sym}
use Rattle.std.specs.Prelude.{is_some, if◌then◌else◌}
use Rattle.std.proofs.lemmas.Option.{same_Some}
use Rattle.map_types.specs.declared.attr.Shape.{Shape}
use Rattle.map_types.specs.declared.kind.DomainId.{DomainId}
use Rattle.place_words.specs.declared.history.Part.{Part}
use Rattle.place_words.specs.Histories.{Content}
use Rattle.place_words.specs.Takings.{rows_brought, listed_rows, probes_of, IsChased}
use Rattle.place_words.specs.Turns.{Turn, TurnAt, turns_of, found, on_lock}
use Rattle.replay_words.specs.declared.note.Note.{Note}
use Rattle.replay_words.specs.declared.note.Note.TheVariants.{Probes}
use Rattle.replay_words.specs.Notes.{probed_hashes, note_of}
use Rattle.evicting_traces.specs.Reading.{Seen, seen_at, all_seen, FoundAt, IsReaderAt, with_rest}
use Rattle.evicting_traces.specs.Parts.{on, evicted, are_answers, hashes_noted}
use Rattle.evicting_traces.specs.Calls.{read_group, chased, read_chased}
use Rattle.evicting_traces.proofs.Readers.{same_reader}
use Rattle.evicting_traces.proofs.Tests.{checked_told, checked_so, Tells, tells_on}
use Rattle.evicting_traces.proofs.Chases.{AreEvicted, answers_so, answers_only, chase_evicts}

pub record IsGroup {A : Type 0} (shape : Shape) (says : List Turn → Seen → Option A) (turns : List TurnAt) (a : A) : Type 0 where
  pub before : List TurnAt
  pub last : TurnAt
  pub turns_are : turns ≡ before ++ last ∷ []
  pub are_evicted : AreEvicted (turns_of before)
  pub last_is : is_some (evicted last.turn.part) ≡ false
  pub says_so : says (turns_of before) (seen_at shape last) ≡ Some a

module _ {A : Type 0} (shape : Shape) where
  group_sound : (turns : List TurnAt) (rest : List Seen) (says : List Turn → Seen → Option A) (a : A) → read_group (all_seen shape turns) says ≡ Some (a, rest) → FoundAt shape (IsGroup shape says) turns rest a
  group_sound [] rest says a read = absurd cc
  group_sound (at ∷ turns) rest says a read = by (is_some (evicted at.turn.part)) refl (λ is. group_sound turns rest (λ before. says (at.turn ∷ before)) a is) read
    where
      one : (o : Option A) → is_some (evicted at.turn.part) ≡ false → says [] (seen_at shape at) ≡ o → with_rest (all_seen shape turns) o ≡ Some (a, rest) → FoundAt shape (IsGroup shape says) (at ∷ turns) rest a
      one None is told none = absurd cc
      one (Some b) is told some =
          let pair : (b, all_seen shape turns) ≡ (a, rest) = same_Some (b, all_seen shape turns) (a, rest) some in
          record {
            one = at ∷ [];
            more = turns;
            turns_are = refl;
            rest_is = ap (λ (p : A × List Seen). p.1) pair;
            is = record { before = []; last = at; turns_are = refl; are_evicted = tt; last_is = is; says_so = told ∙ ap (λ (p : A × List Seen). Some p.0) pair };
          }

      by : (b : Bool) → is_some (evicted at.turn.part) ≡ b → (read_group (all_seen shape turns) (λ before. says (at.turn ∷ before)) ≡ Some (a, rest) → FoundAt shape (IsGroup shape (λ before. says (at.turn ∷ before))) turns rest a)
          → (if b then read_group (all_seen shape turns) (λ before. says (at.turn ∷ before)) else with_rest (all_seen shape turns) (says [] (seen_at shape at))) ≡ Some (a, rest) → FoundAt shape (IsGroup shape says) (at ∷ turns) rest a
      by true is later read =
          let found = later read in
          record {
            one = at ∷ found.one;
            more = found.more;
            turns_are = ap (λ (l : List TurnAt). at ∷ l) found.turns_are;
            rest_is = found.rest_is;
            is = record {
              before = at ∷ found.is.before;
              last = found.is.last;
              turns_are = ap (λ (l : List TurnAt). at ∷ l) found.is.turns_are;
              are_evicted = (is, found.is.are_evicted);
              last_is = found.is.last_is;
              says_so = found.is.says_so;
            };
          }
      by false is later read = one (says [] (seen_at shape at)) is refl read

  group_complete : (before : List TurnAt) (last : TurnAt) (rest : List Seen) (says : List Turn → Seen → Option A) (a : A) → AreEvicted (turns_of before) → is_some (evicted last.turn.part) ≡ false → says (turns_of before) (seen_at shape last) ≡ Some a
      → read_group (all_seen shape (before ++ last ∷ []) ++ rest) says ≡ Some (a, rest)
  group_complete [] last rest says a are is told =
      ap (λ (b : Bool). if b then read_group rest (λ before. says (last.turn ∷ before)) else with_rest rest (says [] (seen_at shape last))) is ∙ ap (with_rest rest) told
  group_complete (at ∷ before) last rest says a are is told =
      let seens : List Seen = all_seen shape (before ++ last ∷ []) ++ rest in
      ap (λ (b : Bool). if b then read_group seens (λ more. says (at.turn ∷ more)) else with_rest seens (says [] (seen_at shape at))) are.0
      ∙ group_complete before last rest (λ more. says (at.turn ∷ more)) a are.1 is told

  pub group_reader : (cpu : ℕ) (says : List Turn → Seen → Option A) → IsReaderAt shape cpu (IsGroup shape says) (λ seens. read_group seens says)
  group_reader cpu says = record {
    sound = λ turns rest a legal is. group_sound turns rest says a is;
    complete = λ turns rest a is. ap (λ (l : List TurnAt). read_group (all_seen shape l ++ rest) says) is.turns_are ∙ group_complete is.before is.last rest says a is.are_evicted is.last_is is.says_so;
  }

-- a turn that probes, whose note has the stored hashes
pub record Probing {A : Type 0} (of : A → Part) (says : Part → Option A) : Type 0 where
  pub tells : Tells of says
  pub noted : (a : A) (content : Content) → note_of content (of a) ≡ Probes (probed_hashes content (of a))
  pub evicts_none : (a : A) → is_some (evicted (of a)) ≡ false

pub chased_reader : {A : Type 0} (shape : Shape) (cpu : ℕ) (lock : DomainId) (of : A → Part) (says : Part → Option A) → Probing of says → IsReaderAt shape cpu (λ turns a. IsChased shape lock (of a) turns) (read_chased shape (on lock says))
chased_reader {A = A} shape cpu lock of says probing = same_reader (IsGroup shape group) (λ turns a. IsChased shape lock (of a) turns) (read_chased shape (on lock says)) there back (group_reader shape cpu group)
  where
    group : List Turn → Seen → Option A
    group = chased shape (on lock says)

    -- that the turns before answer the probes of a part, made where this one was
    answered : List Turn → TurnAt → Part → Bool
    answered before last part = are_answers shape (probes_of part) (hashes_noted (note_of (found shape last) part)) before

    by_hashes : (before : List Turn) (last : TurnAt) (a : A) → answered before last (of a) ≡ are_answers shape (probes_of (of a)) (probed_hashes (found shape last) (of a)) before
    by_hashes before last a = ap (λ (n : Note). are_answers shape (probes_of (of a)) (hashes_noted n) before) (probing.noted a (found shape last))

    there : (turns : List TurnAt) (a : A) → IsGroup shape group turns a → IsChased shape lock (of a) turns
    there turns a is =
        let last : TurnAt = is.last in
        let before : List Turn = turns_of is.before in
        let told = checked_told (λ (b : A). answered before last last.turn.part) (on lock says last.turn) a is.says_so in
        let turn_is : last.turn ≡ on_lock lock (of a) = (tells_on lock of says probing.tells).says_only last.turn a told.0 in
        let answers : answered before last (of a) ≡ true = ap (λ (t : Turn). answered before last t.part) (sym turn_is) ∙ told.1 in
        record {
          probing = is.before;
          last = last;
          turns_are = is.turns_are;
          last_is = turn_is;
          chase = answers_only shape (rows_brought (of a) ++ listed_rows (found shape last)) (probes_of (of a)) before (sym (by_hashes before last a) ∙ answers);
        }

    back : (turns : List TurnAt) (a : A) → IsChased shape lock (of a) turns → IsGroup shape group turns a
    back turns a is =
        let last : TurnAt = is.last in
        let before : List Turn = turns_of is.probing in
        let rows = rows_brought (of a) ++ listed_rows (found shape last) in
        let answers : answered before last last.turn.part ≡ true =
        ap (λ (t : Turn). answered before last t.part) is.last_is ∙ by_hashes before last a ∙ answers_so shape rows (probes_of (of a)) before is.chase in
        record {
          before = is.probing;
          last = last;
          turns_are = is.turns_are;
          are_evicted = chase_evicts shape rows (probes_of (of a)) before is.chase;
          last_is = ap (λ (t : Turn). is_some (evicted t.part)) is.last_is ∙ probing.evicts_none a;
          says_so = checked_so (λ (b : A). answered before last last.turn.part) (on lock says last.turn) a (ap (on lock says) is.last_is ∙ (tells_on lock of says probing.tells).says_it a) answers;
        }
