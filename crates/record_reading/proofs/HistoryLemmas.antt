-- Histories, lock by lock.
use Rattle.std.proofs.Common.{◌≡◌, ℕ, ◌+◌, ◌-◌, ◌<◌, ◌≤◌, Bool, true, false, List, [], ◌∷◌, ◌++◌, length, map, filter, drop, Option, Some, None, Ok, Err, subst, refl, sym, ap, ◌∙◌, arith}
use Rattle.std.specs.List.{range_with_len}
use Rattle.map_types.specs.declared.attr.Shape.{Shape}
use Rattle.map_types.specs.declared.kind.DomainId.{DomainId}
use Rattle.place_words.specs.declared.history.Entry.{Entry}
use Rattle.place_words.specs.declared.history.LockHistory.{LockHistory}
use Rattle.place_words.specs.Locks.{is_lock, lock_named, lock_count}
use Rattle.map_script.specs.declared.script.Script.{Script}
use Rattle.map_report.specs.Record.{locks_of}
use Rattle.record_reading.specs.LineReaders.{entry}
use Rattle.record_reading.specs.Outcomes.{Reads, head_of, entries_due}
use Rattle.record_reading.specs.Readers.{whole}
use Rattle.record_reading.specs.RecordReaders.{history_head, history_of, history_section, histories_section}
use Rattle.record_reading.specs.Sections.{Line, Section, go_on, one_line, so_many, known_by}
use Rattle.record_reading.proofs.LoopLemmas.{Outcome, EachSoFar, each_start, each_more, each_none, each_done, none_read, some_read, from_number, from_first, from_last}

-- ---- a history

abbrev entries_of : Shape → ℕ → DomainId → ℕ → Section (List Entry)
entries_of shape calls lock count = so_many count (one_line (whole (entry shape calls lock)))

abbrev told_by : Shape → ℕ → DomainId → Option ℕ → Line → List Line → Outcome LockHistory
told_by shape calls lock due line lines = go_on (known_by due (entries_of shape calls lock) line lines) (λ a rest. Ok (history_of lock a, rest))

by_head : (shape : Shape) (calls : ℕ) (lock : DomainId) (line : Line) (lines : List Line) → history_section shape calls lock (line ∷ lines) ≡ told_by shape calls lock (entries_due calls lock (head_of shape (line ∷ lines))) line lines
unfolding history_head
by_head shape calls lock line lines = refl

pub history_read : (shape : Shape) (calls : ℕ) (lock : DomainId) (lines : List Line) (count : ℕ) → entries_due calls lock (head_of shape lines) ≡ Some count → (entries : List Entry) (after : List Line)
    → entries_of shape calls lock count (drop 1 lines) ≡ Ok (entries, after) → history_section shape calls lock lines ≡ Ok (record { lock = lock; entries = entries }, after)
unfolding go_on known_by
history_read shape calls lock [] count due entries after e = absurd (cc)
history_read shape calls lock (line ∷ lines) count due entries after e = by_head shape calls lock line lines ∙ ap (λ o. told_by shape calls lock o line lines) due ∙ rw e refl

pub history_stuck : (shape : Shape) (calls : ℕ) (lock : DomainId) (lines : List Line) (count : ℕ) → entries_due calls lock (head_of shape lines) ≡ Some count → (after : List Line)
    → entries_of shape calls lock count (drop 1 lines) ≡ Err after → history_section shape calls lock lines ≡ Err after
unfolding go_on known_by
history_stuck shape calls lock [] count due after e = absurd (cc)
history_stuck shape calls lock (line ∷ lines) count due after e = by_head shape calls lock line lines ∙ ap (λ o. told_by shape calls lock o line lines) due ∙ rw e refl

pub no_history : (shape : Shape) (calls : ℕ) (lock : DomainId) (lines : List Line) → entries_due calls lock (head_of shape lines) ≡ None → history_section shape calls lock lines ≡ Ok (record { lock = lock; entries = [] }, lines)
unfolding go_on known_by
no_history shape calls lock [] due = refl
no_history shape calls lock (line ∷ lines) due = by_head shape calls lock line lines ∙ ap (λ o. told_by shape calls lock o line lines) due

-- ---- each lock

abbrev is_there : Shape → ℕ → Bool
is_there shape number = is_lock shape (lock_named shape number)

-- the locks from a number on
abbrev pub locks_from : Shape → ℕ → List DomainId
locks_from shape number = map (lock_named shape) (filter (is_there shape) (from_number (lock_count shape) number))

from_lock : (shape : Shape) (number : ℕ) → number < lock_count shape → is_lock shape (lock_named shape number) ≡ true → locks_from shape number ≡ lock_named shape number ∷ locks_from shape (number + 1)
from_lock shape number less there =
    ap (λ (ns : List ℕ). map (lock_named shape) (filter (is_there shape) ns)) (from_first (lock_count shape) number less) ∙ rw there refl

over_lock : (shape : Shape) (number : ℕ) → number < lock_count shape → is_lock shape (lock_named shape number) ≡ false → locks_from shape number ≡ locks_from shape (number + 1)
over_lock shape number less not_there =
    ap (λ (ns : List ℕ). map (lock_named shape) (filter (is_there shape) ns)) (from_first (lock_count shape) number less) ∙ rw not_there refl

abbrev read : Script → DomainId → Section LockHistory
read script lock = history_section script.shape (length script.calls) lock

-- the head is that of the lines that are left
pub record HistoriesSoFar (script : Script) (number : ℕ) (head : Option (DomainId × ℕ)) (old new : List Line) (found : List LockHistory) : Type 0 where
  pub so_far : EachSoFar (read script) (locks_of script.shape) (locks_from script.shape number) old new found
  pub head_is : head ≡ head_of script.shape new

pub histories_start : (script : Script) (head : Option (DomainId × ℕ)) (old : List Line) (found : List LockHistory) → head ≡ head_of script.shape old → found ≡ [] → HistoriesSoFar script 0 head old old found
histories_start script head old found is none =
    record {
      so_far = each_start (read script) (locks_of script.shape) (locks_from script.shape 0) old old found (ap (λ n. map (lock_named script.shape) (filter (is_there script.shape) (range_with_len 0 n))) {x = lock_count script.shape - 0} {y = lock_count script.shape} (omega arith)) refl none;
      head_is = is;
    }

module _ (script : Script) (number : ℕ) (head : Option (DomainId × ℕ)) (old new : List Line) (found : List LockHistory) (so : HistoriesSoFar script number head old new found) (less : number < lock_count script.shape)
    (lock : DomainId) (lock_is : lock ≡ lock_named script.shape number) (there : Bool) (test : there ≡ is_lock script.shape lock) where
  is_so : there ≡ is_lock script.shape (lock_named script.shape number)
  is_so = test ∙ ap (is_lock script.shape) lock_is

  pub histories_over : there ≡ false → HistoriesSoFar script (number + 1) head old new found
  histories_over is =
      record {
        so_far = subst (λ (locks : List DomainId). EachSoFar (read script) (locks_of script.shape) locks old new found) (over_lock script.shape number less (sym is_so ∙ is)) so.so_far;
        head_is = so.head_is;
      }

  module _ (is : there ≡ true) (calls : ℕ) (few : calls ≡ length script.calls) (due : Option ℕ) (due_is : due ≡ entries_due calls lock head) where
    by_lines : due ≡ entries_due (length script.calls) (lock_named script.shape number) (head_of script.shape new)
    by_lines = due_is ∙ (λ i. entries_due (few i) (lock_is i) (so.head_is i))

    more : (history : LockHistory) (after : List Line) → read script (lock_named script.shape number) new ≡ Ok (history, after) → EachSoFar (read script) (locks_of script.shape) (locks_from script.shape (number + 1)) old after (found ++ history ∷ [])
    more history after h =
        each_more (read script) (locks_of script.shape) (locks_from script.shape number) old new found so.so_far (lock_named script.shape number) (locks_from script.shape (number + 1)) (from_lock script.shape number less (sym is_so ∙ is)) history after h

    pub histories_empty : due ≡ None → (entries : List Entry) → entries ≡ [] → HistoriesSoFar script (number + 1) head old new (found ++ (record { lock = lock; entries = entries }) ∷ [])
    histories_empty none entries empty =
        record {
          so_far = more (record { lock = lock; entries = entries }) new
              (no_history script.shape (length script.calls) (lock_named script.shape number) new (sym by_lines ∙ none) ∙ (λ i. Ok (record { lock = sym lock_is i; entries = sym empty i }, new)));
          head_is = so.head_is;
        }

    module _ (count : ℕ) (some : due ≡ Some count) (behind : List Line) (passed : behind ≡ drop 1 new) (after : List Line) (entries : Option (List Entry)) (h : Reads (entries_of script.shape calls lock count) behind after entries) where
      of_lock : Reads (entries_of script.shape (length script.calls) (lock_named script.shape number) count) (drop 1 new) after entries
      of_lock = subst (λ (x : ℕ × (DomainId × List Line)). Reads (entries_of script.shape x.0 x.1.0 count) x.1.1 after entries) (λ i. (few i, (lock_is i, passed i))) h

      pub histories_more : (read_entries : List Entry) → entries ≡ Some read_entries → (next : Option (DomainId × ℕ)) → next ≡ head_of script.shape after
          → HistoriesSoFar script (number + 1) next old after (found ++ (record { lock = lock; entries = read_entries }) ∷ [])
      histories_more read_entries are next next_is =
          record {
            so_far = more (record { lock = lock; entries = read_entries }) after
                (history_read script.shape (length script.calls) (lock_named script.shape number) new count (sym by_lines ∙ some) read_entries after (some_read (entries_of script.shape (length script.calls) (lock_named script.shape number) count) (drop 1 new) after entries read_entries of_lock are)
                ∙ (λ i. Ok (record { lock = sym lock_is i; entries = read_entries }, after)));
            head_is = next_is;
          }

      pub histories_none : entries ≡ None → histories_section script old ≡ Err after
      histories_none none =
          each_none (read script) (locks_of script.shape) (locks_from script.shape number) old new found so.so_far (lock_named script.shape number) (locks_from script.shape (number + 1)) (from_lock script.shape number less (sym is_so ∙ is)) after
          (history_stuck script.shape (length script.calls) (lock_named script.shape number) new count (sym by_lines ∙ some) after (none_read (entries_of script.shape (length script.calls) (lock_named script.shape number) count) (drop 1 new) after entries of_lock none))

pub histories_done : (script : Script) (number : ℕ) (head : Option (DomainId × ℕ)) (old new : List Line) (found : List LockHistory) → HistoriesSoFar script number head old new found → lock_count script.shape ≤ number → histories_section script old ≡ Ok (found, new)
histories_done script number head old new found so past =
    each_done (read script) (locks_of script.shape) (locks_from script.shape number) old new found so.so_far (ap (λ (ns : List ℕ). map (lock_named script.shape) (filter (is_there script.shape) ns)) (from_last (lock_count script.shape) number past))
