-- How an element is freed: a turn of a lock of lists, from its take to its give; and the turn of a CPU's own set, in which an element lives.
use Rattle.std.proofs.Common.{◌+◌, ◌≡◌, ◌≢◌, ℕ, suc, ◌<◌, ◌≤◌, cond, eqb, Bool, true, false, List, [], ◌∷◌, ◌++◌, map, length, inl, inr, ⊎_elim, sym, refl, ap, ◌∙◌, subst, append_assoc, arith, Option, Some, None}
use Rattle.std.specs.Prelude.{◌⊎◌, IsTrue, IsFalse, All, MatchBool, MatchOption, ◌%◌, ◌^◌, ◌||◌, ◌&&◌, not, option_map}
use Rattle.std.proofs.lemmas.List.Elements.{All-nil, All-cons, filter-append}
use Rattle.std.proofs.lemmas.Bool.{cases_lt, lt-ltb, ne_eqb}
use Rattle.map_types.specs.declared.attr.Shape.{Shape}
use Rattle.map_types.specs.declared.kind.DomainId.{DomainId}
use Rattle.map_types.specs.declared.kind.DomainId.TheVariants.{CpuLru}
use Rattle.map_types.specs.declared.row.Row.{Row}
use Rattle.map_types.specs.Kind.{is_lru}
use Rattle.map_types.specs.Listed.{elements_of}
use Rattle.map_types.specs.Shape.{HasBounds}
use Rattle.map_types.specs.Stored.{Stored, IsSized}
use Rattle.map_types.specs.ElementLists.{one, times, without, IsIn}
use Rattle.map_types.proofs.RowLemmas.{times_append, by_test}
use Rattle.row_list.specs.RowWords as row_words
use Rattle.row_list.specs.RowWords.{row_of, AreRows}
use Rattle.row_list.proofs.RowLemmas.{gone_without, kept_without, row_of_absent, room_for}
use Rattle.lru_lists.specs.Sets.{SetView, IsSet, taken_off, with_free}
use Rattle.place_words.specs.declared.history.Entry.{Entry}
use Rattle.place_words.specs.declared.history.Part.{Part}
use Rattle.place_words.specs.declared.history.Part.TheVariants as parts
use Rattle.place_words.specs.declared.list_part.OwnPart.TheVariants as own
use Rattle.place_words.specs.Bodies.{numbers}
use Rattle.place_words.specs.Histories as histories
use Rattle.place_words.specs.declared.visits.Visit.{Visit}
use Rattle.place_words.specs.Histories.{content, content_after, Allows, IsLegal, marks, bits_cleared, bits_read, also_cleared}
use Rattle.place_words.specs.Interleaving.{is_inner}
use Rattle.place_words.specs.Locks.{is_lock, lock_named, lock_number}
use Rattle.place_words.specs.SerialOrder.{probes_in}
use Rattle.place_words.specs.Sets.{ListSet, has_row, is_listed, own_after, pushed_free}
use Rattle.place_words.specs.Takings.{set_of, Frees, FreesPending, FreesFlushed, freed_globally}
use Rattle.place_words.specs.Turns.{TurnAt, Turn, on_lock, turns_of}
use Rattle.place_words.proofs.LockLemmas.{named_by_number}
use Rattle.place_words.proofs.OwnDone.{either_true}
use Rattle.place_words.specs.declared.step.Lists.{Lists}
use Rattle.place_words.specs.State.{rows, is_bucket}
use Rattle.place_words.specs.Steps as steps
use Rattle.place_words.specs.Wholeness.{all_of}
use Rattle.place_words.specs.declared.owner.Owner.TheVariants.{Free}
use Rattle.place_words.proofs.ElementLemmas.{times_without_same, times_without_other}
use Rattle.place_words.proofs.OpeningLemmas.{its_cpu_is, its_quotient}
use Rattle.place_table.specs.declared.content.Content.{Content}
use Rattle.place_table.specs.declared.content.Content.TheVariants as contents
use Rattle.place_table.specs.declared.view.View.{View}
use Rattle.place_table.specs.declared.view.Hold.{Hold}
use Rattle.place_table.specs.declared.view.Notes.{Notes}
use Rattle.place_table.specs.declared.view.Turned.{Turned}
use Rattle.place_table.specs.declared.view.WordStep.{WordStep}
use Rattle.place_table.specs.Calls.{clears_bit, bits_of_part, finds_moved_on}
use Rattle.place_table.specs.Contents.{content_told, set_told, set_under, lists_of, lists_of_set, FitsLock, FitsSet}
use Rattle.place_table.specs.Flushes.{flushes}
use Rattle.place_table.specs.Known.{BitTouch, Learns, KnowsAll, SeesBit, turn_of, turn_at, IsBy}
use Rattle.place_table.specs.Passes.{PassView, TableView, TookLock, CanGive, CanSettle, Gave, Goes, Cleared, Settled, entry_of}
use Rattle.place_table.specs.StoredHashes.{stored_in}
use Rattle.place_table.specs.TurnNotes.{NotesFit, WasRead, AreCleared, FlushedFit, clears_noted, given_out_by, ProbeFits, CameToHand}
use Rattle.place_table.specs.Views.{hold_at, is_in_hand_of, now_under, without_in_hand, with_clear, bits_with, bit_seen, touching, no_notes, notes_below, holds_below, with_now, learned, passed_on, hold_with, with_changed}
use Rattle.place_table.specs.Words.{owner_word, bit_word}
use Rattle.place_table.specs.Owners.{OwnersFit}
use Rattle.place_table.proofs.Nesting.{made_alone}
use Rattle.place_table.proofs.Entries.{append_nil}
use Rattle.place_table.proofs.Going.{goes_on, goes_took, goes_moved, goes_noted, goes_gave, goes_of_table, goes_begun, given_turn, same_head, learns_on, learns_after, learns_took, learns_moved, learns_cleared, learns_gave}
use Rattle.place_table.proofs.Hands.{now_at_is}
use Rattle.place_table.proofs.StoredHashes.{stored_listed}
use Rattle.place_table.proofs.TicketsTaken.{took_touched}
use Rattle.place_table.proofs.Worlds.{some_is, none_some, true_false, hold_at_first}
use Rattle.place_table.proofs.Telling.{tells_turn}
use Rattle.lru_ops.specs.Lists.{Changed, CanFree, Freed}
use Rattle.lru_ops.specs.Shared.{FreedBy, HasTouched}
use Rattle.percpu_values.specs.BodyList.{pushed}
use Rattle.lru_ops.proofs.OwnersAround.{free_of_none, own_no_probe, unchanged_alone}

-- The set in which an element lives

pub set_within : (shape : Shape) (bounds : HasBounds shape) → is_lru shape.kind ≡ true → shape.common ≡ false → (e : ℕ) → e < shape.elements → set_of shape e < shape.cpus
set_within shape bounds lru apart e real =
    subst (λ (c : ℕ). c < shape.cpus) (its_quotient shape bounds e real (even_shares shape bounds lru apart)) (its_cpu_is shape bounds e real)
  where
    even_shares : (shape : Shape) (bounds : HasBounds shape) → is_lru shape.kind ≡ true → shape.common ≡ false → shape.elements % shape.cpus ≡ 0
    even_shares shape bounds lru apart =
        let same : shape.elements ≡ shape.capacity = bounds.spares_of_others (λ hash. let plain : is_lru shape.kind ≡ false = ap is_lru hash in absurd cc) in
        ap (λ (n : ℕ). n % shape.cpus) same ∙ bounds.equal_shares lru apart

pub set_there : (shape : Shape) (c : ℕ) → is_lru shape.kind ≡ true → shape.common ≡ false → c < shape.cpus → IsTrue (is_lock shape (CpuLru c))
set_there shape c lru apart few = (λ i. (lru i && not (apart i)) && lt-ltb c shape.cpus few i)

-- Rows without one

pub has_row_in : (e : ℕ) (rows : List Row) → IsIn e (elements_of rows) → has_row e rows ≡ true
has_row_in e [] is = absurd (omega arith)
has_row_in e (row ∷ rows) is =
    by_test row.element e (λ b. 0 < cond b (suc (times e (elements_of rows))) (times e (elements_of rows)) → (b || has_row e rows) ≡ true) (λ _ _. refl) (λ _ later. has_row_in e rows later) is

-- each stands there as often as without it in the list of elements
pub left_times : (x e : ℕ) (rows : List Row) → times e (elements_of rows) ≤ 1 → times x (elements_of (row_words.without_row e rows)) ≡ times x (without e (elements_of rows))
left_times x e rows once =
    by_test x e (λ _. times x (elements_of (row_words.without_row e rows)) ≡ times x (without e (elements_of rows)))
    (λ same. subst (λ (k : ℕ). times k (elements_of (row_words.without_row e rows)) ≡ times k (without e (elements_of rows))) (sym same) (let gone = gone_without e rows in let left = times_without_same e (elements_of rows) in omega arith))
    (λ other. kept_without x e rows other ∙ sym (times_without_other x e (elements_of rows) other))

-- a row that is left is the one that the element had
pub left_row : (e x : ℕ) (listed : List Row) → x ≢ e → row_of x (row_words.without_row e listed) ≡ row_of x listed
left_row e x [] other = refl
left_row e x (row ∷ listed) other =
    by_test row.element e (λ b. row_of x (cond (not b) (row ∷ row_words.without_row e listed) (row_words.without_row e listed)) ≡ cond (eqb row.element x) (Some row) (row_of x listed))
    (λ same. left_row e x listed other ∙ sym (ap (λ b. cond b (Some row) (row_of x listed)) (ne_eqb row.element x (λ here. other (sym here ∙ same)))))
    (λ _. ap (λ (o : Option Row). cond (eqb row.element x) (Some row) o) (left_row e x listed other))

abbrev hash_of : Option Row → Option ℕ
hash_of found = option_map (λ (row : Row). row.hash) found

-- and so is its hash
pub left_hash : (e x n : ℕ) (listed : List Row) → hash_of (row_of x (row_words.without_row e listed)) ≡ Some n → hash_of (row_of x listed) ≡ Some n
left_hash e x n listed is =
    by_test x e (λ _. hash_of (row_of x listed) ≡ Some n)
    (λ same. absurd (none_some (sym (ap hash_of (ap (λ (k : ℕ). row_of k (row_words.without_row e listed)) same ∙ row_of_absent e (row_words.without_row e listed) (gone_without e listed))) ∙ is)))
    (λ other. ap hash_of (sym (left_row e x listed other)) ∙ is)

-- what was listed is listed without one element, or is that element, which is free then
pub none_lost : (e x : ℕ) (now : Lists) → IsIn x (rows now) → IsIn x (all_of (steps.with_free e (steps.without_row e now)))
none_lost e x now inside =
    let left : List ℕ = without e now.first ++ without e now.second in
    let all = times_append x (e ∷ now.free) left in
    by_test x e (λ _. IsIn x (all_of (steps.with_free e (steps.without_row e now))))
    (λ same. let there : 0 < times x (e ∷ now.free) = subst (λ (k : ℕ). 0 < times x (k ∷ now.free)) same (by_test x x (λ b. 0 < cond b (suc (times x now.free)) (times x now.free)) (λ _. omega arith) (λ other. absurd (other refl))) in omega arith)
    (λ other.
    let before = times_append x now.first now.second in
    let after = times_append x (without e now.first) (without e now.second) in
    let first = times_without_other x e now.first other in
    let second = times_without_other x e now.second other in omega arith)

-- Room on a free list: it was made for every element, and no element stands there twice.
abbrev rows_numbered : List Stored → List Row
rows_numbered [] = []
rows_numbered (body ∷ bodies) = record { element = body.element; hash = 0 } ∷ rows_numbered bodies

numbered_are : (bodies : List Stored) → elements_of (rows_numbered bodies) ≡ numbers bodies
numbered_are [] = refl
numbered_are (body ∷ bodies) = ap (λ (l : List ℕ). body.element ∷ l) (numbered_are bodies)

numbered_length : (bodies : List Stored) → length (rows_numbered bodies) ≡ length bodies
numbered_length [] = refl
numbered_length (body ∷ bodies) = ap suc (numbered_length bodies)

pub room_left : (bodies : List Stored) (spare elements e : ℕ) → length bodies + spare ≡ elements → elements < 2 ^ 32 → ((x : ℕ) → times x (numbers bodies) ≤ 1) → ((x : ℕ) → IsIn x (numbers bodies) → x < elements) → e < elements → times e (numbers bodies) ≡ 0 → 1 ≤ spare
room_left bodies spare elements e room countable once below real absent =
    let few : length (rows_numbered bodies) ≤ elements = let long = numbered_length bodies in omega arith in
    let counted : (x : ℕ) → times x (elements_of (rows_numbered bodies)) ≡ times x (numbers bodies) = λ x. ap (times x) (numbered_are bodies) in
    let are : AreRows elements (rows_numbered bodies) = record {
      once = λ x. let one = once x in let here = counted x in omega arith;
      below = λ x inside. below x (subst (λ (n : ℕ). 0 < n) (counted x) inside);
      few = few;
      countable = countable;
    } in
    let left = room_for elements e (rows_numbered bodies) are real (counted e ∙ absent) in
    let long = numbered_length bodies in omega arith

-- The bit of an element was cleared, whatever it was
learns_any : {shape : Shape} {v w : View} {e : ℕ} {was : Bool} → Learns shape v w [] (record { element = e; seen = Some was; left = false } ∷ []) → Learns shape v w [] (clears_bit e ∷ [])
learns_any {shape} {v} {w} {e} {was} l = record {
  allowed = tt;
  all = l.all;
  logs = l.logs;
  bits = λ has d. record { see_on = ((λ _. any (bit_seen d v.bits)), tt); known_is = (l.bits has d).known_is };
}
  where
    any : (known : Option Bool) → MatchOption known (Unit {0}) (SeesBit None)
    any None = tt
    any (Some bit) = tt

-- Steps on words

has_touched : (p q : PassView) (made : List WordStep) → q.view.touched ≡ p.view.touched ++ made → q.view.homes_read ≡ p.view.homes_read → HasTouched p q
has_touched p q made are same = record { steps = made; steps_are = are; no_home = same }

pub touched_on : (p q r : PassView) → HasTouched p q → HasTouched q r → HasTouched p r
touched_on p q r a b =
    record { steps = a.steps ++ b.steps; steps_are = b.steps_are ∙ (ap (λ (l : List WordStep). l ++ b.steps) a.steps_are ∙ append_assoc p.view.touched a.steps b.steps); no_home = b.no_home ∙ a.no_home }

touched_gave : (s z : PassView) (part : Part) → Gave s z part → HasTouched s z
touched_gave s z part gave =
    let given_back : WordStep = record { at = gave.at; word = gave.hold.lock; seen = None; left = 0 } in
    let made = took_touched s.view gave.took.drawn gave.took.ticket gave.took.reached gave.took.touched gave.took.takes in
    has_touched s z (made.more ++ given_back ∷ [])
    (ap (λ (x : PassView). x.view.touched) gave.after_is ∙ (ap (λ (l : List WordStep). l ++ given_back ∷ []) made.are ∙ append_assoc s.view.touched made.more (given_back ∷ [])))
    (ap (λ (x : PassView). x.view.homes_read) gave.after_is)

-- Turns under way

-- what is noted of a turn in which the bit of one element was cleared and it was set free
abbrev pub with_clear_of : ℕ → Bool → Notes
with_clear_of e bit = record { came = []; marks = []; asked = record { element = e; bit = bit; cleared = true } ∷ []; owners = []; homes = []; flushed = []; off = []; changed = record { element = e; owner = Free } ∷ [] }

-- The pass held no lock, took this one, and did this since: these lists lie there now, this is noted of the turn, and these steps
-- were made on bits.
pub record Underway (t : TableView) (hold : Hold) (p s : PassView) (now : Lists) (notes : Notes) (touches : List BitTouch) : Type 0 where
  pub goes : Goes p s [] []
  pub held : s.view.held ≡ hold_with hold now ∷ []
  pub noted : s.view.notes ≡ notes ∷ p.view.notes
  pub spares : s.spares ≡ p.spares
  pub carried : s.view.carried ≡ p.view.carried
  pub touched : HasTouched p s
  pub learns : Learns t.shape p.view s.view [] touches

-- What may be given back under a lock by a part, from what lay there at the take, where these lists lie there now: nothing that was
-- listed is gone, and no row has a new hash.
pub record Leads (t : TableView) (lock : DomainId) (cpu : ℕ) (here back : Content) (now : Lists) (part : Part) : Type 0 where
  pub told_is : content_told lock back ≡ content_after t.shape cpu part (content_told lock here)
  pub fits : FitsLock t.shape lock back
  pub allowed : Allows t.shape cpu part (content_told lock here)
  pub same_free : (x : ℕ) → times x (lists_of (content_told lock back)).free ≡ times x now.free
  pub same_rows : (x : ℕ) → times x (rows (lists_of (content_told lock back))) ≡ times x (rows now)
  pub none_gone : (x : ℕ) → IsIn x (rows (lists_of (content_told lock here))) → IsIn x (all_of now)
  pub same_hashes : (x n : ℕ) → stored_in (content_told lock back) x ≡ Some n → stored_in (content_told lock here) x ≡ Some n

-- The lock was given back by this part: one turn was made, after those that the lock had at the take.
pub record TurnMade (t : TableView) (lock : DomainId) (hold : Hold) (part : Part) (p s z : PassView) : Type 0 where
  pub step : Turned
  pub changed : Changed t p z (step ∷ []) (step ∷ []) []
  pub turn : turn_of t.shape step ≡ on_lock lock part
  pub earlier : step.earlier ≡ hold.log
  pub hand : z.view.hand ≡ s.view.hand
  pub readings : z.view.readings ≡ s.view.readings
  pub touched : HasTouched p z

-- the notes of a turn whose part reads no bit, probes nothing and gives nothing out
pub fits_with : (shape : Shape) (v : View) (hold : Hold) (part : Part) (notes : Notes) → notes.marks ≡ marks shape part → AreCleared (also_cleared part) (bits_cleared part) (clears_noted notes) → bits_read part ≡ [] → FlushedFit shape v part notes.flushed → notes.off ≡ [] → probes_in part ≡ [] → given_out_by part ≡ [] → NotesFit shape v hold part notes
fits_with shape v hold part notes marks_are clears_are no_reads flushed none_off no_probes none_out = record {
  marks_are = marks_are;
  clears_are = clears_are;
  reads = subst (All (WasRead notes.asked)) (sym no_reads) (All-nil (WasRead notes.asked));
  flushed = flushed;
  off = subst (All (λ e. flushes e part ≡ true)) (sym none_off) (All-nil (λ e. flushes e part ≡ true));
  held = subst (All (ProbeFits notes.owners)) (sym no_probes) (All-nil (ProbeFits notes.owners));
  came = subst (All (CameToHand v hold notes)) (sym none_out) (All-nil (CameToHand v hold notes));
}

-- From the take of a lock by a pass that frees an element
module _ {t : TableView} {lock : DomainId} {p q : PassView} {body : Stored} {here : Content} (is_there : IsTrue (is_lock t.shape lock)) (can : CanFree t body p) (took : TookLock t lock p q here) where
  named : lock_named t.shape took.hold.lock ≡ lock
  named = ap (lock_named t.shape) took.lock_is ∙ named_by_number t.shape lock is_there

  found : content_told lock here ≡ content t.shape (lock_named t.shape took.hold.lock) took.hold.log
  found = took.told_is ∙ ap (λ (d : DomainId). content t.shape d took.hold.log) (sym named)

  goes_there : Goes p q [] []
  goes_there = goes_took t lock p q here took

  held_there : q.view.held ≡ took.hold ∷ []
  held_there = ap (λ (z : PassView). z.view.held) took.after_is ∙ ap (λ (l : List Hold). took.hold ∷ l) can.no_lock

  touched_there : HasTouched p q
  touched_there = has_touched p q _ (ap (λ (z : PassView). z.view.touched) took.after_is) (ap (λ (z : PassView). z.view.homes_read) took.after_is)

  pub underway_taken : Underway t took.hold p q took.hold.now no_notes []
  underway_taken = record {
    goes = goes_there;
    held = held_there;
    noted = ap (λ (z : PassView). z.view.notes) took.after_is;
    spares = ap (λ (z : PassView). z.spares) took.after_is;
    carried = ap (λ (z : PassView). z.view.carried) took.after_is;
    touched = touched_there;
    learns = learns_took t lock p q here took;
  }

  -- the bit is cleared
  module _ {r : PassView} {bit : Bool} (clear : Cleared body.element q r bit) where
    goes_cleared : Goes q r [] []
    goes_cleared = goes_noted (with_clear body.element bit q.view.notes) (bits_with body.element false q.view) (touching clear.at (bit_word q.view.shape body.element) (Some (one bit)) 0 q.view) q.view.readings q r clear.after_is

    to_here : Goes p r [] []
    to_here = goes_on p q r [] [] [] [] goes_there goes_cleared

    held_cleared : r.view.held ≡ took.hold ∷ []
    held_cleared = ap (λ (z : PassView). z.view.held) clear.after_is ∙ held_there

    abbrev number_then : ℕ
    number_then = lock_number r.view.shape lock

    number_here : number_then ≡ took.hold.lock
    number_here = ap (λ (s : Shape). lock_number s lock) (to_here.shape ∙ can.of_table.1) ∙ sym took.lock_is

    held_at : hold_at number_then r.view.held ≡ Some took.hold
    held_at = ap (λ (n : ℕ). hold_at n r.view.held) number_here ∙ (ap (hold_at took.hold.lock) held_cleared ∙ hold_at_first took.hold [])

    now_is : now_under lock r.view ≡ took.hold.now
    now_is = now_at_is number_then r.view.held took.hold held_at

    -- the element may settle where it is listed
    pub can_settle_listed : IsFalse (is_bucket lock) → IsIn body.element (rows took.hold.now) → CanSettle t body.element lock r
    can_settle_listed has_free_list listed = record {
      of_table = goes_of_table t p r [] [] to_here can.of_table;
      begun = goes_begun p r [] [] to_here can.begun;
      hold = took.hold;
      there = is_there;
      held = subst (λ (s : Shape). hold_at (lock_number s lock) r.view.held ≡ Some took.hold) (to_here.shape ∙ can.of_table.1) held_at;
      cpu_is = took.cpu_is ∙ sym to_here.cpu;
      has_free_list = has_free_list;
      in_hand = ap (λ (z : PassView). is_in_hand_of body.element z.cpu z.view.hand) clear.after_is ∙ (ap (λ (z : PassView). is_in_hand_of body.element z.cpu z.view.hand) took.after_is ∙ can.in_hand);
      listed = λ _. listed;
      around = λ _. free_of_none r.view body.element (unchanged_alone r.view took.hold body.element held_cleared);
    }

    -- and settles there
    module _ {s : PassView} (settle : Settled lock body.element r s) where
      abbrev now_then : Lists
      now_then = steps.with_free body.element (steps.without_row body.element (now_under lock r.view))

      pub underway_pushed : Underway t took.hold p s (steps.with_free body.element (steps.without_row body.element took.hold.now)) (with_clear_of body.element bit) (clears_bit body.element ∷ [])
      underway_pushed = record {
        goes = goes_on p r s [] [] [] [] to_here (goes_moved settle.0 number_then now_then (without_in_hand body.element r.cpu r.view.hand) (with_changed body.element Free r.view.notes) (owner_word r.view.shape body.element) 0 r s settle.1);
        held = ap (λ (z : PassView). z.view.held) settle.1 ∙ (ap (with_now number_then now_then) held_cleared
            ∙ (by_test took.hold.lock number_then (λ b. cond b (hold_with took.hold now_then ∷ []) (took.hold ∷ []) ≡ hold_with took.hold now_then ∷ []) (λ _. refl) (λ other. absurd (other (sym number_here)))
            ∙ ap (λ (now : Lists). hold_with took.hold (steps.with_free body.element (steps.without_row body.element now)) ∷ []) now_is));
        noted = ap (λ (z : PassView). z.view.notes) settle.1 ∙ (ap (λ (z : PassView). with_changed body.element Free z.view.notes) clear.after_is ∙ ap (λ (z : PassView). with_changed body.element Free (with_clear body.element bit z.view.notes)) took.after_is);
        spares = ap (λ (z : PassView). z.spares) settle.1 ∙ (ap (λ (z : PassView). z.spares) clear.after_is ∙ ap (λ (z : PassView). z.spares) took.after_is);
        carried = ap (λ (z : PassView). z.view.carried) settle.1 ∙ (ap (λ (z : PassView). z.view.carried) clear.after_is ∙ ap (λ (z : PassView). z.view.carried) took.after_is);
        touched = touched_on p r s (touched_on p q r touched_there (has_touched q r _ (ap (λ (z : PassView). z.view.touched) clear.after_is) (ap (λ (z : PassView). z.view.homes_read) clear.after_is))) (has_touched r s _ (ap (λ (z : PassView). z.view.touched) settle.1) (ap (λ (z : PassView). z.view.homes_read) settle.1));
        learns =
            let known : Learns t.shape q.view r.view [] (clears_bit body.element ∷ []) = learns_any (subst (λ (z : PassView). Learns t.shape q.view z.view [] (record { element = body.element; seen = Some bit; left = false } ∷ [])) (sym clear.after_is) (learns_cleared t.shape clear.at body.element bit q.view clear.known)) in
            learns_on t.shape p.view r.view s.view [] [] (clears_bit body.element ∷ []) []
            (learns_after t.shape p.view q.view r.view [] (clears_bit body.element ∷ []) (learns_took t lock p q here took) known)
            (learns_moved t.shape settle.0 number_then now_then (without_in_hand body.element r.cpu r.view.hand) (with_changed body.element Free r.view.notes) (owner_word r.view.shape body.element) 0 r s settle.1);
      }

      pub hand_pushed : s.view.hand ≡ without_in_hand body.element p.cpu p.view.hand
      hand_pushed =
          ap (λ (z : PassView). z.view.hand) settle.1
          ∙ (ap (λ (z : PassView). without_in_hand body.element z.cpu z.view.hand) clear.after_is ∙ ap (λ (z : PassView). without_in_hand body.element z.cpu z.view.hand) took.after_is)

  -- what was done so far may be given back, by a part that leads there
  module _ {s : PassView} {now : Lists} {notes : Notes} {touches : List BitTouch} (u : Underway t took.hold p s now notes touches) {back : Content} {part : Part} where
    pub can_give_under : Leads t lock s.cpu here back now part → NotesFit t.shape s.view (hold_with took.hold now) part notes → OwnersFit t.shape s.view (hold_with took.hold now) s.cpu part notes → IsFalse (is_inner part) → CanGive t lock s back part
    can_give_under leads noted owners alone =
        let begun = goes_begun p s [] [] u.goes can.begun in record {
          of_table = goes_of_table t p s [] [] u.goes can.of_table;
          begun = begun;
          hold = hold_with took.hold now;
          below = [];
          innermost = u.held;
          notes = notes;
          notes_below = p.view.notes;
          notes_are = u.noted;
          there = is_there;
          lock_is = took.lock_is;
          may_put = record {
            cpu = begun;
            told_is = ap (λ (d : DomainId). content_told d back) named ∙ (leads.told_is ∙ ap (content_after t.shape s.cpu part) found);
            fits = subst (λ (d : DomainId). FitsLock t.shape d back) (sym named) leads.fits;
            allowed = subst (Allows t.shape s.cpu part) found leads.allowed;
            same_free = λ x. ap (λ (d : DomainId). times x (lists_of (content_told d back)).free) named ∙ leads.same_free x;
            same_rows = λ x. ap (λ (d : DomainId). times x (rows (lists_of (content_told d back)))) named ∙ leads.same_rows x;
            rows_kept = λ _ j x h n other held _ _ was is_now.
                some_is (sym (ap (λ (z : histories.Content). stored_in z x) (was_there j other held) ∙ was) ∙ leads.same_hashes x n (ap (λ (d : DomainId). stored_in (content_told d back) x) (sym named) ∙ is_now));
            gone = λ _ on x h is_local was none.
                let inside = leads.none_gone x (stored_listed (content_told lock here) x h (ap (λ (z : histories.Content). stored_in z x) found ∙ was)) in absurd (omega (arith, none, inside));
          };
          inside = made_alone t.shape part [] alone;
          notes_fit = noted;
          owners_fit = λ _. owners;
        }
      where
        was_there : (j : ℕ) (other : Hold) → hold_at j s.view.held ≡ Some other → content_told lock here ≡ content t.shape (lock_named t.shape j) other.log
        was_there j other held =
            by_test took.hold.lock j (λ b. cond b (Some (hold_with took.hold now)) None ≡ Some other → content_told lock here ≡ content t.shape (lock_named t.shape j) other.log)
            (λ same here_is. found ∙ (λ i. content t.shape (lock_named t.shape (same i)) ((some_is here_is i).log)))
            (λ _ none. absurd (none_some none))
            (sym (ap (hold_at j) u.held) ∙ held)

    -- and was
    pub turn_made : (z : PassView) → IsTrue (is_lru t.shape.kind) → (meant : CanGive t lock s back part) → Gave s z part → bits_of_part t.shape part ≡ touches → bits_cleared part ≡ [] → passed_on part (notes ∷ p.view.notes) ≡ p.view.notes
        → (IsTrue t.shape.common → (logs : ℕ → List Entry) → KnowsAll t.shape logs p.view → IsFalse (finds_moved_on part)) → TurnMade t lock took.hold part p s z
    turn_made z lru meant gave bits none_told hands_on moved =
        let hold_is : meant.hold ≡ hold_with took.hold now = same_head (sym meant.innermost ∙ u.held) in
        let gave_is : gave.hold ≡ meant.hold = same_head (sym gave.innermost ∙ meant.innermost) in
        let step : Turned = given_turn s gave.ticket meant.hold part in
        let made : Goes s z (step ∷ []) [] = subst (λ (h : Hold). Goes s z (given_turn s gave.ticket h part ∷ []) []) gave_is (goes_gave s z part gave) in
        let gives : Learns t.shape s.view z.view (step ∷ []) [] =
        learns_gave t lock s back gave.ticket part z.view meant
        (subst (λ (h : Hold). IsLegal t.shape lock h.log) (sym hold_is) took.legal)
        (λ has log known. ap (λ (h : Hold). h.log) hold_is ∙ took.known log (sym (u.learns.logs (sym u.learns.all ∙ has) (lock_number t.shape lock)).known_is ∙ known))
        (ap (λ (x : PassView). x.view.known) gave.after_is ∙ ap (λ (h : Hold). learned h (entry_of s gave.ticket part) s.view) gave_is) (ap (λ (x : PassView). x.view.bits) gave.after_is) (ap (λ (x : PassView). x.view.cpus) gave.after_is) (ap (λ (x : PassView). x.view.shape) gave.after_is) in
        record {
          step = step;
          changed = record {
            told_are = ((inl refl, tells_turn meant gave.ticket meant.hold part refl (clears_noted meant.notes) (ap (λ (l : List Visit). l ++ clears_noted meant.notes) (sym none_told))), tt);
            made = record {
              goes = goes_on p s z [] (step ∷ []) [] [] u.goes made;
              held = ap (λ (x : PassView). x.view.held) gave.after_is ∙ (ap holds_below u.held ∙ sym can.no_lock);
              notes = ap (λ (x : PassView). x.view.notes) gave.after_is ∙ (ap (passed_on part) u.noted ∙ hands_on);
            };
            by_call = All-cons (IsBy p.cpu p.call) step [] (u.goes.cpu, u.goes.call) (All-nil (IsBy p.cpu p.call));
            spares = ap (λ (x : PassView). x.spares) gave.after_is ∙ u.spares;
            carried = ap (λ (x : PassView). x.view.carried) gave.after_is ∙ u.carried;
            learns = subst (Learns t.shape p.view z.view (step ∷ [])) (sym (ap (λ b. cond b (bits_of_part t.shape part ++ []) []) lru ∙ (append_nil (bits_of_part t.shape part) ∙ bits))) (subst (Learns t.shape p.view z.view (step ∷ [])) (append_nil touches) (learns_on t.shape p.view s.view z.view [] (step ∷ []) touches [] u.learns gives));
            none_moved = λ common logs knows. All-cons (λ (turn : Turned). IsFalse (finds_moved_on turn.entry.part)) step [] (moved common logs knows) (All-nil (λ (turn : Turned). IsFalse (finds_moved_on turn.entry.part)));
          };
          turn = (λ i. on_lock ((ap (λ (h : Hold). lock_named t.shape h.lock) hold_is ∙ named) i) part);
          earlier = ap (λ (h : Hold). h.log) hold_is;
          hand = ap (λ (x : PassView). x.view.hand) gave.after_is;
          readings = ap (λ (x : PassView). x.view.readings) gave.after_is;
          touched = touched_on p s z u.touched (touched_gave s z part gave);
        }

-- Pushes

-- This part of a push clears the bit of the element alone, sets it free, reads nothing and hands nothing on, and its turn is made inside none.
pub record IsPush (shape : Shape) (e : ℕ) (part : Part) : Type 0 where
  pub noted : (v : View) (hold : Hold) (bit : Bool) → NotesFit shape v hold part (with_clear_of e bit)
  pub owners : (v : View) (hold : Hold) (cpu : ℕ) (bit : Bool) → OwnersFit shape v hold cpu part (with_clear_of e bit)
  pub bits : bits_of_part shape part ≡ clears_bit e ∷ []
  pub none_told : bits_cleared part ≡ []
  pub hands_on : (all : List Notes) → passed_on part all ≡ notes_below all
  pub finds_it : IsFalse (finds_moved_on part)
  pub alone : IsFalse (is_inner part)

-- the turn of a push, from the take of its lock
module _ {t : TableView} {lock : DomainId} {p q r s : PassView} {body : Stored} {here : Content} {bit : Bool} {part : Part} (push : IsPush t.shape body.element part) (is_there : IsTrue (is_lock t.shape lock)) (can : CanFree t body p) (took : TookLock t lock p q here) (clear : Cleared body.element q r bit) (settle : Settled lock body.element r s) where
  abbrev now_pushed : Lists
  now_pushed = steps.with_free body.element (steps.without_row body.element took.hold.now)

  abbrev pushed_here : Underway t took.hold p s now_pushed (with_clear_of body.element bit) (clears_bit body.element ∷ [])
  pushed_here = underway_pushed is_there can took clear settle

  pub can_give_pushed : {back : Content} → Leads t lock s.cpu here back now_pushed part → CanGive t lock s back part
  can_give_pushed leads = can_give_under is_there can took pushed_here leads (push.noted s.view (hold_with took.hold now_pushed) bit) (push.owners s.view (hold_with took.hold now_pushed) s.cpu bit) push.alone

  pub freed : {back : Content} (z : PassView) → IsTrue (is_lru t.shape.kind) → CanGive t lock s back part → Gave s z part → FreedBy t (on_lock lock part) body p z
  freed z lru meant gave =
      let made = turn_made is_there can took pushed_here z lru meant gave push.bits push.none_told (push.hands_on (with_clear_of body.element bit ∷ p.view.notes)) (λ _ _ _. push.finds_it) in record {
        step = made.step;
        changed = made.changed;
        touched = made.touched;
        turn_is = made.turn;
        hand = made.hand ∙ hand_pushed is_there can took clear settle;
      }

-- which frees the element
pub frees_on : (shape : Shape) (e : ℕ) (turns : List TurnAt) (common : Bool) → shape.common ≡ common
    → MatchBool common (FreesPending e turns ⊎ (FreesFlushed e turns ⊎ (turns_of turns ≡ freed_globally e ∷ []))) (turns_of turns ≡ on_lock (CpuLru (set_of shape e)) (parts.Own (own.Push e)) ∷ []) → Frees shape e turns
frees_on shape e turns common is frees =
    subst (λ b. MatchBool b (FreesPending e turns ⊎ (FreesFlushed e turns ⊎ (turns_of turns ≡ freed_globally e ∷ []))) (turns_of turns ≡ on_lock (CpuLru (set_of shape e)) (parts.Own (own.Push e)) ∷ [])) (sym is) frees

-- List sets

-- the set that is given back
abbrev pub given_set : Stored → SetView → SetView
given_set body set = with_free (pushed body (taken_off body.element set).free) (taken_off body.element set)

-- A list set lies under this lock, and this part pushes the element there.
pub record OnSet (shape : Shape) (lock : DomainId) (e : ℕ) (part : Part) : Type 0 where
  pub lists : (set : ListSet) → lists_of (set_under lock set) ≡ lists_of_set set
  pub after : (cpu : ℕ) (set : ListSet) → content_after shape cpu part (set_under lock set) ≡ set_under lock (pushed_free e set)
  pub allows : (cpu : ℕ) (set : ListSet) → IsTrue (is_listed e set.lists) → Allows shape cpu part (set_under lock set)
  pub hashes : (x : ℕ) (set : ListSet) → stored_in (set_under lock set) x ≡ hash_of (row_of x (set.lists.active ++ set.lists.inactive))
  pub fits : (set : SetView) → FitsLock shape lock (contents.Set set) → FitsSet shape set
  pub fit : (set : SetView) → FitsSet shape set → FitsLock shape lock (contents.Set set)

-- a list set in which the element of a body is listed
module _ {t : TableView} {lock : DomainId} {p q : PassView} {body : Stored} {set : SetView} {part : Part} (on : OnSet t.shape lock body.element part) (can : CanFree t body p) (took : TookLock t lock p q (contents.Set set)) where
  fitting : FitsSet t.shape set
  fitting = on.fits set took.fits

  lists_now : took.hold.now ≡ lists_of_set (set_told set)
  lists_now = took.now ∙ on.lists (set_told set)

  -- the free list has room
  pub has_room : 1 ≤ set.free.spare
  has_room =
      room_left set.free.bodies set.free.spare t.shape.elements body.element fitting.room (subst (λ (n : ℕ). n < 2 ^ 32) fitting.bound fitting.whole.countable)
      (λ x. let once = fitting.whole.once x in omega arith)
      (λ x inside. subst (λ (n : ℕ). x < n) fitting.bound (fitting.whole.below x (omega (arith, inside))))
      can.real (ap (λ (l : Lists). times body.element l.free) (sym lists_now) ∙ (took.apart body.element p.cpu can.begun can.in_hand).0)

  -- and is given back with the body at its head
  pub set_leads : (cpu : ℕ) (back : SetView) → IsIn body.element (rows took.hold.now) → back ≡ given_set body set → IsSet back
      → Leads t lock cpu (contents.Set set) (contents.Set back) (steps.with_free body.element (steps.without_row body.element took.hold.now)) part
  set_leads cpu back listed is whole =
      let e : ℕ = body.element in
      let leads : content_told lock (contents.Set back) ≡ set_under lock (pushed_free e (set_told set)) = ap (λ (x : SetView). content_told lock (contents.Set x)) is in
      let then : lists_of (content_told lock (contents.Set back)) ≡ lists_of_set (pushed_free e (set_told set)) = ap lists_of leads ∙ on.lists (pushed_free e (set_told set)) in record {
        told_is = leads ∙ sym (on.after cpu (set_told set));
        fits = on.fit back pushed_fits;
        allowed = on.allows cpu (set_told set) is_listed_there;
        same_free = λ x. ap (λ (l : Lists). times x l.free) then ∙ ap (λ (l : Lists). times x (e ∷ l.free)) (sym lists_now);
        same_rows = λ x. ap (λ (l : Lists). times x (rows l)) then ∙ (rows_left x ∙ ap (λ (l : Lists). times x (rows (steps.without_row e l))) (sym lists_now));
        none_gone = λ x inside. none_lost e x took.hold.now (subst (λ (l : Lists). IsIn x (rows l)) (sym took.now) inside);
        same_hashes = λ x n is_now. on.hashes x (set_told set) ∙ hash_left x n (sym (ap (λ (z : histories.Content). stored_in z x) leads ∙ on.hashes x (pushed_free e (set_told set))) ∙ is_now);
      }
    where
      pushed_fits : FitsSet t.shape back
      pushed_fits =
          let room = fitting.room in let some = has_room in record {
            sized = subst (λ (x : SetView). All (IsSized t.shape) x.free.bodies) (sym is) (All-cons (IsSized t.shape) body set.free.bodies can.sized fitting.sized);
            bound = ap (λ (x : SetView). x.elements) is ∙ fitting.bound;
            room = ap (λ (x : SetView). length x.free.bodies + x.free.spare) is ∙ omega arith;
            whole = whole;
          }

      is_listed_there : IsTrue (is_listed body.element (set_told set).lists)
      is_listed_there =
          either_true (has_row body.element set.active) (has_row body.element set.inactive)
          (let both = times_append body.element (elements_of set.active) (elements_of set.inactive) in
          let inside : 0 < times body.element (elements_of set.active ++ elements_of set.inactive) = subst (λ (l : Lists). 0 < times body.element (rows l)) lists_now listed in
          ⊎_elim (λ (one : 0 < times body.element (elements_of set.active)). inl (has_row_in body.element set.active one)) (λ (none : times body.element (elements_of set.active) ≤ 0). inr (has_row_in body.element set.inactive (omega arith))) (cases_lt 0 (times body.element (elements_of set.active))))

      rows_left : (x : ℕ) → times x (elements_of (row_words.without_row body.element set.active) ++ elements_of (row_words.without_row body.element set.inactive)) ≡ times x (without body.element (elements_of set.active) ++ without body.element (elements_of set.inactive))
      rows_left x =
          let once = fitting.whole.once body.element in
          let first = left_times x body.element set.active (omega arith) in
          let second = left_times x body.element set.inactive (omega arith) in
          let here = times_append x (elements_of (row_words.without_row body.element set.active)) (elements_of (row_words.without_row body.element set.inactive)) in
          let there = times_append x (without body.element (elements_of set.active)) (without body.element (elements_of set.inactive)) in omega arith

      hash_left : (x n : ℕ) → hash_of (row_of x (row_words.without_row body.element set.active ++ row_words.without_row body.element set.inactive)) ≡ Some n → hash_of (row_of x (set.active ++ set.inactive)) ≡ Some n
      hash_left x n is_now =
          left_hash body.element x n (set.active ++ set.inactive)
          (ap (λ (l : List Row). hash_of (row_of x l)) (filter-append (λ (row : Row). not (eqb row.element body.element)) set.active set.inactive) ∙ is_now)

-- The element of a body is pushed on a list set by a part: the lock was taken, the bit cleared, and the element settled there.
pub record Pushing (t : TableView) (lock : DomainId) (part : ℕ → Part) (p q r s : PassView) (body : Stored) (set : SetView) (bit : Bool) : Type 0 where
  pub lru : IsTrue (is_lru t.shape.kind)
  pub push : IsPush t.shape body.element (part body.element)
  pub on : OnSet t.shape lock body.element (part body.element)
  pub is_there : IsTrue (is_lock t.shape lock)
  pub can : CanFree t body p
  pub took : TookLock t lock p q (contents.Set set)
  pub listed : IsIn body.element (rows took.hold.now)
  pub clear : Cleared body.element q r bit
  pub settle : Settled lock body.element r s

module _ {t : TableView} {lock : DomainId} {part : ℕ → Part} {p q r s : PassView} {body : Stored} {set : SetView} {bit : Bool} (x : Pushing t lock part p q r s body set bit) where
  pub push_room : (off : SetView) → off ≡ taken_off body.element set → 1 ≤ off.free.spare
  push_room off is = subst (λ (z : SetView). 1 ≤ z.free.spare) (sym is) (has_room x.on x.can x.took)

  pub push_given : (e : ℕ) (off back : SetView) → e ≡ body.element → off ≡ taken_off e set → back ≡ with_free (pushed body off.free) off → IsSet back → CanGive t lock s (contents.Set back) (part e)
  push_given e off back e_is off_is is whole =
      subst (λ (n : ℕ). CanGive t lock s (contents.Set back) (part n)) (sym e_is)
      (can_give_pushed x.push x.is_there x.can x.took x.clear x.settle
      (set_leads x.on x.can x.took s.cpu back x.listed (is ∙ ap (λ (z : SetView). with_free (pushed body z.free) z) (off_is ∙ ap (λ (n : ℕ). taken_off n set) e_is)) whole))

  pub push_freed : (e : ℕ) (back : SetView) (z : PassView) → e ≡ body.element → CanGive t lock s (contents.Set back) (part e) → Gave s z (part e) → FreedBy t (on_lock lock (part body.element)) body p z
  push_freed e back z e_is meant gave =
      freed x.push x.is_there x.can x.took x.clear x.settle z x.lru (subst (λ (n : ℕ). CanGive t lock s (contents.Set back) (part n)) e_is meant) (subst (λ (n : ℕ). Gave s z (part n)) e_is gave)

-- The set of a CPU's own

abbrev pub own_push : ℕ → Part
own_push e = parts.Own (own.Push e)

is_own_push : (shape : Shape) (e : ℕ) → IsPush shape e (own_push e)
is_own_push shape e = record {
  noted = λ v hold bit. fits_with shape v hold (own_push e) (with_clear_of e bit) refl ([], bit, [], refl, refl) refl tt refl refl refl;
  owners = λ v hold cpu bit. record { changes = λ x owner. refl; probed = λ x holder is. absurd (own_no_probe (own.Push e) x holder is) };
  bits = refl;
  none_told = refl;
  hands_on = λ all. refl;
  finds_it = refl;
  alone = refl;
}

pub freed_own : {t : TableView} {body : Stored} {c : ℕ} {p z : PassView} → t.shape.common ≡ false → c ≡ set_of t.shape body.element → FreedBy t (on_lock (CpuLru c) (own_push body.element)) body p z → Freed t body p z
freed_own {t} {body} apart c_is by = record {
  steps = by.step ∷ [];
  changed = by.changed;
  trace = frees_on t.shape body.element (map (turn_at t.shape) (by.step ∷ [])) false apart (ap (λ (x : Turn). x ∷ []) by.turn_is ∙ ap (λ (k : ℕ). on_lock (CpuLru k) (own_push body.element) ∷ []) c_is);
  by_home = λ common. true_false (sym common ∙ apart);
  hand = by.hand;
}

on_own_set : (shape : Shape) (c e : ℕ) → OnSet shape (CpuLru c) e (own_push e)
unfolding own_after stored_in
on_own_set shape c e = record {
  lists = λ set. refl;
  after = λ cpu set. refl;
  allows = λ cpu set listed. listed;
  hashes = λ x set. refl;
  fits = λ set fits. fits;
  fit = λ set fits. fits;
}

pub pushing : (t : TableView) (p q r s : PassView) (body : Stored) (set : SetView) (c e : ℕ) (bit : Bool) → IsTrue (is_lru t.shape.kind) → t.shape.common ≡ false → CanFree t body p → e ≡ body.element → c ≡ set_of t.shape e → c < t.shape.cpus
    → TookLock t (CpuLru c) p q (contents.Set set) → Cleared e q r bit → Settled (CpuLru c) e r s → Pushing t (CpuLru c) own_push p q r s body set bit
pushing t p q r s body set c e bit lru own_lists can e_is c_is few took clear settle =
    let its : c ≡ set_of t.shape body.element = c_is ∙ ap (set_of t.shape) e_is in record {
      lru = lru;
      push = is_own_push t.shape body.element;
      on = on_own_set t.shape c body.element;
      is_there = set_there t.shape c lru own_lists few;
      can = can;
      took = took;
      listed = took.lives lru own_lists body.element p.cpu can.begun can.in_hand (ap CpuLru its);
      clear = subst (λ (x : ℕ). Cleared x q r bit) e_is clear;
      settle = subst (λ (x : ℕ). Settled (CpuLru c) x r s) e_is settle;
    }
