-- A flaw of a history shows that the histories aren't legal, and is one alone; and what finals tell of the histories is what they tell of
-- the locks.
use Rattle.std.proofs.Common.{Bool, true, false, ◌≡◌, ℕ, zero, suc, ◌<◌, List, [], ◌∷◌, get_or, map, take, Some, ap, sym, ◌∙◌, subst, ⊎_elim, arith}
use Rattle.std.specs.Prelude.{All, IsTrue, slice_get}
use Rattle.std.proofs.lemmas.Bool.{cases_order}
use Rattle.std.proofs.lemmas.List.{take-take}
use Rattle.std.proofs.lemmas.List.Elements.{All-head, All-tail}
use Rattle.std.proofs.lemmas.Option.{get_or_from_slice_get, none-some, same_Some, slice_get-get_or, slice_get_within}
use Rattle.map_types.specs.declared.attr.Shape.{Shape}
use Rattle.map_types.specs.declared.kind.DomainId.{DomainId}
use Rattle.map_report.specs.Record.{Tells, entries_of, locks_of}
use Rattle.map_report.specs.declared.record.RunRecord.{RunRecord}
use Rattle.place_words.specs.declared.finals.Finals.{Finals}
use Rattle.place_words.specs.declared.history.Entry.{Entry}
use Rattle.place_words.specs.declared.history.LockHistory.{LockHistory}
use Rattle.place_words.specs.Histories.{AllAllowed, Allows, Content, IsLegal, content, content_after, opening_content, replayed}
use Rattle.place_words.specs.Locks.{is_lock}
use Rattle.record_shape.proofs.HistoriesOf.{histories_differ, lock_real, own_entries}
use Rattle.replay_words.specs.Replays.{IsFirstFlaw}
use Rattle.finals_check.specs.Telling.{contents_of, lying_of}
use Rattle.finals_check.specs.Telling as telling
use Rattle.finals_check.specs.declared.told.Lies.{Lies}
use Rattle.finals_check.proofs.Telling.{all_tell, form_tells}
use Rattle.record_check.specs.HistoryLaws.{FlawRefutesLegal, FlawRefutesRecord, OneFlaw, RecordsTellHistories, ReplaysDecide, ToldIsContents}
use Rattle.record_check.specs.Replayed.{TellsWhether, AreLegal, TellHistories, IsHistoryFlaw}

-- each entry of a legal history is allowed where those before it lead
allowed_there : (shape : Shape) (before : Content) (entries : List Entry) (index : ℕ) (entry : Entry) → AllAllowed shape before entries → slice_get entries index ≡ Some entry
    → Allows shape entry.cpu entry.part (replayed shape before (take index entries))
unfolding AllAllowed replayed
allowed_there shape before [] index entry all at = absurd (none-some entry at)
allowed_there shape before (first ∷ entries) zero entry all at = subst (λ (e : Entry). Allows shape e.cpu e.part before) (same_Some first entry at) all.0
allowed_there shape before (first ∷ entries) (suc index) entry all at = allowed_there shape (content_after shape first.cpu first.part before) entries index entry all.1 at

there_in_front : {A : Type 0} (xs : List A) (i n : ℕ) (x : A) → i < n → slice_get xs i ≡ Some x → slice_get (take n xs) i ≡ Some x
there_in_front [] i n x less at = absurd (none-some x at)
there_in_front (y ∷ xs) zero zero x less at = absurd (omega (arith, less))
there_in_front (y ∷ xs) (suc i) zero x less at = absurd (omega (arith, less))
there_in_front (y ∷ xs) zero (suc n) x less at = at
there_in_front (y ∷ xs) (suc i) (suc n) x less at = there_in_front xs i n x (omega (arith, less)) at

module _ {shape : Shape} {lock : DomainId} {entries : List Entry} {index : ℕ} (flaw : IsFirstFlaw shape lock entries index) where
  not_legal : IsLegal shape lock entries → ⊥
  not_legal legal = flaw.refused (allowed_there shape (opening_content shape lock) entries index flaw.entry legal flaw.there)

  not_before : (n : ℕ) → index < n → IsLegal shape lock (take n entries) → ⊥
  not_before n less legal =
      let there : slice_get (take n entries) index ≡ Some flaw.entry = there_in_front entries index n flaw.entry less flaw.there in
      let same : take index (take n entries) ≡ take index entries = take-take index n entries (omega (arith, less)) in
      flaw.refused (subst (λ (es : List Entry). Allows shape flaw.entry.cpu flaw.entry.part (content shape lock es)) same
      (allowed_there shape (opening_content shape lock) (take n entries) index flaw.entry legal there))

one_place : {shape : Shape} {lock : DomainId} {entries : List Entry} {i j : ℕ} → IsFirstFlaw shape lock entries i → IsFirstFlaw shape lock entries j → i ≡ j
one_place {i = i} {j = j} flaw other = ⊎_elim
    (λ (same : i ≡ j). same)
    (λ apart. ⊎_elim (λ (less : i < j). absurd (not_before flaw j less other.before)) (λ (more : j < i). absurd (not_before other i more flaw.before)) apart)
    (cases_order i j)

holds_at : {A : Type 0} (P : A → Type 0) (xs : List A) (i : ℕ) (x : A) → All P xs → slice_get xs i ≡ Some x → P x
holds_at P xs i x all at = subst P (get_or_from_slice_get xs i x x at) (all i x (slice_get_within xs i x at))

abbrev HasLegal : Shape → LockHistory → Type 0
HasLegal shape history = IsLegal shape history.lock history.entries

pub flaw_refutes_legal : FlawRefutesLegal
flaw_refutes_legal shape histories number index flaw legal = not_legal flaw.first (holds_at (HasLegal shape) histories number flaw.history legal flaw.there)

pub flaw_refutes_record : FlawRefutesRecord
flaw_refutes_record script kept number index flaw is = flaw_refutes_legal script.shape kept.histories number index flaw is.legal

not_earlier : {shape : Shape} {histories : List LockHistory} {number index : ℕ} → IsHistoryFlaw shape histories number index → (n : ℕ) → number < n → AreLegal shape (take n histories) → ⊥
not_earlier {shape = shape} {histories = histories} {number = number} flaw n less legal =
    not_legal flaw.first (holds_at (HasLegal shape) (take n histories) number flaw.history legal (there_in_front histories number n flaw.history less flaw.there))

pub one_flaw : OneFlaw
one_flaw shape histories number index other place flaw second = ⊎_elim
    (λ (same : number ≡ other).
    let one : flaw.history ≡ second.history = same_Some flaw.history second.history (sym flaw.there ∙ ap (slice_get histories) same ∙ second.there) in
    (same, one_place flaw.first (subst (λ (h : LockHistory). IsFirstFlaw shape h.lock h.entries place) (sym one) second.first)))
    (λ apart. ⊎_elim (λ (less : number < other). absurd (not_earlier flaw other less second.before)) (λ (more : other < number). absurd (not_earlier second number more flaw.before)) apart)
    (cases_order number other)

-- What finals tell of histories

module _ (shape : Shape) (finals : Finals) (all : List LockHistory) where
  abbrev IsOwn : LockHistory → Type 0
  IsOwn history = Tells finals history.lock (content shape history.lock (entries_of all history.lock))

  abbrev form : DomainId → Lies
  form lock = record { lock = lock; content = lying_of (content shape lock (entries_of all lock)) }

  told_forms : (histories : List LockHistory) → All IsOwn histories → telling.AreTold finals (map form (map (λ (history : LockHistory). history.lock) histories))
  told_forms [] told = tt
  told_forms (history ∷ histories) told =
      ((form_tells finals history.lock (content shape history.lock (entries_of all history.lock))).1 (All-head IsOwn history histories told), told_forms histories (All-tail IsOwn history histories told))

module _ (shape : Shape) (kept : RunRecord) (locks : map (λ (history : LockHistory). history.lock) kept.histories ≡ locks_of shape) where
  abbrev lies_there : DomainId → List Entry → Type 0
  lies_there lock entries = Tells kept.finals lock (content shape lock entries)

  entries_own : (i : ℕ) (history : LockHistory) → slice_get kept.histories i ≡ Some history → entries_of kept.histories history.lock ≡ history.entries
  entries_own i history at = own_entries kept.histories (histories_differ shape kept.histories locks) i history at

  owns : TellHistories shape kept.finals kept.histories → All (IsOwn shape kept.finals kept.histories) kept.histories
  owns told i d within =
      let history : LockHistory = get_or kept.histories i d in
      subst (lies_there history.lock) (sym (entries_own i history (slice_get-get_or kept.histories i d within))) (told i d within)

  to_contents : TellHistories shape kept.finals kept.histories → (lock : DomainId) → IsTrue (is_lock shape lock) → lies_there lock (entries_of kept.histories lock)
  to_contents told = (all_tell shape kept).0
      (subst (λ (ls : List DomainId). telling.AreTold kept.finals (map (form shape kept.finals kept.histories) ls)) locks (told_forms shape kept.finals kept.histories kept.histories (owns told)))

  from_contents : ((lock : DomainId) → IsTrue (is_lock shape lock) → lies_there lock (entries_of kept.histories lock)) → TellHistories shape kept.finals kept.histories
  from_contents each i d within =
      let history : LockHistory = get_or kept.histories i d in
      let at : slice_get kept.histories i ≡ Some history = slice_get-get_or kept.histories i d within in
      subst (lies_there history.lock) (entries_own i history at) (each history.lock (lock_real shape kept.histories locks i history at))

pub told_is_contents : ToldIsContents
told_is_contents shape kept locks = (to_contents shape kept locks, from_contents shape kept locks)

pub records_tell : RecordsTellHistories
records_tell script kept is = from_contents script.shape kept is.locks is.contents

-- whether two facts hold that hold together is one
whether : {P Q : Type 0} (told : Bool) → (P → Q) → (Q → P) → TellsWhether P told → TellsWhether Q told
whether true to from holds = to holds
whether false to from fails = λ q. fails (from q)

pub replays_decide : ReplaysDecide
replays_decide script kept replayed locks replays =
    (replays.legal, whether replayed.told (to_contents script.shape kept locks) (from_contents script.shape kept locks) replays.told)
