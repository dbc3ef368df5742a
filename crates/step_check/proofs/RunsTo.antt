-- The events of the first turns, one turn more.
use Rattle.std.proofs.Common.{◌≡◌, ℕ, zero, suc, ◌+◌, ◌-◌, ◌<◌, ◌≤◌, Bool, true, false, Option, None, Some, List, [], ◌∷◌, ◌++◌, length, get_or, drop, replicate, refl, ap, ◌∙◌, sym, subst, arith}
use Rattle.std.proofs.Math.Numerals.{add-one}
use Rattle.std.proofs.lemmas.List.{append_assoc, append-nil, get_or-replicate, length-replicate}
use Rattle.map_types.specs.declared.attr.Shape.{Shape}
use Rattle.map_types.specs.declared.kind.DomainId.{DomainId}
use Rattle.place_words.specs.declared.step.Lists.{Lists}
use Rattle.place_words.specs.Histories.{Content, opening_content}
use Rattle.place_words.specs.Interleaving.{Drawn, Event, enclosing, lists_in, tickets_of, turn_events, turn_of}
use Rattle.place_words.specs.OpeningState.{opening}
use Rattle.place_words.specs.Turns.{after_turn}
use Rattle.core_runs.specs.Words.{RunsByWords, Words, words_of}
use Rattle.turn_order.specs.Ordered.{interleaved_to}
use Rattle.step_check.specs.Begun.{AreBegun, HasRun, around_in, turn_in}
use Rattle.step_check.specs.Judged.{FlushesListed, FlushesTo}
use Rattle.step_check.specs.Ran.{Ran, RanAll, RanNot, words_over}
use Rattle.step_check.specs.Refused.{FirstRefused, IsJudged, RunTo}
use Rattle.step_check.specs.WordsView.{AreWords, WordsView, words_in}
use Rattle.step_check.proofs.FlushesOn.{flushes_fewer, flushes_more, flushes_there}
use Rattle.step_check.proofs.RunLemmas.{ran_none, ran_then, runs_first}

-- which turns have begun after the first ones
pub begun_to : ℕ → List ℕ → List Drawn → List ℕ
begun_to zero begun turns = begun
begun_to (suc n) begun [] = begun
begun_to (suc n) begun (drawn ∷ later) = begun_to n (drawn.entry.ticket ∷ tickets_of (enclosing drawn later) ++ begun) later

abbrev around_at : List Drawn → ℕ → List Drawn
around_at turns n = enclosing (turn_in turns n) (drop (suc n) turns)

-- what one turn more adds
record IsMore (n : ℕ) (shape : Shape) (contents : DomainId → Content) (begun : List ℕ) (turns : List Drawn) : Type 0 where
  lists : Lists
  events : interleaved_to (suc n) shape contents begun turns ≡ interleaved_to n shape contents begun turns ++ turn_events shape (around_at turns n) (begun_to n begun turns) lists (turn_in turns n)
  begun_then : begun_to (suc n) begun turns ≡ (turn_in turns n).entry.ticket ∷ (tickets_of (around_at turns n) ++ begun_to n begun turns)

one_more : (n : ℕ) (shape : Shape) (contents : DomainId → Content) (begun : List ℕ) (turns : List Drawn) → n < length turns → IsMore n shape contents begun turns
unfolding interleaved_to begun_to
one_more n shape contents begun [] less = absurd (omega (arith, less))
one_more zero shape contents begun (drawn ∷ later) less =
    let now : DomainId → Content = after_turn shape drawn.entry.cpu contents (turn_of drawn) in
    record {
      lists = lists_in (now drawn.lock);
      events = append-nil (turn_events shape (enclosing drawn later) begun (lists_in (now drawn.lock)) drawn);
      begun_then = refl;
    }
one_more (suc n) shape contents begun (drawn ∷ later) less =
    let now : DomainId → Content = after_turn shape drawn.entry.cpu contents (turn_of drawn) in
    let then : List ℕ = drawn.entry.ticket ∷ tickets_of (enclosing drawn later) ++ begun in
    let first : List Event = turn_events shape (enclosing drawn later) begun (lists_in (now drawn.lock)) drawn in
    let more : IsMore n shape now then later = one_more n shape now then later (omega (arith, less)) in
    record {
      lists = more.lists;
      events = ap (λ (l : List Event). first ++ l) more.events
          ∙ sym (append_assoc first (interleaved_to n shape now then later) (turn_events shape (around_at later n) (begun_to n then later) more.lists (turn_in later n)));
      begun_then = more.begun_then;
    }

-- How far the turns have run.
pub record HasRunTo (turns : List Drawn) (n : ℕ) (start now : WordsView) (bits : List Bool) : Type 0 where
  pub ran : RanAll start (interleaved_to n start.shape (opening_content start.shape) [] turns) now
  pub begun : AreBegun (begun_to n [] turns) bits
  pub long : length bits ≡ length turns
  pub listed : FlushesTo n start.shape (opening_content start.shape) [] (words_in start) turns

pub none_ran : (turns : List Drawn) (start : WordsView) (bits : List Bool) → AreWords start → bits ≡ replicate (length turns) false → HasRunTo turns 0 start start bits
unfolding interleaved_to begun_to FlushesTo
none_ran turns start bits are none = record {
  ran = ran_none start are;
  begun = λ ticket less. ap (λ (l : List Bool). get_or l ticket false) none ∙ get_or-replicate (length turns) ticket false false (subst (λ n. ticket < n) (ap length none ∙ length-replicate (length turns) false) less);
  long = ap length none ∙ length-replicate (length turns) false;
  listed = tt;
}

at_suc : (turns : List Drawn) (n : ℕ) → around_in turns n ≡ around_at turns n
at_suc turns n = ap (λ k. enclosing (turn_in turns n) (drop k turns)) (add-one n)

-- what one turn more answers, of all so far
ran_on : (turns : List Drawn) (n : ℕ) (start before now : WordsView) (bits after : List Bool) (answer : Bool) (more : IsMore n start.shape (opening_content start.shape) [] turns) → HasRunTo turns n start before bits
    → HasRun turns n (begun_to n [] turns) more.lists before now after answer → Ran start (interleaved_to (suc n) start.shape (opening_content start.shape) [] turns) now answer
ran_on turns n start before now bits after answer more so_far run =
    subst (λ (es : List Event). Ran start es now answer) (sym more.events)
    (ran_then start before now (interleaved_to n start.shape (opening_content start.shape) [] turns) (turn_events start.shape (around_at turns n) (begun_to n [] turns) more.lists (turn_in turns n)) answer so_far.ran
    (subst (λ (es : List Event). Ran before es now answer) (λ j. turn_events (so_far.ran.shape j) (at_suc turns n j) (begun_to n [] turns) more.lists (turn_in turns n)) run.ran))

pub ran_more : (turns : List Drawn) (n : ℕ) (start before now : WordsView) (bits after : List Bool) (answer : Bool) → n < length turns → (turn_in turns n).entry.ticket ≡ n → HasRunTo turns n start before bits → FlushesListed (words_in before) (turn_in turns n).entry.part
    → ((begun : List ℕ) (lists : Lists) → AreBegun begun bits → HasRun turns n begun lists before now after answer) → answer ≡ true → length after ≡ length bits → HasRunTo turns (n + 1) start now after
ran_more turns n start before now bits after answer less own so_far flushes run holds long =
    let more : IsMore n start.shape (opening_content start.shape) [] turns = one_more n start.shape (opening_content start.shape) [] turns less in
    let mine : HasRun turns n (begun_to n [] turns) more.lists before now after answer = run (begun_to n [] turns) more.lists so_far.begun in
    subst (λ k. HasRunTo turns k start now after) (sym (add-one n)) record {
      ran = subst (λ b. Ran start (interleaved_to (suc n) start.shape (opening_content start.shape) [] turns) now b) holds (ran_on turns n start before now bits after answer more so_far mine);
      begun = subst (λ (l : List ℕ). AreBegun l after) (sym (more.begun_then ∙ (λ j. own j ∷ (tickets_of (sym (at_suc turns n) j) ++ begun_to n [] turns)))) (mine.marked holds);
      long = long ∙ so_far.long;
      listed = flushes_more n start.shape (opening_content start.shape) [] (words_in start) turns less so_far.listed (subst (λ (w : Words). FlushesListed w (turn_in turns n).entry.part) so_far.ran.words flushes);
    }

so_far_from : (turns : List Drawn) (n : ℕ) (start before : WordsView) (bits : List Bool) → words_in start ≡ words_of (opening start.shape) → HasRunTo turns n start before bits → RunTo start.shape n turns
so_far_from turns n start before bits first so_far = (
  subst (λ (w : Words). RunsByWords start.shape w (interleaved_to n start.shape (opening_content start.shape) [] turns)) first so_far.ran.ran,
  subst (λ (w : Words). FlushesTo n start.shape (opening_content start.shape) [] w turns) first so_far.listed,
)

pub refused_at : (turns : List Drawn) (n : ℕ) (start before now : WordsView) (bits after : List Bool) (answer : Bool) → words_in start ≡ words_of (opening start.shape) → n < length turns → HasRunTo turns n start before bits
    → ((begun : List ℕ) (lists : Lists) → AreBegun begun bits → HasRun turns n begun lists before now after answer) → answer ≡ false → FirstRefused start.shape turns (Some n)
refused_at turns n start before now bits after answer first less so_far run fails =
    let more : IsMore n start.shape (opening_content start.shape) [] turns = one_more n start.shape (opening_content start.shape) [] turns less in
    let mine : HasRun turns n (begun_to n [] turns) more.lists before now after answer = run (begun_to n [] turns) more.lists so_far.begun in
    let then : List Event = interleaved_to (suc n) start.shape (opening_content start.shape) [] turns in
    let not : RanNot start then now = subst (λ b. Ran start then now b) fails (ran_on turns n start before now bits after answer more so_far mine) in (
      less,
      so_far_from turns n start before bits first so_far,
      λ ran. not.fails (subst (λ (w : Words). RunsByWords start.shape w then) (sym first) ran.0),
    )

-- or it flushes what is free
pub flush_refused : (turns : List Drawn) (n : ℕ) (start before : WordsView) (bits : List Bool) → words_in start ≡ words_of (opening start.shape) → n < length turns → HasRunTo turns n start before bits
    → (FlushesListed (words_in before) (turn_in turns n).entry.part → ⊥) → FirstRefused start.shape turns (Some n)
flush_refused turns n start before bits first less so_far fails = (
  less,
  so_far_from turns n start before bits first so_far,
  λ run. fails (subst (λ (w : Words). FlushesListed w (turn_in turns n).entry.part)
      (sym (so_far.ran.words ∙ ap (λ (w : Words). words_over start.shape w (interleaved_to n start.shape (opening_content start.shape) [] turns)) first))
      (flushes_there n start.shape (opening_content start.shape) [] (words_of (opening start.shape)) turns less run.1)),
)

pub none_refused : (turns : List Drawn) (n : ℕ) (start now : WordsView) (bits : List Bool) → words_in start ≡ words_of (opening start.shape) → n ≡ length turns → HasRunTo turns n start now bits → FirstRefused start.shape turns None
none_refused turns n start now bits first all so_far =
    subst (λ k. RunTo start.shape k turns) all (so_far_from turns n start now bits first so_far)

-- Where the first turns run, fewer of them do.
runs_fewer : (shape : Shape) (turns : List Drawn) (n k : ℕ) → n + k ≤ length turns → RunTo shape (n + k) turns → RunTo shape n turns
runs_fewer shape turns n zero within run = subst (λ m. RunTo shape m turns) (let same : n + 0 ≡ n = omega arith in same) run
runs_fewer shape turns n (suc k) within run =
    let more : IsMore (n + k) shape (opening_content shape) [] turns = one_more (n + k) shape (opening_content shape) [] turns (omega (arith, within)) in
    let then : RunTo shape (suc (n + k)) turns = subst (λ m. RunTo shape m turns) (let same : n + suc k ≡ suc (n + k) = omega arith in same) run in
    let mine : List Event = turn_events shape (around_at turns (n + k)) (begun_to (n + k) [] turns) more.lists (turn_in turns (n + k)) in
    runs_fewer shape turns n k (omega (arith, within)) (
      runs_first shape (interleaved_to (n + k) shape (opening_content shape) [] turns) mine (words_of (opening shape)) (subst (λ (es : List Event). RunsByWords shape (words_of (opening shape)) es) more.events then.0),
      flushes_fewer (n + k) shape (opening_content shape) [] (words_of (opening shape)) turns then.1,
    )

judged : (shape : Shape) (turns : List Drawn) (flaw : Option ℕ) → FirstRefused shape turns flaw → IsJudged shape turns flaw
judged shape turns None all = all
judged shape turns (Some ticket) first = λ all.
    let whole : suc ticket + (length turns - suc ticket) ≡ length turns = omega (arith, first.0) in
    first.2 (runs_fewer shape turns (suc ticket) (length turns - suc ticket) (omega (arith, whole)) (subst (λ m. RunTo shape m turns) (sym whole) all))

pub judged_told : (shape own : Shape) (turns all : List Drawn) (flaw : Option ℕ) → own ≡ shape → turns ≡ all → FirstRefused own turns flaw → IsJudged shape all flaw
judged_told shape own turns all flaw shape_is turns_are first = subst (λ (l : List Drawn). IsJudged shape l flaw) turns_are (subst (λ (s : Shape). IsJudged s turns flaw) shape_is (judged own turns flaw first))
