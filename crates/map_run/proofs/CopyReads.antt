-- What the reads of a copy tell of a map that nobody changes meanwhile: where no put stopped, all its pairs, each once.
use Rattle.std.proofs.Common.{◌≡◌, ℕ, suc, zero, ◌<◌, Bool, true, false, cond, List, [], ◌∷◌, ◌++◌, map, Option, None, Some, refl, ap, sym, ◌∙◌, subst}
use Rattle.std.specs.Prelude.{◌*◌, min, All, IsTrue, option_map}
use Rattle.std.specs.List.{flat_map}
use Rattle.std.proofs.lemmas.List.{append-nil}
use Rattle.std.proofs.lemmas.List.Elements.{All-head, All-tail}
use Rattle.map_types.specs.Stored.{Stored}
use Rattle.map_types.specs.declared.attr.Shape.{Shape}
use Rattle.map_types.specs.declared.call.Verb.TheVariants.{BatchRead}
use Rattle.map_types.specs.declared.refusal.Errno.TheVariants.{Enoent, E2big, Enomem, Eexist, Einval, Enospc}
use Rattle.map_types.specs.declared.reply.Reply.{Reply}
use Rattle.map_types.specs.declared.reply.Reply.TheVariants.{Done, Value, Refused, Batch, Count}
use Rattle.place_words.specs.Logs.{State, after_one, answers, bucket_at, does}
use Rattle.map_report.specs.Serial.{in_order, pair_read}
use Rattle.map_copy.specs.Copied.{Read, Step, Copies, IsPage, first_read, has_stopped, pairs_in, read_behind, read_behind_step, read_of}
use Rattle.map_copy.specs.CopyScripts.{read_call, read_replies}
use Rattle.map_copy.specs.Plans.{IsCopied}
use Rattle.map_copy.proofs.StepLemmas.{none_left, same_some}
use Rattle.serial_laws.specs.WalkLaws.{Moment, Holds, read_more, read_through, start_behind}
use Rattle.serial_laws.proofs.LooksLeave.{look_leaves}
use Rattle.serial_laws.proofs.WalkedPairs.{all_from_first}

-- the put of a step, where there is one, didn't stop
abbrev pub WentOn : Step → Type 0
WentOn step = ¬ (IsTrue (has_stopped step.put))

-- the pairs of all pages, and how many each read asks for
abbrev pub pairs_told : List Step → List (List ℕ × List ℕ)
pairs_told steps = flat_map (λ (step : Step). pairs_in step.page) steps

abbrev counts_of : List Step → List ℕ
counts_of [] = []
counts_of (step ∷ steps) = step.read.count ∷ counts_of steps

-- the moments at which the reads are made, the first of which has this number
abbrev moments : Shape → ℕ → List Step → State → ℕ → Moment
moments shape number [] state n = record { cpu = 0; number = number; state = state }
moments shape number (step ∷ steps) state zero = record { cpu = 0; number = number; state = state }
moments shape number (step ∷ steps) state (suc n) = moments shape (suc number) steps (after_one shape number (read_call step) state) n

still_holds : (shape : Shape) (lie : ℕ → List Stored) (number : ℕ) (steps : List Step) (state : State) → ((bucket : ℕ) → bucket < shape.buckets → bucket_at shape state bucket ≡ lie bucket) → (n : ℕ) → Holds shape lie (moments shape number steps state n)
still_holds shape lie number [] state is n = is
still_holds shape lie number (step ∷ steps) state is zero = is
still_holds shape lie number (step ∷ steps) state is (suc n) =
    still_holds shape lie (suc number) steps (after_one shape number (read_call step) state) (λ bucket below. look_leaves shape (read_call step) number state refl bucket ∙ is bucket below) n

abbrev Told : Reply → (Option ℕ → Option (List (List ℕ × List ℕ))) → List (List ℕ × List ℕ) → Option ℕ → Type 0
Told page later more start = read_more page (later (start_behind start page)) ≡ Some (pairs_in page ++ more)

-- a page with what the reads behind it tell
page_told : (elements : ℕ) (read : Read) (page : Reply) (later : Option ℕ → Option (List (List ℕ × List ℕ))) (more : List (List ℕ × List ℕ)) (start : Option ℕ) → IsPage page
    → ((next : Read) → read_behind elements read page ≡ Some next → later (Some next.start) ≡ Some more) → (read_behind elements read page ≡ None → more ≡ []) → Told page later more start
page_told elements read (Batch None (pair ∷ pairs) next) later more start is on ends = ap (option_map (λ (rest : List (List ℕ × List ℕ)). (pair ∷ pairs) ++ rest)) (on (read_of read.count next) refl)
page_told elements read (Batch (Some Enospc) [] next) later more start is on ends = ap (option_map (λ (rest : List (List ℕ × List ℕ)). [] ++ rest)) (on (read_of (min (2 * read.count) elements) next) refl)
page_told elements read (Batch (Some Enoent) taken next) later more start is on ends = ap Some (sym (append-nil taken) ∙ ap (λ (rest : List (List ℕ × List ℕ)). taken ++ rest) (sym (ends refl)))
page_told elements read Done later more start is on ends = absurd is
page_told elements read (Value bytes) later more start is on ends = absurd is
page_told elements read (Refused errno) later more start is on ends = absurd is
page_told elements read (Count stop done) later more start is on ends = absurd is
page_told elements read (Batch None [] next) later more start is on ends = absurd is
page_told elements read (Batch (Some Enospc) (pair ∷ pairs) next) later more start is on ends = absurd is
page_told elements read (Batch (Some E2big) taken next) later more start is on ends = absurd is
page_told elements read (Batch (Some Enomem) taken next) later more start is on ends = absurd is
page_told elements read (Batch (Some Eexist) taken next) later more start is on ends = absurd is
page_told elements read (Batch (Some Einval) taken next) later more start is on ends = absurd is

went_behind : (elements : ℕ) (step : Step) → WentOn step → read_behind_step elements step ≡ read_behind elements step.read step.page
went_behind elements step went = by (has_stopped step.put) went
  where
    by : (b : Bool) → ¬ (IsTrue b) → cond b None (read_behind elements step.read step.page) ≡ read_behind elements step.read step.page
    by true not = absurd (not refl)
    by false not = refl

reads_told : (shape : Shape) (elements number : ℕ) (steps : List Step) (state : State) (read : Read) → Copies elements (Some read) steps None → All WentOn steps → answers shape number (map read_call steps) state ≡ read_replies steps
    → read_through shape (moments shape number steps state) (Some read.start) (counts_of steps) ≡ Some (pairs_told steps)
reads_told shape elements number [] state read copies went told = absurd cc
reads_told shape elements number (step ∷ steps) state read copies went told =
    let same : read ≡ step.read = same_some copies.0 in
    let page : (does shape 0 number state (BatchRead false step.read.count (Some step.read.start) 0)).reply ≡ step.page = cc in
    let others : answers shape (suc number) (map read_call steps) (after_one shape number (read_call step) state) ≡ read_replies steps = cc in
    let behind = went_behind elements step (All-head WentOn step steps went) in
    let rest : Copies elements (read_behind elements step.read step.page) steps None = subst (λ (from : Option Read). Copies elements from steps None) behind copies.2 in
    let later : Option ℕ → Option (List (List ℕ × List ℕ)) = λ start. read_through shape (moments shape (suc number) steps (after_one shape number (read_call step) state)) start (counts_of steps) in
    let on : (next : Read) → read_behind elements step.read step.page ≡ Some next → later (Some next.start) ≡ Some (pairs_told steps) =
    λ next is. reads_told shape elements (suc number) steps (after_one shape number (read_call step) state) next (subst (λ (from : Option Read). Copies elements from steps None) is rest) (All-tail WentOn step steps went) others in
    let ends : read_behind elements step.read step.page ≡ None → pairs_told steps ≡ [] =
    λ is. ap pairs_told (none_left elements steps None (subst (λ (from : Option Read). Copies elements from steps None) is rest)).0 in
    subst (λ (r : Read). read_through shape (moments shape number (step ∷ steps) state) (Some r.start) (counts_of (step ∷ steps)) ≡ Some (pairs_told (step ∷ steps))) (sym same)
    (subst (λ (reply : Reply). read_more reply (later (start_behind (Some step.read.start) reply)) ≡ Some (pairs_in step.page ++ pairs_told steps)) (sym page)
    (page_told elements step.read step.page later (pairs_told steps) (Some step.read.start) copies.1.page on ends))

-- All pages of a copy from which nothing was left out have the pairs of all buckets, in their order.
pub read_pairs : (shape : Shape) (lie : ℕ → List Stored) (count number : ℕ) (steps : List Step) (state : State) → IsCopied count shape.elements steps → All WentOn steps → answers shape number (map read_call steps) state ≡ read_replies steps
    → ((bucket : ℕ) → bucket < shape.buckets → bucket_at shape state bucket ≡ lie bucket) → pairs_told steps ≡ map (pair_read shape 0) (in_order shape lie)
read_pairs shape lie count number steps state copied went told is =
    all_from_first shape lie (moments shape number steps state) (still_holds shape lie number steps state is) (counts_of steps) (pairs_told steps)
    (reads_told shape shape.elements number steps state (first_read count) copied went told)
