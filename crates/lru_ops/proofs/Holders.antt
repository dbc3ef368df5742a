-- What a pass saw of holders by its steps on words.
use Rattle.std.proofs.Common.{◌≡◌, ℕ, List, [], ◌∷◌, ◌++◌, sym, ap, ◌∙◌, subst, append_assoc}
use Rattle.std.specs.Prelude.{All}
use Rattle.std.proofs.lemmas.List.Elements.{All-nil, All-cons, All-head, All-tail, All-append}
use Rattle.map_types.specs.declared.attr.Shape.{Shape}
use Rattle.place_words.specs.declared.bucket_part.BucketPart.TheVariants.{Evict}
use Rattle.place_words.specs.declared.bucket_part.Seen.{Seen}
use Rattle.place_words.specs.declared.bucket_part.Seen.TheVariants.{Removed, Held}
use Rattle.place_words.specs.declared.history.Part.{Part}
use Rattle.place_words.specs.declared.history.Part.TheVariants as parts
use Rattle.place_words.specs.declared.owner.Owner.TheVariants.{Hand}
use Rattle.place_words.specs.Histories.{Content, in_own, Allows}
use Rattle.place_words.specs.Sets.{ListSet}
use Rattle.place_table.specs.declared.view.Turned.{Turned}
use Rattle.place_table.specs.declared.view.WordStep.{WordStep}
use Rattle.place_table.specs.Passes.{PassView}
use Rattle.place_table.specs.Rules.{owner_step, HasStep}
use Rattle.place_table.proofs.Entries.{append_nil}
use Rattle.place_table.proofs.NotesDone.{has_more, has_behind}
use Rattle.lru_ops.specs.Evictions.{SawHolder, SawHolders}

-- Steps before and behind

saw_each : (shape : Shape) (touched others : List WordStep) (turns : List Turned) → ((x : ℕ → WordStep) → HasStep x touched → HasStep x others) → All (SawHolder shape touched) turns → All (SawHolder shape others) turns
saw_each shape touched others turns on all k d less = λ e holder is. on (owner_step shape (record { element = e; owner = Hand holder })) (all k d less e holder is)

-- one stretch of work after another
pub saw_on : (shape : Shape) (p q r : PassView) (first second : List Turned) → SawHolders shape p q first → SawHolders shape q r second → SawHolders shape p r (first ++ second)
saw_on shape p q r first second a b = record {
  touched = a.touched ++ b.touched;
  touched_are = b.touched_are ∙ (ap (λ (l : List WordStep). l ++ b.touched) a.touched_are ∙ append_assoc p.view.touched a.touched b.touched);
  saw = All-append (SawHolder shape (a.touched ++ b.touched)) first second
      (saw_each shape a.touched (a.touched ++ b.touched) first (λ x has. has_more x a.touched b.touched has) a.saw)
      (saw_each shape b.touched (a.touched ++ b.touched) second (λ x has. has_behind x a.touched b.touched has) b.saw);
}

-- steps without a turn
pub saw_none : (shape : Shape) (p q : PassView) (touched : List WordStep) → q.view.touched ≡ p.view.touched ++ touched → SawHolders shape p q []
saw_none shape p q touched are = record { touched = touched; touched_are = are; saw = All-nil (SawHolder shape touched) }

pub saw_nothing : (shape : Shape) (p : PassView) → SawHolders shape p p []
saw_nothing shape p = saw_none shape p p [] (sym (append_nil p.view.touched))

pub saw_on_none : (shape : Shape) (p q r : PassView) (turns : List Turned) → SawHolders shape p q turns → SawHolders shape q r [] → SawHolders shape p r turns
saw_on_none shape p q r turns a b = subst (SawHolders shape p r) (append_nil turns) (saw_on shape p q r turns [] a b)

-- two stretches, each with its turns as they were made and as they are told
pub all_split : {X : Type 0} (P : X → Type 0) (xs ys : List X) → All P (xs ++ ys) → All P xs × All P ys
all_split P [] ys all = (All-nil P, all)
all_split P (x ∷ xs) ys all =
    let rest = all_split P xs ys (All-tail P x (xs ++ ys) all) in (All-cons P x xs (All-head P x (xs ++ ys) all) rest.0, rest.1)

pub saw_on_both : (shape : Shape) (p q r : PassView) (first second told others : List Turned) → SawHolders shape p q (first ++ told) → SawHolders shape q r (second ++ others) → SawHolders shape p r ((first ++ second) ++ (told ++ others))
saw_on_both shape p q r first second told others a b =
    let x = saw_on shape p q r (first ++ told) (second ++ others) a b in
    let P : Turned → Type 0 = SawHolder shape x.touched in
    let both = all_split P (first ++ told) (second ++ others) x.saw in
    let one = all_split P first told both.0 in
    let other = all_split P second others both.1 in
    record {
      touched = x.touched;
      touched_are = x.touched_are;
      saw = All-append P (first ++ second) (told ++ others) (All-append P first second one.0 other.0) (All-append P told others one.1 other.1);
    }

-- Parts

-- what a probe found in a hand was read so
abbrev pub SawSeen : Shape → List WordStep → ℕ → Seen → Type 0
SawSeen shape touched e Removed = Unit {0}
SawSeen shape touched e (Held holder) = HasStep (owner_step shape (record { element = e; owner = Hand holder })) touched

removed_no_holder : (e x holder : ℕ) → parts.Bucket (Evict e Removed) ≡ parts.Bucket (Evict x (Held holder)) → ⊥
removed_no_holder e x holder is = cc

same_probe : (e x c holder : ℕ) → parts.Bucket (Evict e (Held c)) ≡ parts.Bucket (Evict x (Held holder)) → (e ≡ x) × (c ≡ holder)
same_probe e x c holder is = (cc, cc)

saw_seen : (shape : Shape) (touched : List WordStep) (e : ℕ) (seen : Seen) → SawSeen shape touched e seen → (x holder : ℕ) → parts.Bucket (Evict e seen) ≡ parts.Bucket (Evict x (Held holder)) → HasStep (owner_step shape (record { element = x; owner = Hand holder })) touched
saw_seen shape touched e Removed saw x holder is = absurd (removed_no_holder e x holder is)
saw_seen shape touched e (Held c) saw x holder is =
    let same = same_probe e x c holder is in
    subst (λ (z : ℕ × ℕ). HasStep (owner_step shape (record { element = z.0; owner = Hand z.1 })) touched) (λ i. (same.0 i, same.1 i)) saw

-- a probe's turn, where what it found was read before it was told
pub saw_probe : (shape : Shape) (p q r : PassView) (touched more : List WordStep) (e : ℕ) (seen : Seen) (turn : Turned) → q.view.touched ≡ p.view.touched ++ touched → SawSeen shape touched e seen → r.view.touched ≡ q.view.touched ++ more
    → turn.entry.part ≡ parts.Bucket (Evict e seen) → SawHolders shape p r (turn ∷ [])
saw_probe shape p q r touched more e seen turn first saw then part = record {
  touched = touched ++ more;
  touched_are = then ∙ (ap (λ (l : List WordStep). l ++ more) first ∙ append_assoc p.view.touched touched more);
  saw = All-cons (SawHolder shape (touched ++ more)) turn []
      (λ x holder is. has_more (owner_step shape (record { element = x; owner = Hand holder })) touched more (saw_seen shape touched e seen saw x holder (sym part ∙ is)))
      (All-nil (SawHolder shape (touched ++ more)));
}

-- a part that is no probe, as of an own set
abbrev pub TellsNoHolder : Part → Type 0
TellsNoHolder part = (e holder : ℕ) → part ≡ parts.Bucket (Evict e (Held holder)) → ⊥

pub own_tells_none : (shape : Shape) (cpu : ℕ) (part : Part) (there : Content) (lists : ListSet) → in_own lists ≡ there → Allows shape cpu part there → TellsNoHolder part
own_tells_none shape cpu part there lists is allowed e holder same =
    let here : Allows shape cpu (parts.Bucket (Evict e (Held holder))) (in_own lists) = subst (λ (z : Part × Content). Allows shape cpu z.0 z.1) (λ i. (same i, sym is i)) allowed in
    absurd here

-- such a turn at the end, as it was made and as it is told
pub saw_both : (shape : Shape) (p s u : PassView) (turns : List Turned) (step told : Turned) (more : List WordStep) → SawHolders shape p s turns → u.view.touched ≡ s.view.touched ++ more → TellsNoHolder step.entry.part → TellsNoHolder told.entry.part
    → SawHolders shape p u ((turns ++ step ∷ []) ++ (turns ++ told ∷ []))
saw_both shape p s u turns step told more a then made tells =
    let both : List WordStep = a.touched ++ more in
    let before : All (SawHolder shape both) turns = saw_each shape a.touched both turns (λ x has. has_more x a.touched more has) a.saw in
    let with_last : (last : Turned) → TellsNoHolder last.entry.part → All (SawHolder shape both) (turns ++ last ∷ []) = (λ last none.
    All-append (SawHolder shape both) turns (last ∷ []) before (All-cons (SawHolder shape both) last [] (λ e holder is. absurd (none e holder is)) (All-nil (SawHolder shape both)))) in
    record {
      touched = both;
      touched_are = then ∙ (ap (λ (l : List WordStep). l ++ more) a.touched_are ∙ append_assoc p.view.touched a.touched more);
      saw = All-append (SawHolder shape both) (turns ++ step ∷ []) (turns ++ told ∷ []) (with_last step made) (with_last told tells);
    }
