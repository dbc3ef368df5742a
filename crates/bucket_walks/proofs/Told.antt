-- Turns one after another: what they are told as, what looks at buckets leave of bits and spares, and the looks of two parts of a
-- walk.
use Rattle.std.proofs.Common.{◌≡◌, ℕ, cond, true, false, List, [], ◌∷◌, ◌++◌, map, ⊎_elim, sym, refl, ap, ◌∙◌, subst, Option, None}
use Rattle.std.specs.Prelude.{Bool, IsFalse, All, flat_map, unwrap_or}
use Rattle.std.proofs.lemmas.List.Elements.{All-nil, All-cons, All-append}
use Rattle.map_types.specs.declared.attr.Shape.{Shape}
use Rattle.map_types.specs.declared.kind.DomainId.{DomainId}
use Rattle.map_types.specs.Kind.{is_lru}
use Rattle.place_words.specs.declared.bucket_part.BucketPart.TheVariants.{Next, First, Walk}
use Rattle.place_words.specs.declared.bucket_part.NextFound.{NextFound}
use Rattle.place_words.specs.declared.bucket_part.Walked.{Walked}
use Rattle.place_words.specs.declared.bucket_part.Walked.TheVariants.{Over, Taken}
use Rattle.place_words.specs.declared.history.Part.{Part}
use Rattle.place_words.specs.declared.history.Part.TheVariants as parts
use Rattle.place_words.specs.PlainTraces.{spare_after, spare_after_part}
use Rattle.place_words.specs.Histories.{marks}
use Rattle.place_words.specs.Interleaving.{bucket_of_lock, leave_steps, part_steps}
use Rattle.place_words.specs.Moves.{taken_from_bucket}
use Rattle.place_words.specs.SerialOrder.{probes_in}
use Rattle.place_words.specs.Turns.{Turn, turns_of}
use Rattle.place_table.specs.declared.view.Turned.{Turned}
use Rattle.place_table.specs.Calls.{AreTold, sets_bit, bits_of_part, bits_of_turns, finds_moved_on}
use Rattle.place_table.specs.Known.{BitTouch, turn_of, turn_at, IsBy}
use Rattle.place_table.specs.Passes.{PassView, TableView}
use Rattle.place_table.proofs.Going.{goes_nowhere, made_on, learns_on, learns_none}
use Rattle.place_table.proofs.TurnsOn.{among_behind, among_before, told_where, told_append}
use Rattle.place_table.proofs.Worlds.{by_bool}
use Rattle.bucket_walks.specs.Looks.{IsLook, AreLooks, Looked}

-- What turns are told as

-- of two parts, each with its lost records
pub told_on : (shape : Shape) (lost more : List ℕ) (first second told others : List Turned) → AreTold shape lost first told → AreTold shape more second others → AreTold shape (more ++ lost) (first ++ second) (told ++ others)
told_on shape lost more first second told others are later =
    told_append shape (more ++ lost) first second told others (told_where shape lost (more ++ lost) (λ n. among_behind n more lost) first told are) (told_where shape more (more ++ lost) (λ n. among_before n more lost) second others later)

-- the turns alone, without what came before them
pub turns_alone : (shape : Shape) (told : List Turned) → turns_of (map (turn_at shape) told) ≡ map (turn_of shape) told
turns_alone shape [] = refl
turns_alone shape (turn ∷ told) = ap (λ (l : List Turn). turn_of shape turn ∷ l) (turns_alone shape told)

-- What looks leave

looks_append : (told others : List Turned) → AreLooks told → AreLooks others → AreLooks (told ++ others)
looks_append [] others are later = later
looks_append (turn ∷ told) others are later = (are.0, looks_append told others are.1 later)

-- of one part
pub by_look : (Fact : Part → Type 0) → ((found : Option (List ℕ)) → Fact (parts.Bucket (First found))) → ((key : List ℕ) (found : NextFound) → Fact (parts.Bucket (Next key found)))
    → ((room : ℕ) (walked : Walked) → Fact (parts.Bucket (Walk false room walked))) → (part : Part) → IsLook part → Fact part
by_look Fact first next walk part is =
    ⊎_elim
    (λ (x : (found : Option (List ℕ)) × (part ≡ parts.Bucket (First found))). subst Fact (sym x.1) (first x.0))
    (⊎_elim
    (λ (x : (key : List ℕ) × (found : NextFound) × (part ≡ parts.Bucket (Next key found))). subst Fact (sym x.2) (next x.0 x.1))
    (λ (x : (room : ℕ) × (walked : Walked) × (part ≡ parts.Bucket (Walk false room walked))). subst Fact (sym x.2) (walk x.0 x.1))) is

either_none : (b : Bool) → cond {A = List ℕ} b [] [] ≡ []
either_none true = refl
either_none false = refl

pub marks_none : (shape : Shape) (part : Part) → IsLook part → marks shape part ≡ []
marks_none shape part is = by_look (λ (p : Part). marks shape p ≡ []) (λ _. either_none (is_lru shape.kind)) (λ _ _. either_none (is_lru shape.kind)) (λ _ _. either_none (is_lru shape.kind)) part is

pub probes_none : (part : Part) → IsLook part → probes_in part ≡ []
probes_none part is = by_look (λ (p : Part). probes_in p ≡ []) (λ _. refl) (λ _ _. refl) (λ _ _. refl) part is

-- and changes no owner
none_leaves : (lru : Bool) (cpu bucket : ℕ) → leave_steps lru cpu bucket [] ≡ []
none_leaves true cpu bucket = refl
none_leaves false cpu bucket = refl

taken_by_none : (room : ℕ) (walked : Walked) → taken_from_bucket (Walk false room walked) ≡ []
taken_by_none room (Over n) = refl
taken_by_none room (Taken all) = refl

pub steps_none : (shape : Shape) (lock : DomainId) (cpu : ℕ) (part : Part) → IsLook part → part_steps shape cpu lock None part ≡ []
steps_none shape lock cpu part is =
    by_look (λ (p : Part). part_steps shape cpu lock None p ≡ []) (λ _. refl) (λ _ _. refl)
    (λ room walked. ap (leave_steps (is_lru shape.kind) cpu (unwrap_or (bucket_of_lock lock) 0)) (taken_by_none room walked) ∙ none_leaves (is_lru shape.kind) cpu (unwrap_or (bucket_of_lock lock) 0)) part is

bits_of_look : (shape : Shape) (part : Part) → IsLook part → bits_of_part shape part ≡ []
bits_of_look shape part is =
    by_look (λ (p : Part). bits_of_part shape p ≡ [])
    (λ _. ap (λ (l : List ℕ). map sets_bit l ++ [] ++ []) (either_none (is_lru shape.kind)))
    (λ _ _. ap (λ (l : List ℕ). map sets_bit l ++ [] ++ []) (either_none (is_lru shape.kind)))
    (λ _ _. ap (λ (l : List ℕ). map sets_bit l ++ [] ++ []) (either_none (is_lru shape.kind))) part is

spare_of_look : (spare : Option ℕ) (part : Part) → IsLook part → spare_after_part spare part ≡ spare
spare_of_look spare part is = by_look (λ (p : Part). spare_after_part spare p ≡ spare) (λ _. refl) (λ _ _. refl) (λ _ _. refl) part is

moved_on_by_look : (part : Part) → IsLook part → finds_moved_on part ≡ false
moved_on_by_look part is = by_look (λ (p : Part). finds_moved_on p ≡ false) (λ _. refl) (λ _ _. refl) (λ _ _. refl) part is

-- of all
abbrev bits_at : Shape → Turned → List BitTouch
bits_at shape turn = bits_of_part shape turn.entry.part

all_no_bits : (shape : Shape) (told : List Turned) → AreLooks told → flat_map (bits_at shape) told ≡ []
all_no_bits shape [] are = refl
all_no_bits shape (turn ∷ told) are = (λ i. bits_of_look shape turn.entry.part are.0 i ++ all_no_bits shape told are.1 i)

pub looks_no_bits : (shape : Shape) (told : List Turned) → AreLooks told → bits_of_turns shape told ≡ []
looks_no_bits shape told are = by_bool (is_lru shape.kind) (λ b. cond b (flat_map (bits_at shape) told) [] ≡ []) (λ _. all_no_bits shape told are) (λ _. refl)

pub looks_keep_spare : (shape : Shape) (spare : Option ℕ) (told : List Turned) → AreLooks told → spare_after spare (turns_of (map (turn_at shape) told)) ≡ spare
looks_keep_spare shape spare [] are = refl
looks_keep_spare shape spare (turn ∷ told) are =
    ap (λ (kept : Option ℕ). spare_after kept (turns_of (map (turn_at shape) told))) (spare_of_look spare turn.entry.part are.0) ∙ looks_keep_spare shape spare told are.1

pub looks_move_none : (told : List Turned) → AreLooks told → All (λ (turn : Turned). IsFalse (finds_moved_on turn.entry.part)) told
looks_move_none [] are = All-nil (λ (turn : Turned). IsFalse (finds_moved_on turn.entry.part))
looks_move_none (turn ∷ told) are = All-cons (λ (turn : Turned). IsFalse (finds_moved_on turn.entry.part)) turn told (moved_on_by_look turn.entry.part are.0) (looks_move_none told are.1)

-- One part of a walk after another

pub looked_nowhere : (t : TableView) (p : PassView) → Looked t p p [] [] []
looked_nowhere t p = record {
  told_are = tt;
  are_looks = tt;
  went = record {
    made = record { goes = goes_nowhere p; held = refl; notes = refl };
    spares = refl;
    hand = refl;
    carried = refl;
  };
  by_call = All-nil (IsBy p.cpu p.call);
  bits = refl;
  learns = learns_none t.shape p.view;
}

pub looked_on : {t : TableView} {p q r : PassView} {first second told others : List Turned} {lost more : List ℕ} → Looked t p q first told lost → Looked t q r second others more → Looked t p r (first ++ second) (told ++ others) (more ++ lost)
looked_on {t} {p} {q} {r} {first} {second} {told} {others} {lost} {more} a b = record {
  told_are = told_on t.shape lost more first second told others a.told_are b.told_are;
  are_looks = looks_append told others a.are_looks b.are_looks;
  went = record {
    made = made_on p q r first second lost more a.went.made b.went.made;
    spares = b.went.spares ∙ a.went.spares;
    hand = b.went.hand ∙ a.went.hand;
    carried = b.went.carried ∙ a.went.carried;
  };
  by_call = All-append (IsBy p.cpu p.call) first second a.by_call (subst (λ (z : ℕ × ℕ). All (IsBy z.0 z.1) second) (λ i. (a.went.made.goes.cpu i, a.went.made.goes.call i)) b.by_call);
  bits = b.bits ∙ a.bits;
  learns = learns_on t.shape p.view q.view r.view first second [] [] a.learns b.learns;
}
