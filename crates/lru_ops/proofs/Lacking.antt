-- A shrink of the global lists into the local free list for what lacks there, where something does.
use Rattle.std.proofs.Common.{◌≡◌, ℕ, ◌≤◌, ◌-◌, List, [], ◌++◌, map, zero, suc, sym, refl, ap, ◌∙◌, subst, Option, arith}
use Rattle.std.specs.Prelude.{reverse}
use Rattle.map_types.specs.declared.row.Row.{Row}
use Rattle.map_types.specs.ElementLists.{times}
use Rattle.map_types.specs.Listed.{elements_of}
use Rattle.map_types.specs.Stored.{IsSized}
use Rattle.place_words.specs.declared.visits.Look.{Look}
use Rattle.place_words.specs.declared.visits.ShrinkNote.{ShrinkNote}
use Rattle.place_words.specs.declared.visits.Try.{Try}
use Rattle.place_words.specs.Bodies.{numbers}
use Rattle.place_words.specs.Globals.{AllowsGlobalShrink, global_target, shrunk_out}
use Rattle.place_words.specs.Histories.{looks_told}
use Rattle.place_words.specs.Shrinking.{freed}
use Rattle.place_words.specs.Takings.{freed_by, shrink_probes}
use Rattle.place_table.specs.Contents.{set_told}
use Rattle.place_table.specs.Passes.{PassView, TableView}
use Rattle.local_lists.specs.LocalLists.{LocalView}
use Rattle.lru_lists.specs.declared.bits.BitCall.{BitCall}
use Rattle.lru_lists.specs.declared.bits.BitCall.TheVariants as calls
use Rattle.lru_lists.specs.declared.bits.ProbeCall.{ProbeCall}
use Rattle.lru_lists.specs.declared.notes.ShrinkNotes.{ShrinkNotes}
use Rattle.lru_lists.specs.Notes.{AreNoted}
use Rattle.lru_lists.specs.Sets.{SetView, listed}
use Rattle.lru_lists.proofs.NoteLemmas.{noted_none}
use Rattle.lru_ops.specs.declared.probing.Destination.TheVariants.{LocalFree}
use Rattle.lru_ops.specs.Askings.{Does}
use Rattle.lru_ops.specs.Filling.{ShrinksLacking, lacks, CanFill, global_note}
use Rattle.lru_ops.specs.GlobalWork.{CanShrinkInto, ShrunkInto, both_lists}
use Rattle.lru_ops.specs.OwnTurns.{rows_on, try_of}
use Rattle.lru_ops.proofs.DoesOn.{does_nothing}
use Rattle.lru_ops.proofs.SetWork.{looks_cleared, stacked_on, walk_tried}

-- what is told of it
abbrev pub lacking_note : ℕ → List Look → List Try → Option ShrinkNote
lacking_note target looks forced = global_note (lacks target) target looks forced

-- From the clauses of the calls

pub nothing_lacks : (t : TableView) (set : SetView) (lists : LocalView) (notes : ShrinkNotes) (p : PassView) (target : ℕ) → target ≡ 0 → ShrinksLacking t target (both_lists set lists p) (both_lists set lists p) notes notes
nothing_lacks t set lists notes p zero is = (refl, refl, refl, refl)
nothing_lacks t set lists notes p (suc n) is = absurd (omega (arith, is))

pub shrunk_lacking : {t : TableView} {set set_after : SetView} {lists lists_after : LocalView} {notes notes_after : ShrinkNotes} {p q : PassView} (target : ℕ) → 1 ≤ target → ShrunkInto t target (both_lists set lists p) (both_lists set_after lists_after q) notes notes_after
    → ShrinksLacking t target (both_lists set lists p) (both_lists set_after lists_after q) notes notes_after
shrunk_lacking zero some into = absurd (omega (arith, some))
shrunk_lacking (suc n) some into = into

-- A set that may be filled into local lists may be shrunk into them where nothing is pending.
pub may_shrink_into : {t : TableView} {set : SetView} {lists : LocalView} {p : PassView} → CanFill t set lists p → lists.pending ≡ [] → CanShrinkInto t set lists p
may_shrink_into can none = record {
  walk = can.walk;
  sized = can.fits.sized;
  bound = can.fits.bound;
  room = can.fits.room;
  whole = can.fits.whole;
  none_pending = none;
  same_free = can.same_free;
  no_rows = λ e. can.same_rows e ∙ ap (λ (l : List Row). times e (elements_of l)) none;
  apart = λ e. let once = can.apart e in omega (arith, once);
}

-- What was done, in one form, whether something lacked or not.
pub record Lacked (t : TableView) (target : ℕ) (set set_after : SetView) (lists lists_after : LocalView) (notes notes_after : ShrinkNotes) (p q : PassView) : Type 0 where
  pub looks : List Look
  pub forced : List Try
  pub noted_looks : AreNoted looks notes.looks notes_after.looks
  pub noted_forced : AreNoted forced notes.forced notes_after.forced
  pub allowed : (moved : ℕ) → target ≡ global_target - moved → AllowsGlobalShrink moved (lacking_note target looks forced) (listed set)
  pub set_is : set_told set_after ≡ record (set_told set) { lists = shrunk_out (lacking_note target looks forced) (listed set) }
  pub freed_is : freed looks forced ≡ freed_by (lacking_note target looks forced)
  pub free_is : numbers lists_after.free.bodies ≡ reverse (freed looks forced) ++ numbers lists.free.bodies
  pub steal_is : lists_after.steal ≡ lists.steal
  pub probes : List ProbeCall
  pub tried : map try_of probes ≡ shrink_probes (lacking_note target looks forced)
  pub does : Does t LocalFree (rows_on set) (map calls.Cleared (looks_told (lacking_note target looks forced))) probes p q
  pub leaves : CanShrinkInto t set_after lists_after q

none_lacked : {t : TableView} {set : SetView} {lists : LocalView} {p : PassView} (notes : ShrinkNotes) → CanShrinkInto t set lists p → Lacked t 0 set set lists lists notes notes p p
none_lacked {t} {set} {lists} {p} notes into = record {
  looks = [];
  forced = [];
  noted_looks = noted_none notes.looks;
  noted_forced = noted_none notes.forced;
  allowed = λ moved is. omega (arith, is);
  set_is = refl;
  freed_is = refl;
  free_is = refl;
  steal_is = refl;
  probes = [];
  tried = refl;
  does = does_nothing t LocalFree (rows_on set) p into.walk.holds.lists.notes into.walk.holds.lists.below into.walk.holds.lists.notes_are;
  leaves = into;
}

some_lacked : {t : TableView} {set set_after : SetView} {lists lists_after : LocalView} {notes notes_after : ShrinkNotes} {p q : PassView} (n : ℕ) → ShrunkInto t (suc n) (both_lists set lists p) (both_lists set_after lists_after q) notes notes_after → Lacked t (suc n) set set_after lists lists_after notes notes_after p q
some_lacked {t} {set} {set_after} {lists} {lists_after} {notes} {notes_after} {p} {q} n s =
    let shrink = s.shrinks.shrink in
    record {
      looks = shrink.looks;
      forced = shrink.forced;
      noted_looks = shrink.noted_looks;
      noted_forced = shrink.noted_forced;
      allowed = λ moved is. (omega (arith, is), is, shrink.shrinks);
      set_is = ap set_told shrink.set;
      freed_is = refl;
      free_is = ap (λ (z : LocalView). numbers z.free.bodies) s.shrinks.lists_are ∙ stacked_on (IsSized t.shape) (freed shrink.looks shrink.forced) lists.free s.shrinks.free shrink.left;
      steal_is = ap (λ (z : LocalView). z.steal) s.shrinks.lists_are;
      probes = s.probes;
      tried = ap (map try_of) shrink.probed ∙ walk_tried (rows_on set) shrink.looks shrink.forced;
      does = subst (λ (l : List BitCall). Does t LocalFree (rows_on set) l s.probes p q) (shrink.asked ∙ looks_cleared shrink.looks) s.does;
      leaves = s.leaves;
    }

pub lacked : {t : TableView} {set set_after : SetView} {lists lists_after : LocalView} {notes notes_after : ShrinkNotes} {p q : PassView} (target : ℕ) → CanShrinkInto t set lists p → ShrinksLacking t target (both_lists set lists p) (both_lists set_after lists_after q) notes notes_after
    → Lacked t target set set_after lists lists_after notes notes_after p q
lacked {t} {set} {set_after} {lists} {lists_after} {notes} {notes_after} {p} {q} zero into s =
    subst (λ (z : SetView × LocalView × ShrinkNotes × PassView). Lacked t 0 set z.0 lists z.1 notes z.2 p z.3) (λ i. (sym s.0 i, sym s.1 i, sym s.2 i, sym s.3 i)) (none_lacked notes into)
lacked (suc n) into s = some_lacked n s
