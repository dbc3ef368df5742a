-- The strands that are handed out at the end.
use Rattle.std.proofs.Common.{◌≡◌, ℕ, ◌≤◌, Bool, true, false, List, [], ◌∷◌, map, get_or, sym, refl, ap, ◌∙◌, subst, arith, Option, Some, Vec, Global}
use Rattle.std.specs.Prelude.{IfSome, not, filter}
use Rattle.std.specs.List.{list_any}
use Rattle.map_types.specs.declared.attr.Shape.{Shape}
use Rattle.map_types.specs.declared.kind.DomainId.TheVariants as named
use Rattle.map_types.specs.Creation.{IsShape}
use Rattle.map_types.proofs.CreationLemmas.{bounds_of_shape}
use Rattle.place_words.specs.declared.history.LockHistory.{LockHistory}
use Rattle.place_words.specs.declared.history.Strand.{Strand}
use Rattle.place_words.specs.Locks.{is_lock, lock_number, lock_count}
use Rattle.place_words.proofs.LockLemmas.{named_by_number, number_within}
use Rattle.place_table.specs.declared.strands.FinishedStrand.{FinishedStrand}
use Rattle.place_table.specs.declared.view.Ended.{Ended}
use Rattle.place_table.specs.Views.{is_among, is_recorded}
use Rattle.place_table.specs.Passes.{flags_of, finished_of, AreFinished}
use Rattle.place_table.specs.Closing.{all_locks, history_of, strand_told}
use Rattle.place_table.specs.Leaving.{Logs, AreKept, finished_told, AreTold}
use Rattle.place_table.proofs.Flags.{flag_at}
use Rattle.place_table.proofs.Leaves.{any_of, passes_below}
use Rattle.place_table.proofs.SharedOut.{filter_same}

-- ---- strands as they were kept

told_same : (shape : Shape) (strand : Ended) → shape.cpus ≤ 16 → finished_told shape (finished_of strand) ≡ strand_told shape strand
told_same shape strand few =
    ap (λ (cs : List ℕ). record { phase = 0; cpus = cs; steps = strand.kept })
    (filter_same (λ cpu. get_or (flags_of strand.cpus) cpu false) (λ cpu. is_among cpu strand.cpus) 0 shape.cpus (λ cpu low less. flag_at strand.cpus cpu false (omega arith)))

all_told : (shape : Shape) (strands : List Ended) → shape.cpus ≤ 16 → map (finished_told shape) (map finished_of strands) ≡ map (strand_told shape) strands
all_told shape [] few = refl
all_told shape (x ∷ xs) few = (λ i. told_same shape x few i ∷ all_told shape xs few i)

-- ---- every record is lost with the strands

none_left : (ks : List ℕ) → filter (λ (k : ℕ). not true) ks ≡ []
none_left [] = refl
none_left (k ∷ ks) = none_left ks

some_lock : (shape : Shape) (lost : ℕ → Bool) → IsShape shape → ((k : ℕ) → lost k ≡ true) → list_any lost (all_locks shape) ≡ true
some_lock shape lost is all =
    let bounds = bounds_of_shape shape is in
    let lock = named.Bucket 0 in
    let there : is_lock shape lock ≡ true = passes_below 0 shape.buckets (omega arith) in
    let k : ℕ = lock_number shape lock in
    any_of shape lost k (number_within shape lock there) (ap (is_lock shape) (named_by_number shape lock there) ∙ there) (all k)

pub told_none : (shape : Shape) (log : Logs) (lost : ℕ → Bool) (strands : List Ended) (kept : List LockHistory) (told : List Strand) → IsShape shape → kept ≡ [] → told ≡ [] → AreTold shape log lost strands kept told true
told_none shape log lost strands kept told is no_histories no_strands = record {
  strands_lost = true;
  are_kept = record {
    kept_are = no_histories ∙ sym (ap (map (history_of shape log)) (none_left (all_locks shape)));
    lost_is = sym (some_lock shape (λ _. true) is (λ _. refl));
  };
  told_are = no_strands;
}

pub told_all : (shape : Shape) (log : Logs) (lost : ℕ → Bool) (strands : List Ended) (ended : Option (Vec FinishedStrand Global)) (finished : Vec FinishedStrand Global) (kept histories : List LockHistory) (told : List Strand) (some_lost : Bool)
    → IsShape shape → ended ≡ Some finished → AreFinished strands ended → IfSome ended (λ _. AreKept shape log lost (lock_count shape) kept some_lost) → histories ≡ kept → told ≡ map (finished_told shape) finished.items → AreTold shape log lost strands histories told some_lost
told_all shape log lost strands ended finished kept histories told some_lost is there are if_kept same made =
    let bounds = bounds_of_shape shape is in
    let are_kept : AreKept shape log lost (lock_count shape) kept some_lost = subst (λ (o : Option (Vec FinishedStrand Global)). IfSome o (λ _. AreKept shape log lost (lock_count shape) kept some_lost)) there if_kept in record {
      strands_lost = false;
      are_kept = record { kept_are = same ∙ are_kept.kept_are; lost_is = are_kept.lost_is };
      told_are = made ∙ (ap (map (finished_told shape)) (subst (AreFinished strands) there are) ∙ all_told shape (filter is_recorded strands) (omega arith));
    }
