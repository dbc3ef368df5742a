-- A bucket that a batch read empties: its elements are on the calling CPU's freelist then, and all else is as it was.
use Rattle.std.proofs.Common.{◌≡◌, ℕ, ◌<◌, List, [], ◌∷◌, ◌++◌, length, get_or, set, IsPermutation, refl, ◌∙◌, subst, arith, append_assoc}
use Rattle.std.specs.List.{concat, flat_map}
use Rattle.std.proofs.lemmas.List.{length-set, set-get_or}
use Rattle.std.proofs.lemmas.List.Sorted.{IsPermutation-refl, IsPermutation-sym, IsPermutation-trans, IsPermutation-append_left, IsPermutation-append_right, IsPermutation-middle}
use Rattle.map_types.specs.declared.attr.Shape.{Shape}
use Rattle.map_types.specs.Stored.{Stored}
use Rattle.place_words.specs.declared.finals.Finals.{Finals}
use Rattle.map_report.specs.EachOnce.{EachOnce}
use Rattle.map_report.specs.Freelists.{pushed}
use Rattle.map_report.specs.Serial.{in_bucket_at, all_pushed, emptied}
use Rattle.map_report.specs.Soundness.{HasLists, IsBucket, IsSound}
use Rattle.serial_laws.proofs.BucketLaws.{each_set}
use Rattle.serial_laws.proofs.EachOnceOpening.{each_once_moved}
use Rattle.serial_laws.proofs.EachOnceRun.{IsWhole}
use Rattle.serial_laws.proofs.EachOnceSteps.{numbers, others, flat_map_set, permutes_same, permutes_past, pushed_permutes}

-- Elements that are pushed one after another

pub pushed_long : (cpu : ℕ) (elements : List ℕ) (stacks : List (List ℕ)) → length (all_pushed cpu elements stacks) ≡ length stacks
pushed_long cpu [] stacks = refl
pushed_long cpu (element ∷ elements) stacks = pushed_long cpu elements (pushed cpu element stacks) ∙ length-set stacks cpu (element ∷ get_or stacks cpu [])

all_pushed_permute : (cpu : ℕ) (elements : List ℕ) (stacks : List (List ℕ)) → cpu < length stacks → IsPermutation (concat (all_pushed cpu elements stacks)) (elements ++ concat stacks)
all_pushed_permute cpu [] stacks within = IsPermutation-refl (concat stacks)
all_pushed_permute cpu (element ∷ elements) stacks within =
    let long : length (pushed cpu element stacks) ≡ length stacks = length-set stacks cpu (element ∷ get_or stacks cpu []) in
    IsPermutation-trans _ _ _ (all_pushed_permute cpu elements (pushed cpu element stacks) (omega arith))
    (IsPermutation-trans _ _ _ (IsPermutation-append_right elements _ _ (pushed_permutes cpu element stacks within))
    (IsPermutation-middle elements element (concat stacks)))

-- The bucket

emptied_permutes : (buckets : List (List Stored)) (i : ℕ) → i < length buckets → IsPermutation (flat_map numbers buckets) (numbers (get_or buckets i []) ++ flat_map numbers (set buckets i []))
emptied_permutes buckets i within =
    IsPermutation-trans _ _ _
    (subst (λ l. IsPermutation (flat_map numbers l) (numbers (get_or buckets i []) ++ others numbers buckets i)) (set-get_or buckets i []) (flat_map_set numbers buckets i (get_or buckets i []) within))
    (IsPermutation-append_right (numbers (get_or buckets i [])) _ _ (IsPermutation-sym _ _ (flat_map_set numbers buckets i [] within)))

-- some go from a bucket to a freelist
all_go_out : (b c f g s es : List ℕ) → IsPermutation b (es ++ c) → IsPermutation g (es ++ f) → IsPermutation ((b ++ f) ++ s) ((c ++ g) ++ s)
all_go_out b c f g s es out into =
    IsPermutation-append_left s (b ++ f) (c ++ g)
    (IsPermutation-trans _ _ _ (IsPermutation-append_left f b (es ++ c) out)
    (IsPermutation-trans _ _ _ (permutes_same ((es ++ c) ++ f) (es ++ (c ++ f)) (append_assoc es c f))
    (IsPermutation-trans _ _ _ (permutes_past es c f)
    (IsPermutation-append_right c (es ++ f) g (IsPermutation-sym g (es ++ f) into)))))

emptied_whole : (shape : Shape) (n cpu bucket : ℕ) (lists : Finals) → cpu < shape.cpus → bucket < shape.buckets → HasLists shape lists → EachOnce n lists → IsWhole shape n (emptied cpu bucket lists)
emptied_whole shape n cpu bucket lists few below has once =
    let there : bucket < length lists.buckets = omega (arith, has.buckets, below) in
    let own : cpu < length lists.freelists = omega (arith, has.freelists, few) in
    let taken : List ℕ = numbers (in_bucket_at lists bucket) in
    record {
      lengths = record {
        buckets = length-set lists.buckets bucket [] ∙ has.buckets;
        freelists = pushed_long cpu taken lists.freelists ∙ has.freelists;
        spares = has.spares;
      };
      once = each_once_moved n lists _ once
          (all_go_out _ _ _ _ lists.spares taken (emptied_permutes lists.buckets bucket there) (all_pushed_permute cpu taken lists.freelists own));
    }

-- Sound lists stay sound.
pub sound_emptied : (shape : Shape) (cpu bucket : ℕ) (lists : Finals) → cpu < shape.cpus → bucket < shape.buckets → IsSound shape lists → IsSound shape (emptied cpu bucket lists)
sound_emptied shape cpu bucket lists few below sound =
    let whole = emptied_whole shape shape.elements cpu bucket lists few below sound.lengths sound.each_once in
    record {
      lengths = whole.lengths;
      each_once = whole.once;
      each_bucket = each_set (IsBucket shape) lists.buckets bucket [] sound.each_bucket (record { own = tt; distinct = tt; sized = tt });
      no_lru_lists = record { sets = sound.no_lru_lists.sets; locals = sound.no_lru_lists.locals; marked = sound.no_lru_lists.marked };
    }
