-- Words to write down worked histories.
use Rattle.std.proofs.Common.{◌≡◌, ℕ, zero, suc, ◌<◌, Bool, false, List, [], ◌∷◌, take, arith}
use Rattle.std.specs.Prelude.{Option, All, IsTrue, is_some, not}
use Rattle.map_types.specs.declared.attr.Shape.{Shape}
use Rattle.map_types.specs.declared.kind.MapKind.TheVariants.{LruHash, LruPercpuHash}
use Rattle.place_words.specs.declared.bucket_part.Seen.{Seen}
use Rattle.place_words.specs.declared.history.Entry.{Entry}
use Rattle.place_words.specs.declared.history.Part.{Part}
use Rattle.map_types.specs.declared.row.Row.{Row}
use Rattle.place_words.specs.declared.visits.Flush.{Flush}
use Rattle.place_words.specs.declared.visits.Look.{Look}
use Rattle.place_words.specs.declared.visits.Try.{Try}
use Rattle.place_words.specs.declared.visits.Visit.{Visit}
use Rattle.place_words.specs.Shrinking.{IsFirstEnd}

abbrev pub entry : ℕ → ℕ → ℕ → Part → Entry
entry ticket cpu call part = record { ticket = ticket; cpu = cpu; call = call; part = part }

abbrev pub visit : ℕ → Bool → Visit
visit e bit = record { element = e; bit = bit }

abbrev pub flush : ℕ → ℕ → Bool → Flush
flush e hash bit = record { element = e; hash = hash; bit = bit }

abbrev pub look : ℕ → Bool → Option Seen → Look
look e bit probed = record { element = e; bit = bit; probed = probed }

abbrev pub attempt : ℕ → Seen → Try
attempt e probed = record { element = e; probed = probed }

abbrev pub row : ℕ → ℕ → Row
row e hash = record { element = e; hash = hash }

abbrev pub lru_hash : ℕ → ℕ → Bool → Shape
lru_hash max cpus common = record {
  kind = LruHash;
  cpus = cpus;
  capacity = max;
  elements = max;
  buckets = max;
  key_size = 1;
  value_size = 1;
  seed = 0;
  common = common;
}

abbrev pub lru_hash_of : ℕ → ℕ → ℕ → Bool → Shape
lru_hash_of max buckets cpus common = record (lru_hash max cpus common) { buckets = buckets }

abbrev pub lru_percpu : ℕ → ℕ → ℕ → Shape
lru_percpu max buckets cpus = record (lru_hash_of max buckets cpus false) { kind = LruPercpuHash }

-- a list with an element isn't empty
pub not_nil : {A : Type 0} {x : A} {xs : List A} → x ∷ xs ≡ [] → ⊥
not_nil same = grind (arith, same)

-- each of these looks probes exactly where the bit isn't set
abbrev pub AreProbed : List Look → Type 0
AreProbed looks = All (λ (look : Look). is_some look.probed ≡ not look.bit) looks

pub probed0 : AreProbed []
probed0 k d below = absurd (omega (arith, below))

pub probed_more : (x : Look) (xs : List Look) → is_some x.probed ≡ not x.bit → AreProbed xs → AreProbed (x ∷ xs)
probed_more x xs first rest zero d below = first
probed_more x xs first rest (suc k) d below = rest k d (omega (arith, below))

before1 : {A : Type 0} (ends : List A → Bool) (x : A) → ends [] ≡ false → (k : ℕ) → k < 1 → ends (take k (x ∷ [])) ≡ false
before1 ends x a zero below = a
before1 ends x a (suc k) below = absurd (omega arith)

before3 : {A : Type 0} (ends : List A → Bool) (x y z : A) → ends [] ≡ false → ends (x ∷ []) ≡ false → ends (x ∷ y ∷ []) ≡ false → (k : ℕ) → k < 3 → ends (take k (x ∷ y ∷ z ∷ [])) ≡ false
before3 ends x y z a b c zero below = a
before3 ends x y z a b c (suc zero) below = b
before3 ends x y z a b c (suc (suc zero)) below = c
before3 ends x y z a b c (suc (suc (suc k))) below = absurd (omega arith)

pub end0 : {A : Type 0} (ends : List A → Bool) → IsTrue (ends []) → IsFirstEnd ends []
end0 ends here = record { here = here; not_before = λ k below. absurd (omega (arith, below)) }

pub end1 : {A : Type 0} (ends : List A → Bool) (x : A) → IsTrue (ends (x ∷ [])) → ends [] ≡ false → IsFirstEnd ends (x ∷ [])
end1 ends x here a = record { here = here; not_before = before1 ends x a }

pub end3 : {A : Type 0} (ends : List A → Bool) (x y z : A) → IsTrue (ends (x ∷ y ∷ z ∷ [])) → ends [] ≡ false → ends (x ∷ []) ≡ false → ends (x ∷ y ∷ []) ≡ false → IsFirstEnd ends (x ∷ y ∷ z ∷ [])
end3 ends x y z here a b c = record { here = here; not_before = before3 ends x y z a b c }

before2 : {A : Type 0} (ends : List A → Bool) (x y : A) → ends [] ≡ false → ends (x ∷ []) ≡ false → (k : ℕ) → k < 2 → ends (take k (x ∷ y ∷ [])) ≡ false
before2 ends x y a b zero below = a
before2 ends x y a b (suc zero) below = b
before2 ends x y a b (suc (suc k)) below = absurd (omega arith)

pub end2 : {A : Type 0} (ends : List A → Bool) (x y : A) → IsTrue (ends (x ∷ y ∷ [])) → ends [] ≡ false → ends (x ∷ []) ≡ false → IsFirstEnd ends (x ∷ y ∷ [])
end2 ends x y here a b = record { here = here; not_before = before2 ends x y a b }

before4 : {A : Type 0} (ends : List A → Bool) (x y z v : A) → ends [] ≡ false → ends (x ∷ []) ≡ false → ends (x ∷ y ∷ []) ≡ false → ends (x ∷ y ∷ z ∷ []) ≡ false → (k : ℕ) → k < 4 → ends (take k (x ∷ y ∷ z ∷ v ∷ [])) ≡ false
before4 ends x y z v a b c d zero below = a
before4 ends x y z v a b c d (suc zero) below = b
before4 ends x y z v a b c d (suc (suc zero)) below = c
before4 ends x y z v a b c d (suc (suc (suc zero))) below = d
before4 ends x y z v a b c d (suc (suc (suc (suc k)))) below = absurd (omega arith)

pub end4 : {A : Type 0} (ends : List A → Bool) (x y z v : A) → IsTrue (ends (x ∷ y ∷ z ∷ v ∷ [])) → ends [] ≡ false → ends (x ∷ []) ≡ false → ends (x ∷ y ∷ []) ≡ false → ends (x ∷ y ∷ z ∷ []) ≡ false → IsFirstEnd ends (x ∷ y ∷ z ∷ v ∷ [])
end4 ends x y z v here a b c d = record { here = here; not_before = before4 ends x y z v a b c d }
