-- What is answered by place: bits and probes as an entry tells them, in its order.
use Rattle.std.specs.Prelude.{◌≡◌, Bool, false, List, [], ◌∷◌, map, filter_map}
use Rattle.place_words.specs.declared.bucket_part.Seen.{Seen}
use Rattle.place_words.specs.declared.bucket_part.Seen.TheVariants.{Held}
use Rattle.lru_lists.specs.declared.bits.BitCall.{BitCall}
use Rattle.lru_lists.specs.declared.bits.BitCall.TheVariants.{Cleared, Read}
use Rattle.lru_lists.specs.declared.bits.ProbeCall.{ProbeCall}
use Rattle.place_words.specs.declared.visits.Look.{Look}
use Rattle.place_words.specs.declared.visits.Try.{Try}
use Rattle.place_words.specs.declared.visits.Visit.{Visit}

-- Each answer is what was told at its place, and behind the end of what was told it is `past`.
abbrev pub ByPlace : {A : Type 0} → A → List A → List A → Type 0
ByPlace past told [] = Unit {0}
ByPlace past [] (x ∷ xs) = (x ≡ past) × ByPlace past [] xs
ByPlace past (t ∷ told) (x ∷ xs) = (x ≡ t) × ByPlace past told xs

-- the bits that visits and looks found
abbrev pub visit_bits : List Visit → List Bool
visit_bits visits = map (λ visit. visit.bit) visits

abbrev pub look_bits : List Look → List Bool
look_bits looks = map (λ look. look.bit) looks

-- what the probes of looks and of tries found
abbrev pub look_seens : List Look → List Seen
look_seens looks = filter_map (λ look. look.probed) looks

abbrev pub try_seens : List Try → List Seen
try_seens tries = map (λ try. try.probed) tries

-- the bit that a call found
abbrev pub call_bit : BitCall → Bool
call_bit (Cleared visit) = visit.bit
call_bit (Read visit) = visit.bit

-- The calls for bits and the probes so far were answered by place from these bits and findings. Once an answer is lost, no more
-- is known of probes.
abbrev pub Fed : List Bool → List Seen → List BitCall → List ProbeCall → Bool → Type 0
Fed bits seens calls probes lost =
    ByPlace false bits (map call_bit calls) × (lost ≡ false → ByPlace (Held 0) seens (map (λ probe. probe.probed) probes))
