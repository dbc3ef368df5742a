-- A walk that hands over to a callback hands the same over to any callback that may answer as much.
use Rattle.std.proofs.Common.{◌≡◌, ℕ, Bool, true, false, eqb, List, [], ◌∷◌, ◌++◌, map}
use Rattle.std.specs.Prelude.{MatchBool}
use Rattle.map_types.specs.declared.attr.Shape.{Shape}
use Rattle.map_types.specs.declared.refusal.Errno.TheVariants.{Einval}
use Rattle.map_types.specs.declared.reply.Reply.{Reply}
use Rattle.map_types.specs.declared.reply.Reply.TheVariants.{Refused}
use Rattle.place_words.specs.declared.bucket_part.Walked.TheVariants.{Over, Taken}
use Rattle.place_words.specs.Handing.{Callback, HandsOver, HandsOverBuckets, IsHandingTrace, handed}
use Rattle.place_words.specs.Turns.{Turn}
use Rattle.place_words.specs.Walks.{buckets_from}

-- what the one callback may answer for a pair, the other may
abbrev pub MayAsWell : Callback → Callback → Type 0
MayAsWell Says Also = (pair : List ℕ × List ℕ) (answer : Bool) → Says pair answer → Also pair answer

pub over_along : {Says Also : Callback} → MayAsWell Says Also → (pairs over : List (List ℕ × List ℕ)) (stopped : Bool) → HandsOver Says pairs over stopped → HandsOver Also pairs over stopped
over_along as_well [] over stopped hands = hands
over_along as_well (pair ∷ pairs) over stopped (true, rest, (is, says, ends)) = (true, rest, (is, as_well pair true says, ends))
over_along as_well (pair ∷ pairs) over stopped (false, rest, (is, says, later)) = (false, rest, (is, as_well pair false says, over_along as_well pairs rest stopped later))

module _ {Says Also : Callback} (shape : Shape) (cpu : ℕ) (as_well : MayAsWell Says Also) where
  pub hands_along : (buckets : List ℕ) (before : List (List ℕ × List ℕ)) (turns : List Turn) (reply : Reply) → HandsOverBuckets shape cpu Says buckets before turns reply → HandsOverBuckets shape cpu Also buckets before turns reply
  hands_along [] before turns reply hands = hands
  hands_along (bucket ∷ buckets) before turns reply (Over n, rest, (is, ends)) = (Over n, rest, (is, ends))
  hands_along (bucket ∷ buckets) before turns reply (Taken all, rest, (is, (over, true, (hands, ends)))) = (Taken all, rest, (is, (over, true, (over_along as_well (map (handed shape cpu) all) over true hands, ends))))
  hands_along (bucket ∷ buckets) before turns reply (Taken all, rest, (is, (over, false, (hands, later)))) =
      (Taken all, rest, (is, (over, false, (over_along as_well (map (handed shape cpu) all) over false hands, hands_along buckets (before ++ over) rest reply later))))

  pub handing_along : (flags : ℕ) (turns : List Turn) (reply : Reply) → IsHandingTrace shape cpu Says flags turns reply → IsHandingTrace shape cpu Also flags turns reply
  handing_along flags turns reply = by (eqb flags 0)
    where
      by : (plainly : Bool) → MatchBool plainly (HandsOverBuckets shape cpu Says (buckets_from shape 0) [] turns reply) ((turns ≡ []) × (reply ≡ Refused Einval)) → MatchBool plainly (HandsOverBuckets shape cpu Also (buckets_from shape 0) [] turns reply) ((turns ≡ []) × (reply ≡ Refused Einval))
      by true hands = hands_along (buckets_from shape 0) [] turns reply hands
      by false refused = refused
