-- The record of a race of any map is one of a run of the core, where nests stand apart and what probes saw in hands was there.
use Rattle.std.proofs.Common.{◌≡◌, Bool, true, false, refl}
use Rattle.map_types.specs.Kind.{is_lru}
use Rattle.place_words.specs.Interleaving.{CoreRun}
use Rattle.race_words.specs.RaceLaws.{RacesRun}
use Rattle.race_words.proofs.OwnLaw.{own_races_run}
use Rattle.race_words.proofs.PlainLaw.{plain_races_run}
use Rattle.race_words.proofs.SharedLaw.{shared_races_run}

pub races_run : RacesRun
races_run script kept bounds record_is rise nests looks = by (is_lru script.shape.kind) refl script.shape.common refl
  where
    by : (lru : Bool) → is_lru script.shape.kind ≡ lru → (common : Bool) → script.shape.common ≡ common → CoreRun script.shape kept.histories
    by false plain common common_is = plain_races_run script kept bounds plain record_is rise nests
    by true lru false apart = own_races_run script kept bounds lru apart record_is rise nests looks
    by true lru true shared = shared_races_run script kept bounds lru shared record_is rise nests looks
