use Rattle.std.proofs.Common.{List, ap, sym, subst, ◌∙◌, get_or, arith, length}
use Rattle.std.proofs.lemmas.Bool.{true≢false}
use Rattle.lru_lists.specs.declared.bits.ProbeCall.{ProbeCall}
use Rattle.place_words.specs.declared.bucket_part.Seen.{Seen}
use Rattle.place_words.specs.declared.bucket_part.Seen.TheVariants.{Held}
use Rattle.set_replay.specs.ByPlace.{Fed}
use Rattle.set_replay.proofs.FedLemmas.{fed_probe}
use Rattle.set_replay.proofs.told.ToldProbe.evict.Goals as goal

pub returns-in-Some-clause-noted : goal.returns-in-Some-clause-noted
returns-in-Some-clause-noted g c n can =
    let push = c.push_reserved.ensures in
    let s = c.args.self.now in (
      omega (arith, c.requires.noted.0, can.0),
      omega (arith, push.len, push.capacity, c.requires.noted.1, can.1),
      can.2,
      can.3,
      subst (λ (probes : List ProbeCall). Fed g.K.Telling.bits g.K.Telling.seens s.calls.items probes s.lost) (sym push.items)
          (fed_probe g.K.Telling.bits g.K.Telling.seens s.calls.items s.probes.items (record { element = c.args.element; hash = c.args.hash; probed = c.seen_at-told.result }) s.lost
          (c.seen_at-told.ensures ∙ ap (λ (xs : List ProbeCall). get_or s.seens.now (length xs) (Held 0)) c.as_slice.ensures.value ∙ ap (λ (seens : List Seen). get_or seens (length s.probes.items) (Held 0)) can.3) can.4),
    )

pub returns-in-None-clause-noted : goal.returns-in-None-clause-noted
returns-in-None-clause-noted g c n can =
    let push = c.push_reserved-in-None.ensures in (
      omega (arith, c.requires.noted.0, can.0),
      omega (arith, push.len, push.capacity, c.requires.noted.1, can.1),
      can.2,
      can.3,
      (can.4.0, λ kept. absurd (true≢false kept)),
    )
