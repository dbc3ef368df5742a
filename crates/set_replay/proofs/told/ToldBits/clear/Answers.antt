use Rattle.std.proofs.Common.{Bool, List, ap, sym, subst, ◌∙◌, false, get_or, arith, length}
use Rattle.lru_lists.specs.declared.bits.BitCall.{BitCall}
use Rattle.lru_lists.specs.declared.bits.BitCall.TheVariants.{Cleared}
use Rattle.set_replay.specs.ByPlace.{Fed}
use Rattle.set_replay.proofs.FedLemmas.{fed_call}
use Rattle.set_replay.proofs.told.ToldBits.clear.Goals as goal

pub returns-clause-noted : goal.returns-clause-noted
returns-clause-noted g c n can =
    let push = c.push_reserved.ensures in
    let s = c.args.self.now in (
      omega (arith, push.len, push.capacity, c.requires.noted.0, can.0),
      omega (arith, c.requires.noted.1, can.1),
      can.2,
      can.3,
      subst (λ (calls : List BitCall). Fed g.K.Telling.bits g.K.Telling.seens calls s.probes.items s.lost) (sym push.items)
          (fed_call g.K.Telling.bits g.K.Telling.seens s.calls.items (Cleared (record { element = c.args.element; bit = c.bit_at-bit.result })) s.probes.items s.lost
          (c.bit_at-bit.ensures ∙ ap (λ (xs : List BitCall). get_or s.bits.now (length xs) false) c.as_slice.ensures.value ∙ ap (λ (bits : List Bool). get_or bits (length s.calls.items) false) can.2) can.4),
    )
