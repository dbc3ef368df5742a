use Rattle.std.proofs.Common.{◌≡◌, Bool, List, [], map, ap, sym, subst, ◌∙◌, false, arith}
use Rattle.std.specs.Prelude.{vec_len, vec_capacity}
use Rattle.set_replay.specs.ByPlace.{ByPlace, call_bit}
use Rattle.set_replay.proofs.FedLemmas.{told_rotation, none_fed}
use Rattle.set_replay.proofs.rotating.rotate_told.Goals as goal

pub returns : goal.returns
returns g c =
    let begun = c.in_ok-begin.ensures in
    let calls = c.replace.ensures.value in
    let probes = c.replace-2.ensures.value in
    let no_calls : c.replace.result.items ≡ [] = ap (λ v. v.items) calls ∙ begun.bits.0 in
    let no_probes : c.replace-2.result.items ≡ [] = ap (λ v. v.items) probes ∙ begun.probes.0 in
    let e = c.rotate.ensures in
    told_rotation c.args.scans c.args.set.now c.rotate.new.set c.args.bits.now _ c.rotate.new.bits.calls.items _ c.rotate.new.notes
    no_calls c.empty-notes.ensures e.rotation e.rows e.whole
    (subst (λ (bits : List Bool). ByPlace false bits (map call_bit c.rotate.new.bits.calls.items)) c.requires.bits
    (e.noted 0 (
      omega (arith, ap vec_len calls, ap vec_capacity calls, begun.bits.1, begun.bits.2),
      omega (arith, ap vec_len probes, ap vec_capacity probes, begun.probes.1, begun.probes.2),
      sym c.requires.bits,
      sym c.requires.seens,
      none_fed g.K.Telling.bits g.K.Telling.seens c.replace.result.items c.replace-2.result.items false no_calls no_probes,
    )).4.0)
