use Rattle.std.proofs.Common.{◌≡◌, Bool, List, [], map, ap, sym, subst, ◌∙◌, false, arith}
use Rattle.std.specs.Prelude.{vec_len, vec_capacity}
use Rattle.place_words.specs.declared.bucket_part.Seen.{Seen}
use Rattle.place_words.specs.declared.bucket_part.Seen.TheVariants.{Held}
use Rattle.lru_lists.specs.declared.bits.ProbeCall.{ProbeCall}
use Rattle.set_replay.specs.ByPlace.{ByPlace, call_bit}
use Rattle.set_replay.specs.Judged.{ToldShrink}
use Rattle.set_replay.proofs.FedLemmas.{none_fed}
use Rattle.set_replay.proofs.ShrinkLemmas.{told_shrink}
use Rattle.set_replay.proofs.shrinking.shrink_told.Goals as goal

pub returns : goal.returns
returns g c =
    let begun = c.in_ok-begin.ensures in
    let calls = c.replace.ensures.value in
    let probes = c.replace-2.ensures.value in
    let no_calls : c.replace.result.items ≡ [] = ap (λ v. v.items) calls ∙ begun.bits.0 in
    let no_probes : c.replace-2.result.items ≡ [] = ap (λ v. v.items) probes ∙ begun.probes.0 in
    let fed = c.shrink.ensures.only.noted 0 (
      omega (arith, ap vec_len calls, ap vec_capacity calls, begun.bits.1, begun.bits.2),
      omega (arith, ap vec_len probes, ap vec_capacity probes, begun.probes.1, begun.probes.2),
      sym c.requires.bits,
      sym c.requires.seens,
      none_fed g.K.Telling.bits g.K.Telling.seens c.replace.result.items c.replace-2.result.items false no_calls no_probes,
    ) in
    subst (λ (probes : List ProbeCall). ToldShrink c.args.scans c.args.target c.args.bits.now c.args.seens.now c.args.set.now c.shrink.new.set c.args.out.now c.shrink.new.out probes c.shrink.new.notes)
    (sym (ap (λ z. z.probes.items) c.give_back.ensures.calls))
    (told_shrink c.shrink.ensures.shrink c.args.bits.now c.args.seens.now c.rows.ensures.whole c.requires.empty no_calls no_probes c.empty-notes.ensures
    (subst (λ (bits : List Bool). ByPlace false bits (map call_bit c.shrink.new.probe.calls.items)) c.requires.bits fed.4.0)
    (subst (λ (seens : List Seen). ByPlace (Held 0) seens (map (λ (probe : ProbeCall). probe.probed) c.shrink.new.probe.probes.items)) c.requires.seens (fed.4.1 (sym c.give_back.ensures.lost ∙ c.if-give_back.false))))
