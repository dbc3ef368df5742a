use Rattle.std.proofs.Common.{arith, rules, ◌≡◌, ◌+◌, ◌-◌, true, get_or}
use Rattle.place_words.specs.declared.owner.Owner.TheVariants as names
use Rattle.place_words.specs.Openings.{is_free}
use Rattle.place_words.proofs.StartLemmas.{filter_pass}
use Rattle.place_words.proofs.opening.only_free.Goals as goal

pub loop-left-preserved-in-Continue-1 : goal.loop-left-preserved-in-Continue-1
loop-left-preserved-in-Continue-1 c =
    let passes : is_free (get_or c.args.owners.now (c.args.first + (c.loop-left.left - 1)) names.Free) ≡ true = search rules in
    record {
      few = omega (arith, c.loop-left.invariant.few);
      same = filter_pass (λ e. is_free (get_or c.args.owners.now e names.Free)) c.args.first c.loop-left.left c.loop-left.list.items c.push.new.self.items _ c.loop-left-test.true passes c.in_ok-push.ensures.items c.loop-left.invariant.same;
    }
