use Rattle.std.proofs.Common.{◌≡◌, List, Option, None, Some, sym, subst}
use Rattle.std.specs.Prelude.{MatchOption}
use Rattle.map_types.specs.declared.reply.Reply.{Reply}
use Rattle.evicting_traces.specs.Calls.{reply_of_refusal}
use Rattle.evicting_traces.specs.Reading.{Seen}
use Rattle.evicting_traces.proofs.KeyTelling.{offers_none, offers_some}
use Rattle.evicting_traces.proofs.key_calls.read_offers.Goals as goal

pub returns-in-None : goal.returns-in-None
returns-in-None c = offers_none c.args.shape.now c.args.asked.now.side c.args.asked.now.flags c.args.asked.now.key.now c.args.asked.now.value.now c.args.seens.now c.args.cpu c.jhash.result c.in_ok-got.got c.in_ok-got.rest c.in_ok-got.ensures c.jhash.ensures c.in-None.is

pub returns-in-Some : goal.returns-in-Some
returns-in-Some c =
    subst (λ (r : Option (Reply × List Seen)). MatchOption c.read_offer.result (r ≡ None) (λ read. r ≡ Some (reply_of_refusal read.0, read.1)))
    (sym (offers_some c.args.shape.now c.args.asked.now.side c.args.asked.now.flags c.args.asked.now.key.now c.args.asked.now.value.now c.args.seens.now c.args.cpu c.jhash.result c.in_ok-got.got c.in-Some.element c.in_ok-got.rest c.in_ok-got.ensures c.jhash.ensures c.in-Some.is)) c.read_offer.ensures
