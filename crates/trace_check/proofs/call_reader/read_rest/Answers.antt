use Rattle.std.proofs.Common.{List, ℕ, None, sym, ap, subst, ◌∙◌}
use Rattle.map_types.specs.declared.call.Verb.TheVariants as verbs
use Rattle.map_types.specs.declared.kind.Side.TheVariants.{Sys}
use Rattle.map_types.specs.ValueLen.{value_len_of}
use Rattle.map_script.specs.WellFormed.{HasSizes}
use Rattle.trace_check.specs.Calls.{read_each}
use Rattle.trace_check.specs.Strand.{spare_before}
use Rattle.trace_check.proofs.Answering.{also_read}
use Rattle.trace_check.proofs.CallsRead.{same_verb, reply_again, keys_sized}
use Rattle.trace_check.proofs.call_reader.read_rest.Goals as goal

pub batch_update-requires-clause-keys : goal.batch_update-requires-clause-keys
batch_update-requires-clause-keys c =
    keys_sized c.args.shape.now.key_size (value_len_of c.args.shape.now Sys) c.in-BatchUpdate.pairs (subst (HasSizes c.args.shape.now) c.in-BatchUpdate.is c.requires.sizes)

pub returns-in-Lookup : goal.returns-in-Lookup
returns-in-Lookup c =
    same_verb c.args.shape.now c.args.cpu (spare_before c.args.spares.now) c.args.turns.now c.args.verb.now (verbs.Lookup c.in-Lookup.side c.as_slice.result.now) c.args.reply.now c.lookup.result
    (c.in-Lookup.is ∙ ap (λ (k : List ℕ). verbs.Lookup c.in-Lookup.side k) (sym c.as_slice.ensures)) (c.lookup.ensures c.args.cpu (spare_before c.args.spares.now))

pub returns-in-Update : goal.returns-in-Update
returns-in-Update c =
    same_verb c.args.shape.now c.args.cpu (spare_before c.args.spares.now) c.args.turns.now c.args.verb.now (verbs.Update c.in-Update.side c.in-Update.flags c.as_slice-in-Update.result.now c.as_slice-in-Update-2.result.now) c.args.reply.now c.update.result
    (c.in-Update.is ∙ ap (λ (k : List ℕ). verbs.Update c.in-Update.side c.in-Update.flags k c.in-Update.value) (sym c.as_slice-in-Update.ensures)
    ∙ ap (λ (v : List ℕ). verbs.Update c.in-Update.side c.in-Update.flags c.as_slice-in-Update.result.now v) (sym c.as_slice-in-Update-2.ensures)) c.update.ensures

pub returns-in-Delete : goal.returns-in-Delete
returns-in-Delete c =
    same_verb c.args.shape.now c.args.cpu (spare_before c.args.spares.now) c.args.turns.now c.args.verb.now (verbs.Delete c.as_slice-in-Delete.result.now) c.args.reply.now c.delete.result
    (c.in-Delete.is ∙ ap (λ (k : List ℕ). verbs.Delete k) (sym c.as_slice-in-Delete.ensures)) (c.delete.ensures (spare_before c.args.spares.now))

pub returns-in-Take : goal.returns-in-Take
returns-in-Take c =
    same_verb c.args.shape.now c.args.cpu (spare_before c.args.spares.now) c.args.turns.now c.args.verb.now (verbs.Take c.as_slice-in-Take.result.now) c.args.reply.now c.take.result
    (c.in-Take.is ∙ ap (λ (k : List ℕ). verbs.Take k) (sym c.as_slice-in-Take.ensures)) (c.take.ensures (spare_before c.args.spares.now))

pub returns-in-Each : goal.returns-in-Each
returns-in-Each c =
    same_verb c.args.shape.now c.args.cpu (spare_before c.args.spares.now) c.args.turns.now c.args.verb.now (verbs.Each c.in-Each.flags c.in-Each.stop) c.args.reply.now c.read_each.result
    (c.in-Each.is)
    (also_read c.args.reply.now c.read_each.result (reply_again None (read_each c.args.shape.now c.args.cpu c.in-Each.stop c.in-Each.flags c.args.turns.now)) c.read_each.ensures)
