use Rattle.std.proofs.Common.{List, ℕ, refl, sym, ap, subst, ◌∙◌}
use Rattle.map_types.specs.declared.call.Verb.TheVariants as verbs
use Rattle.map_types.specs.declared.kind.Side.TheVariants.{Sys}
use Rattle.map_types.specs.ValueLen.{value_len_of}
use Rattle.map_script.specs.WellFormed.{HasSizes}
use Rattle.trace_check.specs.Calls.{read_next, read_each}
use Rattle.trace_check.proofs.CallsRead.{keys_sized}
use Rattle.evicting_traces.specs.Reading.{turns_in}
use Rattle.evicting_traces.proofs.CallsRead.{verb_seen, verb_turned}
use Rattle.evicting_traces.proofs.call_reader.read_rest.Goals as goal

pub batch_update-requires-clause-keys : goal.batch_update-requires-clause-keys
batch_update-requires-clause-keys c =
    keys_sized c.args.shape.now.key_size (value_len_of c.args.shape.now Sys) c.in-BatchUpdate.pairs (subst (HasSizes c.args.shape.now) c.in-BatchUpdate.is c.requires.sizes)

pub returns-in-Lookup : goal.returns-in-Lookup
returns-in-Lookup c =
    verb_seen c.args.shape.now c.args.cpu c.args.seens.now c.args.verb.now (verbs.Lookup c.in-Lookup.side c.as_slice.result.now) c.args.reply.now c.lookup.result
    (c.in-Lookup.is ∙ ap (λ (k : List ℕ). verbs.Lookup c.in-Lookup.side k) (sym c.as_slice.ensures)) c.lookup.ensures

pub returns-in-Update : goal.returns-in-Update
returns-in-Update c =
    verb_seen c.args.shape.now c.args.cpu c.args.seens.now c.args.verb.now (verbs.Update c.in-Update.side c.in-Update.flags c.as_slice-in-Update.result.now c.as_slice-in-Update-2.result.now) c.args.reply.now c.update.result
    (c.in-Update.is ∙ ap (λ (k : List ℕ). verbs.Update c.in-Update.side c.in-Update.flags k c.in-Update.value) (sym c.as_slice-in-Update.ensures)
    ∙ ap (λ (v : List ℕ). verbs.Update c.in-Update.side c.in-Update.flags c.as_slice-in-Update.result.now v) (sym c.as_slice-in-Update-2.ensures)) c.update.ensures

pub returns-in-Delete : goal.returns-in-Delete
returns-in-Delete c =
    verb_seen c.args.shape.now c.args.cpu c.args.seens.now c.args.verb.now (verbs.Delete c.as_slice-in-Delete.result.now) c.args.reply.now c.delete.result
    (c.in-Delete.is ∙ ap (λ (k : List ℕ). verbs.Delete k) (sym c.as_slice-in-Delete.ensures)) c.delete.ensures

pub returns-in-Take : goal.returns-in-Take
returns-in-Take c =
    verb_seen c.args.shape.now c.args.cpu c.args.seens.now c.args.verb.now (verbs.Take c.as_slice-in-Take.result.now) c.args.reply.now c.take.result
    (c.in-Take.is ∙ ap (λ (k : List ℕ). verbs.Take k) (sym c.as_slice-in-Take.ensures)) c.take.ensures

pub returns-in-Next : goal.returns-in-Next
returns-in-Next c =
    verb_turned c.args.shape.now c.args.cpu c.args.seens.now c.args.verb.now (verbs.Next c.in-Next.key) c.args.reply.now c.read_next.result
    (read_next c.args.shape.now c.in-Next.key (turns_in c.args.seens.now)) c.in-Next.is refl c.read_next.ensures

pub returns-in-BatchRead : goal.returns-in-BatchRead
returns-in-BatchRead c =
    verb_seen c.args.shape.now c.args.cpu c.args.seens.now c.args.verb.now (verbs.BatchRead c.in-BatchRead.remove c.in-BatchRead.count c.in-BatchRead.start c.in-BatchRead.flags) c.args.reply.now c.read_batch.result
    (c.in-BatchRead.is) c.read_batch.ensures

pub returns-in-BatchUpdate : goal.returns-in-BatchUpdate
returns-in-BatchUpdate c =
    verb_seen c.args.shape.now c.args.cpu c.args.seens.now c.args.verb.now (verbs.BatchUpdate c.in-BatchUpdate.flags c.in-BatchUpdate.pairs) c.args.reply.now c.batch_update.result
    (c.in-BatchUpdate.is) c.batch_update.ensures

pub returns-in-BatchDelete : goal.returns-in-BatchDelete
returns-in-BatchDelete c =
    verb_seen c.args.shape.now c.args.cpu c.args.seens.now c.args.verb.now (verbs.BatchDelete c.in-BatchDelete.flags c.as_slice-in-BatchDelete.result.now) c.args.reply.now c.batch_delete.result
    (c.in-BatchDelete.is ∙ ap (λ (l : List (List ℕ)). verbs.BatchDelete c.in-BatchDelete.flags l) (sym c.as_slice-in-BatchDelete.ensures)) c.batch_delete.ensures

pub returns-in-Each : goal.returns-in-Each
returns-in-Each c =
    verb_turned c.args.shape.now c.args.cpu c.args.seens.now c.args.verb.now (verbs.Each c.in-Each.flags c.in-Each.stop) c.args.reply.now c.read_each.result
    (read_each c.args.shape.now c.args.cpu c.in-Each.stop c.in-Each.flags (turns_in c.args.seens.now)) c.in-Each.is refl c.read_each.ensures
