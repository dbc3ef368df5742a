use Rattle.std.proofs.Common.{Bool, [], ◌∷◌, ap, sym, ◌∙◌}
use Rattle.place_words.specs.Entries.{entry_read}
use Rattle.place_words.specs.Turns.{Turn, on_lock}
use Rattle.replay_words.specs.declared.note.Note.{Note}
use Rattle.evicting_traces.specs.Reading.{seen_of}
use Rattle.call_check.specs.SeenRows.{gone_at}
use Rattle.call_check.proofs.SeenTurns.{seen_named}
use Rattle.call_check.proofs.seen_rows.seen_at.Goals as goal

pub returns : goal.returns
returns c =
    let turn : Turn = on_lock c.args.step.lock (entry_read c.in-Some.entry).part in
    seen_named c.args.shape.now c.args.histories.now.all c.args.notes.now.of_locks.now c.args.notes.now.gone.now c.args.notes.now.nothing.now c.requires.known c.args.step c.requires.named.lock (entry_read c.in-Some.entry) c.in-Some.ensures
    ∙ (ap (λ (n : Note). seen_of turn n (gone_at c.args.notes.now.gone.now c.args.step) ∷ []) (sym c.note_at.ensures)
    ∙ ap (λ (b : Bool). seen_of turn c.note_at.result.now b ∷ []) (sym c.gone_at.ensures))
