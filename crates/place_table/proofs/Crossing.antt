-- A pass may move to another thread, and the table may be shared by threads.
use mir.Syntax.{Lifetime}
use base.Fml.{Lft}
use denote.RattleType.{RattleType}
use denote.Ref.{ShrRef}
use denote.Param.Send.{IsSend, IsSync, plain_send, shr_send, shr_sync, array_send, view_send, view_sync, recorded_send, recorded_sync, struct_send, struct_sync, enum_send}
use denote.Struct.Declared.{shape}
use denote.Enum.Declared as E
use denote.Builtin.{bool}
use Rattle.std.proofs.Crossing.{frees, send, sync}
use Rattle.std.proofs.alloc.Global.TheSendSync as heap
use Rattle.std.specs.contracts.option.Option as Option
use Rattle.std.specs.contracts.vec.Vec as Vec
use Rattle.std.specs.contracts.alloc.Global as Global
use Rattle.std.below.std_heap.specs.contracts.GlobalAllocator.TheImpl.{ghosts}
use Rattle.percpu_values.specs.contracts.boxed.BoxedBody as BoxedBody
use Rattle.percpu_values.proofs.Crossing.{boxed_send}
use Rattle.bucket_chain.proofs.Crossing.{chain_send}
use Rattle.cpu_freelist.proofs.Crossing.{freelist_send}
use Rattle.local_lists.proofs.Crossing.{local_send}
use Rattle.lru_lists.proofs.Crossing.{set_send}
use Rattle.linked_rows.specs.contracts.linked.LinkedRows as LinkedRows
use Rattle.linked_rows.proofs.linked.LinkedRows.TheSendSync as linked
use Rattle.place_words.proofs.strand_steps.StepBuffer.TheSendSync as strand
use Rattle.atomic_table.proofs.shared.Seat.TheSendSync as seat
use Rattle.atomic_table.proofs.owned.Table.TheSendSync as table
use Rattle.map_types.specs.contracts.attr.Shape as Shape
use Rattle.map_types.proofs.attr.Shape.TheSendSync as shaped
use Rattle.place_table.specs.contracts.rule.Law as Law
use Rattle.place_table.specs.contracts.rule.LawTableRuleBehindViewShape.TheImpl as rule
use Rattle.place_table.specs.contracts.table.PlaceTable as PlaceTable
use Rattle.place_table.specs.contracts.table.PlaceTable.TheInside as InTable
use Rattle.place_table.specs.contracts.content.Content as Content
use Rattle.place_table.specs.contracts.content.Behind as Behind
use Rattle.place_table.specs.contracts.content.SlotTurns as SlotTurns
use Rattle.place_table.proofs.content.SlotTurns.TheSendSync as slot_turns
use Rattle.place_table.specs.contracts.view.View as View
use Rattle.place_table.specs.contracts.strands.TurnsMade as TurnsMade
use Rattle.place_table.proofs.strands.TurnsMade.TheSendSync as made
use Rattle.place_table.specs.contracts.pass.Pass as Pass
use Rattle.place_table.specs.contracts.pass.Pass.TheInside as InPass

option_send : (R : RattleType) → IsSend R → IsSend (Option.the_field R).row
option_send R s = enum_send (E.shape (Option.the_type R)) (tt, ((s, tt), tt))

whole_send : (R : RattleType) → IsSend R → IsSend (Option.the_row R)
whole_send R s = recorded_send (Option.the_field R).row _ _ (Option.the_type R).to_one (option_send R s)

content_send : IsSend Content.the_row
content_send = recorded_send (Content.the_field).row _ _ (Content.the_type).to_one (enum_send (E.shape Content.the_type) (
  (chain_send, tt),
  ((freelist_send, tt), ((local_send LinkedRows.the_row _ linked.the_send, tt), ((set_send LinkedRows.the_row _ linked.the_send, tt), tt))),
))

pub behind_send : IsSend Behind.the_row
behind_send = recorded_send (Behind.the_field).row _ _ (Behind.the_type).to_one (struct_send (shape Behind.the_type) (
  option_send Content.the_row content_send,
  (option_send SlotTurns.the_row slot_turns.the_send, tt),
))

pub pass_send : IsSend Pass.the_row
pass_send = view_send InPass.the_row _ _ _ _ (recorded_send (InPass.the_field).row _ _ (InPass.the_type).to_one (struct_send (shape InPass.the_type) (
  seat.the_send Behind.the_row View.the_row behind_send,
  (
    plain_send _ _ _ _ _,
    (
      plain_send _ _ _ _ _,
      (
        array_send bool 16 (plain_send _ _ _ _ _),
        (
          strand.the_field_send,
          (made.the_field_send, (array_send _ 16 (whole_send BoxedBody.the_row boxed_send), tt)),
        ),
      ),
    ),
  ),
)))

pub table_sync : IsSync PlaceTable.the_row
table_sync = view_sync InTable.the_row _ _ _ _ (recorded_sync (InTable.the_field).row _ _ (InTable.the_type).to_one (struct_sync (shape InTable.the_type) (
  table.the_field_sync Behind.the_row View.the_row Shape.the_row Law.the_row Global.the_row rule.ghosts ghosts behind_send send sync frees,
  (shaped.the_field_sync, (heap.the_field_sync, tt)),
)))

pub table_ref_send : (ℓ : Lifetime) (κ : Lft) → IsSend (ShrRef ℓ κ PlaceTable.the_row)
table_ref_send ℓ κ = shr_send ℓ κ PlaceTable.the_row table_sync

pub table_ref_sync : (ℓ : Lifetime) (κ : Lft) → IsSync (ShrRef ℓ κ PlaceTable.the_row)
table_ref_sync ℓ κ = shr_sync ℓ κ PlaceTable.the_row table_sync
