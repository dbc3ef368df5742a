-- Reports that were judged by hand, with the line that is at fault.
use Rattle.std.proofs.Common.{◌≡◌, ℕ, false, List, [], ◌∷◌, Some, None, Result, Ok, Err, refl}
use Rattle.std.specs.Prelude.{codes}
use Rattle.map_types.specs.declared.attr.Shape.{Shape}
use Rattle.map_types.specs.declared.call.Call.{Call}
use Rattle.map_types.specs.declared.call.Verb.TheVariants.{BatchRead, Each, Lookup, Update}
use Rattle.map_types.specs.declared.kind.DomainId.TheVariants.{Bucket, Freelist}
use Rattle.map_types.specs.declared.reply.Reply.TheVariants.{Value}
use Rattle.place_words.specs.declared.bucket_part.BucketPart.TheVariants as bucket_parts
use Rattle.place_words.specs.declared.history.Part.TheVariants as parts
use Rattle.map_types.specs.declared.kind.MapKind.TheVariants.{Hash, PercpuHash}
use Rattle.map_types.specs.declared.kind.Side.TheVariants.{Prog, Sys}
use Rattle.hex.specs.Hex.{encode_with, decode_pairs}
use Rattle.std.specs.Fmt.{digits}
use Rattle.map_script.specs.declared.script.Script.{Script}
use Rattle.map_report.specs.declared.record.RunRecord.{RunRecord}
use Rattle.place_words.specs.Locks.{lock_named}
use Rattle.record_reading.specs.BucketReaders.{bucket_part, cpu_text, delete_part, element_colon, element_text, evict_part, first_call, first_part, free_part, gone_part, key_text, lookup_part, next_call, next_part, put_part, read_part, seen_part, side_word, take_part, taken_part, u32_text, update_part, value, value_text, walk_part, walked_part}
use Rattle.record_reading.specs.DumpReaders.{cursor_part, list_named, spare_part, steal_part, stored_part}
use Rattle.record_reading.specs.LineReaders.{entry, joined_numbers, lock_head, lock_part, marks, name_part, part_of, phase_front, phase_start, step_part, strand_head, strand_rest}
use Rattle.record_reading.specs.ListReaders.{attempt, done_part, flush, global_part, local_part, look, own_part, probe, probed, shrink, stolen, visit}
use Rattle.record_reading.specs.ReadRecord.{read_text}
use Rattle.record_reading.specs.Readers.{behind, behind_digits, blank_numbers, bytes, digits_of, number, numbers_to_end, or_else, some_bytes, the_line}
use Rattle.record_reading.specs.RecordReaders.{history_head, read_lines}
use Rattle.record_reading.specs.ReplyReaders.{batch, count_done, errno, pair, reply, stop_part}
use Rattle.record_reading.specs.Sections.{go_on, known_by, line_says}
use Rattle.record_reading.specs.TextLines.{lines_in}

-- `map hash key 1 value 1 max 1 cpus 1`
abbrev small_map : Shape
small_map = record { kind = Hash; cpus = 1; capacity = 1; elements = 2; buckets = 1; key_size = 1; value_size = 1; seed = 0; common = false }

abbrev with_calls : List Call → Script
with_calls calls = record {
  version = 1;
  attr = record { kind = Hash; key_size = 1; value_size = 1; max_entries = 1; flags = 0; seed = 0; cpus = 1 };
  shape = small_map;
  calls = calls;
  cuts = [];
  spec = None;
  target = None;
}

-- no call, and `0 lookup 01`
abbrev none : Script
none = with_calls []

abbrev one : Script
one = with_calls ((record { cpu = 0; verb = Lookup Prog (1 ∷ []) }) ∷ [])

-- the same with two phases
abbrev phased : Script
phased = record {
  version = 2;
  attr = record { kind = Hash; key_size = 1; value_size = 1; max_entries = 1; flags = 0; seed = 0; cpus = 1 };
  shape = small_map;
  calls = [];
  cuts = 0 ∷ [];
  spec = None;
  target = None;
}

abbrev Answers : Script → List ℕ → Result RunRecord ℕ → Type 0
Answers script text answer = read_text script text ≡ answer

pub no_calls_no_entry : Answers none (codes "map hash capacity 1 elements 2 buckets 1\nrecord 2\nlock bucket 0 1\n0 0 1 lookup prog 01 none\n") (Err 3)
unfolding attempt batch behind behind_digits blank_numbers bucket_part bytes count_done cpu_text cursor_part delete_part digits_of done_part element_colon element_text entry errno evict_part first_call first_part flush free_part global_part go_on gone_part history_head joined_numbers key_text known_by line_says lines_in list_named local_part lock_head lock_part look lookup_part marks name_part next_call next_part number numbers_to_end or_else own_part pair part_of phase_front phase_start probe probed put_part read_lines read_part read_text reply seen_part shrink side_word some_bytes spare_part steal_part step_part stolen stop_part stored_part strand_head strand_rest take_part taken_part the_line u32_text update_part value value_text visit walk_part walked_part lock_named encode_with decode_pairs digits
no_calls_no_entry = refl

pub an_entry_lacks : Answers one (codes "map hash capacity 1 elements 2 buckets 1\n1 enoent\nrecord 2\nlock bucket 0 2\n0 0 1 lookup prog 01 none\nstrand 0 1\n") (Err 6)
unfolding attempt batch behind behind_digits blank_numbers bucket_part bytes count_done cpu_text cursor_part delete_part digits_of done_part element_colon element_text entry errno evict_part first_call first_part flush free_part global_part go_on gone_part history_head joined_numbers key_text known_by line_says lines_in list_named local_part lock_head lock_part look lookup_part marks name_part next_call next_part number numbers_to_end or_else own_part pair part_of phase_front phase_start probe probed put_part read_lines read_part read_text reply seen_part shrink side_word some_bytes spare_part steal_part step_part stolen stop_part stored_part strand_head strand_rest take_part taken_part the_line u32_text update_part value value_text visit walk_part walked_part lock_named encode_with decode_pairs digits
an_entry_lacks = refl

pub no_entry : Answers one (codes "map hash capacity 1 elements 2 buckets 1\n1 enoent\nrecord 2\nlock bucket 0 0\n") (Err 4)
unfolding attempt batch behind behind_digits blank_numbers bucket_part bytes count_done cpu_text cursor_part delete_part digits_of done_part element_colon element_text entry errno evict_part first_call first_part flush free_part global_part go_on gone_part history_head joined_numbers key_text known_by line_says lines_in list_named local_part lock_head lock_part look lookup_part marks name_part next_call next_part number numbers_to_end or_else own_part pair part_of phase_front phase_start probe probed put_part read_lines read_part read_text reply seen_part shrink side_word some_bytes spare_part steal_part step_part stolen stop_part stored_part strand_head strand_rest take_part taken_part the_line u32_text update_part value value_text visit walk_part walked_part lock_named encode_with decode_pairs digits
no_entry = refl

pub length_of_64_bits : Answers one (codes "map hash capacity 1 elements 2 buckets 1\n1 enoent\nrecord 2\nlock bucket 0 18446744073709551616\n") (Err 4)
unfolding attempt batch behind behind_digits blank_numbers bucket_part bytes count_done cpu_text cursor_part delete_part digits_of done_part element_colon element_text entry errno evict_part first_call first_part flush free_part global_part go_on gone_part history_head joined_numbers key_text known_by line_says lines_in list_named local_part lock_head lock_part look lookup_part marks name_part next_call next_part number numbers_to_end or_else own_part pair part_of phase_front phase_start probe probed put_part read_lines read_part read_text reply seen_part shrink side_word some_bytes spare_part steal_part step_part stolen stop_part stored_part strand_head strand_rest take_part taken_part the_line u32_text update_part value value_text visit walk_part walked_part lock_named encode_with decode_pairs digits
length_of_64_bits = refl

pub long_history : Answers one (codes "map hash capacity 1 elements 2 buckets 1\n1 enoent\nrecord 2\nlock bucket 0 18446744073709551615\n0 0 1 lookup prog 01 none\nend\n") (Err 6)
unfolding attempt batch behind behind_digits blank_numbers bucket_part bytes count_done cpu_text cursor_part delete_part digits_of done_part element_colon element_text entry errno evict_part first_call first_part flush free_part global_part go_on gone_part history_head joined_numbers key_text known_by line_says lines_in list_named local_part lock_head lock_part look lookup_part marks name_part next_call next_part number numbers_to_end or_else own_part pair part_of phase_front phase_start probe probed put_part read_lines read_part read_text reply seen_part shrink side_word some_bytes spare_part steal_part step_part stolen stop_part stored_part strand_head strand_rest take_part taken_part the_line u32_text update_part value value_text visit walk_part walked_part lock_named encode_with decode_pairs digits
long_history = refl

pub order_of_locks : Answers one (codes "map hash capacity 1 elements 2 buckets 1\n1 enoent\nrecord 2\nlock freelist 0 1\n0 0 1 empty\nlock bucket 0 1\n") (Err 6)
unfolding attempt batch behind behind_digits blank_numbers bucket_part bytes count_done cpu_text cursor_part delete_part digits_of done_part element_colon element_text entry errno evict_part first_call first_part flush free_part global_part go_on gone_part history_head joined_numbers key_text known_by line_says lines_in list_named local_part lock_head lock_part look lookup_part marks name_part next_call next_part number numbers_to_end or_else own_part pair part_of phase_front phase_start probe probed put_part read_lines read_part read_text reply seen_part shrink side_word some_bytes spare_part steal_part step_part stolen stop_part stored_part strand_head strand_rest take_part taken_part the_line u32_text update_part value value_text visit walk_part walked_part lock_named encode_with decode_pairs digits
order_of_locks = refl

pub two_blanks : Answers one (codes "map hash capacity 1 elements 2 buckets 1\n1  enoent\n") (Err 2)
unfolding attempt batch behind behind_digits blank_numbers bucket_part bytes count_done cpu_text cursor_part delete_part digits_of done_part element_colon element_text entry errno evict_part first_call first_part flush free_part global_part go_on gone_part history_head joined_numbers key_text known_by line_says lines_in list_named local_part lock_head lock_part look lookup_part marks name_part next_call next_part number numbers_to_end or_else own_part pair part_of phase_front phase_start probe probed put_part read_lines read_part read_text reply seen_part shrink side_word some_bytes spare_part steal_part step_part stolen stop_part stored_part strand_head strand_rest take_part taken_part the_line u32_text update_part value value_text visit walk_part walked_part lock_named encode_with decode_pairs digits
two_blanks = refl

pub leading_zero : Answers one (codes "map hash capacity 1 elements 2 buckets 1\n01 enoent\n") (Err 2)
unfolding attempt batch behind behind_digits blank_numbers bucket_part bytes count_done cpu_text cursor_part delete_part digits_of done_part element_colon element_text entry errno evict_part first_call first_part flush free_part global_part go_on gone_part history_head joined_numbers key_text known_by line_says lines_in list_named local_part lock_head lock_part look lookup_part marks name_part next_call next_part number numbers_to_end or_else own_part pair part_of phase_front phase_start probe probed put_part read_lines read_part read_text reply seen_part shrink side_word some_bytes spare_part steal_part step_part stolen stop_part stored_part strand_head strand_rest take_part taken_part the_line u32_text update_part value value_text visit walk_part walked_part lock_named encode_with decode_pairs digits
leading_zero = refl

pub ends_early : Answers one (codes "map hash capacity 1 elements 2 buckets 1\n1 enoent\nrecord 2\nlock bucket 0 1\n") (Err 5)
unfolding attempt batch behind behind_digits blank_numbers bucket_part bytes count_done cpu_text cursor_part delete_part digits_of done_part element_colon element_text entry errno evict_part first_call first_part flush free_part global_part go_on gone_part history_head joined_numbers key_text known_by line_says lines_in list_named local_part lock_head lock_part look lookup_part marks name_part next_call next_part number numbers_to_end or_else own_part pair part_of phase_front phase_start probe probed put_part read_lines read_part read_text reply seen_part shrink side_word some_bytes spare_part steal_part step_part stolen stop_part stored_part strand_head strand_rest take_part taken_part the_line u32_text update_part value value_text visit walk_part walked_part lock_named encode_with decode_pairs digits
ends_early = refl

pub nothing_there : Answers one (codes "") (Err 1)
unfolding attempt batch behind behind_digits blank_numbers bucket_part bytes count_done cpu_text cursor_part delete_part digits_of done_part element_colon element_text entry errno evict_part first_call first_part flush free_part global_part go_on gone_part history_head joined_numbers key_text known_by line_says lines_in list_named local_part lock_head lock_part look lookup_part marks name_part next_call next_part number numbers_to_end or_else own_part pair part_of phase_front phase_start probe probed put_part read_lines read_part read_text reply seen_part shrink side_word some_bytes spare_part steal_part step_part stolen stop_part stored_part strand_head strand_rest take_part taken_part the_line u32_text update_part value value_text visit walk_part walked_part lock_named encode_with decode_pairs digits
nothing_there = refl

pub value_of_other_size : Answers one (codes "map hash capacity 1 elements 2 buckets 1\n1 ok 0102\n") (Err 2)
unfolding attempt batch behind behind_digits blank_numbers bucket_part bytes count_done cpu_text cursor_part delete_part digits_of done_part element_colon element_text entry errno evict_part first_call first_part flush free_part global_part go_on gone_part history_head joined_numbers key_text known_by line_says lines_in list_named local_part lock_head lock_part look lookup_part marks name_part next_call next_part number numbers_to_end or_else own_part pair part_of phase_front phase_start probe probed put_part read_lines read_part read_text reply seen_part shrink side_word some_bytes spare_part steal_part step_part stolen stop_part stored_part strand_head strand_rest take_part taken_part the_line u32_text update_part value value_text visit walk_part walked_part lock_named encode_with decode_pairs digits
value_of_other_size = refl

pub upper_case : Answers one (codes "map hash capacity 1 elements 2 buckets 1\n1 ok AA\n") (Err 2)
unfolding attempt batch behind behind_digits blank_numbers bucket_part bytes count_done cpu_text cursor_part delete_part digits_of done_part element_colon element_text entry errno evict_part first_call first_part flush free_part global_part go_on gone_part history_head joined_numbers key_text known_by line_says lines_in list_named local_part lock_head lock_part look lookup_part marks name_part next_call next_part number numbers_to_end or_else own_part pair part_of phase_front phase_start probe probed put_part read_lines read_part read_text reply seen_part shrink side_word some_bytes spare_part steal_part step_part stolen stop_part stored_part strand_head strand_rest take_part taken_part the_line u32_text update_part value value_text visit walk_part walked_part lock_named encode_with decode_pairs digits
upper_case = refl

pub an_unended_piece : Answers none (codes "map hash capacity 1 elements 2 buckets 1\nzzz") (Err 2)
unfolding attempt batch behind behind_digits blank_numbers bucket_part bytes count_done cpu_text cursor_part delete_part digits_of done_part element_colon element_text entry errno evict_part first_call first_part flush free_part global_part go_on gone_part history_head joined_numbers key_text known_by line_says lines_in list_named local_part lock_head lock_part look lookup_part marks name_part next_call next_part number numbers_to_end or_else own_part pair part_of phase_front phase_start probe probed put_part read_lines read_part read_text reply seen_part shrink side_word some_bytes spare_part steal_part step_part stolen stop_part stored_part strand_head strand_rest take_part taken_part the_line u32_text update_part value value_text visit walk_part walked_part lock_named encode_with decode_pairs digits
an_unended_piece = refl

pub no_line_feed_at_end : Answers none (codes "map hash capacity 1 elements 2 buckets 1\nrecord 2\nstrand 0 0\nfreelist 0\nspare 0 0\nend") (Err 6)
unfolding attempt batch behind behind_digits blank_numbers bucket_part bytes count_done cpu_text cursor_part delete_part digits_of done_part element_colon element_text entry errno evict_part first_call first_part flush free_part global_part go_on gone_part history_head joined_numbers key_text known_by line_says lines_in list_named local_part lock_head lock_part look lookup_part marks name_part next_call next_part number numbers_to_end or_else own_part pair part_of phase_front phase_start probe probed put_part read_lines read_part read_text reply seen_part shrink side_word some_bytes spare_part steal_part step_part stolen stop_part stored_part strand_head strand_rest take_part taken_part the_line u32_text update_part value value_text visit walk_part walked_part lock_named encode_with decode_pairs digits
no_line_feed_at_end = refl

pub behind_the_end : Answers none (codes "map hash capacity 1 elements 2 buckets 1\nrecord 2\nstrand 0 0\nfreelist 0\nspare 0 0\nend\nend\n") (Err 7)
unfolding attempt batch behind behind_digits blank_numbers bucket_part bytes count_done cpu_text cursor_part delete_part digits_of done_part element_colon element_text entry errno evict_part first_call first_part flush free_part global_part go_on gone_part history_head joined_numbers key_text known_by line_says lines_in list_named local_part lock_head lock_part look lookup_part marks name_part next_call next_part number numbers_to_end or_else own_part pair part_of phase_front phase_start probe probed put_part read_lines read_part read_text reply seen_part shrink side_word some_bytes spare_part steal_part step_part stolen stop_part stored_part strand_head strand_rest take_part taken_part the_line u32_text update_part value value_text visit walk_part walked_part lock_named encode_with decode_pairs digits
behind_the_end = refl

pub lock_of_version_3 : Answers none (codes "map hash capacity 1 elements 2 buckets 1\nrecord 3\n") (Err 2)
unfolding attempt batch behind behind_digits blank_numbers bucket_part bytes count_done cpu_text cursor_part delete_part digits_of done_part element_colon element_text entry errno evict_part first_call first_part flush free_part global_part go_on gone_part history_head joined_numbers key_text known_by line_says lines_in list_named local_part lock_head lock_part look lookup_part marks name_part next_call next_part number numbers_to_end or_else own_part pair part_of phase_front phase_start probe probed put_part read_lines read_part read_text reply seen_part shrink side_word some_bytes spare_part steal_part step_part stolen stop_part stored_part strand_head strand_rest take_part taken_part the_line u32_text update_part value value_text visit walk_part walked_part lock_named encode_with decode_pairs digits
lock_of_version_3 = refl

-- a strand of no CPU has two blanks
abbrev empty_record : RunRecord
empty_record = record {
  replies = [];
  histories = (record { lock = Bucket 0; entries = [] }) ∷ (record { lock = Freelist 0; entries = [] }) ∷ [];
  strands = (record { phase = 0; cpus = []; steps = [] }) ∷ [];
  finals = record { buckets = [] ∷ []; freelists = (1 ∷ []) ∷ []; spares = 0 ∷ []; sets = []; locals = []; marked = [] };
  phases = (record { ticket = 0; marked = [] }) ∷ [];
}

pub strand_of_no_cpu : Answers none (codes "map hash capacity 1 elements 2 buckets 1\nrecord 2\nstrand  0\nfreelist 0 1\nspare 0 0\nend\n") (Ok empty_record)
unfolding attempt batch behind behind_digits blank_numbers bucket_part bytes count_done cpu_text cursor_part delete_part digits_of done_part element_colon element_text entry errno evict_part first_call first_part flush free_part global_part go_on gone_part history_head joined_numbers key_text known_by line_says lines_in list_named local_part lock_head lock_part look lookup_part marks name_part next_call next_part number numbers_to_end or_else own_part pair part_of phase_front phase_start probe probed put_part read_lines read_part read_text reply seen_part shrink side_word some_bytes spare_part steal_part step_part stolen stop_part stored_part strand_head strand_rest take_part taken_part the_line u32_text update_part value value_text visit walk_part walked_part lock_named encode_with decode_pairs digits
strand_of_no_cpu = refl

pub a_call_told : Answers one (codes "map hash capacity 1 elements 2 buckets 1\n1 ok a1\nrecord 2\nlock bucket 0 1\n0 0 1 lookup prog 01 got 1 a1\nstrand 0 1\nat bucket 0 0\nbucket 0 1 01 a1\nfreelist 0\nspare 0 0\nend\n") (Ok (record {
  replies = Value (161 ∷ []) ∷ [];
  histories = (record { lock = Bucket 0; entries = (record { ticket = 0; cpu = 0; call = 1; part = parts.Bucket (bucket_parts.Lookup Prog (1 ∷ []) (Some (1, 161 ∷ []))) }) ∷ [] }) ∷ (record { lock = Freelist 0; entries = [] }) ∷ [];
  strands = (record { phase = 0; cpus = 0 ∷ []; steps = (record { lock = Bucket 0; index = 0 }) ∷ [] }) ∷ [];
  finals = record { buckets = ((record { element = 1; key = 1 ∷ []; values = (161 ∷ []) ∷ [] }) ∷ []) ∷ []; freelists = [] ∷ []; spares = 0 ∷ []; sets = []; locals = []; marked = [] };
  phases = (record { ticket = 0; marked = [] }) ∷ [];
}))
unfolding attempt batch behind behind_digits blank_numbers bucket_part bytes count_done cpu_text cursor_part delete_part digits_of done_part element_colon element_text entry errno evict_part first_call first_part flush free_part global_part go_on gone_part history_head joined_numbers key_text known_by line_says lines_in list_named local_part lock_head lock_part look lookup_part marks name_part next_call next_part number numbers_to_end or_else own_part pair part_of phase_front phase_start probe probed put_part read_lines read_part read_text reply seen_part shrink side_word some_bytes spare_part steal_part step_part stolen stop_part stored_part strand_head strand_rest take_part taken_part the_line u32_text update_part value value_text visit walk_part walked_part lock_named encode_with decode_pairs digits
a_call_told = refl

pub of_version_2 : Answers phased (codes "map hash capacity 1 elements 2 buckets 1\nrecord 2\n") (Err 2)
unfolding attempt batch behind behind_digits blank_numbers bucket_part bytes count_done cpu_text cursor_part delete_part digits_of done_part element_colon element_text entry errno evict_part first_call first_part flush free_part global_part go_on gone_part history_head joined_numbers key_text known_by line_says lines_in list_named local_part lock_head lock_part look lookup_part marks name_part next_call next_part number numbers_to_end or_else own_part pair part_of phase_front phase_start probe probed put_part read_lines read_part read_text reply seen_part shrink side_word some_bytes spare_part steal_part step_part stolen stop_part stored_part strand_head strand_rest take_part taken_part the_line u32_text update_part value value_text visit walk_part walked_part lock_named encode_with decode_pairs digits
of_version_2 = refl

pub a_phase_lacks : Answers phased (codes "map hash capacity 1 elements 2 buckets 1\nrecord 3\nphase 0 0 marked\nstrand 0 0 0\n") (Err 4)
unfolding attempt batch behind behind_digits blank_numbers bucket_part bytes count_done cpu_text cursor_part delete_part digits_of done_part element_colon element_text entry errno evict_part first_call first_part flush free_part global_part go_on gone_part history_head joined_numbers key_text known_by line_says lines_in list_named local_part lock_head lock_part look lookup_part marks name_part next_call next_part number numbers_to_end or_else own_part pair part_of phase_front phase_start probe probed put_part read_lines read_part read_text reply seen_part shrink side_word some_bytes spare_part steal_part step_part stolen stop_part stored_part strand_head strand_rest take_part taken_part the_line u32_text update_part value value_text visit walk_part walked_part lock_named encode_with decode_pairs digits
a_phase_lacks = refl

pub marked_not_ascending : Answers phased (codes "map hash capacity 1 elements 2 buckets 1\nrecord 3\nphase 0 0 marked 1 0\n") (Err 3)
unfolding attempt batch behind behind_digits blank_numbers bucket_part bytes count_done cpu_text cursor_part delete_part digits_of done_part element_colon element_text entry errno evict_part first_call first_part flush free_part global_part go_on gone_part history_head joined_numbers key_text known_by line_says lines_in list_named local_part lock_head lock_part look lookup_part marks name_part next_call next_part number numbers_to_end or_else own_part pair part_of phase_front phase_start probe probed put_part read_lines read_part read_text reply seen_part shrink side_word some_bytes spare_part steal_part step_part stolen stop_part stored_part strand_head strand_rest take_part taken_part the_line u32_text update_part value value_text visit walk_part walked_part lock_named encode_with decode_pairs digits
marked_not_ascending = refl

pub phases_fall : Answers phased (codes "map hash capacity 1 elements 2 buckets 1\nrecord 3\nphase 0 0 marked\nphase 1 0 marked 0 1\nstrand 1 0 0\nstrand 0 0 0\n") (Err 6)
unfolding attempt batch behind behind_digits blank_numbers bucket_part bytes count_done cpu_text cursor_part delete_part digits_of done_part element_colon element_text entry errno evict_part first_call first_part flush free_part global_part go_on gone_part history_head joined_numbers key_text known_by line_says lines_in list_named local_part lock_head lock_part look lookup_part marks name_part next_call next_part number numbers_to_end or_else own_part pair part_of phase_front phase_start probe probed put_part read_lines read_part read_text reply seen_part shrink side_word some_bytes spare_part steal_part step_part stolen stop_part stored_part strand_head strand_rest take_part taken_part the_line u32_text update_part value value_text visit walk_part walked_part lock_named encode_with decode_pairs digits
phases_fall = refl

pub strand_without_phase : Answers phased (codes "map hash capacity 1 elements 2 buckets 1\nrecord 3\nphase 0 0 marked\nphase 1 0 marked\nstrand 0 0\n") (Err 5)
unfolding attempt batch behind behind_digits blank_numbers bucket_part bytes count_done cpu_text cursor_part delete_part digits_of done_part element_colon element_text entry errno evict_part first_call first_part flush free_part global_part go_on gone_part history_head joined_numbers key_text known_by line_says lines_in list_named local_part lock_head lock_part look lookup_part marks name_part next_call next_part number numbers_to_end or_else own_part pair part_of phase_front phase_start probe probed put_part read_lines read_part read_text reply seen_part shrink side_word some_bytes spare_part steal_part step_part stolen stop_part stored_part strand_head strand_rest take_part taken_part the_line u32_text update_part value value_text visit walk_part walked_part lock_named encode_with decode_pairs digits
strand_without_phase = refl

-- `map percpu_hash key 1 value 1 max 1 cpus 1` and `0 syslookup 01`; the same HASH and `0 update any 01 a1`
abbrev padded : Script
padded = record {
  version = 1;
  attr = record { kind = PercpuHash; key_size = 1; value_size = 1; max_entries = 1; flags = 0; seed = 0; cpus = 1 };
  shape = record { kind = PercpuHash; cpus = 1; capacity = 1; elements = 1; buckets = 1; key_size = 1; value_size = 1; seed = 0; common = false };
  calls = (record { cpu = 0; verb = Lookup Sys (1 ∷ []) }) ∷ [];
  cuts = [];
  spec = None;
  target = None;
}

abbrev updated : Script
updated = with_calls ((record { cpu = 0; verb = Update Prog 0 (1 ∷ []) (161 ∷ []) }) ∷ [])

pub padding_with_a_bit : Answers padded (codes "map percpu_hash capacity 1 elements 1 buckets 1\n1 ok aa00000000000001\n") (Err 2)
unfolding attempt batch behind behind_digits blank_numbers bucket_part bytes count_done cpu_text cursor_part delete_part digits_of done_part element_colon element_text entry errno evict_part first_call first_part flush free_part global_part go_on gone_part history_head joined_numbers key_text known_by line_says lines_in list_named local_part lock_head lock_part look lookup_part marks name_part next_call next_part number numbers_to_end or_else own_part pair part_of phase_front phase_start probe probed put_part read_lines read_part read_text reply seen_part shrink side_word some_bytes spare_part steal_part step_part stolen stop_part stored_part strand_head strand_rest take_part taken_part the_line u32_text update_part value value_text visit walk_part walked_part lock_named encode_with decode_pairs digits
padding_with_a_bit = refl

pub padding_of_zeros : Answers padded (codes "map percpu_hash capacity 1 elements 1 buckets 1\n1 ok aa00000000000000\n") (Err 3)
unfolding attempt batch behind behind_digits blank_numbers bucket_part bytes count_done cpu_text cursor_part delete_part digits_of done_part element_colon element_text entry errno evict_part first_call first_part flush free_part global_part go_on gone_part history_head joined_numbers key_text known_by line_says lines_in list_named local_part lock_head lock_part look lookup_part marks name_part next_call next_part number numbers_to_end or_else own_part pair part_of phase_front phase_start probe probed put_part read_lines read_part read_text reply seen_part shrink side_word some_bytes spare_part steal_part step_part stolen stop_part stored_part strand_head strand_rest take_part taken_part the_line u32_text update_part value value_text visit walk_part walked_part lock_named encode_with decode_pairs digits
padding_of_zeros = refl

pub value_of_an_update : Answers updated (codes "map hash capacity 1 elements 2 buckets 1\n1 ok 0102\n") (Err 3)
unfolding attempt batch behind behind_digits blank_numbers bucket_part bytes count_done cpu_text cursor_part delete_part digits_of done_part element_colon element_text entry errno evict_part first_call first_part flush free_part global_part go_on gone_part history_head joined_numbers key_text known_by line_says lines_in list_named local_part lock_head lock_part look lookup_part marks name_part next_call next_part number numbers_to_end or_else own_part pair part_of phase_front phase_start probe probed put_part read_lines read_part read_text reply seen_part shrink side_word some_bytes spare_part steal_part step_part stolen stop_part stored_part strand_head strand_rest take_part taken_part the_line u32_text update_part value value_text visit walk_part walked_part lock_named encode_with decode_pairs digits
value_of_an_update = refl

pub empty_value_of_an_update : Answers updated (codes "map hash capacity 1 elements 2 buckets 1\n1 ok \n") (Err 2)
unfolding attempt batch behind behind_digits blank_numbers bucket_part bytes count_done cpu_text cursor_part delete_part digits_of done_part element_colon element_text entry errno evict_part first_call first_part flush free_part global_part go_on gone_part history_head joined_numbers key_text known_by line_says lines_in list_named local_part lock_head lock_part look lookup_part marks name_part next_call next_part number numbers_to_end or_else own_part pair part_of phase_front phase_start probe probed put_part read_lines read_part read_text reply seen_part shrink side_word some_bytes spare_part steal_part step_part stolen stop_part stored_part strand_head strand_rest take_part taken_part the_line u32_text update_part value value_text visit walk_part walked_part lock_named encode_with decode_pairs digits
empty_value_of_an_update = refl

pub half_a_byte : Answers updated (codes "map hash capacity 1 elements 2 buckets 1\n1 ok 010\n") (Err 2)
unfolding attempt batch behind behind_digits blank_numbers bucket_part bytes count_done cpu_text cursor_part delete_part digits_of done_part element_colon element_text entry errno evict_part first_call first_part flush free_part global_part go_on gone_part history_head joined_numbers key_text known_by line_says lines_in list_named local_part lock_head lock_part look lookup_part marks name_part next_call next_part number numbers_to_end or_else own_part pair part_of phase_front phase_start probe probed put_part read_lines read_part read_text reply seen_part shrink side_word some_bytes spare_part steal_part step_part stolen stop_part stored_part strand_head strand_rest take_part taken_part the_line u32_text update_part value value_text visit walk_part walked_part lock_named encode_with decode_pairs digits
half_a_byte = refl

-- the pairs of a walk over all elements have values as a program reads them, those of a batch as the system call does
abbrev walked : Script
walked = record {
  version = 2;
  attr = record { kind = PercpuHash; key_size = 1; value_size = 1; max_entries = 1; flags = 0; seed = 0; cpus = 1 };
  shape = record { kind = PercpuHash; cpus = 1; capacity = 1; elements = 1; buckets = 1; key_size = 1; value_size = 1; seed = 0; common = false };
  calls = (record { cpu = 0; verb = Each 0 None }) ∷ [];
  cuts = [];
  spec = None;
  target = None;
}

abbrev in_batch : Script
in_batch = record {
  version = 2;
  attr = record { kind = PercpuHash; key_size = 1; value_size = 1; max_entries = 1; flags = 0; seed = 0; cpus = 1 };
  shape = record { kind = PercpuHash; cpus = 1; capacity = 1; elements = 1; buckets = 1; key_size = 1; value_size = 1; seed = 0; common = false };
  calls = (record { cpu = 0; verb = BatchRead false 1 None 0 }) ∷ [];
  cuts = [];
  spec = None;
  target = None;
}

pub walk_hands_over : Answers walked (codes "map percpu_hash capacity 1 elements 1 buckets 1\n1 ok taken 1 next 1 01=aa\n") (Err 3)
unfolding attempt batch behind behind_digits blank_numbers bucket_part bytes count_done cpu_text cursor_part delete_part digits_of done_part element_colon element_text entry errno evict_part first_call first_part flush free_part global_part go_on gone_part history_head joined_numbers key_text known_by line_says lines_in list_named local_part lock_head lock_part look lookup_part marks name_part next_call next_part number numbers_to_end or_else own_part pair part_of phase_front phase_start probe probed put_part read_lines read_part read_text reply seen_part shrink side_word some_bytes spare_part steal_part step_part stolen stop_part stored_part strand_head strand_rest take_part taken_part the_line u32_text update_part value value_text visit walk_part walked_part lock_named encode_with decode_pairs digits
walk_hands_over = refl

pub walk_pads_nothing : Answers walked (codes "map percpu_hash capacity 1 elements 1 buckets 1\n1 ok taken 1 next 1 01=aa00000000000000\n") (Err 2)
unfolding attempt batch behind behind_digits blank_numbers bucket_part bytes count_done cpu_text cursor_part delete_part digits_of done_part element_colon element_text entry errno evict_part first_call first_part flush free_part global_part go_on gone_part history_head joined_numbers key_text known_by line_says lines_in list_named local_part lock_head lock_part look lookup_part marks name_part next_call next_part number numbers_to_end or_else own_part pair part_of phase_front phase_start probe probed put_part read_lines read_part read_text reply seen_part shrink side_word some_bytes spare_part steal_part step_part stolen stop_part stored_part strand_head strand_rest take_part taken_part the_line u32_text update_part value value_text visit walk_part walked_part lock_named encode_with decode_pairs digits
walk_pads_nothing = refl

pub batch_hands_over_nothing : Answers in_batch (codes "map percpu_hash capacity 1 elements 1 buckets 1\n1 ok taken 1 next 1 01=aa\n") (Err 2)
unfolding attempt batch behind behind_digits blank_numbers bucket_part bytes count_done cpu_text cursor_part delete_part digits_of done_part element_colon element_text entry errno evict_part first_call first_part flush free_part global_part go_on gone_part history_head joined_numbers key_text known_by line_says lines_in list_named local_part lock_head lock_part look lookup_part marks name_part next_call next_part number numbers_to_end or_else own_part pair part_of phase_front phase_start probe probed put_part read_lines read_part read_text reply seen_part shrink side_word some_bytes spare_part steal_part step_part stolen stop_part stored_part strand_head strand_rest take_part taken_part the_line u32_text update_part value value_text visit walk_part walked_part lock_named encode_with decode_pairs digits
batch_hands_over_nothing = refl

pub batch_pads : Answers in_batch (codes "map percpu_hash capacity 1 elements 1 buckets 1\n1 ok taken 1 next 1 01=aa00000000000000\n") (Err 3)
unfolding attempt batch behind behind_digits blank_numbers bucket_part bytes count_done cpu_text cursor_part delete_part digits_of done_part element_colon element_text entry errno evict_part first_call first_part flush free_part global_part go_on gone_part history_head joined_numbers key_text known_by line_says lines_in list_named local_part lock_head lock_part look lookup_part marks name_part next_call next_part number numbers_to_end or_else own_part pair part_of phase_front phase_start probe probed put_part read_lines read_part read_text reply seen_part shrink side_word some_bytes spare_part steal_part step_part stolen stop_part stored_part strand_head strand_rest take_part taken_part the_line u32_text update_part value value_text visit walk_part walked_part lock_named encode_with decode_pairs digits
batch_pads = refl
