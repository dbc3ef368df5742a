-- Reports of examples, which are read back; of some the dump is made up.
use Rattle.std.proofs.Common.{◌≡◌, ℕ, Bool, true, false, [], ◌∷◌, None, Result, Ok, Err, refl}
use Rattle.std.specs.Prelude.{codes}
use Rattle.map_types.specs.declared.call.Verb.TheVariants.{Lookup, Update, Delete, Next, Each}
use Rattle.map_types.specs.declared.kind.MapKind.TheVariants.{Hash, PercpuHash, LruHash}
use Rattle.map_types.specs.declared.kind.Side.TheVariants.{Prog, Sys}
use Rattle.hex.specs.Hex.{encode_with, decode_pairs}
use Rattle.std.specs.Fmt.{digits}
use Rattle.map_script.specs.declared.script.Script.{Script}
use Rattle.map_report.specs.declared.record.RunRecord.{RunRecord}
use Rattle.place_words.specs.Locks.{lock_named}
use Rattle.record_reading.specs.BucketReaders.{bucket_part, cpu_text, delete_part, element_colon, element_text, evict_part, first_call, first_part, free_part, gone_part, key_text, lookup_part, next_call, next_part, put_part, read_part, seen_part, side_word, take_part, taken_part, u32_text, update_part, value, value_text, walk_part, walked_part}
use Rattle.record_reading.specs.DumpReaders.{cursor_part, list_named, spare_part, steal_part, stored_part}
use Rattle.record_reading.specs.LineReaders.{entry, joined_numbers, lock_head, lock_part, marks, name_part, part_of, phase_front, phase_start, step_part, strand_head, strand_rest}
use Rattle.record_reading.specs.ListReaders.{attempt, done_part, flush, global_part, local_part, look, own_part, probe, probed, shrink, stolen, visit}
use Rattle.record_reading.specs.ReadRecord.{read_text}
use Rattle.record_reading.specs.Readers.{behind, behind_digits, blank_numbers, bytes, digits_of, number, numbers_to_end, or_else, some_bytes, the_line}
use Rattle.record_reading.specs.RecordReaders.{history_head, read_lines}
use Rattle.record_reading.specs.ReplyReaders.{batch, count_done, errno, pair, reply, stop_part}
use Rattle.record_reading.specs.Sections.{go_on, known_by, line_says}
use Rattle.record_reading.specs.TextLines.{lines_in}

abbrev is_read : Result RunRecord ℕ → Bool
is_read (Ok kept) = true
is_read (Err n) = false

abbrev script_evicted : Script
script_evicted = record {
  version = 1;
  attr = record { kind = LruHash; key_size = 1; value_size = 1; max_entries = 4; flags = 2; seed = 0; cpus = 1 };
  shape = record { kind = LruHash; cpus = 1; capacity = 4; elements = 4; buckets = 4; key_size = 1; value_size = 1; seed = 0; common = false };
  calls = (record { cpu = 0; verb = Update Prog 0 (1 ∷ []) (0 ∷ []) }) ∷ (record { cpu = 0; verb = Update Prog 0 (2 ∷ []) (0 ∷ []) }) ∷ (record { cpu = 0; verb = Update Prog 0 (3 ∷ []) (0 ∷ []) }) ∷ (record { cpu = 0; verb = Update Prog 0 (4 ∷ []) (0 ∷ []) }) ∷ (record { cpu = 0; verb = Lookup Prog (1 ∷ []) }) ∷ (record { cpu = 0; verb = Lookup Sys (2 ∷ []) }) ∷ (record { cpu = 0; verb = Update Prog 0 (5 ∷ []) (0 ∷ []) }) ∷ (record { cpu = 0; verb = Lookup Prog (1 ∷ []) }) ∷ (record { cpu = 0; verb = Lookup Prog (2 ∷ []) }) ∷ (record { cpu = 0; verb = Lookup Prog (5 ∷ []) }) ∷ [];
  cuts = [];
  spec = None;
  target = None;
}

pub evicted : is_read (read_text script_evicted (codes "map lru_hash capacity 4 elements 4 buckets 4\n1 ok\n2 ok\n3 ok\n4 ok\n5 ok a1\n6 ok a2\n7 ok\n8 ok a1\n9 enoent\n10 ok a5\nrecord 2\nlock lru 0 5\n0 0 1 turn 04ec883b active 0 inactive 0 shrink no got 3\n2 0 2 turn df8eb2bb active 0 inactive 1 3:0 shrink no got 2\n4 0 3 turn bb60a9ce active 0 inactive 2 3:0 2:0 shrink no got 1\n6 0 4 turn 1d78dbc2 active 0 inactive 3 3:0 2:0 1:0 shrink no got 0\n13 0 7 turn 34994c6b active 0 inactive 4 3:1 2:0 1:0 0:0 shrink 4 3 2:0:r 1:0:r 0:0:r forced 0 got 0\nlock bucket 2 4\n5 0 3 update prog 0 03 a3 offer 1 added 1\n7 0 4 update prog 0 04 a4 offer 0 added 0\n11 0 7 evict 1 removed\n12 0 7 evict 0 removed\nlock bucket 3 9\n1 0 1 update prog 0 01 a1 offer 3 added 3\n3 0 2 update prog 0 02 a2 offer 2 added 2\n8 0 5 lookup prog 01 got 3 a1\n9 0 6 lookup sys 02 got 2 a2\n10 0 7 evict 2 removed\n14 0 7 update prog 0 05 a5 offer 0 added 0\n15 0 8 lookup prog 01 got 3 a1\n16 0 9 lookup prog 02 none\n17 0 10 lookup prog 05 got 0 a5\nstrand 0 18\nat lru 0 0\nat bucket 3 0\nat lru 0 1\nat bucket 3 1\nat lru 0 2\nat bucket 2 0\nat lru 0 3\nat bucket 2 1\nat bucket 3 2\nat bucket 3 3\nat bucket 3 4\nat bucket 2 2\nat bucket 2 3\nat lru 0 4\nat bucket 3 5\nat bucket 3 6\nat bucket 3 7\nat bucket 3 8\nbucket 3 0 05 a5\nbucket 3 3 01 a1\nlru 0 active 3\nlru 0 inactive 0\nlru 0 free 1 2\nlru 0 cursor -\nmarked 0 3\nend\n")) ≡ true
unfolding attempt batch behind behind_digits blank_numbers bucket_part bytes count_done cpu_text cursor_part delete_part digits_of done_part element_colon element_text entry errno evict_part first_call first_part flush free_part global_part go_on gone_part history_head joined_numbers key_text known_by line_says lines_in list_named local_part lock_head lock_part look lookup_part marks name_part next_call next_part number numbers_to_end or_else own_part pair part_of phase_front phase_start probe probed put_part read_lines read_part read_text reply seen_part shrink side_word some_bytes spare_part steal_part step_part stolen stop_part stored_part strand_head strand_rest take_part taken_part the_line u32_text update_part value value_text visit walk_part walked_part lock_named encode_with decode_pairs digits
evicted = refl

abbrev script_looked_up : Script
script_looked_up = record {
  version = 1;
  attr = record { kind = LruHash; key_size = 1; value_size = 1; max_entries = 2; flags = 0; seed = 0; cpus = 2 };
  shape = record { kind = LruHash; cpus = 2; capacity = 2; elements = 2; buckets = 2; key_size = 1; value_size = 1; seed = 0; common = true };
  calls = (record { cpu = 0; verb = Update Prog 0 (1 ∷ []) (0 ∷ []) }) ∷ (record { cpu = 1; verb = Update Prog 0 (2 ∷ []) (0 ∷ []) }) ∷ (record { cpu = 0; verb = Lookup Prog (1 ∷ []) }) ∷ (record { cpu = 0; verb = Update Prog 0 (3 ∷ []) (0 ∷ []) }) ∷ (record { cpu = 0; verb = Lookup Prog (1 ∷ []) }) ∷ (record { cpu = 1; verb = Lookup Prog (2 ∷ []) }) ∷ [];
  cuts = [];
  spec = None;
  target = None;
}

pub looked_up : is_read (read_text script_looked_up (codes "map lru_hash capacity 2 elements 2 buckets 2\n1 ok\n2 ok\n3 ok a1\n4 ok\n5 enoent\n6 ok b2\nrecord 2\nlock local 0 3\n1 0 1 refill 04ec883b flush 0 gain 2 1 0 got 0\n6 1 2 steal free 1 first 0 second 0\n12 0 4 refill bb60a9ce flush 1 0:1 gain 1 0 got 0\nlock local 1 3\n4 1 2 refill df8eb2bb flush 0 gain 0 got -\n5 1 2 steal none first 0 second 0\n7 1 2 add df8eb2bb 1 cursor 1\nlock global 3\n0 0 1 turn flush 0 active 0 inactive 0 free 2 1 0 shrink 126 0 forced 0\n3 1 2 turn flush 0 active 0 inactive 0 free 0 shrink 128 0 forced 0\n11 0 4 turn flush 1 0:04ec883b:1 active 1 0:0 inactive 1 0:0 free 0 shrink 128 1 0:0:r forced 0\nlock bucket 0 1\n13 0 4 update prog 0 03 c3 offer 0 added 0\nlock bucket 1 6\n2 0 1 update prog 0 01 a1 offer 0 added 0\n8 1 2 update prog 0 02 b2 offer 1 added 1\n9 0 3 lookup prog 01 got 0 a1\n10 0 4 evict 0 removed\n14 0 5 lookup prog 01 none\n15 1 6 lookup prog 02 got 1 b2\nstrand 0,1 16\nat global 0\nat local 0 0\nat bucket 1 0\nat global 1\nat local 1 0\nat local 1 1\nat local 0 1\nat local 1 2\nat bucket 1 1\nat bucket 1 2\nat bucket 1 3\nat global 2\nat local 0 2\nat bucket 0 0\nat bucket 1 4\nat bucket 1 5\nbucket 0 0 03 c3\nbucket 1 1 02 b2\nglobal active\nglobal inactive\nglobal free\nglobal cursor -\nlocal 0 free\nlocal 0 pending 0\nlocal 0 steal 0\nlocal 1 free\nlocal 1 pending 1\nlocal 1 steal 1\nmarked 1\nend\n")) ≡ true
unfolding attempt batch behind behind_digits blank_numbers bucket_part bytes count_done cpu_text cursor_part delete_part digits_of done_part element_colon element_text entry errno evict_part first_call first_part flush free_part global_part go_on gone_part history_head joined_numbers key_text known_by line_says lines_in list_named local_part lock_head lock_part look lookup_part marks name_part next_call next_part number numbers_to_end or_else own_part pair part_of phase_front phase_start probe probed put_part read_lines read_part read_text reply seen_part shrink side_word some_bytes spare_part steal_part step_part stolen stop_part stored_part strand_head strand_rest take_part taken_part the_line u32_text update_part value value_text visit walk_part walked_part lock_named encode_with decode_pairs digits
looked_up = refl

abbrev script_order : Script
script_order = record {
  version = 2;
  attr = record { kind = Hash; key_size = 1; value_size = 1; max_entries = 1; flags = 0; seed = 0; cpus = 2 };
  shape = record { kind = Hash; cpus = 2; capacity = 1; elements = 3; buckets = 1; key_size = 1; value_size = 1; seed = 0; common = false };
  calls = (record { cpu = 0; verb = Update Prog 0 (1 ∷ []) (0 ∷ []) }) ∷ (record { cpu = 1; verb = Update Prog 0 (2 ∷ []) (0 ∷ []) }) ∷ [];
  cuts = 1 ∷ [];
  spec = None;
  target = None;
}

pub order : is_read (read_text script_order (codes "map hash capacity 1 elements 3 buckets 1\n1 ok\n2 e2big\nrecord 3\nlock bucket 0 2\n2 0 1 update prog 0 01 a1 offer - added 2\n5 1 2 update prog 0 02 b2 offer - full\nlock freelist 0 2\n0 0 1 empty\n4 1 2 empty\nlock freelist 1 2\n1 0 1 pop 2\n3 1 2 empty\nphase 0 0 marked\nphase 1 3 marked\nstrand 0 0,1 3\nat freelist 0 0\nat freelist 1 0\nat bucket 0 0\nstrand 1 0,1 3\nat freelist 1 1\nat freelist 0 1\nat bucket 0 1\nbucket 0 2 01 a1\nfreelist 0\nfreelist 1\nspare 0 1\nspare 1 0\nend\n")) ≡ true
unfolding attempt batch behind behind_digits blank_numbers bucket_part bytes count_done cpu_text cursor_part delete_part digits_of done_part element_colon element_text entry errno evict_part first_call first_part flush free_part global_part go_on gone_part history_head joined_numbers key_text known_by line_says lines_in list_named local_part lock_head lock_part look lookup_part marks name_part next_call next_part number numbers_to_end or_else own_part pair part_of phase_front phase_start probe probed put_part read_lines read_part read_text reply seen_part shrink side_word some_bytes spare_part steal_part step_part stolen stop_part stored_part strand_head strand_rest take_part taken_part the_line u32_text update_part value value_text visit walk_part walked_part lock_named encode_with decode_pairs digits
order = refl

abbrev script_two_cpus : Script
script_two_cpus = record {
  version = 1;
  attr = record { kind = PercpuHash; key_size = 1; value_size = 1; max_entries = 2; flags = 0; seed = 0; cpus = 2 };
  shape = record { kind = PercpuHash; cpus = 2; capacity = 2; elements = 2; buckets = 2; key_size = 1; value_size = 1; seed = 0; common = false };
  calls = (record { cpu = 0; verb = Update Prog 0 (1 ∷ []) (0 ∷ []) }) ∷ (record { cpu = 1; verb = Update Prog 0 (3 ∷ []) (0 ∷ []) }) ∷ (record { cpu = 0; verb = Lookup Prog (1 ∷ []) }) ∷ (record { cpu = 1; verb = Delete (3 ∷ []) }) ∷ [];
  cuts = [];
  spec = None;
  target = None;
}

pub two_cpus : is_read (read_text script_two_cpus (codes "map percpu_hash capacity 2 elements 2 buckets 2\n1 ok\n2 ok\n3 ok a1\n4 ok\nrecord 2\nlock bucket 0 2\n3 1 2 update prog 0 03 b1 offer - added 1\n6 1 4 delete 03 gone 1\nlock bucket 1 2\n1 0 1 update prog 0 01 a1 offer - added 0\n4 0 3 lookup prog 01 got 0 a1\nlock freelist 0 1\n0 0 1 pop 0\nlock freelist 1 2\n2 1 2 pop 1\n5 1 4 push 1\nstrand 0 3\nat freelist 0 0\nat bucket 1 0\nat bucket 1 1\nstrand 1 4\nat freelist 1 0\nat bucket 0 0\nat freelist 1 1\nat bucket 0 1\nbucket 1 0 01 a1 00\nfreelist 0\nfreelist 1 1\nend\n")) ≡ true
unfolding attempt batch behind behind_digits blank_numbers bucket_part bytes count_done cpu_text cursor_part delete_part digits_of done_part element_colon element_text entry errno evict_part first_call first_part flush free_part global_part go_on gone_part history_head joined_numbers key_text known_by line_says lines_in list_named local_part lock_head lock_part look lookup_part marks name_part next_call next_part number numbers_to_end or_else own_part pair part_of phase_front phase_start probe probed put_part read_lines read_part read_text reply seen_part shrink side_word some_bytes spare_part steal_part step_part stolen stop_part stored_part strand_head strand_rest take_part taken_part the_line u32_text update_part value value_text visit walk_part walked_part lock_named encode_with decode_pairs digits
two_cpus = refl

abbrev script_exist : Script
script_exist = record {
  version = 1;
  attr = record { kind = LruHash; key_size = 1; value_size = 1; max_entries = 1; flags = 0; seed = 0; cpus = 1 };
  shape = record { kind = LruHash; cpus = 1; capacity = 1; elements = 1; buckets = 1; key_size = 1; value_size = 1; seed = 0; common = true };
  calls = (record { cpu = 0; verb = Update Prog 0 (1 ∷ []) (0 ∷ []) }) ∷ (record { cpu = 0; verb = Update Prog 0 (1 ∷ []) (0 ∷ []) }) ∷ (record { cpu = 0; verb = Lookup Prog (1 ∷ []) }) ∷ [];
  cuts = [];
  spec = None;
  target = None;
}

pub exist : is_read (read_text script_exist (codes "map lru_hash capacity 1 elements 1 buckets 1\n1 ok\n2 enoent\n3 enoent\nrecord 2\nlock local 0 3\n1 0 1 refill 04ec883b flush 0 gain 1 0 got 0\n5 0 2 refill 04ec883b flush 1 0:0 gain 1 0 got 0\n7 0 2 push 0 done\nlock global 2\n0 0 1 turn flush 0 active 0 inactive 0 free 1 0 shrink 127 0 forced 0\n4 0 2 turn flush 1 0:04ec883b:0 active 0 inactive 1 0:0 free 0 shrink 128 1 0:0:r forced 0\nlock bucket 0 4\n2 0 1 update prog 0 01 a1 offer 0 added 0\n3 0 2 evict 0 removed\n6 0 2 update prog 2 01 b1 offer 0 absent\n8 0 3 lookup prog 01 none\nstrand 0 9\nat global 0\nat local 0 0\nat bucket 0 0\nat bucket 0 1\nat global 1\nat local 0 1\nat bucket 0 2\nat local 0 2\nat bucket 0 3\nglobal active\nglobal inactive\nglobal free\nglobal cursor -\nlocal 0 free 0\nlocal 0 pending\nlocal 0 steal 0\nmarked\nend\n")) ≡ true
unfolding attempt batch behind behind_digits blank_numbers bucket_part bytes count_done cpu_text cursor_part delete_part digits_of done_part element_colon element_text entry errno evict_part first_call first_part flush free_part global_part go_on gone_part history_head joined_numbers key_text known_by line_says lines_in list_named local_part lock_head lock_part look lookup_part marks name_part next_call next_part number numbers_to_end or_else own_part pair part_of phase_front phase_start probe probed put_part read_lines read_part read_text reply seen_part shrink side_word some_bytes spare_part steal_part step_part stolen stop_part stored_part strand_head strand_rest take_part taken_part the_line u32_text update_part value value_text visit walk_part walked_part lock_named encode_with decode_pairs digits
exist = refl

abbrev script_forced : Script
script_forced = record {
  version = 1;
  attr = record { kind = LruHash; key_size = 1; value_size = 1; max_entries = 9; flags = 2; seed = 0; cpus = 1 };
  shape = record { kind = LruHash; cpus = 1; capacity = 9; elements = 9; buckets = 16; key_size = 1; value_size = 1; seed = 0; common = false };
  calls = (record { cpu = 0; verb = Update Prog 0 (1 ∷ []) (0 ∷ []) }) ∷ (record { cpu = 0; verb = Update Prog 0 (2 ∷ []) (0 ∷ []) }) ∷ (record { cpu = 0; verb = Update Prog 0 (3 ∷ []) (0 ∷ []) }) ∷ (record { cpu = 0; verb = Update Prog 0 (4 ∷ []) (0 ∷ []) }) ∷ (record { cpu = 0; verb = Update Prog 0 (5 ∷ []) (0 ∷ []) }) ∷ (record { cpu = 0; verb = Update Prog 0 (6 ∷ []) (0 ∷ []) }) ∷ (record { cpu = 0; verb = Update Prog 0 (7 ∷ []) (0 ∷ []) }) ∷ (record { cpu = 0; verb = Update Prog 0 (8 ∷ []) (0 ∷ []) }) ∷ (record { cpu = 0; verb = Update Prog 0 (9 ∷ []) (0 ∷ []) }) ∷ (record { cpu = 0; verb = Lookup Prog (1 ∷ []) }) ∷ (record { cpu = 0; verb = Lookup Prog (2 ∷ []) }) ∷ (record { cpu = 0; verb = Lookup Prog (3 ∷ []) }) ∷ (record { cpu = 0; verb = Lookup Prog (4 ∷ []) }) ∷ (record { cpu = 0; verb = Lookup Prog (5 ∷ []) }) ∷ (record { cpu = 0; verb = Lookup Prog (6 ∷ []) }) ∷ (record { cpu = 0; verb = Lookup Prog (7 ∷ []) }) ∷ (record { cpu = 0; verb = Lookup Prog (8 ∷ []) }) ∷ (record { cpu = 0; verb = Lookup Prog (9 ∷ []) }) ∷ (record { cpu = 0; verb = Update Prog 0 (10 ∷ []) (0 ∷ []) }) ∷ (record { cpu = 0; verb = Lookup Prog (9 ∷ []) }) ∷ (record { cpu = 0; verb = Lookup Prog (1 ∷ []) }) ∷ [];
  cuts = [];
  spec = None;
  target = None;
}

pub forced : is_read (read_text script_forced (codes "map lru_hash capacity 9 elements 9 buckets 16\n1 ok\n2 ok\n3 ok\n4 ok\n5 ok\n6 ok\n7 ok\n8 ok\n9 ok\n10 ok a1\n11 ok a2\n12 ok a3\n13 ok a4\n14 ok a5\n15 ok a6\n16 ok a7\n17 ok a8\n18 ok a9\n19 ok\n20 enoent\n21 ok a1\nrecord 2\nlock lru 0 10\n0 0 1 turn 04ec883b active 0 inactive 0 shrink no got 8\n2 0 2 turn df8eb2bb active 0 inactive 1 8:0 shrink no got 7\n4 0 3 turn bb60a9ce active 0 inactive 2 8:0 7:0 shrink no got 6\n6 0 4 turn 1d78dbc2 active 0 inactive 3 8:0 7:0 6:0 shrink no got 5\n8 0 5 turn 34994c6b active 0 inactive 4 8:0 7:0 6:0 5:0 shrink no got 4\n10 0 6 turn 1769376a active 0 inactive 4 8:0 7:0 6:0 5:0 shrink no got 3\n12 0 7 turn a46f3a98 active 0 inactive 4 4:0 3:0 8:0 7:0 shrink no got 2\n14 0 8 turn 95f54241 active 0 inactive 4 6:0 5:0 4:0 3:0 shrink no got 1\n16 0 9 turn 033a823e active 0 inactive 4 2:0 1:0 8:0 7:0 shrink no got 0\n28 0 19 turn 06ea41b7 active 0 inactive 4 6:1 5:1 4:1 3:1 shrink 4 4 8:1 7:1 2:1 1:1 forced 1 0:r got 0\nlock bucket 1 2\n15 0 8 update prog 0 08 a8 offer 1 added 1\n25 0 17 lookup prog 08 got 1 a8\nlock bucket 2 2\n7 0 4 update prog 0 04 a4 offer 5 added 5\n21 0 13 lookup prog 04 got 5 a4\nlock bucket 7 1\n29 0 19 update prog 0 0a aa offer 0 added 0\nlock bucket 8 2\n13 0 7 update prog 0 07 a7 offer 2 added 2\n24 0 16 lookup prog 07 got 2 a7\nlock bucket 10 2\n11 0 6 update prog 0 06 a6 offer 3 added 3\n23 0 15 lookup prog 06 got 3 a6\nlock bucket 11 7\n1 0 1 update prog 0 01 a1 offer 8 added 8\n3 0 2 update prog 0 02 a2 offer 7 added 7\n9 0 5 update prog 0 05 a5 offer 4 added 4\n18 0 10 lookup prog 01 got 8 a1\n19 0 11 lookup prog 02 got 7 a2\n22 0 14 lookup prog 05 got 4 a5\n31 0 21 lookup prog 01 got 8 a1\nlock bucket 14 6\n5 0 3 update prog 0 03 a3 offer 6 added 6\n17 0 9 update prog 0 09 a9 offer 0 added 0\n20 0 12 lookup prog 03 got 6 a3\n26 0 18 lookup prog 09 got 0 a9\n27 0 19 evict 0 removed\n30 0 20 lookup prog 09 none\nstrand 0 32\nat lru 0 0\nat bucket 11 0\nat lru 0 1\nat bucket 11 1\nat lru 0 2\nat bucket 14 0\nat lru 0 3\nat bucket 2 0\nat lru 0 4\nat bucket 11 2\nat lru 0 5\nat bucket 10 0\nat lru 0 6\nat bucket 8 0\nat lru 0 7\nat bucket 1 0\nat lru 0 8\nat bucket 14 1\nat bucket 11 3\nat bucket 11 4\nat bucket 14 2\nat bucket 2 1\nat bucket 11 5\nat bucket 10 1\nat bucket 8 1\nat bucket 1 1\nat bucket 14 3\nat bucket 14 4\nat lru 0 9\nat bucket 7 0\nat bucket 14 5\nat bucket 11 6\nbucket 3 0 0a aa\nlru 0 active 8 7\nlru 0 inactive 0\nlru 0 free\nlru 0 cursor 3\nmarked 0 8\nend\n")) ≡ true
unfolding attempt batch behind behind_digits blank_numbers bucket_part bytes count_done cpu_text cursor_part delete_part digits_of done_part element_colon element_text entry errno evict_part first_call first_part flush free_part global_part go_on gone_part history_head joined_numbers key_text known_by line_says lines_in list_named local_part lock_head lock_part look lookup_part marks name_part next_call next_part number numbers_to_end or_else own_part pair part_of phase_front phase_start probe probed put_part read_lines read_part read_text reply seen_part shrink side_word some_bytes spare_part steal_part step_part stolen stop_part stored_part strand_head strand_rest take_part taken_part the_line u32_text update_part value value_text visit walk_part walked_part lock_named encode_with decode_pairs digits
forced = refl

abbrev script_told_gone : Script
script_told_gone = record {
  version = 1;
  attr = record { kind = LruHash; key_size = 1; value_size = 1; max_entries = 2; flags = 2; seed = 0; cpus = 2 };
  shape = record { kind = LruHash; cpus = 2; capacity = 2; elements = 2; buckets = 2; key_size = 1; value_size = 1; seed = 0; common = false };
  calls = (record { cpu = 1; verb = Update Prog 0 (1 ∷ []) (0 ∷ []) }) ∷ (record { cpu = 0; verb = Delete (1 ∷ []) }) ∷ [];
  cuts = [];
  spec = None;
  target = None;
}

pub told_gone : is_read (read_text script_told_gone (codes "map lru_hash capacity 2 elements 2 buckets 2\n1 ok\n2 ok\nrecord 2\nlock lru 1 2\n0 1 1 turn 04ec883b active 0 inactive 0 shrink no got 1\n3 0 2 push 1\nlock bucket 1 2\n1 1 1 update prog 0 01 a1 offer 1 added 1\n2 0 2 delete 01 gone 1\nstrand 0 2\nat bucket 1 1\nat lru 1 1\nstrand 1 2\nat lru 1 0\nat bucket 1 0\nlru 0 active\nlru 0 inactive\nlru 0 free 0\nlru 0 cursor -\nlru 1 active\nlru 1 inactive\nlru 1 free 1\nlru 1 cursor -\nmarked\nend\n")) ≡ true
unfolding attempt batch behind behind_digits blank_numbers bucket_part bytes count_done cpu_text cursor_part delete_part digits_of done_part element_colon element_text entry errno evict_part first_call first_part flush free_part global_part go_on gone_part history_head joined_numbers key_text known_by line_says lines_in list_named local_part lock_head lock_part look lookup_part marks name_part next_call next_part number numbers_to_end or_else own_part pair part_of phase_front phase_start probe probed put_part read_lines read_part read_text reply seen_part shrink side_word some_bytes spare_part steal_part step_part stolen stop_part stored_part strand_head strand_rest take_part taken_part the_line u32_text update_part value value_text visit walk_part walked_part lock_named encode_with decode_pairs digits
told_gone = refl

abbrev script_walk : Script
script_walk = record {
  version = 1;
  attr = record { kind = Hash; key_size = 1; value_size = 1; max_entries = 4; flags = 0; seed = 0; cpus = 2 };
  shape = record { kind = Hash; cpus = 2; capacity = 4; elements = 6; buckets = 4; key_size = 1; value_size = 1; seed = 0; common = false };
  calls = (record { cpu = 0; verb = Update Prog 0 (1 ∷ []) (0 ∷ []) }) ∷ (record { cpu = 0; verb = Update Prog 0 (2 ∷ []) (0 ∷ []) }) ∷ (record { cpu = 0; verb = Update Prog 0 (3 ∷ []) (0 ∷ []) }) ∷ (record { cpu = 0; verb = Update Prog 0 (4 ∷ []) (0 ∷ []) }) ∷ (record { cpu = 0; verb = Next None }) ∷ (record { cpu = 0; verb = Next None }) ∷ (record { cpu = 1; verb = Delete (3 ∷ []) }) ∷ (record { cpu = 0; verb = Next None }) ∷ (record { cpu = 0; verb = Next None }) ∷ (record { cpu = 0; verb = Next None }) ∷ (record { cpu = 0; verb = Next None }) ∷ [];
  cuts = [];
  spec = None;
  target = None;
}

pub walk : is_read (read_text script_walk (codes "map hash capacity 4 elements 6 buckets 4\n1 ok\n2 ok\n3 ok\n4 ok\n5 ok 04\n6 ok 03\n7 ok\n8 ok 04\n9 ok 02\n10 ok 01\n11 enoent\nrecord 2\nlock bucket 0 2\n11 0 5 first none\n18 0 8 first none\nlock bucket 1 2\n12 0 5 first none\n19 0 8 first none\nlock bucket 2 8\n7 0 3 update prog 0 03 a3 offer - added 4\n10 0 4 update prog 0 04 a4 offer - added 3\n13 0 5 first key 04\n14 0 6 next 04 key 03\n16 1 7 delete 03 gone 4\n17 0 8 next 03 absent\n20 0 8 first key 04\n21 0 9 next 04 last\nlock bucket 3 5\n1 0 1 update prog 0 01 a1 offer - added 0\n4 0 2 update prog 0 02 a2 offer - added 5\n22 0 9 first key 02\n23 0 10 next 02 key 01\n24 0 11 next 01 last\nlock freelist 0 4\n0 0 1 pop 0\n2 0 2 empty\n5 0 3 empty\n8 0 4 empty\nlock freelist 1 4\n3 0 2 pop 5\n6 0 3 pop 4\n9 0 4 pop 3\n15 1 7 push 4\nstrand 0,1 25\nat freelist 0 0\nat bucket 3 0\nat freelist 0 1\nat freelist 1 0\nat bucket 3 1\nat freelist 0 2\nat freelist 1 1\nat bucket 2 0\nat freelist 0 3\nat freelist 1 2\nat bucket 2 1\nat bucket 0 0\nat bucket 1 0\nat bucket 2 2\nat bucket 2 3\nat freelist 1 3\nat bucket 2 4\nat bucket 2 5\nat bucket 0 1\nat bucket 1 1\nat bucket 2 6\nat bucket 2 7\nat bucket 3 2\nat bucket 3 3\nat bucket 3 4\nbucket 2 3 04 a4\nfreelist 0 4 0\nfreelist 1 2\nspare 0 1\nspare 1 5\nend\n")) ≡ true
unfolding attempt batch behind behind_digits blank_numbers bucket_part bytes count_done cpu_text cursor_part delete_part digits_of done_part element_colon element_text entry errno evict_part first_call first_part flush free_part global_part go_on gone_part history_head joined_numbers key_text known_by line_says lines_in list_named local_part lock_head lock_part look lookup_part marks name_part next_call next_part number numbers_to_end or_else own_part pair part_of phase_front phase_start probe probed put_part read_lines read_part read_text reply seen_part shrink side_word some_bytes spare_part steal_part step_part stolen stop_part stored_part strand_head strand_rest take_part taken_part the_line u32_text update_part value value_text visit walk_part walked_part lock_named encode_with decode_pairs digits
walk = refl

abbrev script_each : Script
script_each = record {
  version = 2;
  attr = record { kind = PercpuHash; key_size = 1; value_size = 1; max_entries = 4; flags = 0; seed = 0; cpus = 2 };
  shape = record { kind = PercpuHash; cpus = 2; capacity = 4; elements = 4; buckets = 4; key_size = 1; value_size = 1; seed = 0; common = false };
  calls = (record { cpu = 0; verb = Update Prog 0 (1 ∷ []) (5 ∷ []) }) ∷ (record { cpu = 0; verb = Update Prog 0 (3 ∷ []) (1 ∷ []) }) ∷ (record { cpu = 1; verb = Update Prog 0 (1 ∷ []) (7 ∷ []) }) ∷ (record { cpu = 1; verb = Update Prog 0 (2 ∷ []) (2 ∷ []) }) ∷ (record { cpu = 0; verb = Each 0 None }) ∷ (record { cpu = 1; verb = Each 0 None }) ∷ [];
  cuts = 4 ∷ [];
  spec = None;
  target = None;
}

pub each : is_read (read_text script_each (codes "map percpu_hash capacity 4 elements 4 buckets 4\n1 ok\n2 ok\n3 ok\n4 ok\n5 ok taken 3 next 4 03=01 02=00 01=05\n6 ok taken 3 next 4 03=00 02=02 01=07\nrecord 3\nlock bucket 0 2\n7 0 5 walk keep 4 taken 0\n11 1 6 walk keep 4 taken 0\nlock bucket 1 2\n8 0 5 walk keep 4 taken 0\n12 1 6 walk keep 4 taken 0\nlock bucket 2 3\n3 0 2 update prog 0 03 01 offer - added 0\n9 0 5 walk keep 4 taken 1 0:03=01000000000000000000000000000000\n13 1 6 walk keep 4 taken 1 0:03=01000000000000000000000000000000\nlock bucket 3 5\n1 0 1 update prog 0 01 05 offer - added 1\n4 1 3 update prog 0 01 07 offer - written 1\n6 1 4 update prog 0 02 02 offer - added 3\n10 0 5 walk keep 3 taken 2 3:02=00000000000000000200000000000000 1:01=05000000000000000700000000000000\n14 1 6 walk keep 3 taken 2 3:02=00000000000000000200000000000000 1:01=05000000000000000700000000000000\nlock freelist 0 2\n0 0 1 pop 1\n2 0 2 pop 0\nlock freelist 1 1\n5 1 4 pop 3\nphase 0 0 marked\nphase 1 7 marked\nstrand 0 0,1 7\nat freelist 0 0\nat bucket 3 0\nat freelist 0 1\nat bucket 2 0\nat bucket 3 1\nat freelist 1 0\nat bucket 3 2\nstrand 1 0,1 8\nat bucket 0 0\nat bucket 1 0\nat bucket 2 1\nat bucket 3 3\nat bucket 0 1\nat bucket 1 1\nat bucket 2 2\nat bucket 3 4\nbucket 2 0 03 01 00\nbucket 3 3 02 00 02\nbucket 3 1 01 05 07\nfreelist 0\nfreelist 1 2\nend\n")) ≡ true
unfolding attempt batch behind behind_digits blank_numbers bucket_part bytes count_done cpu_text cursor_part delete_part digits_of done_part element_colon element_text entry errno evict_part first_call first_part flush free_part global_part go_on gone_part history_head joined_numbers key_text known_by line_says lines_in list_named local_part lock_head lock_part look lookup_part marks name_part next_call next_part number numbers_to_end or_else own_part pair part_of phase_front phase_start probe probed put_part read_lines read_part read_text reply seen_part shrink side_word some_bytes spare_part steal_part step_part stolen stop_part stored_part strand_head strand_rest take_part taken_part the_line u32_text update_part value value_text visit walk_part walked_part lock_named encode_with decode_pairs digits
each = refl
