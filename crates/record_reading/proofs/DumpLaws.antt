-- The laws of the lines of what a map holds.
use Rattle.std.proofs.Common.{◌≡◌, ℕ, ◌<◌, ◌^◌, List, [], ◌∷◌, ◌++◌, length, subst, Some, None, refl, arith, append_assoc}
use Rattle.std.specs.Prelude.{codes}
use Rattle.std.specs.List.{flat_map}
use Rattle.map_types.specs.declared.attr.Shape.{Shape}
use Rattle.map_types.specs.declared.kind.DomainId.TheVariants.{Local, Bucket, Freelist}
use Rattle.map_types.specs.Sides.{part_count}
use Rattle.map_report.specs.Dump.{stored_line, list_line, spare_line, cursor_line, set_lines, steal_line, local_lines}
use Rattle.map_report.specs.Words.{lock_name, number_text, bytes_text}
use Rattle.record_reading.specs.Readers.{Reader, after, bytes, times, whole, AllFit}
use Rattle.record_reading.specs.DumpReaders.{held_of, stored_part, list_named, freelist_section, spare_part, cursor_part, set_of, set_section, steal_part, local_of, local_section}
use Rattle.record_shape.specs.ShapedParts.{AreBytes, AreElements, LocalListsFit, OptionFits, SetFits, StoredFits}
use Rattle.record_reading.proofs.SectionLaws.{ReadsLine, Tells, NoStop, line_tells, next_tells}
use Rattle.record_reading.proofs.MadeLaws.{told_tells}
use Rattle.record_reading.proofs.Laws.{Stops, Reads, Opens, after_reads, both_reads, bytes_reads, times_back, times_right, option_reads}
use Rattle.record_reading.proofs.BucketLaws.{Small, u32_reads, element_reads, key_reads}
use Rattle.record_reading.proofs.LineLaws.{whole_reads}
use Rattle.record_reading.proofs.ListLaws.{blank_opens, made_reads}
use Rattle.record_reading.proofs.ToEndLaws.{word_then_reads, numbers_reads}

group_stored : (l e k v : List ℕ) → l ++ e ++ k ++ v ≡ l ++ (e ++ (k ++ v))
group_stored l e k v = simp append_assoc

-- so many
pub times_reads : {A : Type 0} {print : A → List ℕ} {Fits : A → Type 0} {read : Reader A} → Reads print Fits read → Opens print Fits → (n : ℕ) → Reads (flat_map print) (λ items. AllFit Fits items × (length items ≡ n)) (times n read)
times_reads {print = print} {read = read} reads opens n = record {
  back = λ items rest fits stops. subst (λ k. times k read (flat_map print items ++ rest) ≡ Some (items, rest)) fits.1 (times_back reads opens items rest fits.0 stops);
  right = λ text items rest h. let law = times_right reads opens n text items rest h in (law.0, (law.1, law.2));
}

values_open : (values : List (List ℕ)) (rest : List ℕ) → Stops rest → Stops (flat_map bytes_text values ++ rest)
values_open [] rest stops = stops
values_open (v ∷ values) rest stops = refl

module _ (shape : Shape) (small : Small shape) where
  value_parts : Reads (flat_map bytes_text) (λ values. AllFit (AreBytes shape.value_size) values × (length values ≡ part_count shape)) (times (part_count shape) (after (codes " ") (bytes shape.value_size)))
  value_parts = times_reads (after_reads (bytes_reads shape.value_size) (codes " ")) (blank_opens (λ a rest. refl)) (part_count shape)

  pub stored_reads : (bucket : ℕ) → ReadsLine (stored_line bucket) (StoredFits shape) (whole (stored_part shape bucket))
  unfolding stored_part
  stored_reads bucket =
      whole_reads
      (made_reads (after_reads (both_reads (element_reads shape small) (λ _. both_reads (key_reads shape small) (λ _. value_parts) (λ _. record { opens = λ a rest fits stops. values_open a rest stops })) (λ _. blank_opens (λ a rest. refl))) (lock_name (Bucket bucket)))
      held_of (λ stored. (stored.element, (stored.key, stored.values))) (λ stored. refl) (stored_line bucket) (StoredFits shape)
      (λ x. group_stored (lock_name (Bucket bucket)) (number_text x.0) (bytes_text x.1.0) (flat_map bytes_text x.1.1))
      (λ x fits. record { element = fits.0; key = fits.1.0; parts = fits.1.1.1; values = fits.1.1.0 }) (λ x fits. (fits.element, (fits.key, (fits.values, fits.parts)))))

  no_element : AreElements shape []
  no_element = tt

  pub list_reads : (name : List ℕ) → ReadsLine (λ elements. name ++ flat_map number_text elements) (AreElements shape) (list_named shape name)
  unfolding list_named
  list_reads name = word_then_reads (numbers_reads shape.elements small.elements) name

  pub freelist_tells : (cpu : ℕ) → Tells (λ elements. list_line (lock_name (Freelist cpu)) [] elements ∷ []) (AreElements shape) NoStop (freelist_section shape cpu)
  freelist_tells cpu = line_tells (list_reads (lock_name (Freelist cpu) ++ [])) ([], tt)

  pub spare_reads : (cpu : ℕ) → ReadsLine (spare_line cpu) (λ element. element < shape.elements) (spare_part shape cpu)
  unfolding spare_part
  spare_reads cpu = word_then_reads (whole_reads (element_reads shape small)) (codes "spare" ++ number_text cpu)

  pub cursor_reads : (name : List ℕ) → ReadsLine (cursor_line name) (OptionFits shape.elements) (cursor_part shape name)
  unfolding cursor_part
  cursor_reads name = word_then_reads (whole_reads (option_reads shape.elements small.elements)) (name ++ codes " cursor")

  pub steal_reads : (name : List ℕ) → ReadsLine (steal_line name) (λ steal. steal < 2 ^ 32) (steal_part name)
  unfolding steal_part
  steal_reads name = word_then_reads (whole_reads u32_reads) (name ++ codes " steal")

  pub set_tells : (name : List ℕ) → Tells (set_lines name) (SetFits shape) NoStop (set_section shape name)
  unfolding set_lines
  set_tells name =
      told_tells
      (next_tells (line_tells (list_reads (name ++ codes " active")) ([], tt)) (λ _ _. next_tells (line_tells (list_reads (name ++ codes " inactive")) ([], tt))
      (λ _ _. next_tells (line_tells (list_reads (name ++ codes " free")) ([], tt)) (λ _ _. line_tells (cursor_reads name) (None, tt)))))
      set_of (set_lines name) (SetFits shape) NoStop (λ set fits. ((set.active, (set.inactive, (set.free, set.cursor))), refl, (fits.active, (fits.inactive, (fits.free, fits.cursor)))))
      (λ x fits. refl) (λ x fits. record { active = fits.0; inactive = fits.1.0; free = fits.1.1.0; cursor = fits.1.1.1 }) (λ x rest fits stops. tt) (λ x rest fits stops. (tt, (tt, (tt, tt))))

  pub local_tells : (cpu : ℕ) → Tells (local_lines cpu) (LocalListsFit shape) NoStop (local_section shape cpu)
  local_tells cpu =
      told_tells
      (next_tells (line_tells (list_reads (lock_name (Local cpu) ++ codes " free")) ([], tt)) (λ _ _. next_tells (line_tells (list_reads (lock_name (Local cpu) ++ codes " pending")) ([], tt))
      (λ _ _. line_tells (steal_reads (lock_name (Local cpu))) (0, omega arith))))
      local_of (local_lines cpu) (LocalListsFit shape) NoStop (λ lists fits. ((lists.free, (lists.pending, lists.steal)), refl, (fits.free, (fits.pending, fits.steal))))
      (λ x fits. refl) (λ x fits. record { free = fits.0; pending = fits.1.0; steal = fits.1.1 }) (λ x rest fits stops. tt) (λ x rest fits stops. (tt, (tt, tt)))
