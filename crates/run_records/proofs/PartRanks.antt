-- A turn of a history that replays has a part of its lock's rank.
use Rattle.std.proofs.Common.{◌≡◌, inl, inr, ℕ, List, [], ◌∷◌, refl, ◌∙◌, sym, subst}
use Rattle.map_types.specs.declared.attr.Shape.{Shape}
use Rattle.map_types.specs.declared.kind.DomainId.{DomainId}
use Rattle.map_types.specs.declared.kind.DomainId.TheVariants.{Local, Global, CpuLru, Bucket, Freelist}
use Rattle.place_words.specs.declared.history.Entry.{Entry}
use Rattle.place_words.specs.declared.history.Part.{Part}
use Rattle.place_words.specs.declared.history.Part.TheVariants as parts
use Rattle.place_words.specs.Histories.{Content, in_bucket, on_freelist, in_locals, in_global, in_own, content_after, Allows, opening_content, AllAllowed, IsLegal}
use Rattle.place_words.specs.Locks.{rank_of}
use Rattle.turn_order.proofs.Members.{IsAmong}

-- the rank of the locks under which a part may be done, and of those under which such contents lie
abbrev pub part_rank : Part → ℕ
part_rank (parts.Local part) = 1
part_rank (parts.Global part) = 2
part_rank (parts.Own part) = 2
part_rank (parts.Bucket part) = 3
part_rank (parts.Free part) = 4

abbrev content_rank : Content → ℕ
content_rank (in_locals lists) = 1
content_rank (in_global set) = 2
content_rank (in_own set) = 2
content_rank (in_bucket bodies) = 3
content_rank (on_freelist stack) = 4

allowed_rank : (shape : Shape) (cpu : ℕ) (part : Part) (content : Content) → Allows shape cpu part content → content_rank content ≡ part_rank part
allowed_rank shape cpu (parts.Bucket part) (in_bucket bodies) may = refl
allowed_rank shape cpu (parts.Bucket part) (on_freelist stack) may = absurd may
allowed_rank shape cpu (parts.Bucket part) (in_locals lists) may = absurd may
allowed_rank shape cpu (parts.Bucket part) (in_global set) may = absurd may
allowed_rank shape cpu (parts.Bucket part) (in_own set) may = absurd may
allowed_rank shape cpu (parts.Free part) (in_bucket bodies) may = absurd may
allowed_rank shape cpu (parts.Free part) (on_freelist stack) may = refl
allowed_rank shape cpu (parts.Free part) (in_locals lists) may = absurd may
allowed_rank shape cpu (parts.Free part) (in_global set) may = absurd may
allowed_rank shape cpu (parts.Free part) (in_own set) may = absurd may
allowed_rank shape cpu (parts.Local part) (in_bucket bodies) may = absurd may
allowed_rank shape cpu (parts.Local part) (on_freelist stack) may = absurd may
allowed_rank shape cpu (parts.Local part) (in_locals lists) may = refl
allowed_rank shape cpu (parts.Local part) (in_global set) may = absurd may
allowed_rank shape cpu (parts.Local part) (in_own set) may = absurd may
allowed_rank shape cpu (parts.Global part) (in_bucket bodies) may = absurd may
allowed_rank shape cpu (parts.Global part) (on_freelist stack) may = absurd may
allowed_rank shape cpu (parts.Global part) (in_locals lists) may = absurd may
allowed_rank shape cpu (parts.Global part) (in_global set) may = refl
allowed_rank shape cpu (parts.Global part) (in_own set) may = absurd may
allowed_rank shape cpu (parts.Own part) (in_bucket bodies) may = absurd may
allowed_rank shape cpu (parts.Own part) (on_freelist stack) may = absurd may
allowed_rank shape cpu (parts.Own part) (in_locals lists) may = absurd may
allowed_rank shape cpu (parts.Own part) (in_global set) may = absurd may
allowed_rank shape cpu (parts.Own part) (in_own set) may = refl

rank_after : (shape : Shape) (cpu : ℕ) (part : Part) (content : Content) → content_rank (content_after shape cpu part content) ≡ content_rank content
rank_after shape cpu (parts.Bucket part) (in_bucket bodies) = refl
rank_after shape cpu (parts.Bucket part) (on_freelist stack) = refl
rank_after shape cpu (parts.Bucket part) (in_locals lists) = refl
rank_after shape cpu (parts.Bucket part) (in_global set) = refl
rank_after shape cpu (parts.Bucket part) (in_own set) = refl
rank_after shape cpu (parts.Free part) (in_bucket bodies) = refl
rank_after shape cpu (parts.Free part) (on_freelist stack) = refl
rank_after shape cpu (parts.Free part) (in_locals lists) = refl
rank_after shape cpu (parts.Free part) (in_global set) = refl
rank_after shape cpu (parts.Free part) (in_own set) = refl
rank_after shape cpu (parts.Local part) (in_bucket bodies) = refl
rank_after shape cpu (parts.Local part) (on_freelist stack) = refl
rank_after shape cpu (parts.Local part) (in_locals lists) = refl
rank_after shape cpu (parts.Local part) (in_global set) = refl
rank_after shape cpu (parts.Local part) (in_own set) = refl
rank_after shape cpu (parts.Global part) (in_bucket bodies) = refl
rank_after shape cpu (parts.Global part) (on_freelist stack) = refl
rank_after shape cpu (parts.Global part) (in_locals lists) = refl
rank_after shape cpu (parts.Global part) (in_global set) = refl
rank_after shape cpu (parts.Global part) (in_own set) = refl
rank_after shape cpu (parts.Own part) (in_bucket bodies) = refl
rank_after shape cpu (parts.Own part) (on_freelist stack) = refl
rank_after shape cpu (parts.Own part) (in_locals lists) = refl
rank_after shape cpu (parts.Own part) (in_global set) = refl
rank_after shape cpu (parts.Own part) (in_own set) = refl

rank_first : (shape : Shape) (lock : DomainId) → content_rank (opening_content shape lock) ≡ rank_of lock
rank_first shape (Local cpu) = refl
rank_first shape Global = refl
rank_first shape (CpuLru cpu) = refl
rank_first shape (Bucket bucket) = refl
rank_first shape (Freelist cpu) = refl

ranks_on : (shape : Shape) (content : Content) (entries : List Entry) (entry : Entry) → AllAllowed shape content entries → IsAmong entry entries → part_rank entry.part ≡ content_rank content
unfolding AllAllowed
ranks_on shape content [] entry all at = absurd at
ranks_on shape content (first ∷ entries) entry all (inl same) = subst (λ (e : Entry). part_rank e.part ≡ content_rank content) same (sym (allowed_rank shape first.cpu first.part content all.0))
ranks_on shape content (first ∷ entries) entry all (inr later) =
    ranks_on shape (content_after shape first.cpu first.part content) entries entry all.1 later ∙ rank_after shape first.cpu first.part content

pub legal_rank : (shape : Shape) (lock : DomainId) (entries : List Entry) (entry : Entry) → IsLegal shape lock entries → IsAmong entry entries → rank_of lock ≡ part_rank entry.part
legal_rank shape lock entries entry legal at = sym (ranks_on shape (opening_content shape lock) entries entry legal at ∙ rank_first shape lock)
