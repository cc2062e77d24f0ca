-- What a delivery does to the set of used cells: the cells of the packets that the run covers are free.
use Rattle.std.specs.Prelude.{◌≡◌, List, [], ◌∷◌, ◌++◌, ℕ, ◌+◌, ◌≤◌, length}
use Rattle.std.proofs.Common.{sym, subst, arith}
use Rattle.srt_group_model.specs.declared.Core.{Core}
use Rattle.srt_group_model.specs.declared.Packet.{Packet}
use Rattle.srt_group_model.specs.Tools.{each}
use Rattle.srt_group_model.specs.Delivery.{deliver_packet}
use Rattle.srt_group_model.specs.Sound.{pending_cells}
use Rattle.srt_group_model.specs.Laws.CellsMoved.{delivery_frees}
use Rattle.srt_group_tables.specs.Packets.{packet_at, packets_between}
use Rattle.srt_group_tables.specs.Covered.{Covers, packets_at}
use Rattle.srt_group_tables.specs.declared.pending.Covered.{Covered}
use Rattle.srt_group_tables.specs.Laws.PacketLaws.{each_append}
use Rattle.srt_group_tables.specs.Laws.Covered.{between_none, between_push, covered_are}
use Rattle.srt_group_shown.specs.Shown.{shown, nothing_sent}
use Rattle.cell_set.specs.Sets.{Freed}
use Rattle.cell_set.specs.Laws.Shows.{none_freed, freed_then}
use Rattle.cell_set.specs.Bits.{set_size}
use Rattle.srt_group_collecting.specs.Follows.{Follows}
use Rattle.srt_group_collecting.specs.Laws.Follows.{follows_freed}
use Rattle.srt_group_delivery.specs.Delivery.{Released, Delivered}

-- ---- a delivery

pub that_freed : {p q : Packet} {used next : List ℕ} → q ≡ p → Freed (q.content.cell ∷ []) used next → Freed (pending_cells (p ∷ [])) used next
unfolding each
that_freed {used = used} {next = next} same freed = subst (λ (x : Packet). Freed (x.content.cell ∷ []) used next) same freed

-- the cells of those from `from` up to `at` are free, and then that of the one there
pub freed_start : (words : List ℕ) (from : ℕ) (used : List ℕ) → length used ≡ set_size → Freed (pending_cells (packets_between from from words)) used used
unfolding each
freed_start words from used long =
    subst (λ (l : List Packet). Freed (pending_cells l) used used) (sym (between_none (packet_at words) from from (omega arith))) (none_freed used long)

pub freed_packets : (l m : List Packet) {used here next : List ℕ} → Freed (pending_cells l) used here → Freed (pending_cells m) here next
    → Freed (pending_cells (l ++ m)) used next
freed_packets l m {used} {here} {next} first second =
    subst (λ (cells : List ℕ). Freed cells used next) (sym (each_append (λ (p : Packet). p.content.cell) l m)) (freed_then first second)

pub freed_on : (words : List ℕ) (from at : ℕ) {used here next : List ℕ} → from ≤ at → Freed (pending_cells (packets_between from at words)) used here
    → Freed (pending_cells (packet_at words at ∷ [])) here next → Freed (pending_cells (packets_between from (at + 1) words)) used next
freed_on words from at {used} {here} {next} ordered so_far one =
    subst (λ (l : List Packet). Freed (pending_cells l) used next) (sym (between_push (packet_at words) from at ordered)) (freed_packets (packets_between from at words) (packet_at words at ∷ []) so_far one)

pub range_done : (words : List ℕ) (from at end : ℕ) {core after : Core} {ms ms' used used' : List ℕ} → at ≡ end
    → Released (packets_between from at words) core ms after ms' × Freed (pending_cells (packets_between from at words)) used used'
    → Released (packets_between from end words) core ms after ms' × Freed (pending_cells (packets_between from end words)) used used'
range_done words from at end {core} {after} {ms} {ms'} {used} {used'} ended =
    subst
    (λ (k : ℕ). Released (packets_between from k words) core ms after ms' × Freed (pending_cells (packets_between from k words)) used used')
    ended

pub delivered_and_freed : (base : ℕ) (p : Packet) (core : Core) (ms ps used : List ℕ) (after : Core) (ms' ps' used' : List ℕ) (places : Covered)
    → Delivered base p core ms ps after ms' ps' → Covers base p.content.count ps core.counts.pending places
    → Freed (pending_cells (packets_at places ps)) used used'
    → Delivered base p core ms ps after ms' ps' × Follows core ms ps used after ms' ps' used'
delivered_and_freed base p core ms ps used after ms' ps' used' places delivered covers freed = (
  delivered,
  follows_freed core after ms ps [] ms' ps' [] used used' nothing_sent (λ others. deliver_packet base p (shown core others ms ps []))
      (λ others same. (delivered.leaves []).state others)
      (subst (λ (l : List Packet). Freed (pending_cells l) used used') (sym (covered_are covers)) freed)
      (λ others. delivery_frees base p (shown core others ms ps [])),
)
