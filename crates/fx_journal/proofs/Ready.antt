-- What the tests keep.
use Rattle.std.proofs.Common.{◌≡◌, ℕ, suc, zero, ◌+◌, ◌-◌, ◌^◌, ◌<◌, ◌≤◌, List, [], ◌∷◌, length, replicate, Option, None, refl, sym, ◌∙◌, ap, arith}
use Rattle.std.specs.Prelude.{sum_by}
use Rattle.std.proofs.lemmas.List.Sums.{sum_by-cons}
use Rattle.std.proofs.lemmas.List.{length-drop}
use Rattle.fx_super.specs.declared.superblock.TheConstants.{MIN_RING}
use Rattle.fx_pool.specs.Region.{Region, Run, IsSound, whole}
use Rattle.fx_journal.specs.Ring.{RingState, IsRing, KeepsBuffers, blocks_out, run_blocks, begun, padded, padded_by, without_before, freed_queued, want}
use Rattle.fx_journal.specs.Ready.{HasPool}

none_out : (n : ℕ) → sum_by run_blocks (replicate n None) ≡ 0
none_out zero = refl
none_out (suc n) = omega (arith, sum_by-cons run_blocks None (replicate n None), none_out n)

pub ready-at : (ring : RingState) (p : Region) → p ≡ whole 9 → IsSound p → IsRing ring → ring.size ≡ MIN_RING → ring.buffers ≡ [] → HasPool ring p
ready-at ring p e sound ok size none = record {
  ring_ok = ok;
  buffers = record {
    sound = sound;
    out = λ i lt. absurd (omega (arith, lt, ap length none));
    single = λ i lt. absurd (omega (arith, lt, ap length none));
    apart = λ i j less lt. absurd (omega (arith, lt, ap length none));
  };
  size = size;
  order = ap (λ (r : Region). r.order) e;
  out = ap (λ (r : Region). blocks_out r) e ∙ none_out (2 ^ 9) ∙ sym (ap length none);
}

pub ready-step : (r s : RingState) (p q : Region) → HasPool r p → IsRing s → KeepsBuffers s.buffers q → s.size ≡ r.size → q.order ≡ p.order → blocks_out q + length r.buffers ≡ blocks_out p + length s.buffers → HasPool s q
ready-step r s p q h ok kept size order out = record {
  ring_ok = ok;
  buffers = kept;
  size = size ∙ h.size;
  order = order ∙ h.order;
  out = omega (arith, h.out, out);
}

-- Promised blocks that came or went.
pub ready-promised : (r s : RingState) (p q : Region) (promised : ℕ) (more : List Run) → HasPool r p → IsRing s → KeepsBuffers s.buffers q → q.order ≡ p.order → s ≡ record r { promised = promised; buffers = more } → blocks_out q + r.promised ≡ blocks_out p + promised → HasPool s q
ready-promised r s p q promised more h ok kept order e out = ready-step r s p q h ok kept (ap (λ (x : RingState). x.size) e) order
    (omega (arith, out, h.ring_ok.buffers_len, ok.buffers_len, ap (λ (x : RingState). x.promised) e, ap (λ (x : RingState). x.queued) e, ap (λ (x : RingState). begun x.text) e))

padded_by-buffers : (r : RingState) (text : List ℕ) → (padded_by r text).buffers ≡ r.buffers
padded_by-buffers r [] = refl
padded_by-buffers r (x ∷ xs) = refl

padded_by-size : (r : RingState) (text : List ℕ) → (padded_by r text).size ≡ r.size
padded_by-size r [] = refl
padded_by-size r (x ∷ xs) = refl

pub ready-padded : (r s : RingState) (p q : Region) → HasPool r p → IsRing s → KeepsBuffers s.buffers q → q.order ≡ p.order → s ≡ padded r → q.out ≡ p.out → HasPool s q
ready-padded r s p q h ok kept order e out = ready-step r s p q h ok kept (ap (λ (x : RingState). x.size) e ∙ padded_by-size r r.text) order
    (omega (arith, ap (λ (t : List (Option ℕ)). sum_by run_blocks t) out, ap (λ (x : RingState). length x.buffers) e, ap length (padded_by-buffers r r.text)))

pub ready-freed : (r s : RingState) (p q : Region) (sequence : ℕ) → HasPool r p → IsRing s → KeepsBuffers s.buffers q → q.order ≡ p.order → s ≡ without_before r sequence → blocks_out q + freed_queued r sequence ≡ blocks_out p → HasPool s q
ready-freed r s p q sequence h ok kept order e out = ready-step r s p q h ok kept (ap (λ (x : RingState). x.size) e) order
    (omega (arith, out, ap (λ (x : RingState). length x.buffers) e, length-drop (freed_queued r sequence) r.buffers, h.ring_ok.buffers_len))

-- A reservation of at most 256 blocks is within the pool.
pub ready-room : (r : RingState) (p : Region) (bytes : ℕ) → HasPool r p → bytes < 1040384 → blocks_out p + want bytes ≤ 2 ^ p.order
ready-room r p bytes h few = omega (arith, h.out, h.ring_ok.buffers_len, h.ring_ok.own_places, h.ring_ok.waiting, h.size, few, ap (λ (k : ℕ). 2 ^ k) h.order)
