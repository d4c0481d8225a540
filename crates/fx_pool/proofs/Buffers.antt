-- What follows for the buffers of a sound pool.
use Rattle.std.proofs.Common.{◌≡◌, ◌≢◌, ℕ, ◌+◌, ◌-◌, ◌*◌, ◌^◌, ◌<◌, ◌≤◌, List, ◌++◌, length, take, drop, refl, sym, ◌∙◌, ap, ◌⊎◌, inl, inr, arith}
use Rattle.std.proofs.lemmas.Bool.{cases_lt}
use Rattle.std.proofs.lemmas.List.{length-take, length-drop, length-append, take_all}
use Rattle.std.proofs.lemmas.Slice.{between_is, between-put_mid, take-put_mid_below, drop-put_mid}
use Rattle.std.specs.List.{slice_range}
use Rattle.fx_pool.specs.Region.{Region, Run, IsSound, IsOut, HasFree, Covers, Begins, bytes_of}
use Rattle.fx_pool.specs.Lending.{written_over, with_bytes}
use Rattle.fx_pool.proofs.Pools.{bytes-within}

-- two buffers that begin at different blocks have no block in common
pub buffers-apart : (p : Region) (r q : Run) → IsSound p → IsOut p r → IsOut p q → r.start ≢ q.start → (r.start + 2 ^ r.order ≤ q.start) ⊎ (q.start + 2 ^ q.order ≤ r.start)
buffers-apart p r q h a b ne = elim (cases_lt r.start q.start) [
  | inl lt ↦ inl (h.divided.tiling.apart r.start r.order q.start q.order (inr a) (inr b) lt)
  | inr ge ↦ inr (h.divided.tiling.apart q.start q.order r.start r.order (inr b) (inr a) (omega arith))
]

-- and no byte
pub bytes-apart : (p : Region) (r q : Run) → IsSound p → IsOut p r → IsOut p q → r.start ≢ q.start → (4096 * (r.start + 2 ^ r.order) ≤ 4096 * q.start) ⊎ (4096 * (q.start + 2 ^ q.order) ≤ 4096 * r.start)
bytes-apart p r q h a b ne = elim (buffers-apart p r q h a b ne) [
  | inl e ↦ inl (omega arith)
  | inr e ↦ inr (omega arith)
]

-- a block that lies in no buffer lies in a free run, so that a run of order 0 is to be had
pub HasFree-where : (p : Region) (b : ℕ) → IsSound p → b < 2 ^ p.order → ((r : Run) → IsOut p r → r.start ≤ b → b < r.start + 2 ^ r.order → ⊥) → HasFree p 0
HasFree-where p b h lt none =
    let w : Covers (Begins p.free p.out) b = h.divided.tiling.covered b lt in
    elim w.begins [
      | inl f ↦ record { start = w.start; order = w.order; at_least = omega arith; free = f }
      | inr o ↦ absurd (none (record { start = w.start; order = w.order }) o w.low w.high)
    ]

-- bytes with ws written_over over them, where there is room for ws
length-laid : (bytes : List ℕ) (a : ℕ) (ws : List ℕ) → a + length ws ≤ length bytes → length (take a bytes ++ (ws ++ drop (length ws) (drop a bytes))) ≡ length bytes
length-laid bytes a ws le = simp (length-append, length-take, length-drop) (omega arith)

written-within : (bytes : List ℕ) (a : ℕ) (ws : List ℕ) → a + length ws ≤ length bytes → written_over bytes a ws ≡ take a bytes ++ (ws ++ drop (length ws) (drop a bytes))
written-within bytes a ws le = take_all (length bytes) (take a bytes ++ (ws ++ drop (length ws) (drop a bytes))) (omega (arith, length-laid bytes a ws le))

pub length-written : (bytes : List ℕ) (a : ℕ) (ws : List ℕ) → length (written_over bytes a ws) ≡ length bytes
length-written bytes a ws = simp (length-take, length-append, length-drop) (omega arith)

range-written : (bytes : List ℕ) (a e : ℕ) (ws : List ℕ) → e ≤ length bytes → a ≤ e → length ws ≡ e - a → slice_range (written_over bytes a ws) a e ≡ ws
range-written bytes a e ws le lt len =
    ap (λ (l : List ℕ). slice_range l a e) (written-within bytes a ws (omega arith))
    ∙ between-put_mid a (length ws) bytes ws e (omega arith) len

range-below : (bytes : List ℕ) (a b e : ℕ) (ws : List ℕ) → a + length ws ≤ length bytes → e ≤ a → slice_range (written_over bytes a ws) b e ≡ slice_range bytes b e
range-below bytes a b e ws le lt =
    ap (λ (l : List ℕ). slice_range l b e) (written-within bytes a ws le)
    ∙ between_is (take a bytes ++ (ws ++ drop (length ws) (drop a bytes))) b e
    ∙ ap (λ (l : List ℕ). drop b l) (take-put_mid_below a (length ws) bytes ws e lt (omega arith))
    ∙ sym (between_is bytes b e)

range-above : (bytes : List ℕ) (a b e : ℕ) (ws : List ℕ) → a + length ws ≤ length bytes → a + length ws ≤ b → slice_range (written_over bytes a ws) b e ≡ slice_range bytes b e
range-above bytes a b e ws le ge =
    ap (λ (l : List ℕ). slice_range l b e) (written-within bytes a ws le)
    ∙ ap (λ (l : List ℕ). take (e - b) l) (drop-put_mid a (length ws) bytes ws b ge (omega arith) refl)

-- what is written_over to a buffer is what it holds
pub bytes-written : (p : Region) (r : Run) (ws : List ℕ) → IsSound p → IsOut p r → length ws ≡ 4096 * 2 ^ r.order → bytes_of (with_bytes p r ws) r ≡ ws
bytes-written p r ws h a len =
    let w : 4096 * (r.start + 2 ^ r.order) ≤ length p.bytes = bytes-within p.order p.free p.out p.bytes h r.start r.order a in
    range-written p.bytes (4096 * r.start) (4096 * (r.start + 2 ^ r.order)) ws w (omega arith) (omega arith)

-- and what the others hold stays
pub bytes-kept : (p : Region) (r q : Run) (ws : List ℕ) → IsSound p → IsOut p r → IsOut p q → q.start ≢ r.start → length ws ≡ 4096 * 2 ^ r.order → bytes_of (with_bytes p r ws) q ≡ bytes_of p q
bytes-kept p r q ws h a b ne len =
    let w : 4096 * (r.start + 2 ^ r.order) ≤ length p.bytes = bytes-within p.order p.free p.out p.bytes h r.start r.order a in
    let v : 4096 * r.start + length ws ≤ length p.bytes = omega arith in
    elim (bytes-apart p r q h a b (λ e. ne (sym e))) [
      | inl below ↦ range-above p.bytes (4096 * r.start) (4096 * q.start) (4096 * (q.start + 2 ^ q.order)) ws v (omega arith)
      | inr above ↦ range-below p.bytes (4096 * r.start) (4096 * q.start) (4096 * (q.start + 2 ^ q.order)) ws v above
    ]

-- and the region is sound
pub IsSound-written : (p : Region) (r : Run) (ws : List ℕ) → IsSound p → IsSound (with_bytes p r ws)
IsSound-written p r ws h = record {
  order_le = h.order_le;
  free_len = h.free_len;
  out_len = h.out_len;
  bytes_len = length-written p.bytes (4096 * r.start) ws ∙ h.bytes_len;
  divided = h.divided;
}
