-- The ring's buffers over the steps of the pool.
use Rattle.std.proofs.Common.{◌≡◌, ◌≢◌, ℕ, suc, ◌+◌, ◌-◌, ◌*◌, ◌^◌, ◌<◌, ◌≤◌, List, [], ◌∷◌, ◌++◌, length, take, drop, get_or, Option, None, refl, sym, ◌∙◌, subst, ap, inl, inr, arith}
use Rattle.std.proofs.lemmas.Bool.{cases_lt}
use Rattle.std.proofs.lemmas.List.{take_all, take-take, get_or_append_left, get_or_push, get_or-drop, get_or-take, length-drop, length-take, length_push}
use Rattle.fx_pool.specs.Region.{Region, Run, IsSound, IsOut}
use Rattle.fx_journal.specs.Ring.{RingState, IsRing, run_at, KeepsBuffers, KeepsRest, KeepsRing, IsOther}
use Rattle.fx_journal.specs.Buffers.{TookBuffers, GaveBuffers}

-- one more buffer
at_front : (runs : List Run) (b : Run) (i : ℕ) → i < length runs → run_at (runs ++ b ∷ []) i ≡ run_at runs i
at_front runs b i lt = get_or_append_left runs (b ∷ []) (record { start = 0; order = 0 }) i lt

at_push : (runs : List Run) (b : Run) (i : ℕ) → length runs ≤ i → i < length (runs ++ b ∷ []) → run_at (runs ++ b ∷ []) i ≡ b
at_push runs b i ge lt = get_or_push runs b (record { start = 0; order = 0 }) i (omega (arith, length_push runs b))

pub kept-push : (runs : List Run) (b : Run) (old new : Region) → KeepsBuffers runs old → IsSound new → IsOut new b → b.order ≡ 0 → ((run : Run) → IsOut old run → IsOut new run) → ((run : Run) → IsOut old run → run.start ≢ b.start) → KeepsBuffers (runs ++ b ∷ []) new
kept-push runs b old new h sound out single still apart = record {
  sound = sound;
  out = λ i lt. elim (cases_lt i (length runs)) [
    | inl below ↦ subst (λ (r : Run). IsOut new r) (sym (at_front runs b i below)) (still (run_at runs i) (h.out i below))
    | inr past ↦ subst (λ (r : Run). IsOut new r) (sym (at_push runs b i past lt)) out
  ];
  single = λ i lt. elim (cases_lt i (length runs)) [
    | inl below ↦ ap (λ (r : Run). r.order) (at_front runs b i below) ∙ h.single i below
    | inr past ↦ ap (λ (r : Run). r.order) (at_push runs b i past lt) ∙ single
  ];
  apart = λ i j less lt e.
      let low : i < length runs = omega (arith, length_push runs b) in
      let first : (run_at (runs ++ b ∷ []) i).start ≡ (run_at runs i).start = ap (λ (r : Run). r.start) (at_front runs b i low) in
      elim (cases_lt j (length runs)) [
        | inl below ↦ h.apart i j less below (sym first ∙ e ∙ ap (λ (r : Run). r.start) (at_front runs b j below))
        | inr past ↦ apart (run_at runs i) (h.out i low) (sym first ∙ e ∙ ap (λ (r : Run). r.start) (at_push runs b j past lt))
      ];
}

-- without the first, and without the last
pub kept-first : (x : Run) (rest : List Run) (old new : Region) → KeepsBuffers (x ∷ rest) old → IsSound new → ((run : Run) → run.start ≢ x.start → IsOut old run → IsOut new run) → KeepsBuffers rest new
kept-first x rest old new h sound still = record {
  sound = sound;
  out = λ i lt. still (run_at rest i) (λ e. h.apart 0 (suc i) (omega arith) (omega arith) (sym e)) (h.out (suc i) (omega arith));
  single = λ i lt. h.single (suc i) (omega arith);
  apart = λ i j less lt e. h.apart (suc i) (suc j) (omega arith) (omega arith) e;
}

pub kept-last : (front : List Run) (x : Run) (old new : Region) → KeepsBuffers (front ++ x ∷ []) old → IsSound new → ((run : Run) → run.start ≢ x.start → IsOut old run → IsOut new run) → KeepsBuffers front new
kept-last front x old new h sound still =
    let more : length (front ++ x ∷ []) ≡ length front + 1 = length_push front x in
    let last : run_at (front ++ x ∷ []) (length front) ≡ x = get_or_push front x (record { start = 0; order = 0 }) (length front) refl in
    record {
      sound = sound;
      out = λ i lt. still (run_at front i)
          (λ e. h.apart i (length front) lt (omega arith) (ap (λ (r : Run). r.start) (at_front front x i lt) ∙ e ∙ sym (ap (λ (r : Run). r.start) last)))
          (subst (λ (r : Run). IsOut old r) (at_front front x i lt) (h.out i (omega arith)));
      single = λ i lt. sym (ap (λ (r : Run). r.order) (at_front front x i lt)) ∙ h.single i (omega arith);
      apart = λ i j less lt e. h.apart i j less (omega arith) (ap (λ (r : Run). r.start) (at_front front x i (omega arith)) ∙ e ∙ sym (ap (λ (r : Run). r.start) (at_front front x j lt)));
    }

-- where the same buffers are out
pub kept-same : (runs : List Run) (old new : Region) → KeepsBuffers runs old → IsSound new → new.out ≡ old.out → KeepsBuffers runs new
kept-same runs old new h sound e = record {
  sound = sound;
  out = λ i lt. ap (λ (t : List (Option ℕ)). get_or t (run_at runs i).start None) e ∙ h.out i lt;
  single = h.single;
  apart = h.apart;
}

-- a buffer that is given: the others stay
pub others-given : (own : List Run) (x : Run) (i : ℕ) (old new : Region) → i < length own → run_at own i ≡ x → new.order ≡ old.order → new.bytes ≡ old.bytes → ((run : Run) → run.start ≢ x.start → IsOut old run → IsOut new run) → KeepsRest own old new
others-given own x i old new lt e order bytes still = record {
  order = order;
  out = λ run out other. still run (λ same. other i lt (same ∙ sym (ap (λ (r : Run). r.start) e))) out;
  bytes = λ run out other. ap (λ (bs : List ℕ). take (4096 * (run.start + 2 ^ run.order) - 4096 * run.start) (drop (4096 * run.start) bs)) bytes;
}

other-drop : (own : List Run) (k : ℕ) (run : Run) → IsOther own run → IsOther (drop k own) run
other-drop own k run h = λ i lt e. h (k + i) (omega (arith, length-drop k own)) (e ∙ ap (λ (r : Run). r.start) (get_or-drop k own i (record { start = 0; order = 0 })))

other-take : (own : List Run) (k : ℕ) (run : Run) → IsOther own run → IsOther (take k own) run
other-take own k run h = λ i lt e. h i (omega (arith, length-take k own)) (e ∙ ap (λ (r : Run). r.start) (get_or-take k own i (record { start = 0; order = 0 }) (omega (arith, length-take k own))))

pub others-none : (own : List Run) (p : Region) → KeepsRest own p p
others-none own p = record { order = refl; out = λ run out other. out; bytes = λ run out other. refl }

-- a call that changes nothing
pub keeps-same : (ring : RingState) (p : Region) → IsRing ring → KeepsBuffers ring.buffers p → KeepsRing ring ring p p
keeps-same ring p is buffers = record { size = refl; epoch = refl; ring = is; buffers = buffers; others = others-none ring.buffers p }

others-then : (own later : List Run) (a b c : Region) → ((run : Run) → IsOther own run → IsOther later run) → KeepsRest own a b → KeepsRest later b c → KeepsRest own a c
others-then own later a b c less first second = record {
  order = second.order ∙ first.order;
  out = λ run out other. second.out run (first.out run out other) (less run other);
  bytes = λ run out other. second.bytes run (first.out run out other) (less run other) ∙ first.bytes run out other;
}

pub others-drop : (own : List Run) (k : ℕ) (a b c : Region) → KeepsRest own a b → KeepsRest (drop k own) b c → KeepsRest own a c
others-drop own k a b c first second = others-then own (drop k own) a b c (other-drop own k) first second

pub others-take : (own : List Run) (k : ℕ) (a b c : Region) → KeepsRest own a b → KeepsRest (take k own) b c → KeepsRest own a c
others-take own k a b c first second = others-then own (take k own) a b c (other-take own k) first second

pub others-same : (own : List Run) (a b c : Region) → KeepsRest own a b → KeepsRest own b c → KeepsRest own a c
others-same own a b c first second = others-then own own a b c (λ run other. other) first second

-- nothing that was out has changed
pub others-all : (own : List Run) (a b : Region) → b.order ≡ a.order → b.bytes ≡ a.bytes → ((run : Run) → IsOut a run → IsOut b run) → KeepsRest own a b
others-all own a b order bytes still = record {
  order = order;
  out = λ run out other. still run out;
  bytes = λ run out other. ap (λ (bs : List ℕ). take (4096 * (run.start + 2 ^ run.order) - 4096 * run.start) (drop (4096 * run.start) bs)) bytes;
}

-- the first and the last buffer
pub first-out : (own rest : List Run) (x : Run) (p : Region) → own ≡ x ∷ rest → KeepsBuffers own p → IsOut p x × (x.order ≡ 0)
first-out own rest x p e h =
    let k : KeepsBuffers (x ∷ rest) p = subst (λ (l : List Run). KeepsBuffers l p) e h in
    (k.out 0 (omega arith), k.single 0 (omega arith))

pub last-out : (own front : List Run) (x : Run) (p : Region) → own ≡ front ++ x ∷ [] → KeepsBuffers own p → IsOut p x × (x.order ≡ 0)
last-out own front x p e h =
    let k : KeepsBuffers (front ++ x ∷ []) p = subst (λ (l : List Run). KeepsBuffers l p) e h in
    let last : run_at (front ++ x ∷ []) (length front) ≡ x = get_or_push front x (record { start = 0; order = 0 }) (length front) refl in
    let within : length front < length (front ++ x ∷ []) = omega (arith, length_push front x) in
    (subst (λ (r : Run). IsOut p r) last (k.out (length front) within), sym (ap (λ (r : Run). r.order) last) ∙ k.single (length front) within)

-- So many buffers were taken, or given back, one after another.
pub took-none : (own : List Run) (p : Region) → KeepsBuffers own p → TookBuffers own own p p 0
took-none own p h = record {
  buffers = h;
  kept = take_all (length own) own (omega arith);
  len = omega arith;
  others = λ run out. out;
  bytes = refl;
  order = refl;
  counted = omega arith;
}

pub took-more : (own now more : List Run) (a b c : Region) (n : ℕ) → TookBuffers own now a b n → TookBuffers now more b c 1 → TookBuffers own more a c (n + 1)
took-more own now more a b c n h one = record {
  buffers = one.buffers;
  kept = sym (take-take (length own) (length now) more (omega (arith, h.len))) ∙ ap (λ (l : List Run). take (length own) l) one.kept ∙ h.kept;
  len = omega (arith, h.len, one.len);
  others = λ run out. one.others run (h.others run out);
  bytes = one.bytes ∙ h.bytes;
  order = one.order ∙ h.order;
  counted = omega (arith, h.counted, one.counted);
}

pub gave-none : (own : List Run) (p : Region) → KeepsBuffers own p → GaveBuffers own own p p 0
gave-none own p h = record { buffers = h; others = others-none own p; bytes = refl; counted = omega arith }

pub gave-first : (own now less : List Run) (a b c : Region) (n : ℕ) → now ≡ drop n own → GaveBuffers own now a b n → GaveBuffers now less b c 1 → GaveBuffers own less a c (n + 1)
gave-first own now less a b c n e h one = record {
  buffers = one.buffers;
  others = others-drop own n a b c h.others (subst (λ (l : List Run). KeepsRest l b c) e one.others);
  bytes = one.bytes ∙ h.bytes;
  counted = omega (arith, h.counted, one.counted);
}

pub gave-last : (own now less : List Run) (a b c : Region) (k n : ℕ) → now ≡ take k own → GaveBuffers own now a b n → GaveBuffers now less b c 1 → GaveBuffers own less a c (n + 1)
gave-last own now less a b c k n e h one = record {
  buffers = one.buffers;
  others = others-take own k a b c h.others (subst (λ (l : List Run). KeepsRest l b c) e one.others);
  bytes = one.bytes ∙ h.bytes;
  counted = omega (arith, h.counted, one.counted);
}
